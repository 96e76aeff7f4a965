-- Laws of the reading.
use Rattle.std.specs.Prelude.{◌≡◌, ℕ, List}
use Rattle.c_token.specs.declared.token.Token.{Token}
use Rattle.c_token.specs.Reading.{IsTokenReading, IsStuck}

-- bytes have at most one reading
abbrev pub HasOneReading : Type 0
HasOneReading = (bytes : List ℕ) (ts us : List Token) → IsTokenReading bytes ts → IsTokenReading bytes us → ts ≡ us

-- bytes with a reading have no stuck place
abbrev pub IsReadOrStuck : Type 0
IsReadOrStuck = (bytes : List ℕ) (ts : List Token) (k : ℕ) → IsTokenReading bytes ts → IsStuck bytes k → ⊥

-- bytes have at most one stuck place
abbrev pub HasOneStuckPlace : Type 0
HasOneStuckPlace = (bytes : List ℕ) (j k : ℕ) → IsStuck bytes j → IsStuck bytes k → j ≡ k
