-- What stands at the front of some bytes.
use Rattle.std.specs.Prelude.{◌≡◌, ◌≢◌, ℕ, ◌<◌, ◌^◌, Bool, List, ◌∷◌, ◌++◌, length, drop, map, decimal}
use Rattle.std.specs.List.{All, prefix_len, take_while}
use Rattle.std.specs.Char.{is_ascii_digit}
use Rattle.zo_core.specs.Literals.{Literal}
use Rattle.conflict_proof.specs.declared.derivation.How.{How}
use Rattle.conflict_proof.specs.declared.derivation.Line.{Line}
use Rattle.conflict_proof.specs.Values.{IsClause, IsHow, IsLine}
use Rattle.line_texts.specs.Lines.{with_line_feeds}
use Rattle.conflict_proof.specs.Text.{literal_text, clause_text, numbers_text, how_text, line_text, end_text}

-- the bytes don't begin with a word
abbrev pub BeginsNot : List ℕ → List ℕ → Type 0
BeginsNot word bs = (rest : List ℕ) → bs ≡ word ++ rest → ⊥

-- the longest run of digits at the front
abbrev pub digit_run : List ℕ → List ℕ
digit_run bs = take_while is_ascii_digit bs

-- the bytes after it
abbrev pub after_digits : List ℕ → List ℕ
after_digits bs = drop (prefix_len is_ascii_digit bs) bs

-- no digit stands at the front
abbrev pub NoDigit : List ℕ → Type 0
NoDigit bs = prefix_len is_ascii_digit bs ≡ 0

-- the bytes spell no number of 64 bits
abbrev pub SpellsNone : List ℕ → Type 0
SpellsNone run = (n : ℕ) → n < 2 ^ 64 → run ≢ decimal n

-- Each of the following says of bytes what was read at their front, with the rest, or that it is not there.

abbrev pub NoNumbers : ℕ → List ℕ → Type 0
NoNumbers k bs = (ns more : List ℕ) → length ns ≡ k → All (λ n. n < 2 ^ 32) ns → NoDigit more → bs ≡ numbers_text ns ++ more → ⊥

pub record AreNumbers (bs ns rest : List ℕ) : Type 0 where
  pub text : bs ≡ numbers_text ns ++ rest
  pub small : All (λ n. n < 2 ^ 32) ns
  pub ends : 0 < length ns → NoDigit rest

abbrev pub NoNumber : ℕ → List ℕ → Type 0
NoNumber top bs = (n : ℕ) (more : List ℕ) → n < top → NoDigit more → bs ≡ decimal n ++ more → ⊥

pub record IsNumber (top : ℕ) (bs : List ℕ) (n : ℕ) (rest : List ℕ) : Type 0 where
  pub text : bs ≡ decimal n ++ rest
  pub small : n < top
  pub ends : NoDigit rest

abbrev pub NoField : List ℕ → Type 0
NoField bs = (n : ℕ) (more : List ℕ) → n < 2 ^ 32 → NoDigit more → bs ≡ 32 ∷ decimal n ++ more → ⊥

pub record IsField (bs : List ℕ) (n : ℕ) (rest : List ℕ) : Type 0 where
  pub text : bs ≡ 32 ∷ decimal n ++ rest
  pub small : n < 2 ^ 32
  pub ends : NoDigit rest

pub record IsLiteral (l : Literal) : Type 0 where
  pub some : 0 < l.var
  pub small : l.var < 2 ^ 31

abbrev pub NoUnknown : List ℕ → Type 0
NoUnknown bs = (n : ℕ) (more : List ℕ) → 0 < n → n < 2 ^ 31 → NoDigit more → bs ≡ decimal n ++ more → ⊥

pub record IsUnknown (bs : List ℕ) (sign : Bool) (l : Literal) (rest : List ℕ) : Type 0 where
  pub text : bs ≡ decimal l.var ++ rest
  pub signed : l.sign ≡ sign
  pub is : IsLiteral l
  pub ends : NoDigit rest

abbrev pub NoSigned : List ℕ → Type 0
NoSigned bs = (l : Literal) (more : List ℕ) → IsLiteral l → NoDigit more → bs ≡ literal_text l ++ more → ⊥

pub record IsSigned (bs : List ℕ) (l : Literal) (rest : List ℕ) : Type 0 where
  pub text : bs ≡ literal_text l ++ rest
  pub is : IsLiteral l
  pub ends : NoDigit rest

abbrev pub NoLiteral : List ℕ → Type 0
NoLiteral bs = (l : Literal) (more : List ℕ) → IsLiteral l → NoDigit more → bs ≡ 32 ∷ literal_text l ++ more → ⊥

pub record IsSpaced (bs : List ℕ) (l : Literal) (rest : List ℕ) : Type 0 where
  pub text : bs ≡ 32 ∷ literal_text l ++ rest
  pub is : IsLiteral l
  pub ends : NoDigit rest

-- no clause with a line feed after it
abbrev pub NoClause : List ℕ → Type 0
NoClause bs = (c : List Literal) (more : List ℕ) → IsClause c → bs ≡ clause_text c ++ 10 ∷ more → ⊥

pub record IsClauseLine (bs : List ℕ) (c : List Literal) (rest : List ℕ) : Type 0 where
  pub text : bs ≡ clause_text c ++ 10 ∷ rest
  pub is : IsClause c

abbrev pub NoHow : List ℕ → Type 0
NoHow bs = (group : ℕ) (how : How) (more : List ℕ) → group < 2 ^ 32 → IsHow how → NoDigit more → bs ≡ how_text group how ++ more → ⊥

pub record IsHowFront (bs : List ℕ) (group : ℕ) (how : How) (rest : List ℕ) : Type 0 where
  pub text : bs ≡ how_text group how ++ rest
  pub small : group < 2 ^ 32
  pub is : IsHow how
  pub ends : NoDigit rest

abbrev pub NoLine : List ℕ → Type 0
NoLine bs = (l : Line) (more : List ℕ) → IsLine l → bs ≡ line_text l ++ 10 ∷ more → ⊥

pub record IsLineFront (bs : List ℕ) (l : Line) (rest : List ℕ) : Type 0 where
  pub text : bs ≡ line_text l ++ 10 ∷ rest
  pub is : IsLine l

-- lines with their line feeds, and no further one after them
pub record AreLines (bs : List ℕ) (ls : List Line) (rest : List ℕ) : Type 0 where
  pub text : bs ≡ with_line_feeds (map line_text ls) ++ rest
  pub each : All IsLine ls
  pub ends : NoLine rest

abbrev pub NoEnd : ℕ → List ℕ → Type 0
NoEnd count bs = (more : List ℕ) → bs ≡ end_text count ++ 10 ∷ more → ⊥
