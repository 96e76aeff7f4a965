-- What is found in rows after a value is put to an argument.
use Rattle.std.proofs.Common.{◌≡◌, ap, Bool, true, false, List, [], ◌∷◌, ◌++◌, Option, Some, None, refl}
use Rattle.std.specs.Prelude.{option_and_then, option_map, unwrap_or, slice_get, find}
use Rattle.std.specs.Str.{bytes_eq}
use Rattle.std.proofs.lemmas.Slice.Eq.{bytes_eq-Decides}
use Rattle.clap.specs.Walk.{Row, Text, all_of, first_of, with_values, without, has_row}
use Rattle.clap.specs.declared.parser.matches.ValueSource.TheVariants.{CommandLine}
use Rattle.clap.specs.declared.builder.value_parser.Reading.{Reading}

abbrev pub put : Text → Reading → Text → List Row → List Row
put id how v rows = with_values id how CommandLine (v ∷ []) rows

pub put_here : (id : Text) (how : Reading) (v : Text) (rows : List Row) → bytes_eq id id ≡ true
    → all_of id (put id how v rows) ≡ Some (unwrap_or (all_of id rows) [] ++ v ∷ [])
put_here id how v [] same = rw same refl
put_here id how v (r ∷ rs) same = go (bytes_eq r.id id) refl (put_here id how v rs same)
  where
    go : (t : Bool) → bytes_eq r.id id ≡ t → all_of id (put id how v rs) ≡ Some (unwrap_or (all_of id rs) [] ++ v ∷ [])
        → all_of id (put id how v (r ∷ rs)) ≡ Some (unwrap_or (all_of id (r ∷ rs)) [] ++ v ∷ [])
    go true t rest = rw (t, t) refl
    go false t rest = rw (t, t) rest

pub put_there : (id other : Text) (how : Reading) (v : Text) (rows : List Row) → bytes_eq id other ≡ false
    → all_of other (put id how v rows) ≡ all_of other rows
put_there id other how v [] differ = rw differ refl
put_there id other how v (r ∷ rs) differ = go (bytes_eq r.id id) refl (bytes_eq r.id other) refl (put_there id other how v rs differ)
  where
    go : (t : Bool) → bytes_eq r.id id ≡ t → (u : Bool) → bytes_eq r.id other ≡ u → all_of other (put id how v rs) ≡ all_of other rs
        → all_of other (put id how v (r ∷ rs)) ≡ all_of other (r ∷ rs)
    go true t u is rest =
        let same : r.id ≡ id = (bytes_eq-Decides r.id id).0 t in
        let no : bytes_eq r.id other ≡ false = rw same differ in
        rw (t, no) refl
    go false t true is rest = rw (t, is) refl
    go false t false is rest = rw (t, is) rest

-- an argument that has no row
pub without_none : (id : Text) (rows : List Row) → all_of id rows ≡ None → without id rows ≡ rows
without_none id [] none = refl
without_none id (r ∷ rs) none = go (bytes_eq r.id id) refl (without_none id rs)
  where
    go : (t : Bool) → bytes_eq r.id id ≡ t → (all_of id rs ≡ None → without id rs ≡ rs) → without id (r ∷ rs) ≡ r ∷ rs
    go true t rest =
        let some : Some r.values ≡ None = rw t at none in
        cc
    go false t rest = rw t (ap (λ (xs : List Row). r ∷ xs) (rest (rw t at none)))

pub no_row : (id : Text) (rows : List Row) → all_of id rows ≡ None → has_row id rows ≡ false
no_row id [] none = refl
no_row id (r ∷ rs) none = go (bytes_eq r.id id) refl (no_row id rs)
  where
    go : (t : Bool) → bytes_eq r.id id ≡ t → (all_of id rs ≡ None → has_row id rs ≡ false) → has_row id (r ∷ rs) ≡ false
    go true t rest =
        let some : Some r.values ≡ None = rw t at none in
        cc
    go false t rest = rw t (rest (rw t at none))

pub first_all : (id : Text) (rows : List Row) → first_of id rows ≡ option_and_then (λ (vs : List Text). slice_get vs 0) (all_of id rows)
first_all id rows = go (find (λ r. bytes_eq r.id id) rows)
  where
    go : (o : Option Row) → option_and_then (λ (r : Row). slice_get r.values 0) o
        ≡ option_and_then (λ (vs : List Text). slice_get vs 0) (option_map (λ (r : Row). r.values) o)
    go None = refl
    go (Some r) = refl
