-- Names that stand once, and the places of the names of clauses.
use Rattle.std.proofs.Common.{◌≡◌, ℕ, zero, suc, ◌+◌, ◌<◌, List, [], ◌∷◌, ◌++◌, length, get_or, refl, sym, ap, ap₂, subst, ◌∙◌, arith}
use Rattle.std.proofs.lemmas.List.Elements.{All-head, All-tail, All-append, All-cons, All-nil}
use Rattle.zo_core.specs.Literals.{Literal}
use Rattle.conflict_proof.specs.declared.names.ConstraintName.{ConstraintName}
use Rattle.transfer_rules.specs.Table.{no_name, spread, ArePlaces, IsTable, IsSpread, IsGrown}
use Rattle.transfer_rules.proofs.NameLemmas.{map_append}
use Rattle.transfer_rules.proofs.TableLemmas.{table_more}

module _ (old new : List ConstraintName) (grown : IsGrown old new) where
  -- what stands at places stays there
  pub spread_same : (os : List ℕ) → ArePlaces old os → spread new os ≡ spread old os
  spread_same [] h = refl
  spread_same (i ∷ os) h =
      ap₂ (λ (n : ConstraintName) (ns : List ConstraintName). n ∷ ns) (grown.kept i (All-head (λ j. j < length old) i os h)) (spread_same os (All-tail (λ j. j < length old) i os h))

  pub places_same : (os : List ℕ) → ArePlaces old os → ArePlaces new os
  places_same os h k d lt = let a : get_or os k d < length old = h k d lt in let le = grown.longer in omega arith

  pub spread_more : (os : List ℕ) (i : ℕ) (n : ConstraintName) → ArePlaces old os → get_or new i no_name ≡ n → spread new (os ++ i ∷ []) ≡ spread old os ++ n ∷ []
  spread_more os i n h is =
      map_append (λ j. get_or new j no_name) os (i ∷ []) ∙ ap₂ (λ (xs ys : List ConstraintName). xs ++ ys) (spread_same os h) (ap (λ (m : ConstraintName). m ∷ []) is)

  pub places_more : (os : List ℕ) (i : ℕ) → ArePlaces old os → i < length new → ArePlaces new (os ++ i ∷ [])
  places_more os i h lt = All-append (λ j. j < length new) os (i ∷ []) (places_same os h) (All-cons (λ j. j < length new) i [] lt (All-nil (λ j. j < length new)))

  pub table_spread : (os es : List ℕ) (ls c : List Literal) (i last : ℕ) (n : ConstraintName) → IsSpread old os es ls → get_or new i no_name ≡ n → i < length new → last ≡ length ls + length c
      → IsSpread new (os ++ i ∷ []) (es ++ last ∷ []) (ls ++ c)
  table_spread os es ls c i last n t is lt size =
      record {
        places = places_more os i t.places lt;
        table = subst (λ (ns : List ConstraintName). IsTable ns (es ++ last ∷ []) (ls ++ c)) (sym (spread_more os i n t.places is)) (table_more (spread old os) es ls n c last t.table size);
      }

pub spread_at : (ns : List ConstraintName) (os : List ℕ) (k : ℕ) (d : ℕ) → k < length os → get_or (spread ns os) k no_name ≡ get_or ns (get_or os k d) no_name
spread_at ns [] k d lt = absurd (omega arith)
spread_at ns (i ∷ os) zero d lt = refl
spread_at ns (i ∷ os) (suc k) d lt = spread_at ns os k d (omega arith)

pub spread_length : (ns : List ConstraintName) (os : List ℕ) → length (spread ns os) ≡ length os
spread_length ns [] = refl
spread_length ns (i ∷ os) = ap suc (spread_length ns os)
