-- The slots of a new frame, one after the other.
use Rattle.std.proofs.Common.{◌≡◌, ℕ, zero, suc, ◌+◌, ◌<◌, List, [], ◌∷◌, ◌++◌, length, get_or, drop, refl, sym, ap, ◌∙◌, arith, add-one}
use Rattle.std.proofs.lemmas.List.{append_assoc, length_push}
use Rattle.std.specs.Prelude.{slice_get}
use Rattle.c_types.specs.declared.kinds.SlotType.{SlotType}
use Rattle.heap_meaning.specs.declared.values.Value.{Value}
use Rattle.heap_meaning.specs.Run.{passed}
use Rattle.heap_meaning.specs.Deeds.{argument_of}

drop_nil : (k : ℕ) → drop {A = ℕ} k [] ≡ []
drop_nil zero = refl
drop_nil (suc k) = refl

pub passed_step : (vs : List Value) (us : List ℕ) (ts : List SlotType) (k : ℕ) (t : SlotType) → k < length ts → t ≡ get_or ts k t
    → passed vs (drop k us) (drop k ts) ≡ argument_of vs (slice_get us k) t ∷ passed vs (drop (suc k) us) (drop (suc k) ts)
passed_step vs us [] k t lt at = absurd (omega arith)
passed_step vs [] (z ∷ ts) zero t lt at = refl
passed_step vs (u ∷ us) (z ∷ ts) zero t lt at = rw at refl
passed_step vs [] (z ∷ ts) (suc k) t lt at = rw (drop_nil k) at (passed_step vs [] ts k t (omega arith) at)
passed_step vs (u ∷ us) (z ∷ ts) (suc k) t lt at = passed_step vs us ts k t (omega arith) at

-- one more slot is filled
pub passed_more : (vs : List Value) (us : List ℕ) (ts : List SlotType) (k n : ℕ) (t : SlotType) (so_far more : List Value) (v : Value) → k < length ts → n ≡ k → more ≡ so_far ++ v ∷ []
    → v ≡ argument_of vs (slice_get us n) (get_or ts k t) → length so_far ≡ k → so_far ++ passed vs (drop k us) (drop k ts) ≡ passed vs us ts
    → (length more ≡ k + 1) × (more ++ passed vs (drop (k + 1) us) (drop (k + 1) ts) ≡ passed vs us ts)
passed_more vs us ts k n t so_far more v lt same pushed is long whole =
    let is' : v ≡ argument_of vs (slice_get us k) (get_or ts k t) = rw same at is in
    let step = passed_step vs us ts k (get_or ts k t) lt (default ts k lt) in (
      rw pushed (length_push so_far v) ∙ ap (λ (m : ℕ). m + 1) long,
      rw (pushed, append_assoc, add-one k) (ap (λ (ws : List Value). so_far ++ ws) (ap (λ (w : Value). w ∷ passed vs (drop (suc k) us) (drop (suc k) ts)) is' ∙ sym step) ∙ whole),
    )
  where
    default : (ts : List SlotType) (k : ℕ) → k < length ts → get_or ts k t ≡ get_or ts k (get_or ts k t)
    default [] k lt = absurd (omega arith)
    default (z ∷ ts) zero lt = refl
    default (z ∷ ts) (suc k) lt = default ts k (omega arith)
