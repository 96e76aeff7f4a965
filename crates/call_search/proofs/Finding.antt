-- Which instance answers.
use Rattle.std.proofs.Common.{◌≡◌, ℕ, zero, suc, ◌+◌, ◌<◌, ◌≤◌, inl, inr, Bool, true, false, MatchBool, List, [], ◌∷◌, Some, refl, sym, ap, ◌∙◌, subst, arith, length, get_or, slice_get}
use Rattle.std.specs.Cmp.Lexicographic.{pointwise}
use Rattle.std.proofs.lemmas.Bool.{cases_lt}
use Rattle.std.proofs.lemmas.Option.{slice_get_read}
use Rattle.std.proofs.lemmas.Slice.Eq.{slice_eq-Decides}
use Rattle.std.specs.Cmp.{booleans_Decides}
use mathlib.Core.Bool.{beq}
use Rattle.verdict_meaning.specs.declared.callee.Callee.{Callee}
use Rattle.verdict_meaning.specs.Systems.{System, count}
use Rattle.verdict_meaning.specs.Solutions.{pi_by}
use Rattle.verdict_meaning.specs.Certificates.{bit_at}
use Rattle.call_search.specs.declared.entries.Entry.{Entry}
use Rattle.call_search.specs.Shapes.{IsThere}
use Rattle.call_search.specs.Entries.{at_entry, own_face, IsSized, Answers, IsAnswerAt, NoneAnswers}

told : (xs ys : List Bool) (r : Bool) → r ≡ pointwise beq xs ys → MatchBool r (xs ≡ ys) (xs ≡ ys → ⊥)
told xs ys true e = (slice_eq-Decides booleans_Decides xs ys (pointwise beq xs ys) refl).0 (sym e)
told xs ys false e = λ same. clash (e ∙ (slice_eq-Decides booleans_Decides xs ys (pointwise beq xs ys) refl).1 same)
  where
    clash : false ≡ true → ⊥
    clash e = cc

match_to : (b : Bool) (P Q : Type 0) → MatchBool b P (P → ⊥) → (P → Q) → (Q → P) → MatchBool b Q (Q → ⊥)
match_to true P Q m f g = f m
match_to false P Q m f g = λ q. m (g q)

pub is_answer_by : (s : System) (e d : Entry) (c : Callee) (face own bits : List Bool) (b : Bool) → d ≡ e → (d.proc ≡ c.proc) → d.group ≡ c.group → bits ≡ d.bits → own ≡ pi_by s d.group (bit_at bits) d.proc → b ≡ pointwise beq own face
    → MatchBool b (Answers s e c face) (Answers s e c face → ⊥)
is_answer_by s e d c face own bits b de p g be o m =
    let mine : own ≡ own_face s e = o ∙ ap (λ (xs : List Bool). pi_by s d.group (bit_at xs) d.proc) be ∙ ap (own_face s) de in
    match_to b (own ≡ face) (Answers s e c face) (told own face b m)
    (λ same. record { proc = ap (λ (x : Entry). x.proc) (sym de) ∙ p; group = ap (λ (x : Entry). x.group) (sym de) ∙ g; face_is = sym mine ∙ same })
    (λ a. mine ∙ a.face_is)

pub other_proc : (s : System) (e d : Entry) (c : Callee) (face : List Bool) → d ≡ e → (d.proc ≡ c.proc → ⊥) → Answers s e c face → ⊥
other_proc s e d c face de ne a = ne (ap (λ (x : Entry). x.proc) de ∙ a.proc)

pub sized_there : (s : System) (e d : Entry) → d ≡ e → IsSized s e → IsThere s (at_entry d)
sized_there s e d de h = subst (λ (x : Entry). IsThere s (at_entry x)) (sym de) h.there

pub sized_size : (s : System) (e d : Entry) (bits : List Bool) → d ≡ e → bits ≡ d.bits → IsSized s e → length bits ≡ count s d.group
sized_size s e d bits de be h = ap length be ∙ subst (λ (x : Entry). length x.bits ≡ count s x.group) (sym de) h.size

pub read_at : (es : List Entry) (n : ℕ) (e : Entry) → n < length es → e ≡ get_or es n e → slice_get es n ≡ Some e
read_at es n e lt is = slice_get_read es (length es) n e refl lt is

pub answer_here : (s : System) (es : List Entry) (c : Callee) (face : List Bool) (n : ℕ) (e : Entry) → n < length es → e ≡ get_or es n e → Answers s e c face → IsAnswerAt s es c face n
answer_here s es c face n e lt is a = record { entry = e; there = read_at es n e lt is; answers = a }

one : (x y : Entry) → Some x ≡ Some y → x ≡ y
one x y e = cc

pub none_more : (s : System) (es : List Entry) (c : Callee) (face : List Bool) (k : ℕ) (d : Entry) → ((n : ℕ) (e : Entry) → n < k → slice_get es n ≡ Some e → Answers s e c face → ⊥) → k < length es → d ≡ get_or es k d → (Answers s d c face → ⊥)
    → (n : ℕ) (e : Entry) → n < k + 1 → slice_get es n ≡ Some e → Answers s e c face → ⊥
none_more s es c face k d before lt is off n e up at a = elim (cases_lt n k) [
  | inl low ↦ before n e low at a
  | inr high ↦ off (subst (λ (x : Entry). Answers s x c face) (one e d (sym at ∙ ap (λ m. slice_get es m) (here high) ∙ read_at es k d lt is)) a)
]
  where
    here : k ≤ n → n ≡ k
    here high = omega arith

within : (es : List Entry) (n : ℕ) (e : Entry) → slice_get es n ≡ Some e → n < length es
within [] n e h = cc
within (x ∷ es) zero e h = omega arith
within (x ∷ es) (suc n) e h = let k = within es n e h in omega arith

pub none_at_all : (s : System) (es : List Entry) (c : Callee) (face : List Bool) (k : ℕ) → ((n : ℕ) (e : Entry) → n < k → slice_get es n ≡ Some e → Answers s e c face → ⊥) → length es ≤ k → NoneAnswers s es c face
none_at_all s es c face k before le n e at a = before n e (let h = within es n e at in omega arith) at a

pub same_bits : (xs ys : List Bool) (b : Bool) → b ≡ true → b ≡ pointwise beq xs ys → xs ≡ ys
same_bits xs ys b e o = (slice_eq-Decides booleans_Decides xs ys (pointwise beq xs ys) refl).0 (sym o ∙ e)
