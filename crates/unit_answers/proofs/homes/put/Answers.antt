use Rattle.std.proofs.Common.{◌≡◌, ℕ, ◌+◌, true, false, cond, List, [], ◌∷◌, ◌++◌, take, set, get_or, inl, inr, ap, sym, ◌∙◌, arith, get_or-set_same, get_or-set_other}
use Rattle.std.specs.Prelude.{slice_index}
use Rattle.std.proofs.lemmas.Bool.{cases_eq, cases_Bool}
use Rattle.std.proofs.lemmas.List.{take_more}
use Rattle.std.proofs.lemmas.List.Elements.{Contains-push, Contains-push_cases, Contains-append_left}
use Rattle.flow_graph.specs.Fits.{is_in}
use Rattle.owner_vars.proofs.IndexLemmas.{from_is_in, is_in_true, not_in}
use Rattle.unit_answers.proofs.homes.put.Goals as goal

-- one member more
more_yes : (front : List ℕ) (m : ℕ) → is_in (front ++ m ∷ []) m ≡ true
more_yes front m = is_in_true (front ++ m ∷ []) m (Contains-push front m)

more_other : (front : List ℕ) (m k : ℕ) → (k ≡ m → ⊥) → is_in (front ++ m ∷ []) k ≡ is_in front k
more_other front m k ne = elim (cases_Bool (is_in front k)) [
  | inl t ↦ is_in_true (front ++ m ∷ []) k (Contains-append_left front (m ∷ []) k (from_is_in front k t)) ∙ sym t
  | inr f ↦
      not_in (front ++ m ∷ []) k (λ c. elim (Contains-push_cases front m k c) [
        | inl old ↦ (let t = is_in_true front k old in let no : true ≡ false = sym t ∙ f in cc)
        | inr e ↦ ne (sym e)
      ]) ∙ sym f
]

pub loop-member-preserved : goal.loop-member-preserved
loop-member-preserved c = λ k lt.
    let ms = c.args.members.now in
    let i = c.loop-member.member-index in
    let m = get_or ms i 0 in
    let homes = c.loop-member.homes in
    let front : take (i + 1) ms ≡ take i ms ++ m ∷ [] = take_more ms i 0 (omega arith) in
    let many = c.loop-member.auto.homes in
    let was = c.loop-member.invariant k lt in
    elim (cases_eq k m) [
      | inl e ↦
          let here : get_or (set homes m c.args.group) k 0 ≡ c.args.group =
          ap (λ n. get_or (set homes m c.args.group) n 0) e ∙ get_or-set_same homes m c.args.group 0 (omega arith) in
          let yes : is_in (take (i + 1) ms) k ≡ true = ap (λ (us : List ℕ). is_in us k) front ∙ ap (is_in (take i ms ++ m ∷ [])) e ∙ more_yes (take i ms) m in
          here ∙ sym (ap (λ b. cond b c.args.group (slice_index c.args.homes.now k)) yes)
      | inr ne ↦
          let there : get_or (set homes m c.args.group) k 0 ≡ get_or homes k 0 = get_or-set_other homes m k c.args.group 0 ne in
          let same : is_in (take (i + 1) ms) k ≡ is_in (take i ms) k = ap (λ (us : List ℕ). is_in us k) front ∙ more_other (take i ms) m k ne in
          there ∙ was ∙ sym (ap (λ b. cond b c.args.group (slice_index c.args.homes.now k)) same)
    ]
