use Rattle.std.proofs.Common.{◌≡◌, ℕ, suc, ◌+◌, ◌<◌, List, [], ◌∷◌, ◌++◌, length, get_or, inl, inr, ap, sym, subst, ◌∙◌, rules, arith}
use Rattle.std.proofs.lemmas.Bool.{cases_eq}
use Rattle.std.proofs.lemmas.List.{length_push, get_or_push, get_or_append_left}
use Rattle.verdict_meaning.specs.Systems.{root}
use Rattle.unit_answers.specs.Layouts.{GroupNumbers, AreGroupNumbers, no_numbers}
use Rattle.verdict_meaning.specs.Programs.{system_in}
use Rattle.unit_answers.proofs.laying.layout.Goals as goal

-- the numbers of one group more
numbers_push : (P : ℕ → GroupNumbers → Type 0) (xs : List GroupNumbers) (x : GroupNumbers) (n : ℕ) → length xs ≡ n → ((g : ℕ) → g < n → P g (get_or xs g no_numbers)) → P n x
    → (g : ℕ) → g < n + 1 → P g (get_or (xs ++ x ∷ []) g no_numbers)
numbers_push P xs x n many each here g lt = elim (cases_eq g n) [
  | inl e ↦
      let new : get_or (xs ++ x ∷ []) g no_numbers ≡ x = get_or_push xs x no_numbers g (many ∙ sym e) in
      subst (P g) (sym new) (subst (λ (k : ℕ). P k x) (sym e) here)
  | inr ne ↦ subst (P g) (sym (get_or_append_left xs (x ∷ []) no_numbers g (omega arith))) (each g (omega arith))
]

pub loop-group-preserved : goal.loop-group-preserved
loop-group-preserved c =
    let s = system_in c.args.program.now in
    let groups = c.loop-group.groups.items in
    let one = c.in_ok-numbers.numbers in
    let items : c.push.new.self.items ≡ groups ++ one ∷ [] = search rules in
    let many = c.loop-group.invariant.count in
    record {
      count = ap length items ∙ length_push groups one ∙ ap (λ n. n + 1) many;
      each = λ g lt. subst (λ (xs : List GroupNumbers). AreGroupNumbers s g (get_or xs g no_numbers)) (sym items)
          (numbers_push (AreGroupNumbers s) groups one c.loop-group.group many c.loop-group.invariant.each c.in_ok-numbers.ensures g lt);
    }

pub returns : goal.returns
returns c =
    let p = c.args.program.now in
    let s = system_in p in
    let groups = c.loop-group.groups.items in
    let one = c.in_ok-numbers-2.numbers in
    let items : c.push-2.new.self.items ≡ groups ++ one ∷ [] = search rules in
    let many = c.loop-group.invariant.count in
    let all : c.in-Ok.root ≡ length p.groups = search rules in
    let small : c.in-Ok.root < 4294967296 = (let both = c.in-Ok.ensures in let is = both.1 in let less = both.0 in omega arith) in
    let end = c.loop-group-test.false in
    let high = c.loop-group.auto.group-end in
    let at : c.loop-group.group ≡ root s = omega arith in
    let size : length c.push-2.new.self.items ≡ suc (root s) = (let l = ap length items in let m = length_push groups one in omega arith) in
    record {
      fields = c.in_ok-fields.ensures.count;
      groups = size;
      few = (let z = size in omega arith);
      each = λ g le. subst (λ (xs : List GroupNumbers). AreGroupNumbers s g (get_or xs g no_numbers)) (sym items)
          (numbers_push (AreGroupNumbers s) groups one c.loop-group.group many c.loop-group.invariant.each
          (subst (λ (n : ℕ). AreGroupNumbers s n one) (sym at) c.in_ok-numbers-2.ensures) g (omega arith));
    }
