-- Where a derivation refutes, the constraints that it uses cannot be met together.
use Rattle.std.proofs.Common.{◌≡◌, ℕ, zero, suc, ◌+◌, ◌<◌, ◌≤◌, Bool, true, false, cond, ◌||◌, List, [], ◌∷◌, ◌++◌, Some, refl, sym, ap, ◌∙◌, subst, arith, length, get_or, take, map, slice_get, append_assoc, length-append, inl, inr}
use Rattle.std.specs.List.{Contains}
use Rattle.std.specs.Prelude.{nat_eq}
use Rattle.std.proofs.lemmas.Bool.{eq-eqb, cases_eq}
use Rattle.std.specs.Prelude.{sum_by}
use Rattle.std.proofs.lemmas.List.Sums.{sum_by_more}
use Rattle.zo_core.specs.Truth.{clause_true}
use Rattle.conflict_proof.specs.declared.names.ConstraintName.{ConstraintName}
use Rattle.conflict_proof.specs.declared.derivation.How.{How}
use Rattle.conflict_proof.specs.declared.derivation.How.TheVariants.{Axiom}
use Rattle.conflict_proof.specs.declared.derivation.Line.{Line}
use Rattle.verdict_meaning.specs.declared.callee.Callee.{Callee}
use Rattle.verdict_meaning.specs.Systems.{System, root, members, first, firsts, callee, callees, callee_parts, names_of, nobody, pi_numbers, sigma_numbers}
use Rattle.verdict_meaning.specs.Solutions.{counts, same_rule, phi_by, sigma_by, IsSolvable, by_assignment, IsSatisfiableOnly, IsAdmitted}
use Rattle.verdict_meaning.specs.Certificates.{bit_at}
use Rattle.verdict_meaning.specs.Derivations.{line_at, IsRight, IsValidIn, Refutes}
use Rattle.verdict_meaning.specs.UsedNames.{IsAxiomOf}
use Rattle.verdict_meaning.specs.Laws.{UsedAreUnsatisfiable, RefutedIsUnsatisfiable, AcceptedIsNotRefuted}
use Rattle.verdict_meaning.proofs.Bits.{bits_at, length-by, length-numbers}
use Rattle.verdict_meaning.proofs.Follow.{lines_are_true}
use Rattle.verdict_meaning.proofs.Good.{good_is_satisfiable}

-- the root's callees

at_root : (s : System) → callees s (root s) ≡ firsts 0 s.groups
at_root s = pick (nat_eq (root s) (root s)) (eq-eqb (root s) (root s) refl)
  where
    pick : (b : Bool) → b ≡ true → cond b (firsts 0 s.groups) (s.sites (root s)) ≡ firsts 0 s.groups
    pick true e = refl
    pick false e = cc

no_names : (s : System) → names_of s (root s) ≡ []
no_names s = pick (nat_eq (root s) (root s)) (eq-eqb (root s) (root s) refl)
  where
    pick : (b : Bool) → b ≡ true → cond b [] (s.names (root s)) ≡ []
    pick true e = refl
    pick false e = cc

length-firsts : (g : ℕ) (gs : List (List ℕ)) → length (firsts g gs) ≡ length gs
length-firsts g [] = refl
length-firsts g (ms ∷ gs) = ap suc (length-firsts (suc g) gs)

get-firsts : (g : ℕ) (gs : List (List ℕ)) (k n : ℕ) → k < length gs → n ≡ g + k → get_or (firsts g gs) k nobody ≡ record { proc = get_or (get_or gs k []) 0 0; group = n }
get-firsts g [] k n lt e = absurd (omega arith)
get-firsts g (ms ∷ gs) zero n lt e = let h : g ≡ n = omega arith in ap (λ m. let c : Callee = record { proc = get_or ms 0 0; group = m } in c) h
get-firsts g (ms ∷ gs) (suc k) n lt e = get-firsts (suc g) gs k n (omega arith) (omega arith)

past_end : (gs : List (List ℕ)) → get_or gs (length gs) [] ≡ []
past_end [] = refl
past_end (ms ∷ gs) = past_end gs

pub root_many : (s : System) → length (callees s (root s)) ≡ root s
root_many s = ap length (at_root s) ∙ length-firsts 0 s.groups

pub root_callee : (s : System) (k : ℕ) → k < root s → callee s (root s) k ≡ record { proc = first s k; group = k }
root_callee s k lt = ap (λ l. get_or l k nobody) (at_root s) ∙ get-firsts 0 s.groups k k lt (omega arith)

sum-take_more : (s : System) (cs : List Callee) (k : ℕ) → k < length cs → sum_by (callee_parts s) (take (suc k) cs) ≡ sum_by (callee_parts s) (take k cs) + callee_parts s (get_or cs k nobody)
sum-take_more s cs k lt = let next : suc k ≡ k + 1 = omega arith in ap (λ n. sum_by (callee_parts s) (take n cs)) next ∙ sum_by_more (callee_parts s) cs k nobody lt

-- the interface of a solution is as long as the procedure has parts
solved_length : (s : System) (U : ConstraintName → Bool) (phi : List Bool) (g h : ℕ) (v : List Bool) → IsSolvable s U phi g h v → length v ≡ s.parts h
solved_length s U phi g h v (by_assignment a p q local sites) = ap length (sym q) ∙ length-by a (pi_numbers s g h) ∙ length-numbers _ (s.parts h)

module _ (s : System) (U : ConstraintName → Bool) (sat : IsSatisfiableOnly s U) where
  abbrev cs : List Callee
  cs = callees s (root s)

  many : length cs ≡ root s
  many = ap length (at_root s) ∙ length-firsts 0 s.groups

  callee_is : (k : ℕ) → k < root s → callee s (root s) k ≡ record { proc = first s k; group = k }
  callee_is k lt = ap (λ l. get_or l k nobody) (at_root s) ∙ get-firsts 0 s.groups k k lt (omega arith)

  none_before : sum_by s.parts (members s (root s)) ≡ 0
  none_before = ap (sum_by s.parts) (past_end s.groups)

  -- what the first k sites of the root ask for
  record Asked (k : ℕ) : Type 0 where
    bits : List Bool
    size : length bits ≡ sum_by (callee_parts s) (take k cs)
    each : (site : ℕ) → site < k → (more : List Bool)
        → IsSolvable s U sat.phi (callee s (root s) site).group (callee s (root s) site).proc (map (bit_at (sat.phi ++ (bits ++ more))) (sigma_numbers s (root s) site))

  asked : (k : ℕ) → k ≤ root s → Asked k
  asked zero le = record { bits = []; size = refl; each = λ site lt more. absurd (omega arith) }
  asked (suc k) le =
      let before : Asked k = asked k (omega arith) in
      let lt : k < root s = omega arith in
      let one : (v : List Bool) × IsSolvable s U sat.phi k (first s k) v = sat.each k lt in
      let v : List Bool = one.0 in
      let c : Callee = callee s (root s) k in
      let is : c ≡ record { proc = first s k; group = k } = callee_is k lt in
      let long : length v ≡ callee_parts s c = solved_length s U sat.phi k (first s k) v one.1 ∙ ap (callee_parts s) (sym is) in
      let here : IsSolvable s U sat.phi c.group c.proc v = subst (λ (d : Callee). IsSolvable s U sat.phi d.group d.proc v) (sym is) one.1 in
      record {
        bits = before.bits ++ v;
        size = let h = length-append before.bits v in let e = before.size in let t = sum-take_more s cs k (let m = many in omega arith) in omega arith;
        each = λ site below more. at before v long here site below more;
      }
    where
      at : (before : Asked k) (v : List Bool) → length v ≡ callee_parts s (callee s (root s) k) → IsSolvable s U sat.phi (callee s (root s) k).group (callee s (root s) k).proc v → (site : ℕ) → site < suc k → (more : List Bool)
          → IsSolvable s U sat.phi (callee s (root s) site).group (callee s (root s) site).proc (map (bit_at (sat.phi ++ ((before.bits ++ v) ++ more))) (sigma_numbers s (root s) site))
      at before v long here site below more = elim (cases_eq site k) [
        | inl e ↦ subst (λ n. IsSolvable s U sat.phi (callee s (root s) n).group (callee s (root s) n).proc (map (bit_at (sat.phi ++ ((before.bits ++ v) ++ more))) (sigma_numbers s (root s) n))) (sym e)
            (subst (λ w. IsSolvable s U sat.phi (callee s (root s) k).group (callee s (root s) k).proc w)
            (sym (bits_at (sat.phi ++ ((before.bits ++ v) ++ more)) (sat.phi ++ before.bits) v more (suc (s.fields + sum_by s.parts (members s (root s)) + sum_by (callee_parts s) (take k cs))) (callee_parts s (callee s (root s) k))
            (ap (λ l. sat.phi ++ l) (append_assoc before.bits v more) ∙ sym (append_assoc sat.phi before.bits (v ++ more)))
            (let h = length-append sat.phi before.bits in let z = before.size in let p = sat.shape in let q = none_before in omega arith)
            (sym long)))
            here)
        | inr ne ↦ subst (λ l. IsSolvable s U sat.phi (callee s (root s) site).group (callee s (root s) site).proc (map (bit_at (sat.phi ++ l)) (sigma_numbers s (root s) site))) (sym (append_assoc before.bits v more))
            (before.each site (less ne) (v ++ more))
      ]
        where
          less : (site ≡ k → ⊥) → site < k
          less ne = omega arith

  pub record RootAdmits : Type 0 where
    pub by : ℕ → Bool
    pub admitted : IsAdmitted s U (root s) by

  pub root_admits : RootAdmits
  root_admits =
      let all : Asked (root s) = asked (root s) (omega arith) in
      let a : ℕ → Bool = bit_at (sat.phi ++ (all.bits ++ [])) in
      let phi : phi_by s a ≡ sat.phi = bits_at (sat.phi ++ (all.bits ++ [])) [] sat.phi (all.bits ++ []) 1 s.fields refl refl (sym sat.shape) in
      record {
        by = a;
        admitted = record {
          local = λ n there c. absurd (let h : Contains {X = ConstraintName} [] n = subst (λ (ns : List ConstraintName). Contains ns n) (no_names s) there in let l = h.1 in omega arith);
          sites = λ site lt. subst (λ f. IsSolvable s U f (callee s (root s) site).group (callee s (root s) site).proc (sigma_by s (root s) a site)) (sym phi) (all.each site (let m = many in omega arith) []);
        };
      }

last_at : (before : List Line) (last : Line) → slice_get (before ++ last ∷ []) (length before) ≡ Some last
last_at [] last = refl
last_at (l ∷ before) last = last_at before last

-- under an assignment of the root that meets the constraints on which the last line stands, that line is true
never : (s : System) (V U : ConstraintName → Bool) (lines : List Line) → IsValidIn s V lines → Refutes s lines
    → ((name : ConstraintName) → IsAxiomOf lines (length lines) name → counts U name ≡ true) → IsSatisfiableOnly s U → ⊥
never s V U lines valid ref used sat =
    let r : RootAdmits s U sat = root_admits s U sat in
    let size : suc (length ref.before) ≡ length lines = let h = length-append ref.before (ref.last ∷ []) in let e = ap length ref.is in omega arith in
    let at : line_at lines (length lines) ≡ Some ref.last = ap (line_at lines) (sym size) ∙ ap (λ (ls : List Line). slice_get ls (length ref.before)) ref.is ∙ last_at ref.before ref.last in
    let holds : clause_true r.by ref.last.lits ≡ true =
    lines_are_true s V U lines valid (length lines) ref.last at used r.by (subst (λ g. IsAdmitted s U g r.by) (sym ref.group) r.admitted) in
    clash (ap (clause_true r.by) (sym ref.empty) ∙ holds)
  where
    clash : false ≡ true → ⊥
    clash e = cc

pub used_are_unsatisfiable : UsedAreUnsatisfiable
used_are_unsatisfiable s V U lines names valid ref used within sat = never s V U lines valid ref counted sat
  where
    counted : (name : ConstraintName) → IsAxiomOf lines (length lines) name → counts U name ≡ true
    counted name ax = split (nat_eq name.rule same_rule) refl
      where
        split : (b : Bool) → nat_eq name.rule same_rule ≡ b → (b || U name) ≡ true
        split true e = refl
        split false e = within name (used.all name ax (λ is. differ (sym (eq-eqb name.rule same_rule is) ∙ e)))
          where
            differ : true ≡ false → ⊥
            differ e = cc

-- a constraint on which a valid line stands counts
axioms_count : (s : System) (U : ConstraintName → Bool) (lines : List Line) → IsValidIn s U lines → (n : ℕ) (name : ConstraintName) → IsAxiomOf lines n name → counts U name ≡ true
axioms_count s U lines valid n name ax = counted ax.line.how ax.how (valid ax.number ax.line ax.there).right
  where
    counted : (how : How) → how ≡ Axiom name → IsRight s U lines ax.number ax.line.group how ax.line.lits → counts U name ≡ true
    counted how e right = (let is : IsRight s U lines ax.number ax.line.group (Axiom name) ax.line.lits = subst (λ h. IsRight s U lines ax.number ax.line.group h ax.line.lits) e right in is).counting

pub refuted_is_unsatisfiable : RefutedIsUnsatisfiable
refuted_is_unsatisfiable s U lines valid ref sat = never s U U lines valid ref (axioms_count s U lines valid (length lines)) sat

pub accepted_is_not_refuted : AcceptedIsNotRefuted
accepted_is_not_refuted s U c lines good valid ref = refuted_is_unsatisfiable s U lines valid ref (good_is_satisfiable s U c good)
