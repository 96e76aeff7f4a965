-- The certificate that the instances make is the plain one.
use Rattle.std.proofs.Common.{◌≡◌, ℕ, ◌+◌, ◌<◌, ◌≤◌, inl, inr, Bool, true, List, [], ◌++◌, Some, sym, ap, ◌∙◌, subst, arith, length, map, slice_get}
use Rattle.std.specs.Prelude.{◌↔◌}
use Rattle.std.specs.List.{Contains}
use Rattle.std.specs.Ordering.{nat_cmp, ordering_then}
use Rattle.std.specs.Cmp.{nat_cmp_is, nat_cmp_total, tied_itself}
use Rattle.std.specs.declared.cmp.Ordering.{Ordering}
use Rattle.std.specs.declared.cmp.Ordering.TheVariants.{Less}
use Rattle.std.proofs.lemmas.Bool.{cases_lt}
use Rattle.std.proofs.lemmas.Option.{slice_get_within}
use Rattle.conflict_proof.specs.declared.names.ConstraintName.{ConstraintName}
use Rattle.own_cert.specs.declared.certificate.Instance.{Instance}
use Rattle.own_cert.specs.declared.certificate.Certificate.{Certificate}
use Rattle.zo_core.specs.Literals.{Literal, yes}
use Rattle.verdict_meaning.specs.Systems.{System, root, count, phi_numbers, pi_numbers}
use Rattle.verdict_meaning.specs.Solutions.{phi_by}
use Rattle.verdict_meaning.specs.Certificates.{bit_at, face_of, assignment_of}
use Rattle.verdict_meaning.specs.Plain.{said, IsLeast}
use Rattle.call_search.specs.declared.entries.Entry.{Entry}
use Rattle.call_search.specs.Shapes.{IsShaped}
use Rattle.call_search.specs.Entries.{in_group, own_face, IsKept}
use Rattle.call_search.specs.Answers.{HasSolution}
use Rattle.unit_answers.specs.Sets.{UnitSet, IsSetOf, set_at, AreClosures}
use Rattle.call_search.specs.Made.{all_of, before_group, IsComplete, IsMade, IsMadeOf}
use Rattle.call_search.proofs.Made.{Indexed, index_of, before_mono, kept_at, entry_of, face_is, bits_are, made_is_good, made_has_no_needless}
use Rattle.plain_answers.specs.Orders.{face_order, want_order, instance_order}
use Rattle.plain_answers.specs.Stages.{IsTop, want_of, IsHeld, IsStage}
use Rattle.plain_answers.specs.Answers.{IsPlainCertificate}
use Rattle.plain_answers.proofs.Lists.{map_at, sorted_pair}
use Rattle.plain_answers.proofs.Least.{phi_same, one_least, least_by}
use Rattle.plain_answers.proofs.Settled.{settled, stage_plain}

-- the root's bits, by the literals of its set
pub is_top_by : (s : System) (U : ConstraintName → Bool) (sets : List UnitSet) (top : List Bool) (lits : List Literal) (r n : ℕ) → AreClosures s U sets → r ≡ root s → lits ≡ (set_at sets r).lits → n ≡ count s r → length top ≡ n
    → ((v : ℕ) → 0 < v → v ≤ n → (bit_at top v ≡ true) ↔ Contains lits (yes v)) → IsTop s U top
is_top_by s U sets top lits r n closures re le ne size each =
    let set : IsSetOf s U r [] (set_at sets r).lits = closures.each r (omega arith) in
    let mine : IsSetOf s U r [] lits = subst (λ (ls : List Literal). IsSetOf s U r [] ls) (sym le) set in
    let least : IsLeast s U r [] (bit_at top) = least_by s U r [] lits top n ne mine each in
    record { size = size ∙ ne ∙ ap (count s) re; least = subst (λ k. IsLeast s U k [] (bit_at top)) re least }

pub complete_by : (s : System) (U : ConstraintName → Bool) (top : List Bool) (t : List (List Entry)) → IsShaped s → IsTop s U top → IsStage s U top [] t → IsComplete s t
complete_by s U top t shaped is_top stage =
    let h : HasSolution s U [] top t = settled s U top t shaped is_top stage in
    record {
      sized = λ g n e at. let k = h.table.kept g n e at in record { there = k.there; size = k.size };
      group = h.table.group;
      answered = h.full.down;
    }

module _ (s : System) (U : ConstraintName → Bool) (top : List Bool) (t : List (List Entry)) (shaped : IsShaped s) (is_top : IsTop s U top) (stage : IsStage s U top [] t) (c : Certificate) (made : IsMade s top t c) where
  sol : HasSolution s U [] top t
  sol = settled s U top t shaped is_top stage

  -- what an instance of the certificate is made of
  record IsFrom (n : ℕ) (i : Instance) : Type 0 where
    pub entry : Entry
    pub at : slice_get (all_of t) n ≡ Some entry
    pub is : IsMadeOf s t entry i
    pub kept : IsKept s U [] (phi_by s (bit_at top)) entry
    pub index : Indexed t n entry
    pub held : IsHeld s U top t index.group entry
    pub face : face_of s i i.entry ≡ own_face s entry

  from : (n : ℕ) (i : Instance) → slice_get c.instances n ≡ Some i → IsFrom n i
  from n i here =
      let eo : (e : Entry) × (slice_get (all_of t) n ≡ Some e) = entry_of s U [] top t shaped sol c made n i here in
      let mi : IsMadeOf s t eo.0 i = made.instances.each n eo.0 i eo.1 here in
      let k : IsKept s U [] (phi_by s (bit_at top)) eo.0 = kept_at s U [] top t shaped sol c made n eo.0 eo.1 in
      let x : Indexed t n eo.0 = index_of t n eo.0 eo.1 in
      record {
        entry = eo.0;
        at = eo.1;
        is = mi;
        kept = k;
        index = x;
        held = stage.held x.group x.number eo.0 x.there;
        face = ap (face_of s i) mi.entry ∙ face_is s U [] top t shaped sol c made eo.0 i eo.0.proc k mi k.there.member;
      }

  fields : (a : ℕ → Bool) → IsLeast s U (root s) [] a → c.phi ≡ phi_by s a
  fields a least = made.phi ∙ phi_same s (root s) (bit_at top) a (one_least s U (root s) [] (bit_at top) a is_top.least least)

  least : (n : ℕ) (i : Instance) → slice_get c.instances n ≡ Some i → IsLeast s U i.group (said (phi_numbers s) c.phi ++ said (pi_numbers s i.group i.entry) (face_of s i i.entry)) (assignment_of s c i)
  least n i here =
      let f : IsFrom n i = from n i here in
      subst (λ (bs : List Bool). IsLeast s U i.group (said (phi_numbers s) c.phi ++ said (pi_numbers s i.group i.entry) (face_of s i i.entry)) (bit_at bs)) (sym (bits_are s U [] top t shaped sol c made n f.entry i f.at f.is))
      (subst (λ (phi : List Bool). IsLeast s U i.group (said (phi_numbers s) phi ++ said (pi_numbers s i.group i.entry) (face_of s i i.entry)) (bit_at f.entry.bits)) (sym made.phi)
      (subst (λ (face : List Bool). IsLeast s U i.group (said (phi_numbers s) (phi_by s (bit_at top)) ++ said (pi_numbers s i.group i.entry) face) (bit_at f.entry.bits)) (sym f.face)
      (subst (λ k. IsLeast s U i.group (said (phi_numbers s) (phi_by s (bit_at top)) ++ said (pi_numbers s i.group k) (own_face s f.entry)) (bit_at f.entry.bits)) (sym f.is.entry)
      (subst (λ g. IsLeast s U g (said (phi_numbers s) (phi_by s (bit_at top)) ++ said (pi_numbers s g f.entry.proc) (own_face s f.entry)) (bit_at f.entry.bits)) (sym f.is.group) f.held.right.least))))

  -- by groups, or else by what they answer
  in_order : (i j : Instance) (e f : Entry) → i.group ≡ e.group → j.group ≡ f.group → i.entry ≡ e.proc → j.entry ≡ f.proc → face_of s i i.entry ≡ own_face s e → face_of s j j.entry ≡ own_face s f → (r : Ordering)
      → ordering_then (nat_cmp e.group f.group) (want_order (want_of s e) (want_of s f)) ≡ r → instance_order s i j ≡ r
  in_order i j e f gi gj pi pj fi fj r h =
      ap (λ k. ordering_then (nat_cmp k j.group) (ordering_then (nat_cmp i.entry j.entry) (face_order (face_of s i i.entry) (face_of s j j.entry)))) gi
      ∙ ap (λ k. ordering_then (nat_cmp e.group k) (ordering_then (nat_cmp i.entry j.entry) (face_order (face_of s i i.entry) (face_of s j j.entry)))) gj
      ∙ ap (λ x. ordering_then (nat_cmp e.group f.group) (ordering_then (nat_cmp i.entry j.entry) (face_order x (face_of s j j.entry)))) fi
      ∙ ap (λ x. ordering_then (nat_cmp e.group f.group) (ordering_then (nat_cmp i.entry j.entry) (face_order (own_face s e) x))) fj
      ∙ ap (λ k. ordering_then (nat_cmp e.group f.group) (ordering_then (nat_cmp k j.entry) (face_order (own_face s e) (own_face s f)))) pi
      ∙ ap (λ k. ordering_then (nat_cmp e.group f.group) (ordering_then (nat_cmp e.proc k) (face_order (own_face s e) (own_face s f)))) pj
      ∙ h

  ordered : (m n : ℕ) (i j : Instance) → m < n → slice_get c.instances m ≡ Some i → slice_get c.instances n ≡ Some j → instance_order s i j ≡ Less
  ordered m n i j lt a b =
      let x : IsFrom m i = from m i a in
      let y : IsFrom n j = from n j b in
      in_order i j x.entry y.entry x.is.group y.is.group x.is.entry y.is.entry x.face y.face Less (by_group x y)
    where
      below : (e f : Entry) → e.group < f.group → ordering_then (nat_cmp e.group f.group) (want_order (want_of s e) (want_of s f)) ≡ Less
      below e f less = ap (λ r. ordering_then r (want_order (want_of s e) (want_of s f))) (sym (nat_cmp_is e.group f.group Less less))

      level : (e f : Entry) → e.group ≡ f.group → want_order (want_of s e) (want_of s f) ≡ Less → ordering_then (nat_cmp e.group f.group) (want_order (want_of s e) (want_of s f)) ≡ Less
      level e f same less =
          ap (λ r. ordering_then r (want_order (want_of s e) (want_of s f))) (ap (λ k. nat_cmp e.group k) (sym same) ∙ tied_itself nat_cmp_total e.group) ∙ less

      by_group : (x : IsFrom m i) (y : IsFrom n j) → ordering_then (nat_cmp x.entry.group y.entry.group) (want_order (want_of s x.entry) (want_of s y.entry)) ≡ Less
      by_group x y = elim (cases_lt x.index.group y.index.group) [
        | inl less ↦ below x.entry y.entry (let gx = x.held.group in let gy = y.held.group in omega arith)
        | inr le ↦ elim (cases_lt y.index.group x.index.group) [
          | inl more ↦ absurd (
              let o = before_mono t y.index.group x.index.group more in
              let w = slice_get_within (in_group t y.index.group) y.index.number y.entry y.index.there in
              let ix = x.index.is in let iy = y.index.is in omega arith)
          | inr ge ↦
              let same : x.index.group ≡ y.index.group = omega arith in
              let bx : m ≡ before_group t y.index.group + x.index.number = x.index.is ∙ ap (λ k. before_group t k + x.index.number) same in
              let iy = y.index.is in
              let up : x.index.number < y.index.number = omega arith in
              let there : slice_get (in_group t y.index.group) x.index.number ≡ Some x.entry = ap (λ k. slice_get (in_group t k) x.index.number) (sym same) ∙ x.index.there in
              level x.entry y.entry (x.held.group ∙ same ∙ sym y.held.group)
              (sorted_pair want_order (map (want_of s) (in_group t y.index.group)) x.index.number y.index.number (want_of s x.entry) (want_of s y.entry) (stage.ordered y.index.group) up
              (map_at (want_of s) (in_group t y.index.group) x.index.number x.entry there)
              (map_at (want_of s) (in_group t y.index.group) y.index.number y.entry y.index.there))
        ]
      ]

  pub certified : IsPlainCertificate s U c
  certified = record {
    plain = stage_plain s U top t shaped is_top stage;
    good = made_is_good s U [] top t shaped sol c made;
    needed = made_has_no_needless s U [] top t shaped sol c made;
    fields = fields;
    least = least;
    ordered = ordered;
  }
