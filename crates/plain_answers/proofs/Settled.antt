-- When all groups are worked off, the instances are a solution.
use Rattle.std.proofs.Common.{◌≡◌, ℕ, zero, suc, ◌<◌, ◌≤◌, ◌⊎◌, inl, inr, Bool, cond, List, [], Some, refl, sym, ap, ◌∙◌, subst, arith, length, map, slice_get}
use Rattle.std.proofs.lemmas.Bool.{eq-eqb}
use Rattle.conflict_proof.specs.declared.names.ConstraintName.{ConstraintName}
use Rattle.verdict_meaning.specs.declared.callee.Callee.{Callee}
use Rattle.verdict_meaning.specs.Systems.{System, root, first, callee, callees, names_of}
use Rattle.verdict_meaning.specs.Solutions.{phi_by, sigma_by}
use Rattle.verdict_meaning.specs.Certificates.{bit_at}
use Rattle.verdict_meaning.specs.Derivations.{InstLinesAreTrue}
use Rattle.verdict_meaning.specs.Plain.{PlainIn, plain, IsPlainSat}
use Rattle.verdict_meaning.proofs.Bits.{root_many, root_callee}
use Rattle.call_search.specs.declared.entries.Entry.{Entry}
use Rattle.call_search.specs.Shapes.{IsShaped, IsThere}
use Rattle.call_search.specs.Entries.{in_group, at_entry, own_face, IsKept, Answers, IsAnswered, IsAskedAt, IsAskedBy}
use Rattle.call_search.specs.Answers.{HasSolution}
use Rattle.plain_answers.specs.declared.wants.Want.{Want}
use Rattle.plain_answers.specs.Orders.{want_order, want_order_total}
use Rattle.plain_answers.specs.Wants.{wants_in, asked, Asks}
use Rattle.plain_answers.specs.Stages.{IsTop, IsAsked, want_of, IsHeld, IsProvided, IsStage}
use Rattle.plain_answers.proofs.Lists.{none_contained, map_at, sorted_apart}
use Rattle.plain_answers.proofs.OrderLemmas.{want_with}

no_lines : (g : ℕ) (a : ℕ → Bool) → InstLinesAreTrue [] g a
no_lines g a zero line at = cc
no_lines g a (suc n) line at = cc

root_names : (s : System) → names_of s (root s) ≡ []
root_names s = ap (λ b. cond b [] (s.names (root s))) (eq-eqb (root s) (root s) refl)

module _ (s : System) (U : ConstraintName → Bool) (top : List Bool) (t : List (List Entry)) (shaped : IsShaped s) (is_top : IsTop s U top) (stage : IsStage s U top [] t) where
  answered : (k : ℕ) (bits : List Bool) (site : ℕ) → IsProvided s [] t k bits site → IsAnswered s (in_group t (callee s k site).group) (callee s k site) (sigma_by s k (bit_at bits) site)
  answered k bits site (inl there) = absurd (none_contained (wants_in [] (callee s k site).group) (asked s k bits site) refl there)
  answered k bits site (inr a) = a

  held_there : (h : ℕ) (e : Entry) → IsHeld s U top t h e → IsThere s (at_entry e)
  held_there h e x = subst (λ k. IsThere s (record { proc = e.proc; group = k })) (sym x.group) x.needed.askable.there

  kept : (h n : ℕ) (e : Entry) → slice_get (in_group t h) n ≡ Some e → IsKept s U [] (phi_by s (bit_at top)) e
  kept h n e at =
      let x = stage.held h n e at in
      record { there = held_there h e x; size = x.right.size; local = x.right.local; phi_is = x.right.fits.phi_is; carried = no_lines e.group (bit_at e.bits) }

  apart : (h n m : ℕ) (e f : Entry) → slice_get (in_group t h) n ≡ Some e → slice_get (in_group t h) m ≡ Some f → Answers s e (at_entry f) (own_face s f) → n ≡ m
  apart h n m e f a b x =
      let same : want_of s e ≡ want_of s f = ap (λ k. want_with k (own_face s e)) x.proc ∙ ap (λ y. want_with f.proc y) x.face_is in
      sorted_apart want_order want_order_total (map (want_of s) (in_group t h)) n m (want_of s f) (stage.ordered h) (map_at (want_of s) (in_group t h) n e a ∙ ap (λ (q : Want). Some q) same) (map_at (want_of s) (in_group t h) m f b)

  asked_at : (g h n : ℕ) (bits : List Bool) (e : Entry) → e.group ≡ h → n ≤ length (callees s g) → Asks s g bits n h (want_of s e) → IsAskedAt s g bits e
  asked_at g h n bits e group le a = record {
    site = a.site;
    within = (let lt = a.within in omega arith);
    answers = record {
      proc = sym (ap (λ (q : Want). q.proc) a.is);
      group = group ∙ sym a.group;
      face_is = sym (ap (λ (q : Want). q.face) a.is);
    };
  }

  wanted_by : (h : ℕ) (e : Entry) → e.group ≡ h → IsAsked s top t h (want_of s e) → IsAskedAt s (root s) top e ⊎ IsAskedBy s t e
  wanted_by h e group (inl a) = inl (asked_at (root s) h (length (callees s (root s))) top e group (omega arith) a)
  wanted_by h e group (inr a) = inr (record {
    group = a.group;
    number = a.number;
    caller = a.caller;
    there = a.there;
    asked = asked_at a.group h (length (callees s a.group)) a.caller.bits e group (omega arith) a.asks;
  })

  pub settled : HasSolution s U [] top t
  settled = record {
    asker = record {
      size = is_top.size;
      local = λ name there counting. absurd (none_contained (names_of s (root s)) name (root_names s) there);
      phi_is = refl;
      carried = no_lines (root s) (bit_at top);
    };
    table = record { size = stage.size; kept = kept; group = λ g n e at. (stage.held g n e at).group; apart = apart };
    full = record {
      root = λ site lt. answered (root s) top site (stage.first_asks site lt);
      down = λ g n e le at site lt. answered g e.bits site (stage.asks g n e site at lt);
      wanted = λ g n e at. let x = stage.held g n e at in wanted_by g e x.group x.needed.asked;
    };
  }

  -- each instance is plain, by induction on its group
  entry_plain : (fuel h n : ℕ) (e : Entry) → h < fuel → slice_get (in_group t h) n ≡ Some e → PlainIn s U (phi_by s (bit_at top)) e.group e.proc (own_face s e)
  entry_plain zero h n e lt at = absurd (omega arith)
  entry_plain (suc fuel) h n e lt at =
      let x : IsHeld s U top t h e = stage.held h n e at in
      plain (bit_at e.bits) x.right.least x.right.fits.phi_is refl x.right.local (λ site less. sites (λ k m d low there. entry_plain fuel k m d low there) x.group site less)
    where
      sites : ((k m : ℕ) (d : Entry) → k < fuel → slice_get (in_group t k) m ≡ Some d → PlainIn s U (phi_by s (bit_at top)) d.group d.proc (own_face s d)) → e.group ≡ h → (site : ℕ) → site < length (callees s e.group) → PlainIn s U (phi_by s (bit_at top)) (callee s e.group site).group (callee s e.group site).proc (sigma_by s e.group (bit_at e.bits) site)
      sites lower group site less =
          let there : slice_get (in_group t e.group) n ≡ Some e = ap (λ k. slice_get (in_group t k) n) group ∙ at in
          let a = answered e.group e.bits site (stage.asks e.group n e site there less) in
          let below : (callee s e.group site).group < e.group = shaped.below e.group site less in
          let inner : PlainIn s U (phi_by s (bit_at top)) a.entry.group a.entry.proc (own_face s a.entry) = lower (callee s e.group site).group a.number a.entry (omega arith) a.there in
          subst (λ k. PlainIn s U (phi_by s (bit_at top)) k (callee s e.group site).proc (sigma_by s e.group (bit_at e.bits) site)) a.answers.group
          (subst (λ k. PlainIn s U (phi_by s (bit_at top)) a.entry.group k (sigma_by s e.group (bit_at e.bits) site)) a.answers.proc
          (subst (λ (f : List Bool). PlainIn s U (phi_by s (bit_at top)) a.entry.group a.entry.proc f) a.answers.face_is inner))

  pub stage_plain : IsPlainSat s U
  stage_plain = record { values = bit_at top; least = is_top.least; each = each }
    where
      each : (g : ℕ) → g < root s → PlainIn s U (phi_by s (bit_at top)) g (first s g) (sigma_by s (root s) (bit_at top) g)
      each g lt =
          let is : callee s (root s) g ≡ record { proc = first s g; group = g } = root_callee s g lt in
          let a = answered (root s) top g (stage.first_asks g (let many = root_many s in omega arith)) in
          let inner : PlainIn s U (phi_by s (bit_at top)) a.entry.group a.entry.proc (own_face s a.entry) = entry_plain (suc (callee s (root s) g).group) (callee s (root s) g).group a.number a.entry (omega arith) a.there in
          subst (λ (c : Callee). PlainIn s U (phi_by s (bit_at top)) c.group c.proc (sigma_by s (root s) (bit_at top) g)) is
          (subst (λ k. PlainIn s U (phi_by s (bit_at top)) k (callee s (root s) g).proc (sigma_by s (root s) (bit_at top) g)) a.answers.group
          (subst (λ k. PlainIn s U (phi_by s (bit_at top)) a.entry.group k (sigma_by s (root s) (bit_at top) g)) a.answers.proc
          (subst (λ (f : List Bool). PlainIn s U (phi_by s (bit_at top)) a.entry.group a.entry.proc f) a.answers.face_is inner)))
