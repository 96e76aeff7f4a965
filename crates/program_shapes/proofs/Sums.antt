-- How many parts the interfaces have that the sites of a group call.
use Rattle.std.proofs.Common.{◌≡◌, ℕ, zero, suc, ◌+◌, ◌-◌, ◌<◌, ◌≤◌, ◌^◌, inl, inr, List, [], ◌∷◌, ◌++◌, length, take, get_or, Some, slice_get, refl, sym, ap, subst, ◌∙◌, arith}
use Rattle.std.specs.Prelude.{sum_by}
use Rattle.std.specs.List.{range_with_len}
use Rattle.std.proofs.lemmas.List.{length_push, take_all, take_more}
use Rattle.std.proofs.lemmas.List.Sums.{sum_by-cons, sum_by_push}
use Rattle.std.proofs.lemmas.Option.{slice_get-get_or, slice_get_within, get_or_from_slice_get}
use Rattle.verdict_meaning.specs.declared.callee.Callee.{Callee}
use Rattle.verdict_meaning.specs.Systems.{System, root, members, callee, callees, callee_parts, nobody, count, parts_before}
use Rattle.unit_answers.specs.declared.layouts.Call.{Call}
use Rattle.unit_answers.specs.Layouts.{GroupNumbers, AreGroupNumbers, IsCallAt, IsLayoutOf, numbers_in, no_numbers}
use Rattle.unit_answers.proofs.Places.{get_push_cases, get_below}
use Rattle.program_shapes.specs.declared.groups.SiteShape.{SiteShape}
use Rattle.program_shapes.specs.Tables.{GroupTable, parts_there, IsSiteOf, AreSitesOf, IsSiteShape, IsGroupTable, AreGroupTables}

-- what a call is read as where there is none
abbrev pub no_call : Call
no_call = record { callee = record { proc = 0; group = 0 }; there = record { first = 0; count = 0 }; here = record { first = 0; count = 0 } }

range_size : (n k : ℕ) → length (range_with_len n k) ≡ k
range_size n zero = refl
range_size n (suc k) = let rest = range_size (n + 1) k in omega arith

call_parts : (s : System) (g site : ℕ) (c : Call) → IsCallAt s g site c → parts_there c ≡ callee_parts s (callee s g site)
call_parts s g site c h =
    let e = ap length h.there in
    let a = range_size c.there.first c.there.count in
    let b = range_size (suc (s.fields + parts_before s c.callee.proc (members s c.callee.group))) (s.parts c.callee.proc) in
    let same : s.parts c.callee.proc ≡ callee_parts s (callee s g site) = ap (callee_parts s) h.callee in
    omega arith

pub sites_none : (outer : ℕ) (calls : List Call) → AreSitesOf outer 0 calls []
sites_none outer calls = record { size = refl; each = λ k x at. cc }

pub sites_next : (outer n before : ℕ) (calls : List Call) (old new : List SiteShape) (c : Call) (x : SiteShape) → n < length calls → x.callee ≡ (get_or calls n c).callee → x.before ≡ before
    → before ≡ outer + sum_by parts_there (take n calls) → new ≡ old ++ x ∷ [] → AreSitesOf outer n calls old → AreSitesOf outer (n + 1) calls new
sites_next outer n before calls old new c x lt who is sum put h = subst (λ (xs : List SiteShape). AreSitesOf outer (n + 1) calls xs) (sym put) (record {
  size = length_push old x ∙ ap (λ k. k + 1) h.size;
  each = λ k y there. elim (get_push_cases old x k y there) [
    | inl was ↦ h.each k y was
    | inr e ↦
        let place : k ≡ n = e.0 ∙ h.size in
        subst (λ (z : SiteShape). IsSiteOf outer k calls z) e.1
        (subst (λ (i : ℕ). IsSiteOf outer i calls x) (sym place) (record { call = get_or calls n c; there = slice_get-get_or calls n c lt; callee = who; before = is ∙ sum }))
  ];
})

pub sum_next : (n : ℕ) (calls : List Call) (c : Call) → n < length calls → sum_by parts_there (take (n + 1) calls) ≡ sum_by parts_there (take n calls) + (get_or calls n c).there.count
sum_next n calls c lt = ap (sum_by parts_there) (take_more calls n c lt) ∙ sum_by_push parts_there (take n calls) (get_or calls n c)

-- the parts of calls are those of the procedures that they call
sums_agree : (s : System) (calls : List Call) (cs : List Callee) → length calls ≡ length cs → ((k : ℕ) (c : Call) → slice_get calls k ≡ Some c → parts_there c ≡ callee_parts s (get_or cs k nobody)) → (n : ℕ)
    → sum_by parts_there (take n calls) ≡ sum_by (callee_parts s) (take n cs)
sums_agree s [] [] e h zero = refl
sums_agree s [] [] e h (suc n) = refl
sums_agree s [] (d ∷ cs) e h n = absurd (omega arith)
sums_agree s (c ∷ calls) [] e h n = absurd (omega arith)
sums_agree s (c ∷ calls) (d ∷ cs) e h zero = refl
sums_agree s (c ∷ calls) (d ∷ cs) e h (suc n) =
    let rest = sums_agree s calls cs (omega arith) (λ k b at. h (suc k) b at) n in
    let one = h 0 c refl in
    let left = sum_by-cons parts_there c (take n calls) in
    let right = sum_by-cons (callee_parts s) d (take n cs) in
    omega arith

-- all sites
pub table_of : (s : System) (g pointers own parts : ℕ) (numbers : GroupNumbers) (sites : List SiteShape) → pointers ≡ s.fields → AreGroupNumbers s g numbers → own ≡ numbers.outer - pointers
    → AreSitesOf numbers.outer (length numbers.calls) numbers.calls sites → parts ≡ sum_by parts_there numbers.calls → IsGroupTable s g (record { count = numbers.count; own = own; called = parts; sites = sites })
table_of s g pointers own parts numbers sites fields are own_is h sum = record {
  count_is = are.count;
  small = are.small;
  own = (let o = are.outer in omega arith);
  called =
      sum ∙ sym (ap (sum_by parts_there) (take_all (length numbers.calls) numbers.calls (omega arith)))
      ∙ agree (length numbers.calls)
      ∙ ap (sum_by (callee_parts s)) (take_all (length numbers.calls) (callees s g) (let e = are.sites in omega arith));
  sites = (let e = are.sites in let f = h.size in omega arith);
  few = (let e = are.few in let f = h.size in omega arith);
  each = λ site x at.
      let e = h.each site x at in
      record {
        callee_is = e.callee ∙ (are.each site e.call e.there).callee;
        before = (let b = e.before in let a = agree site in let o = are.outer in omega arith);
      };
}
  where
    agree : (k : ℕ) → sum_by parts_there (take k numbers.calls) ≡ sum_by (callee_parts s) (take k (callees s g))
    agree k = sums_agree s numbers.calls (callees s g) are.sites (λ i c at. call_parts s g i c (are.each i c at)) k

-- By group

pub record AreTablesOf (s : System) (n : ℕ) (xs : List GroupTable) : Type 0 where
  pub size : length xs ≡ n
  pub each : (g : ℕ) (x : GroupTable) → slice_get xs g ≡ Some x → IsGroupTable s g x

pub tables_none : (s : System) → AreTablesOf s 0 []
tables_none s = record { size = refl; each = λ g x at. cc }

pub tables_next : (s : System) (n : ℕ) (xs : List GroupTable) (x : GroupTable) → (new : List GroupTable) → new ≡ xs ++ x ∷ [] → IsGroupTable s n x → AreTablesOf s n xs → AreTablesOf s (n + 1) new
tables_next s n xs x new put is h = subst (λ (ys : List GroupTable). AreTablesOf s (n + 1) ys) (sym put) (record {
  size = length_push xs x ∙ ap (λ k. k + 1) h.size;
  each = λ g y at. elim (get_push_cases xs x g y at) [
    | inl was ↦ h.each g y was
    | inr e ↦ subst (λ (z : GroupTable). IsGroupTable s g z) e.1 (subst (λ (i : ℕ). IsGroupTable s i x) (sym (e.0 ∙ h.size)) is)
  ];
})

pub tables_all : (s : System) (n : ℕ) (xs : List GroupTable) → n ≡ suc (root s) → n ≤ 2 ^ 32 → AreTablesOf s n xs → AreGroupTables s xs
tables_all s n xs all few h = record {
  size = h.size ∙ all;
  few = omega arith;
  each = h.each;
}

-- the table of a group, as it is read
pub table_read : (s : System) (xs : List GroupTable) (g : ℕ) (x : GroupTable) → AreGroupTables s xs → g ≤ root s → x ≡ get_or xs g x → IsGroupTable s g x
table_read s xs g x are le e = are.each g x (slice_get-get_or xs g x (let size = are.size in omega arith) ∙ ap Some (sym e))

pub site_read : (s : System) (g site : ℕ) (t : GroupTable) (y : SiteShape) → IsGroupTable s g t → site < length (callees s g) → y ≡ get_or t.sites site y → IsSiteShape s g site y
site_read s g site t y is lt e = is.each site y (slice_get-get_or t.sites site y (let size = is.sites in omega arith) ∙ ap Some (sym e))
