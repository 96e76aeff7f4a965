-- Where interfaces stand among the bits of a group.
use Rattle.std.specs.Prelude.{sum_by}
use Rattle.std.specs.List.{range_with_len}
use Rattle.std.proofs.Common.{◌≡◌, ℕ, suc, ◌+◌, ◌-◌, ◌<◌, ◌≤◌, Bool, List, [], ◌++◌, refl, sym, ap, ◌∙◌, arith, length, get_or, take, drop, map}
use Rattle.std.proofs.lemmas.List.{take-append-drop, length-take-le, length-drop}
use Rattle.std.proofs.lemmas.List.Sums.{sum_by_more, sum_by-take-le}
use Rattle.verdict_meaning.specs.declared.callee.Callee.{Callee}
use Rattle.verdict_meaning.specs.Systems.{System, root, members, callee, callees, callee_parts, nobody, count, parts_before}
use Rattle.verdict_meaning.specs.Certificates.{bit_at}
use Rattle.verdict_meaning.proofs.Bits.{bits_at, part_within}
use Rattle.call_search.specs.Shapes.{IsThere, before_own, before_site}

pub own_within : (s : System) (c : Callee) → IsThere s c → before_own s c + s.parts c.proc ≤ count s c.group
own_within s c h =
    let m : List ℕ = members s c.group in
    let le : parts_before s c.proc m + s.parts c.proc ≤ sum_by s.parts m = part_within s c.proc m h.member.0 h.member.1 h.member.2 in
    omega arith

total_within : (s : System) (cs : List Callee) (k : ℕ) → k < length cs → sum_by (callee_parts s) (take k cs) + callee_parts s (get_or cs k nobody) ≤ sum_by (callee_parts s) cs
total_within s cs k lt =
    let a = sum_by_more (callee_parts s) cs k nobody lt in
    let b = sum_by-take-le (callee_parts s) cs (k + 1) in
    omega arith

pub site_within : (s : System) (g site : ℕ) → site < length (callees s g) → before_site s g site + callee_parts s (callee s g site) ≤ count s g
site_within s g site lt =
    let h : sum_by (callee_parts s) (take site (callees s g)) + callee_parts s (callee s g site) ≤ sum_by (callee_parts s) (callees s g) = total_within s (callees s g) site lt in
    omega arith

pub site_next : (s : System) (g site : ℕ) → site < length (callees s g) → before_site s g (site + 1) ≡ before_site s g site + callee_parts s (callee s g site)
site_next s g site lt = let a = sum_by_more (callee_parts s) (callees s g) site nobody lt in omega arith

-- a part of some bits, as the values of their unknowns
pub part_values : (bs : List Bool) (p n : ℕ) → p + n ≤ length bs → take n (drop p bs) ≡ map (bit_at bs) (range_with_len (suc p) n)
part_values bs p n le =
    let a : length (take p bs) ≡ p = length-take-le p bs (omega arith) in
    let d : length (drop p bs) ≡ length bs - p = length-drop p bs in
    let b : length (take n (drop p bs)) ≡ n = length-take-le n (drop p bs) (omega arith) in
    sym (bits_at bs (take p bs) (take n (drop p bs)) (drop n (drop p bs)) (suc p) n
    (sym (ap (λ l. take p bs ++ l) (take-append-drop n (drop p bs)) ∙ take-append-drop p bs)) (omega arith) (sym b))

pub own_range : (s : System) (c : Callee) (r p : ℕ) (bs : List Bool) → IsThere s c → length bs ≡ count s c.group → r ≡ before_own s c → p ≡ s.parts c.proc → r + p ≤ length bs
own_range s c r p bs h size e f = let le = own_within s c h in omega arith

pub site_range : (s : System) (g site : ℕ) (c : Callee) (r p : ℕ) (bs : List Bool) → site < length (callees s g) → length bs ≡ count s g → r ≡ before_site s g site → c ≡ callee s g site → p ≡ s.parts c.proc → r + p ≤ length bs
site_range s g site c r p bs lt size e k f =
    let le = site_within s g site lt in
    let q : p ≡ callee_parts s (callee s g site) = f ∙ ap (callee_parts s) k in
    omega arith

pub range_values : (bs : List Bool) (r p b n : ℕ) → r ≡ b → p ≡ n → r + p ≤ length bs → take (r + p - r) (drop r bs) ≡ map (bit_at bs) (range_with_len (suc b) n)
range_values bs r p b n e f le =
    let d : r + p - r ≡ n = omega arith in
    ap (λ k. take k (drop r bs)) d ∙ ap (λ k. take n (drop k bs)) e ∙ part_values bs b n (omega arith)

pub phi_values : (s : System) (bs : List Bool) (n : ℕ) → n ≡ s.fields → length bs ≡ count s (root s) → take n bs ≡ map (bit_at bs) (range_with_len 1 s.fields)
phi_values s bs n e size =
    let b : length (take n bs) ≡ n = length-take-le n bs (omega arith) in
    sym (bits_at bs [] (take n bs) (drop n bs) 1 s.fields (sym (take-append-drop n bs)) refl (sym e ∙ sym b))
