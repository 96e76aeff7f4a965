use Rattle.std.proofs.Common.{◌≡◌, ℕ, ◌+◌, ◌<◌, ◌++◌, Bool, List, Some, length, get_or, slice_get, sym, ap, ◌∙◌, subst, arith, rules, refl}
use Rattle.std.proofs.lemmas.Option.{slice_get_within, slice_get_read}
use Rattle.own_cert.specs.declared.certificate.Instance.{Instance}
use Rattle.verdict_meaning.specs.Systems.{callee, callees}
use Rattle.cert_checker.proofs.SiteLemmas.{no_site_bits, enters_at, entered, one_more_face}
use Rattle.cert_checker.proofs.bits.push_site_bits.Goals as goal

pub loop-number-init : goal.loop-number-init
loop-number-init g c =
    no_site_bits c.args.bits.now.items (g.G.Groups.system c.args.groups.now) c.args.instances.now (callees (g.G.Groups.system c.args.groups.now) c.args.instance.now.group)

pub bounds-instances-number : goal.bounds-instances-number
bounds-instances-number g c =
    let same : c.deref-number-items.result.now ≡ c.args.instance.now.sites = search rules in
    let lt : c.loop-number.number-index < length c.args.instance.now.sites = (let e = ap length same in omega arith) in
    let e = enters_at (g.G.Groups.system c.args.groups.now) c.args.instances.now c.args.instance.now c.loop-number.number-index c.requires lt in
    subst (λ (ns : List ℕ). get_or ns c.loop-number.number-index 0 < length c.args.instances.now) (sym same)
    (slice_get_within c.args.instances.now (get_or c.args.instance.now.sites c.loop-number.number-index 0) e.instance e.there)

pub entry_bits-requires-clause-group : goal.entry_bits-requires-clause-group
entry_bits-requires-clause-group g c =
    let same : c.deref-number-items.result.now ≡ c.args.instance.now.sites = search rules in
    let k : ℕ = c.loop-number.number-index in
    let lt : k < length c.args.instance.now.sites = (let e = ap length same in omega arith) in
    let s = g.G.Groups.system c.args.groups.now in
    let e = enters_at s c.args.instances.now c.args.instance.now k c.requires lt in
    let m : ℕ = get_or c.args.instance.now.sites k 0 in
    let in_list = slice_get_within c.args.instances.now m e.instance e.there in
    let at : slice_get c.args.instances.now m ≡ Some c.index-instances-number.result =
    slice_get_read c.args.instances.now (length c.args.instances.now) m c.index-instances-number.result refl in_list (rw same at c.index-instances-number.is) in
    (entered s c.args.instances.now (callee s c.args.instance.now.group k) m c.index-instances-number.result e at).0

pub entry_bits-requires-clause-entry : goal.entry_bits-requires-clause-entry
entry_bits-requires-clause-entry g c =
    let same : c.deref-number-items.result.now ≡ c.args.instance.now.sites = search rules in
    let k : ℕ = c.loop-number.number-index in
    let lt : k < length c.args.instance.now.sites = (let e = ap length same in omega arith) in
    let s = g.G.Groups.system c.args.groups.now in
    let e = enters_at s c.args.instances.now c.args.instance.now k c.requires lt in
    let m : ℕ = get_or c.args.instance.now.sites k 0 in
    let in_list = slice_get_within c.args.instances.now m e.instance e.there in
    let at : slice_get c.args.instances.now m ≡ Some c.index-instances-number.result =
    slice_get_read c.args.instances.now (length c.args.instances.now) m c.index-instances-number.result refl in_list (rw same at c.index-instances-number.is) in
    (entered s c.args.instances.now (callee s c.args.instance.now.group k) m c.index-instances-number.result e at).1

pub loop-number-preserved : goal.loop-number-preserved
loop-number-preserved g c =
    let same : c.deref-number-items.result.now ≡ c.args.instance.now.sites = search rules in
    let k : ℕ = c.loop-number.number-index in
    let lt : k < length c.args.instance.now.sites = (let e = ap length same in omega arith) in
    let s = g.G.Groups.system c.args.groups.now in
    let e = enters_at s c.args.instances.now c.args.instance.now k c.requires lt in
    let m : ℕ = get_or c.args.instance.now.sites k 0 in
    let in_list = slice_get_within c.args.instances.now m e.instance e.there in
    let at : slice_get c.args.instances.now m ≡ Some c.index-instances-number.result =
    slice_get_read c.args.instances.now (length c.args.instances.now) m c.index-instances-number.result refl in_list (rw same at c.index-instances-number.is) in
    one_more_face c.args.bits.now.items c.loop-number.bits.items c.extend_from_slice.new.self.items s c.args.instances.now c.args.instance.now c.index-instances-number.result k c.requires lt at
    c.loop-number.invariant (c.in_ok-extend_from_slice.ensures.items ∙ ap (λ (bs : List Bool). c.loop-number.bits.items ++ bs) c.entry_bits.ensures)
