use Rattle.std.proofs.Common.{◌≡◌, ℕ, ◌+◌, ◌<◌, ◌++◌, List, length, get_or, take, replicate, sym, ap, ◌∙◌, arith}
use Rattle.verdict_meaning.specs.Systems.{System, callees, callee_parts, nobody}
use Rattle.cert_checker.proofs.MarkLemmas.{one_more_part}
use Rattle.cert_checker.proofs.marks.push_site_lines.Goals as goal

pub loop-site-preserved : goal.loop-site-preserved
loop-site-preserved g c =
    let s : System = g.G.Groups.system c.args.groups.now in
    let lt : c.loop-site.site < length (callees s c.args.group) = (let e = ap length c.callees-count.ensures in omega arith) in
    one_more_part (callee_parts s) (callees s c.args.group) c.args.lines.now.items c.loop-site.lines.items c.push_copies.new.lines.items c.loop-site.site nobody c.args.line lt c.loop-site.invariant
    (c.in_ok-push_copies.ensures ∙ ap (λ (n : ℕ). c.loop-site.lines.items ++ replicate n c.args.line) c.site_parts.ensures)
