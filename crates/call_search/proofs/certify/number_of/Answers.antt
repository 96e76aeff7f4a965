use Rattle.std.proofs.Common.{◌≡◌, ◌+◌, ◌∙◌, ap, sym, List, slice_get, get_or}
use Rattle.call_search.specs.declared.entries.Entry.{Entry}
use Rattle.call_search.specs.Made.{IsNumberOf}
use Rattle.call_search.proofs.Certifying.{if_ok, numbered_at, other_default}
use Rattle.call_search.proofs.certify.number_of.Goals as goal

pub find-requires : goal.find-requires
find-requires g c n e at = c.requires.sized c.args.callee.group n e (ap (λ (xs : List Entry). slice_get xs n) (sym c.listed.ensures) ∙ at)

pub returns-in-Some : goal.returns-in-Some
returns-in-Some g c =
    if_ok c.added.result (λ m. m ≡ get_or c.args.bases.now c.args.callee.group 0 + c.in-Some.at) (IsNumberOf (g.G.Shapes.system c.args.groups.now) c.args.table.now.items c.args.callee c.args.face.now)
    (λ m e. numbered_at (g.G.Shapes.system c.args.groups.now) c.args.table.now.items c.args.bases.now c.args.callee c.args.face.now c.listed.result.now c.in-Some.at (get_or c.args.bases.now c.args.callee.group 0) m c.requires.bases c.requires.group
    (other_default c.args.table.now.items c.args.bases.now c.args.callee.group c.requires.bases c.requires.group) c.listed.ensures c.in-Some.ensures e)
    c.added.ensures
