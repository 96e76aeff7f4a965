use Rattle.std.proofs.Common.{◌<◌, ℕ, Option, List, length, sym, subst}
use Rattle.std.specs.List.{Contains}
use Rattle.path_facts.specs.Progress.{AreRows, IsClosedAt}
use Rattle.path_facts.proofs.TableLemmas.{table_exact}
use Rattle.path_facts.proofs.table.Table.of.Goals as goal

pub settle-requires-clause-every : goal.settle-requires-clause-every
settle-requires-clause-every c p inside =
    let P : List ℕ → Type 0 = λ ps. Contains ps p in
    subst P (sym c.as_slice-3.ensures.value) (c.in_ok-order.ensures.every p inside)

pub returns : goal.returns
returns c =
    let g = c.args.graph.now in
    let k = c.args.proc in
    let rows = c.settle.new.self.rows.items in
    let P : List (Option ℕ) → Type 0 = λ ts. AreRows g k ts rows in
    let Q : List (Option ℕ) → Type 0 = λ ts. (p : ℕ) → p < length rows → IsClosedAt g k ts rows p in
    table_exact g k c.in_ok-tracks.tracks.items c.in_ok-tracks.ensures c.requires.graph c.requires.body rows
    (subst P c.as_slice-2.ensures.value c.settle.ensures.rows) (subst Q c.as_slice-2.ensures.value c.settle.ensures.closed)
