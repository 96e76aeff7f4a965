use Rattle.std.proofs.Common.{◌≡◌, ◌<◌, ◌++◌, List, length, map, sym, ap, ◌∙◌, arith}
use Rattle.c_tree.specs.declared.tree.StructDef.{StructDef}
use Rattle.c_tree.specs.Plain.{Procedure}
use Rattle.c_tree.specs.View.{proc_view, tree_view}
use Rattle.c_grammar.specs.ReadItems.{items}
use Rattle.c_parser.specs.ItemViews.{item_row}
use Rattle.c_parser.proofs.Stages.{refused}
use Rattle.c_parser.proofs.ItemLoops.{item_shorter, items_more, items_refused, items_end, placed_none, structs_of, procs_of, structs_same, procs_same, view_procs}
use Rattle.c_parser.proofs.file.file.Goals as goal

pub file_items-init : goal.file_items-init
file_items-init c =
    let ts = c.args.tokens.now in
    (length ts, omega arith, rw (c.new-structs.ensures, c.new-procs.ensures) (sym (placed_none (items (length ts) ts))))

pub file_items-smaller : goal.file_items-smaller
file_items-smaller c = item_shorter c.file_items.rest.now (item_row c.in_ok-row.row) c.in_ok-row.ensures

pub file_items-preserved : goal.file_items-preserved
file_items-preserved c =
    let inv = c.file_items.invariant in
    let r = item_row c.in_ok-row.row in
    let i = c.in_ok-row.row.item in
    let ss = c.file_items.structs in
    let ps = c.file_items.procs in
    let less = item_shorter c.file_items.rest.now r c.in_ok-row.ensures in
    let next = items_more inv.0 ss (map proc_view ps) c.file_items.rest.now r inv.1 less c.in_ok-row.ensures in
    let structs : c.put.new.structs ≡ ss ++ structs_of r.item = c.in_ok-put.ensures.structs ∙ ap (λ (x : List StructDef). ss ++ x) (sym (structs_same i)) in
    let procs : map proc_view c.put.new.procs ≡ map proc_view ps ++ procs_of r.item =
    ap (map proc_view) c.in_ok-put.ensures.procs ∙ view_procs ps _ ∙ ap (λ (x : List Procedure). map proc_view ps ++ x) (sym (procs_same i)) in
    (next.0, next.1, rw (structs, procs) (inv.2 ∙ next.2))

pub returns-in_err-row : goal.returns-in_err-row
returns-in_err-row c =
    let inv = c.file_items.invariant in
    let some : 0 < length c.file_items.rest.now = omega (arith, c.file_items-test.true) in
    refused tree_view _ _ _ _ c.from_residual.ensures.1 c.in_err-row.ensures
    (λ none. inv.2 ∙ items_refused inv.0 c.file_items.structs (map proc_view c.file_items.procs) c.file_items.rest.now some none)

pub returns : goal.returns
returns c =
    let inv = c.file_items.invariant in
    let end : length c.file_items.rest.now ≡ 0 = omega (arith, c.file_items-test.false) in
    inv.2 ∙ items_end inv.0 c.file_items.structs (map proc_view c.file_items.procs) c.file_items.rest.now end
