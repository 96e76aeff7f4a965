-- Definitions over the lists of a typed tree, read at an index.
use Rattle.std.proofs.Common.{◌≡◌, ℕ, ◌+◌, ◌<◌, ◌≤◌, ◌++◌, ◌∷◌, [], zero, suc, List, length, map, get_or, drop, refl, sym, ap, ◌∙◌, arith, add-one, drop-cons, nat_eq, sum_by, true, ltb}
use Rattle.std.proofs.lemmas.Bool.{ltb-true}
use Rattle.std.proofs.lemmas.Option.{slice_get-get_or}
use Rattle.std.proofs.lemmas.List.{get_or-map, length-map}
use Rattle.std.proofs.lemmas.List.Sums.{get_or-le-sum_by}
use Rattle.c_tree.specs.declared.tree.Tree.{Tree}
use Rattle.c_tree.specs.declared.tree.ProcItem.{ProcItem}
use Rattle.c_tree.specs.Nodes.{body_count, proc_size}
use Rattle.c_tree.specs.View.{proc_view, stmt_view}
use Rattle.c_types.specs.declared.infos.ProcInfo.{ProcInfo}
use Rattle.std.specs.Prelude.{option_map, slice_get, Some, None}
use Rattle.flow_graph.specs.GraphOf.{flows_from, flow_of_proc, all_strings, strings_of, body_of}

pub flows_at : (t : Tree) (types main k before : ℕ) (ps : List ProcInfo) (i : ℕ) (d : ProcInfo) → i < length ps
    → flows_from t types main k before (drop i ps)
    ≡ flow_of_proc types (nat_eq k main) before (get_or ps i d) (body_of t (get_or ps i d)) ∷ flows_from t types main (k + 1) (before + length (strings_of (body_of t (get_or ps i d)))) (drop (i + 1) ps)
flows_at t types main k before ps i d h = rw (add-one i, drop-cons ps i d h) refl

pub all_strings_at : (t : Tree) (ps : List ProcInfo) (i : ℕ) (d : ProcInfo) → i < length ps
    → all_strings t (drop i ps) ≡ strings_of (body_of t (get_or ps i d)) ++ all_strings t (drop (i + 1) ps)
all_strings_at t ps i d h = rw (add-one i, drop-cons ps i d h) refl

pub body_count-le : (is : List ProcItem) (k : ℕ) (q : ProcItem) → true ≡ ltb k (length is) → q ≡ get_or is k q
    → body_count (option_map stmt_view q.body) ≤ sum_by proc_size (map proc_view is)
body_count-le is k q within is_q =
    let h : k < length is = ltb-true k (length is) (sym within) in
    let n = length-map is proc_view in
    let a = get_or-le-sum_by proc_size (map proc_view is) k (proc_view q) (omega arith) in
    let b = ap proc_size (get_or-map proc_view is k q (proc_view q) h) in
    let c = ap (λ (x : ProcItem). proc_size (proc_view x)) is_q in
    omega arith

pub item_got : (is : List ProcItem) (k : ℕ) (q : ProcItem) → true ≡ ltb k (length is) → q ≡ get_or is k q → slice_get is k ≡ Some q
item_got is k q within is_q = slice_get-get_or is k q (ltb-true k (length is) (sym within)) ∙ ap Some (sym is_q)

pub item_missing : (is : List ProcItem) (k : ℕ) → length is ≤ k → slice_get is k ≡ None
item_missing [] k h = refl
item_missing (p ∷ is) zero h = absurd (omega (arith, h))
item_missing (p ∷ is) (suc k) h = item_missing is k (omega (arith, h))
