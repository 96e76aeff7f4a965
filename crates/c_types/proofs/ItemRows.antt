-- The rules of declarations, read at an index.
use Rattle.std.proofs.Common.{◌≡◌, ℕ, suc, ◌+◌, ◌<◌, ◌≢◌, Bool, true, false, not, ◌&&◌, List, [], ◌∷◌, ◌++◌, length, get_or, drop, map, Option, Some, None, is_some, is_none, option_map, refl, sym, ap, ◌∙◌, add-one, drop-cons}
use Rattle.c_tree.specs.View.{proc_view, stmt_view}
use Rattle.c_tree.specs.declared.tree.Member.{Member}
use Rattle.c_tree.specs.declared.tree.StructDef.{StructDef}
use Rattle.c_tree.specs.declared.tree.Stmt.{Stmt}
use Rattle.c_tree.specs.declared.tree.ProcItem.{ProcItem}
use Rattle.c_types.specs.declared.kinds.SlotType.{SlotType}
use Rattle.c_types.specs.declared.tables.Tables.{Tables}
use Rattle.c_types.specs.declared.scope.Scope.{Scope}
use Rattle.c_types.specs.Names.{has_name, with_name}
use Rattle.c_types.specs.Types.{same_type, same_types}
use Rattle.c_types.specs.Breaches.{soonest, sooner, breach_if}
use Rattle.c_types.specs.Scopes.{is_empty, breaks_5, with_param, with_params}
use Rattle.c_types.specs.Items.{members_breaches, structs_breaches, params_breaches, proc_breaches, procs_breaches, proc_info, chosen, with_prototype, bodied_infos, external_infos}
use Rattle.c_types.specs.Declarations.{with_body}
use Rattle.c_types.proofs.Firsts.{sooner_assoc}

pub members_breaches_at : (seen : List (List ℕ)) (ms : List Member) (i : ℕ) (d : Member) → i < length ms
    → members_breaches soonest seen (drop i ms)
    ≡ sooner (breach_if soonest (has_name seen (get_or ms i d).name) (get_or ms i d).at 2) (members_breaches soonest (with_name seen (get_or ms i d).name) (drop (i + 1) ms))
members_breaches_at seen ms i d h = rw (add-one i, drop-cons ms i d h) refl

pub structs_breaches_at : (seen : List (List ℕ)) (ds : List StructDef) (i : ℕ) (d : StructDef) → i < length ds
    → structs_breaches soonest seen (drop i ds)
    ≡ sooner (sooner (breach_if soonest (has_name seen (get_or ds i d).tag) (get_or ds i d).at 1) (members_breaches soonest [] (get_or ds i d).members))
    (structs_breaches soonest (with_name seen (get_or ds i d).tag) (drop (i + 1) ds))
structs_breaches_at seen ds i d h =
    rw (add-one i, drop-cons ds i d h)
    (sym (sooner_assoc (breach_if soonest (has_name seen (get_or ds i d).tag) (get_or ds i d).at 1) (members_breaches soonest [] (get_or ds i d).members) (structs_breaches soonest (with_name seen (get_or ds i d).tag) (drop (suc i) ds))))

pub same_types_at : (ks ls : List SlotType) (i : ℕ) (k l : SlotType) → i < length ks → i < length ls
    → same_types (drop i ks) (drop i ls) ≡ (same_type (get_or ks i k) (get_or ls i l) && same_types (drop (i + 1) ks) (drop (i + 1) ls))
same_types_at ks ls i k l g h = rw (add-one i, drop-cons ks i k g, drop-cons ls i l h) refl

pub same_types_end : (ks ls : List SlotType) → length ks ≢ length ls → same_types ks ls ≡ false
same_types_end [] [] h = absurd (h refl)
same_types_end [] (l ∷ ls) h = refl
same_types_end (k ∷ ks) [] h = refl
same_types_end (k ∷ ks) (l ∷ ls) h = rw (same_types_end ks ls (λ e. h (ap suc e))) (both_false (same_type k l))
  where
    both_false : (b : Bool) → (b && false) ≡ false
    both_false true = refl
    both_false false = refl

pub params_breaches_at : (c : Tables) (s : Scope) (ms : List Member) (i : ℕ) (d : Member) → i < length ms
    → params_breaches soonest c s (drop i ms)
    ≡ sooner (breach_if soonest (not (is_empty (get_or ms i d).name) && breaks_5 s (get_or ms i d).name) (get_or ms i d).at 5) (params_breaches soonest c (with_param c.tags s (get_or ms i d)) (drop (i + 1) ms))
params_breaches_at c s ms i d h = rw (add-one i, drop-cons ms i d h) refl

pub with_params_at : (tags : List (List ℕ)) (s : Scope) (ms : List Member) (i : ℕ) (d : Member) → i < length ms
    → with_params tags s (drop i ms) ≡ with_params tags (with_param tags s (get_or ms i d)) (drop (i + 1) ms)
with_params_at tags s ms i d h = rw (add-one i, drop-cons ms i d h) refl

is_some-view : (o : Option Stmt) → is_some (option_map stmt_view o) ≡ is_some o
is_some-view None = refl
is_some-view (Some s) = refl

is_none-view : (o : Option Stmt) → is_none (option_map stmt_view o) ≡ is_none o
is_none-view None = refl
is_none-view (Some s) = refl

pub procs_breaches_at : (c : Tables) (bodied : List (List ℕ)) (ps : List ProcItem) (i : ℕ) (d : ProcItem) → i < length ps
    → procs_breaches soonest c bodied (map proc_view (drop i ps))
    ≡ sooner (proc_breaches soonest c bodied (proc_view (get_or ps i d))) (procs_breaches soonest c (with_body bodied (proc_view (get_or ps i d))) (map proc_view (drop (i + 1) ps)))
procs_breaches_at c bodied ps i d h = rw (add-one i, drop-cons ps i d h) refl

pub bodied_infos_at : (c : Tables) (bodied : List (List ℕ)) (n : ℕ) (ps : List ProcItem) (i : ℕ) (d : ProcItem) → i < length ps
    → bodied_infos c bodied n (map proc_view (drop i ps))
    ≡ chosen (is_some (get_or ps i d).body && not (has_name bodied (get_or ps i d).name)) (proc_info c n (proc_view (get_or ps i d))) ++ bodied_infos c (with_body bodied (proc_view (get_or ps i d))) (n + 1) (map proc_view (drop (i + 1) ps))
bodied_infos_at c bodied n ps i d h = rw (add-one i, drop-cons ps i d h, is_some-view (get_or ps i d).body) refl

pub external_infos_at : (c : Tables) (known : List (List ℕ)) (n : ℕ) (ps : List ProcItem) (i : ℕ) (d : ProcItem) → i < length ps
    → external_infos c known n (map proc_view (drop i ps))
    ≡ chosen (is_none (get_or ps i d).body && not (has_name known (get_or ps i d).name)) (proc_info c n (proc_view (get_or ps i d))) ++ external_infos c (with_prototype known (proc_view (get_or ps i d))) (n + 1) (map proc_view (drop (i + 1) ps))
external_infos_at c known n ps i d h = rw (add-one i, drop-cons ps i d h, is_none-view (get_or ps i d).body) refl

-- the same, at an item of the row
module _ (c : Tables) (ps : List ProcItem) (i : ℕ) (p : ProcItem) (within : i < length ps) (is : p ≡ get_or ps i p) where
  pub procs_breaches_item : (bodied : List (List ℕ)) → procs_breaches soonest c bodied (map proc_view (drop i ps))
      ≡ sooner (proc_breaches soonest c bodied (proc_view p)) (procs_breaches soonest c (with_body bodied (proc_view p)) (map proc_view (drop (i + 1) ps)))
  procs_breaches_item bodied = procs_breaches_at c bodied ps i p within
      ∙ ap (λ x. sooner (proc_breaches soonest c bodied (proc_view x)) (procs_breaches soonest c (with_body bodied (proc_view x)) (map proc_view (drop (i + 1) ps)))) (sym is)

  pub bodied_infos_item : (bodied : List (List ℕ)) → bodied_infos c bodied i (map proc_view (drop i ps))
      ≡ chosen (is_some p.body && not (has_name bodied p.name)) (proc_info c i (proc_view p)) ++ bodied_infos c (with_body bodied (proc_view p)) (i + 1) (map proc_view (drop (i + 1) ps))
  bodied_infos_item bodied = bodied_infos_at c bodied i ps i p within
      ∙ ap (λ (x : ProcItem). chosen (is_some x.body && not (has_name bodied x.name)) (proc_info c i (proc_view x)) ++ bodied_infos c (with_body bodied (proc_view x)) (i + 1) (map proc_view (drop (i + 1) ps))) (sym is)

  pub external_infos_item : (known : List (List ℕ)) → external_infos c known i (map proc_view (drop i ps))
      ≡ chosen (is_none p.body && not (has_name known p.name)) (proc_info c i (proc_view p)) ++ external_infos c (with_prototype known (proc_view p)) (i + 1) (map proc_view (drop (i + 1) ps))
  external_infos_item known = external_infos_at c known i ps i p within
      ∙ ap (λ (x : ProcItem). chosen (is_none x.body && not (has_name known x.name)) (proc_info c i (proc_view x)) ++ external_infos c (with_prototype known (proc_view x)) (i + 1) (map proc_view (drop (i + 1) ps))) (sym is)
