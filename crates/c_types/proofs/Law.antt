-- The first of the broken rules is what the same rules give where only the soonest is kept.
use Rattle.std.proofs.Common.{◌≡◌, ℕ, List, [], ◌∷◌, ◌++◌, Bool, true, false, ◌||◌, ◌&&◌, not, Option, Some, None, slice_get, drop, is_some, refl, ap₂, ◌∙◌, arith}
use Rattle.c_tree.specs.declared.position.Span.{Span}
use Rattle.c_tree.specs.declared.tree.Member.{Member}
use Rattle.c_tree.specs.declared.tree.StructDef.{StructDef}
use Rattle.c_tree.specs.Plain.{Expr, num, text, null, name, call, new, new_of, arrow, index, not_of, neg, binary, Exprs, no_exprs, expr, Stmt, block, local, local_as, assign, do_call, free, when, when_else, while, for, break, continue, return, return_of, nothing, Stmts, no_stmts, stmt, Procedure, Tree}
use Rattle.c_types.specs.declared.kinds.SlotType.{SlotType}
use Rattle.c_types.specs.declared.kinds.Wanted.{Wanted}
use Rattle.c_types.specs.declared.kinds.Wanted.TheVariants as wanted
use Rattle.c_types.specs.declared.rules.Breach.{Breach}
use Rattle.c_types.specs.declared.tables.Tables.{Tables}
use Rattle.c_types.specs.declared.scope.Scope.{Scope}
use Rattle.c_types.specs.Names.{has_name, with_name}
use Rattle.c_types.specs.Types.{slot_type, type_of, wanted_for, wanted_by, binary_rule, breaks_binary, breaks_9, breaks_10, breaks_12, breaks_13, breaks_15, breaks_16}
use Rattle.c_types.specs.Breaches.{first, sooner, listed, soonest, breach_if}
use Rattle.c_types.specs.Declarations.{result_type, declarations, with_body}
use Rattle.c_types.specs.Scopes.{declared, entered, left, breaks_5, is_empty, no_scope, with_param, with_params}
use Rattle.c_types.specs.Exprs.{operand_of, breaches, args_breaches, params_of, unit_type, breaks_6, breaks_6_call, breaks_7, breaks_8, breaks_14, breaks_14_count, breaks_18}
use Rattle.c_types.specs.Stmts.{after, after_all, breaks_12_for, breaks_17, condition_breaches, stmt_breaches, stmts_breaches}
use Rattle.c_types.specs.Items.{breaks_3, breaks_4, members_breaches, structs_breaches, params_breaches, body_breaches, proc_breaches, procs_breaches, tree_breaches, broken_rules, refused_for}
use Rattle.c_types.specs.declared.error.TypeError.{TypeError}
use Rattle.c_types.proofs.Firsts.{first_append, sooner_right}

-- one rule
one : (b : Bool) (at : Span) (r : ℕ) → first (breach_if listed b at r) ≡ breach_if soonest b at r
one true at r = sooner_right _
one false at r = refl

-- these before those
both : (xs ys : List Breach) {a b : Option Breach} → first xs ≡ a → first ys ≡ b → first (xs ++ ys) ≡ sooner a b
both xs ys p q = first_append xs ys ∙ ap₂ sooner p q

-- one rule before those
own : (b : Bool) (at : Span) (r : ℕ) (ys : List Breach) {o : Option Breach} → first ys ≡ o → first (breach_if listed b at r ++ ys) ≡ sooner (breach_if soonest b at r) o
own b at r ys q = both (breach_if listed b at r) ys (one b at r) q

mutual
  pub law : (c : Tables) (s : Scope) (w : Wanted) (e : Expr) → first (breaches listed c s w e) ≡ breaches soonest c s w e
  law c s w (num at z) = refl
  law c s w (text at b) = refl
  law c s w (null at) = one _ at 19
  law c s w (name at x) = one (breaks_6 s x) at 6
  law c s w (call at f es) =
      let args = args_breaches listed c s (params_of c f) es in
      own (breaks_6_call c f) at 6 (breach_if listed (breaks_7 c s f es) at 7 ++ (breach_if listed (breaks_18 c w f) at 18 ++ args))
      (own (breaks_7 c s f es) at 7 (breach_if listed (breaks_18 c w f) at 18 ++ args) (own (breaks_18 c w f) at 18 args (law_args c s (params_of c f) es)))
  law c s w (new at n) = one (breaks_14 c (unit_type c s n.unit) n.cast n.unit) at 14
  law c s w (new_of at n e) =
      own (breaks_14 c (unit_type c s n.unit) n.cast n.unit || breaks_14_count (unit_type c s n.unit) n.zeroed e (operand_of c s e)) at 14
      (breaches listed c s wanted.Value e) (law c s wanted.Value e)
  law c s w (arrow at b f) = own (breaks_8 c (operand_of c s b) f) at 8 (breaches listed c s wanted.Value b) (law c s wanted.Value b)
  law c s w (index at b i) =
      own (breaks_9 (operand_of c s b) (operand_of c s i)) at 9 (breaches listed c s wanted.Value b ++ breaches listed c s wanted.Value i)
      (both (breaches listed c s wanted.Value b) (breaches listed c s wanted.Value i) (law c s wanted.Value b) (law c s wanted.Value i))
  law c s w (not_of at e) = own (breaks_12 (operand_of c s e)) at 12 (breaches listed c s wanted.Value e) (law c s wanted.Value e)
  law c s w (neg at e) = own (breaks_10 (operand_of c s e)) at 10 (breaches listed c s wanted.Value e) (law c s wanted.Value e)
  law c s w (binary at o a b) =
      let v = wanted_by o (operand_of c s b) in
      let u = wanted_by o (operand_of c s a) in
      own (breaks_binary (binary_rule o) (operand_of c s a) (operand_of c s b)) at (binary_rule o) (breaches listed c s v a ++ breaches listed c s u b)
      (both (breaches listed c s v a) (breaches listed c s u b) (law c s v a) (law c s u b))

  pub law_args : (c : Tables) (s : Scope) (ks : List SlotType) (es : Exprs) → first (args_breaches listed c s ks es) ≡ args_breaches soonest c s ks es
  law_args c s ks no_exprs = refl
  law_args c s ks (expr e es) =
      both (breaches listed c s (wanted_for (slice_get ks 0)) e) (args_breaches listed c s (drop 1 ks) es)
      (law c s (wanted_for (slice_get ks 0)) e) (law_args c s (drop 1 ks) es)

law_condition : (c : Tables) (s : Scope) (es : Exprs) → first (condition_breaches listed c s es) ≡ condition_breaches soonest c s es
law_condition c s no_exprs = refl
law_condition c s (expr e es) = law c s wanted.Value e

mutual
  pub law_stmt : (c : Tables) (r : Option SlotType) (l : Bool) (s : Scope) (st : Stmt) → first (stmt_breaches listed c r l s st) ≡ stmt_breaches soonest c r l s st
  law_stmt c r l s (block at sts) = law_stmts c r l (entered s) sts
  law_stmt c r l s (local at x t) = one (breaks_5 s x) at 5
  law_stmt c r l s (local_as at x t e) =
      let k = slot_type c.tags t in
      let s' = declared s x k at in
      let e' = breaches listed c s' (wanted.For k) e in
      own (breaks_5 s x) at 5 (breach_if listed (breaks_13 (Some k) (operand_of c s' e)) at 13 ++ e')
      (own (breaks_13 (Some k) (operand_of c s' e)) at 13 e' (law c s' (wanted.For k) e))
  law_stmt c r l s (assign at a e) =
      let k = type_of (operand_of c s a) in
      own (breaks_13 k (operand_of c s e)) at 13 (breaches listed c s wanted.Value a ++ breaches listed c s (wanted_for k) e)
      (both (breaches listed c s wanted.Value a) (breaches listed c s (wanted_for k) e) (law c s wanted.Value a) (law c s (wanted_for k) e))
  law_stmt c r l s (do_call at e) = law c s wanted.Nothing e
  law_stmt c r l s (free at e) = own (breaks_15 (operand_of c s e)) at 15 (breaches listed c s wanted.Value e) (law c s wanted.Value e)
  law_stmt c r l s (when at e st) =
      let e' = breaches listed c s wanted.Value e in
      let t' = stmt_breaches listed c r l s st in
      own (breaks_12 (operand_of c s e)) at 12 (e' ++ t') (both e' t' (law c s wanted.Value e) (law_stmt c r l s st))
  law_stmt c r l s (when_else at e st su) =
      let e' = breaches listed c s wanted.Value e in
      let t' = stmt_breaches listed c r l s st in
      let next = left s (after c s st) in
      let u' = stmt_breaches listed c r l next su in
      own (breaks_12 (operand_of c s e)) at 12 (e' ++ (t' ++ u'))
      (both e' (t' ++ u') (law c s wanted.Value e) (both t' u' (law_stmt c r l s st) (law_stmt c r l next su)))
  law_stmt c r l s (while at e st) =
      let e' = breaches listed c s wanted.Value e in
      let t' = stmt_breaches listed c r true s st in
      own (breaks_12 (operand_of c s e)) at 12 (e' ++ t') (both e' t' (law c s wanted.Value e) (law_stmt c r true s st))
  law_stmt c r l s (for at init e step st) =
      let s' = after_all c (entered s) init in
      let next = left s' (after_all c s' step) in
      let i' = stmts_breaches listed c r l (entered s) init in
      let e' = condition_breaches listed c s' e in
      let n' = stmts_breaches listed c r true s' step in
      let t' = stmt_breaches listed c r true next st in
      own (breaks_12_for c s' e) at 12 ((i' ++ e') ++ (n' ++ t'))
      (both (i' ++ e') (n' ++ t') (both i' e' (law_stmts c r l (entered s) init) (law_condition c s' e))
      (both n' t' (law_stmts c r true s' step) (law_stmt c r true next st)))
  law_stmt c r l s (break at) = one (breaks_17 l) at 17
  law_stmt c r l s (continue at) = one (breaks_17 l) at 17
  law_stmt c r l s (return at) = one (is_some r) at 16
  law_stmt c r l s (return_of at e) = own (breaks_16 r (operand_of c s e)) at 16 (breaches listed c s (wanted_for r) e) (law c s (wanted_for r) e)
  law_stmt c r l s (nothing at) = refl

  pub law_stmts : (c : Tables) (r : Option SlotType) (l : Bool) (s : Scope) (sts : Stmts) → first (stmts_breaches listed c r l s sts) ≡ stmts_breaches soonest c r l s sts
  law_stmts c r l s no_stmts = refl
  law_stmts c r l s (stmt st sts) =
      both (stmt_breaches listed c r l s st) (stmts_breaches listed c r l (after c s st) sts) (law_stmt c r l s st) (law_stmts c r l (after c s st) sts)

law_members : (seen : List (List ℕ)) (ms : List Member) → first (members_breaches listed seen ms) ≡ members_breaches soonest seen ms
law_members seen [] = refl
law_members seen (m ∷ ms) =
    own (has_name seen m.name) m.at 2 (members_breaches listed (with_name seen m.name) ms) (law_members (with_name seen m.name) ms)

law_structs : (seen : List (List ℕ)) (ds : List StructDef) → first (structs_breaches listed seen ds) ≡ structs_breaches soonest seen ds
law_structs seen [] = refl
law_structs seen (d ∷ ds) =
    let m' = members_breaches listed [] d.members in
    let d' = structs_breaches listed (with_name seen d.tag) ds in
    own (has_name seen d.tag) d.at 1 (m' ++ d') (both m' d' (law_members [] d.members) (law_structs (with_name seen d.tag) ds))

law_params : (c : Tables) (s : Scope) (ms : List Member) → first (params_breaches listed c s ms) ≡ params_breaches soonest c s ms
law_params c s [] = refl
law_params c s (m ∷ ms) =
    own (not (is_empty m.name) && breaks_5 s m.name) m.at 5 (params_breaches listed c (with_param c.tags s m) ms) (law_params c (with_param c.tags s m) ms)

law_body : (c : Tables) (r : Option SlotType) (s : Scope) (o : Option Stmt) → first (body_breaches listed c r s o) ≡ body_breaches soonest c r s o
law_body c r s None = refl
law_body c r s (Some (block at sts)) = law_stmts c r false s sts
law_body c r s (Some st) = law_stmt c r false s st

law_proc : (c : Tables) (bodied : List (List ℕ)) (p : Procedure) → first (proc_breaches listed c bodied p) ≡ proc_breaches soonest c bodied p
law_proc c bodied p =
    let r = result_type c.tags p.result in
    let s = with_params c.tags no_scope p.params in
    let m' = params_breaches listed c no_scope p.params in
    let b' = body_breaches listed c r s p.body in
    own (breaks_3 c bodied p) p.at 3 (breach_if listed (breaks_4 c p) p.at 4 ++ (m' ++ b'))
    (own (breaks_4 c p) p.at 4 (m' ++ b') (both m' b' (law_params c no_scope p.params) (law_body c r s p.body)))

law_procs : (c : Tables) (bodied : List (List ℕ)) (ps : List Procedure) → first (procs_breaches listed c bodied ps) ≡ procs_breaches soonest c bodied ps
law_procs c bodied [] = refl
law_procs c bodied (p ∷ ps) =
    both (proc_breaches listed c bodied p) (procs_breaches listed c (with_body bodied p) ps) (law_proc c bodied p) (law_procs c (with_body bodied p) ps)

pub law_tree : (t : Tree) → first (tree_breaches listed t) ≡ tree_breaches soonest t
unfolding tree_breaches
law_tree t =
    both (structs_breaches listed [] t.structs) (procs_breaches listed (declarations t) [] t.procs) (law_structs [] t.structs) (law_procs (declarations t) [] t.procs)

some_first : (b : Breach) (o : Option Breach) → sooner (Some b) o ≡ None → ⊥
unfolding sooner
some_first b None e = cc
some_first b (Some d) e = grind (arith, e)

-- where no rule stands first, none is broken
pub none_first : (bs : List Breach) → first bs ≡ None → bs ≡ []
none_first [] h = refl
none_first (b ∷ bs) h = absurd (some_first b (first bs) h)

pub well_typed : (t : Tree) → tree_breaches soonest t ≡ None → broken_rules t ≡ []
well_typed t h = none_first (tree_breaches listed t) (law_tree t ∙ h)

-- where nothing is refused, no rule is broken, there is a main and no limit is passed
pub nothing_refused : (o : Option Breach) (main : Bool) (over : Option TypeError) → refused_for o main over ≡ None
    → (o ≡ None) × (main ≡ true) × (over ≡ None)
nothing_refused (Some b) main over h = absurd (none_some h)
  where
    none_some : {e : TypeError} → Some e ≡ None → ⊥
    none_some e = cc
nothing_refused None false over h = absurd (none_some h)
  where
    none_some : {e : TypeError} → Some e ≡ None → ⊥
    none_some e = cc
nothing_refused None true over h = (refl, refl, h)
