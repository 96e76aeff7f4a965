-- The edges of a statement, and those of a body, fit.
use Rattle.std.proofs.Common.{◌≡◌, ℕ, ◌+◌, ◌-◌, ◌≤◌, Bool, true, false, List, [], ◌++◌, length, Option, Some, None, IfSome, All, slice_get, if◌then◌else◌, refl, sym, ap, ◌∙◌, subst, arith, zero-add, pos, length-append}
use Rattle.std.proofs.lemmas.List.Elements.{All-nil}
use Rattle.c_tree.specs.declared.position.Place.{Place}
use Rattle.c_tree.specs.declared.position.Place.TheVariants as place
use Rattle.c_tree.specs.Plain.{Expr, name, arrow, index, Exprs, no_exprs, expr, Stmt, block, local, local_as, assign, do_call, free, when, when_else, while, for, break, continue, return, return_of, nothing, Stmts, no_stmts, stmt}
use Rattle.c_tree.specs.Nodes.{Node, of_stmt, nodes, nodes_of, stmt_nodes, stmts_nodes, node_count, node_count_of, stmt_count, stmts_count}
use Rattle.c_types.specs.declared.kinds.SlotType.{SlotType}
use Rattle.c_types.specs.declared.kinds.SlotType.TheVariants as type
use Rattle.c_types.specs.Types.{is_pointer}
use Rattle.c_types.specs.Fits.{Body, refers_of, GoesTo, HasValue, IsMember, ExprFits, ConditionsFit, IsGiven, IsAssigned, IsReturned, StmtFits, StmtsFit, result_count}
use Rattle.c_types.specs.Fits as typed
use Rattle.flow_graph.specs.declared.raw.Slot.{Slot}
use Rattle.flow_graph.specs.declared.raw.Slot.TheVariants as slot
use Rattle.flow_graph.specs.declared.raw.RawAction.TheVariants as act
use Rattle.flow_graph.specs.FlowGraph.{FlowGraph}
use Rattle.flow_graph.specs.Parts.{Part, in_turn, kind_at, type_at, refers_at, is_pointer_at, var_at, temp}
use Rattle.flow_graph.specs.Edges.{Ways, slot_of, operand, stepped, ways, stored, assigned, turns, looped, turned, flow, flow_all, closing, body_edges}
use Rattle.flow_graph.proofs.RawFits.{kind_of, LeadsTo, RawActionFits, RawEdgeFits}
use Rattle.flow_graph.proofs.Settings.{IsProgram, TextsFit, IsAt, TakesKind}
use Rattle.flow_graph.proofs.ActionFitsSlots.{AddsOnly, only_ending, only_one, only_before, only_in_turn, kind_is, refers_is, fits_target, fits_source, integer_slot, takes_fitting, takes_own}
use Rattle.flow_graph.proofs.ActionFitsNodes.{at_tail, at_left, at_right, nodes_length, nodes_of_length, stmt_length, stmts_length}
use Rattle.flow_graph.proofs.ActionFits.{WaysFit, operand_fits, slot_is, slot_array, slot_integer, slot_pointer, stepped_fits, member_leads, pointer_at, ways_fit}

module _ (g : FlowGraph) (b : Body) (texts : List ℕ) where
  abbrev Only : Part → Type 0
  Only p = AddsOnly (RawEdgeFits g b.slots texts) p

  -- Where values go

  declared_is : (n k : ℕ) (t : SlotType) → refers_of b n ≡ Some k → slice_get b.slots k ≡ Some t → kind_of b.slots (var_at b.nodes n) ≡ Some t
  declared_is n k t e h = ap (slice_get b.slots) (refers_is b.nodes n k e) ∙ h

  goes_takes : (n : ℕ) (x : Slot) (t : SlotType) → GoesTo b n t → kind_of b.slots x ≡ Some t → TakesKind b.slots x (type_at b.nodes n)
  goes_takes n x t h e = subst (λ s. TakesKind b.slots x s) (sym (kind_is b.nodes n h.type h.is)) (takes_fitting b.slots x t h.type e h.goes)

  -- into the variable that node m names
  named_fits : (base n m k : ℕ) (t : SlotType) (w : Ways) (q : Place) → refers_of b m ≡ Some k → slice_get b.slots k ≡ Some t → GoesTo b n t → WaysFit g b texts base n w
      → Only (w.run (var_at b.nodes m) q)
  named_fits base n m k t w q e h goes fit = fit.run (var_at b.nodes m) q tt (goes_takes n (var_at b.nodes m) t goes (declared_is m k t e h))

  returned_takes : (r : Option SlotType) (n : ℕ) → length b.slots ≡ b.variables + result_count r → IfSome r (λ t. slice_get b.slots b.variables ≡ Some t) → IsReturned b r n
      → (length b.slots ≡ b.variables + 1) × TakesKind b.slots slot.Ret (type_at b.nodes n)
  returned_takes None n count result h = absurd h
  returned_takes (Some t) n count result h =
      let e : length b.slots - 1 ≡ b.variables = omega arith in
      (count, goes_takes n slot.Ret t h (ap (slice_get b.slots) e ∙ result))

  closing_fits : (main : Bool) (r : Option SlotType) → length b.slots ≡ b.variables + result_count r → IfSome r (λ t. slice_get b.slots b.variables ≡ Some t)
      → (main ≡ true → r ≡ Some type.Int) → Only (closing main)
  closing_fits false r count result h = only_ending place.Out
  closing_fits true r count result h =
      let c : length b.slots ≡ b.variables + 1 = subst (λ o. length b.slots ≡ b.variables + result_count o) (h refl) count in
      let e : length b.slots - 1 ≡ b.variables = omega arith in
      let i : slice_get b.slots b.variables ≡ Some type.Int = subst (λ o. IfSome o (λ t. slice_get b.slots b.variables ≡ Some t)) (h refl) result in
      only_one place.End (act.Set slot.Ret (pos 0)) place.Out (integer_slot b.slots slot.Ret type.Int (ap (slice_get b.slots) e ∙ i) refl)

  -- Assignments, of which the value is node m

  assigned_name_fits : (n m : ℕ) (e : Expr) (q : Place) → IsAssigned b (n + 1) m → typed.IsVariable b (n + 1) → WaysFit g b texts (n + 1) m (ways b.nodes (n + 1) m e)
      → Only ((ways b.nodes (n + 1) m e).run (var_at b.nodes (n + 1)) q)
  assigned_name_fits n m e q a h fit =
      let same : h.type ≡ a.type = sym (kind_is b.nodes (n + 1) h.type h.is) ∙ kind_is b.nodes (n + 1) a.type a.target in
      named_fits (n + 1) m (n + 1) h.slot a.type (ways b.nodes (n + 1) m e) q h.refers (h.has ∙ ap Some same) a.value fit

  stored_fits : IsProgram g b.structs b.procs → (n m : ℕ) (y x : Slot) (h : IsMember b n) → kind_of b.slots y ≡ Some (type.StructPtr h.structure) → (a : IsAssigned b n m)
      → kind_of b.slots x ≡ Some a.value.type → RawActionFits g b.slots texts (stored b.nodes n y x)
  stored_fits program n m y x h e a k = by (is_pointer_at b.nodes n) refl
    where
      leads : LeadsTo g b.slots y (refers_at b.nodes n) (type_at b.nodes n)
      leads = member_leads g b texts program n h y e

      is : type_at b.nodes n ≡ a.type
      is = kind_is b.nodes n a.type a.target

      by : (c : Bool) → is_pointer_at b.nodes n ≡ c → RawActionFits g b.slots texts (if c then act.Store y (refers_at b.nodes n) x else act.Put y (refers_at b.nodes n) x)
      by true p = record {
        type = type_at b.nodes n;
        leads = leads;
        pointer = p;
        slot = k ∙ ap Some (sym (is ∙ fits_target a.type a.value.type a.value.goes (ap is_pointer (sym is) ∙ p)));
      }
      by false p = (
        record { type = type_at b.nodes n; leads = leads; integer = p },
        integer_slot b.slots x a.value.type k (fits_source a.type a.value.type a.value.goes (ap is_pointer (sym is) ∙ p)),
      )

  assigned_arrow_fits : IsProgram g b.structs b.procs → (n m l : ℕ) (d e : Expr) (q : Place) → IsAssigned b (n + 1) m → (h : IsMember b (n + 1)) → l ≡ n + 1 + 1
      → ExprFits b l d → ExprFits b m e → WaysFit g b texts (n + 1) l (ways b.nodes (n + 1) l d) → WaysFit g b texts (n + 1) m (ways b.nodes (n + 1) m e)
      → Only (stepped (in_turn (operand b.nodes (n + 1) m e (ways b.nodes (n + 1) m e)) (operand b.nodes (n + 1) l d (ways b.nodes (n + 1) l d))) n
      (stored b.nodes (n + 1) (slot_of b.nodes (n + 1) l d) (slot_of b.nodes (n + 1) m e)) q)
  assigned_arrow_fits program n m l d e q a h is base value base_fit value_fit =
      stepped_fits g b texts n (stored b.nodes (n + 1) (slot_of b.nodes (n + 1) l d) (slot_of b.nodes (n + 1) m e)) q
      (λ p. only_in_turn p (λ o. operand_fits g b texts (n + 1) m e (ways b.nodes (n + 1) m e) o value_fit)
      (λ o. operand_fits g b texts (n + 1) l d (ways b.nodes (n + 1) l d) o base_fit))
      (stored_fits program (n + 1) m (slot_of b.nodes (n + 1) l d) (slot_of b.nodes (n + 1) m e) h
      (slot_is g b texts (n + 1) l d (type.StructPtr h.structure) base (ap (kind_at b.nodes) is ∙ h.base)) a
      (slot_is g b texts (n + 1) m e a.value.type value a.value.is))

  assigned_index_fits : (n m l j : ℕ) (d i e : Expr) (q : Place) → IsAssigned b (n + 1) m → typed.IsInteger b (n + 1) → typed.IsArray b l → typed.IsInteger b j
      → ExprFits b l d → ExprFits b j i → ExprFits b m e
      → WaysFit g b texts (n + 1) l (ways b.nodes (n + 1) l d) → WaysFit g b texts (n + 1) j (ways b.nodes (n + 1) j i) → WaysFit g b texts (n + 1) m (ways b.nodes (n + 1) m e)
      → Only (stepped (in_turn (operand b.nodes (n + 1) m e (ways b.nodes (n + 1) m e))
      (in_turn (operand b.nodes (n + 1) l d (ways b.nodes (n + 1) l d)) (operand b.nodes (n + 1) j i (ways b.nodes (n + 1) j i)))) n
      (act.PutAt (slot_of b.nodes (n + 1) l d) (slot_of b.nodes (n + 1) j i) (slot_of b.nodes (n + 1) m e)) q)
  assigned_index_fits n m l j d i e q a h array integer base at value base_fit at_fit value_fit =
      let target : is_pointer a.type ≡ false = ap is_pointer (sym (kind_is b.nodes (n + 1) a.type a.target)) ∙ pointer_at g b texts (n + 1) h.type false h.is h.integer in
      stepped_fits g b texts n (act.PutAt (slot_of b.nodes (n + 1) l d) (slot_of b.nodes (n + 1) j i) (slot_of b.nodes (n + 1) m e)) q
      (λ p. only_in_turn p (λ o. operand_fits g b texts (n + 1) m e (ways b.nodes (n + 1) m e) o value_fit)
      (λ o. only_in_turn o (λ u. operand_fits g b texts (n + 1) l d (ways b.nodes (n + 1) l d) u base_fit)
      (λ u. operand_fits g b texts (n + 1) j i (ways b.nodes (n + 1) j i) u at_fit))) (
        slot_array g b texts (n + 1) l d base array,
        slot_integer g b texts (n + 1) j i at integer,
        integer_slot b.slots (slot_of b.nodes (n + 1) m e) a.value.type (slot_is g b texts (n + 1) m e a.value.type value a.value.is)
            (fits_source a.type a.value.type a.value.goes target),
      )

  -- Loops

  looped_fits : (n m : ℕ) (c : Exprs) (body : Place → Place → Place → Part) (step : Place → Part) (q : Place) → ((t f : Place) → Only (turns b.nodes m c t f))
      → ((bk ct q : Place) → Only (body bk ct q)) → ((q : Place) → Only (step q)) → Only (looped b.nodes n m c body step q)
  looped_fits n m c body step q x y z =
      let turn : Part = turned n body step q in
      only_before (only_before (only_one (place.At n 0) act.Skip (turns b.nodes m c turn.start q).start tt) (x turn.start q))
      (only_before (y q (step (place.At n 0)).start (step (place.At n 0)).start) (z (place.At n 0)))

module _ (g : FlowGraph) (b : Body) (r : Option SlotType) (texts : List ℕ) (ns : List Node) (program : IsProgram g b.structs b.procs) (strings : TextsFit g texts ns)
    (count : length b.slots ≡ b.variables + result_count r) (result : IfSome r (λ t. slice_get b.slots b.variables ≡ Some t)) where
  abbrev Adding : Part → Type 0
  Adding p = AddsOnly (RawEdgeFits g b.slots texts) p

  expr_fit : (base n : ℕ) (e : Expr) → base ≤ n → IsAt ns n (nodes e) → ExprFits b n e → WaysFit g b texts base n (ways b.nodes base n e)
  expr_fit base n e le is h = ways_fit g b texts ns program strings base n e le is h

  whole_fit : (n : ℕ) (e : Expr) → IsAt ns n (nodes e) → ExprFits b n e → WaysFit g b texts n n (ways b.nodes n n e)
  whole_fit n e is h = expr_fit n n e (omega arith) is h

  turns_fit : (m : ℕ) (c : Exprs) (t f : Place) → IsAt ns m (nodes_of c) → ConditionsFit b m c → Adding (turns b.nodes m c t f)
  turns_fit m no_exprs t f is h = only_ending t
  turns_fit m (expr c cs) t f is h = (whole_fit m c (at_left ns m (nodes c) (nodes_of cs) is) h.1).test t f h.0

  assigned_fits : (n : ℕ) (a e : Expr) (q : Place) → IsAt ns (n + 1) (nodes a ++ nodes e) → IsAssigned b (n + 1) (n + 1 + node_count a) → ExprFits b (n + 1) a
      → ExprFits b (n + 1 + node_count a) e → Adding (assigned b.nodes n a e q)
  assigned_fits n (name at x) e q is a h value =
      let two : n + 1 + 1 ≡ n + 2 = omega arith in
      let v = at_right ns (n + 1) (nodes (name at x)) (nodes e) 1 refl is in
      subst (λ m. Adding ((ways b.nodes (n + 1) m e).run (var_at b.nodes (n + 1)) q)) two
      (assigned_name_fits g b texts n (n + 1 + 1) e q a h (expr_fit (n + 1) (n + 1 + 1) e (omega arith) v value))
  assigned_fits n (arrow at d f) e q is a h value =
      let two : n + 1 + 1 ≡ n + 2 = omega arith in
      let m : ℕ = n + 1 + node_count (arrow at d f) in
      let v = at_right ns (n + 1) (nodes (arrow at d f)) (nodes e) (node_count (arrow at d f)) (nodes_length (arrow at d f)) is in
      let t = at_tail ns (n + 1) _ (nodes d) (at_left ns (n + 1) (nodes (arrow at d f)) (nodes e) is) in
      subst (λ l. Adding (stepped (in_turn (operand b.nodes (n + 1) m e (ways b.nodes (n + 1) m e)) (operand b.nodes (n + 1) l d (ways b.nodes (n + 1) l d))) n
      (stored b.nodes (n + 1) (slot_of b.nodes (n + 1) l d) (slot_of b.nodes (n + 1) m e)) q)) two
      (assigned_arrow_fits g b texts program n m (n + 1 + 1) d e q a h.0 refl h.1 value
      (expr_fit (n + 1) (n + 1 + 1) d (omega arith) t h.1) (expr_fit (n + 1) m e (omega arith) v value))
  assigned_fits n (index at d i) e q is a h value =
      let two : n + 1 + 1 ≡ n + 2 = omega arith in
      let m : ℕ = n + 1 + node_count (index at d i) in
      let v = at_right ns (n + 1) (nodes (index at d i)) (nodes e) (node_count (index at d i)) (nodes_length (index at d i)) is in
      let t = at_tail ns (n + 1) _ (nodes d ++ nodes i) (at_left ns (n + 1) (nodes (index at d i)) (nodes e) is) in
      subst (λ l. Adding (stepped (in_turn (operand b.nodes (n + 1) m e (ways b.nodes (n + 1) m e))
      (in_turn (operand b.nodes (n + 1) l d (ways b.nodes (n + 1) l d)) (operand b.nodes (n + 1) (l + node_count d) i (ways b.nodes (n + 1) (l + node_count d) i)))) n
      (act.PutAt (slot_of b.nodes (n + 1) l d) (slot_of b.nodes (n + 1) (l + node_count d) i) (slot_of b.nodes (n + 1) m e)) q)) two
      (assigned_index_fits g b texts n m (n + 1 + 1) (n + 1 + 1 + node_count d) d i e q a h.0 h.1 h.2 h.3 h.4 value
      (expr_fit (n + 1) (n + 1 + 1) d (omega arith) (at_left ns (n + 1 + 1) (nodes d) (nodes i) t) h.3)
      (expr_fit (n + 1) (n + 1 + 1 + node_count d) i (omega arith) (at_right ns (n + 1 + 1) (nodes d) (nodes i) (node_count d) (nodes_length d) t) h.4)
      (expr_fit (n + 1) m e (omega arith) v value))
  assigned_fits n a e q is h x y = only_ending q

  -- where the later parts of a statement stand

  when_else_last : (n : ℕ) (c : Expr) (s t : Stmt) → IsAt ns (n + 1) (nodes c ++ stmt_nodes s ++ stmt_nodes t) → IsAt ns (n + 1 + node_count c + stmt_count s) (stmt_nodes t)
  when_else_last n c s t is =
      let x = nodes_length c in let y = stmt_length s in
      let e : n + 1 + (node_count c + stmt_count s) ≡ n + 1 + node_count c + stmt_count s = omega arith in
      subst (λ k. IsAt ns k (stmt_nodes t)) e
      (at_right ns (n + 1) (nodes c ++ stmt_nodes s) (stmt_nodes t) (node_count c + stmt_count s) (omega (arith, length-append (nodes c) (stmt_nodes s))) is)

  for_step : (n : ℕ) (init : Stmts) (c : Exprs) (step : Stmts) → IsAt ns (n + 1) (stmts_nodes init ++ nodes_of c ++ stmts_nodes step)
      → IsAt ns (n + 1 + stmts_count init + node_count_of c) (stmts_nodes step)
  for_step n init c step is =
      let x = stmts_length init in let y = nodes_of_length c in
      let e : n + 1 + (stmts_count init + node_count_of c) ≡ n + 1 + stmts_count init + node_count_of c = omega arith in
      subst (λ k. IsAt ns k (stmts_nodes step)) e
      (at_right ns (n + 1) (stmts_nodes init ++ nodes_of c) (stmts_nodes step) (stmts_count init + node_count_of c)
      (omega (arith, length-append (stmts_nodes init) (nodes_of c))) is)

  for_body : (n : ℕ) (init : Stmts) (c : Exprs) (step : Stmts) (s : Stmt) → IsAt ns (n + 1) (stmts_nodes init ++ nodes_of c ++ stmts_nodes step ++ stmt_nodes s)
      → IsAt ns (n + 1 + stmts_count init + node_count_of c + stmts_count step) (stmt_nodes s)
  for_body n init c step s is =
      let x = stmts_length init in let y = nodes_of_length c in let z = stmts_length step in
      let e : n + 1 + (stmts_count init + node_count_of c + stmts_count step) ≡ n + 1 + stmts_count init + node_count_of c + stmts_count step = omega arith in
      subst (λ k. IsAt ns k (stmt_nodes s)) e
      (at_right ns (n + 1) (stmts_nodes init ++ nodes_of c ++ stmts_nodes step) (stmt_nodes s) (stmts_count init + node_count_of c + stmts_count step)
      (omega (arith, length-append (stmts_nodes init ++ nodes_of c) (stmts_nodes step), length-append (stmts_nodes init) (nodes_of c))) is)

  mutual
    stmt_fit : (n : ℕ) (s : Stmt) (bk ct q : Place) → IsAt ns n (stmt_nodes s) → StmtFits b r n s → Adding (flow b.nodes bk ct n s q)
    stmt_fit n (block at ss) bk ct q is h = stmts_fit (n + 1) ss bk ct q (at_tail ns n (of_stmt (block at ss)) (stmts_nodes ss) is) h
    stmt_fit n (nothing at) bk ct q is h = only_ending q
    stmt_fit n (local at x t) bk ct q is h = only_one (place.At n 0) (act.Unset (var_at b.nodes n)) q (h.type, declared_is g b texts n h.slot h.type h.refers h.has)
    stmt_fit n (local_as at x t e) bk ct q is h =
        only_in_turn q
        (λ p. only_one (place.At n 0) (act.Unset (var_at b.nodes n)) p (h.type, declared_is g b texts n h.slot h.type h.refers h.has))
        (λ p. named_fits g b texts (n + 1) (n + 1) n h.slot h.type (ways b.nodes (n + 1) (n + 1) e) p h.refers h.has h.value
        (whole_fit (n + 1) e (at_tail ns n (of_stmt (local_as at x t e)) (nodes e) is) h.fits))
    stmt_fit n (assign at a e) bk ct q is h = assigned_fits n a e q (at_tail ns n (of_stmt (assign at a e)) (nodes a ++ nodes e) is) h.0 h.1 h.2
    stmt_fit n (do_call at e) bk ct q is h =
        (whole_fit (n + 1) e (at_tail ns n (of_stmt (do_call at e)) (nodes e) is) h).run (temp b.nodes (n + 1) (n + 1)) q refl
        (takes_own b.slots (temp b.nodes (n + 1) (n + 1)) (type_at b.nodes (n + 1)) refl)
    stmt_fit n (free at e) bk ct q is h =
        stepped_fits g b texts n (act.Free (slot_of b.nodes (n + 1) (n + 1) e)) q
        (λ p. operand_fits g b texts (n + 1) (n + 1) e (ways b.nodes (n + 1) (n + 1) e) p (whole_fit (n + 1) e (at_tail ns n (of_stmt (free at e)) (nodes e) is) h.1))
        (slot_pointer g b texts (n + 1) (n + 1) e h.1 h.0)
    stmt_fit n (when at c s) bk ct q is h =
        let rest = at_tail ns n (of_stmt (when at c s)) (nodes c ++ stmt_nodes s) is in
        let first : Part = flow b.nodes bk ct (n + 1 + node_count c) s q in
        only_before ((whole_fit (n + 1) c (at_left ns (n + 1) (nodes c) (stmt_nodes s) rest) h.0.1).test first.start q h.0.0)
        (stmt_fit (n + 1 + node_count c) s bk ct q (at_right ns (n + 1) (nodes c) (stmt_nodes s) (node_count c) (nodes_length c) rest) h.1)
    stmt_fit n (when_else at c s t) bk ct q is h =
        let rest = at_tail ns n (of_stmt (when_else at c s t)) (nodes c ++ stmt_nodes s ++ stmt_nodes t) is in
        let front = at_left ns (n + 1) (nodes c ++ stmt_nodes s) (stmt_nodes t) rest in
        let first : Part = flow b.nodes bk ct (n + 1 + node_count c) s q in
        let second : Part = flow b.nodes bk ct (n + 1 + node_count c + stmt_count s) t q in
        only_before ((whole_fit (n + 1) c (at_left ns (n + 1) (nodes c) (stmt_nodes s) front) h.0.1).test first.start second.start h.0.0)
        (only_before (stmt_fit (n + 1 + node_count c) s bk ct q (at_right ns (n + 1) (nodes c) (stmt_nodes s) (node_count c) (nodes_length c) front) h.1)
        (stmt_fit (n + 1 + node_count c + stmt_count s) t bk ct q (when_else_last n c s t rest) h.2))
    stmt_fit n (while at c s) bk ct q is h =
        let rest = at_tail ns n (of_stmt (while at c s)) (nodes c ++ stmt_nodes s) is in
        looped_fits g b texts n (n + 1) (expr c no_exprs) (λ bk ct next. flow b.nodes bk ct (n + 1 + node_count c) s next) (λ p. record { start = p; after = λ es. es }) q
        (λ t f. (whole_fit (n + 1) c (at_left ns (n + 1) (nodes c) (stmt_nodes s) rest) h.0.1).test t f h.0.0)
        (λ bk ct p. stmt_fit (n + 1 + node_count c) s bk ct p (at_right ns (n + 1) (nodes c) (stmt_nodes s) (node_count c) (nodes_length c) rest) h.1)
        (λ p. only_ending p)
    stmt_fit n (for at init c step s) bk ct q is h =
        let rest = at_tail ns n (of_stmt (for at init c step s)) (stmts_nodes init ++ nodes_of c ++ stmts_nodes step ++ stmt_nodes s) is in
        let most = at_left ns (n + 1) (stmts_nodes init ++ nodes_of c ++ stmts_nodes step) (stmt_nodes s) rest in
        let front = at_left ns (n + 1) (stmts_nodes init ++ nodes_of c) (stmts_nodes step) most in
        only_in_turn q
        (λ p. stmts_fit (n + 1) init bk ct p (at_left ns (n + 1) (stmts_nodes init) (nodes_of c) front) h.0)
        (λ p. looped_fits g b texts n (n + 1 + stmts_count init) c
        (λ bk ct next. flow b.nodes bk ct (n + 1 + stmts_count init + node_count_of c + stmts_count step) s next)
        (flow_all b.nodes bk ct (n + 1 + stmts_count init + node_count_of c) step) p
        (λ t f. turns_fit (n + 1 + stmts_count init) c t f (at_right ns (n + 1) (stmts_nodes init) (nodes_of c) (stmts_count init) (stmts_length init) front) h.1)
        (λ bk ct o. stmt_fit (n + 1 + stmts_count init + node_count_of c + stmts_count step) s bk ct o (for_body n init c step s rest) h.3)
        (λ o. stmts_fit (n + 1 + stmts_count init + node_count_of c) step bk ct o (for_step n init c step most) h.2))
    stmt_fit n (break at) bk ct q is h = only_ending bk
    stmt_fit n (continue at) bk ct q is h = only_ending ct
    stmt_fit n (return at) bk ct q is h = only_ending place.Out
    stmt_fit n (return_of at e) bk ct q is h =
        let t = returned_takes g b texts r (n + 1) count result h.0 in
        (whole_fit (n + 1) e (at_tail ns n (of_stmt (return_of at e)) (nodes e) is) h.1).run slot.Ret place.Out t.0 t.1

    stmts_fit : (n : ℕ) (ss : Stmts) (bk ct q : Place) → IsAt ns n (stmts_nodes ss) → StmtsFit b r n ss → Adding (flow_all b.nodes bk ct n ss q)
    stmts_fit n no_stmts bk ct q is h = only_ending q
    stmts_fit n (stmt s ss) bk ct q is h =
        only_in_turn q
        (λ p. stmt_fit n s bk ct p (at_left ns n (stmt_nodes s) (stmts_nodes ss) is) h.0)
        (λ p. stmts_fit (n + stmt_count s) ss bk ct p (at_right ns n (stmt_nodes s) (stmts_nodes ss) (stmt_count s) (stmt_length s) is) h.1)

pub body_fits : (g : FlowGraph) (b : Body) (r : Option SlotType) (texts : List ℕ) (main : Bool) (s : Stmt)
    → IsProgram g b.structs b.procs → TextsFit g texts (stmt_nodes s) → StmtFits b r 0 s
    → length b.slots ≡ b.variables + result_count r → IfSome r (λ t. slice_get b.slots b.variables ≡ Some t)
    → (main ≡ true → r ≡ Some type.Int)
    → All (RawEdgeFits g b.slots texts) (body_edges main b.nodes s)
body_fits g b r texts main s program strings h count result int =
    let out : Part = closing main in
    let body : Part = flow b.nodes place.Out place.Out 0 s out.start in
    let first = only_one {P = RawEdgeFits g b.slots texts} place.In act.Skip body.start tt in
    let rest = stmt_fit g b r texts (stmt_nodes s) program strings count result 0 s place.Out place.Out out.start (λ i lt. ap (slice_get (stmt_nodes s)) (zero-add i)) h in
    let last = closing_fits g b texts main r count result int in
    first.each (body.after (out.after [])) (rest.each (out.after []) (last.each [] (All-nil (RawEdgeFits g b.slots texts))))
