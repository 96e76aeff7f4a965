-- Each constraint that is listed for a place has the name of that place and of the procedure, so a name is looked up among
-- the constraints of its own place alone.
use Rattle.std.proofs.Common.{◌≡◌, ℕ, suc, ◌-◌, Bool, cond, ◌&&◌, not, List, [], ◌∷◌, ◌++◌, Option, Some, None, refl, ap, ◌∙◌, eqb, ltb}
use Rattle.flow_graph.specs.declared.action.Action.{Action}
use Rattle.flow_graph.specs.declared.action.Action.TheVariants as act
use Rattle.flow_graph.specs.declared.action.Edge.{Edge}
use Rattle.flow_graph.specs.FlowGraph.{FlowGraph}
use Rattle.flow_graph.specs.Fits.{is_in}
use Rattle.path_facts.specs.Tables.{FactTables}
use Rattle.conflict_proof.specs.declared.names.ConstraintName.{ConstraintName}
use Rattle.zo_core.specs.declared.forms.Form.{Form}
use Rattle.field_rules.specs.declared.edges.FieldEdge.TheVariants as edge
use Rattle.field_rules.specs.declared.edges.FieldLine.{FieldLine}
use Rattle.field_rules.specs.Lists.{gather, when}
use Rattle.field_rules.specs.Sight.{Sight}
use Rattle.field_rules.specs.Lines.{edge_lines, place_lines}
use Rattle.transfer_rules.specs.declared.args.PassedArg.{PassedArg}
use Rattle.transfer_rules.specs.declared.constraint.Constraint.{Constraint}
use Rattle.transfer_rules.specs.Body.{Setting, sight, setting}
use Rattle.transfer_rules.specs.Names.{condition_in, condition_of_name}
use Rattle.transfer_rules.specs.Rules.{equation, of_lines, each_field, is_live, closed_at, nothing_at, target, copied, closed, made, text, freeing, freed, call_arg_at, call_arg_of, call_args_rules, call_args, args, call_results, result_rules, field_rules, action_rules, frees_rho, frees_slot, frees_field, same_rho, same_field, same_slot, same, entry_slot, entry, is_ret, exit_ret, exit_own, exit_closed, exit, place_rules, edge_rules, more_edges, rules_with, constraints_at, proc_constraints, body_of, body_constraints}
use Rattle.transfer_rules.specs.Holds.{Each}
use Rattle.transfer_rules.proofs.EachLemmas.{each-append, each-gather, each-when, each-flat, each-fields}
use Rattle.transfer_rules.proofs.Lookup.{one_proc, one_place, lookup-gather, lookup-flat}

module _ (v : Sight) (s : Setting) where
  abbrev pub At : ℕ → Constraint → Type 0
  At p c = (c.name.proc ≡ s.proc) × (c.name.place ≡ p)

  module _ (p : ℕ) where
    both : (xs ys : List Constraint) → Each (At p) xs → Each (At p) ys → Each (At p) (xs ++ ys)
    both xs ys h k = (each-append (At p) xs ys).1 (h, k)

    if' : (b : Bool) (xs : List Constraint) → Each (At p) xs → Each (At p) (when b xs)
    if' b xs h = (each-when (At p) b xs).1 (λ _. h)

    all : (n : ℕ) (f : ℕ → List Constraint) → ((x : ℕ) → Each (At p) (f x)) → Each (At p) (gather n f)
    all n f h = (each-gather (At p) n f).1 (λ x lt. h x)

    fields : (x : ℕ) (c : ℕ → List Constraint) → ((f : ℕ) → Each (At p) (c f)) → Each (At p) (each_field v s x c)
    fields x c h = (each-fields (At p) v x c).1 (λ f has. h f)

    one : (n k x f o : ℕ) (form : Form) → Each (At p) (equation v s p n k x f o form)
    one n k x f o form = ((refl, refl), tt)

    lines : (n : ℕ) (ls : List FieldLine) → Each (At p) (of_lines v s p n ls)
    lines n [] = tt
    lines n (l ∷ ls) = ((refl, refl), lines n ls)

    shut : (n k place x : ℕ) → Each (At p) (each_field v s x (closed_at v s p n k place x))
    shut n k place x = fields x (closed_at v s p n k place x) (λ f. ((refl, refl), tt))

    nothing : (n k place x : ℕ) → Each (At p) (nothing_at v s p n k place x)
    nothing n k place x = ((refl, refl), shut n k place x)

    targets : (n x : ℕ) → Each (At p) (target v s p n x)
    targets n x = if' (is_live v s p x) (nothing_at v s p n 1 p x) (nothing n 1 p x)

    arg : (n u : ℕ) (us : List PassedArg) → Each (At p) (call_arg_of v s p n us u)
    arg n u us = (each-flat (At p) (call_arg_at v s p n u) us).1 (every us)
      where
        every : (us : List PassedArg) → Each (λ a. Each (At p) (call_arg_at v s p n u a)) us
        every [] = tt
        every (a ∷ us) = (if' (eqb a.slot u && not (v.empty p u)) _ ((refl, refl), tt), every us)

    results : (n q : ℕ) (r : Option ℕ) → Each (At p) (result_rules v s p n q r)
    results n q None = tt
    results n q (Some x) = both (target v s p n x) (closed v s p n q x) (targets n x) (shut n 3 q x)

    gives : (n q callee : ℕ) (r : Option ℕ) → Each (At p) (call_results v s p n q callee r)
    gives n q callee None = tt
    gives n q callee (Some x) = if' (v.pointer x) _ ((refl, refl), tt)

    action : (n q : ℕ) (a : Action) → Each (At p) (action_rules v s p n q a)
    action n q (act.Unset x) = targets n x
    action n q (act.Null x) = targets n x
    action n q (act.Text x k) = both (target v s p n x) (text v s p n q x) (targets n x) ((refl, refl), tt)
    action n q (act.Copy x y) =
        both (target v s p n x ++ copied v s p n q x y) (when (is_live v s p y) (closed v s p n q x))
        (both (target v s p n x) (copied v s p n q x y) (targets n x) (if' (is_live v s p y) _ ((refl, refl), tt)))
        (if' (is_live v s p y) (closed v s p n q x) (shut n 3 q x))
    action n q (act.New x zeroed kind count) = both (target v s p n x) (made v s p n q x) (targets n x) ((refl, refl), tt)
    action n q (act.Free x) =
        both (freeing v s p n x ++ field_rules v s p n q (edge.Free x)) (freed v s p n q x)
        (both (freeing v s p n x) (field_rules v s p n q (edge.Free x)) (if' (is_live v s p x) _ ((refl, refl), tt)) (lines n (edge_lines v (edge.Free x) p q)))
        (if' (is_live v s p x) (nothing_at v s p n 8 q x) (nothing n 8 q x))
    action n q (act.Load x y m) =
        both (target v s p n x ++ closed v s p n q x) (field_rules v s p n q (edge.Load x y (s.field_at y m)))
        (both (target v s p n x) (closed v s p n q x) (targets n x) (shut n 3 q x)) (lines n (edge_lines v (edge.Load x y (s.field_at y m)) p q))
    action n q (act.Store y m x) = lines n (edge_lines v (edge.Store y (s.field_at y m) x) p q)
    action n q (act.Call r callee us) =
        let as' = args v s p callee us in
        let e = edge.Call (call_args as') in
        both ((result_rules v s p n q r ++ call_args_rules v s p n as') ++ call_results v s p n q callee r) (field_rules v s p n q e)
        (both (result_rules v s p n q r ++ call_args_rules v s p n as') (call_results v s p n q callee r)
        (both (result_rules v s p n q r) (call_args_rules v s p n as') (results n q r) (all v.slots (call_arg_of v s p n as') (λ u. arg n u as')))
        (gives n q callee r)) (lines n (edge_lines v e p q))
    action n q _ = tt

    kept : (n q : ℕ) (a : Action) → Each (At p) (same v s p n q a)
    kept n q a = all v.slots (same_slot v s p n q a) (λ x.
        if' _ (same_rho v s p n q a x ++ when (not (frees_slot a x)) (each_field v s x (same_field v s p n q a x)))
        (both (same_rho v s p n q a x) (when (not (frees_slot a x)) (each_field v s x (same_field v s p n q a x)))
        (if' (not (frees_rho a x)) _ ((refl, refl), tt))
        (if' (not (frees_slot a x)) (each_field v s x (same_field v s p n q a x)) (fields x (same_field v s p n q a x) (λ f. if' (not (frees_field v s a x f)) _ ((refl, refl), tt))))))

    place : Each (At p) (place_rules v s p)
    place =
        both (entry v s p ++ exit v s p) (of_lines v s p 0 (place_lines v p))
        (both (entry v s p) (exit v s p)
        (if' (eqb p 0) (gather s.params (entry_slot v s p)) (all s.params (entry_slot v s p) (λ x. if' (v.pointer x) _ ((refl, refl), shut 0 15 p x))))
        (if' (eqb p (v.places - 1)) _
        (both (gather v.slots (exit_ret v s p) ++ gather v.slots (exit_own v s p)) (gather v.slots (exit_closed v s p))
        (both (gather v.slots (exit_ret v s p)) (gather v.slots (exit_own v s p))
        (all v.slots (exit_ret v s p) (λ x. if' (is_live v s p x && is_ret v s x) _ ((refl, refl), tt)))
        (all v.slots (exit_own v s p) (λ x. if' (is_live v s p x && not (is_ret v s x)) _ ((refl, refl), tt))))
        (all v.slots (exit_closed v s p) (λ x. if' (is_live v s p x) _ (shut 0 18 p x))))))
        (lines 0 (place_lines v p))

    more : (n : ℕ) (es : List Edge) → Each (At p) (more_edges v s p n es)
    more n [] = tt
    more n (e ∷ es) =
        both (edge_rules v s p n e) (more_edges v s p (suc n) es)
        (both (action_rules v s p n e.to e.action) (same v s p n e.to e.action) (action n e.to e.action) (kept n e.to e.action)) (more (suc n) es)

    with' : (es : List Edge) → Each (At p) (rules_with v s p es)
    with' [] = place
    with' (e ∷ es) =
        let one' = action_rules v s p 0 e.to e.action in
        let two = place_rules v s p in
        let three = same v s p 0 e.to e.action in
        both ((one' ++ two) ++ three) (more_edges v s p 1 es) (both (one' ++ two) three (both one' two (action 0 e.to e.action) place) (kept 0 e.to e.action)) (more 1 es)

    pub placed : Each (At p) (constraints_at v s p)
    placed = with' (s.edges p)

  firsts : (p : ℕ) (cs : List Constraint) → Each (At p) cs → Each (λ c. c.name.proc ≡ s.proc) cs
  firsts p [] h = tt
  firsts p (c ∷ cs) h = (h.0.0, firsts p cs h.1)

  seconds : (p : ℕ) (cs : List Constraint) → Each (At p) cs → Each (λ c. c.name.place ≡ p) cs
  seconds p [] h = tt
  seconds p (c ∷ cs) h = (h.0.1, seconds p cs h.1)

  pub of_proc : Each (λ c. c.name.proc ≡ s.proc) (proc_constraints v s)
  of_proc = (each-gather (λ c. c.name.proc ≡ s.proc) v.places (constraints_at v s)).1 (λ p lt. firsts p (constraints_at v s p) (placed p))

  pub in_place : (n : ConstraintName) → condition_in (proc_constraints v s) n ≡ cond (ltb n.place v.places) (condition_in (constraints_at v s n.place) n) None
  in_place n = lookup-gather (λ m. m.place) n (λ m e. one_place m n e) v.places (constraints_at v s) (λ p. seconds p (constraints_at v s p) (placed p))

-- a name of a call group is looked up at its place of its procedure
pub name_law : (g : FlowGraph) (ts : FactTables) (members : List ℕ) (n : ConstraintName) →
    condition_of_name g ts members n
    ≡ cond (is_in members n.proc) (let b = body_of g ts members n.proc in cond (ltb n.place (sight b).places) (condition_in (constraints_at (sight b) (setting b) n.place) n) None) None
name_law g ts members n =
    lookup-flat (λ m. m.proc) n (λ m e. one_proc m n e) members (body_constraints g ts members) (λ k. of_proc (sight (body_of g ts members k)) (setting (body_of g ts members k)))
    ∙ ap (λ o. cond (is_in members n.proc) o None) (in_place (sight (body_of g ts members n.proc)) (setting (body_of g ts members n.proc)) n)
