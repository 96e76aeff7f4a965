-- Each constraint of a call group is the one of its name: what it asks is a function of the name.
use Rattle.std.proofs.Common.{◌≡◌, ℕ, zero, suc, ◌+◌, ◌-◌, ◌<◌, ◌≤◌, Bool, true, false, cond, not, ◌&&◌, List, [], ◌∷◌, ◌++◌, Option, Some, None, refl, sym, ap, ◌∙◌, subst, arith, eqb, get_or}
use Rattle.std.specs.Prelude.{nat_eq}
use Rattle.std.specs.List.{Contains, flat_map}
use Rattle.std.proofs.lemmas.Bool.{eqb-true, eq-eqb, ne_eqb, and_parts}
use Rattle.zo_core.specs.declared.forms.Form.TheVariants.{Zero, One, Equal, Sum}
use Rattle.conflict_proof.specs.declared.names.ConstraintName.{ConstraintName}
use Rattle.flow_graph.specs.declared.action.Action.{Action}
use Rattle.flow_graph.specs.declared.action.Action.TheVariants as act
use Rattle.flow_graph.specs.declared.action.Edge.{Edge}
use Rattle.flow_graph.specs.Paths.{no_edge}
use Rattle.flow_graph.specs.FlowGraph.{FlowGraph}
use Rattle.path_facts.specs.Tables.{FactTables}
use Rattle.field_rules.specs.declared.rules.FieldRule.{FieldRule}
use Rattle.field_rules.specs.declared.rules.FieldRule.TheVariants as rule
use Rattle.field_rules.specs.declared.rules.CallClosed.{CallClosed}
use Rattle.field_rules.specs.declared.rules.CallClosed.TheVariants as closed_by
use Rattle.field_rules.specs.declared.edges.CallArg.{CallArg}
use Rattle.field_rules.specs.declared.edges.FieldEdge.TheVariants as edge
use Rattle.field_rules.specs.declared.edges.FieldLine.{FieldLine}
use Rattle.field_rules.specs.Lists.{gather, when}
use Rattle.field_rules.specs.Sight.{Sight, over_fields}
use Rattle.field_rules.specs.Lines.{is_arg, free_field_line, phis_to, sigmas_to, argument_line, argument_lines, sealed_line, sealed_lines, call_lines, edge_lines, bound_line, bound_lines, others, one_base_line, base_line, base_lines, one_base_lines, place_lines}
use Rattle.field_rules.specs.Meaning.{rule_number}
use Rattle.transfer_rules.specs.declared.constraint.Condition.{Condition}
use Rattle.transfer_rules.specs.declared.constraint.Condition.TheVariants as condition
use Rattle.transfer_rules.specs.declared.constraint.Constraint.{Constraint}
use Rattle.transfer_rules.specs.Body.{Setting, sight, setting}
use Rattle.transfer_rules.specs.Names.{is_name, condition_in}
use Rattle.transfer_rules.specs.Rules.{arg_form, call_args, args_from, args, equation, of_lines, each_field, is_live, closed_at, nothing_at, target, copied, closed, made, text, freeing, freed, call_arg_at, call_arg_of, call_args_rules, call_results, result_rules, field_rules, action_rules, frees_rho, frees_slot, frees_field, same_rho, same_field, same_slot, same, entry_slot, entry, is_ret, exit_ret, exit_own, exit_closed, exit, place_rules, edge_rules, more_edges, rules_with, constraints_at, proc_constraints, body_of, body_constraints, constraints}
use Rattle.transfer_rules.specs.Holds.{Each}
use Rattle.verdict_meaning.specs.Programs.{NamesAreApart}

-- a pointer argument of a call, which has no name outside its crate
abbrev ElementOf : {X Y : Type 0} → (List X → Y) → Type 0
ElementOf {X} {Y} f = X

abbrev Passed : Type 0
Passed = ElementOf call_args

-- Each, over lists that are made in parts

module _ {X : Type 0} (P : X → Type 0) where
  joined : (xs ys : List X) → Each P xs → Each P ys → Each P (xs ++ ys)
  joined [] ys h k = k
  joined (x ∷ xs) ys h k = (h.0, joined xs ys h.1 k)

  gathered : (n : ℕ) (f : ℕ → List X) → ((i : ℕ) → Each P (f i)) → Each P (gather n f)
  gathered zero f h = tt
  gathered (suc n) f h = joined (gather n f) (f n) (gathered n f h) (h n)

  where_on : (b : Bool) (xs : List X) → (b ≡ true → Each P xs) → Each P (when b xs)
  where_on true xs h = h refl
  where_on false xs h = tt

  in_parts : {Y : Type 0} (f : Y → List X) (ys : List Y) → Each (λ y. Each P (f y)) ys → Each P (flat_map f ys)
  in_parts f [] h = tt
  in_parts f (y ∷ ys) h = joined (f y) (flat_map f ys) h.0 (in_parts f ys h.1)

  every : (xs : List X) → ((x : X) → P x) → Each P xs
  every [] h = tt
  every (x ∷ xs) h = (h x, every xs h)

  one_in : (xs : List X) → Each P xs → (x : X) → Contains xs x → P x
  one_in [] h x there = absurd (let lt = there.1 in omega arith)
  one_in (y ∷ xs) h x (zero, lt, e) = subst P e h.0
  one_in (y ∷ xs) h x (suc k, lt, e) = one_in xs h.1 x (k, omega arith, e)

weaker : {X : Type 0} (P Q : X → Type 0) (xs : List X) → ((x : X) → P x → Q x) → Each P xs → Each Q xs
weaker P Q [] f h = tt
weaker P Q (x ∷ xs) f h = (f x h.0, weaker P Q xs f h.1)

positive_rule : (r : FieldRule) → 0 < rule_number r
positive_rule (rule.Load r) = omega arith
positive_rule (rule.StoreOpen r) = omega arith
positive_rule (rule.Store r) = omega arith
positive_rule (rule.FreeField r) = omega arith
positive_rule (rule.CallClosed r) = omega arith
positive_rule (rule.Bound r) = omega arith
positive_rule (rule.OneBase r) = omega arith

-- What the constraint of a name asks, at the place p of a procedure with these edges

-- what is taken by the argument with this number
abbrev sigma_of : List Passed → ℕ → Option ℕ
sigma_of [] n = None
sigma_of (a ∷ us) n = cond (nat_eq a.number n) a.sigma (sigma_of us n)

module _ (v : Sight) (s : Setting) where
  -- the call that an action is
  abbrev passed : ℕ → Action → List Passed
  passed p (act.Call r callee us) = args v s p callee us
  passed p _ = []

  abbrev called : Action → ℕ
  called (act.Call r callee us) = callee
  called _ = 0

  -- nothing is owned, or open
  abbrev nothing_asked : ℕ → ℕ → ℕ → Condition
  nothing_asked q x zero = condition.Form (Zero (v.rho q x))
  nothing_asked q x (suc f) = condition.Form (Zero (v.omega q x (suc f)))

  abbrev entry_asked : ℕ → ℕ → ℕ → Condition
  entry_asked p x zero = condition.Form (Equal (v.rho p x) (s.pi (s.param_part x)))
  entry_asked p x (suc f) = condition.Form (Zero (v.omega p x (suc f)))

  abbrev same_asked : ℕ → ℕ → ℕ → ℕ → Condition
  same_asked p q x zero = condition.Form (Equal (v.rho p x) (v.rho q x))
  same_asked p q x (suc f) = condition.Form (Equal (v.omega p x (suc f)) (v.omega q x (suc f)))

  abbrev sealed_asked : List CallArg → ℕ → ℕ → Option ℕ → ℕ → CallClosed
  sealed_asked us p x None f = closed_by.Argument (v.omega p x f)
  sealed_asked us p x (Some r) f = closed_by.Slot (v.omega p x f) (v.rho p x) (phis_to v r) (sigmas_to v us p r)

  abbrev closed_asked : List CallArg → ℕ → ℕ → ℕ → CallClosed
  closed_asked us p x f = cond (is_arg us x) (closed_by.Argument (v.omega p x f)) (sealed_asked us p x (v.structure x) f)

  abbrev edge_of : ℕ → ℕ → Edge
  edge_of p n = get_or (s.edges p) n no_edge

  -- by the number of the rule
  abbrev asked_by : (p q : ℕ) → Action → (rule x f y : ℕ) → Condition
  asked_by p q a r x f y =
      cond (nat_eq r 1) (nothing_asked p x f)
      (cond (nat_eq r 2) (condition.Form (Sum (v.rho q x) (v.rho q y) (v.rho p y)))
      (cond (nat_eq r 3) (condition.Form (Zero (v.omega q x f)))
      (cond (nat_eq r 4) (condition.Form (One (v.rho q x)))
      (cond (nat_eq r 5) (condition.Form (Zero (v.rho q x)))
      (cond (nat_eq r 6) (condition.Form (One (v.rho p x)))
      (cond (nat_eq r 7) (condition.Field (rule.FreeField (record { omega_p = v.omega p x f; phi = v.phi f })))
      (cond (nat_eq r 8) (nothing_asked q x f)
      (cond (nat_eq r 9) (condition.Field (rule.Load (record { rho_q = v.rho q x; omega_p = v.omega p y f; omega_q = v.omega q y f })))
      (cond (nat_eq r 10) (condition.Field (rule.StoreOpen (record { omega_p = v.omega p x f; phi = v.phi f })))
      (cond (nat_eq r 11) (condition.Field (rule.Store (record { rho_q = v.rho q x; phi = v.phi f; rho_p = v.rho p x; omega_q = v.omega q y f })))
      (cond (nat_eq r 12) (condition.Form (arg_form (v.rho p x) (sigma_of (passed p a) y)))
      (cond (nat_eq r 13) (condition.Form (Equal (v.rho q x) (s.part p (called a) 0)))
      (cond (nat_eq r 14) (condition.Field (rule.CallClosed (closed_asked (call_args (passed p a)) p x f)))
      (cond (nat_eq r 15) (entry_asked p x f)
      (cond (nat_eq r 16) (condition.Form (Equal (v.rho p x) (s.pi 0)))
      (cond (nat_eq r 17) (condition.Form (Zero (v.rho p x)))
      (cond (nat_eq r 18) (condition.Form (Zero (v.omega p x f)))
      (cond (nat_eq r 19) (condition.Field (rule.Bound (record { omega_p = v.omega p x f; phi = v.phi f })))
      (cond (nat_eq r 20) (condition.Field (rule.OneBase (record { first = v.omega p x f; second = v.omega p y f })))
      (same_asked p q x f))))))))))))))))))))

  abbrev asked : ConstraintName → Condition
  asked n = asked_by n.place (edge_of n.place n.edge).to (edge_of n.place n.edge).action n.rule n.slot n.field n.other

  abbrev Says : Constraint → Type 0
  Says c = (asked c.name ≡ c.condition) × (c.name.proc ≡ s.proc) × (0 < c.name.rule)

  -- fields are numbered from 1
  module _ (positive : (r : ℕ) → 0 < (v.fields_of r).first) where
    over : {X : Type 0} (P : X → Type 0) (o : Option ℕ) (c : ℕ → List X) → ((f : ℕ) → Each P (c (suc f))) → Each P (over_fields v o c)
    over P None c h = tt
    over P (Some r) c h = gathered P (v.fields_of r).count (λ j. c ((v.fields_of r).first + j)) (λ j. later ((v.fields_of r).first + j) (let lt = positive r in omega arith))
      where
        later : (f : ℕ) → 0 < f → Each P (c f)
        later zero lt = absurd (omega arith)
        later (suc f) lt = h f

    module _ (p : ℕ) where
      shut : (n k q x : ℕ) → 0 < k → ((f : ℕ) → asked_by p (edge_of p n).to (edge_of p n).action k x (suc f) 0 ≡ condition.Form (Zero (v.omega q x (suc f)))) → Each Says (each_field v s x (closed_at v s p n k q x))
      shut n k q x some h = over Says (v.structure x) (closed_at v s p n k q x) (λ f. ((h f, refl, some), tt))

      targets : (n x : ℕ) → Each Says (target v s p n x)
      targets n x = where_on Says (is_live v s p x) (nothing_at v s p n 1 p x) (λ _. ((refl, refl, omega arith), shut n 1 p x (omega arith) (λ f. refl)))

      closes : (n x : ℕ) → Each Says (closed v s p n (edge_of p n).to x)
      closes n x = shut n 3 (edge_of p n).to x (omega arith) (λ f. refl)

      freed_says : (n x : ℕ) → Each Says (freed v s p n (edge_of p n).to x)
      freed_says n x = where_on Says (is_live v s p x) (nothing_at v s p n 8 (edge_of p n).to x) (λ _. ((refl, refl, omega arith), shut n 8 (edge_of p n).to x (omega arith) (λ f. refl)))

      -- lines of the rules on fields
      abbrev LineSays : ℕ → FieldLine → Type 0
      LineSays n l = asked_by p (edge_of p n).to (edge_of p n).action (rule_number l.rule) l.slot l.field l.other ≡ condition.Field l.rule

      lines : (n : ℕ) (ls : List FieldLine) → Each (LineSays n) ls → Each Says (of_lines v s p n ls)
      lines n [] h = tt
      lines n (l ∷ ls) h = ((h.0, refl, positive_rule l.rule), lines n ls h.1)

      results : (n : ℕ) (r : Option ℕ) → Each Says (result_rules v s p n (edge_of p n).to r)
      results n None = tt
      results n (Some x) = joined Says (target v s p n x) (closed v s p n (edge_of p n).to x) (targets n x) (closes n x)

      -- calls

      at_least : (callee i m : ℕ) (us : List ℕ) (n : ℕ) → n ≤ m → Each (λ (a : Passed). n ≤ a.number) (args_from v s p callee i m us)
      at_least callee i m [] n le = tt
      at_least callee i m (u ∷ us) n le = by_pointer (v.pointer u) (at_least callee (suc i) (suc m) us n (omega arith)) (at_least callee i (suc m) us n (omega arith))
        where
          by_pointer : (b : Bool) → Each (λ (a : Passed). n ≤ a.number) (args_from v s p callee (suc i) (suc m) us) → Each (λ (a : Passed). n ≤ a.number) (args_from v s p callee i (suc m) us)
              → Each (λ (a : Passed). n ≤ a.number) (cond b (record { slot = u; number = m; sigma = cond (s.has_body callee) (Some (s.part p callee i)) None } ∷ args_from v s p callee (suc i) (suc m) us) (args_from v s p callee i (suc m) us))
          by_pointer true with_it without_it = (le, with_it)
          by_pointer false with_it without_it = without_it

      abbrev Found : List Passed → Passed → Type 0
      Found us a = sigma_of us a.number ≡ a.sigma

      after_first : (first : Passed) (us all : List Passed) → Each (λ (a : Passed). suc first.number ≤ a.number) us → Each (Found all) us → Each (Found (first ∷ all)) us
      after_first first [] all more h = tt
      after_first first (a ∷ us) all more h =
          let apart : (first.number ≡ a.number → ⊥) = (λ e. let lt = more.0 in let z : ⊥ = omega arith in z) in
          ((skip (nat_eq first.number a.number) first.sigma (sigma_of all a.number) (ne_eqb first.number a.number apart) ∙ (let here : Found all a = h.0 in here)), after_first first us all more.1 h.1)
        where
          skip : (b : Bool) (x y : Option ℕ) → b ≡ false → cond b x y ≡ y
          skip true x y e = cc
          skip false x y e = refl

      abbrev first_of : ℕ → ℕ → ℕ → ℕ → Passed
      first_of callee i n u = record { slot = u; number = n; sigma = cond (s.has_body callee) (Some (s.part p callee i)) None }

      taken_first : (b : Bool) (x y : Option ℕ) → b ≡ true → cond b x y ≡ x
      taken_first true x y e = refl
      taken_first false x y e = cc

      found : (callee i n : ℕ) (us : List ℕ) → Each (Found (args_from v s p callee i n us)) (args_from v s p callee i n us)
      found callee i n [] = tt
      found callee i n (u ∷ us) = by_pointer (v.pointer u) (found callee (suc i) (suc n) us) (found callee i (suc n) us)
        where
          by_pointer : (b : Bool) → Each (Found (args_from v s p callee (suc i) (suc n) us)) (args_from v s p callee (suc i) (suc n) us) → Each (Found (args_from v s p callee i (suc n) us)) (args_from v s p callee i (suc n) us)
              → Each (Found (cond b (first_of callee i n u ∷ args_from v s p callee (suc i) (suc n) us) (args_from v s p callee i (suc n) us))) (cond b (first_of callee i n u ∷ args_from v s p callee (suc i) (suc n) us) (args_from v s p callee i (suc n) us))
          by_pointer true with_it without_it = (
            taken_first (nat_eq n n) (first_of callee i n u).sigma (sigma_of (args_from v s p callee (suc i) (suc n) us) n) (eq-eqb n n refl),
            after_first (first_of callee i n u) (args_from v s p callee (suc i) (suc n) us) (args_from v s p callee (suc i) (suc n) us) (at_least callee (suc i) (suc n) us (suc n) (omega arith)) with_it,
          )
          by_pointer false with_it without_it = without_it

      -- arguments of the call of edge n

      arguments : (n : ℕ) (us all : List Passed) → passed p (edge_of p n).action ≡ all → Each (Found all) us → (u : ℕ) → Each Says (call_arg_of v s p n us u)
      arguments n [] all is h u = tt
      arguments n (a ∷ us) all is h u =
          joined Says (call_arg_at v s p n u a) (call_arg_of v s p n us u)
          (where_on Says (eqb a.slot u && not (v.empty p u)) (equation v s p n 12 u 0 a.number (arg_form (v.rho p u) a.sigma))
          (λ _. ((ap (λ (xs : List Passed). condition.Form (arg_form (v.rho p u) (sigma_of xs a.number))) is ∙ ap (λ (o : Option ℕ). condition.Form (arg_form (v.rho p u) o)) h.0, refl, omega arith), tt)))
          (arguments n us all is h.1 u)

      call_line : (n : ℕ) (us : List CallArg) → call_args (passed p (edge_of p n).action) ≡ us → (y : ℕ) → Each (LineSays n) (call_lines v us p y)
      call_line n us is y = by_arg (is_arg us y) refl
        where
          asks : (f : ℕ) (c : CallClosed) → closed_asked us p y f ≡ c → condition.Field (rule.CallClosed (closed_asked (call_args (passed p (edge_of p n).action)) p y f)) ≡ condition.Field (rule.CallClosed c)
          asks f c e = ap (λ (xs : List CallArg). condition.Field (rule.CallClosed (closed_asked xs p y f))) is ∙ ap (λ (d : CallClosed). condition.Field (rule.CallClosed d)) e

          on : (b : Bool) (x z : CallClosed) → b ≡ true → cond b x z ≡ x
          on true x z e = refl
          on false x z e = cc

          off : (b : Bool) (x z : CallClosed) → b ≡ false → cond b x z ≡ z
          off true x z e = cc
          off false x z e = refl

          by_struct : is_arg us y ≡ false → (o : Option ℕ) → v.structure y ≡ o → Each (LineSays n) (sealed_lines v us p y o)
          by_struct e None at = tt
          by_struct e (Some r) at =
              gathered (LineSays n) (v.fields_of r).count (λ j. sealed_line v p y (phis_to v r) (sigmas_to v us p r) ((v.fields_of r).first + j))
              (λ j. (
                asks ((v.fields_of r).first + j) (closed_by.Slot (v.omega p y ((v.fields_of r).first + j)) (v.rho p y) (phis_to v r) (sigmas_to v us p r))
                    (off (is_arg us y) (closed_by.Argument (v.omega p y ((v.fields_of r).first + j))) (sealed_asked us p y (v.structure y) ((v.fields_of r).first + j)) e ∙ ap (λ (o : Option ℕ). sealed_asked us p y o ((v.fields_of r).first + j)) at),
                tt,
              ))

          by_arg : (b : Bool) → is_arg us y ≡ b → Each (LineSays n) (cond b (argument_lines v p y) (when (not (v.fresh p y)) (sealed_lines v us p y (v.structure y))))
          by_arg true e =
              where_on (LineSays n) (not (v.empty p y)) (over_fields v (v.structure y) (argument_line v p y))
              (λ _. over (LineSays n) (v.structure y) (argument_line v p y) (λ f. (asks (suc f) (closed_by.Argument (v.omega p y (suc f))) (on (is_arg us y) (closed_by.Argument (v.omega p y (suc f))) (sealed_asked us p y (v.structure y) (suc f)) e), tt)))
          by_arg false e = where_on (LineSays n) (not (v.fresh p y)) (sealed_lines v us p y (v.structure y)) (λ _. by_struct e (v.structure y) refl)

      calls : (n callee : ℕ) (r : Option ℕ) (us : List ℕ) → (edge_of p n).action ≡ act.Call r callee us → Each Says (call_results v s p n (edge_of p n).to callee r)
      calls n callee None us is = tt
      calls n callee (Some x) us is =
          where_on Says (v.pointer x) (equation v s p n 13 x 0 0 (Equal (v.rho (edge_of p n).to x) (s.part p callee 0)))
          (λ _. ((ap (λ (a : Action). condition.Form (Equal (v.rho (edge_of p n).to x) (s.part p (called a) 0))) is, refl, omega arith), tt))

      -- rules 1 to 14 of edge n

      action : (n : ℕ) (a : Action) → (edge_of p n).action ≡ a → Each Says (action_rules v s p n (edge_of p n).to a)
      action n (act.Unset x) is = targets n x
      action n (act.Null x) is = targets n x
      action n (act.Text x k) is = joined Says (target v s p n x) (text v s p n (edge_of p n).to x) (targets n x) ((refl, refl, omega arith), tt)
      action n (act.Copy x y) is =
          joined Says (target v s p n x ++ copied v s p n (edge_of p n).to x y) (when (is_live v s p y) (closed v s p n (edge_of p n).to x))
          (joined Says (target v s p n x) (copied v s p n (edge_of p n).to x y) (targets n x) (where_on Says (is_live v s p y) _ (λ _. ((refl, refl, omega arith), tt))))
          (where_on Says (is_live v s p y) (closed v s p n (edge_of p n).to x) (λ _. closes n x))
      action n (act.New x zeroed kind count) is = joined Says (target v s p n x) (made v s p n (edge_of p n).to x) (targets n x) ((refl, refl, omega arith), tt)
      action n (act.Free x) is =
          joined Says (freeing v s p n x ++ field_rules v s p n (edge_of p n).to (edge.Free x)) (freed v s p n (edge_of p n).to x)
          (joined Says (freeing v s p n x) (field_rules v s p n (edge_of p n).to (edge.Free x)) (where_on Says (is_live v s p x) _ (λ _. ((refl, refl, omega arith), tt)))
          (lines n (edge_lines v (edge.Free x) p (edge_of p n).to)
          (where_on (LineSays n) (not (v.empty p x)) (over_fields v (v.structure x) (free_field_line v p x)) (λ _. over (LineSays n) (v.structure x) (free_field_line v p x) (λ f. (refl, tt))))))
          (freed_says n x)
      action n (act.Load x y m) is =
          joined Says (target v s p n x ++ closed v s p n (edge_of p n).to x) (field_rules v s p n (edge_of p n).to (edge.Load x y (s.field_at y m)))
          (joined Says (target v s p n x) (closed v s p n (edge_of p n).to x) (targets n x) (closes n x)) (lines n (edge_lines v (edge.Load x y (s.field_at y m)) p (edge_of p n).to) (refl, tt))
      action n (act.Store y m x) is =
          lines n (edge_lines v (edge.Store y (s.field_at y m) x) p (edge_of p n).to)
          (refl, where_on (LineSays n) (not (v.empty p x)) _ (λ _. (refl, tt)))
      action n (act.Call r callee us) is =
          let as_ : List Passed = args v s p callee us in
          let q : ℕ = (edge_of p n).to in
          let passes : passed p (edge_of p n).action ≡ as_ = ap (passed p) is in
          joined Says ((result_rules v s p n q r ++ call_args_rules v s p n as_) ++ call_results v s p n q callee r) (field_rules v s p n q (edge.Call (call_args as_)))
          (joined Says (result_rules v s p n q r ++ call_args_rules v s p n as_) (call_results v s p n q callee r)
          (joined Says (result_rules v s p n q r) (call_args_rules v s p n as_) (results n r)
          (gathered Says v.slots (call_arg_of v s p n as_) (λ u. arguments n as_ as_ passes (found callee 1 1 us) u)))
          (calls n callee r us is))
          (lines n (edge_lines v (edge.Call (call_args as_)) p q) (gathered (LineSays n) v.slots (call_lines v (call_args as_) p) (λ y. call_line n (call_args as_) (ap call_args passes) y)))
      action n a is = tt

      -- rule 21 of edge n
      kept : (n : ℕ) (a : Action) → Each Says (same v s p n (edge_of p n).to a)
      kept n a = gathered Says v.slots (same_slot v s p n (edge_of p n).to a) (λ x.
          where_on Says _ (same_rho v s p n (edge_of p n).to a x ++ when (not (frees_slot a x)) (each_field v s x (same_field v s p n (edge_of p n).to a x)))
          (λ _. joined Says (same_rho v s p n (edge_of p n).to a x) (when (not (frees_slot a x)) (each_field v s x (same_field v s p n (edge_of p n).to a x)))
          (where_on Says (not (frees_rho a x)) _ (λ _. ((refl, refl, omega arith), tt)))
          (where_on Says (not (frees_slot a x)) (each_field v s x (same_field v s p n (edge_of p n).to a x))
          (λ _. over Says (v.structure x) (same_field v s p n (edge_of p n).to a x) (λ f. where_on Says (not (frees_field v s a x (suc f))) _ (λ _. ((refl, refl, omega arith), tt)))))))

      -- rules 15 to 20

      bases : (y : ℕ) (o : Option ℕ) → Each (LineSays 0) (base_lines v p y o)
      bases y None = tt
      bases y (Some r) =
          gathered (LineSays 0) (v.fields_of r).count (λ j. base_line v p y (others v p y r) ((v.fields_of r).first + j))
          (λ j. in_parts (LineSays 0) (one_base_line v p y ((v.fields_of r).first + j)) (others v p y r)
          (every (λ z. Each (LineSays 0) (one_base_line v p y ((v.fields_of r).first + j) z)) (others v p y r) (λ z. (refl, tt))))

      place : Each Says (place_rules v s p)
      place =
          joined Says (entry v s p ++ exit v s p) (of_lines v s p 0 (place_lines v p))
          (joined Says (entry v s p) (exit v s p)
          (where_on Says (eqb p 0) (gather s.params (entry_slot v s p)) (λ _. gathered Says s.params (entry_slot v s p) (λ x.
          where_on Says (v.pointer x) (equation v s p 0 15 x 0 0 (Equal (v.rho p x) (s.pi (s.param_part x))) ++ each_field v s x (closed_at v s p 0 15 p x)) (λ _. ((refl, refl, omega arith), shut 0 15 p x (omega arith) (λ f. refl))))))
          (where_on Says (eqb p (v.places - 1)) (gather v.slots (exit_ret v s p) ++ gather v.slots (exit_own v s p) ++ gather v.slots (exit_closed v s p))
          (λ _. joined Says (gather v.slots (exit_ret v s p) ++ gather v.slots (exit_own v s p)) (gather v.slots (exit_closed v s p))
          (joined Says (gather v.slots (exit_ret v s p)) (gather v.slots (exit_own v s p))
          (gathered Says v.slots (exit_ret v s p) (λ x. where_on Says (is_live v s p x && is_ret v s x) _ (λ _. ((refl, refl, omega arith), tt))))
          (gathered Says v.slots (exit_own v s p) (λ x. where_on Says (is_live v s p x && not (is_ret v s x)) _ (λ _. ((refl, refl, omega arith), tt)))))
          (gathered Says v.slots (exit_closed v s p) (λ x. where_on Says (is_live v s p x) _ (λ _. shut 0 18 p x (omega arith) (λ f. refl)))))))
          (lines 0 (place_lines v p)
          (joined (LineSays 0) (gather v.slots (bound_lines v p)) (gather v.slots (one_base_lines v p))
          (gathered (LineSays 0) v.slots (bound_lines v p) (λ y. over (LineSays 0) (v.structure y) (bound_line v p y) (λ f. (refl, tt))))
          (gathered (LineSays 0) v.slots (one_base_lines v p) (λ y. where_on (LineSays 0) (not (v.fresh p y)) (base_lines v p y (v.structure y)) (λ _. bases y (v.structure y))))))

      edge_says : (n : ℕ) (e : Edge) → edge_of p n ≡ e → Each Says (action_rules v s p n e.to e.action) × Each Says (same v s p n e.to e.action)
      edge_says n e is =
          subst (λ (d : Edge). Each Says (action_rules v s p n d.to d.action) × Each Says (same v s p n d.to d.action)) is
          (action n (edge_of p n).action refl, kept n (edge_of p n).action)

      more : (n : ℕ) (es : List Edge) → ((i : ℕ) → edge_of p (n + i) ≡ get_or es i no_edge) → Each Says (more_edges v s p n es)
      more n [] at = tt
      more n (e ∷ es) at =
          let here : n + 0 ≡ n = omega arith in
          let both = edge_says n e (ap (edge_of p) (sym here) ∙ at 0) in
          joined Says (edge_rules v s p n e) (more_edges v s p (suc n) es) (joined Says (action_rules v s p n e.to e.action) (same v s p n e.to e.action) both.0 both.1)
          (more (suc n) es (λ i. (let next : suc n + i ≡ n + suc i = omega arith in ap (edge_of p) next) ∙ at (suc i)))

      with_edges : (es : List Edge) → s.edges p ≡ es → Each Says (rules_with v s p es)
      with_edges [] is = place
      with_edges (e ∷ es) is =
          let at : (i : ℕ) → edge_of p i ≡ get_or (e ∷ es) i no_edge = λ i. ap (λ (xs : List Edge). get_or xs i no_edge) is in
          let both = edge_says 0 e (at 0) in
          let one : List Constraint = action_rules v s p 0 e.to e.action in
          let two : List Constraint = place_rules v s p in
          let three : List Constraint = same v s p 0 e.to e.action in
          joined Says ((one ++ two) ++ three) (more_edges v s p 1 es) (joined Says (one ++ two) three (joined Says one two both.0 place) both.1)
          (more 1 es (λ i. (let next : 1 + i ≡ suc i = omega arith in ap (edge_of p) next) ∙ at (suc i)))

      pub says : Each Says (constraints_at v s p)
      says = with_edges (s.edges p) refl

    pub all_say : Each Says (proc_constraints v s)
    all_say = gathered Says v.places (constraints_at v s) says

-- Names that are one

pub same_name : (m n : ConstraintName) → is_name m n ≡ true → m ≡ n
same_name m n e =
    let a = and_parts (eqb m.proc n.proc) _ e in
    let b = and_parts (eqb m.place n.place) _ a.1 in
    let c = and_parts (eqb m.edge n.edge) _ b.1 in
    let d = and_parts (eqb m.rule n.rule) _ c.1 in
    let f = and_parts (eqb m.slot n.slot) _ d.1 in
    let g = and_parts (eqb m.field n.field) _ f.1 in
    let h = and_parts (eqb m.other n.other) _ g.1 in
    ap (λ (k : ℕ). let x : ConstraintName = record { proc = k; place = m.place; edge = m.edge; rule = m.rule; slot = m.slot; field = m.field; other = m.other } in x) (eqb-true m.proc n.proc a.0)
    ∙ ap (λ (k : ℕ). let x : ConstraintName = record { proc = n.proc; place = k; edge = m.edge; rule = m.rule; slot = m.slot; field = m.field; other = m.other } in x) (eqb-true m.place n.place b.0)
    ∙ ap (λ (k : ℕ). let x : ConstraintName = record { proc = n.proc; place = n.place; edge = k; rule = m.rule; slot = m.slot; field = m.field; other = m.other } in x) (eqb-true m.edge n.edge c.0)
    ∙ ap (λ (k : ℕ). let x : ConstraintName = record { proc = n.proc; place = n.place; edge = n.edge; rule = k; slot = m.slot; field = m.field; other = m.other } in x) (eqb-true m.rule n.rule d.0)
    ∙ ap (λ (k : ℕ). let x : ConstraintName = record { proc = n.proc; place = n.place; edge = n.edge; rule = n.rule; slot = k; field = m.field; other = m.other } in x) (eqb-true m.slot n.slot f.0)
    ∙ ap (λ (k : ℕ). let x : ConstraintName = record { proc = n.proc; place = n.place; edge = n.edge; rule = n.rule; slot = n.slot; field = k; other = m.other } in x) (eqb-true m.field n.field g.0)
    ∙ ap (λ (k : ℕ). let x : ConstraintName = record { proc = n.proc; place = n.place; edge = n.edge; rule = n.rule; slot = n.slot; field = n.field; other = k } in x) (eqb-true m.other n.other h.0)

pub itself : (n : ConstraintName) → is_name n n ≡ true
itself n = rw (eq-eqb n.proc n.proc refl, eq-eqb n.place n.place refl, eq-eqb n.edge n.edge refl, eq-eqb n.rule n.rule refl, eq-eqb n.slot n.slot refl, eq-eqb n.field n.field refl, eq-eqb n.other n.other refl) refl

-- All of a call group

-- what is found by a name
found_by : (asks : ConstraintName → Condition) (cs : List Constraint) → Each (λ (c : Constraint). asks c.name ≡ c.condition) cs → (c : Constraint) → Contains cs c → condition_in cs c.name ≡ Some c.condition
found_by asks [] says c there = absurd (let lt = there.1 in omega arith)
found_by asks (d ∷ cs) says c there = by_name (is_name d.name c.name) refl there (λ k. found_by asks cs says.1 c k)
  where
    by_name : (b : Bool) → is_name d.name c.name ≡ b → Contains (d ∷ cs) c → (Contains cs c → condition_in cs c.name ≡ Some c.condition) → cond b (Some d.condition) (condition_in cs c.name) ≡ Some c.condition
    by_name true e there later =
        let one : asks c.name ≡ c.condition = one_in (λ (x : Constraint). asks x.name ≡ x.condition) (d ∷ cs) says c there in
        ap (λ (x : Condition). let o : Option Condition = Some x in o) (sym says.0 ∙ ap asks (same_name d.name c.name e) ∙ one)
    by_name false e (zero, lt, is) later = absurd (differ (sym (itself c.name) ∙ ap (λ (x : Constraint). is_name x.name c.name) (sym is) ∙ e))
      where
        differ : true ≡ false → ⊥
        differ e = cc
    by_name false e (suc k, lt, is) later = later (k, omega arith, is)

-- what the constraint of a name asks
abbrev asks_in : FlowGraph → FactTables → List ℕ → ConstraintName → Condition
asks_in g facts members n = asked (sight (body_of g facts members n.proc)) (setting (body_of g facts members n.proc)) n

module _ (g : FlowGraph) (facts : FactTables) (members : List ℕ) where
  abbrev IsNamed : Constraint → Type 0
  IsNamed d = (asks_in g facts members d.name ≡ d.condition) × (0 < d.name.rule)

  all_named : Each IsNamed (constraints g facts members)
  all_named = in_parts IsNamed (body_constraints g facts members) members (every (λ k. Each IsNamed (body_constraints g facts members k)) members of_body)
    where
      of_body : (k : ℕ) → Each IsNamed (body_constraints g facts members k)
      of_body k =
          let v : Sight = sight (body_of g facts members k) in
          let s : Setting = setting (body_of g facts members k) in
          weaker (Says v s) IsNamed (proc_constraints v s)
          (λ d says. (ap (λ (j : ℕ). asked (sight (body_of g facts members j)) (setting (body_of g facts members j)) d.name) says.1 ∙ says.0, says.2))
          (all_say v s (λ r. omega arith))

  pub names_apart : NamesAreApart g facts members
  names_apart c there =
      found_by (asks_in g facts members) (constraints g facts members)
      (weaker IsNamed (λ (d : Constraint). asks_in g facts members d.name ≡ d.condition) (constraints g facts members) (λ d named. named.0) all_named) c there

  -- rules are numbered from 1
  pub rules_positive : (c : Constraint) → Contains (constraints g facts members) c → 0 < c.name.rule
  rules_positive c there = (one_in IsNamed (constraints g facts members) all_named c there).1
