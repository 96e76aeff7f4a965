-- Of which edge, rule and slot are the constraints that a place lists.
use Rattle.std.proofs.Common.{◌≡◌, ℕ, ◌-◌, ◌≤◌, Bool, true, false, cond, ◌&&◌, not, List, [], ◌∷◌, ◌++◌, Option, Some, None, refl, arith, eqb}
use Rattle.flow_graph.specs.declared.action.Action.{Action}
use Rattle.flow_graph.specs.declared.action.Action.TheVariants as act
use Rattle.zo_core.specs.declared.forms.Form.{Form}
use Rattle.field_rules.specs.declared.edges.CallArg.{CallArg}
use Rattle.field_rules.specs.declared.edges.FieldEdge.TheVariants as edge
use Rattle.field_rules.specs.declared.edges.FieldLine.{FieldLine}
use Rattle.field_rules.specs.Lists.{gather, when}
use Rattle.field_rules.specs.Sight.{Sight, over_fields}
use Rattle.field_rules.specs.Lines.{is_arg, free_field_line, argument_line, argument_lines, phis_to, sigmas_to, sealed_line, sealed_lines, call_lines, edge_lines, bound_line, bound_lines, others, one_base_line, base_line, base_lines, one_base_lines, place_lines}
use Rattle.field_rules.specs.Meaning.{rule_number}
use Rattle.transfer_rules.specs.declared.args.PassedArg.{PassedArg}
use Rattle.transfer_rules.specs.declared.constraint.Constraint.{Constraint}
use Rattle.transfer_rules.specs.Body.{Setting}
use Rattle.transfer_rules.specs.Rules.{equation, of_lines, each_field, is_live, closed_at, nothing_at, target, copied, closed, made, text, freeing, freed, call_arg_at, call_arg_of, call_args_rules, call_args, args, call_results, result_rules, field_rules, action_rules, frees_rho, frees_slot, frees_field, same_rho, same_field, same_slot, same, entry_slot, entry, is_ret, exit_ret, exit_own, exit_closed, exit, place_rules}
use Rattle.transfer_rules.specs.Holds.{Each}
use Rattle.transfer_rules.proofs.EachLemmas.{each-append, each-gather, each-when, each-flat, each-range}

pub each-all : {X : Type 0} (P Q : X → Type 0) (xs : List X) → ((x : X) → P x → Q x) → Each P xs → Each Q xs
each-all P Q [] f h = tt
each-all P Q (x ∷ xs) f h = (f x h.0, each-all P Q xs f h.1)

pub each-every : {X : Type 0} (P : X → Type 0) (xs : List X) → ((x : X) → P x) → Each P xs
each-every P [] h = tt
each-every P (x ∷ xs) h = (h x, each-every P xs h)

pub each-over : {X : Type 0} (P : X → Type 0) (v : Sight) (o : Option ℕ) (c : ℕ → List X) → ((f : ℕ) → Each P (c f)) → Each P (over_fields v o c)
each-over P v None c h = tt
each-over P v (Some r) c h = (each-range P (v.fields_of r) c).1 (λ f from to. h f)

-- the rule is within these numbers
pub record In (k lo hi : ℕ) (c : Constraint) : Type 0 where
  pub edge : c.name.edge ≡ k
  pub from : lo ≤ c.name.rule
  pub to : c.name.rule ≤ hi

-- it is this rule, on this slot
pub record Of (k r x : ℕ) (c : Constraint) : Type 0 where
  pub edge : c.name.edge ≡ k
  pub rule : c.name.rule ≡ r
  pub slot : c.name.slot ≡ x

pub record LineOf (r x : ℕ) (l : FieldLine) : Type 0 where
  pub rule : rule_number l.rule ≡ r
  pub slot : l.slot ≡ x

pub in_of : (k r x : ℕ) (c : Constraint) → Of k r x c → In k r r c
in_of k r x c h = let e = h.rule in record { edge = h.edge; from = omega arith; to = omega arith }

pub in_wider : (k lo hi a b : ℕ) → a ≤ lo → hi ≤ b → (c : Constraint) → In k lo hi c → In k a b c
in_wider k lo hi a b p q c h = let f = h.from in let t = h.to in record { edge = h.edge; from = omega arith; to = omega arith }

module _ (v : Sight) (s : Setting) (p : ℕ) where
  module _ (k r x : ℕ) where
    one : (f o : ℕ) (form : Form) → Each (Of k r x) (equation v s p k r x f o form)
    one f o form = (record { edge = refl; rule = refl; slot = refl }, tt)

    on : (b : Bool) (xs : List Constraint) → Each (Of k r x) xs → Each (Of k r x) (when b xs)
    on b xs h = (each-when (Of k r x) b xs).1 (λ _. h)

    pub shut : (place : ℕ) → Each (Of k r x) (each_field v s x (closed_at v s p k r place x))
    shut place = each-over (Of k r x) v (v.structure x) (closed_at v s p k r place x) (λ f. one f 0 _)

    pub nothing : (place : ℕ) → Each (Of k r x) (nothing_at v s p k r place x)
    nothing place = (record { edge = refl; rule = refl; slot = refl }, shut place)

    pub lines : (ls : List FieldLine) → Each (LineOf r x) ls → Each (Of k r x) (of_lines v s p k ls)
    lines [] h = tt
    lines (l ∷ ls) h = (record { edge = refl; rule = h.0.rule; slot = h.0.slot }, lines ls h.1)

  wide : (k r x lo hi : ℕ) → lo ≤ r → r ≤ hi → (cs : List Constraint) → Each (Of k r x) cs → Each (In k lo hi) cs
  wide k r x lo hi a b cs h = each-all (Of k r x) (In k lo hi) cs (λ c o. let e = o.rule in record { edge = o.edge; from = omega arith; to = omega arith }) h

  both : (k lo hi : ℕ) (xs ys : List Constraint) → Each (In k lo hi) xs → Each (In k lo hi) ys → Each (In k lo hi) (xs ++ ys)
  both k lo hi xs ys h g = (each-append (In k lo hi) xs ys).1 (h, g)

  within : (k lo hi : ℕ) (b : Bool) (xs : List Constraint) → Each (In k lo hi) xs → Each (In k lo hi) (when b xs)
  within k lo hi b xs h = (each-when (In k lo hi) b xs).1 (λ _. h)

  all : (k lo hi n : ℕ) (f : ℕ → List Constraint) → ((x : ℕ) → Each (In k lo hi) (f x)) → Each (In k lo hi) (gather n f)
  all k lo hi n f h = (each-gather (In k lo hi) n f).1 (λ x lt. h x)

  -- rules 1 to 14

  pub target_of : (k x : ℕ) → Each (Of k 1 x) (target v s p k x)
  target_of k x = on k 1 x (is_live v s p x) (nothing_at v s p k 1 p x) (nothing k 1 x p)

  pub freed_of : (k q x : ℕ) → Each (Of k 8 x) (freed v s p k q x)
  freed_of k q x = on k 8 x (is_live v s p x) (nothing_at v s p k 8 q x) (nothing k 8 x q)

  pub arg_of : (k u : ℕ) (us : List PassedArg) → Each (Of k 12 u) (call_arg_of v s p k us u)
  arg_of k u us = (each-flat (Of k 12 u) (call_arg_at v s p k u) us).1 (each-every (λ a. Each (Of k 12 u) (call_arg_at v s p k u a)) us (λ a. on k 12 u (eqb a.slot u && not (v.empty p u)) _ (one k 12 u 0 a.number _)))

  pub args_in : (k : ℕ) (us : List PassedArg) → Each (In k 12 12) (call_args_rules v s p k us)
  args_in k us = all k 12 12 v.slots (call_arg_of v s p k us) (λ u. wide k 12 u 12 12 (omega arith) (omega arith) (call_arg_of v s p k us u) (arg_of k u us))

  pub results_in : (k q : ℕ) (r : Option ℕ) → Each (In k 1 3) (result_rules v s p k q r)
  results_in k q None = tt
  results_in k q (Some x) =
      both k 1 3 (target v s p k x) (closed v s p k q x)
      (wide k 1 x 1 3 (omega arith) (omega arith) (target v s p k x) (target_of k x))
      (wide k 3 x 1 3 (omega arith) (omega arith) (closed v s p k q x) (shut k 3 x q))

  pub gives_in : (k q callee : ℕ) (r : Option ℕ) → Each (In k 13 13) (call_results v s p k q callee r)
  gives_in k q callee None = tt
  gives_in k q callee (Some x) = within k 13 13 (v.pointer x) _ (record { edge = refl; from = omega arith; to = omega arith }, tt)

  free_line : (x : ℕ) → Each (LineOf 7 x) (edge_lines v (edge.Free x) p p)
  free_line x = (each-when (LineOf 7 x) (not (v.empty p x)) (over_fields v (v.structure x) (free_field_line v p x))).1
      (λ _. each-over (LineOf 7 x) v (v.structure x) (free_field_line v p x) (λ f. (record { rule = refl; slot = refl }, tt)))

  pub free_of : (k q x : ℕ) → Each (Of k 7 x) (field_rules v s p k q (edge.Free x))
  free_of k q x = lines k 7 x (edge_lines v (edge.Free x) p q) (free_line x)

  sealed_of : (us : List CallArg) (y : ℕ) (o : Option ℕ) → Each (LineOf 14 y) (sealed_lines v us p y o)
  sealed_of us y None = tt
  sealed_of us y (Some r) = (each-range (LineOf 14 y) (v.fields_of r) (sealed_line v p y (phis_to v r) (sigmas_to v us p r))).1 (λ f from to. (record { rule = refl; slot = refl }, tt))

  pub call_of : (us : List CallArg) (y : ℕ) → Each (LineOf 14 y) (call_lines v us p y)
  call_of us y = by (is_arg us y)
    where
      by : (b : Bool) → Each (LineOf 14 y) (cond b (argument_lines v p y) (when (not (v.fresh p y)) (sealed_lines v us p y (v.structure y))))
      by true = (each-when (LineOf 14 y) (not (v.empty p y)) (over_fields v (v.structure y) (argument_line v p y))).1 (λ _. each-over (LineOf 14 y) v (v.structure y) (argument_line v p y) (λ f. (record { rule = refl; slot = refl }, tt)))
      by false = (each-when (LineOf 14 y) (not (v.fresh p y)) (sealed_lines v us p y (v.structure y))).1 (λ _. sealed_of us y (v.structure y))

  pub call_lines_of : (k : ℕ) (us : List CallArg) (y : ℕ) → Each (Of k 14 y) (of_lines v s p k (call_lines v us p y))
  call_lines_of k us y = lines k 14 y (call_lines v us p y) (call_of us y)

  -- lines of rules within these numbers
  abbrev pub LineIn : ℕ → ℕ → FieldLine → Type 0
  LineIn lo hi l = (lo ≤ rule_number l.rule) × (rule_number l.rule ≤ hi)

  pub lines_in : (k lo hi : ℕ) (ls : List FieldLine) → Each (LineIn lo hi) ls → Each (In k lo hi) (of_lines v s p k ls)
  lines_in k lo hi [] h = tt
  lines_in k lo hi (l ∷ ls) h = (record { edge = refl; from = h.0.0; to = h.0.1 }, lines_in k lo hi ls h.1)

  line_in : (r x lo hi : ℕ) → lo ≤ r → r ≤ hi → (ls : List FieldLine) → Each (LineOf r x) ls → Each (LineIn lo hi) ls
  line_in r x lo hi a b ls h = each-all (LineOf r x) (LineIn lo hi) ls (λ l o. let e = o.rule in (omega arith, omega arith)) h

  pub calls_in : (k q : ℕ) (us : List CallArg) → Each (In k 14 14) (field_rules v s p k q (edge.Call us))
  calls_in k q us = lines_in k 14 14 (gather v.slots (call_lines v us p)) ((each-gather (LineIn 14 14) v.slots (call_lines v us p)).1 (λ y lt. line_in 14 y 14 14 (omega arith) (omega arith) (call_lines v us p y) (call_of us y)))

  pub action_in : (k q : ℕ) (a : Action) → Each (In k 1 14) (action_rules v s p k q a)
  action_in k q (act.Unset x) = wide k 1 x 1 14 (omega arith) (omega arith) (target v s p k x) (target_of k x)
  action_in k q (act.Null x) = wide k 1 x 1 14 (omega arith) (omega arith) (target v s p k x) (target_of k x)
  action_in k q (act.Text x n) =
      both k 1 14 (target v s p k x) (text v s p k q x) (wide k 1 x 1 14 (omega arith) (omega arith) (target v s p k x) (target_of k x))
      (wide k 5 x 1 14 (omega arith) (omega arith) (text v s p k q x) (one k 5 x 0 0 _))
  action_in k q (act.Copy x y) =
      both k 1 14 (target v s p k x ++ copied v s p k q x y) (when (is_live v s p y) (closed v s p k q x))
      (both k 1 14 (target v s p k x) (copied v s p k q x y) (wide k 1 x 1 14 (omega arith) (omega arith) (target v s p k x) (target_of k x))
      (within k 1 14 (is_live v s p y) _ (record { edge = refl; from = omega arith; to = omega arith }, tt)))
      (within k 1 14 (is_live v s p y) (closed v s p k q x) (wide k 3 x 1 14 (omega arith) (omega arith) (closed v s p k q x) (shut k 3 x q)))
  action_in k q (act.New x zeroed kind count) =
      both k 1 14 (target v s p k x) (made v s p k q x) (wide k 1 x 1 14 (omega arith) (omega arith) (target v s p k x) (target_of k x))
      (wide k 4 x 1 14 (omega arith) (omega arith) (made v s p k q x) (one k 4 x 0 0 _))
  action_in k q (act.Free x) =
      both k 1 14 (freeing v s p k x ++ field_rules v s p k q (edge.Free x)) (freed v s p k q x)
      (both k 1 14 (freeing v s p k x) (field_rules v s p k q (edge.Free x))
      (within k 1 14 (is_live v s p x) _ (record { edge = refl; from = omega arith; to = omega arith }, tt))
      (wide k 7 x 1 14 (omega arith) (omega arith) (field_rules v s p k q (edge.Free x)) (free_of k q x)))
      (wide k 8 x 1 14 (omega arith) (omega arith) (freed v s p k q x) (freed_of k q x))
  action_in k q (act.Load x y m) =
      both k 1 14 (target v s p k x ++ closed v s p k q x) (field_rules v s p k q (edge.Load x y (s.field_at y m)))
      (both k 1 14 (target v s p k x) (closed v s p k q x) (wide k 1 x 1 14 (omega arith) (omega arith) (target v s p k x) (target_of k x))
      (wide k 3 x 1 14 (omega arith) (omega arith) (closed v s p k q x) (shut k 3 x q)))
      (lines_in k 1 14 (edge_lines v (edge.Load x y (s.field_at y m)) p q) ((omega arith, omega arith), tt))
  action_in k q (act.Store y m x) =
      lines_in k 1 14 (edge_lines v (edge.Store y (s.field_at y m) x) p q) ((omega arith, omega arith), (each-when (LineIn 1 14) (not (v.empty p x)) _).1 (λ _. ((omega arith, omega arith), tt)))
  action_in k q (act.Call r callee us) =
      let as' = args v s p callee us in
      let e = edge.Call (call_args as') in
      both k 1 14 ((result_rules v s p k q r ++ call_args_rules v s p k as') ++ call_results v s p k q callee r) (field_rules v s p k q e)
      (both k 1 14 (result_rules v s p k q r ++ call_args_rules v s p k as') (call_results v s p k q callee r)
      (both k 1 14 (result_rules v s p k q r) (call_args_rules v s p k as')
      (each-all (In k 1 3) (In k 1 14) (result_rules v s p k q r) (in_wider k 1 3 1 14 (omega arith) (omega arith)) (results_in k q r))
      (each-all (In k 12 12) (In k 1 14) (call_args_rules v s p k as') (in_wider k 12 12 1 14 (omega arith) (omega arith)) (args_in k as')))
      (each-all (In k 13 13) (In k 1 14) (call_results v s p k q callee r) (in_wider k 13 13 1 14 (omega arith) (omega arith)) (gives_in k q callee r)))
      (each-all (In k 14 14) (In k 1 14) (field_rules v s p k q e) (in_wider k 14 14 1 14 (omega arith) (omega arith)) (calls_in k q (call_args as')))
  action_in k q a = tt

  -- rule 21

  pub same_of : (k q : ℕ) (a : Action) (x : ℕ) → Each (Of k 21 x) (same_slot v s p k q a x)
  same_of k q a x =
      on k 21 x _ (same_rho v s p k q a x ++ when (not (frees_slot a x)) (each_field v s x (same_field v s p k q a x)))
      ((each-append (Of k 21 x) (same_rho v s p k q a x) (when (not (frees_slot a x)) (each_field v s x (same_field v s p k q a x)))).1 (
        on k 21 x (not (frees_rho a x)) _ (one k 21 x 0 0 _),
        on k 21 x (not (frees_slot a x)) (each_field v s x (same_field v s p k q a x))
            (each-over (Of k 21 x) v (v.structure x) (same_field v s p k q a x) (λ f. on k 21 x (not (frees_field v s a x f)) _ (one k 21 x f 0 _))),
      ))

  pub same_in : (k q : ℕ) (a : Action) → Each (In k 21 21) (same v s p k q a)
  same_in k q a = all k 21 21 v.slots (same_slot v s p k q a) (λ x. wide k 21 x 21 21 (omega arith) (omega arith) (same_slot v s p k q a x) (same_of k q a x))

  -- rules 15 to 20

  pub entry_of : (x : ℕ) → Each (Of 0 15 x) (entry_slot v s p x)
  entry_of x = on 0 15 x (v.pointer x) _ (record { edge = refl; rule = refl; slot = refl }, shut 0 15 x p)

  pub ret_of : (x : ℕ) → Each (Of 0 16 x) (exit_ret v s p x)
  ret_of x = on 0 16 x (is_live v s p x && is_ret v s x) _ (one 0 16 x 0 0 _)

  pub own_of : (x : ℕ) → Each (Of 0 17 x) (exit_own v s p x)
  own_of x = on 0 17 x (is_live v s p x && not (is_ret v s x)) _ (one 0 17 x 0 0 _)

  pub closed_of : (x : ℕ) → Each (Of 0 18 x) (exit_closed v s p x)
  closed_of x = on 0 18 x (is_live v s p x) _ (shut 0 18 x p)

  bound_line_of : (y : ℕ) → Each (LineOf 19 y) (bound_lines v p y)
  bound_line_of y = each-over (LineOf 19 y) v (v.structure y) (bound_line v p y) (λ f. (record { rule = refl; slot = refl }, tt))

  pub bound_of : (y : ℕ) → Each (Of 0 19 y) (of_lines v s p 0 (bound_lines v p y))
  bound_of y = lines 0 19 y (bound_lines v p y) (bound_line_of y)

  pub base_of : (y : ℕ) (zs : List ℕ) (f : ℕ) → Each (LineOf 20 y) (base_line v p y zs f)
  base_of y zs f = (each-flat (LineOf 20 y) (one_base_line v p y f) zs).1 (each-every (λ z. Each (LineOf 20 y) (one_base_line v p y f z)) zs (λ z. (record { rule = refl; slot = refl }, tt)))

  bases_of : (y : ℕ) (o : Option ℕ) → Each (LineOf 20 y) (base_lines v p y o)
  bases_of y None = tt
  bases_of y (Some r) = (each-range (LineOf 20 y) (v.fields_of r) (base_line v p y (others v p y r))).1 (λ f from to. base_of y (others v p y r) f)

  one_base_of : (y : ℕ) → Each (LineOf 20 y) (one_base_lines v p y)
  one_base_of y = (each-when (LineOf 20 y) (not (v.fresh p y)) (base_lines v p y (v.structure y))).1 (λ _. bases_of y (v.structure y))

  pub pairs_of : (y : ℕ) → Each (Of 0 20 y) (of_lines v s p 0 (one_base_lines v p y))
  pairs_of y = lines 0 20 y (one_base_lines v p y) (one_base_of y)

  pub entry_in : Each (In 0 15 15) (entry v s p)
  entry_in = within 0 15 15 (eqb p 0) (gather s.params (entry_slot v s p)) (all 0 15 15 s.params (entry_slot v s p) (λ x. wide 0 15 x 15 15 (omega arith) (omega arith) (entry_slot v s p x) (entry_of x)))

  pub rets_in : Each (In 0 16 16) (gather v.slots (exit_ret v s p))
  rets_in = all 0 16 16 v.slots (exit_ret v s p) (λ x. wide 0 16 x 16 16 (omega arith) (omega arith) (exit_ret v s p x) (ret_of x))

  pub owns_in : Each (In 0 17 17) (gather v.slots (exit_own v s p))
  owns_in = all 0 17 17 v.slots (exit_own v s p) (λ x. wide 0 17 x 17 17 (omega arith) (omega arith) (exit_own v s p x) (own_of x))

  pub shuts_in : Each (In 0 18 18) (gather v.slots (exit_closed v s p))
  shuts_in = all 0 18 18 v.slots (exit_closed v s p) (λ x. wide 0 18 x 18 18 (omega arith) (omega arith) (exit_closed v s p x) (closed_of x))

  pub exit_in : Each (In 0 16 18) (exit v s p)
  exit_in =
      within 0 16 18 (eqb p (v.places - 1)) ((gather v.slots (exit_ret v s p) ++ gather v.slots (exit_own v s p)) ++ gather v.slots (exit_closed v s p))
      (both 0 16 18 (gather v.slots (exit_ret v s p) ++ gather v.slots (exit_own v s p)) (gather v.slots (exit_closed v s p))
      (both 0 16 18 (gather v.slots (exit_ret v s p)) (gather v.slots (exit_own v s p))
      (each-all (In 0 16 16) (In 0 16 18) (gather v.slots (exit_ret v s p)) (in_wider 0 16 16 16 18 (omega arith) (omega arith)) rets_in)
      (each-all (In 0 17 17) (In 0 16 18) (gather v.slots (exit_own v s p)) (in_wider 0 17 17 16 18 (omega arith) (omega arith)) owns_in))
      (each-all (In 0 18 18) (In 0 16 18) (gather v.slots (exit_closed v s p)) (in_wider 0 18 18 16 18 (omega arith) (omega arith)) shuts_in))

  pub bounds_in : Each (In 0 19 19) (of_lines v s p 0 (gather v.slots (bound_lines v p)))
  bounds_in = lines_in 0 19 19 (gather v.slots (bound_lines v p)) ((each-gather (LineIn 19 19) v.slots (bound_lines v p)).1 (λ y lt. line_in 19 y 19 19 (omega arith) (omega arith) (bound_lines v p y) (bound_line_of y)))

  pub bases_in : Each (In 0 20 20) (of_lines v s p 0 (gather v.slots (one_base_lines v p)))
  bases_in = lines_in 0 20 20 (gather v.slots (one_base_lines v p)) ((each-gather (LineIn 20 20) v.slots (one_base_lines v p)).1 (λ y lt. line_in 20 y 20 20 (omega arith) (omega arith) (one_base_lines v p y) (one_base_of y)))

  pub place_in : Each (In 0 15 20) (place_rules v s p)
  place_in =
      both 0 15 20 (entry v s p ++ exit v s p) (of_lines v s p 0 (place_lines v p))
      (both 0 15 20 (entry v s p) (exit v s p)
      (each-all (In 0 15 15) (In 0 15 20) (entry v s p) (in_wider 0 15 15 15 20 (omega arith) (omega arith)) entry_in)
      (each-all (In 0 16 18) (In 0 15 20) (exit v s p) (in_wider 0 16 18 15 20 (omega arith) (omega arith)) exit_in))
      (lines_in 0 15 20 (place_lines v p) ((each-append (LineIn 15 20) (gather v.slots (bound_lines v p)) (gather v.slots (one_base_lines v p))).1 (
        (each-gather (LineIn 15 20) v.slots (bound_lines v p)).1 (λ y lt. line_in 19 y 15 20 (omega arith) (omega arith) (bound_lines v p y) (bound_line_of y)),
        (each-gather (LineIn 15 20) v.slots (one_base_lines v p)).1 (λ y lt. line_in 20 y 15 20 (omega arith) (omega arith) (one_base_lines v p y) (one_base_of y)),
      )))
