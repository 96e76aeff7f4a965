-- The names of a call group ascend: each stands before all later ones.
use Rattle.std.proofs.Common.{◌≡◌, ℕ, zero, suc, ◌+◌, ◌-◌, ◌<◌, ◌≤◌, Bool, true, false, cond, ◌&&◌, ◌||◌, not, List, [], ◌∷◌, ◌++◌, Option, Some, None, refl, sym, subst, ◌∙◌, arith, eqb, ltb}
use Rattle.std.specs.List.{flat_map}
use Rattle.std.proofs.lemmas.Bool.{lt-ltb, eq-eqb}
use Rattle.zo_core.specs.declared.forms.Form.TheVariants.{Zero, One, Equal, Sum}
use Rattle.flow_graph.specs.declared.action.Action.{Action}
use Rattle.flow_graph.specs.declared.action.Action.TheVariants as act
use Rattle.flow_graph.specs.declared.action.Edge.{Edge}
use Rattle.field_rules.specs.declared.edges.CallArg.{CallArg}
use Rattle.field_rules.specs.declared.edges.FieldEdge.TheVariants as edge
use Rattle.field_rules.specs.declared.edges.FieldLine.{FieldLine}
use Rattle.field_rules.specs.Lists.{gather, when}
use Rattle.field_rules.specs.Sight.{Sight, over_fields}
use Rattle.field_rules.specs.declared.rules.FieldRule.TheVariants as rule
use Rattle.field_rules.specs.Lines.{line, store_open_lines, store_lines, is_arg, free_field_line, argument_line, argument_lines, phis_to, sigmas_to, sealed_line, sealed_lines, call_lines, bound_line, bound_lines, is_other, other, others, one_base_line, base_line, base_lines, one_base_lines, place_lines}
use Rattle.transfer_rules.specs.declared.args.PassedArg.{PassedArg}
use Rattle.transfer_rules.specs.declared.constraint.Constraint.{Constraint}
use Rattle.transfer_rules.specs.Body.{Setting}
use Rattle.transfer_rules.specs.Names.{is_less, comes_before}
use Rattle.transfer_rules.specs.Rules.{equation, of_line, of_lines, each_field, is_live, closed_at, nothing_at, target, copied, closed, made, text, freeing, freed, call_arg_at, call_arg_of, call_args_rules, call_args, args_from, args, call_results, result_rules, field_rules, action_rules, frees_rho, frees_slot, frees_field, same_rho, same_field, same_slot, same, entry_slot, entry, is_ret, exit_ret, exit_own, exit_closed, exit, place_rules, edge_rules, more_edges, rules_with, constraints_at, proc_constraints}
use Rattle.transfer_rules.specs.Holds.{Each}
use Rattle.transfer_rules.proofs.EachLemmas.{each-append, each-gather, each-when, each-flat, each-range}
use Rattle.transfer_rules.proofs.Listed.{each-all, In, Of, in_wider, LineIn, lines_in, shut, target_of, freed_of, arg_of, args_in, results_in, gives_in, call_lines_of, calls_in, free_of, action_in, same_of, same_in, entry_of, ret_of, own_of, closed_of, bound_of, pairs_of, entry_in, rets_in, owns_in, shuts_in, exit_in, bounds_in, bases_in, place_in}
use Rattle.transfer_rules.proofs.Placed.{At, placed}
use Rattle.transfer_rules.proofs.Alone.{flat_append, flat_gather, flat_over, flat_flat}

-- Keys

less_here : (a b : ℕ) (ks bs : List ℕ) → a < b → is_less (a ∷ ks) (b ∷ bs) ≡ true
less_here a b ks bs lt = rw (lt-ltb a b lt) refl

less_later : (a b : ℕ) (ks bs : List ℕ) → a ≡ b → is_less ks bs ≡ true → is_less (a ∷ ks) (b ∷ bs) ≡ true
less_later a b ks bs same less = rw (eq-eqb a b same, less) (or_true (ltb a b))
  where
    or_true : (x : Bool) → (x || true) ≡ true
    or_true true = refl
    or_true false = refl

-- Lists of which each element stands before all later ones, by any order

module _ {X : Type 0} (B : X → X → Type 0) where
  abbrev pub Rise : List X → Type 0
  Rise [] = Unit {0}
  Rise (x ∷ xs) = Each (B x) xs × Rise xs

  pub rise-append : (xs ys : List X) → Rise xs → Rise ys → Each (λ x. Each (B x) ys) xs → Rise (xs ++ ys)
  rise-append [] ys h k c = k
  rise-append (x ∷ xs) ys h k c = ((each-append (B x) xs ys).1 (h.0, c.0), rise-append xs ys h.1 k c.1)

  pub rise-when : (b : Bool) (xs : List X) → Rise xs → Rise (when b xs)
  rise-when true xs h = h
  rise-when false xs h = tt

  pub cross : (P Q : X → Type 0) → ((x y : X) → P x → Q y → B x y) → (xs ys : List X) → Each P xs → Each Q ys → Each (λ x. Each (B x) ys) xs
  cross P Q less xs ys h k = each-all P (λ x. Each (B x) ys) xs (λ x p. each-all Q (B x) ys (λ y q. less x y p q) k) h

  module _ (P : ℕ → X → Type 0) (less : (i j : ℕ) (x y : X) → i < j → P i x → P j y → B x y) where
    abbrev Lower : ℕ → X → Type 0
    Lower n x = (i : ℕ) × (i < n) × P i x

    pub rise-gather : (n : ℕ) (f : ℕ → List X) → ((i : ℕ) → Each (P i) (f i)) → ((i : ℕ) → Rise (f i)) → Rise (gather n f)
    rise-gather zero f h r = tt
    rise-gather (suc n) f h r =
        rise-append (gather n f) (f n) (rise-gather n f h r) (r n)
        (cross (Lower n) (P n) (λ x y p q. less p.0 n x y p.1 p.2 q) (gather n f) (f n) ((each-gather (Lower n) n f).1 (λ i lt. each-all (P i) (Lower n) (f i) (λ x p. (i, lt, p)) (h i))) (h n))

-- Of one place

abbrev pub Follows : Constraint → Constraint → Type 0
Follows c d =
    is_less (c.name.edge ∷ c.name.rule ∷ c.name.slot ∷ c.name.field ∷ c.name.other ∷ []) (d.name.edge ∷ d.name.rule ∷ d.name.slot ∷ d.name.field ∷ d.name.other ∷ []) ≡ true

abbrev tail_4 : Constraint → List ℕ
tail_4 c = c.name.rule ∷ c.name.slot ∷ c.name.field ∷ c.name.other ∷ []

abbrev tail_3 : Constraint → List ℕ
tail_3 c = c.name.slot ∷ c.name.field ∷ c.name.other ∷ []

abbrev tail_2 : Constraint → List ℕ
tail_2 c = c.name.field ∷ c.name.other ∷ []

abbrev tail_1 : Constraint → List ℕ
tail_1 c = c.name.other ∷ []

by_edge : (c d : Constraint) → c.name.edge < d.name.edge → Follows c d
by_edge c d lt = less_here c.name.edge d.name.edge (tail_4 c) (tail_4 d) lt

by_rule : (c d : Constraint) → c.name.edge ≡ d.name.edge → c.name.rule < d.name.rule → Follows c d
by_rule c d e lt = less_later c.name.edge d.name.edge (tail_4 c) (tail_4 d) e (less_here c.name.rule d.name.rule (tail_3 c) (tail_3 d) lt)

by_slot : (c d : Constraint) → c.name.edge ≡ d.name.edge → c.name.rule ≡ d.name.rule → c.name.slot < d.name.slot → Follows c d
by_slot c d e r lt =
    less_later c.name.edge d.name.edge (tail_4 c) (tail_4 d) e (less_later c.name.rule d.name.rule (tail_3 c) (tail_3 d) r
    (less_here c.name.slot d.name.slot (tail_2 c) (tail_2 d) lt))

by_field : (c d : Constraint) → c.name.edge ≡ d.name.edge → c.name.rule ≡ d.name.rule → c.name.slot ≡ d.name.slot → c.name.field < d.name.field → Follows c d
by_field c d e r x lt =
    less_later c.name.edge d.name.edge (tail_4 c) (tail_4 d) e (less_later c.name.rule d.name.rule (tail_3 c) (tail_3 d) r
    (less_later c.name.slot d.name.slot (tail_2 c) (tail_2 d) x (less_here c.name.field d.name.field (tail_1 c) (tail_1 d) lt)))

by_other : (c d : Constraint) → c.name.edge ≡ d.name.edge → c.name.rule ≡ d.name.rule → c.name.slot ≡ d.name.slot → c.name.field ≡ d.name.field → c.name.other < d.name.other → Follows c d
by_other c d e r x f lt =
    less_later c.name.edge d.name.edge (tail_4 c) (tail_4 d) e (less_later c.name.rule d.name.rule (tail_3 c) (tail_3 d) r
    (less_later c.name.slot d.name.slot (tail_2 c) (tail_2 d) x (less_later c.name.field d.name.field (tail_1 c) (tail_1 d) f (less_here c.name.other d.name.other [] [] lt))))

-- this rule, slot and field
pub record OfField (k r x f : ℕ) (c : Constraint) : Type 0 where
  pub edge : c.name.edge ≡ k
  pub rule : c.name.rule ≡ r
  pub slot : c.name.slot ≡ x
  pub field : c.name.field ≡ f

pub record OfOther (k r x f z : ℕ) (c : Constraint) : Type 0 where
  pub edge : c.name.edge ≡ k
  pub rule : c.name.rule ≡ r
  pub slot : c.name.slot ≡ x
  pub field : c.name.field ≡ f
  pub other : c.name.other ≡ z

-- one list after another, of later rules
after : (k a b lo hi : ℕ) → b < lo → (xs ys : List Constraint) → Each (In k a b) xs → Each (In k lo hi) ys → Rise Follows xs → Rise Follows ys → Rise Follows (xs ++ ys)
after k a b lo hi lt xs ys h g p q =
    rise-append Follows xs ys p q (cross Follows (In k a b) (In k lo hi) (λ c d i j. let to = i.to in let from = j.from in by_rule c d (i.edge ∙ sym j.edge) (omega arith)) xs ys h g)

-- those of each slot in turn
over_slots : (k r n : ℕ) (f : ℕ → List Constraint) → ((x : ℕ) → Each (Of k r x) (f x)) → ((x : ℕ) → Rise Follows (f x)) → Rise Follows (gather n f)
over_slots k r n f h p =
    rise-gather Follows (Of k r) (λ i j c d lt a b. let e = a.slot in let g = b.slot in by_slot c d (a.edge ∙ sym b.edge) (a.rule ∙ sym b.rule) (omega arith)) n f h p

-- those of each other in turn
over_others : (k r x f n : ℕ) (c : ℕ → List Constraint) → ((z : ℕ) → Each (OfOther k r x f z) (c z)) → ((z : ℕ) → Rise Follows (c z)) → Rise Follows (gather n c)
over_others k r x f n c h p =
    rise-gather Follows (OfOther k r x f) (λ i j c d lt a b. let e = a.other in let g = b.other in by_other c d (a.edge ∙ sym b.edge) (a.rule ∙ sym b.rule) (a.slot ∙ sym b.slot) (a.field ∙ sym b.field) (omega arith)) n c h p

module _ (v : Sight) (s : Setting) (positive : (r : ℕ) → 0 < (v.fields_of r).first) where
  -- those of each field in turn
  over : (k r x : ℕ) (o : Option ℕ) (c : ℕ → List Constraint) → ((f : ℕ) → Each (OfField k r x f) (c f)) → ((f : ℕ) → Rise Follows (c f)) → Rise Follows (over_fields v o c)
  over k r x None c h p = tt
  over k r x (Some t) c h p =
      rise-gather Follows (λ j. OfField k r x ((v.fields_of t).first + j))
      (λ i j c d lt a b. let e = a.field in let g = b.field in by_field c d (a.edge ∙ sym b.edge) (a.rule ∙ sym b.rule) (a.slot ∙ sym b.slot) (omega arith))
      (v.fields_of t).count (λ j. c ((v.fields_of t).first + j)) (λ j. h ((v.fields_of t).first + j)) (λ j. p ((v.fields_of t).first + j))

  -- a field, none of which is 0
  record OfSome (k r x : ℕ) (c : Constraint) : Type 0 where
    edge : c.name.edge ≡ k
    rule : c.name.rule ≡ r
    slot : c.name.slot ≡ x
    field : 0 < c.name.field

  some : (k r x : ℕ) (o : Option ℕ) (c : ℕ → List Constraint) → ((f : ℕ) → Each (OfField k r x f) (c f)) → Each (OfSome k r x) (over_fields v o c)
  some k r x None c h = tt
  some k r x (Some t) c h =
      (each-range (OfSome k r x) (v.fields_of t) c).1
      (λ f from to. each-all (OfField k r x f) (OfSome k r x) (c f) (λ d o. let e = o.field in let lt = positive t in record { edge = o.edge; rule = o.rule; slot = o.slot; field = omega arith }) (h f))

  -- the slot itself, and then its fields
  then_fields : (k r x : ℕ) (xs : List Constraint) (o : Option ℕ) (c : ℕ → List Constraint) → Each (OfField k r x 0) xs → Rise Follows xs
      → ((f : ℕ) → Each (OfField k r x f) (c f)) → ((f : ℕ) → Rise Follows (c f)) → Rise Follows (xs ++ over_fields v o c)
  then_fields k r x xs o c h p g q =
      rise-append Follows xs (over_fields v o c) p (over k r x o c g q)
      (cross Follows (OfField k r x 0) (OfSome k r x) (λ c d a b. let e = a.field in let l = b.field in by_field c d (a.edge ∙ sym b.edge) (a.rule ∙ sym b.rule) (a.slot ∙ sym b.slot) (omega arith)) xs (over_fields v o c) h (some k r x o c g))

  module _ (p : ℕ) where
    closes : (k r place x : ℕ) → Rise Follows (each_field v s x (closed_at v s p k r place x))
    closes k r place x = over k r x (v.structure x) (closed_at v s p k r place x) (λ f. (record { edge = refl; rule = refl; slot = refl; field = refl }, tt)) (λ f. (tt, tt))

    nothings : (k r place x : ℕ) → Rise Follows (nothing_at v s p k r place x)
    nothings k r place x =
        then_fields k r x (equation v s p k r x 0 0 (Zero (v.rho place x))) (v.structure x) (closed_at v s p k r place x) (record { edge = refl; rule = refl; slot = refl; field = refl }, tt) (tt, tt)
        (λ f. (record { edge = refl; rule = refl; slot = refl; field = refl }, tt)) (λ f. (tt, tt))

    targets : (k x : ℕ) → Rise Follows (target v s p k x)
    targets k x = rise-when Follows (is_live v s p x) (nothing_at v s p k 1 p x) (nothings k 1 p x)

    freeds : (k q x : ℕ) → Rise Follows (freed v s p k q x)
    freeds k q x = rise-when Follows (is_live v s p x) (nothing_at v s p k 8 q x) (nothings k 8 q x)

    in_rule : (k r x : ℕ) (cs : List Constraint) → Each (Of k r x) cs → Each (In k r r) cs
    in_rule k r x cs h = each-all (Of k r x) (In k r r) cs (λ c o. let e = o.rule in record { edge = o.edge; from = omega arith; to = omega arith }) h

    one_in : (k r x f o : ℕ) (c : _) → Each (In k r r) (equation v s p k r x f o c)
    one_in k r x f o c = (record { edge = refl; from = omega arith; to = omega arith }, tt)

    when_in : (k lo hi : ℕ) (b : Bool) (cs : List Constraint) → Each (In k lo hi) cs → Each (In k lo hi) (when b cs)
    when_in k lo hi b cs h = (each-when (In k lo hi) b cs).1 (λ _. h)

    results : (k q : ℕ) (r : Option ℕ) → Rise Follows (result_rules v s p k q r)
    results k q None = tt
    results k q (Some x) =
        after k 1 1 3 3 (omega arith) (target v s p k x) (closed v s p k q x) (in_rule k 1 x (target v s p k x) (target_of v s p k x)) (in_rule k 3 x (closed v s p k q x) (shut v s p k 3 x q)) (targets k x) (closes k 3 q x)

    -- arguments

    abbrev Later : PassedArg → PassedArg → Type 0
    Later a b = a.number < b.number

    from_number : (callee i m : ℕ) (us : List ℕ) (n : ℕ) → n ≤ m → Each (λ (a : PassedArg). n ≤ a.number) (args_from v s p callee i m us)
    from_number callee i m [] n le = tt
    from_number callee i m (u ∷ us) n le = by (v.pointer u) (from_number callee (suc i) (suc m) us n (omega arith)) (from_number callee i (suc m) us n (omega arith))
      where
        by : (b : Bool) → Each (λ (a : PassedArg). n ≤ a.number) (args_from v s p callee (suc i) (suc m) us) → Each (λ (a : PassedArg). n ≤ a.number) (args_from v s p callee i (suc m) us)
            → Each (λ (a : PassedArg). n ≤ a.number) (cond b (record { slot = u; number = m; sigma = cond (s.has_body callee) (Some (s.part p callee i)) None } ∷ args_from v s p callee (suc i) (suc m) us) (args_from v s p callee i (suc m) us))
        by true h g = (le, h)
        by false h g = g

    passed_rise : (callee i m : ℕ) (us : List ℕ) → Rise Later (args_from v s p callee i m us)
    passed_rise callee i m [] = tt
    passed_rise callee i m (u ∷ us) = by (v.pointer u) (passed_rise callee (suc i) (suc m) us) (passed_rise callee i (suc m) us)
      where
        by : (b : Bool) → Rise Later (args_from v s p callee (suc i) (suc m) us) → Rise Later (args_from v s p callee i (suc m) us)
            → Rise Later (cond b (record { slot = u; number = m; sigma = cond (s.has_body callee) (Some (s.part p callee i)) None } ∷ args_from v s p callee (suc i) (suc m) us) (args_from v s p callee i (suc m) us))
        by true h g = (each-all (λ (a : PassedArg). suc m ≤ a.number) (λ a. m < a.number) (args_from v s p callee (suc i) (suc m) us) (λ a le. omega arith) (from_number callee (suc i) (suc m) us (suc m) (omega arith)), h)
        by false h g = g

    arg_is : (k u : ℕ) (a : PassedArg) → Each (OfOther k 12 u 0 a.number) (call_arg_at v s p k u a)
    arg_is k u a = (each-when (OfOther k 12 u 0 a.number) (eqb a.slot u && not (v.empty p u)) _).1 (λ _. (record { edge = refl; rule = refl; slot = refl; field = refl; other = refl }, tt))

    one_arg : (k u : ℕ) (a : PassedArg) → Rise Follows (call_arg_at v s p k u a)
    one_arg k u a = rise-when Follows (eqb a.slot u && not (v.empty p u)) _ (tt, tt)

    args_of_slot : (k u : ℕ) (us : List PassedArg) → Rise Later us → Rise Follows (call_arg_of v s p k us u)
    args_of_slot k u [] h = tt
    args_of_slot k u (a ∷ us) h =
        rise-append Follows (call_arg_at v s p k u a) (call_arg_of v s p k us u) (one_arg k u a) (args_of_slot k u us h.1)
        (cross Follows (OfOther k 12 u 0 a.number) Above (λ c d i j. let e = i.other in let lt = j.0 in let g = j.1.other in by_other c d (i.edge ∙ sym j.1.edge) (i.rule ∙ sym j.1.rule) (i.slot ∙ sym j.1.slot) (i.field ∙ sym j.1.field) (omega arith))
        (call_arg_at v s p k u a) (call_arg_of v s p k us u) (arg_is k u a)
        ((each-flat Above (call_arg_at v s p k u) us).1 (each-all (Later a) (λ b. Each Above (call_arg_at v s p k u b)) us
        (λ b lt. each-all (OfOther k 12 u 0 b.number) Above (call_arg_at v s p k u b) (λ c o. let e = o.other in (omega arith, record { edge = o.edge; rule = o.rule; slot = o.slot; field = o.field; other = refl })) (arg_is k u b)) h.0)))
      where
        Above : Constraint → Type 0
        Above c = (a.number < c.name.other) × OfOther k 12 u 0 c.name.other c

    arguments : (k : ℕ) (us : List PassedArg) → Rise Later us → Rise Follows (call_args_rules v s p k us)
    arguments k us h = over_slots k 12 v.slots (call_arg_of v s p k us) (λ u. arg_of v s p k u us) (λ u. args_of_slot k u us h)

    -- rules on fields

    lines_over : (k r x : ℕ) (o : Option ℕ) (c : ℕ → List FieldLine) → ((f : ℕ) → Each (OfField k r x f) (of_lines v s p k (c f))) → ((f : ℕ) → Rise Follows (of_lines v s p k (c f))) → Rise Follows (of_lines v s p k (over_fields v o c))
    lines_over k r x o c h g = subst (Rise Follows) (sym (flat_over (of_line v s p k) v o c)) (over k r x o (λ f. of_lines v s p k (c f)) h g)

    lines_when : (k : ℕ) (b : Bool) (ls : List FieldLine) → Rise Follows (of_lines v s p k ls) → Rise Follows (of_lines v s p k (when b ls))
    lines_when k true ls h = h
    lines_when k false ls h = tt

    frees : (k q x : ℕ) → Rise Follows (field_rules v s p k q (edge.Free x))
    frees k q x =
        lines_when k (not (v.empty p x)) (over_fields v (v.structure x) (free_field_line v p x))
        (lines_over k 7 x (v.structure x) (free_field_line v p x) (λ f. (record { edge = refl; rule = refl; slot = refl; field = refl }, tt)) (λ f. (tt, tt)))

    call_slot : (k : ℕ) (us : List CallArg) (y : ℕ) → Rise Follows (of_lines v s p k (call_lines v us p y))
    call_slot k us y = by (is_arg us y)
      where
        sealed : (o : Option ℕ) → Rise Follows (of_lines v s p k (sealed_lines v us p y o))
        sealed None = tt
        sealed (Some r) = lines_over k 14 y (Some r) (sealed_line v p y (phis_to v r) (sigmas_to v us p r)) (λ f. (record { edge = refl; rule = refl; slot = refl; field = refl }, tt)) (λ f. (tt, tt))

        by : (b : Bool) → Rise Follows (of_lines v s p k (cond b (argument_lines v p y) (when (not (v.fresh p y)) (sealed_lines v us p y (v.structure y)))))
        by true =
            lines_when k (not (v.empty p y)) (over_fields v (v.structure y) (argument_line v p y))
            (lines_over k 14 y (v.structure y) (argument_line v p y) (λ f. (record { edge = refl; rule = refl; slot = refl; field = refl }, tt)) (λ f. (tt, tt)))
        by false = lines_when k (not (v.fresh p y)) (sealed_lines v us p y (v.structure y)) (sealed (v.structure y))

    calls : (k q : ℕ) (us : List CallArg) → Rise Follows (field_rules v s p k q (edge.Call us))
    calls k q us =
        subst (Rise Follows) (sym (flat_gather (of_line v s p k) v.slots (call_lines v us p)))
        (over_slots k 14 v.slots (λ y. of_lines v s p k (call_lines v us p y)) (λ y. call_lines_of v s p k us y) (λ y. call_slot k us y))

    bounds : (y : ℕ) → Rise Follows (of_lines v s p 0 (bound_lines v p y))
    bounds y = lines_over 0 19 y (v.structure y) (bound_line v p y) (λ f. (record { edge = refl; rule = refl; slot = refl; field = refl }, tt)) (λ f. (tt, tt))

    pair_is : (y f z : ℕ) (b : Bool) → Each (OfOther 0 20 y f z) (flat_map (λ i. flat_map (of_line v s p 0) (one_base_line v p y f i)) (when b (z ∷ [])))
    pair_is y f z true = (record { edge = refl; rule = refl; slot = refl; field = refl; other = refl }, tt)
    pair_is y f z false = tt

    one_pair : (y f z : ℕ) (b : Bool) → Rise Follows (flat_map (λ i. flat_map (of_line v s p 0) (one_base_line v p y f i)) (when b (z ∷ [])))
    one_pair y f z true = (tt, tt)
    one_pair y f z false = tt

    base : (y r f : ℕ) → Rise Follows (of_lines v s p 0 (base_line v p y (others v p y r) f))
    base y r f =
        let g : FieldLine → List Constraint = of_line v s p 0 in
        let both : ℕ → List Constraint = λ z. flat_map (λ i. flat_map g (one_base_line v p y f i)) (other v p y r z) in
        subst (Rise Follows) (sym (flat_flat g (one_base_line v p y f) (others v p y r) ∙ flat_gather (λ z. flat_map g (one_base_line v p y f z)) v.slots (other v p y r)))
        (over_others 0 20 y f v.slots both (λ z. pair_is y f z (is_other v p y r z)) (λ z. one_pair y f z (is_other v p y r z)))

    base_is : (y f : ℕ) (zs : List ℕ) → Each (OfField 0 20 y f) (of_lines v s p 0 (base_line v p y zs f))
    base_is y f [] = tt
    base_is y f (z ∷ zs) = (record { edge = refl; rule = refl; slot = refl; field = refl }, base_is y f zs)

    bases : (y : ℕ) → Rise Follows (of_lines v s p 0 (one_base_lines v p y))
    bases y = lines_when 0 (not (v.fresh p y)) (base_lines v p y (v.structure y)) (by (v.structure y))
      where
        by : (o : Option ℕ) → Rise Follows (of_lines v s p 0 (base_lines v p y o))
        by None = tt
        by (Some r) = lines_over 0 20 y (Some r) (base_line v p y (others v p y r)) (λ f. base_is y f (others v p y r)) (λ f. base y r f)

    -- rules 1 to 14

    gives : (k q callee : ℕ) (r : Option ℕ) → Rise Follows (call_results v s p k q callee r)
    gives k q callee None = tt
    gives k q callee (Some x) = rise-when Follows (v.pointer x) _ (tt, tt)

    action : (k q : ℕ) (a : Action) → Rise Follows (action_rules v s p k q a)
    action k q (act.Unset x) = targets k x
    action k q (act.Null x) = targets k x
    action k q (act.Text x n) = after k 1 1 5 5 (omega arith) (target v s p k x) (text v s p k q x) (in_rule k 1 x (target v s p k x) (target_of v s p k x)) (one_in k 5 x 0 0 _) (targets k x) (tt, tt)
    action k q (act.Copy x y) =
        after k 1 2 3 3 (omega arith) (target v s p k x ++ copied v s p k q x y) (when (is_live v s p y) (closed v s p k q x))
        ((each-append (In k 1 2) (target v s p k x) (copied v s p k q x y)).1 (
          each-all (In k 1 1) (In k 1 2) (target v s p k x) (in_wider k 1 1 1 2 (omega arith) (omega arith)) (in_rule k 1 x (target v s p k x) (target_of v s p k x)),
          when_in k 1 2 (is_live v s p y) _ (record { edge = refl; from = omega arith; to = omega arith }, tt),
        ))
        (when_in k 3 3 (is_live v s p y) (closed v s p k q x) (in_rule k 3 x (closed v s p k q x) (shut v s p k 3 x q)))
        (after k 1 1 2 2 (omega arith) (target v s p k x) (copied v s p k q x y) (in_rule k 1 x (target v s p k x) (target_of v s p k x)) (when_in k 2 2 (is_live v s p y) _ (one_in k 2 x 0 y (Sum (v.rho q x) (v.rho q y) (v.rho p y))))
        (targets k x) (rise-when Follows (is_live v s p y) _ (tt, tt)))
        (rise-when Follows (is_live v s p y) (closed v s p k q x) (closes k 3 q x))
    action k q (act.New x zeroed kind count) = after k 1 1 4 4 (omega arith) (target v s p k x) (made v s p k q x) (in_rule k 1 x (target v s p k x) (target_of v s p k x)) (one_in k 4 x 0 0 _) (targets k x) (tt, tt)
    action k q (act.Free x) =
        after k 6 7 8 8 (omega arith) (freeing v s p k x ++ field_rules v s p k q (edge.Free x)) (freed v s p k q x)
        ((each-append (In k 6 7) (freeing v s p k x) (field_rules v s p k q (edge.Free x))).1 (
          when_in k 6 7 (is_live v s p x) _ (record { edge = refl; from = omega arith; to = omega arith }, tt),
          each-all (In k 7 7) (In k 6 7) (field_rules v s p k q (edge.Free x)) (in_wider k 7 7 6 7 (omega arith) (omega arith)) (in_rule k 7 x (field_rules v s p k q (edge.Free x)) (free_of v s p k q x)),
        ))
        (in_rule k 8 x (freed v s p k q x) (freed_of v s p k q x))
        (after k 6 6 7 7 (omega arith) (freeing v s p k x) (field_rules v s p k q (edge.Free x)) (when_in k 6 6 (is_live v s p x) _ (one_in k 6 x 0 0 (One (v.rho p x)))) (in_rule k 7 x (field_rules v s p k q (edge.Free x)) (free_of v s p k q x))
        (rise-when Follows (is_live v s p x) _ (tt, tt)) (frees k q x))
        (freeds k q x)
    action k q (act.Load x y m) =
        after k 1 3 9 9 (omega arith) (target v s p k x ++ closed v s p k q x) (field_rules v s p k q (edge.Load x y (s.field_at y m)))
        (results_in v s p k q (Some x)) (record { edge = refl; from = omega arith; to = omega arith }, tt) (results k q (Some x)) (tt, tt)
    action k q (act.Store y m x) =
        let f = s.field_at y m in
        let moved = line (rule.Store (record { rho_q = v.rho q x; phi = v.phi f; rho_p = v.rho p x; omega_q = v.omega q y f })) x f y in
        after k 10 10 11 11 (omega arith) (of_lines v s p k (store_open_lines v p y f)) (of_lines v s p k (store_lines v p q y f x)) (record { edge = refl; from = omega arith; to = omega arith }, tt)
        (lines_in v s p k 11 11 (store_lines v p q y f x) ((each-when (LineIn v s p 11 11) (not (v.empty p x)) moved).1 (λ _. ((omega arith, omega arith), tt))))
        (tt, tt) (lines_when k (not (v.empty p x)) moved (tt, tt))
    action k q (act.Call r callee us) =
        let as' = args v s p callee us in
        after k 1 13 14 14 (omega arith) ((result_rules v s p k q r ++ call_args_rules v s p k as') ++ call_results v s p k q callee r) (field_rules v s p k q (edge.Call (call_args as')))
        ((each-append (In k 1 13) (result_rules v s p k q r ++ call_args_rules v s p k as') (call_results v s p k q callee r)).1 (
          (each-append (In k 1 13) (result_rules v s p k q r) (call_args_rules v s p k as')).1 (
            each-all (In k 1 3) (In k 1 13) (result_rules v s p k q r) (in_wider k 1 3 1 13 (omega arith) (omega arith)) (results_in v s p k q r),
            each-all (In k 12 12) (In k 1 13) (call_args_rules v s p k as') (in_wider k 12 12 1 13 (omega arith) (omega arith)) (args_in v s p k as'),
          ),
          each-all (In k 13 13) (In k 1 13) (call_results v s p k q callee r) (in_wider k 13 13 1 13 (omega arith) (omega arith)) (gives_in v s p k q callee r),
        ))
        (calls_in v s p k q (call_args as'))
        (after k 1 12 13 13 (omega arith) (result_rules v s p k q r ++ call_args_rules v s p k as') (call_results v s p k q callee r)
        ((each-append (In k 1 12) (result_rules v s p k q r) (call_args_rules v s p k as')).1 (
          each-all (In k 1 3) (In k 1 12) (result_rules v s p k q r) (in_wider k 1 3 1 12 (omega arith) (omega arith)) (results_in v s p k q r),
          each-all (In k 12 12) (In k 1 12) (call_args_rules v s p k as') (in_wider k 12 12 1 12 (omega arith) (omega arith)) (args_in v s p k as'),
        ))
        (gives_in v s p k q callee r)
        (after k 1 3 12 12 (omega arith) (result_rules v s p k q r) (call_args_rules v s p k as') (results_in v s p k q r) (args_in v s p k as') (results k q r) (arguments k as' (passed_rise callee 1 1 us)))
        (gives k q callee r))
        (calls k q (call_args as'))
    action k q a = tt

    -- rule 21

    keeps : (k q : ℕ) (a : Action) → Rise Follows (same v s p k q a)
    keeps k q a = over_slots k 21 v.slots (same_slot v s p k q a) (λ x. same_of v s p k q a x) slot
      where
        field_is : (x f : ℕ) (b : Bool) → Each (OfField k 21 x f) (when b (equation v s p k 21 x f 0 (Equal (v.omega p x f) (v.omega q x f))))
        field_is x f true = (record { edge = refl; rule = refl; slot = refl; field = refl }, tt)
        field_is x f false = tt

        one_field : (x f : ℕ) (b : Bool) → Rise Follows (when b (equation v s p k 21 x f 0 (Equal (v.omega p x f) (v.omega q x f))))
        one_field x f true = (tt, tt)
        one_field x f false = tt

        rho_is : (x : ℕ) (b : Bool) → Each (OfField k 21 x 0) (when b (equation v s p k 21 x 0 0 (Equal (v.rho p x) (v.rho q x))))
        rho_is x true = (record { edge = refl; rule = refl; slot = refl; field = refl }, tt)
        rho_is x false = tt

        one_rho : (x : ℕ) (b : Bool) → Rise Follows (when b (equation v s p k 21 x 0 0 (Equal (v.rho p x) (v.rho q x))))
        one_rho x true = (tt, tt)
        one_rho x false = tt

        append_nothing : (xs : List Constraint) → Rise Follows xs → Rise Follows (xs ++ [])
        append_nothing [] h = tt
        append_nothing (x ∷ xs) h = ((each-append (Follows x) xs []).1 (h.0, tt), append_nothing xs h.1)

        parts : (x : ℕ) (b : Bool) → Rise Follows (same_rho v s p k q a x ++ when b (each_field v s x (same_field v s p k q a x)))
        parts x true = then_fields k 21 x (same_rho v s p k q a x) (v.structure x) (same_field v s p k q a x) (rho_is x (not (frees_rho a x))) (one_rho x (not (frees_rho a x))) (λ f. field_is x f (not (frees_field v s a x f))) (λ f. one_field x f (not (frees_field v s a x f)))
        parts x false = append_nothing (same_rho v s p k q a x) (one_rho x (not (frees_rho a x)))

        slot : (x : ℕ) → Rise Follows (same_slot v s p k q a x)
        slot x = rise-when Follows _ (same_rho v s p k q a x ++ when (not (frees_slot a x)) (each_field v s x (same_field v s p k q a x))) (parts x (not (frees_slot a x)))

    -- rules 15 to 20

    entries : Rise Follows (entry v s p)
    entries =
        rise-when Follows (eqb p 0) (gather s.params (entry_slot v s p)) (over_slots 0 15 s.params (entry_slot v s p) (λ x. entry_of v s p x) (λ x.
        rise-when Follows (v.pointer x) (equation v s p 0 15 x 0 0 (Equal (v.rho p x) (s.pi (s.param_part x))) ++ each_field v s x (closed_at v s p 0 15 p x))
        (then_fields 0 15 x (equation v s p 0 15 x 0 0 (Equal (v.rho p x) (s.pi (s.param_part x)))) (v.structure x) (closed_at v s p 0 15 p x) (record { edge = refl; rule = refl; slot = refl; field = refl }, tt) (tt, tt)
        (λ f. (record { edge = refl; rule = refl; slot = refl; field = refl }, tt)) (λ f. (tt, tt)))))

    exits : Rise Follows (exit v s p)
    exits =
        let a = gather v.slots (exit_ret v s p) in
        let b = gather v.slots (exit_own v s p) in
        let c = gather v.slots (exit_closed v s p) in
        rise-when Follows (eqb p (v.places - 1)) ((a ++ b) ++ c)
        (after 0 16 17 18 18 (omega arith) (a ++ b) c
        ((each-append (In 0 16 17) a b).1 (each-all (In 0 16 16) (In 0 16 17) a (in_wider 0 16 16 16 17 (omega arith) (omega arith)) (rets_in v s p), each-all (In 0 17 17) (In 0 16 17) b (in_wider 0 17 17 16 17 (omega arith) (omega arith)) (owns_in v s p)))
        (shuts_in v s p)
        (after 0 16 16 17 17 (omega arith) a b (rets_in v s p) (owns_in v s p)
        (over_slots 0 16 v.slots (exit_ret v s p) (λ x. ret_of v s p x) (λ x. rise-when Follows (is_live v s p x && is_ret v s x) _ (tt, tt)))
        (over_slots 0 17 v.slots (exit_own v s p) (λ x. own_of v s p x) (λ x. rise-when Follows (is_live v s p x && not (is_ret v s x)) _ (tt, tt))))
        (over_slots 0 18 v.slots (exit_closed v s p) (λ x. closed_of v s p x) (λ x. rise-when Follows (is_live v s p x) (each_field v s x (closed_at v s p 0 18 p x)) (closes 0 18 p x))))

    place : Rise Follows (place_rules v s p)
    place =
        let a = of_lines v s p 0 (gather v.slots (bound_lines v p)) in
        let b = of_lines v s p 0 (gather v.slots (one_base_lines v p)) in
        let lines : of_lines v s p 0 (place_lines v p) ≡ a ++ b = flat_append (of_line v s p 0) (gather v.slots (bound_lines v p)) (gather v.slots (one_base_lines v p)) in
        subst (λ (cs : List Constraint). Rise Follows ((entry v s p ++ exit v s p) ++ cs)) (sym lines)
        (after 0 15 18 19 20 (omega arith) (entry v s p ++ exit v s p) (a ++ b)
        ((each-append (In 0 15 18) (entry v s p) (exit v s p)).1 (each-all (In 0 15 15) (In 0 15 18) (entry v s p) (in_wider 0 15 15 15 18 (omega arith) (omega arith)) (entry_in v s p), each-all (In 0 16 18) (In 0 15 18) (exit v s p) (in_wider 0 16 18 15 18 (omega arith) (omega arith)) (exit_in v s p)))
        ((each-append (In 0 19 20) a b).1 (each-all (In 0 19 19) (In 0 19 20) a (in_wider 0 19 19 19 20 (omega arith) (omega arith)) (bounds_in v s p), each-all (In 0 20 20) (In 0 19 20) b (in_wider 0 20 20 19 20 (omega arith) (omega arith)) (bases_in v s p)))
        (after 0 15 15 16 18 (omega arith) (entry v s p) (exit v s p) (entry_in v s p) (exit_in v s p) entries exits)
        (after 0 19 19 20 20 (omega arith) a b (bounds_in v s p) (bases_in v s p)
        (subst (Rise Follows) (sym (flat_gather (of_line v s p 0) v.slots (bound_lines v p))) (over_slots 0 19 v.slots (λ y. of_lines v s p 0 (bound_lines v p y)) (λ y. bound_of v s p y) bounds))
        (subst (Rise Follows) (sym (flat_gather (of_line v s p 0) v.slots (one_base_lines v p))) (over_slots 0 20 v.slots (λ y. of_lines v s p 0 (one_base_lines v p y)) (λ y. pairs_of v s p y) bases))))

    -- all of a place

    edge_in : (k : ℕ) (e : Edge) → Each (In k 1 21) (edge_rules v s p k e)
    edge_in k e =
        (each-append (In k 1 21) (action_rules v s p k e.to e.action) (same v s p k e.to e.action)).1 (
          each-all (In k 1 14) (In k 1 21) (action_rules v s p k e.to e.action) (in_wider k 1 14 1 21 (omega arith) (omega arith)) (action_in v s p k e.to e.action),
          each-all (In k 21 21) (In k 1 21) (same v s p k e.to e.action) (in_wider k 21 21 1 21 (omega arith) (omega arith)) (same_in v s p k e.to e.action),
        )

    one_edge : (k : ℕ) (e : Edge) → Rise Follows (edge_rules v s p k e)
    one_edge k e =
        after k 1 14 21 21 (omega arith) (action_rules v s p k e.to e.action) (same v s p k e.to e.action) (action_in v s p k e.to e.action) (same_in v s p k e.to e.action) (action k e.to e.action) (keeps k e.to e.action)

    abbrev From : ℕ → Constraint → Type 0
    From k c = k ≤ c.name.edge

    more_from : (k : ℕ) (es : List Edge) → Each (From k) (more_edges v s p k es)
    more_from k [] = tt
    more_from k (e ∷ es) =
        (each-append (From k) (edge_rules v s p k e) (more_edges v s p (suc k) es)).1 (
          each-all (In k 1 21) (From k) (edge_rules v s p k e) (λ c i. let q = i.edge in omega arith) (edge_in k e),
          each-all (From (suc k)) (From k) (more_edges v s p (suc k) es) (λ c le. omega arith) (more_from (suc k) es),
        )

    then_more : (k : ℕ) (cs : List Constraint) (es : List Edge) → Each (In k 1 21) cs → Rise Follows cs → Rise Follows (more_edges v s p (suc k) es) → Rise Follows (cs ++ more_edges v s p (suc k) es)
    then_more k cs es h a b =
        rise-append Follows cs (more_edges v s p (suc k) es) a b
        (cross Follows (In k 1 21) (From (suc k)) (λ c d i from. let q = i.edge in by_edge c d (omega arith)) cs (more_edges v s p (suc k) es) h (more_from (suc k) es))

    more : (k : ℕ) (es : List Edge) → Rise Follows (more_edges v s p k es)
    more k [] = tt
    more k (e ∷ es) = then_more k (edge_rules v s p k e) es (edge_in k e) (one_edge k e) (more (suc k) es)

    with_edges : (es : List Edge) → Rise Follows (rules_with v s p es)
    with_edges [] = place
    with_edges (e ∷ es) =
        let a = action_rules v s p 0 e.to e.action in
        let b = place_rules v s p in
        let c = same v s p 0 e.to e.action in
        let ab = (each-append (In 0 1 20) a b).1 (
          each-all (In 0 1 14) (In 0 1 20) a (in_wider 0 1 14 1 20 (omega arith) (omega arith)) (action_in v s p 0 e.to e.action),
          each-all (In 0 15 20) (In 0 1 20) b (in_wider 0 15 20 1 20 (omega arith) (omega arith)) (place_in v s p),
        ) in
        then_more 0 ((a ++ b) ++ c) es
        ((each-append (In 0 1 21) (a ++ b) c).1 (
          each-all (In 0 1 20) (In 0 1 21) (a ++ b) (in_wider 0 1 20 1 21 (omega arith) (omega arith)) ab,
          each-all (In 0 21 21) (In 0 1 21) c (in_wider 0 21 21 1 21 (omega arith) (omega arith)) (same_in v s p 0 e.to e.action),
        ))
        (after 0 1 20 21 21 (omega arith) (a ++ b) c ab (same_in v s p 0 e.to e.action)
        (after 0 1 14 15 20 (omega arith) a b (action_in v s p 0 e.to e.action) (place_in v s p) (action 0 e.to e.action) place) (keeps 0 e.to e.action))
        (more 1 es)

    pub place_rises : Rise Follows (constraints_at v s p)
    place_rises = with_edges (s.edges p)

-- All of a call group

abbrev pub Precedes : Constraint → Constraint → Type 0
Precedes c d = comes_before c.name d.name ≡ true

abbrev tail_6 : Constraint → List ℕ
tail_6 c = c.name.place ∷ c.name.edge ∷ c.name.rule ∷ c.name.slot ∷ c.name.field ∷ c.name.other ∷ []

abbrev tail_5 : Constraint → List ℕ
tail_5 c = c.name.edge ∷ c.name.rule ∷ c.name.slot ∷ c.name.field ∷ c.name.other ∷ []

pub by_proc : (c d : Constraint) → c.name.proc < d.name.proc → Precedes c d
by_proc c d lt = less_here c.name.proc d.name.proc (tail_6 c) (tail_6 d) lt

by_place : (c d : Constraint) → c.name.proc ≡ d.name.proc → c.name.place < d.name.place → Precedes c d
by_place c d e lt = less_later c.name.proc d.name.proc (tail_6 c) (tail_6 d) e (less_here c.name.place d.name.place (tail_5 c) (tail_5 d) lt)

in_place : (c d : Constraint) → c.name.proc ≡ d.name.proc → c.name.place ≡ d.name.place → Follows c d → Precedes c d
in_place c d e p h = less_later c.name.proc d.name.proc (tail_6 c) (tail_6 d) e (less_later c.name.place d.name.place (tail_5 c) (tail_5 d) p h)

module _ (v : Sight) (s : Setting) where
  one_of : (p : ℕ) (c : Constraint) (cs : List Constraint) → At v s p c → Each (At v s p) cs → Each (Follows c) cs → Each (Precedes c) cs
  one_of p c [] a h f = tt
  one_of p c (d ∷ cs) a h f = (in_place c d (a.0 ∙ sym h.0.0) (a.1 ∙ sym h.0.1) f.0, one_of p c cs a h.1 f.1)

  lifted : (p : ℕ) (cs : List Constraint) → Each (At v s p) cs → Rise Follows cs → Rise Precedes cs
  lifted p [] h r = tt
  lifted p (c ∷ cs) h r = (one_of p c cs h.0 h.1 r.0, lifted p cs h.1 r.1)

  pub proc_rises : ((r : ℕ) → 0 < (v.fields_of r).first) → Rise Precedes (proc_constraints v s)
  proc_rises positive =
      rise-gather Precedes (At v s) (λ i j c d lt a b. let e = a.1 in let g = b.1 in by_place c d (a.0 ∙ sym b.0) (omega arith)) v.places (constraints_at v s)
      (λ p. placed v s p) (λ p. lifted p (constraints_at v s p) (placed v s p) (place_rises v s positive p))
