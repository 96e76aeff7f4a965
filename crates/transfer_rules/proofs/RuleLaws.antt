-- The listed constraints of an edge and of a place hold exactly where its rules do.
use Rattle.std.proofs.Common.{◌≡◌, ℕ, suc, ◌+◌, ◌-◌, ◌<◌, ◌≤◌, Bool, true, false, cond, ◌&&◌, not, List, [], ◌∷◌, ◌++◌, Option, Some, None, refl, sym, ap, subst, ◌∙◌, arith, eqb, ltb, ◌↔◌}
use Rattle.std.proofs.lemmas.Bool.{eqb-true, eq-eqb, lt-ltb}
use borrow.Author.Tests.{ltb-true}
use Rattle.std.specs.Prelude.{map}
use Rattle.std.specs.List.{flat_map}
use Rattle.zo_core.specs.Forms.{bit, FormHolds}
use Rattle.zo_core.specs.declared.forms.Form.{Form}
use Rattle.zo_core.specs.declared.forms.Form.TheVariants.{Zero, One, Equal, AtMost, Sum}
use Rattle.flow_graph.specs.declared.action.Action.{Action}
use Rattle.flow_graph.specs.declared.action.Action.TheVariants as act
use Rattle.flow_graph.specs.declared.action.Edge.{Edge}
use Rattle.path_facts.specs.Columns.{empty_after}
use Rattle.field_rules.specs.declared.edges.CallArg.{CallArg}
use Rattle.field_rules.specs.declared.edges.FieldEdge.TheVariants as edge
use Rattle.field_rules.specs.declared.edges.FieldLine.{FieldLine}
use Rattle.field_rules.specs.declared.rules.FieldRule.TheVariants as rule
use Rattle.field_rules.specs.Lists.{gather, when}
use Rattle.field_rules.specs.Sight.{Sight, HasField, IsField, leads_to, field_to_at, fields_to, over_fields}
use Rattle.field_rules.specs.Lines.{is_arg, free_field_line, argument_line, sealed_line, sealed_lines, call_lines, phis_to, sigma_to, sigmas_to, edge_lines, bound_line, bound_lines, is_other, other, others, one_base_line, base_line, base_lines, one_base_lines, place_lines}
use Rattle.field_rules.specs.Meaning.{FormsHold, rule_forms, sealed_form}
use Rattle.transfer_rules.specs.declared.args.PassedArg.{PassedArg}
use Rattle.transfer_rules.specs.declared.constraint.Constraint.{Constraint}
use Rattle.transfer_rules.specs.Body.{Setting}
use Rattle.transfer_rules.specs.Names.{ConditionHolds}
use Rattle.transfer_rules.specs.Rules.{equation, of_lines, each_field, is_live, closed_at, nothing_at, target, copied, closed, made, text, freeing, freed, arg_form, call_arg_at, call_arg_of, call_args_rules, call_args, args, call_result, call_results, result_rules, field_rules, action_rules, frees_rho, frees_slot, frees_field, same_rho, same_field, same_slot, same, entry_slot, entry, is_ret, exit_ret, exit_own, exit_closed, exit, place_rules, edge_rules, more_edges, rules_with, constraints_at, proc_constraints}
use Rattle.transfer_rules.specs.Holds.{Each, owns, opens, field_owns, IsClosed, HasNothing, Target, TextHolds, CopyHolds, NewHolds, FreeHolds, LoadHolds, StoreHolds, taken, ArgHolds, IsSealed, CallClosedHolds, ResultsHold, CallHolds, ActionHolds, SameHolds, EdgeHolds, EntryHolds, ExitHolds, PlaceHolds, ProcHolds}
use Rattle.transfer_rules.proofs.EachLemmas.{zero_law, one_law, equal_law, at_most_law, not_both_law, both_true, not_true, each-append, each-gather, each-when, each-flat, each-range, each-fields, each-map, each-same}

-- a constraint holds
abbrev pub Met : (ℕ → Bool) → Constraint → Type 0
Met t c = ConditionHolds c.condition t

-- a rule on fields holds
abbrev LineHolds : (ℕ → Bool) → FieldLine → Type 0
LineHolds t l = FormsHold (rule_forms l.rule) t

module _ (v : Sight) (s : Setting) (t : ℕ → Bool) where
  -- nothing

  closed_law : (p n k place x : ℕ) → (Each (Met t) (each_field v s x (closed_at v s p n k place x)) ↔ IsClosed v s t place x)
  closed_law p n k place x =
      let a = each-fields (Met t) v x (closed_at v s p n k place x) in
      ((λ h f has. (zero_law (opens v s t place x f)).0 (a.0 h f has).0.0), (λ h. a.1 (λ f has. (((zero_law (opens v s t place x f)).1 (h f has), tt), tt))))

  nothing_law : (p n k place x : ℕ) → (Each (Met t) (nothing_at v s p n k place x) ↔ HasNothing v s t place x)
  nothing_law p n k place x =
      let a = closed_law p n k place x in
      let z = zero_law (owns v s t place x) in
      ((λ h. record { rho = z.0 h.0.0; omega = a.0 h.1 }), (λ h. ((z.1 h.rho, tt), a.1 h.omega)))

  target_law : (p n x : ℕ) → (Each (Met t) (target v s p n x) ↔ Target v s t p x)
  target_law p n x =
      let a = each-when (Met t) (is_live v s p x) (nothing_at v s p n 1 p x) in
      let b = nothing_law p n 1 p x in
      ((λ h live. b.0 (a.0 h live)), (λ h. a.1 (λ live. b.1 (h live))))

  -- one equation, where a test holds
  when_law : (b : Bool) (p n k x f o : ℕ) (form : Form) → (Each (Met t) (when b (equation v s p n k x f o form)) ↔ (b ≡ true → FormHolds form t))
  when_law b p n k x f o form =
      let a = each-when (Met t) b (equation v s p n k x f o form) in
      ((λ h e. (a.0 h e).0.0), (λ h. a.1 (λ e. ((h e, tt), tt))))

  text_law : (p n q x : ℕ) → (Each (Met t) (target v s p n x ++ text v s p n q x) ↔ TextHolds v s t p q x)
  text_law p n q x =
      let a = each-append (Met t) (target v s p n x) (text v s p n q x) in
      let b = target_law p n x in
      let z = zero_law (owns v s t q x) in
      ((λ h. record { target = b.0 (a.0 h).0; owns = z.0 (a.0 h).1.0.0 }), (λ h. a.1 (b.1 h.target, ((z.1 h.owns, tt), tt))))

  made_law : (p n q x : ℕ) → (Each (Met t) (target v s p n x ++ made v s p n q x) ↔ NewHolds v s t p q x)
  made_law p n q x =
      let a = each-append (Met t) (target v s p n x) (made v s p n q x) in
      let b = target_law p n x in
      let z = one_law (owns v s t q x) in
      ((λ h. record { target = b.0 (a.0 h).0; owns = z.0 (a.0 h).1.0.0 }), (λ h. a.1 (b.1 h.target, ((z.1 h.owns, tt), tt))))

  copy_law : (p n q x y : ℕ) → (Each (Met t) (target v s p n x ++ copied v s p n q x y ++ when (is_live v s p y) (closed v s p n q x)) ↔ CopyHolds v s t p q x y)
  copy_law p n q x y =
      let last = when (is_live v s p y) (closed v s p n q x) in
      let a = each-append (Met t) (target v s p n x ++ copied v s p n q x y) last in
      let b = each-append (Met t) (target v s p n x) (copied v s p n q x y) in
      let c = target_law p n x in
      let d = when_law (is_live v s p y) p n 2 x 0 y (Sum (v.rho q x) (v.rho q y) (v.rho p y)) in
      let e = each-when (Met t) (is_live v s p y) (closed v s p n q x) in
      let f = closed_law p n 3 q x in (
        (λ h. let k = a.0 h in let m = b.0 k.0 in record { target = c.0 m.0; splits = d.0 m.1; closed = λ live. f.0 (e.0 k.1 live) }),
        (λ h. a.1 (b.1 (c.1 h.target, d.1 h.splits), e.1 (λ live. f.1 (h.closed live)))),
      )

  -- rules on fields

  lines_law : (p n : ℕ) (ls : List FieldLine) → (Each (Met t) (of_lines v s p n ls) ↔ Each (LineHolds t) ls)
  lines_law p n [] = ((λ _. tt), (λ _. tt))
  lines_law p n (l ∷ ls) = let more = lines_law p n ls in ((λ h. (h.0, more.0 h.1)), (λ h. (h.0, more.1 h.1)))

  free_law : (p n q x : ℕ) → (Each (Met t) (freeing v s p n x ++ field_rules v s p n q (edge.Free x) ++ freed v s p n q x) ↔ FreeHolds v s t p q x)
  free_law p n q x =
      let fields = edge_lines v (edge.Free x) p q in
      let a = each-append (Met t) (freeing v s p n x ++ of_lines v s p n fields) (freed v s p n q x) in
      let b = each-append (Met t) (freeing v s p n x) (of_lines v s p n fields) in
      let c = when_law (is_live v s p x) p n 6 x 0 0 (One (v.rho p x)) in
      let o = one_law (owns v s t p x) in
      let d = lines_law p n fields in
      let e = each-when (LineHolds t) (not (v.empty p x)) (over_fields v (v.structure x) (free_field_line v p x)) in
      let f = each-fields (LineHolds t) v x (free_field_line v p x) in
      let g = each-when (Met t) (is_live v s p x) (nothing_at v s p n 8 q x) in
      let i = nothing_law p n 8 q x in
      let live = not_true (v.empty p x) in (
        (λ h. let k = a.0 h in let m = b.0 k.0 in record {
          owns = λ l. o.0 (c.0 m.0 l);
          opened = λ em fi has. (equal_law (opens v s t p x fi) (field_owns v s t fi)).0 (f.0 (e.0 (d.0 m.1) (live.1 em)) fi has).0.0;
          after = λ l. i.0 (g.0 k.1 l);
        }),
        (λ h. a.1 (
          b.1 (c.1 (λ l. o.1 (h.owns l)), d.1 (e.1 (λ em. f.1 (λ fi has. (((equal_law (opens v s t p x fi) (field_owns v s t fi)).1 (h.opened (live.0 em) fi has), tt), tt))))),
          g.1 (λ l. i.1 (h.after l)),
        )),
      )

  load_law : (p n q x y f : ℕ) → (Each (Met t) (target v s p n x ++ closed v s p n q x ++ field_rules v s p n q (edge.Load x y f)) ↔ LoadHolds v s t p q x y f)
  load_law p n q x y f =
      let a = each-append (Met t) (target v s p n x ++ closed v s p n q x) (field_rules v s p n q (edge.Load x y f)) in
      let b = each-append (Met t) (target v s p n x) (closed v s p n q x) in
      let c = target_law p n x in
      let d = closed_law p n 3 q x in (
        (λ h. let k = a.0 h in let m = b.0 k.0 in record { target = c.0 m.0; closed = d.0 m.1; opens = k.1.0.0 }),
        (λ h. a.1 (b.1 (c.1 h.target, d.1 h.closed), ((h.opens, tt), tt))),
      )

  store_law : (p n q x y f : ℕ) → (Each (Met t) (field_rules v s p n q (edge.Store y f x)) ↔ StoreHolds v s t p q x y f)
  store_law p n q x y f =
      let a = lines_law p n (edge_lines v (edge.Store y f x) p q) in
      let e = equal_law (opens v s t p y f) (field_owns v s t f) in
      let moved : List FieldLine = record { rule = rule.Store (record { rho_q = v.rho q x; phi = v.phi f; rho_p = v.rho p x; omega_q = v.omega q y f }); slot = x; field = f; other = y } ∷ [] in
      let b = each-when (LineHolds t) (not (v.empty p x)) moved in
      let live = not_true (v.empty p x) in (
        (λ h. let k = a.0 h in record { opened = e.0 k.0.0; moves = λ em. (b.0 k.1 (live.1 em)).0.0 }),
        (λ h. a.1 ((e.1 h.opened, tt), b.1 (λ em. ((h.moves (live.0 em), tt), tt)))),
      )

  -- calls

  arg_law : (u : ℕ) (o : Option ℕ) → (FormHolds (arg_form u o) t ↔ (t u ≡ taken v s t o))
  arg_law u None = zero_law (t u)
  arg_law u (Some w) = equal_law (t u) (t w)

  arg_at_law : (p n u : ℕ) (a : PassedArg) → (Each (Met t) (call_arg_at v s p n u a) ↔ (a.slot ≡ u → v.empty p u ≡ false → owns v s t p u ≡ taken v s t a.sigma))
  arg_at_law p n u a =
      let w = when_law (eqb a.slot u && not (v.empty p u)) p n 12 u 0 a.number (arg_form (v.rho p u) a.sigma) in
      let b = both_true (eqb a.slot u) (not (v.empty p u)) in
      let live = not_true (v.empty p u) in
      let f = arg_law (v.rho p u) a.sigma in
      ((λ h is em. f.0 (w.0 h (b.1 (eq-eqb a.slot u is, live.1 em)))), (λ h. w.1 (λ e. let k = b.0 e in f.1 (h (eqb-true a.slot u k.0) (live.0 k.1)))))

  args_of_law : (p n u : ℕ) (us : List PassedArg) → (Each (Met t) (call_arg_of v s p n us u) ↔ Each (λ a. a.slot ≡ u → v.empty p u ≡ false → owns v s t p u ≡ taken v s t a.sigma) us)
  args_of_law p n u us =
      let a = each-flat (Met t) (call_arg_at v s p n u) us in
      let b = each-same (λ x. Each (Met t) (call_arg_at v s p n u x)) (λ x. x.slot ≡ u → v.empty p u ≡ false → owns v s t p u ≡ taken v s t x.sigma) us (arg_at_law p n u) in
      ((λ h. b.0 (a.0 h)), (λ h. a.1 (b.1 h)))

  swap_args : (p : ℕ) (us : List PassedArg) → (((u : ℕ) → u < v.slots → Each (λ a. a.slot ≡ u → v.empty p u ≡ false → owns v s t p u ≡ taken v s t a.sigma) us) ↔ Each (ArgHolds v s t p) us)
  swap_args p [] = ((λ _. tt), (λ _ _ _. tt))
  swap_args p (a ∷ us) =
      let more = swap_args p us in (
        (λ h. ((λ lt em. (h a.slot lt).0 refl em), more.0 (λ u lt. (h u lt).1))),
        (λ h u lt. ((λ is. let P : ℕ → Type 0 = λ k. k < v.slots → v.empty p k ≡ false → owns v s t p k ≡ taken v s t a.sigma in subst P is h.0 lt), more.1 h.1 u lt)),
      )

  args_law : (p n : ℕ) (us : List PassedArg) → (Each (Met t) (call_args_rules v s p n us) ↔ Each (ArgHolds v s t p) us)
  args_law p n us =
      let a = each-gather (Met t) v.slots (call_arg_of v s p n us) in
      let b = swap_args p us in
      ((λ h. b.0 (λ u lt. (args_of_law p n u us).0 (a.0 h u lt))), (λ h. a.1 (λ u lt. (args_of_law p n u us).1 (b.1 h u lt))))

  result_law : (p n q callee x : ℕ) → (Each (Met t) (call_result v s p n q callee x) ↔ (v.pointer x ≡ true → owns v s t q x ≡ t (s.part p callee 0)))
  result_law p n q callee x =
      let a = when_law (v.pointer x) p n 13 x 0 0 (Equal (v.rho q x) (s.part p callee 0)) in
      let e = equal_law (owns v s t q x) (t (s.part p callee 0)) in
      ((λ h is. e.0 (a.0 h is)), (λ h. a.1 (λ is. e.1 (h is))))

  -- a field that is out through another slot

  forms-append : (fs gs : List Form) → (FormsHold (fs ++ gs) t ↔ (FormsHold fs t × FormsHold gs t))
  forms-append [] gs = ((λ h. (tt, h)), (λ h. h.1))
  forms-append (f ∷ fs) gs = let more = forms-append fs gs in ((λ h. ((h.0, (more.0 h.1).0), (more.0 h.1).1)), (λ h. (h.0.0, more.1 (h.0.1, h.1))))

  bounds_law : (w : ℕ) (us : List ℕ) → (FormsHold (map (AtMost w) us) t ↔ (t w ≡ true → Each (λ u. t u ≡ true) us))
  bounds_law w [] = ((λ _ _. tt), (λ _. tt))
  bounds_law w (u ∷ us) =
      let more = bounds_law w us in
      let a = at_most_law (t w) (t u) in
      ((λ h is. (a.0 h.0 is, more.0 h.1 is)), (λ h. (a.1 (λ is. (h is).0), more.1 (λ is. (h is).1))))

  never_law : (b : Bool) → ((bit b ≡ 0) ↔ (b ≡ true → false ≡ true))
  never_law true = ((λ h. absurd (omega arith)), (λ h. let e : false ≡ true = h refl in cc))
  never_law false = ((λ _ e. e), (λ _. refl))

  sealed_form_law : (w : ℕ) (o : Option ℕ) → (FormHolds (sealed_form w o) t ↔ (t w ≡ true → taken v s t o ≡ true))
  sealed_form_law w None = never_law (t w)
  sealed_form_law w (Some u) = at_most_law (t w) (t u)

  sealed_forms_law : (w : ℕ) (os : List (Option ℕ)) → (FormsHold (map (sealed_form w) os) t ↔ (t w ≡ true → Each (λ o. taken v s t o ≡ true) os))
  sealed_forms_law w [] = ((λ _ _. tt), (λ _. tt))
  sealed_forms_law w (o ∷ os) =
      let more = sealed_forms_law w os in
      let a = sealed_form_law w o in
      ((λ h is. (a.0 h.0 is, more.0 h.1 is)), (λ h. (a.1 (λ is. (h is).0), more.1 (λ is. (h is).1))))

  phis_law : (r : ℕ) → (Each (λ u. t u ≡ true) (phis_to v r) ↔ ((f : ℕ) → IsField v f → leads_to (v.field_to f) r ≡ true → field_owns v s t f ≡ true))
  phis_law r =
      let P : ℕ → Type 0 = λ u. t u ≡ true in
      let F : ℕ → Type 0 = λ f. t (v.phi f) ≡ true in
      let m = each-map P v.phi (fields_to v r) in
      let a = each-gather F v.fields (field_to_at v r) in
      let b : (j : ℕ) → (Each F (field_to_at v r j) ↔ (leads_to (v.field_to (suc j)) r ≡ true → Each F (suc j ∷ []))) = λ j. each-when F (leads_to (v.field_to (suc j)) r) (suc j ∷ []) in (
        (λ h f is to.
            let e : suc (f - 1) ≡ f = omega arith in
            let Q : ℕ → Type 0 = λ k. leads_to (v.field_to k) r ≡ true → t (v.phi k) ≡ true in
            subst Q e (λ is'. ((b (f - 1)).0 (a.0 (m.0 h) (f - 1) (omega arith)) is').0) to),
        (λ h. m.1 (a.1 (λ j lt. (b j).1 (λ is. (h (suc j) (omega arith, omega arith) is, tt))))),
      )

  sigmas_law : (p r : ℕ) (us : List CallArg) → (Each (λ o. taken v s t o ≡ true) (sigmas_to v us p r) ↔ Each (λ (a : CallArg). leads_to (v.structure a.slot) r ≡ true → v.empty p a.slot ≡ false → taken v s t a.sigma ≡ true) us)
  sigmas_law p r us =
      let P : Option ℕ → Type 0 = λ o. taken v s t o ≡ true in
      let a = each-flat P (sigma_to v p r) us in
      let one : (c : CallArg) → (Each P (sigma_to v p r c) ↔ (leads_to (v.structure c.slot) r ≡ true → v.empty p c.slot ≡ false → taken v s t c.sigma ≡ true)) = λ c.
      (let w = each-when P (leads_to (v.structure c.slot) r && not (v.empty p c.slot)) (c.sigma ∷ []) in
      let b = both_true (leads_to (v.structure c.slot) r) (not (v.empty p c.slot)) in
      let live = not_true (v.empty p c.slot) in
      ((λ h to em. (w.0 h (b.1 (to, live.1 em))).0), (λ h. w.1 (λ e. let k = b.0 e in (h k.0 (live.0 k.1), tt))))) in
      let b = each-same (λ c. Each P (sigma_to v p r c)) (λ (c : CallArg). leads_to (v.structure c.slot) r ≡ true → v.empty p c.slot ≡ false → taken v s t c.sigma ≡ true) us one in
      ((λ h. b.0 (a.0 h)), (λ h. a.1 (b.1 h)))

  sealed_law : (p y r f : ℕ) (us : List CallArg) → (Each (LineHolds t) (sealed_line v p y (phis_to v r) (sigmas_to v us p r) f) ↔ (opens v s t p y f ≡ true → IsSealed v s t p y r us))
  sealed_law p y r f us =
      let w = v.omega p y f in
      let phis = map (AtMost w) (phis_to v r) in
      let sigmas = map (sealed_form w) (sigmas_to v us p r) in
      let a = forms-append (AtMost w (v.rho p y) ∷ phis) sigmas in
      let o = at_most_law (t w) (owns v s t p y) in
      let b = bounds_law w (phis_to v r) in
      let c = sealed_forms_law w (sigmas_to v us p r) in
      let d = phis_law r in
      let e = sigmas_law p r us in (
        (λ h is. let k = a.0 h.0 in record { owns = o.0 k.0.0 is; fields = d.0 (b.0 k.0.1 is); args = e.0 (c.0 k.1 is) }),
        (λ h. (a.1 ((o.1 (λ is. (h is).owns), b.1 (λ is. d.1 (h is).fields)), c.1 (λ is. e.1 (h is).args)), tt)),
      )

  others_law : (p y : ℕ) (us : List CallArg) (o : Option ℕ) → v.structure y ≡ o → (Each (LineHolds t) (sealed_lines v us p y o) ↔ ((r : ℕ) → v.structure y ≡ Some r → (f : ℕ) → HasField v y f → opens v s t p y f ≡ true → IsSealed v s t p y r us))
  others_law p y us None e = ((λ _ r is. absurd (none r (sym e ∙ is))), (λ _. tt))
    where
      none : (r : ℕ) → None ≡ Some r → ⊥
      none r h = cc
  others_law p y us (Some r) e =
      let a = each-range (LineHolds t) (v.fields_of r) (sealed_line v p y (phis_to v r) (sigmas_to v us p r)) in (
        (λ h r' is f has out.
            let same : r ≡ r' = one r r' (sym e ∙ is) in
            let same' : has.structure ≡ r = one has.structure r (sym has.is ∙ e) in
            let low : (v.fields_of r).first ≤ f = subst (λ k. (v.fields_of k).first ≤ f) same' has.from in
            let high : f < (v.fields_of r).first + (v.fields_of r).count = subst (λ k. f < (v.fields_of k).first + (v.fields_of k).count) same' has.to in
            subst (λ k. IsSealed v s t p y k us) same ((sealed_law p y r f us).0 (a.0 h f low high) out)),
        (λ h. a.1 (λ f low high. (sealed_law p y r f us).1 (λ out. h r e f (record { structure = r; is = e; from = low; to = high }) out))),
      )
    where
      one : (i j : ℕ) → Some i ≡ Some j → i ≡ j
      one i j h = cc

  argument_law : (p y : ℕ) → (Each (LineHolds t) (when (not (v.empty p y)) (over_fields v (v.structure y) (argument_line v p y))) ↔ (v.empty p y ≡ false → IsClosed v s t p y))
  argument_law p y =
      let a = each-when (LineHolds t) (not (v.empty p y)) (over_fields v (v.structure y) (argument_line v p y)) in
      let b = each-fields (LineHolds t) v y (argument_line v p y) in
      let live = not_true (v.empty p y) in (
        (λ h em f has. (zero_law (opens v s t p y f)).0 (b.0 (a.0 h (live.1 em)) f has).0.0),
        (λ h. a.1 (λ em. b.1 (λ f has. (((zero_law (opens v s t p y f)).1 (h (live.0 em) f has), tt), tt)))),
      )

  slot_law : (p y : ℕ) (us : List CallArg) → (Each (LineHolds t) (call_lines v us p y) ↔ CallClosedHolds v s t p y us)
  slot_law p y us = by (is_arg us y) refl
    where
      differ : true ≡ false → ⊥
      differ h = cc

      by : (b : Bool) → is_arg us y ≡ b → (Each (LineHolds t) (cond b (when (not (v.empty p y)) (over_fields v (v.structure y) (argument_line v p y))) (when (not (v.fresh p y)) (sealed_lines v us p y (v.structure y)))) ↔ CallClosedHolds v s t p y us)
      by true e =
          let a = argument_law p y in
          ((λ h. record { arg = λ _. a.0 h; other = λ no'. absurd (differ (sym e ∙ no')) }), (λ h. a.1 (h.arg e)))
      by false e =
          let a = each-when (LineHolds t) (not (v.fresh p y)) (sealed_lines v us p y (v.structure y)) in
          let b = others_law p y us (v.structure y) refl in
          let old = not_true (v.fresh p y) in
          ((λ h. record { arg = λ is. absurd (differ (sym is ∙ e)); other = λ _ fr. b.0 (a.0 h (old.1 fr)) }), (λ h. a.1 (λ fr. b.1 (h.other e (old.0 fr)))))

  call_field_law : (p n q : ℕ) (us : List CallArg) → (Each (Met t) (field_rules v s p n q (edge.Call us)) ↔ ((y : ℕ) → y < v.slots → CallClosedHolds v s t p y us))
  call_field_law p n q us =
      let a = lines_law p n (gather v.slots (call_lines v us p)) in
      let b = each-gather (LineHolds t) v.slots (call_lines v us p) in
      ((λ h y lt. (slot_law p y us).0 (b.0 (a.0 h) y lt)), (λ h. a.1 (b.1 (λ y lt. (slot_law p y us).1 (h y lt)))))

  results_law : (p n q callee : ℕ) (r : Option ℕ) → ((Each (Met t) (result_rules v s p n q r) × Each (Met t) (call_results v s p n q callee r)) ↔ ResultsHold v s t p q callee r)
  results_law p n q callee None = ((λ _. tt), (λ _. (tt, tt)))
  results_law p n q callee (Some x) =
      let a = each-append (Met t) (target v s p n x) (closed v s p n q x) in
      let b = target_law p n x in
      let c = closed_law p n 3 q x in
      let d = result_law p n q callee x in
      ((λ h. let k = a.0 h.0 in record { target = b.0 k.0; closed = c.0 k.1; result = d.0 h.1 }), (λ h. (a.1 (b.1 h.target, c.1 h.closed), d.1 h.result)))

  call_law : (p n q : ℕ) (r : Option ℕ) (callee : ℕ) (us : List ℕ) → (Each (Met t) (action_rules v s p n q (act.Call r callee us)) ↔ CallHolds v s t p q callee r (args v s p callee us))
  call_law p n q r callee us =
      let as' = args v s p callee us in
      let one = result_rules v s p n q r in
      let two = call_args_rules v s p n as' in
      let three = call_results v s p n q callee r in
      let four = field_rules v s p n q (edge.Call (call_args as')) in
      let a = each-append (Met t) ((one ++ two) ++ three) four in
      let b = each-append (Met t) (one ++ two) three in
      let c = each-append (Met t) one two in
      let d = results_law p n q callee r in
      let e = args_law p n as' in
      let f = call_field_law p n q (call_args as') in (
        (λ h. let k = a.0 h in let m = b.0 k.0 in let o = c.0 m.0 in record { result = d.0 (o.0, m.1); args = e.0 o.1; closed = f.0 k.1 }),
        (λ h. let k = d.1 h.result in a.1 (b.1 (c.1 (k.0, e.1 h.args), k.1), f.1 h.closed)),
      )

  pub action_law : (p n q : ℕ) (a : Action) → (Each (Met t) (action_rules v s p n q a) ↔ ActionHolds v s t p q a)
  action_law p n q (act.Unset x) = target_law p n x
  action_law p n q (act.Null x) = target_law p n x
  action_law p n q (act.Text x k) = text_law p n q x
  action_law p n q (act.Copy x y) = copy_law p n q x y
  action_law p n q (act.New x zeroed kind count) = made_law p n q x
  action_law p n q (act.Free x) = free_law p n q x
  action_law p n q (act.Load x y m) = load_law p n q x y (s.field_at y m)
  action_law p n q (act.Store y m x) = store_law p n q x y (s.field_at y m)
  action_law p n q (act.Call r callee us) = call_law p n q r callee us
  action_law p n q _ = ((λ _. tt), (λ _. tt))

  -- Same

  same_rho_law : (p n q : ℕ) (a : Action) (x : ℕ) → (Each (Met t) (same_rho v s p n q a x) ↔ (frees_rho a x ≡ false → owns v s t p x ≡ owns v s t q x))
  same_rho_law p n q a x =
      let w = when_law (not (frees_rho a x)) p n 21 x 0 0 (Equal (v.rho p x) (v.rho q x)) in
      let e = equal_law (owns v s t p x) (owns v s t q x) in
      let k = not_true (frees_rho a x) in
      ((λ h is. e.0 (w.0 h (k.1 is))), (λ h. w.1 (λ is. e.1 (h (k.0 is)))))

  same_field_law : (p n q : ℕ) (a : Action) (x f : ℕ) → (Each (Met t) (same_field v s p n q a x f) ↔ (frees_field v s a x f ≡ false → opens v s t p x f ≡ opens v s t q x f))
  same_field_law p n q a x f =
      let w = when_law (not (frees_field v s a x f)) p n 21 x f 0 (Equal (v.omega p x f) (v.omega q x f)) in
      let e = equal_law (opens v s t p x f) (opens v s t q x f) in
      let k = not_true (frees_field v s a x f) in
      ((λ h is. e.0 (w.0 h (k.1 is))), (λ h. w.1 (λ is. e.1 (h (k.0 is)))))

  same_slot_law : (p n q : ℕ) (a : Action) (x : ℕ) → (Each (Met t) (same_slot v s p n q a x)
      ↔ (v.pointer x ≡ true → empty_after a (v.empty p) x ≡ false
      → (frees_rho a x ≡ false → owns v s t p x ≡ owns v s t q x) × (frees_slot a x ≡ false → (f : ℕ) → HasField v x f → frees_field v s a x f ≡ false → opens v s t p x f ≡ opens v s t q x f)))
  same_slot_law p n q a x =
      let fields = when (not (frees_slot a x)) (each_field v s x (same_field v s p n q a x)) in
      let w = each-when (Met t) (v.pointer x && not (empty_after a (v.empty p) x)) (same_rho v s p n q a x ++ fields) in
      let b = both_true (v.pointer x) (not (empty_after a (v.empty p) x)) in
      let live = not_true (empty_after a (v.empty p) x) in
      let c = each-append (Met t) (same_rho v s p n q a x) fields in
      let d = same_rho_law p n q a x in
      let e = each-when (Met t) (not (frees_slot a x)) (each_field v s x (same_field v s p n q a x)) in
      let k = not_true (frees_slot a x) in
      let f = each-fields (Met t) v x (same_field v s p n q a x) in (
        (λ h is em. let m = c.0 (w.0 h (b.1 (is, live.1 em))) in (d.0 m.0, (λ fr fi has. (same_field_law p n q a x fi).0 (f.0 (e.0 m.1 (k.1 fr)) fi has)))),
        (λ h. w.1 (λ is. let m = b.0 is in let g = h m.0 (live.0 m.1) in c.1 (d.1 g.0, e.1 (λ fr. f.1 (λ fi has. (same_field_law p n q a x fi).1 (g.1 (k.0 fr) fi has)))))),
      )

  pub same_law : (p n q : ℕ) (a : Action) → (Each (Met t) (same v s p n q a) ↔ SameHolds v s t p q a)
  same_law p n q a =
      let g = each-gather (Met t) v.slots (same_slot v s p n q a) in (
        (λ h. record {
          rho = λ x lt is em. ((same_slot_law p n q a x).0 (g.0 h x lt) is em).0;
          omega = λ x f lt is em fr has. ((same_slot_law p n q a x).0 (g.0 h x lt) is em).1 fr f has;
        }),
        (λ h. g.1 (λ x lt. (same_slot_law p n q a x).1 (λ is em. (h.rho x lt is em, (λ fr f has. h.omega x f lt is em fr has))))),
      )

  pub edge_law : (p n : ℕ) (e : Edge) → (Each (Met t) (edge_rules v s p n e) ↔ EdgeHolds v s t p e)
  edge_law p n e =
      let a = each-append (Met t) (action_rules v s p n e.to e.action) (same v s p n e.to e.action) in
      let b = action_law p n e.to e.action in
      let c = same_law p n e.to e.action in
      ((λ h. let k = a.0 h in record { rules = b.0 k.0; same = c.0 k.1 }), (λ h. a.1 (b.1 h.rules, c.1 h.same)))

  -- Places

  entry_law : (p x : ℕ) → (Each (Met t) (entry_slot v s p x) ↔ (v.pointer x ≡ true → EntryHolds v s t p x))
  entry_law p x =
      let w = each-when (Met t) (v.pointer x) (equation v s p 0 15 x 0 0 (Equal (v.rho p x) (s.pi (s.param_part x))) ++ each_field v s x (closed_at v s p 0 15 p x)) in
      let e = equal_law (owns v s t p x) (t (s.pi (s.param_part x))) in
      let c = closed_law p 0 15 p x in
      ((λ h is. let k = w.0 h is in record { rho = e.0 k.0.0; omega = c.0 k.1 }), (λ h. w.1 (λ is. let k = h is in ((e.1 k.rho, tt), c.1 k.omega))))

  exit_law : (p x : ℕ) → ((Each (Met t) (exit_ret v s p x) × Each (Met t) (exit_own v s p x) × Each (Met t) (exit_closed v s p x)) ↔ (is_live v s p x ≡ true → ExitHolds v s t p x))
  exit_law p x =
      let a = when_law (is_live v s p x && is_ret v s x) p 0 16 x 0 0 (Equal (v.rho p x) (s.pi 0)) in
      let b = when_law (is_live v s p x && not (is_ret v s x)) p 0 17 x 0 0 (Zero (v.rho p x)) in
      let c = each-when (Met t) (is_live v s p x) (each_field v s x (closed_at v s p 0 18 p x)) in
      let d = closed_law p 0 18 p x in
      let both1 = both_true (is_live v s p x) (is_ret v s x) in
      let both2 = both_true (is_live v s p x) (not (is_ret v s x)) in
      let e = equal_law (owns v s t p x) (t (s.pi 0)) in
      let z = zero_law (owns v s t p x) in
      let k = not_true (is_ret v s x) in (
        (λ h live. record { result = λ is. e.0 (a.0 h.0 (both1.1 (live, is))); rho = λ is. z.0 (b.0 h.1 (both2.1 (live, k.1 is))); omega = d.0 (c.0 h.2 live) }),
        (λ h. (a.1 (λ is. let m = both1.0 is in e.1 ((h m.0).result m.1)), b.1 (λ is. let m = both2.0 is in z.1 ((h m.0).rho (k.0 m.1))), c.1 (λ live. d.1 (h live).omega))),
      )

  bound_law : (p y : ℕ) → (Each (LineHolds t) (bound_lines v p y) ↔ ((f : ℕ) → HasField v y f → opens v s t p y f ≡ true → field_owns v s t f ≡ true))
  bound_law p y =
      let a = each-fields (LineHolds t) v y (bound_line v p y) in
      ((λ h f has. (at_most_law (opens v s t p y f) (field_owns v s t f)).0 (a.0 h f has).0.0), (λ h. a.1 (λ f has. (((at_most_law (opens v s t p y f) (field_owns v s t f)).1 (h f has), tt), tt))))

  leads : (o : Option ℕ) (r : ℕ) → ((leads_to o r ≡ true) ↔ (o ≡ Some r))
  leads None r = ((λ h. cc), (λ h. cc))
  leads (Some q) r = ((λ h. ap Some (eqb-true q r h)), (λ h. let e : q ≡ r = cc in eq-eqb q r e))

  -- the slots that are others of y, one by one
  each_other : (p y r f : ℕ) → (Each (LineHolds t) (flat_map (one_base_line v p y f) (others v p y r))
      ↔ ((z : ℕ) → z < v.slots → y < z → v.structure z ≡ Some r → v.fresh p z ≡ false → opens v s t p y f ≡ true → opens v s t p z f ≡ true → ⊥))
  each_other p y r f =
      let P : ℕ → Type 0 = λ z. Each (LineHolds t) (one_base_line v p y f z) in
      let a = each-flat (LineHolds t) (one_base_line v p y f) (others v p y r) in
      let b = each-gather P v.slots (other v p y r) in
      let w : (z : ℕ) → (Each P (other v p y r z) ↔ (is_other v p y r z ≡ true → Each P (z ∷ []))) = λ z. each-when P (is_other v p y r z) (z ∷ []) in
      let n : (z : ℕ) → ((bit (opens v s t p y f) + bit (opens v s t p z f) ≤ 1) ↔ (opens v s t p y f ≡ true → opens v s t p z f ≡ true → ⊥)) = λ z. not_both_law (opens v s t p y f) (opens v s t p z f) in
      let is : (z : ℕ) → ((is_other v p y r z ≡ true) ↔ ((y < z) × (v.structure z ≡ Some r) × (v.fresh p z ≡ false))) = λ z.
      (let o = both_true (ltb y z && leads_to (v.structure z) r) (not (v.fresh p z)) in
      let i = both_true (ltb y z) (leads_to (v.structure z) r) in
      let l = leads (v.structure z) r in
      let fr = not_true (v.fresh p z) in
      ((λ h. let k = o.0 h in let m = i.0 k.0 in (ltb-true y z m.0, l.0 m.1, fr.0 k.1)), (λ h. o.1 (i.1 (lt-ltb y z h.0, l.1 h.1), fr.1 h.2)))) in (
        (λ h z lt after to fr. (n z).0 ((w z).0 (b.0 (a.0 h) z lt) ((is z).1 (after, to, fr))).0.0.0),
        (λ h. a.1 (b.1 (λ z lt. (w z).1 (λ e. let k = (is z).0 e in ((((n z).1 (h z lt k.0 k.1 k.2), tt), tt), tt))))),
      )

  one_base_law : (p y : ℕ) (o : Option ℕ) → v.structure y ≡ o → (Each (LineHolds t) (base_lines v p y o)
      ↔ ((z r f : ℕ) → z < v.slots → y < z → v.structure y ≡ Some r → v.structure z ≡ Some r → v.fresh p z ≡ false → HasField v y f → opens v s t p y f ≡ true → opens v s t p z f ≡ true → ⊥))
  one_base_law p y None e = ((λ _ z r f lt after is. absurd (none r (sym e ∙ is))), (λ _. tt))
    where
      none : (r : ℕ) → None ≡ Some r → ⊥
      none r h = cc
  one_base_law p y (Some r) e =
      let a = each-range (LineHolds t) (v.fields_of r) (base_line v p y (others v p y r)) in (
        (λ h z r' f lt after is to fr has.
            let same : r' ≡ r = one r' r (sym is ∙ e) in
            let same' : has.structure ≡ r = one has.structure r (sym has.is ∙ e) in
            let low : (v.fields_of r).first ≤ f = subst (λ k. (v.fields_of k).first ≤ f) same' has.from in
            let high : f < (v.fields_of r).first + (v.fields_of r).count = subst (λ k. f < (v.fields_of k).first + (v.fields_of k).count) same' has.to in
            (each_other p y r f).0 (a.0 h f low high) z lt after (subst (λ k. v.structure z ≡ Some k) same to) fr),
        (λ h. a.1 (λ f low high. (each_other p y r f).1 (λ z lt after to fr. h z r f lt after e to fr (record { structure = r; is = e; from = low; to = high })))),
      )
    where
      one : (i j : ℕ) → Some i ≡ Some j → i ≡ j
      one i j h = cc

  one_bases_law : (p y : ℕ) → (Each (LineHolds t) (one_base_lines v p y)
      ↔ (v.fresh p y ≡ false → (z r f : ℕ) → z < v.slots → y < z → v.structure y ≡ Some r → v.structure z ≡ Some r → v.fresh p z ≡ false → HasField v y f → opens v s t p y f ≡ true → opens v s t p z f ≡ true → ⊥))
  one_bases_law p y =
      let w = each-when (LineHolds t) (not (v.fresh p y)) (base_lines v p y (v.structure y)) in
      let b = one_base_law p y (v.structure y) refl in
      let k = not_true (v.fresh p y) in
      ((λ h fr. b.0 (w.0 h (k.1 fr))), (λ h. w.1 (λ fr. b.1 (h (k.0 fr)))))

  pub place_law : (p : ℕ) → (Each (Met t) (place_rules v s p) ↔ PlaceHolds v s t p)
  place_law p =
      let bounds = gather v.slots (bound_lines v p) in
      let bases = gather v.slots (one_base_lines v p) in
      let rets = gather v.slots (exit_ret v s p) in
      let own = gather v.slots (exit_own v s p) in
      let shut = gather v.slots (exit_closed v s p) in
      let a = each-append (Met t) (entry v s p ++ exit v s p) (of_lines v s p 0 (place_lines v p)) in
      let b = each-append (Met t) (entry v s p) (exit v s p) in
      let c = each-when (Met t) (eqb p 0) (gather s.params (entry_slot v s p)) in
      let d = each-gather (Met t) s.params (entry_slot v s p) in
      let e = each-when (Met t) (eqb p (v.places - 1)) (rets ++ own ++ shut) in
      let e1 = each-append (Met t) (rets ++ own) shut in
      let e2 = each-append (Met t) rets own in
      let f1 = each-gather (Met t) v.slots (exit_ret v s p) in
      let f2 = each-gather (Met t) v.slots (exit_own v s p) in
      let f3 = each-gather (Met t) v.slots (exit_closed v s p) in
      let g = lines_law p 0 (place_lines v p) in
      let g1 = each-append (LineHolds t) bounds bases in
      let i1 = each-gather (LineHolds t) v.slots (bound_lines v p) in
      let i2 = each-gather (LineHolds t) v.slots (one_base_lines v p) in (
        (λ h. let k = a.0 h in let m = b.0 k.0 in let o = g1.0 (g.0 k.1) in record {
          entry = λ is x lt pt. (entry_law p x).0 (d.0 (c.0 m.0 (eq-eqb p 0 is)) x lt) pt;
          exit = λ is x lt live. (let q = e1.0 (e.0 m.1 (eq-eqb p (v.places - 1) is)) in let r = e2.0 q.0 in (exit_law p x).0 (f1.0 r.0 x lt, f2.0 r.1 x lt, f3.0 q.1 x lt) live);
          bound = λ y f lt has. (bound_law p y).0 (i1.0 o.0 y lt) f has;
          one_base = λ y z r f lt after is to fy fz has. (one_bases_law p y).0 (i2.0 o.1 y (omega arith)) fy z r f lt after is to fz has;
        }),
        (λ h. a.1 (
          b.1 (
            c.1 (λ is. d.1 (λ x lt. (entry_law p x).1 (λ pt. h.entry (eqb-true p 0 is) x lt pt))),
            e.1 (λ is.
                let x1 : (x : ℕ) → x < v.slots → (Each (Met t) (exit_ret v s p x) × Each (Met t) (exit_own v s p x) × Each (Met t) (exit_closed v s p x)) =
                λ x lt. (exit_law p x).1 (λ live. h.exit (eqb-true p (v.places - 1) is) x lt live) in
                e1.1 (e2.1 (f1.1 (λ x lt. (x1 x lt).0), f2.1 (λ x lt. (x1 x lt).1)), f3.1 (λ x lt. (x1 x lt).2))),
          ),
          g.1 (g1.1 (
            i1.1 (λ y lt. (bound_law p y).1 (λ f has. h.bound y f lt has)),
            i2.1 (λ y lt. (one_bases_law p y).1 (λ fy z r f ltz after is to fz has. h.one_base y z r f ltz after is to fy fz has)),
          )),
        )),
      )

  -- All of a place, and of a procedure

  more_law : (p n : ℕ) (es : List Edge) → (Each (Met t) (more_edges v s p n es) ↔ Each (EdgeHolds v s t p) es)
  more_law p n [] = ((λ _. tt), (λ _. tt))
  more_law p n (e ∷ es) =
      let a = each-append (Met t) (edge_rules v s p n e) (more_edges v s p (suc n) es) in
      let b = edge_law p n e in
      let c = more_law p (suc n) es in
      ((λ h. let k = a.0 h in (b.0 k.0, c.0 k.1)), (λ h. a.1 (b.1 h.0, c.1 h.1)))

  rules_law : (p : ℕ) (es : List Edge) → (Each (Met t) (rules_with v s p es) ↔ (PlaceHolds v s t p × Each (EdgeHolds v s t p) es))
  rules_law p [] = let a = place_law p in ((λ h. (a.0 h, tt)), (λ h. a.1 h.0))
  rules_law p (e ∷ es) =
      let one = action_rules v s p 0 e.to e.action in
      let two = place_rules v s p in
      let three = same v s p 0 e.to e.action in
      let four = more_edges v s p 1 es in
      let a = each-append (Met t) ((one ++ two) ++ three) four in
      let b = each-append (Met t) (one ++ two) three in
      let c = each-append (Met t) one two in
      let d = action_law p 0 e.to e.action in
      let f = place_law p in
      let g = same_law p 0 e.to e.action in
      let i = more_law p 1 es in (
        (λ h. let k = a.0 h in let m = b.0 k.0 in let o = c.0 m.0 in (f.0 o.1, (record { rules = d.0 o.0; same = g.0 m.1 }, i.0 k.1))),
        (λ h. a.1 (b.1 (c.1 (d.1 h.1.0.rules, f.1 h.0), g.1 h.1.0.same), i.1 h.1.1)),
      )

  pub proc_law : Each (Met t) (proc_constraints v s) ↔ ProcHolds v s t
  proc_law =
      let a = each-gather (Met t) v.places (constraints_at v s) in (
        (λ h. record { places = λ p lt. ((rules_law p (s.edges p)).0 (a.0 h p lt)).0; edges = λ p lt. ((rules_law p (s.edges p)).0 (a.0 h p lt)).1 }),
        (λ h. a.1 (λ p lt. (rules_law p (s.edges p)).1 (h.places p lt, h.edges p lt))),
      )
