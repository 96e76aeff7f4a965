-- A name is found among the constraints of its own rule, slot, field and other where it is found among all of its place.
use Rattle.std.proofs.Common.{◌≡◌, ℕ, zero, suc, ◌+◌, ◌-◌, ◌<◌, ◌≤◌, Bool, true, false, cond, ◌&&◌, not, List, [], ◌∷◌, ◌++◌, Option, Some, None, refl, sym, ap, ap₂, ◌∙◌, arith, eqb, ltb, append_assoc}
use Rattle.std.specs.Prelude.{nat_lt, nat_le}
use Rattle.std.proofs.lemmas.Bool.{eqb-true, eqb-false, lt-ltb, le-ltb, ltb-true, ltb-false, le-leb, lt-leb}
use Rattle.std.specs.List.{flat_map}
use Rattle.zo_core.specs.declared.forms.Form.TheVariants.{Zero, Equal}
use Rattle.zo_core.specs.declared.number_range.NumberRange.{NumberRange}
use Rattle.conflict_proof.specs.declared.names.ConstraintName.{ConstraintName}
use Rattle.flow_graph.specs.declared.action.Action.{Action}
use Rattle.flow_graph.specs.declared.action.Action.TheVariants as act
use Rattle.flow_graph.specs.declared.action.Edge.{Edge}
use Rattle.field_rules.specs.declared.edges.CallArg.{CallArg}
use Rattle.field_rules.specs.declared.edges.FieldEdge.TheVariants as edge
use Rattle.field_rules.specs.declared.edges.FieldLine.{FieldLine}
use Rattle.field_rules.specs.Lists.{gather, when}
use Rattle.field_rules.specs.Sight.{Sight, over_range, over_fields}
use Rattle.field_rules.specs.Lines.{is_arg, free_field_line, argument_line, argument_lines, phis_to, sigmas_to, sealed_line, sealed_lines, call_lines, bound_line, bound_lines, is_other, other, others, one_base_line, base_line, base_lines, one_base_lines, pair_of, pair_lines}
use Rattle.transfer_rules.specs.declared.args.PassedArg.{PassedArg}
use Rattle.transfer_rules.specs.declared.constraint.Condition.{Condition}
use Rattle.transfer_rules.specs.declared.constraint.Constraint.{Constraint}
use Rattle.transfer_rules.specs.Body.{Setting}
use Rattle.transfer_rules.specs.Names.{is_name, condition_in}
use Rattle.transfer_rules.specs.Rules.{equation, of_line, of_lines, each_field, is_live, closed_at, nothing_at, target, copied, closed, made, text, freeing, freed, call_arg_of, call_args_rules, call_args, args, call_results, result_rules, field_rules, action_rules, frees_slot, frees_field, same_rho, same_field, same_slot, same, entry_slot, entry, exit_ret, exit_own, exit_closed, exit, place_rules, edge_rules, more_edges, rules_with, constraints_at}
use Rattle.transfer_rules.specs.Holds.{Each}
use Rattle.transfer_rules.specs.Single.{only, one_field, named_arg, named_closed, named_result, named_call, named_action, named_same, named_edge, named_among, named_entry, named_exit, named_pair, named_place, named_at}
use Rattle.transfer_rules.proofs.EachLemmas.{both_true}
use Rattle.transfer_rules.proofs.Lookup.{or_else, or_none, lookup-append, lookup-other, lookup-gather, one_slot}
use Rattle.transfer_rules.proofs.Listed.{each-all, In, Of, call_lines_of, arg_of, args_in, results_in, gives_in, calls_in, action_in, same_of, same_in, entry_of, ret_of, own_of, closed_of, bound_of, pairs_of, entry_in, rets_in, owns_in, shuts_in, exit_in, bounds_in, bases_in, place_in}

-- Names that are one have one edge, rule, field and other

one_edge : (m n : ConstraintName) → is_name m n ≡ true → m.edge ≡ n.edge
one_edge m n e =
    let a = (both_true (eqb m.proc n.proc) _).0 e in
    let b = (both_true (eqb m.place n.place) _).0 a.1 in
    eqb-true m.edge n.edge ((both_true (eqb m.edge n.edge) _).0 b.1).0

one_rule : (m n : ConstraintName) → is_name m n ≡ true → m.rule ≡ n.rule
one_rule m n e =
    let a = (both_true (eqb m.proc n.proc) _).0 e in
    let b = (both_true (eqb m.place n.place) _).0 a.1 in
    let c = (both_true (eqb m.edge n.edge) _).0 b.1 in
    eqb-true m.rule n.rule ((both_true (eqb m.rule n.rule) _).0 c.1).0

one_field_of : (m n : ConstraintName) → is_name m n ≡ true → m.field ≡ n.field
one_field_of m n e =
    let a = (both_true (eqb m.proc n.proc) _).0 e in
    let b = (both_true (eqb m.place n.place) _).0 a.1 in
    let c = (both_true (eqb m.edge n.edge) _).0 b.1 in
    let d = (both_true (eqb m.rule n.rule) _).0 c.1 in
    let f = (both_true (eqb m.slot n.slot) _).0 d.1 in
    eqb-true m.field n.field ((both_true (eqb m.field n.field) _).0 f.1).0

one_other : (m n : ConstraintName) → is_name m n ≡ true → m.other ≡ n.other
one_other m n e =
    let a = (both_true (eqb m.proc n.proc) _).0 e in
    let b = (both_true (eqb m.place n.place) _).0 a.1 in
    let c = (both_true (eqb m.edge n.edge) _).0 b.1 in
    let d = (both_true (eqb m.rule n.rule) _).0 c.1 in
    let f = (both_true (eqb m.slot n.slot) _).0 d.1 in
    let g = (both_true (eqb m.field n.field) _).0 f.1 in
    eqb-true m.other n.other ((both_true (eqb m.other n.other) _).0 g.1).0

-- Lists of lines in parts

pub flat_append : {X Y : Type 0} (f : X → List Y) (xs ys : List X) → flat_map f (xs ++ ys) ≡ flat_map f xs ++ flat_map f ys
flat_append f [] ys = refl
flat_append f (x ∷ xs) ys = ap (λ zs. f x ++ zs) (flat_append f xs ys) ∙ sym (append_assoc (f x) (flat_map f xs) (flat_map f ys))

pub flat_gather : {X Y : Type 0} (g : X → List Y) (k : ℕ) (f : ℕ → List X) → flat_map g (gather k f) ≡ gather k (λ i. flat_map g (f i))
flat_gather g zero f = refl
flat_gather g (suc k) f = flat_append g (gather k f) (f k) ∙ ap (λ zs. zs ++ flat_map g (f k)) (flat_gather g k f)

pub flat_when : {X Y : Type 0} (g : X → List Y) (b : Bool) (xs : List X) → flat_map g (when b xs) ≡ when b (flat_map g xs)
flat_when g true xs = refl
flat_when g false xs = refl

pub flat_over : {X Y : Type 0} (g : X → List Y) (v : Sight) (o : Option ℕ) (c : ℕ → List X) → flat_map g (over_fields v o c) ≡ over_fields v o (λ f. flat_map g (c f))
flat_over g v None c = refl
flat_over g v (Some r) c = flat_gather g (v.fields_of r).count (λ j. c ((v.fields_of r).first + j))

pub flat_flat : {X Y Z : Type 0} (g : Y → List Z) (f : X → List Y) (xs : List X) → flat_map g (flat_map f xs) ≡ flat_map (λ x. flat_map g (f x)) xs
flat_flat g f [] = refl
flat_flat g f (x ∷ xs) = flat_append g (f x) (flat_map f xs) ∙ ap (λ zs. flat_map g (f x) ++ zs) (flat_flat g f xs)

module _ (n : ConstraintName) where
  -- Parts

  like-append : (xs ys as' bs : List Constraint) → condition_in xs n ≡ condition_in as' n → condition_in ys n ≡ condition_in bs n → condition_in (xs ++ ys) n ≡ condition_in (as' ++ bs) n
  like-append xs ys as' bs h k = lookup-append xs ys n ∙ ap₂ or_else h k ∙ sym (lookup-append as' bs n)

  like-when : (b : Bool) (xs ys : List Constraint) → condition_in xs n ≡ condition_in ys n → condition_in (when b xs) n ≡ condition_in (when b ys) n
  like-when true xs ys h = h
  like-when false xs ys h = refl

  like-gather : (k : ℕ) (f g : ℕ → List Constraint) → ((i : ℕ) → condition_in (f i) n ≡ condition_in (g i) n) → condition_in (gather k f) n ≡ condition_in (gather k g) n
  like-gather zero f g h = refl
  like-gather (suc k) f g h = like-append (gather k f) (f k) (gather k g) (g k) (like-gather k f g h) (h k)

  when-is : (b : Bool) (xs : List Constraint) → cond b (condition_in xs n) None ≡ condition_in (when b xs) n
  when-is true xs = refl
  when-is false xs = refl

  left-none : (xs ys : List Constraint) → condition_in xs n ≡ None → condition_in (xs ++ ys) n ≡ condition_in ys n
  left-none xs ys h = lookup-append xs ys n ∙ ap (λ o. or_else o (condition_in ys n)) h

  right-none : (xs ys : List Constraint) → condition_in ys n ≡ None → condition_in (xs ++ ys) n ≡ condition_in xs n
  right-none xs ys h = lookup-append xs ys n ∙ ap (λ o. or_else (condition_in xs n) o) h ∙ or_none (condition_in xs n)

  -- Where the name is not

  apart : (m : ConstraintName) → (is_name m n ≡ true → ⊥) → is_name m n ≡ false
  apart m h = by (is_name m n) refl
    where
      by : (b : Bool) → is_name m n ≡ b → b ≡ false
      by true e = absurd (h e)
      by false e = refl

  none : (P : Constraint → Type 0) (cs : List Constraint) → ((c : Constraint) → P c → is_name c.name n ≡ true → ⊥) → Each P cs → condition_in cs n ≡ None
  none P [] h e = refl
  none P (c ∷ cs) h e = rw (apart c.name (h c e.0)) (none P cs h e.1)

  beside : (k lo hi : ℕ) (cs : List Constraint) → (k ≡ n.edge → ⊥) → Each (In k lo hi) cs → condition_in cs n ≡ None
  beside k lo hi cs ne h = none (In k lo hi) cs (λ c i e. ne (sym i.edge ∙ one_edge c.name n e)) h

  before : (k lo hi : ℕ) (cs : List Constraint) → hi < n.rule → Each (In k lo hi) cs → condition_in cs n ≡ None
  before k lo hi cs lt h = none (In k lo hi) cs (λ c i e. let to = i.to in let same = one_rule c.name n e in (let z : ⊥ = omega arith in z)) h

  after : (k lo hi : ℕ) (cs : List Constraint) → n.rule < lo → Each (In k lo hi) cs → condition_in cs n ≡ None
  after k lo hi cs lt h = none (In k lo hi) cs (λ c i e. let from = i.from in let same = one_rule c.name n e in (let z : ⊥ = omega arith in z)) h

  -- Slots

  at_slot : (k r m : ℕ) (f : ℕ → List Constraint) → ((x : ℕ) → Each (Of k r x) (f x)) → condition_in (gather m f) n ≡ condition_in (when (nat_lt n.slot m) (f n.slot)) n
  at_slot k r m f h =
      lookup-gather (λ c. c.slot) n (λ c e. one_slot c n e) m f (λ x. each-all (Of k r x) (λ c. c.name.slot ≡ x) (f x) (λ c o. o.slot) (h x))
      ∙ when-is (nat_lt n.slot m) (f n.slot)

  -- Fields

  module _ (c : ℕ → List Constraint) (h : (f : ℕ) → Each (λ d. d.name.field ≡ f) (c f)) where
    shifted : (a k : ℕ) → condition_in (gather k (λ j. c (a + j))) n ≡ cond (ltb (n.field - a) k) (condition_in (c (a + (n.field - a))) n) None
    shifted a k =
        lookup-gather (λ m. m.field - a) n (λ m e. ap (λ f. f - a) (one_field_of m n e)) k (λ j. c (a + j))
        (λ j. each-all (λ d. d.name.field ≡ a + j) (λ d. d.name.field - a ≡ j) (c (a + j)) (λ d e. omega arith) (h (a + j)))

    in_range : (r : NumberRange) (b d : Bool) → ltb n.field r.first ≡ b → ltb (n.field - r.first) r.count ≡ d
        → cond d (condition_in (c (r.first + (n.field - r.first))) n) None ≡ condition_in (gather (cond (nat_le r.first n.field && nat_lt n.field (r.first + r.count)) 1 0) (λ j. c (n.field + j))) n
    in_range r true d e g =
        let lt : n.field < r.first = ltb-true n.field r.first e in
        let ne : (r.first + (n.field - r.first) ≡ n.field → ⊥) = λ q. omega arith in
        rw (lt-leb r.first n.field lt) (out d (lookup-other (λ m. m.field) n (λ m q. one_field_of m n q) (r.first + (n.field - r.first)) (c (r.first + (n.field - r.first))) (h (r.first + (n.field - r.first))) ne))
      where
        out : (d : Bool) {o : Option Condition} → o ≡ None → cond d o None ≡ None
        out true e = e
        out false e = refl
    in_range r false true e g =
        let le : r.first ≤ n.field = ltb-false n.field r.first e in
        let lt : n.field - r.first < r.count = ltb-true (n.field - r.first) r.count g in
        let is : r.first + (n.field - r.first) ≡ n.field + 0 = omega arith in
        rw (le-leb r.first n.field le, lt-ltb n.field (r.first + r.count) (omega arith)) (ap (λ f. condition_in (c f) n) is)
    in_range r false false e g =
        let le : r.first ≤ n.field = ltb-false n.field r.first e in
        let ge : r.count ≤ n.field - r.first = ltb-false (n.field - r.first) r.count g in
        rw (le-leb r.first n.field le, le-ltb n.field (r.first + r.count) (omega arith)) refl

    at_field : (r : NumberRange) → condition_in (over_range r c) n ≡ condition_in (over_range (only r n.field) c) n
    at_field r = shifted r.first r.count ∙ in_range r (ltb n.field r.first) (ltb (n.field - r.first) r.count) refl refl

    over_field : (v : Sight) (o : Option ℕ) → condition_in (over_fields v o c) n ≡ condition_in (over_fields (one_field v n.field) o c) n
    over_field v None = refl
    over_field v (Some r) = at_field (v.fields_of r)

  -- Others

  at_other : (m : ℕ) (f : ℕ → List Constraint) → ((z : ℕ) → Each (λ c. c.name.other ≡ z) (f z)) → condition_in (gather m f) n ≡ condition_in (when (nat_lt n.other m) (f n.other)) n
  at_other m f h = lookup-gather (λ c. c.other) n (λ c e. one_other c n e) m f h ∙ when-is (nat_lt n.other m) (f n.other)

  module _ (v : Sight) (s : Setting) where
    -- what is seen with the name's field alone
    abbrev w : Sight
    w = one_field v n.field

    module _ (p k : ℕ) where
      shuts : (r q x : ℕ) → condition_in (each_field v s x (closed_at v s p k r q x)) n ≡ condition_in (each_field w s x (closed_at w s p k r q x)) n
      shuts r q x = over_field (closed_at v s p k r q x) (λ f. (refl, tt)) v (v.structure x)

      nothings : (r q x : ℕ) → condition_in (nothing_at v s p k r q x) n ≡ condition_in (nothing_at w s p k r q x) n
      nothings r q x =
          let e = equation v s p k r x 0 0 (Zero (v.rho q x)) in
          like-append e (each_field v s x (closed_at v s p k r q x)) e (each_field w s x (closed_at w s p k r q x)) refl (shuts r q x)

      targets : (x : ℕ) → condition_in (target v s p k x) n ≡ condition_in (target w s p k x) n
      targets x = like-when (is_live v s p x) (nothing_at v s p k 1 p x) (nothing_at w s p k 1 p x) (nothings 1 p x)

      freeds : (q x : ℕ) → condition_in (freed v s p k q x) n ≡ condition_in (freed w s p k q x) n
      freeds q x = like-when (is_live v s p x) (nothing_at v s p k 8 q x) (nothing_at w s p k 8 q x) (nothings 8 q x)

      results : (q : ℕ) (r : Option ℕ) → condition_in (result_rules v s p k q r) n ≡ condition_in (result_rules w s p k q r) n
      results q None = refl
      results q (Some x) = like-append (target v s p k x) (closed v s p k q x) (target w s p k x) (closed w s p k q x) (targets x) (shuts 3 q x)

      -- rules on fields

      lines_over : (o : Option ℕ) (c : ℕ → List FieldLine) → ((f : ℕ) → Each (λ l. l.field ≡ f) (c f)) → condition_in (of_lines v s p k (over_fields v o c)) n ≡ condition_in (of_lines v s p k (over_fields w o c)) n
      lines_over o c h =
          ap (λ cs. condition_in cs n) (flat_over (of_line v s p k) v o c)
          ∙ over_field (λ f. of_lines v s p k (c f)) (λ f. fields_are f (c f) (h f)) v o
          ∙ ap (λ cs. condition_in cs n) (sym (flat_over (of_line v s p k) w o c))
        where
          fields_are : (f : ℕ) (ls : List FieldLine) → Each (λ l. l.field ≡ f) ls → Each (λ d. d.name.field ≡ f) (of_lines v s p k ls)
          fields_are f [] h = tt
          fields_are f (l ∷ ls) h = (h.0, fields_are f ls h.1)

      lines_when : (b : Bool) (xs ys : List FieldLine) → condition_in (of_lines v s p k xs) n ≡ condition_in (of_lines v s p k ys) n → condition_in (of_lines v s p k (when b xs)) n ≡ condition_in (of_lines v s p k (when b ys)) n
      lines_when true xs ys h = h
      lines_when false xs ys h = refl

      frees : (q x : ℕ) → condition_in (field_rules v s p k q (edge.Free x)) n ≡ condition_in (field_rules w s p k q (edge.Free x)) n
      frees q x = lines_when (not (v.empty p x)) (over_fields v (v.structure x) (free_field_line v p x)) (over_fields w (v.structure x) (free_field_line v p x)) (lines_over (v.structure x) (free_field_line v p x) (λ f. (refl, tt)))

      calls : (us : List CallArg) (y : ℕ) → condition_in (of_lines v s p k (call_lines v us p y)) n ≡ condition_in (of_lines v s p k (call_lines w us p y)) n
      calls us y = by (is_arg us y)
        where
          sealed : (o : Option ℕ) → condition_in (of_lines v s p k (sealed_lines v us p y o)) n ≡ condition_in (of_lines v s p k (sealed_lines w us p y o)) n
          sealed None = refl
          sealed (Some r) = lines_over (Some r) (sealed_line v p y (phis_to v r) (sigmas_to v us p r)) (λ f. (refl, tt))

          by : (b : Bool) → condition_in (of_lines v s p k (cond b (argument_lines v p y) (when (not (v.fresh p y)) (sealed_lines v us p y (v.structure y))))) n
              ≡ condition_in (of_lines v s p k (cond b (argument_lines w p y) (when (not (v.fresh p y)) (sealed_lines w us p y (v.structure y))))) n
          by true = lines_when (not (v.empty p y)) (over_fields v (v.structure y) (argument_line v p y)) (over_fields w (v.structure y) (argument_line v p y)) (lines_over (v.structure y) (argument_line v p y) (λ f. (refl, tt)))
          by false = lines_when (not (v.fresh p y)) (sealed_lines v us p y (v.structure y)) (sealed_lines w us p y (v.structure y)) (sealed (v.structure y))

      bounds : (y : ℕ) → condition_in (of_lines v s p k (bound_lines v p y)) n ≡ condition_in (of_lines v s p k (bound_lines w p y)) n
      bounds y = lines_over (v.structure y) (bound_line v p y) (λ f. (refl, tt))

      -- of two slots

      base : (y r f : ℕ) → condition_in (of_lines v s p k (base_line v p y (others v p y r) f)) n ≡ condition_in (when (nat_lt n.other v.slots) (of_lines v s p k (base_line v p y (other v p y r n.other) f))) n
      base y r f =
          let g : FieldLine → List Constraint = of_line v s p k in
          let line : ℕ → List FieldLine = one_base_line v p y f in
          let both : ℕ → List Constraint = λ z. flat_map (λ i. flat_map g (line i)) (other v p y r z) in
          ap (λ cs. condition_in cs n) (flat_flat g line (others v p y r) ∙ flat_gather (λ z. flat_map g (line z)) v.slots (other v p y r))
          ∙ at_other v.slots both (λ z. others_are z (other v p y r z) (only_z (is_other v p y r z) z))
          ∙ ap (λ cs. condition_in (when (nat_lt n.other v.slots) cs) n) (sym (flat_flat g line (other v p y r n.other)))
        where
          others_are : (z : ℕ) (zs : List ℕ) → Each (λ i. i ≡ z) zs → Each (λ c. c.name.other ≡ z) (flat_map (λ i. flat_map (of_line v s p k) (one_base_line v p y f i)) zs)
          others_are z [] h = tt
          others_are z (i ∷ zs) h = (h.0, others_are z zs h.1)

          only_z : (b : Bool) (z : ℕ) → Each (λ i. i ≡ z) (when b (z ∷ []))
          only_z true z = (refl, tt)
          only_z false z = tt

      bases_in_turn : (y r : ℕ) (b : Bool) → condition_in (gather (only (v.fields_of r) n.field).count (λ j. when b (of_lines v s p k (base_line v p y (other v p y r n.other) (n.field + j))))) n
          ≡ condition_in (when b (of_lines v s p k (pair_of w p y n.other (Some r)))) n
      bases_in_turn y r true = ap (λ cs. condition_in cs n) (sym (flat_gather (of_line v s p k) (only (v.fields_of r) n.field).count (λ j. base_line v p y (other v p y r n.other) (n.field + j))))
      bases_in_turn y r false = nothing_in (only (v.fields_of r) n.field).count
        where
          nothing_in : (m : ℕ) → condition_in (gather m (λ j. [])) n ≡ None
          nothing_in zero = refl
          nothing_in (suc m) = left-none (gather m (λ j. [])) [] (nothing_in m)

      pairs : (y : ℕ) → condition_in (of_lines v s p k (one_base_lines v p y)) n ≡ condition_in (when (nat_lt n.other v.slots) (of_lines v s p k (pair_lines w p y n.other))) n
      pairs y = by_fresh (not (v.fresh p y))
        where
          by_struct : (o : Option ℕ) → condition_in (of_lines v s p k (base_lines v p y o)) n ≡ condition_in (when (nat_lt n.other v.slots) (of_lines v s p k (pair_of w p y n.other o))) n
          by_struct None = none_when (nat_lt n.other v.slots)
            where
              none_when : (b : Bool) → None ≡ condition_in (when b []) n
              none_when true = refl
              none_when false = refl
          by_struct (Some r) =
              lines_over (Some r) (base_line v p y (others v p y r)) (λ f. all_fields f (others v p y r))
              ∙ ap (λ cs. condition_in cs n) (flat_gather (of_line v s p k) (only (v.fields_of r) n.field).count (λ j. base_line v p y (others v p y r) (n.field + j)))
              ∙ like-gather (only (v.fields_of r) n.field).count (λ j. of_lines v s p k (base_line v p y (others v p y r) (n.field + j)))
              (λ j. when (nat_lt n.other v.slots) (of_lines v s p k (base_line v p y (other v p y r n.other) (n.field + j)))) (λ j. base y r (n.field + j))
              ∙ bases_in_turn y r (nat_lt n.other v.slots)
            where
              all_fields : (f : ℕ) (zs : List ℕ) → Each (λ l. l.field ≡ f) (base_line v p y zs f)
              all_fields f [] = tt
              all_fields f (z ∷ zs) = (refl, all_fields f zs)

          when_when : (b : Bool) → None ≡ condition_in (when b []) n
          when_when true = refl
          when_when false = refl

          by_fresh : (b : Bool) → condition_in (of_lines v s p k (when b (base_lines v p y (v.structure y)))) n ≡ condition_in (when (nat_lt n.other v.slots) (of_lines v s p k (when b (pair_of w p y n.other (v.structure y))))) n
          by_fresh true = by_struct (v.structure y)
          by_fresh false = when_when (nat_lt n.other v.slots)

    -- The name's own place and edge

    abbrev at : ℕ
    at = n.place

    -- rules 1 to 14

    module _ (q : ℕ) where
      module _ (r : Option ℕ) (callee : ℕ) (us : List ℕ) where
        abbrev passed : List PassedArg
        passed = args v s at callee us

        abbrev one : List Constraint
        one = result_rules v s at n.edge q r

        abbrev two : List Constraint
        two = call_args_rules v s at n.edge (args v s at callee us)

        abbrev three : List Constraint
        three = call_results v s at n.edge q callee r

        abbrev four : List Constraint
        four = field_rules v s at n.edge q (edge.Call (call_args (args v s at callee us)))

        of_call : condition_in (action_rules v s at n.edge q (act.Call r callee us)) n ≡ condition_in (named_call v s n q r callee us) n
        of_call = by (eqb n.rule 12) refl (eqb n.rule 14) refl
          where
            by : (a : Bool) → eqb n.rule 12 ≡ a → (b : Bool) → eqb n.rule 14 ≡ b → condition_in (((one ++ two) ++ three) ++ four) n
                ≡ condition_in (cond a (named_arg v s n callee us) (cond b (named_closed v s n callee us) (named_result v s n q callee r))) n
            by true e b f =
                let is : n.rule ≡ 12 = eqb-true n.rule 12 e in
                right-none ((one ++ two) ++ three) four (after n.edge 14 14 four (omega arith) (calls_in v s at n.edge q (call_args passed)))
                ∙ right-none (one ++ two) three (after n.edge 13 13 three (omega arith) (gives_in v s at n.edge q callee r))
                ∙ left-none one two (before n.edge 1 3 one (omega arith) (results_in v s at n.edge q r))
                ∙ at_slot n.edge 12 v.slots (call_arg_of v s at n.edge passed) (λ x. arg_of v s at n.edge x passed)
            by false e true f =
                let is : n.rule ≡ 14 = eqb-true n.rule 14 f in
                left-none ((one ++ two) ++ three) four
                (left-none (one ++ two) three (left-none one two (before n.edge 1 3 one (omega arith) (results_in v s at n.edge q r)) ∙ before n.edge 12 12 two (omega arith) (args_in v s at n.edge passed))
                ∙ before n.edge 13 13 three (omega arith) (gives_in v s at n.edge q callee r))
                ∙ ap (λ cs. condition_in cs n) (flat_gather (of_line v s at n.edge) v.slots (call_lines v (call_args passed) at))
                ∙ at_slot n.edge 14 v.slots (λ y. of_lines v s at n.edge (call_lines v (call_args passed) at y)) (λ y. call_lines_of v s at n.edge (call_args passed) y)
                ∙ like-when (nat_lt n.slot v.slots) (of_lines v s at n.edge (call_lines v (call_args passed) at n.slot)) (of_lines v s at n.edge (call_lines w (call_args passed) at n.slot)) (calls at n.edge (call_args passed) n.slot)
            by false e false f =
                let twelve : (n.rule ≡ 12 → ⊥) = eqb-false n.rule 12 e in
                let fourteen : (n.rule ≡ 14 → ⊥) = eqb-false n.rule 14 f in
                right-none ((one ++ two) ++ three) four (none (In n.edge 14 14) four (λ c i g. let from = i.from in let to = i.to in let same = one_rule c.name n g in fourteen (omega arith)) (calls_in v s at n.edge q (call_args passed)))
                ∙ like-append (one ++ two) three (result_rules w s at n.edge q r) three
                (right-none one two (none (In n.edge 12 12) two (λ c i g. let from = i.from in let to = i.to in let same = one_rule c.name n g in twelve (omega arith)) (args_in v s at n.edge passed)) ∙ results at n.edge q r) refl

      of_action : (a : Action) → condition_in (action_rules v s at n.edge q a) n ≡ condition_in (named_action v s n q a) n
      of_action (act.Unset x) = targets at n.edge x
      of_action (act.Null x) = targets at n.edge x
      of_action (act.Text x t) = like-append (target v s at n.edge x) (text v s at n.edge q x) (target w s at n.edge x) (text v s at n.edge q x) (targets at n.edge x) refl
      of_action (act.Copy x y) =
          like-append (target v s at n.edge x ++ copied v s at n.edge q x y) (when (is_live v s at y) (closed v s at n.edge q x)) (target w s at n.edge x ++ copied v s at n.edge q x y) (when (is_live v s at y) (closed w s at n.edge q x))
          (like-append (target v s at n.edge x) (copied v s at n.edge q x y) (target w s at n.edge x) (copied v s at n.edge q x y) (targets at n.edge x) refl)
          (like-when (is_live v s at y) (closed v s at n.edge q x) (closed w s at n.edge q x) (shuts at n.edge 3 q x))
      of_action (act.New x zeroed kind count) = like-append (target v s at n.edge x) (made v s at n.edge q x) (target w s at n.edge x) (made v s at n.edge q x) (targets at n.edge x) refl
      of_action (act.Free x) =
          like-append (freeing v s at n.edge x ++ field_rules v s at n.edge q (edge.Free x)) (freed v s at n.edge q x) (freeing v s at n.edge x ++ field_rules w s at n.edge q (edge.Free x)) (freed w s at n.edge q x)
          (like-append (freeing v s at n.edge x) (field_rules v s at n.edge q (edge.Free x)) (freeing v s at n.edge x) (field_rules w s at n.edge q (edge.Free x)) refl (frees at n.edge q x))
          (freeds at n.edge q x)
      of_action (act.Load x y m) =
          let e = field_rules v s at n.edge q (edge.Load x y (s.field_at y m)) in
          like-append (target v s at n.edge x ++ closed v s at n.edge q x) e (target w s at n.edge x ++ closed w s at n.edge q x) e
          (like-append (target v s at n.edge x) (closed v s at n.edge q x) (target w s at n.edge x) (closed w s at n.edge q x) (targets at n.edge x) (shuts at n.edge 3 q x)) refl
      of_action (act.Call r callee us) = of_call r callee us
      of_action a = refl

      -- rule 21

      of_same_field : (a : Action) (x : ℕ) → condition_in (each_field v s x (same_field v s at n.edge q a x)) n ≡ condition_in (each_field w s x (same_field w s at n.edge q a x)) n
      of_same_field a x = over_field (same_field v s at n.edge q a x) (λ f. by f (not (frees_field v s a x f))) v (v.structure x)
        where
          by : (f : ℕ) (b : Bool) → Each (λ d. d.name.field ≡ f) (when b (equation v s at n.edge 21 x f 0 (Equal (v.omega at x f) (v.omega q x f))))
          by f true = (refl, tt)
          by f false = tt

      of_same_slot : (a : Action) (x : ℕ) → condition_in (same_slot v s at n.edge q a x) n ≡ condition_in (same_slot w s at n.edge q a x) n
      of_same_slot a x =
          let r = same_rho v s at n.edge q a x in
          like-when _ (r ++ when (not (frees_slot a x)) (each_field v s x (same_field v s at n.edge q a x))) (r ++ when (not (frees_slot a x)) (each_field w s x (same_field w s at n.edge q a x)))
          (like-append r (when (not (frees_slot a x)) (each_field v s x (same_field v s at n.edge q a x))) r (when (not (frees_slot a x)) (each_field w s x (same_field w s at n.edge q a x))) refl
          (like-when (not (frees_slot a x)) (each_field v s x (same_field v s at n.edge q a x)) (each_field w s x (same_field w s at n.edge q a x)) (of_same_field a x)))

      of_same : (a : Action) → condition_in (same v s at n.edge q a) n ≡ condition_in (named_same v s n q a) n
      of_same a =
          at_slot n.edge 21 v.slots (same_slot v s at n.edge q a) (λ x. same_of v s at n.edge q a x)
          ∙ like-when (nat_lt n.slot v.slots) (same_slot v s at n.edge q a n.slot) (same_slot w s at n.edge q a n.slot) (of_same_slot a n.slot)

    -- the edge

    module _ (e : Edge) where
      abbrev moves : List Constraint
      moves = action_rules v s at n.edge e.to e.action

      abbrev stays : List Constraint
      stays = same v s at n.edge e.to e.action

      of_edge : condition_in (edge_rules v s at n.edge e) n ≡ condition_in (named_edge v s n e) n
      of_edge = by (nat_lt n.rule 15) refl (eqb n.rule 21) refl
        where
          by : (a : Bool) → nat_lt n.rule 15 ≡ a → (b : Bool) → eqb n.rule 21 ≡ b → condition_in (moves ++ stays) n ≡ condition_in (cond a (named_action v s n e.to e.action) (when b (named_same v s n e.to e.action))) n
          by true h b k =
              let lt : n.rule < 15 = ltb-true n.rule 15 h in
              right-none moves stays (after n.edge 21 21 stays (omega arith) (same_in v s at n.edge e.to e.action)) ∙ of_action e.to e.action
          by false h true k =
              let is : n.rule ≡ 21 = eqb-true n.rule 21 k in
              left-none moves stays (before n.edge 1 14 moves (omega arith) (action_in v s at n.edge e.to e.action)) ∙ of_same e.to e.action
          by false h false k =
              let ge : 15 ≤ n.rule = ltb-false n.rule 15 h in
              let ne : (n.rule ≡ 21 → ⊥) = eqb-false n.rule 21 k in
              left-none moves stays (before n.edge 1 14 moves (omega arith) (action_in v s at n.edge e.to e.action))
              ∙ none (In n.edge 21 21) stays (λ c i g. let from = i.from in let to = i.to in let same' = one_rule c.name n g in ne (omega arith)) (same_in v s at n.edge e.to e.action)

    beside_edge : (k : ℕ) (e : Edge) → (k ≡ n.edge → ⊥) → condition_in (edge_rules v s at k e) n ≡ None
    beside_edge k e ne =
        left-none (action_rules v s at k e.to e.action) (same v s at k e.to e.action) (beside k 1 14 (action_rules v s at k e.to e.action) ne (action_in v s at k e.to e.action))
        ∙ beside k 21 21 (same v s at k e.to e.action) ne (same_in v s at k e.to e.action)

    past : (k : ℕ) (es : List Edge) → n.edge < k → condition_in (more_edges v s at k es) n ≡ None
    past k [] lt = refl
    past k (e ∷ es) lt =
        let ne : (k ≡ n.edge → ⊥) = λ g. omega arith in
        left-none (edge_rules v s at k e) (more_edges v s at (suc k) es) (beside_edge k e ne) ∙ past (suc k) es (omega arith)

    among : (k i : ℕ) (es : List Edge) → k + i ≡ n.edge → condition_in (more_edges v s at k es) n ≡ condition_in (named_among v s n es i) n
    among k i [] is = refl
    among k zero (e ∷ es) is =
        let same' : k ≡ n.edge = omega arith in
        right-none (edge_rules v s at k e) (more_edges v s at (suc k) es) (past (suc k) es (omega arith)) ∙ ap (λ j. condition_in (edge_rules v s at j e) n) same' ∙ of_edge e
    among k (suc i) (e ∷ es) is =
        let ne : (k ≡ n.edge → ⊥) = λ g. omega arith in
        left-none (edge_rules v s at k e) (more_edges v s at (suc k) es) (beside_edge k e ne) ∙ among (suc k) i es (omega arith)

    -- the place

    of_entry : condition_in (entry v s at) n ≡ condition_in (named_entry v s n) n
    of_entry = by (eqb n.place 0)
      where
        slot : condition_in (entry_slot v s at n.slot) n ≡ condition_in (entry_slot w s at n.slot) n
        slot =
            let e = equation v s at 0 15 n.slot 0 0 (Equal (v.rho at n.slot) (s.pi (s.param_part n.slot))) in
            like-when (v.pointer n.slot) (e ++ each_field v s n.slot (closed_at v s at 0 15 at n.slot)) (e ++ each_field w s n.slot (closed_at w s at 0 15 at n.slot))
            (like-append e (each_field v s n.slot (closed_at v s at 0 15 at n.slot)) e (each_field w s n.slot (closed_at w s at 0 15 at n.slot)) refl (shuts at 0 15 at n.slot))

        by : (b : Bool) → condition_in (when b (gather s.params (entry_slot v s at))) n ≡ condition_in (when (b && nat_lt n.slot s.params) (entry_slot w s at n.slot)) n
        by true = at_slot 0 15 s.params (entry_slot v s at) (λ x. entry_of v s at x) ∙ like-when (nat_lt n.slot s.params) (entry_slot v s at n.slot) (entry_slot w s at n.slot) slot
        by false = refl

    of_shuts : condition_in (exit_closed v s at n.slot) n ≡ condition_in (exit_closed w s at n.slot) n
    of_shuts = like-when (is_live v s at n.slot) (each_field v s n.slot (closed_at v s at 0 18 at n.slot)) (each_field w s n.slot (closed_at w s at 0 18 at n.slot)) (shuts at 0 18 at n.slot)

    when-swap : (a b : Bool) (xs : List Constraint) → condition_in (when a (when b xs)) n ≡ condition_in (when b (when a xs)) n
    when-swap true true xs = refl
    when-swap true false xs = refl
    when-swap false true xs = refl
    when-swap false false xs = refl

    abbrev rets : List Constraint
    rets = gather v.slots (exit_ret v s at)

    abbrev owns : List Constraint
    owns = gather v.slots (exit_own v s at)

    abbrev ends : List Constraint
    ends = gather v.slots (exit_closed v s at)

    of_exit : 16 ≤ n.rule → n.rule ≤ 18 → condition_in (exit v s at) n ≡ condition_in (when (nat_lt n.slot v.slots) (when (eqb n.place (v.places - 1)) (named_exit v s n))) n
    of_exit from to =
        like-when (eqb n.place (v.places - 1)) ((rets ++ owns) ++ ends) (when (nat_lt n.slot v.slots) (named_exit v s n)) (by (eqb n.rule 16) refl (eqb n.rule 17) refl)
        ∙ when-swap (eqb n.place (v.places - 1)) (nat_lt n.slot v.slots) (named_exit v s n)
      where
        by : (a : Bool) → eqb n.rule 16 ≡ a → (b : Bool) → eqb n.rule 17 ≡ b
            → condition_in ((rets ++ owns) ++ ends) n ≡ condition_in (when (nat_lt n.slot v.slots) (cond a (exit_ret v s at n.slot) (cond b (exit_own v s at n.slot) (exit_closed w s at n.slot)))) n
        by true e b f =
            let is : n.rule ≡ 16 = eqb-true n.rule 16 e in
            right-none (rets ++ owns) ends (after 0 18 18 ends (omega arith) (shuts_in v s at))
            ∙ right-none rets owns (after 0 17 17 owns (omega arith) (owns_in v s at))
            ∙ at_slot 0 16 v.slots (exit_ret v s at) (λ x. ret_of v s at x)
        by false e true f =
            let is : n.rule ≡ 17 = eqb-true n.rule 17 f in
            right-none (rets ++ owns) ends (after 0 18 18 ends (omega arith) (shuts_in v s at))
            ∙ left-none rets owns (before 0 16 16 rets (omega arith) (rets_in v s at))
            ∙ at_slot 0 17 v.slots (exit_own v s at) (λ x. own_of v s at x)
        by false e false f =
            let ne : (n.rule ≡ 16 → ⊥) = eqb-false n.rule 16 e in
            let nf : (n.rule ≡ 17 → ⊥) = eqb-false n.rule 17 f in
            left-none (rets ++ owns) ends
            (left-none rets owns (before 0 16 16 rets (omega (arith, ne)) (rets_in v s at)) ∙ before 0 17 17 owns (omega (arith, ne, nf)) (owns_in v s at))
            ∙ at_slot 0 18 v.slots (exit_closed v s at) (λ x. closed_of v s at x)
            ∙ like-when (nat_lt n.slot v.slots) (exit_closed v s at n.slot) (exit_closed w s at n.slot) of_shuts

    abbrev bounds' : List Constraint
    bounds' = of_lines v s at 0 (gather v.slots (bound_lines v at))

    abbrev bases' : List Constraint
    bases' = of_lines v s at 0 (gather v.slots (one_base_lines v at))

    of_bounds : condition_in bounds' n ≡ condition_in (when (nat_lt n.slot v.slots) (of_lines v s at 0 (bound_lines w at n.slot))) n
    of_bounds =
        ap (λ cs. condition_in cs n) (flat_gather (of_line v s at 0) v.slots (bound_lines v at))
        ∙ at_slot 0 19 v.slots (λ y. of_lines v s at 0 (bound_lines v at y)) (λ y. bound_of v s at y)
        ∙ like-when (nat_lt n.slot v.slots) (of_lines v s at 0 (bound_lines v at n.slot)) (of_lines v s at 0 (bound_lines w at n.slot)) (bounds at 0 n.slot)

    of_bases : condition_in bases' n ≡ condition_in (when (nat_lt n.slot v.slots) (named_pair v s n)) n
    of_bases =
        ap (λ cs. condition_in cs n) (flat_gather (of_line v s at 0) v.slots (one_base_lines v at))
        ∙ at_slot 0 20 v.slots (λ y. of_lines v s at 0 (one_base_lines v at y)) (λ y. pairs_of v s at y)
        ∙ like-when (nat_lt n.slot v.slots) (of_lines v s at 0 (one_base_lines v at n.slot)) (named_pair v s n) (pairs at 0 n.slot)

    of_place : 15 ≤ n.rule → n.rule ≤ 20 → condition_in (place_rules v s at) n ≡ condition_in (named_place v s n) n
    of_place from to =
        ap (λ cs. condition_in ((entry v s at ++ exit v s at) ++ cs) n) (flat_append (of_line v s at 0) (gather v.slots (bound_lines v at)) (gather v.slots (one_base_lines v at)))
        ∙ by (eqb n.rule 15) refl (nat_lt n.rule 19) refl (eqb n.rule 19) refl
      where
        by : (a : Bool) → eqb n.rule 15 ≡ a → (b : Bool) → nat_lt n.rule 19 ≡ b → (d : Bool) → eqb n.rule 19 ≡ d
            → condition_in ((entry v s at ++ exit v s at) ++ (bounds' ++ bases')) n
            ≡ condition_in (cond a (named_entry v s n) (when (nat_lt n.slot v.slots) (cond b (when (eqb n.place (v.places - 1)) (named_exit v s n)) (cond d (of_lines v s at 0 (bound_lines w at n.slot)) (named_pair v s n))))) n
        by true e b f d g =
            let is : n.rule ≡ 15 = eqb-true n.rule 15 e in
            right-none (entry v s at ++ exit v s at) (bounds' ++ bases')
            (left-none bounds' bases' (after 0 19 19 bounds' (omega arith) (bounds_in v s at)) ∙ after 0 20 20 bases' (omega arith) (bases_in v s at))
            ∙ right-none (entry v s at) (exit v s at) (after 0 16 18 (exit v s at) (omega arith) (exit_in v s at)) ∙ of_entry
        by false e true f d g =
            let ne : (n.rule ≡ 15 → ⊥) = eqb-false n.rule 15 e in
            let lt : n.rule < 19 = ltb-true n.rule 19 f in
            right-none (entry v s at ++ exit v s at) (bounds' ++ bases')
            (left-none bounds' bases' (after 0 19 19 bounds' (omega arith) (bounds_in v s at)) ∙ after 0 20 20 bases' (omega arith) (bases_in v s at))
            ∙ left-none (entry v s at) (exit v s at) (before 0 15 15 (entry v s at) (omega (arith, ne)) (entry_in v s at)) ∙ of_exit (omega (arith, ne)) (omega arith)
        by false e false f true g =
            let is : n.rule ≡ 19 = eqb-true n.rule 19 g in
            left-none (entry v s at ++ exit v s at) (bounds' ++ bases')
            (left-none (entry v s at) (exit v s at) (before 0 15 15 (entry v s at) (omega arith) (entry_in v s at)) ∙ before 0 16 18 (exit v s at) (omega arith) (exit_in v s at))
            ∙ right-none bounds' bases' (after 0 20 20 bases' (omega arith) (bases_in v s at)) ∙ of_bounds
        by false e false f false g =
            let ge : 19 ≤ n.rule = ltb-false n.rule 19 f in
            let ne : (n.rule ≡ 19 → ⊥) = eqb-false n.rule 19 g in
            left-none (entry v s at ++ exit v s at) (bounds' ++ bases')
            (left-none (entry v s at) (exit v s at) (before 0 15 15 (entry v s at) (omega arith) (entry_in v s at)) ∙ before 0 16 18 (exit v s at) (omega arith) (exit_in v s at))
            ∙ left-none bounds' bases' (before 0 19 19 bounds' (omega (arith, ne)) (bounds_in v s at)) ∙ of_bases

    -- all of a place

    without_place : (es : List Edge) → (condition_in (place_rules v s at) n ≡ None) → condition_in (rules_with v s at es) n ≡ condition_in (more_edges v s at 0 es) n
    without_place [] h = h
    without_place (e ∷ es) h =
        like-append ((action_rules v s at 0 e.to e.action ++ place_rules v s at) ++ same v s at 0 e.to e.action) (more_edges v s at 1 es) (edge_rules v s at 0 e) (more_edges v s at 1 es)
        (like-append (action_rules v s at 0 e.to e.action ++ place_rules v s at) (same v s at 0 e.to e.action) (action_rules v s at 0 e.to e.action) (same v s at 0 e.to e.action)
        (right-none (action_rules v s at 0 e.to e.action) (place_rules v s at) h) refl) refl

    no_edge_rules : 15 ≤ n.rule → n.rule ≤ 20 → (k : ℕ) (e : Edge) → condition_in (edge_rules v s at k e) n ≡ None
    no_edge_rules from to k e =
        left-none (action_rules v s at k e.to e.action) (same v s at k e.to e.action) (before k 1 14 (action_rules v s at k e.to e.action) (omega arith) (action_in v s at k e.to e.action))
        ∙ after k 21 21 (same v s at k e.to e.action) (omega arith) (same_in v s at k e.to e.action)

    no_more_edges : 15 ≤ n.rule → n.rule ≤ 20 → (k : ℕ) (es : List Edge) → condition_in (more_edges v s at k es) n ≡ None
    no_more_edges from to k [] = refl
    no_more_edges from to k (e ∷ es) = left-none (edge_rules v s at k e) (more_edges v s at (suc k) es) (no_edge_rules from to k e) ∙ no_more_edges from to (suc k) es

    place_alone : 15 ≤ n.rule → n.rule ≤ 20 → (es : List Edge) → condition_in (rules_with v s at es) n ≡ condition_in (place_rules v s at) n
    place_alone from to [] = refl
    place_alone from to (e ∷ es) =
        right-none ((action_rules v s at 0 e.to e.action ++ place_rules v s at) ++ same v s at 0 e.to e.action) (more_edges v s at 1 es) (no_more_edges from to 1 es)
        ∙ right-none (action_rules v s at 0 e.to e.action ++ place_rules v s at) (same v s at 0 e.to e.action) (after 0 21 21 (same v s at 0 e.to e.action) (omega arith) (same_in v s at 0 e.to e.action))
        ∙ left-none (action_rules v s at 0 e.to e.action) (place_rules v s at) (before 0 1 14 (action_rules v s at 0 e.to e.action) (omega arith) (action_in v s at 0 e.to e.action))

    pub alone : condition_in (constraints_at v s n.place) n ≡ condition_in (named_at v s n) n
    alone = by (nat_lt 14 n.rule) refl (nat_lt n.rule 21) refl (eqb n.edge 0) refl
      where
        by : (a : Bool) → nat_lt 14 n.rule ≡ a → (b : Bool) → nat_lt n.rule 21 ≡ b → (d : Bool) → eqb n.edge 0 ≡ d
            → condition_in (rules_with v s at (s.edges n.place)) n ≡ condition_in (cond (a && b) (when d (named_place v s n)) (named_among v s n (s.edges n.place) n.edge)) n
        by true e true f true g =
            let from : 14 < n.rule = ltb-true 14 n.rule e in
            let to : n.rule < 21 = ltb-true n.rule 21 f in
            place_alone (omega arith) (omega arith) (s.edges n.place) ∙ of_place (omega arith) (omega arith)
        by true e true f false g =
            let from : 14 < n.rule = ltb-true 14 n.rule e in
            let to : n.rule < 21 = ltb-true n.rule 21 f in
            let ne : (0 ≡ n.edge → ⊥) = λ h. eqb-false n.edge 0 g (sym h) in
            place_alone (omega arith) (omega arith) (s.edges n.place) ∙ beside 0 15 20 (place_rules v s at) ne (place_in v s at)
        by true e false f d g =
            let ge : 21 ≤ n.rule = ltb-false n.rule 21 f in
            let start : 0 + n.edge ≡ n.edge = omega arith in
            without_place (s.edges n.place) (before 0 15 20 (place_rules v s at) (omega arith) (place_in v s at)) ∙ among 0 n.edge (s.edges n.place) start
        by false e b f d g =
            let le : n.rule ≤ 14 = ltb-false 14 n.rule e in
            let start : 0 + n.edge ≡ n.edge = omega arith in
            without_place (s.edges n.place) (after 0 15 20 (place_rules v s at) (omega arith) (place_in v s at)) ∙ among 0 n.edge (s.edges n.place) start
