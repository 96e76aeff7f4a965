-- Which temporaries the edges of statements name, and how few they are.
use Rattle.std.proofs.Common.{◌≡◌, ℕ, ◌+◌, ◌<◌, ◌≤◌, Bool, true, false, zero, suc, List, [], ◌∷◌, ◌++◌, length, refl, arith, length-append, ⊎_elim, add-zero}
use Rattle.std.specs.Prelude.{pos}
use Rattle.std.proofs.Math.Nat.{eq-or-lt_of_le}
use Rattle.std.specs.List.{All}
use Rattle.std.proofs.lemmas.List.Elements.{All-cons, All-head, All-tail, All-nil}
use Rattle.c_tree.specs.declared.position.Place.{Place}
use Rattle.c_tree.specs.declared.position.Place.TheVariants as place
use Rattle.c_tree.specs.Plain.{Expr, name, arrow, index, Exprs, no_exprs, expr, Stmt, block, local, local_as, assign, do_call, free, when, when_else, while, for, break, continue, return, return_of, nothing, Stmts, no_stmts, stmt}
use Rattle.c_tree.specs.Nodes.{node_count, node_count_of, stmt_count, stmts_count}
use Rattle.c_types.specs.declared.infos.NodeInfo.{NodeInfo}
use Rattle.flow_graph.specs.declared.raw.Slot.{Slot}
use Rattle.flow_graph.specs.declared.raw.Slot.TheVariants as slot
use Rattle.flow_graph.specs.declared.raw.RawAction.{RawAction}
use Rattle.flow_graph.specs.declared.raw.RawAction.TheVariants as act
use Rattle.flow_graph.specs.Parts.{Part, ending, one, before, in_turn, var_at, temp, is_pointer_at, refers_at}
use Rattle.flow_graph.specs.Numbers.{slots_in}
use Rattle.flow_graph.specs.Edges.{ways, operand, slot_of, valued, decided, stored, assigned, turns, headed, turned, looped, flow, flow_all, closing, body_edges}
use Rattle.flow_graph.proofs.RawFits.{Adds}
use Rattle.flow_graph.proofs.Adds.{if_holds, all_one, all_two, all_three, adds_ending, adds_one, adds_before, adds_in_turn, adds_stepped}
use Rattle.flow_graph.proofs.Temps.{Names, AreTemps, WaysName, ways_name, names_slot, names_operand, names_operands, some_nodes}

-- the temporaries of so many nodes from n on
abbrev pub temps_from : List NodeInfo → ℕ → ℕ → ℕ → List Slot
temps_from is base n zero = []
temps_from is base n (suc c) = temp is base n ∷ temps_from is base (n + 1) c

-- those of an expression whose first node is the first of its statement
abbrev pub expr_temps : List NodeInfo → ℕ → ℕ → List Slot
expr_temps is n c = temps_from is n n c

-- the temporaries of the expression nodes of statement n
abbrev mutual
  pub stmt_temps : List NodeInfo → ℕ → Stmt → List Slot
  stmt_temps is n (block at ss) = stmts_temps is (n + 1) ss
  stmt_temps is n (local at x t) = []
  stmt_temps is n (local_as at x t e) = expr_temps is (n + 1) (node_count e)
  stmt_temps is n (assign at a e) = expr_temps is (n + 1) (node_count a + node_count e)
  stmt_temps is n (do_call at e) = expr_temps is (n + 1) (node_count e)
  stmt_temps is n (free at e) = expr_temps is (n + 1) (node_count e)
  stmt_temps is n (when at c s) = expr_temps is (n + 1) (node_count c) ++ stmt_temps is (n + 1 + node_count c) s
  stmt_temps is n (when_else at c s t) =
      expr_temps is (n + 1) (node_count c) ++ stmt_temps is (n + 1 + node_count c) s ++ stmt_temps is (n + 1 + node_count c + stmt_count s) t
  stmt_temps is n (while at c s) = expr_temps is (n + 1) (node_count c) ++ stmt_temps is (n + 1 + node_count c) s
  stmt_temps is n (for at init c step s) =
      stmts_temps is (n + 1) init ++ expr_temps is (n + 1 + stmts_count init) (node_count_of c)
      ++ stmts_temps is (n + 1 + stmts_count init + node_count_of c) step
      ++ stmt_temps is (n + 1 + stmts_count init + node_count_of c + stmts_count step) s
  stmt_temps is n (break at) = []
  stmt_temps is n (continue at) = []
  stmt_temps is n (return at) = []
  stmt_temps is n (return_of at e) = expr_temps is (n + 1) (node_count e)
  stmt_temps is n (nothing at) = []

  pub stmts_temps : List NodeInfo → ℕ → Stmts → List Slot
  stmts_temps is n no_stmts = []
  stmts_temps is n (stmt s ss) = stmt_temps is n s ++ stmts_temps is (n + stmt_count s) ss

temps_count : (is : List NodeInfo) (base n c : ℕ) → length (temps_from is base n c) ≡ c
temps_count is base n zero = refl
temps_count is base n (suc c) = omega (arith, temps_count is base (n + 1) c)

-- one for each node at most
mutual
  pub stmt_temps_few : (is : List NodeInfo) (n : ℕ) (s : Stmt) → length (stmt_temps is n s) < stmt_count s
  stmt_temps_few is n (block at ss) = omega (arith, stmts_temps_few is (n + 1) ss)
  stmt_temps_few is n (local at x t) = omega arith
  stmt_temps_few is n (local_as at x t e) = omega (arith, temps_count is (n + 1) (n + 1) (node_count e))
  stmt_temps_few is n (assign at a e) = omega (arith, temps_count is (n + 1) (n + 1) (node_count a + node_count e))
  stmt_temps_few is n (do_call at e) = omega (arith, temps_count is (n + 1) (n + 1) (node_count e))
  stmt_temps_few is n (free at e) = omega (arith, temps_count is (n + 1) (n + 1) (node_count e))
  stmt_temps_few is n (when at c s) =
      omega (
        arith,
        temps_count is (n + 1) (n + 1) (node_count c),
        stmt_temps_few is (n + 1 + node_count c) s,
        length-append (expr_temps is (n + 1) (node_count c)) (stmt_temps is (n + 1 + node_count c) s),
      )
  stmt_temps_few is n (when_else at c s t) =
      omega (
        arith,
        temps_count is (n + 1) (n + 1) (node_count c),
        stmt_temps_few is (n + 1 + node_count c) s,
        stmt_temps_few is (n + 1 + node_count c + stmt_count s) t,
        length-append (expr_temps is (n + 1) (node_count c) ++ stmt_temps is (n + 1 + node_count c) s) (stmt_temps is (n + 1 + node_count c + stmt_count s) t),
        length-append (expr_temps is (n + 1) (node_count c)) (stmt_temps is (n + 1 + node_count c) s),
      )
  stmt_temps_few is n (while at c s) =
      omega (
        arith,
        temps_count is (n + 1) (n + 1) (node_count c),
        stmt_temps_few is (n + 1 + node_count c) s,
        length-append (expr_temps is (n + 1) (node_count c)) (stmt_temps is (n + 1 + node_count c) s),
      )
  stmt_temps_few is n (for at init c step s) =
      let m : ℕ = n + 1 + stmts_count init in
      let k : ℕ = m + node_count_of c in
      let l : ℕ = k + stmts_count step in
      omega (
        arith,
        stmts_temps_few is (n + 1) init,
        temps_count is m m (node_count_of c),
        stmts_temps_few is k step,
        stmt_temps_few is l s,
        length-append (stmts_temps is (n + 1) init ++ expr_temps is m (node_count_of c) ++ stmts_temps is k step) (stmt_temps is l s),
        length-append (stmts_temps is (n + 1) init ++ expr_temps is m (node_count_of c)) (stmts_temps is k step),
        length-append (stmts_temps is (n + 1) init) (expr_temps is m (node_count_of c)),
      )
  stmt_temps_few is n (break at) = omega arith
  stmt_temps_few is n (continue at) = omega arith
  stmt_temps_few is n (return at) = omega arith
  stmt_temps_few is n (return_of at e) = omega (arith, temps_count is (n + 1) (n + 1) (node_count e))
  stmt_temps_few is n (nothing at) = omega arith

  pub stmts_temps_few : (is : List NodeInfo) (n : ℕ) (ss : Stmts) → length (stmts_temps is n ss) ≤ stmts_count ss
  stmts_temps_few is n no_stmts = omega arith
  stmts_temps_few is n (stmt s ss) =
      omega (arith, stmt_temps_few is n s, stmts_temps_few is (n + stmt_count s) ss, length-append (stmt_temps is n s) (stmts_temps is (n + stmt_count s) ss))

all_left : {X : Type 0} (P : X → Type 0) (xs ys : List X) → All P (xs ++ ys) → All P xs
all_left P [] ys h = All-nil P
all_left P (x ∷ xs) ys h = All-cons P x xs (All-head P x (xs ++ ys) h) (all_left P xs ys (All-tail P x (xs ++ ys) h))

all_right : {X : Type 0} (P : X → Type 0) (xs ys : List X) → All P (xs ++ ys) → All P ys
all_right P [] ys h = h
all_right P (x ∷ xs) ys h = all_right P xs ys (All-tail P x (xs ++ ys) h)

module _ (P : Slot → Type 0) (is : List NodeInfo) where
  temps_are : (base n c : ℕ) → All P (temps_from is base n c) → AreTemps P is base n c
  temps_are base n zero h m l k = absurd (omega (arith, l, k))
  temps_are base n (suc c) h m l k =
      ⊎_elim (λ (e : n ≡ m). rw (← e) (All-head P (temp is base n) (temps_from is base (n + 1) c) h))
      (λ (e : n < m). temps_are base (n + 1) c (All-tail P (temp is base n) (temps_from is base (n + 1) c) h) m (omega (arith, l, e)) (omega (arith, k)))
      (eq-or-lt_of_le l)

-- the edges of a body
module _ (P : Slot → Type 0) (vars : (y : ℕ) → P (slot.Var y)) (ret : P slot.Ret) (is : List NodeInfo) where
  expr_ways : (n : ℕ) (e : Expr) → All P (expr_temps is n (node_count e)) → WaysName P (ways is n n e)
  expr_ways n e h = ways_name P vars is n n e (temps_are P is n n (node_count e) h)

  names_decided : (n : ℕ) (e : Expr) (t f : Place) → All P (expr_temps is n (node_count e)) → Adds (Names P) (decided is n e t f)
  names_decided n e t f h = (expr_ways n e h).test t f

  names_valued : (n : ℕ) (e : Expr) (x : Slot) (q : Place) → All P (expr_temps is n (node_count e)) → P x → Adds (Names P) (valued is n e x q)
  names_valued n e x q h p = (expr_ways n e h).run x p q

  names_stored : (n : ℕ) (b x : Slot) → P b → P x → All P (slots_in (stored is n b x))
  names_stored n b x p r =
      if_holds (λ (a : RawAction). All P (slots_in a)) (is_pointer_at is n) (act.Store b (refers_at is n) x) (act.Put b (refers_at is n) x) (all_two P b x p r) (all_two P b x p r)

  names_assigned : (n : ℕ) (t e : Expr) (q : Place) → All P (expr_temps is (n + 1) (node_count t + node_count e)) → Adds (Names P) (assigned is n t e q)
  names_assigned n (name at y) e q h =
      let k = temps_are P is (n + 1) (n + 1) (1 + node_count e) h in
      (ways_name P vars is (n + 1) (n + 2) e (λ m l j. k m (omega (arith, l)) (omega (arith, j)))).run (var_at is (n + 1)) (vars _) q
  names_assigned n (arrow at b f) e q h =
      let m : ℕ = n + 1 + node_count (arrow at b f) in
      let k = temps_are P is (n + 1) (n + 1) (node_count b + 1 + node_count e) h in
      let v = ways_name P vars is (n + 1) m e (λ i l j. k i (omega (arith, l)) (omega (arith, j))) in
      let w = ways_name P vars is (n + 1) (n + 2) b (λ i l j. k i (omega (arith, l)) (omega (arith, j))) in
      let s = k m (omega arith) (omega (arith, some_nodes e)) in
      let t = k (n + 2) (omega arith) (omega (arith, some_nodes b)) in
      adds_stepped (Names P) (in_turn (operand is (n + 1) m e (ways is (n + 1) m e)) (operand is (n + 1) (n + 2) b (ways is (n + 1) (n + 2) b))) n
      (stored is (n + 1) (slot_of is (n + 1) (n + 2) b) (slot_of is (n + 1) m e)) q
      (λ r. names_operands P vars is (n + 1) r m (n + 2) e b (ways is (n + 1) m e) (ways is (n + 1) (n + 2) b) s t v w)
      (names_stored (n + 1) (slot_of is (n + 1) (n + 2) b) (slot_of is (n + 1) m e) (names_slot P vars is (n + 1) (n + 2) b t) (names_slot P vars is (n + 1) m e s))
  names_assigned n (index at b i) e q h =
      let m : ℕ = n + 1 + node_count (index at b i) in
      let l : ℕ = n + 2 + node_count b in
      let k = temps_are P is (n + 1) (n + 1) (node_count b + node_count i + 1 + node_count e) h in
      let v = ways_name P vars is (n + 1) m e (λ o p j. k o (omega (arith, p)) (omega (arith, j))) in
      let w = ways_name P vars is (n + 1) (n + 2) b (λ o p j. k o (omega (arith, p)) (omega (arith, j))) in
      let u = ways_name P vars is (n + 1) l i (λ o p j. k o (omega (arith, p)) (omega (arith, j))) in
      let s = k m (omega arith) (omega (arith, some_nodes e)) in
      let t = k (n + 2) (omega arith) (omega (arith, some_nodes b)) in
      let z = k l (omega arith) (omega (arith, some_nodes i)) in
      adds_stepped (Names P)
      (in_turn (operand is (n + 1) m e (ways is (n + 1) m e)) (in_turn (operand is (n + 1) (n + 2) b (ways is (n + 1) (n + 2) b)) (operand is (n + 1) l i (ways is (n + 1) l i)))) n
      (act.PutAt (slot_of is (n + 1) (n + 2) b) (slot_of is (n + 1) l i) (slot_of is (n + 1) m e)) q
      (λ r. adds_in_turn (Names P) (operand is (n + 1) m e (ways is (n + 1) m e))
      (in_turn (operand is (n + 1) (n + 2) b (ways is (n + 1) (n + 2) b)) (operand is (n + 1) l i (ways is (n + 1) l i))) r
      (λ p. names_operand P vars is (n + 1) m e (ways is (n + 1) m e) p s v)
      (names_operands P vars is (n + 1) r (n + 2) l b i (ways is (n + 1) (n + 2) b) (ways is (n + 1) l i) t z w u))
      (all_three P (slot_of is (n + 1) (n + 2) b) (slot_of is (n + 1) l i) (slot_of is (n + 1) m e)
      (names_slot P vars is (n + 1) (n + 2) b t) (names_slot P vars is (n + 1) l i z) (names_slot P vars is (n + 1) m e s))
  names_assigned n _ e q h = adds_ending (Names P) q

  names_turns : (m : ℕ) (c : Exprs) (t f : Place) → All P (expr_temps is m (node_count_of c)) → Adds (Names P) (turns is m c t f)
  names_turns m no_exprs t f h = adds_ending (Names P) t
  names_turns m (expr c cs) t f h =
      let k = temps_are P is m m (node_count c + node_count_of cs) h in
      (ways_name P vars is m m c (λ i l j. k i l (omega (arith, j)))).test t f

  names_headed : (n m : ℕ) (c : Exprs) (t f : Place) → All P (expr_temps is m (node_count_of c)) → Adds (Names P) (headed is n m c t f)
  names_headed n m c t f h =
      adds_before (Names P) (one (place.At n 0) act.Skip (turns is m c t f).start) (turns is m c t f)
      (adds_one (Names P) (place.At n 0) (turns is m c t f).start act.Skip (All-nil P)) (names_turns m c t f h)

  names_turned : (n : ℕ) (body : Place → Place → Place → Part) (step : Place → Part) (q : Place)
      → ((bk ct next : Place) → Adds (Names P) (body bk ct next)) → ((p : Place) → Adds (Names P) (step p)) → Adds (Names P) (turned n body step q)
  names_turned n body step q b s =
      let next : Part = step (place.At n 0) in
      adds_before (Names P) (body q next.start next.start) next (b q next.start next.start) (s (place.At n 0))

  names_looped : (n m : ℕ) (c : Exprs) (body : Place → Place → Place → Part) (step : Place → Part) (q : Place) → All P (expr_temps is m (node_count_of c))
      → ((bk ct next : Place) → Adds (Names P) (body bk ct next)) → ((p : Place) → Adds (Names P) (step p)) → Adds (Names P) (looped is n m c body step q)
  names_looped n m c body step q h b s =
      let turn : Part = turned n body step q in
      adds_before (Names P) (headed is n m c turn.start q) turn (names_headed n m c turn.start q h) (names_turned n body step q b s)

  mutual
    names_flow : (bk ct : Place) (n : ℕ) (s : Stmt) (q : Place) → All P (stmt_temps is n s) → Adds (Names P) (flow is bk ct n s q)
    names_flow bk ct n (block at ss) q h = names_flow_all bk ct (n + 1) ss q h
    names_flow bk ct n (nothing at) q h = adds_ending (Names P) q
    names_flow bk ct n (local at x t) q h = adds_one (Names P) (place.At n 0) q (act.Unset (var_at is n)) (all_one P (var_at is n) (vars _))
    names_flow bk ct n (local_as at x t e) q h =
        adds_in_turn (Names P) (one (place.At n 0) (act.Unset (var_at is n))) (valued is (n + 1) e (var_at is n)) q
        (λ p. adds_one (Names P) (place.At n 0) p (act.Unset (var_at is n)) (all_one P (var_at is n) (vars _)))
        (names_valued (n + 1) e (var_at is n) q h (vars _))
    names_flow bk ct n (assign at t e) q h = names_assigned n t e q h
    names_flow bk ct n (do_call at e) q h =
        names_valued (n + 1) e (temp is (n + 1) (n + 1)) q h (temps_are P is (n + 1) (n + 1) (node_count e) h (n + 1) (omega arith) (omega (arith, some_nodes e)))
    names_flow bk ct n (free at e) q h =
        let t = temps_are P is (n + 1) (n + 1) (node_count e) h (n + 1) (omega arith) (omega (arith, some_nodes e)) in
        adds_stepped (Names P) (operand is (n + 1) (n + 1) e (ways is (n + 1) (n + 1) e)) n (act.Free (slot_of is (n + 1) (n + 1) e)) q
        (λ r. names_operand P vars is (n + 1) (n + 1) e (ways is (n + 1) (n + 1) e) r t (expr_ways (n + 1) e h))
        (all_one P (slot_of is (n + 1) (n + 1) e) (names_slot P vars is (n + 1) (n + 1) e t))
    names_flow bk ct n (when at c s) q h =
        let first : Part = flow is bk ct (n + 1 + node_count c) s q in
        adds_before (Names P) (decided is (n + 1) c first.start q) first
        (names_decided (n + 1) c first.start q (all_left P (expr_temps is (n + 1) (node_count c)) (stmt_temps is (n + 1 + node_count c) s) h))
        (names_flow bk ct (n + 1 + node_count c) s q (all_right P (expr_temps is (n + 1) (node_count c)) (stmt_temps is (n + 1 + node_count c) s) h))
    names_flow bk ct n (when_else at c s t) q h =
        let k : ℕ = n + 1 + node_count c in
        let first : Part = flow is bk ct k s q in
        let second : Part = flow is bk ct (k + stmt_count s) t q in
        let cs = all_left P (expr_temps is (n + 1) (node_count c) ++ stmt_temps is k s) (stmt_temps is (k + stmt_count s) t) h in
        adds_before (Names P) (decided is (n + 1) c first.start second.start) (before first second)
        (names_decided (n + 1) c first.start second.start (all_left P (expr_temps is (n + 1) (node_count c)) (stmt_temps is k s) cs))
        (adds_before (Names P) first second (names_flow bk ct k s q (all_right P (expr_temps is (n + 1) (node_count c)) (stmt_temps is k s) cs))
        (names_flow bk ct (k + stmt_count s) t q (all_right P (expr_temps is (n + 1) (node_count c) ++ stmt_temps is k s) (stmt_temps is (k + stmt_count s) t) h)))
    names_flow bk ct n (while at c s) q h =
        names_looped n (n + 1) (expr c no_exprs) (λ b d next. flow is b d (n + 1 + node_count c) s next) ending q
        (rw add-zero (all_left P (expr_temps is (n + 1) (node_count c)) (stmt_temps is (n + 1 + node_count c) s) h))
        (λ b d next. names_flow b d (n + 1 + node_count c) s next (all_right P (expr_temps is (n + 1) (node_count c)) (stmt_temps is (n + 1 + node_count c) s) h))
        (λ p. adds_ending (Names P) p)
    names_flow bk ct n (for at init c step s) q h =
        let m : ℕ = n + 1 + stmts_count init in
        let k : ℕ = m + node_count_of c in
        let l : ℕ = k + stmts_count step in
        let ab = stmts_temps is (n + 1) init ++ expr_temps is m (node_count_of c) in
        let abc = all_left P (ab ++ stmts_temps is k step) (stmt_temps is l s) h in
        let hab = all_left P ab (stmts_temps is k step) abc in
        adds_in_turn (Names P) (flow_all is bk ct (n + 1) init)
        (looped is n m c (λ b d next. flow is b d l s next) (flow_all is bk ct k step)) q
        (λ p. names_flow_all bk ct (n + 1) init p (all_left P (stmts_temps is (n + 1) init) (expr_temps is m (node_count_of c)) hab))
        (names_looped n m c (λ b d next. flow is b d l s next) (flow_all is bk ct k step) q
        (all_right P (stmts_temps is (n + 1) init) (expr_temps is m (node_count_of c)) hab)
        (λ b d next. names_flow b d l s next (all_right P (ab ++ stmts_temps is k step) (stmt_temps is l s) h))
        (λ p. names_flow_all bk ct k step p (all_right P ab (stmts_temps is k step) abc)))
    names_flow bk ct n (break at) q h = adds_ending (Names P) bk
    names_flow bk ct n (continue at) q h = adds_ending (Names P) ct
    names_flow bk ct n (return at) q h = adds_ending (Names P) place.Out
    names_flow bk ct n (return_of at e) q h = names_valued (n + 1) e slot.Ret place.Out h ret

    names_flow_all : (bk ct : Place) (n : ℕ) (ss : Stmts) (q : Place) → All P (stmts_temps is n ss) → Adds (Names P) (flow_all is bk ct n ss q)
    names_flow_all bk ct n no_stmts q h = adds_ending (Names P) q
    names_flow_all bk ct n (stmt s ss) q h =
        adds_in_turn (Names P) (flow is bk ct n s) (flow_all is bk ct (n + stmt_count s) ss) q
        (λ p. names_flow bk ct n s p (all_left P (stmt_temps is n s) (stmts_temps is (n + stmt_count s) ss) h))
        (names_flow_all bk ct (n + stmt_count s) ss q (all_right P (stmt_temps is n s) (stmts_temps is (n + stmt_count s) ss) h))

  names_closing : (main : Bool) → Adds (Names P) (closing main)
  names_closing false = adds_ending (Names P) place.Out
  names_closing true = adds_one (Names P) place.End place.Out (act.Set slot.Ret (pos 0)) (all_one P slot.Ret ret)

  pub names_body : (main : Bool) (s : Stmt) → All P (stmt_temps is 0 s) → All (Names P) (body_edges main is s)
  names_body main s h =
      let body : Part = flow is place.Out place.Out 0 s (closing main).start in
      adds_one (Names P) place.In body.start act.Skip (All-nil P) (body.after ((closing main).after []))
      (names_flow place.Out place.Out 0 s (closing main).start h ((closing main).after []) (names_closing main [] (All-nil (Names P))))
