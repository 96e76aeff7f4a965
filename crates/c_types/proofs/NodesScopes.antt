-- The slots that statements add.
use Rattle.std.proofs.Common.{◌≡◌, ℕ, ◌+◌, ◌<◌, ◌≤◌, List, [], ◌∷◌, ◌++◌, length, Some, slice_get, refl, sym, ap, ◌∙◌, arith, append-nil, append_assoc, length-append}
use Rattle.std.proofs.lemmas.Option.{slice_get_within}
use Rattle.c_tree.specs.Plain.{Stmt, block, local, local_as, assign, do_call, free, when, when_else, while, for, break, continue, return, return_of, nothing, Stmts, no_stmts, stmt}
use Rattle.c_tree.specs.Nodes.{node_count, stmt_count, stmts_count}
use Rattle.c_tree.specs.Formed.{IsBlock}
use Rattle.c_types.specs.declared.infos.SlotInfo.{SlotInfo}
use Rattle.c_types.specs.declared.tables.Tables.{Tables}
use Rattle.c_types.specs.declared.scope.Scope.{Scope}
use Rattle.c_types.specs.Scopes.{entered, left}
use Rattle.c_types.specs.Stmts.{after, after_all}
use Rattle.c_types.specs.Items.{body_after}
use Rattle.c_types.specs.Fits.{Body}
use Rattle.c_types.proofs.NodesLists.{slice_get-front}

-- these slots, and at most n more
pub record Extends (slots longer : List SlotInfo) (n : ℕ) : Type 0 where
  pub more : List SlotInfo
  pub is : longer ≡ slots ++ more
  pub few : length more ≤ n

none_more : (slots : List SlotInfo) (n : ℕ) → Extends slots slots n
none_more slots n = record { more = []; is = sym (append-nil slots); few = omega arith }

one_more : (slots : List SlotInfo) (v : SlotInfo) (n : ℕ) → Extends slots (slots ++ v ∷ []) (n + 1)
one_more slots v n = record { more = v ∷ []; is = refl; few = omega arith }

fewer : (slots longer : List SlotInfo) (m n : ℕ) → m ≤ n → Extends slots longer m → Extends slots longer n
fewer slots longer m n le x = record { more = x.more; is = x.is; few = omega (arith, x.few) }

both : (slots longer longest : List SlotInfo) (l m n : ℕ) → l + m ≤ n → Extends slots longer l → Extends longer longest m → Extends slots longest n
both slots longer longest l m n le x y = record {
  more = x.more ++ y.more;
  is = y.is ∙ ap (λ vs. vs ++ y.more) x.is ∙ append_assoc slots x.more y.more;
  few = omega (arith, x.few, y.few, length-append x.more y.more);
}

mutual
  pub grows : (c : Tables) (s : Scope) (st : Stmt) → Extends s.slots (after c s st).slots (stmt_count st)
  grows c s (block at sts) = fewer s.slots _ (stmts_count sts) _ (omega arith) (grows_all c (entered s) sts)
  grows c s (local at x t) = one_more s.slots _ 0
  grows c s (local_as at x t e) = one_more s.slots _ (node_count e)
  grows c s (assign at a e) = none_more s.slots _
  grows c s (do_call at e) = none_more s.slots _
  grows c s (free at e) = none_more s.slots _
  grows c s (when at e st) = fewer s.slots _ (stmt_count st) _ (omega arith) (grows c s st)
  grows c s (when_else at e st su) = both s.slots (after c s st).slots _ (stmt_count st) (stmt_count su) _ (omega arith) (grows c s st) (grows c (left s (after c s st)) su)
  grows c s (while at e st) = fewer s.slots _ (stmt_count st) _ (omega arith) (grows c s st)
  grows c s (for at init e step st) =
      let first = after_all c (entered s) init in
      let last = after_all c first step in
      both s.slots last.slots _ (stmts_count init + stmts_count step) (stmt_count st) _ (omega arith)
      (both s.slots first.slots last.slots (stmts_count init) (stmts_count step) _ (omega arith) (grows_all c (entered s) init) (grows_all c first step))
      (grows c (left first last) st)
  grows c s (break at) = none_more s.slots _
  grows c s (continue at) = none_more s.slots _
  grows c s (return at) = none_more s.slots _
  grows c s (return_of at e) = none_more s.slots _
  grows c s (nothing at) = none_more s.slots _

  pub grows_all : (c : Tables) (s : Scope) (sts : Stmts) → Extends s.slots (after_all c s sts).slots (stmts_count sts)
  grows_all c s no_stmts = none_more s.slots 0
  grows_all c s (stmt st sts) = both s.slots (after c s st).slots _ (stmt_count st) (stmts_count sts) _ (omega arith) (grows c s st) (grows_all c (after c s st) sts)

-- fewer locals than nodes, and the slots before among them
body_grows : (c : Tables) (s : Scope) (sts : Stmts) (n : ℕ) → stmts_count sts < n
    → (length (after_all c s sts).slots < length s.slots + n) × (length s.slots ≤ length (after_all c s sts).slots)
body_grows c s sts n lt =
    let x = grows_all c s sts in
    let long : length (after_all c s sts).slots ≡ length s.slots + length x.more = ap length x.is ∙ length-append s.slots x.more in
    (omega (arith, x.few, long), omega (arith, long))

pub body_locals : (c : Tables) (s : Scope) (st : Stmt) → IsBlock st
    → (length (body_after c s (Some st)).slots < length s.slots + stmt_count st) × (length s.slots ≤ length (body_after c s (Some st)).slots)
body_locals c s (block at sts) is = body_grows c s sts (stmts_count sts + 1) (omega arith)
body_locals c s (local at x t) is = absurd is
body_locals c s (local_as at x t e) is = absurd is
body_locals c s (assign at a e) is = absurd is
body_locals c s (do_call at e) is = absurd is
body_locals c s (free at e) is = absurd is
body_locals c s (when at e st) is = absurd is
body_locals c s (when_else at e st su) is = absurd is
body_locals c s (while at e st) is = absurd is
body_locals c s (for at init e step st) is = absurd is
body_locals c s (break at) is = absurd is
body_locals c s (continue at) is = absurd is
body_locals c s (return at) is = absurd is
body_locals c s (return_of at e) is = absurd is
body_locals c s (nothing at) is = absurd is

pub still_there : (slots longer : List SlotInfo) (n : ℕ) → Extends slots longer n → (i : ℕ) (v : SlotInfo) → slice_get slots i ≡ Some v → slice_get longer i ≡ Some v
still_there slots longer n x i v e = ap (λ vs. slice_get vs i) x.is ∙ slice_get-front slots x.more i (slice_get_within slots i v e) ∙ e

-- a body's first slots, and its variables, are these and maybe more
pub record HoldsSlots (b : Body) (slots : List SlotInfo) : Type 0 where
  pub same : (i : ℕ) (v : SlotInfo) → slice_get slots i ≡ Some v → slice_get b.slots i ≡ Some v.kind
  pub count : length slots ≤ b.variables

pub holds_before : (b : Body) (slots longer : List SlotInfo) (n : ℕ) → Extends slots longer n → HoldsSlots b longer → HoldsSlots b slots
holds_before b slots longer n x h =
    let long : length longer ≡ length slots + length x.more = ap length x.is ∙ length-append slots x.more in
    record { same = λ i v e. h.same i v (still_there slots longer n x i v e); count = omega (arith, h.count, long) }
