-- The rules of statements, what they declare, and what each node of one is.
use Rattle.std.specs.Prelude.{ℕ, List, [], ◌∷◌, ◌++◌, length, Bool, true, false, not, Option, Some, None, is_some}
use Rattle.c_tree.specs.Plain.{Exprs, no_exprs, expr, Stmt, block, local, local_as, assign, do_call, free, when, when_else, while, for, break, continue, return, return_of, nothing, Stmts, no_stmts, stmt}
use Rattle.c_types.specs.declared.kinds.SlotType.{SlotType}
use Rattle.c_types.specs.declared.kinds.Wanted.TheVariants as wanted
use Rattle.c_types.specs.declared.infos.NodeInfo.{NodeInfo}
use Rattle.c_types.specs.declared.tables.Tables.{Tables}
use Rattle.c_types.specs.declared.scope.Scope.{Scope}
use Rattle.c_types.specs.Breaches.{Gathering, breach_if}
use Rattle.c_types.specs.Types.{slot_type, type_of, wanted_for, breaks_12, breaks_13, breaks_15, breaks_16}
use Rattle.c_types.specs.Scopes.{declared, entered, left, breaks_5}
use Rattle.c_types.specs.Exprs.{operand_of, breaches, infos}

-- what is declared after a statement; only a declaration makes a variable more visible
abbrev mutual
  pub after : Tables → Scope → Stmt → Scope
  after c s (block at sts) = left s (after_all c (entered s) sts)
  after c s (local at x t) = declared s x (slot_type c.tags t) at
  after c s (local_as at x t e) = declared s x (slot_type c.tags t) at
  after c s (assign at a e) = s
  after c s (do_call at e) = s
  after c s (free at e) = s
  after c s (when at e st) = left s (after c s st)
  after c s (when_else at e st su) = left s (after c (left s (after c s st)) su)
  after c s (while at e st) = left s (after c s st)
  after c s (for at init e step st) =
      left s (after c (left (after_all c (entered s) init) (after_all c (after_all c (entered s) init) step)) st)
  after c s (break at) = s
  after c s (continue at) = s
  after c s (return at) = s
  after c s (return_of at e) = s
  after c s (nothing at) = s

  pub after_all : Tables → Scope → Stmts → Scope
  after_all c s no_stmts = s
  after_all c s (stmt st sts) = after_all c (after c s st) sts

-- 12: of the condition of a for statement, where there is one
abbrev pub breaks_12_for : Tables → Scope → Exprs → Bool
breaks_12_for c s no_exprs = false
breaks_12_for c s (expr e es) = breaks_12 (operand_of c s e)

-- 17: break and continue stand in a loop
abbrev pub breaks_17 : Bool → Bool
breaks_17 looped = not looped

module _ {M : Type 0} (g : Gathering M) where
  infixr 5 ◌also◌
  open g use {also as ◌also◌}

  abbrev pub condition_breaches : Tables → Scope → Exprs → M
  condition_breaches c s no_exprs = g.none
  condition_breaches c s (expr e es) = breaches g c s wanted.Value e

  -- what a statement and those below it break, in preorder, in a procedure of that result and in a loop or not
  abbrev mutual
    pub stmt_breaches : Tables → Option SlotType → Bool → Scope → Stmt → M
    stmt_breaches c r looped s (block at sts) = stmts_breaches c r looped (entered s) sts
    stmt_breaches c r looped s (local at x t) = breach_if g (breaks_5 s x) at 5
    stmt_breaches c r looped s (local_as at x t e) =
        breach_if g (breaks_5 s x) at 5
        also (breach_if g (breaks_13 (Some (slot_type c.tags t)) (operand_of c (declared s x (slot_type c.tags t) at) e)) at 13
        also breaches g c (declared s x (slot_type c.tags t) at) (wanted.For (slot_type c.tags t)) e)
    stmt_breaches c r looped s (assign at a e) =
        breach_if g (breaks_13 (type_of (operand_of c s a)) (operand_of c s e)) at 13
        also (breaches g c s wanted.Value a also breaches g c s (wanted_for (type_of (operand_of c s a))) e)
    stmt_breaches c r looped s (do_call at e) = breaches g c s wanted.Nothing e
    stmt_breaches c r looped s (free at e) = breach_if g (breaks_15 (operand_of c s e)) at 15 also breaches g c s wanted.Value e
    stmt_breaches c r looped s (when at e st) =
        breach_if g (breaks_12 (operand_of c s e)) at 12
        also (breaches g c s wanted.Value e also stmt_breaches c r looped s st)
    stmt_breaches c r looped s (when_else at e st su) =
        breach_if g (breaks_12 (operand_of c s e)) at 12
        also (breaches g c s wanted.Value e
        also (stmt_breaches c r looped s st also stmt_breaches c r looped (left s (after c s st)) su))
    stmt_breaches c r looped s (while at e st) =
        breach_if g (breaks_12 (operand_of c s e)) at 12
        also (breaches g c s wanted.Value e also stmt_breaches c r true s st)
    stmt_breaches c r looped s (for at init e step st) =
        breach_if g (breaks_12_for c (after_all c (entered s) init) e) at 12
        also ((stmts_breaches c r looped (entered s) init also condition_breaches c (after_all c (entered s) init) e)
        also (stmts_breaches c r true (after_all c (entered s) init) step
        also stmt_breaches c r true (left (after_all c (entered s) init) (after_all c (after_all c (entered s) init) step)) st))
    stmt_breaches c r looped s (break at) = breach_if g (breaks_17 looped) at 17
    stmt_breaches c r looped s (continue at) = breach_if g (breaks_17 looped) at 17
    stmt_breaches c r looped s (return at) = breach_if g (is_some r) at 16
    stmt_breaches c r looped s (return_of at e) =
        breach_if g (breaks_16 r (operand_of c s e)) at 16 also breaches g c s (wanted_for r) e
    stmt_breaches c r looped s (nothing at) = g.none

    pub stmts_breaches : Tables → Option SlotType → Bool → Scope → Stmts → M
    stmts_breaches c r looped s no_stmts = g.none
    stmts_breaches c r looped s (stmt st sts) = stmt_breaches c r looped s st also stmts_breaches c r looped (after c s st) sts

-- a node that has no type and refers to nothing, and a declaration, which refers to its slot
abbrev pub plain_info : NodeInfo
plain_info = record { kind = None; refers = None }

abbrev pub slot_info : ℕ → NodeInfo
slot_info i = record { kind = None; refers = Some i }

abbrev pub condition_infos : Tables → Scope → Exprs → List NodeInfo
condition_infos c s no_exprs = []
condition_infos c s (expr e es) = infos c s wanted.Value e

-- the nodes of a statement in preorder, in a procedure of that result
abbrev mutual
  pub stmt_infos : Tables → Option SlotType → Scope → Stmt → List NodeInfo
  stmt_infos c r s (block at sts) = plain_info ∷ stmts_infos c r (entered s) sts
  stmt_infos c r s (local at x t) = slot_info (length s.slots) ∷ []
  stmt_infos c r s (local_as at x t e) =
      slot_info (length s.slots) ∷ infos c (declared s x (slot_type c.tags t) at) (wanted.For (slot_type c.tags t)) e
  stmt_infos c r s (assign at a e) = plain_info ∷ infos c s wanted.Value a ++ infos c s (wanted_for (type_of (operand_of c s a))) e
  stmt_infos c r s (do_call at e) = plain_info ∷ infos c s wanted.Nothing e
  stmt_infos c r s (free at e) = plain_info ∷ infos c s wanted.Value e
  stmt_infos c r s (when at e st) = plain_info ∷ infos c s wanted.Value e ++ stmt_infos c r s st
  stmt_infos c r s (when_else at e st su) =
      plain_info ∷ infos c s wanted.Value e ++ (stmt_infos c r s st ++ stmt_infos c r (left s (after c s st)) su)
  stmt_infos c r s (while at e st) = plain_info ∷ infos c s wanted.Value e ++ stmt_infos c r s st
  stmt_infos c r s (for at init e step st) =
      plain_info ∷ stmts_infos c r (entered s) init
      ++ condition_infos c (after_all c (entered s) init) e
      ++ (stmts_infos c r (after_all c (entered s) init) step
      ++ stmt_infos c r (left (after_all c (entered s) init) (after_all c (after_all c (entered s) init) step)) st)
  stmt_infos c r s (break at) = plain_info ∷ []
  stmt_infos c r s (continue at) = plain_info ∷ []
  stmt_infos c r s (return at) = plain_info ∷ []
  stmt_infos c r s (return_of at e) = plain_info ∷ infos c s (wanted_for r) e
  stmt_infos c r s (nothing at) = plain_info ∷ []

  pub stmts_infos : Tables → Option SlotType → Scope → Stmts → List NodeInfo
  stmts_infos c r s no_stmts = []
  stmts_infos c r s (stmt st sts) = stmt_infos c r s st ++ stmts_infos c r (after c s st) sts
