-- What a clause sees of what the statement parser returns.
use Rattle.std.specs.Prelude.{ℕ, List, Bool, true, false, if◌then◌else◌, Option, Some, None, option_and_then, codes}
use Rattle.c_tree.specs.declared.position.Span.{Span}
use Rattle.c_tree.specs.declared.tree.Member.{Member}
use Rattle.c_tree.specs.Plain.{Expr, Exprs, Stmt, Stmts}
use Rattle.c_tree.specs.Plain as tree
use Rattle.c_tree.specs.View.{stmt_view, stmts_view, cond_view, step_view}
use Rattle.c_token.specs.declared.token.Token.{Token}
use Rattle.c_grammar.specs.Parts.{Part, Row}
use Rattle.c_grammar.specs.Stmts.{Heading}
use Rattle.c_parser.specs.declared.statement_parts.StmtPart as code_stmt
use Rattle.c_parser.specs.declared.statement_parts.StmtsRow as code_stmts
use Rattle.c_parser.specs.declared.statement_parts.HeadingRow as code_heading
use Rattle.c_parser.specs.declared.statement_parts.BoxedPart as code_boxed
use Rattle.c_parser.specs.declared.statements.ConditionRow as code_condition
use Rattle.c_parser.specs.declared.statements.StepRow as code_step
use Rattle.c_parser.specs.declared.statements.Braced as code_braced
use Rattle.c_parser.specs.declared.statements.Chunk as code_chunk
use Rattle.c_parser.specs.declared.statements.ChunkRow as code_chunk_row
use Rattle.c_parser.specs.declared.locals.Declared as code_declared
use Rattle.c_grammar.specs.ReadStmts.{Declared, Braced, is_path, step_one, Statements, one_stmt, read_locals}
use Rattle.c_grammar.specs.ReadExprs.{begins_base}
use Rattle.c_grammar.specs.Reading.{Front, after_mark}
use Rattle.c_tree.specs.declared.tree.BinaryOp.{BinaryOp}

abbrev pub stmt_part : code_stmt.StmtPart → Part Stmt
stmt_part p = record { tree = stmt_view p.tree; at = p.at; depth = p.depth; rest = p.rest.now }

abbrev pub boxed_part : code_boxed.BoxedPart → Part Stmt
boxed_part p = record { tree = stmt_view p.tree; at = p.at; depth = p.depth; rest = p.rest.now }

abbrev pub jump_of : Bool → Span → Stmt
jump_of true at = tree.break at
jump_of false at = tree.continue at

abbrev pub declared_of : code_declared.Declared → Declared
declared_of d = record { member = d.member; rest = d.rest.now }

abbrev pub stmts_row : code_stmts.StmtsRow → Row Stmts
stmts_row s = record { tree = stmts_view s.items; depth = s.depth; rest = s.rest.now }

abbrev pub heading_row : code_heading.HeadingRow → Row Heading
heading_row h = record {
  tree = record { first = stmts_view h.first; condition = cond_view h.condition; step = step_view h.step };
  depth = h.depth;
  rest = h.rest.now;
}

abbrev pub condition_row : code_condition.ConditionRow → Row Exprs
condition_row c = record { tree = cond_view c.tree; depth = c.depth; rest = c.rest.now }

abbrev pub step_row : code_step.StepRow → Row Stmts
step_row s = record { tree = step_view s.tree; depth = s.depth; rest = s.rest.now }

abbrev pub braced_of : code_braced.Braced → Braced
braced_of b = record { part = stmt_part b.part; brace = b.brace }

abbrev pub chunk_view : code_chunk.Chunk → Stmts
chunk_view (code_chunk.Chunk.Locals ss) = stmts_view ss
chunk_view (code_chunk.Chunk.One s) = tree.stmt (stmt_view s) tree.no_stmts

abbrev pub chunk_row : code_chunk_row.ChunkRow → Row Stmts
chunk_row c = record { tree = chunk_view c.chunk; depth = c.depth; rest = c.rest.now }

-- a path is itself
abbrev arrow_of : Span → List ℕ → Option Expr → Option Expr
arrow_of at f None = None
arrow_of at f (Some b) = Some (tree.arrow at b f)

abbrev pub path_of : Expr → Option Expr
path_of (tree.name at x) = Some (tree.name at x)
path_of (tree.arrow at b f) = arrow_of at f (path_of b)
path_of _ = None

-- a declaration without an initialiser, before these tokens
abbrev pub declared : Member → List Token → Part Stmt
declared m ts = record { tree = tree.local m.at m.name m.kind; at = m.at; depth = 1; rest = ts }

-- one more or less at a target, which must be a path
abbrev pub step_path : ℕ → Bool → Part Expr → BinaryOp → Front → Option (Part Stmt)
step_path d named p o q = if (if named then is_path p.tree else false) then step_one d p o q else None

abbrev pub is_variable : Expr → Bool
is_variable (tree.name at x) = true
is_variable _ = false

abbrev pub is_call : Expr → Bool
is_call (tree.call at f es) = true
is_call _ = false

abbrev pub chunk_ended : Row Stmts → Option (Row Stmts)
chunk_ended l = option_and_then (λ q. Some (record { tree = l.tree; depth = l.depth; rest = q.rest })) (after_mark (codes ";") l.rest)

abbrev pub chunk_of : Part Stmt → Option (Row Stmts)
chunk_of p = Some (one_stmt p)

-- one line of declarations, or one statement
abbrev pub chunk : Statements → ℕ → List Token → Option (Row Stmts)
chunk read d ts = if begins_base ts then option_and_then chunk_ended (read_locals d ts) else option_and_then chunk_of (read ts)
