-- The tags that a file mentions are all among its structs' tags.
use Rattle.std.proofs.Common.{ℕ, List, [], ◌∷◌, ◌++◌, take, drop, Option, Some, None, sym}
use Rattle.std.specs.List.{All}
use Rattle.std.proofs.lemmas.List.{take-append-drop}
use Rattle.std.proofs.lemmas.List.Elements.{All-nil, All-cons, All-append, All-same}
use Rattle.c_tree.specs.declared.tree.TypeName.{TypeName}
use Rattle.c_tree.specs.declared.tree.TypeName.TheVariants as written
use Rattle.c_tree.specs.declared.tree.Unit.{Unit as Measured}
use Rattle.c_tree.specs.declared.tree.Unit.TheVariants as measured
use Rattle.c_tree.specs.declared.tree.Member.{Member}
use Rattle.c_tree.specs.declared.tree.StructDef.{StructDef}
use Rattle.c_tree.specs.Plain.{Expr, num, text, null, name, call, new, new_of, arrow, index, not_of, neg, binary, Exprs, no_exprs, expr, Stmt, block, local, local_as, assign, do_call, free, when, when_else, while, for, break, continue, return, return_of, nothing, Stmts, no_stmts, stmt, Procedure, Tree}
use Rattle.c_types.specs.Declarations.{with_type, with_members, with_maybe, with_unit, with_expr, with_exprs, with_stmt, with_stmts, with_body_tags, with_proc, with_procs, before_count, with_file, defined_tags, struct_tags}
use Rattle.c_types.proofs.FileNames.{Grows, grows_itself, grows_over, grows_name}

pub grows_type : (ns : List (List ℕ)) (t : TypeName) → Grows ns (with_type ns t)
grows_type ns written.Int = grows_itself ns
grows_type ns written.Char = grows_itself ns
grows_type ns written.IntPtr = grows_itself ns
grows_type ns written.CharPtr = grows_itself ns
grows_type ns (written.StructPtr t) = grows_name ns t

pub grows_members : (ns : List (List ℕ)) (ms : List Member) → Grows ns (with_members ns ms)
grows_members ns [] = grows_itself ns
grows_members ns (m ∷ ms) = grows_over (grows_type ns m.kind) (grows_members (with_type ns m.kind) ms)

pub grows_maybe : (ns : List (List ℕ)) (o : Option TypeName) → Grows ns (with_maybe ns o)
grows_maybe ns None = grows_itself ns
grows_maybe ns (Some t) = grows_type ns t

grows_unit : (ns : List (List ℕ)) (o : Option Measured) → Grows ns (with_unit ns o)
grows_unit ns None = grows_itself ns
grows_unit ns (Some measured.Int) = grows_itself ns
grows_unit ns (Some measured.Char) = grows_itself ns
grows_unit ns (Some (measured.Struct t)) = grows_name ns t
grows_unit ns (Some (measured.Behind x)) = grows_itself ns

mutual
  pub grows_expr : (ns : List (List ℕ)) (e : Expr) → Grows ns (with_expr ns e)
  grows_expr ns (num at z) = grows_itself ns
  grows_expr ns (text at b) = grows_itself ns
  grows_expr ns (null at) = grows_itself ns
  grows_expr ns (name at x) = grows_itself ns
  grows_expr ns (call at f es) = grows_exprs ns es
  grows_expr ns (new at n) = grows_over (grows_maybe ns n.cast) (grows_unit (with_maybe ns n.cast) n.unit)
  grows_expr ns (new_of at n e) =
      grows_over (grows_over (grows_maybe ns n.cast) (grows_unit (with_maybe ns n.cast) n.unit))
      (grows_expr (with_unit (with_maybe ns n.cast) n.unit) e)
  grows_expr ns (arrow at b f) = grows_expr ns b
  grows_expr ns (index at b i) = grows_over (grows_expr ns b) (grows_expr (with_expr ns b) i)
  grows_expr ns (not_of at e) = grows_expr ns e
  grows_expr ns (neg at e) = grows_expr ns e
  grows_expr ns (binary at o a b) = grows_over (grows_expr ns a) (grows_expr (with_expr ns a) b)

  pub grows_exprs : (ns : List (List ℕ)) (es : Exprs) → Grows ns (with_exprs ns es)
  grows_exprs ns no_exprs = grows_itself ns
  grows_exprs ns (expr e es) = grows_over (grows_expr ns e) (grows_exprs (with_expr ns e) es)

mutual
  pub grows_stmt : (ns : List (List ℕ)) (s : Stmt) → Grows ns (with_stmt ns s)
  grows_stmt ns (block at ss) = grows_stmts ns ss
  grows_stmt ns (local at x t) = grows_type ns t
  grows_stmt ns (local_as at x t e) = grows_over (grows_type ns t) (grows_expr (with_type ns t) e)
  grows_stmt ns (assign at a b) = grows_over (grows_expr ns a) (grows_expr (with_expr ns a) b)
  grows_stmt ns (do_call at e) = grows_expr ns e
  grows_stmt ns (free at e) = grows_expr ns e
  grows_stmt ns (when at c s) = grows_over (grows_expr ns c) (grows_stmt (with_expr ns c) s)
  grows_stmt ns (when_else at c s t) =
      grows_over (grows_over (grows_expr ns c) (grows_stmt (with_expr ns c) s)) (grows_stmt (with_stmt (with_expr ns c) s) t)
  grows_stmt ns (while at c s) = grows_over (grows_expr ns c) (grows_stmt (with_expr ns c) s)
  grows_stmt ns (for at init c step s) =
      grows_over (grows_stmts ns init)
      (grows_over (grows_exprs (with_stmts ns init) c)
      (grows_over (grows_stmts (with_exprs (with_stmts ns init) c) step)
      (grows_stmt (with_stmts (with_exprs (with_stmts ns init) c) step) s)))
  grows_stmt ns (break at) = grows_itself ns
  grows_stmt ns (continue at) = grows_itself ns
  grows_stmt ns (return at) = grows_itself ns
  grows_stmt ns (return_of at e) = grows_expr ns e
  grows_stmt ns (nothing at) = grows_itself ns

  pub grows_stmts : (ns : List (List ℕ)) (ss : Stmts) → Grows ns (with_stmts ns ss)
  grows_stmts ns no_stmts = grows_itself ns
  grows_stmts ns (stmt s ss) = grows_over (grows_stmt ns s) (grows_stmts (with_stmt ns s) ss)

pub grows_body : (ns : List (List ℕ)) (o : Option Stmt) → Grows ns (with_body_tags ns o)
grows_body ns None = grows_itself ns
grows_body ns (Some s) = grows_stmt ns s

grows_proc : (ns : List (List ℕ)) (p : Procedure) → Grows ns (with_proc ns p)
grows_proc ns p =
    grows_over (grows_maybe ns p.result)
    (grows_over (grows_members (with_maybe ns p.result) p.params) (grows_body (with_members (with_maybe ns p.result) p.params) p.body))

grows_procs : (ns : List (List ℕ)) (ps : List Procedure) → Grows ns (with_procs ns ps)
grows_procs ns [] = grows_itself ns
grows_procs ns (p ∷ ps) = grows_over (grows_proc ns p) (grows_procs (with_proc ns p) ps)

grows_file : (ns : List (List ℕ)) (ds : List StructDef) (ps : List Procedure) → Grows ns (with_file ns ds ps)
grows_file ns [] ps = grows_procs ns ps
grows_file ns (d ∷ ds) ps =
    let k = before_count d ps in
    let before = with_procs ns (take k ps) in
    grows_over (grows_procs ns (take k ps)) (grows_over (grows_members before d.members) (grows_file (with_members before d.members) ds (drop k ps)))

-- What is mentioned

-- the tags of a struct's members are among these, after some others
pub record HasMembers (tags : List (List ℕ)) (ms : List Member) : Type 0 where
  pub before : List (List ℕ)
  pub within : Grows (with_members before ms) tags

-- and so are those of a procedure
pub record HasProc (tags : List (List ℕ)) (p : Procedure) : Type 0 where
  pub before : List (List ℕ)
  pub within : Grows (with_proc before p) tags

procs_within : (tags ns : List (List ℕ)) (ps : List Procedure) → Grows (with_procs ns ps) tags → All (HasProc tags) ps
procs_within tags ns [] g = All-nil (HasProc tags)
procs_within tags ns (p ∷ ps) g =
    All-cons (HasProc tags) p ps (record { before = ns; within = grows_over (grows_procs (with_proc ns p) ps) g }) (procs_within tags (with_proc ns p) ps g)

file_procs : (tags ns : List (List ℕ)) (ds : List StructDef) (ps : List Procedure) → Grows (with_file ns ds ps) tags → All (HasProc tags) ps
file_procs tags ns [] ps g = procs_within tags ns ps g
file_procs tags ns (d ∷ ds) ps g =
    let k = before_count d ps in
    let before = with_procs ns (take k ps) in
    let later = with_members before d.members in
    let front = procs_within tags ns (take k ps) (grows_over (grows_members before d.members) (grows_over (grows_file later ds (drop k ps)) g)) in
    let rest = file_procs tags later ds (drop k ps) g in
    All-same (HasProc tags) ps (take k ps ++ drop k ps) (sym (take-append-drop k ps)) (All-append (HasProc tags) (take k ps) (drop k ps) front rest)

file_structs : (tags ns : List (List ℕ)) (ds : List StructDef) (ps : List Procedure) → Grows (with_file ns ds ps) tags → All (λ d. HasMembers tags d.members) ds
file_structs tags ns [] ps g = All-nil (λ d. HasMembers tags d.members)
file_structs tags ns (d ∷ ds) ps g =
    let k = before_count d ps in
    let before = with_procs ns (take k ps) in
    let later = with_members before d.members in
    All-cons (λ x. HasMembers tags x.members) d ds (record { before = before; within = grows_over (grows_file later ds (drop k ps)) g }) (file_structs tags later ds (drop k ps) g)

pub all_procs : (t : Tree) → All (HasProc (struct_tags t)) t.procs
unfolding struct_tags
all_procs t = file_procs (struct_tags t) (defined_tags t) t.structs t.procs (grows_itself (struct_tags t))

pub all_structs : (t : Tree) → All (λ d. HasMembers (struct_tags t) d.members) t.structs
unfolding struct_tags
all_structs t = file_structs (struct_tags t) (defined_tags t) t.structs t.procs (grows_itself (struct_tags t))

pub defined_first : (t : Tree) → Grows (defined_tags t) (struct_tags t)
unfolding struct_tags
defined_first t = grows_file (defined_tags t) t.structs t.procs
