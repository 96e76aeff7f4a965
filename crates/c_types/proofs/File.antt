-- A file that breaks no rule of types, has a main and passes no limit is a typed one, by what is known of its bodies.
use Rattle.std.proofs.Common.{◌≡◌, ℕ, ◌+◌, ◌<◌, ◌≤◌, inl, inr, true, false, List, [], ◌∷◌, ◌++◌, length, map, Option, Some, None, IfSome, IsTrue, is_some, slice_get, option_and_then, refl, sym, ap, ◌∙◌, subst, append-nil, arith}
use Rattle.std.specs.List.{All}
use Rattle.std.proofs.lemmas.Bool.{false≢true, le-ltb}
use Rattle.std.proofs.lemmas.List.{length-append, length-map, map-append}
use Rattle.std.proofs.lemmas.Option.{slice_get_within}
use Rattle.c_tree.specs.Formed.{IsBlock, IsFormedStmt, IsFormedProc, HasFormedBody, IsFormed}
use Rattle.c_tree.specs.Nodes.{stmt_count}
use Rattle.c_tree.specs.Plain.{Stmt, Procedure, Tree}
use Rattle.c_tree.specs.declared.position.Span.{Span}
use Rattle.c_types.specs.declared.kinds.SlotType.{SlotType}
use Rattle.c_types.specs.declared.infos.SlotInfo.{SlotInfo}
use Rattle.c_types.specs.declared.infos.StructInfo.{StructInfo}
use Rattle.c_types.specs.declared.infos.ProcInfo.{ProcInfo}
use Rattle.c_types.specs.declared.tables.Tables.{Tables}
use Rattle.c_types.specs.declared.scope.Scope.{Scope}
use Rattle.c_types.specs.Names.{has_name}
use Rattle.c_types.specs.Breaches.{listed}
use Rattle.c_types.specs.Types.{is_pointer}
use Rattle.c_types.specs.Declarations.{struct_infos, body_names, proc_names, declarations, result_type, has_body}
use Rattle.c_types.specs.Scopes.{no_scope, with_params}
use Rattle.c_types.specs.Items.{body_breaches, body_after, body_infos, ret_slots, slots_of, proc_info, proc_infos, body_count, main_number, has_main, limit_passed, IsWellTyped}
use Rattle.c_types.specs.Fits.{kinds_of, StmtFits, TypeExists, KindExists, result_count, HasResult, body_with, IsTypedBody, body_of, IsTypedProc, IsTypedFile}
use Rattle.c_types.proofs.Settings.{AreTables}
use Rattle.c_types.proofs.FileNames.{all_at, place, place_after, slice_get_cases}
use Rattle.c_types.proofs.FileTags.{HasProc}
use Rattle.c_types.proofs.FileSlots.{params_length, after_exist, slots_exist, result_exists}
use Rattle.c_types.proofs.FileStructs.{members_exist}
use Rattle.c_types.proofs.FileProcs.{Entry, name_of, info_of, bodied_of, external_of, entries_of, IsBodied, IsExternal, all_bodied, all_external, bodies_count, names_split, infos_are}
use Rattle.c_types.proofs.FileRules.{KeepsRules, gives_no_pointer}
use Rattle.c_types.proofs.FileTables.{tags_fit, rules_at, tags_at, entry_of, are_tables}
use Rattle.c_types.proofs.FileLimits.{limits_kept, procs_size}
use Rattle.c_types.proofs.FileMain.{main_within, main_is}

-- What is known of a body that breaks no rule, where it is also fine: where each `for` in it has at most one condition,
-- without which a plain tree's body has more expressions than nodes.
pub record BodyLaws (Fine : Stmt → Type 0) : Type 0 where
  pub fits : (c : Tables) (ss : List StructInfo) (ps : List ProcInfo) (s : Scope) (st : Stmt) (p : ProcInfo) (rest : List SlotInfo) → AreTables c ss ps → IsBlock st → Fine st → IsFormedStmt st
      → body_breaches listed c p.result s (Some st) ≡ [] → p.slots ≡ (body_after c s (Some st)).slots ++ rest → p.nodes ≡ body_infos c p.result s (Some st)
      → StmtFits (body_with ss ps p (length (body_after c s (Some st)).slots)) p.result 0 st
  pub nodes : (c : Tables) (r : Option SlotType) (s : Scope) (st : Stmt) → IsBlock st → Fine st → length (body_infos c r s (Some st)) ≡ stmt_count st
  pub locals : (c : Tables) (s : Scope) (st : Stmt) → IsBlock st → Fine st
      → (length (body_after c s (Some st)).slots < length s.slots + stmt_count st) × (length s.slots ≤ length (body_after c s (Some st)).slots)
  pub kinds_exist : (c : Tables) (ss : List StructInfo) (ps : List ProcInfo) (r : Option SlotType) (s : Scope) (st : Stmt) → AreTables c ss ps → IsBlock st → Fine st
      → body_breaches listed c r s (Some st) ≡ [] → All (λ v. TypeExists ss v.kind) (body_after c s (Some st)).slots → IfSome r (TypeExists ss)
      → All (KindExists ss) (body_infos c r s (Some st))

-- each body is fine
abbrev pub AreFine : (Stmt → Type 0) → List Procedure → Type 0
AreFine Fine qs = All (λ p. IfSome p.body Fine) qs

-- The slot of the result

ret_count : (st : Stmt) (r : Option SlotType) (close : Span) → length (ret_slots (Some st) r close) ≡ result_count r
ret_count st None close = refl
ret_count st (Some k) close = refl

slice_get_next : {X : Type 0} (xs : List X) (x : X) → slice_get (xs ++ x ∷ []) (length xs) ≡ Some x
slice_get_next [] x = refl
slice_get_next (y ∷ xs) x = slice_get_next xs x

ret_last : (vs : List SlotInfo) (st : Stmt) (r : Option SlotType) (close : Span) → IfSome r (λ t. slice_get (kinds_of (vs ++ ret_slots (Some st) r close)) (length vs) ≡ Some t)
ret_last vs st None close = tt
ret_last vs st (Some k) close =
    ap (λ ks. slice_get ks (length vs)) (map-append (λ (v : SlotInfo). v.kind) vs (record { name = []; kind = k; at = close } ∷ []))
    ∙ ap (slice_get (kinds_of vs ++ k ∷ [])) (sym (length-map vs (λ (v : SlotInfo). v.kind)))
    ∙ slice_get_next (kinds_of vs) k

has_result : (p : ProcInfo) (vs : List SlotInfo) (st : Stmt) (close : Span) → p.slots ≡ vs ++ ret_slots (Some st) p.result close → HasResult p (length vs)
has_result p vs st close e = record {
  count = ap length e ∙ length-append vs (ret_slots (Some st) p.result close) ∙ ap (λ n. length vs + n) (ret_count st p.result close);
  last = subst (λ ws. IfSome p.result (λ t. slice_get (kinds_of ws) (length vs) ≡ Some t)) (sym e) (ret_last vs st p.result close);
}

-- A procedure with a body

module _ (Fine : Stmt → Type 0) (laws : BodyLaws Fine) (c : Tables) (ss : List StructInfo) (ps : List ProcInfo) (le : length c.tags ≤ length ss) (tables : AreTables c ss ps) where
  typed_body : (p : Procedure) (i : ℕ) (st : Stmt) → p.body ≡ Some st → IfSome p.body Fine → IsFormedProc p → KeepsRules c p → HasProc c.tags p → IsTypedBody ss ps (proc_info c i p) st
  typed_body p i st e fine formed rules has =
      let s = with_params c.tags no_scope p.params in
      let r = result_type c.tags p.result in
      let f = subst (HasFormedBody p.params) e formed.2 in
      let good = subst (λ o. IfSome o Fine) e fine in
      let kept = subst (λ o. body_breaches listed c r s o ≡ []) e rules.body in
      let slots = ap (λ o. (body_after c s o).slots ++ ret_slots o r p.close) e in
      let nodes = ap (λ o. body_infos c r s o) e in
      let vs = (body_after c s (Some st)).slots in
      let params = params_length c.tags p.params in
      let exist = subst (λ o. All (λ v. TypeExists ss v.kind) (body_after c s o).slots) e (after_exist ss c le p has) in
      let locals = laws.locals c s st f.1 good in
      record {
        variables = length vs;
        result = has_result (proc_info c i p) vs st p.close slots;
        params = omega (arith, params, locals.1);
        nodes = ap length nodes ∙ laws.nodes c r s st f.1 good;
        locals = omega (arith, params, locals.0);
        kinds_exist = subst (All (KindExists ss)) (sym nodes) (laws.kinds_exist c ss ps r s st tables f.1 good kept exist (result_exists ss c le p has));
        fits = laws.fits c ss ps s st (proc_info c i p) (ret_slots (Some st) r p.close) tables f.1 good f.2 kept slots nodes;
      }

-- A procedure without one

some_body : (o : Option Stmt) (st : Stmt) → o ≡ Some st → is_some o ≡ true
some_body None st h = absurd (none_some h)
  where
    none_some : None ≡ Some st → ⊥
    none_some g = cc
some_body (Some s) st h = refl

no_body : (o : Option Stmt) → is_some o ≡ false → o ≡ None
no_body None h = refl
no_body (Some s) h = absurd (true_false h)
  where
    true_false : true ≡ false → ⊥
    true_false g = cc

bare_slots : (c : Tables) (p : Procedure) → p.body ≡ None → length (slots_of c p) ≡ length p.params
bare_slots c p e =
    let s = with_params c.tags no_scope p.params in
    ap (λ o. length ((body_after c s o).slots ++ ret_slots o (result_type c.tags p.result) p.close)) e
    ∙ ap length (append-nil s.slots)
    ∙ params_length c.tags p.params

no_pointer : (c : Tables) (p : Procedure) → KeepsRules c p → has_body c p.name ≡ false → IfSome (result_type c.tags p.result) (λ k. is_pointer k ≡ false)
no_pointer c p rules none = by (result_type c.tags p.result) refl
  where
    by : (o : Option SlotType) → result_type c.tags p.result ≡ o → IfSome o (λ k. is_pointer k ≡ false)
    by None e = tt
    by (Some k) e = gives_no_pointer c p k rules none e

body_is : (t : Tree) (c : Tables) (e : Entry) → slice_get t.procs e.item ≡ Some e.proc → body_of t (info_of c e) ≡ e.proc.body
body_is t c e h = ap (option_and_then (λ (p : Procedure). p.body)) h

not_bodied : (t : Tree) (x : List ℕ) → has_name (body_names t) x ≡ false → has_body (declarations t) x ≡ false
not_bodied t x h = le-ltb (place (proc_names t) x) (length (body_names t)) (subst (λ ns. length (body_names t) ≤ place ns x) (sym (names_split t)) (place_after (body_names t) (map name_of (external_of t)) x h))

-- The whole file

module _ (Fine : Stmt → Type 0) (laws : BodyLaws Fine) (t : Tree) (fine : AreFine Fine t.procs) (formed : IsFormed t) (typed : IsWellTyped t) where
  abbrev c : Tables
  c = declarations t

  abbrev ss : List StructInfo
  ss = struct_infos t

  abbrev ps : List ProcInfo
  ps = proc_infos t

  with_body_typed : (k : ℕ) (e : Entry) → slice_get (entries_of t) k ≡ Some e → k < body_count t → IsBodied t.procs e → IsTypedProc t ss ps (body_count t) k (info_of c e)
  with_body_typed k e at below b =
      let is = body_is t c e b.stands in
      let has = tags_at t k e at in
      record {
        item = slice_get_within t.procs e.item e.proc b.stands;
        bodied = λ _. ap is_some is ∙ b.has;
        body = λ s h. typed_body Fine laws c ss ps (tags_fit t) (are_tables t typed) e.proc e.item s (sym is ∙ h) (all_at (λ p. IfSome p.body Fine) t.procs e.item e.proc fine b.stands) (all_at IsFormedProc t.procs e.item e.proc formed.1 b.stands) (rules_at t typed k e at) has;
        bare = λ h. absurd (omega (arith, below, h));
        external = λ h. absurd (omega (arith, below, h));
        slots_exist = slots_exist ss c (tags_fit t) e.proc has;
        result_exists = result_exists ss c (tags_fit t) e.proc has;
      }

  external_typed : (k : ℕ) (e : Entry) → slice_get (entries_of t) k ≡ Some e → body_count t ≤ k → IsExternal t.procs (body_names t) e → IsTypedProc t ss ps (body_count t) k (info_of c e)
  external_typed k e at above x =
      let is = body_is t c e x.stands in
      let has = tags_at t k e at in
      let none = no_body e.proc.body x.bare in
      record {
        item = slice_get_within t.procs e.item e.proc x.stands;
        bodied = λ h. absurd (omega (arith, above, h));
        body = λ s h. absurd (false≢true (sym x.bare ∙ some_body e.proc.body s (sym is ∙ h)));
        bare = λ _. is ∙ none;
        external = λ _. (bare_slots c e.proc none, no_pointer c e.proc (rules_at t typed k e at) (not_bodied t e.proc.name x.unnamed));
        slots_exist = slots_exist ss c (tags_fit t) e.proc has;
        result_exists = result_exists ss c (tags_fit t) e.proc has;
      }

  typed_entry : (k : ℕ) (e : Entry) → slice_get (entries_of t) k ≡ Some e → IsTypedProc t ss ps (body_count t) k (info_of c e)
  typed_entry k e at =
      let n = bodies_count t in
      elim (slice_get_cases (bodied_of t) (external_of t) k e at) [
        | inl a ↦ with_body_typed k e at (omega (arith, n, a.0)) (all_at (IsBodied t.procs) (bodied_of t) k e (all_bodied t) a.1)
        | inr a ↦ external_typed k e at (omega (arith, n, a.0)) (all_at (IsExternal t.procs (body_names t)) (external_of t) a.1.0 e (all_external t) a.1.1)
      ]

  typed_proc : (k : ℕ) (p : ProcInfo) → slice_get ps k ≡ Some p → IsTypedProc t ss ps (body_count t) k p
  typed_proc k p at = let e = entry_of t k p at in subst (IsTypedProc t ss ps (body_count t) k) e.2 (typed_entry k e.0 e.1)

  bodies_within : body_count t ≤ length ps
  bodies_within =
      let a = ap length (infos_are t) ∙ length-map (entries_of t) (info_of c) in
      let b = length-append (bodied_of t) (external_of t) in
      omega (arith, a, b, bodies_count t)

  pub typed_file : IsTrue (has_main t) → limit_passed ss ps ≡ None → IsTypedFile t ss ps (body_count t) (main_number t)
  typed_file main limits =
      let kept = limits_kept ss ps limits in
      record {
        within = bodies_within;
        main_body = main_within t main;
        main = main_is t typed main;
        procs = typed_proc;
        members_exist = members_exist t;
        size = procs_size t;
        struct_count = kept.struct_count;
        member_count = kept.member_count;
        proc_count = kept.proc_count;
        param_count = kept.param_count;
      }
