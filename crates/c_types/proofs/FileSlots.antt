-- The slots of a procedure: its parameters first, and of types whose structs exist.
use Rattle.std.proofs.Common.{◌≡◌, ℕ, ◌≤◌, Bool, true, false, List, [], ◌∷◌, ◌++◌, length, map, take, Option, Some, None, IfSome, refl, sym, ap, ◌∙◌, append_assoc, append-nil, arith}
use Rattle.std.specs.Prelude.{if◌then◌else◌}
use Rattle.std.specs.List.{All}
use Rattle.std.proofs.lemmas.List.{length-map, map-append, take_at}
use Rattle.std.proofs.lemmas.List.Elements.{All-nil, All-cons, All-append, All-same, All-map}
use Rattle.c_tree.specs.declared.tree.TypeName.{TypeName}
use Rattle.c_tree.specs.declared.tree.TypeName.TheVariants as written
use Rattle.c_tree.specs.declared.tree.Member.{Member}
use Rattle.c_tree.specs.Plain.{Stmt, block, local, local_as, assign, do_call, free, when, when_else, while, for, break, continue, return, return_of, nothing, Stmts, no_stmts, stmt, Procedure}
use Rattle.c_types.specs.declared.kinds.SlotType.{SlotType}
use Rattle.c_types.specs.declared.infos.SlotInfo.{SlotInfo}
use Rattle.c_types.specs.declared.infos.StructInfo.{StructInfo}
use Rattle.c_types.specs.declared.tables.Tables.{Tables}
use Rattle.c_types.specs.declared.scope.Scope.{Scope}
use Rattle.c_types.specs.Types.{slot_type}
use Rattle.c_types.specs.Declarations.{with_type, with_members, with_maybe, with_expr, with_exprs, with_stmt, with_stmts, with_body_tags, params_types, result_type}
use Rattle.c_types.specs.Scopes.{no_scope, is_empty, with_slot, declared, with_param, with_params, entered, left}
use Rattle.c_types.specs.Stmts.{after, after_all}
use Rattle.c_types.specs.Items.{body_after, ret_slots, slots_of, proc_info}
use Rattle.c_types.specs.Fits.{kinds_of, params_of, TypeExists}
use Rattle.c_types.proofs.FileNames.{Grows, grows_over, place_within, named}
use Rattle.c_types.proofs.FileTags.{HasProc, grows_members, grows_expr, grows_exprs, grows_stmt, grows_stmts, grows_body}

-- The slots of parameters

abbrev pub param_slot : List (List ℕ) → Member → SlotInfo
param_slot tags m = record { name = m.name; kind = slot_type tags m.kind; at = m.at }

param_last : (tags : List (List ℕ)) (s : Scope) (m : Member) → (with_param tags s m).slots ≡ s.slots ++ param_slot tags m ∷ []
param_last tags s m = by (is_empty m.name)
  where
    by : (b : Bool) → (if b then with_slot s m.name (slot_type tags m.kind) m.at else declared s m.name (slot_type tags m.kind) m.at).slots ≡ s.slots ++ param_slot tags m ∷ []
    by true = refl
    by false = refl

params_after : (tags : List (List ℕ)) (s : Scope) (ms : List Member) → (with_params tags s ms).slots ≡ s.slots ++ map (param_slot tags) ms
params_after tags s [] = sym (append-nil s.slots)
params_after tags s (m ∷ ms) =
    params_after tags (with_param tags s m) ms
    ∙ ap (λ vs. vs ++ map (param_slot tags) ms) (param_last tags s m)
    ∙ append_assoc s.slots (param_slot tags m ∷ []) (map (param_slot tags) ms)

pub params_first : (tags : List (List ℕ)) (ms : List Member) → (with_params tags no_scope ms).slots ≡ map (param_slot tags) ms
params_first tags ms = params_after tags no_scope ms

pub params_length : (tags : List (List ℕ)) (ms : List Member) → length (with_params tags no_scope ms).slots ≡ length ms
params_length tags ms = ap length (params_first tags ms) ∙ length-map ms (param_slot tags)

-- Structs that types name

pub type_exists : (ss : List StructInfo) (tags ns : List (List ℕ)) (t : TypeName) → length tags ≤ length ss → Grows (with_type ns t) tags → TypeExists ss (slot_type tags t)
type_exists ss tags ns written.Int le g = tt
type_exists ss tags ns written.Char le g = tt
type_exists ss tags ns written.IntPtr le g = tt
type_exists ss tags ns written.CharPtr le g = tt
type_exists ss tags ns (written.StructPtr t) le g = let k = place_within tags t (g.keeps t (named ns t)) in omega (arith, k, le)

-- these slots, and more of types whose structs exist
pub record AddsSlots (ss : List StructInfo) (xs ys : List SlotInfo) : Type 0 where
  pub more : List SlotInfo
  pub are : ys ≡ xs ++ more
  pub exist : All (λ v. TypeExists ss v.kind) more

adds_none : (ss : List StructInfo) (xs : List SlotInfo) → AddsSlots ss xs xs
adds_none ss xs = record { more = []; are = sym (append-nil xs); exist = All-nil (λ v. TypeExists ss v.kind) }

adds_one : (ss : List StructInfo) (xs : List SlotInfo) (v : SlotInfo) → TypeExists ss v.kind → AddsSlots ss xs (xs ++ v ∷ [])
adds_one ss xs v e = record { more = v ∷ []; are = refl; exist = All-cons (λ v. TypeExists ss v.kind) v [] e (All-nil (λ v. TypeExists ss v.kind)) }

adds_over : {ss : List StructInfo} {xs ys zs : List SlotInfo} → AddsSlots ss xs ys → AddsSlots ss ys zs → AddsSlots ss xs zs
adds_over {ss} {xs} {ys} {zs} a b = record {
  more = a.more ++ b.more;
  are = b.are ∙ ap (λ vs. vs ++ b.more) a.are ∙ append_assoc xs a.more b.more;
  exist = All-append (λ v. TypeExists ss v.kind) a.more b.more a.exist b.exist;
}

module _ (ss : List StructInfo) (c : Tables) (le : length c.tags ≤ length ss) where
  mutual
    adds : (ns : List (List ℕ)) (s : Scope) (st : Stmt) → Grows (with_stmt ns st) c.tags → AddsSlots ss s.slots (after c s st).slots
    adds ns s (block at sts) g = adds_all ns (entered s) sts g
    adds ns s (local at x t) g = adds_one ss s.slots (record { name = x; kind = slot_type c.tags t; at = at }) (type_exists ss c.tags ns t le g)
    adds ns s (local_as at x t e) g =
        adds_one ss s.slots (record { name = x; kind = slot_type c.tags t; at = at }) (type_exists ss c.tags ns t le (grows_over (grows_expr (with_type ns t) e) g))
    adds ns s (assign at a e) g = adds_none ss s.slots
    adds ns s (do_call at e) g = adds_none ss s.slots
    adds ns s (free at e) g = adds_none ss s.slots
    adds ns s (when at e st) g = adds (with_expr ns e) s st g
    adds ns s (when_else at e st su) g =
        adds_over (adds (with_expr ns e) s st (grows_over (grows_stmt (with_stmt (with_expr ns e) st) su) g))
        (adds (with_stmt (with_expr ns e) st) (left s (after c s st)) su g)
    adds ns s (while at e st) g = adds (with_expr ns e) s st g
    adds ns s (for at init e step st) g =
        let s' = after_all c (entered s) init in
        let n' = with_exprs (with_stmts ns init) e in
        let last = with_stmts n' step in
        let h = grows_over (grows_stmt last st) g in
        adds_over (adds_all ns (entered s) init (grows_over (grows_exprs (with_stmts ns init) e) (grows_over (grows_stmts n' step) h)))
        (adds_over (adds_all n' s' step h) (adds last (left s' (after_all c s' step)) st g))
    adds ns s (break at) g = adds_none ss s.slots
    adds ns s (continue at) g = adds_none ss s.slots
    adds ns s (return at) g = adds_none ss s.slots
    adds ns s (return_of at e) g = adds_none ss s.slots
    adds ns s (nothing at) g = adds_none ss s.slots

    adds_all : (ns : List (List ℕ)) (s : Scope) (sts : Stmts) → Grows (with_stmts ns sts) c.tags → AddsSlots ss s.slots (after_all c s sts).slots
    adds_all ns s no_stmts g = adds_none ss s.slots
    adds_all ns s (stmt st sts) g =
        adds_over (adds ns s st (grows_over (grows_stmts (with_stmt ns st) sts) g)) (adds_all (with_stmt ns st) (after c s st) sts g)

  adds_body : (ns : List (List ℕ)) (s : Scope) (o : Option Stmt) → Grows (with_body_tags ns o) c.tags → AddsSlots ss s.slots (body_after c s o).slots
  adds_body ns s None g = adds_none ss s.slots
  adds_body ns s (Some (block at sts)) g = adds_all ns s sts g
  adds_body ns s (Some st) g = adds ns s st g

  mentioned_exist : (ns : List (List ℕ)) (ms : List Member) → Grows (with_members ns ms) c.tags → All (λ m. TypeExists ss (slot_type c.tags m.kind)) ms
  mentioned_exist ns [] g = All-nil (λ m. TypeExists ss (slot_type c.tags m.kind))
  mentioned_exist ns (m ∷ ms) g =
      All-cons (λ m. TypeExists ss (slot_type c.tags m.kind)) m ms
      (type_exists ss c.tags ns m.kind le (grows_over (grows_members (with_type ns m.kind) ms) g)) (mentioned_exist (with_type ns m.kind) ms g)

  maybe_exists : (ns : List (List ℕ)) (o : Option TypeName) → Grows (with_maybe ns o) c.tags → IfSome (result_type c.tags o) (TypeExists ss)
  maybe_exists ns None g = tt
  maybe_exists ns (Some t) g = type_exists ss c.tags ns t le g

  module _ (p : Procedure) (has : HasProc c.tags p) where
    abbrev with_result : List (List ℕ)
    with_result = with_maybe has.before p.result

    params_known : Grows (with_members with_result p.params) c.tags
    params_known = grows_over (grows_body (with_members with_result p.params) p.body) has.within

    pub params_exist : All (λ m. TypeExists ss (slot_type c.tags m.kind)) p.params
    params_exist = mentioned_exist with_result p.params params_known

    pub types_exist : All (TypeExists ss) (params_types c.tags p.params)
    types_exist = All-map (TypeExists ss) (λ (m : Member). slot_type c.tags m.kind) p.params params_exist

    pub result_exists : IfSome (result_type c.tags p.result) (TypeExists ss)
    result_exists = maybe_exists has.before p.result (grows_over (grows_members with_result p.params) params_known)

    after_body : AddsSlots ss (map (param_slot c.tags) p.params) (body_after c (with_params c.tags no_scope p.params) p.body).slots
    after_body =
        let a = adds_body (with_members with_result p.params) (with_params c.tags no_scope p.params) p.body has.within in
        record { more = a.more; are = a.are ∙ ap (λ vs. vs ++ a.more) (params_first c.tags p.params); exist = a.exist }

    ret_exist : (o : Option Stmt) (r : Option SlotType) → IfSome r (TypeExists ss) → All (λ v. TypeExists ss v.kind) (ret_slots o r p.close)
    ret_exist None r h = All-nil (λ v. TypeExists ss v.kind)
    ret_exist (Some st) None h = All-nil (λ v. TypeExists ss v.kind)
    ret_exist (Some st) (Some k) h =
        All-cons (λ v. TypeExists ss v.kind) (record { name = []; kind = k; at = p.close }) [] h (All-nil (λ v. TypeExists ss v.kind))

    pub slots_split : AddsSlots ss (map (param_slot c.tags) p.params) (slots_of c p)
    slots_split =
        let a = after_body in
        let ret = ret_slots p.body (result_type c.tags p.result) p.close in
        record {
          more = a.more ++ ret;
          are = ap (λ vs. vs ++ ret) a.are ∙ append_assoc (map (param_slot c.tags) p.params) a.more ret;
          exist = All-append (λ v. TypeExists ss v.kind) a.more ret a.exist (ret_exist p.body (result_type c.tags p.result) result_exists);
        }

    params_slots_exist : All (λ v. TypeExists ss v.kind) (map (param_slot c.tags) p.params)
    params_slots_exist = All-map (λ v. TypeExists ss v.kind) (param_slot c.tags) p.params params_exist

    pub after_exist : All (λ v. TypeExists ss v.kind) (body_after c (with_params c.tags no_scope p.params) p.body).slots
    after_exist =
        let a = after_body in
        All-same (λ v. TypeExists ss v.kind) (body_after c (with_params c.tags no_scope p.params) p.body).slots (map (param_slot c.tags) p.params ++ a.more) a.are
        (All-append (λ v. TypeExists ss v.kind) (map (param_slot c.tags) p.params) a.more params_slots_exist a.exist)

    pub slots_exist : All (λ v. TypeExists ss v.kind) (slots_of c p)
    slots_exist =
        let a = slots_split in
        All-same (λ v. TypeExists ss v.kind) (slots_of c p) (map (param_slot c.tags) p.params ++ a.more) a.are
        (All-append (λ v. TypeExists ss v.kind) (map (param_slot c.tags) p.params) a.more params_slots_exist a.exist)

    kinds_written : (ms : List Member) → kinds_of (map (param_slot c.tags) ms) ≡ params_types c.tags ms
    kinds_written [] = refl
    kinds_written (m ∷ ms) = ap (λ ks. slot_type c.tags m.kind ∷ ks) (kinds_written ms)

    -- the first slots are the parameters
    pub params_are : (i : ℕ) → params_of (proc_info c i p) ≡ params_types c.tags p.params
    params_are i =
        let a = slots_split in
        ap (λ vs. take (length p.params) (kinds_of vs)) a.are
        ∙ ap (take (length p.params)) (map-append (λ (v : SlotInfo). v.kind) (map (param_slot c.tags) p.params) a.more)
        ∙ take_at (kinds_of (map (param_slot c.tags) p.params)) (kinds_of a.more) (length p.params)
        (length-map (map (param_slot c.tags) p.params) (λ (v : SlotInfo). v.kind) ∙ length-map p.params (param_slot c.tags))
        ∙ kinds_written p.params
