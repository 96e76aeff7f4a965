-- The tables of what a file declares, read at an index.
use Rattle.std.proofs.Common.{◌≡◌, ℕ, ◌+◌, ◌<◌, Bool, true, false, List, [], ◌∷◌, ◌++◌, length, get_or, drop, map, Some, slice_get, if◌then◌else◌, refl, sym, ap, ◌∙◌, append_assoc, add-one, drop-cons}
use Rattle.std.proofs.lemmas.Option.{get_or_from_slice_get}
use Rattle.c_tree.specs.View.{proc_view}
use Rattle.c_tree.specs.declared.tree.Member.{Member}
use Rattle.c_tree.specs.declared.tree.StructDef.{StructDef}
use Rattle.c_tree.specs.declared.tree.ProcItem.{ProcItem}
use Rattle.c_types.specs.declared.infos.StructInfo.{StructInfo}
use Rattle.c_types.specs.Names.{has_name, with_name, with_names}
use Rattle.c_types.specs.Types.{slot_type}
use Rattle.c_types.specs.Declarations.{member_info, member_infos, fields_with, fields_after, struct_info, defined_infos, named_info, with_body, with_bodies, params_types, signature, signatures_from}

pub tags_at : (ns : List (List ℕ)) (ds : List StructDef) (i : ℕ) (d : StructDef) → i < length ds
    → with_names ns (map (λ x. x.tag) (drop i ds)) ≡ with_names (with_name ns (get_or ds i d).tag) (map (λ x. x.tag) (drop (i + 1) ds))
tags_at ns ds i d h = rw (add-one i, drop-cons ds i d h) refl

pub with_bodies_at : (ns : List (List ℕ)) (ps : List ProcItem) (i : ℕ) (d : ProcItem) → i < length ps
    → with_bodies ns (map proc_view (drop i ps)) ≡ with_bodies (with_body ns (proc_view (get_or ps i d))) (map proc_view (drop (i + 1) ps))
with_bodies_at ns ps i d h = rw (add-one i, drop-cons ps i d h) refl

pub proc_names_at : (ns : List (List ℕ)) (ps : List ProcItem) (i : ℕ) (d : ProcItem) → i < length ps
    → with_names ns (map (λ x. x.name) (map proc_view (drop i ps))) ≡ with_names (with_name ns (get_or ps i d).name) (map (λ x. x.name) (map proc_view (drop (i + 1) ps)))
proc_names_at ns ps i d h = rw (add-one i, drop-cons ps i d h) refl

pub member_infos_at : (tags : List (List ℕ)) (n : ℕ) (ms : List Member) (i : ℕ) (d : Member) → i < length ms
    → member_infos tags n (drop i ms) ≡ member_info tags n (get_or ms i d) ∷ member_infos tags (fields_with tags n (get_or ms i d)) (drop (i + 1) ms)
member_infos_at tags n ms i d h = rw (add-one i, drop-cons ms i d h) refl

pub fields_after_at : (tags : List (List ℕ)) (n : ℕ) (ms : List Member) (i : ℕ) (d : Member) → i < length ms
    → fields_after tags n (drop i ms) ≡ fields_after tags (fields_with tags n (get_or ms i d)) (drop (i + 1) ms)
fields_after_at tags n ms i d h = rw (add-one i, drop-cons ms i d h) refl

defined_infos_at : (tags seen : List (List ℕ)) (n : ℕ) (ds : List StructDef) (i : ℕ) (d : StructDef) → i < length ds
    → defined_infos tags seen n (drop i ds)
    ≡ (if has_name seen (get_or ds i d).tag then defined_infos tags (with_name seen (get_or ds i d).tag) n (drop (i + 1) ds)
    else struct_info tags n (get_or ds i d) ∷ defined_infos tags (with_name seen (get_or ds i d).tag) (fields_after tags n (get_or ds i d).members) (drop (i + 1) ds))
defined_infos_at tags seen n ds i d h = rw (add-one i, drop-cons ds i d h) refl

one_more : (b : Bool) (s : StructInfo) (tags seen : List (List ℕ)) (n next : ℕ) (ds : List StructDef)
    → (if b then [] else s ∷ []) ++ defined_infos tags seen (if b then n else next) ds ≡ (if b then defined_infos tags seen n ds else s ∷ defined_infos tags seen next ds)
one_more true s tags seen n next ds = refl
one_more false s tags seen n next ds = refl

pub defined_infos_step : (tags seen : List (List ℕ)) (n : ℕ) (ds : List StructDef) (i : ℕ) (d : StructDef) (infos : List StructInfo) → i < length ds → d ≡ get_or ds i d
    → (infos ++ (if has_name seen d.tag then [] else struct_info tags n d ∷ []))
    ++ defined_infos tags (with_name seen d.tag) (if has_name seen d.tag then n else fields_after tags n d.members) (drop (i + 1) ds)
    ≡ infos ++ defined_infos tags seen n (drop i ds)
defined_infos_step tags seen n ds i d infos h is =
    append_assoc infos (if has_name seen d.tag then [] else struct_info tags n d ∷ []) (defined_infos tags (with_name seen d.tag) (if has_name seen d.tag then n else fields_after tags n d.members) (drop (i + 1) ds))
    ∙ ap (λ xs. infos ++ xs) (one_more (has_name seen d.tag) (struct_info tags n d) tags (with_name seen d.tag) n (fields_after tags n d.members) (drop (i + 1) ds))
    ∙ ap (λ (x : StructDef). infos ++ (if has_name seen x.tag then defined_infos tags (with_name seen x.tag) n (drop (i + 1) ds)
    else struct_info tags n x ∷ defined_infos tags (with_name seen x.tag) (fields_after tags n x.members) (drop (i + 1) ds))) is
    ∙ ap (λ xs. infos ++ xs) (sym (defined_infos_at tags seen n ds i d h))

pub named_at : (ts : List (List ℕ)) (i : ℕ) (x : List ℕ) → i < length ts → slice_get ts i ≡ Some x → map named_info (drop i ts) ≡ named_info x ∷ map named_info (drop (i + 1) ts)
named_at ts i x h e = rw (add-one i, drop-cons ts i x h, get_or_from_slice_get ts i x x e) refl

pub params_types_at : (tags : List (List ℕ)) (ms : List Member) (i : ℕ) (d : Member) → i < length ms
    → params_types tags (drop i ms) ≡ slot_type tags (get_or ms i d).kind ∷ params_types tags (drop (i + 1) ms)
params_types_at tags ms i d h = rw (add-one i, drop-cons ms i d h) refl

pub signatures_at : (tags seen : List (List ℕ)) (ps : List ProcItem) (i : ℕ) (d : ProcItem) → i < length ps
    → signatures_from tags seen (map proc_view (drop i ps))
    ≡ (if has_name seen (get_or ps i d).name then signatures_from tags (with_name seen (get_or ps i d).name) (map proc_view (drop (i + 1) ps))
    else signature tags (proc_view (get_or ps i d)) ∷ signatures_from tags (with_name seen (get_or ps i d).name) (map proc_view (drop (i + 1) ps)))
signatures_at tags seen ps i d h = rw (add-one i, drop-cons ps i d h) refl
