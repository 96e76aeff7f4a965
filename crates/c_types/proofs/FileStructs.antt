-- The structs of a file: as many as there are tags, and the types of their members exist.
use Rattle.std.proofs.Common.{◌≡◌, ℕ, ◌+◌, ◌≤◌, inl, inr, List, [], ◌∷◌, ◌++◌, length, map, drop, refl, ap, ◌∙◌, arith}
use Rattle.std.specs.List.{All}
use Rattle.std.proofs.lemmas.Bool.{cases_Bool}
use Rattle.std.proofs.lemmas.List.{length-append, length-map, length-drop, length_push}
use Rattle.std.proofs.lemmas.List.Elements.{All-nil, All-cons, All-append, All-same, All-head, All-tail}
use Rattle.c_tree.specs.declared.tree.Member.{Member}
use Rattle.c_tree.specs.declared.tree.StructDef.{StructDef}
use Rattle.c_tree.specs.Plain.{Tree}
use Rattle.c_types.specs.declared.infos.StructInfo.{StructInfo}
use Rattle.c_types.specs.Names.{has_name, with_name, with_names}
use Rattle.c_types.specs.Declarations.{with_type, with_members, defined_tags, struct_tags, member_info, member_infos, fields_with, fields_after, struct_info, defined_infos, named_info, struct_infos}
use Rattle.c_types.specs.Fits.{TypeExists}
use Rattle.c_types.proofs.FileNames.{Grows, grows_over, name_again, name_new}
use Rattle.c_types.proofs.FileTags.{HasMembers, grows_members, all_structs, defined_first}
use Rattle.c_types.proofs.FileSlots.{type_exists}

length-defined : (tags seen : List (List ℕ)) (n : ℕ) (ds : List StructDef) → length (with_names seen (map (λ d. d.tag) ds)) ≡ length seen + length (defined_infos tags seen n ds)
length-defined tags seen n [] = omega arith
length-defined tags seen n (d ∷ ds) = elim (cases_Bool (has_name seen d.tag)) [
  | inl e ↦ let k = length-defined tags (with_name seen d.tag) n ds in let same = ap length (name_again seen d.tag e) in rw e (omega (arith, k, same))
  | inr e ↦
      let k = length-defined tags (with_name seen d.tag) (fields_after tags n d.members) ds in
      let more = ap length (name_new seen d.tag e) ∙ length_push seen d.tag in
      rw e (omega (arith, k, more))
]

infos_are : (t : Tree) → struct_infos t ≡ defined_infos (struct_tags t) [] 0 t.structs ++ map named_info (drop (length (defined_tags t)) (struct_tags t))
unfolding struct_infos
infos_are t = refl

defined_are : (t : Tree) → length (defined_tags t) ≡ length (defined_infos (struct_tags t) [] 0 t.structs)
unfolding defined_tags
defined_are t = length-defined (struct_tags t) [] 0 t.structs ∙ omega arith

pub struct_count : (t : Tree) → length (struct_infos t) ≡ length (struct_tags t)
struct_count t =
    let n = length (defined_tags t) in
    let a = ap length (infos_are t) in
    let b = length-append (defined_infos (struct_tags t) [] 0 t.structs) (map named_info (drop n (struct_tags t))) in
    let c = length-map (drop n (struct_tags t)) named_info in
    let d = length-drop n (struct_tags t) in
    let e = defined_are t in
    let f = (defined_first t).longer in
    omega (arith, a, b, c, d, e, f)

pub defined_count : (t : Tree) → length (defined_tags t) ≤ length (struct_infos t)
defined_count t = let a = struct_count t in let b = (defined_first t).longer in omega (arith, a, b)

module _ (ss : List StructInfo) (tags : List (List ℕ)) (le : length tags ≤ length ss) where
  abbrev MembersExist : StructInfo → Type 0
  MembersExist s = All (λ m. TypeExists ss m.kind) s.members

  infos_exist : (ns : List (List ℕ)) (n : ℕ) (ms : List Member) → Grows (with_members ns ms) tags → All (λ m. TypeExists ss m.kind) (member_infos tags n ms)
  infos_exist ns n [] g = All-nil (λ m. TypeExists ss m.kind)
  infos_exist ns n (m ∷ ms) g =
      All-cons (λ m. TypeExists ss m.kind) (member_info tags n m) (member_infos tags (fields_with tags n m) ms)
      (type_exists ss tags ns m.kind le (grows_over (grows_members (with_type ns m.kind) ms) g))
      (infos_exist (with_type ns m.kind) (fields_with tags n m) ms g)

  defined_exist : (seen : List (List ℕ)) (n : ℕ) (ds : List StructDef) → All (λ d. HasMembers tags d.members) ds → All MembersExist (defined_infos tags seen n ds)
  defined_exist seen n [] h = All-nil MembersExist
  defined_exist seen n (d ∷ ds) h =
      let rest = All-tail (λ x. HasMembers tags x.members) d ds h in
      elim (cases_Bool (has_name seen d.tag)) [
        | inl e ↦ rw e (defined_exist (with_name seen d.tag) n ds rest)
        | inr e ↦
            let here = All-head (λ x. HasMembers tags x.members) d ds h in
            let later = fields_after tags n d.members in
            rw e
            (All-cons MembersExist (struct_info tags n d) (defined_infos tags (with_name seen d.tag) later ds) (infos_exist here.before n d.members here.within)
            (defined_exist (with_name seen d.tag) later ds rest))
      ]

  named_exist : (ts : List (List ℕ)) → All MembersExist (map named_info ts)
  named_exist [] = All-nil MembersExist
  named_exist (t ∷ ts) = All-cons MembersExist (named_info t) (map named_info ts) (All-nil (λ m. TypeExists ss m.kind)) (named_exist ts)

pub members_exist : (t : Tree) → All (λ s. All (λ m. TypeExists (struct_infos t) m.kind) s.members) (struct_infos t)
members_exist t =
    let ss = struct_infos t in
    let tags = struct_tags t in
    let le : length tags ≤ length ss = omega (arith, struct_count t) in
    let rest = drop (length (defined_tags t)) tags in
    All-same (MembersExist ss tags le) ss (defined_infos tags [] 0 t.structs ++ map named_info rest) (infos_are t)
    (All-append (MembersExist ss tags le) (defined_infos tags [] 0 t.structs) (map named_info rest) (defined_exist ss tags le [] 0 t.structs (all_structs t)) (named_exist ss tags le rest))
