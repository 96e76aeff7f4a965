-- The procedure `main` of a file: it has a body and no parameters, and gives an int.
use Rattle.std.proofs.Common.{◌≡◌, ℕ, ◌<◌, true, ◌&&◌, List, [], ◌∷◌, length, map, Option, Some, None, is_some, slice_get, codes, bytes_eq, refl, sym, ap, ◌∙◌, subst}
use Rattle.std.specs.List.{Contains}
use Rattle.std.proofs.lemmas.Bool.{and_parts, or_left, false≢true}
use Rattle.std.proofs.lemmas.List.{length-map}
use Rattle.std.proofs.lemmas.List.Folds.{Any-from_list_any, list_any-append}
use Rattle.std.proofs.lemmas.List.Elements.{All-contains}
use Rattle.c_tree.specs.declared.tree.TypeName.{TypeName}
use Rattle.c_tree.specs.declared.tree.TypeName.TheVariants as written
use Rattle.c_tree.specs.declared.tree.Member.{Member}
use Rattle.c_tree.specs.Plain.{Procedure, Tree}
use Rattle.c_types.specs.declared.kinds.SlotType.TheVariants as kind
use Rattle.c_types.specs.declared.infos.ProcInfo.{ProcInfo}
use Rattle.c_types.specs.declared.tables.Signature.{Signature}
use Rattle.c_types.specs.Names.{has_name}
use Rattle.c_types.specs.Types.{slot_type}
use Rattle.c_types.specs.Declarations.{struct_tags, body_names, proc_names, declared_names, declarations, signature_of, params_types, result_type}
use Rattle.c_types.specs.Items.{IsWellTyped, is_int, no_members, is_main, has_main, main_number, body_count, proc_infos}
use Rattle.c_types.proofs.FileNames.{same_bytes, place, place_before}
use Rattle.c_types.proofs.FileProcs.{Entry, name_of, external_of, names_split, bodies_have}
use Rattle.c_types.proofs.FileRules.{KeepsRules, rules_kept, agrees_with}
use Rattle.c_types.proofs.FileTables.{all_declared, signature_exists, entry_of, entry_named, says}

abbrev main_name : List ℕ
main_name = codes "main"

-- an item of main with a body
record IsMainItem (t : Tree) : Type 0 where
  proc : Procedure
  among : Contains t.procs proc
  named : proc.name ≡ main_name
  has : is_some proc.body ≡ true
  int : is_int proc.result ≡ true
  bare : no_members proc.params ≡ true

main_item : (t : Tree) → has_main t ≡ true → IsMainItem t
main_item t h =
    let a = Any-from_list_any is_main t.procs h in
    let p = a.1 in
    let b = and_parts (bytes_eq main_name p.name) (is_some p.body && (is_int p.result && no_members p.params)) a.4 in
    let c = and_parts (is_some p.body) (is_int p.result && no_members p.params) b.1 in
    let d = and_parts (is_int p.result) (no_members p.params) c.1 in
    record { proc = p; among = (a.0, a.2, a.3); named = sym (same_bytes main_name p.name b.0); has = c.0; int = d.0; bare = d.1 }

main_bodied : (t : Tree) → IsMainItem t → has_name (body_names t) main_name ≡ true
main_bodied t m =
    subst (λ x. has_name (body_names t) x ≡ true) m.named
    (All-contains (λ p. is_some p.body ≡ true → has_name (body_names t) p.name ≡ true) t.procs m.proc (bodies_have t) m.among m.has)

pub main_within : (t : Tree) → has_main t ≡ true → main_number t < body_count t
main_within t h =
    let bodied = main_bodied t (main_item t h) in
    subst (λ ns. place ns main_name < length (body_names t)) (sym (names_split t)) (place_before (body_names t) (map name_of (external_of t)) main_name bodied)

main_declared : (t : Tree) → IsMainItem t → has_name (declared_names t) main_name ≡ true
main_declared t m =
    subst (λ x. has_name (declared_names t) x ≡ true) m.named
    (All-contains (λ p. has_name (declared_names t) p.name ≡ true) t.procs m.proc (all_declared t) m.among)

no_params : (tags : List (List ℕ)) (ms : List Member) → no_members ms ≡ true → params_types tags ms ≡ []
no_params tags [] h = refl
no_params tags (m ∷ ms) h = absurd (false≢true h)

int_result : (tags : List (List ℕ)) (o : Option TypeName) → is_int o ≡ true → result_type tags o ≡ Some kind.Int
int_result tags None h = absurd (false≢true h)
int_result tags (Some written.Int) h = refl
int_result tags (Some written.Char) h = absurd (false≢true h)
int_result tags (Some written.IntPtr) h = absurd (false≢true h)
int_result tags (Some written.CharPtr) h = absurd (false≢true h)
int_result tags (Some (written.StructPtr t)) h = absurd (false≢true h)

-- the first item of the name says what that with the body says
main_says : (t : Tree) → IsWellTyped t → (m : IsMainItem t) (s : Signature) → signature_of (declarations t) main_name ≡ Some s → (s.params ≡ []) × (s.result ≡ Some kind.Int)
main_says t w m s e =
    let keeps = All-contains (KeepsRules (declarations t)) t.procs m.proc (rules_kept t w) m.among in
    let same = agrees_with (declarations t) m.proc s keeps (subst (λ x. signature_of (declarations t) x ≡ Some s) (sym m.named) e) in
    (sym same.0 ∙ no_params (struct_tags t) m.proc.params m.bare, sym same.1 ∙ int_result (struct_tags t) m.proc.result m.int)

pub main_is : (t : Tree) → IsWellTyped t → has_main t ≡ true → (p : ProcInfo) → slice_get (proc_infos t) (main_number t) ≡ Some p → (p.params ≡ 0) × (p.result ≡ Some kind.Int)
main_is t w h p at =
    let m = main_item t h in
    let s = signature_exists t main_name (main_declared t m) in
    let e = entry_of t (main_number t) p at in
    let called = entry_named t main_name (numbered m) in
    let name = same_entry e.0 called.0 (sym e.1 ∙ called.1) called.2 in
    let one = main_says t w m s.0 s.1 in
    let two = says t w (main_number t) e.0 main_name s.0 e.1 name s.1 in
    let none : length e.0.proc.params ≡ 0 = sym (length-map e.0.proc.params (λ (x : Member). slot_type (struct_tags t) x.kind)) ∙ ap length (two.0 ∙ one.0) in
    (ap (λ (x : ProcInfo). x.params) (sym e.2) ∙ none, ap (λ (x : ProcInfo). x.result) (sym e.2) ∙ two.1 ∙ one.1)
  where
    numbered : IsMainItem t → has_name (proc_names t) main_name ≡ true
    numbered m =
        subst (λ ns. has_name ns main_name ≡ true) (sym (names_split t))
        (list_any-append (bytes_eq main_name) (body_names t) (map name_of (external_of t))
        ∙ or_left (has_name (body_names t) main_name) (has_name (map name_of (external_of t)) main_name) (main_bodied t m))

    same_entry : (a b : Entry) → Some a ≡ Some b → name_of b ≡ main_name → name_of a ≡ main_name
    same_entry a b same named = let e : a ≡ b = cc in ap name_of e ∙ named
