-- What is known of each procedure's item where no rule is broken.
use Rattle.std.proofs.Common.{◌≡◌, ℕ, Bool, true, false, not, ◌&&◌, List, [], ◌∷◌, ◌++◌, Option, Some, None, is_some, refl, ap}
use Rattle.std.specs.List.{All}
use Rattle.std.specs.Option.{option_map_or}
use Rattle.std.proofs.lemmas.Bool.{false≢true, and_parts, or_parts, not-false, eqb-true}
use Rattle.std.proofs.lemmas.List.Elements.{All-nil, All-cons}
use Rattle.c_tree.specs.declared.position.Span.{Span}
use Rattle.c_tree.specs.Plain.{Procedure, Tree}
use Rattle.c_types.specs.declared.kinds.SlotType.{SlotType}
use Rattle.c_types.specs.declared.kinds.SlotType.TheVariants as kind
use Rattle.c_types.specs.declared.tables.Signature.{Signature}
use Rattle.c_types.specs.declared.tables.Tables.{Tables}
use Rattle.c_types.specs.Names.{has_name}
use Rattle.c_types.specs.Types.{is_pointer, same_type, same_types, same_result, same_signature}
use Rattle.c_types.specs.Breaches.{listed, breach, breach_if}
use Rattle.c_types.specs.Declarations.{with_body, declarations, signature, signature_of, result_type, has_body}
use Rattle.c_types.specs.Scopes.{no_scope, with_params}
use Rattle.c_types.specs.Items.{breaks_3, breaks_4, structs_breaches, params_breaches, body_breaches, proc_breaches, procs_breaches, tree_breaches, IsWellTyped}

-- Types that are the same

same_type_is : (k l : SlotType) → same_type k l ≡ true → k ≡ l
same_type_is kind.Int kind.Int h = refl
same_type_is kind.Char kind.Char h = refl
same_type_is kind.IntPtr kind.IntPtr h = refl
same_type_is kind.CharPtr kind.CharPtr h = refl
same_type_is (kind.StructPtr n) (kind.StructPtr m) h = ap kind.StructPtr (eqb-true n m h)
same_type_is k l h = absurd (false≢true h)

same_types_are : (ks ls : List SlotType) → same_types ks ls ≡ true → ks ≡ ls
same_types_are [] [] h = refl
same_types_are [] (l ∷ ls) h = absurd (false≢true h)
same_types_are (k ∷ ks) [] h = absurd (false≢true h)
same_types_are (k ∷ ks) (l ∷ ls) h =
    let p = and_parts (same_type k l) (same_types ks ls) h in
    let e = same_type_is k l p.0 in
    let r = same_types_are ks ls p.1 in
    cc

same_result_is : (r q : Option SlotType) → same_result r q ≡ true → r ≡ q
same_result_is None None h = refl
same_result_is None (Some l) h = absurd (false≢true h)
same_result_is (Some k) None h = absurd (false≢true h)
same_result_is (Some k) (Some l) h = ap Some (same_type_is k l h)

pub same_signature_is : (p q : Signature) → same_signature p q ≡ true → (p.params ≡ q.params) × (p.result ≡ q.result)
same_signature_is p q h =
    let b = and_parts (same_types p.params q.params) (same_result p.result q.result) h in
    (same_types_are p.params q.params b.0, same_result_is p.result q.result b.1)

-- Rules that are kept

no_parts : {X : Type 0} (xs ys : List X) → xs ++ ys ≡ [] → (xs ≡ []) × (ys ≡ [])
no_parts [] ys h = (refl, h)
no_parts (x ∷ xs) ys h = absurd (cons_nil h)
  where
    cons_nil : x ∷ (xs ++ ys) ≡ [] → ⊥
    cons_nil e = cc

not_broken : (b : Bool) (at : Span) (r : ℕ) → breach_if listed b at r ≡ [] → b ≡ false
not_broken false at r h = refl
not_broken true at r h = absurd (cons_nil h)
  where
    cons_nil : breach at r ∷ [] ≡ [] → ⊥
    cons_nil e = cc

-- what the rules say of one item
pub record KeepsRules (c : Tables) (p : Procedure) : Type 0 where
  pub agrees : option_map_or (same_signature (signature c.tags p)) (signature_of c p.name) true ≡ true
  pub bare : (not (has_body c p.name) && option_map_or is_pointer (result_type c.tags p.result) false) ≡ false
  pub body : body_breaches listed c (result_type c.tags p.result) (with_params c.tags no_scope p.params) p.body ≡ []

proc_keeps : (c : Tables) (bodied : List (List ℕ)) (p : Procedure) → proc_breaches listed c bodied p ≡ [] → KeepsRules c p
proc_keeps c bodied p h =
    let params = params_breaches listed c no_scope p.params in
    let body = body_breaches listed c (result_type c.tags p.result) (with_params c.tags no_scope p.params) p.body in
    let four = breach_if listed (breaks_4 c p) p.at 4 in
    let a = no_parts (breach_if listed (breaks_3 c bodied p) p.at 3) (four ++ (params ++ body)) h in
    let b = no_parts four (params ++ body) a.1 in
    let d = no_parts params body b.1 in
    let same = option_map_or (same_signature (signature c.tags p)) (signature_of c p.name) true in
    let three = or_parts (not same) (is_some p.body && has_name bodied p.name) (not_broken (breaks_3 c bodied p) p.at 3 a.0) in
    record { agrees = not-false same three.0; bare = not_broken (breaks_4 c p) p.at 4 b.0; body = d.1 }

procs_keep : (c : Tables) (bodied : List (List ℕ)) (ps : List Procedure) → procs_breaches listed c bodied ps ≡ [] → All (KeepsRules c) ps
procs_keep c bodied [] h = All-nil (KeepsRules c)
procs_keep c bodied (p ∷ ps) h =
    let a = no_parts (proc_breaches listed c bodied p) (procs_breaches listed c (with_body bodied p) ps) h in
    All-cons (KeepsRules c) p ps (proc_keeps c bodied p a.0) (procs_keep c (with_body bodied p) ps a.1)

pub rules_kept : (t : Tree) → IsWellTyped t → All (KeepsRules (declarations t)) t.procs
unfolding tree_breaches
rules_kept t h =
    let a = no_parts (structs_breaches listed [] t.structs) (procs_breaches listed (declarations t) [] t.procs) h in
    procs_keep (declarations t) [] t.procs a.1

-- where the first item of the name says this, the others say it too
pub agrees_with : (c : Tables) (p : Procedure) (s : Signature) → KeepsRules c p → signature_of c p.name ≡ Some s
    → ((signature c.tags p).params ≡ s.params) × ((signature c.tags p).result ≡ s.result)
agrees_with c p s k e = same_signature_is (signature c.tags p) s (rw e at k.agrees)

-- a procedure of which no item has a body gives back no pointer
pub gives_no_pointer : (c : Tables) (p : Procedure) (k : SlotType) → KeepsRules c p → has_body c p.name ≡ false → result_type c.tags p.result ≡ Some k → is_pointer k ≡ false
gives_no_pointer c p k r none e = rw (none, e) at r.bare
