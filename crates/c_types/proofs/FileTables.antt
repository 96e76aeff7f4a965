-- The declarations of a file are those of its structs and procedures.
use Rattle.std.proofs.Common.{◌≡◌, ℕ, ◌≤◌, inl, inr, true, List, [], ◌∷◌, ◌++◌, length, map, Some, slice_get, option_map, refl, sym, ap, ◌∙◌, subst, append_assoc, append-nil, arith}
use Rattle.std.specs.Prelude.{if◌then◌else◌}
use Rattle.std.specs.List.{All}
use Rattle.std.proofs.lemmas.Bool.{cases_Bool}
use Rattle.std.proofs.lemmas.List.{length-map}
use Rattle.std.proofs.lemmas.List.Elements.{All-nil, All-cons, All-head, All-tail}
use Rattle.std.proofs.lemmas.Option.{slice_get-map, slice_get_within}
use Rattle.c_tree.specs.Plain.{Procedure, Tree}
use Rattle.c_types.specs.declared.infos.ProcInfo.{ProcInfo}
use Rattle.c_types.specs.declared.tables.Signature.{Signature}
use Rattle.c_types.specs.Names.{has_name, with_name, with_names}
use Rattle.c_types.specs.Declarations.{struct_tags, struct_infos, body_names, proc_names, declared_names, signature, signatures_from, signatures, declarations, signature_of}
use Rattle.c_types.specs.Items.{IsWellTyped, proc_infos}
use Rattle.c_types.proofs.Settings.{IsCallee, SignatureExists, AreTables}
use Rattle.c_types.proofs.FileNames.{place, place_at, has_from_place, position_at, slice_get_mapped, all_at, name_again, name_new, grows_itself, names_added}
use Rattle.c_types.proofs.FileTags.{HasProc, all_procs}
use Rattle.c_types.proofs.FileSlots.{types_exist, result_exists, params_are}
use Rattle.c_types.proofs.FileStructs.{struct_count, defined_count, members_exist}
use Rattle.c_types.proofs.FileProcs.{Entry, name_of, info_of, entries_of, infos_are, names_are, entries_stand}
use Rattle.c_types.proofs.FileRules.{KeepsRules, rules_kept, agrees_with}

-- the first item of each name, where these names stand before
abbrev firsts : List (List ℕ) → List Procedure → List Procedure
firsts seen [] = []
firsts seen (p ∷ ps) = if has_name seen p.name then firsts (with_name seen p.name) ps else p ∷ firsts (with_name seen p.name) ps

signatures_are : (tags seen : List (List ℕ)) (ps : List Procedure) → signatures_from tags seen ps ≡ map (signature tags) (firsts seen ps)
signatures_are tags seen [] = refl
signatures_are tags seen (p ∷ ps) = elim (cases_Bool (has_name seen p.name)) [
  | inl e ↦ rw e (signatures_are tags (with_name seen p.name) ps)
  | inr e ↦ rw e (ap (λ xs. signature tags p ∷ xs) (signatures_are tags (with_name seen p.name) ps))
]

firsts_named : (seen : List (List ℕ)) (ps : List Procedure) → with_names seen (map (λ p. p.name) ps) ≡ seen ++ map (λ p. p.name) (firsts seen ps)
firsts_named seen [] = sym (append-nil seen)
firsts_named seen (p ∷ ps) = elim (cases_Bool (has_name seen p.name)) [
  | inl e ↦ rw e (firsts_named (with_name seen p.name) ps ∙ ap (λ ns. ns ++ map (λ q. q.name) (firsts (with_name seen p.name) ps)) (name_again seen p.name e))
  | inr e ↦ rw e
      (firsts_named (with_name seen p.name) ps
      ∙ ap (λ ns. ns ++ map (λ q. q.name) (firsts (with_name seen p.name) ps)) (name_new seen p.name e)
      ∙ append_assoc seen (p.name ∷ []) (map (λ q. q.name) (firsts (with_name seen p.name) ps)))
]

firsts_all : (P : Procedure → Type 0) (seen : List (List ℕ)) (ps : List Procedure) → All P ps → All P (firsts seen ps)
firsts_all P seen [] h = All-nil P
firsts_all P seen (p ∷ ps) h =
    let rest = firsts_all P (with_name seen p.name) ps (All-tail P p ps h) in
    elim (cases_Bool (has_name seen p.name)) [
      | inl e ↦ rw e rest
      | inr e ↦ rw e (All-cons P p (firsts (with_name seen p.name) ps) (All-head P p ps h) rest)
    ]

abbrev firsts_of : Tree → List Procedure
firsts_of t = firsts [] t.procs

signatures_of : (t : Tree) → signatures t ≡ map (signature (struct_tags t)) (firsts_of t)
unfolding signatures
signatures_of t = signatures_are (struct_tags t) [] t.procs

declared_of : (t : Tree) → declared_names t ≡ map (λ p. p.name) (firsts_of t)
unfolding declared_names
declared_of t = firsts_named [] t.procs

pub all_declared : (t : Tree) → All (λ p. has_name (declared_names t) p.name ≡ true) t.procs
unfolding declared_names
all_declared t = names_added (λ (p : Procedure). p.name) (declared_names t) [] t.procs (grows_itself (declared_names t))

all_numbered : (t : Tree) → All (λ p. has_name (proc_names t) p.name ≡ true) t.procs
unfolding proc_names
all_numbered t = names_added (λ (p : Procedure). p.name) (proc_names t) (body_names t) t.procs (grows_itself (proc_names t))

-- the first item of a name
record IsFirst (t : Tree) (f : List ℕ) (q : Procedure) : Type 0 where
  at : ℕ
  is : slice_get (firsts_of t) at ≡ Some q
  name : q.name ≡ f

pub signature_exists : (t : Tree) (f : List ℕ) → has_name (declared_names t) f ≡ true → (s : Signature) × (signature_of (declarations t) f ≡ Some s)
signature_exists t f h =
    let k = place (declared_names t) f in
    let at = ap (λ ns. slice_get ns k) (sym (declared_of t)) ∙ place_at (declared_names t) f h in
    let q = slice_get_mapped (λ (p : Procedure). p.name) (firsts_of t) k f at in
    (signature (struct_tags t) q.0, ap (λ ss. slice_get ss k) (signatures_of t) ∙ slice_get-map (signature (struct_tags t)) (firsts_of t) k ∙ ap (option_map (signature (struct_tags t))) q.1)

first_of : (t : Tree) (f : List ℕ) (s : Signature) → signature_of (declarations t) f ≡ Some s → (q : Procedure) × IsFirst t f q × (signature (struct_tags t) q ≡ s)
first_of t f s h =
    let k = place (declared_names t) f in
    let q = slice_get_mapped (signature (struct_tags t)) (firsts_of t) k s (ap (λ ss. slice_get ss k) (sym (signatures_of t)) ∙ h) in
    let within = slice_get_within (firsts_of t) k q.0 q.1 in
    let count = ap length (declared_of t) ∙ length-map (firsts_of t) (λ (p : Procedure). p.name) in
    let here = place_at (declared_names t) f (has_from_place (declared_names t) f (omega (arith, within, count))) in
    let there = ap (λ ns. slice_get ns k) (declared_of t) ∙ slice_get-map (λ (p : Procedure). p.name) (firsts_of t) k ∙ ap (option_map (λ (p : Procedure). p.name)) q.1 in
    let same : q.0.name ≡ f = cc in
    (q.0, record { at = k; is = q.1; name = same }, q.2)

pub tags_fit : (t : Tree) → length (struct_tags t) ≤ length (struct_infos t)
tags_fit t = let a = struct_count t in omega (arith, a)

signature_known : (t : Tree) (f : List ℕ) (s : Signature) → signature_of (declarations t) f ≡ Some s → SignatureExists (struct_infos t) s
signature_known t f s h =
    let q = first_of t f s h in
    let has = all_at (HasProc (struct_tags t)) (firsts_of t) q.1.at q.0 (firsts_all (HasProc (struct_tags t)) [] t.procs (all_procs t)) q.1.is in
    let ss = struct_infos t in
    let c = declarations t in
    subst (SignatureExists ss) q.2 (record { params = types_exist ss c (tags_fit t) q.0 has; result = result_exists ss c (tags_fit t) q.0 has })

pub stands_at : (t : Tree) (k : ℕ) (e : Entry) → slice_get (entries_of t) k ≡ Some e → slice_get t.procs e.item ≡ Some e.proc
stands_at t k e h =
    all_at (λ e. slice_get t.procs e.item ≡ Some e.proc) (entries_of t) k e (entries_stand t) h

pub rules_at : (t : Tree) → IsWellTyped t → (k : ℕ) (e : Entry) → slice_get (entries_of t) k ≡ Some e → KeepsRules (declarations t) e.proc
rules_at t w k e h = all_at (KeepsRules (declarations t)) t.procs e.item e.proc (rules_kept t w) (stands_at t k e h)

pub tags_at : (t : Tree) (k : ℕ) (e : Entry) → slice_get (entries_of t) k ≡ Some e → HasProc (struct_tags t) e.proc
tags_at t k e h = all_at (HasProc (struct_tags t)) t.procs e.item e.proc (all_procs t) (stands_at t k e h)

-- the procedure of a number, and what it is called
pub entry_of : (t : Tree) (k : ℕ) (p : ProcInfo) → slice_get (proc_infos t) k ≡ Some p → (e : Entry) × (slice_get (entries_of t) k ≡ Some e) × (info_of (declarations t) e ≡ p)
entry_of t k p h = slice_get_mapped (info_of (declarations t)) (entries_of t) k p (ap (λ ps. slice_get ps k) (sym (infos_are t)) ∙ h)

pub entry_named : (t : Tree) (f : List ℕ) → has_name (proc_names t) f ≡ true → (e : Entry) × (slice_get (entries_of t) (place (proc_names t) f) ≡ Some e) × (name_of e ≡ f)
entry_named t f h =
    let k = place (proc_names t) f in
    slice_get_mapped name_of (entries_of t) k f (ap (λ ns. slice_get ns k) (sym (names_are t)) ∙ place_at (proc_names t) f h)

pub info_at : (t : Tree) (k : ℕ) (e : Entry) → slice_get (entries_of t) k ≡ Some e → slice_get (proc_infos t) k ≡ Some (info_of (declarations t) e)
info_at t k e h = ap (λ ps. slice_get ps k) (infos_are t) ∙ slice_get-map (info_of (declarations t)) (entries_of t) k ∙ ap (option_map (info_of (declarations t))) h

-- what the first item of its name says
pub says : (t : Tree) → IsWellTyped t → (k : ℕ) (e : Entry) (f : List ℕ) (s : Signature) → slice_get (entries_of t) k ≡ Some e → name_of e ≡ f → signature_of (declarations t) f ≡ Some s
    → ((signature (struct_tags t) e.proc).params ≡ s.params) × ((signature (struct_tags t) e.proc).result ≡ s.result)
says t w k e f s h same is = agrees_with (declarations t) e.proc s (rules_at t w k e h) (subst (λ x. signature_of (declarations t) x ≡ Some s) (sym same) is)

callee_of : (t : Tree) → IsWellTyped t → (f : List ℕ) (s : Signature) → signature_of (declarations t) f ≡ Some s → IsCallee (declarations t) (proc_infos t) f s
callee_of t w f s h =
    let c = declarations t in
    let q = first_of t f s h in
    let known = all_at (λ p. has_name (proc_names t) p.name ≡ true) (firsts_of t) q.1.at q.0 (firsts_all (λ p. has_name (proc_names t) p.name ≡ true) [] t.procs (all_numbered t)) q.1.is in
    let has = subst (λ x. has_name (proc_names t) x ≡ true) q.1.name known in
    let k = place (proc_names t) f in
    let e = entry_named t f has in
    let same = says t w k e.0 f s e.1 e.2 h in
    record {
      number = k;
      is = position_at (proc_names t) f has;
      info = info_of c e.0;
      has = info_at t k e.0 e.1;
      params = params_are (struct_infos t) c (tags_fit t) e.0.proc (tags_at t k e.0 e.1) e.0.item ∙ same.0;
      result = same.1;
    }

pub are_tables : (t : Tree) → IsWellTyped t → AreTables (declarations t) (struct_infos t) (proc_infos t)
are_tables t w = record {
  structs = refl;
  defined = defined_count t;
  members_exist = members_exist t;
  callee = callee_of t w;
  exist = signature_known t;
}
