-- The sizes of a file's procedures, and the limits that it keeps.
use Rattle.std.proofs.Common.{◌≡◌, ℕ, ◌+◌, ◌≤◌, inl, inr, Bool, true, false, List, [], ◌∷◌, length, map, Option, Some, None, is_some, slice_get, option_map, option_and_then, refl, sym, ap, ◌∙◌, arith}
use Rattle.std.specs.Prelude.{nat_lt, not, ◌&&◌}
use Rattle.std.specs.List.{All, sum_by, find}
use Rattle.std.proofs.lemmas.Bool.{cases_Bool, ltb-false}
use Rattle.std.proofs.lemmas.List.Elements.{All-nil, All-cons, All-head, All-tail, All-weaker}
use Rattle.std.proofs.lemmas.List.Sums.{sum_by-append, sum_by-cons}
use Rattle.c_tree.specs.Plain.{Stmt, Procedure, Tree}
use Rattle.c_tree.specs.Nodes.{stmt_count, proc_size, tree_size}
use Rattle.c_types.specs.declared.infos.StructInfo.{StructInfo}
use Rattle.c_types.specs.declared.infos.ProcInfo.{ProcInfo}
use Rattle.c_types.specs.declared.error.TypeError.{TypeError}
use Rattle.c_types.specs.declared.error.TypeError.TheVariants as refusal
use Rattle.c_types.specs.declared.error.LimitKind.{LimitKind}
use Rattle.c_types.specs.declared.error.LimitKind.TheVariants as limit
use Rattle.c_types.specs.declared.tables.Tables.{Tables}
use Rattle.c_types.specs.Names.{has_name}
use Rattle.c_types.specs.Declarations.{with_body, body_names, declarations}
use Rattle.c_types.specs.Items.{limit_on, or_else, limit_passed, pointer_params, proc_infos}
use Rattle.c_types.specs.Fits.{body_of, size_with}
use Rattle.c_types.proofs.FileProcs.{Entry, info_of, entry_if, bodied, bodied_of, external_of, entries_of, IsExternal, infos_are, all_external, entries_stand}

-- Limits

none_left : (o p : Option TypeError) → or_else o p ≡ None → (o ≡ None) × (p ≡ None)
none_left None p h = (refl, h)
none_left (Some e) p h = absurd (some_none h)
  where
    some_none : Some e ≡ None → ⊥
    some_none g = cc

find_none : (k : LimitKind) (o : Option ℕ) → option_map (λ n. refusal.Limit k n) o ≡ None → o ≡ None
find_none k None h = refl
find_none k (Some n) h = absurd (some_none h)
  where
    some_none : Some (refusal.Limit k n) ≡ None → ⊥
    some_none g = cc

none_over : (most : ℕ) (ns : List ℕ) → find (λ n. nat_lt most n) ns ≡ None → All (λ n. n ≤ most) ns
none_over most [] h = All-nil (λ n. n ≤ most)
none_over most (n ∷ ns) h = elim (cases_Bool (nat_lt most n)) [
  | inl e ↦ absurd (some_none (rw e at h))
  | inr e ↦ All-cons (λ n. n ≤ most) n ns (ltb-false most n e) (none_over most ns (rw e at h))
]
  where
    some_none : Some n ≡ None → ⊥
    some_none g = cc

within : (k : LimitKind) (most : ℕ) (ns : List ℕ) → limit_on k most ns ≡ None → All (λ n. n ≤ most) ns
within k most ns h = none_over most ns (find_none k (find (λ n. nat_lt most n) ns) h)

all_mapped : {X Y : Type 0} (P : Y → Type 0) (f : X → Y) (xs : List X) → All P (map f xs) → All (λ x. P (f x)) xs
all_mapped P f [] h = All-nil (λ x. P (f x))
all_mapped P f (x ∷ xs) h = All-cons (λ x. P (f x)) x xs (All-head P (f x) (map f xs) h) (all_mapped P f xs (All-tail P (f x) (map f xs) h))

-- no limit is passed
pub record KeepsLimits (ss : List StructInfo) (ps : List ProcInfo) : Type 0 where
  pub struct_count : length ss ≤ 1024
  pub member_count : All (λ s. length s.members ≤ 64) ss
  pub proc_count : length ps ≤ 4096
  pub param_count : All (λ p. pointer_params p ≤ 8) ps

pub limits_kept : (ss : List StructInfo) (ps : List ProcInfo) → limit_passed ss ps ≡ None → KeepsLimits ss ps
unfolding limit_passed
limits_kept ss ps h =
    let structs = limit_on limit.Structs 1024 (length ss ∷ []) in
    let fields = limit_on limit.Fields 64 (map (λ s. length s.members) ss) in
    let procs = limit_on limit.Procs 4096 (length ps ∷ []) in
    let params = limit_on limit.Params 8 (map pointer_params ps) in
    let a = none_left structs (or_else fields (or_else procs params)) h in
    let b = none_left fields (or_else procs params) a.1 in
    let c = none_left procs params b.1 in
    record {
      struct_count = All-head (λ n. n ≤ 1024) (length ss) [] (within limit.Structs 1024 (length ss ∷ []) a.0);
      member_count = all_mapped (λ n. n ≤ 64) (λ (s : StructInfo). length s.members) ss (within limit.Fields 64 (map (λ s. length s.members) ss) b.0);
      proc_count = All-head (λ n. n ≤ 4096) (length ps) [] (within limit.Procs 4096 (length ps ∷ []) c.0);
      param_count = all_mapped (λ n. n ≤ 8) pointer_params ps (within limit.Params 8 (map pointer_params ps) c.1);
    }

-- Sizes

sum_mapped : {X Y : Type 0} (f : Y → ℕ) (g : X → Y) (xs : List X) → sum_by f (map g xs) ≡ sum_by (λ x. f (g x)) xs
sum_mapped f g [] = refl
sum_mapped f g (x ∷ xs) = sum_by-cons f (g x) (map g xs) ∙ ap (λ n. f (g x) + n) (sum_mapped f g xs) ∙ sym (sum_by-cons (λ x. f (g x)) x xs)

sum_agree : {X : Type 0} (f g : X → ℕ) (xs : List X) → All (λ x. f x ≡ g x) xs → sum_by f xs ≡ sum_by g xs
sum_agree f g [] h = refl
sum_agree f g (x ∷ xs) h =
    let a = All-head (λ x. f x ≡ g x) x xs h in
    let b = sum_agree f g xs (All-tail (λ x. f x ≡ g x) x xs h) in
    omega (arith, a, b, sum_by-cons f x xs, sum_by-cons g x xs)

sum_none : {X : Type 0} (f : X → ℕ) (xs : List X) → All (λ x. f x ≡ 0) xs → sum_by f xs ≡ 0
sum_none f [] h = refl
sum_none f (x ∷ xs) h =
    let a = All-head (λ x. f x ≡ 0) x xs h in
    let b = sum_none f xs (All-tail (λ x. f x ≡ 0) x xs h) in
    omega (arith, a, b, sum_by-cons f x xs)

abbrev weight : ℕ → Option Stmt → ℕ
weight n None = 0
weight n (Some s) = 1 + n + stmt_count s

abbrev entry_size : Entry → ℕ
entry_size e = weight (length e.proc.params) e.proc.body

size_is : (p : ProcInfo) (o : Option Stmt) → size_with p o ≡ weight p.params o
size_is p None = refl
size_is p (Some s) = refl

entry_size_is : (t : Tree) (c : Tables) (e : Entry) → slice_get t.procs e.item ≡ Some e.proc → size_with (info_of c e) (body_of t (info_of c e)) ≡ entry_size e
entry_size_is t c e h = ap (λ o. size_with (info_of c e) (option_and_then (λ (p : Procedure). p.body) o)) h ∙ size_is (info_of c e) e.proc.body

item_size : (p : Procedure) (o : Option Stmt) → p.body ≡ o → weight (length p.params) o ≤ proc_size p
item_size p None e = omega arith
item_size p (Some s) e = rw e (omega arith)

chosen_size : (b : Bool) (i : ℕ) (p : Procedure) → sum_by entry_size (entry_if b i p) ≤ proc_size p
chosen_size false i p = omega arith
chosen_size true i p = let a = item_size p p.body refl in omega (arith, a)

bodied_size : (seen : List (List ℕ)) (i : ℕ) (ps : List Procedure) → sum_by entry_size (bodied seen i ps) ≤ sum_by proc_size ps
bodied_size seen i [] = omega arith
bodied_size seen i (p ∷ ps) =
    let b = is_some p.body && not (has_name seen p.name) in
    let a = sum_by-append entry_size (entry_if b i p) (bodied (with_body seen p) (i + 1) ps) in
    let k = chosen_size b i p in
    let r = bodied_size (with_body seen p) (i + 1) ps in
    omega (arith, a, k, r, sum_by-cons proc_size p ps)

no_weight : (n : ℕ) (o : Option Stmt) → is_some o ≡ false → weight n o ≡ 0
no_weight n None h = refl
no_weight n (Some s) h = absurd (true_false h)
  where
    true_false : true ≡ false → ⊥
    true_false g = cc

external_size : (t : Tree) → sum_by entry_size (external_of t) ≡ 0
external_size t =
    sum_none entry_size (external_of t)
    (All-weaker (IsExternal t.procs (body_names t)) (λ e. entry_size e ≡ 0) (λ e x. no_weight (length e.proc.params) e.proc.body x.bare) (external_of t) (all_external t))

-- no item is that of two procedures with a body
pub procs_size : (t : Tree) → sum_by (λ p. size_with p (body_of t p)) (proc_infos t) ≤ tree_size t
procs_size t =
    let c = declarations t in
    let size = λ (p : ProcInfo). size_with p (body_of t p) in
    let entries = ap (sum_by size) (infos_are t) ∙ sum_mapped size (info_of c) (entries_of t) in
    let each : All (λ e. size_with (info_of c e) (body_of t (info_of c e)) ≡ entry_size e) (entries_of t) =
    All-weaker (λ e. slice_get t.procs e.item ≡ Some e.proc) (λ e. size_with (info_of c e) (body_of t (info_of c e)) ≡ entry_size e) (λ e h. entry_size_is t c e h) (entries_of t) (entries_stand t) in
    let agree = sum_agree (λ e. size (info_of c e)) entry_size (entries_of t) each in
    let both = sum_by-append entry_size (bodied_of t) (external_of t) in
    let most = bodied_size [] 0 t.procs in
    let none = external_size t in
    omega (arith, entries, agree, both, most, none)
