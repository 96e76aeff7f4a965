-- The procedures of a file by number: those with a body first, then the others, each with its item.
use Rattle.std.proofs.Common.{◌≡◌, ℕ, suc, ◌+◌, inl, inr, Bool, true, false, not, ◌&&◌, List, [], ◌∷◌, ◌++◌, length, map, Option, Some, None, is_some, is_none, slice_get, refl, sym, ap, ◌∙◌, append_assoc, append-nil, arith}
use Rattle.std.specs.List.{All}
use Rattle.std.proofs.lemmas.Bool.{cases_Bool, false≢true}
use Rattle.std.proofs.lemmas.List.{length-map, map-append}
use Rattle.std.proofs.lemmas.List.Elements.{All-nil, All-cons, All-append, All-weaker}
use Rattle.c_tree.specs.Plain.{Stmt, Procedure, Tree}
use Rattle.c_types.specs.declared.infos.ProcInfo.{ProcInfo}
use Rattle.c_types.specs.declared.tables.Tables.{Tables}
use Rattle.c_types.specs.Names.{has_name, with_name, with_names}
use Rattle.c_types.specs.Declarations.{with_body, with_bodies, body_names, proc_names, declarations}
use Rattle.c_types.specs.Items.{proc_info, chosen, with_prototype, bodied_infos, external_infos, proc_infos}
use Rattle.c_types.proofs.FileNames.{Grows, grows_itself, grows_over, grows_name, named, name_again, name_new}

-- a procedure's item, and its place in the file
pub record Entry : Type 0 where
  pub item : ℕ
  pub proc : Procedure

abbrev pub name_of : Entry → List ℕ
name_of e = e.proc.name

abbrev pub info_of : Tables → Entry → ProcInfo
info_of c e = proc_info c e.item e.proc

abbrev pub entry_if : Bool → ℕ → Procedure → List Entry
entry_if false i p = []
entry_if true i p = record { item = i; proc = p } ∷ []

-- the items that procedures with a body have, from a place on, where these names have one before
abbrev pub bodied : List (List ℕ) → ℕ → List Procedure → List Entry
bodied seen i [] = []
bodied seen i (p ∷ ps) = entry_if (is_some p.body && not (has_name seen p.name)) i p ++ bodied (with_body seen p) (i + 1) ps

-- those of the others
abbrev pub external : List (List ℕ) → ℕ → List Procedure → List Entry
external known i [] = []
external known i (p ∷ ps) = entry_if (is_none p.body && not (has_name known p.name)) i p ++ external (with_prototype known p) (i + 1) ps

-- What they are

chosen_are : (c : Tables) (b : Bool) (i : ℕ) (p : Procedure) → chosen b (proc_info c i p) ≡ map (info_of c) (entry_if b i p)
chosen_are c false i p = refl
chosen_are c true i p = refl

bodied_are : (c : Tables) (seen : List (List ℕ)) (i : ℕ) (ps : List Procedure) → bodied_infos c seen i ps ≡ map (info_of c) (bodied seen i ps)
bodied_are c seen i [] = refl
bodied_are c seen i (p ∷ ps) =
    let b = is_some p.body && not (has_name seen p.name) in
    ap (λ xs. xs ++ bodied_infos c (with_body seen p) (i + 1) ps) (chosen_are c b i p)
    ∙ ap (λ xs. map (info_of c) (entry_if b i p) ++ xs) (bodied_are c (with_body seen p) (i + 1) ps)
    ∙ sym (map-append (info_of c) (entry_if b i p) (bodied (with_body seen p) (i + 1) ps))

external_are : (c : Tables) (known : List (List ℕ)) (i : ℕ) (ps : List Procedure) → external_infos c known i ps ≡ map (info_of c) (external known i ps)
external_are c known i [] = refl
external_are c known i (p ∷ ps) =
    let b = is_none p.body && not (has_name known p.name) in
    ap (λ xs. xs ++ external_infos c (with_prototype known p) (i + 1) ps) (chosen_are c b i p)
    ∙ ap (λ xs. map (info_of c) (entry_if b i p) ++ xs) (external_are c (with_prototype known p) (i + 1) ps)
    ∙ sym (map-append (info_of c) (entry_if b i p) (external (with_prototype known p) (i + 1) ps))

-- Their names

body_name : (seen : List (List ℕ)) (i : ℕ) (p : Procedure) → with_body seen p ≡ seen ++ map name_of (entry_if (is_some p.body && not (has_name seen p.name)) i p)
body_name seen i p = elim (cases_Bool (is_some p.body)) [
  | inr none ↦ rw none (sym (append-nil seen))
  | inl some ↦ elim (cases_Bool (has_name seen p.name)) [
    | inl e ↦ rw (some, e) (name_again seen p.name e ∙ sym (append-nil seen))
    | inr e ↦ rw (some, e) (name_new seen p.name e)
  ]
]

pub bodies_named : (seen : List (List ℕ)) (i : ℕ) (ps : List Procedure) → with_bodies seen ps ≡ seen ++ map name_of (bodied seen i ps)
bodies_named seen i [] = sym (append-nil seen)
bodies_named seen i (p ∷ ps) =
    let es = entry_if (is_some p.body && not (has_name seen p.name)) i p in
    let fs = bodied (with_body seen p) (i + 1) ps in
    bodies_named (with_body seen p) (i + 1) ps
    ∙ ap (λ ns. ns ++ map name_of fs) (body_name seen i p)
    ∙ append_assoc seen (map name_of es) (map name_of fs)
    ∙ ap (λ ns. seen ++ ns) (sym (map-append name_of es fs))

grows_with_body : (ns : List (List ℕ)) (p : Procedure) → Grows ns (with_body ns p)
grows_with_body ns p = elim (cases_Bool (is_some p.body)) [ inl e ↦ rw e (grows_name ns p.name) | inr e ↦ rw e (grows_itself ns) ]

grows_bodies : (ns : List (List ℕ)) (ps : List Procedure) → Grows ns (with_bodies ns ps)
grows_bodies ns [] = grows_itself ns
grows_bodies ns (p ∷ ps) = grows_over (grows_with_body ns p) (grows_bodies (with_body ns p) ps)

grows_prototype : (ns : List (List ℕ)) (p : Procedure) → Grows ns (with_prototype ns p)
grows_prototype ns p = elim (cases_Bool (is_some p.body)) [ inl e ↦ rw e (grows_itself ns) | inr e ↦ rw e (grows_name ns p.name) ]

body_has_name : (ns : List (List ℕ)) (p : Procedure) → is_some p.body ≡ true → has_name (with_body ns p) p.name ≡ true
body_has_name ns p e = rw e (named ns p.name)

none_from_some : (o : Option Stmt) → is_none o ≡ not (is_some o)
none_from_some None = refl
none_from_some (Some s) = refl

-- a name more, where the names with a body are known
prototype_name : (known : List (List ℕ)) (i : ℕ) (p : Procedure) → (is_some p.body ≡ true → has_name known p.name ≡ true)
    → (with_name known p.name ≡ known ++ map name_of (entry_if (is_none p.body && not (has_name known p.name)) i p)) × (with_name known p.name ≡ with_prototype known p)
prototype_name known i p h = elim (cases_Bool (is_some p.body)) [
  | inl some ↦ let again = name_again known p.name (h some) in rw (none_from_some p.body, some) (again ∙ sym (append-nil known), again)
  | inr none ↦ elim (cases_Bool (has_name known p.name)) [
    | inl e ↦ rw (none_from_some p.body, none, e) (name_again known p.name e ∙ sym (append-nil known), refl)
    | inr e ↦ rw (none_from_some p.body, none, e) (name_new known p.name e, refl)
  ]
]

pub externals_named : (known ns : List (List ℕ)) (i : ℕ) (ps : List Procedure) → Grows (with_bodies ns ps) known
    → with_names known (map (λ p. p.name) ps) ≡ known ++ map name_of (external known i ps)
externals_named known ns i [] g = sym (append-nil known)
externals_named known ns i (p ∷ ps) g =
    let es = entry_if (is_none p.body && not (has_name known p.name)) i p in
    let fs = external (with_prototype known p) (i + 1) ps in
    let has = λ (e : is_some p.body ≡ true). g.keeps p.name ((grows_bodies (with_body ns p) ps).keeps p.name (body_has_name ns p e)) in
    let n = prototype_name known i p has in
    ap (λ ks. with_names ks (map (λ q. q.name) ps)) n.1
    ∙ externals_named (with_prototype known p) (with_body ns p) (i + 1) ps (grows_over g (grows_prototype known p))
    ∙ ap (λ ks. ks ++ map name_of fs) (sym n.1 ∙ n.0)
    ∙ append_assoc known (map name_of es) (map name_of fs)
    ∙ ap (λ ks. known ++ ks) (sym (map-append name_of es fs))

-- What is known of each

abbrev Stands : List Procedure → Entry → Type 0
Stands qs e = slice_get qs e.item ≡ Some e.proc

-- the items ps are those of qs from a place on
abbrev Aligned : List Procedure → ℕ → List Procedure → Type 0
Aligned qs i ps = (k : ℕ) → slice_get qs (i + k) ≡ slice_get ps k

pub record IsBodied (qs : List Procedure) (e : Entry) : Type 0 where
  pub stands : slice_get qs e.item ≡ Some e.proc
  pub has : is_some e.proc.body ≡ true

pub record IsExternal (qs : List Procedure) (bodies : List (List ℕ)) (e : Entry) : Type 0 where
  pub stands : slice_get qs e.item ≡ Some e.proc
  pub bare : is_some e.proc.body ≡ false
  pub unnamed : has_name bodies e.proc.name ≡ false

first_aligned : (qs : List Procedure) (i : ℕ) (p : Procedure) (ps : List Procedure) → Aligned qs i (p ∷ ps) → slice_get qs i ≡ Some p
first_aligned qs i p ps h = ap (slice_get qs) here ∙ h 0
  where
    here : i ≡ i + 0
    here = omega arith

rest_aligned : (qs : List Procedure) (i : ℕ) (p : Procedure) (ps : List Procedure) → Aligned qs i (p ∷ ps) → Aligned qs (i + 1) ps
rest_aligned qs i p ps h k = ap (slice_get qs) next ∙ h (suc k)
  where
    next : i + 1 + k ≡ i + suc k
    next = omega arith

one_entry : (P : Entry → Type 0) (b : Bool) (i : ℕ) (p : Procedure) → (b ≡ true → P (record { item = i; proc = p })) → All P (entry_if b i p)
one_entry P false i p h = All-nil P
one_entry P true i p h = All-cons P (record { item = i; proc = p }) [] (h refl) (All-nil P)

both_true : (a b : Bool) → (a && b) ≡ true → (a ≡ true) × (b ≡ true)
both_true true b h = (refl, h)
both_true false b h = absurd (false≢true h)

pub are_bodied : (qs : List Procedure) (seen : List (List ℕ)) (i : ℕ) (ps : List Procedure) → Aligned qs i ps → All (IsBodied qs) (bodied seen i ps)
are_bodied qs seen i [] h = All-nil (IsBodied qs)
are_bodied qs seen i (p ∷ ps) h =
    let b = is_some p.body && not (has_name seen p.name) in
    All-append (IsBodied qs) (entry_if b i p) (bodied (with_body seen p) (i + 1) ps)
    (one_entry (IsBodied qs) b i p (λ e. record { stands = first_aligned qs i p ps h; has = (both_true (is_some p.body) (not (has_name seen p.name)) e).0 }))
    (are_bodied qs (with_body seen p) (i + 1) ps (rest_aligned qs i p ps h))

external_here : (qs : List Procedure) (bodies known : List (List ℕ)) (i : ℕ) (p : Procedure) → Grows bodies known → slice_get qs i ≡ Some p
    → (is_none p.body && not (has_name known p.name)) ≡ true → IsExternal qs bodies (record { item = i; proc = p })
external_here qs bodies known i p g at e =
    let parts = both_true (is_none p.body) (not (has_name known p.name)) e in
    record { stands = at; bare = bare p.body parts.0; unnamed = unnamed (not_known (has_name known p.name) parts.1) }
  where
    bare : (o : Option Stmt) → is_none o ≡ true → is_some o ≡ false
    bare None h = refl
    bare (Some s) h = absurd (false≢true h)

    not_known : (b : Bool) → not b ≡ true → b ≡ false
    not_known true h = absurd (false≢true h)
    not_known false h = refl

    unnamed : has_name known p.name ≡ false → has_name bodies p.name ≡ false
    unnamed h = elim (cases_Bool (has_name bodies p.name)) [ inr f ↦ f | inl f ↦ absurd (false≢true (sym h ∙ g.keeps p.name f)) ]

pub are_external : (qs : List Procedure) (bodies known : List (List ℕ)) (i : ℕ) (ps : List Procedure) → Grows bodies known → Aligned qs i ps
    → All (IsExternal qs bodies) (external known i ps)
are_external qs bodies known i [] g h = All-nil (IsExternal qs bodies)
are_external qs bodies known i (p ∷ ps) g h =
    let b = is_none p.body && not (has_name known p.name) in
    All-append (IsExternal qs bodies) (entry_if b i p) (external (with_prototype known p) (i + 1) ps)
    (one_entry (IsExternal qs bodies) b i p (external_here qs bodies known i p g (first_aligned qs i p ps h)))
    (are_external qs bodies (with_prototype known p) (i + 1) ps (grows_over g (grows_prototype known p)) (rest_aligned qs i p ps h))

-- The procedures of a file

abbrev pub bodied_of : Tree → List Entry
bodied_of t = bodied [] 0 t.procs

abbrev pub external_of : Tree → List Entry
external_of t = external (body_names t) 0 t.procs

abbrev pub entries_of : Tree → List Entry
entries_of t = bodied_of t ++ external_of t

pub infos_are : (t : Tree) → proc_infos t ≡ map (info_of (declarations t)) (entries_of t)
unfolding proc_infos
infos_are t =
    ap (λ xs. xs ++ external_infos (declarations t) (body_names t) 0 t.procs) (bodied_are (declarations t) [] 0 t.procs)
    ∙ ap (λ xs. map (info_of (declarations t)) (bodied_of t) ++ xs) (external_are (declarations t) (body_names t) 0 t.procs)
    ∙ sym (map-append (info_of (declarations t)) (bodied_of t) (external_of t))

pub bodies_are : (t : Tree) → body_names t ≡ map name_of (bodied_of t)
unfolding body_names
bodies_are t = bodies_named [] 0 t.procs

known_bodies : (t : Tree) → Grows (with_bodies [] t.procs) (body_names t)
unfolding body_names
known_bodies t = grows_itself (with_bodies [] t.procs)

pub names_split : (t : Tree) → proc_names t ≡ body_names t ++ map name_of (external_of t)
unfolding proc_names
names_split t = externals_named (body_names t) [] 0 t.procs (known_bodies t)

pub names_are : (t : Tree) → proc_names t ≡ map name_of (entries_of t)
names_are t =
    names_split t
    ∙ ap (λ ns. ns ++ map name_of (external_of t)) (bodies_are t)
    ∙ sym (map-append name_of (bodied_of t) (external_of t))

pub bodies_count : (t : Tree) → length (body_names t) ≡ length (bodied_of t)
bodies_count t = ap length (bodies_are t) ∙ length-map (bodied_of t) name_of

all_aligned : (ps : List Procedure) → Aligned ps 0 ps
all_aligned ps k = ap (slice_get ps) zero_first
  where
    zero_first : 0 + k ≡ k
    zero_first = omega arith

pub all_bodied : (t : Tree) → All (IsBodied t.procs) (bodied_of t)
all_bodied t = are_bodied t.procs [] 0 t.procs (all_aligned t.procs)

pub all_external : (t : Tree) → All (IsExternal t.procs (body_names t)) (external_of t)
all_external t = are_external t.procs (body_names t) (body_names t) 0 t.procs (grows_itself (body_names t)) (all_aligned t.procs)

pub entries_stand : (t : Tree) → All (λ e. slice_get t.procs e.item ≡ Some e.proc) (entries_of t)
entries_stand t =
    All-append (λ e. slice_get t.procs e.item ≡ Some e.proc) (bodied_of t) (external_of t)
    (All-weaker (IsBodied t.procs) (λ e. slice_get t.procs e.item ≡ Some e.proc) (λ e b. b.stands) (bodied_of t) (all_bodied t))
    (All-weaker (IsExternal t.procs (body_names t)) (λ e. slice_get t.procs e.item ≡ Some e.proc) (λ e b. b.stands) (external_of t) (all_external t))

-- each name that has a body is one of these
bodies_added : (target ns : List (List ℕ)) (ps : List Procedure) → Grows (with_bodies ns ps) target → All (λ p. is_some p.body ≡ true → has_name target p.name ≡ true) ps
bodies_added target ns [] g = All-nil (λ p. is_some p.body ≡ true → has_name target p.name ≡ true)
bodies_added target ns (p ∷ ps) g =
    All-cons (λ p. is_some p.body ≡ true → has_name target p.name ≡ true) p ps
    (λ e. g.keeps p.name ((grows_bodies (with_body ns p) ps).keeps p.name (body_has_name ns p e))) (bodies_added target (with_body ns p) ps g)

pub bodies_have : (t : Tree) → All (λ p. is_some p.body ≡ true → has_name (body_names t) p.name ≡ true) t.procs
bodies_have t = bodies_added (body_names t) [] t.procs (known_bodies t)
