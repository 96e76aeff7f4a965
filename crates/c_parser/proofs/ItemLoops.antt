-- One turn of each loop over members, parameters and items, as a fact about what is read.
use Rattle.std.proofs.Common.{◌≡◌, ◌≤◌, ◌<◌, ℕ, zero, suc, max, List, [], ◌∷◌, ◌++◌, length, map, refl, ap, append_assoc, ◌∙◌, Option, Some, None, arith}
use Rattle.std.specs.Prelude.{codes, option_and_then, option_map}
use Rattle.c_tree.specs.declared.tree.Member.{Member}
use Rattle.c_tree.specs.declared.tree.StructDef.{StructDef}
use Rattle.c_tree.specs.declared.tree.Unit.{Unit as Base}
use Rattle.c_tree.specs.Plain.{Procedure, Tree}
use Rattle.c_token.specs.declared.token.Token.{Token}
use Rattle.c_grammar.specs.Items.{with_proc}
use Rattle.c_grammar.specs.Reading.{Front, after_mark, after_word, after_name}
use Rattle.c_grammar.specs.ReadStmts.{Declared, read_declarator}
use Rattle.c_grammar.specs.ReadItems.{Row, more_members, members_joined, declarators, members, read_member, read_param, some_params, read_proc, read_definition, File, file_struct, Kind, defined, forward, procedure, kind_of, from_item, item_at, items, is_first_word}
use Rattle.c_grammar.proofs.Fronts.{binding, given, by_bool, by_option, mark_next, word_next, name_next}
use Rattle.std.proofs.lemmas.List.{append-nil}
use Rattle.c_grammar.proofs.Shorter.{next_shorter}
use Rattle.c_grammar.proofs.LocalSound.{declarator_sound}
use Rattle.c_grammar.proofs.LocalComplete.{declarator_shorter as spelled_declarator_shorter}
use Rattle.c_grammar.proofs.ItemSound.{member_sound, param_sound, proc_sound, definition_sound}
use Rattle.c_grammar.proofs.MemberComplete.{member_shorter as spelled_member_shorter, param_shorter as spelled_param_shorter}
use Rattle.c_grammar.proofs.ItemComplete.{proc_shorter as spelled_proc_shorter, structure_shorter as spelled_structure_shorter}
use Rattle.c_parser.specs.ItemViews.{Item, structure, proc, ItemRow, structure_row, proc_row, item_by, read_item, bare_item, after_linkage, tree_of, item_view, item_structs, item_procs}
use Rattle.c_parser.specs.declared.file.Item as code
use Rattle.c_tree.specs.declared.tree.ProcItem.{ProcItem}
use Rattle.c_tree.specs.View.{proc_view}

-- members before others
abbrev pub prepended : List Member → Row (List Member) → Option (Row (List Member))
prepended ms r = Some (record { items = ms ++ r.items; rest = r.rest })

pub prepended_none : (o : Option (Row (List Member))) → option_and_then (prepended []) o ≡ o
prepended_none None = refl
prepended_none (Some r) = refl

prepended_more : (ms : List Member) (m : Member) (o : Option (Row (List Member)))
    → option_and_then (prepended ms) (option_and_then (more_members m) o) ≡ option_and_then (prepended (ms ++ m ∷ [])) o
prepended_more ms m None = refl
prepended_more ms m (Some r) = rw (append_assoc ms (m ∷ []) r.items) refl

prepended_joined : (ms ns : List Member) (o : Option (Row (List Member)))
    → option_and_then (prepended ms) (option_and_then (members_joined ns) o) ≡ option_and_then (prepended (ms ++ ns)) o
prepended_joined ms ns None = refl
prepended_joined ms ns (Some r) = rw (append_assoc ms ns r.items) refl

pub declarator_shorter : (b : Base) (ts : List Token) (q : Declared) → read_declarator b ts ≡ Some q → length q.rest < length ts
declarator_shorter b ts q read = spelled_declarator_shorter b ts q.rest q.member (declarator_sound b ts q read)

pub member_shorter : (ts : List Token) (r : Row (List Member)) → read_member ts ≡ Some r → length r.rest < length ts
member_shorter ts r read = spelled_member_shorter ts r.rest r.items (member_sound ts r read)

pub param_shorter : (ts : List Token) (q : Declared) → read_param ts ≡ Some q → length q.rest < length ts
param_shorter ts q read = spelled_param_shorter ts q.rest q.member (param_sound ts q read)

-- the declarators of a member
pub declarators_more : (n : ℕ) (b : Base) (ms : List Member) (ts : List Token) (q : Declared) (c : Front) → length ts ≤ n → length c.rest < length ts
    → read_declarator b ts ≡ Some q → after_mark (codes ",") q.rest ≡ Some c
    → (k : ℕ) × (length c.rest ≤ k)
    × (option_and_then (prepended ms) (declarators n b ts) ≡ option_and_then (prepended (ms ++ q.member ∷ [])) (declarators k b c.rest))
declarators_more zero b ms ts q c enough less is comma = absurd (omega arith)
declarators_more (suc n) b ms ts q c enough less is comma = (n, omega arith, rw (is, comma) (prepended_more ms q.member (declarators n b c.rest)))

pub declarators_last : (n : ℕ) (b : Base) (ms : List Member) (ts : List Token) (q : Declared) → 0 < n
    → read_declarator b ts ≡ Some q → after_mark (codes ",") q.rest ≡ None
    → option_and_then (prepended ms) (declarators n b ts) ≡ Some (record { items = ms ++ q.member ∷ []; rest = q.rest })
declarators_last zero b ms ts q enough is comma = absurd (omega arith)
declarators_last (suc n) b ms ts q enough is comma = rw (is, comma) refl

pub declarators_refused : (n : ℕ) (b : Base) (ts : List Token) → read_declarator b ts ≡ None → declarators n b ts ≡ None
declarators_refused zero b ts none = refl
declarators_refused (suc n) b ts none = rw none refl

-- parameters
pub params_more : (n : ℕ) (ms : List Member) (ts : List Token) (q : Declared) (c : Front) → length ts ≤ n → length c.rest < length ts
    → read_param ts ≡ Some q → after_mark (codes ",") q.rest ≡ Some c
    → (k : ℕ) × (length c.rest ≤ k)
    × (option_and_then (prepended ms) (some_params n ts) ≡ option_and_then (prepended (ms ++ q.member ∷ [])) (some_params k c.rest))
params_more zero ms ts q c enough less is comma = absurd (omega arith)
params_more (suc n) ms ts q c enough less is comma = (n, omega arith, rw (is, comma) (prepended_more ms q.member (some_params n c.rest)))

pub params_last : (n : ℕ) (ms : List Member) (ts : List Token) (q : Declared) → 0 < n
    → read_param ts ≡ Some q → after_mark (codes ",") q.rest ≡ None
    → option_and_then (prepended ms) (some_params n ts) ≡ Some (record { items = ms ++ q.member ∷ []; rest = q.rest })
params_last zero ms ts q enough is comma = absurd (omega arith)
params_last (suc n) ms ts q enough is comma = rw (is, comma) refl

pub params_refused : (n : ℕ) (ts : List Token) → read_param ts ≡ None → some_params n ts ≡ None
params_refused zero ts none = refl
params_refused (suc n) ts none = rw none refl

-- members of a struct
pub members_more : (n : ℕ) (ms : List Member) (ts : List Token) (r : Row (List Member)) → length ts ≤ n → length r.rest < length ts
    → read_member ts ≡ Some r → after_mark (codes "}") r.rest ≡ None
    → (k : ℕ) × (length r.rest ≤ k)
    × (option_and_then (prepended ms) (members n ts) ≡ option_and_then (prepended (ms ++ r.items)) (members k r.rest))
members_more zero ms ts r enough less is going = absurd (omega arith)
members_more (suc n) ms ts r enough less is going = (n, omega arith, rw (is, going) (prepended_joined ms r.items (members n r.rest)))

pub members_last : (n : ℕ) (ms : List Member) (ts : List Token) (r : Row (List Member)) (c : Front) → 0 < n
    → read_member ts ≡ Some r → after_mark (codes "}") r.rest ≡ Some c
    → option_and_then (prepended ms) (members n ts) ≡ Some (record { items = ms ++ r.items; rest = r.rest })
members_last zero ms ts r c enough is close = absurd (omega arith)
members_last (suc n) ms ts r c enough is close = rw (is, close) refl

pub members_refused : (n : ℕ) (ts : List Token) → read_member ts ≡ None → members n ts ≡ None
members_refused zero ts none = refl
members_refused (suc n) ts none = rw none refl

-- words before an item
pub linkage_more : (ts us : List Token) → after_linkage ts ≡ Some us → read_item ts ≡ read_item us
linkage_more [] us is = cc
linkage_more (t ∷ ts) us is = by_bool (is_first_word t.kind)
    (λ y. let same : Some ts ≡ Some us = rw y at is in let rest : ts ≡ us = cc in rw (y, rest) refl)
    (λ n. let never : None ≡ Some us = rw n at is in cc)

pub linkage_shorter : (ts us : List Token) → after_linkage ts ≡ Some us → length us < length ts
linkage_shorter [] us is = cc
linkage_shorter (t ∷ ts) us is = by_bool (is_first_word t.kind)
    (λ y. let same : Some ts ≡ Some us = rw y at is in let rest : ts ≡ us = cc in rw rest (omega arith))
    (λ n. let never : None ≡ Some us = rw n at is in cc)

pub linkage_end : (ts : List Token) → after_linkage ts ≡ None → read_item ts ≡ bare_item ts
linkage_end [] none = refl
linkage_end (t ∷ ts) none = by_bool (is_first_word t.kind)
    (λ y. let never : Some ts ≡ None = rw y at none in cc)
    (λ n. rw n refl)

-- an item is shorter than the tokens at whose front it is
by_shorter : (t : Token) (ts : List Token) (r : ItemRow) → item_by (t ∷ ts) t (kind_of (t ∷ ts)) ≡ Some r → length r.rest < suc (length ts)
by_shorter t ts r is = by_option (after_word (codes "struct") (t ∷ ts))
    (λ w word. by_option (after_name w.rest)
    (λ n named. by_option (after_mark (codes "{") n.rest)
    (λ o opening. let e = rw (word, named, opening) at is in
    binding (read_definition t n.name o.rest) structure_row r e (λ d read made.
    let start = word_next (codes "struct") (t ∷ ts) w word in
    let first : t ≡ w.token = let e0 = start.0 in cc in
    let tail : ts ≡ w.rest = let e0 = start.0 in cc in
    let kind' = ap (λ (x : Token). x.kind) first ∙ start.1 in
    let sound = definition_sound t ts n.rest o.rest n.token o.token n.name d kind' (rw tail (name_next w.rest n named)) (mark_next (codes "{") n.rest o opening) read in
    let less = spelled_structure_shorter (t ∷ ts) d.rest d.items sound in
    given (λ (q : ItemRow). length q.rest < suc (length ts)) _ r made less))
    (λ no_brace. by_option (after_mark (codes ";") n.rest)
    (λ q end. let e = rw (word, named, no_brace, end) at is in
    let a = next_shorter _ (t ∷ ts) w.rest w.token (word_next (codes "struct") (t ∷ ts) w word) in
    let b = next_shorter _ w.rest n.rest n.token (name_next w.rest n named) in
    let c = next_shorter _ n.rest q.rest q.token (mark_next (codes ";") n.rest q end) in
    given (λ (q' : ItemRow). length q'.rest < suc (length ts)) _ r e (omega arith))
    (λ no_end. proc_shorter' t ts r (rw (word, named, no_brace, no_end) at is))))
    (λ no_name. proc_shorter' t ts r (rw (word, no_name) at is)))
    (λ no_word. proc_shorter' t ts r (rw no_word at is))
  where
    proc_shorter' : (u : Token) (us : List Token) (q : ItemRow) → option_and_then proc_row (read_proc (u ∷ us)) ≡ Some q → length q.rest < suc (length us)
    proc_shorter' u us q e = binding (read_proc (u ∷ us)) proc_row q e (λ p read made.
        given (λ (x : ItemRow). length x.rest < suc (length us)) _ q made (spelled_proc_shorter (u ∷ us) p (proc_sound (u ∷ us) p read).0))

pub item_shorter : (ts : List Token) (r : ItemRow) → read_item ts ≡ Some r → length r.rest < length ts
item_shorter [] r is = cc
item_shorter (t ∷ ts) r is = by_bool (is_first_word t.kind)
    (λ y. let e = rw y at is in let less = item_shorter ts r e in omega arith)
    (λ n. by_shorter t ts r (rw n at is))

-- a file is an item and the items after it
abbrev pub add_item : Item → ℕ → File → Option File
add_item (structure d) h f = file_struct d f
add_item (proc p) h f = Some (record { tree = with_proc p f.tree; depth = max h f.depth })

abbrev pub item_then : (List Token → Option File) → ItemRow → Option File
item_then next r = option_and_then (add_item r.item r.depth) (next r.rest)

kind_read : (next : List Token → Option File) (t : Token) (ts : List Token) (k : Kind)
    → item_at next t ts k ≡ option_and_then (item_then next) (item_by (t ∷ ts) t k)
kind_read next t ts (defined n q) = by_option (read_definition t n.name q.rest) (λ d is. rw is refl) (λ none. rw none refl)
kind_read next t ts (forward n q) = refl
kind_read next t ts procedure = by_option (read_proc (t ∷ ts)) (λ p is. rw is refl) (λ none. rw none refl)

pub from_read : (next : List Token → Option File) (ts : List Token) → from_item next ts ≡ option_and_then (item_then next) (read_item ts)
from_read next [] = refl
from_read next (t ∷ ts) = by_bool (is_first_word t.kind)
    (λ y. rw y (from_read next ts))
    (λ n. rw n (kind_read next t ts (kind_of (t ∷ ts))))

abbrev pub structs_of : Item → List StructDef
structs_of (structure (Some d)) = d ∷ []
structs_of _ = []

abbrev pub procs_of : Item → List Procedure
procs_of (proc p) = p ∷ []
procs_of _ = []

-- structs and procedures before those of a tree
abbrev pub placed : List StructDef → List Procedure → Tree → Tree
placed ss ps t = record { structs = ss ++ t.structs; procs = ps ++ t.procs }

abbrev pub placed_in : List StructDef → List Procedure → Option File → Option Tree
placed_in ss ps o = option_map (λ f. placed ss ps f.tree) o

placed_item : (ss : List StructDef) (ps : List Procedure) (item : Item) (h : ℕ) (o : Option File)
    → placed_in ss ps (option_and_then (add_item item h) o) ≡ placed_in (ss ++ structs_of item) (ps ++ procs_of item) o
placed_item ss ps (structure None) h None = refl
placed_item ss ps (structure None) h (Some f) = let a = append-nil ss in let b = append-nil ps in rw (a, b) refl
placed_item ss ps (structure (Some d)) h None = refl
placed_item ss ps (structure (Some d)) h (Some f) = let a = append_assoc ss (d ∷ []) f.tree.structs in let b = append-nil ps in rw (a, b) refl
placed_item ss ps (proc p) h None = refl
placed_item ss ps (proc p) h (Some f) = let a = append-nil ss in let b = append_assoc ps (p ∷ []) f.tree.procs in rw (a, b) refl

pub items_more : (n : ℕ) (ss : List StructDef) (ps : List Procedure) (ts : List Token) (r : ItemRow) → length ts ≤ n → length r.rest < length ts
    → read_item ts ≡ Some r
    → (k : ℕ) × (length r.rest ≤ k) × (placed_in ss ps (items n ts) ≡ placed_in (ss ++ structs_of r.item) (ps ++ procs_of r.item) (items k r.rest))
items_more n ss ps [] r enough less is = cc
items_more zero ss ps (t ∷ ts) r enough less is = absurd (omega arith)
items_more (suc n) ss ps (t ∷ ts) r enough less is =
    let whole = from_read (items n) (t ∷ ts) ∙ ap (option_and_then (item_then (items n))) is in
    (n, omega arith, ap (placed_in ss ps) whole ∙ placed_item ss ps r.item r.depth (items n r.rest))

pub items_refused : (n : ℕ) (ss : List StructDef) (ps : List Procedure) (ts : List Token) → 0 < length ts → read_item ts ≡ None → placed_in ss ps (items n ts) ≡ None
items_refused n ss ps [] some none = absurd (omega arith)
items_refused zero ss ps (t ∷ ts) some none = refl
items_refused (suc n) ss ps (t ∷ ts) some none = ap (placed_in ss ps) (from_read (items n) (t ∷ ts) ∙ ap (option_and_then (item_then (items n))) none)

pub items_end : (n : ℕ) (ss : List StructDef) (ps : List Procedure) (ts : List Token) → length ts ≡ 0
    → placed_in ss ps (items n ts) ≡ Some (record { structs = ss; procs = ps })
items_end zero ss ps [] end = let a = append-nil ss in let b = append-nil ps in rw (a, b) refl
items_end (suc n) ss ps [] end = let a = append-nil ss in let b = append-nil ps in rw (a, b) refl
items_end n ss ps (t ∷ ts) end = absurd (omega arith)

pub placed_none : (o : Option File) → placed_in [] [] o ≡ option_map tree_of o
placed_none None = refl
placed_none (Some f) = refl

pub bare_by : (ts : List Token) (t : Token) (us : List Token) (k : Kind) → ts ≡ t ∷ us → kind_of ts ≡ k → bare_item ts ≡ item_by ts t k
bare_by [] t us k e is = cc
bare_by (u ∷ vs) t us k e is = let same : u ≡ t = cc in rw (is, same) refl

pub structs_same : (i : code.Item) → structs_of (item_view i) ≡ item_structs i
structs_same (code.Item.Struct d) = refl
structs_same code.Item.Forward = refl
structs_same (code.Item.Proc p) = refl

pub procs_same : (i : code.Item) → procs_of (item_view i) ≡ map proc_view (item_procs i)
procs_same (code.Item.Struct d) = refl
procs_same code.Item.Forward = refl
procs_same (code.Item.Proc p) = refl

pub view_procs : (a b : List ProcItem) → map proc_view (a ++ b) ≡ map proc_view a ++ map proc_view b
view_procs [] b = refl
view_procs (p ∷ ps) b = ap (λ (qs : List Procedure). proc_view p ∷ qs) (view_procs ps b)
