-- What is read of a file is spelled so.
use Rattle.std.proofs.Common.{◌≡◌, ◌≤◌, ℕ, zero, suc, true, false, List, [], ◌∷◌, length, refl, sym, subst, ◌∙◌, Option, Some, None, arith}
use Rattle.std.specs.Prelude.{option_and_then, codes, bytes_eq}
use Rattle.std.proofs.lemmas.Slice.Eq.{bytes_eq-Decides}
use Rattle.c_tree.specs.declared.tree.TypeName.{TypeName}
use Rattle.c_tree.specs.declared.tree.Unit.{Unit as Base}
use Rattle.c_tree.specs.declared.tree.Member.{Member}
use Rattle.c_tree.specs.declared.tree.StructDef.{StructDef}
use Rattle.c_tree.specs.Plain.{Procedure}
use Rattle.c_token.specs.declared.token.Token.{Token}
use Rattle.c_token.specs.declared.token.TokenKind.TheVariants as kind
use Rattle.c_grammar.specs.Parts.{Part, Piece, Next, join}
use Rattle.c_grammar.specs.Types.{IsType, IsDeclarator, type_of}
use Rattle.c_grammar.specs.Types as types
use Rattle.c_grammar.specs.Items.{Declarators, IsMember, Members, Structure, Param, SomeParams, Params, Answer, AreNamed, Proc, Spells, FromItem, with_struct, with_proc}
use Rattle.c_grammar.specs.Items as grammar
use Rattle.c_grammar.specs.Reading.{is_word, after_mark, after_word, after_name, read_base, read_star}
use Rattle.c_grammar.specs.ReadStmts.{Declared, read_declarator, read_block}
use Rattle.c_grammar.specs.ReadItems.{Row, one_member, more_members, declarators_after, declarators, member_closed, member_of, read_member, members_joined, members_after, members, definition_ended, definition_closed, read_definition, typed, type_at, read_type, param_of, read_param, some_params, read_params, answer_type, read_answer, Head, head_closed, head_params, head_named, head_answered, read_head, are_named, proc_body, proc_of, read_proc, is_first_word, File, file_struct, file_proc, Kind, defined, forward, procedure, kind_of, structure_then, item_at, from_item, no_items, items, read_file}
use Rattle.c_grammar.proofs.Fronts.{binding, by_bool, by_option, given, is_word_true, mark_next, word_next, name_next}
use Rattle.c_grammar.proofs.TypeSound.{base_sound, star_sound}
use Rattle.c_grammar.proofs.LocalSound.{declarator_sound}
use Rattle.c_grammar.proofs.StmtSound.{read_block_sound}

abbrev AreMembers : Base → List Token → Row (List Member) → Type 0
AreMembers b ts r = Declarators b ts r.items r.rest

declarators_sound : (n : ℕ) (b : Base) (ts : List Token) (r : Row (List Member)) → declarators n b ts ≡ Some r → AreMembers b ts r
declarators_sound zero b ts r e = cc
declarators_sound (suc n) b ts r e = binding (read_declarator b ts) (λ q. declarators_after (declarators n b) q (after_mark (codes ",") q.rest)) r e (λ q one rest.
    let f = declarator_sound b ts q one in
    by_option (after_mark (codes ",") q.rest)
    (λ c comma. binding (declarators n b c.rest) (more_members q.member) r (rw comma at rest) (λ m others made.
    given (AreMembers b ts) _ r made
    (grammar.Declarators.more ts q.rest c.rest m.rest c.token q.member m.items f (mark_next (codes ",") q.rest c comma) (declarators_sound n b c.rest m others))))
    (λ none. given (AreMembers b ts) (one_member q) r (rw none at rest) (grammar.Declarators.last ts q.rest q.member f)))

abbrev AreMember : List Token → Row (List Member) → Type 0
AreMember ts r = IsMember ts r.items r.rest

pub member_sound : (ts : List Token) (r : Row (List Member)) → read_member ts ≡ Some r → AreMember ts r
member_sound ts r e = binding (read_base ts) member_of r e (λ b base e1.
    binding (declarators (length b.rest) b.tree b.rest) member_closed r e1 (λ m some e2.
    binding (after_mark (codes ";") m.rest) _ r e2 (λ q end made.
    given (AreMember ts) _ r made
    (grammar.member ts m.rest q.rest b q.token m.items (base_sound ts b base) (declarators_sound (length b.rest) b.tree b.rest m some) (mark_next (codes ";") m.rest q end)))))

abbrev Some_members : List Token → Row (List Member) → Type 0
Some_members ts r = Members ts r.items r.rest

members_sound : (n : ℕ) (ts : List Token) (r : Row (List Member)) → members n ts ≡ Some r → Some_members ts r
members_sound zero ts r e = cc
members_sound (suc n) ts r e = binding (read_member ts) (λ q. members_after (members n) q (after_mark (codes "}") q.rest)) r e (λ q one rest.
    let f = member_sound ts q one in
    by_option (after_mark (codes "}") q.rest)
    (λ c end. given (Some_members ts) q r (rw end at rest) (grammar.Members.last ts q.rest q.items f))
    (λ none. binding (members n q.rest) (members_joined q.items) r (rw none at rest) (λ m others made.
    given (Some_members ts) _ r made (grammar.Members.more ts q.rest m.rest q.items m.items f (members_sound n q.rest m others)))))

abbrev IsStructure : List Token → Row (Option StructDef) → Type 0
IsStructure ts r = Structure ts r.items r.rest

pub definition_sound : (t : Token) (ts us vs : List Token) (n o : Token) (s : List ℕ) (r : Row (Option StructDef)) → t.kind ≡ kind.Word (codes "struct")
    → Next (kind.Name s) ts n us → Next (kind.Mark (codes "{")) us o vs → read_definition t s vs ≡ Some r → IsStructure (t ∷ ts) r
definition_sound t ts us vs n o s r is name opening e = binding (members (length vs) vs) (definition_closed t s) r e (λ m inner e1.
    binding (after_mark (codes "}") m.rest) (definition_ended t s m) r e1 (λ c closing e2.
    binding (after_mark (codes ";") c.rest) _ r e2 (λ q end made.
    given (IsStructure (t ∷ ts)) _ r made
    (grammar.definition t n o c.token q.token ts us vs m.rest c.rest q.rest s m.items is name opening (members_sound (length vs) vs m inner)
    (mark_next (codes "}") m.rest c closing) (mark_next (codes ";") c.rest q end)))))

pub type_sound : (ts : List Token) (p : Piece TypeName) → read_type ts ≡ Some p → IsType ts p
type_sound ts p e = binding (read_base ts) (λ b. type_at b (read_star b.rest)) p e (λ b base rest.
    by_option (read_star b.rest)
    (λ s star. binding (type_of b.tree true) (λ k. typed k (join b.at s.at) s.rest) p (rw star at rest) (λ k type made.
    given (IsType ts) _ p made (types.IsType.starred ts s.rest b s.at k (base_sound ts b base) (star_sound b.rest s star) type)))
    (λ none. binding (type_of b.tree false) (λ k. typed k b.at b.rest) p (rw none at rest) (λ k type made.
    given (IsType ts) _ p made (types.IsType.plain ts b k (base_sound ts b base) type))))

abbrev IsParam : List Token → Declared → Type 0
IsParam ts q = Param ts q.member q.rest

pub param_sound : (ts : List Token) (q : Declared) → read_param ts ≡ Some q → IsParam ts q
param_sound ts q e = binding (read_type ts) param_of q e (λ p type made.
    by_option (after_name p.rest)
    (λ n named. given (IsParam ts) _ q (rw named at made) (grammar.Param.named ts n.rest p n.token n.name (type_sound ts p type) (name_next p.rest n named)))
    (λ none. given (IsParam ts) _ q (rw none at made) (grammar.Param.unnamed ts p (type_sound ts p type))))

abbrev AreSome : List Token → Row (List Member) → Type 0
AreSome ts r = SomeParams ts r.items r.rest

some_params_sound : (n : ℕ) (ts : List Token) (r : Row (List Member)) → some_params n ts ≡ Some r → AreSome ts r
some_params_sound zero ts r e = cc
some_params_sound (suc n) ts r e = binding (read_param ts) (λ q. declarators_after (some_params n) q (after_mark (codes ",") q.rest)) r e (λ q one rest.
    let f = param_sound ts q one in
    by_option (after_mark (codes ",") q.rest)
    (λ c comma. binding (some_params n c.rest) (more_members q.member) r (rw comma at rest) (λ m others made.
    given (AreSome ts) _ r made
    (grammar.SomeParams.more ts q.rest c.rest m.rest c.token q.member m.items f (mark_next (codes ",") q.rest c comma) (some_params_sound n c.rest m others))))
    (λ none. given (AreSome ts) (one_member q) r (rw none at rest) (grammar.SomeParams.last ts q.rest q.member f)))

abbrev AreParams : List Token → Row (List Member) → Type 0
AreParams ts r = Params ts r.items r.rest

params_sound : (ts : List Token) (r : Row (List Member)) → read_params ts ≡ Some r → AreParams ts r
params_sound ts r e = by_option (after_mark (codes ")") ts)
    (λ q end. given (AreParams ts) _ r (rw end at e) (grammar.Params.none ts))
    (λ none. let e' = rw none at e in by_option (after_word (codes "void") ts)
    (λ v void. let n = word_next (codes "void") ts v void in
    given (AreParams ts) _ r (rw void at e') (subst (λ (us : List Token). Params us [] v.rest) (sym n.0) (grammar.Params.void v.token v.rest n.1)))
    (λ none'. grammar.Params.some ts r.rest r.items (some_params_sound (length ts) ts r (rw none' at e'))))

answer_sound : (ts : List Token) (p : Piece (Option TypeName)) → read_answer ts ≡ Some p → Answer ts p
answer_sound ts p e = by_option (after_word (codes "void") ts)
    (λ v void. let n = word_next (codes "void") ts v void in
    given (Answer ts) _ p (rw void at e) (subst (λ (us : List Token). Answer us (record { tree = None; at = v.token.at; rest = v.rest })) (sym n.0) (grammar.Answer.void v.token v.rest n.1)))
    (λ none. binding (read_type ts) answer_type p (rw none at e) (λ q type made. given (Answer ts) _ p made (grammar.Answer.typed ts q (type_sound ts q type))))

-- the parts of a head
pub record IsHead (ts : List Token) (h : Head) : Type 0 where
  pub named : Token
  pub opening : Token
  pub closing : Token
  pub us : List Token
  pub vs : List Token
  pub ws : List Token
  pub answer : Answer ts h.answer
  pub name : Next (kind.Name h.name) h.answer.rest named us
  pub name_at : h.name_at ≡ named.at
  pub opens : Next (kind.Mark (codes "(")) us opening vs
  pub params : Params vs h.params ws
  pub closes : Next (kind.Mark (codes ")")) ws closing h.rest

head_sound : (ts : List Token) (h : Head) → read_head ts ≡ Some h → IsHead ts h
head_sound ts h e = binding (read_answer ts) head_answered h e (λ r answer e1.
    binding (after_name r.rest) (head_named r) h e1 (λ n named e2.
    binding (after_mark (codes "(") n.rest) (head_params r n) h e2 (λ o opening e3.
    binding (read_params o.rest) (head_closed r n) h e3 (λ ps params e4.
    binding (after_mark (codes ")") ps.rest) _ h e4 (λ q closing made.
    given (IsHead ts) _ h made (record {
      named = n.token;
      opening = o.token;
      closing = q.token;
      us = n.rest;
      vs = o.rest;
      ws = ps.rest;
      answer = answer_sound ts r answer;
      name = name_next r.rest n named;
      name_at = refl;
      opens = mark_next (codes "(") n.rest o opening;
      params = params_sound o.rest ps params;
      closes = mark_next (codes ")") ps.rest q closing;
    }))))))

named_sound : (ms : List Member) → are_named ms ≡ true → AreNamed ms
named_sound [] is = tt
named_sound (m ∷ ms) is = by_bool (bytes_eq m.name [])
    (λ yes'. let wrong : false ≡ true = rw yes' at is in cc)
    (λ no'. let rest : are_named ms ≡ true = rw no' at is in
    (λ same. let eq = (bytes_eq-Decides m.name []).1 same in let wrong : false ≡ true = sym no' ∙ eq in cc, named_sound ms rest))

abbrev FitsProc : List Token → Part Procedure → Type 0
FitsProc ts p = Proc ts p × (p.depth ≤ 200)

pub proc_sound : (ts : List Token) (p : Part Procedure) → read_proc ts ≡ Some p → FitsProc ts p
proc_sound ts p e = binding (read_head ts) proc_of p e (λ h head rest.
    let f = head_sound ts h head in
    by_option (after_mark (codes ";") h.rest)
    (λ q end. given (FitsProc ts) _ p (rw end at rest)
    (rw f.name_at (grammar.prototype ts f.us f.vs f.ws h.rest q.rest h.answer f.named f.opening f.closing q.token h.name h.params f.answer f.name f.opens f.params f.closes (mark_next (codes ";") h.rest q end)), omega arith))
    (λ none. let rest' = rw none at rest in by_bool (are_named h.params)
    (λ yes'. binding (read_block 200 h.rest) (proc_body h) p (rw yes' at rest') (λ b block made.
    let g = read_block_sound 200 h.rest b block in
    given (FitsProc ts) _ p made
    (rw f.name_at (grammar.body ts f.us f.vs f.ws h.rest h.answer f.named f.opening f.closing h.name h.params b.part b.brace f.answer f.name f.opens f.params f.closes (named_sound h.params yes') g.0), g.1)))
    (λ no'. let wrong : None ≡ Some p = rw no' at rest' in cc)))

-- which structure comes
abbrev IsKind : Token → List Token → Kind → Type 0
IsKind t ts (defined n q) = (t.kind ≡ kind.Word (codes "struct")) × Next (kind.Name n.name) ts n.token n.rest × Next (kind.Mark (codes "{")) n.rest q.token q.rest
IsKind t ts (forward n q) = (t.kind ≡ kind.Word (codes "struct")) × Next (kind.Name n.name) ts n.token n.rest × Next (kind.Mark (codes ";")) n.rest q.token q.rest
IsKind t ts procedure = Unit {0}

kind_sound : (t : Token) (ts : List Token) → IsKind t ts (kind_of (t ∷ ts))
kind_sound t ts = by_bool (is_word (codes "struct") t.kind)
    (λ is. let word = is_word_true (codes "struct") t.kind is in by_option (after_name ts)
    (λ n named. let name = name_next ts n named in by_option (after_mark (codes "{") n.rest)
    (λ q opening. rw (is, named, opening) (word, name, mark_next (codes "{") n.rest q opening))
    (λ none. by_option (after_mark (codes ";") n.rest)
    (λ q end. rw (is, named, none, end) (word, name, mark_next (codes ";") n.rest q end))
    (λ none'. rw (is, named, none, none') tt)))
    (λ none. rw (is, none) tt))
    (λ no'. rw no' tt)

abbrev FitsFile : List Token → File → Type 0
FitsFile ts f = Spells ts f.tree f.depth × (f.depth ≤ 200)

abbrev FitsItem : List Token → File → Type 0
FitsItem ts f = FromItem ts f.tree f.depth × (f.depth ≤ 200)

module _ (next : List Token → Option File) (sound : (ts : List Token) (f : File) → next ts ≡ Some f → FitsFile ts f) where
  item_at_sound : (t : Token) (ts : List Token) (f : File) (k : Kind) → IsKind t ts k → item_at next t ts k ≡ Some f → FitsItem (t ∷ ts) f
  item_at_sound t ts f (defined n q) is e = binding (read_definition t n.name q.rest) (structure_then next) f e (λ r def e1.
      binding (next r.rest) (file_struct r.items) f e1 (λ g rest made.
      let s = sound r.rest g rest in
      given (FitsItem (t ∷ ts)) _ f made
      (grammar.structure (t ∷ ts) r.rest r.items g.tree g.depth (definition_sound t ts n.rest q.rest n.token q.token n.name r is.0 is.1 is.2 def) s.0, s.1)))
  item_at_sound t ts f (forward n q) is e = binding (next q.rest) (file_struct None) f e (λ g rest made.
      let s = sound q.rest g rest in
      given (FitsItem (t ∷ ts)) _ f made
      (grammar.structure (t ∷ ts) q.rest None g.tree g.depth (grammar.forward t n.token q.token ts n.rest q.rest n.name is.0 is.1 is.2) s.0, s.1))
  item_at_sound t ts f procedure is e = binding (read_proc (t ∷ ts)) (λ p. option_and_then (file_proc p) (next p.rest)) f e (λ p one e1.
      binding (next p.rest) (file_proc p) f e1 (λ g rest made.
      let a = proc_sound (t ∷ ts) p one in
      let s = sound p.rest g rest in
      let low_a = a.1 in
      let low_s = s.1 in
      given (FitsItem (t ∷ ts)) _ f made (grammar.proc (t ∷ ts) p g.tree g.depth a.0 s.0, omega arith)))

  from_item_sound : (ts : List Token) (f : File) → from_item next ts ≡ Some f → FitsItem ts f
  from_item_sound [] f e = cc
  from_item_sound (t ∷ ts) f e = by_bool (is_first_word t.kind)
      (λ yes'. let g = from_item_sound ts f (rw yes' at e) in by_bool (is_word (codes "static") t.kind)
      (λ is. (grammar.static t ts f.tree f.depth (is_word_true (codes "static") t.kind is) g.0, g.1))
      (λ no'. let is : is_word (codes "extern") t.kind ≡ true = rw no' at yes' in
      (grammar.extern t ts f.tree f.depth (is_word_true (codes "extern") t.kind is) g.0, g.1)))
      (λ no'. item_at_sound t ts f (kind_of (t ∷ ts)) (kind_sound t ts) (rw no' at e))

pub items_sound : (n : ℕ) (ts : List Token) (f : File) → items n ts ≡ Some f → FitsFile ts f
items_sound zero [] f e = given (FitsFile []) no_items f e (grammar.end, omega arith)
items_sound (suc n) [] f e = given (FitsFile []) no_items f e (grammar.end, omega arith)
items_sound zero (t ∷ ts) f e = cc
items_sound (suc n) (t ∷ ts) f e =
    let g = from_item_sound (items n) (items_sound n) (t ∷ ts) f e in
    (grammar.item (t ∷ ts) f.tree f.depth g.0, g.1)

-- what is read of the whole of the tokens is spelled by them
pub file_sound : (ts : List Token) (f : File) → read_file ts ≡ Some f → Spells ts f.tree f.depth × (f.depth ≤ 200)
file_sound ts f e = items_sound (length ts) ts f e
