-- The tree of tokens that hold names is formed.
use Rattle.std.proofs.Common.{◌≡◌, ◌≤◌, ℕ, true, false, List, [], ◌∷◌, refl, inl, inr, Option, Some, None, arith}
use Rattle.std.specs.Prelude.{All, ⊤, ◌⊎◌}
use Rattle.c_tree.specs.Names.{IsName}
use Rattle.std.proofs.lemmas.List.Elements.{All-nil, All-cons, All-append, All-tail, All-head}
use Rattle.c_tree.specs.declared.tree.TypeName.{TypeName}
use Rattle.c_tree.specs.declared.tree.Unit.{Unit as Base}
use Rattle.c_tree.specs.declared.tree.Member.{Member}
use Rattle.c_tree.specs.declared.tree.StructDef.{StructDef}
use Rattle.c_tree.specs.Plain.{Procedure, Tree}
use Rattle.c_tree.specs.Depth.{body_depth, tree_depth}
use Rattle.c_tree.specs.Formed.{HasNamedType, HasNamedUnit, HasNamedCast, IsFormedMember, IsFormedParam, IsFormedStruct, IsFormedProc, IsFormed}
use Rattle.c_token.specs.declared.token.Token.{Token}
use Rattle.c_token.specs.declared.token.TokenKind.TheVariants as kind
use Rattle.c_grammar.specs.Parts.{Part, Piece}
use Rattle.c_grammar.specs.Types.{IsType}
use Rattle.c_grammar.specs.Types as types
use Rattle.c_grammar.specs.Items.{Declarators, IsMember, Members, Structure, Param, SomeParams, Params, Answer, AreNamed, Proc, Spells, FromItem}
use Rattle.c_grammar.specs.Items as grammar
use Rattle.c_grammar.specs.Named.{HoldNames}
use Rattle.c_grammar.proofs.ExprFormed.{next_names, base_names, star_names, type_named}
use Rattle.c_grammar.proofs.StmtFormed.{declarator_formed, block_formed}

declarators_formed : (b : Base) (ts us : List Token) (ms : List Member) → Declarators b ts ms us → HasNamedUnit (Some b) → HoldNames ts → All IsFormedMember ms × HoldNames us
declarators_formed b ts us ms (grammar.Declarators.last vs ws m dec) base h =
    let a = declarator_formed b vs ws m dec base h in (All-cons IsFormedMember m [] a.0 (All-nil IsFormedMember), a.1)
declarators_formed b ts us ms (grammar.Declarators.more vs ws xs ys c m ns dec x rest) base h =
    let a = declarator_formed b vs ws m dec base h in let d = next_names _ ws xs c x a.1 in let e = declarators_formed b xs ys ns rest base d.1 in
    (All-cons IsFormedMember m ns a.0 e.0, e.1)

member_formed : (ts us : List Token) (ms : List Member) → IsMember ts ms us → HoldNames ts → All IsFormedMember ms × HoldNames us
member_formed ts us ms (grammar.member vs ws xs b m ns base from x) h =
    let a = base_names vs b base h in let c = declarators_formed b.tree b.rest ws ns from a.0 a.1 in let d = next_names _ ws xs m x c.1 in (c.0, d.1)

members_formed : (ts us : List Token) (ms : List Member) → Members ts ms us → HoldNames ts → All IsFormedMember ms × HoldNames us
members_formed ts us ms (grammar.Members.last ws xs ns from) h = member_formed ws xs ns from h
members_formed ts us ms (grammar.Members.more ws xs ys ns os from rest) h =
    let a = member_formed ws xs ns from h in let b = members_formed xs ys os rest a.1 in (All-append IsFormedMember ns os a.0 b.0, b.1)

abbrev IsDefined : Option StructDef → Type 0
IsDefined None = ⊤
IsDefined (Some d) = IsFormedStruct d

structure_formed : (ts us : List Token) (d : Option StructDef) → Structure ts d us → HoldNames ts → IsDefined d × HoldNames us
structure_formed ts us d (grammar.definition t n o c m vs ws xs ys zs as' s ms is name x from y z) h =
    let a = next_names (kind.Name s) vs ws n name h.1 in let b = next_names _ ws xs o x a.1 in let e = members_formed xs ys ms from b.1 in
    let f = next_names _ ys zs c y e.1 in let g = next_names _ zs as' m z f.1 in ((a.0, e.0), g.1)
structure_formed ts us d (grammar.forward t n m vs ws xs s is name x) h =
    let a = next_names (kind.Name s) vs ws n name h.1 in let b = next_names _ ws xs m x a.1 in (tt, b.1)

type_formed : (ts : List Token) (p : Piece TypeName) → IsType ts p → HoldNames ts → HasNamedType p.tree × HoldNames p.rest
type_formed ts p (types.IsType.plain us b k base type) h = let a = base_names us b base h in (type_named b.tree false k type a.0, a.1)
type_formed ts p (types.IsType.starred us vs b at k base stars type) h =
    let a = base_names us b base h in (type_named b.tree true k type a.0, star_names b.rest vs at stars a.1)

param_formed : (ts us : List Token) (m : Member) → Param ts m us → HoldNames ts → IsFormedParam m × HoldNames us
param_formed ts us m (grammar.Param.unnamed vs p type) h = let a = type_formed vs p type h in ((inr refl, a.0), a.1)
param_formed ts us m (grammar.Param.named vs ws p n x type next) h =
    let a = type_formed vs p type h in let b = next_names (kind.Name x) p.rest ws n next a.1 in ((inl b.0, a.0), b.1)

some_params_formed : (ts us : List Token) (ms : List Member) → SomeParams ts ms us → HoldNames ts → All IsFormedParam ms × HoldNames us
some_params_formed ts us ms (grammar.SomeParams.last ws xs m from) h =
    let a = param_formed ws xs m from h in (All-cons IsFormedParam m [] a.0 (All-nil IsFormedParam), a.1)
some_params_formed ts us ms (grammar.SomeParams.more ws xs ys zs e m ns from x rest) h =
    let a = param_formed ws xs m from h in let b = next_names _ xs ys e x a.1 in let c = some_params_formed ys zs ns rest b.1 in
    (All-cons IsFormedParam m ns a.0 c.0, c.1)

params_formed : (ts us : List Token) (ms : List Member) → Params ts ms us → HoldNames ts → All IsFormedParam ms × HoldNames us
params_formed ts us ms (grammar.Params.none ws) h = (All-nil IsFormedParam, h)
params_formed ts us ms (grammar.Params.void t ws is) h = (All-nil IsFormedParam, h.1)
params_formed ts us ms (grammar.Params.some ws xs ns from) h = some_params_formed ws xs ns from h

answer_formed : (ts : List Token) (r : Piece (Option TypeName)) → Answer ts r → HoldNames ts → HasNamedCast r.tree × HoldNames r.rest
answer_formed ts r (grammar.Answer.void t us is) h = (tt, h.1)
answer_formed ts r (grammar.Answer.typed us p type) h = type_formed us p type h

-- parameters with names
named_param : (m : Member) → IsFormedParam m → (m.name ≡ [] → ⊥) → IsFormedMember m
named_param m p some = go p.0
  where
    go : IsName m.name ⊎ (m.name ≡ []) → IsFormedMember m
    go (inl name) = (name, p.1)
    go (inr none) = absurd (some none)

named_params : (ms : List Member) → All IsFormedParam ms → AreNamed ms → All IsFormedMember ms
named_params [] all named = All-nil IsFormedMember
named_params (m ∷ ms) all named =
    All-cons IsFormedMember m ms (named_param m (All-head IsFormedParam m ms all) named.0) (named_params ms (All-tail IsFormedParam m ms all) named.1)

record IsGoodProc (p : Part Procedure) : Type 0 where
  formed : IsFormedProc p.tree
  low : body_depth p.tree.body ≤ p.depth
  names : HoldNames p.rest

proc_formed : (ts : List Token) (p : Part Procedure) → Proc ts p → HoldNames ts → IsGoodProc p
proc_formed ts p (grammar.prototype vs ws xs ys zs as' r n o c m f ms answer name x params y z) h =
    let a = answer_formed vs r answer h in let b = next_names (kind.Name f) r.rest ws n name a.1 in let d = next_names _ ws xs o x b.1 in
    let e = params_formed xs ys ms params d.1 in let g = next_names _ ys zs c y e.1 in let i = next_names _ zs as' m z g.1 in
    record { formed = (b.0, a.0, e.0); low = omega arith; names = i.1 }
proc_formed ts p (grammar.body vs ws xs ys zs r n o c f ms b brace answer name x params y named braced) h =
    let a = answer_formed vs r answer h in let b' = next_names (kind.Name f) r.rest ws n name a.1 in let d = next_names _ ws xs o x b'.1 in
    let e = params_formed xs ys ms params d.1 in let g = next_names _ ys zs c y e.1 in let i = block_formed zs b brace braced g.1 in
    let low = i.0.low in
    record { formed = (b'.0, a.0, (named_params ms e.0 named, i.1, i.0.formed)); low = omega arith; names = i.0.names }

record IsGoodTree (t : Tree) (h : ℕ) : Type 0 where
  structs : All IsFormedStruct t.structs
  procs : All IsFormedProc t.procs
  low : tree_depth t ≤ h

mutual
  spells_formed : (ts : List Token) (tree : Tree) (h : ℕ) → Spells ts tree h → HoldNames ts → IsGoodTree tree h
  spells_formed ts tree h grammar.end names = record { structs = All-nil IsFormedStruct; procs = All-nil IsFormedProc; low = omega arith }
  spells_formed ts tree h (grammar.item us a b from) names = item_formed us a b from names

  item_formed : (ts : List Token) (tree : Tree) (h : ℕ) → FromItem ts tree h → HoldNames ts → IsGoodTree tree h
  item_formed ts tree h (grammar.static t us a b is from) names = item_formed us a b from names.1
  item_formed ts tree h (grammar.extern t us a b is from) names = item_formed us a b from names.1
  item_formed ts tree h (grammar.structure us vs None a b from rest) names =
      let s = structure_formed us vs None from names in spells_formed vs a b rest s.1
  item_formed ts tree h (grammar.structure us vs (Some d) a b from rest) names =
      let s = structure_formed us vs (Some d) from names in let r = spells_formed vs a b rest s.1 in
      record { structs = All-cons IsFormedStruct d a.structs s.0 r.structs; procs = r.procs; low = r.low }
  item_formed ts tree h (grammar.proc us p a b from rest) names =
      let s = proc_formed us p from names in let r = spells_formed p.rest a b rest s.names in let low = s.low in let low' = r.low in
      record { structs = r.structs; procs = All-cons IsFormedProc p.tree a.procs s.formed r.procs; low = omega arith }

pub tree_formed : (ts : List Token) (tree : Tree) (h : ℕ) → Spells ts tree h → h ≤ 200 → HoldNames ts → IsFormed tree
tree_formed ts tree h spelled low names =
    let g = spells_formed ts tree h spelled names in let low' = g.low in (g.structs, g.procs, omega arith)
