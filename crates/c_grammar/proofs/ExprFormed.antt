-- An expression of tokens that hold names is formed, and no deeper than its spelling.
use Rattle.std.proofs.Common.{◌≡◌, ◌≤◌, ℕ, suc, Bool, true, false, List, refl, subst, Option, Some, None, arith}
use Rattle.std.specs.Prelude.{IsFalse, IsSome}
use Rattle.c_tree.specs.declared.position.Span.{Span}
use Rattle.c_tree.specs.declared.tree.TypeName.{TypeName}
use Rattle.c_tree.specs.declared.tree.Unit.{Unit as Measured}
use Rattle.c_tree.specs.declared.tree.Unit.TheVariants as measured
use Rattle.c_tree.specs.Plain.{Expr, Exprs}
use Rattle.c_tree.specs.Depth.{depth, depth_of}
use Rattle.c_tree.specs.Formed.{HasNamedType, HasNamedUnit, HasNamedCast, IsFormedExpr, AreFormedExprs}
use Rattle.c_token.specs.declared.token.Token.{Token}
use Rattle.c_token.specs.declared.token.TokenKind.{TokenKind}
use Rattle.c_token.specs.declared.token.TokenKind.TheVariants as kind
use Rattle.c_grammar.specs.Parts.{Part, Row, Piece, Next, join}
use Rattle.c_grammar.specs.Types.{Consts, IsBase, IsStar, type_of}
use Rattle.c_grammar.specs.Types as types
use Rattle.c_grammar.specs.Exprs.{IsUnit, Args, SomeArgs, Line, Unary, Postfix, Primary, Call, New, Allocation, Size, Request, requested}
use Rattle.c_grammar.specs.Exprs as grammar
use Rattle.c_grammar.specs.Named.{HoldsName, HoldNames}

pub next_names : (k : TokenKind) (ts us : List Token) (t : Token) → Next k ts t us → HoldNames ts → HoldsName k × HoldNames us
next_names k ts us t n h = let both : HoldsName t.kind × HoldNames us = subst HoldNames n.0 h in (subst HoldsName n.1 both.0, both.1)

pub consts_names : (at to : Span) (ts us : List Token) → Consts at ts to us → HoldNames ts → HoldNames us
consts_names at to ts us (types.none a vs) h = h
consts_names at to ts us (types.Consts.const a b t vs ws is from) h = consts_names _ b vs ws from h.1

pub base_names : (ts : List Token) (b : Piece Measured) → IsBase ts b → HoldNames ts → HasNamedUnit (Some b.tree) × HoldNames b.rest
base_names ts b (types.IsBase.const t us p is from) h = base_names us p from h.1
base_names ts b (types.int t us vs at is from) h = (tt, consts_names t.at at us vs from h.1)
base_names ts b (types.char t us vs at is from) h = (tt, consts_names t.at at us vs from h.1)
base_names ts b (types.struct t n x us vs ws at is next from) h =
    let a = next_names (kind.Name x) us vs n next h.1 in (a.0, consts_names _ at vs ws from a.1)

pub star_names : (ts us : List Token) (at : Span) → IsStar ts at us → HoldNames ts → HoldNames us
star_names ts us at (types.star t vs ws a is from) h = consts_names t.at a vs ws from h.1

pub type_named : (b : Measured) (starred : Bool) (k : TypeName) → type_of b starred ≡ Some k → HasNamedUnit (Some b) → HasNamedType k
type_named measured.Int false k e h = let same : TypeName.Int ≡ k = cc in subst HasNamedType same tt
type_named measured.Int true k e h = let same : TypeName.IntPtr ≡ k = cc in subst HasNamedType same tt
type_named measured.Char false k e h = let same : TypeName.Char ≡ k = cc in subst HasNamedType same tt
type_named measured.Char true k e h = let same : TypeName.CharPtr ≡ k = cc in subst HasNamedType same tt
type_named (measured.Struct s) false k e h = cc
type_named (measured.Struct s) true k e h = let same : TypeName.StructPtr s ≡ k = cc in subst HasNamedType same h
type_named (measured.Behind x) starred k e h = cc

unit_names : (ts : List Token) (u : Row Measured) → IsUnit ts u → HoldNames ts → HasNamedUnit (Some u.tree) × HoldNames u.rest
unit_names ts u (grammar.type t o c us vs ws b is x from y) h =
    let a = next_names _ us vs o x h.1 in let d = base_names vs b from a.1 in let e = next_names _ b.rest ws c y d.1 in (d.0, e.1)
unit_names ts u (grammar.behind t s n us vs ws x is a b) h =
    let d = next_names _ us vs s a h.1 in next_names (kind.Name x) vs ws n b d.1
unit_names ts u (grammar.behind_enclosed t o s n c us vs ws xs ys x is a b e f) h =
    let g = next_names _ us vs o a h.1 in let i = next_names _ vs ws s b g.1 in let j = next_names (kind.Name x) ws xs n e i.1 in
    let l = next_names _ xs ys c f j.1 in (j.0, l.1)

pub record IsGood (p : Part Expr) : Type 0 where
  pub formed : IsFormedExpr p.tree
  pub low : depth p.tree ≤ p.depth
  pub names : HoldNames p.rest

pub record AreGood (a : Row Exprs) : Type 0 where
  pub formed : AreFormedExprs a.tree
  pub low : depth_of a.tree ≤ a.depth
  pub names : HoldNames a.rest

-- a count is there but for a malloc of one unit
abbrev Counts : Request → Option Expr → ℕ → Type 0
Counts r None h = IsFalse r.zeroed × IsSome r.unit
Counts r (Some e) h = IsFormedExpr e × (depth e ≤ h)

record IsGoodRequest (r : Request) (h : ℕ) (ts : List Token) : Type 0 where
  unit : HasNamedUnit r.unit
  count : Counts r r.count h
  names : HoldNames ts

requested_formed : (cast : Option TypeName) (r : Request) (at : Span) (o : Option Expr) (h : ℕ) → HasNamedCast cast → HasNamedUnit r.unit → Counts r o h
    → IsFormedExpr (requested cast r at o)
requested_formed cast r at None h c u n = ((c, u), n.0, n.1)
requested_formed cast r at (Some e) h c u n = ((c, u), n.0)

requested_low : (cast : Option TypeName) (r : Request) (at : Span) (o : Option Expr) (h : ℕ) → Counts r o h → depth (requested cast r at o) ≤ suc h
requested_low cast r at None h n = omega arith
requested_low cast r at (Some e) h n = let low = n.1 in omega arith

deeper : (r : Request) (o : Option Expr) (h k : ℕ) → h ≤ k → Counts r o h → Counts r o k
deeper r None h k low c = c
deeper r (Some e) h k low c = let l = c.1 in (c.0, omega arith)

mutual
  pub args_formed : (ts : List Token) (a : Row Exprs) → Args ts a → HoldNames ts → AreGood a
  args_formed ts a (grammar.Args.none us) h = record { formed = tt; low = omega arith; names = h }
  args_formed ts a (grammar.Args.some us b from) h = some_args_formed us b from h

  some_args_formed : (ts : List Token) (a : Row Exprs) → SomeArgs ts a → HoldNames ts → AreGood a
  some_args_formed ts a (grammar.SomeArgs.last us p from) h =
      let g = line_formed _ us p from h in let low = g.low in record { formed = (g.formed, tt); low = omega arith; names = g.names }
  some_args_formed ts a (grammar.SomeArgs.more us vs c p b from x rest) h =
      let g = line_formed _ us p from h in let n = next_names _ p.rest vs c x g.names in let i = some_args_formed vs b rest n.1 in
      let low = g.low in let low' = i.low in record { formed = (g.formed, i.formed); low = omega arith; names = i.names }

  pub line_formed : (k : ℕ) (ts : List Token) (p : Part Expr) → Line k ts p → HoldNames ts → IsGood p
  line_formed k ts p (grammar.operand j us q from) h = line_formed j us q from h
  line_formed k ts p (grammar.operation_of j us vs t o l r left split is right) h =
      let a = line_formed (suc j) us l left h in
      let rest : HoldsName t.kind × HoldNames vs = subst HoldNames split a.names in
      let b = line_formed j vs r right rest.1 in
      let low = a.low in let low' = b.low in record { formed = (a.formed, b.formed); low = omega arith; names = b.names }
  line_formed k ts p (grammar.unary us q from) h = unary_formed us q from h

  unary_formed : (ts : List Token) (p : Part Expr) → Unary ts p → HoldNames ts → IsGood p
  unary_formed ts p (grammar.Unary.not_of t us q is from) h = let g = unary_formed us q from h.1 in let low = g.low in record { formed = g.formed; low = omega arith; names = g.names }
  unary_formed ts p (grammar.Unary.neg t us q is from) h = let g = unary_formed us q from h.1 in let low = g.low in record { formed = g.formed; low = omega arith; names = g.names }
  unary_formed ts p (grammar.Unary.postfix us q from) h = postfix_formed us q from h

  pub postfix_formed : (ts : List Token) (p : Part Expr) → Postfix ts p → HoldNames ts → IsGood p
  postfix_formed ts p (grammar.Postfix.primary us q from) h = primary_formed us q from h
  postfix_formed ts p (grammar.Postfix.arrow us vs ws t n f q from x y) h =
      let g = postfix_formed us q from h in let a = next_names _ q.rest vs t x g.names in let b = next_names (kind.Name f) vs ws n y a.1 in
      let low = g.low in record { formed = (g.formed, b.0); low = omega arith; names = b.1 }
  postfix_formed ts p (grammar.Postfix.index us vs ws o c q i from x y z) h =
      let g = postfix_formed us q from h in let a = next_names _ q.rest vs o x g.names in let b = line_formed _ vs i y a.1 in
      let d = next_names _ i.rest ws c z b.names in
      let low = g.low in let low' = b.low in record { formed = (g.formed, b.formed); low = omega arith; names = d.1 }

  primary_formed : (ts : List Token) (p : Part Expr) → Primary ts p → HoldNames ts → IsGood p
  primary_formed ts p (grammar.Primary.number t us z is) h = record { formed = tt; low = omega arith; names = h.1 }
  primary_formed ts p (grammar.Primary.char t us z is) h = record { formed = tt; low = omega arith; names = h.1 }
  primary_formed ts p (grammar.Primary.string t us z is) h = record { formed = tt; low = omega arith; names = h.1 }
  primary_formed ts p (grammar.Primary.null t us is) h = record { formed = tt; low = omega arith; names = h.1 }
  primary_formed ts p (grammar.Primary.name t us x is) h = record { formed = subst HoldsName is h.0; low = omega arith; names = h.1 }
  primary_formed ts p (grammar.Primary.call us q from) h = call_formed us q from h
  primary_formed ts p (grammar.Primary.new us q from) h = new_formed us q from h
  primary_formed ts p (grammar.Primary.enclosed o c us vs q is x y) h =
      let g = line_formed _ us q x h.1 in let a = next_names _ q.rest vs c y g.names in let low = g.low in
      record { formed = g.formed; low = omega arith; names = a.1 }

  pub call_formed : (ts : List Token) (p : Part Expr) → Call ts p → HoldNames ts → IsGood p
  call_formed ts p (grammar.call_of t o c f us vs ws a is x y z) h =
      let b = next_names _ us vs o x h.1 in let g = args_formed vs a y b.1 in let d = next_names _ a.rest ws c z g.names in let low = g.low in
      let named : HoldsName (kind.Name f) = subst HoldsName is h.0 in
      record { formed = (named, g.formed); low = omega arith; names = d.1 }

  new_formed : (ts : List Token) (p : Part Expr) → New ts p → HoldNames ts → IsGood p
  new_formed ts p (grammar.New.plain us a from) h =
      let g = allocation_formed us a from h in
      record { formed = requested_formed None a.tree a.at a.tree.count a.depth tt g.unit g.count; low = requested_low None a.tree a.at a.tree.count a.depth g.count; names = g.names }
  new_formed ts p (grammar.New.cast o c us vs ws b s k a is x y z v w) h =
      let d = base_names us b x h.1 in let e = star_names b.rest vs s y d.1 in let f = next_names _ vs ws c v e in let g = allocation_formed ws a w f.1 in
      record {
        formed = requested_formed (Some k) a.tree (join o.at a.at) a.tree.count a.depth (type_named b.tree true k z d.0) g.unit g.count;
        low = requested_low (Some k) a.tree (join o.at a.at) a.tree.count a.depth g.count;
        names = g.names;
      }

  allocation_formed : (ts : List Token) (a : Part Request) → Allocation ts a → HoldNames ts → IsGoodRequest a.tree a.depth a.rest
  allocation_formed ts a (grammar.malloc t o c us vs ws r is x y z) h =
      let b = next_names _ us vs o x h.1 in let g = size_formed vs r y b.1 in let d = next_names _ r.rest ws c z g.names in
      record { unit = g.unit; count = deeper r.tree r.tree.count r.depth (suc r.depth) (omega arith) g.count; names = d.1 }
  allocation_formed ts a (grammar.calloc t o m c us vs ws xs p u is x y z v w) h =
      let b = next_names _ us vs o x h.1 in let g = line_formed _ vs p y b.1 in let d = next_names _ p.rest ws m z g.names in
      let e = unit_names ws u v d.1 in let f = next_names _ u.rest xs c w e.1 in let low = g.low in
      record { unit = e.0; count = (g.formed, omega arith); names = f.1 }
  allocation_formed ts a (grammar.calloc_bytes t o m n c us vs ws xs ys p is x y z v w) h =
      let b = next_names _ us vs o x h.1 in let g = line_formed _ vs p y b.1 in let d = next_names _ p.rest ws m z g.names in
      let e = next_names _ ws xs n v d.1 in let f = next_names _ xs ys c w e.1 in let low = g.low in
      record { unit = tt; count = (g.formed, omega arith); names = f.1 }

  size_formed : (ts : List Token) (r : Row Request) → Size ts r → HoldNames ts → IsGoodRequest r.tree r.depth r.rest
  size_formed ts r (grammar.Size.unit us u from) h = let a = unit_names us u from h in record { unit = a.0; count = (refl, refl); names = a.1 }
  size_formed ts r (grammar.Size.count_unit us vs t p u x y z) h =
      let g = line_formed _ us p x h in let b = next_names _ p.rest vs t y g.names in let c = unit_names vs u z b.1 in let low = g.low in
      record { unit = c.0; count = (g.formed, omega arith); names = c.1 }
  size_formed ts r (grammar.Size.unit_count us vs t u p x y z) h =
      let a = unit_names us u x h in let b = next_names _ u.rest vs t y a.1 in let g = line_formed _ vs p z b.1 in let low = g.low in
      record { unit = a.0; count = (g.formed, omega arith); names = g.names }
  size_formed ts r (grammar.Size.bytes us p from) h = let g = line_formed _ us p from h in let low = g.low in
      record { unit = tt; count = (g.formed, low); names = g.names }
