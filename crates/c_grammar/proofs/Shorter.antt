-- A spelling takes at least one token.
use Rattle.std.proofs.Common.{◌≡◌, ◌≤◌, ◌<◌, ℕ, suc, List, length, refl, arith}
use Rattle.c_tree.specs.declared.position.Span.{Span}
use Rattle.c_tree.specs.declared.tree.Unit.{Unit as Measured}
use Rattle.c_tree.specs.Plain.{Expr, Exprs}
use Rattle.c_token.specs.declared.token.Token.{Token}
use Rattle.c_token.specs.declared.token.TokenKind.{TokenKind}
use Rattle.c_grammar.specs.Parts.{Part, Row, Piece, Next}
use Rattle.c_grammar.specs.Types.{Consts, IsBase, IsStar}
use Rattle.c_grammar.specs.Types as types
use Rattle.c_grammar.specs.Exprs.{IsUnit, Args, SomeArgs, Line, Unary, Postfix, Primary, Call, New, Allocation, Size, Request}
use Rattle.c_grammar.specs.Exprs as grammar

pub next_shorter : (k : TokenKind) (ts us : List Token) (t : Token) → Next k ts t us → length us < length ts
next_shorter k ts us t n = rw n.0 (omega arith)

pub consts_shorter : (at to : Span) (ts us : List Token) → Consts at ts to us → length us ≤ length ts
consts_shorter at to ts us (types.none a vs) = omega arith
consts_shorter at to ts us (types.Consts.const a b t vs ws is from) = let s = consts_shorter _ b vs ws from in omega arith

pub base_shorter : (ts : List Token) (b : Piece Measured) → IsBase ts b → length b.rest < length ts
base_shorter ts b (types.IsBase.const t us p is from) = let s = base_shorter us p from in omega arith
base_shorter ts b (types.int t us vs at is from) = let s = consts_shorter t.at at us vs from in omega arith
base_shorter ts b (types.char t us vs at is from) = let s = consts_shorter t.at at us vs from in omega arith
base_shorter ts b (types.struct t n x us vs ws at is next from) =
    let a = next_shorter _ us vs n next in let s = consts_shorter _ at vs ws from in omega arith

pub star_shorter : (ts us : List Token) (at : Span) → IsStar ts at us → length us < length ts
star_shorter ts us at (types.star t vs ws a is from) = let s = consts_shorter t.at a vs ws from in omega arith

pub unit_shorter : (ts : List Token) (u : Row Measured) → IsUnit ts u → length u.rest < length ts
unit_shorter ts u (grammar.type t o c us vs ws b is x from y) =
    let a = next_shorter _ us vs o x in let s = base_shorter vs b from in let z = next_shorter _ b.rest ws c y in omega arith
unit_shorter ts u (grammar.behind t s n us vs ws x is a b) = let c = next_shorter _ us vs s a in let d = next_shorter _ vs ws n b in omega arith
unit_shorter ts u (grammar.behind_enclosed t o s n c us vs ws xs ys x is a b e f) =
    let g = next_shorter _ us vs o a in let h = next_shorter _ vs ws s b in let i = next_shorter _ ws xs n e in let j = next_shorter _ xs ys c f in omega arith

mutual
  pub args_shorter : (ts : List Token) (a : Row Exprs) → Args ts a → length a.rest ≤ length ts
  args_shorter ts a (grammar.Args.none us) = omega arith
  args_shorter ts a (grammar.Args.some us b from) = let s = some_args_shorter us b from in omega arith

  pub some_args_shorter : (ts : List Token) (a : Row Exprs) → SomeArgs ts a → length a.rest < length ts
  some_args_shorter ts a (grammar.SomeArgs.last us p from) = line_shorter _ us p from
  some_args_shorter ts a (grammar.SomeArgs.more us vs c p b from x rest) =
      let s = line_shorter _ us p from in let n = next_shorter _ p.rest vs c x in let m = some_args_shorter vs b rest in omega arith

  pub line_shorter : (k : ℕ) (ts : List Token) (p : Part Expr) → Line k ts p → length p.rest < length ts
  line_shorter k ts p (grammar.operand j us q from) = line_shorter j us q from
  line_shorter k ts p (grammar.operation_of j us vs t o l r left split is right) =
      let a = line_shorter _ us l left in let b = line_shorter j vs r right in let c : length l.rest ≡ suc (length vs) = rw split refl in omega arith
  line_shorter k ts p (grammar.unary us q from) = unary_shorter us q from

  pub unary_shorter : (ts : List Token) (p : Part Expr) → Unary ts p → length p.rest < length ts
  unary_shorter ts p (grammar.Unary.not_of t us q is from) = let s = unary_shorter us q from in omega arith
  unary_shorter ts p (grammar.Unary.neg t us q is from) = let s = unary_shorter us q from in omega arith
  unary_shorter ts p (grammar.Unary.postfix us q from) = postfix_shorter us q from

  pub postfix_shorter : (ts : List Token) (p : Part Expr) → Postfix ts p → length p.rest < length ts
  postfix_shorter ts p (grammar.Postfix.primary us q from) = primary_shorter us q from
  postfix_shorter ts p (grammar.Postfix.arrow us vs ws t n f q from x y) =
      let s = postfix_shorter us q from in let a = next_shorter _ q.rest vs t x in let b = next_shorter _ vs ws n y in omega arith
  postfix_shorter ts p (grammar.Postfix.index us vs ws o c q i from x y z) =
      let s = postfix_shorter us q from in let a = next_shorter _ q.rest vs o x in let b = line_shorter _ vs i y in let d = next_shorter _ i.rest ws c z in omega arith

  pub primary_shorter : (ts : List Token) (p : Part Expr) → Primary ts p → length p.rest < length ts
  primary_shorter ts p (grammar.Primary.number t us z is) = omega arith
  primary_shorter ts p (grammar.Primary.char t us z is) = omega arith
  primary_shorter ts p (grammar.Primary.string t us z is) = omega arith
  primary_shorter ts p (grammar.Primary.null t us is) = omega arith
  primary_shorter ts p (grammar.Primary.name t us x is) = omega arith
  primary_shorter ts p (grammar.Primary.call us q from) = call_shorter us q from
  primary_shorter ts p (grammar.Primary.new us q from) = new_shorter us q from
  primary_shorter ts p (grammar.Primary.enclosed o c us vs q is x y) =
      let s = line_shorter _ us q x in let a = next_shorter _ q.rest vs c y in omega arith

  pub call_shorter : (ts : List Token) (p : Part Expr) → Call ts p → length p.rest < length ts
  call_shorter ts p (grammar.call_of t o c f us vs ws a is x y z) =
      let b = next_shorter _ us vs o x in let s = args_shorter vs a y in let d = next_shorter _ a.rest ws c z in omega arith

  pub new_shorter : (ts : List Token) (p : Part Expr) → New ts p → length p.rest < length ts
  new_shorter ts p (grammar.New.plain us a from) = allocation_shorter us a from
  new_shorter ts p (grammar.New.cast o c us vs ws b s k a is x y z v w) =
      let d = base_shorter us b x in let e = star_shorter b.rest vs s y in let f = next_shorter _ vs ws c v in let g = allocation_shorter ws a w in omega arith

  pub allocation_shorter : (ts : List Token) (a : Part Request) → Allocation ts a → length a.rest < length ts
  allocation_shorter ts a (grammar.malloc t o c us vs ws r is x y z) =
      let b = next_shorter _ us vs o x in let s = size_shorter vs r y in let d = next_shorter _ r.rest ws c z in omega arith
  allocation_shorter ts a (grammar.calloc t o m c us vs ws xs p u is x y z v w) =
      let b = next_shorter _ us vs o x in let s = line_shorter _ vs p y in let d = next_shorter _ p.rest ws m z in
      let e = unit_shorter ws u v in let f = next_shorter _ u.rest xs c w in omega arith
  allocation_shorter ts a (grammar.calloc_bytes t o m n c us vs ws xs ys p is x y z v w) =
      let b = next_shorter _ us vs o x in let s = line_shorter _ vs p y in let d = next_shorter _ p.rest ws m z in
      let e = next_shorter _ ws xs n v in let f = next_shorter _ xs ys c w in omega arith

  pub size_shorter : (ts : List Token) (r : Row Request) → Size ts r → length r.rest < length ts
  size_shorter ts r (grammar.Size.unit us u from) = unit_shorter us u from
  size_shorter ts r (grammar.Size.count_unit us vs t p u x y z) =
      let a = line_shorter _ us p x in let b = next_shorter _ p.rest vs t y in let c = unit_shorter vs u z in omega arith
  size_shorter ts r (grammar.Size.unit_count us vs t u p x y z) =
      let a = unit_shorter us u x in let b = next_shorter _ u.rest vs t y in let c = line_shorter _ vs p z in omega arith
  size_shorter ts r (grammar.Size.bytes us p from) = line_shorter _ us p from
