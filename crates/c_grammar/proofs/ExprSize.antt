-- An expression has at most four nodes for each of its tokens.
use Rattle.std.proofs.Common.{◌≡◌, ◌≤◌, ◌+◌, ◌*◌, ℕ, suc, List, length, refl, Option, Some, None, arith}
use Rattle.c_tree.specs.declared.position.Span.{Span}
use Rattle.c_tree.specs.declared.tree.TypeName.{TypeName}
use Rattle.c_tree.specs.Plain.{Expr, Exprs}
use Rattle.c_tree.specs.Nodes.{node_count, node_count_of}
use Rattle.c_token.specs.declared.token.Token.{Token}
use Rattle.c_grammar.specs.Parts.{Part, Row, join}
use Rattle.c_grammar.specs.Exprs.{Args, SomeArgs, Line, Unary, Postfix, Primary, Call, New, Allocation, Size, Request, requested}
use Rattle.c_grammar.specs.Exprs as grammar
use Rattle.c_grammar.proofs.Shorter.{next_shorter, base_shorter, star_shorter, unit_shorter}

abbrev pub counted : Option Expr → ℕ
counted None = 0
counted (Some e) = node_count e

requested_count : (cast : Option TypeName) (r : Request) (at : Span) (o : Option Expr) → node_count (requested cast r at o) ≡ counted o + 1
requested_count cast r at None = refl
requested_count cast r at (Some e) = refl

mutual
  pub args_size : (ts : List Token) (a : Row Exprs) → Args ts a → node_count_of a.tree + 4 * length a.rest ≤ 4 * length ts
  args_size ts a (grammar.Args.none us) = omega arith
  args_size ts a (grammar.Args.some us b from) = some_args_size us b from

  some_args_size : (ts : List Token) (a : Row Exprs) → SomeArgs ts a → node_count_of a.tree + 4 * length a.rest ≤ 4 * length ts
  some_args_size ts a (grammar.SomeArgs.last us p from) = let s = line_size _ us p from in omega arith
  some_args_size ts a (grammar.SomeArgs.more us vs c p b from x rest) =
      let s = line_size _ us p from in let n = next_shorter _ p.rest vs c x in let m = some_args_size vs b rest in omega arith

  pub line_size : (k : ℕ) (ts : List Token) (p : Part Expr) → Line k ts p → node_count p.tree + 4 * length p.rest ≤ 4 * length ts
  line_size k ts p (grammar.operand j us q from) = line_size j us q from
  line_size k ts p (grammar.operation_of j us vs t o l r left split is right) =
      let a = line_size (suc j) us l left in let b = line_size j vs r right in let c : length l.rest ≡ suc (length vs) = rw split refl in omega arith
  line_size k ts p (grammar.unary us q from) = unary_size us q from

  unary_size : (ts : List Token) (p : Part Expr) → Unary ts p → node_count p.tree + 4 * length p.rest ≤ 4 * length ts
  unary_size ts p (grammar.Unary.not_of t us q is from) = let s = unary_size us q from in omega arith
  unary_size ts p (grammar.Unary.neg t us q is from) = let s = unary_size us q from in omega arith
  unary_size ts p (grammar.Unary.postfix us q from) = postfix_size us q from

  pub postfix_size : (ts : List Token) (p : Part Expr) → Postfix ts p → node_count p.tree + 4 * length p.rest ≤ 4 * length ts
  postfix_size ts p (grammar.Postfix.primary us q from) = primary_size us q from
  postfix_size ts p (grammar.Postfix.arrow us vs ws t n f q from x y) =
      let s = postfix_size us q from in let a = next_shorter _ q.rest vs t x in let b = next_shorter _ vs ws n y in omega arith
  postfix_size ts p (grammar.Postfix.index us vs ws o c q i from x y z) =
      let s = postfix_size us q from in let a = next_shorter _ q.rest vs o x in let b = line_size _ vs i y in let d = next_shorter _ i.rest ws c z in omega arith

  primary_size : (ts : List Token) (p : Part Expr) → Primary ts p → node_count p.tree + 4 * length p.rest ≤ 4 * length ts
  primary_size ts p (grammar.Primary.number t us z is) = omega arith
  primary_size ts p (grammar.Primary.char t us z is) = omega arith
  primary_size ts p (grammar.Primary.string t us z is) = omega arith
  primary_size ts p (grammar.Primary.null t us is) = omega arith
  primary_size ts p (grammar.Primary.name t us x is) = omega arith
  primary_size ts p (grammar.Primary.call us q from) = call_size us q from
  primary_size ts p (grammar.Primary.new us q from) = new_size us q from
  primary_size ts p (grammar.Primary.enclosed o c us vs q is x y) =
      let s = line_size _ us q x in let a = next_shorter _ q.rest vs c y in omega arith

  pub call_size : (ts : List Token) (p : Part Expr) → Call ts p → node_count p.tree + 4 * length p.rest ≤ 4 * length ts
  call_size ts p (grammar.call_of t o c f us vs ws a is x y z) =
      let b = next_shorter _ us vs o x in let s = args_size vs a y in let d = next_shorter _ a.rest ws c z in omega arith

  new_size : (ts : List Token) (p : Part Expr) → New ts p → node_count p.tree + 4 * length p.rest ≤ 4 * length ts
  new_size ts p (grammar.New.plain us a from) = let s = allocation_size us a from in let r = requested_count None a.tree a.at a.tree.count in omega arith
  new_size ts p (grammar.New.cast o c us vs ws b s k a is x y z v w) =
      let d = base_shorter us b x in let e = star_shorter b.rest vs s y in let f = next_shorter _ vs ws c v in let g = allocation_size ws a w in
      let r = requested_count (Some k) a.tree (join o.at a.at) a.tree.count in omega arith

  -- with one more for its own node
  allocation_size : (ts : List Token) (a : Part Request) → Allocation ts a → counted a.tree.count + 1 + 4 * length a.rest ≤ 4 * length ts
  allocation_size ts a (grammar.malloc t o c us vs ws r is x y z) =
      let b = next_shorter _ us vs o x in let s = size_size vs r y in let d = next_shorter _ r.rest ws c z in omega arith
  allocation_size ts a (grammar.calloc t o m c us vs ws xs p u is x y z v w) =
      let b = next_shorter _ us vs o x in let s = line_size _ vs p y in let d = next_shorter _ p.rest ws m z in
      let e = unit_shorter ws u v in let f = next_shorter _ u.rest xs c w in omega arith
  allocation_size ts a (grammar.calloc_bytes t o m n c us vs ws xs ys p is x y z v w) =
      let b = next_shorter _ us vs o x in let s = line_size _ vs p y in let d = next_shorter _ p.rest ws m z in
      let e = next_shorter _ ws xs n v in let f = next_shorter _ xs ys c w in omega arith

  size_size : (ts : List Token) (r : Row Request) → Size ts r → counted r.tree.count + 4 * length r.rest ≤ 4 * length ts
  size_size ts r (grammar.Size.unit us u from) = let s = unit_shorter us u from in omega arith
  size_size ts r (grammar.Size.count_unit us vs t p u x y z) =
      let a = line_size _ us p x in let b = next_shorter _ p.rest vs t y in let c = unit_shorter vs u z in omega arith
  size_size ts r (grammar.Size.unit_count us vs t u p x y z) =
      let a = unit_shorter us u x in let b = next_shorter _ u.rest vs t y in let c = line_size _ vs p z in omega arith
  size_size ts r (grammar.Size.bytes us p from) = line_size _ us p from
