-- What is spelled as members, parameters or a type is read.
use Rattle.std.proofs.Common.{◌≡◌, ◌≤◌, ◌<◌, ℕ, zero, suc, true, List, length, refl, Option, Some, None, arith}
use Rattle.std.specs.Prelude.{codes}
use Rattle.c_tree.specs.declared.tree.TypeName.{TypeName}
use Rattle.c_tree.specs.declared.tree.Unit.{Unit as Base}
use Rattle.c_tree.specs.declared.tree.Member.{Member}
use Rattle.c_token.specs.declared.token.Token.{Token}
use Rattle.c_token.specs.declared.token.TokenKind.TheVariants as kind
use Rattle.c_grammar.specs.Parts.{Piece, Next}
use Rattle.c_grammar.specs.Types.{IsBase, IsStar, Consts, IsType, IsDeclarator, type_of}
use Rattle.c_grammar.specs.Types as types
use Rattle.c_grammar.specs.Items.{Declarators, IsMember, Members, Param, SomeParams, Params, Answer}
use Rattle.c_grammar.specs.Items as grammar
use Rattle.c_grammar.specs.Reading.{after_mark, after_word, after_name}
use Rattle.c_grammar.specs.ReadItems.{Row, declarators, read_member, members, read_type, read_param, some_params, read_params, read_answer}
use Rattle.c_grammar.proofs.Fronts.{next_mark, next_name}
use Rattle.c_grammar.proofs.Shorter.{next_shorter, base_shorter, star_shorter}
use Rattle.c_grammar.proofs.TypeComplete.{ends_consts, star_ends_consts, name_ends_consts, base_complete, star_complete}
use Rattle.c_grammar.proofs.LocalComplete.{declarator_complete, declarator_shorter, declarator_ends_consts}
use Rattle.c_grammar.proofs.HeadingComplete.{base_no_mark}

abbrev pub row : {X : Type 0} → X → List Token → Row X
row x ts = record { items = x; rest = ts }

semicolon_no_comma : (ts us : List Token) (t : Token) → Next (kind.Mark (codes ";")) ts t us → after_mark (codes ",") ts ≡ None
semicolon_no_comma ts us t n = rw (n.0, n.1) refl

closing_no_comma : (ts us : List Token) (t : Token) → Next (kind.Mark (codes ")")) ts t us → after_mark (codes ",") ts ≡ None
closing_no_comma ts us t n = rw (n.0, n.1) refl

declarators_complete : (n : ℕ) (b : Base) (ts us : List Token) (ms : List Member) → Declarators b ts ms us → after_mark (codes ",") us ≡ None → length ts ≤ n
    → declarators n b ts ≡ Some (row ms us)
declarators_complete zero b ts us ms (grammar.Declarators.last vs ws m dec) end fuel = let s = declarator_shorter b vs ws m dec in absurd (omega arith)
declarators_complete zero b ts us ms (grammar.Declarators.more vs ws xs ys c m ns dec x rest) end fuel = let s = declarator_shorter b vs ws m dec in absurd (omega arith)
declarators_complete (suc n) b ts us ms (grammar.Declarators.last vs ws m dec) end fuel = rw (declarator_complete b vs ws m dec, end) refl
declarators_complete (suc n) b ts us ms (grammar.Declarators.more vs ws xs ys c m ns dec x rest) end fuel =
    let s = declarator_shorter b vs ws m dec in
    let s' = next_shorter _ ws xs c x in
    rw (declarator_complete b vs ws m dec, next_mark _ ws xs c x, declarators_complete n b xs ys ns rest end (omega arith)) refl

declarators_shorter : (b : Base) (ts us : List Token) (ms : List Member) → Declarators b ts ms us → length us < length ts
declarators_shorter b ts us ms (grammar.Declarators.last vs ws m dec) = declarator_shorter b vs ws m dec
declarators_shorter b ts us ms (grammar.Declarators.more vs ws xs ys c m ns dec x rest) =
    let s = declarator_shorter b vs ws m dec in let s' = next_shorter _ ws xs c x in let s'' = declarators_shorter b xs ys ns rest in omega arith

declarators_ends : (b : Base) (ts us : List Token) (ms : List Member) → Declarators b ts ms us → ends_consts ts ≡ true
declarators_ends b ts us ms (grammar.Declarators.last vs ws m dec) = declarator_ends_consts b vs ws m dec
declarators_ends b ts us ms (grammar.Declarators.more vs ws xs ys c m ns dec x rest) = declarator_ends_consts b vs ws m dec

member_complete : (ts us : List Token) (ms : List Member) → IsMember ts ms us → read_member ts ≡ Some (row ms us)
member_complete ts us ms (grammar.member vs ws xs b m ns base from x) =
    rw (
      base_complete vs b base (declarators_ends b.tree b.rest ws ns from),
      declarators_complete (length b.rest) b.tree b.rest ws ns from (semicolon_no_comma ws xs m x) (omega arith),
      next_mark _ ws xs m x,
    ) refl

pub member_shorter : (ts us : List Token) (ms : List Member) → IsMember ts ms us → length us < length ts
member_shorter ts us ms (grammar.member vs ws xs b m ns base from x) =
    let a = base_shorter vs b base in let c = declarators_shorter b.tree b.rest ws ns from in let d = next_shorter _ ws xs m x in omega arith

members_no_brace : (ts us : List Token) (ms : List Member) → Members ts ms us → after_mark (codes "}") ts ≡ None
members_no_brace ts us ms (grammar.Members.last vs ws ns (grammar.member xs ys zs b m os base from x)) = base_no_mark (codes "}") xs b base
members_no_brace ts us ms (grammar.Members.more vs ws xs ns os (grammar.member as' ys zs b m ps base from x) rest) = base_no_mark (codes "}") as' b base

pub members_complete : (n : ℕ) (ts us vs : List Token) (ms : List Member) (c : Token) → Members ts ms us → Next (kind.Mark (codes "}")) us c vs → length ts ≤ n
    → members n ts ≡ Some (row ms us)
members_complete zero ts us vs ms c (grammar.Members.last ws xs ns from) end fuel = let s = member_shorter ws xs ns from in absurd (omega arith)
members_complete zero ts us vs ms c (grammar.Members.more ws xs ys ns os from rest) end fuel = let s = member_shorter ws xs ns from in absurd (omega arith)
members_complete (suc n) ts us vs ms c (grammar.Members.last ws xs ns from) end fuel = rw (member_complete ws xs ns from, next_mark _ xs vs c end) refl
members_complete (suc n) ts us vs ms c (grammar.Members.more ws xs ys ns os from rest) end fuel =
    let s = member_shorter ws xs ns from in
    rw (member_complete ws xs ns from, members_no_brace xs ys os rest, members_complete n xs ys vs os c rest end (omega arith)) refl

pub members_shorter : (ts us : List Token) (ms : List Member) → Members ts ms us → length us < length ts
members_shorter ts us ms (grammar.Members.last ws xs ns from) = member_shorter ws xs ns from
members_shorter ts us ms (grammar.Members.more ws xs ys ns os from rest) = let a = member_shorter ws xs ns from in let b = members_shorter xs ys os rest in omega arith

-- types
pub type_complete : (ts : List Token) (p : Piece TypeName) → IsType ts p → after_mark (codes "*") p.rest ≡ None → ends_consts p.rest ≡ true → read_type ts ≡ Some p
type_complete ts p (types.IsType.plain us b k base type) none end = rw (base_complete us b base end, none, type) refl
type_complete ts p (types.IsType.starred us vs b at k base stars type) none end =
    rw (base_complete us b base (star_ends_consts b.rest vs at stars), star_complete b.rest vs at stars end, type) refl

pub type_shorter : (ts : List Token) (p : Piece TypeName) → IsType ts p → length p.rest < length ts
type_shorter ts p (types.IsType.plain us b k base type) = base_shorter us b base
type_shorter ts p (types.IsType.starred us vs b at k base stars type) = let a = base_shorter us b base in let c = star_shorter b.rest vs at stars in omega arith

-- what ends a parameter
pub record IsEnd (ts : List Token) : Type 0 where
  pub no_name : after_name ts ≡ None
  pub no_star : after_mark (codes "*") ts ≡ None
  pub no_const : ends_consts ts ≡ true

comma_end : (ts us : List Token) (t : Token) → Next (kind.Mark (codes ",")) ts t us → IsEnd ts
comma_end ts us t n = record { no_name = rw (n.0, n.1) refl; no_star = rw (n.0, n.1) refl; no_const = rw (n.0, n.1) refl }

closing_end : (ts us : List Token) (t : Token) → Next (kind.Mark (codes ")")) ts t us → IsEnd ts
closing_end ts us t n = record { no_name = rw (n.0, n.1) refl; no_star = rw (n.0, n.1) refl; no_const = rw (n.0, n.1) refl }

pub name_no_star : (x : List ℕ) (ts us : List Token) (t : Token) → Next (kind.Name x) ts t us → after_mark (codes "*") ts ≡ None
name_no_star x ts us t n = rw (n.0, n.1) refl

param_complete : (ts us : List Token) (m : Member) → Param ts m us → IsEnd us → read_param ts ≡ Some (record { member = m; rest = us })
param_complete ts us m (grammar.Param.unnamed vs p type) end = rw (type_complete vs p type end.no_star end.no_const, end.no_name) refl
param_complete ts us m (grammar.Param.named vs ws p n x type next) end =
    rw (type_complete vs p type (name_no_star x p.rest ws n next) (name_ends_consts x p.rest ws n next), next_name x p.rest ws n next) refl

pub param_shorter : (ts us : List Token) (m : Member) → Param ts m us → length us < length ts
param_shorter ts us m (grammar.Param.unnamed vs p type) = type_shorter vs p type
param_shorter ts us m (grammar.Param.named vs ws p n x type next) = let a = type_shorter vs p type in let b = next_shorter _ p.rest ws n next in omega arith

some_params_complete : (k : ℕ) (ts us vs : List Token) (ms : List Member) (c : Token) → SomeParams ts ms us → Next (kind.Mark (codes ")")) us c vs → length ts ≤ k
    → some_params k ts ≡ Some (row ms us)
some_params_complete zero ts us vs ms c (grammar.SomeParams.last ws xs m from) end fuel = let s = param_shorter ws xs m from in absurd (omega arith)
some_params_complete zero ts us vs ms c (grammar.SomeParams.more ws xs ys zs e m ns from x rest) end fuel = let s = param_shorter ws xs m from in absurd (omega arith)
some_params_complete (suc k) ts us vs ms c (grammar.SomeParams.last ws xs m from) end fuel =
    rw (param_complete ws xs m from (closing_end xs vs c end), closing_no_comma xs vs c end) refl
some_params_complete (suc k) ts us vs ms c (grammar.SomeParams.more ws xs ys zs e m ns from x rest) end fuel =
    let s = param_shorter ws xs m from in
    let s' = next_shorter _ xs ys e x in
    rw (param_complete ws xs m from (comma_end xs ys e x), next_mark _ xs ys e x, some_params_complete k ys zs vs ns c rest end (omega arith)) refl

base_no_void : (ts : List Token) (b : Piece Base) → IsBase ts b → after_word (codes "void") ts ≡ None
base_no_void ts b (types.IsBase.const t us p is from) = rw is refl
base_no_void ts b (types.int t us vs at is from) = rw is refl
base_no_void ts b (types.char t us vs at is from) = rw is refl
base_no_void ts b (types.struct t n x us vs ws at is next from) = rw is refl

pub type_no_void : (ts : List Token) (p : Piece TypeName) → IsType ts p → after_word (codes "void") ts ≡ None
type_no_void ts p (types.IsType.plain us b k base type) = base_no_void us b base
type_no_void ts p (types.IsType.starred us vs b at k base stars type) = base_no_void us b base

type_no_mark : (m : List ℕ) (ts : List Token) (p : Piece TypeName) → IsType ts p → after_mark m ts ≡ None
type_no_mark m ts p (types.IsType.plain us b k base type) = base_no_mark m us b base
type_no_mark m ts p (types.IsType.starred us vs b at k base stars type) = base_no_mark m us b base

-- what parameters begin with
pub record IsTyped (ts : List Token) : Type 0 where
  pub no_closing : after_mark (codes ")") ts ≡ None
  pub no_void : after_word (codes "void") ts ≡ None

param_typed : (ts us : List Token) (m : Member) → Param ts m us → IsTyped ts
param_typed ts us m (grammar.Param.unnamed vs p type) = record { no_closing = type_no_mark (codes ")") vs p type; no_void = type_no_void vs p type }
param_typed ts us m (grammar.Param.named vs ws p n x type next) = record { no_closing = type_no_mark (codes ")") vs p type; no_void = type_no_void vs p type }

some_typed : (ts us : List Token) (ms : List Member) → SomeParams ts ms us → IsTyped ts
some_typed ts us ms (grammar.SomeParams.last ws xs m from) = param_typed ws xs m from
some_typed ts us ms (grammar.SomeParams.more ws xs ys zs e m ns from x rest) = param_typed ws xs m from

pub params_complete : (ts us vs : List Token) (ms : List Member) (c : Token) → Params ts ms us → Next (kind.Mark (codes ")")) us c vs → read_params ts ≡ Some (row ms us)
params_complete ts us vs ms c (grammar.Params.none ws) end = rw (next_mark _ ws vs c end) refl
params_complete ts us vs ms c (grammar.Params.void t ws is) end = rw is refl
params_complete ts us vs ms c (grammar.Params.some ws xs ns from) end =
    let typed = some_typed ws xs ns from in
    rw (typed.no_closing, typed.no_void) (some_params_complete (length ws) ws xs vs ns c from end (omega arith))

some_shorter : (ts us : List Token) (ms : List Member) → SomeParams ts ms us → length us < length ts
some_shorter ts us ms (grammar.SomeParams.last ws xs m from) = param_shorter ws xs m from
some_shorter ts us ms (grammar.SomeParams.more ws xs ys zs e m ns from x rest) =
    let a = param_shorter ws xs m from in let b = next_shorter _ xs ys e x in let c = some_shorter ys zs ns rest in omega arith

pub params_shorter : (ts us : List Token) (ms : List Member) → Params ts ms us → length us ≤ length ts
params_shorter ts us ms (grammar.Params.none ws) = omega arith
params_shorter ts us ms (grammar.Params.void t ws is) = omega arith
params_shorter ts us ms (grammar.Params.some ws xs ns from) = let a = some_shorter ws xs ns from in omega arith

pub answer_complete : (ts us : List Token) (r : Piece (Option TypeName)) (x : List ℕ) (n : Token) → Answer ts r → Next (kind.Name x) r.rest n us → read_answer ts ≡ Some r
answer_complete ts us r x n (grammar.Answer.void t vs is) next = rw is refl
answer_complete ts us r x n (grammar.Answer.typed vs p type) next =
    rw (type_no_void vs p type, type_complete vs p type (name_no_star x p.rest us n next) (name_ends_consts x p.rest us n next)) refl

pub answer_shorter : (ts : List Token) (r : Piece (Option TypeName)) → Answer ts r → length r.rest < length ts
answer_shorter ts r (grammar.Answer.void t vs is) = omega arith
answer_shorter ts r (grammar.Answer.typed vs p type) = type_shorter vs p type
