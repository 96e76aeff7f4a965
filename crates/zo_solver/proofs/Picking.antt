-- A search that is made, and lines that are kept.
use Rattle.std.proofs.Common.{◌≡◌, ℕ, zero, suc, ◌+◌, ◌*◌, ◌-◌, ◌<◌, ◌≤◌, ◌^◌, ◌⊎◌, inl, inr, Bool, List, [], ◌∷◌, ◌++◌, length, get_or, set, map, take, drop, Option, Some, refl, sym, ap, ◌∙◌, subst, arith}
use Rattle.std.specs.Prelude.{Vec}
use Rattle.std.specs.Global.{Global}
use Rattle.std.specs.Vec.{vec_capacity}
use Rattle.std.specs.List.{Contains}
use Rattle.std.proofs.lemmas.Bool.{cases_lt}
use Rattle.std.proofs.lemmas.Option.{get_or_from_slice_get}
use Rattle.std.proofs.lemmas.List.{take_more, take_more_set, drop-set-lt}
use Rattle.zo_core.specs.Literals.{Literal}
use Rattle.zo_core.specs.Order.{Ascends}
use Rattle.zo_solver.specs.Clauses.{numbered, EachClause, AreWithin}
use Rattle.zo_solver.specs.Stores.{picked, AreNumbers}
use Rattle.zo_solver.specs.Derived.{Ledger, IsTrueOrigin, IsResolved, AreDerived, AreApart, AreClosed, new_number, renumbered_origin}
use Rattle.zo_solver.specs.Trail.{IsClauseOver, IsWhole}
use Rattle.zo_solver.specs.Makes.{IsMadeSearch}
use Rattle.zo_solver.specs.declared.answers.Origin.{Origin}
use Rattle.zo_solver.specs.declared.answers.Origin.TheVariants.{Given, Lemma, Resolved}
use Rattle.zo_solver.specs.declared.search.Search.{Search}
use Rattle.zo_solver.proofs.Bucketing.{some_same, none_some}
use Rattle.zo_solver.proofs.Keeping.{numbers-low, numbers-high, picked-push, get-behind, drop-later}
use Rattle.zo_solver.proofs.Placing.{placed}

both_each : (P Q : List Literal → Type 0) (cs : List (List Literal)) → EachClause P cs → EachClause Q cs → EachClause (λ c. P c × Q c) cs
both_each P Q [] h k = tt
both_each P Q (c ∷ cs) h k = ((h.0, k.0), both_each P Q cs h.1 k.1)

pub made_search : (vars words : ℕ) (clauses : List (List Literal)) (s : Search) → s.vars ≡ vars → vars + 1 < 2 ^ 31 → s.given.clauses ≡ clauses → EachClause (Ascends 0) s.given.clauses → EachClause (AreWithin vars) clauses → s.lines ≡ record { clauses = []; origins = []; words = words }
    → length s.values.items ≡ vars + 1 → vars + 1 ≤ vec_capacity s.trail → 2 * (vars + 1) ≤ vec_capacity s.made → IsMadeSearch vars clauses words s
made_search vars words clauses s vars_is small given ordered within lines values trail made =
    let none : s.lines.clauses ≡ [] = ap (λ (l : Ledger). l.clauses) lines in
    record {
      whole = record {
        given = rw vars_is (both_each (Ascends 0) (AreWithin vars) s.given.clauses ordered (rw given within));
        lines = rw none tt;
        derived = λ n c o at o_at. absurd (nothing n c (rw none at at));
        values = omega arith;
        vars = omega arith;
        trail_room = omega arith;
        made_room = omega arith;
      };
      vars_are = vars_is;
      given = given;
      lines = lines;
    }
  where
    nothing : (n : ℕ) (c : List Literal) → numbered (let x : List (List Literal) = [] in x) n ≡ Some c → ⊥
    nothing zero c e = none_some c e
    nothing (suc k) c e = none_some c e

pub numbers-wider : (last count more : ℕ) (ns : List ℕ) → count ≤ more → AreNumbers last count ns → AreNumbers last more ns
numbers-wider last count more [] le h = tt
numbers-wider last count more (n ∷ ns) le h = (h.0, omega (arith, h.1), numbers-wider n count more ns le h.2)

module _ {X : Type 0} where
  any_default : (xs : List X) (i : ℕ) (d e : X) → i < length xs → get_or xs i d ≡ get_or xs i e
  any_default [] i d e h = absurd (omega arith)
  any_default (x ∷ xs) zero d e h = refl
  any_default (x ∷ xs) (suc i) d e h = any_default xs i d e (omega arith)

map-push : (f : Origin → Origin) (xs : List Origin) (x : Origin) → map f (xs ++ x ∷ []) ≡ map f xs ++ f x ∷ []
map-push f [] x = refl
map-push f (y ∷ xs) x = ap (λ (l : List Origin). f y ∷ l) (map-push f xs x)

-- one origin more is moved to the front
pub kept_origin : (f : Origin → Origin) (now first : List Origin) (numbers : List ℕ) (at : ℕ) (x y : Origin) → AreNumbers 0 (length first) numbers → at < length numbers → take at now ≡ map f (picked Lemma first (take at numbers)) → drop at now ≡ drop at first → length now ≡ length first → x ≡ get_or now (get_or numbers at 0 - 1) x → y ≡ f x
    → (take (at + 1) (set now at y) ≡ map f (picked Lemma first (take (at + 1) numbers))) × (drop (at + 1) (set now at y) ≡ drop (at + 1) first)
kept_origin f now first numbers at x y h lt front behind len x_is y_is =
    let n : ℕ = get_or numbers at 0 in
    let low : 0 + suc at ≤ n = numbers-low 0 (length first) numbers at 0 h lt in
    let high : n ≤ length first = numbers-high 0 (length first) numbers at 0 h lt in
    let k : n ≡ suc (n - 1) = omega arith in
    let x_first : x ≡ get_or first (n - 1) Lemma = x_is ∙ get-behind now first at (n - 1) x (omega arith) behind ∙ any_default first (n - 1) x Lemma (omega arith) in
    let more : take (at + 1) numbers ≡ take at numbers ++ suc (n - 1) ∷ [] = take_more numbers at 0 lt ∙ ap (λ m. take at numbers ++ m ∷ []) k in (
      take_more_set now at y (omega arith) ∙ ap (λ (l : List Origin). l ++ y ∷ []) front
          ∙ ap (λ (z : Origin). map f (picked Lemma first (take at numbers)) ++ z ∷ []) (y_is ∙ ap f x_first)
          ∙ sym (map-push f (picked Lemma first (take at numbers)) (get_or first (n - 1) Lemma))
          ∙ ap (map f) (sym (picked-push Lemma first (take at numbers) (n - 1)) ∙ ap (picked Lemma first) (sym more)),
      drop-set-lt (at + 1) now at y (omega arith) ∙ drop-later now first at (at + 1) (omega arith) behind,
    )

-- a picked element is that of its number
pub record IsPicked {X : Type 0} (xs : List X) (ks : List ℕ) (n : ℕ) (x : X) : Type 0 where
  pub number : ℕ
  pub number_at : numbered ks n ≡ Some number
  pub element_at : numbered xs number ≡ Some x

numbered-get : {X : Type 0} (xs : List X) (k : ℕ) (d x : X) → k < length xs → get_or xs k d ≡ x → numbered xs (suc k) ≡ Some x
numbered-get [] k d x lt e = absurd (omega arith)
numbered-get (y ∷ xs) zero d x lt e = ap Some e
numbered-get (y ∷ xs) (suc k) d x lt e = numbered-get xs k d x (omega arith) e

pub picked-at : {X : Type 0} (d : X) (xs : List X) (last : ℕ) (ks : List ℕ) (n : ℕ) (x : X) → AreNumbers last (length xs) ks → numbered (picked d xs ks) n ≡ Some x → IsPicked xs ks n x
picked-at d xs last ks zero x h e = absurd (none_some x e)
picked-at d xs last [] (suc n) x h e = absurd (none_some x e)
picked-at d xs last (zero ∷ ks) (suc n) x h e = absurd (omega (arith, h.0))
picked-at d xs last (suc k ∷ ks) (suc zero) x h e = record { number = suc k; number_at = refl; element_at = numbered-get xs k d x (omega (arith, h.1)) (some_same (get_or xs k d) x e) }
picked-at d xs last (suc k ∷ ks) (suc (suc n)) x h e =
    let r = picked-at d xs (suc k) ks (suc n) x h.2 e in
    record { number = r.number; number_at = r.number_at; element_at = r.element_at }

pub picked-there : {X : Type 0} (d : X) (xs : List X) (last : ℕ) (ks : List ℕ) (n k : ℕ) (x : X) → AreNumbers last (length xs) ks → numbered ks n ≡ Some k → numbered xs k ≡ Some x → numbered (picked d xs ks) n ≡ Some x
picked-there d xs last ks zero k x h e at = absurd (none_some k e)
picked-there d xs last [] (suc n) k x h e at = absurd (none_some k e)
picked-there d xs last (zero ∷ ks) (suc n) k x h e at = absurd (omega (arith, h.0))
picked-there d xs last (suc j ∷ ks) (suc zero) k x h e at =
    let is : suc j ≡ k = some_same (suc j) k e in
    first j (rw (← is) at at)
  where
    first : (i : ℕ) → numbered xs (suc i) ≡ Some x → Some (get_or xs i d) ≡ Some x
    first i q = ap Some (get_or_from_slice_get xs i x d q)
picked-there d xs last (suc j ∷ ks) (suc (suc n)) k x h e at = picked-there d xs (suc j) ks (suc n) k x h.2 e at

-- numbers ascend with their places
numbered-get_or : (ks : List ℕ) (n k : ℕ) → numbered ks (suc n) ≡ Some k → (n < length ks) × (get_or ks n 0 ≡ k)
numbered-get_or [] n k e = absurd (none_some k e)
numbered-get_or (j ∷ ks) zero k e = (omega arith, some_same j k e)
numbered-get_or (j ∷ ks) (suc n) k e = let r = numbered-get_or ks n k e in (omega (arith, r.0), r.1)

numbers-strict : (last count : ℕ) (ns : List ℕ) (i j : ℕ) → AreNumbers last count ns → i < j → j < length ns → get_or ns i 0 < get_or ns j 0
numbers-strict last count [] i j h lt in' = absurd (omega arith)
numbers-strict last count (n ∷ ns) i zero h lt in' = absurd (omega arith)
numbers-strict last count (n ∷ ns) zero (suc j) h lt in' = let low = numbers-low n count ns j 0 h.2 (omega arith) in omega arith
numbers-strict last count (n ∷ ns) (suc i) (suc j) h lt in' = numbers-strict n count ns i j h.2 (omega arith) (omega arith)

-- the place of a number among them
new_number-at : (count : ℕ) (ks : List ℕ) (i k : ℕ) → AreNumbers 0 count ks → i < length ks → get_or ks i 0 ≡ k → new_number ks k ≡ suc i
new_number-at count ks i k h lt e =
    placed ks k (suc i) (omega arith) (λ j less. upto j less (cases_lt j i)) (λ more. let s = numbers-strict 0 count ks i (suc i) h (omega arith) more in omega arith)
  where
    upto : (j : ℕ) → j < suc i → (j < i) ⊎ (i ≤ j) → get_or ks j 0 ≤ k
    upto j less (inl before) = let s = numbers-strict 0 count ks j i h before lt in omega arith
    upto j less (inr same) = let is : j ≡ i = omega arith in rw is (omega arith)

numbered-new : (count : ℕ) (ks : List ℕ) (k : ℕ) → AreNumbers 0 count ks → Contains ks k → numbered ks (new_number ks k) ≡ Some k
numbered-new count ks k h c =
    let e : get_or ks c.0 0 ≡ k = any_default ks c.0 0 k c.1 ∙ c.2 in
    rw (new_number-at count ks c.0 k h c.1 e) (numbered-get ks c.0 0 k c.1 e)

-- no two picked elements are one
pub apart-picked : (cs : List (List Literal)) (ks : List ℕ) → AreNumbers 0 (length cs) ks → AreApart cs → AreApart (picked [] cs ks)
apart-picked cs ks h apart m n c m_at n_at =
    let p = picked-at [] cs 0 ks m c h m_at in
    let q = picked-at [] cs 0 ks n c h n_at in
    let same : p.number ≡ q.number = apart p.number q.number c p.element_at q.element_at in
    one_place m n p.number p.number_at (rw (← same) at q.number_at)
  where
    one_place : (i j k : ℕ) → numbered ks i ≡ Some k → numbered ks j ≡ Some k → i ≡ j
    one_place zero j k a b = absurd (none_some k a)
    one_place (suc i) zero k a b = absurd (none_some k b)
    one_place (suc i) (suc j) k a b =
        let x = numbered-get_or ks i k a in
        let y = numbered-get_or ks j k b in
        let u = new_number-at (length cs) ks i k h x.0 x.1 in
        let v = new_number-at (length cs) ks j k h y.0 y.1 in
        sym u ∙ v

map-at : (f : Origin → Origin) (xs : List Origin) (n : ℕ) (o : Origin) → numbered (map f xs) n ≡ Some o → (p : Origin) × ((numbered xs n ≡ Some p) × (f p ≡ o))
map-at f xs zero o e = absurd (none_some o e)
map-at f [] (suc n) o e = absurd (none_some o e)
map-at f (x ∷ xs) (suc zero) o e = (x, (refl, some_same (f x) o e))
map-at f (x ∷ xs) (suc (suc n)) o e = map-at f xs (suc n) o e

module _ (given lines : List (List Literal)) (origins : List Origin) (ks : List ℕ) where
  resolved-picked : AreNumbers 0 (length lines) ks → AreClosed origins ks → (n k a b : ℕ) (c : List Literal) → numbered ks n ≡ Some k → numbered origins k ≡ Some (Resolved a b) → IsResolved lines k a b c → IsResolved (picked [] lines ks) n (new_number ks a) (new_number ks b) c
  resolved-picked h closed zero k a b c at o_at r = absurd (none_some k at)
  resolved-picked h closed (suc n) k a b c at o_at r =
      let g = numbered-get_or ks n k at in
      let k_in : Contains ks k = (n, g.0, any_default ks n k 0 g.0 ∙ g.1) in
      let both = closed k a b k_in o_at in
      record {
        first = r.first;
        second = r.second;
        first_at = picked-there [] lines 0 ks (new_number ks a) a r.first h (numbered-new (length lines) ks a h both.0) r.first_at;
        second_at = picked-there [] lines 0 ks (new_number ks b) b r.second h (numbered-new (length lines) ks b h both.1) r.second_at;
        first_before = before a both.0 r.first_before g.0 g.1;
        second_before = before b both.1 r.second_before g.0 g.1;
        resolvent = r.resolvent;
      }
    where
      before : (x : ℕ) → Contains ks x → x < k → n < length ks → get_or ks n 0 ≡ k → new_number ks x < suc n
      before x c_in less n_in n_is =
          let e : get_or ks c_in.0 0 ≡ x = any_default ks c_in.0 0 x c_in.1 ∙ c_in.2 in
          rw (new_number-at (length lines) ks c_in.0 x h c_in.1 e) (order (cases_lt c_in.0 n) e)
        where
          order : (c_in.0 < n) ⊎ (n ≤ c_in.0) → get_or ks c_in.0 0 ≡ x → suc c_in.0 < suc n
          order (inl lt) e = omega arith
          order (inr le) e = absurd (contradiction (cases_lt n c_in.0))
            where
              contradiction : (n < c_in.0) ⊎ (c_in.0 ≤ n) → ⊥
              contradiction (inl lt) = let s = numbers-strict 0 (length lines) ks n c_in.0 h lt c_in.1 in omega arith
              contradiction (inr ge) = let is : c_in.0 ≡ n = omega arith in let same = ap (λ j. get_or ks j 0) is in omega arith

  -- the origins of the kept lines are true of them
  pub derived-picked : AreNumbers 0 (length lines) ks → length origins ≡ length lines → AreClosed origins ks → AreDerived given lines origins → AreDerived given (picked [] lines ks) (map (renumbered_origin ks) (picked Lemma origins ks))
  derived-picked h same closed d n c o c_at o_at =
      let q = map-at (renumbered_origin ks) (picked Lemma origins ks) n o o_at in
      let line = picked-at [] lines 0 ks n c h c_at in
      let from = picked-at Lemma origins 0 ks n q.0 (rw (← same) at h) q.1.0 in
      let one : from.number ≡ line.number = some_same from.number line.number (sym from.number_at ∙ line.number_at) in
      let origin_at : numbered origins line.number ≡ Some q.0 = rw one at from.element_at in
      subst (IsTrueOrigin given (picked [] lines ks) n c) q.1.1 (true_of q.0 line.number line.number_at origin_at (d line.number c q.0 line.element_at origin_at))
    where
      true_of : (p : Origin) (k : ℕ) → numbered ks n ≡ Some k → numbered origins k ≡ Some p → IsTrueOrigin given lines k c p → IsTrueOrigin given (picked [] lines ks) n c (renumbered_origin ks p)
      true_of (Given j) k k_at p_at t = t
      true_of Lemma k k_at p_at t = tt
      true_of (Resolved a b) k k_at p_at t = resolved-picked h closed n k a b c k_at p_at t

pub each_clause-picked : (P : List Literal → Type 0) (cs : List (List Literal)) (last : ℕ) (ks : List ℕ) → AreNumbers last (length cs) ks → EachClause P cs → EachClause P (picked [] cs ks)
each_clause-picked P cs last [] h e = tt
each_clause-picked P cs last (zero ∷ ks) h e = absurd (omega (arith, h.0))
each_clause-picked P cs last (suc k ∷ ks) h e = (at cs k e (omega (arith, h.1)), each_clause-picked P cs (suc k) ks h.2 e)
  where
    at : (ds : List (List Literal)) (i : ℕ) → EachClause P ds → i < length ds → P (get_or ds i [])
    at [] i q lt = absurd (omega arith)
    at (d ∷ ds) zero q lt = q.0
    at (d ∷ ds) (suc i) q lt = at ds i q.1 (omega arith)

-- each clause costs a word at least

pub kept_whole : (old new : Search) (ks : List ℕ) → IsWhole old → AreNumbers 0 (length old.lines.clauses) ks → AreClosed old.lines.origins ks → length old.lines.origins ≡ length old.lines.clauses → new.vars ≡ old.vars → new.given ≡ old.given → new.values ≡ old.values → new.trail ≡ old.trail → new.made ≡ old.made
    → new.lines.clauses ≡ picked [] old.lines.clauses ks → new.lines.origins ≡ map (renumbered_origin ks) (picked Lemma old.lines.origins ks) → IsWhole new
kept_whole old new ks w h closed same vars given values trail made clauses origins =
    let vars_old = w.vars in let values_old = w.values in let made_old = w.made_room in let trail_old = w.trail_room in
    let values_len : length new.values.items ≡ length old.values.items = ap (λ (v : Vec (Option Bool) Global). length v.items) values in
    let trail_cap : vec_capacity new.trail ≡ vec_capacity old.trail = ap vec_capacity trail in
    let made_cap : vec_capacity new.made ≡ vec_capacity old.made = ap vec_capacity made in
    record {
      given = rw (vars, given) w.given;
      lines = rw (vars, clauses) (each_clause-picked (IsClauseOver old.vars) old.lines.clauses 0 ks h w.lines);
      derived = rw (given, clauses, origins) (derived-picked old.given.clauses old.lines.clauses old.lines.origins ks h same closed w.derived);
      values = omega arith;
      vars = omega arith;
      trail_room = omega arith;
      made_room = omega arith;
    }
