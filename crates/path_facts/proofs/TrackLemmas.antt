-- Tracks of slots, and the marks of which they are made.
use Rattle.std.proofs.Common.{◌≡◌, ℕ, zero, suc, ◌+◌, ◌<◌, ◌≤◌, ◌⊎◌, inl, inr, Bool, true, false, cond, ◌||◌, Option, Some, None, List, [], ◌∷◌, ◌++◌, length, get_or, set, ltb, ◌∙◌, refl, sym, ap, subst, ◌^◌, arith, length-append, get_or-set_same}
use Rattle.std.proofs.lemmas.Bool.{cases_eq, cases_lt, lt-ltb, or_left, or_right}
use Rattle.std.proofs.lemmas.Bool.Decides.{nat_tests}
use Rattle.std.proofs.lemmas.List.{get_or_append_left, get_or_push, get_or_past, length-take}
use Rattle.std.proofs.lemmas.List.Sums.{sum_by-append, get_or-le-sum_by}
use Rattle.std.proofs.lemmas.Option.{slice_get_within, slice_get-get_or}
use Rattle.std.specs.Prelude.{is_some, slice_get}
use Rattle.std.specs.List.{count_by}
use Rattle.c_types.specs.declared.kinds.SlotType.{SlotType}
use Rattle.c_types.specs.declared.kinds.SlotType.TheVariants as type
use Rattle.c_types.specs.Types.{is_pointer}
use Rattle.flow_graph.specs.declared.action.Edge.{Edge}
use Rattle.flow_graph.specs.FlowGraph.{Flow, FlowGraph, no_flow, flow_of, edges_from, type_in}
use Rattle.flow_graph.specs.Fits.{IsFlowGraph}
use Rattle.flow_graph.specs.Paths.{no_edge, edge_at}
use Rattle.path_facts.specs.Tracks.{track_of, track_count, IsTracked, AreTracks, result_of, AreMarks, AreTracksOf, TracksFit}
use Rattle.path_facts.proofs.RowLemmas.{place_within}

pub track_within : (tracks : List (Option ℕ)) (x n : ℕ) → track_of tracks x ≡ Some n → x < length tracks
track_within [] x n is = absurd (cc)
track_within (t ∷ tracks) zero n is = omega arith
track_within (t ∷ tracks) (suc x) n is = let inside = track_within tracks x n is in omega arith

-- One more track

module _ (tracks : List (Option ℕ)) (t : Option ℕ) where
  track-push : (x n : ℕ) → track_of (tracks ++ t ∷ []) x ≡ Some n → (track_of tracks x ≡ Some n) ⊎ ((x ≡ length tracks) × (t ≡ Some n))
  track-push x n is =
      elim (cases_lt x (length tracks)) [
        | inl before ↦ inl (sym (get_or_append_left tracks (t ∷ []) None x before) ∙ is)
        | inr after ↦
            elim (cases_eq x (length tracks)) [
              | inl last ↦ inr (last, sym (get_or_push tracks t None x (sym last)) ∙ is)
              | inr past ↦
                  let none : track_of (tracks ++ t ∷ []) x ≡ None = get_or_past (tracks ++ t ∷ []) x None (omega (arith, length-append tracks (t ∷ []))) in
                  absurd (cc)
            ]
      ]

  still_tracked : (x : ℕ) → IsTracked tracks x → IsTracked (tracks ++ t ∷ []) x
  still_tracked x was = record {
    track = was.track;
    is = get_or_append_left tracks (t ∷ []) None x was.within ∙ was.is;
    within = let inside = was.within in omega (arith, length-append tracks (t ∷ []));
  }

  count-push : track_count (tracks ++ t ∷ []) ≡ track_count tracks + count_by is_some (t ∷ [])
  count-push = sum_by-append (λ (o : Option ℕ). cond (is_some o) 1 0) tracks (t ∷ [])

-- the first i marks have their numbers
pub record AreNumbered (marks : List Bool) (i : ℕ) (tracks : List (Option ℕ)) (count : ℕ) : Type 0 where
  pub size : length tracks ≡ i
  pub counted : count ≡ track_count tracks
  pub numbers : AreTracks tracks
  pub all : (x : ℕ) → x < i → get_or marks x false ≡ true → IsTracked tracks x

module _ (marks : List Bool) (i : ℕ) (tracks : List (Option ℕ)) (count : ℕ) (are : AreNumbered marks i tracks count) where
  yes_cases : (x n : ℕ) → track_of (tracks ++ Some count ∷ []) x ≡ Some n → ((track_of tracks x ≡ Some n) × (n < count)) ⊎ ((x ≡ length tracks) × (n ≡ count))
  yes_cases x n is =
      elim (track-push tracks (Some count) x n is) [
        | inl old ↦ let below = are.numbers.within x n old in let all = are.counted in inl (old, omega arith)
        | inr new ↦ let said : Some count ≡ Some n = new.1 in inr (new.0, cc)
      ]

  pub numbered_yes : AreNumbered marks (i + 1) (tracks ++ Some count ∷ []) (count + 1)
  numbered_yes =
      let more = count-push tracks (Some count) in
      let size = are.size in
      let all = are.counted in
      record {
        size = omega (arith, length-append tracks (Some count ∷ []));
        counted = omega arith;
        numbers = record {
          within = λ x n is. elim (yes_cases x n is) [ inl old ↦ omega arith | inr new ↦ omega arith ];
          apart = λ x y n is also.
              elim (yes_cases x n is) [
                | inl old ↦ elim (yes_cases y n also) [ inl old' ↦ are.numbers.apart x y n old.0 old'.0 | inr new' ↦ absurd (omega arith) ]
                | inr new ↦ elim (yes_cases y n also) [ inl old' ↦ absurd (omega arith) | inr new' ↦ omega arith ]
              ];
        };
        all = λ x below marked.
            elim (cases_lt x i) [
              | inl before ↦ still_tracked tracks (Some count) x (are.all x before marked)
              | inr last ↦ record {
                track = count;
                is = get_or_push tracks (Some count) None x (omega arith);
                within = omega (arith, length-append tracks (Some count ∷ []));
              }
            ];
      }

  pub numbered_no : get_or marks i false ≡ false → AreNumbered marks (i + 1) (tracks ++ None ∷ []) count
  numbered_no none =
      let more = count-push tracks None in
      let size = are.size in
      let all = are.counted in
      record {
        size = omega (arith, length-append tracks (None ∷ []));
        counted = omega arith;
        numbers = record {
          within = λ x n is. let below = are.numbers.within x n (no_case x n is) in omega arith;
          apart = λ x y n is also. are.numbers.apart x y n (no_case x n is) (no_case y n also);
        };
        all = λ x below marked.
            elim (cases_lt x i) [
              | inl before ↦ still_tracked tracks None x (are.all x before marked)
              | inr last ↦
                  let here : x ≡ i = omega arith in
                  let both : true ≡ false = sym marked ∙ ap (λ y. get_or marks y false) here ∙ none in
                  absurd (cc)
            ];
      }
    where
      no_case : (x n : ℕ) → track_of (tracks ++ None ∷ []) x ≡ Some n → track_of tracks x ≡ Some n
      no_case x n is =
          elim (track-push tracks None x n is) [
            | inl old ↦ old
            | inr new ↦ let never : None ≡ Some n = new.1 in absurd (cc)
          ]

-- Marks

pub mark_kept : (marks : List Bool) (i x : ℕ) → get_or marks x false ≡ true → get_or (set marks i true) x false ≡ true
mark_kept [] i x marked = marked
mark_kept (m ∷ marks) zero zero marked = refl
mark_kept (m ∷ marks) zero (suc x) marked = marked
mark_kept (m ∷ marks) (suc i) zero marked = marked
mark_kept (m ∷ marks) (suc i) (suc x) marked = mark_kept marks i x marked

pub mark_put : (marks : List Bool) (i x : ℕ) → i < length marks → Some i ≡ Some x → get_or (set marks i true) x false ≡ true
mark_put marks i x inside is =
    let same : i ≡ x = cc in
    subst (λ y. get_or (set marks i true) y false ≡ true) same (get_or-set_same marks i true false inside)

pub result_here : (es : List Edge) (i j : ℕ) (e : Edge) → e ≡ get_or es j no_edge → i ≡ j → result_of e.action ≡ result_of (get_or es i no_edge).action
result_here es i j e is same = ap (λ (d : Edge). result_of d.action) (is ∙ ap (λ n. get_or es n no_edge) (sym same))

pub type_or : (x n : ℕ) (b : Bool) → n ≤ x → b ≡ (ltb x n || b)
type_or x n b past = grind (arith, nat_tests)

-- one more mark, as a test says
pub each_more : (f : ℕ → Bool) (marks : List Bool) (b : Bool) (n : ℕ) → length marks ≡ n → ((x : ℕ) → x < n → get_or marks x false ≡ f x) → b ≡ f n
    → (x : ℕ) → x < n + 1 → get_or (marks ++ b ∷ []) x false ≡ f x
each_more f marks b n size each is x below =
    elim (cases_lt x n) [
      | inl before ↦ get_or_append_left marks (b ∷ []) false x (omega arith) ∙ each x before
      | inr last ↦ let here : n ≡ x = omega arith in get_or_push marks b false x (size ∙ here) ∙ is ∙ ap f here
    ]

-- the slots that are marked by their types
abbrev pub by_type : FlowGraph → ℕ → ℕ → Bool
by_type g k x = ltb x (length (flow_of g k).params) || is_pointer (type_in (flow_of g k).slots x)

pub params_fit : (g : FlowGraph) (k : ℕ) → IsFlowGraph g → k < g.bodies → length (flow_of g k).params ≤ length (flow_of g k).slots
params_fit g k is body =
    let taken = ap length ((is.body k body).params) in
    omega (arith, length-take (length (flow_of g k).params) (flow_of g k).slots)

-- those are marked, and the results of calls on the edges of places below `to`
pub record AreMarkedBelow (g : FlowGraph) (k : ℕ) (marks : List Bool) (to : ℕ) : Type 0 where
  pub size : length marks ≡ length (flow_of g k).slots
  pub types : (x : ℕ) → x < length (flow_of g k).slots → by_type g k x ≡ true → get_or marks x false ≡ true
  pub results : (p i r : ℕ) → p < to → i < length (edges_from g k p) → result_of (edge_at g k p i).action ≡ Some r → get_or marks r false ≡ true

module _ (g : FlowGraph) (k : ℕ) where
  pub marked_more : (marks marks' : List Bool) (to : ℕ) (es : List Edge) → es ≡ edges_from g k to → AreMarkedBelow g k marks to → length marks' ≡ length marks
      → ((x : ℕ) → get_or marks x false ≡ true → get_or marks' x false ≡ true)
      → ((i r : ℕ) → i < length es → result_of (get_or es i no_edge).action ≡ Some r → get_or marks' r false ≡ true) → AreMarkedBelow g k marks' (to + 1)
  marked_more marks marks' to es all are size kept marked = record {
    size = size ∙ are.size;
    types = λ x small is. kept x (are.types x small is);
    results = λ p i r below edge is.
        elim (cases_lt p to) [
          | inl before ↦ kept r (are.results p i r before edge is)
          | inr last ↦
              let here : p ≡ to = omega arith in
              let es_are : edges_from g k p ≡ es = ap (edges_from g k) here ∙ sym all in
              marked i r (omega (arith, edge, ap length es_are)) (ap (λ (ds : List Edge). result_of (get_or ds i no_edge).action) (sym es_are) ∙ is)
        ];
  }

  pub all_marked : (marks : List Bool) (to : ℕ) → IsFlowGraph g → k < g.bodies → AreMarkedBelow g k marks to → length (flow_of g k).places ≤ to → AreMarks g k marks
  all_marked marks to flow body are end =
      let fit = params_fit g k flow body in
      record {
        size = are.size;
        all = record {
          params = λ x param.
              are.types x (omega arith) (or_left (ltb x (length (flow_of g k).params)) (is_pointer (type_in (flow_of g k).slots x)) (lt-ltb x (length (flow_of g k).params) param));
          pointers = λ x t is pointer.
              are.types x (slice_get_within (flow_of g k).slots x t is)
              (or_right (ltb x (length (flow_of g k).params)) (is_pointer (type_in (flow_of g k).slots x)) (ap is_pointer (type_is x t is) ∙ pointer));
          results = λ p i r edge is. let inside = place_within g k flow body p i edge in are.results p i r (omega arith) edge is;
        };
      }
    where
      type_is : (x : ℕ) (t : SlotType) → slice_get (flow_of g k).slots x ≡ Some t → type_in (flow_of g k).slots x ≡ t
      type_is x t is =
          let inside = slice_get_within (flow_of g k).slots x t is in
          let said : Some (type_in (flow_of g k).slots x) ≡ Some t = sym (slice_get-get_or (flow_of g k).slots x type.Int inside) ∙ is in
          cc

  -- few enough for numbers of 32 bits
  pub slots_small : IsFlowGraph g → k < g.bodies → length (flow_of g k).slots < 2 ^ 25
  slots_small flow body =
      let bodies = flow.bodies in
      let all = flow.slot_count in
      let part = get_or-le-sum_by (λ (f : Flow). length f.slots) g.procs k no_flow (omega arith) in
      omega arith

pub tracks_fit : (g : FlowGraph) (k : ℕ) (marks : List Bool) (tracks : List (Option ℕ)) → AreMarks g k marks → AreTracksOf marks tracks → TracksFit g k tracks
tracks_fit g k marks tracks are of = record {
  size = of.size ∙ are.size;
  numbers = of.numbers;
  all = record {
    params = λ x param. of.all x (are.all.params x param);
    pointers = λ x t is pointer. of.all x (are.all.pointers x t is pointer);
    results = λ p i r edge is. of.all r (are.all.results p i r edge is);
  };
}
