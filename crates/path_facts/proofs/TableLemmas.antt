-- Tables of facts out of rows of bits.
use Rattle.std.proofs.Common.{Option, None, ◌≡◌, ℕ, ◌+◌, ◌<◌, true, false, List, [], ◌∷◌, ◌++◌, length, get_or, subst, ◌∙◌, sym, ap, inl, inr, arith}
use Rattle.std.proofs.lemmas.Bool.{cases_Bool, cases_lt, both_ways}
use Rattle.std.proofs.lemmas.List.{length-map, get_or-map, get_or_append_left, get_or_push}
use Rattle.std.proofs.lemmas.Option.{slice_get_within}
use Rattle.std.specs.Prelude.{◌↔◌}
use Rattle.c_tree.specs.declared.position.Place.TheVariants as place
use Rattle.flow_graph.specs.FlowGraph.{FlowGraph, flow_of, edges_from}
use Rattle.flow_graph.specs.Fits.{IsFlowGraph}
use Rattle.path_facts.specs.Columns.{empty_after, fresh_after}
use Rattle.flow_graph.specs.Paths.{edge_at}
use Rattle.path_facts.specs.Paths.{along, empty_at_start, fresh_at_start, IsEmptyAt, IsFreshAt}
use Rattle.path_facts.specs.Tables.{SlotFacts, FactTable, no_facts, facts_in, IsTableOf}
use Rattle.path_facts.specs.Tracks.{track_of, TracksFit}
use Rattle.path_facts.specs.Bits.{unreached_bit, empty_bit, fresh_bit}
use Rattle.path_facts.specs.Rows.{HasBits}
use Rattle.path_facts.specs.Progress.{row_at, AreRows, IsClosedAt}
use Rattle.path_facts.specs.Decoded.{facts_on, row_facts, rows_facts, AreWide}
use Rattle.path_facts.proofs.PathLemmas.{empty_effect, fresh_effect, empty_after_is, fresh_after_is, holds_along}
use Rattle.path_facts.proofs.RowLemmas.{edge_fits, wide_has_bits}

row_of_facts : (tracks : List (Option ℕ)) (rows : List (List ℕ)) (p : ℕ) → p < length rows → get_or (rows_facts tracks rows) p [] ≡ row_facts tracks (row_at rows p)
row_of_facts tracks rows p inside = get_or-map (row_facts tracks) rows p [] [] inside

pub length-row_of_facts : (tracks : List (Option ℕ)) (rows : List (List ℕ)) (p : ℕ) → p < length rows → length (get_or (rows_facts tracks rows) p []) ≡ length tracks
length-row_of_facts tracks rows p inside =
    ap length (row_of_facts tracks rows p inside) ∙ length-map tracks (facts_on (row_at rows p))

pub facts_in_rows : (tracks : List (Option ℕ)) (rows : List (List ℕ)) (p x : ℕ) → p < length rows → x < length tracks
    → facts_in (rows_facts tracks rows) p x ≡ facts_on (row_at rows p) (track_of tracks x)
facts_in_rows tracks rows p x inside small =
    ap (λ (fs : List SlotFacts). get_or fs x no_facts) (row_of_facts tracks rows p inside)
    ∙ get_or-map (facts_on (row_at rows p)) tracks x None no_facts small

-- what the code reads of a slot that the table has
pub record Reads (tracks : List (Option ℕ)) (rows : List (List ℕ)) (t : FactTable) (p x : ℕ) : Type 0 where
  pub place : p < length rows
  pub slot : x < length tracks
  pub bits : HasBits tracks (row_at rows p)
  pub facts : facts_in t p x ≡ facts_on (row_at rows p) (track_of tracks x)

pub reads : (tracks : List (Option ℕ)) (rows : List (List ℕ)) (t : FactTable) → rows_facts tracks rows ≡ t → AreWide tracks rows → (p x : ℕ) → p < length t
    → x < length (get_or t p []) → Reads tracks rows t p x
reads tracks rows t is wide p x inside small =
    let place : p < length rows = omega (arith, ap length is, length-map rows (row_facts tracks)) in
    let slot : x < length tracks = omega (arith, ap (λ (u : FactTable). length (get_or u p [])) is, length-row_of_facts tracks rows p place) in
    record {
      place = place;
      slot = slot;
      bits = wide p place;
      facts = ap (λ (u : FactTable). facts_in u p x) (sym is) ∙ facts_in_rows tracks rows p x place slot;
    }

-- Rows of which each edge has been followed say exactly what every path leaves

module _ (g : FlowGraph) (k : ℕ) (tracks : List (Option ℕ)) (fit : TracksFit g k tracks) (flow : IsFlowGraph g) (body : k < g.bodies) (rows : List (List ℕ))
    (are : AreRows g k tracks rows) (closed : (p : ℕ) → p < length rows → IsClosedAt g k tracks rows p) where
  to_inside : (p i : ℕ) → i < length (edges_from g k p) → (edge_at g k p i).to < length rows
  to_inside p i edge = let to = (edge_fits g k p i flow body edge).to in let count = are.count in omega arith

  has_entry : 0 < length rows
  has_entry =
      let entry = slice_get_within (flow_of g k).places 0 place.In (flow.body k body).entry in
      let count = are.count in
      omega arith

  reaches : (p : ℕ) → p < length rows → unreached_bit (row_at rows p) ≡ false → (i : ℕ) → i < length (edges_from g k p)
      → unreached_bit (row_at rows (edge_at g k p i).to) ≡ false
  reaches p inside at i edge = (closed p inside at i edge).reached

  empty_exact : (p x : ℕ) → p < length rows → x < length (flow_of g k).slots → (empty_bit tracks (row_at rows p) x ≡ true) ↔ IsEmptyAt g k p x
  empty_exact p x inside small = (
    λ holds path leads.
        holds_along g k empty_after empty_effect empty_after_is (λ q. empty_bit tracks (row_at rows q)) (λ q. unreached_bit (row_at rows q)) (length rows)
        to_inside reaches (λ q within at i edge. (closed q within at i edge).empty) 0 path p (empty_at_start g k) has_entry are.start.reached are.start.empty
        leads x holds,
    λ every.
        elim (cases_Bool (empty_bit tracks (row_at rows p) x)) [
          | inl holds ↦ holds
          | inr gone ↦
              let path = (are.paths p inside).empty x small gone in
              absurd (both_ways (along g k empty_after 0 path.0 (empty_at_start g k) x) path.2 (every path.0 path.1))
        ],
  )

  fresh_exact : (p x : ℕ) → p < length rows → x < length (flow_of g k).slots → (fresh_bit tracks (row_at rows p) x ≡ true) ↔ IsFreshAt g k p x
  fresh_exact p x inside small = (
    λ holds path leads.
        holds_along g k fresh_after fresh_effect fresh_after_is (λ q. fresh_bit tracks (row_at rows q)) (λ q. unreached_bit (row_at rows q)) (length rows)
        to_inside reaches (λ q within at i edge. (closed q within at i edge).fresh) 0 path p fresh_at_start has_entry are.start.reached are.start.fresh
        leads x holds,
    λ every.
        elim (cases_Bool (fresh_bit tracks (row_at rows p) x)) [
          | inl holds ↦ holds
          | inr gone ↦
              let path = (are.paths p inside).fresh x small gone in
              absurd (both_ways (along g k fresh_after 0 path.0 fresh_at_start x) path.2 (every path.0 path.1))
        ],
  )

  pub wide : AreWide tracks rows
  wide p inside = wide_has_bits g k tracks fit (row_at rows p) (are.widths p inside)

  pub table_exact : IsTableOf g k (rows_facts tracks rows)
  table_exact =
      let count = are.count in
      let size = fit.size in
      record {
        places = length-map rows (row_facts tracks) ∙ count;
        slots = λ p inside. length-row_of_facts tracks rows p (omega arith) ∙ size;
        empty = λ p x inside small.
            rw (facts_in_rows tracks rows p x (omega arith) (omega arith)) (empty_exact p x (omega arith) small);
        fresh = λ p x inside small.
            rw (facts_in_rows tracks rows p x (omega arith) (omega arith)) (fresh_exact p x (omega arith) small);
      }

pub tables_more : (g : FlowGraph) (ts : List FactTable) (t : FactTable) (n : ℕ) → length ts ≡ n → ((k : ℕ) → k < n → IsTableOf g k (get_or ts k [])) → IsTableOf g n t
    → (k : ℕ) → k < n + 1 → IsTableOf g k (get_or (ts ++ t ∷ []) k [])
tables_more g ts t n size each is k below =
    elim (cases_lt k n) [
      | inl before ↦ rw (get_or_append_left ts (t ∷ []) [] k (omega arith)) (each k before)
      | inr last ↦
          let here : n ≡ k = omega arith in
          rw (get_or_push ts t [] k (size ∙ here)) (subst (λ j. IsTableOf g j t) here is)
    ]
