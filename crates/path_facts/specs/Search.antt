-- What a walk in depth over the places of a procedure keeps.
use Rattle.std.specs.Prelude.{◌≡◌, ℕ, ◌<◌, Bool, true, false, List, length, slice_index_or}
use Rattle.std.specs.List.{All, Contains}
use Rattle.path_facts.specs.declared.order.Visit.{Visit}

-- over n places: every place that is placed stands in the order
pub record IsSearch (n : ℕ) (seen : List Bool) (entered : List Visit) (placed : List Bool) (order : List ℕ) : Type 0 where
  pub seen_count : length seen ≡ n
  pub opened : All (λ v. v.place < n) entered
  pub placed_count : length placed ≡ n
  pub within : All (λ p. p < n) order
  pub stands : (p : ℕ) → slice_index_or placed p false ≡ true → Contains order p
