-- What is asked of groups.
use Rattle.std.specs.Prelude.{◌≡◌, ◌≢◌, ℕ, ◌<◌, ◌⊎◌, Bool, List, [], ◌∷◌, ◌++◌, length, slice_index_or}
use Rattle.std.specs.List.{Contains}
use Rattle.verdict_meaning.specs.Systems.{System, callee}
use Rattle.verdict_meaning.specs.Solutions.{sigma_by}
use Rattle.verdict_meaning.specs.Certificates.{bit_at}
use Rattle.plain_answers.specs.declared.wants.Want.{Want}

-- what is asked of a group
abbrev pub wants_in : List (List Want) → ℕ → List Want
wants_in w h = slice_index_or w h []

-- what a site of a group asks for by the group's bits
abbrev pub asked : System → ℕ → List Bool → ℕ → Want
asked s g bits site = record { proc = (callee s g site).proc; face = sigma_by s g (bit_at bits) site }

-- one of the first n sites of a group with these bits asks for it, of this group
pub record Asks (s : System) (g : ℕ) (bits : List Bool) (n h : ℕ) (q : Want) : Type 0 where
  pub site : ℕ
  pub within : site < n
  pub group : (callee s g site).group ≡ h
  pub is : asked s g bits site ≡ q

-- it was added to what is asked of a group
pub record IsAdded (g : ℕ) (q : Want) (old new : List (List Want)) : Type 0 where
  pub size : length new ≡ length old
  pub here : wants_in new g ≡ wants_in old g ++ q ∷ []
  pub others : (h : ℕ) → h ≢ g → wants_in new h ≡ wants_in old h

-- what the first n sites of a group ask for by its bits was added, and nothing else
pub record AreAsked (s : System) (g : ℕ) (bits : List Bool) (old new : List (List Want)) (n : ℕ) : Type 0 where
  pub size : length new ≡ length old
  pub kept : (h : ℕ) (q : Want) → Contains (wants_in old h) q → Contains (wants_in new h) q
  pub there : (site : ℕ) → site < n → Contains (wants_in new (callee s g site).group) (asked s g bits site)
  pub from : (h : ℕ) (q : Want) → Contains (wants_in new h) q → Contains (wants_in old h) q ⊎ Asks s g bits n h q
