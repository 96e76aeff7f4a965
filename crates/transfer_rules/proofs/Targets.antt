-- One field more among those that point to structs.
use Rattle.std.proofs.Common.{◌≡◌, ℕ, suc, ◌+◌, List, [], ◌∷◌, ◌++◌, Option, ap, ap₂, ◌∙◌, arith}
use Rattle.flow_graph.specs.FlowGraph.{FlowGraph}
use Rattle.owner_vars.specs.Fields.{field_target}
use Rattle.field_rules.specs.Lists.{gather, when}
use Rattle.field_rules.specs.Sight.{leads_to}

pub one_more : (F : ℕ → List ℕ) (n : ℕ) (old new more : List ℕ) → old ≡ gather n F → new ≡ old ++ more → more ≡ F n → new ≡ gather (n + 1) F
one_more F n old new more a b e =
    let next : suc n ≡ n + 1 = omega arith in
    b ∙ ap₂ (λ (x : List ℕ) (y : List ℕ). x ++ y) a e ∙ ap (λ k. gather k F) next

pub target_is : (t : Option ℕ) (g : FlowGraph) (n s : ℕ) → t ≡ field_target g (n + 1) → when (leads_to t s) ((n + 1) ∷ []) ≡ when (leads_to (field_target g (suc n)) s) (suc n ∷ [])
target_is t g n s e =
    let next : n + 1 ≡ suc n = omega arith in
    ap (λ o. when (leads_to o s) ((n + 1) ∷ [])) e ∙ ap (λ k. when (leads_to (field_target g k) s) (k ∷ [])) next
