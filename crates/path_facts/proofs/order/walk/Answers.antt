use Rattle.std.proofs.Common.{◌≡◌, ◌<◌, ℕ, [], false, length, replicate, rules}
use Rattle.std.proofs.lemmas.List.Elements.{All-push, All-nil}
use Rattle.std.proofs.lemmas.Option.{slice_get_within}
use Rattle.c_tree.specs.declared.position.Place.TheVariants as place
use Rattle.flow_graph.specs.FlowGraph.{flow_of}
use Rattle.path_facts.specs.declared.order.Visit.{Visit}
use Rattle.path_facts.proofs.SearchLemmas.{none_placed}
use Rattle.path_facts.proofs.order.walk.Goals as goal

pub steps-init : goal.steps-init
steps-init c =
    let n : ℕ = length (flow_of c.args.graph.now c.args.proc).places in
    let some : 0 < n = slice_get_within (flow_of c.args.graph.now c.args.proc).places 0 place.In (c.requires.graph.body c.args.proc c.requires.body).entry in
    let placed : c.in_ok-vec-2.field-0.items ≡ replicate (length c.places-count.result.now) false = search rules in
    let none : c.in_ok-with_capacity.field-0.items ≡ [] = search rules in
    record {
      seen_count = search rules;
      opened = rw (c.in_ok-push.ensures.items, c.new.ensures.items) (All-push (λ (v : Visit). v.place < n) [] _ (All-nil (λ (v : Visit). v.place < n)) some);
      placed_count = search rules;
      within = rw none (All-nil (λ (p : ℕ). p < n));
      stands = none_placed c.in_ok-vec-2.field-0.items _ _ placed;
    }
