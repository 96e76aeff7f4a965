use Rattle.std.proofs.Common.{◌<◌, ℕ, Some, length, rules, arith, ap, sym, ◌∙◌, length-set}
use Rattle.std.proofs.lemmas.List.Elements.{All-pop, All-push}
use Rattle.flow_graph.specs.FlowGraph.{flow_of}
use Rattle.path_facts.specs.declared.order.Visit.{Visit}
use Rattle.path_facts.proofs.SearchLemmas.{contains_placed}
use Rattle.path_facts.proofs.RowLemmas.{edge_fits, edge_read}
use Rattle.path_facts.proofs.order.Search.advance.Goals as goal

pub returns-then-visit-edges : goal.returns-then-visit-edges
returns-then-visit-edges c =
    let n : ℕ = length (flow_of c.args.graph.now c.args.proc).places in
    let popped = All-pop (λ (v : Visit). v.place < n) _ c.pop.new.self.items (Some c.in-Some.visit) c.in-Some.ensures.items c.requires.search.opened in
    record {
      search = record {
        seen_count = search rules;
        opened = popped.0;
        placed_count = length-set c.args.self.now.placed.items c.in-Some.visit.place _ ∙ c.requires.search.placed_count;
        within = rw c.in_ok-push.ensures.items (All-push (λ (p : ℕ). p < n) c.args.self.now.order.items c.in-Some.visit.place c.requires.search.within popped.1);
        stands = rw c.in_ok-push.ensures.items (contains_placed c.args.self.now.placed.items c.args.self.now.order.items c.in-Some.visit.place c.requires.search.stands);
      };
    }

pub returns-in_ok-push-3 : goal.returns-in_ok-push-3
returns-in_ok-push-3 c =
    let n : ℕ = length (flow_of c.args.graph.now c.args.proc).places in
    let popped = All-pop (λ (v : Visit). v.place < n) _ c.pop.new.self.items (Some c.in-Some.visit) c.in-Some.ensures.items c.requires.search.opened in
    let edges = ap length c.edges_from-edges.ensures in
    let inside = c.if-visit-edges.false in
    let edge = edge_read c.args.graph.now c.args.proc c.in-Some.visit.place c.in-Some.visit.next _ c.index-edges-visit.result c.edges_from-edges.ensures c.index-edges-visit.is (omega arith) in
    let fits = (edge_fits c.args.graph.now c.args.proc c.in-Some.visit.place c.in-Some.visit.next c.requires.graph c.requires.body (omega arith)).to in
    record {
      search = record {
        seen_count = search rules;
        opened = rw c.in_ok-push-3.ensures.items (All-push (λ (v : Visit). v.place < n) c.push-2.new.self.items _ (rw c.in_ok-push-2.ensures.items (All-push (λ (v : Visit). v.place < n) c.pop.new.self.items _ popped.0 popped.1)) (rw (sym c.index-edges-visit.is, edge) fits));
        placed_count = c.requires.search.placed_count;
        within = c.requires.search.within;
        stands = c.requires.search.stands;
      };
    }

pub returns-else-not-index : goal.returns-else-not-index
returns-else-not-index c =
    let n : ℕ = length (flow_of c.args.graph.now c.args.proc).places in
    let popped = All-pop (λ (v : Visit). v.place < n) _ c.pop.new.self.items (Some c.in-Some.visit) c.in-Some.ensures.items c.requires.search.opened in
    record {
      search = record {
        seen_count = search rules;
        opened = rw c.in_ok-push-2.ensures.items (All-push (λ (v : Visit). v.place < n) c.pop.new.self.items _ popped.0 popped.1);
        placed_count = c.requires.search.placed_count;
        within = c.requires.search.within;
        stands = c.requires.search.stands;
      };
    }
