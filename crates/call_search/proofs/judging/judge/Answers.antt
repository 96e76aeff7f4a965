use Rattle.std.proofs.Common.{◌∙◌, refl}
use Rattle.call_search.specs.Answers.{HasSolution}
use Rattle.call_search.proofs.Certifying.{solution_complete}
use Rattle.call_search.proofs.Verdicts.{begun, judged_accepted, judged_refuted, judged_undecided, found_has, made_good, made_needed}
use Rattle.call_search.proofs.Indexing.{few_known}
use Rattle.call_search.proofs.judging.judge.Goals as goal

pub new-requires : goal.new-requires
new-requires g c = few_known c.args.known c.args.budget c.requires.small

pub search-requires : goal.search-requires
search-requires g c =
    begun (g.G.Shapes.system c.args.groups.now) (g.G.Groups.counting c.args.groups.now) c.args.known c.args.budget c.in_ok-ledger.ledger c.requires.known c.requires.small c.in_ok-ledger.ensures.lines c.in_ok-ledger.ensures.words

pub certificate-requires : goal.certificate-requires
certificate-requires g c =
    let has : HasSolution (g.G.Shapes.system c.args.groups.now) (g.G.Groups.counting c.args.groups.now) c.search.new.ledger.lines c.as_slice.result.now c.search.new.table.items = found_has (g.G.Shapes.system c.args.groups.now) (g.G.Groups.counting c.args.groups.now) _ c.search.new.ledger c.search.new.table.items c.in_ok-top.field-0 c.in-Solution.top c.as_slice.result.now c.in-Solution.is c.in_ok-top.ensures (c.as_slice.ensures.value ∙ c.top.view_is) in
    record {
      top = has.asker.size;
      table = has.table.size;
      complete = solution_complete (g.G.Shapes.system c.args.groups.now) (g.G.Groups.counting c.args.groups.now) c.search.new.ledger.lines c.as_slice.result.now c.search.new.table.items has;
    }

pub returns-in-Solution : goal.returns-in-Solution
returns-in-Solution g c =
    let good = made_good (g.G.Shapes.system c.args.groups.now) (g.G.Groups.counting c.args.groups.now) _ c.search.new.ledger c.search.new.table.items c.in_ok-top.field-0 c.in-Solution.top c.as_slice.result.now c.in_ok-c-in-Solution.c (g.met.G.Shapes.shaped c.args.groups.now) c.in-Solution.is c.in_ok-top.ensures (c.as_slice.ensures.value ∙ c.top.view_is) c.in_ok-c-in-Solution.ensures in
    let needed = made_needed (g.G.Shapes.system c.args.groups.now) (g.G.Groups.counting c.args.groups.now) _ c.search.new.ledger c.search.new.table.items c.in_ok-top.field-0 c.in-Solution.top c.as_slice.result.now c.in_ok-c-in-Solution.c (g.met.G.Shapes.shaped c.args.groups.now) c.in-Solution.is c.in_ok-top.ensures (c.as_slice.ensures.value ∙ c.top.view_is) c.in_ok-c-in-Solution.ensures in
    judged_accepted (g.G.Shapes.system c.args.groups.now) (g.G.Groups.counting c.args.groups.now) c.args.known _ c.search.new.ledger c.search.new.table.items c.in_ok-top.field-0 c.in-Solution.top c.in_ok-c-in-Solution.c _ c.requires.known c.in_ok-ledger.ensures.lines c.in-Solution.is c.in_ok-top.ensures c.into_lines.ensures good needed

pub returns-in-Refuted : goal.returns-in-Refuted
returns-in-Refuted g c =
    judged_refuted (g.G.Shapes.system c.args.groups.now) (g.G.Groups.counting c.args.groups.now) c.args.known c.args.budget _ c.search.new.ledger c.search.new.table.items c.in_ok-top.field-0 c.in-Refuted.n c.first_lines.result.lines _ c.requires.known c.in_ok-ledger.ensures.lines c.in_ok-ledger.ensures.words c.in-Refuted.is c.in_ok-top.ensures c.into_lines-in-Refuted.ensures c.first_lines.ensures

pub returns : goal.returns
returns g c =
    judged_undecided (g.G.Shapes.system c.args.groups.now) (g.G.Groups.counting c.args.groups.now) c.args.known c.args.budget _ c.search.new.ledger c.search.new.table.items c.in_ok-top.field-0 c.in-Spent.line c.in_ok-with_line-in-Spent.field-0.lines _ c.requires.known c.in_ok-ledger.ensures.lines c.in_ok-ledger.ensures.words c.in-Spent.is c.in_ok-top.ensures c.into_lines-in-Spent.ensures c.in_ok-with_line-in-Spent.ensures
