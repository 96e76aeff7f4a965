use Rattle.std.proofs.Common.{◌∙◌, sym, refl}
use Rattle.path_facts.proofs.RowLemmas.{settled_more}
use Rattle.path_facts.proofs.worklist.Worklist.visit.Goals as goal

pub returns-clause-settled : goal.returns-clause-settled
returns-clause-settled c =
    settled_more c.args.graph.now c.args.proc c.args.tracks.now c.args.self.now.rows.items c.args.self.now.pending.items c.args.place c.requires.settled
    c.follow_all.new.self.rows.items c.follow_all.new.self.pending.items _ _
    (c.follow_all.ensures.work.are_rows.count ∙ sym c.requires.work.are_rows.count) refl c.follow_all.ensures.followed
