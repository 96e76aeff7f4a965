use Rattle.line_texts.proofs.LineFeeds.{lone_more}
use Rattle.line_texts.proofs.lines.next_line.Goals as goal

pub loop-end-preserved : goal.loop-end-preserved
loop-end-preserved c = lone_more c.args.text.now c.loop-end.end c.loop-end-test.true c.loop-end.invariant c.if-byte-eq10.false
