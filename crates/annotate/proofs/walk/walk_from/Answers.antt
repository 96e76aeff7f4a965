use Rattle.annotate.proofs.WalkRows.{starts}
use Rattle.annotate.proofs.walk.walk_from.Goals as goal

pub finish-requires-clause-walk : goal.finish-requires-clause-walk
finish-requires-clause-walk c = (starts c.args.lists.now c.args.walk.now c.enter_new.new.walk c.args.start c.requires.walk c.requires.path c.requires.start c.in_ok-enter_new.ensures).0.walk
