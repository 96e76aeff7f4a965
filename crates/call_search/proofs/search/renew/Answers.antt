use Rattle.std.proofs.Common.{inl, refl}
use Rattle.call_search.proofs.Finding.{same_bits}
use Rattle.call_search.proofs.search.renew.Goals as goal

pub returns-then-eq : goal.returns-then-eq
returns-then-eq c = inl (same_bits c.args.before.now c.args.now.now c.eq.result c.if-eq.true c.eq.ensures, refl)
