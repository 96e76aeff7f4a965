use Rattle.std.proofs.Common.{◌≡◌, ℕ, Bool, true, false, not, List, refl, sym, ap, ◌∙◌, subst}
use Rattle.std.specs.Global.{Vec}
use Rattle.std.specs.Ordering.{nat_cmp}
use Rattle.std.specs.declared.cmp.Ordering.{Ordering}
use Rattle.std.specs.Cmp.Lexicographic.{slice_cmp}
use Rattle.std.proofs.lemmas.Map.Lookups.{exact_bytes}
use Rattle.cert_checker.proofs.KeyLemmas.{added_test, added_keys}
use Rattle.cert_checker.proofs.keys.add.Goals as goal

pub returns-clause-new : goal.returns-clause-new
returns-clause-new c = added_test c.args.keys.now.keys c.args.key c.in_ok-insert.field-0 c.in_ok-insert.ensures.added

pub returns-clause-added : goal.returns-clause-added
returns-clause-added c = added_keys c.args.keys.now.keys c.insert.new.self.keys c.args.key c.in_ok-insert.ensures.keys
