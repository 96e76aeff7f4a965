-- Whom a site calls.
use Rattle.std.specs.Prelude.{ℕ, List, slice_index}
use Rattle.owner_vars.specs.declared.site.Site.{Site}
use Rattle.verdict_meaning.specs.declared.callee.Callee.{Callee}

-- whom it calls, where groups have these numbers
abbrev pub called_at : List ℕ → Site → Callee
called_at numbers s = record { proc = s.callee; group = slice_index numbers s.callee }
