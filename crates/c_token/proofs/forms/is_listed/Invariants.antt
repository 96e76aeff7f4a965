use Rattle.std.proofs.Common.{◌≡◌, drop, map}
use Rattle.std.specs.List.{list_any}
use Rattle.std.specs.Prelude.{bytes_eq}
use Rattle.c_token.proofs.forms.is_listed.Given as goal

-- whether the word is among those that are left says whether it is among all
abbrev pub invariant-loop-listed : goal.invariant-loop-listed
invariant-loop-listed l =
    list_any (bytes_eq l.word) (map (λ w. w.now) (drop l.listed-index l.table)) ≡ list_any (bytes_eq l.word) (map (λ w. w.now) l.table)
