use Rattle.std.proofs.Common.{◌<◌, ◌^◌, ◌∷◌, [], OnOk, rules}
use Rattle.std.specs.List.{All}
use Rattle.own_cert.specs.Values.{IsRow}
use Rattle.own_cert.proofs.PrintLemmas.{instance_is}
use Rattle.own_cert.proofs.printer.put_instance.Goals as goal

pub returns-in-First-clause-is : goal.returns-in-First-clause-is
returns-in-First-clause-is c =
    let i = c.args.i.now in
    let head : All (λ n. n < 2 ^ 32) (i.group ∷ i.entry ∷ []) = search rules in
    let sites : All (λ n. n < 2 ^ 32) i.sites = search rules in
    let rows : OnOk c.put_places.result (All IsRow i.places) = search rules in
    instance_is c.put_places.result i head sites rows

pub returns-in-Second-clause-is : goal.returns-in-Second-clause-is
returns-in-Second-clause-is c =
    let i = c.args.i.now in
    let head : All (λ n. n < 2 ^ 32) (i.group ∷ i.entry ∷ []) = search rules in
    let sites : All (λ n. n < 2 ^ 32) i.sites = search rules in
    let rows : OnOk c.put_runs.result (All IsRow i.places) = search rules in
    instance_is c.put_runs.result i head sites rows
