use Rattle.std.proofs.Common.{◌≡◌, ◌++◌, ◌∷◌, [], rules}
use Rattle.std.proofs.lemmas.List.Elements.{All-push}
use Rattle.conflict_proof.specs.Values.{IsLine}
use Rattle.conflict_proof.specs.Fronts.{IsLineFront}
use Rattle.conflict_proof.proofs.Cases.{some_case}
use Rattle.conflict_proof.proofs.ReadLemmas.{text_more}
use Rattle.conflict_proof.proofs.reader.lines.Goals as goal

pub loop-items-preserved : goal.loop-items-preserved
loop-items-preserved c =
    let l = c.loop-items in
    let line = c.in-Some.line in
    let items : c.push.new.self.items ≡ l.items.items ++ line ∷ [] = search rules in
    let front : IsLineFront l.rest.now line c.in-Some.after.now = some_case _ _ c.in_ok-line.field-0 (line, c.in-Some.after) c.in_ok-line.ensures c.in-Some.is in
    record {
      text = rw items (text_more c.args.text.now l.rest.now c.in-Some.after.now l.items.items line l.invariant.text front);
      each = rw items (All-push IsLine l.items.items line l.invariant.each front.is);
    }
