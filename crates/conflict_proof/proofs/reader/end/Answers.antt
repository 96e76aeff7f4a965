use Rattle.std.proofs.Common.{◌≡◌, List, ℕ, ◌++◌, ◌∙◌, ap, decimal}
use Rattle.conflict_proof.proofs.ReadLemmas.{end_of}
use Rattle.conflict_proof.proofs.reader.end.Goals as goal

pub returns : goal.returns
returns c =
    let number : c.as_bytes.result.now ≡ decimal c.args.count = c.as_bytes.ensures.value ∙ c.format.ensures.text in
    end_of c.args.count c.args.text.now c.in_ok-rest.rest.now c.in_ok-rest-2.rest.now c.after_word-3.result c.in_ok-rest.ensures
    (c.in_ok-rest-2.ensures ∙ ap (λ (w : List ℕ). w ++ c.in_ok-rest-2.rest.now) number) c.after_word-3.ensures
