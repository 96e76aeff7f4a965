use Rattle.std.proofs.Common.{[], rules}
use Rattle.source_program.specs.declared.refusal.Refusal.{Refusal}
use Rattle.source_program.specs.Sources.{most_bytes}
use Rattle.source_program.specs.Texts.{refusal_line}
use Rattle.source_program.specs.Loading.{too_long, refused}
use Rattle.source_program.proofs.Loads.{longer, said_failure}
use Rattle.source_program.proofs.loading.load.Goals as goal

pub returns-in-Err-TooLong-clause-cause : goal.returns-in-Err-TooLong-clause-cause
returns-in-Err-TooLong-clause-cause g c =
    let name = c.args.name.now in
    let held = g.F.Files.held c.args.files.now name in
    let over = longer held (g.F.Files.left c.read_file.new.files) most_bytes (c.read_file.ensures.too_long (search rules)) in
    said_failure held name (g.F.Files.faults c.args.files.now) (g.F.Files.faults c.read_file.new.files) Refusal.TooLong (refusal_line [] name Refusal.TooLong)
    c.refused.result c.refused.ensures (too_long over)

pub returns-in-Err-Refused-clause-cause : goal.returns-in-Err-Refused-clause-cause
returns-in-Err-Refused-clause-cause g c =
    let name = c.args.name.now in
    let held = g.F.Files.held c.args.files.now name in
    let bytes = c.as_slice.result.now in
    let refusal = c.in-Err-Refused.refusal in
    said_failure held name (g.F.Files.faults c.args.files.now) (g.F.Files.faults c.read_file.new.files) refusal (refusal_line bytes name refusal)
    c.refused-in-Err-Refused.result (search rules)
    (refused bytes refusal (search rules) (search rules) (rw c.in-Err-Refused.field-0-is at c.in-Err-Refused.ensures.cause))
