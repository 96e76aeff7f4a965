-- An answer whose texts are given, whole or in part, is a report.
use Rattle.std.proofs.Common.{ℕ, List}
use Rattle.io_edge.specs.Held.{Held}
use Rattle.clouseau_core.specs.declared.report.Verdict.{Verdict}
use Rattle.clouseau_core.specs.Answers.{IsAnswer}
use Rattle.clouseau_core.specs.Report.{Output, IsGiven, whole, out_part, err_part, IsReported, given, out_broke, err_broke}

pub report_of : {words : List (List ℕ)} {held : List ℕ → Held} {before after : ℕ} {out err : Output} (v : Verdict) (o e : List ℕ) {w : Verdict}
    → IsAnswer words held before after v o e → IsGiven out err v o e w → IsReported words held before after out err w
report_of v o e a (whole t u) = given v o e a t u
report_of v o e a (out_part b t) = out_broke v o e a b t
report_of v o e a (err_part t b) = err_broke v o e a t b
