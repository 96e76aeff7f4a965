use Rattle.std.proofs.Common.{◌≡◌, ◌∙◌, refl, true, List, String, Global, map, slice_index_or}
use Rattle.std.specs.Prelude.{string_bytes}
use Rattle.std.specs.Str.{IsUtf8}
use Rattle.std.specs.List.{All}
use Rattle.std.proofs.lemmas.List.Elements.{All-map}
use Rattle.std.proofs.lemmas.Str.{IsUtf8-string_bytes}
use Rattle.command_words.proofs.Reading.{taken_by, refused_by}
use Rattle.command_words.proofs.words.matches_of.Goals as goal

utf8 : (words : List (String Global)) → All IsUtf8 (map string_bytes words)
utf8 words = All-map IsUtf8 string_bytes words (λ k d lt. IsUtf8-string_bytes (slice_index_or words k d))

pub returns-in-Ok : goal.returns-in-Ok
returns-in-Ok c = taken_by _ _ c.in-Ok.matches c.in_ok-program.ensures (utf8 c.args.words.now) c.in-Ok.ensures.kinds c.in-Ok.ensures.matches

pub returns : goal.returns
returns c = refused_by _ _ c.in-Err.error c.in_ok-program.ensures (utf8 c.args.words.now) c.in-Err.ensures.kinds
    (λ e. let bad : c.eq.result ≡ true = c.eq.ensures ∙ rw (c.kind.ensures, e) refl in cc)
