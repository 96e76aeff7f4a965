-- What is read of an expression is spelled so, at every depth that is left.
use Rattle.std.proofs.Common.{ℕ, zero, suc, None}
use Rattle.c_grammar.specs.Exprs.{expr_line, product_line}
use Rattle.c_grammar.specs.ReadExprs.{Stage, first, next, stage, no_part, read_line, read_counted, rise}
use Rattle.c_grammar.proofs.UnitSound.{args_sound}
use Rattle.c_grammar.proofs.PrimarySound.{IsSound}
use Rattle.c_grammar.proofs.SizeSound.{size_sound, line_sound, counted_sound, rise_sound, allocation_sound}

first_sound : IsSound 0 first
first_sound = record {
  line = λ k ts p e. cc;
  args = λ ts g e. cc;
  size = λ ts r e. size_sound 0 no_part no_part (λ p. None) (λ us p f. cc) (λ us p f. cc) (λ us p q line low f. cc) ts r e;
  allocation = λ ts a e. cc;
}

next_sound : (d : ℕ) (s : Stage) → IsSound d s → IsSound (suc d) (next d s)
next_sound d s sound = record {
  line = line_sound d s sound;
  args = args_sound d (s.line expr_line) (sound.line expr_line);
  size = size_sound (suc d) (read_line s d product_line) (read_counted s d) (rise s d 5) (line_sound d s sound product_line) (counted_sound d s sound) (rise_sound d s sound 5);
  allocation = allocation_sound d s sound;
}

pub stage_sound : (d : ℕ) → IsSound d (stage d)
unfolding stage
stage_sound zero = first_sound
stage_sound (suc d) = next_sound d (stage d) (stage_sound d)
