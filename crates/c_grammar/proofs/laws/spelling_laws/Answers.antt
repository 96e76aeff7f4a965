use Rattle.c_grammar.proofs.Whole.{one_tree}
use Rattle.c_grammar.proofs.ItemFormed.{tree_formed}
use Rattle.c_grammar.proofs.ItemSize.{spells_size}
use Rattle.c_grammar.proofs.laws.spelling_laws.Goals as goal

pub returns : goal.returns
returns c = record {
  one = one_tree;
  formed = λ ts tree s names. tree_formed ts tree s.0 s.2 s.1 names;
  small = λ ts tree s. spells_size ts tree s.0 s.2;
}
