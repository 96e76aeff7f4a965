-- Laws of the grammar.
use Rattle.std.specs.Prelude.{◌≡◌, ◌≤◌, ◌*◌, List, length}
use Rattle.c_tree.specs.Plain.{Tree}
use Rattle.c_token.specs.declared.token.Token.{Token}
use Rattle.c_tree.specs.Nodes.{tree_size}
use Rattle.c_tree.specs.Formed.{IsFormed}
use Rattle.c_grammar.specs.Items.{IsSpelled}
use Rattle.c_grammar.specs.Named.{HoldNames}

-- tokens spell at most one tree
abbrev pub HasOneTree : Type 0
HasOneTree = (ts : List Token) (a b : Tree) → IsSpelled ts a → IsSpelled ts b → a ≡ b

-- a spelled tree is formed, where each name token holds a name
abbrev pub HasFormedTree : Type 0
HasFormedTree = (ts : List Token) (tree : Tree) → IsSpelled ts tree → HoldNames ts → IsFormed tree

-- its structs, members, procedure items, parameters and nodes are together at most four times the tokens
abbrev pub HasSmallTree : Type 0
HasSmallTree = (ts : List Token) (tree : Tree) → IsSpelled ts tree → tree_size tree ≤ 4 * length ts
