-- What is read of all of the tokens is what they spell, and there is only one such tree.
use Rattle.std.proofs.Common.{◌≡◌, List, ap, Some, None}
use Rattle.c_tree.specs.Plain.{Tree}
use Rattle.c_token.specs.declared.token.Token.{Token}
use Rattle.c_grammar.specs.Items.{IsSpelled}
use Rattle.c_grammar.specs.Laws.{HasOneTree}
use Rattle.c_grammar.specs.ReadItems.{File, read_file}
use Rattle.c_grammar.proofs.ItemSound.{file_sound}
use Rattle.c_grammar.proofs.ItemComplete.{file_complete}

pub found : (ts : List Token) (f : File) → read_file ts ≡ Some f → IsSpelled ts f.tree
found ts f e = let s = file_sound ts f e in (f.depth, s.1, s.0)

pub none_spelled : (ts : List Token) → read_file ts ≡ None → (tree : Tree) → IsSpelled ts tree → ⊥
none_spelled ts e tree spelled = let read = file_complete ts tree spelled.0 spelled.2 spelled.1 in cc

pub only : (ts : List Token) (f : File) → read_file ts ≡ Some f → (tree : Tree) → IsSpelled ts tree → tree ≡ f.tree
only ts f e tree spelled =
    let read = file_complete ts tree spelled.0 spelled.2 spelled.1 in
    let same : record { tree = tree; depth = spelled.0 } ≡ f = cc in
    ap (λ (g : File). g.tree) same

pub one_tree : HasOneTree
one_tree ts a b first second =
    let read = file_complete ts a first.0 first.2 first.1 in
    let read' = file_complete ts b second.0 second.2 second.1 in
    let same : record { tree = a; depth = first.0 } ≡ record { tree = b; depth = second.0 } = cc in
    ap (λ (g : File). g.tree) same
