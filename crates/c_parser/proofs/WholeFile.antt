-- What is read of all of the tokens, as the clauses of `parse` have it.
use Rattle.std.proofs.Common.{◌≡◌, ◌≤◌, ◌*◌, ℕ, List, length, subst, ◌∙◌, Option, Some, None}
use Rattle.std.specs.Prelude.{option_map, IfOk, Ok, Err}
use Rattle.std.specs.declared.result.Result.{Result}
use Rattle.c_tree.specs.declared.tree.Tree as code
use Rattle.c_tree.specs.Plain.{Tree}
use Rattle.c_tree.specs.View.{tree_view}
use Rattle.c_tree.specs.Formed.{IsFormed}
use Rattle.c_tree.specs.Nodes.{tree_size}
use Rattle.c_token.specs.declared.token.Token.{Token}
use Rattle.c_grammar.specs.Items.{IsSpelled}
use Rattle.c_grammar.specs.Named.{HoldNames}
use Rattle.c_grammar.specs.ReadItems.{File, read_file}
use Rattle.c_grammar.proofs.Whole.{found, none_spelled, only}
use Rattle.c_grammar.proofs.ItemFormed.{tree_formed}
use Rattle.c_grammar.proofs.ItemSize.{spells_size}
use Rattle.c_parser.specs.declared.error.ParseError.{ParseError}
use Rattle.c_parser.specs.declared.error.ParseError.TheVariants as error
use Rattle.c_parser.specs.Views.{Gives}
use Rattle.c_parser.specs.ItemViews.{tree_of}

read_some : (o : Option File) (t : Tree) → option_map tree_of o ≡ Some t → (f : File) × (o ≡ Some f) × (f.tree ≡ t)
read_some None t e = cc
read_some (Some f) t e = (f, refl', cc)
  where
    refl' : Some f ≡ Some f
    refl' = cc

read_none : (o : Option File) → option_map tree_of o ≡ None → o ≡ None
read_none None e = cc
read_none (Some f) e = cc

pub parsed_found : (r : Result code.Tree ParseError) (ts : List Token) → Gives tree_view r (option_map tree_of (read_file ts)) → IfOk r (λ t. IsSpelled ts (tree_view t))
parsed_found (Ok t) ts g = let s = read_some (read_file ts) (tree_view t) g in subst (IsSpelled ts) s.2 (found ts s.0 s.1)
parsed_found (Err e) ts g = tt

pub parsed_none : (r : Result code.Tree ParseError) (ts : List Token) → Gives tree_view r (option_map tree_of (read_file ts))
    → (k : ℕ) → r ≡ Err (error.Parse k) → (u : Tree) → IsSpelled ts u → ⊥
parsed_none (Ok t) ts g k is u spelled = cc
parsed_none (Err error.Memory) ts g k is u spelled = cc
parsed_none (Err (error.Parse j)) ts g k is u spelled = none_spelled ts (read_none (read_file ts) g) u spelled

pub parsed_only : (r : Result code.Tree ParseError) (ts : List Token) → Gives tree_view r (option_map tree_of (read_file ts))
    → IfOk r (λ t. (u : Tree) → IsSpelled ts u → u ≡ tree_view t)
parsed_only (Ok t) ts g = λ u spelled. let s = read_some (read_file ts) (tree_view t) g in only ts s.0 s.1 u spelled ∙ s.2
parsed_only (Err e) ts g = tt

pub parsed_formed : (r : Result code.Tree ParseError) (ts : List Token) → HoldNames ts → Gives tree_view r (option_map tree_of (read_file ts))
    → IfOk r (λ t. IsFormed (tree_view t))
parsed_formed (Ok t) ts names g = let s = parsed_found (Ok t) ts g in tree_formed ts (tree_view t) s.0 s.2 s.1 names
parsed_formed (Err e) ts names g = tt

pub parsed_small : (r : Result code.Tree ParseError) (ts : List Token) → Gives tree_view r (option_map tree_of (read_file ts))
    → IfOk r (λ t. tree_size (tree_view t) ≤ 4 * length ts)
parsed_small (Ok t) ts g = let s = parsed_found (Ok t) ts g in spells_size ts (tree_view t) s.0 s.2
parsed_small (Err e) ts g = tt
