-- A tree has at most four structs, members, procedure items, parameters and nodes together for each of its tokens.
use Rattle.std.proofs.Common.{◌≡◌, ◌≤◌, ◌<◌, ◌+◌, ◌*◌, ℕ, List, length, Option, Some, None, arith, length-append}
use Rattle.std.specs.Prelude.{sum_by}
use Rattle.std.proofs.lemmas.List.Sums.{sum_by-cons}
use Rattle.c_tree.specs.declared.tree.Unit.{Unit as Base}
use Rattle.c_tree.specs.declared.tree.Member.{Member}
use Rattle.c_tree.specs.declared.tree.StructDef.{StructDef}
use Rattle.c_tree.specs.Plain.{Procedure, Tree}
use Rattle.c_tree.specs.Nodes.{proc_size, struct_size, tree_size}
use Rattle.c_token.specs.declared.token.Token.{Token}
use Rattle.c_grammar.specs.Parts.{Part}
use Rattle.c_grammar.specs.Items.{Declarators, IsMember, Members, Structure, Param, SomeParams, Params, Proc, Spells, FromItem, with_struct, with_proc}
use Rattle.c_grammar.specs.Items as grammar
use Rattle.c_grammar.proofs.Shorter.{next_shorter, base_shorter}
use Rattle.c_grammar.proofs.LocalComplete.{declarator_shorter}
use Rattle.c_grammar.proofs.MemberComplete.{answer_shorter, type_shorter}
use Rattle.c_grammar.proofs.StmtSize.{block_size}

declarators_size : (b : Base) (ts us : List Token) (ms : List Member) → Declarators b ts ms us → length ms + length us ≤ length ts
declarators_size b ts us ms (grammar.Declarators.last vs ws m dec) = let a = declarator_shorter b vs ws m dec in omega arith
declarators_size b ts us ms (grammar.Declarators.more vs ws xs ys c m ns dec x rest) =
    let s = declarator_shorter b vs ws m dec in let s' = next_shorter _ ws xs c x in let s'' = declarators_size b xs ys ns rest in omega arith

member_size : (ts us : List Token) (ms : List Member) → IsMember ts ms us → length ms + length us ≤ length ts
member_size ts us ms (grammar.member vs ws xs b m ns base from x) =
    let a = base_shorter vs b base in let c = declarators_size b.tree b.rest ws ns from in let d = next_shorter _ ws xs m x in omega arith

members_size : (ts us : List Token) (ms : List Member) → Members ts ms us → length ms + length us ≤ length ts
members_size ts us ms (grammar.Members.last ws xs ns from) = member_size ws xs ns from
members_size ts us ms (grammar.Members.more ws xs ys ns os from rest) =
    let a = member_size ws xs ns from in let b = members_size xs ys os rest in let c = length-append ns os in omega arith

abbrev defined_size : Option StructDef → ℕ
defined_size None = 0
defined_size (Some d) = struct_size d

structure_size : (ts us : List Token) (d : Option StructDef) → Structure ts d us → defined_size d + 4 * length us ≤ 4 * length ts
structure_size ts us d (grammar.definition t n o c m vs ws xs ys zs as' s ms is name x from y z) =
    let a = next_shorter _ vs ws n name in let b = next_shorter _ ws xs o x in let e = members_size xs ys ms from in
    let f = next_shorter _ ys zs c y in let g = next_shorter _ zs as' m z in omega arith
structure_size ts us d (grammar.forward t n m vs ws xs s is name x) = let a = next_shorter _ vs ws n name in let b = next_shorter _ ws xs m x in omega arith

param_size : (ts us : List Token) (m : Member) → Param ts m us → length us < length ts
param_size ts us m (grammar.Param.unnamed vs p type) = type_shorter vs p type
param_size ts us m (grammar.Param.named vs ws p n x type next) = let a = type_shorter vs p type in let b = next_shorter _ p.rest ws n next in omega arith

some_params_size : (ts us : List Token) (ms : List Member) → SomeParams ts ms us → length ms + length us ≤ length ts
some_params_size ts us ms (grammar.SomeParams.last ws xs m from) = let a = param_size ws xs m from in omega arith
some_params_size ts us ms (grammar.SomeParams.more ws xs ys zs e m ns from x rest) =
    let a = param_size ws xs m from in let b = next_shorter _ xs ys e x in let c = some_params_size ys zs ns rest in omega arith

params_size : (ts us : List Token) (ms : List Member) → Params ts ms us → length ms + length us ≤ length ts
params_size ts us ms (grammar.Params.none ws) = omega arith
params_size ts us ms (grammar.Params.void t ws is) = omega arith
params_size ts us ms (grammar.Params.some ws xs ns from) = some_params_size ws xs ns from

proc_size_law : (ts : List Token) (p : Part Procedure) → Proc ts p → proc_size p.tree + 4 * length p.rest ≤ 4 * length ts
proc_size_law ts p (grammar.prototype vs ws xs ys zs as' r n o c m f ms answer name x params y z) =
    let a = answer_shorter vs r answer in let b = next_shorter _ r.rest ws n name in let d = next_shorter _ ws xs o x in
    let e = params_size xs ys ms params in let g = next_shorter _ ys zs c y in let h = next_shorter _ zs as' m z in omega arith
proc_size_law ts p (grammar.body vs ws xs ys zs r n o c f ms b brace answer name x params y named braced) =
    let a = answer_shorter vs r answer in let b' = next_shorter _ r.rest ws n name in let d = next_shorter _ ws xs o x in
    let e = params_size xs ys ms params in let g = next_shorter _ ys zs c y in let h = block_size zs b brace braced in omega arith

struct_more : (d : StructDef) (t : Tree) → tree_size (with_struct (Some d) t) ≡ struct_size d + sum_by struct_size t.structs + sum_by proc_size t.procs
struct_more d t = let e = sum_by-cons struct_size d t.structs in omega arith

proc_more : (p : Procedure) (t : Tree) → tree_size (with_proc p t) ≡ sum_by struct_size t.structs + (proc_size p + sum_by proc_size t.procs)
proc_more p t = let e = sum_by-cons proc_size p t.procs in omega arith

mutual
  pub spells_size : (ts : List Token) (tree : Tree) (h : ℕ) → Spells ts tree h → tree_size tree ≤ 4 * length ts
  spells_size ts tree h grammar.end = omega arith
  spells_size ts tree h (grammar.item us a b from) = item_size us a b from

  item_size : (ts : List Token) (tree : Tree) (h : ℕ) → FromItem ts tree h → tree_size tree ≤ 4 * length ts
  item_size ts tree h (grammar.static t us a b is from) = let s = item_size us a b from in omega arith
  item_size ts tree h (grammar.extern t us a b is from) = let s = item_size us a b from in omega arith
  item_size ts tree h (grammar.structure us vs None a b from rest) = let s = structure_size us vs None from in let r = spells_size vs a b rest in omega arith
  item_size ts tree h (grammar.structure us vs (Some d) a b from rest) = let s = structure_size us vs (Some d) from in let r = spells_size vs a b rest in let e = struct_more d a in omega arith
  item_size ts tree h (grammar.proc us p a b from rest) = let s = proc_size_law us p from in let r = spells_size p.rest a b rest in let e = proc_more p.tree a in omega arith
