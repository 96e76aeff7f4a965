use Rattle.std.proofs.Common.{List, sym, subst}
use Rattle.zo_core.specs.Literals.{Literal}
use Rattle.zo_core.specs.Order.{Ascends}
use Rattle.zo_solver.specs.Clauses.{AreWithin}
use Rattle.group_solver.proofs.Reading.{read_at}
use Rattle.group_solver.proofs.Adding.{lemma_skip, lemma_done}
use Rattle.group_solver.proofs.lemmas.add_lemma.Goals as goal

pub returns-then-line-group : goal.returns-then-line-group
returns-then-line-group c first h =
    lemma_skip c.args.lines.now c.args.group c.args.at c.args.places.now.items first c.args.solver.now c.index-lines-at.result
    (read_at c.args.lines.now c.args.at c.index-lines-at.result c.requires.within c.index-lines-at.is) c.if-line-group.true h

pub add-requires : goal.add-requires
add-requires c =
    let same = c.lits.ensures.lits in
    let at = read_at c.args.lines.now c.args.at c.index-lines-at.result c.requires.within c.index-lines-at.is in (
      subst (λ (ls : List Literal). Ascends 0 ls) (sym same) c.lits.ensures.canonical,
      subst (λ (ls : List Literal). AreWithin c.args.solver.now.vars ls) (sym same) (c.requires.over c.args.at c.index-lines-at.result at c.if-line-group.false),
    )

pub returns : goal.returns
returns c first h =
    lemma_done c.args.lines.now c.args.group c.args.at c.args.places.now.items c.push.new.self.items first c.args.solver.now c.add.new.self c.index-lines-at.result c.lits.result.now c.add.result _
    (read_at c.args.lines.now c.args.at c.index-lines-at.result c.requires.within c.index-lines-at.is) c.if-line-group.false c.requires.once c.lits.ensures.lits c.add.ensures c.in-Some.is c.in_ok-push.ensures.items h
