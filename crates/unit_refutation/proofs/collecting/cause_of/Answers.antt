use Rattle.std.proofs.Common.{◌≡◌, ◌<◌, ℕ, List, [], length, Option, Some, refl, sym, ap, subst, ◌∙◌, slice_get, arith}
use Rattle.std.specs.Prelude.{MatchOption, slice_index_or}
use Rattle.std.proofs.lemmas.Option.{slice_get_read}
use Rattle.std.proofs.lemmas.List.{length-map}
use Rattle.transfer_rules.specs.Names.{NamedClause}
use Rattle.unit_answers.specs.declared.findings.Finding.{Finding}
use Rattle.unit_answers.specs.Sets.{set_at, lit_of}
use Rattle.unit_refutation.proofs.CollectLemmas.{not_given, no_table, row_there, row_ascends, cause_forced, site_there, cause_carried}
use Rattle.unit_refutation.proofs.collecting.cause_of.Goals as goal

-- what is read at a place
read_at : (fs gs : List Finding) (p : ℕ) (f : Finding) → fs ≡ gs → p < length fs → f ≡ slice_index_or fs p f → slice_get gs p ≡ Some f
read_at fs gs p f e lt is = ap (λ (xs : List Finding). slice_get xs p) (sym e) ∙ slice_get_read fs (length fs) p f refl lt is

pub unreachable-requires : goal.unreachable-requires
unreachable-requires g c =
    let size = ap length c.findings.ensures in
    let count = length-map (set_at c.args.closures.now c.args.group).findings lit_of in
    let at = read_at c.findings.result.now (set_at c.args.closures.now c.args.group).findings c.args.place c.index-findings-place.result c.findings.ensures (omega (arith, size, count)) c.index-findings-place.is in
    not_given (g.T.Tables.system c.args.tables.now) (g.T.Tables.scope c.args.tables.now) (g.T.Tables.rows c.args.tables.now) c.args.closures.now c.args.group c.args.place c.index-findings-place.result c.requires.reasoned c.requires.unknowns c.requires.group at c.in-Given.is

pub unreachable-requires-in-None : goal.unreachable-requires-in-None
unreachable-requires-in-None g c =
    let size = ap length c.findings.ensures in
    let count = length-map (set_at c.args.closures.now c.args.group).findings lit_of in
    let rows = g.T.Tables.rows c.args.tables.now in
    let at = read_at c.findings.result.now (set_at c.args.closures.now c.args.group).findings c.args.place c.index-findings-place.result c.findings.ensures (omega (arith, size, count)) c.index-findings-place.is in
    let none = subst (λ (o : Option (List NamedClause)). MatchOption o (rows c.args.group ≡ []) (λ t. t ≡ rows c.args.group)) c.in-None.is c.requires.table in
    no_table (g.T.Tables.system c.args.tables.now) (g.T.Tables.scope c.args.tables.now) rows c.args.closures.now c.args.group c.args.place c.index-findings-place.result c.requires.reasoned c.requires.unknowns c.requires.group at c.in-Clause.number c.in-Clause.is none

pub lits-requires : goal.lits-requires
lits-requires g c =
    let size = ap length c.findings.ensures in
    let count = length-map (set_at c.args.closures.now c.args.group).findings lit_of in
    let rows = g.T.Tables.rows c.args.tables.now in
    let at = read_at c.findings.result.now (set_at c.args.closures.now c.args.group).findings c.args.place c.index-findings-place.result c.findings.ensures (omega (arith, size, count)) c.index-findings-place.is in
    let table = subst (λ (o : Option (List NamedClause)). MatchOption o (rows c.args.group ≡ []) (λ t. t ≡ rows c.args.group)) c.in-Some.is c.requires.table in
    row_there (g.T.Tables.system c.args.tables.now) (g.T.Tables.scope c.args.tables.now) rows c.args.closures.now c.args.group c.args.place c.index-findings-place.result c.requires.reasoned c.requires.unknowns c.requires.group at
    c.in-Clause.number c.in-Some.rows c.in-Clause.is table

pub of-requires : goal.of-requires
of-requires g c =
    let size = ap length c.findings.ensures in
    let count = length-map (set_at c.args.closures.now c.args.group).findings lit_of in
    let rows = g.T.Tables.rows c.args.tables.now in
    let at = read_at c.findings.result.now (set_at c.args.closures.now c.args.group).findings c.args.place c.index-findings-place.result c.findings.ensures (omega (arith, size, count)) c.index-findings-place.is in
    let table = subst (λ (o : Option (List NamedClause)). MatchOption o (rows c.args.group ≡ []) (λ t. t ≡ rows c.args.group)) c.in-Some.is c.requires.table in
    row_ascends (g.T.Tables.system c.args.tables.now) (g.T.Tables.scope c.args.tables.now) rows c.args.closures.now c.args.group c.args.place c.index-findings-place.result c.requires.reasoned c.requires.unknowns c.requires.group at
    c.in-Clause.number c.in-Some.rows c.lits.result.now c.requires.clauses c.in-Clause.is table c.lits.ensures

pub name-requires : goal.name-requires
name-requires g c =
    let size = ap length c.findings.ensures in
    let count = length-map (set_at c.args.closures.now c.args.group).findings lit_of in
    let rows = g.T.Tables.rows c.args.tables.now in
    let at = read_at c.findings.result.now (set_at c.args.closures.now c.args.group).findings c.args.place c.index-findings-place.result c.findings.ensures (omega (arith, size, count)) c.index-findings-place.is in
    let table = subst (λ (o : Option (List NamedClause)). MatchOption o (rows c.args.group ≡ []) (λ t. t ≡ rows c.args.group)) c.in-Some.is c.requires.table in
    row_there (g.T.Tables.system c.args.tables.now) (g.T.Tables.scope c.args.tables.now) rows c.args.closures.now c.args.group c.args.place c.index-findings-place.result c.requires.reasoned c.requires.unknowns c.requires.group at
    c.in-Clause.number c.in-Some.rows c.in-Clause.is table

pub callee-requires-clause-site : goal.callee-requires-clause-site
callee-requires-clause-site g c =
    let size = ap length c.findings.ensures in
    let count = length-map (set_at c.args.closures.now c.args.group).findings lit_of in
    let at = read_at c.findings.result.now (set_at c.args.closures.now c.args.group).findings c.args.place c.index-findings-place.result c.findings.ensures (omega (arith, size, count)) c.index-findings-place.is in
    site_there (g.T.Tables.system c.args.tables.now) (g.T.Tables.scope c.args.tables.now) (g.T.Tables.rows c.args.tables.now) c.args.closures.now c.args.group c.args.place c.index-findings-place.result c.requires.reasoned c.requires.unknowns c.requires.group at
    c.in-Site.site c.in-Site.lit c.in-Site.is

pub returns-in_ok-clause-in-Some : goal.returns-in_ok-clause-in-Some
returns-in_ok-clause-in-Some g c =
    let size = ap length c.findings.ensures in
    let count = length-map (set_at c.args.closures.now c.args.group).findings lit_of in
    let rows = g.T.Tables.rows c.args.tables.now in
    let at = read_at c.findings.result.now (set_at c.args.closures.now c.args.group).findings c.args.place c.index-findings-place.result c.findings.ensures (omega (arith, size, count)) c.index-findings-place.is in
    let table = subst (λ (o : Option (List NamedClause)). MatchOption o (rows c.args.group ≡ []) (λ t. t ≡ rows c.args.group)) c.in-Some.is c.requires.table in
    cause_forced (g.T.Tables.system c.args.tables.now) (g.T.Tables.scope c.args.tables.now) rows c.args.closures.now c.args.group c.args.place c.index-findings-place.result c.requires.reasoned c.requires.unknowns c.requires.group at
    c.in-Clause.number c.in-Some.rows c.name.result c.in_ok-clause-in-Some.clause c.requires.clauses c.in-Clause.is table (c.in_ok-clause-in-Some.ensures ∙ c.lits.ensures) c.name.ensures

pub returns-in-Site : goal.returns-in-Site
returns-in-Site g c =
    let size = ap length c.findings.ensures in
    let count = length-map (set_at c.args.closures.now c.args.group).findings lit_of in
    let at = read_at c.findings.result.now (set_at c.args.closures.now c.args.group).findings c.args.place c.index-findings-place.result c.findings.ensures (omega (arith, size, count)) c.index-findings-place.is in
    cause_carried (g.T.Tables.system c.args.tables.now) (g.T.Tables.scope c.args.tables.now) (g.T.Tables.rows c.args.tables.now) c.args.closures.now c.args.group c.args.place c.index-findings-place.result c.requires.reasoned c.requires.unknowns c.requires.group at
    c.in-Site.site c.callee.result c.in-Site.lit c.in-Site.is c.callee.ensures
