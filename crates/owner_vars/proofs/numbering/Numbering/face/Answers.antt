use Rattle.std.proofs.Common.{◌∙◌, sym, arith}
use Rattle.owner_vars.proofs.IndexLemmas.{from_is_in}
use Rattle.owner_vars.proofs.TableRows.{no_member_face, face_known_room, face_known}
use Rattle.owner_vars.proofs.numbering.Numbering.face.Goals as goal

pub returns-then-not-has : goal.returns-then-not-has
returns-then-not-has c =
    let r = no_member_face _ _ _ _ _ _ c.self.invariant _ c.self.view_is c.args.proc c.no_numbers.result c.no_numbers.ensures (sym c.has.ensures ∙ c.if-not-has.true) in
    record { range = r.0; together = r.1 }

pub at-requires : goal.at-requires
at-requires c = from_is_in _ _ (sym c.has.ensures ∙ c.if-not-has.false)

pub index-requires : goal.index-requires
index-requires c = omega (arith, c.at.ensures.within, c.self.invariant.faces_count, c.self.inside.faces.ok.0)

pub face_numbers-requires : goal.face_numbers-requires
face_numbers-requires c = record {
  room = face_known_room _ _ _ _ _ _ c.self.invariant _ c.self.view_is c.args.proc c.at.result (sym c.has.ensures ∙ c.if-not-has.false) c.at.ensures.place c.index.result.now c.index.ensures;
  small = c.self.invariant.small;
}

pub returns : goal.returns
returns c =
    let r = face_known _ _ _ _ _ _ c.self.invariant _ c.self.view_is c.args.proc c.at.result (sym c.has.ensures ∙ c.if-not-has.false) c.at.ensures.place c.index.result.now c.index.ensures c.face_numbers.result c.face_numbers.ensures in
    record { range = r.0; together = r.1 }
