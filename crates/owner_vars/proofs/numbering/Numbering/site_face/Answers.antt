use Rattle.std.proofs.Common.{◌<◌, length, arith}
use Rattle.owner_vars.proofs.TableRows.{no_site_face, site_known_room, site_known}
use Rattle.owner_vars.proofs.numbering.Numbering.site_face.Goals as goal

pub face_numbers-requires : goal.face_numbers-requires
face_numbers-requires c =
    let lt : c.args.site < length c.self.inside.sites.items = omega (arith, c.if-site-len.true, c.len.ensures, c.self.inside.sites.ok.0) in
    record {
      room = site_known_room _ _ _ _ _ _ c.self.invariant _ c.self.view_is c.args.site lt c.index.result.now c.index.ensures;
      small = c.self.invariant.small;
    }

pub returns-then-site-len : goal.returns-then-site-len
returns-then-site-len c =
    let lt : c.args.site < length c.self.inside.sites.items = omega (arith, c.if-site-len.true, c.len.ensures, c.self.inside.sites.ok.0) in
    let r = site_known _ _ _ _ _ _ c.self.invariant _ c.self.view_is c.args.site lt c.index.result.now c.index.ensures c.face_numbers.result c.face_numbers.ensures in
    record { range = r.0; together = r.1 }

pub returns-else-site-len : goal.returns-else-site-len
returns-else-site-len c =
    let r = no_site_face _ _ _ _ _ _ c.self.invariant _ c.self.view_is c.args.site c.no_numbers.result c.no_numbers.ensures (omega (arith, c.if-site-len.false, c.len.ensures, c.self.inside.sites.ok.0)) in
    record { range = r.0; together = r.1 }
