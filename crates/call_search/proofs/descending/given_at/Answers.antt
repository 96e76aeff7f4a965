use Rattle.call_search.proofs.Descent.{face_length}
use Rattle.call_search.proofs.descending.given_at.Goals as goal

pub given_for-requires-clause-face : goal.given_for-requires-clause-face
given_for-requires-clause-face g c = face_length (g.G.Shapes.system c.args.groups.now) _ c.as_slice-bits.result.now _ c.callee-callee.result c.asked_face-face.result.now c.callee-callee.ensures c.asked_face-face.ensures
