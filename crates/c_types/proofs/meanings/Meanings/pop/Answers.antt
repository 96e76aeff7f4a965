use Rattle.std.proofs.Common.{List, [], ◌∷◌, ◌++◌, subst, arith}
use Rattle.c_types.specs.declared.meanings.Meaning.{Meaning}
use Rattle.c_types.proofs.Latest.{Tells, known_name, tells_popped}
use Rattle.c_types.proofs.meanings.Meanings.pop.Goals as goal

pub index_mut-requires : goal.index_mut-requires
index_mut-requires c =
    let t : Tells c.self.inside.latest.items (c.pop.new.self.items ++ c.in-Some.last ∷ []) =
    subst (λ (gs : List Meaning). Tells c.self.inside.latest.items gs) c.in-Some.ensures.items c.self.invariant in
    omega (arith, known_name c.self.inside.latest.items c.pop.new.self.items c.in-Some.last t)

pub invariant_of-self : goal.invariant_of-self
invariant_of-self c =
    tells_popped c.self.inside.latest.items c.pop.new.self.items c.in-Some.last
    (subst (λ (gs : List Meaning). Tells c.self.inside.latest.items gs) c.in-Some.ensures.items c.self.invariant)
