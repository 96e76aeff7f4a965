-- What is given to a group: which fields own, and an interface.
use Rattle.std.proofs.Common.{◌≡◌, ℕ, suc, ◌+◌, Bool, List, [], ◌∷◌, ◌++◌, refl, sym, ap, ◌∙◌, arith, length}
use Rattle.std.specs.List.{range_with_len}
use Rattle.zo_core.specs.Literals.{Literal}
use Rattle.verdict_meaning.specs.declared.callee.Callee.{Callee}
use Rattle.verdict_meaning.specs.Systems.{System, phi_numbers, pi_numbers}
use Rattle.verdict_meaning.specs.Plain.{said}
use Rattle.call_search.specs.Shapes.{before_own, stated}
use Rattle.call_search.specs.Answers.{given_for}

next : (n : ℕ) → n + 1 ≡ suc n
next n = omega arith

said_stated : (n : ℕ) (bs : List Bool) → said (range_with_len n (length bs)) bs ≡ stated n bs
said_stated n [] = refl
said_stated n (b ∷ bs) =
    let first : Literal = record { var = n; sign = b } in
    ap (λ ls. first ∷ ls) (ap (λ k. said (range_with_len k (length bs)) bs) (next n) ∙ said_stated (suc n) bs)

pub said_given : (s : System) (phi : List Bool) (c : Callee) (face : List Bool) → length phi ≡ s.fields → length face ≡ s.parts c.proc → said (phi_numbers s) phi ++ said (pi_numbers s c.group c.proc) face ≡ given_for s phi c face
said_given s phi c face pe fe =
    ap (λ k. said (range_with_len 1 k) phi ++ said (pi_numbers s c.group c.proc) face) (sym pe)
    ∙ ap (λ ls. ls ++ said (pi_numbers s c.group c.proc) face) (said_stated 1 phi)
    ∙ ap (λ k. stated 1 phi ++ said (range_with_len (suc (before_own s c)) k) face) (sym fe)
    ∙ ap (λ ls. stated 1 phi ++ ls) (said_stated (suc (before_own s c)) face)
