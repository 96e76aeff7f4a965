-- A line that is added to a text part by part.
use Rattle.std.proofs.Common.{◌≡◌, ℕ, List, ◌++◌}
use Rattle.std.proofs.lemmas.List.{append_assoc}

pub three_parts : (t a b c t1 t2 t3 : List ℕ) → t1 ≡ t ++ a → t2 ≡ t1 ++ b → t3 ≡ t2 ++ c → t3 ≡ t ++ (a ++ b ++ c)
three_parts t a b c t1 t2 t3 h1 h2 h3 = rw (h3, h2, h1) (simp append_assoc)

pub seven_parts : (t a b c d e f g t1 t2 t3 t4 t5 t6 t7 : List ℕ) → t1 ≡ t ++ a → t2 ≡ t1 ++ b → t3 ≡ t2 ++ c → t4 ≡ t3 ++ d → t5 ≡ t4 ++ e → t6 ≡ t5 ++ f
    → t7 ≡ t6 ++ g → t7 ≡ t ++ (a ++ b ++ c ++ d ++ e ++ f ++ g)
seven_parts t a b c d e f g t1 t2 t3 t4 t5 t6 t7 h1 h2 h3 h4 h5 h6 h7 = rw (h7, h6, h5, h4, h3, h2, h1) (simp append_assoc)
