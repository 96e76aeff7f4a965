-- The first of the rules that are broken.
use Rattle.std.proofs.Common.{◌≡◌, List, [], ◌∷◌, ◌++◌, Option, Some, None, refl, sym, ap, ◌∙◌, arith}
use Rattle.c_types.specs.declared.rules.Breach.{Breach}
use Rattle.c_types.specs.Breaches.{first, sooner}

pub sooner_assoc : (a b c : Option Breach) → sooner (sooner a b) c ≡ sooner a (sooner b c)
unfolding sooner
sooner_assoc None b c = refl
sooner_assoc (Some a) None c = refl
sooner_assoc (Some a) (Some b) None = grind (arith)
sooner_assoc (Some a) (Some b) (Some c) = grind (arith)

pub first_append : (xs ys : List Breach) → first (xs ++ ys) ≡ sooner (first xs) (first ys)
unfolding sooner
first_append [] ys = refl
first_append (x ∷ xs) ys = ap (sooner (Some x)) (first_append xs ys) ∙ sym (sooner_assoc (Some x) (first xs) (first ys))

pub sooner_left : (o : Option Breach) → sooner None o ≡ o
unfolding sooner
sooner_left o = refl

pub sooner_right : (o : Option Breach) → sooner o None ≡ o
unfolding sooner
sooner_right None = refl
sooner_right (Some a) = refl
