-- Names and clauses of constraints listed in parts.
use Rattle.std.proofs.Common.{◌≡◌, ℕ, ◌+◌, ◌<◌, List, [], ◌∷◌, ◌++◌, length, get_or, take, refl, sym, ap, ◌∙◌, append_assoc, append-nil}
use Rattle.std.proofs.lemmas.List.{take_more}
use Rattle.std.specs.Prelude.{map}
use Rattle.std.specs.List.{flat_map}
use Rattle.conflict_proof.specs.declared.names.ConstraintName.{ConstraintName}
use Rattle.transfer_rules.specs.declared.constraint.Constraint.{Constraint}
use Rattle.transfer_rules.specs.declared.scope.Scope.{Scope}
use Rattle.transfer_rules.specs.Names.{NamedClause, name_of, clauses_if, clauses_in}

pub map_append : {X Y : Type 0} (f : X → Y) (xs ys : List X) → map f (xs ++ ys) ≡ map f xs ++ map f ys
map_append f [] ys = refl
map_append f (x ∷ xs) ys = ap (λ zs. f x ∷ zs) (map_append f xs ys)

pub flat_append : {X Y : Type 0} (f : X → List Y) (xs ys : List X) → flat_map f (xs ++ ys) ≡ flat_map f xs ++ flat_map f ys
flat_append f [] ys = refl
flat_append f (x ∷ xs) ys = ap (λ zs. f x ++ zs) (flat_append f xs ys) ∙ sym (append_assoc (f x) (flat_map f xs) (flat_map f ys))

-- one part more after those that are there
pub names_more : (out : List ConstraintName) (xs ys : List Constraint) → (out ++ map name_of xs) ++ map name_of ys ≡ out ++ map name_of (xs ++ ys)
names_more out xs ys = append_assoc out (map name_of xs) (map name_of ys) ∙ ap (λ zs. out ++ zs) (sym (map_append name_of xs ys))

pub clauses_more : (s : Scope) (out : List NamedClause) (xs ys : List Constraint) → (out ++ clauses_in s xs) ++ clauses_in s ys ≡ out ++ clauses_in s (xs ++ ys)
clauses_more s out xs ys = append_assoc out (clauses_in s xs) (clauses_in s ys) ∙ ap (λ zs. out ++ zs) (sym (flat_append (clauses_if s) xs ys))

-- the lists of the members so far, and of the next
pub flat_next : (f : ℕ → List Constraint) (ms : List ℕ) (i : ℕ) → i < length ms → flat_map f (take i ms) ++ f (get_or ms i 0) ≡ flat_map f (take (i + 1) ms)
flat_next f ms i lt =
    ap (λ zs. flat_map f (take i ms) ++ zs) (sym (append-nil (f (get_or ms i 0))))
    ∙ sym (flat_append f (take i ms) (get_or ms i 0 ∷ [])) ∙ ap (flat_map f) (sym (take_more ms i 0 lt))

pub names_next : (f : ℕ → List Constraint) (ms : List ℕ) (i : ℕ) → i < length ms → map name_of (flat_map f (take i ms)) ++ map name_of (f (get_or ms i 0)) ≡ map name_of (flat_map f (take (i + 1) ms))
names_next f ms i lt = sym (map_append name_of (flat_map f (take i ms)) (f (get_or ms i 0))) ∙ ap (map name_of) (flat_next f ms i lt)

pub clauses_next : (s : Scope) (f : ℕ → List Constraint) (ms : List ℕ) (i : ℕ) → i < length ms → clauses_in s (flat_map f (take i ms)) ++ clauses_in s (f (get_or ms i 0)) ≡ clauses_in s (flat_map f (take (i + 1) ms))
clauses_next s f ms i lt = sym (flat_append (clauses_if s) (flat_map f (take i ms)) (f (get_or ms i 0))) ∙ ap (clauses_in s) (flat_next f ms i lt)

pub mapped_next : {X Y : Type 0} (f : X → Y) (xs : List X) (i : ℕ) (d : X) → i < length xs → map f (take i xs) ++ f (get_or xs i d) ∷ [] ≡ map f (take (i + 1) xs)
mapped_next f xs i d lt = sym (map_append f (take i xs) (get_or xs i d ∷ [])) ∙ ap (map f) (sym (take_more xs i d lt))
