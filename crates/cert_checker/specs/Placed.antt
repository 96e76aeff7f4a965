-- The names of a group's constraints are those of its places.
use Rattle.std.proofs.Common.{◌≡◌, ℕ, zero, suc, ◌+◌, List, [], ◌∷◌, ◌++◌, map, length, refl, sym, ap, ◌∙◌, zero-add}
use Rattle.std.specs.List.{flat_map, range_with_len}
use Rattle.std.proofs.Math.Numerals.{suc-eq-add-one}
use Rattle.std.proofs.lemmas.List.{map-append, append-nil}
use Rattle.std.proofs.lemmas.List.FromFn.{map-range_with_len_more}
use Rattle.std.proofs.lemmas.Grind.{flat_map-append}
use Rattle.conflict_proof.specs.declared.names.ConstraintName.{ConstraintName}
use Rattle.flow_graph.specs.FlowGraph.{FlowGraph, flow_of}
use Rattle.path_facts.specs.Tables.{FactTables}
use Rattle.field_rules.specs.Lists.{gather}
use Rattle.transfer_rules.specs.declared.constraint.Constraint.{Constraint}
use Rattle.transfer_rules.specs.Names.{name_of}
use Rattle.transfer_rules.specs.Programs.{group_at}
use Rattle.transfer_rules.specs.Rules.{body_constraints, place_constraints}
use Rattle.verdict_meaning.specs.Systems.{System}
use Rattle.verdict_meaning.specs.Certificates.{Spot, spots, spots_of}
use Rattle.verdict_meaning.specs.Programs.{system_of}

-- the names of the constraints of a place, where these are the members of the group
abbrev pub names_at : FlowGraph → FactTables → List ℕ → Spot → List ConstraintName
names_at g facts members p = map name_of (place_constraints g facts members p.proc p.place)

-- lists for each number below n, and for what stands for each
gathered : {X B C : Type 0} (h : B → C) (f : ℕ → List B) (v : ℕ → X) (N : X → List C) → ((q : ℕ) → N (v q) ≡ map h (f q)) → (n : ℕ) → map h (gather n f) ≡ flat_map N (map v (range_with_len 0 n))
gathered h f v N e zero = refl
gathered h f v N e (suc n) =
    map-append h (gather n f) (f n)
    ∙ ap (λ ys. ys ++ map h (f n)) (gathered h f v N e n)
    ∙ ap (λ ys. flat_map N (map v (range_with_len 0 n)) ++ ys) (sym (e n) ∙ sym (append-nil (N (v n))))
    ∙ sym (flat_map-append N (map v (range_with_len 0 n)) (v n ∷ []))
    ∙ ap (flat_map N) (sym (map-range_with_len_more v 0 n n (zero-add n)))
    ∙ ap (λ (k : ℕ). flat_map N (map v (range_with_len 0 k))) (sym (suc-eq-add-one n))

module _ (g : FlowGraph) (facts : FactTables) (groups : List (List ℕ)) (ms : List ℕ) where
  of_members : (ks : List ℕ) → map name_of (flat_map (body_constraints g facts ms) ks) ≡ flat_map (names_at g facts ms) (flat_map (spots_of (system_of g facts groups)) ks)
  of_members [] = refl
  of_members (k ∷ ks) =
      map-append name_of (body_constraints g facts ms k) (flat_map (body_constraints g facts ms) ks)
      ∙ ap (λ (ys : List ConstraintName). ys ++ map name_of (flat_map (body_constraints g facts ms) ks))
      (gathered name_of (place_constraints g facts ms k) (λ (q : ℕ). let p : Spot = record { proc = k; place = q } in p) (names_at g facts ms) (λ q. refl) (length (flow_of g k).places))
      ∙ ap (λ (ys : List ConstraintName). flat_map (names_at g facts ms) (spots_of (system_of g facts groups) k) ++ ys) (of_members ks)
      ∙ sym (flat_map-append (names_at g facts ms) (spots_of (system_of g facts groups) k) (flat_map (spots_of (system_of g facts groups)) ks))

pub names_placed : (g : FlowGraph) (facts : FactTables) (groups : List (List ℕ)) (e : ℕ)
    → (system_of g facts groups).names e ≡ flat_map (names_at g facts (group_at groups e)) (spots (system_of g facts groups) e)
names_placed g facts groups e = of_members g facts groups (group_at groups e) (group_at groups e)
