-- Texts that grow line by line.
use Rattle.std.proofs.Common.{◌≡◌, ℕ, zero, suc, ◌+◌, ◌<◌, ◌≤◌, Bool, true, false, cond, List, [], ◌∷◌, ◌++◌, length, get_or, take, refl, sym, ap, ap₂, subst, ◌∙◌, add-one, append_assoc, append-nil, arith}
use Rattle.std.specs.List.{All, flat_map}
use Rattle.std.proofs.lemmas.List.{take_more}
use Rattle.std.proofs.lemmas.List.Concat.{flat_map-append}
use Rattle.std.proofs.lemmas.List.Elements.{All-nil, All-cons, All-append, All-weaker}
use Rattle.c_types.specs.declared.typed.Typed.{Typed}
use Rattle.flow_graph.specs.FlowGraph.{FlowGraph, flow_of}
use Rattle.own_cert.specs.declared.certificate.Instance.{Instance}
use Rattle.owner_vars.specs.Unknowns.{gather}
use Rattle.path_facts.specs.Tables.{FactTables}
use Rattle.annotate.specs.declared.locals.Local.{Local}
use Rattle.annotate.specs.declared.seats.Seat.{Seat}
use Rattle.annotate.specs.Annotation.{lines_in, proc_lines}
use Rattle.annotate.specs.Instances.{of_group, seat_of}
use Rattle.annotate.specs.Locals.{is_local, local_at, locals_of}

-- two pieces are one
pub two : (out mid new a b : List ℕ) → mid ≡ out ++ a → new ≡ mid ++ b → new ≡ out ++ (a ++ b)
two out mid new a b p q = q ∙ ap (λ xs. xs ++ b) p ∙ append_assoc out a b

-- one more of those that are numbered
pub gather_more : (n : ℕ) (f : ℕ → List ℕ) (old out new more : List ℕ) → out ≡ old ++ gather n f → new ≡ out ++ more → more ≡ f n → new ≡ old ++ gather (n + 1) f
gather_more n f old out new more a b e = b ∙ ap₂ (λ x y. x ++ y) a e ∙ append_assoc old (gather n f) (f n) ∙ ap (λ k. old ++ gather k f) (sym (add-one n))

-- one more of a list
pub list_more : {X : Type 0} (f : X → List ℕ) (xs : List X) (i : ℕ) (d : X) → i < length xs
    → (old out new more : List ℕ) → out ≡ old ++ flat_map f (take i xs) → new ≡ out ++ more → more ≡ f (get_or xs i d) → new ≡ old ++ flat_map f (take (i + 1) xs)
list_more f xs i d lt old out new more a b e =
    b ∙ ap₂ (λ x y. x ++ y) a e ∙ append_assoc old (flat_map f (take i xs)) (f (get_or xs i d))
    ∙ ap (λ y. old ++ (flat_map f (take i xs) ++ y)) (sym (append-nil (f (get_or xs i d))))
    ∙ ap (λ y. old ++ y) (sym (flat_map-append f (take i xs) (get_or xs i d ∷ [])) ∙ ap (flat_map f) (sym (take_more xs i d lt)))

-- locals are slots
pub locals_within : (t : Typed) (g : FlowGraph) (k : ℕ) → All (λ (l : Local). l.slot < length (flow_of g k).slots) (locals_of t g k)
locals_within t g k = up (length (flow_of g k).slots)
  where
    one : (n x : ℕ) → x < n → (b : Bool) → All (λ (l : Local). l.slot < n) (cond b (local_at g k x ∷ []) [])
    one n x lt true = All-cons (λ (l : Local). l.slot < n) (local_at g k x) [] lt (All-nil (λ (l : Local). l.slot < n))
    one n x lt false = All-nil (λ (l : Local). l.slot < n)

    up : (n : ℕ) → All (λ (l : Local). l.slot < n) (gather n (λ x. cond (is_local t g k x) (local_at g k x ∷ []) []))
    up zero = All-nil (λ (l : Local). l.slot < zero)
    up (suc n) =
        All-append (λ (l : Local). l.slot < suc n) (gather n (λ x. cond (is_local t g k x) (local_at g k x ∷ []) [])) (cond (is_local t g k n) (local_at g k n ∷ []) [])
        (All-weaker (λ (l : Local). l.slot < n) (λ (l : Local). l.slot < suc n) (λ l lt. omega arith) (gather n (λ x. cond (is_local t g k x) (local_at g k x ∷ []) [])) (up n))
        (one (suc n) n (omega arith) (is_local t g k n))

-- the lines of a procedure in the instances of its group
pub lines_of_group : (t : Typed) (g : FlowGraph) (facts : FactTables) (gs : List (List ℕ)) (is : List Instance) (ns ms : List ℕ) (k : ℕ) (s : Seat)
    → s ≡ seat_of g gs k → ms ≡ of_group is ns s.group → lines_in t g facts k s is ms ≡ proc_lines t g facts gs is ns k
lines_of_group t g facts gs is ns ms k s e q =
    ap (λ r. lines_in t g facts k s is r) q ∙ ap (λ r. lines_in t g facts k r is (of_group is ns r.group)) e
