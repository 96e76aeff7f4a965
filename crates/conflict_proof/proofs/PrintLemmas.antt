-- What printing adds, piece by piece.
use Rattle.std.proofs.Common.{◌≡◌, ℕ, ◌+◌, ◌<◌, ◌^◌, List, [], ◌∷◌, ◌++◌, length, take, map, get_or, sym, ap, subst, ◌∙◌, append_assoc, codes}
use Rattle.std.proofs.lemmas.List.{append-nil, take_more, map_push}
use Rattle.std.proofs.lemmas.List.Elements.{All-more}
use Rattle.std.specs.List.{All}
use Rattle.zo_core.specs.Literals.{Literal}
use Rattle.conflict_proof.specs.declared.derivation.Line.{Line}
use Rattle.line_texts.specs.Lines.{with_line_feeds}
use Rattle.conflict_proof.specs.Text.{literal_text, clause_text, line_text}
use Rattle.conflict_proof.specs.Values.{IsLine}
use Rattle.conflict_proof.proofs.ClauseLemmas.{clause_push}
use Rattle.line_texts.proofs.LineFeeds.{feeds_join}

pub taken : {X : Type 0} (xs : List X) (i : ℕ) (x : X) → i < length xs → x ≡ get_or xs i x → take (i + 1) xs ≡ take i xs ++ x ∷ []
taken xs i x low is = take_more xs i x low ∙ ap (λ y. take i xs ++ y ∷ []) (sym is)

pub one_literal : (xs : List Literal) (i : ℕ) (x : Literal) (start how out new : List ℕ) → i < length xs → x ≡ get_or xs i x
    → out ≡ start ++ (how ++ (codes " :" ++ clause_text (take i xs))) → new ≡ out ++ clause_text (x ∷ [])
    → new ≡ start ++ (how ++ (codes " :" ++ clause_text (take (i + 1) xs)))
one_literal xs i x start how out new low is before after =
    let c = clause_text (take i xs) in
    let more = clause_text (x ∷ []) in
    let whole : clause_text (take (i + 1) xs) ≡ c ++ more = ap clause_text (taken xs i x low is) ∙ clause_push (take i xs) x ∙ ap (λ (w : List ℕ). c ++ w) (sym (append-nil (32 ∷ literal_text x))) in
    after ∙ ap (λ (w : List ℕ). w ++ more) before
    ∙ append_assoc start (how ++ (codes " :" ++ c)) more
    ∙ ap (λ (w : List ℕ). start ++ w) (append_assoc how (codes " :" ++ c) more)
    ∙ ap (λ (w : List ℕ). start ++ (how ++ (codes " :" ++ w))) (sym whole)

pub literals_small : (xs : List Literal) (i : ℕ) (x : Literal) → i < length xs → x ≡ get_or xs i x → All (λ m. m.var < 2 ^ 31) (take i xs) → x.var < 2 ^ 31 → All (λ m. m.var < 2 ^ 31) (take (i + 1) xs)
literals_small xs i x low is small one = All-more (λ m. m.var < 2 ^ 31) xs i x low small (subst (λ (m : Literal). m.var < 2 ^ 31) is one)

pub one_line : (ls : List Line) (i : ℕ) (l : Line) (header out new : List ℕ) → i < length ls → l ≡ get_or ls i l
    → out ≡ with_line_feeds (header ∷ map line_text (take i ls)) → new ≡ out ++ (line_text l ++ codes "\n") → new ≡ with_line_feeds (header ∷ map line_text (take (i + 1) ls))
one_line ls i l header out new low is before after =
    let lines : map line_text (take (i + 1) ls) ≡ map line_text (take i ls) ++ line_text l ∷ [] = ap (map line_text) (taken ls i l low is) ∙ map_push line_text (take i ls) l in
    after ∙ ap (λ (w : List ℕ). w ++ (line_text l ++ codes "\n")) before
    ∙ ap (λ (w : List ℕ). with_line_feeds (header ∷ map line_text (take i ls)) ++ w) (sym (append-nil (line_text l ++ codes "\n")))
    ∙ sym (feeds_join (header ∷ map line_text (take i ls)) (line_text l ∷ []))
    ∙ ap (λ ws. with_line_feeds (header ∷ ws)) (sym lines)

pub lines_whole : (ls : List Line) (i : ℕ) (l : Line) → i < length ls → l ≡ get_or ls i l → All IsLine (take i ls) → IsLine l → All IsLine (take (i + 1) ls)
lines_whole ls i l low is each one = All-more IsLine ls i l low each (subst IsLine is one)
