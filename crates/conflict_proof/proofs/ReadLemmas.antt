-- What reading line by line says of all the bytes.
use Rattle.std.proofs.Common.{◌≡◌, ℕ, ◌+◌, ◌<◌, ◌^◌, ◌==◌, if◌then◌else◌, Bool, true, false, ◌⊎◌, inl, inr, List, [], ◌∷◌, ◌++◌, length, map, refl, sym, ap, subst, ◌∙◌, append_assoc, codes, decimal, Bor, Option, Some, None, MatchOption, arith}
use Rattle.std.proofs.lemmas.Bool.{cases_lt, eqb-true, eq-eqb}
use Rattle.std.proofs.lemmas.List.{length-map, map_push, append-nil, append_cancel_left}
use Rattle.std.specs.List.{All}
use Rattle.line_texts.specs.Lines.{with_line_feeds, line_feeds, IsCut, IsFirstBadLineOf}
use Rattle.line_texts.specs.Texts.{bytes_of, Wrong}
use Rattle.line_texts.specs.Texts as of_kind
use Rattle.line_texts.proofs.LineFeeds.{cut, feeds_join}
use Rattle.line_texts.proofs.Reading.{Gone, gone_start, gone_more, no_line, bad_no_text, only, bad_as}
use Rattle.line_texts.proofs.Reading as general
use Rattle.conflict_proof.specs.declared.faults.TextError.{TextError}
use Rattle.conflict_proof.specs.declared.faults.TextError.TheVariants as error
use Rattle.conflict_proof.specs.declared.derivation.Line.{Line}
use Rattle.conflict_proof.specs.declared.derivation.Derivation.{Derivation}
use Rattle.conflict_proof.specs.Text.{line_text, end_text, derivation_text}
use Rattle.conflict_proof.specs.Values.{IsLine, IsDerivation}
use Rattle.conflict_proof.specs.Fault.{BeginsText, IsNoText, IsFirstBadLine, IsFormAt, Refuses}
use Rattle.conflict_proof.specs.Fronts.{BeginsNot, NoLine, IsLineFront, AreLines, NoEnd}
use Rattle.conflict_proof.proofs.FeedLemmas.{end_lone}
use Rattle.conflict_proof.proofs.DerivationTexts.{Header, Of, End, Start, At, Done, said_text, next, all_said, derivations, readable, lines_are, walk_at}

abbrev pub header : List ℕ
header = codes "clouseau derivation 1"

-- the lines of a text up to some place, with their line feeds
abbrev pub begun : List Line → List ℕ
begun ls = with_line_feeds (header ∷ map line_text ls)

abbrev pub derivation_at : List Line → Derivation
derivation_at ls = record { lines = ls }

pub whole_text : (ls : List Line) → derivation_text (derivation_at ls) ≡ begun ls ++ (end_text (length ls) ++ 10 ∷ [])
whole_text ls =
    feeds_join (header ∷ map line_text ls) (end_text (length ls) ∷ [])
    ∙ ap (λ (w : List ℕ). begun ls ++ w) (append-nil (end_text (length ls) ++ 10 ∷ []))

-- a text as far as it was read
pub record Begun (bs : List ℕ) (ls : List Line) (rest : List ℕ) : Type 0 where
  pub text : bs ≡ begun ls ++ rest
  pub each : All IsLine ls
  pub count : length ls < 2 ^ 64
  pub ends : NoLine rest

pub begun_of : (bs body rest : List ℕ) (ls : List Line) → bs ≡ codes "clouseau derivation 1\n" ++ body → AreLines body ls rest → length ls < 2 ^ 64 → Begun bs ls rest
begun_of bs body rest ls e are count = record {
  text = e ∙ ap (λ (w : List ℕ). codes "clouseau derivation 1\n" ++ w) are.text ∙ sym (append_assoc (codes "clouseau derivation 1\n") (with_line_feeds (map line_text ls)) rest);
  each = are.each;
  count = count;
  ends = are.ends;
}

abbrev pub derivation_is : (ls : List Line) → All IsLine ls → length ls < 2 ^ 64 → IsDerivation (derivation_at ls)
derivation_is ls each count = record { count = count; each = each }

-- the same in the words of texts that are read line by line

said_lines : (ls : List Line) → map said_text (map Of ls) ≡ map line_text ls
said_lines [] = refl
said_lines (l ∷ ls) = ap (λ w. line_text l ∷ w) (said_lines ls)

said_all : (ls : List Line) (n : ℕ) → map said_text (map Of ls ++ End n ∷ []) ≡ map line_text ls ++ end_text n ∷ []
said_all [] n = refl
said_all (l ∷ ls) n = ap (λ w. line_text l ∷ w) (said_all ls n)

text_is : (d : Derivation) → bytes_of derivations (all_said d.lines) ≡ derivation_text d
text_is d = ap (λ w. with_line_feeds (header ∷ w)) (said_all d.lines (length d.lines))

from_text : (d : Derivation) (bs : List ℕ) → bs ≡ derivation_text d → of_kind.IsTextOf derivations d bs
from_text d bs e = (all_said d.lines, refl, e ∙ sym (text_is d))

to_text : (d : Derivation) (bs : List ℕ) → of_kind.IsTextOf derivations d bs → bs ≡ derivation_text d
to_text d bs text = text.2 ∙ ap (bytes_of derivations) text.1 ∙ text_is d

none_of : (bs : List ℕ) → of_kind.IsNoText derivations bs → IsNoText bs
none_of bs none d is e = none d is (from_text d bs e)

bad_of : (bs : List ℕ) (n : ℕ) → IsFirstBadLineOf (of_kind.BeginsText derivations) bs n → IsFirstBadLine bs n
bad_of bs n bad =
    bad_as (of_kind.BeginsText derivations) BeginsText bs n
    (λ cs begins. (begins.0, begins.1, begins.2, sym (to_text begins.0 (cs ++ begins.2) begins.3)))
    (λ cs begins. (begins.0, begins.1, begins.2, from_text begins.0 (cs ++ begins.2) (sym begins.3))) bad

gone_of : (bs : List ℕ) (ls : List Line) (rest : List ℕ) → Begun bs ls rest → Gone derivations bs rest (At ls) (length ls + 2)
gone_of bs ls rest b = record {
  lines = Header ∷ map Of ls;
  text = b.text ∙ ap (λ w. with_line_feeds (header ∷ w) ++ rest) (sym (said_lines ls));
  each = lines_are ls b.each;
  led = walk_at ls;
  count = omega (arith, length-map ls Of);
}

-- the first line of bytes, where there is one
cases_cut : (bs : List ℕ) → ((line : List ℕ) × (rest : List ℕ) × IsCut bs line rest) ⊎ (line_feeds bs ≡ 0)
cases_cut bs =
    elim (cases_lt 0 (line_feeds bs)) [
      | inl some ↦ let c = cut bs some in inl (c.line, c.rest, record { text = c.is; lone = c.lone })
      | inr none ↦ inr (omega arith)
    ]

-- the header is missing
wrong_start : (bs w after : List ℕ) → BeginsNot (codes "clouseau derivation 1\n") bs → IsCut bs w after → Wrong derivations Start w
wrong_start bs w after none cut Header is e = absurd (none after (cut.text ∙ ap (λ (v : List ℕ). v ++ 10 ∷ after) e))
wrong_start bs w after none cut (Of l) is e = refl
wrong_start bs w after none cut (End n) is e = refl

pub no_header : (bs : List ℕ) → BeginsNot (codes "clouseau derivation 1\n") bs → IsNoText bs
no_header bs none d is e = none (with_line_feeds (map line_text d.lines ++ end_text (length d.lines) ∷ [])) e

pub bad_header : (bs : List ℕ) → BeginsNot (codes "clouseau derivation 1\n") bs → IsFirstBadLine bs 1
bad_header bs none =
    bad_of bs 1
    (elim (cases_cut bs) [
      | inl c ↦ general.bad_line derivations readable bs bs c.0 c.1 Start 1 (gone_start derivations bs) (omega arith) c.2 (wrong_start bs c.0 c.1 none c.2)
      | inr lone ↦ no_line derivations readable bs bs Start 1 (gone_start derivations bs) (omega arith) lone
    ])

-- neither a line nor the end is there
wrong_at : (ls : List Line) (rest w after : List ℕ) → NoLine rest → NoEnd (length ls) rest → IsCut rest w after → Wrong derivations (At ls) w
wrong_at ls rest w after none no_end cut Header is e = refl
wrong_at ls rest w after none no_end cut (Of l) is e = absurd (none l after is (cut.text ∙ ap (λ (v : List ℕ). v ++ 10 ∷ after) e))
wrong_at ls rest w after none no_end cut (End n) is e = by_test (n == length ls) refl
  where
    by_test : (b : Bool) → (n == length ls) ≡ b → next (At ls) (End n) ≡ None
    by_test true f =
        absurd (no_end after (cut.text ∙ ap (λ (v : List ℕ). v ++ 10 ∷ after) e ∙ ap (λ k. end_text k ++ 10 ∷ after) (eqb-true n (length ls) f)))
    by_test false f = ap (λ b. if b then Some (Done ls) else None) f

pub no_end : (bs : List ℕ) (ls : List Line) (rest : List ℕ) → Begun bs ls rest → NoEnd (length ls) rest → IsNoText bs
no_end bs ls rest b none =
    let gone = gone_of bs ls rest b in
    none_of bs
    (elim (cases_cut rest) [
      | inl c ↦ bad_no_text derivations readable bs rest c.0 c.1 (At ls) (length ls + 2) gone c.2 (wrong_at ls rest c.0 c.1 b.ends none c.2)
      | inr lone ↦ general.no_end derivations readable bs rest (At ls) (length ls + 2) gone lone (λ d same. cc)
    ])

pub bad_line : (bs : List ℕ) (ls : List Line) (rest : List ℕ) → length ls + 3 < 2 ^ 64 → Begun bs ls rest → NoEnd (length ls) rest → IsFirstBadLine bs (length ls + 2)
bad_line bs ls rest small b none =
    let gone = gone_of bs ls rest b in
    bad_of bs (length ls + 2)
    (elim (cases_cut rest) [
      | inl c ↦ general.bad_line derivations readable bs rest c.0 c.1 (At ls) (length ls + 2) gone (omega arith) c.2 (wrong_at ls rest c.0 c.1 b.ends none c.2)
      | inr lone ↦ no_line derivations readable bs rest (At ls) (length ls + 2) gone (omega arith) lone
    ])

-- the end is there
gone_done : (bs : List ℕ) (ls : List Line) (rest more : List ℕ) → Begun bs ls rest → rest ≡ end_text (length ls) ++ 10 ∷ more → Gone derivations bs more (Done ls) (length ls + 3)
gone_done bs ls rest more b ends =
    let end : next (At ls) (End (length ls)) ≡ Some (Done ls) = ap (λ b. if b then Some (Done ls) else None) (eq-eqb (length ls) (length ls) refl) in
    let next_one : length ls + 2 + 1 ≡ length ls + 3 = omega arith in
    subst (Gone derivations bs more (Done ls)) next_one
    (gone_more derivations bs rest (end_text (length ls)) more (At ls) (Done ls) (length ls + 2) (gone_of bs ls rest b)
    (record { text = ends; lone = end_lone (length ls) b.count }) (record { line = End (length ls); is = b.count; text = refl; next = end }))

-- and something follows it
wrong_done : (ls : List Line) (w : List ℕ) → Wrong derivations (Done ls) w
wrong_done ls w Header is e = refl
wrong_done ls w (Of l) is e = refl
wrong_done ls w (End n) is e = refl

pub no_more : (bs : List ℕ) (ls : List Line) (rest more : List ℕ) → Begun bs ls rest → rest ≡ end_text (length ls) ++ 10 ∷ more → 0 < length more → IsNoText bs
no_more bs ls rest more b ends some =
    let gone = gone_done bs ls rest more b ends in
    none_of bs
    (elim (cases_cut more) [
      | inl c ↦ bad_no_text derivations readable bs more c.0 c.1 (Done ls) (length ls + 3) gone c.2 (wrong_done ls c.0)
      | inr lone ↦ general.no_more derivations readable bs more (Done ls) (length ls + 3) gone lone some
    ])

pub bad_more : (bs : List ℕ) (ls : List Line) (rest more : List ℕ) → length ls + 3 < 2 ^ 64 → Begun bs ls rest → rest ≡ end_text (length ls) ++ 10 ∷ more → IsFirstBadLine bs (length ls + 3)
bad_more bs ls rest more small b ends =
    let gone = gone_done bs ls rest more b ends in
    bad_of bs (length ls + 3)
    (elim (cases_cut more) [
      | inl c ↦ general.bad_line derivations readable bs more c.0 c.1 (Done ls) (length ls + 3) gone small c.2 (wrong_done ls c.0)
      | inr lone ↦ no_line derivations readable bs more (Done ls) (length ls + 3) gone small lone
    ])

-- or nothing does
pub found_text : (bs : List ℕ) (ls : List Line) (rest more : List ℕ) → Begun bs ls rest → rest ≡ end_text (length ls) ++ 10 ∷ more → length more ≡ 0 → bs ≡ derivation_text (derivation_at ls)
found_text bs ls rest [] b ends none = b.text ∙ ap (λ (w : List ℕ). begun ls ++ w) ends ∙ sym (whole_text ls)
found_text bs ls rest (c ∷ more) b ends none = absurd (omega arith)

pub only_text : (bs : List ℕ) (ls : List Line) (rest more : List ℕ) → Begun bs ls rest → rest ≡ end_text (length ls) ++ 10 ∷ more → length more ≡ 0
    → (e : Derivation) → IsDerivation e → bs ≡ derivation_text e → e ≡ derivation_at ls
only_text bs ls rest [] b ends none e is f = only derivations readable bs (derivation_at ls) (length ls + 3) (gone_done bs ls rest [] b ends) e is (from_text e bs f)
only_text bs ls rest (c ∷ more) b ends none e is f = absurd (omega arith)

-- the end, piece by piece
pub end_of : (n : ℕ) (bs first second : List ℕ) (o : Option (Bor (List ℕ))) → bs ≡ codes "end " ++ first → first ≡ decimal n ++ second → MatchOption o (BeginsNot (10 ∷ []) second) (λ rest. second ≡ 10 ∷ rest.now)
    → MatchOption o (NoEnd n bs) (λ rest. bs ≡ end_text n ++ 10 ∷ rest.now)
end_of n bs first second None e f none = λ more g.
    none more (append_cancel_left (end_text n) second (10 ∷ more) (sym (e ∙ ap (λ (w : List ℕ). codes "end " ++ w) f) ∙ g))
end_of n bs first second (Some rest) e f h = e ∙ ap (λ (w : List ℕ). codes "end " ++ w) (f ∙ ap (λ (w : List ℕ). decimal n ++ w) h)

-- one line more
pub text_more : (bs rest after : List ℕ) (ls : List Line) (l : Line) → bs ≡ with_line_feeds (map line_text ls) ++ rest → IsLineFront rest l after → bs ≡ with_line_feeds (map line_text (ls ++ l ∷ [])) ++ after
text_more bs rest after ls l e front =
    e ∙ ap (λ (w : List ℕ). with_line_feeds (map line_text ls) ++ w) (front.text ∙ sym (append_assoc (line_text l) (10 ∷ []) after))
    ∙ sym (append_assoc (with_line_feeds (map line_text ls)) (line_text l ++ 10 ∷ []) after)
    ∙ ap (λ (w : List ℕ). w ++ after) (sym (feeds_join (map line_text ls) (line_text l ∷ []) ∙ ap (λ (w : List ℕ). with_line_feeds (map line_text ls) ++ w) (append-nil (line_text l ++ 10 ∷ []))))
    ∙ ap (λ w. with_line_feeds w ++ after) (sym (map_push line_text ls l))

-- a refusal, by its line
pub refuses_at : (bs : List ℕ) (n : ℕ) (e : TextError) → IsFormAt n e → IsNoText bs → IsFirstBadLine bs n → Refuses bs e
refuses_at bs n error.Memory at none bad = tt
refuses_at bs n (error.Invalid fault) at none bad = (at.1, none, subst (IsFirstBadLine bs) (sym at.0) bad)

-- different values have different texts
pub same_text : (d e : Derivation) → IsDerivation d → IsDerivation e → derivation_text d ≡ derivation_text e → d ≡ e
same_text d e is_d is_e same =
    general.same_text derivations readable d e (derivation_text d) is_d is_e (from_text d (derivation_text d) refl) (from_text e (derivation_text d) same)
