-- No line of a text has a line feed in it.
use Rattle.std.proofs.Common.{◌≡◌, ℕ, suc, ◌<◌, ◌^◌, ◌==◌, Bool, true, false, if◌then◌else◌, List, [], ◌∷◌, ◌++◌, refl, subst, ◌∙◌, decimal, codes, arith}
use Rattle.std.specs.List.{All}
use Rattle.std.specs.Char.{is_ascii_digit}
use Rattle.std.specs.Str.{all_ascii_digits}
use Rattle.zo_core.specs.Literals.{Literal}
use Rattle.conflict_proof.specs.declared.derivation.How.{How}
use Rattle.conflict_proof.specs.declared.derivation.How.TheVariants.{Axiom, Resolve, Inst}
use Rattle.conflict_proof.specs.declared.derivation.Line.{Line}
use Rattle.conflict_proof.specs.Text.{literal_text, clause_text, numbers_text, axiom_numbers, how_text, line_text, end_text}
use Rattle.conflict_proof.specs.Values.{IsHow, IsLine}
use Rattle.line_texts.specs.Lines.{line_feeds}
use Rattle.conflict_proof.proofs.Digits.{both, decimal_digits}
use Rattle.conflict_proof.proofs.LineLemmas.{three, small_three, small_axiom}
use Rattle.line_texts.proofs.LineFeeds.{feeds-append}

digit_no_feed : (c : ℕ) (t : Bool) → (c == 10) ≡ t → is_ascii_digit c ≡ true → (c == 10) ≡ false
digit_no_feed c true e digit =
    let same : c ≡ 10 = grind arith in
    let feed : is_ascii_digit 10 ≡ true = subst (λ n. is_ascii_digit n ≡ true) same digit in
    cc
digit_no_feed c false e digit = e

digits_lone : (ds : List ℕ) → all_ascii_digits ds ≡ true → line_feeds ds ≡ 0
digits_lone [] all = refl
digits_lone (c ∷ ds) all =
    let h = both (is_ascii_digit c) (all_ascii_digits ds) all in
    rw (digit_no_feed c (c == 10) refl h.0) (digits_lone ds h.1)

pub decimal_lone : (n : ℕ) → n < 2 ^ 64 → line_feeds (decimal n) ≡ 0
decimal_lone n small = digits_lone (decimal n) (decimal_digits n small)

-- a piece of text after a space
spaced_lone : (b : ℕ) (w more : List ℕ) → (b == 10) ≡ false → line_feeds w ≡ 0 → line_feeds more ≡ 0 → line_feeds ((b ∷ w) ++ more) ≡ 0
spaced_lone b w more other lone rest = feeds-append (b ∷ w) more ∙ rw other (omega (arith, lone, rest))

pub numbers_lone : (ns : List ℕ) → All (λ n. n < 2 ^ 32) ns → line_feeds (numbers_text ns) ≡ 0
numbers_lone [] small = refl
numbers_lone (n ∷ ns) small =
    let s : n < 2 ^ 32 = small 0 n (omega arith) in
    spaced_lone 32 (decimal n) (numbers_text ns) refl (decimal_lone n (omega arith)) (numbers_lone ns (λ j d h. small (suc j) d (omega arith)))

signed_lone : (s : Bool) (n : ℕ) → n < 2 ^ 64 → line_feeds (if s then decimal n else 45 ∷ decimal n) ≡ 0
signed_lone true n small = decimal_lone n small
signed_lone false n small = decimal_lone n small

clause_lone : (c : List Literal) → All (λ l. l.var < 2 ^ 31) c → line_feeds (clause_text c) ≡ 0
clause_lone [] small = refl
clause_lone (l ∷ c) small =
    let s : l.var < 2 ^ 31 = small 0 l (omega arith) in
    spaced_lone 32 (literal_text l) (clause_text c) refl (signed_lone l.sign l.var (omega arith)) (clause_lone c (λ j d h. small (suc j) d (omega arith)))

how_lone : (g : ℕ) (h : How) → g < 2 ^ 32 → IsHow h → line_feeds (how_text g h) ≡ 0
how_lone g (Axiom n) low is = numbers_lone (axiom_numbers g n) (small_axiom g n low is)
how_lone g (Resolve a b) low is = numbers_lone (three g a b) (small_three g a b low is.0 is.1)
how_lone g (Inst a b) low is = numbers_lone (three g a b) (small_three g a b low is.0 is.1)

pub line_lone : (l : Line) → IsLine l → line_feeds (line_text l) ≡ 0
line_lone l is =
    feeds-append (how_text l.group l.how ++ codes " :") (clause_text l.lits)
    ∙ omega (arith, feeds-append (how_text l.group l.how) (codes " :"), how_lone l.group l.how is.group is.how, clause_lone l.lits is.lits.1)

pub end_lone : (n : ℕ) → n < 2 ^ 64 → line_feeds (end_text n) ≡ 0
end_lone n small = decimal_lone n small
