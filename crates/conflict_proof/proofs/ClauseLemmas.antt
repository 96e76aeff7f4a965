-- Literals and clauses as text.
use Rattle.std.proofs.Common.{◌≡◌, ℕ, suc, ◌+◌, ◌<◌, ◌≤◌, ◌^◌, Bool, true, false, if◌then◌else◌, List, [], ◌∷◌, ◌++◌, length, take, drop, refl, sym, ap, subst, ◌∙◌, decimal, append_assoc, get_or, Bor, Option, Some, None, MatchOption, ◌-◌, arith}
use Rattle.std.proofs.lemmas.List.{append-nil, take-append-drop, length-append}
use Rattle.std.proofs.lemmas.List.Prefix.{end_rest}
use Rattle.std.proofs.lemmas.List.Elements.{All-push}
use Rattle.std.specs.List.{All}
use Rattle.zo_core.specs.Literals.{Literal}
use Rattle.zo_core.specs.Order.{Ascends}
use Rattle.conflict_proof.specs.Text.{literal_text, clause_text}
use Rattle.conflict_proof.specs.Values.{IsClause}
use Rattle.conflict_proof.specs.Fronts.{NoDigit, IsLiteral, BeginsNot, NoUnknown, IsUnknown, NoSigned, IsSigned, NoLiteral, IsSpaced, NoClause, IsClauseLine, NoNumber, IsNumber}
use Rattle.conflict_proof.proofs.Digits.{same_number, first_is_digit, different}

-- a literal's text is of one literal
same_signed : (x y : Bool) (m n : ℕ) (q r : List ℕ) → m < 2 ^ 31 → n < 2 ^ 31 → NoDigit q → NoDigit r
    → (if x then decimal m else 45 ∷ decimal m) ++ q ≡ (if y then decimal n else 45 ∷ decimal n) ++ r → (x ≡ y) × (m ≡ n) × (q ≡ r)
same_signed true true m n q r lm ln nq nr e = let s = same_number m n q r (omega arith) (omega arith) nq nr e in (refl, s.0, s.1)
same_signed false false m n q r lm ln nq nr e =
    let s = same_number m n q r (omega arith) (omega arith) nq nr (ap (drop 1) e) in (refl, s.0, s.1)
same_signed true false m n q r lm ln nq nr e = absurd (first_is_digit m q (decimal n ++ r) 45 (omega arith) refl e)
same_signed false true m n q r lm ln nq nr e = absurd (first_is_digit n r (decimal m ++ q) 45 (omega arith) refl (sym e))

abbrev literal_at : ℕ → Bool → Literal
literal_at v s = record { var = v; sign = s }

pub same_literal : (l m : Literal) (q r : List ℕ) → IsLiteral l → IsLiteral m → NoDigit q → NoDigit r → literal_text l ++ q ≡ literal_text m ++ r → (l ≡ m) × (q ≡ r)
same_literal l m q r il im nq nr e =
    let s = same_signed l.sign m.sign l.var m.var q r il.small im.small nq nr e in
    let x : l.sign ≡ m.sign = s.0 in
    let v : l.var ≡ m.var = s.1 in
    (ap (λ w. literal_at w l.sign) v ∙ ap (λ w. literal_at m.var w) x, s.2)

-- a literal by its parts
pub no_unknown : (bs : List ℕ) → NoNumber (2 ^ 31) bs → NoUnknown bs
no_unknown bs none n more some small ends e = none n more small ends e

pub zero_unknown : (bs : List ℕ) (m : ℕ) (rest : List ℕ) → IsNumber (2 ^ 31) bs m rest → m ≡ 0 → NoUnknown bs
zero_unknown bs m rest is nought n more some small ends e =
    let s = same_number m n rest more (omega (arith, is.small)) (omega arith) is.ends ends (sym is.text ∙ e) in absurd (omega (arith, s.0))

negative : (l : Literal) (s : Bool) → l.sign ≡ s → (more w : List ℕ) → s ≡ false → literal_text l ++ more ≡ w → 45 ∷ decimal l.var ++ more ≡ w
negative l s is more w f e = let sign : l.sign ≡ false = is ∙ f in rw sign at e

positive : (l : Literal) → l.sign ≡ true → (more w : List ℕ) → literal_text l ++ more ≡ w → decimal l.var ++ more ≡ w
positive l sign more w e = rw sign at e

no_signed_by : (s : Bool) (rest : List ℕ) → NoUnknown rest → (l : Literal) (more : List ℕ) → l.sign ≡ s → IsLiteral l → NoDigit more → 45 ∷ rest ≡ literal_text l ++ more → ⊥
no_signed_by true rest none l more sign is ends e = first_is_digit l.var more rest 45 (omega (arith, is.small)) refl (positive l sign more (45 ∷ rest) (sym e))
no_signed_by false rest none l more sign is ends e = none l.var more is.some is.small ends (sym (ap (drop 1) (negative l l.sign refl more (45 ∷ rest) sign (sym e))))

pub no_signed : (bs rest : List ℕ) → bs ≡ 45 ∷ rest → NoUnknown rest → NoSigned bs
no_signed bs rest e none l more is ends f = no_signed_by l.sign rest none l more refl is ends (sym e ∙ f)

no_plain_by : (s : Bool) (bs : List ℕ) → BeginsNot (45 ∷ []) bs → NoUnknown bs → (l : Literal) (more : List ℕ) → l.sign ≡ s → IsLiteral l → NoDigit more → bs ≡ literal_text l ++ more → ⊥
no_plain_by true bs minus none l more sign is ends e = none l.var more is.some is.small ends (sym (positive l sign more bs (sym e)))
no_plain_by false bs minus none l more sign is ends e = minus (decimal l.var ++ more) (sym (negative l l.sign refl more bs sign (sym e)))

pub no_plain : (bs : List ℕ) → BeginsNot (45 ∷ []) bs → NoUnknown bs → NoSigned bs
no_plain bs minus none l more is ends e = no_plain_by l.sign bs minus none l more refl is ends e

pub negative_at : (bs rest after : List ℕ) (l : Literal) → bs ≡ 45 ∷ rest → IsUnknown rest false l after → IsSigned bs l after
negative_at bs rest after l e is = record { text = rw is.signed (e ∙ ap (λ (w : List ℕ). 45 ∷ w) is.text); is = is.is; ends = is.ends }

pub plain_at : (bs after : List ℕ) (l : Literal) → IsUnknown bs true l after → IsSigned bs l after
plain_at bs after l is = record { text = rw is.signed is.text; is = is.is; ends = is.ends }

pub no_space : (bs : List ℕ) → BeginsNot (32 ∷ []) bs → NoLiteral bs
no_space bs none l more is ends e = none (literal_text l ++ more) e

pub no_spaced : (bs rest : List ℕ) → bs ≡ 32 ∷ rest → NoSigned rest → NoLiteral bs
no_spaced bs rest e none l more is ends f = none l more is ends (ap (drop 1) (sym e ∙ f))

pub spaced_at : (bs rest after : List ℕ) (l : Literal) → bs ≡ 32 ∷ rest → IsSigned rest l after → IsSpaced bs l after
spaced_at bs rest after l e is = record { text = e ∙ ap (λ (w : List ℕ). 32 ∷ w) is.text; is = is.is; ends = is.ends }

-- a clause's literals
pub first_literal : (l : Literal) (c : List Literal) → IsClause (l ∷ c) → IsLiteral l
first_literal l c h = record { some = h.0.0; small = h.1 0 l (omega arith) }

pub clause_ends : (c : List Literal) (more : List ℕ) → NoDigit (clause_text c ++ 10 ∷ more)
clause_ends [] more = refl
clause_ends (l ∷ c) more = refl

-- the greatest unknown of a clause, or n where it has none
abbrev pub top : ℕ → List Literal → ℕ
top n [] = n
top n (l ∷ c) = top l.var c

pub top_push : (n : ℕ) (c : List Literal) (l : Literal) → top n (c ++ l ∷ []) ≡ l.var
top_push n [] l = refl
top_push n (m ∷ c) l = top_push m.var c l

pub ascends_push : (n : ℕ) (c : List Literal) (l : Literal) → Ascends n c → top n c < l.var → Ascends n (c ++ l ∷ [])
ascends_push n [] l h above = (above, tt)
ascends_push n (m ∷ c) l h above = (h.0, ascends_push m.var c l h.1 above)

pub ascends_above : (n : ℕ) (c : List Literal) (l : Literal) (d : List Literal) → Ascends n (c ++ l ∷ d) → top n c < l.var
ascends_above n [] l d h = h.0
ascends_above n (m ∷ c) l d h = ascends_above m.var c l d h.1

pub clause_push : (c : List Literal) (l : Literal) → clause_text (c ++ l ∷ []) ≡ clause_text c ++ (32 ∷ literal_text l)
clause_push [] l = append-nil (32 ∷ literal_text l)
clause_push (m ∷ c) l = ap (λ (w : List ℕ). (32 ∷ literal_text m) ++ w) (clause_push c l) ∙ sym (append_assoc (32 ∷ literal_text m) (clause_text c) (32 ∷ literal_text l))

-- What is left to read of a clause, where some of its literals have been read: each clause that the bytes
-- begin with, with a line feed after it, begins with these literals, and the rest is that of its others.
pub record Left (bs : List ℕ) (done : List Literal) (rest : List ℕ) (c : List Literal) (more : List ℕ) : Type 0 where
  pub others : List Literal
  pub joined : c ≡ done ++ others
  pub text : rest ≡ clause_text others ++ 10 ∷ more

abbrev pub Reads : List ℕ → List Literal → List ℕ → Type 0
Reads bs done rest = (c : List Literal) (more : List ℕ) → IsClause c → bs ≡ clause_text c ++ 10 ∷ more → Left bs done rest c more

pub reads_first : (bs : List ℕ) → Reads bs [] bs
reads_first bs c more is e = record { others = c; joined = refl; text = e }

-- the literals after the first ones of a clause are literals
all_after : (done : List Literal) (l : Literal) (c : List Literal) → All (λ m. m.var < 2 ^ 31) (done ++ l ∷ c) → l.var < 2 ^ 31
all_after [] l c all = all 0 l (omega arith)
all_after (m ∷ done) l c all = all_after done l c (λ j e i. all (suc j) e (omega arith))

literal_after : (done : List Literal) (l : Literal) (c : List Literal) → IsClause (done ++ l ∷ c) → IsLiteral l
literal_after done l c h = record { some = omega (arith, ascends_above 0 done l c h.0); small = all_after done l c h.1 }

-- where a literal stands at the rest, it is the next one
pub record Next (done : List Literal) (l : Literal) (after : List ℕ) (c : List Literal) (more : List ℕ) : Type 0 where
  pub others : List Literal
  pub joined : c ≡ done ++ l ∷ others
  pub text : after ≡ clause_text others ++ 10 ∷ more

same_spaced : (l m : Literal) (after tail : List ℕ) → IsLiteral l → IsLiteral m → NoDigit after → NoDigit tail → 32 ∷ literal_text l ++ after ≡ 32 ∷ literal_text m ++ tail → (l ≡ m) × (after ≡ tail)
same_spaced l m after tail il im nl nm e = same_literal l m after tail il im nl nm (ap (drop 1) e)

no_literal_here : (l : Literal) (more after : List ℕ) → 10 ∷ more ≡ 32 ∷ literal_text l ++ after → ⊥
no_literal_here l more after e = different 10 32 refl (ap (λ (w : List ℕ). get_or w 0 0) e)

clause_front : (m : Literal) (others : List Literal) (more : List ℕ) → clause_text (m ∷ others) ++ 10 ∷ more ≡ 32 ∷ literal_text m ++ (clause_text others ++ 10 ∷ more)
clause_front m others more = ap (λ (w : List ℕ). 32 ∷ w) (append_assoc (literal_text m) (clause_text others) (10 ∷ more))

next_literal : (done others : List Literal) (l : Literal) (rest after : List ℕ) (c : List Literal) (more : List ℕ) → IsClause c → c ≡ done ++ others → rest ≡ clause_text others ++ 10 ∷ more → IsSpaced rest l after → Next done l after c more
next_literal done [] l rest after c more is joined text spaced = absurd (no_literal_here l more after (sym text ∙ spaced.text))
next_literal done (m ∷ others) l rest after c more is joined text spaced =
    let s = same_spaced l m after (clause_text others ++ 10 ∷ more) spaced.is (literal_after done m others (subst IsClause joined is)) spaced.ends (clause_ends others more)
    (sym spaced.text ∙ text ∙ clause_front m others more) in
    record { others = others; joined = joined ∙ ap (λ w. done ++ w ∷ others) (sym s.0); text = s.1 }

pub next_of : (bs : List ℕ) (done : List Literal) (l : Literal) (rest after : List ℕ) → Reads bs done rest → IsSpaced rest l after → (c : List Literal) (more : List ℕ) → IsClause c → bs ≡ clause_text c ++ 10 ∷ more → Next done l after c more
next_of bs done l rest after reads spaced c more is e =
    let left = reads c more is e in next_literal done left.others l rest after c more is left.joined left.text spaced

pub reads_more : (bs : List ℕ) (done : List Literal) (l : Literal) (rest after : List ℕ) → Reads bs done rest → IsSpaced rest l after → Reads bs (done ++ l ∷ []) after
reads_more bs done l rest after reads spaced c more is e =
    let n = next_of bs done l rest after reads spaced c more is e in
    record { others = n.others; joined = n.joined ∙ sym (append_assoc done (l ∷ []) n.others); text = n.text }

-- a literal whose unknown is not above those before it
pub not_above : (bs : List ℕ) (done : List Literal) (l : Literal) (rest after : List ℕ) → Reads bs done rest → IsSpaced rest l after → l.var ≤ top 0 done → NoClause bs
not_above bs done l rest after reads spaced low c more is e =
    let n = next_of bs done l rest after reads spaced c more is e in
    absurd (omega (arith, ascends_above 0 done l n.others (subst IsClause n.joined is).0))

-- no literal stands at the rest
ends_here : (done others : List Literal) (rest : List ℕ) (c : List Literal) (more : List ℕ) → IsClause c → c ≡ done ++ others → rest ≡ clause_text others ++ 10 ∷ more → NoLiteral rest → rest ≡ 10 ∷ more
ends_here done [] rest c more is joined text none = text
ends_here done (m ∷ others) rest c more is joined text none =
    absurd (none m (clause_text others ++ 10 ∷ more) (literal_after done m others (subst IsClause joined is)) (clause_ends others more)
    (text ∙ clause_front m others more))

pub rest_is_feed : (bs : List ℕ) (done : List Literal) (rest : List ℕ) → Reads bs done rest → NoLiteral rest → (c : List Literal) (more : List ℕ) → IsClause c → bs ≡ clause_text c ++ 10 ∷ more → rest ≡ 10 ∷ more
rest_is_feed bs done rest reads none c more is e =
    let left = reads c more is e in ends_here done left.others rest c more is left.joined left.text none

-- one literal more
pub text_more : (bs : List ℕ) (done : List Literal) (l : Literal) (rest after : List ℕ) → bs ≡ clause_text done ++ rest → IsSpaced rest l after → bs ≡ clause_text (done ++ l ∷ []) ++ after
text_more bs done l rest after e spaced =
    e ∙ ap (λ (w : List ℕ). clause_text done ++ w) spaced.text ∙ sym (append_assoc (clause_text done) (32 ∷ literal_text l) after)
    ∙ ap (λ (w : List ℕ). w ++ after) (sym (clause_push done l))

-- different clauses have different texts
abbrev AreLiterals : List Literal → Type 0
AreLiterals [] = Unit {0}
AreLiterals (l ∷ c) = IsLiteral l × AreLiterals c

are_literals : (n : ℕ) (c : List Literal) → Ascends n c → All (λ m. m.var < 2 ^ 31) c → AreLiterals c
are_literals n [] up small = tt
are_literals n (l ∷ c) up small = (record { some = omega (arith, up.0); small = small 0 l (omega arith) }, are_literals l.var c up.1 (λ j e i. small (suc j) e (omega arith)))

same_literals : (c d : List Literal) (q r : List ℕ) → AreLiterals c → AreLiterals d → clause_text c ++ 10 ∷ q ≡ clause_text d ++ 10 ∷ r → (c ≡ d) × (q ≡ r)
same_literals [] [] q r ic id e = (refl, ap (drop 1) e)
same_literals [] (m ∷ d) q r ic id e = cc
same_literals (l ∷ c) [] q r ic id e = cc
same_literals (l ∷ c) (m ∷ d) q r ic id e =
    let f : literal_text l ++ (clause_text c ++ 10 ∷ q) ≡ literal_text m ++ (clause_text d ++ 10 ∷ r) =
    sym (append_assoc (literal_text l) (clause_text c) (10 ∷ q)) ∙ ap (drop 1) e ∙ append_assoc (literal_text m) (clause_text d) (10 ∷ r) in
    let s = same_literal l m (clause_text c ++ 10 ∷ q) (clause_text d ++ 10 ∷ r) ic.0 id.0 (clause_ends c q) (clause_ends d r) f in
    let t = same_literals c d q r ic.1 id.1 s.1 in
    (ap (λ w. w ∷ c) s.0 ∙ ap (λ w. m ∷ w) t.0, t.1)

pub same_clause : (c d : List Literal) (q r : List ℕ) → IsClause c → IsClause d → clause_text c ++ 10 ∷ q ≡ clause_text d ++ 10 ∷ r → (c ≡ d) × (q ≡ r)
same_clause c d q r ic id e = same_literals c d q r (are_literals 0 c ic.0 ic.1) (are_literals 0 d id.0 id.1) e

-- a clause with one literal more is one
pub clause_more : (c : List Literal) (l : Literal) → IsClause c → IsLiteral l → top 0 c < l.var → IsClause (c ++ l ∷ [])
clause_more c l is one above = (ascends_push 0 c l is.0 above, All-push (λ m. m.var < 2 ^ 31) c l is.1 one.small)

-- what stands after a minus
pub signed_after : (bs rest : List ℕ) (o : Option (Literal × Bor (List ℕ))) → bs ≡ 45 ∷ rest → MatchOption o (NoUnknown rest) (λ f. IsUnknown rest false f.0 f.1.now) → MatchOption o (NoSigned bs) (λ f. IsSigned bs f.0 f.1.now)
signed_after bs rest None e h = no_signed bs rest e h
signed_after bs rest (Some f) e h = negative_at bs rest f.1.now f.0 e h

-- a clause and its line feed, and where the rest begins
pub rest_place : (text bs c rest : List ℕ) (at : ℕ) → bs ≡ drop at text → bs ≡ c ++ 10 ∷ rest → rest ≡ drop (length text - length rest - 1 + 1) text
rest_place text bs c rest at e f =
    let whole : text ≡ (take at text ++ (c ++ 10 ∷ [])) ++ rest =
    sym (take-append-drop at text) ∙ ap (λ (w : List ℕ). take at text ++ w) (sym e ∙ f ∙ sym (append_assoc c (10 ∷ []) rest)) ∙ sym (append_assoc (take at text) (c ++ 10 ∷ []) rest) in
    let long : length text ≡ length (take at text ++ (c ++ 10 ∷ [])) + length rest = ap length whole ∙ length-append (take at text ++ (c ++ 10 ∷ [])) rest in
    let more : length (take at text ++ (c ++ 10 ∷ [])) ≡ length (take at text) + (length c + 1) = length-append (take at text) (c ++ 10 ∷ []) ∙ omega (arith, length-append c (10 ∷ [])) in
    let place : length text - length rest - 1 + 1 ≡ length text - length rest = omega arith in
    sym (ap (λ n. drop n text) place ∙ end_rest text rest (take at text ++ (c ++ 10 ∷ [])) whole)

pub clause_place : (text bs rest : List ℕ) (c : List Literal) (at : ℕ) → bs ≡ drop at text → IsClauseLine bs c rest → IsClauseLine (drop at text) c (drop (length text - length rest - 1 + 1) text)
clause_place text bs rest c at e line = record {
  text = sym e ∙ line.text ∙ ap (λ (w : List ℕ). clause_text c ++ 10 ∷ w) (rest_place text bs (clause_text c) rest at e line.text);
  is = line.is;
}
