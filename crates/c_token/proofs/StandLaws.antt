-- How the loop of the lexer stands, before and after a blank or a token.
use Rattle.std.proofs.Common.{◌≡◌, ◌<◌, ◌≤◌, ◌+◌, ◌-◌, ◌||◌, ℕ, false, List, [], ◌∷◌, ◌++◌, length, take, drop, sym, ap, ◌∙◌, arith}
use Rattle.std.specs.Prelude.{count_by}
use Rattle.std.specs.List.{list_any}
use Rattle.std.proofs.lemmas.List.{append-nil, length-drop, length-take-le, drop-drop}
use Rattle.std.proofs.lemmas.List.Sums.{count_by-le-length}
use Rattle.c_token.specs.declared.position.Position.{Position}
use Rattle.c_token.specs.declared.token.Token.{Token}
use Rattle.c_token.specs.declared.token.TokenKind.{TokenKind}
use Rattle.c_token.specs.Bytes.{is_line_feed}
use Rattle.c_token.specs.Blanks.{BeginsNoBlank}
use Rattle.c_token.specs.Forms.{IsToken, BeginsNoToken}
use Rattle.c_token.specs.Reading.{line_at, col_after, col_at, span_at, blank, token, Reaches, further, IsTokenReading, IsStuck}
use Rattle.c_token.specs.Parts.{pass, IsFittingBlank}
use Rattle.c_token.proofs.PlaceLaws.{passed, col_after-le, col_after-positive, line_at-add, col_at-add}

-- these tokens lead to the position, and `rest` is left there
pub record Stands (bytes : List ℕ) (p : Position) (rest : List ℕ) (ts : List Token) : Type 0 where
  pub left : rest ≡ drop p.at bytes
  pub place : p.at + length rest ≡ length bytes
  pub line : p.line ≡ line_at bytes p.at
  pub line_small : p.line ≤ p.at + 1
  pub col : p.col ≡ col_at bytes p.at
  pub col_small : p.col ≤ p.at + 1
  pub reaches : Reaches bytes ts p.at p.first

-- the same but for what is reached
record Moves (bytes : List ℕ) (p q : Position) (rest later : List ℕ) (n : ℕ) : Type 0 where
  at : q.at ≡ p.at + n
  left : later ≡ drop q.at bytes
  place : q.at + length later ≡ length bytes
  line : q.line ≡ line_at bytes q.at
  line_small : q.line ≤ q.at + 1
  col : q.col ≡ col_at bytes q.at
  col_small : q.col ≤ q.at + 1
  first : q.first ≡ (p.first || list_any is_line_feed (take n (drop p.at bytes)))

moves : (bytes rest later : List ℕ) (p q : Position) (ts : List Token) (n : ℕ) → Stands bytes p rest ts → n ≤ length rest
    → q ≡ pass p (take n rest) → later ≡ drop n rest → Moves bytes p q rest later n
moves bytes rest later p q ts n s fits is left =
    let gone = passed p (take n rest) in
    let len : length (take n rest) ≡ n = length-take-le n rest fits in
    let at : q.at ≡ p.at + n = ap (λ (r : Position). r.at) is ∙ (gone.at ∙ ap (λ k. p.at + k) len) in
    let same : take n rest ≡ take n (drop p.at bytes) = ap (take n) s.left in
    let line : q.line ≡ line_at bytes q.at =
    ap (λ (r : Position). r.line) is ∙ (gone.line ∙ (ap (λ l. l + count_by is_line_feed (take n rest)) s.line
    ∙ (ap (λ (w : List ℕ). line_at bytes p.at + count_by is_line_feed w) same ∙ (sym (line_at-add bytes p.at n) ∙ ap (line_at bytes) (sym at))))) in
    let col : q.col ≡ col_at bytes q.at =
    ap (λ (r : Position). r.col) is ∙ (gone.col ∙ (ap (λ l. col_after l (take n rest)) s.col
    ∙ (ap (col_after (col_at bytes p.at)) same ∙ (sym (col_at-add bytes p.at n) ∙ ap (col_at bytes) (sym at))))) in
    let most = count_by-le-length is_line_feed (take n rest) in
    let low : 0 < p.col = rw s.col (col_after-positive 1 (take p.at bytes) (omega arith)) in
    let wide = col_after-le p.col (take n rest) low in
    let lines = ap (λ (r : Position). r.line) is ∙ gone.line in
    let cols = ap (λ (r : Position). r.col) is ∙ gone.col in
    let left_len : length later ≡ length rest - n = ap length left ∙ length-drop n rest in
    record {
      at = at;
      left = left ∙ (ap (drop n) s.left ∙ (drop-drop n p.at bytes ∙ ap (λ k. drop k bytes) (sym at)));
      place = (let was = s.place in omega arith);
      line = line;
      line_small = (let was = s.line_small in omega arith);
      col = col;
      col_small = (let was = s.col_small in omega arith);
      first = ap (λ (r : Position). r.first) is ∙ (gone.first ∙ ap (λ (w : List ℕ). p.first || list_any is_line_feed w) same);
    }

pub after_blank : (bytes rest later : List ℕ) (p q : Position) (ts : List Token) (n : ℕ) → Stands bytes p rest ts → IsFittingBlank p.first rest n
    → q ≡ pass p (take n rest) → later ≡ drop n rest → Stands bytes q later ts
after_blank bytes rest later p q ts n s b is left =
    let m = moves bytes rest later p q ts n s b.2 is left in
    let step = blank n (rw (← s.left) b.0) in
    let reached = further ts [] p.at (p.at + n) p.first (p.first || list_any is_line_feed (take n (drop p.at bytes))) s.reaches step in
    record {
      left = m.left;
      place = m.place;
      line = m.line;
      line_small = m.line_small;
      col = m.col;
      col_small = m.col_small;
      reaches = rw (m.at, m.first, ← append-nil ts) reached;
    }

pub after_token : (bytes rest later : List ℕ) (p q : Position) (ts us : List Token) (k : TokenKind) (n : ℕ) → Stands bytes p rest ts
    → BeginsNoBlank p.first rest → IsToken rest k n → q ≡ pass p (take n rest) → later ≡ drop n rest
    → us ≡ ts ++ record { kind = k; at = record { start = p.at; end = p.at + n; line = p.line; col = p.col } } ∷ []
    → Stands bytes (record { at = q.at; line = q.line; col = q.col; first = false }) later us
after_token bytes rest later p q ts us k n s apart t is left more =
    let m = moves bytes rest later p q ts n s t.fits is left in
    let step = token k n (rw (← s.left) apart) (rw (← s.left) t) in
    let reached = further ts (record { kind = k; at = span_at bytes p.at n } ∷ []) p.at (p.at + n) p.first false s.reaches step in
    record {
      left = m.left;
      place = m.place;
      line = m.line;
      line_small = m.line_small;
      col = m.col;
      col_small = m.col_small;
      reaches = rw (more, m.at, s.line, s.col) reached;
    }

pub stuck : (bytes rest : List ℕ) (p : Position) (ts : List Token) → Stands bytes p rest ts → 0 < length rest
    → BeginsNoBlank p.first rest → BeginsNoToken rest → IsStuck bytes p.at
stuck bytes rest p ts s some no_blank no_token = record {
  tokens = ts;
  first = p.first;
  reaches = s.reaches;
  left = (let place = s.place in omega arith);
  no_blank = rw (← s.left) no_blank;
  no_token = rw (← s.left) no_token;
}

pub read : (bytes rest : List ℕ) (p : Position) (ts : List Token) → Stands bytes p rest ts → length rest ≡ 0 → IsTokenReading bytes ts
read bytes rest p ts s none =
    let end : p.at ≡ length bytes = (let place = s.place in omega arith) in
    record { first = p.first; reaches = rw (← end) s.reaches }
