-- What reading line by line says of all the bytes.
use Rattle.std.proofs.Common.{◌≡◌, ℕ, ◌+◌, ◌<◌, ◌^◌, List, [], ◌∷◌, ◌++◌, length, map, refl, sym, ap, subst, ◌∙◌, append_assoc, Option, Some, None, arith}
use Rattle.std.proofs.lemmas.List.{append-nil, length-append, length-map, map-append}
use Rattle.line_texts.specs.Lines.{with_line_feeds, line_feeds, first_lines, IsCut, IsFirstBadLineOf}
use Rattle.line_texts.specs.Texts.{Kind, bytes_of, AreLines, IsTextOf, BeginsText, IsNoText, step, walk, Leads, Wrong, IsReadable}
use Rattle.line_texts.proofs.LineFeeds.{AreLone, same_cut, first_line, first_of_lines, feeds_of_lines, feeds-append, fewer_lines, peel, feeds_join, heads}

module _ (k : Kind) where
  pub walk-append : (o : Option k.State) (ls ms : List k.Line) → walk k o (ls ++ ms) ≡ walk k (walk k o ls) ms
  walk-append o [] ms = refl
  walk-append o (l ∷ ls) ms = walk-append (step k o l) ls ms

  pub walk_none : (ls : List k.Line) → walk k None ls ≡ None
  walk_none [] = refl
  walk_none (l ∷ ls) = walk_none ls

  pub are_append : (ls ms : List k.Line) → AreLines k ls → AreLines k ms → AreLines k (ls ++ ms)
  are_append [] ms hl hm = hm
  are_append (l ∷ ls) ms hl hm = (hl.0, are_append ls ms hl.1 hm)

  are_after : (ls others : List k.Line) → AreLines k (ls ++ others) → AreLines k others
  are_after [] others are = are
  are_after (l ∷ ls) others are = are_after ls others are.1

  bytes_more : (ls : List k.Line) (l : k.Line) (after : List ℕ) → bytes_of k ls ++ (k.line_text l ++ 10 ∷ after) ≡ bytes_of k (ls ++ l ∷ []) ++ after
  bytes_more ls l after =
      ap (λ (w : List ℕ). bytes_of k ls ++ w) (sym (append_assoc (k.line_text l) (10 ∷ []) after))
      ∙ sym (append_assoc (bytes_of k ls) (k.line_text l ++ 10 ∷ []) after)
      ∙ ap (λ (w : List ℕ). (bytes_of k ls ++ w) ++ after) (sym (append-nil (k.line_text l ++ 10 ∷ [])))
      ∙ ap (λ (w : List ℕ). w ++ after) (sym (feeds_join (map k.line_text ls) (k.line_text l ∷ [])))
      ∙ ap (λ w. with_line_feeds w ++ after) (sym (map-append k.line_text ls (l ∷ [])))

  -- how far reading has come
  pub record Gone (bs rest : List ℕ) (s : k.State) (n : ℕ) : Type 0 where
    pub lines : List k.Line
    pub text : bs ≡ bytes_of k lines ++ rest
    pub each : AreLines k lines
    pub led : walk k (Some k.start) lines ≡ Some s
    pub count : n ≡ length lines + 1

  pub gone_start : (bs : List ℕ) → Gone bs bs k.start 1
  gone_start bs = record { lines = []; text = refl; each = tt; led = refl; count = omega arith }

  pub gone_more : (bs rest w after : List ℕ) (s t : k.State) (n : ℕ) → Gone bs rest s n → IsCut rest w after → Leads k s w t → Gone bs after t (n + 1)
  gone_more bs rest w after s t n g cut leads =
      let l = leads.line in
      record {
        lines = g.lines ++ l ∷ [];
        text = g.text ∙ ap (λ (v : List ℕ). bytes_of k g.lines ++ v) (cut.text ∙ ap (λ (v : List ℕ). v ++ 10 ∷ after) leads.text) ∙ bytes_more g.lines l after;
        each = are_append g.lines (l ∷ []) g.each (leads.is, tt);
        led = walk-append (Some k.start) g.lines (l ∷ []) ∙ ap (λ o. walk k o (l ∷ [])) g.led ∙ leads.next;
        count = omega (arith, g.count, length-append g.lines (l ∷ []));
      }

  -- what lines have led to, where each line keeps it
  module _ (Reached : List k.Line → k.State → Type 0)
      (reaches : (ls : List k.Line) (l : k.Line) (s t : k.State) → k.IsLine l → Reached ls s → k.next s l ≡ Some t → Reached (ls ++ l ∷ []) t) where
    same_state : (s t : k.State) → Some s ≡ Some t → s ≡ t
    same_state s t e = cc

    led_by : (ms : List k.Line) (l : k.Line) (ls : List k.Line) (s t : k.State) (o : Option k.State) → k.next s l ≡ o
        → ((u : k.State) → k.next s l ≡ Some u → walk k (Some u) ls ≡ Some t → Reached ((ms ++ l ∷ []) ++ ls) t) → walk k (Some s) (l ∷ ls) ≡ Some t → Reached (ms ++ l ∷ ls) t
    led_by ms l ls s t None none more leads =
        let never : None ≡ Some t = sym (walk_none ls) ∙ ap (λ o. walk k o ls) (sym none) ∙ leads in
        absurd (cc)
    led_by ms l ls s t (Some u) some more leads =
        subst (λ w. Reached w t) (append_assoc ms (l ∷ []) ls) (more u some (ap (λ o. walk k o ls) (sym some) ∙ leads))

    pub led : (ms ls : List k.Line) (s t : k.State) → Reached ms s → AreLines k ls → walk k (Some s) ls ≡ Some t → Reached (ms ++ ls) t
    led ms [] s t reached are leads = subst (λ w. Reached w t) (sym (append-nil ms)) (subst (Reached ms) (same_state s t leads) reached)
    led ms (l ∷ ls) s t reached are leads =
        led_by ms l ls s t (k.next s l) refl (λ u some rest. led (ms ++ l ∷ []) ls u t (reaches ms l s u are.0 reached some) are.1 rest) leads

  long : (ls : List k.Line) → length (map k.line_text ls) ≡ length ls
  long ls = length-map ls k.line_text

  begins_front : (a b : List ℕ) → BeginsText k (a ++ b) → BeginsText k a
  begins_front a b h = (h.0, h.1, b ++ h.2, subst (IsTextOf k h.0) (append_assoc a b h.2) h.3)

  module _ (r : IsReadable k) where
    lone_lines : (ls : List k.Line) → AreLines k ls → AreLone (map k.line_text ls)
    lone_lines [] are = tt
    lone_lines (l ∷ ls) are = (r.lone l are.0, lone_lines ls are.1)

    -- whole lines, of which the first are known
    record Rest (ms ls : List k.Line) (zs : List (List ℕ)) : Type 0 where
      others : List k.Line
      joined : ms ≡ ls ++ others
      text : map k.line_text others ≡ zs

    rest_of : (ms ls : List k.Line) (zs : List (List ℕ)) → AreLines k ms → AreLines k ls → map k.line_text ms ≡ map k.line_text ls ++ zs → Rest ms ls zs
    rest_of ms [] zs hm hl e = record { others = ms; joined = refl; text = e }
    rest_of [] (l ∷ ls) zs hm hl e = cc
    rest_of (m ∷ ms) (l ∷ ls) zs hm hl e =
        let h = heads (k.line_text m) (k.line_text l) (map k.line_text ms) (map k.line_text ls ++ zs) e in
        let p = rest_of ms ls zs hm.1 hl.1 h.1 in
        record { others = p.others; joined = ap (λ x. x ∷ ms) (r.one_line m l hm.0 hl.0 h.0) ∙ ap (λ w. l ∷ w) p.joined; text = p.text }

    record Parts (ms ls : List k.Line) (rest : List ℕ) : Type 0 where
      others : List k.Line
      joined : ms ≡ ls ++ others
      text : bytes_of k others ≡ rest

    parts : (ms ls : List k.Line) (rest : List ℕ) → AreLines k ms → AreLines k ls → bytes_of k ms ≡ bytes_of k ls ++ rest → Parts ms ls rest
    parts ms ls rest hm hl e =
        let p = peel (map k.line_text ms) (map k.line_text ls) rest (lone_lines ms hm) (lone_lines ls hl) e in
        let q = rest_of ms ls p.others hm hl p.joined in
        record { others = q.others; joined = q.joined; text = ap with_line_feeds q.text ∙ p.text }

    -- no text goes on with a line that leads nowhere
    stuck : (v : k.Value) (all ls more : List k.Line) (l : k.Line) (s : k.State) → k.AreLinesOf v all → walk k (Some k.start) ls ≡ Some s → all ≡ ls ++ l ∷ more → k.next s l ≡ None → ⊥
    stuck v all ls more l s are led e none =
        let ends : walk k (Some k.start) all ≡ None =
        ap (walk k (Some k.start)) e ∙ walk-append (Some k.start) ls (l ∷ more) ∙ ap (λ o. walk k o (l ∷ more)) led ∙ ap (λ o. walk k o more) none ∙ walk_none more in
        let f : Some (k.done v) ≡ None = sym (r.leads v all are) ∙ ends in
        cc

    bad_cut_by : (v : k.Value) (all ls others : List k.Line) (w after : List ℕ) (s : k.State) → k.AreLinesOf v all → AreLines k others → walk k (Some k.start) ls ≡ Some s → line_feeds w ≡ 0 → Wrong k s w
        → all ≡ ls ++ others → bytes_of k others ≡ w ++ 10 ∷ after → ⊥
    bad_cut_by v all ls [] w after s has are led lone wrong e f = none w f
      where
        none : (v : List ℕ) → [] ≡ v ++ 10 ∷ after → ⊥
        none [] e = cc
        none (b ∷ v) e = cc
    bad_cut_by v all ls (l ∷ more) w after s has are led lone wrong e f =
        let cut = same_cut (k.line_text l) w (bytes_of k more) after (r.lone l are.0) lone (sym (append_assoc (k.line_text l) (10 ∷ []) (bytes_of k more)) ∙ f) in
        stuck v all ls more l s has led e (wrong l are.0 (sym cut.0))

    bad_cut : (bs rest w after : List ℕ) (s : k.State) (n : ℕ) (g : Gone bs rest s n) → line_feeds w ≡ 0 → Wrong k s w → (v : k.Value) → k.IsValue v → IsTextOf k v (bytes_of k g.lines ++ (w ++ 10 ∷ after)) → ⊥
    bad_cut bs rest w after s n g lone wrong v is text =
        let are = r.are_lines v text.0 is text.1 in
        let p = parts text.0 g.lines (w ++ 10 ∷ after) are g.each (sym text.2) in
        bad_cut_by v text.0 g.lines p.others w after s text.1 (are_after g.lines p.others (subst (AreLines k) p.joined are)) g.led lone wrong p.joined p.text

    -- the lines so far begin a text
    begins_gone : (bs rest : List ℕ) (s : k.State) (n : ℕ) (g : Gone bs rest s n) → n < 2 ^ 64 → BeginsText k (bytes_of k g.lines)
    begins_gone bs rest s n g small =
        let b = r.begins s g.lines g.each g.led (omega (arith, g.count)) in
        let text : bytes_of k g.lines ++ bytes_of k b.others ≡ bytes_of k (g.lines ++ b.others) =
        sym (feeds_join (map k.line_text g.lines) (map k.line_text b.others)) ∙ ap with_line_feeds (sym (map-append k.line_text g.lines b.others)) in
        (b.value, b.is, bytes_of k b.others, (g.lines ++ b.others, b.lines, text))

    first_of : (bs rest : List ℕ) (s : k.State) (n : ℕ) (g : Gone bs rest s n) (i m : ℕ) → m ≡ length g.lines + i → first_lines m bs ≡ bytes_of k g.lines ++ first_lines i rest
    first_of bs rest s n g i m e =
        let j : m ≡ length (map k.line_text g.lines) + i = omega (arith, e, long g.lines) in
        ap (λ i. first_lines i bs) j
        ∙ ap (first_lines (length (map k.line_text g.lines) + i)) g.text
        ∙ first_of_lines (map k.line_text g.lines) rest i (lone_lines g.lines g.each)

    feeds_gone : (bs rest : List ℕ) (s : k.State) (n : ℕ) (g : Gone bs rest s n) → line_feeds bs ≡ length g.lines + line_feeds rest
    feeds_gone bs rest s n g =
        ap line_feeds g.text ∙ feeds_of_lines (map k.line_text g.lines) rest (lone_lines g.lines g.each) ∙ ap (λ i. i + line_feeds rest) (long g.lines)

    before : (bs rest : List ℕ) (s : k.State) (n : ℕ) → Gone bs rest s n → n < 2 ^ 64 → (i : ℕ) → i < n → BeginsText k (first_lines i bs)
    before bs rest s n g small i low =
        let f = fewer_lines i (length g.lines) bs (omega (arith, low, g.count)) in
        let front : first_lines (length g.lines) bs ≡ bytes_of k g.lines = first_of bs rest s n g 0 (length g.lines) (omega arith) ∙ append-nil (bytes_of k g.lines) in
        begins_front (first_lines i bs) f.more (subst (BeginsText k) (sym front ∙ f.is) (begins_gone bs rest s n g small))

    -- a line that leads nowhere
    here : (bs rest w after : List ℕ) (s : k.State) (n : ℕ) → Gone bs rest s n → IsCut rest w after → Wrong k s w → BeginsText k (first_lines n bs) → ⊥
    here bs rest w after s n g cut wrong h =
        let first : first_lines n bs ≡ bytes_of k g.lines ++ (w ++ 10 ∷ []) =
        first_of bs rest s n g 1 n (omega (arith, g.count)) ∙ ap (λ (v : List ℕ). bytes_of k g.lines ++ v) (ap (first_lines 1) cut.text ∙ first_line w after 0 cut.lone) in
        let text : first_lines n bs ++ h.2 ≡ bytes_of k g.lines ++ (w ++ 10 ∷ h.2) =
        ap (λ (v : List ℕ). v ++ h.2) first ∙ append_assoc (bytes_of k g.lines) (w ++ 10 ∷ []) h.2 ∙ ap (λ (v : List ℕ). bytes_of k g.lines ++ v) (append_assoc w (10 ∷ []) h.2) in
        bad_cut bs rest w h.2 s n g cut.lone wrong h.0 h.1 (subst (IsTextOf k h.0) text h.3)

    pub bad_line : (bs rest w after : List ℕ) (s : k.State) (n : ℕ) → Gone bs rest s n → n < 2 ^ 64 → IsCut rest w after → Wrong k s w → IsFirstBadLineOf (BeginsText k) bs n
    bad_line bs rest w after s n g small cut wrong = record {
      before = before bs rest s n g small;
      here = λ _ h. here bs rest w after s n g cut wrong h;
      within = omega (arith, g.count, feeds_gone bs rest s n g);
    }

    pub bad_no_text : (bs rest w after : List ℕ) (s : k.State) (n : ℕ) → Gone bs rest s n → IsCut rest w after → Wrong k s w → IsNoText k bs
    bad_no_text bs rest w after s n g cut wrong v is text =
        bad_cut bs rest w after s n g cut.lone wrong v is (subst (IsTextOf k v) (g.text ∙ ap (λ (v : List ℕ). bytes_of k g.lines ++ v) cut.text) text)

    -- no line is left
    pub no_line : (bs rest : List ℕ) (s : k.State) (n : ℕ) → Gone bs rest s n → n < 2 ^ 64 → line_feeds rest ≡ 0 → IsFirstBadLineOf (BeginsText k) bs n
    no_line bs rest s n g small lone = record {
      before = before bs rest s n g small;
      here = λ low h. absurd (omega (arith, low, g.count, feeds_gone bs rest s n g, lone));
      within = omega (arith, g.count, feeds_gone bs rest s n g);
    }

    -- a text that goes on from the lines to bytes without a line feed ends there
    pub record Ended (v : k.Value) (rest : List ℕ) (s : k.State) : Type 0 where
      pub done : s ≡ k.done v
      pub empty : rest ≡ []

    some_state : (x y : k.State) → Some x ≡ Some y → x ≡ y
    some_state x y e = cc

    ended_by : (v : k.Value) (all ls others : List k.Line) (rest : List ℕ) (s : k.State) → k.AreLinesOf v all → walk k (Some k.start) ls ≡ Some s → AreLines k others → line_feeds rest ≡ 0
        → all ≡ ls ++ others → bytes_of k others ≡ rest → Ended v rest s
    ended_by v all ls [] rest s has led are lone joined text = record {
      done = some_state s (k.done v) (sym led ∙ ap (walk k (Some k.start)) (sym (joined ∙ append-nil ls)) ∙ r.leads v all has);
      empty = sym text;
    }
    ended_by v all ls (l ∷ more) rest s has led are lone joined text =
        let feeds : line_feeds (bytes_of k (l ∷ more)) ≡ 0 = ap line_feeds text ∙ lone in
        let split : line_feeds (bytes_of k (l ∷ more)) ≡ line_feeds (k.line_text l ++ 10 ∷ []) + line_feeds (bytes_of k more) = feeds-append (k.line_text l ++ 10 ∷ []) (bytes_of k more) in
        let one : line_feeds (k.line_text l ++ 10 ∷ []) ≡ line_feeds (k.line_text l) + 1 = feeds-append (k.line_text l) (10 ∷ []) in
        absurd (omega (arith, feeds, split, one))

    pub ended : (bs rest : List ℕ) (s : k.State) (n : ℕ) → Gone bs rest s n → line_feeds rest ≡ 0 → (v : k.Value) → k.IsValue v → IsTextOf k v bs → Ended v rest s
    ended bs rest s n g lone v is text =
        let are = r.are_lines v text.0 is text.1 in
        let p = parts text.0 g.lines rest are g.each (sym text.2 ∙ g.text) in
        ended_by v text.0 g.lines p.others rest s text.1 g.led (are_after g.lines p.others (subst (AreLines k) p.joined are)) lone p.joined p.text

    -- the end is missing
    pub no_end : (bs rest : List ℕ) (s : k.State) (n : ℕ) → Gone bs rest s n → line_feeds rest ≡ 0 → ((v : k.Value) → s ≡ k.done v → ⊥) → IsNoText k bs
    no_end bs rest s n g lone not v is text = not v (ended bs rest s n g lone v is text).done

    -- something follows the end
    pub no_more : (bs rest : List ℕ) (s : k.State) (n : ℕ) → Gone bs rest s n → line_feeds rest ≡ 0 → 0 < length rest → IsNoText k bs
    no_more bs rest s n g lone some v is text = let e : length rest ≡ 0 = ap length (ended bs rest s n g lone v is text).empty in omega (arith, some, e)

    -- the bytes are a text
    pub found : (bs : List ℕ) (v : k.Value) (n : ℕ) → Gone bs [] (k.done v) n → n < 2 ^ 64 → k.IsValue v × IsTextOf k v bs
    found bs v n g small =
        let h = r.whole v g.lines g.each g.led (omega (arith, g.count)) in
        (h.0, (g.lines, h.1, g.text ∙ append-nil (bytes_of k g.lines)))

    -- and of no other value
    pub only : (bs : List ℕ) (v : k.Value) (n : ℕ) → Gone bs [] (k.done v) n → (w : k.Value) → k.IsValue w → IsTextOf k w bs → w ≡ v
    only bs v n g w is text = sym (r.one_value v w (ended bs [] (k.done v) n g refl w is text).done)

    -- different values have different texts
    pub same_text : (v w : k.Value) (bs : List ℕ) → k.IsValue v → k.IsValue w → IsTextOf k v bs → IsTextOf k w bs → v ≡ w
    same_text v w bs is_v is_w text_v text_w =
        let are = r.are_lines v text_v.0 is_v text_v.1 in
        let p = parts text_v.0 text_w.0 [] are (r.are_lines w text_w.0 is_w text_w.1) (sym text_v.2 ∙ text_w.2 ∙ sym (append-nil (bytes_of k text_w.0))) in
        let h = ended_by v text_v.0 text_w.0 p.others [] (k.done w) text_v.1 (r.leads w text_w.0 text_w.1) (are_after text_w.0 p.others (subst (AreLines k) p.joined are)) refl p.joined p.text in
        sym (r.one_value w v h.done)

-- the same fault where the same bytes begin a text by another reading of it
pub bad_as : (A B : List ℕ → Type 0) (bs : List ℕ) (n : ℕ) → ((cs : List ℕ) → A cs → B cs) → ((cs : List ℕ) → B cs → A cs) → IsFirstBadLineOf A bs n → IsFirstBadLineOf B bs n
bad_as A B bs n to from bad = record {
  before = λ i low. to (first_lines i bs) (bad.before i low);
  here = λ low h. bad.here low (from (first_lines n bs) h);
  within = bad.within;
}
