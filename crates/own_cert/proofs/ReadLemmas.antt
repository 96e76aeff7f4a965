-- What reading line by line says of all the bytes.
use Rattle.std.proofs.Common.{◌≡◌, ℕ, suc, ◌+◌, ◌<◌, ◌≤◌, ◌^◌, List, [], ◌∷◌, ◌++◌, length, map, refl, sym, ap, subst, ◌∙◌, Option, Some, None, MatchOption, Result, Ok, Err, IfOk, arith}
use Rattle.std.proofs.lemmas.List.{length-append}
use Rattle.std.specs.List.{All, AllByRecursion, flat_map}
use Rattle.line_texts.specs.Lines.{with_line_feeds, IsCut, IsFirstBadLineOf}
use Rattle.line_texts.specs.Texts.{IsReadable}
use Rattle.line_texts.specs.Texts as of_kind
use Rattle.line_texts.proofs.Reading as general
use Rattle.line_texts.proofs.Reading.{Gone, led, bad_as, found, only}
use Rattle.conflict_proof.specs.Fault.{IsFormAt}
use Rattle.conflict_proof.specs.declared.faults.TextError.{TextError}
use Rattle.conflict_proof.specs.declared.faults.TextError.TheVariants as error
use Rattle.own_cert.specs.declared.certificate.PlaceBits.{PlaceBits}
use Rattle.own_cert.specs.declared.certificate.Instance.{Instance}
use Rattle.own_cert.specs.declared.certificate.Certificate.{Certificate}
use Rattle.own_cert.specs.declared.lines.Version.{Version}
use Rattle.own_cert.specs.declared.lines.Version.TheVariants.{First, Second}
use Rattle.own_cert.specs.declared.lines.Run.{Run}
use Rattle.own_cert.specs.declared.lines.Line.{Line}
use Rattle.own_cert.specs.declared.lines.Line.TheVariants as line
use Rattle.own_cert.specs.declared.draft.State.{State}
use Rattle.own_cert.specs.declared.draft.State.TheVariants as at
use Rattle.own_cert.specs.Text.{runs_of, place_lines, instance_lines, lines_of, text_of, line_text}
use Rattle.own_cert.specs.Values.{IsRow, IsInstance, IsCertificate, Has, IsTextOf, IsLine}
use Rattle.own_cert.specs.LineForms.{Says}
use Rattle.own_cert.specs.Drafts.{next}
use Rattle.own_cert.specs.Reading.{certificates, Leads, Wrong}
use Rattle.own_cert.specs.Fault.{BeginsText, Refuses}
use Rattle.own_cert.proofs.LineLemmas.{same_line, line_lone}
use Rattle.own_cert.proofs.RunLemmas.{AreRuns, runs_valid}
use Rattle.own_cert.proofs.DraftLemmas.{walk, goes_through}
use Rattle.own_cert.proofs.ReachLemmas.{HoldsAll, Reached, reaches, begins}

abbrev pub bytes_of : List Line → List ℕ
bytes_of ls = with_line_feeds (map line_text ls)

abbrev pub AreLines : List Line → Type 0
AreLines ls = AllByRecursion IsLine ls

are_append : (ks ls : List Line) → AreLines ks → AreLines ls → AreLines (ks ++ ls)
are_append [] ls hk hl = hl
are_append (k ∷ ks) ls hk hl = (hk.0, are_append ks ls hk.1 hl)

-- the lines of a text are lines
rows_are : (rows : List PlaceBits) → All IsRow rows → AreLines (map line.Place rows)
rows_are [] is = tt
rows_are (row ∷ rows) is = (is 0 row (omega arith), rows_are rows (λ k d h. is (suc k) d (omega arith)))

runs_are : (runs : List Run) → AreRuns runs → AreLines (map line.Places runs)
runs_are [] is = tt
runs_are (run ∷ runs) is = (is.0, runs_are runs is.1)

places_are : (v : Version) (rows : List PlaceBits) → All IsRow rows → AreLines (place_lines v rows)
places_are First rows is = rows_are rows is
places_are Second rows is = runs_are (runs_of rows) (runs_valid rows is)

instances_are : (v : Version) (is : List Instance) → All IsInstance is → AreLines (flat_map (instance_lines v) is)
instances_are v [] each = tt
instances_are v (i ∷ is) each =
    let h : IsInstance i = each 0 i (omega arith) in
    are_append (instance_lines v i) (flat_map (instance_lines v) is) ((h.group, h.entry), (tt, (h.sites, places_are v i.places h.places)))
    (instances_are v is (λ k d l. each (suc k) d (omega arith)))

lines_are : (v : Version) (c : Certificate) → IsCertificate c → AreLines (lines_of v c)
lines_are v c is =
    (tt, (tt, are_append (flat_map (instance_lines v) c.instances) (line.End (length c.instances) ∷ []) (instances_are v c.instances is.each) (is.count, tt)))

abbrev held : Certificate → State → Certificate
held c (at.Done d) = d
held c s = c

-- reading says of certificates' texts what it says of such texts
pub readable : IsReadable certificates
readable = record {
  lone = line_lone;
  one_line = same_line;
  one_value = λ c e same. ap (held c) same;
  are_lines = λ c ls is of. subst AreLines (sym of.2) (lines_are of.0 c is);
  leads = λ c ls of. ap (walk (Some at.Start)) of.2 ∙ goes_through of.0 c of.1;
  begins = λ s ls are leads small.
      let b = begins ls s (omega arith) (led certificates Reached reaches [] ls at.Start s refl are leads) in
      record { value = b.value; is = b.is; others = b.others; lines = (b.version, b.has, sym b.lines) };
  whole = λ c ls are leads small.
      let h : HoldsAll ls c = led certificates Reached reaches [] ls at.Start (at.Done c) refl are leads in
      (record { count = omega (arith, h.count); each = h.each }, (h.version, h.has, h.lines));
}

-- a text in the words of this crate
pub to_text : (c : Certificate) (bs : List ℕ) → of_kind.IsTextOf certificates c bs → IsTextOf c bs
to_text c bs text = (text.1.0, text.1.1, text.2 ∙ ap bytes_of text.1.2)

pub from_text : (c : Certificate) (bs : List ℕ) → IsTextOf c bs → of_kind.IsTextOf certificates c bs
from_text c bs text = (lines_of text.0 c, (text.0, text.1, refl), text.2)

-- a refusal, by its line
pub refuses_at : (bs : List ℕ) (n : ℕ) (e : TextError) → IsFormAt n e → of_kind.IsNoText certificates bs → IsFirstBadLineOf (of_kind.BeginsText certificates) bs n → Refuses bs e
refuses_at bs n error.Memory at none bad = tt
refuses_at bs n (error.Invalid fault) at none bad = (
  at.1,
  λ c is text. none c is (from_text c bs text),
  subst (IsFirstBadLineOf BeginsText bs) (sym at.0)
      (bad_as (of_kind.BeginsText certificates) BeginsText bs n
      (λ cs begins. (begins.0, begins.1, begins.2, to_text begins.0 (cs ++ begins.2) begins.3))
      (λ cs begins. (begins.0, begins.1, begins.2, from_text begins.0 (cs ++ begins.2) begins.3)) bad),
)

-- the bytes are a text, of no other certificate
pub found_text : (bs : List ℕ) (c : Certificate) (n : ℕ) → Gone certificates bs [] (at.Done c) n → n < 2 ^ 64 → IsCertificate c × IsTextOf c bs
found_text bs c n gone small = let h = found certificates readable bs c n gone small in (h.0, to_text c bs h.1)

pub only_text : (bs : List ℕ) (c : Certificate) (n : ℕ) → Gone certificates bs [] (at.Done c) n → (e : Certificate) → IsCertificate e → IsTextOf e bs → e ≡ c
only_text bs c n gone e is text = only certificates readable bs c n gone e is (from_text e bs text)

-- different certificates have different texts
pub same_text : (v w : Version) (c e : Certificate) → Has v c → Has w e → IsCertificate c → IsCertificate e → text_of v c ≡ text_of w e → c ≡ e
same_text v w c e hc he is_c is_e same =
    general.same_text certificates readable c e (text_of v c) is_c is_e (from_text c (text_of v c) (v, hc, refl)) (from_text e (text_of v c) (w, he, same))

-- what a line's bytes lead to
pub step_of : {E : Type 0} (s : State) (bytes : List ℕ) (l : Line) (r : Result (Option State) E) → Says bytes l → IfOk r (λ o. o ≡ next s l) → IfOk r (λ o. MatchOption o (Wrong s bytes) (Leads s bytes))
step_of s bytes l (Ok None) says h = λ m is e. ap (next s) (same_line m l is says.is (sym e ∙ says.text)) ∙ sym h
step_of s bytes l (Ok (Some t)) says h = record { line = l; is = says.is; text = says.text; next = sym h }
step_of s bytes l (Err x) says h = tt

pub shorter : (rest w after : List ℕ) → IsCut rest w after → length after + 1 ≤ length rest
shorter rest w after cut = let l : length rest ≡ length (w ++ 10 ∷ after) = ap length cut.text in omega (arith, l, length-append w (10 ∷ after))

pub nothing_left : (rest : List ℕ) → length rest ≡ 0 → rest ≡ []
nothing_left [] e = refl
nothing_left (b ∷ rest) e = absurd (omega (arith, e))

pub gone_at : (bs rest : List ℕ) (s t : State) (n : ℕ) → Gone certificates bs rest s n → s ≡ t → rest ≡ [] → Gone certificates bs [] t n
gone_at bs rest s t n g es er = subst (λ r. Gone certificates bs r t n) er (subst (λ x. Gone certificates bs rest x n) es g)
