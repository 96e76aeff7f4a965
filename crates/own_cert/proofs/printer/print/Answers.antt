use Rattle.std.proofs.Common.{◌≡◌, ◌++◌, ◌∷◌, [], ◌∙◌, length, take, codes, decimal, subst, sym, ap, arith, rules, get_or}
use Rattle.std.proofs.lemmas.List.{take_all}
use Rattle.std.proofs.lemmas.List.Elements.{All-more}
use Rattle.std.specs.List.{All}
use Rattle.own_cert.specs.declared.lines.Line.TheVariants as line
use Rattle.own_cert.specs.Text.{header_text, instance_lines, printed_version}
use Rattle.own_cert.specs.Values.{IsInstance}
use Rattle.own_cert.specs.LineForms.{words_text}
use Rattle.own_cert.proofs.ReadLemmas.{bytes_of, same_text}
use Rattle.own_cert.proofs.RunLemmas.{runs_apart}
use Rattle.own_cert.proofs.PrintLemmas.{front_put, instance_put, whole_put, has_printed}
use Rattle.own_cert.proofs.printer.print.Goals as goal

pub loop-instance-init : goal.loop-instance-init
loop-instance-init c =
    let v = c.printed_version-version.result in
    let phi = c.args.value.now.phi in
    let out = c.put_header.new.out.items in
    let new = c.put_line.new.out.items in
    let header : out ≡ header_text v ++ codes "\n" = search rules in
    let added : new ≡ out ++ words_text (codes "phi") [] phi = search rules in
    record { text = front_put v phi out new header added; each = λ k d h. absurd (omega arith) }

pub loop-instance-preserved : goal.loop-instance-preserved
loop-instance-preserved c =
    let l = c.loop-instance in
    let v = c.printed_version-version.result in
    let is = c.deref-instance-items.result.now in
    let i = c.instance-item.result in
    let new = c.put_instance.new.out.items in
    let added : new ≡ l.out.items ++ bytes_of (instance_lines v i) = search rules in
    let one : IsInstance i = search rules in
    record {
      text = instance_put v is l.instance-index i (line.Header v ∷ line.Phi c.args.value.now.phi ∷ []) l.out.items new c.loop-instance-test.true c.instance-item.is l.invariant.text added;
      each = All-more IsInstance is l.instance-index i c.loop-instance-test.true l.invariant.each (subst IsInstance c.instance-item.is one);
    }

pub returns-clause-text : goal.returns-clause-text
returns-clause-text c =
    let l = c.loop-instance in
    let value = c.args.value.now in
    let v = c.printed_version-version.result in
    let is = c.deref-instance-items.result.now in
    let new = c.put_end.new.out.items in
    let count = c.len.result in
    let all : is ≡ value.instances = search rules in
    let counted : count ≡ length value.instances = search rules in
    let added : new ≡ l.out.items ++ (codes "end " ++ (decimal count ++ codes "\n")) = search rules in
    whole_put value v is l.instance-index count l.out.items new c.printed_version-version.ensures all (omega (arith, c.loop-instance-test.false)) l.invariant.text (counted ∙ sym (ap length all)) added

pub returns-clause-whole : goal.returns-clause-whole
returns-clause-whole c =
    let l = c.loop-instance in
    let value = c.args.value.now in
    let is = c.deref-instance-items.result.now in
    let all : is ≡ value.instances = search rules in
    let counted : c.len.result ≡ length value.instances = search rules in
    let same : take l.instance-index is ≡ value.instances = take_all l.instance-index is (omega (arith, c.loop-instance-test.false)) ∙ all in
    record { count = omega (arith, counted, c.len.type_inv); each = subst (All IsInstance) same l.invariant.each }

pub returns-clause-alone : goal.returns-clause-alone
returns-clause-alone c =
    λ other whole mine same. same_text (printed_version other) (printed_version c.args.value.now) other c.args.value.now (has_printed other) (has_printed c.args.value.now) whole mine same

pub returns-clause-longest : goal.returns-clause-longest
returns-clause-longest c = λ k d low. runs_apart (get_or c.args.value.now.instances k d).places
