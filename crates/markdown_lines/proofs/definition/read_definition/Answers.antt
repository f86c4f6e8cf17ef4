-- A label, and what follows it.
use Rattle.std.proofs.Common.{◌∙◌, ◌+◌, ◌<◌, ◌^◌, sym, ap, arith, subst, List, Option, Some, IfSome, false, drop}
use Rattle.std.proofs.Common.{refl}
use Rattle.std.proofs.lemmas.Option.{slice_get_within}
use Rattle.std.specs.Option.{option_map}
use Rattle.markdown_base.specs.CowText.{text_of}
use Rattle.markdown_scan.specs.Unescape.{unescaped}
use Rattle.markdown_lines.specs.HeldLabels.{IsLabelRead}
use Rattle.markdown_lines.specs.HeldLines.{AreLinesOfSource, IsBracketPlace, held_text}
use Rattle.markdown_lines.specs.HeldTitles.{IsTitle, defined_by, title_between}
use Rattle.markdown_lines.specs.SourceLines.{SourceLine}
use Rattle.markdown_lines.specs.declared.definition.Label.{Label}
use Rattle.markdown_lines.specs.declared.definition.Spot.{Spot}
use Rattle.markdown_lines.proofs.HeldDefinitionsLemmas.{definition_there, no_label, nothing_follows}
use Rattle.markdown_lines.proofs.definition.read_definition.Goals.{in-None}
use Rattle.markdown_lines.proofs.definition.read_definition.Goals.{in-Some-title+in_ok-title_text-in-Some-title}
use Rattle.markdown_lines.proofs.definition.read_definition.Goals as goal

pub returns-in_default : goal.returns-in_default
returns-in_default c =
    λ (sources : List SourceLine) (same : AreLinesOfSource c.args.lines.now sources)
    (bracket : IsBracketPlace c.args.text.now c.args.lines.now c.args.at).
    let bytes = drop 1 (held_text c.args.text.now c.args.lines.now) in
    no_label c.args.names c.args.text.now c.args.lines.now sources c.args.at
    (subst (λ (found : Option Label). IsLabelRead bytes found) c.in_default.is (c.in_ok-label.ensures.value bracket))
    same bracket

pub returns-in_default-after_label : goal.returns-in_default-after_label
returns-in_default-after_label c =
    λ (sources : List SourceLine) (same : AreLinesOfSource c.args.lines.now sources)
    (bracket : IsBracketPlace c.args.text.now c.args.lines.now c.args.at).
    let bytes = drop 1 (held_text c.args.text.now c.args.lines.now) in
    let read = subst (λ (found : Option Label). IsLabelRead bytes found) c.in-Some.is
    (c.in_ok-label.ensures.value bracket) in
    let fits = subst (λ (found : Option Label). IfSome found (λ label. label.length + 1 < 2 ^ 64)) c.in-Some.is
    c.in_ok-label.ensures.fits in
    nothing_follows c.args.names c.args.text.now c.args.lines.now sources c.args.at c.in-Some.label read
    (c.in_default-after_label.ensures.value c.args.names (text_of c.in-Some.label.text) fits bracket.held) same bracket

pub returns : goal.returns
returns c =
    λ (sources : List SourceLine) (same : AreLinesOfSource c.args.lines.now sources)
    (bracket : IsBracketPlace c.args.text.now c.args.lines.now c.args.at).
    let text = c.args.text.now in
    let lines = c.args.lines.now in
    let names = c.args.names in
    let tail = c.in-Some-after_label.tail in
    let bytes = drop 1 (held_text text lines) in
    let read = subst (λ (found : Option Label). IsLabelRead bytes found) c.in-Some.is
    (c.in_ok-label.ensures.value bracket) in
    let fits = subst (λ (found : Option Label). IfSome found (λ label. label.length + 1 < 2 ^ 64)) c.in-Some.is
    c.in_ok-label.ensures.fits in
    let ends = c.in-Some-after_label.ensures.ends fits bracket.held in
    let within = slice_get_within lines tail.end.line ends.ends.place.line ends.ends.place.there in
    let span = definition_there names text lines sources c.args.at c.saturating_add.result c.in-Some.label
    c.in-Some-after_label.destination tail read
    (c.in-Some-after_label.ensures.value names (text_of c.in-Some.label.text) fits bracket.held) ends
    (omega (arith, within, c.saturating_add.ensures)) same bracket in
    record {
      defined = defined_by text lines names (text_of c.in-Some.label.text) (c.in-Some-after_label.destination, tail);
      is = span.is;
      label = refl;
      destination = c.in_ok-destination.ensures.value;
      title = elim c.match-tail.branch [
        | in-Some-title+in_ok-title_text-in-Some-title w ↦
            let title = subst (λ (t : Option Spot). IfSome t (λ opening. IsTitle text lines opening tail.end))
            w.in-Some-title.is ends.title in
            ap (option_map text_of) w.title-is
            ∙ (ap Some (w.in_ok-title_text-in-Some-title.ensures title)
            ∙ ap (option_map (λ (opening : Spot). unescaped names false (title_between text lines opening tail.end)))
            (sym w.in-Some-title.is))
        | in-None w ↦ ap (option_map text_of) w.title-is
            ∙ ap (option_map (λ (opening : Spot). unescaped names false (title_between text lines opening tail.end)))
            (sym w.in-None.is)
      ];
      start = span.start;
      end = span.end_is;
      behind = span.behind;
      lines = (span.some, span.few);
    }
