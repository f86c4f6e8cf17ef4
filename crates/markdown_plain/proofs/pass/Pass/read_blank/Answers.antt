-- The containers that the line does not reach are closed, or it is held back as a line of indented code.
use Rattle.std.proofs.Common.{◌≡◌, ◌∙◌, ℕ, true, sym, ap, rules, true≢false, slice_range}
use Rattle.markdown_plain.proofs.Names.{with_line, list_all, LineLeft, is_space_or_tab, are_none, blocks_before}
use Rattle.markdown_plain.proofs.Names.{reached_of}
use Rattle.markdown_plain.specs.Readable.{MayReadRest}
use Rattle.markdown_plain.specs.Standing.{StandsFor}
use Rattle.markdown_plain.proofs.BlankStandingLemmas.{blank_seen, blank_stands, code_stands, none_inside}
use Rattle.markdown_plain.proofs.ReadyLinesLemmas.{SeesBlank, line_fits_after, place_reached}
use Rattle.markdown_plain.proofs.pass.Pass.read_blank.Goals.{then-in_code+then-reached+in_ok-hold_blank, in-Indented}
use Rattle.markdown_plain.proofs.pass.Pass.read_blank.Goals.{else-in_code-via-then-in_code+else-reached, in_default}
use Rattle.markdown_plain.proofs.pass.Pass.read_blank.Goals.{else-in_code+in_ok-close_down}
use Rattle.markdown_plain.proofs.pass.Pass.read_blank.Goals.{else-in_code-via-else-in_code}
use Rattle.markdown_plain.specs.declared.pass.LeafKind.TheVariants as leaf
use Rattle.markdown_plain.proofs.pass.Pass.read_blank.Goals as goal

-- whether indented code is open
abbrev InCode : goal.After-see_blank → Type 0
InCode c = (c.args.self.now.leaf ≡ leaf.Indented) × (c.args.self.now.placing.builder.leaf ≡ true)

in_code : (c : goal.After-see_blank) → (c.match-self.in_code ≡ true → InCode c)
    × (InCode c → c.match-self.in_code ≡ true)
in_code c =
    elim c.match-self.branch [
      | in-Indented w ↦
          (λ is. (search rules, search rules), λ code. w.in_code-is ∙ (w.is_in_leaf-in_code.ensures ∙ code.1))
      | in_default w ↦
          (λ is. absurd (true≢false (sym is ∙ w.in_code-is)), λ code. absurd (w.in_default.not-Indented code.0))
    ]

seen : (c : goal.After-see_blank) (may : MayReadRest c.args.self.now c.args.line c.args.reached true)
    (placed : ℕ) → SeesBlank c.args.self.now c.args.line may.source placed
    → StandsFor may.s (blank_seen c.if-in_code.self c.args.reached.quoted placed) c.args.line.next
    (with_line may.s (blocks_before may.before) may.source)
seen c may placed sees =
    let old = c.args.self.now in let before = may.before in let by = may.by in
    let r = reached_of may.s before may.source in
    elim c.if-in_code.branch [
      | then-in_code+then-reached+in_ok-hold_blank w ↦
          let code = (in_code c).0 w.if-in_code.true in let held = w.in_ok-hold_blank.ensures in
          let place = place_reached may.s old c.args.line c.args.reached before may.source by in
          rw (w.self-is ∙ held.same) (code_stands may.s old w.hold_blank.new.self c.args.line c.args.reached
          before.frames before.inside before.last may.source placed by may.left
          (none_inside r.inner (sym by.reaches.all ∙ w.if-reached.true)) code.0 code.1
          (λ sources are. held.source sources r.rest are by.reaches.rest) sees
          (held.fits (line_fits_after old c.args.line c.args.reached.position.at by.stands.ready code.1 place)
          place.high place.ends))
      | else-in_code+in_ok-close_down w ↦
          rw w.self-is (blank_stands may.s old w.close_down.new.self c.args.line c.args.reached before may.source
          placed by may.left may.off (λ none how there.
          elim w.else-in_code.branch [
            | else-in_code-via-then-in_code+else-reached v ↦
                true≢false (sym (by.reaches.all ∙ ap are_none none) ∙ v.if-reached.false)
            | else-in_code-via-else-in_code v ↦ true≢false (sym ((in_code c).1 (how, there)) ∙ v.if-in_code.false)
          ]) w.in_ok-close_down.ensures sees)
    ]

pub returns : goal.returns
returns c = record {
  stands = λ may.
      let text : c.if-in_code.self.placing.builder.text ≡ c.args.self.now.placing.builder.text = search rules in
      let before : c.if-in_code.self.placed ≡ c.args.self.now.placed = search rules in
      let white = ap (λ t. list_all is_space_or_tab (slice_range t c.args.line.start c.args.line.stop)) text
      ∙ ap (λ (left : LineLeft). list_all is_space_or_tab left.bytes) may.by.is.left in
      rw c.see_blank.ensures.same (seen c may c.see_blank.new.self.placed (record {
        moves = λ some. c.see_blank.ensures.placed (white ∙ some);
        stays = λ all. c.see_blank.ensures.stays (white ∙ all) ∙ before;
      }));
  tables = search rules;
}
