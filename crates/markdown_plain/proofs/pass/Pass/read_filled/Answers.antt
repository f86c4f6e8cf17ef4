-- The line is text, the delimiter row of a table, or what is left of it is read turn by turn.
use Rattle.std.proofs.Common.{◌≡◌, ◌∙◌, List, ℕ, ap, false, refl, subst}
use Rattle.markdown_plain.proofs.Names.{Source, with_line, Pass, LineRest, Line, first, blocks_before, reached_of}
use Rattle.markdown_plain.proofs.Names.{PlacesFor, IsTextFrom}
use Rattle.std.specs.Str.{IsUtf8}
use Rattle.std.proofs.lemmas.Result.{IfOk-weaker}
use Rattle.markdown_plain.specs.declared.containers.Reached as code
use Rattle.markdown_plain.specs.Beginning.{IsMadeOf, MayRead}
use Rattle.markdown_plain.specs.Readable.{IsNoDelimiterRow, MayReadAsText, MayReadRest}
use Rattle.markdown_plain.proofs.TurnsLemmas.{first_turn}
use Rattle.markdown_plain.proofs.ReadyLinesLemmas.{stop_read}
use Rattle.markdown_plain.proofs.TextReachedLemmas.{text_reached}
use Rattle.markdown_plain.proofs.ReadyTextsLemmas.{text_untabled}
use Rattle.markdown_plain.proofs.pass.Pass.read_filled.Goals.{then-not-branch+in_ok-read_rest, else-not-branch}
use Rattle.markdown_plain.proofs.pass.Pass.read_filled.Goals as goal

-- the line may be read as text, where its first byte shows that it is
abbrev as_text : {pass : Pass} {line : Line} {found : code.Reached}
    → IsTextFrom pass.placing.builder.text found.position line.stop → IsUtf8 pass.placing.builder.text
    → MayReadRest pass line found false → MayReadAsText pass line found.position.at found.depth
as_text {pass} {line} {found} shows utf8 may = record {
  s = may.s;
  before = may.before;
  source = may.source;
  stands = may.by.stands;
  is = may.by.is;
  here = text_reached may.s pass line found may.before may.source utf8 may.by shows may.off;
  untabled = text_untabled may.s pass line found may.before may.source may.by shows;
}

pub returns-then-is_text_from-clause-reads : goal.returns-then-is_text_from-clause-reads
returns-then-is_text_from-clause-reads c =
    IfOk-weaker c.read_text_line.result _ _ (λ done told. record {
      stands = λ may. told.stands (as_text (rw (← c.text.ensures) (c.is_text_from.ensures c.if-is_text_from.true))
          (rw (← c.text.ensures) c.text.utf8) may);
      tables = told.tables;
    }) c.read_text_line.ensures

pub read_text_line-requires : goal.read_text_line-requires
read_text_line-requires c =
    as_text (rw (← c.text.ensures) (c.is_text_from.ensures c.if-is_text_from.true))
    (rw (← c.text.ensures) c.text.utf8) c.requires.may

-- what is read turn by turn, where the line is none
abbrev as_turns : {old now : Pass} {line : Line} {found : code.Reached} {rest : LineRest} {text : List ℕ}
    → IsUtf8 old.placing.builder.text → IsNoDelimiterRow old line found now → rest.line ≡ line
    → ((s : Source) → text ≡ s.text → IsMadeOf s now found rest) → text ≡ old.placing.builder.text
    → MayReadRest old line found false → MayRead now rest
as_turns {old} {now} {line} {found} {rest} utf8 none own made same may =
    let s = may.s in let before = may.before in let source = may.source in
    record {
      s = s;
      turn = first before source;
      source = (reached_of s before source).rest;
      blocks = with_line s (blocks_before before) source;
      here = first_turn s old now found before source rest none.same utf8 (rw own (none.untabled may)) (rw own may.by)
          (made s (same ∙ ap (λ (s : Source). s.text) may.by.stands.source)) may.left may.off;
    }

pub returns-clause-reads : goal.returns-clause-reads
returns-clause-reads c = record {
  stands = λ may.
      let blocks = with_line may.s (blocks_before may.before) may.source in
      let done : PlacesFor may.s c.if-not-branch.self c.args.line.next blocks =
      elim c.if-not-branch.branch [
        | then-not-branch+in_ok-read_rest w ↦
            let read = w.in_ok-read_rest.ensures.begun (as_turns (subst IsUtf8 c.text.ensures c.text.utf8)
            (c.in_ok-read_delimiter_row.ensures.none w.if-not-branch.true) w.rest_of-rest.ensures.line
            w.rest_of-rest.ensures.made c.requires.text may) in
            rw (w.self-is, ← w.rest_of-rest.ensures.line) read
        | else-not-branch w ↦
            rw w.self-is ((c.in_ok-read_delimiter_row.ensures.row w.if-not-branch.false).places may)
      ] in
      c.see_content.ensures.stands may.s blocks done;
  tables =
      let now : c.if-not-branch.self.tables ≡ c.args.self.now.tables =
      elim c.if-not-branch.branch [
        | then-not-branch+in_ok-read_rest w ↦
            ap (λ (p : Pass). p.tables) w.self-is ∙ (w.in_ok-read_rest.ensures.tables
            ∙ ap (λ (p : Pass). p.tables) (c.in_ok-read_delimiter_row.ensures.none w.if-not-branch.true).same)
        | else-not-branch w ↦
            ap (λ (p : Pass). p.tables) w.self-is
            ∙ (c.in_ok-read_delimiter_row.ensures.row w.if-not-branch.false).tables
      ] in
      c.see_content.ensures.tables ∙ now;
}

pub read_rest-requires : goal.read_rest-requires
read_rest-requires c =
    as_turns (subst IsUtf8 c.text.ensures c.text.utf8)
    (c.in_ok-read_delimiter_row.ensures.none c.if-not-branch.true) c.rest_of-rest.ensures.line
    c.rest_of-rest.ensures.made c.requires.text c.requires.may

pub rest_of-rest-requires : goal.rest_of-rest-requires
rest_of-rest-requires c = stop_read c.args.self.now c.args.line c.requires.text refl c.requires.may.by.is.from
