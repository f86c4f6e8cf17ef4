-- The paragraph that may follow the alert's marker is the block inside it.
use Rattle.std.proofs.Common.{◌≡◌, ◌∙◌, ◌∷◌, [], List, length, arith, refl, rules, sym, ap, true≢false}
use Rattle.markdown_plain.proofs.Names.{nil, BuilderView, HasRoom, MayBegin, Frame, MayOpen, with_frame, source_of}
use Rattle.markdown_plain.proofs.Names.{IsBuilt, held_line, Pass}
use Rattle.markdown_plain.specs.Beginning.{MayBeginBlock}
use Rattle.markdown_plain.proofs.FoundBlocksLemmas.{begun_block, begun_in_room, keeps_leaf, source_kept, still_may}
use Rattle.markdown_plain.proofs.FoundPlacesLemmas.{left_content}
use Rattle.markdown_plain.proofs.BegunContainersLemmas.{content_before, in_line_more, line_in_room, opened_in}
use Rattle.markdown_plain.proofs.BegunLeavesLemmas.{end_begins}
use Rattle.markdown_plain.proofs.ClosableLemmas.{no_paragraph}
use Rattle.markdown_plain.proofs.ClosingDownLemmas.{room_here}
use Rattle.markdown_plain.proofs.OpenedFramesLemmas.{as_many_containers}
use Rattle.markdown_plain.proofs.OpenTablesLemmas.{room_inside}
use Rattle.markdown_plain.proofs.ReadyLinesLemmas.{no_frames}
use Rattle.markdown_plain.proofs.ReadyTextsLemmas.{line_in_text}
use Rattle.markdown_plain.proofs.TurnsLemmas.{text_begun, text_ready}
use Rattle.markdown_plain.proofs.pass.Pass.read_alert.Goals.{In_ok-open_quote}
use Rattle.markdown_lines.specs.BlockBeginnings as line
use Rattle.markdown_lines.specs.declared.block_start.BlockStart.TheVariants as start
use Rattle.markdown_block_rules.specs.BlockGrowth as was
use Rattle.markdown_plain.proofs.pass.Pass.read_alert.Goals as goal

-- the alert was opened where there was room for it, and nothing is in it
record IsAlert (c : In_ok-open_quote)
    (may : MayBeginBlock c.args.self.now c.args.rest.now c.args.at (start.Alert c.args.kind)) : Type 0 where
  room : HasRoom may.s c.make_room_for.new.self c.args.rest.now may.source (line.begins_alert c.args.kind) may.blocks
  source : source_of c.open_quote.new.self ≡ may.s
  opened : MayOpen may.s c.open_quote.new.self
      (with_frame room.frames room.inside (begun_block may.source (was.alert_container c.args.kind)))

is_alert : (c : In_ok-open_quote)
    (may : MayBeginBlock c.args.self.now c.args.rest.now c.args.at (start.Alert c.args.kind)) → IsAlert c may
is_alert c may =
    let quote = c.open_quote.new.self in let alert = begun_block may.source (was.alert_container c.args.kind) in
    let room = c.in_ok-make_room_for.ensures.room _ _ _ may refl tt in
    let after = still_may may.s c.make_room_for.new.self quote c.args.rest.now.line room.frames room.inside room.may
    (keeps_leaf c.make_room_for.new.self quote c.open_quote.ensures.same c.in_ok-open_quote.ensures.text) in
    record {
      room = room;
      source = after.source;
      opened = opened_in may.s quote c.args.rest.now.line room.frames room.inside alert after
          (c.in_ok-open_quote.ensures.frame may.s room.frames room.inside alert room.built room.free
          (sym may.found.begins) refl) (record { filled = refl; free = refl; empty = refl });
    }

pub returns : goal.returns
returns c = record {
  begun = λ may.
      let s = may.s in let source = may.source in let quote = c.open_quote.new.self in
      let now = c.add_text.new.self in let rest = c.args.rest.now in let kind = was.alert_container c.args.kind in
      let alert = is_alert (goal.at.returns c).In_ok-open_quote may in let room = alert.room in
      let inner = with_frame room.frames room.inside (begun_block source kind) in
      let deep = c.depth.ensures ∙ as_many_containers s quote.placing.builder inner nil alert.opened.built in
      let begun = c.in_ok-add_text.ensures.begins (no_paragraph quote alert.opened.lines) in
      let there = room_here s quote begun.mid c.depth.result inner begun.room alert.opened deep in
      let kept = begun.room.kept (room_inside s quote inner c.depth.result alert.opened deep) in
      let more = in_line_more kind room.frames room.inside room.left room.filled (line_in_room room) in
      let lines : now.lines.items ≡ held_line rest.line rest.line.stop ∷ [] =
      rw (no_paragraph quote alert.opened.lines) at c.in_ok-add_text.ensures.lines in
      let same = ap (λ (p : Pass). p.placing) begun.same in
      let built : IsBuilt s now.placing.builder inner nil = rw same there.built in
      let at = ap (λ (p : Pass). p.placing.builder.at) begun.same ∙ (ap (λ (p : Pass). p.placing.builder.at) kept
      ∙ (ap (λ (b : BuilderView). b.at) c.in_ok-open_quote.ensures.opens ∙ may.found.begins)) in
      let begins = end_begins s.text rest.position rest.line source room.left.is room.filled in
      let content = left_content s rest source c.args.at room.left room.filled may.found.begins in
      let held = line_in_text s.text rest.line source c.args.at content room.left.from room.left.utf8 in
      let of = source_kept s quote begun.mid begun.room.text (ap (λ (p : Pass). p.syntax) begun.room.same)
      alert.source in
      let may_begin : MayBegin s begun.mid rest.line inner nil = assumption (of, there, more) in
      text_begun may_begin there.built begun.same lines begun.task begins (begun_in_room room) room.items
      (text_ready now built lines begun.task begins.inside
      (record { content = omega arith; ending = held.ending; start = held.stop; stop = held.stop; next = held.next })
      room.left.from (omega (arith, at, content_before source.left room.filled, room.left.is.stop)) (λ none.
      let alone = no_frames now.placing.builder.texts now.placing.builder.blocks inner built.blocks none in
      absurd (omega (arith, ap (λ (fs : List Frame). length fs) alone))));
  tables = search rules;
}

pub open_quote-requires-clause-step : goal.open_quote-requires-clause-step
open_quote-requires-clause-step c =
    rw c.requires.found.begins (c.in_ok-make_room_for.ensures.room _ _ _ c.requires refl tt).ready

pub open_quote-requires-clause-outside : goal.open_quote-requires-clause-outside
open_quote-requires-clause-outside c = (c.in_ok-make_room_for.ensures.room _ _ _ c.requires refl tt).built.outside

-- nothing is closed inside the alert
pub add_text-requires : goal.add_text-requires
add_text-requires c = λ none.
    let may = c.requires in let quote = c.open_quote.new.self in
    let alert = is_alert (goal.at.add_text-requires c).In_ok-open_quote may in
    absurd (true≢false (sym (room_inside may.s quote _ c.depth.result alert.opened
    (c.depth.ensures ∙ as_many_containers may.s quote.placing.builder _ nil alert.opened.built)) ∙ none))
