-- The item is one more open container, in a list that goes on or is one more as well.
use Rattle.std.proofs.Common.{◌≡◌, ◌∙◌, arith, sym, ap, rules, true≢false}
use Rattle.markdown_plain.proofs.Names.{BuilderView, is_item, is_list, outer_within, closed_in, with_last, Pass}
use Rattle.std.proofs.lemmas.Result.{IfOk-weaker}
use Rattle.markdown_block_rules.specs.BlockGrowth.{item_container}
use Rattle.markdown_plain.specs.Closable.{MayOpenItem, MayOpenList, by_closing, in_room}
use Rattle.markdown_plain.proofs.ClosableLemmas.{item_outside, no_quote_left, white_both}
use Rattle.markdown_plain.proofs.ClosingDownLemmas.{only_containers, unheld_in}
use Rattle.markdown_plain.proofs.OpenTablesLemmas.{room_is}
use Rattle.markdown_plain.proofs.LeafTreesLemmas.{no_leaf_there}
use Rattle.markdown_plain.proofs.OpenedFramesLemmas.{item_is, plain_is_built}
use Rattle.markdown_plain.proofs.pass.Pass.open_item.Goals.{In_ok-close_down}
use Rattle.markdown_base.specs.declared.item.ItemBody.TheVariants as body
use Rattle.markdown_plain.proofs.pass.Pass.open_item.Goals as goal

pub returns : goal.returns
returns c = IfOk-weaker c.open_block.result _ _ (λ done told.
    let old = c.args.self.now in let closes = c.in_ok-close_down.ensures in let listed = c.in_ok-open_list.ensures in
    let indent = c.args.item.indent in let first = c.step_to.ensures.steps in
    record {
      opens = λ s frames inside last list b may starts is start same.
          let has = listed.opens s (outer_within c.args.depth frames)
          (closed_in c.args.depth frames (with_last inside last))
          list b (only_containers s old c.close_down.new.self c.args.depth frames inside last may closes) starts is
          (ap is_item same) in
          rw has.are (record {
            built = plain_is_built s c.open_list.new.self.placing.builder c.open_block.new.self.builder has.outer
                has.before b c.args.at (item_container indent) (body.ListItem indent) (item_is indent)
                (rw first at told) start same has.listed has.built;
            loose = has.loose;
            lines = ap (λ (p : Pass). p.lines.items) listed.same ∙ closes.ended;
            blanks = ap (λ (p : Pass). p.blanks.items) listed.same
                ∙ closes.unheld (unheld_in s old c.args.depth frames inside last may);
            free = ap is_list same;
          });
      text = ap (λ (v : BuilderView). v.text) told
          ∙ (ap (λ (v : BuilderView). v.text) first ∙ (listed.text ∙ closes.text));
      here = ap (λ (v : BuilderView). v.at) told ∙ ap (λ (v : BuilderView). v.at) first;
      same = search rules;
    }) c.open_block.ensures.opens

-- ---- the calls

-- a list may be opened, or go on, once the containers are closed that the item is not in
may_begin : (c : In_ok-close_down) → MayOpenItem c.args.self.now c.args.depth c.args.at
    → MayOpenList c.close_down.new.self c.args.at
may_begin c (by_closing may) =
    let old = c.args.self.now in let down = c.close_down.new.self in let done = c.in_ok-close_down.ensures in
    let here = done.here may.closable in
    record {
      outside = here.outside;
      ahead = (omega (arith, here.low, may.low), rw done.text may.boundary);
      white = λ none. white_both down.placing.builder.text down.placing.builder.at old.placed c.args.at
          (here.white (no_quote_left down.placing.builder.blocks none))
          (rw done.text (may.white (rw done.are at none)));
      closable = λ list. rw (ap (λ (p : Pass). p.placed) done.same) here;
    }
may_begin c (in_room free may) =
    let old = c.args.self.now in let room = room_is old c.args.depth free in
    let kept : c.close_down.new.self ≡ old = c.in_ok-close_down.ensures.kept room.leaf room.lines room.few in
    rw kept (record {
      outside = no_leaf_there old.placing.builder room.leaf;
      ahead = may.ahead;
      white = λ left. may.white (item_outside _ room.other left);
      closable = λ list. absurd (true≢false (sym list ∙ room.other));
    })

pub open_list-requires : goal.open_list-requires
open_list-requires c = may_begin (goal.at.open_list-requires c).In_ok-close_down c.requires

-- the item is opened in its list
pub step_to-requires : goal.step_to-requires
step_to-requires c =
    let may = may_begin (goal.at.step_to-requires c).In_ok-close_down c.requires in
    let listed = c.in_ok-open_list.ensures.here in
    record {
      ahead = (listed.low, rw c.in_ok-open_list.ensures.text may.ahead.1);
      white = λ none. absurd (listed.some none);
    }

pub open_block-requires-clause-outside : goal.open_block-requires-clause-outside
open_block-requires-clause-outside c =
    ap (λ (b : BuilderView). b.leaf) c.step_to.ensures.steps ∙ c.in_ok-open_list.ensures.here.outside
