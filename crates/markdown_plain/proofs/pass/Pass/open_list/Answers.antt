-- The list goes on, or is one more open container.
use Rattle.std.proofs.Common.{ap, arith, Bool, ℕ, if◌then◌else◌, length, ◌≡◌, ◌∙◌, ◌∷◌, List, Option, Some, None, refl}
use Rattle.std.proofs.Common.{sym, subst, rules, true, false}
use Rattle.markdown_plain.proofs.Names.{option_map_or, ItemBody, Forest, nil, BuilderView, Opens, innermost_block}
use Rattle.markdown_plain.proofs.Names.{OpenBlock, Source, Block, AreNested, Frame, innermost_is, is_item, is_list}
use Rattle.markdown_plain.proofs.Names.{room_depth, outer_within, closed_in, with_frame, between, AreOpen, BlanksKnown}
use Rattle.markdown_plain.proofs.Names.{IsLooseAs, ListMarker, Looseness, Pass, same_Some, nat_tests}
use Rattle.std.proofs.lemmas.Bool.{true≢false}
use Rattle.std.proofs.lemmas.Result.{IfOk-weaker}
use Rattle.markdown_base.specs.declared.item.ItemBody.TheVariants as body
use Rattle.markdown_block_rules.specs.BlockGrowth.{list_container}
use Rattle.markdown_plain.specs.OpenedFrames.{with_list}
use Rattle.markdown_plain.specs.OpenBlocks.{is_list_of}
use Rattle.markdown_plain.specs.OpenBlocks as own
use Rattle.markdown_plain.specs.PassSteps.{HasList, HasOnly, opened}
use Rattle.markdown_plain.proofs.FramesLemmas.{all_within}
use Rattle.std.specs.Option.{option_map}
use Rattle.markdown_plain.proofs.ClosingDownLemmas.{ClosesList, looseness_begins, closed_list, keeps_rest, list_cleared}
use Rattle.markdown_plain.proofs.ClosingDownLemmas.{built_only, no_list}
use Rattle.markdown_plain.proofs.ReadyLinesLemmas.{some_opened}
use Rattle.markdown_plain.proofs.OpenedFramesLemmas.{list_for_item, list_goes_on, list_innermost, list_is}
use Rattle.markdown_plain.proofs.OpenedFramesLemmas.{plain_is_built}
use Rattle.markdown_plain.proofs.pass.Pass.open_list.Goals.{in-Some-List+else-character-marker, After-add_block}
use Rattle.markdown_plain.proofs.pass.Pass.open_list.Goals.{in-Some+in-MaybeEmphasis-1, in-None-1}
use Rattle.markdown_plain.proofs.pass.Pass.open_list.Goals as goal

-- an item more in the list that goes on
goes_on : (s : Source) (old : Pass) (new : Looseness) (marker : ListMarker) (frames : List Frame)
    (inside : Forest Block)
    (list item : Block) → own.innermost_is (is_list_of marker.character) old.placing.builder.blocks ≡ true
    → own.innermost_is own.is_list old.placing.builder.blocks ≡ true
    → ((texts : List (List ℕ)) (fs : List Frame) (below : Forest Block) → AreOpen texts old.placing.builder.blocks fs
    → AreNested fs → innermost_is is_list fs ≡ true → IsLooseAs old.looseness fs below
    → BlanksKnown old.looseness.blank_from fs below → is_item item.kind ≡ true
    → IsLooseAs new (record { before = below; block = item } ∷ fs) nil)
    → HasOnly s old frames inside → is_item item.kind ≡ true
    → HasList s (record old { looseness = new }) marker list item frames inside
goes_on s old new marker frames inside list item goes listed adds (between may known) items =
    let view = old.placing.builder in
    let there = sym (list_goes_on marker s view frames inside may.stands.built) ∙ goes in
    record {
      outer = frames;
      before = inside;
      are = ap (λ (test : Bool). if test then with_frame frames inside item
          else with_frame (with_list list frames inside) nil item) there;
      built = may.stands.built;
      listed = list_for_item marker frames there;
      loose = adds view.texts frames inside may.stands.built.blocks may.stands.built.nested
          (list_for_item marker frames there) may.loose known items;
    }
goes_on s old new marker frames inside list item goes listed adds (opened may none) items =
    absurd (true≢false (sym listed ∙ (list_innermost s old.placing.builder frames nil may.built ∙ may.free)))

-- a test of the innermost block's body
body_tests : (test : ItemBody → Bool) (found : Option OpenBlock) (b : ItemBody)
    → Some b ≡ option_map (λ (block : OpenBlock). block.body) found
    → option_map_or (λ (block : OpenBlock). test block.body) found false ≡ test b
body_tests test None b is = cc (is)
body_tests test (Some block) b is = ap test (sym (same_Some b block.body is))

pub returns-then-character-marker-clause-opens : goal.returns-then-character-marker-clause-opens
returns-then-character-marker-clause-opens c = λ s frames inside list item only starts is items.
    goes_on s c.args.self.now c.add_item.new.self c.args.marker frames inside list item
    (body_tests (is_list_of c.args.marker.character) _ _ c.in-Some-List.ensures
    ∙ rw (c.in-Some-List.field-0-is, c.if-character-marker.true) (grind (arith, nat_tests))) (search rules)
    (λ texts fs below these. c.add_item.ensures.begins texts fs below item (rw c.open_blocks.ensures these)) only items

-- the innermost open block is no list with this character
other : (c : goal.After-open_list)
    → own.innermost_is (is_list_of c.args.marker.character) c.args.self.now.placing.builder.blocks ≡ false
other c = search rules

-- a list in the way was closed
cleared : (c : After-add_block) → ClosesList c.args.self.now c.match-innermost.self
cleared c =
    elim c.match-innermost.branch [
      | in-Some-List+else-character-marker w ↦ rw w.self-is (closed_list (search rules) w.close_block.ensures)
      | in-Some+in-MaybeEmphasis-1 w ↦ no_list (search rules) w.self-is
      | in-None-1 w ↦ no_list (search rules) w.self-is
    ]

-- a list is no block quote
no_quote : (found : Option OpenBlock) → option_map_or (λ (block : OpenBlock). own.is_list block.body) found false ≡ true
    → option_map_or (λ (block : OpenBlock). own.is_quote block.body) found false ≡ false
no_quote None list = refl
no_quote (Some block) list = first block.body list
  where
    first : (b : ItemBody) → own.is_list b ≡ true → own.is_quote b ≡ false
    first (body.List tight character number) list = refl
    first b list = absurd (true≢false (sym list))

-- which leaves the place as it is
record IsCleared (old now : Pass) : Type 0 where
  at : now.placing.builder.at ≡ old.placing.builder.at
  blocks : now.placing.builder.blocks ≡ own.without_list old.placing.builder.blocks
  leaf : now.placing.builder.leaf ≡ false

is_cleared : (old now : Pass) → old.placing.builder.leaf ≡ false → ClosesList old now → IsCleared old now
is_cleared old now outside (closed_list list closes) = record {
  at = ap (λ (v : BuilderView). v.at) closes.closes
      ∙ ap (λ (test : Bool). if test then old.placed else old.placing.builder.at)
      (no_quote (innermost_block old.placing.builder.blocks) list);
  blocks = ap (λ (v : BuilderView). v.blocks) closes.closes
      ∙ sym (ap (λ (test : Bool). if test then own.outer_of old.placing.builder.blocks
      else old.placing.builder.blocks) list);
  leaf = ap (λ (v : BuilderView). v.leaf) closes.closes;
}
is_cleared old now outside (no_list none same) =
    rw same (record {
      at = refl;
      blocks = sym (ap (λ (test : Bool). if test then own.outer_of old.placing.builder.blocks
          else old.placing.builder.blocks) none);
      leaf = outside;
    })

pub step_to-requires : goal.step_to-requires
step_to-requires c =
    let old = c.args.self.now in let list = cleared (goal.at.step_to-requires c).After-add_block in
    let is = is_cleared old c.match-innermost.self c.requires.outside list in
    let text = (keeps_rest old c.match-innermost.self list).text in
    record {
      ahead = (rw is.at c.requires.ahead.0, rw text c.requires.ahead.1);
      white = λ none. rw (text, is.at) (c.requires.white (sym is.blocks ∙ none));
    }

pub returns-clause-here : goal.returns-clause-here
returns-clause-here c =
    IfOk-weaker c.open_list.result _ _ (λ done read.
    let opens = c.in_ok-open_block.ensures.opens in let at = ap (λ (v : BuilderView). v.at) c.step_to.ensures.steps in
    let now = ap (λ (v : BuilderView). v.at) opens in
    record {
      outside = ap (λ (v : BuilderView). v.leaf) opens;
      some = some_opened c.open_block.new.self.builder.blocks c.step_to.new.self.builder.blocks _
          (ap (λ (v : BuilderView). v.blocks) opens);
      low = omega (arith, at, now);
    }) c.open_list.ensures.same

pub returns-clause-opens : goal.returns-clause-opens
returns-clause-opens c =
    IfOk-weaker c.open_list.result _ _ (λ done begins s frames inside list item only starts is items.
    let old = c.args.self.now in let now = c.match-innermost.self in let marker = c.args.marker in
    let n = room_depth (length frames) frames in let outer = outer_within n frames in
    let before = closed_in n frames inside in let built = built_only s old frames inside only in
    let none = sym (list_goes_on marker s old.placing.builder frames inside built) ∙ other c in
    let first : ItemBody = body.List true marker.character marker.first in
    let is_kind : is_list list.kind ≡ true = ap is_list is in
    let place = cleared (goal.at.returns-clause-opens c).After-add_block in
    let all = all_within frames (length frames) (omega arith) in
    let free = list_cleared s old now (length frames) frames inside (omega arith) built.nested
    (rw (all.0, all.1) only) place in
    let adds = looseness_begins s now c.add_block.new.self outer before
    (λ texts fs below these. c.add_block.ensures.begins texts fs below (rw c.open_blocks-2.ensures these)) free in
    record {
      outer = with_frame outer before list;
      before = nil;
      are = ap (λ (test : Bool). if test then with_frame frames inside item
          else with_frame (with_list list frames inside) nil item) none;
      built = plain_is_built s now.placing.builder c.open_block.new.self.builder outer before list c.args.at
          (list_container marker) first (list_is marker)
          (subst (λ (v : BuilderView). Opens v c.open_block.new.self.builder first) c.step_to.ensures.steps
          c.in_ok-open_block.ensures.opens) starts is free.free free.built;
      listed = is_kind;
      loose = begins outer before list item adds is_kind items;
    }) c.open_list.ensures.begins
