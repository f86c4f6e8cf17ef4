-- Open blocks that are closed one after another, from the innermost on, and room for a block, around a list among
-- them: the blocks are the same.
use Rattle.std.proofs.Common.{◌≡◌, ℕ, ◌-◌, true, false, List, [], ◌∷◌, ◌++◌, None, arith, append_assoc, length, map}
use Rattle.std.proofs.Common.{take, refl, sym, ap, ◌∙◌, Option, Some, suc, ◌≤◌, not, subst, take_all, true≢false}
use Rattle.markdown_plain.proofs.Names.{Forest, nil, followed_by, ListMarker, Source, SourceLine, Block, goes_on}
use Rattle.markdown_plain.proofs.Names.{line_block, next_item, with_line, is_nil, AreContainers, AreNested, Frame}
use Rattle.markdown_plain.proofs.Names.{innermost_is, is_list, reached, rebuilt, room_depth, touched, outer_within}
use Rattle.markdown_plain.proofs.Names.{closed_in, forgotten, Pass, HoldsLast, AreItemsInLists, MayEnd, without_leaf}
use Rattle.markdown_plain.proofs.Names.{has_leaf, outer_of, leaf_block, HoldsParagraph, IsOpenIn, IsPlaced, AreOpen}
use Rattle.markdown_plain.proofs.Names.{IsBuilt, BlanksKnown, IsLooseAs, IsLooseBefore, HasLast, with_last, BuilderView}
use Rattle.markdown_plain.proofs.Names.{OpenBlock, Looseness, AreClosable, MayOpen, ClosesDown, MakesRoom, between}
use Rattle.std.proofs.lemmas.List.{length-take, take-take}
use Rattle.std.specs.Prelude.{nat_lt}
use Rattle.markdown_plain.specs.Beginning.{HoldsNone}
use Rattle.markdown_plain.specs.Closing.{MayClose}
use Rattle.markdown_plain.specs.Standing.{KnowsLast}
use Rattle.markdown_plain.specs.Closable.{IsClosable}
use Rattle.markdown_plain.specs.PassSteps.{ClosesBlock, HasOnly, IsRoomIn, MayCloseTo, opened}
use Rattle.markdown_plain.specs.OpenBlocks as own
use Rattle.markdown_plain.specs.OpenLeaves as leaves
use Rattle.markdown_plain.proofs.FramesLemmas.{innermost_apart, marker_of_list, block_begins, list_ends}
use Rattle.markdown_plain.proofs.LeafTreesLemmas.{by_test}
use Rattle.markdown_plain.proofs.FramesLemmas.{outer_taken, reached_parts, rebuilt_in, all_within, list_of_open}
use Rattle.markdown_plain.proofs.FramesLemmas.{within_parts, inner_left}
use Rattle.markdown_plain.proofs.OpenTablesLemmas.{without_built, without_open, IsRoom, room_is, built_outside}
use Rattle.markdown_plain.proofs.OpenTablesLemmas.{open_has_leaf}
use Rattle.markdown_plain.proofs.LeafTreesLemmas.{length_of_outer, take_of_outer}
use Rattle.markdown_plain.proofs.ClosableLemmas.{closed_here}
use Rattle.markdown_plain.proofs.ClosedFramesLemmas.{one_less, ClosedTo, within, room_of, open_containers}
use Rattle.markdown_plain.proofs.OpenedFramesLemmas.{as_many_containers, list_innermost, room_is_free}

-- ---- room around a list

module _ (s : Source) (frames : List Frame) (inside : Forest Block) (l : SourceLine) (are : AreContainers frames)
    (nested : AreNested frames) where
  -- a line makes of blocks the same with what it begins after them, where nothing goes on and no item begins
  pub begins_in_room :
      goes_on s (rebuilt (reached s frames inside l).inner inside) (reached s frames inside l).rest ≡ None
      → ((marker : ListMarker) → next_item s (reached s frames inside l).rest marker ≡ None)
      → with_line s (rebuilt frames inside) l
      ≡ rebuilt (map (touched l) (outer_within (room_depth (length (reached s frames inside l).outer) frames) frames))
      (followed_by (closed_in (room_depth (length (reached s frames inside l).outer) frames) frames inside)
      (line_block s (reached s frames inside l).rest))
  begins_in_room none no_item =
      let r = reached s frames inside l in
      rw outer_taken (by_test (innermost_is is_list r.outer) (λ is.
      let list = innermost_apart is_list r.outer is in let marked = marker_of_list list.last.block.kind list.passes in
      let parts : (r.inner ++ list.last ∷ []) ++ list.outer ≡ frames =
      append_assoc r.inner (list.last ∷ []) list.outer ∙ (ap (λ (fs : List Frame). r.inner ++ fs) (sym list.are)
      ∙ reached_parts s frames inside l) in
      let size : length r.outer - 1 ≡ length list.outer = omega (arith, ap length list.are) in
      let there = rw parts at (within_parts (r.inner ++ list.last ∷ []) list.outer (length list.outer) refl) in
      rw (is, size, there.0, there.1 inside, rebuilt_in)
      (list_ends s frames inside l are nested list.outer list.last marked.marker list.are marked.is none
      (no_item marked.marker))) (λ plain.
      rw (plain, outer_taken, inner_left) (block_begins s frames inside l are nested none plain)))

-- ---- what is open before the line

-- open containers, whether a paragraph is held back in them or not
pub record HasOpen (s : Source) (pass : Pass) (frames : List Frame) (blocks : Forest Block) : Type 0 where
  pub texts : List (List ℕ)
  pub are : AreOpen texts (without_leaf pass.placing.builder) frames
  pub nested : AreNested frames
  pub items : AreItemsInLists false (rebuilt frames blocks)

built_open : (s : Source) (pass : Pass) (frames : List Frame) (inside blocks : Forest Block)
    → IsBuilt s pass.placing.builder frames inside → AreItemsInLists false (rebuilt frames blocks)
    → HasOpen s pass frames blocks
built_open s pass frames inside blocks built items = record {
  texts = pass.placing.builder.texts;
  are = rw (without_built s pass.placing.builder frames inside built) built.blocks;
  nested = built.nested;
  items = items;
}

pub last_open : (s : Source) (pass : Pass) (frames : List Frame) (inside : Forest Block) (last : Option Block)
    → HoldsLast s pass frames inside last → HasOpen s pass frames (with_last inside last)
last_open s pass frames inside None holds =
    built_open s pass frames inside inside holds.0.stands.built holds.0.stands.items
last_open s pass frames inside (Some b) holds = by_held holds.0 holds.1
  where
    by_held : (held : Option (List SourceLine)) → MayEnd s pass frames inside b held
        → HasOpen s pass frames (followed_by inside (leaf_block b))
    by_held None may = record {
      texts = pass.placing.builder.texts;
      are = rw (without_open s pass.placing.builder frames inside b may.unended.1) may.unended.1.around.blocks;
      nested = may.unended.1.around.nested;
      items = may.items;
    }
    by_held (Some sources) may =
        built_open s pass frames inside (followed_by inside (leaf_block b)) may.unended.built may.items

-- what has not ended, whether or not it goes on in some line
pub holds_last : (s : Source) (pass : Pass) (frames : List Frame) (inside : Forest Block) (last : Option Block)
    → HasLast s pass frames inside last → HoldsLast s pass frames inside last
holds_last s pass frames inside None has = (has.0, has.1)
holds_last s pass frames inside (Some b) has = (has.0, has.1, none has.0 has.2)
  where
    none : (held : Option (List SourceLine)) → KnowsLast pass b held → HoldsNone pass held
    none None knows = knows.2
    none (Some sources) knows = tt

-- ---- the leaf has ended

pub ended_may_close : (s : Source) (old new : Pass) (frames : List Frame) (inside : Forest Block) (b : Block)
    (held : Option (List SourceLine)) → MayEnd s old frames inside b held
    → new ≡ record old { placing = new.placing; lines = new.lines; blanks = new.blanks }
    → IsPlaced s new.placing.builder frames (followed_by inside (leaf_block b))
    → MayClose s new frames (followed_by inside (leaf_block b))
ended_may_close s old new frames inside b held may same placed = record {
  stands = record {
    built = placed.built;
    ends = record { at = placed.at; quotes = rw (ap (λ (p : Pass). p.placed) same) may.quotes };
    items = may.items;
  };
  loose = rw (ap (λ (p : Pass). p.looseness) same) may.loose;
}

-- what has not ended was ended: a leaf, a paragraph, or nothing
pub record EndsLeaf (old new : Pass) : Type 0 where
  pub leaf : (s : Source) (frames : List Frame) (inside : Forest Block) (b : Block)
      → has_leaf old.placing.builder ≡ true → leaves.is_leaf b.kind ≡ true
      → IsOpenIn s old.placing.builder frames inside (not (leaves.is_table b.kind)) b
      → IsPlaced s new.placing.builder frames (followed_by inside (leaf_block b))
  pub paragraph : (s : Source) (frames : List Frame) (inside : Forest Block) (b : Block) (sources : List SourceLine)
      → has_leaf old.placing.builder ≡ false → HoldsParagraph s old frames inside b sources → s.syntax ≡ old.syntax
      → IsPlaced s new.placing.builder frames (followed_by inside (leaf_block b))
  pub kept : has_leaf old.placing.builder ≡ false → old.lines.items ≡ [] → new ≡ old
  pub are : new.placing.builder.blocks ≡ without_leaf old.placing.builder
  pub text : new.placing.builder.text ≡ old.placing.builder.text
  pub ended : new.lines.items ≡ []
  pub unheld : (old.placing.builder.leaf ≡ false → old.blanks.items ≡ []) → new.blanks.items ≡ []
  pub here : IsClosable old → AreClosable new.placing.builder old.placed
  pub same : new ≡ record old { placing = new.placing; lines = new.lines; blanks = new.blanks }

last_ended : (s : Source) (old new : Pass) → EndsLeaf old new → (frames : List Frame) (inside : Forest Block)
    (last : Option Block) → HoldsLast s old frames inside last → MayClose s new frames (with_last inside last)
last_ended s old new is frames inside None holds =
    rw (is.kept (built_outside s old.placing.builder frames inside holds.0.stands.built) holds.1) holds.0
last_ended s old new is frames inside (Some b) holds = by_held holds.0 holds.1
  where
    by_held : (held : Option (List SourceLine)) → MayEnd s old frames inside b held
        → MayClose s new frames (followed_by inside (leaf_block b))
    by_held None may =
        ended_may_close s old new frames inside b None may is.same (is.leaf s frames inside b
        (open_has_leaf s old.placing.builder frames inside b may.unended.1) may.unended.0 may.unended.1)
    by_held (Some sources) may =
        ended_may_close s old new frames inside b (Some sources) may is.same (is.paragraph s frames inside b sources
        (built_outside s old.placing.builder frames inside may.unended.built) may.unended may.syntax)

-- and no more is open than stays
pub leaf_ended : (old new : Pass) → EndsLeaf old new → (depth : ℕ)
    → length (without_leaf old.placing.builder) ≤ depth → ClosesDown old new depth
leaf_ended old new is depth few =
    let loose : new.looseness ≡ old.looseness = ap (λ (p : Pass). p.looseness) is.same in
    record {
      forgets = λ s frames inside last holds.
          let may = last_ended s old new is frames inside last holds in
          let many = open_containers s new frames (with_last inside last) may in
          within (MayClose s new) depth frames (with_last inside last)
          (omega (arith, few, many, ap (λ (bs : List OpenBlock). length bs) is.are)) may;
      kept = λ leaf lines all. is.kept leaf lines;
      are = is.are ∙ sym (take_all depth (without_leaf old.placing.builder) few);
      text = is.text;
      ended = is.ended;
      unheld = is.unheld;
      here = is.here;
      same = is.same ∙ ap (λ (l : Looseness). record old {
        placing = new.placing;
        lines = new.lines;
        blanks = new.blanks;
        looseness = record old.looseness { lists = l.lists; item_is_empty = l.item_is_empty };
      }) (sym loose);
    }

-- ---- one block more is closed

-- all but the innermost of the first of some blocks
outer_of_taken : (n : ℕ) (blocks these : List OpenBlock) → these ≡ take (suc n) blocks → length these ≡ suc n
    → outer_of these ≡ take n blocks
outer_of_taken n blocks these are many =
    let fewer = length_of_outer these in
    sym (take_all n (outer_of these) (omega (arith, fewer, many)))
    ∙ (take_of_outer n these (omega (arith, many)) ∙ (ap (take n) are ∙ take-take n (suc n) blocks (omega arith)))

pub one_closed : (old mid new : Pass) (n : ℕ) → ClosesDown old mid (suc n)
    → length mid.placing.builder.blocks ≡ suc n → ClosesBlock mid new → ClosesDown old new n
one_closed old mid new n down many closes =
    let some : mid.placing.builder.blocks ≡ [] → ⊥ = λ none. absurd (omega (arith, many, ap length none)) in
    let placed : mid.placed ≡ old.placed = ap (λ (p : Pass). p.placed) down.same in
    record {
      forgets = λ s frames inside last holds.
          let may = down.forgets s frames inside last holds in
          one_less (MayClose s mid) (MayClose s new) n frames (with_last inside last)
          (λ f outer below. closes.forgets s outer f below) (sym (open_containers s mid _ _ may) ∙ many) may;
      kept = λ leaf lines few.
          let are = ap (λ (bs : List OpenBlock). length bs) down.are in
          let all : without_leaf old.placing.builder ≡ old.placing.builder.blocks = rw leaf refl in
          let left = length-take (suc n) (without_leaf old.placing.builder) in
          absurd (omega (arith, few, many, are, left, ap (λ (bs : List OpenBlock). length bs) all));
      are = ap (λ (b : BuilderView). b.blocks) closes.closes
          ∙ outer_of_taken n (without_leaf old.placing.builder) mid.placing.builder.blocks down.are many;
      text = ap (λ (b : BuilderView). b.text) closes.closes ∙ down.text;
      ended = ap (λ (p : Pass). p.lines.items) closes.same ∙ down.ended;
      unheld = λ held. ap (λ (p : Pass). p.blanks.items) closes.same ∙ down.unheld held;
      here = λ is.
          subst (AreClosable new.placing.builder) placed
          (closed_here mid.placing.builder new.placing.builder mid.placed new.placing.builder.levels
          (rw placed (down.here is)) some closes.closes);
      same = closes.same ∙ (ap (λ (p : Pass). record p {
        placing = new.placing;
        looseness = record p.looseness {
          lists = new.looseness.lists;
          item_is_empty = new.looseness.item_is_empty;
        };
      }) down.same ∙ ap (λ (p : Pass). record old {
        placing = new.placing;
        lines = p.lines;
        blanks = p.blanks;
        looseness = record old.looseness {
          lists = new.looseness.lists;
          item_is_empty = new.looseness.item_is_empty;
        };
      }) (sym closes.same));
    }

-- ---- nothing but containers is open then

-- of the outermost containers it is known how they end once the others are closed
pub known_of_outermost : (from : Option ℕ) (n : ℕ) (frames : List Frame) (inside : Forest Block)
    → BlanksKnown from frames inside → ClosedTo (BlanksKnown from) n frames inside
known_of_outermost from n [] inside known = tt
known_of_outermost from n (f ∷ outer) inside known =
    by_test (nat_lt (length outer) n) (λ less. rw less known)
    (λ more. rw more (known_of_outermost from n outer (forgotten f inside) known.1))

pub only_containers : (s : Source) (old mid : Pass) (depth : ℕ) (frames : List Frame) (inside : Forest Block)
    (last : Option Block) → MayCloseTo s old depth frames inside last → ClosesDown old mid depth
    → HasOnly s mid (outer_within depth frames) (closed_in depth frames (with_last inside last))
only_containers s old mid depth frames inside last (between holds known unheld) down =
    let from : mid.looseness.blank_from ≡ old.looseness.blank_from =
    ap (λ (p : Pass). p.looseness.blank_from) down.same in
    between (down.forgets s frames inside last holds)
    (rw from (known_of_outermost old.looseness.blank_from depth frames (with_last inside last) known))
only_containers s old mid depth frames inside last (opened may none deep) down =
    let many = as_many_containers s old.placing.builder frames nil may.built in
    let kept = down.kept (built_outside s old.placing.builder frames nil may.built) may.lines
    (omega (arith, many, deep)) in
    let all = all_within frames depth (omega (arith, deep)) in rw (all.0, all.1, kept) (opened may none)

-- ---- a list in the way

-- the innermost open block was closed if it is a list
pub data ClosesList (old new : Pass) : Type 0 where
  closed_list : own.innermost_is own.is_list old.placing.builder.blocks ≡ true → ClosesBlock old new
      → ClosesList old new
  no_list : own.innermost_is own.is_list old.placing.builder.blocks ≡ false → new ≡ old → ClosesList old new

-- a block may begin in the innermost of these containers, where it is not yet recorded that it does
pub record IsFree (s : Source) (pass : Pass) (frames : List Frame) (inside : Forest Block) : Type 0 where
  pub built : IsBuilt s pass.placing.builder frames inside
  pub loose : IsLooseAs pass.looseness frames inside
  pub known : is_nil inside ≡ false → BlanksKnown pass.looseness.blank_from frames inside
  pub free : innermost_is is_list frames ≡ false

pub list_cleared : (s : Source) (old now : Pass) (depth : ℕ) (frames : List Frame) (inside : Forest Block)
    → depth ≤ length frames → AreNested frames → HasOnly s old (outer_within depth frames)
    (closed_in depth frames inside)
    → ClosesList old now
    → IsFree s now (outer_within (room_depth depth frames) frames) (closed_in (room_depth depth frames) frames inside)
list_cleared s old now depth frames inside few nested (between may known) (closed_list list closes) =
    let test = sym (list_of_open _ _ (outer_within depth frames) may.stands.built.blocks) ∙ list in
    let moved = room_of (MayClose s old) (MayClose s now) depth frames inside few test
    (λ f outer below. closes.forgets s outer f below) may in
    record {
      built = moved.stands.built;
      loose = moved.loose;
      known = λ some. rw (ap (λ (p : Pass). p.looseness.blank_from) closes.same)
          (room_of (BlanksKnown old.looseness.blank_from) (BlanksKnown old.looseness.blank_from) depth frames inside few
          test (λ f outer below all. all.1) known);
      free = room_is_free depth frames few nested;
    }
list_cleared s old now depth frames inside few nested (between may known) (no_list other same) =
    let test = sym (list_of_open _ _ (outer_within depth frames) may.stands.built.blocks) ∙ other in
    rw (same, test) (record {
      built = may.stands.built;
      loose = may.loose;
      known = λ some. known;
      free = test;
    })
list_cleared s old now depth frames inside few nested (opened may none) (closed_list list closes) =
    absurd (true≢false (sym list ∙ (list_innermost s old.placing.builder (outer_within depth frames) nil may.built
    ∙ may.free)))
list_cleared s old now depth frames inside few nested (opened may none) (no_list other same) =
    rw (same, may.free, none) (record {
      built = may.built;
      loose = may.loose;
      known = λ some. absurd (true≢false some);
      free = may.free;
    })

-- what is remembered of lists is that of the blocks before another one, once that is added
abbrev pub AddsBlock : Pass → Looseness → Type 0
AddsBlock now new =
    (texts : List (List ℕ)) (frames : List Frame) (inside : Forest Block)
    → AreOpen texts now.placing.builder.blocks frames → AreNested frames → innermost_is is_list frames ≡ false
    → IsLooseAs now.looseness frames inside
    → (is_nil inside ≡ false → BlanksKnown now.looseness.blank_from frames inside) → IsLooseBefore new frames inside

-- where a block may begin, it is recorded that it does
pub looseness_begins : (s : Source) (now : Pass) (new : Looseness) (frames : List Frame) (inside : Forest Block)
    → AddsBlock now new → IsFree s now frames inside → IsLooseBefore new frames inside
looseness_begins s now new frames inside adds is =
    adds now.placing.builder.texts frames inside is.built.blocks is.built.nested is.free is.loose is.known

-- the containers around what is held back are nested
nested_in : (s : Source) (pass : Pass) (depth : ℕ) (frames : List Frame) (inside : Forest Block) (last : Option Block)
    → MayCloseTo s pass depth frames inside last → AreNested frames
nested_in s pass depth frames inside last (opened may none deep) = may.built.nested
nested_in s pass depth frames inside last (between holds known unheld) =
    (last_open s pass frames inside last holds).nested

-- and no blank lines are held back but those of a leaf
pub unheld_in : (s : Source) (pass : Pass) (depth : ℕ) (frames : List Frame) (inside : Forest Block)
    (last : Option Block)
    → MayCloseTo s pass depth frames inside last → pass.placing.builder.leaf ≡ false → pass.blanks.items ≡ []
unheld_in s pass depth frames inside last (opened may none deep) = λ outside. may.blanks
unheld_in s pass depth frames inside last (between holds known unheld) = unheld

-- what a list leaves alone that is closed
pub record KeepsRest (old now : Pass) : Type 0 where
  pub text : now.placing.builder.text ≡ old.placing.builder.text
  pub here : AreClosable old.placing.builder old.placed → AreClosable now.placing.builder old.placed
  pub same : now ≡ record old {
    placing = now.placing;
    looseness = record old.looseness { lists = now.looseness.lists; item_is_empty = now.looseness.item_is_empty };
  }

pub keeps_rest : (old now : Pass) → ClosesList old now → KeepsRest old now
keeps_rest old now (closed_list list closes) = record {
  text = ap (λ (b : BuilderView). b.text) closes.closes;
  here = λ is.
      closed_here old.placing.builder now.placing.builder old.placed now.placing.builder.levels is
      (λ none. absurd (true≢false (sym list ∙ ap (own.innermost_is own.is_list) none))) closes.closes;
  same = closes.same;
}
keeps_rest old now (no_list other same) = rw same (record { text = refl; here = λ is. is; same = refl })

-- room is made
pub room_made : (old down now : Pass) (new : Looseness) (depth : ℕ) → ClosesDown old down depth → ClosesList down now
    → AddsBlock now new → MakesRoom old (record now { looseness = new }) depth
room_made old down now new depth closes list adds =
    let rest = keeps_rest down now list in
    let placed : down.placed ≡ old.placed = ap (λ (p : Pass). p.placed) closes.same in
    record {
      room = λ s frames inside last may few.
          let free = list_cleared s down now depth frames (with_last inside last) few
          (nested_in s old depth frames inside last may)
          (only_containers s old down depth frames inside last may closes) list in
          record {
            built = free.built;
            loose = looseness_begins s now new _ _ adds free;
            lines = ap (λ (p : Pass). p.lines.items) rest.same ∙ closes.ended;
            blanks = ap (λ (p : Pass). p.blanks.items) rest.same
                ∙ closes.unheld (unheld_in s old depth frames inside last may);
          };
      kept = λ free. nothing_closed old down now (room_is old depth free) closes list;
      ended = ap (λ (p : Pass). p.lines.items) rest.same ∙ closes.ended;
      text = rest.text ∙ closes.text;
      here = λ is. rw (← placed) (rest.here (rw placed (closes.here is)));
      same = ap (λ (p : Pass). record p { looseness = new }) rest.same
          ∙ (ap (λ (p : Pass). record p { placing = now.placing; looseness = new }) closes.same
          ∙ ap (λ (p : Pass). record old {
            placing = now.placing;
            lines = p.lines;
            blanks = p.blanks;
            looseness = new;
          }) (sym rest.same));
    }
  where
    nothing_closed : (old down now : Pass) → IsRoom old depth → ClosesDown old down depth → ClosesList down now
        → record now { looseness = new } ≡ record old { looseness = new }
    nothing_closed old down now room closes (closed_list list one) =
        let kept = closes.kept room.leaf room.lines room.few in
        absurd (true≢false (sym list ∙ (ap (λ (p : Pass). own.innermost_is own.is_list p.placing.builder.blocks) kept
        ∙ room.other)))
    nothing_closed old down now room closes (no_list other same) =
        ap (λ (p : Pass). record p { looseness = new }) (same ∙ closes.kept room.leaf room.lines room.few)

-- what is built where containers alone are open
pub built_only : (s : Source) (pass : Pass) (frames : List Frame) (inside : Forest Block)
    → HasOnly s pass frames inside → IsBuilt s pass.placing.builder frames inside
built_only s pass frames inside (between may known) = may.stands.built
built_only s pass frames inside (opened may none) = rw none may.built

-- room is made inside a container that was opened last, where nothing is closed
pub room_here : (s : Source) (old new : Pass) (depth : ℕ) (frames : List Frame) → MakesRoom old new depth
    → MayOpen s old frames → depth ≡ length frames → IsRoomIn s new frames nil
room_here s old new depth frames makes may deep =
    let all = all_within frames (length frames) (omega arith) in
    let there = makes.room s frames nil None (opened may refl deep) (omega (arith, deep)) in
    rw (deep, all.0, may.free, all.0, all.1) at there
