-- A line in which no row is added: the cells that are added to rows stay as many, and the blocks end with no table that
-- takes no rows.
use Rattle.std.proofs.Common.{◌≡◌, ℕ, ◌+◌, ◌≤◌, Bool, true, false, List, [], ◌∷◌, Option, Some, None, ◌||◌, IfSome}
use Rattle.std.proofs.Common.{length, map, nat_le, ◌==◌, refl, sym, ap, ◌∙◌, arith, true≢false}
use Rattle.markdown_plain.proofs.Names.{or_parts, nat_tests, Forest, nil, node, ListMarker, Source, Beginning, begins}
use Rattle.markdown_plain.proofs.Names.{SourceLine, is_blank_rest, LineLeft, BuilderView, followed_by, Block, Kind}
use Rattle.markdown_plain.proofs.Names.{added_in, another_item, begun_by, begun_in, goes_on, inside_of, is_nil}
use Rattle.markdown_plain.proofs.Names.{line_block, new_blocks, next_item, with_line, with_next_line, reads_tables}
use Rattle.markdown_plain.proofs.Names.{Pass, AreContainers, AreNested, Frame, IsContainer, forgotten, innermost_is}
use Rattle.markdown_plain.proofs.Names.{is_list, reached, rebuilt, touched, is_table, leaf_block, Before, blocks_before}
use Rattle.markdown_plain.proofs.Names.{IsBuilt, HasLast, Stands, with_last, IsCounted}
use Rattle.markdown_block_rules.specs.BlockGrowth.{added_in_block}
use Rattle.markdown_block_rules.specs.TableLines.{most_added}
use Rattle.markdown_block_rules.proofs.AddedCellsLemmas.{TakeNoRow, TakesNoRow, begun_none, grown_same}
use Rattle.markdown_block_rules.proofs.GrowthLemmas.{Fresh, Grown, Held, KindGrows, all_begun, block_outermost, chosen}
use Rattle.markdown_block_rules.proofs.GrowthLemmas.{inside_grown, later_grown, leaf_grown, line_grows, next_fresh}
use Rattle.markdown_block_rules.proofs.GrowthLemmas.{row_more, table_made, table_made_behind}
use Rattle.markdown_plain.specs.TableRows.{ends_ended, is_ended_table}
use Rattle.markdown_lines.specs.declared.block_start.Before.TheVariants as paragraph
use Rattle.markdown_lines.specs.BlockBeginnings as line
use Rattle.markdown_block_rules.specs.BlockGrowth as was
use Rattle.markdown_plain.proofs.FramesLemmas.{innermost_apart, marker_of_list, outer_containers, block_begins}
use Rattle.markdown_plain.proofs.FramesLemmas.{item_begins, list_ends, reached_parts, reached_same}
use Rattle.markdown_plain.proofs.LeafTreesLemmas.{by_option, by_test, on_test}
use Rattle.markdown_plain.proofs.ReachedFramesLemmas.{nothing_goes_on, open_are_containers}

-- ---- cells that are added to the rows of blocks

added_followed : (blocks new : Forest Block) → added_in (followed_by blocks new) ≡ added_in blocks + added_in new
added_followed nil new = omega arith
added_followed (node b below after) new = omega (arith, added_followed after new)

-- what containers add around the blocks in the innermost
abbrev added_around : List Frame → ℕ
added_around [] = 0
added_around (f ∷ outer) = added_around outer + (added_in f.before + added_in_block f.block.kind)

added_rebuilt : (frames : List Frame) (inside : Forest Block)
    → added_in (rebuilt frames inside) ≡ added_around frames + added_in inside
added_rebuilt [] inside = omega arith
added_rebuilt (f ∷ outer) inside =
    omega (arith, added_rebuilt outer (forgotten f inside), added_followed f.before (node f.block inside nil))

-- containers that go on add nothing
pub added_touched : (l : SourceLine) (frames : List Frame) (inside : Forest Block)
    → added_in (rebuilt (map (touched l) frames) inside) ≡ added_in (rebuilt frames inside)
added_touched l frames inside =
    rw (added_rebuilt (map (touched l) frames) inside, added_rebuilt frames inside, same frames) refl
  where
    same : (frames : List Frame) → added_around (map (touched l) frames) ≡ added_around frames
    same [] = refl
    same (f ∷ outer) = rw (same outer) refl

-- blocks that are appended inside containers add their own
pub added_inside : (frames : List Frame) (inside new : Forest Block)
    → added_in (rebuilt frames (followed_by inside new)) ≡ added_in (rebuilt frames inside) + added_in new
added_inside frames inside new =
    omega (arith, added_rebuilt frames, added_rebuilt frames (followed_by inside new), added_followed)

-- ---- blocks that end with a table that takes no rows

pub ended_followed : (s : Source) (blocks : Forest Block) (b : Block) (below after : Forest Block)
    → ends_ended s (followed_by blocks (node b below after)) ≡ ends_ended s (node b below after)
ended_followed s nil b below after = refl
ended_followed s (node c others nil) b below after = refl
ended_followed s (node c others (node d inner rest)) b below after = ended_followed s (node d inner rest) b below after

-- a container is no table, and takes no row
pub container_is : (s : Source) (kind : Kind) → IsContainer kind → (is_ended_table s kind ≡ false)
    × (was.table_ended kind ≡ kind) × ((below : Forest Block) → TakesNoRow kind below)
container_is s (was.table_leaf ended head alignments rows) is = absurd is
container_is s (was.paragraph_leaf lines) is = absurd is
container_is s other is = (refl, refl, λ below. tt)

pub ended_inside : (s : Source) (frames : List Frame) (inside : Forest Block) → AreContainers frames
    → ends_ended s (rebuilt frames inside) ≡ ends_ended s inside
ended_inside s [] inside are = refl
ended_inside s (f ∷ outer) inside are =
    ended_inside s outer (forgotten f inside) are.1 ∙ (ended_followed s f.before f.block inside nil
    ∙ ap (λ t. t || ends_ended s inside) (container_is s f.block.kind are.0).0)

fresh_unended : (s : Source) (next : ℕ) (top : Bool) (kind : Kind) → Fresh next top kind → is_ended_table s kind ≡ false
fresh_unended s next top (was.table_leaf ended head alignments rows) fresh = absurd fresh
fresh_unended s next top other fresh = refl

begun_unended : (s : Source) (next : ℕ) (top : Bool) (new : Forest Block) → Held (Fresh next) top new
    → ends_ended s new ≡ false
begun_unended s next top nil fresh = refl
begun_unended s next top (node b below nil) fresh =
    rw (fresh_unended s next top b.kind fresh.0) (begun_unended s next false below fresh.1)
begun_unended s next top (node b below (node c others after)) fresh =
    begun_unended s next top (node c others after) fresh.2

-- a line makes none
kind_unended : (s : Source) (l : SourceLine) (top : Bool) (kind grown : Kind) → KindGrows l top kind grown
    → is_ended_table s kind ≡ false → is_ended_table s grown ≡ false
kind_unended s l top _ _ (row_more head alignments rows row) none = none
kind_unended s l top _ _ other none = refl

stays_none : {s : Source} {l : SourceLine} {top : Bool} {blocks grown : Forest Block} → Grown s l top blocks grown
    → is_nil grown ≡ true → is_nil blocks ≡ true
stays_none (all_begun top new fresh) none = refl
stays_none other none = none

grown_unended : {s : Source} {l : SourceLine} {top : Bool} {blocks grown : Forest Block} → Grown s l top blocks grown
    → ends_ended s blocks ≡ false → ends_ended s grown ≡ false
grown_unended {s} {l} (all_begun top new fresh) none = begun_unended s l.next top new fresh
grown_unended (later_grown top b below nil nil more) none = none
grown_unended (later_grown top b below nil (node c others after) more) none = grown_unended more refl
grown_unended (later_grown top b below (node c others after) nil more) none =
    absurd (true≢false (sym (stays_none more refl)))
grown_unended (later_grown top b below (node c others after) (node d inner rest) more) none = grown_unended more none
grown_unended {s} (inside_grown top b c below grown same more) none =
    let parts = or_parts (is_ended_table s b.kind) (ends_ended s below) none in
    rw (same, parts.0) (grown_unended more parts.1)
grown_unended {s} {l} (leaf_grown top b c below kind is more) none =
    let parts = or_parts (is_ended_table s b.kind) (ends_ended s below) none in
    rw (kind_unended s l top kind c.kind more (rw is at parts.0)) parts.1
grown_unended (table_made top b c below head row alignments reads is fits made) none = rw (made, reads)
grown_unended (table_made_behind top b c d below before head row alignments reads is fits rest made) none =
    rw (made, reads)

pub line_unended : (s : Source) (blocks : Forest Block) (l : SourceLine) → ends_ended s blocks ≡ false
    → ends_ended s (with_line s blocks l) ≡ false
line_unended s blocks l none = grown_unended (line_grows s blocks l) none

-- ---- a line in which nothing goes on behind the containers that it reaches

-- the open containers of a pass that stands for blocks
pub record AreFrames (frames : List Frame) : Type 0 where
  pub containers : AreContainers frames
  pub nested : AreNested frames

-- A line begins blocks inside some open containers, which go on in it.
abbrev pub BlocksBegin : SourceLine → (blocks grown : Forest Block) → Type 0
BlocksBegin l blocks grown =
    (outer : List Frame) × (inside : Forest Block) × (new : Forest Block) × (next : ℕ) × (top : Bool)
    × AreContainers outer × (blocks ≡ rebuilt outer inside)
    × (grown ≡ rebuilt (map (touched l) outer) (followed_by inside new)) × Held (Fresh next) top new
    × (is_nil new ≡ false)

block_some : (inside : LineLeft → Forest Block) (l : SourceLine) (b : Beginning)
    → is_nil (new_blocks inside l b) ≡ false
block_some inside l line.begins_text = refl
block_some inside l other = refl

line_some : (s : Source) (l : SourceLine) → is_nil (line_block s l) ≡ false
unfolding begun_in
line_some s l =
    on_test (λ (f : Forest Block). is_nil f ≡ false) (is_blank_rest l) _ _ (λ blank. refl)
    (λ filled. block_some (inside_of (begun_in (length l.left.bytes) s) l) l (begins s paragraph.NoParagraph l))

next_some : (s : Source) (l : SourceLine) (marker : ListMarker)
    → IfSome (next_item s l marker) (λ new. is_nil new ≡ false)
next_some s l marker =
    chosen (λ new. is_nil new ≡ false) (is_blank_rest l) (Some (line_block s l))
    (another_item s l marker (begins s paragraph.Lazy l)) (line_some s l) (by_beginning (begins s paragraph.Lazy l))
  where
    by_beginning : (b : Beginning) → IfSome (another_item s l marker b) (λ new. is_nil new ≡ false)
    by_beginning (line.begins_item found indent rest) =
        chosen (λ new. is_nil new ≡ false) (found.character == marker.character)
        (Some (was.new_item (inside_of (begun_by s) l) l indent rest)) None refl tt
    by_beginning other = tt

pub blocks_begin : (s : Source) (frames : List Frame) (inside : Forest Block) (l : SourceLine) → AreFrames frames
    → goes_on s (rebuilt (reached s frames inside l).inner inside) (reached s frames inside l).rest ≡ None
    → BlocksBegin l (rebuilt frames inside) (with_line s (rebuilt frames inside) l)
blocks_begin s frames inside l opened none =
    let r = reached s frames inside l in let are = opened.containers in let nested = opened.nested in
    let containers : AreContainers r.outer =
    outer_containers r.inner r.outer (rw (reached_parts s frames inside l) are) in
    let same = sym (reached_same s frames inside l) in let rest = rebuilt r.inner inside in
    let fresh = block_outermost s r.rest in let some = line_some s r.rest in
    by_test (innermost_is is_list r.outer) (λ is.
    let list = innermost_apart is_list r.outer is in let marked = marker_of_list list.last.block.kind list.passes in
    let ends : AreContainers (list.last ∷ list.outer) = rw list.are at containers in
    let here : rebuilt frames inside ≡ rebuilt (list.last ∷ list.outer) rest =
    same ∙ ap (λ (fs : List Frame). rebuilt fs rest) list.are in
    by_option (next_item s r.rest marked.marker) (λ e.
    let grown = list_ends s frames inside l are nested list.outer list.last marked.marker list.are marked.is none e in
    (list.outer, forgotten list.last rest, line_block s r.rest, r.rest.next, true, ends.1, here, grown, fresh, some))
    (λ item e. let grown =
    item_begins s frames inside l are nested list.outer list.last marked.marker list.are marked.is none item e in
    let fresh = rw e at (next_fresh s r.rest marked.marker) in let some = rw e at (next_some s r.rest marked.marker) in
    (list.last ∷ list.outer, rest, item, r.rest.next, false, ends, here, grown, fresh, some)))
    (λ plain. let grown = block_begins s frames inside l are nested none plain in
    (r.outer, rest, line_block s r.rest, r.rest.next, true, containers, same, grown, fresh, some))

-- so no cell is added
pub begun_same : (l : SourceLine) {blocks grown : Forest Block} → BlocksBegin l blocks grown
    → added_in grown ≡ added_in blocks
begun_same l (outer, inside, new, next, top, containers, were, are, fresh, some) =
    omega (arith, ap added_in are, ap added_in were, added_touched, added_inside, begun_none next top new fresh)

containers_touched : (l : SourceLine) (frames : List Frame) → AreContainers frames
    → AreContainers (map (touched l) frames)
containers_touched l [] are = tt
containers_touched l (f ∷ frames) are = (are.0, containers_touched l frames are.1)

-- and no table is at the end
pub begun_leaves : (s : Source) (l : SourceLine) {blocks grown : Forest Block} → BlocksBegin l blocks grown
    → ends_ended s grown ≡ false
begun_leaves s l (outer, inside, nil, next, top, containers, were, are, fresh, some) = absurd (true≢false some)
begun_leaves s l (outer, inside, node b below after, next, top, containers, were, are, fresh, some) =
    rw are (ended_inside s (map (touched l) outer) (followed_by inside (node b below after))
    (containers_touched l outer containers) ∙ (ended_followed s inside b below after
    ∙ begun_unended s next top (node b below after) fresh))

-- ---- a line where no table is open

takes_followed : (before : Forest Block) (b : Block) (below : Forest Block) → TakesNoRow b.kind below
    → TakeNoRow below → TakeNoRow (followed_by before (node b below nil))
takes_followed nil b below takes others = (takes, others)
takes_followed (node c inner nil) b below takes others = (takes, others)
takes_followed (node c inner (node d more after)) b below takes others =
    takes_followed (node d more after) b below takes others

takes_inside : (s : Source) (frames : List Frame) (inside : Forest Block) → AreContainers frames → TakeNoRow inside
    → TakeNoRow (rebuilt frames inside)
takes_inside s [] inside are takes = takes
takes_inside s (f ∷ outer) inside are takes = takes_inside s outer (forgotten f inside) are.1
    (takes_followed f.before f.block inside ((container_is s f.block.kind are.0).2 inside) takes)

alone_takes : (kind : Kind) → is_table kind ≡ false → TakesNoRow kind nil
alone_takes (was.table_leaf ended head alignments rows) none = absurd (true≢false none)
alone_takes (was.paragraph_leaf lines) none = refl
alone_takes other none = tt

-- the last block is no table, if one has not ended
abbrev pub HasNoTable : Option Block → Type 0
HasNoTable None = Unit
HasNoTable (Some b) = is_table b.kind ≡ false

built_frames : {s : Source} {view : BuilderView} {frames : List Frame} {inside : Forest Block}
    → IsBuilt s view frames inside → AreFrames frames
built_frames built = record { containers = open_are_containers _ _ _ built.blocks; nested = built.nested }

pub frames_of : (s : Source) (pass : Pass) (frames : List Frame) (inside : Forest Block) (last : Option Block)
    → HasLast s pass frames inside last → AreFrames frames
frames_of s pass frames inside None has = built_frames has.0.stands.built
frames_of s pass frames inside (Some b) (None, may, knows) = built_frames may.unended.1.around
frames_of s pass frames inside (Some b) (Some sources, may, knows) = built_frames may.unended.built

line_same : (s : Source) (pass : Pass) (frames : List Frame) (inside : Forest Block) (last : Option Block)
    (source : SourceLine) → HasLast s pass frames inside last → HasNoTable last
    → added_in (with_line s (rebuilt frames (with_last inside last)) source)
    ≡ added_in (rebuilt frames (with_last inside last))
line_same s pass frames inside None source has none =
    let opened = frames_of s pass frames inside None has in
    begun_same source (blocks_begin s frames inside source opened
    (nothing_goes_on s frames inside source opened.containers has.2))
line_same s pass frames inside (Some b) source has none =
    grown_same s source true _ _ (line_grows s (rebuilt frames (followed_by inside (leaf_block b))) source)
    (takes_inside s frames (followed_by inside (leaf_block b)) (frames_of s pass frames inside (Some b) has).containers
    (takes_followed inside b nil (alone_takes b.kind none) tt))

-- a line that adds no more cells than may be added
pub within_line : (s : Source) (blocks : Forest Block) (l : SourceLine)
    → added_in (with_line s blocks l) ≤ most_added s.text → with_next_line s blocks l ≡ with_line s blocks l
within_line s blocks l few =
    on_test (λ f. f ≡ with_line s blocks l) (reads_tables s) _ _
    (λ reads. on_test (λ f. f ≡ with_line s blocks l) (nat_le (added_in (with_line s blocks l)) (most_added s.text)) _ _
    (λ fits. refl) (λ many. absurd (grind (arith, nat_tests, few, many)))) (λ none. refl)

pub next_as_line : (s : Source) (pass : Pass) (before : Before) (source : SourceLine) (from : ℕ)
    → Stands s pass before.frames before.inside before.last from → IsCounted s pass (blocks_before before)
    → HasNoTable before.last
    → (with_next_line s (blocks_before before) source ≡ with_line s (blocks_before before) source)
    × (added_in (with_line s (blocks_before before) source) ≡ added_in (blocks_before before))
next_as_line s pass before source from stands counted none =
    let same = line_same s pass before.frames before.inside before.last source stands.unended none in
    (within_line s (blocks_before before) source (omega (arith, same, counted.few)), same)

-- what is counted stays right where no cell is added
pub counted_with : {s : Source} {old new : Pass} {before blocks : Forest Block} → new.tables ≡ old.tables
    → added_in blocks ≡ added_in before → ends_ended s blocks ≡ false → IsCounted s old before → IsCounted s new blocks
counted_with same adds unended counted = record {
  added = rw (same, adds) counted.added;
  most = rw same counted.most;
  few = omega (arith, adds, counted.few);
  unended = unended;
}

-- so it does in the line
pub counted_on : (s : Source) (old new : Pass) (before : Before) (source : SourceLine) (from : ℕ)
    → Stands s old before.frames before.inside before.last from → HasNoTable before.last → new.tables ≡ old.tables
    → IsCounted s old (blocks_before before) → IsCounted s new (with_next_line s (blocks_before before) source)
counted_on s old new before source from stands none same counted =
    let next = next_as_line s old before source from stands counted none in
    rw next.0 (counted_with same next.1 (line_unended s (blocks_before before) source counted.unended) counted)
