-- Which block is the innermost open one: a table, another leaf, or a container; so whether a leaf block is open, and
-- where there is room for a block.
use Rattle.std.proofs.Common.{◌≡◌, ℕ, Bool, true, false, not, List, [], ◌∷◌, Option, Some, None, arith, length, refl}
use Rattle.std.proofs.Common.{sym, ap, ◌∙◌, true≢false, ◌≤◌, ◌==◌, nat_le}
use Rattle.markdown_plain.proofs.Names.{nat_tests, and_parts, or_right, Forest, nil, node, ItemBody, BuilderView, Shown}
use Rattle.markdown_plain.proofs.Names.{unnumbered, OpenBlock, Source, SourceLine, Block, Kind, Around, LeafKind, Pass}
use Rattle.markdown_plain.proofs.Names.{MayEnd, is_container, Frame, has_leaf, without_leaf, IsOpenIn, is_leaf, MayOpen}
use Rattle.markdown_plain.proofs.Names.{around_innermost, IsBuilt, GoesOnBy, HasLast, IsLeafKind, IfParagraph, HeldLine}
use Rattle.markdown_plain.proofs.Names.{LineRest, IsHere, Turn, first, later}
use Rattle.std.proofs.lemmas.Bool.{false_from_ne_true, not-true, or_from, or_left}
use Rattle.std.proofs.lemmas.List.{nil_from_length}
use native.Mathlib.Numerals.{unary_clauses}
use Rattle.markdown_plain.specs.Closable.{AreContainers, MayMakeRoom, has_ended, has_room, is_down}
use Rattle.markdown_plain.specs.Frames.{innermost_is as innermost_of}
use Rattle.markdown_plain.specs.OpenBlocks.{innermost_is, is_table, is_list}
use Rattle.markdown_base.specs.declared.item.ItemBody.TheVariants as body
use Rattle.markdown_block_rules.specs.BlockGrowth as was
use Rattle.markdown_plain.specs.declared.pass.LeafKind.TheVariants as leaf
use Rattle.markdown_plain.specs.OpenLeaves as leaves
use Rattle.markdown_plain.proofs.AddedCellsLemmas.{HasNoTable}
use Rattle.markdown_plain.proofs.FramesLemmas.{inner_alike, tests_alike}
use Rattle.markdown_plain.proofs.LeafTreesLemmas.{by_test, around_leaf, innermost_of_opened, outside_leaf}
use Rattle.markdown_plain.proofs.LinedLeavesLemmas.{shown_alone, shown_of_kind}
use Rattle.markdown_plain.proofs.OpenedFramesLemmas.{as_many_containers, list_innermost}

-- ---- containers

-- a container is no table
no_table_in : (blocks : List OpenBlock) → AreContainers blocks → innermost_is is_table blocks ≡ false
no_table_in [] are = refl
no_table_in (block ∷ []) are = by_body block.body are.0
  where
    by_body : (b : ItemBody) → is_container b ≡ true → is_table b ≡ false
    by_body (body.Table ix) is = absurd (true≢false (sym is))
    by_body other is = refl
no_table_in (block ∷ other ∷ blocks) are =
    simp unary_clauses (simp unary_clauses at (no_table_in (other ∷ blocks) are.1))

no_table_among : {s : Source} {view : BuilderView} {frames : List Frame} {inside : Forest Block}
    → IsBuilt s view frames inside → innermost_is is_table view.blocks ≡ false
no_table_among {view = view} {frames = frames} built =
    inner_alike is_table (λ kind. false) (tests_alike is_table (λ kind. false) refl (λ kind. refl) (λ m. refl)
    (λ indent. refl) (λ ix label. refl)) view.texts view.blocks frames built.blocks ∙ never frames
  where
    never : (frames : List Frame) → innermost_of (λ kind. false) frames ≡ false
    never [] = refl
    never (f ∷ outer) = refl

-- so no leaf block is open where only containers are
pub closable_outside : (view : BuilderView) → view.leaf ≡ false → AreContainers view.blocks → has_leaf view ≡ false
closable_outside view outside are = or_from _ _ outside (no_table_in view.blocks are)

pub built_outside : (s : Source) (view : BuilderView) (frames : List Frame) (inside : Forest Block)
    → IsBuilt s view frames inside → has_leaf view ≡ false
built_outside s view frames inside built = or_from _ _ built.outside (no_table_among built)

pub without_built : (s : Source) (view : BuilderView) (frames : List Frame) (inside : Forest Block)
    → IsBuilt s view frames inside → without_leaf view ≡ view.blocks
without_built s view frames inside built = outside_leaf view (built_outside s view frames inside built)

pub without_closable : (view : BuilderView) → view.leaf ≡ false → AreContainers view.blocks
    → without_leaf view ≡ view.blocks
without_closable view outside are = outside_leaf view (closable_outside view outside are)

-- ---- leaf blocks

-- the body of the first of some trees passes a test
abbrev root_is : (ItemBody → Bool) → Forest Shown → Bool
root_is test nil = false
root_is test (node a below after) = test a.item.body

number_alike : (b : ItemBody) → (is_container (unnumbered b) ≡ is_container b) × (is_table (unnumbered b) ≡ is_table b)
number_alike (body.Heading level None) = (refl, refl)
number_alike (body.Heading level (Some ix)) = (refl, refl)
number_alike other = (refl, refl)

-- a table is open as a table
pub table_shown : {s : Source} {view : BuilderView} {frames : List Frame} {inside : Forest Block} {b : Block}
    {in_leaf : Bool} (kind : Kind) → b.kind ≡ kind → leaves.is_table kind ≡ true
    → (is : IsOpenIn s view frames inside in_leaf b) → is_table is.block.body ≡ true
table_shown {s} {frames = frames} {b = b} (was.table_leaf ended head alignments rows) kind table is =
    sym (number_alike is.block.body).1
    ∙ ap (root_is is_table) (is.shown ∙ shown_alone s (around_innermost frames) b _ kind)
table_shown other kind table is = absurd (true≢false (sym table))

body_innermost : {s : Source} {view : BuilderView} {frames : List Frame} {inside : Forest Block} {b : Block}
    {in_leaf : Bool} (test : ItemBody → Bool) → (is : IsOpenIn s view frames inside in_leaf b)
    → innermost_is test view.blocks ≡ test is.block.body
body_innermost test is = rw (is.blocks, innermost_of_opened is.outer is.block)

-- so a leaf block is open
pub open_has_leaf : (s : Source) (view : BuilderView) (frames : List Frame) (inside : Forest Block) (b : Block)
    → IsOpenIn s view frames inside (not (leaves.is_table b.kind)) b → has_leaf view ≡ true
open_has_leaf s view frames inside b is = by_test (leaves.is_table b.kind)
    (λ table. or_right view.leaf _ (body_innermost is_table is ∙ table_shown b.kind refl table is))
    (λ other. or_left view.leaf _ (is.leaf ∙ rw other))

-- the open blocks around it
pub without_open : (s : Source) (view : BuilderView) (frames : List Frame) (inside : Forest Block) (b : Block)
    → (is : IsOpenIn s view frames inside (not (leaves.is_table b.kind)) b) → without_leaf view ≡ is.outer
without_open s view frames inside b is =
    around_leaf view is.outer is.block (open_has_leaf s view frames inside b is) is.blocks

-- a block of a leaf block's kind is shown as no container, and as a table if it is one
kind_shown : (s : Source) (around : Around) (b : Block) (how : LeafKind) (kind : Kind) → GoesOnBy how kind
    → (root_is is_container (shown_of_kind s around b kind) ≡ false)
    × (root_is is_table (shown_of_kind s around b kind) ≡ leaves.is_table kind)
kind_shown s around b leaf.Indented (was.indented_leaf lines) is = (refl, refl)
kind_shown s around b (leaf.Fenced fence) (was.fenced_leaf opening false lines) is = (refl, refl)
kind_shown s around b (leaf.Html found) (was.html_leaf kind false lines) is = (refl, refl)
kind_shown s around b (leaf.Metadata found) (was.metadata_leaf kind false lines) is = (refl, refl)
kind_shown s around b how (was.table_leaf ended head alignments rows) is = (refl, refl)
kind_shown s around b other kind is = absurd is

-- an open leaf block is no container, and a table if it is one
pub leaf_alone : (s : Source) (view : BuilderView) (frames : List Frame) (inside : Forest Block) (b : Block)
    (in_leaf : Bool) (how : LeafKind) → GoesOnBy how b.kind → (is : IsOpenIn s view frames inside in_leaf b)
    → (is_container is.block.body ≡ false) × (is_table is.block.body ≡ leaves.is_table b.kind)
leaf_alone s view frames inside b in_leaf how known is =
    let around = around_innermost frames in let shown = is.shown ∙ shown_alone s around b b.kind refl in
    let kinds = kind_shown s around b how b.kind known in let alike = number_alike is.block.body in
    (cc (alike.0, ap (root_is is_container) shown, kinds.0), cc (alike.1, ap (root_is is_table) shown, kinds.1))

-- ---- leaves of the builder

-- it is open as a leaf of the builder, where one is
pub in_leaf_open : (s : Source) (pass : Pass) (frames : List Frame) (inside : Forest Block) (b : Block)
    → MayEnd s pass frames inside b None → pass.placing.builder.leaf ≡ true
    → IsOpenIn s pass.placing.builder frames inside true b
in_leaf_open s pass frames inside b may leaf = rw (sym may.unended.1.leaf ∙ leaf) at may.unended.1

-- how it goes on
pub leaf_known : (how : LeafKind) (kind : Kind) → not (leaves.is_table kind) ≡ true → GoesOnBy how kind
    → IsLeafKind how kind
leaf_known how (was.table_leaf ended head alignments rows) leaf known = absurd (true≢false (sym leaf))
leaf_known how other leaf known = known

pub leaf_goes_by : (how : LeafKind) (kind : Kind) → leaves.is_table kind ≡ false → IsLeafKind how kind
    → GoesOnBy how kind
leaf_goes_by how (was.table_leaf ended head alignments rows) plain known = absurd (true≢false plain)
leaf_goes_by how other plain known = known

-- of a leaf block nothing is remembered but how it goes on
pub nothing_remembered : (s : Source) (So : List SourceLine → Type 0) (kind : Kind) → is_leaf kind ≡ true
    → IfParagraph s So kind
nothing_remembered s So (was.paragraph_leaf lines) leaf = absurd (true≢false (sym leaf))
nothing_remembered s So other leaf = tt

-- ---- between two lines

-- the last block is a table
abbrev pub last_is_table : Option Block → Bool
last_is_table None = false
last_is_table (Some b) = leaves.is_table b.kind

-- a table is open exactly where the last block is one
pub table_open : (s : Source) (pass : Pass) (frames : List Frame) (inside : Forest Block) (last : Option Block)
    → HasLast s pass frames inside last → innermost_is is_table pass.placing.builder.blocks ≡ last_is_table last
table_open s pass frames inside None has = no_table_among has.0.stands.built
table_open s pass frames inside (Some b) (None, may, knows) = body_innermost is_table may.unended.1
    ∙ (leaf_alone s _ frames inside b _ pass.leaf knows.0 may.unended.1).1
table_open s pass frames inside (Some b) (Some sources, may, knows) =
    no_table_among may.unended.built ∙ sym (ap leaves.is_table may.unended.kind)

-- none is, where the last block is none
pub table_none_last : (last : Option Block) → last_is_table last ≡ false → HasNoTable last
table_none_last None none = tt
table_none_last (Some b) none = none

-- ---- where there is room

-- where there is room no other block is open
pub record IsRoom (pass : Pass) (depth : ℕ) : Type 0 where
  pub leaf : has_leaf pass.placing.builder ≡ false
  pub lines : pass.lines.items ≡ []
  pub few : length pass.placing.builder.blocks ≤ depth
  pub other : innermost_is is_list pass.placing.builder.blocks ≡ false

pub none_held : (lines : List HeldLine) → (length lines == 0) ≡ true → lines ≡ []
none_held lines none = nil_from_length lines (grind (arith, nat_tests, none))

-- nothing is open beyond the outermost blocks
down_is : (pass : Pass) (depth : ℕ) → is_down pass depth ≡ true → (has_leaf pass.placing.builder ≡ false)
    × (pass.lines.items ≡ []) × (length pass.placing.builder.blocks ≤ depth)
down_is pass depth is =
    let down = and_parts (has_ended pass) _ is in
    let ended = and_parts (not (has_leaf pass.placing.builder)) _ down.0 in
    (not-true _ ended.0, none_held pass.lines.items ended.1, grind (arith, nat_tests, down.1))

pub room_is : (pass : Pass) (depth : ℕ) → has_room pass depth ≡ true → IsRoom pass depth
room_is pass depth free =
    let room = and_parts (is_down pass depth) _ free in let down = down_is pass depth room.0 in
    record { leaf = down.0; lines = down.1; few = down.2; other = not-true _ room.1 }

-- some block is open beyond them
pub not_down : (pass : Pass) (depth : ℕ) → (has_leaf pass.placing.builder ≡ false → pass.lines.items ≡ []
    → length pass.placing.builder.blocks ≤ depth → ⊥) → is_down pass depth ≡ false
not_down pass depth never = false_from_ne_true (is_down pass depth) (λ is.
    let down = down_is pass depth is in never down.0 down.1 down.2)

-- something is in the way
pub not_room : (pass : Pass) (depth : ℕ) → (IsRoom pass depth → ⊥) → has_room pass depth ≡ false
not_room pass depth never = false_from_ne_true (has_room pass depth) (λ is. never (room_is pass depth is))

-- inside a container that was opened in the line there is
pub room_inside : (s : Source) (pass : Pass) (frames : List Frame) (depth : ℕ) → MayOpen s pass frames
    → depth ≡ length frames → has_room pass depth ≡ true
room_inside s pass frames depth may deep =
    let view = pass.placing.builder in let many = as_many_containers s view frames nil may.built in
    let within : nat_le (length view.blocks) depth ≡ true = grind (arith, nat_tests, many, deep) in
    let other = list_innermost s view frames nil may.built ∙ may.free in
    rw (built_outside s view frames nil may.built, may.lines, within, other)

-- so room may be made for what the rest of the line begins
pub here_room : (s : Source) (pass : Pass) (rest : LineRest) (turn : Turn) (source : SourceLine)
    (blocks : Forest Block) → IsHere s pass rest turn source blocks → MayMakeRoom pass rest.depth
here_room s pass rest (first before line) source blocks here = λ none. here.holds.ready.closable
here_room s pass rest (later frames) source blocks here =
    λ none. absurd (true≢false (sym (room_inside s pass frames rest.depth here.opened.free here.depth) ∙ none))
