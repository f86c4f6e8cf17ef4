-- What a line makes of blocks of which some containers on the right edge are open: which of these it reaches, and
-- what stands around what it makes of the others.
use Rattle.std.proofs.Common.{not, ◌≡◌, ℕ, Bool, true, false, ◌&&◌, List, [], ◌∷◌, ◌++◌, Option, Some, None, map, refl}
use Rattle.std.proofs.Common.{sym, ap, ◌∙◌, length, ◌≤◌, arith, length-append, append-nil}
use Rattle.markdown_plain.proofs.Names.{and-false, and_parts, none-some, same_Some, option_or, Forest, nil, node}
use Rattle.markdown_plain.proofs.Names.{followed_by, past_footnote, past_indent, past_quote, LineLeft, ListMarker}
use Rattle.markdown_plain.proofs.Names.{Source, SourceLine, is_blank_rest, rest_inside, Block, Kind, container_with}
use Rattle.markdown_plain.proofs.Names.{goes_on, is_nil, lazily, line_block, with_lazy, with_line, is_text, next_item}
use Rattle.markdown_plain.proofs.Names.{AreContainers, AreNested, Frame, IsContainer, forgotten, innermost_is}
use Rattle.markdown_plain.proofs.Names.{inside_container, is_list, rebuilt, touched, is_item, is_quote, Reached}
use Rattle.markdown_plain.proofs.Names.{reached, closed_in, outer_within, ItemBody, BlockQuoteKind, OpenBlock, AreOpen}
use Rattle.markdown_plain.proofs.Names.{IsBodyOf, begins, list_all, nat_tests}
use Rattle.std.proofs.lemmas.Bool.{true≢false}
use Rattle.std.specs.Prelude.{if◌then◌else◌, nat_lt}
use Rattle.std.specs.Option.{option_map}
use Rattle.markdown_block_rules.specs.BlockGrowth.{block_with, with_rest}
use Rattle.markdown_plain.specs.Frames.{reached_past, reached_in}
use Rattle.markdown_base.specs.declared.index.CowIndex.{CowIndex}
use Rattle.markdown_block_rules.specs.BlockGrowth as was
use Rattle.markdown_base.specs.declared.item.ItemBody.TheVariants as item
use Rattle.markdown_plain.specs.ListLooseness as body
use Rattle.markdown_plain.specs.OpenBlocks as block
use Rattle.markdown_lines.specs.declared.block_start.Before.TheVariants as paragraph
use Rattle.markdown_plain.proofs.LeafTreesLemmas.{by_test, innermost_of_opened}

-- ---- frames

-- open containers in others
pub rebuilt_in : (inner outer : List Frame) (inside : Forest Block)
    → rebuilt (inner ++ outer) inside ≡ rebuilt outer (rebuilt inner inside)
rebuilt_in [] outer inside = refl
rebuilt_in (f ∷ inner) outer inside = rebuilt_in inner outer (forgotten f inside)

-- open containers of which the innermost passes a test of its kind
pub record Innermost (test : Kind → Bool) (frames : List Frame) : Type 0 where
  pub outer : List Frame
  pub last : Frame
  pub are : frames ≡ last ∷ outer
  pub passes : test last.block.kind ≡ true

pub innermost_apart : (test : Kind → Bool) (frames : List Frame) → innermost_is test frames ≡ true
    → Innermost test frames
innermost_apart test [] passes = absurd (true≢false (sym passes))
innermost_apart test (f ∷ outer) passes = record { outer = outer; last = f; are = refl; passes = passes }

-- the marker of a list
pub record HasMarker (kind : Kind) : Type 0 where
  pub marker : ListMarker
  pub is : kind ≡ was.list_container marker

pub marker_of_list : (kind : Kind) → is_list kind ≡ true → HasMarker kind
marker_of_list (was.list_container marker) list = record { marker = marker; is = refl }
marker_of_list other list = absurd (true≢false (sym list))

pub inner_containers : (inner outer : List Frame) → AreContainers (inner ++ outer) → AreContainers inner
inner_containers [] outer are = tt
inner_containers (f ∷ inner) outer are = (are.0, inner_containers inner outer are.1)

pub outer_containers : (inner outer : List Frame) → AreContainers (inner ++ outer) → AreContainers outer
outer_containers [] outer are = are
outer_containers (f ∷ inner) outer are = outer_containers inner outer are.1

pub outer_nested : (inner outer : List Frame) → AreNested (inner ++ outer) → AreNested outer
outer_nested [] outer nested = nested
outer_nested (f ∷ inner) outer nested = outer_nested inner outer nested.1

-- ---- the last block

pub ends_in_block : (before : Forest Block) (b : Block) (below : Forest Block)
    → is_nil (followed_by before (node b below nil)) ≡ false
ends_in_block nil b below = refl
ends_in_block (node c inside after) b below = refl

mapped_same : {A : Type 0} (o : Option A) → option_map (λ (x : A). x) o ≡ o
mapped_same None = refl
mapped_same (Some x) = refl

mapped_twice : {A B C : Type 0} (f : B → C) (g : A → B) (o : Option A)
    → option_map f (option_map g o) ≡ option_map (λ x. f (g x)) o
mapped_twice f g None = refl
mapped_twice f g (Some x) = refl

-- the blocks before a block are unchanged where it goes on
pub goes_on_last : (s : Source) (before : Forest Block) (b : Block) (below : Forest Block) (l : SourceLine)
    → goes_on s (followed_by before (node b below nil)) l
    ≡ option_map (followed_by before) (goes_on s (node b below nil) l)
unfolding goes_on
goes_on_last s nil b below l = sym (mapped_same (block_with s l b below (goes_on s below)))
goes_on_last s (node c inside after) b below l =
    rw (ends_in_block after b below, goes_on_last s after b below l)
    (mapped_twice (λ f. node c inside f) (followed_by after) (goes_on s (node b below nil) l))

-- and where it does so lazily
pub with_lazy_last : (before : Forest Block) (b : Block) (below : Forest Block) (l : SourceLine)
    → with_lazy l (followed_by before (node b below nil))
    ≡ option_map (followed_by before) (with_lazy l (node b below nil))
unfolding with_lazy
with_lazy_last nil b below l = sym (mapped_same (with_lazy l (node b below nil)))
with_lazy_last (node c inside after) b below l =
    rw (ends_in_block after b below, with_lazy_last after b below l)
    (mapped_twice (λ f. node c inside f) (followed_by after) (with_lazy l (node b below nil)))

-- a container goes on as what a line makes of what is in it
block_goes_on : (s : Source) (below : Forest Block) (l : SourceLine) (start first last : ℕ) (kind : Kind)
    → IsContainer kind
    → goes_on s (node (record { start = start; first = first; last = last; kind = kind }) below nil) l
    ≡ option_map (λ r. node (record { start = start; first = first; last = l.next; kind = kind }) r nil)
    (container_with s l below (goes_on s below) kind)
unfolding goes_on
block_goes_on s below l start first last was.quote_container is = refl
block_goes_on s below l start first last (was.alert_container kind) is = refl
block_goes_on s below l start first last (was.list_container marker) is = refl
block_goes_on s below l start first last (was.item_container indent) is = refl
block_goes_on s below l start first last (was.footnote_container label) is = refl
block_goes_on s below l start first last other is = absurd is

pub container_goes_on : (s : Source) (f : Frame) (below : Forest Block) (l : SourceLine) → IsContainer f.block.kind
    → goes_on s (forgotten f below) l
    ≡ option_map (forgotten (touched l f)) (container_with s l below (goes_on s below) f.block.kind)
container_goes_on s f below l is =
    rw (
      goes_on_last s f.before f.block below l,
      block_goes_on s below l f.block.start f.block.first f.block.last f.block.kind is,
    ) (mapped_twice (followed_by f.before) (λ (r : Forest Block). node (touched l f).block r nil) _)

-- a container that ends with a paragraph goes on lazily as what is in it does
block_goes_lazily : (below : Forest Block) (l : SourceLine) (start first last : ℕ) (kind : Kind) → IsContainer kind
    → with_lazy l (node (record { start = start; first = first; last = last; kind = kind }) below nil)
    ≡ option_map (λ r. node (record { start = start; first = first; last = l.next; kind = kind }) r nil)
    (with_lazy l below)
unfolding with_lazy
block_goes_lazily below l start first last was.quote_container is = refl
block_goes_lazily below l start first last (was.alert_container kind) is = refl
block_goes_lazily below l start first last (was.list_container marker) is = refl
block_goes_lazily below l start first last (was.item_container indent) is = refl
block_goes_lazily below l start first last (was.footnote_container label) is = refl
block_goes_lazily below l start first last other is = absurd is

pub container_goes_lazily : (f : Frame) (below : Forest Block) (l : SourceLine) → IsContainer f.block.kind
    → with_lazy l (forgotten f below) ≡ option_map (forgotten (touched l f)) (with_lazy l below)
container_goes_lazily f below l is =
    rw (
      with_lazy_last f.before f.block below l,
      block_goes_lazily below l f.block.start f.block.first f.block.last f.block.kind is,
    ) (mapped_twice (followed_by f.before) (λ (r : Forest Block). node (touched l f).block r nil) _)

-- ---- one container

-- where it takes its part of a line
rest_taken : (s : Source) (below : Forest Block) (l rest : SourceLine) (left : Option LineLeft)
    → option_map (λ left. rest_inside left l) left ≡ Some rest
    → with_rest s l below (goes_on s below) left ≡ Some (with_line s below rest)
rest_taken s below l rest None takes = absurd (none-some rest takes)
rest_taken s below l rest (Some left) takes =
    ap (λ r. Some (with_line s below r)) (same_Some (rest_inside left l) rest takes)

-- also where it may end before the line
rest_going_on : (s : Source) (below : Forest Block) (l rest : SourceLine) (ends : Bool) (left : Option LineLeft)
    → (if ends then None else option_map (λ left. rest_inside left l) left) ≡ Some rest
    → (if ends then None else with_rest s l below (goes_on s below) left) ≡ Some (with_line s below rest)
rest_going_on s below l rest true left takes = absurd (none-some rest takes)
rest_going_on s below l rest false left takes = rest_taken s below l rest left takes

-- and where it takes nothing of it
rest_missing : (s : Source) (below : Forest Block) (l : SourceLine) (left : Option LineLeft)
    → option_map (λ left. rest_inside left l) left ≡ None
    → with_rest s l below (goes_on s below) left ≡ lazily s l below
rest_missing s below l None takes = refl
rest_missing s below l (Some left) takes = absurd (none-some (rest_inside left l) (sym takes))

-- also where it may end before a blank line
rest_off : (s : Source) (below : Forest Block) (l : SourceLine) (ending : Bool) (left : Option LineLeft)
    → (if is_blank_rest l && ending then None else option_map (λ left. rest_inside left l) left) ≡ None
    → (if is_blank_rest l && ending then None else with_rest s l below (goes_on s below) left) ≡ lazily s l below
rest_off s below l true left takes = decided (is_blank_rest l) refl takes
  where
    decided : (blank : Bool) → is_blank_rest l ≡ blank
        → (if blank && true then None else option_map (λ left. rest_inside left l) left) ≡ None
        → (if blank && true then None else with_rest s l below (goes_on s below) left) ≡ lazily s l below
    decided true is takes = rw is refl
    decided false is takes = rest_missing s below l left takes
rest_off s below l false left takes = rw and-false (rest_missing s below l left (rw and-false at takes))

-- a container other than a list that takes its part of a line goes on, with what is left of the line in it
takes_rest : (s : Source) (below : Forest Block) (l rest : SourceLine) (kind : Kind) → IsContainer kind
    → is_list kind ≡ false → inside_container s l (is_nil below) kind ≡ Some rest
    → container_with s l below (goes_on s below) kind ≡ Some (with_line s below rest)
takes_rest s below l rest was.quote_container is plain takes = rest_taken s below l rest (past_quote l.left) takes
takes_rest s below l rest (was.alert_container kind) is plain takes =
    rest_taken s below l rest (past_quote l.left) takes
takes_rest s below l rest (was.list_container marker) is plain takes = absurd (true≢false plain)
takes_rest s below l rest (was.item_container indent) is plain takes =
    rest_going_on s below l rest (is_blank_rest l && is_nil below) (past_indent indent l.left) takes
takes_rest s below l rest (was.footnote_container label) is plain takes =
    rest_going_on s below l rest (is_blank_rest l && s.syntax.old_footnotes)
    (past_footnote (not s.syntax.old_footnotes) l.left) takes
takes_rest s below l rest other is plain takes = absurd is

-- a container that does not goes on lazily at most
pub takes_nothing : (s : Source) (below : Forest Block) (l : SourceLine) (kind : Kind) → IsContainer kind
    → inside_container s l (is_nil below) kind ≡ None
    → container_with s l below (goes_on s below) kind ≡ lazily s l below
takes_nothing s below l was.quote_container is takes = rest_missing s below l (past_quote l.left) takes
takes_nothing s below l (was.alert_container kind) is takes = rest_missing s below l (past_quote l.left) takes
takes_nothing s below l (was.list_container marker) is takes = absurd (none-some l (sym takes))
takes_nothing s below l (was.item_container indent) is takes =
    rest_off s below l (is_nil below) (past_indent indent l.left) takes
takes_nothing s below l (was.footnote_container label) is takes =
    rest_off s below l s.syntax.old_footnotes (past_footnote (not s.syntax.old_footnotes) l.left) takes
takes_nothing s below l other is takes = absurd is

-- a list takes nothing of a line
pub list_takes : (s : Source) (empty : Bool) (l rest : SourceLine) (kind : Kind) → is_list kind ≡ true
    → inside_container s l empty kind ≡ Some rest → l ≡ rest
list_takes s empty l rest (was.list_container marker) list takes = same_Some l rest takes
list_takes s empty l rest other list takes = absurd (true≢false (sym list))

-- a list goes on as its last item does
list_grows : (s : Source) (below grown : Forest Block) (l : SourceLine) (kind : Kind) → is_list kind ≡ true
    → goes_on s below l ≡ Some grown → container_with s l below (goes_on s below) kind ≡ Some grown
list_grows s below grown l (was.list_container marker) list goes = rw goes refl
list_grows s below grown l other list goes = absurd (true≢false (sym list))

-- what is left of a line in a container ends where the line does
module _ {A : Type 0} (part : SourceLine → A) (same : (left : LineLeft) (l : SourceLine)
    → part (rest_inside left l) ≡ part l) where
  left_kept : (l rest : SourceLine) (left : Option LineLeft) → option_map (λ left. rest_inside left l) left ≡ Some rest
      → part rest ≡ part l
  left_kept l rest None takes = absurd (none-some rest takes)
  left_kept l rest (Some left) takes = ap part (sym (same_Some (rest_inside left l) rest takes)) ∙ same left l

  part_kept : (l rest : SourceLine) (ends : Bool) (left : Option LineLeft)
      → (if ends then None else option_map (λ left. rest_inside left l) left) ≡ Some rest → part rest ≡ part l
  part_kept l rest true left takes = absurd (none-some rest takes)
  part_kept l rest false left takes = left_kept l rest left takes

  -- what a container leaves of a line has the same part, where it has not to do with what is left
  pub rest_kept : (s : Source) (empty : Bool) (l rest : SourceLine) (kind : Kind)
      → inside_container s l empty kind ≡ Some rest → part rest ≡ part l
  rest_kept s empty l rest was.quote_container takes = left_kept l rest (past_quote l.left) takes
  rest_kept s empty l rest (was.alert_container kind) takes = left_kept l rest (past_quote l.left) takes
  rest_kept s empty l rest (was.footnote_container label) takes =
      part_kept l rest (is_blank_rest l && s.syntax.old_footnotes) (past_footnote (not s.syntax.old_footnotes) l.left)
      takes
  rest_kept s empty l rest (was.item_container indent) takes =
      part_kept l rest (is_blank_rest l && empty) (past_indent indent l.left) takes
  rest_kept s empty l rest other takes = ap part (sym (same_Some l rest takes))

-- ---- containers of one kind

pub item_no_list : (kind : Kind) → is_item kind ≡ true → is_list kind ≡ false
item_no_list (was.list_container marker) is = absurd (true≢false (sym is))
item_no_list other is = refl

pub list_no_item : (kind : Kind) → is_list kind ≡ true → is_item kind ≡ false
list_no_item (was.item_container indent) is = absurd (true≢false (sym is))
list_no_item other is = refl

pub item_no_quote : (kind : Kind) → is_item kind ≡ true → is_quote kind ≡ false
item_no_quote (was.item_container indent) is = refl
item_no_quote other is = absurd (true≢false (sym is))

pub list_no_quote : (kind : Kind) → is_list kind ≡ true → is_quote kind ≡ false
list_no_quote (was.list_container marker) is = refl
list_no_quote other is = absurd (true≢false (sym is))

-- ---- the open blocks

-- there are as many as containers
pub as_many_open : (texts : List (List ℕ)) (blocks : List OpenBlock) (frames : List Frame) → AreOpen texts blocks frames
    → length blocks ≡ length frames
as_many_open texts blocks [] none = rw none refl
as_many_open texts blocks (f ∷ outer) (block, others, are, is, around) =
    omega (arith, ap length are, length-append others (block ∷ []), as_many_open texts others outer around)

-- a test of bodies is one of kinds
abbrev pub TestsAlike : (ItemBody → Bool) → (Kind → Bool) → Type 0
TestsAlike test of = (texts : List (List ℕ)) (kind : Kind) (b : ItemBody) → IsBodyOf texts kind b → test b ≡ of kind

-- it says of the innermost open block what one of kinds does
pub inner_alike : (test : ItemBody → Bool) (of : Kind → Bool) → TestsAlike test of → (texts : List (List ℕ))
    (blocks : List OpenBlock) (frames : List Frame) → AreOpen texts blocks frames
    → block.innermost_is test blocks ≡ innermost_is of frames
inner_alike test of alike texts blocks [] none = rw none refl
inner_alike test of alike texts blocks (f ∷ outer) (b, others, are, is, around) =
    rw (are, innermost_of_opened) (alike texts f.block.kind b.body is.body)

-- it is one where it is so for the body of each container
pub tests_alike : (test : ItemBody → Bool) (of : Kind → Bool) → test (item.BlockQuote None) ≡ of was.quote_container
    → ((kind : BlockQuoteKind) → test (item.BlockQuote (Some kind)) ≡ of (was.alert_container kind))
    → ((m : ListMarker) → test (item.List true m.character m.first) ≡ of (was.list_container m))
    → ((indent : ℕ) → test (item.ListItem indent) ≡ of (was.item_container indent))
    → ((ix : CowIndex) (label : List ℕ) → test (item.FootnoteDefinition ix) ≡ of (was.footnote_container label))
    → TestsAlike test of
tests_alike test of quote alert list one note texts was.quote_container b is = rw is quote
tests_alike test of quote alert list one note texts (was.alert_container kind) b is = rw is (alert kind)
tests_alike test of quote alert list one note texts (was.list_container marker) b is = rw is (list marker)
tests_alike test of quote alert list one note texts (was.item_container indent) b is = rw is (one indent)
tests_alike test of quote alert list one note texts (was.footnote_container label) b is = rw is.1 (note is.0 label)
tests_alike test of quote alert list one note texts other b is = absurd is

pub list_alike : TestsAlike block.is_list is_list
list_alike = tests_alike block.is_list is_list refl (λ kind. refl) (λ m. refl) (λ indent. refl) (λ ix label. refl)

pub quote_alike : TestsAlike block.is_quote is_quote
quote_alike = tests_alike block.is_quote is_quote refl (λ kind. refl) (λ m. refl) (λ indent. refl) (λ ix label. refl)

pub list_of_open : (texts : List (List ℕ)) (blocks : List OpenBlock) (frames : List Frame) → AreOpen texts blocks frames
    → block.innermost_is block.is_list blocks ≡ innermost_is is_list frames
list_of_open texts blocks frames these = inner_alike block.is_list is_list list_alike texts blocks frames these

pub item_of_open : (texts : List (List ℕ)) (blocks : List OpenBlock) (frames : List Frame) → AreOpen texts blocks frames
    → block.innermost_is body.is_item blocks ≡ innermost_is is_item frames
item_of_open texts blocks frames these =
    inner_alike body.is_item is_item
    (tests_alike body.is_item is_item refl (λ kind. refl) (λ m. refl) (λ indent. refl) (λ ix label. refl)) texts blocks
    frames these

-- ---- how far a line reaches

-- what is reached with one container more: where all others go on, it does too, or it is where the line stops
module _ (P : Reached → Type 0) (s : Source) (f : Frame) (outer : List Frame) (inside : Forest Block) (l : SourceLine)
  where
    pub on_reached :
        ((rest : SourceLine) → (reached s outer (forgotten f inside) l).inner ≡ []
        → inside_container s (reached s outer (forgotten f inside) l).rest (is_nil inside) f.block.kind ≡ Some rest
        → P (record { outer = f ∷ (reached s outer (forgotten f inside) l).outer; inner = []; rest = rest }))
        → ((reached s outer (forgotten f inside) l).inner ≡ []
        → inside_container s (reached s outer (forgotten f inside) l).rest (is_nil inside) f.block.kind ≡ None
        → P (record (reached s outer (forgotten f inside) l) { inner = f ∷ [] }))
        → ((g : Frame) (inner : List Frame) → (reached s outer (forgotten f inside) l).inner ≡ g ∷ inner
        → P (record (reached s outer (forgotten f inside) l) { inner = f ∷ g ∷ inner }))
        → P (reached s (f ∷ outer) inside l)
    unfolding reached
    on_reached goes stops further = by_inner r.inner refl
      where
        r : Reached
        r = reached s outer (forgotten f inside) l

        by_rest : r.inner ≡ [] → (rest : Option SourceLine)
            → inside_container s r.rest (is_nil inside) f.block.kind ≡ rest → P (reached_past f r rest)
        by_rest all None takes = stops all takes
        by_rest all (Some rest) takes = goes rest all takes

        by_inner : (inner : List Frame) → r.inner ≡ inner → P (reached_in s f (is_nil inside) r inner)
        by_inner [] all = by_rest all (inside_container s r.rest (is_nil inside) f.block.kind) refl
        by_inner (g ∷ inner) some = further g inner some

-- some open containers go on, and the others do not
pub reached_parts : (s : Source) (frames : List Frame) (inside : Forest Block) (l : SourceLine)
    → (reached s frames inside l).inner ++ (reached s frames inside l).outer ≡ frames
unfolding reached
reached_parts s [] inside l = refl
reached_parts s (f ∷ outer) inside l =
    let parts = reached_parts s outer (forgotten f inside) l in
    on_reached (λ r. r.inner ++ r.outer ≡ f ∷ outer) s f outer inside l (λ rest all takes. cc (rw all at parts))
    (λ all takes. cc (rw all at parts)) (λ g inner some. cc (rw some at parts))

-- those are the outermost, by their number
pub all_within : (frames : List Frame) (depth : ℕ) → length frames ≤ depth
    → (outer_within depth frames ≡ frames) × ((inside : Forest Block) → closed_in depth frames inside ≡ inside)
all_within [] depth few = (refl, λ inside. refl)
all_within (f ∷ outer) depth few =
    let less : nat_lt (length outer) depth ≡ true = grind (arith, nat_tests, few) in
    (rw less refl, λ inside. rw less refl)

pub within_parts : (inner outer : List Frame) (depth : ℕ) → depth ≡ length outer
    → (outer_within depth (inner ++ outer) ≡ outer)
    × ((inside : Forest Block) → closed_in depth (inner ++ outer) inside ≡ rebuilt inner inside)
within_parts [] outer depth is = all_within outer depth (omega (arith, is))
within_parts (f ∷ inner) outer depth is =
    let more : nat_lt (length (inner ++ outer)) depth ≡ false =
    grind (arith, nat_tests, is, length-append inner outer) in
    let others = within_parts inner outer depth is in
    (rw more others.0, λ inside. rw more (others.1 (forgotten f inside)))

pub none_within : (frames : List Frame)
    → (outer_within 0 frames ≡ []) × ((inside : Forest Block) → closed_in 0 frames inside ≡ rebuilt frames inside)
none_within frames = rw append-nil at (within_parts frames [] 0 refl)

pub outer_taken : (s : Source) (frames : List Frame) (inside : Forest Block) (l : SourceLine)
    → outer_within (length (reached s frames inside l).outer) frames ≡ (reached s frames inside l).outer
outer_taken s frames inside l =
    let r = reached s frames inside l in rw reached_parts at (within_parts r.inner r.outer (length r.outer) refl).0

pub inner_left : (s : Source) (frames : List Frame) (inside : Forest Block) (l : SourceLine)
    → closed_in (length (reached s frames inside l).outer) frames inside
    ≡ rebuilt (reached s frames inside l).inner inside
inner_left s frames inside l =
    let r = reached s frames inside l in
    rw reached_parts at ((within_parts r.inner r.outer (length r.outer) refl).1 inside)

-- where all go on, those are the frames
pub all_outer : (s : Source) (frames : List Frame) (inside : Forest Block) (l : SourceLine)
    → (reached s frames inside l).inner ≡ [] → (reached s frames inside l).outer ≡ frames
all_outer s frames inside l none = rw none at (reached_parts s frames inside l)

-- they hold the same blocks
pub reached_same : (s : Source) (frames : List Frame) (inside : Forest Block) (l : SourceLine)
    → rebuilt (reached s frames inside l).outer (rebuilt (reached s frames inside l).inner inside)
    ≡ rebuilt frames inside
reached_same s frames inside l =
    let r = reached s frames inside l in sym (rebuilt_in r.inner r.outer inside) ∙ rw reached_parts refl

-- what is left of the line has the same parts but what is left
module _ {A : Type 0} (part : SourceLine → A) (same : (left : LineLeft) (l : SourceLine)
    → part (rest_inside left l) ≡ part l) where
  reached_kept : (s : Source) (frames : List Frame) (inside : Forest Block) (l : SourceLine)
      → part (reached s frames inside l).rest ≡ part l
  unfolding reached
  reached_kept s [] inside l = refl
  reached_kept s (f ∷ outer) inside l =
      let others = reached_kept s outer (forgotten f inside) l in
      on_reached (λ r. part r.rest ≡ part l) s f outer inside l
      (λ rest all takes. rest_kept part same s (is_nil inside) _ rest f.block.kind takes ∙ others)
      (λ all takes. others) (λ g inner some. others)

-- it ends where the line does
pub reached_next : (s : Source) (frames : List Frame) (inside : Forest Block) (l : SourceLine)
    → (reached s frames inside l).rest.next ≡ l.next
reached_next s frames inside l = reached_kept (λ (l : SourceLine). l.next) (λ left l. refl) s frames inside l

-- and has no indentation of its own
pub reached_indent : (s : Source) (frames : List Frame) (inside : Forest Block) (l : SourceLine)
    → (reached s frames inside l).rest.indent ≡ l.indent
reached_indent s frames inside l = reached_kept (λ (l : SourceLine). l.indent) (λ left l. refl) s frames inside l

-- where only lists go on, all of the line is left
pub lists_leave : (s : Source) (frames : List Frame) (inside : Forest Block) (l : SourceLine)
    → list_all (λ (f : Frame). is_list f.block.kind) (reached s frames inside l).outer ≡ true
    → (reached s frames inside l).rest ≡ l
unfolding reached
lists_leave s [] inside l = λ lists. refl
lists_leave s (f ∷ outer) inside l =
    let others = lists_leave s outer (forgotten f inside) l in
    on_reached (λ r. list_all (λ (g : Frame). is_list g.block.kind) r.outer ≡ true → r.rest ≡ l) s f outer inside l
    (λ rest all takes lists.
    let both = and_parts (is_list f.block.kind) _ lists in
    sym (list_takes s (is_nil inside) _ rest f.block.kind both.0 takes) ∙ others both.1) (λ all takes. others)
    (λ g inner some. others)

-- ---- what the line makes of the blocks

-- containers are touched alike by what is left of a line
pub touched_alike : (l m : SourceLine) (frames : List Frame) → m.next ≡ l.next
    → map (touched m) frames ≡ map (touched l) frames
touched_alike l m frames next = rw next refl

-- a container that takes nothing of a line goes on lazily at most
stopped : (s : Source) (inside : Forest Block) (l : SourceLine) (f : Frame) → IsContainer f.block.kind
    → inside_container s l (is_nil inside) f.block.kind ≡ None
    → goes_on s (forgotten f inside) l ≡ lazily s l (forgotten f inside)
stopped s inside l f is stops = container_goes_on s f inside l is
    ∙ rw (takes_nothing s inside l f.block.kind is stops)
    (by_test (not (is_blank_rest l) && is_text (begins s paragraph.Lazy l))
    (λ e. rw e (sym (container_goes_lazily f inside l is))) (λ e. rw e refl))

-- what is in the containers that the line does not reach goes on lazily at most
pub inner_goes_lazily : (s : Source) (frames : List Frame) (inside : Forest Block) (l : SourceLine) (f : Frame)
    (others : List Frame) → AreContainers frames → (reached s frames inside l).inner ≡ f ∷ others
    → goes_on s (rebuilt (reached s frames inside l).inner inside) (reached s frames inside l).rest
    ≡ lazily s (reached s frames inside l).rest (rebuilt (reached s frames inside l).inner inside)
unfolding reached
inner_goes_lazily s [] inside l f others are more = cc (more)
inner_goes_lazily s (h ∷ outer) inside l f others are more =
    on_reached (λ r. r.inner ≡ f ∷ others
    → goes_on s (rebuilt r.inner inside) r.rest ≡ lazily s r.rest (rebuilt r.inner inside)) s h outer inside l
    (λ rest all takes none. cc (none)) (λ all takes some. stopped s inside _ h are.0 takes)
    (λ g inner further some. rw further at (inner_goes_lazily s outer (forgotten h inside) l g inner are.1 further))
    more

-- a container goes on as what is in it does
container_grows : (s : Source) (f : Frame) (inside grown : Forest Block) (l rest : SourceLine)
    → IsContainer f.block.kind
    → inside_container s l (is_nil inside) f.block.kind ≡ Some rest → goes_on s inside rest ≡ Some grown
    → goes_on s (forgotten f inside) l ≡ Some (forgotten (touched l f) grown)
container_grows s f inside grown l rest is takes goes = container_goes_on s f inside l is
    ∙ by_test (is_list f.block.kind) (λ list.
    let same = list_takes s (is_nil inside) l rest f.block.kind list takes in
    rw (list_grows s inside grown l f.block.kind list (rw same goes)) refl)
    (λ plain. rw (takes_rest s inside l rest f.block.kind is plain takes, goes) refl)

-- a list goes on as its last item does, or with another item
list_goes_on : (s : Source) (f : Frame) (below : Forest Block) (l : SourceLine) (marker : ListMarker)
    → f.block.kind ≡ was.list_container marker → goes_on s (forgotten f below) l ≡ option_map (forgotten (touched l f))
    (option_or (goes_on s below l) (option_map (followed_by below) (next_item s l marker)))
list_goes_on s f below l marker is = container_goes_on s f below l (rw is tt) ∙ rw is refl

-- ---- what a line makes of blocks with these open containers

-- what is in the innermost container that it reaches goes on
pub last_goes_on : (s : Source) (frames : List Frame) (inside : Forest Block) (l : SourceLine) → AreContainers frames
    → AreNested frames → (grown : Forest Block)
    → goes_on s (rebuilt (reached s frames inside l).inner inside) (reached s frames inside l).rest ≡ Some grown
    → with_line s (rebuilt frames inside) l ≡ rebuilt (map (touched l) (reached s frames inside l).outer) grown
unfolding reached
last_goes_on s [] inside l are nested grown = λ goes. rw goes refl
last_goes_on s (f ∷ outer) inside l are nested grown =
    let others = last_goes_on s outer (forgotten f inside) l are.1 nested.1 in
    on_reached (λ r. goes_on s (rebuilt r.inner inside) r.rest ≡ Some grown
    → with_line s (rebuilt (f ∷ outer) inside) l ≡ rebuilt (map (touched l) r.outer) grown) s f outer inside l
    (λ rest all takes goes. rw all at (others (forgotten (touched l f) grown))
    (container_grows s f inside grown _ _ are.0 takes goes ∙ rw reached_next refl))
    (λ all takes. rw all at (others grown))
    (λ g inner some. rw some at (others grown))

-- that container is no list
outer_go_on : (s : Source) (frames : List Frame) (inside : Forest Block) (l : SourceLine) → AreContainers frames
    → AreNested frames → innermost_is is_list (reached s frames inside l).outer ≡ false
    → with_line s (rebuilt frames inside) l ≡ rebuilt (map (touched l) (reached s frames inside l).outer)
    (with_line s (rebuilt (reached s frames inside l).inner inside) (reached s frames inside l).rest)
unfolding reached
outer_go_on s [] inside l are nested = λ plain. refl
outer_go_on s (f ∷ outer) inside l are nested =
    let others = outer_go_on s outer (forgotten f inside) l are.1 nested.1 in
    on_reached (λ r. innermost_is is_list r.outer ≡ false → with_line s (rebuilt (f ∷ outer) inside) l
    ≡ rebuilt (map (touched l) r.outer) (with_line s (rebuilt r.inner inside) r.rest)) s f outer inside l
    (λ rest all takes plain.
    let m = (reached s outer (forgotten f inside) l).rest in
    let goes : goes_on s (forgotten f inside) m ≡ Some (forgotten (touched m f) (with_line s inside rest)) =
    container_goes_on s f inside m are.0 ∙ rw (takes_rest s inside m rest f.block.kind are.0 plain takes) refl in
    rw all at (last_goes_on s outer (forgotten f inside) l are.1 nested.1
    (forgotten (touched l f) (with_line s inside rest)))
    (goes ∙ rw reached_next refl)) (λ all takes. rw all at others) (λ g inner some. rw some at others)

-- it is a list in which nothing goes on, so that it goes on with another item, or ends
abbrev ListGoesOn : Source → List Frame → Frame → ListMarker → Forest Block → Forest Block → SourceLine → Reached
    → Type 0
ListGoesOn s outer f marker inside whole l r =
    r.outer ≡ f ∷ outer → goes_on s (rebuilt r.inner inside) r.rest ≡ None
    → ((new : Forest Block) → next_item s r.rest marker ≡ Some new → with_line s whole l
    ≡ rebuilt (map (touched l) (f ∷ outer)) (followed_by (rebuilt r.inner inside) new))
    × (next_item s r.rest marker ≡ None → with_line s whole l ≡ rebuilt (map (touched l) outer)
    (followed_by (forgotten f (rebuilt r.inner inside)) (line_block s r.rest)))

list_reached : (s : Source) (frames : List Frame) (inside : Forest Block) (l : SourceLine) → AreContainers frames
    → AreNested frames → (outer : List Frame) (f : Frame) (marker : ListMarker)
    → f.block.kind ≡ was.list_container marker
    → ListGoesOn s outer f marker inside (rebuilt frames inside) l (reached s frames inside l)
unfolding reached
list_reached s [] inside l are nested outer f marker list = λ ends. cc (ends)
list_reached s (g ∷ around) inside l are nested outer f marker list =
    let others = list_reached s around (forgotten g inside) l are.1 nested.1 outer f marker list in
    let r = reached s around (forgotten g inside) l in
    on_reached (ListGoesOn s outer f marker inside (rebuilt (g ∷ around) inside) l) s g around inside l
    (λ rest all takes ends none.
    let first : g ≡ f = cc (ends) in let same : r.outer ≡ outer = cc (ends) in
    let is : g.block.kind ≡ was.list_container marker = rw first list in
    let left = list_takes s (is_nil inside) r.rest rest g.block.kind (ap is_list is) takes in
    let stops : goes_on s inside r.rest ≡ None = rw left none in
    let plain : innermost_is is_list r.outer ≡ false =
    rw (all_outer s around (forgotten g inside) l all) (nested.0 ∙ list_no_item g.block.kind (ap is_list is)) in
    let goes = list_goes_on s g inside r.rest marker is in
    rw (← first, ← same, ← left) (
      λ new next. rw all at (last_goes_on s around (forgotten g inside) l are.1 nested.1
          (forgotten (touched l g) (followed_by inside new))) (goes ∙ rw (stops, next, reached_next) refl),
      λ next.
          let ends_so : goes_on s (forgotten g inside) r.rest ≡ None = goes ∙ rw (stops, next) refl in
          rw all at (outer_go_on s around (forgotten g inside) l are.1 nested.1 plain) ∙ rw ends_so refl,
    )) (λ all takes. rw all at others) (λ h inner some. rw some at others)

module _ (s : Source) (frames : List Frame) (inside : Forest Block) (l : SourceLine) (are : AreContainers frames)
    (nested : AreNested frames) where
  pub block_begins :
      goes_on s (rebuilt (reached s frames inside l).inner inside) (reached s frames inside l).rest ≡ None
      → innermost_is is_list (reached s frames inside l).outer ≡ false → with_line s (rebuilt frames inside) l
      ≡ rebuilt (map (touched l) (reached s frames inside l).outer)
      (followed_by (rebuilt (reached s frames inside l).inner inside) (line_block s (reached s frames inside l).rest))
  block_begins none plain = outer_go_on s frames inside l are nested plain ∙ rw none refl

  -- it reaches all of them
  pub all_go_on : (reached s frames inside l).inner ≡ [] → innermost_is is_list frames ≡ false
      → with_line s (rebuilt frames inside) l
      ≡ rebuilt (map (touched l) frames) (with_line s inside (reached s frames inside l).rest)
  all_go_on none plain = rw (all_outer s frames inside l none, none) at (outer_go_on s frames inside l are nested) plain

  -- it is a list, with an item more
  module _ (outer : List Frame) (f : Frame) (marker : ListMarker)
      (ends : (reached s frames inside l).outer ≡ f ∷ outer) (list : f.block.kind ≡ was.list_container marker)
      (none : goes_on s (rebuilt (reached s frames inside l).inner inside) (reached s frames inside l).rest ≡ None)
    where
      pub item_begins : (new : Forest Block) → next_item s (reached s frames inside l).rest marker ≡ Some new
          → with_line s (rebuilt frames inside) l ≡ rebuilt (map (touched l) (f ∷ outer))
          (followed_by (rebuilt (reached s frames inside l).inner inside) new)
      item_begins = (list_reached s frames inside l are nested outer f marker list ends none).0

      -- or with what follows it, where it ends
      pub list_ends : next_item s (reached s frames inside l).rest marker ≡ None → with_line s (rebuilt frames inside) l
          ≡ rebuilt (map (touched l) outer)
          (followed_by (forgotten f (rebuilt (reached s frames inside l).inner inside))
          (line_block s (reached s frames inside l).rest))
      list_ends = (list_reached s frames inside l are nested outer f marker list ends none).1
