-- What the pass remembers of lists: which open ones are loose, and which open containers end with a blank line, as a
-- block is added, as containers are opened and closed, and after a line.
use Rattle.std.proofs.Common.{◌≡◌, ℕ, suc, List, [], ◌∷◌, ◌++◌, Bool, true, false, length, set, refl, ap, arith, ◌&&◌}
use Rattle.std.proofs.Common.{not, sym, ◌∙◌, ◌+◌, Option, Some, None, ◌≤◌, map, ◌<◌}
use Rattle.markdown_plain.proofs.Names.{and-false, and-true, or-false, or-true, or_assoc, nat_tests, Forest, nil, node}
use Rattle.markdown_plain.proofs.Names.{followed_by, Block, Kind, is_nil, are_separated, ends_blank, is_blank_block}
use Rattle.markdown_plain.proofs.Names.{is_loose, AreNested, Frame, forgotten, innermost_is, is_item, is_list, is_quote}
use Rattle.markdown_plain.proofs.Names.{touched, AreOpen, BlanksKnown, EmptyKnown, EmptyKnownIn, IsLooseAs}
use Rattle.markdown_plain.proofs.Names.{IsLooseBefore, OpenBlock, Looseness, SourceLine, quote_depth}
use Rattle.std.specs.Prelude.{◌||◌}
use Rattle.std.proofs.lemmas.List.{length-append, length-map}
use Rattle.std.proofs.Math.Seq.{set-append_seam}
use Rattle.std.proofs.lemmas.Bool.{true≢false}
use Rattle.markdown_block_rules.specs.BlockRules.{block_ends_blank, hold_separated, holds_block}
use Rattle.markdown_plain.specs.Settled.{IsOneBlock, are_loose, IsOpen, is_blank_in}
use Rattle.markdown_plain.specs.ListLooseness.{is_after_blank, blank_from}
use Rattle.markdown_block_rules.specs.BlockGrowth as was
use Rattle.markdown_plain.specs.ListLooseness as body
use Rattle.markdown_plain.specs.OpenBlocks as block
use Rattle.markdown_plain.proofs.FramesLemmas.{item_no_list, list_no_item, item_no_quote, item_of_open}
use Rattle.markdown_plain.proofs.LeafTreesLemmas.{by_test}
use Rattle.markdown_plain.proofs.FramesLemmas.{list_no_quote, as_many_open, ends_in_block, marker_of_list, quote_alike}
use Rattle.markdown_plain.proofs.FramesLemmas.{tests_alike}
use Rattle.markdown_plain.proofs.LeafTreesLemmas.{on_test}

-- ---- flags of lists that are loose

-- the last of some flags is written
pub last_set : (outer : List Bool) (before now : Bool) (i : ℕ) → suc i ≡ length (outer ++ before ∷ [])
    → set (outer ++ before ∷ []) i now ≡ outer ++ now ∷ []
last_set outer before now i n =
    let at : i ≡ length outer = omega (arith, n, length-append outer (before ∷ [])) in
    rw at (set-append_seam outer before [] now)

-- ---- blocks after others

-- blocks end as the last of them does
pub ends_more : (before : Bool) (f g : Forest Block)
    → ends_blank before (followed_by f g) ≡ ends_blank (ends_blank before f) g
ends_more before nil g = refl
ends_more before (node b below after) g = ends_more (block_ends_blank (ends_blank false below) b.kind) after g

blank_ends : (inside : Bool) (kind : Kind) → is_blank_block kind ≡ true → block_ends_blank inside kind ≡ true
blank_ends inside was.blank_line is = refl
blank_ends inside other is = absurd (true≢false (sym is))

absorbs : (e h d : Bool) → ((e && h) || (h || d)) ≡ (h || d)
absorbs false h d = refl
absorbs true true d = refl
absorbs true false d = refl

-- blocks of which the one before them ends blank or not, and others after them: blocks are separated where some on one
-- side are, or where a blank line is between the two sides
separated_with : (e : Bool) (f g : Forest Block)
    → ((e && holds_block (followed_by f g)) || are_separated (followed_by f g))
    ≡ ((((e && holds_block f) || are_separated f) || (ends_blank e f && holds_block g)) || are_separated g)
separated_with true nil g = refl
separated_with false nil g = refl
separated_with e (node b below after) g = by_test (is_blank_block b.kind) (λ blank.
    rw (blank, blank_ends (ends_blank false below) b.kind blank, absorbs e (holds_block after) (are_separated after))
    (rw (absorbs e (holds_block (followed_by after g)) (are_separated (followed_by after g)))
    (separated_with true after g))) (λ other.
    by_test e (λ before. rw (other, before) refl) (λ before.
    rw (other, before) (separated_with (block_ends_blank (ends_blank false below) b.kind) after g)))

hold_more : (f g : Forest Block) → hold_separated (followed_by f g) ≡ (hold_separated f || hold_separated g)
hold_more nil g = refl
hold_more (node b below after) g = rw (hold_more after g, or_assoc) refl

-- one more block is separated from others by a blank line at their end
pub one_separated : (f new : Forest Block) → IsOneBlock new
    → are_separated (followed_by f new) ≡ (are_separated f || ends_blank false f)
one_separated f nil one = absurd one
one_separated f (node b below after) one =
    rw (separated_with false f (node b below after), one.1, one.0, and-true, and-false) (or-false _)

-- ---- the blocks in an open list

-- what is in a container does not separate it from others
pub closed_separated : (f : Frame) (inside : Forest Block) → are_separated (forgotten f inside)
    ≡ (are_separated f.before || (ends_blank false f.before && not (is_blank_block f.block.kind)))
closed_separated f inside =
    rw (separated_with false f.before (node f.block inside nil), or-false (not (is_blank_block f.block.kind)))
    (rw (and-false (block_ends_blank (ends_blank false inside) f.block.kind)) (or-false _))

closed_alike : (f : Frame) (one other : Forest Block) → are_separated (forgotten f one)
    ≡ are_separated (forgotten f other)
closed_alike f one other = closed_separated f one ∙ sym (closed_separated f other)

-- a list is loose by what is in its last item
pub loose_by_last : (f : Frame) (inside : Forest Block) → is_loose (forgotten f inside)
    ≡ ((are_separated (forgotten f nil) || hold_separated f.before) || are_separated inside)
loose_by_last f inside =
    rw (closed_alike f inside nil, hold_more f.before (node f.block inside nil), or-false (are_separated inside))
    (sym (or_assoc (are_separated (forgotten f nil)) (hold_separated f.before) (are_separated inside)))

-- one more block in the last item of a list makes that loose where a blank line is before the block
loose_with_block : (f : Frame) (inside new : Forest Block) → IsOneBlock new
    → is_loose (forgotten f (followed_by inside new)) ≡ (is_loose (forgotten f inside) || ends_blank false inside)
loose_with_block f inside new one =
    rw (loose_by_last f (followed_by inside new), loose_by_last f inside, one_separated inside new one)
    (sym (or_assoc _ (are_separated inside) (ends_blank false inside)))

same_last : (f : Frame) (inside now : Forest Block) → are_separated inside ≡ are_separated now
    → is_loose (forgotten f inside) ≡ is_loose (forgotten f now)
same_last f inside now same = rw (loose_by_last f inside, loose_by_last f now, same) refl

-- a list with one more item, which is empty so far, is loose where it was, or where it ended with a blank line
pub loose_with_item : (inside : Forest Block) (item : Block) → is_blank_block item.kind ≡ false
    → is_loose (followed_by inside (node item nil nil)) ≡ (is_loose inside || ends_blank false inside)
loose_with_item inside item block =
    rw (one_separated inside (node item nil nil) (block, refl), hold_more inside (node item nil nil))
    (turned (are_separated inside) (hold_separated inside) (ends_blank false inside))
  where
    turned : (a b d : Bool) → ((a || d) || (b || false)) ≡ ((a || b) || d)
    turned true b d = refl
    turned false true d = or-true d
    turned false false d = or-false d

-- ---- the open lists

-- the same lists are loose around other blocks that are as separated and as loose
pub loose_alike : (frames : List Frame) (one other : Forest Block) → are_separated one ≡ are_separated other
    → is_loose one ≡ is_loose other → are_loose frames one ≡ are_loose frames other
loose_alike [] one other apart same = refl
loose_alike (f ∷ outer) one other apart same =
    rw (loose_alike outer (forgotten f one) (forgotten f other) (closed_alike f one other)
    (same_last f one other apart))
    (rw same refl)

-- where the innermost container is no list, the flags depend on what is in it only where it is an item
same_around : (frames : List Frame) (inside now : Forest Block) → innermost_is is_list frames ≡ false
    → (innermost_is is_item frames ≡ true → are_separated inside ≡ are_separated now)
    → AreNested frames → are_loose frames inside ≡ are_loose frames now
same_around [] inside now plain same nested = refl
same_around (f ∷ []) inside now plain same nested = rw plain refl
same_around (f ∷ g ∷ outer) inside now plain same nested =
    rw plain (by_test (is_list g.block.kind) (λ list. rw (list, same_last f inside now (same (sym nested.0 ∙ list)))
    (rw (same_around outer (forgotten g (forgotten f inside)) (forgotten g (forgotten f now))
    (nested.1.0 ∙ list_no_item g.block.kind list) (λ item. closed_alike g (forgotten f inside) (forgotten f now))
    nested.1.1) refl))
    (λ other. same_around (g ∷ outer) (forgotten f inside) (forgotten f now) other (λ item. closed_alike f inside now)
    nested.1))

-- where it is a list, only the last flag depends on it
list_flags : (f : Frame) (outer : List Frame) (inside now : Forest Block) → is_list f.block.kind ≡ true
    → AreNested (f ∷ outer) → are_loose (f ∷ outer) now ≡ are_loose outer (forgotten f inside) ++ is_loose now ∷ []
list_flags f outer inside now list nested =
    rw list (rw (same_around outer (forgotten f now) (forgotten f inside)
    (nested.0 ∙ list_no_item f.block.kind list) (λ item. closed_alike f now inside) nested.1) refl)

-- ---- what is known of the innermost container

-- the kind of an item
item_of : (kind : Kind) → is_item kind ≡ true → (indent : ℕ) × (kind ≡ was.item_container indent)
item_of (was.item_container indent) is = (indent, refl)
item_of other is = absurd (true≢false (sym is))

after_blank : (from : Option ℕ) (blocks : List OpenBlock)
    → is_after_blank from blocks ≡ is_blank_in from (length blocks)
after_blank None blocks = refl
after_blank (Some n) blocks = refl

-- the innermost open block had a blank line where its container ends with one
blank_in_blocks : (from : Option ℕ) (texts : List (List ℕ)) (blocks : List OpenBlock) (f : Frame) (outer : List Frame)
    (inside : Forest Block) → AreOpen texts blocks (f ∷ outer) → is_quote f.block.kind ≡ false
    → BlanksKnown from (f ∷ outer) inside → is_after_blank from blocks ≡ ends_blank false inside
blank_in_blocks from texts blocks f outer inside these other known =
    let many : length blocks ≡ length outer + 1 = omega (arith, as_many_open texts blocks (f ∷ outer) these) in
    after_blank from blocks ∙ rw many (known.0 other)

-- ---- a block, and an item, in the innermost container

-- the last flag is raised, or the flags stay
abbrev pub LoosenedIf : Bool → List Bool → List Bool → Type 0
LoosenedIf true old new = (outer : List Bool) (before : Bool) → old ≡ outer ++ before ∷ [] → new ≡ outer ++ true ∷ []
LoosenedIf false old new = new ≡ old

flag_after : (test : Bool) (old new outer : List Bool) (before : Bool) → LoosenedIf test old new
    → old ≡ outer ++ before ∷ [] → new ≡ outer ++ (before || test) ∷ []
flag_after true old new outer before change is = rw or-true (change outer before is)
flag_after false old new outer before change is = rw or-false (change ∙ is)

-- a block in an item
block_in_item : (frames : List Frame) (inside new : Forest Block) (old now : List Bool) (test : Bool)
    → AreNested frames → innermost_is is_item frames ≡ true → old ≡ are_loose frames inside → IsOneBlock new
    → test ≡ ends_blank false inside → LoosenedIf test old now → now ≡ are_loose frames (followed_by inside new)
block_in_item (f ∷ g ∷ outer) inside new old now test nested item is one blank change =
    let list = nested.0 ∙ item in let plain = item_no_list f.block.kind item in
    rw (plain, list_flags g outer (forgotten f inside) (forgotten f (followed_by inside new)) list nested.1)
    (rw (loose_with_block f inside new one, ← blank) (flag_after test old now _ _ change
    (is ∙ rw plain (list_flags g outer (forgotten f inside) (forgotten f inside) list nested.1))))
block_in_item (f ∷ []) inside new old now test nested item is one blank change =
    absurd (true≢false (sym (nested.0 ∙ item)))
block_in_item [] inside new old now test nested item is one blank change = absurd (true≢false (sym item))

-- the test of the pass, where the innermost container is an item
blank_in_item : (now : Looseness) (texts : List (List ℕ)) (blocks : List OpenBlock) (frames : List Frame)
    (inside : Forest Block) → AreOpen texts blocks frames → innermost_is is_item frames ≡ true
    → EmptyKnown now.item_is_empty frames inside → (is_nil inside ≡ false → BlanksKnown now.blank_from frames inside)
    → (not now.item_is_empty && is_after_blank now.blank_from blocks) ≡ ends_blank false inside
blank_in_item now texts blocks [] inside these item empty known = absurd (true≢false (sym item))
blank_in_item now texts blocks (f ∷ outer) inside these item empty known =
    rw (is_empty f.block.kind item empty) (by_inside inside known)
  where
    is_empty : (kind : Kind) → is_item kind ≡ true → EmptyKnownIn now.item_is_empty inside kind
        → now.item_is_empty ≡ is_nil inside
    is_empty kind item known = rw (item_of kind item).1 at known

    by_inside : (inside : Forest Block) → (is_nil inside ≡ false → BlanksKnown now.blank_from (f ∷ outer) inside)
        → (not (is_nil inside) && is_after_blank now.blank_from blocks) ≡ ends_blank false inside
    by_inside nil known = refl
    by_inside (node b below after) known = blank_in_blocks now.blank_from texts blocks f outer (node b below after)
        these
        (item_no_quote f.block.kind item) (known refl)

-- the innermost open block is an item that had a blank line after a block
abbrev pub parts_block : Looseness → List OpenBlock → Bool
parts_block now blocks =
    block.innermost_is body.is_item blocks && (not now.item_is_empty && is_after_blank now.blank_from blocks)

-- a block begins in the innermost container, which is no list
pub block_added : (old new : Looseness) (texts : List (List ℕ)) (blocks : List OpenBlock) (frames : List Frame)
    (inside : Forest Block) → LoosenedIf (parts_block old blocks) old.lists.items new.lists.items
    → new.item_is_empty ≡ false → AreOpen texts blocks frames → AreNested frames
    → innermost_is is_list frames ≡ false → IsLooseAs old frames inside
    → (is_nil inside ≡ false → BlanksKnown old.blank_from frames inside) → IsLooseBefore new frames inside
block_added old new texts blocks frames inside change empty these nested other loose known =
    let open_item = item_of_open texts blocks frames these in
    record {
      lists = λ n one. by_test (innermost_is is_item frames)
          (λ item. block_in_item frames inside n old.lists.items new.lists.items (parts_block old blocks) nested item
          loose.lists one (rw (open_item, item) (blank_in_item old texts blocks frames inside these item loose.empty
          known))
          change) (λ plain. (rw (open_item, plain) at change) ∙ (loose.lists
          ∙ same_around frames inside (followed_by inside n) other
          (λ item. absurd (true≢false (sym item ∙ plain))) nested));
      empty = empty;
    }

item_is_empty : (kind : Kind) → is_item kind ≡ true → EmptyKnownIn true nil kind
item_is_empty kind is = rw (item_of kind is).1 refl

item_no_blank : (kind : Kind) → is_item kind ≡ true → is_blank_block kind ≡ false
item_no_blank kind is = rw (item_of kind is).1 refl

-- another item begins in the innermost container, which is a list
pub item_added : (old new : Looseness) (texts : List (List ℕ)) (blocks : List OpenBlock) (frames : List Frame)
    (inside : Forest Block) (item : Block)
    → LoosenedIf (is_after_blank old.blank_from blocks) old.lists.items new.lists.items
    → new.item_is_empty ≡ true → AreOpen texts blocks frames → AreNested frames → innermost_is is_list frames ≡ true
    → IsLooseAs old frames inside → BlanksKnown old.blank_from frames inside → is_item item.kind ≡ true
    → IsLooseAs new (record { before = inside; block = item } ∷ frames) nil
item_added old new texts blocks [] inside item change empty these nested list loose known kind =
    absurd (true≢false (sym list))
item_added old new texts blocks (f ∷ outer) inside item change empty these nested list loose known kind =
    let blank = blank_in_blocks old.blank_from texts blocks f outer inside these (list_no_quote f.block.kind list)
    known in
    record {
      lists = rw (item_no_list item.kind kind)
          (rw (list_flags f outer inside (followed_by inside (node item nil nil)) list nested)
          (rw (loose_with_item inside item (item_no_blank item.kind kind), ← blank)
          (flag_after (is_after_blank old.blank_from blocks) old.lists.items new.lists.items _ _ change
          (loose.lists ∙ list_flags f outer inside inside list nested))));
      empty = rw empty (item_is_empty item.kind kind);
    }

list_no_blank : (kind : Kind) → is_list kind ≡ true → is_blank_block kind ≡ false
list_no_blank kind is = rw (marker_of_list kind is).is refl

-- a list begins with its first item, where another block may begin
pub list_begun : (old new : Looseness) (frames : List Frame) (inside : Forest Block) (list item : Block)
    → new.lists.items ≡ old.lists.items ++ false ∷ [] → new.item_is_empty ≡ true → IsLooseBefore old frames inside
    → is_list list.kind ≡ true → is_item item.kind ≡ true
    → IsLooseAs new (record { before = nil; block = item } ∷ record { before = inside; block = list } ∷ frames) nil
list_begun old new frames inside list item more empty before kind inner = record {
  lists = rw (more, before.lists (node list (node item nil nil) nil) (list_no_blank list.kind kind, refl))
      (rw (item_no_list item.kind inner, kind, and-false (block_ends_blank false item.kind)) refl);
  empty = rw empty (item_is_empty item.kind inner);
}

-- ---- a container is closed

-- what is known of a container that is not empty, where no item is
known_full : (empty : Bool) (inside : Forest Block) (kind : Kind) → empty ≡ false → is_nil inside ≡ false
    → EmptyKnownIn empty inside kind
known_full empty inside (was.item_container indent) is some = is ∙ sym some
known_full empty inside (was.list_container marker) is some = tt
known_full empty inside other is some = is

pub full_after : (empty : Bool) (frames : List Frame) (f : Frame) (inside : Forest Block) → empty ≡ false
    → EmptyKnown empty frames (forgotten f inside)
full_after empty [] f inside is = tt
full_after empty (g ∷ outer) f inside is =
    known_full empty (forgotten f inside) g.block.kind is (ends_in_block f.before f.block inside)

known_in_list : (empty : Bool) (inside : Forest Block) (kind : Kind) → is_list kind ≡ true
    → EmptyKnownIn empty inside kind
known_in_list empty inside kind is = rw (marker_of_list kind is).is tt

-- whether the innermost item is empty, after a container that is no list is closed
empty_after : (empty : Bool) (frames : List Frame) (f : Frame) (inside : Forest Block) → AreNested (f ∷ frames)
    → is_list f.block.kind ≡ false → EmptyKnownIn empty inside f.block.kind
    → EmptyKnown empty frames (forgotten f inside)
empty_after empty [] f inside nested plain known = tt
empty_after empty (g ∷ outer) f inside nested plain known = by_kind f.block.kind nested.0 plain known
  where
    by_kind : (kind : Kind) → is_list g.block.kind ≡ is_item kind → is_list kind ≡ false
        → EmptyKnownIn empty inside kind → EmptyKnownIn empty (forgotten f inside) g.block.kind
    by_kind (was.list_container marker) nested plain known = absurd (true≢false plain)
    by_kind (was.item_container indent) nested plain known = known_in_list empty (forgotten f inside) g.block.kind
        nested
    by_kind other nested plain known = full_after empty (g ∷ outer) f inside known

-- a container that is no list is closed
pub other_closed : (old new : Looseness) (frames : List Frame) (f : Frame) (inside : Forest Block)
    → new.lists.items ≡ old.lists.items → new.item_is_empty ≡ old.item_is_empty → is_list f.block.kind ≡ false
    → AreNested (f ∷ frames) → IsLooseAs old (f ∷ frames) inside → IsLooseAs new frames (forgotten f inside)
other_closed old new frames f inside same empty other nested loose = record {
  lists = same ∙ (rw other at loose.lists);
  empty = rw empty (empty_after old.item_is_empty frames f inside nested other loose.empty);
}

-- the last of some flags, and those before it, are what is taken off
ends_alike : (xs ys : List Bool) (x y : Bool) → xs ++ x ∷ [] ≡ ys ++ y ∷ [] → (x ≡ y) × (xs ≡ ys)
ends_alike [] [] x y e = (cc (e), refl)
ends_alike (a ∷ xs) (b ∷ ys) x y e = let rest = ends_alike xs ys x y (cc (e)) in (rest.0, cc (e, rest.1))
ends_alike xs ys x y e = absurd (omega (arith, ap length e, length-append xs (x ∷ []), length-append ys (y ∷ [])))

-- a list is closed, and its flag taken off
pub list_closed : (old new : Looseness) (loose : Bool) (frames : List Frame) (f : Frame) (inside : Forest Block)
    → old.lists.items ≡ new.lists.items ++ loose ∷ []
    → new.item_is_empty ≡ false → is_list f.block.kind ≡ true → IsLooseAs old (f ∷ frames) inside
    → (loose ≡ is_loose inside) × IsLooseAs new frames (forgotten f inside)
list_closed old new loose frames f inside taken empty list before =
    let t = ends_alike new.lists.items (are_loose frames (forgotten f inside)) loose (is_loose inside)
    (sym taken ∙ (rw list at before.lists)) in
    (t.0, record { lists = t.1; empty = full_after new.item_is_empty frames f inside empty })

-- where a list is open, there is a flag
pub some_flag : (now : Looseness) (frames : List Frame) (f : Frame) (inside : Forest Block)
    → is_list f.block.kind ≡ true → IsLooseAs now (f ∷ frames) inside → now.lists.items ≡ [] → ⊥
some_flag now frames f inside list loose none =
    omega (
      arith,
      ap length (sym none ∙ (rw list at loose.lists)),
      length-append (are_loose frames (forgotten f inside)) (is_loose inside ∷ []),
    )

-- one of some open containers is a block quote
abbrev pub has_quote : List Frame → Bool
has_quote [] = false
has_quote (f ∷ outer) = is_quote f.block.kind || has_quote outer

-- ---- how open containers end

ends_last : (f : Frame) (inside : Forest Block)
    → ends_blank false (forgotten f inside) ≡ block_ends_blank (ends_blank false inside) f.block.kind
ends_last f inside = ends_more false f.before (node f.block inside nil)

-- a container that is no block quote ends blank where what is in it does
ends_open : (texts : List (List ℕ)) (one : OpenBlock) (f : Frame) (inside : Forest Block) → IsOpen texts one f
    → ends_blank false (forgotten f inside) ≡ (not (is_quote f.block.kind) && ends_blank false inside)
ends_open texts one f inside is =
    ends_last f inside ∙ sym (tests_alike (λ b. not (block.is_quote b) && ends_blank false inside)
    (block_ends_blank (ends_blank false inside)) refl (λ kind. refl) (λ m. refl) (λ indent. refl) (λ ix label. refl)
    texts
    f.block.kind one.body is.body) ∙ rw (quote_alike texts f.block.kind one.body is.body) refl

-- it is known of containers how they end where they end as others of which it is known so
pub known_alike : (from to : Option ℕ) (frames : List Frame) (x y : Forest Block)
    → ((k : ℕ) → k ≤ length frames → is_blank_in to k ≡ is_blank_in from k) → ends_blank false y ≡ ends_blank false x
    → BlanksKnown from frames x → BlanksKnown to frames y
known_alike from to [] x y same alike known = tt
known_alike from to (f ∷ outer) x y same alike known = (
  λ other. same (length outer + 1) (omega arith) ∙ (known.0 other ∙ sym alike),
  known_alike from to outer (forgotten f x) (forgotten f y) (λ k few. same k (omega (arith, few)))
      (rw (ends_last f x, ends_last f y, alike) refl) known.1,
)

-- ---- a line that is not blank

pub content_known : (texts : List (List ℕ)) (blocks : List OpenBlock) (frames : List Frame)
    (inside : Forest Block) → AreOpen texts blocks frames → ends_blank false inside ≡ false
    → BlanksKnown None frames inside
content_known texts blocks [] inside these none = tt
content_known texts blocks (f ∷ outer) inside (block, others, are, is, around) none = (
  λ other. sym none,
  content_known texts others outer (forgotten f inside) around
      (rw (ends_open texts block f inside is, none) (and-false (not (is_quote f.block.kind)))),
)

-- ---- a blank line

few_quoted : (frames : List Frame) → quote_depth frames ≤ length frames
few_quoted [] = omega arith
few_quoted (f ∷ outer) = on_test (λ n. n ≤ suc (length outer)) (is_quote f.block.kind) _ _ (λ quote. omega arith)
    (λ other. omega (arith, few_quoted outer))

blank_before : (from : Option ℕ) (quoted k : ℕ) → quoted < k → is_blank_in (Some (blank_from from quoted)) k ≡ true
blank_before None quoted k less = grind (arith, nat_tests, less)
blank_before (Some n) quoted k less = grind (arith, nat_tests, less)

blank_beyond : (from : Option ℕ) (quoted k : ℕ) → k ≤ quoted
    → is_blank_in (Some (blank_from from quoted)) k ≡ is_blank_in from k
blank_beyond None quoted k few = grind (arith, nat_tests, few)
blank_beyond (Some n) quoted k few = grind (arith, nat_tests, few)

-- the containers reached end with the blank line, down from the innermost block quote
pub blank_known : (from : Option ℕ) (texts : List (List ℕ)) (blocks : List OpenBlock) (frames : List Frame)
    (inside now : Forest Block) → AreOpen texts blocks frames → BlanksKnown from frames inside
    → ends_blank false now ≡ true → BlanksKnown (Some (blank_from from (quote_depth frames))) frames now
blank_known from texts blocks [] inside now these known blank = tt
blank_known from texts blocks (f ∷ outer) inside now (block, others, are, is, around) known blank =
    let ends = λ (x : Forest Block). ends_open texts block f x is in
    on_test (λ n. BlanksKnown (Some (blank_from from n)) (f ∷ outer) now) (is_quote f.block.kind) (length outer + 1)
    (quote_depth outer) (λ quote. (
      λ other. absurd (true≢false (sym quote ∙ other)),
      known_alike from (Some (blank_from from (length outer + 1))) outer (forgotten f inside) (forgotten f now)
          (λ k few. blank_beyond from (length outer + 1) k (omega (arith, few)))
          (rw (ends inside, ends now, quote) refl) known.1,
    )) (λ plain. (
      λ other. blank_before from (quote_depth outer) (length outer + 1) (omega (arith, few_quoted outer)) ∙ sym blank,
      blank_known from texts others outer (forgotten f inside) (forgotten f now) around known.1
          (rw (ends now, plain, blank) refl),
    ))

-- blocks after which a blank line follows
pub blank_at_end : (inside : Forest Block) (b : Block) → b.kind ≡ was.blank_line
    → ends_blank false (followed_by inside (node b nil nil)) ≡ true
blank_at_end inside b is = rw (ends_more, is) refl

-- ---- containers that go on in a line

known_touched_in : (l : SourceLine) (from : Option ℕ) (frames : List Frame) (x y : Forest Block)
    → ends_blank false y ≡ ends_blank false x → BlanksKnown from frames x → BlanksKnown from (map (touched l) frames) y
known_touched_in l from [] x y same known = tt
known_touched_in l from (f ∷ outer) x y same known = (
  λ other. rw (length-map outer (touched l)) (known.0 other ∙ sym same),
  known_touched_in l from outer (forgotten f x) (forgotten (touched l f) y)
      (rw (ends_last f x, ends_last (touched l f) y, same) refl) known.1,
)

pub known_touched : (l : SourceLine) (from : Option ℕ) (frames : List Frame) (inside : Forest Block)
    → BlanksKnown from frames inside → BlanksKnown from (map (touched l) frames) inside
known_touched l from frames inside known = known_touched_in l from frames inside inside refl known

lists_touched_in : (l : SourceLine) (frames : List Frame) (x y : Forest Block) → is_loose y ≡ is_loose x
    → are_separated y ≡ are_separated x → are_loose (map (touched l) frames) y ≡ are_loose frames x
lists_touched_in l [] x y same separated = refl
lists_touched_in l (f ∷ outer) x y same separated =
    let apart : are_separated (forgotten (touched l f) y) ≡ are_separated (forgotten f x) =
    closed_separated (touched l f) y ∙ sym (closed_separated f x) in
    let loose : is_loose (forgotten (touched l f) y) ≡ is_loose (forgotten f x) =
    rw (loose_by_last f x, loose_by_last (touched l f) y, separated)
    (rw (closed_separated f nil, closed_separated (touched l f) nil) refl) in
    rw (lists_touched_in l outer (forgotten f x) (forgotten (touched l f) y) loose apart, same) refl

pub lists_touched : (l : SourceLine) (frames : List Frame) (inside : Forest Block)
    → are_loose (map (touched l) frames) inside ≡ are_loose frames inside
lists_touched l frames inside = lists_touched_in l frames inside inside refl refl

empty_touched : (l : SourceLine) (empty : Bool) (frames : List Frame) (inside : Forest Block)
    → EmptyKnown empty frames inside → EmptyKnown empty (map (touched l) frames) inside
empty_touched l empty [] inside known = known
empty_touched l empty (f ∷ outer) inside known = known

-- what is remembered of lists is the same
pub same_touched : (l : SourceLine) (now : Looseness) (frames : List Frame) (inside : Forest Block)
    → IsLooseAs now frames inside → IsLooseAs now (map (touched l) frames) inside
same_touched l now frames inside loose = record {
  lists = loose.lists ∙ sym (lists_touched l frames inside);
  empty = empty_touched l now.item_is_empty frames inside loose.empty;
}
