-- How containers continue, by places in a text and by the rest of the line there; and stretches of open blocks, which
-- a line may go past.
use Rattle.std.proofs.Common.{◌≡◌, ℕ, ◌+◌, ◌-◌, ◌<◌, ◌≤◌, List, Option, Some, true, ◌==◌, length, drop, slice_range}
use Rattle.std.proofs.Common.{codes, refl, sym, ◌∙◌, ap, arith, Bool, false, ◌&&◌, ◌||◌, [], ◌∷◌, zero, suc, nat_le}
use Rattle.std.proofs.Common.{get_or, nat_lt, drop-cons, max, ◌++◌, take}
use Rattle.markdown_plain.proofs.Names.{nat_tests, and_parts, or_parts, or-true, space, OpenBlock, begins_with}
use Rattle.markdown_plain.proofs.Names.{past_indent, LineLeft, Space, is_line_over, leading_space, past_marker}
use Rattle.markdown_plain.proofs.Names.{past_one_byte, space_from, space_width, ItemBody, is_space_or_tab, Position}
use Rattle.markdown_plain.proofs.Names.{left_from, rest_of_part, is_container, is_innermost, outer_of}
use Rattle.std.specs.Option.{IfSome}
use Rattle.std.proofs.lemmas.List.{drop_all, drop-drop, length-append, length-drop}
use Rattle.std.specs.Prelude.{not, if◌then◌else◌}
use Rattle.std.proofs.lemmas.Bool.{true≢false}
use Rattle.std.proofs.Math.Seq.{take-append_seam}
use Rattle.markdown_base.specs.Bytes.{tab}
use Rattle.markdown_scan.specs.ContainerParts.{past_part}
use Rattle.markdown_plain.specs.Containers.{Reach, past_container, reach_after, reach_from, reach_past}
use Rattle.markdown_plain.specs.declared.stretches.Stretches.{Stretches}
use Rattle.markdown_plain.specs.declared.stretches.Taking.{Taking}
use Rattle.markdown_plain.specs.OpenBlocks.{is_quote}
use Rattle.markdown_plain.specs.Stretches.{IsOf, TakesNothing, are_alike, begins_stretch, deep_starts, few, is_same}
use Rattle.markdown_plain.specs.Stretches.{next_of, starts, starts_after, taken_by}
use Rattle.markdown_base.specs.declared.item.ItemBody.TheVariants as body
use Rattle.markdown_plain.specs.declared.stretches.Taking.TheVariants as takes
use Rattle.markdown_plain.proofs.LeafTreesLemmas.{on_test, outer_of_these, by_test}

-- ---- what is left of a line

-- a byte that has a width is white space
white_width : (column b : ℕ) → (space_width column b == 0) ≡ false → is_space_or_tab b ≡ true
white_width column b some = by_test (b == space) (λ e. rw e refl) (λ e. by_test (b == tab) (λ t. rw (e, t) refl)
    (λ t. absurd (true≢false (rw (e, t) at some))))

-- What holds of what is left of a line holds of it after space: it does not depend on the columns, and it holds after a
-- byte of white space.
module _ (P : LineLeft → Type 0) (owing : (left : LineLeft) (owed : ℕ) → P left → P (record left { owed = owed }))
    (byte : (scanned owed column after b : ℕ) (bytes : List ℕ) → is_space_or_tab b ≡ true
    → P (record { scanned = scanned; owed = 0; column = column; bytes = b ∷ bytes })
    → P (record { scanned = scanned + 1; owed = owed; column = after; bytes = bytes })) where
  space_from_keeps : (n scanned column : ℕ) (bytes : List ℕ)
      → P (record { scanned = scanned; owed = 0; column = column; bytes = bytes })
      → P (space_from n scanned column bytes).after
  space_from_keeps n scanned column [] holds = holds
  space_from_keeps n scanned column (b ∷ bytes) holds =
      let width = space_width column b in
      on_test (λ (s : Space). P s.after) ((n == 0) || (width == 0)) _ _ (λ none. holds) (λ some.
      let white = white_width column b (or_parts (n == 0) (width == 0) some).1 in
      on_test (λ (s : Space). P s.after) (nat_lt n width) _ _ (λ cut. byte scanned _ column _ b bytes white holds)
      (λ whole. space_from_keeps (n - width) (scanned + 1) _ bytes (byte scanned 0 column _ b bytes white holds)))

  pub space_keeps : (n : ℕ) (left : LineLeft) → P left → P (leading_space n left).after
  space_keeps n left holds = on_test (λ (s : Space). P s.after) (nat_le n left.owed) _ _ (λ owed. owing left _ holds)
      (λ more. space_from_keeps (n - left.owed) left.scanned left.column left.bytes (owing left 0 holds))

-- what holds of it after space, and after the marker of a block quote, holds after a container's part
module _ (P : (quote : Bool) → LineLeft → Type 0) (left : LineLeft)
    (spaced : (n : ℕ) → P false (leading_space n left).after)
    (marked : begins_with (codes ">") (leading_space 4 left).after.bytes ≡ true
    → P true (past_marker (leading_space 4 left).after)) (whole : P false left) where
  indent_keeps : (n : ℕ) → IfSome (past_indent n left) (P false)
  indent_keeps n = on_test (λ o. IfSome o (P false))
      (((leading_space n left).columns == n) || is_line_over (leading_space n left).after.bytes) _ _
      (λ there. spaced n) (λ missing. tt)

  pub part_keeps : (gfm : Bool) (block : ItemBody) → IfSome (past_part gfm block left) (P (is_quote block))
  part_keeps gfm (body.BlockQuote kind) =
      let space = leading_space 4 left in
      on_test (λ o. IfSome o (P true)) (nat_lt space.columns 4 && begins_with (codes ">") space.after.bytes) _ _
      (λ there. marked (and_parts (nat_lt space.columns 4) _ there).1) (λ missing. tt)
  part_keeps gfm (body.ListItem indent) = indent_keeps indent
  part_keeps gfm (body.DefinitionListDefinition indent) = indent_keeps indent
  part_keeps true (body.FootnoteDefinition name) = indent_keeps 4
  part_keeps false (body.FootnoteDefinition name) = whole
  part_keeps gfm other = whole

-- what is left of a line is the text from there to where the line's content ends
abbrev pub IsUpTo : List ℕ → ℕ → LineLeft → Type 0
IsUpTo text stop left = left.bytes ≡ slice_range text left.scanned stop

-- so is what is left of it after a container's part
pub part_reaches : (text : List ℕ) (stop : ℕ) (gfm : Bool) (block : ItemBody) (left after : LineLeft)
    → IsUpTo text stop left → Some after ≡ past_part gfm block left → IsUpTo text stop after
part_reaches text stop gfm block left after is part =
    rw (← part) at (part_keeps (λ quote. IsUpTo text stop) left (λ n. spaced n left is)
    (λ there. spaced 1 (past_one_byte (leading_space 4 left).after)
    (next _ (leading_space 4 left).after.bytes (spaced 4 left is))) is gfm block)
  where
    next : (scanned : ℕ) (bytes : List ℕ) → bytes ≡ slice_range text scanned stop
        → drop 1 bytes ≡ slice_range text (scanned + 1) stop
    next scanned bytes is = ap (drop 1) is ∙ rest_of_part text scanned stop 1

    spaced : (n : ℕ) (left : LineLeft) → IsUpTo text stop left → IsUpTo text stop (leading_space n left).after
    spaced n left is = space_keeps (IsUpTo text stop) (λ left owed is. is)
        (λ scanned owed column after b bytes white is. next scanned (b ∷ bytes) is) n left is

-- the place that a reader has reached leaves what the reader does
pub place_after : (text : List ℕ) (stop : ℕ) (after : LineLeft) (place : Position) → IsUpTo text stop after
    → place.at ≡ after.scanned → place.column ≡ after.column → place.owed ≡ after.owed
    → left_from text place stop ≡ after
place_after text stop after place own at column owed =
    rw (at, column, owed) (ap (λ (bytes : List ℕ). record after { bytes = bytes }) (sym own))

-- ---- how containers continue

-- open blocks from a number on are the block with it, and those inside that
inside_of : (blocks : List OpenBlock) (number : ℕ) (or : OpenBlock) → number < length blocks
    → drop number blocks ≡ get_or blocks number or ∷ drop (number + 1) blocks
inside_of blocks number or more =
    let next : number + 1 ≡ suc number = omega arith in rw next (drop-cons blocks number or more)

-- it is the innermost where no number is left
innermost_at : (blocks : List OpenBlock) (number : ℕ) → number < length blocks
    → is_innermost (drop (number + 1) blocks) ≡ (number + 1 == length blocks)
innermost_at blocks number more = none (drop (number + 1) blocks) ∙ rw length-drop (grind (arith, nat_tests, more))
  where
    none : (blocks : List OpenBlock) → is_innermost blocks ≡ (length blocks == 0)
    none [] = refl
    none (block ∷ blocks) = grind (arith, nat_tests)

-- from a number on no block is left, or the next is a leaf, or it continues or ends by what it takes
module _ (old empty : Bool) (stop : ℕ) (blocks : List OpenBlock) (number : ℕ) (reach : Reach) where
  pub none_left : length blocks ≤ number → reach_from old empty stop (drop number blocks) reach ≡ reach
  unfolding reach_from
  none_left all = rw (drop_all number blocks all) refl

  pub next_is_leaf : (or : OpenBlock) → number < length blocks → is_container (get_or blocks number or).body ≡ false
      → reach_from old empty stop (drop number blocks) reach ≡ reach
  unfolding reach_from
  next_is_leaf or more leaf = rw (inside_of blocks number or more, leaf) refl

  pub next_takes : (or : OpenBlock) (taken : Option LineLeft) → number < length blocks
      → is_container (get_or blocks number or).body ≡ true
      → past_container old ((number + 1 == length blocks) && empty) (nat_le stop reach.content)
      (get_or blocks number or).body reach.left ≡ taken → reach_from old empty stop (drop number blocks) reach
      ≡ reach_past (reach_from old empty stop (drop (number + 1) blocks)) (get_or blocks number or).body taken reach
  unfolding reach_from
  next_takes or taken more container is =
      rw (inside_of blocks number or more, container, innermost_at blocks number more, is) refl

-- ---- stretches

-- blocks that take the same are of one kind
same_taking : (one other : Taking) → is_same one other ≡ true → one ≡ other
same_taking takes.NothingOfBlank takes.NothingOfBlank same = refl
same_taking takes.NothingOfFilled takes.NothingOfFilled same = refl
same_taking takes.Something takes.Something same = refl
same_taking one other same = absurd (true≢false (sym same))

-- two blocks decide whether the innermost begins a stretch, by the numbers of both
pub begins_of : (old : Bool) (blocks : List OpenBlock) (outside inside : ℕ) (or : OpenBlock) → outside + 1 ≡ inside
    → length blocks ≡ inside + 1 → begins_stretch old blocks
    ≡ not (are_alike old (get_or blocks outside or).body (get_or blocks inside or).body)
unfolding begins_stretch
begins_of old (outside ∷ block ∷ []) zero (suc zero) or next n = refl
begins_of old (outside ∷ block ∷ inner ∷ blocks) (suc outer) (suc inside) or next n =
    begins_of old (block ∷ inner ∷ blocks) outer inside or (omega (arith, next)) (omega (arith, n))
begins_of old blocks outside inside or next n = absurd (omega (arith, next, n))

-- the numbers of those blocks that begin a stretch, with the innermost of them or not
abbrev pub with_last : Bool → ℕ → List ℕ → List ℕ
with_last begins number numbers = if begins then numbers ++ number ∷ [] else numbers

-- the stretches of some blocks are those outside the innermost of them, and the one that this begins
starts_inside : (old : Bool) (number : ℕ) (blocks : List OpenBlock) → starts old number blocks
    ≡ with_last (begins_stretch old blocks) (number + (length blocks - 1)) (starts old number (outer_of blocks))
unfolding starts begins_stretch outer_of
starts_inside old number [] = refl
starts_inside old number (block ∷ []) = refl
starts_inside old number (outside ∷ block ∷ []) =
    by_test (are_alike old outside.body block.body) (λ e. rw e refl) (λ e. rw e refl)
starts_inside old number (outside ∷ block ∷ inner ∷ blocks) =
    let last : number + (suc (suc (suc (length blocks))) - 1) ≡ (number + 1) + (suc (suc (length blocks)) - 1) = omega
    arith in
    rw (last, starts_inside old (number + 1) (block ∷ inner ∷ blocks))
    (by_test (are_alike old outside.body block.body) (λ e. rw e refl)
    (λ e. by_test (begins_stretch old (block ∷ inner ∷ blocks)) (λ f. rw (e, f) refl) (λ f. rw (e, f) refl)))

-- the blocks outside the innermost, from a number on
drop_outer : (number : ℕ) (blocks : List OpenBlock) → drop number (outer_of blocks) ≡ outer_of (drop number blocks)
unfolding outer_of
drop_outer zero blocks = refl
drop_outer (suc number) (block ∷ inner ∷ blocks) = drop_outer number (inner ∷ blocks)
drop_outer (suc zero) (block ∷ []) = refl
drop_outer (suc number) blocks = cc

-- the innermost is the same from a number on, where two blocks are left
pub begins_deep : (old : Bool) (number : ℕ) (blocks : List OpenBlock) → number + 2 ≤ length blocks
    → begins_stretch old blocks ≡ begins_stretch old (drop number blocks)
unfolding begins_stretch
begins_deep old zero blocks more = refl
begins_deep old (suc number) (block ∷ inner ∷ next ∷ blocks) more =
    begins_deep old number (inner ∷ next ∷ blocks) (omega (arith, more))
begins_deep old (suc number) blocks more = absurd (omega (arith, more))

-- fewer than two blocks are in no stretch that the innermost begins
pub few_left : (old : Bool) (number : ℕ) (blocks : List OpenBlock) → length blocks < number + 2
    → begins_stretch old (drop number blocks) ≡ false
unfolding begins_stretch
few_left old number blocks less = few (drop number blocks) (omega (arith, length-drop number blocks, less))
  where
    few : (blocks : List OpenBlock) → length blocks < 2 → begins_stretch old blocks ≡ false
    few [] less = refl
    few (block ∷ []) less = refl
    few blocks less = absurd (omega (arith, less))

-- where the innermost begins one, some are left
pub some_left : (old : Bool) (number : ℕ) (blocks : List OpenBlock) → begins_stretch old (drop number blocks) ≡ true
    → number + 1 ≤ length blocks
some_left old number blocks begins = by_test (nat_lt number (length blocks)) (λ more. grind (arith, nat_tests, more))
    (λ all. absurd (true≢false (sym begins ∙ few_left old number blocks (grind (arith, nat_tests, all)))))

-- the stretches inside the few outermost blocks
pub deep_starts_are : (old : Bool) (blocks : List OpenBlock) (begins : Bool)
    → begins_stretch old (drop few blocks) ≡ begins
    → deep_starts old blocks ≡ with_last begins (length blocks - 1) (deep_starts old (outer_of blocks))
unfolding deep_starts
deep_starts_are old blocks false is = starts_inside old few (drop few blocks) ∙ rw (is, drop_outer few blocks) refl
deep_starts_are old blocks true is =
    let last : few + (length (drop few blocks) - 1) ≡ length blocks - 1 =
    omega (arith, length-drop few blocks, some_left old few blocks is) in
    starts_inside old few (drop few blocks) ∙ rw (is, last, drop_outer few blocks) refl

-- the last of some numbers is removed
pub without_last : (numbers outer : List ℕ) (last count : ℕ) → numbers ≡ outer ++ last ∷ [] → count ≡ length numbers
    → take (count - 1) numbers ≡ outer
without_last numbers outer last count are n =
    let fewer : count - 1 ≡ length outer = omega (arith, n, ap length are, length-append outer (last ∷ [])) in
    rw (fewer, are) (take-append_seam outer (last ∷ []))

-- the stretches around a block that is opened in the innermost of some blocks are those of these
pub stretches_inside : (before now : Stretches) (given blocks new : List OpenBlock) (block : OpenBlock) → given ≡ blocks
    → (IsOf before (outer_of given) → IsOf now given) → IsOf before (outer_of blocks) → new ≡ blocks ++ block ∷ []
    → IsOf now (outer_of new)
stretches_inside before now given blocks new block same entered known opened =
    rw (outer_of_these new blocks block opened, ← same) (entered (rw same known))

-- the stretches stay where the innermost of some blocks is replaced
pub stretches_replaced : (now : Stretches) (blocks new : List OpenBlock) (block : OpenBlock)
    → new ≡ outer_of blocks ++ block ∷ [] → IsOf now (outer_of blocks) → IsOf now (outer_of new)
stretches_replaced now blocks new block becomes known = rw (outer_of_these new (outer_of blocks) block becomes) known

-- ---- stretches that take nothing of a line

past_indent_nothing : (indent : ℕ) (left : LineLeft) → left.owed ≡ 0 → left.bytes ≡ []
    → past_indent indent left ≡ Some left
past_indent_nothing indent left owed over =
    let nothing : left ≡ record left { owed = 0; bytes = [] } = rw (← owed, ← over) refl in
    rw nothing (nothing_taken indent)
  where
    nothing_taken : (indent : ℕ) → past_indent indent (record left { owed = 0; bytes = [] })
        ≡ Some (record left { owed = 0; bytes = [] })
    nothing_taken zero = refl
    nothing_taken (suc indent) =
        let more : nat_le (suc indent) 0 ≡ false = grind (arith, nat_tests) in rw (more, or-true) refl

-- a block that takes nothing of a line is a container that continues and leaves what is left: the depth alone changes
past_nothing : (old blank : Bool) (block : ItemBody) (reach : Reach)
    → TakesNothing blank reach.left (taken_by old block) → reach.all ≡ true
    → (is_container block ≡ true) × (past_container old false blank block reach.left ≡ Some reach.left)
    × (reach_after block reach.left reach ≡ record reach { depth = reach.depth + 1 })
past_nothing old blank (body.List tight character first) reach takes all = (refl, refl, rw all refl)
past_nothing old blank (body.ListItem indent) reach takes all =
    (refl, rw takes.0 (past_indent_nothing indent reach.left takes.1 takes.2), rw all refl)
past_nothing true blank (body.FootnoteDefinition ix) reach takes all = (refl, rw takes refl, rw all refl)
past_nothing false blank (body.FootnoteDefinition ix) reach takes all =
    (refl, rw takes.0 (past_indent_nothing 4 reach.left takes.1 takes.2), rw all refl)
past_nothing old blank other reach takes all = absurd takes

-- a stretch that begins later begins not here
begins_later : (old : Bool) (here number : ℕ) (blocks : List OpenBlock) → here ≤ number
    → starts_after here (starts old number blocks) ≡ starts old number blocks
unfolding starts
begins_later old here number [] later = refl
begins_later old here number (block ∷ []) later = refl
begins_later old here number (outside ∷ block ∷ blocks) later =
    let unlike : (number + 1 == here) ≡ false = grind (arith, nat_tests) in
    by_test (are_alike old outside.body block.body)
    (λ e. rw e (begins_later old here (number + 1) (block ∷ blocks) (omega (arith, later)))) (λ e. rw (e, unlike) refl)

-- past a block are the stretches of the blocks inside it
starts_past : (old : Bool) (number : ℕ) (block : OpenBlock) (blocks : List OpenBlock)
    → starts_after (number + 1) (starts old number (outer_of (block ∷ blocks)))
    ≡ starts old (number + 1) (outer_of blocks)
unfolding starts outer_of
starts_past old number block [] = refl
starts_past old number block (inner ∷ []) = refl
starts_past old number block (inner ∷ next ∷ blocks) =
    let here : (number + 1 == number + 1) ≡ true = grind (arith, nat_tests) in
    by_test (are_alike old block.body inner.body)
    (λ e. rw e (begins_later old (number + 1) (number + 1) (inner ∷ outer_of (next ∷ blocks)) (omega arith)))
    (λ e. rw (e, here) refl)

-- What is reached past the stretch of the block with the number `number`, before the block with the number `next`.
pub record AtNextStretch (old empty : Bool) (stop number : ℕ) (blocks : List OpenBlock) (reach : Reach) (next : ℕ)
    : Type 0 where
  pub more : number < next
  pub within : next < length blocks
  pub ahead : starts_after next (starts old number (outer_of (drop number blocks)))
      ≡ starts old next (outer_of (drop next blocks))
  pub reached : reach_from old empty stop (drop number blocks) reach
      ≡ reach_from old empty stop (drop next blocks) (record reach { depth = next })

module _ (old empty : Bool) (stop : ℕ) (blocks : List OpenBlock) where
  next_are : (number : ℕ) (block : OpenBlock) (rest : List OpenBlock) → drop number blocks ≡ block ∷ rest
      → drop (number + 1) blocks ≡ rest
  next_are number block rest here = sym (drop-drop 1 number blocks) ∙ rw here refl

  -- past one block
  past_this : (number : ℕ) (block inner : OpenBlock) (rest : List OpenBlock) (reach : Reach)
      → drop number blocks ≡ block ∷ inner ∷ rest → number + suc (suc (length rest)) ≡ length blocks
      → TakesNothing (nat_le stop reach.content) reach.left (taken_by old block.body) → reach.all ≡ true
      → reach.depth ≡ number → AtNextStretch old empty stop number blocks reach (number + 1)
  unfolding reach_from
  past_this number block inner rest reach here n takes all depth =
      let past = past_nothing old (nat_le stop reach.content) block.body reach takes all in
      let there = next_are number block (inner ∷ rest) here in
      let one : reach_from old empty stop (block ∷ inner ∷ rest) reach
      ≡ reach_from old empty stop (inner ∷ rest) (reach_after block.body reach.left reach) =
      rw (past.0, past.1) refl in
      record {
        more = omega arith;
        within = omega (arith, n);
        ahead = rw (here, there) (starts_past old number block (inner ∷ rest));
        reached = rw (here, there) (one ∙ ap (reach_from old empty stop (inner ∷ rest)) (past.2 ∙ rw depth refl));
      }

  -- where a block takes nothing, the line goes past its stretch, up to the block that begins the next or the innermost
  past_stretch : (number last : ℕ) (block inner : OpenBlock) (rest : List OpenBlock) (reach : Reach)
      → drop number blocks ≡ block ∷ inner ∷ rest → last ≡ number + suc (length rest) → last + 1 ≡ length blocks
      → TakesNothing (nat_le stop reach.content) reach.left (taken_by old block.body) → reach.all ≡ true
      → reach.depth ≡ number → AtNextStretch old empty stop number blocks reach
      (next_of last (starts old number (outer_of (block ∷ inner ∷ rest))))
  unfolding starts outer_of
  past_stretch number last block inner [] reach here is n takes all depth =
      let next : last ≡ number + 1 = omega (arith, is) in
      rw next (past_this number block inner [] reach here (omega (arith, is, n)) takes all depth)
  past_stretch number last block inner (next ∷ rest) reach here is n takes all depth =
      let this = past_this number block inner (next ∷ rest) reach here (omega (arith, is, n)) takes all depth in
      let there = next_are number block (inner ∷ next ∷ rest) here in
      by_test (are_alike old block.body inner.body) (λ alike.
      let later = past_stretch (number + 1) last inner next rest (record reach { depth = number + 1 }) there
      (omega (arith, is)) n
      (rw (same_taking (taken_by old block.body) (taken_by old inner.body) alike) at takes) all refl in
      rw alike (record {
        more = omega (arith, later.more);
        within = later.within;
        ahead = rw (here, alike) (rw there at later.ahead);
        reached = this.reached ∙ later.reached;
      })) (λ unlike. rw unlike this)

-- where a block that is not the innermost takes nothing, the line goes past its stretch
pub past_stretch_at : (old empty : Bool) (stop number last : ℕ) (blocks : List OpenBlock) (or : OpenBlock)
    (reach : Reach) → number < last → last + 1 ≡ length blocks
    → TakesNothing (nat_le stop reach.content) reach.left (taken_by old (get_or blocks number or).body)
    → reach.all ≡ true → reach.depth ≡ number → AtNextStretch old empty stop number blocks reach
    (next_of last (starts old number (outer_of (drop number blocks))))
past_stretch_at old empty stop number last blocks or reach more n takes all depth =
    let rest = drop ((number + 1) + 1) blocks in
    let inside : drop number blocks ≡ get_or blocks number or ∷ get_or blocks (number + 1) or ∷ rest =
    rw (inside_of blocks number or (omega (arith, more, n)), inside_of blocks (number + 1) or (omega (arith, more, n)))
    refl in
    rw inside (past_stretch old empty stop blocks number last _ _ rest reach inside
    (omega (arith, length-drop ((number + 1) + 1) blocks, n, more)) n takes all depth)

-- the stretches that a line has ahead at a number, of those inside the few outermost blocks
abbrev pub starts_ahead : Bool → ℕ → List OpenBlock → List ℕ
starts_ahead old number blocks = starts old (max few number) (outer_of (drop (max few number) blocks))

-- at the outermost block
pub starts_at_first : (old : Bool) (blocks : List OpenBlock) → deep_starts old (outer_of blocks)
    ≡ starts_ahead old 0 blocks
unfolding deep_starts
starts_at_first old blocks = rw (drop_outer few blocks) refl

-- at a number inside these
pub ahead_deep : (old : Bool) (number : ℕ) (blocks : List OpenBlock) → few ≤ number
    → starts_ahead old number blocks ≡ starts old number (outer_of (drop number blocks))
ahead_deep old number blocks deep = let at : max few number ≡ number = omega (arith, deep) in rw at refl

-- past a block are those of the blocks inside it
pub starts_past_any : (old : Bool) (number : ℕ) (blocks : List OpenBlock) (numbers : List ℕ) → number < length blocks
    → numbers ≡ starts_ahead old number blocks
    → starts_after (number + 1) numbers ≡ starts_ahead old (number + 1) blocks
starts_past_any old number blocks numbers more ahead = by_test (nat_le few number) (λ deep.
    let inside : few ≤ number = grind (arith, nat_tests, deep) in
    let none : OpenBlock = record { start = 0; body = body.Root } in
    rw (ahead, ahead_deep old number blocks inside, ahead_deep old (number + 1) blocks (omega (arith, inside)))
    (rw (inside_of blocks number none more) (starts_past old number (get_or blocks number none) _))) (λ deep.
    let outside : number < few = grind (arith, nat_tests, deep) in
    let at : max few (number + 1) ≡ max few number = omega (arith, outside) in
    rw (ahead, at) (begins_later old (number + 1) (max few number) _ (omega (arith, outside))))

-- none are open, so none are around the innermost
pub stretches_of_none : (now : Stretches) (blocks : List OpenBlock) → blocks ≡ [] → IsOf now []
    → IsOf now (outer_of blocks)
unfolding outer_of
stretches_of_none now blocks none known = rw none known
