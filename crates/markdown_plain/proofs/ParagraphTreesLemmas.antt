-- Lines of a paragraph or a heading: the breaks after them, the task marker before the first, the braces at the end
-- of the last; and their items, one line after the other.
use Rattle.std.proofs.Common.{◌≡◌, ℕ, zero, suc, ◌+◌, ◌-◌, ◌<◌, ◌≤◌, Bool, true, false, List, [], ◌∷◌, Option, Some}
use Rattle.std.proofs.Common.{None, length, take, drop, slice_range, refl, sym, ap, ◌∙◌, arith, length-drop, ◌++◌}
use Rattle.std.proofs.Common.{append_assoc, slice_index, get_or, cond, nat_lt, ◌==◌, ◌&&◌, if◌then◌else◌, slice_get}
use Rattle.std.proofs.Common.{is_some, option_map, true≢false, drop-drop, get_or-drop, get_or-take, length-take}
use Rattle.std.proofs.Common.{take-take, IsCharBoundary, IsUtf8}
use Rattle.markdown_plain.proofs.Names.{option_map_or, prefix_len, suffix_len, and_parts, nat_tests}
use Rattle.markdown_plain.proofs.Names.{prefix_len-le-length, same_Some, slice_get-get_or, IsCharBoundary-after_ascii}
use Rattle.markdown_plain.proofs.Names.{IsCharBoundary-before_ascii, space, with_items, BuilderView, Shown, plain_item}
use Rattle.markdown_plain.proofs.Names.{Forest, more_items, no_items, content_items, trimmed_is, Source, without_end}
use Rattle.markdown_plain.proofs.Names.{is_space_or_tab, SourceLine, task_marker, Braces, HeldLine, last_braces}
use Rattle.markdown_plain.proofs.Names.{IsTextLine, AreTextLines, HasItems, stepped, Syntax, HeadingLevel, Line}
use Rattle.markdown_plain.proofs.Names.{MayStep, first_task}
use Rattle.std.proofs.lemmas.List.{drop-take, get_or_past}
use Rattle.std.proofs.lemmas.List.Sums.{suffix_len_is}
use Rattle.markdown_base.specs.Bytes.{backslash, close_bracket, open_bracket}
use Rattle.markdown_items.proofs.ContentItemsLemmas.{no_byte}
use Rattle.markdown_items.specs.LineItems.{item_syntax}
use Rattle.markdown_items.specs.declared.found.LineRange.{LineRange}
use Rattle.markdown_lines.specs.HeadingAttributes.{open_brace, braces_from, braces_in, braces_to, close_brace}
use Rattle.markdown_lines.specs.HeadingAttributes.{is_enclosed}
use Rattle.markdown_lines.specs.LineBreaks.{IsLineBreak}
use Rattle.markdown_lines.specs.Lines.{IsRunBefore}
use Rattle.markdown_lines.specs.TaskMarkers.{is_task_done, is_task_space, past_task, task_length, task_read}
use Rattle.markdown_lines.specs.declared.line_break.LineBreak.{LineBreak}
use Rattle.markdown_block_rules.specs.BlockRules.{cut_before_braces, before_braces, paragraph_items}
use Rattle.markdown_block_rules.specs.LineContents.{break_between, lines_items}
use Rattle.markdown_plain.specs.ParagraphItems.{BeginsWithTask, OpenInLast, after_task, line_or_nothing, IsLeft}
use Rattle.markdown_plain.specs.ParagraphItems.{task_items, text_items, BeginWithTask, heading_braces}
use Rattle.markdown_plain.specs.LeafTrees.{Appends}
use Rattle.markdown_plain.specs.Fitting.{extended, BracesStand}
use Rattle.markdown_plain.specs.ParagraphSteps.{AppendsWhole}
use Rattle.markdown_plain.specs.declared.paragraph.Ends.{Ends}
use Rattle.markdown_plain.specs.Closable.{HasBraces, IsLeafOpen}
use Rattle.markdown_plain.proofs.LeafTreesLemmas.{by_test, no_text, on_option, on_test, texts_after}
use Rattle.markdown_base.specs.declared.item.ItemBody.TheVariants as body

-- ---- breaks

pub range_length : (text : List ℕ) (from stop : ℕ) → stop ≤ length text
    → length (slice_range text from stop) ≡ stop - from
range_length text from stop within = omega (arith, length-take (stop - from) (drop from text), length-drop from text)

pub range_byte : (text : List ℕ) (from stop k : ℕ) → k < stop - from
    → get_or (slice_range text from stop) k 0 ≡ get_or text (from + k) 0
range_byte text from stop k lt = get_or-take (stop - from) (drop from text) k 0 lt ∙ get_or-drop from text k 0

-- where the run at the end of a line begins
run_begins : (test : ℕ → Bool) (text : List ℕ) (from stop at : ℕ) → IsRunBefore test text from stop at
    → stop ≤ length text → at ≡ from + length (without_end test (slice_range text from stop))
run_begins test text from stop at run within =
    let xs = slice_range text from stop in let long = range_length text from stop within in
    let size : suffix_len test xs ≡ length xs - (at - from) =
    suffix_len_is test xs (at - from) 0 (omega (arith, long, run.low, run.high)) (λ k le lt.
    rw (range_byte text from stop k (omega (arith, long, lt)))
    (run.passes (from + k) (omega (arith, le, run.low)) (omega (arith, long, lt)))) (λ some.
    let place : from + (at - from - 1) ≡ at - 1 = omega (arith, some, run.low) in
    rw (range_byte text from stop (at - from - 1) (omega (arith, some, run.low, run.high)), place)
    (run.stops (at - 1) (omega (arith, some)) (omega (arith, some)))) in
    omega (arith, size, trimmed_is test xs, long, run.low, run.high)

-- the break after a line is that of its bytes
break_is : (text : List ℕ) (from stop : ℕ) (between : LineBreak) → from ≤ stop → stop ≤ length text
    → IsLineBreak text from stop between → between ≡ break_between from (slice_range text from stop)
break_is text from stop between ordered within is =
    let xs = slice_range text from stop in
    let spaces = run_begins (λ b. b == space) text from stop is.spaces is.space_run within in
    let size : length (without_end (λ b. b == space) xs) ≡ is.spaces - from = omega (arith, spaces) in
    let cut : slice_range text from is.spaces ≡ without_end (λ b. b == space) xs =
    sym (ap (λ n. take n xs) (trimmed_is (λ b. b == space) xs ∙ size)
    ∙ take-take (is.spaces - from) (stop - from) (drop from text) (omega (arith, is.space_run.high))) in
    let content = run_begins is_space_or_tab text from is.spaces is.content is.content_run
    (omega (arith, is.space_run.high, within)) ∙ ap (λ ys. from + length (without_end is_space_or_tab ys)) cut in
    let end : stop ≡ from + length xs = omega (arith, range_length text from stop within, ordered) in
    let slashes = run_begins (λ b. b == backslash) text from stop is.backslashes is.backslash_run within in
    is.value ∙ cc (end, slashes, spaces, content)

-- a line of which nothing is left has no items
pub empty_line : (levels : List (Forest Shown)) (s : Source) (line : HeldLine) (source : SourceLine)
    → IsTextLine s.text line source → line.start ≡ line.stop → levels ≡ with_items levels (line_or_nothing s source)
empty_line levels s line source is same =
    let size = length-take (line.stop - line.start) (drop line.start s.text) in
    let empty : (length source.left.bytes == 0) ≡ true = grind (arith, nat_tests, ap length is.bytes, size, same) in
    rw empty (sym (no_items levels))

-- a line and the break after it
pub line_and_break : (levels mid after : List (Forest Shown)) (s : Source) (line : HeldLine) (source : SourceLine)
    (between : LineBreak) → IsTextLine s.text line source → line.start < line.stop → line.stop ≤ length s.text
    → IsLineBreak s.text line.start line.stop between
    → mid ≡ with_items levels (content_items s.text (item_syntax s.syntax) line.start between.text_end)
    → after ≡ with_items mid (plain_item between.start line.next between.body ∷ [])
    → after ≡ with_items levels (line_or_nothing s source)
line_and_break levels mid after s line source between is some within broken first second =
    let value : between ≡ break_between source.left.scanned source.left.bytes =
    rw (← is.start, ← is.bytes) (break_is s.text line.start line.stop between (omega (arith, some)) within broken) in
    let size = range_length s.text line.start line.stop within in
    let filled : (length source.left.bytes == 0) ≡ false = grind (arith, nat_tests, ap length is.bytes, size, some) in
    let parts = more_items levels (content_items s.text (item_syntax s.syntax) line.start between.text_end)
    (plain_item between.start line.next between.body ∷ []) in
    rw (second, first, parts, filled, value, is.start, is.next) refl

-- ---- task markers

pub if_some : {A : Type 0} (test : Bool) (value : Option A) (a : A) → (if test then value else None) ≡ Some a
    → (test ≡ true) × (value ≡ Some a)
if_some true value a e = (refl, e)
if_some false value a e = absurd (grind (arith, e))

-- a byte that is not 0 is within its bytes
byte_within : (bytes : List ℕ) (k : ℕ) → 0 < slice_index bytes k → k < length bytes
byte_within bytes k some = grind (arith, get_or_past {X = ℕ})

-- the bytes of a task marker, and the white space after it
pub has_marker : (bytes : List ℕ) (done : Bool) → task_marker bytes ≡ Some done
    → ((slice_index bytes 0 == open_bracket) ≡ true) × (is_task_done (slice_index bytes 1) ≡ Some done)
    × ((slice_index bytes 2 == close_bracket) ≡ true) × (is_task_space (slice_index bytes 3) ≡ true)
has_marker bytes done e =
    let test = if_some ((slice_index bytes 0 == open_bracket) && (slice_index bytes 2 == close_bracket)
    && is_task_space (slice_index bytes 3)) (is_task_done (slice_index bytes 1)) done e in
    let all = and_parts _ _ test.0 in let ends = and_parts _ _ all.0 in (ends.0, test.1, ends.1, all.1)

-- a task marker is in its line
pub marker_within : (bytes : List ℕ) (done : Bool) → task_marker bytes ≡ Some done
    → (4 ≤ length bytes) × (task_length bytes ≤ length bytes)
marker_within bytes done e =
    let long = byte_within bytes 3 (grind (arith, nat_tests, (has_marker bytes done e).3)) in
    (long, omega (arith, long, prefix_len-le-length is_task_space (drop 3 bytes), length-drop 3 bytes))

-- a line lies within its text, with its task marker
pub marked_line : (text : List ℕ) (line : HeldLine) (source : SourceLine) (done : Bool)
    → IsTextLine text line source → task_marker source.left.bytes ≡ Some done
    → (line.start + 4 ≤ length text) × (line.start + task_length (slice_range text line.start line.stop) ≤ length text)
marked_line text line source done is marker =
    let inside = marker_within (slice_range text line.start line.stop) done (rw is.bytes marker) in
    let size = length-take (line.stop - line.start) (drop line.start text) in let left = length-drop line.start text in
    (omega (arith, size, left, inside.0), omega (arith, size, left, inside.0, inside.1))

-- what follows a task marker in a line
pub line_past_task : (text : List ℕ) (line : HeldLine) (source : SourceLine) (done : Bool) (start : ℕ)
    → IsTextLine text line source → task_marker source.left.bytes ≡ Some done
    → start ≡ line.start + task_length (slice_range text line.start line.stop)
    → IsTextLine text (record line { start = start }) (past_task source)
line_past_task text line source done start is marker e =
    let whole = slice_range text line.start line.stop in let n = task_length whole in
    let within = (marker_within whole done (rw is.bytes marker)).1 in
    let size : line.stop - line.start ≡ n + (line.stop - (line.start + n)) =
    omega (arith, within, length-take (line.stop - line.start) (drop line.start text)) in
    let past : slice_range text (line.start + n) line.stop ≡ drop n whole =
    sym (ap (λ k. drop n (take k (drop line.start text))) size
    ∙ (drop-take n (line.stop - (line.start + n)) (drop line.start text)
    ∙ ap (take (line.stop - (line.start + n))) (drop-drop n line.start text))) in
    record { start = rw (e, is.bytes, is.start) refl; bytes = rw (e, past, is.bytes) refl; next = is.next }

-- ---- braces

no_longer : (test : ℕ → Bool) (n : ℕ) (bytes : List ℕ) → n < length bytes → test (slice_index bytes n) ≡ false
    → prefix_len test (take n bytes) ≡ prefix_len test bytes
no_longer test n [] less stops = absurd (omega (arith, less))
no_longer test zero (b ∷ bytes) less stops = rw stops refl
no_longer test (suc n) (b ∷ bytes) less stops =
    ap (λ k. cond (test b) (1 + k) 0) (no_longer test n bytes (omega (arith, less)) stops)

-- there is no `{` in a task marker
past_marker : (bytes : List ℕ) (done : Bool) (k : ℕ) → task_marker bytes ≡ Some done
    → slice_index bytes k ≡ open_brace → 4 ≤ k
past_marker bytes done zero m e = absurd (true≢false (sym (rw e at (has_marker bytes done m).0)))
past_marker bytes done (suc zero) m e = let none = rw e at (has_marker bytes done m).1 in absurd (grind (arith, none))
past_marker bytes done (suc (suc zero)) m e = absurd (true≢false (sym (rw e at (has_marker bytes done m).2)))
past_marker bytes done (suc (suc (suc zero))) m e = absurd (true≢false (sym (rw e at (has_marker bytes done m).3)))
past_marker bytes done (suc (suc (suc (suc k)))) m e = omega arith

none_of : (value : Option Bool) → ((done : Bool) → value ≡ Some done → ⊥) → value ≡ None
none_of None never = refl
none_of (Some done) never = absurd (never done refl)

-- the task marker is the same in a line that is cut off at a `{`
marker_before_brace : (bytes : List ℕ) (k : ℕ) → slice_index bytes k ≡ open_brace
    → task_marker (take k bytes) ≡ task_marker bytes
marker_before_brace bytes k e =
    by_test (nat_lt k 4) (λ few.
    let less : k < 4 = grind (arith, nat_tests, few) in let size = length-take k bytes in
    none_of (task_marker (take k bytes)) (λ done m. omega (arith, marker_within (take k bytes) done m, size, less))
    ∙ sym (none_of (task_marker bytes) (λ done m. omega (arith, past_marker bytes done k m e, less)))) (λ many.
    let byte : (n : ℕ) → n < 4 → get_or (take k bytes) n 0 ≡ get_or bytes n 0 = λ n low.
    get_or-take k bytes n 0 (grind (arith, nat_tests, many, low)) in
    rw (byte 0 (omega arith), byte 1 (omega arith), byte 2 (omega arith), byte 3 (omega arith)) refl)

-- a line with other bytes, after as many that are passed over
abbrev read_to : SourceLine → ℕ → List ℕ → SourceLine
read_to l n bytes = record l { left = record l.left { scanned = l.left.scanned + n; bytes = bytes } }

-- whether a line is cut off at a `{` first, or read on after its task marker, makes no difference
record IsReadOn (task : Option Bool) (braces : Option Braces) (l : SourceLine) : Type 0 where
  same : cut_before_braces braces (after_task task l) ≡ after_task task (cut_before_braces braces l)
  marker : task_items task (cut_before_braces braces l) ≡ task_items task l
  opens : OpenInLast braces (after_task task l ∷ [])

read_on : (task : Option Bool) (braces : Option Braces) (l : SourceLine) → BeginsWithTask task l
    → OpenInLast braces (l ∷ []) → IsReadOn task braces l
read_on None braces l marker e = record { same = refl; marker = refl; opens = e }
read_on (Some done) None l marker e = record { same = refl; marker = refl; opens = tt }
read_on (Some done) (Some braces) l marker e =
    let bytes = l.left.bytes in let k = braces.opening - l.left.scanned in let n = task_length bytes in
    let rest = drop 3 bytes in let far = past_marker bytes done k marker e in
    let place : 3 + (k - 3) ≡ k = omega (arith, far) in
    let stops : is_task_space (slice_index rest (k - 3)) ≡ false =
    ap is_task_space (get_or-drop 3 bytes (k - 3) 0 ∙ (ap (λ n. get_or bytes n 0) place ∙ e)) in
    let inside = byte_within bytes k (omega (arith, e)) in
    let size = no_longer is_task_space (k - 3) rest (omega (arith, inside, far, length-drop 3 bytes)) stops in
    let cut : drop 3 (take k bytes) ≡ take (k - 3) rest =
    ap (λ n. drop 3 (take n bytes)) (sym place) ∙ drop-take 3 (k - 3) bytes in
    let few = prefix_len-le-length is_task_space (take (k - 3) rest) in
    let within : n ≤ k = omega (arith, size, few, length-take (k - 3) rest, place) in
    let keeps : task_length (take k bytes) ≡ n =
    ap (λ bs. 3 + prefix_len is_task_space bs) cut ∙ ap (λ n. 3 + n) size in
    let left : k ≡ n + (braces.opening - (l.left.scanned + n)) = omega (arith, within) in
    record {
      same = ap (read_to l n) (sym (ap (λ m. drop n (take m bytes)) left
          ∙ drop-take n (braces.opening - (l.left.scanned + n)) bytes))
          ∙ ap (λ m. read_to l m (drop m (take k bytes))) (sym keeps);
      marker = refl;
      opens = get_or-drop n bytes (braces.opening - (l.left.scanned + n)) 0
          ∙ (ap (λ m. get_or bytes m 0) (sym left) ∙ e);
    }

-- a line that is cut off at a `{`, after its task marker
pub cut_line : {text : List ℕ} {line : HeldLine} (task : Option Bool) (braces : Option Braces) (l : SourceLine)
    → IsTextLine text line (after_task task l) → BeginsWithTask task l → OpenInLast braces (l ∷ [])
    → IsTextLine text (record line { stop = option_map_or (λ braces. braces.opening) braces line.stop })
    (cut_before_braces braces (after_task task l))
cut_line task None l is marker e = is
cut_line {text} {line} task (Some braces) l is marker e =
    let source = after_task task l in
    let opens : slice_index source.left.bytes (braces.opening - source.left.scanned) ≡ open_brace =
    (read_on task (Some braces) l marker e).opens in
    let inside = byte_within source.left.bytes (braces.opening - source.left.scanned) (omega (arith, opens)) in
    let size = length-take (line.stop - line.start) (drop line.start text) in
    record {
      start = is.start;
      bytes = sym (take-take (braces.opening - line.start) (line.stop - line.start) (drop line.start text)
          (omega (arith, inside, ap length is.bytes, size, is.start))) ∙ rw (is.bytes, is.start) refl;
      next = is.next;
    }

-- ---- the items of a line, and those of the lines after it

-- the items of some lines, of which nothing may be left of the first
abbrev items_of : Source → List SourceLine → List Shown
items_of s lines = lines_items s.text (item_syntax s.syntax) lines

-- the last line, after its task marker
split_last : (s : Source) (task : Option Bool) (l : SourceLine)
    → text_items s task (l ∷ []) ≡ task_items task l ++ items_of s (after_task task l ∷ [])
split_last s None l = refl
split_last s (Some done) l =
    ap (λ items. plain_item l.left.scanned (l.left.scanned + 3) (body.TaskListMarker done) ∷ items)
    (by_test (length bytes == 0) (λ none. rw none (sym (nothing (grind (arith, nat_tests, none))))) (λ some. rw some))
  where
    bytes : List ℕ
    bytes = (past_task l).left.bytes

    nothing : length bytes ≡ 0 → items_of s (past_task l ∷ []) ≡ []
    nothing none =
        let at = (past_task l).left.scanned in
        let short : at + length (without_end is_space_or_tab bytes) ≡ at =
        omega (arith, none, length-take (length bytes - suffix_len is_space_or_tab bytes) bytes) in
        let line : LineRange = record { start = at; end = at; extensions = item_syntax s.syntax } in
        let past : nat_lt at at ≡ false = grind (arith, nat_tests) in
        ap (content_items s.text (item_syntax s.syntax) at) short ∙ (no_byte (at - at) s.text line at ∙ rw past)

-- another line, after its task marker, and the lines after it
split_more : (s : Source) (task : Option Bool) (l m : SourceLine) (lines : List SourceLine) → 0 < length l.left.bytes
    → text_items s task (l ∷ m ∷ lines)
    ≡ task_items task l ++ (line_or_nothing s (after_task task l) ++ items_of s (m ∷ lines))
split_more s None l m lines some =
    let filled : (length l.left.bytes == 0) ≡ false = grind (arith, nat_tests, some) in rw filled
split_more s (Some done) l m lines some =
    ap (λ items. plain_item l.left.scanned (l.left.scanned + 3) (body.TaskListMarker done) ∷ items)
    (by_test (length (past_task l).left.bytes == 0) (λ none. rw none) (λ some. rw some))

-- ---- what is left of the lines

pub last_line_left : {s : Source} {ends : Ends} {l : SourceLine} {now : BuilderView} {all : List (Forest Shown)}
    → IsLeft s ends (l ∷ []) now all → (mid after : BuilderView) → HasItems now mid (task_items ends.task l)
    → HasItems mid after (items_of s (cut_before_braces ends.braces (after_task ends.task l) ∷ []))
    → IsLeft s (record ends { task = None }) [] after all
last_line_left {s} {ends} {l} {now} left mid after marked added =
    let cut = cut_before_braces ends.braces l in
    let parts = more_items now.levels (task_items ends.task l) (items_of s (after_task ends.task cut ∷ [])) in
    let same = read_on ends.task ends.braces l left.fit.task left.fit.braces in
    let nowhere = on_option (λ braces. OpenInLast braces []) ends.braces tt (λ _ _. tt) in
    record {
      fit = record { some = tt; task = tt; braces = nowhere };
      over = λ none. absurd (none refl);
      rest = rw (no_items after.levels, added, marked, same.same, parts, ← same.marker, ← split_last s ends.task cut)
          left.rest;
    }

-- the lines behind another are some, too, before the braces
stay_some : (braces : Option Braces) (m : SourceLine) (lines : List SourceLine)
    → (first : SourceLine) × (more : List SourceLine) × (before_braces braces (m ∷ lines) ≡ first ∷ more)
stay_some braces m [] = (cut_before_braces braces m, [], refl)
stay_some braces m (n ∷ lines) = (m, before_braces braces (n ∷ lines), refl)

pub broken_line_left : {s : Source} {ends : Ends} {l m : SourceLine} {lines : List SourceLine}
    {now mid after : BuilderView} {all : List (Forest Shown)} → IsLeft s ends (l ∷ m ∷ lines) now all
    → HasItems now mid (task_items ends.task l) → AppendsWhole mid after (line_or_nothing s (after_task ends.task l))
    → IsLeft s (record ends { task = None }) (m ∷ lines) after all
broken_line_left {s} {ends} {l} {m} {lines} {now} {mid} {after} left marked added =
    let task = ends.task in let stay = stay_some ends.braces m lines in
    let line = line_or_nothing s (after_task task l) in let others = items_of s (stay.0 ∷ stay.1) in
    let first = more_items now.levels (task_items task l) line in
    let all = more_items now.levels (task_items task l ++ line) others in
    let split = split_more s task l stay.0 stay.1 left.fit.some.0 in
    let later = on_option (λ braces. OpenInLast braces (l ∷ m ∷ lines) → OpenInLast braces (m ∷ lines)) ends.braces
    (λ _. tt) (λ _ _ e. e) in
    record {
      fit = record { some = left.fit.some.1; task = tt; braces = later left.fit.braces };
      over = λ some. added.over;
      rest = rw (stay.2, added.items, marked, first, all, append_assoc (task_items task l) line others, ← split)
          (rw stay.2 at left.rest);
    }

-- ---- lines that are taken in order

-- the line of this number, among these of the definition, and those behind it
pub record TakesLine (text : List ℕ) (sources : List SourceLine) (number : ℕ) (line : HeldLine) : Type 0 where
  pub source : SourceLine
  pub is : IsTextLine text line source
  pub left : drop number sources ≡ source ∷ drop (number + 1) sources

pub takes_line : (text : List ℕ) (lines : List HeldLine) (sources : List SourceLine) (number : ℕ) (other : HeldLine)
    → AreTextLines text lines sources → number < length lines
    → TakesLine text sources number (get_or lines number other)
takes_line text [] sources number other are less = absurd (omega (arith, less))
takes_line text (first ∷ lines) [] number other are less = absurd are
takes_line text (first ∷ lines) (source ∷ sources) zero other are less =
    record { source = source; is = are.0; left = refl }
takes_line text (first ∷ lines) (source ∷ sources) (suc number) other are less =
    let rest = takes_line text lines sources number other are.1 (omega (arith, less)) in
    let further : suc (number + 1) ≡ suc number + 1 = omega arith in
    record { source = rest.source; is = rest.is; left = rw (← further) rest.left }

pub got : (lines : List HeldLine) (number : ℕ) (other : HeldLine) → number < length lines
    → option_map_or (λ line. line.next) (slice_get lines number) 0 ≡ (get_or lines number other).next
got lines number other less = rw (slice_get-get_or lines number other less)

-- once no line is left
pub nothing_left : {s : Source} {ends : Ends} {lines : List SourceLine} {now : BuilderView} {all : List (Forest Shown)}
    → lines ≡ [] → IsLeft s ends lines now all → now.levels ≡ all
nothing_left {now = now} none left = sym (no_items now.levels) ∙ rw none at left.rest

-- ---- items that are appended

-- a step appends none
pub step_appends : {old new : BuilderView} {to : ℕ} → new ≡ stepped old to → Appends old new to
step_appends e = rw e (record { goes_on = refl; texts = no_text _ _ refl })

-- one item
pub item_appends : {old new : BuilderView} {levels : List (Forest Shown)} {to : ℕ} → new ≡ extended old levels to
    → Appends old new to
item_appends e = rw e (record { goes_on = refl; texts = no_text _ _ refl })

-- more were appended, and then more still
pub appends_twice : {old mid new : BuilderView} {to end : ℕ} → Appends old mid to → Appends mid new end
    → Appends old new end
appends_twice {old} {mid} {new} first second = record {
  goes_on = rw (second.goes_on, first.goes_on) refl;
  texts = texts_after old mid new first.texts second.texts;
}

-- a step ahead fits, once more was appended to an open leaf
pub may_go_on : {old new : BuilderView} {at to : ℕ} → Appends old new at → IsLeafOpen old → at ≤ to
    → IsCharBoundary old.text to → MayStep new to
may_go_on more is low boundary =
    rw more.goes_on (record { ahead = (low, boundary); white = λ none. absurd (is.some none) })

-- ---- where braces are

-- a byte of the first ones
byte_of : (n : ℕ) (bytes : List ℕ) (k byte : ℕ) → 0 < byte → slice_index (take n bytes) k ≡ byte
    → slice_index bytes k ≡ byte
byte_of n bytes k byte some e =
    let inside = byte_within (take n bytes) k (omega (arith, e, some)) in
    sym (get_or-take n bytes k 0 (omega (arith, inside, length-take n bytes))) ∙ e

braces_are : (bytes : List ℕ) (braces : Braces) → braces_in bytes ≡ Some braces
    → (slice_index bytes braces.opening ≡ open_brace) × (slice_index bytes braces.closing ≡ close_brace)
braces_are bytes braces e =
    let trimmed = without_end is_space_or_tab bytes in let close = length trimmed - 1 in
    let closed = if_some (slice_index trimmed close == close_brace) (braces_to close bytes) braces e in
    let inner = take close bytes in let opened = without_end is_enclosed inner in let brace = length opened - 1 in
    let found = if_some (slice_index opened brace == open_brace) (Some (record { opening = brace; closing = close }))
    braces closed.1 in
    let inside = byte_of (length inner - suffix_len is_enclosed inner) inner brace open_brace (omega arith)
    (grind (arith, nat_tests, found.0)) in
    rw (← same_Some (record { opening = brace; closing = close }) braces found.1) (
      byte_of close bytes brace open_brace (omega arith) inside,
      byte_of (length bytes - suffix_len is_space_or_tab bytes) bytes close close_brace (omega arith)
          (grind (arith, nat_tests, closed.0)),
    )

-- ---- characters around braces

ascii_at : (text : List ℕ) (start stop k byte : ℕ) → IsUtf8 text → 0 < byte → byte < 128
    → slice_index (slice_range text start stop) k ≡ byte
    → IsCharBoundary text (start + k + 1) × IsCharBoundary text (start + k)
ascii_at text start stop k byte utf8 some low is =
    let inside = byte_within (slice_range text start stop) k (omega (arith, is, some)) in
    let most = length-take (stop - start) (drop start text) in
    let here : start + k < length text = omega (arith, inside, most, length-drop start text) in
    let small : get_or text (start + k) 0 < 128 =
    omega (arith, range_byte text start stop k (omega (arith, inside, most)), is, low) in (
      IsCharBoundary-after_ascii text (start + k) utf8 here small,
      IsCharBoundary-before_ascii text (start + k) here small,
    )

pub braces_stand : (text : List ℕ) (start stop : ℕ) → IsUtf8 text
    → BracesStand text (option_map (braces_from start) (braces_in (slice_range text start stop)))
braces_stand text start stop utf8 =
    let bytes = slice_range text start stop in
    on_option (λ found. BracesStand text (option_map (braces_from start) found)) (braces_in bytes) tt (λ braces e.
    let are = braces_are bytes braces e in (
      (ascii_at text start stop braces.opening open_brace utf8 (omega arith) (omega arith) are.0).0,
      (ascii_at text start stop braces.closing close_brace utf8 (omega arith) (omega arith) are.1).1,
    ))

-- braces open in their line, and between characters
pub braces_within : (text : List ℕ) (line : HeldLine) → IsUtf8 text
    → HasBraces text (option_map (braces_from line.start) (braces_in (slice_range text line.start line.stop))) line
braces_within text line utf8 =
    let bytes = slice_range text line.start line.stop in
    on_option (λ found. HasBraces text (option_map (braces_from line.start) found) line) (braces_in bytes) tt
    (λ braces e.
    let are = braces_are bytes braces e in
    let inside = byte_within bytes braces.opening (omega (arith, are.0)) in (
      omega (arith, inside, length-take (line.stop - line.start) (drop line.start text)),
      (ascii_at text line.start line.stop braces.opening open_brace utf8 (omega arith) (omega arith) are.0).1,
    ))

-- ---- the last line

last_of : (syntax : Syntax) (text : List ℕ) (lines : List HeldLine) (sources : List SourceLine) (from k : ℕ)
    (line : HeldLine) → syntax.attributes ≡ true → AreTextLines text lines sources → length lines ≡ length sources
    → from < length lines → k + 1 ≡ length lines → slice_get lines k ≡ Some line
    → last_braces syntax (drop from sources)
    ≡ option_map (braces_from line.start) (braces_in (slice_range text line.start line.stop))
last_of syntax text (first ∷ []) (source ∷ []) zero zero line read are many less size e =
    rw (← same_Some first line e, are.0.bytes, are.0.start, read) refl
last_of syntax text (_ ∷ second ∷ lines) (_ ∷ other ∷ sources) zero (suc k) line read are many less size e =
    last_of syntax text (second ∷ lines) (other ∷ sources) zero k line read are.1 (omega (arith, many)) (omega arith)
    (omega (arith, size)) e
last_of syntax text (_ ∷ second ∷ lines) (_ ∷ other ∷ sources) (suc from) (suc k) line read are many less size e =
    last_of syntax text (second ∷ lines) (other ∷ sources) from k line read are.1 (omega (arith, many))
    (omega (arith, less)) (omega (arith, size)) e
last_of syntax text lines sources from k line read are many less size e = absurd (omega (arith, less, size, many))

-- ---- what is at the ends of the lines

last_open : (syntax : Syntax) (lines : List SourceLine) → OpenInLast (last_braces syntax lines) lines
last_open syntax [] = tt
last_open syntax (l ∷ []) =
    on_test (λ found. OpenInLast found (l ∷ [])) syntax.attributes _ None (λ read.
    on_option (λ found. OpenInLast (option_map (braces_from l.left.scanned) found) (l ∷ [])) (braces_in l.left.bytes) tt
    (λ braces e.
    let place : (l.left.scanned + braces.opening) - l.left.scanned ≡ braces.opening = omega arith in
    rw place (braces_are l.left.bytes braces e).0)) (λ unread. tt)
last_open syntax (l ∷ m ∷ lines) =
    on_option (λ braces. OpenInLast braces (m ∷ lines) → OpenInLast braces (l ∷ m ∷ lines))
    (last_braces syntax (m ∷ lines)) (λ _. tt) (λ _ _ e. e) (last_open syntax (m ∷ lines))

pub heading_open : (syntax : Syntax) (heading : Option (HeadingLevel × Line)) (lines : List SourceLine)
    → OpenInLast (heading_braces syntax heading lines) lines
heading_open syntax None lines = tt
heading_open syntax (Some heading) lines = last_open syntax lines

pub begin_first : (s : Source) (marked : ℕ) (lines : List SourceLine) (task : Option Bool)
    → task ≡ first_task s marked lines → BeginWithTask task lines
begin_first s marked [] task e = tt
begin_first s marked (l ∷ lines) None e = tt
begin_first s marked (l ∷ lines) (Some done) e =
    let read = if_some (l.next == marked) (task_read s.syntax l.left.bytes) done (sym e) in
    (if_some s.syntax.tasks (task_marker l.left.bytes) done read.1).1

-- no line is cut off without braces
pub not_cut : (lines : List SourceLine) → before_braces None lines ≡ lines
not_cut [] = refl
not_cut (l ∷ []) = refl
not_cut (l ∷ m ∷ lines) = ap (λ (ls : List SourceLine). l ∷ ls) (not_cut (m ∷ lines))

-- the task marker is read off the first line, whether it is cut off at a `{` or not
pub items_before_braces : (s : Source) (marked : ℕ) (braces : Option Braces) (lines : List SourceLine)
    → OpenInLast braces lines → text_items s (first_task s marked lines) (before_braces braces lines)
    ≡ paragraph_items s marked (before_braces braces lines)
items_before_braces s marked braces [] e = refl
items_before_braces s marked None (l ∷ []) e = refl
items_before_braces s marked (Some braces) (l ∷ []) e =
    rw (marker_before_brace l.left.bytes (braces.opening - l.left.scanned) e) refl
items_before_braces s marked braces (l ∷ m ∷ lines) e = refl

-- there are no braces where no attributes are read
pub none_read : (syntax : Syntax) (heading : Option (HeadingLevel × Line)) (lines : List SourceLine)
    → syntax.attributes ≡ false → None ≡ heading_braces syntax heading lines
none_read syntax None lines unread = refl
none_read syntax (Some heading) lines unread = none_last lines
  where
    none_last : (lines : List SourceLine) → None ≡ last_braces syntax lines
    none_last [] = refl
    none_last (l ∷ []) = rw unread refl
    none_last (l ∷ m ∷ lines) = none_last (m ∷ lines)

-- the braces of the last line are those of the heading
pub heading_last : (syntax : Syntax) (heading : Option (HeadingLevel × Line)) (text : List ℕ) (lines : List HeldLine)
    (sources : List SourceLine) (from : ℕ) (line : HeldLine) → is_some heading ≡ true → syntax.attributes ≡ true
    → AreTextLines text lines sources → length lines ≡ length sources → from < length lines → Some line
    ≡ slice_get lines (length lines - 1) → option_map (braces_from line.start)
    (braces_in (slice_range text line.start line.stop)) ≡ heading_braces syntax heading (drop from sources)
heading_last syntax None text lines sources from line some read are many less there = absurd (true≢false (sym some))
heading_last syntax (Some heading) text lines sources from line some read are many less there =
    sym (last_of syntax text lines sources from (length lines - 1) line read are many less (omega (arith, less))
    (sym there))
