-- What is made of a line so far, with what is still to be read of it, is the same after each step.
use Rattle.std.proofs.Common.{◌≡◌, ◌≢◌, ℕ, zero, suc, ◌+◌, ◌-◌, ◌<◌, ◌≤◌, List, [], ◌∷◌, ◌++◌, Option, Some, None, Bool}
use Rattle.std.proofs.Common.{true, false, append_assoc, append-nil, refl, sym, ap, ◌∙◌, arith}
use Rattle.std.specs.Prelude.{slice_index, nat_lt, if◌then◌else◌}
use Rattle.std.proofs.lemmas.Bool.Decides.{nat_tests}
use Rattle.std.proofs.lemmas.Option.{same_Some}
use Rattle.markdown_base.specs.Forest.{Forest, nil, node}
use Rattle.markdown_builder.specs.BuilderView.{BuilderView, follows_run, with_items}
use Rattle.markdown_builder.specs.Shown.{Shown, chain_of}
use Rattle.markdown_builder.specs.TreeLevels.{followed_by, with_trees}
use Rattle.markdown_builder.proofs.LaidLemmas.{followed_by-assoc, followed_by-nil}
use Rattle.markdown_items.specs.declared.extensions.ItemSyntax.{ItemSyntax}
use Rattle.markdown_items.specs.declared.found.Found.{Found}
use Rattle.markdown_items.specs.declared.found.Found.TheVariants as found
use Rattle.markdown_items.specs.declared.found.LineRange.{LineRange}
use Rattle.markdown_items.specs.ContentItems.{AddsItems, AddsTexts, content_items, items_read_from, text_between}
use Rattle.markdown_items.specs.Found.{found_at}
use Rattle.markdown_items.specs.FoundFits.{FoundFits, levels_after, next_after, run_after_text, view_after}
use Rattle.markdown_items.specs.FoundItems.{found_items, text_from, read_on}
use Rattle.markdown_items.specs.FoundView.{found_view}
use Rattle.markdown_items.specs.LineItems.{is_special, IsFirstSpecial}
use Rattle.markdown_items.specs.RestOfLine.{AwaitsRest, HasSpecialRun, RunIsOver}
use Rattle.markdown_items.proofs.ContentItemsLemmas.{plain_bytes, special_byte, no_byte}
use Rattle.markdown_items.proofs.ItemLemmas.{goes_on}

-- ---- items appended

chain_of-append : {A : Type 0} (xs ys : List A) → chain_of (xs ++ ys) ≡ followed_by (chain_of xs) (chain_of ys)
chain_of-append [] ys = refl
chain_of-append (x ∷ xs) ys = ap (node x nil) (chain_of-append xs ys)

no_trees : {A : Type 0} (levels : List (Forest A)) → with_trees levels nil ≡ levels
no_trees [] = refl
no_trees (level ∷ []) = ap (λ f. f ∷ []) (followed_by-nil level)
no_trees (level ∷ inner ∷ levels) = ap (λ ls. level ∷ ls) (no_trees (inner ∷ levels))

more_trees : {A : Type 0} (levels : List (Forest A)) (f g : Forest A)
    → with_trees (with_trees levels f) g ≡ with_trees levels (followed_by f g)
more_trees [] f g = refl
more_trees (level ∷ []) f g = ap (λ h. h ∷ []) (followed_by-assoc level f g)
more_trees (level ∷ inner ∷ []) f g = ap (λ ls. level ∷ ls) (more_trees (inner ∷ []) f g)
more_trees (level ∷ inner ∷ deeper ∷ levels) f g =
    ap (λ ls. level ∷ ls) (more_trees (inner ∷ deeper ∷ levels) f g)

pub no_items : (levels : List (Forest Shown)) → with_items levels [] ≡ levels
no_items levels = no_trees levels

pub more_items : (levels : List (Forest Shown)) (xs ys : List Shown)
    → with_items (with_items levels xs) ys ≡ with_items levels (xs ++ ys)
more_items levels xs ys =
    more_trees levels (chain_of xs) (chain_of ys) ∙ ap (with_trees levels) (sym (chain_of-append xs ys))

-- ---- plain bytes, and the end

-- as many steps as there are plain bytes, and the others
record Divides (count n : ℕ) : Type 0 where
  left : ℕ
  sum : n ≡ count + left

divides : (count n : ℕ) → count ≤ n → Divides count n
divides count n le = record { left = n - count; sum = omega (arith, le) }

-- plain bytes are passed over
pub past_plain : (line : LineRange) (all : List (Forest Shown)) (view : BuilderView) (from at : ℕ) → view.at ≤ from
    → IsFirstSpecial line.extensions.dashes view.text from line.end at → AwaitsRest line all view from
    → AwaitsRest line all view at
past_plain line all view from at placed first awaits =
    let low = first.low in
    let high = first.high in
    let enough = awaits.enough in
    let d = divides (at - from) awaits.steps (omega (arith, low, high, enough)) in
    let sum = d.sum in
    let here : from + (at - from) ≡ at = omega (arith, low) in
    let read : items_read_from awaits.steps view.text line view.at from
    ≡ items_read_from d.left view.text line view.at at =
    ap (λ n. items_read_from n view.text line view.at from) sum
    ∙ (plain_bytes (at - from) d.left view.text line view.at from (omega (arith, here, high))
    (λ i le lt. first.plain i le (omega (arith, lt, here)))
    ∙ ap (λ i. items_read_from d.left view.text line view.at i) here) in
    record {
      steps = d.left;
      enough = omega (arith, enough, sum, low, high);
      rest = ap (with_items view.levels) (sym read) ∙ awaits.rest;
      over = λ byte some here less.
          let same : from ≡ at = omega (arith, placed, low, here) in
          λ e. awaits.over byte some (omega (arith, here, same)) (omega (arith, same, less))
          (ap (slice_index view.text) same ∙ e);
    }

-- one step at least is left
record IsMore (n : ℕ) : Type 0 where
  before : ℕ
  is : n ≡ suc before

is_more : (n k : ℕ) → k < n → IsMore n
is_more zero k lt = absurd (omega (arith, lt))
is_more (suc n) k lt = record { before = n; is = refl }

-- at the end only a text is left
pub at_end : (line : LineRange) (all : List (Forest Shown)) (view : BuilderView) → AwaitsRest line all view line.end
    → with_items view.levels (text_between view.text line view.at line.end) ≡ all
at_end line all view awaits =
    let m = is_more awaits.steps (line.end - line.end) awaits.enough in
    ap (with_items view.levels) (sym (ap (λ n. items_read_from n view.text line view.at line.end) m.is
    ∙ no_byte m.before view.text line view.at))
    ∙ awaits.rest

-- at the beginning all is left
pub at_start : (syntax : ItemSyntax) (view : BuilderView) (end : ℕ) → RunIsOver end view view.at
    → AwaitsRest (record { start = view.at; end = end; extensions = syntax })
    (with_items view.levels (content_items view.text syntax view.at end)) view view.at
at_start syntax view end over = record {
  steps = suc (end - view.at);
  enough = omega arith;
  rest = refl;
  over = over;
}

-- ---- what is found at a special byte

-- the run appended last is not continued there
not_continued : (line : LineRange) (view : BuilderView) (at : ℕ) → view.at ≤ at → at < line.end
    → RunIsOver line.end view at
    → follows_run (run_after_text view at) (slice_index view.text at) ≡ false
not_continued line view at placed less over = by_place (nat_lt view.at at) refl
  where
    told : (r : Option ℕ) → ((byte : ℕ) → r ≡ Some byte → slice_index view.text at ≢ byte)
        → follows_run r (slice_index view.text at) ≡ false
    told None h = refl
    told (Some byte) h = let other = h byte refl in grind (arith, nat_tests, other)

    by_place : (b : Bool) → nat_lt view.at at ≡ b
        → follows_run (run_after_text view at) (slice_index view.text at) ≡ false
    by_place true is = rw is refl
    by_place false is =
        let same : view.at ≡ at = grind (arith, nat_tests, is, placed) in
        rw is (told view.run (λ byte some. over byte some same less))

-- a builder after what is found at a byte offset
record IsAfter (line : LineRange) (view new : BuilderView) (at : ℕ) (f : Found) : Type 0 where
  text : new.text ≡ view.text
  levels : new.levels ≡ levels_after view line at f
  begins : new.at ≡ text_from view.at at (found_view f)
  next : next_after at f ≡ read_on at (found_view f)
  over : RunIsOver line.end new (next_after at f)

after_found : (line : LineRange) (all : List (Forest Shown)) (view new : BuilderView) (at : ℕ) (f : Found)
    → at < line.end
    → is_special line.extensions.dashes (slice_index view.text at) ≡ true
    → FoundFits view.text line.end at f → found_view f ≡ found_at line view.text at
    → AwaitsRest line all view at → IsAfter line view new at f → AwaitsRest line all new (next_after at f)
after_found line all view new at f less special fits value awaits after =
    let further = goes_on view.text line.end at f less fits in
    let past = further.past in
    let within = further.within in
    let enough = awaits.enough in
    let m = is_more awaits.steps (line.end - at) enough in
    let is = m.is in
    let v = found_view f in
    let read : items_read_from awaits.steps view.text line view.at at
    ≡ found_items view.text line view.at at v
    ++ items_read_from m.before view.text line (text_from view.at at v) (read_on at v) =
    ap (λ n. items_read_from n view.text line view.at at) is
    ∙ (special_byte m.before view.text line view.at at less special
    ∙ ap (λ g. found_items view.text line view.at at g
    ++ items_read_from m.before view.text line (text_from view.at at g) (read_on at g)) (sym value)) in
    let left : items_read_from m.before new.text line new.at (next_after at f)
    ≡ items_read_from m.before view.text line (text_from view.at at v) (read_on at v) =
    rw (after.text, after.begins, after.next) refl in
    record {
      steps = m.before;
      enough = omega (arith, enough, is, past, within);
      rest = ap (λ ls. with_items ls (items_read_from m.before new.text line new.at (next_after at f))) after.levels
          ∙ (ap (with_items (levels_after view line at f)) left
          ∙ (more_items view.levels (found_items view.text line view.at at v)
          (items_read_from m.before view.text line (text_from view.at at v) (read_on at v))
          ∙ (ap (with_items view.levels) (sym read) ∙ awaits.rest)));
      over = after.over;
    }

-- no run is appended last
pub no_run : (end : ℕ) (view : BuilderView) (at : ℕ) → view.run ≡ None → RunIsOver end view at
no_run end view at none byte some here less = cc (none, some)

pub at_found : (line : LineRange) (all : List (Forest Shown)) (view : BuilderView) (at : ℕ) (f : Found)
    → view.at ≤ at → at < line.end
    → is_special line.extensions.dashes (slice_index view.text at) ≡ true
    → FoundFits view.text line.end at f → found_view f ≡ found_at line view.text at
    → AwaitsRest line all view at → AwaitsRest line all (view_after view line at f) (next_after at f)
at_found line all view at f placed less special fits value awaits =
    after_found line all view (view_after view line at f) at f less special fits value awaits (is_after f fits)
  where
    is_after : (f : Found) → FoundFits view.text line.end at f → IsAfter line view (view_after view line at f) at f
    is_after (found.Text next) fits =
        let past = fits.past in record {
          text = refl;
          levels = sym (no_items view.levels);
          begins = refl;
          next = refl;
          over = λ byte some here. absurd (omega (arith, placed, here, past));
        }
    is_after found.Escape fits = record {
      text = refl;
      levels = refl;
      begins = refl;
      next = refl;
      over = λ byte some here. absurd (omega (arith, here));
    }
    is_after (found.Mark mark) fits =
        record { text = refl; levels = refl; begins = refl; next = refl; over = λ byte some. cc (some) }
    is_after found.Image fits =
        record { text = refl; levels = refl; begins = refl; next = refl; over = λ byte some. cc (some) }
    is_after (found.Backticks stop) fits =
        record { text = refl; levels = refl; begins = refl; next = refl; over = λ byte some. cc (some) }
    is_after (found.EscapedBackticks stop) fits =
        record { text = refl; levels = refl; begins = refl; next = refl; over = λ byte some. cc (some) }
    is_after (found.Run stop flags) fits =
        rw (not_continued line view at placed less awaits.over) (record {
          text = refl;
          levels = refl;
          begins = refl;
          next = refl;
          over = λ byte some here more e. fits.3 more (e ∙ sym (same_Some (slice_index view.text at) byte some));
        })
    is_after (found.Entity stop characters) fits =
        record { text = refl; levels = refl; begins = refl; next = refl; over = λ byte some. cc (some) }
    is_after (found.Dashes stop) fits =
        record { text = refl; levels = refl; begins = refl; next = refl; over = λ byte some. cc (some) }
    is_after found.Ellipsis fits =
        record { text = refl; levels = refl; begins = refl; next = refl; over = λ byte some. cc (some) }

-- the text after what is found does not begin after where reading goes on
pub placed_after : (line : LineRange) (view : BuilderView) (at : ℕ) (f : Found) → view.at ≤ at → at < line.end
    → FoundFits view.text line.end at f → (view_after view line at f).at ≤ next_after at f
placed_after line view at f placed less fits = by_case f fits
  where
    either : (b : Bool) (one other : BuilderView) (stop : ℕ) → one.at ≤ stop → other.at ≤ stop
        → (if b then one else other).at ≤ stop
    either true one other stop h k = h
    either false one other stop h k = k

    by_case : (f : Found) → FoundFits view.text line.end at f → (view_after view line at f).at ≤ next_after at f
    by_case (found.Text next) fits = let past = fits.past in omega (arith, placed, past)
    by_case found.Escape fits = omega arith
    by_case (found.Mark mark) fits = omega arith
    by_case found.Image fits = omega arith
    by_case (found.Backticks stop) fits = omega arith
    by_case (found.EscapedBackticks stop) fits = omega arith
    by_case (found.Run stop flags) fits =
        let further = fits.0 in
        let past = further.past in
        either (follows_run (run_after_text view at) (slice_index view.text at)) view _ stop
        (omega (arith, placed, past)) (omega arith)
    by_case (found.Entity stop characters) fits = omega arith
    by_case (found.Dashes stop) fits = omega arith
    by_case found.Ellipsis fits = omega arith

-- and it does not begin before where text began
pub begun_after : (line : LineRange) (view : BuilderView) (at : ℕ) (f : Found) → view.at ≤ at → at < line.end
    → FoundFits view.text line.end at f → view.at ≤ (view_after view line at f).at
begun_after line view at f placed less fits = by_case f fits
  where
    either : (b : Bool) (one other : BuilderView) → view.at ≤ one.at → view.at ≤ other.at
        → view.at ≤ (if b then one else other).at
    either true one other h k = h
    either false one other h k = k

    by_case : (f : Found) → FoundFits view.text line.end at f → view.at ≤ (view_after view line at f).at
    by_case (found.Text next) fits = omega arith
    by_case found.Escape fits = omega (arith, placed)
    by_case (found.Mark mark) fits = omega (arith, placed)
    by_case found.Image fits = omega (arith, placed)
    by_case (found.Backticks stop) fits = let further = fits.0 in let past = further.past in omega (arith, placed, past)
    by_case (found.EscapedBackticks stop) fits =
        let further = fits.0 in let past = further.past in omega (arith, placed, past)
    by_case (found.Run stop flags) fits =
        let further = fits.0 in
        let past = further.past in
        either (follows_run (run_after_text view at) (slice_index view.text at)) view _ (omega arith)
        (omega (arith, placed, past))
    by_case (found.Entity stop characters) fits =
        let further = fits.0 in let past = further.past in omega (arith, placed, past)
    by_case (found.Dashes stop) fits = let further = fits.0 in let past = further.past in omega (arith, placed, past)
    by_case found.Ellipsis fits = omega (arith, placed)

-- the text is the same
pub text_after : (line : LineRange) (view : BuilderView) (at : ℕ) (f : Found)
    → (view_after view line at f).text ≡ view.text
text_after line view at (found.Run stop flags) =
    either (follows_run (run_after_text view at) (slice_index view.text at))
  where
    either : (b : Bool) → (if b then view else record view {
      at = stop;
      run = Some (slice_index view.text at);
      levels = levels_after view line at (found.Run stop flags);
    }).text
        ≡ view.text
    either true = refl
    either false = refl
text_after line view at other = refl

-- nothing else but the items, their texts and the place is other than before
abbrev pub IsSame : (old new : BuilderView) → Type 0
IsSame old new = new ≡ record old { at = new.at; run = new.run; levels = new.levels; texts = new.texts }

pub same_found : (old view : BuilderView) (line : LineRange) (at : ℕ) (f : Found) → IsSame old view
    → IsSame old (view_after view line at f)
same_found old view line at f same = there f ∙ ap (λ (v : BuilderView). record v {
  at = (view_after view line at f).at;
  run = (view_after view line at f).run;
  levels = (view_after view line at f).levels;
  texts = (view_after view line at f).texts;
}) same
  where
    either : (b : Bool) (stop : ℕ) (run : Option ℕ) (levels : List (Forest Shown))
        → IsSame view (if b then view else record view { at = stop; run = run; levels = levels })
    either true stop run levels = refl
    either false stop run levels = refl

    there : (f : Found) → IsSame view (view_after view line at f)
    there (found.Run stop flags) =
        either (follows_run (run_after_text view at) (slice_index view.text at)) stop
        (Some (slice_index view.text at)) (levels_after view line at (found.Run stop flags))
    there other = refl

-- ---- that items are appended, whatever run came before

pub adds_none : (view : BuilderView) → AddsItems view view
adds_none view = ([], sym (no_items view.levels))

pub adds_more : (old view new : BuilderView) → AddsItems old view → AddsItems view new → AddsItems old new
adds_more old view new before after = (
  before.0 ++ after.0,
  after.1 ∙ (ap (λ (ls : List (Forest Shown)). with_items ls after.0) before.1
      ∙ more_items old.levels before.0 after.0),
)

pub adds_found : (view : BuilderView) (line : LineRange) (at : ℕ) (f : Found)
    → AddsItems view (view_after view line at f)
adds_found view line at (found.Text next) = adds_none view
adds_found view line at found.Escape = (_, refl)
adds_found view line at (found.Mark body) = (_, refl)
adds_found view line at found.Image = (_, refl)
adds_found view line at (found.Backticks stop) = (_, refl)
adds_found view line at (found.EscapedBackticks stop) = (_, refl)
adds_found view line at (found.Run stop flags) =
    by_run (follows_run (run_after_text view at) (slice_index view.text at)) refl
  where
    by_run : (follows : Bool) → follows_run (run_after_text view at) (slice_index view.text at) ≡ follows
        → AddsItems view (view_after view line at (found.Run stop flags))
    by_run true is = rw is (adds_none view)
    by_run false is = rw is (_, refl)
adds_found view line at (found.Entity stop characters) = (_, refl)
adds_found view line at (found.Dashes stop) = (_, refl)
adds_found view line at found.Ellipsis = (_, refl)

-- ---- texts that items refer to

pub no_texts : (view : BuilderView) → AddsTexts view view
no_texts view = ([], sym (append-nil view.texts))

pub more_texts : (old view new : BuilderView) → AddsTexts old view → AddsTexts view new → AddsTexts old new
more_texts old view new before after = (
  before.0 ++ after.0,
  after.1 ∙ (ap (λ (texts : List (List ℕ)). texts ++ after.0) before.1 ∙ append_assoc old.texts before.0 after.0),
)

pub texts_found : (view : BuilderView) (line : LineRange) (at : ℕ) (f : Found)
    → AddsTexts view (view_after view line at f)
texts_found view line at (found.Entity stop characters) = (_, refl)
texts_found view line at (found.Dashes stop) = (_, refl)
texts_found view line at found.Ellipsis = (_, refl)
texts_found view line at (found.Run stop flags) =
    by_run (follows_run (run_after_text view at) (slice_index view.text at)) refl
  where
    by_run : (follows : Bool) → follows_run (run_after_text view at) (slice_index view.text at) ≡ follows
        → AddsTexts view (view_after view line at (found.Run stop flags))
    by_run true is = rw is (no_texts view)
    by_run false is = rw is ([], sym (append-nil view.texts))
texts_found view line at other = ([], sym (append-nil view.texts))

-- ---- the run that was appended last

-- text may follow it
pub run_before_text : (extensions : ItemSyntax) (view : BuilderView) (to byte : ℕ) → HasSpecialRun extensions view
    → run_after_text view to ≡ Some byte → is_special extensions.dashes byte ≡ true
run_before_text extensions view to byte special = by_place (nat_lt view.at to) refl
  where
    by_place : (test : Bool) → nat_lt view.at to ≡ test → run_after_text view to ≡ Some byte
        → is_special extensions.dashes byte ≡ true
    by_place true is some = let none : None ≡ Some byte = rw is at some in cc (none)
    by_place false is some = special byte (rw is at some)

-- what is found leaves one of a special byte, or none
pub run_found : (view : BuilderView) (line : LineRange) (at : ℕ) (f : Found)
    → is_special line.extensions.dashes (slice_index view.text at) ≡ true → HasSpecialRun line.extensions view
    → HasSpecialRun line.extensions (view_after view line at f)
run_found view line at (found.Text next) here special = special
run_found view line at found.Escape here special
    = λ byte some. run_before_text line.extensions view at byte special some
run_found view line at (found.Run stop flags) here special =
    by_run (follows_run (run_after_text view at) (slice_index view.text at)) refl
  where
    by_run : (follows : Bool) → follows_run (run_after_text view at) (slice_index view.text at) ≡ follows
        → HasSpecialRun line.extensions (view_after view line at (found.Run stop flags))
    by_run true is = rw is special
    by_run false is =
        rw is (λ byte some. ap (is_special line.extensions.dashes)
        (sym (same_Some (slice_index view.text at) byte some))
        ∙ here)
run_found view line at (found.Mark body) here special = λ byte some. cc (some)
run_found view line at found.Image here special = λ byte some. cc (some)
run_found view line at (found.Backticks stop) here special = λ byte some. cc (some)
run_found view line at (found.EscapedBackticks stop) here special = λ byte some. cc (some)
run_found view line at (found.Entity stop characters) here special = λ byte some. cc (some)
run_found view line at (found.Dashes stop) here special = λ byte some. cc (some)
run_found view line at found.Ellipsis here special = λ byte some. cc (some)
