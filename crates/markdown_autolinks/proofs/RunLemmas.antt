-- Runs of Texts: their bytes and ranges, and the first bytes of them.
use Rattle.std.proofs.Common.{◌≡◌, ◌≢◌, ◌<◌, ◌≤◌, ◌+◌, ◌-◌, ◌∙◌, ℕ, zero, suc, Bool, true, false, List, [], ◌∷◌, ◌++◌}
use Rattle.std.proofs.Common.{refl, sym, ap, subst, arith, length, map, drop, Option, Some, None, append_assoc}
use Rattle.std.proofs.Common.{append-nil, slice_get, IsUtf8, length-append, length-drop, Ok, drop-drop}
use Rattle.std.specs.Prelude.{nat_le}
use Rattle.std.specs.Str.{IsCharBoundary}
use Rattle.std.specs.declared.ops.Range.{Range}
use Rattle.std.proofs.lemmas.Str.{IsCharBoundary-end}
use Rattle.std.proofs.lemmas.List.{map-append, get_or-drop, get_or-append_right, get_or_append_left, drop-append-le}
use Rattle.markdown_base.specs.declared.tag.LinkType.{LinkType}
use Rattle.markdown_out.specs.Merge.{Item}
use Rattle.markdown_out.specs.OutLaws.{RangedEvent}
use Rattle.std.proofs.lemmas.Bool.Decides.{nat_tests}
use Rattle.std.proofs.Math.Seq.{drop-append-add}
use Rattle.markdown_autolinks.specs.AddressBytes.{byte_at}
use Rattle.markdown_autolinks.specs.Addresses.{address_destination, addresses_after, addresses_in, first_address}
use Rattle.markdown_autolinks.specs.declared.address.Address.{Address}
use Rattle.markdown_autolinks.proofs.CutLemmas.{boundary_cut}
use Rattle.markdown_autolinks.proofs.FoundLemmas.{LiesIn, first_lies}
use Rattle.markdown_autolinks.specs.LinkedRuns.{RunTextView, run_left, first_part, is_cut_at, last_part, run_span}
use Rattle.markdown_autolinks.specs.LinkedRuns.{run_range, address_link_type, link_over, merged_run, run_events}
use Rattle.markdown_autolinks.specs.LinkedRuns.{run_with, linked_events, searched_bytes, take_run, text_of_run}
use Rattle.markdown_autolinks.specs.RunRead.{FitRanges, FitsRange, run_text_view}
use Rattle.markdown_autolinks.specs.declared.runs.RunText.{RunText}

-- ---- the range of a run

range_ends : (t : RunText) (run : List RunText) (last : RunText) → slice_get (t ∷ run) (length run) ≡ Some last
    → run_range (run_text_view t) (map run_text_view run) ≡ record { start = t.range.start; end = last.range.end }
range_ends t [] last is = let same : t ≡ last = some_same is in rw (← same) refl
  where
    some_same : {x y : RunText} → Some x ≡ Some y → x ≡ y
    some_same {x} {y} e = cc
range_ends t (u ∷ us) last is = rw (range_ends u us last is) refl

-- the range goes from where the first begins to where the last ends
pub span_of_ends : (run : List RunText) (first last : RunText) → slice_get run 0 ≡ Some first
    → slice_get run (length run - 1) ≡ Some last
    → Some (record { start = first.range.start; end = last.range.end }) ≡ run_span (map run_text_view run)
span_of_ends [] first last is ends = cc is
span_of_ends (t ∷ run) first last is ends =
    let at : suc (length run) - 1 ≡ length run = omega arith in
    rw (range_ends t run last (rw at at ends)) (rw (some_same is) refl)
  where
    some_same : {x y : RunText} → Some x ≡ Some y → x ≡ y
    some_same {x} {y} e = cc

-- ---- places between characters

-- two orders that say the same are one test
same_le : (x y m n : ℕ) → (x ≤ y → m ≤ n) → (m ≤ n → x ≤ y) → nat_le x y ≡ nat_le m n
same_le x y m n on back = cases (nat_le x y) refl
  where
    cases : (t : Bool) → nat_le x y ≡ t → nat_le x y ≡ nat_le m n
    cases true e =
        let there : m ≤ n = on (grind (arith, nat_tests)) in
        let f : nat_le m n ≡ true = grind (arith, nat_tests) in e ∙ sym f
    cases false e = other (nat_le m n) refl
      where
        other : (t : Bool) → nat_le m n ≡ t → nat_le x y ≡ nat_le m n
        other false f = e ∙ sym f
        other true f =
            let here : x ≤ y = back (grind (arith, nat_tests)) in
            let g : nat_le x y ≡ true = grind (arith, nat_tests) in
            let clash : true ≡ false = sym g ∙ e in cc

-- a place after a text is one of what follows it
pub cut_after : (xs ys : List ℕ) (n : ℕ) → length xs ≤ n → is_cut_at (xs ++ ys) n ≡ is_cut_at ys (n - length xs)
cut_after xs ys n after =
    let byte : byte_at (xs ++ ys) n ≡ byte_at ys (n - length xs) =
    get_or-append_right xs ys (length xs) n 0 refl after in
    let within : nat_le n (length (xs ++ ys)) ≡ nat_le (n - length xs) (length ys) =
    same_le n (length (xs ++ ys)) (n - length xs) (length ys)
    (λ h. omega (arith, h, after, length-append xs ys)) (λ h. omega (arith, h, after, length-append xs ys)) in
    rw (byte, within) refl

-- a place in a text is one of it, whatever follows
pub cut_before : (xs ys : List ℕ) (n : ℕ) → n < length xs → is_cut_at (xs ++ ys) n ≡ is_cut_at xs n
cut_before xs ys n before =
    let byte : byte_at (xs ++ ys) n ≡ byte_at xs n = get_or_append_left xs ys 0 n before in
    let within : nat_le n (length (xs ++ ys)) ≡ nat_le n (length xs) =
    same_le n (length (xs ++ ys)) n (length xs)
    (λ h. omega (arith, before)) (λ h. omega (arith, h, length-append xs ys)) in
    rw (byte, within) refl

-- a place of what is left of a text
pub cut_drop : (text : List ℕ) (k n : ℕ) → k ≤ length text → is_cut_at (drop k text) n ≡ is_cut_at text (k + n)
cut_drop text k n inside =
    let byte : byte_at (drop k text) n ≡ byte_at text (k + n) = get_or-drop k text n 0 in
    let within : nat_le n (length (drop k text)) ≡ nat_le (k + n) (length text) =
    same_le n (length (drop k text)) (k + n) (length text)
    (λ h. omega (arith, h, inside, length-drop k text)) (λ h. omega (arith, h, inside, length-drop k text)) in
    rw (byte, within) refl

-- ---- the first bytes of a run

take_nothing : (n : ℕ) → take_run n [] ≡ []
take_nothing zero = refl
take_nothing (suc n) = refl

drop_nothing : (n : ℕ) → run_left n [] ≡ []
drop_nothing zero = refl
drop_nothing (suc n) = refl

take_whole : (n : ℕ) (t : RunTextView) (run : List RunTextView) → 0 < n → length t.searched ≤ n
    → take_run n (t ∷ run) ≡ t ∷ take_run (n - length t.searched) run
take_whole zero t run some fits = absurd (omega (arith, some))
take_whole (suc n) t run some fits =
    let e : nat_le (length t.searched) (suc n) ≡ true = grind (arith, nat_tests) in rw e refl

drop_whole : (n : ℕ) (t : RunTextView) (run : List RunTextView) → 0 < n → length t.searched ≤ n
    → run_left n (t ∷ run) ≡ run_left (n - length t.searched) run
drop_whole zero t run some fits = absurd (omega (arith, some))
drop_whole (suc n) t run some fits =
    let e : nat_le (length t.searched) (suc n) ≡ true = grind (arith, nat_tests) in rw e refl

take_cut : (n : ℕ) (t : RunTextView) (run : List RunTextView) → 0 < n → n < length t.searched
    → take_run n (t ∷ run) ≡ first_part n t ∷ []
take_cut zero t run some fits = absurd (omega (arith, some))
take_cut (suc n) t run some fits =
    let e : nat_le (length t.searched) (suc n) ≡ false = grind (arith, nat_tests) in rw e refl

drop_cut : (n : ℕ) (t : RunTextView) (run : List RunTextView) → 0 < n → n < length t.searched
    → run_left n (t ∷ run) ≡ last_part n t ∷ run
drop_cut zero t run some fits = absurd (omega (arith, some))
drop_cut (suc n) t run some fits =
    let e : nat_le (length t.searched) (suc n) ≡ false = grind (arith, nat_tests) in rw e refl

-- so much of a run has been taken, and so much is left to be taken of what is left
pub record IsTaking (count : ℕ) (run part rest : List RunTextView) (left : ℕ) : Type 0 where
  pub fit : FitRanges rest
  pub cut : is_cut_at (searched_bytes rest) left ≡ true
  pub takes : take_run count run ≡ part ++ take_run left rest
  pub leaves : run_left count run ≡ run_left left rest

pub same_left : {count : ℕ} {run part rest now : List RunTextView} {left : ℕ} → IsTaking count run part rest left
    → rest ≡ now → IsTaking count run part now left
same_left {count} {run} {part} {rest} {now} {left} k same =
    subst (λ (xs : List RunTextView). IsTaking count run part xs left) same k

-- a whole Text is taken
pub takes_whole : {count : ℕ} {run part rest : List RunTextView} {left : ℕ} {t : RunTextView}
    → IsTaking count run part (t ∷ rest) left → 0 < left → length t.searched ≤ left
    → IsTaking count run (part ++ t ∷ []) rest (left - length t.searched)
takes_whole {count} {run} {part} {rest} {left} {t} k some fits = record {
  fit = k.fit.1;
  cut = sym (cut_after t.searched (searched_bytes rest) left fits) ∙ k.cut;
  takes = k.takes ∙ ap (λ (xs : List RunTextView). part ++ xs) (take_whole left t rest some fits)
      ∙ sym (append_assoc part (t ∷ []) (take_run (left - length t.searched) rest));
  leaves = k.leaves ∙ drop_whole left t rest some fits;
}

-- what is left ends all
pub takes_all : {count : ℕ} {run part : List RunTextView} {left : ℕ} → IsTaking count run part [] left
    → (part ≡ take_run count run) × ([] ≡ run_left count run)
takes_all {count} {run} {part} {left} k = (
  sym (k.takes ∙ ap (λ (xs : List RunTextView). part ++ xs) (take_nothing left) ∙ append-nil part),
  sym (k.leaves ∙ drop_nothing left),
)

-- a Text is cut
pub takes_cut : {count : ℕ} {run part rest : List RunTextView} {left : ℕ} {t : RunTextView}
    → IsTaking count run part (t ∷ rest) left → 0 < left → left < length t.searched
    → (part ++ first_part left t ∷ [] ≡ take_run count run) × (last_part left t ∷ rest ≡ run_left count run)
    × (is_cut_at t.searched left ≡ true)
takes_cut {count} {run} {part} {rest} {left} {t} k some cuts = (
  sym (k.takes ∙ ap (λ (xs : List RunTextView). part ++ xs) (take_cut left t rest some cuts)),
  sym (k.leaves ∙ drop_cut left t rest some cuts),
  sym (cut_before t.searched (searched_bytes rest) left cuts) ∙ k.cut,
)

-- the last part of a Text fits its range
pub last_fits : (n : ℕ) (t : RunTextView) → n ≤ length t.searched → FitsRange t → FitsRange (last_part n t)
last_fits n t cuts fits exact =
    let size = length-drop n t.searched in
    rw exact (omega (arith, fits exact, size, cuts))

-- what is left is searched after what is taken
pub searched_drop : (n : ℕ) (run : List RunTextView) → n ≤ length (searched_bytes run)
    → searched_bytes (run_left n run) ≡ drop n (searched_bytes run)
searched_drop zero run inside = refl
searched_drop (suc n) [] inside = absurd (omega (arith, inside))
searched_drop (suc n) (t ∷ run) inside =
    cases (nat_le (length t.searched) (suc n)) refl
    (λ less. searched_drop (suc n - length t.searched) run less)
  where
    more : List ℕ
    more = searched_bytes run

    sizes : length (t.searched ++ more) ≡ length t.searched + length more
    sizes = length-append t.searched more

    cases : (b : Bool) → nat_le (length t.searched) (suc n) ≡ b
        → (suc n - length t.searched ≤ length more
        → searched_bytes (run_left (suc n - length t.searched) run) ≡ drop (suc n - length t.searched) more)
        → searched_bytes (run_left (suc n) (t ∷ run)) ≡ drop (suc n) (t.searched ++ more)
    cases true e later =
        let fits : length t.searched ≤ suc n = grind (arith, nat_tests) in
        let at : length t.searched + (suc n - length t.searched) ≡ suc n = omega (arith, fits) in
        let there : drop (length t.searched + (suc n - length t.searched)) (t.searched ++ more)
        ≡ drop (suc n - length t.searched) more = drop-append-add t.searched more (suc n - length t.searched) in
        rw e (later (omega (arith, inside, sizes)) ∙ sym (rw at at there))
    cases false e later =
        let cuts : suc n ≤ length t.searched = grind (arith, nat_tests) in
        rw e (sym (drop-append-le (suc n) t.searched more cuts))

-- a place of a text after what is used of it is one of what is left
pub cut_left : (text left : List ℕ) (used at : ℕ) → used ≤ length text → left ≡ drop used text → used ≤ at
    → IsCharBoundary text at → is_cut_at left (at - used) ≡ true
cut_left text left used at inside is after b =
    let there : used + (at - used) ≡ at = omega (arith, after) in
    ap (λ (bytes : List ℕ). is_cut_at bytes (at - used)) is
    ∙ cut_drop text used (at - used) inside ∙ ap (is_cut_at text) there ∙ boundary_cut text at b

-- a run that is left of a text, up to a place of it
pub drops_left : (text : List ℕ) (rest : List RunTextView) (used at : ℕ) → searched_bytes rest ≡ drop used text
    → used ≤ at → at ≤ length text → searched_bytes (run_left (at - used) rest) ≡ drop at text
drops_left text rest used at is after inside =
    let size : length (searched_bytes rest) ≡ length text - used = ap length is ∙ length-drop used text in
    let there : used + (at - used) ≡ at = omega (arith, after) in
    searched_drop (at - used) rest (omega (arith, size, inside))
    ∙ ap (drop (at - used)) is ∙ drop-drop (at - used) used text
    ∙ ap (λ (n : ℕ). drop n text) there

-- ---- the addresses that are left

-- where an address is found, the rest begins with it
found_first : (text : List ℕ) (used n : ℕ) (a : Address) → first_address text used ≡ Some a
    → addresses_after text used (suc n) ≡ a ∷ addresses_after text a.end n
found_first text used n a found = rw found refl

found_none : (text : List ℕ) (used n : ℕ) → first_address text used ≡ None → addresses_after text used n ≡ []
found_none text used zero none = refl
found_none text used (suc n) none = rw none refl

-- more turns than there are bytes change nothing
enough : (text : List ℕ) (n m used : ℕ) → used ≤ length text → length text - used ≤ n
    → length text - used ≤ m → addresses_after text used n ≡ addresses_after text used m
enough text zero zero used inside low high = refl
enough text zero (suc m) used inside low high = by (first_address text used) refl
  where
    by : (o : Option Address) → first_address text used ≡ o → [] ≡ addresses_after text used (suc m)
    by None e = sym (found_none text used (suc m) e)
    by (Some a) e = let l = first_lies text used a inside e in
        absurd (omega (arith, low, l.after, l.name_after, l.some, l.inside))
enough text (suc n) zero used inside low high = by (first_address text used) refl
  where
    by : (o : Option Address) → first_address text used ≡ o → addresses_after text used (suc n) ≡ []
    by None e = found_none text used (suc n) e
    by (Some a) e = let l = first_lies text used a inside e in
        absurd (omega (arith, high, l.after, l.name_after, l.some, l.inside))
enough text (suc n) (suc m) used inside low high =
    by (first_address text used) refl (λ end within less more. enough text n m end within less more)
  where
    by : (o : Option Address) → first_address text used ≡ o
        → ((end : ℕ) → end ≤ length text → length text - end ≤ n → length text - end ≤ m
        → addresses_after text end n ≡ addresses_after text end m)
        → addresses_after text used (suc n) ≡ addresses_after text used (suc m)
    by None e later = found_none text used (suc n) e ∙ sym (found_none text used (suc m) e)
    by (Some a) e later =
        let l = first_lies text used a inside e in
        let same = later a.end l.inside (omega (arith, low, l.after, l.name_after, l.some, l.inside))
        (omega (arith, high, l.after, l.name_after, l.some, l.inside)) in
        found_first text used n a e ∙ ap (λ (more : List Address). a ∷ more) same
        ∙ sym (found_first text used m a e)

-- the addresses that are left of a text
abbrev pub addresses_left : List ℕ → ℕ → List Address
addresses_left text used = addresses_after text used (length text - used)

-- an address that is found is the first that is left
pub left_begins : (text : List ℕ) (used : ℕ) (a : Address) → used ≤ length text
    → first_address text used ≡ Some a → addresses_left text used ≡ a ∷ addresses_left text a.end
left_begins text used a inside found =
    let l = first_lies text used a inside found in
    let more : length text - used ≡ suc (length text - used - 1) =
    omega (arith, l.after, l.name_after, l.some, l.inside) in
    ap (λ (n : ℕ). addresses_after text used n) more
    ∙ found_first text used (length text - used - 1) a found
    ∙ ap (λ (more : List Address). a ∷ more)
    (enough text (length text - used - 1) (length text - a.end) a.end l.inside
    (omega (arith, l.after, l.name_after, l.some, l.inside)) (omega arith))

pub left_ends : (text : List ℕ) (used : ℕ) → first_address text used ≡ None → addresses_left text used ≡ []
left_ends text used none = found_none text used (length text - used) none

pub all_left : (text : List ℕ) → addresses_in text ≡ addresses_left text 0
all_left text = let same : length text - 0 ≡ length text = omega arith in rw same refl

-- ---- the links of a run

abbrev as_items : List RangedEvent → List (Item (Range ℕ))
as_items events = map (λ e. Ok e) events

-- so many bytes of the searched text are used, and what was to be made is what is made and what is left of the run
pub record IsLinking (text : List ℕ) (run : List RunTextView) (before : List (Item (Range ℕ)))
    (rest : List RunTextView) (used : ℕ) (made : List (Item (Range ℕ))) : Type 0 where
  pub fit : FitRanges rest
  pub inside : used ≤ length text
  pub left : searched_bytes rest ≡ drop used text
  pub makes : before ++ as_items (linked_events text 0 run (addresses_left text 0))
      ≡ made ++ as_items (linked_events text used rest (addresses_left text used))

module _ {text : List ℕ} {run rest : List RunTextView} {before made : List (Item (Range ℕ))} {used : ℕ}
    (k : IsLinking text run before rest used made) where
  module _ {a : Address} (l : LiesIn text used a) where
    pub between_cut : is_cut_at (searched_bytes rest) (a.start - used) ≡ true
    between_cut = cut_left text (searched_bytes rest) used a.start k.inside k.left l.after l.start

    drops_start : searched_bytes (run_left (a.start - used) rest) ≡ drop a.start text
    drops_start = drops_left text rest used a.start k.left l.after (omega (arith, l.name_after, l.some, l.inside))

    pub linked_cut : IsUtf8 text → is_cut_at (searched_bytes (run_left (a.start - used) rest)) (a.end - a.start) ≡ true
    linked_cut utf8 =
        cut_left text (searched_bytes (run_left (a.start - used) rest)) a.start a.end
        (omega (arith, l.name_after, l.some, l.inside)) drops_start (omega (arith, l.name_after, l.some)) (l.end utf8)

    drops_linked : searched_bytes (run_left (a.end - a.start) (run_left (a.start - used) rest)) ≡ drop a.end text
    drops_linked =
        drops_left text (run_left (a.start - used) rest) a.start a.end drops_start
        (omega (arith, l.name_after, l.some)) l.inside

    -- the link of the first address is made
    pub links_on : first_address text used ≡ Some a
        → FitRanges (run_left (a.end - a.start) (run_left (a.start - used) rest))
        → IsLinking text run before (run_left (a.end - a.start) (run_left (a.start - used) rest)) a.end
        ((made ++ as_items (text_of_run (take_run (a.start - used) rest)))
        ++ as_items (link_over (address_link_type a.form) (address_destination text a)
        (take_run (a.end - a.start) (run_left (a.start - used) rest))))
    links_on found fit = record {
      fit = fit;
      inside = l.inside;
      left = drops_linked;
      makes = k.makes
          ∙ ap (λ (more : List Address). made ++ as_items (linked_events text used rest more))
          (left_begins text used a k.inside found)
          ∙ ap (λ (xs : List (Item (Range ℕ))). made ++ xs)
          (map-append (λ e. Ok e) (between ++ link) later
          ∙ ap (λ (xs : List (Item (Range ℕ))). xs ++ as_items later) (map-append (λ e. Ok e) between link))
          ∙ sym (append_assoc made (as_items between ++ as_items link) (as_items later))
          ∙ ap (λ (xs : List (Item (Range ℕ))). xs ++ as_items later)
          (sym (append_assoc made (as_items between) (as_items link)));
    }
      where
        between : List RangedEvent
        between = text_of_run (take_run (a.start - used) rest)

        link : List RangedEvent
        link = link_over (address_link_type a.form) (address_destination text a)
            (take_run (a.end - a.start) (run_left (a.start - used) rest))

        later : List RangedEvent
        later = linked_events text a.end (run_left (a.end - a.start) (run_left (a.start - used) rest))
            (addresses_left text a.end)

    -- the same of what the calls return
    pub links_next : first_address text used ≡ Some a
        → {between linked rest1 rest2 : List RunTextView} {made1 made2 : List (Item (Range ℕ))} {kind : LinkType}
        {destination : List ℕ} → between ≡ take_run (a.start - used) rest → rest1 ≡ run_left (a.start - used) rest
        → linked ≡ take_run (a.end - a.start) rest1 → rest2 ≡ run_left (a.end - a.start) rest1 → FitRanges rest2
        → made1 ≡ made ++ as_items (text_of_run between) → kind ≡ address_link_type a.form
        → destination ≡ address_destination text a → made2 ≡ made1 ++ as_items (link_over kind destination linked)
        → IsLinking text run before rest2 a.end made2
    links_next found {between} {linked} {rest1} {rest2} {made1} {made2} {kind} {destination} is_between is_rest1
        is_linked is_rest2 fit is_made1 is_kind is_destination is_made2 =
        let fits = rw (is_rest2, is_rest1) at fit in
        rw (is_made2, is_kind, is_destination, is_linked, is_made1, is_between, is_rest2, is_rest1)
        (links_on found fits)

  -- what is left is made
  pub last_cut : is_cut_at (searched_bytes rest) (length text - used) ≡ true
  last_cut = cut_left text (searched_bytes rest) used (length text) k.inside k.left k.inside (IsCharBoundary-end text)

  pub links_end : first_address text used ≡ None
      → made ++ as_items (text_of_run (take_run (length text - used) rest))
      ≡ before ++ as_items (linked_events text 0 run (addresses_left text 0))
  links_end none =
      ap (λ (more : List Address). made ++ as_items (linked_events text used rest more))
      (sym (left_ends text used none))
      ∙ sym k.makes

-- nothing is used of a run
pub links_nothing : (text : List ℕ) (run : List RunTextView) (before : List (Item (Range ℕ))) → FitRanges run
    → text ≡ searched_bytes run → IsLinking text run before run 0 before
links_nothing text run before fit is = record {
  fit = fit;
  inside = omega arith;
  left = sym is;
  makes = refl;
}

-- the links of a run are its events
pub events_linked : (text : List ℕ) (run : List RunTextView) (a : Address) → text ≡ searched_bytes run
    → first_address text 0 ≡ Some a → linked_events text 0 run (addresses_left text 0) ≡ run_events run
events_linked text run a is found =
    let first : addresses_left text 0 ≡ a ∷ addresses_left text a.end = left_begins text 0 a (omega arith) found in
    ap (linked_events text 0 run) first
    ∙ ap (λ (bytes : List ℕ). linked_events bytes 0 run (a ∷ addresses_left text a.end)) is
    ∙ sym (ap (run_with run) (ap addresses_in (sym is) ∙ all_left text ∙ first))

-- ---- a run without addresses

pub events_merged : (run : List RunTextView) (text : List ℕ) → text ≡ searched_bytes run → first_address text 0 ≡ None
    → run_events run ≡ merged_run run
events_merged run text is none =
    ap (run_with run) (ap addresses_in (sym is) ∙ all_left text ∙ left_ends text 0 none)

pub merged_many : (run : List RunTextView) → length run ≢ 1 → merged_run run ≡ text_of_run run
merged_many [] many = refl
merged_many (t ∷ []) many = absurd (many refl)
merged_many (t ∷ u ∷ us) many = refl
