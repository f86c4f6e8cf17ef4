-- What the links found so far become, at each kind of event.
use Rattle.std.proofs.Common.{◌≡◌, ◌≤◌, ◌<◌, ◌+◌, ◌-◌, ℕ, suc, true, false, List, [], ◌∷◌, ◌++◌, Option, Some, None}
use Rattle.std.proofs.Common.{refl, sym, ap, ◌∙◌, length, drop, map, append_assoc, append-nil, slice_range}
use Rattle.std.proofs.Common.{IsCharBoundary, IsUtf8, IfSome, set, get_or, arith}
use Rattle.std.proofs.lemmas.List.{length-append, length-drop, drop-append-le, nil_from_length, take_all}
use Rattle.std.proofs.lemmas.List.{take-append-le}
use Rattle.std.proofs.Math.Seq.{drop-length, get_or-append_seam, set-append_seam}
use Rattle.std.proofs.lemmas.List.Elements.{All-append, All-cons, All-head, All-nil, All-set, All-tail}
use Rattle.std.proofs.lemmas.Str.{IsCharBoundary-end, IsCharBoundary-from_drop, IsUtf8-append, IsUtf8-drop}
use Rattle.std.specs.String.{string_bytes}
use Rattle.markdown_links.specs.FoundLinks.{AreKept, BeginsAtEnd, HasLink, IsBegunBy, all_links, count_open, open_ones}
use Rattle.markdown_links.specs.FoundLinks.{text_and_more, whole_entries, whole_entry}
use Rattle.markdown_links.specs.LinkEntries.{ends_link, link_entries_of, link_entry, opened_link, up_to_own_end}
use Rattle.markdown_links.specs.CutOut.{AreCutOut, IsCutOut, found_begun, found_entry, part_of_text}
use Rattle.markdown_links.specs.declared.found.Found.{Found}
use Rattle.markdown_links.specs.declared.so_far.LinksSoFar.{LinksSoFar}
use Rattle.markdown_links.proofs.LinkEntriesLemmas.{end_begins_none, entries_at_other, inside_at_end, inside_at_other}
use Rattle.markdown_links.proofs.LinkEntriesLemmas.{inside_at_own_end, inside_at_start}
use Rattle.markdown_outline.specs.Outline.{Ranged, joined_text, text_added}
use Rattle.markdown_base.proofs.ListLemmas.{cons-tail, cons-head}

-- cases of an Option
by_option : {A : Type 0} {P : Type 0} (o : Option A) → (o ≡ None → P) → ((a : A) → o ≡ Some a → P) → P
by_option None n s = n refl
by_option (Some a) n s = s a refl

-- one more that is open
pub count_open-more : (found : List Found) (f : Found) → f.text_end ≡ None
    → count_open (found ++ f ∷ []) ≡ suc (count_open found)
count_open-more [] f n = rw n refl
count_open-more (g ∷ found) f n = by_option g.text_end
    (λ e. rw (e, count_open-more found f n) refl) (λ a e. rw (e, count_open-more found f n) refl)

pub open_ones-more : (from : ℕ) (found : List Found) (f : Found) → f.text_end ≡ None
    → open_ones from (found ++ f ∷ []) ≡ open_ones from found ++ (from + length found) ∷ []
open_ones-more from [] f n = rw n (ap (λ x. x ∷ []) (omega arith))
open_ones-more from (g ∷ found) f n =
    let more = open_ones-more (from + 1) found f n in
    let here : from + 1 + length found ≡ from + length (g ∷ found) = omega arith in
    by_option g.text_end (λ e. rw (e, more, here) refl) (λ a e. rw (e, more, here) refl)

-- as many are open as there are numbers of open ones
pub count_of_ones : (from : ℕ) (found : List Found) → length (open_ones from found) ≡ count_open found
count_of_ones from [] = refl
count_of_ones from (f ∷ found) = by_option f.text_end
    (λ e. rw (e, count_of_ones (from + 1) found) refl) (λ a e. rw (e, count_of_ones (from + 1) found) refl)

module _ (texts : List ℕ) (e : Ranged) (later : List Ranged) where
  -- one in which `within` others are open, before a Start
  whole_at_start : (within : ℕ) (f : Found) (b : _) → opened_link e.0 ≡ Some b
      → whole_entry texts within f (e ∷ later) ≡ whole_entry texts (suc within) f later
  whole_at_start within f b h = rw (inside_at_start e later within b h) refl

  -- the entries with a Start: those before, in which one more is open, and the new one
  pub whole-opened : (found : List Found) (f : Found) (b : _) → opened_link e.0 ≡ Some b → f.text_end ≡ None
      → whole_entries texts found (e ∷ later) ++ whole_entry texts 0 f later ∷ []
      ≡ whole_entries texts (found ++ f ∷ []) later
  whole-opened [] f b h n = refl
  whole-opened (g ∷ found) f b h n = rw (
    whole_at_start (count_open found) g b h,
    count_open-more found f n,
    whole-opened found f b h n,
  ) refl

  -- where none is open, nothing changes
  pub whole-none_open : (found : List Found) (events : List Ranged) → count_open found ≡ 0
      → whole_entries texts found events ≡ whole_entries texts found later
  whole-none_open [] events z = refl
  whole-none_open (f ∷ found) events z = by_option f.text_end
      (λ n. absurd (open_one n (rw n at z)))
      (λ a s. let rest : count_open found ≡ 0 = rw s at z in rw (s, whole-none_open found events rest) refl)
    where
      open_one : f.text_end ≡ None → suc (count_open found) ≡ 0 → ⊥
      open_one n h = omega (arith, h)

-- a cut stays one where more follows
can_cut-more : (texts more : List ℕ) (at : ℕ) → IsCharBoundary texts at → IsUtf8 texts → IsUtf8 more
    → IsCharBoundary (texts ++ more) at
can_cut-more texts more at c u v =
    let within : at ≤ length (texts ++ more) = omega (arith, c.0, length-append texts more) in
    IsCharBoundary-from_drop (texts ++ more) at within
    (rw (drop-append-le at texts more c.0) (IsUtf8-append (drop at texts) more (IsUtf8-drop texts at u c) v))

cut_end-more : (texts more : List ℕ) (start : ℕ) (end : Option ℕ)
    → IfSome end (λ e. (start ≤ e) × IsCharBoundary texts e)
    → IsUtf8 texts → IsUtf8 more → IfSome end (λ e. (start ≤ e) × IsCharBoundary (texts ++ more) e)
cut_end-more texts more start None c u v = tt
cut_end-more texts more start (Some e) c u v = (c.0, can_cut-more texts more e c.1 u v)

cut_out-more : (texts more : List ℕ) (f : Found) → IsCutOut texts f → IsUtf8 texts → IsUtf8 more
    → IsCutOut (texts ++ more) f
cut_out-more texts more f c u v = record {
  start = can_cut-more texts more f.text_start c.start u v;
  end = cut_end-more texts more f.text_start f.text_end c.end u v;
}

pub are_cut_out-more : (texts more : List ℕ) (found : List Found) → AreCutOut texts found → IsUtf8 texts
    → IsUtf8 more → AreCutOut (texts ++ more) found
are_cut_out-more texts more found c u v k d lt = cut_out-more texts more _ (c k d lt) u v

-- a part stays the same where more follows
part-more : (texts more : List ℕ) (start end : ℕ) → start ≤ end → IsCharBoundary texts start → IsCharBoundary texts end
    → slice_range (texts ++ more) start end ≡ slice_range texts start end
part-more texts more start end l s e = rw (drop-append-le start texts more s.0)
    (take-append-le (end - start) (drop start texts) more
    (omega (arith, l, s.0, e.0, length-drop start texts)))

module _ (texts : List ℕ) (e : Ranged) (later : List Ranged) (n : opened_link e.0 ≡ None)
    (h : ends_link e.0 ≡ false) where
  -- the text of one takes in that of an event
  text-more : (within : ℕ) (start : ℕ) (end : Option ℕ) → IsCharBoundary texts start
      → IfSome end (λ e. (start ≤ e) × IsCharBoundary texts e)
      → text_and_more texts start end (joined_text (up_to_own_end within (e ∷ later)))
      ≡ text_and_more (texts ++ text_added e.0) start end (joined_text (up_to_own_end within later))
  text-more within start None s i = rw (
    inside_at_other e later within n h,
    drop-append-le start texts (text_added e.0) s.0,
  ) (sym (append_assoc (drop start texts) (text_added e.0) (joined_text (up_to_own_end within later))))
  text-more within start (Some end) s i = sym (part-more texts (text_added e.0) start end i.0 s i.1)

  -- and so do those of all
  pub whole-text : (found : List Found) → AreCutOut texts found
      → whole_entries texts found (e ∷ later) ≡ whole_entries (texts ++ text_added e.0) found later
  whole-text [] c = refl
  whole-text (f ∷ found) c =
      let first : IsCutOut texts f = All-head (IsCutOut texts) f found c in
      rw (
        text-more (count_open found) f.text_start f.text_end first.start first.end,
        whole-text found (All-tail (IsCutOut texts) f found c),
      ) refl

-- the last of those that are open
pub record LastOpen (from : ℕ) (found : List Found) (rest : List ℕ) (at : ℕ) : Type 0 where
  pub before : List Found
  pub f : Found
  pub after : List Found
  pub is : found ≡ before ++ f ∷ after
  pub number : at ≡ from + length before
  pub unended : f.text_end ≡ None
  pub none : count_open after ≡ 0
  pub ones : open_ones from before ≡ rest

-- one is before it, which is open or not
last_open-past : (from : ℕ) (f : Found) (found : List Found) (rest ones : List ℕ) (at : ℕ)
    → open_ones from (f ∷ []) ++ rest ≡ ones → LastOpen (from + 1) found rest at → LastOpen from (f ∷ found) ones at
last_open-past from f found rest ones at o l = record {
  before = f ∷ l.before;
  f = l.f;
  after = l.after;
  is = ap (λ fs. f ∷ fs) l.is;
  number = omega (arith, l.number);
  unended = l.unended;
  none = l.none;
  ones = by_option f.text_end (λ e. rw (e, l.ones) (rw e at o)) (λ a e. rw (e, l.ones) (rw e at o));
}

-- it is the first
last_open-here : (from : ℕ) (f : Found) (found : List Found) (at : ℕ) → f.text_end ≡ None → from ≡ at
    → open_ones (from + 1) found ≡ [] → LastOpen from (f ∷ found) [] at
last_open-here from f found at e n none = record {
  before = [];
  f = f;
  after = found;
  is = refl;
  number = omega (arith, n);
  unended = e;
  none = sym (count_of_ones (from + 1) found) ∙ ap length none;
  ones = refl;
}

pub last_open : (from : ℕ) (found : List Found) (rest : List ℕ) (at : ℕ) → open_ones from found ≡ rest ++ at ∷ []
    → LastOpen from found rest at
last_open from [] [] at h = cc h
last_open from [] (r ∷ rest) at h = cc h
last_open from (f ∷ found) [] at h = by_option f.text_end
    (λ n. let both = rw n at h in last_open-here from f found at n (cons-head both) (cons-tail both))
    (λ a s. last_open-past from f found [] [] at (rw s refl) (last_open (from + 1) found [] at (rw s at h)))
last_open from (f ∷ found) (r ∷ rest) at h = by_option f.text_end
    (λ n. let both = rw n at h in
    last_open-past from f found rest (r ∷ rest) at (rw n (ap (λ x. x ∷ rest) (cons-head both)))
    (last_open (from + 1) found rest at (cons-tail both)))
    (λ a s. last_open-past from f found (r ∷ rest) (r ∷ rest) at (rw s refl)
    (last_open (from + 1) found (r ∷ rest) at (rw s at h)))

-- the text of one whose End has come
abbrev pub ended_at : (end : ℕ) → Found → Found
ended_at end f = record f { text_end = Some end }

-- with its End one fewer is open
count_open-ended : (end : ℕ) (before after : List Found) (f : Found) → f.text_end ≡ None
    → count_open (before ++ f ∷ after) ≡ suc (count_open (before ++ ended_at end f ∷ after))
count_open-ended end [] after f n = rw n refl
count_open-ended end (b ∷ before) after f n = by_option b.text_end
    (λ e. rw (e, count_open-ended end before after f n) refl)
    (λ a e. rw (e, count_open-ended end before after f n) refl)

pub open_ones-ended : (from end : ℕ) (before after : List Found) (f : Found) → count_open after ≡ 0
    → open_ones from (before ++ ended_at end f ∷ after) ≡ open_ones from before
open_ones-ended from end [] after f z =
    nil_from_length (open_ones (from + 1) after) (count_of_ones (from + 1) after ∙ z)
open_ones-ended from end (b ∷ before) after f z = by_option b.text_end
    (λ e. rw (e, open_ones-ended (from + 1) end before after f z) refl)
    (λ a e. rw (e, open_ones-ended (from + 1) end before after f z) refl)

module _ (texts : List ℕ) (e : Ranged) (later : List Ranged) (h : ends_link e.0 ≡ true) where
  -- the text of the one that ends
  text-ended : (start : ℕ) (end : Option ℕ) → end ≡ None
      → text_and_more texts start end (joined_text (up_to_own_end 0 (e ∷ later)))
      ≡ slice_range texts start (length texts)
  text-ended start None n = rw (inside_at_own_end e later h, append-nil (drop start texts))
      (sym (take_all (length texts - start) (drop start texts) (omega (arith, length-drop start texts))))
  text-ended start (Some x) n = cc n

  -- at the End of the last open one, with the others
  pub whole-ended : (before after : List Found) (f : Found) → f.text_end ≡ None → count_open after ≡ 0
      → whole_entries texts (before ++ f ∷ after) (e ∷ later)
      ≡ whole_entries texts (before ++ ended_at (length texts) f ∷ after) later
  whole-ended [] after f n z = rw (
    z,
    text-ended f.text_start f.text_end n,
    whole-none_open texts e later after (e ∷ later) z,
  ) refl
  whole-ended (b ∷ before) after f n z = rw (
    count_open-ended (length texts) before after f n,
    inside_at_end e later (count_open (before ++ ended_at (length texts) f ∷ after)) h,
    whole-ended before after f n z,
  ) refl

-- where no event follows, the entries are those that are kept
part-whole : (texts : List ℕ) (start : ℕ) (end : Option ℕ)
    → part_of_text texts start end ≡ text_and_more texts start end []
part-whole texts start None = sym (append-nil (drop start texts))
part-whole texts start (Some end) = refl

pub entries_kept : (texts : List ℕ) (found : List Found)
    → map (found_entry texts) found ≡ whole_entries texts found [] ++ []
entries_kept texts [] = refl
entries_kept texts (f ∷ found) = rw (part-whole texts f.text_start f.text_end, entries_kept texts found) refl

-- one was opened
pub opened_all : (s : LinksSoFar) (f : Found) (found : List Found) → found ≡ s.found.items ++ f ∷ [] → (e : Ranged)
    → IsBegunBy s e f → (later : List Ranged)
    → all_links s (e ∷ later) ≡ whole_entries (string_bytes s.texts) found later ++ link_entries_of later
opened_all s f found are e b later =
    let texts = string_bytes s.texts in
    let new : link_entry (found_begun f) (joined_text (up_to_own_end 0 later)) e.1 ≡ whole_entry texts 0 f later =
    rw (b.at_end.end, b.at_end.start, drop-length texts, b.range) refl in
    let one : link_entries_of (e ∷ later) ≡ whole_entry texts 0 f later ∷ link_entries_of later =
    rw (b.opens, new) refl in
    ap (λ es. whole_entries texts s.found.items (e ∷ later) ++ es) one
    ∙ sym (append_assoc (whole_entries texts s.found.items (e ∷ later)) (whole_entry texts 0 f later ∷ [])
    (link_entries_of later))
    ∙ ap (λ es. es ++ link_entries_of later)
    (whole-opened texts e later s.found.items f (found_begun f) b.opens b.at_end.end
    ∙ ap (λ fs. whole_entries texts fs later) (sym are))

pub opened_kept : (s t : LinksSoFar) (f : Found) → AreKept s → t.texts ≡ s.texts
    → t.found.items ≡ s.found.items ++ f ∷ [] → t.open.items ≡ s.open.items ++ length s.found.items ∷ []
    → BeginsAtEnd s f → AreKept t
opened_kept s t f k same found grown b = record {
  unended =
      let number : 0 + length s.found.items ≡ length s.found.items = omega arith in
      rw (grown, k.unended, found, open_ones-more 0 s.found.items f b.end, number) refl;
  cut =
      let own : IsCutOut (string_bytes s.texts) f = record {
        start = rw b.start (IsCharBoundary-end (string_bytes s.texts));
        end = rw b.end tt;
      } in
      rw (same, found) (All-append (IsCutOut (string_bytes s.texts)) s.found.items (f ∷ []) k.cut
      (All-cons (IsCutOut (string_bytes s.texts)) f [] own (All-nil (IsCutOut (string_bytes s.texts)))));
}

-- text was added
pub text_all : (s : LinksSoFar) (texts text : List ℕ) → AreKept s → texts ≡ string_bytes s.texts ++ text
    → (e : Ranged) → opened_link e.0 ≡ None → ends_link e.0 ≡ false → text ≡ text_added e.0 → (later : List Ranged)
    → all_links s (e ∷ later) ≡ whole_entries texts s.found.items later ++ link_entries_of later
text_all s texts text k are e n h is later = rw (
  entries_at_other e later n,
  whole-text (string_bytes s.texts) e later n h s.found.items k.cut,
  are,
  is,
) refl

pub text_kept : (s t : LinksSoFar) (text : List ℕ) → AreKept s → string_bytes t.texts ≡ string_bytes s.texts ++ text
    → t.found ≡ s.found → t.open ≡ s.open → IsUtf8 (string_bytes s.texts) → IsUtf8 text → AreKept t
text_kept s t text k texts found same u v = record {
  unended = rw (same, found) k.unended;
  cut = rw (texts, found) (are_cut_out-more (string_bytes s.texts) text s.found.items k.cut u v);
}

-- none is open, so that none has more text
pub nothing_open_all : (s : LinksSoFar) → AreKept s → s.open.items ≡ [] → (e : Ranged) → opened_link e.0 ≡ None
    → (later : List Ranged) → all_links s (e ∷ later) ≡ all_links s later
nothing_open_all s k none e n later =
    let zero : count_open s.found.items ≡ 0 =
    sym (count_of_ones 0 s.found.items) ∙ ap length (sym k.unended ∙ none) in
    rw (
      entries_at_other e later n,
      whole-none_open (string_bytes s.texts) e later s.found.items (e ∷ later) zero,
    ) refl

-- the innermost one is among those found
pub innermost_within : (s : LinksSoFar) (rest : List ℕ) (at : ℕ) → AreKept s → s.open.items ≡ rest ++ at ∷ []
    → at < length s.found.items
innermost_within s rest at k before =
    let l = last_open 0 s.found.items rest at (sym k.unended ∙ before) in
    rw l.is (omega (arith, l.number, length-append l.before (l.f ∷ l.after)))

-- one that has an end now, in its place
pub changed_at : (items : List Found) (at : ℕ) (f : Found) (m n : ℕ) → f ≡ get_or items at f → m ≡ n
    → set items at (ended_at m f) ≡ set items at (ended_at n (get_or items at f))
changed_at items at f m n is same = rw (← is, same) refl

-- the innermost one, in the list of all
record Innermost (s : LinksSoFar) (rest : List ℕ) (at : ℕ) (d : Found) : Type 0 where
  pub last : LastOpen 0 s.found.items rest at
  pub which : get_or s.found.items at d ≡ last.f
  pub now : (g : Found) → set s.found.items at g ≡ last.before ++ g ∷ last.after

innermost : (s : LinksSoFar) (rest : List ℕ) (at : ℕ) (d : Found) → AreKept s → s.open.items ≡ rest ++ at ∷ []
    → Innermost s rest at d
innermost s rest at d k before =
    let l = last_open 0 s.found.items rest at (sym k.unended ∙ before) in
    let place : at ≡ length l.before = omega (arith, l.number) in
    record {
      last = l;
      which = ap (λ fs. get_or fs at d) l.is ∙ ap (λ i. get_or (l.before ++ l.f ∷ l.after) i d) place
          ∙ get_or-append_seam l.before l.f l.after d;
      now = λ g. ap (λ fs. set fs at g) l.is ∙ ap (λ i. set (l.before ++ l.f ∷ l.after) i g) place
          ∙ set-append_seam l.before l.f l.after g;
    }

-- the innermost one has ended
pub ended_kept : (s t : LinksSoFar) (at : ℕ) (d : Found) → AreKept s → s.open.items ≡ t.open.items ++ at ∷ []
    → t.texts ≡ s.texts
    → t.found.items ≡ set s.found.items at (ended_at (length (string_bytes s.texts)) (get_or s.found.items at d))
    → AreKept t
ended_kept s t at d k before same found =
    let texts = string_bytes s.texts in
    let i = innermost s t.open.items at d k before in
    let l = i.last in
    let within : at < length s.found.items = innermost_within s t.open.items at k before in
    let old : IsCutOut texts (get_or s.found.items at d) = k.cut at d within in
    let own : IsCutOut texts (ended_at (length texts) (get_or s.found.items at d)) = record {
      start = old.start;
      end = (old.start.0, IsCharBoundary-end texts);
    } in
    let now : t.found.items ≡ l.before ++ ended_at (length texts) l.f ∷ l.after =
    found ∙ ap (λ f. set s.found.items at (ended_at (length texts) f)) i.which ∙ i.now (ended_at (length texts) l.f) in
    record {
      unended = rw (now, open_ones-ended 0 (length texts) l.before l.after l.f l.none) (sym l.ones);
      cut = rw (same, found)
          (All-set (IsCutOut texts) s.found.items at
          (ended_at (length texts) (get_or s.found.items at d)) own k.cut);
    }

pub ended_all : (s : LinksSoFar) (rest : List ℕ) (found : List Found) (at : ℕ) (d : Found) → AreKept s
    → s.open.items ≡ rest ++ at ∷ []
    → found ≡ set s.found.items at (ended_at (length (string_bytes s.texts)) (get_or s.found.items at d))
    → (e : Ranged) → ends_link e.0 ≡ true → (later : List Ranged)
    → all_links s (e ∷ later) ≡ whole_entries (string_bytes s.texts) found later ++ link_entries_of later
ended_all s rest found at d k before are e h later =
    let texts = string_bytes s.texts in
    let i = innermost s rest at d k before in
    let l = i.last in
    let now : found ≡ l.before ++ ended_at (length texts) l.f ∷ l.after =
    are ∙ ap (λ f. set s.found.items at (ended_at (length texts) f)) i.which ∙ i.now (ended_at (length texts) l.f) in
    let others : link_entries_of (e ∷ later) ≡ link_entries_of later =
    entries_at_other e later (end_begins_none e.0 h) in
    let all : whole_entries texts s.found.items (e ∷ later) ≡ whole_entries texts found later =
    ap (λ fs. whole_entries texts fs (e ∷ later)) l.is
    ∙ whole-ended texts e later h l.before l.after l.f l.unended l.none
    ∙ ap (λ fs. whole_entries texts fs later) (sym now) in
    ap (λ es. es ++ link_entries_of (e ∷ later)) all ∙ ap (λ es. whole_entries texts found later ++ es) others

-- where one is open there is one
pub open_has : (s : LinksSoFar) → AreKept s → 0 < length s.open.items → (later : List Ranged) → HasLink s later
open_has s k h later = some s.found.items (rw k.unended at h)
  where
    some : (found : List Found) → 0 < length (open_ones 0 found)
        → 0 < length (whole_entries (string_bytes s.texts) found later ++ link_entries_of later)
    some [] b = absurd (omega (arith, b))
    some (f ∷ found) b = omega arith

-- and where one begins
pub begun_has : (s : LinksSoFar) (e : Ranged) (b : _) → opened_link e.0 ≡ Some b → HasLink s (e ∷ [])
begun_has s e b h = rw (
  h,
  length-append (whole_entries (string_bytes s.texts) s.found.items (e ∷ []))
      (link_entry b [] e.1 ∷ []),
) (omega arith)

-- where none is open, an End changes nothing
pub nothing_ends : (s : LinksSoFar) → AreKept s → s.open.items ≡ [] → (e : Ranged) → ends_link e.0 ≡ true
    → (later : List Ranged) → all_links s (e ∷ later) ≡ all_links s later
nothing_ends s k none e h later = nothing_open_all s k none e (end_begins_none e.0 h) later
