-- What the links that are added leave of events.
use Rattle.std.proofs.Common.{◌≡◌, ◌≤◌, ◌+◌, ◌-◌, ◌∙◌, ℕ, zero, suc, Bool, true, false, List, [], ◌∷◌, ◌++◌, refl, sym}
use Rattle.std.proofs.Common.{ap, subst, map, length, take, drop, append_assoc, append-nil, flat_map, Option, Some}
use Rattle.std.proofs.Common.{None, arith, length-drop}
use Rattle.std.specs.Prelude.{◌&&◌, nat_le, slice_range, if◌then◌else◌}
use Rattle.std.specs.List.{AllByRecursion}
use Rattle.std.specs.declared.ops.Range.{Range}
use Rattle.std.proofs.lemmas.Grind.{flat_map-append}
use Rattle.std.proofs.lemmas.List.{append_cancel_right, map-append, take-append-drop}
use Rattle.std.proofs.lemmas.List.Folds.{drop_split}
use Rattle.markdown_autolinks.specs.Addresses.{addresses_after, first_address, address_destination}
use Rattle.markdown_autolinks.proofs.FoundLemmas.{first_lies}
use Rattle.markdown_autolinks.proofs.RunLemmas.{addresses_left, drops_left, events_linked, events_merged, left_begins}
use Rattle.markdown_autolinks.proofs.RunLemmas.{left_ends, searched_drop}
use Rattle.markdown_base.specs.Event.{TagView, end, link, start, tag_end, text}
use Rattle.markdown_base.specs.declared.tag.TagEnd.{TagEnd}
use Rattle.markdown_base.specs.declared.tag.TagEnd.TheVariants as closes
use Rattle.markdown_out.specs.OutLaws.{RangedEvent}
use Rattle.markdown_autolinks.specs.LinkedEvents.{Texts, left_alone_after, texts_events, with_addresses_after}
use Rattle.markdown_autolinks.specs.LinkedLaws.{AddedOutside, IsAddressOf, IsShownAsSearched, LinkedPiece}
use Rattle.markdown_autolinks.specs.LinkedLaws.{LinksAreApart, NestingStays, Nests, NoLinkGetsIntoALink, NoLinkIn}
use Rattle.markdown_autolinks.specs.LinkedLaws.{NothingLeftAlone, OnlyLinksAreAdded, Sign, adds, others, piece_events}
use Rattle.markdown_autolinks.specs.LinkedLaws.{shows, signs, signs_of, stays, unless_text, untagged}
use Rattle.markdown_autolinks.specs.LinkedRuns.{RunTextView, address_link_type, run_left, is_as_in_source, is_of_source}
use Rattle.markdown_autolinks.specs.LinkedRuns.{is_left_alone, link_over, linked_events, merged_run, run_events}
use Rattle.markdown_autolinks.specs.LinkedRuns.{run_range, run_text, searched_bytes, shown_bytes, take_run, text_of_run}
use Rattle.markdown_autolinks.specs.LinkedRuns.{text_unless_empty}
use Rattle.markdown_autolinks.specs.declared.address.Address.{Address}

-- ---- the bytes of a run

-- what is searched of each Text of a run is what is shown of it
abbrev AllSame : List RunTextView → Type 0
AllSame run = AllByRecursion (λ (t : RunTextView). t.shown ≡ t.searched) run

same_shown : (run : List RunTextView) → AllSame run → shown_bytes run ≡ searched_bytes run
same_shown [] same = refl
same_shown (t ∷ run) same = rw (same.0, same_shown run same.1) refl

take_same : (n : ℕ) (run : List RunTextView) → AllSame run → AllSame (take_run n run)
take_same zero run same = tt
take_same (suc n) [] same = tt
take_same (suc n) (t ∷ run) same = cases (nat_le (length t.searched) (suc n)) refl
    (take_same (suc n - length t.searched) run same.1)
  where
    cases : (b : Bool) → nat_le (length t.searched) (suc n) ≡ b → AllSame (take_run (suc n - length t.searched) run)
        → AllSame (take_run (suc n) (t ∷ run))
    cases true e later = rw e (same.0, later)
    cases false e later = rw e (refl, tt)

drop_same : (n : ℕ) (run : List RunTextView) → AllSame run → AllSame (run_left n run)
drop_same zero run same = same
drop_same (suc n) [] same = tt
drop_same (suc n) (t ∷ run) same = cases (nat_le (length t.searched) (suc n)) refl
    (drop_same (suc n - length t.searched) run same.1)
  where
    cases : (b : Bool) → nat_le (length t.searched) (suc n) ≡ b → AllSame (run_left (suc n - length t.searched) run)
        → AllSame (run_left (suc n) (t ∷ run))
    cases true e later = rw e later
    cases false e later = rw e (refl, same.1)

-- what is taken and what is left are all bytes
bytes_split : (n : ℕ) (run : List RunTextView)
    → searched_bytes (take_run n run) ++ searched_bytes (run_left n run) ≡ searched_bytes run
bytes_split zero run = refl
bytes_split (suc n) [] = refl
bytes_split (suc n) (t ∷ run) = cases (nat_le (length t.searched) (suc n)) refl
    (bytes_split (suc n - length t.searched) run)
  where
    cases : (b : Bool) → nat_le (length t.searched) (suc n) ≡ b
        → searched_bytes (take_run (suc n - length t.searched) run)
        ++ searched_bytes (run_left (suc n - length t.searched) run) ≡ searched_bytes run
        → searched_bytes (take_run (suc n) (t ∷ run)) ++ searched_bytes (run_left (suc n) (t ∷ run))
        ≡ t.searched ++ searched_bytes run
    cases true e later = rw e
        (append_assoc t.searched (searched_bytes (take_run (suc n - length t.searched) run))
        (searched_bytes (run_left (suc n - length t.searched) run))
        ∙ ap (λ (bytes : List ℕ). t.searched ++ bytes) later)
    cases false e later = rw e
        (ap (λ (bytes : List ℕ). bytes ++ (drop (suc n) t.searched ++ searched_bytes run))
        (append-nil (take (suc n) t.searched))
        ∙ sym (append_assoc (take (suc n) t.searched) (drop (suc n) t.searched) (searched_bytes run))
        ∙ ap (λ (bytes : List ℕ). bytes ++ searched_bytes run) (take-append-drop (suc n) t.searched))

none_left : (bytes : List ℕ) → length bytes ≤ 0 → bytes ≡ []
none_left [] few = refl
none_left (b ∷ bytes) few = absurd (omega (arith, few))

-- ---- the pieces of a run

-- a Text, or the link of an address
abbrev IsOfRun : LinkedPiece → Type 0
IsOfRun (stays (text t, range)) = Unit {0}
IsOfRun (stays e) = ⊥
IsOfRun (adds searched a is range) = Unit {0}

abbrev AreOfRun : List LinkedPiece → Type 0
AreOfRun pieces = AllByRecursion IsOfRun pieces

run_append : (ps qs : List LinkedPiece) → AreOfRun ps → AreOfRun qs → AreOfRun (ps ++ qs)
run_append [] qs all more = more
run_append (p ∷ ps) qs all more = (all.0, run_append ps qs all.1 more)

shown_append : (ps qs : List LinkedPiece)
    → signs (map untagged (ps ++ qs)) ≡ signs (map untagged ps) ++ signs (map untagged qs)
shown_append ps qs =
    ap signs (map-append untagged ps qs)
    ∙ flat_map-append (λ (e : RangedEvent). signs_of e.0) (map untagged ps) (map untagged qs)

others_with : (ps qs : List LinkedPiece) → AreOfRun ps → others (map untagged (ps ++ qs)) ≡ others (map untagged qs)
others_with [] qs all = refl
others_with (adds searched a is range ∷ ps) qs all = others_with ps qs all.1
others_with (stays (text t, range) ∷ ps) qs all = others_with ps qs all.1
others_with (stays (v, range) ∷ ps) qs all = absurd all.0

outside_with : (a : List TagEnd) (ps qs : List LinkedPiece) → AreOfRun ps → NothingLeftAlone a → AddedOutside a qs
    → AddedOutside a (ps ++ qs)
outside_with a [] qs all none rest = rest
outside_with a (adds searched x is range ∷ ps) qs all none rest = (none, outside_with a ps qs all.1 none rest)
outside_with a (stays (text t, range) ∷ ps) qs all none rest = outside_with a ps qs all.1 none rest
outside_with a (stays (v, range) ∷ ps) qs all none rest = absurd all.0

-- events are pieces of a run, which show these bytes
record LeavesTexts (same : Type 0) (bytes : List ℕ) (events : List RangedEvent) : Type 0 where
  pub pieces : List LinkedPiece
  pub are : events ≡ flat_map piece_events pieces
  pub of_run : AreOfRun pieces
  pub shown : same → signs (map untagged pieces) ≡ map (λ b. shows b) bytes

leaves_append : {same one two : Type 0} {bs cs : List ℕ} {xs ys : List RangedEvent} → (same → one) → (same → two)
    → LeavesTexts one bs xs → LeavesTexts two cs ys → LeavesTexts same (bs ++ cs) (xs ++ ys)
leaves_append {same} {one} {two} {bs} {cs} {xs} {ys} first second v w = record {
  pieces = v.pieces ++ w.pieces;
  are = ap (λ (es : List RangedEvent). es ++ ys) v.are
      ∙ ap (λ (es : List RangedEvent). flat_map piece_events v.pieces ++ es) w.are
      ∙ sym (flat_map-append piece_events v.pieces w.pieces);
  of_run = run_append v.pieces w.pieces v.of_run w.of_run;
  shown = λ s. shown_append v.pieces w.pieces
      ∙ rw (v.shown (first s), w.shown (second s)) (sym (map-append (λ b. shows b) bs cs));
}

unless_leaves : {same : Type 0} {bytes : List ℕ} (shown : List ℕ) (range : Range ℕ) → (same → shown ≡ bytes)
    → LeavesTexts same bytes (text_unless_empty shown range)
unless_leaves {same} {bytes} [] range is = record {
  pieces = [];
  are = refl;
  of_run = tt;
  shown = λ s. ap (map (λ b. shows b)) (is s);
}
unless_leaves {same} {bytes} (b ∷ shown) range is = record {
  pieces = stays (text (b ∷ shown), range) ∷ [];
  are = refl;
  of_run = (tt, tt);
  shown = λ s. append-nil (map (λ b. shows b) (b ∷ shown)) ∙ ap (map (λ b. shows b)) (is s);
}

text_leaves : (run : List RunTextView) → LeavesTexts (AllSame run) (searched_bytes run) (text_of_run run)
text_leaves [] = record { pieces = []; are = refl; of_run = tt; shown = λ s. refl }
text_leaves (t ∷ run) = unless_leaves (shown_bytes (t ∷ run)) (run_range t run) (same_shown (t ∷ run))

link_leaves : (searched : List ℕ) (a : Address) → IsAddressOf searched a → (run : List RunTextView)
    → searched_bytes run ≡ slice_range searched a.start a.end
    → LeavesTexts (AllSame run) (searched_bytes run)
    (link_over (address_link_type a.form) (address_destination searched a) run)
link_leaves searched a is [] bytes = record { pieces = []; are = refl; of_run = tt; shown = λ s. refl }
link_leaves searched a is (t ∷ run) bytes = record {
  pieces = adds searched a is (run_range t run) ∷ [];
  are = rw bytes refl;
  of_run = (tt, tt);
  shown = λ s. append-nil (map (λ b. shows b) (slice_range searched a.start a.end))
      ∙ ap (map (λ b. shows b)) (sym bytes);
}

same_bytes : {same : Type 0} {bytes now : List ℕ} {events : List RangedEvent} → bytes ≡ now
    → LeavesTexts same bytes events → LeavesTexts same now events
same_bytes {same} {bytes} {now} {events} is v =
    subst (λ (bs : List ℕ). LeavesTexts same bs events) is v

same_events : {same : Type 0} {bytes : List ℕ} {events now : List RangedEvent} → events ≡ now
    → LeavesTexts same bytes events → LeavesTexts same bytes now
same_events {same} {bytes} {events} {now} is v = subst (λ (es : List RangedEvent). LeavesTexts same bytes es) is v

-- the last Text of a run with links
last_leaves : (searched : List ℕ) (used : ℕ) (run : List RunTextView) → searched_bytes run ≡ drop used searched
    → LeavesTexts (AllSame run) (searched_bytes run) (text_of_run (take_run (length searched - used) run))
last_leaves searched used run left =
    let n = length searched - used in
    let size : length (searched_bytes run) ≡ n = ap length left ∙ length-drop used searched in
    let few : length (searched_bytes (run_left n run)) ≡ length (searched_bytes run) - n =
    ap length (searched_drop n run (omega (arith, size))) ∙ length-drop n (searched_bytes run) in
    let none : searched_bytes (run_left n run) ≡ [] =
    none_left (searched_bytes (run_left n run)) (omega (arith, few, size)) in
    let all : searched_bytes (take_run n run) ≡ searched_bytes run =
    sym (append-nil (searched_bytes (take_run n run)))
    ∙ ap (λ (bytes : List ℕ). searched_bytes (take_run n run) ++ bytes) (sym none) ∙ bytes_split n run in
    let v = text_leaves (take_run n run) in
    same_bytes all (record {
      pieces = v.pieces;
      are = v.are;
      of_run = v.of_run;
      shown = λ s. v.shown (take_same n run s);
    })

linked_leaves : (n : ℕ) (searched : List ℕ) (used : ℕ) (run : List RunTextView) → used ≤ length searched
    → length searched - used ≤ n → searched_bytes run ≡ drop used searched
    → LeavesTexts (AllSame run) (searched_bytes run)
    (linked_events searched used run (addresses_left searched used))
linked_leaves zero searched used run inside turns left =
    let over : length searched - used ≡ 0 = omega (arith, turns) in
    let none : addresses_left searched used ≡ [] = ap (addresses_after searched used) over in
    same_events (ap (linked_events searched used run) (sym none)) (last_leaves searched used run left)
linked_leaves (suc n) searched used run inside turns left =
    by (first_address searched used) refl
    (λ end rest within less more. linked_leaves n searched end rest within less more)
  where
    by : (o : Option Address) → first_address searched used ≡ o
        → ((end : ℕ) (rest : List RunTextView) → end ≤ length searched → length searched - end ≤ n
        → searched_bytes rest ≡ drop end searched
        → LeavesTexts (AllSame rest) (searched_bytes rest)
        (linked_events searched end rest (addresses_left searched end)))
        → LeavesTexts (AllSame run) (searched_bytes run)
        (linked_events searched used run (addresses_left searched used))
    by None e later =
        same_events (ap (linked_events searched used run) (sym (left_ends searched used e)))
        (last_leaves searched used run left)
    by (Some a) e later =
        let l = first_lies searched used a inside e in
        let one = run_left (a.start - used) run in
        let two = run_left (a.end - a.start) one in
        let between = take_run (a.start - used) run in
        let link = take_run (a.end - a.start) one in
        let order : a.start ≤ a.end = omega (arith, l.name_after, l.some) in
        let at_start : searched_bytes one ≡ drop a.start searched =
        drops_left searched run used a.start left l.after (omega (arith, order, l.inside)) in
        let at_end : searched_bytes two ≡ drop a.end searched =
        drops_left searched one a.start a.end at_start order l.inside in
        let linked : searched_bytes link ≡ slice_range searched a.start a.end =
        append_cancel_right (searched_bytes link) (slice_range searched a.start a.end) (drop a.end searched)
        (ap (λ (bs : List ℕ). searched_bytes link ++ bs) (sym at_end) ∙ bytes_split (a.end - a.start) one
        ∙ at_start ∙ drop_split searched a.start a.end order) in
        let is : IsAddressOf searched a = record { used = used; inside = inside; found = e } in
        let v = later a.end two l.inside (omega (arith, turns, l.after, l.name_after, l.some, l.inside)) at_end in
        let bytes : (searched_bytes between ++ searched_bytes link) ++ searched_bytes two ≡ searched_bytes run =
        append_assoc (searched_bytes between) (searched_bytes link) (searched_bytes two)
        ∙ ap (λ (bs : List ℕ). searched_bytes between ++ bs) (bytes_split (a.end - a.start) one)
        ∙ bytes_split (a.start - used) run in
        same_events (ap (linked_events searched used run) (sym (left_begins searched used a inside e)))
        (same_bytes bytes
        (leaves_append (λ s. s) (λ s. drop_same (a.end - a.start) one (drop_same (a.start - used) run s))
        (leaves_append (take_same (a.start - used) run)
        (λ s. take_same (a.end - a.start) one (drop_same (a.start - used) run s))
        (text_leaves between) (link_leaves searched a is link linked)) v))

run_leaves : (run : List RunTextView) → LeavesTexts (AllSame run) (searched_bytes run) (run_events run)
run_leaves run = by (first_address (searched_bytes run) 0) refl
  where
    by : (o : Option Address) → first_address (searched_bytes run) 0 ≡ o
        → LeavesTexts (AllSame run) (searched_bytes run) (run_events run)
    by None e = same_events (sym (events_merged run (searched_bytes run) refl e)) (merged_leaves run)
      where
        merged_leaves : (r : List RunTextView) → LeavesTexts (AllSame r) (searched_bytes r) (merged_run r)
        merged_leaves [] = text_leaves []
        merged_leaves (t ∷ []) = record {
          pieces = stays (text t.shown, t.range) ∷ [];
          are = refl;
          of_run = (tt, tt);
          shown = λ s. append-nil (map (λ b. shows b) t.shown)
              ∙ ap (map (λ b. shows b)) (s.0 ∙ sym (append-nil t.searched));
        }
        merged_leaves (t ∷ u ∷ us) = text_leaves (t ∷ u ∷ us)
    by (Some a) e =
        same_events (events_linked (searched_bytes run) run a refl e)
        (linked_leaves (length (searched_bytes run)) (searched_bytes run) 0 run (omega arith) (omega arith) refl)

-- ---- where addresses are looked for

-- how many of the open places are left alone
abbrev count_alone : List TagEnd → ℕ
count_alone [] = 0
count_alone (t ∷ opened) = (if is_left_alone t then 1 else 0) + count_alone opened

none_alone : (a : List TagEnd) → count_alone a ≡ 0 → NothingLeftAlone a
none_alone [] none = tt
none_alone (t ∷ a) none = (first (is_left_alone t) refl, none_alone a (omega (arith, none)))
  where
    first : (b : Bool) → is_left_alone t ≡ b → is_left_alone t ≡ false
    first true e = let some = rw e at none in absurd (omega (arith, some))
    first false e = e

count_opens : (inside : ℕ) (a : List TagEnd) (tag : TagView) → inside ≡ count_alone a
    → left_alone_after inside (start tag) ≡ count_alone (tag_end tag ∷ a)
count_opens inside a tag is = cases (is_left_alone (tag_end tag)) refl
  where
    cases : (b : Bool) → is_left_alone (tag_end tag) ≡ b
        → left_alone_after inside (start tag) ≡ count_alone (tag_end tag ∷ a)
    cases true e = rw e (omega (arith, is))
    cases false e = rw e (omega (arith, is))

count_closes : (inside : ℕ) (a : List TagEnd) (t tag : TagEnd) → inside ≡ count_alone (t ∷ a) → t ≡ tag
    → left_alone_after inside (end tag) ≡ count_alone a
count_closes inside a t tag is same = cases (is_left_alone tag) refl
  where
    cases : (b : Bool) → is_left_alone tag ≡ b → left_alone_after inside (end tag) ≡ count_alone a
    cases true e = let now = rw (same, e) at is in rw e (omega (arith, now))
    cases false e = let now = rw (same, e) at is in rw e (omega (arith, now))

-- what is added outside stays outside after an event that stays
stays_outside : (inside : ℕ) (c a : List TagEnd) (e : RangedEvent) (events : List RangedEvent) (ps : List LinkedPiece)
    → Nests a (e ∷ events) c → inside ≡ count_alone a
    → ((b : List TagEnd) → Nests b events c → left_alone_after inside e.0 ≡ count_alone b → AddedOutside b ps)
    → AddedOutside a (stays e ∷ ps)
stays_outside inside c a (start tag, range) events ps nests is later =
    later (tag_end tag ∷ a) nests (count_opens inside a tag is)
stays_outside inside c [] (end tag, range) events ps nests is later = absurd nests
stays_outside inside c (t ∷ a) (end tag, range) events ps nests is later =
    later a nests.1 (count_closes inside a t tag is nests.0)
stays_outside inside c a (v, range) events ps nests is later = later a nests is

-- where addresses are not looked for no run has begun
abbrev IsQuiet : ℕ → Texts → Type 0
IsQuiet zero texts = Unit {0}
IsQuiet (suc n) [] = Unit {0}
IsQuiet (suc n) (t ∷ texts) = ⊥

quiet_none : (inside : ℕ) → IsQuiet inside []
quiet_none zero = tt
quiet_none (suc n) = tt

-- ---- all events

module _ (source : List ℕ) where
  text_shown : (t : List ℕ × Range ℕ) → (run_text source t).shown ≡ t.0
  text_shown t = cases (is_of_source source t.1 && is_as_in_source t.0 (slice_range source t.1.start t.1.end)) refl
    where
      cases : (b : Bool) → (is_of_source source t.1 && is_as_in_source t.0 (slice_range source t.1.start t.1.end)) ≡ b
          → (run_text source t).shown ≡ t.0
      cases true e = rw e refl
      cases false e = rw e refl

  abbrev AllShown : Texts → Type 0
  AllShown texts = AllByRecursion (λ (t : List ℕ × Range ℕ). (run_text source t).searched ≡ t.0) texts

  abbrev flat : Texts → List ℕ
  flat texts = flat_map (λ (t : List ℕ × Range ℕ). t.0) texts

  all_same : (texts : Texts) → AllShown texts → AllSame (map (run_text source) texts)
  all_same [] all = tt
  all_same (t ∷ texts) all = (text_shown t ∙ sym all.0, all_same texts all.1)

  same_flat : (texts : Texts) → AllShown texts → searched_bytes (map (run_text source) texts) ≡ flat texts
  same_flat [] all = refl
  same_flat (t ∷ texts) all = rw (all.0, same_flat texts all.1) refl

  texts_leave : (texts : Texts) → LeavesTexts (AllShown texts) (flat texts) (texts_events source texts)
  texts_leave texts =
      let v = run_leaves (map (run_text source) texts) in
      record {
        pieces = v.pieces;
        are = v.are;
        of_run = v.of_run;
        shown = λ s. v.shown (all_same texts s) ∙ ap (map (λ b. shows b)) (same_flat texts s);
      }

  shown_on : (texts : Texts) (t : List ℕ × Range ℕ) → AllShown texts → (run_text source t).searched ≡ t.0
      → AllShown (texts ++ t ∷ [])
  shown_on [] t all one = (one, tt)
  shown_on (u ∷ texts) t all one = (all.0, shown_on texts t all.1 one)

  -- what follows Texts is pieces, in so many places in which no addresses are looked for
  record Adds (inside : ℕ) (texts : Texts) (events after : List RangedEvent) : Type 0 where
    pub pieces : List LinkedPiece
    pub are : after ≡ flat_map piece_events pieces
    pub other : others (map untagged pieces) ≡ others events
    pub shown : AllShown texts → AllByRecursion (IsShownAsSearched source) events
        → signs (map untagged pieces) ≡ map (λ b. shows b) (flat texts) ++ signs events
    pub outside : (c a : List TagEnd) → Nests a events c → inside ≡ count_alone a → AddedOutside a pieces

  adds_none : (inside : ℕ) → Adds inside [] [] []
  adds_none inside = record {
    pieces = [];
    are = refl;
    other = refl;
    shown = λ all both. refl;
    outside = λ c a nests is. tt;
  }

  adds_stays : (inside : ℕ) (e : RangedEvent) (events after : List RangedEvent)
      → Adds (left_alone_after inside e.0) [] events after → Adds inside [] (e ∷ events) (e ∷ after)
  adds_stays inside e events after k = record {
    pieces = stays e ∷ k.pieces;
    are = ap (λ (es : List RangedEvent). e ∷ es) k.are;
    other = ap (λ (es : List RangedEvent). unless_text e ++ es) k.other;
    shown = λ all both. ap (λ (xs : List Sign). signs_of e.0 ++ xs) (k.shown tt both.1);
    outside = λ c a nests is. stays_outside inside c a e events k.pieces nests is (k.outside c);
  }

  adds_run : (texts : Texts) (events after : List RangedEvent) → Adds 0 [] events after
      → Adds 0 texts events (texts_events source texts ++ after)
  adds_run texts events after k =
      let v = texts_leave texts in
      record {
        pieces = v.pieces ++ k.pieces;
        are = ap (λ (es : List RangedEvent). es ++ after) v.are
            ∙ ap (λ (es : List RangedEvent). flat_map piece_events v.pieces ++ es) k.are
            ∙ sym (flat_map-append piece_events v.pieces k.pieces);
        other = others_with v.pieces k.pieces v.of_run ∙ k.other;
        shown = λ all both. shown_append v.pieces k.pieces ∙ rw (v.shown all, k.shown tt both) refl;
        outside = λ c a nests is. outside_with a v.pieces k.pieces v.of_run (none_alone a (sym is))
            (k.outside c a nests is);
      }

  adds_links : (inside : ℕ) (texts : Texts) (events : List RangedEvent) → IsQuiet inside texts
      → Adds inside texts events (with_addresses_after source inside texts events)
  adds_links zero texts [] quiet =
      subst (λ (es : List RangedEvent). Adds 0 texts [] es) (append-nil (texts_events source texts))
      (adds_run texts [] [] (adds_none 0))
  adds_links zero texts ((text t, range) ∷ events) quiet =
      let k = adds_links zero (texts ++ (t, range) ∷ []) events tt in
      record {
        pieces = k.pieces;
        are = k.are;
        other = k.other;
        shown = λ all both. k.shown (shown_on texts (t, range) all both.0) both.1
            ∙ ap (λ (xs : List Sign). xs ++ signs events)
            (ap (map (λ b. shows b))
            (flat_map-append (λ (u : List ℕ × Range ℕ). u.0) texts ((t, range) ∷ [])
            ∙ ap (λ (bs : List ℕ). flat texts ++ bs) (append-nil t))
            ∙ map-append (λ b. shows b) (flat texts) t)
            ∙ append_assoc (map (λ b. shows b) (flat texts)) (map (λ b. shows b) t) (signs events);
        outside = k.outside;
      }
  adds_links zero texts ((v, range) ∷ events) quiet =
      let inside = left_alone_after zero v in
      let after = with_addresses_after source inside [] events in
      adds_run texts ((v, range) ∷ events) ((v, range) ∷ after)
      (adds_stays zero (v, range) events after (adds_links inside [] events (quiet_none inside)))
  adds_links (suc n) [] [] quiet = adds_none (suc n)
  adds_links (suc n) [] (e ∷ events) quiet =
      let inside = left_alone_after (suc n) e.0 in
      adds_stays (suc n) e events (with_addresses_after source inside [] events)
      (adds_links inside [] events (quiet_none inside))
  adds_links (suc n) (t ∷ texts) events quiet = absurd quiet

pub only_links_are_added : OnlyLinksAreAdded
only_links_are_added source events =
    let k = adds_links source 0 [] events tt in
    record {
      pieces = k.pieces;
      are = k.are;
      other = k.other;
      shown = λ all. k.shown tt all;
      outside = λ nests. k.outside [] [] nests refl;
    }

-- ---- nesting

nests_bare : (a c : List TagEnd) (events : List RangedEvent) → Nests a events c → Nests a (others events) c
nests_bare a c [] nests = nests
nests_bare a c ((start tag, range) ∷ events) nests = nests_bare (tag_end tag ∷ a) c events nests
nests_bare [] c ((end tag, range) ∷ events) nests = absurd nests
nests_bare (t ∷ a) c ((end tag, range) ∷ events) nests = (nests.0, nests_bare a c events nests.1)
nests_bare a c ((v, range) ∷ events) nests = nests_bare a c events nests

nests_with : (a c : List TagEnd) (ps : List LinkedPiece) → Nests a (others (map untagged ps)) c
    → Nests a (flat_map piece_events ps) c
nests_with a c [] nests = nests
nests_with a c (adds searched x is range ∷ ps) nests = (refl, nests_with a c ps nests)
nests_with a c (stays (start tag, range) ∷ ps) nests = nests_with (tag_end tag ∷ a) c ps nests
nests_with [] c (stays (end tag, range) ∷ ps) nests = absurd nests
nests_with (t ∷ a) c (stays (end tag, range) ∷ ps) nests = (nests.0, nests_with a c ps nests.1)
nests_with a c (stays (v, range) ∷ ps) nests = nests_with a c ps nests

pub nesting_stays : NestingStays
nesting_stays source events nests =
    let k = only_links_are_added source events in
    subst (λ (es : List RangedEvent). Nests [] es []) (sym k.are)
    (nests_with [] [] k.pieces
    (subst (λ (es : List RangedEvent). Nests [] es []) (sym k.other) (nests_bare [] [] events nests)))

-- ---- no link in a link

apart_bare : (a : List TagEnd) (events : List RangedEvent) → LinksAreApart a events → LinksAreApart a (others events)
apart_bare a [] apart = tt
apart_bare a ((start (link l), range) ∷ events) apart = (apart.0, apart_bare (closes.Link ∷ a) events apart.1)
apart_bare a ((start tag, range) ∷ events) apart = apart_bare (tag_end tag ∷ a) events apart
apart_bare [] ((end tag, range) ∷ events) apart = tt
apart_bare (t ∷ a) ((end tag, range) ∷ events) apart = apart_bare a events apart
apart_bare a ((v, range) ∷ events) apart = apart_bare a events apart

no_links : (a : List TagEnd) → NothingLeftAlone a → NoLinkIn a
no_links [] none = tt
no_links (t ∷ a) none = (no_link t none.0, no_links a none.1)
  where
    no_link : (u : TagEnd) → is_left_alone u ≡ false → u ≡ closes.Link → ⊥
    no_link closes.Link none is = cc none
    no_link u none is = cc is

apart_with : (a : List TagEnd) (ps : List LinkedPiece) → AddedOutside a ps → LinksAreApart a (others (map untagged ps))
    → LinksAreApart a (flat_map piece_events ps)
apart_with a [] outside apart = tt
apart_with a (adds searched x is range ∷ ps) outside apart =
    (no_links a outside.0, apart_with a ps outside.1 apart)
apart_with a (stays (start (link l), range) ∷ ps) outside apart =
    (apart.0, apart_with (closes.Link ∷ a) ps outside apart.1)
apart_with a (stays (start tag, range) ∷ ps) outside apart = apart_with (tag_end tag ∷ a) ps outside apart
apart_with [] (stays (end tag, range) ∷ ps) outside apart = tt
apart_with (t ∷ a) (stays (end tag, range) ∷ ps) outside apart = apart_with a ps outside apart
apart_with a (stays (v, range) ∷ ps) outside apart = apart_with a ps outside apart

pub links_stay_apart : NoLinkGetsIntoALink
links_stay_apart source events nests apart =
    let k = only_links_are_added source events in
    subst (λ (es : List RangedEvent). LinksAreApart [] es) (sym k.are)
    (apart_with [] k.pieces (k.outside nests)
    (subst (λ (es : List RangedEvent). LinksAreApart [] es) (sym k.other) (apart_bare [] events apart)))
