-- Where the events of runs are in a source: in order, and between characters.
use Rattle.std.proofs.Common.{◌≡◌, ◌<◌, ◌≤◌, ◌+◌, ◌-◌, ◌∙◌, ◌⊎◌, inl, inr, ℕ, zero, suc, Bool, true, false, List, []}
use Rattle.std.proofs.Common.{◌∷◌, ◌++◌, refl, sym, ap, subst, arith, map, length, take, drop, slice_range, get_or}
use Rattle.std.proofs.Common.{append_assoc, append-nil, drop-drop, IsUtf8, Option, Some, None}
use Rattle.std.specs.Prelude.{◌&&◌, nat_le}
use Rattle.std.specs.declared.ops.Range.{Range}
use Rattle.std.proofs.lemmas.Bool.Decides.{nat_tests}
use Rattle.std.proofs.lemmas.List.{drop-take, take-take}
use Rattle.std.proofs.lemmas.Str.{IsCharBoundary-end, IsUtf8-append, IsUtf8-between, IsUtf8-nil}
use Rattle.markdown_base.specs.Event.{end, html_block, start, text}
use Rattle.markdown_base.specs.declared.tag.LinkType.{LinkType}
use Rattle.markdown_base.specs.declared.tag.TagEnd.TheVariants as closes
use Rattle.markdown_base.proofs.ByteListLemmas.{byte_of_part, part_length}
use Rattle.markdown_out.specs.OutLaws.{RangedEvent}
use Rattle.markdown_autolinks.specs.AddressBytes.{byte_at}
use Rattle.markdown_autolinks.specs.Addresses.{address_destination, addresses_after, addresses_in, first_address}
use Rattle.markdown_autolinks.specs.LinkRangeLaws.{EventsFollow, IsBetweenCharacters, PlacesRise, RangesRise}
use Rattle.markdown_autolinks.specs.LinkRangeLaws.{RangesStayInOrder, RangesStayInRun, TextsFollow, texts_end}
use Rattle.markdown_autolinks.specs.LinkedEvents.{Texts, left_alone_after, texts_events, with_addresses_after}
use Rattle.markdown_autolinks.specs.LinkedRuns.{RunTextView, address_link_type, first_part, is_as_in_source, is_cut_at}
use Rattle.markdown_autolinks.specs.LinkedRuns.{is_of_source, last_part, link_over, linked_events, merged_run}
use Rattle.markdown_autolinks.specs.LinkedRuns.{run_events, run_left, run_range, run_text, run_with, searched_bytes}
use Rattle.markdown_autolinks.specs.LinkedRuns.{shown_bytes, take_run, text_of_run, text_unless_empty}
use Rattle.markdown_autolinks.specs.declared.address.Address.{Address}
use Rattle.markdown_autolinks.proofs.CutLemmas.{boundary_cut, cut_boundary}
use Rattle.markdown_autolinks.proofs.FoundLemmas.{first_lies}
use Rattle.markdown_autolinks.proofs.RunLemmas.{cut_after, cut_before, cut_left, drops_left}

module _ (source : List ℕ) where
  -- ---- a Text, and a cut of it

  -- a Text of a run is between characters; if the source's bytes are searched of it, they are those of its range
  record StandsIn (t : RunTextView) : Type 0 where
    pub between : IsBetweenCharacters source t.range
    pub same : t.exact ≡ true → t.searched ≡ slice_range source t.range.start t.range.end

  -- the Texts of a range: one begins after another has ended, or both are parts of a Text of which the source's bytes
  -- are not searched
  abbrev IsNext : (before after : RunTextView) → Type 0
  IsNext t u = (t.range.end ≤ u.range.start) ⊎ ((t.exact ≡ false) × (u.exact ≡ false) × (t.range ≡ u.range))

  -- a Text and those after it
  abbrev Row : (most : ℕ) → RunTextView → List RunTextView → Type 0
  Row most t [] = Unit {0}
  Row most t (u ∷ run) = IsNext t u × StandsIn u × (u.range.end ≤ most) × Row most u run

  -- what a cut makes of a Text after another
  record IsCut (before t : RunTextView) (n : ℕ) : Type 0 where
    pub first : IsNext before (first_part n t)
    pub begins : StandsIn (first_part n t)
    pub low : (first_part n t).range.end ≤ t.range.end
    pub next : IsNext (first_part n t) (last_part n t)
    pub ends : StandsIn (last_part n t)
    pub high : (last_part n t).range.end ≡ t.range.end
    pub after : (u : RunTextView) → IsNext t u → IsNext (last_part n t) u

  module _ (before t : RunTextView) (n : ℕ) (is_next : IsNext before t) (stands : StandsIn t)
      (cuts : n < length t.searched) (cut : is_cut_at t.searched n ≡ true) where
    -- where the source's bytes are not searched both parts keep the range
    cuts_shown : t.exact ≡ false → IsCut before t n
    cuts_shown e = rw e (record {
      first = first is_next;
      begins = record { between = stands.between; same = λ f. cc f };
      low = omega arith;
      next = inr (refl, refl, refl);
      ends = record { between = stands.between; same = λ f. cc f };
      high = refl;
      after = λ u next. next;
    })
      where
        first : IsNext before t
            → (before.range.end ≤ t.range.start) ⊎ ((before.exact ≡ false) × (false ≡ false) × (before.range ≡ t.range))
        first (inl over) = inl over
        first (inr parts) = inr (parts.0, refl, parts.2)

    module _ (e : t.exact ≡ true) where
      ends_inside : t.range.end ≤ length source
      ends_inside = let b = cut_boundary source t.range.end stands.between.end in b.0

      size : length t.searched ≡ t.range.end - t.range.start
      size = ap length (stands.same e) ∙ part_length source t.range.start t.range.end ends_inside

      -- the cut is one of the source
      middle : is_cut_at source (t.range.start + n) ≡ true
      middle =
          let byte : byte_at t.searched n ≡ byte_at source (t.range.start + n) =
          ap (λ (bytes : List ℕ). get_or bytes n 0) (stands.same e)
          ∙ byte_of_part source t.range.start t.range.end n (omega (arith, size, cuts)) in
          let b = cut_boundary t.searched n cut in
          boundary_cut source (t.range.start + n)
          (omega (arith, size, cuts, ends_inside), λ l a. rw byte at (b.1 cuts (rw byte a)))

      first_same : take n t.searched ≡ slice_range source t.range.start (t.range.start + n)
      first_same =
          let few : t.range.start + n - t.range.start ≡ n = omega arith in
          ap (take n) (stands.same e)
          ∙ take-take n (t.range.end - t.range.start) (drop t.range.start source) (omega (arith, size, cuts))
          ∙ ap (λ (k : ℕ). take k (drop t.range.start source)) (sym few)

      last_same : drop n t.searched ≡ slice_range source (t.range.start + n) t.range.end
      last_same =
          let all : t.range.end - t.range.start ≡ n + (t.range.end - (t.range.start + n)) =
          omega (arith, size, cuts) in
          ap (drop n) (stands.same e)
          ∙ ap (λ (k : ℕ). drop n (take k (drop t.range.start source))) all
          ∙ drop-take n (t.range.end - (t.range.start + n)) (drop t.range.start source)
          ∙ ap (take (t.range.end - (t.range.start + n))) (drop-drop n t.range.start source)

      next_whole : IsNext before t → before.range.end ≤ t.range.start
      next_whole (inl over) = over
      next_whole (inr parts) = let clash : true ≡ false = sym e ∙ parts.1 in cc

      after_whole : (u : RunTextView)
          → (t.range.end ≤ u.range.start) ⊎ ((true ≡ false) × (u.exact ≡ false) × (t.range ≡ u.range))
          → t.range.end ≤ u.range.start
      after_whole u (inl over) = over
      after_whole u (inr parts) = let clash = parts.0 in cc

      -- where they are the cut parts the range
      cuts_source : IsCut before t n
      cuts_source = rw e (record {
        first = inl (next_whole is_next);
        begins = record {
          between = record { order = omega arith; start = stands.between.start; end = middle };
          same = λ f. first_same;
        };
        low = omega (arith, size, cuts);
        next = inl (omega arith);
        ends = record {
          between = record { order = omega (arith, size, cuts); start = middle; end = stands.between.end };
          same = λ f. last_same;
        };
        high = refl;
        after = λ u next. inl (after_whole u next);
      })

    is_cut : IsCut before t n
    is_cut = by t.exact refl
      where
        by : (b : Bool) → t.exact ≡ b → IsCut before t n
        by true e = cuts_source e
        by false e = cuts_shown e

  -- a run that is cut between characters is in a row
  cut_row : (most n : ℕ) (before : RunTextView) (run : List RunTextView) → Row most before run
      → is_cut_at (searched_bytes run) n ≡ true → Row most before (take_run n run ++ run_left n run)
  cut_row most zero before run row cut = row
  cut_row most (suc n) before [] row cut = tt
  cut_row most (suc n) before (t ∷ run) row cut = cases (nat_le (length t.searched) (suc n)) refl
      (cut_row most (suc n - length t.searched) t run row.3)
    where
      cases : (b : Bool) → nat_le (length t.searched) (suc n) ≡ b
          → (is_cut_at (searched_bytes run) (suc n - length t.searched) ≡ true
          → Row most t (take_run (suc n - length t.searched) run ++ run_left (suc n - length t.searched) run))
          → Row most before (take_run (suc n) (t ∷ run) ++ run_left (suc n) (t ∷ run))
      cases true e later =
          let fits : length t.searched ≤ suc n = grind (arith, nat_tests) in
          rw e (row.0, row.1, row.2, later (sym (cut_after t.searched (searched_bytes run) (suc n) fits) ∙ cut))
      cases false e later =
          let cuts : suc n < length t.searched = grind (arith, nat_tests) in
          let here = sym (cut_before t.searched (searched_bytes run) (suc n) cuts) ∙ cut in
          let c = is_cut before t (suc n) row.0 row.1 cuts here in
          rw e (
            c.first,
            c.begins,
            omega (arith, c.low, row.2),
            (c.next, c.ends, omega (arith, c.high, row.2), rest run c.after row.3),
          )
        where
          rest : (us : List RunTextView) → ((u : RunTextView) → IsNext t u → IsNext (last_part (suc n) t) u)
              → Row most t us → Row most (last_part (suc n) t) us
          rest [] after row = tt
          rest (u ∷ us) after row = (after u row.0, row.1, row.2, row.3)

  -- ---- the range of a part of a run

  -- of a part that begins with a Text: its range, after what is before the Text, and what follows it
  record IsPart (most : ℕ) (t : RunTextView) (rest : List RunTextView) (range : Range ℕ) : Type 0 where
    pub start : range.start ≡ t.range.start
    pub between : IsBetweenCharacters source range
    pub after : t.range.end ≤ range.end
    pub within : range.end ≤ most
    pub last : RunTextView
    pub order : last.range.start ≤ last.range.end
    pub low : range.start ≤ last.range.start
    pub high : range.end ≡ last.range.end
    pub row : Row most last rest

  -- a Text does not fall back behind the one before it
  record Rises (t u : RunTextView) : Type 0 where
    pub starts : t.range.start ≤ u.range.start
    pub ends : t.range.end ≤ u.range.end

  next_rises : (t u : RunTextView) → t.range.start ≤ t.range.end → u.range.start ≤ u.range.end → IsNext t u
      → Rises t u
  next_rises t u first second (inl over) =
      record { starts = omega (arith, over, first); ends = omega (arith, over, second) }
  next_rises t u first second (inr parts) = rw parts.2 (record { starts = omega arith; ends = omega arith })

  part_range : (most : ℕ) (t : RunTextView) (part rest : List RunTextView) → StandsIn t → t.range.end ≤ most
      → Row most t (part ++ rest) → IsPart most t rest (run_range t part)
  part_range most t [] rest stands within row = record {
    start = refl;
    between = stands.between;
    after = omega arith;
    within = within;
    last = t;
    order = stands.between.order;
    low = omega arith;
    high = refl;
    row = row;
  }
  part_range most t (u ∷ part) rest stands within row =
      let p = part_range most u part rest row.1 row.2 row.3 in
      let n = next_rises t u stands.between.order row.1.between.order row.0 in record {
        start = refl;
        between = record {
          order = omega (arith, n.starts, p.start, p.between.order);
          start = stands.between.start;
          end = p.between.end;
        };
        after = omega (arith, n.ends, p.after);
        within = p.within;
        last = p.last;
        order = p.order;
        low = omega (arith, n.starts, p.start, p.low);
        high = p.high;
        row = p.row;
      }

  -- ---- the events of a run

  -- a run that begins no earlier than `low` and ends no earlier than `high`
  record Continues (most low high : ℕ) (run : List RunTextView) : Type 0 where
    pub before : RunTextView
    pub order : before.range.start ≤ before.range.end
    pub starts : low ≤ before.range.start
    pub ends : high ≤ before.range.end
    pub row : Row most before run

  -- the range of its first part, and what follows that
  record Enters (most low high : ℕ) (rest : List RunTextView) (range : Range ℕ) : Type 0 where
    pub between : IsBetweenCharacters source range
    pub starts : low ≤ range.start
    pub ends : high ≤ range.end
    pub within : range.end ≤ most
    pub after : Continues most range.start range.end rest
    pub past : Continues most low high rest

  enters : {most low high : ℕ} (t : RunTextView) (part rest : List RunTextView)
      → Continues most low high (t ∷ part ++ rest) → Enters most low high rest (run_range t part)
  enters {most} {low} {high} t part rest k =
      let n = next_rises k.before t k.order k.row.1.between.order k.row.0 in
      let p = part_range most t part rest k.row.1 k.row.2 k.row.3 in record {
        between = p.between;
        starts = omega (arith, k.starts, n.starts, p.start);
        ends = omega (arith, k.ends, n.ends, p.after);
        within = p.within;
        after = record { before = p.last; order = p.order; starts = p.low; ends = omega (arith, p.high); row = p.row };
        past = record {
          before = p.last;
          order = p.order;
          starts = omega (arith, k.starts, n.starts, p.start, p.low);
          ends = omega (arith, k.ends, n.ends, p.after, p.high);
          row = p.row;
        };
      }

  module _ {most : ℕ} (rest : List RunTextView) (events : List RangedEvent)
      (later : (low high : ℕ) → Continues most low high rest → RangesRise source most low high events) where
    text_rises : {low high : ℕ} (part : List RunTextView) → Continues most low high (part ++ rest)
        → RangesRise source most low high (text_of_run part ++ events)
    text_rises {low} {high} [] k = later low high k
    text_rises {low} {high} (t ∷ part) k = by (shown_bytes (t ∷ part)) (enters t part rest k)
      where
        range : Range ℕ
        range = run_range t part

        by : (bytes : List ℕ) → Enters most low high rest range
            → RangesRise source most low high (text_unless_empty bytes range ++ events)
        by [] n = later low high n.past
        by (b ∷ bytes) n = (n.between, n.starts, n.ends, n.within, later range.start range.end n.after)

    link_rises : {low high : ℕ} (kind : LinkType) (destination : List ℕ) (part : List RunTextView)
        → Continues most low high (part ++ rest)
        → RangesRise source most low high (link_over kind destination part ++ events)
    link_rises {low} {high} kind destination [] k = later low high k
    link_rises kind destination (t ∷ part) k =
        let n = enters t part rest k in
        let range : Range ℕ = run_range t part in
        let last : RangesRise source most range.start range.end ((end closes.Link, range) ∷ events) =
        (n.between, omega arith, omega arith, n.within, later range.start range.end n.after) in
        (n.between, n.starts, n.ends, n.within, (n.between, omega arith, omega arith, n.within, last))

  -- a part as one Text, and nothing after it
  last_rises : {most low high : ℕ} (part rest : List RunTextView) → Continues most low high (part ++ rest)
      → RangesRise source most low high (text_of_run part)
  last_rises {most} {low} {high} part rest k =
      subst (RangesRise source most low high) (append-nil (text_of_run part)) (text_rises rest [] (λ l h c. tt) part k)

  cut_continues : {most low high : ℕ} (n : ℕ) (run : List RunTextView) → Continues most low high run
      → is_cut_at (searched_bytes run) n ≡ true → Continues most low high (take_run n run ++ run_left n run)
  cut_continues {most} {low} {high} n run k cut = record {
    before = k.before;
    order = k.order;
    starts = k.starts;
    ends = k.ends;
    row = cut_row most n k.before run k.row cut;
  }

  module _ (most : ℕ) (searched : List ℕ) (utf8 : IsUtf8 searched) where
    ends_rise : {low high : ℕ} (used : ℕ) (run : List RunTextView) → used ≤ length searched
        → searched_bytes run ≡ drop used searched → Continues most low high run
        → RangesRise source most low high (linked_events searched used run [])
    ends_rise used run inside is k =
        last_rises (take_run (length searched - used) run) (run_left (length searched - used) run)
        (cut_continues (length searched - used) run k
        (cut_left searched (searched_bytes run) used (length searched) inside is inside (IsCharBoundary-end searched)))

    linked_rise : (n used : ℕ) (run : List RunTextView) (low high : ℕ) → used ≤ length searched
        → searched_bytes run ≡ drop used searched → Continues most low high run
        → RangesRise source most low high (linked_events searched used run (addresses_after searched used n))
    linked_rise zero used run low high inside is k = ends_rise used run inside is k
    linked_rise (suc n) used run low high inside is k =
        by (first_address searched used) refl (linked_rise n)
      where
        by : (o : Option Address) → first_address searched used ≡ o
            → ((end : ℕ) (rest : List RunTextView) (l h : ℕ) → end ≤ length searched
            → searched_bytes rest ≡ drop end searched → Continues most l h rest
            → RangesRise source most l h (linked_events searched end rest (addresses_after searched end n)))
            → RangesRise source most low high (linked_events searched used run (addresses_after searched used (suc n)))
        by None e later = rw e (ends_rise used run inside is k)
        by (Some a) e later =
            let l = first_lies searched used a inside e in
            let start : a.start ≤ length searched = omega (arith, l.name_after, l.some, l.inside) in
            let order : a.start ≤ a.end = omega (arith, l.name_after, l.some) in
            let one : List RunTextView = run_left (a.start - used) run in
            let two : List RunTextView = run_left (a.end - a.start) one in
            let one_is : searched_bytes one ≡ drop a.start searched =
            drops_left searched run used a.start is l.after start in
            let two_is : searched_bytes two ≡ drop a.end searched =
            drops_left searched one a.start a.end one_is order l.inside in
            let between : List RunTextView = take_run (a.start - used) run in
            let linked : List RunTextView = take_run (a.end - a.start) one in
            let kind : LinkType = address_link_type a.form in
            let destination : List ℕ = address_destination searched a in
            let link : List RangedEvent = link_over kind destination linked in
            let after : List RangedEvent = linked_events searched a.end two (addresses_after searched a.end n) in
            rw e (subst (RangesRise source most low high) (sym (append_assoc (text_of_run between) link after))
            (text_rises one (link ++ after)
            (λ low high c. link_rises two after (λ low high d. later a.end two low high l.inside two_is d)
            kind destination linked
            (cut_continues (a.end - a.start) one c
            (cut_left searched (searched_bytes one) a.start a.end start one_is order (l.end utf8))))
            between
            (cut_continues (a.start - used) run k
            (cut_left searched (searched_bytes run) used a.start inside is l.after l.start))))

  run_rises : {most low high : ℕ} (run : List RunTextView) → IsUtf8 (searched_bytes run) → Continues most low high run
      → RangesRise source most low high (run_events run)
  run_rises {most} {low} {high} run utf8 k =
      by (addresses_in (searched_bytes run))
      (linked_rise most (searched_bytes run) utf8 (length (searched_bytes run)) 0 run low high (omega arith) refl k)
    where
      whole : Continues most low high (run ++ [])
      whole = subst (Continues most low high) (sym (append-nil run)) k

      merged : (r : List RunTextView) → Continues most low high (r ++ [])
          → RangesRise source most low high (merged_run r)
      merged [] c = tt
      merged (t ∷ []) c = let n = enters t [] [] c in (n.between, n.starts, n.ends, n.within, tt)
      merged (t ∷ u ∷ us) c = last_rises (t ∷ u ∷ us) [] c

      by : (addresses : List Address)
          → RangesRise source most low high (linked_events (searched_bytes run) 0 run addresses)
          → RangesRise source most low high (run_with run addresses)
      by [] rises = merged run whole
      by (a ∷ addresses) rises = rises

  -- ---- Texts that stand together

  -- a Text in the source at its range, and whole characters of it that are searched
  record TextStands (range : Range ℕ) (t : RunTextView) : Type 0 where
    pub place : t.range ≡ range
    pub stands : StandsIn t
    pub utf8 : IsUtf8 t.searched

  text_stands : IsUtf8 source → (t : List ℕ × Range ℕ) → IsBetweenCharacters source t.1 → IsUtf8 t.0
      → TextStands t.1 (run_text source t)
  text_stands utf8 t between own =
      by (is_of_source source t.1 && is_as_in_source t.0 (slice_range source t.1.start t.1.end)) refl
    where
      by : (b : Bool) → (is_of_source source t.1 && is_as_in_source t.0 (slice_range source t.1.start t.1.end)) ≡ b
          → TextStands t.1 (run_text source t)
      by true e = rw e (record {
        place = refl;
        stands = record { between = between; same = λ f. refl };
        utf8 = IsUtf8-between source t.1.start t.1.end utf8 between.order
            (cut_boundary source t.1.start between.start) (cut_boundary source t.1.end between.end);
      })
      by false e = rw e (record {
        place = refl;
        stands = record { between = between; same = λ f. cc f };
        utf8 = own;
      })

  module _ (utf8 : IsUtf8 source) where
    -- the last ends no earlier than the first may begin
    ends_after : (at : ℕ) (texts : Texts) → TextsFollow source at texts → at ≤ texts_end at texts
    ends_after at [] follow = omega arith
    ends_after at (t ∷ texts) follow =
        omega (arith, follow.0.order, follow.1, ends_after t.1.end texts follow.3)

    texts_row : (most at : ℕ) (before : RunTextView) (texts : Texts) → before.range.end ≤ at → texts_end at texts ≤ most
        → TextsFollow source at texts → Row most before (map (run_text source) texts)
    texts_row most at before [] over within follow = tt
    texts_row most at before (t ∷ texts) over within follow =
        let s = text_stands utf8 t follow.0 follow.2 in (
          inl (rw s.place (omega (arith, over, follow.1))),
          s.stands,
          rw s.place (omega (arith, ends_after t.1.end texts follow.3, within)),
          texts_row most t.1.end (run_text source t) texts (rw s.place (omega arith)) within follow.3,
        )

    texts_utf8 : (at : ℕ) (texts : Texts) → TextsFollow source at texts
        → IsUtf8 (searched_bytes (map (run_text source) texts))
    texts_utf8 at [] follow = IsUtf8-nil
    texts_utf8 at (t ∷ texts) follow =
        let s = text_stands utf8 t follow.0 follow.2 in
        IsUtf8-append (run_text source t).searched (searched_bytes (map (run_text source) texts)) s.utf8
        (texts_utf8 t.1.end texts follow.3)

    texts_rise : (at : ℕ) (texts : Texts) → TextsFollow source at texts
        → RangesRise source (texts_end at texts) at at (texts_events source texts)
    texts_rise at texts follow =
        let before : RunTextView = record {
          searched = [];
          shown = [];
          range = record { start = at; end = at };
          exact = true;
        } in
        run_rises (map (run_text source) texts) (texts_utf8 at texts follow) (record {
          before = before;
          order = omega arith;
          starts = omega arith;
          ends = omega arith;
          row = texts_row (texts_end at texts) at before texts (omega arith) (omega arith) follow;
        })

pub runs_rise : RangesStayInRun
runs_rise = texts_rise

-- ---- all events

module _ (source : List ℕ) where
  -- what rises from two places does so from earlier ones
  rises_before : (most low high l h : ℕ) (events : List RangedEvent) → l ≤ low → h ≤ high
      → RangesRise source most low high events → RangesRise source most l h events
  rises_before most low high l h [] lower earlier rises = tt
  rises_before most low high l h (e ∷ events) lower earlier rises =
      (rises.0, omega (arith, lower, rises.1), omega (arith, earlier, rises.2), rises.3, rises.4)

  places_before : (low high l h : ℕ) (events : List RangedEvent) → l ≤ low → h ≤ high
      → PlacesRise source low high events → PlacesRise source l h events
  places_before low high l h [] lower earlier rise = tt
  places_before low high l h ((start html_block, range) ∷ events) lower earlier rise =
      (rise.0, omega (arith, lower, rise.1), places_before low high l h events lower earlier rise.2)
  places_before low high l h ((start tag, range) ∷ events) lower earlier rise = (
    rise.0,
    omega (arith, lower, rise.1),
    places_before range.start high range.start h events (omega arith) earlier rise.2,
  )
  places_before low high l h ((end tag, range) ∷ events) lower earlier rise = (
    rise.0,
    omega (arith, earlier, rise.1),
    places_before low range.end l range.end events lower (omega arith) rise.2,
  )
  places_before low high l h ((v, range) ∷ events) lower earlier rise =
      (rise.0, omega (arith, lower, rise.1), omega (arith, earlier, rise.2), rise.3)

  -- events up to a place, and events after it
  rise_on : (most low high : ℕ) (xs ys : List RangedEvent) → low ≤ most → high ≤ most
      → RangesRise source most low high xs → PlacesRise source most most ys → PlacesRise source low high (xs ++ ys)
  rise_on most low high [] ys lower earlier rises later = places_before most most low high ys lower earlier later
  rise_on most low high ((start html_block, range) ∷ xs) ys lower earlier rises later = (
    rises.0,
    rises.1,
    rise_on most low high xs ys lower earlier
        (rises_before most range.start range.end low high xs rises.1 rises.2 rises.4) later,
  )
  rise_on most low high ((start tag, range) ∷ xs) ys lower earlier rises later = (
    rises.0,
    rises.1,
    rise_on most range.start high xs ys (omega (arith, rises.0.order, rises.3)) earlier
        (rises_before most range.start range.end range.start high xs (omega arith) rises.2 rises.4) later,
  )
  rise_on most low high ((end tag, range) ∷ xs) ys lower earlier rises later = (
    rises.0,
    rises.2,
    rise_on most low range.end xs ys lower rises.3
        (rises_before most range.start range.end low range.end xs rises.1 (omega arith) rises.4) later,
  )
  rise_on most low high ((v, range) ∷ xs) ys lower earlier rises later = (
    rises.0,
    rises.1,
    rises.2,
    rise_on most range.start range.end xs ys (omega (arith, rises.0.order, rises.3)) rises.3 rises.4 later,
  )

  -- an event that stays, and what becomes of those after it
  stays_risen : (at : ℕ) (e : RangedEvent) (events after : List RangedEvent) → EventsFollow source at (e ∷ events)
      → ((to : ℕ) → EventsFollow source to events → PlacesRise source to to after)
      → PlacesRise source at at (e ∷ after)
  stays_risen at (start html_block, range) events after follow later = (follow.0, follow.1, later at follow.2)
  stays_risen at (start tag, range) events after follow later = (
    follow.0,
    follow.1,
    places_before range.start range.start range.start at after (omega arith) follow.1 (later range.start follow.2),
  )
  stays_risen at (end tag, range) events after follow later = (
    follow.0,
    follow.1,
    places_before range.end range.end at range.end after follow.1 (omega arith) (later range.end follow.2),
  )
  stays_risen at (text bytes, range) events after follow later = (
    follow.0,
    follow.1,
    omega (arith, follow.0.order, follow.1),
    places_before range.end range.end range.start range.end after follow.0.order (omega arith)
        (later range.end follow.3),
  )
  stays_risen at (v, range) events after follow later = (
    follow.0,
    follow.1,
    omega (arith, follow.0.order, follow.1),
    places_before range.end range.end range.start range.end after follow.0.order (omega arith)
        (later range.end follow.2),
  )

  -- one more Text
  texts_follow : (at : ℕ) (texts : Texts) (bytes : List ℕ) (range : Range ℕ) → TextsFollow source at texts
      → IsBetweenCharacters source range → texts_end at texts ≤ range.start → IsUtf8 bytes
      → TextsFollow source at (texts ++ (bytes, range) ∷ [])
  texts_follow at [] bytes range follow between after utf8 = (between, after, utf8, tt)
  texts_follow at (t ∷ texts) bytes range follow between after utf8 =
      (follow.0, follow.1, follow.2, texts_follow t.1.end texts bytes range follow.3 between after utf8)

  last_added : (at : ℕ) (texts : Texts) (bytes : List ℕ) (range : Range ℕ)
      → texts_end at (texts ++ (bytes, range) ∷ []) ≡ range.end
  last_added at [] bytes range = refl
  last_added at (t ∷ texts) bytes range = last_added t.1.end texts bytes range

  module _ (utf8 : IsUtf8 source) where
    -- a run, and an event after it that stays
    run_stays : (at inside : ℕ) (texts : Texts) (e : RangedEvent) (events : List RangedEvent)
        → TextsFollow source at texts → EventsFollow source (texts_end at texts) (e ∷ events)
        → ((to : ℕ) → EventsFollow source to events
        → PlacesRise source to to (with_addresses_after source inside [] events))
        → PlacesRise source at at (texts_events source texts ++ e ∷ with_addresses_after source inside [] events)
    run_stays at inside texts e events run follow later =
        let most = ends_after source utf8 at texts run in
        rise_on (texts_end at texts) at at (texts_events source texts)
        (e ∷ with_addresses_after source inside [] events) most most (texts_rise source utf8 at texts run)
        (stays_risen (texts_end at texts) e events (with_addresses_after source inside [] events) follow later)

    after_rise : (at inside : ℕ) (texts : Texts) (events : List RangedEvent) → TextsFollow source at texts
        → EventsFollow source (texts_end at texts) events
        → PlacesRise source at at (with_addresses_after source inside texts events)
    after_rise at inside texts [] run follow =
        let most = ends_after source utf8 at texts run in
        subst (PlacesRise source at at) (append-nil (texts_events source texts))
        (rise_on (texts_end at texts) at at (texts_events source texts) [] most most
        (texts_rise source utf8 at texts run) tt)
    after_rise at zero texts ((text bytes, range) ∷ events) run follow =
        after_rise at zero (texts ++ (bytes, range) ∷ []) events
        (texts_follow at texts bytes range run follow.0 follow.1 follow.2)
        (rw (last_added at texts bytes range) follow.3)
    after_rise at zero texts ((v, range) ∷ events) run follow =
        run_stays at (left_alone_after zero v) texts (v, range) events run follow
        (λ to next. after_rise to (left_alone_after zero v) [] events tt next)
    after_rise at (suc n) texts (e ∷ events) run follow =
        run_stays at (left_alone_after (suc n) e.0) texts e events run follow
        (λ to next. after_rise to (left_alone_after (suc n) e.0) [] events tt next)

pub events_rise : RangesStayInOrder
events_rise source utf8 at events follow = after_rise source utf8 at 0 [] events tt follow
