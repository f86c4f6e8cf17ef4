-- Merging changes no byte of the HTML: the HTML of a list of events read forwards, and that of runs.
use Rattle.std.proofs.Common.{◌≡◌, ◌<◌, ℕ, Bool, true, false, List, [], ◌∷◌, ◌++◌, map, Ok, Err, Option, Some, None}
use Rattle.std.proofs.Common.{length, reverse, refl, sym, ap, subst, ◌∙◌, append_assoc, append-nil, arith}
use mathlib.Core.List.{reverse_aux}
use Rattle.std.specs.List.{flat_map, AllByRecursion}
use Rattle.std.proofs.lemmas.List.Concat.{flat_map-append}
use Rattle.markdown_base.specs.Event.{EventView, text, start, end, code, inline_math, display_math, html, inline_html}
use Rattle.markdown_base.specs.Event.{footnote_reference, soft_break, hard_break, rule, task_list_marker}
use Rattle.markdown_out.specs.ByteLists.{fresh_after_bytes}
use Rattle.markdown_out.specs.Escapes.{text_escaped, text_byte, attribute_escaped, attribute_byte}
use Rattle.markdown_out.specs.LookBacks.{Past, OpenImageView, unless_inside, metadata_after, head_after}
use Rattle.markdown_out.specs.LookBacks.{cell_column_after, alignments_after, names_after, image_after, image_before}
use Rattle.markdown_out.specs.EventHtml.{event_bytes, bytes_by_image, fresh_after, past_of, bytes_before, closing}
use Rattle.markdown_out.specs.EventHtml.{html_of}
use Rattle.markdown_out.specs.Merge.{PlacedText, text_item, Run, alone, texts, before_runs, runs, last_text}
use Rattle.markdown_out.specs.Merge.{unless_empty, run_items}
use Rattle.markdown_out.specs.OutLaws.{event_item, item_events, merged_events, IsNoEmptyText}
use Rattle.markdown_out.specs.EventRanges.{nowhere}
use Rattle.markdown_out.proofs.ByteListsLemmas.{fresh_after_bytes-append}

-- what the writer keeps after one more event
abbrev pub past_after : Past → EventView → Past
past_after past e = record {
  rules = past.rules;
  fresh = fresh_after past e;
  in_metadata = unless_inside metadata_after past.open_image past.in_metadata e;
  in_head = unless_inside head_after past.open_image past.in_head e;
  column = unless_inside cell_column_after past.open_image past.column e;
  alignments = unless_inside alignments_after past.open_image past.alignments e;
  names = names_after past.open_image past.names e;
  open_image = image_after past.open_image e;
}

-- what the writer keeps after events
abbrev pub past_through : Past → List EventView → Past
past_through past [] = past
past_through past (e ∷ events) = past_through (past_after past e) events

-- the bytes of events, written after what led to this state
abbrev pub bytes_from : Past → List EventView → List ℕ
bytes_from past [] = []
bytes_from past (e ∷ events) = event_bytes past e ++ bytes_from (past_after past e) events

-- read forwards, the bytes are the same
pub bytes-forwards : (events before : List EventView) → bytes_before (reverse_aux events before) ≡ bytes_before before
    ++ bytes_from (past_of before) events
bytes-forwards [] before = sym (append-nil (bytes_before before))
bytes-forwards (e ∷ events) before =
    bytes-forwards events (e ∷ before)
    ∙ append_assoc (bytes_before before) (event_bytes (past_of before) e)
    (bytes_from (past_after (past_of before) e) events)

pub past-forwards : (events before : List EventView) → past_of (reverse_aux events before)
    ≡ past_through (past_of before) events
past-forwards [] before = refl
past-forwards (e ∷ events) before = past-forwards events (e ∷ before)

-- the HTML of a list, read forwards
pub html-forwards : (events : List EventView) → html_of events ≡ bytes_from (past_of []) events
    ++ closing (past_through (past_of []) events).open_image
html-forwards events =
    ap (λ b. b ++ closing (image_before (reverse events))) (bytes-forwards events [])
    ∙ ap (λ p. bytes_from (past_of []) events ++ closing p.open_image) (past-forwards events [])

-- what a Text writes: nothing in metadata, and in an image its part of the alt text
abbrev written : Option OpenImageView → Bool → List ℕ → List ℕ
written None true t = []
written None false t = text_escaped t
written (Some i) m t = attribute_escaped t

text-written : (past : Past) (t : List ℕ) → event_bytes past (text t) ≡ written past.open_image past.in_metadata t
text-written past t = by_image past.open_image past.in_metadata
  where
    by_image : (o : Option OpenImageView) (m : Bool) → bytes_by_image o (record past { in_metadata = m }) (text t)
        ≡ written o m t
    by_image None true = refl
    by_image None false = refl
    by_image (Some i) m = refl

written-append : (o : Option OpenImageView) (m : Bool) (t u : List ℕ) → written o m t ++ written o m u
    ≡ written o m (t ++ u)
written-append None true t u = refl
written-append None false t u = sym (flat_map-append text_byte t u)
written-append (Some i) m t u = sym (flat_map-append attribute_byte t u)

-- a Text changes nothing but whether a line begins
past-text : (past : Past) (t : List ℕ) → past_after past (text t) ≡ record past { fresh = fresh_after past (text t) }
past-text past t = by_image past.open_image
  where
    by_image : (o : Option OpenImageView) → past_after (record past { open_image = o }) (text t)
        ≡ record past { open_image = o; fresh = fresh_after (record past { open_image = o }) (text t) }
    by_image None = refl
    by_image (Some i) = refl

fresh-text : (past : Past) (t : List ℕ) → 0 < length t
    → fresh_after past (text t) ≡ fresh_after_bytes past.fresh (written past.open_image past.in_metadata t)
fresh-text past [] h = absurd (omega arith)
fresh-text past (b ∷ bs) h = ap (fresh_after_bytes past.fresh) (text-written past (b ∷ bs))

-- what is told after a Text that is not empty
told-text : (past : Past) (t : List ℕ) → 0 < length t
    → past_after past (text t)
    ≡ record past { fresh = fresh_after_bytes past.fresh (written past.open_image past.in_metadata t) }
told-text past t h = past-text past t ∙ ap (λ f. record past { fresh = f }) (fresh-text past t h)

-- events that write the same and tell the same
pub record IsSameHtml (past : Past) (xs ys : List EventView) : Type 0 where
  pub bytes : bytes_from past xs ≡ bytes_from past ys
  pub told : past_through past xs ≡ past_through past ys

same-refl : (past : Past) (xs : List EventView) → IsSameHtml past xs xs
same-refl past xs = record { bytes = refl; told = refl }

same-trans : (past : Past) (xs ys zs : List EventView) → IsSameHtml past xs ys → IsSameHtml past ys zs
    → IsSameHtml past xs zs
same-trans past xs ys zs a b = record { bytes = a.bytes ∙ b.bytes; told = a.told ∙ b.told }

same-sym : (past : Past) (xs ys : List EventView) → IsSameHtml past xs ys → IsSameHtml past ys xs
same-sym past xs ys a = record { bytes = sym a.bytes; told = sym a.told }

same-cons : (past : Past) (e : EventView) (xs ys : List EventView) → IsSameHtml (past_after past e) xs ys
    → IsSameHtml past (e ∷ xs) (e ∷ ys)
same-cons past e xs ys a = record { bytes = ap (λ b. event_bytes past e ++ b) a.bytes; told = a.told }

-- two Texts and the Text of both
same-two : (past : Past) (t u : List ℕ) (rest : List EventView) → 0 < length t → 0 < length u → 0 < length (t ++ u)
    → IsSameHtml past (text t ∷ text u ∷ rest) (text (t ++ u) ∷ rest)
same-two past t u rest h k l = record {
  bytes = sym (append_assoc (event_bytes past (text t)) (event_bytes mid (text u))
      (bytes_from (past_after mid (text u)) rest))
      ∙ (ap (λ b. b ++ bytes_from (past_after mid (text u)) rest) bytes
      ∙ ap (λ p. event_bytes past (text (t ++ u)) ++ bytes_from p rest)
      told);
  told = ap (λ p. past_through p rest) told;
}
  where
    o : Option OpenImageView
    o = past.open_image

    m : Bool
    m = past.in_metadata

    mid : Past
    mid = past_after past (text t)

    second : event_bytes mid (text u) ≡ written o m u
    second = ap (λ p. event_bytes p (text u)) (told-text past t h)
        ∙ text-written (record past { fresh = fresh_after_bytes past.fresh (written o m t) }) u

    bytes : event_bytes past (text t) ++ event_bytes mid (text u) ≡ event_bytes past (text (t ++ u))
    bytes = ap (λ b. b ++ event_bytes mid (text u)) (text-written past t)
        ∙ (ap (λ b. written o m t ++ b) second ∙ (written-append o m t u ∙ sym (text-written past (t ++ u))))

    told : past_after mid (text u) ≡ past_after past (text (t ++ u))
    told = ap (λ p. past_after p (text u)) (told-text past t h)
        ∙ (told-text (record past { fresh = fresh_after_bytes past.fresh (written o m t) }) u k
        ∙ (ap (λ f. record past { fresh = f })
        (sym (fresh_after_bytes-append past.fresh (written o m t) (written o m u))
        ∙ ap (fresh_after_bytes past.fresh) (written-append o m t u))
        ∙ sym (told-text past (t ++ u) l)))

-- no Text of a run is empty
abbrev pub IsFullRun : {P : Type 0} → Run P → Type 0
IsFullRun (alone x) = Unit {0}
IsFullRun (texts t us) = (0 < length t.bytes) × AllByRecursion (λ u. 0 < length u.bytes) us

abbrev U : Type 0
U = Unit {0}

-- the events of a run
abbrev run_events : Run U → List EventView
run_events (alone x) = item_events x
run_events (texts t us) = map (λ x. text x.bytes) (t ∷ us)

longer : (t u : List ℕ) → 0 < length t → 0 < length (t ++ u)
longer [] u h = absurd (omega arith)
longer (b ∷ t) u h = omega arith

-- Texts and the Text of all
same-texts : (past : Past) (t : List ℕ) (us : List (PlacedText U)) (rest : List EventView) → 0 < length t
    → AllByRecursion (λ u. 0 < length u.bytes) us
    → IsSameHtml past (text t ∷ (map (λ x. text x.bytes) us ++ rest)) (text (t ++ flat_map (λ x. x.bytes) us) ∷ rest)
same-texts past t [] rest h a = subst (λ b. IsSameHtml past (text t ∷ rest) (text b ∷ rest)) (sym (append-nil t))
    (same-refl past (text t ∷ rest))
same-texts past t (u ∷ us) rest h a =
    let more = map (λ x. text x.bytes) us ++ rest in
    let both = same-two past t u.bytes more h a.0 (longer t u.bytes h) in
    let all = same-texts past (t ++ u.bytes) us rest (longer t u.bytes h) a.1 in
    let whole = subst (λ b. IsSameHtml past (text (t ++ u.bytes) ∷ more) (text b ∷ rest))
    (append_assoc t u.bytes (flat_map (λ x. x.bytes) us)) all in
    same-trans past (text t ∷ text u.bytes ∷ more) (text (t ++ u.bytes) ∷ more)
    (text (t ++ (u.bytes ++ flat_map (λ x. x.bytes) us)) ∷ rest)
    both whole

given-text : (bytes : List ℕ) (p : U) → 0 < length bytes → unless_empty bytes p ≡ Ok (text bytes, p) ∷ []
given-text [] p h = absurd (omega arith)
given-text (b ∷ bytes) p h = refl

-- what runs give writes what their events write
same-runs : (rs : List (Run U)) (past : Past) → AllByRecursion IsFullRun rs
    → IsSameHtml past (flat_map item_events (flat_map (run_items nowhere) rs)) (flat_map run_events rs)
same-runs [] past a = same-refl past []
same-runs (alone (Ok x) ∷ rs) past a =
    same-cons past x.0 (flat_map item_events (flat_map (run_items nowhere) rs)) (flat_map run_events rs)
    (same-runs rs (past_after past x.0) a.1)
same-runs (alone (Err fault) ∷ rs) past a = same-runs rs past a.1
same-runs (texts t [] ∷ rs) past a =
    same-cons past (text t.bytes) (flat_map item_events (flat_map (run_items nowhere) rs)) (flat_map run_events rs)
    (same-runs rs (past_after past (text t.bytes)) a.1)
same-runs (texts t (u ∷ us) ∷ rs) past a =
    let whole = t.bytes ++ flat_map (λ x. x.bytes) (u ∷ us) in
    let rest = flat_map run_events rs in
    let given = flat_map item_events (flat_map (run_items nowhere) rs) in
    let one = same-cons past (text whole) given rest (same-runs rs (past_after past (text whole)) a.1) in
    let all = same-texts past t.bytes (u ∷ us) rest a.0.0 a.0.1 in
    let item : unless_empty whole (nowhere t.range (last_text u us).range)
    ≡ Ok (text whole, nowhere t.range (last_text u us).range) ∷ [] =
    given-text whole (nowhere t.range (last_text u us).range) (longer t.bytes (flat_map (λ x. x.bytes) (u ∷ us)) a.0.0)
    in
    subst (λ items. IsSameHtml past (flat_map item_events (items ++ flat_map (run_items nowhere) rs))
    (text t.bytes ∷ (map (λ x. text x.bytes) (u ∷ us) ++ rest))) (sym item)
    (same-trans past (text whole ∷ given) (text whole ∷ rest)
    (text t.bytes ∷ (map (λ x. text x.bytes) (u ∷ us) ++ rest)) one
    (same-sym past (text t.bytes ∷ (map (λ x. text x.bytes) (u ∷ us) ++ rest)) (text whole ∷ rest) all))

-- a Text before runs
full-text : (t : PlacedText U) (rs : List (Run U)) → 0 < length t.bytes → AllByRecursion IsFullRun rs
    → AllByRecursion IsFullRun (before_runs (text_item t) (Some t) rs)
full-text t [] h a = ((h, tt), tt)
full-text t (alone x ∷ rs) h a = ((h, tt), a)
full-text t (texts u us ∷ rs) h a = ((h, a.0), a.1)

events-text : (t : PlacedText U) (rs : List (Run U)) → flat_map run_events (before_runs (text_item t) (Some t) rs)
    ≡ text t.bytes ∷ flat_map run_events rs
events-text t [] = refl
events-text t (alone x ∷ rs) = refl
events-text t (texts u us ∷ rs) = refl

-- the runs of events hold those events, and no empty Text where there is none
pub runs_of_events : (events : List EventView) → flat_map run_events (runs (map event_item events)) ≡ events
runs_of_events [] = refl
runs_of_events (text t ∷ es) = events-text (record { bytes = t; range = tt }) (runs (map event_item es))
    ∙ ap (λ xs. text t ∷ xs) (runs_of_events es)
runs_of_events (start o ∷ es) = ap (λ xs. start o ∷ xs) (runs_of_events es)
runs_of_events (end c ∷ es) = ap (λ xs. end c ∷ xs) (runs_of_events es)
runs_of_events (code t ∷ es) = ap (λ xs. code t ∷ xs) (runs_of_events es)
runs_of_events (inline_math t ∷ es) = ap (λ xs. inline_math t ∷ xs) (runs_of_events es)
runs_of_events (display_math t ∷ es) = ap (λ xs. display_math t ∷ xs) (runs_of_events es)
runs_of_events (html t ∷ es) = ap (λ xs. html t ∷ xs) (runs_of_events es)
runs_of_events (inline_html t ∷ es) = ap (λ xs. inline_html t ∷ xs) (runs_of_events es)
runs_of_events (footnote_reference n ∷ es) = ap (λ xs. footnote_reference n ∷ xs) (runs_of_events es)
runs_of_events (soft_break ∷ es) = ap (λ xs. soft_break ∷ xs) (runs_of_events es)
runs_of_events (hard_break ∷ es) = ap (λ xs. hard_break ∷ xs) (runs_of_events es)
runs_of_events (rule ∷ es) = ap (λ xs. rule ∷ xs) (runs_of_events es)
runs_of_events (task_list_marker b ∷ es) = ap (λ xs. task_list_marker b ∷ xs) (runs_of_events es)

pub full_runs : (events : List EventView) → AllByRecursion IsNoEmptyText events
    → AllByRecursion IsFullRun (runs (map event_item events))
full_runs [] a = tt
full_runs (text [] ∷ es) a = absurd a.0
full_runs (text (b ∷ bs) ∷ es) a = full-text (record { bytes = b ∷ bs; range = tt }) (runs (map event_item es))
    (omega arith)
    (full_runs es a.1)
full_runs (start o ∷ es) a = (tt, full_runs es a.1)
full_runs (end c ∷ es) a = (tt, full_runs es a.1)
full_runs (code t ∷ es) a = (tt, full_runs es a.1)
full_runs (inline_math t ∷ es) a = (tt, full_runs es a.1)
full_runs (display_math t ∷ es) a = (tt, full_runs es a.1)
full_runs (html t ∷ es) a = (tt, full_runs es a.1)
full_runs (inline_html t ∷ es) a = (tt, full_runs es a.1)
full_runs (footnote_reference n ∷ es) a = (tt, full_runs es a.1)
full_runs (soft_break ∷ es) a = (tt, full_runs es a.1)
full_runs (hard_break ∷ es) a = (tt, full_runs es a.1)
full_runs (rule ∷ es) a = (tt, full_runs es a.1)
full_runs (task_list_marker b ∷ es) a = (tt, full_runs es a.1)

-- merging keeps the HTML where no Text is empty
pub merged_html : (events : List EventView) → AllByRecursion IsNoEmptyText events → html_of (merged_events events)
    ≡ html_of events
merged_html events a =
    let rs = runs (map event_item events) in
    let same = subst (λ es. IsSameHtml (past_of []) (merged_events events) es) (runs_of_events events)
    (same-runs rs (past_of []) (full_runs events a)) in
    html-forwards (merged_events events)
    ∙ (ap (λ b. b ++ closing (past_through (past_of []) (merged_events events)).open_image) same.bytes
    ∙ (ap (λ p. bytes_from (past_of []) events ++ closing p.open_image) same.told
    ∙ sym (html-forwards events)))
