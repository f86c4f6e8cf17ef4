-- What is found at a `<` ends with `>`, and so between two characters; no open item has bytes both before and after its
-- end.
use Rattle.markdown_base.specs.declared.item.ItemBody.TheVariants as body
use Rattle.std.proofs.Common.{◌≡◌, ℕ, suc, ◌+◌, ◌-◌, ◌<◌, ◌≤◌, Bool, true, false, ◌==◌, ◌&&◌, ◌⊎◌, inl, inr, List, ◌∷◌}
use Rattle.std.proofs.Common.{Option, Some, None, length, take, drop, get_or, refl, sym, ap, ◌∙◌, subst, arith}
use Rattle.std.specs.Prelude.{IfSome, if◌then◌else◌, slice_index}
use Rattle.std.specs.Option.{option_map, option_or}
use Rattle.std.proofs.lemmas.Bool.{cases_lt, eqb-true}
use Rattle.std.proofs.lemmas.List.{drop-drop, get_or-drop, get_or_past, length-drop}
use Rattle.markdown_base.specs.Arena.{sibling_of}
use Rattle.markdown_base.specs.ArenaForest.{links_of, forest_at}
use Rattle.markdown_base.specs.BlockTree.{item_at}
use Rattle.markdown_base.specs.declared.item.Item.{Item}
use Rattle.markdown_base.specs.declared.node.Node.{Node}
use Rattle.markdown_base.proofs.ArenaForestLemmas.{opens}
use Rattle.markdown_document.specs.Origins.{IsSliceWithin}
use Rattle.markdown_document.specs.Places.{trees_from}
use Rattle.markdown_document.specs.PlacedNodes.{IsPlaced}
use Rattle.markdown_document.specs.Tables.{Tables}
use Rattle.markdown_spans.specs.AfterLess.{Markup, address_at, autolink, html_markup, declared_end, html_at, markup_at}
use Rattle.markdown_spans.specs.AfterLess.{unbroken}
use Rattle.markdown_spans.specs.Autolink.{begins_scheme, closed_uri, uri_length, uri_autolink}
use Rattle.markdown_spans.specs.EmailAutolink.{closed_address}
use Rattle.markdown_spans.specs.Finds.{end_of_markup}
use Rattle.markdown_spans.specs.declared.after_less.AutolinkKind.{AutolinkKind}
use Rattle.markdown_spans.specs.declared.after_less.AutolinkKind.TheVariants.{Uri, Email}
use Rattle.markdown_spans.proofs.AfterLessLemmas.{address_closed}
use Rattle.markdown_spans.proofs.SliceLemmas.{slice_between}
use Rattle.markdown_document.proofs.OriginLemmas.{slice_wider}
use Rattle.markdown_raw_html.specs.HtmlTag.{html_tag}
use Rattle.markdown_raw_html.specs.RawHtml.{cdata_section, comment, declaration, end_from, processing_instruction}
use Rattle.markdown_raw_html.specs.TagSource.{tag_at, tag_lengths, tag_of}
use Rattle.markdown_raw_html.specs.TagText.{source_after, text_in}
use Rattle.markdown_raw_html.proofs.RawHtmlLemmas.{EndsWith, comment-ends, cdata_section-ends, declaration-ends}
use Rattle.markdown_raw_html.proofs.RawHtmlLemmas.{processing_instruction-ends}
use Rattle.markdown_raw_html.proofs.TagSourceLemmas.{IsEnd, IsEnd-source_after, angle_bracket, Closes-html_tag}
use Rattle.markdown_raw_html.proofs.TagTextLemmas.{source_after-more, text_in-source_after}
use Rattle.markdown_resolver.specs.Chains.{CanResolve}
use Rattle.markdown_resolver.specs.Rewritten.{IsFoundAt}
use Rattle.markdown_resolver.proofs.GoesOnLemmas.{first_placed, none_cut}
use Rattle.markdown_resolver.proofs.UnreadLemmas.{first_cut, unmade_after}
use Rattle.markdown_resolver.specs.Unread.{IsUnread}

-- what begins at one byte offset of a text and ends at another has bytes, and `>` is the last
pub record EndsClosed (text : List ℕ) (start end : ℕ) : Type 0 where
  pub after : start < end
  pub within : end ≤ length text
  pub closed : get_or text (end - 1) 0 ≡ 62

-- a tag ends with `>` in its source
tag_closed : (skipped : List ℕ → Option ℕ) (text : List ℕ) (place n : ℕ) → place ≤ length text
    → html_tag (text_in skipped (drop place text)) ≡ Some n
    → EndsClosed text place (place + (length (drop place text) - length (source_after skipped n (drop place text))))
unfolding IsEnd
tag_closed skipped text place n within is =
    let source = drop place text in
    let read = text_in skipped source in
    let rest = source_after skipped n source in
    let closes : EndsWith 62 read n = rw is at (Closes-html_tag.is read) in
    let mid = source_after skipped (n - 1) source in
    let sum : n - 1 + 1 ≡ n = omega (arith, closes.some) in
    let of_mid = text_in-source_after skipped (n - 1) source in
    let some : 1 ≤ length (text_in skipped mid) = omega
    (arith, ap length of_mid, length-drop (n - 1) read, closes.within, closes.some) in
    let zero_more : n - 1 + 0 ≡ n - 1 = omega arith in
    let last : get_or (text_in skipped mid) 0 0 ≡ 62 =
    ap (λ bytes. get_or bytes 0 0) of_mid
    ∙ (get_or-drop (n - 1) read 0 0 ∙ (ap (λ i. get_or read i 0) zero_more ∙ closes.last)) in
    let after : source_after skipped 1 mid ≡ rest = source_after-more skipped (n - 1) 1 source
    ∙ ap (λ k. source_after skipped k source) sum
    in
    let split : mid ≡ 62 ∷ rest = angle_bracket skipped mid some last ∙ ap (λ bytes. 62 ∷ bytes) after in
    let end = IsEnd-source_after skipped (n - 1) source in
    let at_end : drop (place + end.0) text ≡ 62 ∷ rest = sym (drop-drop end.0 place text) ∙ (sym end.1 ∙ split) in
    let longer : length text - (place + end.0)
    ≡ 1 + length rest = omega (arith, ap length at_end, length-drop (place + end.0) text) in
    let here : place + end.0 + 0 ≡ place + end.0 = omega arith in
    let byte : get_or text (place + end.0) 0 ≡ 62 =
    ap (λ i. get_or text i 0) (sym here)
    ∙ (sym (get_or-drop (place + end.0) text 0 0) ∙ ap (λ bytes. get_or bytes 0 0) at_end) in
    let place_is : place + end.0 ≡ place + (length source - length rest) - 1 = omega
    (arith, longer, length-drop place text) in
    record {
      after = omega (arith, longer, length-drop place text);
      within = omega (arith, longer, length-drop place text);
      closed = sym (ap (λ i. get_or text i 0) place_is) ∙ byte;
    }

-- what is found of raw HTML, and its end
abbrev EndsAt : List ℕ → ℕ → Option (ℕ × Option (List ℕ)) → Type 0
EndsAt text start found = IfSome found (λ tag. EndsClosed text start tag.0)

tag_ends : (skipped : List ℕ → Option ℕ) (text : List ℕ) (place : ℕ) → place ≤ length text
    → EndsAt text place (tag_at skipped text place)
tag_ends skipped text place within = cases (html_tag (text_in skipped (drop place text))) refl
  where
    cases : (found : Option ℕ) → html_tag (text_in skipped (drop place text)) ≡ found → EndsAt text place (option_map
        (λ n. tag_of skipped place (drop place text) (tag_lengths skipped (drop place text) n)) found)
    cases None e = tt
    cases (Some n) e = tag_closed skipped text place n within e

scanned_ends : (scan : List ℕ → Option ℕ) (text : List ℕ) (start from : ℕ)
    → ((bytes : List ℕ) → IfSome (scan bytes) (EndsWith 62 bytes)) → start < from → from ≤ length text
    → EndsAt text start (unbroken (end_from scan text from))
scanned_ends scan text start from ends later within = cases (scan (drop from text)) (ends (drop from text))
  where
    cases : (found : Option ℕ) → IfSome found (EndsWith 62 (drop from text))
        → EndsAt text start (unbroken (option_map (λ n. from + n) found))
    cases None h = tt
    cases (Some n) h =
        let place : from + (n - 1) ≡ from + n - 1 = omega (arith, h.some) in
        record {
          after = omega (arith, later);
          within = omega (arith, h.within, length-drop from text, within);
          closed = ap (λ i. get_or text i 0) (sym place) ∙ sym (get_or-drop from text (n - 1) 0) ∙ h.last;
        }

first_ends : (text : List ℕ) (start : ℕ) (first other : Option ℕ) → EndsAt text start (unbroken first)
    → EndsAt text start (unbroken other) → EndsAt text start (unbroken (option_or first other))
first_ends text start None other h k = k
first_ends text start (Some n) other h k = h

-- a byte that is read there is one of the text
pub byte_there : (text : List ℕ) (at n : ℕ) → (get_or text at 0 == suc n) ≡ true → at < length text
byte_there text at n e = cases (cases_lt at (length text))
  where
    cases : (at < length text) ⊎ (length text ≤ at) → at < length text
    cases (inl h) = h
    cases (inr h) = absurd (omega (arith, get_or_past text at 0 h, eqb-true (get_or text at 0) (suc n) e))

-- raw HTML
html_ends : (skipped : List ℕ → Option ℕ) (text : List ℕ) (start at : ℕ) → start < at → at ≤ length text
    → EndsAt text start (html_at skipped text start at)
html_ends skipped text start at later within = by_byte (slice_index text at == 33) (slice_index text at == 63) refl refl
  where
    after_byte : start < at + 1
    after_byte = omega (arith, later)

    declared : (at + 1 ≤ length text) → EndsAt text start (unbroken (declared_end text (at + 1)))
    declared h =
        first_ends text start (end_from comment text (at + 1)) (option_or (end_from cdata_section text (at + 1))
        (end_from declaration text (at + 1))) (scanned_ends comment text start (at + 1) comment-ends after_byte h)
        (first_ends text start (end_from cdata_section text (at + 1)) (end_from declaration text (at + 1))
        (scanned_ends cdata_section text start (at + 1) cdata_section-ends after_byte h)
        (scanned_ends declaration text start (at + 1) declaration-ends after_byte h))

    by_byte : (is_declared is_instruction : Bool) → (slice_index text at == 33) ≡ is_declared
        → (slice_index text at == 63) ≡ is_instruction
        → EndsAt text start (if is_declared then unbroken (declared_end text (at + 1)) else if is_instruction
        then unbroken (end_from processing_instruction text (at + 1)) else tag_at skipped text start)
    by_byte true is_instruction e f = declared (omega (arith, byte_there text at 32 e))
    by_byte false true e f =
        let inside : at + 1 ≤ length text = omega (arith, byte_there text at 62 f) in
        scanned_ends processing_instruction text start (at + 1) processing_instruction-ends after_byte inside
    by_byte false false e f = tag_ends skipped text start (omega (arith, later, within))

-- an autolink
uri_ends : (text : List ℕ) (at : ℕ) → IfSome (uri_autolink text at) (λ found. EndsClosed text at found.0)
uri_ends text at = by_byte (begins_scheme (drop at text)) (slice_index (drop at text) (uri_length (drop at text)) == 62)
    refl
  where
    by_byte : (begins closes : Bool) → (slice_index (drop at text) (uri_length (drop at text)) == 62) ≡ closes
        → IfSome {T = ℕ × List ℕ} (option_map (λ n. (at + n + 1, take n (drop at text))) (if begins && closes
        then Some (uri_length (drop at text)) else None)) (λ found. EndsClosed text at found.0)
    by_byte false closes e = tt
    by_byte true false e = tt
    by_byte true true e =
        let n = uri_length (drop at text) in
        let place : at + n ≡ at + n + 1 - 1 = omega arith in
        record {
          after = omega arith;
          within = omega (arith, byte_there (drop at text) n 61 e, length-drop at text);
          closed = ap (λ i. get_or text i 0) (sym place)
              ∙ (sym (get_or-drop at text n 0) ∙ eqb-true (slice_index (drop at text) n) 62 e);
        }

-- the URI of an autolink is a slice of the text, before its end
slice_before : (text : List ℕ) (at : ℕ) (size : Option ℕ)
    → IfSome {T = ℕ × List ℕ} (option_map (λ n. (at + n + 1, take n (drop at text))) size)
    (λ found. IsSliceWithin text at found.0 found.1)
slice_before text at None = tt
slice_before text at (Some n) =
    let size : n ≡ at + n - at = omega arith in
    let bytes = take n (drop at text) in
    slice_wider text at (at + n) at (at + n + 1) bytes (omega arith) (omega arith)
    (slice_between text at (at + n) bytes (ap (λ k. take k (drop at text)) size))

pub uri_slice : (text : List ℕ) (at : ℕ) → IfSome (uri_autolink text at)
    (λ found. IsSliceWithin text at found.0 found.1)
uri_slice text at = slice_before text at (closed_uri (drop at text))

-- an autolink to an address
address_ends : (addresses : Bool) (text : List ℕ) (at : ℕ)
    → IfSome (address_at addresses text at) (λ found. EndsClosed text at found.0)
address_ends false text at = tt
address_ends true text at = by (closed_address (drop at text)) refl
  where
    by : (size : Option ℕ) → closed_address (drop at text) ≡ size
        → IfSome {T = ℕ × List ℕ} (option_map (λ n. (at + n + 1, take n (drop at text))) size)
        (λ found. EndsClosed text at found.0)
    by None e = tt
    by (Some n) e =
        let place : at + n ≡ at + n + 1 - 1 = omega arith in
        let closed = address_closed (drop at text) n e in
        record {
          after = omega arith;
          within = omega (arith, closed.0, length-drop at text);
          closed = ap (λ i. get_or text i 0) (sym place) ∙ (sym (get_or-drop at text n 0) ∙ closed.1);
        }

-- its address is a slice of the text, before its end
pub address_slice : (addresses : Bool) (text : List ℕ) (at : ℕ)
    → IfSome (address_at addresses text at) (λ found. IsSliceWithin text at found.0 found.1)
address_slice false text at = tt
address_slice true text at = slice_before text at (closed_address (drop at text))

-- an autolink has bytes after its `<`, of which its URI or its address is a slice
abbrev pub EndsPast : List ℕ → ℕ → Markup → Type 0
EndsPast text at (autolink kind end bytes) = (at < end) × IsSliceWithin text at end bytes
EndsPast text at (html_markup end bytes) = Unit {0}

pub record MarkupEnds (text : List ℕ) (start at : ℕ) (m : Markup) : Type 0 where
  pub ends : EndsClosed text start (end_of_markup m)
  pub address : EndsPast text at m

-- what is found from a `<` on ends so
pub markup_ends : (skipped : List ℕ → Option ℕ) (addresses : Bool) (text : List ℕ) (start at : ℕ) (m : Markup)
    → start < at → at ≤ length text → markup_at skipped addresses text start at ≡ Some m → MarkupEnds text start at m
unfolding markup_at
markup_ends skipped addresses text start at m later within e =
    subst (λ (o : Option Markup). IfSome o (MarkupEnds text start at)) e
    (first_of (uri_autolink text at) (address_at addresses text at) (html_at skipped text start at) (uri_ends text at)
    (uri_slice text at) (address_ends addresses text at) (address_slice addresses text at)
    (html_ends skipped text start at later within))
  where
    link_ends : (kind : AutolinkKind) (found : ℕ × List ℕ) → EndsClosed text at found.0
        → IsSliceWithin text at found.0 found.1 → MarkupEnds text start at (autolink kind found.0 found.1)
    link_ends kind found h u = record {
      ends = record { after = omega (arith, h.after, later); within = h.within; closed = h.closed };
      address = (h.after, u);
    }

    first_of : (uri address : Option (ℕ × List ℕ)) (tag : Option (ℕ × Option (List ℕ)))
        → IfSome uri (λ found. EndsClosed text at found.0) → IfSome uri (λ found. IsSliceWithin text at found.0 found.1)
        → IfSome address (λ found. EndsClosed text at found.0)
        → IfSome address (λ found. IsSliceWithin text at found.0 found.1)
        → EndsAt text start tag → IfSome (option_or (option_map (λ found. autolink Uri found.0 found.1) uri)
        (option_or (option_map (λ found. autolink Email found.0 found.1) address)
        (option_map (λ found. html_markup found.0 found.1) tag))) (MarkupEnds text start at)
    first_of (Some found) address tag h u i v k = link_ends Uri found h u
    first_of None (Some found) tag h u i v k = link_ends Email found i v
    first_of None None (Some found) h u i v k = record { ends = k; address = tt }
    first_of None None None h u i v k = tt

-- the node of a `<`, at which something was found that ends with `>`
pub found_at : (source : List ℕ) (tables : Tables) (nodes : List (Node Item)) (ix end : ℕ)
    → CanResolve source tables nodes (Some ix)
    → IsUnread (trees_from source tables nodes (Some ix)) → (item_at nodes ix).body ≡ body.MaybeHtml
    → get_or source (end - 1) 0 ≡ 62 → IsFoundAt source tables nodes ix end
found_at source tables nodes ix end ready unread is closed =
    let after = (opens (links_of nodes) (IsPlaced source tables nodes) ix ready.reaches).after in
    record {
      ready = ready;
      was_open = rw is refl;
      no_run = rw is refl;
      between = λ next e starts.
          let found = first_placed source tables nodes end next (forest_at (links_of nodes) (sibling_of nodes ix))
          after.each e in
          first_cut source tables nodes end next (forest_at (links_of nodes) (sibling_of nodes ix))
          (unmade_after ready (rw is refl) (rw is refl) unread) e
          (none_cut source tables nodes next end 62 found.0 (omega arith, omega arith) closed starts found.1);
    }
