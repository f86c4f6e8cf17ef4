-- The HTML of safe events is safe: event by event, outside images and inside them.
use Rattle.std.proofs.Common.{◌≡◌, ◌++◌, ◌+◌, ℕ, zero, suc, Bool, true, false, List, [], ◌∷◌, map, reverse, refl, sym}
use Rattle.std.proofs.Common.{ap, ◌∙◌, append_assoc, append-nil, codes, Option, Some, None, subst}
use Rattle.std.specs.List.{list_all}
use Rattle.std.specs.Fmt.{decimal}
use Rattle.std.proofs.lemmas.List.{reverse-append, map-append}
use Rattle.markdown_base.specs.declared.tag.LinkType.{LinkType}
use Rattle.markdown_base.specs.Event as event
use Rattle.markdown_base.specs.Event.{EventView, TagView, start, end, text, code, inline_math, display_math, html}
use Rattle.markdown_base.specs.Event.{inline_html, footnote_reference, soft_break, hard_break, rule, task_list_marker}
use Rattle.markdown_out.specs.AltText.{alt_parts}
use Rattle.markdown_out.specs.ByteLists.{joined}
use Rattle.markdown_out.specs.Escapes.{attribute_escaped, destination_escaped}
use Rattle.markdown_out.specs.EventHtml.{inside_bytes, bytes_by_image, bytes_before_by, html_by, open_html_by}
use Rattle.markdown_out.specs.EventHtml.{bytes_after_by, closing_after, past_by, closing as closing_of}
use Rattle.markdown_out.specs.LookBacks.{Past, OpenImageView, image_after, image_before, place, told_by, head_after}
use Rattle.markdown_out.specs.LookBacks.{unless_inside}
use Rattle.markdown_out.specs.TagHtml.{image_parts, image_end}
use Rattle.markdown_out.specs.declared.html.rules.HtmlRules.{HtmlRules}
use Rattle.markdown_safe.specs.SafeHtml.{by_itself, is_in_value, void_tag, IsSafeHtml, IsStartOfSafeHtml}
use Rattle.markdown_safe.specs.SafeEvents.{safe_block_html, safe_destination, safe_event, safe_inline_html, safe_name}
use Rattle.markdown_safe.specs.SafeEvents.{safe_tag}
use Rattle.markdown_safe.specs.SafeUrl.{image_schemes}
use Rattle.markdown_safe.proofs.RawEventsLemmas.{block_html_cases, inline_html_cases}
use Rattle.markdown_safe.proofs.SafeHtmlLemmas.{of_pieces, both, IsValue, value-append, Turn, IsMarkup, markup_safe}
use Rattle.markdown_safe.proofs.SafeHtmlLemmas.{value-empty, value-escaped, value-plain}
use Rattle.markdown_safe.proofs.SafeTagsLemmas.{two, three, IsUrlValue, url_value, number_value, event_turns}
use Rattle.markdown_safe.proofs.SafeTagsLemmas.{start_safe, start_turns, other_safe}

-- these bytes end in an image whose alt text is being written
record IsOpenImage (bytes : List ℕ) (turns : List Turn) : Type 0 where
  pub before : List ℕ
  pub url : List ℕ
  pub alt : List ℕ
  pub alt_read : List ℕ
  pub are : bytes ≡ before ++ (codes "<img src=\"" ++ (url ++ (codes "\" alt=\"" ++ alt)))
  pub safe : IsMarkup before turns
  pub is_url : IsUrlValue image_schemes url
  pub is_alt : IsValue alt alt_read

-- what may be written next
abbrev StandsAt : Option OpenImageView → List ℕ → List Turn → Type 0
StandsAt None bytes turns = IsMarkup bytes turns
StandsAt (Some i) bytes turns = IsOpenImage bytes turns

image_opens : {turns : List Turn} (kind : LinkType) (bytes destination : List ℕ) → IsMarkup bytes turns
    → IsOpenImage (bytes ++ joined (image_parts (safe_destination kind image_schemes destination))) turns
image_opens kind bytes destination safe = record {
  before = bytes;
  url = destination_escaped (safe_destination kind image_schemes destination);
  alt = [];
  alt_read = [];
  are = refl;
  safe = safe;
  is_url = url_value kind image_schemes destination;
  is_alt = value-empty;
}

image_goes_on : {turns : List Turn} (bytes more read : List ℕ) → IsOpenImage bytes turns → IsValue more read
    → IsOpenImage (bytes ++ more) turns
image_goes_on bytes more read o v = record {
  before = o.before;
  url = o.url;
  alt = o.alt ++ more;
  alt_read = o.alt_read ++ read;
  are = rw o.are (simp append_assoc);
  safe = o.safe;
  is_url = o.is_url;
  is_alt = value-append o.alt more o.alt_read read o.is_alt v;
}

-- an image's tag does nothing
ended : {turns : List Turn} {whole : List ℕ} (bytes more : List ℕ) → whole ≡ bytes ++ more
    → IsMarkup whole (turns ++ []) → IsMarkup (bytes ++ more) turns
ended {turns} bytes more e m = subst (λ ts. IsMarkup (bytes ++ more) ts) (append-nil turns)
    (subst (λ b. IsMarkup b (turns ++ [])) e m)

image_closes : {turns : List Turn} (bytes title : List ℕ) → IsOpenImage bytes turns
    → IsMarkup (bytes ++ image_end title) turns
image_closes {turns} bytes [] o =
    let tag = two (λ given. void_tag (codes "img") given (codes " />")) (codes "img") (codes "src") (codes "alt")
    (codes " />")
    o.url o.is_url.read o.alt o.alt_read [] o.is_url.value o.is_alt (λ given. refl)
    (rw (o.is_url.value.safe, o.is_url.value.means, o.is_url.url, o.is_alt.safe) refl) (of_pieces [] refl) in
    let whole = both o.before _ o.safe tag in
    ended bytes (image_end []) (rw o.are (simp append_assoc)) whole
image_closes {turns} bytes (b ∷ title) o =
    let t = value-escaped (b ∷ title) in
    let tag = three (λ given. void_tag (codes "img") given (codes " />")) (codes "img") (codes "src") (codes "alt")
    (codes "title") (codes " />") o.url o.is_url.read o.alt
    o.alt_read _ (b ∷ title) [] o.is_url.value o.is_alt t (λ given. refl)
    (rw (o.is_url.value.safe, o.is_url.value.means, o.is_url.url, o.is_alt.safe, t.safe) refl) (of_pieces [] refl) in
    let whole = both o.before _ o.safe tag in
    ended bytes (image_end (b ∷ title)) (rw o.are (simp append_assoc)) whole

-- what an event adds to the alt text is a value
record IsSomeValue (bytes : List ℕ) : Type 0 where
  pub read : List ℕ
  pub value : IsValue bytes read

between : (a b c : List ℕ) → list_all (λ x. is_in_value (by_itself x)) a ≡ true
    → list_all (λ x. is_in_value (by_itself x)) c ≡ true → IsSomeValue b
    → IsSomeValue (a ++ (b ++ c))
between a b c h k v = record {
  read = a ++ (v.read ++ c);
  value = value-append a (b ++ c) a (v.read ++ c) (value-plain a h)
      (value-append b c v.read c v.value (value-plain c k));
}

some_escaped : (t : List ℕ) → IsSomeValue (attribute_escaped t)
some_escaped t = record { read = t; value = value-escaped t }

some_plain : (t : List ℕ) → list_all (λ x. is_in_value (by_itself x)) t ≡ true → IsSomeValue t
some_plain t h = record { read = t; value = value-plain t h }

some_number : (n : ℕ) → IsSomeValue (decimal n)
some_number n = record { read = decimal n; value = number_value n }

-- HTML of HTML blocks, and inline HTML
html_value : (past : Past) (t : List ℕ) → IsSomeValue (joined (alt_parts past (safe_block_html t)))
html_value past t = block_html_cases (λ made. IsSomeValue (joined (alt_parts past made))) t
    (some_plain [] refl) (some_plain (codes " ") refl) (some_plain (codes " ") refl) some_escaped

inline_html_value : (past : Past) (t : List ℕ) → IsSomeValue (joined (alt_parts past (safe_inline_html t)))
inline_html_value past t = inline_html_cases (λ made. IsSomeValue (joined (alt_parts past made))) t
    (some_escaped []) (some_plain (codes " ") refl) (some_escaped (codes "<wbr />")) some_escaped

-- such an event opens and closes no image, and inside one it adds its part of the alt text
record IsNoTag (e : EventView) : Type 0 where
  pub stays : (image : Option OpenImageView) → image_after image e ≡ image
  pub adds : (past : Past) (starts : ℕ) (title : List ℕ) → inside_bytes past starts title e ≡ joined (alt_parts past e)

no_tag : (e : EventView) → image_after None e ≡ None
    → ((i : OpenImageView) → image_after (Some i) e ≡ Some i)
    → ((past : Past) (title : List ℕ) → inside_bytes past zero title e ≡ joined (alt_parts past e))
    → ((past : Past) (n : ℕ) (title : List ℕ) → inside_bytes past (suc n) title e ≡ joined (alt_parts past e))
    → IsNoTag e
no_tag e none some first further = record {
  stays = λ image. by_image image;
  adds = λ past starts title. by_starts past starts title;
}
  where
    by_image : (image : Option OpenImageView) → image_after image e ≡ image
    by_image None = none
    by_image (Some i) = some i

    by_starts : (past : Past) (starts : ℕ) (title : List ℕ)
        → inside_bytes past starts title e ≡ joined (alt_parts past e)
    by_starts past zero title = first past title
    by_starts past (suc n) title = further past n title

html_no_tag : (t : List ℕ) → IsNoTag (safe_block_html t)
html_no_tag t = block_html_cases IsNoTag t
    (no_tag (html []) refl (λ i. refl) (λ past title. refl) (λ past n title. refl))
    (no_tag rule refl (λ i. refl) (λ past title. refl) (λ past n title. refl))
    (no_tag hard_break refl (λ i. refl) (λ past title. refl) (λ past n title. refl))
    (λ t. no_tag (text t) refl (λ i. refl) (λ past title. refl) (λ past n title. refl))

inline_html_no_tag : (t : List ℕ) → IsNoTag (safe_inline_html t)
inline_html_no_tag t = inline_html_cases IsNoTag t
    (no_tag (inline_html []) refl (λ i. refl) (λ past title. refl) (λ past n title. refl))
    (no_tag hard_break refl (λ i. refl) (λ past title. refl) (λ past n title. refl))
    (no_tag (inline_html (codes "<wbr />")) refl (λ i. refl) (λ past title. refl) (λ past n title. refl))
    (λ t. no_tag (text t) refl (λ i. refl) (λ past title. refl) (λ past n title. refl))

-- what the tags do that an event writes: nothing inside an image
abbrev pub turns_by_image : Option OpenImageView → (in_head : Bool) → EventView → List Turn
turns_by_image None head e = event_turns head e
turns_by_image (Some i) head e = []

-- what the tags do that these events write, of which the latest is first
abbrev pub turns_before : List EventView → List Turn
turns_before [] = []
turns_before (e ∷ before) = turns_before before
    ++ turns_by_image (image_before before) (told_by head_after true before) e

-- events that are made safe each by itself, and written by these rules
module _ (form : HtmlRules) (prefix : List ℕ) where
  alt_value : (past : Past) (e : EventView) → IsSomeValue (joined (alt_parts past (safe_event prefix e)))
  alt_value past (start tag) = some_plain [] refl
  alt_value past (end tag) = some_plain [] refl
  alt_value past (text t) = some_escaped t
  alt_value past (code t) = some_escaped t
  alt_value past (inline_math t) = between (codes "$") (attribute_escaped t) (codes "$") refl refl (some_escaped t)
  alt_value past (display_math t) = between (codes "$$") (attribute_escaped t) (codes "$$") refl refl (some_escaped t)
  alt_value past (html t) = html_value past t
  alt_value past (inline_html t) = inline_html_value past t
  alt_value past (footnote_reference name) =
      between (codes "[") _ (codes "]") refl refl (some_number (place (safe_name prefix name) past.names + 1))
  alt_value past soft_break = some_plain (codes " ") refl
  alt_value past hard_break = some_plain (codes " ") refl
  alt_value past rule = some_plain (codes " ") refl
  alt_value past (task_list_marker true) = some_plain (codes "[x]") refl
  alt_value past (task_list_marker false) = some_plain (codes "[ ]") refl

  -- one more event inside an image
  abbrev ImageSteps : Past → ℕ → List ℕ → EventView → Type 0
  ImageSteps past starts title e = (bytes : List ℕ) (turns : List Turn) → IsOpenImage bytes turns
      → StandsAt (image_after (Some (record { starts = starts; title = title })) (safe_event prefix e))
      (bytes ++ inside_bytes past starts title (safe_event prefix e)) turns

  nothing_more : {turns : List Turn} (bytes : List ℕ) → IsOpenImage bytes turns → IsOpenImage (bytes ++ []) turns
  nothing_more bytes o = image_goes_on bytes [] [] o value-empty

  -- by an event that is no tag
  adds_part : (past : Past) (starts : ℕ) (title : List ℕ) (e : EventView) → IsNoTag (safe_event prefix e)
      → IsSomeValue (joined (alt_parts past (safe_event prefix e))) → ImageSteps past starts title e
  adds_part past starts title e is v bytes turns o =
      rw (is.stays (Some (record { starts = starts; title = title })), is.adds past starts title)
      (image_goes_on bytes _ v.read o v.value)

  inside : (past : Past) (starts : ℕ) (title : List ℕ) (e : EventView) → ImageSteps past starts title e
  inside past starts title (html t) bytes turns o =
      adds_part past starts title (html t) (html_no_tag t) (html_value past t) bytes turns o
  inside past starts title (inline_html t) bytes turns o =
      adds_part past starts title (inline_html t) (inline_html_no_tag t) (inline_html_value past t) bytes turns o
  inside past zero title (start tag) bytes turns o = nothing_more bytes o
  inside past (suc n) title (start tag) bytes turns o = nothing_more bytes o
  inside past zero title (end tag) bytes turns o = image_closes bytes title o
  inside past (suc n) title (end tag) bytes turns o = nothing_more bytes o
  inside past zero title e bytes turns o = let v = alt_value past e in image_goes_on bytes _ v.read o v.value
  inside past (suc n) title e bytes turns o = let v = alt_value past e in image_goes_on bytes _ v.read o v.value

  -- no more turns
  same_turns : (image : Option OpenImageView) (bytes : List ℕ) (turns : List Turn) → StandsAt image bytes turns
      → StandsAt image bytes (turns ++ [])
  same_turns image bytes turns s = subst (λ ts. StandsAt image bytes ts) (sym (append-nil turns)) s

  -- one more event
  step : (image : Option OpenImageView) (past : Past) (e : EventView) (bytes : List ℕ) (turns : List Turn)
      → StandsAt image bytes turns
      → StandsAt (image_after image (safe_event prefix e)) (bytes ++ bytes_by_image image past (safe_event prefix e))
      (turns ++ turns_by_image image past.in_head (safe_event prefix e))
  step None past (start (event.image i)) bytes turns s =
      same_turns (image_after None (safe_event prefix (start (event.image i)))) _ turns
      (image_opens i.kind bytes i.destination s)
  step None past (start tag) bytes turns s = both bytes _ s (start_safe prefix past tag)
  step None past (html t) bytes turns s =
      rw ((html_no_tag t).stays None) (both bytes _ s (other_safe prefix past (html t)))
  step None past (inline_html t) bytes turns s =
      rw ((inline_html_no_tag t).stays None) (both bytes _ s (other_safe prefix past (inline_html t)))
  step None past e bytes turns s = both bytes _ s (other_safe prefix past e)
  step (Some i) past e bytes turns s =
      same_turns (image_after (Some i) (safe_event prefix e)) _ turns (inside past i.starts i.title e bytes turns s)

  -- event by event, the latest first
  stands : (before : List EventView)
      → StandsAt (image_before (map (safe_event prefix) before)) (bytes_before_by form (map (safe_event prefix) before))
      (turns_before (map (safe_event prefix) before))
  stands [] = of_pieces [] refl
  stands (e ∷ before) = step (image_before (map (safe_event prefix) before))
      (past_by form (map (safe_event prefix) before)) e (bytes_before_by form (map (safe_event prefix) before))
      (turns_before (map (safe_event prefix) before)) (stands before)

  finish : (image : Option OpenImageView) (bytes : List ℕ) (turns : List Turn) → StandsAt image bytes turns
      → IsMarkup (bytes ++ closing_of image) turns
  finish None bytes turns s =
      subst (λ b. IsMarkup b turns) (sym (append-nil bytes)) s
  finish (Some i) bytes turns s = image_closes bytes i.title s

  -- what an event does to images, to tables and by its tags stays when it is made safe
  same_image : (image : Option OpenImageView) (e : EventView)
      → image_after image (safe_event prefix e) ≡ image_after image e
  same_image image (html t) = (html_no_tag t).stays image ∙ by_image image
    where
      by_image : (image : Option OpenImageView) → image ≡ image_after image (html t)
      by_image None = refl
      by_image (Some i) = refl
  same_image image (inline_html t) = (inline_html_no_tag t).stays image ∙ by_image image
    where
      by_image : (image : Option OpenImageView) → image ≡ image_after image (inline_html t)
      by_image None = refl
      by_image (Some i) = refl
  same_image None (start tag) = by_tag tag
    where
      by_tag : (tag : TagView) → image_after None (start (safe_tag prefix tag)) ≡ image_after None (start tag)
      by_tag (event.image i) = refl
      by_tag tag = refl
  same_image None e = refl
  same_image (Some i) (start tag) = refl
  same_image (Some i) e = refl

  same_head : (head : Bool) (e : EventView) → head_after head (safe_event prefix e) ≡ head_after head e
  same_head head (html t) = block_html_cases (λ made. head_after head made ≡ head) t refl refl refl (λ t. refl)
  same_head head (inline_html t) = inline_html_cases (λ made. head_after head made ≡ head) t refl refl refl (λ t. refl)
  same_head head (start tag) = by_tag tag
    where
      by_tag : (tag : TagView) → head_after head (start (safe_tag prefix tag)) ≡ head_after head (start tag)
      by_tag event.table_head = refl
      by_tag tag = refl
  same_head head e = refl

  same_tags : (head : Bool) (e : EventView) → event_turns head (safe_event prefix e) ≡ event_turns head e
  same_tags head (html t) = block_html_cases (λ made. event_turns head made ≡ []) t refl refl refl (λ t. refl)
  same_tags head (inline_html t) = inline_html_cases (λ made. event_turns head made ≡ []) t refl refl refl (λ t. refl)
  same_tags head (start tag) = by_tag tag
    where
      by_tag : (tag : TagView) → start_turns head (safe_tag prefix tag) ≡ start_turns head tag
      by_tag (event.list None) = refl
      by_tag (event.list (Some first)) = refl
      by_tag tag = refl
  same_tags head e = refl

  -- and so do they together
  record AreSame (before : List EventView) : Type 0 where
    image : image_before (map (safe_event prefix) before) ≡ image_before before
    head : told_by head_after true (map (safe_event prefix) before) ≡ told_by head_after true before
    turns : turns_before (map (safe_event prefix) before) ≡ turns_before before

  are_same : (before : List EventView) → AreSame before
  are_same [] = record { image = refl; head = refl; turns = refl }
  are_same (e ∷ before) =
      let s = are_same before in record {
        image = rw s.image (same_image (image_before before) e);
        head = rw (s.image, s.head) (by_image (image_before before) (told_by head_after true before));
        turns = rw (s.image, s.head, s.turns) (ap (λ ts. turns_before before ++ ts)
            (turns_by (image_before before) (told_by head_after true before)));
      }
    where
      by_image : (image : Option OpenImageView) (head : Bool)
          → unless_inside head_after image head (safe_event prefix e) ≡ unless_inside head_after image head e
      by_image None head = same_head head e
      by_image (Some i) head = refl

      turns_by : (image : Option OpenImageView) (head : Bool)
          → turns_by_image image head (safe_event prefix e) ≡ turns_by_image image head e
      turns_by None head = same_tags head e
      turns_by (Some i) head = refl

  reversed : (events : List EventView)
      → reverse (map (safe_event prefix) events) ≡ map (safe_event prefix) (reverse events)
  reversed [] = refl
  reversed (e ∷ events) = reverse-append (safe_event prefix e ∷ []) (map (safe_event prefix) events)
      ∙ (ap (λ l. l ++ safe_event prefix e ∷ []) (reversed events)
      ∙ (sym (map-append (safe_event prefix) (reverse events) (e ∷ []))
      ∙ ap (map (safe_event prefix)) (sym (reverse-append (e ∷ []) events))))

  -- the HTML of events that are made safe is safe, and its tags do what those of the events do
  pub html_is_markup : (events : List EventView)
      → IsMarkup (html_by form (map (safe_event prefix) events)) (turns_before (reverse events))
  html_is_markup events =
      rw (reversed events, ← (are_same (reverse events)).turns)
      (finish (image_before (map (safe_event prefix) (reverse events)))
      (bytes_before_by form (map (safe_event prefix) (reverse events))) _ (stands (reverse events)))

  pub made_is_safe : (events : List EventView) → IsSafeHtml (html_by form (map (safe_event prefix) events))
  made_is_safe events = markup_safe (html_by form (map (safe_event prefix) events)) (html_is_markup events)

-- of events whose HTML is safe
module _ (form : HtmlRules) (events : List EventView) where
  -- the open HTML is the start of it
  pub open_is_safe : IsSafeHtml (html_by form events) → IsStartOfSafeHtml (open_html_by form events)
  open_is_safe safe = record { missing = closing_after events; safe = safe }

  -- and where an image is closed only in part
  pub cut_at_end_is_safe : (prefix missing : List ℕ) → prefix ++ missing ≡ closing_after events
      → IsSafeHtml (html_by form events) → IsStartOfSafeHtml (open_html_by form events ++ prefix)
  cut_at_end_is_safe prefix missing whole safe = record {
    missing = missing;
    safe = rw (append_assoc (open_html_by form events) prefix missing, whole) safe;
  }

  -- and what is written of the last of them only in part
  pub cut_is_safe : (last : EventView) (prefix missing : List ℕ) → prefix ++ missing ≡ bytes_after_by form events last
      → IsSafeHtml (html_by form (events ++ last ∷ [])) → IsStartOfSafeHtml (open_html_by form events ++ prefix)
  cut_is_safe last prefix missing whole safe = record {
    missing = missing ++ closing_after (events ++ last ∷ []);
    safe = subst IsSafeHtml (ap (λ l. l ++ closing_after (events ++ last ∷ []))
        (ap (bytes_before_by form) (reverse-append events (last ∷ []))
        ∙ ap (λ l. open_html_by form events ++ l) (sym whole))
        ∙ regroup (open_html_by form events) prefix missing (closing_after (events ++ last ∷ []))) safe;
  }
    where
      regroup : (a b c d : List ℕ) → (a ++ (b ++ c)) ++ d ≡ (a ++ b) ++ (c ++ d)
      regroup a b c d = simp append_assoc
