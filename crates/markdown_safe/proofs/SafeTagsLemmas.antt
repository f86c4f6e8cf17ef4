-- What safe events write outside images is safe, with what its tags do: tag by tag.
use Rattle.std.proofs.Common.{◌≡◌, ◌++◌, ◌==◌, ◌&&◌, ◌+◌, ℕ, zero, suc, Bool, true, false, not, List, [], ◌∷◌, map}
use Rattle.std.proofs.Common.{refl, sym, ap, ◌∙◌, append_assoc, append-nil, codes, Option, Some, None, if◌then◌else◌}
use Rattle.std.proofs.Common.{take, arith}
use Rattle.std.specs.List.{flat_map, list_all, prefix_len, position_or_len}
use Rattle.std.specs.Char.{is_ascii_whitespace}
use Rattle.std.specs.Fmt.{decimal}
use Rattle.std.specs.Option.{option_map}
use Rattle.std.proofs.lemmas.Bool.{and_parts}
use Rattle.markdown_base.specs.Bytes.{number_sign, space}
use Rattle.markdown_base.specs.Event as event
use Rattle.markdown_base.specs.Event.{EventView, TagView, start, end, text, code, inline_math, display_math, html}
use Rattle.markdown_base.specs.Event.{inline_html, footnote_reference, soft_break, hard_break, rule, task_list_marker}
use Rattle.markdown_base.specs.declared.tag.Alignment.{Alignment}
use Rattle.markdown_base.specs.declared.tag.Alignment.TheVariants as align
use Rattle.markdown_base.specs.declared.tag.BlockQuoteKind.{BlockQuoteKind}
use Rattle.markdown_base.specs.declared.tag.BlockQuoteKind.TheVariants as quote
use Rattle.markdown_base.specs.declared.tag.HeadingLevel.{HeadingLevel}
use Rattle.markdown_base.specs.declared.tag.HeadingLevel.TheVariants as level
use Rattle.markdown_base.specs.declared.tag.LinkType.{LinkType}
use Rattle.markdown_base.specs.declared.tag.LinkType.TheVariants as kinds
use Rattle.markdown_base.specs.declared.tag.TagEnd.{TagEnd}
use Rattle.markdown_base.specs.declared.tag.TagEnd.TheVariants as tag_ends
use Rattle.markdown_out.specs.ByteLists.{joined}
use Rattle.markdown_out.specs.Escapes.{text_escaped, attribute_escaped, destination_escaped}
use Rattle.markdown_out.specs.EventHtml.{outside_parts}
use Rattle.markdown_out.specs.LookBacks.{Past, place}
use Rattle.markdown_out.specs.TagHtml.{new_line, heading_parts, quote_class, code_block_parts, cell_style, link_scheme}
use Rattle.markdown_out.specs.TagHtml.{leaves_site, link_parts, start_parts, end_parts, language, rel_attribute}
use Rattle.markdown_out.specs.TagHtml.{title_parts, level_digit, numbered_list_parts}
use Rattle.markdown_safe.specs.SafeUrl.{is_safe_url, link_schemes}
use Rattle.markdown_safe.specs.SafeHtml.{by_itself, character_bytes, Attribute, HtmlPiece, character, start_tag}
use Rattle.markdown_safe.specs.SafeHtml.{end_tag, bytes_of_piece, is_safe_piece, is_safe_class, tag_bytes, void_tag}
use Rattle.markdown_safe.specs.SafeEvents.{is_name, safe_destination, safe_name, safe_target, safe_info}
use Rattle.markdown_safe.specs.SafeEvents.{safe_link_destination, without_scheme, safe_block_html, safe_event}
use Rattle.markdown_safe.specs.SafeEvents.{safe_inline_html, safe_tag}
use Rattle.markdown_safe.proofs.RawEventsLemmas.{block_html_cases, inline_html_cases}
use Rattle.markdown_safe.proofs.SafeHtmlLemmas.{of_pieces, both, text_safe, attribute_safe, IsValue, value-append}
use Rattle.markdown_safe.proofs.SafeHtmlLemmas.{value-escaped, value-plain, digits_plain, decimal_digits, plain_safe}
use Rattle.markdown_safe.proofs.SafeHtmlLemmas.{destination-escaped, destination-safe, Turn, opens, closes, turns_of}
use Rattle.markdown_safe.proofs.SafeHtmlLemmas.{IsMarkup}

-- the elements of a heading and of a cell
abbrev pub level_name : HeadingLevel → List ℕ
level_name level.H1 = codes "h1"
level_name level.H2 = codes "h2"
level_name level.H3 = codes "h3"
level_name level.H4 = codes "h4"
level_name level.H5 = codes "h5"
level_name level.H6 = codes "h6"

abbrev pub cell_name : Bool → List ℕ
cell_name head = if head then codes "th" else codes "td"

-- what the tags do that a Start writes
abbrev pub start_turns : (in_head : Bool) → TagView → List Turn
start_turns head event.paragraph = opens (codes "p") ∷ []
start_turns head (event.heading h) = opens (level_name h.level) ∷ []
start_turns head (event.block_quote kind) = opens (codes "blockquote") ∷ []
start_turns head event.indented_code = opens (codes "pre") ∷ opens (codes "code") ∷ []
start_turns head (event.fenced_code info) = opens (codes "pre") ∷ opens (codes "code") ∷ []
start_turns head event.html_block = []
start_turns head (event.list None) = opens (codes "ul") ∷ []
start_turns head (event.list (Some first)) = opens (codes "ol") ∷ []
start_turns head event.list_item = opens (codes "li") ∷ []
start_turns head (event.footnote_definition name) =
    opens (codes "div") ∷ opens (codes "sup") ∷ closes (codes "sup") ∷ []
start_turns head event.definition_list = opens (codes "dl") ∷ []
start_turns head event.definition_list_title = opens (codes "dt") ∷ []
start_turns head event.definition_list_definition = opens (codes "dd") ∷ []
start_turns head (event.table alignments) = opens (codes "table") ∷ []
start_turns head event.table_head = opens (codes "thead") ∷ opens (codes "tr") ∷ []
start_turns head event.table_row = opens (codes "tr") ∷ []
start_turns head event.table_cell = opens (cell_name head) ∷ []
start_turns head event.emphasis = opens (codes "em") ∷ []
start_turns head event.strong = opens (codes "strong") ∷ []
start_turns head event.strikethrough = opens (codes "del") ∷ []
start_turns head event.superscript = opens (codes "sup") ∷ []
start_turns head event.subscript = opens (codes "sub") ∷ []
start_turns head (event.link l) = opens (codes "a") ∷ []
start_turns head (event.image i) = []
start_turns head (event.metadata_block kind) = []

-- what the tags do that an End writes
abbrev pub end_turns : (in_head : Bool) → TagEnd → List Turn
end_turns head tag_ends.Paragraph = closes (codes "p") ∷ []
end_turns head (tag_ends.Heading l) = closes (level_name l) ∷ []
end_turns head (tag_ends.BlockQuote kind) = closes (codes "blockquote") ∷ []
end_turns head tag_ends.CodeBlock = closes (codes "code") ∷ closes (codes "pre") ∷ []
end_turns head tag_ends.HtmlBlock = []
end_turns head (tag_ends.List true) = closes (codes "ol") ∷ []
end_turns head (tag_ends.List false) = closes (codes "ul") ∷ []
end_turns head tag_ends.Item = closes (codes "li") ∷ []
end_turns head tag_ends.FootnoteDefinition = closes (codes "div") ∷ []
end_turns head tag_ends.DefinitionList = closes (codes "dl") ∷ []
end_turns head tag_ends.DefinitionListTitle = closes (codes "dt") ∷ []
end_turns head tag_ends.DefinitionListDefinition = closes (codes "dd") ∷ []
end_turns head tag_ends.Table = closes (codes "tbody") ∷ closes (codes "table") ∷ []
end_turns head tag_ends.TableHead = closes (codes "tr") ∷ closes (codes "thead") ∷ opens (codes "tbody") ∷ []
end_turns head tag_ends.TableRow = closes (codes "tr") ∷ []
end_turns head tag_ends.TableCell = closes (cell_name head) ∷ []
end_turns head tag_ends.Emphasis = closes (codes "em") ∷ []
end_turns head tag_ends.Strong = closes (codes "strong") ∷ []
end_turns head tag_ends.Strikethrough = closes (codes "del") ∷ []
end_turns head tag_ends.Superscript = closes (codes "sup") ∷ []
end_turns head tag_ends.Subscript = closes (codes "sub") ∷ []
end_turns head tag_ends.Link = closes (codes "a") ∷ []
end_turns head tag_ends.Image = []
end_turns head (tag_ends.MetadataBlock kind) = []

-- what the tags do that an event writes
abbrev pub event_turns : (in_head : Bool) → EventView → List Turn
event_turns head (start tag) = start_turns head tag
event_turns head (end tag) = end_turns head tag
event_turns head (code t) = opens (codes "code") ∷ closes (codes "code") ∷ []
event_turns head (inline_math t) = opens (codes "span") ∷ closes (codes "span") ∷ []
event_turns head (display_math t) = opens (codes "span") ∷ closes (codes "span") ∷ []
event_turns head (footnote_reference name) =
    opens (codes "sup") ∷ opens (codes "a") ∷ closes (codes "a") ∷ closes (codes "sup") ∷ []
event_turns head e = []

-- a tag without attributes, and the end of a line
abbrev bare : List ℕ → HtmlPiece
bare name = start_tag name []

abbrev newline : HtmlPiece
newline = character (by_itself 10)

-- after a newline where the line is not fresh
line : {ts : List Turn} (fresh : Bool) (bytes : List ℕ) → IsMarkup bytes ts → IsMarkup (new_line fresh ++ bytes) ts
line true bytes safe = safe
line false bytes safe = both (codes "\n") bytes (of_pieces (newline ∷ []) refl) safe

-- three parts
around : {ts us vs : List Turn} (a b c : List ℕ) → IsMarkup a ts → IsMarkup b us → IsMarkup c vs
    → IsMarkup (a ++ (b ++ c)) (ts ++ (us ++ vs))
around a b c x y z = both a (b ++ c) x (both b c y z)

-- an attribute with a value
abbrev with_value : {bytes read : List ℕ} → List ℕ → IsValue bytes read → Attribute
with_value name v = record { name = name; value = v.value }

-- a start tag with one attribute, and what follows it
one : {ts : List Turn} (name first bytes read rest : List ℕ) (v : IsValue bytes read)
    → is_safe_piece (start_tag name (with_value first v ∷ [])) ≡ true → IsMarkup rest ts
    → IsMarkup (codes "<" ++ (name ++ (codes " " ++ (first ++ (codes "=\"" ++ (bytes ++ (codes "\">" ++ rest)))))))
    (opens name ∷ ts)
one name first bytes read rest v safe after = record {
  pieces = start_tag name (with_value first v ∷ []) ∷ after.pieces;
  are = rw (v.are, after.are) (simp append_assoc);
  safe = rw (safe, after.safe) refl;
  does = rw after.does refl;
}

-- an attribute, and what follows it
attribute_then : (name value rest : List ℕ) → (codes " " ++ (name ++ (codes "=\"" ++ (value ++ codes "\"")))) ++ rest
    ≡ codes " " ++ (name ++ (codes "=\"" ++ (value ++ (codes "\"" ++ rest))))
attribute_then name value rest = ap (λ l. codes " " ++ l) (append_assoc name (codes "=\"" ++ (value ++ codes "\"")) rest
    ∙ ap (λ l. name ++ (codes "=\"" ++ l)) (append_assoc value (codes "\"") rest))

flat_two : (name a b ends rest : List ℕ)
    → (name ++ ((a ++ (b ++ [])) ++ ends)) ++ rest ≡ name ++ (a ++ (b ++ (ends ++ rest)))
flat_two name a b ends rest = simp (append_assoc, append-nil)

flat_three : (name a b c ends rest : List ℕ)
    → (name ++ ((a ++ (b ++ (c ++ []))) ++ ends)) ++ rest ≡ name ++ (a ++ (b ++ (c ++ (ends ++ rest))))
flat_three name a b c ends rest = simp (append_assoc, append-nil)

-- the bytes of an attribute
abbrev quoted : List ℕ → List ℕ → List ℕ
quoted name value = codes " " ++ (name ++ (codes "=\"" ++ (value ++ codes "\"")))

-- and of an attribute before others
abbrev quoted_then : List ℕ → List ℕ → List ℕ → List ℕ
quoted_then name value rest = codes " " ++ (name ++ (codes "=\"" ++ (value ++ (codes "\"" ++ rest))))

-- a tag with two attributes, and what follows it
pub two : {ts : List Turn} (tag : List Attribute → HtmlPiece)
    (name first second ends bytes read bytes' read' rest : List ℕ) (v : IsValue bytes read) (w : IsValue bytes' read')
    → ((given : List Attribute) → bytes_of_piece (tag given) ≡ tag_bytes name given ends)
    → is_safe_piece (tag (with_value first v ∷ with_value second w ∷ [])) ≡ true → IsMarkup rest ts
    → IsMarkup (codes "<" ++ (name ++ (codes " " ++ (first ++ (codes "=\"" ++ (bytes ++ (codes "\"" ++ (codes " "
    ++ (second ++ (codes "=\"" ++ (bytes' ++ (codes "\"" ++ (ends ++ rest)))))))))))))
    (turns_of (tag (with_value first v ∷ with_value second w ∷ [])) ++ ts)
two tag name first second ends bytes read bytes' read' rest v w writes safe after = record {
  pieces = tag (with_value first v ∷ with_value second w ∷ []) ∷ after.pieces;
  are =
      let x = flat_map character_bytes v.value in
      let y = flat_map character_bytes w.value in
      let end = flat_map bytes_of_piece after.pieces in
      rw (v.are, w.are, after.are) (ap (λ l. codes "<" ++ l)
      (sym (flat_two name (quoted first x) (quoted second y) ends end
      ∙ ap (λ l. name ++ l) (attribute_then first x (quoted second y ++ (ends ++ end))
      ∙ ap (λ l. quoted_then first x l) (attribute_then second y (ends ++ end)))))
      ∙ ap (λ l. l ++ end) (sym (writes (with_value first v ∷ with_value second w ∷ []))));
  safe = rw (safe, after.safe) refl;
  does = rw after.does refl;
}

-- a tag with three attributes, and what follows it
pub three : {ts : List Turn} (tag : List Attribute → HtmlPiece)
    (name first second third ends bytes read bytes' read' bytes'' read'' rest : List ℕ) (v : IsValue bytes read)
    (w : IsValue bytes' read') (x : IsValue bytes'' read'')
    → ((given : List Attribute) → bytes_of_piece (tag given) ≡ tag_bytes name given ends)
    → is_safe_piece (tag (with_value first v ∷ with_value second w ∷ with_value third x ∷ [])) ≡ true
    → IsMarkup rest ts
    → IsMarkup (codes "<" ++ (name ++ (codes " " ++ (first ++ (codes "=\"" ++ (bytes ++ (codes "\"" ++ (codes " "
    ++ (second ++ (codes "=\"" ++ (bytes' ++ (codes "\"" ++ (codes " " ++ (third ++ (codes "=\"" ++ (bytes''
    ++ (codes "\"" ++ (ends ++ rest))))))))))))))))))
    (turns_of (tag (with_value first v ∷ with_value second w ∷ with_value third x ∷ [])) ++ ts)
three tag name first second third ends bytes read bytes' read' bytes'' read'' rest v w x writes safe after = record {
  pieces = tag (with_value first v ∷ with_value second w ∷ with_value third x ∷ []) ∷ after.pieces;
  are =
      let a = flat_map character_bytes v.value in
      let b = flat_map character_bytes w.value in
      let c = flat_map character_bytes x.value in
      let end = flat_map bytes_of_piece after.pieces in
      rw (v.are, w.are, x.are, after.are) (ap (λ l. codes "<" ++ l) (sym (flat_three name (quoted first a)
      (quoted second b) (quoted third c) ends end
      ∙ ap (λ l. name ++ l) (attribute_then first a (quoted second b ++ (quoted third c ++ (ends ++ end)))
      ∙ ap (λ l. quoted_then first a l) (attribute_then second b (quoted third c ++ (ends ++ end))
      ∙ ap (λ l. quoted_then second b l) (attribute_then third c (ends ++ end))))))
      ∙ ap (λ l. l ++ end) (sym (writes (with_value first v ∷ with_value second w ∷ with_value third x ∷ []))));
  safe = rw (safe, after.safe) refl;
  does = rw after.does refl;
}

-- a value that is a safe URL
pub record IsUrlValue (schemes : List (List ℕ)) (bytes : List ℕ) : Type 0 where
  pub read : List ℕ
  pub value : IsValue bytes read
  pub url : is_safe_url schemes read ≡ true

-- a safe URL, as it is written
url_written : (schemes : List (List ℕ)) (url : List ℕ) → is_safe_url schemes url ≡ true
    → IsUrlValue schemes (destination_escaped url)
url_written schemes url safe = let d = destination-escaped url in record {
  read = d.read;
  value = d.value;
  url = destination-safe schemes (destination_escaped url) url d safe;
}

-- a destination without its scheme is one
bare_url : (kind : LinkType) (schemes : List (List ℕ)) (destination : List ℕ)
    → is_safe_url schemes (without_scheme kind destination) ≡ true
bare_url (kinds.WikiLink pothole) schemes destination = refl
bare_url other schemes destination = refl

pub url_value : (kind : LinkType) (schemes : List (List ℕ)) (destination : List ℕ)
    → IsUrlValue schemes (destination_escaped (safe_destination kind schemes destination))
url_value kind schemes destination = by_test (is_safe_url schemes destination) refl
  where
    by_test : (t : Bool) → is_safe_url schemes destination ≡ t
        → IsUrlValue schemes (destination_escaped (if t then destination else without_scheme kind destination))
    by_test true e = url_written schemes destination e
    by_test false e = url_written schemes (without_scheme kind destination) (bare_url kind schemes destination)

-- so is the destination of a link
target_value : (prefix : List ℕ) (kind : LinkType) (destination : List ℕ)
    → IsUrlValue link_schemes (destination_escaped (safe_target prefix kind destination))
target_value prefix kind [] = url_written link_schemes [] refl
target_value prefix kind (b ∷ name) = by_test (b == number_sign && is_name name)
  where
    by_test : (t : Bool) → IsUrlValue link_schemes (destination_escaped
        (if t then codes "#" ++ safe_name prefix name else safe_destination kind link_schemes (b ∷ name)))
    by_test true = url_written link_schemes (codes "#" ++ safe_name prefix name) refl
    by_test false = url_value kind link_schemes (b ∷ name)

link_value : (prefix : List ℕ) (kind : LinkType) (destination : List ℕ)
    → IsUrlValue link_schemes (link_scheme kind ++ destination_escaped (safe_link_destination prefix kind destination))
link_value prefix kinds.Email destination =
    let u = url_value kinds.Email link_schemes destination in record {
      read = codes "mailto:" ++ u.read;
      value = value-append (codes "mailto:")
          (destination_escaped (safe_destination kinds.Email link_schemes destination)) (codes "mailto:") u.read
          (value-plain (codes "mailto:") refl) u.value;
      url = refl;
    }
link_value prefix kind destination = target_value prefix kind destination

-- a link's Start; its last attribute is `rel` or none
link_safe : (prefix : List ℕ) (rel : Bool) (kind : LinkType) (destination title : List ℕ)
    → IsMarkup (joined (link_parts rel kind (safe_link_destination prefix kind destination) title))
    (opens (codes "a") ∷ [])
link_safe prefix rel kind destination title =
    by_rel (rel && leaves_site kind (safe_link_destination prefix kind destination)) title
  where
    href : List ℕ
    href = destination_escaped (safe_link_destination prefix kind destination)

    u : IsUrlValue link_schemes (link_scheme kind ++ href)
    u = link_value prefix kind destination

    r : IsValue (codes "nofollow ugc noopener") (codes "nofollow ugc noopener")
    r = value-plain (codes "nofollow ugc noopener") refl

    by_rel : (has : Bool) (title : List ℕ)
        → IsMarkup (joined ((codes "<a href=\"" ∷ link_scheme kind ∷ href ∷ codes "\"" ∷ [])
        ++ (title_parts title ++ rel_attribute has ∷ codes ">" ∷ []))) (opens (codes "a") ∷ [])
    by_rel false [] =
        rw (← append_assoc (link_scheme kind) href (codes "\">"))
        (one (codes "a") (codes "href") _ u.read [] u.value (rw (u.value.safe, u.value.means, u.url) refl)
        (of_pieces [] refl))
    by_rel true [] =
        rw (← append_assoc (link_scheme kind) href (codes "\" rel=\"nofollow ugc noopener\">"))
        (two (start_tag (codes "a")) (codes "a") (codes "href") (codes "rel") (codes ">") _ u.read _
        (codes "nofollow ugc noopener") [] u.value r (λ given. refl)
        (rw (u.value.safe, u.value.means, u.url, r.safe, r.means) refl) (of_pieces [] refl))
    by_rel false (b ∷ title) =
        let t = value-escaped (b ∷ title) in
        rw (← append_assoc (link_scheme kind) href
        (codes "\" title=\"" ++ (attribute_escaped (b ∷ title) ++ codes "\">")))
        (two (start_tag (codes "a")) (codes "a") (codes "href") (codes "title") (codes ">") _ u.read _ (b ∷ title) []
        u.value t (λ given. refl) (rw (u.value.safe, u.value.means, u.url, t.safe) refl) (of_pieces [] refl))
    by_rel true (b ∷ title) =
        let t = value-escaped (b ∷ title) in
        rw (← append_assoc (link_scheme kind) href
        (codes "\" title=\"" ++ (attribute_escaped (b ∷ title) ++ codes "\" rel=\"nofollow ugc noopener\">")))
        (three (start_tag (codes "a")) (codes "a") (codes "href") (codes "title") (codes "rel") (codes ">") _ u.read _
        (b ∷ title) _ (codes "nofollow ugc noopener") [] u.value t r (λ given. refl)
        (rw (u.value.safe, u.value.means, u.url, t.safe, r.safe, r.means) refl) (of_pieces [] refl))

-- a start tag with an id alone
with_id : (prefix name id : List ℕ)
    → is_safe_piece (start_tag name (with_value (codes "id") (value-escaped (safe_name prefix id)) ∷ [])) ≡ true
    → IsMarkup (codes "<" ++ (name ++ ((codes " id=\"" ++ (attribute_escaped (safe_name prefix id) ++ codes "\""))
    ++ codes ">"))) (opens name ∷ [])
with_id prefix name id safe =
    rw (append_assoc (attribute_escaped (safe_name prefix id)) (codes "\"") (codes ">"))
    (one name (codes "id") _ (safe_name prefix id) [] (value-escaped (safe_name prefix id)) safe (of_pieces [] refl))

-- a heading's Start
heading_safe : (prefix : List ℕ) (fresh : Bool) (l : HeadingLevel) (id : Option (List ℕ))
    → IsMarkup (joined (heading_parts fresh (record {
      level = l;
      id = option_map (safe_name prefix) id;
      classes = [];
      attributes = [];
    }))) (opens (level_name l) ∷ [])
heading_safe prefix fresh level.H1 None = line fresh (codes "<h1>") (of_pieces (bare (codes "h1") ∷ []) refl)
heading_safe prefix fresh level.H1 (Some id) = let v = value-escaped (safe_name prefix id) in
    line fresh _ (with_id prefix (codes "h1") id (rw (v.safe, v.means) refl))
heading_safe prefix fresh level.H2 None = line fresh (codes "<h2>") (of_pieces (bare (codes "h2") ∷ []) refl)
heading_safe prefix fresh level.H2 (Some id) = let v = value-escaped (safe_name prefix id) in
    line fresh _ (with_id prefix (codes "h2") id (rw (v.safe, v.means) refl))
heading_safe prefix fresh level.H3 None = line fresh (codes "<h3>") (of_pieces (bare (codes "h3") ∷ []) refl)
heading_safe prefix fresh level.H3 (Some id) = let v = value-escaped (safe_name prefix id) in
    line fresh _ (with_id prefix (codes "h3") id (rw (v.safe, v.means) refl))
heading_safe prefix fresh level.H4 None = line fresh (codes "<h4>") (of_pieces (bare (codes "h4") ∷ []) refl)
heading_safe prefix fresh level.H4 (Some id) = let v = value-escaped (safe_name prefix id) in
    line fresh _ (with_id prefix (codes "h4") id (rw (v.safe, v.means) refl))
heading_safe prefix fresh level.H5 None = line fresh (codes "<h5>") (of_pieces (bare (codes "h5") ∷ []) refl)
heading_safe prefix fresh level.H5 (Some id) = let v = value-escaped (safe_name prefix id) in
    line fresh _ (with_id prefix (codes "h5") id (rw (v.safe, v.means) refl))
heading_safe prefix fresh level.H6 None = line fresh (codes "<h6>") (of_pieces (bare (codes "h6") ∷ []) refl)
heading_safe prefix fresh level.H6 (Some id) = let v = value-escaped (safe_name prefix id) in
    line fresh _ (with_id prefix (codes "h6") id (rw (v.safe, v.means) refl))

heading_end_safe : (l : HeadingLevel)
    → IsMarkup (joined (codes "</h" ∷ level_digit l ∷ codes ">\n" ∷ [])) (closes (level_name l) ∷ [])
heading_end_safe level.H1 = of_pieces (end_tag (codes "h1") ∷ newline ∷ []) refl
heading_end_safe level.H2 = of_pieces (end_tag (codes "h2") ∷ newline ∷ []) refl
heading_end_safe level.H3 = of_pieces (end_tag (codes "h3") ∷ newline ∷ []) refl
heading_end_safe level.H4 = of_pieces (end_tag (codes "h4") ∷ newline ∷ []) refl
heading_end_safe level.H5 = of_pieces (end_tag (codes "h5") ∷ newline ∷ []) refl
heading_end_safe level.H6 = of_pieces (end_tag (codes "h6") ∷ newline ∷ []) refl

-- an attribute whose value the renderer writes by itself
abbrev own : List ℕ → List ℕ → Attribute
own name value = record { name = name; value = map by_itself value }

-- a block quote's Start
quote_piece : (class : List ℕ) → HtmlPiece
quote_piece class = start_tag (codes "blockquote") (own (codes "class") class ∷ [])

quote_safe : (kind : Option BlockQuoteKind)
    → IsMarkup (codes "<blockquote" ++ (quote_class kind ++ codes ">\n")) (opens (codes "blockquote") ∷ [])
unfolding quote_piece
quote_safe None = of_pieces (bare (codes "blockquote") ∷ newline ∷ []) refl
quote_safe (Some quote.Note) = of_pieces (quote_piece (codes "markdown-alert-note") ∷ newline ∷ []) refl
quote_safe (Some quote.Tip) = of_pieces (quote_piece (codes "markdown-alert-tip") ∷ newline ∷ []) refl
quote_safe (Some quote.Important) = of_pieces (quote_piece (codes "markdown-alert-important") ∷ newline ∷ []) refl
quote_safe (Some quote.Warning) = of_pieces (quote_piece (codes "markdown-alert-warning") ∷ newline ∷ []) refl
quote_safe (Some quote.Caution) = of_pieces (quote_piece (codes "markdown-alert-caution") ∷ newline ∷ []) refl

-- the tag of a cell with an attribute
cell_piece : (name attribute value : List ℕ) → HtmlPiece
cell_piece name attribute value = start_tag name (own attribute value ∷ [])

-- a cell's Start
cell_safe : (head by_align : Bool) (alignment : Option Alignment)
    → IsMarkup ((if head then codes "<th" else codes "<td") ++ cell_style by_align alignment)
    (opens (cell_name head) ∷ [])
unfolding cell_piece
cell_safe true by_align None = of_pieces (bare (codes "th") ∷ []) refl
cell_safe true by_align (Some align.None) = of_pieces (bare (codes "th") ∷ []) refl
cell_safe true true (Some align.Left) = of_pieces (cell_piece (codes "th") (codes "align") (codes "left") ∷ []) refl
cell_safe true false (Some align.Left) =
    of_pieces (cell_piece (codes "th") (codes "style") (codes "text-align: left") ∷ []) refl
cell_safe true true (Some align.Center) = of_pieces (cell_piece (codes "th") (codes "align") (codes "center") ∷ []) refl
cell_safe true false (Some align.Center) =
    of_pieces (cell_piece (codes "th") (codes "style") (codes "text-align: center") ∷ []) refl
cell_safe true true (Some align.Right) = of_pieces (cell_piece (codes "th") (codes "align") (codes "right") ∷ []) refl
cell_safe true false (Some align.Right) =
    of_pieces (cell_piece (codes "th") (codes "style") (codes "text-align: right") ∷ []) refl
cell_safe false by_align None = of_pieces (bare (codes "td") ∷ []) refl
cell_safe false by_align (Some align.None) = of_pieces (bare (codes "td") ∷ []) refl
cell_safe false true (Some align.Left) = of_pieces (cell_piece (codes "td") (codes "align") (codes "left") ∷ []) refl
cell_safe false false (Some align.Left) =
    of_pieces (cell_piece (codes "td") (codes "style") (codes "text-align: left") ∷ []) refl
cell_safe false true (Some align.Center) =
    of_pieces (cell_piece (codes "td") (codes "align") (codes "center") ∷ []) refl
cell_safe false false (Some align.Center) =
    of_pieces (cell_piece (codes "td") (codes "style") (codes "text-align: center") ∷ []) refl
cell_safe false true (Some align.Right) = of_pieces (cell_piece (codes "td") (codes "align") (codes "right") ∷ []) refl
cell_safe false false (Some align.Right) =
    of_pieces (cell_piece (codes "td") (codes "style") (codes "text-align: right") ∷ []) refl

cell_end_safe : (head : Bool) → IsMarkup (if head then codes "</th>" else codes "</td>") (closes (cell_name head) ∷ [])
cell_end_safe true = of_pieces (end_tag (codes "th") ∷ []) refl
cell_end_safe false = of_pieces (end_tag (codes "td") ∷ []) refl

-- what stands before a byte that passes a test
take_passes : (p : ℕ → Bool) (n : ℕ) (xs : List ℕ) → list_all p xs ≡ true → list_all p (take n xs) ≡ true
take_passes p zero xs h = refl
take_passes p (suc n) [] h = refl
take_passes p (suc n) (x ∷ xs) h =
    let parts = and_parts (p x) (list_all p xs) h in
    rw (parts.0, take_passes p n xs parts.1) refl

prefix_passes : (p : ℕ → Bool) (xs : List ℕ) → list_all p (take (prefix_len p xs) xs) ≡ true
prefix_passes p [] = refl
prefix_passes p (x ∷ xs) = by_test (prefix_passes p xs) (p x) refl
  where
    by_test : list_all p (take (prefix_len p xs) xs) ≡ true → (t : Bool) → p x ≡ t
        → list_all p (take (if t then 1 + prefix_len p xs else 0) (x ∷ xs)) ≡ true
    by_test others true e = let more : 1 + prefix_len p xs ≡ suc (prefix_len p xs) = omega arith in
        rw more (rw (e, others) refl)
    by_test others false e = refl

info_is_one_class : (info : List ℕ) → list_all (λ b. not (is_ascii_whitespace b)) (language (safe_info info)) ≡ true
info_is_one_class info =
    take_passes (λ b. not (is_ascii_whitespace b)) (position_or_len (λ b. b == space) (safe_info info)) (safe_info info)
    (prefix_passes (λ b. not (is_ascii_whitespace b)) info)

-- a code block's Start
code_block_safe : (fresh : Bool) (name : List ℕ) → list_all (λ b. not (is_ascii_whitespace b)) name ≡ true
    → IsMarkup (joined (code_block_parts fresh name)) (opens (codes "pre") ∷ opens (codes "code") ∷ [])
code_block_safe fresh [] h =
    line fresh (codes "<pre><code>") (of_pieces (bare (codes "pre") ∷ bare (codes "code") ∷ []) refl)
code_block_safe fresh (b ∷ name) h =
    let v = value-append (codes "language-") (attribute_escaped (b ∷ name)) (codes "language-") (b ∷ name)
    (value-plain (codes "language-") refl) (value-escaped (b ∷ name)) in
    let class : is_safe_class (codes "language-" ++ (b ∷ name)) ≡ true = h in
    line fresh _ (both (codes "<pre>") _ (of_pieces (bare (codes "pre") ∷ []) refl)
    (one (codes "code") (codes "class") _ (codes "language-" ++ (b ∷ name)) [] v
    (rw (v.safe, v.means, class) refl) (of_pieces [] refl)))

-- digits
number_safe : (n : ℕ) → IsMarkup (decimal n) []
number_safe n = plain_safe (decimal n) (digits_plain (decimal n) (decimal_digits n))

pub number_value : (n : ℕ) → IsValue (decimal n) (decimal n)
number_value n = value-plain (decimal n) (digits_plain (decimal n) (decimal_digits n))

-- a list's Start
list_safe : (past : Past) (first : ℕ)
    → IsMarkup (joined (start_parts past (event.list (Some first)))) (opens (codes "ol") ∷ [])
list_safe past first = by_test (first == 1)
  where
    by_test : (t : Bool) → IsMarkup (joined (if t then new_line past.fresh ∷ codes "<ol>\n" ∷ []
        else numbered_list_parts past.fresh (decimal first))) (opens (codes "ol") ∷ [])
    by_test true = line past.fresh (codes "<ol>\n") (of_pieces (bare (codes "ol") ∷ newline ∷ []) refl)
    by_test false = let v = number_value first in
        line past.fresh _ (one (codes "ol") (codes "start") (decimal first) (decimal first) (codes "\n") v
        (rw (v.safe, v.means, decimal_digits first) refl) (of_pieces (newline ∷ []) refl))

-- a footnote
definition_safe : (prefix : List ℕ) (fresh : Bool) (name : List ℕ) (n : ℕ)
    → IsMarkup (new_line fresh ++ (codes "<div class=\"footnote-definition\" id=\""
    ++ (attribute_escaped (safe_name prefix name)
    ++ (codes "\"><sup class=\"footnote-definition-label\">" ++ (decimal n ++ codes "</sup>")))))
    (opens (codes "div") ∷ opens (codes "sup") ∷ closes (codes "sup") ∷ [])
definition_safe prefix fresh name n =
    let class = value-plain (codes "footnote-definition") refl in
    let id = value-escaped (safe_name prefix name) in
    let label = both (decimal n) (codes "</sup>") (number_safe n) (of_pieces (end_tag (codes "sup") ∷ []) refl) in
    let sup = both (codes "<sup class=\"footnote-definition-label\">") _
    (of_pieces (start_tag (codes "sup") (own (codes "class") (codes "footnote-definition-label") ∷ []) ∷ [])
    refl) label in
    line fresh _ (two (start_tag (codes "div")) (codes "div") (codes "class") (codes "id") (codes ">") _
    (codes "footnote-definition") _ (safe_name prefix name) _ class id (λ given. refl)
    (rw (class.safe, class.means, id.safe, id.means) refl) sup)

reference_safe : (prefix name : List ℕ) (n : ℕ)
    → IsMarkup (codes "<sup class=\"footnote-reference\"><a href=\"#" ++ (attribute_escaped (safe_name prefix name)
    ++ (codes "\">" ++ (decimal n ++ codes "</a></sup>"))))
    (opens (codes "sup") ∷ opens (codes "a") ∷ closes (codes "a") ∷ closes (codes "sup") ∷ [])
reference_safe prefix name n =
    let v = value-append (codes "#") (attribute_escaped (safe_name prefix name)) (codes "#") (safe_name prefix name)
    (value-plain (codes "#") refl) (value-escaped (safe_name prefix name)) in
    both (codes "<sup class=\"footnote-reference\">") _
    (of_pieces (start_tag (codes "sup") (own (codes "class") (codes "footnote-reference") ∷ []) ∷ []) refl)
    (one (codes "a") (codes "href") _ (codes "#" ++ safe_name prefix name) _ v (rw (v.safe, v.means) refl)
    (both (decimal n) (codes "</a></sup>") (number_safe n)
    (of_pieces (end_tag (codes "a") ∷ end_tag (codes "sup") ∷ []) refl)))

-- what a Start writes outside images, but for the Start of an image
abbrev pub StartIsSafe : (prefix : List ℕ) → Past → TagView → Type 0
StartIsSafe prefix past (event.image i) = Unit {0}
StartIsSafe prefix past tag =
    IsMarkup (joined (start_parts past (safe_tag prefix tag))) (start_turns past.in_head (safe_tag prefix tag))

pub start_safe : (prefix : List ℕ) (past : Past) (tag : TagView) → StartIsSafe prefix past tag
start_safe prefix past event.paragraph = line past.fresh (codes "<p>") (of_pieces (bare (codes "p") ∷ []) refl)
start_safe prefix past (event.heading h) = heading_safe prefix past.fresh h.level h.id
start_safe prefix past (event.block_quote kind) = line past.fresh _ (quote_safe kind)
start_safe prefix past event.indented_code = code_block_safe past.fresh [] refl
start_safe prefix past (event.fenced_code info) =
    code_block_safe past.fresh (language (safe_info info)) (info_is_one_class info)
start_safe prefix past event.html_block = of_pieces [] refl
start_safe prefix past (event.list None) =
    line past.fresh (codes "<ul>\n") (of_pieces (bare (codes "ul") ∷ newline ∷ []) refl)
start_safe prefix past (event.list (Some first)) = list_safe past first
start_safe prefix past event.list_item = line past.fresh (codes "<li>") (of_pieces (bare (codes "li") ∷ []) refl)
start_safe prefix past (event.footnote_definition name) =
    definition_safe prefix past.fresh name (place (safe_name prefix name) past.names + 1)
start_safe prefix past event.definition_list =
    line past.fresh (codes "<dl>\n") (of_pieces (bare (codes "dl") ∷ newline ∷ []) refl)
start_safe prefix past event.definition_list_title =
    line past.fresh (codes "<dt>") (of_pieces (bare (codes "dt") ∷ []) refl)
start_safe prefix past event.definition_list_definition =
    line past.fresh (codes "<dd>") (of_pieces (bare (codes "dd") ∷ []) refl)
start_safe prefix past (event.table alignments) = of_pieces (bare (codes "table") ∷ []) refl
start_safe prefix past event.table_head = of_pieces (bare (codes "thead") ∷ bare (codes "tr") ∷ []) refl
start_safe prefix past event.table_row = of_pieces (bare (codes "tr") ∷ []) refl
start_safe prefix past event.table_cell = cell_safe past.in_head past.rules.align _
start_safe prefix past event.emphasis = of_pieces (bare (codes "em") ∷ []) refl
start_safe prefix past event.strong = of_pieces (bare (codes "strong") ∷ []) refl
start_safe prefix past event.strikethrough = of_pieces (bare (codes "del") ∷ []) refl
start_safe prefix past event.superscript = of_pieces (bare (codes "sup") ∷ []) refl
start_safe prefix past event.subscript = of_pieces (bare (codes "sub") ∷ []) refl
start_safe prefix past (event.link l) = link_safe prefix past.rules.rel l.kind l.destination l.title
start_safe prefix past (event.image i) = tt
start_safe prefix past (event.metadata_block kind) = of_pieces [] refl

-- what an End writes outside images
end_safe : (past : Past) (tag : TagEnd) → IsMarkup (joined (end_parts past tag)) (end_turns past.in_head tag)
end_safe past tag_ends.Paragraph = of_pieces (end_tag (codes "p") ∷ newline ∷ []) refl
end_safe past (tag_ends.Heading l) = heading_end_safe l
end_safe past (tag_ends.BlockQuote kind) = of_pieces (end_tag (codes "blockquote") ∷ newline ∷ []) refl
end_safe past tag_ends.CodeBlock = of_pieces (end_tag (codes "code") ∷ end_tag (codes "pre") ∷ newline ∷ []) refl
end_safe past tag_ends.HtmlBlock = of_pieces [] refl
end_safe past (tag_ends.List true) = of_pieces (end_tag (codes "ol") ∷ newline ∷ []) refl
end_safe past (tag_ends.List false) = of_pieces (end_tag (codes "ul") ∷ newline ∷ []) refl
end_safe past tag_ends.Item = of_pieces (end_tag (codes "li") ∷ newline ∷ []) refl
end_safe past tag_ends.FootnoteDefinition = of_pieces (end_tag (codes "div") ∷ newline ∷ []) refl
end_safe past tag_ends.DefinitionList = of_pieces (end_tag (codes "dl") ∷ newline ∷ []) refl
end_safe past tag_ends.DefinitionListTitle = of_pieces (end_tag (codes "dt") ∷ newline ∷ []) refl
end_safe past tag_ends.DefinitionListDefinition = of_pieces (end_tag (codes "dd") ∷ newline ∷ []) refl
end_safe past tag_ends.Table = of_pieces (end_tag (codes "tbody") ∷ end_tag (codes "table") ∷ newline ∷ []) refl
end_safe past tag_ends.TableHead =
    of_pieces (end_tag (codes "tr") ∷ end_tag (codes "thead") ∷ bare (codes "tbody") ∷ newline ∷ []) refl
end_safe past tag_ends.TableRow = of_pieces (end_tag (codes "tr") ∷ newline ∷ []) refl
end_safe past tag_ends.TableCell = cell_end_safe past.in_head
end_safe past tag_ends.Emphasis = of_pieces (end_tag (codes "em") ∷ []) refl
end_safe past tag_ends.Strong = of_pieces (end_tag (codes "strong") ∷ []) refl
end_safe past tag_ends.Strikethrough = of_pieces (end_tag (codes "del") ∷ []) refl
end_safe past tag_ends.Superscript = of_pieces (end_tag (codes "sup") ∷ []) refl
end_safe past tag_ends.Subscript = of_pieces (end_tag (codes "sub") ∷ []) refl
end_safe past tag_ends.Link = of_pieces (end_tag (codes "a") ∷ []) refl
end_safe past tag_ends.Image = of_pieces [] refl
end_safe past (tag_ends.MetadataBlock kind) = of_pieces [] refl

-- text, but in metadata none
shown_safe : (hidden : Bool) (t : List ℕ) → IsMarkup (joined (if hidden then [] else text_escaped t ∷ [])) []
shown_safe true t = of_pieces [] refl
shown_safe false t = text_safe t

-- what is written outside images and is no tag that needs an end tag
abbrev IsOutside : Past → EventView → Type 0
IsOutside past e = IsMarkup (joined (outside_parts past e)) (event_turns past.in_head e)

rule_safe : (past : Past) → IsOutside past rule
rule_safe past =
    line past.fresh (codes "<hr />\n") (of_pieces (void_tag (codes "hr") [] (codes " />") ∷ newline ∷ []) refl)

break_safe : (past : Past) → IsOutside past hard_break
break_safe past = of_pieces (void_tag (codes "br") [] (codes " />") ∷ newline ∷ []) refl

-- HTML of HTML blocks, and inline HTML: text, or one of a few tags
html_safe : (past : Past) (t : List ℕ) → IsOutside past (safe_block_html t)
html_safe past t = block_html_cases (IsOutside past) t (of_pieces [] refl) (rule_safe past) (break_safe past)
    (λ t. shown_safe past.in_metadata t)

inline_html_safe : (past : Past) (t : List ℕ) → IsOutside past (safe_inline_html t)
inline_html_safe past t = inline_html_cases (IsOutside past) t (of_pieces [] refl) (break_safe past)
    (of_pieces (void_tag (codes "wbr") [] (codes " />") ∷ []) refl) (λ t. shown_safe past.in_metadata t)

-- mathematics
math_piece : (class : List ℕ) → HtmlPiece
math_piece class = start_tag (codes "span") (own (codes "class") class ∷ [])

-- what an event writes outside images, but for Starts and Ends
abbrev pub OtherIsSafe : (prefix : List ℕ) → Past → EventView → Type 0
OtherIsSafe prefix past (start tag) = Unit {0}
OtherIsSafe prefix past e =
    IsMarkup (joined (outside_parts past (safe_event prefix e))) (event_turns past.in_head (safe_event prefix e))

pub other_safe : (prefix : List ℕ) (past : Past) (e : EventView) → OtherIsSafe prefix past e
unfolding math_piece
other_safe prefix past (start tag) = tt
other_safe prefix past (end tag) = end_safe past tag
other_safe prefix past (text t) = shown_safe past.in_metadata t
other_safe prefix past (code t) =
    around (codes "<code>") (text_escaped t) (codes "</code>") (of_pieces (bare (codes "code") ∷ []) refl) (text_safe t)
    (of_pieces (end_tag (codes "code") ∷ []) refl)
other_safe prefix past (inline_math t) =
    around (codes "<span class=\"math math-inline\">") (attribute_escaped t) (codes "</span>")
    (of_pieces (math_piece (codes "math math-inline") ∷ []) refl) (attribute_safe t)
    (of_pieces (end_tag (codes "span") ∷ []) refl)
other_safe prefix past (display_math t) =
    around (codes "<span class=\"math math-display\">") (attribute_escaped t) (codes "</span>")
    (of_pieces (math_piece (codes "math math-display") ∷ []) refl) (attribute_safe t)
    (of_pieces (end_tag (codes "span") ∷ []) refl)
other_safe prefix past (html t) = html_safe past t
other_safe prefix past (inline_html t) = inline_html_safe past t
other_safe prefix past (footnote_reference name) =
    reference_safe prefix name (place (safe_name prefix name) past.names + 1)
other_safe prefix past soft_break = of_pieces (newline ∷ []) refl
other_safe prefix past hard_break = break_safe past
other_safe prefix past rule = rule_safe past
other_safe prefix past (task_list_marker true) =
    of_pieces (void_tag (codes "input") (own (codes "disabled") [] ∷ own (codes "type") (codes "checkbox") ∷ own
    (codes "checked") [] ∷ []) (codes "/>") ∷ newline ∷ []) refl
other_safe prefix past (task_list_marker false) =
    of_pieces (void_tag (codes "input") (own (codes "disabled") [] ∷ own (codes "type") (codes "checkbox") ∷ [])
    (codes "/>") ∷ newline ∷ []) refl
