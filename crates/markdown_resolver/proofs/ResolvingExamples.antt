-- What becomes of small chains by the definitions: pass one finds code, math, autolinks and raw HTML, makes links and
-- images of brackets and leaves what waits for pairing, and then that is paired.
use Rattle.std.proofs.Common.{◌≡◌, ℕ, ◌+◌, Bool, true, false, List, [], ◌∷◌, Some, None, length, refl}
use Rattle.std.specs.Prelude.{codes, slice_range}
use Rattle.markdown_base.specs.Syntax.{commonmark, full_syntax}
use Rattle.markdown_base.specs.EnabledOptions.{no_options}
use Rattle.markdown_base.specs.declared.syntax.Syntax.{Syntax}
use Rattle.markdown_base.specs.Event.{EventView, LinkView, code, inline_math, inline_html, emphasis, image, link}
use Rattle.markdown_base.specs.Forest.{Forest, nil, node}
use Rattle.markdown_base.specs.declared.item.Item.{Item}
use Rattle.markdown_base.specs.declared.item.ItemBody.{ItemBody}
use Rattle.markdown_base.specs.declared.item.ItemBody.TheVariants as body
use Rattle.markdown_base.specs.declared.tag.LinkType.TheVariants as kind
use Rattle.markdown_brackets.specs.BracketDecision.{decided}
use Rattle.markdown_brackets.specs.ClosingBracket.{closed}
use Rattle.markdown_brackets.specs.ReadChain.{read_chain}
use Rattle.markdown_raw_html.specs.HtmlTag.{all, both, either, nonempty, often, often_past, one, optional}
use Rattle.markdown_document.specs.EnclosingBlocks.{EnclosingBlocks}
use Rattle.markdown_document.specs.Document.{sliced, Shape, leaf, enclosed, Plain, part_of, no_notes, text_over}
use Rattle.markdown_document.specs.Setting.{Setting, ReferenceState, setting_of}
use Rattle.markdown_document.specs.Tables.{no_tables}
use Rattle.markdown_entities.specs.EntityTable.{entity_groups}
use Rattle.markdown_entities.specs.NamedEntity.{first_written}
use Rattle.markdown_spans.specs.AfterLess.{markup_at}
use Rattle.markdown_spans.specs.CodeText.{replaced_past, is_sliced}
use Rattle.markdown_spans.specs.EmailAutolink.{cut_at_periods}
use Rattle.markdown_spans.specs.Finds.{address, read_tree}
use Rattle.markdown_spans.specs.declared.after_less.AutolinkKind.TheVariants.{Uri, Email}
use Rattle.markdown_delims.specs.Pairing.{closed_by, reads_from, runs_paired, paired}
use Rattle.markdown_delims.specs.Quotes.{with_quotes}
use Rattle.markdown_resolver.specs.Laws.{RunsStandWhole}
use Rattle.markdown_resolver.specs.PassOne.{Outcome, pass_one}
use Rattle.markdown_resolver.specs.Resolved.{all_paired, resolved}

-- nothing is defined; the chain is a paragraph's
abbrev setting_by : Syntax → (asks : Bool) → List ℕ → Setting
setting_by syntax asks source =
    setting_of source (record {
      syntax = syntax;
      definitions = λ label. None;
      is_footnote = λ name. false;
      asks = asks;
    })

-- footnotes are enabled in GitHub's style, and there is no callback
abbrev setting : List ℕ → Setting
setting source = setting_by (record commonmark { footnotes = true }) false source

abbrev in_paragraph : List ℕ → EnclosingBlocks
in_paragraph source = record { block_end = length source; in_table = false; bodies = body.Paragraph ∷ [] }

-- items: a text, backticks, a `*` that opens or closes, a `$`, a `<`, a `[`, a `![`, a `]`
abbrev item : ℕ → ℕ → ItemBody → Item
item start end b = record { start = start; end = end; body = b }

abbrev plain_text : ℕ → ℕ → Item
plain_text start end = item start end (body.Text false)

abbrev ticks : ℕ → ℕ → Item
ticks start n = item start (start + n) (body.MaybeCode n false)

abbrev star_of : (count start : ℕ) → (opens closes : Bool) → Item
star_of count start opens closes = item start (start + 1) (body.MaybeEmphasis count opens closes)

abbrev star : ℕ → (opens closes : Bool) → Item
star start opens closes = star_of 1 start opens closes

abbrev dollar : ℕ → (opens closes : Bool) → Item
dollar start opens closes = item start (start + 1) (body.MaybeMath opens closes 0)

abbrev less : ℕ → Item
less start = item start (start + 1) body.MaybeHtml

abbrev opener : ℕ → Item
opener start = item start (start + 1) body.MaybeLinkOpen

abbrev image_opener : ℕ → Item
image_opener start = item start (start + 2) body.MaybeImage

abbrev closer : ℕ → Item
closer start = item start (start + 1) (body.MaybeLinkClose true)

abbrev chain_of : List ℕ → List Item → Forest Plain
chain_of source [] = nil
chain_of source (i ∷ items) = node (record { note = tt; part = part_of source no_tables i }) nil (chain_of source items)

-- what is left of a chain by pass one, and when it is resolved
abbrev left_by_pass_one : List ℕ → List Item → ReferenceState → Forest Plain
left_by_pass_one source items state =
    (pass_one (setting source) no_notes (in_paragraph source) (chain_of source items) state).forest

abbrev resolved_to : List ℕ → List Item → ReferenceState → Forest Plain
resolved_to source items state =
    (resolved (setting source) no_notes (in_paragraph source) (chain_of source items) state).forest

-- and with the chains below it
abbrev resolved_below : List ℕ → List Item → ReferenceState → Forest Plain
resolved_below source items state = all_paired (setting source) (resolved_to source items state)

-- nodes: over bytes i up to j; the text of a span that is a slice of the source
abbrev over : ℕ → ℕ → Shape → Plain
over i j shape = record {
  note = tt;
  part = record { shape = shape; range = record { start = i; end = j }; block = None };
}

abbrev sliced_at : EventView → ℕ → ℕ → Plain
sliced_at e i j = over i j (leaf e (sliced ∷ []))

abbrev text_at : List ℕ → ℕ → ℕ → Plain
text_at source i j = over i j (text_over (slice_range source i j))

-- what an inline link leads to, and a wikilink
abbrev inline_to : List ℕ → LinkView
inline_to destination = record { kind = kind.Inline; destination = destination; title = []; label = [] }

abbrev wikilink_to : List ℕ → LinkView
wikilink_to name = record { kind = kind.WikiLink false; destination = name; title = []; label = [] }

-- backticks, and others of the same length further on: what is between them is code, including other backticks
row_code : (state : ReferenceState)
    → left_by_pass_one (codes "``a`b``") (ticks 0 2 ∷ plain_text 2 3 ∷ ticks 3 1 ∷ plain_text 4 5 ∷ ticks 5 2 ∷ [])
    state ≡ node (sliced_at (code (codes "a`b")) 0 7) nil nil
unfolding pass_one read_chain read_tree replaced_past is_sliced
row_code state = refl

-- and where there are none they are a Text; what follows is read anew
row_no_closer : (state : ReferenceState)
    → left_by_pass_one (codes "``a`b`") (ticks 0 2 ∷ plain_text 2 3 ∷ ticks 3 1 ∷ plain_text 4 5 ∷ ticks 5 1 ∷ []) state
    ≡ node (over 0 2 (text_over (codes "``"))) nil
    (node (over 2 3 (text_over (codes "a"))) nil (node (sliced_at (code (codes "b")) 3 6) nil nil))
unfolding pass_one read_chain read_tree replaced_past is_sliced
row_no_closer state = refl

-- two finds, with a text between them that belongs to neither
row_two_finds : (state : ReferenceState) → left_by_pass_one (codes "`a`-$b$")
    (ticks 0 1 ∷ plain_text 1 2 ∷ ticks 2 1 ∷ plain_text 3 4 ∷ dollar 4 true false ∷ plain_text 5 6 ∷ dollar 6 false
    true ∷ []) state ≡ node (sliced_at (code (codes "a")) 0 3) nil
    (node (over 3 4 (text_over (codes "-"))) nil (node (sliced_at (inline_math (codes "b")) 4 7) nil nil))
unfolding pass_one read_chain read_tree replaced_past is_sliced
row_two_finds state = refl

-- an autolink, with its address as a text below it; the text that reaches past it is cut
row_autolink : (state : ReferenceState) → left_by_pass_one (codes "<http://a.b> c") (less 0 ∷ plain_text 1 14
    ∷ []) state
    ≡ node (over 0 12 (enclosed (link (address Uri (codes "http://a.b"))) []))
    (node (over 1 11 (text_over (codes "http://a.b"))) nil nil) (node (over 12 14 (text_over (codes " c"))) nil nil)
unfolding pass_one read_chain read_tree markup_at all both either nonempty often often_past one optional
row_autolink state = refl

-- an address, with the full reading; a link round it stays one
abbrev address_in_link : List ℕ
address_in_link = codes "[a <b@c.d>](u)"

row_address : (state : ReferenceState)
    → (pass_one (setting_by (full_syntax no_options) false address_in_link) no_notes (in_paragraph address_in_link)
    (chain_of address_in_link (opener 0 ∷ plain_text 1 3 ∷ less 3 ∷ plain_text 4 10 ∷ closer 10 ∷ plain_text 11 14
    ∷ [])) state).forest
    ≡ node (over 0 14 (enclosed (link (inline_to (codes "u"))) (sliced ∷ [])))
    (node (text_at address_in_link 1 3) nil
    (node (over 3 10 (enclosed (link (address Email (codes "b@c.d"))) []))
    (node (text_at address_in_link 4 9) nil nil) nil)) nil
unfolding pass_one read_chain read_tree markup_at cut_at_periods closed decided first_written entity_groups
row_address state = refl

-- raw HTML that ends inside a text, of which the rest is left; backticks in it open nothing
row_tag : (state : ReferenceState)
    → left_by_pass_one (codes "<b c=\"`\">d") (less 0 ∷ plain_text 1 6 ∷ ticks 6 1 ∷ plain_text 7 10 ∷ []) state
    ≡ node (over 0 9 (leaf (inline_html (codes "<b c=\"`\">")) (sliced ∷ []))) nil
    (node (over 9 10 (text_over (codes "d"))) nil nil)
unfolding pass_one read_chain read_tree markup_at all both either nonempty often often_past one optional
row_tag state = refl

-- a `<` that begins nothing is a Text
row_less : (state : ReferenceState) → left_by_pass_one (codes "< a") (less 0 ∷ plain_text 1 3 ∷ []) state
    ≡ node (over 0 1 (text_over (codes "<"))) nil (node (over 1 3 (text_over (codes " a"))) nil nil)
unfolding pass_one read_chain read_tree markup_at all both either nonempty often often_past one optional
row_less state = refl

-- a `[` that nothing closes is a Text, and a run's characters wait
row_waits : (state : ReferenceState)
    → left_by_pass_one (codes "[*a*") (opener 0 ∷ star 1 true false ∷ plain_text 2 3 ∷ star 3 false true ∷ []) state
    ≡ node (over 0 1 (text_over (codes "["))) nil
    (chain_of (codes "[*a*") (star 1 true false ∷ plain_text 2 3 ∷ star 3 false true ∷ []))
unfolding pass_one read_chain read_tree
row_waits state = refl

-- until they enclose what is between them: here code
row_emphasis : (state : ReferenceState)
    → resolved_to (codes "*`a`*") (star 0 true false ∷ ticks 1 1 ∷ plain_text 2 3 ∷ ticks 3 1 ∷ star 4 false true ∷ [])
    state ≡ node (over 0 5 (enclosed emphasis [])) (node (sliced_at (code (codes "a")) 1 4) nil nil) nil
unfolding resolved pass_one read_chain read_tree replaced_past is_sliced paired runs_paired reads_from closed_by
    with_quotes
row_emphasis state = refl

-- code is found first: a run in it pairs with nothing
row_code_first : (state : ReferenceState)
    → resolved_to (codes "*`a*`") (star 0 true false ∷ ticks 1 1 ∷ plain_text 2 3 ∷ star 3 false true ∷ ticks 4 1 ∷ [])
    state ≡ node (over 0 1 (text_over (codes "*"))) nil (node (sliced_at (code (codes "a*")) 1 5) nil nil)
unfolding resolved pass_one read_chain read_tree replaced_past is_sliced paired runs_paired reads_from closed_by
    with_quotes
row_code_first state = refl

-- a link, and an image; what is in the destination is left out
row_link : (state : ReferenceState)
    → left_by_pass_one (codes "[a](b) c") (opener 0 ∷ plain_text 1 2 ∷ closer 2 ∷ plain_text 3 8 ∷ []) state
    ≡ node (over 0 6 (enclosed (link (inline_to (codes "b"))) (sliced ∷ [])))
    (node (text_at (codes "[a](b) c") 1 2) nil nil)
    (node (text_at (codes "[a](b) c") 6 8) nil nil)
unfolding pass_one read_chain read_tree closed decided
row_link state = refl

row_image : (state : ReferenceState)
    → left_by_pass_one (codes "![a](b)") (image_opener 0 ∷ plain_text 2 3 ∷ closer 3 ∷ plain_text 4 7 ∷ []) state
    ≡ node (over 0 7 (enclosed (image (inline_to (codes "b"))) (sliced ∷ [])))
    (node (text_at (codes "![a](b)") 2 3) nil nil) nil
unfolding pass_one read_chain read_tree closed decided
row_image state = refl

row_destination : (state : ReferenceState) → left_by_pass_one (codes "[a](`b`)")
    (opener 0 ∷ plain_text 1 2 ∷ closer 2 ∷ plain_text 3 4 ∷ ticks 4 1 ∷ plain_text 5 6 ∷ ticks 6 1
    ∷ plain_text 7 8 ∷ []) state
    ≡ node (over 0 8 (enclosed (link (inline_to (codes "`b`"))) (sliced ∷ [])))
    (node (text_at (codes "[a](`b`)") 1 2) nil nil) nil
unfolding pass_one read_chain read_tree closed decided
row_destination state = refl

-- but code that begins before the `]` is found before it
row_code_in_brackets : (state : ReferenceState) → left_by_pass_one (codes "[`a](b`)")
    (opener 0 ∷ ticks 1 1 ∷ plain_text 2 3 ∷ closer 3 ∷ plain_text 4 6 ∷ ticks 6 1 ∷ plain_text 7 8 ∷ []) state
    ≡ node (text_at (codes "[`a](b`)") 0 1) nil
    (node (sliced_at (code (codes "a](b")) 1 7) nil (node (text_at (codes "[`a](b`)") 7 8) nil nil))
unfolding pass_one read_chain read_tree replaced_past is_sliced closed decided
row_code_in_brackets state = refl

-- a link holds the run inside it, which is paired when its chain is reached; one that closes outside stays open
row_emphasis_in_link : (state : ReferenceState) → resolved_below (codes "[a *b*](c)")
    (opener 0 ∷ plain_text 1 3 ∷ star 3 true false ∷ plain_text 4 5 ∷ star 5 false true ∷ closer 6
    ∷ plain_text 7 10 ∷ []) state ≡ node (over 0 10 (enclosed (link (inline_to (codes "c"))) (sliced ∷ [])))
    (node (text_at (codes "[a *b*](c)") 1 3) nil
    (node (over 3 6 (enclosed emphasis [])) (node (text_at (codes "[a *b*](c)") 4 5) nil nil) nil)) nil
unfolding resolved pass_one read_chain read_tree closed decided paired runs_paired reads_from closed_by with_quotes
row_emphasis_in_link state = refl

row_run_into_link : (state : ReferenceState) → resolved_below (codes "*a [b*](c)")
    (star 0 true false ∷ plain_text 1 3 ∷ opener 3 ∷ plain_text 4 5 ∷ star 5 false true ∷ closer 6
    ∷ plain_text 7 10 ∷ []) state ≡ node (text_at (codes "*a [b*](c)") 0 1) nil
    (node (text_at (codes "*a [b*](c)") 1 3) nil
    (node (over 3 10 (enclosed (link (inline_to (codes "c"))) (sliced ∷ [])))
    (node (text_at (codes "*a [b*](c)") 4 5) nil (node (text_at (codes "*a [b*](c)") 5 6) nil nil)) nil))
unfolding resolved pass_one read_chain read_tree closed decided paired runs_paired reads_from closed_by with_quotes
row_run_into_link state = refl

-- a wikilink, where they are enabled
row_wikilink : (state : ReferenceState)
    → (pass_one (setting_by (record commonmark { wikilinks = true }) false (codes "[[a]]")) no_notes
    (in_paragraph (codes "[[a]]"))
    (chain_of (codes "[[a]]") (opener 0 ∷ opener 1 ∷ plain_text 2 3 ∷ closer 3 ∷ closer 4 ∷ [])) state).forest
    ≡ node (over 0 5 (enclosed (link (wikilink_to (codes "a"))) [])) (node (text_at (codes "[[a]]") 2 3) nil nil) nil
unfolding pass_one read_chain read_tree closed decided
row_wikilink state = refl

-- the callback is asked for what is not defined, with the form of the reference, and its answer is used
abbrev asks_one : Outcome (Unit {0})
asks_one =
    pass_one (setting_by (record commonmark { footnotes = true }) true (codes "[a]")) no_notes
    (in_paragraph (codes "[a]"))
    (chain_of (codes "[a]") (opener 0 ∷ plain_text 1 2 ∷ closer 2 ∷ []))
    (record { limit = 100; answers = Some (record { destination = codes "u"; title = [] }) ∷ []; uses = λ name. 0 })

row_asked : asks_one.questions
    ≡ record { span = record { start = 0; end = 3 }; link_type = kind.Shortcut; reference = codes "a" } ∷ []
unfolding pass_one read_chain read_tree closed decided
row_asked = refl

row_answer_is_taken : asks_one.state.answers ≡ []
unfolding pass_one read_chain read_tree closed decided
row_answer_is_taken = refl

-- two `*` that touch are one run, which is whole; without the second it is not, nor where each is a run of its own
row_whole : RunsStandWhole (codes "**a")
    (chain_of (codes "**a") (star_of 2 0 true false ∷ star 1 true false ∷ plain_text 2 3 ∷ []))
row_whole = (
  record {
    one_byte = refl;
    delimiter = refl;
    goes_on = record { body = refl; same = refl; touches = refl; number = refl };
  },
  tt,
  (record { one_byte = refl; delimiter = refl; goes_on = tt }, tt, (tt, tt, tt)),
)

row_broken : RunsStandWhole (codes "**a") (chain_of (codes "**a") (star_of 2 0 true false ∷ plain_text 2 3 ∷ [])) → ⊥
row_broken w = let none = w.0.goes_on.body in cc

row_apart : RunsStandWhole (codes "**a")
    (chain_of (codes "**a") (star 0 true false ∷ star 1 true false ∷ plain_text 2 3 ∷ [])) → ⊥
row_apart w = cc w.0.goes_on
