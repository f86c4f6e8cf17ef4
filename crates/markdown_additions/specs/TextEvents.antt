-- The events of a text that have just been made, with what is added to them. Only private clauses cite this.
use Rattle.std.specs.Prelude.{◌≡◌, Bool, true, false, Option, None}
use Rattle.std.specs.Iterator.{Count, at_most}
use Rattle.either.specs.Either.{either}
use Rattle.either.specs.Iterator.{either_steps}
use Rattle.either.specs.declared.Either.{Either}
use Rattle.either.specs.declared.Either.TheVariants.{Left, Right}
use Rattle.markdown_additions.specs.Additions.{AdditionsView, IdsView, adds_ids, adds_no_ids, adds_prefixed_ids}
use Rattle.markdown_additions.specs.declared.events.TextEvents.{TextEvents}
use Rattle.markdown_autolinks.specs.AutolinksLaws.{IsNewLinked}
use Rattle.markdown_autolinks.specs.AutolinksNext.{linked_steps, most_to_come}
use Rattle.markdown_autolinks.specs.AutolinksState.{linked_state}
use Rattle.markdown_autolinks.specs.declared.adapter.Autolinks.{Autolinks}
use Rattle.markdown_base.specs.Questions.{Answer, Question}
use Rattle.markdown_base.specs.Source.{Source}
use Rattle.markdown_blocks.specs.Blocks.{IsBlocksOf}
use Rattle.markdown_blocks.specs.declared.blocks.Blocks.{Blocks}
use Rattle.markdown_defs.specs.declared.callback.DefaultBrokenLinkCallback.{DefaultBrokenLinkCallback}
use Rattle.markdown_heading_ids.specs.HeadingIdsLaws.{IsNewIds}
use Rattle.markdown_heading_ids.specs.HeadingIdsNext.{SourceItem, count_to_come, ids_steps}
use Rattle.markdown_heading_ids.specs.HeadingIdsState.{ids_state}
use Rattle.markdown_heading_ids.specs.IdsOfText.{taken_in_text}
use Rattle.markdown_heading_ids.specs.PrefixedItems.{prefix_of, prefixed_steps, unprefixed_source}
use Rattle.markdown_heading_ids.specs.declared.adapter.HeadingIds.{HeadingIds}
use Rattle.markdown_heading_ids.specs.declared.prefixed.Prefixed.{Prefixed}
use Rattle.markdown_inline.specs.NextGives.{IsPlacedOf, NextGives}
use Rattle.markdown_inline.specs.ParserLeft.{ReadsBlocks, offset_parser, parser_callback, parser_steps}
use Rattle.markdown_inline.specs.declared.walk.OffsetIter.{OffsetIter}

-- the events of a parser, without links of bare addresses or with them
abbrev pub ParsedEvents : (F : Type 0) → Type 0
ParsedEvents F = Either (OffsetIter F) (Autolinks (OffsetIter F))

-- the same, with what ids are added: none, ids, or ids and a prefix
abbrev pub NestedEvents : (F : Type 0) → Type 0
NestedEvents F = Either (ParsedEvents F) (Either (HeadingIds (ParsedEvents F)) (Prefixed (HeadingIds (ParsedEvents F))))

module _ {F : Type 0} where
  -- nothing has been read of a parser of a block result of a text, and it has no callback
  pub record IsNewParser (s : Source) (o : OffsetIter F) : Type 0 where
    pub blocks : Blocks
    pub of_text : IsBlocksOf s blocks
    pub reads : ReadsBlocks blocks (offset_parser o)
    pub alone : parser_callback (offset_parser o) ≡ None

  -- nothing has been read of such a parser under an adapter of links
  pub record IsNewWithLinks (s : Source) (l : Autolinks (OffsetIter F)) : Type 0 where
    pub parser : IsNewParser s (linked_state l).iter
    pub links : IsNewLinked (linked_state l) s.text

  -- nothing has been read of a parser of a text, under an adapter of links where these are added
  abbrev pub IsNewText : (autolinks : Bool) → Source → ParsedEvents F → Type 0
  IsNewText false s (Left o) = IsNewParser s o
  IsNewText true s (Right l) = IsNewWithLinks s l
  IsNewText autolinks s other = ⊥

  -- nothing has been read of such events under an adapter of ids, where those are taken that the text has from the
  -- start
  pub record IsNewWithIds (autolinks : Bool) (s : Source) (h : HeadingIds (ParsedEvents F)) : Type 0 where
    pub text : IsNewText autolinks s (ids_state h).iter
    pub ids : IsNewIds (ids_state h) (taken_in_text s)

  -- nothing has been read of the events of a text with the ids that are added
  abbrev pub IsNewWithAddedIds : IdsView → (autolinks : Bool) → Source → NestedEvents F → Type 0
  IsNewWithAddedIds adds_no_ids autolinks s (Left events) = IsNewText autolinks s events
  IsNewWithAddedIds adds_ids autolinks s (Right (Left h)) = IsNewWithIds autolinks s h
  IsNewWithAddedIds (adds_prefixed_ids prefix) autolinks s (Right (Right p)) =
      IsNewWithIds autolinks s (unprefixed_source p) × (prefix_of p ≡ prefix)
  IsNewWithAddedIds view autolinks s other = ⊥

  -- calls of `next`, where those of a callback are these
  module _ (step : F → Question → Option Answer → F → Type 0) where
    abbrev pub parser_calls : OffsetIter F → Option SourceItem → OffsetIter F → Type 0
    parser_calls o item t = NextGives step IsPlacedOf (offset_parser o) item (offset_parser t)

    abbrev pub parsed_calls : ParsedEvents F → Option SourceItem → ParsedEvents F → Type 0
    parsed_calls = either_steps parser_calls (linked_steps parser_calls linked_state)

    abbrev pub calls_with_ids : HeadingIds (ParsedEvents F) → Option SourceItem → HeadingIds (ParsedEvents F) → Type 0
    calls_with_ids = ids_steps parsed_calls ids_state

    abbrev pub nested_calls : NestedEvents F → Option SourceItem → NestedEvents F → Type 0
    nested_calls = either_steps parsed_calls (either_steps calls_with_ids (prefixed_steps calls_with_ids))

  -- how many items are left at most
  abbrev pub parser_rest : OffsetIter F → Count
  parser_rest o = at_most (parser_steps (offset_parser o))

  abbrev pub parsed_rest : ParsedEvents F → Count
  parsed_rest = either parser_rest (λ l. at_most (most_to_come parser_rest (linked_state l)))

  abbrev pub ids_rest : HeadingIds (ParsedEvents F) → Count
  ids_rest h = at_most (count_to_come parsed_rest (ids_state h))

  abbrev pub nested_rest : NestedEvents F → Count
  nested_rest = either parsed_rest (either ids_rest (λ p. ids_rest (unprefixed_source p)))

-- the callback that is there gives no answer, and stays
abbrev pub nobody_answers : DefaultBrokenLinkCallback → Question → Option Answer → DefaultBrokenLinkCallback → Type 0
nobody_answers old question answer new = (answer ≡ None) × (old ≡ new)

abbrev pub nested_events : TextEvents → NestedEvents DefaultBrokenLinkCallback
nested_events s = s.events

-- a call of `next` of the events of a text with what is added
abbrev pub text_steps : TextEvents → Option SourceItem → TextEvents → Type 0
text_steps s r t = nested_calls nobody_answers (nested_events s) r (nested_events t)

-- nothing has been read of the events of a text with what is added
abbrev pub IsNewAdded : AdditionsView → Source → TextEvents → Type 0
IsNewAdded a s events = IsNewWithAddedIds a.ids a.autolinks s (nested_events events)
