-- The title in the metadata before a text: in the block that its events begin with.
use Rattle.std.specs.Prelude.{ℕ, List, [], ◌∷◌, ◌++◌, Option, Some, None, option_and_then}
use Rattle.markdown_base.specs.Event.{EventView, TagView, metadata_block, start, text}
use Rattle.markdown_base.specs.Source.{Source}
use Rattle.markdown_base.specs.declared.tag.MetadataBlockKind.{MetadataBlockKind}
use Rattle.markdown_inline.specs.Elements.{Placed}
use Rattle.markdown_inline.specs.ReadingOfText.{events_of_text}
use Rattle.markdown_page.specs.MetadataTitle.{metadata_title}

-- the kind of the metadata whose tag this is; other tags are of none
abbrev pub tag_metadata : TagView → Option MetadataBlockKind
tag_metadata (metadata_block kind) = Some kind
tag_metadata other = None

-- the kind of the metadata that begin with an event
abbrev pub opened_metadata : EventView → Option MetadataBlockKind
opened_metadata (start tag) = tag_metadata tag
opened_metadata other = None

-- the text of an event and what is later; nothing where the event is no Text
abbrev pub text_then : EventView → (later : List ℕ) → List ℕ
text_then (text t) later = t ++ later
text_then other later = []

-- the Texts that events begin with, joined
abbrev pub leading_text : List Placed → List ℕ
leading_text [] = []
leading_text (e ∷ events) = text_then e.0 (leading_text events)

-- the title in the metadata that events begin with, if they begin with some
abbrev pub leading_title : List Placed → Option (List ℕ)
leading_title [] = None
leading_title (e ∷ events) =
    option_and_then (λ kind. metadata_title kind (leading_text events)) (opened_metadata e.0)

-- the title in the metadata before a text, if there is one
abbrev pub title_in_metadata : Source → Option (List ℕ)
title_in_metadata s = leading_title (events_of_text s)
