-- Where the destination and the title of a link or an image come from.
use Rattle.std.specs.Prelude.{◌≡◌, ℕ, ⊤, List, [], ◌∷◌}
use Rattle.markdown_base.specs.Event.{LinkView}
use Rattle.markdown_base.specs.declared.tag.LinkType.{LinkType}
use Rattle.markdown_base.specs.declared.tag.LinkType.TheVariants as kind
use Rattle.markdown_document.specs.Origins.{Origin, sliced, made, IsSliceWithin, IsSlicedOf}

-- the origins of a link's destination and of its title
pub record LinkOrigins : Type 0 where
  pub destination : Origin
  pub title : Origin

-- the origin that a link's type determines: the destination of an autolink, to a URI or to an address, is a slice of
-- the source, and so is the name of a wikilink; the destination of another link may have been made
abbrev pub destination_origin : LinkType → Origin
destination_origin kind.Autolink = sliced
destination_origin kind.Email = sliced
destination_origin (kind.WikiLink has_pothole) = sliced
destination_origin kind.Inline = made
destination_origin kind.Reference = made
destination_origin kind.ReferenceUnknown = made
destination_origin kind.Collapsed = made
destination_origin kind.CollapsedUnknown = made
destination_origin kind.Shortcut = made
destination_origin kind.ShortcutUnknown = made

-- the origin says that the bytes are a slice of the source within these byte offsets, and they are
abbrev pub IsSlice : List ℕ → (start end : ℕ) → Origin → List ℕ → Type 0
IsSlice source start end sliced bytes = IsSliceWithin source start end bytes
IsSlice source start end other bytes = ⊥

-- a link leads to a slice of its range in the source: its destination is one, and it has neither a title nor a label
pub record LeadsToSlice (source : List ℕ) (start end : ℕ) (origin : Origin) (link : LinkView) : Type 0 where
  pub destination : IsSlice source start end origin link.destination
  pub no_title : link.title ≡ []
  pub no_label : link.label ≡ []

-- the origin of a link's title, if the link is inline: of other titles only the bytes are known
abbrev pub titles_for : LinkType → Origin → List Origin
titles_for kind.Inline origin = origin ∷ []
titles_for other origin = []

-- the title of an inline link is a slice of the source within these byte offsets, if its origin says so; nothing is
-- said of other titles
abbrev pub IsTitleFrom : List ℕ → (start end : ℕ) → LinkType → Origin → List ℕ → Type 0
IsTitleFrom source start end kind.Inline origin title = IsSlicedOf source start end origin title
IsTitleFrom source start end other origin title = ⊤

-- A link or an image over this range comes from the source: an autolink and a wikilink lead to a slice of the range,
-- and the title of an inline link is one, if its origin says so.
pub record IsLinkFrom (source : List ℕ) (start end : ℕ) (origins : LinkOrigins) (link : LinkView) : Type 0 where
  pub leads : destination_origin link.kind ≡ sliced → LeadsToSlice source start end origins.destination link
  pub title : IsTitleFrom source start end link.kind origins.title link.title
