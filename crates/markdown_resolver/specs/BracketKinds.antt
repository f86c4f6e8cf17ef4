-- The items that are brackets, which are not resolved yet.
use Rattle.std.specs.Prelude.{true, false, Option, Some, None}
use Rattle.markdown_base.specs.declared.item.ItemBody.{ItemBody}
use Rattle.markdown_base.specs.declared.item.ItemBody.TheVariants as body
use Rattle.markdown_resolver.specs.declared.bracket_kind.BracketKind.{BracketKind}
use Rattle.markdown_resolver.specs.declared.bracket_kind.BracketKind.TheVariants.{Opener, Closer}

-- which bracket an item with this body is, if it is one
abbrev pub kind_of : ItemBody → Option BracketKind
kind_of body.MaybeLinkOpen = Some (Opener false)
kind_of body.MaybeImage = Some (Opener true)
kind_of (body.MaybeLinkClose could_be) = Some Closer
kind_of other = None
