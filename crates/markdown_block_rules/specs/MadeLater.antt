-- What items refer to that only resolving their chains makes.
use Rattle.std.specs.Prelude.{◌≡◌, Bool, true, false}
use Rattle.markdown_base.specs.Forest.{Each}
use Rattle.markdown_base.specs.declared.item.ItemBody.{ItemBody}
use Rattle.markdown_base.specs.declared.item.ItemBody.TheVariants as body
use Rattle.markdown_block_rules.specs.BlockRules.{block_tree}
use Rattle.markdown_base.specs.Source.{Source}

-- the body refers to what only resolving makes: the bytes of code, math or HTML, a link, or the name of a footnote
abbrev pub is_made_later : ItemBody → Bool
is_made_later (body.Code ix) = true
is_made_later (body.Math ix display) = true
is_made_later (body.OwnedInlineHtml ix) = true
is_made_later (body.Link ix) = true
is_made_later (body.Image ix) = true
is_made_later (body.FootnoteReference ix) = true
is_made_later other = false

-- no item of a text's blocks does
abbrev pub NothingIsMadeLater : Type 0
NothingIsMadeLater = (s : Source) → Each (λ a. is_made_later a.item.body ≡ false) (block_tree s)
