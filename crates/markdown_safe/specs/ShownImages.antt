-- What becomes of images: they are shown, or are links, or only their alt text stays.
use Rattle.std.specs.Prelude.{[]}
use Rattle.markdown_base.specs.Event.{EventView, LinkView, start, end, text, image, link}
use Rattle.markdown_base.specs.declared.tag.TagEnd.TheVariants as closes
use Rattle.markdown_safe.specs.declared.rules.Images.{Images}
use Rattle.markdown_safe.specs.declared.rules.Images.TheVariants as images

-- what becomes of the Start of an image
abbrev pub image_start_shown : Images → LinkView → EventView
image_start_shown images.Shown i = start (image i)
image_start_shown images.Links i = start (link i)
image_start_shown images.Text i = text []

-- and of its End
abbrev pub image_end_shown : Images → EventView
image_end_shown images.Shown = end closes.Image
image_end_shown images.Links = end closes.Link
image_end_shown images.Text = text []

-- an event
abbrev pub shown_image : Images → EventView → EventView
shown_image rule (start (image i)) = image_start_shown rule i
shown_image rule (end closes.Image) = image_end_shown rule
shown_image rule e = e
