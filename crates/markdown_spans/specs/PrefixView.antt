-- The container prefix that a `ContainerPrefix` reads.
use Rattle.std.specs.Prelude.{ℕ, List, map}
use Rattle.markdown_spans.specs.declared.prefixes.ContainerPrefix.{ContainerPrefix}
use Rattle.markdown_spans.specs.ContainerPrefix.{prefix_length}
use Rattle.markdown_base.specs.declared.item.Item.{Item}
use Rattle.markdown_base.specs.declared.item.ItemBody.{ItemBody}

-- the bodies of some items
abbrev pub bodies_of : List Item → List ItemBody
bodies_of items = map (λ item. item.body) items

-- the length in bytes of the prefix after a line ending
unfoldable pub length_by : ContainerPrefix → List ℕ → ℕ
length_by prefix bytes = prefix_length prefix.gfm_footnotes (bodies_of prefix.containers.now) bytes
