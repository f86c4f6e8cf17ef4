-- The open blocks, the outermost first: the innermost of them, and those outside it.
use Rattle.std.specs.Prelude.{◌≡◌, ℕ, Bool, true, false, ◌==◌, ◌||◌, List, [], ◌∷◌, ◌++◌, take}
use Rattle.std.specs.Prelude.{if◌then◌else◌}
use Rattle.std.specs.Option.{option_map_or}
use Rattle.markdown_base.specs.declared.item.ItemBody.{ItemBody}
use Rattle.markdown_base.specs.declared.item.ItemBody.TheVariants as body
use Rattle.markdown_builder.specs.declared.open_block.OpenBlock.{OpenBlock}
use Rattle.markdown_builder.specs.BuilderView.{BuilderView, innermost_block}

-- all but the last, such as the open blocks without the innermost
unfoldable pub outer_of : {A : Type 0} → List A → List A
outer_of [] = []
outer_of (block ∷ []) = []
outer_of (block ∷ inner ∷ blocks) = block ∷ outer_of (inner ∷ blocks)

-- the body is that of a list
abbrev pub is_list : ItemBody → Bool
is_list (body.List tight character first) = true
is_list other = false

-- the body is that of a list whose markers have this character
abbrev pub is_list_of : ℕ → ItemBody → Bool
is_list_of character (body.List tight other first) = other == character
is_list_of character other = false

-- the body is that of a block quote
abbrev pub is_quote : ItemBody → Bool
is_quote (body.BlockQuote kind) = true
is_quote other = false

-- the body is that of a table
abbrev pub is_table : ItemBody → Bool
is_table (body.Table alignments) = true
is_table other = false

-- the body of the innermost open block passes a test
abbrev pub innermost_is : (ItemBody → Bool) → List OpenBlock → Bool
innermost_is test blocks = option_map_or (λ block. test block.body) (innermost_block blocks) false

-- the innermost block is replaced, and those outside it stay
pub record InnermostBecomes (old new : List OpenBlock) (now : OpenBlock → OpenBlock) : Type 0 where
  pub block : OpenBlock
  pub was : old ≡ outer_of old ++ block ∷ []
  pub becomes : new ≡ outer_of old ++ now block ∷ []

-- a leaf block is open: a leaf of the builder, or a table
abbrev pub has_leaf : BuilderView → Bool
has_leaf builder = builder.leaf || innermost_is is_table builder.blocks

-- the open blocks without a leaf block
abbrev pub without_leaf : BuilderView → List OpenBlock
without_leaf builder = if has_leaf builder then outer_of builder.blocks else builder.blocks

-- the open blocks without the innermost, where that is a list
abbrev pub without_list : List OpenBlock → List OpenBlock
without_list blocks = if innermost_is is_list blocks then outer_of blocks else blocks

-- the outermost `depth` blocks, without the innermost of them where that is a list
abbrev pub room_in : ℕ → List OpenBlock → List OpenBlock
room_in depth blocks = without_list (take depth blocks)
