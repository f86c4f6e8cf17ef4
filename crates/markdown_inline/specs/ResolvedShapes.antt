-- The shapes of what a chain is resolved to: those of the chain, and events and tags of inline markup. No heading and
-- no block is made.
use Rattle.std.specs.Prelude.{◌≡◌, ℕ, ⊤, Bool, true}
use Rattle.markdown_base.specs.Event.{EventView, text, code, inline_math, display_math, inline_html}
use Rattle.markdown_base.specs.Event.{footnote_reference}
use Rattle.markdown_base.specs.Event.{TagView, emphasis, strong, strikethrough, superscript, subscript, link, image}
use Rattle.markdown_base.specs.Forest.{Forest, Each}
use Rattle.markdown_document.specs.EnclosingBlocks.{EnclosingBlocks}
use Rattle.markdown_document.specs.ChainRest.{cut_shape}
use Rattle.markdown_document.specs.Document.{Notes, Shape, leaf, enclosed, TreeNode}
use Rattle.markdown_document.specs.Setting.{ReferenceState, Setting}
use Rattle.markdown_inline.specs.ResolvedDocument.{resolved_chain}

-- the event can be made of open items
abbrev pub IsMadeEvent : EventView → Type 0
IsMadeEvent (text t) = ⊤
IsMadeEvent (code t) = ⊤
IsMadeEvent (inline_math t) = ⊤
IsMadeEvent (display_math t) = ⊤
IsMadeEvent (inline_html t) = ⊤
IsMadeEvent (footnote_reference name) = ⊤
IsMadeEvent other = ⊥

-- the tag is that of a pair of delimiters
abbrev pub IsPairedTag : TagView → Type 0
IsPairedTag emphasis = ⊤
IsPairedTag strong = ⊤
IsPairedTag strikethrough = ⊤
IsPairedTag superscript = ⊤
IsPairedTag subscript = ⊤
IsPairedTag other = ⊥

-- the tag can be made of open items
abbrev pub IsMadeTag : TagView → Type 0
IsMadeTag (link v) = ⊤
IsMadeTag (image v) = ⊤
IsMadeTag other = IsPairedTag other

-- the shape can be made of open items
abbrev pub IsMadeShape : Shape → Type 0
IsMadeShape (leaf e origins) = IsMadeEvent e
IsMadeShape (enclosed tag origins) = IsMadeTag tag
IsMadeShape other = ⊥

-- each shape is made, or comes from the chain, perhaps without its first bytes: so a test that accepts all that can be
-- made accepts each shape of what a chain is resolved to, where it accepts each shape of the chain and does not depend
-- on first bytes
abbrev pub ShapesLaw : Type 0 → Type 0
ShapesLaw A =
    (passes : Shape → Bool) → ((shape : Shape) → IsMadeShape shape → passes shape ≡ true)
    → ((n : ℕ) (shape : Shape) → passes (cut_shape n shape) ≡ passes shape)
    → (s : Setting) (notes : Notes A) (above : EnclosingBlocks) (chain : Forest (TreeNode A)) (state : ReferenceState)
    → Each (λ (a : TreeNode A). passes a.part.shape ≡ true) chain
    → Each (λ (a : TreeNode A). passes a.part.shape ≡ true) (resolved_chain s notes above chain state).trees
