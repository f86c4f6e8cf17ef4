-- What pairs and quotes become: a layer gives an event before what is in it, and so is not open; reading a quote makes
-- a Text, and reading anything else keeps it.
use Rattle.std.proofs.Common.{◌≡◌, ℕ, Bool, true, false, List, refl}
use Rattle.std.specs.Prelude.{◌&&◌, if◌then◌else◌}
use Rattle.markdown_base.specs.Event.{TagView}
use Rattle.markdown_document.specs.Document.{Shape, plain, unresolved, is_unresolved, text_over}
use Rattle.markdown_document.specs.TreeNodes.{GivesFirst, is_plain}
use Rattle.markdown_delims.specs.declared.extensions.Extensions.{Extensions}
use Rattle.markdown_delims.specs.declared.quotes.Kind.{Kind}
use Rattle.markdown_delims.specs.declared.quotes.Kind.TheVariants as kind
use Rattle.markdown_delims.specs.declared.run.Delimiter.{Delimiter}
use Rattle.markdown_delims.specs.declared.run.Delimiter.TheVariants.{Star, Underscore, Tilde, Caret}
use Rattle.markdown_delims.specs.Layers.{enclosed_if, layer_of_one, layer_of_two}
use Rattle.markdown_delims.specs.Quotes.{synthesized, left_single, right_single, single_turn, double_turn, turn_by}

enclosed_gives : (b : Bool) (t : TagView) (other : Shape) → GivesFirst other → GivesFirst (enclosed_if b t other)
enclosed_gives true t other h = tt
enclosed_gives false t other h = h

pub two-gives : (m : Extensions) (d : Delimiter) (source : List ℕ) → GivesFirst (layer_of_two m d source)
two-gives m Star source = tt
two-gives m Underscore source = tt
two-gives m Tilde source = enclosed_gives m.strikethrough _ (text_over source) tt
two-gives m Caret source = enclosed_gives m.superscript _ (text_over source) tt

pub one-gives : (m : Extensions) (d : Delimiter) (source : List ℕ) → GivesFirst (layer_of_one m d source)
one-gives m Star source = tt
one-gives m Underscore source = tt
one-gives m Tilde source = enclosed_gives m.subscript _ _ (enclosed_gives m.strikethrough _ (text_over source) tt)
one-gives m Caret source = enclosed_gives m.superscript _ (text_over source) tt

-- what gives an event first is not open
gives_closed : (shape : Shape) → GivesFirst shape → is_unresolved shape ≡ false
gives_closed (unresolved b) h = absurd h
gives_closed other h = refl

pub two-closed : (m : Extensions) (d : Delimiter) (source : List ℕ) → is_unresolved (layer_of_two m d source) ≡ false
two-closed m d source = gives_closed (layer_of_two m d source) (two-gives m d source)

pub one-closed : (m : Extensions) (d : Delimiter) (source : List ℕ) → is_unresolved (layer_of_one m d source) ≡ false
one-closed m d source = gives_closed (layer_of_one m d source) (one-gives m d source)

-- a shape that is neither open nor plain gives an event first
pub gives-first : (shape : Shape) → is_plain shape ≡ false → is_unresolved shape ≡ false → GivesFirst shape
gives-first plain p h = cc
gives-first (unresolved b) p h = cc
gives-first other p h = tt

-- what holds of a shape and of each Text of one character holds of what a turn makes of the shape
module _ (p : Shape → Type 0) (of_text : (c : ℕ) → p (synthesized c)) where
  left_if : (b : Bool) → p (if b then left_single else right_single)
  left_if true = of_text 8216
  left_if false = of_text 8217

  single_made : (is_closing opens single double later : Bool)
      → p (single_turn is_closing opens single double later).made
  single_made true opens single double later = of_text 8217
  single_made false opens single double later = left_if (opens && later)

  double_made : (is_closing opens single double : Bool) → p (double_turn is_closing opens single double).made
  double_made true opens single double = of_text 8221
  double_made false opens single double = of_text 8220

  pub turn-gives : (k : Kind) (shape : Shape) (single double later last : Bool) → (k ≡ kind.Break → p shape)
      → (k ≡ kind.Other → p shape) → p (turn_by k shape single double later last).made
  turn-gives (kind.Single opens closes) shape single double later last h i = single_made (single && closes) opens single
      double later
  turn-gives (kind.Double opens closes) shape single double later last h i = double_made (double && closes) opens single
      double
  turn-gives kind.Break shape single double later true h i = of_text 92
  turn-gives kind.Break shape single double later false h i = h refl
  turn-gives kind.Other shape single double later last h i = i refl

  pub turn-made : (k : Kind) (shape : Shape) (single double later last : Bool) → p shape
      → p (turn_by k shape single double later last).made
  turn-made k shape single double later last h = turn-gives k shape single double later last (λ _. h) (λ _. h)
