use Rattle.std.specs.String.{string_bytes}
use Rattle.markdown_base.specs.CowText.{text_of}
use Rattle.markdown_out.specs.TagHtml.{further_class}
use Rattle.markdown_out.proofs.ByteListsLemmas.{StandsTo}
use Rattle.markdown_out.proofs.html.heading.push_further_classes.Given as goal

abbrev pub invariant-loop-class : goal.invariant-loop-class
invariant-loop-class l =
    StandsTo (λ class. further_class (text_of class)) (string_bytes l.s) (string_bytes l.initial.s)
    l.classes l.class-index
