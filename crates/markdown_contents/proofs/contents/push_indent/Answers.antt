-- Two spaces more are those of one level more.
use Rattle.std.proofs.Common.{◌∙◌, ◌++◌, ap, append_assoc, codes, string_bytes, sym}
use Rattle.markdown_contents.specs.Contents.{indent}
use Rattle.markdown_contents.proofs.ContentsLemmas.{indent-more}
use Rattle.markdown_contents.proofs.contents.push_indent.Goals as goal

pub loop-preserved : goal.loop-preserved
loop-preserved c =
    c.in_ok-push_str.ensures.bytes
    ∙ ap (λ w. w ++ codes "  ") c.loop.invariant
    ∙ append_assoc (string_bytes c.args.list.now) (indent c.loop.counter) (codes "  ")
    ∙ ap (λ w. string_bytes c.args.list.now ++ w) (sym (indent-more c.loop.counter))
