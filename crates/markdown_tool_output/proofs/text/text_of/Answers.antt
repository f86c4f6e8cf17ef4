-- The whole characters at the beginning of bytes are no more than the bytes.
use Rattle.std.proofs.Common.{◌∙◌, Global, Vec, ap, ℕ}
use Rattle.std.specs.Str.{valid_up_to}
use Rattle.markdown_tool_output.proofs.FileTextLemmas.{valid_within}
use Rattle.markdown_tool_output.proofs.text.text_of.Goals as goal

pub line_of-line-requires : goal.line_of-line-requires
line_of-line-requires c =
    valid_within c.args.bytes.items _ _
    (c.valid_up_to-offset.ensures ∙ ap valid_up_to c.utf8_error.ensures ∙ c.in-Err.ensures.valid_len)
    (c.as_bytes.ensures ∙ ap (λ (v : Vec ℕ Global). v.items) c.in-Err.ensures.err)
