use Rattle.std.proofs.Common.{sym}
use Rattle.markdown_spans.proofs.AfterLessLemmas.{tag_is_text}
use Rattle.markdown_spans.proofs.after_less.scan_tag.Goals as goal

pub into_text-requires : goal.into_text-requires
into_text-requires c =
    let arm = c.in-Some-Some in
    tag_is_text c.args.prefix.now c.args.text.now c.args.start arm.end arm.bytes.items c.utf8.text c.requires
    (sym (rw (arm.is, arm.end-is, arm.bytes-1-is) at c.in_ok-scan_html_tag.ensures.value))
