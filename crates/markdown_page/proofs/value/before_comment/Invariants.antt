-- What is written so far, and what is left.
use Rattle.std.proofs.Common.{◌≡◌, ◌++◌, IsUtf8, chars, encode_utf8_all, string_bytes}
use Rattle.std.specs.Str.Iter.{chars_rest}
use Rattle.markdown_page.specs.MetadataTitle.{before_comment}
use Rattle.markdown_page.proofs.value.before_comment.Given as goal

abbrev pub invariant-loop-c : goal.invariant-loop-c
invariant-loop-c l = record {
  utf8 : IsUtf8 (chars_rest l.rest);
  written : string_bytes l.before ++ encode_utf8_all (before_comment (chars (chars_rest l.rest)))
      ≡ encode_utf8_all (before_comment (chars l.text));
}
