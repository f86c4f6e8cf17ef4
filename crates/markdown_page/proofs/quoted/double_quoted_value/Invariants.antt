-- What is read so far, and what is left.
use Rattle.std.proofs.Common.{◌≡◌, [], IsUtf8, chars, string_bytes}
use Rattle.std.specs.Str.Iter.{chars_rest}
use Rattle.markdown_page.specs.MetadataTitle.{double_quoted}
use Rattle.markdown_page.proofs.QuotedLemmas.{with_bytes}
use Rattle.markdown_page.proofs.quoted.double_quoted_value.Given as goal

abbrev pub invariant-loop-c : goal.invariant-loop-c
invariant-loop-c l = record {
  utf8 : IsUtf8 (chars_rest l.rest);
  read : with_bytes (string_bytes l.value) (double_quoted (chars (chars_rest l.rest)))
      ≡ with_bytes [] (double_quoted (chars l.text));
}
