-- What is left has a key if the value has one.
use Rattle.std.proofs.Common.{◌≡◌, IsUtf8, chars}
use Rattle.std.specs.Str.Iter.{chars_rest}
use Rattle.markdown_page.specs.MetadataTitle.{has_key}
use Rattle.markdown_page.proofs.value.has_key.Given as goal

abbrev pub invariant-loop-c : goal.invariant-loop-c
invariant-loop-c l = record {
  utf8 : IsUtf8 (chars_rest l.rest);
  same : has_key (chars (chars_rest l.rest)) ≡ has_key (chars l.value);
}
