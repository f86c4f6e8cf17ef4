-- What is written so far, and what is left.
use Rattle.std.proofs.Common.{◌≡◌, ◌++◌, IsUtf8, chars, flat_map, string_bytes}
use Rattle.std.specs.Str.Iter.{chars_rest}
use Rattle.markdown_page.specs.PageHtml.{html_char, html_escaped}
use Rattle.markdown_page.proofs.page.push_escaped.Given as goal

abbrev pub invariant-loop-c : goal.invariant-loop-c
invariant-loop-c l = record {
  utf8 : IsUtf8 (chars_rest l.c-iterator);
  written : string_bytes l.html ++ flat_map html_char (chars (chars_rest l.c-iterator))
      ≡ string_bytes l.fn.html ++ html_escaped l.text;
}
