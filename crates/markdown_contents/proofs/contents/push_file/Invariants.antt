use Rattle.std.proofs.Common.{◌≡◌, ◌++◌, IsUtf8, string_bytes}
use Rattle.std.specs.Str.Iter.{chars_rest}
use Rattle.std.proofs.Common.{chars, flat_map}
use Rattle.markdown_contents.specs.Contents.{file_char}
use Rattle.markdown_contents.proofs.contents.push_file.Given as goal

-- what is written so far, and what is left
abbrev pub invariant-loop-c : goal.invariant-loop-c
invariant-loop-c l = record {
  utf8 : IsUtf8 (chars_rest l.c-iterator);
  written : string_bytes l.list ++ flat_map file_char (chars (chars_rest l.c-iterator))
      ≡ string_bytes l.fn.list ++ flat_map file_char (chars l.name);
}
