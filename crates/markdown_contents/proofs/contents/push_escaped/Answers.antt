-- A character more is written, and one fewer is left.
use Rattle.std.proofs.Common.{◌∙◌, ap, append-nil, string_bytes, sym, ◌++◌}
use Rattle.std.proofs.lemmas.Str.{IsUtf8-past_char}
use Rattle.std.specs.Str.Iter.{chars_rest}
use Rattle.markdown_contents.specs.Contents.{escaped_char}
use Rattle.markdown_contents.proofs.contents.push_escaped.Goals as goal
use Rattle.markdown_base.proofs.ListLemmas.{written-none, written-on}

pub loop-c-preserved : goal.loop-c-preserved
loop-c-preserved c =
    let held = c.loop-c.invariant in
    record {
      utf8 = IsUtf8-past_char _ _ c.in-Some.c held.utf8 c.in-Some.ensures.steps.0;
      written = written-on escaped_char _ _ _ _ _ c.in-Some.c held.utf8 c.in-Some.ensures.steps.0
          c.in_ok-push_escaped_char.ensures.ok held.written;
    }

pub returns-clause-ok : goal.returns-clause-ok
returns-clause-ok c =
    sym (append-nil (string_bytes c.loop-c.list))
    ∙ ap (λ w. string_bytes c.loop-c.list ++ w)
    (sym (written-none escaped_char (chars_rest c.loop-c.c-iterator) c.in-None.ensures.steps.0.0))
    ∙ c.loop-c.invariant.written
