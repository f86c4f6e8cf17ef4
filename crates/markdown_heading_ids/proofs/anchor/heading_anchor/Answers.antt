-- A character more is written, and one fewer is left.
use Rattle.std.proofs.Common.{◌∙◌, ◌≡◌, IsUtf8, ap, append-nil, chars, flat_map, string_bytes, subst, sym, ◌++◌}
use Rattle.std.proofs.lemmas.Str.{IsUtf8-past_char}
use Rattle.std.specs.Str.Iter.{chars_rest}
use Rattle.markdown_heading_ids.specs.Anchors.{anchor_part}
use Rattle.markdown_heading_ids.proofs.anchor.heading_anchor.Goals as goal
use Rattle.markdown_base.proofs.ListLemmas.{written-none, written-on}

pub loop-c-init : goal.loop-c-init
loop-c-init c =
    let rest : chars_rest c.into_iter-c-iterator.result ≡ c.as_str.result.now =
    ap chars_rest c.into_iter-c-iterator.ensures.into_iter_gives ∙ c.chars-c-items.ensures.rest in
    record {
      utf8 = subst IsUtf8 (sym rest) c.as_str.utf8;
      written = ap (λ w. w ++ flat_map anchor_part (chars (chars_rest c.into_iter-c-iterator.result)))
          c.new-anchor.ensures.bytes
          ∙ ap (λ w. flat_map anchor_part (chars w)) (rest ∙ c.as_str.ensures.value ∙ c.in_ok-lower.ensures.value);
    }

pub loop-c-preserved : goal.loop-c-preserved
loop-c-preserved c =
    let held = c.loop-c.invariant in
    record {
      utf8 = IsUtf8-past_char _ _ c.in-Some.c held.utf8 c.in-Some.ensures.steps.0;
      written = written-on anchor_part _ _ _ _ _ c.in-Some.c held.utf8 c.in-Some.ensures.steps.0
          c.in_ok-push_anchor_part.ensures.ok held.written;
    }

pub returns-clause-anchor : goal.returns-clause-anchor
returns-clause-anchor c =
    sym (append-nil (string_bytes c.loop-c.anchor))
    ∙ ap (λ w. string_bytes c.loop-c.anchor ++ w)
    (sym (written-none anchor_part (chars_rest c.loop-c.c-iterator) c.in-None.ensures.steps.0.0))
    ∙ c.loop-c.invariant.written
