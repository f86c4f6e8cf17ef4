-- What is made of the line so far, with what is still to be read of it, is all of it.
use Rattle.std.proofs.Common.{rules, ◌≡◌, ℕ, ◌≤◌, List, [], Some, true, refl, sym, ap, ◌∙◌, subst, append-nil, arith}
use Rattle.std.proofs.Common.{slice_index}
use Rattle.std.proofs.lemmas.Bool.Decides.{nat_tests}
use Rattle.std.specs.Str.{IsCharBoundary}
use Rattle.markdown_base.specs.Forest.{Forest}
use Rattle.markdown_builder.specs.BuilderView.{BuilderView, with_items}
use Rattle.markdown_builder.specs.Shown.{Shown}
use Rattle.markdown_items.specs.declared.extensions.ItemSyntax.{ItemSyntax}
use Rattle.markdown_items.specs.declared.found.LineRange.{LineRange}
use Rattle.markdown_items.specs.ContentItems.{AddsItems, AddsTexts, content_items}
use Rattle.markdown_items.specs.FoundFits.{AppendsFound, next_after, view_after}
use Rattle.markdown_items.specs.LineItems.{is_special, IsFirstSpecial}
use Rattle.markdown_items.specs.RestOfLine.{AwaitsRest, HasSpecialRun}
use Rattle.markdown_items.proofs.RestOfLineLemmas.{past_plain, at_start, at_end, at_found, placed_after, begun_after}
use Rattle.markdown_items.proofs.RestOfLineLemmas.{adds_found, adds_more, adds_none, more_texts, no_run, no_texts}
use Rattle.markdown_items.proofs.RestOfLineLemmas.{IsSame, run_before_text, run_found, same_found, text_after}
use Rattle.markdown_items.proofs.RestOfLineLemmas.{texts_found}
use Rattle.markdown_items.proofs.ItemLemmas.{goes_on}
use Rattle.markdown_items.proofs.line_items.items.Goals as goal

pub line-init : goal.line-init
line-init c =
    let view : BuilderView = c.args.builder.now in
    let extensions = c.of.result in
    let at = c.first_special-at.result in
    let bytes = c.as_bytes-bytes.ensures.value ∙ c.text.ensures in
    let first : IsFirstSpecial extensions.dashes view.text view.at c.args.end at =
    subst (λ (t : List ℕ). IsFirstSpecial extensions.dashes t view.at c.args.end at) bytes
    (subst (λ n. IsFirstSpecial extensions.dashes c.as_bytes-bytes.result.now n c.args.end at) c.at.ensures.value
    c.first_special-at.ensures) in
    record {
      same = refl;
      inside = adds_none view;
      texts = no_texts view;
      begun = omega arith;
      placed = first.low;
      within = first.high;
      special = c.first_special-at.ensures.stops;
      over = λ special. special;
      rest = λ over. rw c.at.ensures.value
          (past_plain (record { start = view.at; end = c.args.end; extensions = extensions })
          (with_items view.levels (content_items view.text extensions view.at c.args.end)) view view.at at
          (omega arith) first (at_start extensions view c.args.end over));
    }

pub append_special-requires : goal.append_special-requires
append_special-requires c =
    let at = c.line.at in
    let text : c.args.builder.now.text ≡ c.line.builder.text =
    sym (ap (λ (v : BuilderView). v.text) c.line.invariant.same) in
    let bytes : c.as_bytes-bytes.result.now ≡ c.line.builder.text =
    c.as_bytes-bytes.ensures.value ∙ (c.text.ensures ∙ text) in
    record {
      inside = rw c.line.invariant.same c.requires.inside;
      placed = c.line.invariant.placed;
      here = record {
        start = subst (λ (t : List ℕ). IsCharBoundary t c.at.result) text c.at.ensures.boundary;
        begun = omega (arith, c.at.ensures.value, c.line.invariant.begun, c.line.invariant.placed);
        more = c.line-test.true;
        end = subst (λ (t : List ℕ). IsCharBoundary t c.args.end) text c.requires.boundary;
        special = subst (λ (t : List ℕ). is_special c.of.result.dashes (slice_index t at) ≡ true) bytes
            (c.line.invariant.special c.line-test.true);
      };
    }

pub line-smaller : goal.line-smaller
line-smaller c =
    let line : LineRange = record { start = c.at.result; end = c.args.end; extensions = c.of.result } in
    let appends : AppendsFound c.line.builder line c.line.at c.append_special.new.builder c.in_ok-next.next =
    c.in_ok-next.ensures in
    let further = goes_on c.line.builder.text c.args.end c.line.at appends.found c.line-test.true appends.fits in
    let first = c.first_special-at-in-line.ensures in
    omega (arith, further.past, further.within, appends.further, first.low, first.high)

pub line-preserved : goal.line-preserved
line-preserved c =
    let old : BuilderView = c.args.builder.now in
    let view : BuilderView = c.line.builder in
    let line : LineRange = record { start = c.at.result; end = c.args.end; extensions = c.of.result } in
    let all : List (Forest Shown) =
    with_items old.levels (content_items old.text c.of.result old.at c.args.end) in
    let at = c.line.at in
    let new : BuilderView = c.append_special.new.builder in
    let appends : AppendsFound view line at new c.in_ok-next.next = c.in_ok-next.ensures in
    let found = appends.found in
    let next = next_after at found in
    let then = c.first_special-at-in-line.result in
    let less = c.line-test.true in
    let placed = c.line.invariant.placed in
    let same_bytes : c.as_bytes-bytes.result.now ≡ view.text =
    c.as_bytes-bytes.ensures.value
    ∙ (c.text.ensures ∙ sym (ap (λ (v : BuilderView). v.text) c.line.invariant.same)) in
    let fits = appends.fits in
    let after = appends.after in
    let special : is_special line.extensions.dashes (slice_index view.text at) ≡ true =
    subst (λ (t : List ℕ). is_special line.extensions.dashes (slice_index t at) ≡ true) same_bytes
    (c.line.invariant.special less) in
    let ahead : new.at ≤ next =
    subst (λ (v : BuilderView). v.at ≤ next) (sym after) (placed_after line view at found placed less fits) in
    let further : view.at ≤ new.at =
    subst (λ (v : BuilderView). view.at ≤ v.at) (sym after) (begun_after line view at found placed less fits) in
    record {
      same = subst (IsSame old) (sym after) (same_found old view line at found c.line.invariant.same);
      inside = subst (λ (v : BuilderView). AddsItems old v) (sym after)
          (adds_more old view (view_after view line at found) c.line.invariant.inside
          (adds_found view line at found));
      texts = subst (λ (v : BuilderView). AddsTexts old v) (sym after)
          (more_texts old view (view_after view line at found) c.line.invariant.texts
          (texts_found view line at found));
      begun = omega (arith, c.line.invariant.begun, further);
      placed = search rules;
      within = search rules;
      special = search rules;
      over = λ special_before. subst (λ (v : BuilderView). HasSpecialRun line.extensions v) (sym after)
          (run_found view line at found special (c.line.invariant.over special_before));
      rest = λ over.
          let awaits : AwaitsRest line all new next =
          subst (λ (v : BuilderView). AwaitsRest line all v next) (sym after)
          (at_found line all view at found placed less special fits appends.value
          (c.line.invariant.rest over)) in
          let text : c.as_bytes-bytes.result.now ≡ new.text =
          same_bytes ∙ sym (ap (λ (v : BuilderView). v.text) after ∙ text_after line view at found) in
          let first : IsFirstSpecial line.extensions.dashes new.text next line.end then =
          subst (λ (t : List ℕ). IsFirstSpecial line.extensions.dashes t next line.end then) text
          (subst (λ n. IsFirstSpecial line.extensions.dashes c.as_bytes-bytes.result.now n line.end then)
          appends.further c.first_special-at-in-line.ensures) in
          past_plain line all new next then ahead first awaits;
    }

pub returns-clause-further : goal.returns-clause-further
returns-clause-further c = λ over.
    let old : BuilderView = c.args.builder.now in
    let view : BuilderView = c.line.builder in
    let line : LineRange = record { start = c.at.result; end = c.args.end; extensions = c.of.result } in
    let all : List (Forest Shown) =
    with_items old.levels (content_items old.text c.of.result old.at c.args.end) in
    let last : c.line.at ≡ c.args.end = grind (arith, nat_tests, c.line.invariant.within, c.line-test.false) in
    let awaits : AwaitsRest line all view c.args.end =
    subst (λ n. AwaitsRest line all view n) last (c.line.invariant.rest over) in
    ap (λ (v : BuilderView). v.levels) c.in_ok-append_text.ensures
    ∙ (at_end line all view awaits
    ∙ ap (λ e. with_items old.levels (content_items old.text e old.at c.args.end)) c.of.ensures)

pub returns-clause-inside : goal.returns-clause-inside
returns-clause-inside c =
    adds_more c.args.builder.now c.line.builder c.append_text.new.builder c.line.invariant.inside
    (_, ap (λ (v : BuilderView). v.levels) c.in_ok-append_text.ensures)

pub returns-clause-texts : goal.returns-clause-texts
returns-clause-texts c =
    more_texts c.args.builder.now c.line.builder c.append_text.new.builder c.line.invariant.texts
    ([], ap (λ (v : BuilderView). v.texts) c.in_ok-append_text.ensures ∙ sym (append-nil c.line.builder.texts))

pub returns-clause-items : goal.returns-clause-items
returns-clause-items c = λ none.
    returns-clause-further c (no_run c.args.end c.args.builder.now c.args.builder.now.at none)

pub returns-clause-over : goal.returns-clause-over
returns-clause-over c = λ special byte some.
    let kept : (b : ℕ) → c.line.builder.run ≡ Some b → is_special c.of.result.dashes b ≡ true =
    c.line.invariant.over (subst (λ e. HasSpecialRun e c.args.builder.now) (sym c.of.ensures) special) in
    subst (λ (e : ItemSyntax). is_special e.dashes byte ≡ true) c.of.ensures
    (run_before_text c.of.result c.line.builder c.args.end byte kept
    (sym (ap (λ (v : BuilderView). v.run) c.in_ok-append_text.ensures) ∙ some))
