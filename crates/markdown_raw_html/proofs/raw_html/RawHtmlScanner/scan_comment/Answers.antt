use Rattle.std.proofs.Common.{◌≡◌, ◌+◌, Some, true, false, arith, drop, codes, refl, sym, ◌∙◌}
use Rattle.std.proofs.lemmas.List.{take_rest}
use Rattle.markdown_scan.specs.Beginnings.{begins_with}
use Rattle.markdown_raw_html.specs.RawHtml.{comment}
use Rattle.markdown_raw_html.proofs.RawHtmlLemmas.{closed_by, comment-ends, end_if, opening_fits}
use Rattle.markdown_raw_html.proofs.raw_html.RawHtmlScanner.scan_comment.Goals as goal

-- `<!-->`
short : (c : goal.Then-starts_with)
    → begins_with (codes "-->") (drop c.args.start c.args.self.now.text.now) ≡ true
short c = rw take_rest at (sym c.starts_with.ensures.value ∙ c.if-starts_with.true)

pub returns-then-starts_with-clause-value : goal.returns-then-starts_with-clause-value
returns-then-starts_with-clause-value c = rw (short c) refl

pub returns-then-starts_with-clause-within : goal.returns-then-starts_with-clause-within
returns-then-starts_with-clause-within c =
    opening_fits (codes "-->") c.args.self.now.text.now c.args.start c.requires (short c)

pub returns-then-starts_with-clause-closed : goal.returns-then-starts_with-clause-closed
returns-then-starts_with-clause-closed c =
    closed_by comment c.args.self.now.text.now c.args.start (Some (c.args.start + 3)) comment-ends
    (returns-then-starts_with-clause-value c)

-- `<!--->`
long : (c : goal.Then-starts_with-2)
    → begins_with (codes "--->") (drop c.args.start c.args.self.now.text.now) ≡ true
long c =
    rw take_rest at (sym c.starts_with-else-starts_with.ensures.value ∙ c.if-starts_with-2.true)

pub returns-then-starts_with-2-clause-value : goal.returns-then-starts_with-2-clause-value
returns-then-starts_with-2-clause-value c =
    let no_short : begins_with (codes "-->") (drop c.args.start c.args.self.now.text.now) ≡ false =
    rw take_rest at (sym c.starts_with.ensures.value ∙ c.if-starts_with.false) in
    rw (no_short, long c) refl

pub returns-then-starts_with-2-clause-within : goal.returns-then-starts_with-2-clause-within
returns-then-starts_with-2-clause-within c =
    opening_fits (codes "--->") c.args.self.now.text.now c.args.start c.requires (long c)

pub returns-then-starts_with-2-clause-closed : goal.returns-then-starts_with-2-clause-closed
returns-then-starts_with-2-clause-closed c =
    closed_by comment c.args.self.now.text.now c.args.start (Some (c.args.start + 4)) comment-ends
    (returns-then-starts_with-2-clause-value c)

-- `<!--` and what follows
pub end-requires : goal.end-requires
end-requires c =
    let self = c.args.self.now in
    let begins : begins_with (codes "--") (drop c.args.start self.text.now) ≡ true =
    rw take_rest at (sym c.starts_with-else-starts_with-2.ensures.value
    ∙ c.if-starts_with-3.true) in
    rw self.comments_of (opening_fits (codes "--") self.text.now c.args.start c.requires begins)

pub overflow_add-start : goal.overflow_add-start
overflow_add-start c = omega (arith, end-requires c)

pub returns-then-starts_with-3-clause-value : goal.returns-then-starts_with-3-clause-value
returns-then-starts_with-3-clause-value c =
    let self = c.args.self.now in
    let bytes = drop c.args.start self.text.now in
    let no_short : begins_with (codes "-->") bytes ≡ false =
    rw take_rest at (sym c.starts_with.ensures.value ∙ c.if-starts_with.false) in
    let no_long : begins_with (codes "--->") bytes ≡ false =
    rw take_rest at (sym c.starts_with-else-starts_with.ensures.value
    ∙ c.if-starts_with-2.false) in
    let begins : begins_with (codes "--") bytes ≡ true =
    rw take_rest at (sym c.starts_with-else-starts_with-2.ensures.value
    ∙ c.if-starts_with-3.true) in
    let found = rw (self.comments_of, self.comments_end) at c.end.ensures.value in
    rw (no_short, no_long) (found ∙ end_if (codes "-->") self.text.now c.args.start 2
    (begins_with (codes "--") bytes) begins)

pub returns-then-starts_with-3-clause-closed : goal.returns-then-starts_with-3-clause-closed
returns-then-starts_with-3-clause-closed c =
    closed_by comment c.args.self.now.text.now c.args.start c.end.result comment-ends
    (returns-then-starts_with-3-clause-value c)

pub returns-else-starts_with-3-clause-value : goal.returns-else-starts_with-3-clause-value
returns-else-starts_with-3-clause-value c =
    let bytes = drop c.args.start c.args.self.now.text.now in
    let no_short : begins_with (codes "-->") bytes ≡ false =
    rw take_rest at (sym c.starts_with.ensures.value ∙ c.if-starts_with.false) in
    let no_long : begins_with (codes "--->") bytes ≡ false =
    rw take_rest at (sym c.starts_with-else-starts_with.ensures.value
    ∙ c.if-starts_with-2.false) in
    let no : begins_with (codes "--") bytes ≡ false =
    rw take_rest at (sym c.starts_with-else-starts_with-2.ensures.value
    ∙ c.if-starts_with-3.false) in
    rw (no_short, no_long, no) refl
