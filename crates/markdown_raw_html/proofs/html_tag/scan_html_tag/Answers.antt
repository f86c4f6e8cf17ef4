use Rattle.std.proofs.Common.{◌≡◌, ◌+◌, ℕ, List, Option, Some, None, drop, take, refl}
use Rattle.std.proofs.lemmas.Bool.{eq-eqb, ne_eqb}
use Rattle.std.proofs.lemmas.List.{take_rest}
use Rattle.std.specs.Option.{option_map}
use Rattle.markdown_raw_html.specs.HtmlTag.{html_tag}
use Rattle.markdown_raw_html.specs.TagSource.{tag_at, tag_lengths, tag_of}
use Rattle.markdown_raw_html.specs.TagText.{source_after, text_in}
use Rattle.markdown_raw_html.proofs.TagSourceLemmas.{has_lengths, tag_end}
use Rattle.markdown_raw_html.proofs.html_tag.scan_html_tag.Goals as goal

-- the tag at a place, by its lengths
tag_is_of : (skipped : List ℕ → Option ℕ) (text : List ℕ) (place : ℕ) (found : Option (ℕ × ℕ))
    → found ≡ option_map (λ n. tag_lengths skipped (drop place text) n)
    (html_tag (text_in skipped (drop place text)))
    → option_map (tag_of skipped place (drop place text)) found ≡ tag_at skipped text place
tag_is_of skipped text place found is = rw is (cases (html_tag (text_in skipped (drop place text))))
  where
    cases : (o : Option ℕ)
        → option_map (tag_of skipped place (drop place text))
        (option_map (λ n. tag_lengths skipped (drop place text) n) o)
        ≡ option_map (λ n. tag_of skipped place (drop place text)
        (tag_lengths skipped (drop place text) n)) o
    cases None = refl
    cases (Some n) = refl

pub returns-in_default-clause-value : goal.returns-in_default-clause-value
returns-in_default-clause-value g c =
    tag_is_of (g.R.LineRule.skipped c.args.rule.now) c.args.text.now c.args.at None
    (rw (c.as_bytes.ensures.value, take_rest) at c.in_default.ensures.value)

pub returns-then-count-read-clause-value : goal.returns-then-count-read-clause-value
returns-then-count-read-clause-value g c =
    let is = tag_is_of (g.R.LineRule.skipped c.args.rule.now) c.args.text.now c.args.at
    (Some (c.in-Some.read, c.in-Some.count))
    (rw (c.as_bytes.ensures.value, take_rest) at c.in-Some.ensures.value) in
    rw (eq-eqb c.in-Some.count c.in-Some.read c.if-count-read.true) at is

-- a tag with prefixes is copied
copied : (skipped : List ℕ → Option ℕ) (text : List ℕ) (place read count : ℕ)
    → Some (read, count) ≡ option_map (λ n. tag_lengths skipped (drop place text) n)
    (html_tag (text_in skipped (drop place text)))
    → (count ≡ read → ⊥)
    → Some (place + read, Some (take count (text_in skipped (drop place text))))
    ≡ tag_at skipped text place
copied skipped text place read count is other =
    rw (ne_eqb count read other) at (tag_is_of skipped text place (Some (read, count)) is)

pub returns-in_err-bytes-clause-plain : goal.returns-in_err-bytes-clause-plain
returns-in_err-bytes-clause-plain g c =
    λ plain.
    let tag = copied (g.R.LineRule.skipped c.args.rule.now) c.args.text.now c.args.at
    c.in-Some.read c.in-Some.count
    (rw (c.as_bytes.ensures.value, take_rest) at c.in-Some.ensures.value) c.if-count-read.false in
    let none = rw (← tag) at plain in
    cc

pub returns-clause-value : goal.returns-clause-value
returns-clause-value g c =
    rw (c.in_ok-bytes.ensures, c.as_bytes.ensures.value, take_rest)
    (copied (g.R.LineRule.skipped c.args.rule.now) c.args.text.now c.args.at
    c.in-Some.read c.in-Some.count
    (rw (c.as_bytes.ensures.value, take_rest) at c.in-Some.ensures.value) c.if-count-read.false)

pub returns-then-count-read-clause-boundary : goal.returns-then-count-read-clause-boundary
returns-then-count-read-clause-boundary g c =
    let skipped = g.R.LineRule.skipped c.args.rule.now in
    let source = drop c.args.at c.args.text.now in
    let has = has_lengths skipped source c.in-Some.read c.in-Some.count
    (rw (c.as_bytes.ensures.value, take_rest) at c.in-Some.ensures.value) in
    rw has.read_is (tag_end skipped c.args.text.now (source_after skipped c.in-Some.count source)
    c.args.at c.in-Some.count c.utf8.text c.requires has.tag)

pub copy_text-requires : goal.copy_text-requires
copy_text-requires g c =
    let skipped = g.R.LineRule.skipped c.args.rule.now in
    let source = drop c.args.at c.args.text.now in
    let has = has_lengths skipped source c.in-Some.read c.in-Some.count
    (rw (c.as_bytes.ensures.value, take_rest) at c.in-Some.ensures.value) in
    rw (c.as_bytes.ensures.value, take_rest) has.tag.within

pub returns-clause-boundary : goal.returns-clause-boundary
returns-clause-boundary g c =
    let skipped = g.R.LineRule.skipped c.args.rule.now in
    let source = drop c.args.at c.args.text.now in
    let has = has_lengths skipped source c.in-Some.read c.in-Some.count
    (rw (c.as_bytes.ensures.value, take_rest) at c.in-Some.ensures.value) in
    rw has.read_is (tag_end skipped c.args.text.now (source_after skipped c.in-Some.count source)
    c.args.at c.in-Some.count c.utf8.text c.requires has.tag)
