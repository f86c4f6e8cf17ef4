-- The folding of the label has a position if and only if the index contains it.
use Rattle.std.proofs.Common.{◌≡◌, sym, ◌∙◌, ap, false, string_bytes, is_some, length, refl}
use Rattle.std.specs.BTreeMap.{get_by_text}
use Rattle.std.proofs.lemmas.Map.Text.{btree_map_updates_text}
use Rattle.markdown_base.specs.CowText.{text_of}
use Rattle.markdown_defs.specs.Folding.{case_folding, folded_text}
use Rattle.markdown_defs.specs.DefinitionsIndex.{place_of}
use Rattle.markdown_defs.proofs.IndexLemmas.{left_out, put_last, indexed_push}
use Rattle.markdown_defs.proofs.definitions.keep_first.Goals as goal

pub returns-then-contains_key-clause-kept : goal.returns-then-contains_key-clause-kept
returns-then-contains_key-clause-kept c =
    let text : string_bytes c.in_ok-folded.folded ≡ folded_text (text_of c.args.entry.0) = c.in_ok-folded.ensures.folded
    ∙ ap folded_text c.as_str.ensures in
    let asked = rw text at (sym (rw c.as_str-2.ensures.value at c.contains_key.ensures) ∙ c.if-contains_key.true) in
    left_out c.args.kept.now.items c.args.entry (ap is_some (sym (c.requires (case_folding (text_of c.args.entry.0))))
    ∙ asked)

pub returns-then-contains_key-clause-indexed : goal.returns-then-contains_key-clause-indexed
returns-then-contains_key-clause-indexed c = c.requires

pub returns-clause-kept : goal.returns-clause-kept
returns-clause-kept c =
    let text : string_bytes c.in_ok-folded.folded ≡ folded_text (text_of c.args.entry.0) = c.in_ok-folded.ensures.folded
    ∙ ap folded_text c.as_str.ensures in
    let asked = rw text at (sym (rw c.as_str-2.ensures.value at c.contains_key.ensures) ∙ c.if-contains_key.false) in
    rw c.in_ok-push.ensures.items (put_last c.args.kept.now.items c.args.entry
    (ap is_some (sym (c.requires (case_folding (text_of c.args.entry.0)))) ∙ asked))

pub returns-clause-indexed : goal.returns-clause-indexed
returns-clause-indexed c =
    let text : string_bytes c.in_ok-folded.folded ≡ folded_text (text_of c.args.entry.0) = c.in_ok-folded.ensures.folded
    ∙ ap folded_text c.as_str.ensures in
    let asked = rw text at (sym (rw c.as_str-2.ensures.value at c.contains_key.ensures) ∙ c.if-contains_key.false) in
    let absent : is_some (place_of (case_folding (text_of c.args.entry.0)) c.args.kept.now.items)
    ≡ false = ap is_some (sym (c.requires (case_folding (text_of c.args.entry.0)))) ∙ asked in
    let last : c.len.result ≡ length c.args.kept.now.items = c.len.ensures ∙ c.args.kept.now.ok.0 in
    let updated = rw (text, last) at
    (btree_map_updates_text (string_bytes c.in_ok-folded.folded) c.args.by_folding.now c.insert.new.self _
    c.in_ok-insert.ensures.updates) in
    rw c.in_ok-push.ensures.items (
    indexed_push (get_by_text c.args.by_folding.now) (get_by_text c.insert.new.self)
    (case_folding (text_of c.args.entry.0))
    c.args.kept.now.items c.args.entry c.requires
    updated refl absent)
