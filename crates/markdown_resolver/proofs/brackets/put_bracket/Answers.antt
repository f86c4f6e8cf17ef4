-- What a `]` becomes is put, in each of its forms.
use Rattle.std.proofs.Common.{ℕ, List, subst}
use Rattle.markdown_brackets.specs.TargetOrigins.{IsTargetFrom}
use Rattle.markdown_document.specs.ChainRest.{start_of}
use Rattle.markdown_document.specs.Tables.{tables_of}
use Rattle.markdown_resolver.proofs.CloseFootnoteLemmas.{becomes_footnote}
use Rattle.markdown_resolver.proofs.CloseLinkLemmas.{becomes_link}
use Rattle.markdown_resolver.proofs.CloseTextLemmas.{becomes_text, text_closed}
use Rattle.markdown_resolver.proofs.MarkupLemmas.{if_ok}
use Rattle.markdown_resolver.proofs.StandsToLemmas.{stands_rest}
use Rattle.markdown_resolver.proofs.brackets.put_bracket.Goals as goal

pub make_literal-requires : goal.make_literal-requires
make_literal-requires c = (c.requires.0, tables_of c.args.tables.now, stands_rest c.requires.6.stands)

pub returns-in-Text-clause-puts : goal.returns-in-Text-clause-puts
returns-in-Text-clause-puts c source first left w closing becomes closes is =
    let tables = tables_of c.args.tables.now in
    let same = becomes_text w becomes (rw c.in-Text.is at is) in
    let so = rw same at closes in
    rw same (text_closed source tables c.args.tree.now.nodes c.make_literal.new.tree.nodes first c.args.closer
    c.make_literal.result
    left w closing so (c.make_literal.ensures.puts source tables (stands_rest so.stands)))

pub returns-in-Link-clause-puts : goal.returns-in-Link-clause-puts
returns-in-Link-clause-puts c =
    if_ok c.put_target.result _ _ (λ next puts. λ source first left w closing becomes closes is.
    let b = becomes_link w becomes c.in-Link.opener c.in-Link.target c.in-Link.end c.in-Link.next
    (rw c.in-Link.is at is) in
    rw b.is (puts source first left w closing b.split (rw b.is at closes) b.opener_is
    (subst (λ (bytes : List ℕ). IsTargetFrom bytes (start_of b.split.opener) c.in-Link.end c.in-Link.target)
    closes.text_is b.from))) c.put_target.ensures.puts

pub returns-in-Footnote-clause-puts : goal.returns-in-Footnote-clause-puts
returns-in-Footnote-clause-puts c =
    if_ok c.put_reference.result _ _ (λ next puts. λ source first left w closing becomes closes is.
    let b = becomes_footnote w becomes c.in-Footnote.opener c.in-Footnote.name (rw c.in-Footnote.is at is) in
    rw b.is (puts source first left w closing b.split (rw b.is at closes) b.opener_is)) c.put_reference.ensures.puts

pub returns-in-Wikilinked-clause-puts : goal.returns-in-Wikilinked-clause-puts
returns-in-Wikilinked-clause-puts c =
    if_ok c.put_wikilink.result _ _ (λ next puts. λ source first left w closing becomes closes is.
    puts source first left w closing becomes closes (rw c.in-Wikilinked.is at is)) c.put_wikilink.ensures.puts
