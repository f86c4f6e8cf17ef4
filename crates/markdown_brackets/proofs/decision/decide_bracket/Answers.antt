-- A wikilink was found, or the nearest opener was tried.
use Rattle.std.proofs.Common.{◌≡◌, ◌&&◌, not, is_some, sym, ◌∙◌, ap}
use Rattle.markdown_base.specs.BlockTree.{item_at}
use Rattle.markdown_document.specs.ChainRest.{end_of}
use Rattle.markdown_brackets.specs.LeftList.{nearest, opens_bracket}
use Rattle.markdown_brackets.specs.Reference.{could_be_reference}
use Rattle.markdown_brackets.specs.SpentEnds.{is_spent}
use Rattle.markdown_brackets.specs.StandsAt.{could_be_at, bracket_context_by}
use Rattle.markdown_brackets.proofs.AheadOfBracketLemmas.{same_end}
use Rattle.markdown_brackets.proofs.DecidesLemmas.{decides_one, decides_wikilink, tries_nearest}
use Rattle.markdown_brackets.proofs.TakeWikilinkLemmas.{closer_found}
use Rattle.markdown_brackets.proofs.WrittenLemmas.{ok_map}
use Rattle.markdown_brackets.proofs.decision.decide_bracket.Goals as goal

pub returns-in-Some-clause-decides : goal.returns-in-Some-clause-decides
returns-in-Some-clause-decides g c bodies skipped left cl goes s could brackets wikilinks =
    let lookup = c.args.lookup.now in
    let w = bracket_context_by c.args.at.now.place.now skipped bodies lookup in
    decides_wikilink g.F.BrokenLinkCallback.answers w cl left lookup c.args.waiting.now.spent
    c.take_nearest-bracket.result
    c.args.waiting.now.openers.brackets c.take_nearest-bracket.new.self c.take_wikilink.new.wikilinks brackets
    c.take_nearest-bracket.ensures c.in-Some.found
    (rw c.in-Some.is at (c.take_wikilink.ensures skipped bodies lookup.tables.refdefs lookup.tables.footdefs
    (is_some lookup.callback) left cl s wikilinks))

pub returns-clause-decides : goal.returns-clause-decides
returns-clause-decides g c =
    let nodes = c.args.at.now.tree.now.nodes in
    let closer = c.args.at.now.node in
    let lookup = c.args.lookup.now in
    let spent = c.args.waiting.now.spent in
    let step = g.F.BrokenLinkCallback.answers in
    let old = c.args.waiting.now.openers.brackets in
    let new = c.take_nearest-bracket.new.self in
    let held = c.take_wikilink.new.wikilinks in
    ok_map c.try_opener.result _ _ c.try_opener.ensures.tries
    (λ found tries bodies skipped left cl goes s could brackets wikilinks.
    let w = bracket_context_by c.args.at.now.place.now skipped bodies lookup in
    let t = rw c.in_default.is at (c.take_wikilink.ensures skipped bodies lookup.tables.refdefs lookup.tables.footdefs
    (is_some lookup.callback) left cl s wikilinks) in
    let ends : (item_at nodes closer).end ≡ end_of cl.node =
    rw s.number at (same_end s.source s.tables nodes cl.node (closer_found nodes closer left cl s).holds.2) in
    let could_be : cl.could_be_reference ≡ could_be_at nodes closer spent =
    could ∙ ap (λ end. could_be_reference (item_at nodes closer).body && not (is_spent spent end)) (sym ends) in
    decides_one step w cl left lookup spent c.take_nearest-bracket.result old new held brackets
    c.take_nearest-bracket.ensures found _ _ t
    (tries bodies skipped cl (nearest opens_bracket t.left_then) goes
    (tries_nearest step w cl left lookup spent c.take_nearest-bracket.result old new held brackets
    c.take_nearest-bracket.ensures found
    nodes closer (could_be_at nodes closer spent) s could_be t)))
