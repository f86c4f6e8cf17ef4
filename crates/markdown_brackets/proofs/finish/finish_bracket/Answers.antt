-- By what each kind leaves of the stacks.
use Rattle.std.proofs.Common.{◌∙◌, ap}
use Rattle.markdown_brackets.specs.Openers.{before, waiting_before_link}
use Rattle.markdown_brackets.proofs.FinishLemmas.{finished}
use Rattle.markdown_brackets.proofs.finish.finish_bracket.Goals as goal

pub returns-in-Link : goal.returns-in-Link
returns-in-Link c w cl closer left becomes p s rises split is eb ew ep =
    let leaves = waiting_before_link c.in-Link.opener in
    let then = c.close_second.ensures in
    let finish = c.finish_link.ensures in
    finished c.args.tree.now.nodes c.args.found.now _ _ c.finish_link.new.self.brackets c.finish_link.new.self.wikilinks
    (rw c.in-Link.is (finish.brackets ∙ ap leaves then.brackets, finish.wikilinks ∙ ap leaves then.wikilinks))
    w cl closer left becomes p s rises split is eb ew ep

pub returns-in-Footnote : goal.returns-in-Footnote
returns-in-Footnote c w cl closer left becomes p s rises split is eb ew ep =
    let new = c.finish_footnote.new.self in
    let then = c.close_second-in-Footnote.ensures in
    let finish = c.finish_footnote.ensures in
    finished c.args.tree.now.nodes c.args.found.now _ _ new.brackets new.wikilinks
    (rw c.in-Footnote.is (finish.brackets, finish.wikilinks ∙ ap (before c.in-Footnote.opener.node) then.wikilinks))
    w cl closer left becomes p s rises split is eb ew ep

pub returns-in-Wikilinked : goal.returns-in-Wikilinked
returns-in-Wikilinked c w cl closer left becomes p s rises split is eb ew ep =
    let new = c.finish_wikilink.new.self in
    let finish = c.finish_wikilink.ensures in
    finished c.args.tree.now.nodes c.args.found.now _ _ new.brackets new.wikilinks
    (rw c.in-Wikilinked.is (finish.brackets, finish.wikilinks)) w cl closer left becomes p s rises split is eb ew ep
