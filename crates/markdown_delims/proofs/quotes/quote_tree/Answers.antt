-- Each kind of tree.
use Rattle.std.proofs.Common.{sym, ◌∙◌}
use Rattle.markdown_delims.specs.declared.quotes.Kind.TheVariants as kind
use Rattle.markdown_delims.proofs.QuoteLemmas.{turn_break, turn_no_break, turn_other, remembered_low, still_there}
use Rattle.markdown_delims.proofs.QuoteLemmas.{put_on, stay_on}
use Rattle.markdown_delims.proofs.quotes.quote_tree.Goals as goal

pub returns-then-last : goal.returns-then-last
returns-then-last c =
    record {
      quotes = λ h begun a below after st e n.
          put_on _ _ _ _ _ _ _ _ st c.put_body.new.tree 92 kind.Break c.args.opened.double c.args.opened.single
          c.args.opened.double c.put_body.ensures (sym c.in-Break.is ∙ e) (λ q. cc) (still_there _ _ _ _ _ _ _ _ st 92)
          (turn_break begun a below after c.args.opened.single c.args.opened.double (remembered_low _ _ _ _ _ _ _ _ st)
          (sym n ∙ c.if-last.true));
    }

pub returns-else-last : goal.returns-else-last
returns-else-last c =
    record {
      quotes = λ h begun a below after st e n.
          stay_on _ _ _ _ _ _ _ _ st kind.Break c.args.opened.double (sym c.in-Break.is ∙ e) (turn_no_break begun a
          below after c.args.opened.single c.args.opened.double (remembered_low _ _ _ _ _ _ _ _ st) (sym n ∙
          c.if-last.false));
    }

pub returns-in-Other : goal.returns-in-Other
returns-in-Other c =
    record {
      quotes = λ h begun a below after st e n.
          stay_on _ _ _ _ _ _ _ _ st kind.Other c.args.opened.double (sym c.in-Other.is ∙ e) (turn_other begun a below
          after c.args.opened.single c.args.opened.double (remembered_low _ _ _ _ _ _ _ _ st));
    }
