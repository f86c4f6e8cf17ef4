-- Each way in which a `'` is read.
use Rattle.std.proofs.Common.{Some, None, ap, subst, sym, ◌∙◌}
use Rattle.markdown_base.specs.Forest.{node}
use Rattle.markdown_delims.specs.declared.quotes.Kind.TheVariants as kind
use Rattle.markdown_delims.specs.Quotes.{right_single}
use Rattle.markdown_document.specs.Document.{shaped}
use Rattle.markdown_delims.specs.Quoting.{QuotesStand, quoted_from}
use Rattle.markdown_delims.proofs.QuoteLemmas.{turn_none_opens, turn_none_stays, turn_some_opens, turn_some_stays}
use Rattle.markdown_delims.proofs.QuoteLemmas.{number_is, remembered_low, no_block, still_there, put_on, here_root}
use Rattle.markdown_delims.proofs.QuoteLemmas.{close_on, can_here, can_left}
use Rattle.markdown_delims.proofs.quotes.quote_single.Goals as goal

pub put_body-requires : goal.put_body-requires
put_body-requires c = let p = c.requires.stands in can_here p.chain c.args.tree.now p.begun p.rest c.args.single
    c.args.ix p.stands

pub put_body-requires-then-closes : goal.put_body-requires-then-closes
put_body-requires-then-closes c =
    let p = c.requires.stands in
    can_left p.chain c.args.tree.now p.begun p.rest c.in-Some.left (Some c.args.ix)
    (subst (λ o. QuotesStand p.chain c.args.tree.now p.begun o (Some c.args.ix) p.rest) c.in-Some.is p.stands)

pub put_body-requires-then-closes-2 : goal.put_body-requires-then-closes-2
put_body-requires-then-closes-2 c =
    let p = c.requires.stands in
    rw c.put_body-then-closes.ensures.nodes.size
    (can_here p.chain c.args.tree.now p.begun p.rest c.args.single c.args.ix p.stands)

pub put_body-requires-in-Some : goal.put_body-requires-in-Some
put_body-requires-in-Some c = let p = c.requires.stands in can_here p.chain c.args.tree.now p.begun p.rest c.args.single
    c.args.ix p.stands

pub returns-then-closes : goal.returns-then-closes
returns-then-closes c =
    record {
      quotes = λ double last h begun a below after st e n.
          rw c.in-Some.is (close_on h c.args.tree.now c.put_body-then-closes.new.tree c.put_body-then-closes-2.new.tree
          begun c.in-Some.left c.args.ix a below after double c.args.opens (subst (λ o. QuotesStand h c.args.tree.now
          begun o (Some c.args.ix) (node a below after)) c.in-Some.is st) (ap (λ b. kind.Single c.args.opens b) (sym
          c.if-closes.true) ∙ e) c.put_body-then-closes.ensures c.put_body-then-closes-2.ensures);
    }

pub returns-then-opens : goal.returns-then-opens
returns-then-opens c =
    record {
      quotes = λ double last h begun a below after st e n.
          put_on _ _ _ _ _ _ _ _ st c.put_body.new.tree 8217 (kind.Single c.args.opens c.args.closes) double
          (Some c.args.ix) double c.put_body.ensures e (λ q. cc)
          (here_root _ _ _ _ _ _ _ _ st 8217 (no_block _ _ _ _ _ _ _ _ st _ e (λ q. cc))) (ap (λ i. quoted_from (Some
          i) double (node (shaped right_single a) below begun) after) (number_is _ _ _ _ _ _ _ _ st)
          ∙ rw (c.in-None.is, c.if-opens.true) (turn_none_opens begun a below after double c.args.closes));
    }

pub returns-else-opens : goal.returns-else-opens
returns-else-opens c =
    record {
      quotes = λ double last h begun a below after st e n.
          put_on _ _ _ _ _ _ _ _ st c.put_body.new.tree 8217 (kind.Single c.args.opens c.args.closes) double None
          double c.put_body.ensures e (λ q. cc) tt
          (rw (c.in-None.is, c.if-opens.false) (turn_none_stays begun a below after double c.args.closes));
    }

pub returns-then-opens-2 : goal.returns-then-opens-2
returns-then-opens-2 c =
    record {
      quotes = λ double last h begun a below after st e n.
          put_on _ _ _ _ _ _ _ _ st c.put_body-in-Some.new.tree 8217 (kind.Single c.args.opens c.args.closes) double
          (Some c.args.ix) double c.put_body-in-Some.ensures e (λ q. cc)
          (here_root _ _ _ _ _ _ _ _ st 8217 (no_block _ _ _ _ _ _ _ _ st _ e (λ q. cc))) (ap (λ i. quoted_from (Some
          i) double (node (shaped right_single a) below begun) after) (number_is _ _ _ _ _ _ _ _ st)
          ∙ rw (c.in-Some.is, c.if-opens-2.true, c.if-closes.false)
          (turn_some_opens begun a below after c.in-Some.left double));
    }

pub returns-else-opens-2 : goal.returns-else-opens-2
returns-else-opens-2 c =
    record {
      quotes = λ double last h begun a below after st e n.
          put_on _ _ _ _ _ _ _ _ st c.put_body-in-Some.new.tree 8217 (kind.Single c.args.opens c.args.closes) double
          (Some c.in-Some.left) double c.put_body-in-Some.ensures e (λ q. cc) (rw c.in-Some.is at (still_there _ _ _ _
          _ _ _ _ st 8217)) (rw (c.in-Some.is, c.if-opens-2.false, c.if-closes.false) (turn_some_stays begun a below
          after c.in-Some.left double (rw c.in-Some.is at (remembered_low _ _ _ _ _ _ _ _ st))));
    }
