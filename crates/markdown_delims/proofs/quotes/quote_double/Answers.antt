-- Each way in which a `"` is read.
use Rattle.std.proofs.Common.{◌≡◌, Bool, true, false, refl, inl, inr}
use Rattle.std.specs.Prelude.{◌⊎◌, ◌&&◌}
use Rattle.markdown_delims.specs.declared.quotes.Kind.TheVariants as kind
use Rattle.markdown_delims.proofs.QuoteLemmas.{turn_double_closes, turn_double_opens, remembered_low}
use Rattle.markdown_delims.proofs.QuoteLemmas.{still_there, put_on, can_here}
use Rattle.markdown_delims.proofs.quotes.quote_double.Goals as goal

pub returns-then-closes : goal.returns-then-closes
returns-then-closes c =
    record {
      quotes = λ single last h begun a below after st e n.
          put_on _ _ _ _ _ _ _ _ st c.put_body.new.tree 8221 (kind.Double c.args.opens c.args.closes) c.args.double
          single false c.put_body.ensures e (λ q. cc) (still_there _ _ _ _ _ _ _ _ st 8221) (rw (
            c.if-double.true,
            c.if-closes.true,
          ) (turn_double_closes begun a below after single c.args.opens (remembered_low _ _ _ _ _ _ _ _ st)));
    }

not_both : (d c : Bool) → ((d ≡ true) × (c ≡ false)) ⊎ (d ≡ false) → (d && c) ≡ false
not_both d c (inl p) = rw (p.0, p.1) refl
not_both d c (inr e) = rw e refl

pub returns-then-opens : goal.returns-then-opens
returns-then-opens c =
    record {
      quotes = λ single last h begun a below after st e n.
          put_on _ _ _ _ _ _ _ _ st c.put_body-else-double.new.tree 8220 (kind.Double c.args.opens c.args.closes)
          c.args.double single c.args.opens c.put_body-else-double.ensures e (λ q. cc) (still_there _ _ _ _ _ _ _ _ st
          8220) (rw c.if-opens.true (turn_double_opens begun a below after single c.args.double true c.args.closes
          (remembered_low _ _ _ _ _ _ _ _ st) (not_both c.args.double c.args.closes c.else-double.either)));
    }

pub returns-else-opens : goal.returns-else-opens
returns-else-opens c =
    record {
      quotes = λ single last h begun a below after st e n.
          put_on _ _ _ _ _ _ _ _ st c.put_body-else-double.new.tree 8220 (kind.Double c.args.opens c.args.closes)
          c.args.double single c.args.double c.put_body-else-double.ensures e (λ q. cc) (still_there _ _ _ _ _ _ _ _ st
          8220) (rw c.if-opens.false (turn_double_opens begun a below after single c.args.double false c.args.closes
          (remembered_low _ _ _ _ _ _ _ _ st) (not_both c.args.double c.args.closes c.else-double.either)));
    }

pub put_body-requires : goal.put_body-requires
put_body-requires c = let p = c.requires.stands.1 in can_here p.chain c.args.tree.now p.begun p.rest c.requires.stands.0
    c.args.ix p.stands

pub put_body-requires-else-double : goal.put_body-requires-else-double
put_body-requires-else-double c = let p = c.requires.stands.1 in can_here p.chain c.args.tree.now p.begun p.rest
    c.requires.stands.0
    c.args.ix p.stands
