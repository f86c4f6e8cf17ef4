-- The rules of items where an item is not open, and where what follows it was not changed.
use Rattle.std.proofs.Common.{◌≡◌, ℕ, false, List, Option}
use Rattle.markdown_base.specs.BlockTree.{Numbered}
use Rattle.markdown_base.specs.Item.{is_open}
use Rattle.markdown_base.specs.WellFormed.{StandsOverMarkup, source_of}
use Rattle.markdown_base.specs.declared.item.ItemBody.{ItemBody}
use Rattle.markdown_base.specs.declared.item.ItemBody.TheVariants as body
use Rattle.markdown_base.proofs.WellFormedLemmas.{closed_no_run}
use Rattle.markdown_document.specs.ItemRules.{ComesBefore, KeepsItemRules}

markup-closed : (source : List ℕ) (b : ItemBody) → is_open b ≡ false → StandsOverMarkup source b
markup-closed source (body.MaybeMath opens closes context) h = absurd (cc h)
markup-closed source (body.MaybeSmartQuote quote opens closes) h = absurd (cc h)
markup-closed source (body.MaybeCode count escaped) h = absurd (cc h)
markup-closed source body.MaybeHtml h = absurd (cc h)
markup-closed source body.MaybeLinkOpen h = absurd (cc h)
markup-closed source (body.MaybeLinkClose reference) h = absurd (cc h)
markup-closed source body.MaybeImage h = absurd (cc h)
markup-closed source other h = tt

-- so it keeps the rules wherever it precedes what follows it
pub keeps-closed : (text : List ℕ) (a : Numbered) (child : Option ℕ) (next : Option Numbered) → is_open a.item.body
    ≡ false
    → ComesBefore a next → KeepsItemRules text a child next
keeps-closed text a child next h before = record {
  in_order = before;
  markup_is_there = markup-closed (source_of text a.item) a.item.body h;
  runs_are_whole = rw (closed_no_run a.item.body h) tt;
  childless = λ e. absurd (cc (e, h));
}
