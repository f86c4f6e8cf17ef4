-- Tree by tree.
use Rattle.std.proofs.Common.{◌≡◌, ◌+◌, ◌≤◌, Bool, true, false, Option, Some, None, ℕ, length, ap, subst, sym, ◌∙◌}
use Rattle.std.proofs.Common.{refl, arith}
use Rattle.std.specs.Prelude.{is_some, is_none, not}
use Rattle.markdown_base.specs.declared.item.Item.{Item}
use Rattle.markdown_base.specs.BlockTree.{no_item, item_at}
use Rattle.markdown_base.specs.WellFormed.{RunCharacter, run_character}
use Rattle.markdown_document.specs.Document.{shape_of}
use Rattle.markdown_base.specs.Forest.{Forest}
use Rattle.markdown_document.specs.Setting.{Setting}
use Rattle.markdown_document.specs.Tables.{Tables, no_tables}
use Rattle.markdown_delims.specs.ChainReading.{IsSpelled}
use Rattle.markdown_delims.specs.Quotes.{kind_of_shape}
use Rattle.markdown_delims.specs.RunReading.{counts_one}
use Rattle.markdown_delims.proofs.QuoteLemmas.{can_here}
use Rattle.markdown_delims.proofs.QuoteChainLemmas.{QuotesSoFar, quotes_begin, quote_here, quotes_step, quotes_down}
use Rattle.markdown_delims.proofs.QuoteChainLemmas.{quotes_size, few_so_far, quotes_done, all_counted}
use Rattle.markdown_delims.proofs.quotes.quote_chain.Goals as goal

pub trees-init : goal.trees-init
trees-init c = record {
  chain = λ s tables f is. quotes_begin s tables c.args.tree.now c.args.first f is;
  few = λ e. absurd (let no : Some c.args.first ≡ None = e in cc);
}

pub next-next-requires : goal.next-next-requires
next-next-requires c =
    let p = c.requires.chain in
    let a = rw c.in-Some.is at (c.trees.invariant.chain p.setting no_tables p.forest p.is) in
    can_here _ c.trees.tree a.on.read a.rest c.trees.opened.single c.in-Some.ix a.on.stands

pub item-requires : goal.item-requires
item-requires c =
    let p = c.requires.chain in
    let a = rw c.in-Some.is at (c.trees.invariant.chain p.setting no_tables p.forest p.is) in
    can_here _ c.trees.tree a.on.read a.rest c.trees.opened.single c.in-Some.ix a.on.stands

one_at_most : (o : Option RunCharacter) → counts_one o ≤ 1
one_at_most None = omega arith
one_at_most (Some x) = omega arith

pub overflow_add-delimiters : goal.overflow_add-delimiters
overflow_add-delimiters c =
    let p = c.requires.chain in
    let a = c.trees.invariant.chain p.setting no_tables p.forest p.is in
    omega (
      arith,
      few_so_far _ _ _ _ _ _ _ _ _ _ a,
      quotes_size _ _ _ _ _ _ _ _ _ _ a,
      c.next-next.ensures.few,
      c.counts_one-delimiters.ensures,
      one_at_most (run_character c.item.result.now.body),
    )

pub quote_tree-opened-requires : goal.quote_tree-opened-requires
quote_tree-opened-requires c =
    let p = c.requires.chain in
    record {
      stands = quote_here _ _ _ _ _ _ _ _ _ _
          (rw c.in-Some.is at (c.trees.invariant.chain p.setting no_tables p.forest p.is));
    }

flipped : (o : Option ℕ) (b : Bool) → is_some o ≡ not b → b ≡ is_none o
flipped None true e = refl
flipped (Some x) false e = refl
flipped o b e = cc

pub trees-preserved : goal.trees-preserved
trees-preserved c =
    let i : c.item.result.now ≡ item_at c.trees.tree.nodes c.in-Some.ix = c.item.ensures no_item in
    let chain : (s : Setting) (tables : Tables) (f : Forest ℕ) (is : IsSpelled c.args.tree.now.nodes c.args.first f)
    → QuotesSoFar s tables c.args.tree.now c.args.first f is c.quote_tree-opened.new.tree c.quote_tree-opened.result
    (c.trees.delimiters + c.counts_one-delimiters.result) c.next-next.result =
    λ s tables f is.
    rw c.next-next.ensures.value (quotes_step _ _ _ _ _ _ _ _ _ _ (subst (λ l. QuotesSoFar s tables c.args.tree.now
    c.args.first f is c.trees.tree c.trees.opened c.trees.delimiters l) c.in-Some.is (c.trees.invariant.chain s tables
    f is)) c.quote_tree-opened.new.tree c.quote_tree-opened.result c.kind_of.result c.is_none.result
    c.counts_one-delimiters.result (λ tables source. c.kind_of.ensures tables source ∙ ap (λ (x : Item). kind_of_shape
    (shape_of tables source x.body)) i) (flipped _ _ c.is_none.ensures ∙ ap is_none c.next-next.ensures.value)
    (c.counts_one-delimiters.ensures ∙ ap (λ (x : Item). counts_one (run_character x.body)) i)
    c.quote_tree-opened.ensures.quotes) in
    let p = c.requires.chain in
    record {
      chain = chain;
      few = λ e. omega (
        arith,
        c.next-next.ensures.few,
        quotes_size p.setting no_tables c.args.tree.now c.args.first p.forest p.is c.quote_tree-opened.new.tree
            c.quote_tree-opened.result
            (c.trees.delimiters + c.counts_one-delimiters.result) c.next-next.result
            (chain p.setting no_tables p.forest p.is),
        quotes_size _ _ _ _ _ _ _ _ _ _ (c.trees.invariant.chain p.setting no_tables p.forest p.is),
      );
    }

pub trees-smaller : goal.trees-smaller
trees-smaller c =
    let p = c.requires.chain in
    let a = rw c.in-Some.is at (c.trees.invariant.chain p.setting no_tables p.forest p.is) in
    let b = (trees-preserved c).chain p.setting no_tables p.forest p.is in
    let n : length c.quote_tree-opened.new.tree.nodes ≡ length c.trees.tree.nodes =
    quotes_size p.setting no_tables c.args.tree.now c.args.first p.forest p.is c.quote_tree-opened.new.tree
    c.quote_tree-opened.result
    _ _ b
    ∙ sym (quotes_size p.setting no_tables c.args.tree.now c.args.first p.forest p.is c.trees.tree c.trees.opened
    c.trees.delimiters _ a) in
    rw (c.in-Some.is, n, c.next-next.ensures.value) (quotes_down _ _ _ _ _ _ _ _ _ _ a)

pub returns-clause-quotes : goal.returns-clause-quotes
returns-clause-quotes c s tables f is =
    quotes_done _ _ _ _ _ _ _ _ _ _ (c.trees.invariant.chain s tables f is) c.in_default.is

pub returns-clause-count : goal.returns-clause-count
returns-clause-count c f is =
    let p = c.requires.chain in
    all_counted p.setting no_tables c.args.tree.now c.args.first f is c.trees.tree c.trees.opened c.trees.delimiters
    c.trees.cur
    (c.trees.invariant.chain p.setting no_tables f is) c.in_default.is

pub returns-clause-few : goal.returns-clause-few
returns-clause-few c = c.trees.invariant.few c.in_default.is
