-- The quotes first, and then the runs; and what that leaves in place.
use Rattle.std.proofs.Common.{◌≡◌, ℕ, List, [], Option, Some, None, length, false, refl, ap, sym, ◌∙◌, arith, Ok, Err}
use Rattle.std.specs.Prelude.{OnOk, Result, ◌+◌, ◌*◌, ◌^◌, ◌≤◌}
use Rattle.markdown_base.specs.Arena.{Arena}
use Rattle.markdown_base.specs.BlockTree.{trees_at}
use Rattle.markdown_base.specs.declared.item.Item.{Item}
use Rattle.markdown_base.specs.declared.syntax.Syntax.{Syntax}
use Rattle.markdown_document.specs.Counts.{comparisons_per_delimiter}
use Rattle.markdown_document.specs.Setting.{Rules, Setting, setting_of}
use Rattle.markdown_document.specs.Tables.{Tables, no_tables}
use Rattle.markdown_document.specs.Places.{trees_from}
use Rattle.markdown_delims.specs.declared.extensions.Extensions.{Extensions}
use Rattle.markdown_delims.specs.ChainReading.{IsChainAt, labels, runs_in, PairsRuns, CountsFinds, PaysForRuns}
use Rattle.markdown_delims.specs.Layers.{extensions_of}
use Rattle.markdown_delims.specs.OpenRuns.{Openers}
use Rattle.markdown_delims.specs.PairedChain.{CanPair}
use Rattle.markdown_delims.specs.PairingFinds.{finds_in}
use Rattle.markdown_delims.specs.Quoting.{IsQuoted, QuotesChain, Counts}
use Rattle.markdown_delims.specs.RunReading.{delimiters_of}
use Rattle.markdown_delims.proofs.PairedChainLemmas.{trees, spelled_is, chain_is, IsResolved, resolved, finds_are}
use Rattle.markdown_delims.proofs.PairedChainLemmas.{pairs_chain}
use Rattle.markdown_document.specs.declared.work.Work.{Work}
use Rattle.markdown_document.proofs.CountLemmas.{risen_at_least}
use Rattle.markdown_delims.proofs.chain.pair_chain.Goals as goal

on_ok : {A E : Type 0} {P Q : Type 0} (r : Result A E) → (P → Q) → OnOk r P → OnOk r Q
on_ok (Ok x) f h = f h
on_ok (Err e) f h = h

-- some rules with these syntax
abbrev rules_by : Syntax → Rules
rules_by syntax = record { syntax = syntax; definitions = λ label. None; is_footnote = λ name. false; asks = false }

-- all else of the tree stays
place_is : (old new : Arena Item) → new.spine ≡ old.spine → new.cursor ≡ old.cursor → new
    ≡ record old { nodes = new.nodes }
place_is old new e f =
    ap (λ (x : List ℕ). let t : Arena Item = record new { spine = x } in t) e
    ∙ ap (λ (x : Option ℕ). let t : Arena Item = record { nodes = new.nodes; spine = old.spine; cursor = x } in t) f

pub quote_chain-delimiters-requires : goal.quote_chain-delimiters-requires
quote_chain-delimiters-requires c = record {
  chain = record {
    setting = setting_of c.args.source.text.now (rules_by c.args.source.syntax);
    forest = trees c.args.tree.now.nodes c.args.first;
    is = spelled_is c.args.source.text.now c.args.tree.now.nodes c.args.first c.requires.chain;
  };
}

-- the chain in a setting, after its quotes
module _ (s : Setting) (tables : Tables) (old mid : Arena Item) (first count : ℕ) (c : CanPair s.text old.nodes first)
    (quotes : QuotesChain old mid first) (counts : Counts old.nodes first count) (few : length mid.nodes ≤ 2 ^ 63) where
  quoted : IsQuoted s tables old mid first (trees old.nodes first)
  quoted = quotes s tables (trees old.nodes first) (spelled_is s.text old.nodes first c)

  counted : count ≡ delimiters_of (trees_at old.nodes (Some first))
  counted = counts (trees old.nodes first) (spelled_is s.text old.nodes first c)

  chain_at : IsChainAt s tables mid.nodes first count (trees old.nodes first)
  chain_at = chain_is s tables old mid first c quoted count counted few

  chain_done : (m : Extensions) (text : List ℕ) (new : Arena Item) → extensions_of s.rules.syntax ≡ m → s.text ≡ text
      → PairsRuns m text mid new first count → IsResolved s tables old new first (trees old.nodes first)
  chain_done m text new is e pairs =
      resolved s tables old mid new first (trees old.nodes first) quoted
      (pairs s tables (trees old.nodes first) is e chain_at)

  chain_found : (m : Extensions) (text : List ℕ) (o n : Openers) → extensions_of s.rules.syntax ≡ m → s.text ≡ text
      → CountsFinds m text mid.nodes first count o n
      → o.examined + finds_in s (trees_from s.text tables old.nodes (Some first)) ≤ n.examined
  chain_found m text o n is e found = omega (
    arith,
    found s tables (trees old.nodes first) is e chain_at,
    finds_are s tables old mid first quoted,
  )

  chain_paid : (m : Extensions) (text : List ℕ) (o n : Openers) → extensions_of s.rules.syntax ≡ m → s.text ≡ text
      → PaysForRuns m text mid.nodes first count o n
      → n.potential ≤ o.potential + comparisons_per_delimiter * delimiters_of (trees_at old.nodes (Some first))
  chain_paid m text o n is e paid = omega (
    arith,
    paid s tables (trees old.nodes first) is e chain_at,
    chain_at.counted,
    counted,
    ap (λ t. runs_in t (labels s tables mid.nodes (trees old.nodes first))) e,
  )

pub pair_runs-done-requires-clause-chain : goal.pair_runs-done-requires-clause-chain
pair_runs-done-requires-clause-chain c =
    let s : Setting = setting_of c.args.source.text.now (rules_by c.args.source.syntax) in
    let ch = chain_at s no_tables c.args.tree.now c.quote_chain-delimiters.new.tree c.args.first
    c.quote_chain-delimiters.result
    c.requires.chain c.quote_chain-delimiters.ensures.quotes c.quote_chain-delimiters.ensures.count
    c.quote_chain-delimiters.ensures.few in
    record {
      setting = s;
      extensions_are = sym c.of.ensures;
      text_is = sym c.as_bytes.ensures.value;
      tables = no_tables;
      forest = trees c.args.tree.now.nodes c.args.first;
      chain = ch;
      room = omega (
        arith,
        ch.counted,
        ap (λ t. runs_in t (labels s no_tables c.quote_chain-delimiters.new.tree.nodes
            (trees c.args.tree.now.nodes c.args.first)))
            c.as_bytes.ensures.value,
        ap (λ o. o.examined) c.clear.ensures,
      );
    }

pub returns : goal.returns
returns c =
    let old = c.args.tree.now in
    let q = c.quote_chain-delimiters in
    let done = c.pair_runs-done in
    let s : Setting = setting_of c.args.source.text.now (rules_by c.args.source.syntax) in
    let extensions = sym c.of.ensures in
    let text = sym c.as_bytes.ensures.value in
    record {
      pairs = on_ok done.result
          (λ pairs rules same. pairs_chain (setting_of c.args.source.text.now rules) old done.new.tree c.args.first
          c.requires.chain (λ tables. chain_done (setting_of c.args.source.text.now rules) tables old q.new.tree
          c.args.first q.result c.requires.chain q.ensures.quotes q.ensures.count q.ensures.few c.of.result
          c.as_bytes.result.now done.new.tree (ap extensions_of same ∙ extensions) text pairs))
          done.ensures.pairs;
      place = on_ok done.result
          (λ pairs.
          let r = chain_done s no_tables old q.new.tree c.args.first q.result c.requires.chain q.ensures.quotes
          q.ensures.count q.ensures.few c.of.result c.as_bytes.result.now done.new.tree extensions text pairs in
          place_is old done.new.tree r.kept.spine r.kept.cursor)
          done.ensures.pairs;
      found = on_ok done.result
          (λ found rules tables same.
          let all = chain_found (setting_of c.args.source.text.now rules) tables old q.new.tree c.args.first q.result
          c.requires.chain q.ensures.quotes q.ensures.count q.ensures.few c.of.result c.as_bytes.result.now
          c.clear.new.self done.new.openers (ap extensions_of same ∙ extensions) text found in
          let none : c.clear.new.self.examined ≡ 0 = ap (λ o. o.examined) c.clear.ensures in
          let rises = risen_at_least c.comparisons.result
          (finds_in (setting_of c.args.source.text.now rules)
          (trees_from c.args.source.text.now tables old.nodes (Some c.args.first)))
          c.args.work.now.examined (omega (arith, all, none, c.comparisons.ensures.value)) in
          rw c.count_pairing.ensures rises)
          done.ensures.found;
      examined =
          let paid = chain_paid s no_tables old q.new.tree c.args.first q.result c.requires.chain q.ensures.quotes
          q.ensures.count q.ensures.few c.of.result c.as_bytes.result.now c.clear.new.self done.new.openers
          extensions text done.ensures.paid in
          let none : c.clear.new.self.potential ≡ 0 = ap (λ o. o.potential) c.clear.ensures in
          record {
            more = c.comparisons.result;
            within = omega (arith, paid, none, c.comparisons.ensures.value, c.comparisons.ensures.within);
            counted = ap (λ (w : Work). w.examined) c.count_pairing.ensures;
          };
      counted = rw (
        c.count_pairing.ensures,
        counted s no_tables old q.new.tree c.args.first q.result c.requires.chain q.ensures.quotes q.ensures.count
            q.ensures.few,
      ) refl;
    }
