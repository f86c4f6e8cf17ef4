-- Tree by tree.
use Rattle.std.proofs.Common.{◌+◌, ◌*◌, ◌^◌, ◌<◌, ap, arith}
use Rattle.markdown_document.specs.Counts.{comparisons_per_delimiter}
use Rattle.markdown_delims.specs.ChainReading.{labels, runs_in}
use Rattle.markdown_delims.proofs.ChainLemmas.{none_paired, runs_chain, starts_reading, read_on, reads_more}
use Rattle.markdown_delims.proofs.ChainLemmas.{pays, all_paid, can_go_on, all_read, all_found, goes_down}
use Rattle.markdown_delims.proofs.ReadLemmas.{head_within}
use Rattle.markdown_delims.proofs.chain.pair_runs.Goals as goal

pub trees-init : goal.trees-init
trees-init c s tables f m t ch = starts_reading s tables c.args.tree.now c.args.first c.args.count f ch
    c.args.openers.now c.requires.emptied.runs

pub read_tree-requires : goal.read_tree-requires
read_tree-requires c =
    let p = c.requires.chain in
    let room : c.args.openers.now.examined + comparisons_per_delimiter * runs_in c.args.source.text.now
    (labels p.setting p.tables
    c.args.tree.now.nodes p.forest) < 2 ^ 128 = p.room in
    record {
      stands = can_go_on _ _ _ _ _ _ p.chain _ _ _ _ c.args.source.extensions c.args.source.text.now c.in-Some.ix
          p.extensions_are p.text_is (omega (arith, c.requires.emptied.potential, room))
          (rw c.in-Some.is at (c.trees.invariant p.setting p.tables p.forest p.extensions_are p.text_is p.chain));
    }

pub trees-preserved : goal.trees-preserved
trees-preserved c s tables f m t ch =
    reads_more s tables c.args.tree.now _ _ _ ch _ _ _ _ c.args.source.extensions c.args.source.text.now
    c.read_tree.new.tree c.read_tree.new.openers c.in_ok-read.read c.in_ok-read.next c.in-Some.ix m t
    (rw c.in-Some.is at (c.trees.invariant s tables f m t ch)) c.in_ok-read.ensures.ok

pub trees-smaller : goal.trees-smaller
trees-smaller c =
    let p = c.requires.chain in
    let h = runs_chain p.setting p.tables c.args.tree.now c.args.first c.args.count p.forest p.chain in
    let a = rw c.in-Some.is at (c.trees.invariant p.setting p.tables p.forest p.extensions_are p.text_is p.chain) in
    let b = read_on _ _ _ _ _ _ p.chain _ _ _ _ c.args.source.extensions c.args.source.text.now c.read_tree.new.tree
    c.read_tree.new.openers c.in_ok-read.read c.in_ok-read.next c.in-Some.ix p.extensions_are p.text_is a
    c.in_ok-read.ensures.ok in
    let w = head_within h c.trees.tree a.rs c.trees.last c.in-Some.ix c.trees.openers a.rest a.stands in
    rw c.in-Some.is
    (goes_down h c.trees.tree c.read_tree.new.tree a.rs a.rest c.trees.openers c.read_tree.new.openers
    c.in_ok-read.read c.in_ok-read.next c.in-Some.ix w b.kept.size b)

pub returns-clause-pairs : goal.returns-clause-pairs
returns-clause-pairs c s tables f m t ch =
    all_read s tables c.args.tree.now _ _ _ ch _ _ _ _ (rw c.in_default.is at (c.trees.invariant s tables f m t ch))

pub returns-clause-found : goal.returns-clause-found
returns-clause-found c s tables f m t ch =
    all_found s tables c.args.tree.now _ _ _ ch _ _ _ _ (rw c.in_default.is at (c.trees.invariant s tables f m t ch))

pub returns-clause-paid : goal.returns-clause-paid
returns-clause-paid c s tables f m t ch =
    let paid = all_paid s tables c.args.tree.now _ _ _ ch _ _ _ _ _ (c.trees.invariant s tables f m t ch) in
    omega (arith, paid, ap (λ x. runs_in x (labels s tables c.args.tree.now.nodes f)) t)

-- the tree at which memory was refused stands in what was left
pub returns-in_err-read-clause-paid : goal.returns-in_err-read-clause-paid
returns-in_err-read-clause-paid c s tables f m t ch =
    let h = runs_chain s tables c.args.tree.now c.args.first c.args.count f ch in
    let a = c.trees.invariant s tables f m t ch in
    let stands = rw c.in-Some.is at a.stands in
    let paid = all_paid s tables c.args.tree.now _ _ _ ch _ _ _ _ _ a in
    omega (
      arith,
      paid,
      pays s tables c.args.tree.now c.args.first c.args.count f ch c.trees.tree c.args.openers.now c.trees.openers
          c.trees.last
          c.args.source.text.now c.in-Some.ix c.read_tree.new.openers t a.rs a.rest stands c.in_err-read.ensures.paid,
      ap (λ x. runs_in x (labels s tables c.args.tree.now.nodes f)) t,
    )

pub returns-then-count-eq0-clause-pairs : goal.returns-then-count-eq0-clause-pairs
returns-then-count-eq0-clause-pairs c s tables f m t ch
    = (none_paired s tables c.args.tree.now c.args.first c.args.count f ch
    c.if-count-eq0.true).0

pub returns-then-count-eq0-clause-found : goal.returns-then-count-eq0-clause-found
returns-then-count-eq0-clause-found c s tables f m t ch =
    let none = (none_paired s tables c.args.tree.now c.args.first c.args.count f ch c.if-count-eq0.true).1 in
    omega (arith, none)

pub returns-then-count-eq0-clause-paid : goal.returns-then-count-eq0-clause-paid
returns-then-count-eq0-clause-paid c s tables f m t ch = omega arith
