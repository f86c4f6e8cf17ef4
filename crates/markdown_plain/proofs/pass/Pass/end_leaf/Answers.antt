-- What has not ended is the last block in the innermost open container: a leaf that is closed, or a paragraph.
use Rattle.std.proofs.Common.{◌≡◌, ◌∙◌, ◌==◌, ◌<◌, ap, false, true, arith, length, not, refl, rules, subst, sym}
use Rattle.std.proofs.Common.{true≢false}
use Rattle.markdown_plain.proofs.Names.{nat_tests, has_leaf, EndsTo, is_table}
use Rattle.markdown_plain.proofs.ClosingDownLemmas.{leaf_ended}
use Rattle.markdown_plain.proofs.OpenTablesLemmas.{none_held}
use Rattle.markdown_plain.proofs.LinedLeavesLemmas.{closed_leaf}
use Rattle.markdown_plain.proofs.ClosableLemmas.{past_end}
use Rattle.markdown_plain.proofs.pass.Pass.end_leaf.Goals as goal

pub returns-then-has_leaf : goal.returns-then-has_leaf
returns-then-has_leaf c =
    let open_one : has_leaf c.args.self.now.placing.builder ≡ true = sym c.has_leaf.ensures ∙ c.if-has_leaf.true in
    leaf_ended c.args.self.now _ (record {
      leaf = λ s frames inside b open_still is open_in.
          closed_leaf s c.args.self.now.placing.builder c.close.new.self.builder frames inside
          (not (is_table b.kind)) b is c.close.ensures.closes c.close.ensures.tree open_in;
      paragraph = λ s frames inside b sources none holds same. absurd (true≢false (sym open_one ∙ none));
      kept = λ none lines. absurd (true≢false (sym open_one ∙ none));
      are = search rules;
      text = search rules;
      ended = search rules;
      unheld = λ held. search rules;
      here = λ is. search (rules, is);
      same = search rules;
    })

pub returns-in_ok-end_paragraph : goal.returns-in_ok-end_paragraph
returns-in_ok-end_paragraph c =
    let none : has_leaf c.args.self.now.placing.builder ≡ false = sym c.has_leaf.ensures ∙ c.if-has_leaf.false in
    let old = c.args.self.now in let some : 0 < length old.lines.items = search rules in
    let ends = subst (EndsTo old.placing.builder c.end_paragraph.new.self.placing.builder)
    (past_end old.placing.builder.at old.lines.items some) c.in_ok-end_paragraph.ensures.ends in
    leaf_ended old _ (record {
      leaf = λ s frames inside b open_still is open_in. absurd (true≢false (sym open_still ∙ none));
      paragraph = λ s frames inside b sources outside holds same.
          c.in_ok-end_paragraph.ensures.frame s frames inside b sources holds same;
      kept = λ leaf lines.
          absurd (omega (arith, some, ap length lines));
      are = search rules;
      text = search rules;
      ended = search rules;
      unheld = λ held. search (rules, held, none);
      here = λ is. search (rules, is, ends);
      same = search rules;
    })

-- something has not ended only where one of the two was there
pub returns-else-not-is_empty : goal.returns-else-not-is_empty
returns-else-not-is_empty c =
    let none : has_leaf c.args.self.now.placing.builder ≡ false = sym c.has_leaf.ensures ∙ c.if-has_leaf.false in
    leaf_ended c.args.self.now c.args.self.now (record {
      leaf = λ s frames inside b open_still is open_in. absurd (true≢false (sym open_still ∙ none));
      paragraph = λ s frames inside b sources outside holds same.
          let some = holds.some in let empty : (length c.args.self.now.lines.items == 0) ≡ true = search rules in
          absurd (grind (arith, nat_tests, empty, some));
      kept = λ leaf lines. refl;
      are = search rules;
      text = refl;
      ended = none_held c.args.self.now.lines.items (search rules);
      unheld = λ held. search (rules, held, none);
      here = λ is. search (rules, is);
      same = refl;
    })
