-- The innermost block, apart from the others, is the one that begins later.
use Rattle.std.proofs.Common.{◌∙◌, ap}
use Rattle.markdown_builder.specs.BuilderView.{innermost_block}
use Rattle.markdown_plain.specs.OpenBlocks.{outer_of}
use Rattle.markdown_plain.proofs.LeafTreesLemmas.{innermost_of_opened, last_apart}
use Rattle.markdown_plain.proofs.ContainersLemmas.{stretches_replaced}
use Rattle.markdown_plain.proofs.placing.Placing.begin_at_content.Goals as goal

pub returns-in_default-clause-begins : goal.returns-in_default-clause-begins
returns-in_default-clause-begins c = absurd (c.content_of_block.ensures.some c.in_default.is)

pub returns-clause-begins : goal.returns-clause-begins
returns-clause-begins c =
    let p = last_apart c.args.self.now.builder.blocks c.in-Some.ensures.open in
    record {
      start = c.in-Some.content;
      blocks = record {
        block = p.block;
        was = p.is;
        becomes = c.begin_later.ensures.begins (outer_of c.args.self.now.builder.blocks) p.block p.is;
      };
      content = rw (ap innermost_block p.is ∙ innermost_of_opened (outer_of c.args.self.now.builder.blocks) p.block)
          at c.in-Some.ensures.next;
    }

pub invariant_of-self : goal.invariant_of-self
invariant_of-self c =
    let p = last_apart c.args.self.now.builder.blocks c.in-Some.ensures.open in
    record {
      stretched = stretches_replaced c.args.self.now.stretches _ _ _
          (c.begin_later.ensures.begins (outer_of c.args.self.now.builder.blocks) p.block p.is)
          c.args.self.now.stretched;
    }
