-- The pass stands for what the line makes of its blocks.
use Rattle.std.proofs.Common.{rules}
use Rattle.markdown_plain.proofs.TurnsLemmas.{stands_holds, text_places}
use Rattle.markdown_plain.proofs.pass.Pass.read_text_line.Goals as goal

pub returns : goal.returns
returns c = record {
  stands = λ may.
      c.see_content.ensures.stands may.s _
      (text_places may.s c.args.self.now c.add_text.new.self c.args.line c.args.start c.args.depth may.source
      c.in_ok-add_text.ensures may.is may.before.frames may.before.inside may.before.last may.untabled
      (stands_holds may.s c.args.self.now may.before.frames may.before.inside may.before.last c.args.line.start
      may.stands) may.here);
  tables = search rules;
}

pub add_text-requires : goal.add_text-requires
add_text-requires c = λ none. c.requires.stands.ready.closable
