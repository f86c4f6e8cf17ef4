-- Nothing is in it.
use Rattle.std.proofs.Common.{refl, rules}
use Rattle.markdown_plain.proofs.pass.Pass.new.Goals as goal

pub returns : goal.returns
returns c = record {
  made = search rules;
  syntax = refl;
  lines = search rules;
  blanks = search rules;
  lists = search rules;
  placed = refl;
  added = search rules;
  most = search rules;
}
