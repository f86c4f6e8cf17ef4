-- What is reached of the open blocks is reached of the containers of the definition.
use Rattle.markdown_plain.proofs.ReachedFramesLemmas.{frames_reached}
use Rattle.markdown_plain.proofs.containers.reach.Goals as goal

pub returns : goal.returns
returns c = record {
  reaches = cc;
  frames = λ s frames inside source before.
      frames_reached c.args.pass.now c.args.line s frames inside source c.reach_blocks.result (cc) before;
}
