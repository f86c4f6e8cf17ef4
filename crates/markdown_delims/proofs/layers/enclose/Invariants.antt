-- The layers so far, for any surroundings of the opener.
use Rattle.std.proofs.Common.{◌≡◌, ◌<◌}
use Rattle.markdown_delims.specs.ChainStanding.{Chain}
use Rattle.markdown_delims.specs.Layers.{extensions_of}
use Rattle.markdown_delims.specs.Enclosing.{ChainParts, Encloses, inner_of}
use Rattle.markdown_delims.proofs.EncloseLemmas.{LayersAt, LayersFit}
use Rattle.markdown_delims.proofs.layers.enclose.Given as goal

abbrev pub invariant-layers : goal.invariant-layers
invariant-layers l =
    record {
      layers :
          (h : Chain) (g : ChainParts) → extensions_of h.setting.rules.syntax ≡ l.extensions
          → Encloses h g l.fn.tree l.fn.opener l.fn.closer (inner_of l.fn.opener l.fn.tree)
          → LayersAt h g l.fn.tree l.tree l.delimiter l.opener l.closer l.left l.inner;
      some : 0 < l.left;
      fits : LayersFit l.tree l.opener l.closer l.left l.inner;
    }

abbrev pub decreases-layers : goal.decreases-layers
decreases-layers l = l.left
