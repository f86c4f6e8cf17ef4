-- Layer by layer, for any surroundings of the opener.
use Rattle.std.proofs.Common.{◌≡◌, ℕ, List, Some, ◌+◌, ◌-◌, ◌<◌, min, sym, subst, refl, arith}
use Rattle.markdown_base.specs.declared.item.ItemBody.{ItemBody}
use Rattle.markdown_document.specs.Document.{Shape}
use Rattle.markdown_delims.specs.Enclosing.{IsLayer, ChainParts, Encloses, inner_of, CanEnclose}
use Rattle.markdown_delims.specs.ChainStanding.{Chain}
use Rattle.markdown_delims.specs.Layers.{extensions_of, layer_of_one, layer_of_two}
use Rattle.markdown_delims.specs.declared.extensions.Extensions.{Extensions}
use Rattle.markdown_delims.specs.declared.run.Characters.{Characters}
use Rattle.markdown_delims.proofs.EncloseLemmas.{layers_begin, layers_more, layers_two, layers_one, layers_fit}
use Rattle.markdown_delims.proofs.EncloseLemmas.{LayersAt, LayersFit}
use Rattle.markdown_delims.proofs.WriteLemmas.{wrote_as}
use Rattle.markdown_delims.proofs.layers.enclose.Goals as goal

-- before the first layer
first_fits : (m : Extensions) (o c : Characters) (s : _) → 0 < o.count → 0 < c.count → CanEnclose m o c s
    → LayersFit s o c (min o.count c.count) (inner_of o s)
first_fits m o c s some_open some_close p =
    layers_fit p.chain p.around s s s o.run.delimiter o c (min o.count c.count) (inner_of o s)
    (layers_begin p.chain p.around s o.run.delimiter o c (min o.count c.count) (inner_of o s) refl p.encloses)
    (omega arith)

layer_by : (b : ItemBody) (shape : Extensions → List ℕ → Shape) (m n : Extensions) → n ≡ m → IsLayer b (shape m)
    → IsLayer b (shape n)
layer_by b shape m n e is = subst (λ x. IsLayer b (shape x)) (sym e) is

pub overflow_add-opener : goal.overflow_add-opener
overflow_add-opener c =
    let f = first_fits c.args.extensions c.args.opener c.args.closer c.args.tree.now c.requires.some_open
    c.requires.some_close c.requires.stands
    in
    omega (arith, f.root_of_one, f.few)

pub next-inner-requires : goal.next-inner-requires
next-inner-requires c =
    (first_fits c.args.extensions c.args.opener c.args.closer c.args.tree.now c.requires.some_open c.requires.some_close
    c.requires.stands).root_of_one

pub layers-init : goal.layers-init
layers-init c =
    let p = c.requires.stands in
    rw (c.min-left.ensures, c.next-inner.ensures.value)
    (record {
      layers = λ h g m e. layers_begin h g c.args.tree.now c.args.opener.run.delimiter c.args.opener c.args.closer _ _
          refl e;
      some = omega arith;
      fits = first_fits c.args.extensions c.args.opener c.args.closer c.args.tree.now c.requires.some_open
          c.requires.some_close p;
    })

pub layers-preserved : goal.layers-preserved
layers-preserved c =
    let p = c.requires.stands in
    let more : (h : Chain) (g : ChainParts) → extensions_of h.setting.rules.syntax ≡ c.args.extensions
    → Encloses h g c.args.tree.now c.args.opener c.args.closer (inner_of c.args.opener c.args.tree.now)
    → LayersAt h g c.args.tree.now c.put_node.new.tree c.args.opener.run.delimiter
    (record c.layers.opener { count = c.layers.opener.count - 2 })
    (record c.layers.closer { number = c.layers.closer.number + 2; count = c.layers.closer.count - 2 })
    (c.layers.left - 2)
    (Some (c.layers.opener.number + (c.layers.opener.count - 2))) =
    λ h g m e. layers_more _ _ _ _ c.put_node.new.tree _ _ _ _ _ (c.layers.invariant.layers h g m e)
    c.layer_of_two.result
    (layer_by c.layer_of_two.result (λ m. layer_of_two m c.args.opener.run.delimiter) _ _ m c.layer_of_two.ensures) _
    refl c.layers-test.true (wrote_as _ _ _ _ _ _ _ _ _ c.put_node.ensures c.item_over-item.ensures refl refl) in
    record {
      layers = more;
      some = omega arith;
      fits = layers_fit p.chain p.around _ _ c.put_node.new.tree _ _ _ _ _
          (more p.chain p.around p.extensions_are p.encloses) (omega arith);
    }

pub returns-then-left-eq2 : goal.returns-then-left-eq2
returns-then-left-eq2 c h g m e =
    layers_two _ _ _ _ c.put_node-then-left-eq2.new.tree _ _ _ _ _ (c.layers.invariant.layers h g m e)
    c.layer_of_two-then-left-eq2.result
    (layer_by c.layer_of_two-then-left-eq2.result (λ m. layer_of_two m c.args.opener.run.delimiter) _ _ m
    c.layer_of_two-then-left-eq2.ensures) _ _ _ refl refl c.if-left-eq2.true c.next-rest.ensures.value
    (wrote_as _ _ _ _ _ _ _ _ _ c.put_node-then-left-eq2.ensures c.item_over-item-then-left-eq2.ensures refl refl)

pub returns-else-left-eq2 : goal.returns-else-left-eq2
returns-else-left-eq2 c h g m e =
    let not_two : c.layers.left ≡ 2 → ⊥ = c.if-left-eq2.false in
    layers_one _ _ _ _ c.put_node-else-left-eq2.new.tree _ _ _ _ _ (c.layers.invariant.layers h g m e)
    c.layer_of_one.result (layer_by c.layer_of_one.result (λ m. layer_of_one m c.args.opener.run.delimiter) _ _ m
    c.layer_of_one.ensures) _ _ refl (omega (arith, c.layers.invariant.some)) c.next-rest-else-left-eq2.ensures.value
    (wrote_as _ _ _ _ _ _ _ _ _ c.put_node-else-left-eq2.ensures c.item_over-item-else-left-eq2.ensures refl refl)
