-- The definition is added.
use Rattle.std.proofs.Common.{ap, refl, ◌∙◌, List, ◌∷◌, [], map}
use Rattle.std.proofs.lemmas.List.{map-append}
use Rattle.markdown_base.specs.declared.cow_str.CowStr.{CowStr}
use Rattle.markdown_builder.specs.BuilderView.{stored_definition}
use Rattle.markdown_base.specs.declared.block_parts.LinkDef.{LinkDef}
use Rattle.markdown_builder.specs.Standing.{standpoint}
use Rattle.markdown_builder.proofs.CallLemmas.{define_keeps}
use Rattle.markdown_builder.proofs.builder.Builder.define.Goals as goal

pub invariant_of-self-2 : goal.invariant_of-self-2
invariant_of-self-2 c = let made : LinkDef = record
    { dest = c.args.dest; title = c.args.title; span = record { start = c.self.inside.at; end = c.args.end } } in (
      rw c.in_ok-push.ensures.items
          (define_keeps (standpoint c.args.self.now) c.args.end (c.args.label, made) c.self.invariant.0
          (ap standpoint c.self.view_is) c.requires.low c.requires.boundary c.requires.bracket refl),
      c.self.invariant.1,
    )

pub returns : goal.returns
returns c = let made : LinkDef = record
    { dest = c.args.dest; title = c.args.title; span = record { start = c.self.inside.at; end = c.args.end } } in
    let definitions = ap (λ (ds : List (CowStr × LinkDef)). map stored_definition ds) c.in_ok-push.ensures.items
    ∙ map-append stored_definition c.self.inside.definitions.items ((c.args.label, made) ∷ []) in
    rw (← c.self.view_is) (rw definitions refl)
