-- The answer of the object in a box is the answer of the box.
use Rattle.std.proofs.Common.{◌≡◌, refl, subst}
use Rattle.markdown_defs.specs.CallbackViews.{question_of, answer_of}
use Rattle.markdown_defs.proofs.callback.BoxDynBoxedCallbackBrokenLinkCallback.handle_broken_link.Goals as goal

-- what a step left in a box, as a value of the box as it was before
left_after : {I D : Type 0} (X : I → Type 0) (made : (i : I) → X i → D) (G : (i : I) → X i → X i → Type 0)
    (p : (i : I) × X i) (i : I) (x : X i) → p ≡ (i, x)
    → (new : X p.0) → G p.0 p.1 new → (y : X i) × G i x y × (made p.0 new ≡ made i y)
left_after X made G p i x e new h =
    let P = λ (q : (i : _) × X i). (y : X q.0) × G q.0 q.1 y × (made p.0 new ≡ made q.0 y) in
    subst P e (new, h, refl)

pub returns-clause-answered : goal.returns-clause-answered
returns-clause-answered g c =
    left_after _ (λ i x. record { ptr = c.args.self.now.ptr; vtable = i; alloc = c.args.self.now.alloc; value = x })
    (λ i x y. (g.dyn-1.0.entry i).1.gives x (question_of c.args.link) (answer_of c.answer-given.result) y) _ _ _
    c.deref_box_mut-1.ensures.value.1
    c.answer-given.new.self (rw c.as_str.ensures at c.answer-given.ensures)
