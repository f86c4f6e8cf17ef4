-- The events of a forest in which no leaf is a Start or an End are balanced.
use Rattle.std.proofs.Common.{◌≡◌, ℕ, List, [], ◌∷◌, ◌++◌, refl, sym, subst, append_assoc, append-nil, arith}
use Rattle.std.specs.declared.ops.Range.{Range}
use Rattle.markdown_base.specs.Event.{EventView, start, end, tag_end}
use Rattle.markdown_base.specs.Forest.{Forest, nil, node}
use Rattle.markdown_document.specs.Document.{Shape, leaf, enclosed, plain, backslash_break, unresolved, TreeNode}
use Rattle.markdown_delims.proofs.SumLemmas.{sum_of}
use Rattle.markdown_inline.specs.Balanced.{Ranged, Awaited, EndsInTurn, AreBalanced, AreBalancedFrom, BalancedLaw}
use Rattle.markdown_inline.specs.ResolvedDocument.{resolved_blocks}
use Rattle.markdown_inline.proofs.EndOrderLemmas.{total}
use Rattle.markdown_inline.proofs.WholeReadingLemmas.{alone, alone_at, alone_event, ranged_in, opened_events}
use Rattle.markdown_inline.proofs.WholeReadingLemmas.{whole_events, whole_such}

-- an event that is no Start and no End
lone_turn : (e : EventView) (range : Range ℕ) (awaited : List Awaited) (rest : List Awaited → Type 0)
    → total (alone_event e) ≡ 0
    → rest awaited → EndsInTurn e range awaited rest
lone_turn (start tag) range awaited rest e h = cc e
lone_turn (end x) range awaited rest e h = cc e
lone_turn other range awaited rest e h = h

-- events that keep what is awaited before balanced events
abbrev Goes : List Ranged → Type 0
Goes es = (awaited : List Awaited) (rest : List Ranged) → AreBalancedFrom awaited rest
    → AreBalancedFrom awaited (es ++ rest)

-- a tree before others
goes_on : (shape : Shape) (range : Range ℕ) (es fs : List Ranged) → total (alone_at shape) ≡ 0 → Goes es → Goes fs
    → Goes (opened_events shape range es fs)
goes_on (leaf e origins) range es fs lone inside after awaited rest h =
    lone_turn e range awaited (λ awaited. AreBalancedFrom awaited (fs ++ rest)) lone (after awaited rest h)
goes_on (enclosed tag origins) range es fs lone inside after awaited rest h =
    subst (λ xs. AreBalancedFrom ((tag_end tag, range) ∷ awaited) xs)
    (sym (append_assoc es ((end (tag_end tag), range) ∷ fs) rest))
    (inside ((tag_end tag, range) ∷ awaited) ((end (tag_end tag), range) ∷ (fs ++ rest))
    (refl, refl, after awaited rest h))
goes_on plain range es fs lone inside after awaited rest h =
    subst (λ xs. AreBalancedFrom awaited xs) (sym (append_assoc es fs rest))
    (inside awaited (fs ++ rest) (after awaited rest h))
goes_on backslash_break range es fs lone inside after awaited rest h = after awaited rest h
goes_on (unresolved b) range es fs lone inside after awaited rest h = after awaited rest h

-- the events of a forest do so
balanced_in : {A : Type 0} (f : Forest (TreeNode A)) → sum_of alone f ≡ 0 → Goes (ranged_in f)
balanced_in nil lone awaited rest h = h
balanced_in (node a below later) lone awaited rest h =
    goes_on a.part.shape a.part.range (ranged_in below) (ranged_in later) (omega (arith, lone))
    (balanced_in below (omega (arith, lone)))
    (balanced_in later (omega (arith, lone))) awaited rest h

pub balanced-law : BalancedLaw
balanced-law blocks asks answers =
    let r = whole_such blocks asks answers in
    let trees = (resolved_blocks blocks asks answers).trees in
    subst AreBalanced (sym (whole_events blocks asks answers)) (subst AreBalanced (append-nil (ranged_in trees))
    (balanced_in trees r.lone [] [] refl))
