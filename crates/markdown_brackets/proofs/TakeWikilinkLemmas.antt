-- A left list before a `]` in an arena: the openers on the stacks are those of the list, and are where the list says.
use Rattle.std.proofs.Common.{◌≡◌, ℕ, ◌≤◌, Bool, true, false, List, [], ◌∷◌, Option, Some, None, length, refl, sym, ◌∙◌}
use Rattle.std.proofs.Common.{ap, subst, arith}
use Rattle.std.specs.Prelude.{IfSome, MatchOption, if◌then◌else◌, ⊤}
use Rattle.markdown_base.specs.Arena.{sibling_of}
use Rattle.markdown_base.specs.ArenaForest.{links_of}
use Rattle.markdown_base.specs.BlockTree.{item_at}
use Rattle.markdown_base.specs.Forest.{Forest, nil, node}
use Rattle.markdown_base.specs.declared.item.Item.{Item}
use Rattle.markdown_base.specs.declared.node.Node.{Node}
use Rattle.markdown_base.proofs.ArenaForestLemmas.{forest_at-height, height}
use Rattle.markdown_document.specs.ChainRest.{start_of, joined_chains, open_body}
use Rattle.markdown_document.specs.Document.{TreeNode}
use Rattle.markdown_document.specs.Totals.{same}
use Rattle.markdown_document.proofs.TablesLemmas.{same-refl}
use Rattle.markdown_brackets.specs.BracketDecision.{BracketContext, Closing, Decision, Written, Progress, Wikilink}
use Rattle.markdown_brackets.specs.BracketDecision.{bracket_found, carried_out, decided, found, left_for_one}
use Rattle.markdown_brackets.specs.BracketDecision.{past_second, second_end, wikilink, wikilink_found, wikilink_in}
use Rattle.std.specs.Option.{option_and_then, option_map, option_or}
use Rattle.markdown_brackets.specs.ChainHeld.{Holds, numbers_of, times_of}
use Rattle.markdown_brackets.specs.Decides.{StandsBefore}
use Rattle.markdown_brackets.specs.DecisionView.{opener_of}
use Rattle.markdown_brackets.specs.Finish.{IsSplit}
use Rattle.markdown_brackets.specs.LeftList.{Entry, Split, done, inside, is_live, nearest, opens_bracket}
use Rattle.markdown_brackets.specs.LeftList.{opens_wikilink, waits, without_bracket, without_wikilink, bracket_taken}
use Rattle.markdown_brackets.specs.LeftList.{wikilink_taken, trees_onto, Flag, OpenerState}
use Rattle.markdown_brackets.specs.HeldOpeners.{brackets_of, wikilinks_of}
use Rattle.markdown_brackets.specs.Openers.{Waiting}
use Rattle.markdown_brackets.specs.Reference.{is_closing_bracket}
use Rattle.markdown_brackets.specs.StandsAt.{FindsWikilink, IsWikilink, HoldsInside, TriesWikilink, TakesNone}
use Rattle.markdown_brackets.specs.StandsAt.{TakesWikilink}
use Rattle.markdown_brackets.specs.declared.closing_bracket.ClosedBracket.{ClosedBracket}
use Rattle.markdown_brackets.specs.declared.closing_bracket.ClosedBracket.TheVariants.{Wikilinked}
use Rattle.markdown_brackets.specs.declared.openers.Opener.{Opener}
use Rattle.markdown_brackets.proofs.AheadOfBracketLemmas.{same_start, same_end, same_closer}
use Rattle.markdown_brackets.proofs.BracketStandsLemmas.{Found, found_after, found_at}
use Rattle.markdown_brackets.proofs.HeldTreesLemmas.{Holds-from, height-later, total-onto, total-joined}
use Rattle.markdown_brackets.proofs.OpenerHeldLemmas.{top_bracket, top_wikilink, wikilinks_stay, brackets_stay}
use Rattle.markdown_brackets.proofs.OpenerHeldLemmas.{trees_stay, splits_at, SplitsAt, onto_joined, Top, for_bracket}
use Rattle.markdown_brackets.proofs.OpenerHeldLemmas.{for_wikilink}
use Rattle.markdown_brackets.proofs.SplitLemmas.{taken_splits}
use Rattle.std.proofs.Math.Bool.{and-false}

-- a stack that was not empty
abbrev pub rest_of : List Waiting → List Waiting
rest_of [] = []
rest_of (t ∷ held) = held

abbrev pub first_of : Waiting → List Waiting → Waiting
first_of other [] = other
first_of other (t ∷ held) = t

-- what is left of a stack whose top was taken off
abbrev pub TakenOff : Option (Opener × Bool) → (old new : List Waiting) → Type 0
TakenOff taken old new =
    MatchOption taken ((old ≡ []) × (new ≡ [])) (λ t. old ≡ record { opener = t.0; is_live = t.1 } ∷ new)

pub left_of : (taken : Option (Opener × Bool)) (old new : List Waiting) → TakenOff taken old new → new ≡ rest_of old
left_of None old new m = m.1 ∙ sym (ap rest_of m.0)
left_of (Some t) old new m = sym (ap rest_of m)

-- the opener on top is the nearest one
abbrev pub IsNearest : (OpenerState → Flag) → Option (Opener × Bool) → Option (Split ℕ) → Type 0
IsNearest flag None None = ⊤
IsNearest flag (Some t) (Some o) = (t.0 ≡ opener_of o) × (t.1 ≡ is_live (flag o.state))
IsNearest flag taken o = ⊥

pub is_nearest : (flag : OpenerState → Flag) (taken : Option (Opener × Bool)) (old new held rest : List Waiting)
    (o : Option (Split ℕ)) → TakenOff taken old new → old ≡ held → Top flag held rest o → IsNearest flag taken o
is_nearest flag None old new held rest None m e top = tt
is_nearest flag None old new held rest (Some o) m e top = let a = sym m.0 ∙ e ∙ top in cc
is_nearest flag (Some t) old new held rest None m e top = let a = sym m ∙ e ∙ top.0 in cc
is_nearest flag (Some t) old new held rest (Some o) m e top =
    let first = ap (first_of (record { opener = t.0; is_live = t.1 })) (sym m ∙ e ∙ top) in
    (ap (λ (v : Waiting). v.opener) first, ap (λ (v : Waiting). v.is_live) first)

-- without the one on top, a stack holds the list without the nearest opener
rest_is : (flag : OpenerState → Flag) (held rest : List Waiting) (o : Option (Split ℕ)) → Top flag held rest o
    → rest_of held ≡ rest
rest_is flag held rest None h = ap rest_of h.0 ∙ sym h.1
rest_is flag held rest (Some o) h = ap rest_of h

rest_wikilinks : (left : List (Entry ℕ)) → rest_of (wikilinks_of left) ≡ wikilinks_of (wikilink_taken left)
rest_wikilinks left = rest_is for_wikilink _ _ (nearest opens_wikilink left) (top_wikilink left)

pub rest_brackets : (left : List (Entry ℕ)) → rest_of (brackets_of left) ≡ brackets_of (bracket_taken left)
rest_brackets left = rest_is for_bracket _ _ (nearest opens_bracket left) (top_bracket left)

-- openers are taken off in any order
taken_both : (left : List (Entry ℕ)) → wikilink_taken (bracket_taken left) ≡ bracket_taken (wikilink_taken left)
taken_both [] = refl
taken_both (done a below ∷ left) = ap (λ (l : List (Entry ℕ)). done a below ∷ l) (taken_both left)
taken_both (waits m a ∷ left) = by (opens_bracket m) (opens_wikilink m) refl refl (taken_both left)
  where
    by : (b d : Bool) → opens_bracket m ≡ b → opens_wikilink m ≡ d → wikilink_taken (bracket_taken left)
        ≡ bracket_taken (wikilink_taken left)
        → wikilink_taken (bracket_taken (waits m a ∷ left)) ≡ bracket_taken (wikilink_taken (waits m a ∷ left))
    by true true e f h = rw (e, f, e) refl
    by true false e f h = rw (e, f, e) refl
    by false true e f h = rw (e, f, e) refl
    by false false e f h = rw (e, f, e) (ap (λ (l : List (Entry ℕ)). waits m a ∷ l) h)

module _ (nodes : List (Node Item)) (closer : ℕ) (left : List (Entry ℕ)) (c : Closing ℕ)
    (s : StandsBefore nodes closer left c) where
  abbrev after_left : Forest (TreeNode ℕ)
  after_left = node c.node nil c.rest

  -- all trees from a part of the left list on are at most as high as there are nodes
  low : height (numbers_of (trees_onto left after_left)) ≤ length nodes
  low = subst (λ g. height g ≤ length nodes) s.found (forest_at-height (links_of nodes) s.first)

  -- the `]` and the chain after it
  pub closer_found : Found s.source s.tables nodes (Some closer) after_left
  closer_found =
      let h = Holds-from s.source s.tables nodes s.first left after_left s.holds in
      let first : h.0 ≡ Some closer = h.1.0 ∙ ap (λ n. Some n) s.number in
      record {
        holds = rw first at h.1;
        low = omega (arith, low, height-later left after_left);
      }

  pub rest_found : Found s.source s.tables nodes (sibling_of nodes closer) c.rest
  rest_found = rw s.number at (found_after s.source s.tables nodes (Some closer) c.node nil c.rest closer_found)

  -- an opener of the left list, with flags of its own
  module _ (other : List (Entry ℕ)) (trees : (later : Forest (TreeNode ℕ)) → trees_onto other later
      ≡ trees_onto left later) (o : Split ℕ)
      (splits : SplitsAt other o) where
    onto : trees_onto left after_left ≡ trees_onto o.before (node o.opener nil (trees_onto o.after after_left))
    onto = sym (trees after_left) ∙ splits after_left

    pub opener_holds : Holds s.source s.tables nodes (Some o.opener.note)
        (node o.opener nil (trees_onto o.after after_left))
    opener_holds =
        let h = Holds-from s.source s.tables nodes s.first o.before _ (rw onto at s.holds) in rw h.1.0 at h.1

    opener_low : height (numbers_of (node o.opener nil (trees_onto o.after after_left))) ≤ length nodes
    opener_low =
        let whole = rw onto at low in
        omega (arith, whole, height-later o.before (node o.opener nil (trees_onto o.after after_left)))

    pub between : (opener : Opener) → opener ≡ opener_of o → HoldsInside nodes closer opener c o
    between opener e =
        let n : opener.node ≡ o.opener.note = ap (λ (p : Opener). p.node) e in
        let after : trees_onto o.after after_left ≡ joined_chains (inside o) after_left = onto_joined o.after nil
        after_left in
        let there : Found s.source s.tables nodes (sibling_of nodes opener.node) (joined_chains (inside o) after_left)
        = rw (n, ← after) (record { holds = opener_holds.4; low = omega (arith, opener_low) }) in
        let once = s.once c.node.note in
        let counted = ap (λ f. times_of c.node.note f) onto in
        let first = total-onto (same c.node.note) o.before (node o.opener nil (trees_onto o.after after_left)) in
        let second = ap (λ f. times_of c.node.note f) after in
        let third = total-joined (same c.node.note) (inside o) after_left in
        record {
          source = s.source;
          tables = s.tables;
          holds = there.holds;
          found = found_at s.source s.tables nodes (sibling_of nodes opener.node) (joined_chains (inside o) after_left)
              there;
          apart = omega (arith, once, counted, first, second, third, same-refl c.node.note);
          number = s.number;
          starts = rw (← s.number) (same_start s.source s.tables nodes c.node closer_found.holds.2);
          order = s.order;
        }

  module _ (w : BracketContext) where
    -- the decision, with the end of a second `]`
    abbrev decided_by : Option ℕ → Progress ℕ → Decision ℕ
    decided_by second p = carried_out w (found w c second p.left)
        (record p { left = bracket_taken (left_for_one second p.left) })

    decided_is : (second : Option ℕ) → second_end w c.rest ≡ second → (p : Progress ℕ) → decided w c p
        ≡ decided_by second p
    unfolding decided
    decided_is second e p = ap (λ second. decided_by second p) e

    -- where no wikilink is tried
    none_tried : (held : List Waiting) → held ≡ wikilinks_of left → second_end w c.rest ≡ None → TakesNone w c left held
    none_tried held h e = record {
      left_then = left;
      held_is = h;
      brackets = refl;
      trees = λ later. refl;
      decides = λ p. decided_is None e (record p { left = left });
    }

    pub none_by_off : (held : List Waiting) → held ≡ wikilinks_of left → w.setting.rules.syntax.wikilinks ≡ false
        → TakesNone w c left held
    none_by_off held h off = none_tried held h (by c.rest)
      where
        by : (rest : Forest (TreeNode ℕ)) → second_end w rest ≡ None
        by nil = refl
        by (node a below after) = rw off refl

    pub none_by_next : (held : List Waiting) → held ≡ wikilinks_of left
        → MatchOption (sibling_of nodes closer) (Unit {0}) (λ next. is_closing_bracket
        (item_at nodes next).body ≡ false)
        → TakesNone w c left held
    none_by_next held h next = none_tried held h (by c.rest (sibling_of nodes closer) rest_found.holds next)
      where
        by : (rest : Forest (TreeNode ℕ)) (l : Option ℕ) → Holds s.source s.tables nodes l rest
            → MatchOption l (Unit {0}) (λ next. is_closing_bracket (item_at nodes next).body ≡ false)
            → second_end w rest ≡ None
        by nil l h m = refl
        by (node a below after) None h m = let e = h.0 in cc
        by (node a below after) (Some next) h m =
            let e : next ≡ a.note = let q = h.0 in cc in
            let none : is_closing_bracket (open_body a.part.shape) ≡ false =
            sym (same_closer s.source s.tables nodes a h.2) ∙ rw e at m in
            rw (none, and-false w.setting.rules.syntax.wikilinks) refl

    -- where a wikilink is tried
    module _ (next : ℕ) (is_next : sibling_of nodes closer ≡ Some next) (closes : is_closing_bracket
        (item_at nodes next).body
        ≡ true)
        (on : w.setting.rules.syntax.wikilinks ≡ true) where
      abbrev end : ℕ
      end = (item_at nodes next).end

      abbrev wikilink_opener : Option (Split ℕ)
      wikilink_opener = nearest opens_wikilink (bracket_taken left)

      second_is : second_end w c.rest ≡ Some end
      second_is = by c.rest (sibling_of nodes closer) rest_found.holds is_next
        where
          by : (rest : Forest (TreeNode ℕ)) (l : Option ℕ) → Holds s.source s.tables nodes l rest → l ≡ Some next
              → second_end w rest ≡ Some end
          by nil l h e = let q : l ≡ None = h in cc
          by (node a below after) l h e =
              let n : next ≡ a.note = let q = h.0 in cc in
              let is : is_closing_bracket (open_body a.part.shape) ≡ true =
              sym (same_closer s.source s.tables nodes a h.2) ∙ rw n at closes in
              rw (on, n, is, same_end s.source s.tables nodes a h.2) refl

      -- the decision, by the wikilink that is found
      decided_as : (x : Option (Written ℕ)) → option_and_then (wikilink_found w c end) wikilink_opener ≡ x
          → (p : Progress ℕ)
          → decided w c (record p { left = left })
          ≡ carried_out w (option_or x
          (option_and_then (bracket_found w c) (nearest opens_bracket (wikilink_taken left))))
          (record p { left = bracket_taken (wikilink_taken left) })
      decided_as x e p =
          let now : Progress ℕ = record p { left = bracket_taken (wikilink_taken left) } in
          let one : Option (Written ℕ) = option_and_then (bracket_found w c)
          (nearest opens_bracket (wikilink_taken left)) in
          decided_is (Some end) second_is (record p { left = left }) ∙ ap (λ x. carried_out w (option_or x one) now) e

      module _ (taken : Option (Opener × Bool)) (old new : List Waiting) (old_is : old ≡ wikilinks_of left)
          (m : TakenOff taken old new) where
        new_is : new ≡ rest_of (wikilinks_of left)
        new_is = left_of taken old new m ∙ ap rest_of old_is

        tries_two : (o : Option (Split ℕ)) → wikilink_opener ≡ o → TriesWikilink nodes closer taken c o
        tries_two o e = by taken o (subst (IsNearest for_wikilink taken) e
            (is_nearest for_wikilink taken old new _ _ _ m (old_is ∙ sym (wikilinks_stay left))
            (top_wikilink (bracket_taken left))))
            (subst (λ o. IfSome o (SplitsAt (bracket_taken left))) e (splits_at opens_wikilink (bracket_taken left)))
          where
            by : (taken : Option (Opener × Bool)) (o : Option (Split ℕ)) → IsNearest for_wikilink taken o
                → IfSome o (SplitsAt (bracket_taken left)) → TriesWikilink nodes closer taken c o
            by None None k splits = tt
            by (Some t) (Some o) k splits = record {
              opener = k.0;
              live = k.1;
              stands = between (bracket_taken left) (trees_stay opens_bracket without_bracket left) o splits t.0 k.0;
            }
            by taken o k splits = absurd k

        pub takes : (r : Option ClosedBracket)
            → ((o : Option (Split ℕ)) → TriesWikilink nodes closer taken c o → FindsWikilink w end c o r)
            → TakesWikilink w c left new r
        takes r finds = by wikilink_opener refl (finds wikilink_opener (tries_two wikilink_opener refl))
          where
            takes_none : option_and_then (wikilink_found w c end) wikilink_opener ≡ None → TakesNone w c left new
            takes_none e = record {
              left_then = wikilink_taken left;
              held_is = new_is ∙ rest_wikilinks left;
              brackets = brackets_stay left;
              trees = trees_stay opens_wikilink without_wikilink left;
              decides = decided_as None e;
            }

            by : (o : Option (Split ℕ)) → wikilink_opener ≡ o → FindsWikilink w end c o r
                → TakesWikilink w c left new r
            by None q h = rw h (takes_none (ap (option_and_then (wikilink_found w c end)) q))
            by (Some o) q h = inner shown refl r h
              where
                shown : Option (Wikilink ℕ)
                shown =
                    if is_live o.state.wikilink then wikilink_in w (past_second (inside o)) (start_of c.node) else None

                splits : IsSplit (bracket_taken (wikilink_taken left)) o
                splits = rw (taken_both left) at
                    (rw q at (taken_splits opens_wikilink without_wikilink (bracket_taken left)))

                found_is : (live : Bool) (v : Option (Wikilink ℕ))
                    → (if live then option_map (λ v. wikilink o v end) v else None)
                    ≡ option_map (λ v. wikilink o v end) (if live then v else None)
                found_is true v = refl
                found_is false v = refl

                all_is : (x : Option (Wikilink ℕ)) → shown ≡ x
                    → option_and_then (wikilink_found w c end) wikilink_opener ≡ option_map (λ v. wikilink o v end) x
                all_is x e =
                    ap (option_and_then (wikilink_found w c end)) q
                    ∙ (found_is (is_live o.state.wikilink) (wikilink_in w (past_second (inside o)) (start_of c.node))
                    ∙ ap (option_map (λ v. wikilink o v end)) e)

                inner : (x : Option (Wikilink ℕ)) → shown ≡ x → (r : Option ClosedBracket)
                    → IsWikilink w (opener_of o) end (past_second (inside o)) x r → TakesWikilink w c left new r
                inner None e None h = takes_none (all_is None e)
                inner (Some v) e (Some (Wikilinked a b d f g)) h = record {
                  opener = o;
                  wikilink = v;
                  end = end;
                  held_is = new_is ∙ (rest_wikilinks left ∙ sym (wikilinks_stay (wikilink_taken left)));
                  splits = splits;
                  decides = decided_as (Some (wikilink o v end)) (all_is (Some v) e);
                  is = h;
                }
                inner x e r h = absurd h
