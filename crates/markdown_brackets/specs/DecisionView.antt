-- What a `]` becomes in an arena, as contracts describe it.
use Rattle.std.specs.Prelude.{◌≡◌, ⊤, ℕ, Bool, true, List, Option, Some, is_some}
use Rattle.markdown_base.specs.CowText.{text_of}
use Rattle.markdown_base.specs.Forest.{Forest, nil, node}
use Rattle.markdown_base.specs.Questions.{Answers}
use Rattle.markdown_base.specs.declared.item.ItemBody.{ItemBody}
use Rattle.markdown_document.specs.ChainRest.{past_byte, start_of}
use Rattle.markdown_document.specs.Document.{TreeNode}
use Rattle.markdown_document.specs.Setting.{by_label}
use Rattle.markdown_document.specs.Places.{follows_pipe}
use Rattle.markdown_defs.specs.Allocations.{Allocated}
use Rattle.markdown_defs.specs.Definitions.{Labelled}
use Rattle.markdown_defs.specs.Footnotes.{footnote_at}
use Rattle.markdown_defs.specs.declared.footnotes.FootnoteDefs.{FootnoteDefs}
use Rattle.markdown_brackets.specs.BracketDecision.{BracketContext, Becomes, a_text, a_link, a_footnote, a_wikilink}
use Rattle.markdown_brackets.specs.BracketDecision.{Progress}
use Rattle.markdown_brackets.specs.BracketDecision.{past_second, text_from}
use Rattle.markdown_brackets.specs.ChainHeld.{link_to}
use Rattle.markdown_brackets.specs.LeftList.{Split, inside}
use Rattle.markdown_brackets.specs.LookupView.{target_view}
use Rattle.markdown_brackets.specs.TargetOrigins.{IsTargetFrom, titles_of}
use Rattle.markdown_brackets.specs.declared.closing_bracket.ClosedBracket.{ClosedBracket}
use Rattle.markdown_brackets.specs.declared.closing_bracket.ClosedBracket.TheVariants.{Text, Link, Footnote, Wikilinked}
use Rattle.markdown_brackets.specs.declared.openers.Opener.{Opener}
use Rattle.markdown_brackets.specs.declared.wikilink_nodes.ShownNodes.{ShownNodes}
use Rattle.markdown_brackets.specs.declared.wikilink_nodes.ShownNodes.TheVariants.{Over, From}
use Rattle.markdown_document.specs.declared.chain_place.ChainPlace.{ChainPlace}

-- by this rule each line continues after a prefix of the length given by `skipped`
abbrev pub GoesOnAfter : (rule : List ℕ → Option ℕ) → (List ℕ → ℕ) → Type 0
GoesOnAfter rule skipped = (bytes : List ℕ) → rule bytes ≡ Some (skipped bytes)

-- what reading the brackets of a chain at this place depends on: the line prefixes, the blocks above, the definitions
-- and footnotes, and whether there is a callback
abbrev pub bracket_context_at : ChainPlace → (List ℕ → ℕ) → List ItemBody → List Labelled → FootnoteDefs → Bool
    → BracketContext
bracket_context_at place skipped bodies definitions footnotes asks = record {
  setting = record {
    text = place.text.now;
    rules = record {
      syntax = place.syntax;
      definitions = by_label definitions;
      is_footnote = λ name. is_some (footnote_at footnotes name);
      asks = asks;
    };
  };
  above = record { block_end = place.block_end; in_table = place.in_table; bodies = bodies };
  skipped = skipped;
}

-- an opener of the left list, as a stack stores it
abbrev pub opener_of : Split ℕ → Opener
opener_of o = record { node = o.opener.note; is_image = o.state.is_image }

-- the trees that a wikilink shows, from those of its body
abbrev pub shown_of : BracketContext → Forest (TreeNode ℕ) → ShownNodes → Forest (TreeNode ℕ)
shown_of w nil shown = nil
shown_of w (node first below after) (Over ix start end) = node (text_from w first start end) nil nil
shown_of w (node first below after) (From ix at) = past_byte at (node first below after)

-- what a wikilink shows of its body begins after a pipe, or is its name
abbrev pub IsShownAfterPipe : List ℕ → ShownNodes → Type 0
IsShownAfterPipe text (Over ix start end) = ⊤
IsShownAfterPipe text (From ix at) = follows_pipe text at ≡ true

-- the first node that a wikilink shows
abbrev pub first_shown : ShownNodes → ℕ
first_shown (Over ix start end) = ix
first_shown (From ix at) = ix

-- a returned value represents what a `]` becomes; the title of an inline link has its origin, and is a slice of the
-- link's range in the source if that says so
abbrev pub IsBecome : BracketContext → Becomes ℕ → ClosedBracket → Type 0
IsBecome w a_text Text = Unit {0}
IsBecome w (a_link o target titles end next) (Link opener found found_end found_next) =
    (opener ≡ opener_of o) × (target_view found ≡ target) × (found_end ≡ end) × (found_next ≡ next)
    × (titles_of found ≡ titles) × IsTargetFrom w.setting.text (start_of o.opener) end found
IsBecome w (a_footnote o name) (Footnote opener found) = (opener ≡ opener_of o) × (text_of found ≡ name)
IsBecome w (a_wikilink o v end) (Wikilinked opener name has_pothole shown found_end) =
    (opener ≡ opener_of o) × (name.now ≡ v.name) × (has_pothole ≡ v.has_pothole)
    × (shown_of w (past_second (inside o)) shown ≡ v.children) × (link_to v.children ≡ Some (first_shown shown))
    × (found_end ≡ end) × IsShownAfterPipe w.setting.text shown
IsBecome w other found = ⊥

-- of these tables only uses of footnotes were counted
pub record CountsUses (old new : Allocated) : Type 0 where
  pub others : new ≡ record old { footdefs = new.footdefs }
  pub names : (name : List ℕ) → is_some (footnote_at new.footdefs name) ≡ is_some (footnote_at old.footdefs name)

-- the progress with this limit, these answers and these counts of uses
abbrev pub knowing : ℕ → Answers → (List ℕ → ℕ) → Progress ℕ → Progress ℕ
knowing limit answers uses p = record p { state = record { limit = limit; answers = answers; uses = uses } }
