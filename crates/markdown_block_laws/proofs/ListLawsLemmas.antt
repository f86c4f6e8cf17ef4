-- When a list is loose.
use Rattle.std.proofs.Common.{◌≡◌, Bool, true, false, refl, sym, ap, ◌∙◌, ◌&&◌, ◌||◌}
use Rattle.std.proofs.lemmas.Bool.{and_from, or_right, true≢false}
use Rattle.markdown_base.specs.Forest.{Forest, nil, node}
use Rattle.markdown_base.proofs.BoolLemmas.{and_first, and_second}
use Rattle.markdown_block_rules.specs.BlockGrowth.{Block}
use Rattle.markdown_block_rules.specs.BlockRules.{are_separated, block_ends_blank, ends_blank, hold_separated}
use Rattle.markdown_block_rules.specs.BlockRules.{holds_block, is_loose}
use Rattle.markdown_block_laws.specs.ListLaws.{BlankLineBetween, IsLooseAsSaid, between_items, in_an_item}
use Rattle.markdown_block_laws.specs.ListLaws.{ListIsLooseAsSaid}
use Rattle.markdown_builder.specs.TreeLevels.{followed_by}

right_true : (p q : Bool) → p ≡ false → (p || q) ≡ true → q ≡ true
right_true true q none one = absurd (true≢false none)
right_true false q none one = one

left_or : (p q : Bool) → p ≡ true → (p || q) ≡ true
left_or true q one = refl
left_or false q one = absurd (true≢false (sym one))

found_between : (blocks : Forest Block) → are_separated blocks ≡ true → BlankLineBetween blocks
found_between nil one = absurd (true≢false (sym one))
found_between (node b below after) one =
    decided (λ later. found_between after later)
    (block_ends_blank (ends_blank false below) b.kind && holds_block after) refl
  where
    decided : (are_separated after ≡ true → BlankLineBetween after) → (test : Bool)
        → (block_ends_blank (ends_blank false below) b.kind && holds_block after) ≡ test
        → BlankLineBetween (node b below after)
    decided others true is = record {
      before = nil;
      block = b;
      below = below;
      after = after;
      split = refl;
      ends = and_first (block_ends_blank (ends_blank false below) b.kind) (holds_block after) is;
      follows = and_second (block_ends_blank (ends_blank false below) b.kind) (holds_block after) is;
    }
    decided others false none =
        let more = others
        (right_true (block_ends_blank (ends_blank false below) b.kind && holds_block after) (are_separated after) none
        one) in
        record {
          before = node b below more.before;
          block = more.block;
          below = more.below;
          after = more.after;
          split = ap (node b below) more.split;
          ends = more.ends;
          follows = more.follows;
        }

separated_there : (before : Forest Block) (block : Block) (below after : Forest Block)
    → block_ends_blank (ends_blank false below) block.kind ≡ true → holds_block after ≡ true
    → are_separated (followed_by before (node block below after)) ≡ true
separated_there nil block below after ends follows =
    left_or (block_ends_blank (ends_blank false below) block.kind && holds_block after) (are_separated after)
    (and_from (block_ends_blank (ends_blank false below) block.kind) (holds_block after) ends follows)
separated_there (node c inside others) block below after ends follows =
    or_right (block_ends_blank (ends_blank false inside) c.kind && holds_block
    (followed_by others (node block below after)))
    (are_separated (followed_by others (node block below after)))
    (separated_there others block below after ends follows)

said_between : (blocks : Forest Block) → BlankLineBetween blocks → are_separated blocks ≡ true
said_between blocks between =
    ap are_separated between.split
    ∙ separated_there between.before between.block between.below between.after between.ends between.follows

found_in_item : (items : Forest Block) → hold_separated items ≡ true → IsLooseAsSaid items
found_in_item nil one = absurd (true≢false (sym one))
found_in_item (node b below after) one = decided (λ is. found_in_item after is) (are_separated below) refl
  where
    later : IsLooseAsSaid after → hold_separated after ≡ true → IsLooseAsSaid (node b below after)
    later (in_an_item before item inside others split between) is =
        in_an_item (node b below before) item inside others (ap (node b below) split) between
    later (between_items between) is = between_items (record {
      before = node b below between.before;
      block = between.block;
      below = between.below;
      after = between.after;
      split = ap (node b below) between.split;
      ends = between.ends;
      follows = between.follows;
    })

    decided : (hold_separated after ≡ true → IsLooseAsSaid after) → (test : Bool) → are_separated below ≡ test
        → IsLooseAsSaid (node b below after)
    decided others true is = in_an_item nil b below after refl (found_between below is)
    decided others false none =
        let is = right_true (are_separated below) (hold_separated after) none one in later (others is) is

holds_there : (before : Forest Block) (item : Block) (below after : Forest Block) → are_separated below ≡ true
    → hold_separated (followed_by before (node item below after)) ≡ true
holds_there nil item below after is = left_or (are_separated below) (hold_separated after) is
holds_there (node c inside others) item below after is =
    or_right (are_separated inside) (hold_separated (followed_by others (node item below after)))
    (holds_there others item below after is)

pub loose_as_said : ListIsLooseAsSaid
loose_as_said items = (found, said)
  where
    found : is_loose items ≡ true → IsLooseAsSaid items
    found one = decided (are_separated items) refl
      where
        decided : (test : Bool) → are_separated items ≡ test → IsLooseAsSaid items
        decided true is = between_items (found_between items is)
        decided false none = found_in_item items (right_true (are_separated items) (hold_separated items) none one)

    said : IsLooseAsSaid items → is_loose items ≡ true
    said (between_items between) =
        left_or (are_separated items) (hold_separated items) (said_between items between)
    said (in_an_item before item below after split between) =
        or_right (are_separated items) (hold_separated items)
        (ap hold_separated split ∙ holds_there before item below after (said_between below between))
