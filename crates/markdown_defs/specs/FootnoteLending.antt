-- What the footnotes are once a `&mut` to one of them ends.
use mathlib.Core.Option as maybe
use Rattle.std.specs.Prelude.{◌≡◌, ℕ, List, Option, None, Some, Result, Ok, Err, cond, if◌then◌else◌, OnSome, IfNone, ⊤}
use Rattle.std.specs.Option.{ghost_name_of}
use Rattle.std.specs.Borrow.{LendsSo, LendsSoOk, MutBor, Fml, GName, follows_so}
use Rattle.markdown_base.specs.declared.fault.Fault.{Fault}
use Rattle.std.specs.BTreeMap.{get_by_text}
use Rattle.std.specs.Str.{bytes_eq}
use Rattle.markdown_defs.specs.Folding.{is_match}
use Rattle.markdown_defs.specs.Footnotes.{footnote_at}
use Rattle.markdown_defs.specs.contracts.footnotes.FootnoteDef as footnote
use Rattle.markdown_defs.specs.contracts.footnotes.FootnoteDefs as footnotes
use Rattle.markdown_defs.specs.declared.footnotes.Absence.{Absence}
use Rattle.markdown_defs.specs.declared.footnotes.FootnoteDef.{FootnoteDef}
use Rattle.markdown_defs.specs.declared.footnotes.FootnoteDefs.{FootnoteDefs}

-- the footnote of this folding is the last value of the reference that was lent, and all others are as before; if no
-- reference was lent, all are as before
abbrev pub LendsFolded : MutBor FootnoteDefs → List ℕ → Option (MutBor FootnoteDef) → Fml
LendsFolded lender folded lent =
    LendsSo footnotes.the_row footnote.the_row lender lent
    (λ after last. OnSome lent ((bytes : List ℕ) → get_by_text after.by_folding bytes
    ≡ cond (bytes_eq folded bytes) (Some last) (get_by_text lender.now.by_folding bytes)))
    (λ after. (bytes : List ℕ) → get_by_text after.by_folding bytes
    ≡ get_by_text lender.now.by_folding bytes)

-- each name that matches the key finds the last value of the reference that was lent, and all others find what they did
-- before; if no reference was lent, all do
abbrev pub LendsDefined : MutBor FootnoteDefs → List ℕ → Result (MutBor FootnoteDef) Absence → Fml
LendsDefined lender key lent =
    LendsSoOk footnotes.the_row footnote.the_row lender lent
    (λ after last. (name : List ℕ) → footnote_at after name
    ≡ (if is_match key name then Some last else footnote_at lender.now name))
    (λ after. (name : List ℕ) → footnote_at after name ≡ footnote_at lender.now name)

-- the name of the reference that was lent, if one was
abbrev pub name_if_lent : Result (Option (MutBor FootnoteDef)) Fault → maybe.Option GName
name_if_lent (Ok found) = ghost_name_of found
name_if_lent (Err fault) = maybe.none

-- P, if a reference was lent
abbrev pub OnLent : Result (Option (MutBor FootnoteDef)) Fault → Type 0 → Type 0
OnLent (Ok found) P = OnSome found P
OnLent (Err fault) P = ⊤

-- P, if no reference was lent, or an allocation failed
abbrev pub OnNoneLent : Result (Option (MutBor FootnoteDef)) Fault → Type 0 → Type 0
OnNoneLent (Ok found) P = IfNone found P
OnNoneLent (Err fault) P = P

-- the same as `LendsDefined`, where an undefined footnote is not an error
abbrev pub LendsFootnote : MutBor FootnoteDefs → List ℕ → Result (Option (MutBor FootnoteDef)) Fault → Fml
LendsFootnote lender key lent =
    follows_so footnotes.the_row footnote.the_row lender.ghost_name (name_if_lent lent)
    (λ last after. OnLent lent ((name : List ℕ) → footnote_at after name
    ≡ (if is_match key name then Some last else footnote_at lender.now name)))
    (λ after. OnNoneLent lent ((name : List ℕ) → footnote_at after name ≡ footnote_at lender.now name))

-- what was found, with `None` for a footnote that is not defined
abbrev pub none_if_undefined : Result (MutBor FootnoteDef) Absence → Result (Option (MutBor FootnoteDef)) Fault
none_if_undefined (Ok footnote) = Ok (Some footnote)
none_if_undefined (Err Absence.Undefined) = Ok None
none_if_undefined (Err Absence.Refused) = Err Fault.Memory
