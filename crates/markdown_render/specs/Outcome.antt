-- What a run of the program has read and written, for each outcome.
use Rattle.std.specs.Prelude.{◌≡◌, ◌⊎◌, ℕ, List, ◌++◌, Option, Result, Ok, Err, IfSome}
use Rattle.std.specs.Str.{IsUtf8}
use Rattle.std.specs.Io.KnownBytes.{Appends, IsAtEnd}
use Rattle.markdown_base.specs.Source.{source_as}
use Rattle.markdown_base.specs.Syntax.{profile_syntax}
use Rattle.markdown_base.specs.declared.fault.Fault.TheVariants.{Memory, Blocks, Depth}
use Rattle.markdown_base.specs.declared.options.Options.{Options}
use Rattle.markdown_render.specs.HtmlOfText.{IsTextTooDeep, html_of_text}
use Rattle.markdown_render.specs.declared.run.Failure.{Failure}
use Rattle.markdown_render.specs.declared.run.Failure.TheVariants.{ReadFailed, NotText, Fault, WriteFailed}

-- the exit status: 0 where nothing failed
abbrev pub status_of : Result (Unit {0}) Failure → ℕ
status_of (Ok done) = 0
status_of (Err failure) = 1

-- what was held is followed by a prefix of these bytes, and nothing else, where it is known what is held
pub record AppendsKnownPrefix (old new : Option (List ℕ)) (bytes : List ℕ) : Type 0 where
  pub prefix : List ℕ
  pub missing : List ℕ
  pub stands : Appends old new prefix
  pub whole : prefix ++ missing ≡ bytes

-- what is left of the reader before a run and after it, where that is known; and the writer before and after, with what
-- it holds, where that is known; the output of a text; and when the text is too deep for it
module _ {W : Type 0} (contents : W → Option (List ℕ)) (output : List ℕ → List ℕ) (too_deep : Type 0)
    (unread left : Option (List ℕ)) (old new : W) where
  -- everything was read, it was UTF-8, and what the writer held is followed by its output, whole or in part
  pub record IsWritten (stands : Option (List ℕ) → Option (List ℕ) → List ℕ → Type 0) : Type 0 where
    pub all_read : IsAtEnd left
    pub written : IfSome unread (λ bytes. IsUtf8 bytes × stands (contents old) (contents new) (output bytes))

  -- Where nothing failed, the whole output has been written. Nothing is written before everything has been read and
  -- rendered; if an allocation failed, it may have been before that, or while writing.
  abbrev pub Leaves : Result (Unit {0}) Failure → Type 0
  Leaves (Ok done) = IsWritten Appends
  Leaves (Err ReadFailed) = new ≡ old
  Leaves (Err NotText) = (new ≡ old) × IfSome unread (λ bytes. IsUtf8 bytes → ⊥)
  Leaves (Err (Fault Memory)) = (new ≡ old) ⊎ IsWritten AppendsKnownPrefix
  Leaves (Err (Fault Depth)) = (new ≡ old) × too_deep
  Leaves (Err (Fault Blocks)) = ⊥
  Leaves (Err WriteFailed) = IsWritten AppendsKnownPrefix

-- the same where the output is the HTML of the text, by the port's profile
abbrev pub LeavesHtml : {W : Type 0} → (W → Option (List ℕ)) → Options → (unread left : Option (List ℕ)) → (old new : W)
    → Result (Unit {0}) Failure → Type 0
LeavesHtml contents options unread left old new =
    Leaves contents (λ bytes. html_of_text (source_as (profile_syntax options) bytes))
    (IfSome unread (λ bytes. IsUtf8 bytes × IsTextTooDeep (source_as (profile_syntax options) bytes)))
    unread left old new
