-- Which delimiter runs may pair (CommonMark 6.2, rules 9 and 10).
use Rattle.std.specs.Prelude.{ℕ, ◌+◌, ◌%◌, Bool, true, false, not, ◌&&◌, ◌||◌, ◌==◌, if◌then◌else◌, Option, Some, None}
use Rattle.markdown_base.specs.Bytes.{asterisk, caret, tilde, underscore}
use Rattle.markdown_delims.specs.declared.run.Delimiter.{Delimiter}
use Rattle.markdown_delims.specs.declared.run.Delimiter.TheVariants.{Star, Underscore, Tilde, Caret}
use Rattle.markdown_delims.specs.declared.run.Run.{Run}

-- the delimiter of a byte, if it is one: each byte of `is_delimiter` has one, as the pairing lemmas prove
abbrev pub delimiter_of : ℕ → Option Delimiter
delimiter_of byte =
    if byte == asterisk then Some Star
    else if byte == underscore then Some Underscore
    else if byte == tilde then Some Tilde
    else if byte == caret then Some Caret else None

-- two delimiters are equal
abbrev pub same_delimiter : Delimiter → Delimiter → Bool
same_delimiter Star Star = true
same_delimiter Underscore Underscore = true
same_delimiter Tilde Tilde = true
same_delimiter Caret Caret = true
same_delimiter _ _ = false

-- a failed search by a closer of the first delimiter drops each open run of the second
abbrev pub drops : Delimiter → Delimiter → Bool
drops Tilde Tilde = true
drops Caret Caret = true
drops _ _ = false

-- the delimiter whose runs pair only with runs of equal length
abbrev pub needs_equal_length : Delimiter → Bool
needs_equal_length Tilde = true
needs_equal_length _ = false

-- a run can both open and close
abbrev pub can_do_both : Run → Bool
can_do_both run = run.can_open && run.can_close

-- the rule of three, for the lengths of an opener and a closer
abbrev pub lengths_agree : ℕ → ℕ → Bool
lengths_agree opener closer = not ((opener + closer) % 3 == 0) || (closer % 3 == 0)

-- an opener and a closer may pair
abbrev pub may_pair : Run → Run → Bool
may_pair opener closer =
    same_delimiter opener.delimiter closer.delimiter
    && ((not (can_do_both opener) && not (can_do_both closer)) || lengths_agree opener.length closer.length)
    && (not (needs_equal_length closer.delimiter) || (opener.length == closer.length))
