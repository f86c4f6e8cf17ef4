-- The names of the ASCII bytes that markup is made of, re-exported so that a caller names this crate alone.
pub use Rattle.markdown_base.specs.Bytes.{tab, line_feed, line_tabulation, form_feed, carriage_return, space}
pub use Rattle.markdown_base.specs.Bytes.{exclamation_mark, double_quote, number_sign, dollar_sign, ampersand}
pub use Rattle.markdown_base.specs.Bytes.{apostrophe, open_parenthesis, close_parenthesis, asterisk, plus_sign}
pub use Rattle.markdown_base.specs.Bytes.{hyphen, full_stop, slash, digit_zero, colon, semicolon, less_than}
pub use Rattle.markdown_base.specs.Bytes.{equals_sign, greater_than, question_mark, open_bracket, backslash}
pub use Rattle.markdown_base.specs.Bytes.{close_bracket, caret, underscore, backtick, pipe, tilde}
