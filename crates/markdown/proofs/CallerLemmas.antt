-- The items of a parser from a call of `next` up to its None: re-exported so that a proof names this crate alone.
pub use Rattle.markdown_inline.proofs.RunLemmas.{drained, drained_unasked, events_of-questions, is_run, collected}
pub use Rattle.markdown_document.proofs.CallbackLemmas.{Asks-append, Asks-some}
