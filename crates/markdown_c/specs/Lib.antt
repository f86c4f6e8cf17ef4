-- What a call from C returns, and what it leaves in the buffer.
pub mod CallsFromC
pub mod RecordCalls
-- the terms of private clauses
pub mod SafeChoice
