pub mod Digits
pub mod ParserSteps
pub mod InvocationLemmas
pub mod LawLemmas
pub mod KindLemmas
