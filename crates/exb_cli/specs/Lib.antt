pub mod CommandLines
pub mod ParserSteps
pub mod Laws
pub mod Kinds
