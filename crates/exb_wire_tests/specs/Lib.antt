pub mod PlainStates
