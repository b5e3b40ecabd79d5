pub mod FileNameLemmas
mod TextLemmas
