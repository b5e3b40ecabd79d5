pub mod RoundTrip
pub mod Sequences
pub mod Soundness
pub mod LineLaws
pub mod CallLaws
pub mod EndLemmas
