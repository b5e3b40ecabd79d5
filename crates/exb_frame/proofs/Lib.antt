mod EgressLemmas
pub mod TagLemmas
