pub mod ElementChecks
pub mod Trees
pub mod Checks
pub mod StaticEntrySets
pub mod CommandViews
pub mod Topologies
pub mod Soundness
