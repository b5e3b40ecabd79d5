pub mod OpenFileLemmas
pub mod FileLemmas
pub mod PieceLemmas
pub mod ScratchLemmas
pub mod IdLemmas
pub mod FaultCountLemmas
pub mod ReadFaultLemmas
