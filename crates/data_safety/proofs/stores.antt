pub mod EntriesShrink
pub mod Raise
pub mod Store
pub mod StoreApplied
