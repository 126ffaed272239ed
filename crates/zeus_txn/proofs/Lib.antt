pub mod ByIndex
pub mod MapRun
pub mod NamedLemmas
pub mod Rests
pub mod RunLemmas
pub mod WriteLemmas
pub mod WrittenLemmas
