pub mod CommitStart
