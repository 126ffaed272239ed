pub mod Items
pub mod Cell
pub mod Ends
pub mod Service
pub mod Client
pub mod Cluster
pub mod Merge
pub mod Drive
