pub mod LocalStart
pub mod StartSizes
