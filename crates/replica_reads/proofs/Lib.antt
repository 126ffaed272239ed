pub mod Hindering
pub mod Mapped
