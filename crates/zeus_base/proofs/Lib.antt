pub mod NodeBits
