pub mod NodeStart
