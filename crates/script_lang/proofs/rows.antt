pub mod BodyRows
pub mod LineRows
pub mod NodeRows
pub mod OpRows
pub mod RowLaws
