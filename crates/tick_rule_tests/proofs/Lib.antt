pub mod TickStart
