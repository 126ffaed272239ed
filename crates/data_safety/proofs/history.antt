pub mod BookOnlyBooked
pub mod BookOnlyMoves
pub mod Booking
pub mod CurrentOnly
pub mod Running
pub mod SerialContents
pub mod SerialRun
pub mod Stutter
