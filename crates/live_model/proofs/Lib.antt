pub mod DriveAlone
pub mod GreatClock
pub mod KilledNode
pub mod LostPacket
pub mod Opened
pub mod SameClock
pub mod Whole
pub mod WriteHereReadThere
