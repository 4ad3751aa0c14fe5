pub mod Teams
pub mod Rounds
pub mod Lines
pub mod Meetings
pub mod Venues
pub mod Encounters
pub mod RoomSquares
pub mod Counting
