pub mod Commands
pub mod Sheets
pub mod Meetings
pub mod Stages
pub mod Faults
pub mod Judgements
pub mod Tables
pub mod Readings
