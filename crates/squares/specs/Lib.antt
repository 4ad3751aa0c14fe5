pub mod Cells
pub mod RoomSquares
pub mod Squares
pub mod Cards
pub mod OneProof
