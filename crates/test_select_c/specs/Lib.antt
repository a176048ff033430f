pub mod Pieces
pub mod PieceViews
pub mod Rooms
pub mod Calls
pub mod CallParts
