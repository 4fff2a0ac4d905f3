pub mod StoreState
pub mod Replaying
pub mod RoomForTurns
pub mod Turning
