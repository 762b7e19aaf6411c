pub mod WordLaws
pub mod ValueLaws
pub mod RoomLaws
pub mod Examples
