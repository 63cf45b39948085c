pub mod FollowLaws
pub mod UnsoundLaws
pub mod PieceLaws
pub mod NothingLaws
pub mod IntakeLaws
pub mod RoomLaws
