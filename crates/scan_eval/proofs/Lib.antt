pub mod Writes
pub mod Best
pub mod GroupLaws
pub mod GroupOrder
pub mod Places
pub mod NearPlaces
pub mod TallyLaws
pub mod TextKeys
