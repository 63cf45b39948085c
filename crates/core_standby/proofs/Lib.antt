pub mod OneDelivery
pub mod RanLaws
