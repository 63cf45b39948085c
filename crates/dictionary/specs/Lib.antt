pub mod Pending
pub mod Transactions
pub mod History
pub mod Objects
pub mod Standing
pub mod Checks
