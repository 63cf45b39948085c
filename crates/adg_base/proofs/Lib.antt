pub mod ValueOrder
