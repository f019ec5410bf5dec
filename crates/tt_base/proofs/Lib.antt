mod PathRows
pub mod IdOrders
pub mod TextLemmas
pub mod ElementLemmas
