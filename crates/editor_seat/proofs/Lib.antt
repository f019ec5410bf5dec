pub mod SeatLemmas
pub mod DeliveryLemmas
