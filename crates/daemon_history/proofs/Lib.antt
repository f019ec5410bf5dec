pub mod HoldingLemmas
mod StoreLemmas
mod IdLemmas
mod OperationLemmas
pub mod OwnLemmas
