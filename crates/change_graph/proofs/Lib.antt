mod NodeLemmas
pub mod OrderLemmas
pub mod ReachedLemmas
mod PlaceLemmas
mod WalkLemmas
mod WorkLemmas
mod RunLemmas
mod StartLemmas
mod SurveyLemmas
pub mod InsertLemmas
pub mod GrowthLemmas
pub mod HeadLemmas
pub mod GraphLemmas
mod AnswerLemmas
