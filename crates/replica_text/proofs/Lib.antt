pub mod OrderLemmas
pub mod MemberLemmas
pub mod SkipLemmas
pub mod GrowsLemmas
pub mod EffectLemmas
pub mod RunLemmas
pub mod JoinLemmas
pub mod PlaceLemmas
pub mod OpsLemmas
mod GapLemmas
pub mod TextLemmas
mod CutLemmas
pub mod LeadLemmas
mod OrderOfArrival
mod MadeLemmas
pub mod MadeWalks
pub mod MadeEffects
pub mod MadeMay
pub mod AnyOrder
mod EdgeLemmas
mod FixedLemmas
mod TestLemmas
