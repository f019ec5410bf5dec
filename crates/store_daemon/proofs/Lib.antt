mod ConnectedLemmas
mod FetchLemmas
mod CarryLemmas
mod ServeLemmas
mod DiskLemmas
mod RunningLemmas
