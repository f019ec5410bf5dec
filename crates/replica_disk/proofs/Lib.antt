mod Learns
mod Loads
mod Openings
mod StoreLemmas
mod Makes
