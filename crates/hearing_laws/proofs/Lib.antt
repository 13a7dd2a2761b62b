mod NoGap
mod LaneLemmas
mod Settling
mod MergedParts
mod ReadersRead
mod TurnLemmas
mod RunLemmas
mod TheLaw
