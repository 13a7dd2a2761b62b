pub mod PuttingLemmas
pub mod PartLemmas
pub mod AddingLemmas
pub mod MarkLemmas
pub mod MergedLemmas
pub mod ReceiverLemmas
