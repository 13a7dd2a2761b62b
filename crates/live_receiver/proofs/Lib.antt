pub mod Common
pub mod AddedLemmas
pub mod HeardLemmas
pub mod MergeLemmas
pub mod PutLemmas
pub mod ReceiverLemmas
pub mod LiveLemmas
pub mod OneStretch
