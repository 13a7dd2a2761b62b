pub mod ChunkLemmas
pub mod StepLemmas
pub mod RestLemmas
pub mod PairLemmas
pub mod HeadLemmas
