-- How far a decoder of a stream has come, as all receivers have it.
pub use Rattle.block_receiver.specs.Progress.{TakesBlock, Finishes}
