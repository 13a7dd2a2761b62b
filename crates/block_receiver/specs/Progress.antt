-- How far a decoder of a stream has come, and what its calls change of that.
use Rattle.std.specs.Prelude.{◌≡◌, ℕ, ◌+◌, true, false, [], Result, IfOk, OnOk, OnErr, IsErr}
use Rattle.std.specs.Global.{Vec}
use Rattle.block_receiver.specs.declared.progress.Progress.{Progress}

-- What a block of so many samples changes: if it is taken, they are counted. If not, the decoder is spent, and one that
-- was spent takes no block.
pub record TakesBlock {A E : Type 0} (old new : Progress) (count : ℕ) (result : Result A E) : Type 0 where
  pub position : OnOk result (new.position ≡ old.position + count)
  pub stays : OnErr result (new.position ≡ old.position)
  pub unfinished : new.finished ≡ false
  pub fails : old.spent ≡ true → IsErr result
  pub spent : OnErr result (new.spent ≡ true)

-- What the end of the samples changes: the decoder is finished, and gives no items a second time. If not, it is spent,
-- and one that was spent is not finished.
pub record Finishes {A E : Type 0} (old new : Progress) (result : Result (Vec A) E) : Type 0 where
  pub again : IfOk result (λ items. old.finished ≡ true → items.items ≡ [])
  pub finished : OnOk result (new.finished ≡ true)
  pub fails : old.spent ≡ true → IsErr result
  pub spent : OnErr result (new.spent ≡ true)
