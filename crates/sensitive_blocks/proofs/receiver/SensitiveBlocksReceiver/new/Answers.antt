use Rattle.sensitive_blocks.proofs.Common.{[], ◌∷◌, refl, ◌≡◌, ◌<◌, ℕ, zero, suc, arith, get_or}
use Rattle.sensitive_blocks.specs.declared.readings.Readings.{Readings}
use Rattle.sensitive_blocks.specs.Held.{none_known}
use Rattle.sensitive_blocks.proofs.LaneLemmas.{fresh_read}
use Rattle.sensitive_blocks.proofs.ReceiverLemmas.{last_forty-none, nothing_known}
use Rattle.sensitive_blocks.proofs.TakenLemmas.{taken_start}
use Rattle.sensitive_blocks.proofs.receiver.SensitiveBlocksReceiver.new.Goals as goal

none_kept : (delay : ℕ) (d : Readings) → delay < 3
    → get_or (none_known ∷ none_known ∷ none_known ∷ []) delay d ≡ none_known
none_kept zero d small = refl
none_kept (suc zero) d small = refl
none_kept (suc (suc zero)) d small = refl
none_kept (suc (suc (suc n))) d small = absurd (omega arith)

pub returns-clause-stands_for : goal.returns-clause-stands_for
returns-clause-stands_for c = record {
  spent = refl;
  position = c.new.ensures.position;
  next = refl;
  recent = last_forty-none;
  taken = record {
    follower = c.new.ensures.has_taken [];
    readings = nothing_known [] (none_known ∷ none_known ∷ none_known ∷ []) none_kept;
    lanes = (let made = c.in_ok-new_lanes.ensures in fresh_read _ [] made.count made.fresh);
    has_heard = taken_start [] _ c.new-2.ensures.items;
  };
}
