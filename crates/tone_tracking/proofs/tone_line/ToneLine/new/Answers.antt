use Rattle.tone_tracking.proofs.Common.{◌≡◌, ◌+◌, ◌-◌, List, [], length, refl, ap, sym, ◌∙◌, arith, correlations}
use Rattle.std.proofs.Common.{drop}
use Rattle.tone_tracking.specs.declared.place_tones.PlaceTones.{PlaceTones}
use Rattle.tone_tracking.specs.Slots.{ahead_of}
use Rattle.tone_tracking.specs.WithoutMean.{without_mean}
use Rattle.tone_tracking.proofs.tone_line.ToneLine.new.Goals as goal

pub returns-clause-has_taken : goal.returns-clause-has_taken
returns-clause-has_taken c =
    let made = c.in_ok-new_slots.ensures in
    let eight = made.count in
    let line : List PlaceTones = c.new-3.result.items in
    let empty : line ≡ [] = c.new-3.ensures.items in
    let none : length line ≡ 0 = ap length empty in
    record {
      count = refl;
      remover = c.new.ensures;
      levels = c.new-2.ensures.items ∙ ap (λ (l : List PlaceTones). drop (0 - length l) (without_mean [])) (sym empty);
      slots = λ k d below. made.pasts k d (omega arith) (correlations (without_mean [])) (0 + ahead_of 0 k) (omega arith);
      line = λ i d inside. absurd (omega arith);
    }
