-- What one turn of reads makes of a receiver of short wave, and what is put into the merger meanwhile.
use Rattle.std.specs.Prelude.{◌≡◌, ◌≤◌, ℕ, false, List, [], ◌∷◌, ◌++◌}
use Rattle.std.specs.List.{All}
use Rattle.hdlc_framer.specs.FrameLength.{HasFrameLength}
use Rattle.frame_merge.specs.declared.candidate.Candidate.{Candidate}
use Rattle.frame_merge.specs.Held.{Held as HeldMerger, StandsFor as MergerStandsFor}
use Rattle.slicer_bank.specs.HeardOnRing.{least_position}
use Rattle.ring_receiver.specs.declared.heard.Heard.{Heard}
use Rattle.ring_receiver.specs.Turns.{IsTurnOf}
use Rattle.live_receiver.specs.HeardOnShortWave.{AreDue}
use Rattle.live_receiver.specs.HeldHf.{HeldHf, hf_answers, sensitive_of_hf, AreInStep, HfHears, HfLanesListen}

-- these were put into the merger, after all that it had taken before
abbrev pub PutsMore : HeldMerger → HeldMerger → List Candidate → Type 0
PutsMore was now items = (puts given : List Candidate) → MergerStandsFor was puts given
    → MergerStandsFor now (puts ++ items) given

-- a receiver has made a turn, which brought this
pub record MakesHfTurn (len : ℕ) (before after : HeldHf) (heard : Heard) : Type 0 where
  pub turn : IsTurnOf 1 (hf_answers len before ∷ []) (hf_answers len after ∷ []) heard.gaps.items heard.ended
  pub listens : HfLanesListen len before → HfLanesListen len after
  pub due : HfHears len before → AreDue (sensitive_of_hf before) heard.ended (hf_answers len before)
      (hf_answers len after) heard.items.items
  pub lengths : HfHears len before → All (λ item. HasFrameLength item.octets) heard.items.items
  pub hears : heard.ended ≡ false → HfHears len before → HfHears len after
  pub least : HfHears len before → heard.least ≡ least_position (hf_answers len after ∷ [])
  pub forward : HfHears len before → least_position (hf_answers len before ∷ []) ≤ heard.least
  pub step : heard.ended ≡ false → AreInStep after.reader after.lanes after.merger
