-- The end of a tick: what has passed both stations is in flight no longer.
use Rattle.channel_bench.proofs.Common.{◌≡◌, ℕ, ◌+◌, sym, ap, ◌∙◌, subst, End, A, B, Run, BenchWords, BenchState}
use Rattle.channel_bench.proofs.Common.{SideState, ways_of, StandsForSide, StandsForRun, StandsForWays, BothWays}
use Rattle.channel_bench.proofs.Common.{nothing_sent, sent_by, Passes, passed_below, ticked}
use Rattle.channel_bench.specs.declared.flight.Flight.{Flight}
use Rattle.station_laws.specs.InFlight.{with_front, with_sent_by}
use Rattle.channel_bench.proofs.FlightLemmas.{moments_two}

-- all but what is in flight, and the count of ticks, is as it was
pub record IsSameRun (before after : Run) : Type 0 where
  pub words : after.words ≡ before.words
  pub a : after.a ≡ before.a
  pub b : after.b ≡ before.b
  pub draws : after.shared.draws ≡ before.shared.draws
  pub transmissions : after.shared.transmissions ≡ before.shared.transmissions
  pub lost : after.shared.lost ≡ before.shared.lost
  pub trouble : after.shared.trouble ≡ before.shared.trouble
  pub text_of_a : after.text_of_a ≡ before.text_of_a
  pub text_of_b : after.text_of_b ≡ before.text_of_b
  pub closing : after.closing ≡ before.closing

-- some frames of a station have passed the other
abbrev HasPassed : End → Flight → ℕ → Flight → Type 0
HasPassed sender before below after =
    (ways : BothWays) → StandsForWays before ways
    → StandsForWays after (with_sent_by sender (with_front below (sent_by sender ways)) ways)

module _ (before after : Run) (w : BenchWords) (bench : BenchState) (between : Flight) (of_a of_b : ℕ)
    (h : StandsForRun before w bench)
    (same : IsSameRun before after) (ticks : after.ticks ≡ before.ticks + 1)
    (below_a : (end : End) (side : SideState) → StandsForSide end before.b side → of_a ≡ passed_below side)
    (below_b : (end : End) (side : SideState) → StandsForSide end before.a side → of_b ≡ passed_below side)
    (first : HasPassed A before.shared.flight of_a between)
    (second : HasPassed B between of_b after.shared.flight) where
  passing : ℕ → ℕ → BothWays → BothWays
  passing m n ways =
      let one = with_sent_by A (with_front m (sent_by A ways)) ways in
      with_sent_by B (with_front n (sent_by B one)) one

  passed : StandsForWays after.shared.flight (passing of_a of_b (ways_of bench.common))
  unfolding passing
  passed =
      let one = first (ways_of bench.common) h.shared.flight in
      second (with_sent_by A (with_front of_a (sent_by A (ways_of bench.common))) (ways_of bench.common)) one

  ways_ticked : passing of_a of_b (ways_of bench.common) ≡ ways_of (ticked bench).common
  unfolding passing ticked
  ways_ticked =
      ap (λ m. passing m of_b (ways_of bench.common)) (below_a B bench.b h.b)
      ∙ ap (λ n. passing (passed_below bench.b) n (ways_of bench.common)) (below_b A bench.a h.a)
      ∙ sym (moments_two bench.common.moments (Passes A (passed_below bench.b))
      (Passes B (passed_below bench.a)) nothing_sent)

  pub closed : StandsForRun after w (ticked bench)
  unfolding ticked
  closed = record {
    words = same.words ∙ h.words;
    a = subst (λ s. StandsForSide A s bench.a) (sym same.a) h.a;
    b = subst (λ s. StandsForSide B s bench.b) (sym same.b) h.b;
    shared = record {
      flight = subst (StandsForWays after.shared.flight) ways_ticked passed;
      draws = same.draws ∙ h.shared.draws;
      transmissions = same.transmissions ∙ h.shared.transmissions;
      lost = same.lost ∙ h.shared.lost;
      trouble = same.trouble ∙ h.shared.trouble;
    };
    text_of_a = same.text_of_a ∙ h.text_of_a;
    text_of_b = same.text_of_b ∙ h.text_of_b;
    ticks = ticks ∙ ap (λ n. n + 1) h.ticks;
    closing = same.closing ∙ h.closing;
  }
