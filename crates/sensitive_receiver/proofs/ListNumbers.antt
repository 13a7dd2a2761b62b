-- The numbers of the lanes on the slow clock of a list, and when they read.
use Rattle.sensitive_receiver.proofs.Common.{◌≡◌, ℕ, ℤ, List, ◌-◌, ◌∙◌, arith}
use Rattle.sensitive_receiver.proofs.Common.{Reach, Alone, Near, Far, Slow, DecidedPlace}
use Rattle.sensitive_receiver.proofs.Common.{IsSlowOn, delay_of, first_slow, is_read_at, list_of, tones}
unfoldable use Rattle.sensitive_receiver.specs.Lanes.{readings_at}
use Rattle.tone_tracking.specs.Clock.{is_reading}

-- each reads the list, and a place before the one before it
pub slow_list : (reach : Reach) (lane : ℕ) → IsSlowOn reach lane → list_of lane ≡ reach
slow_list Alone lane (least, most) = grind arith
slow_list Near lane (least, most) = grind arith
slow_list Far lane (least, most) = grind arith

pub slow_delay : (reach : Reach) (lane : ℕ) → IsSlowOn reach lane → delay_of lane ≡ lane - first_slow reach
slow_delay Alone lane (least, most) = grind arith
slow_delay Near lane (least, most) = grind arith
slow_delay Far lane (least, most) = grind arith

-- and reads a bit when the slow clock says so
pub slow_reads : (x : List ℤ) (reach : Reach) (lane place : ℕ) → IsSlowOn reach lane
    → is_reading Slow (tones reach x) place ≡ is_read_at x lane place
unfolding readings_at
slow_reads x Alone lane place (least, most) = grind arith
slow_reads x Near lane place (least, most) = grind arith
slow_reads x Far lane place (least, most) = grind arith

pub told_is_read : (x : List ℤ) (reach : Reach) (at : DecidedPlace) → at.reads ≡ is_reading Slow (tones reach x) at.place
    → (lane : ℕ) → IsSlowOn reach lane → at.reads ≡ is_read_at x lane at.place
told_is_read x reach at told lane slow = told ∙ slow_reads x reach lane at.place slow
