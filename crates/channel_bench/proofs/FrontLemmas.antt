-- In a run whose frames are matched, only what links have queued is in flight no longer.
use Rattle.channel_bench.proofs.Common.{ℕ, ◌≤◌, Bool, List, [], ◌∷◌, length, Option, Some, None, sym}
use Rattle.channel_bench.proofs.Common.{subst, arith, length-append, End, A, B, other, Moment, Steps, Passes, AreMatched}
use Rattle.channel_bench.proofs.Common.{BothWays, IsMatched, IsMatchedIn, LinkFrame, OneWay, after_moment, after_moments}
use Rattle.channel_bench.proofs.Common.{hears_ask, hearing_at, nothing_sent, queueing_all, queueing_at, sent_by, Input}
use Rattle.channel_bench.proofs.Common.{FromHost, OfClock, OffAir}
use Rattle.std.proofs.Math.Nat.{max-le}
use Rattle.std.proofs.lemmas.Option.{slice_get_within}
use Rattle.station_laws.specs.InFlight.{past_heard, with_queued}

-- so it is in one direction
abbrev IsWithin : OneWay → Type 0
IsWithin way = way.front ≤ length way.queued

-- and in both
pub record AreWithin (ways : BothWays) : Type 0 where
  pub a : IsWithin ways.from_a
  pub b : IsWithin ways.from_b

-- ---- what a moment leaves

heard_within : (input : Input) (matched : Option ℕ) (way : OneWay) → IsMatched input matched way → IsWithin way
    → IsWithin (past_heard matched way)
heard_within (FromHost event) matched way is h = subst (λ m. IsWithin (past_heard m way)) (sym is) h
heard_within (OfClock busy) matched way is h = subst (λ m. IsWithin (past_heard m way)) (sym is) h
heard_within (OffAir octets) None way is h = absurd is
heard_within (OffAir octets) (Some number) way is h =
    let there = slice_get_within way.queued number is.frame is.is_there in max-le h (omega (arith, there))

hearing_within : (hearer : End) (input : Input) (matched : Option ℕ) (ways : BothWays)
    → IsMatched input matched (sent_by (other hearer) ways) → AreWithin ways
    → AreWithin (hearing_at hearer matched ways)
hearing_within A input matched ways is h = record { a = h.a; b = heard_within input matched ways.from_b is h.b }
hearing_within B input matched ways is h = record { a = heard_within input matched ways.from_a is h.a; b = h.b }

one_more : (frame : LinkFrame) (way : OneWay) → IsWithin way → IsWithin (with_queued frame way)
one_more frame way h = let size = length-append way.queued (frame ∷ []) in omega (arith, size, h)

queueing_within : (sender : End) (on_ask : Bool) (octets : List ℕ) (ways : BothWays) → AreWithin ways
    → AreWithin (queueing_at sender on_ask octets ways)
queueing_within A on_ask octets ways h = record { a = one_more _ ways.from_a h.a; b = h.b }
queueing_within B on_ask octets ways h = record { a = h.a; b = one_more _ ways.from_b h.b }

all_within : (sender : End) (on_ask : Bool) (frames : List (List ℕ)) (ways : BothWays) → AreWithin ways
    → AreWithin (queueing_all sender on_ask frames ways)
all_within sender on_ask [] ways h = h
all_within sender on_ask (octets ∷ rest) ways h =
    all_within sender on_ask rest (queueing_at sender on_ask octets ways)
    (queueing_within sender on_ask octets ways h)

moment_within : (moment : Moment) (ways : BothWays) → IsMatchedIn moment ways → AreWithin ways
    → AreWithin (after_moment moment ways)
moment_within (Steps step matched) ways is h =
    all_within step.station (hears_ask step.input) step.after.out.queued (hearing_at step.station matched ways)
    (hearing_within step.station step.input matched ways is h)
moment_within (Passes A below) ways is h = record { a = max-le h.a is; b = h.b }
moment_within (Passes B below) ways is h = record { a = h.a; b = max-le h.b is }

moments_within : (moments : List Moment) (ways : BothWays) → AreMatched moments ways → AreWithin ways
    → AreWithin (after_moments moments ways)
moments_within [] ways is h = h
moments_within (moment ∷ moments) ways is h =
    moments_within moments (after_moment moment ways) is.1 (moment_within moment ways is.0 h)

-- ---- a run

none_within : AreWithin nothing_sent
none_within = record { a = omega arith; b = omega arith }

pub fronts_within : (moments : List Moment) → AreMatched moments nothing_sent
    → AreWithin (after_moments moments nothing_sent)
fronts_within moments is = moments_within moments nothing_sent is none_within

pub front_of : (e : End) (ways : BothWays) → AreWithin ways
    → (sent_by e ways).front ≤ length (sent_by e ways).queued
front_of A ways h = h.a
front_of B ways h = h.b
