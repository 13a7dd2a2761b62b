-- What a bank expects of both tones at a window: each as it was heard last, its strength and its phase, turned on by a
-- frequency that is followed.
use Rattle.std.specs.Prelude.{ℕ, zero, suc, ◌≤◌, ℤ, pos, negsuc, ◌+ℤ◌, ◌-ℤ◌, ◌*ℤ◌, neg_ℤ, int_le, if◌then◌else◌, unsigned_abs}
use Rattle.std.specs.Int.{int_div_euclid, int_max, int_min}
use Rattle.tone_table.specs.declared.tone.Tone.{Tone}
use Rattle.tone_table.specs.declared.tone.Tone.TheVariants.{Mark, Space}
use Rattle.tone_tracking.specs.declared.phasor.Phasor.{Phasor}
use Rattle.tone_tracking.specs.declared.correlation.Correlations.{Correlations}
use Rattle.tone_tracking.specs.Correlation.{of_tone}
use Rattle.tone_tracking.specs.Phasors.{none, plus, IsWithin}
use Rattle.hf_tracking.specs.declared.track.Track.{Track}

-- ---- phasors

-- a third of a turn: a bit of mark takes a phase back by it, and a bit of space on
abbrev pub turned : Tone → Phasor → Phasor
turned Mark p = record { a = p.b; b = neg_ℤ (p.a +ℤ p.b) }
turned Space p = record { a = neg_ℤ (p.a +ℤ p.b); b = p.a }

-- five eighths of a number, rounded down
abbrev pub five_eighths_of : ℤ → ℤ
five_eighths_of z = int_div_euclid (pos 5 *ℤ z) (pos 8)

abbrev pub five_eighths : Phasor → Phasor
five_eighths p = record { a = five_eighths_of p.a; b = five_eighths_of p.b }

-- how far one phasor is turned on from another: above 0 if it is ahead
abbrev pub cross : Phasor → Phasor → ℤ
cross p q = p.a *ℤ q.b -ℤ p.b *ℤ q.a

-- so many 48ths of a turn, in 1024ths
abbrev pub ahead_by : ℕ → Phasor
ahead_by zero = record { a = pos 1024; b = pos 0 }
ahead_by (suc zero) = record { a = pos 938; b = pos 154 }
ahead_by (suc (suc zero)) = record { a = pos 836; b = pos 306 }
ahead_by (suc (suc (suc zero))) = record { a = pos 720; b = pos 452 }
ahead_by (suc (suc (suc (suc n)))) = record { a = pos 591; b = pos 591 }

abbrev pub mirrored : Phasor → Phasor
mirrored p = record { a = p.a +ℤ p.b; b = neg_ℤ p.b }

-- on or back
abbrev pub turn_by : ℤ → Phasor
turn_by (pos n) = ahead_by n
turn_by (negsuc n) = mirrored (ahead_by (suc n))

-- a part of a product in 1024ths, rounded down; the cut never takes effect
abbrev pub scaled : ℤ → ℤ
scaled z = int_max (negsuc 399999999) (int_min (int_div_euclid z (pos 1024)) (pos 400000000))

-- the product of a phasor and a turn
abbrev pub times : Phasor → Phasor → Phasor
times p turn = record {
  a = scaled (p.a *ℤ turn.a -ℤ p.b *ℤ turn.b);
  b = scaled ((p.a *ℤ turn.b +ℤ p.b *ℤ turn.a) +ℤ p.b *ℤ turn.b);
}

-- ---- tracks

-- nothing is expected
abbrev pub no_track : Track
no_track = record { mark = none; space = none; drift = pos 0 }

abbrev pub expected : Tone → Track → Phasor
expected Mark track = track.mark
expected Space track = track.space

-- how many 48ths of a turn a bit adds at a drift, which counts in 20ths of one
abbrev pub steps_of : ℤ → ℤ
steps_of drift = int_div_euclid (drift +ℤ pos 10) (pos 20)

-- as it is turned in a bit
abbrev pub moved : ℤ → Phasor → Phasor
moved drift p = times p (turn_by (steps_of drift))

-- the track one window on, whatever was heard there
abbrev pub moved_on : Track → Track
moved_on track = record { mark = moved track.drift track.mark; space = moved track.drift track.space; drift = track.drift }

-- The drift goes by one to where a tone was heard, and no further than 80: 25 Hz.
abbrev pub pulled : ℤ → ℤ → ℤ
pulled drift ahead =
    if int_le (pos 1) ahead then drift +ℤ pos 1 else if int_le ahead (negsuc 0) then drift -ℤ pos 1 else drift

abbrev pub drift_after : ℤ → ℤ → ℤ
drift_after drift ahead = int_max (negsuc 79) (int_min (pulled drift ahead) (pos 80))

-- a tone as it was heard, with five eighths of what was expected
abbrev pub renewed : Tone → Correlations → Track → Phasor
renewed tone now track = plus (of_tone tone now) (five_eighths (expected tone track))

-- the drift after a window that was decided as a tone
abbrev pub next_drift : Tone → Correlations → Track → ℤ
next_drift tone now track = drift_after track.drift (cross (expected tone track) (of_tone tone now))

-- the track one window on, by the tone that was decided there: that tone is renewed, the other one stays as it was
abbrev pub next_track : Tone → Correlations → Track → Track
next_track Mark now track = record {
  mark = turned Mark (moved (next_drift Mark now track) (renewed Mark now track));
  space = turned Mark (moved (next_drift Mark now track) track.space);
  drift = next_drift Mark now track;
}
next_track Space now track = record {
  mark = turned Space (moved (next_drift Space now track) track.mark);
  space = turned Space (moved (next_drift Space now track) (renewed Space now track));
  drift = next_drift Space now track;
}

-- no sum of a track's overflows
pub record IsBounded (track : Track) : Type 0 where
  pub mark : IsWithin 800000000 track.mark
  pub space : IsWithin 800000000 track.space
  pub drift : unsigned_abs track.drift ≤ 80
