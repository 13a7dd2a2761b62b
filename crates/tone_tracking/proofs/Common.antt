-- The names that most proofs of this crate cite, passed on from one place.
pub use Rattle.offset_slicers.proofs.DecisionLemmas.{unsigned_abs-product}
unfoldable pub use Rattle.offset_slicers.specs.Decision.{sum_below}
pub use Rattle.offset_slicers.specs.Decision.{product_of}
pub use Rattle.std.proofs.Common.{FitsSigned, List, [], ap, arith, get_or, get_or-set_other, get_or-set_same, inl, inr}
pub use Rattle.std.proofs.Common.{length, map, neg_ℤ, negsuc, of_z, pos, refl, replicate, rules, set, subst, suc, sym}
pub use Rattle.std.proofs.Common.{to_z, unsigned_abs, w32, w64, zero, ℕ, ℤ, ◌%◌, ◌*ℤ◌, ◌*◌, ◌+ℤ◌, ◌+◌, ◌-ℤ◌, ◌-◌, ◌/◌}
pub use Rattle.std.proofs.Common.{◌<◌, ◌∙◌, ◌∷◌, ◌≡◌, ◌≢◌, ◌≤ℤ◌, ◌≤◌}
pub use Rattle.std.proofs.lemmas.Bool.{cases_eq, cases_lt}
pub use Rattle.std.proofs.lemmas.Int.{ints, to_z-of_z}
pub use Rattle.std.proofs.lemmas.List.{get_or-replicate, length-set}
pub use Rattle.std.specs.Int.{int_max}
pub use Rattle.std.specs.List.{All}
pub use Rattle.std.specs.Prelude.{if◌then◌else◌, int_le}
pub use Rattle.tone_table.specs.declared.tone.Tone.{Tone}
pub use Rattle.tone_table.specs.declared.tone.Tone.TheVariants.{Mark, Space}
unfoldable pub use Rattle.tone_tracking.specs.Clock.{clock_after}
pub use Rattle.tone_tracking.specs.Clock.{Clock, next_clock}
unfoldable pub use Rattle.tone_tracking.specs.Correlation.{correlation, weight}
pub use Rattle.tone_tracking.specs.Correlation.{correlations}
unfoldable pub use Rattle.tone_tracking.specs.Heard.{decided, past_at, tone_at}
pub use Rattle.tone_tracking.specs.Heard.{ahead, largest, open_of, passed, places_in}
pub use Rattle.tone_tracking.specs.HeldLists.{HasSamples, HasTaken, HeldLists}
pub use Rattle.tone_tracking.specs.HeldTracker.{HeldTracker, StandsFor, tone_before}
pub use Rattle.tone_tracking.specs.Phasors.{IsWithin, none, plus, size, turn, turn_back}
pub use Rattle.tone_tracking.specs.declared.bit_clock.Pull.{Pull}
pub use Rattle.tone_tracking.specs.declared.correlation.Correlations.{Correlations}
pub use Rattle.tone_tracking.specs.declared.phasor.Phasor.{Phasor}
pub use mir.Syntax.{w16}
