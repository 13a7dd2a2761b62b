-- The names that most proofs of this crate cite, passed on from one place.
unfoldable pub use Rattle.offset_slicers.specs.Decision.{sum_below}
pub use Rattle.offset_slicers.specs.Decision.{product_of}
pub use Rattle.offset_slicers.proofs.DecisionLemmas.{sum_below-agree}
unfoldable pub use Rattle.resampler.specs.Taps.{weighted_sum}
pub use Rattle.resampler.specs.Taps.{taps, sample_of_sum, nearest_sample}
pub use Rattle.resampler.specs.Filtered.{zeros, filtered_at, filtered_first, filtered, settled, stuffed, interpolated_at}
pub use Rattle.resampler.specs.Filtered.{decimated, decimated_first, decimated_settled, interpolated}
pub use Rattle.resampler.specs.Held.{last_window, HasDecimated, HasStuffed, HeldFilter, StandsFor}
pub use Rattle.std.proofs.Common.{FitsSigned, List, [], ap, append_assoc, arith, drop, get_or, inl, inr, length}
pub use Rattle.std.proofs.Common.{length-append, length-drop, map, of_z, pos, refl, replicate, rules, set, subst, suc}
pub use Rattle.std.proofs.Common.{sym, take, to_z, unsigned_abs, zero, ℕ, ℤ, ◌*ℤ◌, ◌*◌, ◌++◌, ◌+ℤ◌, ◌+◌, ◌-◌, ◌/◌, ◌<◌}
pub use Rattle.std.proofs.Common.{◌∙◌, ◌∷◌, ◌≡◌, ◌≤◌}
pub use Rattle.std.proofs.lemmas.Int.{ints, to_z-of_z}
pub use Rattle.std.proofs.lemmas.List.{append-nil, length-replicate, length_push, take_all}
pub use Rattle.std.proofs.lemmas.List.FromFn.{map-range_with_len_more, take-map-range_with_len}
pub use Rattle.std.specs.List.{range_with_len}
pub use mir.Syntax.{w16}
