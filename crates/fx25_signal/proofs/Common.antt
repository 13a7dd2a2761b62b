-- The names that most proofs of this crate cite, passed on from one place.
pub use Rattle.std.proofs.Common.{Bool, List, [], ap, append-nil, append_assoc, arith, drop, false, get_or, inl, inr}
pub use Rattle.std.proofs.Common.{length, length-append, map, refl, subst, suc, sym, take, true, zero, ℕ, ℤ}
pub use Rattle.std.proofs.Common.{◌%◌, ◌*◌, ◌++◌, ◌+◌, ◌-◌, ◌/◌, ◌<◌, ◌∙◌, ◌∷◌, ◌≡◌, ◌≤◌, ◌⊎◌}
pub use Rattle.std.specs.Prelude.{◌&&◌, ◌||◌, nat_le}
pub use Rattle.std.specs.List.{All, AllByRecursion, AllPairs, Contains, list_any}
pub use Rattle.std.specs.Str.{bytes_eq}
pub use Rattle.std.proofs.lemmas.List.Elements.{All-head, All-tail, recursion_from_All}
pub use Rattle.fx25_receiver.specs.declared.heard.Heard.{Heard}
pub use Rattle.fx25_receiver.specs.Heard.{AreHeard, IsHeard, standing}
pub use Rattle.fx25_receiver.specs.Merged.{AreMerged, merged_after, repeats}
pub use Rattle.fx25_signal.specs.Units.{AreApart, Comes, SentUnit, bits_at, bits_in_unit, bits_to_frame, frame_end}
pub use Rattle.fx25_signal.specs.Units.{unit_end}
pub use Rattle.fx25_signal.specs.Merging.{IsOf, IsOfOne, MergesTo, NoneStray}
