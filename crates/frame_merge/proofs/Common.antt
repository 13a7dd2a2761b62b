-- The names that most proofs of this crate cite, passed on from one place.
pub use Rattle.frame_merge.specs.Held.{Held, StandsFor, least}
pub use Rattle.frame_merge.specs.Merged.{below, between, merged, merged_after, not_below, repeats}
pub use Rattle.frame_merge.specs.Order.{IsInOrder, in_order, place, standing}
pub use Rattle.frame_merge.specs.declared.candidate.Candidate.{Candidate}
pub use Rattle.std.proofs.Common.{List, [], ap, arith, cond, false, get_or, inl, inr, leb, length, not, refl, rules}
pub use Rattle.std.proofs.Common.{subst, suc, sym, take, true, zero, ℕ, ◌&&◌, ◌++◌, ◌+◌, ◌-◌, ◌<◌, ◌^◌, ◌||◌, ◌∙◌, ◌∷◌}
pub use Rattle.std.proofs.Common.{◌≡◌, ◌≤◌}
pub use Rattle.std.proofs.Math.Bool.{and-false}
pub use Rattle.std.proofs.Math.Seq.{append_snoc}
pub use Rattle.std.proofs.lemmas.Bool.{cases_lt, le-leb, le-ltb, lt-leb, lt-ltb}
pub use Rattle.std.proofs.lemmas.List.{append-nil, get_or_append_left}
pub use Rattle.std.proofs.lemmas.List.Elements.{All-cons, All-head, All-nil, All-tail, All-weaker, filter-append}
pub use Rattle.std.proofs.lemmas.List.Elements.{filter_passes}
pub use Rattle.std.proofs.lemmas.List.Folds.{list_any-append, list_any_none}
pub use Rattle.std.specs.List.{All, insert, list_any}
pub use Rattle.std.specs.List.Sorted.{IsNonDecreasingBy}
pub use Rattle.std.specs.Prelude.{fold, if◌then◌else◌, nat_le, nat_lt}
pub use Rattle.std.specs.Str.{bytes_eq}
