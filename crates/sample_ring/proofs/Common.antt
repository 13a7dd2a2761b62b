-- The names that most proofs of this crate cite, passed on from one place.
pub use Rattle.atomic_table.proofs.Lists.{at_set}
pub use Rattle.atomic_table.specs.Seated.{TableId}
pub use Rattle.atomic_table.specs.Table.{opening}
pub use Rattle.sample_ring.specs.Cells.{TellsCell, TellsEnd, lap_of, sample_of}
pub use Rattle.sample_ring.specs.Ends.{listed, reader_ring, ring_id, ring_len, writer_ring}
pub use Rattle.sample_ring.specs.Record.{Stands, StandsAs, StandsIn, answer, with_read}
pub use Rattle.sample_ring.specs.Rule.{Holds, IsSo}
pub use Rattle.sample_ring.specs.Views.{entry_of, first_view, keeping, looked_last_view, looked_view, note_of, noted}
pub use Rattle.sample_ring.specs.Views.{spent_view}
pub use Rattle.sample_ring.specs.declared.got.Got.{Got}
pub use Rattle.sample_ring.specs.declared.got.Got.TheVariants.{Empty, End, Gap, Item}
pub use Rattle.sample_ring.specs.declared.reader.Reader.{Reader}
pub use Rattle.sample_ring.specs.declared.view.Entry.{Entry}
pub use Rattle.sample_ring.specs.declared.view.View.{View}
pub use Rattle.std.proofs.Common.{Bool, List, Some, [], ap, arith, false, if◌then◌else◌, inl, inr, length, lt_of_not-le}
pub use Rattle.std.proofs.Common.{refl, replicate, set, subst, suc, sym, true, true≢false, zero, zero-le, ℕ, ⊎_elim}
pub use Rattle.std.proofs.Common.{◌%◌, ◌++◌, ◌+◌, ◌-◌, ◌<◌, ◌^◌, ◌∙◌, ◌∷◌, ◌≡◌, ◌≢◌, ◌≤◌}
pub use Rattle.std.proofs.Math.Nat.{add-mod_right, mod-lt}
pub use Rattle.std.proofs.lemmas.Bool.{le-leb}
pub use Rattle.std.proofs.lemmas.List.Elements.{All-nil, All-push}
pub use Rattle.std.specs.List.{All}
pub use Rattle.std.specs.Prelude.{slice_get, ℤ}
pub use lib.ListN.{get_elem?}
pub use mathlib.Core.Logic.{dite}
pub use mathlib.Core.Option.{some}
pub use native.Mathlib.Decide.{dec_le, ℕ_discrete}
