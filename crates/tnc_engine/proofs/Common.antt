-- The names that the proofs of this crate cite, passed on from one place.
pub use Rattle.std.proofs.Common.{◌≡◌, ℕ, ◌+◌, ◌-◌, ◌<◌, ◌≤◌, List, [], ◌++◌, length, length-append, take, drop}
pub use Rattle.std.proofs.Common.{append_assoc, Option, Some, None, Result, Ok, Err, inl, inr, refl, sym, subst, ap, ◌∙◌}
pub use Rattle.std.proofs.Common.{arith, lt-ltb, le-ltb}
pub use Rattle.std.proofs.lemmas.Bool.{cases_lt}
pub use Rattle.std.proofs.lemmas.List.{append-nil, nil_from_length, take-append-drop}
pub use Rattle.std.proofs.lemmas.Result.{err_from_is_err_and}
pub use Rattle.std.specs.Option.{option_or}
pub use Rattle.std.specs.Prelude.{if◌then◌else◌, OnOk, OnErr}
pub use Rattle.tnc_base.specs.Streams.{WrotePart}
pub use Rattle.tnc_forms.specs.declared.fault.Fault.{Fault}
pub use Rattle.tnc_forms.specs.declared.fault.Fault.TheVariants.{Input, Memory, Read, Write}
pub use Rattle.tnc_forms.specs.declared.fault.InputFault.{InputFault}
pub use Rattle.tnc_forms.specs.declared.fault.InputFault.TheVariants.{TooLong}
pub use Rattle.tnc_forms.specs.Reading.{input_limit}
pub use Rattle.tnc_forms.specs.Taken.{WereRead}
pub use Rattle.tnc_engine.specs.Making.{Making, IsMaking, Adds, Closes, Finishes, IsFront, Takes, fault_in}
pub use Rattle.tnc_engine.specs.Ended.{EndedAtMemory, IsEnded, Wrote}
pub use Rattle.tnc_engine.specs.Made.{BeginsAfter, IsFinished, IsTaken, WroteCut, WroteFront, WroteSome}
