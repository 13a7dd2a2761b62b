-- The names that most proofs of this crate cite, passed on from one place.
unfoldable pub use Rattle.keying.specs.Answers.{answer_of}
pub use Rattle.keying.specs.Calls.{Call, by_rule, called, ended, heard, history, listened, read, ticked, tried, turned}
pub use Rattle.keying.specs.Calls.{written}
pub use Rattle.keying.specs.Calls.Call.{AfterTry, AfterWrite, CommandFailed, Tick, Turn}
pub use Rattle.keying.specs.Kept.{after_octets, after_reading, after_rule, is_wanted}
pub use Rattle.keying.specs.Key.{Key, free, is_free, key_of}
pub use Rattle.keying.specs.Keyed.{lit, on, owed, ticks, wanted}
pub use Rattle.keying.specs.Laws.{accepted, commands, newest_keys}
pub use Rattle.keying.specs.Line.{last_loss, phase, ready, waiting}
pub use Rattle.keying.specs.Marks.{Mark}
pub use Rattle.keying.specs.Marks.Mark.{Accepted, Cut, Ends, Heard, Keyed, Lost, Opened, Readied, Released, Ticked}
pub use Rattle.keying.specs.Marks.Mark.{Tried, Turned, WriteFault}
pub use Rattle.keying.specs.Rules.{closing_marks, end_marks, end_marks_in, is_at_limit, is_stalled, octet_marks}
pub use Rattle.keying.specs.Rules.{silence_marks, stall_marks, tick_marks, try_marks_in}
pub use Rattle.keying.specs.Told.{ending_in, keying_command, tick_told}
pub use Rattle.keying.specs.declared.answer.Answer.TheVariants.{Accepts, Refuses, Unclear}
pub use Rattle.keying.specs.declared.command.Command.TheVariants.{KeyData, Release}
pub use Rattle.keying.specs.declared.line.End.{End}
pub use Rattle.keying.specs.declared.line.End.TheVariants.{Fault}
pub use Rattle.keying.specs.declared.line.Phase.{Phase}
pub use Rattle.keying.specs.declared.line.Phase.TheVariants.{Down, Opening, Up}
pub use Rattle.keying.specs.declared.line.Try.{Try}
pub use Rattle.keying.specs.declared.line.Try.TheVariants.{Written}
pub use Rattle.keying.specs.declared.machine.Words.{Words}
pub use Rattle.keying.specs.declared.report.Why.{Why}
pub use Rattle.keying.specs.declared.ticking.Act.{Act}
pub use Rattle.std.proofs.Common.{Bool, List, None, Option, Some, [], ap, arith, drop, eqb, false, if◌then◌else◌, inl}
pub use Rattle.std.proofs.Common.{inr, length, not, refl, subst, suc, sym, take, true, zero, ℕ, ◌&&◌, ◌++◌, ◌+◌, ◌-◌}
pub use Rattle.std.proofs.Common.{◌<◌, ◌∙◌, ◌∷◌, ◌≡◌, ◌≤◌, ◌⊎◌}
pub use Rattle.std.proofs.lemmas.Bool.{and_parts, cases_lt, cond-true, cond_both, eqb-true, not-true}
