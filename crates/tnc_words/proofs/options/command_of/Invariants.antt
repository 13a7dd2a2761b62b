-- The options so far are the command's.
use Rattle.tnc_words.proofs.Common.{◌≡◌, take, app_of, new_app, with_entries}
use Rattle.tnc_words.proofs.options.command_of.Given as goal

abbrev pub invariant-loop-entry : goal.invariant-loop-entry
invariant-loop-entry l = app_of l.command ≡ with_entries (new_app l.fn.name) (take l.entry-index l.entries)
