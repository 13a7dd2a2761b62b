use Rattle.tnc_words.proofs.Common.{ap, ◌∙◌, new_app, with_entries}
use Rattle.std.proofs.lemmas.List.{take_all}
use Rattle.tnc_words.proofs.WithEntries.{one_more}
use Rattle.tnc_words.proofs.options.command_of.Goals as goal

pub loop-entry-preserved : goal.loop-entry-preserved
loop-entry-preserved c =
    one_more (new_app c.args.name.now) _ _ _ c.args.entries.now c.loop-entry.entry-index _ c.loop-entry-test.true
    c.in_ok-command.ensures c.loop-entry.invariant c.argument.ensures.rule

pub returns : goal.returns
returns c =
    c.loop-entry.invariant ∙ ap (with_entries (new_app c.args.name.now))
    (take_all c.loop-entry.entry-index c.args.entries.now c.loop-entry-test.false)
