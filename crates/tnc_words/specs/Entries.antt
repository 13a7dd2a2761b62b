-- What clap is told of the options in a table.
use Rattle.std.specs.Prelude.{List, [], ◌∷◌}
use Rattle.clap.specs.Words.{App, Rule, with_rule}
use Rattle.tnc_words.specs.Options.{flag_rule, needed_rule, option_rule}
use Rattle.tnc_words.specs.declared.options.Entry.{Entry}
use Rattle.tnc_words.specs.declared.options.Entry.TheVariants.{Flag, Value, Needed}

-- an option
abbrev pub rule_of_entry : Entry → Rule
rule_of_entry (Flag name) = flag_rule name.now
rule_of_entry (Value name) = option_rule name.now
rule_of_entry (Needed name) = needed_rule name.now

-- a command with the options of a table, one after another
abbrev pub with_entries : App → List Entry → App
with_entries app [] = app
with_entries app (entry ∷ entries) = with_entries (with_rule app (rule_of_entry entry)) entries
