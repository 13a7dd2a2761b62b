use Rattle.tnc_words.proofs.Common.{Some, sym, ap, ◌∙◌, found_of}
use Rattle.tnc_words.specs.Options.{is_from_words}
use Rattle.tnc_words.proofs.Found.{source-rows}
use Rattle.tnc_words.proofs.parsing.has_flag.Goals as goal

pub returns-in-Some-CommandLine : goal.returns-in-Some-CommandLine
returns-in-Some-CommandLine c =
    sym (ap is_from_words (sym (source-rows (found_of c.args.found.now) c.args.name.now) ∙ sym c.value_source.ensures
    ∙ c.in-Some-CommandLine.is ∙ ap Some c.in-Some-CommandLine.field-0-is))

pub returns-in-Some-DefaultValue : goal.returns-in-Some-DefaultValue
returns-in-Some-DefaultValue c =
    sym (ap is_from_words (sym (source-rows (found_of c.args.found.now) c.args.name.now) ∙ sym c.value_source.ensures
    ∙ c.in-Some-DefaultValue.is ∙ ap Some c.in-Some-DefaultValue.field-0-is))

pub returns-in-None : goal.returns-in-None
returns-in-None c =
    sym (ap is_from_words (sym (source-rows (found_of c.args.found.now) c.args.name.now) ∙ sym c.value_source.ensures
    ∙ c.in-None.is))
