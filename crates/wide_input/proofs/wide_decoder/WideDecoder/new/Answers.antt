use Rattle.wide_input.proofs.wide_decoder.WideDecoder.new.Goals as goal

pub returns-clause-stands_for : goal.returns-clause-stands_for
returns-clause-stands_for c = record { filter = c.new.ensures; bank = c.in_ok-new.ensures.stands_for }
