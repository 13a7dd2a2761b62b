use Rattle.channel_access.specs.declared.listening.Listening.{Listening}
use Rattle.channel_access.proofs.TurnLemmas.{listens}
use Rattle.channel_access.proofs.listening.Listening.tick.Goals as goal

pub returns : goal.returns
returns c = λ past is.
    let l : Listening = c.args.self.now in
    let step = listens c.args.busy c.args.began c.args.own past l is in
    let becomes = c.becomes_busy-becomes_busy.ensures in
    cc
