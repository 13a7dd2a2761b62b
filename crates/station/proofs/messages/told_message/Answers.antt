use Rattle.station.proofs.Common.{◌≡◌, IfOk, sym, subst, spelling, Told}
use Rattle.station.specs.HostMessages.{message_of_told}
use Rattle.station.proofs.messages.told_message.Goals as goal

pub returns-in-Ended-clause-spelled : goal.returns-in-Ended-clause-spelled
returns-in-Ended-clause-spelled c =
    subst (λ (told : Told). IfOk c.call_message-in-Ended.result (λ octets. octets
    ≡ spelling (message_of_told c.args.local.now c.args.remote.now told)))
    (sym c.in-Ended.is) c.call_message-in-Ended.ensures.spelled
