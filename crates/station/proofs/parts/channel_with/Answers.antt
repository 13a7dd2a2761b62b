use Rattle.channel_access.specs.Channel.{Channel, new_channel_by, with_setting}
use Rattle.channel_access.specs.declared.parameters.Param.TheVariants.{TxDelay, Persist, SlotTime, TxTail}
use Rattle.station.proofs.parts.channel_with.Goals as goal

pub returns : goal.returns
returns c =
    let p = c.args.parameters in
    let at_first : Channel = new_channel_by c.args.modem c.args.seed in
    let delayed : Channel = with_setting (TxDelay p.tx_delay) at_first in
    let persistent : Channel = with_setting (Persist p.persist) delayed in
    let slotted : Channel = with_setting (SlotTime p.slot_time) persistent in
    let tailed : Channel = with_setting (TxTail p.tx_tail) slotted in
    c.set-5.ensures tailed (c.set-4.ensures slotted (c.set-3.ensures persistent (c.set-2.ensures delayed
    (c.set.ensures at_first c.in_ok-access.ensures))))
