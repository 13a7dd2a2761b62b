-- Options say one access to the channel.
use Rattle.tnc_words.proofs.Common.{◌≡◌, List, sym, ap, ◌∙◌, Row}
use Rattle.tnc_words.specs.Channels.{HasChannel}
use Rattle.tnc_words.specs.declared.command.ChannelOptions.{ChannelOptions}
use Rattle.tnc_words.proofs.OneNumber.{one_number}

pub one_channel : (found : List Row) (channel other : ChannelOptions) → HasChannel found channel
    → HasChannel found other → channel ≡ other
one_channel found channel other h k =
    ap (λ v. record channel { tx_delay = v }) (one_number _ _ _ _ _ _ h.tx_delay k.tx_delay)
    ∙ ap (λ v. record channel { tx_delay = other.tx_delay; tx_tail = v }) (one_number _ _ _ _ _ _ h.tx_tail k.tx_tail)
    ∙ ap (λ v. record other { persist = v; slot_time = channel.slot_time; full_duplex = channel.full_duplex })
    (one_number _ _ _ _ _ _ h.persist k.persist)
    ∙ ap (λ v. record other { slot_time = v; full_duplex = channel.full_duplex })
    (one_number _ _ _ _ _ _ h.slot_time k.slot_time)
    ∙ ap (λ v. record other { full_duplex = v }) (h.full_duplex ∙ sym k.full_duplex)
