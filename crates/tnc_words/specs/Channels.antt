-- What options of serve say of the access to the channel, in the words of KISS. Times are in units of 10 ms.
use Rattle.std.specs.Prelude.{◌≡◌, List, codes}
use Rattle.clap.specs.Words.{Row, first_of}
use Rattle.tnc_words.specs.declared.command.ChannelOptions.{ChannelOptions}
use Rattle.tnc_words.specs.Numbers.{HasNumber}
use Rattle.tnc_words.specs.Options.{is_used}

-- What the options say of the channel. If no other was given, TXDELAY is 30, TXtail 2, P 63 and the slot time 10, and the
-- station is in half duplex.
pub record HasChannel (found : List Row) (channel : ChannelOptions) : Type 0 where
  pub tx_delay : HasNumber (first_of (codes "txdelay") found) 30 0 255 channel.tx_delay
  pub tx_tail : HasNumber (first_of (codes "txtail") found) 2 0 255 channel.tx_tail
  pub persist : HasNumber (first_of (codes "persist") found) 63 0 255 channel.persist
  pub slot_time : HasNumber (first_of (codes "slot") found) 10 0 255 channel.slot_time
  pub full_duplex : channel.full_duplex ≡ is_used (codes "duplex") found
