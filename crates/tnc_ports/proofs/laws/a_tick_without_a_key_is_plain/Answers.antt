use Rattle.tnc_ports.proofs.Unkeyed.{plain_ticks, still_turns}
use Rattle.tnc_ports.proofs.laws.a_tick_without_a_key_is_plain.Goals as goal

pub returns : goal.returns
returns c = record { ticks = plain_ticks; turns = still_turns }
