use Rattle.channel_access.proofs.SoundLemmas.{begins_with_sound}
use Rattle.channel_access.proofs.laws.a_transmission_begins_with_sound.Goals as goal

pub returns : goal.returns
returns c = begins_with_sound
