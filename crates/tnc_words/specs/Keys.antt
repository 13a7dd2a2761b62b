-- How a transmitter is keyed, as the options of serve say it: by the daemon rigctld of hamlib, or by nothing.
use Rattle.std.specs.Prelude.{◌≡◌, Bool, true, false, Option, Some, None}
use Rattle.clap.specs.Words.{Text}
use Rattle.tnc_words.specs.declared.command.PttOptions.{PttOptions}
use Rattle.tnc_words.specs.Numbers.{GivesNumber, HasNumber}

-- A port of rigctld asks for a key. Its tail is 70 ticks if no other was given, and it takes the sound of its data socket
-- if that was asked for. A tail or a data socket without a port is refused.
abbrev pub HasPtt : Option Text → Option Text → Bool → Option PttOptions → Type 0
HasPtt None None false ptt = ptt ≡ None
HasPtt None None true ptt = ⊥
HasPtt None (Some tail) socket ptt = ⊥
HasPtt (Some port) tail socket None = ⊥
HasPtt (Some port) tail socket (Some ptt) =
    GivesNumber (Some port) 1 65535 ptt.port × HasNumber tail 70 0 500 ptt.tail × (ptt.data_socket ≡ socket)
