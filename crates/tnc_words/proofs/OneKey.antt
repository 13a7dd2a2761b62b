-- Options say one way in which a transmitter is keyed.
use Rattle.tnc_words.proofs.Common.{◌≡◌, Option, Some, None, Text, sym, ap, ◌∙◌}
use Rattle.std.specs.Prelude.{Bool, true, false}
use Rattle.tnc_words.specs.Keys.{HasPtt}
use Rattle.tnc_words.specs.declared.command.PttOptions.{PttOptions}
use Rattle.tnc_words.proofs.OneNumber.{given_number, one_number}

pub one_ptt : (port tail : Option Text) (socket : Bool) (ptt other : Option PttOptions) → HasPtt port tail socket ptt
    → HasPtt port tail socket other → ptt ≡ other
one_ptt None None false ptt other h k = h ∙ sym k
one_ptt None None true ptt other h k = absurd h
one_ptt None (Some tail) socket ptt other h k = absurd h
one_ptt (Some port) tail socket None other h k = absurd h
one_ptt (Some port) tail socket (Some ptt) None h k = absurd k
one_ptt (Some port) tail socket (Some ptt) (Some other) h k =
    ap Some (ap (λ v. record ptt { port = v }) (given_number (Some port) 1 65535 ptt.port other.port h.0 k.0)
    ∙ ap (λ v. record ptt { port = other.port; tail = v }) (one_number tail 70 0 500 ptt.tail other.tail h.1 k.1)
    ∙ ap (λ v. record other { data_socket = v }) (h.2 ∙ sym k.2))
