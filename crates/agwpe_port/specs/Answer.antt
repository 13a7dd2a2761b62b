-- What an octet is answered, by what is kept after it. No public clause cites it.
use Rattle.std.specs.Prelude.{ℕ, Option, Some, None, Result, Ok, Err}
use Rattle.agwpe_port.specs.declared.fault.AgwFault.{AgwFault}
use Rattle.agwpe_port.specs.declared.fault.AgwFault.TheVariants.{BadLength}
use Rattle.agwpe_port.specs.declared.message.AgwMessage.{AgwMessage}

abbrev pub answer_of : Option ℕ → Option AgwMessage → Result (Option AgwMessage) AgwFault
answer_of None message = Ok message
answer_of (Some len) message = Err (BadLength len)
