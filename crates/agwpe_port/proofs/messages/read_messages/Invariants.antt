use Rattle.std.specs.Prelude.{◌≡◌, ◌++◌, ℕ, List, [], take, Some}
use Rattle.agwpe_port.specs.Held.{StandsFor}
use Rattle.agwpe_port.specs.Messages.{messages_in, bad_length_in}
use Rattle.agwpe_port.proofs.messages.read_messages.Given as goal

-- the octets so far are read, and gave these messages: none after a length that was too long
abbrev pub invariant-loop-octet : goal.invariant-loop-octet
invariant-loop-octet l = record {
  stands_for : (stream : List ℕ) → StandsFor l.fn.reader stream
      → StandsFor l.reader (stream ++ take l.octet-index l.octets);
  messages : (stream : List ℕ) → StandsFor l.fn.reader stream
      → messages_in (stream ++ take l.octet-index l.octets) ≡ messages_in stream ++ l.messages.items;
  bad : (stream : List ℕ) (len : ℕ) → StandsFor l.fn.reader stream → bad_length_in stream ≡ Some len
      → bad_length_in (stream ++ take l.octet-index l.octets) ≡ Some len;
  none : (stream : List ℕ) (len : ℕ) → StandsFor l.fn.reader stream → bad_length_in stream ≡ Some len
      → l.messages.items ≡ [];
}
