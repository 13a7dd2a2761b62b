-- The messages of a stream (AGWPE TCP/IP socket interface): a header of 36 octets, and as many octets of body as its
-- octets 28 to 31 tell, the lowest first.
use Rattle.std.specs.Prelude.{◌≡◌, ℕ, zero, suc, nat_lt, if◌then◌else◌, List, [], ◌∷◌, ◌++◌, length, take, drop}
use Rattle.std.specs.Prelude.{slice_index, Option, Some, None, Result, Ok, Err}
use Rattle.std.specs.Option.{option_to_list}
use Rattle.byteorder.specs.Endian.{little_number, little_bytes}
use Rattle.agwpe_port.specs.declared.fault.AgwFault.{AgwFault}
use Rattle.agwpe_port.specs.declared.fault.AgwFault.TheVariants.{BadLength, Failed, Memory}
use Rattle.agwpe_port.specs.declared.message.AgwMessage.{AgwMessage}

abbrev pub header_size : ℕ
header_size = 36

-- the most octets of a body
abbrev pub most_body : ℕ
most_body = 4096

-- the length of the body, as a header tells it
abbrev pub told_length : List ℕ → ℕ
told_length header = little_number 4 (drop 28 header)

-- the message of a header and a body
abbrev pub message_of : List ℕ → List ℕ → AgwMessage
message_of header body = record {
  port = slice_index header 0;
  kind = slice_index header 4;
  pid = slice_index header 6;
  from = take 10 (drop 8 header);
  to = take 10 (drop 18 header);
  body = body;
}

-- the messages of a stream, up to a header that tells too long a body
pub record Reading : Type 0 where
  pub messages : List AgwMessage
  -- the length that was too long, if there was one
  pub bad : Option ℕ

-- one message, and what is read after it
abbrev pub and_then : AgwMessage → Reading → Reading
and_then message reading = record { messages = message ∷ reading.messages; bad = reading.bad }

-- no more than so many messages
abbrev pub reading_upto : ℕ → List ℕ → Reading
reading_upto zero stream = record { messages = []; bad = None }
reading_upto (suc most) stream =
    if nat_lt (length stream) header_size then record { messages = []; bad = None } else
    let header = take header_size stream in
    let following = drop header_size stream in
    if nat_lt most_body (told_length header) then record { messages = []; bad = Some (told_length header) } else
    if nat_lt (length following) (told_length header) then record { messages = []; bad = None } else
    and_then (message_of header (take (told_length header) following))
    (reading_upto most (drop (told_length header) following))

-- The stream is cut into headers, each followed by its body; a header or a body that is cut short is no message yet. A
-- message has 36 octets at least, so there are no more than octets.
unfoldable pub reading : List ℕ → Reading
reading stream = reading_upto (length stream) stream

abbrev pub messages_in : List ℕ → List AgwMessage
messages_in stream = (reading stream).messages

-- the length at which the messages end, if one is over 4096
abbrev pub bad_length_in : List ℕ → Option ℕ
bad_length_in stream = (reading stream).bad

-- the messages that one octet gave
abbrev pub given : Result (Option AgwMessage) AgwFault → List AgwMessage
given (Ok message) = option_to_list message
given (Err fault) = []

-- The fault that an octet after a stream meets: it ends a header that tells too long a body, or stands after one.
-- Memory is wanted only if it does not.
abbrev pub IsFault : List ℕ → ℕ → AgwFault → Type 0
IsFault stream octet (BadLength len) = (bad_length_in stream ≡ None) × (bad_length_in (stream ++ octet ∷ []) ≡ Some len)
IsFault stream octet (Failed len) = bad_length_in stream ≡ Some len
IsFault stream octet Memory = bad_length_in stream ≡ None

-- the header of a message; what is reserved is zero, and so is the user number after the length
abbrev pub header_of : AgwMessage → List ℕ
header_of message =
    message.port ∷ 0 ∷ 0 ∷ 0 ∷ message.kind ∷ 0 ∷ message.pid ∷ 0
    ∷ (message.from ++ (message.to ++ (little_bytes 4 (length message.body) ++ 0 ∷ 0 ∷ 0 ∷ 0 ∷ [])))

-- a message as it is written
unfoldable pub spelling : AgwMessage → List ℕ
spelling message = header_of message ++ message.body
