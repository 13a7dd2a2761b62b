-- What is kept of a stream of messages: the message under way. No public clause looks inside: they cite `StandsFor`
-- alone.
use Rattle.std.specs.Prelude.{◌≡◌, ℕ, ◌+◌, ◌<◌, ◌≤◌, ◌⊎◌, ◌==◌, nat_lt, if◌then◌else◌, List, [], ◌∷◌, ◌++◌, length}
use Rattle.std.specs.Prelude.{take, Option, Some, None}
use Rattle.agwpe_port.specs.declared.message.AgwMessage.{AgwMessage}
use Rattle.agwpe_port.specs.Messages.{Reading, reading, header_size, most_body, told_length, message_of}

pub record Held : Type 0 where
  pub header : List ℕ
  pub body : List ℕ
  -- the length that was too long, if there was one
  pub bad : Option ℕ

abbrev pub new_held : Held
new_held = record { header = []; body = []; bad = None }

-- ---- one octet more

-- after the last octet of a header
abbrev pub header_ended : Held → Held
header_ended held =
    if nat_lt most_body (told_length held.header) then record {
      header = held.header;
      body = held.body;
      bad = Some (told_length held.header);
    } else
    if told_length held.header == 0 then record { header = []; body = []; bad = held.bad } else held

abbrev pub told_by_header : Held → Option AgwMessage
told_by_header held =
    if nat_lt most_body (told_length held.header) then None else
    if told_length held.header == 0 then Some (message_of held.header held.body) else None

abbrev pub with_header : Held → ℕ → Held
with_header held octet = record { header = held.header ++ octet ∷ []; body = held.body; bad = held.bad }

abbrev pub with_body : Held → ℕ → Held
with_body held octet = record { header = held.header; body = held.body ++ octet ∷ []; bad = held.bad }

-- is the body there to its end?
abbrev pub taken_of_body : Held → Held
taken_of_body held = if nat_lt (length held.body) (told_length held.header) then held
    else record { header = []; body = []; bad = held.bad }

abbrev pub told_by_body : Held → Option AgwMessage
told_by_body held = if nat_lt (length held.body) (told_length held.header) then None
    else Some (message_of held.header held.body)

-- what is kept after an octet
abbrev pub taken : Held → ℕ → Held
taken held octet =
    if length held.header == header_size then taken_of_body (with_body held octet) else
    if length held.header + 1 == header_size then header_ended (with_header held octet) else with_header held octet

-- the message that an octet ends
abbrev pub told : Held → ℕ → Option AgwMessage
told held octet =
    if length held.header == header_size then told_by_body (with_body held octet) else
    if length held.header + 1 == header_size then told_by_header (with_header held octet) else None

-- ---- what it stands for

-- less than a whole message
abbrev pub IsOpen : List ℕ → List ℕ → Type 0
IsOpen header body =
    ((length header < header_size) × (length body ≡ 0))
    ⊎ ((length header ≡ header_size) × (told_length header ≤ most_body) × (length body < told_length header))

-- how the stream goes on after the octets of the message under way
abbrev pub rest_reading : Option ℕ → List ℕ → List ℕ → Reading
rest_reading None octets more = reading (octets ++ more)
rest_reading (Some len) octets more = record { messages = []; bad = Some len }

abbrev pub following : List AgwMessage → Reading → Reading
following before r = record { messages = before ++ r.messages; bad = r.bad }

-- these octets of a stream have come
pub record StandsFor (held : Held) (stream : List ℕ) : Type 0 where
  pub under_way : held.bad ≡ None → IsOpen held.header held.body
  -- whatever comes, the stream is the messages so far, and what is kept and comes
  pub rest : (more : List ℕ) → reading (stream ++ more)
      ≡ following (reading stream).messages (rest_reading held.bad (held.header ++ held.body) more)

-- Every reader is one to which the octets of some stream have come.
abbrev pub StandsForSome : Held → Type 0
StandsForSome held = (stream : List ℕ) × StandsFor held stream

-- the octets of this stream have come, and some of these after them, from the first on
abbrev pub StandsForPart : Held → List ℕ → List ℕ → Type 0
StandsForPart held stream octets =
    (count : ℕ) × (count ≤ length octets) × StandsFor held (stream ++ take count octets)
