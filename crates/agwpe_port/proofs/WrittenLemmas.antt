-- What is written is read as the message that it was.
use Rattle.std.proofs.Common.{◌≡◌, ℕ, ◌+◌, ◌≤◌, List, [], ◌∷◌, ◌++◌, length, take, drop, ap, ◌∙◌, sym, arith}
use Rattle.std.proofs.Common.{append_assoc, length-append}
use Rattle.std.proofs.lemmas.List.{take_at, drop_at, drop-drop}
use Rattle.byteorder.specs.Endian.{little_bytes, little_number}
use Rattle.byteorder.specs.Numbers.{little_number-reads_back}
use Rattle.agwpe_port.specs.declared.message.AgwMessage.{AgwMessage}
use Rattle.agwpe_port.specs.Messages.{and_then, told_length, message_of, header_of, spelling, reading}
use Rattle.agwpe_port.proofs.ReadingLemmas.{reading_whole}

-- what a message of the program is
pub record IsWritten (message : AgwMessage) : Type 0 where
  pub from : length message.from ≡ 10
  pub to : length message.to ≡ 10
  pub body : length message.body ≤ 4096

-- a header's length and the user number
abbrev tail_of : AgwMessage → List ℕ
tail_of message = little_bytes 4 (length message.body) ++ 0 ∷ 0 ∷ 0 ∷ 0 ∷ []

-- a header's call fields and what follows them
abbrev calls_of : AgwMessage → List ℕ
calls_of message = message.from ++ (message.to ++ tail_of message)

module _ (message : AgwMessage) (written : IsWritten message) where
  header_length : length (header_of message) ≡ 36
  header_length =
      let calls : length (calls_of message) ≡ length message.from + length (message.to ++ tail_of message) =
      length-append message.from (message.to ++ tail_of message) in
      let later : length (message.to ++ tail_of message) ≡ length message.to + 8 =
      length-append message.to (tail_of message) in
      omega (arith, calls, later, written.from, written.to)

  after_from : drop 10 (calls_of message) ≡ message.to ++ tail_of message
  after_from = drop_at message.from (message.to ++ tail_of message) 10 written.from

  following_calls : drop 20 (calls_of message) ≡ tail_of message
  following_calls = sym (drop-drop 10 10 (calls_of message)) ∙ ap (drop 10) after_from
      ∙ drop_at message.to (tail_of message) 10 written.to

  length_back : told_length (header_of message) ≡ length message.body
  length_back = ap (little_number 4) following_calls ∙ little_number-reads_back 4 (length message.body)
      (0 ∷ 0 ∷ 0 ∷ 0 ∷ []) (omega (arith, written.body))

  message_back : message_of (header_of message) message.body ≡ message
  message_back =
      ap (λ from. record {
        port = message.port;
        kind = message.kind;
        pid = message.pid;
        from = from;
        to = take 10 (drop 10 (calls_of message));
        body = message.body;
      })
      (take_at message.from (message.to ++ tail_of message) 10 written.from)
      ∙ ap (λ to. record {
        port = message.port;
        kind = message.kind;
        pid = message.pid;
        from = message.from;
        to = to;
        body = message.body;
      })
      (ap (take 10) after_from ∙ take_at message.to (tail_of message) 10 written.to)

  -- The octets of a message are that message, whatever follows.
  pub written_reads : (more : List ℕ) → reading (spelling message ++ more) ≡ and_then message (reading more)
  unfolding spelling
  written_reads more =
      ap reading (append_assoc (header_of message) message.body more)
      ∙ reading_whole (header_of message) message.body more header_length (omega (arith, length_back, written.body))
      (sym length_back)
      ∙ ap (λ m. and_then m (reading more)) message_back

-- the parts of a message, one after the other
pub in_parts : (message : AgwMessage)
    → (message.port ∷ 0 ∷ 0 ∷ 0 ∷ message.kind ∷ 0 ∷ message.pid ∷ 0 ∷ []) ++ (message.from ++ (message.to
    ++ (little_bytes 4 (length message.body) ++ (0 ∷ 0 ∷ 0 ∷ 0 ∷ message.body))))
    ≡ spelling message
unfolding spelling
in_parts message =
    let size = little_bytes 4 (length message.body) in
    let zeros : List ℕ = 0 ∷ 0 ∷ 0 ∷ 0 ∷ [] in
    let calls : (message.from ++ (message.to ++ (size ++ zeros))) ++ message.body
    ≡ message.from ++ (message.to ++ (size ++ (zeros ++ message.body))) =
    append_assoc message.from (message.to ++ (size ++ zeros)) message.body
    ∙ ap (λ xs. message.from ++ xs) (append_assoc message.to (size ++ zeros) message.body)
    ∙ ap (λ xs. message.from ++ (message.to ++ xs)) (append_assoc size zeros message.body) in
    ap (λ xs. message.port ∷ 0 ∷ 0 ∷ 0 ∷ message.kind ∷ 0 ∷ message.pid ∷ 0 ∷ xs) (sym calls)
