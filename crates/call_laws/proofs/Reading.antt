-- What is read of a first part of messages that were written.
use Rattle.std.proofs.Common.{◌≡◌, ℕ, ◌+◌, ◌<◌, ◌≤◌, ◌⊎◌, List, [], ◌∷◌, ◌++◌, length, drop, ap, ◌∙◌}
use Rattle.std.proofs.Common.{sym, arith, inl, inr, append_assoc, length-append, Some}
use Rattle.std.specs.List.{flat_map, AllByRecursion as Each}
use Rattle.std.proofs.lemmas.Bool.{cases_lt}
use Rattle.std.proofs.lemmas.List.{drop_at, drop-drop}
use Rattle.std.proofs.lemmas.List.Elements.{recursion_from_All}
use Rattle.byteorder.specs.Endian.{little_bytes, little_number}
use Rattle.byteorder.specs.Numbers.{little_number-reads_back}
use Rattle.agwpe_port.specs.declared.message.AgwMessage.{AgwMessage}
use Rattle.agwpe_port.specs.Messages.{Reading, messages_in, spelling, header_of, reading, told_length}
use Rattle.agwpe_port.proofs.ReadingLemmas.{reading_short, reading_bad}
use Rattle.agwpe_port.proofs.WrittenLemmas.{written_reads}
use Rattle.agwpe_client.proofs.StreamLemmas.{messages_more}
use Rattle.call_laws.specs.FirstPart.{IsFirstPart, HasHeader, FirstPartIsRead}

-- ---- first parts

pub part_of_part : {T : Type 0} (xs ys zs : List T) → IsFirstPart xs ys → IsFirstPart ys zs → IsFirstPart xs zs
part_of_part xs ys zs first second =
    (first.0 ++ second.0, second.1 ∙ ap (λ l. l ++ second.0) first.1 ∙ append_assoc xs first.0 second.0)

-- ---- a message whose body is too long

module _ (message : AgwMessage) (written : HasHeader message) where
  abbrev tail_of : List ℕ
  tail_of = little_bytes 4 (length message.body) ++ 0 ∷ 0 ∷ 0 ∷ 0 ∷ []

  abbrev calls_of : List ℕ
  calls_of = message.from ++ (message.to ++ tail_of)

  header_length : length (header_of message) ≡ 36
  header_length =
      let calls : length calls_of ≡ length message.from + length (message.to ++ tail_of) =
      length-append message.from (message.to ++ tail_of) in
      let later : length (message.to ++ tail_of) ≡ length message.to + 8 = length-append message.to tail_of in
      omega (arith, calls, later, written.from, written.to)

  length_back : told_length (header_of message) ≡ length message.body
  length_back =
      ap (little_number 4) (sym (drop-drop 10 10 calls_of)
      ∙ ap (drop 10) (drop_at message.from (message.to ++ tail_of) 10 written.from)
      ∙ drop_at message.to tail_of 10 written.to)
      ∙ little_number-reads_back 4 (length message.body) (0 ∷ 0 ∷ 0 ∷ 0 ∷ []) (omega (arith, written.body))

  -- it is not read, and nothing after it is
  long_reads : (more : List ℕ) → 4096 < length message.body
      → reading (spelling message ++ more) ≡ record { messages = []; bad = Some (told_length (header_of message)) }
  unfolding spelling
  long_reads more long =
      ap reading (append_assoc (header_of message) message.body more)
      ∙ reading_bad (header_of message) (message.body ++ more) header_length (omega (arith, length_back, long))

-- ---- all messages

whole_read : (messages : List AgwMessage) → Each HasHeader messages
    → IsFirstPart (messages_in (flat_map spelling messages)) messages
whole_read [] h =
    ([], sym (ap (λ (r : Reading). r.messages ++ []) (reading_short [] (omega arith))))
whole_read (message ∷ messages) h = go (cases_lt 4096 (length message.body)) (whole_read messages h.1)
  where
    more : List ℕ
    more = flat_map spelling messages

    go : (4096 < length message.body ⊎ length message.body ≤ 4096) → IsFirstPart (messages_in more) messages
        → IsFirstPart (messages_in (spelling message ++ more)) (message ∷ messages)
    go (inl long) rest = (
      message ∷ messages,
      sym (ap (λ (r : Reading). r.messages ++ message ∷ messages)
          (long_reads message h.0 more long)),
    )
    go (inr fits) rest =
        let is = written_reads message (record { from = h.0.from; to = h.0.to; body = fits }) more in
        (rest.0, ap (λ ms. message ∷ ms) rest.1 ∙ sym (ap (λ (r : Reading). r.messages ++ rest.0) is))

pub first_part_is_read_holds : FirstPartIsRead
first_part_is_read_holds messages stream headers part =
    let whole : IsFirstPart (messages_in (flat_map spelling messages)) messages =
    whole_read messages (recursion_from_All HasHeader messages headers) in
    let more = messages_more stream part.0 in
    part_of_part (messages_in stream) (messages_in (flat_map spelling messages)) messages
    (more.0, ap messages_in part.1 ∙ more.1) whole
