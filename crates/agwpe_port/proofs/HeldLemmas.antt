-- What is kept stands for all octets so far.
use Rattle.std.proofs.Common.{◌≡◌, ℕ, ◌+◌, ◌<◌, ◌≤◌, ltb, eqb, cond, Bool, true, false, List, [], ◌∷◌, ◌++◌, length}
use Rattle.std.proofs.Common.{refl, ap, subst, ◌∙◌, sym, inl, inr, arith, append_assoc, append-nil, length-append}
use Rattle.std.proofs.Common.{Option, Some, None}
use Rattle.std.specs.Option.{option_to_list}
use Rattle.std.specs.Result.{MatchResult}
use Rattle.std.proofs.lemmas.Bool.{ltb-true, ltb-false, eqb-true, eqb-false}
use Rattle.std.proofs.lemmas.List.{length_push, nil_from_length}
use Rattle.agwpe_port.specs.declared.message.AgwMessage.{AgwMessage}
use Rattle.agwpe_port.specs.Messages.{Reading, told_length, message_of, reading, given, IsFault}
use Rattle.agwpe_port.specs.Answer.{answer_of}
use Rattle.agwpe_port.specs.Held.{Held, StandsFor, IsOpen, new_held, taken, told, taken_of_body, told_by_body}
use Rattle.agwpe_port.specs.Held.{header_ended, told_by_header, with_body, rest_reading, following}
use Rattle.agwpe_port.proofs.ReadingLemmas.{nothing, reading_short, reading_bad, reading_open, reading_whole}

-- the message under way, and nothing else
abbrev under : List ℕ → List ℕ → Held
under header body = record { header = header; body = body; bad = None }

-- how it goes on after what is kept
abbrev pub rest_of : Held → List ℕ → Reading
rest_of held more = rest_reading held.bad (held.header ++ held.body) more

-- after an octet, what is kept and the message tell how it goes on
pub record Goes (octets : List ℕ) (next : Held) (message : Option AgwMessage) : Type 0 where
  pub rest : (more : List ℕ) → reading (octets ++ more) ≡ following (option_to_list message) (rest_of next more)
  pub under_way : next.bad ≡ None → IsOpen next.header next.body

-- a test by which both go
by_test : (octets : List ℕ) (b : Bool) (first second : Held) (message other : Option AgwMessage)
    → (b ≡ true → Goes octets first message) → (b ≡ false → Goes octets second other)
    → Goes octets (cond b first second) (cond b message other)
by_test octets true first second message other on_true on_false = on_true refl
by_test octets false first second message other on_true on_false = on_false refl

-- a message ends
ends : (header body : List ℕ) → length header ≡ 36 → told_length header ≤ 4096 → length body ≡ told_length header
    → Goes (header ++ body) new_held (Some (message_of header body))
ends header body size fits whole = record {
  rest = λ more. ap reading (append_assoc header body more) ∙ reading_whole header body more size fits whole;
  under_way = λ good. inl (omega arith, refl);
}

-- nothing ends
goes_on : (header body : List ℕ) → IsOpen header body → Goes (header ++ body) (under header body) None
goes_on header body is_open = record { rest = λ more. refl; under_way = λ good. is_open }

-- a header tells too long a body
goes_bad : (header body : List ℕ) → length header ≡ 36 → 4096 < told_length header
    → Goes (header ++ body) (record { header = header; body = body; bad = Some (told_length header) }) None
goes_bad header body size long = record {
  rest = λ more. ap reading (append_assoc header body more) ∙ reading_bad header (body ++ more) size long;
  under_way = λ good. absurd cc;
}

-- the last octet of a header has come
header_whole : (header : List ℕ) → length header ≡ 36
    → Goes (header ++ []) (header_ended (under header [])) (told_by_header (under header []))
header_whole header size =
    let len : ℕ = told_length header in
    let octets : List ℕ = header ++ [] in
    let bad : Held = record { header = header; body = []; bad = Some len } in
    by_test octets (ltb 4096 len) bad (cond (eqb len 0) new_held (under header [])) None
    (cond (eqb len 0) (Some (message_of header [])) None)
    (λ long. goes_bad header [] size (ltb-true 4096 len long))
    (λ fits. by_test octets (eqb len 0) new_held (under header []) (Some (message_of header [])) None
    (λ none. ends header [] size (ltb-false 4096 len fits) (sym (eqb-true len 0 none)))
    (λ some. goes_on header [] (inr (size, ltb-false 4096 len fits, positive len (eqb-false len 0 some)))))
  where
    positive : (len : ℕ) → (len ≡ 0 → ⊥) → 0 < len
    positive len some = omega (arith, some)

-- an octet of a body has come
body_more : (header body : List ℕ) → length header ≡ 36 → told_length header ≤ 4096 → length body ≤ told_length header
    → Goes (header ++ body) (taken_of_body (under header body)) (told_by_body (under header body))
body_more header body size fits within =
    let len : ℕ = told_length header in
    by_test (header ++ body) (ltb (length body) len) (under header body) new_held None (Some (message_of header body))
    (λ short. goes_on header body (inr (size, fits, ltb-true (length body) len short)))
    (λ whole. ends header body size fits (omega (arith, ltb-false (length body) len whole)))

-- an octet of a message
octet_goes : (header body : List ℕ) (octet : ℕ) → IsOpen header body
    → Goes ((header ++ body) ++ octet ∷ []) (taken (under header body) octet) (told (under header body) octet)
octet_goes header body octet (inl short) =
    let none : [] ≡ body = sym (nil_from_length body (omega (arith, short.1))) in
    let P : List ℕ → Type 0 = λ b. Goes ((header ++ b) ++ octet ∷ []) (taken (under header b) octet)
    (told (under header b) octet) in
    subst P none (of_header (omega (arith, short.0)))
  where
    u : List ℕ
    u = header ++ octet ∷ []

    G : Held → Option AgwMessage → Type 0
    G next message = Goes (u ++ []) next message

    regroup : u ++ [] ≡ (header ++ []) ++ octet ∷ []
    regroup = append-nil u ∙ ap (λ xs. xs ++ octet ∷ []) (sym (append-nil header))

    of_header : length header < 36 → Goes ((header ++ []) ++ octet ∷ []) (taken (under header []) octet)
        (told (under header []) octet)
    of_header few =
        let longer : length u ≡ length header + 1 = length_push header octet in
        subst (λ xs. Goes xs (taken (under header []) octet) (told (under header []) octet)) regroup
        (by_test (u ++ []) (eqb (length header) 36) (taken_of_body (with_body (under header []) octet))
        (cond (eqb (length header + 1) 36) (header_ended (under u [])) (under u []))
        (told_by_body (with_body (under header []) octet))
        (cond (eqb (length header + 1) 36) (told_by_header (under u [])) None)
        (λ full. absurd (omega (arith, eqb-true (length header) 36 full)))
        (λ room. by_test (u ++ []) (eqb (length header + 1) 36) (header_ended (under u [])) (under u [])
        (told_by_header (under u [])) None
        (λ last. header_whole u (longer ∙ eqb-true (length header + 1) 36 last))
        (λ other. goes_on u [] (inl (omega (arith, eqb-false (length header + 1) 36 other), refl)))))
octet_goes header body octet (inr whole) =
    let v : List ℕ = body ++ octet ∷ [] in
    let longer : length v ≡ length body + 1 = length_push body octet in
    let u : List ℕ = header ++ octet ∷ [] in
    subst (λ xs. Goes xs (taken (under header body) octet) (told (under header body) octet))
    (sym (append_assoc header body (octet ∷ [])))
    (by_test (header ++ v) (eqb (length header) 36) (taken_of_body (under header v))
    (cond (eqb (length header + 1) 36) (header_ended (under u body)) (under u body))
    (told_by_body (under header v)) (cond (eqb (length header + 1) 36) (told_by_header (under u body)) None)
    (λ full. body_more header v whole.0 whole.1 (omega (arith, whole.2)))
    (λ other. absurd (eqb-false (length header) 36 other whole.0)))

-- nothing is read if nothing comes
pub at_end : (held : Held) → (held.bad ≡ None → IsOpen held.header held.body)
    → rest_of held [] ≡ record { messages = []; bad = held.bad }
at_end held under_way = by_bad held.bad under_way
  where
    octets : List ℕ
    octets = held.header ++ held.body

    by_open : IsOpen held.header held.body → reading (octets ++ []) ≡ nothing
    by_open (inl short) = ap reading (append-nil octets)
        ∙ reading_short octets (omega (arith, length-append held.header held.body, short.0, short.1))
    by_open (inr whole) = ap reading (append-nil octets) ∙ reading_open held.header held.body whole.0 whole.1 whole.2

    by_bad : (bad : Option ℕ) → (bad ≡ None → IsOpen held.header held.body)
        → rest_reading bad octets [] ≡ record { messages = []; bad = bad }
    by_bad None is_open = by_open (is_open refl)
    by_bad (Some len) is_open = refl

-- a header that tells too long a body ends no message
pub bad_tells_none : (held : Held) (octet len : ℕ) → held.bad ≡ None → (taken held octet).bad ≡ Some len
    → told held octet ≡ None
bad_tells_none held octet len good is_bad =
    let with_bad : Option ℕ → Held = λ b. record { header = held.header; body = held.body; bad = b } in
    let P : Option ℕ → Type 0 = λ b. (taken (with_bad b) octet).bad ≡ Some len → told (with_bad b) octet ≡ None in
    subst P (sym good) (at_none held.header held.body) is_bad
  where
    -- if one goes with a test, the other does
    T : Held → Option AgwMessage → Type 0
    T next message = next.bad ≡ Some len → message ≡ None

    either : (b : Bool) (first second : Held) (message other : Option AgwMessage) → T first message → T second other
        → T (cond b first second) (cond b message other)
    either true first second message other f s = f
    either false first second message other f s = s

    none_is_some : {A : Type 0} → None ≡ Some len → A
    none_is_some e = absurd cc

    at_none : (header body : List ℕ) → T (taken (under header body) octet) (told (under header body) octet)
    at_none header body =
        let u : List ℕ = header ++ octet ∷ [] in
        let v : List ℕ = body ++ octet ∷ [] in
        let L : ℕ = told_length u in
        either (eqb (length header) 36) (taken_of_body (under header v))
        (cond (eqb (length header + 1) 36) (header_ended (under u body)) (under u body))
        (told_by_body (under header v)) (cond (eqb (length header + 1) 36) (told_by_header (under u body)) None)
        (either (ltb (length v) (told_length header)) (under header v) new_held None (Some (message_of header v))
        (λ e. refl) (λ e. none_is_some e))
        (either (eqb (length header + 1) 36) (header_ended (under u body)) (under u body)
        (told_by_header (under u body)) None
        (either (ltb 4096 L) (record { header = u; body = body; bad = Some L }) (cond (eqb L 0) new_held (under u body))
        None (cond (eqb L 0) (Some (message_of u body)) None)
        (λ e. refl)
        (either (eqb L 0) new_held (under u body) (Some (message_of u body)) None (λ e. none_is_some e) (λ e. refl)))
        (λ e. refl))

-- ---- the stream

module _ (held : Held) (stream : List ℕ) (stands : StandsFor held stream) where
  -- the length that was too long is kept
  pub bad_now : (reading stream).bad ≡ held.bad
  bad_now =
      ap (λ (r : Reading). r.bad) (ap reading (sym (append-nil stream)) ∙ stands.rest [])
      ∙ ap (λ (r : Reading). r.bad) (at_end held stands.under_way)

  -- after a length that was too long, an octet changes nothing
  module _ (len : ℕ) (is_bad : held.bad ≡ Some len) (octet : ℕ) where
    failed_more : (more : List ℕ) → reading (stream ++ more)
        ≡ record { messages = (reading stream).messages; bad = Some len }
    failed_more more =
        stands.rest more
        ∙ ap (λ bad. following (reading stream).messages (rest_reading bad (held.header ++ held.body) more)) is_bad
        ∙ ap (λ ms. record { messages = ms; bad = Some len }) (append-nil (reading stream).messages)

    pub messages_failed : (reading (stream ++ octet ∷ [])).messages ≡ (reading stream).messages ++ []
    messages_failed = ap (λ (r : Reading). r.messages) (failed_more (octet ∷ []))
        ∙ sym (append-nil (reading stream).messages)

    pub stands_failed : StandsFor held (stream ++ octet ∷ [])
    stands_failed = record {
      under_way = stands.under_way;
      rest = λ more.
          ap reading (append_assoc stream (octet ∷ []) more)
          ∙ stands.rest (octet ∷ more)
          ∙ ap (λ bad. following (reading stream).messages (rest_reading bad (held.header ++ held.body) (octet ∷ more)))
          is_bad
          ∙ ap (λ ms. following ms (rest_reading (Some len) (held.header ++ held.body) more))
          (sym (messages_failed ∙ append-nil (reading stream).messages))
          ∙ ap (λ bad. following (reading (stream ++ octet ∷ [])).messages
          (rest_reading bad (held.header ++ held.body) more)) (sym is_bad);
    }

  -- an octet of a message
  module _ (good : held.bad ≡ None) (octet : ℕ) where
    octets : List ℕ
    octets = held.header ++ held.body

    goes : Goes (octets ++ octet ∷ []) (taken held octet) (told held octet)
    unfolding octets
    goes =
        let with_bad : Option ℕ → Held = λ b. record { header = held.header; body = held.body; bad = b } in
        let P : Option ℕ → Type 0 = λ b. Goes ((held.header ++ held.body) ++ octet ∷ []) (taken (with_bad b) octet)
        (told (with_bad b) octet) in
        subst P (sym good) (octet_goes held.header held.body octet (stands.under_way good))

    stream_more : (more : List ℕ) → reading (stream ++ octet ∷ more)
        ≡ following ((reading stream).messages ++ option_to_list (told held octet)) (rest_of (taken held octet) more)
    unfolding octets
    stream_more more =
        stands.rest (octet ∷ more)
        ∙ ap (λ bad. following (reading stream).messages (rest_reading bad (held.header ++ held.body) (octet ∷ more))) good
        ∙ ap (λ xs. following (reading stream).messages (reading xs))
        (sym (append_assoc (held.header ++ held.body) (octet ∷ []) more))
        ∙ ap (following (reading stream).messages) (goes.rest more)
        ∙ ap (λ ms. record { messages = ms; bad = (rest_of (taken held octet) more).bad })
        (sym (append_assoc (reading stream).messages (option_to_list (told held octet))
        (rest_of (taken held octet) more).messages))

    now : reading (stream ++ octet ∷ []) ≡ record {
      messages =
          (reading stream).messages ++ option_to_list (told held octet);
      bad = (taken held octet).bad;
    }
    now =
        stream_more []
        ∙ ap (following ((reading stream).messages ++ option_to_list (told held octet)))
        (at_end (taken held octet) goes.under_way)
        ∙ ap (λ ms. record { messages = ms; bad = (taken held octet).bad })
        (append-nil ((reading stream).messages ++ option_to_list (told held octet)))

    messages_next : (reading (stream ++ octet ∷ [])).messages
        ≡ (reading stream).messages ++ option_to_list (told held octet)
    messages_next = ap (λ (r : Reading). r.messages) now

    bad_next : (reading (stream ++ octet ∷ [])).bad ≡ (taken held octet).bad
    bad_next = ap (λ (r : Reading). r.bad) now

    -- the messages that the answer gives
    pub given_next : (reading (stream ++ octet ∷ [])).messages
        ≡ (reading stream).messages ++ given (answer_of (taken held octet).bad (told held octet))
    given_next = messages_next ∙ ap (λ ms. (reading stream).messages ++ ms) (by_bad (taken held octet).bad refl)
      where
        by_bad : (bad : Option ℕ) → (taken held octet).bad ≡ bad → option_to_list (told held octet)
            ≡ given (answer_of bad (told held octet))
        by_bad None is = refl
        by_bad (Some len) is = ap option_to_list (bad_tells_none held octet len good is)

    -- and its fault
    pub fault_next : MatchResult (answer_of (taken held octet).bad (told held octet))
        (λ message. (reading (stream ++ octet ∷ [])).bad ≡ None) (IsFault stream octet)
    fault_next = by_bad (taken held octet).bad refl
      where
        by_bad : (bad : Option ℕ) → (taken held octet).bad ≡ bad
            → MatchResult (answer_of bad (told held octet)) (λ message. (reading (stream ++ octet ∷ [])).bad ≡ None)
            (IsFault stream octet)
        by_bad None is = bad_next ∙ is
        by_bad (Some len) is = (bad_now ∙ good, bad_next ∙ is)

    pub stands_next : StandsFor (taken held octet) (stream ++ octet ∷ [])
    stands_next = record {
      under_way = goes.under_way;
      rest = λ more.
          ap reading (append_assoc stream (octet ∷ []) more)
          ∙ stream_more more
          ∙ ap (λ ms. following ms (rest_of (taken held octet) more)) (sym messages_next);
    }

-- a length that was too long stays, whatever comes
pub bad_after : (held : Held) (stream : List ℕ) → StandsFor held stream → (len : ℕ) → (reading stream).bad ≡ Some len
    → (more : List ℕ) → (reading (stream ++ more)).bad ≡ Some len
bad_after held stream stands len bad more =
    ap (λ (r : Reading). r.bad) (failed_more held stream stands len (sym (bad_now held stream stands) ∙ bad) 0 more)

-- before any octet
pub stands_new : StandsFor new_held []
stands_new = record {
  under_way = λ good. inl (omega arith, refl);
  rest = λ more.
      let none : reading [] ≡ nothing = reading_short [] (omega arith) in
      ap (λ (r : Reading). following r.messages (reading more)) (sym none);
}
