use Rattle.std.specs.Prelude.{◌≡◌, ◌++◌, ◌∷◌, ℕ, ◌+◌, List, [], take, Some, None}
use Rattle.std.specs.Option.{option_to_list}
use Rattle.std.proofs.lemmas.Result.{MatchResult-from_err}
use Rattle.std.proofs.Common.{◌≤◌, length, sym, ◌∙◌, ap, subst, append_assoc, append-nil, arith, get_or}
use Rattle.agwpe_port.specs.Held.{StandsFor}
use Rattle.agwpe_port.specs.declared.message.AgwMessage.{AgwMessage}
use Rattle.agwpe_port.specs.Messages.{messages_in, bad_length_in}
use Rattle.agwpe_port.proofs.HeldLemmas.{bad_after}
use Rattle.agwpe_port.proofs.StreamLemmas.{one_more}
use Rattle.agwpe_port.proofs.messages.read_messages.Goals as goal

pub loop-octet-preserved : goal.loop-octet-preserved
loop-octet-preserved c =
    let octets = c.args.octets.now in
    let i = c.loop-octet.octet-index in
    let read = c.loop-octet.invariant in
    record {
      stands_for = λ stream h.
          subst (λ (read : List ℕ). StandsFor c.next_message.new.reader read)
          (one_more stream octets i c.loop-octet-test.true)
          (c.in_ok-message.ensures.stands_for (stream ++ take i octets) (read.stands_for stream h));
      messages = λ stream h.
          ap messages_in (sym (one_more stream octets i c.loop-octet-test.true))
          ∙ c.in_ok-message.ensures.message (stream ++ take i octets) (read.stands_for stream h)
          ∙ ap (λ (xs : List AgwMessage). xs ++ option_to_list c.in_ok-message.message) (read.messages stream h)
          ∙ append_assoc (messages_in stream) c.loop-octet.messages.items (option_to_list c.in_ok-message.message)
          ∙ ap (λ (xs : List AgwMessage). messages_in stream ++ xs) (sym c.in_ok-keep_message.ensures.kept);
      bad = λ stream len h is.
          subst (λ (read : List ℕ). bad_length_in read ≡ Some len) (one_more stream octets i c.loop-octet-test.true)
          (bad_after c.loop-octet.reader (stream ++ take i octets) (read.stands_for stream h) len
          (read.bad stream len h is)
          (get_or octets i 0 ∷ []));
      none = λ stream len h is.
          let failed = c.next_message.ensures.failed (stream ++ take i octets) len (read.stands_for stream h)
          (read.bad stream len h is) in
          let no_message : c.in_ok-message.message ≡ None = cc (c.in_ok-message.was, failed) in
          c.in_ok-keep_message.ensures.kept
          ∙ ap (λ m. c.loop-octet.messages.items ++ option_to_list m) no_message
          ∙ append-nil c.loop-octet.messages.items
          ∙ read.none stream len h is;
    }

-- ---- refusals

pub returns-in_err-message-clause-failed : goal.returns-in_err-message-clause-failed
returns-in_err-message-clause-failed c = λ stream len h is.
    let read = c.loop-octet.invariant in
    let failed = c.next_message.ensures.failed (stream ++ take c.loop-octet.octet-index c.args.octets.now) len
    (read.stands_for stream h) (read.bad stream len h is) in
    absurd (cc (c.in_err-message.was, failed))

pub returns-in_err-keep_message-clause-failed : goal.returns-in_err-keep_message-clause-failed
returns-in_err-keep_message-clause-failed c = λ stream len h is.
    let read = c.loop-octet.invariant in
    let failed = c.next_message.ensures.failed (stream ++ take c.loop-octet.octet-index c.args.octets.now) len
    (read.stands_for stream h) (read.bad stream len h is) in
    let no_message : c.in_ok-message.message ≡ None = cc (c.in_ok-message.was, failed) in
    let never = c.in_err-keep_message.ensures.none no_message in
    absurd cc

pub returns-in_err-keep_message-clause-refused : goal.returns-in_err-keep_message-clause-refused
returns-in_err-keep_message-clause-refused c = λ stream h.
    let octets = c.args.octets.now in
    let i = c.loop-octet.octet-index in
    let within : i + 1 ≤ length octets = omega (arith, c.loop-octet-test.true) in
    let stands = subst (λ (read : List ℕ). StandsFor c.next_message.new.reader read)
    (one_more stream octets i c.loop-octet-test.true)
    (c.in_ok-message.ensures.stands_for (stream ++ take i octets) (c.loop-octet.invariant.stands_for stream h)) in
    MatchResult-from_err c.from_residual-in_err-keep_message.result _ _ c.from_residual-in_err-keep_message.ensures.0
    (λ _. (i + 1, within, stands))
