-- A call as the octets of its host come.
use Rattle.agwpe_client.proofs.Common.{◌≡◌, ℕ, cond, Bool, true, false, List, [], ◌∷◌, ◌++◌, refl, ap, subst, ◌∙◌, sym}
use Rattle.agwpe_client.proofs.Common.{append_assoc, append-nil, Option, Some, None, fold-append, AgwMessage}
use Rattle.agwpe_client.proofs.Common.{call_field, messages_in, bad_length_in, Held, CallState, Asking, Calling, Up}
use Rattle.agwpe_client.proofs.Common.{Done, Refused, Broken, Ignore, step_of, CallPlan, CallRun, begin, moving}
use Rattle.agwpe_client.proofs.Common.{stepped, with_message, is_over, with_bad_length, call_run, state_after}
use Rattle.std.specs.Prelude.{fold}
use Rattle.agwpe_port.specs.Messages.{Reading, reading}
use Rattle.agwpe_port.specs.Held.{StandsFor as StandsForOctets, new_held, rest_reading, following}
use Rattle.agwpe_port.proofs.HeldLemmas.{bad_now, stands_new, stands_next, stands_failed}

-- ---- a reader for each stream

held_next : (held : Held) (stream : List ℕ) (octet : ℕ) → StandsForOctets held stream
    → (next : Held) × StandsForOctets next (stream ++ octet ∷ [])
held_next held stream octet stands = by_bad held.bad refl
  where
    by_bad : (bad : Option ℕ) → held.bad ≡ bad → (next : Held) × StandsForOctets next (stream ++ octet ∷ [])
    by_bad None good = (_, stands_next held stream stands good octet)
    by_bad (Some len) is_bad = (held, stands_failed held stream stands len is_bad octet)

held_more : (held : Held) (stream more : List ℕ) → StandsForOctets held stream
    → (next : Held) × StandsForOctets next (stream ++ more)
held_more held stream [] stands = (held, subst (λ xs. StandsForOctets held xs) (sym (append-nil stream)) stands)
held_more held stream (octet ∷ more) stands =
    let next = held_next held stream octet stands in
    subst (λ xs. (next : Held) × StandsForOctets next xs) (append_assoc stream (octet ∷ []) more)
    (held_more next.0 (stream ++ octet ∷ []) more next.1)

held_for : (stream : List ℕ) → (held : Held) × StandsForOctets held stream
held_for stream = held_more new_held [] stream stands_new

-- the messages of a stream are the first of a longer one
pub messages_more : (stream more : List ℕ)
    → (new : List AgwMessage) × (messages_in (stream ++ more) ≡ messages_in stream ++ new)
messages_more stream more =
    let reader = held_for stream in (_, ap (λ (r : Reading). r.messages) (reader.1.rest more))

-- ---- a call that is over

-- the call after messages alone
abbrev pub folded : CallPlan → CallRun → List AgwMessage → CallRun
folded plan run messages = fold (with_message plan) run messages

over_ignores : (plan : CallPlan) (run : CallRun) (message : AgwMessage) → is_over run.state ≡ true
    → with_message plan run message ≡ run
over_ignores plan run message over = by_state run.state refl over
  where
    ignored : (state : CallState) → run.state ≡ state
        → step_of (call_field plan.own) (call_field plan.remote) state message ≡ Ignore
        → with_message plan run message ≡ run
    ignored state is ignores = ap (λ step. stepped plan message.body step run)
        (ap (λ s. step_of (call_field plan.own) (call_field plan.remote) s message) is ∙ ignores)

    by_state : (state : CallState) → run.state ≡ state → is_over state ≡ true → with_message plan run message ≡ run
    by_state Asking is over = absurd cc
    by_state Calling is over = absurd cc
    by_state Up is over = absurd cc
    by_state Done is over = ignored Done is refl
    by_state Refused is over = ignored Refused is refl
    by_state (Broken len) is over = ignored (Broken len) is refl

pub over_folded : (plan : CallPlan) (run : CallRun) (messages : List AgwMessage) → is_over run.state ≡ true
    → folded plan run messages ≡ run
over_folded plan run [] over = refl
over_folded plan run (message ∷ messages) over =
    ap (λ r. folded plan r messages) (over_ignores plan run message over) ∙ over_folded plan run messages over

over_bad : (bad : Option ℕ) (run : CallRun) → is_over run.state ≡ true → with_bad_length bad run ≡ run
over_bad None run over = refl
over_bad (Some len) run over = ap (λ b. cond b run (moving (Broken len) run)) over

abbrev pub run_of : CallPlan → Reading → CallRun
run_of plan r = with_bad_length r.bad (folded plan (begin plan) r.messages)

-- after these octets a reader keeps this
module _ (plan : CallPlan) (stream more : List ℕ) (held : Held) (stands : StandsForOctets held stream) where
  abbrev goes_on : Option ℕ → Reading
  goes_on bad = rest_reading bad (held.header ++ held.body) more

  rest : (bad : Option ℕ) → held.bad ≡ bad
      → reading (stream ++ more) ≡ following (messages_in stream) (goes_on bad)
  rest bad is = stands.rest more ∙ ap (λ b. following (messages_in stream) (goes_on b)) is

  now : (bad : Option ℕ) → held.bad ≡ bad → bad_length_in stream ≡ bad
  now bad is = bad_now held stream stands ∙ is

  stays_by : (bad : Option ℕ) → held.bad ≡ bad → is_over (run_of plan (reading stream)).state ≡ true
      → run_of plan (reading (stream ++ more)) ≡ run_of plan (reading stream)
  stays_by None is over =
      let r : Reading = goes_on None in
      let run : CallRun = folded plan (begin plan) (messages_in stream) in
      let same : run_of plan (reading stream) ≡ run = ap (λ b. with_bad_length b run) (now None is) in
      let run_over : is_over run.state ≡ true = ap (λ (c : CallRun). is_over c.state) (sym same) ∙ over in
      ap (run_of plan) (rest None is)
      ∙ ap (with_bad_length r.bad) (fold-append (with_message plan) (begin plan) (messages_in stream) r.messages
      ∙ over_folded plan run r.messages run_over)
      ∙ over_bad r.bad run run_over ∙ sym same
  stays_by (Some len) is over =
      ap (run_of plan) (rest (Some len) is)
      ∙ ap (λ ms. with_bad_length (Some len) (folded plan (begin plan) ms)) (append-nil (messages_in stream))
      ∙ ap (λ b. with_bad_length b (folded plan (begin plan) (messages_in stream))) (sym (now (Some len) is))

-- whatever comes, a call that is over stays as it is
pub over_stays : (plan : CallPlan) (stream more : List ℕ) → is_over (state_after plan stream) ≡ true
    → call_run plan (stream ++ more) ≡ call_run plan stream
unfolding call_run
over_stays plan stream more over =
    let reader = held_for stream in stays_by plan stream more reader.0 reader.1 reader.0.bad refl over

-- ---- a call that goes on

still_good : (bad : Option ℕ) (run : CallRun) → is_over (with_bad_length bad run).state ≡ false → bad ≡ None
still_good None run going = refl
still_good (Some len) run going = absurd (broken (is_over run.state) refl going)
  where
    broken : (b : Bool) → is_over run.state ≡ b → is_over (cond b run (moving (Broken len) run)).state ≡ false → ⊥
    broken true is going = let h = sym is ∙ going in cc
    broken false is going = cc

-- it has met no length that was too long
pub good_so_far : (plan : CallPlan) (stream : List ℕ) → is_over (state_after plan stream) ≡ false
    → bad_length_in stream ≡ None
unfolding call_run
good_so_far plan stream going =
    still_good (bad_length_in stream) (folded plan (begin plan) (messages_in stream)) going

-- more messages, and maybe too long a length
pub run_more : (plan : CallPlan) (stream more : List ℕ) (messages : List AgwMessage)
    → is_over (state_after plan stream) ≡ false → messages_in (stream ++ more) ≡ messages_in stream ++ messages
    → call_run plan (stream ++ more)
    ≡ with_bad_length (bad_length_in (stream ++ more)) (fold (with_message plan) (call_run plan stream) messages)
unfolding call_run
run_more plan stream more messages going is =
    let bad : Option ℕ = bad_length_in (stream ++ more) in
    let run : CallRun = folded plan (begin plan) (messages_in stream) in
    let same : call_run plan stream ≡ run = ap (λ b. with_bad_length b run) (good_so_far plan stream going) in
    ap (λ ms. with_bad_length bad (folded plan (begin plan) ms)) is
    ∙ ap (with_bad_length bad) (fold-append (with_message plan) (begin plan) (messages_in stream) messages)
    ∙ ap (λ r. with_bad_length bad (folded plan r messages)) (sym same)
