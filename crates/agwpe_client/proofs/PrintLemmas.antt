-- What a call prints, message by message.
use Rattle.agwpe_client.proofs.Common.{◌≡◌, ℕ, eqb, cond, Bool, true, false, List, [], ◌∷◌, ◌++◌, refl, ap, subst}
use Rattle.agwpe_client.proofs.Common.{◌∙◌, sym, append_assoc, append-nil, arith, Option, Some, None, flat_map}
use Rattle.agwpe_client.proofs.Common.{messages_in, bad_length_in, AgwMessage, Calling, Up}
use Rattle.agwpe_client.proofs.Common.{Broken, Step, Ignore, Connect, Talk, Print, End, Refuse, connect_kind}
use Rattle.agwpe_client.proofs.Common.{disconnect_kind, text_octets, CallPlan, CallRun, begin, moving, sending, stepped}
use Rattle.agwpe_client.proofs.Common.{with_message, is_over, with_bad_length, call_run, is_before_up}
use Rattle.std.proofs.Common.{All, inl, inr, ◌⊎◌}
use Rattle.std.proofs.lemmas.List.Elements.{All-cons}
use Rattle.agwpe_client.proofs.DoneLemmas.{SaysUp, EndsUp, talk_means, step_now, ours, fits_at, by_step, up_message}
use Rattle.agwpe_client.proofs.StepLemmas.{left, FitsState}
use Rattle.agwpe_client.proofs.StreamLemmas.{folded, over_folded}
use Rattle.agwpe_client.specs.DoneCall.{is_of, data_of}
use Rattle.agwpe_client.specs.CallPrints.{PrintsBetween, PrintsItsData}

-- ---- all messages

-- from the connection on
record PrintsAfter (plan : CallPlan) (messages : List AgwMessage) (before after : List ℕ) : Type 0 where
  middle : List AgwMessage
  rest : List AgwMessage
  order : messages ≡ middle ++ rest
  stays : All (λ message. is_of disconnect_kind plan message ≡ false) middle
  data_between : after ≡ before ++ flat_map (data_of plan) middle

nothing_more : (plan : CallPlan) (messages : List AgwMessage) (before after : List ℕ) → after ≡ before
    → PrintsAfter plan messages before after
nothing_more plan messages before after same = record {
  middle = [];
  rest = messages;
  order = refl;
  stays = λ k d within. absurd (omega arith);
  data_between = same ∙ sym (append-nil before);
}

up_prints : (plan : CallPlan) (messages : List AgwMessage) (run : CallRun) → run.state ≡ Up
    → PrintsAfter plan messages run.printed (folded plan run messages).printed
up_prints plan [] run up = nothing_more plan [] run.printed run.printed refl
up_prints plan (message ∷ messages) run up =
    go (up_message plan run message up) (λ still. up_prints plan messages (with_message plan run message) still)
  where
    next : CallRun
    next = with_message plan run message

    go : (SaysUp plan run message ⊎ EndsUp plan run message)
        → (next.state ≡ Up → PrintsAfter plan messages next.printed (folded plan next messages).printed)
        → PrintsAfter plan (message ∷ messages) run.printed (folded plan next messages).printed
    go (inl says) later =
        let more = later says.state in
        record {
          middle = message ∷ more.middle;
          rest = more.rest;
          order = ap (λ ms. message ∷ ms) more.order;
          stays = All-cons (λ m. is_of disconnect_kind plan m ≡ false) message more.middle says.stays more.stays;
          data_between = more.data_between ∙ ap (λ xs. xs ++ flat_map (data_of plan) more.middle) says.printed
              ∙ append_assoc run.printed (data_of plan message) (flat_map (data_of plan) more.middle);
        }
    go (inr ends) later = nothing_more plan (message ∷ messages) run.printed (folded plan next messages).printed
        (ap (λ (r : CallRun). r.printed) (over_folded plan next messages (ap is_over ends.state)) ∙ ends.printed)

-- nothing, or data of the call
abbrev PrintsFrom : CallPlan → List AgwMessage → List ℕ → Type 0
PrintsFrom plan messages printed = (printed ≡ []) ⊎ PrintsBetween plan messages printed

-- one message more before the connection
later_on : (plan : CallPlan) (message : AgwMessage) (messages : List AgwMessage) (printed : List ℕ)
    → PrintsFrom plan messages printed → PrintsFrom plan (message ∷ messages) printed
later_on plan message messages printed (inl none) = inl none
later_on plan message messages printed (inr call) = inr (record {
  front = message ∷ call.front;
  connected = call.connected;
  middle = call.middle;
  rest = call.rest;
  order = ap (λ ms. message ∷ ms) call.order;
  connects = call.connects;
  stays = call.stays;
  data_between = call.data_between;
})

before_prints : (plan : CallPlan) (messages : List AgwMessage) (run : CallRun) → is_before_up run.state ≡ true
    → run.printed ≡ []
    → PrintsFrom plan messages (folded plan run messages).printed
before_prints plan [] run before none = inl none
before_prints plan (message ∷ messages) run before none =
    go (step_now plan run message run.state) refl
    (λ still nothing. later_on plan message messages (folded plan next messages).printed
    (before_prints plan messages next still nothing))
  where
    next : CallRun
    next = with_message plan run message

    fits : (step : Step) → step_now plan run message run.state ≡ step → FitsState step run.state
    fits = fits_at plan run message run.state

    same : (step : Step) → step_now plan run message run.state ≡ step → next ≡ stepped plan message.body step run
    same step is = by_step plan run message run.state step refl is

    go : (step : Step) → step_now plan run message run.state ≡ step
        → (is_before_up next.state ≡ true → next.printed ≡ []
        → PrintsFrom plan (message ∷ messages) (folded plan next messages).printed)
        → PrintsFrom plan (message ∷ messages) (folded plan next messages).printed
    go Ignore is more =
        more (ap (λ (r : CallRun). is_before_up r.state) (same Ignore is) ∙ before)
        (ap (λ (r : CallRun). r.printed) (same Ignore is) ∙ none)
    go Connect is more =
        more (ap (λ (r : CallRun). is_before_up r.state) (same Connect is))
        (ap (λ (r : CallRun). r.printed) (same Connect is) ∙ none)
    go Talk is more =
        let calling : run.state ≡ Calling = fits Talk is in
        let opened : CallRun = moving Up (sending (text_octets plan.own plan.remote plan.text) run) in
        let gone = left plan opened in
        let call = up_prints plan messages next (ap (λ (r : CallRun). r.state) (same Talk is) ∙ gone.state) in
        inr (record {
          front = [];
          connected = message;
          middle = call.middle;
          rest = call.rest;
          order = ap (λ ms. message ∷ ms) call.order;
          connects = talk_means (ours plan run message) (eqb message.kind connect_kind)
              (eqb message.kind disconnect_kind) (ap (step_now plan run message) (sym calling) ∙ is);
          stays = call.stays;
          data_between = call.data_between
              ∙ ap (λ xs. xs ++ flat_map (data_of plan) call.middle)
              (ap (λ (r : CallRun). r.printed) (same Talk is) ∙ gone.printed ∙ none);
        })
    go Print is more = absurd (let up = fits Print is in let h = ap is_before_up (sym up) ∙ before in cc)
    go End is more = absurd (let up = fits End is in let h = ap is_before_up (sym up) ∙ before in cc)
    go Refuse is more =
        let over : is_over next.state ≡ true = ap (λ (r : CallRun). is_over r.state) (same Refuse is) in
        inl (ap (λ (r : CallRun). r.printed) (over_folded plan next messages over)
        ∙ ap (λ (r : CallRun). r.printed) (same Refuse is) ∙ none)

-- too long a length prints nothing
bad_prints : (bad : Option ℕ) (run : CallRun) → (with_bad_length bad run).printed ≡ run.printed
bad_prints None run = refl
bad_prints (Some len) run = go (is_over run.state)
  where
    go : (over : Bool) → (cond over run (moving (Broken len) run)).printed ≡ run.printed
    go true = refl
    go false = refl

pub prints_its_data_holds : PrintsItsData
unfolding call_run
prints_its_data_holds plan stream some =
    let run : CallRun = folded plan (begin plan) (messages_in stream) in
    let same : (with_bad_length (bad_length_in stream) run).printed ≡ run.printed =
    bad_prints (bad_length_in stream) run in
    elim (before_prints plan (messages_in stream) (begin plan) refl refl) [
      | inl none ↦ absurd (some (same ∙ none))
      | inr call ↦ subst (PrintsBetween plan (messages_in stream)) (sym same) call
    ]
