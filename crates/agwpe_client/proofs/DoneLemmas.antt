-- A call that is done, message by message.
use Rattle.agwpe_client.proofs.Common.{◌≡◌, ℕ, eqb, cond, Bool, true, false, List, [], ◌∷◌, ◌++◌, refl, ap, subst, ◌∙◌}
use Rattle.agwpe_client.proofs.Common.{sym, append_assoc, append-nil, arith, Option, Some, None, flat_map, eqb-true}
use Rattle.agwpe_client.proofs.Common.{call_field, messages_in, bad_length_in, AgwMessage, CallState, Calling, Up, Done}
use Rattle.agwpe_client.proofs.Common.{Refused, Broken, Step, Ignore, Connect, Talk, Print, End, Refuse, connect_kind}
use Rattle.agwpe_client.proofs.Common.{data_kind, disconnect_kind, text_octets, CallPlan, CallRun, begin, moving}
use Rattle.agwpe_client.proofs.Common.{printing, sending, stepped, with_message, is_over, with_bad_length, call_run}
use Rattle.agwpe_client.proofs.Common.{is_before_up, step_of, is_of_call}
use Rattle.std.proofs.Common.{◌&&◌, All, inl, inr, ◌⊎◌}
use Rattle.std.proofs.lemmas.List.Elements.{All-cons}
use Rattle.agwpe_client.proofs.StepLemmas.{left, FitsState, step_fits}
use Rattle.agwpe_client.proofs.StreamLemmas.{folded, over_folded}
use Rattle.agwpe_client.specs.DoneCall.{is_of, data_of, IsDoneCall, DonePrintsItsData}

-- ---- the tests of a message, by the step that they make

pub talk_means : (ours connected ended : Bool) → cond ours (cond connected Talk (cond ended Refuse Ignore)) Ignore
    ≡ Talk
    → (ours && connected) ≡ true
talk_means true true ended e = refl
talk_means true false true e = absurd cc
talk_means true false false e = absurd cc
talk_means false connected ended e = absurd cc

print_means : (ours says leaves : Bool) → cond ours (cond says Print (cond leaves End Ignore)) Ignore ≡ Print
    → (says ≡ true → leaves ≡ false) → ((ours && says) ≡ true) × ((ours && leaves) ≡ false)
print_means true true leaves e apart = (refl, apart refl)
print_means true false true e apart = absurd cc
print_means true false false e apart = absurd cc
print_means false says leaves e apart = absurd cc

end_means : (ours says leaves : Bool) → cond ours (cond says Print (cond leaves End Ignore)) Ignore ≡ End
    → (ours && leaves) ≡ true
end_means true true leaves e = absurd cc
end_means true false true e = refl
end_means true false false e = absurd cc
end_means false says leaves e = absurd cc

ignore_means : (ours says leaves : Bool) → cond ours (cond says Print (cond leaves End Ignore)) Ignore ≡ Ignore
    → ((ours && says) ≡ false) × ((ours && leaves) ≡ false)
ignore_means true true leaves e = absurd cc
ignore_means true false true e = absurd cc
ignore_means true false false e = (refl, refl)
ignore_means false says leaves e = (refl, refl)

-- D and d are two kinds
apart : (kind : ℕ) → eqb kind data_kind ≡ true → eqb kind disconnect_kind ≡ false
apart kind is = ap (λ k. eqb k disconnect_kind) (eqb-true kind data_kind is)

-- ---- a message

-- a message while the stations are connected: data or another one, or the end
pub record SaysUp (plan : CallPlan) (run : CallRun) (message : AgwMessage) : Type 0 where
  pub stays : is_of disconnect_kind plan message ≡ false
  pub state : (with_message plan run message).state ≡ Up
  pub printed : (with_message plan run message).printed ≡ run.printed ++ data_of plan message

pub record EndsUp (plan : CallPlan) (run : CallRun) (message : AgwMessage) : Type 0 where
  pub ends : is_of disconnect_kind plan message ≡ true
  pub state : (with_message plan run message).state ≡ Done
  pub printed : (with_message plan run message).printed ≡ run.printed

module _ (plan : CallPlan) (run : CallRun) (message : AgwMessage) where
  abbrev pub step_now : CallState → Step
  step_now state = step_of (call_field plan.own) (call_field plan.remote) state message

  abbrev pub ours : Bool
  ours = is_of_call (call_field plan.own) (call_field plan.remote) message

  pub fits_at : (state : CallState) (step : Step) → step_now state ≡ step → FitsState step state
  fits_at state step is = subst (λ s. FitsState s state) is
      (step_fits (call_field plan.own) (call_field plan.remote) state message)

  pub by_step : (state : CallState) (step : Step) → run.state ≡ state → step_now state ≡ step
      → with_message plan run message ≡ stepped plan message.body step run
  by_step state step at is = ap (λ s. stepped plan message.body (step_now s) run) at
      ∙ ap (λ s. stepped plan message.body s run) is

  pub up_message : run.state ≡ Up → SaysUp plan run message ⊎ EndsUp plan run message
  up_message up = go (step_now Up) refl
    where
      go : (step : Step) → step_now Up ≡ step → SaysUp plan run message ⊎ EndsUp plan run message
      go Ignore is =
          let tests = ignore_means ours (eqb message.kind data_kind) (eqb message.kind disconnect_kind) is in
          let next = by_step Up Ignore up is in
          inl (record {
            stays = tests.1;
            state = ap (λ (r : CallRun). r.state) next ∙ up;
            printed = ap (λ (r : CallRun). r.printed) next ∙ sym (append-nil run.printed)
                ∙ ap (λ b. run.printed ++ cond b message.body []) (sym tests.0);
          })
      go Print is =
          let tests = print_means ours (eqb message.kind data_kind) (eqb message.kind disconnect_kind) is
          (apart message.kind) in
          let next = by_step Up Print up is in
          let gone = left plan (printing message.body run) in
          inl (record {
            stays = tests.1;
            state = ap (λ (r : CallRun). r.state) next ∙ gone.state ∙ up;
            printed = ap (λ (r : CallRun). r.printed) next ∙ gone.printed
                ∙ ap (λ b. run.printed ++ cond b message.body []) (sym tests.0);
          })
      go End is =
          let next = by_step Up End up is in
          inr (record {
            ends = end_means ours (eqb message.kind data_kind) (eqb message.kind disconnect_kind) is;
            state = ap (λ (r : CallRun). r.state) next;
            printed = ap (λ (r : CallRun). r.printed) next;
          })
      go Connect is = absurd (let f = fits_at Up Connect is in cc)
      go Talk is = absurd (let f = fits_at Up Talk is in cc)
      go Refuse is = absurd (let f = fits_at Up Refuse is in cc)

-- ---- all messages

-- from the connection to its end
pub record EndsAfter (plan : CallPlan) (messages : List AgwMessage) (before after : List ℕ) : Type 0 where
  pub middle : List AgwMessage
  pub ended : AgwMessage
  pub rest : List AgwMessage
  pub order : messages ≡ middle ++ ended ∷ rest
  pub stays : All (λ message. is_of disconnect_kind plan message ≡ false) middle
  pub ends : is_of disconnect_kind plan ended ≡ true
  pub data_between : after ≡ before ++ flat_map (data_of plan) middle

up_prints : (plan : CallPlan) (messages : List AgwMessage) (run : CallRun) → run.state ≡ Up
    → (folded plan run messages).state ≡ Done
    → EndsAfter plan messages run.printed (folded plan run messages).printed
up_prints plan [] run up done = absurd (let h = sym up ∙ done in cc)
up_prints plan (message ∷ messages) run up done =
    go (up_message plan run message up)
    (λ still. up_prints plan messages (with_message plan run message) still done)
  where
    go : (SaysUp plan run message ⊎ EndsUp plan run message)
        → ((with_message plan run message).state ≡ Up → EndsAfter plan messages (with_message plan run message).printed
        (folded plan (with_message plan run message) messages).printed)
        → EndsAfter plan (message ∷ messages) run.printed (folded plan (with_message plan run message) messages).printed
    go (inl says) later =
        let more = later says.state in
        record {
          middle = message ∷ more.middle;
          ended = more.ended;
          rest = more.rest;
          order = ap (λ ms. message ∷ ms) more.order;
          stays = All-cons (λ m. is_of disconnect_kind plan m ≡ false) message more.middle says.stays more.stays;
          ends = more.ends;
          data_between = more.data_between ∙ ap (λ xs. xs ++ flat_map (data_of plan) more.middle) says.printed
              ∙ append_assoc run.printed (data_of plan message) (flat_map (data_of plan) more.middle);
        }
    go (inr ends) later = record {
      middle = [];
      ended = message;
      rest = messages;
      order = refl;
      stays = λ k d within. absurd (omega arith);
      ends = ends.ends;
      data_between = ap (λ (r : CallRun). r.printed) (over_folded plan (with_message plan run message) messages
          (ap is_over ends.state)) ∙ ends.printed ∙ sym (append-nil run.printed);
    }

-- one message more before the connection
later : (plan : CallPlan) (message : AgwMessage) (messages : List AgwMessage) (printed : List ℕ)
    → IsDoneCall plan messages printed → IsDoneCall plan (message ∷ messages) printed
later plan message messages printed call = record {
  front = message ∷ call.front;
  connected = call.connected;
  middle = call.middle;
  ended = call.ended;
  rest = call.rest;
  order = ap (λ ms. message ∷ ms) call.order;
  connects = call.connects;
  stays = call.stays;
  ends = call.ends;
  data_between = call.data_between;
}

-- before the connection
before_prints : (plan : CallPlan) (messages : List AgwMessage) (run : CallRun) → is_before_up run.state ≡ true
    → run.printed ≡ [] → (folded plan run messages).state ≡ Done
    → IsDoneCall plan messages (folded plan run messages).printed
before_prints plan [] run before none done = absurd (let h = ap is_before_up (sym done) ∙ before in cc)
before_prints plan (message ∷ messages) run before none done =
    go (step_of (call_field plan.own) (call_field plan.remote) run.state message) refl
    (λ still nothing. before_prints plan messages (with_message plan run message) still nothing done)
  where
    go : (step : Step) → step_of (call_field plan.own) (call_field plan.remote) run.state message ≡ step
        → (is_before_up (with_message plan run message).state ≡ true → (with_message plan run message).printed ≡ []
        → IsDoneCall plan messages (folded plan (with_message plan run message) messages).printed)
        → IsDoneCall plan (message ∷ messages) (folded plan (with_message plan run message) messages).printed
    go Ignore is more =
        let same = by_step plan run message run.state Ignore refl is in
        later plan message messages _
        (more (ap (λ (r : CallRun). is_before_up r.state) same ∙ before) (ap (λ (r : CallRun). r.printed) same ∙ none))
    go Connect is more =
        let same = by_step plan run message run.state Connect refl is in
        later plan message messages _
        (more (ap (λ (r : CallRun). is_before_up r.state) same) (ap (λ (r : CallRun). r.printed) same ∙ none))
    go Talk is more =
        let calling : run.state ≡ Calling = fits_at plan run message run.state Talk is in
        let same = by_step plan run message run.state Talk refl is in
        let opened : CallRun = moving Up (sending (text_octets plan.own plan.remote plan.text) run) in
        let gone = left plan opened in
        let up = ap (λ (r : CallRun). r.state) same ∙ gone.state in
        let call = up_prints plan messages (with_message plan run message) up done in
        record {
          front = [];
          connected = message;
          middle = call.middle;
          ended = call.ended;
          rest = call.rest;
          order = ap (λ ms. message ∷ ms) call.order;
          connects = talk_means (is_of_call (call_field plan.own) (call_field plan.remote) message)
              (eqb message.kind connect_kind) (eqb message.kind disconnect_kind)
              (ap (λ s. step_of (call_field plan.own) (call_field plan.remote) s message) (sym calling) ∙ is);
          stays = call.stays;
          ends = call.ends;
          data_between = call.data_between
              ∙ ap (λ xs. xs ++ flat_map (data_of plan) call.middle)
              (ap (λ (r : CallRun). r.printed) same ∙ gone.printed ∙ none);
        }
    go Print is more = absurd (let up = fits_at plan run message run.state Print is in
        let h = ap is_before_up (sym up) ∙ before in cc)
    go End is more = absurd (let up = fits_at plan run message run.state End is in
        let h = ap is_before_up (sym up) ∙ before in cc)
    go Refuse is more =
        let same = by_step plan run message run.state Refuse refl is in
        let refused : (with_message plan run message).state ≡ Refused = ap (λ (r : CallRun). r.state) same in
        let stays = over_folded plan (with_message plan run message) messages (ap is_over refused) in
        absurd (let h = sym refused ∙ ap (λ (r : CallRun). r.state) (sym stays) ∙ done in cc)

-- too long a length makes no call done, and prints nothing
by_bad : (bad : Option ℕ) (run : CallRun) → (with_bad_length bad run).state ≡ Done
    → (run.state ≡ Done) × ((with_bad_length bad run).printed ≡ run.printed)
by_bad None run done = (done, refl)
by_bad (Some len) run done = go (is_over run.state) done
  where
    go : (over : Bool) → (cond over run (moving (Broken len) run)).state ≡ Done
        → (run.state ≡ Done) × ((cond over run (moving (Broken len) run)).printed ≡ run.printed)
    go true done = (done, refl)
    go false done = absurd cc

pub done_prints : DonePrintsItsData
unfolding call_run
done_prints plan stream done =
    let run : CallRun = folded plan (begin plan) (messages_in stream) in
    let whole = by_bad (bad_length_in stream) run done in
    subst (λ printed. IsDoneCall plan (messages_in stream) printed) (sym whole.1)
    (before_prints plan (messages_in stream) (begin plan) refl refl whole.0)
