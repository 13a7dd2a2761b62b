-- What was sent and printed stays so, whatever comes.
use Rattle.agwpe_client.proofs.Common.{◌≡◌, ℕ, cond, Bool, true, false, List, [], ◌∷◌, ◌++◌, refl, ap, ◌∙◌, sym}
use Rattle.agwpe_client.proofs.Common.{append_assoc, append-nil, Option, Some, None, fold-append, AgwMessage}
use Rattle.agwpe_client.proofs.Common.{call_field, spelling, messages_in, bad_length_in, Up, Broken, Step, Ignore}
use Rattle.agwpe_client.proofs.Common.{Connect, Talk, Print, End, Refuse, connect_message, text_octets, step_of}
use Rattle.agwpe_client.proofs.Common.{CallPlan, CallRun, begin, moving, sending, printing, stepped, with_message}
use Rattle.agwpe_client.proofs.Common.{leaving_if_enough, is_over, with_bad_length, call_run}
use Rattle.agwpe_client.proofs.StepLemmas.{left}
use Rattle.agwpe_client.proofs.StreamLemmas.{folded, messages_more}

-- more is sent and printed
pub record Grows (before after : CallRun) : Type 0 where
  pub more_sent : List ℕ
  pub sent : after.sent ≡ before.sent ++ more_sent
  pub more_printed : List ℕ
  pub printed : after.printed ≡ before.printed ++ more_printed

grows_not : (before after : CallRun) → after.sent ≡ before.sent → after.printed ≡ before.printed → Grows before after
grows_not before after sent printed = record {
  more_sent = [];
  sent = sent ∙ sym (append-nil before.sent);
  more_printed = [];
  printed = printed ∙ sym (append-nil before.printed);
}

grows_on : (first second third : CallRun) → Grows first second → Grows second third → Grows first third
grows_on first second third one two = record {
  more_sent = one.more_sent ++ two.more_sent;
  sent = two.sent ∙ ap (λ xs. xs ++ two.more_sent) one.sent ∙ append_assoc first.sent one.more_sent two.more_sent;
  more_printed = one.more_printed ++ two.more_printed;
  printed = two.printed ∙ ap (λ xs. xs ++ two.more_printed) one.printed
      ∙ append_assoc first.printed one.more_printed two.more_printed;
}

grows_left : (plan : CallPlan) (run : CallRun) → Grows run (leaving_if_enough plan run)
grows_left plan run =
    let next = left plan run in
    record {
      more_sent = _;
      sent = next.sent;
      more_printed = [];
      printed = next.printed ∙ sym (append-nil run.printed);
    }

grows_sending : (octets : List ℕ) (run next : CallRun) → next.sent ≡ run.sent ++ octets → next.printed ≡ run.printed
    → Grows run next
grows_sending octets run next sent printed =
    record { more_sent = octets; sent = sent; more_printed = []; printed = printed ∙ sym (append-nil run.printed) }

step_grows : (plan : CallPlan) (body : List ℕ) (step : Step) (run : CallRun) → Grows run (stepped plan body step run)
step_grows plan body Ignore run = grows_not run run refl refl
step_grows plan body Connect run =
    grows_sending (spelling (connect_message plan.own plan.remote plan.via)) run (stepped plan body Connect run)
    refl refl
step_grows plan body Talk run =
    let opened : CallRun = moving Up (sending (text_octets plan.own plan.remote plan.text) run) in
    grows_on run opened (leaving_if_enough plan opened)
    (grows_sending (text_octets plan.own plan.remote plan.text) run opened refl refl) (grows_left plan opened)
step_grows plan body Print run =
    let printed : CallRun = printing body run in
    grows_on run printed (leaving_if_enough plan printed)
    (record { more_sent = []; sent = sym (append-nil run.sent); more_printed = body; printed = refl })
    (grows_left plan printed)
step_grows plan body End run = grows_not run (stepped plan body End run) refl refl
step_grows plan body Refuse run = grows_not run (stepped plan body Refuse run) refl refl

fold_grows : (plan : CallPlan) (run : CallRun) (messages : List AgwMessage) → Grows run (folded plan run messages)
fold_grows plan run [] = grows_not run run refl refl
fold_grows plan run (message ∷ messages) =
    let next : CallRun = with_message plan run message in
    grows_on run next (folded plan next messages)
    (step_grows plan message.body (step_of (call_field plan.own) (call_field plan.remote) run.state message) run)
    (fold_grows plan next messages)

-- too long a length sends and prints nothing
bad_sent : (bad : Option ℕ) (run : CallRun) → (with_bad_length bad run).sent ≡ run.sent
bad_sent None run = refl
bad_sent (Some len) run = by_over (is_over run.state)
  where
    by_over : (over : Bool) → (cond over run (moving (Broken len) run)).sent ≡ run.sent
    by_over true = refl
    by_over false = refl

bad_printed : (bad : Option ℕ) (run : CallRun) → (with_bad_length bad run).printed ≡ run.printed
bad_printed None run = refl
bad_printed (Some len) run = by_over (is_over run.state)
  where
    by_over : (over : Bool) → (cond over run (moving (Broken len) run)).printed ≡ run.printed
    by_over true = refl
    by_over false = refl

pub run_grows : (plan : CallPlan) (stream more : List ℕ) → Grows (call_run plan stream) (call_run plan (stream ++ more))
unfolding call_run
run_grows plan stream more =
    let new = messages_more stream more in
    let run : CallRun = folded plan (begin plan) (messages_in stream) in
    let later : CallRun = folded plan run new.0 in
    let same : folded plan (begin plan) (messages_in (stream ++ more)) ≡ later =
    ap (folded plan (begin plan)) new.1
    ∙ fold-append (with_message plan) (begin plan) (messages_in stream) new.0 in
    let grows : Grows run later = fold_grows plan run new.0 in
    record {
      more_sent = grows.more_sent;
      sent = bad_sent (bad_length_in (stream ++ more)) (folded plan (begin plan) (messages_in (stream ++ more)))
          ∙ ap (λ (r : CallRun). r.sent) same ∙ grows.sent
          ∙ ap (λ xs. xs ++ grows.more_sent) (sym (bad_sent (bad_length_in stream) run));
      more_printed = grows.more_printed;
      printed = bad_printed (bad_length_in (stream ++ more)) (folded plan (begin plan) (messages_in (stream ++ more)))
          ∙ ap (λ (r : CallRun). r.printed) same ∙ grows.printed
          ∙ ap (λ xs. xs ++ grows.more_printed) (sym (bad_printed (bad_length_in stream) run));
    }
