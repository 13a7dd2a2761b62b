-- What one octet makes of what is kept and of the call.
use Rattle.agwpe_client.proofs.Common.{◌≡◌, ◌≢◌, ℕ, cond, true, false, List, [], ◌∷◌, ◌++◌, refl, ap, subst, ◌∙◌, sym}
use Rattle.agwpe_client.proofs.Common.{append-nil, Some, None, Result, Ok, Err, MatchResult, AgwMessage, call_field}
use Rattle.agwpe_client.proofs.Common.{messages_in, bad_length_in, Held, CallState, Refused, Broken, ClientOut}
use Rattle.agwpe_client.proofs.Common.{ClientFault, Over, Step, Ignore, Connect, Talk, Print, End, Refuse, step_of}
use Rattle.agwpe_client.proofs.Common.{CallPlan, CallRun, GoesOn, IsFault, call_run, is_over, moving, with_message}
use Rattle.agwpe_client.proofs.Common.{with_bad_length, state_after, sent_by, printed_by, stepped, HeldCall, IsAt}
use Rattle.agwpe_client.proofs.Common.{StandsFor, kept_after, given_by}
use Rattle.agwpe_port.specs.Held.{StandsFor as StandsForOctets}
use Rattle.agwpe_client.specs.declared.fault.ClientFault.TheVariants.{Broken as BrokenFault}
use Rattle.agwpe_client.specs.CallRun.{sent_after, printed_after}
use Rattle.agwpe_client.specs.HeldCall.{no_out}
use Rattle.agwpe_client.proofs.StepLemmas.{FitsState, step_fits, kept, sends, gives, fault_of_step}
use Rattle.agwpe_client.proofs.StreamLemmas.{over_stays, run_more}

-- the call takes an octet, and what is kept goes along
pub record Next (next : HeldCall) (plan : CallPlan) (stream : List ℕ) (octet : ℕ)
    (result : Result ClientOut ClientFault) : Type 0 where
  pub stands : StandsFor next plan (stream ++ octet ∷ [])
  pub sent : sent_after plan (stream ++ octet ∷ []) ≡ sent_after plan stream ++ sent_by result
  pub printed : printed_after plan (stream ++ octet ∷ []) ≡ printed_after plan stream ++ printed_by result
  pub fault : MatchResult result (λ _. GoesOn plan stream octet) (IsFault plan stream octet)

-- what is kept with another reader
abbrev pub with_reader : Held → HeldCall → HeldCall
with_reader reader held = record held { reader = reader }

at_with_reader : (reader : Held) (held : HeldCall) (plan : CallPlan) (run : CallRun) → IsAt held plan run
    → IsAt (with_reader reader held) plan run
at_with_reader reader held plan run at = record {
  own = at.own;
  remote = at.remote;
  state = at.state;
  connect = at.connect;
  opening = at.opening;
  printed = at.printed;
  not_leaving = at.not_leaving;
  wanted = at.wanted;
  farewell = at.farewell;
  leaving = at.leaving;
}

-- too long a length was told
at_broken : (len : ℕ) (reader : Held) (held : HeldCall) (plan : CallPlan) (run : CallRun) → IsAt held plan run
    → IsAt (record (with_reader reader held) { state = Broken len }) plan (moving (Broken len) run)
at_broken len reader held plan run at = record {
  own = at.own;
  remote = at.remote;
  state = refl;
  connect = λ e. absurd cc;
  opening = λ e. absurd cc;
  printed = λ e. absurd cc;
  not_leaving = λ e. absurd cc;
  wanted = at.wanted;
  farewell = at.farewell;
  leaving = λ e. absurd cc;
}

-- a state that is not over is none of those that are
going_not : (state : CallState) → is_over state ≡ false → (state ≢ Refused) × ((len : ℕ) → state ≢ Broken len)
going_not state going = (
  λ e. let h = ap is_over (sym e) ∙ going in cc,
  λ len e. let h = ap is_over (sym e) ∙ going in cc,
)

module _ (held : HeldCall) (plan : CallPlan) (stream : List ℕ) (octet : ℕ) (stands : StandsFor held plan stream) where
  abbrev longer : List ℕ
  longer = stream ++ octet ∷ []

  abbrev now : CallRun
  now = call_run plan stream

  -- a call that is over
  pub next_over : is_over held.state ≡ true → Next held plan stream octet (Err Over)
  next_over is_true =
      let over : is_over (state_after plan stream) ≡ true = ap is_over (sym stands.at.state) ∙ is_true in
      let same : call_run plan longer ≡ now = over_stays plan stream (octet ∷ []) over in
      record {
        stands = record {
          at = subst (λ run. IsAt held plan run) (sym same) stands.at;
          reads = λ going. absurd (let h = sym over ∙ ap (λ (c : CallRun). is_over c.state) (sym same) ∙ going in cc);
        };
        sent = ap (λ (c : CallRun). c.sent) same ∙ sym (append-nil now.sent);
        printed = ap (λ (c : CallRun). c.printed) same ∙ sym (append-nil now.printed);
        fault = over;
      }

  module _ (going : is_over held.state ≡ false) (reader : Held) (reads : StandsForOctets reader longer) where
    still : is_over (state_after plan stream) ≡ false
    still = ap is_over (sym stands.at.state) ∙ going

    -- no message ends
    pub next_none : messages_in longer ≡ messages_in stream ++ [] → bad_length_in longer ≡ None
        → Next (with_reader reader held) plan stream octet (Ok no_out)
    next_none none good =
        let same : call_run plan longer ≡ now = run_more plan stream (octet ∷ []) [] still none
        ∙ ap (λ b. with_bad_length b now) good in
        record {
          stands = record {
            at = subst (λ run. IsAt (with_reader reader held) plan run) (sym same)
                (at_with_reader reader held plan now stands.at);
            reads = λ _. reads;
          };
          sent = ap (λ (c : CallRun). c.sent) same ∙ sym (append-nil now.sent);
          printed = ap (λ (c : CallRun). c.printed) same ∙ sym (append-nil now.printed);
          fault = record {
            going = still;
            not_refused = λ e. (going_not now.state still).0 (ap (λ (c : CallRun). c.state) (sym same) ∙ e);
            not_broken = λ len e. (going_not now.state still).1 len (ap (λ (c : CallRun). c.state) (sym same) ∙ e);
          };
        }

    -- too long a length
    pub next_bad : (len : ℕ) → messages_in longer ≡ messages_in stream ++ [] → bad_length_in longer ≡ Some len
        → Next (record (with_reader reader held) { state = Broken len }) plan stream octet (Err (BrokenFault len))
    next_bad len none bad =
        let same : call_run plan longer ≡ moving (Broken len) now = run_more plan stream (octet ∷ []) [] still none
        ∙ ap (λ b. with_bad_length b now) bad ∙ ap (λ b. cond b now (moving (Broken len) now)) still in
        record {
          stands = record {
            at = subst (λ run. IsAt (record (with_reader reader held) { state = Broken len }) plan run) (sym same)
                (at_broken len reader held plan now stands.at);
            reads = λ _. reads;
          };
          sent = ap (λ (c : CallRun). c.sent) same ∙ sym (append-nil now.sent);
          printed = ap (λ (c : CallRun). c.printed) same ∙ sym (append-nil now.printed);
          fault = (still, ap (λ (c : CallRun). c.state) same);
        }

    -- a message ends
    pub next_message : (message : AgwMessage) → messages_in longer ≡ messages_in stream ++ message ∷ []
        → bad_length_in longer ≡ None
        → let step = step_of held.own held.remote held.state message in
        Next (kept_after step message.body (with_reader reader held)) plan stream octet
        (given_by step message.body (with_reader reader held))
    next_message message one good =
        let step : Step = step_of held.own held.remote held.state message in
        let at : IsAt (with_reader reader held) plan now = at_with_reader reader held plan now stands.at in
        let fits : FitsState step now.state = subst (λ state. FitsState step state) stands.at.state
        (step_fits held.own held.remote held.state message) in
        let is : step ≡ step_of (call_field plan.own) (call_field plan.remote) now.state message =
        ap (λ own. step_of own held.remote held.state message) stands.at.own
        ∙ ap (λ remote. step_of (call_field plan.own) remote held.state message) stands.at.remote
        ∙ ap (λ state. step_of (call_field plan.own) (call_field plan.remote) state message) stands.at.state in
        let same : call_run plan longer ≡ stepped plan message.body step now =
        run_more plan stream (octet ∷ []) (message ∷ []) still one
        ∙ ap (λ b. with_bad_length b (with_message plan now message)) good
        ∙ ap (λ s. stepped plan message.body s now) (sym is) in
        record {
          stands = record {
            at = subst (λ run. IsAt (kept_after step message.body (with_reader reader held)) plan run) (sym same)
                (kept (with_reader reader held) plan now at step message.body fits);
            reads = λ _. subst (λ r. StandsForOctets r longer)
                (same_reader step message.body (with_reader reader held)) reads;
          };
          sent = ap (λ (c : CallRun). c.sent) same ∙ sends (with_reader reader held) plan now at step message.body fits;
          printed = ap (λ (c : CallRun). c.printed) same
              ∙ gives (with_reader reader held) plan now at step message.body fits;
          fault = fault_of_step plan stream octet step message.body (with_reader reader held) fits still same;
        }
      where
        same_reader : (step : Step) (body : List ℕ) (h : HeldCall) → h.reader ≡ (kept_after step body h).reader
        same_reader Ignore body h = refl
        same_reader Connect body h = refl
        same_reader Talk body h = refl
        same_reader Print body h = refl
        same_reader End body h = refl
        same_reader Refuse body h = refl
