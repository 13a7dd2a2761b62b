-- What a step does to what is kept is what it does to the call.
use Rattle.agwpe_client.proofs.Common.{◌≡◌, ◌≢◌, ℕ, ◌-◌, eqb, cond, Bool, true, false, List, [], ◌∷◌, ◌++◌, length}
use Rattle.agwpe_client.proofs.Common.{refl, ap, subst, ◌∙◌, sym, arith, append_assoc, append-nil, length-append, Some}
use Rattle.agwpe_client.proofs.Common.{None, eqb-true, AgwMessage, CallState, Asking, Calling, Up, Done, Refused}
use Rattle.agwpe_client.proofs.Common.{Broken, Step, Ignore, Connect, Talk, Print, End, Refuse, connect_kind, data_kind}
use Rattle.agwpe_client.proofs.Common.{disconnect_kind, text_octets, step_of, is_of_call, CallPlan, CallRun, stepped}
use Rattle.agwpe_client.proofs.Common.{moving, sending, printing, leaving_if_enough, sent_by, printed_by, is_over}
use Rattle.agwpe_client.proofs.Common.{call_run, state_after, GoesOn, IsFault, MatchResult, HeldCall, IsAt}
use Rattle.agwpe_client.proofs.Common.{is_before_up, kept_after, given_by}
use Rattle.std.proofs.Common.{leb, unwrap_or}
use Rattle.std.specs.Str.{bytes_eq}
use Rattle.std.proofs.lemmas.Bool.{eq-eqb}
use Rattle.std.proofs.lemmas.Bool.Decides.{nat_tests}
use Rattle.agwpe_client.specs.CallSteps.{is_reply}
use Rattle.agwpe_client.specs.CallRun.{disconnecting}
use Rattle.agwpe_client.specs.HeldCall.{disconnect_octets}

-- the states in which a step is made
abbrev pub FitsState : Step → CallState → Type 0
FitsState Ignore state = Unit {0}
FitsState Connect state = state ≡ Asking
FitsState Talk state = state ≡ Calling
FitsState Print state = state ≡ Up
FitsState End state = state ≡ Up
FitsState Refuse state = is_before_up state ≡ true

pub step_fits : (own remote : List ℕ) (state : CallState) (message : AgwMessage)
    → FitsState (step_of own remote state message) state
step_fits own remote Asking message = asking (is_reply own message) (bytes_eq message.body (1 ∷ []))
  where
    asking : (reply accepted : Bool) → FitsState (cond reply (cond accepted Connect Refuse) Ignore) Asking
    asking true true = refl
    asking true false = refl
    asking false accepted = tt
step_fits own remote Calling message = calling (is_of_call own remote message) (eqb message.kind connect_kind)
    (eqb message.kind disconnect_kind)
  where
    calling : (ours connected ended : Bool)
        → FitsState (cond ours (cond connected Talk (cond ended Refuse Ignore)) Ignore) Calling
    calling true true ended = refl
    calling true false true = refl
    calling true false false = tt
    calling false connected ended = tt
step_fits own remote Up message = up (is_of_call own remote message) (eqb message.kind data_kind)
    (eqb message.kind disconnect_kind)
  where
    up : (ours data' ended : Bool) → FitsState (cond ours (cond data' Print (cond ended End Ignore)) Ignore) Up
    up true true ended = refl
    up true false true = refl
    up true false false = tt
    up false data' ended = tt
step_fits own remote Done message = tt
step_fits own remote Refused message = tt
step_fits own remote (Broken len) message = tt

-- ---- d, as soon as enough is printed

-- enough is printed when nothing more is wanted
enough_is : (a b : ℕ) → leb a b ≡ eqb (a - b) 0
enough_is a b = grind (arith, nat_tests)

-- what d does to a call
pub record Left (plan : CallPlan) (before after : CallRun) (left_before enough : Bool) : Type 0 where
  pub state : after.state ≡ before.state
  pub printed : after.printed ≡ before.printed
  pub leaving : after.leaving ≡ cond left_before true enough
  pub sent : after.sent ≡ before.sent ++ cond left_before [] (cond enough (disconnect_octets plan.own plan.remote) [])

left_by : (plan : CallPlan) (run : CallRun) (leaving enough : Bool) → run.leaving ≡ leaving
    → Left plan run (cond leaving run (cond enough (disconnecting plan run) run)) leaving enough
left_by plan run true enough is =
    record { state = refl; printed = refl; leaving = is; sent = sym (append-nil run.sent) }
left_by plan run false true is = record { state = refl; printed = refl; leaving = refl; sent = refl }
left_by plan run false false is =
    record { state = refl; printed = refl; leaving = is; sent = sym (append-nil run.sent) }

pub left : (plan : CallPlan) (run : CallRun)
    → Left plan run (leaving_if_enough plan run) run.leaving (leb plan.expect (length run.printed))
left plan run = left_by plan run run.leaving (leb plan.expect (length run.printed)) refl

-- with the tests known
left_if : (plan : CallPlan) (run : CallRun) (leaving enough : Bool) → run.leaving ≡ leaving
    → leb plan.expect (length run.printed) ≡ enough → Left plan run (leaving_if_enough plan run) leaving enough
left_if plan run leaving enough first second =
    let P : Bool → Type 0 = λ b. Left plan run (leaving_if_enough plan run) b (leb plan.expect (length run.printed)) in
    let Q : Bool → Type 0 = λ b. Left plan run (leaving_if_enough plan run) leaving b in
    subst Q second (subst P first (left plan run))

-- once nothing is wanted, nothing will be
none_stays : (wanted count : ℕ) → eqb wanted 0 ≡ true → eqb (wanted - count) 0 ≡ true
none_stays wanted count none =
    eq-eqb (wanted - count) 0 (let h : wanted ≡ 0 = eqb-true wanted 0 none in omega arith)

or_later : (b c : Bool) → (b ≡ true → c ≡ true) → cond b true c ≡ c
or_later true c goes_on = sym (goes_on refl)
or_later false c goes_on = refl

farewell_later : {A : Type 0} (b c : Bool) (d : A) → (b ≡ true → c ≡ true)
    → cond c None (cond b None (Some d)) ≡ cond c None (Some d)
farewell_later b true d goes_on = refl
farewell_later true false d goes_on = absurd (let h : false ≡ true = goes_on refl in cc)
farewell_later false false d goes_on = refl

sent_later : (b c : Bool) (d : List ℕ) → (b ≡ true → c ≡ true)
    → cond b [] (cond c d []) ≡ cond c (unwrap_or (cond b None (Some d)) []) []
sent_later true true d goes_on = refl
sent_later true false d goes_on = refl
sent_later false true d goes_on = refl
sent_later false false d goes_on = refl

-- ---- what is kept

module _ (held : HeldCall) (plan : CallPlan) (run : CallRun) (at : IsAt held plan run) where
  d : List ℕ
  d = disconnect_octets plan.own plan.remote

  not_yet : (state : CallState) → run.state ≡ state → is_before_up state ≡ true → is_before_up run.state ≡ true
  not_yet state is before = ap is_before_up is ∙ before

  -- the text is sent
  talks : run.state ≡ Calling
      → Left plan (moving Up (sending (text_octets plan.own plan.remote plan.text) run))
      (leaving_if_enough plan (moving Up (sending (text_octets plan.own plan.remote plan.text) run))) false
      (eqb held.wanted 0)
  talks is =
      let next : CallRun = moving Up (sending (text_octets plan.own plan.remote plan.text) run) in
      left_if plan next false (eqb held.wanted 0) (at.not_leaving (not_yet Calling is refl))
      (enough_is plan.expect (length run.printed) ∙ ap (λ n. eqb n 0) (sym at.wanted))

  -- data are printed
  less_wanted : (body : List ℕ) → held.wanted - length body ≡ plan.expect - length (run.printed ++ body)
  less_wanted body = omega (arith, at.wanted, length-append run.printed body)

  prints : (body : List ℕ) → run.state ≡ Up
      → Left plan (printing body run) (leaving_if_enough plan (printing body run)) (eqb held.wanted 0)
      (eqb (held.wanted - length body) 0)
  prints body is = left_if plan (printing body run) (eqb held.wanted 0) (eqb (held.wanted - length body) 0)
      (at.leaving is)
      (enough_is plan.expect (length (run.printed ++ body)) ∙ ap (λ n. eqb n 0) (sym (less_wanted body)))

  pub kept : (step : Step) (body : List ℕ) → FitsState step run.state
      → IsAt (kept_after step body held) plan (stepped plan body step run)
  kept Ignore body fits = at
  kept Connect body fits = record {
    own = at.own;
    remote = at.remote;
    state = refl;
    connect = λ e. absurd cc;
    opening = λ e. at.opening (not_yet Asking fits refl);
    printed = λ e. at.printed (not_yet Asking fits refl);
    not_leaving = λ e. at.not_leaving (not_yet Asking fits refl);
    wanted = at.wanted;
    farewell = at.farewell;
    leaving = λ e. absurd cc;
  }
  kept Talk body fits =
      let next = talks fits in
      record {
        own = at.own;
        remote = at.remote;
        state = sym next.state;
        connect = λ e. absurd (let h = sym next.state ∙ e in cc);
        opening = λ e. absurd (let h = ap is_before_up (sym next.state) ∙ e in cc);
        printed = λ e. absurd (let h = ap is_before_up (sym next.state) ∙ e in cc);
        not_leaving = λ e. absurd (let h = ap is_before_up (sym next.state) ∙ e in cc);
        wanted = at.wanted ∙ ap (λ xs. plan.expect - length xs) (sym next.printed);
        farewell = at.farewell;
        leaving = λ e. next.leaving;
      }
  kept Print body fits =
      let next = prints body fits in
      let up : (leaving_if_enough plan (printing body run)).state ≡ Up = next.state ∙ fits in
      let later = none_stays held.wanted (length body) in
      record {
        own = at.own;
        remote = at.remote;
        state = at.state ∙ sym next.state;
        connect = λ e. absurd (let h = sym up ∙ e in cc);
        opening = λ e. absurd (let h = ap is_before_up (sym up) ∙ e in cc);
        printed = λ e. absurd (let h = ap is_before_up (sym up) ∙ e in cc);
        not_leaving = λ e. absurd (let h = ap is_before_up (sym up) ∙ e in cc);
        wanted = less_wanted body ∙ ap (λ xs. plan.expect - length xs) (sym next.printed);
        farewell = ap (λ f. cond (eqb (held.wanted - length body) 0) None f) at.farewell
            ∙ farewell_later (eqb held.wanted 0) (eqb (held.wanted - length body) 0)
            (disconnect_octets plan.own plan.remote) later;
        leaving = λ e. next.leaving ∙ or_later (eqb held.wanted 0) (eqb (held.wanted - length body) 0) later;
      }
  kept End body fits = record {
    own = at.own;
    remote = at.remote;
    state = refl;
    connect = λ e. absurd cc;
    opening = λ e. absurd cc;
    printed = λ e. absurd cc;
    not_leaving = λ e. absurd cc;
    wanted = at.wanted;
    farewell = at.farewell;
    leaving = λ e. absurd cc;
  }
  kept Refuse body fits = record {
    own = at.own;
    remote = at.remote;
    state = refl;
    connect = λ e. absurd cc;
    opening = λ e. absurd cc;
    printed = λ e. absurd cc;
    not_leaving = λ e. absurd cc;
    wanted = at.wanted;
    farewell = at.farewell;
    leaving = λ e. absurd cc;
  }

  -- ---- what is given

  pub sends : (step : Step) (body : List ℕ) → FitsState step run.state
      → (stepped plan body step run).sent ≡ run.sent ++ sent_by (given_by step body held)
  sends Ignore body fits = sym (append-nil run.sent)
  sends Connect body fits = ap (λ o. run.sent ++ unwrap_or o []) (sym (at.connect fits))
  sends Talk body fits =
      (talks fits).sent
      ∙ append_assoc run.sent (text_octets plan.own plan.remote plan.text) (cond (eqb held.wanted 0) d' [])
      ∙ ap (λ xs. run.sent ++ xs) (opens (eqb held.wanted 0) (eqb plan.expect 0) (ap (λ n. eqb n 0) all_wanted)
      ∙ ap (λ o. unwrap_or o []) (sym (at.opening (not_yet Calling fits refl))))
    where
      d' : List ℕ
      d' = disconnect_octets plan.own plan.remote

      all_wanted : held.wanted ≡ plan.expect
      all_wanted = at.wanted ∙ ap (λ xs. plan.expect - length xs) (at.printed (not_yet Calling fits refl))
          ∙ omega arith

      opens : (b c : Bool) → b ≡ c
          → text_octets plan.own plan.remote plan.text ++ cond b (disconnect_octets plan.own plan.remote) []
          ≡ cond c (text_octets plan.own plan.remote plan.text ++ disconnect_octets plan.own plan.remote)
          (text_octets plan.own plan.remote plan.text)
      opens true true e = refl
      opens true false e = absurd cc
      opens false true e = absurd cc
      opens false false e = append-nil (text_octets plan.own plan.remote plan.text)
  sends Print body fits =
      (prints body fits).sent
      ∙ ap (λ xs. run.sent ++ xs) (sent_later (eqb held.wanted 0) (eqb (held.wanted - length body) 0)
      (disconnect_octets plan.own plan.remote) (none_stays held.wanted (length body))
      ∙ ap (λ f. cond (eqb (held.wanted - length body) 0) (unwrap_or f []) []) (sym at.farewell))
  sends End body fits = sym (append-nil run.sent)
  sends Refuse body fits = sym (append-nil run.sent)

  pub gives : (step : Step) (body : List ℕ) → FitsState step run.state
      → (stepped plan body step run).printed ≡ run.printed ++ printed_by (given_by step body held)
  gives Ignore body fits = sym (append-nil run.printed)
  gives Connect body fits = sym (append-nil run.printed)
  gives Talk body fits = (talks fits).printed ∙ sym (append-nil run.printed)
  gives Print body fits = (prints body fits).printed
  gives End body fits = sym (append-nil run.printed)
  gives Refuse body fits = sym (append-nil run.printed)

-- ---- the fault of a step

-- the state after a step that refuses nothing
state_of_step : (plan : CallPlan) (body : List ℕ) (step : Step) (run : CallRun) → FitsState step run.state
    → is_over run.state ≡ false → step ≢ Refuse
    → ((stepped plan body step run).state ≢ Refused)
    × ((len : ℕ) → (stepped plan body step run).state ≢ Broken len)
state_of_step plan body Ignore run fits going other = (
  λ e. let h = ap is_over (sym e) ∙ going in cc,
  λ len e. let h = ap is_over (sym e) ∙ going in cc,
)
state_of_step plan body Connect run fits going other = (λ e. cc, λ len e. cc)
state_of_step plan body Talk run fits going other =
    let next = left plan (moving Up (sending (text_octets plan.own plan.remote plan.text) run)) in
    (λ e. let h = sym next.state ∙ e in cc, λ len e. let h = sym next.state ∙ e in cc)
state_of_step plan body Print run fits going other =
    let next = left plan (printing body run) in
    (λ e. let h = sym fits ∙ sym next.state ∙ e in cc, λ len e. let h = sym fits ∙ sym next.state ∙ e in cc)
state_of_step plan body End run fits going other = (λ e. cc, λ len e. cc)
state_of_step plan body Refuse run fits going other = absurd (other refl)

pub fault_of_step : (plan : CallPlan) (stream : List ℕ) (octet : ℕ) (step : Step) (body : List ℕ) (held : HeldCall)
    → FitsState step (state_after plan stream) → is_over (state_after plan stream) ≡ false
    → call_run plan (stream ++ octet ∷ []) ≡ stepped plan body step (call_run plan stream)
    → MatchResult (given_by step body held) (λ _. GoesOn plan stream octet) (IsFault plan stream octet)
fault_of_step plan stream octet step body held fits going same = by_step step fits same
  where
    on : (step : Step) → FitsState step (state_after plan stream) → step ≢ Refuse
        → call_run plan (stream ++ octet ∷ []) ≡ stepped plan body step (call_run plan stream)
        → GoesOn plan stream octet
    on step fits other same =
        let after = state_of_step plan body step (call_run plan stream) fits going other in
        record {
          going = going;
          not_refused = λ e. after.0 (ap (λ (c : CallRun). c.state) (sym same) ∙ e);
          not_broken = λ len e. after.1 len (ap (λ (c : CallRun). c.state) (sym same) ∙ e);
        }

    by_step : (step : Step) → FitsState step (state_after plan stream)
        → call_run plan (stream ++ octet ∷ []) ≡ stepped plan body step (call_run plan stream)
        → MatchResult (given_by step body held) (λ _. GoesOn plan stream octet) (IsFault plan stream octet)
    by_step Ignore fits same = on Ignore fits (λ e. cc) same
    by_step Connect fits same = on Connect fits (λ e. cc) same
    by_step Talk fits same = on Talk fits (λ e. cc) same
    by_step Print fits same = on Print fits (λ e. cc) same
    by_step End fits same = on End fits (λ e. cc) same
    by_step Refuse fits same = (going, ap (λ (c : CallRun). c.state) same)
