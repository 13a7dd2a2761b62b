-- A whole call: what is sent to the host and what is printed, by all octets that came of the host.
use Rattle.std.specs.Prelude.{◌≡◌, ◌≢◌, ℕ, nat_le, if◌then◌else◌, Bool, true, false, List, [], ◌∷◌, ◌++◌, length, fold}
use Rattle.std.specs.Prelude.{Option, Some, None, Result, Ok, Err}
use Rattle.ax25_address.specs.Callsign.{Callsign}
use Rattle.agwpe_port.specs.declared.message.AgwMessage.{AgwMessage}
use Rattle.agwpe_port.specs.CallField.{call_field}
use Rattle.agwpe_port.specs.Messages.{spelling, messages_in, bad_length_in}
use Rattle.agwpe_client.specs.declared.call_state.CallState.{CallState}
use Rattle.agwpe_client.specs.declared.call_state.CallState.TheVariants.{Asking, Calling, Up, Done, Refused, Broken}
use Rattle.agwpe_client.specs.declared.client_out.ClientOut.{ClientOut}
use Rattle.agwpe_client.specs.declared.fault.ClientFault.{ClientFault}
use Rattle.agwpe_client.specs.declared.fault.ClientFault.TheVariants.{Over, Memory}
use Rattle.agwpe_client.specs.declared.fault.ClientFault.TheVariants.{Refused as RefusedFault, Broken as BrokenFault}
use Rattle.agwpe_client.specs.declared.step.Step.{Step}
use Rattle.agwpe_client.specs.declared.step.Step.TheVariants.{Ignore, Connect, Talk, Print, End, Refuse}
use Rattle.agwpe_client.specs.CallMessages.{register_message, connect_message, disconnect_message, text_octets}
use Rattle.agwpe_client.specs.CallSteps.{step_of}

-- who calls whom, by way of which repeaters, what is sent, and after how many printed octets the caller disconnects
pub record CallPlan : Type 0 where
  pub own : Callsign
  pub remote : Callsign
  pub via : List Callsign
  pub text : List ℕ
  pub expect : ℕ

abbrev pub call_plan : Callsign → Callsign → List Callsign → List ℕ → ℕ → CallPlan
call_plan own remote via text expect =
    record { own = own; remote = remote; via = via; text = text; expect = expect }

pub record CallRun : Type 0 where
  pub state : CallState
  -- all octets that were sent to the host, and all that were printed
  pub sent : List ℕ
  pub printed : List ℕ
  -- d was sent
  pub leaving : Bool

-- the registration is asked for
abbrev pub begin : CallPlan → CallRun
begin plan = record { state = Asking; sent = spelling (register_message plan.own); printed = []; leaving = false }

abbrev pub moving : CallState → CallRun → CallRun
moving state run = record run { state = state }

abbrev pub sending : List ℕ → CallRun → CallRun
sending octets run = record run { sent = run.sent ++ octets }

abbrev pub printing : List ℕ → CallRun → CallRun
printing octets run = record run { printed = run.printed ++ octets }

abbrev pub disconnecting : CallPlan → CallRun → CallRun
disconnecting plan run = record (sending (spelling (disconnect_message plan.own plan.remote)) run) { leaving = true }

-- d is sent once, as soon as enough is printed
abbrev pub leaving_if_enough : CallPlan → CallRun → CallRun
leaving_if_enough plan run =
    if run.leaving then run else if nat_le plan.expect (length run.printed) then disconnecting plan run else run

-- what a message with this body does to the call
abbrev pub stepped : CallPlan → List ℕ → Step → CallRun → CallRun
stepped plan body Ignore run = run
stepped plan body Connect run =
    moving Calling (sending (spelling (connect_message plan.own plan.remote plan.via)) run)
stepped plan body Talk run =
    leaving_if_enough plan (moving Up (sending (text_octets plan.own plan.remote plan.text) run))
stepped plan body Print run = leaving_if_enough plan (printing body run)
stepped plan body End run = moving Done run
stepped plan body Refuse run = moving Refused run

abbrev pub with_message : CallPlan → CallRun → AgwMessage → CallRun
with_message plan run message =
    stepped plan message.body (step_of (call_field plan.own) (call_field plan.remote) run.state message) run

abbrev pub is_over : CallState → Bool
is_over Asking = false
is_over Calling = false
is_over Up = false
is_over Done = true
is_over Refused = true
is_over (Broken len) = true

-- too long a length ends a call that is not over
abbrev pub with_bad_length : Option ℕ → CallRun → CallRun
with_bad_length None run = run
with_bad_length (Some len) run = if is_over run.state then run else moving (Broken len) run

-- the call after all octets that came of the host
unfoldable pub call_run : CallPlan → List ℕ → CallRun
call_run plan stream =
    with_bad_length (bad_length_in stream) (fold (with_message plan) (begin plan) (messages_in stream))

abbrev pub state_after : CallPlan → List ℕ → CallState
state_after plan stream = (call_run plan stream).state

abbrev pub sent_after : CallPlan → List ℕ → List ℕ
sent_after plan stream = (call_run plan stream).sent

abbrev pub printed_after : CallPlan → List ℕ → List ℕ
printed_after plan stream = (call_run plan stream).printed

-- ---- one octet

-- what one octet sends and prints
abbrev pub sent_by : Result ClientOut ClientFault → List ℕ
sent_by (Ok out) = out.send
sent_by (Err fault) = []

abbrev pub printed_by : Result ClientOut ClientFault → List ℕ
printed_by (Ok out) = out.print
printed_by (Err fault) = []

-- the octet after a stream neither refuses nor breaks the call, which was not over
pub record GoesOn (plan : CallPlan) (stream : List ℕ) (octet : ℕ) : Type 0 where
  pub going : is_over (state_after plan stream) ≡ false
  pub not_refused : state_after plan (stream ++ octet ∷ []) ≢ Refused
  pub not_broken : (len : ℕ) → state_after plan (stream ++ octet ∷ []) ≢ Broken len

-- the fault that the octet after a stream meets
abbrev pub IsFault : CallPlan → List ℕ → ℕ → ClientFault → Type 0
IsFault plan stream octet RefusedFault =
    (is_over (state_after plan stream) ≡ false) × (state_after plan (stream ++ octet ∷ []) ≡ Refused)
IsFault plan stream octet (BrokenFault len) =
    (is_over (state_after plan stream) ≡ false) × (state_after plan (stream ++ octet ∷ []) ≡ Broken len)
IsFault plan stream octet Over = is_over (state_after plan stream) ≡ true
IsFault plan stream octet Memory = is_over (state_after plan stream) ≡ false
