-- What a call that is done has printed, by the messages of its host.
use Rattle.std.specs.Prelude.{◌≡◌, ℕ, ◌==◌, ◌&&◌, if◌then◌else◌, Bool, true, false, List, [], ◌∷◌, ◌++◌, All}
use Rattle.std.specs.List.{flat_map}
use Rattle.agwpe_port.specs.CallField.{call_field}
use Rattle.agwpe_port.specs.Messages.{messages_in}
use Rattle.agwpe_port.specs.declared.message.AgwMessage.{AgwMessage}
use Rattle.agwpe_client.specs.declared.call_state.CallState.TheVariants.{Done}
use Rattle.agwpe_client.specs.CallMessages.{connect_kind, data_kind, disconnect_kind}
use Rattle.agwpe_client.specs.CallRun.{CallPlan, state_after, printed_after}
use Rattle.agwpe_client.specs.CallSteps.{is_of_call}

-- a message of this kind from the remote call to the own one
abbrev pub is_of : ℕ → CallPlan → AgwMessage → Bool
is_of kind plan message =
    is_of_call (call_field plan.own) (call_field plan.remote) message && message.kind == kind

-- the data of the call that a message has
abbrev pub data_of : CallPlan → AgwMessage → List ℕ
data_of plan message = if is_of data_kind plan message then message.body else []

-- The messages that made the call: one that connects it, one that ends it, with none between them, and the data of
-- those between them.
pub record IsDoneCall (plan : CallPlan) (messages : List AgwMessage) (printed : List ℕ) : Type 0 where
  pub front : List AgwMessage
  pub connected : AgwMessage
  pub middle : List AgwMessage
  pub ended : AgwMessage
  pub rest : List AgwMessage
  pub order : messages ≡ front ++ connected ∷ (middle ++ ended ∷ rest)
  pub connects : is_of connect_kind plan connected ≡ true
  pub stays : All (λ message. is_of disconnect_kind plan message ≡ false) middle
  pub ends : is_of disconnect_kind plan ended ≡ true
  pub data_between : printed ≡ flat_map (data_of plan) middle

abbrev pub DonePrintsItsData : Type 0
DonePrintsItsData = (plan : CallPlan) (stream : List ℕ) → state_after plan stream ≡ Done
    → IsDoneCall plan (messages_in stream) (printed_after plan stream)
