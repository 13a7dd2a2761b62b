-- What a call prints, by the messages of its host, whether it is done or not.
use Rattle.std.specs.Prelude.{◌≡◌, ◌≢◌, ℕ, true, false, All, List, [], ◌∷◌, ◌++◌}
use Rattle.std.specs.List.{flat_map}
use Rattle.agwpe_port.specs.Messages.{messages_in}
use Rattle.agwpe_port.specs.declared.message.AgwMessage.{AgwMessage}
use Rattle.agwpe_client.specs.CallMessages.{connect_kind, disconnect_kind}
use Rattle.agwpe_client.specs.CallRun.{CallPlan, printed_after}
use Rattle.agwpe_client.specs.DoneCall.{is_of, data_of}

-- A message that connects the call, and after it messages none of which ends it, whose data was printed.
pub record PrintsBetween (plan : CallPlan) (messages : List AgwMessage) (printed : List ℕ) : Type 0 where
  pub front : List AgwMessage
  pub connected : AgwMessage
  pub middle : List AgwMessage
  pub rest : List AgwMessage
  pub order : messages ≡ front ++ connected ∷ (middle ++ rest)
  pub connects : is_of connect_kind plan connected ≡ true
  pub stays : All (λ message. is_of disconnect_kind plan message ≡ false) middle
  pub data_between : printed ≡ flat_map (data_of plan) middle

abbrev pub PrintsItsData : Type 0
PrintsItsData = (plan : CallPlan) (stream : List ℕ) → printed_after plan stream ≢ []
    → PrintsBetween plan (messages_in stream) (printed_after plan stream)
