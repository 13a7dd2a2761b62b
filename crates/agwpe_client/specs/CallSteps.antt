-- What a message of the host makes of a call, by how far the call has come. Call fields are compared as their ten
-- octets.
use Rattle.std.specs.Prelude.{ℕ, ◌==◌, Bool, ◌&&◌, if◌then◌else◌, List, [], ◌∷◌}
use Rattle.std.specs.Str.{bytes_eq}
use Rattle.agwpe_port.specs.declared.message.AgwMessage.{AgwMessage}
use Rattle.agwpe_client.specs.declared.call_state.CallState.{CallState}
use Rattle.agwpe_client.specs.declared.call_state.CallState.TheVariants.{Asking, Calling, Up, Done, Refused, Broken}
use Rattle.agwpe_client.specs.declared.step.Step.{Step}
use Rattle.agwpe_client.specs.declared.step.Step.TheVariants.{Ignore, Connect, Talk, Print, End, Refuse}
use Rattle.agwpe_client.specs.CallMessages.{register_kind, connect_kind, data_kind, disconnect_kind}

-- an answer to the registration of the own call
abbrev pub is_reply : List ℕ → AgwMessage → Bool
is_reply own message = message.kind == register_kind && bytes_eq message.from own

-- a message of the remote station to the own one
abbrev pub is_of_call : List ℕ → List ℕ → AgwMessage → Bool
is_of_call own remote message = bytes_eq message.from remote && bytes_eq message.to own

abbrev pub asking_step : List ℕ → AgwMessage → Step
asking_step own message =
    if is_reply own message then (if bytes_eq message.body (1 ∷ []) then Connect else Refuse) else Ignore

abbrev pub calling_step : List ℕ → List ℕ → AgwMessage → Step
calling_step own remote message =
    if is_of_call own remote message then
    (if message.kind == connect_kind then Talk else if message.kind == disconnect_kind then Refuse else Ignore)
    else Ignore

abbrev pub up_step : List ℕ → List ℕ → AgwMessage → Step
up_step own remote message =
    if is_of_call own remote message then
    (if message.kind == data_kind then Print else if message.kind == disconnect_kind then End else Ignore)
    else Ignore

-- the fields of the own and the remote call, how far the call has come, and the message
abbrev pub step_of : List ℕ → List ℕ → CallState → AgwMessage → Step
step_of own remote Asking message = asking_step own message
step_of own remote Calling message = calling_step own remote message
step_of own remote Up message = up_step own remote message
step_of own remote Done message = Ignore
step_of own remote Refused message = Ignore
step_of own remote (Broken len) message = Ignore
