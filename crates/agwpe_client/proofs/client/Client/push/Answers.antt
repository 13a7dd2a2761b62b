use Rattle.agwpe_client.proofs.Common.{◌≡◌, ◌≢◌, ℕ, false, List, ◌++◌, subst, sym, ap, ◌∙◌, Ok, Err, Option, Result}
use Rattle.agwpe_client.proofs.Common.{AgwMessage, messages_in, ClientOut, ClientFault, Over, CallPlan, is_over}
use Rattle.agwpe_client.proofs.Common.{state_after, step_of, HeldCall, StandsFor, kept_after}
use Rattle.std.specs.Option.{option_to_list}
use Rattle.agwpe_port.specs.Held.{StandsFor as StandsForOctets}
use Rattle.agwpe_port.specs.Messages.{IsFault as IsOctetsFault}
use Rattle.agwpe_port.specs.declared.fault.AgwFault.{AgwFault}
use Rattle.agwpe_port.specs.declared.fault.AgwFault.TheVariants.{BadLength, Memory as Wanted}
use Rattle.agwpe_client.specs.contracts.client.Client.{the_view}
use Rattle.agwpe_client.specs.declared.call_state.CallState.TheVariants.{Broken as StateBroken}
use Rattle.agwpe_client.proofs.StreamLemmas.{good_so_far}
use Rattle.agwpe_client.proofs.NextLemmas.{Next, with_reader, next_over, next_none, next_message, next_bad}
use Rattle.agwpe_client.proofs.client.Client.push.Goals as goal

-- ---- a call that is over

over : (c : goal.Then-is_over) (plan : CallPlan) (stream : List ℕ) → StandsFor c.args.self.now plan stream
    → Next c.args.self.now plan stream c.args.octet (Err Over)
over c plan stream stands =
    next_over c.args.self.now plan stream c.args.octet stands (sym c.is_over.ensures ∙ c.if-is_over.true)

pub returns-then-is_over-clause-stands_for : goal.returns-then-is_over-clause-stands_for
returns-then-is_over-clause-stands_for c = λ plan stream stands other. (over c plan stream stands).stands

pub returns-then-is_over-clause-sent : goal.returns-then-is_over-clause-sent
returns-then-is_over-clause-sent c = λ plan stream stands other. (over c plan stream stands).sent

pub returns-then-is_over-clause-printed : goal.returns-then-is_over-clause-printed
returns-then-is_over-clause-printed c = λ plan stream stands other. (over c plan stream stands).printed

-- ---- no message ends

none : (c : goal.In-Ok-None) (plan : CallPlan) (stream : List ℕ) → StandsFor c.args.self.now plan stream
    → Next (the_view (record c.self.inside { reader = c.push.new.self })) plan stream c.args.octet
    (Ok c.in_ok-empty.empty)
none c plan stream stands =
    let held : HeldCall = the_view c.self.inside in
    let stood : StandsFor held plan stream = subst (λ h. StandsFor h plan stream) (sym c.self.view_is) stands in
    let going : is_over held.state ≡ false = subst (λ (h : HeldCall). is_over h.state ≡ false) (sym c.self.view_is)
    (sym c.is_over.ensures ∙ c.if-is_over.false) in
    let read : StandsForOctets held.reader stream = stood.reads (ap is_over (sym stood.at.state) ∙ going) in
    subst (λ out. Next (the_view (record c.self.inside { reader = c.push.new.self })) plan stream c.args.octet (Ok out))
    (sym c.in_ok-empty.ensures)
    (next_none held plan stream c.args.octet stood going c.push.new.self
    (c.in-Ok-None.ensures.stands_for stream read (λ e. cc))
    (c.in-Ok-None.ensures.message stream read (λ e. cc)
    ∙ ap (λ message. messages_in stream ++ option_to_list message) c.in-Ok-None.field-0-is)
    (c.in-Ok-None.ensures.fault stream read))

pub returns-in-Ok-None-clause-stands_for : goal.returns-in-Ok-None-clause-stands_for
returns-in-Ok-None-clause-stands_for c = λ plan stream stands other. (none c plan stream stands).stands

pub returns-in-Ok-None-clause-sent : goal.returns-in-Ok-None-clause-sent
returns-in-Ok-None-clause-sent c = λ plan stream stands other. (none c plan stream stands).sent

pub returns-in-Ok-None-clause-printed : goal.returns-in-Ok-None-clause-printed
returns-in-Ok-None-clause-printed c = λ plan stream stands other. (none c plan stream stands).printed

pub returns-in-Ok-None-clause-fault : goal.returns-in-Ok-None-clause-fault
returns-in-Ok-None-clause-fault c = λ plan stream stands. (none c plan stream stands).fault

-- ---- a message ends

one : (c : goal.After-take) (plan : CallPlan) (stream : List ℕ) → StandsFor c.args.self.now plan stream
    → Next c.take.new.self plan stream c.args.octet c.take.result
one c plan stream stands =
    let held : HeldCall = the_view c.self.inside in
    let stood : StandsFor held plan stream = subst (λ h. StandsFor h plan stream) (sym c.self.view_is) stands in
    let going : is_over held.state ≡ false = subst (λ (h : HeldCall). is_over h.state ≡ false) (sym c.self.view_is)
    (sym c.is_over.ensures ∙ c.if-is_over.false) in
    let read : StandsForOctets held.reader stream = stood.reads (ap is_over (sym stood.at.state) ∙ going) in
    let message : AgwMessage = c.in-Ok-Some.message in
    let reading : HeldCall = with_reader c.push.new.self held in
    let next : HeldCall = kept_after (step_of held.own held.remote held.state message) message.body reading in
    let P : HeldCall → Type 0 = λ h. Next h plan stream c.args.octet c.take.result in
    let Q : Result ClientOut ClientFault → Type 0 = λ result. Next next plan stream c.args.octet result in
    subst P (sym c.take.ensures.kept)
    (subst Q (sym c.take.ensures.given)
    (next_message held plan stream c.args.octet stood going c.push.new.self
    (c.in-Ok-Some.ensures.stands_for stream read (λ e. cc)) c.in-Ok-Some.message
    (c.in-Ok-Some.ensures.message stream read (λ e. cc)
    ∙ ap (λ message. messages_in stream ++ option_to_list message) c.in-Ok-Some.field-0-is)
    (c.in-Ok-Some.ensures.fault stream read)))

pub returns-in-Ok-Some-clause-stands_for : goal.returns-in-Ok-Some-clause-stands_for
returns-in-Ok-Some-clause-stands_for c = λ plan stream stands other. (one c plan stream stands).stands

pub returns-in-Ok-Some-clause-sent : goal.returns-in-Ok-Some-clause-sent
returns-in-Ok-Some-clause-sent c = λ plan stream stands other. (one c plan stream stands).sent

pub returns-in-Ok-Some-clause-printed : goal.returns-in-Ok-Some-clause-printed
returns-in-Ok-Some-clause-printed c = λ plan stream stands other. (one c plan stream stands).printed

pub returns-in-Ok-Some-clause-fault : goal.returns-in-Ok-Some-clause-fault
returns-in-Ok-Some-clause-fault c = λ plan stream stands. (one c plan stream stands).fault

-- ---- too long a length

-- which is no want of memory
not_wanted : (fault : AgwFault) (len : ℕ) → fault ≡ BadLength len
    → ◌≢◌ {A = Result (Option AgwMessage) AgwFault} (Err fault) (Err Wanted)
not_wanted fault len is = λ e. cc

bad : (c : goal.After-drop-empty-in-Err-BadLength-2) (plan : CallPlan) (stream : List ℕ)
    → StandsFor c.args.self.now plan stream → Next c.give_up.new.self plan stream c.args.octet (Err c.give_up.result)
bad c plan stream stands =
    let held : HeldCall = the_view c.self.inside in
    let stood : StandsFor held plan stream = subst (λ h. StandsFor h plan stream) (sym c.self.view_is) stands in
    let going : is_over held.state ≡ false = subst (λ (h : HeldCall). is_over h.state ≡ false) (sym c.self.view_is)
    (sym c.is_over.ensures ∙ c.if-is_over.false) in
    let read : StandsForOctets held.reader stream = stood.reads (ap is_over (sym stood.at.state) ∙ going) in
    let other = not_wanted c.in-Err-BadLength.field-0 c.in-Err-BadLength.len c.in-Err-BadLength.field-0-is in
    let next : HeldCall = record (with_reader c.push.new.self held) { state = StateBroken c.in-Err-BadLength.len } in
    let Q : ClientFault → Type 0 = λ result. Next next plan stream c.args.octet (Err result) in
    let fault = subst (λ fault. IsOctetsFault stream c.args.octet fault) c.in-Err-BadLength.field-0-is
    (c.in-Err-BadLength.ensures.fault stream read) in
    let P : HeldCall → Type 0 = λ h. Next h plan stream c.args.octet (Err c.give_up.result) in
    subst P (sym c.give_up.ensures.kept)
    (subst Q (sym c.give_up.ensures.fault)
    (next_bad held plan stream c.args.octet stood going c.push.new.self
    (c.in-Err-BadLength.ensures.stands_for stream read other) c.in-Err-BadLength.len
    (c.in-Err-BadLength.ensures.message stream read other) fault.1))

pub returns-in-Err-BadLength-clause-stands_for : goal.returns-in-Err-BadLength-clause-stands_for
returns-in-Err-BadLength-clause-stands_for c = λ plan stream stands other. (bad c plan stream stands).stands

pub returns-in-Err-BadLength-clause-sent : goal.returns-in-Err-BadLength-clause-sent
returns-in-Err-BadLength-clause-sent c = λ plan stream stands other. (bad c plan stream stands).sent

pub returns-in-Err-BadLength-clause-printed : goal.returns-in-Err-BadLength-clause-printed
returns-in-Err-BadLength-clause-printed c = λ plan stream stands other. (bad c plan stream stands).printed

pub returns-in-Err-BadLength-clause-fault : goal.returns-in-Err-BadLength-clause-fault
returns-in-Err-BadLength-clause-fault c = λ plan stream stands. (bad c plan stream stands).fault

-- ---- no length was too long before

never : (c : goal.After-drop-empty-3) (plan : CallPlan) (stream : List ℕ) → StandsFor c.args.self.now plan stream → ⊥
never c plan stream stands =
    let held : HeldCall = the_view c.self.inside in
    let stood : StandsFor held plan stream = subst (λ h. StandsFor h plan stream) (sym c.self.view_is) stands in
    let going : is_over held.state ≡ false = subst (λ (h : HeldCall). is_over h.state ≡ false) (sym c.self.view_is)
    (sym c.is_over.ensures ∙ c.if-is_over.false) in
    let still : is_over (state_after plan stream) ≡ false = ap is_over (sym stood.at.state) ∙ going in
    let read : StandsForOctets held.reader stream = stood.reads still in
    let fault = subst (λ fault. IsOctetsFault stream c.args.octet fault) c.in-Err-Failed.field-0-is
    (c.in-Err-Failed.ensures.fault stream read) in
    let good = good_so_far plan stream still in
    cc

pub returns-clause-stands_for : goal.returns-clause-stands_for
returns-clause-stands_for c = λ plan stream stands other. absurd (never c plan stream stands)

pub returns-clause-sent : goal.returns-clause-sent
returns-clause-sent c = λ plan stream stands other. absurd (never c plan stream stands)

pub returns-clause-printed : goal.returns-clause-printed
returns-clause-printed c = λ plan stream stands other. absurd (never c plan stream stands)

pub returns-clause-fault : goal.returns-clause-fault
returns-clause-fault c = λ plan stream stands. absurd (never c plan stream stands)
