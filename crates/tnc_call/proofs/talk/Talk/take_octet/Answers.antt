use Rattle.tnc_call.proofs.Common.{◌≡◌, ◌≢◌, ◌∷◌, [], ℕ, subst, Err, ClientOut}
use Rattle.std.proofs.Common.{Result}
use Rattle.agwpe_client.specs.declared.fault.ClientFault.{ClientFault}
use Rattle.agwpe_client.specs.declared.fault.ClientFault.TheVariants.{Refused, Broken, Memory}
use Rattle.agwpe_client.specs.CallRun.{IsFault}
use Rattle.tnc_call.proofs.HeardLemmas.{all_is_part, nothing_printed, part_stays}
use Rattle.tnc_call.proofs.talk.Talk.take_octet.Goals as goal

-- a fault that is no want of memory
refused : (fault : ClientFault) → fault ≡ Refused → ◌≢◌ {A = Result ClientOut ClientFault} (Err fault) (Err Memory)
refused fault is = λ e. cc

broken : (fault : ClientFault) (len : ℕ) → fault ≡ Broken len
    → ◌≢◌ {A = Result ClientOut ClientFault} (Err fault) (Err Memory)
broken fault len is = λ e. cc

pub returns-in-Err-Refused-clause-taken : goal.returns-in-Err-Refused-clause-taken
returns-in-Err-Refused-clause-taken g c = λ plan host before goes.
    let arm = c.in-Err-Refused in
    let fault = subst (λ f. IsFault plan host c.args.octet f) arm.field-0-is
    (arm.ensures.fault plan host goes.client) in (
      fault.1,
      nothing_printed plan host c.args.octet before (g.O.Sink.told c.args.output.now).written
          (arm.ensures.printed plan host goes.client (refused arm.field-0 arm.field-0-is)) goes.is_printed,
    )

pub returns-in-Err-Broken-clause-taken : goal.returns-in-Err-Broken-clause-taken
returns-in-Err-Broken-clause-taken g c = λ plan host before goes.
    let arm = c.in-Err-Broken in
    let fault = subst (λ f. IsFault plan host c.args.octet f) arm.field-0-is
    (arm.ensures.fault plan host goes.client) in (
      fault.1,
      nothing_printed plan host c.args.octet before (g.O.Sink.told c.args.output.now).written
          (arm.ensures.printed plan host goes.client (broken arm.field-0 arm.len arm.field-0-is)) goes.is_printed,
    )

pub returns-in-Err-Memory-clause-taken : goal.returns-in-Err-Memory-clause-taken
returns-in-Err-Memory-clause-taken g c = λ plan host before goes.
    part_stays plan host (c.args.octet ∷ []) before (g.O.Sink.told c.args.output.now).written
    (all_is_part plan host before (g.O.Sink.told c.args.output.now).written goes.is_printed)
