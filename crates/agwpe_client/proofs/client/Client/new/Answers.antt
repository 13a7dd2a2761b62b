use Rattle.agwpe_client.proofs.Common.{ap, ◌∙◌, sym, Some, spelling, connect_message, CallRun, CallPlan, opening_octets}
use Rattle.agwpe_client.specs.CallRun.{call_plan}
use Rattle.agwpe_client.proofs.BeginLemmas.{run_begins, stands_begun}
use Rattle.agwpe_client.proofs.client.Client.new.Goals as goal

pub returns-clause-stands_for : goal.returns-clause-stands_for
returns-clause-stands_for c =
    let plan : CallPlan = call_plan c.args.own c.args.remote c.args.via.items c.args.text c.args.expect in
    stands_begun plan _ _ _ _ _ _ c.new.ensures.stands_for c.call_text.ensures c.call_text-2.ensures
    (ap Some (c.in_ok-connect_message.ensures
    ∙ ap (λ via. spelling (connect_message c.args.own c.args.remote via)) c.as_slice.ensures.value))
    (ap Some (c.in_ok-opening.ensures
    ∙ ap (λ text. opening_octets c.args.own c.args.remote text c.args.expect) c.as_slice-2.ensures.list))
    c.in_ok-farewell.ensures

pub returns-clause-sent : goal.returns-clause-sent
returns-clause-sent c =
    let plan : CallPlan = call_plan c.args.own c.args.remote c.args.via.items c.args.text c.args.expect in
    c.in_ok-register_message.ensures ∙ ap (λ (run : CallRun). run.sent) (sym (run_begins plan))
