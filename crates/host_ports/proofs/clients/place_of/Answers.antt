use Rattle.host_ports.proofs.Common.{◌≡◌, get_or, arith}
use Rattle.std.proofs.lemmas.Grind.{common_steps}
use Rattle.host_ports.proofs.ClientLemmas.{client_at, no_client, waiting_at}
use Rattle.host_ports.proofs.clients.place_of.Goals as goal

pub returns-then-client-id-clause-client : goal.returns-then-client-id-clause-client
returns-then-client-id-clause-client c = λ d.
    let here : (get_or c.args.clients.now c.loop-at.at d).id ≡ c.args.id = grind (arith, common_steps) in
    client_at c.args.id c.args.clients.now c.loop-at.at d c.loop-at-test.true c.loop-at.invariant here

pub returns-then-client-id-clause-waiting : goal.returns-then-client-id-clause-waiting
returns-then-client-id-clause-waiting c = λ waiting d.
    let here : (get_or c.args.clients.now c.loop-at.at d).id ≡ c.args.id = grind (arith, common_steps) in
    waiting_at c.args.id c.args.clients.now c.loop-at.at d waiting c.loop-at-test.true c.loop-at.invariant here

pub returns-clause-nowhere : goal.returns-clause-nowhere
returns-clause-nowhere c = no_client c.args.id c.args.clients.now
    (λ j e less. c.loop-at.invariant j e (omega (arith, less)))
