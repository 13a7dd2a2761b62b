use Rattle.tnc_call.proofs.HeardLemmas.{left_stops}
use Rattle.tnc_call.proofs.talk.Talk.take.Goals as goal

pub returns-else-from-id-2-clause-taken : goal.returns-else-from-id-2-clause-taken
returns-else-from-id-2-clause-taken g c = λ plan host before goes.
    left_stops plan c.args.id host c.args.event.now c.in-Left.from before (g.O.Sink.told c.args.output.now).written
    c.in-Left.is c.if-from-id-2.false goes.going goes.is_printed
