-- The flags that are kept of the frames in flight answer for the frames.
use Rattle.channel_bench.proofs.Common.{List, ◌∙◌, ap, drop, list_any, HeldFrame}
use Rattle.channel_bench.proofs.FlightLemmas.{in_flight_any}
use Rattle.channel_bench.proofs.flight.OneWay.answers.Goals as goal

pub returns : goal.returns
returns c = λ way h.
    let held = c.args.self.now in
    c.some_answers.ensures ∙ ap (λ (xs : List HeldFrame). list_any (λ (f : HeldFrame). f.answers) (drop held.front xs))
    c.deref.ensures.value
    ∙ in_flight_any (λ (f : HeldFrame). f.answers) held way h
