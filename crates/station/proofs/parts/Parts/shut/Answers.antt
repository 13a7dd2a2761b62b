use Rattle.station.proofs.Common.{◌++◌, ◌∷◌, [], ◌∙◌, ap, Out, closing}
use Rattle.station.proofs.CloseLemmas.{closes_one, on_ok_both}
use Rattle.station.proofs.parts.Parts.shut.Goals as goal

pub returns-clause-shows : goal.returns-clause-shows
returns-clause-shows c = λ turn shows.
    let id = c.args.id in
    c.leave.ensures.shows (closing id turn)
    (record {
      holds = shows.holds;
      gave = c.in_ok-close.ensures.closed
          ∙ ap (λ (out : Out). record out { closed = out.closed ++ id ∷ [] }) shows.gave;
    })

pub returns-clause-ids : goal.returns-clause-ids
returns-clause-ids c =
    on_ok_both c.leave.result (λ left same.
    closes_one c.args.self.now c.leave.new.self c.args.out.now c.leave.new.out c.args.id left
    (same ∙ ap (λ (out : Out). out.closed) c.in_ok-close.ensures.closed)) c.leave.ensures.ids c.leave.ensures.closed
