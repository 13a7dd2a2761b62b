use Rattle.fx25_receiver.proofs.Common.{◌++◌, ◌<◌, ◌∙◌, List, Tone, subst, sym, HeldLane, KnowsNumbers, LaneStandsFor}
use Rattle.fx25_receiver.proofs.Common.{false≢true}
use Rattle.fx25_receiver.proofs.KnownLemmas.{known_at_rest}
use Rattle.fx25_receiver.specs.Ahead.{NothingEndsInTones}
use Rattle.fx25_receiver.proofs.lane.Lane.push_windows.Goals as goal

pub returns-clause-taken : goal.returns-clause-taken
returns-clause-taken c = λ before s took.
    subst (λ (t : List Tone). LaneStandsFor c.push_eight.new.self (before ++ t)) c.tones_of.ensures
    (c.push_eight.ensures.taken before s took)

pub returns-clause-quiet : goal.returns-clause-quiet
returns-clause-quiet c = λ before s took.
    subst (λ (t : List Tone). NothingEndsInTones before t) c.tones_of.ensures (c.push_eight.ensures.quiet before s took)

pub returns-clause-knows : goal.returns-clause-knows
returns-clause-knows c = λ numbers more known took.
    let old = c.args.self.now in
    let now = c.push_eight.new.self in
    let rests : 0 < old.reader.awake → ⊥ = λ awake.
    false≢true (sym c.if-is_awake.false ∙ c.is_awake.ensures.1
    (subst (λ (held : HeldLane). 0 < held.reader.awake) (sym c.self.view_is) awake)) in
    subst (λ cs. KnowsNumbers now.reader cs more) (sym c.push_eight.ensures.certainties)
    (known_at_rest old.reader now.reader old.certainties numbers more known
    (λ awake. absurd (rests (subst (λ n. 0 < n) c.push_eight.ensures.awake awake))))

pub returns-clause-knows_left : goal.returns-clause-knows_left
returns-clause-knows_left c = λ numbers known left.
    let now = c.push_eight.new.self in
    subst (λ cs. KnowsNumbers now.reader cs numbers) (sym c.push_eight.ensures.certainties)
    (subst (λ r. KnowsNumbers r c.args.self.now.certainties numbers) (sym (c.push_eight.ensures.reader left)) known)
