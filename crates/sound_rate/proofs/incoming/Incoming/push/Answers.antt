use Rattle.std.proofs.Common.{ℤ, List, [], ◌∷◌, ◌++◌, subst}
use Rattle.std.proofs.lemmas.Int.{to_z-of_z}
use Rattle.resampler.specs.Held.{HasDecimated}
use Rattle.sound_rate.specs.declared.incoming.Incoming.TheVariants.{Wide as WideIn}
use Rattle.sound_rate.specs.declared.rate.Rate.{Rate}
use Rattle.sound_rate.specs.declared.rate.Rate.TheVariants.{Narrow, Wide}
use Rattle.sound_rate.specs.HeldRates.{HasReceived}
use Rattle.sound_rate.proofs.incoming.Incoming.push.Goals as goal
use mir.Syntax.{w16}

pub returns-in-Wide-clause-stands_for : goal.returns-in-Wide-clause-stands_for
returns-in-Wide-clause-stands_for c = λ rate x h. go rate x (subst (λ s. HasReceived rate s x) c.in-Wide.is h)
  where
    go : (rate : Rate) (x : List ℤ) → HasReceived rate (WideIn c.in-Wide.decimator) x
        → HasReceived rate (WideIn c.push.new.self) (x ++ c.args.sample ∷ [])
    go Narrow x h = absurd h
    go Wide x h = subst (λ (z : ℤ). HasDecimated c.push.new.self (x ++ z ∷ []))
        (to_z-of_z w16 c.args.sample c.ranges.sample) (c.push.ensures.stands_for x h)
