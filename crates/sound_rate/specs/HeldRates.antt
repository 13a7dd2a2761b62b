-- What is kept between two pieces, and which samples that stands for.
use Rattle.std.specs.Prelude.{ℤ, List}
use Rattle.resampler.specs.Held.{HasDecimated, HasStuffed}
use Rattle.sound_rate.specs.declared.incoming.Incoming.{Incoming}
use Rattle.sound_rate.specs.declared.incoming.Incoming.TheVariants.{Narrow as NarrowIn, Wide as WideIn}
use Rattle.sound_rate.specs.declared.outgoing.Outgoing.{Outgoing}
use Rattle.sound_rate.specs.declared.outgoing.Outgoing.TheVariants.{Narrow as NarrowOut, Wide as WideOut}
use Rattle.sound_rate.specs.declared.rate.Rate.{Rate}
use Rattle.sound_rate.specs.declared.rate.Rate.TheVariants.{Narrow, Wide}

-- these samples have come, at this rate
abbrev pub HasReceived : Rate → Incoming → List ℤ → Type 0
HasReceived Narrow NarrowIn x = Unit {0}
HasReceived Wide (WideIn decimator) x = HasDecimated decimator x
HasReceived _ _ x = ⊥

-- for these samples of the modem all is made that goes out, at this rate
abbrev pub HasMade : Rate → Outgoing → List ℤ → Type 0
HasMade Narrow NarrowOut x = Unit {0}
HasMade Wide (WideOut interpolator) x = HasStuffed interpolator x
HasMade _ _ x = ⊥
