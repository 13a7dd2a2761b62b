use Rattle.station.proofs.Common.{take, AreAnswered, Shows, Turn}
use Rattle.station.specs.Held.{ClosesIds}
use Rattle.station.proofs.parts.Parts.answer_all.Given as goal

-- the messages so far are answered
abbrev pub invariant-loop-message : goal.invariant-loop-message
invariant-loop-message l = record {
  step : (turn : Turn) → Shows l.fn.self l.fn.out turn → (following : Turn)
      × AreAnswered l.id (take l.message-index l.messages) turn following × Shows l.self l.out following;
  ids : ClosesIds l.fn.self l.fn.out l.self l.out;
}
