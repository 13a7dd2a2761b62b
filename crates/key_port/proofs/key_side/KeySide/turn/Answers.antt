use Rattle.std.proofs.Common.{ℕ, List, take, ap, subst, ◌∙◌}
use Rattle.std.specs.Prelude.{option_map}
use Rattle.tnc_base.specs.Faults.{HasRisen}
use Rattle.key_port.specs.KeyLines.{LineTold, with_last, after_read}
use Rattle.key_port.proofs.Sides.{turn_done}
use Rattle.key_port.proofs.key_side.KeySide.turn.Goals as goal

pub returns-clause-turned : goal.returns-clause-turned
returns-clause-turned g c = λ words octets keyed done.
    let came : List ℕ = take c.read-came.result.count c.read-came.new.buffer in
    let P : LineTold → Type 0 = λ t. HasRisen t.faults (g.K.KeyPort.told c.read-came.new.self).faults in (
      came,
      c.read-came.result.end,
      turn_done words c.args.self.now.port octets _ c.now-now.result (g.K.KeyPort.time c.now-now.new.self)
          (g.K.KeyPort.time c.do_next-lost.new.key) came c.read-came.result.end keyed c.args.self.now.machine
          c.turn-turn.new.self c.turn-turn.result _ c.do_next-lost.result c.do_next-lost.new.self
          (g.K.KeyPort.told c.args.key.now) (g.K.KeyPort.told c.read-came.new.self)
          (g.K.KeyPort.told c.hang_up_if.new.key) (g.K.KeyPort.told c.do_next-lost.new.key)
          c.now-now.ensures.time
          (c.do_next-lost.ensures.time ∙ c.hang_up_if.ensures.time ∙ c.read-came.ensures.time)
          done
          (c.turn-turn.ensures.stands_for words _ done.stands)
          (c.turn-turn.ensures.told words _ done.stands)
          (c.read-came.ensures.told
          ∙ ap (λ (t : LineTold). option_map (with_last (after_read (g.K.KeyPort.time c.now-now.new.self) came
          c.read-came.result.end)) t.lines) c.now-now.ensures.told)
          (λ e. c.read-came.ensures.faultless e ∙ ap (λ (t : LineTold). t.faults) c.now-now.ensures.told)
          (λ e. subst P c.now-now.ensures.told (c.read-came.ensures.failed e))
          c.hang_up_if.ensures.lines
          c.hang_up_if.ensures.faults
          (λ events doing. c.do_next-lost.ensures.does words octets events doing)
          c.do_next-lost.ensures.port
          c.reports_of_turn.ensures,
    )
