use Rattle.std.proofs.Common.{ℕ, List, take, ap, subst, ◌∙◌}
use Rattle.std.specs.Prelude.{option_map}
use Rattle.tnc_base.specs.Faults.{HasRisen}
use Rattle.key_port.specs.KeyLines.{LineTold, with_last, after_read}
use Rattle.key_port.proofs.Closing.{close_done}
use Rattle.key_port.proofs.key_side.KeySide.close.Goals as goal

pub returns-clause-closed : goal.returns-clause-closed
returns-clause-closed g c = λ words octets keyed done.
    let came : List ℕ = take c.read-came.result.count c.read-came.new.buffer in
    let P : LineTold → Type 0 = λ t. HasRisen t.faults (g.K.KeyPort.told c.read-came.new.self).faults in
    let stands = c.release-ending.ensures.stands_for words _ done.stands in
    close_done words c.args.self.now.port octets _ c.now-now.result (g.K.KeyPort.time c.now-now.new.self) came
    c.read-came.result.end keyed c.args.self.now.machine c.release-ending.new.self c.release-ending.result
    c.has_line.result c.is_over.result c.next_of.result c.do_next.result c.do_next.new.self
    (g.K.KeyPort.told c.args.key.now) (g.K.KeyPort.told c.read-came.new.self) (g.K.KeyPort.told c.hang_up_if.new.key)
    (g.K.KeyPort.told c.do_next.new.key)
    c.now-now.ensures.time done stands
    (c.release-ending.ensures.told words _ done.stands)
    (c.has_line.ensures words _ stands)
    c.next_of.ensures c.is_over.ensures
    (c.read-came.ensures.told
    ∙ ap (λ (t : LineTold). option_map (with_last (after_read (g.K.KeyPort.time c.now-now.new.self) came
    c.read-came.result.end)) t.lines) c.now-now.ensures.told)
    (λ e. c.read-came.ensures.faultless e ∙ ap (λ (t : LineTold). t.faults) c.now-now.ensures.told)
    (λ e. subst P c.now-now.ensures.told (c.read-came.ensures.failed e))
    c.hang_up_if.ensures.lines
    c.hang_up_if.ensures.faults
    (λ events doing. c.do_next.ensures.does words octets events doing)
    c.do_next.ensures.port
