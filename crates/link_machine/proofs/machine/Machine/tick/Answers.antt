use Rattle.link_machine.proofs.Common.{◌≡◌, true, false, sym, ◌∙◌, subst, cond-true, Machine, LinkState, Idle, Calling, Up}
use Rattle.link_machine.proofs.Common.{Releasing, Holds, Turn, begin, settled, ask_xid, asks_xid, setting, tick_in, tick_t1}
use Rattle.link_machine.proofs.Common.{tm201_ticked, Bool, false≢true}
use Rattle.link_machine.specs.Negotiation.{asks_in}
use Rattle.link_machine.specs.Ticks.{tick}
use Rattle.link_machine.proofs.Events.{shows_begin, made, makes_same}
use Rattle.link_machine.proofs.machine.Machine.tick.Goals as goal

-- in the state in which the link asks
asking_tick : (state : LinkState) (still : Bool) (m : Machine) → asks_in state still m ≡ true
    → ask_xid (begin m) ≡ tick_in state still (begin m)
asking_tick Idle still m asks = absurd (false≢true asks)
asking_tick Calling still m asks = absurd (false≢true asks)
asking_tick Up still m asks =
    sym (cond-true (asks_xid still m) (ask_xid (begin m)) (tick_t1 still (setting (tm201_ticked still) (begin m))) asks)
asking_tick Releasing still m asks = absurd (false≢true asks)

pub returns-then-asks_xid : goal.returns-then-asks_xid
returns-then-asks_xid c =
    makes_same ask_xid (tick c.args.still) c.args.self.now c.ask_xid.new.self c.ask_xid.result
    (λ m h. asking_tick m.control.state c.args.still m (sym (c.asks_xid.ensures.asks m h) ∙ c.if-asks_xid.true))
    c.ask_xid.ensures

pub tick_timers-requires-clause-asks_none : goal.tick_timers-requires-clause-asks_none
tick_timers-requires-clause-asks_none c = λ m h. sym (c.asks_xid.ensures.asks m h) ∙ c.if-asks_xid.false

pub returns : goal.returns
returns c = λ m h.
    let begun = shows_begin c.args.self.now m c.in_ok-room.room _ _ c.in_ok-room.ensures h in
    let t : Turn = tick c.args.still (begin m) in
    let shown = c.tick_timers.ensures.shows (begin m) begun in
    made c.settle.new.self c.settle.new.room (settled t) c.finish.result (c.settle.ensures.shows t shown)
    c.finish.ensures.frames c.finish.ensures.told
