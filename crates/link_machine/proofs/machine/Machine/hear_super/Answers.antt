use Rattle.link_machine.proofs.Common.{◌≡◌, true, sym, ◌∙◌, Ok, named, begin, settled, Machine, Turn, is_valid, Holds, Makes}
use Rattle.link_machine.proofs.Common.{Result, Done, OutOfMemory}
use Rattle.link_machine.specs.Held.{hear_supervisory_of}
use Rattle.link_machine.proofs.Events.{shows_begin, made, makes_numbered}
use Rattle.link_machine.proofs.machine.Machine.hear_super.Goals as goal

pub returns : goal.returns
returns c =
    let held = c.args.self.now in
    let act = hear_supervisory_of c.args.which c.args.command c.args.flag in
    let done : Result Done OutOfMemory = Ok c.finish.result in
    let valid : (m : Machine) → Holds held m → is_valid c.args.nr m ≡ true =
    λ m h. sym (c.is_valid.ensures m h) ∙ c.if-not-is_valid.false in
    let makes : Makes (λ t. act (named c.args.nr t.now) t) held c.settle.new.self done = λ m h.
    let begun = shows_begin held m c.in_ok-room.room _ _ c.in_ok-room.ensures h in
    let t : Turn = act (named c.args.nr m) (begin m) in
    made c.settle.new.self c.settle.new.room (settled t) c.finish.result
    (c.settle.ensures.shows t (c.take_super.ensures c.in_ok-room.room (begin m) begun (valid m h)))
    c.finish.ensures.frames c.finish.ensures.told in
    makes_numbered act c.args.nr held c.settle.new.self done valid makes
