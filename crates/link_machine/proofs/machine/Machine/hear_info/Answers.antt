use Rattle.link_machine.proofs.Common.{◌≡◌, ℕ, true, List, sym, ◌∙◌, subst, Ok, Packet, named, begin, settled, Machine, Turn}
use Rattle.link_machine.proofs.Common.{is_valid, hear_info, hear_numbered, Holds, Makes, Result, Done, OutOfMemory}
use Rattle.link_machine.proofs.Events.{shows_begin, made, makes_numbered}
use Rattle.link_machine.proofs.machine.Machine.hear_info.Goals as goal

pub returns : goal.returns
returns c =
    let held = c.args.self.now in
    let packet : Packet = record { pid = c.args.pid; octets = c.in_ok-from_slice.field-0 } in
    let done : Result Done OutOfMemory = Ok c.finish.result in
    let valid : (m : Machine) → Holds held m → is_valid c.args.nr m ≡ true =
    λ m h. sym (c.is_valid.ensures m h) ∙ c.if-not-is_valid.false in
    let makes : Makes (λ t. hear_info (named c.args.nr t.now) c.args.ns c.args.flag packet t)
    held c.settle.new.self done = λ m h.
    let begun = shows_begin held m c.in_ok-room.room _ _ c.in_ok-room.ensures h in
    let t : Turn = hear_info (named c.args.nr m) c.args.ns c.args.flag packet (begin m) in
    made c.settle.new.self c.settle.new.room (settled t) c.finish.result
    (c.settle.ensures.shows t (c.take_info.ensures.shows (begin m) begun (valid m h)))
    c.finish.ensures.frames c.finish.ensures.told in
    let all = makes_numbered (λ n. hear_info n c.args.ns c.args.flag packet)
    c.args.nr held c.settle.new.self done valid makes in
    let P : List ℕ → Type 0 = λ o. Makes (hear_numbered c.args.nr
    (λ n. hear_info n c.args.ns c.args.flag (record { pid = c.args.pid; octets = o }))) held c.settle.new.self done in
    subst P (c.in_ok-from_slice.ensures ∙ c.as_slice.ensures.list) all
