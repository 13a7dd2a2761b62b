use Rattle.link_world.proofs.Common.{◌≡◌, ◌&&◌, nat_lt, true, length, sym, ◌∙◌, ap, rules, tests, hearing_asks}
use Rattle.link_world.proofs.Common.{with_kind, read_narrow}
use Rattle.link_world.proofs.OtherModulus.{narrow_asked}
use Rattle.link_world.proofs.flight.narrow_asks.Goals as goal

pub returns-then-len-lt256 : goal.returns-then-len-lt256
returns-then-len-lt256 c = λ m stands.
    let frame = c.args.frame.now in
    let info = c.in-Info in
    let fits : nat_lt (length info.octets) 256 ≡ true = search (rules, tests) in
    ap (λ b. b && c.info_asks.result) (sym fits)
    ∙ narrow_asked m frame info.ns info.nr info.poll info.pid info.octets c.info_asks.result
    (λ path ns pid poll octets. c.info_asks.ensures m path ns pid poll octets stands)
    ∙ ap (λ kind. hearing_asks m (with_kind frame (read_narrow kind))) (sym info.is)
