use Rattle.link_world.proofs.Common.{◌≡◌, ◌==◌, ◌&&◌, not, true, length, sym, ◌∙◌, ap, rules, tests, hearing_asks}
use Rattle.link_world.proofs.Common.{with_kind}
use Rattle.link_world.specs.Reading.{read_wide}
use Rattle.link_world.proofs.OtherModulus.{wide_asked}
use Rattle.link_world.proofs.flight.wide_asks.Goals as goal

pub returns-then-not-is_empty : goal.returns-then-not-is_empty
returns-then-not-is_empty c = λ m stands.
    let frame = c.args.frame.now in
    let info = c.in-Info in
    let some : not (length info.octets == 0) ≡ true = search (rules, tests) in
    ap (λ b. b && c.info_asks.result) (sym some)
    ∙ wide_asked m frame info.ns info.nr info.poll info.pid info.octets c.info_asks.result
    (λ path ns pid poll octets. c.info_asks.ensures m path ns pid poll octets stands)
    ∙ ap (λ kind. hearing_asks m (with_kind frame (read_wide kind))) (sym info.is)
