use Rattle.station.proofs.Common.{◌≡◌, ℕ, List, Option, Some, sym, subst, on_ok_weaker, Modulus, Sent, IsReadAs}
use Rattle.station.proofs.Common.{modulus_between, IsSentFrame}
use Rattle.ax25_address.specs.FramePath.{BeginsWithPath}
use Rattle.station.proofs.parts.Parts.monitor_sent.Goals as goal

pub returns-clause-shows : goal.returns-clause-shows
returns-clause-shows c = λ turn shows.
    let path = c.in-Ok.path in
    let sent = c.in-Some.sent in
    let list : c.as_slice-octets.result.now ≡ sent.octets = c.as_slice-octets.ensures.list in
    let modulus : c.modulus_between-modulus.result ≡ modulus_between path.source path.dest turn.now.links =
    c.modulus_between-modulus.ensures turn.now.links shows.holds.links in
    let begins : BeginsWithPath sent.octets path c.in-Ok.field-0-1 =
    subst (λ (octets : List ℕ). BeginsWithPath octets path c.in-Ok.field-0-1) list c.in-Ok.ensures.path in
    on_ok_weaker c.monitor.result (λ p. (
      p.0,
      subst (λ (all : Option Sent). IsSentFrame all turn.now.links p.0) (sym c.in-Some.is) (
        Some path,
        (c.in-Ok.field-0-1, begins),
        subst (λ (octets : List ℕ). IsReadAs (modulus_between path.source path.dest turn.now.links) octets p.0) list
            (subst (λ (m : Modulus). IsReadAs m c.as_slice-octets.result.now p.0) modulus p.1),
      ),
      p.2,
    )) (c.monitor.ensures.shows turn shows)
