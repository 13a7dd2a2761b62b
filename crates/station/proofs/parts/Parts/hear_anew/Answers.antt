use Rattle.station.proofs.Common.{◌≡◌, ◌&&◌, nat_lt, ℕ, Option, Some, is_some, sym, ◌∙◌, ap, subst, Callsign, way_back}
use Rattle.station.proofs.Common.{Path}
use Rattle.station.proofs.Common.{Command, IsNumbered, control_of, Modulus, Hear, may_make, event_at, making}
use Rattle.station.proofs.Common.{no_layer_3, registrar, Turn}
use Rattle.station.specs.Heard.{makes_link}
use Rattle.station.proofs.HearLemmas.{links_counted, heard_passed, heard_made}
use Rattle.station.proofs.parts.Parts.hear_anew.Goals as goal

pub returns-then-not-may_make-clause-heard : goal.returns-then-not-may_make-clause-heard
returns-then-not-may_make-clause-heard c = λ turn shows.
    let frame = c.args.frame in
    let ends : c.ends_of-dest.result ≡ (frame.path.dest, frame.path.source) = c.ends_of-dest.ensures in
    let registered : Some c.in-Some.id ≡ registrar frame.path.dest turn.now.registrations =
    c.in-Some.ensures ∙ ap (λ (both : Callsign × Callsign). registrar both.0 c.args.self.now.registrations.items) ends
    ∙ ap (registrar frame.path.dest) shows.holds.registrations in
    let may : c.may_make.result ≡ may_make frame.kind turn.now.links =
    c.may_make.ensures ∙ ap (λ n. makes_link frame.kind && nat_lt n 64)
    (links_counted c.args.self.now.links turn.now.links shows.holds.links) in (
      turn,
      heard_passed c.in-Some.id frame turn (registrar frame.path.dest turn.now.registrations) registered (sym may
          ∙ c.if-not-may_make.true),
      shows,
    )

pub returns-clause-heard : goal.returns-clause-heard
returns-clause-heard c = λ turn shows.
    let frame = c.args.frame in
    let id = c.in-Some.id in
    let key = c.in_ok-key.key in
    let ends : c.ends_of-dest.result ≡ (frame.path.dest, frame.path.source) = c.ends_of-dest.ensures in
    let registered : Some id ≡ registrar frame.path.dest turn.now.registrations =
    c.in-Some.ensures ∙ ap (λ (both : Callsign × Callsign). registrar both.0 c.args.self.now.registrations.items) ends
    ∙ ap (registrar frame.path.dest) shows.holds.registrations in
    let may : c.may_make.result ≡ may_make frame.kind turn.now.links =
    c.may_make.ensures ∙ ap (λ n. makes_link frame.kind && nat_lt n 64)
    (links_counted c.args.self.now.links turn.now.links shows.holds.links) in
    let made = c.in_ok-key.ensures.made c.args.out.now turn shows in
    let before : Turn = making key id no_layer_3 c.ends_of-dest.result.0 c.ends_of-dest.result.1 c.back_from-back.result
    turn in
    let same : before ≡ making key id no_layer_3 frame.path.dest frame.path.source (way_back frame.path Command) turn =
    ap (λ (both : Callsign × Callsign). making key id no_layer_3 both.0 both.1 c.back_from-back.result turn) ends
    ∙ ap (λ (back : Path). making key id no_layer_3 frame.path.dest frame.path.source back turn)
    c.back_from-back.ensures in (
      event_at key (Hear frame) before,
      heard_made id key frame turn (event_at key (Hear frame) before) (registrar frame.path.dest turn.now.registrations)
          registered (sym may ∙ c.if-not-may_make.false) made.0 (ap (event_at key (Hear frame)) same),
      c.in_ok-link_event.ensures.shows before made.1,
    )

pub returns-then-not-may_make-clause-ours : goal.returns-then-not-may_make-clause-ours
returns-then-not-may_make-clause-ours c = λ turn shows.
    let frame = c.args.frame in
    let ends : c.ends_of-dest.result ≡ (frame.path.dest, frame.path.source) = c.ends_of-dest.ensures in
    let registered : Some c.in-Some.id ≡ registrar frame.path.dest turn.now.registrations =
    c.in-Some.ensures ∙ ap (λ (both : Callsign × Callsign). registrar both.0 c.args.self.now.registrations.items) ends
    ∙ ap (registrar frame.path.dest) shows.holds.registrations in
    let may : c.may_make.result ≡ may_make frame.kind turn.now.links =
    c.may_make.ensures ∙ ap (λ n. makes_link frame.kind && nat_lt n 64)
    (links_counted c.args.self.now.links turn.now.links shows.holds.links) in
    sym c.if-not-may_make.true ∙ may
    ∙ ap (λ (owner : Option ℕ). is_some owner && may_make frame.kind turn.now.links) registered

pub returns-clause-ours : goal.returns-clause-ours
returns-clause-ours c = λ turn shows.
    let frame = c.args.frame in
    let ends : c.ends_of-dest.result ≡ (frame.path.dest, frame.path.source) = c.ends_of-dest.ensures in
    let registered : Some c.in-Some.id ≡ registrar frame.path.dest turn.now.registrations =
    c.in-Some.ensures ∙ ap (λ (both : Callsign × Callsign). registrar both.0 c.args.self.now.registrations.items) ends
    ∙ ap (registrar frame.path.dest) shows.holds.registrations in
    let may : c.may_make.result ≡ may_make frame.kind turn.now.links =
    c.may_make.ensures ∙ ap (λ n. makes_link frame.kind && nat_lt n 64)
    (links_counted c.args.self.now.links turn.now.links shows.holds.links) in
    sym c.if-not-may_make.false ∙ may
    ∙ ap (λ (owner : Option ℕ). is_some owner && may_make frame.kind turn.now.links) registered

pub link_event-requires : goal.link_event-requires
link_event-requires c = subst (λ (modulus : Modulus). IsNumbered modulus (control_of c.args.frame.kind))
    (sym c.in_ok-key.ensures.modulus) c.requires
