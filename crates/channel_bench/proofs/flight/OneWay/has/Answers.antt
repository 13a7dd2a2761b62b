-- The frame of the number is kept with its octets.
use Rattle.channel_bench.proofs.Common.{◌≡◌, ◌∙◌, ◌<◌, ◌≤◌, Some, None, ap, refl, sym, subst, get_or, length, slice_get, is_some}
use Rattle.channel_bench.proofs.Common.{ltb-true}
use Rattle.std.specs.Prelude.{IfSome}
use Rattle.std.specs.Str.{bytes_eq}
use Rattle.std.proofs.lemmas.Bool.{ltb-false}
use Rattle.std.proofs.lemmas.Option.{slice_get_past, slice_get_read}
use Rattle.channel_bench.proofs.FlightLemmas.{has_frame, has_no_frame}
use Rattle.channel_bench.proofs.flight.OneWay.has.Goals as goal

pub returns-in-Some : goal.returns-in-Some
returns-in-Some c = λ way h.
    let held = c.args.self.now in
    let frames = c.deref.result.now in
    let number = c.args.number in
    let frame = c.in-Some.frame.now in
    let within : number < length frames =
    ltb-true number (length frames) (sym c.get.ensures.lookup.0 ∙ ap is_some c.in-Some.is) in
    let is : frame ≡ get_or frames number frame =
    subst (λ o. IfSome o (λ x. x.now ≡ get_or frames number x.now)) c.in-Some.is c.get.ensures.lookup.1 in
    let there : slice_get held.queued.items number ≡ Some frame =
    ap (λ ys. slice_get ys number) (sym c.deref.ensures.value)
    ∙ slice_get_read frames (length frames) number frame refl within is in
    c.eq.ensures ∙ ap (λ o. bytes_eq o c.args.octets.now) c.as_slice.ensures.list
    ∙ sym (has_frame c.args.octets.now held way number frame h there)

pub returns-in-None : goal.returns-in-None
returns-in-None c = λ way h.
    let held = c.args.self.now in
    let frames = c.deref.result.now in
    let number = c.args.number in
    let past : length frames ≤ number =
    ltb-false number (length frames) (sym c.get.ensures.lookup.0 ∙ ap is_some c.in-None.is) in
    let none : slice_get held.queued.items number ≡ None =
    ap (λ ys. slice_get ys number) (sym c.deref.ensures.value) ∙ slice_get_past frames number past in
    sym (has_no_frame c.args.octets.now held way number h none)
