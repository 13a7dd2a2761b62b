use Rattle.station.proofs.Common.{◌≡◌, ◌++◌, ℕ, List, length, take, drop, Option, Some, None, refl, sym, ◌∙◌, ap, subst}
use Rattle.station.proofs.Common.{arith, inl, length-set, on_ok_weaker, Callsign, IsRepeatedFor, queueing}
use Rattle.std.specs.Prelude.{slice_index, bit_or}
use Rattle.std.proofs.lemmas.List.{take_at}
use Rattle.digipeater.specs.Repeated.{IsTurnOf, repeated, ssid_place}
use Rattle.station.proofs.parts.Parts.repeat.Goals as goal

length-repeated : (octets : List ℕ) (k : ℕ) → length (repeated octets k) ≡ length octets
length-repeated octets k = length-set octets (ssid_place k) (bit_or (slice_index octets (ssid_place k)) 128)

pub returns-clause-repeated : goal.returns-clause-repeated
returns-clause-repeated c = λ turn shows.
    let octets = c.args.octets.now in
    let call : Callsign = c.in-Some.call in
    let before : c.deref_mut.result.now ≡ octets = c.deref_mut.ensures.value
    ∙ c.in_ok-copy.ensures.items in
    let is = c.repeat.ensures.turn.0 c.if-not-repeat.false in
    let new : List ℕ = c.repeat.new.octets in
    let rest : List ℕ = drop (length new) c.in_ok-copy.copy.items in
    let set_once : new ≡ repeated c.deref_mut.result.now is.0 = c.repeat.ensures.repeated is.0 is.1 in
    let size : c.in_ok-copy.copy.len ≡ length new =
    (let ok = c.in_ok-copy.copy.ok in omega (
      arith,
      ok,
      ap length c.in_ok-copy.ensures.items,
      ap length set_once,
      length-repeated c.deref_mut.result.now is.0,
      ap length before,
    )) in
    let after : c.in_ok-repeated.repeated ≡ new =
    c.in_ok-repeated.ensures.copy ∙ c.deref.ensures.value ∙ ap (λ n. take n (new ++ rest)) size
    ∙ take_at new rest (length new) refl in
    let mine : IsTurnOf call octets is.0 = subst (λ xs. IsTurnOf call xs is.0) before is.1 in
    let spelled : c.in_ok-repeated.repeated ≡ repeated octets is.0 = after ∙ c.repeat.ensures.repeated is.0 is.1
    ∙ ap (λ xs. repeated xs is.0) before in
    let digi : Some call ≡ turn.now.digi = sym c.in-Some.is ∙ shows.holds.digi in
    let done : queueing None c.in_ok-repeated.repeated turn ≡ queueing None (repeated octets is.0) turn =
    ap (λ xs. queueing None xs turn) spelled in
    on_ok_weaker c.queue.result (λ s. (
      queueing None c.in_ok-repeated.repeated turn,
      subst (λ (digi : Option Callsign). IsRepeatedFor digi octets turn (queueing None c.in_ok-repeated.repeated turn))
          digi (inl (is.0, mine, done)),
      s,
    ))
    (c.queue.ensures.shows turn shows)
