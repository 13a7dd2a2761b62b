use Rattle.tnc_ports.proofs.Common.{◌≡◌, ◌<◌, ◌≤◌, ◌+◌, ◌*◌, ℕ, [], ◌++◌, length, take, drop, refl, sym, ap, subst, ◌∙◌}
use Rattle.tnc_ports.proofs.Common.{arith, length-append, length-take-le, take-append-le, Gives, count_of, None, ℤ}
use Rattle.std.proofs.Common.{List}
use Rattle.std.proofs.lemmas.List.{length-take}
use Rattle.sound_rate.specs.declared.rate.Rate.{Rate}
use Rattle.tnc_base.specs.Streams.{SourceTold}
use Rattle.tnc_ports.specs.HeldPump.{HasTaken, IsFed}
use Rattle.sound_rate.proofs.Nothing.{none_settled}
use Rattle.tnc_ports.proofs.PaceLemmas.{paces_first, paces_more, paces_on_nothing, paces_same}
use Rattle.tnc_ports.proofs.PumpLemmas.{ended_left, pumped_more, pumped_same}
use Rattle.tnc_ports.proofs.pumping.pump_reads.Goals as goal

pub returns-in_default-clause-pumped : goal.returns-in_default-clause-pumped
returns-in_default-clause-pumped g c = λ rate octets fresh left. (
  c.reading.low,
  c.reading.total,
  pumped_same rate octets _ _ _ _ _ _ _ (c.reading.invariant.so_far rate octets fresh left) c.in_default.ensures.kept
      c.read.ensures.published,
  c.reading-test.true,
)

pub returns-then-count-eq0-clause-pumped : goal.returns-then-count-eq0-clause-pumped
returns-then-count-eq0-clause-pumped g c = λ rate octets fresh left.
    let a = c.read.auto.buffer in
    let b = c.min-room.ensures in
    let most = c.reading-test.true in
    let taken = length-take c.min-room.result c.reading.buffer in
    let room : 0 < length c.read.new.buffer = grind (arith, a, b, taken, most) in
    let so_far = c.reading.invariant.so_far rate octets fresh left in
    let over = ended_left rate octets _ _ _ _ _ _ _ _ so_far c.in-Ok.ensures.gives c.if-count-eq0.true room in (
      c.reading.low,
      c.reading.total,
      pumped_same rate octets _ _ _ _ _ _ _ so_far over.0 c.read.ensures.published,
      (over.1, most),
    )

pub returns-clause-pumped : goal.returns-clause-pumped
returns-clause-pumped g c = λ rate octets fresh left.
    let bound = c.reading.invariant.bound in
    let over = c.reading-test.false in
    (c.reading.low, c.reading.total, c.reading.invariant.so_far rate octets fresh left, omega arith)

pub returns-in_default-clause-pace : goal.returns-in_default-clause-pace
returns-in_default-clause-pace g c = λ rate before fresh told. (
  c.reading.low,
  paces_same rate before _ _ _ _ _ _ c.in_default.ensures.untold c.read.ensures.published
      (c.reading.invariant.pace rate before fresh told),
)

pub returns-then-count-eq0-clause-pace : goal.returns-then-count-eq0-clause-pace
returns-then-count-eq0-clause-pace g c = λ rate before fresh told. (
  c.reading.low,
  paces_same rate before _ _ _ _ _ _ refl c.read.ensures.published
      (paces_on_nothing rate before _ _ _ _ _ (take c.in-Ok.count c.read.new.buffer)
      (ap (λ n. take n c.read.new.buffer) c.if-count-eq0.true) (c.reading.invariant.pace rate before fresh told)
      c.in-Ok.ensures.told),
)

pub returns-clause-pace : goal.returns-clause-pace
returns-clause-pace g c = λ rate before fresh told. (c.reading.low, c.reading.invariant.pace rate before fresh told)

pub returns-in_default-clause-taken : goal.returns-in_default-clause-taken
returns-in_default-clause-taken g c = λ rate fresh.
    let so = c.reading.invariant.taken rate fresh in
    let size = so.2 in
    let most = c.reading-test.true in (
      so.0,
      subst (λ p. IsFed rate c.reading.incoming p so.0) (sym c.read.ensures.published) so.1,
      omega (arith, size, most),
    )

pub returns-then-count-eq0-clause-taken : goal.returns-then-count-eq0-clause-taken
returns-then-count-eq0-clause-taken g c = λ rate fresh.
    let so = c.reading.invariant.taken rate fresh in
    let size = so.2 in
    let most = c.reading-test.true in (
      so.0,
      subst (λ p. IsFed rate c.reading.incoming p so.0) (sym c.read.ensures.published) so.1,
      omega (arith, size, most),
    )

pub returns-clause-taken : goal.returns-clause-taken
returns-clause-taken g c = λ rate fresh.
    let so = c.reading.invariant.taken rate fresh in
    let size = so.2 in
    let most = c.reading.invariant.bound in
    (so.0, so.1, omega (arith, size, most))

pub reading-init : goal.reading-init
reading-init g c = record {
  input = refl;
  output = refl;
  ring = refl;
  so_far = λ rate whole fresh left. record {
    read = [];
    rest = whole;
    parts = refl;
    left_over = left;
    fed = record { received = fresh; settled = c.requires.new ∙ none_settled rate };
    odd = refl;
    counted = refl;
  };
  pace = λ rate before fresh told. paces_first rate before _ _ _ told c.requires.new fresh;
  taken = λ rate fresh. ([], record { received = fresh; settled = c.requires.new ∙ none_settled rate }, refl);
  bound = omega arith;
  room = let none = ap length c.requires.new in omega (arith, none);
  later = omega arith;
  faultless = refl;
}

pub reading-preserved : goal.reading-preserved
reading-preserved g c =
    let a = c.read.auto.buffer in
    let b = c.min-room.ensures in
    let most = c.reading-test.true in
    let within = c.in-Ok.ensures.bound in
    let taken = length-take c.min-room.result c.reading.buffer in
    let piece : List ℕ = take c.in-Ok.count c.read.new.buffer in
    let same : take c.in-Ok.count (c.read.new.buffer ++ drop c.min-room.result c.reading.buffer) ≡ piece =
    take-append-le c.in-Ok.count c.read.new.buffer (drop c.min-room.result c.reading.buffer) within in
    let kept = ap length c.read.ensures.published in
    let long : length (take c.in-Ok.count (c.read.new.buffer ++ drop c.min-room.result c.reading.buffer)) ≡ c.in-Ok.count =
    ap length same ∙ length-take-le c.in-Ok.count c.read.new.buffer within in
    let grown = c.publish.ensures.steps in
    let took : (rate : Rate) (x : List ℤ) → IsFed rate c.reading.incoming (g.T.Inlet.published c.reading.inlet) x
    → HasTaken rate x c.reading.low piece c.publish.new.low c.publish.new.incoming
    (g.T.Inlet.published c.publish.new.inlet) = (λ rate x fed. subst (λ o. HasTaken rate x c.reading.low o c.publish.new.low c.publish.new.incoming
    (g.T.Inlet.published c.publish.new.inlet)) same
    (c.publish.ensures.taken rate x
    (subst (λ p. IsFed rate c.reading.incoming p x) (sym c.read.ensures.published) fed))) in
    record {
      input = c.publish.ensures.input ∙ c.read.ensures.input ∙ c.reading.invariant.input;
      output = c.publish.ensures.output ∙ c.read.ensures.output ∙ c.reading.invariant.output;
      ring = c.publish.ensures.ring ∙ c.read.ensures.ring ∙ c.reading.invariant.ring;
      so_far = λ rate whole fresh left.
          pumped_more rate whole c.read.new.buffer _ _ _ _ _ _ _ _ _ _ (c.reading.invariant.so_far rate whole fresh left)
          (λ octets told. subst (λ (t : SourceTold). Gives octets t.left c.read.new.buffer c.in-Ok.count)
          (sym c.publish.ensures.source)
          (c.in-Ok.ensures.gives octets told)) within (took rate);
      pace = λ rate before fresh told.
          paces_more rate before _ _ _ _ _ _ _ _ _ piece grown.0 (c.reading.invariant.pace rate before fresh told)
          c.in-Ok.ensures.told grown.2 (grown.1 ∙ ap (λ p. p ++ grown.0) c.read.ensures.published) (took rate);
      taken = λ rate fresh.
          let so = c.reading.invariant.taken rate fresh in
          let t = took rate so.0 so.1 in
          let size = so.2 in
          let counted = t.counted in
          let whole = length-append so.0 t.more in
          let count : length piece ≡ c.in-Ok.count = length-take-le c.in-Ok.count c.read.new.buffer within in
          (so.0 ++ t.more, t.fed, omega (arith, size, counted, whole, count));
      bound = grind (arith, a, b, taken, within, most);
      room =
          let before = c.reading.invariant.room in
          let few = c.publish.ensures.few in
          omega (arith, before, few, long, kept);
      later =
          let l = c.reading.invariant.later in
          let m = c.read.ensures.later in
          let n = ap (λ (t : SourceTold). t.faults) c.publish.ensures.source in
          omega (arith, l, m, n);
      faultless = ap (λ (t : SourceTold). t.faults) c.publish.ensures.source ∙ c.in-Ok.ensures.faultless
          ∙ c.reading.invariant.faultless;
    }
