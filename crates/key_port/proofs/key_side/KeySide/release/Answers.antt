use Rattle.std.proofs.Common.{refl, ◌∙◌}
use Rattle.key_port.proofs.Closing.{closes_first, closes_on, closed}
use Rattle.key_port.proofs.key_side.KeySide.release.Goals as goal

pub asks-init : goal.asks-init
asks-init g c = (
  (λ words octets keyed done. closes_first words octets _ keyed c.args.self.now
      (g.K.KeyPort.told c.args.key.now) done),
  refl,
)

pub asks-preserved : goal.asks-preserved
asks-preserved g c = (
  (λ words octets keyed done.
      let first = c.asks.invariant.0 words octets keyed done in
      closes_on words octets _ keyed c.close.result c.asks.self c.close.new.self
      (g.K.KeyPort.told c.args.key.now) (g.K.KeyPort.told c.asks.key) (g.K.KeyPort.told c.close.new.key)
      (g.K.KeyPort.told c.rest.new.self) first
      (c.close.ensures.closed words octets first.new first.done) c.close.ensures.port c.rest.ensures.told),
  c.close.ensures.port ∙ c.asks.invariant.1,
)

pub returns-then-close-clause-released : goal.returns-then-close-clause-released
returns-then-close-clause-released g c = λ words octets keyed done.
    let first = c.asks.invariant.0 words octets keyed done in
    closed words octets _ keyed c.close.result c.asks.self c.close.new.self
    (g.K.KeyPort.told c.args.key.now) (g.K.KeyPort.told c.asks.key) (g.K.KeyPort.told c.close.new.key) first
    (c.close.ensures.closed words octets first.new first.done) c.close.ensures.port c.if-close.true

pub returns-then-close-clause-port : goal.returns-then-close-clause-port
returns-then-close-clause-port g c = c.close.ensures.port ∙ c.asks.invariant.1
