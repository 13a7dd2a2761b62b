use Rattle.std.proofs.Common.{◌≡◌, ℕ, List, [], ◌∷◌, ◌++◌, Bool, true, false, refl, subst, sym, ap, ◌∙◌}
use Rattle.std.specs.Option.{option_to_list}
use Rattle.std.proofs.lemmas.Bool.{false≢true}
use Rattle.kiss_port.specs.Held.{StandsFor}
use Rattle.kiss_port.specs.HeldHost.{HeldBeginning, HeldHost, HostStandsForSome, beginning_with, tells_web}
use Rattle.kiss_port.proofs.WebLemmas.{is_web, stands_web, items_web, is_kiss, piece_there, stands_kiss, items_kiss}
use Rattle.kiss_port.proofs.WebLemmas.{never_web}
use Rattle.kiss_port.proofs.host_reader.KissHostIn.push.Goals as goal

-- what is kept of the beginning, of the reader as it was
of_now : (inside now : HeldHost) (octet : ℕ) (next : HeldBeginning) → inside ≡ now
    → next ≡ beginning_with inside.beginning octet → next ≡ beginning_with now.beginning octet
of_now inside now octet next same is = is ∙ ap (λ (held : HeldHost). beginning_with held.beginning octet) same

-- what is told of it
of_next : (told answer : Bool) (next : HeldBeginning) → told ≡ tells_web next → told ≡ answer
    → tells_web next ≡ answer
of_next told answer next is now = sym is ∙ now

-- ---- a request of the web

pub invariant_of-self : goal.invariant_of-self
invariant_of-self c =
    let some = subst HostStandsForSome c.self.view_is c.self.invariant in
    let next = c.with-beginning.result in
    let made = of_now _ c.args.self.now c.args.octet next c.self.view_is c.with-beginning.ensures in
    let web = of_next _ true next c.is_web_request.ensures c.if-is_web_request.true in (
      some.0 ++ c.args.octet ∷ [],
      stands_web c.args.self.now some.0 some.1 c.args.octet next made web c.self.inside.items,
    )

pub returns-then-is_web_request-clause-stands_for : goal.returns-then-is_web_request-clause-stands_for
returns-then-is_web_request-clause-stands_for c = λ stream stands other.
    let next = c.with-beginning.result in
    let made = of_now _ c.args.self.now c.args.octet next c.self.view_is c.with-beginning.ensures in
    let web = of_next _ true next c.is_web_request.ensures c.if-is_web_request.true in
    stands_web c.args.self.now stream stands c.args.octet next made web c.self.inside.items

pub returns-then-is_web_request-clause-item : goal.returns-then-is_web_request-clause-item
returns-then-is_web_request-clause-item c = λ stream stands other.
    let next = c.with-beginning.result in
    let made = of_now _ c.args.self.now c.args.octet next c.self.view_is c.with-beginning.ensures in
    let web = of_next _ true next c.is_web_request.ensures c.if-is_web_request.true in
    items_web c.args.self.now stream stands c.args.octet next made web

pub returns-then-is_web_request-clause-web : goal.returns-then-is_web_request-clause-web
returns-then-is_web_request-clause-web c = λ stream stands.
    let next = c.with-beginning.result in
    let made = of_now _ c.args.self.now c.args.octet next c.self.view_is c.with-beginning.ensures in
    let web = of_next _ true next c.is_web_request.ensures c.if-is_web_request.true in
    let known = is_web c.args.self.now stream stands c.args.octet next made web in
    ((λ is. known), λ is. refl)

-- ---- want of memory

pub returns-in_err-item-clause-web : goal.returns-in_err-item-clause-web
returns-in_err-item-clause-web c = λ stream stands.
    let next = c.with-beginning.result in
    let made = of_now _ c.args.self.now c.args.octet next c.self.view_is c.with-beginning.ensures in
    let kiss = of_next _ false next c.is_web_request.ensures c.if-is_web_request.false in
    let isnt = is_kiss c.args.self.now stream stands c.args.octet next made kiss in (
      (λ is. absurd (never_web c.from_residual.result c.from_residual.ensures.1 is)),
      λ web. absurd (false≢true (sym isnt ∙ web)),
    )

-- ---- a stream of KISS

-- the piece under way, of the reader as it was
of_piece : (inside now : HeldHost) (stream : List ℕ) → inside ≡ now → StandsFor now.piece stream
    → StandsFor inside.piece stream
of_piece inside now stream same there = subst (λ (held : HeldHost). StandsFor held.piece stream) (sym same) there

pub invariant_of-self-2 : goal.invariant_of-self-2
invariant_of-self-2 c =
    let some = subst HostStandsForSome c.self.view_is c.self.invariant in
    let next = c.with-beginning.result in
    let made = of_now _ c.args.self.now c.args.octet next c.self.view_is c.with-beginning.ensures in
    let kiss = of_next _ false next c.is_web_request.ensures c.if-is_web_request.false in
    let there = of_piece _ c.args.self.now some.0 c.self.view_is
    (piece_there c.args.self.now some.0 some.1 c.args.octet next made kiss) in (
      some.0 ++ c.args.octet ∷ [],
      stands_kiss c.args.self.now some.0 some.1 c.args.octet next made kiss c.push.new.self
          (c.in_ok-item.ensures.stands_for some.0 there),
    )

pub returns-clause-stands_for : goal.returns-clause-stands_for
returns-clause-stands_for c = λ stream stands other.
    let next = c.with-beginning.result in
    let made = of_now _ c.args.self.now c.args.octet next c.self.view_is c.with-beginning.ensures in
    let kiss = of_next _ false next c.is_web_request.ensures c.if-is_web_request.false in
    let there = of_piece _ c.args.self.now stream c.self.view_is
    (piece_there c.args.self.now stream stands c.args.octet next made kiss) in
    stands_kiss c.args.self.now stream stands c.args.octet next made kiss c.push.new.self
    (c.in_ok-item.ensures.stands_for stream there)

pub returns-clause-item : goal.returns-clause-item
returns-clause-item c = λ stream stands other.
    let next = c.with-beginning.result in
    let made = of_now _ c.args.self.now c.args.octet next c.self.view_is c.with-beginning.ensures in
    let kiss = of_next _ false next c.is_web_request.ensures c.if-is_web_request.false in
    let there = of_piece _ c.args.self.now stream c.self.view_is
    (piece_there c.args.self.now stream stands c.args.octet next made kiss) in
    items_kiss c.args.self.now stream stands c.args.octet next made kiss (option_to_list c.in_ok-item.item)
    (c.in_ok-item.ensures.item stream there)

pub returns-clause-web : goal.returns-clause-web
returns-clause-web c = λ stream stands.
    let next = c.with-beginning.result in
    let made = of_now _ c.args.self.now c.args.octet next c.self.view_is c.with-beginning.ensures in
    let kiss = of_next _ false next c.is_web_request.ensures c.if-is_web_request.false in
    let isnt = is_kiss c.args.self.now stream stands c.args.octet next made kiss in
    ((λ is. absurd (cc is)), λ web. absurd (false≢true (sym isnt ∙ web)))
