use Rattle.host_ports.proofs.Common.{ℕ, [], refl, sym, subst, inl, inr, HostEvent, AreShut, StandsFor, AreParts}
use Rattle.host_ports.proofs.Common.{Hosts, IsCutInSending, Asked, Offering, ArePaused, IsHostPart}
use Rattle.std.proofs.Common.{List}
use Rattle.host_ports.proofs.AskedLemmas.{asked_all, offered_nothing}
use Rattle.host_ports.proofs.GivenLemmas.{part_given}
use Rattle.host_ports.proofs.ResultLemmas.{on_err}
use Rattle.host_ports.proofs.OfferLemmas.{shut_nobody}
use Rattle.host_ports.proofs.SentLemmas.{orderly_part}
use Rattle.host_ports.proofs.host_side.HostSide.part.Goals as goal

pub returns-clause-part : goal.returns-clause-part
returns-clause-part g c = λ hosts printed s.
    let p : AreParts c.self.inside.parts printed hosts =
    (subst (λ v. StandsFor v printed hosts) (sym c.self.view_is) s).parts in
    let paused : List ℕ = c.deref.result.now in
    let events : List HostEvent = c.in_ok-events.events.items in
    let pauses : ArePaused hosts paused = subst (ArePaused hosts) (sym c.deref.ensures.value)
    (c.in_ok-paused.ensures.paused printed hosts p) in
    let tried = c.in_ok-try_untaken.ensures.moves printed hosts p in
    let taken = c.in_ok-take_all.ensures.moves printed tried.0 tried.2 in
    let offered = c.in_ok-offer_all.ensures.offers printed taken.0 taken.2 in
    let done = c.shut_all.ensures.parts printed offered.0.hosts offered.2 in
    let asked : Asked = record {
      paused = paused;
      events = events;
      offers = offered.0.offers;
      failed = offered.0.failed;
      shut = offered.0.hosts.to_shut;
    } in
    let next : Hosts = record offered.0.hosts { to_shut = [] } in
    let turn : IsHostPart asked hosts next = record {
      pauses = pauses;
      tried = tried.0;
      tries = tried.1;
      taken = taken.0;
      takes = taken.1;
      offered = offered.0;
      offers = offered.1;
      told = (refl, refl, refl);
      done = refl;
    } in
    let before = g.N.Ports.told
    c.offer_all.new.ports in
    let after = g.N.Ports.told
    c.shut_all.new.ports in
    let told : AreShut offered.0.hosts.to_shut before after =
    subst (λ ids. AreShut ids before after) (sym offered.2.to_shut) c.shut_all.ensures.shut in (
      asked,
      next,
      turn,
      record { live = refl; parts = done; orderly = orderly_part asked hosts next turn s.orderly },
      part_given asked hosts next turn,
      asked_all paused events offered.0.offers offered.0.failed offered.0.hosts.to_shut _ _ _ _
          c.in_ok-events.ensures.events c.in_ok-events.ensures.polled c.in_ok-events.ensures.sends
          c.in_ok-events.ensures.sent c.in_ok-events.ensures.shut c.in_ok-events.ensures.later offered.3 told,
    )

pub returns-in_err-try_untaken-clause-cut : goal.returns-in_err-try_untaken-clause-cut
returns-in_err-try_untaken-clause-cut g c = λ hosts printed s.
    let p : AreParts c.self.inside.parts printed hosts =
    (subst (λ v. StandsFor v printed hosts) (sym c.self.view_is) s).parts in
    let paused : List ℕ = c.deref.result.now in
    let events : List HostEvent = c.in_ok-events.events.items in
    let pauses : ArePaused hosts paused = subst (ArePaused hosts) (sym c.deref.ensures.value)
    (c.in_ok-paused.ensures.paused printed hosts p) in
    let asked : Asked = record { paused = paused; events = events; offers = []; failed = []; shut = [] } in
    on_err c.from_residual-in_err-try_untaken.result _ (inr (
      asked,
      hosts,
      inl (record { pauses = pauses; nothing = (refl, refl, refl); stays = refl }),
      asked_all paused events [] [] [] _ _ _ _ c.in_ok-events.ensures.events c.in_ok-events.ensures.polled
          c.in_ok-events.ensures.sends
          c.in_ok-events.ensures.sent c.in_ok-events.ensures.shut c.in_ok-events.ensures.later (offered_nothing _)
          (shut_nobody _),
    ))

pub returns-in_err-take_all-clause-cut : goal.returns-in_err-take_all-clause-cut
returns-in_err-take_all-clause-cut g c = λ hosts printed s.
    let p : AreParts c.self.inside.parts printed hosts =
    (subst (λ v. StandsFor v printed hosts) (sym c.self.view_is) s).parts in
    let paused : List ℕ = c.deref.result.now in
    let events : List HostEvent = c.in_ok-events.events.items in
    let pauses : ArePaused hosts paused = subst (ArePaused hosts) (sym c.deref.ensures.value)
    (c.in_ok-paused.ensures.paused printed hosts p) in
    let asked : Asked = record { paused = paused; events = events; offers = []; failed = []; shut = [] } in
    on_err c.from_residual-in_err-take_all.result _ (inr (
      asked,
      hosts,
      inl (record { pauses = pauses; nothing = (refl, refl, refl); stays = refl }),
      asked_all paused events [] [] [] _ _ _ _ c.in_ok-events.ensures.events c.in_ok-events.ensures.polled
          c.in_ok-events.ensures.sends
          c.in_ok-events.ensures.sent c.in_ok-events.ensures.shut c.in_ok-events.ensures.later (offered_nothing _)
          (shut_nobody _),
    ))

pub returns-in_err-offer_all-clause-cut : goal.returns-in_err-offer_all-clause-cut
returns-in_err-offer_all-clause-cut g c = λ hosts printed s.
    let p : AreParts c.self.inside.parts printed hosts =
    (subst (λ v. StandsFor v printed hosts) (sym c.self.view_is) s).parts in
    let paused : List ℕ = c.deref.result.now in
    let events : List HostEvent = c.in_ok-events.events.items in
    let pauses : ArePaused hosts paused = subst (ArePaused hosts) (sym c.deref.ensures.value)
    (c.in_ok-paused.ensures.paused printed hosts p) in
    let tried = c.in_ok-try_untaken.ensures.moves printed hosts p in
    let taken = c.in_ok-take_all.ensures.moves printed tried.0 tried.2 in
    let cut = c.in_err-offer_all.ensures.cut printed taken.0 taken.2 in
    let offered : Offering = cut.2 in
    let asked : Asked = record {
      paused = paused;
      events = events;
      offers = offered.offers;
      failed = offered.failed;
      shut = [];
    } in
    let part : IsCutInSending asked hosts offered.hosts = record {
      pauses = pauses;
      tried = tried.0;
      tries = tried.1;
      taken = taken.0;
      takes = taken.1;
      first = cut.0;
      others = cut.1;
      parts = cut.3;
      offered = offered;
      offers = cut.4;
      told = (refl, refl, refl);
      reaches = refl;
    } in
    on_err c.from_residual-in_err-offer_all.result _ (inr (
      asked,
      offered.hosts,
      inr (inl part),
      asked_all paused events offered.offers offered.failed []
          _ _ _ _ c.in_ok-events.ensures.events c.in_ok-events.ensures.polled c.in_ok-events.ensures.sends
          c.in_ok-events.ensures.sent c.in_ok-events.ensures.shut c.in_ok-events.ensures.later cut.5 (shut_nobody _),
    ))
