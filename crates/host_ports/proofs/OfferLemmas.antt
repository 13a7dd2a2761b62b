-- What connections are offered, one after another.
use Rattle.host_ports.proofs.Common.{◌≢◌, ◌==◌, ◌||◌, Bool, true, false, List, ◌∷◌, Option, Some, sym, ◌∙◌, ap, subst}
use Rattle.host_ports.proofs.Common.{arith, inl, inr, get_or, eqb-true, eq-eqb, cases_Bool, false≢true, true≢false}
use Rattle.host_ports.proofs.Common.{take_more, list_any-append, HasRisen, Piece, HostParts, Client, ReportLine, PortsTold}
use Rattle.host_ports.proofs.Common.{AreOffered, AreShut, AreParts, MovesBy, Hosts, cutting, with_waiting, client_of}
use Rattle.host_ports.proofs.Common.{is_among, AllHaveLeft, Offer, Offering, IsOffered, IsOfferedTo, InOrder, Poll, Send}
use Rattle.host_ports.proofs.Common.{has_come, front_of, after_sending}
use Rattle.std.specs.Prelude.{◌≡◌, ℕ, ◌+◌, ◌<◌, ◌≤◌, [], ◌++◌, length, take, refl}
use Rattle.host_ports.proofs.AskedLemmas.{offered_more, offered_in_vain}
use Rattle.host_ports.proofs.DeliverLemmas.{Waits, waits_stands}
use Rattle.host_ports.proofs.TakeLemmas.{in_order-snoc}

-- whatever was offered before, the connection is offered what it should, and the sockets tell it
abbrev pub OffersTo : ℕ → HostParts → PortsTold → HostParts → PortsTold → Type 0
OffersTo id a t b u =
    (printed : List ReportLine) (before : Offering) (start : PortsTold) → AreParts a printed before.hosts
    → AreOffered before.offers before.failed start t
    → (next : Offering) × IsOffered id before next × AreParts b printed next.hosts
    × AreOffered next.offers next.failed start u

as_offered : (id : ℕ) (client : Option Client) (before next : Offering) → client_of id before.hosts.clients ≡ client
    → IsOfferedTo client before next → IsOffered id before next
as_offered id client before next is offered = subst (λ l. IsOfferedTo l before next) (sym is) offered

-- what was sent so far is told by the definitions alone
with_sent : (a : HostParts) (printed : List ReportLine) (hosts : Hosts) (sent : List Piece) → AreParts a printed hosts
    → AreParts a printed (record hosts { sent = sent })
with_sent a printed hosts sent h = record {
  station = h.station;
  came = h.came;
  clients = h.clients;
  untaken = h.untaken;
  report = h.report;
  to_shut = h.to_shut;
  leaving = h.leaving;
}

-- a first part is taken
pub offers_part : (id : ℕ) (client : Client) (took : ℕ) (a b : HostParts) (t u : PortsTold)
    → client_of id a.clients.items ≡ Some client → client.id ≡ id → client.waiting ≢ [] → took ≤ length (front_of client.waiting)
    → Waits id (after_sending took client.waiting) a b → u.polls ≡ t.polls
    → ((polls : List Poll) (sends : List Send) → t.polls ≡ Some polls → t.sends ≡ Some sends
    → u.sends ≡ Some (sends ++ (record {
      id = id;
      polls = length polls;
      offered = length (front_of client.waiting);
      took = took;
    }) ∷ []))
    → ((octets : List ℕ) → t.sent id ≡ Some octets → u.sent id ≡ Some (octets ++ take took (front_of client.waiting)))
    → ((other : ℕ) → other ≢ id → u.sent other ≡ t.sent other) → ((other : ℕ) → u.is_shut other ≡ t.is_shut other)
    → t.faults ≤ u.faults
    → OffersTo id a t b u
offers_part id client took a b t u found same some part waits polled sends sent others shut later =
    λ printed before start h was.
    let front : List ℕ = front_of client.waiting in
    let offer : Offer = record { id = id; octets = front; took = took } in
    let rest : List (List ℕ) = after_sending took client.waiting in
    let next : Offering = record {
      hosts = record before.hosts {
        clients = with_waiting id rest before.hosts.clients;
        sent = before.hosts.sent ++ (record { id = id; octets = take took front }) ∷ [];
      };
      offers = before.offers ++ offer ∷ [];
      failed = before.failed;
    } in (
      next,
      as_offered id (Some client) before next (ap (client_of id) h.clients ∙ found) (inr (inl (
        some,
        record {
          took = took;
          part = part;
          rest = ap (λ n. record before.hosts {
            clients = with_waiting n rest before.hosts.clients;
            sent = before.hosts.sent ++ (record { id = n; octets = take took front }) ∷ [];
          }) (sym same);
          offered = ap (λ n. before.offers ++ (record { id = n; octets = front; took = took }) ∷ []) (sym same);
          no_failure = refl;
        },
      ))),
      with_sent b printed (record before.hosts { clients = with_waiting id rest before.hosts.clients })
          (before.hosts.sent ++ (record { id = id; octets = take took front }) ∷ [])
          (waits_stands id rest a b waits printed before.hosts h),
      offered_more before.offers before.failed offer start t u was polled sends sent others shut later,
    )

-- its send fails
pub offers_in_vain : (id : ℕ) (client : Client) (a b : HostParts) (t u : PortsTold) → client_of id a.clients.items ≡ Some client
    → client.id ≡ id → client.waiting ≢ []
    → MovesBy (λ before after. AllHaveLeft (cutting id before) after) a b
    → u.polls ≡ t.polls → u.sends ≡ t.sends → ((other : ℕ) → u.sent other ≡ t.sent other)
    → ((other : ℕ) → u.is_shut other ≡ t.is_shut other) → HasRisen t.faults u.faults → t.faults ≤ u.faults
    → OffersTo id a t b u
offers_in_vain id client a b t u found same some moves polled sends sent shut rises later = λ printed before start h was.
    let m = moves printed before.hosts h in
    let next : Offering = record { hosts = m.0; offers = before.offers; failed = before.failed ++ id ∷ [] } in (
      next,
      as_offered id (Some client) before next (ap (client_of id) h.clients ∙ found) (inr (inr (
        some,
        record {
          leave = subst (λ n. AllHaveLeft (cutting n before.hosts) m.0) (sym same) m.1;
          offered = refl;
          failure = ap (λ n. before.failed ++ n ∷ []) (sym same);
        },
      ))),
      m.2,
      offered_in_vain before.offers before.failed id start t u was polled sends sent shut rises later,
    )

-- all of them so far
abbrev pub OffersAll : List ℕ → HostParts → PortsTold → HostParts → PortsTold → Type 0
OffersAll ids a t b u =
    (printed : List ReportLine) (before : Offering) → AreParts a printed before.hosts
    → AreOffered before.offers before.failed t t
    → (next : Offering) × InOrder IsOffered ids before next × AreParts b printed next.hosts
    × AreOffered next.offers next.failed t u

pub offers_more : (ids : List ℕ) (i : ℕ) (a b c : HostParts) (t u v : PortsTold) → i < length ids
    → OffersAll (take i ids) a t b u → OffersTo (get_or ids i 0) b u c v → OffersAll (take (i + 1) ids) a t c v
offers_more ids i a b c t u v within first second = λ printed before h was.
    let one = first printed before h was in
    let two = second printed one.0 t one.2 one.3 in (
      two.0,
      subst (λ some. InOrder IsOffered some before two.0) (sym (take_more ids i 0 within))
          (in_order-snoc IsOffered (take i ids) (get_or ids i 0) before one.0 two.0 one.1 two.1),
      two.2,
      two.3,
    )

-- ---- the sockets are told who is shut

or_both : (a b : Bool) → (a || b) ≡ false → (a ≡ false) × (b ≡ false)
or_both true b none = absurd (true≢false none)
or_both false b none = (refl, none)

or_nothing : (b : Bool) → (b || false) ≡ b
or_nothing true = refl
or_nothing false = refl

among_more : (id : ℕ) (ids : List ℕ) (one : ℕ) (all : List ℕ) → all ≡ ids ++ one ∷ []
    → is_among id all ≡ (is_among id ids || (one == id))
among_more id ids one all is =
    ap (is_among id) is ∙ list_any-append (λ other. other == id) ids (one ∷ [])
    ∙ ap (λ t. is_among id ids || t) (or_nothing (one == id))

-- a connection that is told of stays told of
shut_or_not : {ids : List ℕ} {a b : PortsTold} → AreShut ids a b → (polls : List Poll) (id : ℕ) (was : Bool)
    → a.polls ≡ Some polls → has_come id polls ≡ true → a.is_shut id ≡ Some was
    → (state : Bool) × (b.is_shut id ≡ Some state)
shut_or_not {ids} {a} {b} before polls id was p come is = elim (cases_Bool (is_among id ids)) [
  | inl holds ↦ (true, before.shut polls id was p come is holds)
  | inr fails ↦ (was, before.others id fails ∙ is)
]

pub shut_more : (ids : List ℕ) (i : ℕ) (a b c : PortsTold) → i < length ids → AreShut (take i ids) a b
    → ((polls : List Poll) → b.polls ≡ Some polls → has_come (get_or ids i 0) polls ≡ true → (was : Bool)
    → b.is_shut (get_or ids i 0) ≡ Some was → c.is_shut (get_or ids i 0) ≡ Some true)
    → ((other : ℕ) → other ≢ get_or ids i 0 → c.is_shut other ≡ b.is_shut other) → c.polls ≡ b.polls → c.sends ≡ b.sends
    → ((other : ℕ) → c.sent other ≡ b.sent other) → b.faults ≤ c.faults
    → AreShut (take (i + 1) ids) a c
shut_more ids i a b c within before shut others polled sends sent later =
    let one : ℕ = get_or ids i 0 in
    let longer : (id : ℕ) → is_among id (take (i + 1) ids) ≡ (is_among id (take i ids) || (one == id)) =
    λ id. among_more id (take i ids) one (take (i + 1) ids) (take_more ids i 0 within) in
    record {
      polled = polled ∙ before.polled;
      sends = sends ∙ before.sends;
      sent = λ id. sent id ∙ before.sent id;
      shut = λ polls id was p come is among. elim (cases_Bool (one == id)) [
        | inl holds ↦
            let same : one ≡ id = eqb-true one id holds in
            let now : (state : Bool) × (b.is_shut id ≡ Some state) = shut_or_not before polls id was p come is in
            subst (λ n. c.is_shut n ≡ Some true) same (shut polls (before.polled ∙ p)
            (subst (λ n. has_come n polls ≡ true) (sym same) come) now.0 (ap b.is_shut same ∙ now.1))
        | inr fails ↦
            others id (λ e. true≢false (sym (eq-eqb one id (sym e)) ∙ fails))
            ∙ before.shut polls id was p come is (sym (ap (λ t. is_among id (take i ids) || t) fails
            ∙ or_nothing (is_among id (take i ids))) ∙ sym (longer id) ∙ among)
      ];
      others = λ id not_among.
          let parts = or_both (is_among id (take i ids)) (one == id) (sym (longer id) ∙ not_among) in
          others id (λ e. true≢false (sym (eq-eqb one id (sym e)) ∙ parts.1)) ∙ before.others id parts.0;
      later = let e = before.later in omega (arith, later);
    }

pub shut_nobody : (t : PortsTold) → AreShut [] t t
shut_nobody t = record {
  polled = refl;
  sends = refl;
  sent = λ id. refl;
  shut = λ polls id was p come is among. absurd (false≢true among);
  others = λ id not_among. refl;
  later = omega arith;
}
