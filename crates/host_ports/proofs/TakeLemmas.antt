-- What comes from connections, one after another.
use Rattle.host_ports.proofs.Common.{◌==◌, ◌||◌, Bool, true, false, List, ◌∷◌, list_any, sym, ◌∙◌, ap, subst, arith, inl}
use Rattle.host_ports.proofs.Common.{inr, or_left, append-nil}
use Rattle.host_ports.proofs.Common.{list_any-append, Joined, Bytes, Left, PortKind, IsHostTurn, HostParts, ReportLine}
use Rattle.host_ports.proofs.Common.{AreParts, Moves, MovesBy, IsKnown, is_known, Hosts, without, was_there, is_client_of}
use Rattle.host_ports.proofs.Common.{is_among, IsStep, InOrder, HasToWait, AreTaken, joining, is_within}
use Rattle.std.specs.Prelude.{◌≡◌, ℕ, [], ◌++◌, length, refl}
use Rattle.station.specs.StandsFor.{StandsFor as StandsForStation}
use Rattle.host_ports.specs.HostTurns.{HasJoined, HasLeft, holding}

pub in_order-snoc : {A S : Type 0} (step : A → S → S → Type 0) (xs : List A) (x : A) (a b c : S) → InOrder step xs a b
    → step x b c → InOrder step (xs ++ x ∷ []) a c
in_order-snoc step [] x a b c run one = (c, subst (λ s. step x s c) run one, refl)
in_order-snoc step (y ∷ xs) x a b c run one = (run.0, run.1, in_order-snoc step xs x run.0 b c run.2 one)

-- ---- octets

-- the parts with octets that wait
pub record Holds (id : ℕ) (octets : List ℕ) (a b : HostParts) : Type 0 where
  pub station : b.station ≡ a.station
  pub came : b.came ≡ a.came
  pub clients : b.clients ≡ a.clients
  pub untaken : b.untaken.items ≡ a.untaken.items ++ (record { id = id; octets = octets }) ∷ []
  pub report : b.report ≡ a.report
  pub to_shut : b.to_shut ≡ a.to_shut
  pub leaving : b.leaving ≡ a.leaving

pub holds_on : (id : ℕ) (octets : List ℕ) (a b : HostParts) → list_any (is_client_of id) a.clients.items ≡ true
    → ((printed : List ReportLine) (hosts : Hosts) → AreParts a printed hosts → HasToWait id hosts)
    → Holds id octets a b → MovesBy (AreTaken id octets) a b
holds_on id octets a b there waits s = λ printed hosts h. (
  holding id octets hosts,
  inr (inl (ap (list_any (is_client_of id)) h.clients ∙ there, waits printed hosts h, refl)),
  record {
    station = subst (λ t. StandsForStation t hosts.station) (sym s.station) h.station;
    came = λ other. ap (λ ranges. is_within other ranges.items) s.came ∙ h.came other;
    clients = h.clients ∙ ap (λ clients. clients.items) (sym s.clients);
    untaken = ap (λ all. all ++ (record { id = id; octets = octets }) ∷ []) h.untaken ∙ sym s.untaken;
    report = h.report ∙ ap (λ report. printed ++ report.items) (sym s.report);
    to_shut = h.to_shut ∙ ap (λ ids. ids.items) (sym s.to_shut);
    leaving = h.leaving ∙ ap (λ ids. ids.items) (sym s.leaving);
  },
)

pub takes_now : (id : ℕ) (octets : List ℕ) (a b : HostParts) → list_any (is_client_of id) a.clients.items ≡ true
    → ((printed : List ReportLine) (hosts : Hosts) → AreParts a printed hosts → ¬ HasToWait id hosts)
    → MovesBy (IsStep (IsHostTurn (Bytes id octets))) a b → MovesBy (AreTaken id octets) a b
takes_now id octets a b there goes moves = λ printed hosts h.
    let m = moves printed hosts h in
    (m.0, inr (inr (ap (list_any (is_client_of id)) h.clients ∙ there, goes printed hosts h, m.1)), m.2)

-- who is there is known
pub there_known : (id : ℕ) (a : HostParts) → IsKnown a → list_any (is_client_of id) a.clients.items ≡ true
    → is_known id a ≡ true
there_known id a known there = known.known id (or_left (list_any (is_client_of id) a.clients.items)
    (is_among id a.leaving.items) there)

-- ---- a connection leaves

pub left_there : (id : ℕ) (a b c : HostParts) → list_any (is_client_of id) a.clients.items ≡ true → Moves (without id) a b
    → MovesBy (IsStep (IsHostTurn (Left id))) b c → MovesBy (HasLeft id) a c
left_there id a b c there first second = λ printed hosts h.
    let m = second printed (without id hosts) (first printed hosts h) in
    (m.0, inr (ap (list_any (is_client_of id)) h.clients ∙ there, m.1), m.2)

-- ---- a connection joins

-- the parts with the new connection
pub record JoinsParts (id : ℕ) (a b : HostParts) : Type 0 where
  pub station : b.station ≡ a.station
  pub came : (other : ℕ) → is_within other b.came.items ≡ (is_within other a.came.items || (id == other))
  pub clients : b.clients.items ≡ a.clients.items ++ (record { id = id; waiting = [] }) ∷ []
  pub untaken : b.untaken ≡ a.untaken
  pub report : b.report ≡ a.report
  pub to_shut : b.to_shut ≡ a.to_shut
  pub leaving : b.leaving ≡ a.leaving

or_nothing : (b : Bool) → (b || false) ≡ b
or_nothing true = refl
or_nothing false = refl

pub joins_moves : (id : ℕ) (a b : HostParts) → JoinsParts id a b → Moves (joining id) a b
joins_moves id a b s = λ printed hosts h. record {
  station = subst (λ t. StandsForStation t hosts.station) (sym s.station) h.station;
  came = λ other.
      s.came other ∙ ap (λ t. t || (id == other)) (h.came other)
      ∙ ap (λ t. was_there other hosts || t) (sym (or_nothing (id == other)))
      ∙ sym (list_any-append (λ one. one == other) hosts.came (id ∷ []));
  clients = ap (λ all. all ++ (record { id = id; waiting = [] }) ∷ []) h.clients ∙ sym s.clients;
  untaken = h.untaken ∙ ap (λ all. all.items) (sym s.untaken);
  report = h.report ∙ ap (λ report. printed ++ report.items) (sym s.report);
  to_shut = h.to_shut ∙ ap (λ ids. ids.items) (sym s.to_shut);
  leaving = h.leaving ∙ ap (λ ids. ids.items) (sym s.leaving);
}

pub joined_anew : (id : ℕ) (kind : PortKind) (a b c : HostParts) → is_within id a.came.items ≡ false → JoinsParts id a b
    → MovesBy (IsStep (IsHostTurn (Joined id kind))) b c → MovesBy (HasJoined id kind) a c
joined_anew id kind a b c new s second = λ printed hosts h.
    let m = second printed (joining id hosts) (joins_moves id a b s printed hosts h) in
    (m.0, inr (sym (h.came id) ∙ new, m.1), m.2)

-- ---- one after another

pub runs_more : {A : Type 0} (step : A → Hosts → Hosts → Type 0) (xs : List A) (x : A) (a b c : HostParts)
    → MovesBy (InOrder step xs) a b → MovesBy (step x) b c → MovesBy (InOrder step (xs ++ x ∷ [])) a c
runs_more step xs x a b c first second = λ printed hosts h.
    let one = first printed hosts h in
    let two = second printed one.0 one.2 in
    (two.0, in_order-snoc step xs x hosts one.0 two.0 one.1 two.1, two.2)

-- what was not taken is put aside
pub put_aside : (a b : HostParts) (printed : List ReportLine) (hosts : Hosts) → b.station ≡ a.station → b.came ≡ a.came
    → b.clients ≡ a.clients → b.report ≡ a.report → b.to_shut ≡ a.to_shut → b.leaving ≡ a.leaving → b.untaken.items ≡ []
    → AreParts a printed hosts → AreParts b printed (record hosts { untaken = [] })
put_aside a b printed hosts station came clients report to_shut leaving none h = record {
  station = subst (λ t. StandsForStation t hosts.station) (sym station) h.station;
  came = λ other. ap (λ ranges. is_within other ranges.items) came ∙ h.came other;
  clients = h.clients ∙ ap (λ all. all.items) (sym clients);
  untaken = sym none;
  report = h.report ∙ ap (λ all. printed ++ all.items) (sym report);
  to_shut = h.to_shut ∙ ap (λ ids. ids.items) (sym to_shut);
  leaving = h.leaving ∙ ap (λ ids. ids.items) (sym leaving);
}

pub whole_list : {A : Type 0} (all yielded rest : List A) → all ≡ yielded ++ rest → length rest ≡ 0 → yielded ≡ all
whole_list all yielded [] parts none = sym (parts ∙ append-nil yielded)
whole_list all yielded (x ∷ rest) parts none = absurd (omega arith)
