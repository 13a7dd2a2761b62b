-- Which connections are shut: every change of hosts keeps the report's account of it.
use Rattle.tnc_ports.proofs.Common.{◌==◌, ◌||◌, Bool, true, false, not, cond, List, ◌∷◌, filter, list_any, sym, ◌∙◌, ap}
use Rattle.tnc_ports.proofs.Common.{subst, inl, inr, append_assoc, eqb-true, eq-eqb, ne_eqb, cases_Bool, or_parts}
use Rattle.tnc_ports.proofs.Common.{or_left, or_right, false≢true, true≢false, false_from_ne_true, flat_map-append}
use Rattle.tnc_ports.proofs.Common.{append-nil, Config, HostEvent, Piece, Client, ReportLine, ClosedLine, Hosts}
use Rattle.tnc_ports.proofs.Common.{new_hosts, without, closing, with_waiting, is_client_of, is_among, is_there}
use Rattle.tnc_ports.proofs.Common.{was_there, joining, ids_of_clients, NoneTwice, ids_closed, closed_by, with_piece}
use Rattle.tnc_ports.proofs.Common.{after_sending}
use Rattle.std.specs.Prelude.{◌≡◌, ℕ, [], ◌++◌, refl}
use Rattle.host_ports.proofs.KeptLemmas.{IsKeptByStep, IsKeptByPart, sending}
use Rattle.host_ports.proofs.ClientLemmas.{waiting_names}

-- ---- ids

pub among_snoc : (id : ℕ) (ids : List ℕ) (one : ℕ) → is_among id (ids ++ one ∷ []) ≡ (is_among id ids || (one == id))
among_snoc id [] one = or_none (one == id)
  where
    or_none : (b : Bool) → (b || false) ≡ b
    or_none true = refl
    or_none false = refl
among_snoc id (first ∷ ids) one = ap (λ b. (first == id) || b) (among_snoc id ids one)
    ∙ sym (or_assoc (first == id) (is_among id ids) (one == id))
  where
    or_assoc : (a b c : Bool) → ((a || b) || c) ≡ (a || (b || c))
    or_assoc true b c = refl
    or_assoc false b c = refl

pub none_twice-snoc : (ids : List ℕ) (id : ℕ) → NoneTwice ids → is_among id ids ≡ false → NoneTwice (ids ++ id ∷ [])
none_twice-snoc [] id once new = (refl, tt)
none_twice-snoc (first ∷ ids) id once new =
    let parts = or_parts (first == id) (is_among id ids) new in (
      among_snoc first ids id ∙ or_both (is_among first ids) (id == first) once.0
          (ne_eqb id first (λ same. true≢false (sym (eq-eqb first id (sym same)) ∙ parts.0))),
      none_twice-snoc ids id once.1 parts.1,
    )
  where
    or_both : (a b : Bool) → a ≡ false → b ≡ false → (a || b) ≡ false
    or_both true b x y = absurd (true≢false x)
    or_both false b x y = y

among_clients : (id : ℕ) (clients : List Client) → is_among id (ids_of_clients clients) ≡ list_any (is_client_of id) clients
among_clients id [] = refl
among_clients id (client ∷ clients) = ap (λ b. (client.id == id) || b) (among_clients id clients)

either : {P : Type 0} (a b : Bool) → (a ≡ true → P) → (b ≡ true → P) → (a || b) ≡ true → P
either true b f g e = f refl
either false b f g e = g e

-- ---- clients without one connection

abbrev others_of : ℕ → List Client → List Client
others_of id clients = filter (λ client. not (client.id == id)) clients

there_without : (id other : ℕ) (clients : List Client) → list_any (is_client_of other) (others_of id clients) ≡ true
    → list_any (is_client_of other) clients ≡ true
there_without id other [] there = there
there_without id other (client ∷ clients) there = elim (cases_Bool (client.id == id)) [
  | inl is ↦
      or_right (client.id == other) (list_any (is_client_of other) clients)
      (there_without id other clients
      (sym (ap (λ b. list_any (is_client_of other) (cond (not b) (client ∷ others_of id clients) (others_of id clients)))
      is) ∙ there))
  | inr isnt ↦
      step (client.id == other) (list_any (is_client_of other) (others_of id clients)) (list_any (is_client_of other) clients)
      (there_without id other clients)
      (sym (ap (λ b. list_any (is_client_of other) (cond (not b) (client ∷ others_of id clients) (others_of id clients))) isnt)
      ∙ there)
]
  where
    step : (b x y : Bool) → (x ≡ true → y ≡ true) → (b || x) ≡ true → (b || y) ≡ true
    step true x y f e = refl
    step false x y f e = f e

not_there_without : (id : ℕ) (clients : List Client) → list_any (is_client_of id) (others_of id clients) ≡ false
not_there_without id [] = refl
not_there_without id (client ∷ clients) = elim (cases_Bool (client.id == id)) [
  | inl is ↦ ap (λ b. list_any (is_client_of id) (cond (not b) (client ∷ others_of id clients) (others_of id clients))) is
      ∙ not_there_without id clients
  | inr isnt ↦
      ap (λ b. list_any (is_client_of id) (cond (not b) (client ∷ others_of id clients) (others_of id clients))) isnt
      ∙ ap (λ b. b || list_any (is_client_of id) (others_of id clients)) isnt ∙ not_there_without id clients
]

none_twice_without : (id : ℕ) (clients : List Client) → NoneTwice (ids_of_clients clients)
    → NoneTwice (ids_of_clients (others_of id clients))
none_twice_without id [] once = tt
none_twice_without id (client ∷ clients) once = elim (cases_Bool (client.id == id)) [
  | inl is ↦
      subst (λ b. NoneTwice (ids_of_clients (cond (not b) (client ∷ others_of id clients) (others_of id clients)))) (sym is)
      (none_twice_without id clients once.1)
  | inr isnt ↦
      subst (λ b. NoneTwice (ids_of_clients (cond (not b) (client ∷ others_of id clients) (others_of id clients)))) (sym isnt) (
        among_clients client.id (others_of id clients)
            ∙ contra (list_any (is_client_of client.id) (others_of id clients)) (list_any (is_client_of client.id) clients)
            (there_without id client.id clients) (sym (among_clients client.id clients) ∙ once.0),
        none_twice_without id clients once.1,
      )
]
  where
    contra : (x y : Bool) → (x ≡ true → y ≡ true) → y ≡ false → x ≡ false
    contra true y f isnt = absurd (true≢false (sym (f refl) ∙ isnt))
    contra false y f isnt = refl

ids_step : (b : Bool) (client : Client) (waiting : List (List ℕ)) (clients rest : List Client)
    → ids_of_clients rest ≡ ids_of_clients clients
    → ids_of_clients (cond b (record client { waiting = waiting } ∷ clients) (client ∷ rest)) ≡ client.id ∷ ids_of_clients clients
ids_step true client waiting clients rest same = refl
ids_step false client waiting clients rest same = ap (λ ids. client.id ∷ ids) same

ids_waiting : (id : ℕ) (waiting : List (List ℕ)) (clients : List Client)
    → ids_of_clients (with_waiting id waiting clients) ≡ ids_of_clients clients
ids_waiting id waiting [] = refl
ids_waiting id waiting (client ∷ clients) = ids_step (client.id == id) client waiting clients (with_waiting id waiting clients)
    (ids_waiting id waiting clients)

-- ---- the account

-- No connection is there twice, and each that is there came. The report calls those closed that were shut before these
-- turns and those that are to be shut, none twice; none of them is there.
pub record IsSound (gone : List ℕ) (hosts : Hosts) : Type 0 where
  pub one_client : NoneTwice (ids_of_clients hosts.clients)
  pub came : (id : ℕ) → is_there id hosts ≡ true → was_there id hosts ≡ true
  pub named : ids_closed hosts.report ≡ gone ++ hosts.to_shut
  pub once : NoneTwice (ids_closed hosts.report)
  pub gone_came : (id : ℕ) → is_among id (ids_closed hosts.report) ≡ true → was_there id hosts ≡ true
  pub not_there : (id : ℕ) → is_among id (ids_closed hosts.report) ≡ true → is_there id hosts ≡ false

sound_without : (gone : List ℕ) (id : ℕ) (hosts : Hosts) → IsSound gone hosts → IsSound gone (without id hosts)
sound_without gone id hosts h = record {
  one_client = none_twice_without id hosts.clients h.one_client;
  came = λ other there. h.came other (there_without id other hosts.clients there);
  named = h.named;
  once = h.once;
  gone_came = h.gone_came;
  not_there = λ other closed.
      false_from_ne_true (is_there other (without id hosts))
      (λ there. true≢false (sym (there_without id other hosts.clients there) ∙ h.not_there other closed));
}

sound_shut : (gone : List ℕ) (id : ℕ) (hosts : Hosts) → is_there id hosts ≡ true → IsSound gone hosts
    → IsSound gone (closing id hosts)
sound_shut gone id hosts there h =
    let more : ids_closed (hosts.report ++ ClosedLine id ∷ []) ≡ ids_closed hosts.report ++ id ∷ [] =
    flat_map-append closed_by hosts.report (ClosedLine id ∷ []) in
    let new : is_among id (ids_closed hosts.report) ≡ false =
    false_from_ne_true (is_among id (ids_closed hosts.report))
    (λ closed. true≢false (sym there ∙ h.not_there id closed)) in
    let o = sound_without gone id hosts h in
    record {
      one_client = o.one_client;
      came = o.came;
      named = more ∙ ap (λ ids. ids ++ id ∷ []) h.named ∙ append_assoc gone hosts.to_shut (id ∷ []);
      once = subst NoneTwice (sym more) (none_twice-snoc (ids_closed hosts.report) id h.once new);
      gone_came = λ other closed.
          either (is_among other (ids_closed hosts.report)) (id == other) (λ was. h.gone_came other was)
          (λ same. subst (λ n. was_there n hosts ≡ true) (eqb-true id other same) (h.came id there))
          (sym (ap (is_among other) more ∙ among_snoc other (ids_closed hosts.report) id) ∙ closed);
      not_there = λ other closed.
          either (is_among other (ids_closed hosts.report)) (id == other) (λ was. o.not_there other was)
          (λ same. subst (λ n. is_there n (without id hosts) ≡ false) (eqb-true id other same)
          (not_there_without id hosts.clients))
          (sym (ap (is_among other) more ∙ among_snoc other (ids_closed hosts.report) id) ∙ closed);
    }

-- with other pieces for one connection
sound_waiting : (gone : List ℕ) (id : ℕ) (waiting : List (List ℕ)) (appended sent : List Piece) (hosts : Hosts)
    → IsSound gone hosts
    → IsSound gone (record hosts { clients = with_waiting id waiting hosts.clients; appended = appended; sent = sent })
sound_waiting gone id waiting appended sent hosts h = record {
  one_client = subst NoneTwice (sym (ids_waiting id waiting hosts.clients)) h.one_client;
  came = λ other there. h.came other (sym (waiting_names id other waiting hosts.clients) ∙ there);
  named = h.named;
  once = h.once;
  gone_came = h.gone_came;
  not_there = λ other closed. waiting_names id other waiting hosts.clients ∙ h.not_there other closed;
}

pub sound_joining : (gone : List ℕ) (id : ℕ) (hosts : Hosts) → was_there id hosts ≡ false → IsSound gone hosts
    → IsSound gone (joining id hosts)
sound_joining gone id hosts new h =
    let client : Client = record { id = id; waiting = [] } in
    let nobody : is_there id hosts ≡ false = false_from_ne_true (is_there id hosts)
    (λ there. true≢false (sym (h.came id there) ∙ new)) in
    let ids : (clients : List Client) → ids_of_clients (clients ++ client ∷ []) ≡ ids_of_clients clients ++ id ∷ [] =
    λ clients. ids_more clients client in
    record {
      one_client = subst NoneTwice (sym (ids hosts.clients))
          (none_twice-snoc (ids_of_clients hosts.clients) id h.one_client (among_clients id hosts.clients ∙ nobody));
      came = λ other there.
          either (is_there other hosts) (id == other)
          (λ was. still other (h.came other was))
          (λ same. among_snoc other hosts.came id ∙ or_right (is_among other hosts.came) (id == other) same)
          (sym (clients_more other hosts.clients client) ∙ there);
      named = h.named;
      once = h.once;
      gone_came = λ other closed. still other (h.gone_came other closed);
      not_there = λ other closed.
          clients_more other hosts.clients client
          ∙ both_fail (is_there other hosts) (id == other) (h.not_there other closed)
          (ne_eqb id other (λ same. true≢false (sym (h.gone_came other closed)
          ∙ subst (λ n. was_there n hosts ≡ false) same new)));
    }
  where
    both_fail : (a b : Bool) → a ≡ false → b ≡ false → (a || b) ≡ false
    both_fail true b x y = absurd (true≢false x)
    both_fail false b x y = y

    ids_more : (clients : List Client) (one : Client) → ids_of_clients (clients ++ one ∷ []) ≡ ids_of_clients clients ++ one.id ∷ []
    ids_more [] one = refl
    ids_more (first ∷ clients) one = ap (λ ids. first.id ∷ ids) (ids_more clients one)

    clients_more : (other : ℕ) (clients : List Client) (one : Client) → list_any (is_client_of other) (clients ++ one ∷ [])
        ≡ (list_any (is_client_of other) clients || (one.id == other))
    clients_more other clients one =
        sym (among_clients other (clients ++ one ∷ [])) ∙ ap (is_among other) (ids_more clients one)
        ∙ among_snoc other (ids_of_clients clients) one.id
        ∙ ap (λ b. b || (one.id == other)) (among_clients other clients)

    still : (other : ℕ) → was_there other hosts ≡ true → was_there other (joining id hosts) ≡ true
    still other was = among_snoc other hosts.came id ∙ or_left (is_among other hosts.came) (id == other) was

pub sound_by_step : (gone : List ℕ) → IsKeptByStep (IsSound gone)
sound_by_step gone = record {
  stepped = λ hosts station h. record {
    one_client = h.one_client;
    came = h.came;
    named = h.named;
    once = h.once;
    gone_came = h.gone_came;
    not_there = h.not_there;
  };
  left = λ id hosts h. sound_without gone id hosts h;
  shut = λ id hosts there h. sound_shut gone id hosts there h;
  leaving = λ ids hosts h. record {
    one_client = h.one_client;
    came = h.came;
    named = h.named;
    once = h.once;
    gone_came = h.gone_came;
    not_there = h.not_there;
  };
  piece = λ piece client hosts found fit h. sound_waiting gone client.id (with_piece piece.octets client.waiting)
      (hosts.appended ++ piece ∷ []) hosts.sent hosts h;
}

pub sound_by_part : (gone : List ℕ) (events : List HostEvent) → IsKeptByPart events (IsSound gone)
sound_by_part gone events = record {
  taking = record {
    steps = sound_by_step gone;
    untaken = λ untaken hosts h. record {
      one_client = h.one_client;
      came = h.came;
      named = h.named;
      once = h.once;
      gone_came = h.gone_came;
      not_there = h.not_there;
    };
    joined = λ id hosts joins new h. sound_joining gone id hosts new h;
  };
  sent = λ client count hosts found h.
      sound_waiting gone client.id (after_sending count client.waiting) hosts.appended
      (sending client count hosts).sent hosts h;
}

-- with other lines that call the same connections closed
pub sound_relined : (gone : List ℕ) (report : List ReportLine) (hosts : Hosts)
    → ids_closed report ≡ ids_closed hosts.report → IsSound gone hosts → IsSound gone (record hosts { report = report })
sound_relined gone report hosts same h = record {
  one_client = h.one_client;
  came = h.came;
  named = same ∙ h.named;
  once = subst NoneTwice (sym same) h.once;
  gone_came = λ id closed. h.gone_came id (sym (ap (is_among id) same) ∙ closed);
  not_there = λ id closed. h.not_there id (sym (ap (is_among id) same) ∙ closed);
}

-- once the sockets are told who is to be shut
pub sound_told : (gone : List ℕ) (hosts : Hosts) → IsSound gone hosts
    → IsSound (gone ++ hosts.to_shut) (record hosts { to_shut = [] })
sound_told gone hosts h = record {
  one_client = h.one_client;
  came = h.came;
  named = h.named ∙ sym (append-nil (gone ++ hosts.to_shut));
  once = h.once;
  gone_came = h.gone_came;
  not_there = h.not_there;
}

pub sound_new : (config : Config) (seed : ℕ) → IsSound [] (new_hosts config seed)
sound_new config seed = record {
  one_client = tt;
  came = λ id there. absurd (false≢true there);
  named = refl;
  once = tt;
  gone_came = λ id closed. absurd (false≢true closed);
  not_there = λ id closed. absurd (false≢true closed);
}
