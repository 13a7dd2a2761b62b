-- What a step says to one connection.
use Rattle.tnc_ports.proofs.Common.{◌⊎◌, ◌==◌, ◌||◌, Bool, true, false, not, cond, filter, if◌then◌else◌, List, ◌∷◌}
use Rattle.tnc_ports.proofs.Common.{Option, Some, None, list_any, sym, ◌∙◌, ap, subst, arith, inl, inr, append_assoc}
use Rattle.tnc_ports.proofs.Common.{cases_Bool, cond-true, cond-false, le-leb, eqb-true, eq-eqb, or_parts, cases_eq}
use Rattle.tnc_ports.proofs.Common.{true≢false, false≢true, append-nil, HostEvent, Piece, Out, Client, Hosts, without}
use Rattle.tnc_ports.proofs.Common.{closing, cutting, waiting_too, with_waiting, fits, appending, appending_one}
use Rattle.tnc_ports.proofs.Common.{appending_to, closing_one, closing_all, delivering, client_of, is_client_of, is_among}
use Rattle.tnc_ports.proofs.Common.{is_there, octets_for, most_octets, octets_of, with_piece, front_of, after_sending}
use Rattle.std.specs.Prelude.{◌≡◌, ℕ, ◌+◌, ◌<◌, ◌≤◌, [], ◌++◌, length, take, refl}
use Rattle.std.proofs.Common.{length-append}
use Rattle.std.proofs.lemmas.Bool.{leb-true}
use Rattle.std.proofs.lemmas.Bool.Decides.{leb_tells}
use Rattle.tnc_ports.specs.StepShuts.{octets_waiting, octets_waiting_for, HearsStep}
use Rattle.host_ports.proofs.KeptLemmas.{IsKeptByStep, IsKeptByPart}
use Rattle.host_ports.proofs.ClientLemmas.{found_id, there_client}
use Rattle.host_ports.proofs.SentLemmas.{no_client_without, other_client_without, waiting_client, other_waiting_client}
use Rattle.host_ports.proofs.SentLemmas.{octets_of-with_piece, octets_of-sent}

-- ---- a piece for another connection

to_other : (client : Option Client) (piece : Piece) (hosts : Hosts) (id : ℕ) → client_of piece.id hosts.clients ≡ client
    → (piece.id ≡ id → ⊥) → client_of id (appending_to client piece hosts).clients ≡ client_of id hosts.clients
to_other None piece hosts id found differs = refl
to_other (Some client) piece hosts id found differs =
    let other : id ≡ client.id → ⊥ = λ same. differs (sym (found_id piece.id hosts.clients client found) ∙ sym same) in
    elim (cases_Bool (fits piece.octets client.waiting)) [
      | inl is ↦
          ap (λ (h : Hosts). client_of id h.clients) (cond-true (fits piece.octets client.waiting)
          (waiting_too piece client hosts) (cutting client.id hosts) is)
          ∙ other_waiting_client client.id id (with_piece piece.octets client.waiting) hosts.clients other
      | inr isnt ↦
          ap (λ (h : Hosts). client_of id h.clients) (cond-false (fits piece.octets client.waiting)
          (waiting_too piece client hosts) (cutting client.id hosts) isnt)
          ∙ other_client_without client.id id hosts.clients other
    ]

one_other : (closed : List ℕ) (piece : Piece) (hosts : Hosts) (id : ℕ) → (piece.id ≡ id → ⊥)
    → client_of id (appending_one closed piece hosts).clients ≡ client_of id hosts.clients
one_other closed piece hosts id differs = elim (cases_Bool (is_among piece.id closed)) [
  | inl is ↦ ap (λ (h : Hosts). client_of id h.clients)
      (cond-true (is_among piece.id closed) hosts (appending_to (client_of piece.id hosts.clients) piece hosts) is)
  | inr isnt ↦
      ap (λ (h : Hosts). client_of id h.clients) (cond-false (is_among piece.id closed) hosts
      (appending_to (client_of piece.id hosts.clients) piece hosts) isnt)
      ∙ to_other (client_of piece.id hosts.clients) piece hosts id refl differs
]

-- ---- a piece for the connection

-- one for a connection that is there, and that the step does not close
own : (closed : List ℕ) (piece : Piece) (hosts : Hosts) (client : Client) → is_among piece.id closed ≡ false
    → client_of piece.id hosts.clients ≡ Some client
    → appending_one closed piece hosts ≡ (if fits piece.octets client.waiting then waiting_too piece client hosts
    else cutting client.id hosts)
own closed piece hosts client unclosed found =
    cond-false (is_among piece.id closed) hosts (appending_to (client_of piece.id hosts.clients) piece hosts) unclosed
    ∙ ap (λ l. appending_to l piece hosts) found

own_fits : (closed : List ℕ) (piece : Piece) (hosts : Hosts) (client : Client) → is_among piece.id closed ≡ false
    → client_of piece.id hosts.clients ≡ Some client → fits piece.octets client.waiting ≡ true
    → client_of piece.id (appending_one closed piece hosts).clients
    ≡ Some (record client { waiting = with_piece piece.octets client.waiting })
own_fits closed piece hosts client unclosed found is =
    let same : client.id ≡ piece.id = found_id piece.id hosts.clients client found in
    let waiting : List (List ℕ) = with_piece piece.octets client.waiting in
    ap (λ (h : Hosts). client_of piece.id h.clients) (own closed piece hosts client unclosed found
    ∙ cond-true (fits piece.octets client.waiting) (waiting_too piece client hosts) (cutting client.id hosts) is)
    ∙ ap (λ n. client_of piece.id (with_waiting n waiting hosts.clients)) same
    ∙ waiting_client piece.id waiting hosts.clients client found

own_overflows : (closed : List ℕ) (piece : Piece) (hosts : Hosts) (client : Client) → is_among piece.id closed ≡ false
    → client_of piece.id hosts.clients ≡ Some client → fits piece.octets client.waiting ≡ false
    → client_of piece.id (appending_one closed piece hosts).clients ≡ None
own_overflows closed piece hosts client unclosed found isnt =
    let same : client.id ≡ piece.id = found_id piece.id hosts.clients client found in
    ap (λ (h : Hosts). client_of piece.id h.clients) (own closed piece hosts client unclosed found
    ∙ cond-false (fits piece.octets client.waiting) (waiting_too piece client hosts) (cutting client.id hosts) isnt)
    ∙ ap (λ n. client_of piece.id (filter (λ (l : Client). not (l.id == n)) hosts.clients)) same
    ∙ no_client_without piece.id hosts.clients

-- who is not there stays away
nobody_one : (closed : List ℕ) (piece : Piece) (hosts : Hosts) (id : ℕ) → client_of id hosts.clients ≡ None
    → client_of id (appending_one closed piece hosts).clients ≡ None
nobody_one closed piece hosts id none = elim (cases_Bool (piece.id == id)) [
  | inl is ↦ elim (cases_Bool (is_among piece.id closed)) [
    | inl among ↦ ap (λ (h : Hosts). client_of id h.clients)
        (cond-true (is_among piece.id closed) hosts (appending_to (client_of piece.id hosts.clients) piece hosts) among)
        ∙ none
    | inr unclosed ↦
        ap (λ (h : Hosts). client_of id h.clients)
        (cond-false (is_among piece.id closed) hosts (appending_to (client_of piece.id hosts.clients) piece hosts) unclosed
        ∙ ap (λ l. appending_to l piece hosts) (ap (λ n. client_of n hosts.clients) (eqb-true piece.id id is) ∙ none))
        ∙ none
  ]
  | inr isnt ↦ one_other closed piece hosts id (λ same. true≢false (sym (eq-eqb piece.id id same) ∙ isnt)) ∙ none
]

nobody : (closed : List ℕ) (pieces : List Piece) (hosts : Hosts) (id : ℕ) → client_of id hosts.clients ≡ None
    → client_of id (appending closed pieces hosts).clients ≡ None
nobody closed [] hosts id none = none
nobody closed (piece ∷ pieces) hosts id none = nobody closed pieces (appending_one closed piece hosts) id
    (nobody_one closed piece hosts id none)

-- ---- all pieces

own_octets : (id : ℕ) (piece : Piece) (pieces : List Piece) → (piece.id == id) ≡ true
    → octets_for id (piece ∷ pieces) ≡ piece.octets ++ octets_for id pieces
own_octets id piece pieces is = ap (λ octets. octets ++ octets_for id pieces)
    (cond-true (piece.id == id) piece.octets [] is)

other_octets : (id : ℕ) (piece : Piece) (pieces : List Piece) → (piece.id == id) ≡ false
    → octets_for id (piece ∷ pieces) ≡ octets_for id pieces
other_octets id piece pieces isnt = ap (λ octets. octets ++ octets_for id pieces)
    (cond-false (piece.id == id) piece.octets [] isnt)

le_fits : (piece : List ℕ) (waiting : List (List ℕ)) → length (octets_of waiting) + length piece ≤ most_octets
    → fits piece waiting ≡ true
le_fits piece waiting le = le-leb (length (octets_of waiting) + length piece) most_octets le

fits_le : (piece : List ℕ) (waiting : List (List ℕ)) → fits piece waiting ≡ true
    → length (octets_of waiting) + length piece ≤ most_octets
fits_le piece waiting is = leb-true (length (octets_of waiting) + length piece) most_octets is

length_own : (piece : List ℕ) (waiting : List (List ℕ)) → length (octets_of (with_piece piece waiting))
    ≡ length (octets_of waiting) + length piece
length_own piece waiting = ap length (octets_of-with_piece piece waiting) ∙ length-append (octets_of waiting) piece

pub all_wait : (closed : List ℕ) (pieces : List Piece) (hosts : Hosts) (id : ℕ) (client : Client)
    → is_among id closed ≡ false → client_of id hosts.clients ≡ Some client
    → length (octets_of client.waiting) + length (octets_for id pieces) ≤ most_octets
    → (next : Client) × (client_of id (appending closed pieces hosts).clients ≡ Some next)
    × (octets_of next.waiting ≡ octets_of client.waiting ++ octets_for id pieces)
all_wait closed [] hosts id client unclosed found few = (client, found, sym (append-nil (octets_of client.waiting)))
all_wait closed (piece ∷ pieces) hosts id client unclosed found few = elim (cases_Bool (piece.id == id)) [
  | inl is ↦
      let same : piece.id ≡ id = eqb-true piece.id id is in
      let size : length (octets_for id (piece ∷ pieces)) ≡ length piece.octets + length (octets_for id pieces) =
      ap length (own_octets id piece pieces is) ∙ length-append piece.octets (octets_for id pieces) in
      let next : Client = record client { waiting = with_piece piece.octets client.waiting } in
      let now : client_of id (appending_one closed piece hosts).clients ≡ Some next =
      subst (λ n. client_of n (appending_one closed piece hosts).clients ≡ Some next) same
      (own_fits closed piece hosts client (ap (λ n. is_among n closed) same ∙ unclosed)
      (ap (λ n. client_of n hosts.clients) same ∙ found) (le_fits piece.octets client.waiting (omega (arith, few, size))))
      in
      let rest = all_wait closed pieces (appending_one closed piece hosts) id next unclosed now
      (let more = length_own piece.octets client.waiting in omega (arith, few, size, more)) in (
        rest.0,
        rest.1,
        rest.2 ∙ ap (λ octets. octets ++ octets_for id pieces) (octets_of-with_piece piece.octets client.waiting)
            ∙ append_assoc (octets_of client.waiting) piece.octets (octets_for id pieces)
            ∙ ap (λ octets. octets_of client.waiting ++ octets) (sym (own_octets id piece pieces is)),
      )
  | inr isnt ↦
      let size = ap length (other_octets id piece pieces isnt) in
      let rest = all_wait closed pieces (appending_one closed piece hosts) id client unclosed
      (one_other closed piece hosts id (λ same. true≢false (sym (eq-eqb piece.id id same) ∙ isnt)) ∙ found)
      (omega (arith, few, size)) in (
        rest.0,
        rest.1,
        rest.2 ∙ ap (λ octets. octets_of client.waiting ++ octets)
            (sym (other_octets id piece pieces isnt)),
      )
]

pub some_overflow : (closed : List ℕ) (pieces : List Piece) (hosts : Hosts) (id : ℕ) (client : Client)
    → is_among id closed ≡ false → client_of id hosts.clients ≡ Some client
    → length (octets_of client.waiting) ≤ most_octets → most_octets
    < length (octets_of client.waiting) + length (octets_for id pieces)
    → client_of id (appending closed pieces hosts).clients ≡ None
some_overflow closed [] hosts id client unclosed found few many = absurd (omega (arith, few, many))
some_overflow closed (piece ∷ pieces) hosts id client unclosed found few many = elim (cases_Bool (piece.id == id)) [
  | inl is ↦
      let same : piece.id ≡ id = eqb-true piece.id id is in
      let size : length (octets_for id (piece ∷ pieces)) ≡ length piece.octets + length (octets_for id pieces) =
      ap length (own_octets id piece pieces is) ∙ length-append piece.octets (octets_for id pieces) in
      let stays : is_among piece.id closed ≡ false = ap (λ n. is_among n closed) same ∙ unclosed in
      let there : client_of piece.id hosts.clients ≡ Some client = ap (λ n. client_of n hosts.clients) same ∙ found in
      elim (cases_Bool (fits piece.octets client.waiting)) [
        | inl fit ↦
            let next : Client = record client { waiting = with_piece piece.octets client.waiting } in
            let more = length_own piece.octets client.waiting in
            let less = fits_le piece.octets client.waiting fit in
            some_overflow closed pieces (appending_one closed piece hosts) id next unclosed
            (subst (λ n. client_of n (appending_one closed piece hosts).clients ≡ Some next) same
            (own_fits closed piece hosts client stays there fit))
            (omega (arith, more, less)) (omega (arith, many, size, more))
        | inr not_fit ↦
            nobody closed pieces (appending_one closed piece hosts) id
            (subst (λ n. client_of n (appending_one closed piece hosts).clients ≡ None) same
            (own_overflows closed piece hosts client stays there not_fit))
      ]
  | inr isnt ↦
      let size = ap length (other_octets id piece pieces isnt) in
      some_overflow closed pieces (appending_one closed piece hosts) id client unclosed
      (one_other closed piece hosts id (λ same. true≢false (sym (eq-eqb piece.id id same) ∙ isnt)) ∙ found) few
      (omega (arith, many, size))
]

-- ---- those that the step closes

closed_clients : (id : ℕ) (hosts : Hosts) → (closing_one id hosts).clients
    ≡ filter (λ (client : Client). not (client.id == id)) hosts.clients
closed_clients id hosts = elim (cases_Bool (is_there id hosts)) [
  | inl is ↦ ap (λ (h : Hosts). h.clients) (cond-true (is_there id hosts) (closing id hosts) (without id hosts) is)
  | inr isnt ↦ ap (λ (h : Hosts). h.clients) (cond-false (is_there id hosts) (closing id hosts) (without id hosts) isnt)
]

stays_open : (ids : List ℕ) (hosts : Hosts) (id : ℕ) → is_among id ids ≡ false
    → client_of id (closing_all ids hosts).clients ≡ client_of id hosts.clients
stays_open [] hosts id unclosed = refl
stays_open (one ∷ ids) hosts id unclosed =
    let parts = or_parts (one == id) (is_among id ids) unclosed in
    stays_open ids (closing_one one hosts) id parts.1 ∙ ap (client_of id) (closed_clients one hosts)
    ∙ other_client_without one id hosts.clients (λ same. true≢false (sym (eq-eqb one id (sym same)) ∙ parts.0))

stays_away : (ids : List ℕ) (hosts : Hosts) (id : ℕ) → client_of id hosts.clients ≡ None
    → client_of id (closing_all ids hosts).clients ≡ None
stays_away [] hosts id none = none
stays_away (one ∷ ids) hosts id none =
    stays_away ids (closing_one one hosts) id (ap (client_of id) (closed_clients one hosts)
    ∙ elim (cases_Bool (one == id)) [
      | inl is ↦ subst (λ n. client_of n (filter (λ (client : Client). not (client.id == one)) hosts.clients) ≡ None)
          (eqb-true one id is) (no_client_without one hosts.clients)
      | inr isnt ↦ other_client_without one id hosts.clients (λ same. true≢false (sym (eq-eqb one id (sym same)) ∙ isnt))
          ∙ none
    ])

is_closed : (ids : List ℕ) (hosts : Hosts) (id : ℕ) → is_among id ids ≡ true
    → client_of id (closing_all ids hosts).clients ≡ None
is_closed [] hosts id among = absurd (false≢true among)
is_closed (one ∷ ids) hosts id among = elim (cases_Bool (one == id)) [
  | inl is ↦
      stays_away ids (closing_one one hosts) id
      (ap (client_of id) (closed_clients one hosts)
      ∙ subst (λ n. client_of n (filter (λ (client : Client). not (client.id == one)) hosts.clients) ≡ None)
      (eqb-true one id is) (no_client_without one hosts.clients))
  | inr isnt ↦ is_closed ids (closing_one one hosts) id (sym (ap (λ b. b || is_among id ids) isnt) ∙ among)
]

-- ---- the step

client_there : (id : ℕ) (clients : List Client) → list_any (is_client_of id) clients ≡ true
    → (client : Client) × (client_of id clients ≡ Some client)
client_there id [] there = absurd (false≢true there)
client_there id (client ∷ clients) there = elim (cases_Bool (client.id == id)) [
  | inl is ↦ (client, cond-true (client.id == id) (Some client) (client_of id clients) is)
  | inr isnt ↦
      let rest = client_there id clients (sym (ap (λ b. b || list_any (is_client_of id) clients) isnt) ∙ there) in
      (rest.0, cond-false (client.id == id) (Some client) (client_of id clients) isnt ∙ rest.1)
]

not_there : (id : ℕ) (clients : List Client) → client_of id clients ≡ None → list_any (is_client_of id) clients ≡ false
not_there id clients none = elim (cases_Bool (list_any (is_client_of id) clients)) [
  | inl is ↦ let some = client_there id clients is in absurd (let both : None ≡ Some some.0 = sym none ∙ some.1 in cc both)
  | inr isnt ↦ isnt
]

pub hears_step : (id : ℕ) (out : Out) (hosts : Hosts) → is_there id hosts ≡ true
    → length (octets_waiting_for id hosts) ≤ most_octets → HearsStep id out hosts
hears_step id out hosts there few =
    let at = client_there id hosts.clients there in
    let client : Client = at.0 in
    let same : octets_waiting_for id hosts ≡ octets_of client.waiting = ap octets_waiting at.1 in
    let size : length (octets_waiting_for id hosts) ≡ length (octets_of client.waiting) = ap length same in
    let appended : Hosts = appending out.closed out.pieces hosts in
    elim (cases_Bool (is_among id out.closed)) [
      | inl closes ↦
          let gone : client_of id (delivering out hosts).clients ≡ None = is_closed out.closed appended id closes in
          record {
            shut = ((λ none. inl closes), (λ by. not_there id (delivering out hosts).clients gone));
            waits = λ unclosed. absurd (unclosed (inl closes));
          }
      | inr unclosed ↦ elim (nat_split most_octets (length (octets_of client.waiting) + length
          (octets_for id out.pieces))) [
            | inl many ↦
                let gone : client_of id (delivering out hosts).clients ≡ None =
                stays_away out.closed appended id (some_overflow out.closed out.pieces hosts id client unclosed at.1
                (omega (arith, few, size)) many) in
                let over : most_octets < length (octets_waiting_for id hosts) + length (octets_for id out.pieces) =
                omega (arith, many, size) in
                record {
                  shut = ((λ none. inr over), (λ by. not_there id (delivering out hosts).clients gone));
                  waits = λ fine. absurd (fine (inr over));
                }
            | inr some ↦
                let all = all_wait out.closed out.pieces hosts id client unclosed at.1 some in
                let now : client_of id (delivering out hosts).clients ≡ Some all.0 =
                stays_open out.closed appended id unclosed ∙ all.1 in
                record {
                  shut = (
                    (λ none. absurd (true≢false (sym (there_client id (delivering out hosts).clients all.0 now) ∙ none))),
                    (λ by. absurd (elim by [
                      | inl closes ↦ true≢false (sym closes ∙ unclosed)
                      | inr over ↦ omega (arith, over, some, size)
                    ])),
                  );
                  waits = λ fine. ap octets_waiting now ∙ all.2 ∙ ap (λ octets. octets ++ octets_for id out.pieces)
                      (sym same);
                }
          ]
    ]
  where
    nat_split : (a b : ℕ) → (a < b) ⊎ (b ≤ a)
    nat_split a b = elim (leb_tells b a) [
      | inl le ↦ inr le.1
      | inr lt ↦ inl lt.1
    ]

-- ---- how much waits

abbrev pub FewWait : Hosts → Type 0
FewWait hosts = (id : ℕ) → length (octets_waiting_for id hosts) ≤ most_octets

few_none : (client : Option Client) → client ≡ None → length (octets_waiting client) ≤ most_octets
few_none client none = subst (λ l. length (octets_waiting l) ≤ most_octets) (sym none) (omega arith)

few_without : (id : ℕ) (hosts : Hosts) → FewWait hosts → FewWait (without id hosts)
few_without id hosts few = λ other. elim (cases_eq other id) [
  | inl same ↦ few_none (client_of other (without id hosts).clients) (ap (λ n. client_of n (without id hosts).clients) same
      ∙ no_client_without id hosts.clients)
  | inr differs ↦ subst (λ l. length (octets_waiting l) ≤ most_octets)
      (sym (other_client_without id other hosts.clients differs)) (few other)
]

few_waiting : (client : Client) (waiting : List (List ℕ)) (clients : List Client) → client_of client.id clients ≡ Some client
    → length (octets_of waiting) ≤ most_octets
    → ((id : ℕ) → length (octets_waiting (client_of id clients)) ≤ most_octets) → (id : ℕ)
    → length (octets_waiting (client_of id (with_waiting client.id waiting clients))) ≤ most_octets
few_waiting client waiting clients found less few id = elim (cases_eq id client.id) [
  | inl same ↦
      subst (λ l. length (octets_waiting l) ≤ most_octets)
      (sym (ap (λ n. client_of n (with_waiting client.id waiting clients)) same
      ∙ waiting_client client.id waiting clients client found)) less
  | inr differs ↦ subst (λ l. length (octets_waiting l) ≤ most_octets)
      (sym (other_waiting_client client.id id waiting clients differs)) (few id)
]

few_new : (b : Bool) (client : Client) → client.waiting ≡ [] → length (octets_waiting (cond b (Some client) None)) ≤ most_octets
few_new true client none = subst (λ waiting. length (octets_of waiting) ≤ most_octets) (sym none) (omega arith)
few_new false client none = omega arith

few_step : (b : Bool) (one : Client) (rest more : Option Client)
    → length (octets_waiting (cond b (Some one) rest)) ≤ most_octets
    → (length (octets_waiting rest) ≤ most_octets → length (octets_waiting more) ≤ most_octets)
    → length (octets_waiting (cond b (Some one) more)) ≤ most_octets
few_step true one rest more few later = few
few_step false one rest more few later = later few

few_joined : (id : ℕ) (clients : List Client) (client : Client) → client.waiting ≡ []
    → length (octets_waiting (client_of id clients)) ≤ most_octets
    → length (octets_waiting (client_of id (clients ++ client ∷ []))) ≤ most_octets
few_joined id [] client none few = few_new (client.id == id) client none
few_joined id (one ∷ clients) client none few = few_step (one.id == id) one (client_of id clients)
    (client_of id (clients ++ client ∷ [])) few (few_joined id clients client none)

pub few_by_step : IsKeptByStep FewWait
few_by_step = record {
  stepped = λ hosts station few. few;
  left = λ id hosts few. few_without id hosts few;
  shut = λ id hosts there few. few_without id hosts few;
  leaving = λ ids hosts few. few;
  piece = λ piece client hosts found fit few.
      few_waiting client (with_piece piece.octets client.waiting) hosts.clients
      (ap (λ n. client_of n hosts.clients) (found_id piece.id hosts.clients client found) ∙ found)
      (let more = length_own piece.octets client.waiting in let less = fits_le piece.octets client.waiting fit in
      omega (arith, more, less)) few;
}

pub few_by_part : (events : List HostEvent) → IsKeptByPart events FewWait
few_by_part events = record {
  taking = record {
    steps = few_by_step;
    untaken = λ untaken hosts few. few;
    joined = λ id hosts joins new few other. few_joined other hosts.clients (record { id = id; waiting = [] }) refl
        (few other);
  };
  sent = λ client count hosts found few.
      few_waiting client (after_sending count client.waiting) hosts.clients found
      (let at = few client.id in
      let now : length (octets_waiting_for client.id hosts) ≡ length (octets_of client.waiting) =
      ap (λ l. length (octets_waiting l)) found in
      let parts = ap length (octets_of-sent count client.waiting)
      ∙ length-append (take count (front_of client.waiting)) (octets_of (after_sending count client.waiting)) in
      omega (arith, at, now, parts)) few;
}
