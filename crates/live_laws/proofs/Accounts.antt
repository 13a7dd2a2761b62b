-- The account of one connection, step by step: it has not joined yet, it is there, or it has gone.
use Rattle.tnc_ports.proofs.Common.{◌≡◌, ◌≢◌, ◌⊎◌, ℕ, Bool, true, false, List, [], ◌∷◌, ◌++◌, refl, sym, ap, ◌∙◌, subst, inl}
use Rattle.tnc_ports.proofs.Common.{inr, append-nil, append_assoc, true≢false, flat_map-append, cases_eq}
use Rattle.tnc_ports.proofs.Common.{cases_Bool, ne_eqb, or_right, Piece, Hosts, without, cutting, joining}
use Rattle.tnc_ports.proofs.Common.{delivering, is_among, is_there, was_there, list_any-append, ◌||◌, ◌==◌, eq-eqb}
use Rattle.std.specs.List.{AllByRecursion as Each}
use Rattle.station.specs.State.{StationState}
use Rattle.link_world.proofs.law.Each.{each_append}
use Rattle.call_laws.specs.Client.{pieces_for}
use Rattle.call_laws.proofs.Sayings.{pieces_both}
use Rattle.live_laws.specs.LiveSteps.{OwnStep}
use Rattle.live_laws.specs.Taken.{StaysIn, said}
use Rattle.live_laws.proofs.Delivering.{Hears, IsShort, Stands, StaysAway, StaysOrGoes, delivers_away, delivers_closed}
use Rattle.live_laws.proofs.Delivering.{delivers_heard, gone_without, or_nothing, stands_cutting, stands_without}
use Rattle.live_laws.proofs.Delivering.{station_delivering}
use Rattle.live_laws.proofs.Strangers.{IsUnknown}

-- The steps so far, the station, what is appended, whether it is there, whether it ever came, and whether the station is
-- to be told that it left.
pub record NotYet (id : ℕ) (steps : List OwnStep) (s : StationState) (appended : List Piece) (there came leaves : Bool)
    : Type 0 where
  pub unknown : IsUnknown id s
  pub stays : Each (StaysIn id) steps
  pub none : pieces_for id appended ≡ []
  pub absent : there ≡ false
  pub new : came ≡ false
  pub free : leaves ≡ false

pub record IsPresent (id : ℕ) (steps : List OwnStep) (appended : List Piece) (there came leaves : Bool) : Type 0 where
  pub earlier : List OwnStep
  pub since : List OwnStep
  pub parts : steps ≡ earlier ++ since
  pub stays : Each (StaysIn id) steps
  pub pieces : pieces_for id (said since) ≡ pieces_for id appended
  pub short : Each IsShort (pieces_for id appended)
  pub present : there ≡ true
  pub known : came ≡ true
  pub free : leaves ≡ false

pub record HasGone (id : ℕ) (steps : List OwnStep) (appended : List Piece) (there came : Bool) : Type 0 where
  pub earlier : List OwnStep
  pub since : List OwnStep
  pub later : List OwnStep
  pub parts : steps ≡ earlier ++ (since ++ later)
  pub stays : Each (StaysIn id) (earlier ++ since)
  pub more : List Piece
  pub pieces : pieces_for id (said since) ≡ pieces_for id appended ++ more
  pub short : Each IsShort (pieces_for id appended)
  pub absent : there ≡ false
  pub known : came ≡ true

abbrev pub AccountOf : ℕ → List OwnStep → StationState → List Piece → Bool → Bool → Bool → Type 0
AccountOf id steps s appended there came leaves =
    NotYet id steps s appended there came leaves ⊎ IsPresent id steps appended there came leaves
    ⊎ HasGone id steps appended there came

-- of some hosts, if the station is another one
abbrev pub AccountAt : ℕ → List OwnStep → StationState → Hosts → Type 0
AccountAt id steps s hosts =
    AccountOf id steps s hosts.appended (is_there id hosts) (was_there id hosts) (is_among id hosts.leaving)

abbrev pub Account : ℕ → List OwnStep → Hosts → Type 0
Account id steps hosts = AccountAt id steps hosts.station hosts

-- ---- lists

said_append : (first second : List OwnStep) → said (first ++ second) ≡ said first ++ said second
said_append first second = flat_map-append (λ (step : OwnStep). step.after.out.pieces) first second

said_one : (id : ℕ) (steps : List OwnStep) (step : OwnStep)
    → pieces_for id (said (steps ++ step ∷ [])) ≡ pieces_for id (said steps) ++ pieces_for id step.after.out.pieces
said_one id steps step =
    ap (pieces_for id) (said_append steps (step ∷ []))
    ∙ ap (λ ps. pieces_for id (said steps ++ ps)) (append-nil step.after.out.pieces)
    ∙ pieces_both id (said steps) step.after.out.pieces

each_more : (id : ℕ) (steps : List OwnStep) (step : OwnStep) → Each (StaysIn id) steps → StaysIn id step
    → Each (StaysIn id) (steps ++ step ∷ [])
each_more id steps step h one = each_append (StaysIn id) steps (step ∷ []) h (one, tt)

later_parts : (earlier since later : List OwnStep) (steps : List OwnStep) (step : OwnStep)
    → steps ≡ earlier ++ (since ++ later) → steps ++ step ∷ [] ≡ earlier ++ (since ++ (later ++ step ∷ []))
later_parts earlier since later steps step is =
    ap (λ xs. xs ++ step ∷ []) is ∙ append_assoc earlier (since ++ later) (step ∷ [])
    ∙ ap (λ xs. earlier ++ xs) (append_assoc since later (step ∷ []))

-- ---- changes that make no step

-- nothing of it changes
pub account_stands : (id : ℕ) (steps : List OwnStep) (s : StationState) (a b : Hosts) → Stands id a b
    → AccountAt id steps s a → AccountAt id steps s b
account_stands id steps s a b h account = go account
  where
    go : AccountAt id steps s a → AccountAt id steps s b
    go (inl k) = inl (record {
      unknown = k.unknown;
      stays = k.stays;
      none = h.appended ∙ k.none;
      absent = h.there ∙ k.absent;
      new = h.came ∙ k.new;
      free = h.leaves ∙ k.free;
    })
    go (inr (inl k)) = inr (inl (record {
      earlier = k.earlier;
      since = k.since;
      parts = k.parts;
      stays = k.stays;
      pieces = k.pieces ∙ sym h.appended;
      short = subst (Each IsShort) (sym h.appended) k.short;
      present = h.there ∙ k.present;
      known = h.came ∙ k.known;
      free = h.leaves ∙ k.free;
    }))
    go (inr (inr k)) = inr (inr (record {
      earlier = k.earlier;
      since = k.since;
      later = k.later;
      parts = k.parts;
      stays = k.stays;
      more = k.more;
      pieces = k.pieces ∙ ap (λ ps. ps ++ k.more) (sym h.appended);
      short = subst (Each IsShort) (sym h.appended) k.short;
      absent = h.there ∙ k.absent;
      known = h.came ∙ k.known;
    }))

-- it goes
pub goes_now : (id : ℕ) (steps : List OwnStep) (a b : Hosts) → pieces_for id b.appended ≡ pieces_for id a.appended
    → was_there id b ≡ was_there id a → is_there id b ≡ false
    → IsPresent id steps a.appended (is_there id a) (was_there id a) (is_among id a.leaving)
    → HasGone id steps b.appended (is_there id b) (was_there id b)
goes_now id steps a b appended came absent k = record {
  earlier = k.earlier;
  since = k.since;
  later = [];
  parts = k.parts ∙ ap (λ xs. k.earlier ++ xs) (sym (append-nil k.since));
  stays = subst (Each (StaysIn id)) k.parts k.stays;
  more = [];
  pieces = k.pieces ∙ sym appended ∙ sym (append-nil (pieces_for id b.appended));
  short = subst (Each IsShort) (sym appended) k.short;
  absent = absent;
  known = came ∙ k.known;
}

-- one whose send fails is shut
pub account_cutting : (id other : ℕ) (steps : List OwnStep) (hosts : Hosts) → is_there other hosts ≡ true
    → Account id steps hosts → Account id steps (cutting other hosts)
account_cutting id other steps hosts present account = elim (cases_eq other id) [
  | inl same ↦ own same account
  | inr differs ↦ account_stands id steps hosts.station hosts (cutting other hosts) (stands_cutting id other hosts differs) account
]
  where
    gone : other ≡ id → is_there id (cutting other hosts) ≡ false
    gone same = subst (λ n. is_there id (without n hosts) ≡ false) (sym same) (gone_without id hosts)

    own : other ≡ id → Account id steps hosts → Account id steps (cutting other hosts)
    own same (inl k) =
        absurd (true≢false (sym (subst (λ n. is_there n hosts ≡ true) same present) ∙ k.absent))
    own same (inr (inl k)) = inr (inr (goes_now id steps hosts (cutting other hosts) refl refl (gone same) k))
    own same (inr (inr k)) = inr (inr (record {
      earlier = k.earlier;
      since = k.since;
      later = k.later;
      parts = k.parts;
      stays = k.stays;
      more = k.more;
      pieces = k.pieces;
      short = k.short;
      absent = gone same;
      known = k.known;
    }))

-- one joins
pub account_joining : (id other : ℕ) (steps : List OwnStep) (hosts : Hosts) → was_there other hosts ≡ false
    → Account id steps hosts → Account id steps (joining other hosts)
account_joining id other steps hosts new account = elim (cases_eq other id) [
  | inl same ↦ own same account
  | inr differs ↦ account_stands id steps hosts.station hosts (joining other hosts) (stands differs) account
]
  where
    there_more : is_there id (joining other hosts) ≡ (is_there id hosts || ((other == id) || false))
    there_more = list_any-append (λ client. client.id == id) hosts.clients ((record { id = other; waiting = [] }) ∷ [])

    came_more : was_there id (joining other hosts) ≡ (was_there id hosts || ((other == id) || false))
    came_more = list_any-append (λ one. one == id) hosts.came (other ∷ [])

    is_it : other ≡ id → (b : Bool) → (b || ((other == id) || false)) ≡ true
    is_it same b = or_right b ((other == id) || false) (ap (λ c. c || false) (eq-eqb other id same))

    is_not : (other ≡ id → ⊥) → (b : Bool) → (b || ((other == id) || false)) ≡ b
    is_not differs b = or_nothing b ((other == id) || false) (ap (λ c. c || false) (ne_eqb other id differs))

    stands : (other ≡ id → ⊥) → Stands id hosts (joining other hosts)
    stands differs = record {
      appended = refl;
      there = there_more ∙ is_not differs (is_there id hosts);
      came = came_more ∙ is_not differs (was_there id hosts);
      leaves = refl;
    }

    own : other ≡ id → Account id steps hosts → Account id steps (joining other hosts)
    own same (inl k) = inr (inl (record {
      earlier = steps;
      since = [];
      parts = sym (append-nil steps);
      stays = k.stays;
      pieces = sym k.none;
      short = subst (Each IsShort) (sym k.none) tt;
      present = there_more ∙ is_it same (is_there id hosts);
      known = came_more ∙ is_it same (was_there id hosts);
      free = k.free;
    }))
    own same (inr (inl k)) = absurd (true≢false (sym k.known ∙ subst (λ n. was_there n hosts ≡ false) same new))
    own same (inr (inr k)) = absurd (true≢false (sym k.known ∙ subst (λ n. was_there n hosts ≡ false) same new))

-- who joins has come
pub came_now : (id : ℕ) (hosts : Hosts) → was_there id (joining id hosts) ≡ true
came_now id hosts =
    list_any-append (λ one. one == id) hosts.came (id ∷ [])
    ∙ or_right (was_there id hosts) ((id == id) || false) (ap (λ c. c || false) (eq-eqb id id refl))

-- ---- a step

-- of one that has gone
gone_delivered : (id : ℕ) (steps : List OwnStep) (step : OwnStep) (hosts : Hosts)
    → HasGone id steps hosts.appended (is_there id hosts) (was_there id hosts)
    → let now = delivering step.after.out hosts in
    HasGone id (steps ++ step ∷ []) now.appended (is_there id now) (was_there id now)
gone_delivered id steps step hosts k =
    let d = delivers_away id step.after.out hosts k.absent in
    record {
      earlier = k.earlier;
      since = k.since;
      later = k.later ++ step ∷ [];
      parts = later_parts k.earlier k.since k.later steps step k.parts;
      stays = k.stays;
      more = k.more;
      pieces = k.pieces ∙ ap (λ ps. ps ++ k.more) (sym d.appended);
      short = subst (Each IsShort) (sym d.appended) k.short;
      absent = d.absent;
      known = d.came ∙ k.known;
    }

-- of one that is there: it hears the step
heard_delivered : (id : ℕ) (steps : List OwnStep) (step : OwnStep) (hosts : Hosts)
    → IsPresent id steps hosts.appended (is_there id hosts) (was_there id hosts) (is_among id hosts.leaving)
    → StaysIn id step → Hears id step.after.out.pieces hosts (delivering step.after.out hosts)
    → Account id (steps ++ step ∷ []) (delivering step.after.out hosts)
heard_delivered id steps step hosts k stays d = go d.now
  where
    now : Hosts
    now = delivering step.after.out hosts

    parts : steps ++ step ∷ [] ≡ k.earlier ++ (k.since ++ step ∷ [])
    parts = ap (λ xs. xs ++ step ∷ []) k.parts ∙ append_assoc k.earlier k.since (step ∷ [])

    all_stay : Each (StaysIn id) (steps ++ step ∷ [])
    all_stay = each_more id steps step k.stays stays

    pieces : pieces_for id (said (k.since ++ step ∷ [])) ≡ pieces_for id now.appended ++ d.more
    pieces =
        said_one id k.since step ∙ ap (λ ps. ps ++ pieces_for id step.after.out.pieces) k.pieces
        ∙ ap (λ ps. pieces_for id hosts.appended ++ ps) d.parts
        ∙ sym (append_assoc (pieces_for id hosts.appended) d.first d.more)
        ∙ ap (λ ps. ps ++ d.more) (sym d.appended)

    short : Each IsShort (pieces_for id now.appended)
    short = subst (Each IsShort) (sym d.appended)
        (each_append IsShort (pieces_for id hosts.appended) d.first k.short d.short)

    go : StaysOrGoes id d.more now → Account id (steps ++ step ∷ []) now
    go (inl still) = inr (inl (record {
      earlier = k.earlier;
      since = k.since ++ step ∷ [];
      parts = parts;
      stays = all_stay;
      pieces = pieces ∙ ap (λ ps. pieces_for id now.appended ++ ps) still.2 ∙ append-nil (pieces_for id now.appended);
      short = short;
      present = still.0;
      known = d.came ∙ k.known;
      free = still.1;
    }))
    go (inr goes) = inr (inr (record {
      earlier = k.earlier;
      since = k.since ++ step ∷ [];
      later = [];
      parts = parts ∙ ap (λ xs. k.earlier ++ xs) (sym (append-nil (k.since ++ step ∷ [])));
      stays = subst (Each (StaysIn id)) parts all_stay;
      more = d.more;
      pieces = pieces;
      short = short;
      absent = goes;
      known = d.came ∙ k.known;
    }))

-- of one that is there: it closes it
closed_delivered : (id : ℕ) (steps : List OwnStep) (step : OwnStep) (hosts : Hosts)
    → IsPresent id steps hosts.appended (is_there id hosts) (was_there id hosts) (is_among id hosts.leaving)
    → StaysAway id hosts (delivering step.after.out hosts)
    → Account id (steps ++ step ∷ []) (delivering step.after.out hosts)
closed_delivered id steps step hosts k d = inr (inr (record {
  earlier = k.earlier;
  since = k.since;
  later = step ∷ [];
  parts = ap (λ xs. xs ++ step ∷ []) k.parts ∙ append_assoc k.earlier k.since (step ∷ []);
  stays = subst (Each (StaysIn id)) k.parts k.stays;
  more = [];
  pieces = k.pieces ∙ sym d.appended
      ∙ sym (append-nil (pieces_for id (delivering step.after.out hosts).appended));
  short = subst (Each IsShort) (sym d.appended) k.short;
  absent = d.absent;
  known = d.came ∙ k.known;
}))

-- of any: before it joins, the station does not know it; while it is there, it stays unless the step closes it
pub account_delivered :
    (id : ℕ) (steps : List OwnStep) (step : OwnStep) (before : StationState) (hosts : Hosts)
    → (was_there id hosts ≡ false → IsUnknown id before → StaysIn id step × IsUnknown id hosts.station)
    → (is_among id step.after.out.closed ≡ false → StaysIn id step) → AccountAt id steps before hosts
    → Account id (steps ++ step ∷ []) (delivering step.after.out hosts)
account_delivered id steps step before hosts strange may (inl k) =
    let d = delivers_away id step.after.out hosts k.absent in
    let new = strange k.new k.unknown in
    inl (record {
      unknown = subst (IsUnknown id) (sym (station_delivering step.after.out hosts)) new.1;
      stays = each_more id steps step k.stays new.0;
      none = d.appended ∙ k.none;
      absent = d.absent;
      new = d.came ∙ k.new;
      free = d.free k.free;
    })
account_delivered id steps step before hosts strange may (inr (inl k)) =
    elim (cases_Bool (is_among id step.after.out.closed)) [
      | inl closes ↦
          closed_delivered id steps step hosts k (delivers_closed id step.after.out hosts closes)
      | inr open_still ↦
          heard_delivered id steps step hosts k (may open_still)
          (delivers_heard id step.after.out hosts open_still k.present k.free)
    ]
account_delivered id steps step before hosts strange may (inr (inr k)) =
    inr (inr (gone_delivered id steps step hosts k))

-- the station is told that a connection left
pub account_left :
    (id other : ℕ) (steps : List OwnStep) (step : OwnStep) (before : StationState) (hosts : Hosts)
    → (is_there other hosts ≡ true) ⊎ (is_among other hosts.leaving ≡ true)
    → ((other ≡ id → ⊥) → IsUnknown id before → StaysIn id step × IsUnknown id hosts.station)
    → ((other ≡ id → ⊥) → StaysIn id step) → AccountAt id steps before hosts
    → Account id (steps ++ step ∷ []) (delivering step.after.out (without other hosts))
account_left id other steps step before hosts left strange may account = elim (cases_eq other id) [
  | inl same ↦ inr (inr (gone_delivered id steps step (without other hosts) (own same left account)))
  | inr differs ↦
      account_delivered id steps step before (without other hosts) (λ new. strange differs) (λ open_still. may differs)
      (account_stands id steps before hosts (without other hosts) (stands_without id other hosts differs) account)
]
  where
    absent : other ≡ id → is_there id (without other hosts) ≡ false
    absent same = subst (λ n. is_there id (without n hosts) ≡ false) (sym same) (gone_without id hosts)

    own : other ≡ id → (is_there other hosts ≡ true) ⊎ (is_among other hosts.leaving ≡ true)
        → AccountAt id steps before hosts
        → let now = without other hosts in HasGone id steps now.appended (is_there id now) (was_there id now)
    own same (inl there) (inl k) =
        absurd (true≢false (sym (subst (λ n. is_there n hosts ≡ true) same there) ∙ k.absent))
    own same (inr leaves) (inl k) =
        absurd (true≢false (sym (subst (λ n. is_among n hosts.leaving ≡ true) same leaves) ∙ k.free))
    own same either (inr (inl k)) = goes_now id steps hosts (without other hosts) refl refl (absent same) k
    own same either (inr (inr k)) = record {
      earlier = k.earlier;
      since = k.since;
      later = k.later;
      parts = k.parts;
      stays = k.stays;
      more = k.more;
      pieces = k.pieces;
      short = k.short;
      absent = absent same;
      known = k.known;
    }
