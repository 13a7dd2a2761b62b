-- What is decided by numbers on the air is decided by whole numbers, and by true numbers.
use Rattle.std.proofs.Common.{◌≡◌, ℕ, ◌+◌, ◌-◌, ◌*◌, ◌/◌, ◌%◌, ◌<◌, ◌≤◌, Bool, true, false, max, nat_lt, nat_le, List}
use Rattle.std.proofs.Common.{drop, slice_get, Option, None, Result, Ok, Err, if◌then◌else◌, ap, sym, ◌∙◌, refl, subst}
use Rattle.std.proofs.Common.{inl, inr, arith}
use Rattle.std.proofs.lemmas.Bool.{cases_lt, lt-ltb, le-ltb, le-leb, leb-true}
use Rattle.selective_reject.specs.declared.packet.Packet.{Packet}
use Rattle.selective_reject.specs.declared.outgoing.BadNr.{BadNr}
use Rattle.selective_reject.specs.Numbers.{IsModulus, ahead}
use Rattle.selective_reject.specs.Again.{numbers_from, with_number}
use Rattle.selective_reject.specs.Outgoing.{Outgoing, IsOutgoing, StandsForOutgoing, acknowledged, is_named}
use Rattle.selective_reject.specs.Outgoing.{acknowledgement, after_acknowledge, after_ask_again, asked_again}
use Rattle.selective_reject.specs.Outgoing.{reduced_outgoing, sent_packet, within, first_again}
use Rattle.selective_reject.proofs.Distances.{ahead-mod_128, ahead-at_or_ahead, mod-mod_128}

same_ahead : (held store : Outgoing) (m nr : ℕ) → IsModulus m → StandsForOutgoing held store
    → ahead m held.va nr ≡ ahead m store.va nr
same_ahead held store m nr is h = ap (λ t. ahead m t nr) h.va ∙ ahead-mod_128 m store.va nr is

same_reach : (held store : Outgoing) → StandsForOutgoing held store → held.top - held.va ≡ store.top - store.va
same_reach held store h = omega (arith, h.top)

same_va : (held store : Outgoing) (m : ℕ) → IsModulus m → StandsForOutgoing held store → held.va % m ≡ store.va % m
same_va held store m is h = ap (λ t. t % m) h.va ∙ mod-mod_128 m store.va is

same_top : (held store : Outgoing) (m : ℕ) → IsModulus m → StandsForOutgoing held store → held.top % m ≡ store.top % m
same_top held store m (inl is) h = rw is (omega (arith, h.va, h.top))
same_top held store m (inr is) h = rw is (omega (arith, h.va, h.top))

sent_at : ℕ → ℕ → List Packet → Option Packet
sent_at place reach packets = if nat_lt place reach then slice_get packets place else None

pub same_sent_packet : (held store : Outgoing) (m nr : ℕ) → IsModulus m → StandsForOutgoing held store
    → sent_packet m nr held ≡ sent_packet m nr store
unfolding sent_at
same_sent_packet held store m nr is h =
    ap (λ t. sent_at t (held.top - held.va) held.packets) (same_ahead held store m nr is h)
    ∙ ap (λ t. sent_at (ahead m store.va nr) t held.packets) (same_reach held store h)
    ∙ ap (λ t. sent_at (ahead m store.va nr) (store.top - store.va) t) h.packets

-- a number from va to below top names its packet
pub sent_packet-at : (store : Outgoing) (m n : ℕ) → store.va ≤ n → n < store.top → n < store.va + m
    → sent_packet m (n % m) store ≡ slice_get store.packets (n - store.va)
unfolding sent_at
sent_packet-at store m n low sent high =
    ap (λ t. sent_at t (store.top - store.va) store.packets) (ahead-at_or_ahead m store.va n low high)
    ∙ ap (λ t. if t then slice_get store.packets (n - store.va) else None)
    (lt-ltb (n - store.va) (store.top - store.va) (omega arith))

pub sent_packet-truly : (held store : Outgoing) (m n nr : ℕ) → IsModulus m → StandsForOutgoing held store
    → store.va ≤ n → n < store.top → store.top < store.va + m → nr ≡ n % m
    → sent_packet m nr held ≡ slice_get store.packets (n - store.va)
sent_packet-truly held store m n nr is h low sent high number =
    same_sent_packet held store m nr is h ∙ ap (λ t. sent_packet m t store) number
    ∙ sent_packet-at store m n low sent (omega arith)

answer_at : ℕ → ℕ → ℕ → ℕ → Result ℕ BadNr
answer_at d reach va top = if nat_le d reach then Ok d else Err (record { va = va; top = top })

pub same_acknowledgement : (held store : Outgoing) (m nr : ℕ) → IsModulus m → StandsForOutgoing held store
    → acknowledgement m nr held ≡ acknowledgement m nr store
unfolding answer_at
same_acknowledgement held store m nr is h =
    ap (λ t. answer_at t (held.top - held.va) (held.va % m) (held.top % m)) (same_ahead held store m nr is h)
    ∙ ap (λ t. answer_at (ahead m store.va nr) t (held.va % m) (held.top % m)) (same_reach held store h)
    ∙ ap (λ t. answer_at (ahead m store.va nr) (store.top - store.va) t (held.top % m)) (same_va held store m is h)
    ∙ ap (λ t. answer_at (ahead m store.va nr) (store.top - store.va) (store.va % m) t) (same_top held store m is h)

same_named : (held store : Outgoing) (m nr : ℕ) → IsModulus m → StandsForOutgoing held store
    → is_named m nr held ≡ is_named m nr store
same_named held store m nr is h =
    ap (λ t. nat_le t (held.top - held.va)) (same_ahead held store m nr is h)
    ∙ ap (nat_le (ahead m store.va nr)) (same_reach held store h)

cut : (held store : Outgoing) (d : ℕ) (b : Bool) → IsOutgoing held → StandsForOutgoing held store
    → (b ≡ true → held.va + d ≤ held.top)
    → StandsForOutgoing (reduced_outgoing (if b then acknowledged (held.va + d) held else held))
    (if b then acknowledged (store.va + d) store else store)
cut held store d true formed h within =
    let reach : held.va + d ≤ held.top = within refl in
    let below : held.va + d - held.va ≡ d = omega arith in
    let below_whole : store.va + d - store.va ≡ d = omega arith in
    let rounds = 128 * ((held.va + d) / 128) in
    let same : (held.va + d) % 128 ≡ (store.va + d) % 128 = omega (arith, h.va) in
    let next : max held.vs (held.va + d) - rounds + (store.va + d) ≡ max store.vs (store.va + d) + (held.va + d) % 128 =
    omega (arith, h.vs) in
    let highest : held.top - rounds + (store.va + d) ≡ store.top + (held.va + d) % 128 = omega (arith, h.top) in
    record {
      va = same;
      vs = next;
      top = highest;
      packets = ap (λ t. drop t held.packets) below ∙ ap (drop d) h.packets
          ∙ sym (ap (λ t. drop t store.packets) below_whole);
      again = ap (λ t. numbers_from t held.again) below ∙ ap (numbers_from d) h.again
          ∙ sym (ap (λ t. numbers_from t store.again) below_whole);
    }
cut held store d false formed h within =
    let small : held.va < 128 = formed.va in
    let same : held.va % 128 ≡ store.va % 128 = omega (arith, h.va) in
    let next : held.vs - 128 * (held.va / 128) + store.va ≡ store.vs + held.va % 128 = omega (arith, h.vs) in
    let highest : held.top - 128 * (held.va / 128) + store.va ≡ store.top + held.va % 128 = omega (arith, h.top) in
    record { va = same; vs = next; top = highest; packets = h.packets; again = h.again }

pub stands_for-after_acknowledge : (held store : Outgoing) (m nr : ℕ) → IsModulus m → IsOutgoing held
    → StandsForOutgoing held store
    → StandsForOutgoing (reduced_outgoing (after_acknowledge m nr held)) (after_acknowledge m nr store)
stands_for-after_acknowledge held store m nr is formed h =
    let P : ℕ → Type 0 = λ t. StandsForOutgoing (reduced_outgoing (after_acknowledge m nr held))
    (if is_named m nr held then acknowledged (store.va + t) store else store) in
    let Q : Bool → Type 0 = λ b. StandsForOutgoing (reduced_outgoing (after_acknowledge m nr held))
    (if b then acknowledged (store.va + ahead m store.va nr) store else store) in
    let within : is_named m nr held ≡ true → held.va + ahead m held.va nr ≤ held.top =
    λ e. omega (arith, formed.vs, formed.top, leb-true (ahead m held.va nr) (held.top - held.va) e) in
    subst Q (same_named held store m nr is h) (subst P (same_ahead held store m nr is h)
    (cut held store (ahead m held.va nr) (is_named m nr held) formed h within))

-- a number from va to top is the one that is named
named : (store : Outgoing) (m n : ℕ) → store.va ≤ n → n ≤ store.top → n < store.va + m → is_named m (n % m) store ≡ true
named store m n low sent high =
    ap (λ t. nat_le t (store.top - store.va)) (ahead-at_or_ahead m store.va n low high)
    ∙ le-leb (n - store.va) (store.top - store.va) (omega arith)

pub acknowledgement-at : (store : Outgoing) (m n : ℕ) → store.va ≤ n → n ≤ store.top → n < store.va + m
    → acknowledgement m (n % m) store ≡ Ok (n - store.va)
unfolding answer_at
acknowledgement-at store m n low sent high =
    ap (λ t. if t then Ok (ahead m store.va (n % m)) else Err (record { va = store.va % m; top = store.top % m }))
    (named store m n low sent high)
    ∙ ap Ok (ahead-at_or_ahead m store.va n low high)

pub after_acknowledge-at : (store : Outgoing) (m n : ℕ) → store.va ≤ n → n ≤ store.top → n < store.va + m
    → after_acknowledge m (n % m) store ≡ acknowledged n store
after_acknowledge-at store m n low sent high =
    let sum : store.va + (n - store.va) ≡ n = omega arith in
    ap (λ t. if t then acknowledged (store.va + ahead m store.va (n % m)) store else store)
    (named store m n low sent high)
    ∙ ap (λ t. acknowledged (store.va + t) store) (ahead-at_or_ahead m store.va n low high)
    ∙ ap (λ t. acknowledged t store) sum

pub acknowledge-truly : (held store : Outgoing) (m n nr : ℕ) → IsModulus m → IsOutgoing held
    → StandsForOutgoing held store
    → store.va ≤ n → n ≤ store.top → store.top < store.va + m → nr ≡ n % m
    → (acknowledgement m nr held ≡ Ok (n - store.va))
    × StandsForOutgoing (reduced_outgoing (after_acknowledge m nr held)) (acknowledged n store)
acknowledge-truly held store m n nr is formed h low sent high number =
    let P : Outgoing → Type 0 = λ t. StandsForOutgoing (reduced_outgoing (after_acknowledge m nr held)) t in
    let below : n < store.va + m = omega arith in (
      same_acknowledgement held store m nr is h ∙ ap (λ t. acknowledgement m t store) number
          ∙ acknowledgement-at store m n low sent below,
      subst P (ap (λ t. after_acknowledge m t store) number ∙ after_acknowledge-at store m n low sent below)
          (stands_for-after_acknowledge held store m nr is formed h),
    )

-- ---- numbers that SREJ asks for

asked_by : (held store : Outgoing) (d : ℕ) (b : Bool) → StandsForOutgoing held store
    → StandsForOutgoing (if b then asked_again (held.va + d) held else held)
    (if b then asked_again (store.va + d) store else store)
asked_by held store d true h =
    let below : held.va + d - held.va ≡ d = omega arith in
    let below_whole : store.va + d - store.va ≡ d = omega arith in
    record {
      va = h.va;
      vs = h.vs;
      top = h.top;
      packets = h.packets;
      again = ap (λ t. with_number t held.again) below ∙ ap (with_number d) h.again
          ∙ sym (ap (λ t. with_number t store.again) below_whole);
    }
asked_by held store d false h = h

pub stands_for-after_ask_again : (held store : Outgoing) (m nr : ℕ) → IsModulus m → StandsForOutgoing held store
    → StandsForOutgoing (after_ask_again m nr held) (after_ask_again m nr store)
stands_for-after_ask_again held store m nr is h =
    let d = ahead m held.va nr in
    let P : ℕ → Type 0 = λ t. StandsForOutgoing (after_ask_again m nr held)
    (if nat_lt t (store.top - store.va) then asked_again (store.va + t) store else store) in
    let Q : ℕ → Type 0 = λ t. StandsForOutgoing (after_ask_again m nr held)
    (if nat_lt d t then asked_again (store.va + d) store else store) in
    subst P (same_ahead held store m nr is h) (subst Q (same_reach held store h)
    (asked_by held store d (nat_lt d (held.top - held.va)) h))

less_by : (n top va : ℕ) → va ≤ n → n ≤ top → nat_lt (n - va) (top - va) ≡ nat_lt n top
less_by n top va low high = elim (cases_lt n top) [
  | inl less ↦ lt-ltb (n - va) (top - va) (omega arith) ∙ sym (lt-ltb n top less)
  | inr not_less ↦ le-ltb (n - va) (top - va) (omega arith) ∙ sym (le-ltb n top not_less)
]

pub after_ask_again-at : (store : Outgoing) (m n : ℕ) → store.va ≤ n → n ≤ store.top → n < store.va + m
    → after_ask_again m (n % m) store ≡ (if nat_lt n store.top then asked_again n store else store)
after_ask_again-at store m n low sent high =
    let sum : store.va + (n - store.va) ≡ n = omega arith in
    ap (λ t. if nat_lt t (store.top - store.va) then asked_again (store.va + t) store else store)
    (ahead-at_or_ahead m store.va n low high)
    ∙ ap (λ t. if t then asked_again (store.va + (n - store.va)) store else store) (less_by n store.top store.va low sent)
    ∙ ap (λ t. if nat_lt n store.top then asked_again t store else store) sum

-- whether it was sent
pub same_sent : (held store : Outgoing) (m nr : ℕ) → IsModulus m → StandsForOutgoing held store
    → nat_lt (ahead m held.va nr) (held.top - held.va) ≡ nat_lt (ahead m store.va nr) (store.top - store.va)
same_sent held store m nr is h =
    ap (λ t. nat_lt t (held.top - held.va)) (same_ahead held store m nr is h)
    ∙ ap (nat_lt (ahead m store.va nr)) (same_reach held store h)

pub was_sent-at : (store : Outgoing) (m n : ℕ) → store.va ≤ n → n ≤ store.top → n < store.va + m
    → nat_lt (ahead m store.va (n % m)) (store.top - store.va) ≡ nat_lt n store.top
was_sent-at store m n low sent high =
    ap (λ t. nat_lt t (store.top - store.va)) (ahead-at_or_ahead m store.va n low high)
    ∙ less_by n store.top store.va low sent

pub ask_again-truly : (held store : Outgoing) (m n nr : ℕ) → IsModulus m → StandsForOutgoing held store
    → store.va ≤ n → n ≤ store.top → store.top < store.va + m → nr ≡ n % m
    → (nat_lt (ahead m held.va nr) (held.top - held.va) ≡ nat_lt n store.top)
    × StandsForOutgoing (after_ask_again m nr held) (if nat_lt n store.top then asked_again n store else store)
ask_again-truly held store m n nr is h low sent high number =
    let below : n < store.va + m = omega arith in
    let P : Outgoing → Type 0 = λ t. StandsForOutgoing (after_ask_again m nr held) t in (
      same_sent held store m nr is h ∙ ap (λ t. nat_lt (ahead m store.va t) (store.top - store.va)) number
          ∙ was_sent-at store m n low sent below,
      subst P (ap (λ t. after_ask_again m t store) number ∙ after_ask_again-at store m n low sent below)
          (stands_for-after_ask_again held store m nr is h),
    )

pub same_first_again : (held store : Outgoing) → StandsForOutgoing held store → first_again held ≡ first_again store
same_first_again held store h =
    ap (λ t. within t (slice_get held.again 0)) (same_reach held store h)
    ∙ ap (λ t. within (store.top - store.va) (slice_get t 0)) h.again
