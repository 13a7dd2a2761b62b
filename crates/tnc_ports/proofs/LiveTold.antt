-- What the ports tell turn by turn, they tell of all turns.
use Rattle.tnc_ports.proofs.Common.{Bool, true, false, Some, ◌||◌, ◌≢◌, All, ◌≡◌, inl, inr, ℕ, ◌+◌, ◌≤◌, rules, []}
use Rattle.tnc_ports.proofs.Common.{◌++◌, length, map, refl, sym, ap, subst, ◌∙◌, arith, append_assoc, list_any}
use Rattle.tnc_ports.proofs.Common.{flat_map, append-nil, map-append, false≢true, All-append, flat_map-append, poll_of}
use Rattle.tnc_ports.proofs.Common.{send_of, taken_of, AreUnasked, IsAsked, is_among, Asked, Outside}
use Rattle.tnc_ports.proofs.Common.{PortsTell, octets_to, IsShutHavingCome, Poll, MayCome, has_come, is_joining_of}
use Rattle.std.proofs.Common.{◌⊎◌, zero, suc, List, ◌∷◌, length-append}
use Rattle.tnc_ports.specs.SampledRun.{sends_from}
use Rattle.host_ports.proofs.AskedLemmas.{risen_later}

sends-more : (n : ℕ) (turns : List Asked) (asked : Asked) → sends_from n (turns ++ asked ∷ [])
    ≡ sends_from n turns ++ map (send_of (n + length turns)) asked.offers
sends-more n [] asked =
    append-nil (map (send_of n) asked.offers) ∙ ap (λ k. map (send_of k) asked.offers)
    (let e : n ≡ n + length {A = Asked} [] = omega arith in e)
sends-more n (first ∷ turns) asked =
    ap (λ xs. map (send_of n) first.offers ++ xs) (sends-more (n + 1) turns asked)
    ∙ sym (append_assoc (map (send_of n) first.offers) (sends_from (n + 1) turns)
    (map (send_of (n + 1 + length turns)) asked.offers))
    ∙ ap (λ k. (map (send_of n) first.offers ++ sends_from (n + 1) turns) ++ map (send_of k) asked.offers)
    (let e : n + 1 + length turns ≡ n + length (first ∷ turns) = omega arith in e)

octets-more : (id : ℕ) (turns : List Asked) (asked : Asked)
    → octets_to id (turns ++ asked ∷ []) ≡ octets_to id turns ++ taken_of id asked.offers
octets-more id turns asked =
    flat_map-append (λ (a : Asked). taken_of id a.offers) turns (asked ∷ [])
    ∙ ap (λ xs. octets_to id turns ++ xs) (append-nil (taken_of id asked.offers))

shut_in : List Asked → List ℕ
shut_in turns = flat_map (λ (asked : Asked). asked.shut) turns

among-append : (id : ℕ) (xs ys : List ℕ) → is_among id (xs ++ ys) ≡ (is_among id xs || is_among id ys)
among-append id [] ys = refl
among-append id (x ∷ xs) ys = search (rules, among-append id xs ys)

or_false : (a b : Bool) → (a || b) ≡ false → (a ≡ false) × (b ≡ false)
or_false true b h = absurd (false≢true (sym h))
or_false false b h = (refl, h)

or_more : (b x y : Bool) → (x ≡ true → y ≡ true) → (b || x) ≡ true → (b || y) ≡ true
or_more true x y f e = refl
or_more false x y f e = f e

come_more : (id : ℕ) (xs ys : List Poll) → has_come id xs ≡ true → has_come id (xs ++ ys) ≡ true
come_more id [] ys h = absurd (false≢true h)
come_more id (x ∷ xs) ys h = or_more (list_any (is_joining_of id) x.events) (has_come id xs) (has_come id (xs ++ ys))
    (come_more id xs ys) h

have_come : (id : ℕ) (polls : List Poll) (turns : List Asked) → IsShutHavingCome id polls turns
    → has_come id (polls ++ map poll_of turns) ≡ true
have_come id polls [] h = absurd h
have_come id polls (asked ∷ turns) (inl h) =
    subst (λ ps. has_come id ps ≡ true) (append_assoc polls (poll_of asked ∷ []) (map poll_of turns))
    (come_more id (polls ++ poll_of asked ∷ []) (map poll_of turns) h.1)
have_come id polls (asked ∷ turns) (inr h) =
    subst (λ ps. has_come id ps ≡ true) (append_assoc polls (poll_of asked ∷ []) (map poll_of turns))
    (have_come id (polls ++ poll_of asked ∷ []) turns h.1)

-- a connection is shut by the last of the turns alone, or by one before
abbrev pub IsShutLast : ℕ → List Poll → List Asked → Asked → Type 0
IsShutLast id polls turns asked =
    (is_among id (flat_map (λ (a : Asked). a.shut) turns) ≡ false) × (is_among id asked.shut ≡ true)
    × (has_come id (polls ++ map poll_of (turns ++ asked ∷ [])) ≡ true)

split_last : (id : ℕ) (polls : List Poll) (turns : List Asked) (asked : Asked)
    → IsShutHavingCome id polls (turns ++ asked ∷ [])
    → IsShutHavingCome id polls turns ⊎ IsShutLast id polls turns asked
split_last id polls [] asked (inl h) = inr (refl, h.0, h.1)
split_last id polls [] asked (inr h) = absurd h.1
split_last id polls (first ∷ turns) asked (inl h) = inl (inl h)
split_last id polls (first ∷ turns) asked (inr h) = elim (split_last id (polls ++ poll_of first ∷ []) turns asked h.1) [
  | inl r ↦ inl (inr (h.0, r))
  | inr r ↦ inr (
    (among-append id first.shut (flat_map (λ (a : Asked). a.shut) turns)
        ∙ ap (λ b. b || is_among id (flat_map (λ (a : Asked). a.shut) turns)) h.0 ∙ r.0),
    r.1,
    subst (λ ps. has_come id ps ≡ true) (append_assoc polls (poll_of first ∷ []) (map poll_of (turns ++ asked ∷ [])))
        r.2,
  )
]

pub tells_nothing : (x : Outside) → PortsTell [] x x
tells_nothing x = record {
  polls = λ was e. e ∙ ap Some (sym (append-nil was));
  sends = λ was polled sends e. e ∙ ap Some (sym (append-nil sends));
  sent_to = λ id was e. e ∙ ap Some (sym (append-nil was));
  shut = λ id was told e h b. absurd h;
  not_shut = λ id none. refl;
  may_come = λ k d lt. absurd (omega (arith, lt));
  failed = λ some. absurd (some refl);
}

-- nothing more was told
pub tells_still : (turns : List Asked) (x y z : Outside) → x.ports.faults ≤ y.ports.faults → PortsTell turns x y
    → AreUnasked y.ports z.ports → PortsTell turns x z
tells_still turns x y z sofar h g = record {
  polls = λ was e. g.polled ∙ h.polls was e;
  sends = λ was e sends es. g.sends ∙ h.sends was e sends es;
  sent_to = λ id was e. g.sent id ∙ h.sent_to id was e;
  shut = λ id was told e s b. g.shut id ∙ h.shut id was told e s b;
  not_shut = λ id none. g.shut id ∙ h.not_shut id none;
  may_come = h.may_come;
  failed = λ some. risen_later x.ports.faults x.ports.faults y.ports.faults z.ports.faults (omega arith) (h.failed some)
      g.later;
}

all_failed : List Asked → List ℕ
all_failed turns = flat_map (λ (asked : Asked). asked.failed) turns

failed_more : (turns : List Asked) (asked : Asked) → all_failed (turns ++ asked ∷ []) ≡ all_failed turns ++ asked.failed
unfolding all_failed
failed_more turns asked =
    flat_map-append (λ (one : Asked). one.failed) turns (asked ∷ [])
    ∙ ap (λ ids. flat_map (λ (one : Asked). one.failed) turns ++ ids) (append-nil asked.failed)

-- some failed before the last turn, or in it
some_failed : (before last all : List ℕ) → all ≡ before ++ last → all ≢ [] → (before ≢ []) ⊎ (last ≢ [])
some_failed [] last all is some = inr (λ none. some (is ∙ none))
some_failed (id ∷ before) last all is some = inl (λ none. cc none)

pub tells_more : (turns : List Asked) (asked : Asked) (x y z : Outside) → x.ports.faults ≤ y.ports.faults
    → y.ports.faults ≤ z.ports.faults
    → PortsTell turns x y → IsAsked asked y.ports z.ports → PortsTell (turns ++ asked ∷ []) x z
unfolding shut_in all_failed
tells_more turns asked x y z sofar later h g = record {
  polls = λ was e.
      g.polled (was ++ map poll_of turns) (h.polls was e)
      ∙ ap Some (append_assoc was (map poll_of turns) (poll_of asked ∷ [])
      ∙ ap (λ p. was ++ p) (sym (map-append poll_of turns (asked ∷ []))));
  sends = λ was e sends es.
      let count : length (was ++ map poll_of turns) + 1 ≡ length was + 1 + length turns =
      omega (arith, length-append was (map poll_of turns), length_map_polls turns) in
      g.sends (was ++ map poll_of turns) (sends ++ sends_from (length was + 1) turns) (h.polls was e)
      (h.sends was e sends es)
      ∙ ap Some (append_assoc sends (sends_from (length was + 1) turns)
      (map (send_of (length (was ++ map poll_of turns) + 1)) asked.offers)
      ∙ ap (λ k. sends ++ (sends_from (length was + 1) turns ++ map (send_of k) asked.offers)) count
      ∙ ap (λ s. sends ++ s) (sym (sends-more (length was + 1) turns asked)));
  sent_to = λ id was e.
      g.sent id (was ++ octets_to id turns) (h.sent_to id was e)
      ∙ ap Some (append_assoc was (octets_to id turns) (taken_of id asked.offers)
      ∙ ap (λ o. was ++ o) (sym (octets-more id turns asked)));
  shut = λ id was told e s b.
      let polled : z.ports.polls ≡ Some (was ++ map poll_of (turns ++ asked ∷ [])) =
      g.polled (was ++ map poll_of turns) (h.polls was e)
      ∙ ap Some (append_assoc was (map poll_of turns) (poll_of asked ∷ [])
      ∙ ap (λ p. was ++ p) (sym (map-append poll_of turns (asked ∷ [])))) in
      elim (split_last id was turns asked s) [
        | inl r ↦ stays_shut id (is_among id asked.shut) (h.shut id was told e r b)
            (λ among. g.shut (was ++ map poll_of (turns ++ asked ∷ [])) id true polled
            (have_come id was (turns ++ asked ∷ []) s) (h.shut id was told e r b) among)
            (λ none. g.others id none ∙ h.shut id was told e r b) refl
        | inr r ↦ g.shut (was ++ map poll_of (turns ++ asked ∷ [])) id told polled r.2 (h.not_shut id r.0 ∙ b) r.1
      ];
  not_shut = λ id none.
      let parted : is_among id (shut_in turns ++ asked.shut) ≡ false =
      ap (λ xs. is_among id (shut_in turns ++ xs)) (sym (append-nil asked.shut))
      ∙ ap (is_among id) (sym (flat_map-append (λ (a : Asked). a.shut) turns (asked ∷ []))) ∙ none in
      let both = or_false (is_among id (shut_in turns)) (is_among id asked.shut)
      (sym (among-append id (shut_in turns) asked.shut) ∙ parted) in
      g.others id both.1 ∙ h.not_shut id both.0;
  may_come = All-append (λ (one : Asked). All (MayCome one.paused) one.events) turns (asked ∷ []) h.may_come
      (only asked g.may_come);
  failed = λ some. elim (some_failed (all_failed turns) asked.failed (all_failed (turns ++ asked ∷ []))
      (failed_more turns asked) some) [
        | inl before ↦
            risen_later x.ports.faults x.ports.faults y.ports.faults z.ports.faults (omega arith) (h.failed before) later
        | inr now ↦
            risen_later x.ports.faults y.ports.faults z.ports.faults z.ports.faults sofar (g.failed now) (omega arith)
      ];
}
  where
    stays_shut : (id : ℕ) (among : Bool) → y.ports.is_shut id ≡ Some true
        → (is_among id asked.shut ≡ true → z.ports.is_shut id ≡ Some true)
        → (is_among id asked.shut ≡ false → z.ports.is_shut id ≡ Some true) → is_among id asked.shut ≡ among
        → z.ports.is_shut id ≡ Some true
    stays_shut id true was now later e = now e
    stays_shut id false was now later e = later e

    only : (one : Asked) → All (MayCome one.paused) one.events
        → All (λ (each : Asked). All (MayCome each.paused) each.events) (one ∷ [])
    only one p zero d lt = p
    only one p (suc k) d lt = absurd (omega (arith, lt))

    length_map_polls : (xs : List Asked) → length (map poll_of xs) ≡ length xs
    length_map_polls [] = refl
    length_map_polls (a ∷ xs) = ap suc (length_map_polls xs)
