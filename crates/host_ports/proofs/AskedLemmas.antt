-- What sockets tell of a turn, call by call.
use Rattle.host_ports.proofs.Common.{◌≢◌, ◌==◌, Bool, true, false, if◌then◌else◌, List, ◌∷◌, All, Some, sym, ◌∙◌, ap}
use Rattle.host_ports.proofs.Common.{subst, arith, inl, inr, append_assoc, eqb-true, eq-eqb, cases_Bool, true≢false}
use Rattle.host_ports.proofs.Common.{flat_map-append, append-nil, length-append, HasRisen, HostEvent, PortsTold, AreUnasked}
use Rattle.host_ports.proofs.Common.{IsAsked, AreOffered, AreShut, send_of, taken_of, Offer, Poll, Send, MayCome}
use Rattle.std.specs.Prelude.{◌≡◌, ℕ, ◌≤◌, [], ◌++◌, length, map, take, refl}
use Rattle.host_ports.specs.AskedPorts.{poll_wait}

pub risen_later : (a b c d : ℕ) → a ≤ b → HasRisen b c → c ≤ d → HasRisen a d
risen_later a b c d before rises after = grind (arith)

-- no send yet
pub offered_nothing : (t : PortsTold) → AreOffered [] [] t t
offered_nothing t = record {
  polled = refl;
  sends = λ polls sends p s. s ∙ ap Some (sym (append-nil sends));
  sent = λ id octets s. s ∙ ap Some (sym (append-nil octets));
  shut = λ id. refl;
  later = omega arith;
  failed = λ some. absurd (some refl);
}

pub unasked : (t : PortsTold) → AreUnasked t t
unasked t = record { polled = refl; sends = refl; sent = λ id. refl; shut = λ id. refl; later = omega arith }

map_snoc : {A B : Type 0} (f : A → B) (xs : List A) (x : A) → map f (xs ++ x ∷ []) ≡ map f xs ++ f x ∷ []
map_snoc f [] x = refl
map_snoc f (y ∷ xs) x = ap (λ rest. f y ∷ rest) (map_snoc f xs x)

taken_snoc : (id : ℕ) (offers : List Offer) (offer : Offer)
    → taken_of id (offers ++ offer ∷ []) ≡ taken_of id offers ++ taken_of id (offer ∷ [])
taken_snoc id offers offer = flat_map-append (λ (one : Offer). if one.id == id then take one.took one.octets else [])
    offers (offer ∷ [])

taken_one : (id : ℕ) (offer : Offer) (b : Bool) → (offer.id == id) ≡ b
    → taken_of id (offer ∷ []) ≡ (if b then take offer.took offer.octets else [])
taken_one id offer b is = append-nil (if offer.id == id then take offer.took offer.octets else [])
    ∙ ap (λ c. if c then take offer.took offer.octets else []) is

-- a send that did not fail
pub offered_more : (offers : List Offer) (failing : List ℕ) (offer : Offer) (t a b : PortsTold)
    → AreOffered offers failing t a
    → b.polls ≡ a.polls
    → ((polls : List Poll) (sends : List Send) → a.polls ≡ Some polls → a.sends ≡ Some sends
    → b.sends ≡ Some (sends ++ send_of (length polls) offer ∷ []))
    → ((octets : List ℕ) → a.sent offer.id ≡ Some octets → b.sent offer.id
    ≡ Some (octets ++ take offer.took offer.octets))
    → ((other : ℕ) → other ≢ offer.id → b.sent other ≡ a.sent other)
    → ((id : ℕ) → b.is_shut id ≡ a.is_shut id) → a.faults ≤ b.faults
    → AreOffered (offers ++ offer ∷ []) failing t b
offered_more offers failing offer t a b before polled sends sent others shut later = record {
  polled = polled ∙ before.polled;
  sends = λ polls sofar p s.
      sends polls (sofar ++ map (send_of (length polls)) offers) (before.polled ∙ p) (before.sends polls sofar p s)
      ∙ ap Some (append_assoc sofar (map (send_of (length polls)) offers) (send_of (length polls) offer ∷ [])
      ∙ ap (λ more. sofar ++ more) (sym (map_snoc (send_of (length polls)) offers offer)));
  sent = λ id octets s. elim (cases_Bool (offer.id == id)) [
    | inl holds ↦
        let same : offer.id ≡ id = eqb-true offer.id id holds in
        subst (λ n. b.sent n ≡ Some (octets ++ taken_of n (offers ++ offer ∷ []))) same
        (sent (octets ++ taken_of offer.id offers) (before.sent offer.id octets (ap t.sent same ∙ s))
        ∙ ap Some (append_assoc octets (taken_of offer.id offers) (take offer.took offer.octets)
        ∙ ap (λ more. octets ++ more) (ap (λ more. taken_of offer.id offers ++ more)
        (sym (taken_one offer.id offer true (eq-eqb offer.id offer.id refl)))
        ∙ sym (taken_snoc offer.id offers offer))))
    | inr fails ↦
        others id (λ same. true≢false (sym (eq-eqb offer.id id (sym same)) ∙ fails)) ∙ before.sent id octets s
        ∙ ap (λ more. Some (octets ++ more)) (sym (append-nil (taken_of id offers))
        ∙ ap (λ more. taken_of id offers ++ more) (sym (taken_one id offer false fails))
        ∙ sym (taken_snoc id offers offer))
  ];
  shut = λ id. shut id ∙ before.shut id;
  later = let e = before.later in omega (arith, later);
  failed = λ some. risen_later t.faults t.faults a.faults b.faults (omega arith) (before.failed some) later;
}

-- one that failed
pub offered_in_vain : (offers : List Offer) (failing : List ℕ) (id : ℕ) (t a b : PortsTold) → AreOffered offers failing t a
    → b.polls ≡ a.polls → b.sends ≡ a.sends → ((other : ℕ) → b.sent other ≡ a.sent other)
    → ((other : ℕ) → b.is_shut other ≡ a.is_shut other) → HasRisen a.faults b.faults → a.faults ≤ b.faults
    → AreOffered offers (failing ++ id ∷ []) t b
offered_in_vain offers failing id t a b before polled sends sent shut rises later = record {
  polled = polled ∙ before.polled;
  sends = λ polls sofar p s. sends ∙ before.sends polls sofar p s;
  sent = λ other octets s. sent other ∙ before.sent other octets s;
  shut = λ other. shut other ∙ before.shut other;
  later = let e = before.later in omega (arith, later);
  failed = λ some. risen_later t.faults a.faults b.faults b.faults before.later rises (omega arith);
}

-- a turn as a whole
pub asked_all : (paused : List ℕ) (events : List HostEvent) (offers : List Offer) (failing shut : List ℕ)
    (a b c d : PortsTold) → All (MayCome paused) events
    → ((polls : List Poll) → a.polls ≡ Some polls → b.polls
    ≡ Some (polls ++ (record { wait = poll_wait; paused = paused; events = events }) ∷ []))
    → b.sends ≡ a.sends → ((id : ℕ) → b.sent id ≡ a.sent id) → ((id : ℕ) → b.is_shut id ≡ a.is_shut id)
    → a.faults ≤ b.faults
    → AreOffered offers failing b c → AreShut shut c d
    → IsAsked (record { paused = paused; events = events; offers = offers; failed = failing; shut = shut }) a d
asked_all paused events offers failing shut a b c d may polled sends sent shown later offered told =
    let asked_poll : Poll = record { wait = poll_wait; paused = paused; events = events } in
    record {
      may_come = may;
      polled = λ polls p. told.polled ∙ offered.polled ∙ polled polls p;
      sends = λ polls sofar p s.
          told.sends ∙ offered.sends (polls ++ asked_poll ∷ []) sofar (polled polls p) (sends ∙ s)
          ∙ ap (λ n. Some (sofar ++ map (send_of n) offers)) (length-append polls (asked_poll ∷ []));
      sent = λ id octets s. told.sent id ∙ offered.sent id octets (sent id ∙ s);
      shut = λ polls id was p come before among. told.shut polls id was (sym told.polled ∙ p) come (offered.shut id
          ∙ shown id ∙ before) among;
      others = λ id not_shut. told.others id not_shut ∙ offered.shut id ∙ shown id;
      failed = λ some. risen_later a.faults b.faults c.faults d.faults later (offered.failed some) told.later;
    }
