-- The polls and offers of a call, one after the other.
use Rattle.tnc_call.proofs.Common.{◌≡◌, ◌≢◌, ℕ, ◌+◌, ◌<◌, ◌≤◌, ◌⊎◌, eqb, Bool, true, false, List, [], ◌∷◌, ◌++◌, All}
use Rattle.tnc_call.proofs.Common.{length, take, drop, get_or, refl, ap, subst, ◌∙◌, sym, inl, inr, arith, append_assoc}
use Rattle.tnc_call.proofs.Common.{append-nil, length-append, Some, get_or-append_seam, eq-eqb, flat_map-append}
use Rattle.tnc_call.proofs.Common.{length_push, All-push, GrowsBy, Poll, CallPlan, sent_after, PortsTold, CallTrace}
use Rattle.tnc_call.proofs.Common.{IsTraced, IsAlike, octets_in, octets_of, events_in, event_octets}
use Rattle.std.proofs.Common.{suc, leb, cond, map}
use Rattle.std.specs.Prelude.{Any, filter}
use Rattle.std.proofs.Math.ListN.{get_or-append}
use Rattle.std.proofs.Math.Seq.{take-add}
use Rattle.std.proofs.lemmas.Bool.{le-leb, leb-true, cases_lt, cases_eq, eqb-true}
use Rattle.std.proofs.lemmas.List.{map-append, take-append-le, take_at}
use Rattle.std.proofs.lemmas.List.Elements.{All-append, filter-append}
use Rattle.std.proofs.lemmas.List.Sums.{sum_by-append, sum_by_push}
use Rattle.host_ports.specs.Sockets.{Send}
use Rattle.tnc_call.specs.CallTrace.{CallOffer, IsAlwaysOffered, IsOfferedBefore, TookLess, count_taken, offers_before}
use Rattle.tnc_call.specs.CallTrace.{send_of, sends_of}

-- ---- lists

filter_whole : {A : Type 0} (p : A → Bool) (xs : List A)
    → ((k : ℕ) (d : A) → k < length xs → p (get_or xs k d) ≡ true) → filter p xs ≡ xs
filter_whole p [] all = refl
filter_whole p (x ∷ xs) all =
    ap (λ b. cond b (x ∷ filter p xs) (filter p xs)) (all 0 x (omega arith))
    ∙ ap (λ ys. x ∷ ys) (filter_whole p xs (λ k d within. all (suc k) d (omega arith)))

any_more : {A : Type 0} (P : A → Type 0) (xs ys : List A) → Any P xs → Any P (xs ++ ys)
any_more P xs ys (k, x, within, is, holds) =
    (k, x, (let n = length-append xs ys in omega arith), get_or-append xs ys x k within ∙ is, holds)

any_last : {A : Type 0} (P : A → Type 0) (xs : List A) (x : A) → P x → Any P (xs ++ x ∷ [])
any_last P xs x holds =
    (length xs, x, (let n = length_push xs x in omega arith), get_or-append_seam xs x [] x, holds)

not_zero : (n : ℕ) → (n ≡ 0 → ⊥) → eqb n 0 ≡ false
not_zero n some = by_test (eqb n 0) refl
  where
    by_test : (b : Bool) → eqb n 0 ≡ b → b ≡ false
    by_test true is = absurd (some (eqb-true n 0 is))
    by_test false is = refl

-- ---- one offer more

-- an offer, which is not made of nothing
abbrev pub offer_of : ℕ → ℕ → ℕ → List CallOffer
offer_of polls offered took =
    cond (eqb offered 0) [] ((record { after = polls; offered = offered; took = took }) ∷ [])

abbrev pub with_offer : ℕ → ℕ → CallTrace → CallTrace
with_offer offered took trace =
    record trace { offers = trace.offers ++ offer_of (length trace.polls) offered took }

abbrev pub with_poll : Poll → CallTrace → CallTrace
with_poll poll trace = record trace { polls = trace.polls ++ poll ∷ [] }

count_of_one : (offer : CallOffer) → count_taken (offer ∷ []) ≡ offer.took
count_of_one offer = sum_by_push (λ (o : CallOffer). o.took) [] offer ∙ omega arith

count_of_offer : (polls offered took : ℕ) → took ≤ offered → count_taken (offer_of polls offered took) ≡ took
count_of_offer polls offered took fits =
    elim (cases_eq offered 0) [
      | inl none ↦ ap (λ b. count_taken (cond b [] ((record { after = polls; offered = offered; took = took }) ∷ [])))
          (eq-eqb offered 0 none) ∙ omega arith
      | inr some ↦ ap (λ b. count_taken (cond b [] ((record { after = polls; offered = offered; took = took }) ∷ [])))
          (not_zero offered some) ∙ count_of_one (record { after = polls; offered = offered; took = took })
    ]

pub count_with_offer : (trace : CallTrace) (offered took : ℕ) → took ≤ offered
    → count_taken (with_offer offered took trace).offers ≡ count_taken trace.offers + took
count_with_offer trace offered took fits =
    sum_by-append (λ offer. offer.took) trace.offers (offer_of (length trace.polls) offered took)
    ∙ ap (λ n. count_taken trace.offers + n) (count_of_offer (length trace.polls) offered took fits)

sends_of_offer : (id polls more offered took : ℕ)
    → map (send_of id polls) (offer_of more offered took) ≡ sends_of id (polls + more) offered took
sends_of_offer id polls more offered took = by_test (eqb offered 0)
  where
    by_test : (b : Bool)
        → map (send_of id polls) (cond b [] ((record { after = more; offered = offered; took = took }) ∷ []))
        ≡ cond b [] ((record { id = id; polls = polls + more; offered = offered; took = took }) ∷ [])
    by_test true = refl
    by_test false = refl

-- the sockets tell of the offer
pub record IsOfferTold (id polls offered taken took : ℕ) (octets : List ℕ) (before after : PortsTold) : Type 0 where
  pub same : after.polls ≡ before.polls
  pub sends : (polled : List Poll) (was : List Send) → before.polls ≡ Some polled → before.sends ≡ Some was
      → after.sends ≡ Some (was ++ sends_of id (length polled) offered took)
  pub sent : (was : List ℕ) → before.sent id ≡ Some was → after.sent id ≡ Some (was ++ take took (drop taken octets))
  pub others : (other : ℕ) → other ≢ id → after.sent other ≡ before.sent other

pub traced_offer : (id : ℕ) (octets : List ℕ) (trace : CallTrace) (start before after : PortsTold)
    (offered taken took : ℕ) → IsTraced id octets trace start before → taken ≡ count_taken trace.offers
    → took ≤ offered → taken + took ≤ length octets
    → IsOfferTold id (length trace.polls) offered taken took octets before after
    → IsTraced id octets (with_offer offered took trace) start after
traced_offer id octets trace start before after offered taken took traced is fits within told =
    let offers : List CallOffer = offer_of (length trace.polls) offered took in
    let count : count_taken (trace.offers ++ offers) ≡ taken + took =
    count_with_offer trace offered took fits ∙ ap (λ n. n + took) (sym is) in
    record {
      polls = λ was at. told.same ∙ traced.polls was at;
      sends = λ was at sends is_sends.
          told.sends (was ++ trace.polls) (sends ++ map (send_of id (length was)) trace.offers) (traced.polls was at)
          (traced.sends was at sends is_sends)
          ∙ ap Some (append_assoc sends (map (send_of id (length was)) trace.offers) (sends_of id
          (length (was ++ trace.polls)) offered took)
          ∙ ap (λ xs. sends ++ xs) (ap (λ n. map (send_of id (length was)) trace.offers ++ sends_of id n offered took)
          (length-append was trace.polls)
          ∙ ap (λ xs. map (send_of id (length was)) trace.offers ++ xs)
          (sym (sends_of_offer id (length was) (length trace.polls) offered took))
          ∙ sym (map-append (send_of id (length was)) trace.offers offers)));
      within = omega (arith, count);
      sent = λ was at.
          told.sent (was ++ take (count_taken trace.offers) octets) (traced.sent was at)
          ∙ ap Some (append_assoc was (take (count_taken trace.offers) octets) (take took (drop taken octets))
          ∙ ap (λ xs. was ++ xs) (ap (λ n. take n octets ++ take took (drop taken octets)) (sym is)
          ∙ sym (take-add taken took octets) ∙ ap (λ n. take n octets) (sym count)));
      others = λ other ne. told.others other ne ∙ traced.others other ne;
    }

-- ---- one poll more

pub traced_poll : (id : ℕ) (octets : List ℕ) (trace : CallTrace) (poll : Poll) (start before after : PortsTold)
    → IsTraced id octets trace start before → GrowsBy (poll ∷ []) before.polls after.polls
    → after.sends ≡ before.sends → ((other : ℕ) → after.sent other ≡ before.sent other)
    → IsTraced id octets (with_poll poll trace) start after
traced_poll id octets trace poll start before after traced polls sends sent = record {
  polls = λ was at. polls (was ++ trace.polls) (traced.polls was at) ∙ ap Some
      (append_assoc was trace.polls (poll ∷ []));
  sends = λ was at other is. sends ∙ traced.sends was at other is;
  within = traced.within;
  sent = λ was at. sent id ∙ traced.sent was at;
  others = λ other ne. sent other ∙ traced.others other ne;
}

-- nothing more is told
pub traced_same : (id : ℕ) (octets : List ℕ) (trace : CallTrace) (start before after : PortsTold)
    → IsTraced id octets trace start before → after.polls ≡ before.polls → after.sends ≡ before.sends
    → ((other : ℕ) → after.sent other ≡ before.sent other) → IsTraced id octets trace start after
traced_same id octets trace start before after traced polls sends sent = record {
  polls = λ was at. polls ∙ traced.polls was at;
  sends = λ was at other is. sends ∙ traced.sends was at other is;
  within = traced.within;
  sent = λ was at. sent id ∙ traced.sent was at;
  others = λ other ne. sent other ∙ traced.others other ne;
}

-- more is to be sent
pub traced_more : (id : ℕ) (octets more : List ℕ) (trace : CallTrace) (start now : PortsTold)
    → IsTraced id octets trace start now → IsTraced id (octets ++ more) trace start now
traced_more id octets more trace start now traced = record {
  polls = traced.polls;
  sends = traced.sends;
  within = let n = length-append octets more in omega (arith, traced.within);
  sent = λ was at. traced.sent was at
      ∙ ap (λ xs. Some (was ++ xs)) (sym (take-append-le (count_taken trace.offers) octets more traced.within));
  others = traced.others;
}

pub alike_on : (first second third : PortsTold) → IsAlike first second → IsAlike second third → IsAlike first third
alike_on first second third one two = record {
  listens = two.listens ∙ one.listens;
  dials = two.dials ∙ one.dials;
  shut = λ other. two.shut other ∙ one.shut other;
  later = omega (arith, one.later, two.later);
}

-- ---- what came

pub octets_with_poll : (id : ℕ) (polls : List Poll) (poll : Poll)
    → octets_in id (polls ++ poll ∷ []) ≡ octets_in id polls ++ octets_of id poll.events
octets_with_poll id polls poll =
    ap (octets_of id) (flat_map-append (λ p. p.events) polls (poll ∷ [])
    ∙ ap (λ es. events_in polls ++ es) (append-nil poll.events))
    ∙ flat_map-append (event_octets id) (events_in polls) poll.events

-- ---- what was offered

-- an offer changes nothing of what was offered before its poll
before_offer : (k polls offered took : ℕ) → k < polls → offers_before k (offer_of polls offered took) ≡ []
before_offer k polls offered took earlier = by_test (eqb offered 0)
  where
    one : CallOffer
    one = record { after = polls; offered = offered; took = took }

    later : leb polls k ≡ false
    later = by_le (leb polls k) refl
      where
        by_le : (b : Bool) → leb polls k ≡ b → b ≡ false
        by_le true is = absurd (let h = leb-true polls k is in omega arith)
        by_le false is = refl

    by_test : (b : Bool)
        → offers_before k (cond b [] ((record { after = polls; offered = offered; took = took }) ∷ [])) ≡ []
    by_test true = refl
    by_test false = ap (λ c. cond c ((record { after = polls; offered = offered; took = took }) ∷ []) []) later

-- what was offered before poll k stays so, if that poll was made
pub offered_stays : (plan : CallPlan) (id : ℕ) (trace : CallTrace) (offered took k : ℕ) (more : List Poll)
    → k < length trace.polls → IsOfferedBefore plan id trace k
    → IsOfferedBefore plan id
    (record { polls = trace.polls ++ more; offers = (with_offer offered took trace).offers }) k
offered_stays plan id trace offered took k more earlier (inl whole) =
    let polls : take k (trace.polls ++ more) ≡ take k trace.polls =
    take-append-le k trace.polls more (omega arith) in
    inl (ap count_taken (filter-append (λ offer. leb offer.after k) trace.offers
    (offer_of (length trace.polls) offered took)
    ∙ ap (λ xs. offers_before k trace.offers ++ xs) (before_offer k (length trace.polls) offered took earlier)
    ∙ append-nil (offers_before k trace.offers))
    ∙ whole ∙ ap (λ ps. length (sent_after plan (octets_in id ps))) (sym polls))
offered_stays plan id trace offered took k more earlier (inr less) =
    inr (any_more (TookLess k) trace.offers (offer_of (length trace.polls) offered took) less)

-- the next offer is no earlier than those before
early_offer : (polls offered took : ℕ) → All (λ offer. offer.after ≤ polls) (offer_of polls offered took)
early_offer polls offered took = by_test (eqb offered 0)
  where
    by_test : (b : Bool) → All (λ (offer : CallOffer). offer.after ≤ polls)
        (cond b [] ((record { after = polls; offered = offered; took = took }) ∷ []))
    by_test true = λ k d within. absurd (omega arith)
    by_test false = All-push (λ (offer : CallOffer). offer.after ≤ polls) []
        (record { after = polls; offered = offered; took = took }) (λ k d within. absurd (omega arith)) (omega arith)

pub all_early : (trace : CallTrace) (offered took : ℕ) → All (λ offer. offer.after < length trace.polls) trace.offers
    → All (λ offer. offer.after ≤ length trace.polls) (with_offer offered took trace).offers
all_early trace offered took early =
    All-append (λ offer. offer.after ≤ length trace.polls) trace.offers (offer_of (length trace.polls) offered took)
    (λ k d within. let h = early k d within in omega arith) (early_offer (length trace.polls) offered took)

pub early_again : (trace : CallTrace) (poll : Poll) → All (λ offer. offer.after ≤ length trace.polls) trace.offers
    → All (λ offer. offer.after < length (trace.polls ++ poll ∷ [])) trace.offers
early_again trace poll early k d within =
    let h = early k d within in
    let n = length_push trace.polls poll in
    omega arith

-- all was offered, or the host took less than it was offered
pub offered_now : (plan : CallPlan) (id : ℕ) (trace : CallTrace) (octets : List ℕ) (offered took : ℕ)
    → octets ≡ sent_after plan (octets_in id trace.polls) → took ≤ offered
    → count_taken trace.offers + offered ≡ length octets
    → (count_taken (with_offer offered took trace).offers ≡ length (sent_after plan (octets_in id trace.polls)))
    ⊎ Any (TookLess (length trace.polls)) (with_offer offered took trace).offers
offered_now plan id trace octets offered took is fits all =
    elim (cases_lt took offered) [ inl less ↦ inr (took_less less) | inr whole ↦ inl (took_all whole) ]
  where
    took_all : offered ≤ took
        → count_taken (with_offer offered took trace).offers ≡ length (sent_after plan (octets_in id trace.polls))
    took_all whole = count_with_offer trace offered took fits ∙ omega arith ∙ ap length is

    some : (n : ℕ) → took < n → eqb n 0 ≡ false
    some n more = not_zero n (λ e. omega arith)

    took_less : took < offered → Any (TookLess (length trace.polls)) (with_offer offered took trace).offers
    took_less less =
        subst (λ offers. Any (TookLess (length trace.polls)) (trace.offers ++ offers))
        (sym (ap (λ b. cond b [] ((record { after = length trace.polls; offered = offered; took = took }) ∷ []))
        (some offered less)))
        (any_last (TookLess (length trace.polls)) trace.offers
        (record { after = length trace.polls; offered = offered; took = took }) (refl, less))

-- so it is before the next poll
pub always_with_poll : (plan : CallPlan) (id : ℕ) (trace : CallTrace) (poll : Poll)
    → All (λ offer. offer.after ≤ length trace.polls) trace.offers
    → (count_taken trace.offers ≡ length (sent_after plan (octets_in id trace.polls)))
    ⊎ Any (TookLess (length trace.polls)) trace.offers
    → IsAlwaysOffered plan id trace → IsAlwaysOffered plan id (with_poll poll trace)
always_with_poll plan id trace poll early now always k within =
    elim (cases_lt k (length trace.polls)) [
      | inl earlier ↦ earlier_one earlier (always k earlier)
      | inr last ↦
          let n = length_push trace.polls poll in
          let same : length trace.polls ≡ k = omega arith in
          subst (λ j. IsOfferedBefore plan id (with_poll poll trace) j) same (last_one now)
    ]
  where
    earlier_one : k < length trace.polls → IsOfferedBefore plan id trace k
        → IsOfferedBefore plan id (with_poll poll trace) k
    earlier_one earlier (inl whole) =
        inl (whole ∙ ap (λ ps. length (sent_after plan (octets_in id ps)))
        (sym (take-append-le k trace.polls (poll ∷ []) (omega arith))))
    earlier_one earlier (inr less) = inr less

    all_of : offers_before (length trace.polls) trace.offers ≡ trace.offers
    all_of = filter_whole (λ offer. leb offer.after (length trace.polls)) trace.offers
        (λ j d inside. le-leb _ _ (early j d inside))

    last_one : ((count_taken trace.offers ≡ length (sent_after plan (octets_in id trace.polls)))
        ⊎ Any (TookLess (length trace.polls)) trace.offers)
        → IsOfferedBefore plan id (with_poll poll trace) (length trace.polls)
    last_one (inl whole) =
        inl (ap count_taken all_of ∙ whole
        ∙ ap (λ ps. length (sent_after plan (octets_in id ps)))
        (sym (take_at trace.polls (poll ∷ []) (length trace.polls) refl)))
    last_one (inr less) = inr less

pub always_with_offer : (plan : CallPlan) (id : ℕ) (trace : CallTrace) (offered took : ℕ)
    → IsAlwaysOffered plan id trace → IsAlwaysOffered plan id (with_offer offered took trace)
always_with_offer plan id trace offered took always k within =
    subst (λ polls. IsOfferedBefore plan id
    (record { polls = polls; offers = (with_offer offered took trace).offers }) k) (append-nil trace.polls)
    (offered_stays plan id trace offered took k [] within (always k within))
