-- What turns did for the hosts, one after another and all together.
use Rattle.tnc_ports.proofs.Common.{◌⊎◌, zero, suc, ◌==◌, ◌||◌, Bool, true, false, List, ◌∷◌, All, Option, Some, None}
use Rattle.tnc_ports.proofs.Common.{list_any, sym, ◌∙◌, ap, subst, arith, inl, inr, append_assoc, cases_Bool, or_parts}
use Rattle.tnc_ports.proofs.Common.{or_cases, or_left, or_right, false≢true, true≢false, eqb-true, ne_eqb, eq-eqb}
use Rattle.tnc_ports.proofs.Common.{flat_map-append, append-nil, map-append, All-append, list_any-append, Client}
use Rattle.tnc_ports.proofs.Common.{ReportLine, ReceivedLine, SentLine, poll_of, taken_of, IsCutInSending, Hosts}
use Rattle.tnc_ports.proofs.Common.{client_of, is_among, was_there, Asked, Offer, Offering, InOrder, AreTried, IsTaken}
use Rattle.tnc_ports.proofs.Common.{IsOffered, IsOfferedTo, IsHostPart, ids_of_clients, octets_for, IsOrderly, NoneTwice}
use Rattle.tnc_ports.proofs.Common.{octets_to, ids_closed, closed_by, IsShutHavingCome, Poll, has_come, is_joining_of}
use Rattle.std.specs.Prelude.{◌≡◌, ℕ, [], ◌++◌, map, refl}
use Rattle.keying.specs.declared.report.Report.{Report}
use Rattle.host_ports.specs.CutPart.{IsCutPart, IsCutInTaking}
use Rattle.host_ports.specs.declared.health_note.HealthNote.{HealthNote}
use Rattle.tnc_ports.specs.HealthNotes.{health_line}
use Rattle.tnc_ports.specs.KeyTurns.{key_line}
use Rattle.tnc_ports.specs.ServedHosts.{ids_sent_to, ids_shut, AreSentInTurns, AreShutInTurns}
use Rattle.host_ports.proofs.GivenLemmas.{offers_given}
use Rattle.host_ports.proofs.KeptLemmas.{IsKeptByStep, IsKeptByPart, kept_tried, kept_takes, kept_offers}
use Rattle.host_ports.proofs.ClientLemmas.{found_id}
use Rattle.tnc_ports.proofs.LiveKept.{IsKeptByFrames}
use Rattle.host_ports.proofs.SentLemmas.{orderly_by_step, orderly_by_part}
use Rattle.tnc_ports.proofs.StepLemmas.{FewWait, few_by_step, few_by_part}
use Rattle.tnc_ports.proofs.ServedLemmas.{IsSound, among_snoc, none_twice-snoc, sound_by_step, sound_by_part}
use Rattle.tnc_ports.proofs.ServedLemmas.{sound_relined, sound_told}

-- ---- the turns with one more

shut_more : (turns : List Asked) (asked : Asked) → ids_shut (turns ++ asked ∷ []) ≡ ids_shut turns ++ asked.shut
shut_more turns asked =
    flat_map-append (λ (one : Asked). one.shut) turns (asked ∷ [])
    ∙ ap (λ ids. ids_shut turns ++ ids) (append-nil asked.shut)

octets_more : (id : ℕ) (turns : List Asked) (asked : Asked)
    → octets_to id (turns ++ asked ∷ []) ≡ octets_to id turns ++ taken_of id asked.offers
octets_more id turns asked =
    flat_map-append (λ (one : Asked). taken_of id one.offers) turns (asked ∷ [])
    ∙ ap (λ octets. octets_to id turns ++ octets) (append-nil (taken_of id asked.offers))

come_before : (id : ℕ) (xs ys : List Poll) → has_come id xs ≡ true → has_come id (xs ++ ys) ≡ true
come_before id xs ys come =
    list_any-append (λ (poll : Poll). list_any (is_joining_of id) poll.events) xs ys
    ∙ or_left (has_come id xs) (has_come id ys) come

come_after : (id : ℕ) (xs ys : List Poll) → has_come id ys ≡ true → has_come id (xs ++ ys) ≡ true
come_after id xs ys come =
    list_any-append (λ (poll : Poll). list_any (is_joining_of id) poll.events) xs ys
    ∙ or_right (has_come id xs) (has_come id ys) come

come_with : (id : ℕ) (turns : List Asked) (asked : Asked) → list_any (is_joining_of id) asked.events ≡ true
    → has_come id (map poll_of (turns ++ asked ∷ [])) ≡ true
come_with id turns asked joins =
    ap (has_come id) (map-append poll_of turns (asked ∷ []))
    ∙ come_after id (map poll_of turns) (poll_of asked ∷ [])
    (or_left (list_any (is_joining_of id) asked.events) false joins)

come_still : (id : ℕ) (turns : List Asked) (asked : Asked) → has_come id (map poll_of turns) ≡ true
    → has_come id (map poll_of (turns ++ asked ∷ [])) ≡ true
come_still id turns asked come =
    ap (has_come id) (map-append poll_of turns (asked ∷ []))
    ∙ come_before id (map poll_of turns) (poll_of asked ∷ []) come

shut_still : (id : ℕ) (polls : List Poll) (turns : List Asked) (asked : Asked) → IsShutHavingCome id polls turns
    → IsShutHavingCome id polls (turns ++ asked ∷ [])
shut_still id polls [] asked h = absurd h
shut_still id polls (first ∷ turns) asked (inl h) = inl h
shut_still id polls (first ∷ turns) asked (inr h) =
    inr (h.0, shut_still id (polls ++ poll_of first ∷ []) turns asked h.1)

shut_last : (id : ℕ) (polls : List Poll) (turns : List Asked) (asked : Asked) → is_among id (ids_shut turns) ≡ false
    → is_among id asked.shut ≡ true
    → has_come id (polls ++ map poll_of (turns ++ asked ∷ [])) ≡ true → IsShutHavingCome id polls (turns ++ asked ∷ [])
shut_last id polls [] asked before shut come = inl (shut, come)
shut_last id polls (first ∷ turns) asked before shut come =
    let parts = or_parts (is_among id first.shut) (is_among id (ids_shut turns))
    (sym (list_any-append (λ other. other == id) first.shut (ids_shut turns)) ∙ before) in
    inr (
      parts.0,
      shut_last id (polls ++ poll_of first ∷ []) turns asked parts.1 shut
          (ap (has_come id) (append_assoc polls (poll_of first ∷ []) (map poll_of (turns ++ asked ∷ []))) ∙ come),
    )

-- ---- sends in one turn

ids_offered : List Offer → List ℕ
ids_offered offers = map (λ offer. offer.id) offers

none_twice-front : (first others : List ℕ) → NoneTwice (first ++ others) → NoneTwice first
none_twice-front [] others once = tt
none_twice-front (id ∷ first) others once = (
  (or_parts (is_among id first) (is_among id others) (sym (list_any-append (λ other. other == id) first others)
      ∙ once.0)).0,
  none_twice-front first others once.1,
)

-- no connection was offered twice, and those that are to be offered were not
record AreOfferedOnce (ids : List ℕ) (offers : List Offer) : Type 0 where
  pub once : NoneTwice (ids_offered offers)
  pub others : (id : ℕ) → is_among id ids ≡ true → is_among id (ids_offered offers) ≡ false
  pub left : NoneTwice ids

offered_more : (id : ℕ) (ids : List ℕ) (offers more : List Offer) (offer : Offer) → offer.id ≡ id
    → more ≡ offers ++ offer ∷ [] → AreOfferedOnce (id ∷ ids) offers → AreOfferedOnce ids more
unfolding ids_offered
offered_more id ids offers more offer same is h =
    let named : ids_offered more ≡ ids_offered offers ++ id ∷ [] = ap ids_offered is
    ∙ map-append (λ (one : Offer). one.id) offers (offer ∷ []) ∙ ap (λ n. ids_offered offers ++ n ∷ []) same in
    record {
      once = subst NoneTwice (sym named) (none_twice-snoc (ids_offered offers) id h.once
          (h.others id (or_left (id == id) (is_among id ids) (eq-eqb id id refl))));
      others = λ other among.
          ap (is_among other) named ∙ among_snoc other (ids_offered offers) id
          ∙ both_fail (is_among other (ids_offered offers)) (id == other)
          (h.others other (or_right (id == other) (is_among other ids) among))
          (ne_eqb id other (λ e. true≢false (sym among ∙ subst (λ n. is_among n ids ≡ false) e h.left.0)));
      left = h.left.1;
    }
  where
    both_fail : (a b : Bool) → a ≡ false → b ≡ false → (a || b) ≡ false
    both_fail true b x y = absurd (true≢false x)
    both_fail false b x y = y

offered_none : (id : ℕ) (ids : List ℕ) (offers more : List Offer) → more ≡ offers → AreOfferedOnce (id ∷ ids) offers
    → AreOfferedOnce ids more
offered_none id ids offers more is h =
    subst (AreOfferedOnce ids) (sym is) (record {
      once = h.once;
      others = λ other among. h.others other (or_right (id == other) (is_among other ids) among);
      left = h.left.1;
    })

offered_to_once : (id : ℕ) (ids : List ℕ) (client : Option Client) (before after : Offering)
    → client_of id before.hosts.clients ≡ client → IsOfferedTo client before after
    → AreOfferedOnce (id ∷ ids) before.offers → AreOfferedOnce ids after.offers
offered_to_once id ids None before after found offered h =
    offered_none id ids before.offers after.offers (ap (λ (s : Offering). s.offers) offered) h
offered_to_once id ids (Some client) before after found offered h = elim offered [
  | inl nothing ↦ offered_none id ids before.offers after.offers (ap (λ (s : Offering). s.offers) nothing.1) h
  | inr rest ↦ elim rest [
    | inl takes ↦ offered_more id ids before.offers after.offers _ (found_id id before.hosts.clients client found)
        takes.1.offered h
    | inr fails ↦ offered_none id ids before.offers after.offers fails.1.offered h
  ]
]

offers_once : (ids : List ℕ) (before after : Offering) → InOrder IsOffered ids before after
    → AreOfferedOnce ids before.offers → NoneTwice (ids_offered after.offers)
unfolding ids_offered
offers_once [] before after run h = subst (λ (s : Offering). NoneTwice (ids_offered s.offers)) (sym run) h.once
offers_once (id ∷ ids) before after run h = offers_once ids run.0 after run.2
    (offered_to_once id ids (client_of id before.hosts.clients) before run.0 refl run.1 h)

-- ---- the account of all turns

pub record IsAccounted (turns : List Asked) (hosts : Hosts) : Type 0 where
  pub orderly : IsOrderly hosts
  pub few : FewWait hosts
  pub taken : (id : ℕ) → octets_for id hosts.sent ≡ octets_to id turns
  pub once : All (λ asked. NoneTwice (ids_sent_to asked)) turns
  pub sound : IsSound (ids_shut turns) hosts
  pub came : (id : ℕ) → was_there id hosts ≡ true → has_come id (map poll_of turns) ≡ true
  pub had_come : (id : ℕ) (polls : List Poll) → is_among id (ids_shut turns) ≡ true → IsShutHavingCome id polls turns

pub are_sent : (turns : List Asked) (hosts : Hosts) → IsAccounted turns hosts → AreSentInTurns turns hosts
are_sent turns hosts h = record { in_order = h.orderly; few = h.few; taken = h.taken; once = h.once }

pub are_shut : (turns : List Asked) (hosts : Hosts) → IsAccounted turns hosts → AreShutInTurns turns hosts
are_shut turns hosts h = record {
  named = h.sound.named;
  once = h.sound.once;
  gone = h.sound.not_there;
  had_come = h.had_come;
  came = h.came;
}

pub accounted_new : (hosts : Hosts) → IsOrderly hosts → IsSound [] hosts → FewWait hosts → hosts.sent ≡ []
    → hosts.came ≡ [] → IsAccounted [] hosts
accounted_new hosts orderly sound few sent came = record {
  orderly = orderly;
  few = few;
  taken = λ id. ap (octets_for id) sent;
  once = λ k d lt. absurd (omega (arith, lt));
  sound = sound;
  came = λ id was. absurd (true≢false (sym was ∙ ap (is_among id) came));
  had_come = λ id polls among. absurd (false≢true among);
}

-- another state of the same connections
moved : (turns : List Asked) (hosts next : Hosts) → IsOrderly next → FewWait next → IsSound (ids_shut turns) next
    → next.sent ≡ hosts.sent → next.came ≡ hosts.came → IsAccounted turns hosts → IsAccounted turns next
moved turns hosts next orderly few sound sent came h = record {
  orderly = orderly;
  few = few;
  taken = λ id. ap (octets_for id) sent ∙ h.taken id;
  once = h.once;
  sound = sound;
  came = λ id was. h.came id (sym (ap (is_among id) came) ∙ was);
  had_come = h.had_come;
}

accounted_by_step : (turns : List Asked) → IsKeptByStep (IsAccounted turns)
accounted_by_step turns =
    let o = orderly_by_step in
    let f = few_by_step in
    let s = sound_by_step (ids_shut turns) in
    record {
      stepped = λ hosts station h. moved turns hosts _ (o.stepped hosts station h.orderly)
          (f.stepped hosts station h.few) (s.stepped hosts station h.sound) refl refl h;
      left = λ id hosts h. moved turns hosts _ (o.left id hosts h.orderly) (f.left id hosts h.few)
          (s.left id hosts h.sound) refl refl h;
      shut = λ id hosts there h. moved turns hosts _ (o.shut id hosts there h.orderly) (f.shut id hosts there h.few)
          (s.shut id hosts there h.sound) refl refl h;
      leaving = λ ids hosts h. moved turns hosts _ (o.leaving ids hosts h.orderly) (f.leaving ids hosts h.few)
          (s.leaving ids hosts h.sound) refl refl h;
      piece = λ piece client hosts found fit h. moved turns hosts _ (o.piece piece client hosts found fit h.orderly)
          (f.piece piece client hosts found fit h.few) (s.piece piece client hosts found fit h.sound) refl refl h;
    }

pub accounted_relined : (turns : List Asked) (report : List ReportLine) (hosts : Hosts)
    → ids_closed report ≡ ids_closed hosts.report → IsAccounted turns hosts
    → IsAccounted turns (record hosts { report = report })
accounted_relined turns report hosts same h =
    moved turns hosts (record hosts { report = report }) h.orderly h.few
    (sound_relined (ids_shut turns) report hosts same h.sound) refl refl h

-- lines on the key call nobody closed
keys_close_nobody : (reported : List Report) → ids_closed (map key_line reported) ≡ []
keys_close_nobody [] = refl
keys_close_nobody (one ∷ reported) = keys_close_nobody reported

-- nor do lines on the station's health
notes_close_nobody : (notes : List HealthNote) → ids_closed (map health_line notes) ≡ []
notes_close_nobody [] = refl
notes_close_nobody (one ∷ notes) = notes_close_nobody notes

pub accounted_by_frames : (turns : List Asked) → IsKeptByFrames (IsAccounted turns)
accounted_by_frames turns = record {
  steps = accounted_by_step turns;
  received = λ text hosts h.
      accounted_relined turns (hosts.report ++ ReceivedLine text ∷ []) hosts
      (flat_map-append closed_by hosts.report (ReceivedLine text ∷ []) ∙ append-nil (ids_closed hosts.report)) h;
  sent = λ text report reported hosts told h.
      accounted_relined turns (report ++ (SentLine text ∷ [] ++ reported)) hosts
      (flat_map-append closed_by report (SentLine text ∷ reported) ∙ sym (flat_map-append closed_by report reported)
      ∙ ap ids_closed (sym told)) h;
  keyed = λ reported hosts h.
      accounted_relined turns (hosts.report ++ map key_line reported) hosts
      (flat_map-append closed_by hosts.report (map key_line reported)
      ∙ ap (λ ids. ids_closed hosts.report ++ ids) (keys_close_nobody reported)
      ∙ append-nil (ids_closed hosts.report)) h;
  noted = λ notes hosts h.
      accounted_relined turns (hosts.report ++ map health_line notes) hosts
      (flat_map-append closed_by hosts.report (map health_line notes)
      ∙ ap (λ ids. ids_closed hosts.report ++ ids) (notes_close_nobody notes)
      ∙ append-nil (ids_closed hosts.report)) h;
}

-- ---- the part of a turn that is for hosts

-- what the sends of a turn leave
record IsSending (turns : List Asked) (asked : Asked) (hosts : Hosts) : Type 0 where
  pub orderly : IsOrderly hosts
  pub few : FewWait hosts
  pub taken : (id : ℕ) → octets_for id hosts.sent ≡ octets_to id (turns ++ asked ∷ [])
  pub once : All (λ one. NoneTwice (ids_sent_to one)) (turns ++ asked ∷ [])
  pub sound : IsSound (ids_shut turns) hosts
  pub came : (id : ℕ) → was_there id hosts ≡ true → has_come id (map poll_of (turns ++ asked ∷ [])) ≡ true

only : {X : Type 0} (P : X → Type 0) (x : X) → P x → All P (x ∷ [])
only P x p zero d within = p
only P x p (suc k) d within = absurd (omega (arith, within))

sending_of : (turns : List Asked) (asked : Asked) (first others : List ℕ) (before tried taken : Hosts)
    (offered : Offering) → AreTried before tried → InOrder IsTaken asked.events tried taken
    → ids_of_clients taken.clients ≡ first ++ others → InOrder IsOffered first
    (record { hosts = taken; offers = []; failed = [] }) offered → offered.offers ≡ asked.offers
    → IsAccounted turns before → IsSending turns asked offered.hosts
unfolding ids_offered
sending_of turns asked first others before tried taken offered tries takes parts offers same h =
    let gone : List ℕ = ids_shut turns in
    let start : Offering = record { hosts = taken; offers = []; failed = [] } in
    let came : Hosts → Type 0 = λ hosts. (id : ℕ) → was_there id hosts ≡ true
    → has_come id (map poll_of (turns ++ asked ∷ [])) ≡ true in
    let sound : IsSound gone taken = kept_takes asked.events (IsSound gone)
    (sound_by_part gone asked.events).taking tried taken takes
    (kept_tried asked.events (IsSound gone) (sound_by_part gone asked.events).taking before tried tries h.sound) in
    let orderly : IsOrderly taken = kept_takes asked.events IsOrderly
    (orderly_by_part asked.events).taking tried taken takes
    (kept_tried asked.events IsOrderly (orderly_by_part asked.events).taking before tried tries h.orderly) in
    let few : FewWait taken = kept_takes asked.events FewWait (few_by_part asked.events).taking tried taken takes
    (kept_tried asked.events FewWait (few_by_part asked.events).taking before tried tries h.few) in
    let k : IsKeptByPart asked.events came = came_by_part turns asked in
    record {
      orderly = kept_offers asked.events IsOrderly (orderly_by_part asked.events) first start offered offers orderly;
      few = kept_offers asked.events FewWait (few_by_part asked.events) first start offered offers few;
      taken = λ id.
          offers_given id asked.events first before tried taken offered tries takes offers
          ∙ ap (λ octets. octets ++ taken_of id offered.offers) (h.taken id)
          ∙ ap (λ all. octets_to id turns ++ taken_of id all) same ∙ sym (octets_more id turns asked);
      once = All-append (λ (one : Asked). NoneTwice (ids_sent_to one)) turns (asked ∷ []) h.once
          (only (λ (one : Asked). NoneTwice (ids_sent_to one)) asked
          (subst (λ (all : List Offer). NoneTwice (map (λ (one : Offer). one.id) all)) same
          (once_offered first start offered offers (none_twice-front first others
          (subst NoneTwice parts sound.one_client)) refl)));
      sound = kept_offers asked.events (IsSound gone) (sound_by_part gone asked.events)
          first start offered offers sound;
      came = kept_offers asked.events came k first start offered offers
          (kept_takes asked.events came k.taking tried taken takes
          (kept_tried asked.events came k.taking before tried tries
          (λ id was. come_still id turns asked (h.came id was))));
    }
  where
    came_by_part : (turns : List Asked) (asked : Asked)
        → IsKeptByPart asked.events (λ hosts. (id : ℕ) → was_there id hosts ≡ true
        → has_come id (map poll_of (turns ++ asked ∷ [])) ≡ true)
    came_by_part turns asked = record {
      taking = record {
        steps = record {
          stepped = λ hosts station came. came;
          left = λ id hosts came. came;
          shut = λ id hosts there came. came;
          leaving = λ ids hosts came. came;
          piece = λ piece client hosts found fit came. came;
        };
        untaken = λ untaken hosts came. came;
        joined = λ id hosts joins new came other was. elim
            (or_cases (was_there other hosts) (id == other) (sym (among_snoc other hosts.came id) ∙ was)) [
              | inl before ↦ came other before
              | inr same ↦ come_with other turns asked (subst (λ n. list_any (is_joining_of n) asked.events ≡ true)
                  (eqb-true id other same) joins)
            ];
      };
      sent = λ client count hosts found came. came;
    }

    once_offered : (ids : List ℕ) (start after : Offering) → InOrder IsOffered ids start after → NoneTwice ids
        → start.offers ≡ [] → NoneTwice (map (λ (one : Offer). one.id) after.offers)
    once_offered ids start after run once none =
        offers_once ids start after run (record {
          once = subst (λ all. NoneTwice (ids_offered all)) (sym none) tt;
          others = λ id among. ap (λ all. is_among id (ids_offered all)) none;
          left = once;
        })

-- a whole part
pub accounted_part : (turns : List Asked) (asked : Asked) (before after : Hosts) → IsHostPart asked before after
    → IsAccounted turns before → IsAccounted (turns ++ asked ∷ []) after
accounted_part turns asked before after p h =
    let ids : List ℕ = ids_of_clients p.taken.clients in
    let s = sending_of turns asked ids [] before p.tried p.taken p.offered p.tries p.takes (sym (append-nil ids))
    p.offers p.told.0 h in
    let shut : ids_shut turns ++ p.offered.hosts.to_shut ≡ ids_shut (turns ++ asked ∷ []) =
    ap (λ more. ids_shut turns ++ more) p.told.2 ∙ sym (shut_more turns asked) in
    subst (IsAccounted (turns ++ asked ∷ [])) (sym p.done) (record {
      orderly = s.orderly;
      few = s.few;
      taken = s.taken;
      once = s.once;
      sound = subst (λ gone. IsSound gone (record p.offered.hosts { to_shut = [] })) shut
          (sound_told (ids_shut turns) p.offered.hosts s.sound);
      came = s.came;
      had_come = λ id polls among. elim (cases_Bool (is_among id (ids_shut turns))) [
        | inl was ↦ shut_still id polls turns asked (h.had_come id polls was)
        | inr new ↦
            let either = or_cases (is_among id (ids_shut turns)) (is_among id asked.shut)
            (sym (list_any-append (λ other. other == id) (ids_shut turns) asked.shut)
            ∙ sym (ap (is_among id) (shut_more turns asked)) ∙ among) in
            let named : is_among id (ids_closed p.offered.hosts.report) ≡ true = ap (is_among id) (s.sound.named ∙ shut)
            ∙ among in
            shut_last id polls turns asked new (second (is_among id (ids_shut turns)) (is_among id asked.shut)
            new either)
            (come_after id polls (map poll_of (turns ++ asked ∷ [])) (s.came id (s.sound.gone_came id named)))
      ];
    })
  where
    second : (a b : Bool) → a ≡ false → (a ≡ true) ⊎ (b ≡ true) → b ≡ true
    second a b none either = elim either [
      | inl is ↦ absurd (true≢false (sym is ∙ none))
      | inr is ↦ is
    ]

-- one that is cut short
none_shut : (turns : List Asked) (asked : Asked) → asked.shut ≡ [] → ids_shut turns ≡ ids_shut (turns ++ asked ∷ [])
none_shut turns asked none = sym (append-nil (ids_shut turns)) ∙ ap (λ ids. ids_shut turns ++ ids) (sym none)
    ∙ sym (shut_more turns asked)

accounted_sending : (turns : List Asked) (asked : Asked) (before reached : Hosts) → IsCutInSending asked before reached
    → IsAccounted turns before → IsAccounted (turns ++ asked ∷ []) reached
accounted_sending turns asked before reached p h =
    let s = sending_of turns asked p.first p.others before p.tried p.taken p.offered p.tries p.takes p.parts p.offers
    p.told.0 h in
    let shut : ids_shut turns ≡ ids_shut (turns ++ asked ∷ []) = none_shut turns asked p.told.2 in
    subst (IsAccounted (turns ++ asked ∷ [])) (sym p.reaches) (record {
      orderly = s.orderly;
      few = s.few;
      taken = s.taken;
      once = s.once;
      sound = subst (λ gone. IsSound gone p.offered.hosts) shut s.sound;
      came = s.came;
      had_come = λ id polls among. shut_still id polls turns asked
          (h.had_come id polls (ap (is_among id) shut ∙ among));
    })

accounted_taking : (turns : List Asked) (asked : Asked) (before reached : Hosts) → IsCutInTaking asked before reached
    → IsAccounted turns before → IsAccounted (turns ++ asked ∷ []) reached
accounted_taking turns asked before reached p h =
    let shut : ids_shut turns ≡ ids_shut (turns ++ asked ∷ []) = none_shut turns asked p.nothing.2 in
    subst (IsAccounted (turns ++ asked ∷ [])) (sym p.stays) (record {
      orderly = h.orderly;
      few = h.few;
      taken = λ id.
          h.taken id ∙ sym (append-nil (octets_to id turns))
          ∙ ap (λ offers. octets_to id turns ++ taken_of id offers) (sym p.nothing.0)
          ∙ sym (octets_more id turns asked);
      once = All-append (λ (one : Asked). NoneTwice (ids_sent_to one)) turns (asked ∷ []) h.once
          (only (λ (one : Asked). NoneTwice (ids_sent_to one)) asked
          (subst (λ (all : List Offer). NoneTwice (map (λ (one : Offer). one.id) all)) (sym p.nothing.0) tt));
      sound = subst (λ gone. IsSound gone before) shut h.sound;
      came = λ id was. come_still id turns asked (h.came id was);
      had_come = λ id polls among. shut_still id polls turns asked
          (h.had_come id polls (ap (is_among id) shut ∙ among));
    })

pub accounted_cut : (turns : List Asked) (asked : Asked) (before reached : Hosts) → IsCutPart asked before reached
    → IsAccounted turns before → IsAccounted (turns ++ asked ∷ []) reached
accounted_cut turns asked before reached cut h = elim cut [
  | inl p ↦ accounted_taking turns asked before reached p h
  | inr rest ↦ elim rest [
    | inl p ↦ accounted_sending turns asked before reached p h
    | inr p ↦ accounted_part turns asked before reached p h
  ]
]
