-- How an end of the world, with its record, shows an end as the law of two links reads it.
use Rattle.link_world.proofs.Common.{◌≡◌, ℕ, suc, ◌+◌, Bool, true, false, ◌&&◌, List, [], ◌∷◌, ◌++◌, length, map, refl}
use Rattle.link_world.proofs.Common.{sym, ap, ◌∙◌, arith, fold, ⊤, Packet, Given, Sent, SentIn, sent_in, sent_kind}
use Rattle.link_world.proofs.Common.{XidSent}
use Rattle.link_world.proofs.Common.{InfoSent, SuperSent, SetupSent, SetUp, change_last, last_changed, getting, Tagged}
use Rattle.link_world.proofs.Common.{is_answer, set_up_of, RecordedEnd, told_of, tagged}
use Rattle.std.proofs.lemmas.List.{append-nil, append_assoc}
use Rattle.ax25_frames.specs.declared.frame.U.TheVariants.{Sabm as SabmFrame, Sabme as SabmeFrame, Disc as DiscFrame}
use Rattle.ax25_frames.specs.declared.frame.U.TheVariants.{Dm as DmFrame, Ua as UaFrame}
use Rattle.link_machine.specs.declared.state.LinkState.TheVariants.{Idle as IdleState, Calling as CallingState}
use Rattle.link_machine.specs.declared.state.LinkState.TheVariants.{Up as UpState, Releasing as ReleasingState}
use Rattle.link_world.proofs.law.reduced.Core.{End, SetUp as CoreSetUp, Tagged as CoreTagged}
use Rattle.link_world.proofs.law.reduced.Core.Standing.{Idle, Calling, Releasing}
use Rattle.link_world.proofs.law.reduced.CoreMoves.{now}
use Rattle.link_world.proofs.law.reduced.CoreOf.{core_sent, cores_sent, kind_of, end_following, up_end}

abbrev pub core_set_up : SetUp → CoreSetUp
core_set_up q = record { given = q.given; got = q.got; modulus = q.modulus; mate = q.mate; origin = q.accepted }

abbrev pub core_set_ups : List SetUp → List CoreSetUp
core_set_ups qs = map core_set_up qs

pub length_core : (qs : List SetUp) → length (core_set_ups qs) ≡ length qs
length_core [] = refl
length_core (q ∷ qs) = ap suc (length_core qs)

abbrev pub core_tagged : Tagged → CoreTagged
core_tagged f = core_sent f.answers f.set_up (sent_in f.modulus f.sent)

abbrev pub core_flight : List Tagged → List CoreTagged
core_flight fs = map core_tagged fs

-- by its state
pub data Shown (r : RecordedEnd) : End → Type 0 where
  ShownIdle : r.machine.control.state ≡ IdleState → r.machine.outgoing.packets ≡ [] → r.waiting ≡ []
      → Shown r (now Idle (end_following r.machine (core_set_ups r.set_ups)))
  ShownCalling : r.machine.control.state ≡ CallingState → r.waiting ≡ r.machine.outgoing.packets
      → Shown r (now (Calling r.machine.outgoing.packets) (end_following r.machine (core_set_ups r.set_ups)))
  ShownUp : (ended : List SetUp) (last : SetUp) → r.set_ups ≡ ended ++ last ∷ [] → r.machine.control.state ≡ UpState
      → r.waiting ≡ [] → Shown r (up_end r.machine (core_set_ups ended) (core_set_up last))
  ShownReleasing : r.machine.control.state ≡ ReleasingState → r.machine.outgoing.packets ≡ [] → r.waiting ≡ []
      → Shown r (now Releasing (end_following r.machine (core_set_ups r.set_ups)))

-- UA answers, DM may, and no other frame does
abbrev pub AnswersAsSent : Bool → Sent → Type 0
AnswersAsSent answers (InfoSent number nr poll packet) = answers ≡ false
AnswersAsSent answers (SuperSent which command nr flag) = answers ≡ false
AnswersAsSent answers (SetupSent SabmFrame flag) = answers ≡ false
AnswersAsSent answers (SetupSent SabmeFrame flag) = answers ≡ false
AnswersAsSent answers (SetupSent DiscFrame flag) = answers ≡ false
AnswersAsSent answers (SetupSent DmFrame flag) = ⊤
AnswersAsSent answers (SetupSent UaFrame flag) = answers ≡ true
AnswersAsSent answers (XidSent command flag own) = answers ≡ false

-- a frame is written as it was sent
pub record IsWritten (f : Tagged) : Type 0 where
  pub kind : f.frame.kind ≡ sent_kind f.modulus f.sent
  pub answers : AnswersAsSent f.answers f.sent

last_of_more :
    (f : SetUp → SetUp) (q : SetUp) (qs : List SetUp) (c : SetUp)
    → last_changed f q (qs ++ c ∷ []) ≡ q ∷ (qs ++ f c ∷ [])
last_of_more f q [] c = refl
last_of_more f q (p ∷ qs) c = ap (λ t. q ∷ t) (last_of_more f p qs c)

-- the last set-up changes
pub change_last-push : (f : SetUp → SetUp) (qs : List SetUp) (c : SetUp) → change_last f (qs ++ c ∷ []) ≡ qs ++ f c ∷ []
change_last-push f [] c = refl
change_last-push f (q ∷ qs) c = last_of_more f q qs c

abbrev pub getting_all : List Packet → SetUp → SetUp
getting_all packets c = record c { got = c.got ++ packets }

-- packets that were told as given are those that the last set-up got
pub told_given :
    (next : SetUp) (qs : List SetUp) (c : SetUp) (packets : List Packet)
    → fold (told_of next) (qs ++ c ∷ []) (map Given packets) ≡ qs ++ getting_all packets c ∷ []
told_given next qs c [] = ap (λ t. qs ++ record c { got = t } ∷ []) (sym (append-nil c.got))
told_given next qs c (p ∷ packets) =
    ap (λ t. fold (told_of next) t (map Given packets)) (change_last-push (getting p) qs c)
    ∙ told_given next qs (getting p c) packets
    ∙ ap (λ t. qs ++ record c { got = t } ∷ []) (append_assoc c.got (p ∷ []) packets)

-- only UA and DM are read as answers
pub kind_by :
    (on_ask : Bool) (modulus : ℕ) (s : Sent)
    → kind_of (on_ask && is_answer (sent_kind modulus s)) modulus s ≡ kind_of on_ask modulus s
kind_by on_ask modulus (InfoSent number nr poll packet) = refl
kind_by on_ask modulus (SuperSent which command nr flag) = refl
kind_by true modulus (SetupSent SabmFrame flag) = refl
kind_by true modulus (SetupSent SabmeFrame flag) = refl
kind_by true modulus (SetupSent DiscFrame flag) = refl
kind_by true modulus (SetupSent DmFrame flag) = refl
kind_by true modulus (SetupSent UaFrame flag) = refl
kind_by false modulus (SetupSent SabmFrame flag) = refl
kind_by false modulus (SetupSent SabmeFrame flag) = refl
kind_by false modulus (SetupSent DiscFrame flag) = refl
kind_by false modulus (SetupSent DmFrame flag) = refl
kind_by false modulus (SetupSent UaFrame flag) = refl
kind_by on_ask modulus (XidSent command flag own) = refl

-- the tag of a frame of an end that is up is the number of its last set-up
up_tag : (modulus n : ℕ) (s : Sent) → set_up_of (sent_kind modulus s) UpState (n + 1) ≡ n
up_tag modulus n (InfoSent number nr poll packet) = omega arith
up_tag modulus n (SuperSent which command nr flag) = omega arith
up_tag modulus n (SetupSent which flag) = omega arith
up_tag modulus n (XidSent command flag own) = omega arith

-- what an end that is up has sent, with its tags
pub flight_of_up :
    (on_ask : Bool) (r : RecordedEnd) (n : ℕ) (sent : List SentIn) → r.machine.control.state ≡ UpState
    → length r.set_ups ≡ n + 1 → core_flight (map (tagged on_ask r) sent) ≡ cores_sent on_ask n sent
flight_of_up on_ask r n [] up count = refl
flight_of_up on_ask r n (s ∷ sent) up count =
    let tag = ap (λ t. set_up_of (sent_kind s.modulus s.frame) t (length r.set_ups)) up
    ∙ ap (set_up_of (sent_kind s.modulus s.frame) UpState) count ∙ up_tag s.modulus n s.frame in
    ap (λ t. record {
      tag = t;
      kind = kind_of (on_ask && is_answer (sent_kind s.modulus s.frame)) s.modulus s.frame;
    } ∷ core_flight (map (tagged on_ask r) sent)) tag
    ∙ ap (λ k. record { tag = n; kind = k } ∷ core_flight (map (tagged on_ask r) sent))
    (kind_by on_ask s.modulus s.frame)
    ∙ ap (λ t. core_sent on_ask n s ∷ t) (flight_of_up on_ask r n sent up count)
