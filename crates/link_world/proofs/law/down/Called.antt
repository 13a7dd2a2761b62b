-- An end opens a set-up: it hears a SABM, or the UA to its own.
use Rattle.link_world.proofs.Common.{◌≡◌, ℕ, Bool, true, false, List, [], ◌∷◌, ◌++◌, length, map, replicate, refl, sym}
use Rattle.link_world.proofs.Common.{ap, ◌∙◌, subst, fold, Told, Opened, Ended, Reset, Machine, SentIn, sent_in}
use Rattle.link_world.proofs.Common.{SetupSent, Turn, begin, window_in, open_called, settled, SetUp, RecordedEnd}
use Rattle.link_world.proofs.Common.{Happening, told_of, opening, mate_of, noting, hears_ask, tagged, Tagged, Hears}
use Rattle.std.proofs.lemmas.List.Sums.{fold-append}
use Rattle.ax25_frames.specs.declared.frame.U.TheVariants.{Ua as UaFrame}
use Rattle.link_machine.specs.Frames.{open_again}
use Rattle.link_world.proofs.law.reduced.Core.{End, SetUp as CoreSetUp, Tagged as CoreTagged, between}
use Rattle.link_world.proofs.law.reduced.Core.Kind.{Sabm, Ua}
use Rattle.link_world.proofs.law.reduced.Core.Standing.{Up}
use Rattle.link_world.proofs.law.reduced.CoreMoves.{now, opened, called, in_modulus, of_end, setup_to}
use Rattle.link_world.proofs.law.reduced.CoreOf.{stored_from, end_following, up_end}
use Rattle.link_world.specs.SetUps.{opened as opened_set_up}
use Rattle.link_world.proofs.law.showing.PlacesFit.{IsSound, IsModulus, sound_new}
use Rattle.link_world.proofs.law.showing.PlacesStored.{stored_empty}
use Rattle.link_world.proofs.law.moves.Opening.{open_called_keeps, no_call_of_up}
use Rattle.link_world.proofs.law.invariant.Invariant.{Invariant}
use Rattle.link_world.proofs.law.showing.Shown.{core_set_up, core_set_ups, core_flight, flight_of_up}
use Rattle.link_world.proofs.law.showing.Shown.Shown.{ShownUp}
use Rattle.link_world.proofs.law.showing.Outcome.{Outcome, Keeps, end_with, outcome_after}
use Rattle.link_world.proofs.law.up.Settling.{all_of_last, length_of_last}
use Rattle.link_world.proofs.law.up.Events.{UpEnd}

-- the set-up that has opened by a call in a modulus
abbrev pub called_end : Machine → List SetUp → (mate modulus : ℕ) → End
called_end m qs mate modulus = called mate modulus (end_following m (core_set_ups qs))

-- a SABM or SABME opens a set-up, after what was told of the one before
pub open_called_outcome :
    {h : Happening} {r : RecordedEnd} {y : End} {rest to_y : List CoreTagged} (told : List Told) (modulus : ℕ)
    (flag : Bool) → hears_ask h ≡ true → noting h r ≡ r → r.waiting ≡ [] → IsSound r.machine.params r.machine.incoming
    → IsModulus modulus → fold (told_of (opened_set_up (mate_of h) modulus [])) r.set_ups told ≡ r.set_ups
    → Invariant (between (called_end r.machine r.set_ups (mate_of h) modulus) y rest
    (to_y ++ of_end (called_end r.machine r.set_ups (mate_of h) modulus) Ua ∷ []))
    → Keeps h r y rest to_y (settled (open_called modulus flag (record (begin r.machine) { told = told })))
open_called_outcome {h} {r} {y} {rest} {to_y} told modulus flag asks noted waiting sound is before inv = outcome
  where
    turn : Turn
    turn = open_called modulus flag (record (begin r.machine) { told = told })

    window : ℕ
    window = window_in modulus r.machine.params

    ua : SentIn
    ua = sent_in modulus (SetupSent UaFrame flag)

    new : SetUp
    new = opened_set_up (mate_of h) modulus []

    all : List SetUp
    all = r.set_ups ++ new ∷ []

    e : RecordedEnd
    e = end_with turn.now all []

    z : End
    z = called_end r.machine r.set_ups (mate_of h) modulus

    set_ups_are : fold (told_of (opening h (noting h r) turn)) (noting h r).set_ups turn.told ≡ all
    set_ups_are =
        ap (λ (n : RecordedEnd). fold (told_of (opened_set_up (mate_of h) modulus n.waiting)) n.set_ups turn.told) noted
        ∙ ap (λ w. fold (told_of (opened_set_up (mate_of h) modulus w)) r.set_ups turn.told) waiting
        ∙ fold-append (told_of new) r.set_ups told (Opened false ∷ [])
        ∙ ap (λ qs. qs ++ new ∷ []) before

    stored : [] ≡ stored_from 0 (replicate window Rattle.selective_reject.specs.Places.empty_place)
    stored = sym (stored_empty 0 window)

    frames : core_flight (map (tagged true e) (ua ∷ [])) ≡ of_end z Ua ∷ []
    frames = flight_of_up true e (length (core_set_ups r.set_ups)) (ua ∷ []) refl (length_of_last r.set_ups new)

    outcome : Keeps h r y rest to_y turn
    outcome = record {
      outcome = λ alone. outcome_after h r turn set_ups_are refl
          (subst (λ b. Outcome y rest to_y b r.machine.params e turn.sent) (sym asks) (record {
            end_is = up_end turn.now (core_set_ups r.set_ups) (core_set_up new);
            shown = ShownUp r.set_ups new refl refl refl;
            params = refl;
            sound = sound_new modulus is sound.room;
            holds = subst (λ fs. Invariant (between (up_end turn.now (core_set_ups r.set_ups) (core_set_up new)) y rest
                (to_y ++ fs))) (sym frames) (subst (λ ss. Invariant (between
                (now (Up (record (opened (mate_of h) modulus []) { stored = ss }))
                (in_modulus modulus (end_following r.machine (core_set_ups r.set_ups)))) y rest
                (to_y ++ of_end z Ua ∷ []))) stored inv);
            written = (record { kind = refl; answers = refl }, tt);
          }));
    }

-- an end that is up hears a SABM or SABME
pub up_hears_call :
    {r : RecordedEnd} {ended : List SetUp} {last : SetUp} {f : Tagged} {modulus : ℕ} (flag : Bool) {y : End}
    {rest to_y : List CoreTagged} → UpEnd r ended last y (setup_to f.set_up (Sabm modulus) ∷ rest) to_y
    → hears_ask (Hears f) ≡ true → noting (Hears f) r ≡ r → IsModulus modulus
    → Keeps (Hears f) r y rest to_y (settled (open_again modulus flag (begin r.machine)))
up_hears_call {r} {ended} {last} {f} {modulus} flag {y} {rest} {to_y} u asks noted is =
    let P : List CoreSetUp → Type 0 = λ qs. let z = called f.set_up modulus (end_following r.machine qs) in
    Invariant (between z y rest (to_y ++ of_end z Ua ∷ [])) in
    open_called_outcome (Ended Reset ∷ []) modulus flag asks noted u.waiting u.sound is refl
    (subst P (sym (ap core_set_ups u.set_ups ∙ all_of_last ended last)) (open_called_keeps
    (no_call_of_up (end_following r.machine (core_set_ups ended)) u.holds) u.holds))
