-- No N(R) that an end reads is invalid, so no link is reset by a number.
use Rattle.link_world.proofs.Common.{◌≡◌, ℕ, ◌%◌, ◌<◌, true, List, [], ◌∷◌, Option, Some, None, refl, ap, sym, ◌∙◌}
use Rattle.link_world.proofs.Common.{subst, le-leb, Frame, Params, Machine, is_valid, Sent, sent_kind, InfoSent}
use Rattle.link_world.proofs.Common.{SuperSent, SetupSent, SetUp, Tagged, RecordedEnd, Side, World, read_in}
use Rattle.link_world.proofs.Common.{hears_valid, WindowsFit, Event, Connect, Send, Disconnect, Tick, Seize}
use Rattle.link_world.proofs.Common.{Hear, Lose, XidSent}
use Rattle.std.specs.List.{AllByRecursion as Each}
use Rattle.link_world.proofs.law.reduced.Core.{End, Tagged as CoreTagged, Numbered, between}
use Rattle.link_world.proofs.law.reduced.CoreMoves.{numbered_to}
use Rattle.link_world.proofs.law.reduced.CoreOf.{end_following, up_end}
use Rattle.link_world.specs.Law.{names_valid, read_names_valid, reads_valid}
use Rattle.link_world.proofs.law.numbers.Deciding.{nr_of, nr_is_named}
use Rattle.link_world.proofs.law.invariant.Upward.{front_modulus}
use Rattle.link_world.proofs.law.showing.Heard.{arrival_of}
use Rattle.link_world.proofs.law.runs.EndSteps.{kind_of_up, read_frame_as, read_frame_same}
use Rattle.link_world.proofs.law.up.Hearing.{nr_of_super}
use Rattle.link_world.proofs.law.invariant.Invariant.{Invariant}
use Rattle.link_world.proofs.law.showing.Shown.{core_set_up, core_set_ups, core_flight, core_tagged, Shown, IsWritten}
use Rattle.link_world.proofs.law.showing.Shown.Shown.{ShownIdle, ShownCalling, ShownUp, ShownReleasing}
use Rattle.link_world.proofs.law.runs.WorldSteps.{ShowsWorld, windows_of}

valid_by :
    (m : Machine) (ended : List SetUp) (last : SetUp) {y : End} {tag k : ℕ} {n : Numbered} {nr : ℕ}
    {rest to_y : List CoreTagged} → nr_of n ≡ nr → m.incoming.window < m.incoming.modulus
    → Invariant (between (up_end m (core_set_ups ended) (core_set_up last)) y (numbered_to tag k n ∷ rest) to_y)
    → is_valid (nr % k) m ≡ true
valid_by m ended last {nr} is fits inv =
    let x = end_following m (core_set_ups ended) in
    let named_by = nr_is_named m.incoming.modulus x fits inv in
    subst (λ c. is_valid (nr % c) m ≡ true) (sym (front_modulus x inv)) (le-leb _ _ (rw (← is) named_by.0))

names_by :
    (m : Machine) (ended : List SetUp) (last : SetUp) {y : End} (f : Tagged) (sent : Sent) {rest to_y : List CoreTagged}
    → m.incoming.window < m.incoming.modulus → Invariant (between (up_end m (core_set_ups ended) (core_set_up last)) y
    (core_tagged (record f { sent = sent }) ∷ rest) to_y) → names_valid m (sent_kind f.modulus sent) ≡ true
names_by m ended last f (InfoSent ns nr poll packet) fits inv = valid_by m ended last refl fits inv
names_by m ended last f (SuperSent which command nr flag) fits inv =
    valid_by m ended last (nr_of_super which nr flag) fits inv
names_by m ended last f (SetupSent which flag) fits inv = refl
names_by m ended last f (XidSent command flag own) fits inv = refl

reads_by :
    {a b : Params} {r : RecordedEnd} {towards : List Tagged} {far : Side} → WindowsFit a b
    → ShowsWorld a b (record { a = record { end = r; towards = towards }; b = far })
    → reads_valid r.machine.control.state r.machine towards ≡ true
reads_by {a} {b} {r} {towards} {far} fit s = go s.x s.near s.holds towards s.near_written refl
  where
    w : World
    w = record { a = record { end = r; towards = towards }; b = far }

    go : (x : End) → Shown r x → Invariant (between x s.y (core_flight towards) (core_flight far.towards))
        → (ts : List Tagged) → Each IsWritten towards → towards ≡ ts
        → reads_valid r.machine.control.state r.machine ts ≡ true
    go x (ShownIdle state packets waiting) inv ts written is = ap (λ t. reads_valid t r.machine ts) state
    go x (ShownCalling state waiting) inv ts written is = ap (λ t. reads_valid t r.machine ts) state
    go x (ShownUp ended last l state waiting) inv [] written is = ap (λ t. reads_valid t r.machine []) state
    go x (ShownUp ended last l state waiting) inv (f ∷ rest) written is =
        ap (λ t. reads_valid t r.machine (f ∷ rest)) state ∙ by_read (read_in r.machine.incoming.modulus f) refl
      where
        one : IsWritten f
        one = (subst (λ fs. Each IsWritten fs) is written).0

        front : Invariant (between (up_end r.machine (core_set_ups ended) (core_set_up last)) s.y
            (core_flight (f ∷ rest)) (core_flight far.towards))
        front = subst (λ fs. Invariant (between (up_end r.machine (core_set_ups ended) (core_set_up last)) s.y
            (core_flight fs) (core_flight far.towards))) is inv

        by_read : (o : Option Frame) → read_in r.machine.incoming.modulus f ≡ o → read_names_valid r.machine o ≡ true
        by_read None read = refl
        by_read (Some frame) read = ap (names_valid r.machine)
            (kind_of_up r.machine ended last frame.kind (arrival_of frame f) f.sent
            (read_frame_as r.machine.incoming.modulus frame one read) (read_frame_same frame one read) front)
            ∙ names_by r.machine ended last f f.sent (windows_of fit s).own front
    go x (ShownReleasing state packets waiting) inv ts written is = ap (λ t. reads_valid t r.machine ts) state

-- what the near end reads
pub near_valid :
    {a b : Params} {w : World} (event : Event) → WindowsFit a b → ShowsWorld a b w → hears_valid event w ≡ true
near_valid (Connect e) fit s = refl
near_valid (Send e packet) fit s = refl
near_valid (Disconnect e) fit s = refl
near_valid (Tick e waiting) fit s = refl
near_valid (Seize e last full) fit s = refl
near_valid (Hear e) fit s = reads_by fit s
near_valid (Lose e index) fit s = refl
