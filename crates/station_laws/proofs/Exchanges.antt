-- An end that asks, and another that never does: of SABM, SABME, DISC and their answers at most one is in flight, and
-- none while the first end is up.
use Rattle.station_laws.proofs.Common.{◌≡◌, ℕ, ◌+◌, ◌≤◌, ◌==◌, Bool, true, false, List, [], ◌∷◌, ◌++◌, length, Option}
use Rattle.station_laws.proofs.Common.{Some, None, ◌⊎◌, inl, inr, refl, ap, arith, count_by, eqb-true, or_cases, Path}
use Rattle.station_laws.proofs.Common.{LinkState, Idle, Calling, Up, Releasing, End, kept, made_in, near_kept, Tagged}
use Rattle.station_laws.proofs.Common.{answers_in, asks_in, is_alone, sends_alone, Happening, RecordedEnd, World}
use Rattle.station_laws.proofs.Common.{happening, turn_of, each_append, event_at_end}
use Rattle.std.specs.List.{AllByRecursion as Each}
use Rattle.link_machine.specs.Event.{Event as LinkEvent}
use Rattle.station_laws.proofs.Acts.{is_asking}
use Rattle.station_laws.proofs.Along.{makes_near}
use Rattle.station_laws.proofs.Counts.{count_append, count_kept, count_take, one}
use Rattle.station_laws.proofs.EndSends.{IsMarked, Makes, Takes, agreeing, asking, end_makes, takes}

-- The state is that of the end that asks; `out` is in flight from it, and `back` to it.
pub record Exchange (state : LinkState) (out back : List Tagged) : Type 0 where
  pub few : asks_in out + answers_in back ≤ 1
  pub up : state ≡ Up → asks_in out + answers_in back ≡ 0
  pub unasked : asks_in back ≡ 0
  pub unanswered : answers_in out ≡ 0
  pub marked : Each IsMarked back

-- as the end that asks sees the world, and as the other one does
abbrev pub AsksOut : World → Type 0
AsksOut w = Exchange w.a.end.machine.control.state w.b.towards w.a.towards

abbrev pub AsksIn : World → Type 0
AsksIn w = Exchange w.b.end.machine.control.state w.a.towards w.b.towards

-- ---- frames that are kept

kept_less : (p : Tagged → Bool) (ms : List Bool) (fs : List Tagged) → count_by p (kept ms fs) ≤ count_by p fs
kept_less p ms fs =
    let first = count_kept p ms fs in
    let both = count_take p (length ms) fs in
    omega arith

each_kept : (P : Tagged → Type 0) (ms : List Bool) (fs : List Tagged) → Each P fs → Each P (kept ms fs)
each_kept P [] fs all = tt
each_kept P (m ∷ ms) [] all = tt
each_kept P (true ∷ ms) (f ∷ fs) all = (all.0, each_kept P ms fs all.1)
each_kept P (false ∷ ms) (f ∷ fs) all = each_kept P ms fs all.1

-- ---- each moves

-- none is sent, or one alone
sent_alone : (n ahead : ℕ) → is_alone n ahead ≡ true → (n ≡ 0) ⊎ (n + ahead ≡ 1)
sent_alone n ahead is = elim (or_cases (n == 0) (n + ahead == 1) is) [
  | inl none ↦ inl (eqb-true n 0 none)
  | inr alone ↦ inr (eqb-true (n + ahead) 1 alone)
]

by_agreeing :
    (b : Bool) (o : Option Happening) (r : RecordedEnd) (out back stays : List Tagged) → agreeing o ≡ b
    → asking o ≡ false → Takes o back stays → Makes o r → Exchange r.machine.control.state out back
    → (turn_of o r).now.machine.control.state ≡ Up → asks_in out + answers_in stays ≡ 0
by_agreeing true o r out back stays is silent t m e up =
    let less = t.agreed is e.marked in let few = e.few in omega arith
by_agreeing false o r out back stays is silent t m e up =
    let none = e.up (m.was_up silent is up) in let less = t.answered in omega arith

no_one : (b : Bool) → one b ≤ 0 → b ≡ false
no_one true low = absurd (omega arith)
no_one false low = refl

pub asker_moves :
    (o : Option Happening) (r : RecordedEnd) (out back stays : List Tagged) (ms : List Bool) → Takes o back stays
    → is_alone (asks_in (turn_of o r).sent) (asks_in out + answers_in stays) ≡ true
    → Exchange r.machine.control.state out back
    → Exchange (turn_of o r).now.machine.control.state (out ++ kept ms (turn_of o r).sent) stays
asker_moves o r out back stays ms t alone e =
    let m : Makes o r = end_makes o r in
    let sent = (turn_of o r).sent in
    let asked = t.asked in
    let unasked = e.unasked in
    let silent : asking o ≡ false = no_one (asking o) (omega arith) in
    let asks_all = count_append is_asking out (kept ms sent) in
    let asks_kept = kept_less is_asking ms sent in
    let answers_all = count_append (λ (f : Tagged). f.answers) out (kept ms sent) in
    let answers_kept = kept_less (λ (f : Tagged). f.answers) ms sent in
    let answers_sent = m.answers in
    let none : one (asking o) ≡ 0 = ap one silent in
    let unanswered = e.unanswered in
    let answered = t.answered in
    let few = e.few in
    record {
      few = elim (sent_alone (asks_in sent) (asks_in out + answers_in stays) alone) [
        | inl zero ↦ omega arith
        | inr one_more ↦ omega arith
      ];
      up = λ is.
          let zero = m.up is in
          let rest = by_agreeing (agreeing o) o r out back stays refl silent t m e is in
          omega arith;
      unasked = omega arith;
      unanswered = omega arith;
      marked = t.marked e.marked;
    }

pub answerer_moves :
    (state : LinkState) (o : Option Happening) (r : RecordedEnd) (out back stays : List Tagged) (ms : List Bool)
    → Takes o out stays → asks_in (turn_of o r).sent ≡ 0 → Exchange state out back
    → Exchange state stays (back ++ kept ms (turn_of o r).sent)
answerer_moves state o r out back stays ms t silent e =
    let m : Makes o r = end_makes o r in
    let sent = (turn_of o r).sent in
    let asked = t.asked in
    let unasked = e.unasked in
    let asks_all = count_append is_asking back (kept ms sent) in
    let asks_kept = kept_less is_asking ms sent in
    let answers_all = count_append (λ (f : Tagged). f.answers) back (kept ms sent) in
    let answers_kept = kept_less (λ (f : Tagged). f.answers) ms sent in
    let answers_sent = m.answers in
    let unanswered = e.unanswered in
    let answered = t.answered in
    let few = e.few in
    record {
      few = omega arith;
      up = λ is. let none = e.up is in omega arith;
      unasked = omega arith;
      unanswered = omega arith;
      marked = each_append IsMarked back (kept ms sent) e.marked (each_kept IsMarked ms sent m.marked);
    }

-- ---- as changes of a world

pub out_moves :
    (e : End) (event : LinkEvent) (ms : List Bool) (w : World) → sends_alone w (event_at_end e event) ≡ true → AsksOut w
    → AsksOut (near_kept (event_at_end e event) ms w)
out_moves e event ms w alone h =
    let modulus = w.a.end.machine.incoming.modulus in
    asker_moves (happening (event_at_end e event) modulus w.a.towards) w.a.end w.b.towards w.a.towards _ ms
    (takes e event modulus w.a.towards) alone h

pub in_moves :
    (e : End) (event : LinkEvent) (ms : List Bool) (w : World)
    → asks_in (turn_of (happening (event_at_end e event) w.a.end.machine.incoming.modulus w.a.towards) w.a.end).sent ≡ 0
    → AsksIn w → AsksIn (near_kept (event_at_end e event) ms w)
in_moves e event ms w silent h =
    let modulus = w.a.end.machine.incoming.modulus in
    answerer_moves w.b.end.machine.control.state (happening (event_at_end e event) modulus w.a.towards) w.a.end
    w.a.towards w.b.towards _ ms (takes e event modulus w.a.towards) silent h

-- a link that is made is idle
in_state :
    (state next : LinkState) (out back : List Tagged) → (next ≡ Up → state ≡ Up) → Exchange state out back
    → Exchange next out back
in_state state next out back was_up e = record {
  few = e.few;
  up = λ is. e.up (was_up is);
  unasked = e.unasked;
  unanswered = e.unanswered;
  marked = e.marked;
}

made_up :
    (state : LinkState) (path : Path) (r : RecordedEnd) → (made_in state path r).machine.control.state ≡ Up
    → r.machine.control.state ≡ Up
made_up Idle path r is = absurd (let clash : Idle ≡ Up = is in cc)
made_up Calling path r is = is
made_up Up path r is = is
made_up Releasing path r is = is

pub out_made : (anew : Option Path) (w : World) → AsksOut w → AsksOut (makes_near anew w)
out_made None w h = h
out_made (Some path) w h =
    let state = w.a.end.machine.control.state in
    in_state state (made_in state path w.a.end).machine.control.state w.b.towards w.a.towards
    (made_up state path w.a.end) h

pub in_made : (anew : Option Path) (w : World) → AsksIn w → AsksIn (makes_near anew w)
in_made None w h = h
in_made (Some path) w h = h
