use Rattle.link_machine.proofs.Common.{◌≡◌, ◌≤◌, length, Bool, true, false, nat_lt, ◌++◌, drop, map, refl, sym}
use Rattle.link_machine.proofs.Common.{◌∙◌, ap, subst, arith, ahead, Incoming, StandsForIncoming, after_accept, took}
use Rattle.link_machine.proofs.Common.{Given, ahead_of_vr, changing, run, moved_on, run_with, give}
use Rattle.link_machine.proofs.Common.{stored, Shows, ◌&&◌, not, cond-true, cond-false, Next, keeps, inl, inr}
use Rattle.link_machine.proofs.Common.{is_full, with_packet, IsReady, ◌==◌, eqb-true}
use Rattle.link_machine.proofs.Showing.{shows_changing, shows_incoming, holds_incoming, same_incoming, shows_as}
use Rattle.selective_reject.specs.declared.window.Mode.TheVariants.{Srej as SrejMode}
use Rattle.link_machine.proofs.RunLemmas.{run_with_next}
use Rattle.link_machine.proofs.ReceiveLemmas.{is_next, is_stored, not_next, keeps_stored, keeps_none, took_by_srej}
use Rattle.link_machine.proofs.ReceiveLemmas.{accepted, not_accepted, moved_with, first_kept, rej_is_not_srej}
use Rattle.std.proofs.lemmas.Bool.{cases_Bool}
use Rattle.link_machine.proofs.machine.Machine.receive_selected.Goals as goal

pub returns-in-Next-clause-shows : goal.returns-in-Next-clause-shows
returns-in-Next-clause-shows c = λ t h.
    let i = t.now.incoming in
    let p = c.args.packet in
    let accept = c.accept.ensures.stands_for i h.holds.stands.incoming in
    let empty : is_full i.places 0 ≡ false = ap (λ ps. is_full ps 0) (sym h.holds.stands.incoming.places)
    ∙ h.holds.next.next in
    let srej : i.mode ≡ SrejMode = sym h.holds.stands.incoming.mode ∙ c.requires.mode in
    let some : 1 ≤ c.args.self.now.incoming.window = c.requires.formed.incoming.window.0 in
    let w : c.args.self.now.incoming.window ≡ i.window = h.holds.stands.incoming.window in
    let some_whole : 1 ≤ i.window = omega arith in
    let took_next : took i c.args.ns ≡ Next = sym accept.0 ∙ c.in-Next.is in
    let yes : (ahead_of_vr c.args.ns t.now == 0) ≡ true = sym (took_by_srej i c.args.ns srej empty some_whole).0
    ∙ ap is_next took_next in
    let zero_ahead : ahead i.modulus i.vr c.args.ns ≡ 0 = eqb-true _ 0 yes in
    let store : Incoming = record i { places = with_packet i.places 0 p } in
    let becomes : after_accept i c.args.ns p ≡ store =
    accepted i c.args.ns p (ap keeps took_next) ∙ ap (λ d. record i { places = with_packet i.places d p }) zero_ahead in
    let P : Incoming → Type 0 = λ s. StandsForIncoming c.accept.new.self s in
    let stands : StandsForIncoming c.accept.new.self store = subst P becomes accept.1 in
    let held_window : length c.args.self.now.incoming.places ≡ c.args.self.now.incoming.window =
    c.requires.formed.incoming.places in
    let same : length c.args.self.now.incoming.places ≡ length i.places = ap length h.holds.stands.incoming.places in
    let one : 1 ≤ length i.places = omega arith in
    let all : run store.places ≡ run_with p t.now = run_with_next i.places p one in
    let given : StandsForIncoming c.give_run.new.incoming (moved_on (length (run_with p t.now)) i) =
    let Q : Incoming → Type 0 = λ s. StandsForIncoming c.give_run.new.incoming s in
    subst Q (ap (λ xs. moved_on (length xs) store) all ∙ moved_with i (length (run (drop 1 i.places))) p)
    (c.give_run.ensures.stands_for store stands) in
    let ready : IsReady c.give_run.new.incoming = record {
      next = c.give_run.ensures.next;
      in_sequence = λ rej. absurd (rej_is_not_srej (sym rej ∙ given.mode ∙ srej));
    } in
    let told : c.give_run.new.room.told.items ≡ c.args.room.now.told.items ++ map Given (run_with p t.now) =
    c.give_run.ensures.told ∙ ap (λ ps. c.args.room.now.told.items ++ map Given (run ps)) stands.places
    ∙ ap (λ xs. c.args.room.now.told.items ++ map Given xs) all in
    let shown = shows_incoming c.args.self.now c.give_run.new.incoming c.args.room.now c.give_run.new.room t i
    (run_with p t.now) h given c.give_run.ensures.formed ready told c.give_run.ensures.frames in
    shows_as c.args.self.now c.give_run.new.incoming c.give_run.new.room _ _
    (sym (cond-true (ahead_of_vr c.args.ns t.now == 0) (give (run_with p t.now) t) _ yes)) shown

pub returns-in_default-clause-shows : goal.returns-in_default-clause-shows
returns-in_default-clause-shows c = λ t h.
    let i = t.now.incoming in
    let p = c.args.packet in
    let d = ahead_of_vr c.args.ns t.now in
    let accept = c.accept.ensures.stands_for i h.holds.stands.incoming in
    let empty : is_full i.places 0 ≡ false = ap (λ ps. is_full ps 0) (sym h.holds.stands.incoming.places)
    ∙ h.holds.next.next in
    let srej : i.mode ≡ SrejMode = sym h.holds.stands.incoming.mode ∙ c.requires.mode in
    let some : 1 ≤ c.args.self.now.incoming.window = c.requires.formed.incoming.window.0 in
    let w : c.args.self.now.incoming.window ≡ i.window = h.holds.stands.incoming.window in
    let some_whole : 1 ≤ i.window = omega arith in
    let tests = took_by_srej i c.args.ns srej empty some_whole in
    let no_next : is_next (took i c.args.ns) ≡ false = ap is_next (sym accept.0)
    ∙ not_next c.accept.result c.in_default.not-Next in
    let no : (d == 0) ≡ false = sym tests.0 ∙ no_next in
    let free : Bool = nat_lt d i.window && not (is_full i.places d) in
    let kept : is_stored (took i c.args.ns) ≡ free = tests.1 ∙ cond-false (d == 0) false free no in
    let P : Incoming → Type 0 = λ s. StandsForIncoming c.accept.new.self s in
    elim (cases_Bool free) [
      | inl fits ↦
          let store : Incoming = record i { places = with_packet i.places d p } in
          let stands : StandsForIncoming c.accept.new.self store =
          subst P (accepted i c.args.ns p (keeps_stored (took i c.args.ns) (kept ∙ fits))) accept.1 in
          let ready : IsReady c.accept.new.self = record {
            next = ap (λ ps. is_full ps 0) stands.places ∙ first_kept i.places d p no ∙ empty;
            in_sequence = λ rej. absurd (rej_is_not_srej (sym rej ∙ stands.mode ∙ srej));
          } in
          let there : Shows (record c.args.self.now { incoming = c.accept.new.self }) c.args.room.now
          (changing (stored d p) t) = shows_changing (stored d p) c.args.self.now _ c.args.room.now t refl h
          (holds_incoming c.args.self.now t.now c.accept.new.self store h.holds stands c.accept.ensures.formed ready) in
          shows_as c.args.self.now c.accept.new.self c.args.room.now _ _
          (sym (cond-false (d == 0) (give (run_with p t.now) t) _ no ∙ cond-true free (changing (stored d p) t) t fits))
          there
      | inr dropped ↦
          let stands : StandsForIncoming c.accept.new.self i =
          subst P (not_accepted i c.args.ns p (keeps_none (took i c.args.ns) no_next (kept ∙ dropped))) accept.1 in
          let ready : IsReady c.accept.new.self = record {
            next = ap (λ ps. is_full ps 0) stands.places ∙ empty;
            in_sequence = λ rej. absurd (rej_is_not_srej (sym rej ∙ stands.mode ∙ srej));
          } in
          let same = same_incoming c.args.self.now c.accept.new.self c.args.room.now t h stands
          c.accept.ensures.formed ready in
          shows_as c.args.self.now c.accept.new.self c.args.room.now _ _
          (sym (cond-false (d == 0) (give (run_with p t.now) t) _ no
          ∙ cond-false free (changing (stored d p) t) t dropped)) same
    ]
