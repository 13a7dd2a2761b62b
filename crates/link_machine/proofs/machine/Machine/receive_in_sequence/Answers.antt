use Rattle.link_machine.proofs.Common.{◌≡◌, ◌+◌, ◌≤◌, length, true, false, [], ◌∷◌, ◌++◌, drop, map, sym, ◌∙◌, ap}
use Rattle.link_machine.proofs.Common.{subst, arith, replicate, Some, ahead, Incoming, StandsForIncoming, after_accept}
use Rattle.link_machine.proofs.Common.{took, Given, moved_on, option_to_list, cond-true, option_to_list, is_some, Next}
use Rattle.link_machine.proofs.Common.{keeps, packet_at, is_full, empty_place, with_packet, IsReady, eqb-true}
use Rattle.selective_reject.specs.Incoming.{taken}
use Rattle.selective_reject.specs.declared.window.Mode.TheVariants.{Rej as RejMode}
use Rattle.link_machine.proofs.ReceiveLemmas.{is_next, not_next, keeps_none, took_by_rej, accepted, not_accepted}
use Rattle.link_machine.proofs.ReceiveLemmas.{ready_cleared, drop_one, places_in_sequence, there_with, moved_with}
use Rattle.link_machine.proofs.Showing.{shows_incoming, same_incoming}
use Rattle.link_machine.proofs.machine.Machine.receive_in_sequence.Goals as goal

pub returns-in-Next-clause-next : goal.returns-in-Next-clause-next
returns-in-Next-clause-next c = λ t h mode.
    let i = t.now.incoming in
    let said : c.accept.result ≡ took i c.args.ns = (c.accept.ensures.stands_for i h.holds.stands.incoming).0 in
    let empty : is_full i.places 0 ≡ false = ap (λ ps. is_full ps 0) (sym h.holds.stands.incoming.places)
    ∙ h.holds.next.next in
    ap is_next (sym c.in-Next.is) ∙ ap is_next said ∙ (took_by_rej i c.args.ns mode empty).0

pub returns-in-Next-clause-shows : goal.returns-in-Next-clause-shows
returns-in-Next-clause-shows c = λ t h mode.
    let i = t.now.incoming in
    let accept = c.accept.ensures.stands_for i h.holds.stands.incoming in
    let empty : is_full i.places 0 ≡ false = ap (λ ps. is_full ps 0) (sym h.holds.stands.incoming.places)
    ∙ h.holds.next.next in
    let took_next : took i c.args.ns ≡ Next = sym accept.0 ∙ c.in-Next.is in
    let zero_ahead : ahead i.modulus i.vr c.args.ns ≡ 0 =
    eqb-true _ 0 (sym (took_by_rej i c.args.ns mode empty).0 ∙ ap is_next took_next) in
    let store : Incoming = record i { places = with_packet i.places 0 c.args.packet } in
    let becomes : after_accept i c.args.ns c.args.packet ≡ store =
    accepted i c.args.ns c.args.packet (ap keeps took_next)
    ∙ ap (λ d. record i { places = with_packet i.places d c.args.packet }) zero_ahead in
    let P : Incoming → Type 0 = λ s. StandsForIncoming c.accept.new.self s in
    let stands : StandsForIncoming c.accept.new.self store = subst P becomes accept.1 in
    let held_window : length c.args.self.now.incoming.places ≡ c.args.self.now.incoming.window =
    c.requires.formed.incoming.places in
    let some : 1 ≤ c.args.self.now.incoming.window = c.requires.formed.incoming.window.0 in
    let same : length c.args.self.now.incoming.places ≡ length i.places = ap length h.holds.stands.incoming.places in
    let one : 1 ≤ length i.places = omega arith in
    let there : packet_at store.places 0 ≡ Some c.args.packet = there_with i.places c.args.packet one in
    let there_held : taken c.accept.new.self ≡ Some c.args.packet = ap (λ ps. packet_at ps 0) stands.places ∙ there in
    let full : is_full store.places 0 ≡ true = ap is_some there in
    let given : StandsForIncoming c.give_next.new.incoming (moved_on 1 i) =
    let Q : Incoming → Type 0 = λ s. StandsForIncoming c.give_next.new.incoming s in
    subst Q (cond-true (is_full store.places 0) (record store {
      vr = store.vr + 1;
      places = drop 1 store.places ++ empty_place ∷ [];
    }) store full ∙ moved_with i 0 c.args.packet)
    (c.give_next.ensures.stands_for store stands) in
    let rej : c.args.self.now.incoming.mode ≡ RejMode = h.holds.stands.incoming.mode ∙ mode in
    let whole : i.places ≡ replicate i.window empty_place =
    sym h.holds.stands.incoming.places ∙ h.holds.next.in_sequence rej
    ∙ ap (λ n. replicate n empty_place) h.holds.stands.incoming.window in
    let some_whole : 1 ≤ i.window = let w : c.args.self.now.incoming.window ≡ i.window =
    h.holds.stands.incoming.window in omega arith in
    let places : c.give_next.new.incoming.places ≡ replicate i.window empty_place =
    given.places ∙ ap (λ xs. xs ++ empty_place ∷ []) (sym (drop_one i.places c.args.packet))
    ∙ places_in_sequence i.places i.window c.args.packet some_whole whole in
    let ready : IsReady c.give_next.new.incoming = record {
      next = ap (λ ps. is_full ps 0) places ∙ (ready_cleared i.modulus i.window RejMode).next;
      in_sequence = λ _. places ∙ ap (λ n. replicate n empty_place) (sym given.window);
    } in
    let told : c.give_next.new.room.told.items ≡ c.args.room.now.told.items ++ map Given (c.args.packet ∷ []) =
    c.give_next.ensures.told ∙ ap (λ o. c.args.room.now.told.items ++ map Given (option_to_list o)) there_held in
    shows_incoming c.args.self.now c.give_next.new.incoming c.args.room.now c.give_next.new.room t (moved_on 1 i)
    (c.args.packet ∷ []) h given c.give_next.ensures.formed ready told c.give_next.ensures.frames

pub returns-in_default-clause-next : goal.returns-in_default-clause-next
returns-in_default-clause-next c = λ t h mode.
    let i = t.now.incoming in
    let said : c.accept.result ≡ took i c.args.ns = (c.accept.ensures.stands_for i h.holds.stands.incoming).0 in
    let empty : is_full i.places 0 ≡ false = ap (λ ps. is_full ps 0) (sym h.holds.stands.incoming.places)
    ∙ h.holds.next.next in
    sym (not_next c.accept.result c.in_default.not-Next) ∙ ap is_next said ∙ (took_by_rej i c.args.ns mode empty).0

pub returns-in_default-clause-shows : goal.returns-in_default-clause-shows
returns-in_default-clause-shows c = λ t h mode.
    let i = t.now.incoming in
    let accept = c.accept.ensures.stands_for i h.holds.stands.incoming in
    let empty : is_full i.places 0 ≡ false = ap (λ ps. is_full ps 0) (sym h.holds.stands.incoming.places)
    ∙ h.holds.next.next in
    let none : keeps (took i c.args.ns) ≡ false =
    keeps_none (took i c.args.ns) (ap is_next (sym accept.0) ∙ not_next c.accept.result c.in_default.not-Next)
    (took_by_rej i c.args.ns mode empty).1 in
    let P : Incoming → Type 0 = λ s. StandsForIncoming c.accept.new.self s in
    let stands : StandsForIncoming c.accept.new.self i =
    subst P (not_accepted i c.args.ns c.args.packet none) accept.1 in
    let ready : IsReady c.accept.new.self = record {
      next = ap (λ ps. is_full ps 0) stands.places ∙ empty;
      in_sequence = λ rej. stands.places ∙ sym h.holds.stands.incoming.places
          ∙ h.holds.next.in_sequence (h.holds.stands.incoming.mode ∙ mode)
          ∙ ap (λ n. replicate n empty_place) (h.holds.stands.incoming.window ∙ sym stands.window);
    } in
    same_incoming c.args.self.now c.accept.new.self c.args.room.now t h stands c.accept.ensures.formed ready
