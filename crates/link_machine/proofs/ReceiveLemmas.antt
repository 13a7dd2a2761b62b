-- What becomes of the packet of an I frame.
use Rattle.link_machine.proofs.Common.{◌≡◌, ℕ, zero, suc, ◌+◌, ◌≤◌, ◌==◌, Bool, true, false, if◌then◌else◌}
use Rattle.link_machine.proofs.Common.{List, [], ◌∷◌, ◌++◌, length, drop, replicate, Some, refl, sym, ◌∙◌, ap, arith}
use Rattle.link_machine.proofs.Common.{nat_lt, eqb-true, false≢true, lt-ltb, Packet, Place, Next, Stored, Mode, ahead}
use Rattle.link_machine.proofs.Common.{empty_place, packet_at, is_full, with_packet, Incoming, took, keeps}
use Rattle.link_machine.proofs.Common.{after_accept, moved_on, IsReady}
use Rattle.std.proofs.Common.{◌&&◌, not}
use Rattle.selective_reject.specs.declared.incoming.Took.{Took}
use Rattle.selective_reject.specs.declared.incoming.Took.TheVariants.{NotNext, Again, Outside}
use Rattle.selective_reject.specs.declared.window.Mode.TheVariants.{Rej, Srej}
use Rattle.selective_reject.specs.Incoming.{taking_by, empty_incoming}

abbrev pub is_next : Took → Bool
is_next Next = true
is_next NotNext = false
is_next Stored = false
is_next Again = false
is_next Outside = false

abbrev pub is_stored : Took → Bool
is_stored Next = false
is_stored NotNext = false
is_stored Stored = true
is_stored Again = false
is_stored Outside = false

pub not_next : (x : Took) → (x ≡ Next → ⊥) → is_next x ≡ false
not_next Next h = absurd (h refl)
not_next NotNext h = refl
not_next Stored h = refl
not_next Again h = refl
not_next Outside h = refl

pub keeps_none : (x : Took) → is_next x ≡ false → is_stored x ≡ false → keeps x ≡ false
keeps_none Next h k = absurd (false≢true (sym h))
keeps_none NotNext h k = refl
keeps_none Stored h k = absurd (false≢true (sym k))
keeps_none Again h k = refl
keeps_none Outside h k = refl

pub keeps_stored : (x : Took) → is_stored x ≡ true → keeps x ≡ true
keeps_stored Next h = refl
keeps_stored NotNext h = absurd (false≢true h)
keeps_stored Stored h = refl
keeps_stored Again h = absurd (false≢true h)
keeps_stored Outside h = absurd (false≢true h)

-- a place that stands at the front
full_at : (ps : List Place) (d : ℕ) → is_full ps 0 ≡ false → (d == 0) ≡ true → is_full ps d ≡ false
full_at ps d h e = ap (λ k. is_full ps k) (eqb-true d 0 e) ∙ h

by_rej : (b full : Bool) → (b ≡ true → full ≡ false)
    → (is_next (if b then (if full then Again else Next) else NotNext) ≡ b)
    × (is_stored (if b then (if full then Again else Next) else NotNext) ≡ false)
by_rej true true h = absurd (false≢true (sym (h refl)))
by_rej true false h = (refl, refl)
by_rej false full h = (refl, refl)

pub took_by_rej :
    (i : Incoming) (ns : ℕ) → i.mode ≡ Rej → is_full i.places 0 ≡ false
    → (is_next (took i ns) ≡ (ahead i.modulus i.vr ns == 0)) × (is_stored (took i ns) ≡ false)
took_by_rej i ns mode next =
    let d = ahead i.modulus i.vr ns in
    let both = by_rej (d == 0) (is_full i.places d) (full_at i.places d next) in (
      ap (λ m. is_next (taking_by m i.window d (is_full i.places d))) mode ∙ both.0,
      ap (λ m. is_stored (taking_by m i.window d (is_full i.places d))) mode ∙ both.1,
    )

by_srej : (within full b : Bool) → (b ≡ true → full ≡ false) → (b ≡ true → within ≡ true)
    → (is_next (if within then (if full then Again else (if b then Next else Stored)) else Outside) ≡ b)
    × (is_stored (if within then (if full then Again else (if b then Next else Stored)) else Outside)
    ≡ (if b then false else (within && not full)))
by_srej true true true h k = absurd (false≢true (sym (h refl)))
by_srej true true false h k = (refl, refl)
by_srej true false true h k = (refl, refl)
by_srej true false false h k = (refl, refl)
by_srej false full true h k = absurd (false≢true (k refl))
by_srej false full false h k = (refl, refl)

pub took_by_srej :
    (i : Incoming) (ns : ℕ) → i.mode ≡ Srej → is_full i.places 0 ≡ false → 1 ≤ i.window →
    let d = ahead i.modulus i.vr ns in
    (is_next (took i ns) ≡ (d == 0)) × (is_stored (took i ns)
    ≡ (if d == 0 then false else (nat_lt d i.window && not (is_full i.places d))))
took_by_srej i ns mode next some =
    let d = ahead i.modulus i.vr ns in
    let both = by_srej (nat_lt d i.window) (is_full i.places d) (d == 0) (full_at i.places d next)
    (λ e. let z : d ≡ 0 = eqb-true d 0 e in lt-ltb d i.window (omega arith)) in (
      ap (λ m. is_next (taking_by m i.window d (is_full i.places d))) mode ∙ both.0,
      ap (λ m. is_stored (taking_by m i.window d (is_full i.places d))) mode ∙ both.1,
    )

-- what an accepted packet leaves
keeping : (i : Incoming) (d : ℕ) (packet : Packet) (b : Bool) → b ≡ true
    → (if b then record i { places = with_packet i.places d packet } else i)
    ≡ record i { places = with_packet i.places d packet }
keeping i d packet true e = refl
keeping i d packet false e = absurd (false≢true e)

leaving : (i : Incoming) (d : ℕ) (packet : Packet) (b : Bool) → b ≡ false
    → (if b then record i { places = with_packet i.places d packet } else i) ≡ i
leaving i d packet true e = absurd (false≢true (sym e))
leaving i d packet false e = refl

pub accepted : (i : Incoming) (ns : ℕ) (packet : Packet) → keeps (took i ns) ≡ true
    → after_accept i ns packet ≡ record i { places = with_packet i.places (ahead i.modulus i.vr ns) packet }
accepted i ns packet e = keeping i (ahead i.modulus i.vr ns) packet (keeps (took i ns)) e

pub not_accepted : (i : Incoming) (ns : ℕ) (packet : Packet) → keeps (took i ns) ≡ false → after_accept i ns packet ≡ i
not_accepted i ns packet e = leaving i (ahead i.modulus i.vr ns) packet (keeps (took i ns)) e

-- a link that is made or cleared waits for nothing
pub ready_cleared : (modulus window : ℕ) (mode : Mode) → IsReady (empty_incoming modulus window mode)
ready_cleared modulus window mode = record { next = empty window; in_sequence = λ _. refl }
  where
    empty : (n : ℕ) → is_full (replicate n empty_place) 0 ≡ false
    empty zero = refl
    empty (suc n) = refl

-- the next packet by REJ: it comes and is given, and no place is full
replicate-push : (n : ℕ) → replicate n empty_place ++ empty_place ∷ [] ≡ replicate (suc n) empty_place
replicate-push zero = refl
replicate-push (suc n) = ap (λ xs. empty_place ∷ xs) (replicate-push n)

pub places_in_sequence : (ps : List Place) (window : ℕ) (packet : Packet) → 1 ≤ window
    → ps ≡ replicate window empty_place
    → drop 1 (with_packet ps 0 packet) ++ empty_place ∷ [] ≡ replicate window empty_place
places_in_sequence ps zero packet h e = absurd (none h)
  where
    none : 1 ≤ 0 → ⊥
    none k = omega arith
places_in_sequence ps (suc n) packet h e =
    ap (λ xs. drop 1 (with_packet xs 0 packet) ++ empty_place ∷ []) e ∙ replicate-push n

pub there_with : (ps : List Place) (packet : Packet) → 1 ≤ length ps
    → packet_at (with_packet ps 0 packet) 0 ≡ Some packet
there_with [] packet h = absurd (none h)
  where
    none : 1 ≤ 0 → ⊥
    none k = omega arith
there_with (p ∷ ps) packet h = refl

drop_with : (ps : List Place) (n : ℕ) (packet : Packet) → drop (suc n) (with_packet ps 0 packet) ≡ drop (suc n) ps
drop_with [] n packet = refl
drop_with (p ∷ ps) n packet = refl

-- the next packet with those that follow
pub moved_with : (i : Incoming) (n : ℕ) (packet : Packet)
    → moved_on (suc n) (record i { places = with_packet i.places 0 packet }) ≡ moved_on (suc n) i
moved_with i n packet = ap (λ ps. record i { vr = i.vr + suc n; places = ps ++ replicate (suc n) empty_place })
    (drop_with i.places n packet)

-- a packet further ahead leaves the first place
pub first_kept : (ps : List Place) (d : ℕ) (packet : Packet) → (d == 0) ≡ false
    → is_full (with_packet ps d packet) 0 ≡ is_full ps 0
first_kept ps zero packet e = absurd (false≢true (sym e))
first_kept [] (suc d) packet e = refl
first_kept (p ∷ ps) (suc d) packet e = refl

pub rej_is_not_srej : Rej ≡ Srej → ⊥
rej_is_not_srej e = false≢true (ap is_srej e)
  where
    is_srej : Mode → Bool
    is_srej Rej = false
    is_srej Srej = true

pub drop_one : (ps : List Place) (packet : Packet) → drop 1 (with_packet ps 0 packet) ≡ drop 1 ps
drop_one ps packet = drop_with ps 0 packet
