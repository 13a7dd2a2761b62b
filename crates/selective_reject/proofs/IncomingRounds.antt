-- What is decided by numbers on the air is decided by whole numbers, and by true numbers.
use Rattle.std.proofs.Common.{◌≡◌, ℕ, ◌+◌, ◌-◌, ◌%◌, ◌<◌, ◌≤◌, ◌==◌, Bool, true, false, nat_lt, List, [], ◌∷◌, map}
use Rattle.std.proofs.Common.{if◌then◌else◌, ap, sym, ◌∙◌, refl, subst, inl, inr, arith}
use Rattle.std.proofs.Math.Nat.{mod-add-mod}
use Rattle.std.proofs.lemmas.Bool.{cases_lt, lt-ltb, le-ltb, ne_eqb}
use Rattle.selective_reject.specs.declared.packet.Packet.{Packet}
use Rattle.selective_reject.specs.declared.window.Mode.{Mode}
use Rattle.selective_reject.specs.declared.window.Mode.TheVariants.{Rej, Srej}
use Rattle.selective_reject.specs.declared.incoming.Took.{Took}
use Rattle.selective_reject.specs.declared.incoming.Took.TheVariants.{NotNext, Outside}
use Rattle.selective_reject.specs.Numbers.{ahead}
use Rattle.selective_reject.specs.Window.{IsWindow, AreFitting}
use Rattle.selective_reject.specs.Places.{is_full, with_packet, missing, asked}
use Rattle.selective_reject.specs.Incoming.{Incoming, StandsForIncoming, taking, taking_by, after_taking, keeps, took}
use Rattle.selective_reject.specs.Incoming.{after_accept, before_number, numbers_to_ask, after_ask}
use Rattle.selective_reject.specs.TrueNumbers.{IsInReach, old_packet, took_truly, after_accept_truly}
use Rattle.selective_reject.proofs.Distances.{ahead-mod, ahead-at_or_ahead, ahead-following}

same_distance : (held store : Incoming) (ns : ℕ) → StandsForIncoming held store
    → ahead held.modulus held.vr ns ≡ ahead store.modulus store.vr ns
same_distance held store ns h =
    ap (λ t. ahead t held.vr ns) h.modulus ∙ ap (λ t. ahead store.modulus t ns) h.vr
    ∙ ahead-mod store.modulus store.vr ns

same_taking : (held store : Incoming) (d : ℕ) → StandsForIncoming held store → taking held d ≡ taking store d
same_taking held store d h =
    ap (λ t. taking_by t held.window d (is_full held.places d)) h.mode
    ∙ ap (λ t. taking_by store.mode t d (is_full held.places d)) h.window
    ∙ ap (λ t. taking_by store.mode store.window d (is_full t d)) h.places

pub same_took : (held store : Incoming) (ns : ℕ) → StandsForIncoming held store → took held ns ≡ took store ns
same_took held store ns h = ap (taking held) (same_distance held store ns h)
    ∙ same_taking held store (ahead store.modulus store.vr ns) h

chosen : (held store : Incoming) (d : ℕ) (packet : Packet) (b : Bool) → StandsForIncoming held store
    → StandsForIncoming (if b then record held { places = with_packet held.places d packet } else held)
    (if b then record store { places = with_packet store.places d packet } else store)
chosen held store d packet true h =
    record {
      modulus = h.modulus;
      window = h.window;
      mode = h.mode;
      vr = h.vr;
      places = ap (λ t. with_packet t d packet) h.places;
    }
chosen held store d packet false h = h

stands_for-after_taking : (held store : Incoming) (d : ℕ) (packet : Packet) → StandsForIncoming held store
    → StandsForIncoming (after_taking held d packet) (after_taking store d packet)
stands_for-after_taking held store d packet h =
    let P : Took → Type 0 = λ t. StandsForIncoming (if keeps t
    then record held { places = with_packet held.places d packet } else held) (after_taking store d packet) in
    subst P (sym (same_taking held store d h)) (chosen held store d packet (keeps (taking store d)) h)

pub stands_for-after_accept : (held store : Incoming) (ns : ℕ) (packet : Packet) → StandsForIncoming held store
    → StandsForIncoming (after_accept held ns packet) (after_accept store ns packet)
stands_for-after_accept held store ns packet h =
    let P : ℕ → Type 0 = λ t. StandsForIncoming (after_taking held t packet) (after_accept store ns packet) in
    subst P (sym (same_distance held store ns h)) (stands_for-after_taking held store (ahead store.modulus store.vr ns)
    packet h)

-- a packet that was taken before is so far ahead that it is not taken again
taking_by-old : (mode : Mode) (m w k d : ℕ) (full : Bool) → IsWindow m w mode → IsWindow m k mode → m ≤ d + k
    → taking_by mode w d full ≡ old_packet mode
taking_by-old Rej m w k d full own sender far =
    let ahead_of : d ≡ 0 → ⊥ = λ e. omega (arith, sender.0, sender.1) in
    ap (λ t. if t then (if full then Took.Again else Took.Next) else NotNext) (ne_eqb d 0 ahead_of)
taking_by-old Srej m w k d full own sender far =
    let outside : w ≤ d = omega (arith, own.1, sender.1) in
    ap (λ t. if t then (if full then Took.Again else (if d == 0 then Took.Next else Took.Stored)) else Outside)
    (le-ltb d w outside)

not_kept : (mode : Mode) → keeps (old_packet mode) ≡ false
not_kept Rej = refl
not_kept Srej = refl

window_below : (mode : Mode) (m k : ℕ) → IsWindow m k mode → k < m
window_below Rej m k h = omega (arith, h.0, h.1)
window_below Srej m k h = omega (arith, h.0, h.1)

-- a packet that was taken before
old_number : (store : Incoming) (sender number : ℕ) → AreFitting store.modulus store.window sender store.mode
    → IsInReach store.vr sender number
    → number < store.vr → took store (number % store.modulus) ≡ old_packet store.mode
old_number store sender number fit reach old =
    let m = store.modulus in
    let below : sender < m = window_below store.mode m sender fit.1 in
    let near : store.vr ≤ number + sender = reach.0 in
    let d = number + m - store.vr in
    ap (taking store) (ahead-following m store.vr number old (omega arith))
    ∙ taking_by-old store.mode m store.window sender d (is_full store.places d) fit.0 fit.1 (omega arith)

-- a packet from vr on
new_distance : (store : Incoming) (sender number : ℕ) → AreFitting store.modulus store.window sender store.mode
    → IsInReach store.vr sender number
    → store.vr ≤ number → ahead store.modulus store.vr (number % store.modulus) ≡ number - store.vr
new_distance store sender number fit reach new =
    let below : sender < store.modulus = window_below store.mode store.modulus sender fit.1 in
    let near : number < store.vr + sender = reach.1 in
    ahead-at_or_ahead store.modulus store.vr number new (omega arith)

-- if windows fit, a packet is taken as its true number says
took-true_number : (store : Incoming) (sender number : ℕ) → AreFitting store.modulus store.window sender store.mode
    → IsInReach store.vr sender number → took store (number % store.modulus) ≡ took_truly store number
took-true_number store sender number fit reach = elim (cases_lt number store.vr) [
  | inl old ↦ old_number store sender number fit reach old
      ∙ sym (ap (λ t. if t then old_packet store.mode else taking store (number - store.vr))
      (lt-ltb number store.vr old))
  | inr new ↦
      ap (taking store) (new_distance store sender number fit reach new)
      ∙ sym (ap (λ t. if t then old_packet store.mode else taking store (number - store.vr))
      (le-ltb number store.vr new))
]

after_accept-true_number : (store : Incoming) (sender number : ℕ) (packet : Packet)
    → AreFitting store.modulus store.window sender store.mode
    → IsInReach store.vr sender number → after_accept store (number % store.modulus) packet
    ≡ after_accept_truly store number packet
after_accept-true_number store sender number packet fit reach = elim (cases_lt number store.vr) [
  | inl old ↦
      let d = ahead store.modulus store.vr (number % store.modulus) in
      ap (λ t. if keeps t then record store { places = with_packet store.places d packet } else store)
      (old_number store sender number fit reach old)
      ∙ ap (λ t. if t then record store { places = with_packet store.places d packet } else store) (not_kept store.mode)
      ∙ sym (ap (λ t. if t then store else after_taking store (number - store.vr) packet) (lt-ltb number store.vr old))
  | inr new ↦
      ap (λ t. after_taking store t packet) (new_distance store sender number fit reach new)
      ∙ sym (ap (λ t. if t then store else after_taking store (number - store.vr) packet) (le-ltb number store.vr new))
]

pub accept-truly : (held store : Incoming) (sender number ns : ℕ) (packet : Packet) → StandsForIncoming held store
    → AreFitting store.modulus store.window sender store.mode → IsInReach store.vr sender number
    → ns ≡ number % store.modulus
    → (took held ns ≡ took_truly store number) × StandsForIncoming (after_accept held ns packet)
    (after_accept_truly store number packet)
accept-truly held store sender number ns packet h fit reach is =
    let P : Incoming → Type 0 = λ t. StandsForIncoming (after_accept held ns packet) t in (
      same_took held store ns h ∙ ap (took store) is ∙ took-true_number store sender number fit reach,
      subst P (ap (λ t. after_accept store t packet) is ∙ after_accept-true_number store sender number packet fit reach)
          (stands_for-after_accept held store ns packet h),
    )

map-same : (f g : ℕ → ℕ) (xs : List ℕ) → ((k : ℕ) → f k ≡ g k) → map f xs ≡ map g xs
map-same f g [] same = refl
map-same f g (x ∷ xs) same = ap (λ t. t ∷ map f xs) (same x) ∙ ap (λ t. g x ∷ t) (map-same f g xs same)

same_before : (held store : Incoming) (ns : ℕ) → StandsForIncoming held store
    → before_number held ns ≡ before_number store ns
same_before held store ns h =
    ap (λ t. if nat_lt t held.window then t else 0) (same_distance held store ns h)
    ∙ ap (λ t. if nat_lt (ahead store.modulus store.vr ns) t then ahead store.modulus store.vr ns else 0) h.window

pub same_numbers : (held store : Incoming) (ns : ℕ) → StandsForIncoming held store
    → numbers_to_ask held ns ≡ numbers_to_ask store ns
same_numbers held store ns h =
    ap (λ t. map (λ k. (held.vr + k) % t) (missing held.places (before_number held ns))) h.modulus
    ∙ ap (λ t. map (λ k. (t + k) % store.modulus) (missing held.places (before_number held ns))) h.vr
    ∙ map-same (λ k. (store.vr % store.modulus + k) % store.modulus) (λ k. (store.vr + k) % store.modulus)
    (missing held.places (before_number held ns)) (λ k. mod-add-mod store.vr store.modulus k)
    ∙ ap (λ t. map (λ k. (store.vr + k) % store.modulus) (missing t (before_number held ns))) h.places
    ∙ ap (λ t. map (λ k. (store.vr + k) % store.modulus) (missing store.places t)) (same_before held store ns h)

pub stands_for-after_ask : (held store : Incoming) (ns : ℕ) → StandsForIncoming held store
    → StandsForIncoming (after_ask held ns) (after_ask store ns)
stands_for-after_ask held store ns h = record {
  modulus = h.modulus;
  window = h.window;
  mode = h.mode;
  vr = h.vr;
  places = ap (λ t. asked t (before_number held ns)) h.places ∙ ap (asked store.places) (same_before held store ns h);
}
