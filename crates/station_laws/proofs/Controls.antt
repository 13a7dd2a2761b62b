-- SABM, SABME, DISC, UA and DM told by their control octet: the one after the address is that of the frame as it is
-- read.
use Rattle.station_laws.proofs.Common.{◌≡◌, ◌≢◌, ℕ, zero, suc, ◌+◌, ◌-◌, ◌*◌, ◌<◌, ◌==◌, ◌%◌, Bool, true, false, ◌||◌}
use Rattle.station_laws.proofs.Common.{List, [], ◌∷◌, ◌++◌, length, map, take, drop, cond, get_or, Option, Some, refl}
use Rattle.station_laws.proofs.Common.{sym, ap, ◌∙◌, subst, arith, inl, inr, cases_eq, eq-eqb, ne_eqb, or_from}
use Rattle.station_laws.proofs.Common.{append_assoc, drop-drop, bit, Callsign, BeginsWithPath, repeater_count, Hop}
use Rattle.station_laws.proofs.Common.{Path, Frame, Kind, Info, Super, Setup, Ui, Other, Modulus, Eight, OneTwentyEight}
use Rattle.station_laws.proofs.Common.{Sabm, Sabme, Disc, Dm, Ua, body_octets, IsFrame, asks, is_answer, is_ask}
use Rattle.station_laws.proofs.Common.{is_ua_or_dm}
use Rattle.std.proofs.lemmas.List.{take-append-drop, length-drop}
use Rattle.ax25_address.specs.AddressField.{ssid_octet, IsField}
use Rattle.ax25_address.specs.Callsign.{padded}
use Rattle.ax25_address.specs.FramePath.{IsPath, field_at}
use Rattle.ax25_frames.specs.declared.frame.W.TheVariants.{Frmr, Xid, Test}
use Rattle.ax25_frames.specs.ControlField.{supervisory_code}
use Rattle.station_laws.specs.InFlight.{sabm, sabme, disc, ua, dm, is_control_of, first_of, control_octet}
use Rattle.station_laws.specs.InFlight.{is_ask_control, is_answer_control}

-- ---- the octet after the address

-- octets of which the last one alone may be odd
record EndsBy (last : Bool) (octets : List ℕ) : Type 0 where
  even : List ℕ
  end : ℕ
  split : octets ≡ map (λ c. 2 * c) even ++ end ∷ []
  bit_is : end % 2 ≡ bit last

even_is : (c : ℕ) → (2 * c) % 2 ≡ 0
even_is c = omega arith

past_even : (even rest : List ℕ) → control_octet (map (λ c. 2 * c) even ++ rest) ≡ control_octet rest
past_even [] rest = refl
past_even (c ∷ even) rest =
    let others = map (λ c. 2 * c) even ++ rest in
    ap (λ n. cond (n == 1) (first_of others) (control_octet others)) (even_is c) ∙ past_even even rest

past_field : (octets rest : List ℕ) → EndsBy false octets → control_octet (octets ++ rest) ≡ control_octet rest
past_field octets rest h =
    ap (λ xs. control_octet (xs ++ rest)) h.split
    ∙ ap control_octet (append_assoc (map (λ c. 2 * c) h.even) (h.end ∷ []) rest)
    ∙ past_even h.even (h.end ∷ rest)
    ∙ ap (λ n. cond (n == 1) (first_of rest) (control_octet rest)) h.bit_is

past_last : (octets rest : List ℕ) → EndsBy true octets → control_octet (octets ++ rest) ≡ first_of rest
past_last octets rest h =
    ap (λ xs. control_octet (xs ++ rest)) h.split
    ∙ ap control_octet (append_assoc (map (λ c. 2 * c) h.even) (h.end ∷ []) rest)
    ∙ past_even h.even (h.end ∷ rest)
    ∙ ap (λ n. cond (n == 1) (first_of rest) (control_octet rest)) h.bit_is

field_ends : (call : Callsign) (top last : Bool) (octets : List ℕ) → IsField call top last octets → EndsBy last octets
field_ends call top last octets h = record {
  even = padded call.name;
  end = ssid_octet top h.reserved call.ssid last;
  split = h.spelling;
  bit_is = parity top last;
}
  where
    parity : (top last : Bool) → ssid_octet top h.reserved call.ssid last % 2 ≡ bit last
    parity true true = omega arith
    parity true false = omega arith
    parity false true = omega arith
    parity false false = omega arith

-- fields one after another, of which the last alone ends the address
past_fields :
    (more : ℕ) (octets rest : List ℕ) → length octets ≡ 7 * (more + 1)
    → ((k : ℕ) → k < more + 1 → EndsBy (k == more) (field_at octets k))
    → control_octet (octets ++ rest) ≡ first_of rest
past_fields zero octets rest size each =
    past_last octets rest (subst (EndsBy true) (whole octets size) (each zero (omega arith)))
  where
    take_whole : (xs : List ℕ) → take (length xs) xs ≡ xs
    take_whole [] = refl
    take_whole (x ∷ xs) = ap (λ ys. x ∷ ys) (take_whole xs)

    whole : (xs : List ℕ) → length xs ≡ 7 → take 7 xs ≡ xs
    whole xs size = ap (λ n. take n xs) (sym size) ∙ take_whole xs
past_fields (suc more) octets rest size each =
    let ys = drop 7 octets in
    let front : EndsBy false (take 7 octets) =
    subst (λ b. EndsBy b (take 7 octets)) (ne_eqb 0 (suc more) (λ e. absurd (omega arith))) (each 0 (omega arith)) in
    let left : length ys ≡ length octets - 7 = length-drop 7 octets in
    ap (λ xs. control_octet (xs ++ rest)) (sym (take-append-drop 7 octets))
    ∙ ap control_octet (append_assoc (take 7 octets) ys rest)
    ∙ past_field (take 7 octets) (ys ++ rest) front
    ∙ past_fields more ys rest (omega arith) (λ k less.
    let there : field_at octets (k + 1) ≡ field_at ys k =
    let n : 7 * (k + 1) ≡ 7 + 7 * k = omega arith in
    ap (λ n. take 7 (drop n octets)) n ∙ ap (take 7) (sym (drop-drop (7 * k) 7 octets)) in
    subst (EndsBy (k == more)) there
    (subst (λ b. EndsBy b (field_at octets (k + 1))) (same_test k more) (each (k + 1) (omega arith))))
  where
    same_test : (k n : ℕ) → (k + 1 == suc n) ≡ (k == n)
    same_test k n = elim (cases_eq k n) [
      | inl is ↦ eq-eqb (k + 1) (suc n) (omega arith) ∙ sym (eq-eqb k n is)
      | inr other ↦ ne_eqb (k + 1) (suc n) (λ e. other (omega arith)) ∙ sym (ne_eqb k n other)
    ]

-- the fields of a path
pub past_path :
    (octets : List ℕ) (path : Path) (len : ℕ) → BeginsWithPath octets path len
    → control_octet octets ≡ first_of (drop len octets)
past_path octets path len h =
    ap control_octet (sym (take-append-drop len octets))
    ∙ past_fields (repeater_count path + 1) (take len octets) (drop len octets) (h.1.size ∙ count (repeater_count path))
    each
  where
    count : (n : ℕ) → 14 + 7 * n ≡ 7 * (n + 1 + 1)
    count n = omega arith

    fields : IsPath path (take len octets)
    fields = h.1

    each : (k : ℕ) → k < repeater_count path + 1 + 1
        → EndsBy (k == repeater_count path + 1) (field_at (take len octets) k)
    each zero less =
        subst (λ b. EndsBy b (field_at (take len octets) 0))
        (sym (ne_eqb 0 (repeater_count path + 1) (λ e. absurd (omega arith))))
        (field_ends path.dest _ false (field_at (take len octets) 0) fields.destination)
    each (suc zero) less =
        subst (λ b. EndsBy b (field_at (take len octets) 1)) (same (repeater_count path))
        (field_ends path.source _ (repeater_count path == 0) (field_at (take len octets) 1) fields.source)
      where
        same : (n : ℕ) → (n == 0) ≡ (1 == n + 1)
        same n = elim (cases_eq n 0) [
          | inl is ↦ eq-eqb n 0 is ∙ sym (eq-eqb 1 (n + 1) (omega arith))
          | inr other ↦ ne_eqb n 0 other ∙ sym (ne_eqb 1 (n + 1) (λ e. other (omega arith)))
        ]
    each (suc (suc k)) less =
        let within : k < repeater_count path = omega arith in
        let hop : Hop = get_or path.repeaters.items k (record { call = path.dest; done = false }) in
        let at : k + 2 ≡ suc (suc k) = omega arith in
        subst (λ n. EndsBy (suc (suc k) == repeater_count path + 1) (field_at (take len octets) n)) at
        (subst (λ b. EndsBy b (field_at (take len octets) (k + 2))) (same k (repeater_count path))
        (field_ends hop.call hop.done (k + 1 == repeater_count path) (field_at (take len octets) (k + 2))
        (fields.repeaters k (record { call = path.dest; done = false }) within)))
      where
        same : (k n : ℕ) → (k + 1 == n) ≡ (suc (suc k) == n + 1)
        same k n = elim (cases_eq (k + 1) n) [
          | inl is ↦ eq-eqb (k + 1) n is ∙ sym (eq-eqb (suc (suc k)) (n + 1) (omega arith))
          | inr other ↦ ne_eqb (k + 1) n other ∙ sym (ne_eqb (suc (suc k)) (n + 1) (λ e. other (omega arith)))
        ]

-- ---- what it tells

-- the control octets of I and S frames are none of these: their lowest two bits are not both 1
no_control :
    (n : ℕ) → n ≢ 47 → n ≢ 63 → n ≢ 111 → n ≢ 127 → n ≢ 67 → n ≢ 83 → is_ask_control (Some n) ≡ false
no_control n a b c d e f =
    or_from (is_control_of sabm n) (is_control_of sabme n || is_control_of disc n)
    (or_from (n == 47) (n == 63) (ne_eqb n 47 a) (ne_eqb n 63 b))
    (or_from (is_control_of sabme n) (is_control_of disc n)
    (or_from (n == 111) (n == 127) (ne_eqb n 111 c) (ne_eqb n 127 d))
    (or_from (n == 67) (n == 83) (ne_eqb n 67 e) (ne_eqb n 83 f)))

no_answer : (n : ℕ) → n ≢ 99 → n ≢ 115 → n ≢ 15 → n ≢ 31 → is_answer_control (Some n) ≡ false
no_answer n a b c d =
    or_from (is_control_of ua n) (is_control_of dm n)
    (or_from (n == 99) (n == 115) (ne_eqb n 99 a) (ne_eqb n 115 b))
    (or_from (n == 15) (n == 31) (ne_eqb n 15 c) (ne_eqb n 31 d))

record TellsNothing (n : ℕ) : Type 0 where
  ask : is_ask_control (Some n) ≡ false
  answer : is_answer_control (Some n) ≡ false

even_tells : (n k : ℕ) → n ≡ 2 * k → TellsNothing n
even_tells n k is = record {
  ask = no_control n (λ e. absurd (omega arith)) (λ e. absurd (omega arith)) (λ e. absurd (omega arith))
      (λ e. absurd (omega arith)) (λ e. absurd (omega arith)) (λ e. absurd (omega arith));
  answer = no_answer n (λ e. absurd (omega arith)) (λ e. absurd (omega arith)) (λ e. absurd (omega arith))
      (λ e. absurd (omega arith));
}

super_tells : (n k : ℕ) → n ≡ 4 * k + 1 → TellsNothing n
super_tells n k is = record {
  ask = no_control n (λ e. absurd (omega arith)) (λ e. absurd (omega arith)) (λ e. absurd (omega arith))
      (λ e. absurd (omega arith)) (λ e. absurd (omega arith)) (λ e. absurd (omega arith));
  answer = no_answer n (λ e. absurd (omega arith)) (λ e. absurd (omega arith)) (λ e. absurd (omega arith))
      (λ e. absurd (omega arith));
}

-- a body tells its kind
record TellsKind (o : Option ℕ) (kind : Kind) : Type 0 where
  ask : is_ask_control o ≡ asks kind
  answer : is_answer_control o ≡ is_answer kind

told_by_body : (modulus : Modulus) (kind : Kind) → TellsKind (first_of (body_octets modulus kind)) kind
told_by_body Eight (Info ns nr poll pid octets) =
    let t = even_tells (32 * nr + 16 * bit poll + 2 * ns) (16 * nr + 8 * bit poll + ns) (omega arith) in
    record { ask = t.ask; answer = t.answer }
told_by_body OneTwentyEight (Info ns nr poll pid octets) =
    let t = even_tells (2 * ns) ns refl in
    record { ask = t.ask; answer = t.answer }
told_by_body Eight (Super which nr flag) =
    let t = super_tells (32 * nr + 16 * bit flag + 4 * supervisory_code which + 1)
    (8 * nr + 4 * bit flag + supervisory_code which) (omega arith) in
    record { ask = t.ask; answer = t.answer }
told_by_body OneTwentyEight (Super which nr flag) =
    let t = super_tells (4 * supervisory_code which + 1) (supervisory_code which) refl in
    record { ask = t.ask; answer = t.answer }
told_by_body Eight (Setup Sabm true) = record { ask = refl; answer = refl }
told_by_body Eight (Setup Sabm false) = record { ask = refl; answer = refl }
told_by_body Eight (Setup Sabme true) = record { ask = refl; answer = refl }
told_by_body Eight (Setup Sabme false) = record { ask = refl; answer = refl }
told_by_body Eight (Setup Disc true) = record { ask = refl; answer = refl }
told_by_body Eight (Setup Disc false) = record { ask = refl; answer = refl }
told_by_body Eight (Setup Dm true) = record { ask = refl; answer = refl }
told_by_body Eight (Setup Dm false) = record { ask = refl; answer = refl }
told_by_body Eight (Setup Ua true) = record { ask = refl; answer = refl }
told_by_body Eight (Setup Ua false) = record { ask = refl; answer = refl }
told_by_body OneTwentyEight (Setup Sabm true) = record { ask = refl; answer = refl }
told_by_body OneTwentyEight (Setup Sabm false) = record { ask = refl; answer = refl }
told_by_body OneTwentyEight (Setup Sabme true) = record { ask = refl; answer = refl }
told_by_body OneTwentyEight (Setup Sabme false) = record { ask = refl; answer = refl }
told_by_body OneTwentyEight (Setup Disc true) = record { ask = refl; answer = refl }
told_by_body OneTwentyEight (Setup Disc false) = record { ask = refl; answer = refl }
told_by_body OneTwentyEight (Setup Dm true) = record { ask = refl; answer = refl }
told_by_body OneTwentyEight (Setup Dm false) = record { ask = refl; answer = refl }
told_by_body OneTwentyEight (Setup Ua true) = record { ask = refl; answer = refl }
told_by_body OneTwentyEight (Setup Ua false) = record { ask = refl; answer = refl }
told_by_body Eight (Ui true pid octets) = record { ask = refl; answer = refl }
told_by_body Eight (Ui false pid octets) = record { ask = refl; answer = refl }
told_by_body OneTwentyEight (Ui true pid octets) = record { ask = refl; answer = refl }
told_by_body OneTwentyEight (Ui false pid octets) = record { ask = refl; answer = refl }
told_by_body Eight (Other Frmr true octets) = record { ask = refl; answer = refl }
told_by_body Eight (Other Frmr false octets) = record { ask = refl; answer = refl }
told_by_body Eight (Other Xid true octets) = record { ask = refl; answer = refl }
told_by_body Eight (Other Xid false octets) = record { ask = refl; answer = refl }
told_by_body Eight (Other Test true octets) = record { ask = refl; answer = refl }
told_by_body Eight (Other Test false octets) = record { ask = refl; answer = refl }
told_by_body OneTwentyEight (Other Frmr true octets) = record { ask = refl; answer = refl }
told_by_body OneTwentyEight (Other Frmr false octets) = record { ask = refl; answer = refl }
told_by_body OneTwentyEight (Other Xid true octets) = record { ask = refl; answer = refl }
told_by_body OneTwentyEight (Other Xid false octets) = record { ask = refl; answer = refl }
told_by_body OneTwentyEight (Other Test true octets) = record { ask = refl; answer = refl }
told_by_body OneTwentyEight (Other Test false octets) = record { ask = refl; answer = refl }

-- ---- a frame's octets

-- what they begin with, and their body
pub record ToldByOctets (octets : List ℕ) (kind : Kind) : Type 0 where
  pub ask : is_ask octets ≡ asks kind
  pub answer : is_ua_or_dm octets ≡ is_answer kind

pub told_by_octets :
    (modulus : Modulus) (kind : Kind) (octets : List ℕ) (path : Path) (len : ℕ) → BeginsWithPath octets path len
    → drop len octets ≡ body_octets modulus kind → ToldByOctets octets kind
told_by_octets modulus kind octets path len begins body =
    let at : control_octet octets ≡ first_of (body_octets modulus kind) =
    past_path octets path len begins ∙ ap first_of body in
    let told = told_by_body modulus kind in
    record { ask = ap is_ask_control at ∙ told.ask; answer = ap is_answer_control at ∙ told.answer }

-- a frame that is read as SABM, SABME or DISC
pub ask_heard :
    (modulus : Modulus) (octets : List ℕ) (frame : Frame) → IsFrame frame modulus octets → asks frame.kind ≡ true
    → is_ask octets ≡ true
ask_heard modulus octets frame is asking =
    (told_by_octets modulus frame.kind octets frame.path is.len is.path is.body).ask ∙ asking
