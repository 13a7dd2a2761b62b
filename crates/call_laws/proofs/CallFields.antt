-- The field of a call has ten octets and tells the call.
use Rattle.station_laws.proofs.Common.{◌≡◌, ℕ, zero, suc, ◌+◌, ◌-◌, ◌<◌, ◌≤◌, ◌==◌, Bool, true, false, List}
use Rattle.station_laws.proofs.Common.{[], ◌∷◌, ◌++◌, length, cond, Option, Some, None, refl, sym, ap, ◌∙◌, arith}
use Rattle.station_laws.proofs.Common.{inl, inr, length-append, Callsign, IsCallCharacter}
use Rattle.station_laws.proofs.Common.{call_of_text, call_in, each_append, recursion_from_All}
use Rattle.std.specs.Prelude.{replicate}
use Rattle.std.specs.List.{AllByRecursion as Each}
use Rattle.std.proofs.lemmas.List.{length-replicate}
use Rattle.ax25_address.specs.Callsign.{IsCall}
use Rattle.ax25_address.specs.CallText.{text_of_call, ssid_suffix}
use Rattle.ax25_address.proofs.SsidLemmas.{SsidOctets, octets_from_tells}
use Rattle.ax25_address.proofs.TextLemmas.{IsCallText-text}
use Rattle.agwpe_port.specs.CallField.{call_field}
use Rattle.station.specs.CallFields.{field_of, sent_back}
use Rattle.station.proofs.CallLemmas.{call_of_text-is}
use Rattle.station_laws.proofs.ValidCalls.{call_valid}

abbrev IsNoNul : ℕ → Type 0
IsNoNul c = 0 < c

character_no_nul : (c : ℕ) → IsCallCharacter c → IsNoNul c
character_no_nul c (inl capital) = let h = capital.0 in omega arith
character_no_nul c (inr digit) = let h = digit.0 in omega arith

name_no_nul : (name : List ℕ) → Each IsCallCharacter name → Each IsNoNul name
name_no_nul [] h = tt
name_no_nul (c ∷ name) h = (character_no_nul c h.0, name_no_nul name h.1)

-- what tells an SSID is short
record IsTail (tail : List ℕ) : Type 0 where
  short : length tail ≤ 3
  no_nul : Each IsNoNul tail

tail_is : (tail : List ℕ) (n : ℕ) → SsidOctets tail n → IsTail tail
tail_is [] n h = record { short = omega arith; no_nul = tt }
tail_is (a ∷ []) n (inl h) = absurd (let e = h.0 in omega arith)
tail_is (a ∷ []) n (inr (inl h)) = absurd (let e = h.len in omega arith)
tail_is (a ∷ []) n (inr (inr h)) = absurd (let e = h.len in omega arith)
tail_is (a ∷ b ∷ []) n (inl h) = absurd (let e = h.0 in omega arith)
tail_is (a ∷ b ∷ []) n (inr (inl h)) =
    let first : a ≡ 45 = h.dash in let second : b ≡ 48 + n = h.digit in
    record { short = omega arith; no_nul = (omega arith, (omega arith, tt)) }
tail_is (a ∷ b ∷ []) n (inr (inr h)) = absurd (let e = h.len in omega arith)
tail_is (a ∷ b ∷ c ∷ []) n (inl h) = absurd (let e = h.0 in omega arith)
tail_is (a ∷ b ∷ c ∷ []) n (inr (inl h)) = absurd (let e = h.len in omega arith)
tail_is (a ∷ b ∷ c ∷ []) n (inr (inr h)) =
    let first : a ≡ 45 = h.dash in let second : b ≡ 49 = h.ten in let third : c ≡ 38 + n = h.digit in
    record { short = omega arith; no_nul = (omega arith, (omega arith, (omega arith, tt))) }
tail_is (a ∷ b ∷ c ∷ d ∷ more) n (inl h) = absurd (let e = h.0 in omega arith)
tail_is (a ∷ b ∷ c ∷ d ∷ more) n (inr (inl h)) = absurd (let e = h.len in omega arith)
tail_is (a ∷ b ∷ c ∷ d ∷ more) n (inr (inr h)) = absurd (let e = h.len in omega arith)

record IsShortText (text : List ℕ) : Type 0 where
  short : length text ≤ 10
  no_nul : Each IsNoNul text

text_short : (call : Callsign) → IsCall call → IsShortText (text_of_call call)
text_short call valid = go (call.ssid == 0)
  where
    few : length call.name ≤ 6
    few = valid.name.longest

    letters : Each IsNoNul call.name
    letters = name_no_nul call.name (recursion_from_All IsCallCharacter call.name valid.name.characters)

    tail : IsTail (ssid_suffix call.ssid)
    tail = tail_is (ssid_suffix call.ssid) call.ssid
        (octets_from_tells (ssid_suffix call.ssid) call.ssid valid.ssid (inr refl))

    go : (b : Bool) → IsShortText (cond b call.name (call.name ++ ssid_suffix call.ssid))
    go true = record { short = omega (arith, few); no_nul = letters }
    go false = record {
      short = omega (arith, few, tail.short, length-append call.name (ssid_suffix call.ssid));
      no_nul = each_append IsNoNul call.name (ssid_suffix call.ssid) letters tail.no_nul;
    }

pub field_ten : (call : Callsign) → IsCall call → length (call_field call) ≡ 10
field_ten call valid =
    let text = text_of_call call in
    omega (
      arith,
      (text_short call valid).short,
      length-append text (replicate (10 - length text) 0),
      length-replicate {A = ℕ} (10 - length text) 0,
    )

-- ---- a field tells its call

no_zero : (n : ℕ) → IsNoNul n → n ≡ 0 → ⊥
no_zero n h is = omega arith

pad_none : (y : ℕ) (ys : List ℕ) (m n : ℕ) → IsNoNul y → replicate m 0 ≡ y ∷ (ys ++ replicate n 0) → ⊥
pad_none y ys zero n h is = cc
pad_none y ys (suc m) n h is = no_zero y h (let e : 0 ≡ y = cc in sym e)

unpadded : (xs ys : List ℕ) (m n : ℕ) → Each IsNoNul xs → Each IsNoNul ys
    → xs ++ replicate m 0 ≡ ys ++ replicate n 0 → xs ≡ ys
unpadded [] [] m n h k is = refl
unpadded [] (y ∷ ys) m n h k is = absurd (pad_none y ys m n k.0 is)
unpadded (x ∷ xs) [] m n h k is = absurd (pad_none x xs n m h.0 (sym is))
unpadded (x ∷ xs) (y ∷ ys) m n h k is =
    let head : x ≡ y = cc in
    let rest : xs ++ replicate m 0 ≡ ys ++ replicate n 0 = cc in
    ap (λ z. z ∷ xs) head ∙ ap (λ zs. y ∷ zs) (unpadded xs ys m n h.1 k.1 rest)

pub field_tells : (c d : Callsign) → IsCall c → IsCall d → call_field c ≡ call_field d → c ≡ d
field_tells c d c_valid d_valid is =
    let texts : text_of_call c ≡ text_of_call d =
    unpadded (text_of_call c) (text_of_call d) (10 - length (text_of_call c)) (10 - length (text_of_call d))
    (text_short c c_valid).no_nul (text_short d d_valid).no_nul is in
    let one : call_of_text (text_of_call c) ≡ Some c = call_of_text-is (text_of_call c) c (IsCallText-text c c_valid) in
    let two : call_of_text (text_of_call d) ≡ Some d = call_of_text-is (text_of_call d) d (IsCallText-text d d_valid) in
    let both : Some c ≡ Some d = sym one ∙ ap call_of_text texts ∙ two in
    cc

-- a field as it is sent back
pub sent_back_ten : (field : List ℕ) → length field ≡ 10 → length (sent_back field) ≡ 10
sent_back_ten field ten = go (call_in field) refl
  where
    go : (o : Option Callsign) → call_in field ≡ o → length (field_of field o) ≡ 10
    go None is = ten
    go (Some call) is = field_ten call (call_valid field call is)
