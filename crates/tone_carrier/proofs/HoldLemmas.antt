-- The hold counts right: it is above 0 exactly if the windows show a carrier.
use Rattle.std.proofs.Common.{◌≡◌, ℕ, zero, suc, ◌+◌, ◌-◌, ◌<◌, ◌≤◌, ◌⊎◌, inl, inr, List, length, refl, ap, arith, Bool}
use Rattle.std.specs.Prelude.{◌↔◌, ◌&&◌, ◌||◌, ◌==◌, IsTrue, nat_lt, nat_le}
use Rattle.std.proofs.lemmas.Bool.{cases_Bool, cases_lt, or_cases, or_parts, and_parts, and_cases, cond-true}
use Rattle.std.proofs.lemmas.Bool.{cond-false, ltb-true, ltb-false, leb-true, leb-false, eqb-true, eqb-false, lt-ltb}
use Rattle.tone_carrier.specs.declared.heard_window.HeardWindow.{HeardWindow}
use Rattle.tone_carrier.specs.Evidence.{evidence}
use Rattle.tone_carrier.specs.Tones.{ShowsCarrier}
use Rattle.tone_carrier.specs.Hold.{hold, hold_with, last_hold}

-- ---- one window

-- the hold is set anew, by full evidence or by enough of it while it lasts, or it goes down
abbrev IsSet : ℕ → ℕ → Type 0
IsSet h e = (hold_with h e ≡ 42) × ((e ≡ 24) ⊎ ((0 < h) × (8 ≤ e)))

abbrev GoesDown : ℕ → ℕ → Type 0
GoesDown h e = (hold_with h e ≡ h - 1) × (e ≡ 24 → ⊥) × ((h ≡ 0) ⊎ (e < 8))

hold_cases : (h e : ℕ) → IsSet h e ⊎ GoesDown h e
hold_cases h e =
    let keeps : Bool = nat_lt 0 h && nat_le 8 e in
    let test : Bool = (e == 24) || keeps in
    elim (cases_Bool test) [
      | inl passes ↦ inl (
        cond-true test 42 (h - 1) passes,
        elim (or_cases (e == 24) keeps passes) [
          | inl full ↦ inl (eqb-true e 24 full)
          | inr kept ↦ (let parts = and_parts (nat_lt 0 h) (nat_le 8 e) kept in
              inr (ltb-true 0 h parts.0, leb-true 8 e parts.1))
        ],
      )
      | inr fails ↦ inr (
        cond-false test 42 (h - 1) fails,
        eqb-false e 24 (or_parts (e == 24) keeps fails).0,
        elim (and_cases (nat_lt 0 h) (nat_le 8 e) (or_parts (e == 24) keeps fails).1) [
          | inl none ↦ inl (let least = ltb-false 0 h none in omega arith)
          | inr few ↦ inr (leb-false 8 e few)
        ],
      )
    ]

module _ (windows : List HeardWindow) where
  -- some place not far before one, from another on, with enough evidence
  abbrev IsNear : ℕ → ℕ → Type 0
  IsNear found k = (near : ℕ) × (found ≤ near) × (near ≤ k) × (k < near + 42) × (8 ≤ evidence windows near)

  -- ---- a hold above 0 shows a carrier

  record Shown (last : ℕ) : Type 0 where
    found : ℕ
    within : found ≤ last
    full : evidence windows found ≡ 24
    kept : (k : ℕ) → found ≤ k → k ≤ last → IsNear found k
    latest : ℕ
    after : found ≤ latest
    before : latest ≤ last
    enough : 8 ≤ evidence windows latest
    count : last + hold windows last ≡ latest + 42

  hold-next : (k : ℕ) → hold windows (suc k) ≡ hold_with (hold windows k) (evidence windows (suc k))
  unfolding hold
  hold-next k = refl

  no_hold : hold windows 0 ≡ 0
  unfolding hold
  no_hold = refl

  no_evidence : evidence windows 0 ≡ 0
  unfolding evidence
  no_evidence = refl

  shown : (last : ℕ) → 0 < hold windows last → Shown last
  shown zero some = absurd (let none = no_hold in omega arith)
  shown (suc k) some =
      let next = hold-next k in
      elim (hold_cases (hold windows k) (evidence windows (suc k))) [
        | inl set ↦ elim set.1 [
          | inl full ↦ (let is = set.0 in record {
            found = suc k;
            within = omega arith;
            full = full;
            kept = λ i from to. (suc k, omega arith, omega arith, omega arith, omega arith);
            latest = suc k;
            after = omega arith;
            before = omega arith;
            enough = omega arith;
            count = omega arith;
          })
          | inr more ↦ (let is = set.0 in
              let s = shown k more.0 in
              let within = s.within in
              let enough = more.1 in
              record {
                found = s.found;
                within = omega arith;
                full = s.full;
                kept = λ i from to. elim (cases_lt i (suc k)) [
                  | inl lt ↦ s.kept i from (omega arith)
                  | inr ge ↦ (suc k, omega arith, omega arith, omega arith, enough)
                ];
                latest = suc k;
                after = omega arith;
                before = omega arith;
                enough = enough;
                count = omega arith;
              })
        ]
        | inr less ↦ (let is = less.0 in
            let s = shown k (omega arith) in
            let within = s.within in
            let after = s.after in
            let before = s.before in
            let enough = s.enough in
            let count = s.count in
            record {
              found = s.found;
              within = omega arith;
              full = s.full;
              kept = λ i from to. elim (cases_lt i (suc k)) [
                | inl lt ↦ s.kept i from (omega arith)
                | inr ge ↦ (s.latest, after, omega arith, omega arith, enough)
              ];
              latest = s.latest;
              after = after;
              before = omega arith;
              enough = enough;
              count = omega arith;
            })
      ]

  -- ---- a carrier that is shown is held

  -- at least until 42 windows after each with enough evidence
  abbrev IsHeld : ℕ → ℕ → Type 0
  IsHeld found last =
      (0 < hold windows last)
      × ((near : ℕ) → found ≤ near → near ≤ last → 8 ≤ evidence windows near → near + 42 ≤ last + hold windows last)

  held : (found : ℕ) → evidence windows found ≡ 24 → (last : ℕ) → found ≤ last
      → ((k : ℕ) → found ≤ k → k ≤ last → IsNear found k) → IsHeld found last
  held found full zero from kept =
      let none : found ≡ 0 = omega arith in
      let same = ap (evidence windows) none in
      absurd (let few = no_evidence in omega arith)
  held found full (suc k) from kept =
      let next = hold-next k in
      elim (hold_cases (hold windows k) (evidence windows (suc k))) [
        | inl set ↦ (let is = set.0 in (omega arith, λ near after before enough. omega arith))
        | inr less ↦ elim (cases_lt k found) [
          | inl late ↦ (let here : found ≡ suc k = omega arith in
              let same = ap (evidence windows) here in
              absurd (less.1 (omega arith)))
          | inr early ↦ (
              let before = held found full k early (λ i from to. kept i from (omega arith)) in
              let some = before.0 in
              let is = less.0 in
              let few : evidence windows (suc k) < 8 = elim less.2 [
                | inl none ↦ absurd (omega arith)
                | inr lt ↦ lt
              ] in
              let bound : (near : ℕ) → found ≤ near → near ≤ suc k → 8 ≤ evidence windows near
              → near + 42 ≤ suc k + hold windows (suc k) = (λ near after upto enough. elim (cases_lt near (suc k)) [
                | inl lt ↦ (let there = before.1 near after (omega arith) enough in omega arith)
                | inr ge ↦ (let last : near ≡ suc k = omega arith in
                    let same = ap (evidence windows) last in
                    absurd (omega arith))
              ]) in
              let near = kept (suc k) from (omega arith) in
              let close = near.3 in
              let there = bound near.0 near.1 near.2 near.4 in
              (omega arith, bound))
        ]
      ]

-- a hold above 0 after the last window is a carrier that is shown
pub shows_by_hold : (windows : List HeardWindow) (n : ℕ) → n ≡ last_hold windows
    → IsTrue (nat_lt 0 n) ↔ ShowsCarrier windows
shows_by_hold windows n is =
    let last : ℕ = length windows - 1 in (
      λ held_on. let some : 0 < n = ltb-true 0 n held_on in
          elim (cases_lt 0 (length windows)) [
            | inl lt ↦ (let s = shown windows last (omega arith) in
                let within = s.within in
                record {
                  found = s.found;
                  within = omega arith;
                  full = s.full;
                  kept = λ k from below. s.kept k from (omega arith);
                })
            | inr ge ↦ (let first : last ≡ 0 = omega arith in
                let same = ap (hold windows) first in
                let none = no_hold windows in
                absurd (omega arith))
          ],
      λ s. let within = s.within in
          let h = held windows s.found s.full last (omega arith) (λ k from to. s.kept k from (omega arith)) in
          let some = h.0 in
          lt-ltb 0 n (omega arith),
    )
