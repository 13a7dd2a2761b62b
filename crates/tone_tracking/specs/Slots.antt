-- Tones slot by slot. Eight places make a bit, and a slot has the places of one remainder: what is decided at a place asks
-- for windows of its own slot alone.
use Rattle.std.specs.Prelude.{◌≡◌, ℕ, ◌+◌, ◌-◌, ◌*◌, ◌/◌, ◌%◌, ◌<◌, ◌≤◌, ◌==◌, if◌then◌else◌, List, length, slice_index_or}
use Rattle.tone_table.specs.declared.tone.Tone.{Tone}
use Rattle.tone_table.specs.declared.tone.Tone.TheVariants.{Mark, Space}
use Rattle.tone_tracking.specs.declared.correlation.Correlations.{Correlations}
use Rattle.tone_tracking.specs.declared.pasts.Pasts.{Pasts}
use Rattle.tone_tracking.specs.declared.place_tones.PlaceTones.{PlaceTones}
use Rattle.tone_tracking.specs.declared.reach.Reach.{Reach}
use Rattle.tone_tracking.specs.declared.reach.Reach.TheVariants.{Alone, Near, Far}
use Rattle.tone_tracking.specs.Correlation.{correlations}
use Rattle.tone_tracking.specs.Heard.{past_at, tone_at}
use Rattle.tone_tracking.specs.Phasors.{IsWithin}
use Rattle.std.specs.Prelude.{ℤ}

-- the bit of a tone
abbrev pub tone_bit : Tone → ℕ
tone_bit Mark = 0
tone_bit Space = 1

-- the tone of the lowest bit
abbrev pub bit_tone : ℕ → Tone
bit_tone bits = if bits % 2 == 0 then Mark else Space

-- the tones of the three lists in one octet
abbrev pub packed : Tone → Tone → Tone → PlaceTones
packed alone near far = record { bits = tone_bit alone + 2 * tone_bit near + 4 * tone_bit far }

-- the tone of a list at a place
abbrev pub tone_of : Reach → PlaceTones → Tone
tone_of Alone tones = bit_tone tones.bits
tone_of Near tones = bit_tone (tones.bits / 2)
tone_of Far tones = bit_tone (tones.bits / 4)

-- the tones of all lists at a place
abbrev pub place_tones : (ℕ → Correlations) → ℕ → PlaceTones
place_tones windows place = packed (tone_at Alone windows place) (tone_at Near windows place) (tone_at Far windows place)

-- these are the pasts at a place
pub record ArePastsAt (pasts : Pasts) (windows : ℕ → Correlations) (place : ℕ) : Type 0 where
  pub near : pasts.near ≡ past_at Near windows place
  pub far : pasts.far ≡ past_at Far windows place

-- neither past is larger than one can be
pub record ArePastsWithin (pasts : Pasts) : Type 0 where
  pub near : IsWithin 1190000000 pasts.near
  pub far : IsWithin 1190000000 pasts.far

-- these are the tones of every eighth place, from one on
abbrev pub AreEighthTones : List PlaceTones → (ℕ → Correlations) → ℕ → Type 0
AreEighthTones tones windows first =
    (k : ℕ) (d : PlaceTones) → k < length tones → slice_index_or tones k d ≡ place_tones windows (first + 8 * k)

-- which of some levels is the first of the next window of a slot, the pasts there, and the tones that were decided last
pub record HeldSlot : Type 0 where
  pub first : ℕ
  pub pasts : Pasts
  pub tones : List PlaceTones

-- the slot has decided nothing, whichever it is
abbrev pub HasDecidedNone : HeldSlot → Type 0
HasDecidedNone slot = (windows : ℕ → Correlations) (place : ℕ) → place < 8 → ArePastsAt slot.pasts windows place

-- the levels are whole windows for each tone of the slot, and the two after its last one
abbrev pub Fits : ℕ → HeldSlot → Type 0
Fits count slot = 1 ≤ length slot.tones → slot.first + (8 * length slot.tones + 16) ≤ count

-- A slot decides the windows that begin at its place among levels, and has the pasts after them and their tones.
pub record Decides (levels : List ℤ) (old new : HeldSlot) : Type 0 where
  pub first : new.first ≡ old.first
  pub count : length new.tones ≡ length old.tones
  pub pasts : (windows : ℕ → Correlations) (base : ℕ) → ((i : ℕ) → correlations levels i ≡ windows (base + i))
      → ArePastsAt old.pasts windows (base + old.first)
      → ArePastsAt new.pasts windows (base + old.first + 8 * length old.tones)
  pub tones : (windows : ℕ → Correlations) (base : ℕ) → ((i : ℕ) → correlations levels i ≡ windows (base + i))
      → ArePastsAt old.pasts windows (base + old.first) → AreEighthTones new.tones windows (base + old.first)

-- ---- all eight slots

-- how far the first place of a slot is from a place
abbrev pub ahead_of : ℕ → ℕ → ℕ
ahead_of place slot = (slot + 8 - place % 8) % 8

-- a slot is prepared for its part of so many places from one on
pub record IsPrepared (place count slot : ℕ) (old new : HeldSlot) : Type 0 where
  pub first : new.first ≡ ahead_of place slot
  pub count_of : length new.tones ≡ (count + 7 - ahead_of place slot) / 8
  pub pasts : new.pasts ≡ old.pasts

-- each slot has decided its places before a place
abbrev pub SlotsHaveDecided : List HeldSlot → (ℕ → Correlations) → ℕ → Type 0
SlotsHaveDecided slots windows place =
    (slot : ℕ) (d : HeldSlot) → slot < 8
    → ArePastsAt (slice_index_or slots slot d).pasts windows (place + ahead_of place slot)

-- these are the tones of the places from one on
abbrev pub AreTonesFrom : ℕ → List PlaceTones → (ℕ → Correlations) → Type 0
AreTonesFrom first line windows =
    (i : ℕ) (d : PlaceTones) → i < length line → slice_index_or line i d ≡ place_tones windows (first + i)
