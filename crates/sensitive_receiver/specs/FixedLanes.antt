-- What the lanes at fixed offsets keep and hear: lanes 8 to 15, each of which reads the far list at the places of one
-- remainder by eight.
use Rattle.std.specs.Prelude.{◌≡◌, ℕ, ◌+◌, ◌<◌, ◌≤◌, ◌⊎◌, ℤ, List, [], ◌∷◌, ◌++◌, length, slice_index_or, take, ◌*◌}
use Rattle.std.specs.List.{All}
use Rattle.frame_merge.specs.declared.candidate.Candidate.{Candidate}
use Rattle.hdlc_framer.specs.Frames.{EndsFrame}
use Rattle.nrzi_bits.specs.Line.{bits_of}
use Rattle.slicer_bank.specs.ToneLanes.{HeldToneLane, ToneLaneStandsFor}
use Rattle.tone_table.specs.declared.tone.Tone.{Tone}
use Rattle.tone_tracking.specs.declared.place_tones.PlaceTones.{PlaceTones}
use Rattle.tone_tracking.specs.declared.reach.Reach.TheVariants.{Far}
use Rattle.tone_tracking.specs.Slots.{tone_of}
use Rattle.sensitive_receiver.specs.AddedCandidates.{HasPath}
use Rattle.sensitive_receiver.specs.Found.{AddsWhere, AreAddedWhere, HasRoomFrom}
use Rattle.sensitive_receiver.specs.Hearing.{AreTonesOf}
use Rattle.sensitive_receiver.specs.Lanes.{lane_tones}

-- the place to be read next, and the lanes
pub record HeldFixed : Type 0 where
  pub place : ℕ
  pub lanes : List HeldToneLane

-- each lane has read its tones of all places before the next one
pub record FixedHasRead (held : HeldFixed) (x : List ℤ) : Type 0 where
  pub lanes : (k : ℕ) (d : HeldToneLane) → k < 8
      → ToneLaneStandsFor (slice_index_or held.lanes k d) (lane_tones x (8 + k) held.place)

-- the lanes have read a line of tones that begins at their place, and these items are what they hear there
pub record FixedReadsLine (old new : HeldFixed) (line : List PlaceTones) (items : List Candidate) : Type 0 where
  pub place : new.place ≡ old.place + length line
  pub read : (x : List ℤ) → AreTonesOf old.place line x → FixedHasRead old x → FixedHasRead new x
  pub found : (x : List ℤ) → AreTonesOf old.place line x → FixedHasRead old x
      → AreAddedWhere (λ p l. ((old.place ≤ p) × (p < new.place)) × (l < 16)) x items
  pub bounds : All (HasRoomFrom (old.place + 6)) items

-- ---- lane by lane

-- A lane reads the places of a line from one to below another, if it has read all before them, and what it hears there
-- is added to what was found.
pub record LaneReads (number first : ℕ) (line : List PlaceTones) (from to : ℕ) (old new : HeldToneLane)
    (before after : List Candidate) : Type 0 where
  pub read : (x : List ℤ) → AreTonesOf first line x → ToneLaneStandsFor old (lane_tones x number from)
      → ToneLaneStandsFor new (lane_tones x number to)
  pub found : (x : List ℤ) → AreTonesOf first line x → ToneLaneStandsFor old (lane_tones x number from)
      → AddsWhere (λ p l. ((from ≤ p) × (p < to)) × (l ≡ number)) x before after

-- A lane takes the tones of eight of its places at once, the first of which lies so far on in a line, and no frame ends
-- with any of them.
pub record TakesEight (line : List PlaceTones) (at : ℕ) (old new : HeldToneLane) : Type 0 where
  pub inside : at + 56 < length line
  pub eight : List Tone
  pub size : length eight ≡ 8
  pub are : (k : ℕ) (d : Tone) (e : PlaceTones) → k < 8
      → slice_index_or eight k d ≡ tone_of Far (slice_index_or line (at + 8 * k) e)
  pub taken : (tones : List Tone) → ToneLaneStandsFor old tones → ToneLaneStandsFor new (tones ++ eight)
  pub quiet : (tones : List Tone) (k : ℕ) (octets : List ℕ) → ToneLaneStandsFor old tones → k < 8
      → EndsFrame (bits_of (tones ++ take (k + 1) eight)) octets → ⊥

-- the first lanes read a whole line, and the others are as they were
pub record LanesRead (n first : ℕ) (line : List PlaceTones) (old new : List HeldToneLane)
    (before after : List Candidate) : Type 0 where
  pub read : (x : List ℤ) (k : ℕ) (d : HeldToneLane) → k < n → AreTonesOf first line x
      → ToneLaneStandsFor (slice_index_or old k d) (lane_tones x (8 + k) first)
      → ToneLaneStandsFor (slice_index_or new k d) (lane_tones x (8 + k) (first + length line))
  pub rest : (k : ℕ) (d : HeldToneLane) → n ≤ k → slice_index_or new k d ≡ slice_index_or old k d
  pub found : (x : List ℤ) → AreTonesOf first line x
      → ((k : ℕ) (d : HeldToneLane) → k < n → ToneLaneStandsFor (slice_index_or old k d) (lane_tones x (8 + k) first))
      → AddsWhere (λ p l. ((first ≤ p) × (p < first + length line)) × (l < 8 + n)) x before after

-- a frame of a lane is reported if it begins with a path
abbrev pub Reports : ℕ → ℕ → List ℕ → List Candidate → List Candidate → Type 0
Reports number end frame before after =
    (HasPath frame × (after ≡ before ++ (record { end = end; offset = number; octets = frame }) ∷ []))
    ⊎ ((HasPath frame → ⊥) × (after ≡ before))
