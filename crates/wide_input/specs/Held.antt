-- What a wide bank keeps, and what that stands for.
use Rattle.std.specs.Prelude.{◌≡◌, ℕ, zero, suc, ◌+◌, ◌*◌, ◌/◌, ◌<◌, ◌≤◌, ℤ, List, [], ◌∷◌, ◌++◌, length, map, Bool}
use Rattle.std.specs.Prelude.{false, Option, Some, None, slice_index_or}
use Rattle.std.specs.List.{All}
use Rattle.frame_merge.specs.declared.candidate.Candidate.{Candidate}
use Rattle.frame_merge.specs.Held.{Held as HeldMerger, StandsFor as MergerStandsFor}
use Rattle.frame_merge.specs.Merged.{merged, below}
use Rattle.frame_merge.specs.Order.{in_order}
use Rattle.block_receiver.specs.declared.progress.Progress.{Progress}
use Rattle.slicer_bank.specs.Candidates.{AreCandidatesAfter}
use Rattle.slicer_bank.specs.Held.{HeldBank, StandsFor as BankStandsFor}
use Rattle.slicer_bank.specs.Merging.{CanBePut, AllPast}
use Rattle.wide_input.specs.Streams.{stream, least_count}
use Rattle.wide_input.specs.Candidates.{in_stream, AreWideCandidates}

-- the bank of a stream, how many samples stand before its next one, and what it heard in a block; nothing if it wanted
-- memory
pub record HeldStream : Type 0 where
  pub bank : HeldBank
  pub skipped : ℕ
  pub found : Option (List Candidate)

-- how many samples stand before the next one of a stream, after samples
abbrev pub next_skipped : ℕ → List ℤ → ℕ
next_skipped skipped [] = skipped
next_skipped zero (sample ∷ x) = next_skipped 4 x
next_skipped (suc skipped) (sample ∷ x) = next_skipped skipped x

-- the stream of a number has taken its part of these samples
pub record StreamStandsFor (number : ℕ) (held : HeldStream) (x : List ℤ) : Type 0 where
  pub bank : BankStandsFor held.bank (stream number x)
  pub skipped : held.skipped ≡ next_skipped number x

-- a stream heard its part of a block
abbrev pub HearsBlock : List ℤ → HeldStream → HeldStream → Type 0
HearsBlock block was now = (number : ℕ) (x : List ℤ) (found : List Candidate) → now.found ≡ Some found
    → StreamStandsFor number was x
    → StreamStandsFor number now (x ++ block) × AreCandidatesAfter (length (stream number x))
    (stream number (x ++ block)) found

-- what a stream heard can be put into the lanes of its bank
abbrev pub KeepsFit : HeldStream → Type 0
KeepsFit held = (found : List Candidate) → held.found ≡ Some found → All CanBePut found

-- the stream had memory for what it heard
abbrev pub HasFound : HeldStream → Type 0
HasFound held = (found : List Candidate) × (held.found ≡ Some found)

-- after so many samples of all streams, a stream has come at least as far as the least one: the place of its next sample
-- is at most the fourth past five for each sample that it took
abbrev pub IsAbreast : ℕ → HeldStream → Type 0
IsAbreast position held = position + held.skipped ≤ 5 * held.bank.position + 4

-- a stream had its part of a block of so many samples, from a position on: what it heard ends past where the least
-- stream stood, and if it had memory it has come as far as the least one
pub record TakesPart (position count : ℕ) (now : HeldStream) : Type 0 where
  pub past : (found : List Candidate) → now.found ≡ Some found → AllPast (position / 5) found
  pub abreast : HasFound now → IsAbreast (position + count) now

-- the candidate ends at or past each mark
abbrev pub IsPastMarks : List ℕ → Candidate → Type 0
IsPastMarks marks item = All (λ mark. mark ≤ item.end) marks

-- what a stream heard ends at or past each mark
abbrev pub KeepsInTime : List ℕ → HeldStream → Type 0
KeepsInTime marks held = (found : List Candidate) → held.found ≡ Some found → All (IsPastMarks marks) found

abbrev pub items_of : Option (List Candidate) → List Candidate
items_of None = []
items_of (Some items) = items

abbrev pub found_by : HeldStream → List Candidate
found_by held = items_of held.found

-- what streams from a number on found, one after the other, in the lanes of their streams
abbrev pub brought : ℕ → List (List Candidate) → List Candidate
brought number [] = []
brought number (found ∷ founds) = map (in_stream number) found ++ brought (suc number) founds

-- two streams are the same but for what they keep of what they heard
pub record AreAlike (held other : HeldStream) : Type 0 where
  pub bank : held.bank ≡ other.bank
  pub skipped : held.skipped ≡ other.skipped

-- each stream has taken its part of these samples
abbrev pub StreamsStandFor : List HeldStream → List ℤ → Type 0
StreamsStandFor streams x = (number : ℕ) (d : HeldStream) → number < 5
    → StreamStandsFor number (slice_index_or streams number d) x

pub record HeldWide : Type 0 where
  pub streams : List HeldStream
  pub merger : HeldMerger
  pub position : ℕ
  pub finished : Bool
  pub spent : Bool

-- how far it has come
abbrev pub progress : HeldWide → Progress
progress held = record { position = held.position; finished = held.finished; spent = held.spent }

-- the streams have taken these samples, and the merger all that they heard, of which it has given what ends below the
-- least count
pub record HaveTaken (streams : List HeldStream) (merger : HeldMerger) (x : List ℤ) : Type 0 where
  pub samples : StreamsStandFor streams x
  pub puts : List Candidate
  pub candidates : List Candidate
  pub are : AreWideCandidates x candidates
  pub order : in_order puts ≡ candidates
  pub so_far : MergerStandsFor merger puts (below (least_count x) (merged candidates))

-- the bank has taken these samples, it is not finished, and every growth that it wanted was given
pub record StandsFor (held : HeldWide) (x : List ℤ) : Type 0 where
  pub spent : held.spent ≡ false
  pub finished : held.finished ≡ false
  pub count : held.position ≡ length x
  pub taken : HaveTaken held.streams held.merger x
