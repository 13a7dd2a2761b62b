-- What is kept of the piece under way. No public clause looks inside: they cite `StandsFor` alone.
use Rattle.std.specs.Prelude.{◌≡◌, ◌≢◌, ℕ, ◌/◌, ◌==◌, nat_lt, if◌then◌else◌, Bool, true, false, List, [], ◌∷◌}
use Rattle.std.specs.Prelude.{◌++◌, length, take, Option, Some, None}
use Rattle.std.specs.List.{AllByRecursion}
use Rattle.kiss_port.specs.declared.item.KissItem.{KissItem}
use Rattle.kiss_port.specs.declared.item.KissItem.TheVariants.{TooLong}
use Rattle.kiss_port.specs.Escapes.{fend, fesc, tfend, tfesc, unescaped}
use Rattle.kiss_port.specs.Pieces.{pieces}
use Rattle.kiss_port.specs.Items.{item_by_type}

pub record Held : Type 0 where
  -- the first octets of what the piece stands for so far, at most 1027
  pub kept : List ℕ
  -- there were more
  pub long : Bool
  -- a FESC came last, and begins an escape
  pub escaped : Bool

abbrev pub new_held : Held
new_held = record { kept = []; long = false; escaped = false }

-- the item of what was kept of a piece
abbrev pub kept_item : Bool → List ℕ → Option KissItem
kept_item long [] = None
kept_item true (kind ∷ octets) = Some (TooLong (kind / 16))
kept_item false (kind ∷ octets) = Some (item_by_type kind octets)

abbrev pub held_item : Held → Option KissItem
held_item held = kept_item held.long held.kept

-- one octet more of what the piece stands for
abbrev pub keeping : Held → ℕ → Held
keeping held octet =
    if length held.kept == 1027 then record { kept = held.kept; long = true; escaped = held.escaped }
    else record { kept = held.kept ++ octet ∷ []; long = held.long; escaped = held.escaped }

abbrev pub unmarked : Held → Held
unmarked held = record { kept = held.kept; long = held.long; escaped = false }

abbrev pub after_escape : Held → ℕ → Held
after_escape held octet =
    if octet == tfend then unmarked (keeping held fend) else if octet == tfesc then unmarked (keeping held fesc)
    else unmarked held

-- one octet more of the piece
abbrev pub with_octet : Held → ℕ → Held
with_octet held octet =
    if held.escaped then after_escape held octet else
    if octet == fesc then record { kept = held.kept; long = held.long; escaped = true } else keeping held octet

-- how the rest of a piece is read
abbrev pub rest_of_piece : Bool → List ℕ → List ℕ
rest_of_piece true more = unescaped (fesc ∷ more)
rest_of_piece false more = unescaped more

-- the piece so far
pub record StandsForPiece (held : Held) (piece : List ℕ) : Type 0 where
  pub inside : AllByRecursion (λ octet. octet ≢ fend) piece
  -- what it stands for so far
  pub meaning : List ℕ
  pub rest : (more : List ℕ) → unescaped (piece ++ more) ≡ meaning ++ rest_of_piece held.escaped more
  pub kept : held.kept ≡ take 1027 meaning
  pub long : held.long ≡ nat_lt 1027 (length meaning)

-- these octets of a stream have come
pub record StandsFor (held : Held) (stream : List ℕ) : Type 0 where
  pub piece : List ℕ
  pub piece_held : StandsForPiece held piece
  -- whatever comes, the stream is cut as the pieces so far and those of the open piece and what comes
  pub cut : (more : List ℕ) → pieces (stream ++ more) ≡ pieces stream ++ pieces (piece ++ more)

-- Every reader is one to which the octets of some stream have come.
abbrev pub StandsForSome : Held → Type 0
StandsForSome held = (stream : List ℕ) × StandsFor held stream
