-- The set-ups that an end has had, each from its opening to its end.
use Rattle.std.specs.Prelude.{ℕ, Bool, if◌then◌else◌, List, [], ◌∷◌, ◌++◌, Option, Some, None}
use Rattle.selective_reject.specs.declared.packet.Packet.{Packet}

pub record SetUp : Type 0 where
  -- the packets that this end was given to be sent in it, or in the call that opened it
  pub given : List Packet
  -- the packets that it got of the other end
  pub got : List Packet
  -- its modulus, 8 or 128
  pub modulus : ℕ
  -- the set-up that the frame belonged to, SABM, SABME or UA, that opened it
  pub mate : ℕ
  -- the set-ups that the I and S frames belonged to that it acted on, in order
  pub acted_on : List ℕ
  -- the set-up that the first I frame belonged to that it accepted
  pub accepted : Option ℕ

abbrev pub opened : (mate modulus : ℕ) → List Packet → SetUp
opened mate modulus given =
    record { given = given; got = []; modulus = modulus; mate = mate; acted_on = []; accepted = None }

abbrev pub giving : Packet → SetUp → SetUp
giving packet q = record q { given = q.given ++ packet ∷ [] }

abbrev pub getting : Packet → SetUp → SetUp
getting packet q = record q { got = q.got ++ packet ∷ [] }

abbrev pub first_of : Option ℕ → ℕ → Option ℕ
first_of None number = Some number
first_of (Some first) number = Some first

-- an I or S frame of a set-up of the other end is acted on; an I frame is perhaps accepted
abbrev pub acting : ℕ → Bool → SetUp → SetUp
acting number accepts q = record q {
  acted_on = q.acted_on ++ number ∷ [];
  accepted = if accepts then first_of q.accepted number else q.accepted;
}

-- the last of the set-ups changes
abbrev pub last_changed : (SetUp → SetUp) → SetUp → List SetUp → List SetUp
last_changed change q [] = change q ∷ []
last_changed change q (next ∷ rest) = q ∷ last_changed change next rest

abbrev pub change_last : (SetUp → SetUp) → List SetUp → List SetUp
change_last change [] = []
change_last change (q ∷ rest) = last_changed change q rest
