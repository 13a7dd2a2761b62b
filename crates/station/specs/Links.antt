-- The links of a station. A link stands between a call of this station and one of another; it has a key, under which
-- its frames wait to be sent, and an owner, the connection that is told of it.
use Rattle.std.specs.Prelude.{◌≡◌, ℕ, ◌<◌, ◌&&◌, Bool, true, false, List, replicate, position, slice_index_or, slice_set}
use Rattle.std.specs.Prelude.{count_by, is_some, Option, Some, None, IfSome}
use Rattle.ax25_address.specs.Callsign.{Callsign}
use Rattle.ax25_address.specs.SameCall.{is_same_call}
use Rattle.ax25_frames.specs.declared.frame.Modulus.{Modulus}
use Rattle.ax25_frames.specs.declared.frame.Modulus.TheVariants.{Eight}
use Rattle.link_machine.specs.Machine.{Machine, modulus_named}

pub record Link : Type 0 where
  pub local : Callsign
  pub remote : Callsign
  -- None once the connection has left
  pub owner : Option ℕ
  -- of the data whose own PID is 0
  pub pid : ℕ
  pub machine : Machine

-- the most links at a time
abbrev pub most_links : ℕ
most_links = 64

-- the link or nothing at each key, and the key that was freed last, if no link was made since
pub record Links : Type 0 where
  pub places : List (Option Link)
  pub freed : Option ℕ

abbrev pub no_links : Links
no_links = record { places = replicate most_links None; freed = None }

abbrev pub link_at : ℕ → Links → Option Link
link_at key links = slice_index_or links.places key None

-- the modulus of a link; 8 if there is none
abbrev pub link_modulus : Option Link → Modulus
link_modulus None = Eight
link_modulus (Some link) = modulus_named link.machine.incoming.modulus

-- is it the link between these calls?
abbrev pub is_between : Callsign → Callsign → Option Link → Bool
is_between local remote None = false
is_between local remote (Some link) = is_same_call link.local local && is_same_call link.remote remote

-- the key of the link between two calls
abbrev pub key_between : Callsign → Callsign → Links → Option ℕ
key_between local remote links = position (is_between local remote) links.places

abbrev pub count_of_links : Links → ℕ
count_of_links links = count_by is_some links.places

-- A new link has the key that was freed last, if no link was made since, and else the least that no link has.
pub record IsNewKey (key : ℕ) (links : Links) : Type 0 where
  pub within : key < most_links
  pub vacant : link_at key links ≡ None
  pub freed : IfSome links.freed (λ last. key ≡ last)
  pub least : links.freed ≡ None → (lower : ℕ) → lower < key → is_some (link_at lower links) ≡ true

abbrev pub with_new_link : ℕ → Link → Links → Links
with_new_link key link links = record { places = slice_set links.places key (Some link); freed = None }

abbrev pub with_link : ℕ → Link → Links → Links
with_link key link links = record links { places = slice_set links.places key (Some link) }

abbrev pub without_link : ℕ → Links → Links
without_link key links = record { places = slice_set links.places key None; freed = Some key }
