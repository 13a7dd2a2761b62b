-- The modulus in which a frame is read for who watches the channel: that of the link whose calls are the frame's.
use Rattle.std.specs.Prelude.{ℕ, Option, Some, None}
use Rattle.std.specs.Option.{option_or}
use Rattle.ax25_address.specs.Callsign.{Callsign}
use Rattle.ax25_address.specs.declared.path.Path.{Path}
use Rattle.ax25_frames.specs.declared.frame.Modulus.{Modulus}
use Rattle.ax25_frames.specs.declared.frame.Modulus.TheVariants.{Eight}
use Rattle.station.specs.Links.{Links, link_at, link_modulus, key_between}

-- the key of the link whose calls are these, the first its local one, or else the second
abbrev pub key_of_both : Callsign → Callsign → Links → Option ℕ
key_of_both first second links = option_or (key_between first second links) (key_between second first links)

-- the modulus of the link of a key; 8 if there is no key
abbrev pub modulus_at : Option ℕ → Links → Modulus
modulus_at None links = Eight
modulus_at (Some key) links = link_modulus (link_at key links)

abbrev pub modulus_between : Callsign → Callsign → Links → Modulus
modulus_between first second links = modulus_at (key_of_both first second links) links

-- A heard frame is read in that of the link from its destination to its source, or else from its source to its
-- destination; 8 if the path cannot be read.
abbrev pub heard_modulus : Option Path → Links → Modulus
heard_modulus None links = Eight
heard_modulus (Some path) links = modulus_between path.dest path.source links

-- a sent frame the other way round
abbrev pub sent_modulus : Option Path → Links → Modulus
sent_modulus None links = Eight
sent_modulus (Some path) links = modulus_between path.source path.dest links
