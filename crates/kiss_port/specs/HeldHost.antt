-- What is kept of a host's connection. No public clause looks inside: they cite `HostStandsFor` alone.
use Rattle.std.specs.Prelude.{◌≡◌, ℕ, ◌==◌, ◌||◌, if◌then◌else◌, Bool, true, false, List, [], ◌∷◌, ◌++◌, take}
use Rattle.std.specs.List.{fold}
use Rattle.kiss_port.specs.Held.{Held, StandsFor}
use Rattle.kiss_port.specs.WebRequests.{is_token_character, has_web_beginning, is_web_request}
use Rattle.kiss_port.specs.declared.request_line.RequestLine.{RequestLine}
use Rattle.kiss_port.specs.declared.request_line.RequestLine.TheVariants.{Empty, Method, Blank, Slash, Other}

-- after a method's name
abbrev pub after_name : ℕ → RequestLine
after_name octet = if is_token_character octet then Method else if octet == 32 then Blank else Other

-- a request line with one octet more
abbrev pub line_with : RequestLine → ℕ → RequestLine
line_with Empty octet = if is_token_character octet then Method else Other
line_with Method octet = after_name octet
line_with Blank octet = if octet == 47 then Slash else Other
line_with Slash octet = Slash
line_with Other octet = Other

-- it has come as far as its slash
abbrev pub is_slash : RequestLine → Bool
is_slash Empty = false
is_slash Method = false
is_slash Blank = false
is_slash Slash = true
is_slash Other = false

-- the beginning of a connection: its first octets, at most 8, and how far it is a request line
pub record HeldBeginning : Type 0 where
  pub first : List ℕ
  pub line : RequestLine

-- of the octets that came
abbrev pub beginning_of : List ℕ → HeldBeginning
beginning_of octets = record { first = take 8 octets; line = fold line_with Empty octets }

-- with one octet more
abbrev pub beginning_with : HeldBeginning → ℕ → HeldBeginning
beginning_with beginning octet = record {
  first = take 8 (beginning.first ++ octet ∷ []);
  line = line_with beginning.line octet;
}

-- it tells a program of the web
abbrev pub tells_web : HeldBeginning → Bool
tells_web beginning = has_web_beginning beginning.first || is_slash beginning.line

pub record HeldHost : Type 0 where
  pub beginning : HeldBeginning
  -- the piece under way
  pub piece : Held

-- these octets of a connection have come
pub record HostStandsFor (held : HeldHost) (octets : List ℕ) : Type 0 where
  pub beginning : held.beginning ≡ beginning_of octets
  pub piece : is_web_request octets ≡ false → StandsFor held.piece octets

-- Every reader is one to which the octets of some connection have come.
abbrev pub HostStandsForSome : HeldHost → Type 0
HostStandsForSome held = (octets : List ℕ) × HostStandsFor held octets
