-- What options of serve say of the ports of TCP: which are opened, and at which address.
use Rattle.std.specs.Prelude.{◌≡◌, ℕ, [], ◌∷◌, Option, Some, None, codes}
use Rattle.std.specs.Net.Addr.{ipv4_octets}
use Rattle.std.specs.Net.Grammar.{IsIpv4Text}
use Rattle.std.specs.declared.net.ipv4_addr.Ipv4Addr.{Ipv4Addr}
use Rattle.clap.specs.Words.{Text}
use Rattle.tnc_words.specs.Numbers.{GivesNumber}

-- a port by its number, no port by the word none, and the default if the option was not given
abbrev pub HasPort : Option Text → ℕ → Option ℕ → Type 0
HasPort None default port = port ≡ Some default
HasPort (Some text) default None = text ≡ codes "none"
HasPort (Some text) default (Some port) = GivesNumber (Some text) 1 65535 port

-- the address of IPv4 that a text spells, and 127.0.0.1 if the option was not given
abbrev pub HasAddress : Option Text → Ipv4Addr → Type 0
HasAddress None address = ipv4_octets address ≡ 127 ∷ 0 ∷ 0 ∷ 1 ∷ []
HasAddress (Some text) address = IsIpv4Text text address
