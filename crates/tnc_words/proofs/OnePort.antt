-- An option says one port, or none, and one address.
use Rattle.tnc_words.proofs.Common.{◌≡◌, ℕ, Option, Some, None, Text, codes, refl, sym, ap, ◌∙◌}
use Rattle.std.proofs.Common.{◌<◌, arith, subst}
use Rattle.std.proofs.NetLemmas.Theorems.{IsIpv4Text_unique}
use Rattle.std.specs.Str.Parse.{IsNumeral}
use Rattle.std.specs.declared.net.ipv4_addr.Ipv4Addr.{Ipv4Addr}
use Rattle.tnc_words.specs.Numbers.{IsNumber}
use Rattle.tnc_words.specs.Ports.{HasAddress, HasPort}
use Rattle.tnc_words.proofs.OneNumber.{given_number}

-- the word none is no number: its first letter is no digit
no_number : (text : Text) (number : ℕ) → text ≡ codes "none" → IsNumber text number → ⊥
no_number text number is number_is =
    let digits : IsNumeral 10 (codes "none") = subst (IsNumeral 10) is number_is.digits in
    let first : 23 < 10 = digits.1.0 in
    omega arith

pub one_port : (text : Option Text) (default : ℕ) (port other : Option ℕ) → HasPort text default port
    → HasPort text default other → port ≡ other
one_port None default port other h k = h ∙ sym k
one_port (Some text) default None None h k = refl
one_port (Some text) default None (Some other) h k = absurd (no_number text other h k.0)
one_port (Some text) default (Some port) None h k = absurd (no_number text port k h.0)
one_port (Some text) default (Some port) (Some other) h k = ap Some (given_number (Some text) 1 65535 port other h k)

pub one_address : (text : Option Text) (address other : Ipv4Addr) → HasAddress text address → HasAddress text other
    → address ≡ other
one_address None address other h k = ap (λ octets. record { octets = octets }) (h ∙ sym k)
one_address (Some text) address other h k = IsIpv4Text_unique text address other h k
