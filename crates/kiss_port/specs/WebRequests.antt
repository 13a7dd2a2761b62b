-- How a program of the web begins a connection. An HTTP request begins with its method and a blank (RFC 9110, section
-- 9; PATCH: RFC 5789), HTTP/2 without one with PRI and a blank (RFC 9113, section 3.4), and TLS with a handshake
-- record, whose first two octets are 16 and 03 (RFC 8446, section 5.1). A method may have any name, which is a token
-- (RFC 9110, section 5.6.2), and what a page asks for begins with a slash (RFC 9112, section 3.2.1).
use Rattle.std.specs.Prelude.{ℕ, ◌==◌, ◌&&◌, ◌||◌, nat_le, if◌then◌else◌, Bool, false, List, [], ◌∷◌, Option, Result}
use Rattle.std.specs.Prelude.{Ok, Err, codes}
use Rattle.std.specs.List.{list_any, starts_with}
use Rattle.std.specs.Option.{option_to_list}
use Rattle.kiss_port.specs.declared.fault.KissFault.{KissFault}
use Rattle.kiss_port.specs.declared.item.KissItem.{KissItem}
use Rattle.kiss_port.specs.Items.{items_in}

-- each beginning
abbrev pub web_beginnings : List (List ℕ)
web_beginnings =
    codes "GET " ∷ codes "HEAD " ∷ codes "POST " ∷ codes "PUT " ∷ codes "DELETE " ∷ codes "CONNECT "
    ∷ codes "OPTIONS " ∷ codes "TRACE " ∷ codes "PATCH " ∷ codes "PRI " ∷ (0x16 ∷ 0x03 ∷ []) ∷ []

-- what a method's name is made of: digits, letters and these marks
abbrev pub is_token_character : ℕ → Bool
is_token_character octet =
    nat_le 48 octet && nat_le octet 57
    || (nat_le 65 octet && nat_le octet 90
    || (nat_le 97 octet && nat_le octet 122
    || list_any (λ mark. octet == mark) (codes "!#$%&'*+-.^_`|~")))

-- Octets begin with a method of any name, a blank and a slash: with a character of a token, after which either the
-- blank and the slash follow, or what begins so again.
abbrev pub is_request_line : List ℕ → Bool
is_request_line [] = false
is_request_line (octet ∷ octets) =
    is_token_character octet && (starts_with (λ a b. a == b) octets (codes " /") || is_request_line octets)

-- octets begin with one of the beginnings
unfoldable pub has_web_beginning : List ℕ → Bool
has_web_beginning octets = list_any (starts_with (λ a b. a == b) octets) web_beginnings

-- the octets of a connection begin with one of them, or with a method of any name
unfoldable pub is_web_request : List ℕ → Bool
is_web_request octets = has_web_beginning octets || is_request_line octets

-- the items of a host's connection; a web request has none
abbrev pub host_items : List ℕ → List KissItem
host_items octets = if is_web_request octets then [] else items_in octets

-- the items that one octet gave
abbrev pub given : Result (Option KissItem) KissFault → List KissItem
given (Ok item) = option_to_list item
given (Err fault) = []
