-- A frame that begins with a path is one between the calls of the path.
use Rattle.station_laws.proofs.Common.{◌≡◌, ℕ, ◌*◌, ◌<◌, ◌%◌, Bool, true, false, List, [], ◌∷◌, map, take}
use Rattle.station_laws.proofs.Common.{get_or, ap, ◌∙◌, subst, arith, eq-eqb, length-map}
use Rattle.station_laws.proofs.Common.{Callsign, BeginsWithPath, Path, is_from_to}
use Rattle.std.specs.Prelude.{◌/◌}
use Rattle.std.proofs.lemmas.Bool.{and_from}
use Rattle.std.proofs.lemmas.List.{length-take, take_at}
use Rattle.std.proofs.lemmas.Slice.Eq.{bytes_eq-Decides}
use Rattle.ax25_address.specs.AddressField.{IsField, ssid_octet}
use Rattle.ax25_address.specs.Callsign.{padded}
use Rattle.ax25_address.specs.FramePath.{IsPath, field_at}
use Rattle.ax25_address.proofs.FieldLemmas.{last_octet, length-padded}
use Rattle.ax25_address.proofs.PathLemmas.{field_at-take}
use Rattle.station_laws.specs.LinkFrames.{has_call}

ssid_is : (top last : Bool) (reserved ssid : ℕ) → ssid < 16 → reserved < 4
    → ssid_octet top reserved ssid last / 2 % 16 ≡ ssid
ssid_is true true reserved ssid low few = omega arith
ssid_is true false reserved ssid low few = omega arith
ssid_is false true reserved ssid low few = omega arith
ssid_is false false reserved ssid low few = omega arith

call_there :
    (call : Callsign) (top last : Bool) (octets : List ℕ) (k : ℕ) → IsField call top last (field_at octets k)
    → has_call octets k call ≡ true
call_there call top last octets k h =
    let field = field_at octets k in
    let six = map (λ c. 2 * c) (padded call.name) in
    let name : take 6 field ≡ six =
    ap (take 6) h.spelling
    ∙ take_at six (ssid_octet top h.reserved call.ssid last ∷ []) 6
    (length-map (padded call.name) (λ c. 2 * c) ∙ length-padded call.name h.valid.name.longest) in
    let ssid : get_or field 6 0 / 2 % 16 ≡ call.ssid =
    ap (λ o. o / 2 % 16) (last_octet call top last field h)
    ∙ ssid_is top last h.reserved call.ssid h.valid.ssid h.two_bits in
    and_from _ _ ((bytes_eq-Decides (take 6 field) six).1 name) (eq-eqb (get_or field 6 0 / 2 % 16) call.ssid ssid)

pub from_to_path : (octets : List ℕ) (path : Path) (len : ℕ) → BeginsWithPath octets path len
    → is_from_to path.source path.dest octets ≡ true
from_to_path octets path len h =
    let fields : IsPath path (take len octets) = h.1 in
    let size = fields.size in
    let short = length-take len octets in
    and_from _ _
    (call_there path.dest _ _ octets 0
    (subst (IsField path.dest _ _) (field_at-take octets len 0 (omega arith)) fields.destination))
    (call_there path.source _ _ octets 1
    (subst (IsField path.source _ _) (field_at-take octets len 1 (omega arith)) fields.source))
