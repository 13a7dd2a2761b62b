-- The octets that are written for a frame are its spelling.
use Rattle.station.proofs.Common.{◌≡◌, ℕ, suc, ◌+◌, ◌*◌, ◌<◌, ◌-◌, ◌==◌, false, List, [], ◌∷◌, ◌++◌, length, take, drop}
use Rattle.station.proofs.Common.{refl, sym, ◌∙◌, ap, arith, get_or, eqb, take-append-drop, take_all, drop-drop}
use Rattle.station.proofs.Common.{length-drop, Path, Frame, Modulus, IsWrittenFrame, frame_octets}
use Rattle.std.proofs.Math.Dec.{eqb-suc-suc, eqb-zero-suc}
use Rattle.ax25_address.specs.AddressField.{field_octets}
use Rattle.ax25_address.specs.FramePath.{destination_bit, source_bit, repeater_count, IsWrittenPath}
use Rattle.ax25_address.specs.declared.path.Hop.{Hop}
use Rattle.ax25_frames.specs.FrameOctets.{body_octets}
use Rattle.station.specs.FrameSpelling.{repeater_fields, path_octets}

no_octets : (octets : List ℕ) → length octets ≡ 0 → octets ≡ []
no_octets [] none = refl
no_octets (octet ∷ octets) none = absurd (omega arith)

hop_field : List Hop → ℕ → List ℕ
hop_field hops k =
    let hop = get_or hops k (record { call = record { name = []; ssid = 0 }; done = false }) in
    field_octets hop.call hop.done 3 (eqb (k + 1) (length hops))

hop_field-next : (hop : Hop) (hops : List Hop) (k : ℕ) → hop_field (hop ∷ hops) (suc k) ≡ hop_field hops k
unfolding hop_field
hop_field-next hop hops k =
    let next = get_or hops k (record { call = record { name = []; ssid = 0 }; done = false }) in
    let place : suc k + 1 ≡ suc (k + 1) = omega arith in
    ap (λ last. field_octets next.call next.done 3 last) (ap (λ n. eqb n (suc (length hops))) place
    ∙ eqb-suc-suc (k + 1) (length hops))

-- octets whose fields are those of repeaters are these fields one after another
fields_of : (hops : List Hop) (octets : List ℕ) → length octets ≡ 7 * length hops
    → ((k : ℕ) → k < length hops → take 7 (drop (7 * k) octets) ≡ hop_field hops k) → octets ≡ repeater_fields hops
unfolding hop_field
fields_of [] octets size each = no_octets octets (omega arith)
fields_of (hop ∷ []) octets size each = sym (take_all 7 octets (omega arith)) ∙ each 0 (omega arith)
fields_of (hop ∷ next ∷ hops) octets size each =
    sym (take-append-drop 7 octets)
    ∙ ap (λ xs. xs ++ drop 7 octets) (each 0 (omega arith)
    ∙ ap (λ last. field_octets hop.call hop.done 3 last) (eqb-suc-suc 0 (suc (length hops))
    ∙ eqb-zero-suc (length hops)))
    ∙ ap (λ xs. field_octets hop.call hop.done 3 false ++ xs)
    (fields_of (next ∷ hops) (drop 7 octets) (length-drop 7 octets ∙ omega arith)
    (λ k below.
    let place : 7 + 7 * k ≡ 7 * suc k = omega arith in
    ap (λ xs. take 7 xs) (drop-drop (7 * k) 7 octets) ∙ ap (λ n. take 7 (drop n octets)) place
    ∙ each (suc k) (omega (arith, below)) ∙ hop_field-next hop (next ∷ hops) k))

-- an address that is written is the address
pub path_spelled : (path : Path) (address : List ℕ) → IsWrittenPath path address → address ≡ path_octets path
unfolding hop_field
path_spelled path address h =
    let hops = path.repeaters.items in
    let first : take 7 address ≡ field_octets path.dest (destination_bit path.role) 3 false = h.destination.spelling in
    let second : take 7 (drop 7 address) ≡ field_octets path.source (source_bit path.role) 3 (repeater_count path == 0)
    = h.source.spelling in
    let place : (k : ℕ) → 14 + 7 * k ≡ 7 * (k + 2) = λ k. omega arith in
    let none : Hop = record { call = record { name = []; ssid = 0 }; done = false } in
    let others : drop 7 (drop 7 address) ≡ repeater_fields hops =
    fields_of hops (drop 7 (drop 7 address)) (length-drop 7 (drop 7 address) ∙ ap (λ n. n - 7) (length-drop 7 address)
    ∙ omega (arith, h.size))
    (λ k below. ap (λ xs. take 7 (drop (7 * k) xs)) (drop-drop 7 7 address)
    ∙ ap (λ xs. take 7 xs) (drop-drop (7 * k) 14 address)
    ∙ ap (λ n. take 7 (drop n address)) (place k) ∙ (h.repeaters k none below).spelling) in
    sym (take-append-drop 7 address) ∙ ap (λ xs. xs ++ drop 7 address) first
    ∙ ap (λ xs. field_octets path.dest (destination_bit path.role) 3 false ++ xs)
    (sym (take-append-drop 7 (drop 7 address)) ∙ ap (λ xs. xs ++ drop 7 (drop 7 address)) second
    ∙ ap (λ xs. field_octets path.source (source_bit path.role) 3 (repeater_count path == 0) ++ xs) others)

-- a frame that is written is its spelling
pub frame_spelled : (modulus : Modulus) (frame : Frame) (octets : List ℕ) → IsWrittenFrame frame modulus octets
    → octets ≡ frame_octets modulus frame
unfolding frame_octets
frame_spelled modulus frame octets h = h.spelling
    ∙ ap (λ xs. xs ++ body_octets modulus frame.kind) (path_spelled frame.path h.address h.path)
