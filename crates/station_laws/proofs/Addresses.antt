-- A frame of a link as it is written, and as it is heard again: the same calls, the same role, and the kind that its
-- modulus makes of it.
use Rattle.station_laws.proofs.Common.{sym, ◌∙◌, ap, subst, arith, get_or, eq-eqb, ne_eqb, append_assoc, append-nil}
use Rattle.station_laws.proofs.Common.{get_or-append-add, length-append, repeater_count, BeginsWithPath, Path, Hop}
use Rattle.station_laws.proofs.Common.{BeginsWithPath-same, Frame, Modulus, body_octets, path_octets, frame_octets}
use Rattle.station_laws.proofs.Common.{with_none_done, AreAlikeButForH}
use Rattle.std.specs.Prelude.{◌≡◌, ℕ, suc, ◌+◌, ◌≤◌, false, List, [], ◌∷◌, ◌++◌, length, drop, refl}
use Rattle.std.proofs.Common.{eqb}
use Rattle.std.specs.List.{AllByRecursion as Each}
use Rattle.std.proofs.lemmas.List.{drop_at}
use Rattle.ax25_address.specs.AddressField.{field_octets}
use Rattle.ax25_address.specs.Callsign.{IsCall}
use Rattle.ax25_address.specs.FramePath.{destination_bit, source_bit, IsWrittenPath}
use Rattle.ax25_address.proofs.Written.{AreWrittenSoFar, AreWrittenSoFar-ends, AreWrittenSoFar-push}
use Rattle.ax25_address.proofs.Written.{IsWrittenPath-so_far, BeginsWithPath-written}
use Rattle.station.specs.FrameSpelling.{repeater_fields}

-- a path that can be written
pub record IsGoodPath (path : Path) : Type 0 where
  pub few : repeater_count path ≤ 8
  pub dest : IsCall path.dest
  pub source : IsCall path.source
  pub hops : Each (λ (hop : Hop). IsCall hop.call) path.repeaters.items

-- the repeaters from one on
fields_from :
    (path : Path) (front hops : List Hop) (octets : List ℕ) → path.repeaters.items ≡ front ++ hops
    → repeater_count path ≤ 8 → Each (λ (hop : Hop). IsCall hop.call) hops → AreWrittenSoFar path octets (length front)
    → IsWrittenPath path (octets ++ repeater_fields hops)
fields_from path front [] octets is few valid h =
    subst (IsWrittenPath path) (sym (append-nil octets))
    (IsWrittenPath-so_far path octets (length front) few (sym (ap length is ∙ ap length (append-nil front))) h)
fields_from path front (hop ∷ []) octets is few valid h =
    let end : repeater_count path ≡ length front + 1 = ap length is ∙ length-append front (hop ∷ []) in
    let none : length front + 0 ≡ length front = omega arith in
    let at : (d : Hop) → get_or path.repeaters.items (length front) d ≡ hop =
    λ d. ap (λ xs. get_or xs (length front) d) is ∙ ap (λ n. get_or (front ++ hop ∷ []) n d) (sym none)
    ∙ get_or-append-add front (hop ∷ []) 0 d in
    let pushed : AreWrittenSoFar path (octets ++ field_octets hop.call hop.done 3
    (eqb (length front + 1) (repeater_count path))) (length front + 1) =
    AreWrittenSoFar-push path octets (length front) hop.call hop.done valid.0 (λ d. ap (λ (x : Hop). x.call) (at d))
    (λ d. ap (λ (x : Hop). x.done) (at d)) h in
    subst (λ b. IsWrittenPath path (octets ++ field_octets hop.call hop.done 3 b))
    (eq-eqb (length front + 1) (repeater_count path) (sym end))
    (IsWrittenPath-so_far path _ (length front + 1) few (sym end) pushed)
fields_from path front (hop ∷ next ∷ hops) octets is few valid h =
    let all : length (hop ∷ next ∷ hops) ≡ suc (suc (length hops)) = refl in
    let size : repeater_count path ≡ length front + suc (suc (length hops)) =
    ap length is ∙ length-append front (hop ∷ next ∷ hops) in
    let other : length front + 1 ≡ repeater_count path → ⊥ = λ e. absurd (omega arith) in
    let none : length front + 0 ≡ length front = omega arith in
    let at : (d : Hop) → get_or path.repeaters.items (length front) d ≡ hop =
    λ d. ap (λ xs. get_or xs (length front) d) is ∙ ap (λ n. get_or (front ++ hop ∷ next ∷ hops) n d) (sym none)
    ∙ get_or-append-add front (hop ∷ next ∷ hops) 0 d in
    let pushed : AreWrittenSoFar path (octets ++ field_octets hop.call hop.done 3
    (eqb (length front + 1) (repeater_count path))) (length front + 1) =
    AreWrittenSoFar-push path octets (length front) hop.call hop.done valid.0 (λ d. ap (λ (x : Hop). x.call) (at d))
    (λ d. ap (λ (x : Hop). x.done) (at d)) h in
    let one : AreWrittenSoFar path (octets ++ field_octets hop.call hop.done 3 false) (length front + 1) =
    subst (λ b. AreWrittenSoFar path (octets ++ field_octets hop.call hop.done 3 b) (length front + 1))
    (ne_eqb (length front + 1) (repeater_count path) other) pushed in
    let more : AreWrittenSoFar path (octets ++ field_octets hop.call hop.done 3 false) (length (front ++ hop ∷ [])) =
    subst (AreWrittenSoFar path (octets ++ field_octets hop.call hop.done 3 false))
    (sym (length-append front (hop ∷ []))) one in
    subst (IsWrittenPath path) (append_assoc octets (field_octets hop.call hop.done 3 false)
    (repeater_fields (next ∷ hops)))
    (fields_from path (front ++ hop ∷ []) (next ∷ hops) (octets ++ field_octets hop.call hop.done 3 false)
    (is ∙ sym (append_assoc front (hop ∷ []) (next ∷ hops))) few valid.1 more)

pub path_written : (path : Path) → IsGoodPath path → IsWrittenPath path (path_octets path)
path_written path good =
    subst (IsWrittenPath path)
    (append_assoc (field_octets path.dest (destination_bit path.role) 3 false)
    (field_octets path.source (source_bit path.role) 3 (eqb (repeater_count path) 0))
    (repeater_fields path.repeaters.items))
    (fields_from path [] path.repeaters.items
    (field_octets path.dest (destination_bit path.role) 3 false ++ field_octets path.source (source_bit path.role) 3
    (eqb (repeater_count path) 0))
    refl good.few good.hops (AreWrittenSoFar-ends path good.dest good.source))

-- a frame that is written begins with its path, and its body follows
pub record IsSpelled (modulus : Modulus) (frame : Frame) (len : ℕ) : Type 0 where
  pub begins : BeginsWithPath (frame_octets modulus frame) frame.path len
  pub body : drop len (frame_octets modulus frame) ≡ body_octets modulus frame.kind

pub frame_spelled :
    (modulus : Modulus) (frame : Frame) → IsGoodPath frame.path
    → IsSpelled modulus frame (length (path_octets frame.path))
unfolding frame_octets
frame_spelled modulus frame good = record {
  begins = BeginsWithPath-written frame.path (path_octets frame.path) (body_octets modulus frame.kind)
      (path_written frame.path good);
  body = drop_at (path_octets frame.path) (body_octets modulus frame.kind) (length (path_octets frame.path)) refl;
}

-- a frame that is heard as it was written, but for H bits
pub record IsHeardAgain (modulus : Modulus) (frame : Frame) (heard : List ℕ) (path : Path) : Type 0 where
  pub len : ℕ
  pub begins : BeginsWithPath heard path len
  pub paths : with_none_done path ≡ with_none_done frame.path
  pub body : drop len heard ≡ body_octets modulus frame.kind

pub heard_again :
    (modulus : Modulus) (frame : Frame) (heard queued : List ℕ) → IsGoodPath frame.path
    → queued ≡ frame_octets modulus frame → (a : AreAlikeButForH heard queued)
    → IsHeardAgain modulus frame heard a.path_heard
heard_again modulus frame heard queued good is a =
    let spelled = frame_spelled modulus frame good in
    let size = length (path_octets frame.path) in
    let same = BeginsWithPath-same (frame_octets modulus frame) a.path_sent frame.path a.len size
    (subst (λ xs. BeginsWithPath xs a.path_sent a.len) is a.sent_begins) spelled.begins in
    record {
      len = a.len;
      begins = a.heard_begins;
      paths = a.paths ∙ ap with_none_done same.0;
      body = a.rest ∙ ap (drop a.len) is ∙ ap (λ n. drop n (frame_octets modulus frame)) same.1 ∙ spelled.body;
    }
