-- The places of a link between two events: as many as the window, and nothing in the first; by REJ nothing in any.
use Rattle.link_world.proofs.Common.{◌≡◌, ℕ, zero, suc, ◌+◌, ◌-◌, ◌≤◌, Bool, true, false, ◌==◌, if◌then◌else◌, ◌⊎◌}
use Rattle.link_world.proofs.Common.{subst, List, [], ◌∷◌, ◌++◌, length, drop, replicate, Option, Some, None, refl, sym}
use Rattle.link_world.proofs.Common.{ap, ◌∙◌, arith, length-append, Packet, Place, Mode, Incoming, empty_incoming}
use Rattle.link_world.proofs.Common.{empty_place, packet_at, with_packet, with_asked, unasked, missing, full_end}
use Rattle.link_world.proofs.Common.{first_missing, slice_get, Params, mode_in, window_in, before_gap}
use Rattle.link_world.proofs.Common.{moved_on}
use Rattle.std.proofs.Common.{length-drop, length-set}
use Rattle.std.proofs.lemmas.List.{length-map}
use Rattle.std.proofs.lemmas.List.{length-replicate, drop-replicate, replicate-append-replicate, get_or-set_other}
use Rattle.selective_reject.specs.declared.window.Mode.TheVariants.{Rej as RejMode, Srej as SrejMode}
use Rattle.selective_reject.specs.Places.{asked_place, end_after, filled_place, place_at, unasked_place}
use Rattle.link_machine.specs.Acts.{run}

pub record IsFit (i : Incoming) : Type 0 where
  pub places : length i.places ≡ i.window
  pub first : packet_at i.places 0 ≡ None
  pub positive : 1 ≤ i.window
  pub in_order : i.mode ≡ RejMode → i.places ≡ replicate i.window empty_place

first_of_empty : (count : ℕ) → packet_at (replicate count empty_place) 0 ≡ None
first_of_empty zero = refl
first_of_empty (suc count) = refl

-- places that are left after make room for empty ones
length_moved :
    (count : ℕ) (ps : List Place) → count ≤ length ps
    → length (drop count ps ++ replicate count empty_place) ≡ length ps
length_moved count ps le = length-append (drop count ps) (replicate count empty_place)
    ∙ ap (λ n. length (drop count ps) + n) (length-replicate count empty_place)
    ∙ ap (λ n. n + count) (length-drop count ps) ∙ omega arith

-- after a run the first place is empty
run_after :
    (count : ℕ) (ps : List Place) → packet_at (drop (length (run ps)) ps ++ replicate count empty_place) 0 ≡ None
run_after count [] = first_of_empty count
run_after count (p ∷ ps) = go p.packet refl (run_after count ps)
  where
    go : (o : Option Packet) → p.packet ≡ o
        → packet_at (drop (length (run ps)) ps ++ replicate count empty_place) 0 ≡ None
        → packet_at (drop (length (before_gap o (run ps))) (p ∷ ps) ++ replicate count empty_place) 0 ≡ None
    go None is rest = is
    go (Some packet) is rest = rest

short_run : (ps : List Place) → length (run ps) ≤ length ps
short_run [] = omega arith
short_run (p ∷ ps) = go p.packet (short_run ps)
  where
    go : (o : Option Packet) → length (run ps) ≤ length ps → length (before_gap o (run ps)) ≤ suc (length ps)
    go None le = omega arith
    go (Some packet) le = omega arith

rej≢srej : RejMode ≡ SrejMode → ⊥
rej≢srej e = cc

-- V(R) moves on past a run
pub fit_after_run :
    {i : Incoming} (packet : Packet) → i.mode ≡ SrejMode → IsFit i
    → IsFit (moved_on (length (packet ∷ run (drop 1 i.places))) i)
fit_after_run {i} packet mode f =
    let ps : List Place = drop 1 i.places in
    let count : ℕ = length (packet ∷ run ps) in
    let short = short_run ps in
    let many : length ps ≡ length i.places - 1 = length-drop 1 i.places in
    let places = f.places in
    let positive = f.positive in
    let one : count ≡ suc (length (run ps)) = refl in
    record {
      places = length_moved count i.places (omega arith) ∙ f.places;
      first = following i.places (run_after count ps);
      positive = f.positive;
      in_order = λ rej. absurd (rej≢srej (sym rej ∙ mode));
    }
  where
    following : (qs : List Place)
        → packet_at (drop (length (run (drop 1 qs))) (drop 1 qs) ++ replicate (suc (length (run (drop 1 qs))))
        empty_place) 0 ≡ None
        → packet_at (drop (suc (length (run (drop 1 qs)))) qs ++ replicate (suc (length (run (drop 1 qs))))
        empty_place) 0 ≡ None
    following [] h = refl
    following (p ∷ qs) h = h

moved_empty : (w : ℕ) → 1 ≤ w → drop 1 (replicate w empty_place) ++ replicate 1 empty_place ≡ replicate w empty_place
moved_empty w positive = ap (λ t. t ++ replicate 1 empty_place) (drop-replicate 1 w empty_place)
    ∙ replicate-append-replicate (w - 1) 1 empty_place
    ∙ ap (λ n. replicate n empty_place) (omega arith)

-- by REJ V(R) moves on by one
pub fit_after_one : {i : Incoming} → i.mode ≡ RejMode → IsFit i → IsFit (moved_on 1 i)
fit_after_one {i} mode f =
    let empty = f.in_order mode in
    let same = ap (λ ps. drop 1 ps ++ replicate 1 empty_place) empty ∙ moved_empty i.window f.positive in
    record {
      places = ap length same ∙ length-replicate i.window empty_place;
      first = ap (λ ps. packet_at ps 0) same ∙ first_of_empty i.window;
      positive = f.positive;
      in_order = λ rej. same;
    }

-- a packet ahead is stored
pub fit_with :
    {i : Incoming} (k : ℕ) (packet : Packet) → i.mode ≡ SrejMode → 1 ≤ k → IsFit i
    → IsFit (record i { places = with_packet i.places k packet })
fit_with {i} k packet mode ahead f = record {
  places = length-set i.places k (filled_place packet (place_at i.places k)) ∙ f.places;
  first = ap (λ (p : Place). p.packet) (get_or-set_other i.places k 0 (filled_place packet (place_at i.places k))
      empty_place (λ e. omega arith)) ∙ f.first;
  positive = f.positive;
  in_order = λ rej. absurd (rej≢srej (sym rej ∙ mode));
}

first_with_asked : (ps : List Place) (k : ℕ) → packet_at (with_asked ps k) 0 ≡ packet_at ps 0
first_with_asked [] k = refl
first_with_asked (p ∷ ps) zero = refl
first_with_asked (p ∷ ps) (suc k) = refl

no_end : (count : ℕ) → full_end (replicate count empty_place) ≡ 0
no_end zero = refl
no_end (suc count) = ap (end_after false) (no_end count)

none_below : (ps : List Place) → missing ps 0 ≡ []
unfolding missing
none_below ps = refl

-- if no place is full, none is missing
none_missing : (count : ℕ) → first_missing (replicate count empty_place) ≡ None
none_missing count =
    let ps : List Place = replicate count empty_place in
    ap (λ n. slice_get (missing ps n) 0) (no_end count) ∙ ap (λ t. slice_get t 0) (none_below ps)

some≢none : {k : ℕ} → Some k ≡ None → ⊥
some≢none e = cc

-- one that is missing is asked for
pub fit_with_asked :
    {i : Incoming} (k : ℕ) → first_missing i.places ≡ Some k → IsFit i
    → IsFit (record i { places = with_asked i.places k })
fit_with_asked {i} k is f = record {
  places = length-set i.places k (asked_place (place_at i.places k)) ∙ f.places;
  first = first_with_asked i.places k ∙ f.first;
  positive = f.positive;
  in_order = λ rej. absurd (some≢none (sym is ∙ ap first_missing (f.in_order rej) ∙ none_missing i.window));
}

first_unasked : (ps : List Place) → packet_at (unasked ps) 0 ≡ packet_at ps 0
first_unasked [] = refl
first_unasked (p ∷ ps) = refl

unasked_empty : (count : ℕ) → unasked (replicate count empty_place) ≡ replicate count empty_place
unasked_empty zero = refl
unasked_empty (suc count) = ap (λ t. empty_place ∷ t) (unasked_empty count)

-- none is asked for any more
pub fit_unasked : {i : Incoming} → IsFit i → IsFit (record i { places = unasked i.places })
fit_unasked {i} f = record {
  places = length-map i.places unasked_place ∙ f.places;
  first = first_unasked i.places ∙ f.first;
  positive = f.positive;
  in_order = λ rej. ap unasked (f.in_order rej) ∙ unasked_empty i.window;
}

-- none is stored in a link that is new
pub fit_new :
    {modulus window : ℕ} {mode : Mode} → 1 ≤ window
    → IsFit (record { modulus = modulus; window = window; mode = mode; vr = 0; places = replicate window empty_place })
fit_new {window} positive = record {
  places = length-replicate window empty_place;
  first = first_of_empty window;
  positive = positive;
  in_order = λ rej. refl;
}

-- each window takes a frame
pub record HasRoom (p : Params) : Type 0 where
  pub narrow : 1 ≤ p.window
  pub wide : 1 ≤ p.wide_window

pub room_in : {p : Params} (modulus : ℕ) → HasRoom p → 1 ≤ window_in modulus p
room_in {p} modulus h = go (modulus == 128)
  where
    go : (b : Bool) → 1 ≤ (if b then p.wide_window else p.window)
    go true = h.wide
    go false = h.narrow

-- a modulus is 8 or 128
abbrev pub IsModulus : ℕ → Type 0
IsModulus modulus = (modulus ≡ 8) ⊎ (modulus ≡ 128)

-- what a link keeps of its partner's packets, by its parameters
pub record IsSound (p : Params) (i : Incoming) : Type 0 where
  pub fit : IsFit i
  pub mode : i.mode ≡ mode_in i.modulus p
  pub modulus : IsModulus i.modulus
  pub room : HasRoom p

-- a link that begins anew in a modulus
pub sound_new :
    {p : Params} (modulus : ℕ) → IsModulus modulus → HasRoom p
    → IsSound p (empty_incoming modulus (window_in modulus p) (mode_in modulus p))
sound_new modulus is room = record {
  fit = fit_new (room_in modulus room);
  mode = refl;
  modulus = is;
  room = room;
}

-- and one that begins anew in its own
pub sound_anew : {p : Params} {i : Incoming} → IsSound p i → IsSound p (empty_incoming i.modulus i.window i.mode)
sound_anew s = record {
  fit = fit_new s.fit.positive;
  mode = s.mode;
  modulus = s.modulus;
  room = s.room;
}

-- its places change
pub sound_same :
    {p : Params} {i j : Incoming} → IsFit j → j.mode ≡ i.mode → j.modulus ≡ i.modulus → IsSound p i → IsSound p j
sound_same {p} fit mode modulus s = record {
  fit = fit;
  mode = mode ∙ s.mode ∙ ap (λ m. mode_in m p) (sym modulus);
  modulus = subst IsModulus (sym modulus) s.modulus;
  room = s.room;
}
