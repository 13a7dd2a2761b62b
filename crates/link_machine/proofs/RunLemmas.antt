-- Packets that are given in sequence, and those that are asked for.
use Rattle.link_machine.proofs.Common.{◌≡◌, ℕ, zero, suc, ◌+◌, ◌%◌, ◌<◌, ◌≤◌, Bool, true, false, if◌then◌else◌, List}
use Rattle.link_machine.proofs.Common.{[], ◌∷◌, ◌++◌, length, take, drop, replicate, Some, None, refl, sym, ◌∙◌, ap}
use Rattle.link_machine.proofs.Common.{subst, arith, append_assoc, Option, is_some, false≢true, drop-drop}
use Rattle.link_machine.proofs.Common.{drop-append-le, length-drop, Packet, Place, empty_place, packet_at, is_full}
use Rattle.link_machine.proofs.Common.{with_packet, Incoming, StandsForIncoming, run, moved_on}
use Rattle.std.proofs.Common.{append-nil, zero-add}
use Rattle.selective_reject.specs.Incoming.{after_take, reduced_incoming}
use Rattle.link_machine.specs.Acts.{before_gap}

-- an empty place after changes no run
pub run-push : (ps : List Place) → run (ps ++ empty_place ∷ []) ≡ run ps
run-push [] = refl
run-push (p ∷ ps) = ap (λ xs. before_gap p.packet xs) (run-push ps)

length-before_gap : (o : Option Packet) (xs : List Packet) (n : ℕ) → length xs ≤ n → length (before_gap o xs) ≤ suc n
length-before_gap None xs n h = omega arith
length-before_gap (Some p) xs n h = omega arith

pub length-run : (ps : List Place) → length (run ps) ≤ length ps
length-run [] = omega arith
length-run (p ∷ ps) = length-before_gap p.packet (run ps) (length ps) (length-run ps)

-- if the first place has its packet, or not
pub run_of_full : (ps : List Place) (packet : Packet) → packet_at ps 0 ≡ Some packet → run ps ≡ packet ∷ run (drop 1 ps)
run_of_full [] packet h = absurd (false≢true (ap is_some h))
run_of_full (p ∷ ps) packet h = ap (λ o. before_gap o (run ps)) h

-- a packet that comes at the first place
pub run_with_next : (ps : List Place) (packet : Packet) → 1 ≤ length ps
    → run (with_packet ps 0 packet) ≡ packet ∷ run (drop 1 ps)
run_with_next [] packet h = absurd (nothing_there h)
  where
    nothing_there : 1 ≤ 0 → ⊥
    nothing_there k = omega arith
run_with_next (p ∷ ps) packet h = refl

replicate-push : (n : ℕ) → replicate n empty_place ++ empty_place ∷ [] ≡ replicate (suc n) empty_place
replicate-push zero = refl
replicate-push (suc n) = ap (λ xs. empty_place ∷ xs) (replicate-push n)

-- one number further
pub places_further : (j : ℕ) (ps : List Place) → j < length ps
    → drop 1 (drop j ps ++ replicate j empty_place) ++ empty_place ∷ []
    ≡ drop (j + 1) ps ++ replicate (j + 1) empty_place
places_further j ps h =
    let some : 1 ≤ length (drop j ps) = rw length-drop (omega arith) in
    let e : suc j ≡ j + 1 = omega arith in
    ap (λ xs. xs ++ empty_place ∷ []) (drop-append-le 1 (drop j ps) (replicate j empty_place) some)
    ∙ append_assoc (drop 1 (drop j ps)) (replicate j empty_place) (empty_place ∷ [])
    ∙ ap (λ xs. drop 1 (drop j ps) ++ xs) (replicate-push j ∙ ap (λ n. replicate n empty_place) e)
    ∙ ap (λ xs. xs ++ replicate (j + 1) empty_place) (drop-drop 1 j ps)

-- V(R) has moved on by some numbers of a run
pub record MovedSome (held store : Incoming) : Type 0 where
  pub count : ℕ
  pub stands : StandsForIncoming held (moved_on count store)
  pub left : count + length (run held.places) ≡ length (run store.places)

pub moved_none : (held store : Incoming) → StandsForIncoming held store → MovedSome held store
moved_none held store h = record {
  count = 0;
  stands = record {
    modulus = h.modulus;
    window = h.window;
    mode = h.mode;
    vr = h.vr ∙ ap (λ n. n % store.modulus) (omega arith);
    places = h.places ∙ sym (append-nil store.places);
  };
  left = zero-add (length (run held.places)) ∙ ap (λ ps. length (run ps)) h.places;
}

further_by : (i : Incoming) (j : ℕ) (b : Bool) → b ≡ true → j < length i.places
    → (if b then record (moved_on j i) {
      vr = (moved_on j i).vr + 1;
      places = drop 1 (moved_on j i).places ++ empty_place ∷ [];
    } else moved_on j i) ≡ moved_on (j + 1) i
further_by i j true e h =
    let store : ℕ → List Place → Incoming = λ n ps. record i { vr = n; places = ps } in
    let v : i.vr + j + 1 ≡ i.vr + (j + 1) = omega arith in
    ap (λ n. store n (drop 1 (drop j i.places ++ replicate j empty_place) ++ empty_place ∷ [])) v
    ∙ ap (λ ps. store (i.vr + (j + 1)) ps) (places_further j i.places h)
further_by i j false e h = absurd (false≢true e)

-- one packet more is taken
pub moved_one_more :
    (before following store : Incoming) (packet : Packet) → MovedSome before store
    → ((s : Incoming) → StandsForIncoming before s → StandsForIncoming following (after_take s))
    → following.places ≡ drop 1 before.places ++ empty_place ∷ []
    → packet_at before.places 0 ≡ Some packet → MovedSome following store
moved_one_more before following store packet so take places there =
    let one : run before.places ≡ packet ∷ run (drop 1 before.places) = run_of_full before.places packet there in
    let less : length (run before.places) ≡ length (run (drop 1 before.places)) + 1 = ap length one ∙ omega arith in
    let same : run following.places ≡ run (drop 1 before.places) = ap run places ∙ run-push (drop 1 before.places) in
    let left = so.left in
    let short : length (run store.places) ≤ length store.places = length-run store.places in
    let within : so.count < length store.places = omega arith in
    let full : is_full (moved_on so.count store).places 0 ≡ true = ap (λ ps. is_full ps 0) (sym so.stands.places)
    ∙ ap is_some there in
    let P : Incoming → Type 0 = λ s. StandsForIncoming following s in
    record {
      count = so.count + 1;
      stands = subst P (further_by store so.count (is_full (moved_on so.count store).places 0) full within)
          (take (moved_on so.count store) so.stands);
      left = omega (arith, ap length same);
    }

places_by : (i : Incoming) (b : Bool) → b ≡ true
    → (if b then record i { vr = i.vr + 1; places = drop 1 i.places ++ empty_place ∷ [] } else i).places
    ≡ drop 1 i.places ++ empty_place ∷ []
places_by i true e = refl
places_by i false e = absurd (false≢true e)

-- the places after a take
pub places_taken :
    (before following : Incoming) → is_full before.places 0 ≡ true → following ≡ reduced_incoming (after_take before)
    → following.places ≡ drop 1 before.places ++ empty_place ∷ []
places_taken before following full e = ap (λ (i : Incoming). i.places) e ∙ places_by before (is_full before.places 0) full
