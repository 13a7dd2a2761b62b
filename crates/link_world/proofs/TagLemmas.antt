-- Frames with their tags and without.
use Rattle.link_world.proofs.Common.{◌≡◌, ℕ, ◌+◌, Bool, suc, List, [], ◌∷◌, ◌++◌, map, take, drop, refl, sym, ◌∙◌, ap}
use Rattle.link_world.proofs.Common.{remove, map-append, SentIn, sent_frames, InFlight, Tagged, asks}
use Rattle.link_world.proofs.Common.{asks_in, answers_in, RecordedEnd, tagged, frames, sent_tagged, in_flight}
use Rattle.link_world.proofs.Common.{all_in_flight, flying, asking, answering}
use Rattle.std.specs.Prelude.{count_by, fold, cond}
use Rattle.std.proofs.lemmas.List.{take-map, drop-map}
use Rattle.std.proofs.lemmas.Simd.{map-map}
use Rattle.link_machine.specs.Sent.{sent_frame}

-- frames that are tagged are the frames that were sent
pub frames-tagged :
    (on_ask : Bool) (r : RecordedEnd) (sent : List SentIn)
    → frames (map (tagged on_ask r) sent) ≡ sent_frames r.machine.path sent
frames-tagged on_ask r sent = map-map sent_tagged (tagged on_ask r) sent

-- and fly as such
pub all_in_flight-tagged :
    (on_ask : Bool) (r : RecordedEnd) (sent : List SentIn)
    → all_in_flight (map (tagged on_ask r) sent) ≡ map (flying on_ask) (sent_frames r.machine.path sent)
all_in_flight-tagged on_ask r sent =
    map-map in_flight (tagged on_ask r) sent ∙ sym (map-map (flying on_ask) (sent_frame r.machine.path) sent)

-- a fold of the images
fold-map : {X Y A : Type 0} (g : A → Y → A) (f : X → Y) (a : A) (xs : List X) → fold g a (map f xs) ≡ fold
    (λ b x. g b (f x)) a xs
fold-map g f a [] = refl
fold-map g f a (x ∷ xs) = fold-map g f (g a (f x)) xs

-- a count of the images
pub count_by-map : {X Y : Type 0} (p : Y → Bool) (f : X → Y) (xs : List X) → count_by p (map f xs) ≡ count_by
    (λ x. p (f x)) xs
count_by-map p f xs = fold-map (λ a y. a + cond (p y) 1 0) f 0 xs

-- SABM, SABME and DISC are counted alike with tags and in flight
pub asks_in-flight : (tags : List Tagged) → asks_in tags ≡ asking (all_in_flight tags)
asks_in-flight tags = sym (count_by-map (λ (f : InFlight). asks f.sent.frame.kind) in_flight tags)

-- so are answers
pub answers_in-flight : (tags : List Tagged) → answers_in tags ≡ answering (all_in_flight tags)
answers_in-flight tags = sym (count_by-map (λ (f : InFlight). f.answers) in_flight tags)

-- the images of a list without one item
pub map-remove : {X Y : Type 0} (f : X → Y) (xs : List X) (index : ℕ) → map f (remove xs index) ≡ remove (map f xs)
    index
map-remove f xs index =
    map-append f (take index xs) (drop (suc index) xs)
    ∙ ap (λ x. x ++ map f (drop (suc index) xs)) (sym (take-map f index xs))
    ∙ ap (λ x. take index (map f xs) ++ x) (sym (drop-map f (suc index) xs))
