-- A record stands in the published list: after one more read, and after more is published.
use Rattle.sample_ring.proofs.Common.{◌≡◌, ℕ, ◌+◌, ◌<◌, ◌≤◌, List, [], ◌∷◌, ◌++◌, length, Some, Bool, false, true≢false}
use Rattle.sample_ring.proofs.Common.{refl, sym, ◌∙◌, zero, suc, arith, ℤ, slice_get, All, All-push, All-nil, Got, Item}
use Rattle.sample_ring.proofs.Common.{Gap, Empty, End, Entry, answer, StandsAs, Stands, StandsIn, with_read}
use Rattle.std.proofs.Common.{get_or}
use Rattle.std.proofs.lemmas.Option.{slice_get_within}
use Rattle.sample_ring.specs.declared.view.Track.{Track}
use Rattle.sample_ring.specs.Record.{next, Tiles}

pub slice_get-front : (xs ys : List ℤ) (k : ℕ) (x : ℤ) → slice_get xs k ≡ Some x → slice_get (xs ++ ys) k ≡ Some x
slice_get-front [] ys k x e = absurd (cc)
slice_get-front (y ∷ xs) ys zero x e = e
slice_get-front (y ∷ xs) ys (suc k) x e = slice_get-front xs ys k x e

pub slice_get-last : (xs : List ℤ) (x : ℤ) → slice_get (xs ++ x ∷ []) (length xs) ≡ Some x
slice_get-last [] x = refl
slice_get-last (y ∷ xs) x = slice_get-last xs x

-- an answer that stands brings the reader no further than the list
next-within : (len : ℕ) (published : List ℤ) (ended : Bool) (known : ℕ) (got : Got)
    → StandsAs len published ended known got → next got ≤ length published
next-within len published ended known (Item at sample) h = let inside : at < length published =
    slice_get_within published at sample h in omega arith
next-within len published ended known (Gap from to) h = let far : to + len ≤ length published = h.2 in omega arith
next-within len published ended known (Empty at) h = h.0
next-within len published ended known (End total) h = let all : length published ≡ total = h.1 in omega arith

-- one more read that begins where the reads so far have ended
pub tiles_snoc : (len from : ℕ) (reads : List Entry) (to : ℕ) (e : Entry) → Tiles len from reads to → e.at ≡ to
    → Tiles len from (reads ++ e ∷ []) (next (answer len e))
tiles_snoc len from [] to e tiles same = (same ∙ sym tiles, refl)
tiles_snoc len from (x ∷ reads) to e tiles same =
    (tiles.0, tiles_snoc len (next (answer len x)) reads to e tiles.1 same)

pub stands_with_read : (len : ℕ) (published : List ℤ) (ended : Bool) (track : Track) (e : Entry)
    → StandsIn len published ended track → e.at ≡ track.at → Stands len published ended e
    → StandsIn len published ended (with_read len track e)
stands_with_read len published ended track e so same stands = record {
  within = next-within len published ended e.known (answer len e) stands;
  stands = All-push (Stands len published ended) track.reads e so.stands stands;
  tiles = tiles_snoc len 0 track.reads track.at e so.tiles same;
}

-- a reader that has read nothing
pub stands_new : (len : ℕ) (published : List ℤ) (ended : Bool)
    → StandsIn len published ended record { at = 0; reads = [] }
stands_new len published ended = record {
  within = omega arith;
  stands = All-nil (Stands len published ended);
  tiles = refl;
}

-- One list goes on as another, if the ring had not ended: what was published stays.
pub record GoesOn (before after : List ℤ) : Type 0 where
  pub longer : length before ≤ length after
  pub same : (k : ℕ) (x : ℤ) → slice_get before k ≡ Some x → slice_get after k ≡ Some x

answer_later : (len : ℕ) (before after : List ℤ) (ended : Bool) (known : ℕ) (got : Got) → GoesOn before after
    → StandsAs len before false known got → StandsAs len after ended known got
answer_later len before after ended known (Item at sample) on h = on.same at sample h
answer_later len before after ended known (Gap from to) on h = let longer = on.longer in let far = h.2 in
    (h.0, h.1, omega arith)
answer_later len before after ended known (Empty at) on h = let longer = on.longer in let low = h.0 in
    (omega arith, h.1)
answer_later len before after ended known (End total) on h = absurd (true≢false (sym h.0))

pub stands_later : (len : ℕ) (before after : List ℤ) (ended : Bool) (track : Track) → GoesOn before after
    → StandsIn len before false track → StandsIn len after ended track
stands_later len before after ended track on so =
    let longer = on.longer in
    let within = so.within in
    record {
      within = omega arith;
      stands = λ k d lt. let e : Entry = get_or track.reads k d in
          answer_later len before after ended e.known (answer len e) on (so.stands k d lt);
      tiles = so.tiles;
    }

pub all_later : (len : ℕ) (before after : List ℤ) (ended : Bool) (tracks : List Track) → GoesOn before after
    → All (StandsIn len before false) tracks → All (StandsIn len after ended) tracks
all_later len before after ended tracks on so = λ k d lt. stands_later len before after ended (get_or tracks k d) on
    (so k d lt)
