-- A recorder after one more answer, and after many.
use Rattle.std.proofs.Common.{◌≡◌, ℕ, ◌+◌, ◌<◌, ◌≤◌, ◌⊎◌, List, [], ◌∷◌, ◌++◌, length, map, refl, sym, ap, ◌∙◌}
use Rattle.std.proofs.Common.{inl, inr, arith, subst, append_assoc, true, false}
use Rattle.std.specs.List.{All}
use Rattle.std.proofs.lemmas.List.{length_push, map-append, append-nil, length-map}
use Rattle.std.proofs.lemmas.List.Elements.{All-push, All-nil}
use Rattle.sample_ring.specs.declared.got.Got.{Got}
use Rattle.sample_ring.specs.declared.view.Entry.{Entry}
use Rattle.sample_ring.specs.Ends.{reader_ring, position_of, reads_of, GoesForward}
use Rattle.sample_ring.specs.Record.{answer, next, Tiles}
use Rattle.sample_ring.proofs.Growing.{tiles_snoc}
use Rattle.ring_recorder.specs.Recording.{answers_of, sound, losses, has_ended, items}
use Rattle.ring_recorder.specs.Held.{HeldRecorder, StandsFor, TookAnswer, sound_after, losses_after, ended_after}
use Rattle.ring_recorder.specs.Tiling.{Tile}
use Rattle.ring_recorder.specs.Turns.{IsTurn, reads_on, most_reads}
use Rattle.ring_recorder.proofs.LossLemmas.{losses_more}
use Rattle.ring_recorder.proofs.SoundLemmas.{sound_more, ended_more}
use Rattle.ring_recorder.proofs.TileLemmas.{tile_of_reads}

-- ---- one more answer

stands_more : (len : ℕ) (before after : HeldRecorder) (got : Got) → TookAnswer len before after got
    → StandsFor len before → StandsFor len after
stands_more len before after got took stands =
    let entry : Entry = took.read.0 in
    let at : entry.at ≡ position_of before.reader = took.read.1 in
    let reads : reads_of after.reader ≡ reads_of before.reader ++ entry ∷ [] = took.read.3 in
    let got_is : got ≡ answer len entry = took.read.4 in
    let answers : answers_of len after.reader ≡ answers_of len before.reader ++ got ∷ [] =
    ap (map (answer len)) reads ∙ map-append (answer len) (reads_of before.reader) (entry ∷ [])
    ∙ ap (λ g. answers_of len before.reader ++ g ∷ []) (sym got_is) in
    let lost : after.losses ≡ losses (answers_of len after.reader) =
    took.losses ∙ ap (λ l. losses_after l got) stands.losses_are
    ∙ sym (losses_more (answers_of len before.reader) got) ∙ ap losses (sym answers) in
    let tiles : Tiles len 0 (reads_of after.reader) (position_of after.reader) =
    subst (λ r. Tiles len 0 r (position_of after.reader)) (sym reads)
    (subst (λ p. Tiles len 0 (reads_of before.reader ++ entry ∷ []) p)
    (sym (took.moves ∙ ap next got_is))
    (tiles_snoc len 0 (reads_of before.reader) (position_of before.reader) entry stands.reads_tile at)) in
    let forward : All (λ read. GoesForward read.at (answer len read)) (reads_of after.reader) =
    subst (All (λ read. GoesForward read.at (answer len read))) (sym reads)
    (All-push (λ read. GoesForward read.at (answer len read)) (reads_of before.reader) entry stands.forward
    (subst (λ g. GoesForward entry.at g) got_is (subst (λ p. GoesForward p got) (sym at) took.forward))) in
    record {
      sound_is = took.sound ∙ ap (λ s. sound_after before.keep s got) stands.sound_is
          ∙ sym (sound_more before.keep (answers_of len before.reader) got)
          ∙ ap (λ k. sound k (answers_of len before.reader ++ got ∷ [])) (sym took.keep)
          ∙ ap (sound after.keep) (sym answers);
      losses_are = lost;
      ended_is = took.ended ∙ ap (λ e. ended_after e got) stands.ended_is
          ∙ sym (ended_more (answers_of len before.reader) got) ∙ ap has_ended (sym answers);
      tile = subst (Tile (position_of after.reader) (items (answers_of len after.reader))) (sym lost)
          (tile_of_reads len (reads_of after.reader) (position_of after.reader) tiles forward);
      reads_tile = tiles;
      forward = forward;
    }

-- ---- the answers of a turn so far

-- so many answers were taken since the turn began, and after each of them the recorder reads on
pub record ReadsOn (len : ℕ) (start now : HeldRecorder) (count : ℕ) : Type 0 where
  pub ring : reader_ring now.reader ≡ reader_ring start.reader
  pub keep : now.keep ≡ start.keep
  pub reads : List Entry
  pub are : reads_of now.reader ≡ reads_of start.reader ++ reads
  pub many : length reads ≡ count
  pub on : All (λ got. reads_on got ≡ true) (map (answer len) reads)
  pub stands : StandsFor len start → StandsFor len now

-- the reads of a turn and one more
pub record ReadOnce (len : ℕ) (start after : HeldRecorder) (so_far : List Entry) (got : Got) : Type 0 where
  pub ring : reader_ring after.reader ≡ reader_ring start.reader
  pub keep : after.keep ≡ start.keep
  pub entry : Entry
  pub are : reads_of after.reader ≡ reads_of start.reader ++ (so_far ++ entry ∷ [])
  pub answers : map (answer len) (so_far ++ entry ∷ []) ≡ map (answer len) so_far ++ got ∷ []
  pub stands : StandsFor len start → StandsFor len after

answers_once : (len : ℕ) (now after : HeldRecorder) (so_far : List Entry) (got : Got)
    (took : TookAnswer len now after got)
    → map (answer len) (so_far ++ took.read.0 ∷ []) ≡ map (answer len) so_far ++ got ∷ []
answers_once len now after so_far got took =
    map-append (answer len) so_far (took.read.0 ∷ []) ∙ ap (λ g. map (answer len) so_far ++ g ∷ []) (sym took.read.4)

pub reads_once : (len : ℕ) (start now after : HeldRecorder) (count : ℕ) (got : Got) (h : ReadsOn len start now count)
    → TookAnswer len now after got → ReadOnce len start after h.reads got
reads_once len start now after count got h took =
    let entry : Entry = took.read.0 in
    record {
      ring = took.same_ring ∙ h.ring;
      keep = took.keep ∙ h.keep;
      entry = entry;
      are = took.read.3 ∙ ap (λ r. r ++ entry ∷ []) h.are ∙ append_assoc (reads_of start.reader) h.reads (entry ∷ []);
      answers = answers_once len now after h.reads got took;
      stands = λ stands. stands_more len now after got took (h.stands stands);
    }

pub reads_more : (len : ℕ) (start now after : HeldRecorder) (count : ℕ) (got : Got) → ReadsOn len start now count
    → TookAnswer len now after got → reads_on got ≡ true → ReadsOn len start after (count + 1)
reads_more len start now after count got h took on =
    let once = reads_once len start now after count got h took in
    record {
      ring = once.ring;
      keep = once.keep;
      reads = h.reads ++ once.entry ∷ [];
      are = once.are;
      many = length_push h.reads once.entry ∙ ap (λ n. n + 1) h.many;
      on = subst (All (λ g. reads_on g ≡ true)) (sym once.answers)
          (All-push (λ g. reads_on g ≡ true) (map (answer len) h.reads) got h.on on);
      stands = once.stands;
    }

-- ---- the end of a turn
