-- The ring once the pump and the turns have ended, and the recording as a whole.
use Rattle.tnc_base.specs.Streams.{SourceTold}
use Rattle.tnc_record.proofs.Common.{ℤ, Bool, true, All, Result, Ok, Err, ◌≡◌, ℕ, List, [], ◌∷◌, ◌++◌, length, map}
use Rattle.tnc_record.proofs.Common.{take, refl, sym, ap, subst, ◌∙◌, inr, arith, false≢true, map-append, All-nil}
use Rattle.tnc_record.proofs.Common.{All-cons, All-head, All-tail, Reader, record_of, reads_of, StandsIn, answers_of}
use Rattle.tnc_record.proofs.Common.{items, losses, has_ended, Tile, LoopEnd, SinkTold, ring_cells, Listening}
use Rattle.tnc_record.proofs.Common.{RecordWords, IsAnswered, ReadsRing, Recording}
use Rattle.std.specs.Prelude.{IsOk, is_ok, if◌then◌else◌}
use Rattle.std.proofs.lemmas.List.{take-map}
use Rattle.std.proofs.lemmas.List.Elements.{All-push, All-take}
use Rattle.sample_ring.specs.declared.view.Track.{Track}
use Rattle.sample_ring.specs.declared.ring.Ring.{Ring}
use Rattle.sample_ring.specs.Ends.{ring_id, reader_ring}
use Rattle.slicer_bank.specs.RingLanes.{answers_of as answers_of_lane}
use Rattle.ring_receiver.specs.HeldReceiver.{readers_in}
use Rattle.tnc_ports.specs.declared.looping.LoopEnd.TheVariants.{Done as LoopDone, Memory as LoopMemory}
use Rattle.tnc_ports.specs.declared.looping.LoopEnd.TheVariants.{WriteFault as LoopFault}
use Rattle.tnc_ports.specs.declared.pumping.PumpEnd.{PumpEnd}
use Rattle.tnc_ports.specs.declared.pumping.PumpEnd.TheVariants.{InputEnd, ReadFault, TooLong}
use Rattle.tnc_ports.specs.ServeRun.{LanesStandIn}
use Rattle.tnc_ports.proofs.LiveServe.{lanes_stand}
use Rattle.tnc_record.specs.declared.recording.RecordEnd.{RecordEnd}
use Rattle.tnc_record.specs.HeldRecord.{LoopsIf, IsClosed}
use Rattle.tnc_record.specs.RecordRun.{IsRecordedFrom, HasRecorded, IsRecorded, end_of}
use Rattle.tnc_record.proofs.RecordedLemmas.{samples_stand, past_end, tiles_all}

-- ---- the records

-- of the receiver's readers at most nine; and that of the recorder's reader is the last
abbrev pub nine_readers : Listening → List Reader
nine_readers listening = take 9 (readers_in listening.receiver)

abbrev pub all_records : Listening → List Track
all_records listening = map record_of (nine_readers listening) ++ record_of listening.recorder.reader ∷ []

abbrev pub all_readers : Listening → List Reader
all_readers listening = nine_readers listening ++ listening.recorder.reader ∷ []

joined : {T E : Type 0} (r : Result T E) (xs ys zs : List Reader) → IsOk r → xs ≡ (if is_ok r then ys else zs) → xs ≡ ys
joined (Ok v) xs ys zs ok e = e
joined (Err f) xs ys zs ok e = absurd (false≢true ok)

-- the readers that the ring is handed
pub all_are : {T E : Type 0} (listening : Listening) (room finished cut appended all : List Reader) (last : Reader)
    (r : Result T E) → room ≡ [] → finished ≡ readers_in listening.receiver → cut ≡ take 9 finished → IsOk r
    → appended ≡ (if is_ok r then room ++ cut else room) → last ≡ listening.recorder.reader
    → all ≡ appended ++ last ∷ [] → all ≡ all_readers listening
all_are listening room finished cut appended all last r empty are nine ok append is push =
    push ∙ ap (λ x. appended ++ x ∷ []) is
    ∙ ap (λ l. l ++ listening.recorder.reader ∷ []) (joined r appended (room ++ cut) room ok append
    ∙ ap (λ l. l ++ cut) empty ∙ nine ∙ ap (take 9) are)

pub records_are : (listening : Listening) (all : List Reader) → all ≡ all_readers listening
    → map record_of all ≡ all_records listening
records_are listening all are =
    ap (map record_of) are ∙ map-append record_of (nine_readers listening) (listening.recorder.reader ∷ [])

-- they are readers of the ring
pub rings_are : (ring : Ring) (listening : Listening) (all : List Reader) → all ≡ all_readers listening
    → ReadsRing ring listening → All (λ reader. reader_ring reader ≡ ring_id ring) all
rings_are ring listening all are reads =
    subst (All (λ reader. reader_ring reader ≡ ring_id ring)) (sym are)
    (All-push (λ reader. reader_ring reader ≡ ring_id ring) (nine_readers listening) listening.recorder.reader
    (All-take (λ reader. reader_ring reader ≡ ring_id ring) 9 (readers_in listening.receiver) reads.receiver)
    reads.recorder)

all_front : {X : Type 0} (P : X → Type 0) (xs : List X) (x : X) → All P (xs ++ x ∷ []) → All P xs
all_front P [] x all = All-nil P
all_front P (y ∷ xs) x all =
    All-cons P y xs (All-head P y (xs ++ x ∷ []) all) (all_front P xs x (All-tail P y (xs ++ x ∷ []) all))

all_last : {X : Type 0} (P : X → Type 0) (xs : List X) (x : X) → All P (xs ++ x ∷ []) → P x
all_last P [] x all = All-head P x [] all
all_last P (y ∷ xs) x all = all_last P xs x (All-tail P y (xs ++ x ∷ []) all)

pub lanes_closed : (published : List ℤ) (listening : Listening) (recording : Recording)
    → All (StandsIn ring_cells published true) (all_records listening) → IsAnswered ring_cells listening recording
    → LanesStandIn published recording.lanes
lanes_closed published listening recording stand answered =
    let readers = nine_readers listening in
    subst (LanesStandIn published)
    (sym (take-map (answers_of_lane ring_cells) 9 (readers_in listening.receiver)) ∙ answered.lanes)
    (lanes_stand published readers (map record_of readers) refl
    (all_front (StandsIn ring_cells published true) (map record_of readers)
    (record_of listening.recorder.reader) stand))

pub recorder_closed : (published : List ℤ) (listening : Listening) (recording : Recording)
    → All (StandsIn ring_cells published true) (all_records listening) → IsAnswered ring_cells listening recording
    → IsRecordedFrom published recording.recorded
recorder_closed published listening recording stand answered =
    let held = listening.recorder in
    let track = record_of held.reader in
    let own : StandsIn ring_cells published true track =
    all_last (StandsIn ring_cells published true) (map record_of (nine_readers listening)) track stand in
    let whole : has_ended (answers_of ring_cells held.reader) ≡ true
    → Tile (length published) (items (answers_of ring_cells held.reader))
    (losses (answers_of ring_cells held.reader)) = λ ended.
    let past = past_end ring_cells 0 (reads_of held.reader) track.at published own.tiles answered.stands.forward
    own.stands ended in
    let within = own.within in
    let at : track.at ≡ length published = omega arith in
    tiles_all ring_cells held published answered.stands at in
    subst (IsRecordedFrom published) answered.recorded (record {
      track = track;
      answers = refl;
      stand = own;
      samples = samples_stand ring_cells published (reads_of held.reader) own.stands;
      whole = whole;
    })

-- ---- by how recording ends

recorded : (words : RecordWords) (loop : LoopEnd) (pump : PumpEnd) (end : RecordEnd) (input left : SourceTold)
    (o o' r r' : SinkTold) → end ≡ end_of loop pump → HasRecorded words end input left o o' r r'
    → IsRecorded words end input left o o' r r'
recorded words LoopDone InputEnd end input left o o' r r' e h =
    subst (λ x. IsRecorded words x input left o o' r r') (sym e)
    (subst (λ x. HasRecorded words x input left o o' r r') e h)
recorded words LoopDone ReadFault end input left o o' r r' e h =
    subst (λ x. IsRecorded words x input left o o' r r') (sym e)
    (subst (λ x. HasRecorded words x input left o o' r r') e h)
recorded words LoopDone TooLong end input left o o' r r' e h =
    subst (λ x. IsRecorded words x input left o o' r r') (sym e)
    (subst (λ x. HasRecorded words x input left o o' r r') e h)
recorded words LoopMemory pump end input left o o' r r' e h =
    subst (λ x. IsRecorded words x input left o o' r r') (sym e)
    (inr (subst (λ x. HasRecorded words x input left o o' r r') e h))
recorded words LoopFault pump end input left o o' r r' e h =
    subst (λ x. IsRecorded words x input left o o' r r') (sym e)
    (subst (λ x. HasRecorded words x input left o o' r r') e h)

-- the turns were made, and then the ring was closed
pub all_recorded : (words : RecordWords) (begins : Bool) (loop : LoopEnd) (end : RecordEnd) (len : ℕ)
    (listening : Listening) (input left : SourceTold) (o o' r r' : SinkTold) → begins ≡ true → len ≡ ring_cells
    → LoopsIf begins words loop len listening o o' r r'
    → ((recording : Recording) → IsAnswered ring_cells listening recording → IsClosed loop end recording input left)
    → IsRecorded words end input left o o' r r'
all_recorded words begins loop end len listening input left o o' r r' on cells loops closes =
    let looped = subst (λ b. LoopsIf b words loop len listening o o' r r') on loops in
    let recording = looped.0 in
    let closed = closes recording (subst (λ n. IsAnswered n listening recording) cells looped.1) in
    recorded words loop closed.pump end input left o o' r r' closed.ends (record {
      recording = recording;
      loop = loop;
      looped = looped.2;
      pump = closed.pump;
      published = closed.published;
      pumped = closed.pumped;
      faults = closed.faults;
      lanes = closed.lanes;
      recorded = closed.recorded;
      ends = closed.ends;
    })
