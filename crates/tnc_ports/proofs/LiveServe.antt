-- Facts on serving as a whole.
use Rattle.tnc_base.specs.Streams.{SourceTold}
use Rattle.tnc_ports.proofs.Common.{Bool, true, false, Contains, ℤ, Some, None, ◌==◌, if◌then◌else◌, zero, suc, Result}
use Rattle.tnc_ports.proofs.Common.{Ok, Err, is_err, OnOk, All, replicate, ◌≡◌, ℕ, ◌+◌, ◌-◌, ◌<◌, [], ◌++◌, get_or}
use Rattle.tnc_ports.proofs.Common.{length, map, refl, sym, ap, subst, inl, inr, ◌∙◌, arith, append-nil, length-map}
use Rattle.tnc_ports.proofs.Common.{get_or-map, Got, Item, Gap, Empty, End, Reader, Track, record_of, answer, StandsIn}
use Rattle.tnc_ports.proofs.Common.{lane_of, answers_of, MeetsEnd, LiveReceiver, answers_in, listening_of, Hears, readers_wanted}
use Rattle.tnc_ports.proofs.Common.{Memory, false≢true, InputEnd, ReadFault, TooLong, ServeWords, new_live, HaveEnded}
use Rattle.tnc_ports.proofs.Common.{Turning, StandsFor, new_hosts, StandsForLive, Outside, IsCutInReading, IsCutRun}
use Rattle.tnc_ports.proofs.Common.{IsLooped, AllIsWritten}
use Rattle.std.specs.Prelude.{nat_lt}
use Rattle.std.proofs.Common.{⊎_elim, List, ◌∷◌}
use Rattle.std.proofs.lemmas.List.Elements.{All-head, All-tail, Contains-append_cases}
use Rattle.std.proofs.lemmas.Option.{slice_get_past}
use Rattle.sample_ring.specs.declared.view.Entry.{Entry}
use Rattle.sample_ring.specs.Cells.{lap_of, sample_of}
use Rattle.sample_ring.specs.Record.{next, Stands, StandsAs, Tiles}
use Rattle.tnc_ports.specs.declared.looping.LoopEnd.{LoopEnd}
use Rattle.std.specs.Option.{option_to_list}
use Rattle.std.specs.Prelude.{IsSome, Option, is_ok}
use Rattle.tnc_ports.proofs.Common.{reader_ring, ring_id}
use Rattle.sample_ring.specs.Ends.{IsNew}
use Rattle.host_ports.specs.Health.{new_health}
use Rattle.sound_rate.specs.HeldRates.{HasMade}
use Rattle.sample_ring.specs.declared.ring.Ring.{Ring}
use Rattle.tnc_ports.specs.HeldMeter.{IsFreshSound, answers_if}
use Rattle.tnc_ports.specs.declared.looping.LoopEnd.TheVariants.{Done as LoopDone, WriteFault as LoopFault}
use Rattle.host_ports.specs.declared.records.Listen.{Listen}
use Rattle.tnc_ports.specs.declared.serving.ServeEnd.{ServeEnd}
use Rattle.tnc_ports.specs.declared.serving.ServeEnd.TheVariants.{Memory as NoMemory, NoThread}
use Rattle.tnc_ports.specs.declared.pumping.PumpEnd.{PumpEnd}
use Rattle.tnc_ports.specs.ServeRun.{ring_cells, answers_of_record, LanesStandIn, end_of, OnlyListens}
use Rattle.tnc_ports.specs.ServeRun.{HasOpened, HasServed, IsServed}
use Rattle.tnc_ports.specs.SampledPump.{IsClosed, IsLoopedIf}
use Rattle.tnc_ports.proofs.LiveAccounts.{are_sent, are_shut}
use Rattle.tnc_ports.proofs.Common.{from_of}
use Rattle.key_port.specs.KeyLines.{LineTold}
use Rattle.tnc_ports.specs.SampledHeld.{IsReleasedSince}
use Rattle.tnc_ports.proofs.KeyReleases.{cut_on, as_told_on, key_told}
use Rattle.tnc_ports.proofs.LiveLoop.{first_written, first_untold}
use Rattle.tnc_ports.proofs.LiveServed.{served_cut}
use Rattle.tnc_ports.proofs.LiveTold.{tells_nothing}

-- ---- before the first turn

pub first_stands : (words : ServeWords) (turning : Turning) (len : ℕ) (receiver : LiveReceiver)
    → StandsFor turning.hosts [] (new_hosts words.config words.seed)
    → turning.words ≡ words → turning.ticks ≡ 0 → turning.meter.health ≡ new_health
    → HasMade words.rate turning.meter.out []
    → IsNew turning.meter.reader → listening_of receiver ≡ words.listening
    → answers_in len receiver ≡ replicate (readers_wanted words.listening) [] → Hears len receiver
    → StandsForLive turning len receiver (new_live words)
first_stands words turning len receiver hosts same ticks health made fresh listening new hears = record {
  hosts = hosts;
  ticks = ticks;
  listening = listening ∙ ap (λ (w : ServeWords). w.listening) (sym same);
  lanes = new;
  hears = hears;
  passed = omega arith;
  measures = record {
    sound = ap (map (answer len)) fresh.nothing_read;
    place = fresh.at_start;
    health = health;
    made = subst (λ (w : ServeWords). HasMade w.rate turning.meter.out []) (sym same) made;
  };
}

-- no reader was answered
pub fresh_answers : (ring : Ring) (len : ℕ) (receiver : LiveReceiver) (sound : Option Reader) (lanes : List (List Got))
    → answers_in len receiver ≡ lanes → IsFreshSound ring sound → answers_if len receiver sound ≡ lanes ++ [] ∷ []
fresh_answers ring len receiver None lanes is fresh = absurd fresh
fresh_answers ring len receiver (Some reader) lanes is fresh =
    ap (λ ls. ls ++ answers_of len reader ∷ []) is
    ∙ ap (λ reads. lanes ++ map (answer len) reads ∷ []) fresh.1.nothing_read

pub nothing_looped : (words : ServeWords) (lanes : List (List Got)) (start : Outside) (line : LineTold)
    → lanes ≡ replicate (readers_wanted words.listening) [] ++ [] ∷ []
    → IsReleasedSince (from_of start) words.key (new_live words) line
    → IsLooped words Memory lanes start (record start { line = line })
nothing_looped words lanes start line same released =
    let cut : IsCutInReading words (new_live words) (new_live words) = record {
      lanes = replicate (readers_wanted words.listening) [];
      more = λ lane lt. ([], sym (append-nil (lane_of (replicate (readers_wanted words.listening) []) lane)));
      is = refl;
    } in
    let run : IsCutRun words (new_live words) = record {
      count = 0;
      last = new_live words;
      turns = refl;
      cut = inl cut;
    } in
    let served = served_cut words (new_live words) run in
    let all : AllIsWritten (new_live words) start start = record {
      output = λ was e. e ∙ ap Some (sym (append-nil was));
      report = λ was e. e ∙ ap Some (sym (append-nil was));
      no_output_fault = refl;
      no_report_fault = refl;
    } in (
      new_live words,
      cut_on start start line words lanes (new_live words) (record {
        run = run;
        more = [];
        answered = sym same;
        turns = [];
        reached = (new_live words).hosts;
        asked = inl (refl, refl);
        told = tells_nothing start;
        stay = record { listens = refl; faults = omega arith };
        sends = are_sent [] (new_live words).hosts served.accounted;
        shuts = are_shut [] (new_live words).hosts served.accounted;
        gaps = served.gaps;
        samples = served.samples;
      }),
      inl (as_told_on start start line words.key (new_live words)
          (record { written = all; untold = first_untold words.key words })),
      key_told start start line words.key false (new_live words) (first_written words words.key false start) released,
    )

-- ---- the records

-- the position that an answer was asked at
at_of : Got → ℕ
at_of (Item at sample) = at
at_of (Gap from to) = from
at_of (Empty at) = at
at_of (End total) = total

either_at : (c : Bool) (x y : Got) (at : ℕ) → at_of x ≡ at → at_of y ≡ at → at_of (if c then x else y) ≡ at
either_at true x y at a b = a
either_at false x y at a b = b

without_gap : Entry → Got
without_gap e = if e.last == e.at + 1 then End e.at else Empty e.at

without_item : ℕ → Entry → Got
without_item len e = if nat_lt (e.at + 1) (lap_of e.cell) then Gap e.at (lap_of e.cell - len) else without_gap e

answer_at : (len : ℕ) (e : Entry) → at_of (answer len e) ≡ e.at
unfolding at_of without_gap without_item
answer_at len e =
    either_at (lap_of e.cell == e.at + 1) (Item e.at (sample_of e.cell)) (without_item len e) e.at refl
    (either_at (nat_lt (e.at + 1) (lap_of e.cell)) (Gap e.at (lap_of e.cell - len)) (without_gap e) e.at refl
    (either_at (e.last == e.at + 1) (End e.at) (Empty e.at) e.at refl refl))

-- past the last published sample a reader stays
stays : (len known : ℕ) (published : List ℤ) (got : Got) → at_of got ≡ length published
    → StandsAs len published true known got → next got ≡ length published
unfolding at_of
stays len known published (Item at sample) e s = absurd (let n : Some sample ≡ None = sym s
    ∙ slice_get_past published at (omega (arith, e)) in cc n)
stays len known published (Gap from to) e s = absurd (let a = s.0 in let b = s.2 in omega (arith, e, a, b))
stays len known published (Empty at) e s = e
stays len known published (End total) e s = e

stays_on : (len from to : ℕ) (published : List ℤ) (reads : List Entry) → All (Stands len published true) reads
    → Tiles len from reads to → from ≡ length published → to ≡ length published
stays_on len from to published [] stands tiles is = sym tiles ∙ is
stays_on len from to published (e ∷ reads) stands tiles is =
    stays_on len (next (answer len e)) to published reads (All-tail (Stands len published true) e reads stands) tiles.1
    (stays len e.known published (answer len e) (answer_at len e ∙ tiles.0 ∙ is)
    (All-head (Stands len published true) e reads stands))

only_one : (x y : Got) → Contains (x ∷ []) y → x ≡ y
only_one x y (zero, lt, e) = e
only_one x y (suc k, lt, e) = absurd (omega arith)

end_at : (len from to : ℕ) (published : List ℤ) (reads : List Entry) → All (Stands len published true) reads
    → Tiles len from reads to → MeetsEnd (map (answer len) reads) → to ≡ length published
end_at len from to published [] stands tiles (total, (k, lt, e)) = absurd (omega arith)
end_at len from to published (e ∷ reads) stands tiles (total, c) =
    let rest = All-tail (Stands len published true) e reads stands in
    ⊎_elim
    (λ (h : Contains (answer len e ∷ []) (End total)).
    let last : answer len e ≡ End total = only_one (answer len e) (End total) h in
    let s : StandsAs len published true e.known (End total) =
    subst (StandsAs len published true e.known) last (All-head (Stands len published true) e reads stands) in
    stays_on len (next (answer len e)) to published reads rest tiles.1 (ap next last ∙ sym s.1))
    (λ (h : Contains (map (answer len) reads) (End total)). end_at len (next (answer len e))
    to published reads rest tiles.1 (total, h))
    (Contains-append_cases (answer len e ∷ []) (map (answer len) reads) (End total) c)

-- each record that meets the end is read to the last published sample
pub ends_whole : (published : List ℤ) (records : List Track) → All (StandsIn ring_cells published true) records
    → All (λ track. MeetsEnd (answers_of_record track) → track.at ≡ length published) records
ends_whole published records stand = λ k d lt ended.
    let track = get_or records k d in
    let s = stand k d lt in
    end_at ring_cells 0 track.at published track.reads s.stands s.tiles ended

map_tracks : (readers : List Reader) → map (answers_of ring_cells) readers
    ≡ map answers_of_record (map record_of readers)
map_tracks [] = refl
map_tracks (reader ∷ readers) = ap (λ xs. answers_of ring_cells reader ∷ xs) (map_tracks readers)

pub lanes_stand : (published : List ℤ) (readers : List Reader) (records : List Track) → records ≡ map record_of readers
    → All (StandsIn ring_cells published true) records
    → LanesStandIn published (map (answers_of ring_cells) readers)
lanes_stand published readers records is stand = record {
  records = records;
  answers = map_tracks readers ∙ ap (map answers_of_record) (sym is);
  stand = stand;
  whole = ends_whole published records stand;
}

-- all readers in one Vec
pub joined : {T E : Type 0} (r : Result T E) (v : T) (all room readers : List Reader) → r ≡ Ok v
    → all ≡ (if is_ok r then room ++ readers else room) → room ≡ [] → all ≡ readers
joined r v all room readers ok is empty =
    subst (λ x. all ≡ (if is_ok x then room ++ readers else room)) ok is ∙ ap (λ xs. xs ++ readers) empty

last_of : (P : Reader → Type 0) (readers : List Reader) (last : Reader) → All P (readers ++ last ∷ []) → P last
last_of P [] last all = All-head P last [] all
last_of P (reader ∷ readers) last all =
    last_of P readers last (All-tail P reader (readers ++ last ∷ []) all)

-- the last reader is that of the sound
pub fresh_last : (ring : Ring) (all rest : List Reader) (sound : Option Reader) → IsSome sound
    → all ≡ rest ++ option_to_list sound → All (λ reader. (reader_ring reader ≡ ring_id ring) × IsNew reader) all
    → IsFreshSound ring sound
fresh_last ring all rest None some is fresh = absurd (false≢true some)
fresh_last ring all rest (Some last) some is fresh =
    last_of (λ reader. (reader_ring reader ≡ ring_id ring) × IsNew reader) rest last
    (subst (All (λ reader. (reader_ring reader ≡ ring_id ring) × IsNew reader)) is fresh)

-- ---- by how serving ends

pub served : (words : ServeWords) (loop : LoopEnd) (pump : PumpEnd) (end : ServeEnd) (input left : SourceTold)
    (before after : Outside) → end ≡ end_of loop pump
    → HasServed words end input left before after → IsServed words end input left before after
served words LoopDone InputEnd end input left before after e h =
    subst (λ r. IsServed words r input left before after) (sym e)
    (subst (λ r. HasServed words r input left before after) e h)
served words LoopDone ReadFault end input left before after e h =
    subst (λ r. IsServed words r input left before after) (sym e)
    (subst (λ r. HasServed words r input left before after) e h)
served words LoopDone TooLong end input left before after e h =
    subst (λ r. IsServed words r input left before after) (sym e)
    (subst (λ r. HasServed words r input left before after) e h)
served words Memory pump end input left before after e h =
    subst (λ r. IsServed words r input left before after) (sym e)
    (inr (subst (λ r. HasServed words r input left before after) e h))
served words LoopFault pump end input left before after e h =
    subst (λ r. IsServed words r input left before after) (sym e)
    (subst (λ r. HasServed words r input left before after) e h)

-- ---- the ports

-- the ports are opened if listening is no error
pub has_opened : {T E : Type 0} → (words : ServeWords) (before after : Outside) (r : Result T E) (failed : Bool)
    → failed ≡ is_err r → failed ≡ false
    → ((was : List Listen) → before.ports.listens ≡ Some was
    → OnOk r (after.ports.listens ≡ Some (was ++ words.listen ∷ [])))
    → OnlyListens before after → HasOpened words before after
has_opened words before after (Ok v) failed e f opens only = record { opened = opens; only = only }
has_opened words before after (Err x) failed e f opens only = absurd (false≢true (sym f ∙ e))

pub no_ring : (words : ServeWords) (input : SourceTold) (before after : Outside) → HasOpened words before after
    → IsServed words NoMemory input input before after
no_ring words input before after h = inl (record { opens = h; unread = refl })

-- without a thread
pub no_thread : (words : ServeWords) (end : LoopEnd) (lanes : List (List Got)) (begins : Bool) (input left : SourceTold)
    (before opened after : Outside) → HasOpened words before opened → begins ≡ false → left ≡ input
    → IsLoopedIf begins words end lanes opened after → IsServed words NoThread input left before after
no_thread words end lanes begins input left before opened after opens given_up unread looped =
    let same : after ≡ opened = subst (λ b. IsLoopedIf b words end lanes opened after) given_up looped in
    record { opens = subst (HasOpened words before) (sym same) opens; unread = unread }

pub all_served : (words : ServeWords) (loop : LoopEnd) (end : ServeEnd) (len : ℕ) (receiver : LiveReceiver)
    (sound : Option Reader) (input left : SourceTold) (before opened after : Outside)
    → HasOpened words before opened → IsLooped words loop (answers_if len receiver sound) opened after
    → IsClosed words.rate loop end (answers_if ring_cells receiver sound) input left → len ≡ ring_cells
    → IsServed words end input left before after
all_served words loop end len receiver sound input left before opened after opens looped closed cells =
    served words loop closed.pump end input left before after closed.ends (record {
      open_ports = opened;
      opens = opens;
      loop = loop;
      lanes = answers_if len receiver sound;
      looped = looped;
      pump = closed.pump;
      published = closed.published;
      pumped = closed.pumped;
      faults = closed.faults;
      stand = subst (λ n. LanesStandIn closed.published (answers_if n receiver sound)) (sym cells) closed.stand;
      ends = closed.ends;
    })
