-- What readers read, and what is due of it.
use Rattle.tnc_ports.proofs.Common.{Bool, true, false, All, ◌≡◌, ℕ, ◌<◌, ◌≤◌, [], ◌++◌, map, get_or, refl, sym, ap}
use Rattle.tnc_ports.proofs.Common.{subst, ◌∙◌, map-append, get_or-map, Candidate, Got, End, Reader, Track, record_of}
use Rattle.tnc_ports.proofs.Common.{answer, LaneGap, lane_of, least_position, answers_of, MeetsEnd, AreDueBy}
use Rattle.tnc_ports.proofs.Common.{LiveReceiver, readers_in, answers_in, Hears, LanesListen, listening_of, readers_wanted, Turning}
use Rattle.tnc_ports.proofs.Common.{ServeWords, StandsFor, report_text, Live, HaveEnded, gap_line, with_lines}
use Rattle.tnc_ports.proofs.Common.{StandsForLive, Reads, IsCutInReading, SinkTold, Puts}
use Rattle.std.proofs.Common.{List, ◌∷◌}
use Rattle.std.proofs.lemmas.List.{get_or_default}
use Rattle.std.proofs.lemmas.List.Elements.{Contains-append_right}
use Rattle.live_receiver.specs.LiveReceivers.{records_in}
use Rattle.live_receiver.specs.declared.listening.Listening.{Listening}
use Rattle.live_receiver.proofs.LiveLemmas.{hears_listen}
use Rattle.ring_receiver.specs.Turns.{IsTurnOf, AreAnsweredMore, AreGrownBy}
use Rattle.tnc_ports.proofs.LiveSteps.{relined}

-- ---- the end

all_end : (count : ℕ) (before reads now : List (List Got)) → AreAnsweredMore count before reads now → All MeetsEnd reads
    → All MeetsEnd now
all_end count before reads now h all = λ k d lt.
    let within : k < count = subst (λ n. k < n) h.count_now lt in
    let m : MeetsEnd (lane_of reads k) = all k [] (subst (λ n. k < n) (sym h.count_reads) within) in
    let joined : MeetsEnd (lane_of before k ++ lane_of reads k) =
    (m.0, Contains-append_right (lane_of before k) (lane_of reads k) (End m.0) m.1) in
    subst MeetsEnd (sym (get_or_default now k d [] lt ∙ h.each k within)) joined

ends_now : (count : ℕ) (before now : List (List Got)) (gaps : List LaneGap) (ended : Bool)
    → IsTurnOf count before now gaps ended → ended ≡ true → HaveEnded now
ends_now count before now gaps ended h e = all_end count before h.reads now h.longer (h.over.0 e)

-- ---- readers that read on without a turn

pub nothing_read : Track
nothing_read = record { at = 0; reads = [] }

answers_in_record : ℕ → Track → List Got
answers_in_record len track = map (answer len) track.reads

map_records : (len : ℕ) (readers : List Reader) → map (answers_of len) readers
    ≡ map (answers_in_record len) (map record_of readers)
unfolding answers_in_record
map_records len [] = refl
map_records len (reader ∷ readers) = ap (λ xs. answers_of len reader ∷ xs) (map_records len readers)

pub lane_answers : (len : ℕ) (receiver : LiveReceiver) (k : ℕ)
    → lane_of (answers_in len receiver) k ≡ map (answer len) (get_or (records_in receiver) k nothing_read).reads
unfolding answers_in_record nothing_read
lane_answers len receiver k =
    ap (λ xs. get_or xs k []) (map_records len (readers_in receiver))
    ∙ get_or-map (answers_in_record len) (records_in receiver) k nothing_read

pub cut_in_reading : (words : ServeWords) (len : ℕ) (before after : LiveReceiver) (live : Live)
    → listening_of before ≡ words.listening
    → answers_in len before ≡ live.lanes → AreGrownBy (readers_wanted (listening_of before)) (records_in before)
    (records_in after)
    → IsCutInReading words live (record live { lanes = answers_in len after })
cut_in_reading words len before after live listening same grown = record {
  lanes = answers_in len after;
  more = λ lane lt.
      let g = grown lane nothing_read (subst (λ s. lane < readers_wanted s) (sym listening) lt) in (
        map (answer len) g.0,
        lane_answers len after lane ∙ ap (map (answer len)) g.1
            ∙ map-append (answer len) (get_or (records_in before) lane nothing_read).reads g.0
            ∙ ap (λ xs. xs ++ map (answer len) g.0) (sym (lane_answers len before lane)
            ∙ ap (λ xs. lane_of xs lane) same),
      );
  is = refl;
}

-- ---- a whole reading

-- what a turn of reading brings that follows some answers
module _ (listening : Listening) (ended : Bool) (lowest : ℕ) (items : List Candidate) (gaps : List LaneGap)
    (old now : List (List Got)) where
  abbrev pub IsRead : Type 0
  IsRead =
      IsTurnOf (readers_wanted listening) old now gaps ended × AreDueBy listening ended old now items
      × (lowest ≡ least_position now) × (least_position old ≤ lowest)

pub reads_all : (ended : Bool) (lowest : ℕ) (items : List Candidate) (before after : Turning) (len : ℕ)
    (old receiver : LiveReceiver) (live : Live) (gaps : List LaneGap) (text : List ℕ) (r r' : SinkTold)
    → StandsForLive before len old live
    → IsTurnOf (readers_wanted (listening_of old)) (answers_in len old) (answers_in len receiver) gaps ended
    → (Hears len old → AreDueBy (listening_of old) ended (answers_in len old) (answers_in len receiver) items)
    → (ended ≡ false → Hears len old → Hears len receiver)
    → (LanesListen len old → LanesListen len receiver)
    → (Hears len old → lowest ≡ least_position (answers_in len receiver))
    → (Hears len old → least_position (answers_in len old) ≤ lowest)
    → listening_of receiver ≡ listening_of old
    → text ≡ report_text (map gap_line gaps) → Puts before.failed after.failed text r r' → after.hosts ≡ before.hosts
    → Reads ended lowest items before after len receiver live r r'
reads_all ended lowest items before after len old receiver live gaps text r r' stands turn due hears listens is_least
    forward listening is put same =
    let now = answers_in len receiver in
    let read_as : IsRead (listening_of old) ended lowest items gaps (answers_in len old) now =
    (turn, due stands.hears, is_least stands.hears, forward stands.hears) in
    let read_by : IsRead before.words.listening ended lowest items gaps (answers_in len old) now =
    subst (λ s. IsRead s ended lowest items gaps (answers_in len old) now) stands.listening read_as in
    let read : IsRead before.words.listening ended lowest items gaps live.lanes now =
    subst (λ b. IsRead before.words.listening ended lowest items gaps b now) stands.lanes read_by in
    let lines = map gap_line gaps in
    let next : Live = record live { lanes = now; hosts = with_lines lines live.hosts } in
    record {
      read = next;
      reads = record { lanes = now; gaps = gaps; turn = read.0; is = refl };
      due = read.1;
      lanes = refl;
      listening = listening ∙ stands.listening;
      listens = listens (hears_listen len old stands.hears);
      is_least = read.2;
      forward = read.3;
      hears = λ e. hears e stands.hears;
      ends = ends_now (readers_wanted before.words.listening) live.lanes now gaps ended read.0;
      keeps = subst (λ h. StandsFor h next.hosts.report next.hosts) (sym same)
          (relined before.hosts live.hosts (live.hosts.report ++ lines) stands.hosts);
      writes = record { lines = lines; more = refl; puts = subst (λ t. Puts before.failed after.failed t r r') is put };
    }
