-- What the reader of the sound reads and what is counted of it, answer by answer and tick by tick.
use Rattle.tnc_ports.proofs.Common.{Bool, true, false, List, ◌∷◌, ◌≡◌, ℕ, ◌+◌, ◌*◌, ◌<◌, ◌≤◌, [], ◌++◌, refl, sym, ap, subst}
use Rattle.tnc_ports.proofs.Common.{◌∙◌, arith, map, append-nil, append_assoc, map-append, false≢true, AirTick, Got, Item, Gap}
use Rattle.tnc_ports.proofs.Common.{◌⊎◌, inl, inr, Empty, End, Reader, Hosts, Live, ServeWords, answer, answers_of, reader_ring}
use Rattle.std.specs.Prelude.{is_some}
use Rattle.sample_ring.specs.Ends.{AddsRead, GoesForward, position_of, reads_of}
use Rattle.sample_ring.specs.Record.{next}
use Rattle.slicer_bank.specs.RingTurns.{reads_on}
use Rattle.sound_rate.specs.declared.rate.Rate.{Rate}
use Rattle.host_ports.specs.declared.health.Health.{Health}
use Rattle.host_ports.specs.declared.health_note.HealthNotes.{HealthNotes}
use Rattle.tnc_ports.specs.declared.meter.Meter.{Meter}
use Rattle.host_ports.specs.Health.{after_answer, after_answers, after_notes, after_tick, notes_of, standing_of}
use Rattle.tnc_ports.specs.HeldMeter.{Measures, ReadsOnce}
use Rattle.tnc_ports.specs.Measured.{ReadsTo, place_after}
use Rattle.tnc_ports.specs.Sampled.{health_after_tick, notes_in_tick}

-- ---- an answer

pub read_more : (len : ℕ) (before after : Reader) (got : Got) → AddsRead len before got after
    → answers_of len after ≡ answers_of len before ++ got ∷ []
read_more len before after got adds =
    ap (map (answer len)) adds.3 ∙ map-append (answer len) (reads_of before) (adds.0 ∷ [])
    ∙ ap (λ g. map (answer len) (reads_of before) ++ g ∷ []) (sym adds.4)

place_snoc : (at : ℕ) (reads : List Got) (got : Got) → place_after at (reads ++ got ∷ []) ≡ next got
place_snoc at [] got = refl
place_snoc at (one ∷ reads) got = place_snoc (next one) reads got

place_append : (at : ℕ) (reads more : List Got) → place_after at (reads ++ more) ≡ place_after (place_after at reads) more
place_append at [] more = refl
place_append at (one ∷ reads) more = place_append (next one) reads more

counted_snoc : (reads : List Got) (got : Got) (health : Health)
    → after_answers (reads ++ got ∷ []) health ≡ after_answer (after_answers reads health) got
counted_snoc [] got health = refl
counted_snoc (one ∷ reads) got health = counted_snoc reads got (after_answer health one)

on_reads : (to at : ℕ) (got : Got) (more : List Got) → at < to → true ≡ reads_on got → ReadsTo to (next got) more
    → ReadsTo to at (got ∷ more)
on_reads to at (Item from x) more lt on h = (lt, h)
on_reads to at (Gap from end) more lt on h = (lt, h)
on_reads to at (Empty from) more lt on h = absurd (false≢true (sym on))
on_reads to at (End total) more lt on h = absurd (false≢true (sym on))

off_reads : (to at : ℕ) (got : Got) → at < to → false ≡ reads_on got → ReadsTo to at (got ∷ [])
off_reads to at (Item from x) lt off = absurd (false≢true off)
off_reads to at (Gap from end) lt off = absurd (false≢true off)
off_reads to at (Empty from) lt off = (lt, refl)
off_reads to at (End total) lt off = (lt, refl)

goes_past : (at : ℕ) (got : Got) → GoesForward at got → true ≡ reads_on got → at + 1 ≤ next got
goes_past at (Item from x) forward on = let e = forward.0 in omega (arith, e)
goes_past at (Gap from end) forward on = let e = forward.0 in let lt = forward.1 in omega (arith, e, lt)
goes_past at (Empty from) forward on = absurd (false≢true (sym on))
goes_past at (End total) forward on = absurd (false≢true (sym on))

-- with neither a sample nor a gap nothing is counted
pub stays_so : (health : Health) (got : Got)
    → ((at : ℕ) × (got ≡ Empty at)) ⊎ ((total : ℕ) × (got ≡ End total))
    → (false ≡ reads_on got) × (health ≡ after_answer health got)
stays_so health got (inl is) = (sym (ap reads_on is.1), sym (ap (after_answer health) is.1))
stays_so health got (inr is) = (sym (ap reads_on is.1), sym (ap (after_answer health) is.1))

-- ---- the answers so far

-- what was read on the way to a position
pub record ReadsSoFar (len to count : ℕ) (first now : Meter) : Type 0 where
  pub ring : reader_ring now.reader ≡ reader_ring first.reader
  pub reached : count ≤ position_of now.reader
  pub reads : List Got
  pub answers : answers_of len now.reader ≡ answers_of len first.reader ++ reads
  pub place : position_of now.reader ≡ place_after (position_of first.reader) reads
  pub health : now.health ≡ after_answers reads first.health
  pub out : now.out ≡ first.out
  pub rest : (more : List Got) → ReadsTo to (position_of now.reader) more
      → ReadsTo to (position_of first.reader) (reads ++ more)

-- what was read
abbrev pub HasReadTo : ℕ → ℕ → Meter → Meter → Type 0
HasReadTo len to first last =
    (reads : List Got) × ReadsTo to (position_of first.reader) reads
    × (answers_of len last.reader ≡ answers_of len first.reader ++ reads)
    × (position_of last.reader ≡ place_after (position_of first.reader) reads)
    × (last.health ≡ after_answers reads first.health)

pub reads_none : (len to count : ℕ) (meter : Meter) → count ≤ position_of meter.reader
    → ReadsSoFar len to count meter meter
reads_none len to count meter reached = record {
  ring = refl;
  reached = reached;
  reads = [];
  answers = sym (append-nil (answers_of len meter.reader));
  place = refl;
  health = refl;
  out = refl;
  rest = λ more h. h;
}

pub reads_next : (len to count : ℕ) (first before after : Meter) (on : Bool) → ReadsSoFar len to count first before
    → position_of before.reader < to → reader_ring after.reader ≡ reader_ring before.reader
    → ReadsOnce len on before after → on ≡ true → ReadsSoFar len to (count + 1) first after
reads_next len to count first before after on h lt ring once e =
    let goes : true ≡ reads_on once.got = sym e ∙ once.goes_on in
    let past = goes_past (position_of before.reader) once.got once.forward goes in
    let reached = h.reached in
    let place = once.place in
    record {
      ring = ring ∙ h.ring;
      reached = omega (arith, past, reached, place);
      reads = h.reads ++ once.got ∷ [];
      answers = once.answers ∙ ap (λ xs. xs ++ once.got ∷ []) h.answers
          ∙ append_assoc (answers_of len first.reader) h.reads (once.got ∷ []);
      place = once.place ∙ sym (place_snoc (position_of first.reader) h.reads once.got);
      health = once.health ∙ ap (λ (health : Health). after_answer health once.got) h.health
          ∙ sym (counted_snoc h.reads once.got first.health);
      out = once.out ∙ h.out;
      rest = λ more m. subst (ReadsTo to (position_of first.reader)) (sym (append_assoc h.reads (once.got ∷ []) more))
          (h.rest (once.got ∷ more) (on_reads to (position_of before.reader) once.got more lt goes
          (subst (λ at. ReadsTo to at more) once.place m)));
    }

-- it is there
pub reads_there : (len to count : ℕ) (first last : Meter) → ReadsSoFar len to count first last
    → to ≤ position_of last.reader → HasReadTo len to first last
reads_there len to count first last h there = (
  h.reads,
  subst (ReadsTo to (position_of first.reader)) (append-nil h.reads) (h.rest [] there),
  h.answers,
  h.place,
  h.health,
)

-- or there is nothing more yet
pub reads_over : (len to count : ℕ) (first before after : Meter) (on : Bool) → ReadsSoFar len to count first before
    → position_of before.reader < to → ReadsOnce len on before after → on ≡ false → HasReadTo len to first after
reads_over len to count first before after on h lt once e = (
  h.reads ++ once.got ∷ [],
  h.rest (once.got ∷ []) (off_reads to (position_of before.reader) once.got lt (sym e ∙ once.goes_on)),
  once.answers ∙ ap (λ xs. xs ++ once.got ∷ []) h.answers
      ∙ append_assoc (answers_of len first.reader) h.reads (once.got ∷ []),
  once.place ∙ sym (place_snoc (position_of first.reader) h.reads once.got),
  once.health ∙ ap (λ (health : Health). after_answer health once.got) h.health
      ∙ sym (counted_snoc h.reads once.got first.health),
)

-- ---- a tick

-- what was read of a tick, and the meter after it
pub record HasReadTick (len : ℕ) (live : Live) (was read : Health) (after : Meter) : Type 0 where
  pub reads : List Got
  pub reading : ReadsTo (96 * (live.ticks + 1)) (place_after 0 live.sound) reads
  pub sound : answers_of len after.reader ≡ live.sound ++ reads
  pub place : position_of after.reader ≡ place_after 0 (live.sound ++ reads)
  pub counted : read ≡ after_answers reads was

pub tick_read : (len tick : ℕ) (rate : Rate) (before read after : Meter) (live : Live) → Measures len rate before live
    → tick ≡ live.ticks → after.reader ≡ read.reader → HasReadTo len (96 * (tick + 1)) before read
    → HasReadTick len live before.health read.health after
tick_read len tick rate before read after live m at same h = record {
  reads = h.0;
  reading = subst (λ n. ReadsTo (96 * (n + 1)) (place_after 0 live.sound) h.0) at
      (subst (λ p. ReadsTo (96 * (tick + 1)) p h.0) m.place h.1);
  sound = ap (answers_of len) same ∙ h.2 ∙ ap (λ xs. xs ++ h.0) m.sound;
  place = ap position_of same ∙ h.3 ∙ ap (λ p. place_after p h.0) m.place ∙ sym (place_append 0 live.sound h.0);
  counted = h.4;
}

-- what is told, and what is counted from then on
pub tick_told : (words : ServeWords) (busy sent : Bool) (reads : List Got) (air : AirTick) (tick : ℕ)
    (was read after : Health) (live : Live) (hosts : Hosts) (notes : HealthNotes)
    → was ≡ live.health → read ≡ after_answers reads was → tick ≡ live.ticks → sent ≡ is_some air.sent
    → (notes ≡ notes_of words.stats (tick + 1) was.alike (standing_of hosts) (after_tick busy sent read))
    × (after ≡ after_notes words.stats (tick + 1) (standing_of hosts) (after_tick busy sent read))
    → (notes ≡ notes_in_tick words busy reads air live hosts)
    × (after ≡ health_after_tick words busy reads air live hosts)
tick_told words busy sent reads air tick was read after live hosts notes is so at ends h =
    let same : after_tick busy sent read ≡ after_tick busy (is_some air.sent) (after_answers reads live.health) =
    ap (λ (b : Bool). after_tick busy b read) ends
    ∙ ap (after_tick busy (is_some air.sent)) (so ∙ ap (after_answers reads) is) in (
      h.0 ∙ ap (λ (x : Health). notes_of words.stats (tick + 1) was.alike (standing_of hosts) x) same
          ∙ ap (λ (x : Health). notes_of words.stats (tick + 1) x.alike (standing_of hosts)
          (after_tick busy (is_some air.sent) (after_answers reads live.health))) is
          ∙ ap (λ n. notes_of words.stats (n + 1) live.health.alike (standing_of hosts)
          (after_tick busy (is_some air.sent) (after_answers reads live.health))) at,
      h.1 ∙ ap (λ (x : Health). after_notes words.stats (tick + 1) (standing_of hosts) x) same
          ∙ ap (λ n. after_notes words.stats (n + 1) (standing_of hosts)
          (after_tick busy (is_some air.sent) (after_answers reads live.health))) at,
    )
