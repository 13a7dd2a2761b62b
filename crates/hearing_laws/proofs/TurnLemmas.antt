-- Each turn of a run whose readers meet no gap hears the next part of what is merged of all samples.
use Rattle.std.proofs.Common.{◌≡◌, ℕ, zero, suc, ◌<◌, ◌≤◌, List, [], ◌++◌, length, refl, ap, sym, subst, ◌∙◌, arith}
use Rattle.std.proofs.Common.{le_refl}
use Rattle.std.specs.List.Sorted.{IsNonDecreasingBy}
use Rattle.std.proofs.lemmas.List.{append-nil, append_cancel_left, get_or_default}
use Rattle.std.proofs.lemmas.List.Elements.{Contains-append_right}
use Rattle.std.specs.Prelude.{ℤ, Bool, true, false, All}
use Rattle.frame_merge.specs.declared.candidate.Candidate.{Candidate}
use Rattle.frame_merge.specs.Merged.{below, between, merged}
use Rattle.frame_merge.proofs.Merging.{below_between}
use Rattle.sample_ring.specs.declared.got.Got.{Got}
use Rattle.sample_ring.specs.declared.got.Got.TheVariants.{End}
use Rattle.slicer_bank.specs.HeardOnRing.{lane_of}
use Rattle.slicer_bank.specs.RingTurns.{MeetsEnd}
use Rattle.slicer_bank.specs.Stretches.{position_after}
use Rattle.slicer_bank.proofs.MergedLemmas.{between_between}
use Rattle.ring_receiver.specs.HeardByAll.{AreDueBy, AreHeardBy, IsHeardBy, settled_position}
use Rattle.ring_receiver.specs.Readers.{readers_wanted}
use Rattle.ring_receiver.specs.Turns.{AreAnsweredMore}
use Rattle.live_receiver.specs.declared.listening.Listening.TheVariants.{Bell202}
use Rattle.live_receiver.specs.Listening.{AreDueBy as AreDueByListening, readers_wanted as readers_by}
use Rattle.tnc_ports.specs.declared.serve_words.ServeWords.{ServeWords}
use Rattle.tnc_ports.specs.Sampled.{AreTicked, HaveEnded, HearsAll, IsKeyTurn, IsTurn, LanesReadOn, Live, MakesAll, MakesTicks}
use Rattle.tnc_ports.specs.SampledRun.{AreTurns}
use Rattle.hearing_laws.specs.HeardInRun.{items_of_making, items_of_turn, items_of_turns}
use Rattle.hearing_laws.proofs.NoGap.{HasRead, has_read_first, positions_rise}
use Rattle.hearing_laws.proofs.LaneLemmas.{HaveRead, IsHeardIf, hears, heard, lane_small}
use Rattle.hearing_laws.proofs.Settling.{settled_rises, settled_within}
use Rattle.hearing_laws.proofs.MergedParts.{AreAllOf, between_same, rising_merged}

-- ---- the answers of a turn

-- so many readers go on from some answers to more, and these items are due
pub record GoesOn (sensitive : Bool) (ended : Bool) (before now : List (List Got)) (items : List Candidate)
    : Type 0 where
  pub reads : List (List Got)
  pub count_before : length before ≡ readers_wanted sensitive
  pub count_now : length now ≡ readers_wanted sensitive
  pub each : (lane : ℕ) → lane < readers_wanted sensitive
      → lane_of now lane ≡ lane_of before lane ++ lane_of reads lane
  pub meets_end : ended ≡ true → HaveEnded now
  pub due : AreDueBy sensitive ended before now items

-- a reader that met the end in a turn has met it
all_end : (count : ℕ) (before reads now : List (List Got)) → AreAnsweredMore count before reads now → All MeetsEnd reads
    → HaveEnded now
all_end count before reads now h all = λ lane d within.
    let wanted : lane < count = subst (λ n. lane < n) h.count_now within in
    let met : MeetsEnd (lane_of reads lane) = all lane [] (subst (λ n. lane < n) (sym h.count_reads) wanted) in
    let joined : MeetsEnd (lane_of before lane ++ lane_of reads lane) =
    (met.0, Contains-append_right (lane_of before lane) (lane_of reads lane) (End met.0) met.1) in
    subst MeetsEnd (sym (get_or_default now lane d [] within ∙ h.each lane wanted)) joined

pub reading_goes_on : (words : ServeWords) (sensitive : Bool) → words.listening ≡ Bell202 sensitive
    → (ended : Bool) (before read : Live) (items : List Candidate)
    → LanesReadOn words ended before read → AreDueByListening words.listening ended before.lanes read.lanes items
    → GoesOn sensitive ended before.lanes read.lanes items
reading_goes_on words sensitive tones ended before read items reads due =
    let same : reads.lanes ≡ read.lanes = sym (ap (λ (live : Live). live.lanes) reads.is) in
    let longer = reads.turn.longer in
    let count : readers_by words.listening ≡ readers_wanted sensitive = ap readers_by tones in
    record {
      reads = reads.turn.reads;
      count_before = longer.count_before ∙ count;
      count_now = subst (λ lanes. length lanes ≡ readers_wanted sensitive) same (longer.count_now ∙ count);
      each = λ lane within. ap (λ lanes. lane_of lanes lane) (sym same)
          ∙ longer.each lane (subst (λ n. lane < n) (sym count) within);
      meets_end = λ is. subst HaveEnded same (all_end (readers_by words.listening) before.lanes reads.turn.reads
          reads.lanes longer (reads.turn.over.0 is));
      due = subst (λ listening. AreDueByListening listening ended before.lanes read.lanes items) tones due;
    }

pub hearing_goes_on : (words : ServeWords) (sensitive : Bool) → words.listening ≡ Bell202 sensitive
    → (ended : Bool) (before after : Live) (h : HearsAll words ended before after)
    → GoesOn sensitive ended before.lanes after.lanes h.items
hearing_goes_on words sensitive tones ended before after h =
    subst (λ lanes. GoesOn sensitive ended before.lanes lanes h.items) (sym (ap (λ (live : Live). live.lanes) h.is))
    (reading_goes_on words sensitive tones ended before h.read h.items h.reads h.due)

ticks_leave : (words : ServeWords) (busy : Bool) (count : ℕ) (before after : Live)
    → AreTicked words busy count before after → after.lanes ≡ before.lanes
ticks_leave words busy zero before after ticked = ap (λ (live : Live). live.lanes) ticked
ticks_leave words busy (suc count) before after ticked =
    ticks_leave words busy count ticked.0 after ticked.2 ∙ ap (λ (live : Live). live.lanes) ticked.1.is

-- ticks, hosts and the key leave the answers as they are
pub ticking_goes_on : (words : ServeWords) (sensitive : Bool) → words.listening ≡ Bell202 sensitive
    → (ended : Bool) (before heard keyed after : Live) (count : ℕ)
    (h : HearsAll words ended before heard) → IsKeyTurn words heard keyed → MakesTicks words count keyed after
    → GoesOn sensitive ended before.lanes after.lanes h.items
ticking_goes_on words sensitive tones ended before heard keyed after count h keys makes =
    subst (λ lanes. GoesOn sensitive ended before.lanes lanes h.items)
    (sym (ticks_leave words makes.busy count keyed after makes.made ∙ ap (λ (live : Live). live.lanes) keys.is))
    (hearing_goes_on words sensitive tones ended before heard h)

pub making_goes_on : (words : ServeWords) (sensitive : Bool) → words.listening ≡ Bell202 sensitive
    → (ended : Bool) (before after : Live) (h : MakesAll words ended before after)
    → GoesOn sensitive ended before.lanes after.lanes (items_of_making words ended before after h)
making_goes_on words sensitive tones ended before after h =
    ticking_goes_on words sensitive tones ended before h.heard h.keyed after h.count h.hears h.keys h.makes

pub turn_goes_on : (words : ServeWords) (sensitive : Bool) → words.listening ≡ Bell202 sensitive
    → (ended : Bool) (before after : Live) (turn : IsTurn words ended before after)
    → GoesOn sensitive ended before.lanes after.lanes (items_of_turn words ended before after turn)
turn_goes_on words sensitive tones ended before after turn =
    subst (λ lanes. GoesOn sensitive ended before.lanes lanes turn.makes.hears.items)
    (sym (ap (λ (live : Live). live.lanes) turn.serves.is))
    (making_goes_on words sensitive tones ended before turn.made turn.makes)

-- what the readers had read before
pub read_before : (sensitive ended : Bool) (x : List ℤ) (before now : List (List Got))
    (items : List Candidate) → GoesOn sensitive ended before now items → HaveRead sensitive x now
    → HaveRead sensitive x before
read_before sensitive ended x before now items on read lane within =
    has_read_first x (lane_of before lane) (lane_of on.reads lane) (lane_of now lane) (on.each lane within)
    (read lane within)

pub rises_in_turn : (sensitive ended : Bool) (x : List ℤ) (before now : List (List Got))
    (items : List Candidate) → GoesOn sensitive ended before now items → HaveRead sensitive x now
    → settled_position sensitive before ≤ settled_position sensitive now
rises_in_turn sensitive ended x before now items on read =
    settled_rises sensitive before now on.count_before on.count_now (λ lane within.
    positions_rise x (lane_of before lane) (lane_of on.reads lane) (lane_of now lane) (on.each lane within)
    (read lane within))

-- what the lanes hear, as a list of all of a kind
pub all_heard_by : (sensitive : Bool) (x : List ℤ) (lanes : List (List Got)) (items : List Candidate)
    → HaveRead sensitive x lanes → AreHeardBy sensitive lanes items → AreAllOf (IsHeardBy sensitive lanes) items
all_heard_by sensitive x lanes items read are = record {
  each = are.each;
  whole = are.whole;
  order = are.order;
  small = λ item h. lane_small sensitive x item (hears sensitive x lanes item read h);
}

-- ---- all turns

-- from one position to another the items are those of all that is merged
pub record HearsPart (sensitive : Bool) (x : List ℤ) (all : List Candidate) (before after : Live)
    (items : List Candidate) : Type 0 where
  pub read : HaveRead sensitive x before.lanes
  pub rises : settled_position sensitive before.lanes ≤ settled_position sensitive after.lanes
  pub is : items ≡ between (settled_position sensitive before.lanes)
      (settled_position sensitive after.lanes) (merged all)

-- from a position to itself there is nothing
nothing_between : (position : ℕ) (items : List Candidate) → IsNonDecreasingBy (λ item. item.end) items
    → [] ≡ between position position items
nothing_between position items rises =
    sym (append_cancel_left (below position items) (between position position items) []
    (below_between position position items (le_refl position) rises ∙ sym (append-nil (below position items))))

module _ (words : ServeWords) (sensitive : Bool) (tones : words.listening ≡ Bell202 sensitive)
    (x : List ℤ) (all : List Candidate) (every : AreAllOf (IsHeardIf sensitive x) all)
  where
    -- what is due of a turn in which the ring has not ended
    pub due_between : (before now : List (List Got)) (items : List Candidate) → GoesOn sensitive false before now items
        → HaveRead sensitive x now
        → items
        ≡ between (settled_position sensitive before) (settled_position sensitive now) (merged all)
    due_between before now items on read =
        on.due.is ∙ between_same (IsHeardIf sensitive x) (IsHeardBy sensitive now) on.due.candidates all
        (all_heard_by sensitive x now on.due.candidates read on.due.are) every
        (λ item h. hears sensitive x now item read h)
        (settled_position sensitive before) (settled_position sensitive now)
        (rises_in_turn sensitive false x before now items on read)
        (λ item h early. heard sensitive x now item read
        (settled_within sensitive x now item on.count_now early) h)

    turn_hears : (before after : Live) (turn : IsTurn words false before after) → HaveRead sensitive x after.lanes
        → HearsPart sensitive x all before after (items_of_turn words false before after turn)
    turn_hears before after turn read =
        let on = turn_goes_on words sensitive tones false before after turn in
        let items : List Candidate = items_of_turn words false before after turn in
        record {
          read = read_before sensitive false x before.lanes after.lanes items on read;
          rises = rises_in_turn sensitive false x before.lanes after.lanes items on read;
          is = due_between before.lanes after.lanes items on read;
        }

    pub turns_hear : (count : ℕ) (before after : Live) (turns : AreTurns words count before after)
        → HaveRead sensitive x after.lanes
        → HearsPart sensitive x all before after (items_of_turns words count before after turns)
    turns_hear zero before after turns read =
        let same : before.lanes ≡ after.lanes = ap (λ (live : Live). live.lanes) (sym turns) in
        record {
          read = subst (HaveRead sensitive x) (sym same) read;
          rises = subst (λ lanes. settled_position sensitive before.lanes
              ≤ settled_position sensitive lanes) same
              (le_refl (settled_position sensitive before.lanes));
          is = subst (λ lanes. [] ≡ between (settled_position sensitive before.lanes)
              (settled_position sensitive lanes) (merged all)) same
              (nothing_between (settled_position sensitive before.lanes) (merged all)
              (rising_merged (IsHeardIf sensitive x) all every));
        }
    turns_hear (suc count) before after turns read =
        let rest = turns_hear count turns.0 after turns.2 read in
        let first = turn_hears before turns.0 turns.1 rest.read in
        let up = first.rises in
        let more = rest.rises in
        record {
          read = first.read;
          rises = omega arith;
          is = ap (λ items. items ++ items_of_turns words count turns.0 after turns.2) first.is
              ∙ ap (λ items. between (settled_position sensitive before.lanes)
              (settled_position sensitive turns.0.lanes) (merged all) ++ items) rest.is
              ∙ between_between (settled_position sensitive before.lanes)
              (settled_position sensitive turns.0.lanes) (settled_position sensitive after.lanes)
              (merged all) first.rises rest.rises (rising_merged (IsHeardIf sensitive x) all every);
        }
