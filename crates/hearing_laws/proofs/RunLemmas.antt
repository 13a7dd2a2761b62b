-- A run whose lanes meet no gap hears all that is merged of the published samples, or the first of it if the run is
-- cut short.
use Rattle.std.proofs.Common.{◌≡◌, ℕ, ◌<◌, ◌≤◌, List, [], ◌++◌, length, get_or, refl, ap, sym, subst, ◌∙◌, arith}
use Rattle.std.proofs.Common.{append_assoc, inl, inr}
use Rattle.std.specs.Prelude.{ℤ, Bool, true, false, replicate}
use Rattle.std.specs.List.Sorted.{IsNonDecreasingBy}
use Rattle.std.proofs.lemmas.List.{append-nil, append_cancel_left}
use Rattle.frame_merge.specs.declared.candidate.Candidate.{Candidate}
use Rattle.frame_merge.specs.Merged.{below, between, merged, not_below}
use Rattle.frame_merge.proofs.Forgetting.{below_then_rest}
use Rattle.frame_merge.proofs.Merging.{below_between, between_all}
use Rattle.sample_ring.specs.declared.got.Got.{Got}
use Rattle.slicer_bank.specs.HeardOnRing.{lane_of}
use Rattle.slicer_bank.specs.Stretches.{position_after}
use Rattle.ring_receiver.specs.HeardByAll.{AreHeardBy, settled_position}
use Rattle.ring_receiver.specs.Readers.{readers_wanted}
use Rattle.live_receiver.specs.declared.listening.Listening.TheVariants.{Bell202}
use Rattle.live_receiver.specs.Listening.{readers_wanted as readers_by}
use Rattle.tnc_ports.specs.declared.serve_words.ServeWords.{ServeWords}
use Rattle.tnc_ports.specs.Sampled.{HaveEnded, Live, new_live}
use Rattle.tnc_ports.specs.SampledRun.{AreTurns, IsCutInHearing, IsCutInReading, IsCutRun, IsCutTurn, IsRun}
use Rattle.hearing_laws.specs.HeardInRun.{items_of_cut, items_of_cut_run, items_of_making, items_of_run, items_of_turn}
use Rattle.hearing_laws.specs.HeardInRun.{items_of_turns}
use Rattle.hearing_laws.proofs.LaneLemmas.{HaveRead, IsHeardIf, all_within, heard, hears, lane_small}
use Rattle.hearing_laws.proofs.MergedParts.{AreAllOf, one_list, rising_merged}
use Rattle.hearing_laws.proofs.NoGap.{has_read_first}
use Rattle.hearing_laws.proofs.Settling.{settled_at_first}
use Rattle.hearing_laws.proofs.TurnLemmas.{GoesOn, due_between, making_goes_on, read_before, reading_goes_on}
use Rattle.hearing_laws.proofs.TurnLemmas.{rises_in_turn, ticking_goes_on, turn_goes_on, turns_hear}

-- lanes that have read all samples hear all that is heard of them
all_of_samples : (sensitive : Bool) (x : List ℤ) (lanes : List (List Got)) (items : List Candidate)
    → HaveRead sensitive x lanes
    → ((lane : ℕ) → lane < readers_wanted sensitive → position_after (lane_of lanes lane) ≡ length x)
    → AreHeardBy sensitive lanes items → AreAllOf (IsHeardIf sensitive x) items
all_of_samples sensitive x lanes items read ended are = record {
  each = λ k d l. hears sensitive x lanes (get_or items k d) read (are.each k d l);
  whole = λ item h. are.whole item (heard sensitive x lanes item read (all_within sensitive x lanes item ended) h);
  order = are.order;
  small = λ item h. lane_small sensitive x item h;
}

-- what is left from one position on is what ends below another, and what is left from that on
left_in_two : (from to : ℕ) (items : List Candidate) → from ≤ to → IsNonDecreasingBy (λ item. item.end) items
    → not_below from items ≡ between from to items ++ not_below to items
left_in_two from to items le rises =
    append_cancel_left (below from items) (not_below from items) (between from to items ++ not_below to items)
    (below_then_rest from items rises ∙ sym (below_then_rest to items rises)
    ∙ ap (λ early. early ++ not_below to items) (sym (below_between from to items le rises))
    ∙ append_assoc (below from items) (between from to items) (not_below to items))

module _ (words : ServeWords) (sensitive : Bool) (tones : words.listening ≡ Bell202 sensitive)
    (x : List ℤ) (all : List Candidate) (every : AreAllOf (IsHeardIf sensitive x) all)
    (live : Live) (read : HaveRead sensitive x live.lanes)
    (read_all : HaveEnded live.lanes → (lane : ℕ) → lane < readers_wanted sensitive → lane < length live.lanes
    → position_after (lane_of live.lanes lane) ≡ length x) where
  all_rises : IsNonDecreasingBy (λ item. item.end) (merged all)
  all_rises = rising_merged (IsHeardIf sensitive x) all every

  -- ---- the turns before the last

  first_turns : (count : ℕ) (last : Live) (turns : AreTurns words count (new_live words) last)
      → HaveRead sensitive x last.lanes
      → items_of_turns words count (new_live words) last turns
      ≡ below (settled_position sensitive last.lanes) (merged all)
  first_turns count last turns read_last =
      let first : settled_position sensitive (new_live words).lanes ≡ 0 =
      ap (λ listening. settled_position sensitive (replicate (readers_by listening) [])) tones
      ∙ settled_at_first sensitive in
      (turns_hear words sensitive tones x all every count (new_live words) last turns read_last).is
      ∙ between_all (settled_position sensitive (new_live words).lanes)
      (settled_position sensitive last.lanes) (merged all) (λ k d l. omega arith)

  -- ---- the last turn

  -- in a turn in which every reader meets the end, all that is left is due
  due_last : (before : List (List Got)) (items : List Candidate) → GoesOn sensitive true before live.lanes items
      → items ≡ not_below (settled_position sensitive before) (merged all)
  due_last before items on =
      let ended : (lane : ℕ) → lane < readers_wanted sensitive
      → position_after (lane_of live.lanes lane) ≡ length x =
      λ lane wanted. read_all (on.meets_end refl) lane wanted (subst (λ n. lane < n) (sym on.count_now) wanted) in
      on.due.is ∙ ap (λ items. not_below (settled_position sensitive before) (merged items))
      (one_list (IsHeardIf sensitive x) on.due.candidates all
      (all_of_samples sensitive x live.lanes on.due.candidates read ended on.due.are) every)

  -- the items begin what is left
  abbrev Begin : List (List Got) → List Candidate → Type 0
  Begin before items =
      (rest : List Candidate) × (not_below (settled_position sensitive before) (merged all) ≡ items ++ rest)

  due_next : (ended : Bool) (before : List (List Got)) (items : List Candidate)
      → GoesOn sensitive ended before live.lanes items → Begin before items
  due_next true before items on = ([], sym (due_last before items on) ∙ sym (append-nil items))
  due_next false before items on = (
    not_below (settled_position sensitive live.lanes) (merged all),
    left_in_two (settled_position sensitive before) (settled_position sensitive live.lanes) (merged all)
        (rises_in_turn sensitive false x before live.lanes items on read) all_rises
        ∙ ap (λ due. due ++ not_below (settled_position sensitive live.lanes) (merged all))
        (sym (due_between words sensitive tones x all every before live.lanes items on read)),
  )

  -- ---- a whole run

  pub run_hears : (run : IsRun words live) → items_of_run words live run ≡ merged all
  run_hears run =
      let over = turn_goes_on words sensitive tones true run.last live run.over in
      let items : List Candidate = items_of_turn words true run.last live run.over in
      let position : ℕ = settled_position sensitive run.last.lanes in
      ap (λ early. early ++ items_of_turn words true run.last live run.over)
      (first_turns run.count run.last run.turns
      (read_before sensitive true x run.last.lanes live.lanes items over read))
      ∙ ap (λ late. below (settled_position sensitive run.last.lanes) (merged all) ++ late)
      (due_last run.last.lanes items over)
      ∙ below_then_rest (settled_position sensitive run.last.lanes) (merged all) all_rises

  -- ---- a run that is cut short

  -- the readers had read the first samples before, and the items begin what was left
  record CutHears (before : Live) (items : List Candidate) : Type 0 where
    read_first : HaveRead sensitive x before.lanes
    begins : Begin before.lanes items

  cut_making : (ended : Bool) (before : Live) (items : List Candidate) → GoesOn sensitive ended before.lanes live.lanes items
      → CutHears before items
  cut_making ended before items on = record {
    read_first = read_before sensitive ended x before.lanes live.lanes items on read;
    begins = due_next ended before.lanes items on;
  }

  cut_in_reading : (before : Live) → IsCutInReading words before live → CutHears before []
  cut_in_reading before cut =
      let same : live.lanes ≡ cut.lanes = ap (λ (l : Live). l.lanes) cut.is in
      record {
        read_first = λ lane wanted.
            let more = cut.more lane (subst (λ listening. lane < readers_by listening) (sym tones) wanted) in
            has_read_first x (lane_of before.lanes lane) more.0 (lane_of live.lanes lane)
            (ap (λ lanes. lane_of lanes lane) same ∙ more.1) (read lane wanted);
        begins = (not_below (settled_position sensitive before.lanes) (merged all), refl);
      }

  cut_in_hearing : (before : Live) (cut : IsCutInHearing words before live) → CutHears before cut.items
  cut_in_hearing before cut =
      let on : GoesOn sensitive cut.ended before.lanes live.lanes (cut.items ++ cut.others) =
      subst (λ lanes. GoesOn sensitive cut.ended before.lanes lanes (cut.items ++ cut.others))
      (sym (ap (λ (l : Live). l.lanes) cut.is))
      (reading_goes_on words sensitive tones cut.ended before cut.read (cut.items ++ cut.others) cut.reads cut.due) in
      let both = cut_making cut.ended before (cut.items ++ cut.others) on in
      record {
        read_first = both.read_first;
        begins = (
          cut.others ++ both.begins.0,
          both.begins.1 ∙ append_assoc cut.items cut.others both.begins.0,
        );
      }

  cut_hears : (before : Live) (cut : IsCutTurn words before live) → CutHears before (items_of_cut words before live cut)
  cut_hears before (inl reading) = cut_in_reading before reading
  cut_hears before (inr (inl hearing)) = cut_in_hearing before hearing
  cut_hears before (inr (inr (inl ticking))) =
      cut_making ticking.ended before ticking.hears.items
      (ticking_goes_on words sensitive tones ticking.ended before ticking.heard ticking.keyed live ticking.count ticking.hears
      ticking.keys ticking.makes)
  cut_hears before (inr (inr (inr making))) =
      cut_making making.0 before (items_of_making words making.0 before live making.1)
      (making_goes_on words sensitive tones making.0 before live making.1)

  pub cut_run_hears : (run : IsCutRun words live)
      → (rest : List Candidate) × (merged all ≡ items_of_cut_run words live run ++ rest)
  cut_run_hears run =
      let cut = cut_hears run.last run.cut in
      let early : List Candidate = items_of_turns words run.count (new_live words) run.last run.turns in
      let late : List Candidate = items_of_cut words run.last live run.cut in (
        cut.begins.0,
        sym (below_then_rest (settled_position sensitive run.last.lanes) (merged all) all_rises)
            ∙ ap (λ xs. xs ++ not_below (settled_position sensitive run.last.lanes) (merged all))
            (sym (first_turns run.count run.last run.turns cut.read_first))
            ∙ ap (λ xs. early ++ xs) cut.begins.1
            ∙ sym (append_assoc early late cut.begins.0),
      )
