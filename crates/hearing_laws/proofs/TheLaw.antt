-- The law: what is merged of samples near a signal has the frames of that signal.
use Rattle.std.proofs.Common.{◌≡◌, ◌≢◌, ℕ, ◌<◌, List, [], ◌∷◌, ◌++◌, length, map, refl, ap, sym, subst, ◌∙◌, arith}
use Rattle.std.specs.Prelude.{ℤ, Bool, true, false}
use Rattle.std.proofs.lemmas.List.{append-nil, map-append}
use Rattle.frame_merge.specs.declared.candidate.Candidate.{Candidate}
use Rattle.frame_merge.specs.Merged.{candidate_frames, merged}
use Rattle.sample_ring.specs.declared.got.Got.{Got}
use Rattle.slicer_bank.proofs.SomeList.{some_list}
use Rattle.clean_signal.specs.GoodTransmission.{frames_of}
use Rattle.clean_signal.specs.NearSignal.{Received, transmissions_of}
use Rattle.clean_signal.proofs.Law.{near_law}
use Rattle.sensitive_receiver.proofs.SignalLaw.{near_law as sensitive_near_law}
use Rattle.sensitive_receiver.proofs.SomeList.{some_list as some_list_of_all}
use Rattle.tnc_ports.specs.declared.looping.LoopEnd.{LoopEnd}
use Rattle.tnc_ports.specs.declared.looping.LoopEnd.TheVariants.{Done as LoopDone, Memory as LoopMemory}
use Rattle.tnc_ports.specs.declared.looping.LoopEnd.TheVariants.{WriteFault as LoopFault}
use Rattle.live_receiver.specs.declared.listening.Listening.TheVariants.{Bell202}
use Rattle.tnc_ports.specs.declared.serve_words.ServeWords.{ServeWords}
use Rattle.tnc_ports.specs.Sampled.{Live}
use Rattle.tnc_ports.specs.SampledRun.{IsCutRun, IsLooped, IsRun, IsWhole, Outside}
use Rattle.tnc_ports.specs.ServeRun.{LanesStandIn, end_of}
use Rattle.hearing_laws.specs.ClearSamples.{AreClear}
use Rattle.hearing_laws.specs.HeardInRun.{items_looped, items_of_cut_run, items_of_run}
use Rattle.hearing_laws.specs.HearingLaw.{HaveNoGap, HearsNothingElse, HearsWhatWasSent}
use Rattle.hearing_laws.proofs.LaneLemmas.{IsHeardIf, lane_small}
use Rattle.hearing_laws.proofs.MergedParts.{AreAllOf}
use Rattle.hearing_laws.proofs.ReadersRead.{lanes_end, lanes_read}
use Rattle.hearing_laws.proofs.RunLemmas.{cut_run_hears, run_hears}

-- ---- all that is heard of samples

every_one : (sensitive : Bool) (x : List ℤ) → (all : List Candidate) × AreAllOf (IsHeardIf sensitive x) all
every_one false x =
    let some = some_list x in (
      some.0,
      record {
        each = λ k d l. (some.1.each k d l).0;
        whole = λ item h. let end = h.ends.end_of in some.1.whole item h (omega arith);
        order = some.1.order;
        small = λ item h. lane_small false x item h;
      },
    )
every_one true x =
    let some = some_list_of_all x in (
      some.0,
      record {
        each = some.1.each;
        whole = some.1.whole;
        order = some.1.order;
        small = λ item h. lane_small true x item h;
      },
    )

merged_frames : (sensitive : Bool) (x : List ℤ) (all : List Candidate) (received : List Received)
    → AreAllOf (IsHeardIf sensitive x) all → AreClear sensitive x received
    → candidate_frames (merged all) ≡ frames_of (transmissions_of received)
merged_frames false x all received every clear =
    near_law received x clear.each clear.near clear.no_stray all (record {
      each = λ k d l.
          let h = every.each k d l in
          let end = h.ends.end_of in
          (h, omega arith);
      whole = λ item h late. every.whole item h;
      order = every.order;
    })
merged_frames true x all received every clear =
    sensitive_near_law received x clear.each clear.near clear.no_stray all
    (record { each = every.each; whole = every.whole; order = every.order })

-- ---- each run

module _ (words : ServeWords) (sensitive : Bool) (tones : words.listening ≡ Bell202 sensitive)
    (published : List ℤ) (answers : List (List Got)) (received : List Received)
    (stand : LanesStandIn published answers) (no_gap : HaveNoGap sensitive answers)
    (clear : AreClear sensitive published received) where
  run_frames : (live : Live) (run : IsRun words live) (sound : List Got) → live.lanes ++ sound ∷ [] ≡ answers
      → candidate_frames (items_of_run words live run) ≡ frames_of (transmissions_of received)
  run_frames live run sound is =
      let all = every_one sensitive published in
      ap candidate_frames (run_hears words sensitive tones published all.0 all.1 live
      (lanes_read published answers live.lanes sound is stand sensitive no_gap)
      (lanes_end published answers live.lanes sound is stand sensitive no_gap) run)
      ∙ merged_frames sensitive published all.0 received all.1 clear

  cut_frames : (live : Live) (run : IsCutRun words live) (sound : List Got) → live.lanes ++ sound ∷ [] ≡ answers
      → (rest : List (List ℕ))
      × (frames_of (transmissions_of received) ≡ candidate_frames (items_of_cut_run words live run) ++ rest)
  cut_frames live run sound is =
      let all = every_one sensitive published in
      let heard = cut_run_hears words sensitive tones published all.0 all.1 live
      (lanes_read published answers live.lanes sound is stand sensitive no_gap)
      (lanes_end published answers live.lanes sound is stand sensitive no_gap) run in (
        candidate_frames heard.0,
        sym (merged_frames sensitive published all.0 received all.1 clear)
            ∙ ap candidate_frames heard.1
            ∙ map-append (λ (item : Candidate). item.octets) (items_of_cut_run words live run) heard.0,
      )

  whole_frames : (live : Live) (before after : Outside) (whole : IsWhole words answers live before after)
      → candidate_frames (items_of_run words live whole.run) ≡ frames_of (transmissions_of received)
  whole_frames live before after whole = run_frames live whole.run live.sound whole.answered

-- ---- the law

pub hears_what_was_sent : HearsWhatWasSent
hears_what_was_sent words sensitive end input left before after run received tones whole no_gap clear =
    by_end run.loop run.looped run.ends
  where
    by_end : (loop : LoopEnd) (looped : IsLooped words loop run.lanes run.open_ports after) → end ≡ end_of loop run.pump
        → candidate_frames (items_looped words loop run.lanes run.open_ports after looped)
        ≡ frames_of (transmissions_of received)
    by_end LoopDone looped ends =
        whole_frames words sensitive tones run.published run.lanes received run.stand no_gap clear looped.0 run.open_ports
        after looped.1
    by_end LoopFault looped ends =
        whole_frames words sensitive tones run.published run.lanes received run.stand no_gap clear looped.0 run.open_ports
        after looped.1
    by_end LoopMemory looped ends = absurd (whole ends)

pub hears_nothing_else : HearsNothingElse
hears_nothing_else words sensitive end input left before after run received tones no_gap clear =
    by_end run.loop run.looped
  where
    all_of_them : (frames heard : List (List ℕ)) → heard ≡ frames → (rest : List (List ℕ)) × (frames ≡ heard ++ rest)
    all_of_them frames heard same = ([], sym same ∙ sym (append-nil heard))

    by_end : (loop : LoopEnd) (looped : IsLooped words loop run.lanes run.open_ports after)
        → (rest : List (List ℕ))
        × (frames_of (transmissions_of received)
        ≡ candidate_frames (items_looped words loop run.lanes run.open_ports after looped) ++ rest)
    by_end LoopDone looped = all_of_them (frames_of (transmissions_of received))
        (candidate_frames (items_looped words LoopDone run.lanes run.open_ports after looped))
        (whole_frames words sensitive tones run.published run.lanes received run.stand no_gap clear looped.0
        run.open_ports after looped.1)
    by_end LoopFault looped = all_of_them (frames_of (transmissions_of received))
        (candidate_frames (items_looped words LoopFault run.lanes run.open_ports after looped))
        (whole_frames words sensitive tones run.published run.lanes received run.stand no_gap clear looped.0
        run.open_ports after looped.1)
    by_end LoopMemory looped =
        cut_frames words sensitive tones run.published run.lanes received run.stand no_gap clear looped.0 looped.1.run
        (looped.0.sound ++ looped.1.more) looped.1.answered
