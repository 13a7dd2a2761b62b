-- The law of what a live station hears that listens for Bell 202 and reads its input without a gap.
use Rattle.std.specs.Prelude.{◌≡◌, ◌≢◌, ℕ, Bool, List, [], ◌++◌, take}
use Rattle.sample_ring.specs.declared.got.Got.{Got}
use Rattle.slicer_bank.specs.RingTurns.{gaps_from}
use Rattle.ring_receiver.specs.Readers.{readers_wanted}
use Rattle.live_receiver.specs.declared.listening.Listening.TheVariants.{Bell202}
use Rattle.clean_signal.specs.GoodTransmission.{frames_of}
use Rattle.clean_signal.specs.NearSignal.{Received, transmissions_of}
use Rattle.frame_merge.specs.Merged.{candidate_frames}
use Rattle.tnc_base.specs.Streams.{SourceTold}
use Rattle.tnc_ports.specs.declared.serve_words.ServeWords.{ServeWords}
use Rattle.tnc_ports.specs.declared.serving.ServeEnd.{ServeEnd}
use Rattle.tnc_ports.specs.declared.serving.ServeEnd.TheVariants.{Memory}
use Rattle.tnc_ports.specs.SampledRun.{Outside}
use Rattle.tnc_ports.specs.ServeRun.{HasServed}
use Rattle.hearing_laws.specs.HeardInRun.{items_looped}
use Rattle.hearing_laws.specs.ClearSamples.{AreClear}

-- The readers of a run are those of the lanes, eight or with the added lanes nine, and then that of the sound.
abbrev pub lanes_among : Bool → List (List Got) → List (List Got)
lanes_among sensitive answers = take (readers_wanted sensitive) answers

-- no lane was answered a gap
abbrev pub HaveNoGap : Bool → List (List Got) → Type 0
HaveNoGap sensitive answers = gaps_from 0 (lanes_among sensitive answers) ≡ []

-- the frames that a station hears in a run, in order
abbrev pub frames_heard : (words : ServeWords) (end : ServeEnd) (input left : SourceTold) (before after : Outside)
    → HasServed words end input left before after → List (List ℕ)
frames_heard words end input left before after run =
    candidate_frames (items_looped words run.loop run.lanes run.open_ports after run.looped)

-- In a run whose lanes meet no gap, and that memory does not cut short, the station hears exactly the frames of a signal
-- near the published samples: each once, whole and in order.
abbrev pub HearsWhatWasSent : Type 0
HearsWhatWasSent = (words : ServeWords) (sensitive : Bool) (end : ServeEnd) (input left : SourceTold)
    (before after : Outside) (run : HasServed words end input left before after) (received : List Received)
    → words.listening ≡ Bell202 sensitive → end ≢ Memory → HaveNoGap sensitive run.lanes
    → AreClear sensitive run.published received
    → frames_heard words end input left before after run ≡ frames_of (transmissions_of received)

-- However such a run ends, the station hears the first of them.
abbrev pub HearsNothingElse : Type 0
HearsNothingElse = (words : ServeWords) (sensitive : Bool) (end : ServeEnd) (input left : SourceTold)
    (before after : Outside) (run : HasServed words end input left before after) (received : List Received)
    → words.listening ≡ Bell202 sensitive → HaveNoGap sensitive run.lanes
    → AreClear sensitive run.published received
    → (rest : List (List ℕ))
    × (frames_of (transmissions_of received) ≡ frames_heard words end input left before after run ++ rest)
