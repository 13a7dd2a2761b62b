-- The gap lines of the report are the gaps that the readers were told of.
use Rattle.tnc_ports.proofs.Common.{zero, suc, ◌==◌, Bool, false, List, ◌∷◌, sym, ◌∙◌, ap, subst, arith, get_or}
use Rattle.tnc_ports.proofs.Common.{cond-true, cond-false, eq-eqb, ne_eqb, flat_map-append, append-nil, map-append, Got}
use Rattle.tnc_ports.proofs.Common.{Item, Gap, Empty, End, LaneGap, lane_of, gaps_of, readers_wanted, HostEvent}
use Rattle.tnc_ports.proofs.Common.{ReportLine, ServeWords, ClosedLine, ReceivedLine, SentLine, Hosts, gaps_in}
use Rattle.tnc_ports.proofs.Common.{AreAllGaps, AreFirstGaps, Live, LanesReadOn, gap_line, ids_closed, closed_by}
use Rattle.std.specs.Prelude.{◌≡◌, ℕ, ◌+◌, ◌<◌, [], ◌++◌, length, map, refl}
use Rattle.slicer_bank.specs.RingTurns.{gaps_from}
use Rattle.keying.specs.declared.report.Report.{Report}
use Rattle.host_ports.specs.declared.health_note.HealthNote.{HealthNote}
use Rattle.tnc_ports.specs.HealthNotes.{health_line}
use Rattle.tnc_ports.specs.KeyTurns.{key_line}
use Rattle.tnc_ports.specs.ReportedGaps.{gap_by}
use Rattle.host_ports.proofs.KeptLemmas.{IsKeptByStep, IsKeptByPart}
use Rattle.tnc_ports.proofs.LiveKept.{IsKeptByFrames}

-- ---- what hosts do leaves the gaps

abbrev pub TellsGaps : (ℕ → List LaneGap) → Hosts → Type 0
TellsGaps gaps hosts = (lane : ℕ) → gaps_in lane hosts.report ≡ gaps lane

gaps_by_step : (gaps : ℕ → List LaneGap) → IsKeptByStep (TellsGaps gaps)
gaps_by_step gaps = record {
  stepped = λ hosts station h. h;
  left = λ id hosts h. h;
  shut = λ id hosts there h lane. flat_map-append (gap_by lane) hosts.report (ClosedLine id ∷ [])
      ∙ append-nil (gaps_in lane hosts.report) ∙ h lane;
  leaving = λ ids hosts h. h;
  piece = λ piece line hosts found fit h. h;
}

pub gaps_by_part : (gaps : ℕ → List LaneGap) (events : List HostEvent) → IsKeptByPart events (TellsGaps gaps)
gaps_by_part gaps events = record {
  taking = record { steps = gaps_by_step gaps; untaken = λ untaken hosts h. h; joined = λ id hosts joins new h. h };
  sent = λ line count hosts found h. h;
}

keys_tell_no_gap : (lane : ℕ) (reported : List Report) → gaps_in lane (map key_line reported) ≡ []
keys_tell_no_gap lane [] = refl
keys_tell_no_gap lane (one ∷ reported) = keys_tell_no_gap lane reported

notes_tell_no_gap : (lane : ℕ) (notes : List HealthNote) → gaps_in lane (map health_line notes) ≡ []
notes_tell_no_gap lane [] = refl
notes_tell_no_gap lane (one ∷ notes) = notes_tell_no_gap lane notes

pub gaps_by_frames : (gaps : ℕ → List LaneGap) → IsKeptByFrames (TellsGaps gaps)
gaps_by_frames gaps = record {
  steps = gaps_by_step gaps;
  received = λ text hosts h lane. flat_map-append (gap_by lane) hosts.report (ReceivedLine text ∷ [])
      ∙ append-nil (gaps_in lane hosts.report) ∙ h lane;
  sent = λ text report reported hosts told h lane.
      flat_map-append (gap_by lane) report (SentLine text ∷ reported)
      ∙ sym (flat_map-append (gap_by lane) report reported) ∙ ap (gaps_in lane) (sym told) ∙ h lane;
  keyed = λ reported hosts h lane. flat_map-append (gap_by lane) hosts.report (map key_line reported)
      ∙ ap (λ gaps. gaps_in lane hosts.report ++ gaps) (keys_tell_no_gap lane reported)
      ∙ append-nil (gaps_in lane hosts.report) ∙ h lane;
  noted = λ notes hosts h lane. flat_map-append (gap_by lane) hosts.report (map health_line notes)
      ∙ ap (λ gaps. gaps_in lane hosts.report ++ gaps) (notes_tell_no_gap lane notes)
      ∙ append-nil (gaps_in lane hosts.report) ∙ h lane;
}

-- ---- the gaps of a turn

pub gaps_of-append : (lane : ℕ) (a b : List Got) → gaps_of lane (a ++ b) ≡ gaps_of lane a ++ gaps_of lane b
gaps_of-append lane [] b = refl
gaps_of-append lane (Item at x ∷ a) b = gaps_of-append lane a b
gaps_of-append lane (Gap from to ∷ a) b = ap (λ l. record { lane = lane; from = from; to = to } ∷ l)
    (gaps_of-append lane a b)
gaps_of-append lane (Empty at ∷ a) b = gaps_of-append lane a b
gaps_of-append lane (End total ∷ a) b = gaps_of-append lane a b

own_gaps : (lane : ℕ) (answers : List Got) → gaps_in lane (map gap_line (gaps_of lane answers)) ≡ gaps_of lane answers
own_gaps lane [] = refl
own_gaps lane (Item at x ∷ answers) = own_gaps lane answers
own_gaps lane (Gap from to ∷ answers) =
    ap (λ gaps. gaps ++ gaps_in lane (map gap_line (gaps_of lane answers)))
    (cond-true (lane == lane) ((record { lane = lane; from = from; to = to }) ∷ []) [] (eq-eqb lane lane refl))
    ∙ ap (λ gaps. (record { lane = lane; from = from; to = to }) ∷ gaps) (own_gaps lane answers)
own_gaps lane (Empty at ∷ answers) = own_gaps lane answers
own_gaps lane (End total ∷ answers) = own_gaps lane answers

other_gaps : (lane other : ℕ) (answers : List Got) → (other == lane) ≡ false
    → gaps_in lane (map gap_line (gaps_of other answers)) ≡ []
other_gaps lane other [] differs = refl
other_gaps lane other (Item at x ∷ answers) differs = other_gaps lane other answers differs
other_gaps lane other (Gap from to ∷ answers) differs =
    ap (λ gaps. gaps ++ gaps_in lane (map gap_line (gaps_of other answers)))
    (cond-false (other == lane) ((record { lane = other; from = from; to = to }) ∷ []) [] differs)
    ∙ other_gaps lane other answers differs
other_gaps lane other (Empty at ∷ answers) differs = other_gaps lane other answers differs
other_gaps lane other (End total ∷ answers) differs = other_gaps lane other answers differs

gaps_in-append : (lane : ℕ) (a b : List LaneGap) → gaps_in lane (map gap_line (a ++ b))
    ≡ gaps_in lane (map gap_line a) ++ gaps_in lane (map gap_line b)
gaps_in-append lane a b = ap (gaps_in lane) (map-append gap_line a b)
    ∙ flat_map-append (gap_by lane) (map gap_line a) (map gap_line b)

-- the lanes past a lane have no gaps of it
later_gaps : (lane first : ℕ) (lanes : List (List Got)) → lane < first
    → gaps_in lane (map gap_line (gaps_from first lanes)) ≡ []
later_gaps lane first [] past = refl
later_gaps lane first (answers ∷ lanes) past =
    gaps_in-append lane (gaps_of first answers) (gaps_from (first + 1) lanes)
    ∙ ap (λ gaps. gaps ++ gaps_in lane (map gap_line (gaps_from (first + 1) lanes)))
    (other_gaps lane first answers (ne_eqb first lane (λ same. omega (arith, past, same))))
    ∙ later_gaps lane (first + 1) lanes (omega (arith, past))

lane_gaps : (first k : ℕ) (lanes : List (List Got)) → k < length lanes
    → gaps_in (first + k) (map gap_line (gaps_from first lanes)) ≡ gaps_of (first + k) (get_or lanes k [])
lane_gaps first k [] within = absurd (omega (arith, within))
lane_gaps first zero (answers ∷ lanes) within =
    let same : first + 0 ≡ first = omega arith in
    gaps_in-append (first + 0) (gaps_of first answers) (gaps_from (first + 1) lanes)
    ∙ ap (λ gaps. gaps_in (first + 0) (map gap_line (gaps_of first answers)) ++ gaps)
    (later_gaps (first + 0) (first + 1) lanes (omega arith))
    ∙ append-nil (gaps_in (first + 0) (map gap_line (gaps_of first answers)))
    ∙ subst (λ n. gaps_in n (map gap_line (gaps_of first answers)) ≡ gaps_of n answers) (sym same)
    (own_gaps first answers)
lane_gaps first (suc k) (answers ∷ lanes) within =
    let next : first + suc k ≡ first + 1 + k = omega arith in
    gaps_in-append (first + suc k) (gaps_of first answers) (gaps_from (first + 1) lanes)
    ∙ ap (λ gaps. gaps ++ gaps_in (first + suc k) (map gap_line (gaps_from (first + 1) lanes)))
    (other_gaps (first + suc k) first answers (ne_eqb first (first + suc k) (λ e. omega (arith, e))))
    ∙ subst (λ n. gaps_in n (map gap_line (gaps_from (first + 1) lanes)) ≡ gaps_of n (get_or lanes k [])) (sym next)
    (lane_gaps (first + 1) k lanes (omega (arith, within)))

pub lane_gaps_first : (lane : ℕ) (lanes : List (List Got)) → lane < length lanes
    → gaps_in lane (map gap_line (gaps_from 0 lanes)) ≡ gaps_of lane (get_or lanes lane [])
lane_gaps_first lane lanes within =
    let same : 0 + lane ≡ lane = omega arith in
    subst (λ n. gaps_in n (map gap_line (gaps_from 0 lanes)) ≡ gaps_of n (get_or lanes lane [])) same
    (lane_gaps 0 lane lanes within)

gaps_close_nobody : (gaps : List LaneGap) → ids_closed (map gap_line gaps) ≡ []
gaps_close_nobody [] = refl
gaps_close_nobody (gap ∷ gaps) = gaps_close_nobody gaps

-- gap lines call nobody closed
pub gaps_closed : (report : List ReportLine) (gaps : List LaneGap)
    → ids_closed (report ++ map gap_line gaps) ≡ ids_closed report
gaps_closed report gaps =
    flat_map-append closed_by report (map gap_line gaps) ∙ ap (λ ids. ids_closed report ++ ids) (gaps_close_nobody gaps)
    ∙ append-nil (ids_closed report)

-- readers that read on report what they are told of
pub read_gaps : (words : ServeWords) (ended : Bool) (before after : Live) → LanesReadOn words ended before after
    → AreAllGaps words before → AreAllGaps words after
read_gaps words ended before after r h = subst (AreAllGaps words) (sym r.is) (λ lane lt.
    let read : List LaneGap = gaps_of lane (lane_of r.turn.reads lane) in
    flat_map-append (gap_by lane) before.hosts.report (map gap_line r.gaps)
    ∙ ap (λ gaps. gaps ++ gaps_in lane (map gap_line r.gaps)) (h lane lt)
    ∙ ap (λ gaps. gaps_of lane (lane_of before.lanes lane) ++ gaps)
    (ap (λ gaps. gaps_in lane (map gap_line gaps)) r.turn.told
    ∙ lane_gaps_first lane r.turn.reads (subst (λ n. lane < n) (sym r.turn.longer.count_reads) lt))
    ∙ sym (ap (gaps_of lane) (r.turn.longer.each lane lt)
    ∙ gaps_of-append lane (lane_of before.lanes lane) (lane_of r.turn.reads lane)))

-- all are the first, and more may come
pub first_gaps : (words : ServeWords) (live : Live) → AreAllGaps words live → AreFirstGaps words live
first_gaps words live h = λ lane lt. ([], sym (h lane lt) ∙ sym (append-nil (gaps_in lane live.hosts.report)))

pub cut_gaps : (words : ServeWords) (live : Live) (lanes : List (List Got))
    → ((lane : ℕ) → lane < readers_wanted words.listening → (reads : List Got)
    × (lane_of lanes lane ≡ lane_of live.lanes lane ++ reads))
    → AreAllGaps words live → AreFirstGaps words (record live { lanes = lanes })
cut_gaps words live lanes more h = λ lane lt.
    let reads = more lane lt in (
      gaps_of lane reads.0,
      ap (gaps_of lane) reads.1 ∙ gaps_of-append lane (lane_of live.lanes lane) reads.0
          ∙ ap (λ gaps. gaps ++ gaps_of lane reads.0) (sym (h lane lt)),
    )
