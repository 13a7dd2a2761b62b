-- What a run did for the hosts: the account of its turns.
use Rattle.tnc_ports.proofs.Common.{zero, suc, Bool, true, false, List, ◌∷◌, replicate, sym, ◌∙◌, ap, subst, arith, inl}
use Rattle.tnc_ports.proofs.Common.{inr, Candidate, lane_of, gaps_of, readers_wanted, ServeWords, Hosts, new_hosts}
use Rattle.tnc_ports.proofs.Common.{Asked, IsHostPart, gaps_in, AreAllGaps, AreFirstGaps, Live, new_live, with_hosts}
use Rattle.tnc_ports.proofs.Common.{gap_line, LanesReadOn, AreHeard, HearsAll, AreTicked, MakesAll, IsTurn, AreTurns}
use Rattle.tnc_ports.proofs.Common.{IsRun, IsCutTurn, IsCutRun, IsKeyTurn, octets_sent}
use Rattle.std.specs.Prelude.{◌≡◌, ℕ, ◌*◌, [], ◌++◌, length, map, refl}
use Rattle.std.proofs.Common.{length-append}
use Rattle.sound_rate.specs.Rates.{written_at}
use Rattle.sound_rate.proofs.Nothing.{none_written}
use Rattle.tnc_ports.specs.Sampled.{ServesHosts, having_heard}
use Rattle.tnc_ports.specs.SampledRun.{AreSamplesSent}
use Rattle.host_ports.proofs.KeptLemmas.{kept_part}
use Rattle.tnc_ports.proofs.LiveAccounts.{IsAccounted, accounted_new, accounted_relined, accounted_by_frames}
use Rattle.tnc_ports.proofs.LiveAccounts.{accounted_part}
use Rattle.tnc_ports.proofs.LiveGaps.{TellsGaps, gaps_by_frames, gaps_by_part, gaps_closed, read_gaps, first_gaps}
use Rattle.tnc_ports.proofs.LiveGaps.{cut_gaps}
use Rattle.tnc_ports.proofs.LiveKept.{kept_heard, kept_key_turn, kept_ticks}
use Rattle.tnc_ports.proofs.LiveSteps.{ticked_to}
use Rattle.host_ports.proofs.SentLemmas.{orderly_new}
use Rattle.tnc_ports.proofs.ServedLemmas.{sound_new}

abbrev pub IsAccountedFor : Live → Type 0
IsAccountedFor live = IsAccounted live.asked live.hosts

-- so far, with all gaps
pub record IsServed (words : ServeWords) (live : Live) : Type 0 where
  pub accounted : IsAccountedFor live
  pub gaps : AreAllGaps words live
  pub samples : AreSamplesSent words live

-- if a turn is cut short, the last gaps may be missing
pub record IsServedInPart (words : ServeWords) (live : Live) : Type 0 where
  pub accounted : IsAccountedFor live
  pub gaps : AreFirstGaps words live
  pub samples : AreSamplesSent words live

in_part : (words : ServeWords) (live : Live) → IsServed words live → IsServedInPart words live
in_part words live h = record { accounted = h.accounted; gaps = first_gaps words live h.gaps; samples = h.samples }

no_gaps : (name lane count : ℕ) → [] ≡ gaps_of name (lane_of (replicate count []) lane)
no_gaps name lane zero = refl
no_gaps name zero (suc count) = refl
no_gaps name (suc lane) (suc count) = no_gaps name lane count

served_new : (words : ServeWords) → IsServed words (new_live words)
served_new words = record {
  accounted = accounted_new (new_hosts words.config words.seed) (orderly_new words.config words.seed)
      (sound_new words.config words.seed)
      (λ id. omega arith) refl refl;
  gaps = λ lane lt. no_gaps lane lane (readers_wanted words.listening);
  samples = record { size = refl; at_rate = none_written words.rate };
}

-- ---- each part of a turn

served_reading : (words : ServeWords) (ended : Bool) (before after : Live) → LanesReadOn words ended before after
    → IsServed words before → IsServed words after
served_reading words ended before after r h = record {
  accounted = subst IsAccountedFor (sym r.is)
      (accounted_relined before.asked (before.hosts.report ++ map gap_line r.gaps) before.hosts
      (gaps_closed before.hosts.report r.gaps) h.accounted);
  gaps = read_gaps words ended before after r h.gaps;
  samples = subst (AreSamplesSent words) (sym r.is) (record { size = h.samples.size; at_rate = h.samples.at_rate });
}

-- the hosts go on, and the readers stay
with_gaps : (words : ServeWords) (live next : Live) → next.lanes ≡ live.lanes → AreAllGaps words live
    → ((lane : ℕ) → gaps_in lane next.hosts.report ≡ gaps_in lane live.hosts.report) → AreAllGaps words next
with_gaps words live next lanes h same = λ lane lt. same lane ∙ h lane lt
    ∙ ap (λ ls. gaps_of lane (lane_of ls lane)) (sym lanes)

served_heard : (words : ServeWords) (items : List Candidate) (read : Live) (hosts : Hosts)
    → AreHeard words.monitor items read.hosts hosts → IsServed words read
    → IsServed words (with_hosts hosts read)
served_heard words items read hosts heard h = record {
  accounted = kept_heard (IsAccounted read.asked) (accounted_by_frames read.asked)
      words.monitor items read.hosts hosts heard h.accounted;
  gaps = with_gaps words read (with_hosts hosts read) refl h.gaps
      (kept_heard (TellsGaps (λ lane. gaps_in lane read.hosts.report))
      (gaps_by_frames (λ lane. gaps_in lane read.hosts.report)) words.monitor items read.hosts hosts heard
      (λ lane. refl));
  samples = record { size = h.samples.size; at_rate = h.samples.at_rate };
}

ticked_samples : (words : ServeWords) (busy : Bool) (count : ℕ) (before after : Live)
    → AreTicked words busy count before after → AreSamplesSent words before → AreSamplesSent words after
ticked_samples words busy zero before after ticked h = subst (AreSamplesSent words) (sym ticked) h
ticked_samples words busy (suc count) before after ticked h =
    let one = ticked.1 in
    let more = ap (λ (l : Live). length l.samples) one.is ∙ length-append before.samples one.air.samples in
    let ticks = ap (λ (l : Live). l.ticks) one.is in
    let size = one.size in
    let was = h.size in
    ticked_samples words busy count ticked.0 after ticked.2 (record {
      size = omega (arith, was, more, ticks, size);
      at_rate = ap (λ (l : Live). l.sent) one.is ∙ ap (λ xs. xs ++ one.out) h.at_rate ∙ sym one.at_rate
          ∙ sym (ap (λ (l : Live). written_at words.rate l.samples) one.is);
    })

-- and counted
served_counted : (words : ServeWords) (items : List Candidate) (read : Live) (hosts : Hosts)
    → IsServed words (with_hosts hosts read) → IsServed words (having_heard items hosts read)
served_counted words items read hosts h = record { accounted = h.accounted; gaps = h.gaps; samples = record { size = h.samples.size; at_rate = h.samples.at_rate } }

served_hearing : (words : ServeWords) (ended : Bool) (before after : Live) → HearsAll words ended before after
    → IsServed words before → IsServed words after
served_hearing words ended before after t h =
    subst (IsServed words) (sym t.is) (served_counted words t.items t.read t.hosts
    (served_heard words t.items t.read t.hosts t.hears (served_reading words ended before t.read t.reads h)))

served_ticks : (words : ServeWords) (busy : Bool) (count : ℕ) (before after : Live)
    → AreTicked words busy count before after → IsServed words before → IsServed words after
served_ticks words busy count before after ticked h =
    let to = ticked_to words busy count before after ticked in
    record {
      accounted = subst (λ asked. IsAccounted asked after.hosts) (sym to.asked)
          (kept_ticks (IsAccounted before.asked) (accounted_by_frames before.asked)
          words busy count before after ticked h.accounted);
      gaps = with_gaps words before after to.lanes h.gaps
          (kept_ticks (TellsGaps (λ lane. gaps_in lane before.hosts.report))
          (gaps_by_frames (λ lane. gaps_in lane before.hosts.report)) words busy count before after ticked
          (λ lane. refl));
      samples = ticked_samples words busy count before after ticked h.samples;
    }

served_key : (words : ServeWords) (before after : Live) → IsKeyTurn words before after → IsServed words before
    → IsServed words after
served_key words before after t h = subst (IsServed words) (sym t.is) (record {
  accounted = kept_key_turn (IsAccounted before.asked) (accounted_by_frames before.asked) words.key (octets_sent before)
      before.keyed t.keyed before.hosts t.hosts t.turn h.accounted;
  gaps = with_gaps words before (record before { keyed = t.keyed; hosts = t.hosts }) refl h.gaps
      (kept_key_turn (TellsGaps (λ lane. gaps_in lane before.hosts.report))
      (gaps_by_frames (λ lane. gaps_in lane before.hosts.report)) words.key (octets_sent before)
      before.keyed t.keyed before.hosts t.hosts t.turn (λ lane. refl));
  samples = record { size = h.samples.size; at_rate = h.samples.at_rate };
})

pub served_making : (words : ServeWords) (ended : Bool) (before after : Live) → MakesAll words ended before after
    → IsServed words before → IsServed words after
served_making words ended before after m h =
    served_ticks words m.makes.busy m.count m.keyed after m.makes.made
    (served_key words m.heard m.keyed m.keys
    (served_hearing words ended before m.heard m.hears h))

part_gaps : (asked : Asked) (before after : Hosts) → IsHostPart asked before after → (lane : ℕ)
    → gaps_in lane after.report ≡ gaps_in lane before.report
part_gaps asked before after p =
    let kept : TellsGaps (λ lane. gaps_in lane before.report) p.offered.hosts =
    kept_part asked (TellsGaps (λ lane. gaps_in lane before.report)) before after p
    (gaps_by_part (λ lane. gaps_in lane before.report) asked.events) (λ lane. refl) in
    λ lane. ap (λ (h : Hosts). gaps_in lane h.report) p.done ∙ kept lane

served_hosts : (words : ServeWords) (before after : Live) → ServesHosts before after → IsServed words before
    → IsServed words after
served_hosts words before after s h = subst (IsServed words) (sym s.is) (record {
  accounted = accounted_part before.asked s.asked before.hosts s.hosts s.part h.accounted;
  gaps = with_gaps words before (record before { hosts = s.hosts; asked = before.asked ++ s.asked ∷ [] }) refl h.gaps
      (part_gaps s.asked before.hosts s.hosts s.part);
  samples = record { size = h.samples.size; at_rate = h.samples.at_rate };
})

served_turn : (words : ServeWords) (ended : Bool) (before after : Live) → IsTurn words ended before after
    → IsServed words before → IsServed words after
served_turn words ended before after t h = served_hosts words t.made after t.serves
    (served_making words ended before t.made t.makes h)

served_turns : (words : ServeWords) (count : ℕ) (before after : Live) → AreTurns words count before after
    → IsServed words before → IsServed words after
served_turns words zero before after turns h = subst (IsServed words) (sym turns) h
served_turns words (suc count) before after turns h =
    served_turns words count turns.0 after turns.2 (served_turn words false before turns.0 turns.1 h)

-- ---- a run

pub served_run : (words : ServeWords) (live : Live) → IsRun words live → IsServed words live
served_run words live r = served_turn words true r.last live r.over
    (served_turns words r.count (new_live words) r.last r.turns (served_new words))

-- after a turn the sockets are told of all that were shut
pub all_told : (words : ServeWords) (live : Live) → IsRun words live → live.hosts.to_shut ≡ []
all_told words live r =
    ap (λ (l : Live). l.hosts.to_shut) r.over.serves.is ∙ ap (λ (h : Hosts). h.to_shut) r.over.serves.part.done

cut_turn : (words : ServeWords) (before after : Live) → IsCutTurn words before after → IsServed words before
    → IsServedInPart words after
cut_turn words before after cut h = elim cut [
  | inl reading ↦
      subst (IsServedInPart words) (sym reading.is) (record {
        accounted = h.accounted;
        gaps = cut_gaps words before reading.lanes reading.more h.gaps;
        samples = record { size = h.samples.size; at_rate = h.samples.at_rate };
      })
  | inr rest ↦ elim rest [
    | inl hearing ↦
        subst (IsServedInPart words) (sym hearing.is) (in_part words (with_hosts hearing.hosts hearing.read)
        (served_heard words hearing.items hearing.read hearing.hosts hearing.hears
        (served_reading words hearing.ended before hearing.read hearing.reads h)))
    | inr more ↦ elim more [
      | inl ticking ↦
          in_part words after
          (served_ticks words ticking.makes.busy ticking.count ticking.keyed after ticking.makes.made
          (served_key words ticking.heard ticking.keyed ticking.keys
          (served_hearing words ticking.ended before ticking.heard ticking.hears h)))
      | inr serving ↦ in_part words after (served_making words serving.0 before after serving.1 h)
    ]
  ]
]

pub served_cut : (words : ServeWords) (live : Live) → IsCutRun words live → IsServedInPart words live
served_cut words live r = cut_turn words r.last live r.cut
    (served_turns words r.count (new_live words) r.last r.turns (served_new words))
