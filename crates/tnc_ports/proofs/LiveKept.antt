-- What each step of hosts keeps, and the lines of a monitor too, each frame and each tick keeps.
use Rattle.tnc_ports.proofs.Common.{◌⊎◌, zero, suc, Bool, true, false, List, ◌∷◌, Option, Some, None, sym, ◌∙◌, ap}
use Rattle.tnc_ports.proofs.Common.{subst, inl, inr, append-nil, AirTick, Sent, Candidate, Links, ReportLine}
use Rattle.tnc_ports.proofs.Common.{ReceivedLine, SentLine, Hosts, Live, AreHeard, AreTicked, AreReceivedLines}
use Rattle.tnc_ports.proofs.Common.{AreSentLines, IsFrameHeard, IsTickMade, with_lines}
use Rattle.tnc_ports.proofs.Common.{CallsKey, TicksKeyIf, TurnsKeyIf, Whole, is_held, key_line, octets_sent, KeyWords}
use Rattle.tnc_ports.proofs.Common.{ServeWords}
use Rattle.std.specs.Prelude.{◌≡◌, ℕ, ℤ, ◌||◌, [], ◌++◌, map}
use Rattle.keying.specs.declared.report.Report.{Report}
use Rattle.keying.specs.Calls.{Call}
use Rattle.key_port.specs.KeyEvents.{KeyEvent}
use Rattle.host_ports.specs.declared.health_note.HealthNote.{HealthNote}
use Rattle.tnc_ports.specs.HealthNotes.{health_line, notes_in}
use Rattle.tnc_ports.specs.Sampled.{notes_in_tick}
use Rattle.host_ports.proofs.KeptLemmas.{IsKeptByStep, kept_step}

pub record IsKeptByFrames (P : Hosts → Type 0) : Type 0 where
  pub steps : IsKeptByStep P
  pub received : (text : List ℕ) (hosts : Hosts) → P hosts → P (with_lines (ReceivedLine text ∷ []) hosts)
  pub sent : (text : List ℕ) (report reported : List ReportLine) (hosts : Hosts) → hosts.report ≡ report ++ reported
      → P hosts
      → P (record hosts { report = report ++ (SentLine text ∷ [] ++ reported) })
  pub keyed : (reported : List Report) (hosts : Hosts) → P hosts → P (with_lines (map key_line reported) hosts)
  pub noted : (notes : List HealthNote) (hosts : Hosts) → P hosts → P (with_lines (map health_line notes) hosts)

received_or_none : (monitor : Bool) (octets : List ℕ) (links : Links) (lines : List ReportLine)
    → AreReceivedLines monitor octets links lines
    → (lines ≡ []) ⊎ ((text : List ℕ) × (lines ≡ ReceivedLine text ∷ []))
received_or_none true octets links lines shown = inr (shown.1.text, shown.2 ∙ ap (λ line. line ∷ []) shown.1.is)
received_or_none false octets links lines shown = inl shown

sent_or_none : (monitor : Bool) (sent : Option Sent) (links : Links) (lines : List ReportLine)
    → AreSentLines monitor sent links lines
    → (lines ≡ []) ⊎ ((text : List ℕ) × (lines ≡ SentLine text ∷ []))
sent_or_none monitor None links lines shown = inl shown
sent_or_none true (Some sent) links lines shown = inr (shown.1.text, shown.2 ∙ ap (λ line. line ∷ []) shown.1.is)
sent_or_none false (Some sent) links lines shown = inl shown

module _ (P : Hosts → Type 0) (k : IsKeptByFrames P) where
  kept_frame : (monitor : Bool) (octets : List ℕ) (before after : Hosts) → IsFrameHeard monitor octets before after
      → P before → P after
  kept_frame monitor octets before after f p =
      kept_step P k.steps _ (with_lines f.lines before) after f.step
      (elim (received_or_none monitor octets before.station.links f.lines f.shown) [
        | inl none ↦ subst (λ lines. P (with_lines lines before)) (sym none)
            (subst (λ report. P (record before { report = report })) (sym (append-nil before.report)) p)
        | inr some ↦ subst (λ lines. P (with_lines lines before)) (sym some.1) (k.received some.0 before p)
      ])

  pub kept_heard : (monitor : Bool) (items : List Candidate) (before after : Hosts)
      → AreHeard monitor items before after → P before → P after
  kept_heard monitor [] before after heard p = subst P (sym heard) p
  kept_heard monitor (item ∷ items) before after heard p =
      kept_heard monitor items heard.0 after heard.2 (kept_frame monitor item.octets before heard.0 heard.1 p)

  kept_tick : (monitor busy : Bool) (air : AirTick) (before after : Hosts) → IsTickMade monitor busy air before after
      → P before → P after
  kept_tick monitor busy air before after t p =
      let q : P t.ticked = kept_step P k.steps _ before t.ticked t.step.step p in
      subst P (sym t.is)
      (elim (sent_or_none monitor air.sent t.ticked.station.links t.lines t.shown) [
        | inl none ↦ subst (λ lines. P (record t.ticked { report = before.report ++ (lines ++ t.reported) })) (sym none)
            (subst (λ report. P (record t.ticked { report = report })) t.told q)
        | inr some ↦ subst (λ lines. P (record t.ticked { report = before.report ++ (lines ++ t.reported) }))
            (sym some.1) (k.sent some.0 before.report t.reported t.ticked t.told q)
      ])

  kept_call : (key : KeyWords) (octets : ℕ) (call : Call) (keyed new : List KeyEvent) (before after : Hosts)
      → CallsKey key octets call keyed new before after → P before → P after
  kept_call key octets call keyed new before after c p = subst P (sym c.hosts) (k.keyed c.reported before p)

  kept_key_tick : (key : Option KeyWords) (octets : ℕ) (samples out : List ℤ) (keyed new : List KeyEvent)
      (whole told : Whole) (before after : Hosts) → TicksKeyIf key octets samples out keyed new whole told before after
      → P before → P after
  kept_key_tick None octets samples out keyed new whole told before after t p = subst P (sym t.2) p
  kept_key_tick (Some key) octets samples out keyed new whole told before after t p =
      kept_call key t.had _ t.between new t.reached after t.write
      (kept_call key octets _ keyed t.between before t.reached t.tick p)

  pub kept_key_turn : (key : Option KeyWords) (octets : ℕ) (keyed new : List KeyEvent) (before after : Hosts)
      → TurnsKeyIf key octets keyed new before after → P before → P after
  kept_key_turn None octets keyed new before after t p = subst P (sym t.1) p
  kept_key_turn (Some key) octets keyed new before after t p = kept_call key octets _ keyed new before after t.call p

  pub kept_ticks : (words : ServeWords) (busy : Bool) (count : ℕ) (before after : Live)
      → AreTicked words busy count before after → P before.hosts → P after.hosts
  kept_ticks words busy zero before after ticked p = subst (λ (live : Live). P live.hosts) (sym ticked) p
  kept_ticks words busy (suc count) before after ticked p =
      kept_ticks words busy count ticked.0 after ticked.2
      (subst (λ (live : Live). P live.hosts) (sym ticked.1.is)
      (k.noted (notes_in (notes_in_tick words busy ticked.1.reads ticked.1.air before ticked.1.hosts)) ticked.1.hosts (kept_key_tick words.key (octets_sent before) ticked.1.air.samples ticked.1.out before.keyed ticked.1.keyed before.whole
      ticked.1.whole ticked.1.made ticked.1.hosts ticked.1.key
      (kept_tick words.monitor (busy || is_held words.key before.keyed) ticked.1.air before.hosts ticked.1.made
      ticked.1.step p))))
