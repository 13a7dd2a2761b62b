-- The lists of answers of a receiver: those of the readers of the eight lanes, and then that of the added ones.
use Rattle.ring_receiver.proofs.Common.{Some, None, ◌≡◌, ◌↔◌, ℕ, ◌<◌, List, [], ◌∷◌, ◌++◌, ◌∙◌, length, map, sym, subst}
use Rattle.ring_receiver.proofs.Common.{arith, get_or_append_left, map-append, length-map, Got, Reader, IsBusyOnRing}
use Rattle.ring_receiver.proofs.Common.{lane_of, answers_of, last_stretch, AddedRing}
use Rattle.std.specs.Prelude.{Option}
use Rattle.slicer_bank.specs.declared.detection.Detection.{Detection}
use Rattle.slicer_bank.specs.Detection.{HearsStation}
use Rattle.ring_receiver.specs.HeldReceiver.{readers_with}

-- further lists change nothing of the first ones
pub lane_of-first : (first more : List (List Got)) (lane : ℕ) → lane < length first
    → lane_of (first ++ more) lane ≡ lane_of first lane
lane_of-first first more lane l = get_or_append_left first more [] lane l

-- whether some of the eight lanes hears a station does not depend on further readers
pub busy_by_eight : (detection : Detection) (first more : List (List Got)) → length first ≡ 8
    → IsBusyOnRing detection first ↔ IsBusyOnRing detection (first ++ more)
busy_by_eight detection first more eight = (
  λ h.
      let l = h.within in
      record {
        lane = h.lane;
        within = h.within;
        hears = subst (λ a. HearsStation detection h.lane (last_stretch a))
            (sym (lane_of-first first more h.lane (omega arith))) h.hears;
      },
  λ h.
      let l = h.within in
      record {
        lane = h.lane;
        within = h.within;
        hears = subst (λ a. HearsStation detection h.lane (last_stretch a))
            (lane_of-first first more h.lane (omega arith)) h.hears;
      },
)

pub busy_of : (len : ℕ) (detection : Detection) (eight : List Reader) (added : Option AddedRing) → length eight ≡ 8
    → IsBusyOnRing detection (map (answers_of len) eight)
    ↔ IsBusyOnRing detection (map (answers_of len) (readers_with eight added))
busy_of len detection eight None many = (λ h. h, λ h. h)
busy_of len detection eight (Some added) many =
    subst (λ a. IsBusyOnRing detection (map (answers_of len) eight) ↔ IsBusyOnRing detection a)
    (sym (map-append (answers_of len) eight (added.reader ∷ [])))
    (busy_by_eight detection (map (answers_of len) eight) (answers_of len added.reader ∷ [])
    (length-map eight (answers_of len) ∙ many))
