-- How far apart true ends are, and with which frames they are.
use Rattle.std.proofs.Common.{◌≡◌, ℕ, ◌≤◌, List, map}
use Rattle.std.specs.List.{AllByRecursion}
use Rattle.afsk_modulator.specs.Signal.{Transmission}
use Rattle.clean_signal.specs.GoodTransmission.{IsTransmission, frames_of}
use Rattle.clean_signal.proofs.EndsBySize.{Spaced, spaced_by, octets-true_ends_by}
use Rattle.hf_signal.specs.TrueEnds.{true_ends_from}

pub spaced : (transmissions : List Transmission) (begin place : ℕ) → place ≤ begin
    → AllByRecursion IsTransmission transmissions
    → Spaced 32 place (true_ends_from begin transmissions)
spaced = spaced_by 32

pub octets-true_ends_from : (transmissions : List Transmission) (begin : ℕ)
    → map (λ e. e.octets) (true_ends_from begin transmissions) ≡ frames_of transmissions
octets-true_ends_from = octets-true_ends_by 32
