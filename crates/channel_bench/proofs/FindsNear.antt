-- At first no frame waits at A, so all that wait there keep one key; what a connection tells and frames that pass keep
-- that.
use Rattle.channel_bench.proofs.Common.{◌≡◌, ℕ, zero, suc, List, [], ◌∷◌, ◌++◌, replicate, Option, Some, None, get_or}
use Rattle.channel_bench.proofs.Common.{refl, sym, ◌∙◌, subst, arith, inr, length-replicate, End, HostEvent, Bytes}
use Rattle.channel_bench.proofs.Common.{Link}
use Rattle.channel_bench.proofs.Common.{most_links, BenchWords, the_calls, SideState, MayCome, program_id}
use Rattle.channel_bench.proofs.Common.{connect_octets, Moment, nothing_sent, Passes, Stations, FromHost, AsksFindRoom}
use Rattle.channel_bench.proofs.Common.{first_stations}
use Rattle.station.specs.Links.{no_links}
use Rattle.channel_bench.proofs.CoreRun.{Usual, input_of}
use Rattle.channel_bench.proofs.CoreRun.Usual.{connects, disconnects, gives, hears, joins_kiss, joins_program}
use Rattle.channel_bench.proofs.CoreRun.Usual.{registers, sets_full, ticks}
use Rattle.channel_bench.proofs.FindingRoom.{TakesCall}
use Rattle.channel_bench.proofs.NotedRun.{steps_passed}
use Rattle.channel_bench.proofs.OneKey.{IsKeyed}
use Rattle.channel_bench.proofs.StepFinds.{Finding, matched_front}

-- ---- at first

all_same : {T : Type 0} (x : T) (n k : ℕ) → get_or (replicate n x) k x ≡ x
all_same x zero k = refl
all_same x (suc n) zero = refl
all_same x (suc n) (suc k) = all_same x n k

new_keyed : IsKeyed 0 [] no_links
new_keyed = record {
  waiting_is = tt;
  links_are = λ k link is. let clash : None ≡ Some link = sym (all_same None most_links k) ∙ is in absurd (cc);
  next = λ k new none. inr refl;
  size = let none : Option Link = None in length-replicate most_links none;
  few = λ k link is wide. omega arith;
}

pub new_finds : (w : BenchWords) → Finding [] (first_stations w)
new_finds w = λ all. ((0, new_keyed), tt)

-- ---- what is kept

-- what a connection tells is taken only if the station takes it
pub takes_told : (usual : Usual) (e : End) (event : HostEvent) (side : SideState) → FromHost event ≡ input_of e usual
    → MayCome event side → TakesCall usual side.station
takes_told joins_kiss e event side is may = tt
takes_told sets_full e event side is may = tt
takes_told joins_program e event side is may = tt
takes_told registers e event side is may = tt
takes_told connects e event side is may =
    let same : event ≡ Bytes program_id (connect_octets e) = cc in
    (subst (λ ev. MayCome ev side) same may).2
takes_told (gives piece) e event side is may = tt
takes_told disconnects e event side is may = tt
takes_told (hears octets) e event side is may = tt
takes_told (ticks busy) e event side is may = tt

-- frames have passed
pub passed : (sender : End) (below : ℕ) (moments : List Moment) (s : Stations) → Finding moments s
    → Finding (moments ++ Passes sender below ∷ []) s
passed sender below moments s finding = λ all.
    let found = finding (matched_front moments (Passes sender below) nothing_sent all) in
    (found.0, subst (AsksFindRoom the_calls) (sym (steps_passed moments sender below)) found.1)
