-- Two host programs in order: in each set-up a program got a first part of what its partner gave in one set-up of its
-- own, the origin, and these come in order. The origin is told by the run: the set-up of the partner that the first
-- I frame belonged to that the link accepted.
use Rattle.std.specs.Prelude.{◌≡◌, ℕ, ◌<◌, if◌then◌else◌, Bool, true, false, List, [], ◌∷◌, ◌++◌, filter, AllPairs}
use Rattle.std.specs.Prelude.{slice_get, Option, Some, None}
use Rattle.std.specs.List.{filter_map}
use Rattle.link_world.specs.declared.end.End.{End}
use Rattle.link_world.specs.declared.end.End.TheVariants.{A, B}
use Rattle.link_world.specs.Origin.{origin}
use Rattle.link_world.specs.SetUps.{SetUp as LinkSetUp}
use Rattle.link_world.specs.World.{seen_from}
use Rattle.station_laws.specs.LinkOfCalls.{world_of}
use Rattle.station_laws.specs.MatchedLaw.{pairs_in}
use Rattle.channel_bench.specs.declared.report.SetUp.{SetUp}
use Rattle.channel_bench.specs.declared.words.BenchWords.{BenchWords}
use Rattle.channel_bench.specs.BenchOrder.{octets_in, steps_of_run, the_calls}
use Rattle.channel_bench.specs.BenchRun.{IsOver}
use Rattle.channel_bench.specs.BenchState.{BenchState, params_of}
use Rattle.channel_bench.specs.Report.{Report}

abbrev pub IsFirstPartOf : List ℕ → List ℕ → Type 0
IsFirstPartOf part whole = (rest : List ℕ) × (whole ≡ part ++ rest)

-- What a set-up got is a first part of what was given in its origin: the set-up of the other side that has this number,
-- from 0.
pub record IsGotFrom (theirs : List SetUp) (origin : ℕ) (q : SetUp) : Type 0 where
  pub giver : SetUp
  pub is_there : slice_get theirs origin ≡ Some giver
  pub first_part : IsFirstPartOf q.got giver.given

-- set-ups, each with its origin
abbrev pub AreGotFrom : List SetUp → List ℕ → List SetUp → Type 0
AreGotFrom theirs [] [] = Unit {0}
AreGotFrom theirs [] (q ∷ ours) = ⊥
AreGotFrom theirs (origin ∷ origins) [] = ⊥
AreGotFrom theirs (origin ∷ origins) (q ∷ ours) = IsGotFrom theirs origin q × AreGotFrom theirs origins ours

abbrev pub has_octets : List ℕ → Bool
has_octets [] = false
has_octets (octet ∷ octets) = true

abbrev pub got_octets : SetUp → Bool
got_octets q = has_octets q.got

-- Each set-up that got octets has its origin, and origins rise strictly from set-up to set-up.
pub record GotInOrder (origins : List ℕ) (theirs ours : List SetUp) : Type 0 where
  pub got : AreGotFrom theirs origins (filter got_octets ours)
  pub rise : AllPairs (λ m n. m < n) origins

-- ---- the origins in a run

-- the origin of a set-up of a link that got octets
abbrev pub octets_origin : LinkSetUp → Option ℕ
octets_origin q = if has_octets (octets_in q.got) then origin q else None

-- those of the set-ups that got octets, in order
abbrev pub octets_origins : List LinkSetUp → List ℕ
octets_origins set_ups = filter_map octets_origin set_ups

-- the set-ups of the link at a side, with what its end got and from where
abbrev pub link_set_ups : BenchWords → End → BenchState → List LinkSetUp
link_set_ups w end bench =
    (seen_from end (world_of the_calls (pairs_in bench.common.moments) (params_of w) (params_of w)
    (steps_of_run bench))).a.end.set_ups

-- at both sides
pub record SidesKeepOrder (w : BenchWords) (bench : BenchState) (report : Report) : Type 0 where
  pub at_a : GotInOrder (octets_origins (link_set_ups w A bench)) report.b report.a
  pub at_b : GotInOrder (octets_origins (link_set_ups w B bench)) report.a report.b

-- in the run that the words ask for, once it is over
abbrev pub KeepsOrder : BenchWords → Report → Type 0
KeepsOrder w report = (over : IsOver w report) → SidesKeepOrder w over.bench report
