-- What turns did for the hosts of a live station, all of them together: what each connection was sent, and which
-- connections were shut.
use Rattle.std.specs.Prelude.{⊤, ◌≡◌, ℕ, ◌≤◌, ◌⊎◌, true, false, List, [], ◌∷◌, ◌++◌, All, length, map}
use Rattle.std.specs.List.{flat_map}
use Rattle.host_ports.specs.declared.report_line.ReportLine.{ReportLine}
use Rattle.host_ports.specs.declared.report_line.ReportLine.TheVariants.{GapLine, ClosedLine, ReceivedLine, SentLine}
use Rattle.host_ports.specs.declared.report_line.ReportLine.TheVariants.{KeyLine, HealthLine}
use Rattle.host_ports.specs.AskedPorts.{poll_of, taken_of}
use Rattle.host_ports.specs.Hosts.{Hosts, is_among, is_there, was_there}
use Rattle.host_ports.specs.HostTurns.{Asked}
use Rattle.host_ports.specs.SentSoFar.{octets_for, IsOrderly}
use Rattle.host_ports.specs.Sockets.{Poll, has_come}
use Rattle.tnc_ports.specs.StepShuts.{octets_waiting_for}
use Rattle.host_ports.specs.Waiting.{most_octets}

-- no id stands there twice
abbrev pub NoneTwice : List ℕ → Type 0
NoneTwice [] = ⊤
NoneTwice (id ∷ ids) = (is_among id ids ≡ false) × NoneTwice ids

-- ---- what connections were sent

-- the octets that a connection took in turns
abbrev pub octets_to : ℕ → List Asked → List ℕ
octets_to id turns = flat_map (λ asked. taken_of id asked.offers) turns

-- the connections to which a turn made a send that did not fail
abbrev pub ids_sent_to : Asked → List ℕ
ids_sent_to asked = map (λ offer. offer.id) asked.offers

-- What a connection took in the turns is a first part of what was appended for it, in order, and for one that never
-- came nothing was appended. No more than 262,144 octets wait for a connection, and no turn sends twice to it.
pub record AreSentInTurns (turns : List Asked) (hosts : Hosts) : Type 0 where
  pub in_order : IsOrderly hosts
  pub few : (id : ℕ) → length (octets_waiting_for id hosts) ≤ most_octets
  pub taken : (id : ℕ) → octets_for id hosts.sent ≡ octets_to id turns
  pub once : All (λ asked. NoneTwice (ids_sent_to asked)) turns

-- ---- which connections were shut

-- the connections that turns shut, in order
abbrev pub ids_shut : List Asked → List ℕ
ids_shut turns = flat_map (λ asked. asked.shut) turns

-- the connection that a line of the report calls closed
abbrev pub closed_by : ReportLine → List ℕ
closed_by (GapLine lane from to) = []
closed_by (ClosedLine id) = id ∷ []
closed_by (ReceivedLine text) = []
closed_by (SentLine text) = []
closed_by (KeyLine report) = []
closed_by (HealthLine note) = []

-- those that the report calls closed, in order
abbrev pub ids_closed : List ReportLine → List ℕ
ids_closed lines = flat_map closed_by lines

-- the first of the turns that shuts a connection finds that it had come, if these polls were made before
abbrev pub IsShutHavingCome : ℕ → List Poll → List Asked → Type 0
IsShutHavingCome id polls [] = ⊥
IsShutHavingCome id polls (asked ∷ turns) =
    ((is_among id asked.shut ≡ true) × (has_come id (polls ++ poll_of asked ∷ []) ≡ true))
    ⊎ ((is_among id asked.shut ≡ false) × IsShutHavingCome id (polls ++ poll_of asked ∷ []) turns)

-- The report calls exactly those connections closed that the turns shut, and then those that were shut after the last
-- turn. None of them is shut twice or is there again, and each had come before it was shut. Who came, joined in a poll.
pub record AreShutInTurns (turns : List Asked) (hosts : Hosts) : Type 0 where
  pub named : ids_closed hosts.report ≡ ids_shut turns ++ hosts.to_shut
  pub once : NoneTwice (ids_closed hosts.report)
  pub gone : (id : ℕ) → is_among id (ids_closed hosts.report) ≡ true → is_there id hosts ≡ false
  pub had_come : (id : ℕ) (polls : List Poll) → is_among id (ids_shut turns) ≡ true → IsShutHavingCome id polls turns
  pub came : (id : ℕ) → was_there id hosts ≡ true → has_come id (map poll_of turns) ≡ true
