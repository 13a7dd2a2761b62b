-- A link that is made between two calls: idle, and owned by a connection.
use Rattle.std.specs.Prelude.{ℕ, ◌==◌, if◌then◌else◌, Some}
use Rattle.ax25_address.specs.Callsign.{Callsign}
use Rattle.ax25_address.specs.declared.path.Path.{Path}
use Rattle.link_machine.specs.declared.params.Params.{Params}
use Rattle.link_machine.specs.Machine.{new_machine}
use Rattle.station.specs.LinkEvents.{with_links}
use Rattle.station.specs.Links.{Link, with_new_link}
use Rattle.station.specs.Turn.{Act, changing}

-- PID 0 stands for no layer 3
abbrev pub no_layer_3 : ℕ
no_layer_3 = 0xf0

abbrev pub pid_or : ℕ → ℕ → ℕ
pid_or other pid = if pid == 0 then other else pid

abbrev pub idle_link : ℕ → ℕ → Callsign → Callsign → Path → Params → Link
idle_link id pid local remote path parameters = record {
  local = local;
  remote = remote;
  owner = Some id;
  pid = pid;
  machine = new_machine path parameters;
}

-- under a key
abbrev pub making : ℕ → ℕ → ℕ → Callsign → Callsign → Path → Act
making key id pid local remote path turn =
    changing (with_links (with_new_link key (idle_link id pid local remote path turn.now.parameters))) turn
