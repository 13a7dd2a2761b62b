-- What a KISS item of a connection asks of a station (Chepponis and Karn). The station has port 0 alone.
use Rattle.std.specs.Prelude.{ℕ, ◌==◌, not, if◌then◌else◌, List, map, Some, None}
use Rattle.channel_access.specs.Channel.{with_setting}
use Rattle.channel_access.specs.declared.parameters.Param.{Param}
use Rattle.channel_access.specs.declared.parameters.Param.TheVariants.{TxDelay, Persist, SlotTime, TxTail, FullDuplex}
use Rattle.kiss_port.specs.declared.item.KissItem.{KissItem}
use Rattle.kiss_port.specs.declared.item.KissItem.TheVariants.{Frame, AckFrame, Set, Hardware, Return, TooLong, Other}
use Rattle.hdlc_framer.specs.FrameLength.{has_frame_length}
use Rattle.station.specs.AgwRequests.{queueing_raw}
use Rattle.station.specs.State.{StationState}
use Rattle.station.specs.Turn.{Act, nothing, in_order, changing, queueing_own}

-- the parameter that a command from 1 to 5 sets
abbrev pub param_of : ℕ → ℕ → Param
param_of command value =
    if command == 1 then TxDelay value else
    if command == 2 then Persist value else
    if command == 3 then SlotTime value else
    if command == 4 then TxTail value else FullDuplex (not (value == 0))

abbrev pub with_param : Param → StationState → StationState
with_param param s = record s { channel = with_setting param s.channel }

abbrev pub on_port_0 : ℕ → Act → Act
on_port_0 port act turn = if port == 0 then act turn else turn

-- A frame whose sending the connection is told. What is no frame is passed over, and is told of never.
abbrev pub queueing_asked : ℕ → List ℕ → List ℕ → Act
queueing_asked id mark octets =
    if has_frame_length octets then queueing_own id (Some (record { id = id; mark = mark })) octets else nothing

abbrev pub heeding : ℕ → KissItem → Act
heeding id (Frame port octets) = on_port_0 port (queueing_raw id octets)
heeding id (AckFrame port mark octets) = on_port_0 port (queueing_asked id mark octets)
heeding id (Set port command value) = on_port_0 port (changing (with_param (param_of command value)))
heeding id (Hardware port octets) = nothing
heeding id Return = nothing
heeding id (TooLong port) = nothing
heeding id (Other port command) = nothing

abbrev pub heeding_all : ℕ → List KissItem → Act
heeding_all id items = in_order (map (heeding id) items)
