use Rattle.station_laws.proofs.OwnRoom.{own_room}
use Rattle.station_laws.proofs.laws.own_room.Goals as goal

pub returns : goal.returns
returns c = own_room
