use Rattle.station.proofs.Common.{false, None, refl, showing, shown_to_hosts}
use Rattle.station.specs.Heard.{IsPathOf, noting}
use Rattle.station.specs.HostMessages.{no_call}
use Rattle.station.proofs.MonitorLemmas.{shows_nothing}
use Rattle.station.proofs.parts.Parts.hear.Goals as goal

-- what has no path is shown, and is no frame
pub returns-in_ok-show-in-Err-clause-heard : goal.returns-in_ok-show-in-Err-clause-heard
returns-in_ok-show-in-Err-clause-heard c = λ turn shows.
    let octets = c.args.octets.now in
    let none : IsPathOf octets None = λ path len begins.
    absurd (let read = c.in-Err.ensures.each_path path len begins in cc) in
    let shown = shows_nothing c.args.self.now c.show.new.out (showing no_call no_call octets turn)
    (c.in_ok-show-in-Err.ensures.shows turn shows) in (
      noting None false (shown_to_hosts None octets None turn),
      record {
        path = None;
        reading = none;
        monitored = None;
        read_as = λ frame is. none frame.path is.len is.path;
        between = shown_to_hosts None octets None turn;
        effect = refl;
        ours = false;
        is_ours = refl;
        told = refl;
      },
      c.note_unread.ensures.shows c.show.new.out (shown_to_hosts None octets None turn) shown,
    )
