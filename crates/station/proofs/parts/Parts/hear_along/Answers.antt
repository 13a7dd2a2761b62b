use Rattle.station.proofs.Common.{◌≡◌, false, Some, MatchBool, refl, sym, ◌∙◌, subst, key_between, on_ok_weaker}
use Rattle.station.proofs.Common.{IsRepeatedFor, shown_to_hosts, StationState, Turn}
use Rattle.station.specs.Heard.{AreOctetsHeard, IsForLink, noting}
use Rattle.station.proofs.ShowLemmas.{shown_along, hosts_shown}
use Rattle.station.proofs.parts.Parts.hear_along.Goals as goal

pub returns-then-waits_for_repeater-clause-heard : goal.returns-then-waits_for_repeater-clause-heard
returns-then-waits_for_repeater-clause-heard c = λ turn len begins shows.
    let octets = c.args.octets.now in
    let path = c.args.path.now in
    let shown = shown_along c.args.self.now c.show.new.out c.monitor_heard.new.out path c.call_text.result
    c.call_text-2.result octets turn c.call_text.ensures c.call_text-2.ensures
    (c.in_ok-show.ensures.shows turn shows) c.in_ok-monitor_heard.ensures.shows in
    let all : Turn = shown_to_hosts (Some path) octets shown.0 turn in
    let p = c.in_ok-repeat.ensures.repeated all shown.2 in
    let waits = sym c.waits_for_repeater.ensures ∙ c.if-waits_for_repeater.true in
    on_ok_weaker c.note.result (λ noted. (
      noting (Some path) false p.0,
      record {
        path = Some path;
        reading = (len, begins);
        monitored = shown.0;
        read_as = shown.1;
        between = p.0;
        effect = subst (λ waits. MatchBool waits (IsRepeatedFor all.now.digi octets all p.0)
            (AreOctetsHeard path octets all p.0)) (sym waits) p.1;
        ours = false;
        is_ours = subst (λ waits. MatchBool waits (false ≡ false)
            (IsForLink (key_between path.dest path.source turn.now.links) octets turn.now false)) (sym waits) refl;
        told = refl;
      },
      noted,
    )) (c.note.ensures.shows c.repeat.new.out p.0 p.2)

pub returns-clause-heard : goal.returns-clause-heard
returns-clause-heard c = λ turn len begins shows.
    let octets = c.args.octets.now in
    let path = c.args.path.now in
    let shown = shown_along c.args.self.now c.show.new.out c.monitor_heard.new.out path c.call_text.result
    c.call_text-2.result octets turn c.call_text.ensures c.call_text-2.ensures
    (c.in_ok-show.ensures.shows turn shows) c.in_ok-monitor_heard.ensures.shows in
    let all : Turn = shown_to_hosts (Some path) octets shown.0 turn in
    let p = c.in_ok-ours.ensures.heard all shown.2 in
    let waits = sym c.waits_for_repeater.ensures ∙ c.if-waits_for_repeater.false in
    let ours = c.in_ok-ours.ours in
    let is = subst (λ (s : StationState). IsForLink (key_between path.dest path.source s.links) octets s ours)
    (hosts_shown (Some path) octets shown.0 turn) (c.in_ok-ours.ensures.ours all shown.2) in
    on_ok_weaker c.note-2.result (λ noted. (
      noting (Some path) ours p.0,
      record {
        path = Some path;
        reading = (len, begins);
        monitored = shown.0;
        read_as = shown.1;
        between = p.0;
        effect = subst (λ waits. MatchBool waits (IsRepeatedFor all.now.digi octets all p.0)
            (AreOctetsHeard path octets all p.0)) (sym waits) p.1;
        ours = ours;
        is_ours = subst (λ waits. MatchBool waits (ours ≡ false)
            (IsForLink (key_between path.dest path.source turn.now.links) octets turn.now ours)) (sym waits) is;
        told = refl;
      },
      noted,
    )) (c.note-2.ensures.shows c.hear_octets.new.out p.0 p.2)
