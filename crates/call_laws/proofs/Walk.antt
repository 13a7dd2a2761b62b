-- What each step of a station sends to a connection, act by act.
use Rattle.station_laws.proofs.Common.{◌≡◌, ℕ, ◌==◌, ◌&&◌, nat_lt, nat_le, Bool, true, false, List, [], ◌∷◌, ◌++◌}
use Rattle.station_laws.proofs.Common.{length, map, drop, cond, if◌then◌else◌, Option, Some, None, is_none, refl, sym}
use Rattle.station_laws.proofs.Common.{is_some, ap, ◌∙◌, subst, inl, inr, ⊤, MatchBool, eqb-true, append-nil, and_parts}
use Rattle.station_laws.proofs.Common.{recursion_from_All, BeginsWithPath-same, BeginsWithPath, Callsign, way_back}
use Rattle.station_laws.proofs.Common.{Path, Command, Frame, Kind, Info, Super, Setup, Ui, Eight, IsFrame}
use Rattle.station_laws.proofs.Common.{bad_length_in, AgwMessage, repeated, KissItem, Set, Hardware, Return, TooLong}
use Rattle.station_laws.proofs.Common.{HostEvent, Joined, Bytes, Left, PortKind, Kiss, Agw, version_kind, ports_kind}
use Rattle.station_laws.proofs.Common.{capabilities_kind, register_kind, unregister_kind, toggle_kind, monitor_kind}
use Rattle.station_laws.proofs.Common.{raw_kind, unproto_kind, unproto_via_kind, data_kind, disconnect_kind}
use Rattle.station_laws.proofs.Common.{heard_kind, heard_reply, replying_heard, HeardStation}
use Rattle.station_laws.proofs.Common.{pending_kind, waiting_kind, replying, version_reply, ports_reply}
use Rattle.station_laws.proofs.Common.{capabilities_reply, toggled, monitor_toggled, register_reply, with_registration}
use Rattle.station_laws.proofs.Common.{registering, unregistering, queueing_raw, most_information, unnumbered_frame}
use Rattle.station_laws.proofs.Common.{sending_unnumbered, refused_reply, may_call, calls, called_route, called_pid}
use Rattle.station_laws.proofs.Common.{IsCall, IsCallMade, own_key, giving, disconnecting, pending_in, pending_reply}
use Rattle.station_laws.proofs.Common.{waiting_reply, answering_else, AreAnswered, has_frame_length, call_in}
use Rattle.station_laws.proofs.Common.{Connection, connection_of, frame_octets, has_place, IsHeard, IsHeardBy}
use Rattle.station_laws.proofs.Common.{IsHeardAnew, IsHeardMaking, IsReadingHeardAnew, IsRepeatedFor, AreHeardAt}
use Rattle.station_laws.proofs.Common.{AreOctetsHeard, may_make, with_shown, shown_to_hosts, showing_to, source_field}
use Rattle.station_laws.proofs.Common.{destination_field, waits_for_repeater, joining, with_host, new_messages}
use Rattle.station_laws.proofs.Common.{new_items, taking, ending, AreTaken, AreTakenBy, IsHostTurn, IsPathOf, param_of}
use Rattle.station_laws.proofs.Common.{with_param, heeding, heeding_all, leaving, is_between, key_between, making}
use Rattle.station_laws.proofs.Common.{idle_link, no_layer_3, registrar, may_register, is_number, Route, route_in}
use Rattle.station_laws.proofs.Common.{repeaters_in, after_repeaters, path_along, asked_links, Out, Turn, Act}
use Rattle.station_laws.proofs.Common.{in_order, changing, closing, dropping, may_enter, Input}
use Rattle.station_laws.proofs.Common.{IsTurn, FromHost, OffAir, OfClock, LinkStep, tick_steps, leaving_steps}
use Rattle.station_laws.proofs.Common.{made_steps, call_steps, data_steps, disconnect_steps, else_steps, answer_steps}
use Rattle.station_laws.proofs.Common.{message_steps, ending_steps, octet_steps_by, octet_steps, host_steps, hears_at}
use Rattle.station_laws.proofs.Common.{new_steps, anew_steps, reading_steps, key_steps, path_steps, by_path_steps}
use Rattle.station_laws.proofs.Common.{heard_steps, turn_steps, first_chosen, most_links, Step, steps_of}
use Rattle.std.specs.Prelude.{filter}
use Rattle.std.specs.List.{AllByRecursion as Each}
use Rattle.std.proofs.lemmas.Bool.{false_from_ne_true}
use Rattle.ax25_address.specs.Callsign.{IsCall as IsValidCall}
use Rattle.ax25_frames.specs.declared.frame.Kind.TheVariants.{Other as OtherKind}
use Rattle.ax25_frames.specs.declared.frame.Modulus.{Modulus}
use Rattle.frame_monitor.specs.MonitorText.{monitor_letter}
use Rattle.agwpe_port.specs.Messages.{spelling, messages_in}
use Rattle.agwpe_client.specs.CallMessages.{connect_kind}
use Rattle.agwpe_client.specs.CallRun.{CallPlan}
use Rattle.kiss_port.specs.WebRequests.{is_web_request}
use Rattle.kiss_port.specs.declared.item.KissItem.TheVariants.{Frame as KissFrame, AckFrame, Other}
use Rattle.link_machine.specs.Event.Event.{Connect as LinkConnect, Hear as LinkHear}
use Rattle.station.specs.AgwKinds.{connect_via_kind}
use Rattle.station.specs.Heard.{IsReadAs, hearing_at, kiss_data, showing, noting}
use Rattle.station.specs.Askers.{answer_of, pieces_for, sent_pieces, speaks_kiss}
use Rattle.station.specs.HostMessages.{raw_message}
use Rattle.station.specs.Kiss.{queueing_asked}
use Rattle.station.specs.Links.{IsNewKey, Links, count_of_links}
use Rattle.station.specs.Monitoring.{monitor_message, monitor_pieces, monitoring, piece_for, to_monitors}
use Rattle.station.specs.Ticks.{IsSentFrame, air_in, telling_sent, ticking}
use Rattle.station.specs.Turn.{begin, entering_for, queueing_for, queueing_own}
use Rattle.station.specs.declared.asker.Asker.{Asker}
use Rattle.station.specs.declared.host_out.Piece.{Piece}
use Rattle.channel_access.specs.declared.air_tick.Sent.{Sent}
use Rattle.station_laws.proofs.Closings.{IsOpen, ending_closes, messages_close, open_before, open_other, register_closes}
use Rattle.station_laws.proofs.Common.{◌≢◌, cond-false, loser, loser_steps, passing, passing_steps, shut_steps, shutting}
use Rattle.station_laws.proofs.Common.{shutting_loser}
use Rattle.station_laws.proofs.HostsStand.{asked_hosts, no_kiss, told_is_other}
use Rattle.station_laws.proofs.OwnerLemmas.{queued_pieces_for}
use Rattle.station_laws.proofs.Standing.{chosen_calls}
use Rattle.station_laws.proofs.Tables.{none_chosen}
use Rattle.station_laws.proofs.ValidCalls.{none_by_position, no_or_few, route_valid}
use Rattle.call_laws.specs.Client.{IsBetweenCalls, IsClientStep, Stays}
use Rattle.call_laws.proofs.CallFields.{field_ten, sent_back_ten}
use Rattle.call_laws.proofs.Collect.{IsNoneOf}
use Rattle.call_laws.proofs.LinkActs.{Does, MayMake, data_does, disconnect_does, does_on, event_does, leaving_does}
use Rattle.call_laws.proofs.LinkActs.{made_does, meant, same_does, says_does, silent_does, ticks_do}
use Rattle.call_laws.proofs.Sayings.{HasTen, SaysOnly, new_ten, none_by_kind, piece_with, says_both, says_nothing}
use Rattle.call_laws.proofs.Sayings.{says_one, says_other}

module _ (id : ℕ) (plan : CallPlan) (called : IsBetweenCalls plan) where
  -- ---- replies

  reply_does :
      (host : ℕ) (message : AgwMessage) (turn : Turn) → HasTen message → (message.kind == connect_kind) ≡ false
      → (message.kind == data_kind) ≡ false → Does id plan turn [] (replying host message turn)
  reply_does host message turn ten no_connect no_data =
      says_does id plan turn (replying host message turn) (piece_with host message ∷ []) refl
      (says_one id host plan message ten (none_by_kind plan message no_connect no_data)) refl

  -- H
  heard_replies_do : (host : ℕ) (heard : List HeardStation) (turn : Turn)
      → Does id plan turn [] (replying_heard host heard turn)
  heard_replies_do host [] turn = same_does id plan turn
  heard_replies_do host (station ∷ stations) turn =
      let told = replying host (heard_reply station) turn in
      does_on id plan turn told (replying_heard host stations told) [] []
      (reply_does host (heard_reply station) turn (record { from = refl; to = refl }) refl refl)
      (heard_replies_do host stations told)

  registering_does :
      (host : ℕ) (from : List ℕ) (call : Option Callsign) (turn : Turn) → length from ≡ 10
      → Does id plan turn [] (registering host from call turn)
  registering_does host from None turn ten =
      reply_does host (register_reply from false) turn (record { from = sent_back_ten from ten; to = refl }) refl refl
  registering_does host from (Some call) turn ten = go (may_register host (registrar call turn.now.registrations))
    where
      go : (b : Bool) → Does id plan turn []
          (cond b (replying host (register_reply from true) (changing (with_registration call host) turn))
          (replying host (register_reply from false) turn))
      go true =
          does_on id plan turn (changing (with_registration call host) turn)
          (replying host (register_reply from true) (changing (with_registration call host) turn)) [] []
          (silent_does id plan turn (changing (with_registration call host) turn) refl refl)
          (reply_does host (register_reply from true) (changing (with_registration call host) turn)
          (record { from = sent_back_ten from ten; to = refl }) refl refl)
      go false =
          reply_does host (register_reply from false) turn (record { from = sent_back_ten from ten; to = refl }) refl
          refl

  unregistering_does : (host : ℕ) (call : Option Callsign) (turn : Turn)
      → Does id plan turn [] (unregistering host call turn)
  unregistering_does host None turn = same_does id plan turn
  unregistering_does host (Some call) turn = silent_does id plan turn (unregistering host (Some call) turn) refl refl

  -- ---- what is only queued

  queued_links : (owner : Option ℕ) (asker : Option Asker) (octets : List ℕ) (turn : Turn)
      → (queueing_for owner asker None octets turn).now.links ≡ turn.now.links
  queued_links owner asker octets turn = go (may_enter owner turn.now)
    where
      go : (b : Bool) → (cond b (entering_for owner asker None octets turn) (dropping turn)).now.links ≡ turn.now.links
      go true = refl
      go false = refl

  queueing_does : (owner : Option ℕ) (asker : Option Asker) (octets : List ℕ) (turn : Turn)
      → Does id plan turn [] (queueing_for owner asker None octets turn)
  queueing_does owner asker octets turn =
      silent_does id plan turn (queueing_for owner asker None octets turn)
      (queued_pieces_for owner asker None octets turn) (queued_links owner asker octets turn)

  raw_does : (host : ℕ) (octets : List ℕ) (turn : Turn) → Does id plan turn [] (queueing_raw host octets turn)
  raw_does host octets turn = go (has_frame_length octets)
    where
      go : (b : Bool) → Does id plan turn [] ((if b then queueing_own host None octets else (λ t. t)) turn)
      go true = queueing_does (Some host) None octets turn
      go false = same_does id plan turn

  -- a frame whose sending a host is told
  asked_does : (host : ℕ) (mark octets : List ℕ) (turn : Turn)
      → Does id plan turn [] (queueing_asked host mark octets turn)
  asked_does host mark octets turn = go (has_frame_length octets)
    where
      asker : Option Asker
      asker = Some (record { id = host; mark = mark })

      go : (b : Bool) → Does id plan turn [] ((if b then queueing_own host asker octets else (λ t. t)) turn)
      go true = queueing_does (Some host) asker octets turn
      go false = same_does id plan turn

  unnumbered_does : (host pid : ℕ) (information : List ℕ) (route : Option Route) (turn : Turn)
      → Does id plan turn [] (sending_unnumbered host pid information route turn)
  unnumbered_does host pid information None turn = same_does id plan turn
  unnumbered_does host pid information (Some route) turn = go (nat_le (length information) most_information)
    where
      go : (b : Bool)
          → Does id plan turn []
          ((if b then queueing_own host None (frame_octets Eight (unnumbered_frame route pid information))
          else (λ t. t)) turn)
      go true = queueing_does (Some host) None (frame_octets Eight (unnumbered_frame route pid information)) turn
      go false = same_does id plan turn

  -- ---- a message that makes no link

  -- one of two acts, by a test of numbers
  by_kind :
      (P : Turn → List LinkStep → Type 0) (k c : ℕ) (x y : Turn) (xs : List LinkStep) → (k ≡ c → P x xs) → P y xs
      → P (cond (k == c) x y) xs
  by_kind P k c x y xs same other = go (k == c) refl
    where
      go : (b : Bool) → (k == c) ≡ b → P (cond b x y) xs
      go true is = same (eqb-true k c is)
      go false is = other

  -- the same, and what the test says
  by_other :
      (P : Turn → List LinkStep → Type 0) (k c : ℕ) (x y : Turn) (xs : List LinkStep) → (k ≡ c → P x xs)
      → ((k == c) ≡ false → P y xs) → P (cond (k == c) x y) xs
  by_other P k c x y xs same other = go (k == c) refl
    where
      go : (b : Bool) → (k == c) ≡ b → P (cond b x y) xs
      go true is = same (eqb-true k c is)
      go false is = other is

  abbrev choice : ℕ → (pass_list data_list disconnect_list : List LinkStep) → List LinkStep
  choice k pass_list data_list disconnect_list =
      cond (k == register_kind) pass_list
      (cond (k == data_kind) data_list (cond (k == disconnect_kind) disconnect_list []))

  -- a connection that is closed, which is another one
  shut_does : (host : ℕ) (turn : Turn) → IsOpen id (shutting host turn)
      → Does id plan turn (shut_steps (meant plan) host turn) (shutting host turn)
  shut_does host turn stays =
      does_on id plan turn (closing host turn) (shutting host turn) [] (shut_steps (meant plan) host turn)
      (silent_does id plan turn (closing host turn) refl refl)
      (leaving_does id plan called host (open_other id host turn stays) (closing host turn))

  loser_does : (other : Option ℕ) (turn : Turn) → IsOpen id (shutting_loser other turn)
      → Does id plan turn (loser_steps (meant plan) other turn) (shutting_loser other turn)
  loser_does None turn stays = same_does id plan turn
  loser_does (Some other) turn stays = shut_does other turn stays

  passing_does : (host : ℕ) (call : Option Callsign) (turn : Turn) → IsOpen id (passing host call turn)
      → Does id plan turn (passing_steps (meant plan) host call turn) (passing host call turn)
  passing_does host None turn stays = same_does id plan turn
  passing_does host (Some call) turn stays = loser_does (loser host call turn.now) turn stays

  -- X
  passed_does :
      (host : ℕ) (from : List ℕ) (call : Option Callsign) (turn : Turn) → length from ≡ 10
      → IsOpen id (registering host from call (passing host call turn))
      → Does id plan turn (passing_steps (meant plan) host call turn)
      (registering host from call (passing host call turn))
  passed_does host from call turn ten stays =
      let passed = passing host call turn in
      let after = registering host from call passed in
      let steps = passing_steps (meant plan) host call turn in
      subst (λ all. Does id plan turn all after) (append-nil steps)
      (does_on id plan turn passed after steps []
      (passing_does host call turn (subst (Each (λ other. other ≢ id)) (register_closes host from call passed) stays))
      (registering_does host from call passed ten))

  pub else_does :
      (host : ℕ) (message : AgwMessage) (turn : Turn) → HasTen message → IsOpen id (answering_else host message turn)
      → Does id plan turn (else_steps (meant plan) host message turn) (answering_else host message turn)
  else_does host message turn ten =
      let from = message.from in
      let call = call_in from in
      let ws = passing_steps (meant plan) host call turn in
      let k = message.kind in
      let key = own_key host message turn.now.links in
      let xs = data_steps (meant plan) message key turn in
      let ys = disconnect_steps (meant plan) key turn in
      let all = else_steps (meant plan) host message turn in
      let P : Turn → List LinkStep → Type 0 = λ after steps. IsOpen id after → Does id plan turn steps after in
      let calm : (c : ℕ) (after : Turn) → choice c ws xs ys ≡ [] → Does id plan turn [] after → k ≡ c
      → P after (choice k ws xs ys) =
      λ c after none h is stays.
      subst (λ steps. Does id plan turn steps after) (sym (ap (λ n. choice n ws xs ys) is ∙ none)) h in
      by_kind P k version_kind (replying host version_reply turn) _ all
      (calm version_kind (replying host version_reply turn) refl
      (reply_does host version_reply turn (record { from = refl; to = refl }) refl refl))
      (by_kind P k ports_kind (replying host ports_reply turn) _ all
      (calm ports_kind (replying host ports_reply turn) refl
      (reply_does host ports_reply turn (record { from = refl; to = refl }) refl refl))
      (by_kind P k capabilities_kind (replying host (capabilities_reply turn.now) turn) _ all
      (calm capabilities_kind (replying host (capabilities_reply turn.now) turn) refl
      (reply_does host (capabilities_reply turn.now) turn (record { from = refl; to = refl }) refl refl))
      (by_other P k register_kind (registering host from call (passing host call turn)) _ all
      (λ is stays. subst (λ steps. Does id plan turn steps (registering host from call (passing host call turn)))
      (sym (ap (λ n. choice n ws xs ys) is)) (passed_does host from call turn ten.from stays))
      (λ no_register. by_kind P k unregister_kind (unregistering host (call_in message.from) turn) _ all
      (calm unregister_kind (unregistering host (call_in message.from) turn) refl
      (unregistering_does host (call_in message.from) turn))
      (by_kind P k toggle_kind (changing (toggled host) turn) _ all
      (calm toggle_kind (changing (toggled host) turn) refl
      (silent_does id plan turn (changing (toggled host) turn) refl refl))
      (by_kind P k monitor_kind (changing (monitor_toggled host) turn) _ all
      (calm monitor_kind (changing (monitor_toggled host) turn) refl
      (silent_does id plan turn (changing (monitor_toggled host) turn) refl refl))
      (by_kind P k raw_kind (queueing_raw host (drop 1 message.body) turn) _ all
      (calm raw_kind (queueing_raw host (drop 1 message.body) turn) refl (raw_does host (drop 1 message.body) turn))
      (by_kind P k unproto_kind
      (sending_unnumbered host message.pid message.body (route_in message.from message.to (Some [])) turn) _ all
      (calm unproto_kind (sending_unnumbered host message.pid message.body (route_in message.from message.to (Some [])) turn)
      refl (unnumbered_does host message.pid message.body (route_in message.from message.to (Some [])) turn))
      (by_kind P k unproto_via_kind (sending_unnumbered host message.pid (after_repeaters message.body)
      (route_in message.from message.to (repeaters_in message.body)) turn) _ all
      (calm unproto_via_kind (sending_unnumbered host message.pid (after_repeaters message.body)
      (route_in message.from message.to (repeaters_in message.body)) turn) refl
      (unnumbered_does host message.pid (after_repeaters message.body)
      (route_in message.from message.to (repeaters_in message.body)) turn))
      (λ stays. without_register no_register))))))))))
    where
      last : Does id plan turn [] (cond (message.kind == pending_kind)
          (replying host (pending_reply message (pending_in message turn.now.links)) turn)
          (cond (message.kind == waiting_kind) (replying host (waiting_reply (length turn.now.channel.waiting)) turn)
          (cond (message.kind == heard_kind) (replying_heard host turn.now.heard turn) turn)))
      last = go (message.kind == pending_kind) (message.kind == waiting_kind) (message.kind == heard_kind)
        where
          go : (b d e : Bool) → Does id plan turn []
              (cond b (replying host (pending_reply message (pending_in message turn.now.links)) turn)
              (cond d (replying host (waiting_reply (length turn.now.channel.waiting)) turn)
              (cond e (replying_heard host turn.now.heard turn) turn)))
          go true d e = reply_does host (pending_reply message (pending_in message turn.now.links)) turn
              (record { from = sent_back_ten message.from ten.from; to = sent_back_ten message.to ten.to }) refl refl
          go false true e = reply_does host (waiting_reply (length turn.now.channel.waiting)) turn
              (record { from = refl; to = refl }) refl refl
          go false false true = heard_replies_do host turn.now.heard turn
          go false false false = same_does id plan turn

      rest :
          (b d : Bool) (xs ys : List LinkStep)
          → Does id plan turn xs (giving message (own_key host message turn.now.links) turn)
          → Does id plan turn ys (disconnecting (own_key host message turn.now.links) turn)
          → Does id plan turn (cond b xs (cond d ys []))
          (cond b (giving message (own_key host message turn.now.links) turn)
          (cond d (disconnecting (own_key host message turn.now.links) turn)
          (cond (message.kind == pending_kind)
          (replying host (pending_reply message (pending_in message turn.now.links)) turn)
          (cond (message.kind == waiting_kind) (replying host (waiting_reply (length turn.now.channel.waiting)) turn)
          (cond (message.kind == heard_kind) (replying_heard host turn.now.heard turn) turn)))))
      rest true d xs ys one two = one
      rest false true xs ys one two = two
      rest false false xs ys one two = last

      remaining : Turn
      remaining =
          cond (message.kind == data_kind) (giving message (own_key host message turn.now.links) turn)
          (cond (message.kind == disconnect_kind) (disconnecting (own_key host message turn.now.links) turn)
          (cond (message.kind == pending_kind)
          (replying host (pending_reply message (pending_in message turn.now.links)) turn)
          (cond (message.kind == waiting_kind) (replying host (waiting_reply (length turn.now.channel.waiting)) turn)
          (cond (message.kind == heard_kind) (replying_heard host turn.now.heard turn) turn))))

      without_register : (message.kind == register_kind) ≡ false
          → Does id plan turn (else_steps (meant plan) host message turn) remaining
      without_register no_register =
          let key = own_key host message turn.now.links in
          let xs = data_steps (meant plan) message key turn in
          let ys = disconnect_steps (meant plan) key turn in
          subst (λ steps. Does id plan turn steps remaining)
          (sym (cond-false (message.kind == register_kind) (passing_steps (meant plan) host (call_in message.from) turn)
          (cond (message.kind == data_kind) xs (cond (message.kind == disconnect_kind) ys [])) no_register))
          (rest (message.kind == data_kind) (message.kind == disconnect_kind) xs ys
          (data_does id plan called message key turn) (disconnect_does id plan called key turn))

  -- ---- a message that calls

  refused_does : (host : ℕ) (message : AgwMessage) (turn : Turn) → HasTen message
      → Does id plan turn [] (replying host (refused_reply message) turn)
  refused_does host message turn ten =
      reply_does host (refused_reply message) turn
      (record { from = sent_back_ten message.to ten.to; to = sent_back_ten message.from ten.from }) refl refl

  call_made :
      (host pid : ℕ) (message : AgwMessage) (route : Route) (turn : Turn) (key : ℕ)
      → called_route message ≡ Some route → may_call host route turn.now ≡ true
      → IsNewKey key turn.now.links
      → MayMake plan turn key (idle_link host pid route.local route.remote (path_along route) turn.now.parameters)
  call_made host pid message route turn key is may new =
      let link = idle_link host pid route.local route.remote (path_along route) turn.now.parameters in
      let valid = route_valid message.from message.to
      (if message.kind == connect_via_kind then repeaters_in message.body else Some []) route
      (no_or_few (message.kind == connect_via_kind) message.body) is in
      let tests = and_parts (is_number host (registrar route.local turn.now.registrations))
      (is_none (key_between route.local route.remote turn.now.links)
      && nat_lt (count_of_links turn.now.links) most_links) may in
      let vacant = and_parts (is_none (key_between route.local route.remote turn.now.links))
      (nat_lt (count_of_links turn.now.links) most_links) tests.1 in
      record {
        new = new;
        valid = record { local_valid = valid.local_valid; remote_valid = valid.remote_valid };
        idle = refl;
        none = λ chosen. let calls = chosen_calls plan.own plan.remote link chosen in
            subst (λ (l : Callsign). first_chosen (is_between l plan.remote) turn.now.links.places ≡ None)
            calls.local_is
            (subst (λ (r : Callsign). first_chosen (is_between route.local r) turn.now.links.places ≡ None)
            calls.remote_is
            (none_chosen (is_between route.local route.remote) turn.now.links.places
            (none_by_position (is_between route.local route.remote) turn.now.links.places vacant.0)));
      }

  made_call_does :
      (host pid : ℕ) (message : AgwMessage) (route : Route) (may : Bool) (before after : Turn) → HasTen message
      → called_route message ≡ Some route → may_call host route before.now ≡ may
      → (h : MatchBool may (IsCallMade host pid route before after)
      (after ≡ replying host (refused_reply message) before))
      → Does id plan before (made_steps (meant plan) host pid message route may before after h) after
  made_call_does host pid message route true before after ten is may h =
      let link = idle_link host pid route.local route.remote (path_along route) before.now.parameters in
      let made = making h.0 host pid route.local route.remote (path_along route) before in
      subst (Does id plan before (made_steps (meant plan) host pid message route true before after h)) (sym h.2)
      (made_does id plan called before h.0 link (path_along route) made LinkConnect
      (call_made host pid message route before h.0 is may h.1) refl)
  made_call_does host pid message route false before after ten is may h =
      subst (Does id plan before []) (sym h) (refused_does host message before ten)

  call_does :
      (host : ℕ) (message : AgwMessage) (route : Option Route) (before after : Turn) → HasTen message
      → called_route message ≡ route → (h : IsCall host message route before after)
      → Does id plan before (call_steps (meant plan) host message route before after h) after
  call_does host message None before after ten is h =
      subst (Does id plan before []) (sym h) (refused_does host message before ten)
  call_does host message (Some route) before after ten is h =
      made_call_does host (called_pid message) message route (may_call host route before.now) before after ten is refl h

  answer_does :
      (host : ℕ) (message : AgwMessage) (calling : Bool) (before after : Turn) → HasTen message → IsOpen id after
      → (h : MatchBool calling (IsCall host message (called_route message) before after)
      (after ≡ answering_else host message before))
      → Does id plan before (answer_steps (meant plan) host message calling before after h) after
  answer_does host message true before after ten stays h =
      call_does host message (called_route message) before after ten refl h
  answer_does host message false before after ten stays h =
      subst (Does id plan before (else_steps (meant plan) host message before)) (sym h)
      (else_does host message before ten (subst (IsOpen id) h stays))

  messages_do :
      (host : ℕ) (messages : List AgwMessage) (before after : Turn) → Each HasTen messages → IsOpen id after
      → (h : AreAnswered host messages before after)
      → Does id plan before (message_steps (meant plan) host messages before after h) after
  messages_do host [] before after ten stays h = subst (Does id plan before []) (sym h) (same_does id plan before)
  messages_do host (message ∷ messages) before after ten stays h =
      let between = open_before id h.0 after [] (messages_close host messages h.0 after h.2) stays in
      does_on id plan before h.0 after (answer_steps (meant plan) host message (calls message) before h.0 h.1)
      (message_steps (meant plan) host messages h.0 after h.2)
      (answer_does host message (calls message) before h.0 ten.0 between h.1)
      (messages_do host messages h.0 after ten.1 stays h.2)

  -- a connection that is perhaps read no further
  ending_does : (host : ℕ) (ends : Bool) (turn : Turn) → IsOpen id (ending host ends turn)
      → Does id plan turn (ending_steps (meant plan) host ends turn) (ending host ends turn)
  ending_does host false turn stays = same_does id plan turn
  ending_does host true turn stays = shut_does host turn stays

  -- ---- KISS

  on_port_does : (port : ℕ) (act : Act) (turn : Turn) → Does id plan turn [] (act turn)
      → Does id plan turn [] (cond (port == 0) (act turn) turn)
  on_port_does port act turn h = go (port == 0)
    where
      go : (b : Bool) → Does id plan turn [] (cond b (act turn) turn)
      go true = h
      go false = same_does id plan turn

  heeding_does : (host : ℕ) (item : KissItem) (turn : Turn) → Does id plan turn [] (heeding host item turn)
  heeding_does host (KissFrame port octets) turn = on_port_does port (queueing_raw host octets) turn
      (raw_does host octets turn)
  heeding_does host (AckFrame port mark octets) turn =
      on_port_does port (queueing_asked host mark octets) turn (asked_does host mark octets turn)
  heeding_does host (Set port command value) turn =
      on_port_does port (changing (with_param (param_of command value))) turn
      (silent_does id plan turn (changing (with_param (param_of command value)) turn) refl refl)
  heeding_does host (Hardware port octets) turn = same_does id plan turn
  heeding_does host Return turn = same_does id plan turn
  heeding_does host (TooLong port) turn = same_does id plan turn
  heeding_does host (Other port command) turn = same_does id plan turn

  heeding_all_does : (host : ℕ) (items : List KissItem) (turn : Turn)
      → Does id plan turn [] (heeding_all host items turn)
  heeding_all_does host [] turn = same_does id plan turn
  heeding_all_does host (item ∷ items) turn =
      does_on id plan turn (heeding host item turn) (heeding_all host items (heeding host item turn)) [] []
      (heeding_does host item turn) (heeding_all_does host items (heeding host item turn))

  -- ---- an event of a host

  octets_do_by :
      (kind : PortKind) (connection : Connection) (octets : List ℕ) (before after : Turn)
      → IsOpen id after → (h : AreTakenBy kind connection octets before after)
      → Does id plan before (octet_steps_by (meant plan) kind connection octets before after h) after
  octets_do_by Kiss connection octets before after stays h =
      let taken = taking connection.id octets before in
      let heeded = heeding_all connection.id (new_items connection.stream octets) taken in
      let web = is_web_request (connection.stream ++ octets) in
      let left = ending_steps (meant plan) connection.id web heeded in
      subst (Does id plan before left) (sym h)
      (does_on id plan before taken (ending connection.id web heeded) [] left
      (silent_does id plan before taken refl refl)
      (does_on id plan taken heeded (ending connection.id web heeded) [] left
      (heeding_all_does connection.id (new_items connection.stream octets) taken)
      (ending_does connection.id web heeded (subst (IsOpen id) h stays))))
  octets_do_by Agw connection octets before after stays h =
      let taken = taking connection.id octets before in
      let bad = is_some (bad_length_in (connection.stream ++ octets)) in
      let messages = new_messages connection.stream octets in
      let first = message_steps (meant plan) connection.id messages taken h.0 h.1 in
      let second = ending_steps (meant plan) connection.id bad h.0 in
      let ended : IsOpen id (ending connection.id bad h.0) = subst (IsOpen id) h.2 stays in
      let between = open_before id h.0 (ending connection.id bad h.0) [] (ending_closes connection.id bad h.0) ended in
      subst (Does id plan before (octet_steps_by (meant plan) Agw connection octets before after h)) (sym h.2)
      (does_on id plan before taken (ending connection.id bad h.0) [] (first ++ second)
      (silent_does id plan before taken refl refl)
      (does_on id plan taken h.0 (ending connection.id bad h.0) first second
      (messages_do connection.id messages taken h.0
      (new_ten (length (messages_in connection.stream)) (connection.stream ++ octets)) between h.1)
      (ending_does connection.id bad h.0 ended)))

  octets_do :
      (connection : Option Connection) (octets : List ℕ) (before after : Turn) → IsOpen id after
      → (h : AreTaken connection octets before after)
      → Does id plan before (octet_steps (meant plan) connection octets before after h) after
  octets_do None octets before after stays h =
      subst (Does id plan before []) (sym h) (same_does id plan before)
  octets_do (Some connection) octets before after stays h =
      octets_do_by connection.kind connection octets before after stays h

  joining_does : (host : ℕ) (kind : PortKind) (turn : Turn) → Does id plan turn [] (joining host kind turn)
  joining_does host kind turn = go (has_place turn.now)
    where
      go : (b : Bool) → Does id plan turn [] (cond b (changing (with_host host kind) turn) (closing host turn))
      go true = silent_does id plan turn (changing (with_host host kind) turn) refl refl
      go false = silent_does id plan turn (closing host turn) refl refl

  host_does :
      (event : HostEvent) (before after : Turn) → Stays id (FromHost event) after.out.closed
      → (h : IsHostTurn event before after)
      → Does id plan before (host_steps (meant plan) event before after h) after
  host_does (Joined host kind) before after stays h =
      subst (Does id plan before []) (sym h) (joining_does host kind before)
  host_does (Bytes host octets) before after stays h =
      octets_do (connection_of host before.now.connections) octets before after
      (recursion_from_All (λ n. n ≢ id) after.out.closed stays) h
  host_does (Left host) before after stays h =
      subst (Does id plan before (host_steps (meant plan) (Left host) before after h)) (sym h)
      (leaving_does id plan called host stays before)

  -- ---- what is shown

  -- the piece that a connection is shown
  shown_says :
      (kind : PortKind) (host : ℕ) (raw : Bool) (from to octets : List ℕ) (out : Out) → (host ≡ id → kind ≡ Agw)
      → length from ≡ 10 → length to ≡ 10
      → (more : List Piece) × ((with_shown kind host raw from to octets out).pieces ≡ out.pieces ++ more)
      × SaysOnly id plan more
  shown_says Kiss host raw from to octets out agw from_ten to_ten =
      let p : Piece = record { id = host; octets = kiss_data octets } in (
        p ∷ [],
        refl,
        says_other id plan p
            (false_from_ne_true (host == id) (λ e. let clash : Kiss ≡ Agw = agw (eqb-true host id e) in absurd (cc))),
      )
  shown_says Agw host false from to octets out agw from_ten to_ten =
      ([], sym (append-nil out.pieces), says_nothing id plan)
  shown_says Agw host true from to octets out agw from_ten to_ten =
      let message = raw_message from to octets in (
        piece_with host message ∷ [],
        refl,
        says_one id host plan message (record { from = from_ten; to = to_ten }) (none_by_kind plan message refl refl),
      )

  showing_does :
      (from to octets : List ℕ) (connections : List Connection) (turn : Turn)
      → Each (λ (c : Connection). c.id ≡ id → c.kind ≡ Agw) connections → length from ≡ 10 → length to ≡ 10
      → Does id plan turn [] (in_order (map (showing_to from to octets) connections) turn)
  showing_does from to octets [] turn agw from_ten to_ten = same_does id plan turn
  showing_does from to octets (c ∷ connections) turn agw from_ten to_ten =
      let one = shown_says c.kind c.id c.raw from to octets turn.out agw.0 from_ten to_ten in
      let next = showing_to from to octets c turn in
      does_on id plan turn next (in_order (map (showing_to from to octets) connections) next) [] []
      (says_does id plan turn next one.0 one.1 one.2 refl)
      (showing_does from to octets connections next agw.1 from_ten to_ten)

  -- the letter of a frame that is shown in words
  letter_connect : (sent : Bool) (kind : Kind) → (monitor_letter sent kind == connect_kind) ≡ false
  letter_connect true kind = refl
  letter_connect false (Info ns nr poll pid octets) = refl
  letter_connect false (Super which nr flag) = refl
  letter_connect false (Setup which flag) = refl
  letter_connect false (Ui flag pid octets) = refl
  letter_connect false (OtherKind which flag octets) = refl

  letter_data : (sent : Bool) (kind : Kind) → (monitor_letter sent kind == data_kind) ≡ false
  letter_data true kind = refl
  letter_data false (Info ns nr poll pid octets) = refl
  letter_data false (Super which nr flag) = refl
  letter_data false (Setup which flag) = refl
  letter_data false (Ui flag pid octets) = refl
  letter_data false (OtherKind which flag octets) = refl

  to_monitors_says :
      (message : AgwMessage) (connections : List Connection) → HasTen message → IsNoneOf plan message
      → SaysOnly id plan (to_monitors (spelling message) connections)
  to_monitors_says message [] ten none = says_nothing id plan
  to_monitors_says message (c ∷ connections) ten none =
      go c.monitors (to_monitors_says message connections ten none)
    where
      go : (b : Bool) → SaysOnly id plan (to_monitors (spelling message) connections)
          → SaysOnly id plan (map (piece_for (spelling message))
          (cond b (c ∷ filter (λ (other : Connection). other.monitors) connections)
          (filter (λ (other : Connection). other.monitors) connections)))
      go true rest =
          says_both id plan (piece_with c.id message ∷ []) (to_monitors (spelling message) connections)
          (says_one id c.id plan message ten none) rest
      go false rest = rest

  -- a frame whose calls are calls
  abbrev HasFrameCalls : Option Frame → Type 0
  HasFrameCalls None = ⊤
  HasFrameCalls (Some frame) = IsValidCall frame.path.source × IsValidCall frame.path.dest

  monitors_does :
      (sent : Bool) (ticks : ℕ) (frame : Option Frame) (turn : Turn) → HasFrameCalls frame
      → Does id plan turn [] (monitoring sent ticks frame turn)
  monitors_does sent ticks frame turn valid =
      says_does id plan turn (monitoring sent ticks frame turn)
      (monitor_pieces sent ticks frame turn.now.connections) refl (by_frame frame valid) refl
    where
      by_frame : (f : Option Frame) → HasFrameCalls f
          → SaysOnly id plan (monitor_pieces sent ticks f turn.now.connections)
      by_frame None h = says_nothing id plan
      by_frame (Some f) h =
          let message = monitor_message sent ticks f in
          to_monitors_says message turn.now.connections
          (record { from = field_ten f.path.source h.0; to = field_ten f.path.dest h.1 })
          (none_by_kind plan message (letter_connect sent f.kind) (letter_data sent f.kind))

  -- a client, which speaks AGWPE, is told of no frame
  asker_says :
      (asker : Option Asker) (connections : List Connection)
      → Each (λ (c : Connection). c.id ≡ id → c.kind ≡ Agw) connections
      → SaysOnly id plan (pieces_for asker connections)
  asker_says None connections agw = says_nothing id plan
  asker_says (Some asker) connections agw = go (speaks_kiss asker.id connections) refl
    where
      go : (b : Bool) → speaks_kiss asker.id connections ≡ b
          → SaysOnly id plan (if b then answer_of asker ∷ [] else [])
      go true is =
          says_other id plan (answer_of asker)
          (told_is_other id asker.id connections (no_kiss id connections agw) is)
      go false is = says_nothing id plan

  tells_does :
      (sent : Option Sent) (turn : Turn)
      → Each (λ (c : Connection). c.id ≡ id → c.kind ≡ Agw) turn.now.connections
      → Does id plan turn [] (telling_sent sent turn)
  tells_does sent turn agw =
      says_does id plan turn (telling_sent sent turn) (sent_pieces sent turn.now.askers turn.now.connections) refl
      (by_sent sent turn.now.askers) refl
    where
      by_sent : (s : Option Sent) (askers : List (Option Asker))
          → SaysOnly id plan (sent_pieces s askers turn.now.connections)
      by_sent None askers = says_nothing id plan
      by_sent (Some sent) [] = says_nothing id plan
      by_sent (Some sent) (asker ∷ others) = asker_says asker turn.now.connections agw

  -- what is read of octets has calls
  read_calls : (modulus : Modulus) (octets : List ℕ) (frame : Option Frame) → IsReadAs modulus octets frame
      → HasFrameCalls frame
  read_calls modulus octets None is = tt
  read_calls modulus octets (Some frame) is = (is.path.1.source.valid, is.path.1.destination.valid)

  sent_calls : (sent : Option Sent) (links : Links) (frame : Option Frame) → IsSentFrame sent links frame
      → HasFrameCalls frame
  sent_calls None links frame is = subst HasFrameCalls (sym is) tt
  sent_calls (Some sent) links frame is = read_calls _ sent.octets frame is.2

  source_ten : (octets : List ℕ) (path : Option Path) → IsPathOf octets path → length (source_field path) ≡ 10
  source_ten octets None is = refl
  source_ten octets (Some path) is = field_ten path.source is.1.1.source.valid

  destination_ten : (octets : List ℕ) (path : Option Path) → IsPathOf octets path
      → length (destination_field path) ≡ 10
  destination_ten octets None is = refl
  destination_ten octets (Some path) is = field_ten path.dest is.1.1.destination.valid

  -- ---- a frame that is heard

  repeated_does :
      (digi : Option Callsign) (octets : List ℕ) (before after : Turn) → IsRepeatedFor digi octets before after
      → Does id plan before [] after
  repeated_does None octets before after h = subst (Does id plan before []) (sym h) (same_does id plan before)
  repeated_does (Some call) octets before after (inl is) =
      subst (Does id plan before []) (sym is.2) (queueing_does None None (repeated octets is.0) before)
  repeated_does (Some call) octets before after (inr is) =
      subst (Does id plan before []) (sym is.1) (same_does id plan before)

  at_key_does : (key : ℕ) (reading : Option Frame) (turn : Turn)
      → Does id plan turn (hears_at (meant plan) key reading turn) (hearing_at key reading turn)
  at_key_does key None turn = same_does id plan turn
  at_key_does key (Some frame) turn = event_does id plan called key (LinkHear frame) turn

  new_does :
      (host : ℕ) (octets : List ℕ) (path : Path) (len : ℕ) (frame : Frame) (may : Bool) (before after : Turn)
      → BeginsWithPath octets path len → IsFrame frame Eight octets
      → key_between path.dest path.source before.now.links ≡ None
      → (h : MatchBool may (IsHeardMaking host frame before after) (after ≡ before))
      → Does id plan before (new_steps (meant plan) host frame may before after h) after
  new_does host octets path len frame false before after begins is vacant h =
      subst (Does id plan before []) (sym h) (same_does id plan before)
  new_does host octets path len frame true before after begins is vacant h =
      let same : frame.path ≡ path =
      (BeginsWithPath-same octets frame.path path is.len len is.path begins).0 in
      let way = way_back frame.path Command in
      let link = idle_link host no_layer_3 frame.path.dest frame.path.source way before.now.parameters in
      let made = making h.0 host no_layer_3 frame.path.dest frame.path.source way before in
      subst (Does id plan before (new_steps (meant plan) host frame true before after h)) (sym h.2)
      (made_does id plan called before h.0 link way made (LinkHear frame)
      (record {
        new = h.1;
        valid = record {
          local_valid = is.path.1.destination.valid;
          remote_valid = is.path.1.source.valid;
        };
        idle = refl;
        none = λ chosen. let calls = chosen_calls plan.own plan.remote link chosen in
            subst (λ (l : Callsign). first_chosen (is_between l plan.remote) before.now.links.places ≡ None)
            (sym (ap (λ (p : Path). p.dest) same) ∙ calls.local_is)
            (subst (λ (r : Callsign). first_chosen (is_between path.dest r) before.now.links.places ≡ None)
            (sym (ap (λ (p : Path). p.source) same) ∙ calls.remote_is)
            (none_chosen (is_between path.dest path.source) before.now.links.places
            (none_by_position (is_between path.dest path.source) before.now.links.places (ap is_none vacant))));
      }) refl)

  anew_does :
      (registered : Option ℕ) (octets : List ℕ) (path : Path) (len : ℕ) (frame : Frame) (before after : Turn)
      → BeginsWithPath octets path len → IsFrame frame Eight octets
      → key_between path.dest path.source before.now.links ≡ None
      → (h : IsHeardAnew registered frame before after)
      → Does id plan before (anew_steps (meant plan) registered frame before after h) after
  anew_does None octets path len frame before after begins is vacant h =
      subst (Does id plan before []) (sym h) (same_does id plan before)
  anew_does (Some host) octets path len frame before after begins is vacant h =
      new_does host octets path len frame (may_make frame.kind before.now.links) before after begins is vacant h

  reading_does :
      (octets : List ℕ) (path : Path) (len : ℕ) (reading : Option Frame) (before after : Turn)
      → BeginsWithPath octets path len → IsReadAs Eight octets reading
      → key_between path.dest path.source before.now.links ≡ None
      → (h : IsReadingHeardAnew reading before after)
      → Does id plan before (reading_steps (meant plan) reading before after h) after
  reading_does octets path len None before after begins is vacant h =
      subst (Does id plan before []) (sym h) (same_does id plan before)
  reading_does octets path len (Some frame) before after begins is vacant h =
      anew_does (registrar frame.path.dest before.now.registrations) octets path len frame before after begins is
      vacant h

  key_does :
      (octets : List ℕ) (path : Path) (len : ℕ) (key : Option ℕ) (before after : Turn)
      → BeginsWithPath octets path len → key_between path.dest path.source before.now.links ≡ key
      → (h : AreHeardAt key octets before after)
      → Does id plan before (key_steps (meant plan) key octets before after h) after
  key_does octets path len (Some key) before after begins found h =
      subst (Does id plan before (key_steps (meant plan) (Some key) octets before after h)) (sym h.2)
      (at_key_does key h.0 before)
  key_does octets path len None before after begins found h =
      reading_does octets path len h.0 before after begins h.1 found h.2

  path_does :
      (octets : List ℕ) (path : Path) (len : ℕ) (waiting : Bool) (before after : Turn)
      → BeginsWithPath octets path len
      → (h : MatchBool waiting (IsRepeatedFor before.now.digi octets before after)
      (AreOctetsHeard path octets before after))
      → Does id plan before (path_steps (meant plan) path waiting octets before after h) after
  path_does octets path len true before after begins h = repeated_does before.now.digi octets before after h
  path_does octets path len false before after begins h =
      key_does octets path len (key_between path.dest path.source before.now.links) before after begins refl h

  by_path_does :
      (octets : List ℕ) (path : Option Path) (before after : Turn) → IsPathOf octets path
      → (h : IsHeardBy path octets before after)
      → Does id plan before (by_path_steps (meant plan) path octets before after h) after
  by_path_does octets None before after is h = subst (Does id plan before []) (sym h) (same_does id plan before)
  by_path_does octets (Some path) before after is h =
      path_does octets path is.0 (waits_for_repeater path) before after is.1 h

  does_on_last : (x y z : Turn) (steps : List LinkStep) → Does id plan x steps y → Does id plan y [] z
      → Does id plan x steps z
  does_on_last x y z steps one two =
      subst (λ s. Does id plan x s z) (append-nil steps) (does_on id plan x y z steps [] one two)

  heard_does :
      (octets : List ℕ) (before after : Turn)
      → Each (λ (c : Connection). c.id ≡ id → c.kind ≡ Agw) before.now.connections → (h : IsHeard octets before after)
      → Does id plan before (heard_steps (meant plan) octets before after h) after
  heard_does octets before after agw h =
      let from = source_field h.path in
      let to = destination_field h.path in
      let first = showing from to octets before in
      let shown = shown_to_hosts h.path octets h.monitored before in
      let steps = heard_steps (meant plan) octets before after h in
      subst (Does id plan before steps) (sym h.told)
      (does_on_last before h.between (noting h.path h.ours h.between) steps
      (does_on id plan before shown h.between [] steps
      (does_on id plan before first shown [] []
      (showing_does from to octets before.now.connections before agw (source_ten octets h.path h.reading)
      (destination_ten octets h.path h.reading))
      (monitors_does false before.now.ticks h.monitored first (read_calls _ octets h.monitored h.read_as)))
      (by_path_does octets h.path shown h.between h.reading h.effect))
      (silent_does id plan h.between (noting h.path h.ours h.between) refl refl))

  -- ---- each step

  turn_does :
      (input : Input) (before after : Turn) (turn : IsTurn input before after) → Stays id input after.out.closed
      → Each (λ (c : Connection). c.id ≡ id → c.kind ≡ Agw) before.now.connections
      → Does id plan before (turn_steps (meant plan) input before after turn) after
  turn_does (FromHost event) before after turn stays agw = host_does event before after stays turn
  turn_does (OffAir octets) before after turn stays agw = heard_does octets before after agw turn
  turn_does (OfClock busy) before after turn stays agw =
      let ticked = asked_links busy before in
      let shown = monitoring true ticked.now.ticks turn.monitored ticked in
      let sent = (air_in busy before).sent in
      subst (Does id plan before (tick_steps (meant plan) busy before)) (sym turn.effect)
      (does_on_last before ticked (ticking busy turn.monitored before)
      (tick_steps (meant plan) busy before) (ticks_do id plan called busy before)
      (does_on id plan ticked shown (ticking busy turn.monitored before) [] []
      (monitors_does true ticked.now.ticks turn.monitored ticked
      (sent_calls sent ticked.now.links turn.monitored turn.read_as))
      (does_on id plan shown (telling_sent sent shown) (ticking busy turn.monitored before) [] []
      (tells_does sent shown (subst (λ connections. Each (λ (c : Connection). c.id ≡ id → c.kind ≡ Agw) connections)
      (sym (asked_hosts busy before)) agw))
      (silent_does id plan (telling_sent sent shown) (ticking busy turn.monitored before) refl refl))))

  pub step_does : (step : Step) → IsClientStep id step
      → Does id plan (begin step.before) (steps_of (meant plan) step) step.after
  step_does step client =
      turn_does step.input (begin step.before) step.after step.turn client.stays
      (recursion_from_All (λ (c : Connection). c.id ≡ id → c.kind ≡ Agw) step.before.connections client.speaks)
