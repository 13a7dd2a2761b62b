-- A link tells of data only while a set-up runs: row by row.
use Rattle.station_laws.proofs.Common.{◌≡◌, ℕ, Bool, true, false, List, [], ◌∷◌, ◌++◌, map, refl, sym, ap, ◌∙◌, subst}
use Rattle.station_laws.proofs.Common.{inl, inr, append-nil, append_assoc, map-append, Packet, Told, Opened, Given}
use Rattle.station_laws.proofs.Common.{Ended, Why, Failed, Peer, Reset, Idle, Calling, Up, release, Event, Machine}
use Rattle.station_laws.proofs.Common.{step, begin, along_run, Row, Settles, Stepped, step_is, as_timed}
use Rattle.station_laws.proofs.Common.{agrees, calls_again, connects, declines, ends_by_disc, ends_by_dm, ends_call}
use Rattle.station_laws.proofs.Common.{gives_up, is_answered, is_called, is_called_again, narrows, falls_narrow}
use Rattle.station_laws.proofs.Common.{releases_again}
use Rattle.station_laws.proofs.Common.{resets, rests, takes, tells_own, withdraws, wishes, abandons, works}
use Rattle.station_laws.proofs.Common.{goes_on, is_down, releases, is_refused}
use Rattle.station_laws.proofs.Common.{Single, Traffic, acknowledges, forgets, goes_back, informs, picks, reports}
use Rattle.station_laws.proofs.Common.{exchanges, selects, stores, times, RunsIn, runs_after}
use Rattle.link_machine.specs.Acts.{reset}
use Rattle.link_machine.specs.Frames.{open_again}
use Rattle.link_machine.specs.Requests.{connect}
use Rattle.link_machine.specs.Machine.{emptied}
use Rattle.link_machine.specs.Turn.{Turn, changing}
use Rattle.link_machine.specs.declared.acts.Why.TheVariants.{Asked}
use Rattle.link_steps.proofs.Rows.Stepped.{makes}
use Rattle.link_steps.proofs.Traffic.Single.{gives as give_packets}
use Rattle.station_laws.specs.LinksTell.{AreToldInOne, LinksTellInOne}

-- ---- what acts tell

-- what is told in some acts, and that it fits what ran before
record Tells (before after : Turn) : Type 0 where
  more : List Told
  told : after.told ≡ before.told ++ more
  fits : (runs : Bool) → RunsIn runs before.now.control.state → AreToldInOne runs more
  stands : (runs : Bool) → RunsIn runs before.now.control.state → RunsIn (runs_after runs more) after.now.control.state

runs_append : (runs : Bool) (first second : List Told)
    → runs_after runs (first ++ second) ≡ runs_after (runs_after runs first) second
runs_append runs [] second = refl
runs_append runs (Opened ours ∷ first) second = runs_append true first second
runs_append runs (Given packet ∷ first) second = runs_append runs first second
runs_append runs (Ended why ∷ first) second = runs_append false first second

told_append :
    (runs : Bool) (first second : List Told) → AreToldInOne runs first → AreToldInOne (runs_after runs first) second
    → AreToldInOne runs (first ++ second)
told_append runs [] second h k = k
told_append runs (Opened ours ∷ first) second h k = told_append true first second h k
told_append runs (Given packet ∷ first) second h k = (h.0, told_append runs first second h.1 k)
told_append runs (Ended why ∷ first) second h k = told_append false first second h k

tells_on : (t u v : Turn) → Tells t u → Tells u v → Tells t v
tells_on t u v h k = record {
  more = h.more ++ k.more;
  told = k.told ∙ ap (λ xs. xs ++ k.more) h.told ∙ append_assoc t.told h.more k.more;
  fits = λ runs in_state. told_append runs h.more k.more (h.fits runs in_state)
      (k.fits (runs_after runs h.more) (h.stands runs in_state));
  stands = λ runs in_state.
      subst (λ b. RunsIn b v.now.control.state) (sym (runs_append runs h.more k.more))
      (k.stands (runs_after runs h.more) (h.stands runs in_state));
}

-- nothing is told, and the state stays
tells_none : (t u : Turn) → u.told ≡ t.told → u.now.control.state ≡ t.now.control.state → Tells t u
tells_none t u told state = record {
  more = [];
  told = told ∙ sym (append-nil t.told);
  fits = λ runs in_state. tt;
  stands = λ runs in_state. subst (RunsIn runs) (sym state) in_state;
}

pub none_idle : RunsIn false Idle
none_idle = record { up = λ same. absurd (cc); only = λ same. absurd (cc) }

none_calling : RunsIn false Calling
none_calling = record { up = λ same. absurd (cc); only = λ same. absurd (cc) }

some_up : RunsIn true Up
some_up = record { up = λ same. refl; only = λ same. inl refl }

-- a set-up or a call ends
tells_end : (t u : Turn) (why : Why) → u.told ≡ t.told ++ Ended why ∷ [] → u.now.control.state ≡ Idle → Tells t u
tells_end t u why told state = record {
  more = Ended why ∷ [];
  told = told;
  fits = λ runs in_state. tt;
  stands = λ runs in_state. subst (RunsIn false) (sym state) none_idle;
}

-- a set-up opens
tells_open : (t u : Turn) (ours : Bool) → u.told ≡ t.told ++ Opened ours ∷ [] → u.now.control.state ≡ Up → Tells t u
tells_open t u ours told state = record {
  more = Opened ours ∷ [];
  told = told;
  fits = λ runs in_state. tt;
  stands = λ runs in_state. subst (RunsIn true) (sym state) some_up;
}

-- ---- acts that only give data, if they tell anything, and leave the state

pub record Gives (before after : Turn) : Type 0 where
  pub packets : List Packet
  pub told : after.told ≡ before.told ++ map Given packets
  pub state : after.now.control.state ≡ before.now.control.state
  pub quit : after.now.control.quit ≡ before.now.control.quit

pub gives_none :
    (t u : Turn) → u.told ≡ t.told → u.now.control.state ≡ t.now.control.state
    → u.now.control.quit ≡ t.now.control.quit → Gives t u
gives_none t u told state quit =
    record { packets = []; told = told ∙ sym (append-nil t.told); state = state; quit = quit }

pub gives_same : (t : Turn) → Gives t t
gives_same t = gives_none t t refl refl refl

pub gives_on : (t u v : Turn) → Gives t u → Gives u v → Gives t v
gives_on t u v h k = record {
  packets = h.packets ++ k.packets;
  told = k.told ∙ ap (λ xs. xs ++ map Given k.packets) h.told
      ∙ append_assoc t.told (map Given h.packets) (map Given k.packets)
      ∙ ap (λ xs. t.told ++ xs) (sym (map-append Given h.packets k.packets));
  state = k.state ∙ h.state;
  quit = k.quit ∙ h.quit;
}

given_in_one : (packets : List Packet) → AreToldInOne true (map Given packets)
    × (runs_after true (map Given packets) ≡ true)
given_in_one [] = (tt, refl)
given_in_one (packet ∷ packets) = let rest = given_in_one packets in ((refl, rest.0), rest.1)

-- a link that is up gives in its set-up
given_up : (t u : Turn) → t.now.control.state ≡ Up → Gives t u → Tells t u
given_up t u up h =
    let all = given_in_one h.packets in
    record {
      more = map Given h.packets;
      told = h.told;
      fits = λ runs in_state. subst (λ b. AreToldInOne b (map Given h.packets)) (sym (in_state.up up)) all.0;
      stands = λ runs in_state.
          subst (λ state. RunsIn (runs_after runs (map Given h.packets)) state) (sym (h.state ∙ up))
          (subst (λ b. RunsIn b Up) (sym (ap (λ b. runs_after b (map Given h.packets)) (in_state.up up)
          ∙ all.1)) some_up);
    }

-- ---- acts of a link that goes on

single_gives : (t u : Turn) → Single t u → Gives t u
single_gives t u (times c mode) = gives_none t _ refl mode.0 mode.1
single_gives t u (acknowledges n) = gives_none t _ refl refl refl
single_gives t u goes_back = gives_none t _ refl refl refl
single_gives t u (reports which command flag) = gives_none t _ refl refl refl
single_gives t u (picks again) = gives_none t _ refl refl refl
single_gives t u (informs poll ahead left keeps) = gives_none t _ refl refl refl
single_gives t u (give_packets packets) = record { packets = packets; told = refl; state = refl; quit = refl }
single_gives t u (stores ahead packet) = gives_none t _ refl refl refl
single_gives t u (selects ahead is) = gives_none t _ refl refl refl
single_gives t u forgets = gives_none t _ refl refl refl
single_gives t u (exchanges command flag own) = gives_none t _ refl refl refl

pub traffic_gives : {t u : Turn} → Traffic t u → Gives t u
traffic_gives = along_run (record { same = gives_same; on = gives_on }) single_gives

-- ---- rows that begin or end a set-up

-- the set-up ends, and the link calls anew
reset_tells : (t : Turn) → Tells t (reset t)
reset_tells t = record {
  more = Ended Reset ∷ [];
  told = refl;
  fits = λ runs in_state. tt;
  stands = λ runs in_state. none_calling;
}

-- it ends, and another opens
again_tells : (modulus : ℕ) (flag : Bool) (t : Turn) → Tells t (open_again modulus flag t)
again_tells modulus flag t = record {
  more = Ended Reset ∷ Opened false ∷ [];
  told = append_assoc t.told (Ended Reset ∷ []) (Opened false ∷ []);
  fits = λ runs in_state. tt;
  stands = λ runs in_state. some_up;
}

release_tells : (t : Turn) → Tells t (release t)
release_tells t = record {
  more = [];
  told = sym (append-nil t.told);
  fits = λ runs in_state. tt;
  stands = λ runs in_state. record { up = λ same. absurd (cc); only = λ same. inr refl };
}

connect_tells : (t : Turn) → t.now.control.state ≡ Idle → Tells t (connect t)
connect_tells t idle = record {
  more = [];
  told = sym (append-nil t.told);
  fits = λ runs in_state. tt;
  stands = λ runs in_state. record {
    up = λ same. absurd (cc);
    only = λ run. absurd (never (subst (RunsIn runs) idle in_state) run);
  };
}
  where
    never : {runs : Bool} → RunsIn runs Idle → runs ≡ true → ⊥
    never h run = elim (h.only run) [ inl same ↦ cc | inr same ↦ cc ]

-- ---- each row

row_tells : (m : Machine) (event : Event) (t : Turn) → Row m event t → Tells (begin m) t
row_tells m event t (rests (as_timed c mode)) = tells_none (begin m) _ refl mode.0
row_tells m event t (works up run) = given_up (begin m) t up (traffic_gives run)
row_tells m event t (declines flag down heard) = tells_none (begin m) _ refl refl
row_tells m event t (agrees flag down heard) = tells_none (begin m) _ refl refl
row_tells m event t (tells_own flag idle heard) = tells_none (begin m) _ refl refl
row_tells m event t (calls_again (as_timed c mode) calling tick) = tells_none (begin m) _ refl mode.0
row_tells m event t (releases_again (as_timed c mode) releasing tick) = tells_none (begin m) _ refl mode.0
row_tells m event t (ends_call why (as_timed c mode) down) = tells_end (begin m) _ why refl refl
row_tells m event t (ends_by_dm up) = tells_end (begin m) _ Peer refl refl
row_tells m event t (ends_by_disc flag up heard) = tells_end (begin m) _ Peer refl refl
row_tells m event t (gives_up {t = u} up run told tick) =
    tells_on (begin m) u _ (given_up (begin m) u up (traffic_gives run)) (tells_end u _ Failed refl refl)
row_tells m event t (is_called modulus flag idle known heard) = tells_open (begin m) _ false refl refl
row_tells m event t (is_called_again modulus flag up known heard) = again_tells modulus flag (begin m)
row_tells m event t (is_answered calling heard) = tells_open (begin m) _ true refl refl
row_tells m event t (falls_narrow (as_timed c mode) calling wide tick) = tells_none (begin m) _ refl mode.0
row_tells m event t (narrows calling wide heard) = tells_none (begin m) _ refl refl
row_tells m event t (resets up wrong) = reset_tells (begin m)
row_tells m event t (connects idle connecting) = connect_tells (begin m) idle
row_tells m event t (takes packet sending short) = tells_none (begin m) _ refl refl
row_tells m event t (withdraws calling wishing) = tells_end (begin m) _ Asked refl refl
row_tells m event t (wishes wishing) = tells_none (begin m) _ refl refl
row_tells m event t (abandons up wish wishing) =
    tells_on (begin m) (changing emptied (begin m)) _ (tells_none (begin m) _ refl refl) (release_tells _)

settles_tells : (t u : Turn) → Settles t u → Tells t u
settles_tells t u (is_down down) = tells_none t t refl refl
settles_tells t u (goes_on up) = tells_none t t refl refl
settles_tells t u (releases up quits) = release_tells t

stepped_tells : (m : Machine) (event : Event) (u : Turn) → Stepped m event u → Tells (begin m) u
stepped_tells m event u is_refused = tells_none (begin m) _ refl refl
stepped_tells m event u (makes {t = t} row settles) =
    tells_on (begin m) t u (row_tells m event t row) (settles_tells t u settles)

pub links_tell_holds : LinksTellInOne
links_tell_holds m event runs in_state =
    let h = stepped_tells m event (step m event) (step_is m event) in
    record {
      told = subst (AreToldInOne runs) (sym h.told) (h.fits runs in_state);
      now = subst (λ told. RunsIn (runs_after runs told) (step m event).now.control.state) (sym h.told)
          (h.stands runs in_state);
    }
