-- Each step of a link is single acts one after another. What holds along each act holds along each step.
use Rattle.std.proofs.Common.{ℕ, Bool, true, false, cond, inl, inr, refl}
use Rattle.ax25_frames.specs.declared.frame.U.{U}
use Rattle.ax25_frames.specs.declared.frame.U.TheVariants.{Disc, Dm, Sabm, Ua}
use Rattle.selective_reject.specs.Numbers.{IsModulus}
use Rattle.selective_reject.specs.declared.packet.Packet.{Packet}
use Rattle.link_machine.specs.declared.acts.Told.{Told}
use Rattle.link_machine.specs.declared.acts.Told.TheVariants.{Ended, Opened}
use Rattle.link_machine.specs.declared.acts.Why.{Why}
use Rattle.link_machine.specs.declared.acts.Why.TheVariants.{Asked, Failed, Peer, Reset}
use Rattle.link_machine.specs.declared.control.Control.{Control}
use Rattle.link_machine.specs.declared.state.LinkState.TheVariants.{Up}
use Rattle.link_machine.specs.Acts.{call, calling, calling_frame, releasing}
use Rattle.link_machine.specs.Event.{Event}
use Rattle.link_machine.specs.Frames.{end_call, leave}
use Rattle.link_machine.specs.Frames.{open_called, stopped, stopped_t1, unretried_call}
use Rattle.link_machine.specs.Held.{IsShort}
use Rattle.link_machine.specs.Machine.{Machine, emptied, fresh, in_modulus, in_state, is_wide}
use Rattle.link_machine.specs.Negotiation.{to_ask, widest_parameters}
use Rattle.link_machine.specs.Params.{called_modulus}
use Rattle.link_machine.specs.Requests.{joined, quitting}
use Rattle.link_machine.specs.Sent.Sent.{SetupSent}
use Rattle.link_machine.specs.Step.{step}
use Rattle.link_machine.specs.Ticks.{retried}
use Rattle.link_machine.specs.Turn.{Turn, begin, changing, sending, telling}
use Rattle.step_laws.proofs.Runs.{GoesOn, Run, along_run, run_each, run_on, run_one}
use Rattle.step_laws.proofs.Runs.Run.{none, more}
use Rattle.link_steps.proofs.Rows.{Row, Settles, Stepped, rests_traffic, step_is}
use Rattle.link_steps.proofs.Rows.Row.{rests, works, declines, agrees, tells_own, calls_again, releases_again, ends_call}
use Rattle.link_steps.proofs.Rows.Row.{ends_by_dm}
use Rattle.link_steps.proofs.Rows.Row.{ends_by_disc, gives_up, is_called, is_called_again, is_answered, narrows}
use Rattle.link_steps.proofs.Rows.Row.{falls_narrow}
use Rattle.link_steps.proofs.Rows.Row.{resets}
use Rattle.link_steps.proofs.Rows.Row.{connects, takes, withdraws, wishes, abandons}
use Rattle.link_steps.proofs.Rows.Settles.{is_down, goes_on, releases}
use Rattle.link_steps.proofs.Rows.Stepped.{is_refused, makes}
use Rattle.link_steps.proofs.Traffic.{Single, Traffic, timed}
use Rattle.link_steps.proofs.Traffic.Single.{exchanges}

pub data OneAct : Turn → Turn → Type 0 where
  -- one of a link that goes on
  goes : {t u : Turn} → Single t u → OneAct t u
  -- anything changes but the packets and their numbers
  controls : {t : Turn} (c : Control) → OneAct t (timed c t)
  begins : {t : Turn} → OneAct t (changing fresh t)
  empties : {t : Turn} → OneAct t (changing emptied t)
  counts : {t : Turn} (modulus : ℕ) → IsModulus modulus → OneAct t (changing (in_modulus modulus) t)
  -- SABM, SABME, DISC, UA or DM is sent
  sets_up : {t : Turn} (which : U) (flag : Bool) → OneAct t (sending (SetupSent which flag) t)
  tells : {t : Turn} (item : Told) → OneAct t (telling item t)
  joins : {t : Turn} (packet : Packet) → IsShort packet → OneAct t (changing (joined packet) t)

abbrev pub Acts : Turn → Turn → Type 0
Acts = Run OneAct

going : {t u : Turn} → Traffic t u → Acts t u
going run = run_each (λ t u act. run_one (goes act)) run

called : {t u : Turn} → Acts t u → Acts t (call u)
called {u = u} run = more (more run (controls (calling u.now.control))) (sets_up (calling_frame (is_wide u.now)) true)

emptying : {t u : Turn} → Acts t u → Acts t (changing (in_modulus 8) (changing emptied u))
emptying run = more (more run empties) (counts 8 (inl refl))

left : {t u : Turn} → Acts t u → Acts t (leave u)
left {u = u} run = more (emptying run) (controls (stopped (emptied u.now).control))

opened : {t u : Turn} (modulus : ℕ) (flag : Bool) → IsModulus modulus → Acts t u → Acts t (open_called modulus flag u)
opened {u = u} modulus flag known run =
    let counted = more (more (more run begins) empties) (counts modulus known) in
    more (more (more counted (controls (in_state Up (emptied (fresh u.now)).control))) (sets_up Ua flag))
    (tells (Opened false))

call_ended : {t u : Turn} (why : Why) → Acts t u → Acts t (end_call why u)
call_ended {u = u} why run =
    more (more (emptying run) (controls (stopped_t1 (emptied u.now).control))) (tells (Ended why))

own_known : (wide : Bool) → IsModulus (cond wide 128 8)
own_known true = inr refl
own_known false = inl refl

row_acts : (m : Machine) (event : Event) (t : Turn) → Row m event t → Acts (begin m) t
row_acts m event t (rests run) = going (rests_traffic run)
row_acts m event t (works up run) = going run
row_acts m event t (declines flag down heard) = run_one (sets_up Dm flag)
row_acts m event t (agrees flag down heard) = run_one (sets_up Ua flag)
row_acts m event t (tells_own flag idle heard) = run_one (goes (exchanges false flag (widest_parameters m)))
row_acts m event t (calls_again {t = u} run calling tick) =
    more (going (rests_traffic run)) (sets_up (calling_frame (is_wide u.now)) true)
row_acts m event t (releases_again run releasing tick) = more (going (rests_traffic run)) (sets_up Disc true)
row_acts m event t (ends_call why run down) = call_ended why (going (rests_traffic run))
row_acts m event t (ends_by_dm up) = more (left none) (tells (Ended Peer))
row_acts m event t (ends_by_disc flag up heard) = more (left (run_one (sets_up Ua flag))) (tells (Ended Peer))
row_acts m event t (gives_up up run told tick) =
    more (left (more (going run) (sets_up Dm false))) (tells (Ended Failed))
row_acts m event t (is_called modulus flag idle known heard) = opened modulus flag known none
row_acts m event t (is_called_again modulus flag up known heard) =
    opened modulus flag known (run_one (tells (Ended Reset)))
row_acts m event t (is_answered calling heard) =
    let up = in_state Up (fresh m).control in
    more (more (more (run_one begins) (controls up)) (controls (to_ask (is_wide m) up))) (tells (Opened true))
row_acts m event t (narrows calling wide heard) =
    more (more (run_one (counts 8 (inl refl))) (controls (unretried_call m.control))) (sets_up Sabm true)
row_acts m event t (falls_narrow {t = u} run calling wide tick) =
    more (more (more (going (rests_traffic run)) (controls (retried u.now.control))) (counts 8 (inl refl)))
    (sets_up Sabm true)
row_acts m event t (resets up wrong) = called (more (more (run_one (tells (Ended Reset))) begins) empties)
row_acts m event t (connects idle connecting) =
    called (more (run_one begins) (counts (called_modulus m.params) (own_known m.params.wide)))
row_acts m event t (takes packet sending short) = run_one (joins packet short)
row_acts m event t (withdraws calling wishing) = call_ended Asked (run_one (sets_up Dm false))
row_acts m event t (wishes wishing) = run_one (controls (quitting m.control))
row_acts m event t (abandons up wish wishing) =
    more (more (run_one empties) (controls (releasing (emptied m).control))) (sets_up Disc true)

settled_acts : (t u : Turn) → Settles t u → Acts t u
settled_acts t u (is_down down) = none
settled_acts t u (goes_on up) = none
settled_acts t u (releases up quits) = more (run_one (controls (releasing t.now.control))) (sets_up Disc true)

stepped_acts : (m : Machine) (event : Event) (u : Turn) → Stepped m event u → Acts (begin m) u
stepped_acts m event u is_refused = none
stepped_acts m event u (makes {t = t} row settles) = run_on (row_acts m event t row) (settled_acts t u settles)

-- what holds along each act holds along the step
pub along_step :
    {R : Turn → Turn → Type 0} → GoesOn R → ((t u : Turn) → OneAct t u → R t u) → (m : Machine) (event : Event)
    → R (begin m) (step m event)
along_step k each m event = along_run k each (stepped_acts m event (step m event) (step_is m event))
