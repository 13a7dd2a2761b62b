-- A host program of the bench gives a piece: its link takes it as a packet of the set-up that runs.
use Rattle.channel_bench.proofs.Common.{◌≡◌, ℕ, zero, suc, ◌<◌, ◌≤◌, ◌==◌, ◌%◌, nat_lt, Bool, true, false, List, []}
use Rattle.channel_bench.proofs.Common.{◌∷◌, ◌++◌, length, take, drop, cond, Option, Some, None, is_some, refl, sym, ap}
use Rattle.channel_bench.proofs.Common.{◌∙◌, subst, arith, inl, inr, eq-eqb, ltb-true, length-drop, length-map}
use Rattle.channel_bench.proofs.Common.{length-take, LinkState, Idle, Calling, Up, Releasing, Machine, End, other}
use Rattle.channel_bench.proofs.Common.{each_append, Lcg, Link, StationState, most_held, Turn, begin, SetUp, BenchWords}
use Rattle.channel_bench.proofs.Common.{Near, SideState, IsStep, program_id, there_after, AcceptsProgram, with_giving}
use Rattle.channel_bench.proofs.Common.{most_octets, next_piece, told_all, Moment, hears_ask, Steps, Stations, state_of}
use Rattle.channel_bench.proofs.Common.{with_state, LinkStep, steps_of, AreToldInOne, RunsIn, runs_following, told_in}
use Rattle.channel_bench.proofs.Common.{IsGivenWhileUp, seen_by_all, IsMachineOf, first_chosen, text_at, text_of, words}
use Rattle.channel_bench.proofs.Common.{after_word, IsChain, StandsAsked, asked_append, asked_following, after_append}
use Rattle.channel_bench.proofs.Common.{called_append, called_following, chain_parts, last_machine, made_by, framed}
use Rattle.channel_bench.proofs.Common.{is_connect, is_disconnect}
use Rattle.std.specs.Prelude.{Any}
use Rattle.std.proofs.lemmas.List.Folds.{list_any-from_Any}
use Rattle.link_machine.specs.Event.Event.{Send as LinkSend}
use Rattle.channel_bench.specs.HostProgram.{giving}
use Rattle.channel_access.specs.Words.{generator_of}
use Rattle.channel_bench.proofs.CoreRun.{input_of}
use Rattle.channel_bench.proofs.CoreRun.Usual.{gives}
use Rattle.channel_bench.proofs.GivesOne.{GivesOne, gives_one, taken}
use Rattle.channel_bench.proofs.HostsStay.{HasHosts}
use Rattle.channel_bench.proofs.LinkNow.{GivenUp, Known, LinkNow, first_machine, link_chain, link_now, links_of}
use Rattle.channel_bench.proofs.NextSees.{BothSee, noted_step, own_events, own_queue}
use Rattle.channel_bench.proofs.OwnLinks.{chosen, messages_of}
use Rattle.channel_bench.proofs.OwnMessages.{Comes, usual_comes}
use Rattle.channel_bench.proofs.OwnMessages.Comes.{by_link, joined, refused, replied}
use Rattle.channel_bench.proofs.ProgramSees.{GaveAllIn, Sees, send_sees}
use Rattle.channel_bench.proofs.ProgramsAsk.{hosts_at}
use Rattle.channel_bench.proofs.Shorts.{GivesShort, ShortStep, steps_written}
use Rattle.channel_bench.proofs.SideSees.{SideSees, asked_kept, called_kept, linked, never_asks, side_after}
use Rattle.channel_bench.proofs.StepSees.{SeesAt, far_sees, queue_of, step_laws, unshown_of}
use Rattle.channel_bench.proofs.ThereStays.{HasProgram, is_there, there_grows}
use Rattle.station_laws.proofs.Causes.Cause.{sending}
use Rattle.station_laws.proofs.SeenLemmas.{seen_append}

-- ---- the piece

words_long : (count : ℕ) (g : Lcg) → length (words count g) ≡ count
words_long zero g = refl
words_long (suc count) g = ap suc (words_long count (after_word g))

-- a text has as many octets as the words of the bench tell
pub text_long : (w : BenchWords) (e : End) → length (text_at w e) ≡ w.octets
unfolding text_of
text_long w e = length-map (words w.octets (generator_of w.seed _)) (λ word. word % 256)
    ∙ words_long w.octets (generator_of w.seed _)

-- a piece comes in a set-up that runs, of which not all is given
record IsPiece (count : ℕ) (running : Option SetUp) (piece : List ℕ) : Type 0 where
  runs : is_some running ≡ true
  left : GaveAllIn count running → ⊥
  some : 0 < length piece
  few : length piece ≤ most_octets

piece_is : (text : List ℕ) (running : Option SetUp) (piece : List ℕ) → next_piece text running ≡ Some piece
    → IsPiece (length text) running piece
piece_is text None piece is = absurd (cc)
piece_is text (Some q) piece is = go (nat_lt (length q.given) (length text)) refl is
  where
    go : (b : Bool) → nat_lt (length q.given) (length text) ≡ b
        → cond b (Some (take most_octets (drop (length q.given) text))) None ≡ Some piece
        → IsPiece (length text) (Some q) piece
    go true below same =
        let here : take most_octets (drop (length q.given) text) ≡ piece = cc in
        let less : length q.given < length text = ltb-true (length q.given) (length text) below in
        let a = length-take most_octets (drop (length q.given) text) in
        let b = length-drop (length q.given) text in
        let size : length (take most_octets (drop (length q.given) text)) ≡ length piece = ap length here in
        record { runs = refl; left = λ all. absurd (omega arith); some = omega arith; few = omega arith }
    go false below same = absurd (cc)

-- ---- the link is up

up_of :
    (runs asked : Bool) (state : LinkState) (quit : Bool) → RunsIn runs state → runs ≡ true
    → StandsAsked asked state quit
    → (asked ≡ true → ⊥) → (state ≡ Up) × (quit ≡ false)
up_of runs asked Idle quit in_state run stands never =
    elim (in_state.only run) [ inl same ↦ absurd (cc) | inr same ↦ absurd (cc) ]
up_of runs asked Calling quit in_state run stands never =
    elim (in_state.only run) [ inl same ↦ absurd (cc) | inr same ↦ absurd (cc) ]
up_of runs asked Up true in_state run stands never = absurd (never (stands refl))
up_of runs asked Up false in_state run stands never = (refl, refl)
up_of runs asked Releasing quit in_state run stands never = absurd (never stands)

place_some : (place : Option Link) (m : Machine) → IsMachineOf place m → m.control.state ≡ Up → is_some place ≡ true
place_some None m is up = absurd (cc)
place_some (Some link) m is up = refl

program_there : (there : List ℕ) → Any (λ other. other ≡ program_id) there → is_there there ≡ true
program_there there h =
    list_any-from_Any (λ other. other == program_id) there (h.0, h.1, h.2, h.3, eq-eqb h.1 program_id h.4)

-- ---- the step

gave :
    (w : BenchWords) (e : End) (piece : List ℕ) (moments next : List Moment) (t : Stations) (side far : SideState)
    (there : List ℕ) (turn : Turn) (on : Bool) (step : LinkStep) (g : GivesOne e piece side.station (step ∷ []))
    → g.step ≡ step → SeesAt w e side moments → Known w next t → links_of e next ≡ links_of e moments ++ step ∷ []
    → SeesAt w (other e) far next → (is_there there ≡ true → HasProgram turn.now)
    → runs_following false (links_of e moments) ≡ true → (asked_following false (links_of e moments) ≡ true → ⊥)
    → length piece ≤ most_octets
    → (last_machine (first_machine w e) (links_of e moments)).control.state ≡ Up
    → (last_machine (first_machine w e) (links_of e moments)).control.quit ≡ false
    → Comes sending ⊥ e (begin side.station) (step ∷ []) turn
    → SideSees w e (side_after side (giving piece side.program) there turn) (links_of e moments ++ step ∷ [])
    (queue_of e moments ++ framed on turn.out.queued)
gave w e piece moments next t side far there turn on step g same own later links far_next has run unasked few up quit
    (by_link says) =
    let p = side.program in
    let q = giving piece p in
    let events = links_of e moments in
    let last = last_machine (first_machine w e) events in
    let event : step.event ≡ LinkSend g.packet = ap (λ (x : LinkStep). x.event) (sym same) ∙ g.event in
    let anew : step.anew ≡ None = ap (λ (x : LinkStep). x.anew) (sym same) ∙ g.anew in
    let chain = (chain_parts (first_machine w e) events (step ∷ [])
    (subst (IsChain (first_machine w e)) links (link_chain w next t later e))).1 in
    let machine : last ≡ step.link.machine = ap (λ a. made_by a last) (sym anew) ∙ chain.0 in
    let few_held = subst (λ (x : LinkStep). length x.link.machine.outgoing.packets ≤ most_held) same g.few in
    let short_packet : length g.packet.octets ≤ most_octets =
    subst (λ xs. length xs ≤ most_octets) (sym g.octets) few in
    let up_here = ap (λ (m : Machine). m.control.state) (sym machine) ∙ up in
    let quit_here = ap (λ (m : Machine). m.control.quit) (sym machine) ∙ quit in
    let given_one : GivenUp step =
    subst (λ ev. IsGivenWhileUp ev step.link.machine) (sym event)
    (up_here, taken step.link.machine g.packet up_here quit_here few_held short_packet) in
    let short_one : ShortStep step = subst GivesShort (sym event) short_packet in
    let no_disconnect : is_disconnect step.event ≡ false = ap is_disconnect event in
    let no_connect : is_connect step.event ≡ false = ap is_connect event in
    let laws = step_laws w e moments next t side far p (step ∷ []) later links far_next
    (each_append GivenUp events (step ∷ []) own.given (given_one, tt))
    (each_append ShortStep events (step ∷ []) own.short (short_one, tt)) own.sees in
    let seen = seen_by_all events [] in
    let in_one : AreToldInOne true (told_in step) = subst (λ r. AreToldInOne r (told_in step)) run laws.told.0 in
    let made = messages_of e (step ∷ []) in
    let one = send_sees e step g.packet piece p seen event g.octets in_one (subst (Sees p seen) run own.sees) in
    let sees : Sees (told_all made q) (seen_by_all (events ++ step ∷ []) []) (runs_following false (events ++ step ∷ [])) =
    subst (λ xs. Sees (told_all made q) xs (runs_following false (events ++ step ∷ [])))
    (sym (seen_append events (step ∷ []) []))
    (subst (Sees (told_all made q) (seen_by_all (step ∷ []) seen))
    (sym (after_append false events (step ∷ []) ∙ ap (λ r. runs_following r (step ∷ [])) run)) one) in
    linked w e sending side q events (step ∷ []) (queue_of e moments) there turn on own says
    (steps_written e (step ∷ []) laws.short) sees
    (λ is. asked_kept w.octets e (step ∷ []) (asked_following false events) q (no_disconnect, tt)
    (λ was. absurd (unasked was))
    (sym (asked_append false events (step ∷ [])) ∙ is))
    (λ is. called_append false events (step ∷ [])
    ∙ called_kept e (step ∷ []) (called_following false events) q (no_connect, tt) own.calls is)
    (given_one, tt) (never_asks step no_disconnect, tt) (short_one, tt) has
gave w e piece moments next t side far there turn on step g same own later links far_next has run unasked few up quit
    (replied reply none) =
    absurd (let clash : step ∷ [] ≡ [] = none in cc)
gave w e piece moments next t side far there turn on step g same own later links far_next has run unasked few up quit
    (refused may reply none) =
    absurd may
gave w e piece moments next t side far there turn on step g same own later links far_next has run unasked few up quit
    (joined owns pieces queued none) =
    absurd (let clash : step ∷ [] ≡ [] = none in cc)

pub gives_sees :
    (w : BenchWords) (e : End) (piece : List ℕ) (n next : Near) (far : SideState) (s : Stations)
    → next_piece (text_at w e) n.side.program.running ≡ Some piece → AcceptsProgram n.side
    → (h : IsStep e (input_of e (gives piece)) None (with_giving piece n) next) → n.side.station ≡ state_of e s
    → Known w n.common.moments s
    → Known w (n.common.moments ++ Steps (noted_step e (gives piece) None (with_giving piece n) next h) None ∷ [])
    (with_state e next.side.station s)
    → BothSee w e n.side far n.common.moments
    → BothSee w e next.side far
    (n.common.moments ++ Steps (noted_step e (gives piece) None (with_giving piece n) next h) None ∷ [])
gives_sees w e piece n next far s is accepts h at known later both =
    let side = n.side in
    let p = side.program in
    let moments = n.common.moments in
    let step = noted_step e (gives piece) None (with_giving piece n) next h in
    let more = moments ++ Steps step None ∷ [] in
    let events = links_of e moments in
    let own = both.own in
    let made = steps_of (chosen e) step in
    let there = there_after (input_of e (gives piece)) h.turn.out.closed side.there in
    let hosts : HasHosts side.station = subst HasHosts (sym at) (hosts_at e s known.little.a known.little.b) in
    let one = subst (λ count. IsPiece count p.running piece) (text_long w e) (piece_is (text_at w e) p.running piece is)
    in
    let now : LinkNow w moments s e = link_now w moments s known e own.asks in
    let run : runs_following false events ≡ true = sym own.sees.runs_is ∙ one.runs in
    let unasked : asked_following false events ≡ true → ⊥ = λ was. one.left (own.asked was) in
    let last = last_machine (first_machine w e) events in
    let up = up_of (runs_following false events) (asked_following false events)
    last.control.state last.control.quit now.runs run
    now.stands unasked in
    let found : is_some (first_chosen (chosen e) side.station.links.places) ≡ true =
    subst (λ (x : StationState). is_some (first_chosen (chosen e) x.links.places) ≡ true) (sym at)
    (place_some (first_chosen (chosen e) (state_of e s).links.places) last now.machine up.0) in
    let program = own.there (program_there side.there accepts.0) in
    let g = gives_one e piece side.station h.turn hosts own.owns accepts.1 program found one.some one.few h.makes in
    let comes = usual_comes e (gives piece) side.station h.turn one.few hosts own.owns
    (unshown_of side.station.connections hosts.connections) tt h.makes in
    let far_next = far_sees w e far moments step None refl both.far_sees in
    let links : links_of e more ≡ events ++ made = own_events e moments step None refl in
    let has = there_grows e (gives piece) side.station h.turn side.there one.few hosts h.makes own.there in
    let exact : GivesOne e piece side.station (g.step ∷ []) = record {
      step = g.step;
      packet = g.packet;
      is = refl;
      event = g.event;
      anew = g.anew;
      octets = g.octets;
      few = g.few;
    } in
    let done : SideSees w e (side_after side (giving piece p) there h.turn) (events ++ g.step ∷ [])
    (queue_of e moments ++ framed (hears_ask step.input) h.turn.out.queued) =
    gave w e piece moments more (with_state e next.side.station s) side far there h.turn (hears_ask step.input)
    g.step exact
    refl own later (links ∙ ap (λ xs. events ++ xs) g.is) far_next has run unasked one.few up.0 up.1
    (subst (λ xs. Comes sending ⊥ e (begin side.station) xs h.turn) g.is comes) in
    record {
      own = subst (λ (x : SideState). SeesAt w e x more) (sym (ap (λ (x : Near). x.side) h.is))
          (subst (λ xs. SideSees w e (side_after side (giving piece p) there h.turn) xs (queue_of e more))
          (sym (links ∙ ap (λ xs. events ++ xs) g.is))
          (subst (SideSees w e (side_after side (giving piece p) there h.turn) (events ++ g.step ∷ []))
          (sym (own_queue e moments step None refl)) done));
      far_sees = far_next;
    }
