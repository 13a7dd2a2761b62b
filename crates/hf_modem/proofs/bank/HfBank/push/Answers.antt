use Rattle.hf_modem.proofs.Common.{◌≡◌, refl, ◌∙◌, ℕ, ◌+◌, ℤ, get_or, set, List, [], ◌∷◌, ◌++◌, FitsSigned, to_z, of_z, sym}
use Rattle.hf_modem.proofs.Common.{ap, subst, ◌%◌, ◌/◌, ◌<◌, arith, IfOk, to_z-of_z, length, length-set, w16, tone_of}
use Rattle.hf_modem.proofs.Common.{HeldToneLane, All, Option, Some, None, Candidate, end_sample}
use Rattle.hf_modem.proofs.Common.{ToneLaneStandsFor, HeldBank, BankStandsFor, last_window, IsHeard, bits_of}
use Rattle.std.specs.Prelude.{Result, Ok, Err, IfSome}
use Rattle.std.specs.Result.{IsErrAnd}
use Rattle.std.proofs.lemmas.List.Elements.{All-set}
use Rattle.hdlc_framer.specs.Held.{flags_asked}
use Rattle.hf_modem.specs.Held.{AsksFor}
use Rattle.hf_modem.proofs.BankLemmas.{bank_early, bank_more}
use Rattle.hf_modem.proofs.bank.HfBank.push.Goals as goal

-- a sample as it is passed
passed : (recent now : List ℤ) (sample : ℤ) → FitsSigned w16 sample
    → ((x : List ℤ) → recent ≡ last_window x → now ≡ last_window (x ++ to_z w16 (of_z w16 sample) ∷ []))
    → (x : List ℤ) → recent ≡ last_window x → now ≡ last_window (x ++ sample ∷ [])
passed recent now sample fits push x is = push x is ∙ ap (λ z. last_window (x ++ z ∷ [])) (to_z-of_z w16 sample fits)

-- want of memory gives nothing
nothing : {T E : Type 0} (Q : E → Type 0) (result : Result T E) (P : T → Type 0) → IsErrAnd result Q → IfOk result P
nothing Q (Ok v) P e = absurd e
nothing Q (Err e) P is = tt

within : (n : ℕ) → n % 32 < 32
within n = omega arith

-- the place of what was heard, from its end and its offset
placed : (heard : Option Candidate) (offset at : ℕ) → offset ≡ at % 32
    → IfSome heard (λ item. (item.end ≡ at / 4) × (item.offset ≡ offset))
    → IfSome heard (λ item. (end_sample item ≡ at) × (item.offset ≡ at % 32))
placed None offset at is told = tt
placed (Some item) offset at is told = let e = told.0 in let o = told.1 in (omega arith, o ∙ is)

-- a lane in whose place stands one that listens for as many flags
still_ask : (flags : ℕ) (lanes : List HeldToneLane) (offset : ℕ) (was lane : HeldToneLane) → offset < length lanes
    → was ≡ get_or lanes offset was → flags_asked lane.deframer ≡ flags_asked was.deframer
    → All (AsksFor flags) lanes → All (AsksFor flags) (set lanes offset lane)
still_ask flags lanes offset was lane l is same asks =
    All-set (AsksFor flags) lanes offset lane
    (same ∙ subst (AsksFor flags) (sym is) (asks offset was l)) asks

pub returns-then-self-lt-WINDOW-clause-heard : goal.returns-then-self-lt-WINDOW-clause-heard
returns-then-self-lt-WINDOW-clause-heard c = λ x h.
    let s = c.self.inside in
    let stood = subst (λ (held : HeldBank). BankStandsFor held x) (sym c.self.view_is) h in
    bank_early s.lanes.items s.recent c.push.new.self s.position s.flags x c.args.sample
    (passed s.recent c.push.new.self c.args.sample c.ranges.sample c.push.ensures) stood c.if-self-lt-WINDOW.true

pub returns-clause-heard : goal.returns-clause-heard
returns-clause-heard c = λ x h.
    let s = c.self.inside in
    let stood = subst (λ (held : HeldBank). BankStandsFor held x) (sym c.self.view_is) h in
    let was : HeldToneLane = c.index_mut-lane.result.now in
    let there : was ≡ get_or s.lanes.items c.from.result was = c.index_mut-lane.ensures.value in
    bank_more s.lanes.items s.recent c.push.new.self s.position s.flags x c.args.sample
    (passed s.recent c.push.new.self c.args.sample c.ranges.sample c.push.ensures) stood
    c.from.result was c.hear.new.lane c.hf_decide-tone.result c.in_ok-heard.heard c.self.invariant.0
    c.if-self-lt-WINDOW.false c.from.ensures
    (c.hf_decide-tone.ensures ∙ ap tone_of c.window.ensures)
    (λ tones stands. c.hear.ensures.stands_for tones (subst (λ l. ToneLaneStandsFor l tones) (sym there) stands))
    (λ tones stands. subst (λ (o : ℕ). IsHeard o (s.position + 1) (bits_of (tones ++ c.hf_decide-tone.result ∷ []))
    c.in_ok-heard.heard) (sym c.from.ensures)
    (c.in_ok-heard.ensures.heard tones (subst (λ l. ToneLaneStandsFor l tones) (sym there) stands)))

pub returns-then-self-lt-WINDOW-clause-position : goal.returns-then-self-lt-WINDOW-clause-position
returns-then-self-lt-WINDOW-clause-position c = ap (λ (held : HeldBank). held.position + 1) c.self.view_is

pub returns-in_err-heard-clause-position : goal.returns-in_err-heard-clause-position
returns-in_err-heard-clause-position c = ap (λ (held : HeldBank). held.position + 1) c.self.view_is

pub returns-clause-position : goal.returns-clause-position
returns-clause-position c = ap (λ (held : HeldBank). held.position + 1) c.self.view_is

pub returns-in_err-heard-clause-heard : goal.returns-in_err-heard-clause-heard
returns-in_err-heard-clause-heard c = nothing _ c.from_residual.result _ c.from_residual.ensures.1

pub returns-in_err-heard-clause-bounds : goal.returns-in_err-heard-clause-bounds
returns-in_err-heard-clause-bounds c = nothing _ c.from_residual.result _ c.from_residual.ensures.1

pub returns-clause-bounds : goal.returns-clause-bounds
returns-clause-bounds c = c.in_ok-heard.ensures.bounds

pub hear-requires : goal.hear-requires
hear-requires c = within (c.self.inside.position + 1)

pub invariant_of-self : goal.invariant_of-self
invariant_of-self c = c.self.invariant

pub invariant_of-self-2 : goal.invariant_of-self-2
invariant_of-self-2 c =
    let s = c.self.inside in
    let was : HeldToneLane = c.index_mut-lane.result.now in
    let there : was ≡ get_or s.lanes.items c.from.result was = c.index_mut-lane.ensures.value in
    let all = c.self.invariant.0 in
    let small = within (s.position + 1) in
    let offset = c.from.ensures in
    let inside : c.from.result < length s.lanes.items = omega arith in (
      length-set s.lanes.items c.from.result c.hear.new.lane ∙ c.self.invariant.0,
      still_ask s.flags s.lanes.items c.from.result was c.hear.new.lane inside there c.hear.ensures.asks
          c.self.invariant.1,
      c.self.invariant.2,
      c.self.invariant.3,
    )

pub returns-clause-place : goal.returns-clause-place
returns-clause-place c =
    let P : HeldBank → Type 0 = λ held. IfSome c.in_ok-heard.heard (λ item. (end_sample item ≡ held.position + 1)
    × (item.offset ≡ (held.position + 1) % 32)) in
    let at : ℕ = c.self.inside.position + 1 in
    subst P c.self.view_is (placed c.in_ok-heard.heard (at % 32) at refl c.in_ok-heard.ensures.end)

pub returns-in_err-heard-clause-place : goal.returns-in_err-heard-clause-place
returns-in_err-heard-clause-place c = nothing _ c.from_residual.result _ c.from_residual.ensures.1

pub returns-then-self-lt-WINDOW-clause-flags : goal.returns-then-self-lt-WINDOW-clause-flags
returns-then-self-lt-WINDOW-clause-flags c = ap (λ (held : HeldBank). held.flags) c.self.view_is

pub returns-in_err-heard-clause-flags : goal.returns-in_err-heard-clause-flags
returns-in_err-heard-clause-flags c = ap (λ (held : HeldBank). held.flags) c.self.view_is

pub returns-clause-flags : goal.returns-clause-flags
returns-clause-flags c = ap (λ (held : HeldBank). held.flags) c.self.view_is
