-- A worked run of moves: x calls y and gives two packets. The I frame with the first is lost, y stores the second and
-- asks for the first by SREJ, and gets both in order.
use Rattle.link_world.proofs.Common.{◌≡◌, [], ◌∷◌, Some, refl, arith, Packet}
use Rattle.link_world.proofs.law.reduced.Core.{Core, End, Running, Stored, Tagged, set_ups, set_up_at, mirror, between}
use Rattle.link_world.proofs.law.reduced.Core.Numbered.{Info, Srej}
use Rattle.link_world.proofs.law.reduced.Core.Standing.{Calling, Up}
use Rattle.link_world.proofs.law.reduced.CoreMoves.{Move, Moves, new_end, new_core, now, opened, given_more}
use Rattle.link_world.proofs.law.reduced.CoreMoves.{sent_number, storing, got_more, numbered_to}
use Rattle.link_world.proofs.law.reduced.CoreMoves.Move.{Lose, SendInfo, SendSrej, AcceptFront, StoreFront, TakeStored}
use Rattle.link_world.proofs.law.reduced.CoreMoves.Move.{GiveUp, Begin, Call, OpenCalled, OpenAnswered}
use Rattle.link_world.proofs.law.reduced.CoreMoves.Moves.{NoMove, ThenX, ThenY}

by_x : {w v u : Core} → Moves w v → Move v u → Moves w u
by_x {w} {v} {u} run move = ThenX w v u run move

by_y : {w v u : Core} → Moves w v → Move (mirror v) (mirror u) → Moves w u
by_y {w} {v} {u} run move = ThenY w v u run move

abbrev new : End
new = new_end 8 (λ modulus. 4)

abbrev fresh : Running
fresh = opened 0 8 []

abbrev up : Running → End
up r = now (Up r) new

-- what x keeps: two packets given, then one sent, then both
abbrev given : Packet → Packet → Running
given p q = given_more q (given_more p fresh)

abbrev one_sent : Packet → Packet → Running
one_sent p q = sent_number 0 (given p q)

abbrev both_sent : Packet → Packet → Running
both_sent p q = sent_number 1 (one_sent p q)

abbrev first : Packet → Tagged
first p = numbered_to 0 8 (Info 0 0 p)

abbrev second : Packet → Tagged
second q = numbered_to 0 8 (Info 1 0 q)

abbrev kept : Packet → Stored
kept q = record { number = 1; packet = q }

-- what y keeps: the second packet stored, then the first got, then both
abbrev one_stored : Packet → Running
one_stored q = storing (kept q ∷ []) (Some 0) fresh

abbrev one_got : Packet → Packet → Running
one_got p q = got_more p (Some 0) (kept q ∷ []) (one_stored q)

abbrev both_got : Packet → Packet → Running
both_got p q = got_more q (Some 0) [] (one_got p q)

-- a call
called : Moves (new_core 8 (λ modulus. 4) (λ modulus. 4)) (between (up fresh) (up fresh) [] [])
called = by_x (by_y (by_x (by_x (NoMove (new_core 8 (λ modulus. 4) (λ modulus. 4))) (Begin new new 8 [] [] refl))
    (Call new new [] [] [] refl))
    (OpenCalled new (now (Calling []) new) 0 8 [] [] refl)) (OpenAnswered new (up fresh) [] 0 [] [])

-- two packets, of which the first is lost
lost : (p q : Packet)
    → Moves (new_core 8 (λ modulus. 4) (λ modulus. 4)) (between (up (both_sent p q)) (up fresh) [] (second q ∷ []))
lost p q = by_y (by_x (by_x (by_x (by_x called (GiveUp new (up fresh) fresh p [] []))
    (GiveUp new (up fresh) (given_more p fresh) q [] []))
    (SendInfo new (up fresh) (given p q) 0 p [] [] (omega arith) (omega arith) refl))
    (SendInfo new (up fresh) (one_sent p q) 1 q [] (first p ∷ []) (omega arith) (omega arith) refl))
    (Lose (up fresh) (up (both_sent p q)) [] (first p) (second q ∷ []) [])

-- the first goes out again
again : (p q : Packet)
    → Moves (new_core 8 (λ modulus. 4) (λ modulus. 4))
    (between (up (both_sent p q)) (up (one_stored q)) [] (first p ∷ []))
again p q = by_x (by_x (by_y (by_y (lost p q) (StoreFront new (up (both_sent p q)) fresh 0 8 1 0 q [] [] [] [] refl))
    (SendSrej new (up (both_sent p q)) (one_stored q) 0 [] (kept q) [] [] [] refl (omega arith) (omega arith)))
    (Lose (up (both_sent p q)) (up (one_stored q)) [] (numbered_to 0 8 (Srej 0)) [] []))
    (SendInfo new (up (one_stored q)) (both_sent p q) 0 p [] [] (omega arith) (omega arith) refl)

-- both are got
got : (p q : Packet)
    → Moves (new_core 8 (λ modulus. 4) (λ modulus. 4)) (between (up (both_sent p q)) (up (both_got p q)) [] [])
got p q = by_y (by_y (again p q) (AcceptFront new (up (both_sent p q)) (one_stored q) 0 8 0 p [] []))
    (TakeStored new (up (both_sent p q)) (one_got p q) [] (kept q) [] [] [] refl refl refl)

pub in_order : (p q : Packet) → (set_up_at (set_ups (up (both_got p q))) 0).got ≡ p ∷ q ∷ []
in_order p q = refl
