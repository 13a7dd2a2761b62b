use Rattle.fx25_receiver.proofs.laws.given_items_are_merged.Goals as goal

pub returns : goal.returns
returns c = λ receiver x given stands.
    let h = stands.taken.has_heard in record { heard = h.heard; are = h.are; is = h.given_is }
