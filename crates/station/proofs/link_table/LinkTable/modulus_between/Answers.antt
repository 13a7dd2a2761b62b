use Rattle.station.proofs.Common.{◌≡◌, ℕ, Option, position, ◌∙◌, ap, Callsign, HeldLinks, is_held_between, Links}
use Rattle.station.proofs.Common.{link_at, key_between, StandsForLinks, place_at}
use Rattle.std.specs.Option.{option_or}
use Rattle.station.specs.Monitored.{key_of_both, modulus_at}
use Rattle.station.proofs.EventLemmas.{places-at}
use Rattle.station.proofs.HearLemmas.{key_found, same_modulus}
use Rattle.station.proofs.link_table.LinkTable.modulus_between.Goals as goal

-- the key is the same in both orders
both_found : (held : HeldLinks) (links : Links) (first second : Callsign) → StandsForLinks held links
    → option_or (position (is_held_between first second) held.places)
    (position (is_held_between second first) held.places) ≡ key_of_both first second links
both_found held links first second h =
    ap (λ (key : Option ℕ). option_or key (position (is_held_between second first) held.places))
    (key_found held links first second h)
    ∙ ap (λ (key : Option ℕ). option_or (key_between first second links) key) (key_found held links second first h)

pub returns-in-Some : goal.returns-in-Some
returns-in-Some c = λ links h.
    let held = c.args.self.now in
    let key = c.in-Some.key in
    c.modulus.ensures ∙ same_modulus (place_at key held) (link_at key links)
    (places-at held.places links.places key h.places)
    ∙ ap (λ (key : Option ℕ). modulus_at key links) (c.in-Some.ensures
    ∙ both_found held links c.args.first.now c.args.second.now h)

pub returns-in-None : goal.returns-in-None
returns-in-None c = λ links h.
    ap (λ (key : Option ℕ). modulus_at key links) (c.in-None.ensures
    ∙ both_found c.args.self.now links c.args.first.now c.args.second.now h)
