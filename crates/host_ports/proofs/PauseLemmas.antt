-- The connections that a poll pauses.
use Rattle.host_ports.proofs.Common.{◌==◌, ◌||◌, ◌↔◌, Bool, true, false, List, ◌∷◌, Contains, IsTrue, list_any, sym, ◌∙◌}
use Rattle.host_ports.proofs.Common.{ap, subst, inl, inr, get_or, eqb-true, eq-eqb, ne_eqb, cases_Bool, or_cases}
use Rattle.host_ports.proofs.Common.{or_left, or_right, true≢false, take_more, list_any-append, Client, Hosts, is_client_of}
use Rattle.host_ports.proofs.Common.{ArePaused, HasToWait}
use Rattle.std.specs.Prelude.{◌≡◌, ℕ, ◌+◌, ◌<◌, [], ◌++◌, length, take, IsPermutation, refl}
use Rattle.std.specs.Cmp.{IsEquivalence}
use Rattle.std.specs.List.{dedup}
use Rattle.std.specs.List.Sorted.{IsStrictlyIncreasing}
use Rattle.std.proofs.lemmas.List.Elements.{Contains-push, Contains-push_cases, Contains-append_left}
use Rattle.std.proofs.lemmas.List.Kept.{Contains-dedup_nat, Contains-from_dedup}
use Rattle.std.proofs.lemmas.List.Sorted.{list_any-IsPermutation}
use Rattle.std.proofs.lemmas.Map.Views.{list_any-from_Contains, Contains-from_any}
use Rattle.host_ports.specs.HeldHosts.{AreWaiting}

eqb_turned : (a b : ℕ) → (a == b) ≡ (b == a)
eqb_turned a b = elim (cases_Bool (a == b)) [
  | inl is ↦ is ∙ sym (eq-eqb b a (sym (eqb-true a b is)))
  | inr isnt ↦ isnt ∙ sym (ne_eqb b a (λ same. true≢false (sym (eq-eqb a b (sym same)) ∙ isnt)))
]

numbers_alike : IsEquivalence (λ a b. a == b)
numbers_alike = record {
  refl = λ x. eq-eqb x x refl;
  symm = λ x y. eqb_turned x y;
  congr = λ x y z same. ap (λ n. n == z) (eqb-true x y same);
}

contains_too : (xs ys : List ℕ) (x : ℕ) → IsPermutation xs ys → Contains xs x → Contains ys x
contains_too xs ys x same has =
    Contains-from_any {eq = λ a b. a == b} eqb-true x ys
    (sym (list_any-IsPermutation (λ y. x == y) xs ys same)
    ∙ list_any-from_Contains {eq = λ a b. a == b} numbers_alike x xs has)

-- sorted, and each once
pub are_paused : (waiting sorted ids : List ℕ) (hosts : Hosts) → AreWaiting waiting hosts → IsPermutation waiting sorted
    → IsPermutation sorted waiting → IsStrictlyIncreasing (dedup (λ a b. a == b) sorted)
    → ids ≡ dedup (λ a b. a == b) sorted → ArePaused hosts ids
are_paused waiting sorted ids hosts are same back rising is = record {
  rising = subst IsStrictlyIncreasing (sym is) rising;
  exactly = λ id. (
    λ has. (are id).0 (contains_too sorted waiting id back
        (Contains-from_dedup (λ a b. a == b) sorted id (subst (λ xs. Contains xs id) is has))),
    λ waits. subst (λ xs. Contains xs id) (sym is) (Contains-dedup_nat sorted id
        (contains_too waiting sorted id same ((are id).1 waits))),
  );
}

-- ---- client by client

abbrev pub AreWaitingOf : List ℕ → List Client → Hosts → Type 0
AreWaitingOf ids clients hosts = (id : ℕ) → Contains ids id
    ↔ (IsTrue (list_any (is_client_of id) clients) × HasToWait id hosts)

or_nothing : (b : Bool) → (b || false) ≡ b
or_nothing true = refl
or_nothing false = refl

any_more : (id i : ℕ) (clients : List Client) (d : Client) → i < length clients
    → list_any (is_client_of id) (take (i + 1) clients)
    ≡ (list_any (is_client_of id) (take i clients) || ((get_or clients i d).id == id))
any_more id i clients d within =
    ap (list_any (is_client_of id)) (take_more clients i d within)
    ∙ list_any-append (is_client_of id) (take i clients) (get_or clients i d ∷ [])
    ∙ ap (λ t. list_any (is_client_of id) (take i clients) || t) (or_nothing ((get_or clients i d).id == id))

pub one_waits : (i : ℕ) (ids next : List ℕ) (clients : List Client) (d : Client) (hosts : Hosts) → i < length clients
    → AreWaitingOf ids (take i clients) hosts → HasToWait (get_or clients i d).id hosts
    → next ≡ ids ++ (get_or clients i d).id ∷ []
    → AreWaitingOf next (take (i + 1) clients) hosts
one_waits i ids next clients d hosts within are waits is id =
    let one : ℕ = (get_or clients i d).id in (
      λ has. elim (Contains-push_cases ids one id (subst (λ xs. Contains xs id) is has)) [
        | inl was ↦ (
          any_more id i clients d within ∙ or_left (list_any (is_client_of id) (take i clients)) (one == id)
              ((are id).0 was).0,
          ((are id).0 was).1,
        )
        | inr same ↦ (
          any_more id i clients d within ∙ or_right (list_any (is_client_of id) (take i clients)) (one == id)
              (eq-eqb one id same),
          subst (λ n. HasToWait n hosts) same waits,
        )
      ],
      λ both. subst (λ xs. Contains xs id) (sym is)
          (elim (or_cases (list_any (is_client_of id) (take i clients)) (one == id) (sym (any_more id i clients d within)
          ∙ both.0)) [
            | inl was ↦ Contains-append_left ids (one ∷ []) id ((are id).1 (was, both.1))
            | inr same ↦ subst (λ n. Contains (ids ++ one ∷ []) n) (eqb-true one id same) (Contains-push ids one)
          ]),
    )

pub one_goes : (i : ℕ) (ids : List ℕ) (clients : List Client) (d : Client) (hosts : Hosts) → i < length clients
    → AreWaitingOf ids (take i clients) hosts → ¬ HasToWait (get_or clients i d).id hosts
    → AreWaitingOf ids (take (i + 1) clients) hosts
one_goes i ids clients d hosts within are goes id =
    let one : ℕ = (get_or clients i d).id in (
      λ has. (
        any_more id i clients d within ∙ or_left (list_any (is_client_of id) (take i clients)) (one == id)
            ((are id).0 has).0,
        ((are id).0 has).1,
      ),
      λ both. elim (or_cases (list_any (is_client_of id) (take i clients)) (one == id) (sym (any_more id i clients d within)
          ∙ both.0)) [
            | inl was ↦ (are id).1 (was, both.1)
            | inr same ↦ absurd (goes (subst (λ n. HasToWait n hosts) (sym (eqb-true one id same)) both.1))
          ],
    )
