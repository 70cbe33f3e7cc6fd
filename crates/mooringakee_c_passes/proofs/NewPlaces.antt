-- New passes get new places.
use Rattle.std.proofs.Common.{All, Box, List, [], arith, length, slice_index_or, subst, sym, ℕ, ◌<◌, ◌≡◌}
use Rattle.std.specs.Global.{Global}
use Rattle.given_back.specs.Places.{tags}
use Rattle.given_back.specs.declared.places.GivenBack.{GivenBack}
use Rattle.orc_core.specs.declared.records.Agent.{Agent}
use Rattle.orc_domain.specs.Passes.{journal_of, seat_of}
use Rattle.orc_domain.specs.declared.domain.OrcDomain.{OrcDomain}
use Rattle.orc_domain.specs.declared.domain.OrcPass.{OrcPass}
use Rattle.orc_heap.specs.declared.discipline.Discipline as discipline
use Rattle.orc_machine_board.specs.declared.machine.MachineShape.{MachineShape}
use Rattle.orc_machine_board.specs.declared.machine.Reclaiming.{Reclaiming}
use Rattle.orc_machine_board.specs.declared.machine.Request.{Request}
use Rattle.orc_shared_words.specs.Lists.{EachAt}
use Rattle.orc_shared_words.specs.declared.machine.Machine as machine
use Rattle.orc_sound.specs.declared.steps.Step.{Step}
use Rattle.mooringakee_c_passes.specs.Kinds.{ContainerKind, calls_in}
use Rattle.mooringakee_c_passes.specs.Places.{GetsPlace, IsNewPlace}
use Rattle.mooringakee_c_passes.specs.Usable.{CanBeUsed}
use Rattle.mooringakee_c_passes.specs.declared.place.AgentPlace.{AgentPlace}
use Rattle.mooringakee_c_passes.specs.declared.seat.Seat.{Seat}

module _ {D N E W C T K : Type 0} {d : discipline.Ghosts D N} {m : machine.Ghosts Reclaiming N (MachineShape N) Request (Step N) Agent Agent}
    (kind : ContainerKind D N E W) (container : C) (domain_of : C → OrcDomain D N) (domain : OrcDomain D N) (here : domain_of container ≡ domain)
    (rooms : GivenBack T K (OrcDomain D N)) (turns : ℕ)
  where
    -- the place of a new pass is a new place
    new_place : (agent : ℕ) (p : OrcPass D N d m) (place : AgentPlace C (GivenBack T K (OrcDomain D N)) (OrcPass D N d m)) → place.container.value ≡ container → place.places.value ≡ rooms → p ≡ place.pass
        → place.turns ≡ turns → CanBeUsed domain (tags rooms) p → (seat_of domain p).agent ≡ agent → calls_in kind domain (journal_of p) ≡ []
        → IsNewPlace kind domain turns agent (domain_of place.container.value) place
    new_place agent p place same places is turns_are can agent_is none =
        let own : domain_of place.container.value ≡ domain = subst (λ (c : C). domain_of c ≡ domain) (sym same) here in
        record {
          usable = subst (λ (z : OrcDomain D N). CanBeUsed z (tags place.places.value) place.pass) (sym own)
              (subst (λ (r : GivenBack T K (OrcDomain D N)). CanBeUsed domain (tags r) place.pass) (sym places)
              (subst (λ (q : OrcPass D N d m). CanBeUsed domain (tags rooms) q) is can));
          domain_is = own;
          turns_are = turns_are;
          agent_is = subst (λ (q : OrcPass D N d m). (seat_of (domain_of place.container.value) q).agent ≡ agent) is agent_is;
          none = subst (λ (z : OrcDomain D N). calls_in kind z (journal_of place.pass) ≡ []) (sym own)
              (subst (λ (q : OrcPass D N d m). calls_in kind domain (journal_of q) ≡ []) is none);
        }

    -- and so of all passes, in order
    pub new_seats : (seat : AgentPlace C (GivenBack T K (OrcDomain D N)) (OrcPass D N d m) → Seat) (IsNew : ℕ → Seat → Type 0)
        (passes : List (OrcPass D N d m)) (seats : List (Box Seat Global)) → length seats ≡ length passes
        → All (λ p. CanBeUsed domain (tags rooms) p) passes → EachAt (λ i p. (seat_of domain p).agent ≡ i) passes
        → All (λ p. calls_in kind domain (journal_of p) ≡ []) passes
        → (made : AgentPlace C (GivenBack T K (OrcDomain D N)) (OrcPass D N d m) → Seat → Type 0)
        → EachAt (λ i b. GetsPlace made container rooms passes turns i b.value) seats
        → ((place : AgentPlace C (GivenBack T K (OrcDomain D N)) (OrcPass D N d m)) (s : Seat) → made place s → s ≡ seat place)
        → ((agent : ℕ) (place : AgentPlace C (GivenBack T K (OrcDomain D N)) (OrcPass D N d m))
        → IsNewPlace kind domain turns agent (domain_of place.container.value) place → IsNew agent (seat place))
        → EachAt (λ agent b. IsNew agent b.value) seats
    new_seats seat IsNew passes seats many can order none made gets seated is_new i b low =
        let got = gets i b low in
        let p = slice_index_or passes i got.place.pass in
        let before : i < length passes = omega (arith, low, many) in
        subst (λ (s : Seat). IsNew i s) (sym (seated got.place (slice_index_or seats i b).value got.is))
        (is_new i got.place (new_place i p got.place got.container_is got.places_are (got.pass_is got.place.pass) got.turns_are
        (can i got.place.pass before) (order i got.place.pass before) (none i got.place.pass before)))
