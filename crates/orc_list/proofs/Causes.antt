-- From what a call did to its clauses on journals.
use Rattle.std.proofs.Common.{Bool, Err, List, Ok, Result, [], ap, append_assoc, arith, cond, drop, false, length, refl, subst, sym, take, true, ℕ, ◌*◌, ◌++◌, ◌+◌, ◌==◌, ◌∙◌, ◌∷◌, ◌≡◌, ◌≤◌}
use Rattle.std.proofs.lemmas.List.Elements.{filter-append}
use Rattle.std.proofs.Math.Seq.{drop-append_seam, take-length}
use Rattle.std.specs.List.{list_all}
use Rattle.std.specs.Prelude.{IsErr}
use mathlib.Core.List.{IsPrefix}
use Rattle.orc_heap.proofs.InJournal.{CallSeen, seen_part}
use Rattle.orc_heap.proofs.OwnEntries.{noted-append, own_of_events}
use Rattle.orc_heap.proofs.OwnParts.{from_own-others, moves_from_own}
use Rattle.orc_heap.proofs.Stays.{allowed-left, allowed-right}
use Rattle.orc_heap.proofs.Steps.{PartEvents}
use Rattle.orc_heap.specs.Allowed.{AllAllowed, events_by}
use Rattle.orc_heap.specs.Heap.{HeapNumbers}
use Rattle.orc_heap.specs.Journals.{run_heap}
use Rattle.orc_heap.specs.Moves.{from_own, gives_in, moves_in}
use Rattle.orc_heap.specs.OwnEvents.{IsBelow, Puts}
use Rattle.orc_heap.specs.Seats.{Seat}
use Rattle.orc_heap.specs.declared.events.Event.{Event}
use Rattle.orc_history.specs.Journals.{own_of}
use Rattle.orc_history.specs.Parts.{InPart, part_begin}
use Rattle.orc_history.specs.SetHistory.{agent_of_set_entry}
use Rattle.orc_history.specs.declared.set.ListRefused.{ListRefused}
use Rattle.orc_history.specs.declared.set.ListRefused.TheVariants.{Again}
use Rattle.orc_history.specs.declared.set.SetEntry.{SetEntry}
use Rattle.orc_chain_rule.proofs.Later.{holds_later, nothing_yet}
use Rattle.orc_chain_rule.proofs.OwnEntries.{entries_own}
use Rattle.orc_chain_rule.proofs.Stretches.{turns_bounded}
use Rattle.orc_chain_rule.specs.ChainDiscipline.{ChainMay, entries_in, entries_of}
use Rattle.orc_chain_rule.specs.Counts.{AreLeftOver, adds_in, entries_of_others, removes_in}
use Rattle.orc_chain_rule.specs.declared.chain.ChainNote.{ChainNote}
use Rattle.orc_list.specs.Causes.{CostTurns, UsesTurns}
use Rattle.orc_list.specs.Searches.{list_reading}
use Rattle.orc_list.specs.Turns.{AreFew, MadeFew}
use Rattle.orc_ordered_search.specs.Turns.{made_from}
use Rattle.orc_ordered_search.proofs.Parts.{others_split}
use Rattle.orc_ordered_search.proofs.Settling.{Did, entries_by}
use Rattle.orc_ordered_search.proofs.Causes.{turns_used as uses_turns}
use Rattle.orc_list.proofs.Ordered.{list_ordering}

-- where none is the agent's own, all are others'
all_others : (agent : ℕ) (es : List SetEntry) → own_of agent_of_set_entry agent es ≡ [] → entries_of_others agent es ≡ es
all_others agent [] none = refl
all_others agent (e ∷ es) none = cases (agent_of_set_entry e == agent) refl none (λ h. all_others agent es h)
  where
    cases : (b : Bool) → (agent_of_set_entry e == agent) ≡ b → cond b (e ∷ own_of agent_of_set_entry agent es) (own_of agent_of_set_entry agent es) ≡ []
        → (own_of agent_of_set_entry agent es ≡ [] → entries_of_others agent es ≡ es) → entries_of_others agent (e ∷ es) ≡ e ∷ es
    cases true is h rest = cc
    cases false is h rest = rw is (ap (λ z. e ∷ z) (rest h))

-- over the journals of a domain
module _ {S : Type 0} (n : HeapNumbers) (agents : ℕ) (agent_of : S → ℕ) (events : List S → List (Event ChainNote))
    (adds : (j : List S) (x : S)
    → (es : List (Event ChainNote)) × (events (j ++ x ∷ []) ≡ events j ++ es) × (list_all (λ e. e.agent == agent_of x) es ≡ true))
    (s u : Seat ChainNote) (j m : List S) (grows : IsPrefix j m) (is_s : s.seen ≡ events j) (is_u : u.seen ≡ events m)
    (all : AllAllowed (ChainMay n) [] u.seen) (below : IsBelow agents u.seen)
  where
    abbrev seen : CallSeen ChainMay n agents agent_of events s u j m
    seen = record { adds = adds; grows = grows; is_s = is_s; is_t = is_u; all = all; below = below }

    -- what others entered in its part, and what was left over when that began, cost the turns of a call that entered nothing
    part_cost : (turns : ℕ) (own : List (Event ChainNote)) (p : Puts s own u) → entries_of own ≡ [] → (e : PartEvents agent_of events adds s.agent j m p.part)
        → turns ≤ moves_in e.part → CostTurns n events s.agent turns m (part_begin agent_of s.agent j m) (length m)
    part_cost turns own p no_entry e enough = λ ids left.
        let begin = part_begin agent_of s.agent j m in
        let seen = s.seen ++ e.gap in
        let before : events j ++ e.gap ≡ seen = ap (λ z. z ++ e.gap) (sym is_s) in
        let split : u.seen ≡ seen ++ e.part = p.is ∙ (ap (λ z. s.seen ++ z) e.is ∙ sym (append_assoc s.seen e.gap e.part)) in
        let whole : events (take (length m) m) ≡ seen ++ e.part = ap events (take-length m) ∙ (sym is_u ∙ split) in
        let may : AllAllowed (ChainMay n) [] (seen ++ e.part) = subst (λ z. AllAllowed (ChainMay n) [] z) split all in
        let part_may = allowed-right (ChainMay n) [] seen e.part may in
        let mine : events_by s.agent e.part ≡ own = ap (λ z. z ++ events_by s.agent e.part) (sym e.others) ∙
        (sym (filter-append (λ x. x.agent == s.agent) e.gap e.part) ∙ (ap (λ z. events_by s.agent z) (sym e.is) ∙ p.own_is)) in
        let none : own_of agent_of_set_entry s.agent (entries_of e.part) ≡ [] =
        own_of_events entries_in agent_of_set_entry (ChainMay n) (entries_own n) s.agent seen e.part part_may ∙ (ap entries_of mine ∙ no_entry) in
        let rest : drop (length (entries_of (events (take begin m)))) (entries_of (events (take (length m) m))) ≡ entries_of e.part =
        ap (λ z. drop (length (entries_of z)) (entries_of (events (take (length m) m)))) (e.begin_events ∙ before)
        ∙ (ap (λ z. drop (length (entries_of seen)) (entries_of z)) whole
        ∙ (ap (λ z. drop (length (entries_of seen)) z) (noted-append entries_in seen e.part) ∙ drop-append_seam (entries_of seen) (entries_of e.part))) in
        let entered = ap (λ z. entries_of_others s.agent z) rest ∙ all_others s.agent (entries_of e.part) none in
        let left_over = subst (λ z. AreLeftOver (run_heap n z) ids) (e.begin_events ∙ before) left in
        let holds = holds_later n [] seen (nothing_yet n) (allowed-left (ChainMay n) [] seen e.part may) in
        subst (λ z. turns ≤ adds_in z + 2 * removes_in z + length ids) (sym entered) (turns_bounded n seen e.part ids turns holds part_may left_over enough)

    -- all turns were used, and that cost others' work
    pub turns_used : {E IsAgain : Type 0} (most turns : ℕ) (entry : Bool → SetEntry) (r : Result Bool E)
        → Did {E = E} (list_reading n) IsAgain most turns entry s r u → (IsAgain → entries_by entry r ≡ []) → IsAgain
        → InPart agent_of s.agent j m (λ from to. UsesTurns n agent_of events s.agent turns m from to)
    turns_used most turns entry r d none again =
        let p = d.made.puts in
        let used = uses_turns (list_ordering n) agents agent_of events adds s u j m grows is_s is_u all below most turns entry r d again in
        let e = seen_part seen d.own p in
        let same : from_own s.agent p.part ≡ from_own s.agent e.part = ap (λ z. from_own s.agent z) e.is ∙ from_own-others s.agent e.gap e.part e.others in
        let enough : turns ≤ moves_in e.part = omega (
          arith,
          d.over again,
          others_split s.agent (from_own s.agent p.part),
          ap (λ (z : List (Event ChainNote)). moves_in z) same,
          moves_from_own s.agent e.part,
        ) in
        record {
          in_order = used.in_order;
          in_journal = used.in_journal;
          moves = used.moves;
          not_alone = used.not_alone;
          cost = part_cost turns d.own p (d.made.entries_are ∙ (d.entries_are ∙ none again)) e enough;
        }

-- what answered with a refusal entered nothing
pub none_of_err : {E : Type 0} (entry : Bool → SetEntry) (r : Result Bool E) → IsErr r → entries_by entry r ≡ []
none_of_err entry (Ok answer) e = cc
none_of_err entry (Err e) is = refl

pub none_of_again : (entry : Bool → SetEntry) (r : Result Bool ListRefused) → r ≡ Err Again → entries_by entry r ≡ []
none_of_again entry r is = ap (λ (x : Result Bool ListRefused). entries_by entry x) is

-- how few events a call made
pub did_few : (turns most : ℕ) (s u : Seat ChainNote) → MadeFew turns s u → gives_in (made_from s u) ≤ most → AreFew turns (3 * most) (made_from s u)
did_few turns most s u few low = λ ids covers. omega (arith, few ids covers, low)
