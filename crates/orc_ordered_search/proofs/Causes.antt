-- From what a call did to its clauses on journals.
use Rattle.std.proofs.Common.{Bool, Err, List, Ok, Result, [], ap, append-nil, append_assoc, arith, drop, length, refl, subst, sym, take, true, ℕ, ◌++◌, ◌<◌, ◌==◌, ◌∙◌, ◌∷◌, ◌≡◌, ◌≤◌}
use Rattle.std.proofs.Math.Seq.{drop-append_seam, take-length}
use Rattle.std.specs.List.{list_all}
use Rattle.std.specs.Prelude.{IfErr, IfOk, IsErr}
use mathlib.Core.List.{IsPrefix}
use Rattle.orc_heap.proofs.InJournal.{CallSeen, adds_entries, own_after, seen_new, seen_part}
use Rattle.orc_heap.proofs.OwnParts.{from_own-others, own_from}
use Rattle.orc_heap.proofs.Steps.{part_bounds}
use Rattle.orc_heap.specs.Allowed.{AllAllowed, events_by}
use Rattle.orc_heap.specs.Journals.{noted_entries}
use Rattle.orc_heap.specs.Moves.{AllOwn, from_own, gives_in}
use Rattle.orc_heap.specs.OwnEvents.{IsBelow, Puts}
use Rattle.orc_heap.specs.Seats.{Seat}
use Rattle.orc_heap.specs.declared.events.Event.{Event}
use Rattle.orc_history.specs.Journals.{Adds}
use Rattle.orc_history.specs.Parts.{InPart, IsAlone, part_begin}
use Rattle.orc_history.specs.SetHistory.{agent_of_set_entry}
use Rattle.orc_history.specs.declared.set.SetEntry.{SetEntry}
use Rattle.orc_ordered_search.specs.Causes.{UsesTurns, others_moves}
use Rattle.orc_ordered_search.specs.Reading.{Ordering, Reading}
use Rattle.orc_ordered_search.proofs.Parts.{others_alone, others_append, others_from}
use Rattle.orc_ordered_search.proofs.Settling.{Did}

-- the own events
module _ {E N IsAgain : Type 0} (r : Reading N) (most turns : ℕ) (entry : Bool → SetEntry) (s u : Seat N) (result : Result Bool E)
    (d : Did {E = E} r IsAgain most turns entry s result u) where
  own_events : events_by u.agent u.seen ≡ events_by s.agent s.seen ++ d.own
  own_events = own_after s u d.own d.made.puts

  pub own_call : drop (length (events_by s.agent s.seen)) (events_by u.agent u.seen) ≡ d.own
  own_call = ap (λ z. drop (length (events_by s.agent s.seen)) z) own_events ∙ drop-append_seam (events_by s.agent s.seen) d.own

  pub did_give : gives_in (drop (length (events_by s.agent s.seen)) (events_by u.agent u.seen)) ≤ most
  did_give = rw own_call (omega (arith, d.made.gives, d.at_most))

  pub did_nothing : turns ≡ 0 → events_by u.agent u.seen ≡ events_by s.agent s.seen
  did_nothing zero = own_events ∙ (ap (λ z. events_by s.agent s.seen ++ z) (d.no_turns zero).1 ∙ append-nil (events_by s.agent s.seen))

-- over the journals of a domain
module _ {N S : Type 0} (ord : Ordering N) (agents : ℕ) (agent_of : S → ℕ) (events : List S → List (Event N))
    (adds : (j : List S) (x : S)
    → (es : List (Event N)) × (events (j ++ x ∷ []) ≡ events j ++ es) × (list_all (λ e. e.agent == agent_of x) es ≡ true))
    (s u : Seat N) (j m : List S) (grows : IsPrefix j m) (is_s : s.seen ≡ events j) (is_u : u.seen ≡ events m)
    (all : AllAllowed ord.may [] u.seen) (below : IsBelow agents u.seen)
  where
    seen : CallSeen (λ n. ord.may) ord.reading.numbers agents agent_of events s u j m
    seen = record { adds = adds; grows = grows; is_s = is_s; is_t = is_u; all = all; below = below }

    -- the entries
    pub call_adds : (own : List (Event N)) (es : List SetEntry) → Puts s own u → noted_entries ord.reading.entries_in own ≡ es
        → Adds agent_of_set_entry (λ (a : ℕ). a < agents) s.agent (noted_entries ord.reading.entries_in (events j)) es (noted_entries ord.reading.entries_in (events m))
    call_adds own es p entries_are = adds_entries seen ord.reading.entries_in agent_of_set_entry (λ es e may. ord.owes.own es e may) own es p entries_are

    module _ {E IsAgain : Type 0} (most turns : ℕ) (entry : Bool → SetEntry) where
      pub did_enter : (r : Result Bool E) → Did {E = E} ord.reading IsAgain most turns entry s r u
          → IfOk r (λ answer. Adds agent_of_set_entry (λ (a : ℕ). a < agents) s.agent (noted_entries ord.reading.entries_in (events j)) (entry answer ∷ []) (noted_entries ord.reading.entries_in (events m)))
      did_enter (Ok answer) d = call_adds d.own (entry answer ∷ []) d.made.puts (d.made.entries_are ∙ d.entries_are)
      did_enter (Err e) d = tt

      pub did_not_enter : (r : Result Bool E) → Did {E = E} ord.reading IsAgain most turns entry s r u
          → IfErr r (λ e. Adds agent_of_set_entry (λ (a : ℕ). a < agents) s.agent (noted_entries ord.reading.entries_in (events j)) [] (noted_entries ord.reading.entries_in (events m)))
      did_not_enter (Ok answer) d = tt
      did_not_enter (Err e) d = call_adds d.own [] d.made.puts (d.made.entries_are ∙ d.entries_are)

    -- where the call was alone, so was its part of the events
    pub part_alone : (own : List (Event N)) (p : Puts s own u) → IsAlone agent_of s.agent j m → AllOwn s.agent (from_own s.agent p.part)
    part_alone own p alone =
        let e = seen_part seen own p in
        let same : from_own s.agent p.part ≡ from_own s.agent e.part = ap (λ z. from_own s.agent z) e.is ∙ from_own-others s.agent e.gap e.part e.others in
        subst (λ z. AllOwn s.agent z) (sym same) (own_from s.agent e.part (e.alone alone))

    -- all turns were used
    pub turns_used : {E IsAgain : Type 0} (most turns : ℕ) (entry : Bool → SetEntry) (r : Result Bool E)
        → Did {E = E} ord.reading IsAgain most turns entry s r u → IsAgain
        → InPart agent_of s.agent j m (λ from to. UsesTurns agent_of events s.agent turns m from to)
    turns_used most turns entry r d again =
        let p = d.made.puts in
        let moved = d.over again in
        let new = seen_new seen d.own p in
        let e = seen_part seen d.own p in
        let bounds = part_bounds agent_of s.agent j m grows in
        let whole : events (take (length m) m) ≡ (events j ++ e.gap) ++ e.part = ap events (take-length m) ∙
        (new ∙ (ap (λ z. events j ++ z) e.is ∙ sym (append_assoc (events j) e.gap e.part))) in
        let same : from_own s.agent p.part ≡ from_own s.agent e.part = ap (λ z. from_own s.agent z) e.is ∙ from_own-others s.agent e.gap e.part e.others in
        let enough : turns ≤ others_moves s.agent e.part =
        omega (arith, moved, ap (λ (z : List (Event N)). others_moves s.agent z) same, others_from s.agent e.part) in
        record {
          in_order = bounds.1;
          in_journal = omega arith;
          moves = rw (e.begin_events, whole) (omega (arith, enough, others_append s.agent (events j ++ e.gap) e.part));
          not_alone = λ some alone.
              let single : IsAlone agent_of s.agent j m = subst (λ z. list_all (λ (x : S). agent_of x == s.agent)
              (drop (part_begin agent_of s.agent j m) z) ≡ true) (take-length m) alone in
              omega (arith, some, moved, others_alone s.agent (from_own s.agent p.part) (part_alone d.own p single));
        }

-- the same of an answer that is no refusal
pub if_err : {E : Type 0} (r : Result Bool E) (Fact : Type 0) → (IsErr r → Fact) → IfErr r (λ e. Fact)
if_err (Ok answer) Fact holds = tt
if_err (Err e) Fact holds = holds refl
