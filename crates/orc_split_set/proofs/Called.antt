-- What a call tells of its domain, by what it did up to the pass that has settled.
use Rattle.std.proofs.Common.{Bool, List, Result, [], ℕ, ◌<◌, ◌∷◌, ◌≡◌}
use Rattle.std.specs.Prelude.{IfErr, IfOk}
use mathlib.Core.List.{IsPrefix}
use Rattle.orc_heap.specs.Allowed.{AllAllowed}
use Rattle.orc_heap.specs.Domains.{IsCallAlone, MakesNoEvent}
use Rattle.orc_heap.specs.Moves.{AllOwn, from_own}
use Rattle.orc_heap.specs.OwnEvents.{IsBelow, Puts}
use Rattle.orc_heap.specs.declared.events.Event.{Event}
use Rattle.orc_heap.specs.declared.links.Links.{Ghosts as LinksOf}
use Rattle.orc_history.specs.declared.set.SetEntry.{SetEntry}
use Rattle.orc_ordered_search.proofs.Causes.{did_enter, did_give, did_not_enter, did_nothing, part_alone, turns_used}
use Rattle.orc_ordered_search.proofs.Settling.{Did}
use Rattle.orc_split_rule.specs.SplitDiscipline.{SplitMay}
use Rattle.orc_split_rule.specs.declared.split.SplitNote.{SplitNote}
use Rattle.orc_split_set.specs.SetCalls.{Enters, EntersNone, GivesAtMost, UsesAllTurns}
use Rattle.orc_split_set.specs.SplitSearches.{split_reading}
use Rattle.orc_split_set.proofs.Ordered.{split_ordering}
use Rattle.orc_split_set.proofs.Passes.{SeenIs, StepsAdd}

-- the clauses of a call
pub record Called {L D P S E : Type 0} (m : LinksOf L D P S SplitNote) (links : L) (IsAgain : Type 0) (most turns : ℕ) (entry : Bool → SetEntry)
    (result : Result Bool E) (p q : P) : Type 0 where
  pub own : List (Event SplitNote)
  pub puts : Puts (m.seat links p) own (m.seat links q)
  pub alone : IsCallAlone m links p q → AllOwn (m.seat links p).agent (from_own (m.seat links p).agent puts.part)
  pub entered : IfOk result (λ answer. Enters m links p q (λ agent. entry answer ∷ []))
  pub none : IfErr result (λ e. EntersNone m links p q)
  pub again : IsAgain → UsesAllTurns m links turns p q
  pub no_event : turns ≡ 0 → MakesNoEvent m links p q
  pub gives : GivesAtMost m links most p q

pub called : {L D P S : Type 0} (m : LinksOf L D P S SplitNote)
    → StepsAdd m → SeenIs m → ((links : L) (p : P) → m.belongs links p → AllAllowed (SplitMay (m.numbers links)) [] (m.seat links p).seen)
    → ((links : L) (p : P) → m.belongs links p → ((m.seat links p).agent < m.agents links) × IsBelow (m.agents links) (m.seat links p).seen)
    → (links : L) (p q : P) → m.belongs links p → m.belongs links q → IsPrefix (m.journal p) (m.journal q)
    → {E IsAgain : Type 0} (most turns : ℕ) (entry : Bool → SetEntry) (result : Result Bool E)
    → Did {E = E} (split_reading (m.numbers links)) IsAgain most turns entry (m.seat links p) result (m.seat links q)
    → Called {E = E} m links IsAgain most turns entry result p q
called m adds seen_is allowed below links p q in_p in_q grows most turns entry result did =
    let r = split_reading (m.numbers links) in
    let x = split_ordering (m.numbers links) in
    let s = m.seat links p in
    let u = m.seat links q in
    let j = m.journal p in
    let k = m.journal q in
    let by = m.agent_of in
    let events = m.events links in
    let agents = m.agents links in
    let new = adds links in
    let is_s = seen_is links p in_p in
    let is_u = seen_is links q in_q in
    let all = allowed links q in_q in
    let low = (below links q in_q).1 in
    record {
      own = did.own;
      puts = did.made.puts;
      alone = part_alone x agents by events new s u j k grows is_s is_u all low did.own did.made.puts;
      entered = did_enter x agents by events new s u j k grows is_s is_u all low most turns entry result did;
      none = did_not_enter x agents by events new s u j k grows is_s is_u all low most turns entry result did;
      again = turns_used x agents by events new s u j k grows is_s is_u all low most turns entry result did;
      no_event = did_nothing r most turns entry s u result did;
      gives = did_give r most turns entry s u result did;
    }
