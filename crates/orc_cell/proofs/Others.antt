-- Moves of root 0 by other agents, counted.
use Rattle.std.proofs.Common.{Bool, List, None, Option, Some, [], ap, append-nil, append_assoc, arith, cond, false, inl, inr, length, refl, subst, sym, true, ℕ, ◌++◌, ◌+◌, ◌==◌, ◌∙◌, ◌∷◌, ◌≡◌, ◌≢◌, ◌≤◌, ◌⊎◌}
use Rattle.std.proofs.lemmas.Bool.{eq-eqb}
use Rattle.orc_heap.proofs.Calls.{Puts-stood, filter-at, part_allowed}
use Rattle.orc_cell.proofs.Elsewhere.{shown_elsewhere}
use Rattle.orc_heap.proofs.OwnParts.{from_own-begun}
use Rattle.orc_heap.proofs.Pieces.{new_is}
use Rattle.orc_heap.proofs.Runs.{run_heap-snoc}
use Rattle.orc_heap.proofs.SingleActs.{some_same}
use Rattle.orc_heap.proofs.Stays.{allowed-left, allowed-right}
use Rattle.orc_heap.specs.Allowed.{AllAllowed, events_by}
use Rattle.orc_heap.specs.Calls.{event_of}
use Rattle.orc_heap.specs.Heap.{HeapNumbers, shown}
use Rattle.orc_heap.specs.Journals.{run_heap}
use Rattle.orc_heap.specs.Moves.{from_own, moves_place}
use Rattle.orc_heap.specs.OwnEvents.{Puts}
use Rattle.orc_heap.specs.Seats.{Seat, heap_of}
use Rattle.orc_heap.specs.declared.events.Act.TheVariants.{Look, Miss}
use Rattle.orc_heap.specs.declared.events.Event.{Event}
use Rattle.orc_heap.specs.declared.events.Link.{Link}
use Rattle.orc_heap.specs.declared.events.Place.TheVariants.{Root}
use Rattle.orc_pairs_rule.proofs.OwnEntries.{no_entry_no_move}
use Rattle.orc_pairs_rule.specs.declared.entry.CellEntry.{CellEntry}
use Rattle.orc_pairs_rule.specs.declared.pairs.PairsNote.{PairsNote}
use Rattle.orc_pairs_rule.specs.PairsDiscipline.{PairsMay, entries_in, entries_of}
use Rattle.orc_cell.specs.Turns.{others_moves}

pub others-append : (agent : ℕ) (es fs : List (Event PairsNote)) → others_moves agent (es ++ fs) ≡ others_moves agent es + others_moves agent fs
others-append agent [] fs = omega arith
others-append agent (e ∷ es) fs = omega (arith, others-append agent es fs)

pub others_from_own : (agent : ℕ) (es : List (Event PairsNote)) → others_moves agent (from_own agent es) ≤ others_moves agent es
others_from_own agent [] = omega arith
others_from_own agent (e ∷ es) = cases (e.agent == agent) refl (others_from_own agent es)
  where
    cases : (b : Bool) → (e.agent == agent) ≡ b → others_moves agent (from_own agent es) ≤ others_moves agent es
        → others_moves agent (cond b (e ∷ es) (from_own agent es)) ≤ others_moves agent (e ∷ es)
    cases true is k = omega arith
    cases false is k = omega (arith, k)

-- what stands after an event of the agent's own
pub others_after_own : (agent : ℕ) (es : List (Event PairsNote)) (e : Event PairsNote) (fs : List (Event PairsNote)) → e.agent ≡ agent
    → others_moves agent fs ≤ others_moves agent (from_own agent (es ++ e ∷ fs))
others_after_own agent [] e fs own = rw (eq-eqb e.agent agent own) (omega arith)
others_after_own agent (x ∷ es) e fs own = cases (x.agent == agent) (others_after_own agent es e fs own)
  where
    cases : (b : Bool) → others_moves agent fs ≤ others_moves agent (from_own agent (es ++ e ∷ fs))
        → others_moves agent fs ≤ others_moves agent (cond b (x ∷ (es ++ e ∷ fs)) (from_own agent (es ++ e ∷ fs)))
    cases true k = omega (arith, others-append agent es (e ∷ fs))
    cases false k = k

pub others_from_own-append : (agent : ℕ) (es fs : List (Event PairsNote))
    → others_moves agent (from_own agent es) + others_moves agent (from_own agent fs) ≤ others_moves agent (from_own agent (es ++ fs))
others_from_own-append agent [] fs = omega arith
others_from_own-append agent (e ∷ es) fs = cases (e.agent == agent) (others_from_own-append agent es fs)
  where
    cases : (b : Bool) → others_moves agent (from_own agent es) + others_moves agent (from_own agent fs) ≤ others_moves agent (from_own agent (es ++ fs))
        → others_moves agent (cond b (e ∷ es) (from_own agent es)) + others_moves agent (from_own agent fs)
        ≤ others_moves agent (cond b (e ∷ (es ++ fs)) (from_own agent (es ++ fs)))
    cases true k = omega (arith, others-append agent es fs, others_from_own agent fs)
    cases false k = k

none_left : (xs ys : List CellEntry) → xs ++ ys ≡ [] → xs ≡ []
none_left [] ys e = refl
none_left (x ∷ xs) ys e = cc

none_right : (xs ys : List CellEntry) → xs ++ ys ≡ [] → ys ≡ []
none_right [] ys e = e
none_right (x ∷ xs) ys e = cc

-- over allowed events, of which the agent's own enter nothing, root 0 still shows the link, or another agent moved it
pub root_or_others : (n : HeapNumbers) (agent : ℕ) (link : Link) (seen more : List (Event PairsNote)) → AllAllowed (PairsMay n) seen more
    → entries_of (events_by agent more) ≡ [] → shown (run_heap n seen) (Root 0) ≡ Some link
    → (shown (run_heap n (seen ++ more)) (Root 0) ≡ Some link) ⊎ (1 ≤ others_moves agent more)
root_or_others n agent link seen [] all none at = inl (ap (λ es. shown (run_heap n es) (Root 0)) (append-nil seen) ∙ at)
root_or_others n agent link seen (e ∷ more) all none at =
    by_place (λ here. root_or_others n agent link (seen ++ e ∷ []) more all.1 (rest_none (e.agent == agent) none) here) (moves_place (Root 0) e.act) refl
  where
    rest_none : (b : Bool) → entries_of (cond b (e ∷ events_by agent more) (events_by agent more)) ≡ [] → entries_of (events_by agent more) ≡ []
    rest_none true h = none_right (entries_in e.note) _ h
    rest_none false h = h

    own_moves : (b : Bool) → (e.agent == agent) ≡ b → moves_place (Root 0) e.act ≡ true
        → entries_of (cond b (e ∷ events_by agent more) (events_by agent more)) ≡ [] → 1 ≤ others_moves agent (e ∷ more)
    own_moves true is moves h =
        let bad : false ≡ true = sym (no_entry_no_move n seen e all.0 (none_left (entries_in e.note) _ h)) ∙ moves in cc
    own_moves false is moves h = rw (is, moves) (omega arith)

    by_place : (shown (run_heap n (seen ++ e ∷ [])) (Root 0) ≡ Some link
        → (shown (run_heap n ((seen ++ e ∷ []) ++ more)) (Root 0) ≡ Some link) ⊎ (1 ≤ others_moves agent more))
        → (b : Bool) → moves_place (Root 0) e.act ≡ b
        → (shown (run_heap n (seen ++ e ∷ more)) (Root 0) ≡ Some link) ⊎ (1 ≤ others_moves agent (e ∷ more))
    by_place go true is = inr (own_moves (e.agent == agent) refl is none)
    by_place go false is =
        let here : shown (run_heap n (seen ++ e ∷ [])) (Root 0) ≡ Some link =
        ap (λ g. shown g (Root 0)) (run_heap-snoc n seen e) ∙ (shown_elsewhere e.agent e.act (run_heap n seen) (Root 0) all.0.fits tt is ∙ at) in
        elim (go here) [
          | inl still ↦ inl (ap (λ es. shown (run_heap n es) (Root 0)) (sym (append_assoc seen (e ∷ []) more)) ∙ still)
          | inr moved ↦ inr (omega (arith, moved))
        ]

-- what a call that enters nothing found at root 0 it still shows, or another agent moved it since
pub found_or_others : (n : HeapNumbers) (s t : Seat PairsNote) (link : Link) (noted : Option PairsNote) (own rest : List (Event PairsNote))
    (p : Puts s (own ++ event_of s (Look (Root 0) link) noted ∷ rest) t) → AllAllowed (PairsMay n) [] t.seen → entries_of rest ≡ []
    → (shown (heap_of n t) (Root 0) ≡ Some link) ⊎ (1 ≤ others_moves s.agent (from_own s.agent p.part))
found_or_others n s t link noted own rest p all none =
    let e : Event PairsNote = event_of s (Look (Root 0) link) noted in
    let m = Puts-stood (PairsMay n) s t own e rest p all in
    let here : shown (run_heap n ((s.seen ++ m.before) ++ e ∷ [])) (Root 0) ≡ Some link =
    ap (λ g. shown g (Root 0)) (run_heap-snoc n (s.seen ++ m.before) e) ∙ m.here.fits in
    elim (root_or_others n s.agent link ((s.seen ++ m.before) ++ e ∷ []) m.later m.last (ap entries_of m.own_later ∙ none) here) [
      | inl still ↦ inl (ap (λ es. shown (run_heap n es) (Root 0)) m.is ∙ still)
      | inr moved ↦ inr (rw m.part_is (omega (arith, moved, others_after_own s.agent m.before e m.later refl)))
    ]

-- a piece that enters nothing
pub still_or_others : (n : HeapNumbers) (s t : Seat PairsNote) (link : Link) (own : List (Event PairsNote)) (p : Puts s own t)
    → AllAllowed (PairsMay n) [] t.seen → entries_of own ≡ [] → shown (heap_of n s) (Root 0) ≡ Some link
    → (shown (heap_of n t) (Root 0) ≡ Some link) ⊎ (1 ≤ others_moves s.agent p.part)
still_or_others n s t link own p all none at =
    elim (root_or_others n s.agent link s.seen p.part (part_allowed (PairsMay n) s t own p all) (ap entries_of p.own_is ∙ none) at) [
      | inl still ↦ inl (ap (λ es. shown (run_heap n es) (Root 0)) p.is ∙ still)
      | inr moved ↦ inr moved
    ]

-- a Miss where root 0 showed the wanted link before
pub missed_by_others : (n : HeapNumbers) (s t : Seat PairsNote) (wanted found : Link) (p : Puts s (event_of s (Miss (Root 0) wanted found) None ∷ []) t)
    → AllAllowed (PairsMay n) [] t.seen → found ≢ wanted → shown (heap_of n s) (Root 0) ≡ Some wanted → 1 ≤ others_moves s.agent p.part
missed_by_others n s t wanted found p all other at =
    let e : Event PairsNote = event_of s (Miss (Root 0) wanted found) None in
    let m = Puts-stood (PairsMay n) s t [] e [] p all in
    elim (root_or_others n s.agent wanted s.seen m.before m.first (ap entries_of m.own_before) at) [
      | inl still ↦ absurd (other (some_same (sym m.here.fits.0 ∙ still)))
      | inr moved ↦ rw m.part_is (omega (arith, moved, others-append s.agent m.before (e ∷ m.later)))
    ]

-- two Looks of root 0 that differ
pub looks_differ_by_others : (n : HeapNumbers) (s t : Seat PairsNote) (one two : Link)
    (p : Puts s (event_of s (Look (Root 0) one) None ∷ event_of s (Look (Root 0) two) None ∷ []) t)
    → AllAllowed (PairsMay n) [] t.seen → one ≢ two → 1 ≤ others_moves s.agent (from_own s.agent p.part)
looks_differ_by_others n s t one two p all other =
    let e : Event PairsNote = event_of s (Look (Root 0) one) None in
    let f : Event PairsNote = event_of s (Look (Root 0) two) None in
    let m = Puts-stood (PairsMay n) s t [] e (f ∷ []) p all in
    let g = filter-at (λ x. x.agent == s.agent) m.later [] f [] m.own_later in
    let after = (s.seen ++ m.before) ++ e ∷ [] in
    let whole : AllAllowed (PairsMay n) after (g.before ++ f ∷ g.later) = subst (λ z. AllAllowed (PairsMay n) after z) g.is m.last in
    let first = allowed-left (PairsMay n) after g.before (f ∷ g.later) whole in
    let second = (allowed-right (PairsMay n) after g.before (f ∷ g.later) whole).0 in
    let here : shown (run_heap n after) (Root 0) ≡ Some one = ap (λ h. shown h (Root 0)) (run_heap-snoc n (s.seen ++ m.before) e) ∙ m.here.fits in
    let k = others_after_own s.agent m.before e m.later refl in
    let later_is : others_moves s.agent m.later ≡ others_moves s.agent (g.before ++ f ∷ g.later) = ap (others_moves s.agent) g.is in
    elim (root_or_others n s.agent one after g.before first (ap entries_of g.pass_before) here) [
      | inl still ↦ absurd (other (some_same (sym still ∙ second.fits)))
      | inr moved ↦ rw m.part_is (omega (arith, moved, k, later_is, others-append s.agent g.before (f ∷ g.later)))
    ]

-- a turn that began with an own event, and went on
pub turn_moved : (s a t : Seat PairsNote) (xs ys zs : List (Event PairsNote)) (p : Puts s xs a) (q : Puts a ys t) (w : Puts s zs t) → 1 ≤ length xs
    → (Shows : Type 0) → Shows ⊎ (1 ≤ others_moves s.agent (from_own s.agent p.part)) → (Shows → 1 ≤ others_moves a.agent q.part)
    → 1 ≤ others_moves s.agent (from_own s.agent w.part)
turn_moved s a t xs ys zs p q w some Shows either so =
    let begun = from_own-begun s.agent p.part q.part (rw p.own_is some) in
    let whole : from_own s.agent w.part ≡ from_own s.agent p.part ++ q.part = ap (from_own s.agent) (new_is s a t xs ys zs p q w) ∙ begun in
    let count : others_moves s.agent (from_own s.agent w.part) ≡ others_moves s.agent (from_own s.agent p.part) + others_moves s.agent q.part =
    ap (others_moves s.agent) whole ∙ others-append s.agent (from_own s.agent p.part) q.part in
    elim either [
      | inl shows ↦
          let moved : 1 ≤ others_moves s.agent q.part = subst (λ (x : ℕ). 1 ≤ others_moves x q.part) p.agent (so shows) in
          omega (arith, count, moved)
      | inr moved ↦ omega (arith, count, moved)
    ]
