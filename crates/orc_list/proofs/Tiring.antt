-- What a later turn of a remove left is what all turns left.
use Rattle.std.proofs.Common.{List, Some, [], ap, append-nil, inl, inr, length, subst, sym, ℕ, ◌++◌, ◌∙◌, ◌∷◌, ◌≡◌, ◌≤◌, ◌⊎◌}
use Rattle.orc_heap.proofs.OwnParts.{from_own-begun, own_is_all, own_right}
use Rattle.orc_heap.proofs.Pieces.{new_is, own_part_left, own_part_right}
use Rattle.orc_heap.specs.Allowed.{events_by}
use Rattle.orc_heap.specs.Heap.{Heap, HeapNumbers}
use Rattle.orc_heap.specs.Journals.{run_heap}
use Rattle.orc_heap.specs.Moves.{AllOwn, from_own}
use Rattle.orc_heap.specs.OwnEvents.{Puts}
use Rattle.orc_heap.specs.Seats.{Seat, heap_of}
use Rattle.orc_heap.specs.declared.events.Event.{Event}
use Rattle.orc_chain_rule.specs.declared.chain.ChainNote.{ChainNote}
use Rattle.orc_ordered_search.specs.Turns.{made_from}
use Rattle.orc_list.specs.Turns.{LeavesOff, StopsBefore, TakesKey, TakesOff}
use Rattle.orc_ordered_search.proofs.Seen.{sees_right, sees_run_right}
use Rattle.orc_ordered_search.proofs.Since.{made_is, made_still, made_trans}

pub either_wider : {A Worn More B : Type 0} → (Worn → More) → A ⊎ (Worn × B) → A ⊎ (More × B)
either_wider wider (inl a) = inl a
either_wider wider (inr w) = inr (wider w.0, w.1)

pub takes_right : (es fs : List (Event ChainNote)) (key id : ℕ) → TakesKey fs key id → TakesKey (es ++ fs) key id
takes_right [] fs key id k = k
takes_right (e ∷ es) fs key id k = inr (takes_right es fs key id k)

leaves_right : (key : ℕ) (es fs : List (Event ChainNote)) (h : Heap) → LeavesOff key fs h → LeavesOff key (es ++ fs) h
leaves_right key es fs h l = record {
  id = l.id;
  takes = takes_right es fs key l.id l.takes;
  place = l.place;
  from = l.from;
  plain = l.plain;
  sees = sees_right es fs l.place l.from l.sees;
  over = l.over;
  sees_run = sees_run_right es fs l.from l.over (Some l.id) l.sees_run;
  off = l.off;
}

stops_right : (key : ℕ) (es fs : List (Event ChainNote)) (h : Heap) (seen : List (Event ChainNote)) → StopsBefore key fs h seen
    → StopsBefore key (es ++ fs) h seen
stops_right key es fs h seen l = record { id = l.id; takes = takes_right es fs key l.id l.takes; next = l.next; leads = l.leads; many = l.many }

-- what a later turn left is what all turns left
off_right : (key : ℕ) (es fs : List (Event ChainNote)) (h : Heap) (seen : List (Event ChainNote)) (Worn : Type 0)
    → LeavesOff key fs h ⊎ (Worn × StopsBefore key fs h seen) → LeavesOff key (es ++ fs) h ⊎ (Worn × StopsBefore key (es ++ fs) h seen)
off_right key es fs h seen Worn (inl l) = inl (leaves_right key es fs h l)
off_right key es fs h seen Worn (inr w) = inr (w.0, stops_right key es fs h seen w.1)

pub takes_next : (n : HeapNumbers) (key : ℕ) (Worn More : Type 0) (s t u : Seat ChainNote) (own ys : List (Event ChainNote)) → Puts s own t → Puts t ys u
    → (Worn → More) → TakesOff n key Worn t u → TakesOff n key More s u
takes_next n key Worn More s t u own ys p q wider off = λ w alone.
    let es = made_from s t in
    let fs = made_from t u in
    let v : Puts t fs u = subst (λ z. Puts t z u) (sym (made_is t u ys q)) q in
    let last = off v (own_part_right s t u own fs (made_from s u) p v w alone) in
    subst (λ z. LeavesOff key z (heap_of n u) ⊎ (More × StopsBefore key z (heap_of n u) u.seen)) (sym (made_trans s t u own ys p q))
    (off_right key es fs (heap_of n u) u.seen More (either_wider wider last))

pub takes_wider : (n : HeapNumbers) (key : ℕ) (Worn More : Type 0) (s t : Seat ChainNote) → (Worn → More) → TakesOff n key Worn s t → TakesOff n key More s t
takes_wider n key Worn More s t wider off = λ w alone. either_wider wider (off w alone)

-- where the call was alone, nothing stands behind what it did
nothing_new : (s t u : Seat ChainNote) (own zs : List (Event ChainNote)) → 1 ≤ length own → (p : Puts s own t) (q : Puts t [] u) (w : Puts s zs u)
    → AllOwn s.agent (from_own s.agent w.part) → u.seen ≡ t.seen
nothing_new s t u own zs some p q w alone =
    let begun : 1 ≤ length (events_by s.agent p.part) = rw p.own_is some in
    let split : from_own s.agent w.part ≡ from_own s.agent p.part ++ q.part = ap (λ z. from_own s.agent z) (new_is s t u own [] zs p q w)
    ∙ from_own-begun s.agent p.part q.part begun in
    let all : AllOwn s.agent q.part = own_right s.agent (from_own s.agent p.part) q.part (subst (λ z. AllOwn s.agent z) split alone) in
    let none : q.part ≡ [] = sym (own_is_all s.agent q.part all) ∙ (ap (λ (x : ℕ). events_by x q.part) (sym p.agent) ∙ q.own_is) in
    q.is ∙ (ap (λ z. t.seen ++ z) none ∙ append-nil t.seen)

pub takes_settled : (n : HeapNumbers) (key : ℕ) (Worn : Type 0) (s t u : Seat ChainNote) (own : List (Event ChainNote)) → 1 ≤ length own → Puts s own t
    → Puts t [] u → TakesOff n key Worn s t → TakesOff n key Worn s u
takes_settled n key Worn s t u own some p q off = λ w alone.
    let es = made_from s t in
    let v : Puts s es t = subst (λ z. Puts s z t) (sym (made_is s t own p)) p in
    let seen = nothing_new s t u own (made_from s u) some p q w alone in
    let here = off v (own_part_left s t u es [] (made_from s u) v q w alone) in
    subst (λ z. LeavesOff key z (heap_of n u) ⊎ (Worn × StopsBefore key z (heap_of n u) u.seen)) (sym (made_still s t u own p q))
    (subst (λ z. LeavesOff key es (run_heap n z) ⊎ (Worn × StopsBefore key es (run_heap n z) z)) (sym seen) here)
