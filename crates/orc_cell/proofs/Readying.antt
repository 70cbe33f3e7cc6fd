-- Halves of a new pair that were aimed at parts that are given, and stay so.
use Rattle.std.proofs.Common.{Err, List, None, Ok, Option, Result, Some, [], ap, subst, sym, ℕ, ◌∙◌, ◌∷◌, ◌≡◌, ◌≢◌}
use Rattle.std.specs.List.{AllByRecursion, slice_get}
use Rattle.std.specs.Prelude.{IfErr, IfOk}
use Rattle.orc_fault.specs.declared.Spent.{Spent}
use Rattle.orc_heap.proofs.SingleActs.{some_same}
use Rattle.orc_heap.specs.Allowed.{AllAllowed}
use Rattle.orc_heap.specs.Calls.{event_of}
use Rattle.orc_heap.specs.Heap.{HeapNumbers, Node, link_to}
use Rattle.orc_heap.specs.OwnEvents.{Only, Puts}
use Rattle.orc_heap.specs.Seats.{HoldsFresh, IsUntouched, Seat, heap_of}
use Rattle.orc_heap.specs.Slots.{Hold, Holds, id_in}
use Rattle.orc_heap.specs.declared.events.Event.{Event}
use Rattle.orc_pairs_rule.specs.declared.pairs.PairsNote.{PairsNote}
use Rattle.orc_pairs_rule.specs.PairsDiscipline.{PairsMay}
use Rattle.orc_cell.specs.Publishes.{Aimed, AimsGiven, IsHalfReady, KeepsHalves, KeepsOtherHalf, LeadsHalf, MakesReady, SideHeld, Staged, aim_act, given_for, given_of, half_link, other}
use Rattle.orc_cell.specs.Turns.{IsFinding}
use Rattle.orc_cell.specs.declared.publish.Half.{Half}
use Rattle.orc_cell.specs.declared.publish.Half.TheVariants.{Left, Right}
use Rattle.orc_cell.specs.declared.publish.New.{New}
use Rattle.orc_cell.specs.declared.publish.New.TheVariants.{Given, Kept, Zero}
use Rattle.orc_cell.proofs.Aiming.{staged_aimed, staged_refused}
use Rattle.orc_cell.proofs.Pieces.{Known}
use Rattle.orc_cell.proofs.Staging.{answered_none, own_found}

-- nothing was aimed
abbrev kept_none : (n : HeapNumbers) (half : Half) (s : Seat PairsNote) (pair : Hold) (node : Node) → HoldsFresh s pair
    → slice_get (heap_of n s).nodes (id_in s.slots pair) ≡ Some node → KeepsOtherHalf n half pair s s
kept_none n half s pair node fresh there = record {
  answered = answered_none n 0 s;
  fresh = fresh;
  node = node;
  there = there;
  keeps = λ old at. ap (half_link (other half)) (some_same (sym there ∙ at));
}

-- a half that was aimed at its part before
pub ready_aimed : (n : HeapNumbers) (half : Half) (s : Seat PairsNote) (h pair : Hold) (root value : ℕ) → Staged n root value h s → HoldsFresh s pair
    → LeadsHalf n half pair (id_in s.slots h) s → Aimed n half pair (id_in s.slots h) value s s
ready_aimed n half s h pair root value staged fresh l =
    record { kept = kept_none n half s pair l.node fresh l.there; leads = l.leads; has = staged.part }

-- the other half stays ready
pub other_stays_ready : (n : HeapNumbers) (half : Half) (s a : Seat PairsNote) (pair : Hold) (new : New) → KeepsOtherHalf n half pair s a
    → IsHalfReady n (other half) pair new s → IsHalfReady n (other half) pair new a
other_stays_ready n half s a pair (Given v h) x l = record {
  node = x.node;
  there = x.there;
  leads = x.keeps l.node l.there ∙ (l.leads ∙ ap (λ z. link_to (id_in z h)) (sym x.answered.slots));
}
other_stays_ready n half s a pair (Zero h) x l = tt
other_stays_ready n half s a pair Kept x l = tt

-- a half is made ready: it is aimed at its part
pub given_aimed : (n : HeapNumbers) (half : Half) (s t : Seat PairsNote) (h pair : Hold) (root value : ℕ) (r : Result (Unit {0}) Spent)
    → Staged n root value h s → HoldsFresh s pair → Known n s.seen → AllAllowed (PairsMay n) [] t.seen
    → ((i : ℕ) → s.fresh ≡ Some i → IsUntouched s.agent (heap_of n s) i)
    → IfOk r (λ _. Only (event_of s (aim_act half (id_in s.slots pair) (Some (id_in s.slots h))) None ∷ []) s t) → IfErr r (λ e. Only [] s t)
    → AimsGiven n half pair (Given value h) s r t
given_aimed n half s t h pair root value (Ok done) staged fresh known all untouched ok err =
    let x = staged_aimed n half s t h pair root value staged fresh known all untouched ok in
    let k = x.kept in
    record {
      kept = k;
      ready = record { node = k.node; there = k.there; leads = x.leads ∙ ap (λ z. link_to (id_in z h)) (sym k.answered.slots) };
    }
given_aimed n half s t h pair root value (Err why) staged fresh known all untouched ok err = staged_refused n s t pair fresh all err

-- there is nothing to aim at
pub none_given : (n : HeapNumbers) (half : Half) (s : Seat PairsNote) (pair : Hold) (new : New) → HoldsFresh s pair
    → IsUntouched s.agent (heap_of n s) (id_in s.slots pair) → IsHalfReady n half pair new s → MakesReady n half pair new s s
none_given n half s pair new fresh u ready = record { kept = kept_none n half s pair u.node fresh u.there; ready = ready }

-- halves stay over pieces that look, and over turns

pub keeps_found : (n : HeapNumbers) (left right : Option ℕ) (pair : Hold) (s a : Seat PairsNote) (own : List (Event PairsNote)) → Puts s own a
    → Known n s.seen → AllAllowed (PairsMay n) [] a.seen → AllByRecursion (λ (e : Event PairsNote). IsFinding e.act) own
    → IsUntouched s.agent (heap_of n s) (id_in s.slots pair) → id_in a.slots pair ≡ id_in s.slots pair → KeepsHalves n left right pair s a
keeps_found n left right pair s a own p known all finding u same = record {
  node = u.node;
  there = subst (λ (i : ℕ). slice_get (heap_of n a).nodes i ≡ Some u.node) (sym same)
      (own_found n s a own (id_in s.slots pair) u.node p known all finding u u.there);
  stays = λ half some old there. ap (half_link half) (some_same (sym u.there ∙ there));
}

pub keeps_trans : (n : HeapNumbers) (left right : Option ℕ) (pair : Hold) (s a t : Seat PairsNote) → KeepsHalves n left right pair s a
    → KeepsHalves n left right pair a t → KeepsHalves n left right pair s t
keeps_trans n left right pair s a t p q = record {
  node = q.node;
  there = q.there;
  stays = λ half some old there. q.stays half some p.node p.there ∙ p.stays half some old there;
}

-- where nothing was done
pub keeps_none : (n : HeapNumbers) (left right : Option ℕ) (pair : Hold) (s : Seat PairsNote) → IsUntouched s.agent (heap_of n s) (id_in s.slots pair)
    → KeepsHalves n left right pair s s
keeps_none n left right pair s u = record {
  node = u.node;
  there = u.there;
  stays = λ half some old there. ap (half_link half) (some_same (sym u.there ∙ there));
}

-- both halves were aimed, each that is given before
pub aims_keep : (n : HeapNumbers) (left right : Option ℕ) (pair : Hold) (s a b : Seat PairsNote) (l r x y : ℕ) → Aimed n Left pair l x s a
    → Aimed n Right pair r y a b → (left ≢ None → a ≡ s) → (right ≢ None → b ≡ a) → KeepsHalves n left right pair s b
aims_keep n left right pair s a b l r x y one two same_left same_right = record { node = two.kept.node; there = two.kept.there; stays = by_half }
  where
    by_half : (half : Half) → given_for half left right ≢ None → (old : Node) → slice_get (heap_of n s).nodes (id_in s.slots pair) ≡ Some old
        → half_link half two.kept.node ≡ half_link half old
    by_half Left some old there =
        let at_s = subst (λ (z : Seat PairsNote). slice_get (heap_of n z).nodes (id_in z.slots pair) ≡ Some one.kept.node) (same_left some) one.kept.there in
        two.kept.keeps one.kept.node one.kept.there ∙ ap (λ (z : Node). z.link) (some_same (sym at_s ∙ there))
    by_half Right some old there =
        let at_a = subst (λ (z : Seat PairsNote). slice_get (heap_of n z).nodes (id_in z.slots pair) ≡ Some two.kept.node) (same_right some) two.kept.there in
        ap (λ (z : Node). z.side) (some_same (sym at_a ∙ one.kept.there)) ∙ one.kept.keeps old there

-- so a half stays ready
pub half_ready : (n : HeapNumbers) (half : Half) (root : ℕ) (new : New) (left right : Option ℕ) (pair : Hold) (s a : Seat PairsNote)
    → given_for half left right ≡ given_of new → KeepsHalves n left right pair s a
    → ((h : Hold) → Holds s.slots h → id_in a.slots h ≡ id_in s.slots h) → SideHeld n root new s → IsHalfReady n half pair new s → IsHalfReady n half pair new a
half_ready n half root (Given v h) left right pair s a is k carries held l = record {
  node = k.node;
  there = k.there;
  leads = k.stays half (λ e. cc) l.node l.there ∙ (l.leads ∙ ap link_to (sym (carries h held.held)));
}
half_ready n half root (Zero h) left right pair s a is k carries held l = tt
half_ready n half root Kept left right pair s a is k carries held l = tt
