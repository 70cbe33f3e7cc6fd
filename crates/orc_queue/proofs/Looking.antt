-- What a look at a root, and one at the link of a once linked node, find.
use Rattle.std.proofs.Common.{Bool, List, length, Option, Some, None, [], ap, arith, inl, inr, refl, subst, sym, ℕ, ◌++◌, ◌<◌, ◌∙◌, ◌∷◌, ◌≡◌, ◌⊎◌}
use Rattle.orc_heap.proofs.Moved.{target_roots}
use Rattle.std.specs.List.{slice_set}
use Rattle.std.specs.Prelude.{unwrap_or}
use Rattle.std.proofs.lemmas.List.{length-replicate}
use Rattle.orc_heap.proofs.ByAnswer.{LookedHeld, LookedNull}
use Rattle.orc_heap.proofs.Changes.{length-change, get_lt}
use Rattle.orc_heap.specs.Allowed.{AllAllowed, IsLinkedNode, HasLink}
use Rattle.orc_heap.specs.Calls.{Looks, ReadsValue, RefusesSwing, event_of}
use Rattle.orc_heap.specs.Heap.{Heap, HeapNumbers, Node, new_heap, null, link_to}
use Rattle.orc_heap.specs.Acts.{as_linked, as_named, heap_after}
use Rattle.orc_heap.specs.Journals.{run_from, run_heap}
use Rattle.orc_heap.specs.declared.events.Act.{Act}
use Rattle.orc_heap.specs.OwnEvents.{Puts}
use Rattle.orc_heap.specs.Seats.{Seat, heap_of}
use Rattle.orc_heap.specs.Slots.{Hold, Holds, IsFree, Slots, id_in}
use Rattle.orc_heap.specs.declared.events.Act.TheVariants.{Aim, Fill, Give, Look, Miss, Move, AimSide}
use Rattle.orc_heap.specs.declared.events.Event.{Event}
use Rattle.orc_heap.specs.declared.events.Link.{Link}
use Rattle.orc_heap.specs.declared.events.Place.{Place}
use Rattle.orc_heap.specs.declared.events.Place.TheVariants.{Next, Root, Side}
use Rattle.orc_heap.specs.declared.holds.Looked.TheVariants.{Moved}
use Rattle.orc_heap.specs.declared.holds.Want.{Want}
use Rattle.orc_heap.specs.declared.holds.Want.TheVariants.{Node as WantNode, Null as WantNull}
use Rattle.orc_fault.specs.declared.Spent.{Spent}
use Rattle.orc_fifo_rule.proofs.Counting.{at_most_three}
use Rattle.orc_fifo_rule.proofs.Later.{holds_later, link_later, linked_later, named_later}
use Rattle.orc_fifo_rule.proofs.Reading.{link_leads, look_names, root_names}
use Rattle.orc_fifo_rule.specs.declared.fifo.FifoNote.{FifoNote}
use Rattle.orc_fifo_rule.specs.QueueDiscipline.{FifoMay, HasJob, position_of}
use Rattle.orc_fifo_rule.specs.Watches.{WasNamed}
use Rattle.orc_fifo_rule.specs.Laws.Events.{begun_more}
use Rattle.orc_fifo_rule.specs.Laws.Nodes.{position_at}
use Rattle.orc_fifo_rule.specs.Laws.Paths.{successor_linked}
use Rattle.orc_queue.specs.Looking.{FindsNull, FindsTwo, HoldsNext, HoldsRoot, Known}
use Rattle.orc_queue.specs.Turns.{HoldsNode}
use Rattle.orc_queue.proofs.Filled.{some_value}
use Rattle.orc_queue.proofs.Holding.{found_id, found_other, found_other_id}
use Rattle.orc_queue.proofs.Pieces.{named_puts, node_held}
use Rattle.orc_heap.proofs.SingleActs.{has_link, some_same}
use Rattle.orc_heap.proofs.Calls.{Puts-stood}
use Rattle.orc_heap.proofs.Moments.{seen_is, since}

-- three links at most are made to a node, so no swing is refused
pub never_spent : (n : HeapNumbers) (slots : Slots) (from to : Want) (why : Spent) (seen : List (Event FifoNote)) → AllAllowed (FifoMay n) [] seen
    → RefusesSwing slots from to why seen → ⊥
never_spent n slots from (WantNull mark) why seen all r = r
never_spent n slots from (WantNode h mark) why seen all r = omega (arith, r.1.links, at_most_three n seen (id_in slots h.now) all)

-- a look at root 0 or root 1 found a link to a node, which the root has named
pub record FindsNode (n : HeapNumbers) (root : ℕ) (link : Link) (t : Seat FifoNote) : Type 0 where
  pub id : ℕ
  pub is : link ≡ link_to id
  pub named : WasNamed (heap_of n t) root id

pub root_found : (n : HeapNumbers) (s t : Seat FifoNote) (root : ℕ) (link : Link) (own rest : List (Event FifoNote)) → root < 2 → Known n s.seen
    → Puts s (own ++ event_of s (Look (Root root) link) None ∷ rest) t → AllAllowed (FifoMay n) [] t.seen → FindsNode n root link t
root_found n s t root link own rest low k p all =
    let e : Event FifoNote = event_of s (Look (Root root) link) None in
    let m = Puts-stood (FifoMay n) s t own e rest p all in
    let holds = holds_later n s.seen m.before k.holds m.first in
    let (id, is, named) = look_names n (s.seen ++ m.before) root link holds (begun_more s.seen m.before k.dummy.begun) low m.here.fits in
    record {
      id = id;
      is = is;
      named = subst (λ es. WasNamed (run_heap n es) root id) (sym (p.is ∙ seen_is m))
          (named_later n (s.seen ++ m.before) (e ∷ m.later) root id named (since m));
    }

-- a look at the link of a once linked node found null, or a link to a node, where it still leads
pub record FindsNext (n : HeapNumbers) (id : ℕ) (link : Link) (t : Seat FifoNote) : Type 0 where
  pub either : (link ≡ null) ⊎ ((next : ℕ) × (link ≡ link_to next) × HasLink (heap_of n t) id (link_to next))

pub next_found : (n : HeapNumbers) (s t : Seat FifoNote) (id : ℕ) (link : Link) (own rest : List (Event FifoNote)) → Known n s.seen
    → IsLinkedNode (heap_of n s) id
    → Puts s (own ++ event_of s (Look (Next id) link) None ∷ rest) t → AllAllowed (FifoMay n) [] t.seen → FindsNext n id link t
next_found n s t id link own rest k l p all =
    let e : Event FifoNote = event_of s (Look (Next id) link) None in
    let m = Puts-stood (FifoMay n) s t own e rest p all in
    let holds = holds_later n s.seen m.before k.holds m.first in
    let has = has_link (run_heap n (s.seen ++ m.before)) id link (linked_later n s.seen m.before id l m.first) m.here.fits in
    record {
      either = elim (link_leads n (s.seen ++ m.before) id link holds has) [
        | inl none ↦ inl none
        | inr leads ↦
            let (next, job, is, j) = leads in
            let there : HasLink (run_heap n (s.seen ++ m.before)) id (link_to next) =
            subst (λ (x : Link). HasLink (run_heap n (s.seen ++ m.before)) id x) is has in
            inr (
              next,
              is,
              subst (λ es. HasLink (run_heap n es) id (link_to next)) (sym (p.is ∙ seen_is m))
                  (link_later n (s.seen ++ m.before) (e ∷ m.later) id next there (since m)),
            )
      ];
    }

-- two loads differed
pub found_two : (n : HeapNumbers) (s t : Seat FifoNote) (place : Place) (slot : ℕ) → Known n s.seen → Known n t.seen → Looks place slot s Moved t
    → FindsTwo n place s t
found_two n s t place slot before after l = record {
  before = before;
  after = after;
  one = l.tells.0;
  two = l.tells.1;
  other = l.tells.2;
  slots = l.tells.3;
  fresh = l.fresh;
  puts = l.tells.4;
}

-- a node that a look of a root holds
pub root_held : (n : HeapNumbers) (s t : Seat FifoNote) (root slot : ℕ) (mark : Bool) (h : Hold) → root < 2 → IsFree s.slots slot → Known n s.seen
    → Known n t.seen → t.fresh ≡ s.fresh → LookedHeld (Root root) slot mark h s t → HoldsRoot n root slot s h t
root_held n s t root slot mark h low free before after fresh l =
    let link : Link = record { to = Some l.id; mark = mark } in
    let f = root_found n s t root link (event_of s (Look (Root root) l.one) None ∷ []) [] low before l.puts after.all in
    let id_is : l.id ≡ f.id = some_same (ap (λ (x : Link). x.to) f.is) in
    record {
      before = before;
      after = after;
      fresh = fresh;
      node = record {
        id = f.id;
        free = free;
        in_slot = record { at = l.at; slots = subst (λ (i : ℕ). t.slots ≡ slice_set s.slots slot (Some (record { row = h.row; id = i }))) id_is l.slots };
        linked = f.named.linked;
      };
      named = f.named;
      one = l.one;
      puts = subst (λ (x : Link). Puts s (event_of s (Look (Root root) l.one) None ∷ event_of s (Look (Root root) x) None ∷ []) t) f.is l.puts;
    }

module _ {n : HeapNumbers} {root slot : ℕ} {s : Seat FifoNote} {h : Hold} {t : Seat FifoNote} (f : HoldsRoot n root slot s h t) where
  pub root_named : WasNamed (heap_of n t) root (id_in t.slots h)
  root_named = subst (λ (i : ℕ). WasNamed (heap_of n t) root i) (sym (found_id f.node)) f.named

  -- the look leaves the fresh node
  pub root_fresh : (job : ℕ) (node : Hold) → HoldsNode n job node s → HoldsNode n job node t
  root_fresh job node held =
      node_held n s t _ f.puts f.after.all job node held.second f.before held (found_other f.node node held.held) (found_other_id f.node node held.held)
      f.fresh refl refl

-- no look of a root finds null
pub root_not_null : (n : HeapNumbers) (s t : Seat FifoNote) (root : ℕ) (mark : Bool) → root < 2 → Known n s.seen → AllAllowed (FifoMay n) [] t.seen
    → LookedNull (Root root) mark s t → ⊥
root_not_null n s t root mark low k all l =
    let f = root_found n s t root (record { to = None; mark = mark }) [] [] low k l.puts all in
    let bad : None ≡ Some f.id = ap (λ (x : Link). x.to) f.is in
    cc

-- the successor that a look of a node's link holds
module _ (n : HeapNumbers) (s t : Seat FifoNote) (id slot : ℕ) (mark : Bool) (h : Hold) (free : IsFree s.slots slot) (before : Known n s.seen)
    (after : Known n t.seen) (fresh : t.fresh ≡ s.fresh) (l : LookedHeld (Next id) slot mark h s t) where
  -- the link of the first look is that of the second, since it doesn't change any more
  next_both : (next : ℕ) × (record { to = Some l.id; mark = mark } ≡ link_to next) × HasLink (heap_of n t) id (link_to next)
      → (l.one ≡ null) ⊎ ((next : ℕ) × (l.one ≡ link_to next) × HasLink (heap_of n t) id (link_to next)) → HoldsNext n id slot s h t
  next_both some (inl none) = absurd (l.first (ap (λ (x : Link). x.to) none))
  next_both some (inr first) =
      let (next, is, has) = some in
      let (next1, is1, has1) = first in
      let node_is : has1.node ≡ has.node = some_same (sym has1.there ∙ has.there) in
      let same : link_to next1 ≡ link_to next = sym has1.link_is ∙ (ap (λ (x : Node). x.link) node_is ∙ has.link_is) in
      let one_is : l.one ≡ link_to next = is1 ∙ same in
      let id_is : l.id ≡ next = some_same (ap (λ (x : Link). x.to) is) in
      record {
        before = before;
        after = after;
        fresh = fresh;
        node = record {
          id = next;
          free = free;
          in_slot = record { at = l.at; slots = subst (λ (i : ℕ). t.slots ≡ slice_set s.slots slot (Some (record { row = h.row; id = i }))) id_is l.slots };
          linked = successor_linked n t.seen id next after.holds has;
        };
        link = has;
        puts = subst (λ (z : Link × Link). Puts s (event_of s (Look (Next id) z.0) None ∷ event_of s (Look (Next id) z.1) None ∷ []) t)
            (λ i. (one_is i, is i)) l.puts;
      }

  pub next_held : IsLinkedNode (heap_of n s) id → HoldsNext n id slot s h t
  next_held linked =
      let link : Link = record { to = Some l.id; mark = mark } in
      let f = next_found n s t id link (event_of s (Look (Next id) l.one) None ∷ []) [] before linked l.puts after.all in
      let g = next_found n s t id l.one [] _ before linked l.puts after.all in
      elim f.either [
        | inl none ↦ let bad : Some l.id ≡ None = ap (λ (x : Link). x.to) none in absurd (cc)
        | inr some ↦ next_both some g.either
      ]

-- the node whose link was looked at is still held, and the successor stands behind it
pub next_link : (n : HeapNumbers) (s t : Seat FifoNote) (slot : ℕ) (k h : Hold) → Holds s.slots k → HoldsNext n (id_in s.slots k) slot s h t
    → HasLink (heap_of n t) (id_in t.slots k) (link_to (id_in t.slots h))
next_link n s t slot k h held f =
    subst (λ (i : ℕ). HasLink (heap_of n t) i (link_to (id_in t.slots h))) (sym (found_other_id f.node k held))
    (subst (λ (i : ℕ). HasLink (heap_of n t) (id_in s.slots k) (link_to i)) (sym (found_id f.node)) f.link)

-- a look of a once linked node's link found null
pub next_null : (n : HeapNumbers) (s t : Seat FifoNote) (id : ℕ) (mark : Bool) → Known n s.seen → Known n t.seen → t.fresh ≡ s.fresh
    → IsLinkedNode (heap_of n s) id → LookedNull (Next id) mark s t → FindsNull n id s t
next_null n s t id mark before after fresh linked l =
    let link : Link = record { to = None; mark = mark } in
    let f = next_found n s t id link [] [] before linked l.puts after.all in
    record {
      before = before;
      after = after;
      slots = l.slots;
      fresh = fresh;
      puts = elim f.either [
        | inl none ↦ subst (λ (x : Link). Puts s (event_of s (Look (Next id) x) None ∷ []) t) none l.puts
        | inr some ↦ let bad : None ≡ Some some.0 = ap (λ (x : Link). x.to) some.1 in absurd (cc)
      ];
    }

-- the root that named the node has still named it
pub null_named : (n : HeapNumbers) (s t : Seat FifoNote) (root : ℕ) (k : Hold) → FindsNull n (id_in s.slots k) s t
    → WasNamed (heap_of n s) root (id_in s.slots k) → WasNamed (heap_of n t) root (id_in t.slots k)
null_named n s t root k f named = subst (λ z. WasNamed (heap_of n t) root (id_in z k)) (sym f.slots) (named_puts n s t _ f.puts f.after.all root _ named)

-- the second value of a once linked node is its position
pub position_read : (n : HeapNumbers) (es : List (Event FifoNote)) (id value : ℕ) → Known n es → IsLinkedNode (run_heap n es) id
    → ReadsValue (run_heap n es) id 1 value → value ≡ position_of (run_heap n es) id
position_read n es id value k l r =
    let both : Some r.node ≡ Some l.node = sym r.there ∙ l.there in
    let same : r.node ≡ l.node = cc in
    let (filled, is) = some_value l.node.second (k.dummy.filled id l.node l.there l.linked) in
    let read : value ≡ filled = r.is filled (ap (λ (x : Node). x.second) same ∙ is) in
    read ∙ sym (position_at (run_heap n es) id l.node l.there ∙ ap (λ (x : Option ℕ). unwrap_or x 0) is)

pub job_read : (n : HeapNumbers) (es : List (Event FifoNote)) (id job at value : ℕ) → HasJob (run_heap n es) id job at
    → ReadsValue (run_heap n es) id 0 value → value ≡ job
job_read n es id job at value j r =
    let both : Some r.node ≡ Some j.node = sym r.there ∙ j.there in
    let same : r.node ≡ j.node = cc in
    r.is job (ap (λ (x : Node). x.first) same ∙ j.holds.job_is)

roots_after : (agent : ℕ) (act : Act) (h : Heap) → length (heap_after agent act h).roots ≡ length h.roots
roots_after agent Give h = refl
roots_after agent (Fill id which value) h = refl
roots_after agent (Aim id to) h = ap (λ (xs : List Link). length xs) (target_roots as_named to _)
roots_after agent (AimSide id to) h = ap (λ (xs : List Link). length xs) (target_roots as_named to _)
roots_after agent (Look place link) h = refl
roots_after agent (Miss place wanted found) h = refl
roots_after agent (Move (Root r) from to) h = ap (λ (xs : List Link). length xs) (target_roots as_linked to.to _)
    ∙ length-change (λ (l : Link). to) r h.roots
roots_after agent (Move (Side id) from to) h = ap (λ (xs : List Link). length xs) (target_roots as_linked to.to _)
roots_after agent (Move (Next id) from to) h = ap (λ (xs : List Link). length xs) (target_roots as_linked to.to _)

roots_from : (h : Heap) (es : List (Event FifoNote)) → length (run_from h es).roots ≡ length h.roots
roots_from h [] = refl
roots_from h (e ∷ es) = roots_from (heap_after e.agent e.act h) es ∙ roots_after e.agent e.act h

pub roots_there : (n : HeapNumbers) (es : List (Event FifoNote)) (root : ℕ) → Known n es → root < 2 → root < n.roots
roots_there n es root k low =
    let (id, at, linked) = root_names n es root k.holds k.dummy.begun low in
    let there = get_lt (run_heap n es).roots root (link_to id) at in
    omega (arith, there, roots_from (new_heap n) es, length-replicate n.roots null)
