-- Linking the new node behind the last one.
use Rattle.std.proofs.Common.{Bool, List, Option, Some, None, [], length, ap, append-nil, append_assoc, arith, cond, false, inl, inr, refl, subst, sym, ℕ, ◌++◌, ◌+◌, ◌<◌, ◌^◌, ◌∙◌, ◌∷◌, ◌≡◌, ◌≤◌, ◌⊎◌}
use Rattle.std.proofs.lemmas.Bool.{eq-eqb}
use Rattle.std.proofs.lemmas.List.{length-append}
use Rattle.std.specs.List.{list_any, slice_get}
use Rattle.orc_heap.proofs.ByAnswer.{unless_same}
use Rattle.orc_heap.proofs.Fresh.{touched_by}
use Rattle.orc_heap.proofs.Calls.{Puts-trans, Puts-stood}
use Rattle.orc_heap.specs.Allowed.{AllAllowed, AllowedLater, IsLinkedNode, HasLink}
use Rattle.orc_heap.specs.Calls.{Misses, ReadsValue, event_of, given_node, unless_node}
use Rattle.orc_heap.specs.Heap.{HeapNumbers, Node, null, link_to}
use Rattle.orc_heap.specs.Journals.{run_heap}
use Rattle.orc_heap.specs.OwnEvents.{Only, Puts}
use Rattle.orc_heap.specs.Moves.{gives_in, move_with, moves_in, moves_place}
use Rattle.orc_heap.specs.declared.events.Act.{Act}
use Rattle.orc_heap.specs.Seats.{Seat, heap_of}
use Rattle.orc_heap.specs.Slots.{Hold, id_in}
use Rattle.orc_heap.specs.declared.events.Act.TheVariants.{Aim, AimSide, Fill, Give, Look, Miss, Move}
use Rattle.orc_heap.specs.declared.events.Event.{Event}
use Rattle.orc_heap.specs.declared.events.Place.TheVariants.{Next, Root}
use Rattle.orc_history.specs.declared.queue.QueueEntry.TheVariants.{Put}
use Rattle.orc_fifo_rule.proofs.Coming.{put_allowed}
use Rattle.orc_fifo_rule.proofs.Later.{link_later, linked_later}
use Rattle.orc_fifo_rule.specs.declared.fifo.FifoNote.{FifoNote}
use Rattle.orc_fifo_rule.specs.declared.fifo.FifoNote.TheVariants.{Entry}
use Rattle.orc_fifo_rule.specs.QueueDiscipline.{FifoMay, entries_of, position_of, entries_in}
use Rattle.orc_fifo_rule.specs.Watches.{WasNamed, node_to_put}
use Rattle.orc_fifo_rule.specs.Laws.Nodes.{link_next}
use Rattle.orc_queue.specs.Looking.{Known}
use Rattle.orc_queue.specs.declared.put.PutTurn.{PutTurn}
use Rattle.orc_queue.specs.declared.put.PutTurn.TheVariants.{Full, Over as PutOver, Put as PutDone}
use Rattle.orc_queue.specs.Answers.{StopsPiece, stop_entries}
use Rattle.orc_queue.specs.Turns.{Helps, HoldsNode, KeepsTail, LinkMissed, LinksBehind, LinksJob, SwingsLast, SwingsTail}
use Rattle.orc_queue.proofs.Backs.{miss_back}
use Rattle.orc_queue.proofs.Joins.{join, room_join}
use Rattle.orc_queue.proofs.Looking.{position_read}
use Rattle.orc_queue.proofs.Pieces.{link_puts, linked_puts, named_puts, node_puts, node_touched, position_puts}
use Rattle.orc_queue.proofs.Room.{looks_at_end, room_unseen}
use Rattle.orc_heap.proofs.OwnEntries.{noted-append}
use Rattle.orc_heap.proofs.SingleActs.{has_link}
use Rattle.orc_heap.proofs.Moments.{miss_moved, seen_is}
use Rattle.orc_heap.proofs.Moved.{gives_in-append}

-- the Move that links a new node behind this one: its link leads there from then on
pub put_links : (n : HeapNumbers) (s t : Seat FifoNote) (id to : ℕ) (noted : Option FifoNote)
    → Puts s (event_of s (Move (Next id) null (link_to to)) noted ∷ []) t → AllAllowed (FifoMay n) [] t.seen
    → IsLinkedNode (heap_of n s) id → HasLink (heap_of n t) id (link_to to)
put_links n s t id to noted p all l =
    let e : Event FifoNote = event_of s (Move (Next id) null (link_to to)) noted in
    let m = Puts-stood (FifoMay n) s t [] e [] p all in
    let es = s.seen ++ m.before in
    let has = has_link (run_heap n es) id null (linked_later n s.seen m.before id l m.first) m.here.fits.0 in
    let next : HasLink (run_heap n (es ++ e ∷ [])) id (link_to to) =
    subst (λ (b : Bool). HasLink (run_heap n (es ++ e ∷ [])) id (cond b (link_to to) null)) (eq-eqb id id refl) (link_next n es e id null m.here has) in
    subst (λ z. HasLink (run_heap n z) id (link_to to)) (sym (p.is ∙ seen_is m ∙ sym (append_assoc es (e ∷ []) m.later)))
    (link_later n (es ++ e ∷ []) m.later id to next m.last)

-- the position behind the tail was read, and put into the fresh node
pub record FillsNode (n : HeapNumbers) (job at tail : ℕ) (h : Hold) (s a b : Seat FifoNote) : Type 0 where
  pub before : Known n s.seen
  pub after : Known n b.seen
  pub node : HoldsNode n job h s
  pub named : WasNamed (heap_of n s) 1 tail
  pub read : Only [] s a
  pub fill : Only (event_of a (Fill (id_in a.slots h) 1 (at + 1)) None ∷ []) a b
  pub at_is : at ≡ position_of (heap_of n s) tail
  pub low : at < 2 ^ 62

module _ {n : HeapNumbers} {job at tail : ℕ} {h : Hold} {s a b : Seat FifoNote} (f : FillsNode n job at tail h s a b)
  where
    same_id : id_in a.slots h ≡ id_in s.slots h
    same_id = ap (λ z. id_in z h) f.read.slots

    filled_is : (v : ℕ) (more : List (Event FifoNote)) → touched_by (id_in s.slots h) (event_of a (Fill (id_in a.slots h) 1 (at + 1)) None ∷ more)
        (given_node s.agent job v) ≡ touched_by (id_in s.slots h) more (given_node s.agent job (at + 1))
    filled_is v more = rw (same_id, eq-eqb (id_in s.slots h) (id_in s.slots h) refl) refl

    filled_puts : Puts s (event_of a (Fill (id_in a.slots h) 1 (at + 1)) None ∷ []) b
    filled_puts = Puts-trans s a b [] _ f.read.puts f.fill.puts

    filled_slots : b.slots ≡ s.slots
    filled_slots = f.fill.slots ∙ f.read.slots

    pub tail_same : (th : Hold) → id_in b.slots th ≡ id_in s.slots th
    tail_same th = ap (λ z. id_in z th) filled_slots

    -- the node has the values of the Put
    pub filled_node : slice_get (heap_of n b).nodes (id_in b.slots h) ≡ Some (node_to_put b.agent job at)
    filled_node =
        rw (ap (λ z. id_in z h) filled_slots, filled_puts.agent)
        (node_touched n s b _ filled_puts f.after.all job h f.before f.node refl ∙ ap (λ (x : Node). Some x) (filled_is f.node.second []))

    pub filled_named : WasNamed (heap_of n b) 1 tail
    filled_named = named_puts n s b _ filled_puts f.after.all 1 tail f.named

    pub filled_linked : IsLinkedNode (heap_of n b) tail
    filled_linked = filled_named.linked

    pub filled_fresh : b.fresh ≡ Some (id_in b.slots h)
    filled_fresh = f.fill.fresh ∙ (f.read.fresh ∙ (f.node.fresh ∙ ap (λ z. Some (id_in z h)) (sym filled_slots)))

    tail_low : position_of (heap_of n s) tail < 2 ^ 62
    tail_low = omega (arith, f.at_is, f.low)

    -- the link was no more null
    pub link_missed : (t : Seat FifoNote) → AllAllowed (FifoMay n) [] t.seen → t.slots ≡ b.slots → t.fresh ≡ b.fresh → Misses (Next tail) null b t
        → LinkMissed n job tail h s t
    link_missed t all slots fresh miss =
        let e : Event FifoNote = event_of a (Fill (id_in a.slots h) 1 (at + 1)) None in
        let m : Event FifoNote = event_of b (Miss (Next tail) null miss.found) None in
        let p : Puts s (e ∷ m ∷ []) t = Puts-trans s b t (e ∷ []) (m ∷ []) filled_puts miss.puts in
        let same_slots = slots ∙ filled_slots in
        let same_fresh = fresh ∙ (f.fill.fresh ∙ f.read.fresh) in
        record {
          stops = record {
            piece = record { own = e ∷ m ∷ []; slots = same_slots; puts = p; entries_are = refl; no_give = refl; few = omega arith };
            fresh = same_fresh;
            moved = miss_moved n (FifoMay n) (λ es x k. k.fits) s t (Next tail) null miss.found (e ∷ []) m [] p refl all f.named.linked miss.other;
            own_moves = inl refl;
          };
          room = room_unseen n s t (e ∷ m ∷ []) p refl;
          low = tail_low;
          node = node_puts n s t (e ∷ m ∷ []) p all job h (at + 1) f.before f.node same_slots same_fresh refl (filled_is f.node.second (m ∷ []));
          back = miss_back n (Next tail) refl s t f.before all f.named.linked null miss.found (e ∷ []) m [] p refl miss.other;
        }

    -- the node is linked
    pub link_made : (t : Seat FifoNote) (agent : ℕ) → AllAllowed (FifoMay n) [] t.seen → agent ≡ b.agent → t.slots ≡ b.slots
        → t.fresh ≡ unless_node b.fresh (Some (id_in b.slots h))
        → Puts b (event_of b (Move (Next tail) null (link_to (id_in b.slots h))) (Some (Entry (Put agent job at))) ∷ []) t
        → LinksJob n 2 KeepsTail job tail at h s t
    link_made t agent all agent_is slots fresh put =
        let e : Event FifoNote = event_of a (Fill (id_in a.slots h) 1 (at + 1)) None in
        let m : Event FifoNote = event_of b (Move (Next tail) null (link_to (id_in b.slots h))) (Some (Entry (Put agent job at))) in
        let p : Puts s (e ∷ m ∷ []) t = Puts-trans s b t (e ∷ []) (m ∷ []) filled_puts put in
        record {
          puts = record {
            piece = record {
              own = _;
              slots = slots ∙ filled_slots;
              puts = p;
              entries_are = ap (λ (x : ℕ). Put x job at ∷ []) (agent_is ∙ filled_puts.agent);
              no_give =
                  refl;
              few = omega arith;
            };
            helps = refl;
            fresh = fresh ∙ (ap (λ o. unless_node o (Some (id_in b.slots h))) filled_fresh ∙ unless_same (id_in b.slots h));
            low = f.low;
            room = room_unseen n s t _ p refl;
          };
          low = tail_low;
          link = subst (λ (i : ℕ). HasLink (heap_of n t) tail (link_to i)) (tail_same h) (put_links n b t tail (id_in b.slots h) _ put all filled_linked);
        }

    -- the Put may come
    pub put_may : (th : Hold) (agent : ℕ) → tail ≡ id_in s.slots th → agent ≡ b.agent
        → AllowedLater (FifoMay n) n b.agent b.seen (Next (id_in b.slots th)) null
        (event_of b (Move (Next (id_in b.slots th)) null (link_to (id_in b.slots h))) (Some (Entry (Put agent job at))))
    put_may th agent tail_is agent_is =
        let same : tail ≡ id_in b.slots th = tail_is ∙ ap (λ z. id_in z th) (sym filled_slots) in
        let position : position_of (heap_of n b) tail ≡ at = position_puts n s b _ filled_puts f.after.all tail f.named.linked ∙ sym f.at_is in
        let may = put_allowed n b.agent tail (id_in b.slots h) job at b.seen f.after.holds f.after.dummy.begun filled_named position f.low filled_node in
        subst (λ (i : ℕ). AllowedLater (FifoMay n) n b.agent b.seen (Next i) null
        (event_of b (Move (Next i) null (link_to (id_in b.slots h))) (Some (Entry (Put agent job at))))) same
        (subst (λ (x : ℕ). AllowedLater (FifoMay n) n b.agent b.seen (Next tail) null
        (event_of b (Move (Next tail) null (link_to (id_in b.slots h))) (Some (Entry (Put x job at))))) (sym agent_is) may)

-- the value that was read
pub read_position : (n : HeapNumbers) (s a : Seat FifoNote) (tail value : ℕ) → Known n a.seen → Only [] s a → IsLinkedNode (heap_of n s) tail
    → ReadsValue (heap_of n a) tail 1 value → value ≡ position_of (heap_of n s) tail
read_position n s a tail value k o l r = position_read n a.seen tail value k (linked_puts n s a [] o.puts k.all tail l) r
    ∙ position_puts n s a [] o.puts k.all tail l

-- and then the tail was swung on, or not
pub link_helped : (n : HeapNumbers) (job tail next at : ℕ) (h : Hold) (s c t : Seat FifoNote) → AllAllowed (FifoMay n) [] t.seen
    → LinksJob n 2 KeepsTail job tail at h s c → Helps tail next c t → LinksJob n 3 (SwingsLast tail) job tail at h s t
link_helped n job tail next at h s c t all l helped =
    elim helped.either [
      | inl moved ↦ done _ moved refl refl refl (inl (next, refl))
      | inr missed ↦ done _ missed.puts refl refl refl (inr (missed.found, refl))
    ]
  where
    done : (e : Event FifoNote) (q : Puts c (e ∷ []) t) → entries_of (e ∷ []) ≡ [] → gives_in (e ∷ []) ≡ 0
        → list_any (λ x. looks_at_end x.act) (e ∷ []) ≡ false → SwingsTail tail e → LinksJob n 3 (SwingsLast tail) job tail at h s t
    done e q none no_give unseen swings =
        let p = l.puts.piece in
        let j = join 3 s c t p.own (e ∷ []) (Put s.agent job at ∷ []) p.puts q (helped.slots ∙ p.slots)
        (noted-append entries_in p.own (e ∷ []) ∙ (ap (λ z. entries_of p.own ++ z) none ∙ (append-nil (entries_of p.own) ∙ p.entries_are)))
        (omega (arith, gives_in-append p.own (e ∷ []), p.no_give, no_give))
        (omega (arith, length-append p.own (e ∷ []), p.few)) in
        record {
          puts = record {
            piece = j.piece;
            helps = record { before = p.own; keeps = l.puts.helps; last = e; es_are = j.own_is; swings = swings };
            fresh = helped.fresh ∙ l.puts.fresh;
            low = l.puts.low;
            room = room_join n s c t _ _ _ p.puts q j.piece.puts l.puts.room (room_unseen n c t (e ∷ []) q unseen);
          };
          low = l.low;
          link = link_puts n c t (e ∷ []) q all tail (id_in s.slots h) l.link;
        }

-- events that move nothing keep the tail
act_keeps : (act : Act) → move_with act ≡ 0 → moves_place (Root 1) act ≡ false
act_keeps Give none = refl
act_keeps (Fill id which value) none = refl
act_keeps (Aim id to) none = refl
act_keeps (AimSide id to) none = refl
act_keeps (Look place link) none = refl
act_keeps (Move place from to) none = absurd (omega (arith, none))
act_keeps (Miss place wanted found) none = refl

quiet_keeps : (es : List (Event FifoNote)) → moves_in es ≡ 0 → KeepsTail es
quiet_keeps [] none = refl
quiet_keeps (e ∷ es) none = rw (act_keeps e.act (omega (arith, none))) (quiet_keeps es (omega (arith, none)))

empty_keeps : (es : List (Event FifoNote)) → length es ≤ 0 → KeepsTail es
empty_keeps [] few = refl
empty_keeps (e ∷ es) few = absurd (omega (arith, few))

-- what the pass did by the link, and what it holds after it
pub record LinkKept (job : ℕ) (s : Seat FifoNote) (turn : PutTurn) (t : Seat FifoNote) : Type 0 where
  pub stops : StopsPiece 2 s (stop_entries s.agent job turn) t
  pub fresh : (t.fresh ≡ s.fresh) ⊎ (t.fresh ≡ None)

pub link_kept : (n : HeapNumbers) (job tail : ℕ) (h : Hold) (s t : Seat FifoNote) (turn : PutTurn)
    → LinksBehind n 2 KeepsTail job tail h s turn t → LinkKept job s turn t
link_kept n job tail h s t PutOver l = record {
  stops = record {
    piece = l.stops.piece;
    keeps = elim l.stops.own_moves [ inl none ↦ quiet_keeps l.stops.piece.own none | inr helped ↦ absurd helped ];
  };
  fresh = inl l.stops.fresh;
}
link_kept n job tail h s t (PutDone at) l = record { stops = record { piece = l.puts.piece; keeps = l.puts.helps }; fresh = inr l.puts.fresh }
link_kept n job tail h s t Full l = record {
  stops = record {
    piece = record {
      own = l.piece.own;
      slots = l.piece.slots;
      puts = l.piece.puts;
      entries_are = l.piece.entries_are;
      no_give = l.piece.no_give;
      few = omega (arith, l.piece.few);
    };
    keeps = empty_keeps l.piece.own l.piece.few;
  };
  fresh = inl l.fresh;
}
