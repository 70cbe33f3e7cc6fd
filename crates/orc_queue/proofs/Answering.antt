-- A whole call, from the idle pass to the idle pass.
use Rattle.std.proofs.Common.{List, Option, Some, None, Ok, Err, Result, [], ap, append-nil, arith, inl, inr, length, refl, suc, sym, zero, ℕ, ◌*◌, ◌∙◌, ◌∷◌, ◌≡◌, ◌≢◌, ◌≤◌, ◌⊎◌}
use Rattle.std.specs.List.{slice_get}
use Rattle.orc_fault.specs.declared.Again.{Again as AgainFault}
use Rattle.orc_heap.proofs.ByAnswer.{unless_same}
use Rattle.orc_heap.proofs.Calls.{Puts-trans}
use Rattle.orc_heap.specs.Calls.{Gives, Releases, event_of, unless_node}
use Rattle.orc_heap.specs.Heap.{HeapNumbers}
use Rattle.orc_heap.specs.Moves.{gives_in}
use Rattle.orc_heap.specs.OwnEvents.{Only, Puts}
use Rattle.orc_heap.specs.Seats.{IsIdle, Seat}
use Rattle.orc_heap.specs.Slots.{Hold, IsFree, Slots, id_in}
use Rattle.orc_heap.specs.declared.events.Act.TheVariants.{Fill, Give}
use Rattle.orc_heap.specs.declared.events.Event.{Event}
use Rattle.orc_history.specs.QueueHistory.{entry_of_dequeue}
use Rattle.orc_history.specs.declared.queue.QueueEntry.{QueueEntry}
use Rattle.orc_history.specs.declared.queue.QueueEntry.TheVariants.{Put}
use Rattle.orc_history.specs.declared.queue.QueueRefused.{QueueRefused}
use Rattle.orc_history.specs.declared.queue.QueueRefused.TheVariants.{Again, NoNode, Positions}
use Rattle.orc_fifo_rule.specs.declared.fifo.FifoNote.{FifoNote}
use Rattle.orc_fifo_rule.specs.QueueDiscipline.{entries_of}
use Rattle.orc_queue.specs.declared.put.PutTurn.{PutTurn}
use Rattle.orc_queue.specs.declared.put.PutTurn.TheVariants.{Full, Over as PutOver, Put as PutDone}
use Rattle.orc_queue.specs.Answers.{gives_of, IsCall, PutAnswers, PutFull, PutLacking, PutMade, PutTired, stop_entries, StopsPiece, StopsShort, TakeAnswers, TakeMade, Tires}
use Rattle.orc_queue.specs.Turns.{AreOver, EndsHelping, FindsFull, HoldsNode, IsFull, Piece, PutTires, PutsJob, TailIsPast}
use Rattle.orc_queue.proofs.Backs.{backs_since_both}
use Rattle.orc_queue.proofs.Joins.{full_join_left, full_join_right, room_join}
use Rattle.orc_queue.proofs.PutTurns.{ends_helping}
use Rattle.orc_queue.proofs.Room.{room_unseen}
use Rattle.orc_heap.proofs.Pieces.{InSlot, own_moves_left, own_moves_right, own_part_left, own_part_right, puts_released, slot_holds, slot_id, slot_released}

-- one node is given, or none
gives_one : (turns : ℕ) (r : Result ℕ QueueRefused) → turns ≢ 0 → r ≢ Err NoNode → gives_of turns r ≡ 1
gives_one zero r some has = absurd (some refl)
gives_one (suc turns) (Ok at) some has = refl
gives_one (suc turns) (Err Again) some has = refl
gives_one (suc turns) (Err NoNode) some has = absurd (has refl)
gives_one (suc turns) (Err Positions) some has = refl

gives_none : (turns : ℕ) → gives_of turns (Err NoNode) ≡ 0
gives_none zero = refl
gives_none (suc turns) = refl

-- a take
pub take_tired : (n : HeapNumbers) (turns : ℕ) (s t : Seat FifoNote) → IsIdle s → AreOver n TailIsPast turns s t → Tires 0 turns s t
take_tired n turns s t idle o = record {
  call = record {
    idle = record { slots = o.piece.slots ∙ idle.slots; fresh = o.fresh ∙ idle.fresh };
    own = o.piece.own;
    puts = o.piece.puts;
    entries_are = o.piece.entries_are;
    gives = o.piece.no_give;
    few = omega (arith, o.piece.few);
  };
  moved = o.moved;
  busy = o.busy;
}

pub take_made : (turns : ℕ) (got : Option (ℕ × ℕ)) (s t : Seat FifoNote) → IsIdle s → turns ≢ 0
    → (p : Piece (6 * turns) s (entry_of_dequeue s.agent got ∷ []) t) → t.fresh ≡ s.fresh → TakeMade turns got s t
take_made turns got s t idle some p fresh = record {
  call = record {
    idle = record { slots = p.slots ∙ idle.slots; fresh = fresh ∙ idle.fresh };
    own = p.own;
    puts = p.puts;
    entries_are =
        p.entries_are;
    gives = p.no_give;
    few = omega (arith, p.few);
  };
  some_turn = some;
}

-- a slot of an idle pass
pub idle_free : (s : Seat FifoNote) → IsIdle s → IsFree s.slots 1
idle_free s idle = record { above = omega arith; below = omega arith; empty = ap (λ (z : Slots). slice_get z 1) idle.slots }

-- the node that was given
pub given_in : (n : HeapNumbers) (job : ℕ) (h : Hold) (s a : Seat FifoNote) (g : Gives n 1 job 0 s h a) → InSlot s 1 g.id h a
given_in n job h s a g = record { at = g.slot_is; slots = g.slots }

pub given_held : (n : HeapNumbers) (job : ℕ) (h : Hold) (s a : Seat FifoNote) → IsFree s.slots 1 → Gives n 1 job 0 s h a → HoldsNode n job h a
given_held n job h s a free g =
    let i = given_in n job h s a g in
    let is = slot_id s a 1 g.id h free i in
    record { held = slot_holds s a 1 g.id h free i; fresh = g.fresh ∙ ap (λ (x : ℕ). Some x) (sym is); second = 0; node = rw (is, g.puts.agent) g.node }

-- a put, from its Give to its release
module _ {n : HeapNumbers} {job : ℕ} (turns : ℕ) {h : Hold} {s a b t : Seat FifoNote} (idle : IsIdle s) (g : Gives n 1 job 0 s h a) (some : turns ≢ 0)
    (w : Releases b h t) where
  free : IsFree s.slots 1
  free = idle_free s idle

  node : HoldsNode n job h a
  node = given_held n job h s a free g

  put_idle : b.slots ≡ a.slots → t.fresh ≡ None → IsIdle t
  put_idle same none = record { slots = slot_released s a 1 g.id h free (given_in n job h s a g) b t same w ∙ idle.slots; fresh = none }

  fresh_released : b.slots ≡ a.slots → b.fresh ≡ a.fresh → t.fresh ≡ None
  fresh_released same fresh =
      w.fresh ∙ (ap (λ o. unless_node o (Some (id_in b.slots h))) (fresh ∙ (node.fresh ∙ ap (λ (z : Slots). Some (id_in z h)) (sym same)))
      ∙ unless_same (id_in b.slots h))

  given_room : FindsFull n s.agent s.seen g.puts.part → ⊥
  given_room = room_unseen n s a _ g.puts refl

  module _ (own : List (Event FifoNote)) (q0 : Puts a own b) (none : gives_in own ≡ 0) (few : length own ≤ 6 * turns) where
    all_puts : Puts s (event_of s Give None ∷ event_of s (Fill g.id 0 job) None ∷ event_of s (Fill g.id 1 0) None ∷ own) t
    all_puts = Puts-trans s a t _ own g.puts (puts_released a b t own q0 w.puts)

    abbrev put_call : (r : Result ℕ QueueRefused) (es : List QueueEntry) → r ≢ Err NoNode → b.slots ≡ a.slots → t.fresh ≡ None → entries_of own ≡ es
        → IsCall (gives_of turns r) turns s es t
    put_call r es has same fresh entries =
        let one = gives_one turns r some has in
        record { idle = put_idle same fresh; own = _; puts = all_puts; entries_are = entries; gives = omega (arith, none, one); few = omega (arith, few, one) }

    room_all : {given : ℕ} {es : List QueueEntry} (c : IsCall given turns s es t) → (FindsFull n a.agent a.seen q0.part → ⊥)
        → FindsFull n s.agent s.seen c.puts.part → ⊥
    room_all c room =
        let q = puts_released a b t own q0 w.puts in
        room_join n s a t _ _ _ g.puts q c.puts given_room (room_join n a b t _ _ _ q0 w.puts q room (room_unseen n b t [] w.puts refl))

    full_all : {given : ℕ} {es : List QueueEntry} (c : IsCall given turns s es t) → FindsFull n a.agent a.seen q0.part → FindsFull n s.agent s.seen c.puts.part
    full_all c full =
        let q = puts_released a b t own q0 w.puts in
        full_join_right n s a t _ _ _ g.puts q c.puts (full_join_left n a b t _ _ _ q0 w.puts q full)

  pub put_tired : PutTires n job turns h a b → PutTired n turns s t
  put_tired l =
      let p = l.over.piece in
      let c = put_call p.own p.puts p.no_give p.few (Err Again) [] (λ e. cc) p.slots (fresh_released p.slots l.over.fresh) p.entries_are in
      let q = puts_released a b t p.own p.puts w.puts in
      record {
        tires = record {
          call = c;
          moved = omega (arith, l.over.moved, own_moves_left a b t _ _ _ p.puts w.puts q, own_moves_right s a t _ _ _ g.puts q c.puts);
          busy = λ two alone. l.over.busy two (own_part_left a b t _ _ _ p.puts w.puts q (own_part_right s a t _ _ _ g.puts q c.puts alone));
        };
        room = room_all p.own p.puts p.no_give p.few c l.room;
        back = omega (arith, l.back, backs_since_both a b t _ _ _ p.puts w.puts q, backs_since_both s a t _ _ _ g.puts q c.puts);
      }

  pub put_full : IsFull n (6 * turns) a b → PutFull n turns s t
  put_full l =
      let p = l.piece in
      let c = put_call p.own p.puts p.no_give p.few (Err Positions) [] (λ e. cc) p.slots (fresh_released p.slots l.fresh) p.entries_are in
      record { call = c; some_turn = some; full = full_all p.own p.puts p.no_give p.few c l.full }

  pub put_made : (at : ℕ) → PutsJob n (6 * turns) EndsHelping job at a b → PutMade n job at turns s t
  put_made at l =
      let p = l.piece in
      let fresh : t.fresh ≡ None = w.fresh ∙ ap (λ o. unless_node o (Some (id_in b.slots h))) l.fresh in
      let c = put_call p.own p.puts p.no_give p.few (Ok at) (Put s.agent job at ∷ []) (λ e. cc) p.slots fresh
      (p.entries_are ∙ ap (λ (x : ℕ). Put x job at ∷ []) g.puts.agent) in
      record {
        call = c;
        some_turn = some;
        low = l.low;
        room = room_all p.own p.puts p.no_give p.few c l.room;
        helps =
            ends_helping (event_of s Give None ∷ event_of s (Fill g.id 0 job) None ∷ event_of s (Fill g.id 1 0) None ∷ []) p.own l.helps;
      }

-- a put that stops, and puts nothing
pub no_entries : (agent job : ℕ) (turn : PutTurn) → ((at : ℕ) → turn ≢ PutDone at) → stop_entries agent job turn ≡ []
no_entries agent job PutOver other = refl
no_entries agent job Full other = refl
no_entries agent job (PutDone at) other = absurd (other at refl)

-- a put that stops
module _ {n : HeapNumbers} {job : ℕ} {h : Hold} {s a b t : Seat FifoNote} (idle : IsIdle s) (g : Gives n 1 job 0 s h a) (w : Releases b h t) where
  pub put_stops : (es fs : List QueueEntry) → StopsPiece 4 a es b → (b.fresh ≡ a.fresh) ⊎ (b.fresh ≡ None) → es ≡ fs → StopsShort 1 s fs t
  put_stops es fs p fresh is =
      let node = given_held n job h s a (idle_free s idle) g in
      let gone : t.fresh ≡ None = elim fresh [
        | inl same ↦ fresh_released 1 idle g (λ e. omega (arith, e)) w p.piece.slots same
        | inr none ↦ w.fresh ∙ ap (λ o. unless_node o (Some (id_in b.slots h))) none
      ] in
      record {
        call = record {
          idle = put_idle 1 idle g (λ e. omega (arith, e)) w p.piece.slots gone;
          own = _;
          puts = all_puts 1 idle g (λ e. omega (arith, e)) w p.piece.own p.piece.puts p.piece.no_give (omega (arith, p.piece.few));
          entries_are = p.piece.entries_are ∙ is;
          gives = omega (arith, p.piece.no_give);
          few = omega (arith, p.piece.few);
        };
        keeps = p.keeps;
      }

-- no node for it
pub stops_lacking : (s t : Seat FifoNote) → IsIdle s → Only [] s t → StopsShort 0 s [] t
stops_lacking s t idle o = record {
  call = record {
    idle = record { slots = o.slots ∙ idle.slots; fresh = o.fresh ∙ idle.fresh };
    own = [];
    puts = o.puts;
    entries_are = refl;
    gives = refl;
    few = omega arith;
  };
  keeps = refl;
}

-- no turn
pub put_none : (n : HeapNumbers) (s : Seat FifoNote) → IsIdle s → PutTired n 0 s s
put_none n s idle =
    let p : Puts s [] s = record { part = []; is = sym (append-nil s.seen); agent = refl; own_is = refl } in
    record {
      tires = record {
        call = record { idle = idle; own = []; puts = p; entries_are = refl; gives = refl; few = omega arith };
        moved =
            omega arith;
        busy = λ two alone. omega (arith, two);
      };
      room = λ f. f;
      back = omega arith;
    }

-- no node
pub put_lacking : (n : HeapNumbers) (turns : ℕ) (s t : Seat FifoNote) → IsIdle s → turns ≢ 0 → Only [] s t → PutLacking n turns s t
put_lacking n turns s t idle some o = record {
  call = record {
    idle = record { slots = o.slots ∙ idle.slots; fresh = o.fresh ∙ idle.fresh };
    own = [];
    puts = o.puts;
    entries_are = refl;
    gives =
        sym (gives_none turns);
    few = omega arith;
  };
  some_turn = some;
  room = room_unseen n s t [] o.puts refl;
}

-- and then the pass settled
abbrev call_settled : (given turns : ℕ) (s t u : Seat FifoNote) (es : List QueueEntry) → IsCall given turns s es t → Only [] t u → IsCall given turns s es u
call_settled given turns s t u es c o = record {
  idle = record { slots = o.slots ∙ c.idle.slots; fresh = o.fresh ∙ c.idle.fresh };
  own = c.own;
  puts = puts_released s t u c.own c.puts o.puts;
  entries_are = c.entries_are;
  gives = c.gives;
  few = c.few;
}

tires_settled : (given turns : ℕ) (s t u : Seat FifoNote) → Tires given turns s t → Only [] t u → Tires given turns s u
tires_settled given turns s t u k o =
    let c = call_settled given turns s t u [] k.call o in
    record {
      call = c;
      moved = omega (arith, k.moved, own_moves_left s t u _ _ _ k.call.puts o.puts c.puts);
      busy = λ two alone. k.busy two (own_part_left s t u _ _ _ k.call.puts o.puts c.puts alone);
    }

module _ (n : HeapNumbers) (s t u : Seat FifoNote) (o : Only [] t u) where
  room_settled : {given turns : ℕ} {es : List QueueEntry} (c : IsCall given turns s es t) (k : IsCall given turns s es u)
      → (FindsFull n s.agent s.seen c.puts.part → ⊥) → FindsFull n s.agent s.seen k.puts.part → ⊥
  room_settled c k room = room_join n s t u _ _ _ c.puts o.puts k.puts room (room_unseen n t u [] o.puts refl)

  pub put_settled : (job turns : ℕ) (r : Result ℕ QueueRefused) → PutAnswers n job turns s r t → PutAnswers n job turns s r u
  put_settled job turns (Ok at) l =
      let c = call_settled _ turns s t u _ l.call o in
      record { call = c; some_turn = l.some_turn; low = l.low; room = room_settled l.call c l.room; helps = l.helps }
  put_settled job turns (Err Again) l =
      let k = tires_settled _ turns s t u l.tires o in
      record {
        tires = k;
        room = room_settled l.tires.call k.call l.room;
        back = omega (arith, l.back, backs_since_both s t u _ _ _ l.tires.call.puts o.puts k.call.puts);
      }
  put_settled job turns (Err NoNode) l =
      let c = call_settled _ turns s t u _ l.call o in
      record { call = c; some_turn = l.some_turn; room = room_settled l.call c l.room }
  put_settled job turns (Err Positions) l =
      let c = call_settled _ turns s t u _ l.call o in
      record { call = c; some_turn = l.some_turn; full = full_join_left n s t u _ _ _ l.call.puts o.puts c.puts l.full }

  pub take_settled : (turns : ℕ) (r : Result (Option (ℕ × ℕ)) AgainFault) → TakeAnswers turns s r t → TakeAnswers turns s r u
  take_settled turns (Ok got) l = record { call = call_settled 0 turns s t u _ l.call o; some_turn = l.some_turn }
  take_settled turns (Err again) l = tires_settled 0 turns s t u l o
