-- A turn in which no other agent steps: what is new are the pass's own events.
use Rattle.std.proofs.Common.{List, Some, None, [], ap, append_assoc, arith, false, inl, inr, refl, subst, sym, true, ℕ, ◌++◌, ◌∙◌, ◌∷◌, ◌≡◌, ◌≤◌}
use Rattle.orc_heap.proofs.OwnParts.{own_from, own_is_all, quiet_not_alone}
use Rattle.orc_heap.proofs.Calls.{part_allowed}
use Rattle.orc_heap.proofs.Runs.{lawful-right, run_from-append, run_heap-snoc}
use Rattle.orc_heap.proofs.Moved.{shown_or_moved_there}
use Rattle.orc_heap.specs.Acts.{Fits}
use Rattle.orc_heap.proofs.Stays.{allowed-left, allowed-right}
use Rattle.orc_heap.specs.Allowed.{AllAllowed, events_by, HasLink}
use Rattle.orc_heap.specs.Calls.{event_of}
use Rattle.orc_heap.specs.Heap.{Heap, HeapNumbers, new_heap, null, shown, link_to}
use Rattle.orc_heap.specs.Journals.{IsLawfulFrom, run_from, run_heap}
use Rattle.orc_heap.specs.Moves.{AllOwn, from_own, moves_in}
use Rattle.orc_heap.specs.OwnEvents.{Puts}
use Rattle.orc_heap.specs.Seats.{Seat, heap_of}
use Rattle.orc_heap.specs.declared.events.Act.TheVariants.{Look, Miss, Move}
use Rattle.orc_heap.specs.declared.events.Act.{Act}
use Rattle.orc_heap.specs.declared.events.Event.{Event}
use Rattle.orc_heap.specs.declared.events.Link.{Link}
use Rattle.orc_heap.specs.declared.events.Place.TheVariants.{Next, Root}
use Rattle.orc_fifo_rule.proofs.Later.{holds_later}
use Rattle.orc_fifo_rule.specs.declared.fifo.FifoNote.{FifoNote}
use Rattle.orc_fifo_rule.specs.declared.fifo.FifoNote.TheVariants.{Swing}
use Rattle.orc_fifo_rule.specs.QueueDiscipline.{FifoHolds, FifoMay, has_begun}
use Rattle.orc_fifo_rule.specs.Laws.Events.{begun_more}
use Rattle.orc_fifo_rule.specs.Laws.Nodes.{link_next, node_next}
use Rattle.orc_fifo_rule.specs.Laws.Paths.{back_one, tail_steps}
use Rattle.orc_queue.specs.Looking.{Known}
use Rattle.orc_queue.specs.Turns.{EndsHelping, IsTurnOver, KeepsTail, Piece, TailIsLast, TailIsPast}
use Rattle.orc_queue.proofs.Joins.{Join}
use Rattle.orc_heap.proofs.SingleActs.{link_same, null_to, root_moved, root_other, shown_link, some_same}
use Rattle.orc_heap.proofs.Pieces.{own_moves_left, alone_holds, moves_then}
use Rattle.orc_heap.proofs.Moments.{look_found}
use Rattle.orc_fifo_rule.specs.Laws.Kept.{fifo_keeps}

-- the events of a turn: a look of a root, one of a node's link, and the swing of the tail
abbrev pub look_root : Seat FifoNote → ℕ → Link → Event FifoNote
look_root s root link = event_of s (Look (Root root) link) None

abbrev pub look_next : Seat FifoNote → ℕ → ℕ → Event FifoNote
look_next s id next = event_of s (Look (Next id) (link_to next)) None

abbrev pub swing_tail : Seat FifoNote → ℕ → ℕ → Event FifoNote
swing_tail s id next = event_of s (Move (Root 1) (link_to id) (link_to next)) (Some Swing)

-- where no other agent steps, what follows from the own events, wherever they stand once the roots have begun, holds of the heap
pub alone_runs : (n : HeapNumbers) (P : Heap → Type 0) (s t : Seat FifoNote) (own : List (Event FifoNote)) (p : Puts s own t) → Known n s.seen
    → AllAllowed (FifoMay n) [] t.seen
    → ((es : List (Event FifoNote)) → FifoHolds n es → has_begun es ≡ true → AllAllowed (FifoMay n) es own → P (run_heap n (es ++ own)))
    → AllOwn s.agent (from_own s.agent p.part) → P (heap_of n t)
alone_runs n P s t own p k all told alone =
    alone_holds n (λ es. FifoHolds n es × (has_begun es ≡ true)) (FifoMay n) (λ es e h may. (fifo_keeps n es e h.0 may, begun_more es (e ∷ []) h.1))
    P s t own p (k.holds, k.dummy.begun) all (λ es h. told es h.0 h.1) alone

-- a turn without a Move of the pass's own
pub over_quiet : (n : HeapNumbers) (IsSettled : Heap → Type 0) (s t : Seat FifoNote) (p : Piece 6 s [] t) → t.fresh ≡ s.fresh → moves_in p.own ≡ 0
    → 1 ≤ moves_in (from_own s.agent p.puts.part) → IsTurnOver n IsSettled s t
over_quiet n IsSettled s t p fresh none some = record {
  piece = p;
  fresh = fresh;
  moved = some;
  settles = λ alone. absurd (quiet_not_alone s.agent p.puts.part p.own p.puts.own_is none some alone);
  unsettled = λ alone settled. quiet_not_alone s.agent p.puts.part p.own p.puts.own_is none some (own_from s.agent p.puts.part alone);
}

-- a turn from a look of a root on: the rest made no Move, or it helped
module _ (n : HeapNumbers) (IsSettled : Heap → Type 0) (root id : ℕ) (one : Link) (s a t : Seat FifoNote) (k : Known n s.seen)
    (all_a : AllAllowed (FifoMay n) [] a.seen) (all_t : AllAllowed (FifoMay n) [] t.seen)
    (p : Puts s (event_of s (Look (Root root) one) None ∷ event_of s (Look (Root root) (link_to id)) None ∷ []) a) (own : List (Event FifoNote))
    (q : Puts a own t)
    (j : Join 6 s t (event_of s (Look (Root root) one) None ∷ event_of s (Look (Root root) (link_to id)) None ∷ own) [] p.part q.part)
    (fresh : t.fresh ≡ s.fresh)
    (moved : shown (heap_of n a) (Root root) ≡ Some (link_to id) → 1 ≤ moves_in q.part)
  where
    moved_since : 1 ≤ moves_in (from_own s.agent j.piece.puts.part)
    moved_since =
        let found = look_found n (FifoMay n) (λ es x k. k.fits) s a (Root root) (link_to id) None (event_of s (Look (Root root) one) None ∷ []) [] p all_a tt in
        elim found [
          | inl still ↦ omega (arith, moved still, moves_then s a t _ _ _ _ p q j.piece.puts refl)
          | inr some ↦ omega (arith, some, own_moves_left s a t _ _ _ p q j.piece.puts)
        ]

    all_own : events_by s.agent j.piece.puts.part ≡ event_of s (Look (Root root) one) None ∷ event_of s (Look (Root root) (link_to id)) None ∷ own
    all_own = j.piece.puts.own_is ∙ j.own_is

    pub over_missed : moves_in own ≡ 0 → IsTurnOver n IsSettled s t
    over_missed none = over_quiet n IsSettled s t j.piece fresh (ap (λ (z : List (Event FifoNote)). moves_in z) j.own_is ∙ omega (arith, none)) moved_since

    over_own : ((es : List (Event FifoNote)) → FifoHolds n es → has_begun es ≡ true
        → AllAllowed (FifoMay n) es (event_of s (Look (Root root) one) None ∷ event_of s (Look (Root root) (link_to id)) None ∷ own)
        → IsSettled (run_heap n (es ++ event_of s (Look (Root root) one) None ∷ event_of s (Look (Root root) (link_to id)) None ∷ own)))
        → ((es : List (Event FifoNote))
        → AllAllowed (FifoMay n) es (event_of s (Look (Root root) one) None ∷ event_of s (Look (Root root) (link_to id)) None ∷ own)
        → IsSettled (run_heap n es) → ⊥)
        → IsTurnOver n IsSettled s t
    over_own settles unsettled =
        let part = j.piece.puts.part in
        let new = part_allowed (FifoMay n) s t _ j.piece.puts all_t in
        record {
          piece = j.piece;
          fresh = fresh;
          moved = moved_since;
          settles = λ alone. alone_runs n IsSettled s t _ (record { part = part; is = j.piece.puts.is; agent = j.piece.puts.agent; own_is = all_own })
              k all_t settles alone;
          unsettled = λ alone settled.
              let is : part ≡ event_of s (Look (Root root) one) None ∷ event_of s (Look (Root root) (link_to id)) None ∷ own =
              sym (own_is_all s.agent part alone) ∙ all_own in
              unsettled s.seen (subst (λ z. AllAllowed (FifoMay n) s.seen z) is new) settled;
        }

    -- the own events of the rest are these
    pub over_helped : (rest : List (Event FifoNote)) → own ≡ rest
        → ((es : List (Event FifoNote)) → FifoHolds n es → has_begun es ≡ true
        → AllAllowed (FifoMay n) es (look_root s root one ∷ look_root s root (link_to id) ∷ rest)
        → IsSettled (run_heap n (es ++ look_root s root one ∷ look_root s root (link_to id) ∷ rest)))
        → ((es : List (Event FifoNote)) → AllAllowed (FifoMay n) es (look_root s root one ∷ look_root s root (link_to id) ∷ rest)
        → IsSettled (run_heap n es) → ⊥)
        → IsTurnOver n IsSettled s t
    over_helped rest is settles unsettled =
        let turn = λ (z : List (Event FifoNote)). look_root s root one ∷ look_root s root (link_to id) ∷ z in
        over_own (λ es holds begun all. subst (λ (z : List (Event FifoNote)). IsSettled (run_heap n (es ++ turn z))) (sym is)
        (settles es holds begun (subst (λ (z : List (Event FifoNote)). AllAllowed (FifoMay n) es (turn z)) is all)))
        (λ es all. unsettled es (subst (λ (z : List (Event FifoNote)). AllAllowed (FifoMay n) es (turn z)) is all))

-- after a Swing the tail names the last node
pub swing_settles : (n : HeapNumbers) (es : List (Event FifoNote)) (agent tail next : ℕ) → FifoHolds n es → has_begun es ≡ true
    → (let e : Event FifoNote = record { agent = agent; act = Move (Root 1) (link_to tail) (link_to next); note = Some Swing } in
    FifoMay n es e → TailIsLast (run_heap n (es ++ e ∷ [])))
swing_settles n es agent tail next holds begun may =
    let e : Event FifoNote = record { agent = agent; act = Move (Root 1) (link_to tail) (link_to next); note = Some Swing } in
    let h = run_heap n es in
    let run = holds.running begun in
    let steps = may.may_act.steps in
    let next_is : steps.next ≡ next = link_same steps.next next (sym steps.to_is) in
    let (same, has) = tail_steps h es run 1 (link_to tail) (link_to next) steps refl may.fits.0 in
    let successor : shown h (Next run.tail) ≡ Some (link_to next) =
    subst (λ (x : ℕ). shown h (Next run.tail) ≡ Some (link_to x)) next_is
    (subst (λ (x : ℕ). shown h (Next x) ≡ Some (link_to steps.next)) same steps.successor) in
    let (put, back_is, link, put_node, is_last) = back_one es h run.tail run.last run.back next run.to_last run.ends run.short successor in
    let ends = link_next n es e run.last null may run.ends in
    record {
      last = next;
      tail_is = rw (run_heap-snoc n es e) (root_moved agent 1 (link_to tail) (link_to next) h may.fits.0);
      ends = subst (λ (x : ℕ). shown (run_heap n (es ++ e ∷ [])) (Next x) ≡ Some null) (sym is_last)
          (shown_link (run_heap n (es ++ e ∷ [])) run.last null ends);
    }

-- so it does after events that end with help of the tail
pub tail_settles : (n : HeapNumbers) (own : List (Event FifoNote)) → EndsHelping own → (es : List (Event FifoNote)) → FifoHolds n es
    → has_begun es ≡ true → AllAllowed (FifoMay n) es own → TailIsLast (run_heap n (es ++ own))
tail_settles n own h es holds begun all =
    let w = h.swings in
    let looks : List (Event FifoNote) = h.look ∷ w.before in
    let seen = es ++ h.before in
    let own_is : own ≡ h.before ++ (looks ++ w.last ∷ []) = h.es_are ∙ ap (λ z. h.before ++ h.look ∷ z) w.es_are in
    let whole : AllAllowed (FifoMay n) es (h.before ++ (looks ++ w.last ∷ [])) = subst (λ z. AllAllowed (FifoMay n) es z) own_is all in
    let first = allowed-left (FifoMay n) es h.before (looks ++ w.last ∷ []) whole in
    let rest : AllAllowed (FifoMay n) seen (looks ++ w.last ∷ []) = allowed-right (FifoMay n) es h.before (looks ++ w.last ∷ []) whole in
    let between = allowed-left (FifoMay n) seen looks (w.last ∷ []) rest in
    let may : FifoMay n (seen ++ looks) w.last = (allowed-right (FifoMay n) seen looks (w.last ∷ []) rest).0 in
    let holds_last = holds_later n seen looks (holds_later n es h.before holds first) between in
    let begun_last = begun_more seen looks (begun_more es h.before begun) in
    let at : shown (run_heap n seen) (Root 1) ≡ Some (link_to h.tail) = subst (λ (a : Act). Fits h.look.agent a (run_heap n seen)) h.sees rest.0.fits in
    let still : shown (run_heap n (seen ++ looks)) (Root 1) ≡ Some (link_to h.tail) =
    ap (λ (g : Heap). shown g (Root 1)) (run_from-append (new_heap n) seen looks)
    ∙ (tail_stays (run_heap n seen) looks (lawful-right (new_heap n) seen looks holds_last.lawful)
    (keeps_looks h.look w.before h.tail h.sees w.keeps) ∙ at) in
    let settled : TailIsLast (run_heap n ((seen ++ looks) ++ w.last ∷ [])) = elim w.swings [
      | inl swing ↦ subst (λ (e : Event FifoNote). TailIsLast (run_heap n ((seen ++ looks) ++ e ∷ []))) (sym swing.1)
          (swing_settles n (seen ++ looks) w.last.agent h.tail swing.0 holds_last begun_last
          (subst (λ (e : Event FifoNote). FifoMay n (seen ++ looks) e) swing.1 may))
      | inr missed ↦
          let fits : Fits w.last.agent (Miss (Root 1) (link_to h.tail) missed.0) (run_heap n (seen ++ looks)) =
          subst (λ (a : Act). Fits w.last.agent a (run_heap n (seen ++ looks))) missed.1 may.fits in
          absurd (fits.1 (some_same (sym fits.0 ∙ still)))
    ] in
    subst (λ z. TailIsLast (run_heap n z))
    (append_assoc seen looks (w.last ∷ []) ∙ (append_assoc es h.before (looks ++ w.last ∷ []) ∙ ap (λ z. es ++ z) (sym own_is))) settled
  where
    tail_stays : (g : Heap) (fs : List (Event FifoNote)) → IsLawfulFrom g fs → KeepsTail fs → shown (run_from g fs) (Root 1) ≡ shown g (Root 1)
    tail_stays g fs lawful keeps =
        elim (shown_or_moved_there g (Root 1) fs lawful tt) [ inl same ↦ same | inr moved ↦ let bad : true ≡ false = sym moved ∙ keeps in absurd (cc) ]

    keeps_looks : (look : Event FifoNote) (fs : List (Event FifoNote)) (tail : ℕ) → look.act ≡ Look (Root 1) (link_to tail) → KeepsTail fs
        → KeepsTail (look ∷ fs)
    keeps_looks look fs tail sees keeps = rw sees keeps

-- and it names another node than before
pub swing_past : (n : HeapNumbers) (es : List (Event FifoNote)) (agent head next : ℕ) → FifoHolds n es → has_begun es ≡ true
    → shown (run_heap n es) (Root 0) ≡ Some (link_to head)
    → (let e : Event FifoNote = record { agent = agent; act = Move (Root 1) (link_to head) (link_to next); note = Some Swing } in
    FifoMay n es e → TailIsPast (run_heap n (es ++ e ∷ [])))
swing_past n es agent head next holds begun at may =
    let e : Event FifoNote = record { agent = agent; act = Move (Root 1) (link_to head) (link_to next); note = Some Swing } in
    let h = run_heap n es in
    let last = swing_settles n es agent head next holds begun may in
    let g = run_heap n (es ++ e ∷ []) in
    let tail_is : shown g (Root 1) ≡ Some (link_to next) = rw (run_heap-snoc n es e) (root_moved agent 1 (link_to head) (link_to next) h may.fits.0) in
    let steps = may.may_act.steps in
    let (same, has) = tail_steps h es (holds.running begun) 1 (link_to head) (link_to next) steps refl may.fits.0 in
    let leads : HasLink g head (link_to steps.next) =
    node_next n es e head steps.next may (subst (λ (x : ℕ). HasLink h x (link_to steps.next)) (link_same steps.id head (sym steps.from_is)) has) in
    let ends : shown g (Next next) ≡ Some null =
    subst (λ (x : ℕ). shown g (Next x) ≡ Some null) (link_same last.last next (some_same (sym last.tail_is ∙ tail_is))) last.ends in
    record {
      head = head;
      head_is = rw (run_heap-snoc n es e) (root_other agent 1 0 (link_to head) (link_to next) h (λ x. omega (arith, x)) ∙ at);
      tail_apart = λ circle.
          let is : next ≡ head = link_same next head (some_same (sym tail_is ∙ circle)) in
          let both : shown g (Next head) ≡ Some null = subst (λ (x : ℕ). shown g (Next x) ≡ Some null) is ends in
          null_to steps.next (some_same (sym both ∙ shown_link g head (link_to steps.next) leads));
    }
