-- A take, from the head and its successor on.
use Rattle.std.proofs.Common.{Bool, List, Option, Some, None, [], ap, arith, false, inl, inr, length, refl, subst, sym, true, ℕ, ◌++◌, ◌+◌, ◌∙◌, ◌∷◌, ◌≡◌, ◌≢◌, ◌≤◌, ◌⊎◌}
use Rattle.std.proofs.lemmas.List.{length-append}
use Rattle.std.specs.Borrow.{Bor}
use Rattle.orc_heap.proofs.Moved.{moves_in-append, shown_or_moved, gives_in-append}
use Rattle.orc_heap.proofs.OwnParts.{moves_from_own, moves_own}
use Rattle.orc_heap.proofs.Calls.{Only-trans, Puts-trans, Puts-stood, part_allowed}
use Rattle.orc_heap.specs.Allowed.{AllAllowed, AllowedLater, IsLinkedNode, HasLink}
use Rattle.orc_heap.specs.Calls.{Misses, ReadsValue, Swings, Tests, event_of}
use Rattle.orc_heap.specs.Heap.{HeapNumbers, Node, null, shown, link_to}
use Rattle.orc_heap.specs.Journals.{run_heap}
use Rattle.orc_heap.specs.Moves.{gives_in, moves_in}
use Rattle.orc_heap.specs.OwnEvents.{Only, Puts}
use Rattle.orc_heap.specs.Seats.{Seat, heap_of}
use Rattle.orc_heap.specs.Slots.{Hold, id_in}
use Rattle.orc_heap.specs.declared.events.Act.TheVariants.{Look, Miss, Move}
use Rattle.orc_heap.specs.declared.events.Event.{Event}
use Rattle.orc_heap.specs.declared.events.Link.{Link}
use Rattle.orc_heap.specs.declared.events.Place.{Place}
use Rattle.orc_heap.specs.declared.events.Place.TheVariants.{Next, Root}
use Rattle.orc_heap.specs.declared.holds.At.TheVariants.{Node as AtNode, Root as AtRoot}
use Rattle.orc_heap.specs.declared.holds.Want.TheVariants.{Node as WantNode, Null as WantNull}
use Rattle.orc_history.specs.declared.queue.QueueEntry.{QueueEntry}
use Rattle.orc_history.specs.declared.queue.QueueEntry.TheVariants.{Empty, Took}
use Rattle.orc_fifo_rule.proofs.Coming.{took_allowed}
use Rattle.orc_fifo_rule.proofs.Later.{holds_later, job_later, named_later}
use Rattle.orc_fifo_rule.proofs.Leaving.{is_left, left_later}
use Rattle.orc_fifo_rule.proofs.Reading.{successor_job}
use Rattle.orc_fifo_rule.specs.declared.fifo.FifoNote.{FifoNote}
use Rattle.orc_fifo_rule.specs.declared.fifo.FifoNote.TheVariants.{Entry, Swing}
use Rattle.orc_fifo_rule.specs.QueueDiscipline.{FifoMay, HasJob, entries_of, entries_in, position_of}
use Rattle.orc_fifo_rule.specs.Watches.{IsLeftBehind, WasNamed}
use Rattle.orc_fifo_rule.specs.Laws.Events.{begun_more}
use Rattle.orc_queue.specs.Looking.{Known}
use Rattle.orc_queue.specs.declared.take.TakeTurn.{TakeTurn}
use Rattle.orc_queue.specs.declared.take.TakeTurn.TheVariants.{Empty as TakeEmpty, Over as TakeOver, Took as TakeDone}
use Rattle.orc_queue.specs.Turns.{HasStopped, Helps, HelpsPast, TakesFrom, TakesFromHead, TakesJob, TakesNone}
use Rattle.orc_queue.proofs.Joins.{join}
use Rattle.orc_queue.proofs.Looking.{job_read}
use Rattle.orc_queue.proofs.Pieces.{left_puts, link_puts}
use Rattle.orc_heap.proofs.OwnEntries.{noted-append}
use Rattle.orc_heap.proofs.SingleActs.{some_same}
use Rattle.orc_heap.proofs.Pieces.{moves_left, moves_right, unless_other}
use Rattle.orc_heap.proofs.Moments.{look_found, miss_moved, seen_is, since}

-- the test of the head's link
pub end_empty : (s t : Seat FifoNote) (head : Bor Hold) (agent : ℕ) (done : Bool) → agent ≡ s.agent
    → Tests (AtNode head) (WantNull false) (Some (Entry (Empty agent))) s done t → done ≡ true → TakesNone 1 s t
end_empty s t head agent true agent_is w is = record {
  piece = record { own = _; slots = w.slots; puts = w.puts; entries_are = ap (λ (x : ℕ). Empty x ∷ []) agent_is; no_give = refl; few = omega arith };
  fresh = w.fresh;
}
end_empty s t head agent false agent_is w is = cc

pub end_lost : (n : HeapNumbers) (s t : Seat FifoNote) (head : Bor Hold) (noted : Option FifoNote) (done : Bool)
    → IsLinkedNode (heap_of n s) (id_in s.slots head.now) → AllAllowed (FifoMay n) [] t.seen → Tests (AtNode head) (WantNull false) noted s done t
    → done ≡ false → HasStopped n 1 (Next (id_in s.slots head.now)) null (λ own. ⊥) s t
end_lost n s t head noted true linked all w is = cc
end_lost n s t head noted false linked all w is = record {
  piece = record { own = _; slots = w.slots; puts = w.puts.puts; entries_are = refl; no_give = refl; few = omega arith };
  fresh = w.fresh;
  moved = miss_moved n (FifoMay n) (λ es x k. k.fits) s t (Next (id_in s.slots head.now)) null w.puts.found [] _ [] w.puts.puts refl all linked w.puts.other;
  own_moves = inl refl;
}

-- the values of the successor
pub second_read : (n : HeapNumbers) (es : List (Event FifoNote)) (id job at value : ℕ) → HasJob (run_heap n es) id job at
    → ReadsValue (run_heap n es) id 1 value → value ≡ at + 1
second_read n es id job at value j r =
    let both : Some r.node ≡ Some j.node = sym r.there ∙ j.there in
    let same : r.node ≡ j.node = cc in
    r.is (at + 1) (ap (λ (x : Node). x.second) same ∙ j.holds.position_is)

pub job_puts : (n : HeapNumbers) (s t : Seat FifoNote) (own : List (Event FifoNote)) (p : Puts s own t) → AllAllowed (FifoMay n) [] t.seen
    → (id job at : ℕ) → HasJob (heap_of n s) id job at → HasJob (heap_of n t) id job at
job_puts n s t own p all id job at j =
    subst (λ es. HasJob (run_heap n es) id job at) (sym p.is) (job_later n s.seen p.part id job at j (part_allowed (FifoMay n) s t own p all))

-- what the reads of the successor's two values say
pub record ReadsSuccessor (n : HeapNumbers) (head next read_job read_at : ℕ) (s b : Seat FifoNote) : Type 0 where
  pub before : Known n s.seen
  pub after : Known n b.seen
  pub nothing : Only [] s b
  pub job : ℕ
  pub holds : HasJob (heap_of n b) next job (position_of (heap_of n s) head)
  pub job_is : read_job ≡ job
  pub at_is : read_at ≡ position_of (heap_of n s) head + 1

pub successor_read : (n : HeapNumbers) (head : ℕ) (next : Hold) (read_job read_at : ℕ) (s a b : Seat FifoNote) → Known n s.seen → Known n b.seen
    → AllAllowed (FifoMay n) [] a.seen → HasLink (heap_of n s) head (link_to (id_in s.slots next)) → Only [] s a → Only [] a b
    → ReadsValue (heap_of n a) (id_in s.slots next) 0 read_job → ReadsValue (heap_of n b) (id_in a.slots next) 1 read_at
    → ReadsSuccessor n head (id_in s.slots next) read_job read_at s b
successor_read n head next read_job read_at s a b before after all link first second one two =
    let id = id_in s.slots next in
    let found = successor_job n s.seen head id before.holds link in
    let at = position_of (heap_of n s) head in
    let job_a = job_puts n s a [] first.puts all id found.0 at found.1 in
    let job_b = job_puts n a b [] second.puts after.all id found.0 at job_a in
    let same : id_in a.slots next ≡ id = ap (λ z. id_in z next) first.slots in
    record {
      before = before;
      after = after;
      nothing = Only-trans s a b [] [] first second;
      job = found.0;
      holds = job_b;
      job_is = job_read n a.seen id found.0 at read_job job_a one;
      at_is = second_read n b.seen id found.0 at read_at job_b (subst (λ (i : ℕ). ReadsValue (heap_of n b) i 1 read_at) same two);
    }

-- the swing of the head, after nothing of the pass's own
pub head_swung : (n : HeapNumbers) (s b t : Seat FifoNote) (head next : Bor Hold) (agent job at : ℕ) (done : Bool) → agent ≡ b.agent → Only [] s b
    → AllAllowed (FifoMay n) [] t.seen
    → Swings (AtRoot 0) (WantNode head false) (WantNode next false) (Some (Entry (Took agent job at))) b done t → done ≡ true
    → b.fresh ≢ Some (id_in b.slots next.now) → TakesJob 1 job at s t
head_swung n s b t head next agent job at true agent_is o all w is other =
    let p = Puts-trans s b t [] _ o.puts w.puts in
    record {
      piece = record {
        own = _;
        slots = w.slots ∙ o.slots;
        puts = p;
        entries_are = ap (λ (x : ℕ). Took x job at ∷ []) (agent_is ∙ o.puts.agent);
        no_give = refl;
        few =
            omega arith;
      };
      fresh = w.fresh ∙ (unless_other b.fresh (id_in b.slots next.now) other ∙ o.fresh);
    }
head_swung n s b t head next agent job at false agent_is o all w is other = cc

pub head_missed : (n : HeapNumbers) (s b t : Seat FifoNote) (head next : Bor Hold) (noted : Option FifoNote) (done : Bool) → Only [] s b
    → AllAllowed (FifoMay n) [] t.seen
    → Swings (AtRoot 0) (WantNode head false) (WantNode next false) noted b done t → done ≡ false
    → HasStopped n 1 (Root 0) (link_to (id_in s.slots head.now)) (λ own. ⊥) s t
head_missed n s b t head next noted true o all w is = cc
head_missed n s b t head next noted false o all w is =
    let p = Puts-trans s b t [] _ o.puts w.puts.puts in
    let same : id_in b.slots head.now ≡ id_in s.slots head.now = ap (λ z. id_in z head.now) o.slots in
    record {
      piece = record { own = _; slots = w.slots ∙ o.slots; puts = p; entries_are = refl; no_give = refl; few = omega arith };
      fresh = w.fresh ∙ o.fresh;
      moved = subst (λ (i : ℕ). shown (heap_of n s) (Root 0) ≡ Some (link_to i) → 1 ≤ moves_in p.part) same
          (miss_moved n (FifoMay n) (λ es x k. k.fits) s t (Root 0) (link_to (id_in b.slots head.now)) w.puts.found [] _ [] p refl all tt w.puts.other);
      own_moves = inl refl;
    }

-- over a piece a root still shows the link, or a Move stands in what is new
pub still_puts : (n : HeapNumbers) (s t : Seat FifoNote) (own : List (Event FifoNote)) (p : Puts s own t) → AllAllowed (FifoMay n) [] t.seen
    → (root : ℕ) (link : Link) → shown (heap_of n s) (Root root) ≡ Some link
    → (shown (heap_of n t) (Root root) ≡ Some link) ⊎ (1 ≤ moves_in p.part)
still_puts n s t own p all root link at =
    elim (shown_or_moved n (FifoMay n) (λ es x k. k.fits) (Root root) link s.seen p.part tt (part_allowed (FifoMay n) s t own p all) at) [
      | inl still ↦ inl (subst (λ es. shown (run_heap n es) (Root root) ≡ Some link) (sym p.is) still)
      | inr some ↦ inr some
    ]

-- the tail named the head: it was helped on
pub past_helped : (n : HeapNumbers) (head next : ℕ) (place : Place) (link : Link) (s a b : Seat FifoNote)
    (p : Puts s (event_of s (Look (Root 1) (link_to head)) None ∷ []) a) → AllAllowed (FifoMay n) [] a.seen → AllAllowed (FifoMay n) [] b.seen
    → a.slots ≡ s.slots → a.fresh ≡ s.fresh → Helps head next a b → HasStopped n 2 place link (HelpsPast s head next) s b
past_helped n head next place link s a b p all_a all_b slots fresh helped = elim helped.either [
  | inl moved ↦
      let act = Move (Root 1) (link_to head) (link_to next) in
      let q : Puts a (event_of s act (Some Swing) ∷ []) b =
      subst (λ (x : ℕ). Puts a (record { agent = x; act = act; note = Some Swing } ∷ []) b) p.agent moved in
      let j = join 2 s a b (event_of s (Look (Root 1) (link_to head)) None ∷ []) (event_of s act (Some Swing) ∷ []) [] p q
      (helped.slots ∙ slots) refl refl (omega arith) in
      record {
        piece = j.piece;
        fresh = helped.fresh ∙ fresh;
        moved = λ at. omega (arith, moves_own s.agent j.piece.puts.part, ap (λ (z : List (Event FifoNote)). moves_in z) (j.piece.puts.own_is ∙ j.own_is));
        own_moves = inr j.own_is;
      }
  | inr missed ↦
      let j = join 2 s a b (event_of s (Look (Root 1) (link_to head)) None ∷ []) _ [] p missed.puts (helped.slots ∙ slots) refl refl (omega arith) in
      let found = look_found n (FifoMay n) (λ es x k. k.fits) s a (Root 1) (link_to head) None [] [] p all_a tt in
      record {
        piece = j.piece;
        fresh = helped.fresh ∙ fresh;
        moved = λ at. elim found [
          | inl still ↦
              omega (
                arith,
                miss_moved n (FifoMay n) (λ es x k. k.fits) a b (Root 1) (link_to head) missed.found [] _ [] missed.puts refl all_b tt missed.other
                    still,
                moves_right s a b _ _ _ p missed.puts j.piece.puts,
              )
          | inr some ↦ omega (arith, some, moves_from_own s.agent p.part, moves_left s a b _ _ _ p missed.puts j.piece.puts)
        ];
        own_moves = inl (ap (λ (z : List (Event FifoNote)). moves_in z) j.own_is);
      }
]

-- the tail named another node: it has left the head
pub past_left : (n : HeapNumbers) (h : Hold) (s a : Seat FifoNote) → Known n s.seen → AllAllowed (FifoMay n) [] a.seen → a.slots ≡ s.slots
    → WasNamed (heap_of n s) 0 (id_in s.slots h) → Misses (Root 1) (link_to (id_in s.slots h)) s a → IsLeftBehind (heap_of n a) (id_in a.slots h)
past_left n h s a k all slots named miss =
    let head = id_in s.slots h in
    let e : Event FifoNote = event_of s (Miss (Root 1) (link_to head) miss.found) None in
    let m = Puts-stood (FifoMay n) s a [] e [] miss.puts all in
    let es = s.seen ++ m.before in
    let holds = holds_later n s.seen m.before k.holds m.first in
    let begun = begun_more s.seen m.before k.dummy.begun in
    let left = is_left n es head holds begun (named_later n s.seen m.before 0 head named m.first) (λ x. miss.other (some_same (sym m.here.fits.0 ∙ x))) in
    subst (λ z. IsLeftBehind (heap_of n a) (id_in z h)) (sym slots)
    (subst (λ z. IsLeftBehind (run_heap n z) head) (sym (miss.puts.is ∙ seen_is m)) (left_later n es (e ∷ m.later) head holds begun left (since m)))

-- and then the job was taken, or not
pub past_taken : (n : HeapNumbers) (head next : ℕ) (s a t : Seat FifoNote) (own : List (Event FifoNote)) (p : Puts s own a)
    → AllAllowed (FifoMay n) [] a.seen → a.slots ≡ s.slots → a.fresh ≡ s.fresh
    → entries_of own ≡ [] → gives_in own ≡ 0 → moves_in own ≡ 0 → length own ≤ 1 → (turn : TakeTurn) → TakesFrom n head a turn t
    → TakesFromHead n head next s turn t
past_taken n head next s a t own p all slots fresh no_entry no_give no_move one TakeOver l =
    let q = l.piece in
    let j = join 2 s a t own q.own [] p q.puts (q.slots ∙ slots)
    (noted-append entries_in own q.own ∙ (ap (λ z. z ++ entries_of q.own) no_entry ∙ q.entries_are))
    (omega (arith, gives_in-append own q.own, no_give, q.no_give)) (omega (arith, length-append own q.own, one, q.few)) in
    record {
      piece = j.piece;
      fresh = l.fresh ∙ fresh;
      moved = λ at. elim (still_puts n s a own p all 0 (link_to head) at) [
        | inl still ↦ omega (arith, l.moved still, moves_right s a t _ _ _ p q.puts j.piece.puts)
        | inr some ↦ omega (arith, some, moves_left s a t _ _ _ p q.puts j.piece.puts)
      ];
      own_moves = inl
          (ap (λ (z : List (Event FifoNote)). moves_in z) j.own_is
          ∙ elim l.own_moves [ inl none ↦ omega (arith, moves_in-append own q.own, no_move, none) | inr bad ↦ absurd bad ]);
    }
past_taken n head next s a t own p all slots fresh no_entry no_give no_move one TakeEmpty l = absurd l
past_taken n head next s a t own p all slots fresh no_entry no_give no_move one (TakeDone job at) l =
    let q = l.piece in
    let entries : entries_of (own ++ q.own) ≡ Took s.agent job at ∷ [] =
    noted-append entries_in own q.own ∙ (ap (λ z. z ++ entries_of q.own) no_entry ∙ (q.entries_are ∙ ap (λ (x : ℕ). Took x job at ∷ []) p.agent)) in
    let j = join 2 s a t own q.own (Took s.agent job at ∷ []) p q.puts (q.slots ∙ slots) entries
    (omega (arith, gives_in-append own q.own, no_give, q.no_give)) (omega (arith, length-append own q.own, one, q.few)) in
    record { piece = j.piece; fresh = l.fresh ∙ fresh }

-- the Took may come
pub took_may : (n : HeapNumbers) (s b : Seat FifoNote) (head next : Hold) (agent read_job read_at value : ℕ)
    → ReadsSuccessor n (id_in s.slots head) (id_in s.slots next) read_job value s b → read_at + 1 ≡ value → agent ≡ b.agent
    → IsLeftBehind (heap_of n s) (id_in s.slots head) → HasLink (heap_of n s) (id_in s.slots head) (link_to (id_in s.slots next))
    → AllowedLater (FifoMay n) n b.agent b.seen (Root 0) (link_to (id_in b.slots head))
    (event_of b (Move (Root 0) (link_to (id_in b.slots head)) (link_to (id_in b.slots next))) (Some (Entry (Took agent read_job read_at))))
took_may n s b head next agent read_job read_at value r value_is agent_is left link =
    let o = r.nothing in
    let h = id_in s.slots head in
    let x = id_in s.slots next in
    let at = position_of (heap_of n s) h in
    let at_is : read_at ≡ at = omega (arith, value_is, r.at_is) in
    let may = took_allowed n b.agent h x r.job at b.seen r.after.holds r.after.dummy.begun
    (left_puts n s b [] o.puts r.after.all h r.before left) (link_puts n s b [] o.puts r.after.all h x link) r.holds in
    let one = subst
    (λ (i : ℕ). AllowedLater (FifoMay n) n b.agent b.seen (Root 0) (link_to i)
    (event_of b (Move (Root 0) (link_to i) (link_to x)) (Some (Entry (Took b.agent r.job at))))) (sym (ap (λ z. id_in z head) o.slots)) may in
    let two = subst
    (λ (i : ℕ). AllowedLater (FifoMay n) n b.agent b.seen (Root 0) (link_to (id_in b.slots head))
    (event_of b (Move (Root 0) (link_to (id_in b.slots head)) (link_to i)) (Some (Entry (Took b.agent r.job at)))))
    (sym (ap (λ z. id_in z next) o.slots)) one in
    subst (λ (e : QueueEntry). AllowedLater (FifoMay n) n b.agent b.seen (Root 0) (link_to (id_in b.slots head))
    (event_of b (Move (Root 0) (link_to (id_in b.slots head)) (link_to (id_in b.slots next))) (Some (Entry e)))) (rw (agent_is, r.job_is, at_is) refl) two
