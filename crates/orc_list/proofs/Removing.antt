-- A key is taken out at the node that a search found.
use Rattle.std.proofs.lemmas.List.{length-append}
use Rattle.std.proofs.lemmas.List.Elements.{filter-append}
use Rattle.std.specs.Prelude.{filter}
use Rattle.std.proofs.Common.{Bool, List, None, Option, Some, [], ap, append-nil, append_assoc, arith, false, inl, inr, refl, subst, sym, true, ℕ, ◌%◌, ◌++◌, ◌∙◌, ◌∷◌, ◌≡◌, ◌≢◌, ◌≤◌, length, ◌⊎◌}
use Rattle.std.specs.List.{Contains}
use Rattle.orc_heap.proofs.Calls.{Puts-trans, part_allowed}
use Rattle.orc_heap.proofs.Moved.{moves_in-append}
use Rattle.orc_heap.proofs.OwnParts.{from_own-begun, from_own-others, own_is_all, own_left, own_right, quiet_not_alone}
use Rattle.orc_heap.proofs.Pieces.{new_is, puts_released}
use Rattle.orc_heap.proofs.Runs.{run_heap-snoc}
use Rattle.orc_heap.proofs.SingleActs.{some_same}
use Rattle.orc_heap.specs.Allowed.{AllAllowed, HasLink, events_by}
use Rattle.orc_heap.specs.Calls.{event_of, links_made}
use Rattle.orc_heap.specs.Heap.{Heap, HeapNumbers, link_to, shown}
use Rattle.orc_heap.specs.Journals.{points_to, run_heap}
use Rattle.orc_heap.specs.Moves.{AllOwn, from_own, moves_in}
use Rattle.orc_heap.specs.OwnEvents.{Puts}
use Rattle.orc_heap.specs.Seats.{Seat, heap_of}
use Rattle.orc_heap.specs.Slots.{Hold}
use Rattle.orc_heap.specs.declared.events.Act.TheVariants.{Miss, Move}
use Rattle.orc_heap.specs.declared.events.Event.{Event}
use Rattle.orc_heap.specs.declared.events.Link.{Link}
use Rattle.orc_heap.specs.declared.events.Place.{Place}
use Rattle.orc_heap.specs.declared.events.Place.TheVariants.{Next}
use Rattle.orc_history.specs.declared.set.SetEntry.TheVariants.{Removed}
use Rattle.orc_chain_rule.proofs.Later.{run_later}
use Rattle.orc_chain_rule.proofs.Leaving.{unlinked_off}
use Rattle.orc_chain_rule.specs.declared.chain.ChainNote.{ChainNote}
use Rattle.orc_chain_rule.specs.declared.chain.ChainNote.TheVariants.{Entry, Unlink}
use Rattle.orc_ordered_chains.specs.Chains.{IsRun, link_over}
use Rattle.orc_chain_rule.specs.ChainDiscipline.{ChainHolds, ChainMay, FollowsOn, HasKey, IsOnNoChain}
use Rattle.orc_chain_rule.specs.Laws.Kept.{chain_keeps}
use Rattle.orc_ordered_chains.proofs.Acts.{move_moves}
use Rattle.orc_chain_rule.specs.Laws.Kinds.{key_one}
use Rattle.orc_ordered_search.specs.Searches.{AllGone, FindsPresent, Quiet, left_place, node_of, run_head}
use Rattle.orc_list.specs.Inserts.{SeesAbsent}
use Rattle.orc_list.specs.Searches.{list_reading}
use Rattle.orc_list.specs.Stops.{MarkStops}
use Rattle.orc_list.specs.Turns.{LeavesOff, StopsBefore, TakesOff}
use Rattle.orc_ordered_search.specs.Turns.{HasManyLinks, Marks, TakesNode, Tires, made_from}
use Rattle.orc_ordered_search.proofs.Removing.{marked_at, marked_link, removes_missed, run_from}
use Rattle.orc_ordered_search.proofs.Making.{made_after, made_on}
use Rattle.orc_ordered_search.proofs.Seen.{sees_left, sees_run_left}
use Rattle.orc_ordered_search.proofs.Since.{made_is}
use Rattle.orc_ordered_search.proofs.Stepping.{run_snoc}
use Rattle.orc_list.proofs.Ordered.{list_ordering}
use Rattle.orc_list.proofs.Tiring.{takes_right}

-- where the pass was alone, its own events are all that is new
alone_exact : (s t y : Seat ChainNote) (own ys zs : List (Event ChainNote)) (q : Puts s own t) (p : Puts t ys y) (w : Puts s zs y) → 1 ≤ length own
    → AllOwn s.agent (from_own s.agent w.part)
    → (AllOwn s.agent (from_own s.agent q.part)) × (p.part ≡ ys)
alone_exact s t y own ys zs q p w some alone =
    let begun = from_own-begun s.agent q.part p.part (rw q.own_is some) in
    let whole : AllOwn s.agent (from_own s.agent q.part ++ p.part) = subst (λ z. AllOwn s.agent z)
    (ap (λ z. from_own s.agent z) (new_is s t y own ys zs q p w) ∙ begun) alone in
    let last : events_by s.agent p.part ≡ ys = subst (λ (a : ℕ). events_by a p.part ≡ ys) q.agent p.own_is in (
      own_left s.agent (from_own s.agent q.part) p.part whole,
      sym (own_is_all s.agent p.part (own_right s.agent (from_own s.agent q.part) p.part whole)) ∙
          last,
    )

-- a Move of others stands after an own event, so there is one
some_own : (agent : ℕ) (part own : List (Event ChainNote)) → events_by agent part ≡ own → 1 ≤ moves_in (from_own agent part) → 1 ≤ length own
some_own agent part [] is moved =
    absurd (omega (arith, moved, ap (λ es. moves_in (from_own agent es)) (sym (append-nil part)), ap (λ es. moves_in es) (from_own-others agent part [] is)))
some_own agent part (e ∷ es) is moved = omega arith

-- a turn that is over
pub tires_stops : (n : HeapNumbers) (key : ℕ) (s y : Seat ChainNote) → Tires (list_reading n) 1 s y → MarkStops n key s false y
tires_stops n key s y a =
    let o = a.over in
    let p = o.made.puts in
    record {
      own = a.own;
      puts = p;
      slots = a.slots;
      fresh = a.fresh;
      some = some_own s.agent p.part a.own p.own_is o.moved;
      entries_are = o.made.entries_are;
      moves = o.no_move;
      absent = λ is alone. absurd (quiet_not_alone s.agent p.part a.own p.own_is o.no_move o.moved alone);
    }

-- a search alone, that let all go
pub quiet_stops : (n : HeapNumbers) (key : ℕ) (s t y : Seat ChainNote) (own : List (Event ChainNote)) → Quiet (list_reading n) s own t → Puts t [] y
    → y.slots ≡ s.slots → y.fresh ≡ t.fresh
    → ((w : Puts s own y) → AllOwn s.agent (from_own s.agent w.part) → SeesAbsent n key own y) → MarkStops n key s false y
quiet_stops n key s t y own q p slots fresh absent = record {
  own = own;
  puts = puts_released s t y own q.puts p;
  slots = slots;
  fresh = fresh ∙ q.fresh;
  some = q.some;
  entries_are = q.no_entries;
  moves = q.no_move;
  absent = λ is. absent (puts_released s t y own q.puts p);
}

-- links that were made stay made
links_stay : (es fs : List (Event ChainNote)) (id : ℕ) → 32 ≤ links_made es id → 32 ≤ links_made (es ++ fs) id
links_stay es fs id many =
    let points : Event ChainNote → Bool = λ e. points_to e.act id in
    omega (arith, many, ap length (filter-append points es fs), length-append (filter points es) (filter points fs))

left_apart : (n : HeapNumbers) (t : Seat ChainNote) (key id : ℕ) (left : Option Hold) (left_id : ℕ)
    → FollowsOn n.roots (heap_of n t) (left_place (key % n.roots) left left_id) key → HasKey (heap_of n t) id key → left_place (key % n.roots) left left_id
    ≢ Next id
left_apart n t key id None left_id f own = λ e. cc
left_apart n t key id (Some h) left_id (low, mine, less, same) own = λ e.
    let is : left_id ≡ id = cc in
    omega (arith, key_one (heap_of n t) id low key (subst (λ (z : ℕ). HasKey (heap_of n t) z low) is mine) own, less)

module _ {n : HeapNumbers} {start : Place} {key passed : ℕ} {left first : Option Hold} {node : Hold} {next : Option Hold} {s t : Seat ChainNote}
    (f : FindsPresent (list_reading n) start key passed left first node next s t) where
  abbrev to : Option ℕ
  to = node_of next f.next_id

  abbrev marked : Link
  marked = record { to = node_of next f.next_id; mark = true }

  abbrev place : Place
  place = left_place (key % n.roots) left f.left_id

  abbrev head : ℕ
  head = run_head first f.first_id f.id

  abbrev over : List ℕ
  over = f.behind.leads.over ++ f.id ∷ []

  from_head : f.behind.leads.from ≡ link_to (run_head first f.first_id f.id)
  from_head = (run_from (list_ordering n) f).from_is

  abbrev mark : Event ChainNote
  mark = event_of t (Move (Next f.id) (link_over (node_of next f.next_id)) (record { to = node_of next f.next_id; mark = true }))
      (Some (Entry (Removed t.agent key true)))

  -- a remove that stops there
  pub mark_stops : (done : Bool) (u y : Seat ChainNote) → Marks (Entry (Removed t.agent key true)) f.id (node_of next f.next_id) t done u → AllGone s.slots u y
      → AllAllowed (ChainMay n) [] u.seen → MarkStops n key s done y
  mark_stops true u y m g all =
      let q = f.behind.quiet in
      let made = made_on (list_reading n) 0 s u y (f.own ++ mark ∷ []) (Removed s.agent key true ∷ []) (made_after (list_reading n) 0 s t u f.own (mark ∷ [])
      (Removed s.agent key true ∷ []) q m.puts (ap (λ (a : ℕ). Removed a key true ∷ []) q.puts.agent) refl) g.puts in
      record {
        own = f.own ++ mark ∷ [];
        puts = made.puts;
        slots = g.slots_are;
        fresh = g.fresh ∙ (m.fresh ∙ q.fresh);
        some = omega (arith, length-append f.own (mark ∷ []));
        entries_are = made.entries_are;
        moves = (
          omega (arith, moves_in-append f.own (mark ∷ []), q.no_move),
          f.id,
          takes_right f.own (mark ∷ []) key f.id (inl (link_over to, marked, refl, refl)),
        );
        absent = λ is. cc;
      }
  mark_stops false u y m g all = tires_stops n key s y (removes_missed (list_ordering n) f (Entry (Removed t.agent key true)) u y m g all).0

  -- where the pass was alone: what it saw, and that the place showed its link when the node was marked
  record Alone (ys : List (Event ChainNote)) (y : Seat ChainNote) : Type 0 where
    seen_is : y.seen ≡ t.seen ++ mark ∷ ys
    all : AllAllowed (ChainMay n) t.seen (mark ∷ ys)
    shows : shown (run_heap n (t.seen ++ mark ∷ [])) place ≡ Some f.behind.leads.from

  alone_at : (ys zs : List (Event ChainNote)) (y : Seat ChainNote) → Puts t (mark ∷ ys) y → (w : Puts s zs y)
      → AllOwn s.agent (from_own s.agent w.part) → AllAllowed (ChainMay n) [] y.seen → Alone ys y
  alone_at ys zs y p w alone all_y =
      let q = f.behind.quiet in
      let l = f.behind.leads in
      let (first_alone, exact) = alone_exact s t y f.own (mark ∷ ys) zs q.puts p w q.some alone in
      let all : AllAllowed (ChainMay n) t.seen (mark ∷ ys) = subst (λ z. AllAllowed (ChainMay n) t.seen z) exact
      (part_allowed (ChainMay n) t y (mark ∷ ys) p all_y) in
      record {
        seen_is = p.is ∙ ap (λ z. t.seen ++ z) exact;
        all = all;
        shows = elim l.still [
          | inl shows ↦
              let m = move_moves t.agent (Next f.id) (link_over to) marked (heap_of n t) all.0.fits in
              rw (run_heap-snoc n t.seen mark) (m.others place (left_apart n t key f.id left f.left_id l.below f.is_of.has_key) ∙ shows)
          | inr moved ↦ absurd (quiet_not_alone s.agent q.puts.part f.own q.puts.own_is q.no_move moved first_alone)
        ];
      }

  -- then the Unlink leaves the node and the run before it off the chain
  off_chain : (agent : ℕ) (y : Seat ChainNote) (holds : ChainHolds n t.seen)
      → (a : Alone (record { agent = agent; act = Move place (link_to head) (link_over to); note = Some Unlink } ∷ []) y)
      → (x : ℕ) → Contains over x → IsOnNoChain (heap_of n y) x
  off_chain agent y holds a x among =
      let e : Event ChainNote = record { agent = agent; act = Move place (link_to head) (link_over to); note = Some Unlink } in
      let l = f.behind.leads in
      let es : List (Event ChainNote) = t.seen ++ mark ∷ [] in
      let first = a.all.0 in
      let own_link = marked_at (list_ordering n) t.seen mark f.id key (link_over to) marked refl first f.is_of.has_key in
      let run = run_snoc (run_heap n es) l.from l.over f.id marked (run_later n t.seen (mark ∷ []) l.from l.over (Some f.id) l.run (first, tt)) own_link
      refl in
      let run_head_is : IsRun (run_heap n es) (link_to head) over to = subst (λ (z : Link). IsRun (run_heap n es) z over to) from_head run in
      let off = unlinked_off n agent place (link_to head) over to x es (chain_keeps n t.seen mark holds first) a.all.1.0 run_head_is among in
      subst (λ z. IsOnNoChain (run_heap n z) x) (append_assoc t.seen (mark ∷ []) (e ∷ []) ∙ sym a.seen_is) off

  leaves : (ys : List (Event ChainNote)) (h : Heap) → ((x : ℕ) → Contains over x → IsOnNoChain h x) → LeavesOff key (f.own ++ mark ∷ ys) h
  leaves ys h off =
      let l = f.behind.leads in
      record {
        id = f.id;
        takes = takes_right f.own (mark ∷ ys) key f.id (inl (link_over to, marked, refl, refl));
        place = place;
        from = l.from;
        plain = l.plain;
        sees = sees_left f.own (mark ∷ ys) place l.from l.sees;
        over = l.over;
        sees_run = sees_run_left f.own (mark ∷ ys) l.from l.over (Some f.id) l.sees_run;
        off = off;
      }

  -- the marked node leads to the one behind the run, and the links that were made to that one stay made
  stops : (v y : Seat ChainNote) → Puts t (mark ∷ []) y → Puts v [] y → HasManyLinks to v.seen → AllAllowed (ChainMay n) [] y.seen
      → StopsBefore key (f.own ++ mark ∷ []) (heap_of n y) y.seen
  stops v y p q many all = record {
    id = f.id;
    takes = takes_right f.own (mark ∷ []) key f.id (inl (link_over to, marked, refl, refl));
    next = many.0;
    leads = subst (λ (o : Option ℕ). HasLink (heap_of n y) f.id (record { to = o; mark = true })) many.1
        (marked_link (list_ordering n) t y f.id key (link_over to) marked _ p all f.is_of.has_key refl);
    many = subst (λ (z : List (Event ChainNote)). 32 ≤ links_made z many.0) (sym q.is) (links_stay v.seen q.part many.0 many.2);
  }

  pub removes_off : (Worn : Type 0) (y : Seat ChainNote)
      → TakesNode (Entry (Removed t.agent key true)) Unlink (left_place (key % n.roots) left f.left_id) (run_head first f.first_id f.id) f.id
      (node_of next f.next_id) Worn s.slots t y → ChainHolds n t.seen → AllAllowed (ChainMay n) [] y.seen → TakesOff n key Worn s y
  removes_off Worn y k holds all_y = λ w alone.
      let q = f.behind.quiet in
      let u = k.marked in
      let v = k.tried in
      let m = k.marks in
      let g = k.gone in
      let off : List (Event ChainNote) → Type 0 = λ z. LeavesOff key z (heap_of n y) ⊎ (Worn × StopsBefore key z (heap_of n y) y.seen) in
      elim k.tries.either [
        | inl swung ↦ elim swung [
          | inl p ↦
              let e : Event ChainNote = event_of u (Move place (link_to head) (link_over to)) (Some Unlink) in
              let since = puts_released t v y (mark ∷ e ∷ []) (Puts-trans t u v (mark ∷ []) (e ∷ []) m.puts p) g.puts in
              subst off (sym (made_is s y (f.own ++ mark ∷ e ∷ []) (Puts-trans s t y f.own (mark ∷ e ∷ []) q.puts since)))
              (inl (leaves (e ∷ []) (heap_of n y) (off_chain u.agent y holds (alone_at (e ∷ []) (made_from s y) y since w alone all_y))))
          | inr miss ↦
              let e : Event ChainNote = event_of u (Miss place (link_to head) miss.found) None in
              let since = puts_released t v y (mark ∷ e ∷ []) (Puts-trans t u v (mark ∷ []) (e ∷ []) m.puts miss.puts) g.puts in
              let a = alone_at (e ∷ []) (made_from s y) y since w alone all_y in
              let found : miss.found ≡ f.behind.leads.from = some_same (sym a.all.1.0.fits.0 ∙ a.shows) in
              absurd (miss.other (found ∙ from_head))
        ]
        | inr worn ↦
            let since = puts_released t v y (mark ∷ []) (puts_released t u v (mark ∷ []) m.puts worn.2) g.puts in
            subst off (sym (made_is s y (f.own ++ mark ∷ []) (Puts-trans s t y f.own (mark ∷ []) q.puts since)))
            (inr (worn.0, stops v y since g.puts worn.1 all_y))
      ]
