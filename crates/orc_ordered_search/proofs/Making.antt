-- What the pass did in a turn, one piece after another.
use Rattle.std.proofs.Common.{List, None, [], append-nil, arith, inl, inr, length, refl, subst, sym, ℕ, ◌++◌, ◌+◌, ◌∙◌, ◌∷◌, ◌≡◌, ◌≤◌}
use Rattle.orc_heap.proofs.Calls.{Puts-trans}
use Rattle.orc_heap.proofs.Moments.{miss_moved}
use Rattle.orc_heap.proofs.Moved.{gives_in-append, moves_in-append}
use Rattle.orc_heap.proofs.OwnEntries.{noted-append}
use Rattle.orc_heap.proofs.OwnParts.{from_own-begun, moves_from_own-append}
use Rattle.orc_heap.proofs.Pieces.{new_is, own_moves_left, puts_released}
use Rattle.orc_heap.specs.Allowed.{AllAllowed}
use Rattle.orc_heap.specs.Calls.{Misses, event_of}
use Rattle.orc_heap.specs.Journals.{noted_entries}
use Rattle.orc_heap.specs.Moves.{IsLinkedPlace, ShowsOrMoved, from_own, gives_in, moves_in}
use Rattle.orc_heap.specs.OwnEvents.{Puts}
use Rattle.orc_heap.specs.Seats.{Seat, heap_of}
use Rattle.orc_heap.specs.declared.events.Act.TheVariants.{Miss}
use Rattle.orc_heap.specs.declared.events.Event.{Event}
use Rattle.orc_heap.specs.declared.events.Link.{Link}
use Rattle.orc_heap.specs.declared.events.Place.{Place}
use Rattle.orc_history.specs.declared.set.SetEntry.{SetEntry}
use Rattle.orc_ordered_search.specs.Reading.{Ordering, Reading}
use Rattle.orc_ordered_search.specs.Searches.{FindsMoved, Quiet}
use Rattle.orc_ordered_search.specs.Turns.{AreOver, Made, Tires}

-- what a search did, and more
pub made_after : {N : Type 0} (r : Reading N) (given : ℕ) (s t u : Seat N) (own ys : List (Event N)) (es : List SetEntry) → Quiet r s own t → Puts t ys u
    → noted_entries r.entries_in ys ≡ es → gives_in ys ≡ given → Made r given s (own ++ ys) es u
made_after r given s t u own ys es q p entries gives = record {
  puts = Puts-trans s t u own ys q.puts p;
  entries_are = noted-append r.entries_in own ys ∙ rw q.no_entries entries;
  gives = omega (arith, gives_in-append own ys, q.no_give, gives);
}

pub made_on : {N : Type 0} (r : Reading N) (given : ℕ) (s t u : Seat N) (own : List (Event N)) (es : List SetEntry) → Made r given s own es t → Puts t [] u
    → Made r given s own es u
made_on r given s t u own es m p = record { puts = puts_released s t u own m.puts p; entries_are = m.entries_are; gives = m.gives }

pub over_on : {N : Type 0} (r : Reading N) (given turns : ℕ) (s t u : Seat N) (own : List (Event N)) → AreOver r given turns s own t → Puts t [] u
    → AreOver r given turns s own u
over_on r given turns s t u own o p =
    let m = made_on r given s t u own [] o.made p in
    record { made = m; no_move = o.no_move; moved = omega (arith, o.moved, own_moves_left s t u own [] own o.made.puts p m.puts); none = o.none }

-- a turn that is over has an event
pub one_over : {N : Type 0} (r : Reading N) (given : ℕ) (s t : Seat N) (own : List (Event N)) (m : Made r given s own [] t) → moves_in own ≡ 0
    → 1 ≤ moves_in (from_own s.agent m.puts.part) → AreOver r given 1 s own t
one_over r given s t own m still moved = record { made = m; no_move = still; moved = moved; none = λ bad. absurd (omega (arith, bad)) }

-- a turn in which a link moved
pub found_over : {N : Type 0} (r : Reading N) (s t : Seat N) → FindsMoved r s t → Tires r 1 s t
found_over r s t f = record {
  own = f.own;
  over = one_over r 0 s t f.own (record { puts = f.quiet.puts; entries_are = f.quiet.no_entries; gives = f.quiet.no_give }) f.quiet.no_move f.moved;
  loads = f.quiet.loads;
  slots = f.slots;
  fresh = f.quiet.fresh;
}

-- a Miss of a link that the place had shown in this turn: a Move stands after an own event
pub missed : {N : Type 0} (ord : Ordering N) (s t u : Seat N) (own zs : List (Event N)) (place : Place) (link : Link) (p : Puts s own t) → 1 ≤ length own
    → ShowsOrMoved ord.reading.numbers place link s t p.part → IsLinkedPlace place (heap_of ord.reading.numbers t)
    → Misses place link t u → AllAllowed ord.may [] u.seen → (w : Puts s zs u) → 1 ≤ moves_in (from_own s.agent w.part)
missed {N} ord s t u own zs place link p some still linked m all w = elim still [
  | inl shows ↦
      let e : Event N = event_of t (Miss place link m.found) None in
      let moved = miss_moved ord.reading.numbers ord.may ord.owes.fits t u place link m.found [] e [] m.puts refl all linked m.other shows in
      let begun = from_own-begun s.agent p.part m.puts.part (rw p.own_is some) in
      rw (new_is s t u own (e ∷ []) zs p m.puts w, begun) (omega (arith, moved, moves_in-append (from_own s.agent p.part) m.puts.part))
  | inr before ↦ omega (arith, before, own_moves_left s t u own (event_of t (Miss place link m.found) None ∷ []) zs p m.puts w)
]

-- one turn after another

pub made_next : {N : Type 0} (r : Reading N) (one two turns : ℕ) (s t u : Seat N) (own ys : List (Event N)) (es : List SetEntry)
    → AreOver r one turns s own t → Made r two t ys es u → Made r (one + two) s (own ++ ys) es u
made_next r one two turns s t u own ys es o m = record {
  puts = Puts-trans s t u own ys o.made.puts m.puts;
  entries_are = noted-append r.entries_in own ys ∙ rw o.made.entries_are m.entries_are;
  gives = omega (arith, gives_in-append own ys, o.made.gives, m.gives);
}

pub over_none : {N : Type 0} (r : Reading N) (s : Seat N) → AreOver r 0 0 s [] s
over_none r s = record {
  made = record {
    puts = record { part = []; is = sym (append-nil s.seen); agent = refl; own_is = refl };
    entries_are = refl;
    gives = refl;
  };
  no_move = refl;
  moved = omega arith;
  none = λ zero. refl;
}

pub over_next : {N : Type 0} (r : Reading N) (one two turns : ℕ) (s t u : Seat N) (own ys : List (Event N)) → AreOver r one turns s own t
    → AreOver r two 1 t ys u → AreOver r (one + two) (turns + 1) s (own ++ ys) u
over_next r one two turns s t u own ys o q =
    let m = made_next r one two turns s t u own ys [] o q.made in
    record {
      made = m;
      no_move = omega (arith, moves_in-append own ys, o.no_move, q.no_move);
      moved = moved m.puts;
      none = λ bad. absurd (omega (arith, bad));
    }
  where
    moved : (w : Puts s (own ++ ys) u) → turns + 1 ≤ moves_in (from_own s.agent w.part)
    moved w =
        let here : 1 ≤ moves_in (from_own s.agent q.made.puts.part) =
        subst (λ (a : ℕ). 1 ≤ moves_in (from_own a q.made.puts.part)) o.made.puts.agent q.moved in
        rw (new_is s t u own ys (own ++ ys) o.made.puts q.made.puts w)
        (omega (arith, o.moved, here, moves_from_own-append s.agent o.made.puts.part q.made.puts.part))
