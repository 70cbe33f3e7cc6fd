-- Looks of the other roots are loads that enter nothing.
use Rattle.std.proofs.Common.{None, [], arith, refl, ℕ, ◌∷◌, ◌≡◌}
use Rattle.orc_heap.proofs.Moments.{looks_differ}
use Rattle.orc_heap.specs.Allowed.{AllAllowed}
use Rattle.orc_heap.specs.Calls.{Looks, event_of}
use Rattle.orc_heap.specs.Heap.{HeapNumbers}
use Rattle.orc_heap.specs.OwnEvents.{Puts}
use Rattle.orc_heap.specs.Seats.{Seat}
use Rattle.orc_heap.specs.declared.events.Act.TheVariants.{Look}
use Rattle.orc_heap.specs.declared.events.Link.{Link}
use Rattle.orc_heap.specs.declared.events.Place.TheVariants.{Root}
use Rattle.orc_heap.specs.declared.holds.Looked.TheVariants.{Moved, Stable}
use Rattle.orc_heap.specs.declared.holds.Seen.{Seen}
use Rattle.orc_ordered_search.proofs.Quiets.{silent_one, silent_two}
use Rattle.orc_ordered_search.specs.Searches.{FindsMoved, Quiet}
use Rattle.orc_split_rule.specs.SplitDiscipline.{SplitMay}
use Rattle.orc_split_rule.specs.declared.split.SplitNote.{SplitNote}
use Rattle.orc_split_set.specs.Beginnings.{Held}
use Rattle.orc_split_set.specs.SplitSearches.{split_reading}
use Rattle.orc_split_set.proofs.Ordered.{split_ordering}

abbrev pub one_look : (n : HeapNumbers) (root : ℕ) (s t : Seat SplitNote) (link : Link) → Puts s (event_of s (Look (Root root) link) None ∷ []) t
    → t.fresh ≡ s.fresh → Quiet (split_reading n) s (event_of s (Look (Root root) link) None ∷ []) t
one_look n root s t link puts fresh = record {
  puts = puts;
  fresh = fresh;
  loads = (tt, tt);
  some = omega arith;
  no_entries = silent_one (split_ordering n) s.agent (Look (Root root) link);
  no_give = refl;
  no_move = refl;
}

abbrev pub two_looks : (n : HeapNumbers) (root : ℕ) (s t : Seat SplitNote) (one two : Link)
    → Puts s (event_of s (Look (Root root) one) None ∷ event_of s (Look (Root root) two) None ∷ []) t → t.fresh ≡ s.fresh
    → Quiet (split_reading n) s (event_of s (Look (Root root) one) None ∷ event_of s (Look (Root root) two) None ∷ []) t
two_looks n root s t one two puts fresh = record {
  puts = puts;
  fresh = fresh;
  loads = (tt, (tt, tt));
  some = omega arith;
  no_entries = silent_two (split_ordering n) s.agent s.agent (Look (Root root) one) (Look (Root root) two);
  no_give = refl;
  no_move = refl;
}

-- a root that was null
pub null_held : (n : HeapNumbers) (s t : Seat SplitNote) (root : ℕ) (seen : Seen) → Looks (Root root) 2 s (Stable seen None) t → Held n s t
null_held n s t root seen looks =
    let (null, slots, puts) = looks.tells in
    let link : Link = record { to = None; mark = seen.mark } in
    record { own = event_of s (Look (Root root) link) None ∷ []; quiet = one_look n root s t link puts looks.fresh; slots = slots }

-- a root that moved meanwhile
pub look_moved : (n : HeapNumbers) (root : ℕ) (s t : Seat SplitNote) → Looks (Root root) 2 s Moved t → AllAllowed (SplitMay n) [] t.seen
    → FindsMoved (split_reading n) s t
look_moved n root s t looks all =
    let (one, two, other, slots, puts, some) = looks.tells in
    record {
      own = event_of s (Look (Root root) one) None ∷ event_of s (Look (Root root) two) None ∷ [];
      quiet = two_looks n root s t one two puts looks.fresh;
      slots = slots;
      moved = looks_differ n (SplitMay n) (λ es e may. may.fits) s t (Root root) one two puts all tt other;
    }
