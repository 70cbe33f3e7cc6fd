-- Loads before a turn's search are part of the turn.
use Rattle.std.proofs.Common.{List, None, Option, Some, [], arith, length-append, subst, sym, ℕ, ◌++◌, ◌∙◌, ◌∷◌, ◌≡◌, ◌≤◌, Bool}
use Rattle.orc_heap.proofs.Calls.{Puts-trans}
use Rattle.orc_heap.proofs.Moved.{gives_in-append, moves_in-append}
use Rattle.orc_heap.proofs.OwnEntries.{noted-append}
use Rattle.orc_heap.proofs.OwnParts.{moves_from_own-append}
use Rattle.orc_heap.proofs.Pieces.{new_is}
use Rattle.orc_heap.specs.Allowed.{AllAllowed}
use Rattle.orc_heap.specs.Hands.{HoldsId}
use Rattle.orc_heap.specs.Moves.{from_own, moves_in}
use Rattle.orc_heap.specs.OwnEvents.{Puts}
use Rattle.orc_heap.specs.Seats.{Seat}
use Rattle.orc_heap.specs.Slots.{Hold, Slots}
use Rattle.orc_heap.specs.declared.events.Event.{Event}
use Rattle.orc_history.specs.declared.set.SetEntry.{SetEntry}
use Rattle.orc_ordered_search.specs.Inserts.{InsertEnds, Inserts, IsToAdd, KeepsNode}
use Rattle.orc_ordered_search.specs.Reading.{Ordering, Reading}
use Rattle.orc_ordered_search.specs.Searches.{FindsMoved, Quiet}
use Rattle.orc_ordered_search.specs.Turns.{Answers, AreOver, Tires}
use Rattle.orc_ordered_search.specs.declared.turn.InsertTurn.{InsertTurn}
use Rattle.orc_ordered_search.specs.declared.turn.InsertTurn.TheVariants.{Answered, NoNode, Over, Spent}
use Rattle.orc_ordered_search.proofs.Linking.{holds_on, loads_leave}
use Rattle.orc_ordered_search.proofs.Making.{made_after}
use Rattle.orc_ordered_search.proofs.Seen.{loads-append}

pub quiet_trans : {N : Type 0} (r : Reading N) (s t u : Seat N) (own ys : List (Event N)) → Quiet r s own t → Quiet r t ys u → Quiet r s (own ++ ys) u
quiet_trans r s t u own ys a b = record {
  puts = Puts-trans s t u own ys a.puts b.puts;
  fresh = b.fresh ∙ a.fresh;
  loads = loads-append own ys a.loads b.loads;
  some = omega (arith, a.some, length-append own ys);
  no_entries = noted-append r.entries_in own ys ∙ rw a.no_entries b.no_entries;
  no_give = omega (arith, gives_in-append own ys, a.no_give, b.no_give);
  no_move = omega (arith, moves_in-append own ys, a.no_move, b.no_move);
}

-- a Move after an own event of the last of two pieces stands after one of the whole
moved_trans : {N : Type 0} (s t u : Seat N) (own ys : List (Event N)) (p : Puts s own t) (q : Puts t ys u) (w : Puts s (own ++ ys) u)
    → 1 ≤ moves_in (from_own t.agent q.part) → 1 ≤ moves_in (from_own s.agent w.part)
moved_trans s t u own ys p q w moved =
    let here : 1 ≤ moves_in (from_own s.agent q.part) = subst (λ (a : ℕ). 1 ≤ moves_in (from_own a q.part)) p.agent moved in
    rw (new_is s t u own ys (own ++ ys) p q w) (omega (arith, here, moves_from_own-append s.agent p.part q.part))

pub finds_after : {N : Type 0} (r : Reading N) (s t u : Seat N) (own : List (Event N)) → Quiet r s own t → t.slots ≡ s.slots → FindsMoved r t u → FindsMoved r s u
finds_after r s t u own q same f =
    let whole = quiet_trans r s t u own f.own q f.quiet in
    record {
      own = own ++ f.own;
      quiet = whole;
      slots = f.slots ∙ same;
      moved = moved_trans s t u own f.own q.puts f.quiet.puts whole.puts f.moved;
    }

module _ {N : Type 0} (r : Reading N) (s t u : Seat N) (own : List (Event N)) (q : Quiet r s own t) where
  pub over_after : (given : ℕ) (ys : List (Event N)) → AreOver r given 1 t ys u → AreOver r given 1 s (own ++ ys) u
  over_after given ys o =
      let m = made_after r given s t u own ys [] q o.made.puts o.made.entries_are o.made.gives in
      record {
        made = m;
        no_move = omega (arith, moves_in-append own ys, q.no_move, o.no_move);
        moved = moved_trans s t u own ys q.puts o.made.puts m.puts o.moved;
        none = λ bad. absurd (omega (arith, bad));
      }

  pub tires_after : t.slots ≡ s.slots → Tires r 1 t u → Tires r 1 s u
  tires_after same w = record {
    own = own ++ w.own;
    over = over_after 0 w.own w.over;
    loads = loads-append own w.own q.loads w.loads;
    slots = w.slots ∙ same;
    fresh = w.fresh ∙ q.fresh;
  }

  pub answers_after : (entry : SetEntry) → t.slots ≡ s.slots → Answers r t entry u → Answers r s entry u
  answers_after entry same a = record {
    own = own ++ a.own;
    made = made_after r 0 s t u own a.own (entry ∷ []) q a.made.puts a.made.entries_are a.made.gives;
    slots = a.slots ∙ same;
    fresh = a.fresh ∙ q.fresh;
  }

  ends_after : (slots : Slots) (node kept : Option Hold) (ys : List (Event N)) (es : List SetEntry) → InsertEnds r slots node kept t ys es u
      → InsertEnds r slots node kept s (own ++ ys) es u
  ends_after slots node kept ys es e = record {
    given = e.given;
    made = made_after r e.given s t u own ys es q e.made.puts e.made.entries_are e.made.gives;
    count = e.count;
    ends = e.ends;
  }

  pub inserts_after : (value kind : ℕ) (entry : Bool → SetEntry) (slots : Slots) (node kept : Option Hold) (turn : InsertTurn)
      → Inserts r value kind entry 1 slots node t turn kept u → Inserts r value kind entry 1 slots node s turn kept u
  inserts_after value kind entry slots node kept Over f = record {
    own = own ++ f.own;
    given = f.given;
    over = over_after f.given f.own f.over;
    count = f.count;
    keeps = f.keeps;
  }
  inserts_after value kind entry slots node kept (Answered answer passed) (ys, e) = (own ++ ys, ends_after slots node kept ys (entry answer ∷ []) e)
  inserts_after value kind entry slots node kept NoNode (ys, e) = (own ++ ys, ends_after slots node kept ys [] e)
  inserts_after value kind entry slots node kept (Spent why) (ys, e) = (own ++ ys, ends_after slots node kept ys [] e)

-- loads keep the node
pub keeps_after : {N : Type 0} (ord : Ordering N) (value kind : ℕ) (node : Option Hold) (slots : Slots) (s t : Seat N) (own : List (Event N))
    → KeepsNode ord.reading value kind node slots s → Quiet ord.reading s own t → t.slots ≡ s.slots → ord.holds s.seen → AllAllowed ord.may [] t.seen
    → KeepsNode ord.reading value kind node slots t
keeps_after ord value kind node slots s t own k q same holds all =
    record { id = k.id; slots_are = same ∙ k.slots_are; slot_is = k.slot_is; to_add = by node k.to_add }
  where
    by : (o : Option Hold) → IsToAdd ord.reading value kind o k.id s → IsToAdd ord.reading value kind o k.id t
    by None fresh = q.fresh ∙ fresh
    by (Some h) a = holds_on ord value kind h k.id s t own a q.puts (loads_leave k.id own q.loads) holds all
        (subst (λ (z : Slots). HoldsId z h k.id) (sym same) a.held) q.fresh
