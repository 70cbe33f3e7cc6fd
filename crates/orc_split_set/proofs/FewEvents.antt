-- Few events, one part of a call after another.
use Rattle.std.proofs.Common.{Bool, Err, List, None, Ok, Option, Result, Some, [], false, suc, true, zero, ap, append-nil, arith, length, length-append, refl, subst, sym, ℕ, ◌*◌, ◌++◌, ◌+◌, ◌^◌, ◌/◌, ◌∙◌, ◌≡◌, ◌≤◌}
use Rattle.std.proofs.Math.Bridge.{le_prop}
use Rattle.std.proofs.Math.Logic.{∥∥₁_elim}
use Rattle.std.proofs.Math.Nat.{add-mul}
use Rattle.std.specs.Prelude.{IfErr, IfOk}
use mathlib.Core.List.{IsPrefix}
use Rattle.orc_heap.proofs.InJournal.{own_after}
use Rattle.orc_heap.proofs.Moved.{gives_in-append}
use Rattle.orc_heap.specs.Allowed.{events_by}
use Rattle.orc_fault.specs.declared.Spent.{Spent as SpentRow}
use Rattle.orc_heap.specs.Calls.{Looks, Swings}
use Rattle.orc_heap.specs.Moves.{gives_in}
use Rattle.orc_heap.specs.OwnEvents.{Only, Puts}
use Rattle.orc_heap.specs.Seats.{Seat}
use Rattle.orc_heap.specs.Slots.{Hold, Slots}
use Rattle.orc_heap.specs.declared.events.Event.{Event}
use Rattle.orc_heap.specs.declared.events.Place.{Place}
use Rattle.orc_heap.specs.declared.holds.At.{At}
use Rattle.orc_heap.specs.declared.holds.Looked.{Looked}
use Rattle.orc_heap.specs.declared.holds.Looked.TheVariants.{Moved, Stable}
use Rattle.orc_heap.specs.declared.holds.Want.{Want}
use Rattle.orc_history.specs.declared.set.ListRefused.{ListRefused}
use Rattle.orc_history.specs.declared.set.SetEntry.{SetEntry}
use Rattle.orc_ordered_search.proofs.Seen.{covers_left, covers_right}
use Rattle.orc_ordered_search.proofs.Since.{made_is, made_still, made_trans}
use Rattle.orc_ordered_search.proofs.Making.{over_none}
use Rattle.orc_ordered_search.proofs.Settling.{insert_did}
use Rattle.orc_ordered_search.specs.Inserts.{InsertAnswers, Inserts}
use Rattle.orc_ordered_search.specs.Reading.{Reading}
use Rattle.orc_ordered_search.specs.Turns.{AnswersTurn, made_from}
use Rattle.orc_ordered_search.specs.Ways.{CoversLooks, IsFew}
use Rattle.orc_ordered_search.specs.declared.turn.InsertTurn.{InsertTurn}
use Rattle.orc_ordered_search.specs.declared.turn.InsertTurn.TheVariants.{Answered, NoNode, Over, Spent}
use Rattle.orc_split_rule.specs.SplitDiscipline.{IsSize}
use Rattle.orc_split_rule.specs.declared.split.SplitNote.{SplitNote}
use Rattle.orc_split_set.specs.FewEvents.{AreFewBySearch, MadeFewBySearch}
use Rattle.orc_split_set.proofs.Sizing.{made_most}

-- what an agent's pass put, by what it saw
pub puts_new : (s t : Seat SplitNote) → t.agent ≡ s.agent → (g : IsPrefix s.seen t.seen) → Puts s (events_by s.agent g.0) t
puts_new s t same (part, is) = record { part = part; is = sym is; agent = same; own_is = refl }

-- so many events in all
pub few_most : (each searches most : ℕ) (s t : Seat SplitNote) → t.agent ≡ s.agent → IsPrefix s.seen t.seen
    → length (events_by t.agent t.seen) ≤ length (events_by s.agent s.seen) + most → MadeFewBySearch each searches most s t
few_most each searches most s t same g low =
    let own = events_by s.agent g.0 in
    let p = puts_new s t same g in
    let count : length (made_from s t) ≤ most = omega (
      arith,
      low,
      ap (λ z. length z) (made_is s t own p),
      ap (λ z. length z) (own_after s t own p),
      length-append (events_by s.agent s.seen) own,
    ) in
    (same, λ ids c. omega (arith, count))

-- by what a search made that began at this seat, or at one that had seen as much
pub few_search : (most : ℕ) (s t u : Seat SplitNote) → t.seen ≡ s.seen → t.agent ≡ s.agent → u.agent ≡ s.agent → IsFew most (made_from s u)
    → MadeFewBySearch most 1 0 t u
few_search most s t u seen agent last few =
    let same : made_from t u ≡ made_from s u = rw (seen, agent) refl in
    (last ∙ sym agent, λ ids c. omega (arith, ap (λ z. length z) same, few ids (subst (λ z. CoversLooks ids z) same c)))

-- one part after another
pub few_parts : (each a b more fewer : ℕ) (s t u : Seat SplitNote) → IsPrefix s.seen t.seen → IsPrefix t.seen u.seen → MadeFewBySearch each a more s t
    → MadeFewBySearch each b fewer t u → MadeFewBySearch each (a + b) (more + fewer) s u
few_parts each a b more fewer s t u one two x y =
    let es = made_from s t in
    let fs = made_from t u in
    let is : made_from s u ≡ es ++ fs = made_trans s t u _ _ (puts_new s t x.0 one) (puts_new t u y.0 two) in (
      y.0 ∙ x.0,
      λ ids c.
          let covers = subst (λ z. CoversLooks ids z) is c in
          let first = x.1 ids (covers_left ids es fs covers) in
          let second = y.1 ids (covers_right ids es fs covers) in
          omega (arith, first, second, ap (λ z. length z) is, length-append es fs, add-mul a b (2 * length ids + each)),
    )

-- no part
pub few_start : (each : ℕ) (s : Seat SplitNote) → MadeFewBySearch each 0 0 s s
few_start each s = few_most each 0 0 s s refl ([], append-nil s.seen) (omega arith)

-- as many at the most
pub few_wider : (each a b more most : ℕ) (s t : Seat SplitNote) → a ≤ b → more ≤ most → MadeFewBySearch each a more s t → MadeFewBySearch each b most s t
few_wider each a b more most s t low less x = (x.0, λ ids c. omega (arith, x.1 ids c, less, grows (2 * length ids + each)))
  where
    grows : (y : ℕ) → a * y ≤ b * y
    grows y = grind (arith)

-- what a search made, where so many events stand before it
pub few_begun : (least most each more : ℕ) (s t u : Seat SplitNote) → t.agent ≡ s.agent → IsPrefix s.seen t.seen → IsPrefix t.seen u.seen
    → length (events_by t.agent t.seen) ≤ length (events_by s.agent s.seen) + most → MadeFewBySearch least 1 more t u → most + least ≤ each
    → MadeFewBySearch each 1 more s u
few_begun least most each more s t u same one two low x fits =
    let k = few_parts least 0 1 most more s t u one two (few_most least 0 most s t same one low) x in
    (k.0, λ ids c. omega (arith, k.1 ids c, fits))

-- so few that they are those of one search
pub few_short : (each most more : ℕ) (s t : Seat SplitNote) → t.agent ≡ s.agent → IsPrefix s.seen t.seen
    → length (events_by t.agent t.seen) ≤ length (events_by s.agent s.seen) + most → most ≤ each + more → MadeFewBySearch each 1 more s t
few_short each most more s t same g low fits =
    let k = few_most each 0 most s t same g low in
    (k.0, λ ids c. omega (arith, k.1 ids c, fits))

-- where so many events stand after it
pub few_ended : (each more most : ℕ) (s t u : Seat SplitNote) → IsPrefix s.seen t.seen → u.agent ≡ t.agent → IsPrefix t.seen u.seen
    → length (events_by u.agent u.seen) ≤ length (events_by t.agent t.seen) + most → MadeFewBySearch each 1 more s t
    → MadeFewBySearch each 1 (more + most) s u
few_ended each more most s t u one same two low x = few_parts each 1 0 more most s t u one two x (few_most each 0 most t u same two low)

-- and three for each node that was given in it
pub few_giving : (each a b : ℕ) (s t u : Seat SplitNote) → IsPrefix s.seen t.seen → IsPrefix t.seen u.seen
    → MadeFewBySearch each a (3 * gives_in (made_from s t)) s t → MadeFewBySearch each b (3 * gives_in (made_from t u)) t u
    → MadeFewBySearch each (a + b) (3 * gives_in (made_from s u)) s u
few_giving each a b s t u one two x y =
    let is : made_from s u ≡ made_from s t ++ made_from t u = made_trans s t u _ _ (puts_new s t x.0 one) (puts_new t u y.0 two) in
    let both = gives_in-append (made_from s t) (made_from t u) in
    few_wider each (a + b) (a + b) (3 * gives_in (made_from s t) + 3 * gives_in (made_from t u)) (3 * gives_in (made_from s u)) s u (omega arith)
    (omega (arith, ap gives_in is, both)) (few_parts each a b _ _ s t u one two x y)

-- and none after it
pub few_still : (each a more : ℕ) (s t u : Seat SplitNote) → IsPrefix s.seen t.seen → Puts t [] u → MadeFewBySearch each a more s t
    → MadeFewBySearch each a more s u
few_still each a more s t u one p x =
    let is : made_from s u ≡ made_from s t = made_still s t u _ (puts_new s t x.0 one) p in
    (p.agent ∙ x.0, λ ids c. omega (arith, ap (λ z. length z) is, x.1 ids (subst (λ z. CoversLooks ids z) is c)))

-- of a search that began at a seat which had seen as much
pub few_since : (each a more : ℕ) (s t u : Seat SplitNote) → t.seen ≡ s.seen → t.agent ≡ s.agent → MadeFewBySearch each a more s u
    → MadeFewBySearch each a more t u
few_since each a more s t u seen agent x =
    let same : made_from t u ≡ made_from s u = rw (seen, agent) refl in
    (x.0 ∙ sym agent, λ ids c. omega (arith, ap (λ z. length z) same, x.1 ids (subst (λ z. CoversLooks ids z) same c)))

-- a turn of an insert that began at such a seat
pub few_given : (s t u : Seat SplitNote) → t.seen ≡ s.seen → t.agent ≡ s.agent → u.agent ≡ s.agent
    → IsFew (4 + 3 * gives_in (made_from s u)) (made_from s u) → MadeFewBySearch 4 1 (3 * gives_in (made_from t u)) t u
few_given s t u seen agent last few =
    let same : made_from t u ≡ made_from s u = rw (seen, agent) refl in (
      last ∙ sym agent,
      λ ids c. omega (arith, ap (λ z. length z) same, ap gives_in same, few ids (subst (λ z. CoversLooks ids z) same c)),
    )

-- and what stands before it
pub few_begun_giving : (most each : ℕ) (s t u : Seat SplitNote) → t.agent ≡ s.agent → IsPrefix s.seen t.seen → IsPrefix t.seen u.seen
    → length (events_by t.agent t.seen) ≤ length (events_by s.agent s.seen) + most → MadeFewBySearch 4 1 (3 * gives_in (made_from t u)) t u
    → most + 4 ≤ each → MadeFewBySearch each 1 (3 * gives_in (made_from s u)) s u
few_begun_giving most each s t u same one two low x fits =
    let is : made_from s u ≡ made_from s t ++ made_from t u = made_trans s t u _ _ (puts_new s t same one) (puts_new t u x.0 two) in
    few_wider each 1 1 (3 * gives_in (made_from t u)) (3 * gives_in (made_from s u)) s u (omega arith)
    (omega (arith, ap gives_in is, gives_in-append (made_from s t) (made_from t u)))
    (few_begun 4 most each (3 * gives_in (made_from t u)) s t u same one two low x fits)

pub few_still_giving : (each a : ℕ) (s t u : Seat SplitNote) → IsPrefix s.seen t.seen → Puts t [] u
    → MadeFewBySearch each a (3 * gives_in (made_from s t)) s t → MadeFewBySearch each a (3 * gives_in (made_from s u)) s u
few_still_giving each a s t u one p x =
    let is : made_from s u ≡ made_from s t = made_still s t u _ (puts_new s t x.0 one) p in
    few_wider each a a _ _ s u (omega arith) (omega (arith, ap gives_in is)) (few_still each a _ s t u one p x)

-- a search after which a dummy that was given to it was tried
pub few_dummy : (s u : Seat SplitNote) → u.agent ≡ s.agent → IsFew 7 (made_from s u) → MadeFewBySearch 4 1 3 s u
few_dummy s u same few = (same, λ ids c. omega (arith, few ids c))

-- after so many events
pub few_then_more : (each most more : ℕ) (s t u : Seat SplitNote) → t.agent ≡ s.agent → IsPrefix s.seen t.seen → IsPrefix t.seen u.seen
    → length (events_by t.agent t.seen) ≤ length (events_by s.agent s.seen) + most → MadeFewBySearch each 1 more t u
    → MadeFewBySearch each 1 (most + more) s u
few_then_more each most more s t u same one two low x = few_parts each 0 1 most more s t u one two (few_most each 0 most s t same one low) x

-- a look makes two events at the most
pub look_made : (place : Place) (slot : ℕ) (s t : Seat SplitNote) (looked : Looked) → Looks place slot s looked t
    → length (events_by t.agent t.seen) ≤ length (events_by s.agent s.seen) + 2
look_made place slot s t (Stable seen None) k = made_most 2 s t _ k.tells.2 (omega arith)
look_made place slot s t (Stable seen (Some h)) k =
    let (id, one, more, marked, null, at_slot, slots, puts) = k.tells in
    made_most 2 s t _ puts (omega arith)
look_made place slot s t Moved k =
    let (one, two, other, slots, puts, some) = k.tells in
    made_most 2 s t _ puts (omega arith)

-- a swing makes one
pub swing_made : (at : At) (from to : Want) (noted : Option SplitNote) (done : Bool) (s t : Seat SplitNote) → Swings at from to noted s done t
    → length (events_by t.agent t.seen) ≤ length (events_by s.agent s.seen) + 1
swing_made at from to noted true s t w = made_most 1 s t _ w.puts (omega arith)
swing_made at from to noted false s t w = made_most 1 s t _ w.puts.puts (omega arith)

pub swung_made : (at : At) (from to : Want) (noted : Option SplitNote) (result : Result Bool SpentRow) (s t : Seat SplitNote)
    → IfOk result (λ done. Swings at from to noted s done t) → IfErr result (λ e. Only [] s t)
    → length (events_by t.agent t.seen) ≤ length (events_by s.agent s.seen) + 1
swung_made at from to noted (Ok done) s t w none = swing_made at from to noted done s t w
swung_made at from to noted (Err e) s t w none = made_most 1 s t [] none.puts (omega arith)

-- the agent stays the same in a turn
pub turn_agent : (r : Reading SplitNote) (entry : Bool → SetEntry) (s t : Seat SplitNote) (result : Option Bool)
    → AnswersTurn r entry s result t → t.agent ≡ s.agent
turn_agent r entry s t (Some answer) a = a.made.puts.agent
turn_agent r entry s t None a = a.over.made.puts.agent

pub inserts_agent : (r : Reading SplitNote) (value kind : ℕ) (entry : Bool → SetEntry) (slots : Slots) (before kept : Option Hold) (s t : Seat SplitNote)
    (turn : InsertTurn) → Inserts r value kind entry 1 slots before s turn kept t → t.agent ≡ s.agent
inserts_agent r value kind entry slots before kept s t Over k = k.over.made.puts.agent
inserts_agent r value kind entry slots before kept s t (Answered answer passed) k = k.1.made.puts.agent
inserts_agent r value kind entry slots before kept s t NoNode k = k.1.made.puts.agent
inserts_agent r value kind entry slots before kept s t (Spent why) k = k.1.made.puts.agent

-- the turns of an insert give one node at the most
pub insert_gives : (r : Reading SplitNote) (entry : Bool → SetEntry) (turns : ℕ) (s t : Seat SplitNote) (answer : Result Bool ListRefused)
    → InsertAnswers r entry turns s answer t → gives_in (made_from s t) ≤ 1
insert_gives r entry turns s t answer k =
    let nothing : Only [] t t = record { slots = refl; fresh = refl; puts = (over_none r t).made.puts } in
    let d = insert_did r s t t nothing entry turns answer k in
    omega (arith, d.at_most, d.made.gives, ap gives_in (made_is s t d.own d.made.puts))

-- at most 8 halvings of the number of buckets
pub few_levels : (most : ℕ) → ∥ IsSize 256 most ∥₁ → most ≤ 2 ^ 8
few_levels most sized = ∥∥₁_elim sized le_prop (λ k. k.0)

-- half as many buckets have one level less
pub half_level : (size k : ℕ) → 2 ≤ size → size ≤ 2 ^ k → (j : ℕ) × (k ≡ j + 1) × (size / 2 ≤ 2 ^ j)
half_level size zero two low = absurd (omega (arith, two, low))
half_level size (suc i) two low = (i, omega arith, omega (arith, low, double))
  where
    double : 2 ^ suc i ≡ 2 * 2 ^ i
    double = grind (arith)
