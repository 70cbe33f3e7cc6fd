-- What a call did, by its answer, up to the pass that has settled.
use Rattle.std.proofs.Common.{Bool, Err, List, Ok, Result, [], arith, length, refl, ℕ, ◌∙◌, ◌∷◌, ◌≡◌, ◌≢◌, ◌≤◌}
use Rattle.std.specs.Prelude.{IsErr}
use Rattle.orc_fault.specs.declared.Again.{Again as AgainFault}
use Rattle.orc_heap.specs.Journals.{noted_entries}
use Rattle.orc_heap.specs.Moves.{from_own}
use Rattle.orc_heap.specs.OwnEvents.{Only, Puts}
use Rattle.orc_heap.specs.Seats.{IsIdle, Seat}
use Rattle.orc_heap.specs.declared.events.Event.{Event}
use Rattle.orc_history.specs.declared.set.ListRefused.{ListRefused}
use Rattle.orc_history.specs.declared.set.ListRefused.TheVariants.{Again, NoNode, Spent}
use Rattle.orc_history.specs.declared.set.SetEntry.{SetEntry}
use Rattle.orc_ordered_search.specs.Causes.{others_moves}
use Rattle.orc_ordered_search.specs.Inserts.{InsertAnswers, InsertCall}
use Rattle.orc_ordered_search.specs.Reading.{Reading}
use Rattle.orc_ordered_search.specs.Turns.{AnswersTurns, AreOver, Made, Tires}
use Rattle.orc_ordered_search.proofs.Making.{made_on, over_on}
use Rattle.orc_ordered_search.proofs.Parts.{others_all}

-- the entries of a call, by its answer
abbrev pub entries_by : {E : Type 0} → (Bool → SetEntry) → Result Bool E → List SetEntry
entries_by entry (Ok answer) = entry answer ∷ []
entries_by entry (Err e) = []

-- what a call did: at most so many nodes were given, and if all turns were used, then by Moves of other agents
pub record Did {E N : Type 0} (r : Reading N) (IsAgain : Type 0) (most turns : ℕ) (entry : Bool → SetEntry) (s : Seat N) (result : Result Bool E) (u : Seat N) :
    Type 0 where
  pub own : List (Event N)
  pub given : ℕ
  pub at_most : given ≤ most
  pub entries : List SetEntry
  pub entries_are : entries ≡ entries_by entry result
  pub made : Made r given s own entries u
  pub over : IsAgain → turns ≤ others_moves s.agent (from_own s.agent made.puts.part)
  pub no_turns : turns ≡ 0 → IsAgain × (own ≡ [])

abbrev ok_of : Bool → Result Bool AgainFault
ok_of answer = Ok answer

abbrev err_of : AgainFault → Result Bool AgainFault
err_of e = Err e

-- the Moves of turns that are over are others'
pub over_others : {N : Type 0} (r : Reading N) (given turns : ℕ) (s t : Seat N) (own : List (Event N)) (o : AreOver r given turns s own t)
    → turns ≤ others_moves s.agent (from_own s.agent o.made.puts.part)
over_others r given turns s t own o = omega (arith, o.moved, others_all s.agent o.made.puts.part own o.made.puts.own_is o.no_move)

module _ {N : Type 0} (r : Reading N) (s t u : Seat N) (o : Only [] t u) where
  -- an answer
  answered : (turns : ℕ) (entry : Bool → SetEntry) (answer : Bool) → turns ≢ 0 → (own : List (Event N)) → Made r 0 s own (entry answer ∷ []) t
      → Did r (IsErr (ok_of answer)) 0 turns entry s (ok_of answer) u
  answered turns entry answer some own m = record {
    own = own;
    given = 0;
    at_most = omega arith;
    entries = entry answer ∷ [];
    entries_are = refl;
    made = made_on r 0 s t u own (entry answer ∷ []) m o.puts;
    over = λ e. cc;
    no_turns = λ zero. absurd (some zero);
  }

  -- all turns were used
  tired : (turns : ℕ) (entry : Bool → SetEntry) (e : AgainFault) → Tires r turns s t → Did r (IsErr (err_of e)) 0 turns entry s (err_of e) u
  tired turns entry e w =
      let after = over_on r 0 turns s t u w.own w.over o.puts in
      record {
        own = w.own;
        given = 0;
        at_most = omega arith;
        entries = [];
        entries_are = refl;
        made = after.made;
        over = λ e. over_others r 0 turns s u w.own after;
        no_turns = λ zero. (refl, w.over.none zero);
      }

  pub answers_did : (entry : Bool → SetEntry) (turns : ℕ) (result : Result Bool AgainFault) → AnswersTurns r entry turns s result t
      → Did r (IsErr result) 0 turns entry s result u
  answers_did entry turns (Ok answer) l = answered turns entry answer l.0 l.1.own l.1.made
  answers_did entry turns (Err e) l = tired turns entry e l

  -- an insert
  ended : (turns : ℕ) (es : List SetEntry) (result : Result Bool ListRefused) (entry : Bool → SetEntry) → es ≡ entries_by entry result → turns ≢ 0
      → (result ≡ Err Again → ⊥) → (own : List (Event N)) → InsertCall r s own es t → Did r (result ≡ Err Again) 1 turns entry s result u
  ended turns es result entry is some not own c = record {
    own = own;
    given = c.given;
    at_most = c.at_most;
    entries = es;
    entries_are = is;
    made = made_on r c.given s t u own es c.made o.puts;
    over = λ e. absurd (not e);
    no_turns = λ zero. absurd (some zero);
  }

  pub insert_did : (entry : Bool → SetEntry) (turns : ℕ) (result : Result Bool ListRefused) → InsertAnswers r entry turns s result t
      → Did r (result ≡ Err Again) 1 turns entry s result u
  insert_did entry turns (Ok answer) l = ended turns _ (Ok answer) entry refl l.0 (λ e. cc) l.1 l.2
  insert_did entry turns (Err Again) l =
      let after = over_on r l.given turns s t u l.own l.over o.puts in
      record {
        own = l.own;
        given = l.given;
        at_most = l.at_most;
        entries = [];
        entries_are = refl;
        made = after.made;
        over = λ e. over_others r l.given turns s u l.own after;
        no_turns = λ zero. (refl, l.over.none zero);
      }
  insert_did entry turns (Err NoNode) l = ended turns [] (Err NoNode) entry refl l.0 (λ e. cc) l.1 l.2
  insert_did entry turns (Err (Spent why)) l = ended turns [] (Err (Spent why)) entry refl l.0 (λ e. cc) l.1 l.2

-- the pass holds what it held: it is idle, and of the same agent
pub answers_keeps : {N : Type 0} (r : Reading N) (entry : Bool → SetEntry) (turns : ℕ) (s t : Seat N) (result : Result Bool AgainFault)
    → AnswersTurns r entry turns s result t → IsIdle s → IsIdle t × (t.agent ≡ s.agent)
answers_keeps r entry turns s t (Ok answer) l idle = (record { slots = l.1.slots ∙ idle.slots; fresh = l.1.fresh ∙ idle.fresh }, l.1.made.puts.agent)
answers_keeps r entry turns s t (Err e) l idle = (record { slots = l.slots ∙ idle.slots; fresh = l.fresh ∙ idle.fresh }, l.over.made.puts.agent)

pub insert_keeps : {N : Type 0} (r : Reading N) (entry : Bool → SetEntry) (turns : ℕ) (s t : Seat N) (result : Result Bool ListRefused)
    → InsertAnswers r entry turns s result t → IsIdle s → IsIdle t × (t.agent ≡ s.agent)
insert_keeps r entry turns s t (Ok answer) l idle = (record { slots = l.2.slots ∙ idle.slots; fresh = l.2.fresh }, l.2.made.puts.agent)
insert_keeps r entry turns s t (Err Again) l idle = (record { slots = l.slots ∙ idle.slots; fresh = l.fresh }, l.over.made.puts.agent)
insert_keeps r entry turns s t (Err NoNode) l idle = (record { slots = l.2.slots ∙ idle.slots; fresh = l.2.fresh }, l.2.made.puts.agent)
insert_keeps r entry turns s t (Err (Spent why)) l idle = (record { slots = l.2.slots ∙ idle.slots; fresh = l.2.fresh }, l.2.made.puts.agent)

pub idle_settled : {N : Type 0} (t u : Seat N) → IsIdle t → Only [] t u → IsIdle u
idle_settled t u idle o = record { slots = o.slots ∙ idle.slots; fresh = o.fresh ∙ idle.fresh }

-- what the turns of a call made

pub answers_puts : {N : Type 0} (r : Reading N) (entry : Bool → SetEntry) (turns : ℕ) (s t : Seat N) (result : Result Bool AgainFault)
    → AnswersTurns r entry turns s result t → (own : List (Event N)) × Puts s own t
answers_puts r entry turns s t (Ok answer) l = (l.1.own, l.1.made.puts)
answers_puts r entry turns s t (Err e) l = (l.own, l.over.made.puts)

some_event : {N : Type 0} (r : Reading N) (own : List (Event N)) (entry : SetEntry) → noted_entries r.entries_in own ≡ entry ∷ [] → 1 ≤ length own
some_event r [] entry e = cc
some_event r (e ∷ es) entry is = omega arith

pub answers_some : {N : Type 0} (r : Reading N) (entry : Bool → SetEntry) (turns : ℕ) (s t : Seat N) (result : Result Bool AgainFault)
    (l : AnswersTurns r entry turns s result t) (answer : Bool) → result ≡ Ok answer → 1 ≤ length (answers_puts r entry turns s t result l).0
unfolding answers_puts
answers_some r entry turns s t (Ok given) l answer is = some_event r l.1.own (entry given) l.1.made.entries_are
answers_some r entry turns s t (Err e) l answer is = cc

pub insert_puts : {N : Type 0} (r : Reading N) (entry : Bool → SetEntry) (turns : ℕ) (s t : Seat N) (result : Result Bool ListRefused)
    → InsertAnswers r entry turns s result t → (own : List (Event N)) × Puts s own t
insert_puts r entry turns s t (Ok answer) l = (l.1, l.2.made.puts)
insert_puts r entry turns s t (Err Again) l = (l.own, l.over.made.puts)
insert_puts r entry turns s t (Err NoNode) l = (l.1, l.2.made.puts)
insert_puts r entry turns s t (Err (Spent why)) l = (l.1, l.2.made.puts)
