-- What a call did before its turns, in them, and after them.
use Rattle.std.proofs.Common.{Bool, Err, List, Ok, Result, [], ap, append-nil, arith, inl, inr, refl, subst, sym, ℕ, ◌++◌, ◌+◌, ◌∙◌, ◌≡◌, ◌≢◌, ◌≤◌}
use Rattle.std.specs.Prelude.{IfOk}
use mathlib.Core.List.{IsPrefix}
use Rattle.orc_heap.proofs.Calls.{Puts-trans}
use Rattle.orc_heap.proofs.Steps.{part_events}
use Rattle.orc_heap.specs.Allowed.{AllAllowed}
use Rattle.orc_heap.specs.Heap.{HeapNumbers}
use Rattle.orc_heap.specs.OwnEvents.{Only, Puts}
use Rattle.orc_heap.specs.Seats.{IsIdle, Seat, heap_of}
use Rattle.orc_heap.specs.declared.events.Event.{Event}
use Rattle.orc_heap.specs.declared.links.Links.{Ghosts as LinksOf}
use Rattle.orc_history.specs.declared.set.ListRefused.TheVariants.{Again}
use Rattle.orc_history.specs.declared.set.SetEntry.{SetEntry}
use Rattle.orc_ordered_search.specs.Inserts.{InsertAnswers, InsertCall, answer_by}
use Rattle.orc_ordered_search.specs.Reading.{Reading}
use Rattle.orc_ordered_search.specs.declared.turn.InsertTurn.{InsertTurn}
use Rattle.orc_ordered_search.proofs.Making.{made_on, over_none}
use Rattle.orc_ordered_search.proofs.Settling.{Did, insert_did}
use Rattle.orc_split_rule.specs.SplitDiscipline.{SplitHolds, SplitMay, size_of}
use Rattle.orc_split_rule.specs.SplitOrder.{bucket_of}
use Rattle.orc_split_rule.specs.declared.split.SplitNote.{SplitNote}
use Rattle.orc_split_set.specs.Growths.{GrowsAfter}
use Rattle.orc_split_set.specs.Rootings.{IsRootSet, Prepares}
use Rattle.orc_split_set.specs.SetCalls.{PartTells, RootsBucket, events_before}
use Rattle.orc_split_set.specs.SplitSearches.{split_reading}
use Rattle.orc_split_set.specs.declared.bucket.Rooted.{Rooted}
use Rattle.orc_split_set.proofs.Growing.{again_uncrowded}
use Rattle.orc_split_set.proofs.Passes.{SeenIs, StepsAdd}
use Rattle.orc_split_set.proofs.Preparing.{key_told}
use Rattle.orc_split_set.proofs.Rooting.{made_trans, moved_later, moved_sooner}
use Rattle.orc_split_set.proofs.Telling.{told_lacks, told_worn}

-- the pass holds what it held
pub call_idle : {N : Type 0} {r : Reading N} {s t : Seat N} {own : List (Event N)} {entries : List SetEntry} → InsertCall r s own entries t → IsIdle s → IsIdle t
call_idle c idle = record { slots = c.slots ∙ idle.slots; fresh = c.fresh }

-- before its turns
pub did_after : {E IsAgain N : Type 0} (r : Reading N) (own : List (Event N)) (turns : ℕ) → (turns ≡ 0 → own ≡ []) → (s t : Seat N) → InsertCall r s own [] t
    → (most more : ℕ) (entry : Bool → SetEntry) (u : Seat N) (result : Result Bool E) → most + 1 ≤ more
    → Did {E = E} r IsAgain most turns entry t result u → Did {E = E} r IsAgain more turns entry s result u
did_after r own turns none s t c most more entry u result few d =
    let m = made_trans r c.given d.given s t u own d.own [] d.entries c.made d.made in
    record {
      own = own ++ d.own;
      given = c.given + d.given;
      at_most = omega (arith, c.at_most, d.at_most, few);
      entries = d.entries;
      entries_are = d.entries_are;
      made = m;
      over = λ again. moved_later s t u own d.own (own ++ d.own) c.made.puts d.made.puts m.puts turns (d.over again);
      no_turns = λ zero. (let k = d.no_turns zero in (k.0, ap (λ z. z ++ d.own) (none zero) ∙ k.1));
    }

-- and after them
pub did_before : {E IsAgain N : Type 0} (r : Reading N) (s t u : Seat N) (own : List (Event N)) → InsertCall r t own [] u
    → (most more turns : ℕ) (entry : Bool → SetEntry) (result : Result Bool E) → most + 1 ≤ more
    → (IsAgain → own ≡ []) → Did {E = E} r IsAgain most turns entry s result t → Did {E = E} r IsAgain more turns entry s result u
did_before r s t u own c most more turns entry result few none d =
    let m = made_trans r d.given c.given s t u d.own own d.entries [] d.made c.made in
    record {
      own = d.own ++ own;
      given = d.given + c.given;
      at_most = omega (arith, c.at_most, d.at_most, few);
      entries = d.entries ++ [];
      entries_are = append-nil d.entries ∙ d.entries_are;
      made = m;
      over = λ again. moved_sooner s t u d.own own (d.own ++ own) d.made.puts c.made.puts m.puts turns (d.over again);
      no_turns = λ zero. (let k = d.no_turns zero in (k.0, ap (λ z. z ++ own) k.1 ∙ none k.0));
    }

-- an insert, what followed its turns, and the settling
pub insert_after : (n : HeapNumbers) (entry : Bool → SetEntry) (turns : ℕ) (turn : InsertTurn) (grown : Rooted) (s t u v : Seat SplitNote)
    → InsertAnswers (split_reading n) entry turns s (answer_by turn) t → GrowsAfter n turn t grown u → Only [] u v
    → Did (split_reading n) (answer_by turn ≡ Err Again) 2 turns entry s (answer_by turn) v
insert_after n entry turns turn grown s t u v inserted k o =
    let r = split_reading n in
    let c = k.doubles.call in
    let call : InsertCall r t k.doubles.own [] v = record {
      given = c.given;
      at_most = c.at_most;
      made = made_on r c.given t u v k.doubles.own [] c.made o.puts;
      slots = o.slots ∙ c.slots;
      fresh = o.fresh ∙ c.fresh;
    } in
    let nothing : Only [] t t = record { slots = refl; fresh = refl; puts = (over_none r t).made.puts } in
    did_before r s t v k.doubles.own call 1 2 turns entry (answer_by turn) (omega arith) (λ again. k.none (again_uncrowded turn again))
    (insert_did r s t t nothing entry turns (answer_by turn) inserted)

-- the same of an answer that is no refusal
pub if_ok : {E : Type 0} (result : Result Bool E) (Fact : Type 0) → ((answer : Bool) → result ≡ Ok answer → Fact) → IfOk result (λ answer. Fact)
if_ok (Ok answer) Fact holds = holds answer refl
if_ok (Err e) Fact holds = tt

-- over the journals of a domain: what an undisturbed call tells of the root of its key's bucket
pub roots_call : {L D P S : Type 0} (m : LinksOf L D P S SplitNote)
    → StepsAdd m → SeenIs m → (links : L) (key turns : ℕ) (p t q : P) (ys : List (Event SplitNote)) → m.belongs links p → m.belongs links q → IsPrefix (m.journal p) (m.journal q)
    → (rooted : Rooted) → Prepares (m.numbers links) key turns (m.seat links p) rooted (m.seat links t) → turns ≢ 0 → Puts (m.seat links t) ys (m.seat links q)
    → SplitHolds (m.numbers links) (m.seat links t).seen → AllAllowed (SplitMay (m.numbers links)) [] (m.seat links q).seen
    → PartTells m links rooted p q → RootsBucket m links key p q
roots_call m adds seen_is links key turns p t q ys in_p in_q grows rooted prepared some puts holds all told =
    let n = m.numbers links in
    let events = m.events links in
    let s = m.seat links p in
    let u = m.seat links q in
    let first = prepared.call.made.puts in
    let w = Puts-trans s (m.seat links t) u prepared.own ys first puts in
    let is_s = seen_is links p in_p in
    let new : events (m.journal q) ≡ events (m.journal p) ++ w.part = sym (seen_is links q in_q) ∙ (w.is ∙ ap (λ z. z ++ w.part) is_s) in
    let e = part_events m.agent_of events (adds links) s.agent (m.journal p) (m.journal q) w.part grows new in
    let begin : events_before m links p q ≡ s.seen ++ e.gap = e.begin_events ∙ ap (λ z. z ++ e.gap) (sym is_s) in
    λ alone low. elim (key_told n key s (m.seat links t) u prepared.own ys (prepared.own ++ ys) rooted first puts w e.gap
    (record { rest = e.part; is = e.is; others = e.others; own = e.alone alone }) holds all (prepared.tells some)
    (subst (λ z. 1 ≤ bucket_of key (size_of n z)) begin low)) [
      | inl set ↦ inl (subst (λ z. IsRootSet (heap_of n u) (bucket_of key (size_of n z))) (sym begin) set)
      | inr none ↦ elim none [
        | inl missing ↦ inr (inl (told_lacks m links p q rooted told missing))
        | inr spent ↦ inr (inr (spent.0, told_worn m links p q rooted told spent.0 spent.1))
      ]
    ]
