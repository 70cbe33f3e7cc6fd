-- What a read of the size did, up to the pass that has settled.
use Rattle.std.proofs.Common.{Bool, Err, List, Ok, Result, [], ap, arith, length, length-append, refl, subst, sym, ℕ, ◌+◌, ◌∙◌, ◌≡◌, ◌≤◌}
use Rattle.std.specs.Prelude.{IfErr, IfOk, IsErr}
use Rattle.orc_fault.specs.declared.Again.{Again as AgainFault}
use Rattle.orc_heap.proofs.Calls.{part_allowed}
use Rattle.orc_heap.proofs.InJournal.{own_after}
use Rattle.orc_heap.specs.Allowed.{AllAllowed, events_by}
use Rattle.orc_heap.specs.Heap.{HeapNumbers}
use Rattle.orc_heap.specs.OwnEvents.{Only, Puts}
use Rattle.orc_heap.specs.Seats.{IsIdle, Seat}
use Rattle.orc_heap.specs.declared.events.Event.{Event}
use Rattle.orc_history.specs.declared.set.SetEntry.TheVariants.{Asked}
use Rattle.orc_ordered_search.proofs.Inserting.{seen_holds}
use Rattle.orc_ordered_search.proofs.Making.{made_on, over_on}
use Rattle.orc_ordered_search.proofs.Settling.{Did, over_others}
use Rattle.orc_split_rule.proofs.Sizes.{size_later}
use Rattle.orc_split_rule.specs.SplitDiscipline.{IsSize, SplitMay, greatest, size_of}
use Rattle.orc_split_rule.specs.declared.split.SplitNote.{SplitNote}
use Rattle.orc_split_set.specs.SplitSearches.{ReadsSizeIn, split_reading}
use Rattle.orc_split_set.proofs.Ordered.{split_ordering}

-- at most so many events were made
pub made_most : (most : ℕ) (s t : Seat SplitNote) (own : List (Event SplitNote)) → Puts s own t → length own ≤ most
    → length (events_by t.agent t.seen) ≤ length (events_by s.agent s.seen) + most
made_most most s t own p few =
    omega (arith, few, ap (λ z. length z) (own_after s t own p), length-append (events_by s.agent s.seen) own)

-- a call that enters nothing
abbrev pub none_of : Result Bool (Unit {0})
none_of = Err tt

pub size_did : (n : HeapNumbers) (s t u : Seat SplitNote) → Only [] t u → (turns : ℕ) (result : Result ℕ AgainFault) → ReadsSizeIn n turns s result t
    → Did (split_reading n) (IsErr result) 0 turns (λ answer. Asked s.agent 0 answer) s none_of u
size_did n s t u o turns (Ok size) l = record {
  own = l.1.own;
  given = 0;
  at_most = omega arith;
  entries = [];
  entries_are = refl;
  made = made_on (split_reading n) 0 s t u l.1.own []
      (record { puts = l.1.quiet.puts; entries_are = l.1.quiet.no_entries; gives = l.1.quiet.no_give }) o.puts;
  over = λ e. cc;
  no_turns = λ zero. absurd (l.0 zero);
}
size_did n s t u o turns (Err e) l =
    let after = over_on (split_reading n) 0 turns s t u l.own l.over o.puts in
    record {
      own = l.own;
      given = 0;
      at_most = omega arith;
      entries = [];
      entries_are = refl;
      made = after.made;
      over = λ e. over_others (split_reading n) 0 turns s u l.own after;
      no_turns = λ zero. (refl, l.over.none zero);
    }

pub size_keeps : (n : HeapNumbers) (turns : ℕ) (s t : Seat SplitNote) (result : Result ℕ AgainFault) → ReadsSizeIn n turns s result t → IsIdle s
    → IsIdle t × (t.agent ≡ s.agent)
size_keeps n turns s t (Ok size) l idle = (record { slots = l.1.slots ∙ idle.slots; fresh = l.1.quiet.fresh ∙ idle.fresh }, l.1.quiet.puts.agent)
size_keeps n turns s t (Err e) l idle = (record { slots = l.slots ∙ idle.slots; fresh = l.fresh ∙ idle.fresh }, l.over.made.puts.agent)

pub size_had : (n : HeapNumbers) (s t u : Seat SplitNote) → Only [] t u → AllAllowed (SplitMay n) [] u.seen → (turns : ℕ) → 1 ≤ greatest n
    → (result : Result ℕ AgainFault) → ReadsSizeIn n turns s result t
    → IfOk result (λ size. IsSize (greatest n) size × (size_of n s.seen ≤ size) × (size ≤ size_of n u.seen))
size_had n s t u o all turns some (Ok size) l =
    let holds = seen_holds (split_ordering n) t u [] o.puts all in
    let later = size_later n t.seen o.puts.part some holds (part_allowed (SplitMay n) t u [] o.puts all) in
    let up : size_of n t.seen ≤ size_of n u.seen = subst (λ z. size_of n t.seen ≤ size_of n z) (sym o.puts.is) later in
    (l.1.is_size, l.1.was.0, omega (arith, up, l.1.was.1))
size_had n s t u o all turns some (Err e) l = tt

pub size_again : (result : Result ℕ AgainFault) (Fact : Type 0) → (IsErr result → Fact) → IfErr result (λ e. Fact)
size_again (Ok size) Fact holds = tt
size_again (Err e) Fact holds = holds refl
