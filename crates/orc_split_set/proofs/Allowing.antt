-- A new dummy may be linked where it belongs.
use Rattle.std.proofs.Common.{Bool, Option, Result, Some, [], refl, subst, ℕ, ◌<◌, ◌≡◌, ◌≤◌}
use Rattle.orc_fault.specs.declared.Spent.{Spent as SpentRow}
use Rattle.orc_heap.specs.Heap.{HeapNumbers}
use Rattle.orc_heap.specs.Seats.{Seat}
use Rattle.orc_heap.specs.Slots.{Hold}
use Rattle.orc_ordered_search.specs.Entries.{AllowsNode}
use Rattle.orc_ordered_search.specs.Inserts.{AddsNode, NodeToAdd, slots_with}
use Rattle.orc_split_rule.proofs.Coming.{bucket_allowed}
use Rattle.orc_split_rule.specs.SplitDiscipline.{SplitHolds, SplitMay, greatest}
use Rattle.orc_split_rule.specs.SplitOrder.{dummy_place}
use Rattle.orc_split_rule.specs.declared.split.SplitNote.{SplitNote}
use Rattle.orc_split_rule.specs.declared.split.SplitNote.TheVariants.{Bucket}
use Rattle.orc_split_set.specs.Rootings.{HasNewDummy}
use Rattle.orc_split_set.specs.SplitSearches.{split_reading}

pub dummy_allowed : (n : HeapNumbers) (agent bucket : ℕ) → 1 ≤ bucket → bucket < greatest n
    → AllowsNode (split_reading n) (SplitHolds n) (SplitMay n) (dummy_place bucket) bucket 0 agent Bucket
dummy_allowed n agent bucket low high = λ place from over to id seen holds below plain run above there.
    bucket_allowed n agent place from over to bucket id seen holds low high (record { below = below; unmarked = plain; run = run; above = above }) there

abbrev pub dummy_to_add : (n : HeapNumbers) (bucket : ℕ) (left first right : Option Hold) (dummy : Hold) (s t : Seat SplitNote)
    → HasNewDummy n bucket left first right dummy s t → 1 ≤ bucket → bucket < greatest n
    → NodeToAdd (split_reading n) (SplitHolds n) (SplitMay n) 0 Bucket left first right dummy t
dummy_to_add n bucket left first right dummy s t w low high = record {
  start = w.start;
  wanted = dummy_place bucket;
  value = bucket;
  kind = 0;
  given = 1;
  slots = slots_with s.slots (Some dummy) w.id;
  begun = s;
  at = w.adds;
  root_is = refl;
  allowed = dummy_allowed n t.agent bucket low high;
}

-- what came of the new dummy
pub dummy_added : (n : HeapNumbers) (bucket : ℕ) (left first right : Option Hold) (dummy : Hold) (s t u : Seat SplitNote)
    (w : HasNewDummy n bucket left first right dummy s t) → 1 ≤ bucket → bucket < greatest n → (linked result : Result Bool SpentRow) → linked ≡ result
    → ((a : NodeToAdd (split_reading n) (SplitHolds n) (SplitMay n) 0 Bucket left first right dummy t)
    → AddsNode (split_reading n) a.value a.kind [] dummy a.at.id a.given a.slots a.begun linked u)
    → AddsNode (split_reading n) bucket 0 [] dummy w.id 1 (slots_with s.slots (Some dummy) w.id) s result u
dummy_added n bucket left first right dummy s t u w low high linked result is added =
    let slots = slots_with s.slots (Some dummy) w.id in
    subst (λ (r : Result Bool SpentRow). AddsNode (split_reading n) bucket 0 [] dummy w.id 1 slots s r u) is
    (subst (λ (i : ℕ). AddsNode (split_reading n) bucket 0 [] dummy i 1 slots s linked u) w.id_is (added (dummy_to_add n bucket left first right dummy s t w low high)))
