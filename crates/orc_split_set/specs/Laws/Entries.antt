-- What a rank of a set owes: entries are allowed where a search found the key absent or present.
use Rattle.std.proofs.Common.{List, Option, Some, [], false, inl, inr, refl, ℕ, ◌∷◌, ◌≡◌}
use Rattle.orc_heap.specs.Allowed.{AllowedLater}
use Rattle.orc_heap.specs.Heap.{HeapNumbers}
use Rattle.orc_heap.specs.Journals.{event_by, run_heap}
use Rattle.orc_heap.specs.declared.events.Act.TheVariants.{Look}
use Rattle.orc_heap.specs.declared.events.Event.{Event}
use Rattle.orc_heap.specs.declared.events.Link.{Link}
use Rattle.orc_heap.specs.declared.events.Place.{Place}
use Rattle.orc_heap.specs.declared.events.Place.TheVariants.{Next}
use Rattle.orc_history.specs.declared.set.SetEntry.{SetEntry}
use Rattle.orc_ordered_search.specs.Entries.{AllowsAbsence, AllowsAdd, AllowsAim, AllowsMark, AllowsPresence, AllowsUnlink, IsAbsence, IsPresence}
use Rattle.orc_split_rule.proofs.Coming.{added_allowed, added_present_allowed, asked_absent_allowed, asked_present_allowed, removed_absent_allowed, removed_allowed, unlink_allowed}
use Rattle.orc_split_rule.specs.SplitDiscipline.{HasKey, SplitHolds, SplitMay}
use Rattle.orc_split_rule.specs.SplitOrder.{key_place}
use Rattle.orc_split_rule.specs.Watches.{LeavesOut}
use Rattle.orc_split_rule.specs.declared.split.SplitNote.{SplitNote}
use Rattle.orc_split_rule.specs.declared.split.SplitNote.TheVariants.{Entry, Unlink}
use Rattle.orc_split_set.specs.SplitSearches.{split_manner, split_reading}
use Rattle.orc_split_set.specs.Laws.Placed.{key_of_place}

pub split_enters : (n : HeapNumbers) (entry : SetEntry) → (split_manner n).entries_in (Some (Entry entry)) ≡ entry ∷ []
split_enters n entry = refl

absence_allowed : (n : HeapNumbers) (agent : ℕ) (place : Place) (from : Link) (over : List ℕ) (to : Option ℕ) (key : ℕ) (entry : SetEntry)
    (seen : List (Event SplitNote)) → IsAbsence agent key entry → SplitHolds n seen → LeavesOut (run_heap n seen) place from over to (key_place key)
    → AllowedLater (SplitMay n) n agent seen place from (event_by agent (Look place from) (Some (Entry entry)))
absence_allowed n agent place from over to key entry seen (inl is) holds out = rw is (removed_absent_allowed n agent place from over to key seen holds out)
absence_allowed n agent place from over to key entry seen (inr is) holds out = rw is (asked_absent_allowed n agent place from over to key seen holds out)

pub split_allows_absence : (n : HeapNumbers) → AllowsAbsence (split_reading n) (SplitHolds n) (SplitMay n) key_place (λ entry. Entry entry)
split_allows_absence n = λ agent place from over to key entry seen is holds below plain run above.
    absence_allowed n agent place from over to key entry seen is holds (record { below = below; unmarked = plain; run = run; above = above })

presence_allowed : (n : HeapNumbers) (agent id key : ℕ) (link : Link) (entry : SetEntry) (seen : List (Event SplitNote)) → IsPresence agent key entry
    → SplitHolds n seen → HasKey (run_heap n seen) id key → link.mark ≡ false
    → AllowedLater (SplitMay n) n agent seen (Next id) link (event_by agent (Look (Next id) link) (Some (Entry entry)))
presence_allowed n agent id key link entry seen (inl is) holds own plain = rw is (added_present_allowed n agent id key link seen holds own plain)
presence_allowed n agent id key link entry seen (inr is) holds own plain = rw is (asked_present_allowed n agent id key link seen holds own plain)

pub split_allows_presence : (n : HeapNumbers) → AllowsPresence (split_reading n) (SplitHolds n) (SplitMay n) key_place (λ entry. Entry entry)
split_allows_presence n = λ agent id key link entry seen is holds own plain.
    presence_allowed n agent id key link entry seen is holds (key_of_place (run_heap n seen) id key own) plain

pub split_enters_none : (n : HeapNumbers) → (split_manner n).entries_in (Some Unlink) ≡ []
split_enters_none n = refl

pub split_allows_mark : (n : HeapNumbers) → AllowsMark (split_reading n) (SplitHolds n) (SplitMay n) key_place (λ entry. Entry entry)
split_allows_mark n = λ agent id key link seen holds own plain.
    removed_allowed n agent id key link seen holds (key_of_place (run_heap n seen) id key own) plain

pub split_allows_unlink : (n : HeapNumbers) → AllowsUnlink (split_reading n) (SplitHolds n) (SplitMay n) Unlink
split_allows_unlink n = λ agent place from first others to seen holds on plain run.
    unlink_allowed n agent place from first others to seen holds on plain run

pub split_allows_aim : (n : HeapNumbers) → AllowsAim n (SplitMay n)
split_allows_aim n = λ agent id to es fits. record { fits = fits; may_act = refl; own = tt }

pub split_allows_add : (n : HeapNumbers) → AllowsAdd (split_reading n) (SplitHolds n) (SplitMay n) key_place (λ entry. Entry entry) 1
split_allows_add n = λ agent key place from over to id seen holds below plain run above there.
    added_allowed n agent place from over to key id seen holds (record { below = below; unmarked = plain; run = run; above = above }) there
