-- What a rank of a set owes: entries are allowed where a search found the key absent or present.
use Rattle.std.proofs.Common.{List, Option, Some, [], false, inl, inr, refl, subst, sym, ℕ, ◌∷◌, ◌≡◌}
use Rattle.orc_heap.specs.Allowed.{AllowedLater}
use Rattle.orc_heap.specs.Heap.{Heap, HeapNumbers}
use Rattle.orc_heap.specs.Journals.{event_by, run_heap}
use Rattle.orc_heap.specs.declared.events.Act.TheVariants.{Look}
use Rattle.orc_heap.specs.declared.events.Event.{Event}
use Rattle.orc_heap.specs.declared.events.Link.{Link}
use Rattle.orc_heap.specs.declared.events.Place.{Place}
use Rattle.orc_heap.specs.declared.events.Place.TheVariants.{Next, Root, Side}
use Rattle.orc_history.specs.declared.set.SetEntry.{SetEntry}
use Rattle.orc_chain_rule.proofs.Coming.{added_allowed, added_present_allowed, asked_absent_allowed, asked_present_allowed, removed_absent_allowed, removed_allowed, unlink_allowed}
use Rattle.orc_chain_rule.specs.declared.chain.ChainNote.{ChainNote}
use Rattle.orc_chain_rule.specs.declared.chain.ChainNote.TheVariants.{Entry, Unlink}
use Rattle.orc_ordered_chains.specs.Chains.{IsChainPlace as IsRankedPlace, IsRun}
use Rattle.orc_chain_rule.specs.ChainDiscipline.{ChainHolds, ChainMay, FollowsOn, HasKey, IsAbove, IsChainPlace, chain_order}
use Rattle.orc_chain_rule.specs.Laws.Kinds.{key_linked}
use Rattle.orc_ordered_search.specs.Entries.{AllowsAbsence, AllowsAdd, AllowsAim, AllowsMark, AllowsPresence, AllowsUnlink, IsAbsence, IsPresence}
use Rattle.orc_list.specs.Searches.{list_manner, list_reading}

pub list_enters : (n : HeapNumbers) (entry : SetEntry) → (list_manner n).entries_in (Some (Entry entry)) ≡ entry ∷ []
list_enters n entry = refl

absence_allowed : (n : HeapNumbers) (agent : ℕ) (place : Place) (from : Link) (over : List ℕ) (to : Option ℕ) (key : ℕ) (entry : SetEntry)
    (seen : List (Event ChainNote))
    → IsAbsence agent key entry → ChainHolds n seen
    → FollowsOn n.roots (run_heap n seen) place key → from.mark ≡ false → IsRun (run_heap n seen) from over to → IsAbove (run_heap n seen) to key
    → AllowedLater (ChainMay n) n agent seen place from (event_by agent (Look place from) (Some (Entry entry)))
absence_allowed n agent place from over to key entry seen (inl is) holds f plain run above =
    subst (λ (x : SetEntry). AllowedLater (ChainMay n) n agent seen place from (event_by agent (Look place from) (Some (Entry x)))) (sym is)
    (removed_absent_allowed n agent place from over to key seen holds f plain run above)
absence_allowed n agent place from over to key entry seen (inr is) holds f plain run above =
    subst (λ (x : SetEntry). AllowedLater (ChainMay n) n agent seen place from (event_by agent (Look place from) (Some (Entry x)))) (sym is)
    (asked_absent_allowed n agent place from over to key seen holds f plain run above)

pub list_allows_absence : (n : HeapNumbers) → AllowsAbsence (list_reading n) (ChainHolds n) (ChainMay n) (λ key. key) (λ entry. Entry entry)
list_allows_absence n = λ agent place from over to key entry seen is holds below plain run above.
    absence_allowed n agent place from over to key entry seen is holds below plain run above

presence_allowed : (n : HeapNumbers) (agent id key : ℕ) (link : Link) (entry : SetEntry) (seen : List (Event ChainNote)) → IsPresence agent key entry
    → ChainHolds n seen → HasKey (run_heap n seen) id key → link.mark ≡ false
    → AllowedLater (ChainMay n) n agent seen (Next id) link (event_by agent (Look (Next id) link) (Some (Entry entry)))
presence_allowed n agent id key link entry seen (inl is) holds own plain =
    subst (λ (x : SetEntry). AllowedLater (ChainMay n) n agent seen (Next id) link (event_by agent (Look (Next id) link) (Some (Entry x)))) (sym is)
    (added_present_allowed n agent id key link seen holds own plain)
presence_allowed n agent id key link entry seen (inr is) holds own plain =
    subst (λ (x : SetEntry). AllowedLater (ChainMay n) n agent seen (Next id) link (event_by agent (Look (Next id) link) (Some (Entry x)))) (sym is)
    (asked_present_allowed n agent id key link seen holds own plain)

pub list_allows_presence : (n : HeapNumbers) → AllowsPresence (list_reading n) (ChainHolds n) (ChainMay n) (λ key. key) (λ entry. Entry entry)
list_allows_presence n = λ agent id key link entry seen is holds own plain. presence_allowed n agent id key link entry seen is holds own plain

pub list_enters_none : (n : HeapNumbers) → (list_manner n).entries_in (Some Unlink) ≡ []
list_enters_none n = refl

pub list_allows_mark : (n : HeapNumbers) → AllowsMark (list_reading n) (ChainHolds n) (ChainMay n) (λ key. key) (λ entry. Entry entry)
list_allows_mark n = λ agent id key link seen holds own plain. removed_allowed n agent id key link seen holds own plain

-- a place of a chain by rank is one by its node
chain_place : (roots : ℕ) (h : Heap) (place : Place) → IsRankedPlace (chain_order roots) h place → IsChainPlace place h
chain_place roots h (Root r) on = tt
chain_place roots h (Next id) (key, own) = key_linked h id key own
chain_place roots h (Side id) on = on

pub list_allows_unlink : (n : HeapNumbers) → AllowsUnlink (list_reading n) (ChainHolds n) (ChainMay n) Unlink
list_allows_unlink n = λ agent place from first others to seen holds on plain run.
    unlink_allowed n agent place from first others to seen holds (chain_place n.roots (run_heap n seen) place on) plain run

pub list_allows_aim : (n : HeapNumbers) → AllowsAim n (ChainMay n)
list_allows_aim n = λ agent id to es fits. record { fits = fits; may_act = refl; own = tt }

pub list_allows_add : (n : HeapNumbers) → AllowsAdd (list_reading n) (ChainHolds n) (ChainMay n) (λ key. key) (λ entry. Entry entry) 0
list_allows_add n = λ agent key place from over to id seen holds below plain run above there.
    added_allowed n agent place from over to key 0 id seen holds below plain run above there
