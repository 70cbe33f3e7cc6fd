-- The history of a set and its keys after one event more.
use Rattle.std.proofs.Common.{List, Option, [], ap, append-nil, ◌++◌, ◌∙◌, ◌∷◌, ◌≡◌}
use Rattle.orc_heap.proofs.OwnEntries.{noted-snoc}
use Rattle.orc_heap.specs.Journals.{noted_entries}
use Rattle.orc_heap.specs.declared.events.Event.{Event}
use Rattle.orc_history.proofs.SetHistories.{IsLegalSetFrom-snoc, keys_after-snoc}
use Rattle.orc_history.specs.SetHistory.{IsLegalSet, IsLegalSetFrom, keys_after}
use Rattle.orc_history.specs.declared.set.SetEntry.{SetEntry}

module _ {N : Type 0} (entries_in : Option N → List SetEntry) (es : List (Event N)) (e : Event N) where
  -- no entry
  pub entries_same : entries_in e.note ≡ [] → noted_entries entries_in (es ++ e ∷ []) ≡ noted_entries entries_in es
  entries_same none = noted-snoc entries_in es e ∙ (ap (λ z. noted_entries entries_in es ++ z) none ∙ append-nil (noted_entries entries_in es))

  -- one entry
  entries_more : (entry : SetEntry) → entries_in e.note ≡ entry ∷ [] → noted_entries entries_in (es ++ e ∷ []) ≡ noted_entries entries_in es ++ entry ∷ []
  entries_more entry one = noted-snoc entries_in es e ∙ ap (λ z. noted_entries entries_in es ++ z) one

  pub set_more : (entry : SetEntry) → entries_in e.note ≡ entry ∷ []
      → keys_after [] (noted_entries entries_in (es ++ e ∷ [])) ≡ keys_after (keys_after [] (noted_entries entries_in es)) (entry ∷ [])
  set_more entry one = ap (keys_after []) (entries_more entry one) ∙ keys_after-snoc [] (noted_entries entries_in es) entry

  pub legal_one : (entry : SetEntry) → entries_in e.note ≡ entry ∷ [] → IsLegalSet (noted_entries entries_in es)
      → IsLegalSetFrom (keys_after [] (noted_entries entries_in es)) (entry ∷ []) → IsLegalSet (noted_entries entries_in (es ++ e ∷ []))
  legal_one entry one legal fits = rw (entries_more entry one) (IsLegalSetFrom-snoc [] (noted_entries entries_in es) entry legal fits)
