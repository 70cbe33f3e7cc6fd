-- What the passes of a domain of links have seen.
use Rattle.std.proofs.Common.{List, [], true, ◌++◌, ◌==◌, ◌∷◌, ◌≡◌}
use Rattle.std.specs.List.{list_all}
use mathlib.Core.List.{IsPrefix}
use Rattle.orc_heap.specs.declared.events.Event.{Event}
use Rattle.orc_heap.specs.declared.links.Links.{Ghosts as LinksOf}
use Rattle.orc_split_rule.specs.declared.split.SplitNote.{SplitNote}
use Rattle.orc_split_set.proofs.Crowding.{seen_grows}

module _ {L D P S : Type 0} (m : LinksOf L D P S SplitNote) where
  -- a step adds events of its agent alone
  abbrev pub StepsAdd : Type 0
  StepsAdd = (links : L) (j : List S) (s : S)
      → (es : List (Event SplitNote)) × (m.events links (j ++ s ∷ []) ≡ m.events links j ++ es) × (list_all (λ e. e.agent == m.agent_of s) es ≡ true)

  -- a pass has seen the events of its journal
  abbrev pub SeenIs : Type 0
  SeenIs = (links : L) (p : P) → m.belongs links p → (m.seat links p).seen ≡ m.events links (m.journal p)

  -- so it has seen more as the journal goes on
  pub seen_on : StepsAdd → SeenIs → (links : L) (p q : P) → m.belongs links p → m.belongs links q → IsPrefix (m.journal p) (m.journal q)
      → IsPrefix (m.seat links p).seen (m.seat links q).seen
  seen_on adds seen_is links p q in_p in_q grows =
      seen_grows (m.events links) m.agent_of (adds links) (m.journal p) (m.journal q) (m.seat links p) (m.seat links q) grows
      (seen_is links p in_p) (seen_is links q in_q)
