-- What the members of `SharedSet` and `LearnSet` mean for a set over a domain of links with the chain discipline.
use Rattle.std.specs.Prelude.{List, ℕ}
use Rattle.orc_heap.specs.Seats.{IsIdle}
use Rattle.orc_heap.specs.declared.links.Links.{Ghosts as LinksOf}
use Rattle.orc_history.specs.declared.set.ListRefused.{ListRefused}
use Rattle.orc_history.specs.declared.set.SetEntry.{SetEntry}
use Rattle.orc_chain_rule.specs.ChainDiscipline.{entries_of}
use Rattle.orc_chain_rule.specs.declared.chain.ChainNote.{ChainNote}
use Rattle.orc_list.specs.Causes.{Cause}

module _ {L D P S : Type 0} (members : LinksOf L D P S ChainNote) (links : L) where
  -- the pass is one of the domain, and idle
  abbrev pub IsUsable : P → Type 0
  IsUsable p = members.belongs links p × IsIdle (members.seat links p)

  -- the history is that of the domain's events
  abbrev pub set_history : List S → List SetEntry
  set_history journal = entries_of (members.events links journal)

  -- a refusal has its cause between two places of the journal
  abbrev pub HasCause : ℕ → ℕ → ListRefused → List S → ℕ → ℕ → Type 0
  HasCause agent turns why journal from to =
      Cause (members.numbers links) members.agent_of (members.events links) (members.lacking links agent journal from to)
      (λ spent. members.worn links agent spent journal from to) agent turns why journal from to
