-- The queues of a pipeline over any domain, and what is left of them.
use Rattle.std.specs.Prelude.{◌≡◌, ◌++◌, ◌∷◌, ℕ, suc, List, []}
use Rattle.std.proofs.Common.{zero}
use Rattle.orc_core.specs.declared.records.Agent.{Agent}
use Rattle.orc_sound.specs.declared.steps.Step.{Step}
use Rattle.orc_heap.specs.declared.discipline.Discipline as discipline
use Rattle.orc_heap.specs.declared.links.Links.{Ghosts as LinksOf}
use Rattle.orc_shared_words.specs.declared.machine.Machine as machine
use Rattle.orc_machine_board.specs.declared.machine.MachineShape.{MachineShape}
use Rattle.orc_machine_board.specs.declared.machine.Reclaiming.{Reclaiming}
use Rattle.orc_machine_board.specs.declared.machine.Request.{Request}
use Rattle.orc_fifo_rule.specs.declared.fifo.Fifo.{Fifo}
use Rattle.orc_fifo_rule.specs.declared.fifo.FifoNote.{FifoNote}
use Rattle.orc_domain.specs.Rest.{rest_journal}
use Rattle.orc_domain.specs.declared.at_rest.OrcRest.{OrcRest}
use Rattle.orc_at_rest.specs.Domains.{IsLeftOf}

-- of queues over these domains
module _ {Q L D P S R : Type 0} (domain_of : Q → L) (members : LinksOf L D P S FifoNote) (rests : L → List P → R → Type 0) where
  -- each of these is what is left of the queue at its place, whose passes had seen the journal of that place
  abbrev pub AreLeft : List Q → (ℕ → List S) → List R → Type 0
  AreLeft [] k [] = Unit {0}
  AreLeft [] k (r ∷ rs) = ⊥
  AreLeft (queue ∷ queues) k [] = ⊥
  AreLeft (queue ∷ queues) k (r ∷ rs) = IsLeftOf members rests (domain_of queue) (k 0) r × AreLeft queues (λ i. k (suc i)) rs

  -- what is left of these queues was put behind what was there before
  pub record LeavesMore (queues : List Q) (k : ℕ → List S) (before after : List R) : Type 0 where
    pub more : List R
    pub is : after ≡ before ++ more
    pub left : AreLeft queues k more

module _ {d : discipline.Ghosts Fifo FifoNote}
    {m : machine.Ghosts Reclaiming FifoNote (MachineShape FifoNote) Request (Step FifoNote) Agent Agent}
  where
    -- the journal of the queue at a place, from 0
    abbrev pub journal_at : List (OrcRest Fifo FifoNote d m) → ℕ → List (Step FifoNote)
    journal_at [] i = []
    journal_at (r ∷ rs) zero = rest_journal r
    journal_at (r ∷ rs) (suc i) = journal_at rs i
