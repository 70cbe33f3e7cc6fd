-- The calls that a pass has seen are those of a legal history.
use Rattle.std.proofs.Common.{refl, subst, ℕ}
use Rattle.orc_chain_rule.specs.contracts.chain.ChainDiscipline.TheImpl.{ghosts as chain}
use Rattle.orc_chain_rule.specs.declared.chain.Chain.{Chain}
use Rattle.orc_chain_rule.specs.declared.chain.ChainNote.{ChainNote}
use Rattle.orc_core.specs.declared.records.Agent.{Agent}
use Rattle.orc_domain.specs.Laws.Passes.{begins_so}
use Rattle.orc_domain.specs.Passes.{IsPassOf, domain_bounds, domain_numbers, domain_opening, journal_of, seat_of}
use Rattle.orc_domain.specs.declared.domain.OrcDomain.{OrcDomain}
use Rattle.orc_domain.specs.declared.domain.OrcPass.{OrcPass}
use Rattle.orc_fifo_rule.specs.contracts.fifo.FifoDiscipline.TheImpl.{ghosts as fifo}
use Rattle.orc_fifo_rule.specs.declared.fifo.Fifo.{Fifo}
use Rattle.orc_fifo_rule.specs.declared.fifo.FifoNote.{FifoNote}
use Rattle.orc_history.specs.QueueHistory.{IsLegalQueue}
use Rattle.orc_history.specs.SetHistory.{IsLegalSet}
use Rattle.orc_list.specs.Laws.SetLaws.{seen_legal as chain_legal}
use Rattle.orc_machine_board.specs.declared.machine.MachineShape.{MachineShape}
use Rattle.orc_machine_board.specs.declared.machine.Reclaiming.{Reclaiming}
use Rattle.orc_machine_board.specs.declared.machine.Request.{Request}
use Rattle.orc_projection.specs.Projection.{project}
use Rattle.orc_queue.specs.Laws.Histories.{seen_legal}
use Rattle.orc_queue.specs.Turns.{HasDummy}
use Rattle.orc_shared_words.specs.declared.machine.Machine as machine
use Rattle.orc_sound.specs.declared.steps.Step.{Step}
use Rattle.orc_split_rule.specs.contracts.split.SplitDiscipline.TheImpl.{ghosts as splits}
use Rattle.orc_split_rule.specs.declared.split.Split.{Split}
use Rattle.orc_split_rule.specs.declared.split.SplitNote.{SplitNote}
use Rattle.orc_split_set.specs.Laws.SetLaws.{seen_legal as split_legal}
use Rattle.mooringakee_c_passes.specs.Kinds.{BeginsAtZero, calls_in, queue, set, split}

module _ {m : machine.Ghosts Reclaiming FifoNote (MachineShape FifoNote) Request (Step FifoNote) Agent Agent} where
  -- of a queue whose positions begin with 0
  pub legal_queue : (x : OrcDomain Fifo FifoNote) (p : OrcPass Fifo FifoNote fifo m)
      → HasDummy (domain_numbers x) (domain_opening x) → BeginsAtZero x → IsPassOf x p → IsLegalQueue 0 (calls_in queue x (journal_of p))
  legal_queue x p made zero belongs =
      subst (λ (n : ℕ). IsLegalQueue n (calls_in queue x (journal_of p))) zero
      (seen_legal (domain_numbers x) (domain_opening x) (seat_of x p).seen (project (domain_bounds x) (journal_of p)) made (begins_so x p belongs)
      belongs.board.keeps.now.each belongs.board.keeps.now.kept refl)

module _ {m : machine.Ghosts Reclaiming ChainNote (MachineShape ChainNote) Request (Step ChainNote) Agent Agent} where
  -- of a bucketed set
  pub legal_set : (x : OrcDomain Chain ChainNote) (p : OrcPass Chain ChainNote chain m)
      → IsPassOf x p → IsLegalSet (calls_in set x (journal_of p))
  legal_set x p belongs =
      chain_legal (domain_numbers x) (seat_of x p).seen (project (domain_bounds x) (journal_of p)) belongs.board.keeps.now.kept refl

module _ {m : machine.Ghosts Reclaiming SplitNote (MachineShape SplitNote) Request (Step SplitNote) Agent Agent} where
  -- of a split-ordered set
  pub legal_split : (x : OrcDomain Split SplitNote) (p : OrcPass Split SplitNote splits m)
      → IsPassOf x p → IsLegalSet (calls_in split x (journal_of p))
  legal_split x p belongs =
      split_legal (domain_numbers x) (seat_of x p).seen (project (domain_bounds x) (journal_of p)) belongs.board.keeps.now.kept refl
