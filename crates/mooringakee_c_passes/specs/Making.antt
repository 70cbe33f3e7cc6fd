-- What making a container answers, by the passes at which it is to be made before it, `old`, and after it, `new`.
use Rattle.std.specs.Prelude.{All, List, None, Some, length, ℕ, ◌+◌, ◌^◌, ◌≡◌, ◌≤◌}
use Rattle.orc_chain_rule.specs.declared.chain.Chain.{Chain}
use Rattle.orc_chain_rule.specs.declared.chain.ChainNote.{ChainNote}
use Rattle.orc_fifo_rule.specs.declared.fifo.Fifo.{Fifo}
use Rattle.orc_fifo_rule.specs.declared.fifo.FifoNote.{FifoNote}
use Rattle.orc_domain.specs.Passes.{domain_bounds}
use Rattle.orc_domain.specs.declared.domain.OrcDomain.{OrcDomain}
use Rattle.orc_shared_words.specs.Lists.{EachAt}
use Rattle.orc_split_rule.specs.SplitDiscipline.{IsSize}
use Rattle.orc_split_rule.specs.declared.split.Split.{Split as SplitRule}
use Rattle.orc_split_rule.specs.declared.split.SplitNote.{SplitNote}
use Rattle.orc_words.specs.Bounds.{Bounds, IsShape}
use Rattle.mooringakee_c_passes.specs.Kinds.{BeginsAtZero, queue, set, split}
use Rattle.mooringakee_c_passes.specs.Places.{IsNewPlace}
use Rattle.mooringakee_c_passes.specs.declared.answer.Answer.{Answer}
use Rattle.mooringakee_c_passes.specs.declared.answer.Answer.TheVariants.{Done, Live, NoMemory, Shape}
use Rattle.mooringakee_c_passes.specs.declared.pass.Pass.{Pass}
use Rattle.mooringakee_c_passes.specs.declared.seat.Seat.{Seat}
use Rattle.mooringakee_c_passes.specs.declared.seat.Seat.TheVariants.{Queue, Set, Split}

-- the sizes of a container with so many rows, roots and agents
abbrev pub sizes_of : ℕ → ℕ → ℕ → Bounds
sizes_of rows roots agents = record { rows = rows; roots = roots; agents = agents; limit = 2 ^ 39; links = 1 }

-- all numbers of a container are in range
abbrev pub CanBeMade : ℕ → ℕ → ℕ → ℕ → Type 0
CanBeMade rows roots turns agents = IsShape (sizes_of rows roots agents) × (1 ≤ turns)

-- so are those of a split-ordered set, which has a root for each bucket that there may be, and one more; these are a power of two up to 256
abbrev pub CanBeSplit : ℕ → ℕ → ℕ → ℕ → Type 0
CanBeSplit rows buckets turns agents = IsSize 256 buckets × CanBeMade rows (buckets + 1) turns agents

-- there is no pass at any of these places
abbrev pub AreFree : List Pass → Type 0
AreFree passes = All (λ p. p.pointer.seat ≡ None) passes

-- a pass for each agent, in order, to one new container over a domain of these sizes, at which `IsNew` is the place of an agent
abbrev pub AreNewPasses : {D N : Type 0} → (OrcDomain D N → ℕ → Seat → Type 0) → Bounds → List Pass → Type 0
AreNewPasses {D} {N} IsNew sizes passes = (domain : OrcDomain D N) × (domain_bounds domain ≡ sizes)
    × EachAt (λ agent p. (seat : Seat) × (p.pointer.seat ≡ Some seat) × IsNew domain agent seat) passes

-- the agent's place at a new queue over this domain, whose calls have so many turns
abbrev pub IsNewQueueSeat : OrcDomain Fifo FifoNote → ℕ → ℕ → Seat → Type 0
IsNewQueueSeat domain turns agent (Queue s) = IsNewPlace queue domain turns agent s.container.value.queue.links.domain s × BeginsAtZero domain
IsNewQueueSeat domain turns agent _ = ⊥

-- a pass for each agent, in order, to one new queue
abbrev pub AreNewQueuePasses : ℕ → ℕ → List Pass → Type 0
AreNewQueuePasses rows turns passes =
    AreNewPasses (λ domain agent seat. IsNewQueueSeat domain turns agent seat) (sizes_of rows 2 (length passes)) passes

-- the agent's place at a new set over this domain, whose calls have so many turns
abbrev pub IsNewSetSeat : OrcDomain Chain ChainNote → ℕ → ℕ → Seat → Type 0
IsNewSetSeat domain turns agent (Set s) = IsNewPlace set domain turns agent s.container.value.set.list.links.domain s
IsNewSetSeat domain turns agent _ = ⊥

-- a pass for each agent, in order, to one new set
abbrev pub AreNewSetPasses : ℕ → ℕ → ℕ → List Pass → Type 0
AreNewSetPasses rows buckets turns passes =
    AreNewPasses (λ domain agent seat. IsNewSetSeat domain turns agent seat) (sizes_of rows buckets (length passes)) passes

-- the agent's place at a new split-ordered set over this domain, whose calls have so many turns
abbrev pub IsNewSplitSeat : OrcDomain SplitRule SplitNote → ℕ → ℕ → Seat → Type 0
IsNewSplitSeat domain turns agent (Split s) = IsNewPlace split domain turns agent s.container.value.set.links.domain s
IsNewSplitSeat domain turns agent _ = ⊥

-- a pass for each agent, in order, to one new split-ordered set
abbrev pub AreNewSplitPasses : ℕ → ℕ → ℕ → List Pass → Type 0
AreNewSplitPasses rows buckets turns passes =
    AreNewPasses (λ domain agent seat. IsNewSplitSeat domain turns agent seat) (sizes_of rows (buckets + 1) (length passes)) passes

-- making a container, whose numbers can be so with so many agents, and whose new passes are these
abbrev pub MakesContainer : (ℕ → Type 0) → (List Pass → Type 0) → List Pass → Answer → List Pass → Type 0
MakesContainer CanBe AreNew old Done new = CanBe (length old) × AreFree old × AreNew new
MakesContainer CanBe AreNew old Shape new = (¬ CanBe (length old)) × (new ≡ old)
MakesContainer CanBe AreNew old Live new = (¬ AreFree old) × (new ≡ old)
MakesContainer CanBe AreNew old NoMemory new = CanBe (length old) × AreFree old × (new ≡ old)
MakesContainer CanBe AreNew old _ new = ⊥
