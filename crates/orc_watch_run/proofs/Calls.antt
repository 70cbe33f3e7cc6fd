-- What the calls of a cell add are stretches, and what licenses a refusal stands in the call.
use Rattle.std.proofs.Common.{◌≡◌, ◌≤◌, ◌==◌, ℕ, suc, List, [], ◌∷◌, Bool, true, false, cond, arith, drop, length, subst, ◌∙◌}
use mathlib.Core.List.{IsPrefix}
use Rattle.orc_board.specs.Stretches.{Stretch, View}
use Rattle.orc_board.proofs.Asking.{Asks}
use Rattle.orc_board.proofs.Shares.{Stretch-trans}
use Rattle.orc_history.specs.Parts.{WithinPart, first_step}
use Rattle.orc_cell.specs.CellCalls.{IsUsable}
use Rattle.orc_heap.specs.Domains.{agent as agent_in}
use Rattle.orc_heap.specs.declared.links.Links.{Ghosts as LinksOf}
use Rattle.orc_cell.specs.declared.refused.CellRefused.{CellRefused}
use Rattle.orc_history.specs.Journals.{Adds, Within}
use Rattle.orc_pairs_rule.specs.CellHistory.{agent_of_entry}
use Rattle.orc_pairs_rule.specs.declared.entry.CellEntry.{CellEntry}
use Rattle.orc_pairs_rule.specs.declared.pairs.PairsNote.{PairsNote}
use Rattle.orc_watch_run.specs.CellView.{cell_view, of_cell}
use Rattle.orc_watch_run.specs.WatchCalls.{KeepsAgent}

added : {A : Type 0} (x : View A CellEntry CellRefused) (agent : ℕ) (own : List CellEntry) (j k : List A)
    → IsPrefix j k → Adds agent_of_entry x.crowd agent (x.history j) own (x.history k) → Stretch of_cell x agent own j k
added x agent own j k later a = record { later = later; part = a.part; is = a.is; own_is = a.own_is; others = a.others }

-- a call after refusals that were made again; `now` is the agent as the last call has it
pub cell_call : {A : Type 0} (x : View A CellEntry CellRefused) (agent now : ℕ) → now ≡ agent → (own : ℕ → List CellEntry) (i j k : List A)
    → Stretch of_cell x agent [] i j → IsPrefix j k → Adds agent_of_entry x.crowd now (x.history j) (own now) (x.history k)
    → Stretch of_cell x agent (own agent) i k
cell_call x agent now same own i j k before later a =
    Stretch-trans of_cell x agent [] (own agent) i j k before
    (subst (λ (n : ℕ). Stretch of_cell x n (own n) j k) same (added x now (own now) j k later a))

-- so far the calls that were made again added nothing of the agent's own
abbrev pub AsksCell : {L D P S : Type 0} → LinksOf L D P S PairsNote → L → P → P → Type 0
AsksCell m links old new = Asks of_cell (cell_view m links) (IsUsable m links) (agent_in m links) m.journal old new

pub asks_again : {L D P S : Type 0} (m : LinksOf L D P S PairsNote) (links : L) (first p now : P) → AsksCell m links first p → IsUsable m links now
    → KeepsAgent m links p now → IsPrefix (m.journal p) (m.journal now)
    → Adds agent_of_entry (cell_view m links).crowd (agent_in m links p) ((cell_view m links).history (m.journal p)) [] ((cell_view m links).history (m.journal now))
    → AsksCell m links first now
asks_again m links first p now asks usable same later none = record {
  usable = usable;
  agent = same ∙ asks.agent;
  quiet = cell_call (cell_view m links) _ _ asks.agent (λ a. []) _ _ _ asks.quiet later none;
}

module _ {S : Type 0} (agent_of : S → ℕ) (agent : ℕ) where
  first_low : (place : ℕ) (xs : List S) → place ≤ first_step agent_of agent place xs
  first_low place [] = omega arith
  first_low place (x ∷ xs) = cases (agent_of x == agent) (first_low (suc place) xs)
    where
      cases : (b : Bool) → suc place ≤ first_step agent_of agent (suc place) xs → place ≤ cond b place (first_step agent_of agent (suc place) xs)
      cases true h = omega arith
      cases false h = omega (arith, h)

  -- what stands in a call's part stands in the call
  pub within_call : (before after : List S) (Fact : ℕ → ℕ → Type 0) → WithinPart agent_of agent before after Fact → Within (length before) (length after) Fact
  within_call before after Fact w =
      let (from, to, low, order, high, fact) = w.within in
      (from, to, omega (arith, low, first_low (length before) (drop (length before) after)), order, high, fact)
