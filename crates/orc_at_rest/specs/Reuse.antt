-- How the rows of a journal are used again. The scheme is OrcGC (Correia, Ramalhete and Felber 2021); what it keeps is said of the
-- steps alone.
use Rattle.std.specs.Prelude.{◌≡◌, ◌+◌, ◌++◌, ◌∷◌, ℕ, List, length}
use Rattle.orc_words.specs.Bounds.{Bounds}
use Rattle.orc_core.specs.Machine.{Machine, answer, new_machine, step}
use Rattle.orc_core.specs.declared.ops.Op.TheVariants.{Free, GateTake}
use Rattle.orc_sound.specs.Journals.{plain}
use Rattle.orc_sound.specs.Lifetimes.{times_freed, times_taken}
use Rattle.orc_sound.specs.Linked.{IsOut, IsUnreachable}
use Rattle.orc_sound.specs.declared.steps.Step.{Step}
use Rattle.orc_heap.specs.Journals.{run_heap}
use Rattle.orc_projection.specs.Mirror.{numbers_of}
use Rattle.orc_projection.specs.Projection.{present_ids, project}
use Rattle.orc_rest.specs.Reached.{AreTheReached, IsReached, LiesInOneRow}
use Rattle.orc_rest.specs.Rest.{IsAtRest}
use Rattle.orc_rest.specs.Reuse.{given, reused, rows_out}
use Rattle.orc_machine_board.specs.Rules.{run_of}

module _ {N : Type 0} (b : Bounds) (journal : List (Step N)) where
  -- each Free finds its row with no link, no hold and no pending change
  abbrev pub FreesUnreachableRows : Type 0
  FreesUnreachableRows = (before after : List (Step N)) (s : Step N) (r : ℕ) → journal ≡ before ++ s ∷ after → s.op ≡ Free r
      → IsOut (run_of b before) r × IsUnreachable (run_of b before) r

  -- the step takes the row in this state
  pub record TakesRow (m : Machine) (s : Step N) (r : ℕ) : Type 0 where
    pub op : s.op ≡ GateTake r
    pub done : answer m s.agent s.op ≡ 1

  -- between two takes of a row it is freed once more than it is taken there: exactly once, if the later take is the next
  abbrev pub FreesOnceBetweenTakes : Type 0
  FreesOnceBetweenTakes = (before between after : List (Step N)) (s t : Step N) (r : ℕ)
      → journal ≡ before ++ s ∷ (between ++ t ∷ after) → TakesRow (run_of b before) s r → TakesRow (run_of b (before ++ s ∷ between)) t r
      → times_freed (plain between) r ≡ times_taken (step (run_of b before) s.agent s.op) (plain between) r + 1

  -- no row is used again while a link or a hold leads to it, nor twice in one life
  pub record ReusesSafely : Type 0 where
    pub unreachable : FreesUnreachableRows
    pub once : FreesOnceBetweenTakes

  -- at the end nothing is under way, and nothing leaked: what was given was freed or is out, and the rows that are out are those
  -- of the nodes that the roots reach
  pub record LeaksNothing : Type 0 where
    pub rest : IsAtRest (run_of b journal)
    pub balance : given (new_machine b) (plain journal) ≡ reused (plain journal) + rows_out (run_of b journal)
    pub reached : (r : ℕ) → IsOut (run_of b journal) r → IsReached (numbers_of b) (run_heap (numbers_of b) (project b journal)) ((present_ids b journal).node r)
    pub one_row : (id : ℕ) → IsReached (numbers_of b) (run_heap (numbers_of b) (project b journal)) id
        → LiesInOneRow (run_of b journal) (present_ids b journal) id
    pub ids : List ℕ
    pub ids_are : AreTheReached (numbers_of b) (run_heap (numbers_of b) (project b journal)) ids
    pub linked : length ids ≡ rows_out (run_of b journal)
