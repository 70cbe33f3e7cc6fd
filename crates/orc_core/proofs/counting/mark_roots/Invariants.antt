use Rattle.std.proofs.Common.{◌≡◌, ℕ, ◌<◌, false}
use Rattle.std.specs.Prelude.{◌||◌, slice_index_or}
use Rattle.orc_words.specs.declared.place.Word.TheVariants.{Root}
use Rattle.orc_core.specs.Machine.{word_in}
use Rattle.orc_core.specs.Sums.{some_below}
use Rattle.orc_core.specs.Counts.{links_to}
use Rattle.orc_core.proofs.counting.mark_roots.Given as goal

abbrev pub invariant-loop-root : goal.invariant-loop-root
invariant-loop-root l = (r : ℕ) → r < 65535
    → slice_index_or l.marked r false ≡ (slice_index_or l.fn.marked r false || some_below l.root (λ i. links_to (word_in l.state (Root i)) r))
