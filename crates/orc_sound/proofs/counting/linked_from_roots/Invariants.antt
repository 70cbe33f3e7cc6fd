use Rattle.std.proofs.Common.{◌≡◌, ◌≤◌}
use Rattle.orc_words.specs.declared.place.Word.TheVariants.{Root}
use Rattle.orc_core.specs.Machine.{word_in}
use Rattle.orc_core.specs.Counts.{links_to}
use Rattle.orc_core.proofs.Counted.{counted}
use Rattle.orc_sound.proofs.counting.linked_from_roots.Given as goal

abbrev pub invariant-loop-root : goal.invariant-loop-root
invariant-loop-root l = record { so_far : l.count ≡ counted l.root (λ i. links_to (word_in l.state (Root i)) l.row); small : l.count ≤ l.root }
