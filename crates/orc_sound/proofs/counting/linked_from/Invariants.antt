use Rattle.std.proofs.Common.{◌≡◌, ◌≤◌}
use Rattle.std.specs.Prelude.{◌&&◌}
use Rattle.orc_words.specs.Places.{link_at}
use Rattle.orc_core.specs.Machine.{word_in}
use Rattle.orc_core.specs.Counts.{is_out, links_to}
use Rattle.orc_core.proofs.Counted.{counted}
use Rattle.orc_sound.proofs.counting.linked_from.Given as goal

abbrev pub invariant-loop-number : goal.invariant-loop-number
invariant-loop-number l =
    record { so_far : l.count ≡ counted l.number (λ n. is_out l.state l.from && links_to (word_in l.state (link_at n l.from)) l.row); small : l.count ≤ l.number }
