use Rattle.orc_rest.proofs.ForRuns.{other_handovers, own_words}
use Rattle.orc_rest.proofs.laws.settling_hands_nothing_over.Goals as goal

pub returns : goal.returns
returns c = record { own = own_words; others = other_handovers }
