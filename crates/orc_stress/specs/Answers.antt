-- How many calls ended in which way.
use Rattle.std.specs.Prelude.{ℕ, ◌+◌}
use Rattle.orc_stress.specs.declared.tally.Answer.{Answer}
use Rattle.orc_stress.specs.declared.tally.Answer.TheVariants as ends
use Rattle.orc_stress.specs.declared.tally.Answers.{Answers}

-- all calls
abbrev pub calls_of : Answers → ℕ
calls_of a = a.ok + a.empty + a.again + a.no_node + a.spent + a.positions

-- one call more, which ended so
abbrev pub counted : Answer → Answers → Answers
counted ends.Ok a = record a { ok = a.ok + 1 }
counted ends.Empty a = record a { empty = a.empty + 1 }
counted ends.Again a = record a { again = a.again + 1 }
counted ends.NoNode a = record a { no_node = a.no_node + 1 }
counted ends.Spent a = record a { spent = a.spent + 1 }
counted ends.Positions a = record a { positions = a.positions + 1 }

-- the calls of both
abbrev pub summed : Answers → Answers → Answers
summed a b = record {
  ok = a.ok + b.ok;
  empty = a.empty + b.empty;
  again = a.again + b.again;
  no_node = a.no_node + b.no_node;
  spent = a.spent + b.spent;
  positions = a.positions + b.positions;
}
