use Rattle.std.specs.Prelude.{[], ◌*◌, ◌≡◌}
use mathlib.Core.List.{IsPrefix}
use Rattle.orc_heap.specs.Domains.{MakesAtMost}
use Rattle.orc_heap.specs.OwnEvents.{Only}
use Rattle.orc_cell.specs.Turns.{ReadsOver}
use Rattle.orc_cell.proofs.read.read_turns.Given as goal

-- so many turns are over
abbrev pub invariant-loop : goal.invariant-loop
invariant-loop g l = record {
  pass : g.L.Links.belongs l.links l.p;
  later : IsPrefix (g.L.Links.journal l.initial.p) (g.L.Links.journal l.p);
  over : ReadsOver l.counter (g.L.Links.seat l.links l.initial.p) (g.L.Links.seat l.links l.p);
  still : l.counter ≡ 0 → Only [] (g.L.Links.seat l.links l.initial.p) (g.L.Links.seat l.links l.p);
  tries : MakesAtMost g.L.Links l.links (7 * l.counter) l.initial.p l.p;
}
