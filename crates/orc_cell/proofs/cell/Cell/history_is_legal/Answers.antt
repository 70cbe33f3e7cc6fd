-- The discipline holds of what a pass has seen.
use Rattle.std.proofs.Common.{subst}
use Rattle.orc_heap.specs.Seats.{heap_of}
use Rattle.orc_pairs_rule.specs.CellHistory.{IsLegalCell, no_parts, parts_after}
use Rattle.orc_pairs_rule.specs.PairsDiscipline.{ShowsParts, entries_of}
use Rattle.orc_cell.proofs.cell.Cell.history_is_legal.Goals as goal

pub returns : goal.returns
returns g c =
    let d = c.args.self.now.links in
    let p = c.args.p.now in
    let holds = g.met.L.Links.obeys d p c.requires.pass in
    let is = g.met.L.Links.seen_is d p c.requires.pass in
    record {
      legal = subst (λ z. IsLegalCell (entries_of z)) is holds.legal;
      shows = subst (λ z. ShowsParts (heap_of (g.L.Links.numbers d) (g.L.Links.seat d p)) (parts_after no_parts (entries_of z))) is holds.shows;
    }
