-- The cell comes to rest with all passes that the watch hands back.
use Rattle.std.proofs.Common.{◌+◌, ◌∙◌, ◌≡◌, sym}
use Rattle.std.proofs.lemmas.List.Elements.{All-from_recursion}
use Rattle.orc_watch_domain.proofs.Passes.{are_passes}
use Rattle.orc_watch_domain.proofs.over.watch_over.Goals as goal

pub cell_at_rest-requires-clause-usable : goal.cell_at_rest-requires-clause-usable
cell_at_rest-requires-clause-usable g c =
    let done = c.in_ok-replies.ensures in
    (are_passes _ c.in_ok-cell.cell.links (1 + c.args.workers) c.run_watch.new.passes.items done.usable done.all).usable

pub cell_at_rest-requires-clause-agents : goal.cell_at_rest-requires-clause-agents
cell_at_rest-requires-clause-agents g c =
    let done = c.in_ok-replies.ensures in
    (are_passes _ c.in_ok-cell.cell.links (1 + c.args.workers) c.run_watch.new.passes.items done.usable done.all).numbered

pub cell_at_rest-requires-clause-many : goal.cell_at_rest-requires-clause-many
cell_at_rest-requires-clause-many g c = c.in_ok-replies.ensures.all ∙ sym c.in_ok-cell.ensures.agents

pub returns : goal.returns
returns g c =
    let done = c.in_ok-replies.ensures in
    record {
      domain = c.in_ok-cell.cell.links;
      made = c.in_ok-cell.ensures.made;
      seen = _;
      left = record {
        passes = c.run_watch.new.passes.items;
        is = c.cell_at_rest.ensures;
        saw = All-from_recursion (λ p. g.L.Links.journal p ≡ _) c.run_watch.new.passes.items done.seen;
      };
      follow = done.follows;
    }
