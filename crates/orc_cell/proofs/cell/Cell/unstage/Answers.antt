-- The staging root is null, and the settling after it changes nothing.
use Rattle.std.proofs.Common.{Some, [], ap, arith, inl, subst, sym, ℕ, ◌*◌, ◌+◌, ◌∙◌, ◌≡◌}
use Rattle.orc_heap.proofs.Pieces.{goes_on}
use Rattle.orc_heap.proofs.InJournal.{call_seen, settling_alone}
use Rattle.orc_heap.specs.Heap.{link_to, shown}
use Rattle.orc_heap.specs.Seats.{heap_of}
use Rattle.orc_heap.specs.Slots.{id_in}
use Rattle.orc_heap.specs.declared.events.Place.TheVariants.{Root}
use Rattle.orc_pairs_rule.specs.PairsDiscipline.{PairsMay}
use Rattle.orc_cell.proofs.Journals.{call_adds, gave_at_most}
use Rattle.orc_cell.proofs.Stopping.{piece_settled, unstaged_null}
use Rattle.orc_cell.proofs.Counting.{made}
use Rattle.orc_cell.proofs.cell.Cell.unstage.Goals as goal

pub staging_roots-roots-requires : goal.staging_roots-roots-requires
staging_roots-roots-requires g c =
    let made = c.args.self.now.made in
    let below = (g.met.L.Links.agents_below _ c.args.p.now c.requires.staged.pass).0 in
    omega (arith, made.roots, made.few, below, c.agent.ensures)

pub unstage-requires : goal.unstage-requires
unstage-requires g c =
    let d = c.args.self.now.links in
    let s = g.L.Links.seat d c.args.p.now in
    let staged = c.requires.staged in
    let made = c.args.self.now.made in
    let below = (g.met.L.Links.agents_below d c.args.p.now staged.pass).0 in
    let first = c.staging_roots-roots.ensures.0 ∙ ap (λ (i : ℕ). 1 + 2 * i) c.agent.ensures in
    record {
      pass = staged.pass;
      there = omega (arith, first, made.roots, below);
      staging = inl first;
      held = staged.held;
      shows = subst (λ (r : ℕ). shown (heap_of (g.L.Links.numbers d) s) (Root r) ≡ Some (link_to (id_in s.slots c.args.part))) (sym first) staged.first;
      no_fresh = staged.fresh;
    }

pub settle-requires : goal.settle-requires
settle-requires g c =
    let e = c.unstage.ensures in
    let u = e.unstaged in
    record { pass = e.pass; idle = record { slots = u.slots ∙ c.requires.staged.alone; fresh = u.fresh } }

pub returns : goal.returns
returns g c =
    let d = c.args.self.now.links in
    let e = c.unstage.ensures in
    let u = e.unstaged in
    let settle = c.settle.ensures in
    let o = settle.nothing in
    let staged = c.requires.staged in
    let first = c.staging_roots-roots.ensures.0 ∙ ap (λ (i : ℕ). 1 + 2 * i) c.agent.ensures in
    let grows = goes_on _ _ _ e.later settle.later in
    let seen = call_seen PairsMay g.L.Links d c.args.p.now _ (g.met.L.Links.seen_is d) (g.met.L.Links.allowed d)
    (g.met.L.Links.agents_below d _ settle.pass).1 (g.met.L.Links.steps_add d) staged.pass settle.pass grows in
    let piece = piece_settled u.piece o in
    record {
      usable = record {
        pass = settle.pass;
        idle = record { slots = o.slots ∙ (u.slots ∙ staged.alone); fresh = o.fresh ∙ u.fresh };
        staging = unstaged_null _ c.staging_roots-roots.result.0 c.args.part _ _ _ first u o (g.met.L.Links.allowed _ _ settle.pass) staged.second;
      };
      agent = o.puts.agent ∙ u.piece.puts.agent;
      later = grows;
      none = call_adds seen 0 [] piece;
      gives = gave_at_most piece;
      tries = omega (arith, e.tries, made o.puts);
      settled = λ alone. settle.settled
          (settling_alone g.L.Links d c.args.p.now c.unstage.new.p c.settle.new.p e.later settle.later u.piece.puts.agent alone);
    }
