-- The part was given and staged; or no row could be given, and nothing was done.
use Rattle.std.proofs.Common.{None, Option, Some, [], ap, arith, inl, slice_get, subst, sym, ℕ, ◌*◌, ◌+◌, ◌∙◌, ◌≡◌}
use Rattle.orc_heap.proofs.InJournal.{CallSeen, call_seen}
use Rattle.orc_heap.proofs.Pieces.{slot_id}
use Rattle.orc_heap.specs.Seats.{heap_of}
use Rattle.orc_heap.specs.Slots.{Hold, IsFree, Slots}
use Rattle.orc_pairs_rule.specs.PairsDiscipline.{HasPart, PairsMay}
use Rattle.orc_cell.specs.Answers.{AnswersPiece}
use Rattle.orc_cell.proofs.Journals.{call_adds, gave_at_most}
use Rattle.orc_cell.proofs.Pieces.{finds_none}
use Rattle.orc_cell.proofs.Settled.{idle_after, staging_after}
use Rattle.orc_cell.proofs.Staging.{finds_piece, found_answered}
use Rattle.orc_cell.proofs.cell.Cell.stage_and_stop.Given.{Over}
use Rattle.orc_cell.proofs.cell.Cell.stage_and_stop.Goals.{After-stage}
use Rattle.orc_cell.proofs.cell.Cell.stage_and_stop.Goals as goal

-- what the pass has seen of the call
seen : (g : Over) (c : After-stage g) → let d = c.args.self.now.links in
    CallSeen PairsMay (g.L.Links.numbers d) (g.L.Links.agents d) g.L.Links.agent_of (g.L.Links.events d) (g.L.Links.seat d c.args.p.now)
    (g.L.Links.seat d c.stage.new.p) (g.L.Links.journal c.args.p.now) (g.L.Links.journal c.stage.new.p)
seen g c =
    let d = c.args.self.now.links in
    let e = c.stage.ensures in
    call_seen PairsMay g.L.Links d c.args.p.now c.stage.new.p (g.met.L.Links.seen_is d) (g.met.L.Links.allowed d)
    (g.met.L.Links.agents_below d c.stage.new.p e.pass).1 (g.met.L.Links.steps_add d) c.requires.usable.pass e.pass e.later

-- a part was staged
some_none : (h : Hold) → ◌≡◌ {A = Option Hold} (Some h) None → ⊥
some_none h is = cc

pub staging_roots-roots-requires : goal.staging_roots-roots-requires
staging_roots-roots-requires g c =
    let made = c.args.self.now.made in
    let below = (g.met.L.Links.agents_below _ c.args.p.now c.requires.usable.pass).0 in
    omega (arith, made.roots, made.few, below, c.agent.ensures)

pub stage-requires : goal.stage-requires
stage-requires g c =
    let d = c.args.self.now.links in
    let made = c.args.self.now.made in
    let usable = c.requires.usable in
    let below = (g.met.L.Links.agents_below d c.args.p.now usable.pass).0 in
    let root = c.staging_roots-roots.result.0 in
    let first = c.staging_roots-roots.ensures.0 ∙ ap (λ (i : ℕ). 1 + 2 * i) c.agent.ensures in
    record {
      pass = usable.pass;
      there = omega (arith, first, made.roots, below);
      staging = inl first;
      empty = usable.staging root (inl first);
      slot = record { above = omega arith; below = omega arith; empty = ap (λ (z : Slots). slice_get z 1) usable.idle.slots };
      no_fresh = usable.idle.fresh;
    }

pub returns-in-Ok-clause-agent : goal.returns-in-Ok-clause-agent
returns-in-Ok-clause-agent g c = c.in-Ok.ensures.staged.piece.puts.agent

pub returns-in-Ok-clause-later : goal.returns-in-Ok-clause-later
returns-in-Ok-clause-later g c = c.in-Ok.ensures.later

pub returns-in-Ok-clause-left : goal.returns-in-Ok-clause-left
returns-in-Ok-clause-left g c =
    let d = c.args.self.now.links in
    let n = g.L.Links.numbers d in
    let s = g.L.Links.seat d c.args.p.now in
    let t = g.L.Links.seat d c.stage.new.p in
    let x = c.in-Ok.ensures.staged in
    let free : IsFree s.slots 1 = record { above = omega arith; below = omega arith; empty = ap (λ (z : Slots). slice_get z 1) c.requires.usable.idle.slots } in
    subst (λ (i : ℕ). HasPart (heap_of n t) i c.args.left) (sym (slot_id s t 1 x.id c.in-Ok.part free x.in_slot)) x.part

pub returns-in-Ok-clause-usable : goal.returns-in-Ok-clause-usable
returns-in-Ok-clause-usable g c = λ is. absurd (some_none _ is)

pub returns-in-Ok-clause-no_node : goal.returns-in-Ok-clause-no_node
returns-in-Ok-clause-no_node g c = λ is. absurd (some_none _ is)

pub returns-in-Ok-clause-tries : goal.returns-in-Ok-clause-tries
returns-in-Ok-clause-tries g c = c.in-Ok.ensures.tries

pub returns-in-Err-clause-agent : goal.returns-in-Err-clause-agent
returns-in-Err-clause-agent g c = c.in-Err.ensures.none.puts.agent

pub returns-in-Err-clause-later : goal.returns-in-Err-clause-later
returns-in-Err-clause-later g c = c.in-Err.ensures.later

pub returns-in-Err-clause-no_node : goal.returns-in-Err-clause-no_node
returns-in-Err-clause-no_node g c = λ is. c.in-Err.ensures.lacking

pub returns-in-Err-clause-gives : goal.returns-in-Err-clause-gives
returns-in-Err-clause-gives g c =
    let few = gave_at_most (finds_piece _ _ [] (finds_none _ _ c.in-Err.ensures.none).finds) in
    omega (arith, few)

pub returns-in-Err-clause-tries : goal.returns-in-Err-clause-tries
returns-in-Err-clause-tries g c = c.in-Err.ensures.tries

pub returns-in-Ok-clause-none : goal.returns-in-Ok-clause-none
returns-in-Ok-clause-none g c = call_adds (seen g (goal.at.returns-in-Ok-clause-none g c).After-stage) 1 [] c.in-Ok.ensures.staged.piece

pub returns-in-Ok-clause-gives : goal.returns-in-Ok-clause-gives
returns-in-Ok-clause-gives g c = gave_at_most c.in-Ok.ensures.staged.piece

pub returns-in-Err-clause-usable : goal.returns-in-Err-clause-usable
returns-in-Err-clause-usable g c =
    let d = c.args.self.now.links in
    let t = g.L.Links.seat d c.stage.new.p in
    let e = c.in-Err.ensures in
    let usable = c.requires.usable in
    let answers : AnswersPiece _ 0 _ [] t = record {
      answered = found_answered _ _ t [] (finds_none _ t e.none) (g.met.L.Links.allowed _ _ e.pass);
      fresh = e.none.fresh ∙ usable.idle.fresh;
    } in
    λ is. record { pass = e.pass; idle = idle_after usable.idle answers; staging = staging_after answers usable.staging }

pub returns-in-Err-clause-none : goal.returns-in-Err-clause-none
returns-in-Err-clause-none g c =
    call_adds (seen g (goal.at.returns-in-Err-clause-none g c).After-stage) 0 [] (finds_piece _ _ [] (finds_none _ _ c.in-Err.ensures.none).finds)
