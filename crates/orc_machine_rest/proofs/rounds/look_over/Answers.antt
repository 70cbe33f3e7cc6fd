use Rattle.std.proofs.Common.{Bool, None, Option, Some, ap, arith, cond, false, inl, inr, refl, sym, true, ℕ, ◌∙◌, ◌≡◌}
use Rattle.std.specs.Prelude.{is_some, ◌==◌}
use Rattle.orc_core.specs.RecordParts.{kept}
use Rattle.orc_core.specs.declared.records.Agent.{Agent}
use Rattle.orc_core.specs.declared.records.Doom.{Doom}
use Rattle.orc_core.specs.declared.records.Scan.{Scan}
use Rattle.orc_machine_rest.proofs.Joins.{opens_less, opens_next, opens_then}
use Rattle.orc_machine_rest.proofs.Passes.{bounds_are}
use Rattle.orc_machine_rest.specs.Passes.{agent_record, state_of}
use Rattle.orc_machine_board.specs.Views.{board_bounds}
use Rattle.orc_rest.proofs.Calls.{end_allowed}
use Rattle.orc_rest.proofs.Looks.{hand_allowed}
use Rattle.orc_rest.specs.Records.{IsDoomOf}
use Rattle.orc_words.specs.Bounds.{Bounds}
use Rattle.orc_machine_rest.proofs.rounds.look_over.Goals as goal

no_scan : (o : Option Scan) → is_some o ≡ false → o ≡ None
no_scan None e = refl
no_scan (Some s) e = cc

-- a scan that ends leaves none where its row is doomed by it
doomed : (t : Bool) (s : Scan) (r : ℕ) (o : Option Doom) → cond t None (Some s) ≡ None → IsDoomOf r 0 (cond t (Some (record { row = r; cuts = 0; bare = false })) o)
doomed true s r o e = refl
doomed false s r o e = cc

pub loop-k-init : goal.loop-k-init
loop-k-init g c = record {
  pass = c.requires.pass;
  opens = inl refl;
  still = c.requires.still;
  doom = c.requires.doom;
  scan = c.requires.scan;
  few = omega arith;
}

pub look_step-requires-clause-pass : goal.look_step-requires-clause-pass
look_step-requires-clause-pass g c = c.loop-k.invariant.pass

pub look_step-requires-clause-still : goal.look_step-requires-clause-still
look_step-requires-clause-still g c = c.loop-k.invariant.still

pub look_step-requires-clause-scan : goal.look_step-requires-clause-scan
look_step-requires-clause-scan g c = c.loop-k.invariant.scan

pub look_step-requires-clause-place : goal.look_step-requires-clause-place
look_step-requires-clause-place g c =
    let agents = ap (λ (b : Bounds). b.agents) (bounds_are c.args.board.now c.loop-k.p) in
    let shape = ap (λ (b : Bounds). b.agents) c.shape.ensures in
    let end = c.agents-end.ensures in
    let below = c.loop-k-test.true in
    omega (arith, below)

pub settle_step-requires-clause-allowed : goal.settle_step-requires-clause-allowed
settle_step-requires-clause-allowed g c =
    let n = state_of c.args.board.now c.look_step.new.p in
    let looks = c.look_step.ensures.looks in
    let agents = ap (λ (b : Bounds). b.agents) (bounds_are c.args.board.now c.look_step.new.p) in
    let shape = ap (λ (b : Bounds). b.agents) c.shape.ensures in
    let end = c.agents-end.ensures in
    let below = c.loop-k-test.true in
    hand_allowed n c.args.agent c.args.row c.loop-k.k c.look_step.ensures.pass.low looks.still
    (looks.found (sym c.look_step.ensures.found ∙ c.if-look_step.true)) (omega (arith, below))

pub returns-then-look_step-clause-opens : goal.returns-then-look_step-clause-opens
returns-then-look_step-clause-opens g c =
    let b = board_bounds c.args.board.now in
    let i = c.loop-k.invariant in
    opens_next b c.args.agent 1 i.opens i.pass.reached
    (opens_then b c.args.agent 0 1 c.look_step.ensures.opens
    c.settle_step.ensures.goes)

pub returns-then-look_step-clause-few : goal.returns-then-look_step-clause-few
returns-then-look_step-clause-few g c =
    let shape = ap (λ (b : Bounds). b.agents) c.shape.ensures in
    let few = c.loop-k.invariant.few in
    omega (arith, c.agents-end.ensures, c.loop-k-test.true, c.look_step.ensures.few, c.settle_step.ensures.few)

pub loop-k-preserved : goal.loop-k-preserved
loop-k-preserved g c =
    let b = board_bounds c.args.board.now in
    let i = c.loop-k.invariant in
    let looks = c.look_step.ensures.looks in
    let few = c.look_step.ensures.few in
    let before = i.few in
    record {
      pass = c.look_step.ensures.pass;
      opens = inr (opens_next b c.args.agent 0 i.opens i.pass.reached
          c.look_step.ensures.opens);
      still = looks.still;
      doom = looks.doom ∙ i.doom;
      scan = looks.on (sym c.look_step.ensures.found ∙ c.if-look_step.false);
      few = omega (arith, few, before);
    }

pub settle_step-requires-2-clause-allowed : goal.settle_step-requires-2-clause-allowed
settle_step-requires-2-clause-allowed g c =
    let i = c.loop-k.invariant in
    let agents = ap (λ (b : Bounds). b.agents) (bounds_are c.args.board.now c.loop-k.p) in
    let shape = ap (λ (b : Bounds). b.agents) c.shape.ensures in
    let end = c.agents-end.ensures in
    let low = c.loop-k-test.false in
    let high = c.loop-k.auto.k-end in
    let place = c.requires.place in
    end_allowed (state_of c.args.board.now c.loop-k.p) c.args.agent c.args.row c.loop-k.k i.pass.reached i.pass.low i.still i.scan
    (omega (arith, low, high, place))

pub settle_step-requires-2-clause-settles : goal.settle_step-requires-2-clause-settles
settle_step-requires-2-clause-settles g c = tt

pub free_doomed-requires-clause-scan : goal.free_doomed-requires-clause-scan
free_doomed-requires-clause-scan g c = sym c.kept.ensures.scan ∙ no_scan c.kept.result.now.scan c.if-is_none.ensures

pub free_doomed-requires-clause-doom : goal.free_doomed-requires-clause-doom
free_doomed-requires-clause-doom g c =
    let d = agent_record c.args.board.now c.args.agent c.loop-k.p in
    let ended = c.settle_step-2.ensures.after in
    let none = sym c.kept.ensures.scan ∙ no_scan c.kept.result.now.scan c.if-is_none.ensures in
    ap (λ (e : Agent). e.doom) ended.is
    ∙ doomed (ended.word == kept d.scan) _ c.args.row d.doom (sym (ap (λ (e : Agent). e.scan) ended.is) ∙ none)

pub returns-then-is_none-clause-opens : goal.returns-then-is_none-clause-opens
returns-then-is_none-clause-opens g c =
    let b = board_bounds c.args.board.now in
    let a = c.args.agent in
    let i = c.loop-k.invariant in
    opens_next b a 1 i.opens i.pass.reached
    (opens_less b a 2 1 (omega arith)
    (opens_then b a 1 1
    (c.settle_step-2.ensures.opens tt) c.free_doomed.ensures.goes))

pub returns-then-is_none-clause-few : goal.returns-then-is_none-clause-few
returns-then-is_none-clause-few g c =
    let shape = ap (λ (b : Bounds). b.agents) c.shape.ensures in
    let few = c.loop-k.invariant.few in
    omega (arith, c.agents-end.ensures, c.loop-k.auto.k-end, c.requires.place, c.settle_step-2.ensures.few, c.free_doomed.ensures.few)

pub returns-else-is_none-clause-opens : goal.returns-else-is_none-clause-opens
returns-else-is_none-clause-opens g c =
    let i = c.loop-k.invariant in
    opens_next (board_bounds c.args.board.now) c.args.agent 1 i.opens
    i.pass.reached (c.settle_step-2.ensures.opens tt)

pub returns-else-is_none-clause-few : goal.returns-else-is_none-clause-few
returns-else-is_none-clause-few g c =
    let shape = ap (λ (b : Bounds). b.agents) c.shape.ensures in
    let few = c.loop-k.invariant.few in
    omega (arith, c.agents-end.ensures, c.loop-k.auto.k-end, c.requires.place, c.settle_step-2.ensures.few)
