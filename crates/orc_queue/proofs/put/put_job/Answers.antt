-- No turn, no node, or how the turns ended.
use Rattle.std.proofs.Common.{Err, Result, subst, sym, ℕ, ◌≡◌}
use Rattle.orc_heap.proofs.Pieces.{goes_on}
use Rattle.orc_history.specs.declared.queue.QueueRefused.{QueueRefused}
use Rattle.orc_history.specs.declared.queue.QueueRefused.TheVariants.{Again, NoNode}
use Rattle.orc_queue.specs.Answers.{PutTired}
use Rattle.orc_queue.proofs.Answering.{put_full, put_lacking, put_made, put_none, put_tired}
use Rattle.orc_queue.proofs.put.put_job.Goals as goal

-- turns that ran out lack no node
again_lacks : ◌≡◌ {A = Result ℕ QueueRefused} (Err Again) (Err NoNode) → ⊥
again_lacks is = cc

pub returns-then-turns-eq0-clause-answered : goal.returns-then-turns-eq0-clause-answered
returns-then-turns-eq0-clause-answered g c =
    let n = g.L.Links.numbers _ in
    let s = g.L.Links.seat _ c.args.p.now in
    subst (λ (k : ℕ). PutTired n k s s) (sym c.if-turns-eq0.true) (put_none n s c.requires.idle)

pub returns-in-Err-clause-answered : goal.returns-in-Err-clause-answered
returns-in-Err-clause-answered g c =
    put_lacking _ c.args.turns _ _ c.requires.idle c.if-turns-eq0.false c.in-Err.ensures.none

pub returns-in-Put-clause-answered : goal.returns-in-Put-clause-answered
returns-in-Put-clause-answered g c =
    put_made c.args.turns c.requires.idle c.in-Ok.ensures.given c.if-turns-eq0.false c.release.ensures.released c.in-Put.at c.in-Put.ensures.put

pub returns-in-Full-clause-answered : goal.returns-in-Full-clause-answered
returns-in-Full-clause-answered g c =
    put_full c.args.turns c.requires.idle c.in-Ok.ensures.given c.if-turns-eq0.false c.release.ensures.released c.in-Full.ensures.put

pub put_turns-turn-requires-clause-pass : goal.put_turns-turn-requires-clause-pass
put_turns-turn-requires-clause-pass g c = c.in-Ok.ensures.pass

pub release-requires-clause-pass : goal.release-requires-clause-pass
release-requires-clause-pass g c = c.put_turns-turn.ensures.pass

pub returns-in-Err-clause-pass : goal.returns-in-Err-clause-pass
returns-in-Err-clause-pass g c = c.in-Err.ensures.pass

pub returns-in-Err-clause-later : goal.returns-in-Err-clause-later
returns-in-Err-clause-later g c = c.in-Err.ensures.later

pub returns-in-Put-clause-pass : goal.returns-in-Put-clause-pass
returns-in-Put-clause-pass g c = c.release.ensures.pass

pub returns-in-Put-clause-later : goal.returns-in-Put-clause-later
returns-in-Put-clause-later g c = goes_on _ _ _ c.in-Ok.ensures.later (goes_on _ _ _ c.put_turns-turn.ensures.later c.release.ensures.later)

pub returns-in-Full-clause-pass : goal.returns-in-Full-clause-pass
returns-in-Full-clause-pass g c = c.release.ensures.pass

pub returns-in-Full-clause-later : goal.returns-in-Full-clause-later
returns-in-Full-clause-later g c = goes_on _ _ _ c.in-Ok.ensures.later (goes_on _ _ _ c.put_turns-turn.ensures.later c.release.ensures.later)

pub returns-in-Over : goal.returns-in-Over
returns-in-Over g c =
    record {
      answered = put_tired c.args.turns c.requires.idle c.in-Ok.ensures.given c.if-turns-eq0.false c.release.ensures.released c.in-Over.ensures.put;
      lacking = λ is. absurd (again_lacks is);
      pass = c.release.ensures.pass;
      later = goes_on _ _ _ c.in-Ok.ensures.later (goes_on _ _ _ c.put_turns-turn.ensures.later c.release.ensures.later);
    }
