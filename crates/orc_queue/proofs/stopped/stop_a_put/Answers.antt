-- The node, the turn, and the release.
use Rattle.std.proofs.Common.{[], ap, inl, inr, refl, ℕ, ◌∷◌}
use Rattle.orc_heap.proofs.Pieces.{goes_on}
use Rattle.orc_history.specs.declared.queue.QueueEntry.TheVariants.{Put}
use Rattle.orc_queue.proofs.Answering.{no_entries, put_stops, stops_lacking}
use Rattle.orc_queue.proofs.Holding.{pass_known}
use Rattle.orc_queue.proofs.Missing.{full_over}
use Rattle.orc_queue.proofs.stopped.stop_a_put.Goals as goal

pub link_at_tail-turn-requires-clause-pass : goal.link_at_tail-turn-requires-clause-pass
link_at_tail-turn-requires-clause-pass g c = c.in-Ok.ensures.pass

pub release-requires-clause-pass : goal.release-requires-clause-pass
release-requires-clause-pass g c = c.link_at_tail-turn.ensures.pass

pub returns-in-Err : goal.returns-in-Err
returns-in-Err g c =
    record {
      stopped = inr (c.in-Err.ensures.lacking, stops_lacking _ _ c.requires.idle c.in-Err.ensures.none);
      missed = λ is. inl c.in-Err.ensures.lacking;
      pass = c.in-Err.ensures.pass;
      later = c.in-Err.ensures.later;
    }

pub returns-in-Put : goal.returns-in-Put
returns-in-Put g c =
    record {
      stopped = let given = c.in-Ok.ensures.given in
          put_stops c.requires.idle given c.release.ensures.released _ _ c.in-Put.ensures.stopped c.in-Put.ensures.fresh
          (ap (λ (x : ℕ). Put x c.args.job c.in-Put.at ∷ []) given.puts.agent);
      missed = λ is. cc;
      pass = c.release.ensures.pass;
      later = goes_on _ _ _ c.in-Ok.ensures.later (goes_on _ _ _ c.link_at_tail-turn.ensures.later c.release.ensures.later);
    }

pub returns-in_default : goal.returns-in_default
returns-in_default g c =
    record {
      stopped = let e = c.link_at_tail-turn.ensures in
          let none = no_entries _ c.args.job c.link_at_tail-turn.result c.in_default.not-Put in
          inl (put_stops c.requires.idle c.in-Ok.ensures.given c.release.ensures.released _ [] e.stopped e.fresh none);
      missed = λ is.
          let known = pass_known g.L.Links g.met.L.Links.opens g.met.L.Links.allowed g.met.L.Links.obeys _ _ c.requires.made c.requires.pass in
          let e = c.link_at_tail-turn.ensures in
          inr (full_over _ _ _ _ _ _ e.stopped.piece.own c.in-Ok.ensures.given.puts e.stopped.piece.puts c.release.ensures.released.puts known
          (g.met.L.Links.allowed _ _ c.in-Ok.ensures.pass) refl (λ alone. e.missed c.in_default.not-Put));
      pass = c.release.ensures.pass;
      later = goes_on _ _ _ c.in-Ok.ensures.later (goes_on _ _ _ c.link_at_tail-turn.ensures.later c.release.ensures.later);
    }
