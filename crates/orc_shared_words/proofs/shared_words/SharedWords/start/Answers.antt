use Rattle.std.proofs.Common.{ap, refl, subst, sym, ◌<◌}
use Rattle.orc_shared_words.proofs.Ends.{opens}
use Rattle.orc_shared_words.proofs.shared_words.SharedWords.start.Goals as goal

pub of_words-requires : goal.of_words-requires
of_words-requires g c = opens g.M.Machine.rules c.args.shape _ _ c.args.words.now c.requires.words c.requires.opening

pub invariant_of-pass : goal.invariant_of-pass
invariant_of-pass g c =
    let me = c.in_ok-table.ensures.4 in
    record {
      named = ap (λ m. m.0.agent) me;
      mine = subst (λ r. g.M.Machine.tied r c.args.own) (sym (ap (λ m. m.0.own) me)) c.requires.own;
      holds_none = ap (λ m. m.1) me;
    }

pub invariant_of-result : goal.invariant_of-result
invariant_of-result g c =
    let made = c.in_ok-table.ensures in
    record { shaped = made.5; some = subst (λ n. 0 < n) (sym made.0) c.requires.some; no_slots = made.1 }

pub returns : goal.returns
returns g c = let made = c.in_ok-table.ensures in (made.2, made.0, refl, refl, ap (λ m. m.0) made.4)
