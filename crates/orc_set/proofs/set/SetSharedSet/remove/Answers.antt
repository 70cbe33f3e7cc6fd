-- The cause as a licence. Turns ran out, so which rows lack or are worn is no part of it.
use Rattle.std.proofs.Common.{subst, sym, ℕ, ◌%◌, ◌<◌, ◌≡◌}
use Rattle.orc_list.proofs.Licences.{again_licence}
use Rattle.orc_set.proofs.set.SetSharedSet.remove.Goals as goal

pub returns-clause-licence : goal.returns-clause-licence
returns-clause-licence g c =
    let e = c.remove.ensures in
    again_licence _ _ _ _ _ _ _ e.later (λ from to. ⊥) (λ spent from to. ⊥) c.remove.result e.again

pub remove-requires-clause-root : goal.remove-requires-clause-root
remove-requires-clause-root g c =
    subst (λ (n : ℕ). (c.root_of.result < n) × (c.root_of.result ≡ c.args.key % n)) (sym c.args.self.now.all_roots.1)
    (c.root_of.ensures.below, c.root_of.ensures.root)
