use Rattle.std.proofs.Common.{sym, ◌∙◌}
use Rattle.std.specs.Prelude.{None, cond}
use Rattle.orc_core.specs.RecordParts.{same_target}
use Rattle.orc_domain.proofs.Aiming.{StoresFresh, store_countable, store_down, store_up, stored_leaves, stored_untouched, stores}
use Rattle.orc_domain.proofs.Linking.{store_can}
use Rattle.orc_domain.proofs.Ending.{stage_of}
use Rattle.orc_domain.proofs.domain.OrcDomain.store.Given.{Over}
use Rattle.orc_domain.proofs.domain.OrcDomain.store.Goals.{After-link_store-old}
use Rattle.orc_domain.proofs.domain.OrcDomain.store.Goals as goal

-- the store
stored : (g : Over) (c : After-link_store-old g) → let k = c.args.self.now.board.words.shape in
    StoresFresh (stage_of c.requires.belongs) (stage_of c.link_store-old.ensures.belongs) c.args.row
    c.args.number c.args.to c.link_store-old.result
stored g c =
    let r = c.requires in
    record {
      makes = c.link_store-old.ensures.makes;
      is = record { ready = r.ready; untouched = r.untouched };
      there = r.number;
      fresh = r.fresh;
      target = r.may.target;
      other = r.may.other;
    }

pub link_store-old-requires-clause-allowed : goal.link_store-old-requires-clause-allowed
link_store-old-requires-clause-allowed g c =
    let r = c.requires in
    let s = stage_of r.belongs in
    store_can s c.args.row c.args.number c.args.to r.number r.ready r.fresh r.may.target r.may.low

pub complete-requires-clause-countable : goal.complete-requires-clause-countable
complete-requires-clause-countable g c = store_countable (stored g (goal.at.complete-requires-clause-countable g c).After-link_store-old)

pub returns-clause-untouched : goal.returns-clause-untouched
returns-clause-untouched g c =
    let e = c.complete.ensures in
    stored_untouched (stored g (goal.at.returns-clause-untouched g c).After-link_store-old)
    (stage_of e.belongs) e.becomes

pub returns-clause-stores : goal.returns-clause-stores
returns-clause-stores g c =
    let e = c.complete.ensures in
    stores (stored g (goal.at.returns-clause-stores g c).After-link_store-old)
    (stage_of e.belongs) e.becomes

pub returns-clause-leaves : goal.returns-clause-leaves
returns-clause-leaves g c =
    let e = c.complete.ensures in
    stored_leaves (stored g (goal.at.returns-clause-leaves g c).After-link_store-old)
    (stage_of e.belongs) e.becomes

pub complete-requires-clause-up : goal.complete-requires-clause-up
complete-requires-clause-up g c =
    store_up (stored g (goal.at.complete-requires-clause-up g c).After-link_store-old)
    ∙ ((λ i. cond (same_target (sym c.named.ensures i) c.args.to) None c.args.to) ∙ sym c.to_count-up.ensures.up)

pub complete-requires-clause-down : goal.complete-requires-clause-down
complete-requires-clause-down g c =
    store_down (stored g (goal.at.complete-requires-clause-down g c).After-link_store-old)
    ∙ ((λ i. cond (same_target (sym c.named.ensures i) c.args.to) None (sym c.named.ensures i)) ∙ sym c.to_count-up.ensures.down)
