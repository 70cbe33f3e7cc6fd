-- The swing of the bucket's root, and the dummy's release.
use Rattle.std.proofs.Common.{[], append-nil, arith, refl, subst, sym}
use Rattle.orc_heap.proofs.Pieces.{goes_on}
use Rattle.orc_heap.specs.Slots.{Holds, Slots}
use Rattle.orc_ordered_search.proofs.Held.{release_goes}
use Rattle.orc_split_set.proofs.Telling.{told_wider}
use Rattle.orc_split_set.proofs.Sizing.{made_most}
use Rattle.orc_split_set.proofs.bucket.anchor_and_go.Goals as goal

pub release-requires-clause-held : goal.release-requires-clause-held
release-requires-clause-held g c =
    subst (λ (z : Slots). Holds z c.args.dummy) (sym c.anchor-anchored.ensures.anchored.tried.slots) c.requires.dummy.0

pub returns-clause-anchored : goal.returns-clause-anchored
returns-clause-anchored g c =
    let t = g.L.Links.seat _ c.anchor-anchored.new.p in
    record {
      mid = t;
      anchors = c.anchor-anchored.ensures.anchored;
      gone = release_goes c.args.dummy t _ c.release.ensures.released;
    }

pub returns-clause-told : goal.returns-clause-told
returns-clause-told g c =
    let p = c.args.p.now in
    told_wider g.L.Links g.met.L.Links.lacking_stays g.met.L.Links.worn_stays c.args.links.now p p c.anchor-anchored.new.p _ refl
    ([], append-nil _) c.release.ensures.later c.anchor-anchored.result c.anchor-anchored.ensures.told

pub returns-clause-tries : goal.returns-clause-tries
returns-clause-tries g c =
    omega (arith, c.anchor-anchored.ensures.tries, made_most 0 _ _ [] c.release.ensures.released.puts (omega arith))

pub release-requires-clause-pass : goal.release-requires-clause-pass
release-requires-clause-pass g c = c.anchor-anchored.ensures.pass

pub returns-clause-pass : goal.returns-clause-pass
returns-clause-pass g c = c.release.ensures.pass

pub returns-clause-later : goal.returns-clause-later
returns-clause-later g c = goes_on _ _ _ c.anchor-anchored.ensures.later c.release.ensures.later
