-- The passes are all passes of their domain, and idle, each has been heard, and no event is new.
use Rattle.std.proofs.Common.{rules, subst, sym}
use Rattle.std.proofs.lemmas.List.{places, with_items_is}
use Rattle.orc_plain_domain.specs.Ends.{AllHear, AreAll, AreIdle, IsNoLonger}
use Rattle.orc_plain_domain.proofs.Hearing.{each_heard, nothing_more}
use Rattle.orc_plain_domain.proofs.Resting.{some_passes}
use Rattle.orc_plain_domain.proofs.as_domain.drain_passes.Goals as goal

pub drain_all-requires-clause-all : goal.drain_all-requires-clause-all
drain_all-requires-clause-all g c = subst (AreAll c.args.domain.now) (sym c.as_mut_slice.ensures.value) record {
  many = c.requires.many;
  belong = λ i p low. (c.requires.each i p low).0;
  order = c.requires.order;
}

pub drain_all-requires-clause-idle : goal.drain_all-requires-clause-idle
drain_all-requires-clause-idle g c =
    subst (AreIdle c.args.domain.now) (sym c.as_mut_slice.ensures.value) (λ i p low. (c.requires.each i p low).1)

pub returns-clause-heard : goal.returns-clause-heard
returns-clause-heard g c =
    let before = c.args.passes.now.items in
    let heard : AllHear c.args.domain.now before c.drain_all.new.passes =
    subst (λ ps. AllHear c.args.domain.now ps c.drain_all.new.passes) c.as_mut_slice.ensures.value c.drain_all.ensures.learned in
    rw (with_items_is c.args.passes.now c.drain_all.new.passes (search (rules, places)))
    (each_heard c.args.domain.now before c.drain_all.new.passes (λ i p low. (c.requires.each i p low).0) heard)

pub returns-clause-quiet : goal.returns-clause-quiet
returns-clause-quiet g c =
    let before = c.args.passes.now.items in
    let after = c.drain_all.new.passes in
    let all : AreAll c.args.domain.now before = record {
      many = c.requires.many;
      belong = λ i p low. (c.requires.each i p low).0;
      order = c.requires.order;
    } in
    let heard : AllHear c.args.domain.now before after =
    subst (λ ps. AllHear c.args.domain.now ps after) c.as_mut_slice.ensures.value c.drain_all.ensures.learned in
    let longest : IsNoLonger c.args.domain.now before after =
    subst (λ ps. IsNoLonger c.args.domain.now ps after) c.as_mut_slice.ensures.value c.drain_all.ensures.longest in
    rw (with_items_is c.args.passes.now after (search (rules, places)))
    (nothing_more c.args.domain.now before after all.belong heard (some_passes c.args.domain.now before all) longest)

pub returns-clause-all : goal.returns-clause-all
returns-clause-all g c = rw (with_items_is c.args.passes.now c.drain_all.new.passes (search (rules, places))) c.drain_all.ensures.all

pub returns-clause-own : goal.returns-clause-own
returns-clause-own g c = rw (with_items_is c.args.passes.now c.drain_all.new.passes (search (rules, places))) c.drain_all.ensures.own
