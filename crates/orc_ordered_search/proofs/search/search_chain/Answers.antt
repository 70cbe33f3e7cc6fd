-- Ranks rise.
use Rattle.std.proofs.Common.{arith}
use Rattle.orc_heap.proofs.Pieces.{goes_on}
use Rattle.orc_ordered_search.proofs.search.search_chain.Goals as goal

pub loop-next-smaller : goal.loop-next-smaller
loop-next-smaller g c =
    let (start, s, room, b) = c.requires.begins in
    let k = c.in-On-step_on.ensures.stepped start s room (c.loop-next.invariant.walks start s room b) in
    omega (arith, k.1, k.2)

pub loop-next-preserved : goal.loop-next-preserved
loop-next-preserved g c = record {
  pass = c.in-On-step_on.ensures.pass;
  later = goes_on _ _ _ c.loop-next.invariant.later c.in-On-step_on.ensures.later;
  walks = λ start s room b. (c.in-On-step_on.ensures.stepped start s room (c.loop-next.invariant.walks start s room b)).0;
}

pub start-requires : goal.start-requires
start-requires g c = record { pass = c.requires.pass; root = c.requires.root; begins = c.requires.begins }

pub returns-in-End : goal.returns-in-End
returns-in-End g c =
    let e = c.in-End.ensures in
    record { pass = e.pass; later = e.later; found = e.stepped }

pub loop-next-init : goal.loop-next-init
loop-next-init g c =
    let e = c.in-On.ensures in
    record { pass = e.pass; later = e.later; walks = λ start s room b. (e.stepped start s room b).0 }

pub step_on-requires : goal.step_on-requires
step_on-requires g c =
    let i = c.loop-next.invariant in
    let (start, s, room, b) = c.requires.begins in
    record { pass = i.pass; walks = (start, s, room, i.walks start s room b) }

pub returns-in-End-step_on : goal.returns-in-End-step_on
returns-in-End-step_on g c =
    let i = c.loop-next.invariant in
    let e = c.in-End-step_on.ensures in
    record {
      pass = e.pass;
      later = goes_on _ _ _ i.later e.later;
      found = λ start s room b. e.stepped start s room (i.walks start s room b);
    }
