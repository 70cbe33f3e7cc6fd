use Rattle.std.proofs.Common.{arith, rules, subst, true, ℕ, ◌<◌, ◌≡◌, ◌∙◌}
use Rattle.orc_core.specs.Counts.{links_to}
use Rattle.orc_trace.proofs.Reached.{none_found, root_links}
use Rattle.orc_trace.proofs.reaching.find_roots.Goals as goal

pub loop-root-init : goal.loop-root-init
loop-root-init c = record {
  are = none_found c.args.state.now c.clear.new.marks c.args.found.now (c.clear.ensures.length ∙ c.requires.marks) c.requires.found c.clear.ensures.clear;
  roots = λ i r l. absurd (omega arith);
}

pub find-count-requires-clause-reached : goal.find-count-requires-clause-reached
find-count-requires-clause-reached c r e =
    let below : c.loop-root.root < c.args.state.now.bounds.roots = search rules in
    root_links c.args.state.now c.loop-root.root r below (subst (λ (w : ℕ). links_to w r ≡ true) c.word-word.ensures e)
