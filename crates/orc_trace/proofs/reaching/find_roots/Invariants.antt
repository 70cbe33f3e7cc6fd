use Rattle.orc_words.specs.declared.place.Word.TheVariants.{Root}
use Rattle.orc_trace.specs.Reaching.{AreFound, AreTargetsMarked}
use Rattle.orc_trace.proofs.reaching.find_roots.Given as goal

abbrev pub invariant-loop-root : goal.invariant-loop-root
invariant-loop-root l = record {
  are : AreFound l.state l.marks l.found l.count;
  roots : AreTargetsMarked l.state l.marks (λ i. Root i) l.root;
}
