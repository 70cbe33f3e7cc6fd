use Rattle.orc_words.specs.Places.{link_at}
use Rattle.orc_trace.specs.Reaching.{AreFound, AreTargetsMarked, FindsMore}
use Rattle.orc_trace.proofs.reaching.follow.Given as goal

abbrev pub invariant-loop-number : goal.invariant-loop-number
invariant-loop-number l = record {
  are : AreFound l.state l.marks l.found l.count;
  more : FindsMore l.fn.marks l.marks l.fn.found l.found l.fn.count l.count;
  links : AreTargetsMarked l.state l.marks (λ n. link_at n l.row) l.number;
}
