use Rattle.std.proofs.Common.{ap, subst, sym, ◌∙◌, ◌≡◌}
use Rattle.std.proofs.lemmas.List.Elements.{All-pop}
use Rattle.std.specs.Option.{IfSome}
use Rattle.orc_fifo_rule.proofs.Later.{nothing_yet}
use Rattle.domain_tests.proofs.JobRun.{dummy_allowed}
use Rattle.domain_tests.specs.JobRun.{opened}
use Rattle.orc_fifo_rule.specs.declared.fifo.FifoNote.TheVariants.{Begin}
use Rattle.orc_heap.specs.declared.seed.Seed.TheVariants.{Dummy}
use Rattle.orc_machine_board.specs.Rules.{machine_opening, run_of}
use Rattle.orc_machine_board.specs.Views.{Belongs, shows}
use Rattle.orc_words.specs.Bounds.{Bounds, bounds_of}
use Rattle.domain_tests.proofs.tests.job.with_dummy.Goals as goal

pub make-requires-clause-holds : goal.make-requires-clause-holds
make-requires-clause-holds c = nothing_yet _

pub make-requires-clause-seed : goal.make-requires-clause-seed
make-requires-clause-seed c = dummy_allowed (bounds_of c.in-Ok.shape) c.in-Ok.ensures.asked

pub returns-clause-journal : goal.returns-clause-journal
returns-clause-journal c =
    subst (λ o. IfSome o (λ p. (shows p).journal ≡ machine_opening (bounds_of c.in-Ok.shape).agents (Dummy 0 Begin))) c.in-Some.is
    (All-pop (λ p. (shows p).journal ≡ machine_opening (bounds_of c.in-Ok.shape).agents (Dummy 0 Begin)) c.in-Ok-make.passes.items c.pop.new.self.items
    c.pop.result c.pop.ensures.items c.in-Ok-make.ensures.journal).1
    ∙ ap (λ (b : Bounds). machine_opening b.agents (Dummy 0 Begin)) c.in-Ok.ensures.asked

pub returns-clause-played : goal.returns-clause-played
returns-clause-played c =
    let journal : (shows c.in-Some.pass).journal ≡ opened =
    subst (λ o. IfSome o (λ p. (shows p).journal ≡ machine_opening (bounds_of c.in-Ok.shape).agents (Dummy 0 Begin))) c.in-Some.is
    (All-pop (λ p. (shows p).journal ≡ machine_opening (bounds_of c.in-Ok.shape).agents (Dummy 0 Begin)) c.in-Ok-make.passes.items c.pop.new.self.items
    c.pop.result c.pop.ensures.items c.in-Ok-make.ensures.journal).1
    ∙ ap (λ (b : Bounds). machine_opening b.agents (Dummy 0 Begin)) c.in-Ok.ensures.asked in
    record {
      sole = record {
        belongs = subst (λ o. IfSome o (λ p. Belongs c.in-Ok-make.board p)) c.in-Some.is
            (All-pop (λ p. Belongs c.in-Ok-make.board p) c.in-Ok-make.passes.items c.pop.new.self.items c.pop.result c.pop.ensures.items
            c.in-Ok-make.ensures.belongs).1;
        sizes = c.in-Ok-make.ensures.bounds ∙ c.in-Ok.ensures.asked;
        agent = sym c.agent.ensures ∙ c.if-agent-ne0.false;
      };
      is = c.in_ok-state.ensures ∙ (λ i. run_of (sym c.in-Ok-make.ensures.bounds i) (sym journal i));
    }
