-- A take that is done entered what it took, or that nothing was there, and a refusal has its cause.
use Rattle.std.proofs.Common.{Option, [], refl, subst, sym, ℕ, ◌∷◌}
use Rattle.orc_domain.specs.Passes.{seat_of}
use Rattle.orc_history.specs.QueueHistory.{entry_of_dequeue}
use Rattle.orc_history.specs.declared.queue.QueueRefused.TheVariants.{Again}
use Rattle.mooringakee_c_passes.specs.Kinds.{queue, calls_view}
use Rattle.mooringakee_c_passes.specs.Views.{GoesOn}
use Rattle.mooringakee_c_passes.proofs.QueueAnswers.{entered, refused}
use Rattle.mooringakee_c_passes.proofs.SamePlaces.{usable_by, used_after}
use Rattle.mooringakee_c_passes.proofs.queue.QueuePlace.take.Goals as goal

pub dequeue-requires : goal.dequeue-requires
dequeue-requires c = usable_by c.args.self.now.pass (λ j. (sym c.deref.ensures j).queue.links.domain) c.requires.0.belongs c.requires.0.idle

pub returns-in-Ok-Some-clause-answer : goal.returns-in-Ok-Some-clause-answer
returns-in-Ok-Some-clause-answer c = (
  refl,
  (
    c.in-Ok-Some.field-0-0-1,
    subst (λ (got : Option (ℕ × ℕ)). GoesOn (calls_view queue c.args.self.now.container.value.queue.links.domain c.args.self.now.turns c.args.self.now.pass)
        (entry_of_dequeue (seat_of c.deref.result.now.queue.links.domain c.args.self.now.pass).agent got ∷ [])
        (calls_view queue c.args.self.now.container.value.queue.links.domain c.args.self.now.turns c.dequeue.new.p)) c.in-Ok-Some.field-0-is
        (entered c.deref.result.now.queue.links.domain c.args.self.now.container.value.queue.links.domain (λ j. (c.deref.ensures j).queue.links.domain) c.requires.1 c.deref.result.now.queue.made
        c.args.self.now.turns c.args.self.now.pass c.dequeue.new.p c.in-Ok-Some.ensures.usable c.in-Ok-Some.ensures.agent
        (entry_of_dequeue (seat_of c.deref.result.now.queue.links.domain c.args.self.now.pass).agent c.in-Ok-Some.field-0 ∷ []) c.in-Ok-Some.ensures.took),
  ),
)

pub returns-in-Ok-None-clause-answer : goal.returns-in-Ok-None-clause-answer
returns-in-Ok-None-clause-answer c = (
  refl,
  subst (λ (got : Option (ℕ × ℕ)). GoesOn (calls_view queue c.args.self.now.container.value.queue.links.domain c.args.self.now.turns c.args.self.now.pass)
      (entry_of_dequeue (seat_of c.deref.result.now.queue.links.domain c.args.self.now.pass).agent got ∷ [])
      (calls_view queue c.args.self.now.container.value.queue.links.domain c.args.self.now.turns c.dequeue.new.p)) c.in-Ok-None.field-0-is
      (entered c.deref.result.now.queue.links.domain c.args.self.now.container.value.queue.links.domain (λ j. (c.deref.ensures j).queue.links.domain) c.requires.1 c.deref.result.now.queue.made
      c.args.self.now.turns c.args.self.now.pass c.dequeue.new.p c.in-Ok-None.ensures.usable c.in-Ok-None.ensures.agent
      (entry_of_dequeue (seat_of c.deref.result.now.queue.links.domain c.args.self.now.pass).agent c.in-Ok-None.field-0 ∷ []) c.in-Ok-None.ensures.took),
)

pub returns-in-Err-clause-answer : goal.returns-in-Err-clause-answer
returns-in-Err-clause-answer c = (
  refl,
  refused c.deref.result.now.queue.links.domain c.args.self.now.container.value.queue.links.domain (λ j. (c.deref.ensures j).queue.links.domain) c.requires.1 c.deref.result.now.queue.made
      c.args.self.now.turns c.args.self.now.pass c.dequeue.new.p c.in-Err.ensures.usable c.in-Err.ensures.agent Again c.in-Err.ensures.none
      c.in-Err.ensures.licence,
)

pub returns-in-Ok-Some-clause-seat : goal.returns-in-Ok-Some-clause-seat
returns-in-Ok-Some-clause-seat c = used_after c.dequeue.new.p (λ j. (c.deref.ensures j).queue.links.domain) c.requires c.in-Ok-Some.ensures.usable

pub returns-in-Ok-None-clause-seat : goal.returns-in-Ok-None-clause-seat
returns-in-Ok-None-clause-seat c = used_after c.dequeue.new.p (λ j. (c.deref.ensures j).queue.links.domain) c.requires c.in-Ok-None.ensures.usable

pub returns-in-Err-clause-seat : goal.returns-in-Err-clause-seat
returns-in-Err-clause-seat c = used_after c.dequeue.new.p (λ j. (c.deref.ensures j).queue.links.domain) c.requires c.in-Err.ensures.usable
