-- A put that is done entered its value, and a refusal has its cause.
use Rattle.std.proofs.Common.{[], refl, subst, sym, ◌∷◌}
use Rattle.orc_domain.specs.Passes.{seat_of}
use Rattle.orc_history.specs.declared.queue.QueueEntry.TheVariants.{Put}
use Rattle.orc_history.specs.declared.queue.QueueRefused.{QueueRefused}
use Rattle.mooringakee_c_passes.specs.Kinds.{queue, calls_view}
use Rattle.mooringakee_c_passes.specs.Views.{RefusesCall}
use Rattle.mooringakee_c_passes.proofs.QueueAnswers.{entered, refused}
use Rattle.mooringakee_c_passes.proofs.SamePlaces.{usable_by, used_after}
use Rattle.mooringakee_c_passes.proofs.queue.QueuePlace.put.Goals as goal

pub enqueue-requires : goal.enqueue-requires
enqueue-requires c = usable_by c.args.self.now.pass (λ j. (sym c.deref.ensures j).queue.links.domain) c.requires.0.belongs c.requires.0.idle

pub returns-in-Ok-clause-answer : goal.returns-in-Ok-clause-answer
returns-in-Ok-clause-answer c = (
  refl,
  (
    c.in-Ok.field-0,
    entered c.deref.result.now.queue.links.domain c.args.self.now.container.value.queue.links.domain (λ j. (c.deref.ensures j).queue.links.domain) c.requires.1 c.deref.result.now.queue.made
        c.args.self.now.turns c.args.self.now.pass c.enqueue.new.p c.in-Ok.ensures.usable c.in-Ok.ensures.agent
        (Put (seat_of c.args.self.now.container.value.queue.links.domain c.args.self.now.pass).agent c.args.value c.in-Ok.field-0 ∷ []) c.in-Ok.ensures.put,
  ),
)

pub returns-in-Err-Again-clause-answer : goal.returns-in-Err-Again-clause-answer
returns-in-Err-Again-clause-answer c = (
  refl,
  subst (λ (why : QueueRefused). RefusesCall (calls_view queue c.args.self.now.container.value.queue.links.domain c.args.self.now.turns c.args.self.now.pass) why
      (calls_view queue c.args.self.now.container.value.queue.links.domain c.args.self.now.turns c.enqueue.new.p)) c.in-Err-Again.field-0-is
      (refused c.deref.result.now.queue.links.domain c.args.self.now.container.value.queue.links.domain (λ j. (c.deref.ensures j).queue.links.domain) c.requires.1 c.deref.result.now.queue.made
      c.args.self.now.turns c.args.self.now.pass c.enqueue.new.p c.in-Err-Again.ensures.usable c.in-Err-Again.ensures.agent c.in-Err-Again.field-0
      c.in-Err-Again.ensures.none c.in-Err-Again.ensures.licence),
)

pub returns-in-Err-NoNode-clause-answer : goal.returns-in-Err-NoNode-clause-answer
returns-in-Err-NoNode-clause-answer c = (
  refl,
  subst (λ (why : QueueRefused). RefusesCall (calls_view queue c.args.self.now.container.value.queue.links.domain c.args.self.now.turns c.args.self.now.pass) why
      (calls_view queue c.args.self.now.container.value.queue.links.domain c.args.self.now.turns c.enqueue.new.p)) c.in-Err-NoNode.field-0-is
      (refused c.deref.result.now.queue.links.domain c.args.self.now.container.value.queue.links.domain (λ j. (c.deref.ensures j).queue.links.domain) c.requires.1 c.deref.result.now.queue.made
      c.args.self.now.turns c.args.self.now.pass c.enqueue.new.p c.in-Err-NoNode.ensures.usable c.in-Err-NoNode.ensures.agent c.in-Err-NoNode.field-0
      c.in-Err-NoNode.ensures.none c.in-Err-NoNode.ensures.licence),
)

pub returns-in-Err-Positions-clause-answer : goal.returns-in-Err-Positions-clause-answer
returns-in-Err-Positions-clause-answer c = (
  refl,
  subst (λ (why : QueueRefused). RefusesCall (calls_view queue c.args.self.now.container.value.queue.links.domain c.args.self.now.turns c.args.self.now.pass) why
      (calls_view queue c.args.self.now.container.value.queue.links.domain c.args.self.now.turns c.enqueue.new.p)) c.in-Err-Positions.field-0-is
      (refused c.deref.result.now.queue.links.domain c.args.self.now.container.value.queue.links.domain (λ j. (c.deref.ensures j).queue.links.domain) c.requires.1 c.deref.result.now.queue.made
      c.args.self.now.turns c.args.self.now.pass c.enqueue.new.p c.in-Err-Positions.ensures.usable c.in-Err-Positions.ensures.agent c.in-Err-Positions.field-0
      c.in-Err-Positions.ensures.none c.in-Err-Positions.ensures.licence),
)

pub returns-in-Ok-clause-seat : goal.returns-in-Ok-clause-seat
returns-in-Ok-clause-seat c = used_after c.enqueue.new.p (λ j. (c.deref.ensures j).queue.links.domain) c.requires c.in-Ok.ensures.usable

pub returns-in-Err-Again-clause-seat : goal.returns-in-Err-Again-clause-seat
returns-in-Err-Again-clause-seat c = used_after c.enqueue.new.p (λ j. (c.deref.ensures j).queue.links.domain) c.requires c.in-Err-Again.ensures.usable

pub returns-in-Err-NoNode-clause-seat : goal.returns-in-Err-NoNode-clause-seat
returns-in-Err-NoNode-clause-seat c = used_after c.enqueue.new.p (λ j. (c.deref.ensures j).queue.links.domain) c.requires c.in-Err-NoNode.ensures.usable

pub returns-in-Err-Positions-clause-seat : goal.returns-in-Err-Positions-clause-seat
returns-in-Err-Positions-clause-seat c = used_after c.enqueue.new.p (λ j. (c.deref.ensures j).queue.links.domain) c.requires c.in-Err-Positions.ensures.usable
