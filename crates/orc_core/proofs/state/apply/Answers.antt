-- A step that is allowed is made on the table's words and on its agent's record.
use Rattle.std.proofs.Common.{List, ap, length, refl, subst, sym, ℕ, ◌<◌, ◌≡◌, ◌∙◌}
use Rattle.std.specs.Prelude.{slice_index, slice_set, true}
use Rattle.std.proofs.lemmas.List.{get_or_read, length-set, with_items_is}
use Rattle.orc_words.specs.Bounds.{bounds_of}
use Rattle.orc_words.specs.Operations.{answer_of, word_after}
use Rattle.orc_core.specs.Actions.{action_of}
use Rattle.orc_core.specs.After.{after}
use Rattle.orc_core.specs.Machine.{EachWithRoom, LeavesRoom, Machine, answer, is_allowed, nobody, place_acted_on, record_at, step, word_read}
use Rattle.orc_core.specs.declared.ops.Op.{Op}
use Rattle.orc_core.specs.declared.records.Agent.{Agent}
use Rattle.orc_core.proofs.Steps.{step_rooms}
use Rattle.orc_core.proofs.Within.{may_parts}
use Rattle.orc_core.proofs.state.apply.Goals as goal

-- the agent of a step that is allowed is one of the table's
its_agent : (m : Machine) (a : ℕ) (op : Op) → length m.agents ≡ m.bounds.agents → is_allowed m a op ≡ true → a < length m.agents
its_agent m a op long h = rw long (may_parts m.bounds _ a op (record_at m a) h).agent

-- what a step makes of a machine's words and of its agent's record
module _ (m : Machine) (a : ℕ) (op : Op) (words : List ℕ) (d : Agent) (w : words ≡ m.words) (r : d ≡ record_at m a) where
  abbrev read : ℕ
  read = slice_index words (place_acted_on m.bounds a op d)

  new_words : (new : List ℕ) → new ≡ slice_set words (place_acted_on m.bounds a op d) (word_after (action_of a op d).operation read) → new ≡ (step m a op).words
  new_words new e = e ∙ (λ i.
      let at = place_acted_on m.bounds a op (r i) in
      slice_set (w i) at (word_after (action_of a op (r i)).operation (slice_index (w i) at)))

  new_record : (new : Agent) → new ≡ after op d read → new ≡ after op (record_at m a) (word_read m a op)
  new_record new e = e ∙ (λ i. after op (r i) (slice_index (w i) (place_acted_on m.bounds a op (r i))))

  its_answer : (n : ℕ) → n ≡ answer_of (action_of a op d).operation read → n ≡ answer m a op
  its_answer n e = e ∙ (λ i. answer_of (action_of a op (r i)).operation (slice_index (w i) (place_acted_on m.bounds a op (r i))))

pub make_step-requires : goal.make_step-requires
make_step-requires c =
    let s = c.state.inside in
    let m : Machine = record { bounds = bounds_of s.shape; words = s.words.items; agents = s.agents.items } in
    let a = c.args.agent in
    let op = c.args.op.now in
    let allowed : is_allowed m a op ≡ true = ap (λ (x : Machine). is_allowed x a op) c.state.view_is ∙ (sym c.allowed.ensures ∙ c.if-not-allowed.false) in
    let low = its_agent m a op c.state.invariant.1 allowed in
    let is : c.index_mut-record.result.now ≡ record_at m a = get_or_read m.agents a _ low c.index_mut-record.ensures.value (nobody m.bounds.rows) in
    let room : LeavesRoom m a op = subst (λ (x : Machine). LeavesRoom x a op) (sym c.state.view_is) c.requires in
    rw (c.deref_mut.ensures.value, is) (record { allowed = allowed; long = c.state.invariant.0; room = rw (c.state.invariant.2 a low) (room allowed) })

pub returns-then-not-allowed : goal.returns-then-not-allowed
returns-then-not-allowed c = record { allowed = tt; refused = sym c.allowed.ensures ∙ c.if-not-allowed.true; step = tt; answer = tt; unchanged = refl }

pub returns : goal.returns
returns c =
    let s = c.state.inside in
    let m : Machine = record { bounds = bounds_of s.shape; words = s.words.items; agents = s.agents.items } in
    let a = c.args.agent in
    let op = c.args.op.now in
    let is_so = sym c.allowed.ensures ∙ c.if-not-allowed.false in
    let low = its_agent m a op c.state.invariant.1 (ap (λ (x : Machine). is_allowed x a op) c.state.view_is ∙ is_so) in
    let is : c.index_mut-record.result.now ≡ record_at m a = get_or_read m.agents a _ low c.index_mut-record.ensures.value (nobody m.bounds.rows) in
    let w = c.deref_mut.ensures.value in
    let words = with_items_is s.words c.make_step.new.words (c.make_step.auto.words ∙ c.deref_mut.ensures.len) ∙ new_words m a op _ _ w is _ c.make_step.ensures.words in
    let agent = new_record m a op _ _ w is _ c.make_step.ensures.agent in
    record {
      allowed = is_so;
      refused = tt;
      step = (λ i. record { bounds = m.bounds; words = words i; agents = slice_set m.agents a (agent i) }) ∙ ap (λ (x : Machine). step x a op) c.state.view_is;
      answer = its_answer m a op _ _ w is _ c.make_step.ensures.answer ∙ ap (λ (x : Machine). answer x a op) c.state.view_is;
      unchanged = tt;
    }

pub invariant_of-state : goal.invariant_of-state
invariant_of-state c =
    let s = c.state.inside in
    let m : Machine = record { bounds = bounds_of s.shape; words = s.words.items; agents = s.agents.items } in
    let a = c.args.agent in
    let op = c.args.op.now in
    let low = its_agent m a op c.state.invariant.1 (ap (λ (x : Machine). is_allowed x a op) c.state.view_is ∙ (sym c.allowed.ensures ∙ c.if-not-allowed.false)) in
    let is : c.index_mut-record.result.now ≡ record_at m a = get_or_read m.agents a _ low c.index_mut-record.ensures.value (nobody m.bounds.rows) in
    let w = c.deref_mut.ensures.value in
    let agent = new_record m a op _ _ w is _ c.make_step.ensures.agent in (
      ap length (with_items_is s.words c.make_step.new.words (c.make_step.auto.words ∙ c.deref_mut.ensures.len)) ∙ (c.make_step.auto.words ∙ (ap length w ∙ c.state.invariant.0)),
      length-set s.agents.items a c.make_step.new.agent ∙ c.state.invariant.1,
      subst (λ (d : Agent). EachWithRoom m.bounds.rows (slice_set m.agents a d)) (sym agent) (step_rooms m a op c.state.invariant.2),
    )
