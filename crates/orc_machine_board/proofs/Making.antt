-- A step on shared words is a step of the pass, which the pass shows.
use Rattle.std.proofs.Common.{List, Option, [], ap, append-nil, length, refl, subst, sym, ℕ, ◌++◌, ◌<◌, ◌∙◌, ◌≡◌, ◌∷◌, ⊎_elim}
use Rattle.std.specs.Prelude.{slice_index}
use Rattle.orc_core.specs.Actions.{action_of}
use Rattle.orc_core.specs.After.{after}
use Rattle.orc_core.specs.Machine.{record_at, word_read}
use Rattle.orc_core.specs.declared.records.Agent.{Agent}
use Rattle.orc_heap.specs.declared.events.Event.{Event}
use Rattle.orc_history.specs.Journals.{own_of}
use Rattle.orc_core.proofs.Steps.{every_run_whole}
use Rattle.orc_machine_board.specs.Laws.Steps.{bounds_run, in_range, long_run}
use Rattle.orc_sound.specs.Journals.{plain}
use Rattle.orc_words.specs.Bounds.{Bounds}
use Rattle.orc_machine_board.specs.Rules.{bounds_in, counted_rules, run_of, step_of}
use Rattle.orc_machine_board.specs.Passes.{TookInAll}
use Rattle.orc_machine_board.specs.Views.{Keeps, MachineView, Makes, view_of}
use Rattle.orc_machine_board.specs.declared.machine.Request.{Request}
use Rattle.orc_machine_board.specs.declared.machine.MachineShape.{MachineShape}
use Rattle.orc_shared_words.proofs.Runs.{below-front, below-tail, none_left}
use Rattle.orc_shared_words.proofs.Seats.{one_number}
use Rattle.orc_shared_words.specs.Runs.{AgentsBelow}
use Rattle.orc_shared_words.specs.Operations.{returned_by}
use Rattle.orc_shared_words.specs.Steps.{Extends}
use Rattle.orc_shared_words.specs.declared.journal.View.{View}
use Rattle.orc_sound.specs.declared.steps.Step.{Step}
use Rattle.orc_words.specs.Operations.{answer_of}
use Rattle.orc_words.specs.Places.{place}
use Rattle.orc_words.specs.declared.operation.Operation.{Operation}
use Rattle.orc_words.specs.declared.operation.Operation.TheVariants.{Add, CompareExchange, Load, Store, Sub, Swap}

-- what an operation answers follows from what it returns
answered : (o : Operation) (word n : ℕ) → n ≡ returned_by o word → answer_of o n ≡ answer_of o word
answered Load word n e = e
answered (Store v) word n e = refl
answered (Swap v) word n e = e
answered (Add v) word n e = e
answered (Sub v) word n e = e
answered (CompareExchange x v) word n e = ap (answer_of (CompareExchange x v)) e

-- a pass's work list has room for all rows
pub room_of : {N : Type 0} {k : MachineShape N} {holds : List (Event N) → Type 0} {may : List (Event N) → Event N → Type 0} {v : View (Step N) Agent} {a : ℕ}
    → Keeps k holds may v a → v.own.list.room ≡ (bounds_in k).rows
room_of {N} {k} {holds} {may} {v} {a} kept =
    let b = bounds_in k in
    let whole = every_run_whole b (plain v.seen) (in_range k.shape) in
    let there : a < length (run_of b v.seen).agents = subst (λ n. a < n) (sym (long_run b v.seen (in_range k.shape))) kept.number in
    ap (λ (d : Agent). d.list.room) (sym kept.now.mine) ∙ (whole.rooms a there ∙ ap (λ (c : Bounds). c.rows) (bounds_run b v.seen))

module _ {N : Type 0} (k : MachineShape N) (holds : List (Event N) → Type 0) (may : List (Event N) → Event N → Type 0) (q : Request) (note : Option N)
    (v w : View (Step N) Agent) (n a : ℕ) where
  same_agent : Keeps k holds may v a → (e : Extends counted_rules k holds may q note v n w) → e.agent ≡ a
  same_agent kept e = one_number v.agent a e.agent kept.is e.is

  -- the word that the step found, read where the step stands
  word_found : (e : Extends counted_rules k holds may q note v n w) → e.found ≡ word_read (run_of (bounds_in k) (v.seen ++ e.between)) e.agent q.op
  word_found e = let m = run_of (bounds_in k) (v.seen ++ e.between) in
      e.read ∙ (λ i. slice_index m.words (place (sym (bounds_run (bounds_in k) (v.seen ++ e.between)) i) (action_of e.agent q.op (record_at m e.agent)).word))

  pub makes : Keeps k holds may v a → Extends counted_rules k holds may q note v n w
      → Makes (bounds_in k) q note (view_of a v) (answer_of (action_of a q.op v.own).operation n) (view_of a w)
  makes kept e =
      let one = same_agent kept e in
      let j = v.seen ++ e.between in
      let o = (action_of a q.op v.own).operation in
      let word : e.found ≡ word_read (run_of (bounds_in k) j) a q.op = subst (λ z. e.found ≡ word_read (run_of (bounds_in k) j) z q.op) one (word_found e) in
      let back : n ≡ returned_by o e.found = subst (λ z. n ≡ returned_by (action_of z q.op v.own).operation e.found) one e.answers in
      record {
        agent = refl;
        absorbed = e.also;
        met = e.between;
        others = subst (λ z. own_of (λ (x : Step N). x.agent) z e.between ≡ []) one e.others;
        retired = e.retired;
        journal = subst (λ z. w.seen ≡ (v.seen ++ e.between) ++ step_of z q note ∷ []) one e.seen;
        answer = answered o e.found n back ∙ ap (answer_of o) word;
        record_is = e.mine ∙ ap (after q.op v.own) word;
      }

-- a pass that took in all others steps right after what it had seen
pub steps_next : {N : Type 0} (b : Bounds) (q : Request) (note : Option N) (s t : MachineView N) (n : ℕ) → Makes b q note s n t → TookInAll b s
    → AgentsBelow (λ (x : Step N). x.agent) b.agents t.journal → t.journal ≡ s.journal ++ step_of s.agent q note ∷ []
steps_next {N} b q note s t n m all below =
    let by : Step N → ℕ = λ x. x.agent in
    let own : List (Step N) = step_of s.agent q note ∷ [] in
    let front = below-front by b.agents (s.journal ++ m.met) own (subst (AgentsBelow by b.agents) m.journal below) in
    let none : m.met ≡ [] = none_left by b.agents m.met (below-tail by b.agents s.journal m.met front)
    (λ a lt. ⊎_elim (λ e. subst (λ z. own_of by z m.met ≡ []) (sym e) m.others) (m.retired a) (all a lt)) in
    m.journal ∙ ap (λ l. l ++ own) (ap (λ l. s.journal ++ l) none ∙ append-nil s.journal)
