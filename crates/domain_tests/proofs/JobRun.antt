-- The discipline of the queue allows the three exchanges of the job's run.
use Rattle.std.proofs.Common.{List, None, false, Option, Some, [], ap, arith, inl, refl, subst, sym, ℕ, ◌++◌, ◌∙◌, ◌∷◌, ◌≡◌, ◌≢◌}
use Rattle.std.specs.Option.{IfSome}
use Rattle.orc_machine_board.proofs.Making.{steps_next}
use Rattle.orc_machine_board.specs.Passes.{TookInAll}
use Rattle.orc_core.specs.Allowed.{may}
use Rattle.orc_core.specs.Machine.{Machine, is_allowed, new_machine, record_at, step, word_in}
use Rattle.orc_core.specs.declared.ops.Op.{Op}
use Rattle.orc_machine_board.specs.Kinds.{MayDo}
use Rattle.orc_machine_board.specs.Laws.Steps.{bounds_run, permission}
use Rattle.orc_machine_board.specs.Rules.{is_enroll, run_of, step_of}
use Rattle.orc_sound.proofs.Journals.{run_plain-append}
use Rattle.orc_machine_board.specs.declared.machine.Request.{Request}
use Rattle.orc_shared_words.specs.Runs.{AgentsBelow}
use Rattle.std.specs.Prelude.{true, unwrap_or}
use Rattle.orc_fifo_rule.proofs.Coming.{put_allowed, swing_allowed, took_allowed}
use Rattle.orc_fifo_rule.specs.QueueDiscipline.{FifoHolds, FifoMay, HasJob}
use Rattle.orc_fifo_rule.specs.Watches.{IsLeftBehind, WasNamed}
use Rattle.orc_fifo_rule.specs.declared.fifo.FifoNote.{FifoNote}
use Rattle.orc_fifo_rule.specs.declared.fifo.FifoNote.TheVariants.{Begin, Entry, Swing}
use Rattle.orc_heap.specs.Allowed.{AllowedLater, HasLink}
use Rattle.orc_heap.specs.Seeds.{DummyAllowed}
use Rattle.orc_heap.specs.Heap.{Heap, HeapNumbers, Node, link_to, null}
use Rattle.orc_heap.specs.Journals.{event_by, run_heap}
use Rattle.orc_heap.specs.declared.events.Act.TheVariants.{Move}
use Rattle.orc_heap.specs.declared.events.Event.{Event}
use Rattle.orc_heap.specs.declared.events.Link.{Link}
use Rattle.orc_heap.specs.declared.events.Place.{Place}
use Rattle.orc_heap.specs.declared.events.Place.TheVariants as at
use Rattle.orc_history.specs.declared.queue.QueueEntry.TheVariants.{Put, Took}
use Rattle.domain_tests.specs.JobRun.{before_put, before_swing, before_took, null_row, row_0, row_1, small}
use Rattle.orc_machine_board.specs.Licences.{MoveAllowed}
use Rattle.orc_machine_board.specs.Views.{MachineView, Makes}
use Rattle.orc_projection.specs.Mirror.{numbers_of}
use Rattle.orc_projection.specs.PresentIds.{node_place}
use Rattle.orc_projection.specs.Projection.{present_ids, project}
use Rattle.orc_sound.specs.declared.steps.Step.{Step}
use Rattle.orc_words.specs.Bounds.{Bounds}
use Rattle.orc_words.specs.declared.packed.RowLink.{RowLink}
use Rattle.orc_words.specs.declared.place.Word.{Word}
use Rattle.orc_words.specs.declared.place.Word.TheVariants.{Enrolled, Next, Root}

-- what is allowed lies in the sizes, the agent and the journal
same_allowed : (b c : Bounds) (s : MachineView FifoNote) (a : ℕ) (j : List (Step FifoNote)) (place : Word) (from to : RowLink) (note : Option FifoNote)
    → b ≡ c → s.agent ≡ a → s.journal ≡ j
    → MoveAllowed (FifoMay (numbers_of c)) c (record { agent = a; journal = j; record_is = s.record_is; absorbed = s.absorbed }) place from to note
    → MoveAllowed (FifoMay (numbers_of b)) b s place from to note
same_allowed b c s a j place from to note same is seen can = subst
    (λ (z : Bounds × ℕ × List (Step FifoNote)). MoveAllowed (FifoMay (numbers_of z.0)) z.0
    (record { agent = z.1; journal = z.2; record_is = s.record_is; absorbed = s.absorbed }) place from to note)
    (λ i. (sym same i, sym is i, sym seen i)) can

-- the discipline holds of this journal's events
holds_as : (b c : Bounds) (s : MachineView FifoNote) (j : List (Step FifoNote)) → b ≡ c → s.journal ≡ j → FifoHolds (numbers_of b) (project b s.journal)
    → FifoHolds (numbers_of c) (project c j)
holds_as b c s j same seen = subst (λ (z : Bounds × List (Step FifoNote)). FifoHolds (numbers_of z.0) (project z.0 z.1)) (λ i. (same i, seen i))

-- a Move of the one place that the word is
at_word : (n : HeapNumbers) (seen : List (Event FifoNote)) (o : Option Place) (one : Place) (from to : Link) (note : Option FifoNote) → o ≡ Some one
    → AllowedLater (FifoMay n) n 0 seen one from (event_by 0 (Move one from to) note)
    → (p : Place) → o ≡ Some p → AllowedLater (FifoMay n) n 0 seen p from (event_by 0 (Move p from to) note)
at_word n seen o one from to note is can p e = subst (λ q. AllowedLater (FifoMay n) n 0 seen q from (event_by 0 (Move q from to) note))
    (ap (λ (x : Option Place). unwrap_or x one) (sym is ∙ e)) can

-- the dummy with this link, and the node of the job
abbrev dummy : Link → Node
dummy link = record { giver = 0; first = Some 0; second = Some 0; link = link; side = null; named = true; linked = true }

abbrev new_dummy : Node
new_dummy = record { giver = 0; first = Some 0; second = Some 0; link = null; side = null; named = false; linked = false }

abbrev job : Node
job = record { giver = 0; first = Some 6; second = Some 1; link = null; side = null; named = true; linked = true }

-- the id that a link names, and 0 where it names none
abbrev id_of : Option ℕ → ℕ
id_of None = 0
id_of (Some id) = id

abbrev target : Option Link → ℕ
target None = 0
target (Some link) = id_of link.to

links_apart : Some (link_to 1) ≢ Some (link_to 0)
links_apart e = let same : 1 ≡ 0 = ap target e in omega (arith, same)

pub put_licensed : (b : Bounds) (s : MachineView FifoNote) → b ≡ small → s.agent ≡ 0 → s.journal ≡ before_put → FifoHolds (numbers_of b) (project b s.journal)
    → MoveAllowed (FifoMay (numbers_of b)) b s (Next 0) null_row row_1 (Some (Entry (Put 0 6 0)))
put_licensed b s same is seen holds =
    let n = numbers_of small in
    let es : List (Event FifoNote) = project small before_put in
    let h : Heap = run_heap n es in
    let named : WasNamed h 1 0 = record { linked = record { node = dummy null; there = refl; linked = refl }; either = inl refl } in
    same_allowed b small s 0 before_put (Next 0) null_row row_1 (Some (Entry (Put 0 6 0))) same is seen
    (at_word n es (node_place (present_ids small before_put) (Next 0)) (at.Next 0) null (link_to 1) (Some (Entry (Put 0 6 0))) refl
    (put_allowed n 0 0 1 6 0 es (holds_as b small s before_put same seen holds) refl named refl (omega arith) refl))

pub swing_licensed : (b : Bounds) (s : MachineView FifoNote) → b ≡ small → s.agent ≡ 0 → s.journal ≡ before_swing
    → FifoHolds (numbers_of b) (project b s.journal)
    → MoveAllowed (FifoMay (numbers_of b)) b s (Root 1) row_0 row_1 (Some Swing)
swing_licensed b s same is seen holds =
    let n = numbers_of small in
    let es : List (Event FifoNote) = project small before_swing in
    let h : Heap = run_heap n es in
    let link : HasLink h 0 (link_to 1) = record { node = dummy (link_to 1); there = refl; linked = refl; link_is = refl } in
    same_allowed b small s 0 before_swing (Root 1) row_0 row_1 (Some Swing) same is seen
    (at_word n es (node_place (present_ids small before_swing) (Root 1)) (at.Root 1) (link_to 0) (link_to 1) (Some Swing) refl
    (swing_allowed n 0 0 1 es (holds_as b small s before_swing same seen holds) refl link))

pub took_licensed : (b : Bounds) (s : MachineView FifoNote) → b ≡ small → s.agent ≡ 0 → s.journal ≡ before_took
    → FifoHolds (numbers_of b) (project b s.journal)
    → MoveAllowed (FifoMay (numbers_of b)) b s (Root 0) row_0 row_1 (Some (Entry (Took 0 6 0)))
took_licensed b s same is seen holds =
    let n = numbers_of small in
    let es : List (Event FifoNote) = project small before_took in
    let h : Heap = run_heap n es in
    let link : HasLink h 0 (link_to 1) = record { node = dummy (link_to 1); there = refl; linked = refl; link_is = refl } in
    let left : IsLeftBehind h 0 = record { next = 1; link = link; tail_apart = links_apart } in
    let has : HasJob h 1 6 0 = record { node = job; there = refl; linked = refl; holds = record { job_is = refl; position_is = refl; low = omega arith } } in
    same_allowed b small s 0 before_took (Root 0) row_0 row_1 (Some (Entry (Took 0 6 0))) same is seen
    (at_word n es (node_place (present_ids small before_took) (Root 0)) (at.Root 0) (link_to 0) (link_to 1) (Some (Entry (Took 0 6 0))) refl
    (took_allowed n 0 0 1 6 0 es (holds_as b small s before_took same seen holds) refl left link has))

-- a pass of a board for one agent steps right after what it had seen
pub sole_next : {N : Type 0} (b : Bounds) (q : Request) (note : Option N) (s t : MachineView N) (n : ℕ) → b ≡ small → s.agent ≡ 0 → Makes b q note s n t
    → AgentsBelow (λ (x : Step N). x.agent) b.agents t.journal → t.journal ≡ s.journal ++ step_of 0 q note ∷ []
sole_next {N} b q note s t n same is made below =
    let one : b.agents ≡ 1 = ap (λ (c : Bounds). c.agents) same in
    let all : TookInAll b s = λ a lt. inl (let zero : a ≡ 0 = omega (arith, one, lt) in zero ∙ sym is) in
    steps_next b q note s t n made all below ∙ ap (λ a. s.journal ++ step_of a q note ∷ []) is

-- a journal that went on twice
pub on_and_on : {A : Type 0} {x y z w : List A} (p q : List A) → x ≡ y ++ p → y ≡ z ++ q → z ≡ w → x ≡ (w ++ q) ++ p
on_and_on p q e f g = e ∙ ap (λ l. l ++ p) (f ∙ ap (λ l. l ++ q) g)

pub if_some_map : {A : Type 0} {P Q : A → Type 0} (o : Option A) → ((x : A) → P x → Q x) → IfSome o P → IfSome o Q
if_some_map None f h = tt
if_some_map (Some x) f h = f x h

-- the discipline allows the dummy
pub dummy_allowed : (b : Bounds) → b ≡ small → DummyAllowed FifoMay (numbers_of b) 0 Begin
dummy_allowed b same = subst (λ c. DummyAllowed FifoMay (numbers_of c) 0 Begin) (sym same) record {
  roots = omega arith;
  low = omega arith;
  first_link = record {
    fits = (refl, record { node = new_dummy; there = refl; known = inl refl });
    may_act = record { root_is = omega arith; from_is = refl; to_is = refl; ends = refl; side_null = λ link e. cc };
    in_time = tt;
    may_enter = tt;
  };
  second_link = record {
    fits = (refl, record { node = dummy null; there = refl; known = inl refl });
    may_act = record { root_is = omega arith; from_is = refl; to_is = refl; ends = refl; side_null = λ link e. cc };
    in_time = tt;
    may_enter = tt;
  };
}

-- what the machine allows, the record of the pass allows
pub played_may : {N : Type 0} (b : Bounds) (s : MachineView N) (m : Machine) (op : Op) → m ≡ run_of b s.journal → s.agent ≡ 0
    → record_at (run_of b s.journal) s.agent ≡ s.record_is → is_enroll op ≡ false → is_allowed m 0 op ≡ true → MayDo b s op
played_may b s m op is agent mine kind can =
    let bounds : m.bounds ≡ b = ap (λ (z : Machine). z.bounds) is ∙ bounds_run b s.journal in
    let own : record_at m 0 ≡ s.record_is = (λ i. record_at (is i) (sym agent i)) ∙ mine in
    (λ i. may (sym bounds i) 0 (agent i) op (sym own i)) ∙ (permission m.bounds 0 (word_in m Enrolled) 0 op (record_at m 0) kind ∙ can)

-- the machine goes on with the pass
pub played_on : {N : Type 0} (b : Bounds) (q : Request) (note : Option N) (s t : MachineView N) (n : ℕ) (m k : Machine) → b ≡ small → s.agent ≡ 0
    → Makes b q note s n t → AgentsBelow (λ (x : Step N). x.agent) b.agents t.journal → m ≡ run_of b s.journal → k ≡ step m 0 q.op
    → k ≡ run_of b t.journal
played_on b q note s t n m k same is made below before next =
    next ∙ (ap (λ z. step z 0 q.op) before ∙ (sym (run_plain-append (new_machine b) s.journal (step_of 0 q note ∷ []))
    ∙ ap (run_of b) (sym (sole_next b q note s t n same is made below))))
