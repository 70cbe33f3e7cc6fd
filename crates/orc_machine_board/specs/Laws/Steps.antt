-- One more step does what the machine's tables say, and finds room in its agent's work list.
use Rattle.std.proofs.Common.{List, None, Some, [], ap, append-nil, false, get_or-set_other, get_or-set_same, length, refl, subst, sym, true, ℕ, ◌++◌, ◌<◌, ◌∙◌, ◌≡◌, ◌≢◌, ◌∷◌, ◌≤◌}
use Rattle.std.specs.Prelude.{slice_index, slice_set}
use Rattle.std.proofs.lemmas.Bool.{false≢true}
use Rattle.orc_core.proofs.Steps.{every_run_whole}
use Rattle.orc_core.proofs.Within.{may_parts}
use Rattle.orc_core.specs.Actions.{action_of}
use Rattle.orc_words.specs.Operations.{word_after}
use Rattle.orc_core.specs.After.{after}
use Rattle.orc_core.specs.Allowed.{may}
use Rattle.orc_core.specs.Machine.{Machine, is_allowed, new_machine, nobody, record_at, step, word_in, word_read}
use Rattle.orc_core.specs.Runs.{run}
use Rattle.orc_core.specs.declared.ops.CounterUse.TheVariants.{Check, End, Start}
use Rattle.orc_core.specs.declared.ops.Op.{Op}
use Rattle.orc_core.specs.declared.ops.Op.TheVariants.{Arm, Clear, CounterLoad, Dec, Enroll, Fill, Free, GateLook, GateTake, Hand, Inc, LinkCas, LinkLoad, LinkStore, Publish, Read, SetRetired, SlotLook, TakeIn, Unretire, MoveOn, HandoverLook, DecHeld}
use Rattle.orc_core.specs.declared.records.Agent.{Agent}
use Rattle.orc_layout.proofs.Indices.{index_is_layout}
use Rattle.orc_projection.proofs.Mirrored.{StoresUnmarked-append, project-append}
use Rattle.orc_projection.specs.PresentIds.{no_ids}
use Rattle.orc_projection.specs.Projection.{project}
use Rattle.orc_machine_board.specs.Rules.{ListHasRoom, RequestAllowed, bounds_in, counted_rules, events_after, is_enroll, run_of, step_of}
use Rattle.orc_machine_board.specs.declared.machine.Request.{Request}
use Rattle.orc_machine_board.specs.declared.machine.MachineShape.{MachineShape}
use Rattle.orc_shared_words.specs.Runs.{Obeys, found_by}
use Rattle.orc_sound.proofs.AllFits.{run_bounds}
use Rattle.orc_sound.proofs.ForRuns.{room_left}
use Rattle.orc_sound.proofs.Journals.{IsLawfulJournal-append, plain_lawful, run_plain-append}
use Rattle.orc_sound.specs.Journals.{plain}
use Rattle.orc_sound.specs.declared.steps.Step.{Step}
use Rattle.orc_words.specs.Bounds.{Bounds, IsShape, bounds_of}
use Rattle.orc_words.specs.Places.{place}
use Rattle.orc_words.specs.declared.place.Word.TheVariants.{Enrolled}
use Rattle.orc_words.specs.declared.shape.Shape.{Shape}

-- a shape's numbers are in range
pub in_range : (s : Shape) → IsShape (bounds_of s)
in_range s = record {
  rows = (s.some_rows, s.few_rows);
  roots = (s.some_roots, s.few_roots);
  agents = (s.some_agents, s.few_agents);
  limit = (s.some_limit, s.low_limit);
  links = (s.some_links, s.few_links);
}

-- but for Enroll, the word of enrolments doesn't matter
pub permission : (b : Bounds) (e f a : ℕ) (op : Op) (d : Agent) → is_enroll op ≡ false → may b e a op d ≡ may b f a op d
permission b e f a Enroll d h = absurd (false≢true (sym h))
permission b e f a (GateLook r) d h = refl
permission b e f a (GateTake r) d h = refl
permission b e f a (Fill r w v) d h = refl
permission b e f a (Read r w) d h = refl
permission b e f a (LinkLoad p None) d h = refl
permission b e f a (LinkLoad p (Some k)) d h = refl
permission b e f a (Publish k r) d h = refl
permission b e f a (Clear k) d h = refl
permission b e f a (Arm r) d h = refl
permission b e f a (LinkCas p x y) d h = refl
permission b e f a (LinkStore r l number) d h = refl
permission b e f a (Inc r) d h = refl
permission b e f a (Dec r) d h = refl
permission b e f a (SetRetired r q) d h = refl
permission b e f a (CounterLoad r Check) d h = refl
permission b e f a (CounterLoad r Start) d h = refl
permission b e f a (CounterLoad r End) d h = refl
permission b e f a (Unretire r) d h = refl
permission b e f a (SlotLook k) d h = refl
permission b e f a (Hand k) d h = refl
permission b e f a (TakeIn k) d h = refl
permission b e f a (Free r) d h = refl
permission b e f a (MoveOn k r) d h = refl
permission b e f a (HandoverLook k) d h = refl
permission b e f a (DecHeld r) d h = refl

-- what a step makes of the words and of the records
words_of_step : (b : Bounds) (m : Machine) (a : ℕ) (op : Op) → m.bounds ≡ b
    → let w = (action_of a op (record_at m a)).word in (step m a op).words ≡ slice_set m.words (place b w)
    (word_after (action_of a op (record_at m a)).operation (slice_index m.words (place b w)))
words_of_step b m a op e =
    let action = action_of a op (record_at m a) in
    λ i. slice_set m.words (place (e i) action.word) (word_after action.operation (slice_index m.words (place (e i) action.word)))

its_record : (b : Bounds) (m : Machine) (a : ℕ) (op : Op) → m.bounds ≡ b → a < length m.agents
    → record_at (step m a op) a ≡ after op (record_at m a) (slice_index m.words (place b (action_of a op (record_at m a)).word))
its_record b m a op e lt =
    get_or-set_same m.agents a (after op (record_at m a) (word_read m a op)) (nobody m.bounds.rows) lt
    ∙ (λ i. after op (record_at m a) (slice_index m.words (place (e i) (action_of a op (record_at m a)).word)))

pub other_record : (m : Machine) (a x : ℕ) (op : Op) → x ≢ a → record_at (step m a op) x ≡ record_at m x
other_record m a x op ne = get_or-set_other m.agents a x (after op (record_at m a) (word_read m a op)) (nobody m.bounds.rows) ne

module _ {N : Type 0} where
  -- the state after a journal and one more step, and after more steps
  pub run_more : (b : Bounds) (j more : List (Step N)) → run_of b (j ++ more) ≡ run (run_of b j) (plain more)
  run_more b j more = run_plain-append (new_machine b) j more

  pub run_next : (b : Bounds) (j : List (Step N)) (s : Step N) → run_of b (j ++ s ∷ []) ≡ step (run_of b j) s.agent s.op
  run_next b j s = run_more b j (s ∷ [])

  pub bounds_run : (b : Bounds) (j : List (Step N)) → (run_of b j).bounds ≡ b
  bounds_run b j = run_bounds (new_machine b) (plain j)

  pub long_run : (b : Bounds) (j : List (Step N)) → IsShape b → length (run_of b j).agents ≡ b.agents
  long_run b j shape = (every_run_whole b (plain j) shape).agents ∙ ap (λ z. z.agents) (bounds_run b j)

  -- what the record allows is allowed where the step stands
  pub allowed_there : (b : Bounds) (j : List (Step N)) (a : ℕ) (q : Request) → RequestAllowed b a q (record_at (run_of b j) a)
      → is_allowed (run_of b j) a q.op ≡ true
  allowed_there b j a q h =
      let m = run_of b j in
      (λ i. may (bounds_run b j i) (word_in m Enrolled) a q.op (record_at m a))
      ∙ (permission b (word_in m Enrolled) 0 a q.op (record_at m a) h.enrolled ∙ h.may)

  pub counted_obeys : (k : MachineShape N) → Obeys counted_rules k
  counted_obeys k =
      let b = bounds_in k in
      record {
        layout = index_is_layout b;
        by_step = λ a q said. refl;
        words_next = λ j a q said. ap (λ m. m.words) (run_next b j (step_of a q said)) ∙ words_of_step b (run_of b j) a q.op (bounds_run b j);
        own_next = λ j a q said lt. ap (λ m. record_at m a) (run_next b j (step_of a q said))
            ∙ its_record b (run_of b j) a q.op (bounds_run b j) (subst (λ n. a < n) (sym (long_run b j (in_range k.shape))) lt);
        own_other = λ j s x ne. ap (λ m. record_at m x) (run_next b j s) ∙ other_record (run_of b j) s.agent x s.op ne;
        lawful_next = λ j a q said l may. (
          (IsLawfulJournal-append (new_machine b) j (step_of a q said ∷ [])).1 (l.0, (allowed_there b j a q may, may.wanted, tt)),
          (StoresUnmarked-append j (step_of a q said ∷ [])).1 (l.1, (may.plain, tt)),
        );
        project_next = λ j s. project-append (new_machine b) no_ids j (s ∷ []) ∙ ap (λ l. project b j ++ l) (append-nil (events_after b j s));
      }

  pub counted_leaves_room : (k : MachineShape N) (j : List (Step N)) (a : ℕ) (q : Request) → (counted_rules {N = N}).lawful k j
      → (counted_rules {N = N}).allowed k a q ((counted_rules {N = N}).own k j a)
      → ListHasRoom q ((counted_rules {N = N}).own k j a) (found_by (counted_rules {N = N}) k j a q)
  counted_leaves_room k j a q l h =
      let b = bounds_in k in
      let m = run_of b j in
      let d = record_at m a in
      let shape = in_range k.shape in
      let below : a < length m.agents = subst (λ n. a < n) (sym (long_run b j shape)) (may_parts b 0 a q.op d h.may).agent in
      let room : d.list.room ≡ m.bounds.rows = (every_run_whole b (plain j) shape).rooms a below in
      subst (λ n. length (after q.op d (slice_index m.words (place n (action_of a q.op d).word))).list.items ≤ d.list.room) (bounds_run b j)
      (subst (λ n. length (after q.op d (word_read m a q.op)).list.items ≤ n) (sym room)
      (room_left b (plain j) a q.op shape (plain_lawful (new_machine b) j l.0) (allowed_there b j a q h)))
