-- The journals of the machine: how they begin, and what one more step does.
use Rattle.std.specs.Prelude.{◌≡◌, ℕ, List, [], ◌∷◌, ◌++◌, Option, Some, None, refl}
use Rattle.std.proofs.Common.{sym, ap, ◌∙◌, append_assoc, append-nil}
use Rattle.orc_words.specs.Bounds.{Bounds, bounds_of}
use Rattle.orc_words.specs.Places.{place}
use Rattle.orc_words.specs.declared.place.Word.TheVariants as word
use Rattle.orc_heap.specs.Heap.{HeapNumbers}
use Rattle.orc_layout.proofs.Indices.{index_is_layout}
use Rattle.orc_layout.specs.Layout.{index}
use Rattle.orc_shared_words.specs.Runs.{Obeys, Rules}
use Rattle.orc_plain_board.specs.Machine.{State, Allowed, AllowedFrom, answer, events_at, next, numbers, project, project_from, run, run_from, start, unmarked, word_of, written}
use Rattle.orc_plain_board.specs.declared.machine.PlainOp.{PlainOp}
use Rattle.orc_plain_board.specs.declared.machine.PlainOp.TheVariants.{GateTake, Fill, LinkCas}
use Rattle.orc_plain_board.specs.declared.machine.PlainStep.{PlainStep}
use Rattle.orc_plain_board.specs.declared.shape.PlainShape.{PlainShape}
use Rattle.orc_heap.specs.declared.seed.Seed.{Seed}
use Rattle.orc_heap.specs.declared.seed.Seed.TheVariants.{Empty, Dummy}

module _ {N : Type 0} where
  abbrev pub step_of : ℕ → PlainOp → Option N → PlainStep N
  step_of agent op said = record { agent = agent; op = op; note = said }

  -- the steps of agent 0 that a new board begins with
  abbrev pub opening_steps : Seed N → List (PlainStep N)
  opening_steps Empty = []
  opening_steps (Dummy first begin) =
      step_of 0 (GateTake 0) None
      ∷ step_of 0 (Fill 0 0 0) None
      ∷ step_of 0 (Fill 0 1 first) None
      ∷ step_of 0 (LinkCas (word.Root 0) (unmarked None) (unmarked (Some 0))) (Some begin)
      ∷ step_of 0 (LinkCas (word.Root 1) (unmarked None) (unmarked (Some 0))) (Some begin)
      ∷ []

  abbrev pub heap_numbers : PlainShape N → HeapNumbers
  heap_numbers k = numbers (bounds_of k.shape)

  -- how journals run
  abbrev pub plain_rules : Rules (PlainShape N) (PlainStep N) PlainOp (Unit {0}) N
  plain_rules = record {
    agents = λ k. (bounds_of k.shape).agents;
    blank = tt;
    born = λ k. tt;
    place = λ k a op o. place (bounds_of k.shape) (word_of op);
    index = λ k. index (bounds_of k.shape);
    written = λ k a op o n. written op n;
    answer = λ k a op o n. answer op n;
    after = λ k a op o n. o;
    allowed = λ k a op o. Allowed (bounds_of k.shape) op;
    by = λ s. s.agent;
    step = step_of;
    opening = λ k. opening_steps k.seed;
    words = λ k j. (run (bounds_of k.shape) j).words;
    own = λ k j a. tt;
    lawful = λ k j. AllowedFrom (bounds_of k.shape) j;
    events = λ k j s. events_at (bounds_of k.shape) (run (bounds_of k.shape) j) s;
    project = λ k j. project (bounds_of k.shape) j;
  }

  pub steps-append : (b : Bounds) (x : State) (xs ys : List (PlainStep N)) → run_from b x (xs ++ ys) ≡ run_from b (run_from b x xs) ys
  steps-append b x [] ys = refl
  steps-append b x (y ∷ xs) ys = steps-append b (next b x y) xs ys

  pub project-append : (b : Bounds) (x : State) (xs ys : List (PlainStep N)) → project_from b x (xs ++ ys) ≡ project_from b x xs
      ++ project_from b (run_from b x xs) ys
  project-append b x [] ys = refl
  project-append b x (y ∷ xs) ys =
      ap (λ l. events_at b x y ++ l) (project-append b (next b x y) xs ys)
      ∙ sym (append_assoc (events_at b x y) (project_from b (next b x y) xs) (project_from b (run_from b x (y ∷ xs)) ys))

  pub allowed-snoc : (b : Bounds) (j : List (PlainStep N)) (s : PlainStep N) → AllowedFrom b j → Allowed b s.op → AllowedFrom b (j ++ s ∷ [])
  allowed-snoc b [] s h a = (a, tt)
  allowed-snoc b (y ∷ j) s h a = (h.0, allowed-snoc b j s h.1 a)

  -- one more step does what the machine's tables say
  pub plain_obeys : (k : PlainShape N) → Obeys plain_rules k
  plain_obeys k = record {
    layout = index_is_layout (bounds_of k.shape);
    by_step = λ a op said. refl;
    words_next = λ j a op said. ap (λ x. x.words) (steps-append (bounds_of k.shape) (start (bounds_of k.shape)) j (step_of a op said ∷ []));
    own_next = λ j a op said l. refl;
    own_other = λ j s b ne. refl;
    lawful_next = λ j a op said h l. allowed-snoc (bounds_of k.shape) j (step_of a op said) h l;
    project_next = λ j s. project-append (bounds_of k.shape) (start (bounds_of k.shape)) j (s ∷ [])
        ∙ ap (λ l. project (bounds_of k.shape) j ++ l) (append-nil (events_at (bounds_of k.shape) (run (bounds_of k.shape) j) s));
  }
