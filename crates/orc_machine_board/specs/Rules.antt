-- The journals of the machine of twenty kinds: how they begin, and what one more step does.
use Rattle.std.specs.Prelude.{Bool, List, None, Option, Some, [], false, length, suc, true, zero, ℕ, ◌++◌, ◌∷◌, ◌≡◌, ◌≤◌}
use Rattle.orc_core.specs.Actions.{action_of}
use Rattle.orc_core.specs.After.{after}
use Rattle.orc_core.specs.Allowed.{may}
use Rattle.orc_core.specs.Machine.{Machine, new_machine, nobody, record_at, word_read}
use Rattle.orc_core.specs.Runs.{run}
use Rattle.orc_core.specs.declared.ops.CounterUse.TheVariants.{Check}
use Rattle.orc_core.specs.declared.ops.Op.{Op}
use Rattle.orc_core.specs.declared.ops.Op.TheVariants.{Clear, CounterLoad, Enroll, Fill, GateLook, GateTake, Inc, LinkCas, Publish, TakeIn}
use Rattle.orc_core.specs.declared.records.Agent.{Agent}
use Rattle.orc_heap.specs.Heap.{HeapNumbers}
use Rattle.orc_heap.specs.declared.events.Event.{Event}
use Rattle.orc_layout.specs.Layout.{index}
use Rattle.orc_projection.specs.Mirror.{numbers_of}
use Rattle.orc_projection.specs.Projection.{StoresUnmarked, IsPlainOp, act_of, events_of, present_ids, project}
use Rattle.orc_machine_board.specs.declared.machine.Request.{Request}
use Rattle.orc_machine_board.specs.declared.machine.MachineShape.{MachineShape}
use Rattle.orc_heap.specs.declared.seed.Seed.{Seed}
use Rattle.orc_heap.specs.declared.seed.Seed.TheVariants.{Dummy, Empty}
use Rattle.orc_shared_words.specs.Operations.{returned_by}
use Rattle.orc_shared_words.specs.Runs.{Rules}
use Rattle.orc_sound.specs.Journals.{IsLawfulJournal, IsWanted, plain}
use Rattle.orc_sound.specs.declared.steps.Step.{Step}
use Rattle.orc_words.specs.Bounds.{Bounds, bounds_of}
use Rattle.orc_words.specs.Operations.{word_after}
use Rattle.orc_words.specs.Places.{place}
use Rattle.orc_words.specs.declared.packed.RowLink.{RowLink}
use Rattle.orc_words.specs.declared.place.Word.TheVariants.{Root}

-- an agent takes its place in the run
abbrev pub is_enroll : Op → Bool
is_enroll Enroll = true
is_enroll op = false

-- the record allows the step, whatever the word of enrolments is; it wants what it may want, and stores no mark
pub record RequestAllowed (b : Bounds) (a : ℕ) (q : Request) (d : Agent) : Type 0 where
  pub may : may b 0 a q.op d ≡ true
  pub enrolled : is_enroll q.op ≡ false
  pub wanted : IsWanted d q.op q.want
  pub plain : IsPlainOp q.op

-- the work list has room for what a step that read this word puts there
abbrev pub ListHasRoom : Request → Agent → ℕ → Type 0
ListHasRoom q d w = length (after q.op d w).list.items ≤ d.list.room

-- the record of an agent that has enrolled and made no other step
abbrev pub newcomer : ℕ → Agent
newcomer room = record (nobody room) { enrolled = true }

-- a link to this row, or to none
abbrev pub without_mark : Option ℕ → RowLink
without_mark to = record { to = to; mark = false }

module _ {N : Type 0} where
  -- the step of an agent that makes this request
  abbrev pub step_of : ℕ → Request → Option N → Step N
  step_of a q said = record { agent = a; op = q.op; want = q.want; note = said }

  -- the step of an agent that wants no link
  abbrev pub does : ℕ → Op → Option N → Step N
  does a op said = record { agent = a; op = op; want = None; note = said }

  -- the first agents enroll, in order
  abbrev pub enrolments : ℕ → List (Step N)
  enrolments zero = []
  enrolments (suc n) = enrolments n ++ does n Enroll None ∷ []

  -- what agent 0 does for the seed
  abbrev pub seeding : Seed N → List (Step N)
  seeding Empty = []
  seeding (Dummy first begin) =
      does 0 (GateLook 0) None
      ∷ does 0 (CounterLoad 0 Check) None
      ∷ does 0 (GateTake 0) None
      ∷ does 0 (Fill 0 0 0) None
      ∷ does 0 (Fill 0 1 first) None
      ∷ does 0 (Publish 1 0) None
      ∷ does 0 (CounterLoad 0 Check) None
      ∷ does 0 (LinkCas (Root 0) (without_mark None) (without_mark (Some 0))) (Some begin)
      ∷ does 0 (Inc 0) None
      ∷ does 0 (CounterLoad 0 Check) None
      ∷ does 0 (LinkCas (Root 1) (without_mark None) (without_mark (Some 0))) (Some begin)
      ∷ does 0 (Inc 0) None
      ∷ does 0 (Clear 1) None
      ∷ does 0 (TakeIn 1) None
      ∷ []

  -- the steps with which each journal begins: all agents enroll, and agent 0 does what the seed says
  abbrev pub machine_opening : ℕ → Seed N → List (Step N)
  machine_opening agents seed = enrolments agents ++ seeding seed

  -- the sizes of a shape
  abbrev pub bounds_in : MachineShape N → Bounds
  bounds_in k = bounds_of k.shape

  -- the numbers of the heap that a table of this shape shows
  abbrev pub heap_numbers : MachineShape N → HeapNumbers
  heap_numbers k = numbers_of (bounds_in k)

  -- the state after a journal
  abbrev pub run_of : Bounds → List (Step N) → Machine
  run_of b j = run (new_machine b) (plain j)

  -- the events of a step after a journal
  abbrev pub events_after : Bounds → List (Step N) → Step N → List (Event N)
  events_after b j s = events_of s (act_of (present_ids b j) (record_at (run_of b j) s.agent) (word_read (run_of b j) s.agent s.op) s.op s.want)

  -- how journals run
  abbrev pub counted_rules : Rules (MachineShape N) (Step N) Request Agent N
  counted_rules = record {
    agents = λ k. (bounds_in k).agents;
    blank = nobody 0;
    born = λ k. newcomer (bounds_in k).rows;
    place = λ k a q d. place (bounds_in k) (action_of a q.op d).word;
    index = λ k. index (bounds_in k);
    written = λ k a q d. word_after (action_of a q.op d).operation;
    answer = λ k a q d. returned_by (action_of a q.op d).operation;
    after = λ k a q d n. after q.op d n;
    allowed = λ k a q d. RequestAllowed (bounds_in k) a q d;
    by = λ s. s.agent;
    step = step_of;
    opening = λ k. machine_opening (bounds_in k).agents k.seed;
    words = λ k j. (run_of (bounds_in k) j).words;
    own = λ k j a. record_at (run_of (bounds_in k) j) a;
    lawful = λ k j. IsLawfulJournal (new_machine (bounds_in k)) j × StoresUnmarked j;
    events = λ k j s. events_after (bounds_in k) j s;
    project = λ k j. project (bounds_in k) j;
  }
