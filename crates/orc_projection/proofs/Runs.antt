-- Over every lawful list of steps that stores no mark, each act fits, and the state shows the heap.
use Rattle.std.proofs.Common.{List, [], arith, refl, subst, suc, sym, true, zero, ℕ, ◌++◌, ◌<◌, ◌∷◌, ◌≡◌}
use Rattle.std.proofs.lemmas.Bool.{false≢true}
use Rattle.std.specs.Prelude.{None, Option, Some, replicate, slice_get}
use Rattle.orc_core.proofs.Within.{may_within}
use Rattle.orc_core.specs.Actions.{action_of}
use Rattle.orc_core.specs.Machine.{Machine, is_allowed, new_machine, record_at, step, word_read}
use Rattle.orc_core.specs.RecordParts.{names}
use Rattle.orc_core.specs.Runs.{run}
use Rattle.orc_core.specs.declared.ops.Op.{Op}
use Rattle.orc_core.specs.declared.ops.Op.TheVariants.{Fill as FillStep, GateTake, LinkCas, LinkLoad, LinkStore}
use Rattle.orc_core.specs.declared.records.Agent.{Agent}
use Rattle.orc_heap.specs.Heap.{Heap, new_heap, null}
use Rattle.orc_heap.specs.Journals.{IsLawfulFrom, run_from}
use Rattle.orc_heap.specs.declared.events.Act.{Act}
use Rattle.orc_heap.specs.declared.events.Event.{Event}
use Rattle.orc_projection.proofs.FillStep.{fill_fits, fill_shows}
use Rattle.orc_projection.proofs.Shows.{Fitting, Shows, heap_then}
use Rattle.orc_projection.proofs.Steps.{exchange_step, load_step, take_step}
use Rattle.orc_projection.proofs.StillStep.{still_shows}
use Rattle.orc_projection.proofs.StoreStep.{store_step}
use Rattle.orc_projection.specs.Mirror.{numbers_of}
use Rattle.orc_projection.specs.PresentIds.{PresentIds, no_ids}
use Rattle.orc_projection.specs.Projection.{StoresUnmarked, IsPlainOp, act_of, events_of, ids_after, ids_from, is_taken, project_from}
use Rattle.orc_sound.proofs.AllFits.{AllFits, all_step, allowed_step}
use Rattle.orc_sound.proofs.NewState.{seats_first, zero_first}
use Rattle.orc_sound.proofs.Bridge.{world_step}
use Rattle.orc_sound.proofs.DoomedStep.{never_out}
use Rattle.orc_sound.proofs.Facts.{Counted, LawfulStep, out}
use Rattle.orc_sound.proofs.Full.{Full, full_step}
use Rattle.orc_sound.proofs.Outs.{null_row, zero_one}
use Rattle.orc_sound.proofs.Shown.{word_shown}
use Rattle.orc_sound.proofs.Sources.{any_holds_at}
use Rattle.orc_sound.proofs.World.{World, read_by, step_world, world_of}
use Rattle.orc_sound.specs.Journals.{IsLawfulJournal, IsWanted, plain}
use Rattle.orc_sound.specs.declared.steps.Step.{Step}
use Rattle.orc_words.specs.Bounds.{Bounds}
use Rattle.orc_words.specs.declared.packed.RowLink.{RowLink}
use Rattle.orc_words.specs.declared.place.Word.TheVariants.{Gate, Root}

-- what a step that read v does to the heap
abbrev pub Keeps : (b : Bounds) (y : World) (p : PresentIds) (h : Heap) (a : ℕ) (op : Op) (want : Option RowLink) (d : Agent) (v : ℕ) → Type 0
Keeps b y p h a op want d v = Fitting a (act_of p d v op want) h × Shows b y (ids_after p d v op) (heap_then a (act_of p d v op want) h)

step_shows : (b : Bounds) (z : World) (p : PresentIds) (h : Heap) (a : ℕ) (op : Op) (want : Option RowLink) → LawfulStep b z a op
    → Counted b (step_world z a op) → IsWanted (z.seats a) op want → IsPlainOp op → Shows b z p h
    → Keeps b (step_world z a op) p h a op want (z.seats a) (read_by z a op)
step_shows b z p h a (GateTake q) want l c u n s = take_step b z p h a q l s (is_taken (z.seats a) (z.memory (Gate q))) refl
step_shows b z p h a (FillStep q which v) want l c u n s = (fill_fits b z p h a q which v l s, fill_shows b z p h a q which v l s)
step_shows b z p h a (LinkLoad w slot) want l c u n s = load_step b z p h a w slot want l u s
step_shows b z p h a (LinkCas w x t) want l c u n s = exchange_step b z p h a w x t want l c s
step_shows b z p h a (LinkStore q k nr) want l c u n s = store_step b z p h a q nr k l n s (names (z.seats a).fresh q) refl
step_shows b z p h a op want l c u n s = (tt, still_shows b z p h a op l refl s)

events_lawful : {N : Type 0} (s : Step N) (o : Option Act) (h : Heap) (rest : List (Event N)) → Fitting s.agent o h
    → IsLawfulFrom (heap_then s.agent o h) rest → IsLawfulFrom h (events_of s o ++ rest)
events_lawful s None h rest f l = l
events_lawful s (Some act) h rest f l = (f, l)

pub events_run : {N : Type 0} (s : Step N) (o : Option Act) (h : Heap) (rest : List (Event N))
    → run_from h (events_of s o ++ rest) ≡ run_from (heap_then s.agent o h) rest
events_run s None h rest = refl
events_run s (Some act) h rest = refl

pub machine_step : (m : Machine) (p : PresentIds) (h : Heap) (a : ℕ) (op : Op) (want : Option RowLink) → Full m → AllFits m.bounds (world_of m)
    → is_allowed m a op ≡ true → IsWanted (record_at m a) op want → IsPlainOp op → Shows m.bounds (world_of m) p h
    → Keeps m.bounds (world_of (step m a op)) p h a op want (record_at m a) (word_read m a op)
machine_step m p h a op want w s l u n k =
    let legal = allowed_step m a op w s l in
    let made = step_shows m.bounds (world_of m) p h a op want legal (all_step m.bounds (world_of m) a op legal s).counted u n k in
    let read : read_by (world_of m) a op ≡ word_read m a op =
    word_shown m (action_of a op (record_at m a)).word (may_within m.bounds _ a op (record_at m a) l) in
    subst (λ v. Keeps m.bounds (world_of (step m a op)) p h a op want (record_at m a) v) read
    (subst (λ y. Keeps m.bounds y p h a op want (record_at m a) (read_by (world_of m) a op)) (sym (world_step m a op w.words w.agents l)) made)

pub project_shows : {N : Type 0} (m : Machine) (p : PresentIds) (h : Heap) (steps : List (Step N)) → Full m → AllFits m.bounds (world_of m)
    → IsLawfulJournal m steps → StoresUnmarked steps → Shows m.bounds (world_of m) p h
    → IsLawfulFrom h (project_from m p steps) × Shows m.bounds (world_of (run m (plain steps))) (ids_from m p steps) (run_from h (project_from m p steps))
project_shows m p h [] w s l n k = (tt, k)
project_shows m p h (x ∷ xs) w s l n k =
    let d = record_at m x.agent in
    let v = word_read m x.agent x.op in
    let o = act_of p d v x.op x.want in
    let made = machine_step m p h x.agent x.op x.want w s l.0 l.1 n.0 k in
    let fitting =
    subst (λ z. AllFits m.bounds z) (sym (world_step m x.agent x.op w.words w.agents l.0))
    (all_step m.bounds (world_of m) x.agent x.op (allowed_step m x.agent x.op w s l.0) s) in
    let rest = project_shows (step m x.agent x.op) (ids_after p d v x.op) (heap_then x.agent o h) xs (full_step m x.agent x.op w) fitting l.2 n.1 made.1 in (
      events_lawful x o h (project_from (step m x.agent x.op) (ids_after p d v x.op) xs) made.0 rest.0,
      subst (λ g. Shows m.bounds (world_of (run (step m x.agent x.op) (plain xs))) (ids_from (step m x.agent x.op) (ids_after p d v x.op) xs) g)
          (sym (events_run x o h (project_from (step m x.agent x.op) (ids_after p d v x.op) xs))) rest.1,
    )

-- a new state shows the new heap
get-replicate : {A : Type 0} (n i : ℕ) (x : A) → i < n → slice_get (replicate n x) i ≡ Some x
get-replicate zero i x h = absurd (omega arith)
get-replicate (suc n) zero x h = refl
get-replicate (suc n) (suc i) x h = get-replicate n i x (omega arith)

pub first_shows : (b : Bounds) → Shows b (world_of (new_machine b)) no_ids (new_heap (numbers_of b))
first_shows b = record {
  links = refl;
  given = refl;
  there = λ j o. absurd (no_row j o);
  apart = λ i j o u e. absurd (no_row i o);
  roots = λ i k. rw (zero_first b (Root i) refl) (get-replicate b.roots i null k);
  rows = λ j o. absurd (no_row j o);
  fresh = λ a j h. absurd (false≢true (rw (seats_first b a) at h));
  held = λ a k j g h. absurd (false≢true (rw (seats_first b a) at (any_holds_at ((world_of (new_machine b)).seats a).slots k j h)));
  root_named = λ i j h. absurd (zero_one (null_row _ j (zero_first b (Root i) refl)) h);
  next_named = λ i j o h. absurd (no_row i o);
  side_named = λ i j o h. absurd (no_row i o);
}
  where
    no_row : (j : ℕ) → out ((world_of (new_machine b)).memory (Gate j)) ≡ 1 → ⊥
    no_row j o = never_out _ (zero_first b (Gate j) refl) o
