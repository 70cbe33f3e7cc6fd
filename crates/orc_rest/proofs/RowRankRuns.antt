-- The rank of unlinked nodes is kept over every lawful list of steps.
use Rattle.std.proofs.Common.{List, [], arith, refl, subst, sym, true, ℕ, ◌++◌, ◌∷◌, ◌≡◌}
use Rattle.std.specs.Prelude.{None, Option, Some}
use Rattle.orc_core.proofs.Within.{may_within}
use Rattle.orc_core.specs.Actions.{action_of}
use Rattle.orc_core.specs.Machine.{Machine, is_allowed, new_machine, record_at, step, word_read}
use Rattle.orc_core.specs.Runs.{run}
use Rattle.orc_heap.specs.Acts.{heap_after}
use Rattle.orc_heap.specs.Allowed.{MovesLinked}
use Rattle.orc_heap.specs.Heap.{Heap, new_heap}
use Rattle.orc_heap.specs.Journals.{run_from}
use Rattle.orc_heap.specs.declared.events.Act.{Act}
use Rattle.orc_heap.specs.declared.events.Event.{Event}
use Rattle.orc_projection.proofs.Runs.{events_run, machine_step}
use Rattle.orc_projection.proofs.Shows.{Fitting, Shows, heap_then}
use Rattle.orc_projection.specs.Mirror.{numbers_of}
use Rattle.orc_projection.specs.PresentIds.{PresentIds, no_ids}
use Rattle.orc_projection.specs.Projection.{StoresUnmarked, act_of, events_of, ids_after, ids_from, project_from}
use Rattle.orc_sound.proofs.AllFits.{AllFits, all_step, allowed_step}
use Rattle.orc_sound.proofs.NewState.{zero_first}
use Rattle.orc_sound.proofs.Bridge.{world_step}
use Rattle.orc_sound.proofs.Facts.{LawfulStep, out}
use Rattle.orc_sound.proofs.Full.{Full, full_step}
use Rattle.orc_sound.proofs.Shown.{word_shown}
use Rattle.orc_sound.proofs.World.{read_by, step_world, world_of}
use Rattle.orc_sound.specs.Journals.{IsLawfulJournal, plain}
use Rattle.orc_sound.specs.declared.steps.Step.{Step}
use Rattle.orc_words.specs.Bounds.{Bounds}
use Rattle.orc_words.specs.declared.place.Word.TheVariants.{Gate}
use Rattle.orc_rest.proofs.RowRank.{RanksRows, rank_step}

-- each Move, where it stands, changes a root or the link of a once linked node
abbrev pub AllMoveLinked : {N : Type 0} → Heap → List (Event N) → Type 0
AllMoveLinked h [] = Unit {0}
AllMoveLinked h (e ∷ es) = MovesLinked e.act h × AllMoveLinked (heap_after e.agent e.act h) es

first_moves : {N : Type 0} (s : Step N) (o : Option Act) (h : Heap) (rest : List (Event N)) → AllMoveLinked h (events_of s o ++ rest)
    → ((act : Act) → o ≡ Some act → MovesLinked act h) × AllMoveLinked (heap_then s.agent o h) rest
first_moves s None h rest m = ((λ act e. cc), m)
first_moves s (Some act) h rest m = ((λ other e. let same : act ≡ other = cc in subst (λ c. MovesLinked c h) same m.0), m.1)

at_read : {N : Type 0} (m : Machine) (p : PresentIds) (h : Heap) (x : Step N) → Full m → AllFits m.bounds (world_of m) → is_allowed m x.agent x.op ≡ true
    → Shows m.bounds (world_of m) p h → RanksRows (world_of m) p h
    → read_by (world_of m) x.agent x.op ≡ word_read m x.agent x.op → LawfulStep m.bounds (world_of m) x.agent x.op
    → Fitting x.agent (act_of p (record_at m x.agent) (word_read m x.agent x.op) x.op x.want) h
    → ((act : Act) → act_of p (record_at m x.agent) (word_read m x.agent x.op) x.op x.want ≡ Some act → MovesLinked act h)
    → RanksRows (step_world (world_of m) x.agent x.op) (ids_after p (record_at m x.agent) (word_read m x.agent x.op) x.op)
    (heap_then x.agent (act_of p (record_at m x.agent) (word_read m x.agent x.op) x.op x.want) h)
at_read m p h x w s l k g read legal f moves =
    subst (λ v. Fitting x.agent (act_of p (record_at m x.agent) v x.op x.want) h
    → ((act : Act) → act_of p (record_at m x.agent) v x.op x.want ≡ Some act → MovesLinked act h)
    → RanksRows (step_world (world_of m) x.agent x.op) (ids_after p (record_at m x.agent) v x.op)
    (heap_then x.agent (act_of p (record_at m x.agent) v x.op x.want) h)) read
    (λ f n. rank_step m.bounds (world_of m) p h x.agent x.op x.want legal k (s.change x.agent) f n g) f moves

pub rank_run : {N : Type 0} (m : Machine) (p : PresentIds) (h : Heap) (steps : List (Step N)) → Full m → AllFits m.bounds (world_of m)
    → IsLawfulJournal m steps → StoresUnmarked steps → Shows m.bounds (world_of m) p h
    → AllMoveLinked h (project_from m p steps) → RanksRows (world_of m) p h
    → RanksRows (world_of (run m (plain steps))) (ids_from m p steps) (run_from h (project_from m p steps))
rank_run m p h [] w s l n k c g = g
rank_run m p h (x ∷ xs) w s l n k c g =
    let d = record_at m x.agent in
    let v = word_read m x.agent x.op in
    let act = act_of p d v x.op x.want in
    let legal = allowed_step m x.agent x.op w s l.0 in
    let made = machine_step m p h x.agent x.op x.want w s l.0 l.1 n.0 k in
    let world = world_step m x.agent x.op w.words w.agents l.0 in
    let read : read_by (world_of m) x.agent x.op ≡ v = word_shown m (action_of x.agent x.op d).word (may_within m.bounds _ x.agent x.op d l.0) in
    let fitting = subst (λ z. AllFits m.bounds z) (sym world) (all_step m.bounds (world_of m) x.agent x.op legal s) in
    let moves = first_moves x act h (project_from (step m x.agent x.op) (ids_after p d v x.op) xs) c in
    let ground : RanksRows (world_of (step m x.agent x.op)) (ids_after p d v x.op) (heap_then x.agent act h) = subst
    (λ z. RanksRows z (ids_after p d v x.op) (heap_then x.agent act h)) (sym world) (at_read m p h x w s l.0 k g read legal made.0 moves.0) in
    subst (λ f. RanksRows (world_of (run (step m x.agent x.op) (plain xs))) (ids_from (step m x.agent x.op) (ids_after p d v x.op) xs) f)
    (sym (events_run x act h (project_from (step m x.agent x.op) (ids_after p d v x.op) xs)))
    (rank_run (step m x.agent x.op) (ids_after p d v x.op) (heap_then x.agent act h) xs (full_step m x.agent x.op w) fitting l.2 n.1 made.1 moves.1 ground)

pub first_rank : (b : Bounds) → RanksRows (world_of (new_machine b)) no_ids (new_heap (numbers_of b))
first_rank b = record { rank = λ r. 0; falls = λ i j q o n u t v. absurd (never (zero_first b (Gate j) refl) o) }
  where
    never : {w : ℕ} → w ≡ 0 → out w ≡ 1 → ⊥
    never e o = omega arith
