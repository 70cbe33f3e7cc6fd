-- What a pass has seen begins with the opening, and each of it is of one of the agents.
use Rattle.std.proofs.Common.{List, None, Option, Some, [], ap, subst, sym, true, ℕ, ◌++◌, ◌<◌, ◌∙◌, ◌≡◌, ◌∷◌}
use Rattle.std.proofs.lemmas.Bool.{ltb-true}
use Rattle.std.specs.Prelude.{nat_lt, ◌&&◌}
use mathlib.Core.List.{IsPrefix}
use Rattle.orc_core.proofs.Within.{and_both, may_parts}
use Rattle.orc_core.specs.Allowed.{may_change, may_target}
use Rattle.orc_core.specs.Machine.{Machine, is_allowed, new_machine, record_at, step, word_in, word_read}
use Rattle.orc_core.specs.RecordParts.{is_empty, slot_of}
use Rattle.orc_core.specs.declared.ops.Op.{Op}
use Rattle.orc_core.specs.declared.ops.CounterUse.TheVariants.{Check}
use Rattle.orc_core.specs.declared.ops.Op.TheVariants.{CounterLoad, Fill, GateLook, GateTake, Inc, LinkCas, Publish}
use Rattle.orc_heap.specs.OwnEvents.{IsBelow}
use Rattle.orc_heap.specs.Seeds.{HasRoots, opening_events}
use Rattle.orc_heap.specs.declared.events.Act.{Act}
use Rattle.orc_heap.specs.declared.events.Event.{Event}
use Rattle.orc_heap.specs.declared.seed.Seed.{Seed}
use Rattle.orc_heap.specs.declared.seed.Seed.TheVariants.{Dummy, Empty}
use Rattle.orc_machine_board.proofs.Opening.{opened_events}
use Rattle.orc_machine_board.specs.Laws.Steps.{bounds_run}
use Rattle.orc_machine_board.specs.Rules.{enrolments, machine_opening, run_of, seeding, without_mark}
use Rattle.orc_projection.proofs.Mirrored.{project-append}
use Rattle.orc_projection.specs.Mirror.{numbers_of}
use Rattle.orc_projection.specs.PresentIds.{PresentIds, no_ids}
use Rattle.orc_projection.specs.Projection.{act_of, events_of, ids_after, ids_from, project, project_from}
use Rattle.orc_core.specs.Runs.{run}
use Rattle.orc_shared_words.specs.Runs.{AgentsBelow}
use Rattle.orc_sound.proofs.AllFits.{run_bounds}
use Rattle.orc_sound.proofs.Journals.{IsLawfulJournal-append}
use Rattle.orc_sound.specs.Journals.{IsLawfulJournal, plain}
use Rattle.orc_sound.specs.declared.steps.Step.{Step}
use Rattle.orc_words.specs.Bounds.{Bounds, IsShape, link_limit}
use Rattle.orc_words.specs.declared.packed.RowLink.{RowLink}
use Rattle.orc_words.specs.declared.place.Word.TheVariants.{Enrolled, Root}

-- an exchange that is allowed at a root is at a root of the table
cas_root : (m : Machine) (a i : ℕ) (from to : RowLink) → is_allowed m a (LinkCas (Root i) from to) ≡ true → i < m.bounds.roots
cas_root m a i from to h =
    let b = m.bounds in
    let d = record_at m a in
    let fits = (may_parts b (word_in m Enrolled) a (LinkCas (Root i) from to) d h).fits in
    let one = and_both (nat_lt i b.roots && is_empty (slot_of d 0) && may_target b d from.to && may_target b d to.to)
    (may_change d (link_limit b) from.to to.to) fits in
    let two = and_both (nat_lt i b.roots && is_empty (slot_of d 0) && may_target b d from.to) (may_target b d to.to) one.0 in
    let three = and_both (nat_lt i b.roots && is_empty (slot_of d 0)) (may_target b d from.to) two.0 in
    ltb-true i b.roots (and_both (nat_lt i b.roots) (is_empty (slot_of d 0)) three.0).0

-- the steps for the dummy before its second link is made
abbrev before_second : ℕ → List (ℕ × Op)
before_second first =
    (0, GateLook 0)
    ∷ (0, CounterLoad 0 Check)
    ∷ (0, GateTake 0)
    ∷ (0, Fill 0 0 0)
    ∷ (0, Fill 0 1 first)
    ∷ (0, Publish 1 0)
    ∷ (0, CounterLoad 0 Check)
    ∷ (0, LinkCas (Root 0) (without_mark None) (without_mark (Some 0)))
    ∷ (0, Inc 0)
    ∷ (0, CounterLoad 0 Check)
    ∷ []

module _ {N : Type 0} where
  -- a seed whose steps are lawful has the roots that it needs
  seed_has_roots : (b : Bounds) (seed : Seed N) → IsLawfulJournal (run_of b (enrolments {N = N} b.agents)) (seeding seed) → HasRoots (numbers_of b) seed
  seed_has_roots b Empty l = tt
  seed_has_roots b (Dummy first begin) l =
      let m = run_of b (enrolments {N = N} b.agents) in
      let low = cas_root (run m (before_second first)) 0 1 (without_mark None) (without_mark (Some 0)) l.2.2.2.2.2.2.2.2.2.2.0 in
      subst (λ (c : Bounds). 1 < c.roots) (run_bounds m (before_second first) ∙ bounds_run b (enrolments {N = N} b.agents)) low

  pub opens_so : (b : Bounds) (seed : Seed N) (j : List (Step N)) → IsShape b → IsLawfulJournal (new_machine b) j → IsPrefix (machine_opening b.agents seed) j
      → IsPrefix (opening_events seed) (project b j)
  opens_so b seed j shape l (more, is) =
      let opening = machine_opening b.agents seed in
      let whole = subst (IsLawfulJournal (new_machine b)) (sym is) l in
      let front = ((IsLawfulJournal-append (new_machine b) opening more).0 whole).0 in
      let roots = seed_has_roots b seed ((IsLawfulJournal-append (new_machine b) (enrolments {N = N} b.agents) (seeding seed)).0 front).1 in
      let rest = project_from (run (new_machine b) (plain opening)) (ids_from (new_machine b) no_ids opening) more in
      (rest, ap (λ es. es ++ rest) (sym (opened_events b seed shape roots)) ∙ (sym (project-append (new_machine b) no_ids opening more) ∙ ap (project b) is))

  below_from : (n : ℕ) (m : Machine) (p : PresentIds) (ss : List (Step N)) → AgentsBelow (λ (s : Step N). s.agent) n ss → IsBelow n (project_from m p ss)
  below_from n m p [] below = tt
  below_from n m p (s ∷ ss) below =
      put (act_of p (record_at m s.agent) (word_read m s.agent s.op) s.op s.want) _
      (below_from n (step m s.agent s.op) (ids_after p (record_at m s.agent) (word_read m s.agent s.op) s.op) ss below.1)
    where
      put : (o : Option Act) (es : List (Event N)) → IsBelow n es → IsBelow n (events_of s o ++ es)
      put None es rest = rest
      put (Some act) es rest = (below.0, rest)

  pub below_all : (b : Bounds) (j : List (Step N)) → AgentsBelow (λ (s : Step N). s.agent) b.agents j → IsBelow b.agents (project b j)
  below_all b j below = below_from b.agents (new_machine b) no_ids j below
