-- A step of the board is a step of the machine, after steps of others.
use Rattle.std.proofs.Common.{List, [], ap, append-nil, append_assoc, arith, length, refl, subst, sym, true, ℕ, ◌++◌, ◌∙◌, ◌∷◌, ◌≡◌, ◌≢◌}
use Rattle.std.proofs.lemmas.List.{length-append, length-map}
use Rattle.std.proofs.lemmas.Bool.{false≢true}
use Rattle.std.specs.Prelude.{None, map}
use Rattle.orc_machine_rest.proofs.Joins.{ops-append, quiet_then}
use Rattle.orc_machine_rest.specs.OwnSteps.{AtMostMore, TakesInCleared, ops_of}
use Rattle.orc_machine_rest.specs.Parts.{SawSteps, NoEvents}
use Rattle.orc_core.specs.Allowed.{may}
use Rattle.orc_core.specs.Machine.{Machine, is_allowed, new_machine, record_at, word_in, word_read}
use Rattle.orc_core.specs.Runs.{IsLawful, run}
use Rattle.orc_core.specs.declared.ops.CounterUse.TheVariants.{Check, End, Start}
use Rattle.orc_core.specs.declared.ops.Op.{Op}
use Rattle.orc_core.specs.declared.ops.Op.TheVariants.{CounterLoad, Enroll, Fill as FillStep, GateTake, LinkCas, LinkLoad, LinkStore}
use Rattle.orc_core.specs.declared.records.Agent.{Agent}
use Rattle.orc_heap.specs.Allowed.{events_by}
use Rattle.orc_history.specs.Journals.{own_of}
use Rattle.orc_machine_board.proofs.Licences.{signed}
use Rattle.orc_machine_board.specs.Kinds.{asks, is_plain_kind}
use Rattle.orc_machine_board.specs.Laws.Steps.{counted_obeys}
use Rattle.orc_machine_board.specs.Passes.{steps_of}
use Rattle.orc_machine_board.specs.Rules.{bounds_in, counted_rules, events_after, run_of, step_of}
use Rattle.orc_machine_board.specs.Views.{MachineView, Makes}
use Rattle.orc_machine_board.specs.declared.machine.MachineShape.{MachineShape}
use Rattle.orc_projection.specs.PresentIds.{PresentIds}
use Rattle.orc_projection.specs.Projection.{act_of, events_of, present_ids, project}
use Rattle.orc_rest.specs.Turns.{MadeAfterOthers, NoneOf}
use Rattle.orc_rest.specs.Work.{IsSettlingStep}
use Rattle.orc_shared_words.proofs.Events.{others_add}
use Rattle.orc_shared_words.proofs.Runs.{by_other, by_own, cons_nil, own_of-append}
use Rattle.orc_sound.proofs.Journals.{IsLawfulJournal-append, plain-append, plain_lawful, run_plain-append}
use Rattle.orc_sound.specs.Journals.{IsLawfulJournal, plain}
use Rattle.orc_sound.specs.declared.steps.Step.{Step}
use Rattle.orc_words.specs.Bounds.{Bounds}
use Rattle.orc_words.specs.declared.place.Word.{Word}

-- a settling step's permission lies in the record
free_of : (b : Bounds) (e f a : ℕ) (op : Op) (d x : Agent) (m : Word → ℕ) → IsSettlingStep m op x → may b e a op d ≡ may b f a op d
free_of b e f a Enroll d x m h = absurd h
free_of b e f a (LinkLoad w k) d x m h = absurd h
free_of b e f a (CounterLoad q Check) d x m h = absurd h
free_of b e f a (CounterLoad q Start) d x m h = refl
free_of b e f a (CounterLoad q End) d x m h = refl
free_of b e f a op d x m h = refl

-- it has no act, unless it changes a link
pub silent : (p : PresentIds) (d x : Agent) (w : ℕ) (m : Word → ℕ) (op : Op) → is_plain_kind op ≡ true → IsSettlingStep m op x → act_of p d w op None ≡ None
silent p d x w m (GateTake q) k h = absurd h
silent p d x w m (FillStep q which v) k h = absurd h
silent p d x w m (LinkLoad at s) k h = absurd h
silent p d x w m (LinkCas at f t) k h = absurd h
silent p d x w m (LinkStore q l number) k h = absurd (false≢true k)
silent p d x w m op k h = refl

pub may_here : (b : Bounds) (s : ℕ) (d : Agent) (m : Machine) (a : ℕ) (op : Op) → m.bounds ≡ b → s ≡ a → record_at m a ≡ d
    → IsSettlingStep (word_in m) op (record_at m a)
    → is_allowed m a op ≡ true → may b 0 s op d ≡ true
may_here b s d m a op eb es ed h allowed =
    (λ i. may (sym eb i) 0 (es i) op (sym ed i)) ∙ (free_of m.bounds 0 _ a op (record_at m a) (record_at m a) (word_in m) h ∙ allowed)

module _ {N : Type 0} where
  abbrev pub by : Step N → ℕ
  by s = s.agent

  pub apart : (a : ℕ) (ss : List (Step N)) → own_of by a ss ≡ [] → NoneOf a (plain ss)
  apart a [] e = tt
  apart a (s ∷ ss) e =
      let ne : s.agent ≢ a = λ q. cons_nil s (own_of by a ss) (sym (by_own by a s ss q) ∙ e) in
      (ne, apart a ss (sym (by_other by a s ss ne) ∙ e))

  -- steps that a pass has newly seen: these, of which the agent's own are of these ops, without an event of its own
  pub record Added (b : Bounds) (a : ℕ) (steps : List (ℕ × Op)) (ops : List Op) (s t : MachineView N) : Type 0 where
    pub part : List (Step N)
    pub journal : t.journal ≡ s.journal ++ part
    pub steps_are : plain part ≡ steps
    pub quiet : NoEvents b a s.journal t.journal
    pub own : ops_of a part ≡ ops

  pub added_then : (b : Bounds) (a : ℕ) (xs ys : List (ℕ × Op)) (v w : List Op) (s t u : MachineView N) → Added b a xs v s t → Added b a ys w t u
      → Added b a (xs ++ ys) (v ++ w) s u
  added_then b a xs ys v w s t u p q = record {
    part = p.part ++ q.part;
    journal = q.journal ∙ (ap (λ l. l ++ q.part) p.journal ∙ append_assoc s.journal p.part q.part);
    steps_are = plain-append p.part q.part ∙ (λ i. p.steps_are i ++ q.steps_are i);
    quiet = quiet_then b a s.journal t.journal u.journal p.quiet q.quiet;
    own = ops-append a p.part q.part ∙ (λ i. p.own i ++ q.own i);
  }

  pub added_adds : (b : Bounds) (a : ℕ) (xs : List (ℕ × Op)) (ops : List Op) (s t : MachineView N) → TakesInCleared ops → Added b a xs ops s t → SawSteps b a xs s t
  added_adds b a xs ops s t taken p = record {
    part = p.part;
    journal = p.journal;
    steps_are = p.steps_are;
    quiet = p.quiet;
    taken_in = subst TakesInCleared (sym p.own) taken;
  }

  -- one step of a pass of a board of this shape
  module _ (k : MachineShape N) (a : ℕ) (op : Op) (s t : MachineView N) (n : ℕ) (its : s.agent ≡ a)
      (lawful : IsLawfulJournal (new_machine (bounds_in k)) t.journal)
      (mk : Makes (bounds_in k) (asks op) None s n t) where
    abbrev pub b : Bounds
    b = bounds_in k

    abbrev pub new : List (Step N)
    new = mk.met ++ step_of s.agent (asks op) None ∷ []

    pub more : t.journal ≡ s.journal ++ new
    more = mk.journal ∙ append_assoc s.journal mk.met (step_of s.agent (asks op) None ∷ [])

    pub new_plain : plain new ≡ plain mk.met ++ (a, op) ∷ []
    new_plain = plain-append mk.met (step_of s.agent (asks op) None ∷ []) ∙ ap (λ x. plain mk.met ++ (x, op) ∷ []) its

    abbrev pub made_by : MadeAfterOthers a op (run_of b s.journal) (run_of b t.journal)
    made_by = record {
      others = plain mk.met;
      apart = apart a mk.met (ap (λ x. own_of by x mk.met) (sym its) ∙ mk.others);
      lawful = subst (IsLawful (run_of b s.journal)) new_plain (plain_lawful (run_of b s.journal) new
          ((IsLawfulJournal-append (new_machine b) s.journal new).0 (subst (IsLawfulJournal (new_machine b)) more lawful)).1);
      is = ap (run_of b) more ∙ (run_plain-append (new_machine b) s.journal new ∙ ap (run (run_of b s.journal)) new_plain);
    }

    ops_here : ops_of a new ≡ op ∷ []
    ops_here =
        let none : own_of by a mk.met ≡ [] = ap (λ x. own_of by x mk.met) (sym its) ∙ mk.others in
        let last : own_of by a (step_of s.agent (asks op) None ∷ []) ≡ step_of s.agent (asks op) None ∷ [] =
        by_own by a (step_of s.agent (asks op) None) [] its in
        ops-append a mk.met (step_of s.agent (asks op) None ∷ []) ∙ (λ i. map (λ (x : Step N). x.op) (none i) ++ map (λ (x : Step N). x.op) (last i))

    -- and one step of the agent's own
    pub one_more : AtMostMore a 1 s.journal t.journal
    one_more =
        let both = ap (λ j. length (steps_of a j)) more
        ∙ (ap length (own_of-append by a s.journal new) ∙ length-append (steps_of a s.journal) (steps_of a new)) in
        let one = sym (length-map (steps_of a new) (λ (x : Step N). x.op)) ∙ ap length ops_here in
        omega (arith, both, one)

    module _ (no_act : (p : PresentIds) (w : ℕ) → act_of p (record_at (run_of b (s.journal ++ mk.met)) s.agent) w op None ≡ None) where
      quiet_here : NoEvents b a s.journal t.journal
      quiet_here =
          let j = s.journal ++ mk.met in
          let st : Step N = step_of s.agent (asks op) None in
          let es = others_add counted_rules k (counted_obeys k) (signed b) s.agent s.journal mk.met mk.others in
          let none : events_after b j st ≡ [] = ap (events_of st) (no_act (present_ids b j) (word_read (run_of b j) s.agent op)) in
          record {
            events = es.0;
            is = ap (project b) mk.journal ∙ ((counted_obeys k).project_next j st ∙ (ap (λ l. project b j ++ l) none ∙ (append-nil (project b j) ∙ es.2)));
            own = ap (λ x. events_by x es.0) (sym its) ∙ es.1;
          }

      pub added_here : Added b a (plain mk.met ++ (a, op) ∷ []) (op ∷ []) s t
      added_here = record { part = new; journal = more; steps_are = new_plain; quiet = quiet_here; own = ops_here }
