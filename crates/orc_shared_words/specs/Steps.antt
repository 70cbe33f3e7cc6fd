-- What a step asks of the discipline, and what it tells.
use Rattle.atomic_table.specs.Table.{Me}
use Rattle.orc_heap.specs.Allowed.{AllAllowed}
use Rattle.orc_heap.specs.declared.events.Event.{Event}
use mathlib.Core.List.{IsPrefix}
use Rattle.orc_shared_words.specs.Lists.{Among, Each}
use Rattle.orc_shared_words.specs.Runs.{AgentsBelow, Rules, found_by}
use Rattle.orc_history.specs.Journals.{own_of}
use Rattle.orc_shared_words.specs.declared.journal.View.{View}
use Rattle.std.specs.Prelude.{List, None, Option, Some, [], ℕ, ◌++◌, ◌∷◌, ◌≡◌, ◌≢◌}

module _ {K S Op Rec N : Type 0} (r : Rules K S Op Rec N) where
  module _ (k : K) (holds : List (Event N) → Type 0) (may : List (Event N) → Event N → Type 0) where
    -- a journal that the pass of agent a may come upon
    pub record LaterJournal (j : List S) (v : View S Rec) (a : ℕ) : Type 0 where
      -- it is lawful, begins with the opening, and has steps of agents of the machine alone
      pub lawful : r.lawful k j
      pub opened : IsPrefix (r.opening k) j
      pub below : AgentsBelow r.by (r.agents k) j
      -- its events are allowed, each where it stands, so that the discipline holds
      pub each : AllAllowed may [] (r.project k j)
      pub kept : holds (r.project k j)
      -- the agent's record is the pass's
      pub mine : r.own k j a ≡ v.own
      -- of an agent whose pass was taken in for good it has the steps that the pass has seen
      pub retired : (b : ℕ) → Among b v.also → own_of r.by b j ≡ own_of r.by b v.seen

    -- the step's event, if it has one, is allowed after each later journal of the pass
    abbrev pub IsAllowedLater : View S Rec → ℕ → Op → Option N → Type 0
    IsAllowedLater v a op note = (between : List S) → own_of r.by a between ≡ [] → LaterJournal (v.seen ++ between) v a
        → Each (may (r.project k (v.seen ++ between))) (r.events k (v.seen ++ between) (r.step a op note))

    -- a step of a pass, whose view was v and is w, with the answer n
    pub record Extends (op : Op) (note : Option N) (v : View S Rec) (n : ℕ) (w : View S Rec) : Type 0 where
      pub agent : ℕ
      pub is : v.agent ≡ Some agent
      pub same : w.agent ≡ Some agent
      -- the pass took in none meanwhile
      pub also : w.also ≡ v.also
      -- it has seen what it had seen before, what stands between, and its own step
      pub between : List S
      pub seen : w.seen ≡ (v.seen ++ between) ++ r.step agent op note ∷ []
      -- what stands between are steps of others, and none of an agent whose pass was taken in for good
      pub others : own_of r.by agent between ≡ []
      pub retired : (b : ℕ) → Among b v.also → own_of r.by b between ≡ []
      -- the number found is that of the run, and the answer and the new record are of it
      pub found : ℕ
      pub read : found ≡ found_by r k (v.seen ++ between) agent op
      pub answers : n ≡ r.answer k agent op v.own found
      pub mine : w.own ≡ r.after k agent op v.own found
      -- what stands before its step is a journal that the pass may come upon, and so is what it has seen now
      pub met : LaterJournal (v.seen ++ between) v agent
      pub now : LaterJournal w.seen w agent

  -- what the picked step tells
  abbrev pub DidStep : (K → List (Event N) → Type 0) → (K → List (Event N) → Event N → Type 0) → Option (K × Op × Option N) → Me (Unit {0}) (View S Rec)
      → ℕ → Me (Unit {0}) (View S Rec) → Type 0
  DidStep holds may None me n me' = Unit {0}
  DidStep holds may (Some p) me n me' = Extends p.0 (holds p.0) (may p.0) p.1 p.2 me.0 n me'.0 × (me'.1 ≡ me.1)

  -- what a load tells that may stand for the picked step, a swap of 0: it does where it finds 0, and else nothing has changed
  abbrev pub Tried : (K → List (Event N) → Type 0) → (K → List (Event N) → Event N → Type 0) → Option (K × Op × Option N) → Me (Unit {0}) (View S Rec)
      → ℕ → Me (Unit {0}) (View S Rec) → Type 0
  Tried holds may pick me n me' = (n ≡ 0 → DidStep holds may pick me n me') × (n ≢ 0 → me' ≡ me)
