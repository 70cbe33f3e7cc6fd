-- Which journal the words and the passes show. It stands in proofs alone, as a history variable (Owicki and Gries 1976).
use Rattle.atomic_table.specs.Table.{State}
use Rattle.orc_heap.specs.Allowed.{AllAllowed}
use Rattle.orc_heap.specs.declared.events.Event.{Event}
use Rattle.orc_layout.specs.Layout.{lay}
use mathlib.Core.List.{IsPrefix}
use Rattle.orc_shared_words.specs.Lists.{Among}
use Rattle.orc_shared_words.specs.Runs.{AgentsBelow, Rules}
use Rattle.orc_history.specs.Journals.{own_of}
use Rattle.orc_shared_words.specs.declared.journal.View.{View}
use Rattle.std.specs.Prelude.{List, Some, [], ℕ, ◌<◌, ◌≡◌, ◌≤◌, ◌⊎◌}
use lib.ListN.{get_elem?}
use mathlib.Core.Option.{some}

module _ {S Rec : Type 0} where
  -- P holds of each of the views and its seat
  abbrev pub EachView : List (View S Rec) → (ℕ → View S Rec → Type 0) → Type 0
  EachView views P = (i : ℕ) (v : View S Rec) → get_elem? views i ≡ some v → P i v

  -- P holds of at most one of the views
  abbrev pub AtMostOne : List (View S Rec) → (View S Rec → Type 0) → Type 0
  AtMostOne views P = EachView views (λ i v. P v → EachView views (λ l w. P w → i ≡ l))

  -- the pass may hand out numbers
  abbrev pub HandsOut : View S Rec → Type 0
  HandsOut v = (a : ℕ) × (v.free ≡ Some a)

  -- no pass is that of agent a
  abbrev pub NoPass : List (View S Rec) → ℕ → Type 0
  NoPass views a = EachView views (λ _ v. ¬ (v.agent ≡ Some a))

  -- this pass has seen the whole journal, or it took in one that had
  abbrev pub HasSeen : List S → View S Rec → Type 0
  HasSeen j v = ((a : ℕ) × (v.agent ≡ Some a) × (v.seen ≡ j)) ⊎ Among j v.taken

module _ {K S Op Rec N : Type 0} (r : Rules K S Op Rec N) (k : K) where
  -- the pass of agent a
  pub record Owns (j : List S) (v : View S Rec) (a : ℕ) : Type 0 where
    pub below : a < r.agents k
    -- its record is that of its agent
    pub mine : r.own k j a ≡ v.own
    -- the steps of its agent all stand in what it has seen, which begins with the opening
    pub steps : own_of r.by a j ≡ own_of r.by a v.seen
    pub opened : IsPrefix (r.opening k) v.seen

  -- what a seat knows: a pass, a note, which has no agent, or a spent view, which has seen nothing
  pub record SeatKnows (j : List S) (v : View S Rec) : Type 0 where
    -- the journal begins with what it has seen
    pub seen : IsPrefix v.seen j
    -- and with what it keeps between a join and its confirm
    pub kept : IsPrefix v.kept j
    pub pass : (a : ℕ) → v.agent ≡ Some a → Owns j v a

  -- an agent whose pass isn't made yet: it has the record that is handed out, and no steps after the opening
  pub record Unborn (j : List S) (views : List (View S Rec)) (born : Rec) (a : ℕ) : Type 0 where
    pub mine : r.own k j a ≡ born
    pub steps : own_of r.by a j ≡ own_of r.by a (r.opening k)
    pub passless : NoPass views a

  -- an agent whose pass was taken in for good: its steps stand in `seen`, and its number isn't handed out again
  pub record Retired (j : List S) (views : List (View S Rec)) (a : ℕ) (seen : List S) : Type 0 where
    pub steps : own_of r.by a j ≡ own_of r.by a seen
    pub passless : NoPass views a
    pub handed : (c : ℕ) → EachView views (λ _ v. v.free ≡ Some c → a < c)

  -- the words and the views show a journal
  pub record Shows (holds : List (Event N) → Type 0) (may : List (Event N) → Event N → Type 0) (s : State (Unit {0}) (View S Rec)) : Type 0 where
    pub journal : List S
    -- some pass has seen all of it, or took in one that had: so it is the longest list that a pass has seen
    pub attained : (i : ℕ) × (v : View S Rec) × (get_elem? s.views i ≡ some v) × HasSeen journal v
    -- it begins with what each pass and each note has seen, and each pass has its agent's record and all its agent's steps
    pub fits : EachView s.views (λ _ v. SeatKnows journal v)
    -- it is lawful
    pub lawful : r.lawful k journal
    -- it begins with the opening
    pub opened : IsPrefix (r.opening k) journal
    -- the words are those of its run, each at the index of its place
    pub words : s.words ≡ lay (r.index k) (r.words k journal)
    -- no two passes are of one agent
    pub apart : (a : ℕ) → AtMostOne s.views (λ v. v.agent ≡ Some a)
    -- the discipline allows each of its events where it stands
    pub each : AllAllowed may [] (r.project k journal)
    -- so that it holds
    pub kept : holds (r.project k journal)
    -- what the moves need besides: its steps are of agents of the machine
    pub below : AgentsBelow r.by (r.agents k) journal
    -- the numbers that a pass may still hand out are of agents without a pass
    pub unborn : (a : ℕ) → EachView s.views (λ _ v. v.free ≡ Some a → (b : ℕ) → a ≤ b → b < r.agents k → Unborn journal s.views v.born b)
    -- one pass hands out numbers
    pub lone : AtMostOne s.views HandsOut
    -- an agent whose pass was taken in for good steps no more
    pub retired : (a : ℕ) → EachView s.views (λ _ v. Among a v.also → Retired journal s.views a v.seen)
