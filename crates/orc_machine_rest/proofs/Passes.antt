-- What is true of the pass of an agent that settles, and what a step of it does.
use Rattle.std.proofs.Common.{[], ap, append-nil, refl, subst, sym, true, ℕ, ◌++◌, ◌<◌, ◌∙◌, ◌∷◌, ◌≡◌}
use Rattle.std.proofs.lemmas.Bool.{false≢true}
use Rattle.std.specs.Prelude.{None, Option, Some, cond, is_some}
use Rattle.orc_machine_rest.proofs.Joins.{adds_as}
use Rattle.orc_machine_rest.proofs.Makes.{Added, added_adds, added_here, made_by, may_here, one_more}
use Rattle.orc_machine_rest.specs.OwnSteps.{AtMostMore, TakesInCleared, answers_word}
use Rattle.orc_machine_rest.specs.Parts.{SawSteps, Goes, OpensTurn}
use Rattle.orc_machine_rest.specs.Passes.{IsPassOf, agent_record, state_of}
use Rattle.orc_core.specs.Actions.{action_of}
use Rattle.orc_core.specs.After.{after}
use Rattle.orc_core.specs.Machine.{is_allowed, record_at, word_in}
use Rattle.orc_core.specs.RecordParts.{same_target, scans}
use Rattle.orc_core.specs.declared.ops.Op.{Op}
use Rattle.orc_core.specs.declared.ops.Op.TheVariants.{Dec, Unretire}
use Rattle.orc_core.specs.declared.records.Agent.{Agent}
use Rattle.orc_core.specs.declared.records.Scan.{Scan}
use Rattle.orc_machine_board.proofs.Holds.{record_stays}
use Rattle.orc_machine_board.specs.Kinds.{MakesPlain, MayDo}
use Rattle.orc_machine_board.specs.Laws.Steps.{bounds_run, in_range}
use Rattle.orc_machine_board.specs.Rules.{run_of}
use Rattle.orc_machine_board.specs.Views.{Belongs, board_bounds, shows}
use Rattle.orc_machine_board.specs.declared.board.MachineBoard.{MachineBoard}
use Rattle.orc_machine_board.specs.declared.board.MachineBoardPass.{MachineBoardPass}
use Rattle.orc_machine_board.specs.declared.machine.MachineShape.{MachineShape}
use Rattle.orc_machine_board.specs.declared.machine.Reclaiming.{Reclaiming}
use Rattle.orc_machine_board.specs.declared.machine.Request.{Request}
use Rattle.orc_projection.specs.PresentIds.{PresentIds}
use Rattle.orc_projection.specs.Projection.{act_of}
use Rattle.orc_rest.proofs.Opening.{opened_step}
use Rattle.orc_rest.proofs.Stages.{made_record, made_went}
use Rattle.orc_rest.specs.Records.{IsDone}
use Rattle.orc_rest.specs.Rounds.{AfterStep, IsNoHand}
use Rattle.orc_rest.specs.Turns.{MadeAfterOthers}
use Rattle.orc_rest.specs.Work.{IsSettlingStep, drop_of}
use Rattle.orc_sound.proofs.Journals.{plain_lawful}
use Rattle.orc_sound.specs.Journals.{plain}
use Rattle.orc_sound.specs.declared.steps.Step.{Step}
use Rattle.orc_words.specs.Bounds.{Bounds}
use Rattle.orc_words.specs.Operations.{answer_of}
use Rattle.orc_heap.specs.declared.discipline.Discipline as discipline
use Rattle.orc_shared_words.specs.declared.machine.Machine as machine

-- these kinds do
pub word_answered : (a : ℕ) (op : Op) (d : Agent) (n w : ℕ) → answers_word op ≡ true → n ≡ answer_of (action_of a op d).operation w → n ≡ w
word_answered a (Dec r) d n w h e = e
word_answered a (Unretire r) d n w h e = e
word_answered a op d n w h e = absurd (false≢true h)

-- what scans a row is a scan
pub scans_some : (o : Option Scan) (r : ℕ) → scans o r ≡ true → is_some o ≡ true
scans_some None r h = absurd (false≢true h)
scans_some (Some s) r h = refl

-- the link that is taken out leaves its target to be counted down
pub target_left : (o : Option ℕ) → cond (same_target o None) None o ≡ o
target_left None = refl
target_left (Some r) = refl

module _ {D N : Type 0} where
  -- a pass of a board
  abbrev pub Pass : (d : discipline.Ghosts D N) → machine.Ghosts Reclaiming N (MachineShape N) Request (Step N) Agent Agent → Type 0
  Pass d m = MachineBoardPass D N d m

module _ {D N : Type 0} {d : discipline.Ghosts D N} {m : machine.Ghosts Reclaiming N (MachineShape N) Request (Step N) Agent Agent} where
  pub bounds_are : (board : MachineBoard D N) (p : Pass d m) → (state_of board p).bounds ≡ board_bounds board
  bounds_are board p = bounds_run (board_bounds board) (shows p).journal

  pub links_are : (board : MachineBoard D N) (p : Pass d m) → (state_of board p).bounds.links ≡ (board_bounds board).links
  links_are board p = ap (λ (b : Bounds). b.links) (bounds_are board p)

  pub pass_of : (board : MachineBoard D N) (a : ℕ) (p : Pass d m) → Belongs board p → (shows p).agent ≡ a → IsPassOf board a p
  pass_of board a p g e = record {
    belongs = g;
    agent = e;
    low = subst (λ (b : Bounds). a < b.agents) (sym (bounds_are board p)) (subst (λ x. x < (board_bounds board).agents) e g.keeps.number);
    reached = record {
      bounds = board_bounds board;
      steps = plain (shows p).journal;
      shape = in_range board.words.shape.shape;
      lawful = plain_lawful _ (shows p).journal g.keeps.now.lawful.0;
      is = refl;
    };
  }

  module _ (board : MachineBoard D N) (a : ℕ) (p : Pass d m) (h : IsPassOf board a p) where
    pub mine : agent_record board a p ≡ (shows p).record_is
    mine = ap (record_at (state_of board p)) (sym h.agent) ∙ h.belongs.keeps.now.mine

    pub may_do : (op : Op) → IsSettlingStep (word_in (state_of board p)) op (agent_record board a p) → is_allowed (state_of board p) a op ≡ true
        → MayDo (board_bounds board) (shows p) op
    may_do op s allowed = may_here (board_bounds board) (shows p).agent (shows p).record_is (state_of board p) a op (bounds_are board p) h.agent mine s allowed

  -- where the state has nothing left for the agent, neither has the pass
  pub done_so : (board : MachineBoard D N) {a x : ℕ} {p : Pass d m} → IsPassOf board a p → a ≡ x → IsDone (agent_record board x p) → IsDone (shows p).record_is
  done_so board {a} {x} {p} h its done = subst IsDone (mine board a p h) (subst (λ y. IsDone (agent_record board y p)) (sym its) done)

  -- the pass makes this step, and shows q
  pub record StepOf (board : MachineBoard D N) (a : ℕ) (op : Op) (p q : Pass d m) (n : ℕ) : Type 0 where
    pub pass : IsPassOf board a p
    pub belongs : Belongs board q
    pub makes : MakesPlain (board_bounds board) op (shows p) n (shows q)

  module _ {board : MachineBoard D N} {a : ℕ} {op : Op} {p q : Pass d m} {n : ℕ} (e : StepOf board a op p q n) where
    pub next_pass : IsPassOf board a q
    next_pass = pass_of board a q e.belongs (e.makes.agent ∙ e.pass.agent)

    abbrev pub made : MadeAfterOthers a op (state_of board p) (state_of board q)
    made = made_by board.words.shape a op (shows p) (shows q) n e.pass.agent e.belongs.keeps.now.lawful.0 e.makes

    pub one_step : AtMostMore a 1 (shows p).journal (shows q).journal
    one_step = one_more board.words.shape a op (shows p) (shows q) n e.pass.agent e.belongs.keeps.now.lawful.0 e.makes

    pub after_step : AfterStep a op (state_of board p) (state_of board q)
    after_step = made_record (state_of board p) (state_of board q) a op e.pass.reached e.pass.low made

    -- where the step answers the word that it read, the record is by that word
    pub read_step : ((w : ℕ) → n ≡ answer_of (action_of (shows p).agent op (shows p).record_is).operation w → n ≡ w)
        → agent_record board a q ≡ after op (agent_record board a p) n
    read_step reads =
        mine board a q next_pass ∙ (e.makes.record_is ∙ ((λ i. after op (shows p).record_is (sym (reads _ e.makes.answer) i))
        ∙ ap (λ d. after op d n) (sym (mine board a p e.pass))))

    -- right before the step the record is what it was
    pub before_step : record_at (run_of (board_bounds board) ((shows p).journal ++ e.makes.met)) (shows p).agent ≡ agent_record board a p
    before_step = record_stays (board_bounds board) (shows p).journal e.makes.met (shows p).agent e.makes.others ∙ ap (record_at (state_of board p)) e.pass.agent

    module _ (no_act : (i : PresentIds) (w : ℕ) → act_of i (agent_record board a p) w op None ≡ None) where
      pub added : Added (board_bounds board) a (made.others ++ (a, op) ∷ []) (op ∷ []) (shows p) (shows q)
      added = added_here board.words.shape a op (shows p) (shows q) n e.pass.agent e.belongs.keeps.now.lawful.0 e.makes
          (λ i w. ap (λ d. act_of i d w op None) before_step ∙ no_act i w)

      module _ (taken : TakesInCleared (op ∷ [])) (allowed : is_allowed (state_of board p) a op ≡ true)
          (settles : IsSettlingStep (word_in (state_of board p)) op (agent_record board a p)) where
        adds : SawSteps (board_bounds board) a (made.others ++ (a, op) ∷ []) (shows p) (shows q)
        adds = added_adds (board_bounds board) a (made.others ++ (a, op) ∷ []) (op ∷ []) (shows p) (shows q) taken added

        pub goes : Goes (board_bounds board) a (drop_of op (agent_record board a p)) (shows p) (shows q)
        goes = record { went = made_went (state_of board p) (state_of board q) a op e.pass.reached allowed settles made; adds = adds }

        pub opens : IsNoHand op → OpensTurn (board_bounds board) a (drop_of op (agent_record board a p)) (shows p) (shows q)
        opens kind = record {
          opened = opened_step a op (state_of board p) (state_of board q) kind allowed settles made next_pass.reached;
          adds = adds_as (board_bounds board) a _ _ (shows p) (shows q) (sym (append-nil (made.others ++ (a, op) ∷ []))) adds;
        }
