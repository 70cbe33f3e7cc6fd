-- A pass settles where it holds nothing, and holds nothing after it.
use Rattle.std.proofs.Common.{List, None, [], ap, arith, false, length, refl, suc, sym, zero, ℕ, ◌+◌, ◌∙◌, ◌≡◌, ◌∷◌}
use Rattle.std.proofs.lemmas.Bool.{false≢true}
use Rattle.std.specs.Option.{option_map}
use Rattle.std.specs.Prelude.{cond, is_some, map, replicate, slice_index_or, ◌||◌}
use Rattle.orc_machine_rest.specs.Parts.{NoEvents}
use Rattle.orc_core.specs.RecordParts.{is_published, slot_of}
use Rattle.orc_core.specs.declared.records.Agent.{Agent}
use Rattle.orc_core.specs.declared.records.SlotUse.{SlotUse}
use Rattle.orc_core.specs.declared.records.SlotUse.TheVariants.{Empty, Held, Published}
use Rattle.orc_heap.specs.OwnEvents.{Only}
use Rattle.orc_heap.specs.Seats.{IsIdle}
use Rattle.orc_heap.specs.declared.discipline.Discipline as discipline
use Rattle.orc_machine_board.specs.Licences.{ids_of}
use Rattle.orc_machine_board.specs.Passes.{backlog_in}
use Rattle.orc_machine_board.specs.Rules.{bounds_in}
use Rattle.orc_machine_board.specs.Views.{Belongs, shows}
use Rattle.orc_machine_board.specs.declared.board.MachineBoardPass.{MachineBoardPass}
use Rattle.orc_machine_board.specs.declared.machine.MachineShape.{MachineShape}
use Rattle.orc_machine_board.specs.declared.machine.Reclaiming.{Reclaiming}
use Rattle.orc_machine_board.specs.declared.machine.Request.{Request}
use Rattle.orc_projection.specs.PresentIds.{PresentIds}
use Rattle.orc_domain.proofs.Ending.{between_of, pass_of, stage_of}
use Rattle.orc_domain.proofs.Giving.{no_fresh}
use Rattle.orc_domain.proofs.Retiring.{not_some}
use Rattle.orc_domain.proofs.Stages.{Between, Stage, seat}
use Rattle.orc_domain.specs.Passes.{IsPassOf, domain_bounds, seat_of}
use Rattle.orc_domain.specs.Seats.{IsBetweenCalls, seat_by, slot_by}
use Rattle.orc_domain.specs.declared.domain.OrcDomain.{OrcDomain}
use Rattle.orc_domain.specs.declared.domain.OrcPass.{OrcPass}
use Rattle.orc_rest.specs.Records.{IsBetweenRounds, IsDone}
use Rattle.orc_shared_words.specs.declared.machine.Machine as machine
use Rattle.orc_sound.specs.declared.steps.Step.{Step}

-- slots in which nothing is shown are empty, where none is only published
all_empty : (p : PresentIds) (slots : List SlotUse) (n : ℕ) → map (slot_by p) slots ≡ replicate n None
    → ((k : ℕ) → is_published (slice_index_or slots k Empty) ≡ false) → (k : ℕ) → slice_index_or slots k Empty ≡ Empty
all_empty p [] n e h k = refl
all_empty p (s ∷ ss) zero e h k = cc
all_empty p (Empty ∷ ss) (suc n) e h zero = refl
all_empty p (Published r ∷ ss) (suc n) e h zero = absurd (false≢true (sym (h zero)))
all_empty p (Held r ∷ ss) (suc n) e h zero = cc
all_empty p (s ∷ ss) (suc n) e h (suc k) = let rest : map (slot_by p) ss ≡ replicate n None = cc in all_empty p ss n rest (λ j. h (suc j)) k

-- in empty slots nothing is shown
none_shown : (p : PresentIds) (slots : List SlotUse) (n : ℕ) → length slots ≡ n → ((k : ℕ) → slice_index_or slots k Empty ≡ Empty)
    → map (slot_by p) slots ≡ replicate n None
none_shown p [] zero e h = refl
none_shown p [] (suc n) e h = cc
none_shown p (s ∷ ss) zero e h = cc
none_shown p (s ∷ ss) (suc n) e h = λ i. slot_by p (h zero i) ∷ none_shown p ss n (omega (arith, e)) (λ k. h (suc k)) i

slot_empty : (d : Agent) → IsBetweenRounds d → (k : ℕ) → slot_of d k ≡ Empty
slot_empty d h zero = h.still.zero
slot_empty d h (suc k) = h.still.calm.slots (suc k) (omega arith)

ready_between : (d : Agent) → IsBetweenRounds d → IsBetweenCalls d
ready_between d h = record {
  enrolled = h.still.calm.enrolled;
  eight = h.still.calm.eight;
  due = h.still.due;
  inc = h.still.calm.inc;
  dec = h.still.dec;
  zero = h.still.zero;
  published = λ k. ap is_published (slot_empty d h k);
  doom = h.doom;
  found = h.found;
}

-- an agent that is done has no backlog
pub backlog_none : (d : Agent) → IsDone d → backlog_in d ≡ 0
backlog_none d h = λ i. length (h.list i) + cond (is_some (h.hand i) || is_some (h.scan i)) 1 0

module _ {D N : Type 0} {d : discipline.Ghosts D N} {k : MachineShape N} (s : Stage d k) (between : Between s) (idle : IsIdle (seat s)) where
  pub settle_can : IsBetweenRounds s.view.record_is
  settle_can =
      let ready = between.ready in
      let r = s.view.record_is in
      let empty = all_empty (ids_of (bounds_in k) s.view) r.slots 8 idle.slots ready.published in
      record {
        still = record {
          calm = record {
            enrolled = ready.enrolled;
            slots = λ j above. empty j;
            eight = ready.eight;
            fresh = no_fresh (ids_of (bounds_in k) s.view).node r.fresh idle.fresh;
            inc = ready.inc;
          };
          zero = ready.zero;
          dec = ready.dec;
          due = ready.due;
        };
        found = ready.found;
        doom = ready.doom;
      }

  module _ (t : Stage d k) (h : IsBetweenRounds t.view.record_is) (agent : t.view.agent ≡ s.view.agent)
      (quiet : NoEvents (bounds_in k) s.view.agent s.view.journal t.view.journal) where
    none : (seat t).fresh ≡ None
    none = ap (option_map (ids_of (bounds_in k) t.view).node) h.still.calm.fresh

    pub settled_between : Between t
    settled_between = record { ready = ready_between t.view.record_is h; untouched = λ id e. absurd (not_some id (sym none ∙ e)) }

    pub settles_nothing : Only [] (seat s) (seat t)
    settles_nothing = record {
      slots = none_shown (ids_of (bounds_in k) t.view) t.view.record_is.slots 8 h.still.calm.eight (slot_empty t.view.record_is h) ∙ sym idle.slots;
      fresh = none ∙ sym idle.fresh;
      puts = record { part = quiet.events; is = quiet.is; agent = agent; own_is = quiet.own };
    }

-- a pass of a domain that was idle, once its board has settled or drained with it
module _ {D N : Type 0} {d : discipline.Ghosts D N} {m : machine.Ghosts Reclaiming N (MachineShape N) Request (Step N) Agent Agent} {domain : OrcDomain D N}
    {p : OrcPass D N d m} {q : MachineBoardPass D N d m}
    (h : IsPassOf domain p) (idle : IsIdle (seat_of domain p)) (x : Belongs domain.board q) (between : IsBetweenRounds (shows q).record_is)
    (agent : (shows q).agent ≡ (shows p.pass).agent)
    (quiet : NoEvents (domain_bounds domain) (shows p.pass).agent (shows p.pass).journal (shows q).journal)
  where
    pub settled_pass : IsPassOf domain (record { pass = q; next = p.next })
    settled_pass = pass_of x (settled_between (stage_of h.board) (between_of h) idle (stage_of x) between agent quiet) h.inside

    pub settled_only : Only [] (seat_of domain p) (seat_by (domain_bounds domain) (shows q))
    settled_only = settles_nothing (stage_of h.board) (between_of h) idle (stage_of x) between agent quiet
