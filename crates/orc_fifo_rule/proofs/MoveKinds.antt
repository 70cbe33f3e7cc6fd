-- Moves after the opening: each is a Put, a Took or a Swing, and a Took alone moves root 0.
use Rattle.std.proofs.Common.{List, None, Option, Some, [], ap, arith, refl, ℕ, ◌++◌, ◌+◌, ◌∙◌, ◌∷◌, ◌≡◌, true}
use Rattle.std.proofs.lemmas.List.Elements.{filter-append}
use Rattle.std.specs.Prelude.{not}
use Rattle.orc_heap.proofs.Moved.{moves_in-append}
use Rattle.orc_heap.specs.Allowed.{AllAllowed}
use Rattle.orc_heap.specs.Heap.{HeapNumbers}
use Rattle.orc_heap.specs.Journals.{IsPlainAct, event_by, run_heap}
use Rattle.orc_heap.specs.Moves.{move_with, moves_in, moves_place}
use Rattle.orc_heap.specs.declared.events.Act.{Act}
use Rattle.orc_heap.specs.declared.events.Act.TheVariants.{Aim, Fill, Give, Look, Miss, Move, AimSide}
use Rattle.orc_heap.specs.declared.events.Event.{Event}
use Rattle.orc_heap.specs.declared.events.Link.{Link}
use Rattle.orc_heap.specs.declared.events.Place.TheVariants.{Root}
use Rattle.orc_history.proofs.Histories.{puts_in-append}
use Rattle.orc_history.specs.QueueHistory.{puts_in}
use Rattle.orc_history.specs.declared.queue.QueueEntry.{QueueEntry}
use Rattle.orc_history.specs.declared.queue.QueueEntry.TheVariants.{Empty, Put, Took}
use Rattle.orc_fifo_rule.specs.declared.fifo.FifoNote.{FifoNote}
use Rattle.orc_fifo_rule.specs.Counts.{off_the_head, swings_in, swings_with, tooks_in}
use Rattle.orc_fifo_rule.specs.QueueDiscipline.{FifoHolds, FifoMay, entries_in, entries_of, has_begun}
use Rattle.orc_fifo_rule.specs.Laws.Events.{begun_more}
use Rattle.orc_fifo_rule.specs.Laws.Kept.{fifo_keeps}
use Rattle.orc_fifo_rule.specs.Laws.Kinds.{each_kind}
use Rattle.orc_fifo_rule.specs.Laws.Running.{begin_late}

pub tooks_in-append : (es fs : List QueueEntry) → tooks_in (es ++ fs) ≡ tooks_in es + tooks_in fs
tooks_in-append [] fs = omega arith
tooks_in-append (Put agent job at ∷ es) fs = tooks_in-append es fs
tooks_in-append (Took agent job at ∷ es) fs = omega (arith, tooks_in-append es fs)
tooks_in-append (Empty agent ∷ es) fs = tooks_in-append es fs

pub off_the_head-append : (es fs : List (Event FifoNote)) → off_the_head (es ++ fs) ≡ off_the_head es ++ off_the_head fs
off_the_head-append es fs = filter-append (λ (e : Event FifoNote). not (moves_place (Root 0) e.act)) es fs

-- what an event counts
record Counted (act : Act) (noted : Option FifoNote) : Type 0 where
  all : move_with act ≡ puts_in (entries_in noted) + tooks_in (entries_in noted) + swings_with noted
  off : (agent : ℕ) → moves_in (off_the_head (event_by agent act noted ∷ [])) ≡ puts_in (entries_in noted) + swings_with noted

plain_counted : (act : Act) → IsPlainAct act → Counted act None
plain_counted Give plain = record { all = refl; off = λ agent. refl }
plain_counted (Fill id which value) plain = record { all = refl; off = λ agent. refl }
plain_counted (Aim id None) plain = record { all = refl; off = λ agent. refl }
plain_counted (AimSide id None) plain = record { all = refl; off = λ agent. refl }
plain_counted (Aim id (Some to)) plain = absurd plain
plain_counted (AimSide id (Some to)) plain = absurd plain
plain_counted (Look place link) plain = record { all = refl; off = λ agent. refl }
plain_counted (Move place from to) plain = absurd plain
plain_counted (Miss place wanted found) plain = record { all = refl; off = λ agent. refl }

event_counted : (n : HeapNumbers) (es : List (Event FifoNote)) (e : Event FifoNote) → FifoHolds n es → has_begun es ≡ true → FifoMay n es e
    → Counted e.act e.note
event_counted n es e holds begun may =
    let h = run_heap n es in
    each_kind h (λ act noted. FifoMay n es (event_by e.agent act noted) → Counted act noted)
    (λ act plain m. plain_counted act plain)
    (λ r from to b m. absurd (begin_late h es r (holds.running begun) b.root_is (m.fits.0 ∙ ap (λ (x : Link). Some x) b.from_is)))
    (λ r from to s m. record { all = refl; off = λ agent. rw s.root_is refl })
    (λ r from to by job at t m. record { all = refl; off = λ agent. rw t.root_is refl })
    (λ t from to by job at p m. record { all = refl; off = λ agent. refl })
    (λ d link by k m. record { all = refl; off = λ agent. refl })
    e.act e.note may.may_act may

-- each Move of a stretch after the opening is a Put, a Took or a Swing
pub moves_counted : (n : HeapNumbers) (seen more : List (Event FifoNote)) → FifoHolds n seen → has_begun seen ≡ true → AllAllowed (FifoMay n) seen more
    → moves_in more ≡ puts_in (entries_of more) + tooks_in (entries_of more) + swings_in more
moves_counted n seen [] holds begun all = refl
moves_counted n seen (e ∷ more) holds begun all =
    let rest = moves_counted n (seen ++ e ∷ []) more (fifo_keeps n seen e holds all.0) (begun_more seen (e ∷ []) begun) all.1 in
    omega (
      arith,
      (event_counted n seen e holds begun all.0).all,
      rest,
      puts_in-append (entries_in e.note) (entries_of more),
      tooks_in-append (entries_in e.note) (entries_of more),
    )

-- and where it isn't one of root 0, a Put or a Swing
pub off_counted : (n : HeapNumbers) (seen more : List (Event FifoNote)) → FifoHolds n seen → has_begun seen ≡ true → AllAllowed (FifoMay n) seen more
    → moves_in (off_the_head more) ≡ puts_in (entries_of more) + swings_in more
off_counted n seen [] holds begun all = refl
off_counted n seen (e ∷ more) holds begun all =
    let rest = off_counted n (seen ++ e ∷ []) more (fifo_keeps n seen e holds all.0) (begun_more seen (e ∷ []) begun) all.1 in
    let here : moves_in (off_the_head (e ∷ more)) ≡ moves_in (off_the_head (e ∷ [])) + moves_in (off_the_head more) =
    ap (λ (z : List (Event FifoNote)). moves_in z) (off_the_head-append (e ∷ []) more) ∙ moves_in-append (off_the_head (e ∷ [])) (off_the_head more) in
    omega (
      arith,
      here,
      (event_counted n seen e holds begun all.0).off e.agent,
      rest,
      puts_in-append (entries_in e.note) (entries_of more),
    )
