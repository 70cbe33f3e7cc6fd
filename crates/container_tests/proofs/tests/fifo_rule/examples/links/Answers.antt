use Rattle.std.proofs.Common.{Some, [], ap, arith, false, inl, inr, refl, sym, true, ℕ, ◌∙◌, ◌∷◌, ◌≡◌}
use Rattle.orc_heap.specs.declared.events.Act.TheVariants.{Move}
use Rattle.orc_heap.specs.declared.events.Event.{Event}
use Rattle.orc_heap.specs.declared.events.Link.{Link}
use Rattle.orc_heap.specs.declared.events.Place.TheVariants.{Next}
use Rattle.orc_heap.specs.Heap.{null, link_to}
use Rattle.orc_history.specs.declared.queue.QueueEntry.TheVariants.{Put}
use Rattle.orc_fifo_rule.specs.declared.fifo.FifoNote.{FifoNote}
use Rattle.orc_fifo_rule.specs.declared.fifo.FifoNote.TheVariants.{Entry}
use Rattle.orc_fifo_rule.specs.QueueDiscipline.{IsPutNode}
use Rattle.orc_fifo_rule.specs.Laws.Events.{contains_one}
use Rattle.container_tests.proofs.tests.fifo_rule.examples.links.Goals as goal
use Rattle.orc_heap.specs.Journals.{event_by}
use Rattle.orc_heap.proofs.SingleActs.{null_to}

the_put : Event FifoNote
the_put = event_by 1 (Move (Next 0) null (link_to 1)) (Some (Entry (Put 1 7 5)))

no_other : (next job : ℕ) → IsPutNode (the_put ∷ []) next job 6 → ⊥
unfolding the_put
no_other next job put =
    let note : Some (Entry (Put 1 7 5)) ≡ Some (Entry (Put put.by job 6)) =
    ap (λ (e : Event FifoNote). e.note) (contains_one the_put put.event put.among) ∙ put.note_is in
    let at : ◌≡◌ {A = ℕ} 5 6 = cc in
    omega (arith, at)

no_mark : (next : ℕ) (l : Link) → l.mark ≡ true → l ≡ link_to next → ⊥
no_mark next l marked e = let bad : true ≡ false = sym marked ∙ ap (λ (x : Link). x.mark) e in cc

marked_null : (l : Link) → l.mark ≡ true → l ≡ null → ⊥
marked_null l marked e = let bad : true ≡ false = sym marked ∙ ap (λ (x : Link). x.mark) e in cc

pub returns-clause-leads : goal.returns-clause-leads
unfolding the_put
returns-clause-leads c = (
  inr (1, 7, refl, record { event = _; by = 1; place = _; from = _; among = (0, omega arith, refl); act_is = refl; note_is = refl }),
  inl refl,
  (λ l. elim l [ inl none ↦ null_to 1 (sym none) | inr r ↦ no_other r.0 r.1 r.3 ]),
  (λ l. elim l [ inl none ↦ marked_null _ refl none | inr r ↦ no_mark r.0 _ refl r.2 ]),
)
