-- What a root and a link tell once both roots have begun.
use Rattle.std.proofs.Common.{List, Some, arith, inl, inr, subst, suc, sym, true, zero, ℕ, ◌<◌, ◌∙◌, ◌≡◌, ◌⊎◌}
use Rattle.orc_heap.specs.Allowed.{IsLinkedNode, HasLink}
use Rattle.orc_heap.specs.Heap.{HeapNumbers, null, shown, link_to}
use Rattle.orc_heap.specs.Journals.{run_heap}
use Rattle.orc_heap.specs.declared.events.Event.{Event}
use Rattle.orc_heap.specs.declared.events.Link.{Link}
use Rattle.orc_heap.specs.declared.events.Place.TheVariants.{Root}
use Rattle.orc_fifo_rule.specs.declared.fifo.FifoNote.{FifoNote}
use Rattle.orc_fifo_rule.specs.QueueDiscipline.{FifoHolds, HasJob, has_begun, position_of}
use Rattle.orc_fifo_rule.specs.Watches.{WasNamed}
use Rattle.orc_fifo_rule.specs.Laws.Paths.{dummy_linked, tail_linked}
use Rattle.orc_heap.proofs.SingleActs.{link_same, null_to, some_same}

-- each of the two roots names a once linked node, without a mark
pub root_names : (n : HeapNumbers) (es : List (Event FifoNote)) (root : ℕ) → FifoHolds n es → has_begun es ≡ true → root < 2
    → (id : ℕ) × (shown (run_heap n es) (Root root) ≡ Some (link_to id)) × IsLinkedNode (run_heap n es) id
root_names n es zero holds begun low = let run = holds.running begun in (run.dummy, run.head_is, dummy_linked (run_heap n es) es run)
root_names n es (suc zero) holds begun low = let run = holds.running begun in (run.tail, run.tail_is, tail_linked (run_heap n es) es run)
root_names n es (suc (suc root)) holds begun low = absurd (omega (arith, low))

-- so the link that a look of it finds is a link to a node, which it has named from then on
pub look_names : (n : HeapNumbers) (es : List (Event FifoNote)) (root : ℕ) (link : Link) → FifoHolds n es → has_begun es ≡ true → root < 2
    → shown (run_heap n es) (Root root) ≡ Some link
    → (id : ℕ) × (link ≡ link_to id) × WasNamed (run_heap n es) root id
look_names n es root link holds begun low at =
    let (id, here, linked) = root_names n es root holds begun low in
    (id, some_same (sym at ∙ here), record { linked = linked; either = inl here })

-- the link of a once linked node is null, or leads without a mark to the job at the node's own second value
pub link_leads : (n : HeapNumbers) (es : List (Event FifoNote)) (id : ℕ) (link : Link) → FifoHolds n es → HasLink (run_heap n es) id link
    → (link ≡ null) ⊎ ((next : ℕ) × (job : ℕ) × (link ≡ link_to next) × HasJob (run_heap n es) next job (position_of (run_heap n es) id))
link_leads n es id link holds l =
    elim (holds.links id link l) [
      | inl none ↦ inl none
      | inr leads ↦ let (next, job, is, put) = leads in inr (next, job, is, holds.puts next job (position_of (run_heap n es) id) put)
    ]

pub successor_job : (n : HeapNumbers) (es : List (Event FifoNote)) (id next : ℕ) → FifoHolds n es → HasLink (run_heap n es) id (link_to next)
    → (job : ℕ) × HasJob (run_heap n es) next job (position_of (run_heap n es) id)
successor_job n es id next holds l =
    elim (link_leads n es id (link_to next) holds l) [
      | inl none ↦ absurd (null_to next (sym none))
      | inr leads ↦ let (x, job, is, has) = leads in
          (job, subst (λ (y : ℕ). HasJob (run_heap n es) y job (position_of (run_heap n es) id)) (sym (link_same next x is)) has)
    ]
