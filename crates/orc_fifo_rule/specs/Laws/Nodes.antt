-- What an allowed event leaves of once linked nodes, their links and the nodes of Puts.
use Rattle.std.proofs.Common.{List, Option, Some, [], ap, inl, inr, refl, subst, sym, true, ℕ, ◌++◌, ◌+◌, ◌∙◌, ◌∷◌, ◌≡◌, ◌≢◌, ◌⊎◌}
use Rattle.std.proofs.lemmas.List.Elements.{Contains-append_left}
use Rattle.std.specs.List.{slice_get}
use Rattle.std.specs.Prelude.{unwrap_or}
use Rattle.orc_heap.proofs.Linked.{linked_after}
use Rattle.orc_heap.proofs.Runs.{run_heap-snoc}
use Rattle.orc_heap.specs.Acts.{Fits, StaysLinked, moved_link}
use Rattle.orc_heap.specs.Allowed.{IsLinkedNode, HasLink}
use Rattle.orc_heap.specs.Heap.{Heap, HeapNumbers, Node, null, shown, link_to}
use Rattle.orc_heap.specs.Journals.{run_heap}
use Rattle.orc_heap.specs.declared.events.Act.{Act}
use Rattle.orc_heap.specs.declared.events.Act.TheVariants.{Move}
use Rattle.orc_heap.specs.declared.events.Event.{Event}
use Rattle.orc_heap.specs.declared.events.Link.{Link}
use Rattle.orc_heap.specs.declared.events.Place.TheVariants.{Next}
use Rattle.orc_history.specs.declared.queue.QueueEntry.TheVariants.{Put}
use Rattle.orc_fifo_rule.specs.declared.fifo.FifoNote.{FifoNote}
use Rattle.orc_fifo_rule.specs.declared.fifo.FifoNote.TheVariants.{Entry}
use Rattle.orc_fifo_rule.specs.QueueDiscipline.{FifoMay, HasJob, IsPath, IsPutNode, MayAct, MayPut, position_of}
use Rattle.orc_fifo_rule.specs.Laws.Kinds.{each_kind}
use Rattle.orc_heap.proofs.SingleActs.{link_moved, null_to, plain_link, some_same, shown_link, linked_node}

pub position_at : (h : Heap) (d : ℕ) (n : Node) → slice_get h.nodes d ≡ Some n → position_of h d ≡ unwrap_or n.second 0
position_at h d n there = rw there refl

-- the event is a Put at the link of this node
pub record PutsAt (h : Heap) (act : Act) (noted : Option FifoNote) (d : ℕ) : Type 0 where
  pub from : Link
  pub to : Link
  pub by : ℕ
  pub job : ℕ
  pub at : ℕ
  pub act_is : act ≡ Move (Next d) from to
  pub note_is : noted ≡ Some (Entry (Put by job at))
  pub may : MayPut h d from to job at

-- a link stays, but where a Put stands at it
pub link_kept : (h : Heap) (agent : ℕ) (act : Act) (noted : Option FifoNote) (d : ℕ) (link : Link) → MayAct h act noted → Fits agent act h
    → shown h (Next d) ≡ Some link
    → (moved_link act d link ≡ link) ⊎ ((p : PutsAt h act noted d) × (link ≡ null) × (moved_link act d link ≡ link_to p.may.id))
link_kept h agent act noted d link may =
    each_kind h (λ act noted. Fits agent act h → shown h (Next d) ≡ Some link → (moved_link act d link ≡ link)
    ⊎ ((p : PutsAt h act noted d) × (link ≡ null) × (moved_link act d link ≡ link_to p.may.id)))
    (λ act plain fits at. inl (plain_link act d link plain))
    (λ r from to m fits at. inl refl)
    (λ r from to m fits at. inl refl)
    (λ r from to by job place m fits at. inl refl)
    (λ t from to by job place m fits at. elim (link_moved t d from to link) [
      | inl c ↦
          let here : shown h (Next t) ≡ Some link = subst (λ (x : ℕ). shown h (Next x) ≡ Some link) (sym c.0) at in
          let link_is : link ≡ null = some_same (sym here ∙ fits.0) ∙ m.from_is in
          inr (
            record {
              from = from;
              to = to;
              by = by;
              job = job;
              at = place;
              act_is = ap (λ (x : ℕ). Move (Next x) from to) c.0;
              note_is = refl;
              may = subst (λ (x : ℕ). MayPut h x from to job place) c.0 m;
            },
            link_is,
            c.1 ∙ m.to_is,
          )
      | inr c ↦ inl c.1
    ])
    (λ x l by m fits at. inl refl)
    act noted may

-- an allowed event, with the heaps before and after it
pub stays_linked : (n : HeapNumbers) (es : List (Event FifoNote)) (e : Event FifoNote) (d : ℕ) (old : Node) → FifoMay n es e
    → slice_get (run_heap n es).nodes d ≡ Some old → old.linked ≡ true
    → StaysLinked (run_heap n (es ++ e ∷ [])) d old (moved_link e.act d old.link)
stays_linked n es e d old may there linked = rw (run_heap-snoc n es e) (linked_after e.agent e.act (run_heap n es) d old may.fits there linked)

pub linked_next : (n : HeapNumbers) (es : List (Event FifoNote)) (e : Event FifoNote) (d : ℕ) → FifoMay n es e → IsLinkedNode (run_heap n es) d
    → IsLinkedNode (run_heap n (es ++ e ∷ [])) d
linked_next n es e d may l =
    let s = stays_linked n es e d l.node may l.there l.linked in
    record { node = s.node; there = s.there; linked = s.linked }

pub position_next : (n : HeapNumbers) (es : List (Event FifoNote)) (e : Event FifoNote) (d : ℕ) → FifoMay n es e → IsLinkedNode (run_heap n es) d
    → position_of (run_heap n (es ++ e ∷ [])) d ≡ position_of (run_heap n es) d
position_next n es e d may l =
    let s = stays_linked n es e d l.node may l.there l.linked in
    position_at (run_heap n (es ++ e ∷ [])) d s.node s.there
    ∙ (ap (λ (o : Option ℕ). unwrap_or o 0) s.second ∙ sym (position_at (run_heap n es) d l.node l.there))

-- the link after the event
pub link_next : (n : HeapNumbers) (es : List (Event FifoNote)) (e : Event FifoNote) (d : ℕ) (link : Link) → FifoMay n es e → HasLink (run_heap n es) d link
    → HasLink (run_heap n (es ++ e ∷ [])) d (moved_link e.act d link)
link_next n es e d link may l =
    let s = stays_linked n es e d l.node may l.there l.linked in
    record { node = s.node; there = s.there; linked = s.linked; link_is = s.link_is ∙ ap (λ (x : Link). moved_link e.act d x) l.link_is }

pub null_next : (n : HeapNumbers) (es : List (Event FifoNote)) (e : Event FifoNote) (d : ℕ) → FifoMay n es e → HasLink (run_heap n es) d null
    → HasLink (run_heap n (es ++ e ∷ [])) d null ⊎ ((p : PutsAt (run_heap n es) e.act e.note d) × HasLink (run_heap n (es ++ e ∷ [])) d (link_to p.may.id))
null_next n es e d may l =
    let next = link_next n es e d null may l in
    elim (link_kept (run_heap n es) e.agent e.act e.note d null may.may_act may.fits (shown_link (run_heap n es) d null l)) [
      | inl same ↦ inl (subst (λ (x : Link). HasLink (run_heap n (es ++ e ∷ [])) d x) same next)
      | inr p ↦ inr (p.0, subst (λ (x : Link). HasLink (run_heap n (es ++ e ∷ [])) d x) p.2 next)
    ]

pub some_next : (n : HeapNumbers) (es : List (Event FifoNote)) (e : Event FifoNote) (d : ℕ) (link : Link) → FifoMay n es e → link ≢ null
    → HasLink (run_heap n es) d link
    → HasLink (run_heap n (es ++ e ∷ [])) d link
some_next n es e d link may some l =
    let next = link_next n es e d link may l in
    elim (link_kept (run_heap n es) e.agent e.act e.note d link may.may_act may.fits (shown_link (run_heap n es) d link l)) [
      | inl same ↦ subst (λ (x : Link). HasLink (run_heap n (es ++ e ∷ [])) d x) same next
      | inr p ↦ absurd (some p.1)
    ]

pub node_next : (n : HeapNumbers) (es : List (Event FifoNote)) (e : Event FifoNote) (d next : ℕ) → FifoMay n es e → HasLink (run_heap n es) d (link_to next)
    → HasLink (run_heap n (es ++ e ∷ [])) d (link_to next)
node_next n es e d next may l = some_next n es e d (link_to next) may (λ none. null_to next (sym none)) l

-- a Put's node stays one, and keeps its job
pub put_grown : (es fs : List (Event FifoNote)) (id job at : ℕ) → IsPutNode es id job at → IsPutNode (es ++ fs) id job at
put_grown es fs id job at p =
    record {
      event = p.event;
      by = p.by;
      place = p.place;
      from = p.from;
      among = Contains-append_left es fs p.event p.among;
      act_is =
          p.act_is;
      note_is = p.note_is;
    }

pub job_next : (n : HeapNumbers) (es : List (Event FifoNote)) (e : Event FifoNote) (id job at : ℕ) → FifoMay n es e → HasJob (run_heap n es) id job at
    → HasJob (run_heap n (es ++ e ∷ [])) id job at
job_next n es e id job at may j =
    let s = stays_linked n es e id j.node may j.there j.linked in
    record {
      node = s.node;
      there = s.there;
      linked = s.linked;
      holds = record { job_is = s.first ∙ j.holds.job_is; position_is = s.second ∙ j.holds.position_is; low = j.holds.low };
    }

pub path_next : (n : HeapNumbers) (es : List (Event FifoNote)) (e : Event FifoNote) (d last : ℕ) (puts : List (ℕ × ℕ)) → FifoMay n es e
    → IsPath es (run_heap n es) d puts last
    → IsPath (es ++ e ∷ []) (run_heap n (es ++ e ∷ [])) d puts last
path_next n es e d last [] may path = path
path_next n es e d last (put ∷ puts) may (next, link, put_node, rest) =
    (next, node_next n es e d next may link, put_grown es (e ∷ []) next put.0 put.1 put_node, path_next n es e next last puts may rest)

pub path_linked : (es : List (Event FifoNote)) (h : Heap) (d last : ℕ) (puts : List (ℕ × ℕ)) → IsPath es h d puts last → HasLink h last null → IsLinkedNode h d
path_linked es h d last [] path ends = subst (λ (x : ℕ). IsLinkedNode h x) (sym path) (linked_node h last null ends)
path_linked es h d last (put ∷ puts) (next, link, put_node, rest) ends = linked_node h d (link_to next) link

pub job_linked : (h : Heap) (id job at : ℕ) → HasJob h id job at → IsLinkedNode h id
job_linked h id job at j = record { node = j.node; there = j.there; linked = j.linked }

pub job_position : (h : Heap) (id job at : ℕ) → HasJob h id job at → position_of h id ≡ at + 1
job_position h id job at j = position_at h id j.node j.there ∙ ap (λ (o : Option ℕ). unwrap_or o 0) j.holds.position_is
