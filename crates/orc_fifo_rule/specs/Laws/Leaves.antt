-- What an allowed event leaves of the history, of the nodes of Puts, and of where links lead.
use Rattle.std.proofs.Common.{List, None, Option, Some, [], ap, append-nil, arith, false, inl, inr, refl, subst, sym, true, ℕ, ◌++◌, ◌+◌, ◌∙◌, ◌∷◌, ◌≡◌, ◌≢◌, ◌⊎◌}
use Rattle.std.proofs.lemmas.Bool.{eqb-true}
use Rattle.std.specs.List.{slice_get}
use Rattle.orc_heap.proofs.Before.{IsLinkedBy, linked_before}
use Rattle.orc_heap.proofs.Changes.{get-change_other, get-change_same}
use Rattle.orc_heap.proofs.Runs.{run_heap-snoc}
use Rattle.orc_heap.specs.Acts.{Fits, as_linked, change_node, change_target, heap_after, moved_link, with_link}
use Rattle.orc_heap.specs.Allowed.{IsLinkedNode, HasLink}
use Rattle.orc_heap.specs.Heap.{Heap, HeapNumbers, Node, null, shown, link_to}
use Rattle.orc_heap.specs.Journals.{names_node, run_heap, event_by}
use Rattle.orc_heap.specs.declared.events.Act.TheVariants.{Move}
use Rattle.orc_heap.specs.declared.events.Event.{Event}
use Rattle.orc_heap.specs.declared.events.Link.{Link}
use Rattle.orc_heap.specs.declared.events.Place.TheVariants.{Next, Root}
use Rattle.orc_history.specs.QueueHistory.{IsLegalFrom, IsLegalQueue, puts_in}
use Rattle.orc_history.specs.declared.queue.QueueEntry.{QueueEntry}
use Rattle.orc_history.specs.declared.queue.QueueEntry.TheVariants.{Empty, Put, Took}
use Rattle.orc_fifo_rule.specs.declared.fifo.FifoNote.{FifoNote}
use Rattle.orc_fifo_rule.specs.declared.fifo.FifoNote.TheVariants.{Begin, Entry, Swing}
use Rattle.orc_fifo_rule.specs.QueueDiscipline.{FifoHolds, FifoMay, HasJob, IsInTime, IsPutNode, IsRunning, LeadsOn, MayEnter, MayPut, entries_in, entries_of, has_begun, position_of}
use Rattle.orc_fifo_rule.specs.Laws.Kinds.{each_kind}
use Rattle.orc_fifo_rule.specs.Laws.Nodes.{job_next, link_kept, link_next, position_next, put_grown, some_next}
use Rattle.orc_fifo_rule.specs.Laws.Events.{put_before, put_last}
use Rattle.orc_fifo_rule.specs.Laws.Paths.{head_steps, put_at_last, successor_linked, tail_linked, tail_steps}
use Rattle.orc_heap.proofs.SingleActs.{link_moved, link_same, link_shown, plain_moves, shown_link, some_same}
use Rattle.orc_heap.proofs.OwnEntries.{noted-snoc}

-- the position of a legal Put
pub legal_put : (next : ℕ) (waiting : List (ℕ × ℕ)) (es : List QueueEntry) (agent job at : ℕ) → IsLegalFrom next waiting (es ++ Put agent job at ∷ [])
    → at ≡ next + puts_in es
legal_put next waiting [] agent job at legal = omega (arith, legal.0)
legal_put next waiting (Put a j p ∷ es) agent job at legal = omega (arith, legal_put (next + 1) (waiting ++ (j, p) ∷ []) es agent job at legal.1)
legal_put next waiting (Took a j p ∷ es) agent job at (rest, is, legal) = legal_put next rest es agent job at legal
legal_put next waiting (Empty a ∷ es) agent job at legal = legal_put next waiting es agent job at legal.1

legal_more : (first : ℕ) (history : List QueueEntry) (agent : ℕ) (noted : Option FifoNote) → IsLegalQueue first history
    → MayEnter first history agent noted → IsLegalQueue first (history ++ entries_in noted)
legal_more first history agent None legal may = rw append-nil legal
legal_more first history agent (Some Begin) legal may = rw append-nil legal
legal_more first history agent (Some Swing) legal may = rw append-nil legal
legal_more first history agent (Some (Entry entry)) legal may = may.1

-- the history stays legal, once the queue runs
pub legal_next : (n : HeapNumbers) (es : List (Event FifoNote)) (e : Event FifoNote) → FifoHolds n es → FifoMay n es e → IsRunning (run_heap n es) es
    → IsLegalQueue (position_of (run_heap n (es ++ e ∷ [])) 0) (entries_of (es ++ e ∷ []))
legal_next n es e holds may run =
    rw (position_next n es e 0 may run.zero, noted-snoc entries_in es e)
    (legal_more (position_of (run_heap n es) 0) (entries_of es) e.agent e.note holds.legal may.may_enter)

-- a Put comes after the Begins, and its position is the second value of the node at whose link it stands
pub put_runs : (n : HeapNumbers) (es : List (Event FifoNote)) (e : Event FifoNote) (entry : QueueEntry) → FifoHolds n es → FifoMay n es e
    → e.note ≡ Some (Entry entry) → IsRunning (run_heap n es) es
put_runs n es e entry holds may note_is = holds.running (subst (λ (x : Option FifoNote). IsInTime (has_begun es) x) note_is may.in_time)

pub put_position : (n : HeapNumbers) (es : List (Event FifoNote)) (e : Event FifoNote) (t by job at : ℕ) → FifoHolds n es → FifoMay n es e
    → e.note ≡ Some (Entry (Put by job at))
    → shown (run_heap n es) (Root 1) ≡ Some (link_to t) → shown (run_heap n es) (Next t) ≡ Some null → at ≡ position_of (run_heap n es) t
put_position n es e t by job at holds may note_is root none =
    let h : Heap = run_heap n es in
    let run = put_runs n es e (Put by job at) holds may note_is in
    let last = put_at_last h es run t root none in
    let enter : MayEnter (position_of h 0) (entries_of es) e.agent (Some (Entry (Put by job at))) =
    subst (λ (x : Option FifoNote). MayEnter (position_of h 0) (entries_of es) e.agent x) note_is may.may_enter in
    legal_put (position_of h 0) [] (entries_of es) by job at enter.1 ∙ (sym run.next ∙ ap (λ (x : ℕ). position_of h x) last.2)

-- the target of an act is changed
pub target_at : (f : Node → Node) (to : Link) (id : ℕ) (h : Heap) (node : Node) → to ≡ link_to id → slice_get h.nodes id ≡ Some node
    → slice_get (change_target f to.to h).nodes id ≡ Some (f node)
target_at f to id h node to_is there =
    subst (λ (l : Link). slice_get (change_target f l.to h).nodes id ≡ Some (f node)) (sym to_is) (get-change_same f id h.nodes node there)

pub unlinked_apart : (h : Heap) (t id : ℕ) (node : Node) → IsLinkedNode h t → slice_get h.nodes id ≡ Some node → node.linked ≡ false → t ≢ id
unlinked_apart h t id node l there unlinked same =
    let one : l.node ≡ node = some_same (sym l.there ∙ (ap (λ (x : ℕ). slice_get h.nodes x) same ∙ there)) in
    let bad : true ≡ false = sym l.linked ∙ (ap (λ (x : Node). x.linked) one ∙ unlinked) in
    cc

-- the node of a Put, once it is linked
pub put_node_after : (h : Heap) (agent t : ℕ) (from to : Link) (job at : ℕ) (m : MayPut h t from to job at) → IsLinkedNode h t
    → slice_get (heap_after agent (Move (Next t) from to) h).nodes m.id ≡ Some (as_linked m.node)
put_node_after h agent t from to job at m l =
    let apart : m.id ≢ t = λ same. unlinked_apart h t m.id m.node l m.there m.unlinked (sym same) in
    target_at as_linked to m.id (change_node (with_link to) t h) m.node m.to_is (get-change_other (with_link to) t m.id h.nodes apart ∙ m.there)

pub put_tail : (n : HeapNumbers) (es : List (Event FifoNote)) (e : Event FifoNote) (t : ℕ) (entry : QueueEntry) → FifoHolds n es → FifoMay n es e
    → e.note ≡ Some (Entry entry)
    → shown (run_heap n es) (Root 1) ≡ Some (link_to t) → IsLinkedNode (run_heap n es) t
put_tail n es e t entry holds may note_is root =
    let run = put_runs n es e entry holds may note_is in
    subst (λ (x : ℕ). IsLinkedNode (run_heap n es) x) (link_same run.tail t (some_same (sym run.tail_is ∙ root))) (tail_linked (run_heap n es) es run)

pub put_has_job : (n : HeapNumbers) (es : List (Event FifoNote)) (agent t by job at : ℕ) (from to : Link) → FifoHolds n es
    → (may : FifoMay n es (event_by agent (Move (Next t) from to) (Some (Entry (Put by job at)))))
    → HasJob (run_heap n (es ++ event_by agent (Move (Next t) from to) (Some (Entry (Put by job at))) ∷ [])) may.may_act.id job at
put_has_job n es agent t by job at from to holds may =
    let e = event_by agent (Move (Next t) from to) (Some (Entry (Put by job at))) in
    let m = may.may_act in
    let l = put_tail n es e t (Put by job at) holds may refl m.tail_is in
    rw (run_heap-snoc n es e) (record {
      node = as_linked m.node;
      there = put_node_after (run_heap n es) agent t from to job at m l;
      linked = refl;
      holds = record { job_is = m.holds.job_is; position_is = m.holds.position_is; low = m.holds.low };
    })

-- the node of each Put has its job
pub puts_next : (n : HeapNumbers) (es : List (Event FifoNote)) (e : Event FifoNote) (id job at : ℕ) → FifoHolds n es → FifoMay n es e
    → IsPutNode (es ++ e ∷ []) id job at
    → HasJob (run_heap n (es ++ e ∷ [])) id job at
puts_next n es e id job at holds may put =
    elim (put_before es e id job at put) [
      | inl old ↦ job_next n es e id job at may (holds.puts id job at old)
      | inr new ↦
          let (by, place, from, act_is, note_is) = new in
          each_kind (run_heap n es)
          (λ act noted. act ≡ Move place from (link_to id) → noted ≡ Some (Entry (Put by job at)) → FifoMay n es (event_by e.agent act noted)
          → HasJob (run_heap n (es ++ event_by e.agent act noted ∷ [])) id job at)
          (λ act plain a b m. let bad : ⊥ = cc in absurd bad)
          (λ r x y k a b m. let bad : ⊥ = cc in absurd bad)
          (λ r x y k a b m. let bad : ⊥ = cc in absurd bad)
          (λ r x y z j p k a b m. let bad : ⊥ = cc in absurd bad)
          (λ t x y z j p k a b m.
          let to_is : y ≡ link_to id = cc in
          let job_is : j ≡ job = cc in
          let at_is : p ≡ at = cc in
          let id_is : m.may_act.id ≡ id = link_same m.may_act.id id (sym m.may_act.to_is ∙ to_is) in
          let g = run_heap n (es ++ event_by e.agent (Move (Next t) x y) (Some (Entry (Put z j p))) ∷ []) in
          subst (λ (i : ℕ). HasJob g i job at) id_is
          (subst (λ (i : ℕ). HasJob g m.may_act.id job i) at_is
          (subst (λ (i : ℕ). HasJob g m.may_act.id i p) job_is (put_has_job n es e.agent t z j p x y holds m))))
          (λ d l z k a b m. let bad : ⊥ = cc in absurd bad)
          e.act e.note may.may_act act_is note_is may
    ]

pub names : (to : Link) (x id : ℕ) → to ≡ link_to x → names_node to.to id ≡ true → x ≡ id
names to x id to_is named = eqb-true x id (subst (λ (l : Link). names_node l.to id ≡ true) to_is named)

-- the link of a node that the event links for the first time is null
first_link : (n : HeapNumbers) (es : List (Event FifoNote)) (e : Event FifoNote) (id : ℕ) (node : Node) → FifoHolds n es → FifoMay n es e
    → IsLinkedBy e.act (run_heap n es) id node → node.link ≡ null
first_link n es e id node holds may by =
    let h : Heap = run_heap n es in
    each_kind h (λ act noted. IsInTime (has_begun es) noted → Fits e.agent act h → IsLinkedBy act h id node → node.link ≡ null)
    (λ act plain time fits b. let bad : true ≡ false = sym b.moves ∙ plain_moves act id plain in cc)
    (λ r from to m time fits b.
    let zero_is : 0 ≡ id = names to 0 id m.to_is b.moves in
    b.link_is ∙ link_shown h id null b.old b.there (subst (λ (x : ℕ). shown h (Next x) ≡ Some null) zero_is m.ends))
    (λ r from to m time fits b.
    let step = tail_steps h es (holds.running time) r from to m.steps m.root_is fits.0 in
    let next_is : m.steps.next ≡ id = names to m.steps.next id m.steps.to_is b.moves in
    absurd (unlinked_apart h m.steps.next id b.old (successor_linked n es m.steps.id m.steps.next holds step.1) b.there b.unlinked next_is))
    (λ r from to q job at m time fits b.
    let step = head_steps h es (holds.running time) r from to m.steps m.root_is fits.0 in
    let next_is : m.steps.next ≡ id = names to m.steps.next id m.steps.to_is b.moves in
    absurd (unlinked_apart h m.steps.next id b.old (successor_linked n es m.steps.id m.steps.next holds step.1) b.there b.unlinked next_is))
    (λ t from to q job at m time fits b.
    let id_is : m.id ≡ id = names to m.id id m.to_is b.moves in
    let one : m.node ≡ b.old = some_same (sym m.there ∙ (ap (λ (x : ℕ). slice_get h.nodes x) id_is ∙ b.there)) in
    let run = holds.running time in
    let l : IsLinkedNode h t = subst (λ (x : ℕ). IsLinkedNode h x) (link_same run.tail t (some_same (sym run.tail_is ∙ m.tail_is))) (tail_linked h es run) in
    elim (link_moved t id from to b.old.link) [
      | inl c ↦ absurd (unlinked_apart h t id b.old l b.there b.unlinked c.0)
      | inr c ↦ b.link_is ∙ (c.1 ∙ (ap (λ (x : Node). x.link) (sym one) ∙ m.ends))
    ])
    (λ d l q m time fits b. let bad : false ≡ true = b.moves in cc)
    e.act e.note may.may_act may.in_time may.fits by

same_link : (h : Heap) (id : ℕ) (a b : Link) → HasLink h id a → HasLink h id b → a ≡ b
same_link h id a b x y =
    let one : x.node ≡ y.node = some_same (sym x.there ∙ y.there) in
    sym x.link_is ∙ (ap (λ (z : Node). z.link) one ∙ y.link_is)

leads_more : (es fs : List (Event FifoNote)) (position : ℕ) (link : Link) → LeadsOn es position link → LeadsOn (es ++ fs) position link
leads_more es fs position link (inl none) = inl none
leads_more es fs position link (inr (next, job, is, put)) = inr (next, job, is, put_grown es fs next job position put)

-- each link of a once linked node is null or leads to the node of the next Put
pub links_next : (n : HeapNumbers) (es : List (Event FifoNote)) (e : Event FifoNote) (id : ℕ) (link : Link) → FifoHolds n es → FifoMay n es e
    → HasLink (run_heap n (es ++ e ∷ [])) id link
    → LeadsOn (es ++ e ∷ []) (position_of (run_heap n (es ++ e ∷ [])) id) link
links_next n es e id link holds may l =
    let h : Heap = run_heap n es in
    let k : Heap = run_heap n (es ++ e ∷ []) in
    let there : slice_get (heap_after e.agent e.act h).nodes id ≡ Some l.node =
    subst (λ (g : Heap). slice_get g.nodes id ≡ Some l.node) (run_heap-snoc n es e) l.there in
    elim (linked_before e.agent e.act h id l.node there l.linked) [
      | inl was ↦
          let old : HasLink h id was.node.link = record { node = was.node; there = was.there; linked = was.linked; link_is = refl } in
          let new : link ≡ moved_link e.act id was.node.link =
          same_link k id link (moved_link e.act id was.node.link) l (link_next n es e id was.node.link may old) in
          let place : position_of k id ≡ position_of h id = position_next n es e id may was in
          elim (link_kept h e.agent e.act e.note id was.node.link may.may_act may.fits (shown_link h id was.node.link old)) [
            | inl same ↦
                subst (λ (x : ℕ). LeadsOn (es ++ e ∷ []) x link) (sym place)
                (subst (λ (x : Link). LeadsOn (es ++ e ∷ []) (position_of h id) x) (sym (new ∙ same))
                (leads_more es (e ∷ []) (position_of h id) was.node.link (holds.links id was.node.link old)))
            | inr put ↦
                let (p, none, moved) = put in
                let at_is : p.at ≡ position_of h id =
                put_position n es e id p.by p.job p.at holds may p.note_is p.may.tail_is
                (shown_link h id was.node.link old ∙ ap (λ (x : Link). Some x) none) in
                let act_is : e.act ≡ Move (Next id) p.from (link_to p.may.id) = p.act_is ∙ ap (λ (x : Link). Move (Next id) p.from x) p.may.to_is in
                let node : IsPutNode (es ++ e ∷ []) p.may.id p.job p.at = put_last es e p.may.id p.by p.job p.at (Next id) p.from act_is p.note_is in
                inr (p.may.id, p.job, new ∙ moved, subst (λ (x : ℕ). IsPutNode (es ++ e ∷ []) p.may.id p.job x) (at_is ∙ sym place) node)
          ]
      | inr by ↦ inl (sym l.link_is ∙ first_link n es e id l.node holds may by)
    ]

cons_first : {A : Type 0} {x y : A} {xs ys : List A} → x ∷ xs ≡ y ∷ ys → x ≡ y
cons_first e = cc

cons_rest : {A : Type 0} {x y : A} {xs ys : List A} → x ∷ xs ≡ y ∷ ys → xs ≡ ys
cons_rest e = cc

-- where a list that grew by one is split
split_more : {A : Type 0} (xs : List A) (x : A) (ys zs : List A) → xs ++ x ∷ [] ≡ ys ++ zs
    → (ys ≡ xs ++ x ∷ []) ⊎ ((ws : List A) × (zs ≡ ws ++ x ∷ []) × (xs ≡ ys ++ ws))
split_more xs x [] zs e = inr (xs, sym e, refl)
split_more [] x (y ∷ []) zs e = inl (ap (λ z. z ∷ []) (sym (cons_first e)))
split_more [] x (y ∷ v ∷ ys) zs e = let bad = cons_rest e in cc
split_more (w ∷ xs) x (y ∷ ys) zs e =
    elim (split_more xs x ys zs (cons_rest e)) [
      | inl same ↦ inl (let first = cons_first e in cc)
      | inr more ↦ inr (more.0, more.1, (let first = cons_first e in let rest = more.2 in cc))
    ]

-- a link that isn't null never changes
pub frozen_next : (n : HeapNumbers) (es : List (Event FifoNote)) (e : Event FifoNote) (before after : List (Event FifoNote)) (id : ℕ) (link : Link)
    → FifoHolds n es → FifoMay n es e
    → es ++ e ∷ [] ≡ before ++ after → HasLink (run_heap n before) id link → link ≢ null → HasLink (run_heap n (es ++ e ∷ [])) id link
frozen_next n es e before after id link holds may split l some =
    elim (split_more es e before after split) [
      | inl whole ↦ subst (λ (xs : List (Event FifoNote)). HasLink (run_heap n xs) id link) whole l
      | inr rest ↦ some_next n es e id link may some (holds.frozen before rest.0 id link rest.2 l some)
    ]
