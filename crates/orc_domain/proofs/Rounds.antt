-- All rows were tried, and none could be given.
use Rattle.std.proofs.Common.{List, None, Some, [], ap, append_assoc, append-nil, arith, length, length-append, refl, subst, suc, sym, take, zero, ℕ, ◌++◌, ◌+◌, ◌-◌, ◌%◌, ◌<◌, ◌∙◌, ◌≡◌, ◌∷◌, ◌≤◌}
use Rattle.std.proofs.Math.Decide.{dec_lt}
use Rattle.std.proofs.Math.Seq.{take-append_seam, take-length}
use Rattle.std.proofs.Math.Nat.{add-mod_right, mod-eq_of_lt}
use Rattle.std.specs.Prelude.{slice_get}
use native.Mathlib.Decide.{ℕ_discrete}
use mathlib.Core.List.{IsPrefix}
use mathlib.Core.Logic.{dite}
use Rattle.orc_heap.proofs.Steps.{cut_at_part, part_bounds}
use Rattle.orc_heap.specs.Allowed.{events_by}
use Rattle.orc_heap.specs.Moves.{gives_in}
use Rattle.orc_heap.proofs.Calls.{Puts-trans}
use Rattle.orc_heap.specs.Heap.{new_node}
use Rattle.orc_heap.specs.Journals.{event_by, run_heap}
use Rattle.orc_heap.specs.OwnEvents.{Puts}
use Rattle.orc_heap.specs.declared.events.Act.TheVariants.{Give}
use Rattle.orc_heap.specs.declared.events.Event.{Event}
use Rattle.orc_projection.specs.Mirror.{numbers_of}
use Rattle.orc_any_domain.specs.Turns.{IsNext}
use Rattle.orc_any_domain.proofs.Counting.{nodes_stay}
use Rattle.orc_machine_board.specs.Licences.{ids_of}
use Rattle.orc_domain.specs.Seats.{seat_by}
use Rattle.orc_history.specs.Journals.{own_of}
use Rattle.orc_history.specs.Parts.{InPart, part_begin}
use Rattle.orc_projection.specs.Projection.{project}
use Rattle.orc_machine_board.proofs.Licences.{signed}
use Rattle.orc_heap.specs.declared.discipline.Discipline as discipline
use Rattle.orc_domain.proofs.Stages.{Stage, leaves_then}
use Rattle.orc_machine_rest.specs.OwnSteps.{LeavesNothing}
use Rattle.orc_domain.proofs.Searching.{found_grows, found_since, idle_none, idle_trans}
use Rattle.orc_domain.specs.Causes.{IsLacking, IsOfDomain}
use Rattle.orc_machine_board.specs.Laws.Steps.{counted_obeys, in_range}
use Rattle.orc_machine_board.specs.Rules.{bounds_in, counted_rules}
use Rattle.orc_domain.specs.Searches.{Fails, Found, Gets, Idles, TriedRows}
use Rattle.orc_machine_board.specs.Views.{MachineView}
use Rattle.orc_machine_board.specs.declared.machine.MachineShape.{MachineShape}
use Rattle.orc_shared_words.proofs.Events.{others_add}
use Rattle.orc_shared_words.proofs.Runs.{by_other, by_own, cons_nil, own_of-append}
use Rattle.orc_sound.specs.declared.steps.Step.{Step}
use Rattle.orc_words.specs.Bounds.{Bounds}

get_front : {A : Type 0} (xs ys : List A) (i : ℕ) (x : A) → i < length xs → slice_get (xs ++ ys) i ≡ Some x → slice_get xs i ≡ Some x
get_front [] ys i x h e = absurd (omega arith)
get_front (y ∷ xs) ys zero x h e = e
get_front (y ∷ xs) ys (suc i) x h e = get_front xs ys i x (omega arith) e

get_after : {A : Type 0} (xs ys : List A) (i : ℕ) (x : A) → length xs ≤ i → slice_get (xs ++ ys) i ≡ Some x → (n : ℕ) × (slice_get ys n ≡ Some x)
get_after [] ys i x h e = (i, e)
get_after (y ∷ xs) ys zero x h e = absurd (omega arith)
get_after (y ∷ xs) ys (suc i) x h e = get_after xs ys i x (omega arith) e

-- once round from any row, each row comes
once_round : (P : ℕ → Type 0) (begin most : ℕ) → begin < most → ((k : ℕ) → k < most → P ((begin + k) % most)) → (row : ℕ) → row < most → P row
once_round P begin most l out row m = dite (dec_lt row begin)
    (λ lt.
    let e : begin + (row + most - begin) ≡ row + most = omega (arith, l, lt) in
    subst P (ap (λ z. z % most) e ∙ (add-mod_right row most ∙ mod-eq_of_lt m)) (out (row + most - begin) (omega (arith, l, lt))))
    (λ ge.
    let e : begin + (row - begin) ≡ row = omega (arith, ge) in
    subst P (ap (λ z. z % most) e ∙ mod-eq_of_lt m) (out (row - begin) (omega (arith, m))))

module _ {N : Type 0} where
  by : Step N → ℕ
  by s = s.agent

  none_own : (a : ℕ) (gap : List (Step N)) (i : ℕ) (x : Step N) → own_of (λ (s : Step N). s.agent) a gap ≡ [] → slice_get gap i ≡ Some x → x.agent ≡ a → ⊥
  none_own a [] i x e there its = cc
  none_own a (s ∷ ss) zero x e there its =
      let same : s ≡ x = cc in
      cons_nil s (own_of (λ (s : Step N). s.agent) a ss) (sym (by_own (λ (s : Step N). s.agent) a s ss (ap (λ (z : Step N). z.agent) same ∙ its)) ∙ e)
  none_own a (s ∷ ss) (suc i) x e there its = none_own a ss i x (rest (own_of (λ (s : Step N). s.agent) a (s ∷ ss)) e) there its
    where
      rest : (l : List (Step N)) → own_of (λ (s : Step N). s.agent) a (s ∷ ss) ≡ [] → own_of (λ (s : Step N). s.agent) a ss ≡ []
      rest l e = dite (ℕ_discrete s.agent a)
          (λ same. absurd (cons_nil s (own_of (λ (s : Step N). s.agent) a ss) (sym (by_own (λ (s : Step N). s.agent) a s ss same) ∙ e)))
          (λ ne. sym (by_other (λ (s : Step N). s.agent) a s ss ne) ∙ e)

  -- the part begins at the first step of its agent
  pub begin_le : (a : ℕ) (before after : List (Step N)) (i : ℕ) (x : Step N) → IsPrefix before after → slice_get after i ≡ Some x → x.agent ≡ a
      → length before ≤ i → part_begin (λ (s : Step N). s.agent) a before after ≤ i
  begin_le a before after i x grows there its h =
      let c = cut_at_part (λ (s : Step N). s.agent) a before after grows in
      dite (dec_lt i (length (before ++ c.gap)))
      (λ lt. absurd (let in_front = get_front (before ++ c.gap) c.part i x lt
      (ap (λ z. slice_get z i) (sym c.is) ∙ there) in let in_gap = get_after before c.gap i x h in_front in
      none_own a c.gap in_gap.0 x c.others in_gap.1 its))
      (λ ge. let e = c.begin_is in omega (arith, e, ge))

  pub tries_none : (b : Bounds) (begin rows : ℕ) (s : MachineView N) → TriedRows b begin rows 0 s s
  tries_none b begin rows s = record { idle = idle_none b s; found = λ k h. absurd (omega arith) }

  -- nothing came after the tries but what the pass doesn't show
  pub tries_then : (b : Bounds) (begin rows offset : ℕ) (s t u : MachineView N) → TriedRows b begin rows offset s t → Idles b t u → TriedRows b begin rows offset s u
  tries_then b begin rows offset s t u p q = record {
    idle = idle_trans b s t u p.idle q;
    found = λ k h. subst (λ z. Found b s.agent s.journal z ((begin + k) % rows)) (sym q.journal)
        (found_grows b s.agent s.journal t.journal q.more ((begin + k) % rows) (p.found k h));
  }

  pub tries_one : (b : Bounds) (begin rows offset : ℕ) (s t u : MachineView N) → TriedRows b begin rows offset s t → Fails b ((begin + offset) % rows) t u
      → TriedRows b begin rows (offset + 1) s u
  tries_one b begin rows offset s t u p f = record {
    idle = idle_trans b s t u p.idle f.idle;
    found = λ k h. dite (dec_lt k offset)
        (λ lt. (tries_then b begin rows offset s t u p f.idle).found k lt)
        (λ ge.
        let e : k ≡ offset = omega (arith, h, ge) in
        let longer = ap length p.idle.journal in
        let long : length s.journal ≤ length t.journal = omega (arith, longer, length-append s.journal p.idle.more) in
        subst (λ z. Found b s.agent s.journal u.journal ((begin + z) % rows)) (sym e)
        (found_since b s.agent s.journal t.journal u.journal ((begin + offset) % rows) long
        (subst (λ z. Found b z t.journal u.journal ((begin + offset) % rows)) p.idle.only.puts.agent f.found)));
  }

  -- the row that is tried next, where the others couldn't be given
  pub tries_next : (b : Bounds) (begin offset : ℕ) (s t : MachineView N) (after : List (Step N)) → TriedRows b begin b.rows offset s t → offset < b.rows
      → IsPrefix t.journal after → IsNext b.rows begin (Found b s.agent s.journal after) ((begin + offset) % b.rows)
  tries_next b begin offset s t after p low more = record {
    offset = offset;
    low = low;
    is = refl;
    passed = λ k h. subst (λ z. Found b s.agent s.journal z ((begin + k) % b.rows)) more.1
        (found_grows b s.agent s.journal t.journal more.0 ((begin + k) % b.rows) (p.found k h));
  }

  pub next_grows : (b : Bounds) (begin a row : ℕ) (before after later : List (Step N)) → IsPrefix after later
      → IsNext b.rows begin (Found b a before after) row → IsNext b.rows begin (Found b a before later) row
  next_grows b begin a row before after later more p = record {
    offset = p.offset;
    low = p.low;
    is = p.is;
    passed = λ k h. subst (λ z. Found b a before z ((begin + k) % b.rows)) more.1
        (found_grows b a before after more.0 ((begin + k) % b.rows) (p.passed k h));
  }

  -- the row that is taken after others were tried
  pub tries_gets : (b : Bounds) (begin rows offset r : ℕ) (s t u : MachineView N) → TriedRows b begin rows offset s t → Gets b r t u → Gets b r s u
  tries_gets b begin rows offset r s t u p q = record {
    more = p.idle.more ++ q.more;
    journal = q.journal ∙ (ap (λ z. z ++ q.more) p.idle.journal ∙ append_assoc s.journal p.idle.more q.more);
    leaves = leaves_then s.agent s.journal t.journal u.journal p.idle.leaves
        (subst (λ a. LeavesNothing a t.journal u.journal) p.idle.only.puts.agent q.leaves);
    same = record {
      enrolled = q.same.enrolled ∙ p.idle.same.enrolled;
      slots = q.same.slots ∙ p.idle.same.slots;
      fresh = q.same.fresh;
      due = q.same.due ∙ p.idle.same.due;
      inc = q.same.inc ∙ p.idle.same.inc;
      dec = q.same.dec ∙ p.idle.same.dec;
      doom = q.same.doom ∙ p.idle.same.doom;
      scan = q.same.scan ∙ p.idle.same.scan;
    };
    slots = q.slots ∙ p.idle.only.slots;
    puts = Puts-trans (seat_by b s) (seat_by b t) (seat_by b u) [] (event_by s.agent Give None ∷ []) p.idle.only.puts
        (subst (λ z. Puts (seat_by b t) (record { agent = z; act = Give; note = None } ∷ []) (seat_by b u)) p.idle.only.puts.agent q.puts);
    new =
        let e = nodes_stay (numbers_of b) (seat_by b s).seen p.idle.only.puts.part in
        let same = ap (λ l. length (run_heap (numbers_of b) l).nodes) p.idle.only.puts.is in
        let n = q.new in
        omega (arith, e, same, n);
    node = subst (λ z. slice_get (run_heap (numbers_of b) (seat_by b u).seen).nodes ((ids_of b u).node r) ≡ Some (new_node z)) p.idle.only.puts.agent q.node;
  }

module _ {D N : Type 0} {d : discipline.Ghosts D N} {k : MachineShape N} where
  -- where all rows were tried, none could be given
  pub tries_all : (begin : ℕ) (s t : Stage d k) → begin < (bounds_in k).rows → TriedRows (bounds_in k) begin (bounds_in k).rows (bounds_in k).rows s.view t.view
      → InPart (λ (x : Step N). x.agent) s.view.agent s.view.journal t.view.journal (IsLacking (bounds_in k) s.view.agent t.view.journal)
  tries_all begin s t inside p =
      let b = bounds_in k in
      let a = s.view.agent in
      let x = s.view.journal in
      let y = t.view.journal in
      let grows : IsPrefix x y = (p.idle.more, sym p.idle.journal) in
      let c = cut_at_part (λ (z : Step N). z.agent) a x y grows in
      let bounds = part_bounds (λ (z : Step N). z.agent) a x y grows in
      let found : (r : ℕ) → r < b.rows → Found b a x y r = once_round (Found b a x y) begin b.rows inside p.found in
      let front : take (part_begin (λ (z : Step N). z.agent) a x y) y ≡ x ++ c.gap = ap (λ n. take n y) c.begin_is
      ∙ (ap (take (length (x ++ c.gap))) c.is ∙ take-append_seam (x ++ c.gap) c.part) in
      let met = others_add counted_rules k (counted_obeys k) (signed b) a x c.gap c.others in
      let own_front : events_by a (project b (x ++ c.gap)) ≡ events_by a (project b x) = ap (events_by a) met.2
      ∙ (own_of-append (λ (z : Event N). z.agent) a (project b x) met.0
      ∙ (ap (λ z. events_by a (project b x) ++ z) met.1 ∙ append-nil (events_by a (project b x)))) in
      let own_all : events_by a (project b y) ≡ events_by a (project b x) = ap (events_by a) p.idle.only.puts.is
      ∙ (own_of-append (λ (z : Event N). z.agent) a (project b x) p.idle.only.puts.part
      ∙ (ap (λ z. events_by a (project b x) ++ z) p.idle.only.puts.own_is ∙ append-nil (events_by a (project b x)))) in
      record {
        ordered = bounds.1;
        within = omega arith;
        steps = subst (λ z. IsOfDomain b z) (sym (take-length y)) (record { shape = in_range k.shape; lawful = t.lawful; unmarked = t.unmarked });
        none = ap (λ z. gives_in (events_by a (project b z))) (take-length y)
            ∙ (ap gives_in (own_all ∙ sym own_front) ∙ ap (λ z. gives_in (events_by a (project b z))) (sym front));
        place = λ r h. (found r h).place;
        first = λ r h. let f = found r h in let e = begin_le a x y f.own f.step grows f.there f.its f.early in let l = f.later in omega (arith, e, l);
        last = λ r h. (found r h).within;
        taken = λ r h. (found r h).taken;
      }
