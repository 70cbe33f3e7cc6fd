-- The three steps by which a row is tried.
use Rattle.std.proofs.Common.{Bool, List, None, Some, [], ap, append_assoc, append-nil, arith, eq-eqb, false, inl, inr, length, refl, subst, sym, true, ℕ, ⊎_elim, ◌++◌, ◌<◌, ◌∙◌, ◌≡◌, ◌≢◌, ◌∷◌, ◌≤◌, ◌⊎◌}
use Rattle.std.proofs.lemmas.Bool.{false≢true, lt-ltb}
use Rattle.std.specs.Prelude.{Option, cond, if◌then◌else◌, is_none, map, nat_lt, slice_get, ◌%◌, ◌&&◌, ◌*◌, ◌/◌, ◌==◌}
use Rattle.orc_core.specs.Allowed.{may}
use Rattle.orc_core.specs.Counts.{is_out}
use Rattle.orc_core.specs.Machine.{Machine, new_machine, word_in}
use Rattle.orc_core.specs.RecordParts.{checked_below, number_of, saw}
use Rattle.orc_core.specs.declared.ops.CounterUse.TheVariants.{Check}
use Rattle.orc_core.specs.declared.ops.Op.TheVariants.{CounterLoad, GateLook, GateTake}
use Rattle.orc_core.specs.declared.records.Agent.{Agent}
use Rattle.orc_core.specs.declared.records.Reading.{Reading}
use Rattle.orc_any_domain.proofs.Counting.{nodes_stay}
use Rattle.orc_heap.proofs.Calls.{Puts-trans}
use Rattle.orc_heap.specs.Heap.{new_node}
use Rattle.orc_heap.specs.Journals.{event_by, run_heap}
use Rattle.orc_heap.specs.OwnEvents.{Puts}
use Rattle.orc_heap.specs.declared.discipline.Discipline as discipline
use Rattle.orc_heap.specs.declared.events.Act.TheVariants.{Give}
use Rattle.orc_machine_board.specs.Kinds.{MayDo, asks}
use Rattle.orc_machine_board.specs.Laws.Steps.{in_range}
use Rattle.orc_machine_board.specs.Licences.{ids_of}
use Rattle.orc_machine_board.specs.Rules.{bounds_in, heap_numbers, run_of, step_of}
use Rattle.orc_machine_board.specs.declared.machine.MachineShape.{MachineShape}
use Rattle.orc_projection.specs.Projection.{events_of, is_taken}
use Rattle.orc_domain.proofs.LeftParts.{same_by}
use Rattle.orc_domain.proofs.Searching.{found_at, found_now, found_or_same, idle_trans, idles}
use Rattle.orc_domain.proofs.Seats.{calm_forced, slots_keep, step_events}
use Rattle.orc_domain.proofs.Stages.{Stage, Steps, before_lawful, before_record, leaves_by, leaves_then, seat}
use Rattle.orc_machine_rest.specs.OwnSteps.{LeavesNothing}
use Rattle.orc_domain.proofs.Taking.{Takes, takes}
use Rattle.orc_domain.specs.Causes.{IsTaken}
use Rattle.orc_domain.specs.Searches.{Fails, Gets, Idles}
use Rattle.orc_domain.specs.Seats.{IsBetweenCalls, IsCalm, slot_by}
use Rattle.orc_sound.specs.Journals.{IsLawfulJournal}
use Rattle.orc_sound.specs.declared.steps.Step.{Step}
use Rattle.orc_words.specs.Bounds.{Bounds}
use Rattle.orc_words.specs.Packed.{sequence_of}
use Rattle.orc_words.specs.declared.place.Word.TheVariants.{Counter, Gate}

-- a gate that is out, or whose life is at the limit
taken_by_gate : (b : Bounds) (m : Machine) (r n : ℕ) → n ≡ word_in m (Gate r) → ((n % 2 == 1) ≡ true) ⊎ (b.limit ≤ n / 2) → IsTaken b m r
taken_by_gate b m r n e h = cases (is_out m r) refl
  where
    same : is_out m r ≡ (n % 2 == 1)
    same = ap (λ w. w % 2 == 1) (sym e)

    cases : (t : Bool) → is_out m r ≡ t → IsTaken b m r
    cases true o = inl o
    cases false o = ⊎_elim (λ x. absurd (false≢true (sym o ∙ (same ∙ x)))) (λ l. inr (record { free = o; spent = inl (subst (λ w. b.limit ≤ w / 2) e l) })) h

-- a gate that isn't, with a sequence at the limit
taken_by_count : (b : Bounds) (m : Machine) (r n c : ℕ) → word_in m (Gate r) ≡ n → (n % 2 == 1) ≡ false → c ≡ word_in m (Counter r) → b.limit ≤ sequence_of c
    → IsTaken b m r
taken_by_count b m r n c e free is high = inr (record { free = ap (λ w. w % 2 == 1) e ∙ free; spent = inr (subst (λ w. b.limit ≤ sequence_of w) is high) })

looked_number : (n r : ℕ) → (n % 2 == 1) ≡ false → 2 * number_of (cond (n % 2 == 0) (Some (record { row = r; number = n / 2 })) None) ≡ n
looked_number n r h = grind arith

even : (n : ℕ) → (n % 2 == 1) ≡ false → (n % 2 == 0) ≡ true
even n h = grind arith

-- this number was read of the row
abbrev reading : ℕ → ℕ → Reading
reading r x = record { row = r; number = x }

-- a calm agent without a fresh row may take one whose life and sequence it read below the limit
take_may : (b : Bounds) (a r x y : ℕ) (d : Agent) → a < b.agents → IsCalm d → r < b.rows → d.fresh ≡ None → d.looked ≡ Some (reading r x) → x < b.limit
    → d.checked ≡ Some (reading r y) → y < b.limit → may b 0 a (GateTake r) d ≡ true
take_may b a r x y d h calm low none looked young checked few =
    let agent = lt-ltb a b.agents h in
    let on = calm.enrolled in
    let first = calm_forced d (GateTake r) calm in
    let row = lt-ltb r b.rows low in
    let same : (r == r) ≡ true = eq-eqb r r refl in
    let free : is_none d.fresh ≡ true = ap (λ (o : Option ℕ). is_none o) none in
    let seen : saw d.looked r ≡ true = ap (λ (o : Option Reading). saw o r) looked ∙ same in
    let life : nat_lt (number_of d.looked) b.limit ≡ true = ap (λ (o : Option Reading). nat_lt (number_of o) b.limit) looked ∙ lt-ltb x b.limit young in
    let below = lt-ltb y b.limit few in
    let sequence : checked_below d.checked r b.limit ≡ true = ap (λ (o : Option Reading). checked_below o r b.limit) checked ∙ (λ i. same i && below i) in
    λ i. ((agent i && on i) && first i) && ((((row i && free i) && seen i) && life i) && sequence i)

was_none : (t : Bool) (n : ℕ) → n ≡ cond t 1 0 → n ≢ 1 → t ≡ false
was_none true n e ne = absurd (ne e)
was_none false n e ne = refl

-- the gate of a row of the table was looked at, and this was its word
pub record LooksAt {D N : Type 0} {d : discipline.Ghosts D N} {k : MachineShape N} (s t : Stage d k) (r n : ℕ) : Type 0 where
  pub low : r < (bounds_in k).rows
  pub made : Steps (GateLook r) s n t

-- the row was free, and its counter was read
pub record ReadsCounter {D N : Type 0} {d : discipline.Ghosts D N} {k : MachineShape N} (t u : Stage d k) (r n c : ℕ) : Type 0 where
  pub free : (n % 2 == 1) ≡ false
  pub made : Steps (CounterLoad r Check) t c u

module _ {D N : Type 0} {d : discipline.Ghosts D N} {k : MachineShape N} {s t : Stage d k} {r n : ℕ} (l : LooksAt s t r n) where
  abbrev b : Bounds
  b = bounds_in k

  abbrev j1 : List (Step N)
  j1 = s.view.journal ++ l.made.met

  abbrev x1 : Step N
  x1 = step_of s.view.agent (asks (GateLook r)) None

  look_idle : Idles b s.view t.view
  look_idle = idles (asks (GateLook r)) s t n l.made tt refl (same_by s.view.record_is _ t.view.record_is l.made.record_is
      (record { enrolled = refl; slots = refl; fresh = refl; due = refl; inc = refl; dec = refl; doom = refl; scan = refl }))

  -- the gate was seen out, or at the limit
  pub look_fails : ((n % 2 == 1) ≡ true) ⊎ (b.limit ≤ n / 2) → Fails b r s.view t.view
  look_fails h = record {
    idle = look_idle;
    found = found_at b s.view.agent s.view.journal l.made.met x1 [] [] (x1 ∷ []) t.view.journal r refl l.made.journal refl
        (subst (λ z. IsTaken b (run_of b z) r) (sym (append-nil j1)) (taken_by_gate b (run_of b j1) r n l.made.answer h));
  }

  module _ {u : Stage d k} {c : ℕ} (a : ReadsCounter t u r n c) where
    abbrev x2 : Step N
    x2 = step_of t.view.agent (asks (CounterLoad r Check)) None

    count_idle : Idles b s.view u.view
    count_idle = idle_trans b s.view t.view u.view look_idle (idles (asks (CounterLoad r Check)) t u c a.made tt refl
        (same_by t.view.record_is _ u.view.record_is a.made.record_is
        (record { enrolled = refl; slots = refl; fresh = refl; due = refl; inc = refl; dec = refl; doom = refl; scan = refl })))

    -- neither the life nor the sequence was read at the limit: the row may be taken
    pub take_can : IsBetweenCalls s.view.record_is → s.view.record_is.fresh ≡ None → n / 2 < b.limit → sequence_of c < b.limit → MayDo b u.view (GateTake r)
    take_can ready none young few =
        let same = count_idle.same in
        let looked : u.view.record_is.looked ≡ Some (reading r (n / 2)) =
        ap (λ (e : Agent). e.looked) a.made.record_is
        ∙ (ap (λ (e : Agent). e.looked) l.made.record_is
        ∙ (ap (λ z. cond (z % 2 == 0) (Some (reading r (z / 2))) None) (sym l.made.answer) ∙ ap (λ z. cond z (Some (reading r (n / 2))) None) (even n a.free))) in
        let checked : u.view.record_is.checked ≡ Some (reading r (sequence_of c)) =
        ap (λ (e : Agent). e.checked) a.made.record_is ∙ ap (λ z. Some (reading r (sequence_of z))) (sym a.made.answer) in
        take_may b u.view.agent r (n / 2) (sequence_of c) u.view.record_is u.number
        (record { enrolled = same.enrolled ∙ ready.enrolled; due = same.due ∙ ready.due; inc = same.inc ∙ ready.inc; dec = same.dec ∙ ready.dec }) l.low
        (same.fresh ∙ none) looked young checked few

    -- where the counter is read
    before2 : t.view.journal ++ a.made.met ≡ j1 ++ x1 ∷ a.made.met
    before2 = ap (λ z. z ++ a.made.met) l.made.journal ∙ append_assoc j1 (x1 ∷ []) a.made.met

    after2 : u.view.journal ≡ (j1 ++ x1 ∷ a.made.met) ++ x2 ∷ []
    after2 = a.made.journal ∙ ap (λ z. z ++ x2 ∷ []) before2

    lawful2 : IsLawfulJournal (new_machine b) (j1 ++ x1 ∷ a.made.met)
    lawful2 = subst (IsLawfulJournal (new_machine b)) before2 (before_lawful (asks (CounterLoad r Check)) None t u c a.made)

    -- the sequence was read at the limit: if the gate is no more what it was, the row was out meanwhile
    pub count_fails : b.limit ≤ sequence_of c → Fails b r s.view u.view
    count_fails high = record {
      idle = count_idle;
      found = ⊎_elim
          (λ same. found_now b s.view.agent s.view.journal l.made.met x1 a.made.met x2 u.view.journal r refl after2
          (taken_by_count b (run_of b (j1 ++ x1 ∷ a.made.met)) r n c (same ∙ sym l.made.answer) a.free
          (a.made.answer ∙ ap (λ z. word_in (run_of b z) (Counter r)) before2) high))
          (λ f. f)
          (found_or_same b s.view.agent s.view.journal l.made.met x1 a.made.met x2 u.view.journal r (in_range k.shape) l.low refl after2 lawful2);
    }

    module _ (w : Stage d k) (o : ℕ) (m3 : Steps (GateTake r) u o w) where
      -- the take that fails
      module _ (lost : o ≢ 1) where
        abbrev x3 : Step N
        x3 = step_of u.view.agent (asks (GateTake r)) None

        abbrev gate : ℕ
        gate = word_in (run_of b (u.view.journal ++ m3.met)) (Gate r)

        not_taken : is_taken u.view.record_is gate ≡ false
        not_taken = was_none (is_taken u.view.record_is gate) o m3.answer lost

        silent : step_events (asks (GateTake r)) None u w o m3 ≡ []
        silent = ap (λ (z : Bool). events_of x3 (if z then Some Give else None))
            (subst (λ (e : Agent). is_taken e gate ≡ false) (sym (before_record (asks (GateTake r)) None u w o m3)) not_taken)

        take_idle : Idles b s.view w.view
        take_idle = idle_trans b s.view u.view w.view count_idle (idles (asks (GateTake r)) u w o m3 tt silent (record {
          enrolled = ap (λ (e : Agent). e.enrolled) m3.record_is;
          slots = ap (λ (e : Agent). e.slots) m3.record_is;
          fresh = ap (λ (e : Agent). e.fresh) m3.record_is ∙ ap (λ (z : Bool). cond z (Some r) u.view.record_is.fresh) not_taken;
          due = ap (λ (e : Agent). e.due) m3.record_is;
          inc = ap (λ (e : Agent). e.inc) m3.record_is;
          dec = ap (λ (e : Agent). e.dec) m3.record_is;
          doom = ap (λ (e : Agent). e.doom) m3.record_is;
          scan = ap (λ (e : Agent). e.scan) m3.record_is;
        }))

        -- where the gate is tried
        before3 : u.view.journal ++ m3.met ≡ j1 ++ x1 ∷ (a.made.met ++ x2 ∷ m3.met)
        before3 =
            ap (λ z. z ++ m3.met) after2
            ∙ (append_assoc (j1 ++ x1 ∷ a.made.met) (x2 ∷ []) m3.met
            ∙ append_assoc j1 (x1 ∷ a.made.met) (x2 ∷ m3.met))

        after3 : w.view.journal ≡ (j1 ++ x1 ∷ (a.made.met ++ x2 ∷ m3.met)) ++ x3 ∷ []
        after3 = m3.journal ∙ ap (λ z. z ++ x3 ∷ []) before3

        lawful3 : IsLawfulJournal (new_machine b) (j1 ++ x1 ∷ (a.made.met ++ x2 ∷ m3.met))
        lawful3 = subst (IsLawfulJournal (new_machine b)) before3 (before_lawful (asks (GateTake r)) None u w o m3)

        -- the life that was looked at
        looked : 2 * number_of u.view.record_is.looked ≡ n
        looked =
            ap (λ (e : Agent). 2 * number_of e.looked) a.made.record_is
            ∙ (ap (λ (e : Agent). 2 * number_of e.looked) l.made.record_is
            ∙ (ap (λ z. 2 * number_of (cond (z % 2 == 0) (Some (record { row = r; number = z / 2 })) None)) (sym l.made.answer) ∙ looked_number n r a.free))

        -- the gate was no more what it had been: the row was out meanwhile
        pub take_fails : Fails b r s.view w.view
        take_fails = record {
          idle = take_idle;
          found = ⊎_elim
              (λ same. absurd (false≢true (sym not_taken ∙ eq-eqb gate (2 * number_of u.view.record_is.looked)
              (ap (λ z. word_in (run_of b z) (Gate r)) before3 ∙ (same ∙ (sym l.made.answer ∙ sym looked))))))
              (λ f. f)
              (found_or_same b s.view.agent s.view.journal l.made.met x1 (a.made.met ++ x2 ∷ m3.met) x3 w.view.journal r (in_range k.shape) l.low refl after3 lawful3);
        }

      -- the take that succeeds
      pub take_gets : o ≡ 1 → Gets b r s.view w.view
      take_gets won =
          let q = asks (GateTake r) in
          let t3 : Takes r u w = takes u w r o m3 won in
          let agents : u.view.agent ≡ s.view.agent = a.made.agent ∙ l.made.agent in
          let slots3 : w.view.record_is.slots ≡ u.view.record_is.slots = ap (λ (e : Agent). e.slots) m3.record_is in
          let old = count_idle.same in
          let part = m3.met ++ step_of u.view.agent q None ∷ [] in
          record {
            more = count_idle.more ++ part;
            journal = m3.journal ∙ (append_assoc u.view.journal m3.met (step_of u.view.agent q None ∷ [])
                ∙ (ap (λ z. z ++ part) count_idle.journal ∙ append_assoc s.view.journal count_idle.more part));
            leaves = leaves_then s.view.agent s.view.journal u.view.journal w.view.journal count_idle.leaves
                (subst (λ a. LeavesNothing a u.view.journal w.view.journal) agents (leaves_by q None u w o m3 tt));
            same = record {
              enrolled = ap (λ (e : Agent). e.enrolled) m3.record_is ∙ old.enrolled;
              slots = slots3 ∙ old.slots;
              fresh = t3.fresh;
              due = ap (λ (e : Agent). e.due) m3.record_is ∙ old.due;
              inc = ap (λ (e : Agent). e.inc) m3.record_is ∙ old.inc;
              dec = ap (λ (e : Agent). e.dec) m3.record_is ∙ old.dec;
              doom = ap (λ (e : Agent). e.doom) m3.record_is ∙ old.doom;
              scan = ap (λ (e : Agent). e.scan) m3.record_is ∙ old.scan;
            };
            slots = ap (map (slot_by (ids_of b w.view))) slots3 ∙ (slots_keep q None u w o m3 ∙ count_idle.only.slots);
            puts = Puts-trans (seat s) (seat u) (seat w) [] (event_by s.view.agent Give None ∷ []) count_idle.only.puts
                (subst (λ z. Puts (seat u) (record { agent = z; act = Give; note = None } ∷ []) (seat w)) agents t3.puts);
            new =
                let e = nodes_stay (heap_numbers k) (seat s).seen count_idle.only.puts.part in
                let same = ap (λ l. length (run_heap (heap_numbers k) l).nodes) count_idle.only.puts.is in
                let n3 = t3.new in
                omega (arith, e, same, n3);
            node = subst (λ z. slice_get (run_heap (heap_numbers k) (seat w).seen).nodes ((ids_of b w.view).node r) ≡ Some (new_node z)) agents t3.node;
          }
