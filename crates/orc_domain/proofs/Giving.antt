-- A row that was taken is filled and held.
use Rattle.std.proofs.Common.{Bool, List, None, Option, Some, [], ap, arith, eq-eqb, refl, subst, sym, true, ℕ, ◌++◌, ◌<◌, ◌∙◌, ◌≡◌, ◌∷◌}
use Rattle.std.proofs.lemmas.Bool.{lt-ltb, or_right}
use Rattle.std.specs.List.{list_any}
use Rattle.std.specs.Option.{option_map}
use Rattle.std.specs.Prelude.{cond, if◌then◌else◌, slice_get, slice_index_or, slice_set, ◌&&◌}
use mathlib.Core.List.{IsPrefix}
use Rattle.orc_core.specs.Allowed.{may as may_make}
use Rattle.orc_core.specs.Machine.{new_machine}
use Rattle.orc_core.specs.RecordParts.{any_holds, names, slot_of}
use Rattle.orc_core.specs.declared.ops.Op.TheVariants.{Fill as FillStep, Publish}
use Rattle.orc_core.specs.declared.records.Agent.{Agent}
use Rattle.orc_core.specs.declared.records.SlotUse.{SlotUse}
use Rattle.orc_core.specs.declared.records.SlotUse.TheVariants.{Empty, Held, Published}
use Rattle.orc_heap.proofs.Calls.{Puts-trans}
use Rattle.orc_heap.proofs.Fresh.{IsOwnNode, own_node_told, touched_by}
use Rattle.orc_heap.proofs.Pieces.{goes_on}
use Rattle.orc_heap.proofs.Stays.{allowed-right}
use Rattle.orc_heap.specs.Acts.{with_value}
use Rattle.orc_heap.specs.Allowed.{AllAllowed, events_by}
use Rattle.orc_heap.specs.Calls.{Gives, given_node}
use Rattle.orc_heap.specs.Heap.{Node, new_node}
use Rattle.orc_heap.specs.Journals.{event_by, points_to, run_heap}
use Rattle.orc_heap.specs.OwnEvents.{Only, Puts}
use Rattle.orc_heap.specs.Seats.{IsUntouched}
use Rattle.orc_heap.specs.Slots.{Hold, IsFree}
use Rattle.orc_heap.specs.declared.discipline.Discipline as discipline
use Rattle.orc_heap.specs.declared.events.Act.TheVariants.{Fill, Give}
use Rattle.orc_heap.specs.declared.events.Event.{Event}
use Rattle.orc_machine_board.specs.Kinds.{MayDo, asks}
use Rattle.orc_machine_board.specs.Licences.{ids_of}
use Rattle.orc_machine_board.specs.Rules.{bounds_in, heap_numbers, step_of}
use Rattle.orc_machine_board.specs.declared.machine.MachineShape.{MachineShape}
use Rattle.orc_projection.proofs.Mirrored.{ids-append}
use Rattle.orc_projection.specs.PresentIds.{PresentIds, no_ids}
use Rattle.orc_projection.specs.Projection.{present_ids}
use Rattle.orc_domain.proofs.LeftParts.{same_by}
use Rattle.orc_domain.proofs.Protecting.{empty_slot, held_ready, publish_may, still_ready}
use Rattle.orc_domain.proofs.Seats.{calm_forced, ids_keep, only, ready_calm, sets}
use Rattle.orc_machine_rest.proofs.TakenIn.{done_later}
use Rattle.orc_domain.proofs.Ending.{Ends}
use Rattle.orc_domain.proofs.Stages.{Between, Stage, Steps, done_one, leaves_by, leaves_then, seat}
use Rattle.orc_machine_rest.specs.OwnSteps.{LeavesNothing}
use Rattle.orc_domain.specs.Searches.{Gets}
use Rattle.orc_domain.specs.Seats.{IsCalm, IsBetweenCalls, SetsSlot}
use Rattle.orc_words.specs.Bounds.{Bounds}

pub no_fresh : (f : ℕ → ℕ) (o : Option ℕ) → option_map f o ≡ None → o ≡ None
no_fresh f None e = refl
no_fresh f (Some r) e = cc

filled : (N : Type 0) (agent id which value : ℕ) (x : Node) → touched_by {N = N} id
    (record { agent = agent; act = Fill id which value; note = None } ∷ []) x ≡ with_value which value x
filled N agent id which value x = ap (λ b. if b then with_value which value x else x) (eq-eqb id id refl)

pub fill_may : (b : Bounds) (a : ℕ) (d : Agent) (r which v : ℕ) → a < b.agents → IsCalm d → names d.fresh r ≡ true → r < b.rows → which < 2
    → may_make b 0 a (FillStep r which v) d ≡ true
fill_may b a d r which v h calm its low two =
    let agent = lt-ltb a b.agents h in
    let on = calm.enrolled in
    let first = calm_forced d (FillStep r which v) calm in
    let row = lt-ltb r b.rows low in
    let small = lt-ltb which 2 two in
    λ i. ((agent i && on i) && first i) && ((row i && small i) && its i)

module _ {D N : Type 0} {d : discipline.Ghosts D N} {k : MachineShape N} where
  -- a fill of the fresh row
  pub fill_only : (s t : Stage d k) (r which value n : ℕ) → Steps (FillStep r which value) s n t → names s.view.record_is.fresh r ≡ true
      → Only (event_by s.view.agent (Fill ((ids_of (bounds_in k) s.view).node r) which value) None ∷ []) (seat s) (seat t)
      × ((ids_of (bounds_in k) t.view).node r ≡ (ids_of (bounds_in k) s.view).node r)
  fill_only s t r which value n m fresh =
      let b = bounds_in k in
      let q = asks (FillStep r which value) in
      let x = step_of s.view.agent q None in
      let kept = ids_keep q None s t n m r (or_right (any_holds s.view.record_is.slots r) (names s.view.record_is.fresh r) fresh) in
      let ids : (ids_of b t.view).node r ≡ (present_ids b (s.view.journal ++ m.met)).node r = ap (λ z. (present_ids b z).node r) m.journal
      ∙ ap (λ (p : PresentIds). p.node r) (ids-append (new_machine b) no_ids (s.view.journal ++ m.met) (x ∷ [])) in (
        subst (λ id. Only (event_by s.view.agent (Fill id which value) None ∷ []) (seat s) (seat t)) (sym ids ∙ kept)
            (only q None s t n m (ap (λ (e : Agent). e.slots) m.record_is) (ap (λ (e : Agent). e.fresh) m.record_is)),
        kept,
      )

  -- a row that was got at the beginning of a call
  pub record Took (s t : Stage d k) (r : ℕ) : Type 0 where
    pub low : r < (bounds_in k).rows
    pub got : Gets (bounds_in k) r s.view t.view
    pub between : Between s

  -- the row was filled and published: the node is given
  pub record Gave (s t : Stage d k) (r slot first second : ℕ) (w : Stage d k) : Type 0 where
    pub gives : (h : Hold) → h ≡ record { row = r; slot = slot } → Gives (heap_numbers k) slot first second (seat s) h (seat w)
    pub ends : Ends s w
    pub filled : IsPrefix t.view.journal w.view.journal

  module _ (s t : Stage d k) (r : ℕ) (took : Took s t r) where
    abbrev b : Bounds
    b = bounds_in k

    abbrev id : ℕ
    id = (ids_of (bounds_in k) t.view).node r

    agent : t.view.agent ≡ s.view.agent
    agent = took.got.puts.agent

    ready1 : IsBetweenCalls t.view.record_is
    ready1 = still_ready (record s.view.record_is { fresh = Some r }) t.view.record_is took.got.same record {
      enrolled = took.between.ready.enrolled;
      eight = took.between.ready.eight;
      due = took.between.ready.due;
      inc = took.between.ready.inc;
      dec = took.between.ready.dec;
      zero = took.between.ready.zero;
      published = took.between.ready.published;
      doom = took.between.ready.doom;
      found = took.between.ready.found;
    }

    fresh1 : names t.view.record_is.fresh r ≡ true
    fresh1 = ap (λ o. names o r) took.got.same.fresh ∙ eq-eqb r r refl

    pub first_can : (first : ℕ) → MayDo (bounds_in k) t.view (FillStep r 0 first)
    first_can first = fill_may (bounds_in k) t.view.agent t.view.record_is r 0 first t.number (ready_calm t.view.record_is ready1) fresh1 took.low (omega arith)

    module _ (u : Stage d k) (first n1 : ℕ) (m1 : Steps (FillStep r 0 first) t n1 u) where
      ready2 : IsBetweenCalls u.view.record_is
      ready2 = subst IsBetweenCalls (sym m1.record_is) ready1

      fresh2 : names u.view.record_is.fresh r ≡ true
      fresh2 = ap (λ (e : Agent). names e.fresh r) m1.record_is ∙ fresh1

      pub second_can : (second : ℕ) → MayDo (bounds_in k) u.view (FillStep r 1 second)
      second_can second = fill_may (bounds_in k) u.view.agent u.view.record_is r 1 second u.number (ready_calm u.view.record_is ready2) fresh2 took.low (omega arith)

      one : Only (event_by t.view.agent (Fill id 0 first) None ∷ []) (seat t) (seat u) × ((ids_of (bounds_in k) u.view).node r ≡ id)
      one = fill_only t u r 0 first n1 m1 fresh1

      module _ (v : Stage d k) (second n2 : ℕ) (m2 : Steps (FillStep r 1 second) u n2 v) (slot : ℕ) (free : IsFree (seat s).slots slot) where
        ready3 : IsBetweenCalls v.view.record_is
        ready3 = subst IsBetweenCalls (sym m2.record_is) ready2

        fresh3 : names v.view.record_is.fresh r ≡ true
        fresh3 = ap (λ (e : Agent). names e.fresh r) m2.record_is ∙ fresh2

        empty : slot_of v.view.record_is slot ≡ Empty
        empty = ap (λ (e : Agent). slot_of e slot) (m2.record_is ∙ m1.record_is)
            ∙ (ap (λ (z : List SlotUse). slice_index_or z slot Empty) took.got.same.slots
            ∙ empty_slot (ids_of (bounds_in k) s.view) s.view.record_is.slots slot (took.between.ready.published slot) free.empty)

        pub publish_can : MayDo (bounds_in k) v.view (Publish slot r)
        publish_can = publish_may (bounds_in k) v.view.agent v.view.record_is slot r v.number
            (ready_calm v.view.record_is ready3) took.low free.above free.below empty

        two : Only (event_by u.view.agent (Fill ((ids_of (bounds_in k) u.view).node r) 1 second) None ∷ []) (seat u) (seat v)
            × ((ids_of (bounds_in k) v.view).node r ≡ (ids_of (bounds_in k) u.view).node r)
        two = fill_only u v r 1 second n2 m2 fresh2

        module _ (w : Stage d k) (n3 : ℕ) (m3 : Steps (Publish slot r) v n3 w) where
          holds3 : w.view.record_is.slots ≡ slice_set v.view.record_is.slots slot (Held r)
          holds3 = ap (λ (e : Agent). e.slots) m3.record_is ∙ ap (λ (z : Bool). slice_set v.view.record_is.slots slot (cond z (Held r) (Published r))) fresh3

          three : SetsSlot [] slot (Some (record { row = r; id = (ids_of (bounds_in k) w.view).node r })) (seat v) (seat w)
          three = sets (asks (Publish slot r)) None v w n3 m3 slot (Held r) holds3 (ap (λ (e : Agent). e.fresh) m3.record_is)

          kept3 : (ids_of (bounds_in k) w.view).node r ≡ id
          kept3 = ids_keep (asks (Publish slot r)) None v w n3 m3 r (or_right (any_holds v.view.record_is.slots r) (names v.view.record_is.fresh r) fresh3)
              ∙ (two.1 ∙ one.1)

          abbrev fills : List (Event N)
          fills = record { agent = s.view.agent; act = Fill id 0 first; note = None } ∷ record {
            agent = s.view.agent;
            act = Fill id 1 second;
            note = None;
          } ∷ []

          both : Puts (seat t) fills (seat w)
          both = subst (λ (z : ℕ × ℕ × ℕ). Puts (seat t) (record { agent = z.0; act = Fill id 0 first; note = None } ∷ record {
            agent = z.1;
            act = Fill z.2 1
                second;
            note = None;
          } ∷ []) (seat w))
              (λ i. (agent i, (m1.agent ∙ agent) i, one.1 i))
              (Puts-trans (seat t) (seat u) (seat w) (event_by t.view.agent (Fill id 0 first) None ∷ [])
              (event_by u.view.agent (Fill ((ids_of (bounds_in k) u.view).node r) 1 second) None ∷ []) one.0.puts
              (Puts-trans (seat u) (seat v) (seat w) (event_by u.view.agent (Fill ((ids_of (bounds_in k) u.view).node r) 1 second) None ∷ []) [] two.0.puts
              three.puts))

          -- only the two fills change the node
          node : slice_get (run_heap (heap_numbers k) (seat w).seen).nodes id ≡ Some (given_node s.view.agent first second)
          node =
              let n = heap_numbers k in
              let own : events_by s.view.agent both.part ≡ fills = subst (λ a. events_by a both.part ≡ fills) agent both.own_is in
              let allowed : AllAllowed (d.may n) (seat t).seen both.part = allowed-right (d.may n) [] (seat t).seen both.part
              (subst (AllAllowed (d.may n) []) both.is w.each) in
              let at : IsOwnNode n s.view.agent id (seat t).seen
              (new_node s.view.agent) = record { there = took.got.node; own = record { mine = refl; unnamed = refl; unlinked = refl } } in
              let told = own_node_told n (d.holds n) (d.may n) (d.keeps n) (d.fits n) (d.moves_linked n) s.view.agent id (seat t).seen both.part
              (new_node s.view.agent) t.kept allowed at
              (ap (λ es. list_any (λ e. points_to e.act id) es) own) in
              let there = subst (λ es. IsOwnNode n s.view.agent id es (touched_by id (events_by s.view.agent both.part) (new_node s.view.agent)))
              (sym both.is) told in
              let is : touched_by id (events_by s.view.agent both.part) (new_node s.view.agent) ≡ given_node s.view.agent first second =
              ap (λ es. touched_by id es (new_node s.view.agent)) own
              ∙ (filled N s.view.agent id 1 second (touched_by {N = N} id (record { agent = s.view.agent; act = Fill id 0 first; note = None } ∷ [])
              (new_node s.view.agent))
              ∙ ap (with_value 1 second) (filled N s.view.agent id 0 first (new_node s.view.agent))) in
              subst (λ x. slice_get (run_heap n (seat w).seen).nodes id ≡ Some x) is there.there

          gives : (h : Hold) → h ≡ record { row = r; slot = slot } → Gives (heap_numbers k) slot first second (seat s) h (seat w)
          gives h e = subst (λ (z : Hold). Gives (heap_numbers k) slot first second (seat s) z (seat w)) (sym e) record {
            id = id;
            new = took.got.new;
            slot_is = refl;
            slots = three.slots ∙ (λ i. slice_set ((two.0.slots ∙ (one.0.slots ∙ took.got.slots)) i) slot (Some (record { row = r; id = kept3 i })));
            fresh = three.fresh ∙ (two.0.fresh ∙ (one.0.fresh ∙ ap (option_map (ids_of (bounds_in k) t.view).node) took.got.same.fresh));
            puts = Puts-trans (seat s) (seat t) (seat w) (event_by s.view.agent Give None ∷ []) fills took.got.puts both;
            node = node;
          }

          ready4 : IsBetweenCalls w.view.record_is
          ready4 =
              let slots = ap (λ (z : Bool). slice_set v.view.record_is.slots slot (cond z (Held r) (Published r))) fresh3 in
              held_ready v.view.record_is w.view.record_is slot r free.above ready3
              (same_by (record v.view.record_is { slots = slice_set v.view.record_is.slots slot (Held r) }) _ w.view.record_is m3.record_is
              (record { enrolled = refl; slots = slots; fresh = refl; due = refl; inc = refl; dec = refl; doom = refl; scan = refl }))

          -- no link was made to the node
          gives_between : Between w
          gives_between =
              let g = gives (record { row = r; slot = slot }) refl in
              record {
                ready = ready4;
                untouched = λ i e.
                    let same : Some g.id ≡ Some i = sym g.fresh ∙ e in
                    let is : g.id ≡ i = cc in
                    subst (λ (z : ℕ × ℕ). IsUntouched z.0 (run_heap (heap_numbers k) (seat w).seen) z.1) (λ x. (sym g.puts.agent x, is x))
                    (record { node = given_node s.view.agent first second; there = g.node; mine = refl; unnamed = refl; unlinked = refl });
              }

          filled_later : IsPrefix t.view.journal w.view.journal
          filled_later = (goes_on t.view.journal u.view.journal w.view.journal (done_later _ _ _ _ (done_one (asks (FillStep r 0 first)) None t u n1 m1))
              (goes_on u.view.journal v.view.journal w.view.journal (done_later _ _ _ _ (done_one (asks (FillStep r 1 second)) None u v n2 m2))
              (done_later _ _ _ _ (done_one (asks (Publish slot r)) None v w n3 m3))))

          gives_leaves : LeavesNothing s.view.agent s.view.journal w.view.journal
          gives_leaves =
              let filled_both = leaves_then t.view.agent t.view.journal u.view.journal v.view.journal (leaves_by (asks (FillStep r 0 first)) None t u n1 m1 tt)
              (subst (λ a. LeavesNothing a u.view.journal v.view.journal) m1.agent (leaves_by (asks (FillStep r 1 second)) None u v n2 m2 tt)) in
              let both = leaves_then t.view.agent t.view.journal v.view.journal w.view.journal filled_both
              (subst (λ a. LeavesNothing a v.view.journal w.view.journal) (m2.agent ∙ m1.agent) (leaves_by (asks (Publish slot r)) None v w n3 m3 tt)) in
              leaves_then s.view.agent s.view.journal t.view.journal w.view.journal took.got.leaves
              (subst (λ a. LeavesNothing a t.view.journal w.view.journal) agent both)

          pub gave : Gave s t r slot first second w
          gave = record { gives = gives; ends = record { between = gives_between; leaves = gives_leaves }; filled = filled_later }
