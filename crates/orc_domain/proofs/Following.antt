-- A link that is followed: a load, a step by which a slot comes to name its target, and a load with that slot.
use Rattle.std.proofs.Common.{Bool, List, None, Option, Some, [], ap, append_assoc, arith, false, get_or-set_same, length, refl, subst, sym, true, ℕ, ◌++◌, ◌<◌, ◌∙◌, ◌≡◌, ◌≢◌, ◌∷◌}
use Rattle.std.specs.List.{list_any}
use Rattle.std.specs.Option.{option_map}
use Rattle.std.specs.Prelude.{cond, slice_get, slice_index_or, slice_set, ◌||◌}
use Rattle.std.proofs.lemmas.Bool.{or_right}
use Rattle.orc_core.specs.After.{after, promoted}
use Rattle.orc_core.specs.Allowed.{may_place}
use Rattle.orc_core.specs.Machine.{new_machine, record_at, word_in, word_read}
use Rattle.orc_core.specs.RecordParts.{any_holds, holds_fresh, is_empty, names, slot_of}
use Rattle.orc_core.specs.declared.ops.Op.{Op}
use Rattle.orc_core.specs.declared.ops.Op.TheVariants.{Clear, LinkLoad, MoveOn, Publish, TakeIn}
use Rattle.orc_core.specs.declared.records.Agent.{Agent}
use Rattle.orc_core.specs.declared.records.SlotUse.{SlotUse}
use Rattle.orc_core.specs.declared.records.SlotUse.TheVariants.{Empty, Held, Published}
use Rattle.orc_heap.proofs.Calls.{Puts-trans}
use Rattle.orc_heap.proofs.Stays.{allowed-left, allowed-right}
use Rattle.orc_heap.specs.Allowed.{AllAllowed}
use Rattle.orc_heap.specs.Heap.{Node}
use Rattle.orc_heap.specs.Journals.{event_by, points_to, run_heap}
use Rattle.orc_heap.specs.OwnEvents.{Only, Puts}
use Rattle.orc_heap.specs.Seats.{IsUntouched}
use Rattle.orc_heap.specs.Slots.{SlotNode}
use Rattle.orc_heap.specs.declared.discipline.Discipline as discipline
use Rattle.orc_heap.specs.declared.events.Act.TheVariants.{Look}
use Rattle.orc_heap.specs.declared.events.Event.{Event}
use Rattle.orc_heap.specs.declared.events.Link.{Link}
use Rattle.orc_heap.specs.declared.events.Place.{Place}
use Rattle.orc_machine_board.proofs.Licences.{load_has, same_place, signed}
use Rattle.orc_machine_board.specs.Holding.{HasRow}
use Rattle.orc_machine_board.specs.Kinds.{MayDo, asks}
use Rattle.orc_machine_board.specs.Laws.Steps.{bounds_run, counted_obeys, in_range}
use Rattle.orc_machine_board.specs.Licences.{ids_of}
use Rattle.orc_machine_board.specs.Rules.{bounds_in, counted_rules, events_after, heap_numbers, run_of, step_of}
use Rattle.orc_machine_board.specs.declared.machine.MachineShape.{MachineShape}
use Rattle.orc_projection.proofs.Links.{names-some}
use Rattle.orc_projection.proofs.OneRow.{two_links}
use Rattle.orc_projection.specs.PresentIds.{PresentIds, node_link, node_place}
use Rattle.orc_projection.specs.Projection.{act_of, events_of, present_ids, project}
use Rattle.orc_projection.specs.Taken.{LinksOut}
use Rattle.orc_domain.proofs.Loading.{found_out, ids_same, load_may, look_event, looks_at}
use Rattle.orc_domain.proofs.LeftParts.{same_by}
use Rattle.orc_domain.proofs.Protecting.{either_way, held_ready, promoted_fresh, promoted_full, reload_may, same_then, target_named, true_false, word_row}
use Rattle.orc_domain.proofs.Seats.{before_keep, ids_keep, ready_calm, sets}
use Rattle.orc_domain.proofs.Setting.{clear_may, set_twice}
use Rattle.orc_machine_rest.proofs.TakenIn.{done_then}
use Rattle.orc_domain.proofs.Ending.{Ends}
use Rattle.orc_domain.proofs.Stages.{Between, Stage, Steps, before_lawful, before_out, before_unmarked, done_one, seat}
use Rattle.orc_domain.proofs.Untouched.{still_between, untouched_more}
use Rattle.orc_domain.specs.Calls.{SameParts, Unlocks}
use Rattle.orc_machine_rest.specs.OwnSteps.{HasDone, LeavesNothing, TakesInCleared}
use Rattle.orc_domain.specs.Seats.{IsCalm, SetsSlot, slot_by}
use Rattle.orc_shared_words.proofs.Events.{others_add}
use Rattle.orc_sound.specs.Journals.{IsLawfulJournal}
use Rattle.orc_sound.specs.declared.steps.Step.{Step}
use Rattle.orc_words.specs.Bounds.{Bounds}
use Rattle.orc_words.specs.Packed.{link_of, link_word}
use Rattle.orc_words.specs.declared.packed.RowLink.{RowLink}
use Rattle.orc_words.specs.declared.place.Word.{Word}

-- a kind without an event, by which the slot comes to name the row
pub record Names (op : Op) (slot r : ℕ) : Type 0 where
  pub record_is : (e : Agent) (n : ℕ) → after op e n ≡ record e { slots = slice_set e.slots slot (cond (names e.fresh r) (Held r) (Published r)) }
  pub no_act : (p : PresentIds) (e : Agent) (n : ℕ) (want : Option RowLink) → act_of p e n op want ≡ None
  pub clears_none : (ops : List Op) → TakesInCleared ops → TakesInCleared (op ∷ ops)

pub publish_names : (slot r : ℕ) → Names (Publish slot r) slot r
publish_names slot r = record { record_is = λ e n. refl; no_act = λ p e n want. refl; clears_none = λ ops in_order. in_order }

pub move_names : (slot r : ℕ) → Names (MoveOn slot r) slot r
move_names slot r = record { record_is = λ e n. refl; no_act = λ p e n want. refl; clears_none = λ ops in_order. in_order }

module _ {D N : Type 0} {d : discipline.Ghosts D N} {k : MachineShape N} where
  -- between calls, a load of the link at this place found this one
  pub record Loaded (s : Stage d k) (x : Place) (w : Word) (one : RowLink) (t : Stage d k) : Type 0 where
    pub between : Between s
    pub place : may_place (bounds_in k) w (λ q. any_holds s.view.record_is.slots q || names s.view.record_is.fresh q) ≡ true
    pub there : node_place (ids_of (bounds_in k) s.view) w ≡ Some x
    pub made : Steps (LinkLoad w None) s (link_word one) t
    pub is : link_of (link_word one) ≡ one

  -- then this slot came to name a row, and the place may still be read
  pub record Named (s t : Stage d k) (w : Word) (slot r : ℕ) (u : Stage d k) : Type 0 where
    pub above : 0 < slot
    pub below : slot < 8
    pub op : Op
    pub its : Names op slot r
    pub number : ℕ
    pub made : Steps op t number u
    pub still : may_place (bounds_in k) w (λ q. any_holds (slice_set s.view.record_is.slots slot (Published r)) q || names s.view.record_is.fresh q) ≡ true

  -- and a load with the slot found this link
  pub record Again (u : Stage d k) (w : Word) (slot : ℕ) (two : RowLink) (y : Stage d k) : Type 0 where
    pub made : Steps (LinkLoad w (Some slot)) u (link_word two) y
    pub is : link_of (link_word two) ≡ two

  pub load_can : (s : Stage d k) (w : Word) → Between s
      → may_place (bounds_in k) w (λ q. any_holds s.view.record_is.slots q || names s.view.record_is.fresh q) ≡ true
      → MayDo (bounds_in k) s.view (LinkLoad w None)
  load_can s w between place = load_may (bounds_in k) s.view.agent s.view.record_is w s.number (ready_calm s.view.record_is between.ready) place

module _ {D N : Type 0} {d : discipline.Ghosts D N} {k : MachineShape N} {s t : Stage d k} {x : Place} {w : Word} {one : RowLink} (l : Loaded s x w one t) where
  abbrev b : Bounds
  b = bounds_in k

  abbrev j1 : List (Step N)
  j1 = s.view.journal ++ l.made.met

  abbrev may_load : MayDo b s.view (LinkLoad w None)
  may_load = load_can s w l.between l.place

  pub first : Only (event_by s.view.agent (Look x (node_link (ids_of b t.view) one)) None ∷ []) (seat s) (seat t)
  first = subst (λ z. Only (event_by s.view.agent (Look x (node_link (ids_of b t.view) z)) None ∷ []) (seat s) (seat t)) l.is
      (looks_at s t w None (link_word one) l.made may_load x l.there refl)

  pub loaded_same : SameParts s.view.record_is t.view.record_is
  loaded_same = same_by s.view.record_is _ t.view.record_is l.made.record_is
      (record { enrolled = refl; slots = refl; fresh = refl; due = refl; inc = refl; dec = refl; doom = refl; scan = refl })

  pub done1 : HasDone s.view.agent (LinkLoad w None ∷ []) s.view.journal t.view.journal
  done1 = done_one (asks (LinkLoad w None)) None s t (link_word one) l.made

  -- the target, where the link has one
  module _ {r : ℕ} (to : one.to ≡ Some r) where
    out1 : LinksOut (run_of b j1) one
    out1 = subst (LinksOut (run_of b j1)) l.is (found_out s t w None None None (link_word one) l.made may_load tt)

    pub low : r < b.rows
    low = subst (λ (e : Bounds). r < e.rows) (bounds_run b j1) (out1 r to).0

    -- it isn't the fresh row, since a link was made to it
    pub not_fresh : names s.view.record_is.fresh r ≡ false
    not_fresh = either_way (names s.view.record_is.fresh r) (λ h.
        let q = asks (LinkLoad w None) in
        let n = heap_numbers k in
        let fresh : s.view.record_is.fresh ≡ Some r = names-some s.view.record_is.fresh r h in
        let id : ℕ = (ids_of b s.view).node r in
        let more = others_add counted_rules k (counted_obeys k) (signed b) s.view.agent s.view.journal l.made.met l.made.others in
        let all1 : AllAllowed (d.may n) [] (project b j1) = allowed-left (d.may n) [] (project b j1) _ (subst (AllAllowed (d.may n) [])
        (ap (project b) l.made.journal ∙ (counted_obeys k).project_next j1 (step_of s.view.agent q None)) t.each) in
        let all2 = allowed-right (d.may n) [] (project b s.view.journal) more.0 (subst (AllAllowed (d.may n) []) more.2 all1) in
        let u1 : IsUntouched s.view.agent (run_heap n (project b j1)) id = subst (λ es. IsUntouched s.view.agent (run_heap n es) id) (sym more.2)
        (untouched_more d k s.view.agent id (project b s.view.journal) more.0 s.kept all2 (ap (λ es. list_any (λ e. points_to e.act id) es) more.1)
        (l.between.untouched id (ap (option_map (ids_of b s.view).node) fresh))) in
        let has : HasRow s.view.record_is r = or_right (any_holds s.view.record_is.slots r) (names s.view.record_is.fresh r) h in
        let same : (present_ids b j1).node r ≡ id = before_keep q None s t (link_word one) l.made r has in
        let target : (link_of (word_in (run_of b j1) w)).to ≡ Some r = ap (λ (z : RowLink). z.to) (sym (ap link_of l.made.answer) ∙ l.is) ∙ to in
        let named = target_named b j1 (in_range k.shape) (before_lawful q None s t (link_word one) l.made) (before_unmarked q None s t (link_word one) l.made)
        (λ y. any_holds s.view.record_is.slots y || names s.view.record_is.fresh y) (before_out q None s t (link_word one) l.made) w l.place r target in
        let at_id : slice_get (run_heap n (project b j1)).nodes id ≡ Some named.node = subst
        (λ z. slice_get (run_heap n (project b j1)).nodes z ≡ Some named.node)
        same named.there in
        let node : Some named.node ≡ Some u1.node = sym at_id ∙ u1.there in
        let one_node : named.node ≡ u1.node = cc in
        true_false named.node.named named.named (ap (λ (y : Node). y.named) one_node ∙ u1.unnamed))

    -- after the slot was named
    module _ {slot : ℕ} {u : Stage d k} (m : Named s t w slot r u) where
      record2 : u.view.record_is ≡ record t.view.record_is { slots = slice_set t.view.record_is.slots slot (Published r) }
      record2 = m.made.record_is
          ∙ (m.its.record_is t.view.record_is (word_read (run_of b (t.view.journal ++ m.made.met)) t.view.agent m.op)
          ∙ ap (λ (z : Bool). record t.view.record_is { slots = slice_set t.view.record_is.slots slot (cond z (Held r) (Published r)) })
          (ap (λ o. names o r) loaded_same.fresh ∙ not_fresh))

      named_same : SameParts (record s.view.record_is { slots = slice_set s.view.record_is.slots slot (Published r) }) u.view.record_is
      named_same = record {
        enrolled = ap (λ (e : Agent). e.enrolled) record2 ∙ loaded_same.enrolled;
        slots = ap (λ (e : Agent). e.slots) record2 ∙ ap (λ z. slice_set z slot (Published r)) loaded_same.slots;
        fresh = ap (λ (e : Agent). e.fresh) record2 ∙ loaded_same.fresh;
        due = ap (λ (e : Agent). e.due) record2 ∙ loaded_same.due;
        inc = ap (λ (e : Agent). e.inc) record2 ∙ loaded_same.inc;
        dec = ap (λ (e : Agent). e.dec) record2 ∙ loaded_same.dec;
        doom = ap (λ (e : Agent). e.doom) record2 ∙ loaded_same.doom;
        scan = ap (λ (e : Agent). e.scan) record2 ∙ loaded_same.scan;
      }

      second : SetsSlot [] slot None (seat t) (seat u)
      second =
          let j2 : List (Step N) = t.view.journal ++ m.made.met in
          let step : Step N = step_of t.view.agent (asks m.op) None in
          let none : events_after b j2 step ≡ [] = ap (events_of step)
          (m.its.no_act (present_ids b j2) (record_at (run_of b j2) t.view.agent) (word_read (run_of b j2) t.view.agent m.op) None) in
          subst (λ es. SetsSlot es slot None (seat t) (seat u)) none
          (sets (asks m.op) None t u m.number m.made slot (Published r) (ap (λ (e : Agent). e.slots) record2) (ap (λ (e : Agent). e.fresh) record2))

      agent2 : u.view.agent ≡ s.view.agent
      agent2 = m.made.agent ∙ l.made.agent

      done2 : HasDone s.view.agent (LinkLoad w None ∷ m.op ∷ []) s.view.journal u.view.journal
      done2 = done_then s.view.agent s.view.journal t.view.journal u.view.journal (LinkLoad w None ∷ []) (m.op ∷ []) done1
          (subst (λ a. HasDone a (m.op ∷ []) t.view.journal u.view.journal) l.made.agent (done_one (asks m.op) None t u m.number m.made))

      pub reload_can : MayDo b u.view (LinkLoad w (Some slot))
      reload_can = reload_may b u.view.agent s.view.record_is u.view.record_is w slot r u.number m.below l.between.ready m.still named_same

      -- after the second load
      module _ {two : RowLink} {y : Stage d k} (g : Again u w slot two y) where
        abbrev j3 : List (Step N)
        j3 = u.view.journal ++ g.made.met

        -- what the slot is now
        abbrev held_by : SlotUse
        held_by = promoted (Published r) (link_word two)

        long : slot < length s.view.record_is.slots
        long = let e = l.between.ready.eight in let z = m.below in omega (arith, e, z)

        slots3 : y.view.record_is.slots ≡ slice_set u.view.record_is.slots slot held_by
        slots3 = ap (λ (e : Agent). e.slots) g.made.record_is
            ∙ (λ i. slice_set u.view.record_is.slots slot (promoted ((ap (λ (z : List SlotUse). slice_index_or z slot Empty) named_same.slots
            ∙ get_or-set_same s.view.record_is.slots slot (Published r) Empty long) i) (sym g.made.answer i)))

        reloaded_same : SameParts (record s.view.record_is { slots = slice_set s.view.record_is.slots slot held_by }) y.view.record_is
        reloaded_same = record {
          enrolled = ap (λ (e : Agent). e.enrolled) g.made.record_is ∙ named_same.enrolled;
          slots = slots3 ∙ (ap (λ z. slice_set z slot held_by) named_same.slots ∙ set_twice s.view.record_is.slots slot (Published r) held_by);
          fresh = ap (λ (e : Agent). e.fresh) g.made.record_is ∙ named_same.fresh;
          due = ap (λ (e : Agent). e.due) g.made.record_is ∙ named_same.due;
          inc = ap (λ (e : Agent). e.inc) g.made.record_is ∙ named_same.inc;
          dec = ap (λ (e : Agent). e.dec) g.made.record_is ∙ named_same.dec;
          doom = ap (λ (e : Agent). e.doom) g.made.record_is ∙ named_same.doom;
          scan = ap (λ (e : Agent). e.scan) g.made.record_is ∙ named_same.scan;
        }

        there2 : node_place (ids_of b u.view) w ≡ Some x
        there2 =
            let has = load_has b s.view.agent s.view.record_is w None l.place in
            let stays1 : (q : ℕ) → HasRow s.view.record_is q
            → (ids_of b t.view).node q ≡ (ids_of b s.view).node q = ids_keep (asks (LinkLoad w None)) None s t (link_word one) l.made in
            let stays2 : (q : ℕ) → HasRow s.view.record_is q
            → (ids_of b u.view).node q ≡ (ids_of b t.view).node q = λ q h. ids_keep (asks m.op) None t u m.number m.made q
            (subst (λ (z : List SlotUse × Option ℕ). (any_holds z.0 q || names z.1 q) ≡ true) (λ i. (sym loaded_same.slots i, sym loaded_same.fresh i)) h) in
            same_place (ids_of b s.view) (ids_of b u.view) s.view.record_is (λ q h. stays2 q h ∙ stays1 q h) w has ∙ l.there

        -- what the slot shows now
        abbrev shown : Option SlotNode
        shown = slot_by (ids_of b y.view) held_by

        third : SetsSlot (event_by s.view.agent (Look x (node_link (ids_of b y.view) two)) None ∷ []) slot shown (seat u) (seat y)
        third =
            let set = sets (asks (LinkLoad w (Some slot))) None u y (link_word two) g.made slot held_by slots3 (ap (λ (e : Agent). e.fresh) g.made.record_is) in
            let event = look_event u y w (Some slot) (link_word two) g.made reload_can x there2 in
            subst (λ es. SetsSlot es slot shown (seat u) (seat y))
            (event ∙ (λ i. record { agent = agent2 i; act = Look x (node_link (ids_of b y.view) (g.is i)); note = None } ∷ [])) set

        -- the two Looks
        abbrev pub own : List (Event N)
        own = event_by s.view.agent (Look x (node_link (ids_of b t.view) one)) None ∷ event_by s.view.agent
            (Look x (node_link (ids_of b y.view) two)) None ∷ []

        pub follows : SetsSlot own slot shown (seat s) (seat y)
        follows = record {
          slots = third.slots
              ∙ (ap (λ z. slice_set z slot shown) second.slots
              ∙ (set_twice (seat t).slots slot None shown ∙ ap (λ z. slice_set z slot shown) first.slots));
          fresh = third.fresh ∙ (second.fresh ∙ first.fresh);
          puts = Puts-trans (seat s) (seat t) (seat y) (event_by s.view.agent (Look x (node_link (ids_of b t.view) one)) None ∷ [])
              (event_by s.view.agent (Look x (node_link (ids_of b y.view) two)) None ∷ []) first.puts
              (Puts-trans (seat t) (seat u) (seat y) [] (event_by s.view.agent (Look x (node_link (ids_of b y.view) two)) None ∷ []) second.puts third.puts);
        }

        pub not_null : (node_link (ids_of b t.view) one).to ≢ None
        not_null e = let some : Some ((ids_of b t.view).node r) ≡ None = sym (ap (option_map (ids_of b t.view).node) to) ∙ e in cc

        done3 : HasDone s.view.agent (LinkLoad w None ∷ m.op ∷ LinkLoad w (Some slot) ∷ []) s.view.journal y.view.journal
        done3 = done_then s.view.agent s.view.journal u.view.journal y.view.journal (LinkLoad w None ∷ m.op ∷ [])
            (LinkLoad w (Some slot) ∷ []) done2
            (subst (λ a. HasDone a (LinkLoad w (Some slot) ∷ []) u.view.journal y.view.journal) agent2
            (done_one (asks (LinkLoad w (Some slot))) None u y (link_word two) g.made))

        pub leaves3 : LeavesNothing s.view.agent s.view.journal y.view.journal
        leaves3 = record {
          ops = LinkLoad w None ∷ m.op ∷ LinkLoad w (Some slot) ∷ [];
          done = done3;
          taken_in = m.its.clears_none (LinkLoad w (Some slot) ∷ []) tt;
        }

        -- the same link twice: the slot holds its target
        module _ (same : two ≡ one) where
          held : held_by ≡ Held r
          held = ap (λ (z : Bool). cond z (Held r) (Published r)) (word_row two r (ap (λ (z : RowLink). z.to) same ∙ to))

          pub held_shown : shown ≡ Some (record { row = r; id = (ids_of b y.view).node r })
          held_shown = ap (slot_by (ids_of b y.view)) held

          -- the second Look, of the node in the row
          pub held_puts : Puts (seat s) (event_by s.view.agent (Look x (node_link (ids_of b t.view) one)) None ∷ event_by s.view.agent
              (Look x (record { to = Some ((ids_of b y.view).node r); mark = one.mark })) None ∷ []) (seat y)
          held_puts = subst (λ (z : Link). Puts (seat s) (event_by s.view.agent (Look x (node_link (ids_of b t.view) one)) None ∷ event_by s.view.agent
              (Look x z) None ∷ []) (seat y))
              (ap (node_link (ids_of b y.view)) same ∙ ap (λ (o : Option ℕ). record { to = o; mark = one.mark })
              (ap (option_map (ids_of b y.view).node) to)) follows.puts

          pub held_between : Between y
          held_between = still_between s y own l.between follows.puts follows.fresh (λ id. refl)
              (held_ready s.view.record_is y.view.record_is slot r m.above l.between.ready
              (subst (λ z. SameParts (record s.view.record_is { slots = slice_set s.view.record_is.slots slot z }) y.view.record_is) held reloaded_same))

          pub held_ends : Ends s y
          held_ends = record { between = held_between; leaves = leaves3 }

        pub calm3 : IsCalm y.view.record_is
        calm3 = let f = reloaded_same in let h = l.between.ready in
            record { enrolled = f.enrolled ∙ h.enrolled; due = f.due ∙ h.due; inc = f.inc ∙ h.inc; dec = f.dec ∙ h.dec }

        slot3 : slot_of y.view.record_is slot ≡ held_by
        slot3 = ap (λ (z : List SlotUse). slice_index_or z slot Empty) reloaded_same.slots ∙ get_or-set_same s.view.record_is.slots slot held_by Empty long

        pub clear_can : MayDo b y.view (Clear slot)
        clear_can = clear_may b y.view.agent slot y.view.record_is y.number m.below calm3 (ap is_empty slot3 ∙ promoted_full (link_word two) r)
            ((λ i. holds_fresh (reloaded_same.fresh i) (slot3 i)) ∙ promoted_fresh s.view.record_is.fresh (link_word two) r not_fresh)

        -- two links: they differ to callers, too
        pub links_apart : two ≢ one → node_link (ids_of b t.view) one ≢ node_link (ids_of b y.view) two
        links_apart other e =
            let x1 = step_of s.view.agent (asks (LinkLoad w None)) None in
            let x2 = step_of t.view.agent (asks m.op) None in
            let met3 : List (Step N) = (x1 ∷ m.made.met) ++ (x2 ∷ g.made.met) in
            let meanwhile : j3 ≡ j1 ++ met3 = ap (λ z. z ++ g.made.met) (m.made.journal ∙ ap (λ z. (z ++ m.made.met) ++ x2 ∷ []) l.made.journal)
            ∙ (append_assoc ((j1 ++ x1 ∷ []) ++ m.made.met) (x2 ∷ []) g.made.met
            ∙ (ap (λ z. z ++ x2 ∷ g.made.met) (append_assoc j1 (x1 ∷ []) m.made.met)
            ∙ append_assoc j1 (x1 ∷ m.made.met) (x2 ∷ g.made.met))) in
            let out3 : LinksOut (run_of b j3) two = subst (LinksOut (run_of b j3)) g.is
            (found_out u y w (Some slot) None None (link_word two) g.made reload_can tt) in
            let same1 : ids_of b t.view ≡ present_ids b j1 = ids_same s t w None None None (link_word one) l.made may_load tt in
            let same3 : ids_of b y.view ≡ present_ids b j3 = ids_same u y w (Some slot) None None (link_word two) g.made reload_can tt in
            let targets : option_map (present_ids b j1).node one.to ≡ option_map (present_ids b (j1 ++ met3)).node two.to =
            sym (ap (λ (p : PresentIds). option_map p.node one.to) same1)
            ∙ (ap (λ (z : Link). z.to) e
            ∙ (ap (λ (p : PresentIds). option_map p.node two.to) same3
            ∙ ap (λ z. option_map (present_ids b z).node two.to) meanwhile)) in
            let lawful3 = before_lawful (asks (LinkLoad w (Some slot))) None u y (link_word two) g.made in
            let to_same = two_links b j1 met3 one two (in_range k.shape) (subst (IsLawfulJournal (new_machine b)) meanwhile lawful3) out1
            (subst (λ z. LinksOut (run_of b z) two) meanwhile out3) targets in
            let mark_same : one.mark ≡ two.mark = ap (λ (z : Link). z.mark) e in
            other (λ i. record { to = sym to_same i; mark = sym mark_same i })

        -- the slot is cleared
        module _ (z : Stage d k) (un : Unlocks b slot y.view z.view) where
          pub lets_go : SetsSlot own slot None (seat s) (seat z)
          lets_go = record {
            slots = un.sets.slots ∙ (ap (λ v. slice_set v slot None) follows.slots ∙ set_twice (seat s).slots slot shown None);
            fresh = un.sets.fresh ∙ follows.fresh;
            puts = Puts-trans (seat s) (seat y) (seat z) own [] follows.puts un.sets.puts;
          }

          pub freed_same : SameParts (record s.view.record_is { slots = slice_set s.view.record_is.slots slot Empty }) z.view.record_is
          freed_same =
              let h = reloaded_same in
              let slots = ap (λ v. slice_set v slot Empty) h.slots ∙ set_twice s.view.record_is.slots slot held_by Empty in
              same_then (record s.view.record_is { slots = slice_set s.view.record_is.slots slot Empty })
              (record y.view.record_is { slots = slice_set y.view.record_is.slots slot Empty }) z.view.record_is
              (record { enrolled = h.enrolled; slots = slots; fresh = h.fresh; due = h.due; inc = h.inc; dec = h.dec; doom = h.doom; scan = h.scan }) un.same

          done5 : HasDone s.view.agent (LinkLoad w None ∷ m.op ∷ LinkLoad w (Some slot) ∷ Clear slot ∷ TakeIn slot ∷ []) s.view.journal z.view.journal
          done5 = done_then s.view.agent s.view.journal y.view.journal z.view.journal (LinkLoad w None ∷ m.op ∷ LinkLoad w (Some slot) ∷ [])
              (Clear slot ∷ TakeIn slot ∷ []) done3 (subst (λ a. HasDone a (Clear slot ∷ TakeIn slot ∷ []) y.view.journal z.view.journal)
              (g.made.agent ∙ agent2) un.done)

          pub leaves5 : LeavesNothing s.view.agent s.view.journal z.view.journal
          leaves5 = record {
            ops = LinkLoad w None ∷ m.op ∷ LinkLoad w (Some slot) ∷ Clear slot ∷ TakeIn slot ∷ [];
            done = done5;
            taken_in = m.its.clears_none (LinkLoad w (Some slot) ∷ Clear slot ∷ TakeIn slot ∷ []) (refl, tt);
          }
