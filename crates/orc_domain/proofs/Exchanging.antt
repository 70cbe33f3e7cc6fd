-- One change of a link, and what it leaves pending.
use Rattle.std.proofs.Common.{Bool, List, None, Option, Some, [], ap, arith, cond, eq-eqb, eqb-true, false, refl, subst, sym, true, ℕ, ⊎_elim, ◌++◌, ◌∙◌, ◌≡◌, ◌≢◌, ◌∷◌}
use Rattle.std.proofs.lemmas.Bool.{eqb-false, ne_eqb, or_right}
use Rattle.std.specs.Option.{ForSome, option_map}
use Rattle.std.specs.Prelude.{if◌then◌else◌, length, map, nat_lt, not, ◌==◌, ◌&&◌, ◌||◌}
use Rattle.orc_core.proofs.Within.{and_both}
use Rattle.orc_core.specs.Allowed.{may_target}
use Rattle.orc_core.specs.Machine.{word_in}
use Rattle.orc_core.specs.RecordParts.{any_holds, names, same_target, slot_of}
use Rattle.orc_core.specs.declared.ops.Op.TheVariants.{LinkCas}
use Rattle.orc_core.specs.declared.records.Agent.{Agent}
use Rattle.orc_any_domain.specs.Names.{row_link, word_at}
use Rattle.orc_heap.proofs.Calls.{Puts-trans}
use Rattle.orc_heap.specs.Calls.{Swings, move_of, unless_node}
use Rattle.orc_heap.specs.Journals.{FitsAfter, event_by, names_node}
use Rattle.orc_heap.specs.OwnEvents.{Only, Puts}
use Rattle.orc_heap.specs.Seats.{HoldsPlace, HoldsWant, IsNotFresh, link_in, place_in}
use Rattle.orc_heap.specs.declared.discipline.Discipline as discipline
use Rattle.orc_heap.specs.declared.events.Act.TheVariants.{Miss, Move}
use Rattle.orc_heap.specs.declared.events.Link.{Link}
use Rattle.orc_heap.specs.declared.events.Place.{Place}
use Rattle.orc_heap.specs.declared.holds.At.{At}
use Rattle.orc_heap.specs.declared.holds.At.TheVariants.{Node as AtNode, Root as AtRoot, Side as AtSide}
use Rattle.orc_heap.specs.declared.holds.Want.{Want}
use Rattle.orc_heap.specs.declared.holds.Want.TheVariants.{Node as WantNode, Null as WantNull}
use Rattle.orc_machine_board.proofs.Events.{event_fits}
use Rattle.orc_machine_board.proofs.Licences.{has_either, same_link, same_place}
use Rattle.orc_machine_board.specs.Holding.{HasPlace, HasRow}
use Rattle.orc_machine_board.specs.Kinds.{asks}
use Rattle.orc_machine_board.specs.Laws.Steps.{in_range}
use Rattle.orc_machine_board.specs.Licences.{ids_of}
use Rattle.orc_machine_board.specs.Rules.{bounds_in, heap_numbers, run_of, step_of}
use Rattle.orc_machine_board.specs.Views.{Makes}
use Rattle.orc_machine_board.specs.declared.machine.MachineShape.{MachineShape}
use Rattle.orc_machine_board.specs.declared.machine.Request.{Request}
use Rattle.orc_projection.proofs.Links.{link_back}
use Rattle.orc_projection.specs.PresentIds.{node_link, node_place}
use Rattle.orc_projection.specs.Projection.{StoresUnmarked, events_of, exchange_act, present_ids, project}
use Rattle.orc_domain.proofs.Filling.{has_is_out}
use Rattle.orc_domain.proofs.Held.{hold_has, link_named, mirrors, place_named}
use Rattle.orc_domain.proofs.Linking.{cas_place, old_other, want_target}
use Rattle.orc_domain.proofs.Seats.{before_keep, ids_keep, only, puts, same_fresh, slots_keep, step_events}
use Rattle.orc_domain.proofs.Stages.{Between, Stage, its_step, leaves_by, leaves_then, seat, whole_lawful}
use Rattle.orc_domain.proofs.Testing.{want_has, want_low}
use Rattle.orc_domain.proofs.Untouched.{still_untouched, untouched_at}
use Rattle.orc_domain.specs.Changes.{Becomes, IsCountable}
use Rattle.orc_machine_rest.specs.OwnSteps.{LeavesNothing}
use Rattle.orc_domain.specs.Passes.{IsFreshUntouched}
use Rattle.orc_domain.specs.Seats.{slot_by}
use Rattle.orc_shared_words.specs.Lists.{Each}
use Rattle.orc_sound.specs.declared.steps.Step.{Step}
use Rattle.orc_words.specs.Bounds.{Bounds}
use Rattle.orc_words.specs.Packed.{link_of, link_word}
use Rattle.orc_words.specs.declared.packed.RowLink.{RowLink}
use Rattle.orc_words.specs.declared.place.Word.{Word}

was_true : (t : Bool) (n : ℕ) → n ≡ cond t 1 0 → n ≡ 1 → t ≡ true
was_true true n e one = refl
was_true false n e one = absurd (omega (arith, e, one))

was_false : (t : Bool) (n : ℕ) → n ≡ cond t 1 0 → n ≢ 1 → t ≡ false
was_false true n e ne = absurd (ne e)
was_false false n e ne = refl

-- the fresh row after a change
abbrev fresh_left : Option ℕ → Option ℕ → Option ℕ → Option ℕ
fresh_left from to fresh = cond (same_target from to) fresh (cond (same_target fresh to) None fresh)

left_less : (p q : Bool) (o : Option ℕ) (r : ℕ) → names (cond p o (cond q None o)) r ≡ true → names o r ≡ true
left_less true q o r h = h
left_less false true o r h = cc
left_less false false o r h = h

left_other : (p q : Bool) (o : Option ℕ) (r : ℕ) → names o r ≡ false → names (cond p o (cond q None o)) r ≡ false
left_other true q o r h = h
left_other false true o r h = refl
left_other false false o r h = h

-- as its node
fresh_after : (f : ℕ → ℕ) (from to fresh : Option ℕ) → ((q r : ℕ) → fresh ≡ Some q → to ≡ Some r → f q ≡ f r → q ≡ r)
    → ((r : ℕ) → from ≡ Some r → names fresh r ≡ false) → option_map f (fresh_left from to fresh) ≡ unless_node (option_map f fresh) (option_map f to)
fresh_after f from to None apart other = none_all (same_target from to) (same_target None to)
  where
    none_all : (s t : Bool) → option_map f (cond s None (cond t None None)) ≡ None
    none_all true t = refl
    none_all false true = refl
    none_all false false = refl
fresh_after f from None (Some q) apart other = some_all (same_target from None)
  where
    some_all : (s : Bool) → option_map f (cond s (Some q) (Some q)) ≡ Some (f q)
    some_all true = refl
    some_all false = refl
fresh_after f from (Some r) (Some q) apart other = cases (q == r) refl
  where
    not_from : q ≡ r → same_target from (Some r) ≡ false
    not_from e = from_cases from other
      where
        from_cases : (o : Option ℕ) → ((x : ℕ) → o ≡ Some x → names (Some q) x ≡ false) → same_target o (Some r) ≡ false
        from_cases None h = refl
        from_cases (Some x) h = let n = h x refl in grind arith

    cases : (t : Bool) → (q == r) ≡ t
        → option_map f (cond (same_target from (Some r)) (Some q) (cond t None (Some q))) ≡ (if f r == f q then None else Some (f q))
    cases true e = ap (λ s. option_map f (cond s (Some q) None)) (not_from (eqb-true q r e))
        ∙ ap (λ (t : Bool). if t then None else Some (f q)) (sym (eq-eqb (f r) (f q) (ap f (sym (eqb-true q r e)))))
    cases false e = kept (same_target from (Some r))
        ∙ ap (λ (t : Bool). if t then None else Some (f q)) (sym (ne_eqb (f r) (f q) (λ h. eqb-false q r e (apart q r refl refl (sym h)))))
      where
        kept : (s : Bool) → option_map f (cond s (Some q) (Some q)) ≡ Some (f q)
        kept true = refl
        kept false = refl

-- what is pending after a change isn't the fresh row
inc_other : (from to fresh : Option ℕ) (r : ℕ) → cond (same_target from to) None to ≡ Some r → names (fresh_left from to fresh) r ≡ false
inc_other from to fresh r e = cases (same_target from to) e
  where
    itself : (z q : ℕ) → z ≡ r → (t : Bool) → (q == z) ≡ t → names (cond t None (Some q)) r ≡ false
    itself z q same true e = refl
    itself z q same false e = ap (λ y. q == y) (sym same) ∙ e

    apart_from : (u fresh : Option ℕ) → u ≡ Some r → names (cond (same_target fresh u) None fresh) r ≡ false
    apart_from None fresh e = cc
    apart_from (Some z) None e = refl
    apart_from (Some z) (Some q) e = let same : z ≡ r = cc in itself z q same (q == z) refl

    cases : (s : Bool) → cond s None to ≡ Some r → names (cond s fresh (cond (same_target fresh to) None fresh)) r ≡ false
    cases true e = cc
    cases false e = apart_from to fresh e

dec_other : (from to fresh : Option ℕ) (r : ℕ) → ((q : ℕ) → from ≡ Some q → names fresh q ≡ false) → cond (same_target from to) None from ≡ Some r
    → names (fresh_left from to fresh) r ≡ false
dec_other from to fresh r other e = left_other (same_target from to) (same_target fresh to) fresh r (other r (it_is (same_target from to) e))
  where
    it_is : (s : Bool) → cond s None from ≡ Some r → from ≡ Some r
    it_is true e = cc
    it_is false e = e

unless_some : (o u : Option ℕ) (id : ℕ) → unless_node o u ≡ Some id → (o ≡ Some id) × (names_node u id ≡ false)
unless_some None u id e = cc
unless_some (Some i) None id e = (e, refl)
unless_some (Some i) (Some u) id e = cases (u == i) refl e
  where
    cases : (t : Bool) → (u == i) ≡ t → (if t then None else Some i) ≡ Some id → (Some i ≡ Some id) × ((u == id) ≡ false)
    cases true f e = cc
    cases false f e = let same : i ≡ id = cc in (e, subst (λ z. (u == z) ≡ false) same f)

target_held : (b : Bounds) (d : Agent) (o : Option ℕ) → may_target b d o ≡ true → ForSome o (λ r. any_holds d.slots r ≡ true)
target_held b d None h = λ r e. cc
target_held b d (Some r) h = λ q e. let same : r ≡ q = cc in subst (λ z. any_holds d.slots z ≡ true) same (and_both (nat_lt r b.rows) (any_holds d.slots r) h).1

-- a pass between calls tried to exchange the link at a place
pub record Exchanges {D N : Type 0} {d : discipline.Ghosts D N} {k : MachineShape N} (s t : Stage d k) (at : At) (from to : Want) (note : Option N) (n : ℕ) : Type 0
  where
    pub makes : Makes (bounds_in k) (asks (LinkCas (word_at at) (row_link from) (row_link to))) note s.view n t.view
    pub is : Between s
    pub there : HoldsPlace (heap_numbers k) (seat s).slots at
    pub other : IsNotFresh (seat s) at
    pub links : HoldsWant (seat s).slots from × HoldsWant (seat s).slots to

module _ {D N : Type 0} {d : discipline.Ghosts D N} {k : MachineShape N} {s t : Stage d k} {at : At} {from to : Want} {note : Option N} {n : ℕ}
    (a : Exchanges s t at from to note n) where
  abbrev b : Bounds
  b = bounds_in k

  abbrev f : RowLink
  f = row_link from

  abbrev l : RowLink
  l = row_link to

  abbrev w : Word
  w = word_at at

  abbrev q : Request
  q = asks (LinkCas (word_at at) (row_link from) (row_link to))

  abbrev j : List (Step N)
  j = s.view.journal ++ a.makes.met

  abbrev x : Place
  x = place_in (seat s).slots at

  abbrev g : ℕ
  g = word_in (run_of (bounds_in k) (s.view.journal ++ a.makes.met)) (word_at at)

  place_has : (p : At) → HoldsPlace (heap_numbers k) (seat s).slots p → HasPlace s.view.record_is (word_at p)
  place_has (AtRoot r) h = tt
  place_has (AtNode h) held = hold_has s h.now held
  place_has (AtSide h) held = hold_has s h.now held.0

  -- the links and the place, where the step stands
  place_there : node_place (present_ids b j) w ≡ Some x
  place_there = same_place (ids_of b s.view) (present_ids b j) s.view.record_is (before_keep q note s t n a.makes) w (place_has at a.there)
      ∙ place_named (ids_of b s.view) (heap_numbers k) s.view.record_is.slots at a.there

  from_there : node_link (present_ids b j) f ≡ link_in (seat s).slots from
  from_there = same_link (ids_of b s.view) (present_ids b j) s.view.record_is (before_keep q note s t n a.makes) f (want_has s from a.links.0)
      ∙ link_named (ids_of b s.view) s.view.record_is.slots from a.links.0

  to_there : node_link (present_ids b j) l ≡ link_in (seat s).slots to
  to_there = same_link (ids_of b s.view) (present_ids b j) s.view.record_is (before_keep q note s t n a.makes) l (want_has s to a.links.1)
      ∙ link_named (ids_of b s.view) s.view.record_is.slots to a.links.1

  -- the agent still holds the old target, which may have to be counted down
  pub old_held : ForSome (cond (same_target f.to l.to) None f.to) (λ r. any_holds t.view.record_is.slots r ≡ true)
  old_held = subst (λ (e : Agent). ForSome (cond (same_target f.to l.to) None f.to) (λ r. any_holds e.slots r ≡ true)) (sym a.makes.record_is)
      (cases (same_target f.to l.to))
    where
      cases : (c : Bool) → ForSome (cond c None f.to) (λ r. any_holds s.view.record_is.slots r ≡ true)
      cases true = λ r e. cc
      cases false = target_held (bounds_in k) s.view.record_is f.to (want_target s from a.links.0)

  -- the step as one that leaves nothing
  pub exchange_leaves : LeavesNothing s.view.agent s.view.journal t.view.journal
  exchange_leaves = leaves_by q note s t n a.makes tt

  -- the link was another one
  module _ (lost : n ≢ 1) where
    not_won : (g == link_word f) ≡ false
    not_won = was_false (g == link_word f) n a.makes.answer lost

    abbrev found : Link
    found = node_link (present_ids b j) (link_of g)

    event : step_events q note s t n a.makes ≡ event_by s.view.agent (Miss x (link_in (seat s).slots from) found) None ∷ []
    event =
        ap (λ (o : Option Place). events_of (step_of s.view.agent q note) (option_map (exchange_act (present_ids b j) g f l) o)) place_there
        ∙ (ap (λ (c : Bool). events_of (step_of s.view.agent q note)
        (Some (if c then Move x (node_link (present_ids b j) f) (node_link (present_ids b j) l) else Miss x (node_link (present_ids b j) f) found))) not_won
        ∙ ap (λ z. event_by s.view.agent (Miss x z found) None ∷ []) from_there)

    unchanged : Only (event_by s.view.agent (Miss x (link_in (seat s).slots from) found) None ∷ []) (seat s) (seat t)
    unchanged = subst (λ es. Only es (seat s) (seat t)) event (only q note s t n a.makes (ap (λ (e : Agent). e.slots) a.makes.record_is)
        (ap (λ (e : Agent). e.fresh) a.makes.record_is
        ∙ ap (λ (c : Bool). cond c (fresh_left f.to l.to s.view.record_is.fresh) s.view.record_is.fresh) not_won))

    pub misses : Swings at from to note (seat s) false (seat t)
    misses =
        let fits = event_fits b j (its_step q note s t n a.makes) (in_range k.shape) (whole_lawful q note s t n a.makes) (subst StoresUnmarked a.makes.journal t.unmarked) in
        let fit = subst (Each (FitsAfter (heap_numbers k) (project b j))) event fits in
        record { slots = unchanged.slots; fresh = unchanged.fresh; puts = record { found = found; other = fit.1; puts = unchanged.puts } }

    pub missed_untouched : IsFreshUntouched (heap_numbers k) (seat t)
    missed_untouched id e = still_untouched s t _ unchanged.puts (λ z. refl) id (a.is.untouched id (sym unchanged.fresh ∙ e))

  -- it was the wanted one
  module _ (won : n ≡ 1) where
    is_won : (g == link_word f) ≡ true
    is_won = was_true (g == link_word f) n a.makes.answer won

    moved : step_events q note s t n a.makes ≡ move_of (seat s) at from to note ∷ []
    moved =
        ap (λ (o : Option Place). events_of (step_of s.view.agent q note) (option_map (exchange_act (present_ids b j) g f l) o)) place_there
        ∙ (ap (λ (c : Bool). events_of (step_of s.view.agent q note) (Some (if c then Move x (node_link (present_ids b j) f) (node_link (present_ids b j) l)
        else Miss x (node_link (present_ids b j) f) (node_link (present_ids b j) (link_of g))))) is_won
        ∙ (λ i. event_by s.view.agent (Move x (from_there i) (to_there i)) note ∷ []))

    -- no link was made to the fresh row, so that it isn't the old target
    old_not_fresh : (r : ℕ) → f.to ≡ Some r → names s.view.record_is.fresh r ≡ false
    old_not_fresh r e =
        let e0 = s.view.record_is in
        let same : link_of g ≡ f = ap link_of (eqb-true g (link_word f) is_won) ∙ link_back f (want_low s from a.links.0) in
        let target : (link_of g).to ≡ Some r = ap (λ (z : RowLink). z.to) same ∙ e in
        old_other q note s t n a.makes a.is w (λ y. any_holds e0.slots y && not (names e0.fresh y))
        (λ y h. has_either (any_holds e0.slots y) (names e0.fresh y) (and_both (any_holds e0.slots y) (not (names e0.fresh y)) h).0)
        (cas_place s at a.there a.other) r target

    fresh_now : t.view.record_is.fresh ≡ fresh_left f.to l.to s.view.record_is.fresh
    fresh_now = ap (λ (e : Agent). e.fresh) a.makes.record_is
        ∙ ap (λ (c : Bool). cond c (fresh_left f.to l.to s.view.record_is.fresh) s.view.record_is.fresh) is_won

    -- rows that the agent has are different nodes
    apart : (y z : ℕ) → s.view.record_is.fresh ≡ Some y → l.to ≡ Some z → (ids_of b s.view).node y ≡ (ids_of b s.view).node z → y ≡ z
    apart y z e o same =
        let e0 = s.view.record_is in
        let one : HasRow e0 y = or_right (any_holds e0.slots y) (names e0.fresh y) (ap (λ u. names u y) e ∙ eq-eqb y y refl) in
        (mirrors s).apart y z (has_is_out s y one) (has_is_out s z (target_has to a.links.1 z o)) same
      where
        target_has : (v : Want) → HoldsWant (seat s).slots v → (z : ℕ) → (row_link v).to ≡ Some z → HasRow s.view.record_is z
        target_has (WantNull mark) h z e = cc
        target_has (WantNode h mark) held z e = let same : h.now.row ≡ z = cc in subst (HasRow s.view.record_is) same (hold_has s h.now held)

    pub swings : Swings at from to note (seat s) true (seat t)
    swings =
        let e0 = s.view.record_is in
        let p = ids_of b s.view in
        let r = ids_of b t.view in
        record {
          slots = ap (map (slot_by r)) (ap (λ (e : Agent). e.slots) a.makes.record_is) ∙ slots_keep q note s t n a.makes;
          fresh = ap (option_map r.node) fresh_now
              ∙ (same_fresh p r (fresh_left f.to l.to e0.fresh) (λ y h. ids_keep q note s t n a.makes y (or_right (any_holds e0.slots y) (names e0.fresh y)
              (left_less (same_target f.to l.to) (same_target e0.fresh l.to) e0.fresh y h)))
              ∙ (fresh_after p.node f.to l.to e0.fresh apart old_not_fresh
              ∙ ap (λ (z : Link). unless_node (seat s).fresh z.to) (link_named p e0.slots to a.links.1)));
          puts = subst (λ es. Puts (seat s) es (seat t)) moved (puts q note s t n a.makes);
        }

    -- what is pending then
    pub swung_up : t.view.record_is.inc ≡ cond (same_target f.to l.to) None l.to
    swung_up =
        let e0 = s.view.record_is in
        ap (λ (e : Agent). e.inc) a.makes.record_is ∙ (ap (λ (c : Bool). cond c (cond (same_target f.to l.to) e0.inc l.to) e0.inc) is_won
        ∙ ap (λ o. cond (same_target f.to l.to) o l.to) a.is.ready.inc)

    pub swung_down : t.view.record_is.dec ≡ cond (same_target f.to l.to) None f.to
    swung_down =
        let e0 = s.view.record_is in
        ap (λ (e : Agent). e.dec) a.makes.record_is ∙ (ap (λ (c : Bool). cond c (cond (same_target f.to l.to) e0.dec f.to) e0.dec) is_won
        ∙ ap (λ o. cond (same_target f.to l.to) o f.to) a.is.ready.dec)

    pub countable : IsCountable t.view.record_is
    countable =
        let e0 = s.view.record_is in
        let inc = swung_up in
        let dec = swung_down in
        record {
          enrolled = ap (λ (e : Agent). e.enrolled) a.makes.record_is ∙ a.is.ready.enrolled;
          eight = ap (λ (e : Agent). length e.slots) a.makes.record_is ∙ a.is.ready.eight;
          due = ap (λ (e : Agent). e.due) a.makes.record_is ∙ a.is.ready.due;
          zero = ap (λ (e : Agent). slot_of e 0) a.makes.record_is ∙ a.is.ready.zero;
          others = λ r h. ap (λ o. names o r) fresh_now ∙ ⊎_elim (λ e. inc_other f.to l.to e0.fresh r (sym inc ∙ e))
              (λ e. dec_other f.to l.to e0.fresh r old_not_fresh (sym dec ∙ e)) h;
        }

    -- after it was counted
    module _ (u : Stage d k) (z : Becomes (bounds_in k) (record t.view.record_is { inc = None; dec = None }) t.view u.view) where
      pub swung : Swings at from to note (seat s) true (seat u)
      swung = record {
        slots = z.only.slots ∙ swings.slots;
        fresh = z.only.fresh ∙ swings.fresh;
        puts = Puts-trans (seat s) (seat t) (seat u) (move_of (seat s) at from to note ∷ []) [] swings.puts z.only.puts;
      }

      pub swung_untouched : IsFreshUntouched (heap_numbers k) (seat u)
      swung_untouched id e =
          let was = unless_some (seat s).fresh (link_in (seat s).slots to).to id (sym swings.fresh ∙ (sym z.only.fresh ∙ e)) in
          still_untouched t u [] z.only.puts (λ y. refl) id
          (untouched_at s t (move_of (seat s) at from to note ∷ []) swings.puts id (ap (λ y. y || false) was.1) (a.is.untouched id was.0))

      pub swung_leaves : LeavesNothing s.view.agent s.view.journal u.view.journal
      swung_leaves = leaves_then s.view.agent s.view.journal t.view.journal u.view.journal exchange_leaves
          (subst (λ a. LeavesNothing a t.view.journal u.view.journal) a.makes.agent z.leaves)
