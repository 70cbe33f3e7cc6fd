-- Moves of an agent's staging roots.
use Rattle.std.proofs.Common.{List, None, Option, Some, [], ap, arith, false, refl, subst, sym, true, ℕ, ◌++◌, ◌∙◌, ◌∷◌, ◌≡◌}
use Rattle.std.proofs.lemmas.Bool.{ne_eqb}
use Rattle.std.specs.List.{list_any, slice_get, slice_set}
use Rattle.orc_fault.specs.declared.Spent.{Spent}
use Rattle.orc_heap.proofs.ByAnswer.{unless_fresh, unless_same}
use Rattle.orc_heap.proofs.Calls.{Puts-stood, Puts-trans}
use Rattle.orc_heap.proofs.Fresh.{node_later}
use Rattle.orc_heap.proofs.Pieces.{InSlot, puts_released, slot_holds, slot_id}
use Rattle.orc_heap.proofs.Runs.{run_heap-snoc}
use Rattle.orc_heap.proofs.SingleActs.{root_moved, some_same}
use Rattle.orc_heap.proofs.Stays.{stays_but}
use Rattle.orc_heap.specs.Acts.{as_linked}
use Rattle.orc_heap.specs.Allowed.{AllAllowed, AllowedLater, events_by}
use Rattle.orc_heap.specs.Calls.{Gives, Misses, RefusesSwing, Releases, event_of, given_node, unless_node}
use Rattle.orc_heap.specs.Heap.{HeapNumbers, Node, link_to, null, shown}
use Rattle.orc_heap.specs.Journals.{run_heap}
use Rattle.orc_heap.specs.OwnEvents.{Only, Puts}
use Rattle.orc_heap.specs.Seats.{HoldsFresh, IsUntouched, Seat, heap_of}
use Rattle.orc_heap.specs.Slots.{Hold, Holds, IsFree, Slots, id_in}
use Rattle.orc_heap.specs.declared.events.Act.TheVariants.{Miss, Move}
use Rattle.orc_heap.specs.declared.events.Event.{Event}
use Rattle.orc_heap.specs.declared.events.Link.{Link}
use Rattle.orc_heap.specs.declared.events.Place.TheVariants.{Root}
use Rattle.orc_heap.specs.declared.holds.Want.{Want}
use Rattle.orc_heap.specs.declared.holds.Want.TheVariants.{Node as WantNode, Null as WantNull}
use Rattle.orc_pairs_rule.proofs.Coming.{stage_fresh}
use Rattle.orc_pairs_rule.proofs.Later.{part_later, staging_next}
use Rattle.orc_pairs_rule.specs.declared.pairs.PairsNote.{PairsNote}
use Rattle.orc_pairs_rule.specs.declared.pairs.PairsNote.TheVariants.{Stage, Unstage}
use Rattle.orc_pairs_rule.specs.Laws.Kept.{pairs_keeps, pairs_moves_linked}
use Rattle.orc_pairs_rule.specs.Laws.Nodes.{target_after}
use Rattle.orc_pairs_rule.specs.PairsDiscipline.{HasPart, IsStaging, PairsHolds, PairsMay}
use Rattle.orc_cell.specs.Publishes.{KeepsOther, MovesFreely, MovesStaging, Stages, Unstages}
use Rattle.orc_cell.proofs.Pieces.{Known}
use Rattle.orc_cell.proofs.Staging.{root_kept}
use Rattle.orc_cell.proofs.Swinging.{not_worn}

-- over events of others a staging root shows what it showed
pub root_later : (n : HeapNumbers) (agent root : ℕ) (seen more : List (Event PairsNote)) → IsStaging agent root → AllAllowed (PairsMay n) seen more
    → events_by agent more ≡ [] → shown (run_heap n (seen ++ more)) (Root root) ≡ shown (run_heap n seen) (Root root)
root_later n agent root seen more staging all none =
    stays_but (PairsMay n) agent (λ act. true) (λ es. shown (run_heap n es) (Root root) ≡ shown (run_heap n seen) (Root root))
    (λ es e x may away. staging_next n es e agent root staging may (λ same. let bad : true ≡ false = away same in cc) ∙ x) seen more refl all
    (ap (list_any (λ e. true)) none)

-- a Move of it isn't missed
pub never_missed : (n : HeapNumbers) (s t : Seat PairsNote) (root : ℕ) (wanted : Link) → IsStaging s.agent root → AllAllowed (PairsMay n) [] t.seen
    → shown (heap_of n s) (Root root) ≡ Some wanted → Misses (Root root) wanted s t → ⊥
never_missed n s t root wanted staging all at x =
    let m = Puts-stood (PairsMay n) s t [] (event_of s (Miss (Root root) wanted x.found) None) [] x.puts all in
    x.other (some_same (sym m.here.fits.0 ∙ (root_later n s.agent root s.seen m.before staging m.first m.own_before ∙ at)))

-- nor refused
pub never_refused : (n : HeapNumbers) (s t : Seat PairsNote) (from to : Want) (why : Spent) → MovesFreely s to → Known n t.seen → Only [] s t
    → ((i : ℕ) → t.fresh ≡ Some i → IsUntouched t.agent (heap_of n t) i) → RefusesSwing s.slots from to why t.seen → ⊥
never_refused n s t from (WantNull mark) why free k o untouched r = r
never_refused n s t from (WantNode h mark) why free k o untouched r =
    not_worn n t.agent t.seen (id_in s.slots h.now) k.holds.lawful (untouched (id_in s.slots h.now) (o.fresh ∙ free.fresh)) r.1.links

-- what it then shows
pub root_set : (n : HeapNumbers) (s t : Seat PairsNote) (root : ℕ) (from to : Link) (note : PairsNote) → IsStaging s.agent root
    → Puts s (event_of s (Move (Root root) from to) (Some note) ∷ []) t → AllAllowed (PairsMay n) [] t.seen → shown (heap_of n t) (Root root) ≡ Some to
root_set n s t root from to note staging p all =
    let e : Event PairsNote = event_of s (Move (Root root) from to) (Some note) in
    let m = Puts-stood (PairsMay n) s t [] e [] p all in
    let here : shown (run_heap n ((s.seen ++ m.before) ++ e ∷ [])) (Root root) ≡ Some to =
    ap (λ g. shown g (Root root)) (run_heap-snoc n (s.seen ++ m.before) e) ∙ root_moved s.agent root from to (run_heap n (s.seen ++ m.before)) m.here.fits.0 in
    ap (λ es. shown (run_heap n es) (Root root)) m.is
    ∙ (root_later n s.agent root ((s.seen ++ m.before) ++ e ∷ []) m.later staging m.last m.own_later ∙ here)

others_kept : (n : HeapNumbers) (s t : Seat PairsNote) (root : ℕ) (from to : Link) (note : PairsNote)
    → Puts s (event_of s (Move (Root root) from to) (Some note) ∷ []) t → AllAllowed (PairsMay n) [] t.seen → KeepsOther n root s t
others_kept n s t root from to note p all = λ r own ne. root_kept n s t _ r p all own (rw (ne_eqb root r (λ e. ne (sym e))) refl)

-- the part is once linked then
part_staged : (n : HeapNumbers) (a t : Seat PairsNote) (root id value second : ℕ) → Known n a.seen
    → slice_get (heap_of n a).nodes id ≡ Some (given_node a.agent value second)
    → Puts a (event_of a (Move (Root root) null (link_to id)) (Some Stage) ∷ []) t → AllAllowed (PairsMay n) [] t.seen → HasPart (heap_of n t) id value
part_staged n a t root id value second k there p all =
    let e : Event PairsNote = event_of a (Move (Root root) null (link_to id)) (Some Stage) in
    let m = Puts-stood (PairsMay n) a t [] e [] p all in
    let before = a.seen ++ m.before in
    let node : Node = given_node a.agent value second in
    let still = node_later n (PairsHolds n) (PairsMay n) (pairs_keeps n) (λ es e holds may. may.fits) (pairs_moves_linked n) a.agent id node a.seen m.before k.holds there
    refl refl refl (record { allowed = m.first; others = m.own_before }) in
    let part : HasPart (run_heap n (before ++ e ∷ [])) id value = record {
      node = as_linked node;
      there = ap (λ g. slice_get g.nodes id) (run_heap-snoc n before e) ∙ target_after a.agent root id null (link_to id) (run_heap n before) node refl still;
      linked = refl;
      part = record { value_is = refl; link_is = refl; side_is = refl };
    } in
    subst (λ es. HasPart (run_heap n es) id value) (sym m.is) (part_later n (before ++ e ∷ []) m.later m.last id value part)

-- a Give, and then the Stage
module _ (n : HeapNumbers) (slot root value : ℕ) (s a : Seat PairsNote) (h : Hold) (free : IsFree s.slots slot) (staging : IsStaging s.agent root)
    (empty : shown (heap_of n s) (Root root) ≡ Some null) (given : Gives n slot value 0 s h a) (k : Known n a.seen)
  where
    in_slot : InSlot s slot given.id h a
    in_slot = record { at = given.slot_is; slots = given.slots }

    id_is : id_in a.slots h ≡ given.id
    id_is = slot_id s a slot given.id h free in_slot

    there : slice_get (heap_of n a).nodes given.id ≡ Some (given_node a.agent value 0)
    there = given.node ∙ ap (λ (i : ℕ). Some (given_node i value 0)) (sym given.puts.agent)

    pub given_holds : Holds a.slots h
    given_holds = slot_holds s a slot given.id h free in_slot

    pub given_fresh : HoldsFresh a h
    given_fresh = record { held = given_holds; fresh = given.fresh ∙ ap (λ (i : ℕ). Some i) (sym id_is) }

    pub still_empty : shown (heap_of n a) (Root root) ≡ Some null
    still_empty = root_kept n s a _ root given.puts k.all staging refl ∙ empty

    pub own_root : IsStaging a.agent root
    own_root = subst (λ (i : ℕ). IsStaging i root) (sym given.puts.agent) staging

    pub may_stage : AllowedLater (PairsMay n) n a.agent a.seen (Root root) null (event_of a (Move (Root root) null (link_to (id_in a.slots h))) (Some Stage))
    may_stage =
        subst (λ (i : ℕ). AllowedLater (PairsMay n) n a.agent a.seen (Root root) null (event_of a (Move (Root root) null (link_to i)) (Some Stage))) (sym id_is)
        (stage_fresh n a.agent a.seen k.holds root given.id value (given_node a.agent value 0) own_root there refl refl refl
        (record { value_is = refl; link_is = refl; side_is = refl }))

    pub part_stages : (t : Seat PairsNote) → MovesStaging root null (link_to (id_in a.slots h)) Stage a t → AllAllowed (PairsMay n) [] t.seen
        → Stages n slot root value s h t
    part_stages t x all =
        let puts = subst (λ (i : ℕ). Puts a (event_of a (Move (Root root) null (link_to i)) (Some Stage) ∷ []) t) id_is x.puts in
        record {
          piece = record { own = _; puts = Puts-trans s a t _ _ given.puts puts; entries_are = refl; gives = omega arith };
          id = given.id;
          in_slot = record { at = given.slot_is; slots = x.slots ∙ given.slots };
          fresh = x.fresh ∙ (ap (λ (o : Option ℕ). unless_node o (Some (id_in a.slots h))) given_fresh.fresh ∙ unless_same (id_in a.slots h));
          part = part_staged n a t root given.id value 0 k there puts all;
          root_is = root_set n a t root null (link_to given.id) Stage own_root puts all;
          others = λ r own ne.
              others_kept n a t root null (link_to given.id) Stage puts all r (subst (λ (i : ℕ). IsStaging i r) (sym given.puts.agent) own) ne
              ∙ root_kept n s a _ r given.puts k.all own refl;
        }

-- an Unstage, and the release
pub part_unstages : (n : HeapNumbers) (root : ℕ) (h : Hold) (s a t : Seat PairsNote) (from : Link) → IsStaging s.agent root → s.fresh ≡ None
    → MovesStaging root from null Unstage s a → AllAllowed (PairsMay n) [] a.seen → Releases a h t → AllAllowed (PairsMay n) [] t.seen → Unstages n root h s t
part_unstages n root h s a t from staging none x all_a w all_t =
    let fresh_a : a.fresh ≡ None = x.fresh ∙ unless_fresh s.fresh None none in
    let own_a = subst (λ (i : ℕ). IsStaging i root) (sym x.puts.agent) staging in
    record {
      piece = record { own = _; puts = puts_released s a t _ x.puts w.puts; entries_are = refl; gives = omega arith };
      slots = w.slots ∙ ap (λ (z : Slots). slice_set z h.slot None) x.slots;
      fresh = w.fresh ∙ unless_fresh a.fresh (Some (id_in a.slots h)) fresh_a;
      root_is = root_kept n a t [] root w.puts all_t own_a refl ∙ root_set n s a root from null Unstage staging x.puts all_a;
      others = λ r own ne.
          root_kept n a t [] r w.puts all_t (subst (λ (i : ℕ). IsStaging i r) (sym x.puts.agent) own) refl
          ∙ others_kept n s a root from null Unstage x.puts all_a r own ne;
    }
