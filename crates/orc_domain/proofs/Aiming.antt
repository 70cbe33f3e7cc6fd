-- A link of the fresh row is set, and what that leaves pending.
use Rattle.std.proofs.Common.{Bool, List, None, Option, Some, [], ap, arith, cond, false, refl, subst, suc, sym, true, zero, ℕ, ⊎_elim, ◌++◌, ◌<◌, ◌∙◌, ◌≡◌, ◌∷◌}
use Rattle.std.proofs.lemmas.Bool.{lt-ltb, ne_eqb, or_right}
use Rattle.std.specs.Option.{option_map}
use Rattle.std.specs.Prelude.{if◌then◌else◌, length, nat_lt, ◌/◌, ◌&&◌, ◌||◌}
use Rattle.orc_core.proofs.Within.{and_both}
use Rattle.orc_core.specs.Allowed.{may_place, may_target}
use Rattle.orc_core.specs.Machine.{record_at, word_in}
use Rattle.orc_core.specs.RecordParts.{any_holds, names, same_target, slot_of}
use Rattle.orc_core.specs.declared.ops.Op.TheVariants.{LinkStore}
use Rattle.orc_core.specs.declared.records.Agent.{Agent}
use Rattle.orc_heap.specs.Acts.{aim_act}
use Rattle.orc_heap.proofs.Calls.{Only-trans}
use Rattle.orc_heap.specs.Journals.{event_by, names_node, points_to}
use Rattle.orc_heap.specs.OwnEvents.{Only}
use Rattle.orc_heap.specs.declared.discipline.Discipline as discipline
use Rattle.orc_machine_board.proofs.Licences.{has_either, same_target as same_node}
use Rattle.orc_machine_board.specs.Holding.{HasRow, HasTarget}
use Rattle.orc_machine_board.specs.Kinds.{asks}
use Rattle.orc_machine_board.specs.Licences.{ids_of}
use Rattle.orc_machine_board.specs.Rules.{bounds_in, heap_numbers, run_of, step_of, without_mark}
use Rattle.orc_machine_board.specs.declared.machine.MachineShape.{MachineShape}
use Rattle.orc_machine_board.specs.declared.machine.Request.{Request}
use Rattle.orc_projection.proofs.Links.{names-some}
use Rattle.orc_projection.specs.Projection.{events_of, present_ids}
use Rattle.orc_domain.proofs.Filling.{has_is_out}
use Rattle.orc_domain.proofs.Held.{has_low, mirrors}
use Rattle.orc_domain.proofs.Linking.{old_other}
use Rattle.orc_domain.proofs.Protecting.{true_false}
use Rattle.orc_domain.proofs.Seats.{before_keep, only, step_events}
use Rattle.orc_domain.proofs.Stages.{Between, Stage, Steps, before_record, seat, leaves_by, leaves_then}
use Rattle.orc_domain.proofs.Untouched.{still_untouched, untouched_at}
use Rattle.orc_domain.specs.Changes.{Becomes, IsCountable, Stores}
use Rattle.orc_machine_rest.specs.OwnSteps.{LeavesNothing}
use Rattle.orc_domain.specs.Passes.{IsFreshUntouched}
use Rattle.orc_sound.specs.declared.steps.Step.{Step}
use Rattle.orc_words.specs.Bounds.{Bounds}
use Rattle.orc_words.specs.Packed.{named}
use Rattle.orc_words.specs.Places.{link_at}

-- a pending target is the new one, or the old one
pending_is : (same : Bool) (o : Option ℕ) (r : ℕ) → cond same None o ≡ Some r → o ≡ Some r
pending_is true o r e = cc
pending_is false o r e = e

-- a store of each number has one event
aim_alone : {N : Type 0} (s : Step N) (number id : ℕ) (to : Option ℕ)
    → events_of s (Some (aim_act number id to)) ≡ event_by s.agent (aim_act number id to) None ∷ []
aim_alone s zero id to = refl
aim_alone s (suc number) id to = refl

-- which makes a link to its target alone
aims_at_none : (number row : ℕ) (to : Option ℕ) (id : ℕ) → names_node to id ≡ false → points_to (aim_act number row to) id ≡ false
aims_at_none zero row to id e = e
aims_at_none (suc number) row to id e = e

-- the place of a link that the row has
its_place : (b : Bounds) (r number : ℕ) (p : ℕ → Bool) → r < b.rows → number < b.links → p r ≡ true → may_place b (link_at number r) p ≡ true
its_place b r zero p low there e = let row = lt-ltb r b.rows low in λ i. row i && e i
its_place b r (suc number) p low there e =
    let row = lt-ltb r b.rows low in
    let two = lt-ltb 1 b.links (omega (arith, there)) in
    λ i. (row i && two i) && e i

-- a pass between calls stored a link of its fresh row
pub record StoresFresh {D N : Type 0} {d : discipline.Ghosts D N} {k : MachineShape N} (s t : Stage d k) (r number : ℕ) (to : Option ℕ) (n : ℕ) : Type 0
  where
    pub makes : Steps (LinkStore r (without_mark to) number) s n t
    pub is : Between s
    pub there : number < (bounds_in k).links
    pub fresh : names s.view.record_is.fresh r ≡ true
    pub target : may_target (bounds_in k) s.view.record_is to ≡ true
    pub other : (x : ℕ) → to ≡ Some x → names s.view.record_is.fresh x ≡ false

module _ {D N : Type 0} {d : discipline.Ghosts D N} {k : MachineShape N} {s t : Stage d k} {r number : ℕ} {to : Option ℕ} {n : ℕ}
    (a : StoresFresh s t r number to n) where
  abbrev b : Bounds
  b = bounds_in k

  abbrev q : Request
  q = asks (LinkStore r (without_mark to) number)

  abbrev j : List (Step N)
  j = s.view.journal ++ a.makes.met

  abbrev g : ℕ
  g = word_in (run_of (bounds_in k) (s.view.journal ++ a.makes.met)) (link_at number r)

  has_fresh : HasRow s.view.record_is r
  has_fresh = or_right (any_holds s.view.record_is.slots r) (names s.view.record_is.fresh r) a.fresh

  has_target : (o : Option ℕ) → may_target b s.view.record_is o ≡ true → HasTarget s.view.record_is o
  has_target None h = tt
  has_target (Some x) h = has_either (any_holds s.view.record_is.slots x) (names s.view.record_is.fresh x)
      (and_both (nat_lt x b.rows) (any_holds s.view.record_is.slots x) h).1

  event : step_events q None s t n a.makes
      ≡ event_by s.view.agent (aim_act number ((ids_of b s.view).node r) (option_map (ids_of b s.view).node to)) None ∷ []
  event =
      let p = present_ids b j in
      let mine : names (record_at (run_of b j) s.view.agent).fresh r ≡ true = ap (λ (e : Agent). names e.fresh r) (before_record q None s t n a.makes) ∙ a.fresh in
      let one = before_keep q None s t n a.makes r has_fresh in
      let two = same_node (ids_of b s.view) p s.view.record_is (before_keep q None s t n a.makes) to (has_target to a.target) in
      ap (λ (c : Bool). events_of (step_of s.view.agent q None) (if c then Some (aim_act number (p.node r) (option_map p.node to)) else None)) mine
      ∙ (aim_alone (step_of s.view.agent q None) number (p.node r) (option_map p.node to)
      ∙ (λ i. event_by s.view.agent (aim_act number (one i) (two i)) None ∷ []))

  stored : Stores b r number to s.view t.view
  stored = subst (λ es. Only es (seat s) (seat t)) event
      (only q None s t n a.makes (ap (λ (e : Agent). e.slots) a.makes.record_is) (ap (λ (e : Agent). e.fresh) a.makes.record_is))

  -- what is pending then, by the word that was there
  store_inc : t.view.record_is.inc ≡ cond (same_target (named (g / 2)) to) None to
  store_inc = ap (λ (e : Agent). e.inc) a.makes.record_is ∙ ap (λ o. cond (same_target (named (g / 2)) to) o to) a.is.ready.inc

  store_dec : t.view.record_is.dec ≡ cond (same_target (named (g / 2)) to) None (named (g / 2))
  store_dec = ap (λ (e : Agent). e.dec) a.makes.record_is ∙ ap (λ o. cond (same_target (named (g / 2)) to) o (named (g / 2))) a.is.ready.dec

  -- which is the one that the step answers
  pub store_up : t.view.record_is.inc ≡ cond (same_target (named (n / 2)) to) None to
  store_up = subst (λ x. t.view.record_is.inc ≡ cond (same_target (named (x / 2)) to) None to) (sym a.makes.answer) store_inc

  pub store_down : t.view.record_is.dec ≡ cond (same_target (named (n / 2)) to) None (named (n / 2))
  store_down = subst (λ x. t.view.record_is.dec ≡ cond (same_target (named (x / 2)) to) None (named (x / 2))) (sym a.makes.answer) store_dec

  -- what is pending isn't the fresh row: nothing was linked to that before
  pub store_countable : IsCountable t.view.record_is
  store_countable =
      let e0 = s.view.record_is in
      let same = same_target (named (g / 2)) to in
      let inc = store_inc in
      let dec = store_dec in
      let place = its_place b r number (λ x. names e0.fresh x) (has_low s r has_fresh) a.there a.fresh in
      record {
        enrolled = ap (λ (e : Agent). e.enrolled) a.makes.record_is ∙ a.is.ready.enrolled;
        eight = ap (λ (e : Agent). length e.slots) a.makes.record_is ∙ a.is.ready.eight;
        due = ap (λ (e : Agent). e.due) a.makes.record_is ∙ a.is.ready.due;
        zero = ap (λ (e : Agent). slot_of e 0) a.makes.record_is ∙ a.is.ready.zero;
        others = λ x h. ap (λ (e : Agent). names e.fresh x) a.makes.record_is ∙ ⊎_elim (λ e. a.other x (pending_is same to x (sym inc ∙ e)))
            (λ e. old_other q None s t n a.makes a.is (link_at number r) (λ y. names e0.fresh y) (λ y f. or_right (any_holds e0.slots y) (names e0.fresh y) f) place x
            (pending_is same (named (g / 2)) x (sym dec ∙ e))) h;
      }

  -- the target lies in another row, so that it is another node
  no_self : (o : Option ℕ) → to ≡ o → (id : ℕ) → id ≡ (ids_of b s.view).node r → names_node (option_map (ids_of b s.view).node o) id ≡ false
  no_self None e id same = refl
  no_self (Some x) e id same = ne_eqb ((ids_of b s.view).node x) id (λ one.
      let has : HasRow s.view.record_is x = subst (HasTarget s.view.record_is) e (has_target to a.target) in
      let row : x ≡ r = (mirrors s).apart x r (has_is_out s x has) (has_is_out s r has_fresh) (one ∙ same) in
      true_false (names s.view.record_is.fresh x) (subst (λ y. names s.view.record_is.fresh y ≡ true) (sym row) a.fresh) (a.other x e))

  -- after it was counted
  module _ (u : Stage d k) (z : Becomes (bounds_in k) (record t.view.record_is { inc = None; dec = None }) t.view u.view) where
    pub stores : Stores (bounds_in k) r number to s.view u.view
    stores = Only-trans (seat s) (seat t) (seat u) _ [] stored z.only

    pub stored_untouched : IsFreshUntouched (heap_numbers k) (seat u)
    stored_untouched id e =
        let p = ids_of b s.view in
        let was : (seat s).fresh ≡ Some id = sym stored.fresh ∙ (sym z.only.fresh ∙ e) in
        let its : Some (p.node r) ≡ Some id = sym (ap (option_map p.node) (names-some s.view.record_is.fresh r a.fresh)) ∙ was in
        let same : id ≡ p.node r = cc in
        still_untouched t u [] z.only.puts (λ y. refl) id
        (untouched_at s t _ stored.puts id (ap (λ y. y || false) (aims_at_none number (p.node r) (option_map p.node to) id (no_self to refl id same))) (a.is.untouched id was))

    pub stored_leaves : LeavesNothing s.view.agent s.view.journal u.view.journal
    stored_leaves = leaves_then s.view.agent s.view.journal t.view.journal u.view.journal
        (leaves_by (asks (LinkStore r (without_mark to) number)) None s t n a.makes tt)
        (subst (λ x. LeavesNothing x t.view.journal u.view.journal) a.makes.agent z.leaves)
