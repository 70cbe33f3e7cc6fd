-- The event of a step fits, and a plain one is allowed.
use Rattle.std.proofs.Common.{Bool, List, None, Option, Some, [], append-nil, false, refl, subst, sym, true, ℕ, ◌++◌, ◌≡◌, ◌∷◌}
use Rattle.std.proofs.lemmas.Bool.{false≢true}
use Rattle.std.specs.Option.{option_map}
use Rattle.std.specs.Prelude.{if◌then◌else◌, ◌==◌}
use Rattle.orc_core.specs.Machine.{new_machine, record_at, word_read}
use Rattle.orc_core.specs.declared.ops.Op.{Op}
use Rattle.orc_core.specs.declared.ops.Op.TheVariants.{Enroll, Fill as FillStep, GateTake, LinkCas, LinkLoad, LinkStore, Arm, Clear, CounterLoad, Dec, Free, GateLook, Hand, Inc, Publish, Read, SetRetired, SlotLook, TakeIn, Unretire, MoveOn, HandoverLook, DecHeld}
use Rattle.orc_core.specs.declared.records.Agent.{Agent}
use Rattle.orc_heap.proofs.Runs.{lawful-right}
use Rattle.orc_heap.specs.Heap.{HeapNumbers, new_heap}
use Rattle.orc_heap.specs.Journals.{FitsAfter, IsLawful, IsLawfulFrom, IsPlain as IsPlainEvent, run_heap}
use Rattle.orc_heap.specs.declared.events.Act.{Act}
use Rattle.orc_heap.specs.declared.events.Act.TheVariants.{Aim, AimSide, Fill, Give, Look, Miss, Move}
use Rattle.orc_heap.specs.declared.events.Event.{Event}
use Rattle.orc_heap.specs.declared.events.Place.{Place}
use Rattle.orc_projection.proofs.Mirrored.{project-append, projection_lawful}
use Rattle.orc_projection.specs.PresentIds.{PresentIds, no_ids, node_link, node_place}
use Rattle.orc_projection.specs.Mirror.{numbers_of}
use Rattle.orc_projection.specs.Projection.{StoresUnmarked, IsPlainOp, act_of, events_of, is_taken, load_act, note_on, present_ids, project}
use Rattle.orc_machine_board.specs.Kinds.{is_plain_kind}
use Rattle.orc_machine_board.specs.Laws.Steps.{counted_obeys, in_range}
use Rattle.orc_machine_board.specs.Rules.{RequestAllowed, bounds_in, counted_rules, events_after, heap_numbers, is_enroll, run_of, step_of}
use Rattle.orc_machine_board.specs.declared.machine.Request.{Request}
use Rattle.orc_machine_board.specs.declared.machine.MachineShape.{MachineShape}
use Rattle.orc_shared_words.specs.Lists.{Each}
use Rattle.orc_shared_words.specs.Steps.{IsAllowedLater}
use Rattle.orc_shared_words.specs.declared.journal.View.{View}
use Rattle.orc_sound.specs.Journals.{IsLawfulJournal, IsWanted}
use Rattle.orc_sound.specs.declared.steps.Step.{Step}
use Rattle.orc_words.specs.Bounds.{Bounds, IsShape}
use Rattle.orc_words.specs.Packed.{link_of, link_word}
use Rattle.orc_words.specs.declared.packed.RowLink.{RowLink}

module _ {N : Type 0} where
  -- there is one event or none
  one_event : (s : Step N) (o : Option Act) (P : Event N → Type 0)
      → (((act : Act) → o ≡ Some act → P (record { agent = s.agent; act = act; note = note_on act s.note }))) → Each P (events_of s o)
  one_event s None P h = tt
  one_event s (Some act) P h = h act refl

  each_from : (n : HeapNumbers) (past : List (Event N)) (s : Step N) (o : Option Act) → IsLawfulFrom (run_heap n past) (events_of s o)
      → Each (FitsAfter n past) (events_of s o)
  each_from n past s None l = tt
  each_from n past s (Some act) l = l.0

  -- the event of a lawful journal's last step fits
  pub event_fits : (b : Bounds) (j : List (Step N)) (s : Step N) → IsShape b → IsLawfulJournal (new_machine b) (j ++ s ∷ []) → StoresUnmarked (j ++ s ∷ [])
      → Each (FitsAfter (numbers_of b) (project b j)) (events_after b j s)
  event_fits b j s shape l p =
      let n = numbers_of b in
      let whole : IsLawful n (project b (j ++ s ∷ [])) = projection_lawful b (j ++ s ∷ []) shape l p in
      let parts : project b (j ++ s ∷ []) ≡ project b j ++ (events_after b j s ++ []) = project-append (new_machine b) no_ids j (s ∷ []) in
      let last : IsLawfulFrom (run_heap n (project b j)) (events_after b j s ++ []) = lawful-right (new_heap n) (project b j) (events_after b j s ++ [])
      (subst (IsLawful n) parts whole) in
      each_from n (project b j) s _ (subst (IsLawfulFrom (run_heap n (project b j))) (append-nil (events_after b j s)) last)

-- acts that are plain, and have no note where none is said
abbrev PlainAct : Option Act → Type 0
PlainAct None = Unit {0}
PlainAct (Some (Aim id to)) = ⊥
PlainAct (Some (AimSide id to)) = ⊥
PlainAct (Some (Move place from to)) = ⊥
PlainAct (Some act) = Unit {0}

plain_if : (t : Bool) (x y : Option Act) → PlainAct x → PlainAct y → PlainAct (if t then x else y)
plain_if true x y p q = p
plain_if false x y p q = q

plain_choice : (t : Bool) (x y : Act) → PlainAct (Some x) → PlainAct (Some y) → PlainAct (Some (if t then x else y))
plain_choice true x y p q = p
plain_choice false x y p q = q

plain_load : (p : PresentIds) (w : ℕ) (want : Option RowLink) (o : Option Place) → PlainAct (option_map (load_act p w want) o)
plain_load p w want None = tt
plain_load p w None (Some place) = tt
plain_load p w (Some k) (Some place) = plain_choice (w == link_word k) (Look place (node_link p (link_of w)))
    (Miss place (node_link p k) (node_link p (link_of w))) tt tt

plain_act : (p : PresentIds) (d : Agent) (w : ℕ) (op : Op) (want : Option RowLink) → is_plain_kind op ≡ true → PlainAct (act_of p d w op want)
plain_act p d w Enroll want e = tt
plain_act p d w (GateTake r) want e = plain_if (is_taken d w) (Some Give) None tt tt
plain_act p d w (FillStep r which v) want e = tt
plain_act p d w (LinkLoad place slot) want e = plain_load p w want (node_place p place)
plain_act p d w (LinkCas place from to) want e = absurd (false≢true e)
plain_act p d w (LinkStore r k number) want e = absurd (false≢true e)
plain_act p d w op want e = tt

module _ {N : Type 0} where
  plain_event : (s : Step N) (o : Option Act) → s.note ≡ None → PlainAct o → Each IsPlainEvent (events_of s o)
  plain_event s None e p = tt
  plain_event s (Some Give) e p = (refl, tt)
  plain_event s (Some (Fill id which v)) e p = (refl, tt)
  plain_event s (Some (Aim id to)) e p = absurd p
  plain_event s (Some (AimSide id to)) e p = absurd p
  plain_event s (Some (Look place link)) e p = (e, tt)
  plain_event s (Some (Move place from to)) e p = absurd p
  plain_event s (Some (Miss place wanted found)) e p = (refl, tt)

  each_both : {P Q R : Event N → Type 0} (es : List (Event N)) → ((e : Event N) → P e → Q e → R e) → Each P es → Each Q es → Each R es
  each_both [] f p q = tt
  each_both (e ∷ []) f p q = f e p q
  each_both (e ∷ d ∷ es) f p q = absurd p

  -- a plain kind's event is allowed in every later journal
  pub plain_licensed : (k : MachineShape N) (holds : List (Event N) → Type 0) (may : List (Event N) → Event N → Type 0)
      → ((past : List (Event N)) (e : Event N) → holds past → FitsAfter (heap_numbers k) past e → IsPlainEvent e → may past e)
      → (v : View (Step N) Agent) (a : ℕ) (q : Request) → is_plain_kind q.op ≡ true → RequestAllowed (bounds_in k) a q v.own
      → IsAllowedLater counted_rules k holds may v a q None
  plain_licensed k holds may law v a q plain can between none later =
      let b = bounds_in k in
      let j = v.seen ++ between in
      let s : Step N = step_of a q None in
      let ids : PresentIds = present_ids b j in
      let d : Agent = record_at (run_of b j) a in
      let w : ℕ = word_read (run_of b j) a q.op in
      let l = (counted_obeys k).lawful_next j a q None later.lawful (subst (RequestAllowed b a q) (sym later.mine) can) in
      each_both (events_after b j s) (λ e fits is. law (project b j) e later.kept fits is) (event_fits b j s (in_range k.shape) l.0 l.1)
      (plain_event s (act_of ids d w q.op q.want) refl (plain_act ids d w q.op q.want plain))

-- what a plain kind's step needs besides its permission
pub plain_allowed : (b : Bounds) (a : ℕ) (op : Op) (want : Option RowLink) (d : Agent) → is_plain_kind op ≡ true → IsWanted d op want
    → (IsPlainOp op) × (is_enroll op ≡ false)
plain_allowed b a Enroll want d e w = absurd (false≢true e)
plain_allowed b a (GateLook r) want d e w = (tt, refl)
plain_allowed b a (GateTake r) want d e w = (tt, refl)
plain_allowed b a (FillStep r x v) want d e w = (tt, refl)
plain_allowed b a (Read r x) want d e w = (tt, refl)
plain_allowed b a (LinkLoad p s) want d e w = (tt, refl)
plain_allowed b a (Publish x r) want d e w = (tt, refl)
plain_allowed b a (Clear x) want d e w = (tt, refl)
plain_allowed b a (Arm r) want d e w = (tt, refl)
plain_allowed b a (LinkCas p f t) want d e w = absurd (false≢true e)
plain_allowed b a (LinkStore r l number) want d e w = absurd (false≢true e)
plain_allowed b a (Inc r) want d e w = (tt, refl)
plain_allowed b a (Dec r) want d e w = (tt, refl)
plain_allowed b a (SetRetired r q) want d e w = (tt, refl)
plain_allowed b a (CounterLoad r h) want d e w = (tt, refl)
plain_allowed b a (Unretire r) want d e w = (tt, refl)
plain_allowed b a (SlotLook x) want d e w = (tt, refl)
plain_allowed b a (Hand x) want d e w = (tt, refl)
plain_allowed b a (TakeIn x) want d e w = (tt, refl)
plain_allowed b a (Free r) want d e w = (tt, refl)
plain_allowed b a (MoveOn x r) want d e w = (tt, refl)
plain_allowed b a (HandoverLook x) want d e w = (tt, refl)
plain_allowed b a (DecHeld r) want d e w = (tt, refl)
