-- What licenses the steps on links.
use Rattle.std.proofs.Common.{Bool, List, None, Option, Some, [], ap, arith, eqb-true, false, refl, subst, suc, sym, true, zero, ℕ, ◌++◌, ◌+◌, ◌<◌, ◌∙◌, ◌≡◌}
use Rattle.std.specs.Option.{option_map}
use Rattle.std.specs.Prelude.{if◌then◌else◌, is_none, nat_lt, not, ◌&&◌, ◌==◌, ◌||◌}
use Rattle.orc_core.proofs.Within.{and_both, may_parts}
use Rattle.orc_core.specs.Allowed.{fits, may as may_make, may_change, may_place, may_target}
use Rattle.orc_core.specs.Machine.{record_at, word_read}
use Rattle.orc_core.specs.RecordParts.{any_holds, doom_at, is_empty, is_published, names, slot_of}
use Rattle.orc_core.specs.declared.ops.Op.TheVariants.{LinkCas, LinkLoad, LinkStore}
use Rattle.orc_core.specs.declared.records.Agent.{Agent}
use Rattle.orc_heap.proofs.Stays.{allowed-right}
use Rattle.orc_heap.specs.Acts.{aim_act}
use Rattle.orc_heap.specs.Allowed.{AllAllowed, Later}
use Rattle.orc_heap.specs.Heap.{HeapNumbers, shown}
use Rattle.orc_heap.specs.Journals.{FitsAfter, IsPlain as IsPlainEvent, run_heap}
use Rattle.orc_heap.specs.declared.events.Act.{Act}
use Rattle.orc_heap.specs.declared.events.Act.TheVariants.{Look, Miss, Move}
use Rattle.orc_heap.specs.declared.events.Event.{Event}
use Rattle.orc_heap.specs.declared.events.Link.{Link}
use Rattle.orc_heap.specs.declared.events.Place.{Place}
use Rattle.orc_history.specs.Journals.{own_of}
use Rattle.orc_projection.specs.PresentIds.{PresentIds, node_link, node_place}
use Rattle.orc_projection.specs.Projection.{act_of, events_of, exchange_act, load_act, present_ids, project}
use Rattle.orc_machine_board.proofs.Events.{event_fits, plain_licensed}
use Rattle.orc_machine_board.proofs.Holds.{has_out, node_stays, one_of}
use Rattle.orc_projection.proofs.Links.{link_back}
use Rattle.std.proofs.lemmas.Bool.{false≢true}
use Rattle.orc_sound.specs.Journals.{IsHeldOrNull}
use Rattle.orc_machine_board.specs.Holding.{HasRow, HasPlace, HasTarget}
use Rattle.orc_machine_board.specs.Kinds.{asks, wants}
use Rattle.orc_machine_board.specs.Laws.Steps.{bounds_run, counted_obeys, in_range}
use Rattle.orc_machine_board.specs.Licences.{AimAllowed, LookAllowed, MoveAllowed}
use Rattle.orc_machine_board.specs.Rules.{RequestAllowed, bounds_in, counted_rules, events_after, heap_numbers, run_of, step_of}
use Rattle.orc_machine_board.specs.Views.{Keeps, view_of}
use Rattle.orc_machine_board.specs.declared.machine.Request.{Request}
use Rattle.orc_machine_board.specs.declared.machine.MachineShape.{MachineShape}
use Rattle.orc_shared_words.proofs.Events.{AllBy, others_add}
use Rattle.orc_shared_words.specs.Lists.{Each}
use Rattle.orc_shared_words.specs.Steps.{LaterJournal, IsAllowedLater}
use Rattle.orc_shared_words.specs.declared.journal.View.{View}
use Rattle.orc_sound.specs.declared.steps.Step.{Step}
use Rattle.orc_words.specs.Bounds.{Bounds}
use Rattle.orc_words.specs.Packed.{link_of, link_word}
use Rattle.orc_words.specs.declared.packed.RowLink.{RowLink}
use Rattle.orc_words.specs.declared.place.Word.{Word}
use Rattle.orc_words.specs.declared.place.Word.TheVariants.{Root, Next, Side}

-- rows that keep their nodes: links and places that name them are the same
module _ (p q : PresentIds) (d : Agent) (stays : (r : ℕ) → HasRow d r → q.node r ≡ p.node r) where
  pub same_target : (to : Option ℕ) → HasTarget d to → option_map q.node to ≡ option_map p.node to
  same_target None h = refl
  same_target (Some r) h = ap Some (stays r h)

  pub same_link : (l : RowLink) → HasTarget d l.to → node_link q l ≡ node_link p l
  same_link l h = λ i. record { to = same_target l.to h i; mark = l.mark }

  pub same_place : (w : Word) → HasPlace d w → node_place q w ≡ node_place p w
  same_place (Next r) h = ap (λ id. node_place (record { given = 0; node = λ x. id }) (Next r)) (stays r h)
  same_place (Side r) h = ap (λ id. node_place (record { given = 0; node = λ x. id }) (Side r)) (stays r h)
  same_place w h = refl

-- what a change of a link may name, the agent has
pub has_either : (x y : Bool) → x ≡ true → (x || y) ≡ true
has_either true y e = refl
has_either false y e = grind arith

has_target : (b : Bounds) (d : Agent) (to : Option ℕ) → may_target b d to ≡ true → HasTarget d to
has_target b d None h = tt
has_target b d (Some r) h = let held = and_both (nat_lt r b.rows) (any_holds d.slots r) h in has_either (any_holds d.slots r) (names d.fresh r) held.1

has_place : (b : Bounds) (d : Agent) (w : Word) → may_place b w (λ r. any_holds d.slots r && not (names d.fresh r)) ≡ true → HasPlace d w
has_place b d (Next r) h =
    let there = and_both (nat_lt r b.rows) (any_holds d.slots r && not (names d.fresh r)) h in
    let held = and_both (any_holds d.slots r) (not (names d.fresh r)) there.1 in
    has_either (any_holds d.slots r) (names d.fresh r) held.0
has_place b d (Side r) h =
    let there = and_both (nat_lt r b.rows && nat_lt 1 b.links) (any_holds d.slots r && not (names d.fresh r)) h in
    let held = and_both (any_holds d.slots r) (not (names d.fresh r)) there.1 in
    has_either (any_holds d.slots r) (names d.fresh r) held.0
has_place b d (Root i) h = tt
has_place b d w h = tt

pub record HasLinks (d : Agent) (place : Word) (from to : RowLink) : Type 0 where
  pub place_is : HasPlace d place
  pub from_is : HasTarget d from.to
  pub to_is : HasTarget d to.to

pub cas_has : (b : Bounds) (a : ℕ) (d : Agent) (place : Word) (from to : RowLink) → may_make b 0 a (LinkCas place from to) d ≡ true → HasLinks d place from to
cas_has b a d place from to h =
    let is = (may_parts b 0 a (LinkCas place from to) d h).fits in
    let one = and_both (may_place b place (λ r. any_holds d.slots r && not (names d.fresh r)) && is_empty
    (slot_of d 0) && may_target b d from.to && may_target b d to.to) (may_change d (b.limit + 64) from.to to.to) is in
    let two = and_both (may_place b place (λ r. any_holds d.slots r && not (names d.fresh r)) && is_empty (slot_of d 0) && may_target b d from.to)
    (may_target b d to.to) one.0 in
    let three = and_both (may_place b place (λ r. any_holds d.slots r && not (names d.fresh r)) && is_empty (slot_of d 0)) (may_target b d from.to) two.0 in
    let four = and_both (may_place b place (λ r. any_holds d.slots r && not (names d.fresh r))) (is_empty (slot_of d 0)) three.0 in
    record { place_is = has_place b d place four.0; from_is = has_target b d from.to three.1; to_is = has_target b d to.to two.1 }

module _ {N : Type 0} where
  pub signed : (b : Bounds) (past : List (Step N)) (s : Step N) → AllBy s.agent (events_after b past s)
  signed b past s = by_one s (act_of (present_ids b past) (record_at (run_of b past) s.agent) (word_read (run_of b past) s.agent s.op) s.op s.want)
    where
      by_one : (s : Step N) (o : Option Act) → AllBy s.agent (events_of s o)
      by_one s None = tt
      by_one s (Some act) = (refl, tt)

  -- the events that the pass meets: of others, each allowed where it stands
  pub record Meets (may : List (Event N) → Event N → Type 0) (b : Bounds) (a : ℕ) (seen between : List (Step N)) : Type 0 where
    pub more : List (Event N)
    pub later : Later may a (project b seen) more
    pub is : project b (seen ++ between) ≡ project b seen ++ more

  pub meets : (k : MachineShape N) (holds : List (Event N) → Type 0) (may : List (Event N) → Event N → Type 0) (v : View (Step N) Agent) (a : ℕ)
      (between : List (Step N)) → own_of (λ (s : Step N). s.agent) a between ≡ []
      → LaterJournal counted_rules k holds may (v.seen ++ between) v a → Meets may (bounds_in k) a v.seen between
  meets k holds may v a between none later =
      let b = bounds_in k in
      let t = others_add counted_rules k (counted_obeys k) (signed b) a v.seen between none in
      record {
        more = t.0;
        later = record {
          allowed = allowed-right may [] (project b v.seen) t.0
              (subst (AllAllowed may []) t.2 later.each);
          others = t.1;
        };
        is = t.2;
      }

  -- what the agent has keeps its node
  pub stays_for : (k : MachineShape N) (holds : List (Event N) → Type 0) (may : List (Event N) → Event N → Type 0) (v : View (Step N) Agent) (a : ℕ)
      → a < (bounds_in k).agents → LaterJournal counted_rules k holds may v.seen v a
      → (between : List (Step N)) → own_of (λ (s : Step N). s.agent) a between ≡ [] → LaterJournal counted_rules k holds may (v.seen ++ between) v a
      → (r : ℕ) → HasRow v.own r → (present_ids (bounds_in k) (v.seen ++ between)).node r ≡ (present_ids (bounds_in k) v.seen).node r
  stays_for k holds may v a number now between none later r has = node_stays (bounds_in k) v.seen between a r (in_range k.shape) later.lawful.0 number none
      (subst (λ d. HasRow d r) (sym now.mine) has)

  module _ (n : HeapNumbers) (may : List (Event N) → Event N → Type 0) (past : List (Event N))
      (plain : (e : Event N) → FitsAfter n past e → IsPlainEvent e → may past e) (s : Step N) (q : PresentIds) (w : ℕ) where
    exchange_may : (from to : RowLink) (o : Option Place)
        → ((at : Place) → o ≡ Some at → shown (run_heap n past) at ≡ Some (node_link q from)
        → may past (record { agent = s.agent; act = Move at (node_link q from) (node_link q to); note = s.note }))
        → Each (FitsAfter n past) (events_of s (option_map (exchange_act q w from to) o))
        → Each (may past) (events_of s (option_map (exchange_act q w from to) o))
    exchange_may from to None h f = tt
    exchange_may from to (Some at) h f = choice (w == link_word from) f
      where
        move : Act
        move = Move at (node_link q from) (node_link q to)

        miss : Act
        miss = Miss at (node_link q from) (node_link q (link_of w))

        choice : (t : Bool) → Each (FitsAfter n past) (events_of s (Some (if t then move else miss)))
            → Each (may past) (events_of s (Some (if t then move else miss)))
        choice true f = h at refl f.0
        choice false f = plain _ f (refl, tt)

  pub cas_licensed : {k : MachineShape N} {holds : List (Event N) → Type 0} {may : List (Event N) → Event N → Type 0}
      → ((past : List (Event N)) (e : Event N) → holds past → FitsAfter (heap_numbers k) past e → IsPlainEvent e → may past e)
      → {v : View (Step N) Agent} {a : ℕ} → Keeps k holds may v a → (place : Word) (from to : RowLink) (note : Option N)
      → RequestAllowed (bounds_in k) a (asks (LinkCas place from to)) v.own → MoveAllowed may (bounds_in k) (view_of a v) place from to note
      → IsAllowedLater counted_rules k holds may v a (asks (LinkCas place from to)) note
  cas_licensed {k} {holds} {may} law {v} {a} kept place from to note can allowed between none later =
      let b = bounds_in k in
      let j = v.seen ++ between in
      let s : Step N = step_of a (asks (LinkCas place from to)) note in
      let l = (counted_obeys k).lawful_next j a (asks (LinkCas place from to)) note later.lawful
      (subst (RequestAllowed b a (asks (LinkCas place from to))) (sym later.mine) can) in
      let p : PresentIds = present_ids b v.seen in
      let q : PresentIds = present_ids b j in
      let w : ℕ = word_read (run_of b j) a (LinkCas place from to) in
      let has = cas_has b a v.own place from to can.may in
      let stays = stays_for k holds may v a kept.number kept.now between none later in
      let sp : node_place q place ≡ node_place p place = same_place p q v.own stays place has.place_is in
      let sf : node_link q from ≡ node_link p from = same_link p q v.own stays from has.from_is in
      let st : node_link q to ≡ node_link p to = same_link p q v.own stays to has.to_is in
      let met = meets k holds may v a between none later in
      exchange_may (heap_numbers k) may (project b j) (λ e. law (project b j) e later.kept) s q w from to (node_place q place)
      (λ at e shows. subst (λ (z : Link × Link). may (project b j) (record { agent = a; act = Move at z.0 z.1; note = note })) (λ i. (sym sf i, sym st i))
      (subst (λ l. may l (record { agent = a; act = Move at (node_link p from) (node_link p to); note = note })) (sym met.is)
      (allowed at (sym sp ∙ e) met.more met.later
      (subst (λ l. shown (run_heap (heap_numbers k) l) at ≡ Some (node_link p from)) met.is (shows ∙ ap Some sf)))))
      (event_fits b j s (in_range k.shape) l.0 l.1)

load_place : (b : Bounds) (d : Agent) (w : Word) → may_place b w (λ r. any_holds d.slots r || names d.fresh r) ≡ true → HasPlace d w
load_place b d (Next r) h = (and_both (nat_lt r b.rows) (any_holds d.slots r || names d.fresh r) h).1
load_place b d (Side r) h = (and_both (nat_lt r b.rows && nat_lt 1 b.links) (any_holds d.slots r || names d.fresh r) h).1
load_place b d (Root i) h = tt
load_place b d w h = tt

pub load_has : (b : Bounds) (a : ℕ) (d : Agent) (place : Word) (slot : Option ℕ) → fits b 0 a (LinkLoad place slot) d ≡ true → HasPlace d place
load_has b a d place None h = load_place b d place h
load_has b a d place (Some k) h =
    let one = and_both (may_place b place (λ r. any_holds d.slots r || names d.fresh r) && nat_lt k 8) (is_published (slot_of d k)) h in
    load_place b d place (and_both (may_place b place (λ r. any_holds d.slots r || names d.fresh r)) (nat_lt k 8) one.0).0

wanted_has : (d : Agent) (to : Option ℕ) → IsHeldOrNull d to → HasTarget d to
wanted_has d None h = tt
wanted_has d (Some r) h = has_either (any_holds d.slots r) (names d.fresh r) h

store_has : (b : Bounds) (a : ℕ) (d : Agent) (row number : ℕ) (link : RowLink) → fits b 0 a (LinkStore row link number) d ≡ true → HasTarget d link.to
store_has b a d row number link h =
    let fresh = names d.fresh row && may_target b d link.to && may_change d (b.limit + 64) None link.to in
    let doomed = doom_at d.doom row number && is_none link.to && not link.mark in
    let one = and_both (nat_lt row b.rows && nat_lt number b.links && is_empty (slot_of d 0)) (fresh || doomed) h in
    one_of fresh doomed (HasTarget d link.to) one.1
    (λ e. has_target b d link.to
    (and_both (names d.fresh row) (may_target b d link.to)
    (and_both (names d.fresh row && may_target b d link.to) (may_change d (b.limit + 64) None link.to) e).0).1)
    (λ e. none_has link.to (and_both (doom_at d.doom row number) (is_none link.to) (and_both (doom_at d.doom row number && is_none link.to) (not link.mark) e).0).1)
  where
    none_has : (to : Option ℕ) → is_none to ≡ true → HasTarget d to
    none_has None e = tt
    none_has (Some r) e = absurd (false≢true e)

module _ {N : Type 0} where
  module _ (n : HeapNumbers) (may : List (Event N) → Event N → Type 0) (past : List (Event N))
      (plain : (e : Event N) → FitsAfter n past e → IsPlainEvent e → may past e) (s : Step N) (q : PresentIds) (w : ℕ) where
    look_may : (link : RowLink) (o : Option Place)
        → ((at : Place) → o ≡ Some at → shown (run_heap n past) at ≡ Some (node_link q link)
        → may past (record { agent = s.agent; act = Look at (node_link q link); note = s.note }))
        → ((w == link_word link) ≡ true → node_link q (link_of w) ≡ node_link q link)
        → Each (FitsAfter n past) (events_of s (option_map (load_act q w (Some link)) o))
        → Each (may past) (events_of s (option_map (load_act q w (Some link)) o))
    look_may link None h same f = tt
    look_may link (Some at) h same f = choice (w == link_word link) refl f
      where
        look : Act
        look = Look at (node_link q (link_of w))

        miss : Act
        miss = Miss at (node_link q link) (node_link q (link_of w))

        choice : (t : Bool) → (w == link_word link) ≡ t → Each (FitsAfter n past) (events_of s (Some (if t then look else miss)))
            → Each (may past) (events_of s (Some (if t then look else miss)))
        choice true e f = subst (λ (l : Link). may past (record { agent = s.agent; act = Look at l; note = s.note })) (sym (same e))
            (h at refl (f ∙ ap Some (same e)))
        choice false e f = plain _ f (refl, tt)

    aim_may : (t : Bool) (number row : ℕ) (to : Option ℕ)
        → (t ≡ true → FitsAfter n past (record { agent = s.agent; act = aim_act number row to; note = None })
        → may past (record { agent = s.agent; act = aim_act number row to; note = None }))
        → Each (FitsAfter n past) (events_of s (if t then Some (aim_act number row to) else None))
        → Each (may past) (events_of s (if t then Some (aim_act number row to) else None))
    aim_may true zero row to h f = h refl f
    aim_may true (suc number) row to h f = h refl f
    aim_may false number row to h f = tt

  module _ {k : MachineShape N} {holds : List (Event N) → Type 0} {may : List (Event N) → Event N → Type 0}
      (law : (past : List (Event N)) (e : Event N) → holds past → FitsAfter (heap_numbers k) past e → IsPlainEvent e → may past e)
      {v : View (Step N) Agent} {a : ℕ} (kept : Keeps k holds may v a) where
    noted_licensed : (place : Word) (slot : Option ℕ) (link : RowLink) (note : Option N)
        → RequestAllowed (bounds_in k) a (wants (LinkLoad place slot) (Some link)) v.own → LookAllowed may (bounds_in k) (view_of a v) place link note
        → IsAllowedLater counted_rules k holds may v a (wants (LinkLoad place slot) (Some link)) note
    noted_licensed place slot link note can allowed between none later =
        let b = bounds_in k in
        let j = v.seen ++ between in
        let ask : Request = wants (LinkLoad place slot) (Some link) in
        let s : Step N = step_of a ask note in
        let l = (counted_obeys k).lawful_next j a ask note later.lawful (subst (RequestAllowed b a ask) (sym later.mine) can) in
        let p : PresentIds = present_ids b v.seen in
        let q : PresentIds = present_ids b j in
        let w : ℕ = word_read (run_of b j) a (LinkLoad place slot) in
        let target : HasTarget v.own link.to = wanted_has v.own link.to can.wanted in
        let stays = stays_for k holds may v a kept.number kept.now between none later in
        let sp : node_place q place ≡ node_place p place = same_place p q v.own stays place
        (load_has b a v.own place slot (may_parts b 0 a (LinkLoad place slot) v.own can.may).fits) in
        let sl : node_link q link ≡ node_link p link = same_link p q v.own stays link target in
        let met = meets k holds may v a between none later in
        let small : (r : ℕ) → link.to ≡ Some r → r < 65535 = λ r e.
        let out = has_out b j a r (in_range k.shape) later.lawful.0 kept.number (subst (λ d. HasRow d r) (sym later.mine) (subst (HasTarget v.own) e target)) in
        let under : r < b.rows = subst (λ (c : Bounds). r < c.rows) (bounds_run b j) out.0 in
        let few = k.shape.few_rows in
        omega arith in
        look_may (heap_numbers k) may (project b j) (λ e. law (project b j) e later.kept) s q w link (node_place q place)
        (λ at e shows. subst (λ (z : Link). may (project b j) (record { agent = a; act = Look at z; note = note })) (sym sl)
        (subst (λ l. may l (record { agent = a; act = Look at (node_link p link); note = note })) (sym met.is)
        (allowed at (sym sp ∙ e) met.more met.later
        (subst (λ l. shown (run_heap (heap_numbers k) l) at ≡ Some (node_link p link)) met.is (shows ∙ ap Some sl)))))
        (λ e. ap (node_link q) (ap link_of (eqb-true w (link_word link) e) ∙ link_back link small))
        (event_fits b j s (in_range k.shape) l.0 l.1)

    pub load_licensed : (place : Word) (slot : Option ℕ) (want : Option RowLink) (note : Option N)
        → RequestAllowed (bounds_in k) a (wants (LinkLoad place slot) want) v.own → (want ≡ None → note ≡ None)
        → ((link : RowLink) (said : N) → want ≡ Some link → note ≡ Some said → LookAllowed may (bounds_in k) (view_of a v) place link note)
        → IsAllowedLater counted_rules k holds may v a (wants (LinkLoad place slot) want) note
    load_licensed place slot want None can bare allowed = plain_licensed k holds may law v a (wants (LinkLoad place slot) want) refl can
    load_licensed place slot None (Some said) can bare allowed = absurd (none_some (bare refl))
      where
        none_some : {A : Type 0} {x : A} → Some x ≡ None → ⊥
        none_some e = cc
    load_licensed place slot (Some link) (Some said) can bare allowed = noted_licensed place slot link (Some said) can (allowed link said refl refl)

    pub store_licensed : (row which : ℕ) (link : RowLink) → RequestAllowed (bounds_in k) a (asks (LinkStore row link which)) v.own
        → (names v.own.fresh row ≡ true → AimAllowed may (bounds_in k) (view_of a v) row which link.to)
        → IsAllowedLater counted_rules k holds may v a (asks (LinkStore row link which)) None
    store_licensed row which link can allowed between none later =
        let b = bounds_in k in
        let j = v.seen ++ between in
        let ask : Request = asks (LinkStore row link which) in
        let s : Step N = step_of a ask None in
        let l = (counted_obeys k).lawful_next j a ask None later.lawful (subst (RequestAllowed b a ask) (sym later.mine) can) in
        let p : PresentIds = present_ids b v.seen in
        let q : PresentIds = present_ids b j in
        let d : Agent = record_at (run_of b j) a in
        let stays = stays_for k holds may v a kept.number kept.now between none later in
        let st : option_map q.node link.to ≡ option_map p.node link.to = same_target p q v.own stays link.to
        (store_has b a v.own row which link (may_parts b 0 a (LinkStore row link which) v.own can.may).fits) in
        let met = meets k holds may v a between none later in
        aim_may (heap_numbers k) may (project b j) (λ e. law (project b j) e later.kept) s q (word_read (run_of b j) a (LinkStore row link which))
        (names d.fresh row) which (q.node row) (option_map q.node link.to)
        (λ e fits.
        let fresh : names v.own.fresh row ≡ true = subst (λ (z : Agent). names z.fresh row ≡ true) later.mine e in
        let sr : q.node row ≡ p.node row = stays row (fresh_has (any_holds v.own.slots row) (names v.own.fresh row) fresh) in
        subst (λ (z : ℕ × Option ℕ). may (project b j) (record { agent = a; act = aim_act which z.0 z.1; note = None })) (λ i. (sym sr i, sym st i))
        (subst (λ l. may l (record { agent = a; act = aim_act which (p.node row) (option_map p.node link.to); note = None })) (sym met.is)
        (allowed fresh met.more met.later
        (subst (λ l. FitsAfter (heap_numbers k) l (record { agent = a; act = aim_act which (p.node row) (option_map p.node link.to); note = None })) met.is
        (subst (λ (z : ℕ × Option ℕ). FitsAfter (heap_numbers k) (project b j) (record { agent = a; act = aim_act which z.0 z.1; note = None }))
        (λ i. (sr i, st i)) fits)))))
        (event_fits b j s (in_range k.shape) l.0 l.1)
      where
        fresh_has : (x y : Bool) → y ≡ true → (x || y) ≡ true
        fresh_has true y e = refl
        fresh_has false y e = e
