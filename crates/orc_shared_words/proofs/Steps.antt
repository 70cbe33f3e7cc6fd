-- A step that is allowed and licensed keeps the rule.
use Rattle.std.proofs.Common.{Bool, cond, false, true, ◌==◌, List, Option, Some, [], append-nil, append_assoc, arith, get_or, ap, refl, set, subst, sym, ℕ, ◌++◌, ◌<◌, ◌∙◌, ◌≡◌, ◌≢◌, ◌∷◌, inl}
use mathlib.Core.Option.{some}
use prog.Atomic.{either}
use lib.ListN.{get_elem?}
use lib.Seq.{set-get_or}
use Rattle.std.proofs.lemmas.Bool.{eqb-false, eqb-true}
use Rattle.atomic_table.specs.Table.{Act, Allows, Me, Valid, carried_after, keeps, stepped}
use Rattle.orc_heap.specs.Allowed.{AllAllowed}
use Rattle.orc_heap.specs.declared.events.Event.{Event}
use Rattle.orc_layout.proofs.Laying.{laid_read, laid_write}
use Rattle.orc_layout.specs.Layout.{lay}
use Rattle.orc_shared_words.specs.declared.journal.View.{View}
use Rattle.orc_shared_words.specs.Lists.{Each}
use Rattle.orc_shared_words.specs.Operations.{returned_by}
use Rattle.orc_shared_words.specs.Rule.{SeatKnows, HandsOut, Owns, Shows}
use Rattle.orc_shared_words.specs.Runs.{Obeys, Rules, found_by}
use Rattle.orc_history.specs.Journals.{own_of}
use Rattle.orc_words.specs.Operations.{word_after}
use Rattle.orc_words.specs.declared.operation.Operation.{Operation}
use Rattle.orc_words.specs.declared.operation.Operation.TheVariants.{CompareExchange, Swap}
use Rattle.orc_shared_words.specs.Steps.{DidStep, Extends, LaterJournal, IsAllowedLater, Tried}
use Rattle.orc_shared_words.proofs.Changes.{AllRetired, AllUnborn, changed, still_one, still_retired, still_unborn}
use Rattle.orc_heap.proofs.Prefixes.{prefix_more, prefix_same}
use Rattle.orc_shared_words.proofs.Runs.{below-snoc, by_other, none_behind, own_of-others}
use Rattle.orc_shared_words.proofs.Seats.{at_changed, one_number, set_there}

module _ {N : Type 0} (may : List (Event N) → Event N → Type 0) where
  -- one more event that is allowed, or none
  pub allowed-more : (past done es : List (Event N)) → AllAllowed may past done → Each (may (past ++ done)) es → AllAllowed may past (done ++ es)
  allowed-more past [] [] a e = tt
  allowed-more past [] (x ∷ []) a e = (subst (λ p. may p x) (append-nil past) e, tt)
  allowed-more past [] (x ∷ y ∷ es) a e = absurd e
  allowed-more past (d ∷ ds) es a e = (a.0, allowed-more (past ++ d ∷ []) ds es a.1 (subst (λ p. Each (may p) es) (sym (append_assoc past (d ∷ []) ds)) e))

  pub kept-more : (holds : List (Event N) → Type 0) → ((past : List (Event N)) (e : Event N) → holds past → may past e → holds (past ++ e ∷ []))
      → (past es : List (Event N)) → holds past → Each (may past) es → holds (past ++ es)
  kept-more holds law past [] h e = subst holds (sym (append-nil past)) h
  kept-more holds law past (x ∷ []) h e = law past x h e
  kept-more holds law past (x ∷ y ∷ ys) h e = absurd e

module _ {K S Op Rec N : Type 0} (r : Rules K S Op Rec N) (laws : (k : K) → Obeys r k) (k : K) where
  -- another agent's steps stay
  other_steps : (j : List S) (a : ℕ) (op : Op) (said : Option N) (b : ℕ) → b ≢ a → own_of r.by b (j ++ r.step a op said ∷ []) ≡ own_of r.by b j
  other_steps j a op said b ne =
      own_of-others r.by b j (r.step a op said ∷ []) (by_other r.by b (r.step a op said) [] (λ q. ne (sym q ∙ (laws k).by_step a op said)))

  -- and so does its record
  other_own : (j : List S) (a : ℕ) (op : Op) (said : Option N) (b : ℕ) → b ≢ a → r.own k (j ++ r.step a op said ∷ []) b ≡ r.own k j b
  other_own j a op said b ne = (laws k).own_other j (r.step a op said) b (λ q. ne (q ∙ (laws k).by_step a op said))

  other_fits : (j : List S) (a : ℕ) (op : Op) (said : Option N) (v : View S Rec) → ((c : ℕ) → v.agent ≡ Some c → c ≢ a) → SeatKnows r k j v
      → SeatKnows r k (j ++ r.step a op said ∷ []) v
  other_fits j a op said v ne f = record {
    seen = prefix_more v.seen j (r.step a op said ∷ []) f.seen;
    kept = prefix_more v.kept j (r.step a op said ∷ []) f.kept;
    pass = λ c e. let o = f.pass c e in
        record { below = o.below; mine = other_own j a op said c (ne c e) ∙ o.mine; steps = other_steps j a op said c (ne c e) ∙ o.steps; opened = o.opened };
  }

  later_unborn : (j : List S) (a : ℕ) (op : Op) (said : Option N) (views : List (View S Rec)) (id : ℕ) (v : View S Rec) → get_elem? views id ≡ some v
      → v.agent ≡ Some a → AllUnborn r k j views → AllUnborn r k (j ++ r.step a op said ∷ []) views
  later_unborn j a op said views id v at is m c i u ei q b le lt =
      let x = m c i u ei q b le lt in
      let ne : b ≢ a = λ e. x.passless id v at (is ∙ ap Some (sym e)) in
      record { mine = other_own j a op said b ne ∙ x.mine; steps = other_steps j a op said b ne ∙ x.steps; passless = x.passless }

  later_retired : (j : List S) (z : ℕ) (op : Op) (said : Option N) (views : List (View S Rec)) (id : ℕ) (v : View S Rec) → get_elem? views id ≡ some v
      → v.agent ≡ Some z → AllRetired r k j views → AllRetired r k (j ++ r.step z op said ∷ []) views
  later_retired j z op said views id v at is all a i u ei q =
      let x = all a i u ei q in
      record { steps = other_steps j z op said a (λ e. x.passless id v at (is ∙ ap Some (sym e))) ∙ x.steps; passless = x.passless; handed = x.handed }

module _ {K S Op Rec N : Type 0} (r : Rules K S Op Rec N) (laws : (k : K) → Obeys r k) (k : K) (H : K → List (Event N) → Type 0)
    (Y : K → List (Event N) → Event N → Type 0)
    (law : (past : List (Event N)) (e : Event N) → H k past → Y k past e → H k (past ++ e ∷ [])) where
  abbrev stepped_view : List S → View S Rec → ℕ → Op → Option N → ℕ → View S Rec
  stepped_view j v a op said n = record v { seen = j ++ r.step a op said ∷ []; own = r.after k a op v.own n }

  -- the one law of all operations
  does : (slots id : ℕ) (me : Me (Unit {0}) (View S Rec)) (a : ℕ) (op : Op) (said : Option N) → me.0.agent ≡ Some a → r.allowed k a op me.0.own
      → IsAllowedLater r k (H k) (Y k) me.0 a op said
      → Allows (Shows r k (H k) (Y k)) slots id me (r.index k (r.place k a op me.0.own)) (r.written k a op me.0.own)
      (λ n. DidStep r H Y (Some (k, op, said)) me (r.answer k a op me.0.own n))
  does slots id me a op said is can may_be s h _ at fits64 =
      let v : View S Rec = me.0 in
      let j : List S = h.journal in
      let t : S = r.step a op said in
      let f : SeatKnows r k j v = h.fits id v at in
      let o : Owns r k j v a = f.pass a is in
      let e : j ≡ v.seen ++ f.seen.0 = sym f.seen.1 in
      let none : own_of r.by a f.seen.0 ≡ [] = none_behind r.by a j v.seen f.seen o.steps in
      let at_place : ℕ = r.place k a op v.own in
      let n : ℕ = get_or s.words (r.index k at_place) 0 in
      let found : n ≡ found_by r k j a op = (λ i. get_or (h.words i) (r.index k (r.place k a op (sym o.mine i))) 0)
      ∙ laid_read (r.index k) (laws k).layout (r.words k j) (r.place k a op (r.own k j a)) in
      let w : View S Rec = stepped_view j v a op said n in
      let own : r.own k (j ++ t ∷ []) a ≡ r.after k a op v.own n = (laws k).own_next j a op said o.below ∙ λ i. r.after k a op (o.mine i) (sym found i) in
      let met : LaterJournal r k (H k) (Y k) j v a =
      record {
        lawful = h.lawful;
        opened = h.opened;
        below = h.below;
        each = h.each;
        kept = h.kept;
        mine = o.mine;
        retired =
            λ b q. (h.retired b id v at q).steps;
      } in
      let may_now : Each (Y k (r.project k j)) (r.events k j t) =
      subst (λ l. Each (Y k (r.project k l)) (r.events k l t)) (sym e) (may_be f.seen.0 none (subst (λ l. LaterJournal r k (H k) (Y k) l v a) e met)) in
      let kept : H k (r.project k (j ++ t ∷ [])) =
      subst (H k) (sym ((laws k).project_next j t)) (kept-more (Y k) (H k) law (r.project k j) (r.events k j t) h.kept may_now) in
      let each : AllAllowed (Y k) [] (r.project k (j ++ t ∷ [])) =
      subst (AllAllowed (Y k) []) (sym ((laws k).project_next j t)) (allowed-more (Y k) [] (r.project k j) (r.events k j t) h.each may_now) in
      let lawful : r.lawful k (j ++ t ∷ []) = (laws k).lawful_next j a op said h.lawful (subst (r.allowed k a op) (sym o.mine) can) in
      let opened = prefix_more (r.opening k) j (t ∷ []) h.opened in
      let below = below-snoc r.by (r.agents k) j t h.below (subst (λ z. z < r.agents k) (sym ((laws k).by_step a op said)) o.below) in (
        w,
        keeps,
        tt,
        record {
          journal = j ++ t ∷ [];
          attained = (id, w, set_there s.views id v w at, inl (a, is, refl));
          fits = at_changed (λ i u. SeatKnows r k (j ++ t ∷ []) u) s.views id w
              record {
                seen = prefix_same (j ++ t ∷ []) (j ++ t ∷ []) refl;
                kept = prefix_more v.kept j (t ∷ []) f.kept;
                pass = λ b q. subst (λ z. Owns r k (j ++ t ∷ []) w z) (one_number v.agent b a q is) record {
                  below = o.below;
                  mine = own;
                  steps =
                      refl;
                  opened = opened;
                };
              }
              (λ i u ne ei. other_fits r laws k j a op said u (λ b q x. ne (h.apart a i u ei (q ∙ ap Some x) id v at is)) (h.fits i u ei));
          lawful = lawful;
          opened = opened;
          words = (λ i. set (h.words i) (r.index k (r.place k a op (sym o.mine i))) (r.written k a op (sym o.mine i) (found i)))
              ∙ laid_write (r.index k) (laws k).layout (r.words k j) (r.place k a op (r.own k j a)) (r.written k a op (r.own k j a) (found_by r k j a op))
              ∙ ap (lay (r.index k)) (sym ((laws k).words_next j a op said));
          apart = λ c. still_one (λ u. u.agent ≡ Some c) s.views id v w at (λ q. q) (h.apart c);
          each = each;
          kept = kept;
          below = below;
          unborn = still_unborn r k (j ++ t ∷ []) s.views id v w at (λ b q. q) (λ c q. (c, q, omega arith, refl))
              (later_unborn r laws k j a op said s.views id v at is h.unborn);
          lone = still_one HandsOut s.views id v w at (λ q. q) h.lone;
          retired = still_retired r k (j ++ t ∷ []) s.views id v w at (λ b q. q) (λ c q. (c, q, omega arith, refl))
              (λ b q. let x = h.retired b id v at q in record { steps = refl; passless = x.passless; handed = x.handed })
              (later_retired r laws k j a op said s.views id v at is h.retired);
        },
        (
          record {
            agent = a;
            is = is;
            same = is;
            also = refl;
            between = f.seen.0;
            seen = ap (λ l. l ++ t ∷ []) e;
            others = none;
            retired = λ b q. none_behind r.by b j v.seen f.seen (h.retired b id v at q).steps;
            found = n;
            read = found ∙ ap (λ l. found_by r k l a op) e;
            answers = refl;
            mine = refl;
            met = subst (λ l. LaterJournal r k (H k) (Y k) l v a) e met;
            now = record { lawful = lawful; opened = opened; below = below; each = each; kept = kept; mine = own; retired = λ b q. refl };
          },
          refl,
        ),
      )

-- the same, where the call picks the step, its index and operation are known, and the table writes what the operation does
pub makes : {K S Op Rec N : Type 0} (r : Rules K S Op Rec N) (laws : (k : K) → Obeys r k) (k : K) (H : K → List (Event N) → Type 0)
    (Y : K → List (Event N) → Event N → Type 0)
    (law : (past : List (Event N)) (e : Event N) → H k past → Y k past e → H k (past ++ e ∷ [])) (key : K) (slots id : ℕ)
    (me : Me (Unit {0}) (View S Rec)) (a : ℕ) (own : Rec) (op : Op) (said : Option N)
    (pick : Option (K × Op × Option N)) (index : ℕ) (o known : Operation) (writes : ℕ → ℕ) → word_after known ≡ writes → key ≡ k → pick ≡ Some (k, op, said)
    → index ≡ r.index k (r.place k a op own) → word_after o ≡ r.written k a op own → returned_by o ≡ r.answer k a op own → o ≡ known
    → (me.0.agent ≡ Some a) × (me.0.own ≡ own) → r.allowed k a op own → IsAllowedLater r k (H k) (Y k) me.0 a op said
    → Allows (Shows r key (H key) (Y key)) slots id me index writes (λ n. DidStep r H Y pick me (returned_by known n))
makes {K} {S} {Op} {Rec} {N} r laws k H Y law key slots id me a own op said pick index o known writes after_is same picked index_is written answer is
    named can may_be =
    let at_own : (index ≡ r.index k (r.place k a op me.0.own)) × (word_after o ≡ r.written k a op me.0.own) × (returned_by o ≡ r.answer k a op me.0.own) =
    subst (λ z. (index ≡ r.index k (r.place k a op z)) × (word_after o ≡ r.written k a op z) × (returned_by o ≡ r.answer k a op z)) (sym named.1)
    (index_is, written, answer) in
    let first = does r laws k H Y law slots id me a op said named.0 (subst (λ z. r.allowed k a op z) (sym named.1) can) may_be in
    let second : Allows (Shows r k (H k) (Y k)) slots id me index (word_after o) (λ n. DidStep r H Y (Some (k, op, said)) me (returned_by o n)) =
    subst (λ (z : ℕ × (ℕ → ℕ) × (ℕ → ℕ)). Allows (Shows r k (H k) (Y k)) slots id me z.0 z.1 (λ n. DidStep r H Y (Some (k, op, said)) me (z.2 n)))
    (λ i. (sym at_own.0 i, sym at_own.1 i, sym at_own.2 i)) first in
    subst (λ (z : K × Operation × (ℕ → ℕ) × Option (K × Op × Option N)). Allows (Shows r z.0 (H z.0) (Y z.0)) slots id me index z.2
    (λ n. DidStep r H Y z.3 me (returned_by z.1 n)))
    (λ i. (sym same i, is i, (ap word_after is ∙ after_is) i, sym picked i)) second

-- a load tells of a swap of 0: where it finds 0 the step is made, and else nothing has changed
pub tries : {K S Op Rec N : Type 0} (r : Rules K S Op Rec N) (laws : (k : K) → Obeys r k) (k : K) (H : K → List (Event N) → Type 0)
    (Y : K → List (Event N) → Event N → Type 0)
    (law : (past : List (Event N)) (e : Event N) → H k past → Y k past e → H k (past ++ e ∷ [])) (key : K) (slots id : ℕ)
    (me : Me (Unit {0}) (View S Rec)) (a : ℕ) (own : Rec) (op : Op) (said : Option N)
    (pick : Option (K × Op × Option N)) (index : ℕ) (o : Operation) → key ≡ k → pick ≡ Some (k, op, said)
    → index ≡ r.index k (r.place k a op own) → word_after o ≡ r.written k a op own → returned_by o ≡ r.answer k a op own → o ≡ Swap 0
    → (me.0.agent ≡ Some a) × (me.0.own ≡ own) → r.allowed k a op own → IsAllowedLater r k (H k) (Y k) me.0 a op said
    → Allows (Shows r key (H key) (Y key)) slots id me index (λ n. n) (λ n. Tried r H Y pick me n)
tries {K} {S} {Op} {Rec} {N} r laws k H Y law key slots id me a own op said pick index o same picked index_is written answer is named can may_be s h long at small =
    cases (n == 0) refl
  where
    n : ℕ
    n = get_or s.words index 0

    cases : (t : Bool) → (n == 0) ≡ t → (w : View S Rec) × (b : Act (Unit {0})) × Valid s.homes me.1 b
        × Shows r key (H key) (Y key) (stepped s index n id me.1 w b) × Tried r H Y pick me n (w, carried_after me.1 b)
    cases true e =
        let none : n ≡ 0 = eqb-true n 0 e in
        let made = makes r laws k H Y law key slots id me a own op said pick index o (Swap 0) (λ z. 0) refl same picked index_is written answer is named can may_be
        s h long at small in (
          made.0,
          made.1,
          made.2,
          subst (λ z. Shows r key (H key) (Y key) (stepped s index z id me.1 made.0 made.1)) (sym none) made.3,
          ((λ z. made.4), (λ other. absurd (other none))),
        )
    cases false e =
        let v : View S Rec = me.0 in (
          v,
          keeps,
          tt,
          changed r key (H key) (Y key) _ s h id v v (set-get_or s.words index 0) at (h.fits id v at) (λ b q. q) (λ c q. (c, q, omega arith, refl))
              (λ b q. h.retired b id v at q) (λ q. (id, v, set_there s.views id v v at, q)),
          ((λ none. absurd (eqb-false n 0 e none)), (λ z. refl)),
        )

chosen : (b : Bool) (x y : ℕ) → cond b x y ≡ either b x y
chosen true x y = refl
chosen false x y = refl

-- a table's compare-and-exchange writes what the operation does
pub exchanged : (x y : ℕ) → word_after (CompareExchange x y) ≡ (λ n. either (n == x) y n)
exchanged x y = λ i n. chosen (n == x) y n i

-- what is told of the picked step is told of the step that it is
pub told : {K S Op Rec N : Type 0} (r : Rules K S Op Rec N) (H : K → List (Event N) → Type 0) (Y : K → List (Event N) → Event N → Type 0)
    (pick : Option (K × Op × Option N)) (k : K) (op : Op) (said : Option N) (me after : Me (Unit {0}) (View S Rec)) (n : ℕ)
    → pick ≡ Some (k, op, said) → DidStep r H Y pick me n after → Extends r k (H k) (Y k) op said me.0 n after.0 × (after.1 ≡ me.1)
told r H Y pick k op said me after n picked did = subst (λ p. DidStep r H Y p me n after) picked did
