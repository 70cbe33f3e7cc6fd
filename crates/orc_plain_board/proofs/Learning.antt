-- Passes that learn from one another, and that take in one another.
use Rattle.std.proofs.Common.{◌≡◌, ◌<◌, ℕ, ◌==◌, List, [], ◌∷◌, ◌++◌, Option, Some, refl, sym, ap, ◌∙◌, subst, inl, inr, ⊎_elim, append-nil}
use Rattle.std.proofs.lemmas.List.Elements.{filter-append}
use Rattle.orc_words.specs.Bounds.{Bounds, bounds_of}
use Rattle.orc_heap.specs.Allowed.{AllAllowed, events_by}
use Rattle.orc_heap.specs.declared.discipline.Discipline as discipline
use Rattle.orc_heap.specs.declared.events.Event.{Event}
use Rattle.orc_shared_words.specs.Learning.{LearnedBoth, SameButSeen}
use mathlib.Core.List.{IsPrefix}
use Rattle.orc_shared_words.specs.Runs.{AgentsBelow}
use Rattle.orc_history.specs.Journals.{own_of}
use Rattle.orc_shared_words.specs.Views.{absorbing, agent_of}
use Rattle.orc_shared_words.specs.declared.journal.View.{View}
use Rattle.orc_heap.proofs.Prefixes.{prefix_same}
use Rattle.orc_shared_words.proofs.LaterJournals.{absorbing_later}
use Rattle.orc_shared_words.proofs.Runs.{none_behind}
use Rattle.orc_plain_board.specs.Calls.{Absorbs, IsLonger, LearnsEvents, SameButEvents}
use Rattle.orc_plain_board.specs.Machine.{State, AllowedFrom, numbers, project, project_from, run, run_from, start}
use Rattle.orc_plain_board.specs.Rules.{opening_steps, plain_rules, project-append, steps-append}
use Rattle.orc_plain_board.specs.Views.{FreshHeld, Keeps, view_of}
use Rattle.orc_plain_board.specs.declared.machine.PlainStep.{PlainStep}
use Rattle.orc_plain_board.specs.declared.shape.PlainShape.{PlainShape}
use Rattle.orc_plain_board.proofs.Walks.{Mid, by, given_more, mid_fresh, mid_of, others_none}

-- where the agent's steps are those of a prefix, its events are those of the prefix
same_events : {N : Type 0} (k : Bounds) (a : ℕ) (xs ys : List (PlainStep N)) → IsPrefix ys xs → own_of by a xs ≡ own_of by a ys
    → events_by a (project k xs) ≡ events_by a (project k ys)
same_events {N} k a xs ys b e =
    ap (λ z. events_by a (project k z)) (sym b.1)
    ∙ (ap (events_by a) (project-append k (start k) ys b.0)
    ∙ (filter-append (λ (x : Event N). x.agent == a) (project k ys) (project_from k (run k ys) b.0)
    ∙ (ap (λ l. events_by a (project k ys) ++ l) (others_none k a (run k ys) b.0 (none_behind by a xs ys b e))
    ∙ append-nil (events_by a (project k ys)))))

prefix_events : {N : Type 0} (k : Bounds) (xs ys : List (PlainStep N)) → IsPrefix ys xs → IsPrefix (project k ys) (project k xs)
prefix_events k xs ys b = (project_from k (run k ys) b.0, sym (project-append k (start k) ys b.0) ∙ ap (project k) b.1)

prefix_rows : {N : Type 0} (k : Bounds) (xs ys : List (PlainStep N)) → IsPrefix ys xs → IsPrefix (run k ys).given (run k xs).given
prefix_rows k xs ys b = subst (λ (x : State). IsPrefix (run k ys).given x.given) (sym (steps-append k (start k) ys b.0) ∙ ap (run k) b.1)
    (given_more k (run k ys) b.0)

module _ {D N : Type 0} (d : discipline.Ghosts D N) (q : PlainShape N) where
  abbrev k : Bounds
  k = bounds_of q.shape

  abbrev holds : List (Event N) → Type 0
  holds = d.holds (numbers k)

  abbrev may : List (Event N) → Event N → Type 0
  may = d.may (numbers k)

  -- what is true of each list that a pass has seen
  pub record Journal (j : List (PlainStep N)) : Type 0 where
    pub lawful : AllowedFrom k j
    pub opened : IsPrefix (opening_steps q.seed) j
    pub below : AgentsBelow by k.agents j
    pub each : AllAllowed may [] (project k j)
    pub kept : holds (project k j)

  journal_of : (v : View (PlainStep N) (Unit {0})) (a : ℕ) (fresh : Option ℕ) → Keeps q holds may v a fresh → Journal v.seen
  journal_of v a fresh h = record { lawful = h.now.lawful; opened = h.now.opened; below = h.now.below; each = h.now.each; kept = h.now.kept }

  -- a pass that has seen more, where its agent did nothing in between
  keeps_more : (v w : View (PlainStep N) (Unit {0})) (a c : ℕ) (fresh fresh2 : Option ℕ) → Keeps q holds may v a fresh → c ≡ a → fresh2 ≡ fresh
      → w.agent ≡ v.agent → IsPrefix v.seen w.seen → own_of by a w.seen ≡ own_of by a v.seen → Journal w.seen → Keeps q holds may w c fresh2
  keeps_more v w a c fresh fresh2 h e f same b steps j =
      let m : Mid k may v.seen b.0 a =
      mid_of d k v.seen b.0 a h.began (none_behind by a w.seen v.seen b steps) (subst (AllowedFrom k) (sym b.1) j.lawful)
      (subst (λ z. AllAllowed may [] (project k z)) (sym b.1) j.each) in
      let state : run_from k (run k v.seen) b.0 ≡ run k w.seen = sym m.state ∙ ap (run k) b.1 in
      record {
        is = same ∙ (h.is ∙ ap Some (sym e));
        number = subst (λ z. z < k.agents) (sym e) h.number;
        began = h.began;
        now = record { lawful = j.lawful; opened = j.opened; below = j.below; each = j.each; kept = j.kept; mine = refl; retired = λ b there. refl };
        untouched = subst (λ (z : ℕ × State × Option ℕ). FreshHeld z.0 z.1 z.2) (λ i. (sym e i, state i, sym f i))
            (mid_fresh k may v.seen b.0 a m fresh h.untouched);
      }

  same_but : (v w : View (PlainStep N) (Unit {0})) (a c : ℕ) (fresh fresh2 looked looked2 : Option ℕ) → v.agent ≡ Some a → c ≡ a → fresh2 ≡ fresh
      → looked2 ≡ looked → IsPrefix v.seen w.seen → SameButSeen by v w → SameButEvents (view_of k a v fresh looked) (view_of k c w fresh2 looked2)
  same_but v w a c fresh fresh2 looked looked2 is e f l b same = record {
    agent = e;
    fresh = f;
    looked = l;
    absorbed = same.also;
    rows = prefix_rows k w.seen v.seen b;
    own = same_events k a w.seen v.seen b (same.steps a (inl is));
    retired = λ o there. same_events k o w.seen v.seen b (same.steps o (inr there));
  }

  module _ {v u w x : View (PlainStep N) (Unit {0})} {a b c o : ℕ} {fresh fresh2 fresh3 fresh4 : Option ℕ} (h : Keeps q holds may v a fresh)
      (i : Keeps q holds may u b fresh2) (l : LearnedBoth by v u w x) (e : c ≡ a) (f : fresh3 ≡ fresh) (e2 : o ≡ b) (f2 : fresh4 ≡ fresh2) where
    into_more : IsPrefix v.seen w.seen
    into_more = ⊎_elim (λ (t : IsPrefix u.seen v.seen × (w.seen ≡ v.seen)). prefix_same v.seen w.seen t.1)
        (λ (t : IsPrefix v.seen u.seen × (w.seen ≡ u.seen)). subst (IsPrefix v.seen) (sym t.1) t.0) l.longer

    from_more : IsPrefix u.seen x.seen
    from_more = ⊎_elim (λ (t : IsPrefix u.seen v.seen × (w.seen ≡ v.seen)). subst (IsPrefix u.seen) (sym (l.both ∙ t.1)) t.0)
        (λ (t : IsPrefix v.seen u.seen × (w.seen ≡ u.seen)). prefix_same u.seen x.seen (l.both ∙ t.1)) l.longer

    journal : Journal w.seen
    journal = ⊎_elim (λ (t : IsPrefix u.seen v.seen × (w.seen ≡ v.seen)). subst Journal (sym t.1) (journal_of v a fresh h))
        (λ (t : IsPrefix v.seen u.seen × (w.seen ≡ u.seen)). subst Journal (sym t.1) (journal_of u b fresh2 i)) l.longer

    longer_events : (y : View (PlainStep N) (Unit {0})) (c2 : ℕ) (r r2 r3 looked looked2 looked3 : Option ℕ) → y.seen ≡ w.seen
        → IsLonger (view_of k a v r looked) (view_of k b u r2 looked2) (view_of k c2 y r3 looked3)
    longer_events y c2 r r2 r3 looked looked2 looked3 s = ⊎_elim
        (λ (t : IsPrefix u.seen v.seen × (w.seen ≡ v.seen)). inl (
          prefix_events k v.seen u.seen t.0,
          ap (project k) (s ∙ t.1),
          ap (λ z. (run k z).given) (s ∙ t.1),
        ))
        (λ (t : IsPrefix v.seen u.seen × (w.seen ≡ u.seen)). inr (
          prefix_events k u.seen v.seen t.0,
          ap (project k) (s ∙ t.1),
          ap (λ z. (run k z).given) (s ∙ t.1),
        ))
        l.longer

    pub into_keeps : Keeps q holds may w c fresh3
    into_keeps = keeps_more v w a c fresh fresh3 h e f l.into.agent into_more (l.into.steps a (inl h.is)) journal

    pub from_keeps : Keeps q holds may x o fresh4
    from_keeps = keeps_more u x b o fresh2 fresh4 i e2 f2 l.from.agent from_more (l.from.steps b (inl i.is)) (subst Journal (sym l.both) journal)

    pub learns : (looked looked2 looked3 looked4 : Option ℕ) → looked3 ≡ looked → looked4 ≡ looked2
        → LearnsEvents (view_of k a v fresh looked) (view_of k b u fresh2 looked2) (view_of k c w fresh3 looked3) (view_of k o x fresh4 looked4)
    learns looked looked2 looked3 looked4 g g2 = record {
      longer = longer_events w c fresh fresh2 fresh3 looked looked2 looked3 refl;
      both = (ap (project k) l.both, ap (λ z. (run k z).given) l.both);
      into = same_but v w a c fresh fresh3 looked looked3 h.is e f g into_more l.into;
      from = same_but u x b o fresh2 fresh4 looked2 looked4 i.is e2 f2 g2 from_more l.from;
    }

    -- the pass that then takes in the other
    pub absorb_keeps : (y : View (PlainStep N) (Unit {0})) (c2 : ℕ) (fresh5 : Option ℕ) → y ≡ absorbing w x → c2 ≡ c → fresh5 ≡ fresh3
        → Keeps q holds may y c2 fresh5
    absorb_keeps y c2 fresh5 s e3 f3 =
        let t = into_keeps in
        subst (λ (z : View (PlainStep N) (Unit {0}) × ℕ × Option ℕ). Keeps q holds may z.0 z.1 z.2) (λ j. (sym s j, sym e3 j, sym f3 j)) record {
          is = t.is;
          number = t.number;
          began = t.began;
          now = absorbing_later plain_rules q holds may w x c t.now;
          untouched = t.untouched;
        }

    pub absorbs : (y : View (PlainStep N) (Unit {0})) (c2 : ℕ) (fresh5 looked looked2 looked5 : Option ℕ) → y ≡ absorbing w x → c2 ≡ c
        → fresh5 ≡ fresh3 → looked5 ≡ looked → Absorbs (view_of k a v fresh looked) (view_of k b u fresh2 looked2) (view_of k c2 y fresh5 looked5)
    absorbs y c2 fresh5 looked looked2 looked5 s e3 f3 g =
        let seen : y.seen ≡ w.seen = ap (λ z. z.seen) s in record {
          longer = longer_events y c2 fresh fresh2 fresh5 looked looked2 looked5 seen;
          agent = e3 ∙ e;
          fresh = f3 ∙ f;
          looked = g;
          absorbed = ap (λ z. z.also) s ∙ (λ j. (ap agent_of (l.from.agent ∙ i.is) j) ∷ (l.from.also j ++ l.into.also j));
          rows = prefix_rows k y.seen v.seen (subst (IsPrefix v.seen) (sym seen) into_more);
          own = ap (λ z. events_by a (project k z)) seen ∙ same_events k a w.seen v.seen into_more (l.into.steps a (inl h.is));
          retired = λ o there. ap (λ z. events_by o (project k z)) seen ∙ same_events k o w.seen v.seen into_more (l.into.steps o (inr there));
          taken = λ o who. ap (λ z. events_by o (project k z)) (seen ∙ sym l.both)
              ∙ same_events k o x.seen u.seen from_more (l.from.steps o (⊎_elim (λ e. inl (i.is ∙ ap (λ (z : ℕ). Some z) (sym e))) (λ there. inr there) who));
        }
