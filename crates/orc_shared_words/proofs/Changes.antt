-- The rule stays where one view changes or comes and the journal stays.
use Rattle.std.proofs.Common.{List, None, Some, [], arith, length, ap, refl, set, subst, sym, ℕ, ◌++◌, ◌<◌, ◌∙◌, ◌≡◌, ◌≤◌, ◌∷◌, ⊎_elim}
use mathlib.Core.Option.{some, some-injective}
use mathlib.Core.Logic.{dite}
use native.Mathlib.Decide.{ℕ_discrete}
use lib.ListN.{get_elem?}
use Rattle.atomic_table.specs.Table.{State}
use Rattle.atomic_table.proofs.Lists.{at_snoc, at_longer, set_else}
use Rattle.orc_heap.specs.declared.events.Event.{Event}
use Rattle.orc_shared_words.specs.declared.journal.View.{View}
use Rattle.orc_shared_words.specs.Lists.{Among}
use Rattle.orc_shared_words.specs.Rule.{AtMostOne, EachView, SeatKnows, HandsOut, HasSeen, NoPass, Retired, Shows, Unborn}
use Rattle.orc_shared_words.specs.Runs.{Rules}
use Rattle.orc_history.specs.Journals.{own_of}
use Rattle.orc_shared_words.proofs.Seats.{at_changed, at_grown, at_one, none_some}

module _ {S Rec : Type 0} where
  -- a seat's first free number grows, or is lost, and the record that goes with it stays
  abbrev pub FreeGrows : View S Rec → View S Rec → Type 0
  FreeGrows v w = (c : ℕ) → w.free ≡ Some c → (b : ℕ) × (v.free ≡ Some b) × (b ≤ c) × (w.born ≡ v.born)

  -- a seat keeps its agent, or loses it
  abbrev pub AgentStays : View S Rec → View S Rec → Type 0
  AgentStays v w = (a : ℕ) → w.agent ≡ Some a → v.agent ≡ Some a

  pub still_one : (P : View S Rec → Type 0) (views : List (View S Rec)) (id : ℕ) (v w : View S Rec) → get_elem? views id ≡ some v → (P w → P v)
      → AtMostOne views P → AtMostOne (set views id w) P
  still_one P views id v w at less old = at_changed (λ i x. P x → EachView (set views id w) (λ l y. P y → i ≡ l)) views id w
      (λ p. at_changed (λ l y. P y → id ≡ l) views id w (λ _. refl) (λ l y _ el q. old id v at (less p) l y el q))
      (λ i x _ ei p. at_changed (λ l y. P y → i ≡ l) views id w (λ q. old i x ei p id v at (less q)) (λ l y _ el q. old i x ei p l y el q))

  one_more : (P : View S Rec → Type 0) (views : List (View S Rec)) (w : View S Rec) → AtMostOne views P → (P w → EachView views (λ _ v. ¬ P v))
      → AtMostOne (views ++ w ∷ []) P
  one_more P views w old new = at_grown (λ i x. P x → EachView (views ++ w ∷ []) (λ l y. P y → i ≡ l)) views w
      (λ p. at_grown (λ l y. P y → length views ≡ l) views w (λ _. refl) (λ l y el q. absurd (new p l y el q)))
      (λ i x ei p. at_grown (λ l y. P y → i ≡ l) views w (λ q. absurd (new q i x ei p)) (λ l y el q. old i x ei p l y el q))

  pub one_alone : (P : View S Rec → Type 0) (v : View S Rec) → AtMostOne (v ∷ []) P
  one_alone P v = at_one v (λ i x. P x → EachView (v ∷ []) (λ l y. P y → i ≡ l)) (λ _. at_one v (λ l y. P y → 0 ≡ l) (λ _. refl))

  pub still_passless : (views : List (View S Rec)) (id : ℕ) (v w : View S Rec) → get_elem? views id ≡ some v → AgentStays v w → (a : ℕ)
      → NoPass views a → NoPass (set views id w) a
  still_passless views id v w at less a old = at_changed (λ _ z. ¬ (z.agent ≡ Some a)) views id w (λ p. old id v at (less a p)) (λ l z _ el. old l z el)

  abbrev pub Attained : List S → List (View S Rec) → Type 0
  Attained j views = (i : ℕ) × (x : View S Rec) × (get_elem? views i ≡ some x) × HasSeen j x

  pub still_attained : (j : List S) (views : List (View S Rec)) (id : ℕ) (v w : View S Rec) → get_elem? views id ≡ some v
      → (HasSeen j v → Attained j (set views id w)) → Attained j views → Attained j (set views id w)
  still_attained j views id v w at mine t = dite (ℕ_discrete t.0 id)
      (λ e. mine (subst (HasSeen j) (some-injective t.1 v (sym t.2 ∙ (ap (get_elem? views) e ∙ at))) t.3))
      (λ ne. (t.0, t.1, set_else views id t.0 w ne ∙ t.2, t.3))

module _ {K S Op Rec N : Type 0} (r : Rules K S Op Rec N) (k : K) where
  abbrev pub AllUnborn : List S → List (View S Rec) → Type 0
  AllUnborn j views = (a : ℕ) → EachView views (λ _ v. v.free ≡ Some a → (b : ℕ) → a ≤ b → b < r.agents k → Unborn r k j views v.born b)

  abbrev pub AllRetired : List S → List (View S Rec) → Type 0
  AllRetired j views = (a : ℕ) → EachView views (λ _ v. Among a v.also → Retired r k j views a v.seen)

  pub still_unborn : (j : List S) (views : List (View S Rec)) (id : ℕ) (v w : View S Rec) → get_elem? views id ≡ some v → AgentStays v w
      → FreeGrows v w → AllUnborn j views → AllUnborn j (set views id w)
  still_unborn j views id v w at less free m c i u ei q b le lt =
      let old = at_changed (λ i u. u.free ≡ Some c → (d : ℕ) × (x : View S Rec) × (get_elem? views i ≡ some x) × (x.free ≡ Some d) × (d ≤ c)
      × (u.born ≡ x.born)) views id w
      (λ q. let o = free c q in (o.0, v, at, o.1, o.2, o.3)) (λ i u _ e q. (c, u, e, q, omega arith, refl)) i u ei q in
      let below = old.4 in
      let x = m old.0 i old.1 old.2 old.3 b (omega arith) lt in
      record { mine = x.mine ∙ sym old.5; steps = x.steps; passless = still_passless views id v w at less b x.passless }

  pub still_retired : (j : List S) (views : List (View S Rec)) (id : ℕ) (v w : View S Rec) → get_elem? views id ≡ some v → AgentStays v w → FreeGrows v w
      → ((a : ℕ) → Among a w.also → Retired r k j views a w.seen) → AllRetired j views → AllRetired j (set views id w)
  still_retired j views id v w at less free mine all a i u ei q =
      let x = at_changed (λ i u. Among a u.also → Retired r k j views a u.seen) views id w (mine a) (λ i u _ e q. all a i u e q) i u ei q in record {
        steps = x.steps;
        passless = still_passless views id v w at less a x.passless;
        handed = λ c l z el. at_changed (λ _ z. z.free ≡ Some c → a < c) views id w (λ p. let o = free c p in let y = x.handed o.0 id v at o.1 in
            let z = o.2 in omega arith) (λ l z _ el p. x.handed c l z el p) l z el;
      }

module _ {K S Op Rec N : Type 0} (r : Rules K S Op Rec N) (k : K) (holds : List (Event N) → Type 0) (may : List (Event N) → Event N → Type 0) where
  -- one seat's view changes, and nothing else
  unfoldable pub changed : (words : List ℕ) (s : State (Unit {0}) (View S Rec)) (h : Shows r k holds may s) (id : ℕ) (v w : View S Rec)
      → words ≡ s.words → get_elem? s.views id ≡ some v → SeatKnows r k h.journal w → AgentStays v w → FreeGrows v w
      → ((a : ℕ) → Among a w.also → Retired r k h.journal s.views a w.seen) → (HasSeen h.journal v → Attained h.journal (set s.views id w))
      → Shows r k holds may record { words = words; homes = s.homes; views = set s.views id w }
  changed words s h id v w same at fits less free mine has = record {
    journal = h.journal;
    attained = still_attained h.journal s.views id v w at has h.attained;
    fits = at_changed (λ _ u. SeatKnows r k h.journal u) s.views id w fits (λ i u _. h.fits i u);
    lawful = h.lawful;
    opened = h.opened;
    words = same ∙ h.words;
    apart = λ a. still_one (λ u. u.agent ≡ Some a) s.views id v w at (less a) (h.apart a);
    each = h.each;
    kept = h.kept;
    below = h.below;
    unborn = still_unborn r k h.journal s.views id v w at less free h.unborn;
    lone = still_one HandsOut s.views id v w at (λ q. let o = free q.0 q.1 in (o.0, o.1)) h.lone;
    retired = still_retired r k h.journal s.views id v w at less free mine h.retired;
  }

  -- the number of a new seat: no view has it or hands it out, and none took in its pass
  pub record IsNew (views : List (View S Rec)) (a : ℕ) : Type 0 where
    pub passless : NoPass views a
    pub handed : (c : ℕ) → EachView views (λ _ v. v.free ≡ Some c → a < c)
    pub living : EachView views (λ _ v. ¬ Among a v.also)

  -- a seat comes, which hands out no numbers
  pub added : (s : State (Unit {0}) (View S Rec)) (h : Shows r k holds may s) (w : View S Rec) → SeatKnows r k h.journal w → w.free ≡ None → w.also ≡ []
      → ((a : ℕ) → w.agent ≡ Some a → IsNew s.views a)
      → Shows r k holds may record { words = s.words; homes = s.homes; views = s.views ++ w ∷ [] }
  added s h w fits none alone_so new = record {
    journal = h.journal;
    attained = let t = h.attained in (t.0, t.1, at_longer s.views (w ∷ []) t.0 t.1 t.2, t.3);
    fits = λ i u e. ⊎_elim (h.fits i u) (λ (t : w ≡ u). subst (SeatKnows r k h.journal) t fits) (at_snoc s.views w u i e);
    lawful = h.lawful;
    opened = h.opened;
    words = h.words;
    apart = λ a. one_more (λ u. u.agent ≡ Some a) s.views w (h.apart a) (λ p. (new a p).passless);
    each = h.each;
    kept = h.kept;
    below = h.below;
    unborn = λ c i u ei q b le lt.
        let old = at_grown (λ i u. u.free ≡ Some c → (z : View S Rec) × (l : ℕ) × (get_elem? s.views l ≡ some z) × (z.free ≡ Some c)
        × (u.born ≡ z.born)) s.views w (λ q. absurd (none_some w.free c none q)) (λ i u e q. (u, i, e, q, refl)) i u ei q in
        let x = h.unborn c old.1 old.0 old.2 old.3 b le lt in
        record {
          mine = x.mine ∙ sym old.4;
          steps = x.steps;
          passless =
              at_grown (λ _ z. ¬ (z.agent ≡ Some b)) s.views w (λ p. let y = (new b p).handed c old.1 old.0 old.2 old.3 in absurd (omega arith)) x.passless;
        };
    lone = one_more HandsOut s.views w h.lone (λ q. absurd (none_some w.free q.0 none q.1));
    retired = λ a i u ei q.
        let old = at_grown (λ i u. Among a u.also → (z : View S Rec) × (l : ℕ) × (get_elem? s.views l ≡ some z) × Among a z.also × (z.seen ≡ u.seen))
        s.views w (λ q. absurd (subst (Among a) alone_so q)) (λ i u e q. (u, i, e, q, refl)) i u ei q in
        let x = h.retired a old.1 old.0 old.2 old.3 in record {
          steps = x.steps ∙ ap (own_of r.by a) old.4;
          passless = at_grown (λ _ z. ¬ (z.agent ≡ Some a)) s.views w (λ p. (new a p).living old.1 old.0 old.2 old.3) x.passless;
          handed = λ c l z el. at_grown (λ _ z. z.free ≡ Some c → a < c) s.views w (λ p. absurd (none_some w.free c none p))
              (λ l z el p. x.handed c l z el p) l z el;
        };
  }
