-- Notes, new passes, and passes that take in others keep the rule.
use Rattle.std.proofs.Common.{List, None, Some, [], append_assoc, arith, ap, inl, inr, lt_of_not-le, refl, set, subst, sym, ℕ, ◌++◌, ◌+◌, ◌<◌, ◌∙◌, ◌≡◌, ◌≢◌, ◌∷◌, ⊎_elim}
use mathlib.Core.Option.{some}
use mathlib.Core.Logic.{dite}
use native.Mathlib.Decide.{dec_le}
use lib.ListN.{get_elem?}
use lib.Seq.{set-get_or, set-set, set_comm}
use Rattle.atomic_table.specs.Table.{Allows, Joins, Me, Splits, State, keeps}
use Rattle.atomic_table.proofs.Lists.{set_else}
use Rattle.orc_heap.proofs.Pieces.{goes_on}
use Rattle.orc_heap.specs.declared.events.Event.{Event}
use Rattle.orc_shared_words.specs.declared.journal.View.{View}
use Rattle.orc_shared_words.specs.Learning.{Confirmed, LearnedBoth}
use mathlib.Core.List.{IsPrefix}
use Rattle.orc_shared_words.specs.Lists.{Among}
use Rattle.orc_shared_words.specs.Rule.{SeatKnows, HasSeen, Owns, Retired, Shows}
use Rattle.orc_shared_words.specs.Runs.{Rules}
use Rattle.orc_history.specs.Journals.{own_of}
use Rattle.orc_shared_words.specs.Views.{Covers, absorbing, agent_of, keeping, next_number, next_pass, note_of, one_handed, spent_view}
use Rattle.orc_shared_words.proofs.Changes.{Attained, IsNew, added, changed}
use Rattle.orc_heap.proofs.Prefixes.{both_prefixes, front_nil, prefixes_of_one}
use Rattle.orc_shared_words.proofs.Runs.{none_behind, none_between, own_of-append, own_of-others}
use Rattle.orc_shared_words.proofs.Seats.{among_behind, among_either, among_front, at_changed, none_some, one_number, set_there}

module _ {S Rec : Type 0} where
  -- a view with no agent that took in nobody has seen no whole journal
  no_seer : (j : List S) (w : View S Rec) → w.agent ≡ None → w.taken ≡ [] → ¬ HasSeen j w
  no_seer j w none nobody = ⊎_elim
      (λ (t : (a : ℕ) × (w.agent ≡ Some a) × (w.seen ≡ j)). none_some w.agent t.0 none t.1)
      (λ (q : Among j w.taken). subst (Among j) nobody q)

  -- the pass that takes in another has seen what either had
  still_seen : (j : List S) (v w : View S Rec) → HasSeen j v → HasSeen j (absorbing v w)
  still_seen j v w = ⊎_elim
      (λ (t : (a : ℕ) × (v.agent ≡ Some a) × (v.seen ≡ j)). inl t)
      (λ (q : Among j v.taken). inr (inr (among_behind j w.taken v.taken q)))

  seen_by_either : (j : List S) (v w : View S Rec) → Among j (w.seen ∷ w.taken) → HasSeen j (absorbing v w)
  seen_by_either j v w = ⊎_elim
      (λ (e : w.seen ≡ j). inr (inl e))
      (λ (q : Among j w.taken). inr (inr (among_front j w.taken v.taken q)))

  seen_and_taken : (j : List S) (w : View S Rec) → HasSeen j w → Among j (w.seen ∷ w.taken)
  seen_and_taken j w = ⊎_elim
      (λ (t : (a : ℕ) × (w.agent ≡ Some a) × (w.seen ≡ j)). inl t.2)
      (λ (q : Among j w.taken). inr q)

module _ {K S Op Rec N : Type 0} (r : Rules K S Op Rec N) (k : K) where
  -- a view with no agent fits where its lists are prefixes
  agentless : (j : List S) (v : View S Rec) → v.agent ≡ None → IsPrefix v.seen j → IsPrefix v.kept j → SeatKnows r k j v
  agentless j v none seen kept = record { seen = seen; kept = kept; pass = λ a e. absurd (none_some v.agent a none e) }

  -- a pass that keeps another list beside its own
  refit : (j : List S) (v w : View S Rec) → SeatKnows r k j v → w.agent ≡ v.agent → w.own ≡ v.own → w.seen ≡ v.seen → IsPrefix w.kept j → SeatKnows r k j w
  refit j v w f agent own seen kept = record {
    seen = subst (λ l. IsPrefix l j) (sym seen) f.seen;
    kept = kept;
    pass = λ a e. let o = f.pass a (sym agent ∙ e) in
        record {
          below = o.below;
          mine = o.mine ∙ sym own;
          steps = o.steps ∙ ap (own_of r.by a) (sym seen);
          opened =
              subst (IsPrefix (r.opening k)) (sym seen) o.opened;
        };
  }

  module _ (holds : List (Event N) → Type 0) (may : List (Event N) → Event N → Type 0) where
    -- a pass keeps another list beside its own
    keeps_list : (s : State (Unit {0}) (View S Rec)) (h : Shows r k holds may s) (id : ℕ) (v : View S Rec) (l : List S)
        → get_elem? s.views id ≡ some v → IsPrefix l h.journal
        → Shows r k holds may record { words = s.words; homes = s.homes; views = set s.views id (record v { kept = l }) }
    keeps_list s h id v l at front = let w : View S Rec = record v { kept = l } in
        changed r k holds may s.words s h id v w refl at (refit h.journal v w (h.fits id v at) refl refl refl front) (λ a q. q)
        (λ c q. (c, q, omega arith, refl)) (λ a q. h.retired a id v at q)
        (⊎_elim (λ (t : (a : ℕ) × (v.agent ≡ Some a) × (v.seen ≡ h.journal)). (id, w, set_there s.views id v w at, inl t))
        (λ (q : Among h.journal v.taken). (id, w, set_there s.views id v w at, inr q)))

    -- a seat loses its agent
    loses_agent : (s : State (Unit {0}) (View S Rec)) (h : Shows r k holds may s) (id : ℕ) (v w : View S Rec) → get_elem? s.views id ≡ some v
        → w.agent ≡ None → w.free ≡ None → w.also ≡ [] → IsPrefix w.seen h.journal → IsPrefix w.kept h.journal
        → (HasSeen h.journal v → Attained h.journal (set s.views id w))
        → Shows r k holds may record { words = s.words; homes = s.homes; views = set s.views id w }
    loses_agent s h id v w at agent free also seen kept has =
        changed r k holds may s.words s h id v w refl at (agentless h.journal w agent seen kept) (λ a e. absurd (none_some w.agent a agent e))
        (λ c e. absurd (none_some w.free c free e)) (λ a q. absurd (subst (Among a) also q)) has

    -- a note is made of a pass
    pub splits : (id : ℕ) (v : View S Rec) → Splits (Shows r k holds may) id v v (note_of r v)
    unfolding changed keeps_list
    splits id v s h at = let f = h.fits id v at in added r k holds may record { words = s.words; homes = s.homes; views = set s.views id v }
        (keeps_list s h id v v.kept at f.kept) (note_of r v) (agentless h.journal (note_of r v) refl f.seen (h.journal, refl)) refl refl
        (λ a e. absurd (none_some None a refl e))

    -- the maker hands out its next number
    pub hands : (id : ℕ) (v : View S Rec) (a c : ℕ) → v.agent ≡ Some a → v.free ≡ Some c → c < r.agents k
        → Splits (Shows r k holds may) id v (one_handed v) (next_pass r v)
    unfolding changed
    hands id v a c is p lt s h at =
        let f = h.fits id v at in
        let x = h.unborn c id v at p c (omega arith) lt in
        let o = f.pass a is in
        let after : View S Rec = one_handed v in
        let next_is : (d : ℕ) → next_number v.free ≡ Some d → d ≡ c + 1 = λ d q. one_number (next_number v.free) (c + 1) d (ap next_number p) q in
        let silent : own_of r.by c v.seen ≡ own_of r.by c (r.opening k) = none_between r.by c h.journal v.seen (r.opening k) f.seen o.opened x.steps in
        let first : Shows r k holds may record { words = s.words; homes = s.homes; views = set s.views id after } =
        changed r k holds may s.words s h id v after refl at (refit h.journal v after f refl refl refl f.kept) (λ a q. q)
        (λ d q. let e = next_is d q in (c, p, omega arith, refl)) (λ a q. h.retired a id v at q)
        (λ q. (id, after, set_there s.views id v after at, q)) in
        let new : IsNew r k holds may (set s.views id after) c = record {
          passless = at_changed (λ _ z. ¬ (z.agent ≡ Some c)) s.views id after (x.passless id v at) (λ l z _ el. x.passless l z el);
          handed = λ d. at_changed (λ i u. u.free ≡ Some d → c < d) s.views id after (λ q. let e = next_is d q in omega arith)
              (λ l z ne el q. absurd (ne (sym (h.lone id v at (c, p) l z el (d, q)))));
          living = at_changed (λ _ z. ¬ Among c z.also) s.views id after (λ q. let y = (h.retired c id v at q).handed c id v at p in
              absurd (omega arith)) (λ l z _ el q. let y = (h.retired c l z el q).handed c id v at p in absurd (omega arith));
        } in
        added r k holds may record { words = s.words; homes = s.homes; views = set s.views id after } first (next_pass r v)
        record {
          seen = f.seen;
          kept = (h.journal, refl);
          pass =
              λ b e. subst (Owns r k h.journal (next_pass r v)) (sym (one_number v.free c b p e)) record {
                below = lt;
                mine = x.mine;
                steps =
                    x.steps ∙ sym silent;
                opened = o.opened;
              };
        }
        refl refl (λ b e. subst (IsNew r k holds may (set s.views id after)) (sym (one_number v.free c b p e)) new)

    -- a pass takes a note
    pub takes : (id : ℕ) (v : View S Rec) (other : ℕ) (w : View S Rec) → w.agent ≡ None → w.taken ≡ []
        → Joins (Shows r k holds may) id v other w (keeping v w) (spent_view r)
    unfolding changed keeps_list
    takes id v other w unowned nobody s h at ne there =
        let before : get_elem? s.views other ≡ some w = sym (set_else s.views id other (keeping v w) ne) ∙ there in
        loses_agent record { words = s.words; homes = s.homes; views = set s.views id (keeping v w) }
        (keeps_list s h id v w.seen at (h.fits other w before).seen)
        other w (spent_view r) there refl refl refl (h.journal, refl) (h.journal, refl) (λ q. absurd (no_seer h.journal w unowned nobody q))

    abbrev confirmed : View S Rec → List S → View S Rec
    confirmed v l = record v { seen = l; kept = [] }

    -- the list of a note is taken over where it is longer
    pub confirms : (slots id i : ℕ) (me : Me (Unit {0}) (View S Rec))
        → Allows (Shows r k holds may) slots id me i (λ n. n) (λ _ me'. Confirmed r.by me.0 me'.0 × (me'.1 ≡ me.1))
    confirms slots id i me s h _ at _ =
        let v : View S Rec = me.0 in
        let f = h.fits id v at in
        ⊎_elim
        (λ (b : IsPrefix v.kept v.seen). let w : View S Rec = confirmed v v.seen in (
          w,
          keeps,
          tt,
          changed r k holds may _ s h id v w (set-get_or s.words i 0) at (refit h.journal v w f refl refl refl (h.journal, refl)) (λ a q. q)
              (λ c q. (c, q, omega arith, refl)) (λ a q. h.retired a id v at q)
              (λ q. (id, w, set_there s.views id v w at, q)),
          (record { one = inl (b, refl); same = record { agent = refl; free = refl; also = refl; mine = refl; steps = λ a e. refl } }, refl),
        ))
        (λ (b : IsPrefix v.seen v.kept).
        let w : View S Rec = confirmed v v.kept in
        let behind : IsPrefix v.seen h.journal = (b.0 ++ f.kept.0, sym (append_assoc v.seen b.0 f.kept.0) ∙ (ap (λ l. l ++ f.kept.0) b.1 ∙ f.kept.1)) in
        let same_of : (a : ℕ) → own_of r.by a h.journal ≡ own_of r.by a v.seen → own_of r.by a v.kept ≡ own_of r.by a v.seen = λ a e.
        ap (own_of r.by a) (sym b.1)
        ∙ own_of-others r.by a v.seen b.0
        (front_nil (own_of r.by a b.0) (own_of r.by a f.kept.0) (sym (own_of-append r.by a b.0 f.kept.0) ∙ none_behind r.by a h.journal v.seen behind e)) in
        let fits : SeatKnows r k h.journal w = record {
          seen = f.kept;
          kept = (h.journal, refl);
          pass = λ a e. let o = f.pass a e in
              record { below = o.below; mine = o.mine; steps = o.steps ∙ sym (same_of a o.steps); opened = goes_on (r.opening k) v.seen v.kept o.opened b };
        } in
        let whole : HasSeen h.journal v → HasSeen h.journal w = ⊎_elim
        (λ (t : (a : ℕ) × (v.agent ≡ Some a) × (v.seen ≡ h.journal)). inl
        (t.0, t.1, both_prefixes h.journal v.kept (subst (λ l. IsPrefix l v.kept) t.2 b) f.kept))
        (λ (q : Among h.journal v.taken). inr q) in (
          w,
          keeps,
          tt,
          changed r k holds may _ s h id v w (set-get_or s.words i 0) at fits (λ a q. q) (λ c q. (c, q, omega arith, refl))
              (λ a q. let x = h.retired a id v at q in record { steps = x.steps ∙ sym (same_of a x.steps); passless = x.passless; handed = x.handed })
              (λ q. (id, w, set_there s.views id v w at, whole q)),
          (
            record {
              one = inr (b, refl);
              same =
                  record {
                    agent = refl;
                    free = refl;
                    also = refl;
                    mine = refl;
                    steps =
                        λ a. ⊎_elim (λ e. same_of a (f.pass a e).steps) (λ q. same_of a (h.retired a id v at q).steps);
                  };
            },
            refl,
          ),
        ))
        (prefixes_of_one h.journal v.seen v.kept f.seen f.kept)

    -- what is left of a pass that was taken in
    abbrev husk : View S Rec → View S Rec
    husk w = record { seen = []; kept = []; agent = None; free = None; born = r.blank; also = []; taken = w.seen ∷ w.taken; own = r.blank }

    -- a pass takes in another for good
    pub absorbs : (id : ℕ) (v : View S Rec) (other : ℕ) (w : View S Rec) (b : ℕ) → w.agent ≡ Some b
        → ((a : ℕ) → Covers w a → own_of r.by a v.seen ≡ own_of r.by a w.seen) → Joins (Shows r k holds may) id v other w (absorbing v w) (spent_view r)
    unfolding changed loses_agent
    absorbs id v other w b is same s h at ne there =
        let both : View S Rec = absorbing v w in
        let nothing : IsPrefix [] h.journal = (h.journal, refl) in
        let left : View S Rec = husk w in
        let before : get_elem? s.views other ≡ some w = sym (set_else s.views id other both ne) ∙ there in
        let f = h.fits id v at in
        let o = (h.fits other w before).pass b is in
        let l1 : List (View S Rec) = set s.views other left in
        let l2 : List (View S Rec) = set l1 id both in
        let first : Shows r k holds may record { words = s.words; homes = s.homes; views = l1 } =
        loses_agent s h other w left before refl refl refl nothing nothing
        (λ q. (other, left, set_there s.views other w left before, inr (seen_and_taken h.journal w q))) in
        let at' : get_elem? l1 id ≡ some v = set_else s.views other id left (λ e. ne (sym e)) ∙ at in
        -- an agent without a pass in the other views has none now
        let gone : (a : ℕ) → own_of r.by a h.journal ≡ own_of r.by a v.seen
        → ((i : ℕ) (z : View S Rec) → i ≢ other → get_elem? s.views i ≡ some z → ¬ (z.agent ≡ Some a))
        → ((c i : ℕ) (z : View S Rec) → get_elem? s.views i ≡ some z → z.free ≡ Some c → a < c) → Retired r k h.journal l1 a v.seen =
        λ a steps passless handed. record {
          steps = steps;
          passless = at_changed (λ _ z. ¬ (z.agent ≡ Some a)) s.views other left (λ p. none_some None a refl p) passless;
          handed = λ c. at_changed (λ _ z. z.free ≡ Some c → a < c) s.views other left (λ p. absurd (none_some None c refl p)) (λ i z _ e. handed c i z e);
        } in
        let own : Retired r k h.journal l1 b v.seen = gone b (o.steps ∙ sym (same b (inl is))) (λ l z nl el p. nl (h.apart b l z el p other w before is))
        (λ c l z el p. dite (dec_le c b) (λ le. absurd ((h.unborn c l z el p b le o.below).passless other w before is)) (λ nle. lt_of_not-le nle)) in
        let theirs : (a : ℕ) → Among a w.also → Retired r k h.journal l1 a v.seen = λ a p. let x = h.retired a other w before p in
        gone a (x.steps ∙ sym (same a (inr p))) (λ l z _ el. x.passless l z el) x.handed in
        let others : (a : ℕ) → Among a (w.also ++ v.also) → Retired r k h.journal l1 a v.seen =
        λ a q. ⊎_elim (theirs a) (first.retired a id v at') (among_either a w.also v.also q) in
        let all : (a : ℕ) → Among a both.also → Retired r k h.journal l1 a v.seen =
        λ a. ⊎_elim (λ (q : agent_of w.agent ≡ a). subst (λ z. Retired r k h.journal l1 z v.seen) (sym (ap agent_of is) ∙ q) own) (others a) in
        let second : Shows r k holds may record { words = s.words; homes = s.homes; views = l2 } =
        changed r k holds may s.words record { words = s.words; homes = s.homes; views = l1 } first id v both refl at'
        (refit h.journal v both f refl refl refl f.kept) (λ a q. q) (λ c q. (c, q, omega arith, refl)) all
        (λ q. (id, both, set_there l1 id v both at', still_seen h.journal v w q)) in
        let there' : get_elem? l2 other ≡ some left = set_else l1 id other both ne ∙ set_there s.views other w left before in
        let last : Shows r k holds may record { words = s.words; homes = s.homes; views = set l2 other (spent_view r) } =
        loses_agent record { words = s.words; homes = s.homes; views = l2 } second other left (spent_view r) there' refl refl refl nothing nothing
        (λ q. (
          id,
          both,
          set_else l2 other id (spent_view r) (λ e. ne (sym e)) ∙ set_there l1 id v both at',
          seen_by_either h.journal v w
              (⊎_elim (λ (t : (a : ℕ) × (None ≡ Some a) × ([] ≡ h.journal)). absurd (none_some None t.0 refl t.1))
              (λ (x : Among h.journal (w.seen ∷ w.taken)). x) q),
        )) in
        subst (λ (l : List (View S Rec)). Shows r k holds may record { words = s.words; homes = s.homes; views = l })
        (ap (λ (l : List (View S Rec)). set l other (spent_view r)) (set_comm s.views other id left both ne)
        ∙ set-set (set s.views id both) other left (spent_view r)) last

module _ {S Rec : Type 0} where
  learned : (by : S → ℕ) (v u w x : View S Rec) → Confirmed by (keeping v u) w → Confirmed by (keeping u w) x → LearnedBoth by v u w x
  learned by v u w x first second = record {
    longer = first.one;
    both = ⊎_elim
        (λ (p : IsPrefix u.seen v.seen × (w.seen ≡ v.seen)). ⊎_elim
        (λ (q : IsPrefix w.seen u.seen × (x.seen ≡ u.seen)). q.1 ∙ (both_prefixes v.seen u.seen (subst (λ l. IsPrefix l u.seen) p.1 q.0) p.0 ∙ sym p.1))
        (λ (q : IsPrefix u.seen w.seen × (x.seen ≡ w.seen)). q.1) second.one)
        (λ (p : IsPrefix v.seen u.seen × (w.seen ≡ u.seen)). ⊎_elim
        (λ (q : IsPrefix w.seen u.seen × (x.seen ≡ u.seen)). q.1 ∙ sym p.1)
        (λ (q : IsPrefix u.seen w.seen × (x.seen ≡ w.seen)). q.1) second.one)
        first.one;
    into = record { agent = first.same.agent; free = first.same.free; also = first.same.also; mine = first.same.mine; steps = first.same.steps };
    from = record { agent = second.same.agent; free = second.same.free; also = second.same.also; mine = second.same.mine; steps = second.same.steps };
  }

  -- after each of the two has taken the other's list, both have the longer one
  pub learns : (by : S → ℕ) (v u w u' w' x : View S Rec) → u' ≡ u → w' ≡ w → Confirmed by (keeping v u) w → Confirmed by (keeping u' w) x → LearnedBoth by v u w' x
  learns by v u w u' w' x su sw first second =
      subst (λ z. LearnedBoth by v u z x) (sym sw) (learned by v u w x first (subst (λ z. Confirmed by (keeping z w) x) su second))
