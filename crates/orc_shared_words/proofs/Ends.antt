-- How the rule begins, and what it says at the end.
use Rattle.std.proofs.Common.{List, Some, [], append-nil, arith, ap, refl, subst, sym, ℕ, ◌++◌, ◌<◌, ◌∙◌, ◌≡◌, ◌≤◌, ◌∷◌, ⊎_elim, inl}
use Rattle.atomic_table.specs.Table.{Final, Seen, opening}
use Rattle.orc_heap.specs.Allowed.{AllAllowed}
use Rattle.orc_heap.specs.declared.events.Event.{Event}
use Rattle.orc_layout.specs.Layout.{lay}
use Rattle.orc_shared_words.specs.declared.journal.View.{View}
use Rattle.orc_shared_words.specs.Ends.{OpensLawfully, OwnsAll, Whole}
use mathlib.Core.List.{IsPrefix}
use Rattle.orc_shared_words.specs.Lists.{Among}
use Rattle.orc_shared_words.specs.Rule.{SeatKnows, HandsOut, Owns, Shows, Unborn}
use Rattle.orc_shared_words.specs.Runs.{AgentsBelow, Rules}
use Rattle.orc_history.specs.Journals.{own_of}
use Rattle.orc_shared_words.specs.Views.{first_view}
use Rattle.orc_shared_words.proofs.Changes.{one_alone}
use Rattle.orc_heap.proofs.Prefixes.{prefix_same}
use Rattle.orc_shared_words.proofs.Runs.{below-tail, none_behind, none_left}
use Rattle.orc_shared_words.proofs.Seats.{at_one, one_number}

module _ {K S Op Rec N : Type 0} (r : Rules K S Op Rec N) (k : K) (holds : List (Event N) → Type 0) (may : List (Event N) → Event N → Type 0) where
  -- the table of new shared words keeps the rule
  pub opens : (words : List ℕ) → words ≡ lay (r.index k) (r.words k (r.opening k)) → OpensLawfully r k holds may → Shows r k holds may (opening words [] (first_view r k))
  opens words same o =
      let v : View S Rec = first_view r k in
      let j : List S = r.opening k in
      record {
        journal = j;
        attained = (0, v, refl, inl (0, refl, refl));
        fits = at_one v (λ _ u. SeatKnows r k j u) record {
          seen = prefix_same j j refl;
          kept = (j, refl);
          pass = λ a e. subst (Owns r k j v) (sym (one_number (Some 0) 0 a refl e)) record {
            below = o.someone;
            mine = refl;
            steps = refl;
            opened =
                prefix_same j j refl;
          };
        };
        lawful = o.lawful;
        opened = prefix_same j j refl;
        words = same;
        apart = λ a. one_alone (λ u. u.agent ≡ Some a) v;
        each = o.each;
        kept = o.kept;
        below = o.below;
        unborn = λ a. at_one v (λ _ u. u.free ≡ Some a → (b : ℕ) → a ≤ b → b < r.agents k → Unborn r k j (v ∷ []) u.born b) (λ e b le lt.
            let first : a ≡ 1 = one_number (Some 1) 1 a refl e in
            record {
              mine = o.born b (omega arith) lt;
              steps = refl;
              passless =
                  at_one v (λ _ z. ¬ (z.agent ≡ Some b)) (λ p. let z : b ≡ 0 = one_number (Some 0) 0 b refl p in omega arith);
            });
        lone = one_alone HandsOut v;
        retired = λ a i u ei q. absurd (at_one v (λ _ u. Among a u.also → ⊥) (λ q. q) i u ei q);
      }

  -- the pass that has all others in it has seen the whole journal, which the words show
  pub closes : (id : ℕ) (v : View S Rec) (words : List ℕ) (slots : List (Unit {0})) → OwnsAll r k v → Final (Seen (Shows r k holds may) id v) words slots
      → Whole r k holds may v.seen words
  closes id v words slots all fin =
      let s = fin.0 in
      let h = fin.1.0 in
      let at = fin.1.1 in
      let f = h.fits id v at in
      let quiet : (a : ℕ) → a < r.agents k → own_of r.by a f.seen.0 ≡ [] = λ a lt.
      none_behind r.by a h.journal v.seen f.seen (⊎_elim (λ e. (f.pass a e).steps) (λ q. (h.retired a id v at q).steps) (all a lt)) in
      let none : f.seen.0 ≡ [] =
      none_left r.by (r.agents k) f.seen.0
      (below-tail r.by (r.agents k) v.seen f.seen.0 (subst (AgentsBelow r.by (r.agents k)) (sym f.seen.1) h.below)) quiet in
      let whole : h.journal ≡ v.seen = sym f.seen.1 ∙ (ap (λ l. v.seen ++ l) none ∙ append-nil v.seen) in
      record {
        words_are = sym fin.2 ∙ (h.words ∙ ap (λ l. lay (r.index k) (r.words k l)) whole);
        lawful = subst (r.lawful k) whole h.lawful;
        opened = subst (IsPrefix (r.opening k)) whole h.opened;
        below = subst (AgentsBelow r.by (r.agents k)) whole h.below;
        each = subst (λ l. AllAllowed may [] (r.project k l)) whole h.each;
        kept = subst (λ l. holds (r.project k l)) whole h.kept;
      }
