-- A pass that learns from others, one after another, and then once more.
use Rattle.std.proofs.Common.{List, [], ap, arith, length, refl, subst, suc, sym, zero, ℕ, ◌<◌, ◌∙◌, ◌∷◌, ◌≡◌, ◌≢◌}
use Rattle.std.proofs.Common.{⊎_elim}
use Rattle.std.proofs.lemmas.List.Elements.{All-from_recursion}
use Rattle.std.specs.List.{AllByRecursion}
use Rattle.std.specs.Prelude.{slice_index_or}
use mathlib.Core.List.{IsPrefix}
use Rattle.orc_any_domain.proofs.Lists.{all_unit, pairwise_all, pairwise_join, pairwise_map}
use Rattle.orc_any_domain.specs.Learning.{Hears, HearsAll, HearsWithin, HoldsSame, IsOneOf, LearnsAll, LearnsRound}
use Rattle.orc_history.specs.Lists.{Pairwise}
use Rattle.orc_heap.proofs.Pieces.{goes_on}
use Rattle.orc_heap.proofs.Prefixes.{both_prefixes, prefix_same}
use Rattle.orc_heap.specs.Calls.{IsLonger, Learns}
use Rattle.orc_heap.specs.Seats.{IsIdle, Seat}
use Rattle.orc_heap.specs.declared.events.Event.{Event}
use Rattle.orc_history.specs.Journals.{own_of}

module _ {N W : Type 0} (seat : W → Seat N) where
  pub same_trans : (u v w : W) → HoldsSame seat u v → HoldsSame seat v w → HoldsSame seat u w
  same_trans u v w h k = record { agent = k.agent ∙ h.agent; slots = k.slots ∙ h.slots; fresh = k.fresh ∙ h.fresh }

  pub idle_same : (v w : W) → HoldsSame seat v w → IsIdle (seat v) → IsIdle (seat w)
  idle_same v w h i = record { slots = h.slots ∙ i.slots; fresh = h.fresh ∙ i.fresh }

  pub idle_all : (vs ws : List W) → Pairwise (HoldsSame seat) vs ws → AllByRecursion (λ p. IsIdle (seat p)) vs → AllByRecursion (λ p. IsIdle (seat p)) ws
  idle_all vs ws h i = pairwise_all (HoldsSame seat) (λ p. IsIdle (seat p)) (λ p. IsIdle (seat p)) idle_same vs ws h i

  -- the first pass stays of another agent than the others
  pub still_differ : (vs ws : List W) (v x : W) → Pairwise (HoldsSame seat) vs ws → HoldsSame seat v x
      → AllByRecursion (λ p. (seat v).agent ≢ (seat p).agent) vs → AllByRecursion (λ p. (seat x).agent ≢ (seat p).agent) ws
  still_differ vs ws v x h k d = pairwise_all (HoldsSame seat) (λ p. (seat v).agent ≢ (seat p).agent) (λ p. (seat x).agent ≢ (seat p).agent)
      (λ p q s ne e. ne (sym k.agent ∙ (e ∙ s.agent))) vs ws h d

  module _ {S : Type 0} (agent_of : S → ℕ) (list : W → List S) where
    pub hears_trans : (u v w : W) → Hears seat agent_of list u v → Hears seat agent_of list v w → Hears seat agent_of list u w
    hears_trans u v w h k = record {
      same = same_trans u v w h.same k.same;
      more = goes_on (list u) (list v) (list w) h.more k.more;
      own = subst (λ a. own_of agent_of a (list w) ≡ own_of agent_of a (list v)) h.same.agent k.own ∙ h.own;
    }

    -- two passes, v and w, are now x and y, and both have seen the longer of their two lists
    pub record Shares (v w x y : W) : Type 0 where
      pub first : HoldsSame seat v x
      pub second : HoldsSame seat w y
      pub one : list x ≡ list y
      pub longer : IsLonger (list v) (list w) (list x)
      pub first_own : own_of agent_of (seat v).agent (list x) ≡ own_of agent_of (seat v).agent (list v)
      pub second_own : own_of agent_of (seat w).agent (list x) ≡ own_of agent_of (seat w).agent (list w)

    module _ (v w x y : W) (l : Shares v w x y) where
      pub first_hears : Hears seat agent_of list v x
      first_hears = record {
        same = l.first;
        more = ⊎_elim (λ h. subst (IsPrefix (list v)) (sym h.1) h.0) (λ h. prefix_same (list v) (list x) h.1) l.longer.of_both;
        own = l.first_own;
      }

      pub second_hears : Hears seat agent_of list w y
      second_hears = record {
        same = l.second;
        more = subst (IsPrefix (list w)) l.one
            (⊎_elim (λ h. prefix_same (list w) (list x) h.1) (λ h. subst (IsPrefix (list w)) (sym h.1) h.0) l.longer.of_both);
        own = ap (own_of agent_of (seat w).agent) (sym l.one) ∙ l.second_own;
      }

      -- where the one had seen no more than the other, both have seen what the other had seen
      pub shares_all : IsPrefix (list v) (list w) → list x ≡ list w
      shares_all p = ⊎_elim (λ h. h.1) (λ h. h.1 ∙ both_prefixes (list w) (list v) h.0 p) l.longer.of_both

    -- what holds of the lists of all these passes holds of that of one of them
    pub one_of_all : (P : List S → Type 0) (ws : List W) (it : List S) → IsOneOf seat agent_of list ws it → AllByRecursion (λ w. P (list w)) ws → P it
    one_of_all P [] it o h = let low = o.low in absurd (omega (arith, low))
    one_of_all P (w ∷ ws) it o h = subst P (sym (o.is w)) (All-from_recursion (λ p. P (list p)) (w ∷ ws) h o.place w o.low)

    one_more : (v w x : W) (ws : List W) (it : List S) → IsLonger (list v) (list w) (list x) → IsOneOf seat agent_of list (x ∷ ws) it
        → IsOneOf seat agent_of list (v ∷ w ∷ ws) it
    one_more v w x ws it l o = at o.place o.low o.is
      where
        at : (place : ℕ) → place < length (x ∷ ws) → ((p : W) → it ≡ list (slice_index_or (x ∷ ws) place p)) → IsOneOf seat agent_of list (v ∷ w ∷ ws) it
        at zero low is = ⊎_elim
            (λ h. record { place = 1; low = omega arith; is = λ p. is p ∙ h.1 })
            (λ h. record { place = 0; low = omega arith; is = λ p. is p ∙ h.1 })
            l.of_both
        at (suc k) low is = record { place = suc (suc k); low = omega (arith, low); is = is }

    pub round_more : (v x z w y : W) (ws ys all : List W) → all ≡ w ∷ ws → Shares v w x y → LearnsRound seat agent_of list x z ws ys
        → LearnsRound seat agent_of list v z all (y ∷ ys)
    round_more v x z w y ws ys all is l r =
        let first = first_hears v w x y l in
        subst (λ (t : List W). LearnsRound seat agent_of list v z t (y ∷ ys)) (sym is) (record {
          first = hears_trans v x z first r.first;
          others = (
            record {
              hears = second_hears v w x y l;
              least = subst (IsPrefix (list v)) l.one first.more;
              most = subst (λ (t : List S). IsPrefix t (list z)) l.one r.first.more;
            },
            pairwise_map (HearsWithin seat agent_of list (list x) (list z)) (HearsWithin seat agent_of list (list v) (list z))
                (λ p q h. record { hears = h.hears; least = goes_on (list v) (list x) (list q) first.more h.least; most = h.most }) ws ys r.others,
          );
          longest = one_more v w x ws (list z) l.longer r.longest;
        })

    -- what the others held they hold
    pub round_same : (v x : W) (ws ys : List W) → LearnsRound seat agent_of list v x ws ys → Pairwise (HoldsSame seat) ws ys
    round_same v x ws ys r = pairwise_map (HearsWithin seat agent_of list (list v) (list x)) (HoldsSame seat) (λ p q h. h.hears.same) ws ys r.others

    -- after one round, the first has seen all that each of the others has seen
    all_within : (v x : W) (ws ys : List W) → LearnsRound seat agent_of list v x ws ys → AllByRecursion (λ y. IsPrefix (list y) (list x)) ys
    all_within v x ws ys r = pairwise_all (HearsWithin seat agent_of list (list v) (list x)) (λ w. Unit {0}) (λ y. IsPrefix (list y) (list x))
        (λ w y h _. h.most) ws ys r.others (all_unit ws)

    module _ (v x z : W) (ws ys us : List W) (r : LearnsRound seat agent_of list v x ws ys) (q : LearnsRound seat agent_of list x z ys us) where
      -- a second round adds nothing
      adds_nothing : list z ≡ list x
      adds_nothing = both_prefixes (list x) (list z) q.first.more (one_of_all (λ t. IsPrefix t (list x)) (x ∷ ys) (list z) q.longest
          (prefix_same (list x) (list x) refl, all_within v x ws ys r))

      -- and then all have seen one list
      pub twice : LearnsAll seat agent_of list v z ws us
      twice = record {
        each = (
          record { hears = hears_trans v x z r.first q.first; seen = refl },
          pairwise_join (HearsWithin seat agent_of list (list v) (list x)) (HearsWithin seat agent_of list (list x) (list z))
              (HearsAll seat agent_of list (list z))
              (λ w y u h k. record {
                hears = hears_trans w y u h.hears k.hears;
                seen = sym (both_prefixes (list u) (list z) k.most (subst (λ t. IsPrefix t (list u)) (sym adds_nothing) k.least));
              })
              ws ys us r.others q.others,
        );
        longest = record { place = r.longest.place; low = r.longest.low; is = λ p. adds_nothing ∙ r.longest.is p };
      }

-- passes that learned share their steps, and their events
module _ {N S W : Type 0} (seat : W → Seat N) (agent_of : S → ℕ) (journal : W → List S) (v w x y : W)
    (l : Learns agent_of (seat v) (seat w) (seat x) (seat y) (journal v) (journal w) (journal x) (journal y))
  where
    shares : {T : Type 0} (agent_in : T → ℕ) (list : W → List T) → list x ≡ list y → IsLonger (list v) (list w) (list x)
        → (own_of agent_in (seat v).agent (list x) ≡ own_of agent_in (seat v).agent (list v))
        × (own_of agent_in (seat w).agent (list x) ≡ own_of agent_in (seat w).agent (list w)) → Shares seat agent_in list v w x y
    shares agent_in list one longer own = record {
      first = record { agent = l.agents.0; slots = l.slots.0; fresh = l.fresh.0 };
      second = record { agent = l.agents.1; slots = l.slots.1; fresh = l.fresh.1 };
      one = one;
      longer = longer;
      first_own = own.0;
      second_own = own.1;
    }

    pub shares_steps : Shares seat agent_of journal v w x y
    shares_steps = shares agent_of journal l.one_journal l.longer l.steps

    pub shares_events : Shares seat (λ (e : Event N). e.agent) (λ p. (seat p).seen) v w x y
    shares_events = shares (λ (e : Event N). e.agent) (λ p. (seat p).seen) l.one_list l.longer_list l.events
