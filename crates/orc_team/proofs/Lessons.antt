-- Learning from all others twice over.
use Rattle.std.proofs.Common.{◌≡◌, ℕ, length, arith, length-append, List, [], ◌∷◌, ◌++◌, inl, inr, refl, ap, sym, ◌∙◌, subst, append-nil}
use mathlib.Core.List.{IsPrefix}
use Rattle.std.specs.List.{AllByRecursion}
use Rattle.orc_history.specs.Journals.{LearnsEntries, own_of}
use Rattle.orc_team.specs.Learning.{IsHeard, HasSeenAll, Learned, LearnedAll}
use Rattle.orc_board.proofs.Shares.{prefix_trans}
use Rattle.orc_team.proofs.Teams.{AllByRecursion-second, Pairwise-through}

pub prefix_refl : {X : Type 0} (xs : List X) → IsPrefix xs xs
prefix_refl xs = ([], append-nil xs)

no_length : {X : Type 0} (xs : List X) → length xs ≡ 0 → xs ≡ []
no_length [] e = refl
no_length (x ∷ xs) e = absurd (omega (arith, e))

pub prefix_both : {X : Type 0} (xs ys : List X) → IsPrefix xs ys → IsPrefix ys xs → xs ≡ ys
prefix_both xs ys p q =
    let a : length (xs ++ p.0) ≡ length ys = ap length p.1 in
    let b : length (ys ++ q.0) ≡ length xs = ap length q.1 in
    let none : p.0 ≡ [] = no_length p.0 (omega (arith, a, b, length-append xs p.0, length-append ys q.0)) in
    sym (append-nil xs) ∙ (ap (λ r. xs ++ r) (sym none) ∙ p.1)

module _ {A E : Type 0} (history : List A → List E) (agent_of : E → ℕ) where
  -- the longer list goes on from both
  pub into_longer : (a b : ℕ) (x y z z2 : List A) → LearnsEntries history agent_of a b x y z z2 → IsPrefix x z
  into_longer a b x y z z2 l = elim l.longer as (λ _. IsPrefix x z) [
    | inl p ↦ subst (λ w. IsPrefix x w) (sym p.1) p.0
    | inr p ↦ subst (λ w. IsPrefix x w) (sym p.1) (prefix_refl x)
  ]

  pub from_longer : (a b : ℕ) (x y z z2 : List A) → LearnsEntries history agent_of a b x y z z2 → IsPrefix y z
  from_longer a b x y z z2 l = elim l.longer as (λ _. IsPrefix y z) [
    | inl p ↦ subst (λ w. IsPrefix y w) (sym p.1) (prefix_refl y)
    | inr p ↦ subst (λ w. IsPrefix y w) (sym p.1) p.0
  ]

  -- what has been seen already changes nothing
  pub learned_again : (a b : ℕ) (x y z z2 : List A) → LearnsEntries history agent_of a b x y z z2 → IsPrefix y x → z ≡ x
  learned_again a b x y z z2 l seen = elim l.longer as (λ _. z ≡ x) [ inl p ↦ p.1 ∙ prefix_both y x seen p.0 | inr p ↦ p.1 ]

abbrev pub own_in : {A E : Type 0} → (List A → List E) → (E → ℕ) → ℕ → List A → List E
own_in history agent_of a j = own_of agent_of a (history j)

-- one learns from one more, whose pass shows this agent
pub Learned-at : {W A E : Type 0} (history : List A → List E) (agent_of : E → ℕ) (agent : W → ℕ) (journal : W → List A) (me a b : ℕ) (x y y2 z : List A)
    (w v : W) (ws vs all : List W)
    → all ≡ w ∷ ws
    → a ≡ me
    → b ≡ agent w
    → LearnsEntries history agent_of a b x (journal w) y y2
    → agent v ≡ agent w
    → journal v ≡ y2
    → Learned agent journal (own_in history agent_of) me y z ws vs
    → Learned agent journal (own_in history agent_of) me x z all (v ∷ vs)
Learned-at {W} {A} {E} history agent_of agent journal me a b x y y2 z w v ws vs all is a_is b_is l known same2 rest =
    let own : ℕ → List A → List E = own_in history agent_of in
    let same : journal v ≡ y = same2 ∙ sym l.one in
    let begins : IsPrefix (journal w) y = from_longer history agent_of a b x (journal w) y y2 l in
    let kept : own (agent w) y ≡ own (agent w) (journal w) = subst (λ (n : ℕ). own n y ≡ own n (journal w)) b_is l.own2 in
    let done : Learned agent journal own me x z (w ∷ ws) (v ∷ vs) = record {
      grows = prefix_trans x y z (into_longer history agent_of a b x (journal w) y y2 l) rest.grows;
      own_is = rest.own_is ∙ subst (λ (n : ℕ). own n y ≡ own n x) a_is l.own1;
      each = (
        record {
          agent_is = known;
          begins = subst (λ u. IsPrefix (journal w) u) (sym same) begins;
          seen = subst (λ u. IsPrefix u z) (sym same) rest.grows;
          own_is = ap (λ u. own (agent w) u) same ∙ kept;
        },
        rest.each,
      );
      again = λ s.
          let still : y ≡ x = learned_again history agent_of a b x (journal w) y y2 l s.0 in
          let r = rest.again (subst (λ u. AllByRecursion (λ n. IsPrefix (journal n) u) ws) (sym still) s.1) in (
            r.0 ∙ still,
            (
              record {
                agent_is = known;
                begins = subst (λ u. IsPrefix (journal w) u) (sym (r.0 ∙ still)) s.0;
                is = same
                    ∙ sym r.0;
                own_is = ap (λ u. own (agent w) u) r.0 ∙ kept;
              },
              r.1,
            ),
          );
    } in
    subst (λ us. Learned agent journal own me x z us (v ∷ vs)) (sym is) done

-- twice over is enough
pub Learned-twice : {W A E : Type 0} (agent : W → ℕ) (journal : W → List A) (own : ℕ → List A → List E) (me : ℕ) (x y z : List A) (ws us vs : List W)
    → Learned agent journal own me x y ws us
    → Learned agent journal own me y z us vs
    → LearnedAll agent journal own me x z ws vs
Learned-twice agent journal own me x y z ws us vs one two =
    let r = two.again (AllByRecursion-second (λ u. IsPrefix (journal u) y) (IsHeard agent journal own y) ws us (λ w u h. h.seen) one.each) in
    record {
      grows = prefix_trans x y z one.grows two.grows;
      own_is = two.own_is ∙ one.own_is;
      each =
          Pairwise-through (IsHeard agent journal own y) (HasSeenAll agent journal own z) (HasSeenAll agent journal own z) ws us vs
          (λ w u v h k. record {
            agent_is = k.agent_is ∙ h.agent_is;
            begins = prefix_trans (journal w) (journal u) z h.begins k.begins;
            is = k.is;
            own_is = (ap (λ n. own n z) (sym h.agent_is) ∙ k.own_is) ∙ (ap (λ n. own n (journal u)) h.agent_is ∙ h.own_is);
          })
          one.each r.1;
    }

-- the same for what the agents' numbers are
pub learns_as : {A E : Type 0} (history : List A → List E) (agent_of : E → ℕ) (a b me other : ℕ) (x y z z2 : List A) → a ≡ me → b ≡ other
    → LearnsEntries history agent_of a b x y z z2 → LearnsEntries history agent_of me other x y z z2
learns_as history agent_of a b me other x y z z2 e f l = record {
  one = l.one;
  longer = l.longer;
  own1 = subst (λ (n : ℕ). own_of agent_of n (history z) ≡ own_of agent_of n (history x)) e l.own1;
  own2 = subst (λ (n : ℕ). own_of agent_of n (history z) ≡ own_of agent_of n (history y)) f l.own2;
}
