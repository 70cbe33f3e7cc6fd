-- Lists of workers, popped from the end and pushed at the end.
use denote.Param.Members.{Shared}
use Rattle.std.proofs.Common.{◌≡◌, Bool, false, true, List, [], ◌∷◌, ◌++◌, ap, length, refl, suc, sym, ◌∙◌, subst, append_assoc, arith}
use Rattle.std.proofs.lemmas.List.{append-nil}
use Rattle.std.specs.List.{AllByRecursion}
use Rattle.orc_history.specs.Lists.{Pairwise}
use Rattle.orc_team.specs.Team.{Team, Worked}
use Rattle.orc_board.proofs.Workers.{Pairwise-snoc}

-- none that waited
pub Team-none : {X : Type 0} (R : X → X → Type 0) (waiting before : List X) → length waiting ≡ 0 → Team R waiting before before
Team-none R [] before none = record { new = []; is = sym (append-nil before); each = tt }
Team-none R (x ∷ xs) before none = absurd (omega (arith, none))

-- one that waited last
pub Team-more : {X : Type 0} (R : X → X → Type 0) (waiting before after : List X) (x y : X)
    → Team R waiting before after → R x y → Team R (waiting ++ x ∷ []) before (after ++ y ∷ [])
Team-more R waiting before after x y t r = record {
  new = t.new ++ y ∷ [];
  is = ap (λ w. w ++ y ∷ []) t.is ∙ append_assoc before t.new (y ∷ []);
  each = Pairwise-snoc R waiting t.new x y t.each r;
}

pub Pairwise-length : {X : Type 0} (R : X → X → Type 0) (xs ys : List X) → Pairwise R xs ys → length ys ≡ length xs
Pairwise-length R [] [] p = refl
Pairwise-length R [] (y ∷ ys) p = absurd p
Pairwise-length R (x ∷ xs) [] p = absurd p
Pairwise-length R (x ∷ xs) (y ∷ ys) p = ap suc (Pairwise-length R xs ys p.1)

pub Pairwise-map : {X : Type 0} (R S : X → X → Type 0) (xs ys : List X) → ((x y : X) → R x y → S x y) → Pairwise R xs ys → Pairwise S xs ys
Pairwise-map R S [] [] f r = tt
Pairwise-map R S [] (y ∷ ys) f r = absurd r
Pairwise-map R S (x ∷ xs) [] f r = absurd r
Pairwise-map R S (x ∷ xs) (y ∷ ys) f r = (f x y r.0, Pairwise-map R S xs ys f r.1)

-- what each of the first has becomes what each of the second has
pub AllByRecursion-next : {X : Type 0} (P Q : X → Type 0) (R : X → X → Type 0) (xs ys : List X) → ((x y : X) → P x → R x y → Q y) → AllByRecursion P xs
    → Pairwise R xs ys → AllByRecursion Q ys
AllByRecursion-next P Q R [] [] f p r = tt
AllByRecursion-next P Q R [] (y ∷ ys) f p r = absurd r
AllByRecursion-next P Q R (x ∷ xs) [] f p r = absurd r
AllByRecursion-next P Q R (x ∷ xs) (y ∷ ys) f p r = (f x y p.0 r.0, AllByRecursion-next P Q R xs ys f p.1 r.1)

-- what each pair gives of its second
pub AllByRecursion-second : {X : Type 0} (P : X → Type 0) (R : X → X → Type 0) (xs ys : List X) → ((x y : X) → R x y → P y) → Pairwise R xs ys
    → AllByRecursion P ys
AllByRecursion-second P R [] [] f r = tt
AllByRecursion-second P R [] (y ∷ ys) f r = absurd r
AllByRecursion-second P R (x ∷ xs) [] f r = absurd r
AllByRecursion-second P R (x ∷ xs) (y ∷ ys) f r = (f x y r.0, AllByRecursion-second P R xs ys f r.1)

pub Pairwise-through : {X : Type 0} (R S T : X → X → Type 0) (xs ys zs : List X) → ((x y z : X) → R x y → S y z → T x z) → Pairwise R xs ys
    → Pairwise S ys zs → Pairwise T xs zs
Pairwise-through R S T [] [] [] f r s = tt
Pairwise-through R S T [] [] (z ∷ zs) f r s = absurd s
Pairwise-through R S T [] (y ∷ ys) zs f r s = absurd r
Pairwise-through R S T (x ∷ xs) [] zs f r s = absurd r
Pairwise-through R S T (x ∷ xs) (y ∷ ys) [] f r s = absurd s
Pairwise-through R S T (x ∷ xs) (y ∷ ys) (z ∷ zs) f r s = (f x y z r.0 s.0, Pairwise-through R S T xs ys zs f r.1 s.1)

-- what follows from what the first of each pair is, and what it has become
pub all_left : {X : Type 0} (P Q : X → Type 0) (R : X → X → Type 0) (xs ys : List X) → ((x y : X) → P x → R x y → Q x) → AllByRecursion P xs
    → Pairwise R xs ys → AllByRecursion Q xs
all_left P Q R [] [] f p r = tt
all_left P Q R [] (y ∷ ys) f p r = absurd r
all_left P Q R (x ∷ xs) [] f p r = absurd r
all_left P Q R (x ∷ xs) (y ∷ ys) f p r = (f x y p.0 r.0, all_left P Q R xs ys f p.1 r.1)

-- where nothing was there before
pub team_did : {X F : Type 0} (g : Shared F (X × Unit {0}) X) (work : F) (R : X → X → Type 0) (waiting before after : List X)
    → ((x y : X) → Worked g work x y → R x y) → before ≡ [] → Team (Worked g work) waiting before after → Pairwise R waiting after
team_did g work R waiting before after did none t =
    subst (λ xs. Pairwise R waiting xs) (sym (t.is ∙ ap (λ xs. xs ++ t.new) none)) (Pairwise-map (Worked g work) R waiting t.new did t.each)

-- what is said of each of two holds of both
pub for_both : (P : Bool → Type 0) → P false → P true → (b : Bool) → P b
for_both P f t false = f
for_both P f t true = t
