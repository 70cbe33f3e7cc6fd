-- How a publish's turn ended, and how many events its pieces make.
use Rattle.std.proofs.Common.{Bool, None, Option, Some, ap, arith, false, refl, subst, sym, true, ℕ, ◌+◌, ◌≡◌, ◌≤◌}
use Rattle.orc_fault.specs.declared.Spent.{Spent}
use Rattle.orc_heap.specs.Heap.{HeapNumbers}
use Rattle.orc_heap.specs.Seats.{Seat, heap_of}
use Rattle.orc_heap.specs.Slots.{id_in}
use Rattle.orc_heap.specs.declared.holds.Want.{Want}
use Rattle.orc_heap.specs.declared.holds.Want.TheVariants.{Node as WantNode, Null as WantNull}
use Rattle.orc_pairs_rule.specs.declared.pairs.PairsNote.{PairsNote}
use Rattle.orc_cell.specs.Publishes.{ComesAfter, events_for, nodes_for, part_count}
use Rattle.orc_cell.specs.Turns.{IsPairOf}
use Rattle.orc_cell.specs.declared.publish.New.{New}
use Rattle.orc_cell.specs.declared.publish.New.TheVariants.{Kept}
use Rattle.orc_cell.specs.declared.publish.PublishTurn.TheVariants.{Over, Published as Done, Spent as Worn}

-- a turn that found a row worn says which
pub turn_spent : {spent why : Spent} (Fact : Spent → Type 0) → Worn spent ≡ Worn why → Fact spent → Fact why
turn_spent {spent = spent} {why = why} Fact is fact = let e : spent ≡ why = cc in subst Fact e fact

-- a turn that is over, or that published the pair, found none worn

pub over_spent : (why : Spent) → Over ≡ Worn why → ⊥
over_spent why is = cc

pub done_spent : (x y : ℕ) (why : Spent) → Done x y ≡ Worn why → ⊥
done_spent x y why is = cc

-- the first pieces of three make at most what all three make

pub none_few : (s k : ℕ) → s ≤ s + k
none_few s k = omega arith

pub one_few : (s t k l m : ℕ) → t ≤ s + k → t ≤ s + (k + l + m)
one_few s t k l m one = omega (arith, one)

pub two_few : (s a t k l m : ℕ) → a ≤ s + k → t ≤ a + l → t ≤ s + (k + l + m)
two_few s a t k l m one two = omega (arith, one, two)

pub three_few : (s a b t k l m : ℕ) → a ≤ s + k → b ≤ a + l → t ≤ b + m → t ≤ s + (k + l + m)
three_few s a b t k l m one two three = omega (arith, one, two, three)

-- a half whose part isn't given asks for three events

pub kept_few : (given : Option ℕ) (s t : ℕ) → given ≡ None → t ≤ s + 3 → t ≤ s + events_for given
kept_few given s t none few = subst (λ (x : Option ℕ). t ≤ s + events_for x) (sym none) few

pub staged_few : (given : Option ℕ) (s t : ℕ) → given ≡ None → t ≤ s + 1 → t ≤ s + events_for given
staged_few given s t none few = kept_few given s t none (omega (arith, few))

-- the link leads to a pair, or to none
abbrev pub LeadsToPair : HeapNumbers → Seat PairsNote → Want → Type 0
LeadsToPair n s (WantNull mark) = Unit {0}
LeadsToPair n s (WantNode h mark) = IsPairOf (heap_of n s) (id_in s.slots h.now)

pub follows_pair : (n : HeapNumbers) (s : Seat PairsNote) (from : Want) (new : New) → ComesAfter n from s new → LeadsToPair n s from
follows_pair n s (WantNull mark) new f = tt
follows_pair n s (WantNode h false) new f = f.1
follows_pair n s (WantNode h true) new f = absurd f

-- one node is given for a part that is given
pub given_node : (given : Option ℕ) (empty : Bool) (value : ℕ) → Some value ≡ given → 1 ≡ nodes_for given empty
given_node given true value is = refl
given_node given false value is = ap part_count is

-- a part that is to be kept follows a pair
pub kept_follows : (n : HeapNumbers) (s : Seat PairsNote) (mark : Bool) → ComesAfter n (WantNull mark) s Kept → ⊥
kept_follows n s false f = f
kept_follows n s true f = f
