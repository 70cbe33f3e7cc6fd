-- The new state is sound.
use Rattle.std.proofs.Common.{Bool, ap, arith, cond, false, get_or, refl, suc, sym, true, zero, ℕ, ◌%◌, ◌*◌, ◌/◌, ◌<◌, ◌∙◌, ◌≡◌}
use Rattle.std.proofs.lemmas.Bool.{false≢true, lt-ltb}
use Rattle.std.specs.Prelude.{replicate, slice_index_or}
use Rattle.orc_words.proofs.NewWords.{new_words_each}
use Rattle.orc_words.specs.Bounds.{Bounds}
use Rattle.orc_words.specs.NewWords.{new_word}
use Rattle.orc_words.specs.Packed.{bit}
use Rattle.orc_words.specs.declared.place.Word.{Word}
use Rattle.orc_words.specs.declared.place.Word.TheVariants.{Counter, Enrolled, Gate, Handover, Next, Root, Slot, Side}
use Rattle.orc_core.specs.Machine.{new_machine, nobody}
use Rattle.orc_core.specs.RecordParts.{names}
use Rattle.orc_core.specs.declared.records.SlotUse.TheVariants.{Empty}
use Rattle.orc_sound.proofs.Bridge.{is_within-true}
use Rattle.orc_sound.proofs.Facts.{Counted, SlotsFit, handed_in, hands_row, linked_in, out, to_row}
use Rattle.orc_sound.proofs.Outs.{null_row, zero_one}
use Rattle.orc_sound.proofs.Sums.{sum_zero}
use Rattle.orc_sound.proofs.World.{World, is_within, world_of}
use Rattle.orc_sound.specs.Linked.{uses}
use Rattle.orc_sound.specs.SoundParts.{slot_word}
use Rattle.orc_sound.specs.RetirementToken.{places_of}
use Rattle.orc_words.specs.Places.{link_at}

memory_first : (b : Bounds) (w : Word) (t : Bool) → is_within b w ≡ t → (world_of (new_machine b)).memory w ≡ cond t (new_word w) 0
memory_first b w true e = rw e (new_words_each b w (is_within-true b w e))
memory_first b w false e = rw e

-- but for the counters each word is 0 at first
pub zero_first : (b : Bounds) (w : Word) → new_word w ≡ 0 → (world_of (new_machine b)).memory w ≡ 0
zero_first b w z = memory_first b w (is_within b w) refl ∙ rest (is_within b w)
  where
    rest : (t : Bool) → cond t (new_word w) 0 ≡ 0
    rest true = z
    rest false = refl

same_each : {A : Type 0} (n i : ℕ) (x : A) → get_or (replicate n x) i x ≡ x
same_each zero i x = refl
same_each (suc n) zero x = refl
same_each (suc n) (suc i) x = same_each n i x

pub seats_first : (b : Bounds) (a : ℕ) → (world_of (new_machine b)).seats a ≡ nobody b.rows
seats_first b a = same_each b.agents a (nobody b.rows)

null_hand : (w r : ℕ) → w ≡ 0 → hands_row w r ≡ 0
null_hand w r h = grind arith

-- each word is 0, but that each counter has count 0, and each record is empty
pub record Blank (b : Bounds) (z : World) : Type 0 where
  zero_word : (w : Word) → new_word w ≡ 0 → z.memory w ≡ 0
  counter : (r : ℕ) → r < b.rows → z.memory (Counter r) ≡ 4194304
  no_bit : (r : ℕ) → z.memory (Counter r) / 8388608 ≡ 0
  empty : (a : ℕ) → z.seats a ≡ nobody b.rows

blank_links : (b : Bounds) (z : World) (n j : ℕ) → Blank b z → z.memory (link_at n j) ≡ 0
blank_links b z zero j k = k.zero_word (Next j) refl
blank_links b z (suc n) j k = k.zero_word (Side j) refl

pub blank_linked : (b : Bounds) (z : World) (r : ℕ) → Blank b z → linked_in b z.memory r ≡ 0
blank_linked b z r k =
    let e = sum_zero b.roots (λ i. to_row (z.memory (Root i)) r) (λ i. null_row _ r (k.zero_word (Root i) refl)) in
    let f = sum_zero b.rows (λ j. out (z.memory (Gate j)) * to_row (z.memory (Next j)) r) (λ j. rw (k.zero_word (Gate j) refl) (omega arith)) in
    let g = sum_zero b.rows (λ j. out (z.memory (Gate j)) * to_row (z.memory (Side j)) r) (λ j. rw (k.zero_word (Gate j) refl) (omega arith)) in
    omega arith

blank_handed : (b : Bounds) (z : World) (r : ℕ) → Blank b z → handed_in b z.memory r ≡ 0
blank_handed b z r k = sum_zero b.agents _ (λ a. sum_zero 8 _ (λ i. null_hand _ r (k.zero_word (Handover a i) refl)))

bit_of : (w : ℕ) → w / 8388608 ≡ 0 → w / 8388608 % 2 ≡ 0
bit_of w h = omega arith

nobody_slots : (m : Word → ℕ) (b : Bounds) (a : ℕ) → ((k : ℕ) → m (Slot a k) ≡ 0) → SlotsFit m (nobody b.rows) a
nobody_slots m b a h = record { eight = refl; words = λ k. h k ∙ sym (empty_word k); first = refl }
  where
    empty_word : (k : ℕ) → slot_word (slice_index_or (replicate 8 Empty) k Empty) ≡ 0
    empty_word k = ap slot_word (same_each 8 k Empty)

nobody_uses : (room r : ℕ) → uses (nobody room) r ≡ true → ⊥
nobody_uses room r h = false≢true h

counted_blank : (b : Bounds) (z : World) → Blank b z → ((w : Word) → is_within b w ≡ false → z.memory w ≡ 0) → Counted b z
counted_blank b z k out = record {
  outside = out;
  enrolment = record {
    most = rw (k.zero_word Enrolled refl) (omega arith);
    enrolled =
        λ a h. absurd (none_less a (rw (k.zero_word Enrolled refl) at h));
    empty = λ a h. k.empty a;
  };
  slots = λ a. rw (k.empty a) (nobody_slots z.memory b a (λ j. k.zero_word (Slot a j) refl));
  balance = λ r h. let l = blank_linked b z r k in let i = sum_zero b.agents (λ a. bit (names (z.seats a).inc r)) (λ a. rw (k.empty a)) in
      let d = sum_zero b.agents (λ a. bit (names (z.seats a).dec r)) (λ a. rw (k.empty a)) in rw (k.counter r h) (omega arith);
  inc_held = λ a r h. absurd (false≢true (rw (k.empty a) at h));
  due_held = λ a r h. absurd (false≢true (rw (k.empty a) at h));
  token = λ r h. let l = blank_handed b z r k in let i = sum_zero b.agents (λ a. places_of (z.seats a) r) (λ a. rw (k.empty a)) in
      let c = bit_of _ (k.no_bit r) in omega arith;
  one_part = λ a. rw (k.empty a) (omega arith);
  used_out = λ a r h. absurd (nobody_uses b.rows r (rw (k.empty a) at h));
  bit_out = λ r h. absurd (zero_one (bit_of _ (k.no_bit r)) h);
  free_null = λ n j h. blank_links b z n j k;
  roots_out = λ i r h. absurd (zero_one (null_row _ r (k.zero_word (Root i) refl)) h);
  links_out = λ n j r o h. absurd (zero_one (null_row _ r (blank_links b z n j k)) h);
  fresh_bit = λ a r h. bit_of _ (k.no_bit r);
  fresh_alone = λ a x r h n. absurd (false≢true (rw (k.empty a) at h));
  fresh_root = λ a i r h. null_row _ r (k.zero_word (Root i) refl);
  fresh_links = λ a i j r h n. null_row _ r (blank_links b z i j k);
}
  where
    none_less : (a : ℕ) → a < 0 → ⊥
    none_less a h = omega arith

pub counter_first : (b : Bounds) (r : ℕ) → r < b.rows → (world_of (new_machine b)).memory (Counter r) ≡ 4194304
counter_first b r h = memory_first b (Counter r) true (lt-ltb r b.rows h)

bits_first : (b : Bounds) (r : ℕ) (t : Bool) {w : ℕ} → w ≡ cond t 4194304 0 → w / 8388608 ≡ 0
bits_first b r true e = omega arith
bits_first b r false e = omega arith

pub blank_first : (b : Bounds) → Blank b (world_of (new_machine b))
blank_first b =
    record {
      zero_word = zero_first b;
      counter = counter_first b;
      no_bit =
          λ r. bits_first b r (is_within b (Counter r)) (memory_first b (Counter r) (is_within b (Counter r)) refl);
      empty = seats_first b;
    }

outside_first : (b : Bounds) (w : Word) → is_within b w ≡ false → (world_of (new_machine b)).memory w ≡ 0
outside_first b w h = memory_first b w false h

-- a new state counts nothing, and no row is doomed there
pub counted_first : (b : Bounds) → Counted b (world_of (new_machine b))
counted_first b = counted_blank b (world_of (new_machine b)) (blank_first b) (outside_first b)
