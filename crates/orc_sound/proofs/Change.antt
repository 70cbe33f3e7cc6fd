-- What one written word, and one new record, change in the links, the counts and the pending changes.
use Rattle.std.proofs.Common.{arith, cond, refl, ℕ, ◌*◌, ◌+◌, ◌<◌, ◌≡◌}
use Rattle.std.specs.Prelude.{◌==◌}
use Rattle.orc_words.specs.Bounds.{Bounds}
use Rattle.orc_words.specs.Packed.{bit, count_bits}
use Rattle.orc_words.specs.Places.{IsWithin}
use Rattle.orc_words.specs.declared.place.Word.{Word}
use Rattle.orc_words.specs.declared.place.Word.TheVariants.{Counter, Enrolled, First, Gate, Handover, Next, Root, Second, Slot, Side}
use Rattle.orc_core.specs.RecordParts.{names}
use Rattle.orc_core.specs.declared.records.Agent.{Agent}
use Rattle.orc_sound.proofs.Facts.{Balanced, decs, incs, linked_in, out, to_row}
use Rattle.orc_sound.proofs.Sums.{sum_put}
use Rattle.orc_sound.proofs.World.{World, seat, write}

-- what the word w adds to the links that name r, where it holds v
abbrev pub link_part : (Word → ℕ) → Word → ℕ → ℕ → ℕ
link_part m (Root i) v r = to_row v r
link_part m (Next j) v r = out (m (Gate j)) * to_row v r
link_part m (Side j) v r = out (m (Gate j)) * to_row v r
link_part m (Gate j) v r = out v * to_row (m (Next j)) r + out v * to_row (m (Side j)) r
link_part m _ v r = 0

-- what it adds to the count bits of r
abbrev pub count_part : Word → ℕ → ℕ → ℕ
count_part (Counter q) v r = cond (q == r) (count_bits v) 0
count_part _ v r = 0

root_part : (s : Bounds) (m : Word → ℕ) (i v r : ℕ) → i < s.roots → linked_in s (write m (Root i) v) r + to_row (m (Root i)) r ≡ linked_in s m r + to_row v r
root_part s m i v r h = let e = sum_put s.roots i (λ j x. to_row x r) (λ j. m (Root j)) v h in omega arith

gate_part : (s : Bounds) (m : Word → ℕ) (i v r : ℕ) → i < s.rows → linked_in s (write m (Gate i) v) r
    + (out (m (Gate i)) * to_row (m (Next i)) r + out (m (Gate i)) * to_row (m (Side i)) r) ≡ linked_in s m r
    + (out v * to_row (m (Next i)) r + out v * to_row (m (Side i)) r)
gate_part s m i v r h = let e = sum_put s.rows i (λ j x. out x * to_row (m (Next j)) r) (λ j. m (Gate j)) v h in
    let f = sum_put s.rows i (λ j x. out x * to_row (m (Side j)) r) (λ j. m (Gate j)) v h in omega arith

next_part : (s : Bounds) (m : Word → ℕ) (i v r : ℕ) → i < s.rows → linked_in s (write m (Next i) v) r
    + out (m (Gate i)) * to_row (m (Next i)) r ≡ linked_in s m r + out (m (Gate i)) * to_row v r
next_part s m i v r h = let e = sum_put s.rows i (λ j x. out (m (Gate j)) * to_row x r) (λ j. m (Next j)) v h in omega arith

side_part : (s : Bounds) (m : Word → ℕ) (i v r : ℕ) → i < s.rows → linked_in s (write m (Side i) v) r
    + out (m (Gate i)) * to_row (m (Side i)) r ≡ linked_in s m r + out (m (Gate i)) * to_row v r
side_part s m i v r h = let e = sum_put s.rows i (λ j x. out (m (Gate j)) * to_row x r) (λ j. m (Side j)) v h in omega arith

pub linked_write : (s : Bounds) (m : Word → ℕ) (w : Word) (v r : ℕ) → IsWithin s w
    → linked_in s (write m w v) r + link_part m w (m w) r ≡ linked_in s m r + link_part m w v r
linked_write s m Enrolled v r h = refl
linked_write s m (Counter q) v r h = refl
linked_write s m (First q) v r h = refl
linked_write s m (Second q) v r h = refl
linked_write s m (Slot a k) v r h = refl
linked_write s m (Handover a k) v r h = refl
linked_write s m (Root i) v r h = root_part s m i v r h
linked_write s m (Gate j) v r h = gate_part s m j v r h
linked_write s m (Next j) v r h = next_part s m j v r h
linked_write s m (Side j) v r h = side_part s m j v r h.0

pub count_write : (m : Word → ℕ) (w : Word) (v r : ℕ) → count_bits (write m w v (Counter r)) + count_part w (m w) r ≡ count_bits (m (Counter r))
    + count_part w v r
count_write m Enrolled v r = refl
count_write m (Root i) v r = refl
count_write m (Gate q) v r = refl
count_write m (Counter q) v r = grind arith
count_write m (First q) v r = refl
count_write m (Second q) v r = refl
count_write m (Next q) v r = refl
count_write m (Side q) v r = refl
count_write m (Slot a k) v r = refl
count_write m (Handover a k) v r = refl

pub incs_seat : (s : Bounds) (d : ℕ → Agent) (a : ℕ) (e : Agent) (r : ℕ) → a < s.agents → incs s (seat d a e) r + bit (names (d a).inc r) ≡ incs s d r
    + bit (names e.inc r)
incs_seat s d a e r h = sum_put s.agents a (λ _ x. bit (names x.inc r)) d e h

pub decs_seat : (s : Bounds) (d : ℕ → Agent) (a : ℕ) (e : Agent) (r : ℕ) → a < s.agents → decs s (seat d a e) r + bit (names (d a).dec r) ≡ decs s d r
    + bit (names e.dec r)
decs_seat s d a e r h = sum_put s.agents a (λ _ x. bit (names x.dec r)) d e h

-- what a step changes in the balance, told by the word, what it held and holds, and the old and new record
abbrev pub Local : (Word → ℕ) → Word → ℕ → ℕ → Agent → Agent → ℕ → Type 0
Local m w v x d e r =
    count_part w x r + bit (names e.inc r) + link_part m w v r + bit (names d.dec r) ≡ count_part w v r + bit (names d.inc r) + link_part m w x r
    + bit (names e.dec r)

pub balance_step : (s : Bounds) (z : World) (a : ℕ) (w : Word) (x : ℕ) (e : Agent) (r : ℕ) → IsWithin s w → a < s.agents
    → Local z.memory w (z.memory w) x (z.seats a) e r → Balanced s z r → Balanced s (record { memory = write z.memory w x; seats = seat z.seats a e }) r
balance_step s z a w x e r within agent local balance =
    let c = count_write z.memory w x r in
    let l = linked_write s z.memory w x r within in
    let i = incs_seat s z.seats a e r agent in
    let d = decs_seat s z.seats a e r agent in
    omega arith
