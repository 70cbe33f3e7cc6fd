-- The facts that every step keeps, said of the state as functions.
use Rattle.std.proofs.Common.{false, length, true, ℕ, ◌%◌, ◌*◌, ◌+◌, ◌/◌, ◌<◌, ◌≡◌, ◌≢◌, ◌≤◌}
use Rattle.std.specs.Prelude.{◌==◌}
use Rattle.orc_words.specs.Bounds.{Bounds, IsShape}
use Rattle.orc_words.specs.Packed.{bit, count_bits, retired_bit}
use Rattle.orc_words.specs.declared.place.Word.{Word}
use Rattle.orc_words.specs.declared.place.Word.TheVariants.{Counter, Enrolled, Gate, Handover, Next, Root, Slot, Side}
use Rattle.orc_core.specs.Allowed.{fits, forced, stands}
use Rattle.orc_core.specs.Machine.{nobody}
use Rattle.orc_core.specs.RecordParts.{any_holds, doom_bare, is_published, names, saw, slot_of}
use Rattle.orc_core.specs.Sums.{sum_below}
use Rattle.orc_core.specs.declared.ops.Op.{Op}
use Rattle.orc_core.specs.declared.records.Agent.{Agent}
use Rattle.orc_sound.proofs.World.{World, is_within}
use Rattle.orc_sound.specs.Doomed.{cuts_past, dooms, dooms_cut}
use Rattle.orc_sound.specs.Linked.{uses}
use Rattle.orc_sound.specs.SoundParts.{slot_word}
use Rattle.orc_sound.specs.RetirementToken.{HasOnePart, places_of}
use Rattle.orc_words.specs.Places.{link_at}

-- 1 where the link word names the row
abbrev pub to_row : ℕ → ℕ → ℕ
to_row w r = bit (w / 2 == r + 1)

-- 1 where the gate is out
abbrev pub out : ℕ → ℕ
out w = w % 2

-- the links that name the row. A second link that the shape doesn't have is the word 0, and names none
abbrev pub linked_in : Bounds → (Word → ℕ) → ℕ → ℕ
linked_in s m r = sum_below s.roots (λ i. to_row (m (Root i)) r) + sum_below s.rows (λ j. out (m (Gate j)) * to_row (m (Next j)) r)
    + sum_below s.rows (λ j. out (m (Gate j)) * to_row (m (Side j)) r)

abbrev pub incs : Bounds → (ℕ → Agent) → ℕ → ℕ
incs s d r = sum_below s.agents (λ a. bit (names (d a).inc r))

abbrev pub decs : Bounds → (ℕ → Agent) → ℕ → ℕ
decs s d r = sum_below s.agents (λ a. bit (names (d a).dec r))

-- the count is the links that name the row, less the pending increments, with the pending decrements
abbrev pub Balanced : Bounds → World → ℕ → Type 0
Balanced s m r = count_bits (m.memory (Counter r)) + incs s m.seats r ≡ 4194304 + linked_in s m.memory r + decs s m.seats r

-- 1 where a slot or handover word names the row
abbrev pub hands_row : ℕ → ℕ → ℕ
hands_row w r = bit (w == r + 1)

-- the handover words that have the row
abbrev pub handed_in : Bounds → (Word → ℕ) → ℕ → ℕ
handed_in s m r = sum_below s.agents (λ a. sum_below 8 (λ k. hands_row (m (Handover a k)) r))

abbrev pub seat_places : Bounds → (ℕ → Agent) → ℕ → ℕ
seat_places s d r = sum_below s.agents (λ a. places_of (d a) r)

-- the bit is set where one place has the row, and clear where none has it
abbrev pub HasToken : Bounds → World → ℕ → Type 0
HasToken s z r = retired_bit (z.memory (Counter r)) ≡ seat_places s z.seats r + handed_in s z.memory r

abbrev pub SlotFits : (Word → ℕ) → Agent → ℕ → ℕ → Type 0
SlotFits m d a k = m (Slot a k) ≡ slot_word (slot_of d k)

-- eight slots, of which slot 0 is never Published, and their words
pub record SlotsFit (m : Word → ℕ) (d : Agent) (a : ℕ) : Type 0 where
  pub eight : length d.slots ≡ 8
  pub words : (k : ℕ) → SlotFits m d a k
  pub first : is_published (slot_of d 0) ≡ false

-- the agents below the word of enrolments are enrolled, and the other records are empty
pub record EnrolmentFits (b : Bounds) (z : World) : Type 0 where
  pub most : z.memory Enrolled ≤ b.agents
  pub enrolled : (a : ℕ) → a < z.memory Enrolled → (z.seats a).enrolled ≡ true
  pub empty : (a : ℕ) → z.memory Enrolled ≤ a → z.seats a ≡ nobody b.rows

-- what counts, retirement and use agree on
pub record Counted (b : Bounds) (z : World) : Type 0 where
  pub outside : (w : Word) → is_within b w ≡ false → z.memory w ≡ 0
  pub enrolment : EnrolmentFits b z
  pub slots : (a : ℕ) → SlotsFit z.memory (z.seats a) a
  pub balance : (r : ℕ) → r < b.rows → Balanced b z r
  pub inc_held : (a r : ℕ) → names (z.seats a).inc r ≡ true → any_holds (z.seats a).slots r ≡ true
  pub due_held : (a r : ℕ) → saw (z.seats a).due r ≡ true → any_holds (z.seats a).slots r ≡ true
  pub token : (r : ℕ) → r < b.rows → HasToken b z r
  pub one_part : (a : ℕ) → HasOnePart (z.seats a)
  pub used_out : (a r : ℕ) → uses (z.seats a) r ≡ true → out (z.memory (Gate r)) ≡ 1
  pub bit_out : (r : ℕ) → retired_bit (z.memory (Counter r)) ≡ 1 → out (z.memory (Gate r)) ≡ 1
  pub free_null : (n j : ℕ) → out (z.memory (Gate j)) ≡ 0 → z.memory (link_at n j) ≡ 0
  pub roots_out : (i r : ℕ) → to_row (z.memory (Root i)) r ≡ 1 → out (z.memory (Gate r)) ≡ 1
  pub links_out : (n j r : ℕ) → out (z.memory (Gate j)) ≡ 1 → to_row (z.memory (link_at n j)) r ≡ 1 → out (z.memory (Gate r)) ≡ 1
  pub fresh_bit : (a r : ℕ) → names (z.seats a).fresh r ≡ true → retired_bit (z.memory (Counter r)) ≡ 0
  pub fresh_alone : (a x r : ℕ) → names (z.seats a).fresh r ≡ true → x ≢ a → uses (z.seats x) r ≡ false
  pub fresh_root : (a i r : ℕ) → names (z.seats a).fresh r ≡ true → to_row (z.memory (Root i)) r ≡ 0
  pub fresh_links : (a n j r : ℕ) → names (z.seats a).fresh r ≡ true → j ≢ r → to_row (z.memory (link_at n j)) r ≡ 0

-- the row is out, and nothing links or uses it
pub record Gone (b : Bounds) (z : World) (r : ℕ) : Type 0 where
  pub is_out : out (z.memory (Gate r)) ≡ 1
  pub unlinked : linked_in b z.memory r ≡ 0
  pub unused : (a : ℕ) → uses (z.seats a) r ≡ false

-- what the rows of dooms have in common
pub record Doomed (b : Bounds) (z : World) : Type 0 where
  pub gone : (a r : ℕ) → dooms (z.seats a).doom r ≡ true → Gone b z r
  pub alone : (a x r : ℕ) → dooms (z.seats a).doom r ≡ true → dooms (z.seats x).doom r ≡ true → x ≡ a
  pub null : (a r n : ℕ) → cuts_past (z.seats a).doom r n ≡ true → z.memory (link_at n r) ≡ 0
  pub cut : (a r : ℕ) → doom_bare (z.seats a).doom r ≡ true → dooms_cut b.links (z.seats a).doom r ≡ true
  pub clear : (a r : ℕ) → doom_bare (z.seats a).doom r ≡ true → retired_bit (z.memory (Counter r)) ≡ 0

-- a step that is allowed, at a state with these facts
pub record LawfulStep (b : Bounds) (z : World) (a : ℕ) (op : Op) : Type 0 where
  pub shape : IsShape b
  pub counted : Counted b z
  pub doomed : Doomed b z
  pub agent : a < b.agents
  pub stands : stands op (z.seats a) ≡ true
  pub forced : forced (z.seats a) op ≡ true
  pub fits : fits b (z.memory Enrolled) a op (z.seats a) ≡ true
