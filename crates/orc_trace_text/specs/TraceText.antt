-- The text of a trace: a line for the shape of a table, and a line for each step of the machine on it.
-- The words and their order are this project's own.
use Rattle.std.specs.Prelude.{ℕ, zero, suc, ◌≡◌, ◌⊎◌, ◌*◌, ◌^◌, ◌<◌, ◌++◌, List, [], ◌∷◌, Option, Some, None, Bool, true, false, codes, map}
use Rattle.std.specs.Fmt.{decimal}
use Rattle.std.specs.List.{join_with_byte}
use Rattle.std.specs.Option.{ForSome}
use Rattle.orc_words.specs.declared.packed.RowLink.{RowLink}
use Rattle.orc_words.specs.declared.place.Word.{Word}
use Rattle.orc_words.specs.declared.place.Word.TheVariants.{Root, Next, Side}
use Rattle.orc_words.specs.Bounds.{Bounds}
use Rattle.orc_core.specs.declared.ops.CounterUse.TheVariants.{Check, Start, End}
use Rattle.orc_core.specs.declared.ops.Op.{Op}
use Rattle.orc_core.specs.declared.ops.Op.TheVariants.{Enroll, GateLook, GateTake, Fill, Read, LinkLoad, Publish, Clear, Arm, LinkCas, LinkStore, Inc, Dec, SetRetired, CounterLoad, Unretire, SlotLook, Hand, TakeIn, Free, MoveOn, HandoverLook, DecHeld}

-- a place: `r` and a root, or `n` or `s` and the row whose first or second link it is; other words have no text
abbrev pub place_text : Word → List ℕ
place_text (Root i) = codes "r" ++ decimal i
place_text (Next r) = codes "n" ++ decimal r
place_text (Side r) = codes "s" ++ decimal r
place_text w = []

abbrev pub target_text : Option ℕ → List ℕ
target_text None = codes "-"
target_text (Some r) = decimal r

-- a text with `m` behind it where there is a mark
abbrev pub mark_text : Bool → List ℕ → List ℕ
mark_text true text = text ++ codes "m"
mark_text false text = text

-- a link: `-` or its row
abbrev pub link_text : RowLink → List ℕ
link_text l = mark_text l.mark (target_text l.to)

-- the words of a kind of step
abbrev pub words_of : Op → List (List ℕ)
words_of Enroll = codes "enroll" ∷ []
words_of (GateLook r) = codes "look" ∷ decimal r ∷ []
words_of (GateTake r) = codes "take" ∷ decimal r ∷ []
words_of (Fill r which v) = codes "fill" ∷ decimal r ∷ decimal which ∷ decimal v ∷ []
words_of (Read r which) = codes "read" ∷ decimal r ∷ decimal which ∷ []
words_of (LinkLoad p None) = codes "load" ∷ place_text p ∷ []
words_of (LinkLoad p (Some k)) = codes "load" ∷ place_text p ∷ decimal k ∷ []
words_of (Publish k r) = codes "publish" ∷ decimal k ∷ decimal r ∷ []
words_of (Clear k) = codes "clear" ∷ decimal k ∷ []
words_of (Arm r) = codes "arm" ∷ decimal r ∷ []
words_of (LinkCas p f t) = codes "cas" ∷ place_text p ∷ link_text f ∷ link_text t ∷ []
words_of (LinkStore r l zero) = codes "store" ∷ decimal r ∷ link_text l ∷ []
words_of (LinkStore r l (suc n)) = codes "side" ∷ decimal r ∷ link_text l ∷ []
words_of (Inc r) = codes "inc" ∷ decimal r ∷ []
words_of (Dec r) = codes "dec" ∷ decimal r ∷ []
words_of (SetRetired r q) = codes "set" ∷ decimal r ∷ decimal q ∷ []
words_of (CounterLoad r Check) = codes "count" ∷ decimal r ∷ []
words_of (CounterLoad r Start) = codes "start" ∷ decimal r ∷ []
words_of (CounterLoad r End) = codes "end" ∷ decimal r ∷ []
words_of (Unretire r) = codes "unretire" ∷ decimal r ∷ []
words_of (SlotLook k) = codes "slot" ∷ decimal k ∷ []
words_of (Hand k) = codes "hand" ∷ decimal k ∷ []
words_of (TakeIn k) = codes "takein" ∷ decimal k ∷ []
words_of (Free r) = codes "free" ∷ decimal r ∷ []
words_of (MoveOn k r) = codes "moveon" ∷ decimal k ∷ decimal r ∷ []
words_of (HandoverLook k) = codes "handover" ∷ decimal k ∷ []
words_of (DecHeld r) = codes "decheld" ∷ decimal r ∷ []

-- a step of an agent, on its line: the agent and the words, with one space between two of them
abbrev pub step_line : ℕ → Op → List ℕ
step_line a op = join_with_byte 32 (decimal a ∷ words_of op)

-- a first line with these numbers
abbrev pub shape_line : List ℕ → List ℕ
shape_line numbers = join_with_byte 32 (codes "shape" ∷ map decimal numbers)

-- the first line of a shape: its five numbers, or but four of them where a row has one link
abbrev pub IsShapeText : Bounds → List ℕ → Type 0
IsShapeText b text =
    (text ≡ shape_line (b.rows ∷ b.roots ∷ b.agents ∷ b.limit ∷ b.links ∷ []))
    ⊎ ((b.links ≡ 1) × (text ≡ shape_line (b.rows ∷ b.roots ∷ b.agents ∷ b.limit ∷ [])))

-- steps, each line of them ended by a line feed
abbrev pub steps_text : List (ℕ × Op) → List ℕ
steps_text [] = []
steps_text (s ∷ ss) = step_line s.0 s.1 ++ 10 ∷ steps_text ss

-- ---- which numbers can be read

-- a number of 64 bits
abbrev pub IsWide : ℕ → Type 0
IsWide n = n < 2 ^ 64

-- numbers of 64 bits, in range or not
pub record AreWide (b : Bounds) : Type 0 where
  pub rows : IsWide b.rows
  pub roots : IsWide b.roots
  pub agents : IsWide b.agents
  pub limit : IsWide b.limit
  pub links : IsWide b.links

-- a root of the table, or a link of one of its rows
abbrev pub IsPlace : Bounds → Word → Type 0
IsPlace b (Root i) = i < b.roots
IsPlace b (Next r) = r < b.rows
IsPlace b (Side r) = (r < b.rows) × (1 < b.links)
IsPlace b w = ⊥

-- to none, or to a row of the table
abbrev pub IsLink : Bounds → RowLink → Type 0
IsLink b l = ForSome l.to (λ r. r < b.rows)

-- the rows, links, roots, slots, scan places and choices of a value are within the shape, and other numbers have 64 bits
abbrev pub IsReadableOp : Bounds → Op → Type 0
IsReadableOp b Enroll = Unit {0}
IsReadableOp b (GateLook r) = r < b.rows
IsReadableOp b (GateTake r) = r < b.rows
IsReadableOp b (Fill r which v) = (r < b.rows) × (which < 2) × IsWide v
IsReadableOp b (Read r which) = (r < b.rows) × (which < 2)
IsReadableOp b (LinkLoad p None) = IsPlace b p
IsReadableOp b (LinkLoad p (Some k)) = IsPlace b p × (k < 8)
IsReadableOp b (Publish k r) = (k < 8) × (r < b.rows)
IsReadableOp b (Clear k) = k < 8
IsReadableOp b (Arm r) = r < b.rows
IsReadableOp b (LinkCas p f t) = IsPlace b p × IsLink b f × IsLink b t
IsReadableOp b (LinkStore r l n) = (r < b.rows) × (n < b.links) × IsLink b l
IsReadableOp b (Inc r) = r < b.rows
IsReadableOp b (Dec r) = r < b.rows
IsReadableOp b (SetRetired r q) = (r < b.rows) × IsWide q
IsReadableOp b (CounterLoad r how) = r < b.rows
IsReadableOp b (Unretire r) = r < b.rows
IsReadableOp b (SlotLook k) = k < 8 * b.agents
IsReadableOp b (Hand k) = k < 8 * b.agents
IsReadableOp b (TakeIn k) = k < 8
IsReadableOp b (Free r) = r < b.rows
IsReadableOp b (MoveOn k r) = (k < 8) × (r < b.rows)
IsReadableOp b (HandoverLook k) = k < 8
IsReadableOp b (DecHeld r) = r < b.rows

abbrev pub IsReadable : Bounds → ℕ × Op → Type 0
IsReadable b s = (s.0 < b.agents) × IsReadableOp b s.1
