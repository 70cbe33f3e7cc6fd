-- How a line is read: by the words between its spaces.
use Rattle.std.specs.Prelude.{◌≡◌, ◌⊎◌, ◌==◌, ℕ, ◌++◌, false, List, [], ◌∷◌, Option, Some, None, All, codes}
use Rattle.std.specs.Fmt.{decimal}
use Rattle.std.specs.List.{slice_split}
use Rattle.orc_words.specs.Bounds.{Bounds}
use Rattle.orc_core.specs.declared.ops.Op.{Op}
use Rattle.orc_trace_text.specs.declared.kind.StepKind.{StepKind}
use Rattle.orc_trace_text.specs.declared.kind.StepKind.TheVariants as kind
use Rattle.orc_trace_text.specs.TraceText.{IsReadableOp, words_of}

-- a text, cut at its first such byte where it has one
abbrev pub Cuts : ℕ → List ℕ → List ℕ → Option (List ℕ) → Type 0
Cuts byte text front None = (text ≡ front) × All (λ b. (b == byte) ≡ false) front
Cuts byte text front (Some rest) = (text ≡ front ++ byte ∷ rest) × All (λ b. (b == byte) ≡ false) front

abbrev pub words_in : List ℕ → List (List ℕ)
words_in text = slice_split (λ b. b == 32) text

-- the words of the text that is left, if one is
abbrev pub words_left : Option (List ℕ) → List (List ℕ)
words_left None = []
words_left (Some text) = words_in text

-- the words behind the limit: the number of links, or none where it is 1
abbrev pub EndsInLinks : ℕ → List (List ℕ) → Type 0
EndsInLinks links words = (words ≡ decimal links ∷ []) ⊎ ((links ≡ 1) × (words ≡ []))

-- the word behind the agent's number
abbrev pub kind_word : StepKind → List ℕ
kind_word kind.Enroll = codes "enroll"
kind_word kind.Look = codes "look"
kind_word kind.Take = codes "take"
kind_word kind.Fill = codes "fill"
kind_word kind.Read = codes "read"
kind_word kind.Load = codes "load"
kind_word kind.Publish = codes "publish"
kind_word kind.Clear = codes "clear"
kind_word kind.Arm = codes "arm"
kind_word kind.Cas = codes "cas"
kind_word kind.Store = codes "store"
kind_word kind.Side = codes "side"
kind_word kind.Inc = codes "inc"
kind_word kind.Dec = codes "dec"
kind_word kind.Set = codes "set"
kind_word kind.Count = codes "count"
kind_word kind.Start = codes "start"
kind_word kind.End = codes "end"
kind_word kind.Unretire = codes "unretire"
kind_word kind.Slot = codes "slot"
kind_word kind.Hand = codes "hand"
kind_word kind.TakeIn = codes "takein"
kind_word kind.Free = codes "free"
kind_word kind.MoveOn = codes "moveon"
kind_word kind.Handover = codes "handover"
kind_word kind.DecHeld = codes "decheld"

-- an op that can be read is spelled by the word of this kind and these others
abbrev pub Spells : Bounds → StepKind → List (List ℕ) → Op → Type 0
Spells b k words op = IsReadableOp b op × (words_of op ≡ kind_word k ∷ words)
