-- How a trace begins: with the line of a shape, and then with the line of a step; and what is amiss with its first line.
use Rattle.std.specs.Prelude.{◌≡◌, ℕ, ◌++◌, List, ◌∷◌}
use Rattle.orc_words.specs.declared.shape.ShapeFault.TheVariants as shape
use Rattle.orc_words.specs.Bounds.{Bounds, IsShape, IsFirstFault}
use Rattle.orc_core.specs.declared.ops.Op.{Op}
use Rattle.orc_trace_text.specs.declared.shape_line.ShapeWord.{ShapeWord}
use Rattle.orc_trace_text.specs.declared.shape_line.ShapeWord.TheVariants as word
use Rattle.orc_trace_text.specs.TraceText.{AreWide, IsReadable, IsShapeText, step_line}

-- the bytes begin with the line of a shape, its numbers in range or not
pub record HasShapeLine (b : Bounds) (rest bytes : List ℕ) : Type 0 where
  pub line : List ℕ
  pub spells : IsShapeText b line
  pub text : bytes ≡ line ++ 10 ∷ rest
  pub wide : AreWide b

-- the bytes begin with the line of a step that can be read
pub record HasStepLine (b : Bounds) (s : ℕ × Op) (rest bytes : List ℕ) : Type 0 where
  pub text : bytes ≡ step_line s.0 s.1 ++ 10 ∷ rest
  pub readable : IsReadable b s

-- the bytes are the line of a shape in range, and then these lines
pub record HasTable (b : Bounds) (lines bytes : List ℕ) : Type 0 where
  pub line : List ℕ
  pub spells : IsShapeText b line
  pub text : bytes ≡ line ++ 10 ∷ lines
  pub shape : IsShape b

-- the first number of a shape that is out of range
abbrev pub IsFirstOut : Bounds → ShapeWord → Type 0
IsFirstOut b word.Unreadable = ⊥
IsFirstOut b word.Rows = IsFirstFault b (shape.Rows b.rows)
IsFirstOut b word.Roots = IsFirstFault b (shape.Roots b.roots)
IsFirstOut b word.Agents = IsFirstFault b (shape.Agents b.agents)
IsFirstOut b word.Limit = IsFirstFault b (shape.Limit b.limit)
IsFirstOut b word.Links = IsFirstFault b (shape.Links b.links)

-- what is amiss with the first line
abbrev pub IsShapeFault : List ℕ → ShapeWord → Type 0
IsShapeFault bytes word.Unreadable = (b : Bounds) (rest : List ℕ) → ¬ HasShapeLine b rest bytes
IsShapeFault bytes w = (b : Bounds) × (rest : List ℕ) × HasShapeLine b rest bytes × IsFirstOut b w
