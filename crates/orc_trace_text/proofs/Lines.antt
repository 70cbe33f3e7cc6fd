-- A line spells one step at most, and a first line one shape.
use Rattle.std.proofs.Common.{◌≡◌, ◌∙◌, ℕ, inl, inr, List, [], ◌∷◌, Option, refl, sym, ap, ap₂, subst, arith, codes}
use Rattle.std.specs.Fmt.{decimal}
use Rattle.std.specs.List.{join_with_byte}
use Rattle.std.proofs.lemmas.Fmt.{decimal_injective}
use Rattle.orc_words.specs.declared.shape.Shape.{Shape}
use Rattle.orc_words.specs.Bounds.{Bounds, IsShape, bounds_of}
use Rattle.orc_core.specs.declared.ops.Op.{Op}
use Rattle.orc_trace_text.specs.Reading.{Cuts, EndsInLinks, words_in, words_left}
use Rattle.orc_trace_text.specs.FirstLines.{HasShapeLine, HasStepLine}
use Rattle.orc_trace_text.specs.TraceText.{AreWide, IsReadable, IsShapeText, IsWide, step_line, words_of}
use Rattle.orc_trace_text.proofs.Spelled.{words_of-injective}
use Rattle.orc_trace_text.proofs.Visible.{AreVisible, AreWords-visible, Lacks-joined, visible-decimal}
use Rattle.orc_trace_text.proofs.VisibleWords.{visible-words}
use Rattle.orc_trace_text.proofs.Words.{Lacks, cut-unique, words-cut, words-joined}

-- ---- steps

visible-line : (b : Bounds) (s : ℕ × Op) → IsShape b → IsReadable b s → AreVisible (decimal s.0 ∷ words_of s.1)
visible-line b s shape h = let few = shape.agents in let agent = h.0 in (visible-decimal s.0 (omega arith), visible-words b s.1 shape h.1)

pub line-words : (b : Bounds) (s : ℕ × Op) → IsShape b → IsReadable b s → words_in (step_line s.0 s.1) ≡ decimal s.0 ∷ words_of s.1
line-words b s shape h = words-joined (decimal s.0) (words_of s.1) (AreWords-visible (decimal s.0 ∷ words_of s.1) (visible-line b s shape h))

pub Lacks-line : (b : Bounds) (s : ℕ × Op) → IsShape b → IsReadable b s → Lacks 10 (step_line s.0 s.1)
Lacks-line b s shape h = Lacks-joined (decimal s.0 ∷ words_of s.1) (visible-line b s shape h)

line-same : (b : Bounds) (s t : ℕ × Op) → IsShape b → IsReadable b s → IsReadable b t → step_line s.0 s.1 ≡ step_line t.0 t.1 → s ≡ t
line-same b s t shape h k e =
    let words : decimal s.0 ∷ words_of s.1 ≡ decimal t.0 ∷ words_of t.1 = sym (line-words b s shape h) ∙ ap words_in e ∙ line-words b t shape k in
    let few = shape.agents in
    let low = h.0 in
    let also = k.0 in
    let agent : s.0 ≡ t.0 = decimal_injective s.0 t.0 (omega arith) (omega arith) (cc words) in
    let op : s.1 ≡ t.1 = words_of-injective b s.1 t.1 shape h.1 k.1 (cc words) in
    let pair : ℕ → Op → ℕ × Op = λ a o. (a, o) in
    ap₂ pair agent op

pub step-unique : (b : Bounds) (s t : ℕ × Op) (more other bytes : List ℕ) → IsShape b → HasStepLine b s more bytes → HasStepLine b t other bytes
    → (s ≡ t) × (more ≡ other)
step-unique b s t more other bytes shape h k =
    let cut = cut-unique 10 (step_line s.0 s.1) (step_line t.0 t.1) more other (Lacks-line b s shape h.readable) (Lacks-line b t shape k.readable)
    (sym h.text ∙ k.text) in
    (line-same b s t shape h.readable k.readable cut.0, cut.1)

-- a line that spells a step, cut at its first space
pub line-parts : (b : Bounds) (s : ℕ × Op) (line front : List ℕ) (rest : Option (List ℕ)) → IsShape b → IsReadable b s → line ≡ step_line s.0 s.1
    → Cuts 32 line front rest
    → (front ≡ decimal s.0) × (words_left rest ≡ words_of s.1)
line-parts b s line front rest shape h e cut =
    let words : front ∷ words_left rest ≡ decimal s.0 ∷ words_of s.1 = sym (words-cut line front rest cut) ∙ ap words_in e ∙ line-words b s shape h in
    (cc words, cc words)

-- ---- shapes

-- the words of a first line, with these behind the limit
abbrev pub shape_words : Bounds → List (List ℕ) → List (List ℕ)
shape_words b last = codes "shape" ∷ decimal b.rows ∷ decimal b.roots ∷ decimal b.agents ∷ decimal b.limit ∷ last

-- a first line is its words, joined
record Joined (b : Bounds) (line : List ℕ) : Type 0 where
  last : List (List ℕ)
  ends : EndsInLinks b.links last
  text : line ≡ join_with_byte 32 (shape_words b last)

joined : (b : Bounds) (line : List ℕ) → IsShapeText b line → Joined b line
joined b line (inl text) = record { last = decimal b.links ∷ []; ends = inl refl; text = text }
joined b line (inr (one, text)) = record { last = []; ends = inr (one, refl); text = text }

pub shape-spelled : (b : Bounds) (line : List ℕ) (last : List (List ℕ)) → EndsInLinks b.links last → line ≡ join_with_byte 32 (shape_words b last)
    → IsShapeText b line
shape-spelled b line last (inl e) text = inl (rw e at text)
shape-spelled b line last (inr (one, e)) text = inr (one, rw e at text)

visible-last : (links : ℕ) (last : List (List ℕ)) → IsWide links → EndsInLinks links last → AreVisible last
visible-last links last wide (inl e) = rw e (visible-decimal links wide, tt)
visible-last links last wide (inr (one, e)) = rw e tt

visible-shape : (b : Bounds) (last : List (List ℕ)) → AreWide b → EndsInLinks b.links last → AreVisible (shape_words b last)
visible-shape b last w ends = (
  refl,
  (
    visible-decimal b.rows w.rows,
    (
      visible-decimal b.roots w.roots,
      (
        visible-decimal b.agents w.agents,
        (
          visible-decimal b.limit w.limit,
          visible-last b.links last w.links ends,
        ),
      ),
    ),
  ),
)

shape-words : (b : Bounds) (line : List ℕ) → AreWide b → (h : Joined b line) → words_in line ≡ shape_words b h.last
shape-words b line w h =
    ap words_in h.text
    ∙ words-joined (codes "shape") (decimal b.rows ∷ decimal b.roots ∷ decimal b.agents ∷ decimal b.limit ∷ h.last)
    (AreWords-visible (shape_words b h.last) (visible-shape b h.last w h.ends))

-- a first line, cut at its first space
pub shape-parts : (b : Bounds) (line front : List ℕ) (rest : Option (List ℕ)) → AreWide b → IsShapeText b line → Cuts 32 line front rest
    → (last : List (List ℕ)) × EndsInLinks b.links last × (front ≡ codes "shape")
    × (words_left rest ≡ decimal b.rows ∷ decimal b.roots ∷ decimal b.agents ∷ decimal b.limit ∷ last)
shape-parts b line front rest wide h cut =
    let j = joined b line h in
    let words : front ∷ words_left rest ≡ shape_words b j.last = sym (words-cut line front rest cut) ∙ shape-words b line wide j in
    (j.last, j.ends, cc words, cc words)

pub Lacks-shape : (b : Bounds) (line : List ℕ) → AreWide b → IsShapeText b line → Lacks 10 line
Lacks-shape b line w h =
    let j = joined b line h in
    subst (Lacks 10) (sym j.text) (Lacks-joined (shape_words b j.last) (visible-shape b j.last w j.ends))

links-same : (m n : ℕ) (last : List (List ℕ)) → IsWide m → IsWide n → EndsInLinks m last → EndsInLinks n last → m ≡ n
links-same m n last h k (inl e) (inl f) = let both = sym e ∙ f in decimal_injective m n h k (cc both)
links-same m n last h k (inl e) (inr (one, f)) = let bad = sym e ∙ f in cc bad
links-same m n last h k (inr (one, e)) (inl f) = let bad = sym e ∙ f in cc bad
links-same m n last h k (inr (one, e)) (inr (also, f)) = one ∙ sym also

shape-same : (b c : Bounds) (line : List ℕ) → AreWide b → AreWide c → IsShapeText b line → IsShapeText c line → b ≡ c
shape-same b c line h k i j =
    let one = joined b line i in
    let other = joined c line j in
    let words : shape_words b one.last ≡ shape_words c other.last = sym (shape-words b line h one) ∙ shape-words c line k other in
    let last : other.last ≡ one.last = cc words in
    let rows : b.rows ≡ c.rows = decimal_injective b.rows c.rows h.rows k.rows (cc words) in
    let roots : b.roots ≡ c.roots = decimal_injective b.roots c.roots h.roots k.roots (cc words) in
    let agents : b.agents ≡ c.agents = decimal_injective b.agents c.agents h.agents k.agents (cc words) in
    let limit : b.limit ≡ c.limit = decimal_injective b.limit c.limit h.limit k.limit (cc words) in
    let links : b.links ≡ c.links = links-same b.links c.links one.last h.links k.links one.ends (subst (EndsInLinks c.links) last other.ends) in
    let make : ℕ → ℕ → ℕ → ℕ → ℕ → Bounds = λ v w x y z. record { rows = v; roots = w; agents = x; limit = y; links = z } in
    let same : make b.rows b.roots b.agents b.limit b.links ≡ make c.rows c.roots c.agents c.limit c.links = cc (rows, roots, agents, limit, links) in
    same

pub shape-unique : (b c : Bounds) (more other bytes : List ℕ) → HasShapeLine b more bytes → HasShapeLine c other bytes → (b ≡ c) × (more ≡ other)
shape-unique b c more other bytes h k =
    let cut = cut-unique 10 h.line k.line more other (Lacks-shape b h.line h.wide h.spells) (Lacks-shape c k.line k.wide k.spells) (sym h.text ∙ k.text) in
    (shape-same b c h.line h.wide k.wide h.spells (subst (IsShapeText c) (sym cut.0) k.spells), cut.1)

-- the numbers of a shape have 64 bits
pub wide-shape : (b : Bounds) → IsShape b → AreWide b
wide-shape b s =
    let few = s.rows in
    let roots = s.roots in
    let agents = s.agents in
    let limit = s.limit in
    let links = s.links in
    record { rows = omega arith; roots = omega arith; agents = omega arith; limit = omega arith; links = omega arith }

pub shape-in_range : (s : Shape) → IsShape (bounds_of s)
shape-in_range s = record {
  rows = (s.some_rows, s.few_rows);
  roots = (s.some_roots, s.few_roots);
  agents = (s.some_agents, s.few_agents);
  limit = (s.some_limit, s.low_limit);
  links = (s.some_links, s.few_links);
}
