-- Link words, and links of rows read as links of nodes.
use Rattle.std.proofs.Common.{Bool, ap, arith, false, refl, true, ℕ, ◌%◌, ◌*◌, ◌+◌, ◌/◌, ◌<◌, ◌≡◌, ◌≢◌, ◌≤◌}
use Rattle.std.proofs.lemmas.Bool.{eq-eqb, eqb-true, false≢true, ne_eqb}
use Rattle.std.specs.Option.{option_map}
use Rattle.std.specs.Prelude.{None, Option, Some, ◌==◌}
use Rattle.orc_core.specs.RecordParts.{names}
use Rattle.orc_heap.specs.declared.events.Link.{Link}
use Rattle.orc_projection.specs.PresentIds.{PresentIds, node_link, with_taken}
use Rattle.orc_sound.proofs.Facts.{to_row}
use Rattle.orc_words.specs.Packed.{bit, link_of, link_word, name_word, named}
use Rattle.orc_words.specs.declared.packed.RowLink.{RowLink}

-- a packed link reads as it was
pub link_back : (l : RowLink) → ((r : ℕ) → l.to ≡ Some r → r < 65535) → link_of (link_word l) ≡ l
link_back l h = back l.to l.mark h
  where
    back : (o : Option ℕ) (b : Bool) → ((r : ℕ) → o ≡ Some r → r < 65535)
        → (let x : RowLink = link_of (link_word (record { to = o; mark = b })) in x) ≡ record { to = o; mark = b }
    back None true h = refl
    back None false h = refl
    back (Some r) true h = let k = h r refl in let e : named ((2 * (r + 1) + 1) / 2) ≡ Some r = grind arith in
        let f : ((2 * (r + 1) + 1) % 2 == 1) ≡ true = grind arith in λ i. record { to = e i; mark = f i }
    back (Some r) false h = let k = h r refl in let e : named ((2 * (r + 1) + 0) / 2) ≡ Some r = grind arith in
        let f : ((2 * (r + 1) + 0) % 2 == 1) ≡ false = grind arith in λ i. record { to = e i; mark = f i }

-- a link word packs what it reads as
pub word_back : (w : ℕ) → w / 2 ≤ 65535 → link_word (link_of w) ≡ w
word_back w h =
    let n : name_word (named (w / 2)) ≡ w / 2 = grind arith in
    let b : bit (w % 2 == 1) ≡ w % 2 = grind arith in
    omega arith

pub some-names : (o : Option ℕ) (r : ℕ) → o ≡ Some r → names o r ≡ true
some-names o r e = rw e (eq-eqb r r refl)

pub names-some : (o : Option ℕ) (r : ℕ) → names o r ≡ true → o ≡ Some r
names-some None r h = absurd (false≢true h)
names-some (Some q) r h = ap Some (eqb-true q r h)

-- the row that a link word names
pub named_row : (w r : ℕ) → named (w / 2) ≡ Some r → to_row w r ≡ 1
named_row w r e = let h : names (named (w / 2)) r ≡ true = some-names (named (w / 2)) r e in grind arith

option-same : (f : ℕ → ℕ) (o u : Option ℕ) → ((q r : ℕ) → o ≡ Some q → u ≡ Some r → f q ≡ f r → q ≡ r) → option_map f o ≡ option_map f u → o ≡ u
option-same f None None h e = refl
option-same f None (Some r) h e = cc
option-same f (Some q) None h e = cc
option-same f (Some q) (Some r) h e = ap Some (h q r refl refl (cc))

-- links of different rows are links of different nodes, where the rows have different nodes
pub node_link-same : (p : PresentIds) (k l : RowLink) → ((q r : ℕ) → k.to ≡ Some q → l.to ≡ Some r → p.node q ≡ p.node r → q ≡ r)
    → node_link p k ≡ node_link p l → k ≡ l
node_link-same p k l h e =
    let t = option-same p.node k.to l.to h (ap (λ (x : Link). x.to) e) in
    let m : k.mark ≡ l.mark = ap (λ (x : Link). x.mark) e in
    λ i. record { to = t i; mark = m i }

-- a row that is taken is in no link
pub node_link-taken : (p : PresentIds) (q : ℕ) (l : RowLink) → ((r : ℕ) → l.to ≡ Some r → r ≢ q) → node_link (with_taken q p) l ≡ node_link p l
node_link-taken p q l h = let e = other l.to h in λ i. record { to = e i; mark = l.mark }
  where
    other : (o : Option ℕ) → ((r : ℕ) → o ≡ Some r → r ≢ q) → option_map (with_taken q p).node o ≡ option_map p.node o
    other None h = refl
    other (Some r) h = rw (ne_eqb r q (h r refl))
