-- A machine for the tests: one word, which each agent may count up (true) or look at (false). Each count gives a node.
use Rattle.orc_heap.specs.declared.events.Act.TheVariants.{Give}
use Rattle.orc_heap.specs.declared.events.Event.{Event}
use Rattle.orc_shared_words.specs.Runs.{Obeys, Rules}
use Rattle.orc_shared_words.specs.declared.journal.JournalStep.{JournalStep}
use Rattle.std.proofs.Common.{append-nil, append_assoc, ap, arith, eq-eqb, ne_eqb, refl, sym, ◌∙◌}
use Rattle.std.specs.Prelude.{Bool, List, None, Option, [], false, if◌then◌else◌, true, ℕ, ◌%◌, ◌++◌, ◌+◌, ◌==◌, ◌^◌, ◌∷◌, ◌≡◌, ◌≢◌}

-- the word after the operation
abbrev pub ticked : Bool → ℕ → ℕ
ticked true n = (n + 1) % 2 ^ 64
ticked false n = n

module _ {N : Type 0} where
  abbrev pub counts : ℕ → Option N → JournalStep Bool N
  counts a said = record { agent = a; op = true; note = said }

  abbrev pub looks : ℕ → JournalStep Bool N
  looks a = record { agent = a; op = false; note = None }

  -- the word after these steps
  abbrev pub ticks_from : ℕ → List (JournalStep Bool N) → ℕ
  ticks_from n [] = n
  ticks_from n (s ∷ ss) = ticks_from (ticked s.op n) ss

  -- what the agent found last, before these steps and after them
  abbrev pub last_from : ℕ → ℕ → ℕ → List (JournalStep Bool N) → ℕ
  last_from a last n [] = last
  last_from a last n (s ∷ ss) = last_from a (if s.agent == a then n else last) (ticked s.op n) ss

  -- a count gives its agent a node
  abbrev pub gift : JournalStep Bool N → Bool → List (Event N)
  gift s true = record { agent = s.agent; act = Give; note = s.note } ∷ []
  gift s false = []

  -- the events of these steps
  abbrev pub gifts : List (JournalStep Bool N) → List (Event N)
  gifts [] = []
  gifts (s ∷ ss) = gift s s.op ++ gifts ss

  -- how journals run
  abbrev pub tick_rules : Rules ℕ (JournalStep Bool N) Bool ℕ N
  tick_rules = record {
    agents = λ k. k;
    blank = 0;
    born = λ k. 0;
    place = λ k a op last. 0;
    index = λ k p. p;
    written = λ k a op last n. ticked op n;
    answer = λ k a op last n. n;
    after = λ k a op last n. n;
    allowed = λ k a op last. Unit {0};
    by = λ s. s.agent;
    step = λ a op said. record { agent = a; op = op; note = said };
    opening = λ k. [];
    words = λ k j. ticks_from 0 j ∷ [];
    own = λ k j a. last_from a 0 0 j;
    lawful = λ k j. Unit {0};
    events = λ k j s. gift s s.op;
    project = λ k j. gifts j;
  }

  word_next : (n : ℕ) (j : List (JournalStep Bool N)) (s : JournalStep Bool N) → ticks_from n (j ++ s ∷ []) ≡ ticked s.op (ticks_from n j)
  word_next n [] s = refl
  word_next n (x ∷ xs) s = word_next (ticked x.op n) xs s

  last_next : (a last n : ℕ) (j : List (JournalStep Bool N)) (s : JournalStep Bool N) → s.agent ≡ a → last_from a last n (j ++ s ∷ []) ≡ ticks_from n j
  last_next a last n [] s e = ap (λ (b : Bool). if b then n else last) (eq-eqb s.agent a e)
  last_next a last n (x ∷ xs) s e = last_next a (if x.agent == a then n else last) (ticked x.op n) xs s e

  last_other : (a last n : ℕ) (j : List (JournalStep Bool N)) (s : JournalStep Bool N) → s.agent ≢ a → last_from a last n (j ++ s ∷ []) ≡ last_from a last n j
  last_other a last n [] s ne = ap (λ (b : Bool). if b then n else last) (ne_eqb s.agent a ne)
  last_other a last n (x ∷ xs) s ne = last_other a (if x.agent == a then n else last) (ticked x.op n) xs s ne

  gifts_next : (j : List (JournalStep Bool N)) (s : JournalStep Bool N) → gifts (j ++ s ∷ []) ≡ gifts j ++ gift s s.op
  gifts_next [] s = append-nil (gift s s.op)
  gifts_next (x ∷ xs) s = ap (λ l. gift x x.op ++ l) (gifts_next xs s) ∙ sym (append_assoc (gift x x.op) (gifts xs) (gift s s.op))

  pub ticks_obey : (k : ℕ) → Obeys tick_rules k
  ticks_obey k = record {
    layout = record { first = refl; rising = λ p. omega arith };
    by_step = λ a op said. refl;
    words_next = λ j a op said. ap (λ n. n ∷ []) (word_next 0 j record { agent = a; op = op; note = said });
    own_next = λ j a op said lt. last_next a 0 0 j record { agent = a; op = op; note = said } refl;
    own_other = λ j s b ne. last_other b 0 0 j s (λ e. ne (sym e));
    lawful_next = λ j a op said l may. tt;
    project_next = gifts_next;
  }
