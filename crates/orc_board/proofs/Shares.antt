-- How stretches, shares and rows grow.
use Rattle.std.proofs.Common.{ℕ, ◌≤◌, Bool, List, [], ◌∷◌, ◌++◌, length, Option, Some, None, refl, ap, sym, ◌∙◌, arith, length-append, append_assoc, append-nil, filter}
use mathlib.Core.List.{IsPrefix}
use Rattle.std.proofs.lemmas.List.Elements.{filter-append}
use Rattle.orc_history.specs.declared.queue.QueueEntry.{QueueEntry}
use Rattle.orc_history.specs.declared.queue.QueueRefused.{QueueRefused}
use Rattle.orc_history.specs.declared.set.SetEntry.{SetEntry}
use Rattle.orc_history.specs.declared.set.ListRefused.{ListRefused}
use Rattle.orc_board.specs.Stretches.{View, Kind, of_queue, of_set, MayStand, Stretch, Share, just, nothing, Licensed, Did, Row, empty_row, Stands, DidAll, Works}
use Rattle.orc_board.proofs.ListFacts.{AllByRecursion-append}

pub prefix_trans : {X : Type 0} (a b c : List X) → IsPrefix a b → IsPrefix b c → IsPrefix a c
prefix_trans a b c (t, e) (u, f) = (t ++ u, sym (append_assoc a t u) ∙ (ap (λ z. z ++ u) e ∙ f))

prefix_length : {X : Type 0} (a b : List X) → IsPrefix a b → length a ≤ length b
prefix_length a b (t, e) = omega (arith, length-append a t, ap length e)

pub Stretch-trans : {A E W : Type 0} (kind : Kind E) (x : View A E W) (agent : ℕ) (xs ys : List E) (i j k : List A)
    → Stretch kind x agent xs i j → Stretch kind x agent ys j k → Stretch kind x agent (xs ++ ys) i k
Stretch-trans kind x agent xs ys i j k a b = record {
  later = prefix_trans i j k a.later b.later;
  part = a.part ++ b.part;
  is = b.is ∙ (ap (λ z. z ++ b.part) a.is ∙ append_assoc (x.history i) a.part b.part);
  own_is = filter-append (kind.is_own agent) a.part b.part ∙ (ap (λ z. z ++ filter (kind.is_own agent) b.part) a.own_is ∙ ap (λ z. xs ++ z) b.own_is);
  others = AllByRecursion-append (MayStand kind x agent) a.part b.part a.others b.others;
}

pub Stretch-refl : {A E W : Type 0} (kind : Kind E) (x : View A E W) (agent : ℕ) (j : List A) → Stretch kind x agent [] j j
Stretch-refl kind x agent j = record { later = ([], append-nil j); part = []; is = sym (append-nil (x.history j)); own_is = refl; others = tt }

-- a stretch that begins earlier
pub licensed_from : {A E W : Type 0} (x : View A E W) (agent : ℕ) (why : Option W) (i j k : List A) → IsPrefix i j → Licensed x agent why j k
    → Licensed x agent why i k
licensed_from x agent None i j k p h = tt
licensed_from x agent (Some why) i j k p (from, to, a, b, c, h) = (from, to, omega (arith, prefix_length i j p), b, c, h)

-- a stretch of nothing ahead
pub Did-after : {A E W : Type 0} (kind : Kind E) (x : View A E W) (agent : ℕ) (share : Share E W) (i j k : List A)
    → Stretch kind x agent [] i j → Did kind x agent share j k → Did kind x agent share i k
Did-after kind x agent share i j k a b = record {
  stretch = Stretch-trans kind x agent [] share.own i j k a b.stretch;
  licence = licensed_from x agent share.refused i j k a.later b.licence;
}

-- entries without a refusal
pub Did-just : {A E W : Type 0} (kind : Kind E) (x : View A E W) (agent : ℕ) (own : List E) (j k : List A)
    → Stretch kind x agent own j k → Did kind x agent (just own) j k
Did-just kind x agent own j k h = record { stretch = h; licence = tt }

pub Did-nothing : {A E W : Type 0} (kind : Kind E) (x : View A E W) (agent : ℕ) (j : List A) → Did kind x agent nothing j j
Did-nothing kind x agent j = Did-just kind x agent [] j j (Stretch-refl kind x agent j)

-- the last stretch grows
pub DidAll-more : {A E W X : Type 0} (kind : Kind E) (x : View A E W) (agent : ℕ) (share : X → Share E W) (rows : List X) (j k k2 : List A)
    → DidAll kind x agent share rows j k → Did kind x agent nothing k k2 → DidAll kind x agent share rows j k2
DidAll-more kind x agent share [] j k k2 c h = Did-after kind x agent nothing j k k2 c.stretch h
DidAll-more kind x agent share (row ∷ rows) j k k2 (i, one, c) h = (i, one, DidAll-more kind x agent share rows i k k2 c h)

-- one row more
pub DidAll-snoc : {A E W X : Type 0} (kind : Kind E) (x : View A E W) (agent : ℕ) (share : X → Share E W) (rows : List X) (row : X) (j k k2 : List A)
    → DidAll kind x agent share rows j k → Did kind x agent (share row) k k2 → DidAll kind x agent share (rows ++ row ∷ []) j k2
DidAll-snoc kind x agent share [] row j k k2 c h = (k2, Did-after kind x agent (share row) j k k2 c.stretch h, Did-nothing kind x agent k2)
DidAll-snoc kind x agent share (r ∷ rows) row j k k2 (i, one, c) h = (i, one, DidAll-snoc kind x agent share rows row i k k2 c h)

-- a stretch of nothing ahead
pub DidAll-before : {A E W X : Type 0} (kind : Kind E) (x : View A E W) (agent : ℕ) (share : X → Share E W) (rows : List X) (i j k : List A)
    → Stretch kind x agent [] i j → DidAll kind x agent share rows j k → DidAll kind x agent share rows i k
DidAll-before kind x agent share [] i j k h c = Did-after kind x agent nothing i j k h c
DidAll-before kind x agent share (row ∷ rows) i j k h (a, one, c) = (a, Did-after kind x agent (share row) i j a h one, c)

-- the own entries of rows, one after another
abbrev pub own_of_rows : {E W X : Type 0} → (X → Share E W) → List X → List E
own_of_rows share [] = []
own_of_rows share (row ∷ rows) = (share row).own ++ own_of_rows share rows

-- all own entries of what was done are those of the rows, in order
pub DidAll-stretch : {A E W X : Type 0} (kind : Kind E) (x : View A E W) (agent : ℕ) (share : X → Share E W) (rows : List X) (j k : List A)
    → DidAll kind x agent share rows j k → Stretch kind x agent (own_of_rows share rows) j k
DidAll-stretch kind x agent share [] j k c = c.stretch
DidAll-stretch kind x agent share (row ∷ rows) j k (i, one, c) =
    Stretch-trans kind x agent (share row).own (own_of_rows share rows) j i k one.stretch (DidAll-stretch kind x agent share rows i k c)

pub Stands-after : {A B : Type 0} (qs : Bool → View A QueueEntry QueueRefused) (s : View B SetEntry ListRefused) (agent : ℕ) (row : Row)
    (i j k : Bool → List A) (l m n : List B)
    → Stands qs s agent empty_row i l j m → Stands qs s agent row j m k n → Stands qs s agent row i l k n
Stands-after qs s agent row i j k l m n a b = record {
  queues = λ x. Did-after of_queue (qs x) agent (row.queues x) (i x) (j x) (k x) (a.queues x).stretch (b.queues x);
  set = Did-after of_set s agent row.set l m n a.set.stretch b.set;
}

pub Stands-empty : {A B : Type 0} (qs : Bool → View A QueueEntry QueueRefused) (s : View B SetEntry ListRefused) (agent : ℕ) (j : Bool → List A) (m : List B)
    → Stands qs s agent empty_row j m j m
Stands-empty qs s agent j m = record { queues = λ x. Did-nothing of_queue (qs x) agent (j x); set = Did-nothing of_set s agent m }

-- one reply more
pub Works-row : {A B : Type 0} (qs : Bool → View A QueueEntry QueueRefused) (s : View B SetEntry ListRefused)
    (agent : ℕ) {rows : List Row} {row : Row} {j k k2 : Bool → List A} {m n n2 : List B}
    → Works qs s agent rows j m k n → Stands qs s agent row k n k2 n2 → Works qs s agent (rows ++ row ∷ []) j m k2 n2
Works-row qs s agent {rows = rows} {row = row} {j = j} {k = k} {k2 = k2} {m = m} {n = n} {n2 = n2} w h = record {
  queues = λ x. DidAll-snoc of_queue (qs x) agent (λ (r : Row). r.queues x) rows row (j x) (k x) (k2 x) (w.queues x) (h.queues x);
  set = DidAll-snoc of_set s agent (λ (r : Row). r.set) rows row m n n2 w.set h.set;
}

-- what others add later, and the agent's own Empties
pub Works-more : {A B : Type 0} (qs : Bool → View A QueueEntry QueueRefused) (s : View B SetEntry ListRefused)
    (agent : ℕ) {rows : List Row} {j k k2 : Bool → List A} {m n n2 : List B}
    → Works qs s agent rows j m k n → Stands qs s agent empty_row k n k2 n2 → Works qs s agent rows j m k2 n2
Works-more qs s agent {rows = rows} {j = j} {k = k} {k2 = k2} {m = m} {n = n} {n2 = n2} w h = record {
  queues = λ x. DidAll-more of_queue (qs x) agent (λ (r : Row). r.queues x) rows (j x) (k x) (k2 x) (w.queues x) (h.queues x);
  set = DidAll-more of_set s agent (λ (r : Row). r.set) rows m n n2 w.set h.set;
}

pub Works-none : {A B : Type 0} (qs : Bool → View A QueueEntry QueueRefused) (s : View B SetEntry ListRefused) (agent : ℕ) (j : Bool → List A) (m : List B)
    → Works qs s agent [] j m j m
Works-none qs s agent j m = record { queues = λ x. Did-nothing of_queue (qs x) agent (j x); set = Did-nothing of_set s agent m }
