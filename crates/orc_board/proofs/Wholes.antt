-- From a worker's rows to its entries of whole histories.
use Rattle.std.proofs.Common.{ℕ, Bool, List, [], ◌∷◌, inl, inr, Option, Some, None}
use Rattle.orc_history.specs.declared.queue.QueueEntry.{QueueEntry}
use Rattle.orc_history.specs.declared.queue.QueueRefused.{QueueRefused}
use Rattle.orc_history.specs.declared.set.SetEntry.{SetEntry}
use Rattle.orc_history.specs.declared.set.ListRefused.{ListRefused}
use Rattle.orc_board.specs.Stretches.{View, Kind, of_queue, of_set, MayStand, Stretch, Share, Licensed, Did, Row, empty_row, Stands, DidAll, Works, nothing, beside, all_beside}
use Rattle.orc_board.proofs.Shares.{DidAll-stretch, DidAll-before, own_of_rows}
use Rattle.orc_board.proofs.ListFacts.{AllByRecursion-map}

-- the rows' entries in one of the queues, and in the set, one after another
abbrev pub queue_of_rows : Bool → List Row → List QueueEntry
queue_of_rows rush rows = own_of_rows (λ (row : Row). row.queues rush) rows

abbrev pub set_of_rows : List Row → List SetEntry
set_of_rows rows = own_of_rows (λ (row : Row). row.set) rows

-- all own entries of a worker are those of its rows, in order
pub Works-queue : {A B : Type 0} (qs : Bool → View A QueueEntry QueueRefused) (s : View B SetEntry ListRefused) (rush : Bool)
    (agent : ℕ) {rows : List Row} {j k : Bool → List A} {m n : List B}
    → Works qs s agent rows j m k n → Stretch of_queue (qs rush) agent (queue_of_rows rush rows) (j rush) (k rush)
Works-queue qs s rush agent {rows = rows} {j = j} {k = k} w =
    DidAll-stretch of_queue (qs rush) agent (λ (row : Row). row.queues rush) rows (j rush) (k rush) (w.queues rush)

pub Works-set : {A B : Type 0} (qs : Bool → View A QueueEntry QueueRefused) (s : View B SetEntry ListRefused)
    (agent : ℕ) {rows : List Row} {j k : Bool → List A} {m n : List B}
    → Works qs s agent rows j m k n → Stretch of_set s agent (set_of_rows rows) m n
Works-set qs s agent {rows = rows} {m = m} {n = n} w = DidAll-stretch of_set s agent (λ (row : Row). row.set) rows m n w.set

-- a stretch of nothing before a worker's first reply
pub Works-before : {A B : Type 0} (qs : Bool → View A QueueEntry QueueRefused) (s : View B SetEntry ListRefused)
    (agent : ℕ) {rows : List Row} {i j k : Bool → List A} {l m n : List B}
    → Stands qs s agent empty_row i l j m → Works qs s agent rows j m k n → Works qs s agent rows i l k n
Works-before qs s agent {rows = rows} {i = i} {j = j} {k = k} {l = l} {m = m} {n = n} h w = record {
  queues = λ x. DidAll-before of_queue (qs x) agent (λ (row : Row). row.queues x) rows (i x) (j x) (k x) (h.queues x).stretch (w.queues x);
  set = DidAll-before of_set s agent (λ (row : Row). row.set) rows l m n h.set.stretch w.set;
}

-- the same beside more agents
abbrev pub Below : (ℕ → Type 0) → (ℕ → Type 0) → Type 0
Below few many = (x : ℕ) → few x → many x

licensed_beside : {A E W : Type 0} (x : View A E W) (C : ℕ → Type 0) (agent : ℕ) (why : Option W) (j k : List A) → Licensed x agent why j k
    → Licensed (beside x C) agent why j k
licensed_beside x C agent None j k h = tt
licensed_beside x C agent (Some why) j k h = h

Did-beside : {A E W : Type 0} (kind : Kind E) (x : View A E W) (C : ℕ → Type 0) → Below x.crowd C → (agent : ℕ) (share : Share E W) (j k : List A)
    → Did kind x agent share j k → Did kind (beside x C) agent share j k
Did-beside kind x C f agent share j k d = record {
  stretch = record {
    later = d.stretch.later;
    part = d.stretch.part;
    is = d.stretch.is;
    own_is = d.stretch.own_is;
    others = AllByRecursion-map (MayStand kind x agent) (MayStand kind (beside x C) agent)
        (λ e h. elim h as (λ _. MayStand kind (beside x C) agent e) [ inl a ↦ inl a | inr b ↦ inr (f (kind.agent_of e) b) ]) d.stretch.part d.stretch.others;
  };
  licence = licensed_beside x C agent share.refused j k d.licence;
}

pub DidAll-beside : {A E W X : Type 0} (kind : Kind E) (x : View A E W) (C : ℕ → Type 0) → Below x.crowd C → (agent : ℕ) (share : X → Share E W)
    (rows : List X) (j k : List A)
    → DidAll kind x agent share rows j k → DidAll kind (beside x C) agent share rows j k
DidAll-beside kind x C f agent share [] j k c = Did-beside kind x C f agent nothing j k c
DidAll-beside kind x C f agent share (row ∷ rows) j k (i, one, c) =
    (i, Did-beside kind x C f agent (share row) j i one, DidAll-beside kind x C f agent share rows i k c)

pub Stands-beside : {A B : Type 0} (qs : Bool → View A QueueEntry QueueRefused) (s : View B SetEntry ListRefused) (C : ℕ → Type 0)
    → ((rush : Bool) → Below (qs rush).crowd C) → Below s.crowd C
    → (agent : ℕ) (row : Row) (j k : Bool → List A) (m n : List B)
    → Stands qs s agent row j m k n → Stands (all_beside qs C) (beside s C) agent row j m k n
Stands-beside qs s C f h agent row j k m n d = record {
  queues = λ x. Did-beside of_queue (qs x) C (f x) agent (row.queues x) (j x) (k x) (d.queues x);
  set = Did-beside of_set s C h agent row.set m n d.set;
}

pub Works-beside : {A B : Type 0} (qs : Bool → View A QueueEntry QueueRefused) (s : View B SetEntry ListRefused) (C : ℕ → Type 0)
    → ((rush : Bool) → Below (qs rush).crowd C) → Below s.crowd C
    → (agent : ℕ) {rows : List Row} {j k : Bool → List A} {m n : List B}
    → Works qs s agent rows j m k n → Works (all_beside qs C) (beside s C) agent rows j m k n
Works-beside qs s C f h agent {rows = rows} {j = j} {k = k} {m = m} {n = n} w = record {
  queues = λ x. DidAll-beside of_queue (qs x) C (f x) agent (λ (row : Row). row.queues x) rows (j x) (k x) (w.queues x);
  set = DidAll-beside of_set s C h agent (λ (row : Row). row.set) rows m n w.set;
}
