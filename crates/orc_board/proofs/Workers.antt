-- What a worker's replies stand for grows reply by reply.
use Rattle.std.proofs.Common.{◌≡◌, ◌≢◌, ℕ, zero, suc, ◌+◌, ◌≤◌, ◌<◌, slice_get, ◌-◌, ◌%◌, List, [], ◌∷◌, ◌++◌, length, map, Bool, true, false, cond, ◌==◌, filter, Some, None, refl, ap, sym, ◌∙◌, subst, append_assoc, arith, add-one, append-nil, length-append}
use mathlib.Core.List.{Sublist as IsSublist, nil-sublist, sublist-append_left, sublist-append_right}
use mathlib.Core.List.Sublist
use Rattle.std.specs.List.{range_with_len}
use Rattle.std.proofs.lemmas.List.{length-map, map-append}
use Rattle.std.proofs.lemmas.List.Elements.{filter-append}
use Rattle.orc_history.specs.declared.queue.QueueEntry.{QueueEntry}
use Rattle.orc_history.specs.declared.queue.QueueEntry.TheVariants.{Empty, Took}
use Rattle.orc_history.specs.declared.queue.QueueRefused.{QueueRefused}
use Rattle.orc_history.specs.declared.set.SetEntry.{SetEntry}
use Rattle.orc_history.specs.declared.set.ListRefused.{ListRefused}
use Rattle.orc_jobs.specs.declared.line.Line.{Line}
use Rattle.orc_board.specs.declared.replies.PostReply.{PostReply}
use Rattle.orc_board.specs.declared.replies.TakeReply.{TakeReply}
use Rattle.orc_board.specs.Stretches.{View, Row, Replied, Stretch, empty_row, of_queue}
use Rattle.orc_board.specs.Table.{PostRow, TakenRow, EndsWith, TakeEnds, taken_of}
use Rattle.orc_history.specs.Lists.{Pairwise}
use Rattle.orc_board.specs.Follows.{AskedRush, Posting, Taking, TakingRest, PosterRow, TakerRow, own_records, rush_answer}
use Rattle.orc_board.proofs.Shares.{Works-none, Works-row, Stands-empty, DidAll-stretch, own_of_rows}
use Rattle.orc_board.proofs.CallStretches.{ends_later}
use Rattle.orc_board.proofs.ListFacts.{eq-yes, eq-no}

pub Pairwise-snoc : {X Y : Type 0} (R : X → Y → Type 0) (xs : List X) (ys : List Y) (x : X) (y : Y) → Pairwise R xs ys → R x y
    → Pairwise R (xs ++ x ∷ []) (ys ++ y ∷ [])
Pairwise-snoc R [] [] x y z h = (h, tt)
Pairwise-snoc R [] (b ∷ ys) x y z h = absurd z
Pairwise-snoc R (a ∷ xs) [] x y z h = absurd z
Pairwise-snoc R (a ∷ xs) (b ∷ ys) x y z h = (z.0, Pairwise-snoc R xs ys x y z.1 h)

pub posting_none : {A B : Type 0} (qs : Bool → View A QueueEntry QueueRefused) (s : View B SetEntry ListRefused) (lines : List Line) (poster : ℕ)
    (replies : List PostReply) (j : Bool → List A) (m : List B)
    → replies ≡ [] → Posting qs s lines poster replies j m j m
posting_none qs s lines poster replies j m e = record { rows = []; table = rw e tt; works = Works-none qs s poster j m }

pub posting_more : {A B : Type 0} (qs : Bool → View A QueueEntry QueueRefused) (s : View B SetEntry ListRefused) (lines : List Line) (poster index : ℕ) (line : Line)
    (replies : List PostReply) (r : PostReply) (j k k2 : Bool → List A) (m n n2 : List B)
    → Posting qs s lines poster replies j m k n → (r.poster ≡ poster) × (r.line ≡ index) → slice_get lines index ≡ Some line
    → Replied qs s (PostRow poster index line r.what) poster k n k2 n2 → Posting qs s lines poster (replies ++ r ∷ []) j m k2 n2
posting_more qs s lines poster index line replies r j k k2 m n n2 p same at done = record {
  rows = p.rows ++ done.row ∷ [];
  table = Pairwise-snoc (PosterRow lines poster) replies p.rows r done.row p.table (record {
    poster_is = same.0;
    line = line;
    is = ap (slice_get lines) same.1 ∙ at;
    table = subst (λ (i : ℕ). PostRow poster i line r.what done.row) (sym same.1) done.is;
  });
  works = Works-row qs s poster p.works done.stands;
}

-- the records below n + 1 are those below n, and n where it is the poster's
range-snoc : (a n : ℕ) → range_with_len a (suc n) ≡ range_with_len a n ++ (a + n) ∷ []
range-snoc a zero = let e : a ≡ a + 0 = omega arith in ap (λ (x : ℕ). x ∷ []) e
range-snoc a (suc n) =
    let e : a + 1 + n ≡ a + suc n = omega arith in
    ap (λ z. a ∷ z) (range-snoc (a + 1) n ∙ ap (λ (x : ℕ). range_with_len (a + 1) n ++ x ∷ []) e)

own-next : (posters poster n : ℕ) → own_records posters poster (n + 1) ≡ own_records posters poster n ++ cond (n % posters + 1 == poster) (n ∷ []) []
own-next posters poster n =
    let test : ℕ → Bool = λ i. i % posters + 1 == poster in
    let e : 0 + n ≡ n = omega arith in
    ap (own_records posters poster) (add-one n)
    ∙ (ap (filter test) (range-snoc 0 n)
    ∙ (filter-append test (range_with_len 0 n) ((0 + n) ∷ []) ∙ ap (λ (x : ℕ). own_records posters poster n ++ filter test (x ∷ [])) e))

pub own-yes : (posters poster n : ℕ) → 1 ≤ poster → n % posters ≡ poster - 1 → own_records posters poster n ++ n ∷ [] ≡ own_records posters poster (n + 1)
own-yes posters poster n some e =
    let test : (n % posters + 1 == poster) ≡ true = eq-yes _ _ (omega arith) in
    sym (own-next posters poster n ∙ ap (λ (b : Bool). own_records posters poster n ++ cond b (n ∷ []) []) test)

pub own-no : (posters poster n : ℕ) → 1 ≤ poster → n % posters ≢ poster - 1 → own_records posters poster n ≡ own_records posters poster (n + 1)
own-no posters poster n some e =
    let test : (n % posters + 1 == poster) ≡ false = eq-no _ _ (λ h. e (omega arith)) in
    sym (own-next posters poster n ∙ (ap (λ (b : Bool). own_records posters poster n ++ cond b (n ∷ []) []) test ∙ append-nil (own_records posters poster n)))

own-grow : (posters poster n more : ℕ) → length (own_records posters poster n) ≤ length (own_records posters poster (n + more))
own-grow posters poster n zero = let e : n + 0 ≡ n = omega arith in rw e (omega arith)
own-grow posters poster n (suc more) =
    let e : n + suc more ≡ n + more + 1 = omega arith in
    let last : List ℕ = cond ((n + more) % posters + 1 == poster) ((n + more) ∷ []) [] in
    rw e (rw (own-next posters poster (n + more)) (omega (arith, own-grow posters poster n more, length-append (own_records posters poster (n + more)) last)))

-- as many replies as records
pub own-many : {T : Type 0} (line : T → ℕ) (replies : List T) (own : List ℕ) → map line replies ≡ own → length replies ≡ length own
own-many line replies own e = sym (length-map replies line) ∙ ap length e

-- there is one record more
pub own-room : (posters poster i n : ℕ) → 1 ≤ poster → i < n → i % posters ≡ poster - 1
    → length (own_records posters poster i) < length (own_records posters poster n)
own-room posters poster i n some low e =
    let is : i + 1 + (n - (i + 1)) ≡ n = omega arith in
    let grown : length (own_records posters poster (i + 1)) ≤ length (own_records posters poster n) =
    subst (λ (x : ℕ). length (own_records posters poster (i + 1)) ≤ length (own_records posters poster x)) is (own-grow posters poster (i + 1) (n - (i + 1))) in
    omega (arith, grown, ap length (own-yes posters poster i some e), length-append (own_records posters poster i) (i ∷ []))

-- the reply to one's own record joins those to the earlier ones, and there is room for it
module _ {T : Type 0} (line : T → ℕ) (posters poster i : ℕ) (replies : List T) (some : 1 ≤ poster) (e : i % posters ≡ poster - 1)
    (own : map line replies ≡ own_records posters poster i) where
  pub own-more : (r : T) → line r ≡ i → map line (replies ++ r ∷ []) ≡ own_records posters poster (i + 1)
  own-more r is =
      map-append line replies (r ∷ [])
      ∙ (ap (λ (n : ℕ). map line replies ++ n ∷ []) is ∙ (ap (λ (ns : List ℕ). ns ++ i ∷ []) own ∙ own-yes posters poster i some e))

  pub own-spare : (n spare room : ℕ) → i < n → length (own_records posters poster n) ≤ room → length replies + spare ≡ room → spare ≢ 0
  own-spare n spare room low fits all none =
      omega (arith, none, own-room posters poster i n some low e, own-many line replies (own_records posters poster i) own, fits, all)

-- the rush queue's answers to an agent stay where the journals begin earlier or end later, and that to its next reply joins them
module _ {A : Type 0} (q : View A QueueEntry QueueRefused) (agent : ℕ) (replies : List TakeReply) where
  pub asked_later : (own : List QueueEntry) (j k l : List A) → AskedRush q.history agent replies j k → Stretch of_queue q agent own k l
      → AskedRush q.history agent replies j l
  asked_later own j k l asked t = record {
    part = asked.part ++ t.part;
    is = t.is ∙ (ap (λ z. z ++ t.part) asked.is ∙ append_assoc (q.history j) asked.part t.part);
    answers = Sublist.trans asked.answers (sublist-append_left asked.part t.part);
  }

  pub asked_earlier : (own : List QueueEntry) (i j k : List A) → Stretch of_queue q agent own i j → AskedRush q.history agent replies j k
      → AskedRush q.history agent replies i k
  asked_earlier own i j k t asked = record {
    part = t.part ++ asked.part;
    is = asked.is ∙ (ap (λ z. z ++ asked.part) t.is ∙ append_assoc (q.history i) t.part asked.part);
    answers = Sublist.trans asked.answers (sublist-append_right t.part asked.part);
  }

  pub asked_more : (r : TakeReply) (j k l : List A) → AskedRush q.history agent replies j k → EndsWith q agent (rush_answer agent r) k l
      → AskedRush q.history agent (replies ++ r ∷ []) j l
  asked_more r j k l asked e =
      let answer : QueueEntry = rush_answer agent r in
      let last : IsSublist (answer ∷ []) (e.front ++ answer ∷ e.back) =
      Sublist.trans (Sublist.cons-cons answer (nil-sublist e.back)) (sublist-append_right e.front (answer ∷ e.back)) in
      record {
        part = asked.part ++ (e.front ++ answer ∷ e.back);
        is = e.is ∙ (ap (λ z. z ++ (e.front ++ answer ∷ e.back)) asked.is ∙ append_assoc (q.history j) asked.part (e.front ++ answer ∷ e.back));
        answers = rw (map-append (rush_answer agent) replies (r ∷ [])) (Sublist.append asked.answers last);
      }

-- the rush queue's last answer to a take with this reply
pub rush_ends : {A : Type 0} (qs : Bool → View A QueueEntry QueueRefused) (agent : ℕ) (r : TakeReply) (j k : Bool → List A)
    → TakeEnds qs agent (taken_of (Some r)) j k → EndsWith (qs true) agent (rush_answer agent r) (j true) (k true)
rush_ends qs agent r j k last =
    let cases : (b : Bool) → r.rush ≡ b → EndsWith (qs true) agent (cond b (Took agent r.line r.at) (Empty agent)) (j true) (k true) =
    elim [
      | true ↦ λ is. subst (λ (b : Bool). EndsWith (qs b) agent (Took agent r.line r.at) (j b) (k b)) is last.took
      | false ↦ λ is. last.rush_first is
    ] in
    cases r.rush refl

pub taking_none : {A B : Type 0} (qs : Bool → View A QueueEntry QueueRefused) (s : View B SetEntry ListRefused) (lines : List Line) (taker agent : ℕ)
    (replies : List TakeReply) (j : Bool → List A) (m : List B)
    → replies ≡ [] → Taking qs s lines taker agent replies j m j m
taking_none qs s lines taker agent replies j m e = record {
  rows = [];
  table = rw e tt;
  works = Works-none qs s agent j m;
  asked_rush = rw e (record { part = []; is = sym (append-nil ((qs true).history (j true))); answers = nil-sublist [] });
}

pub taking_more : {A B : Type 0} (qs : Bool → View A QueueEntry QueueRefused) (s : View B SetEntry ListRefused) (lines : List Line) (taker agent now : ℕ)
    (replies : List TakeReply) (r : TakeReply) (j k k2 : Bool → List A) (m n n2 : List B)
    → Taking qs s lines taker agent replies j m k n → now ≡ agent → r.taker ≡ taker
    → TakeEnds qs now (taken_of (Some r)) k k2 → Replied qs s (TakenRow lines now (Some r)) now k n k2 n2
    → Taking qs s lines taker agent (replies ++ r ∷ []) j m k2 n2
taking_more qs s lines taker agent now replies r j k k2 m n n2 p e same ends replied =
    let last : TakeEnds qs agent (taken_of (Some r)) k k2 = subst (λ (x : ℕ). TakeEnds qs x (taken_of (Some r)) k k2) e ends in
    let done : Replied qs s (TakenRow lines agent (Some r)) agent k n k2 n2 = subst (λ (x : ℕ). Replied qs s (TakenRow lines x (Some r)) x k n k2 n2) e replied in
    record {
      rows = p.rows ++ done.row ∷ [];
      table = Pairwise-snoc (TakerRow lines taker agent) replies p.rows r done.row p.table (record { taker_is = same; table = done.is });
      works = Works-row qs s agent p.works done.stands;
      asked_rush = asked_more (qs true) agent replies r (j true) (k true) (k2 true) p.asked_rush (rush_ends qs agent r k k2 last);
    }

pub taking_end : {A B : Type 0} (qs : Bool → View A QueueEntry QueueRefused) (s : View B SetEntry ListRefused) (lines : List Line) (taker agent now : ℕ)
    (replies : List TakeReply) (j k k2 : Bool → List A) (m n n2 : List B)
    → Taking qs s lines taker agent replies j m k n → now ≡ agent → Replied qs s (TakenRow lines now None) now k n k2 n2
    → TakingRest qs s lines taker agent replies j m k2 n2
taking_end qs s lines taker agent now replies j k k2 m n n2 p e last = record {
  queues = k;
  set = n;
  taking = p;
  last = subst (λ (x : ℕ). Replied qs s (TakenRow lines x None) x k n k2 n2) e last;
}

pub taking_full : {A B : Type 0} (qs : Bool → View A QueueEntry QueueRefused) (s : View B SetEntry ListRefused) (lines : List Line) (taker agent : ℕ)
    (replies : List TakeReply) (j k : Bool → List A) (m n : List B)
    → Taking qs s lines taker agent replies j m k n → TakingRest qs s lines taker agent replies j m k n
taking_full qs s lines taker agent replies j k m n p = record {
  queues = k;
  set = n;
  taking = p;
  last = record {
    row = empty_row;
    is = record { skipped = λ x. []; skips = λ x. tt; queues = λ x. refl; set = refl };
    stands = Stands-empty qs s agent k n;
  };
}

-- a take that found nothing, after others
pub taking_last : {A B : Type 0} (qs : Bool → View A QueueEntry QueueRefused) (s : View B SetEntry ListRefused) (lines : List Line) (taker agent now : ℕ)
    (replies : List TakeReply) (j k k2 : Bool → List A) (m n : List B)
    → Taking qs s lines taker agent replies j m k n → now ≡ agent → TakeEnds qs now None k k2 → TakeEnds qs agent None j k2
taking_last qs s lines taker agent now replies j k k2 m n p e ends = λ x.
    ends_later (qs x) agent (Empty agent) (own_of_rows (λ (row : Row). row.queues x) p.rows) (j x) (k x) (k2 x)
    (DidAll-stretch of_queue (qs x) agent (λ (row : Row). row.queues x) p.rows (j x) (k x) (p.works.queues x))
    (subst (λ (a : ℕ). EndsWith (qs x) a (Empty a) (k x) (k2 x)) e (ends x))
