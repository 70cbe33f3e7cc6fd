-- The entries of a set's history that the replies of a run stand for.
use Rattle.std.proofs.Common.{Bool, List, [], ap, arith, cond, false, filter, inl, inr, refl, subst, suc, sym, true, ℕ, ◌++◌, ◌+◌, ◌<◌, ◌==◌, ◌∙◌, ◌∷◌, ◌≡◌, ◌≢◌, ◌≤◌}
use Rattle.std.specs.List.{AllByRecursion}
use Rattle.orc_history.specs.declared.queue.QueueEntry.{QueueEntry}
use Rattle.orc_history.specs.declared.queue.QueueRefused.{QueueRefused}
use Rattle.orc_history.specs.declared.set.SetEntry.{SetEntry}
use Rattle.orc_history.specs.declared.set.SetEntry.TheVariants.{Added, Asked, Removed}
use Rattle.orc_history.specs.declared.set.ListRefused.{ListRefused}
use Rattle.orc_history.specs.SetHistory.{agent_of_set_entry}
use Rattle.orc_jobs.specs.declared.line.Line.{Line}
use Rattle.orc_jobs.specs.declared.line.Line.TheVariants as line
use Rattle.orc_board.specs.declared.replies.PostReply.{PostReply}
use Rattle.orc_board.specs.declared.replies.PostWord.{PostWord}
use Rattle.orc_board.specs.declared.replies.PostWord.TheVariants as word
use Rattle.orc_board.specs.declared.replies.TakeReply.{TakeReply}
use Rattle.orc_board.specs.declared.replies.TakeWord.{TakeWord}
use Rattle.orc_board.specs.Stretches.{MayStand, Row, Share, Stretch, View, all_beside, beside, is_own_answer, of_set}
use Rattle.orc_board.specs.Table.{IsJob, IsWordOf, JobPart, JobRow, PostRow, claim_answer}
use Rattle.orc_history.specs.Lists.{Pairwise}
use Rattle.orc_board.specs.Follows.{IsWorker, PosterRow, TookRow, WorkersFollow, posts_of, taker_agent, takes_of}
use Rattle.orc_board.proofs.Keyed.{by_key_below}
use Rattle.orc_board.proofs.ListFacts.{AllByRecursion-append, AllByRecursion-filter, AllByRecursion-left, AllByRecursion-map, AllByRecursion-right, eq-yes, zero_or}
use Rattle.orc_board.proofs.Orders.{above_zero, no_posts, posters_in_range}
use Rattle.orc_board.proofs.Wholes.{Works-set, set_of_rows}
use Rattle.orc_board.proofs.WorkerCases.{worker_cases}
use Rattle.orc_report.proofs.NumberedLines.{PostTheirNumbers, PostsId}

-- what holds of the items with each key holds of all
pub by_keys : {X : Type 0} (key : X → ℕ) (P : X → Type 0) (n : ℕ) (xs : List X) → AllByRecursion (λ x. key x < n) xs
    → ((a : ℕ) → a < n → AllByRecursion P (filter (λ x. key x == a) xs)) → AllByRecursion P xs
by_keys key P n [] low h = tt
by_keys {X} key P n (x ∷ xs) low h = (head, by_keys key P n xs low.1 (λ a l. tail a (key x == a) (h a l)))
  where
    head : P x
    head =
        let all : AllByRecursion P (x ∷ filter (λ y. key y == key x) xs) =
        subst (λ (b : Bool). AllByRecursion P (cond b (x ∷ filter (λ y. key y == key x) xs) (filter (λ y. key y == key x) xs))) (eq-yes (key x) (key x) refl)
        (h (key x) low.0) in
        all.0

    tail : (a : ℕ) (b : Bool) → AllByRecursion P (cond b (x ∷ filter (λ y. key y == a) xs) (filter (λ y. key y == a) xs))
        → AllByRecursion P (filter (λ y. key y == a) xs)
    tail a true k = k.1
    tail a false k = k

-- from replies to the entries of their rows, and back
rows_entries : {X : Type 0} (R : X → Row → Type 0) (Q : X → Type 0) (G : SetEntry → Type 0)
    → ((x : X) (row : Row) → R x row → Q x → AllByRecursion G row.set.own)
    → (xs : List X) (rows : List Row) → Pairwise R xs rows → AllByRecursion Q xs → AllByRecursion G (set_of_rows rows)
rows_entries R Q G step [] [] z a = tt
rows_entries R Q G step [] (row ∷ rows) z a = absurd z
rows_entries R Q G step (x ∷ xs) [] z a = absurd z
rows_entries R Q G step (x ∷ xs) (row ∷ rows) z a =
    AllByRecursion-append G row.set.own (set_of_rows rows) (step x row z.0 a.0) (rows_entries R Q G step xs rows z.1 a.1)

rows_back : {X : Type 0} (R : X → Row → Type 0) (Q : X → Type 0) (G : SetEntry → Type 0)
    → ((x : X) (row : Row) → R x row → AllByRecursion G row.set.own → Q x)
    → (xs : List X) (rows : List Row) → Pairwise R xs rows → AllByRecursion G (set_of_rows rows) → AllByRecursion Q xs
rows_back R Q G step [] [] z a = tt
rows_back R Q G step [] (row ∷ rows) z a = absurd z
rows_back R Q G step (x ∷ xs) [] z a = absurd z
rows_back R Q G step (x ∷ xs) (row ∷ rows) z a = (
  step x row z.0 (AllByRecursion-left G row.set.own (set_of_rows rows) a),
  rows_back R Q G step xs rows z.1 (AllByRecursion-right G row.set.own (set_of_rows rows) a),
)

own_set : {B : Type 0} (s : View B SetEntry ListRefused) (agent : ℕ) (own : List SetEntry) (n : List B) → s.history [] ≡ []
    → Stretch of_set s agent own [] n → filter (is_own_answer agent) (s.history n) ≡ own
own_set s agent own n none t = ap (filter (is_own_answer agent)) (t.is ∙ ap (λ u. u ++ t.part) none) ∙ t.own_is

at_most : (n a b : ℕ) → a ≡ b → b ≤ n → a < suc n
at_most n a b e h = omega (arith, e, h)

module _ {A B : Type 0} (qs : Bool → View A QueueEntry QueueRefused) (s : View B SetEntry ListRefused) (lines : List Line) (posters takers : ℕ)
    (posts : List PostReply) (takes : List TakeReply) (k : Bool → List A) (n : List B)
    (none : s.history [] ≡ []) (f : WorkersFollow qs s lines posters takers posts takes k n) where
  abbrev crowd : ℕ → Type 0
  crowd = IsWorker posters takers

  agents : AllByRecursion (λ e. agent_of_set_entry e < suc (posters + takers)) (s.history n)
  agents =
      let main = Works-set (all_beside qs crowd) (beside s crowd) 0 (f.claiming 0 (omega arith)).works in
      let is : s.history n ≡ main.part = main.is ∙ ap (λ z. z ++ main.part) none in
      subst (AllByRecursion (λ e. agent_of_set_entry e < suc (posters + takers))) (sym is)
      (AllByRecursion-map (MayStand of_set (beside s crowd) 0) (λ e. agent_of_set_entry e < suc (posters + takers))
      (λ e h. elim h as (λ _. agent_of_set_entry e < suc (posters + takers)) [
        | inl z ↦ at_most (posters + takers) (agent_of_set_entry e) 0 z (omega arith)
        | inr w ↦ at_most (posters + takers) (agent_of_set_entry e) (agent_of_set_entry e) refl w
      ]) main.part main.others)

  own_posts : (p : ℕ) (low : 1 ≤ p) (high : p ≤ posters) → filter (is_own_answer p) (s.history n) ≡ set_of_rows (f.posting p low high).rows
  own_posts p low high =
      let w = f.posting p low high in
      own_set (beside s crowd) p (set_of_rows w.rows) n none (Works-set (all_beside qs crowd) (beside s crowd) p w.works)

  own_takes : (t : ℕ) (high : t ≤ takers) → filter (is_own_answer (taker_agent posters t)) (s.history n) ≡ set_of_rows (f.claiming t high).rows
  own_takes t high =
      let w = f.claiming t high in
      own_set (beside s crowd) (taker_agent posters t) (set_of_rows w.rows) n none
      (Works-set (all_beside qs crowd) (beside s crowd) (taker_agent posters t) w.works)

  -- what follows for the rows of all replies holds of all entries
  pub operation_totals : (P : PostReply → Type 0) (T : TakeReply → Type 0) (G : SetEntry → Type 0)
      → ((p : ℕ) (r : PostReply) (row : Row) → PosterRow lines p r row → P r → AllByRecursion G row.set.own)
      → ((t a : ℕ) (r : TakeReply) (row : Row) → TookRow lines t a r row → T r → AllByRecursion G row.set.own)
      → AllByRecursion P posts → AllByRecursion T takes → AllByRecursion G (s.history n)
  operation_totals P T G post take all_posts all_takes =
      let by_taker : (t : ℕ) → t ≤ takers → AllByRecursion G (filter (is_own_answer (taker_agent posters t)) (s.history n)) = λ t high.
      let w = f.claiming t high in
      subst (AllByRecursion G) (sym (own_takes t high))
      (rows_entries (TookRow lines t (taker_agent posters t)) T G (take t (taker_agent posters t)) (takes_of t takes) w.rows w.table
      (AllByRecursion-filter T (λ r. r.taker == t) takes all_takes)) in
      let by_poster : (p : ℕ) → 1 ≤ p → p ≤ posters → AllByRecursion G (filter (is_own_answer p) (s.history n)) = λ p low high.
      let w = f.posting p low high in
      subst (AllByRecursion G) (sym (own_posts p low high))
      (rows_entries (PosterRow lines p) P G (post p) (posts_of p posts) w.rows w.table (AllByRecursion-filter P (λ r. r.poster == p) posts all_posts)) in
      by_keys agent_of_set_entry G (suc (posters + takers)) (s.history n) agents
      (λ a l. worker_cases posters takers (λ a. AllByRecursion G (filter (is_own_answer a) (s.history n))) by_taker by_poster a (omega (arith, l)))

  -- and back
  pub posts_back : (P : PostReply → Type 0) (G : SetEntry → Type 0)
      → ((p : ℕ) → 1 ≤ p → (r : PostReply) (row : Row) → PosterRow lines p r row → AllByRecursion G row.set.own → P r)
      → AllByRecursion G (s.history n) → AllByRecursion P posts
  posts_back P G step all =
      let range = posters_in_range lines posters takers posts takes f.order in
      by_keys (λ (r : PostReply). r.poster) P (suc posters) posts
      (AllByRecursion-map (λ (r : PostReply). (1 ≤ r.poster) × (r.poster < suc posters)) (λ (r : PostReply). r.poster < suc posters) (λ r h. h.1) posts range)
      (λ p l. elim (zero_or p) as (λ _. AllByRecursion P (posts_of p posts)) [
        | inl z ↦ subst (AllByRecursion P) (sym (no_posts posters p posts range (λ x h. above_zero p x posters z h))) tt
        | inr low ↦
            let high : p ≤ posters = omega (arith, l) in
            let w = f.posting p low high in
            rows_back (PosterRow lines p) P G (step p low) (posts_of p posts) w.rows w.table
            (subst (AllByRecursion G) (own_posts p low high) (AllByRecursion-filter G (is_own_answer p) (s.history n) all))
      ])

  pub takes_back : (T : TakeReply → Type 0) (G : SetEntry → Type 0)
      → ((t : ℕ) → t ≤ takers → (r : TakeReply) (row : Row) → TookRow lines t (taker_agent posters t) r row → AllByRecursion G row.set.own → T r)
      → AllByRecursion G (s.history n) → AllByRecursion T takes
  takes_back T G step all =
      by_keys (λ (r : TakeReply). r.taker) T (suc takers) takes
      (subst (AllByRecursion (λ (r : TakeReply). r.taker < suc takers)) (sym f.order.by_taker) (by_key_below (λ (r : TakeReply). r.taker) (suc takers) takes))
      (λ t l.
      let high : t ≤ takers = omega (arith, l) in
      let w = f.claiming t high in
      rows_back (TookRow lines t (taker_agent posters t)) T G (step t high) (takes_of t takes) w.rows w.table
      (subst (AllByRecursion G) (own_takes t high) (AllByRecursion-filter G (is_own_answer (taker_agent posters t)) (s.history n) all)))

-- what an entry says of the reply to line i for which it stands
abbrev pub PostSays : ℕ → PostWord → SetEntry → Type 0
PostSays i w (Added a id true) = (id ≡ i) × (w ≢ word.Busy)
PostSays i w (Added a id false) = Unit {0}
PostSays i w (Removed a id answer) = (id ≡ i) × ((at : ℕ) → w ≢ word.Posted at)
PostSays i w (Asked a id answer) = Unit {0}

abbrev pub TakeSays : ℕ → TakeWord → SetEntry → Type 0
TakeSays i w (Added a id answer) = ⊥
TakeSays i w (Removed a id answer) = (id ≡ i) × (answer ≡ claim_answer w)
TakeSays i w (Asked a id answer) = ⊥

not_busy : (at : ℕ) → word.Posted at ≢ word.Busy
not_busy at e = cc e

no_node : word.NoNode ≢ word.Busy
no_node e = cc e

no_position : word.Positions ≢ word.Busy
no_position e = cc e

not_posted : (at : ℕ) → word.NoNode ≢ word.Posted at
not_posted at e = cc e

not_put : (at : ℕ) → word.Positions ≢ word.Posted at
not_put at e = cc e

job_says : (agent i id : ℕ) (w : PostWord) (queue : Share QueueEntry QueueRefused) (set : Share SetEntry ListRefused) → id ≡ i → IsWordOf false w
    → JobPart agent i id w queue set → AllByRecursion (PostSays i w) set.own
job_says agent i id (word.Posted at) queue set e of h = rw h.1 ((e, not_busy at), tt)
job_says agent i id (word.Rushed at) queue set e of h = absurd of
job_says agent i id word.Busy queue set e of h = rw h.1 (tt, tt)
job_says agent i id word.NoNode queue set e of h = elim h as (λ _. AllByRecursion (PostSays i word.NoNode) set.own) [
  | inl g ↦ rw g.1 tt
  | inr g ↦ rw g.1.1 ((e, no_node), ((e, not_posted), tt))
]
job_says agent i id word.Positions queue set e of h = rw h.1.1 ((e, no_position), ((e, not_put), tt))
job_says agent i id word.Spent queue set e of h = rw h.1.1 tt
job_says agent i id word.Dropped queue set e of h = absurd h
job_says agent i id word.Unknown queue set e of h = absurd h
job_says agent i id word.Skipped queue set e of h = absurd h

-- a numbered line's row is that of a job of the queue whose id is the line's number
pub numbered_row : (lines : List Line) → PostTheirNumbers lines → (p : ℕ) (r : PostReply) (row : Row) → PosterRow lines p r row
    → (id : ℕ) × (id ≡ r.line) × JobRow false p r.line id r.what row
numbered_row lines num p r row z = went z.line (num r.line z.line z.is) z.table
  where
    went : (l : Line) → PostsId r.line l → PostRow p r.line l r.what row → (id : ℕ) × (id ≡ r.line) × JobRow false p r.line id r.what row
    went (line.Post id op text) e h = (id, e, h)
    went (line.Rush id op text) e h = absurd e
    went (line.Drop id) e h = absurd e

pub post_says : (lines : List Line) → PostTheirNumbers lines → (p : ℕ) (r : PostReply) (row : Row) → PosterRow lines p r row
    → AllByRecursion (PostSays r.line r.what) row.set.own
post_says lines num p r row z = let (id, e, h) = numbered_row lines num p r row z in job_says p r.line id r.what (row.queues false) row.set e h.word h.part

-- the job of a claim is one of the queue, and has its number for id
pub numbered_job : (lines : List Line) → PostTheirNumbers lines → (rush : Bool) (i id : ℕ) → IsJob lines rush i id → (rush ≡ false) × (id ≡ i)
numbered_job lines num false i id job = (refl, num i (line.Post id job.op job.text) job.is)
numbered_job lines num true i id job = absurd (num i (line.Rush id job.op job.text) job.is)

pub take_says : (lines : List Line) → PostTheirNumbers lines → (t a : ℕ) (r : TakeReply) (row : Row) → TookRow lines t a r row
    → AllByRecursion (TakeSays r.line r.what) row.set.own
take_says lines num t a r row z =
    subst (λ (x : Share SetEntry ListRefused). AllByRecursion (TakeSays r.line r.what) x.own) (sym z.table.set)
    (((numbered_job lines num r.rush r.line z.table.id z.table.job).1, refl), tt)
