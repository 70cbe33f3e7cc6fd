-- Runs of lines that post numbered jobs: no reply is Busy; without takers none is Void; and where none is refused, every job is done.
use Rattle.std.proofs.Common.{Bool, List, Some, [], ap, append-nil, arith, cond, false, filter, flat_map, get_or, inl, inr, length, map, refl, slice_get, subst, suc, sym, take, true, zero, ℕ, ◌++◌, ◌<◌, ◌==◌, ◌∙◌, ◌∷◌, ◌≡◌, ◌≢◌, ◌≤◌, ◌⊎◌}
use Rattle.std.specs.List.{AllByRecursion, IsDistinct, list_any, range_with_len}
use Rattle.std.specs.List.Sorted.{IsPermutation}
use Rattle.std.proofs.Math.Seq.{take-length, take-suc}
use Rattle.std.proofs.lemmas.Bool.{cases_Bool}
use Rattle.std.proofs.lemmas.Grind.{flat_map-append}
use Rattle.std.proofs.lemmas.List.FromFn.{get_or-range_with_len, length-range_with_len}
use Rattle.std.proofs.lemmas.List.Sorted.{All-permutation, IsPermutation-map, IsPermutation-sym, IsPermutation-trans, list_any-IsPermutation}
use Rattle.std.proofs.lemmas.Map.Keys.{IsDistinct-IsPermutation, IsDistinct-from_apart}
use Rattle.std.proofs.lemmas.Option.{get_or_from_slice_get}
use Rattle.orc_history.proofs.SortedLists.{has-present}
use Rattle.orc_history.specs.declared.queue.QueueEntry.{QueueEntry}
use Rattle.orc_history.specs.declared.queue.QueueRefused.{QueueRefused}
use Rattle.orc_history.specs.declared.set.SetEntry.{SetEntry}
use Rattle.orc_history.specs.declared.set.SetEntry.TheVariants.{Added, Asked, Removed}
use Rattle.orc_history.specs.declared.set.ListRefused.{ListRefused}
use Rattle.orc_history.specs.SetHistory.{IsLegalSet, agent_of_set_entry, has, keys_after}
use Rattle.orc_jobs.specs.declared.line.Job.{Job}
use Rattle.orc_jobs.specs.declared.line.Line.{Line}
use Rattle.orc_jobs.specs.declared.line.Line.TheVariants as line
use Rattle.orc_jobs.specs.JobValue.{IsJobValue}
use Rattle.orc_jobs.specs.Line.{job_line}
use Rattle.orc_board.specs.declared.replies.PostReply.{PostReply}
use Rattle.orc_board.specs.declared.replies.PostWord.{PostWord}
use Rattle.orc_board.specs.declared.replies.PostWord.TheVariants as word
use Rattle.orc_board.specs.declared.replies.TakeReply.{TakeReply}
use Rattle.orc_board.specs.declared.replies.TakeWord.{TakeWord}
use Rattle.orc_board.specs.declared.replies.TakeWord.TheVariants as took
use Rattle.orc_board.specs.Stretches.{Row, Share, View}
use Rattle.orc_board.specs.Table.{HasValue, IsWordOf, JobPart, JobRow, claim_answer}
use Rattle.orc_history.specs.Lists.{Pairwise}
use Rattle.orc_board.specs.Follows.{TookRow, grouped_by_key, taker_agent}
use Rattle.orc_board.specs.Reportable.{IsClaim, claim_of, is_side, posted_by, posted_of, takes_with}
use Rattle.orc_board.specs.Runs.{Ran}
use Rattle.orc_board.proofs.ListFacts.{AllByRecursion-append, AllByRecursion-filter, AllByRecursion-left, AllByRecursion-map, AllByRecursion-right, eq-false, eq-no, eq-true, filter-none}
use Rattle.orc_board.proofs.Orders.{each_line, same}
use Rattle.orc_report.specs.AllDone.{AreJobsOf, IsJobOf, NoneRefused, NoneVoid}
use Rattle.orc_report.proofs.NumberedLines.{PostTheirNumbers}
use Rattle.orc_report.specs.Summary.{done_as, done_in, done_jobs}
use Rattle.orc_report.proofs.KeptKeys.{NotAdded, NotBusy, NotMissed, NotRemoved, legal-behind, never-added, never-busy, never-missed}
use Rattle.orc_report.proofs.PositionOrder.{all_of, every_at}
use Rattle.orc_report.proofs.RunEntries.{PostSays, TakeSays, operation_totals, numbered_job, numbered_row, post_says, posts_back, take_says, takes_back}

abbrev In : {X : Type 0} → X → List X → Type 0
In x [] = ⊥
In x (y ∷ ys) = (y ≡ x) ⊎ In x ys

of_all : {X : Type 0} (P : X → Type 0) (x : X) (xs : List X) → AllByRecursion P xs → In x xs → P x
of_all P x [] a i = absurd i
of_all P x (y ∷ ys) a (inl e) = subst P e a.0
of_all P x (y ∷ ys) a (inr i) = of_all P x ys a.1 i

for_all : {X : Type 0} (P : X → Type 0) (xs : List X) → ((x : X) → In x xs → P x) → AllByRecursion P xs
for_all P [] h = tt
for_all P (x ∷ xs) h = (h x (inl refl), for_all P xs (λ y i. h y (inr i)))

in_map : {X Y : Type 0} (g : X → Y) (x : X) (xs : List X) → In x xs → In (g x) (map g xs)
in_map g x [] i = absurd i
in_map g x (y ∷ ys) (inl e) = inl (ap g e)
in_map g x (y ∷ ys) (inr i) = inr (in_map g x ys i)

in_shuffled : {X : Type 0} (x : X) (xs ys : List X) → IsPermutation xs ys → In x ys → In x xs
in_shuffled {X} x xs ys p i =
    let P : X → Type 0 = λ y. In y xs in
    of_all P x ys (every_at P ys (All-permutation P xs ys p (all_of P xs (for_all P xs (λ y j. j))))) i

-- where keys differ, an item is the only one with its key
keys_apart : {X : Type 0} (key : X → ℕ) (a : ℕ) (xs : List X) → AllByRecursion (λ y. same a y ≡ false) (map key xs) → AllByRecursion (λ x. key x ≢ a) xs
keys_apart key a [] h = tt
keys_apart key a (x ∷ xs) h = ((λ e. eq-false a (key x) h.0 (sym e)), keys_apart key a xs h.1)

one_with_key : {X : Type 0} (key : X → ℕ) (xs : List X) → IsDistinct same (map key xs) → (x y : X) → In x xs → In y xs → key y ≡ key x → y ≡ x
unfolding IsDistinct
one_with_key key [] d x y i j e = absurd i
one_with_key key (z ∷ zs) d x y (inl a) (inl b) e = sym b ∙ a
one_with_key key (z ∷ zs) d x y (inl a) (inr j) e =
    absurd (of_all (λ w. key w ≢ key z) y zs (keys_apart key (key z) zs d.0) j (e ∙ ap key (sym a)))
one_with_key key (z ∷ zs) d x y (inr i) (inl b) e =
    absurd (of_all (λ w. key w ≢ key z) x zs (keys_apart key (key z) zs d.0) i (sym e ∙ ap key (sym b)))
one_with_key key (z ∷ zs) d x y (inr i) (inr j) e = one_with_key key zs d.1 x y i j e

only_one : {X : Type 0} (key : X → ℕ) (m : ℕ) (xs : List X) → IsDistinct same (map key xs) → list_any (λ k. k == m) (map key xs) ≡ true
    → (x : X) × (filter (λ y. key y == m) xs ≡ x ∷ []) × (key x ≡ m)
unfolding IsDistinct
only_one key m [] d h = let no : ⊥ = cc h in absurd no
only_one {X} key m (x ∷ xs) d h = elim (cases_Bool (key x == m)) [
  | inl e ↦
      let is : key x ≡ m = eq-true (key x) m e in
      let rest : filter (λ y. key y == m) xs ≡ [] =
      filter-none key m xs (AllByRecursion-map (λ y. key y ≢ key x) (λ y. key y ≢ m) (λ y ne k. ne (k ∙ sym is)) xs (keys_apart key (key x) xs d.0)) in
      (x, rw (e, rest) refl, is)
  | inr e ↦
      let more : list_any (λ k. k == m) (map key xs) ≡ true = rw e at h in
      let (y, here, is) = only_one key m xs d.1 more in
      (y, rw (e, here) refl, is)
]

flips : (x y : ℕ) → same x y ≡ same y x
flips x y = elim (cases_Bool (same x y)) [
  | inl e ↦ rw (eq-true x y e) refl
  | inr e ↦ e ∙ sym (eq-no y x (λ is. eq-false x y e (sym is)))
]

numbers_differ : (n : ℕ) → IsDistinct same (range_with_len 0 n)
numbers_differ n = IsDistinct-from_apart same (range_with_len 0 n)
    (λ i j d ij low.
    let short : j < n = omega (arith, low, length-range_with_len 0 n) in
    eq-no (get_or (range_with_len 0 n) i d) (get_or (range_with_len 0 n) j d)
    (λ e. omega (arith, e, ij, get_or-range_with_len 0 n i d (omega (arith, ij, short)), get_or-range_with_len 0 n j d short)))

pairwise_append : {X Y : Type 0} (R : X → Y → Type 0) (xs us : List X) (ys vs : List Y) → Pairwise R xs ys → Pairwise R us vs
    → Pairwise R (xs ++ us) (ys ++ vs)
pairwise_append R [] us [] vs a b = b
pairwise_append R [] us (y ∷ ys) vs a b = absurd a
pairwise_append R (x ∷ xs) us [] vs a b = absurd a
pairwise_append R (x ∷ xs) us (y ∷ ys) vs a b = (a.0, pairwise_append R xs us ys vs a.1 b)

-- what the reply to another line than this one says
post_not_added : (i j : ℕ) (w : PostWord) (e : SetEntry) → (j ≡ i → w ≡ word.Busy) → PostSays j w e → NotAdded i e
post_not_added i j w (Added a id true) busy h = λ is. h.1 (busy (sym h.0 ∙ is))
post_not_added i j w (Added a id false) busy h = tt
post_not_added i j w (Removed a id answer) busy h = tt
post_not_added i j w (Asked a id answer) busy h = tt

take_not_added : (i j : ℕ) (w : TakeWord) (e : SetEntry) → TakeSays j w e → NotAdded i e
take_not_added i j w (Added a id answer) h = absurd h
take_not_added i j w (Removed a id answer) h = tt
take_not_added i j w (Asked a id answer) h = absurd h

post_not_removed : (i j : ℕ) (w : PostWord) (e : SetEntry) → (j ≡ i → (at : ℕ) × (w ≡ word.Posted at)) → PostSays j w e → NotRemoved i e
post_not_removed i j w (Added a id answer) posted h = tt
post_not_removed i j w (Removed a id true) posted h = λ is. let (at, e) = posted (sym h.0 ∙ is) in h.1 at e
post_not_removed i j w (Removed a id false) posted h = tt
post_not_removed i j w (Asked a id answer) posted h = tt

take_not_removed : (i j : ℕ) (w : TakeWord) (e : SetEntry) → (j ≡ i → w ≡ took.Void) → TakeSays j w e → NotRemoved i e
take_not_removed i j w (Added a id answer) void h = tt
take_not_removed i j w (Removed a id true) void h = λ is. let no : ⊥ = cc (h.1 ∙ ap claim_answer (void (sym h.0 ∙ is))) in no
take_not_removed i j w (Removed a id false) void h = tt
take_not_removed i j w (Asked a id answer) void h = tt

-- what the row of a job of the queue says back
busy_row : (i p line id : ℕ) (w : PostWord) (row : Row) → id ≡ line → JobRow false p line id w row → AllByRecursion (NotBusy i) row.set.own → w ≡ word.Busy
    → line ≢ i
busy_row i p line id w row e h a is at =
    let b : JobPart p line id word.Busy (row.queues false) row.set = subst (λ (x : PostWord). JobPart p line id x (row.queues false) row.set) is h.part in
    let c = subst (λ (x : Share SetEntry ListRefused). AllByRecursion (NotBusy i) x.own) b.1 a in
    c.0 (e ∙ at)

posted_row : (i p line id : ℕ) (w : PostWord) (row : Row) → 1 ≤ p → id ≡ line → JobRow false p line id w row
    → AllByRecursion (λ e. agent_of_set_entry e ≢ 0 → NotAdded i e) row.set.own → (at : ℕ) → w ≡ word.Posted at → line ≢ i
posted_row i p line id w row low e h a at is same_line =
    let b : JobPart p line id (word.Posted at) (row.queues false) row.set =
    subst (λ (x : PostWord). JobPart p line id x (row.queues false) row.set) is h.part in
    let c = subst (λ (x : Share SetEntry ListRefused). AllByRecursion (λ e. agent_of_set_entry e ≢ 0 → NotAdded i e) x.own) b.1 a in
    c.0 (λ z. omega (arith, low, z)) (e ∙ same_line)

void_row : (lines : List Line) → PostTheirNumbers lines → (i t : ℕ) (r : TakeReply) (row : Row) → TookRow lines t 0 r row
    → AllByRecursion (λ e. agent_of_set_entry e ≡ 0 → NotMissed i e) row.set.own → r.what ≡ took.Void → r.line ≢ i
void_row lines num i t r row z a void same_line =
    let id_is : z.table.id ≡ r.line = (numbered_job lines num r.rush r.line z.table.id z.table.job).1 in
    let c : AllByRecursion (λ e. agent_of_set_entry e ≡ 0 → NotMissed i e) (Removed 0 z.table.id (claim_answer r.what) ∷ []) =
    subst (λ (x : Share SetEntry ListRefused). AllByRecursion (λ e. agent_of_set_entry e ≡ 0 → NotMissed i e) x.own) z.table.set a in
    let d : NotMissed i (Removed 0 z.table.id false) = subst (λ (w : TakeWord). NotMissed i (Removed 0 z.table.id (claim_answer w))) void (c.0 refl) in
    d (id_is ∙ same_line)

-- a pair of line and position among those that were posted
in_posted_by : (l : ℕ) (w : PostWord) (x : ℕ × ℕ) (xs : List (ℕ × ℕ)) → In x (posted_by false l w ++ xs) → ((l ≡ x.0) × (w ≡ word.Posted x.1)) ⊎ In x xs
in_posted_by l (word.Posted at) x xs (inl e) = inl (ap (λ (z : ℕ × ℕ). z.0) e, ap (λ (z : ℕ × ℕ). word.Posted z.1) e)
in_posted_by l (word.Posted at) x xs (inr i) = inr i
in_posted_by l (word.Rushed at) x xs i = inr i
in_posted_by l word.Busy x xs i = inr i
in_posted_by l word.NoNode x xs i = inr i
in_posted_by l word.Positions x xs i = inr i
in_posted_by l word.Spent x xs i = inr i
in_posted_by l word.Dropped x xs i = inr i
in_posted_by l word.Unknown x xs i = inr i
in_posted_by l word.Skipped x xs i = inr i

in_posted : (x : ℕ × ℕ) (rs : List PostReply) → In x (posted_of false rs) → (r : PostReply) × In r rs × (r.line ≡ x.0) × (r.what ≡ word.Posted x.1)
in_posted x [] i = absurd i
in_posted x (r ∷ rs) i = elim (in_posted_by r.line r.what x (posted_of false rs) i) [
  | inl h ↦ (r, inl refl, h.0, h.1)
  | inr j ↦ let (y, there, l, w) = in_posted x rs j in (y, inr there, l, w)
]

claim_lines : (rs : List TakeReply) → map (λ (x : ℕ × ℕ). x.0) (map claim_of rs) ≡ map (λ (r : TakeReply). r.line) rs
claim_lines [] = refl
claim_lines (r ∷ rs) = ap (λ z. r.line ∷ z) (claim_lines rs)

posted_lines : (rs : List PostReply) → AllByRecursion (λ (r : PostReply). (at : ℕ) × (r.what ≡ word.Posted at)) rs
    → map (λ (x : ℕ × ℕ). x.0) (posted_of false rs) ≡ map (λ (r : PostReply). r.line) rs
posted_lines [] h = refl
posted_lines (r ∷ rs) h = rw h.0.1 (ap (λ z. r.line ∷ z) (posted_lines rs h.1))

-- the words of a reply to a post
abbrev IsJobWord : PostWord → Type 0
IsJobWord (word.Posted at) = Unit {0}
IsJobWord (word.Rushed at) = ⊥
IsJobWord word.Busy = Unit {0}
IsJobWord word.NoNode = Unit {0}
IsJobWord word.Positions = Unit {0}
IsJobWord word.Spent = Unit {0}
IsJobWord word.Dropped = ⊥
IsJobWord word.Unknown = ⊥
IsJobWord word.Skipped = ⊥

job_word : (p i id : ℕ) (w : PostWord) (queue : Share QueueEntry QueueRefused) (set : Share SetEntry ListRefused) → IsWordOf false w
    → JobPart p i id w queue set → IsJobWord w
job_word p i id (word.Posted at) queue set of h = tt
job_word p i id (word.Rushed at) queue set of h = of
job_word p i id word.Busy queue set of h = tt
job_word p i id word.NoNode queue set of h = tt
job_word p i id word.Positions queue set of h = tt
job_word p i id word.Spent queue set of h = tt
job_word p i id word.Dropped queue set of h = h
job_word p i id word.Unknown queue set of h = h
job_word p i id word.Skipped queue set of h = h

only_posted : (w : PostWord) → IsJobWord w → w ≢ word.Busy → w ≢ word.NoNode → w ≢ word.Positions → w ≢ word.Spent → (at : ℕ) × (w ≡ word.Posted at)
only_posted (word.Posted at) j a b c d = (at, refl)
only_posted (word.Rushed at) j a b c d = absurd j
only_posted word.Busy j a b c d = absurd (a refl)
only_posted word.NoNode j a b c d = absurd (b refl)
only_posted word.Positions j a b c d = absurd (c refl)
only_posted word.Spent j a b c d = absurd (d refl)
only_posted word.Dropped j a b c d = absurd j
only_posted word.Unknown j a b c d = absurd j
only_posted word.Skipped j a b c d = absurd j

-- the job of a claim that isn't Void
done_word : (lines : List Line) (i : ℕ) (l : Line) (w : TakeWord) → (id : ℕ) (op : Job) (text : List ℕ) → l ≡ line.Post id op text → slice_get lines i ≡ Some l
    → w ≢ took.Void → HasValue lines i w → Pairwise IsJobOf (l ∷ []) (done_as (slice_get lines i) w)
done_word lines i l took.Void id op text post is not_void h = absurd (not_void refl)
done_word lines i l (took.Done value) id op text post is not_void h =
    let there : Some l ≡ Some h.0 = sym is ∙ h.1 in
    let same_line : h.0 ≡ line.Post id op text = cc (there, post) in
    rw (is, post) ((refl, subst (λ (x : Line). IsJobValue x value) same_line h.2), tt)

done_one : (lines : List Line) → PostTheirNumbers lines → (r : TakeReply) → IsClaim lines r → r.what ≢ took.Void
    → (l : Line) × (slice_get lines r.line ≡ Some l) × Pairwise IsJobOf (l ∷ []) (done_in lines r)
done_one lines num r claim not_void =
    let l : Line = line.Post claim.id claim.job.op claim.job.text in
    let on_queue : r.rush ≡ false = (numbered_job lines num r.rush r.line claim.id claim.job).0 in
    let is : slice_get lines r.line ≡ Some l =
    claim.job.is ∙ ap (λ (b : Bool). Some (job_line b claim.id claim.job.op claim.job.text)) on_queue in
    (l, is, done_word lines r.line l r.what claim.id claim.job.op claim.job.text refl is not_void claim.value)

-- takes that are all without rush
all_without : (takes : List TakeReply) → AllByRecursion (λ (r : TakeReply). r.rush ≡ false) takes → takes_with false takes ≡ takes
all_without [] h = refl
all_without (r ∷ rs) h =
    ap (λ (b : Bool). cond (is_side false b) (r ∷ takes_with false rs) (takes_with false rs)) h.0 ∙ ap (λ (z : List TakeReply). r ∷ z) (all_without rs h.1)

module _ {A B : Type 0} (qs : Bool → View A QueueEntry QueueRefused) (s : View B SetEntry ListRefused) (lines : List Line) (posters takers : ℕ)
    (posts : List PostReply) (takes : List TakeReply) (k : Bool → List A) (n : List B)
    (none : s.history [] ≡ []) (some : 1 ≤ posters) (num : PostTheirNumbers lines) (ran : Ran qs s lines posters takers posts takes k n) where
  abbrev post_line : PostReply → ℕ
  post_line r = r.line

  abbrev take_line : TakeReply → ℕ
  take_line r = r.line

  abbrev first : ℕ × ℕ → ℕ
  first x = x.0

  -- each line has one reply of a poster
  one_reply : IsPermutation (map post_line posts) (range_with_len 0 (length lines))
  one_reply = each_line lines posters takers posts takes some ran.follows.workers.order

  posts_differ : IsDistinct same (map post_line posts)
  posts_differ =
      IsDistinct-IsPermutation same flips (range_with_len 0 (length lines)) (map post_line posts)
      (IsPermutation-sym (map post_line posts) (range_with_len 0 (length lines)) one_reply) (numbers_differ (length lines))

  -- no job is one of the rush queue
  without_rush : takes_with false takes ≡ takes
  without_rush =
      all_without takes
      (AllByRecursion-map (IsClaim lines) (λ (r : TakeReply). r.rush ≡ false) (λ r c. (numbered_job lines num r.rush r.line c.id c.job).0) takes
      ran.reportable.claimed)

  claims : IsPermutation (posted_of false posts) (map claim_of takes)
  claims = subst (λ (z : List TakeReply). IsPermutation (posted_of false posts) (map claim_of z)) without_rush (ran.reportable.queues false).claims

  -- and each that was posted one of a taker
  same_lines : IsPermutation (map first (posted_of false posts)) (map take_line takes)
  same_lines =
      subst (λ (z : List ℕ). IsPermutation (map first (posted_of false posts)) z) (claim_lines takes)
      (IsPermutation-map first (posted_of false posts) (map claim_of takes) claims)

  takes_differ : IsDistinct same (map take_line takes)
  takes_differ = IsDistinct-IsPermutation same flips (map first (posted_of false posts)) (map take_line takes) same_lines (ran.reportable.queues false).different

  -- no reply is Busy, for each id is posted once
  pub no_busy : (x : PostReply) → In x posts → x.what ≢ word.Busy
  no_busy x i busy =
      let P : PostReply → Type 0 = λ r. r.line ≡ x.line → r.what ≡ word.Busy in
      let Back : PostReply → Type 0 = λ r. r.what ≡ word.Busy → r.line ≢ x.line in
      let not_added : AllByRecursion (NotAdded x.line) (s.history n) =
      operation_totals qs s lines posters takers posts takes k n none ran.follows.workers P (λ r. Unit {0}) (NotAdded x.line)
      (λ p r row z h. AllByRecursion-map (PostSays r.line r.what) (NotAdded x.line) (λ e says. post_not_added x.line r.line r.what e h says) row.set.own
      (post_says lines num p r row z))
      (λ t a r row z h. AllByRecursion-map (TakeSays r.line r.what) (NotAdded x.line) (λ e says. take_not_added x.line r.line r.what e says) row.set.own
      (take_says lines num t a r row z))
      (for_all P posts (λ y j e. ap (λ (r : PostReply). r.what) (one_with_key post_line posts posts_differ x y i j e) ∙ busy))
      (for_all (λ r. Unit {0}) takes (λ y j. tt)) in
      let back : AllByRecursion Back posts =
      posts_back qs s lines posters takers posts takes k n none ran.follows.workers Back (NotBusy x.line)
      (λ p low r row z a. let (id, e, h) = numbered_row lines num p r row z in busy_row x.line p r.line id r.what row e h a)
      (never-busy x.line [] (s.history n) ran.set_legal refl not_added) in
      of_all Back x posts back i busy refl

  -- without takers no reply is Void
  pub no_void : takers ≡ 0 → (x : TakeReply) → In x takes → x.what ≢ took.Void
  no_void zero_takers x i void =
      let here : In (claim_of x) (posted_of false posts) =
      in_shuffled (claim_of x) (posted_of false posts) (map claim_of takes) claims (in_map claim_of x takes i) in
      let (y, j, line_is, posted) = in_posted (claim_of x) posts here in
      let P : PostReply → Type 0 = λ r. r.line ≡ x.line → (at : ℕ) × (r.what ≡ word.Posted at) in
      let T : TakeReply → Type 0 = λ r. r.line ≡ x.line → r.what ≡ took.Void in
      let not_removed : AllByRecursion (NotRemoved x.line) (s.history n) =
      operation_totals qs s lines posters takers posts takes k n none ran.follows.workers P T (NotRemoved x.line)
      (λ p r row z h. AllByRecursion-map (PostSays r.line r.what) (NotRemoved x.line) (λ e says. post_not_removed x.line r.line r.what e h says) row.set.own
      (post_says lines num p r row z))
      (λ t a r row z h. AllByRecursion-map (TakeSays r.line r.what) (NotRemoved x.line) (λ e says. take_not_removed x.line r.line r.what e h says) row.set.own
      (take_says lines num t a r row z))
      (for_all P posts (λ r l e. (x.at, ap (λ (r : PostReply). r.what) (one_with_key post_line posts posts_differ y r j l (e ∙ sym line_is)) ∙ posted)))
      (for_all T takes (λ r l e. ap (λ (r : TakeReply). r.what) (one_with_key take_line takes takes_differ x r i l e) ∙ void)) in
      let z = ran.follows.workers.set_zero_last in
      let split : AllByRecursion (NotRemoved x.line) (z.front ++ z.back) = subst (AllByRecursion (NotRemoved x.line)) z.is not_removed in
      let behind = legal-behind [] z.front z.back (subst IsLegalSet z.is ran.set_legal) in
      elim (cases_Bool (has x.line (keys_after [] z.front))) [
        | inl there ↦
            let G : SetEntry → Type 0 = λ e. agent_of_set_entry e ≡ 0 → NotMissed x.line e in
            let Back : TakeReply → Type 0 = λ r. r.what ≡ took.Void → r.line ≢ x.line in
            let later : AllByRecursion (NotMissed x.line) z.back =
            never-missed x.line (keys_after [] z.front) z.back behind there (AllByRecursion-right (NotRemoved x.line) z.front z.back split) in
            let all : AllByRecursion G (s.history n) =
            subst (AllByRecursion G) (sym z.is)
            (AllByRecursion-append G z.front z.back
            (AllByRecursion-map (λ e. agent_of_set_entry e ≢ 0) G (λ e ne is. absurd (ne is)) z.front z.others)
            (AllByRecursion-map (NotMissed x.line) G (λ e h is. h) z.back later)) in
            let back : AllByRecursion Back takes =
            takes_back qs s lines posters takers posts takes k n none ran.follows.workers Back G
            (λ t high r row w a.
            let t_is : t ≡ 0 = omega (arith, zero_takers, high) in
            void_row lines num x.line 0 r row (subst (λ (u : ℕ). TookRow lines u (taker_agent posters u) r row) t_is w) a)
            all in
            of_all Back x takes back i void refl
        | inr gone ↦
            let G : SetEntry → Type 0 = λ e. agent_of_set_entry e ≢ 0 → NotAdded x.line e in
            let Back : PostReply → Type 0 = λ r. (at : ℕ) → r.what ≡ word.Posted at → r.line ≢ x.line in
            let earlier : AllByRecursion (NotAdded x.line) z.front =
            (never-added x.line [] z.front gone (AllByRecursion-left (NotRemoved x.line) z.front z.back split)).1 in
            let all : AllByRecursion G (s.history n) =
            subst (AllByRecursion G) (sym z.is)
            (AllByRecursion-append G z.front z.back
            (AllByRecursion-map (NotAdded x.line) G (λ e h ne. h) z.front earlier)
            (AllByRecursion-map (λ e. agent_of_set_entry e ≡ 0) G (λ e is ne. absurd (ne is)) z.back z.zeros)) in
            let back : AllByRecursion Back posts =
            posts_back qs s lines posters takers posts takes k n none ran.follows.workers Back G
            (λ p low r row w a. let (id, e, h) = numbered_row lines num p r row w in posted_row x.line p r.line id r.what row low e h a)
            all in
            of_all Back y posts back j x.at posted line_is
      ]

  pub none_void : takers ≡ 0 → NoneVoid takes
  none_void zero_takers = for_all (λ (r : TakeReply). r.what ≢ took.Void) takes (no_void zero_takers)

  module _ (not_refused : NoneRefused posts) (not_void : NoneVoid takes) where
    all_posted : AllByRecursion (λ (r : PostReply). (at : ℕ) × (r.what ≡ word.Posted at)) posts
    all_posted =
        let words : AllByRecursion (λ (r : PostReply). IsJobWord r.what) posts =
        posts_back qs s lines posters takers posts takes k n none ran.follows.workers (λ r. IsJobWord r.what) (λ e. Unit {0})
        (λ p low r row z a. let (id, e, h) = numbered_row lines num p r row z in job_word p r.line id r.what (row.queues false) row.set h.word h.part)
        (for_all (λ e. Unit {0}) (s.history n) (λ e j. tt)) in
        for_all (λ (r : PostReply). (at : ℕ) × (r.what ≡ word.Posted at)) posts
        (λ r i.
        let refused = of_all (λ (r : PostReply). (r.what ≢ word.NoNode) × (r.what ≢ word.Spent)) r posts not_refused i in
        only_posted r.what (of_all (λ (r : PostReply). IsJobWord r.what) r posts words i) (no_busy r i) refused.0
        (of_all (λ (r : PostReply). r.what ≢ word.Positions) r posts ran.follows.no_positions i) refused.1)

    all_taken : IsPermutation (range_with_len 0 (length lines)) (map take_line takes)
    all_taken =
        IsPermutation-trans (range_with_len 0 (length lines)) (map post_line posts) (map take_line takes)
        (IsPermutation-sym (map post_line posts) (range_with_len 0 (length lines)) one_reply)
        (subst (λ (z : List ℕ). IsPermutation z (map take_line takes)) (posted_lines posts all_posted) same_lines)

    -- the first lines are done
    some_done : (m : ℕ) → m ≤ length lines → Pairwise IsJobOf (take m lines) (flat_map (done_in lines) (grouped_by_key take_line m takes))
    some_done zero few = tt
    some_done (suc m) few =
        let low : m < length lines = omega (arith, few) in
        let range : List ℕ = range_with_len 0 (length lines) in
        let at_m : get_or range m 0 ≡ m = omega (arith, get_or-range_with_len 0 (length lines) m 0 low) in
        let present : has m range ≡ true = has-present m range m (omega (arith, low, length-range_with_len 0 (length lines))) at_m in
        let taken : list_any (λ k. k == m) (map take_line takes) ≡ true =
        sym (list_any-IsPermutation (λ k. k == m) range (map take_line takes) all_taken) ∙ present in
        let (r, alone, line_is) = only_one take_line m takes takes_differ taken in
        let claim : IsClaim lines r =
        (subst (AllByRecursion (IsClaim lines)) alone
        (AllByRecursion-filter (IsClaim lines) (λ (x : TakeReply). x.line == m) takes ran.reportable.claimed)).0 in
        let done : r.what ≢ took.Void =
        (subst (AllByRecursion (λ (x : TakeReply). x.what ≢ took.Void)) alone
        (AllByRecursion-filter (λ (x : TakeReply). x.what ≢ took.Void) (λ (x : TakeReply). x.line == m) takes not_void)).0 in
        let (l, found, job) = done_one lines num r claim done in
        let line_there : slice_get lines m ≡ Some l = subst (λ (i : ℕ). slice_get lines i ≡ Some l) line_is found in
        let longer : take (suc m) lines ≡ take m lines ++ l ∷ [] =
        take-suc lines m l low ∙ ap (λ (z : Line). take m lines ++ z ∷ []) (get_or_from_slice_get lines m l l line_there) in
        let more : flat_map (done_in lines) (grouped_by_key take_line (suc m) takes) ≡ flat_map (done_in lines) (grouped_by_key take_line m takes) ++ done_in lines r =
        flat_map-append (done_in lines) (grouped_by_key take_line m takes) (filter (λ (x : TakeReply). x.line == m) takes)
        ∙ ap (λ z. flat_map (done_in lines) (grouped_by_key take_line m takes) ++ z)
        (ap (flat_map (done_in lines)) alone ∙ append-nil (done_in lines r)) in
        rw (longer, more)
        (pairwise_append IsJobOf (take m lines) (l ∷ []) (flat_map (done_in lines) (grouped_by_key take_line m takes)) (done_in lines r)
        (some_done m (omega (arith, few))) job)

    -- and so all are
    pub all_done : AreJobsOf lines (done_jobs lines takes)
    all_done =
        subst (λ (z : List Line). Pairwise IsJobOf z (done_jobs lines takes)) (take-length lines) (some_done (length lines) (omega arith))
