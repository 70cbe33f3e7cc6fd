-- Replies that follow legal journals can be reported: for any number of posters and takers.
use Rattle.std.proofs.Common.{◌≡◌, ◌≢◌, ◌^◌, ℕ, zero, suc, ◌+◌, ◌≤◌, ◌<◌, List, [], ◌∷◌, ◌++◌, length, map, Bool, true, false, cond, filter, ◌==◌, inl, inr, refl, ap, sym, ◌∙◌, subst, arith, append-nil}
use Rattle.std.specs.List.{range_with_len, AllByRecursion}
use Rattle.std.specs.List.Sorted.{IsPermutation}
use Rattle.std.proofs.lemmas.Bool.Decides.{nat_tests}
use Rattle.std.proofs.lemmas.List.{map-append}
use Rattle.std.proofs.lemmas.List.Elements.{filter-append}
use Rattle.std.proofs.lemmas.List.Sorted.{IsPermutation-sym, IsPermutation-trans, IsPermutation-map, length_permutation}
use Rattle.orc_history.specs.declared.queue.QueueEntry.{QueueEntry}
use Rattle.orc_history.specs.declared.queue.QueueEntry.TheVariants.{Put, Took, Empty}
use Rattle.orc_history.specs.declared.queue.QueueRefused.{QueueRefused}
use Rattle.orc_history.specs.declared.set.SetEntry.{SetEntry}
use Rattle.orc_history.specs.declared.set.ListRefused.{ListRefused}
use Rattle.orc_history.specs.QueueHistory.{agent_of_entry, IsLegalQueue, waiting_after, puts_in}
use Rattle.orc_jobs.specs.declared.line.Line.{Line}
use Rattle.orc_board.specs.declared.replies.PostReply.{PostReply}
use Rattle.orc_board.specs.declared.replies.PostWord.TheVariants as word
use Rattle.orc_board.specs.declared.replies.TakeReply.{TakeReply}
use Rattle.orc_board.specs.Stretches.{View, of_queue, MayStand, is_own_move, beside, all_beside}
use Rattle.orc_board.specs.Follows.{WorkersFollow, IsWorker, grouped_by_key, taker_agent, posts_of, takes_of}
use Rattle.orc_board.specs.Reportable.{posted_by, posted_of, claim_of, takes_with, is_side, AreReportable, AreReportableOf, IsClaim}
use Rattle.orc_board.proofs.ListFacts.{AllByRecursion-append, AllByRecursion-map, AllByRecursion-filter, eq-true, eq-yes, zero_or}
use Rattle.orc_board.proofs.Wholes.{queue_of_rows, Works-queue}
use Rattle.orc_board.proofs.PairLists.{puts_of, tooks_of, legal_lists, legal_positions, rows_pairs, took_pairs, claims_of}
use Rattle.orc_board.proofs.WorkerCases.{own_whole, worker_cases}
use Rattle.orc_board.proofs.Positions.{ManyPuts, puts_counted, DidAll-places, no_positions}
use Rattle.orc_board.proofs.Orders.{posters_in_range, no_posts, above_zero, posted_once}
use Rattle.orc_board.proofs.Keyed.{same_by_keys, by_key_below}

abbrev pub Keyed : Type 0
Keyed = List (ℕ × (ℕ × ℕ))

abbrev pub tag : ℕ → List (ℕ × ℕ) → Keyed
tag a xs = map (λ (x : ℕ × ℕ). (a, x)) xs

abbrev pub keyed_puts : List QueueEntry → Keyed
keyed_puts [] = []
keyed_puts (Put by job at ∷ es) = (by, (job, at)) ∷ keyed_puts es
keyed_puts (Took by job at ∷ es) = keyed_puts es
keyed_puts (Empty by ∷ es) = keyed_puts es

abbrev pub keyed_tooks : List QueueEntry → Keyed
keyed_tooks [] = []
keyed_tooks (Put by job at ∷ es) = keyed_tooks es
keyed_tooks (Took by job at ∷ es) = (by, (job, at)) ∷ keyed_tooks es
keyed_tooks (Empty by ∷ es) = keyed_tooks es

abbrev pub keyed_posted : Bool → List PostReply → Keyed
keyed_posted rush [] = []
keyed_posted rush (r ∷ rs) = tag r.poster (posted_by rush r.line r.what) ++ keyed_posted rush rs

abbrev pub keyed_takes : ℕ → List TakeReply → Keyed
keyed_takes posters [] = []
keyed_takes posters (r ∷ rs) = (taker_agent posters r.taker, claim_of r) ∷ keyed_takes posters rs

abbrev pub untag : Keyed → List (ℕ × ℕ)
untag xs = map (λ (x : ℕ × (ℕ × ℕ)). x.1) xs

untag_puts : (es : List QueueEntry) → untag (keyed_puts es) ≡ puts_of es
untag_puts [] = refl
untag_puts (Put by job at ∷ es) = ap (λ z. (job, at) ∷ z) (untag_puts es)
untag_puts (Took by job at ∷ es) = untag_puts es
untag_puts (Empty by ∷ es) = untag_puts es

untag_tooks : (es : List QueueEntry) → untag (keyed_tooks es) ≡ tooks_of es
untag_tooks [] = refl
untag_tooks (Put by job at ∷ es) = untag_tooks es
untag_tooks (Took by job at ∷ es) = ap (λ z. (job, at) ∷ z) (untag_tooks es)
untag_tooks (Empty by ∷ es) = untag_tooks es

untag_tag : (a : ℕ) (xs : List (ℕ × ℕ)) → untag (tag a xs) ≡ xs
untag_tag a [] = refl
untag_tag a (x ∷ xs) = ap (λ z. x ∷ z) (untag_tag a xs)

untag_posted : (rush : Bool) (rs : List PostReply) → untag (keyed_posted rush rs) ≡ posted_of rush rs
untag_posted rush [] = refl
untag_posted rush (r ∷ rs) =
    map-append (λ (x : ℕ × (ℕ × ℕ)). x.1) (tag r.poster (posted_by rush r.line r.what)) (keyed_posted rush rs)
    ∙ (ap (λ z. z ++ untag (keyed_posted rush rs)) (untag_tag r.poster (posted_by rush r.line r.what)) ∙ ap (λ z. posted_by rush r.line r.what ++ z) (untag_posted rush rs))

untag_takes : (posters : ℕ) (rs : List TakeReply) → untag (keyed_takes posters rs) ≡ map claim_of rs
untag_takes posters [] = refl
untag_takes posters (r ∷ rs) = ap (λ z. claim_of r ∷ z) (untag_takes posters rs)

abbrev pub at_key : ℕ → Keyed → Keyed
at_key a xs = filter (λ (x : ℕ × (ℕ × ℕ)). x.0 == a) xs

key_puts : (a : ℕ) (es : List QueueEntry) → at_key a (keyed_puts es) ≡ tag a (puts_of (filter (is_own_move a) es))
key_puts a [] = refl
key_puts a (Put by job at ∷ es) =
    let cases : (b : Bool) → (by == a) ≡ b
    → cond b ((by, (job, at)) ∷ at_key a (keyed_puts es)) (at_key a (keyed_puts es)) ≡ tag a
    (puts_of (cond b (Put by job at ∷ filter (is_own_move a) es) (filter (is_own_move a) es))) =
    elim [
      | true ↦ λ e. ap (λ (x : ℕ). (x, (job, at)) ∷ at_key a (keyed_puts es)) (eq-true by a e) ∙ ap (λ (z : Keyed). (a, (job, at)) ∷ z) (key_puts a es)
      | false ↦ λ e. key_puts a es
    ] in
    cases (by == a) refl
key_puts a (Took by job at ∷ es) =
    let cases : (b : Bool) → at_key a (keyed_puts es) ≡ tag a (puts_of (cond b (Took by job at ∷ filter (is_own_move a) es) (filter (is_own_move a) es))) =
    elim [ true ↦ key_puts a es | false ↦ key_puts a es ] in
    cases (by == a)
key_puts a (Empty by ∷ es) = key_puts a es

key_tooks : (a : ℕ) (es : List QueueEntry) → at_key a (keyed_tooks es) ≡ tag a (tooks_of (filter (is_own_move a) es))
key_tooks a [] = refl
key_tooks a (Took by job at ∷ es) =
    let cases : (b : Bool) → (by == a) ≡ b
    → cond b ((by, (job, at)) ∷ at_key a (keyed_tooks es)) (at_key a (keyed_tooks es)) ≡ tag a
    (tooks_of (cond b (Took by job at ∷ filter (is_own_move a) es) (filter (is_own_move a) es))) =
    elim [
      | true ↦ λ e. ap (λ (x : ℕ). (x, (job, at)) ∷ at_key a (keyed_tooks es)) (eq-true by a e) ∙ ap (λ (z : Keyed). (a, (job, at)) ∷ z) (key_tooks a es)
      | false ↦ λ e. key_tooks a es
    ] in
    cases (by == a) refl
key_tooks a (Put by job at ∷ es) =
    let cases : (b : Bool) → at_key a (keyed_tooks es) ≡ tag a (tooks_of (cond b (Put by job at ∷ filter (is_own_move a) es) (filter (is_own_move a) es))) =
    elim [ true ↦ key_tooks a es | false ↦ key_tooks a es ] in
    cases (by == a)
key_tooks a (Empty by ∷ es) = key_tooks a es

key_tag : (a p : ℕ) (b : Bool) → (p == a) ≡ b → (xs : List (ℕ × ℕ)) → at_key a (tag p xs) ≡ cond b (tag a xs) []
key_tag a p true e [] = refl
key_tag a p false e [] = refl
key_tag a p true e (x ∷ xs) = rw e (ap (λ (z : ℕ). (z, x) ∷ at_key a (tag p xs)) (eq-true p a e) ∙ ap (λ (z : Keyed). (a, x) ∷ z) (key_tag a p true e xs))
key_tag a p false e (x ∷ xs) = rw e (key_tag a p false e xs)

key_posted : (rush : Bool) (a : ℕ) (rs : List PostReply) → at_key a (keyed_posted rush rs) ≡ tag a (posted_of rush (filter (λ (r : PostReply). r.poster == a) rs))
key_posted rush a [] = refl
key_posted rush a (r ∷ rs) =
    let F : List PostReply = filter (λ (x : PostReply). x.poster == a) rs in
    let cases : (b : Bool) → (r.poster == a) ≡ b
    → at_key a (tag r.poster (posted_by rush r.line r.what)) ++ at_key a (keyed_posted rush rs) ≡ tag a (posted_of rush (cond b (r ∷ F) F)) =
    elim [
      | true ↦ λ e. ap (λ z. z ++ at_key a (keyed_posted rush rs)) (key_tag a r.poster true e (posted_by rush r.line r.what))
          ∙ (ap (λ z. tag a (posted_by rush r.line r.what) ++ z) (key_posted rush a rs)
          ∙ sym (map-append (λ (x : ℕ × ℕ). (a, x)) (posted_by rush r.line r.what) (posted_of rush F)))
      | false ↦ λ e. ap (λ z. z ++ at_key a (keyed_posted rush rs)) (key_tag a r.poster false e (posted_by rush r.line r.what)) ∙ key_posted rush a rs
    ] in
    filter-append (λ (x : ℕ × (ℕ × ℕ)). x.0 == a) (tag r.poster (posted_by rush r.line r.what)) (keyed_posted rush rs) ∙ cases (r.poster == a) refl

-- takers' agents differ where the takers do
same_agent : (posters t u : ℕ) → (taker_agent posters t == taker_agent posters u) ≡ (t == u)
same_agent posters zero zero = eq-yes 0 0 refl ∙ sym (eq-yes 0 0 refl)
same_agent posters zero (suc u) = grind (arith, nat_tests)
same_agent posters (suc t) zero = grind (arith, nat_tests)
same_agent posters (suc t) (suc u) = grind (arith, nat_tests)

key_takes : (posters t : ℕ) (rs : List TakeReply)
    → at_key (taker_agent posters t) (keyed_takes posters rs) ≡ tag (taker_agent posters t) (map claim_of (filter (λ (r : TakeReply). r.taker == t) rs))
key_takes posters t [] = refl
key_takes posters t (r ∷ rs) =
    let a : ℕ = taker_agent posters t in
    let F : List TakeReply = filter (λ (x : TakeReply). x.taker == t) rs in
    let cases : (b : Bool) → (r.taker == t) ≡ b
    → cond b ((taker_agent posters r.taker, claim_of r) ∷ at_key a (keyed_takes posters rs)) (at_key a (keyed_takes posters rs)) ≡ tag a
    (map claim_of (cond b (r ∷ F) F)) =
    elim [
      | true ↦ λ e. ap (λ (x : ℕ). (taker_agent posters x, claim_of r) ∷ at_key a (keyed_takes posters rs)) (eq-true r.taker t e)
          ∙ ap (λ (z : Keyed). (a, claim_of r) ∷ z) (key_takes posters t rs)
      | false ↦ λ e. key_takes posters t rs
    ] in
    rw (same_agent posters r.taker t) (cases (r.taker == t) refl)

-- no taker is a poster
other_agent : (posters p t : ℕ) → 1 ≤ p → p ≤ posters → (taker_agent posters t == p) ≡ false
other_agent posters p zero low high = grind (arith, nat_tests)
other_agent posters p (suc t) low high = grind (arith, nat_tests)

key_none : (posters p : ℕ) (rs : List TakeReply) → 1 ≤ p → p ≤ posters → at_key p (keyed_takes posters rs) ≡ []
key_none posters p [] low high = refl
key_none posters p (r ∷ rs) low high = rw (other_agent posters p r.taker low high) (key_none posters p rs low high)

apart : (posters t p : ℕ) → (1 ≤ p) × (p < suc posters) → p ≢ taker_agent posters t
apart posters zero p h = omega (arith, h.0)
apart posters (suc t) p h = omega (arith, h.1)

puts_below : (n : ℕ) (es : List QueueEntry) → AllByRecursion (λ e. agent_of_entry e < n) es → AllByRecursion (λ (x : ℕ × (ℕ × ℕ)). x.0 < n) (keyed_puts es)
puts_below n [] h = tt
puts_below n (Put by job at ∷ es) h = (h.0, puts_below n es h.1)
puts_below n (Took by job at ∷ es) h = puts_below n es h.1
puts_below n (Empty by ∷ es) h = puts_below n es h.1

tooks_below : (n : ℕ) (es : List QueueEntry) → AllByRecursion (λ e. agent_of_entry e < n) es → AllByRecursion (λ (x : ℕ × (ℕ × ℕ)). x.0 < n) (keyed_tooks es)
tooks_below n [] h = tt
tooks_below n (Put by job at ∷ es) h = tooks_below n es h.1
tooks_below n (Took by job at ∷ es) h = (h.0, tooks_below n es h.1)
tooks_below n (Empty by ∷ es) h = tooks_below n es h.1

tag_below : (n a : ℕ) (xs : List (ℕ × ℕ)) → a < n → AllByRecursion (λ (x : ℕ × (ℕ × ℕ)). x.0 < n) (tag a xs)
tag_below n a [] h = tt
tag_below n a (x ∷ xs) h = (h, tag_below n a xs h)

posted_below : (rush : Bool) (n : ℕ) (rs : List PostReply) → AllByRecursion (λ (r : PostReply). r.poster < n) rs
    → AllByRecursion (λ (x : ℕ × (ℕ × ℕ)). x.0 < n) (keyed_posted rush rs)
posted_below rush n [] h = tt
posted_below rush n (r ∷ rs) h =
    AllByRecursion-append (λ (x : ℕ × (ℕ × ℕ)). x.0 < n) (tag r.poster (posted_by rush r.line r.what)) (keyed_posted rush rs)
    (tag_below n r.poster (posted_by rush r.line r.what) h.0) (posted_below rush n rs h.1)

agent_below : (posters takers t : ℕ) → t < suc takers → taker_agent posters t < suc (posters + takers)
agent_below posters takers zero h = omega arith
agent_below posters takers (suc t) h = omega (arith, h)

takes_below : (posters takers : ℕ) (rs : List TakeReply) → AllByRecursion (λ (r : TakeReply). r.taker < suc takers) rs
    → AllByRecursion (λ (x : ℕ × (ℕ × ℕ)). x.0 < suc (posters + takers)) (keyed_takes posters rs)
takes_below posters takers [] h = tt
takes_below posters takers (r ∷ rs) h = (agent_below posters takers r.taker h.0, takes_below posters takers rs h.1)

every_key : {X : Type 0} (P : X → Type 0) (key : X → ℕ) (n : ℕ) (xs : List X) → ((a : ℕ) → a < n → AllByRecursion P (filter (λ x. key x == a) xs))
    → AllByRecursion P (grouped_by_key key n xs)
every_key P key zero xs h = tt
every_key P key (suc n) xs h =
    AllByRecursion-append P (grouped_by_key key n xs) (filter (λ x. key x == n) xs) (every_key P key n xs (λ a l. h a (omega arith))) (h n (omega arith))

worker_agent : (n : ℕ) (a b : ℕ) → a ≡ b → b ≤ n → a < suc n
worker_agent n a b e h = omega arith

-- two filters in either order
filters_swap : {X : Type 0} (f g : X → Bool) (xs : List X) → filter f (filter g xs) ≡ filter g (filter f xs)
filters_swap f g [] = refl
filters_swap {X} f g (x ∷ xs) =
    let cases : (a b : Bool) → f x ≡ a → g x ≡ b
    → filter f (cond b (x ∷ filter g xs) (filter g xs)) ≡ filter g (cond a (x ∷ filter f xs) (filter f xs)) =
    elim [
      | true ↦ elim [
        | true ↦ λ p q. rw (p, q) (ap (λ z. x ∷ z) (filters_swap f g xs))
        | false ↦ λ p q. rw q (filters_swap f g xs)
      ]
      | false ↦ elim [
        | true ↦ λ p q. rw p (filters_swap f g xs)
        | false ↦ λ p q. filters_swap f g xs
      ]
    ] in
    cases (f x) (g x) refl refl

-- the Puts of the history are the posted lines, and its Tooks those of the take replies, in some order
pub permuted_all : {A B : Type 0} (qs : Bool → View A QueueEntry QueueRefused) (rush : Bool) (s : View B SetEntry ListRefused) (lines : List Line) (posters takers : ℕ)
    (posts : List PostReply) (takes : List TakeReply) (k : Bool → List A) (n : List B)
    → 1 ≤ posters → (qs rush).history [] ≡ [] → WorkersFollow qs s lines posters takers posts takes k n
    → IsPermutation (puts_of ((qs rush).history (k rush))) (posted_of rush posts) × IsPermutation (tooks_of ((qs rush).history (k rush))) (map claim_of (takes_with rush takes))
permuted_all {A} {B} qs rush s lines posters takers posts takes k n some none f =
    let C : ℕ → Type 0 = IsWorker posters takers in
    let mine : List TakeReply = takes_with rush takes in
    let es : List QueueEntry = (qs rush).history (k rush) in
    let N : ℕ = suc (posters + takers) in
    let main = Works-queue (all_beside qs C) (beside s C) rush 0 (f.claiming 0 (omega arith)).works in
    let is : es ≡ main.part = main.is ∙ ap (λ z. z ++ main.part) none in
    let agents : AllByRecursion (λ e. agent_of_entry e < N) es =
    subst (AllByRecursion (λ e. agent_of_entry e < N)) (sym is)
    (AllByRecursion-map (MayStand of_queue (beside (qs rush) C) 0) (λ e. agent_of_entry e < N)
    (λ e h. elim h as (λ _. agent_of_entry e < N) [
      | inl z ↦ worker_agent (posters + takers) (agent_of_entry e) 0 z (omega arith)
      | inr w ↦ worker_agent
          (posters + takers) (agent_of_entry e) (agent_of_entry e) refl w
    ]) main.part main.others) in
    let by_poster : AllByRecursion (λ (r : PostReply). r.poster < suc posters) posts =
    subst (AllByRecursion (λ (r : PostReply). r.poster < suc posters)) (sym f.order.by_poster)
    (by_key_below (λ (r : PostReply). r.poster) (suc posters) posts) in
    let by_taker : AllByRecursion (λ (r : TakeReply). r.taker < suc takers) takes =
    subst (AllByRecursion (λ (r : TakeReply). r.taker < suc takers)) (sym f.order.by_taker) (by_key_below (λ (r : TakeReply). r.taker) (suc takers) takes) in
    let in_range : AllByRecursion (λ (r : PostReply). (1 ≤ r.poster) × (r.poster < suc posters)) posts =
    posters_in_range lines posters takers posts takes f.order in
    let put_taker : (t : ℕ) → t ≤ takers → at_key (taker_agent posters t) (keyed_puts es) ≡ at_key (taker_agent posters t) (keyed_posted rush posts) = λ t h.
    let a : ℕ = taker_agent posters t in
    let w = f.claiming t h in
    let own : filter (is_own_move a) es ≡ queue_of_rows rush w.rows =
    own_whole (beside (qs rush) C) a (queue_of_rows rush w.rows) (k rush) none (Works-queue (all_beside qs C) (beside s C) rush a w.works) in
    let left : puts_of (filter (is_own_move a) es) ≡ [] = ap puts_of own ∙ (took_pairs lines rush t a _ w.rows w.table).1 in
    let right : posts_of a posts ≡ [] = no_posts posters a posts in_range (λ p h. apart posters t p h) in
    key_puts a es ∙ (ap (tag a) (left ∙ sym (ap (posted_of rush) right)) ∙ sym (key_posted rush a posts)) in
    let put_poster : (p : ℕ) → 1 ≤ p → p ≤ posters → at_key p (keyed_puts es) ≡ at_key p (keyed_posted rush posts) = λ p g h.
    let w = f.posting p g h in
    let own : filter (is_own_move p) es ≡ queue_of_rows rush w.rows =
    own_whole (beside (qs rush) C) p (queue_of_rows rush w.rows) (k rush) none (Works-queue (all_beside qs C) (beside s C) rush p w.works) in
    let left : puts_of (filter (is_own_move p) es) ≡ posted_of rush (posts_of p posts) = ap puts_of own ∙ (rows_pairs lines rush p _ w.rows w.table).puts in
    key_puts p es ∙ (ap (tag p) left ∙ sym (key_posted rush p posts)) in
    let took_taker : (t : ℕ) → t ≤ takers → at_key (taker_agent posters t) (keyed_tooks es) ≡ at_key (taker_agent posters t) (keyed_takes posters mine) =
    λ t h.
    let a : ℕ = taker_agent posters t in
    let w = f.claiming t h in
    let own : filter (is_own_move a) es ≡ queue_of_rows rush w.rows =
    own_whole (beside (qs rush) C) a (queue_of_rows rush w.rows) (k rush) none (Works-queue (all_beside qs C) (beside s C) rush a w.works) in
    let left : tooks_of (filter (is_own_move a) es) ≡ map claim_of (takes_with rush (takes_of t takes)) = ap tooks_of own ∙ (took_pairs lines rush t a _ w.rows w.table).0 in
    key_tooks a es ∙ (ap (tag a) (left ∙ ap (map claim_of) (sym (filters_swap (λ (r : TakeReply). r.taker == t) (λ (r : TakeReply). is_side rush r.rush) takes))) ∙ sym (key_takes posters t mine)) in
    let took_poster : (p : ℕ) → 1 ≤ p → p ≤ posters → at_key p (keyed_tooks es) ≡ at_key p (keyed_takes posters mine) = λ p g h.
    let w = f.posting p g h in
    let own : filter (is_own_move p) es ≡ queue_of_rows rush w.rows =
    own_whole (beside (qs rush) C) p (queue_of_rows rush w.rows) (k rush) none (Works-queue (all_beside qs C) (beside s C) rush p w.works) in
    let left : tooks_of (filter (is_own_move p) es) ≡ [] = ap tooks_of own ∙ (rows_pairs lines rush p _ w.rows w.table).tooks in
    key_tooks p es ∙ (ap (tag p) left ∙ sym (key_none posters p mine g h)) in
    let key : ℕ × (ℕ × ℕ) → ℕ = λ x. x.0 in
    let puts : IsPermutation (keyed_puts es) (keyed_posted rush posts) =
    same_by_keys key N (keyed_puts es) (keyed_posted rush posts) (puts_below N es agents)
    (posted_below rush N posts
    (AllByRecursion-map (λ (r : PostReply). r.poster < suc posters) (λ (r : PostReply). r.poster < N) (λ r h. omega arith) posts by_poster))
    (λ a l. worker_cases posters takers (λ a. at_key a (keyed_puts es) ≡ at_key a (keyed_posted rush posts)) put_taker put_poster a (omega arith)) in
    let tooks : IsPermutation (keyed_tooks es) (keyed_takes posters mine) =
    same_by_keys key N (keyed_tooks es) (keyed_takes posters mine) (tooks_below N es agents) (takes_below posters takers mine (AllByRecursion-filter (λ (r : TakeReply). r.taker < suc takers) (λ (r : TakeReply). is_side rush r.rush) takes by_taker))
    (λ a l. worker_cases posters takers (λ a. at_key a (keyed_tooks es) ≡ at_key a (keyed_takes posters mine)) took_taker took_poster a (omega arith)) in
    let snd : ℕ × (ℕ × ℕ) → ℕ × ℕ = λ x. x.1 in
    let posted : IsPermutation (puts_of es) (posted_of rush posts) =
    subst (λ (z : List (ℕ × ℕ)). IsPermutation z (posted_of rush posts)) (untag_puts es)
    (subst (λ (z : List (ℕ × ℕ)). IsPermutation (untag (keyed_puts es)) z) (untag_posted rush posts)
    (IsPermutation-map snd (keyed_puts es) (keyed_posted rush posts) puts)) in
    let taken : IsPermutation (tooks_of es) (map claim_of (takes_with rush takes)) =
    subst (λ (z : List (ℕ × ℕ)). IsPermutation z (map claim_of (takes_with rush takes))) (untag_tooks es)
    (subst (λ (z : List (ℕ × ℕ)). IsPermutation (untag (keyed_tooks es)) z) (untag_takes posters mine)
    (IsPermutation-map snd (keyed_tooks es) (keyed_takes posters mine) tooks)) in
    (posted, taken)

-- replies that follow legal queues' journals, which leave them empty, can be reported
reportable_one : {A B : Type 0} (qs : Bool → View A QueueEntry QueueRefused) (rush : Bool) (s : View B SetEntry ListRefused) (lines : List Line)
    (posters takers : ℕ) (posts : List PostReply) (takes : List TakeReply) (k : Bool → List A) (n : List B)
    → 1 ≤ posters → (qs rush).history [] ≡ [] → IsLegalQueue 0 ((qs rush).history (k rush)) → waiting_after [] ((qs rush).history (k rush)) ≡ []
    → WorkersFollow qs s lines posters takers posts takes k n → AreReportableOf rush posts takes
reportable_one {A} {B} qs rush s lines posters takers posts takes k n some none legal empty f =
    let es : List QueueEntry = (qs rush).history (k rush) in
    let both = permuted_all qs rush s lines posters takers posts takes k n some none f in
    let posted : IsPermutation (puts_of es) (posted_of rush posts) = both.0 in
    let taken : IsPermutation (tooks_of es) (map claim_of (takes_with rush takes)) = both.1 in
    let same : puts_of es ≡ tooks_of es = legal_lists 0 [] es legal ∙ (ap (λ z. tooks_of es ++ z) empty ∙ append-nil (tooks_of es)) in
    let at : ℕ × ℕ → ℕ = λ x. x.1 in
    let long : length (puts_of es) ≡ length (posted_of rush posts) = sym (length_permutation (puts_of es) (posted_of rush posts) posted) in
    let positions : IsPermutation (map at (puts_of es)) (map at (posted_of rush posts)) = IsPermutation-map at (puts_of es) (posted_of rush posts) posted in
    let numbered : map at (puts_of es) ≡ range_with_len 0 (length (posted_of rush posts)) = legal_positions 0 [] es legal ∙ ap (range_with_len 0) long in
    record {
      positions = subst (λ (z : List ℕ). IsPermutation z (map at (posted_of rush posts))) numbered positions;
      claims = IsPermutation-trans (posted_of rush posts) (tooks_of es) (map claim_of (takes_with rush takes))
          (subst (λ (z : List (ℕ × ℕ)). IsPermutation (posted_of rush posts) z) same (IsPermutation-sym (puts_of es) (posted_of rush posts) posted)) taken;
      different = posted_once rush lines posters takers posts takes some f.order;
    }

pub reportable_all : {A B : Type 0} (qs : Bool → View A QueueEntry QueueRefused) (s : View B SetEntry ListRefused) (lines : List Line)
    (posters takers : ℕ) (posts : List PostReply) (takes : List TakeReply) (k : Bool → List A) (n : List B)
    → 1 ≤ posters → ((rush : Bool) → (qs rush).history [] ≡ []) → ((rush : Bool) → IsLegalQueue 0 ((qs rush).history (k rush)))
    → ((rush : Bool) → waiting_after [] ((qs rush).history (k rush)) ≡ [])
    → WorkersFollow qs s lines posters takers posts takes k n → AreReportable lines posts takes
reportable_all {A} {B} qs s lines posters takers posts takes k n some none legal empty f =
    record {
      queues = λ rush. reportable_one qs rush s lines posters takers posts takes k n some (none rush) (legal rush) (empty rush) f;
      claimed = subst (AllByRecursion (IsClaim lines)) (sym f.order.by_taker)
          (every_key (IsClaim lines) (λ (r : TakeReply). r.taker) (suc takers) takes
          (λ t l. let low : t ≤ takers = omega arith in let w = f.claiming t low in claims_of lines t (taker_agent posters t) _ w.rows w.table));
    }

-- where lines are few, no position runs out
pub no_positions_all : {A B : Type 0} (qs : Bool → View A QueueEntry QueueRefused) (s : View B SetEntry ListRefused) (lines : List Line) (posters takers : ℕ)
    (posts : List PostReply) (takes : List TakeReply) (k : Bool → List A) (n : List B)
    → ((rush : Bool) → ManyPuts (qs rush)) → length lines ≤ 65535 → ((rush : Bool) → length (puts_of ((qs rush).history (k rush))) ≤ length lines)
    → WorkersFollow qs s lines posters takers posts takes k n → AllByRecursion (λ (r : PostReply). r.what ≢ word.Positions) posts
no_positions_all qs s lines posters takers posts takes k n many short few f =
    let C : ℕ → Type 0 = IsWorker posters takers in
    let puts : Bool → ℕ = λ rush. puts_in ((qs rush).history (k rush)) in
    let low : (rush : Bool) → puts rush < 2 ^ 62 = λ rush. omega (arith, puts_counted ((qs rush).history (k rush)), few rush, short) in
    let in_range : AllByRecursion (λ (r : PostReply). (1 ≤ r.poster) × (r.poster < suc posters)) posts =
    posters_in_range lines posters takers posts takes f.order in
    let P : PostReply → Type 0 = λ r. r.what ≢ word.Positions in
    subst (AllByRecursion P) (sym f.order.by_poster)
    (every_key P (λ (r : PostReply). r.poster) (suc posters) posts
    (λ p l. elim (zero_or p) as (λ _. AllByRecursion P (posts_of p posts)) [
      | inl z ↦ subst (AllByRecursion P) (sym (no_posts posters p posts in_range (λ x h. above_zero p x posters z h))) tt
      | inr g ↦
          let high : p ≤ posters = omega arith in
          let w = f.posting p g high in
          no_positions lines p puts low (posts_of p posts) w.rows w.table
          (λ rush. DidAll-places (beside (qs rush) C) rush (many rush) p w.rows [] (k rush) (w.works.queues rush))
    ]))
