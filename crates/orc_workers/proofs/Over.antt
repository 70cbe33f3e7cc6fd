-- The end of a run: desks and replies of all workers in order.
use Rattle.std.proofs.Common.{◌≡◌, ℕ, Bool, true, false, zero, suc, ◌+◌, ◌-◌, ◌≤◌, ◌<◌, List, [], ◌∷◌, ◌++◌, length, map, ◌⊎◌, inl, inr, refl, ap, sym, ◌∙◌, subst, arith, append-nil, length-append}
use Rattle.std.proofs.lemmas.List.{length-map}
use Rattle.std.proofs.lemmas.List.Sorted.{length_permutation}
use Rattle.std.proofs.lemmas.List.FromFn.{length-range_with_len}
use Rattle.std.specs.List.{AllByRecursion, range_with_len}
use Rattle.orc_board.specs.Reportable.{claim_of, posted_of, takes_with}
use Rattle.orc_board.proofs.Orders.{each_line, posted_few}
use Rattle.orc_history.specs.declared.queue.QueueEntry.{QueueEntry}
use Rattle.orc_history.specs.declared.queue.QueueRefused.{QueueRefused}
use Rattle.orc_history.specs.declared.queue.SharedQueue.{Ghosts as QueueOf}
use Rattle.orc_history.specs.declared.set.SetEntry.{SetEntry}
use Rattle.orc_history.specs.declared.set.ListRefused.{ListRefused}
use Rattle.orc_history.specs.declared.set.SharedSet.{Ghosts as SetOf}
use Rattle.orc_history.specs.QueueHistory.{agent_of_entry, IsLegalQueue, waiting_after}
use Rattle.orc_history.specs.SetHistory.{agent_of_set_entry}
use Rattle.orc_board.specs.Desk.{seen_in}
use Rattle.orc_board.specs.Runs.{Ran}
use Rattle.orc_jobs.specs.declared.line.Line.{Line}
use Rattle.orc_jobs.specs.Line.{jobs_in}
use Rattle.orc_board.specs.declared.replies.PostReply.{PostReply}
use Rattle.orc_board.specs.declared.replies.TakeReply.{TakeReply}
use Rattle.orc_board.specs.declared.desk.Desk.{Desk}
use Rattle.orc_team.proofs.Blocks.{blocks, AreKeyed, block_of, blocks_by_key, blocks_add, blocks_none, blocks_cons, every_block, find, nth_is, nth_of, nth_out, all_blocks}
use Rattle.orc_team.specs.Seats.{AreNumbered, all_of}
use Rattle.orc_workers.specs.Team.{BoardWorker}
use Rattle.orc_board.specs.Stretches.{View, queue_views, set_view, beside, all_beside, pick, Row}
use Rattle.orc_history.specs.Lists.{Pairwise}
use Rattle.orc_board.specs.Follows.{TakerRow, Posting, TakingRest, ZeroLast, LastIsEmpty, IsWorker, own_records, grouped_by_key, taker_agent, posts_of, takes_of, none}
use Rattle.orc_workers.specs.CameBack.{IsTold, AllCameBack}
use Rattle.orc_board.proofs.ListFacts.{AllByRecursion-map, le-cases}
use Rattle.orc_board.proofs.Ends.{posters_of}
use Rattle.orc_workers.proofs.Learned.{zero_ended}
use Rattle.orc_workers.proofs.Boards.{AllWork, ran_board, sides}

takers_loose : (lines : List Line) (taker agent : ℕ) (rs : List TakeReply) (rows : List Row) → Pairwise (TakerRow lines taker agent) rs rows
    → AllByRecursion (λ (r : TakeReply). r.taker ≡ taker) rs
takers_loose lines taker agent [] rows z = tt
takers_loose lines taker agent (r ∷ rs) [] z = absurd z
takers_loose lines taker agent (r ∷ rs) (row ∷ rows) z = (z.0.taker_is, takers_loose lines taker agent rs rows z.1)

plus_suc : (p i : ℕ) → suc p + i ≡ suc (p + i)
plus_suc p i = omega arith

abbrev pub post_block : {P R : Type 0} → List (BoardWorker P R) → ℕ → List PostReply
post_block ws zero = []
post_block ws (suc i) = nth_of (λ w. w.replies.posts.items) ws i

abbrev pub take_block : {P R : Type 0} → ℕ → List TakeReply → List (BoardWorker P R) → ℕ → List TakeReply
take_block posters own ws zero = own
take_block posters own ws (suc t) = nth_of (λ w. w.replies.takes.items) ws (posters + t)

-- what all workers have done, put together
module _ {P R A B : Type 0} (qs : Bool → View A QueueEntry QueueRefused) (s : View B SetEntry ListRefused) (lines : List Line) (posters takers : ℕ) (k : Bool → List A)
    (n : List B) (own : List TakeReply) (ws : List (BoardWorker P R))
    (num : AreNumbered 1 ws) (many : length ws ≡ posters + takers)
    (told : AllByRecursion (λ (w : BoardWorker P R). IsTold qs s lines posters k n w.agent w.replies.posts.items w.replies.takes.items) ws)
    (taking : TakingRest qs s lines 0 0 own none [] k n) where
  abbrev Told : BoardWorker P R → Type 0
  Told w = IsTold qs s lines posters k n w.agent w.replies.posts.items w.replies.takes.items

  poster_at : (i : ℕ) → i < posters → (rs : List PostReply) → post_block ws (suc i) ≡ rs
      → Posting qs s lines (suc i) rs none [] k n × (map (λ (r : PostReply). r.line) rs ≡ own_records posters (suc i) (length lines))
  poster_at i low rs is =
      let w = find Told 1 i ws num told (omega (arith, low, many)) in
      let a : w.worker.agent ≡ suc i = w.agent_is ∙ omega arith in
      let d = w.holds.posted (omega (arith, a, low)) in
      let e : w.worker.replies.posts.items ≡ rs = sym (nth_is (λ (v : BoardWorker P R). v.replies.posts.items) ws i w.worker w.is) ∙ is in (
        subst (λ (x : ℕ). Posting qs s lines x rs none [] k n) a (subst (λ (x : List PostReply). Posting qs s lines w.worker.agent x none [] k n) e d.posting),
        subst (λ (x : ℕ). map (λ (r : PostReply). r.line) rs ≡ own_records posters x (length lines)) a
            (subst (λ (x : List PostReply). map (λ (r : PostReply). r.line) x ≡ own_records posters w.worker.agent (length lines)) e d.in_file_order),
      )

  no_posts_at : (i : ℕ) → posters ≤ i → post_block ws (suc i) ≡ []
  no_posts_at i high = elim (le-cases (length ws) i) as (λ _. post_block ws (suc i) ≡ []) [
    | inl out ↦ nth_out (λ (w : BoardWorker P R). w.replies.posts.items) ws i out
    | inr low ↦
        let w = find Told 1 i ws num told low in
        let d = w.holds.took (omega (arith, w.agent_is, high)) in
        nth_is (λ (v : BoardWorker P R). v.replies.posts.items) ws i w.worker w.is ∙ d.no_posts
  ]

  no_takes_at : (i : ℕ) → i < posters → nth_of (λ (w : BoardWorker P R). w.replies.takes.items) ws i ≡ []
  no_takes_at i low =
      let w = find Told 1 i ws num told (omega (arith, low, many)) in
      let d = w.holds.posted (omega (arith, w.agent_is, low)) in
      nth_is (λ (v : BoardWorker P R). v.replies.takes.items) ws i w.worker w.is ∙ d.no_takes

  taker_at : (t : ℕ) → t < takers → (rs : List TakeReply) → take_block posters own ws (suc t) ≡ rs
      → TakingRest qs s lines (suc t) (posters + suc t) rs none [] k n × (length rs < jobs_in lines → (b : Bool) → LastIsEmpty (posters + suc t) ((qs b).history (k b)))
  taker_at t low rs is =
      let w = find Told 1 (posters + t) ws num told (omega (arith, low, many)) in
      let a : w.worker.agent ≡ posters + suc t = w.agent_is ∙ omega arith in
      let b : w.worker.agent - posters ≡ suc t = omega (arith, a) in
      let d = w.holds.took (omega (arith, a)) in
      let e : w.worker.replies.takes.items ≡ rs = sym (nth_is (λ (v : BoardWorker P R). v.replies.takes.items) ws (posters + t) w.worker w.is) ∙ is in (
        subst (λ (x : ℕ). TakingRest qs s lines (suc t) x rs none [] k n) a
            (subst (λ (x : ℕ). TakingRest qs s lines x w.worker.agent rs none [] k n) b
            (subst (λ (x : List TakeReply). TakingRest qs s lines (w.worker.agent - posters) w.worker.agent x none [] k n) e d.taking)),
        (λ less b. subst (λ (x : ℕ). LastIsEmpty x ((qs b).history (k b))) a (d.found_empty (omega (arith, less, ap length e)) b)),
      )

  posts_keyed : AreKeyed (λ (r : PostReply). r.poster) (post_block ws)
  posts_keyed zero = tt
  posts_keyed (suc i) = elim (le-cases posters i) as (λ _. AllByRecursion (λ (r : PostReply). r.poster ≡ suc i) (post_block ws (suc i))) [
    | inl high ↦ subst (AllByRecursion (λ (r : PostReply). r.poster ≡ suc i)) (sym (no_posts_at i high)) tt
    | inr low ↦ let p = poster_at i low (post_block ws (suc i)) refl in posters_of lines (suc i) _ p.0.rows p.0.table
  ]

  takes_keyed : AreKeyed (λ (r : TakeReply). r.taker) (take_block posters own ws)
  takes_keyed zero = takers_loose lines 0 0 own taking.taking.rows taking.taking.table
  takes_keyed (suc t) = elim (le-cases takers t) as (λ _. AllByRecursion (λ (r : TakeReply). r.taker ≡ suc t) (take_block posters own ws (suc t))) [
    | inl high ↦ subst (AllByRecursion (λ (r : TakeReply). r.taker ≡ suc t))
        (sym (nth_out (λ (w : BoardWorker P R). w.replies.takes.items) ws (posters + t) (omega (arith, many, high)))) tt
    | inr low ↦ let p = taker_at t low (take_block posters own ws (suc t)) refl in takers_loose lines (suc t)
        (posters + suc t) _ p.0.taking.rows p.0.taking.table
  ]

  posts_blocks : all_of (λ (w : BoardWorker P R). w.replies.posts.items) ws ≡ blocks (post_block ws) (suc posters)
  posts_blocks =
      let N : ℕ = length ws in
      let all : blocks (post_block ws) (suc N) ≡ blocks (nth_of (λ (w : BoardWorker P R). w.replies.posts.items) ws) N =
      blocks_cons [] (post_block ws) (nth_of (λ (w : BoardWorker P R). w.replies.posts.items) ws) refl (λ i. refl) N in
      let e : suc N ≡ suc posters + takers = omega (arith, many) in
      let rest : blocks (λ i. post_block ws (suc posters + i)) takers ≡ [] =
      blocks_none (λ i. post_block ws (suc posters + i)) takers
      (λ i low. ap (post_block ws) (plus_suc posters i) ∙ no_posts_at (posters + i) (omega arith)) in
      all_blocks (λ (w : BoardWorker P R). w.replies.posts.items) ws
      ∙ (sym all ∙ (ap (blocks (post_block ws)) e
      ∙ (blocks_add (post_block ws) (suc posters) takers
      ∙ (ap (λ z. blocks (post_block ws) (suc posters) ++ z) rest ∙ append-nil (blocks (post_block ws) (suc posters))))))

  takes_blocks : own ++ all_of (λ (w : BoardWorker P R). w.replies.takes.items) ws ≡ blocks (take_block posters own ws) (suc takers)
  takes_blocks =
      let nth : ℕ → List TakeReply = nth_of (λ (w : BoardWorker P R). w.replies.takes.items) ws in
      let tail : all_of (λ (w : BoardWorker P R). w.replies.takes.items) ws ≡ blocks (λ i. nth (posters + i)) takers =
      all_blocks (λ (w : BoardWorker P R). w.replies.takes.items) ws
      ∙ (ap (blocks nth) many
      ∙ (blocks_add nth posters takers ∙ ap (λ z. z ++ blocks (λ i. nth (posters + i)) takers) (blocks_none nth posters no_takes_at))) in
      ap (λ z. own ++ z) tail ∙ sym (blocks_cons own (take_block posters own ws) (λ i. nth (posters + i)) refl (λ i. refl) takers)

  some_poster : (a : ℕ) → AllByRecursion (λ (r : PostReply). 1 ≤ r.poster) (post_block ws a)
  some_poster zero = tt
  some_poster (suc i) =
      AllByRecursion-map (λ (r : PostReply). r.poster ≡ suc i) (λ (r : PostReply). 1 ≤ r.poster) (λ r e. omega (arith, e)) (post_block ws (suc i))
      (posts_keyed (suc i))

  posting_at : (p : ℕ) → 1 ≤ p → p ≤ posters → (posts : List PostReply) → ((i : ℕ) → i < posters → post_block ws (suc i) ≡ posts_of (suc i) posts)
      → Posting qs s lines p (posts_of p posts) none [] k n
  posting_at zero low high posts f = absurd (omega (arith, low))
  posting_at (suc i) low high posts f = (poster_at i (omega (arith, high)) (posts_of (suc i) posts) (f i (omega (arith, high)))).0

  order_at : (p : ℕ) → 1 ≤ p → p ≤ posters → (posts : List PostReply) → ((i : ℕ) → i < posters → post_block ws (suc i) ≡ posts_of (suc i) posts)
      → map (λ (r : PostReply). r.line) (posts_of p posts) ≡ own_records posters p (length lines)
  order_at zero low high posts f = absurd (omega (arith, low))
  order_at (suc i) low high posts f = (poster_at i (omega (arith, high)) (posts_of (suc i) posts) (f i (omega (arith, high)))).1

  taking_at : (t : ℕ) → t ≤ takers → (takes : List TakeReply) → ((i : ℕ) → i < suc takers → take_block posters own ws i ≡ takes_of i takes)
      → TakingRest qs s lines t (taker_agent posters t) (takes_of t takes) none [] k n
  taking_at zero high takes f = subst (λ (x : List TakeReply). TakingRest qs s lines 0 0 x none [] k n) (f 0 (omega arith)) taking
  taking_at (suc t) high takes f = (taker_at t (omega (arith, high)) (takes_of (suc t) takes) (f (suc t) (omega (arith, high)))).0

  empty_at_taker : (t : ℕ) → 1 ≤ t → t ≤ takers → (takes : List TakeReply) → ((i : ℕ) → i < suc takers → take_block posters own ws i ≡ takes_of i takes)
      → length (takes_of t takes) < jobs_in lines → (b : Bool) → LastIsEmpty (posters + t) ((qs b).history (k b))
  empty_at_taker zero low high takes f = absurd (omega (arith, low))
  empty_at_taker (suc t) low high takes f = (taker_at t (omega (arith, high)) (takes_of (suc t) takes) (f (suc t) (omega (arith, high)))).1

  pub put_together : (posts : List PostReply) (takes : List TakeReply) → posts ≡ all_of (λ (w : BoardWorker P R). w.replies.posts.items) ws
      → takes ≡ own ++ all_of (λ (w : BoardWorker P R). w.replies.takes.items) ws
      → ((b : Bool) → AllByRecursion (λ e. agent_of_entry e ≤ posters + takers) ((qs b).history (k b)))
      → ((b : Bool) → ZeroLast agent_of_entry ((qs b).history (k b)))
      → ZeroLast agent_of_set_entry (s.history n)
      → AllWork qs s lines posters takers posts takes k n
  put_together posts takes posts_are takes_are agents zero_q zero_s =
      let pb : posts ≡ blocks (post_block ws) (suc posters) = posts_are ∙ posts_blocks in
      let tb : takes ≡ blocks (take_block posters own ws) (suc takers) = takes_are ∙ takes_blocks in
      let post_at : (i : ℕ) → i < posters → post_block ws (suc i) ≡ posts_of (suc i) posts = λ i low.
      sym (ap (posts_of (suc i)) pb ∙ block_of (λ (r : PostReply). r.poster) (post_block ws) posts_keyed (suc i) (suc posters) (omega (arith, low))) in
      let take_at : (t : ℕ) → t < suc takers → take_block posters own ws t ≡ takes_of t takes = λ t low.
      sym (ap (takes_of t) tb ∙ block_of (λ (r : TakeReply). r.taker) (take_block posters own ws) takes_keyed t (suc takers) low) in
      record {
        posting = λ p low high. posting_at p low high posts post_at;
        taking = λ t high. taking_at t high takes take_at;
        order = record {
          by_poster = subst (λ (xs : List PostReply). xs ≡ grouped_by_key (λ (r : PostReply). r.poster) (suc posters) xs) (sym pb)
              (blocks_by_key (λ (r : PostReply). r.poster) (post_block ws) posts_keyed (suc posters));
          none_of_zero = subst (AllByRecursion (λ (r : PostReply). 1 ≤ r.poster)) (sym pb)
              (every_block (λ (r : PostReply). 1 ≤ r.poster) (post_block ws) (suc posters) (λ a l. some_poster a));
          in_file_order = λ p low high. order_at p low high posts post_at;
          by_taker = subst (λ (xs : List TakeReply). xs ≡ grouped_by_key (λ (r : TakeReply). r.taker) (suc takers) xs) (sym tb)
              (blocks_by_key (λ (r : TakeReply). r.taker) (take_block posters own ws) takes_keyed (suc takers));
        };
        agents = agents;
        queues_zero_last = zero_q;
        set_zero_last = zero_s;
        found_empty = λ t low high. empty_at_taker t low high takes take_at;
      }

-- all replies, put together, follow what the caller's desk has seen at last
pub ran_of : {Q S P R A B : Type 0} (q : QueueOf Q P A) (s : SetOf S R B) (queue rush : Q) (set : S) (lines : List Line) (posters takers : ℕ) (desk : Desk P R)
    (own : List TakeReply) (ws : List (BoardWorker P R)) (posts : List PostReply) (takes : List TakeReply)
    → 1 ≤ posters → length lines ≤ 65535 → ((b : Bool) → q.first (pick queue rush b) ≡ 0) → AllCameBack q s queue rush set lines posters takers desk own ws
    → posts ≡ all_of (λ (w : BoardWorker P R). w.replies.posts.items) ws → takes ≡ own ++ all_of (λ (w : BoardWorker P R). w.replies.takes.items) ws
    → Ran (queue_views q queue rush) (set_view s set) lines posters takers posts takes (seen_in q desk) (s.journal desk.set)
ran_of {P = P} {R = R} {A = A} q s queue rush set lines posters takers desk own ws posts takes some short first c posts_are takes_are =
    let C : ℕ → Type 0 = IsWorker posters takers in
    let k : Bool → List A = seen_in q desk in
    let n = s.journal desk.set in
    let es : Bool → List QueueEntry = λ b. q.history (pick queue rush b) (k b) in
    let two : (b : Bool) → pick (suc (posters + takers)) (suc (posters + takers)) b ≡ suc (posters + takers) = elim [ false ↦ refl | true ↦ refl ] in
    let agents : (b : Bool) → AllByRecursion (λ e. agent_of_entry e ≤ posters + takers) (es b) = λ b.
    AllByRecursion-map (λ e. agent_of_entry e < pick (suc (posters + takers)) (suc (posters + takers)) b) (λ e. agent_of_entry e ≤ posters + takers)
    (λ e h. omega (arith, h, two b)) (es b) (c.known.queues_below b) in
    let work = put_together (all_beside (queue_views q queue rush) C) (beside (set_view s set) C) lines posters takers k n own ws c.numbered c.many c.told
    c.taking posts takes posts_are takes_are agents c.queues_zero_last c.set_zero_last in
    let legal : (b : Bool) → IsLegalQueue 0 (es b) = λ b. subst (λ (x : ℕ). IsLegalQueue x (es b)) (first b) (c.known.queues_legal b) in
    let more : length takes ≡ length own + length (all_of (λ (w : BoardWorker P R). w.replies.takes.items) ws) =
    ap length takes_are ∙ length-append own (all_of (λ (w : BoardWorker P R). w.replies.takes.items) ws) in
    let end : ((b : Bool) → waiting_after [] (es b) ≡ []) ⊎ (length lines ≤ length takes) =
    elim c.last as (λ _. ((b : Bool) → waiting_after [] (es b) ≡ []) ⊎ (length lines ≤ length takes)) [
      | inl e ↦ inl (λ b. zero_ended (es b) (legal b) (c.queues_zero_last b) (e b))
      | inr full ↦ inr (omega (arith, full, more))
    ] in
    ran_board (queue_views q queue rush) (set_view s set) lines posters takers posts takes k n some c.none_first
    (λ b agent seen from to h. let big = c.known.many_puts b agent seen from to h in omega (arith, big, first b)) short legal c.known.set_legal end work

-- there are no more replies of either kind than lines
pub few_replies : {Q S P R A B : Type 0} (q : QueueOf Q P A) (s : SetOf S R B) (queue rush : Q) (set : S) (lines : List Line) (posters takers : ℕ)
    (desk : Desk P R) (own : List TakeReply) (ws : List (BoardWorker P R))
    → 1 ≤ posters → length lines ≤ 65535 → ((b : Bool) → q.first (pick queue rush b) ≡ 0) → AllCameBack q s queue rush set lines posters takers desk own ws
    → (length (all_of (λ (w : BoardWorker P R). w.replies.posts.items) ws) ≤ length lines) × (length own + length
    (all_of (λ (w : BoardWorker P R). w.replies.takes.items) ws) ≤ length lines)
few_replies {P = P} {R = R} q s queue rush set lines posters takers desk own ws some short first c =
    let posts : List PostReply = all_of (λ (w : BoardWorker P R). w.replies.posts.items) ws in
    let takes : List TakeReply = own ++ all_of (λ (w : BoardWorker P R). w.replies.takes.items) ws in
    let ran = ran_of q s queue rush set lines posters takers desk own ws posts takes some short first c refl refl in
    let order = ran.follows.workers.order in
    let line : PostReply → ℕ = λ r. r.line in
    let each : length (map line posts) ≡ length (range_with_len 0 (length lines)) =
    sym (length_permutation (map line posts) (range_with_len 0 (length lines)) (each_line lines posters takers posts takes some order)) in
    let claims : (b : Bool) → length (takes_with b takes) ≡ length (posted_of b posts) = λ b.
    sym (length-map (takes_with b takes) claim_of) ∙ length_permutation (posted_of b posts)
    (map claim_of (takes_with b takes)) (ran.reportable.queues b).claims in
    let few : length (posted_of false posts) + length (posted_of true posts) ≤ length lines = posted_few lines posters takers posts takes some order in (
      omega (arith, length-map posts line, each, length-range_with_len 0 (length lines)),
      omega (arith, sides takes, claims false, claims true, few, length-append own (all_of (λ (w : BoardWorker P R). w.replies.takes.items) ws)),
    )
