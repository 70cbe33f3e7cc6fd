-- The end of a run: desks and replies of all workers in order, which form a pipeline with what came out.
use Rattle.std.proofs.Common.{◌≡◌, ℕ, zero, suc, ◌+◌, ◌-◌, ◌*◌, ◌≤◌, ◌<◌, List, [], ◌∷◌, ◌++◌, length, map, inl, inr, refl, ap, sym, ◌∙◌, subst, arith, append-nil, length-append}
use Rattle.std.specs.List.{AllByRecursion}
use Rattle.std.proofs.Math.Nat.{suc-mul}
use Rattle.std.proofs.lemmas.List.{length-map}
use Rattle.orc_history.specs.declared.queue.QueueEntry.{QueueEntry}
use Rattle.orc_history.specs.declared.queue.QueueRefused.{QueueRefused}
use Rattle.orc_history.specs.declared.queue.SharedQueue.{Ghosts as QueueOf}
use Rattle.orc_history.specs.QueueHistory.{agent_of_entry}
use Rattle.orc_jobs.specs.declared.line.Line.{Line}
use Rattle.orc_board.specs.declared.replies.PostReply.{PostReply}
use Rattle.orc_board.specs.Stretches.{View}
use Rattle.orc_history.specs.Lists.{Pairwise}
use Rattle.orc_board.specs.Follows.{posts_of}
use Rattle.orc_board.proofs.ListFacts.{AllByRecursion-append, AllByRecursion-map, le-cases}
use Rattle.orc_team.proofs.Blocks.{blocks, AreKeyed, block_of, blocks_by_key, blocks_add, blocks_none, blocks_cons, every_block, nth_out, all_blocks}
use Rattle.orc_team.specs.Seats.{all_of}
use Rattle.orc_stages.specs.declared.replies.StageDesk.{StageDesk}
use Rattle.orc_stages.specs.declared.replies.StageReply.{StageReply}
use Rattle.orc_stages.specs.Stage.{QueueShare, IsPostShare, MoveTable, StageRow}
use Rattle.orc_stages.specs.Desks.{StageWorker, view_at, seen_at}
use Rattle.orc_pipeline.specs.Team.{ToldByReplies}
use Rattle.orc_pipeline.specs.Pipeline.{IsPipeline}
use Rattle.orc_pipeline.specs.Ran.{Ran, PosterRan, StageRan, in_run, unseen}
use Rattle.orc_pipeline.specs.Run.{AllCameBack, AreIdle, HaveSeen, first_seen}
use Rattle.orc_pipeline.proofs.Pipelines.{pipeline_of, few_moves, all_posts}
use Rattle.orc_pipeline.proofs.Crew.{posts_at, moves_at}

-- the replies of a table are those of one poster, or of one stage
posters_of : (lines : List Line) (poster : ℕ) (rs : List PostReply) (shares : List QueueShare) → Pairwise (IsPostShare lines poster) rs shares
    → AllByRecursion (λ (r : PostReply). r.poster ≡ poster) rs
posters_of lines poster [] shares z = tt
posters_of lines poster (r ∷ rs) [] z = absurd z
posters_of lines poster (r ∷ rs) (s ∷ shares) z = (z.0.poster_is, posters_of lines poster rs shares z.1)

stages_of : (lines : List Line) (stage agent : ℕ) (rs : List StageReply) (rows : List StageRow) → MoveTable lines stage agent rs rows
    → AllByRecursion (λ (r : StageReply). r.stage ≡ stage) rs
stages_of lines stage agent rs [] t = subst (AllByRecursion (λ (r : StageReply). r.stage ≡ stage)) (sym t) tt
stages_of lines stage agent rs (row ∷ rows) t = elim t as (λ _. AllByRecursion (λ (r : StageReply). r.stage ≡ stage) rs) [
  | inl skip ↦ stages_of lines stage agent rs rows skip.1
  | inr one ↦
      subst (AllByRecursion (λ (r : StageReply). r.stage ≡ stage)) (sym one.2) (one.3.stage_is, stages_of lines stage agent one.1 rows one.4)
]

few_each : {X : Type 0} (block : ℕ → List X) (most n : ℕ) → ((a : ℕ) → a < n → length (block a) ≤ most) → length (blocks block n) ≤ n * most
few_each block most zero h = omega arith
few_each block most (suc n) h =
    let rest : length (blocks block n) ≤ n * most = few_each block most n (λ a l. h a (omega (arith, l))) in
    omega (arith, rest, h n (omega arith), suc-mul n most, length-append (blocks block n) (block n))

-- the replies of posters by poster, and those of stages by stage, each from 1
abbrev pub post_block : {P : Type 0} → List (StageWorker P) → ℕ → List PostReply
post_block ws zero = []
post_block ws (suc i) = posts_at ws i

abbrev pub move_block : {P : Type 0} → ℕ → List (StageWorker P) → ℕ → List StageReply
move_block posters ws zero = []
move_block posters ws (suc i) = moves_at ws (posters + i)

module _ {Q P A : Type 0} (q : QueueOf Q P A) (queues : List Q) (lines : List Line) (posters stages : ℕ) (desk : StageDesk P) (ws : List (StageWorker P))
    (outs : List ℕ) (some : 1 ≤ posters) (short : length lines ≤ 65535) (many : length ws ≡ posters + stages)
    (c : AllCameBack q queues lines posters stages desk.passes.items ws outs) where
  abbrev V : ℕ → View A QueueEntry QueueRefused
  V = view_at q queues

  abbrev X : ℕ → View A QueueEntry QueueRefused
  X = in_run V posters stages

  abbrev k : ℕ → List A
  k = seen_at q desk.passes.items

  record PosterAt (i : ℕ) : Type 0 where
    ran : PosterRan X lines posters (suc i) (posts_at ws i) k
    none : moves_at ws i ≡ []

  poster_at : (i : ℕ) → i < posters → PosterAt i
  poster_at i low =
      let t = c.told i (omega (arith, low, many)) in
      let p = t.posted (omega (arith, low)) in
      record { ran = record { acts = t.acts; acted = t.acted; wrote = p.0 }; none = c.of_posters i low ∙ p.1 }

  record StageAt (i : ℕ) : Type 0 where
    ran : StageRan X lines i (posters + suc i) (c.work (posters + i)) k
    none : posts_at ws (posters + i) ≡ []

  stage_at : (i : ℕ) → i < stages → StageAt i
  stage_at i low =
      let at : suc (posters + i) ≡ posters + suc i = omega arith in
      let t : ToldByReplies X lines posters (posters + suc i) (posts_at ws (posters + i)) (c.work (posters + i)) unseen k =
      subst (λ (a : ℕ). ToldByReplies X lines posters a (posts_at ws (posters + i)) (c.work (posters + i)) unseen k) at (c.told (posters + i) (omega (arith, low, many))) in
      let p = t.moved i refl in
      record { ran = record { acts = t.acts; acted = t.acted; wrote = p.0; found_empty = t.found_empty i refl }; none = p.1 }

  no_posts_at : (i : ℕ) → posters ≤ i → posts_at ws i ≡ []
  no_posts_at i high = elim (le-cases (length ws) i) as (λ _. posts_at ws i ≡ []) [
    | inl out ↦ nth_out (λ (w : StageWorker P). w.replies.posts.items) ws i out
    | inr low ↦
        let at : posters + (i - posters) ≡ i = omega (arith, high) in
        subst (λ (n : ℕ). posts_at ws n ≡ []) at (stage_at (i - posters) (omega (arith, low, high, many))).none
  ]

  posts_keyed : AreKeyed (λ (r : PostReply). r.poster) (post_block ws)
  posts_keyed zero = tt
  posts_keyed (suc i) = elim (le-cases posters i) as (λ _. AllByRecursion (λ (r : PostReply). r.poster ≡ suc i) (posts_at ws i)) [
    | inl high ↦ subst (AllByRecursion (λ (r : PostReply). r.poster ≡ suc i)) (sym (no_posts_at i high)) tt
    | inr low ↦ let p = (poster_at i low).ran in posters_of lines (suc i) (posts_at ws i) (p.acts 0) p.wrote.table
  ]

  moves_keyed : AreKeyed (λ (r : StageReply). r.stage) (move_block posters ws)
  moves_keyed zero = tt
  moves_keyed (suc i) = elim (le-cases stages i) as (λ _. AllByRecursion (λ (r : StageReply). r.stage ≡ suc i) (moves_at ws (posters + i))) [
    | inl high ↦
        subst (AllByRecursion (λ (r : StageReply). r.stage ≡ suc i))
        (sym (nth_out (λ (w : StageWorker P). w.replies.takes.items) ws (posters + i) (omega (arith, high, many)))) tt
    | inr low ↦
        let s = (stage_at i low).ran in
        let own : AllByRecursion (λ (r : StageReply). r.stage ≡ suc i) (c.own i) =
        stages_of lines (suc i) 0 (c.own i) (c.moved.acts.rows i)
        (subst (λ (n : ℕ). MoveTable lines n 0 (c.own i) (c.moved.acts.rows i)) (omega arith) (c.moved.acts.table i low)) in
        subst (AllByRecursion (λ (r : StageReply). r.stage ≡ suc i)) (sym (c.of_stages i low))
        (AllByRecursion-append (λ (r : StageReply). r.stage ≡ suc i) (c.work (posters + i)) (c.own i)
        (stages_of lines (suc i) (posters + suc i) (c.work (posters + i)) s.wrote.rows s.wrote.table) own)
  ]

  posts_blocks : all_of (λ (w : StageWorker P). w.replies.posts.items) ws ≡ blocks (post_block ws) (suc posters)
  posts_blocks =
      let nth : ℕ → List PostReply = λ i. posts_at ws i in
      let all : blocks (post_block ws) (suc (length ws)) ≡ blocks nth (length ws) = blocks_cons [] (post_block ws) nth refl (λ i. refl) (length ws) in
      let e : suc (length ws) ≡ suc posters + stages = omega (arith, many) in
      let rest : blocks (λ i. post_block ws (suc posters + i)) stages ≡ [] =
      blocks_none (λ i. post_block ws (suc posters + i)) stages
      (λ i low. let at : suc posters + i ≡ suc (posters + i) = omega arith in ap (post_block ws) at ∙ no_posts_at (posters + i) (omega arith)) in
      all_blocks (λ (w : StageWorker P). w.replies.posts.items) ws
      ∙ (sym all
      ∙ (ap (blocks (post_block ws)) e
      ∙ (blocks_add (post_block ws) (suc posters) stages
      ∙ (ap (λ z. blocks (post_block ws) (suc posters) ++ z) rest ∙ append-nil (blocks (post_block ws) (suc posters))))))

  moves_blocks : all_of (λ (w : StageWorker P). w.replies.takes.items) ws ≡ blocks (move_block posters ws) (suc stages)
  moves_blocks =
      let nth : ℕ → List StageReply = λ i. moves_at ws i in
      all_blocks (λ (w : StageWorker P). w.replies.takes.items) ws
      ∙ (ap (blocks nth) many
      ∙ (blocks_add nth posters stages
      ∙ (ap (λ z. z ++ blocks (λ i. nth (posters + i)) stages) (blocks_none nth posters (λ i low. (poster_at i low).none))
      ∙ sym (blocks_cons [] (move_block posters ws) (λ i. nth (posters + i)) refl (λ i. refl) stages))))

  some_poster : (a : ℕ) → AllByRecursion (λ (r : PostReply). 1 ≤ r.poster) (post_block ws a)
  some_poster zero = tt
  some_poster (suc i) =
      AllByRecursion-map (λ (r : PostReply). r.poster ≡ suc i) (λ (r : PostReply). 1 ≤ r.poster) (λ r e. omega (arith, e)) (posts_at ws i) (posts_keyed (suc i))

  some_stage : (a : ℕ) → AllByRecursion (λ (r : StageReply). 1 ≤ r.stage) (move_block posters ws a)
  some_stage zero = tt
  some_stage (suc i) =
      AllByRecursion-map (λ (r : StageReply). r.stage ≡ suc i) (λ (r : StageReply). 1 ≤ r.stage) (λ r e. omega (arith, e)) (moves_at ws (posters + i))
      (moves_keyed (suc i))

  posts_are : (i : ℕ) → i < posters → posts_at ws i ≡ posts_of (suc i) (blocks (post_block ws) (suc posters))
  posts_are i low = sym (block_of (λ (r : PostReply). r.poster) (post_block ws) posts_keyed (suc i) (suc posters) (omega (arith, low)))

  poster_ran : (p : ℕ) → 1 ≤ p → p ≤ posters → PosterRan X lines posters p (posts_of p (blocks (post_block ws) (suc posters))) k
  poster_ran zero low high = absurd (omega (arith, low))
  poster_ran (suc i) low high =
      subst (λ (rs : List PostReply). PosterRan X lines posters (suc i) rs k) (posts_are i (omega (arith, high))) (poster_at i (omega (arith, high))).ran

  ran : Ran V lines posters stages (blocks (post_block ws) (suc posters)) (λ i. c.work (posters + i)) c.own outs k
  ran = record {
    new = c.none_first;
    legal = λ i. (c.known i).legal;
    few = λ i.
        AllByRecursion-map (λ e. agent_of_entry e < suc (posters + stages)) (λ e. agent_of_entry e ≤ posters + stages) (λ e h. omega (arith, h)) ((V i).history (k i))
        (c.known i).below;
    zero_last = c.zero_last;
    many = λ i agent seen from to h. (c.known i).many_puts agent seen from to h;
    order = record {
      by_poster = blocks_by_key (λ (r : PostReply). r.poster) (post_block ws) posts_keyed (suc posters);
      none_of_zero = every_block (λ (r : PostReply). 1 ≤ r.poster) (post_block ws) (suc posters) (λ a l. some_poster a);
      in_file_order = λ p low high. (poster_ran p low high).wrote.in_file_order;
      by_taker = refl;
    };
    posted = poster_ran;
    moved = λ i low. (stage_at i low).ran;
    caller = c.moved;
    ended = c.ended;
    outs_ended = c.outs_ended;
  }

  pipeline : IsPipeline V lines posters stages (blocks (post_block ws) (suc posters)) (blocks (move_block posters ws) (suc stages)) outs k
  pipeline =
      pipeline_of V lines posters stages (blocks (post_block ws) (suc posters)) (λ i. c.work (posters + i)) c.own outs k some short ran
      (blocks (move_block posters ws) (suc stages)) (blocks_by_key (λ (r : StageReply). r.stage) (move_block posters ws) moves_keyed (suc stages))
      (every_block (λ (r : StageReply). 1 ≤ r.stage) (move_block posters ws) (suc stages) (λ a l. some_stage a))
      (λ i low.
      block_of (λ (r : StageReply). r.stage) (move_block posters ws) moves_keyed (suc i) (suc stages) (omega (arith, low)) ∙ c.of_stages i low)

  -- there are no more replies than there is room for
  pub few_replies : (length (all_of (λ (w : StageWorker P). w.replies.posts.items) ws) ≤ length lines)
      × (length (all_of (λ (w : StageWorker P). w.replies.takes.items) ws) ≤ stages * length lines)
  few_replies =
      let posts : length (blocks (post_block ws) (suc posters)) ≡ length lines =
      all_posts V lines posters stages (blocks (post_block ws) (suc posters)) (λ i. c.work (posters + i)) c.own outs k some short ran in
      let each : length (blocks (λ i. moves_at ws (posters + i)) stages) ≤ stages * length lines =
      few_each (λ i. moves_at ws (posters + i)) (length lines) stages (λ i low.
      let few : length (c.work (posters + i) ++ c.own i) ≤ length lines =
      few_moves V lines posters stages (blocks (post_block ws) (suc posters)) (λ j. c.work (posters + j)) c.own outs k some short ran i low in
      omega (arith, few, ap length (c.of_stages i low))) in
      let cons : length (blocks (move_block posters ws) (suc stages)) ≡ length (blocks (λ i. moves_at ws (posters + i)) stages) =
      ap length (blocks_cons [] (move_block posters ws) (λ i. moves_at ws (posters + i)) refl (λ i. refl) stages) in
      (omega (arith, posts, ap length posts_blocks), omega (arith, each, cons, ap length moves_blocks))

  pub over : (desks : List (StageDesk P)) (posts : List PostReply) (moves : List StageReply) → desks ≡ desk ∷ map (λ (w : StageWorker P). w.desk) ws
      → posts ≡ all_of (λ (w : StageWorker P). w.replies.posts.items) ws → moves ≡ all_of (λ (w : StageWorker P). w.replies.takes.items) ws
      → AreIdle q queues 0 desks × (length desks ≡ suc (posters + stages)) × HaveSeen q (first_seen q desks) desks
      × IsPipeline V lines posters stages posts moves outs (first_seen q desks)
  over desks posts moves a b d = rw (a, b ∙ posts_blocks, d ∙ moves_blocks) (
    (c.caller, c.idle),
    ap suc (length-map ws (λ (w : StageWorker P). w.desk) ∙ many),
    ((λ i. refl), c.seen),
    pipeline,
  )
