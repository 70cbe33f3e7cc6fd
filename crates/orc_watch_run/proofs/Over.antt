-- The end of a run: passes and replies of all workers in order.
use Rattle.std.proofs.Common.{◌≡◌, ◌==◌, ◌%◌, ◌+◌, ◌<◌, ◌≤◌, Bool, true, false, cond, ℕ, zero, suc, List, [], ◌∷◌, ◌++◌, ap, arith, filter, inl, inr, length, length-append, map, refl, subst, sym, ◌∙◌}
use Rattle.std.proofs.lemmas.List.{length-map}
use Rattle.std.proofs.lemmas.List.FromFn.{length-range_with_len}
use Rattle.std.proofs.lemmas.List.Sorted.{length_permutation}
use Rattle.std.specs.List.Sorted.{IsPermutation}
use Rattle.std.specs.List.{AllByRecursion, range_with_len}
use Rattle.orc_board.proofs.Keyed.{by_key_below, same_by_keys}
use Rattle.orc_board.proofs.ListFacts.{AllByRecursion-all, AllByRecursion-map, eq-true, le-cases}
use Rattle.orc_history.specs.Lists.{Pairwise}
use Rattle.orc_board.specs.Follows.{grouped_by_key, own_records}
use Rattle.orc_board.specs.Stretches.{View, beside}
use Rattle.orc_cell.specs.declared.refused.CellRefused.{CellRefused}
use Rattle.orc_heap.specs.declared.links.Links.{Ghosts as LinksOf}
use Rattle.orc_pairs_rule.specs.declared.entry.CellEntry.{CellEntry}
use Rattle.orc_pairs_rule.specs.declared.pairs.PairsNote.{PairsNote}
use Rattle.orc_watch.specs.declared.line.WatchLine.{WatchLine}
use Rattle.orc_watch.specs.declared.reply.WatchReply.{WatchReply}
use Rattle.orc_watch_run.specs.CameBack.{AllCameBack, IsTold}
use Rattle.orc_watch_run.specs.CellView.{cell_view}
use Rattle.orc_watch_run.specs.Follows.{AreInOrder, CellShare, IsInRun, IsReplyShare, Watching, replies_of}
use Rattle.orc_watch_run.specs.Passes.{AreUsable, FollowsPasses, HaveSeenTheSame}
use Rattle.orc_watch_run.specs.Team.{Watcher}
use Rattle.orc_board.proofs.Workers.{own-many}
use Rattle.orc_team.proofs.Blocks.{AreKeyed, all_blocks, block_of, blocks, blocks_by_key, blocks_cons, every_block, find, nth_is, nth_of, nth_out}
use Rattle.orc_team.specs.Seats.{AreNumbered, all_of}

reply_workers : (lines : List WatchLine) (worker : ℕ) (rs : List WatchReply) (shares : List CellShare) → Pairwise (IsReplyShare lines worker) rs shares
    → AllByRecursion (λ (r : WatchReply). r.worker ≡ worker) rs
reply_workers lines worker [] shares z = tt
reply_workers lines worker (r ∷ rs) [] z = absurd z
reply_workers lines worker (r ∷ rs) (share ∷ shares) z = (z.0.worker_is, reply_workers lines worker rs shares z.1)

abbrev block_in : {P : Type 0} → List (Watcher P) → ℕ → List WatchReply
block_in ws zero = []
block_in ws (suc i) = nth_of (λ w. w.replies.items) ws i

-- what all workers have done, put together
module _ {P A : Type 0} (x : View A CellEntry CellRefused) (lines : List WatchLine) (workers : ℕ) (k : List A) (ws : List (Watcher P))
    (num : AreNumbered 1 ws) (many : length ws ≡ workers)
    (told : AllByRecursion (λ (w : Watcher P). IsTold x lines workers w.agent w.replies.items k) ws) where
  worker_at : (i : ℕ) → i < workers → (rs : List WatchReply) → block_in ws (suc i) ≡ rs → IsTold x lines workers (suc i) rs k
  worker_at i low rs is =
      let w = find (λ (v : Watcher P). IsTold x lines workers v.agent v.replies.items k) 1 i ws num told (omega (arith, low, many)) in
      let a : w.worker.agent ≡ suc i = w.agent_is ∙ omega arith in
      let e : w.worker.replies.items ≡ rs = sym (nth_is (λ (v : Watcher P). v.replies.items) ws i w.worker w.is) ∙ is in
      subst (λ (n : ℕ). IsTold x lines workers n rs k) a (subst (λ (z : List WatchReply). IsTold x lines workers w.worker.agent z k) e w.holds)

  keyed : AreKeyed (λ (r : WatchReply). r.worker) (block_in ws)
  keyed zero = tt
  keyed (suc i) = elim (le-cases workers i) as (λ _. AllByRecursion (λ (r : WatchReply). r.worker ≡ suc i) (block_in ws (suc i))) [
    | inl high ↦ subst (AllByRecursion (λ (r : WatchReply). r.worker ≡ suc i))
        (sym (nth_out (λ (w : Watcher P). w.replies.items) ws i (omega (arith, many, high)))) tt
    | inr low ↦ let t = worker_at i low (block_in ws (suc i)) refl in reply_workers lines (suc i) _ t.watched.shares t.watched.table
  ]

  in_blocks : all_of (λ (w : Watcher P). w.replies.items) ws ≡ blocks (block_in ws) (suc workers)
  in_blocks =
      all_blocks (λ (w : Watcher P). w.replies.items) ws
      ∙ (sym (blocks_cons [] (block_in ws) (nth_of (λ (w : Watcher P). w.replies.items) ws) refl (λ i. refl) (length ws))
      ∙ ap (λ (n : ℕ). blocks (block_in ws) (suc n)) many)

  some_worker : (a : ℕ) → AllByRecursion (λ (r : WatchReply). 1 ≤ r.worker) (block_in ws a)
  some_worker zero = tt
  some_worker (suc i) =
      AllByRecursion-map (λ (r : WatchReply). r.worker ≡ suc i) (λ (r : WatchReply). 1 ≤ r.worker) (λ r e. omega (arith, e)) (block_in ws (suc i)) (keyed (suc i))

  told_by : (replies : List WatchReply) → replies ≡ blocks (block_in ws) (suc workers) → (w : ℕ) → 1 ≤ w → w ≤ workers
      → IsTold x lines workers w (replies_of w replies) k
  told_by replies is zero low high = absurd (omega (arith, low))
  told_by replies is (suc i) low high =
      let mine : replies_of (suc i) replies ≡ block_in ws (suc i) =
      ap (replies_of (suc i)) is ∙ block_of (λ (r : WatchReply). r.worker) (block_in ws) keyed (suc i) (suc workers) (omega (arith, high)) in
      worker_at i (omega (arith, high)) (replies_of (suc i) replies) (sym mine)

  pub in_order : (replies : List WatchReply) → replies ≡ all_of (λ (w : Watcher P). w.replies.items) ws → AreInOrder lines workers replies
  in_order replies are =
      let is : replies ≡ blocks (block_in ws) (suc workers) = are ∙ in_blocks in
      record {
        by_worker = subst (λ (z : List WatchReply). z ≡ grouped_by_key (λ (r : WatchReply). r.worker) (suc workers) z) (sym is)
            (blocks_by_key (λ (r : WatchReply). r.worker) (block_in ws) keyed (suc workers));
        none_of_zero = subst (AllByRecursion (λ (r : WatchReply). 1 ≤ r.worker)) (sym is)
            (every_block (λ (r : WatchReply). 1 ≤ r.worker) (block_in ws) (suc workers) (λ a low. some_worker a));
        in_file_order = λ w low high. (told_by replies is w low high).in_file_order;
      }

  pub watched_by : (replies : List WatchReply) → replies ≡ all_of (λ (w : Watcher P). w.replies.items) ws → (w : ℕ) → 1 ≤ w → w ≤ workers
      → Watching x lines w (replies_of w replies) [] k
  watched_by replies are w low high = (told_by replies (are ∙ in_blocks) w low high).watched

-- the records of all workers are all records
filter_keyed : {X : Type 0} (key : X → ℕ) (a : ℕ) (xs : List X) → AllByRecursion (λ x. key x ≡ a) (filter (λ x. key x == a) xs)
filter_keyed key a [] = tt
filter_keyed {X} key a (x ∷ xs) =
    let F : List X = filter (λ y. key y == a) xs in
    let rest : AllByRecursion (λ y. key y ≡ a) F = filter_keyed key a xs in
    let cases : (b : Bool) → (key x == a) ≡ b → AllByRecursion (λ y. key y ≡ a) (cond b (x ∷ F) F) =
    elim [ true ↦ λ e. (eq-true (key x) a e, rest) | false ↦ λ e. rest ] in
    cases (key x == a) refl

by_key_blocks : {X : Type 0} (key : X → ℕ) (n : ℕ) (xs : List X) → grouped_by_key key n xs ≡ blocks (λ a. filter (λ x. key x == a) xs) n
by_key_blocks key zero xs = refl
by_key_blocks key (suc n) xs = ap (λ z. z ++ filter (λ x. key x == n) xs) (by_key_blocks key n xs)

all_records : (workers n : ℕ) → 1 ≤ workers → length (blocks (λ a. own_records workers a n) (suc workers)) ≡ n
all_records workers n some =
    let key : ℕ → ℕ = λ i. i % workers + 1 in
    let all : List ℕ = range_with_len 0 n in
    let sorted : List ℕ = grouped_by_key key (suc workers) all in
    let block : ℕ → List ℕ = λ a. filter (λ i. key i == a) all in
    let low : AllByRecursion (λ i. key i < suc workers) all = AllByRecursion-all (λ i. key i < suc workers) (λ i. omega arith) all in
    let is : sorted ≡ blocks block (suc workers) = by_key_blocks key (suc workers) all in
    let same : IsPermutation sorted all = same_by_keys key (suc workers) sorted all (by_key_below key (suc workers) all) low
    (λ a less. ap (filter (λ i. key i == a)) is ∙ block_of key block (λ b. filter_keyed key b all) a (suc workers) less) in
    omega (arith, ap length is, length_permutation sorted all same, length-range_with_len 0 n)

blocks_fewer : {X Y : Type 0} (f : ℕ → List X) (g : ℕ → List Y) (n : ℕ) → ((a : ℕ) → a < n → length (f a) ≤ length (g a))
    → length (blocks f n) ≤ length (blocks g n)
blocks_fewer f g zero h = omega arith
blocks_fewer f g (suc n) h =
    omega (
      arith,
      blocks_fewer f g n (λ a low. h a (omega (arith, low))),
      h n (omega arith),
      length-append (blocks f n) (f n),
      length-append (blocks g n) (g n),
    )

-- so the replies are no more than the lines
pub replies_few : {P A : Type 0} (x : View A CellEntry CellRefused) (lines : List WatchLine) (workers : ℕ) (k : List A) (ws : List (Watcher P))
    → 1 ≤ workers → AreNumbered 1 ws → length ws ≡ workers
    → AllByRecursion (λ (w : Watcher P). IsTold x lines workers w.agent w.replies.items k) ws
    → length (all_of (λ (w : Watcher P). w.replies.items) ws) ≤ length lines
replies_few {P} x lines workers k ws some num many told =
    let each : (a : ℕ) → a < suc workers → length (block_in ws a) ≤ length (own_records workers a (length lines)) = elim [
      | zero ↦ λ low. omega arith
      | suc i ↦ λ low.
          let t = worker_at x lines workers k ws num many told i (omega (arith, low)) (block_in ws (suc i)) refl in
          omega (arith, own-many (λ (r : WatchReply). r.line) (block_in ws (suc i)) (own_records workers (suc i) (length lines)) t.in_file_order)
    ] in
    omega (
      arith,
      ap length (in_blocks x lines workers k ws num many told),
      blocks_fewer (block_in ws) (λ a. own_records workers a (length lines)) (suc workers) each,
      all_records workers (length lines) some,
    )

-- what a run leaves
pub record IsOver {L D P S : Type 0} (m : LinksOf L D P S PairsNote) (links : L) (lines : List WatchLine) (workers : ℕ) (passes : List P)
    (replies : List WatchReply) (left right : ℕ) : Type 0 where
  pub usable : AreUsable m links 0 passes
  pub all : length passes ≡ 1 + workers
  pub seen : HaveSeenTheSame m links passes
  pub follows : FollowsPasses m links lines workers passes replies left right

pub over_of : {L D P S : Type 0} (m : LinksOf L D P S PairsNote) (links : L) (lines : List WatchLine) (workers : ℕ) (p : P) (left right : ℕ)
    (ws : List (Watcher P)) (passes : List P) (replies : List WatchReply)
    → AllCameBack m links lines workers p left right ws → length ws ≡ workers → passes ≡ p ∷ map (λ (w : Watcher P). w.desk) ws
    → replies ≡ all_of (λ (w : Watcher P). w.replies.items) ws
    → IsOver m links lines workers passes replies left right
over_of {P = P} m links lines workers p left right ws passes replies back many passes_are replies_are =
    let f : IsOver m links lines workers (p ∷ map (λ (w : Watcher P). w.desk) ws) replies left right = record {
      usable = (back.caller, back.usable);
      all = let n = length-map ws (λ (w : Watcher P). w.desk) in omega (arith, n, many);
      seen = (refl, back.seen);
      follows = record {
        legal = back.legal;
        order = in_order (beside (cell_view m links) (IsInRun workers)) lines workers (m.journal p) ws back.numbered many back.told replies replies_are;
        watching = watched_by (beside (cell_view m links) (IsInRun workers)) lines workers (m.journal p) ws back.numbered many back.told replies replies_are;
        last = back.last;
      };
    } in
    subst (λ (ps : List P). IsOver m links lines workers ps replies left right) (sym passes_are) f
