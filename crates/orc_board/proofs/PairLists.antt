-- The pairs of job and position in histories, rows and replies.
use Rattle.std.proofs.Common.{◌≡◌, ◌%◌, ℕ, ◌+◌, ◌≤◌, List, [], ◌∷◌, ◌++◌, length, map, Bool, true, false, not, ◌==◌, inl, inr, refl, ap, sym, ◌∙◌, arith, append_assoc, append-nil, length-append}
use Rattle.std.specs.List.{range_with_len, AllByRecursion}
use Rattle.std.proofs.lemmas.List.FromFn.{length-range_with_len}
use Rattle.std.proofs.lemmas.List.Sums.{length-filter, count_by-le-length}
use Rattle.orc_history.specs.declared.queue.QueueEntry.{QueueEntry}
use Rattle.orc_history.specs.declared.queue.QueueEntry.TheVariants.{Put, Took, Empty}
use Rattle.orc_history.specs.declared.queue.QueueRefused.{QueueRefused}
use Rattle.orc_history.specs.declared.set.SetEntry.{SetEntry}
use Rattle.orc_history.specs.declared.set.ListRefused.{ListRefused}
use Rattle.orc_history.specs.QueueHistory.{IsLegalFrom, waiting_after}
use Rattle.orc_jobs.specs.declared.line.Line.{Line}
use Rattle.orc_jobs.specs.declared.line.Line.TheVariants as line
use Rattle.orc_board.specs.declared.replies.PostReply.{PostReply}
use Rattle.orc_board.specs.declared.replies.PostWord.{PostWord}
use Rattle.orc_board.specs.declared.replies.PostWord.TheVariants as word
use Rattle.orc_board.specs.declared.replies.TakeReply.{TakeReply}
use Rattle.orc_board.specs.Stretches.{Row, Share, nothing}
use Rattle.orc_board.specs.Table.{PostRow, JobPart, DropRow, IsWordOf, in_its}
use Rattle.orc_history.specs.Lists.{Pairwise}
use Rattle.orc_board.specs.Follows.{PosterRow, TookRow, own_records}
use Rattle.orc_board.specs.Reportable.{posted_by, posted_of, claim_of, takes_with, IsClaim}
use Rattle.orc_board.proofs.Wholes.{queue_of_rows}

-- the jobs that were put, with their positions
abbrev pub puts_of : List QueueEntry → List (ℕ × ℕ)
puts_of [] = []
puts_of (Put agent job at ∷ es) = (job, at) ∷ puts_of es
puts_of (Took agent job at ∷ es) = puts_of es
puts_of (Empty agent ∷ es) = puts_of es

-- the jobs that were taken, with their positions
abbrev pub tooks_of : List QueueEntry → List (ℕ × ℕ)
tooks_of [] = []
tooks_of (Put agent job at ∷ es) = tooks_of es
tooks_of (Took agent job at ∷ es) = (job, at) ∷ tooks_of es
tooks_of (Empty agent ∷ es) = tooks_of es

pub puts_of-append : (xs ys : List QueueEntry) → puts_of (xs ++ ys) ≡ puts_of xs ++ puts_of ys
puts_of-append [] ys = refl
puts_of-append (Put by job at ∷ xs) ys = ap (λ z. (job, at) ∷ z) (puts_of-append xs ys)
puts_of-append (Took by job at ∷ xs) ys = puts_of-append xs ys
puts_of-append (Empty by ∷ xs) ys = puts_of-append xs ys

pub tooks_of-append : (xs ys : List QueueEntry) → tooks_of (xs ++ ys) ≡ tooks_of xs ++ tooks_of ys
tooks_of-append [] ys = refl
tooks_of-append (Put by job at ∷ xs) ys = tooks_of-append xs ys
tooks_of-append (Took by job at ∷ xs) ys = ap (λ z. (job, at) ∷ z) (tooks_of-append xs ys)
tooks_of-append (Empty by ∷ xs) ys = tooks_of-append xs ys

-- in a legal history the puts are the tooks and then what waits
pub legal_lists : (n : ℕ) (w : List (ℕ × ℕ)) (es : List QueueEntry) → IsLegalFrom n w es → w ++ puts_of es ≡ tooks_of es ++ waiting_after w es
legal_lists n w [] legal = append-nil w
legal_lists n w (Put by job at ∷ es) legal = sym (append_assoc w ((job, at) ∷ []) (puts_of es)) ∙ legal_lists (n + 1) (w ++ (job, at) ∷ []) es legal.1
legal_lists n w (Took by job at ∷ es) (rest, is, legal) =
    rw is (ap (λ z. (job, at) ∷ z) (legal_lists n rest es legal))
legal_lists n w (Empty by ∷ es) legal = legal_lists n w es legal.1

-- and their positions are the next numbers
pub legal_positions : (n : ℕ) (w : List (ℕ × ℕ)) (es : List QueueEntry) → IsLegalFrom n w es
    → map (λ (x : ℕ × ℕ). x.1) (puts_of es) ≡ range_with_len n (length (puts_of es))
legal_positions n w [] legal = refl
legal_positions n w (Put by job at ∷ es) legal =
    let tail = legal_positions (n + 1) (w ++ (job, at) ∷ []) es legal.1 in
    rw legal.0 (ap (λ z. n ∷ z) tail)
legal_positions n w (Took by job at ∷ es) (rest, is, legal) = legal_positions n rest es legal
legal_positions n w (Empty by ∷ es) legal = legal_positions n w es legal.1

-- the puts of a poster's row are those of its reply
pub record PutsOf (own : List QueueEntry) (pairs : List (ℕ × ℕ)) : Type 0 where
  pub puts : puts_of own ≡ pairs
  pub tooks : tooks_of own ≡ []

part_pairs : (rush : Bool) (agent i id : ℕ) (w : PostWord) (queue : Share QueueEntry QueueRefused) (set : Share SetEntry ListRefused) → IsWordOf rush w
    → JobPart agent i id w queue set → PutsOf queue.own (posted_by rush i w)
part_pairs false agent i id (word.Posted at) queue set of h = rw h.0 (record { puts = refl; tooks = refl })
part_pairs true agent i id (word.Posted at) queue set of h = absurd of
part_pairs false agent i id (word.Rushed at) queue set of h = absurd of
part_pairs true agent i id (word.Rushed at) queue set of h = rw h.0 (record { puts = refl; tooks = refl })
part_pairs false agent i id word.Busy queue set of h = rw h.0 (record { puts = refl; tooks = refl })
part_pairs true agent i id word.Busy queue set of h = rw h.0 (record { puts = refl; tooks = refl })
part_pairs false agent i id word.NoNode queue set of h =
    elim h as (λ _. PutsOf queue.own []) [ inl e ↦ rw e.0 (record { puts = refl; tooks = refl }) | inr p ↦ rw p.0 (record { puts = refl; tooks = refl }) ]
part_pairs true agent i id word.NoNode queue set of h =
    elim h as (λ _. PutsOf queue.own []) [ inl e ↦ rw e.0 (record { puts = refl; tooks = refl }) | inr p ↦ rw p.0 (record { puts = refl; tooks = refl }) ]
part_pairs false agent i id word.Positions queue set of h = rw h.0 (record { puts = refl; tooks = refl })
part_pairs true agent i id word.Positions queue set of h = rw h.0 (record { puts = refl; tooks = refl })
part_pairs false agent i id word.Spent queue set of h = rw h.0 (record { puts = refl; tooks = refl })
part_pairs true agent i id word.Spent queue set of h = rw h.0 (record { puts = refl; tooks = refl })
part_pairs rush agent i id word.Dropped queue set of h = absurd h
part_pairs rush agent i id word.Unknown queue set of h = absurd h
part_pairs rush agent i id word.Skipped queue set of h = absurd h

-- nothing was put in the other queue
other_pairs : (rush : Bool) (i : ℕ) (w : PostWord) (queue : Share QueueEntry QueueRefused) → IsWordOf (not rush) w → queue ≡ nothing
    → PutsOf queue.own (posted_by rush i w)
other_pairs false i (word.Posted at) queue of e = absurd of
other_pairs true i (word.Posted at) queue of e = rw e (record { puts = refl; tooks = refl })
other_pairs false i (word.Rushed at) queue of e = rw e (record { puts = refl; tooks = refl })
other_pairs true i (word.Rushed at) queue of e = absurd of
other_pairs false i word.Busy queue of e = rw e (record { puts = refl; tooks = refl })
other_pairs true i word.Busy queue of e = rw e (record { puts = refl; tooks = refl })
other_pairs false i word.NoNode queue of e = rw e (record { puts = refl; tooks = refl })
other_pairs true i word.NoNode queue of e = rw e (record { puts = refl; tooks = refl })
other_pairs false i word.Positions queue of e = rw e (record { puts = refl; tooks = refl })
other_pairs true i word.Positions queue of e = rw e (record { puts = refl; tooks = refl })
other_pairs false i word.Spent queue of e = rw e (record { puts = refl; tooks = refl })
other_pairs true i word.Spent queue of e = rw e (record { puts = refl; tooks = refl })
other_pairs false i word.Dropped queue of e = rw e (record { puts = refl; tooks = refl })
other_pairs true i word.Dropped queue of e = rw e (record { puts = refl; tooks = refl })
other_pairs false i word.Unknown queue of e = rw e (record { puts = refl; tooks = refl })
other_pairs true i word.Unknown queue of e = rw e (record { puts = refl; tooks = refl })
other_pairs false i word.Skipped queue of e = rw e (record { puts = refl; tooks = refl })
other_pairs true i word.Skipped queue of e = rw e (record { puts = refl; tooks = refl })

drop_pairs : (rush : Bool) (agent i id : ℕ) (w : PostWord) (row : Row) → DropRow agent id w row → PutsOf (row.queues rush).own (posted_by rush i w)
drop_pairs rush agent i id (word.Posted at) row h = absurd h.part
drop_pairs rush agent i id (word.Rushed at) row h = absurd h.part
drop_pairs rush agent i id word.Busy row h = absurd h.part
drop_pairs rush agent i id word.NoNode row h = absurd h.part
drop_pairs rush agent i id word.Positions row h = absurd h.part
drop_pairs rush agent i id word.Spent row h = absurd h.part
drop_pairs false agent i id word.Dropped row h = rw (h.none false) (record { puts = refl; tooks = refl })
drop_pairs true agent i id word.Dropped row h = rw (h.none true) (record { puts = refl; tooks = refl })
drop_pairs false agent i id word.Unknown row h = rw (h.none false) (record { puts = refl; tooks = refl })
drop_pairs true agent i id word.Unknown row h = rw (h.none true) (record { puts = refl; tooks = refl })
drop_pairs rush agent i id word.Skipped row h = absurd h.part

line_pairs : (rush : Bool) (agent i : ℕ) (l : Line) (w : PostWord) (row : Row) → PostRow agent i l w row → PutsOf (row.queues rush).own (posted_by rush i w)
line_pairs false agent i (line.Post id op text) w row h = part_pairs false agent i id w (row.queues false) row.set h.word h.part
line_pairs true agent i (line.Post id op text) w row h = other_pairs true i w (row.queues true) h.word h.other
line_pairs false agent i (line.Rush id op text) w row h = other_pairs false i w (row.queues false) h.word h.other
line_pairs true agent i (line.Rush id op text) w row h = part_pairs true agent i id w (row.queues true) row.set h.word h.part
line_pairs rush agent i (line.Drop id) w row h = drop_pairs rush agent i id w row h

pub rows_pairs : (lines : List Line) (rush : Bool) (poster : ℕ) (rs : List PostReply) (rows : List Row) → Pairwise (PosterRow lines poster) rs rows
    → PutsOf (queue_of_rows rush rows) (posted_of rush rs)
rows_pairs lines rush poster [] [] z = record { puts = refl; tooks = refl }
rows_pairs lines rush poster [] (row ∷ rows) z = absurd z
rows_pairs lines rush poster (r ∷ rs) [] z = absurd z
rows_pairs lines rush poster (r ∷ rs) (row ∷ rows) z =
    let one = line_pairs rush poster r.line z.0.line r.what row z.0.table in
    let more = rows_pairs lines rush poster rs rows z.1 in
    record {
      puts = puts_of-append (row.queues rush).own (queue_of_rows rush rows)
          ∙ (ap (λ u. u ++ puts_of (queue_of_rows rush rows)) one.puts ∙ ap (λ u. posted_by rush r.line r.what ++ u) more.puts);
      tooks = tooks_of-append (row.queues rush).own (queue_of_rows rush rows) ∙ (ap (λ u. u ++ tooks_of (queue_of_rows rush rows)) one.tooks ∙ more.tooks);
    }

-- the row of one claim
record Took1 (rush : Bool) (r : TakeReply) (own : List QueueEntry) : Type 0 where
  tooks : (more : List TakeReply) (es : List QueueEntry) → tooks_of es ≡ map claim_of (takes_with rush more)
      → tooks_of (own ++ es) ≡ map claim_of (takes_with rush (r ∷ more))
  puts : (es : List QueueEntry) → puts_of es ≡ [] → puts_of (own ++ es) ≡ []

took_one : (rush b : Bool) (agent : ℕ) (r : TakeReply) → r.rush ≡ b → Took1 rush r (in_its b (Took agent r.line r.at ∷ []) rush)
took_one false false agent r e = record { tooks = λ more es h. rw e (ap (λ u. (r.line, r.at) ∷ u) h); puts = λ es h. h }
took_one false true agent r e = record { tooks = λ more es h. rw e h; puts = λ es h. h }
took_one true false agent r e = record { tooks = λ more es h. rw e h; puts = λ es h. h }
took_one true true agent r e = record { tooks = λ more es h. rw e (ap (λ u. (r.line, r.at) ∷ u) h); puts = λ es h. h }

pub took_pairs : (lines : List Line) (rush : Bool) (taker agent : ℕ) (rs : List TakeReply) (rows : List Row) → Pairwise (TookRow lines taker agent) rs rows
    → (tooks_of (queue_of_rows rush rows) ≡ map claim_of (takes_with rush rs)) × (puts_of (queue_of_rows rush rows) ≡ [])
took_pairs lines rush taker agent [] [] z = (refl, refl)
took_pairs lines rush taker agent [] (row ∷ rows) z = absurd z
took_pairs lines rush taker agent (r ∷ rs) [] z = absurd z
took_pairs lines rush taker agent (r ∷ rs) (row ∷ rows) z =
    let more = took_pairs lines rush taker agent rs rows z.1 in
    let one = took_one rush r.rush agent r refl in
    (rw (z.0.table.queues rush) (one.tooks rs (queue_of_rows rush rows) more.0), rw (z.0.table.queues rush) (one.puts (queue_of_rows rush rows) more.1))

pub claims_of : (lines : List Line) (taker agent : ℕ) (rs : List TakeReply) (rows : List Row) → Pairwise (TookRow lines taker agent) rs rows
    → AllByRecursion (IsClaim lines) rs
claims_of lines taker agent [] [] z = tt
claims_of lines taker agent [] (row ∷ rows) z = absurd z
claims_of lines taker agent (r ∷ rs) [] z = absurd z
claims_of lines taker agent (r ∷ rs) (row ∷ rows) z =
    (record { id = z.0.table.id; job = z.0.table.job; value = z.0.table.value }, claims_of lines taker agent rs rows z.1)

posted_one : (i : ℕ) (w : PostWord) → length (posted_by false i w) + length (posted_by true i w) ≤ 1
posted_one i (word.Posted at) = omega arith
posted_one i (word.Rushed at) = omega arith
posted_one i word.Busy = omega arith
posted_one i word.NoNode = omega arith
posted_one i word.Positions = omega arith
posted_one i word.Spent = omega arith
posted_one i word.Dropped = omega arith
posted_one i word.Unknown = omega arith
posted_one i word.Skipped = omega arith

pub posted_fewer : (rs : List PostReply) → length (posted_of false rs) + length (posted_of true rs) ≤ length rs
posted_fewer [] = omega arith
posted_fewer (r ∷ rs) =
    omega (
      arith,
      length-append (posted_by false r.line r.what) (posted_of false rs),
      length-append (posted_by true r.line r.what) (posted_of true rs),
      posted_one r.line r.what,
      posted_fewer rs,
    )

-- a poster has no more records than there are lines
pub records_fewer : (posters poster n : ℕ) → length (own_records posters poster n) ≤ n
records_fewer posters poster n =
    let test : ℕ → Bool = λ i. i % posters + 1 == poster in
    omega (arith, length-filter test (range_with_len 0 n), count_by-le-length test (range_with_len 0 n), length-range_with_len 0 n)
