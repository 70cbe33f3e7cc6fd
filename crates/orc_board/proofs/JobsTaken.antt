-- Only posted jobs are taken.
use Rattle.std.proofs.Common.{◌≡◌, ℕ, ◌+◌, List, [], ◌∷◌, ◌++◌, Bool, true, false, filter, inl, inr, Some, refl, ap, ◌∙◌, subst}
use Rattle.std.specs.List.{slice_get, AllByRecursion}
use Rattle.orc_history.specs.declared.queue.QueueEntry.{QueueEntry}
use Rattle.orc_history.specs.declared.queue.QueueEntry.TheVariants.{Put, Took, Empty}
use Rattle.orc_history.specs.QueueHistory.{agent_of_entry, IsLegalFrom}
use Rattle.orc_jobs.specs.declared.line.Job.{Job}
use Rattle.orc_jobs.specs.Line.{job_line}
use Rattle.orc_history.specs.declared.queue.QueueRefused.{QueueRefused}
use Rattle.orc_history.specs.declared.set.SetEntry.{SetEntry}
use Rattle.orc_history.specs.declared.set.ListRefused.{ListRefused}
use Rattle.orc_jobs.specs.declared.line.Line.{Line}
use Rattle.orc_jobs.specs.declared.line.Line.TheVariants as line
use Rattle.orc_board.specs.declared.replies.PostReply.{PostReply}
use Rattle.orc_board.specs.declared.replies.PostWord.{PostWord}
use Rattle.orc_board.specs.declared.replies.PostWord.TheVariants as word
use Rattle.orc_board.specs.declared.replies.TakeReply.{TakeReply}
use Rattle.orc_board.specs.Stretches.{Row, Share, just, nothing, is_own_move}
use Rattle.orc_board.specs.Table.{IsJob, IsSkip, PostRow, JobPart, in_its}
use Rattle.orc_history.specs.Lists.{Pairwise}
use Rattle.orc_board.specs.Follows.{PosterRow, TakerRow, TookRow}
use Rattle.orc_board.proofs.ListFacts.{AllByRecursion-append, AllByRecursion-left, AllByRecursion-right, eq-yes}
use Rattle.orc_board.proofs.Wholes.{queue_of_rows}

abbrev pub IsPosted : List Line → Bool → ℕ → Type 0
IsPosted lines rush job = (id : ℕ) × IsJob lines rush job id

-- a Put, or a Took, is of a posted line
abbrev pub PutFits : List Line → Bool → QueueEntry → Type 0
PutFits lines rush (Put by job at) = IsPosted lines rush job
PutFits lines rush (Took by job at) = Unit {0}
PutFits lines rush (Empty by) = Unit {0}

abbrev pub TookFits : List Line → Bool → QueueEntry → Type 0
TookFits lines rush (Put by job at) = Unit {0}
TookFits lines rush (Took by job at) = IsPosted lines rush job
TookFits lines rush (Empty by) = Unit {0}

pub legal_tooks : (lines : List Line) (rush : Bool) (n : ℕ) (w : List (ℕ × ℕ)) (es : List QueueEntry) → IsLegalFrom n w es
    → AllByRecursion (λ (x : ℕ × ℕ). IsPosted lines rush x.0) w → AllByRecursion (PutFits lines rush) es → AllByRecursion (TookFits lines rush) es
legal_tooks lines rush n w [] legal waits puts = tt
legal_tooks lines rush n w (Put by job at ∷ es) legal waits puts = (
  tt,
  legal_tooks lines rush (n + 1) (w ++ (job, at) ∷ []) es legal.1
      (AllByRecursion-append (λ (x : ℕ × ℕ). IsPosted lines rush x.0) w ((job, at) ∷ []) waits (puts.0, tt)) puts.1,
)
legal_tooks lines rush n w (Took by job at ∷ es) (rest, is, legal) waits puts =
    let moved : AllByRecursion (λ (x : ℕ × ℕ). IsPosted lines rush x.0) ((job, at) ∷ rest) =
    subst (λ (z : List (ℕ × ℕ)). AllByRecursion (λ (x : ℕ × ℕ). IsPosted lines rush x.0) z) is waits in
    (moved.0, legal_tooks lines rush n rest es legal moved.1 puts.1)
legal_tooks lines rush n w (Empty by ∷ es) legal waits puts = (tt, legal_tooks lines rush n w es legal.1 waits puts.1)

part_puts : (lines : List Line) (rush : Bool) (agent i id : ℕ) (op : Job) (text : List ℕ) (w : PostWord) (queue : Share QueueEntry QueueRefused)
    (set : Share SetEntry ListRefused) → slice_get lines i ≡ Some (job_line rush id op text)
    → JobPart agent i id w queue set → AllByRecursion (PutFits lines rush) queue.own
part_puts lines rush agent i id op text (word.Posted at) queue set is h = rw h.0 ((id, record { op = op; text = text; is = is }), tt)
part_puts lines rush agent i id op text (word.Rushed at) queue set is h = rw h.0 ((id, record { op = op; text = text; is = is }), tt)
part_puts lines rush agent i id op text word.Busy queue set is h = rw h.0 tt
part_puts lines rush agent i id op text word.NoNode queue set is h =
    elim h as (λ _. AllByRecursion (PutFits lines rush) queue.own) [ inl e ↦ rw e.0 tt | inr p ↦ rw p.0 tt ]
part_puts lines rush agent i id op text word.Positions queue set is h = rw h.0 tt
part_puts lines rush agent i id op text word.Spent queue set is h = rw h.0 tt
part_puts lines rush agent i id op text word.Dropped queue set is h = absurd h
part_puts lines rush agent i id op text word.Unknown queue set is h = absurd h
part_puts lines rush agent i id op text word.Skipped queue set is h = absurd h

no_puts : (lines : List Line) (rush : Bool) (queue : Share QueueEntry QueueRefused) → queue ≡ nothing → AllByRecursion (PutFits lines rush) queue.own
no_puts lines rush queue e = rw e tt

line_puts : (lines : List Line) (rush : Bool) (agent i : ℕ) (l : Line) (w : PostWord) (row : Row) → slice_get lines i ≡ Some l → PostRow agent i l w row
    → AllByRecursion (PutFits lines rush) (row.queues rush).own
line_puts lines false agent i (line.Post id op text) w row is h = part_puts lines false agent i id op text w (row.queues false) row.set is h.part
line_puts lines true agent i (line.Post id op text) w row is h = no_puts lines true (row.queues true) h.other
line_puts lines false agent i (line.Rush id op text) w row is h = no_puts lines false (row.queues false) h.other
line_puts lines true agent i (line.Rush id op text) w row is h = part_puts lines true agent i id op text w (row.queues true) row.set is h.part
line_puts lines rush agent i (line.Drop id) w row is h = no_puts lines rush (row.queues rush) (h.none rush)

pub rows_puts : (lines : List Line) (rush : Bool) (poster : ℕ) (rs : List PostReply) (rows : List Row) → Pairwise (PosterRow lines poster) rs rows
    → AllByRecursion (PutFits lines rush) (queue_of_rows rush rows)
rows_puts lines rush poster [] [] z = tt
rows_puts lines rush poster [] (row ∷ rows) z = absurd z
rows_puts lines rush poster (r ∷ rs) [] z = absurd z
rows_puts lines rush poster (r ∷ rs) (row ∷ rows) z =
    AllByRecursion-append (PutFits lines rush) (row.queues rush).own (queue_of_rows rush rows) (line_puts lines rush poster r.line z.0.line r.what row z.0.is z.0.table)
    (rows_puts lines rush poster rs rows z.1)

-- entries of one agent, of which its own Puts and Tooks fit
pub own_fits : (P : QueueEntry → Type 0) → ((a : ℕ) → P (Empty a)) → (agent : ℕ) (es : List QueueEntry) → AllByRecursion (λ e. agent_of_entry e ≡ agent) es
    → AllByRecursion P (filter (is_own_move agent) es) → AllByRecursion P es
own_fits P empties agent [] by h = tt
own_fits P empties agent (Put a job at ∷ es) by h =
    let k : AllByRecursion P (Put a job at ∷ filter (is_own_move agent) es) = rw (eq-yes a agent by.0) at h in
    (k.0, own_fits P empties agent es by.1 k.1)
own_fits P empties agent (Took a job at ∷ es) by h =
    let k : AllByRecursion P (Took a job at ∷ filter (is_own_move agent) es) = rw (eq-yes a agent by.0) at h in
    (k.0, own_fits P empties agent es by.1 k.1)
own_fits P empties agent (Empty a ∷ es) by h = (empties a, own_fits P empties agent es by.1 h)

-- Tooks are no Puts
pub skips_fit : (lines : List Line) (rush : Bool) (agent : ℕ) (es : List QueueEntry) → AllByRecursion (IsSkip lines rush agent) es → AllByRecursion (PutFits lines rush) es
skips_fit lines rush agent [] a = tt
skips_fit lines rush agent (e ∷ es) a = (rw a.0.is tt, skips_fit lines rush agent es a.1)

own_took_fits : (lines : List Line) (rush b : Bool) (agent i at : ℕ) → AllByRecursion (PutFits lines rush) (in_its b (Took agent i at ∷ []) rush)
own_took_fits lines false false agent i at = (tt, tt)
own_took_fits lines false true agent i at = tt
own_took_fits lines true false agent i at = tt
own_took_fits lines true true agent i at = (tt, tt)

pub took_rows_fit : (lines : List Line) (rush : Bool) (taker agent : ℕ) (rs : List TakeReply) (rows : List Row) → Pairwise (TakerRow lines taker agent) rs rows
    → AllByRecursion (PutFits lines rush) (queue_of_rows rush rows)
took_rows_fit lines rush taker agent [] [] z = tt
took_rows_fit lines rush taker agent [] (row ∷ rows) z = absurd z
took_rows_fit lines rush taker agent (r ∷ rs) [] z = absurd z
took_rows_fit lines rush taker agent (r ∷ rs) (row ∷ rows) z =
    AllByRecursion-append (PutFits lines rush) (row.queues rush).own (queue_of_rows rush rows)
    (rw (z.0.table.claim.queues rush)
    (AllByRecursion-append (PutFits lines rush) (z.0.table.skipped rush) (in_its r.rush (Took agent r.line r.at ∷ []) rush)
    (skips_fit lines rush agent (z.0.table.skipped rush) (z.0.table.skips rush)) (own_took_fits lines rush r.rush agent r.line r.at)))
    (took_rows_fit lines rush taker agent rs rows z.1)

-- no posted job was passed over
pub no_skips : (lines : List Line) (rush : Bool) (agent : ℕ) (es : List QueueEntry) → AllByRecursion (IsSkip lines rush agent) es
    → AllByRecursion (TookFits lines rush) es → es ≡ []
no_skips lines rush agent [] a h = refl
no_skips lines rush agent (e ∷ es) a h =
    let fits : IsPosted lines rush a.0.job = subst (TookFits lines rush) a.0.is h.0 in
    absurd (a.0.none.none fits.0 fits.1.op fits.1.text fits.1.is)

-- both queues' Tooks fit
abbrev pub RowsFit : List Line → List Row → Type 0
RowsFit lines rows = (rush : Bool) → AllByRecursion (TookFits lines rush) (queue_of_rows rush rows)

pub strict_rows : (lines : List Line) (taker agent : ℕ) (rs : List TakeReply) (rows : List Row) → Pairwise (TakerRow lines taker agent) rs rows
    → RowsFit lines rows → Pairwise (TookRow lines taker agent) rs rows
strict_rows lines taker agent [] [] z h = tt
strict_rows lines taker agent [] (row ∷ rows) z h = absurd z
strict_rows lines taker agent (r ∷ rs) [] z h = absurd z
strict_rows lines taker agent (r ∷ rs) (row ∷ rows) z h =
    let t = z.0.table in
    let own : Bool → List QueueEntry = in_its r.rush (Took agent r.line r.at ∷ []) in
    let none : (rush : Bool) → t.skipped rush ≡ [] = λ rush.
    no_skips lines rush agent (t.skipped rush) (t.skips rush)
    (AllByRecursion-left (TookFits lines rush) (t.skipped rush) (own rush)
    (subst (λ (x : Share QueueEntry QueueRefused). AllByRecursion (TookFits lines rush) x.own) (t.claim.queues rush)
    (AllByRecursion-left (TookFits lines rush) (row.queues rush).own (queue_of_rows rush rows) (h rush)))) in (
      record {
        taker_is = z.0.taker_is;
        table = record {
          id = t.claim.id;
          job = t.claim.job;
          value = t.claim.value;
          queues = λ rush. t.claim.queues rush ∙ ap (λ (u : List QueueEntry). just (u ++ own rush)) (none rush);
          set = t.claim.set;
        };
      },
      strict_rows lines taker agent rs rows z.1
          (λ rush. AllByRecursion-right (TookFits lines rush) (row.queues rush).own (queue_of_rows rush rows) (h rush)),
    )
