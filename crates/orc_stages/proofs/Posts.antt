-- What a poster does grows reply by reply.
use Rattle.std.proofs.Common.{◌≡◌, ℕ, List, [], ◌∷◌, ◌++◌, Some, refl, ap, sym, ◌∙◌, subst, slice_get}
use Rattle.orc_history.specs.declared.queue.QueueEntry.{QueueEntry}
use Rattle.orc_history.specs.declared.queue.QueueRefused.{QueueRefused}
use Rattle.orc_history.specs.declared.queue.QueueEntry.TheVariants.{Put}
use Rattle.orc_jobs.specs.declared.line.Line.{Line}
use Rattle.orc_jobs.specs.declared.line.Line.TheVariants as line
use Rattle.orc_jobs.specs.Line.{PostsJob}
use Rattle.orc_board.specs.declared.replies.PostWord.TheVariants as word
use Rattle.orc_board.specs.declared.replies.PostReply.{PostReply}
use Rattle.orc_board.specs.Stretches.{View, Stretch, of_queue, just, nothing}
use Rattle.orc_board.proofs.Shares.{Did-just, Did-nothing, DidAll-snoc}
use Rattle.orc_board.proofs.Workers.{Pairwise-snoc}
use Rattle.orc_stages.specs.Stage.{PostPart, IsPostShare, Posting}
use Rattle.orc_stages.specs.Calls.{Posted}
use Rattle.orc_stages.proofs.Shares.{self, shares_none}

pub posting_none : {A : Type 0} (x : View A QueueEntry QueueRefused) (lines : List Line) (poster : ℕ) (replies : List PostReply) (j : List A)
    → replies ≡ [] → Posting x lines poster replies j j
posting_none x lines poster replies j e = record { shares = []; table = rw e tt; did = shares_none x poster j }

pub posting_more : {A : Type 0} (x : View A QueueEntry QueueRefused) (lines : List Line) (poster now index : ℕ) (line : Line) (replies : List PostReply)
    (r : PostReply) (j k l : List A)
    → Posting x lines poster replies j k → now ≡ poster → r.poster ≡ poster → r.line ≡ index → slice_get lines index ≡ Some line
    → Posted x now index line r.what k l → Posting x lines poster (replies ++ r ∷ []) j l
posting_more x lines poster now index line replies r j k l p e poster_is line_is at done0 =
    let done : Posted x poster index line r.what k l = subst (λ (a : ℕ). Posted x a index line r.what k l) e done0 in
    record {
      shares = p.shares ++ done.share ∷ [];
      table = Pairwise-snoc (IsPostShare lines poster) replies p.shares r done.share p.table (record {
        poster_is = poster_is;
        line = line;
        is = ap (slice_get lines) line_is ∙ at;
        part = subst (λ (i : ℕ). PostPart poster i line r.what done.share) (sym line_is) done.part;
      });
      did = DidAll-snoc of_queue x poster self p.shares done.share j k l p.did done.did;
    }

-- a line that drops an id
pub skipped : {A : Type 0} (x : View A QueueEntry QueueRefused) (agent i id : ℕ) (l : Line) (j : List A)
    → l ≡ line.Drop id → Posted x agent i l word.Skipped j j
skipped x agent i id l j e = rw e (record { share = nothing; part = (refl, refl); did = Did-nothing of_queue x agent j })

-- a line whose job was put
put_part : (agent i at : ℕ) (l : Line) → PostsJob l → PostPart agent i l (word.Posted at) (just (Put agent i at ∷ []))
put_part agent i at (line.Post id op text) posts = refl
put_part agent i at (line.Rush id op text) posts = refl
put_part agent i at (line.Drop id) posts = absurd posts

pub item_put : {A : Type 0} (x : View A QueueEntry QueueRefused) (agent i job at : ℕ) (l : Line) (j k : List A)
    → PostsJob l → job ≡ i → Stretch of_queue x agent (Put agent job at ∷ []) j k → Posted x agent i l (word.Posted at) j k
item_put x agent i job at l j k posts e put0 =
    let put : Stretch of_queue x agent (Put agent i at ∷ []) j k = subst (λ (z : ℕ). Stretch of_queue x agent (Put agent z at ∷ []) j k) e put0 in
    record { share = just (Put agent i at ∷ []); part = put_part agent i at l posts; did = Did-just of_queue x agent (Put agent i at ∷ []) j k put }
