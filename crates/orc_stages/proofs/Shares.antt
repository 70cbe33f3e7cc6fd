-- Shares of an agent in one queue, one after another.
use Rattle.std.proofs.Common.{◌≡◌, ℕ, List, [], ◌∷◌, ◌++◌, Bool, true, false, Option, Some, None, refl, ap, sym, ◌∙◌, subst, append_assoc}
use Rattle.orc_history.specs.declared.queue.QueueEntry.{QueueEntry}
use Rattle.orc_history.specs.declared.queue.QueueEntry.TheVariants.{Put, Took, Empty}
use Rattle.orc_history.specs.declared.queue.QueueRefused.{QueueRefused}
use Rattle.orc_history.specs.QueueHistory.{entry_of_dequeue}
use Rattle.orc_board.specs.Stretches.{View, Kind, Share, Stretch, Did, DidAll, of_queue, just}
use Rattle.orc_board.specs.Table.{EndsWith, took_of}
use Rattle.orc_board.proofs.Shares.{Did-just, Did-nothing, DidAll-before, DidAll-more, DidAll-snoc, DidAll-stretch, own_of_rows}
use Rattle.orc_board.proofs.CallStretches.{ends_later}
use Rattle.orc_stages.specs.Stage.{QueueShare, DidShares, TookAlone, jobs_of, own_of_shares}

-- what was done, and then more
DidAll-append : {A E W X : Type 0} (kind : Kind E) (x : View A E W) (agent : ℕ) (share : X → Share E W) (rows more : List X) (j k l : List A)
    → DidAll kind x agent share rows j k → DidAll kind x agent share more k l → DidAll kind x agent share (rows ++ more) j l
DidAll-append kind x agent share [] more j k l c d = DidAll-before kind x agent share more j k l c.stretch d
DidAll-append kind x agent share (row ∷ rows) more j k l (i, one, c) d = (i, one, DidAll-append kind x agent share rows more i k l c d)

abbrev pub self : QueueShare → QueueShare
self share = share

pub shares_append : {A : Type 0} (x : View A QueueEntry QueueRefused) (agent : ℕ) (xs ys : List QueueShare) (j k l : List A)
    → DidShares x agent xs j k → DidShares x agent ys k l → DidShares x agent (xs ++ ys) j l
shares_append x agent xs ys j k l c d = DidAll-append of_queue x agent self xs ys j k l c d

pub shares_none : {A : Type 0} (x : View A QueueEntry QueueRefused) (agent : ℕ) (j : List A) → DidShares x agent [] j j
shares_none x agent j = Did-nothing of_queue x agent j

pub shares_one : {A : Type 0} (x : View A QueueEntry QueueRefused) (agent : ℕ) (share : QueueShare) (j k : List A)
    → Did of_queue x agent share j k → DidShares x agent (share ∷ []) j k
shares_one x agent share j k d = (k, d, Did-nothing of_queue x agent k)

-- own entries of shares
pub own_of-append : (xs ys : List QueueShare) → own_of_shares (xs ++ ys) ≡ own_of_shares xs ++ own_of_shares ys
own_of-append [] ys = refl
own_of-append (x ∷ xs) ys = ap (λ z. x.own ++ z) (own_of-append xs ys) ∙ sym (append_assoc x.own (own_of_shares xs) (own_of_shares ys))

rows_own : (shares : List QueueShare) → own_of_rows self shares ≡ own_of_shares shares
rows_own [] = refl
rows_own (x ∷ xs) = ap (λ z. x.own ++ z) (rows_own xs)

pub shares_stretch : {A : Type 0} (x : View A QueueEntry QueueRefused) (agent : ℕ) (shares : List QueueShare) (j k : List A)
    → DidShares x agent shares j k → Stretch of_queue x agent (own_of_shares shares) j k
shares_stretch x agent shares j k c =
    subst (λ (own : List QueueEntry). Stretch of_queue x agent own j k) (rows_own shares) (DidAll-stretch of_queue x agent self shares j k c)

-- what comes last stays last where shares come ahead
pub shares_last : {A : Type 0} (x : View A QueueEntry QueueRefused) (agent now : ℕ) (shares : List QueueShare) (j k l : List A)
    → DidShares x agent shares j k → now ≡ agent → EndsWith x now (Empty now) k l → EndsWith x agent (Empty agent) j l
shares_last x agent now shares j k l c e ends =
    ends_later x agent (Empty agent) (own_of_shares shares) j k l (shares_stretch x agent shares j k c)
    (subst (λ (z : ℕ). EndsWith x z (Empty z) k l) e ends)

pub jobs_of-append : (put : Bool) (xs ys : List QueueEntry) → jobs_of put (xs ++ ys) ≡ jobs_of put xs ++ jobs_of put ys
jobs_of-append put [] ys = refl
jobs_of-append true (Put by job at ∷ xs) ys = ap (λ z. job ∷ z) (jobs_of-append true xs ys)
jobs_of-append false (Put by job at ∷ xs) ys = jobs_of-append false xs ys
jobs_of-append true (Took by job at ∷ xs) ys = jobs_of-append true xs ys
jobs_of-append false (Took by job at ∷ xs) ys = ap (λ z. job ∷ z) (jobs_of-append false xs ys)
jobs_of-append put (Empty by ∷ xs) ys = jobs_of-append put xs ys

-- a take with this answer
pub took_now : {A : Type 0} (x : View A QueueEntry QueueRefused) (agent job at now : ℕ) (got : Option (ℕ × ℕ)) (j k : List A)
    → now ≡ agent → got ≡ Some (job, at) → Stretch of_queue x now (took_of now got) j k → Did of_queue x agent (just (Took agent job at ∷ [])) j k
took_now x agent job at now got j k e is took =
    Did-just of_queue x agent (Took agent job at ∷ []) j k
    (subst (λ (z : ℕ). Stretch of_queue x z (Took z job at ∷ []) j k) e (subst (λ (o : Option (ℕ × ℕ)). Stretch of_queue x now (took_of now o) j k) is took))

-- a take that found nothing
pub took_none : {A : Type 0} (x : View A QueueEntry QueueRefused) (agent now : ℕ) (got : Option (ℕ × ℕ)) (shares : List QueueShare) (j k l : List A)
    → DidShares x agent shares j k → now ≡ agent → got ≡ None → Stretch of_queue x now (took_of now got) k l → DidShares x agent shares j l
took_none x agent now got shares j k l c e is took =
    DidAll-more of_queue x agent self shares j k l c (Did-just of_queue x agent [] k l
    (subst (λ (z : ℕ). Stretch of_queue x z [] k l) e (subst (λ (o : Option (ℕ × ℕ)). Stretch of_queue x now (took_of now o) k l) is took)))

-- what came out of a queue
pub taking_none : {A : Type 0} (x : View A QueueEntry QueueRefused) (agent : ℕ) (outs : List ℕ) (j : List A) → outs ≡ [] → TookAlone x agent outs j j
taking_none x agent outs j e = record { shares = []; did = shares_none x agent j; tooks = sym e; puts = refl }

pub taking_more : {A : Type 0} (x : View A QueueEntry QueueRefused) (agent job at now : ℕ) (got : Option (ℕ × ℕ)) (outs : List ℕ) (j k l : List A)
    → TookAlone x agent outs j k → now ≡ agent → got ≡ Some (job, at) → Stretch of_queue x now (took_of now got) k l → TookAlone x agent (outs ++ job ∷ []) j l
taking_more x agent job at now got outs j k l t e is took =
    let share : QueueShare = just (Took agent job at ∷ []) in
    let own : own_of_shares (t.shares ++ share ∷ []) ≡ own_of_shares t.shares ++ Took agent job at ∷ [] = own_of-append t.shares (share ∷ []) in
    record {
      shares = t.shares ++ share ∷ [];
      did = DidAll-snoc of_queue x agent self t.shares share j k l t.did (took_now x agent job at now got k l e is took);
      tooks = ap (jobs_of false) own ∙ (jobs_of-append false (own_of_shares t.shares) (Took agent job at ∷ []) ∙ ap (λ z. z ++ job ∷ []) t.tooks);
      puts = ap (jobs_of true) own ∙ (jobs_of-append true (own_of_shares t.shares) (Took agent job at ∷ []) ∙ ap (λ z. z ++ []) t.puts);
    }

pub taking_end : {A : Type 0} (x : View A QueueEntry QueueRefused) (agent now : ℕ) (got : Option (ℕ × ℕ)) (outs : List ℕ) (j k l : List A)
    → TookAlone x agent outs j k → now ≡ agent → got ≡ None → Stretch of_queue x now (took_of now got) k l → TookAlone x agent outs j l
taking_end x agent now got outs j k l t e is took =
    record { shares = t.shares; did = took_none x agent now got t.shares j k l t.did e is took; tooks = t.tooks; puts = t.puts }

-- the take that found nothing was the last, after others
pub taking_last : {A : Type 0} (x : View A QueueEntry QueueRefused) (agent now : ℕ) (got : Option (ℕ × ℕ)) (outs : List ℕ) (j k l : List A)
    → TookAlone x agent outs j k → now ≡ agent → got ≡ None → EndsWith x now (entry_of_dequeue now got) k l → EndsWith x agent (Empty agent) j l
taking_last x agent now got outs j k l t e is ends =
    shares_last x agent now t.shares j k l t.did e (subst (λ (o : Option (ℕ × ℕ)). EndsWith x now (entry_of_dequeue now o) k l) is ends)
