-- What the calls of a container add are stretches.
use Rattle.std.proofs.Common.{◌≡◌, ◌≢◌, append_assoc, inl, inr, ℕ, List, [], ◌∷◌, ◌++◌, Bool, true, false, cond, ◌==◌, Option, Some, None, refl, ap, sym, ◌∙◌, subst, length, filter, ◌⊎◌}
use mathlib.Core.List.{IsPrefix}
use Rattle.orc_history.specs.Journals.{Within, Adds, own_of}
use Rattle.std.specs.List.{AllByRecursion}
use Rattle.orc_history.specs.declared.queue.QueueEntry.{QueueEntry}
use Rattle.orc_history.specs.declared.queue.QueueEntry.TheVariants.{Put, Took, Empty}
use Rattle.orc_history.specs.declared.queue.QueueRefused.{QueueRefused}
use Rattle.orc_history.specs.declared.set.SetEntry.{SetEntry}
use Rattle.orc_history.specs.declared.set.ListRefused.{ListRefused}
use Rattle.orc_history.specs.QueueHistory.{agent_of_entry, entry_of_dequeue}
use Rattle.orc_history.specs.SetHistory.{agent_of_set_entry}
use Rattle.orc_board.specs.Stretches.{View, Kind, Stretch, Did, Licensed, of_queue, of_set, refusal, is_own_move}
use Rattle.orc_board.specs.Table.{EndsWith, took_of}
use Rattle.orc_board.proofs.Shares.{Stretch-trans, licensed_from}
use Rattle.orc_board.proofs.ListFacts.{eq-false}

abbrev pub is_move : QueueEntry → Bool
is_move (Put by job at) = true
is_move (Took by job at) = true
is_move (Empty by) = false

-- an entry that moves something stands in both, or in neither
own_kept : (x : QueueEntry) (fs gs : List QueueEntry) → x ∷ filter is_move gs ≡ filter is_move (x ∷ gs) → fs ≡ filter is_move gs → (b : Bool)
    → cond b (x ∷ fs) fs ≡ filter is_move (cond b (x ∷ gs) gs)
own_kept x fs gs moves same true = ap (λ z. x ∷ z) same ∙ moves
own_kept x fs gs moves same false = same

pub own_moves : (agent : ℕ) (es : List QueueEntry) → filter (is_own_move agent) es ≡ filter is_move (own_of agent_of_entry agent es)
own_moves agent [] = refl
own_moves agent (Put by job at ∷ es) =
    own_kept (Put by job at) (filter (is_own_move agent) es) (own_of agent_of_entry agent es) refl (own_moves agent es) (by == agent)
own_moves agent (Took by job at ∷ es) =
    own_kept (Took by job at) (filter (is_own_move agent) es) (own_of agent_of_entry agent es) refl (own_moves agent es) (by == agent)
own_moves agent (Empty by ∷ es) =
    let cases : (b : Bool)
    → filter (is_own_move agent) es ≡ filter is_move (cond b (Empty by ∷ own_of agent_of_entry agent es) (own_of agent_of_entry agent es)) =
    elim [ true ↦ own_moves agent es | false ↦ own_moves agent es ] in
    cases (by == agent)

-- what a call of a queue, or of a set, adds is a stretch
pub Adds-stretch : {A : Type 0} (q : View A QueueEntry QueueRefused) (agent : ℕ) (own : List QueueEntry) (j k : List A)
    → IsPrefix j k → Adds agent_of_entry q.crowd agent (q.history j) own (q.history k) → Stretch of_queue q agent (filter is_move own) j k
Adds-stretch q agent own j k later a = record {
  later = later;
  part = a.part;
  is = a.is;
  own_is = own_moves agent a.part ∙ ap (filter is_move) a.own_is;
  others = a.others;
}

pub SetAdds-stretch : {B : Type 0} (s : View B SetEntry ListRefused) (agent : ℕ) (own : List SetEntry) (j k : List B)
    → IsPrefix j k → Adds agent_of_set_entry s.crowd agent (s.history j) own (s.history k) → Stretch of_set s agent own j k
SetAdds-stretch s agent own j k later a = record { later = later; part = a.part; is = a.is; own_is = a.own_is; others = a.others }

-- calls after refusals that were made again; `now` is the agent as the last call has it
pub queue_call : {A : Type 0} (q : View A QueueEntry QueueRefused) (agent now : ℕ) → now ≡ agent → (own : ℕ → List QueueEntry) (i j k : List A)
    → Stretch of_queue q agent [] i j → IsPrefix j k → Adds agent_of_entry q.crowd now (q.history j) (own now) (q.history k)
    → Stretch of_queue q agent (filter is_move (own agent)) i k
queue_call q agent now same own i j k before later a =
    Stretch-trans of_queue q agent [] (filter is_move (own agent)) i j k before
    (subst (λ (x : ℕ). Stretch of_queue q x (filter is_move (own x)) j k) same (Adds-stretch q now (own now) j k later a))

pub dequeue_call : {A : Type 0} (q : View A QueueEntry QueueRefused) (agent now : ℕ) → now ≡ agent → (got : Option (ℕ × ℕ)) (i j k : List A)
    → Stretch of_queue q agent [] i j → IsPrefix j k → Adds agent_of_entry q.crowd now (q.history j) (entry_of_dequeue now got ∷ []) (q.history k)
    → Stretch of_queue q agent (took_of agent got) i k
dequeue_call q agent now same None i j k before later a = queue_call q agent now same (λ x. Empty x ∷ []) i j k before later a
dequeue_call q agent now same (Some got) i j k before later a = queue_call q agent now same (λ x. Took x got.0 got.1 ∷ []) i j k before later a

pub set_call : {B : Type 0} (s : View B SetEntry ListRefused) (agent now : ℕ) → now ≡ agent → (own : ℕ → List SetEntry) (i j k : List B)
    → Stretch of_set s agent [] i j → IsPrefix j k → Adds agent_of_set_entry s.crowd now (s.history j) (own now) (s.history k)
    → Stretch of_set s agent (own agent) i k
set_call s agent now same own i j k before later a =
    Stretch-trans of_set s agent [] (own agent) i j k before
    (subst (λ (x : ℕ). Stretch of_set s x (own x) j k) same (SetAdds-stretch s now (own now) j k later a))

-- a refused call after others
pub refused_call : {A E W : Type 0} (kind : Kind E) (x : View A E W) (agent now : ℕ) → now ≡ agent → (why told : W) → told ≡ why → (i j k : List A)
    → Stretch kind x agent [] i j → Stretch kind x agent [] i k → Within (length j) (length k) (x.licence now told k) → Did kind x agent (refusal why) i k
refused_call {W = W} kind x agent now same why told is i j k before whole h = record {
  stretch = whole;
  licence =
      let moved : Licensed x agent (Some why) j k =
      subst (λ (a : ℕ). Within (length j) (length k) (x.licence a why k)) same (subst (λ (w : W). Within (length j) (length k) (x.licence now w k)) is h) in
      licensed_from x agent (Some why) i j k before.later moved;
}

none_own : (agent : ℕ) (crowd : ℕ → Type 0) (es : List QueueEntry) → own_of agent_of_entry agent es ≡ []
    → AllByRecursion (λ e. (agent_of_entry e ≡ agent) ⊎ crowd (agent_of_entry e)) es
    → AllByRecursion (λ e. (agent_of_entry e ≢ agent) × crowd (agent_of_entry e)) es
none_own agent crowd [] own all = tt
none_own agent crowd (e ∷ es) own all =
    let cases : (b : Bool) → (agent_of_entry e == agent) ≡ b → cond b (e ∷ own_of agent_of_entry agent es) (own_of agent_of_entry agent es) ≡ []
    → AllByRecursion (λ x. (agent_of_entry x ≢ agent) × crowd (agent_of_entry x)) (e ∷ es) =
    elim [
      | true ↦ λ is h. cc
      | false ↦ λ is h.
          let other : agent_of_entry e ≢ agent = eq-false (agent_of_entry e) agent is in
          ((other, elim all.0 as (λ _. crowd (agent_of_entry e)) [ inl s ↦ absurd (other s) | inr c ↦ c ]), none_own agent crowd es h all.1)
    ] in
    cases (agent_of_entry e == agent) refl own

-- where the agent's first own entry stands
split_own : (agent : ℕ) (crowd : ℕ → Type 0) (y : QueueEntry) (es : List QueueEntry) → own_of agent_of_entry agent es ≡ y ∷ []
    → AllByRecursion (λ e. (agent_of_entry e ≡ agent) ⊎ crowd (agent_of_entry e)) es
    → (front : List QueueEntry) × (back : List QueueEntry) × (es ≡ front ++ y ∷ back)
    × AllByRecursion (λ e. (agent_of_entry e ≢ agent) × crowd (agent_of_entry e)) back
split_own agent crowd y [] own all = cc
split_own agent crowd y (e ∷ es) own all =
    let cases : (b : Bool) → (agent_of_entry e == agent) ≡ b → cond b (e ∷ own_of agent_of_entry agent es) (own_of agent_of_entry agent es) ≡ y ∷ []
    → (front : List QueueEntry) × (back : List QueueEntry) × (e ∷ es ≡ front ++ y ∷ back)
    × AllByRecursion (λ x. (agent_of_entry x ≢ agent) × crowd (agent_of_entry x)) back =
    elim [
      | true ↦ λ is h. ([], es, (let same : e ≡ y = cc in ap (λ z. z ∷ es) same), none_own agent crowd es (cc) all.1)
      | false ↦ λ is h. let r = split_own agent crowd y es h all.1 in (e ∷ r.0, r.1, ap (λ z. e ∷ z) r.2, r.3)
    ] in
    cases (agent_of_entry e == agent) refl own

-- what comes last stays last where the stretch begins earlier
pub ends_later : {A : Type 0} (q : View A QueueEntry QueueRefused) (agent : ℕ) (entry : QueueEntry) (own : List QueueEntry) (i j k : List A)
    → Stretch of_queue q agent own i j → EndsWith q agent entry j k → EndsWith q agent entry i k
ends_later q agent entry own i j k t e = record {
  front = t.part ++ e.front;
  back = e.back;
  is = e.is
      ∙ (ap (λ z. z ++ (e.front ++ entry ∷ e.back)) t.is
      ∙ (append_assoc (q.history i) t.part (e.front ++ entry ∷ e.back) ∙ ap (λ z. q.history i ++ z) (sym (append_assoc t.part e.front (entry ∷ e.back)))));
  others = e.others;
}

-- the agent's last entry after a dequeue
pub dequeue_last : {A : Type 0} (q : View A QueueEntry QueueRefused) (agent now : ℕ) → now ≡ agent → (got : Option (ℕ × ℕ)) (i j k : List A)
    → Stretch of_queue q agent [] i j → Adds agent_of_entry q.crowd now (q.history j) (entry_of_dequeue now got ∷ []) (q.history k)
    → EndsWith q agent (entry_of_dequeue agent got) i k
dequeue_last q agent now same got i j k before a =
    let r = split_own now q.crowd (entry_of_dequeue now got) a.part a.own_is a.others in
    let moved : EndsWith q now (entry_of_dequeue now got) j k = record { front = r.0; back = r.1; is = a.is ∙ ap (λ z. q.history j ++ z) r.2; others = r.3 } in
    ends_later q agent (entry_of_dequeue agent got) [] i j k before (subst (λ (x : ℕ). EndsWith q x (entry_of_dequeue x got) j k) same moved)
