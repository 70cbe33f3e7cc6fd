-- A call whose part begins with its own first step: what others did before counts for nothing.
use Rattle.std.proofs.Common.{List, [], ap, arith, inl, inr, refl, subst, sym, true, ℕ, ◌*◌, ◌++◌, ◌+◌, ◌-◌, ◌<◌, ◌∙◌, ◌∷◌, ◌≡◌, ◌≤◌}
use Rattle.orc_core.proofs.Steps.{run-append}
use Rattle.orc_core.specs.Machine.{Machine, is_allowed, record_at, step, word_in}
use Rattle.orc_core.specs.Runs.{IsLawful, run}
use Rattle.orc_core.specs.declared.ops.Op.{Op}
use Rattle.orc_core.specs.declared.records.Agent.{Agent}
use Rattle.orc_rest.proofs.Calls.{went_less}
use Rattle.orc_rest.proofs.Parts.{HasOwn, settles_at, split_first, split_last}
use Rattle.orc_rest.proofs.Rounds.{reached_work}
use Rattle.orc_rest.proofs.Stages.{allowed_last, made_went, others_keep, went_join, went_none}
use Rattle.orc_rest.proofs.Turns.{all_left, all_right, lawful_join, lawful_left, reached_falls, reached_hands, reached_on, reached_others, still_no_slots}
use Rattle.orc_rest.specs.Records.{IsBetweenRounds, IsDone}
use Rattle.orc_rest.specs.Rounds.{IsNoHand, OpenedTurn, Rounds, Settled, Went}
use Rattle.orc_rest.specs.Turns.{AllOf, IsReachedState, MadeAfterOthers, NoSlotsBut, NoneHanded, NoneOf, StaysZero}
use Rattle.orc_rest.specs.Work.{IsSettlingStep, drop_of, work_left}
use Rattle.orc_sound.proofs.AllFits.{run_bounds}
use Rattle.orc_words.specs.Bounds.{Bounds}
use Rattle.orc_words.specs.declared.place.Word.TheVariants.{Handover}

-- one step opens a turn
abbrev pub opened_step : (a : ℕ) (op : Op) (m n : Machine) → IsNoHand op → is_allowed m a op ≡ true → IsSettlingStep (word_in m) op (record_at m a)
    → MadeAfterOthers a op m n
    → IsReachedState n → OpenedTurn a (drop_of op (record_at m a)) m n
opened_step a op m n k h s w r = record {
  op = op;
  rest = 0;
  first = n;
  kind = k;
  allowed = h;
  settles = s;
  made = w;
  went = went_none a n r;
  enough = omega arith;
}

-- and more follow
abbrev pub opened_more : (a x y : ℕ) (m n o : Machine) → OpenedTurn a x m n → Went a y n o → OpenedTurn a (x + y) m o
opened_more a x y m n o p w = record {
  op = p.op;
  rest = p.rest + y;
  first = p.first;
  kind = p.kind;
  allowed = p.allowed;
  settles = p.settles;
  made = p.made;
  went = went_join a p.rest y p.first n o p.went w;
  enough = let e = p.enough in omega arith;
}

abbrev pub opened_less : (a x y : ℕ) (m n : Machine) → y ≤ x → OpenedTurn a x m n → OpenedTurn a y m n
opened_less a x y m n h p = record {
  op = p.op;
  rest = p.rest;
  first = p.first;
  kind = p.kind;
  allowed = p.allowed;
  settles = p.settles;
  made = p.made;
  went = p.went;
  enough = let e = p.enough in omega arith;
}

-- it is a turn as a whole
abbrev pub opened_went : (a x : ℕ) (m n : Machine) → IsReachedState m → OpenedTurn a x m n → Went a x m n
opened_went a x m n r p =
    went_less a (drop_of p.op (record_at m a) + p.rest) x m n p.enough
    (went_join a (drop_of p.op (record_at m a)) p.rest m p.first n (made_went m p.first a p.op r p.allowed p.settles p.made) p.went)

-- the state in which the agent's own first step is made, and what holds there
pub record Begun (a : ℕ) (op : Op) (m f : Machine) (o : List (ℕ × Op)) : Type 0 where
  pub reached : IsReachedState (run m o)
  pub allowed : is_allowed (run m o) a op ≡ true
  pub settles : IsSettlingStep (word_in (run m o)) op (record_at (run m o) a)
  pub record_is : record_at (run m o) a ≡ record_at m a
  pub is : f ≡ step (run m o) a op

pub begun : (m f : Machine) (a : ℕ) (op : Op) → IsReachedState m → IsNoHand op → IsSettlingStep (word_in m) op (record_at m a) → (k : MadeAfterOthers a op m f)
    → Begun a op m f k.others
begun m f a op r nh s k =
    let kept = others_keep m a k.others k.apart in
    record {
      reached = reached_on m (run m k.others) k.others r (lawful_left m k.others ((a, op) ∷ []) k.lawful) refl;
      allowed = allowed_last m k.others a op k.lawful;
      settles = settles_at (word_in m) (word_in (run m k.others)) op (record_at (run m k.others) a) nh
          (subst (λ d. IsSettlingStep (word_in m) op d) (sym kept) s);
      record_is = kept;
      is = k.is ∙ run-append m k.others ((a, op) ∷ []);
    }

pub own_last : (a : ℕ) (xs : List (ℕ × Op)) (s : ℕ × Op) → s.0 ≡ a → HasOwn a (xs ++ s ∷ [])
own_last a [] s h = inl h
own_last a (x ∷ xs) s h = inr (own_last a xs s h)

-- how the steps fall into what others did before, and the rest
pub record Falls (a : ℕ) (op : Op) (m f : Machine) (us o : List (ℕ × Op)) : Type 0 where
  pub begun : Begun a op m f o
  pub mine : AllOf a us

pub falls_apart : (m f : Machine) (a : ℕ) (op : Op) (us o p : List (ℕ × Op)) → IsReachedState m → IsNoHand op
    → IsSettlingStep (word_in m) op (record_at m a) → (k : MadeAfterOthers a op m f) → (k.others ++ (a, op) ∷ []) ++ us ≡ o ++ p → NoneOf a o → AllOf a p
    → Falls a op m f us o
falls_apart m f a op us o p r nh s k e none all =
    let q = split_first a (k.others ++ (a, op) ∷ []) us o p e none (own_last a k.others (a, op) refl) in
    let mine : AllOf a (q.0 ++ us) = subst (AllOf a) q.2 all in
    let same = split_last a k.others o q.0 (a, op) refl q.1 k.apart none (all_left a q.0 us mine) in
    record { begun = subst (Begun a op m f) (sym same) (begun m f a op r nh s k); mine = all_right a q.0 us mine }

abbrev pub settled_first : (m n o : Machine) (a left : ℕ) → IsReachedState m → a < m.bounds.agents → IsBetweenRounds (record_at m a)
    → left ≡ 4 * (m.bounds.rows + 8 * m.bounds.agents) - 1 → 1 ≤ 4 * (m.bounds.rows + 8 * m.bounds.agents) → OpenedTurn a 1 m n → Rounds a left n o → Settled a m o
settled_first m n o a left r h d e big w g =
    let us = w.went.turn.steps ++ g.steps in
    let ts = w.made.others ++ (a, w.op) ∷ [] in record {
      steps = ts ++ us;
      lawful = lawful_join m ts us w.made.lawful (subst (λ x. IsLawful x us) w.made.is
          (lawful_join w.first w.went.turn.steps g.steps w.went.turn.lawful (subst (λ x. IsLawful x g.steps) w.went.turn.is g.lawful)));
      is = g.is ∙ (ap (λ x. run x g.steps) w.went.turn.is ∙ (sym (run-append w.first w.went.turn.steps g.steps)
          ∙ (ap (λ x. run x us) w.made.is ∙ sym (run-append m ts us))));
      done = λ x p is none all.
          let k = falls_apart m w.first a w.op us x p r w.kind w.settles w.made is none all in
          let b = run_bounds m x in
          let record_is = k.begun.record_is in
          let bound = reached_work (run m x) a k.begun.reached (subst (λ (c : Bounds). a < c.agents) (sym b) h)
          (ap (λ (y : Agent). y.dec) record_is ∙ d.still.dec) (ap (λ (y : Agent). y.due) record_is ∙ d.still.due) in
          let first = reached_falls (run m x) a w.op k.begun.reached k.begun.allowed k.begun.settles in
          let same_drop = ap (λ (y : Agent). drop_of w.op y) record_is in
          let work = ap (λ y. work_left y a) k.begun.is in
          let rest = w.went.turn.falls (all_left a w.went.turn.steps g.steps k.mine) in
          let enough = w.enough in
          let rows = ap (λ (c : Bounds). c.rows) b in
          let agents = ap (λ (c : Bounds). c.agents) b in
          g.done (all_right a w.went.turn.steps g.steps k.mine) (omega arith);
      hands = λ x p is none all z.
          let k = falls_apart m w.first a w.op us x p r w.kind w.settles w.made is none all in
          let first : NoneHanded a w.first = subst (NoneHanded a) (sym k.begun.is)
          (λ i l. reached_hands (run m x) a w.op i l k.begun.reached k.begun.allowed k.begun.settles (z i l)) in
          g.hands (all_right a w.went.turn.steps g.steps k.mine) (w.went.turn.hands (all_left a w.went.turn.steps g.steps k.mine) first);
      others = λ x p is none all z y i ly li ne zero.
          let k = falls_apart m w.first a w.op us x p r w.kind w.settles w.made is none all in
          let first : word_in w.first (Handover y i) ≡ 0 = subst (λ v. word_in v (Handover y i) ≡ 0) (sym k.begun.is)
          (reached_others (run m x) a w.op y i ly li ne k.begun.reached k.begun.allowed k.begun.settles z zero) in
          let slots = still_no_slots (run m x) w.first a ((a, w.op) ∷ []) (refl, tt) k.begun.is z in
          let c : w.first.bounds ≡ (run m x).bounds = ap (λ (v : Machine). v.bounds) k.begun.is in
          let lf = subst (λ (b : Bounds). y < b.agents) (sym c) ly in
          let second = w.went.turn.others (all_left a w.went.turn.steps g.steps k.mine) slots y i lf li ne first in
          let more = still_no_slots w.first n a w.went.turn.steps (all_left a w.went.turn.steps g.steps k.mine) w.went.turn.is slots in
          g.others (all_right a w.went.turn.steps g.steps k.mine) more y i (subst (λ (b : Bounds). y < b.agents) (sym w.went.bounds) lf) li ne second;
    }

abbrev pub settled_none : (a : ℕ) (m : Machine) → IsDone (record_at m a) → Settled a m m
settled_none a m d = record {
  steps = [];
  lawful = tt;
  is = refl;
  done = λ o p e none all. d;
  hands = λ o p e none all. subst (λ x. NoneHanded a (run m x) → NoneHanded a m) (nothing o p e) (λ z. z);
  others = λ o p e none all. subst (λ x. NoSlotsBut a (run m x) → StaysZero a (run m x) m) (nothing o p e) (λ s x k lx lk ne z. z);
}
  where
    nothing : (o p : List (ℕ × Op)) → [] ≡ o ++ p → [] ≡ o
    nothing [] p e = refl
    nothing (x ∷ o) p e = cc
