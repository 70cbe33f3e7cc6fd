-- The steps of a journal and their events: where a call's part begins, and whose events stand in it.
use Rattle.std.proofs.Common.{Bool, List, [], ap, append-nil, append_assoc, arith, cond, drop, false, length, refl, subst, suc, sym, take, true, ℕ, ◌++◌, ◌+◌, ◌==◌, ◌∙◌, ◌∷◌, ◌≡◌, ◌≤◌}
use Rattle.std.proofs.Math.Bool.{and-eq-true_iff}
use Rattle.std.proofs.lemmas.Bool.{eqb-true}
use Rattle.std.proofs.lemmas.List.{append_cancel_left, length-append}
use Rattle.std.proofs.lemmas.List.Elements.{filter-append}
use Rattle.std.proofs.lemmas.List.Folds.{list_all-append}
use Rattle.std.proofs.Math.Seq.{drop-append_seam, take-append_seam}
use Rattle.std.specs.List.{list_all}
use mathlib.Core.List.{IsPrefix}
use Rattle.orc_heap.proofs.OwnParts.{own_join}
use Rattle.orc_heap.specs.Allowed.{events_by}
use Rattle.orc_heap.specs.Moves.{AllOwn}
use Rattle.orc_history.specs.Journals.{Within, own_of}
use Rattle.orc_history.specs.Parts.{InPart, IsAlone, first_step, part_begin, part_of}
use Rattle.orc_heap.specs.declared.events.Event.{Event}

-- the steps from the agent's first one on
from_first : {S : Type 0} → (S → ℕ) → ℕ → List S → List S
from_first agent_of agent [] = []
from_first agent_of agent (s ∷ ss) = cond (agent_of s == agent) (s ∷ ss) (from_first agent_of agent ss)

-- steps up to there
record Opens {S : Type 0} (agent_of : S → ℕ) (agent place : ℕ) (ss : List S) : Type 0 where
  before : List S
  is : ss ≡ before ++ from_first agent_of agent ss
  begin_is : first_step agent_of agent place ss ≡ place + length before
  others : own_of agent_of agent before ≡ []

opens_own : {S : Type 0} (agent_of : S → ℕ) (agent place : ℕ) (ss : List S) → Opens agent_of agent place ss
unfolding from_first
opens_own agent_of agent place [] = record { before = []; is = refl; begin_is = omega arith; others = refl }
opens_own {S} agent_of agent place (s ∷ ss) = cases (agent_of s == agent) refl (opens_own agent_of agent (suc place) ss)
  where
    cases : (b : Bool) → (agent_of s == agent) ≡ b → Opens agent_of agent (suc place) ss → Opens agent_of agent place (s ∷ ss)
    cases true is k = record { before = []; is = rw is refl; begin_is = rw is (omega arith); others = refl }
    cases false is k = record {
      before = s ∷ k.before;
      is = rw is (ap (λ z. s ∷ z) k.is);
      begin_is = rw is (omega (arith, k.begin_is));
      others =
          rw is k.others;
    }

-- a journal that went on, cut where the call's part begins
pub record Cut {S : Type 0} (agent_of : S → ℕ) (agent : ℕ) (before after : List S) : Type 0 where
  pub gap : List S
  pub part : List S
  pub is : after ≡ (before ++ gap) ++ part
  pub begin_is : part_begin agent_of agent before after ≡ length (before ++ gap)
  pub part_is : part_of agent_of agent before after ≡ part
  pub others : own_of agent_of agent gap ≡ []

record CutAt {S : Type 0} (agent_of : S → ℕ) (agent : ℕ) (before after more : List S) : Type 0 where
  cut : Cut agent_of agent before after
  part_is : cut.part ≡ from_first agent_of agent more

cut_more : {S : Type 0} (agent_of : S → ℕ) (agent : ℕ) (before after more : List S) → before ++ more ≡ after → CutAt agent_of agent before after more
cut_more agent_of agent before after more is =
    let new : drop (length before) after ≡ more = ap (λ z. drop (length before) z) (sym is) ∙ drop-append_seam before more in
    let o = opens_own agent_of agent (length before) more in
    let rest = from_first agent_of agent more in
    let split : after ≡ (before ++ o.before) ++ rest = sym is ∙ (ap (λ z. before ++ z) o.is ∙ sym (append_assoc before o.before rest)) in
    let begin_is : part_begin agent_of agent before after ≡ length (before ++ o.before) =
    ap (λ z. first_step agent_of agent (length before) z) new ∙ (o.begin_is ∙ sym (length-append before o.before)) in
    record {
      cut = record {
        gap = o.before;
        part = rest;
        is = split;
        begin_is = begin_is;
        part_is = rw begin_is (ap (λ z. drop (length (before ++ o.before)) z) split ∙ drop-append_seam (before ++ o.before) rest);
        others = o.others;
      };
      part_is = refl;
    }

pub cut_at_part : {S : Type 0} (agent_of : S → ℕ) (agent : ℕ) (before after : List S) → IsPrefix before after → Cut agent_of agent before after
cut_at_part agent_of agent before after (more, is) = (cut_more agent_of agent before after more is).cut

-- the part begins and ends within what is new
pub part_bounds : {S : Type 0} (agent_of : S → ℕ) (agent : ℕ) (before after : List S) → IsPrefix before after
    → (length before ≤ part_begin agent_of agent before after) × (part_begin agent_of agent before after ≤ length after)
part_bounds agent_of agent before after grows =
    let c = cut_at_part agent_of agent before after grows in
    let after_is = ap length c.is in
    (omega (arith, c.begin_is, length-append before c.gap), omega (arith, c.begin_is, after_is, length-append (before ++ c.gap) c.part))

-- so a fact of its places, at some time of a call, is one of two places within what is new
pub part_within : {S : Type 0} (agent_of : S → ℕ) (agent : ℕ) (before seen after : List S) (Fact : ℕ → ℕ → Type 0) → IsPrefix before seen → IsPrefix seen after
    → InPart agent_of agent before seen Fact → Within (length before) (length after) Fact
part_within agent_of agent before seen after Fact grows (more, is) fact =
    let bounds = part_bounds agent_of agent before seen grows in
    (part_begin agent_of agent before seen, length seen, bounds.0, bounds.1, omega (arith, length-append seen more, ap length is), fact)

alone_rest : {S : Type 0} (agent_of : S → ℕ) (agent : ℕ) (ss more : List S)
    → list_all (λ s. agent_of s == agent) (from_first agent_of agent (ss ++ more)) ≡ true
    → list_all (λ s. agent_of s == agent) (from_first agent_of agent more) ≡ true
unfolding from_first
alone_rest agent_of agent [] more all = all
alone_rest {S} agent_of agent (s ∷ ss) more all = cases (agent_of s == agent) all (λ h. alone_rest agent_of agent ss more h)
  where
    test : S → Bool
    test x = agent_of x == agent

    suffix : (xs : List S) → list_all test xs ≡ true → list_all test (from_first agent_of agent xs) ≡ true
    suffix [] h = h
    suffix (x ∷ xs) h = rw ((and-eq-true_iff (test x) (list_all test xs)).0 h).0 h

    cases : (b : Bool) → list_all test (cond b (s ∷ (ss ++ more)) (from_first agent_of agent (ss ++ more))) ≡ true
        → (list_all test (from_first agent_of agent (ss ++ more)) ≡ true → list_all test (from_first agent_of agent more) ≡ true)
        → list_all test (from_first agent_of agent more) ≡ true
    cases true h rest = suffix more (((and-eq-true_iff (list_all test (s ∷ ss)) (list_all test more)).0 (sym (list_all-append test (s ∷ ss) more) ∙ h)).1)
    cases false h rest = rest h

-- a call that was alone was so in each later piece of it
pub alone_later : {S : Type 0} (agent_of : S → ℕ) (agent : ℕ) (before mid after : List S) → IsPrefix before mid → IsPrefix mid after
    → IsAlone agent_of agent before after → IsAlone agent_of agent mid after
alone_later {S} agent_of agent before mid after (first, one) (more, two) alone =
    let c = cut_more agent_of agent before after (first ++ more) (sym (append_assoc before first more) ∙ (ap (λ z. z ++ more) one ∙ two)) in
    let k = cut_more agent_of agent mid after more two in
    let all : list_all (λ s. agent_of s == agent) (from_first agent_of agent (first ++ more)) ≡ true =
    subst (λ (ss : List S). list_all (λ (s : S). agent_of s == agent) ss ≡ true) (c.cut.part_is ∙ c.part_is) alone in
    subst (λ (ss : List S). list_all (λ (s : S). agent_of s == agent) ss ≡ true) (sym (k.cut.part_is ∙ k.part_is)) (alone_rest agent_of agent first more all)

module _ {N S : Type 0} (agent_of : S → ℕ) (events : List S → List (Event N))
    (adds : (j : List S) (s : S) → (es : List (Event N)) × (events (j ++ s ∷ []) ≡ events j ++ es) × (list_all (λ e. e.agent == agent_of s) es ≡ true))
  where
    -- the events of a longer journal go on
    pub events_grow : (j more : List S) → IsPrefix (events j) (events (j ++ more))
    events_grow j [] = ([], append-nil (events j) ∙ ap events (sym (append-nil j)))
    events_grow j (s ∷ more) =
        let (es, one, whose) = adds j s in
        let (fs, rest) = events_grow (j ++ s ∷ []) more in
        (es ++ fs, sym (append_assoc (events j) es fs) ∙ (ap (λ z. z ++ fs) (sym one) ∙ (rest ∙ ap events (append_assoc j (s ∷ []) more))))

    one_own : (agent : ℕ) (s : S) (es : List (Event N)) → list_all (λ e. e.agent == agent_of s) es ≡ true → (agent_of s == agent) ≡ true → AllOwn agent es
    one_own agent s es whose own = let same : agent_of s ≡ agent = eqb-true (agent_of s) agent own in
        subst (λ (a : ℕ). list_all (λ (e : Event N). e.agent == a) es ≡ true) same whose

    one_other : (agent : ℕ) (s : S) (es : List (Event N)) → list_all (λ e. e.agent == agent_of s) es ≡ true → (agent_of s == agent) ≡ false
        → events_by agent es ≡ []
    one_other agent s [] whose other = refl
    one_other agent s (e ∷ es) whose other =
        let k = (and-eq-true_iff (e.agent == agent_of s) (list_all (λ (x : Event N). x.agent == agent_of s) es)).0 whose in
        let here : (e.agent == agent) ≡ false = ap (λ a. a == agent) (eqb-true e.agent (agent_of s) k.0) ∙ other in
        rw here (one_other agent s es k.1 other)

    -- the events of these further steps, and whose they are
    pub record Adds (agent : ℕ) (j ss : List S) : Type 0 where
      pub new : List (Event N)
      pub is : events (j ++ ss) ≡ events j ++ new
      pub none : own_of agent_of agent ss ≡ [] → events_by agent new ≡ []
      pub own : list_all (λ s. agent_of s == agent) ss ≡ true → AllOwn agent new

    pub steps_add : (agent : ℕ) (j ss : List S) → Adds agent j ss
    steps_add agent j [] = record { new = []; is = ap events (append-nil j) ∙ sym (append-nil (events j)); none = λ h. refl; own = λ h. refl }
    steps_add agent j (s ∷ ss) =
        let (es, one, whose) = adds j s in
        let k = steps_add agent (j ++ s ∷ []) ss in
        record {
          new = es ++ k.new;
          is = ap events (sym (append_assoc j (s ∷ []) ss)) ∙ (k.is ∙ (ap (λ z. z ++ k.new) one ∙ append_assoc (events j) es k.new));
          none = λ h. cases_none (agent_of s == agent) refl es whose k h;
          own = λ h.
              let b = (and-eq-true_iff (agent_of s == agent) (list_all (λ (x : S). agent_of x == agent) ss)).0 h in
              own_join agent es k.new (one_own agent s es whose b.0) (k.own b.1);
        }
      where
        cases_none : (b : Bool) → (agent_of s == agent) ≡ b → (es : List (Event N)) → list_all (λ e. e.agent == agent_of s) es ≡ true
            → (k : Adds agent (j ++ s ∷ []) ss)
            → cond b (s ∷ own_of agent_of agent ss) (own_of agent_of agent ss) ≡ [] → events_by agent (es ++ k.new) ≡ []
        cases_none true is es whose k h = cc
        cases_none false is es whose k h =
            filter-append (λ (e : Event N). e.agent == agent) es k.new ∙ (ap (λ z. z ++ events_by agent k.new) (one_other agent s es whose is) ∙ k.none h)

    -- what a call's part says of the events that its pass has newly seen: those before the part are others', and those in it are
    -- the agent's alone where it is alone
    pub record PartEvents (agent : ℕ) (before after : List S) (new : List (Event N)) : Type 0 where
      pub gap : List (Event N)
      pub part : List (Event N)
      pub is : new ≡ gap ++ part
      pub begin_events : events (take (part_begin agent_of agent before after) after) ≡ events before ++ gap
      pub others : events_by agent gap ≡ []
      pub alone : IsAlone agent_of agent before after → AllOwn agent part

    pub part_events : (agent : ℕ) (before after : List S) (new : List (Event N)) → IsPrefix before after → events after ≡ events before ++ new
        → PartEvents agent before after new
    part_events agent before after new grows new_is =
        let c = cut_at_part agent_of agent before after grows in
        let a = steps_add agent before c.gap in
        let b = steps_add agent (before ++ c.gap) c.part in
        let all : events before ++ new ≡ events before ++ (a.new ++ b.new) =
        sym new_is ∙ (ap events c.is ∙ (b.is ∙ (ap (λ z. z ++ b.new) a.is ∙ append_assoc (events before) a.new b.new))) in
        record {
          gap = a.new;
          part = b.new;
          is = append_cancel_left (events before) new (a.new ++ b.new) all;
          begin_events = ap events (rw c.begin_is (ap (λ z. take (length (before ++ c.gap)) z) c.is ∙ take-append_seam (before ++ c.gap) c.part)) ∙ a.is;
          others = a.none c.others;
          alone = λ h. b.own (subst (λ (ss : List S). list_all (λ (s : S). agent_of s == agent) ss ≡ true) c.part_is h);
        }
