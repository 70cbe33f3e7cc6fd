use Rattle.std.proofs.Common.{◌≡◌, ◌+◌, ◌<◌, ◌++◌, ℕ, suc, List, [], ◌∷◌, arith, ap, refl, ◌∙◌, length, slice_index_or, subst, length-append}
use Rattle.std.proofs.lemmas.List.{get_or_append_left, get_or_push}
use Rattle.orc_team.proofs.Teams.{for_both}
use Rattle.orc_workers.specs.Desks.{AreFresh}
use Rattle.orc_workers.proofs.desks.fresh_desks.Goals as goal

-- what holds of each item at its place holds of those before the last, and of the last
before_last : {X : Type 0} (F : ℕ → X → Type 0) (xs ys : List X) (x : X) → xs ≡ ys ++ x ∷ []
    → ((k : ℕ) (d : X) → k < length xs → F k (slice_index_or xs k d))
    → ((k : ℕ) (d : X) → k < length ys → F k (slice_index_or ys k d)) × F (length ys) x
before_last F xs ys x e h =
    let all = subst (λ (zs : List _). (k : ℕ) (d : _) → k < length zs → F k (slice_index_or zs k d)) e h in
    let long : length (ys ++ x ∷ []) ≡ length ys + 1 = length-append ys (x ∷ []) in (
      λ k d low. subst (F k) (get_or_append_left ys (x ∷ []) d k low) (all k d (omega (arith, low, long))),
      subst (F (length ys)) (get_or_push ys x x (length ys) refl) (all (length ys) x (omega (arith, long))),
    )

-- a list is one longer than what is before its last item
one_longer : {X : Type 0} (xs ys : List X) (x : X) → xs ≡ ys ++ x ∷ [] → length xs ≡ suc (length ys)
one_longer xs ys x e = let long : length (ys ++ x ∷ []) ≡ length ys + 1 = length-append ys (x ∷ []) in ap length e ∙ omega (arith, long)

pub loop-queue_pass-init : goal.loop-queue_pass-init
loop-queue_pass-init g c =
    let none : length c.in_ok-desks.desks.items ≡ 0 = ap length c.in_ok-desks.ensures.items in
    record {
      queue_passes = c.requires.queue_passes;
      queue_fresh = c.requires.queue_fresh;
      queue_agents = c.requires.queue_agents;
      rush_passes = c.requires.rush_passes;
      rush_fresh = c.requires.rush_fresh;
      rush_agents = c.requires.rush_agents;
      set_passes = c.requires.set_passes;
      set_fresh = c.requires.set_fresh;
      set_agents = c.requires.set_agents;
      rush_same = c.requires.same.0;
      same = c.requires.same.1;
      desks = rw c.in_ok-desks.ensures.items tt;
      count = omega (arith, none);
    }

pub loop-queue_pass-preserved : goal.loop-queue_pass-preserved
loop-queue_pass-preserved g c =
    let Q : Type 0 = g.row.Q-Pass.Denot in
    let S : Type 0 = g.row.S-Pass.Denot in
    let q = g.Q.SharedQueue in
    let s = g.S.SharedSet in
    let queue = c.args.queue.now in
    let rush = c.args.rush.now in
    let set = c.args.set.now in
    let h = c.loop-queue_pass.invariant in
    let queues = c.in-Some.ensures.items in
    let rushes = c.in-Some-pop.ensures.items in
    let sets = c.in-Some-pop-2.ensures.items in
    let queue_passes = before_last (λ (k : ℕ) (p : Q). q.usable queue p) _ _ _ queues h.queue_passes in
    let queue_fresh = before_last (λ (k : ℕ) (p : Q). q.history queue (q.journal p) ≡ []) _ _ _ queues h.queue_fresh in
    let queue_agents = before_last (λ (k : ℕ) (p : Q). q.agent_of queue p ≡ k) _ _ _ queues h.queue_agents in
    let rush_passes = before_last (λ (k : ℕ) (p : Q). q.usable rush p) _ _ _ rushes h.rush_passes in
    let rush_fresh = before_last (λ (k : ℕ) (p : Q). q.history rush (q.journal p) ≡ []) _ _ _ rushes h.rush_fresh in
    let rush_agents = before_last (λ (k : ℕ) (p : Q). q.agent_of rush p ≡ k) _ _ _ rushes h.rush_agents in
    let set_passes = before_last (λ (k : ℕ) (p : S). s.usable set p) _ _ _ sets h.set_passes in
    let set_fresh = before_last (λ (k : ℕ) (p : S). s.history set (s.journal p) ≡ []) _ _ _ sets h.set_fresh in
    let set_agents = before_last (λ (k : ℕ) (p : S). s.agent_of set p ≡ k) _ _ _ sets h.set_agents in
    let long : length c.loop-queue_pass.queue_passes.items ≡ suc (length c.pop.new.self.items) = one_longer _ _ _ queues in
    let rush_long : length c.loop-queue_pass.rush_passes.items ≡ suc (length c.pop-in-Some.new.self.items) = one_longer _ _ _ rushes in
    let set_long : length c.loop-queue_pass.set_passes.items ≡ suc (length c.pop-in-Some-2.new.self.items) = one_longer _ _ _ sets in
    let rush_same : length c.pop-in-Some.new.self.items ≡ length c.pop.new.self.items = omega (arith, long, rush_long, h.rush_same) in
    let same : length c.pop-in-Some-2.new.self.items ≡ length c.pop.new.self.items = omega (arith, long, set_long, h.same) in
    let added : length c.insert.new.self.items ≡ suc (length c.loop-queue_pass.desks.items) = ap length c.in_ok-insert.ensures.items in
    record {
      queue_passes = queue_passes.0;
      queue_fresh = queue_fresh.0;
      queue_agents = queue_agents.0;
      rush_passes = rush_passes.0;
      rush_fresh = rush_fresh.0;
      rush_agents = rush_agents.0;
      set_passes = set_passes.0;
      set_fresh = set_fresh.0;
      set_agents = set_agents.0;
      rush_same = rush_same;
      same = same;
      desks = rw c.in_ok-insert.ensures.items (
        record {
          is_desk = record {
            queue_pass = queue_passes.1;
            rush_pass = rush_passes.1;
            set_pass = set_passes.1;
            queue_agent = queue_agents.1;
            rush_agent = rush_agents.1 ∙ rush_same;
            set_agent = set_agents.1 ∙ same;
          };
          queues_new = for_both _ queue_fresh.1 rush_fresh.1;
          set_new = set_fresh.1;
        },
        subst (λ (k : ℕ). AreFresh q s queue rush set k c.loop-queue_pass.desks.items) long h.desks,
      );
      count = omega (arith, added, long, h.count);
    }
