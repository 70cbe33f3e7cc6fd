-- What the call did, and the settling after it.
use Rattle.std.proofs.Common.{Bool, Err, Ok, Result, arith, subst, sym, true, ℕ, ◌*◌, ◌+◌, ◌∙◌, ◌≡◌, ◌≢◌, ◌≤◌}
use Rattle.orc_heap.specs.Moves.{gives_in}
use Rattle.orc_ordered_search.specs.Turns.{made_from}
use Rattle.orc_heap.proofs.Pieces.{goes_on}
use Rattle.orc_heap.proofs.InJournal.{settling_alone}
use Rattle.orc_fault.specs.declared.Spent.{Spent as SpentRow}
use Rattle.orc_history.specs.declared.set.ListRefused.TheVariants.{Again, NoNode, Spent}
use Rattle.orc_history.specs.declared.set.ListRefused.{ListRefused}
use Rattle.orc_history.specs.declared.set.SetEntry.{SetEntry}
use Rattle.orc_history.specs.declared.set.SetEntry.TheVariants.{Added}
use Rattle.orc_ordered_search.proofs.Inserting.{turn_lacks, turn_worn}
use Rattle.orc_ordered_search.proofs.Licences.{insert_licence}
use Rattle.orc_ordered_search.proofs.Settling.{Did, idle_settled, insert_keeps, insert_puts}
use Rattle.orc_ordered_search.specs.Inserts.{InsertAnswers, answer_by}
use Rattle.orc_split_rule.specs.SplitDiscipline.{IsSize, greatest}
use Rattle.orc_split_set.proofs.Absent.{absent_call}
use Rattle.orc_split_set.proofs.Called.{called}
use Rattle.orc_split_set.proofs.Calling.{call_idle, did_after, if_ok, insert_after, roots_call}
use Rattle.orc_split_set.proofs.Crowded.{grows_call}
use Rattle.orc_split_set.proofs.FewEvents.{few_levels, few_most, few_parts, few_still, few_wider, insert_gives}
use Rattle.orc_split_set.proofs.Passes.{seen_on}
use Rattle.orc_split_set.proofs.Telling.{told_lacks, told_next, told_on, told_worn}
use Rattle.orc_split_set.specs.SetCalls.{FindsWorn, LacksRow, PartTells}
use Rattle.orc_split_set.specs.SplitSearches.{split_reading}
use Rattle.orc_split_set.specs.declared.bucket.Rooted.{Rooted}
use Rattle.orc_split_set.specs.declared.bucket.Rooted.TheVariants.{NoNode as RootedNoNode, Spent as RootedSpent}
use Rattle.orc_split_set.proofs.set.SplitSetSharedSet.insert.Goals as goal

pub prepare-rooted-requires : goal.prepare-rooted-requires
prepare-rooted-requires g c =
    let rooted = c.args.self.now.rooted in
    record { pass = c.requires.usable.0; most = (omega (arith, rooted.1), rooted.0); idle = c.requires.usable.1 }

pub insert_key-turn-requires : goal.insert_key-turn-requires
insert_key-turn-requires g c =
    let rooted = c.args.self.now.rooted in
    let before = c.prepare-rooted.ensures in
    record { pass = before.pass; most = (omega (arith, rooted.1), rooted.0); idle = call_idle before.prepared.call c.requires.usable.1 }

pub grow_after-grown-requires : goal.grow_after-grown-requires
grow_after-grown-requires g c =
    let rooted = c.args.self.now.rooted in
    let t0 = g.L.Links.seat c.args.self.now.links c.prepare-rooted.new.p in
    let done = c.insert_key-turn.ensures in
    record {
      pass = done.pass;
      most = (omega (arith, rooted.1), rooted.0);
      idle = (insert_keeps (split_reading _) (λ answer. Added t0.agent c.args.key answer) c.args.turns t0 _ (answer_by c.insert_key-turn.result)
          done.inserted (call_idle c.prepare-rooted.ensures.prepared.call c.requires.usable.1)).0;
    }

pub returns : goal.returns
returns g c =
    let d = c.args.self.now.links in
    let p = c.args.p.now in
    let p0 = c.prepare-rooted.new.p in
    let p1 = c.insert_key-turn.new.p in
    let p2 = c.grow_after-grown.new.p in
    let q = c.settle.new.p in
    let n = g.L.Links.numbers d in
    let s = g.L.Links.seat d p in
    let t0 = g.L.Links.seat d p0 in
    let t = g.L.Links.seat d p1 in
    let u = g.L.Links.seat d q in
    let turn = c.insert_key-turn.result in
    let answer = c.answer_of.result in
    let is_answer : answer ≡ answer_by turn = c.answer_of.ensures in
    let turns = c.args.turns in
    let done = c.insert_key-turn.ensures in
    let settle = c.settle.ensures in
    let entry : Bool → SetEntry = λ answer. Added s.agent c.args.key answer in
    let before = c.prepare-rooted.ensures in
    let first = before.prepared.call in
    let same = first.made.puts.agent in
    let inserted = subst (λ (x : ℕ). InsertAnswers (split_reading n) (λ answer. Added x c.args.key answer) turns t0 (answer_by turn) t) same done.inserted in
    let grown = c.grow_after-grown.ensures in
    let inner = insert_after n entry turns turn c.grow_after-grown.result t0 t _ u inserted grown.grown settle.nothing in
    let did = subst (λ (x : Result Bool ListRefused). Did (split_reading n) (x ≡ Err Again) 3 turns entry s x u) (sym is_answer)
    (did_after _ before.prepared.own turns before.prepared.none s t0 first 2 3 entry u (answer_by turn) (omega arith) inner) in
    let keeps = insert_keeps _ entry turns t0 t (answer_by turn) inserted (call_idle first c.requires.usable.1) in
    let put = insert_puts (split_reading n) entry turns t0 t (answer_by turn) inserted in
    let since = goes_on _ _ _ before.later done.later in
    let since_grown = goes_on _ _ _ since grown.later in
    let rest = goes_on _ _ _ grown.later settle.later in
    let rest_done = goes_on _ _ _ done.later rest in
    let grows = goes_on _ _ _ since rest in
    let call = called g.L.Links g.met.L.Links.steps_add g.met.L.Links.seen_is g.met.L.Links.allowed g.met.L.Links.agents_below d p q c.requires.usable.0
    settle.pass grows 3 turns entry answer did in
    let rooted_told = told_on g.L.Links g.met.L.Links.lacking_stays g.met.L.Links.worn_stays d p p0 q before.later rest_done
    c.prepare-rooted.result before.told in
    let told : (x : Rooted) → PartTells g.L.Links d x p0 p1 → PartTells g.L.Links d x p q = λ x h. told_on
    g.L.Links g.met.L.Links.lacking_stays g.met.L.Links.worn_stays d p p1 q since rest x
    (told_next g.L.Links d p p0 p1 same before.later done.later x h) in
    let grown_told = told_on g.L.Links g.met.L.Links.lacking_stays g.met.L.Links.worn_stays d p p2 q since_grown settle.later
    c.grow_after-grown.result (told_next g.L.Links d p p1 p2 (keeps.1 ∙ same) since grown.later c.grow_after-grown.result grown.told) in
    let lacks : answer ≡ Err NoNode → LacksRow g.L.Links d p q = λ is. told RootedNoNode (done.lacking (turn_lacks turn (sym is_answer ∙ is))) in
    let worn : (why : SpentRow) → answer ≡ Err (Spent why) → FindsWorn g.L.Links d why p q = λ why is.
    told (RootedSpent why) (done.worn why (turn_worn turn why (sym is_answer ∙ is))) in
    let some : (value : Bool) → answer ≡ Ok value → turns ≢ 0 = λ value is zero. (let again = (did.no_turns zero).0 in cc) in
    let is_s = g.met.L.Links.seen_is _ _ c.requires.usable.0 in
    let is_u = g.met.L.Links.seen_is _ _ settle.pass in
    let all = g.met.L.Links.allowed _ _ settle.pass in
    let by = g.L.Links.agent_of in
    let events = g.L.Links.events d in
    let adds = g.met.L.Links.steps_add d in
    let roots : (1 ≤ c.args.self.now.greatest) × (n.roots ≡ c.args.self.now.greatest + 1) = c.args.self.now.rooted in
    let most : c.args.self.now.greatest ≡ greatest n = omega (arith, roots.1) in
    let grew_u = seen_on g.L.Links g.met.L.Links.steps_add g.met.L.Links.seen_is d p0 q before.pass settle.pass rest_done in
    record {
      grows = λ is alone many low. grows_call n by events adds c.args.key turns s t0 t _ u call.own _ _ turn c.grow_after-grown.result
          c.prepare-rooted.result before.prepared
          (some true is) entry inserted done.counted grown.grown settle.nothing (sym is_answer ∙ is) call.puts grows is_s is_u grew_u
          (subst (λ (x : ℕ). ∥ IsSize 256 x ∥₁) most c.args.self.now.sized) (subst (λ (x : ℕ). 1 ≤ x) most roots.0)
          (g.met.L.Links.allowed _ _ before.pass) (g.met.L.Links.allowed _ _ done.pass) all
          (LacksRow g.L.Links d p q) (λ why. FindsWorn g.L.Links d why p q) (told_lacks g.L.Links d p q c.prepare-rooted.result rooted_told)
          (told_worn g.L.Links d p q c.prepare-rooted.result rooted_told) (told_lacks g.L.Links d p q c.grow_after-grown.result grown_told)
          (told_worn g.L.Links d p q c.grow_after-grown.result grown_told) alone many low;
      rooted = if_ok answer _ (λ value is. roots_call g.L.Links g.met.L.Links.steps_add g.met.L.Links.seen_is d c.args.key turns p p0 q inner.own
          c.requires.usable.0 settle.pass grows c.prepare-rooted.result before.prepared (some value is) inner.made.puts
          (g.met.L.Links.obeys _ _ before.pass) all rooted_told);
      usable = (settle.pass, idle_settled _ u (call_idle grown.grown.doubles.call keeps.0) settle.nothing);
      agent = call.puts.agent;
      later = grows;
      added = call.entered;
      none = call.none;
      licence = insert_licence by events s.agent turns _ (g.L.Links.journal q) grows (g.L.Links.lacking d s.agent (g.L.Links.journal q))
          (λ spent. g.L.Links.worn d s.agent spent (g.L.Links.journal q)) answer (λ zero. (did.no_turns zero).0) call.again lacks worn;
      no_turns = λ zero. (did.no_turns zero).0;
      no_event = call.no_event;
      tries =
          let on = seen_on g.L.Links g.met.L.Links.steps_add g.met.L.Links.seen_is d in
          let fits = few_levels _ c.args.self.now.sized in
          let one = on p p0 c.requires.usable.0 before.pass before.later in
          let two = on p0 p1 before.pass done.pass done.later in
          let three = on p1 p2 done.pass grown.pass grown.later in
          let gives = insert_gives (split_reading n) (λ answer. Added t0.agent c.args.key answer) turns t0 t (answer_by turn) done.inserted in
          let v = g.L.Links.seat d p2 in
          let turned = few_wider 22 turns turns (3 * gives_in (made_from t0 t)) 3 t0 t (omega arith) (omega (arith, gives)) (done.tries 8 fits) in
          let first_two = few_parts 22 1 turns 6 3 s t0 t one two (before.tries 8 fits) turned in
          let last = few_most 22 0 6 t v grown.grown.doubles.call.made.puts.agent three grown.tries in
          let whole = few_parts 22 (1 + turns) 0 9 6 s t v (goes_on _ _ _ one two) three first_two last in
          (few_wider 22 (1 + turns + 0) (turns + 1) 15 15 s u (omega arith) (omega arith) (few_still 22 (1 + turns + 0) 15 s v u
          (goes_on _ _ _ (goes_on _ _ _ one two) three) settle.nothing.puts whole)).1;
      again = call.again;
      no_node = lacks;
      absent = λ is. let no_node = turn_lacks turn (sym is_answer ∙ is) in
          absent_call n c.args.key turn c.grow_after-grown.result s t0 t _ u before.prepared.own put.0 first.made.puts put.1 grown.grown settle.nothing all
          no_node (done.absent no_node);
      spent = worn;
      gives = call.gives;
      settled = λ alone. settle.settled (settling_alone g.L.Links d p p2 q since_grown settle.later
          (grown.grown.doubles.call.made.puts.agent ∙ (keeps.1 ∙ same)) alone);
    }
