-- Each node lies in one row, from its taking on.
use Rattle.std.proofs.Common.{Bool, List, [], ap, append_assoc, arith, false, length, length-append, refl, subst, sym, true, ℕ, ◌++◌, ◌+◌, ◌<◌, ◌∙◌, ◌∷◌, ◌≡◌}
use Rattle.std.proofs.lemmas.Bool.{eqb-true, false≢true}
use Rattle.std.specs.Option.{option_map}
use Rattle.std.specs.Prelude.{None, Option, Some, if◌then◌else◌, slice_get, ◌==◌}
use Rattle.orc_core.proofs.Within.{and_both, may_within}
use Rattle.orc_core.specs.Actions.{action_of}
use Rattle.orc_core.specs.Machine.{Machine, is_allowed, new_machine, record_at, step, word_in, word_read}
use Rattle.orc_core.specs.Runs.{run}
use Rattle.orc_core.specs.declared.ops.Op.{Op}
use Rattle.orc_core.specs.declared.ops.Op.TheVariants.{GateTake}
use Rattle.orc_heap.proofs.Changes.{get-added, get-grown}
use Rattle.orc_projection.proofs.Links.{named_row}
use Rattle.orc_projection.proofs.Still.{out_before}
use Rattle.orc_projection.specs.PresentIds.{PresentIds, no_ids, with_taken}
use Rattle.orc_projection.specs.Projection.{ids_after, ids_from, is_taken, present_ids}
use Rattle.orc_projection.specs.Taken.{LinksOut, rows_taken, rows_taken_from, taken_by}
use Rattle.orc_sound.proofs.AllFits.{AllFits, all_first, all_step, allowed_step, run_bounds}
use Rattle.orc_sound.proofs.NewState.{zero_first}
use Rattle.orc_sound.proofs.Bridge.{world_step}
use Rattle.orc_sound.proofs.Facts.{LawfulStep, out}
use Rattle.orc_sound.proofs.ForRuns.{run_sound}
use Rattle.orc_sound.proofs.Full.{Full, full_first, full_step}
use Rattle.orc_sound.proofs.Journals.{IsLawfulJournal-append, plain_lawful}
use Rattle.orc_sound.proofs.Shown.{out_hidden, word_shown}
use Rattle.orc_sound.proofs.Sources.{one-true}
use Rattle.orc_sound.proofs.World.{World, read_by, step_world, world_of}
use Rattle.orc_sound.specs.Journals.{IsLawfulJournal, plain}
use Rattle.orc_sound.specs.Linked.{IsOut}
use Rattle.orc_sound.specs.declared.steps.Step.{Step}
use Rattle.orc_words.specs.Bounds.{Bounds, IsShape}
use Rattle.orc_words.specs.Packed.{link_of}
use Rattle.orc_words.specs.declared.packed.RowLink.{RowLink}
use Rattle.orc_words.specs.declared.place.Word.TheVariants.{Gate, Root}
use Rattle.orc_words.specs.Places.{link_at}

-- the rows that were taken, counted, and each row that is out at the place of its node
pub record Lies (z : World) (p : PresentIds) (rows : List ℕ) : Type 0 where
  pub given : length rows ≡ p.given
  pub at : (r : ℕ) → out (z.memory (Gate r)) ≡ 1 → slice_get rows (p.node r) ≡ Some r

take_lies : (z y : World) (p : PresentIds) (rows : List ℕ) (q : ℕ) → Lies z p rows
    → ((r : ℕ) → (r == q) ≡ false → out (y.memory (Gate r)) ≡ 1 → out (z.memory (Gate r)) ≡ 1) → Lies y (with_taken q p) (rows ++ q ∷ [])
take_lies z y p rows q l before = record {
  given = length-append rows (q ∷ []) ∙ ap (λ n. n + 1) l.given;
  at = λ r o. cases r o (r == q) refl;
}
  where
    cases : (r : ℕ) → out (y.memory (Gate r)) ≡ 1 → (t : Bool) → (r == q) ≡ t → slice_get (rows ++ q ∷ []) (if t then p.given else p.node r) ≡ Some r
    cases r o true e = ap (slice_get (rows ++ q ∷ [])) (sym l.given) ∙ (get-added rows q ∙ ap Some (sym (eqb-true r q e)))
    cases r o false e = get-grown (p.node r) rows (q ∷ []) r (l.at r (before r e o))

nil_more : (xs : List ℕ) → xs ++ [] ≡ xs
nil_more [] = refl
nil_more (x ∷ xs) = ap (λ t. x ∷ t) (nil_more xs)

still_lies : (z y : World) (p : PresentIds) (rows : List ℕ) → Lies z p rows → ((r : ℕ) → out (y.memory (Gate r)) ≡ 1 → out (z.memory (Gate r)) ≡ 1)
    → Lies y p (rows ++ [])
still_lies z y p rows l before = subst (Lies y p) (sym (nil_more rows)) (record { given = l.given; at = λ r o. l.at r (before r o) })

same_false : (q r : ℕ) → (r == q) ≡ false → (q == r) ≡ true → ⊥
same_false q r e h = grind arith

lies_step : (b : Bounds) (z : World) (p : PresentIds) (rows : List ℕ) (a : ℕ) (op : Op) → LawfulStep b z a op → Lies z p rows
    → Lies (step_world z a op) (ids_after p (z.seats a) (read_by z a op) op) (rows ++ taken_by (z.seats a) (read_by z a op) op)
lies_step b z p rows a (GateTake q) s l = cases (is_taken (z.seats a) (z.memory (Gate q))) refl
  where
    cases : (t : Bool) → is_taken (z.seats a) (z.memory (Gate q)) ≡ t
        → Lies (step_world z a (GateTake q)) (if t then with_taken q p else p) (rows ++ (if t then q ∷ [] else []))
    cases true e =
        take_lies z (step_world z a (GateTake q)) p rows q l (λ r f o. out_before b z a (GateTake q) r s (λ t. same_false q r f (and_both _ _ t).0) o)
    cases false e =
        still_lies z (step_world z a (GateTake q)) p rows l (λ r o. out_before b z a (GateTake q) r s (λ t. false≢true (sym e ∙ (and_both _ _ t).1)) o)
lies_step b z p rows a op s l = still_lies z (step_world z a op) p rows l (λ r o. out_before b z a op r s false≢true o)

machine_lies : (m : Machine) (p : PresentIds) (rows : List ℕ) (a : ℕ) (op : Op) → Full m → AllFits m.bounds (world_of m) → is_allowed m a op ≡ true
    → Lies (world_of m) p rows
    → Lies (world_of (step m a op)) (ids_after p (record_at m a) (word_read m a op) op) (rows ++ taken_by (record_at m a) (word_read m a op) op)
machine_lies m p rows a op w s l h =
    let done = lies_step m.bounds (world_of m) p rows a op (allowed_step m a op w s l) h in
    let read : read_by (world_of m) a op ≡ word_read m a op =
    word_shown m (action_of a op (record_at m a)).word (may_within m.bounds _ a op (record_at m a) l) in
    subst (λ v. Lies (world_of (step m a op)) (ids_after p (record_at m a) v op) (rows ++ taken_by (record_at m a) v op)) read
    (subst (λ y. Lies y (ids_after p (record_at m a) (read_by (world_of m) a op) op)
    (rows ++ taken_by (record_at m a) (read_by (world_of m) a op) op)) (sym (world_step m a op w.words w.agents l)) done)

lies_run : {N : Type 0} (m : Machine) (p : PresentIds) (rows : List ℕ) (steps : List (Step N)) → Full m → AllFits m.bounds (world_of m)
    → IsLawfulJournal m steps → Lies (world_of m) p rows
    → Lies (world_of (run m (plain steps))) (ids_from m p steps) (rows ++ rows_taken_from m steps)
lies_run m p rows [] w s l h = subst (Lies (world_of m) p) (sym (nil_more rows)) h
lies_run m p rows (x ∷ xs) w s l h =
    let d = record_at m x.agent in
    let v = word_read m x.agent x.op in
    let fitting =
    subst (λ z. AllFits m.bounds z) (sym (world_step m x.agent x.op w.words w.agents l.0))
    (all_step m.bounds (world_of m) x.agent x.op (allowed_step m x.agent x.op w s l.0) s) in
    let rest = lies_run (step m x.agent x.op) (ids_after p d v x.op) (rows ++ taken_by d v x.op) xs (full_step m x.agent x.op w) fitting l.2
    (machine_lies m p rows x.agent x.op w s l.0 h) in
    subst (Lies (world_of (run (step m x.agent x.op) (plain xs))) (ids_from (step m x.agent x.op) (ids_after p d v x.op) xs))
    (append_assoc rows (taken_by d v x.op) (rows_taken_from (step m x.agent x.op) xs)) rest

first_lies : (b : Bounds) → Lies (world_of (new_machine b)) no_ids []
first_lies b = record { given = refl; at = λ r o. let e = zero_first b (Gate r) refl in absurd (omega arith) }

journal_lies : {N : Type 0} (b : Bounds) (steps : List (Step N)) → IsShape b → IsLawfulJournal (new_machine b) steps
    → Lies (world_of (run (new_machine b) (plain steps))) (present_ids b steps) (rows_taken b steps)
journal_lies b steps shape l = lies_run (new_machine b) no_ids [] steps (full_first b shape) (all_first b) l (first_lies b)

pub row_of_node : {N : Type 0} (b : Bounds) (steps : List (Step N)) (r : ℕ) → IsShape b → IsLawfulJournal (new_machine b) steps
    → IsOut (run (new_machine b) (plain steps)) r
    → slice_get (rows_taken b steps) ((present_ids b steps).node r) ≡ Some r
row_of_node b steps r shape l o = (journal_lies b steps shape l).at r (out_hidden (run (new_machine b) (plain steps)) r o)

pub taken_count : {N : Type 0} (b : Bounds) (steps : List (Step N)) → IsShape b → IsLawfulJournal (new_machine b) steps
    → length (rows_taken b steps) ≡ (present_ids b steps).given
taken_count b steps shape l = (journal_lies b steps shape l).given

-- the takings only grow
pub taken-append : {N : Type 0} (m : Machine) (xs ys : List (Step N)) → rows_taken_from m (xs ++ ys) ≡ rows_taken_from m xs
    ++ rows_taken_from (run m (plain xs)) ys
taken-append m [] ys = refl
taken-append m (x ∷ xs) ys =
    let own = taken_by (record_at m x.agent) (word_read m x.agent x.op) x.op in
    ap (λ l. own ++ l) (taken-append (step m x.agent x.op) xs ys)
    ∙ sym (append_assoc own (rows_taken_from (step m x.agent x.op) xs) _)

pub one_row : {N : Type 0} (b : Bounds) (j more : List (Step N)) (q r : ℕ) → IsShape b → IsLawfulJournal (new_machine b) (j ++ more)
    → IsOut (run (new_machine b) (plain j)) q → IsOut (run (new_machine b) (plain (j ++ more))) r
    → (present_ids b j).node q ≡ (present_ids b (j ++ more)).node r → q ≡ r
one_row b j more q r shape l o u e =
    let first = row_of_node b j q shape (((IsLawfulJournal-append (new_machine b) j more).0 l).0) o in
    let later = row_of_node b (j ++ more) r shape l u in
    let grown : slice_get (rows_taken b (j ++ more)) ((present_ids b j).node q) ≡ Some q =
    subst (λ rows. slice_get rows ((present_ids b j).node q) ≡ Some q) (sym (taken-append (new_machine b) j more))
    (get-grown ((present_ids b j).node q) (rows_taken b j) _ q first) in
    let same : Some q ≡ Some r = sym grown ∙ (ap (slice_get (rows_taken b (j ++ more))) e ∙ later) in
    cc

-- links of different rows, at two moments, are links of different nodes
pub two_targets : (o u : Option ℕ) (f g : ℕ → ℕ) → ((q r : ℕ) → o ≡ Some q → u ≡ Some r → f q ≡ g r → q ≡ r) → option_map f o ≡ option_map g u → o ≡ u
two_targets None None f g h e = refl
two_targets None (Some r) f g h e = cc
two_targets (Some q) None f g h e = cc
two_targets (Some q) (Some r) f g h e = ap Some (h q r refl refl (cc))

pub two_links : {N : Type 0} (b : Bounds) (j more : List (Step N)) (k l : RowLink) → IsShape b → IsLawfulJournal (new_machine b) (j ++ more)
    → LinksOut (run (new_machine b) (plain j)) k → LinksOut (run (new_machine b) (plain (j ++ more))) l
    → option_map (present_ids b j).node k.to ≡ option_map (present_ids b (j ++ more)).node l.to → k.to ≡ l.to
two_links b j more k l shape lawful o u e =
    two_targets k.to l.to (present_ids b j).node (present_ids b (j ++ more)).node (λ q r f g h. one_row b j more q r shape lawful (o q f) (u r g) h) e

-- the target of a root's link, and of the link of a row that is out, is out
pub root_links_out : {N : Type 0} (b : Bounds) (j : List (Step N)) (i : ℕ) → IsShape b → IsLawfulJournal (new_machine b) j → i < b.roots
    → LinksOut (run (new_machine b) (plain j)) (link_of (word_in (run (new_machine b) (plain j)) (Root i)))
root_links_out b j i shape l h r e =
    let m = run (new_machine b) (plain j) in
    (run_sound b (plain j) shape (plain_lawful (new_machine b) j l)).targets.roots i r
    (subst (λ (c : Bounds). i < c.roots) (sym (run_bounds (new_machine b) (plain j))) h) (one-true _ (named_row (word_in m (Root i)) r e))

pub row_links_out : {N : Type 0} (b : Bounds) (j : List (Step N)) (q n : ℕ) → IsShape b → IsLawfulJournal (new_machine b) j
    → n < b.links → IsOut (run (new_machine b) (plain j)) q
    → LinksOut (run (new_machine b) (plain j)) (link_of (word_in (run (new_machine b) (plain j)) (link_at n q)))
row_links_out b j q n shape l h o r e =
    let m = run (new_machine b) (plain j) in
    (run_sound b (plain j) shape (plain_lawful (new_machine b) j l)).targets.links n q r
    (subst (λ (c : Bounds). n < c.links) (sym (run_bounds (new_machine b) (plain j))) h) o (one-true _ (named_row (word_in m (link_at n q)) r e))
