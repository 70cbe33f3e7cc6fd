-- A row's sequence rises by two for each link that is made to its present node, and by no more. What is still to be counted
-- of a link (the increment, and later the decrement) is counted in advance.
use Rattle.std.proofs.Common.{Bool, List, [], ap, arith, cond, false, refl, subst, sym, true, ℕ, ◌%◌, ◌*◌, ◌++◌, ◌+◌, ◌/◌, ◌<◌, ◌^◌, ◌∙◌, ◌∷◌, ◌≡◌, ◌≤◌, zero, suc}
use Rattle.orc_sound.proofs.Reasons.{none_names}
use Rattle.std.proofs.lemmas.Bool.{eq-eqb, eqb-true, false≢true, ltb-true}
use Rattle.std.specs.Option.{option_map}
use Rattle.std.specs.Prelude.{None, Option, Some, if◌then◌else◌, is_none, ◌==◌}
use Rattle.orc_core.proofs.Order.{nothing_pending}
use Rattle.orc_core.proofs.Within.{and_both, may_within}
use Rattle.orc_words.specs.Operations.{word_after}
use Rattle.orc_core.specs.Actions.{action_of}
use Rattle.orc_core.specs.After.{after}
use Rattle.orc_core.specs.Machine.{Machine, is_allowed, new_machine, record_at, step, word_in, word_read}
use Rattle.orc_core.specs.RecordParts.{checked_below, names, number_of, same_target, saw}
use Rattle.orc_core.specs.Runs.{run}
use Rattle.orc_core.specs.declared.ops.Op.{Op}
use Rattle.orc_core.specs.declared.ops.Op.TheVariants.{CounterLoad, Dec, Fill, Free, GateTake, Inc, LinkCas, LinkStore, Read, SetRetired, Unretire, DecHeld}
use Rattle.orc_core.specs.declared.ops.CounterUse.TheVariants.{Check, End, Start}
use Rattle.orc_core.specs.declared.records.Agent.{Agent}
use Rattle.orc_core.specs.declared.records.Reading.{Reading}
use Rattle.orc_heap.specs.Acts.{aim_act}
use Rattle.orc_heap.specs.Calls.{links_made}
use Rattle.orc_heap.specs.Journals.{names_node, points_to}
use Rattle.orc_heap.specs.declared.events.Act.{Act}
use Rattle.orc_heap.specs.declared.events.Act.TheVariants.{Give, Miss, Move}
use Rattle.orc_heap.specs.declared.events.Event.{Event}
use Rattle.orc_heap.specs.declared.events.Link.{Link}
use Rattle.orc_heap.specs.declared.events.Place.{Place}
use Rattle.orc_heap.specs.declared.events.Place.TheVariants.{Next as NodePlace, Root as RootPlace, Side as SidePlace}
use Rattle.orc_projection.proofs.Still.{out_before}
use Rattle.orc_projection.proofs.StoreStep.{store_doomed}
use Rattle.orc_projection.specs.PresentIds.{PresentIds, no_ids, node_link}
use Rattle.orc_projection.specs.Projection.{act_of, events_of, exchange_act, ids_after, ids_from, is_taken, present_ids, project, project_from}
use Rattle.orc_sound.proofs.AllFits.{AllFits, all_first, all_step, allowed_step, low_sequences, run_bounds}
use Rattle.orc_sound.proofs.NewState.{zero_first}
use Rattle.orc_sound.proofs.Bits.{dec_bounds, dec_held_bounds, inc_bounds, unretire_one}
use Rattle.orc_sound.proofs.Bridge.{world_step}
use Rattle.orc_sound.proofs.Change.{decs_seat, incs_seat, link_part, linked_write}
use Rattle.orc_sound.proofs.CountedStep.{balance_kept, step_within}
use Rattle.orc_sound.proofs.CounterWords.{clear_sequence, dec_sequence, inc_sequence}
use Rattle.orc_sound.proofs.DoomedStep.{no_decs, no_incs, out_below}
use Rattle.orc_sound.proofs.Facts.{Counted, LawfulStep, decs, incs, linked_in, out, to_row}
use Rattle.orc_sound.proofs.Fresh.{free_unnamed, not_one}
use Rattle.orc_sound.proofs.Full.{Full, full_first, full_step}
use Rattle.orc_sound.proofs.Lives.{LivesFit}
use Rattle.orc_sound.proofs.Outs.{cas_place_out, zero_one}
use Rattle.orc_sound.proofs.Quota.{sequence_part, sequence_write, set_sequence}
use Rattle.orc_sound.proofs.Seats.{not_true}
use Rattle.orc_sound.proofs.Shown.{linked_shown, out_hidden, word_shown}
use Rattle.orc_sound.proofs.Sources.{takes}
use Rattle.orc_sound.proofs.Sums.{sum_zero}
use Rattle.orc_sound.proofs.World.{World, read_by, seat, step_world, world_of, write}
use Rattle.orc_sound.specs.Balance.{decrements, increments}
use Rattle.orc_sound.specs.Journals.{IsLawfulJournal, plain}
use Rattle.orc_sound.specs.Linked.{IsOut, linked, uses}
use Rattle.orc_sound.specs.declared.steps.Step.{Step}
use Rattle.orc_words.specs.Bounds.{Bounds, IsShape}
use Rattle.orc_words.specs.Packed.{bit, link_of, link_word, named, sequence_of}
use Rattle.orc_words.specs.Places.{IsWithin}
use Rattle.orc_words.specs.declared.packed.RowLink.{RowLink}
use Rattle.orc_words.specs.declared.place.Word.{Word}
use Rattle.orc_words.specs.declared.place.Word.TheVariants.{Counter, Enrolled, Gate, Next, Root, Side}

-- what was counted on the row, and what its links and pending changes will still count
abbrev pub spending : Bounds → World → ℕ → ℕ
spending b z r = sequence_of (z.memory (Counter r)) + incs b z.seats r + linked_in b z.memory r + decs b z.seats r

-- 1 where the act makes a link to the node
abbrev pub made_by : Option Act → ℕ → ℕ
made_by None id = 0
made_by (Some act) id = bit (points_to act id)

-- the change at one word and one record, n at most
abbrev LocalSpending : (Word → ℕ) → Word → ℕ → ℕ → Agent → Agent → ℕ → ℕ → Type 0
LocalSpending m w v x d e r n = sequence_part w x r + bit (names e.inc r) + link_part m w x r + bit (names e.dec r) ≤ sequence_part w v r
    + bit (names d.inc r) + link_part m w v r + bit (names d.dec r) + n

spending_rises : (b : Bounds) (z : World) (a : ℕ) (w : Word) (x : ℕ) (e : Agent) (r n : ℕ) → IsWithin b w → a < b.agents
    → LocalSpending z.memory w (z.memory w) x (z.seats a) e r n
    → spending b (record { memory = write z.memory w x; seats = seat z.seats a e }) r ≤ spending b z r + n
spending_rises b z a w x e r n within agent local =
    let c = sequence_write z.memory w x r in
    let l = linked_write b z.memory w x r within in
    let i = incs_seat b z.seats a e r agent in
    let d = decs_seat b z.seats a e r agent in
    omega arith

-- a link to the row is a link to its node
named_node : (f : ℕ → ℕ) (o : Option ℕ) (r : ℕ) → bit (names o r) ≤ bit (names_node (option_map f o) (f r))
named_node f None r = omega arith
named_node f (Some q) r = cases (q == r) refl
  where
    cases : (t : Bool) → (q == r) ≡ t → bit t ≤ bit (f q == f r)
    cases true e = let k = ap bit (eq-eqb (f q) (f r) (ap f (eqb-true q r e))) in omega arith
    cases false e = omega arith

cas_made : (p : PresentIds) (place : Place) (f t : RowLink) (found : Link) (r : ℕ) (w s : Bool)
    → bit (names (cond w (cond s None t.to) None) r) ≤ made_by
    (Some (if w then Move place (node_link p f) (node_link p t) else Miss place (node_link p f) found)) (p.node r)
cas_made p place f t found r false s = omega arith
cas_made p place f t found r true true = omega arith
cas_made p place f t found r true false = named_node p.node t.to r

store_made : (p : PresentIds) (q nr : ℕ) (o : Option ℕ) (r : ℕ) (s fresh : Bool) → (fresh ≡ false → is_none o ≡ true)
    → bit (names (cond s None o) r) ≤ made_by (if fresh then Some (aim_act nr (p.node q) (option_map p.node o)) else None) (p.node r)
store_made p q nr o r true fresh h = omega arith
store_made p q zero o r false true h = named_node p.node o r
store_made p q (suc k) o r false true h = named_node p.node o r
store_made p q nr o r false false h = let e = none_names o r (h refl) in omega arith

-- what a change of a link puts on its new target, where nothing was pending
cas_new : (p : PresentIds) (place : Place) (f t : RowLink) (v : ℕ) (i : Option ℕ) (r : ℕ) → i ≡ None
    → bit (names (cond (v == link_word f) (cond (same_target f.to t.to) i t.to) i) r) ≤ made_by (Some (exchange_act p v f t place)) (p.node r)
cas_new p place f t v i r n = rw n (cas_made p place f t (node_link p (link_of v)) r (v == link_word f) (same_target f.to t.to))

store_new : (p : PresentIds) (q nr : ℕ) (l : RowLink) (v : ℕ) (i : Option ℕ) (r : ℕ) (fresh : Bool) → i ≡ None → (fresh ≡ false → is_none l.to ≡ true)
    → bit (names (cond (same_target (named (v / 2)) l.to) i l.to) r) ≤ made_by
    (if fresh then Some (aim_act nr (p.node q) (option_map p.node l.to)) else None) (p.node r)
store_new p q nr l v i r fresh n h = rw n (store_made p q nr l.to r (same_target (named (v / 2)) l.to) fresh h)

dec_spending : (q r s x k j : ℕ) (i : Option ℕ) → x ≡ s + 1 → names i q ≡ true → cond (q == r) x 0 + j + 0 + 0 ≤ cond (q == r) s 0 + j + 0 + bit (names i r) + k
dec_spending q r s x k j None e h = absurd (false≢true h)
dec_spending q r s x k j (Some i) e h = grind arith

inc_spending : (q r s x k d : ℕ) (i : Option ℕ) → x ≡ s + 1 → names i q ≡ true → cond (q == r) x 0 + 0 + 0 + d ≤ cond (q == r) s 0 + bit (names i r) + 0 + d + k
inc_spending q r s x k d None e h = absurd (false≢true h)
inc_spending q r s x k d (Some j) e h = grind arith

abbrev Low : World → Type 0
Low z = (q : ℕ) → sequence_of (z.memory (Counter q)) < 2 ^ 39 + 2 ^ 19

-- the step's change, by its kind
spending_local : (b : Bounds) (z : World) (p : PresentIds) (a : ℕ) (op : Op) (want : Option RowLink) (r : ℕ) → LawfulStep b z a op → Low z → r < b.rows
    → LocalSpending z.memory (action_of a op (z.seats a)).word (z.memory (action_of a op (z.seats a)).word)
    (word_after (action_of a op (z.seats a)).operation (z.memory (action_of a op (z.seats a)).word)) (z.seats a)
    (after op (z.seats a) (z.memory (action_of a op (z.seats a)).word)) r
    (2 * made_by (act_of p (z.seats a) (z.memory (action_of a op (z.seats a)).word) op want) (p.node r))
spending_local b z p a (Inc q) want r l lo h =
    inc_spending q r (sequence_of (z.memory (Counter q))) _ _ (bit (names (z.seats a).dec r)) (z.seats a).inc
    (inc_sequence _ (lo q) (inc_bounds b z a q l)) (and_both _ _ l.fits).1
spending_local b z p a (Dec q) want r l lo h =
    dec_spending q r (sequence_of (z.memory (Counter q))) _ _ (bit (names (z.seats a).inc r)) (z.seats a).dec
    (dec_sequence _ (lo q) (dec_bounds b z a q l)) (and_both _ _ (and_both _ _ l.fits).0).1
spending_local b z p a (DecHeld q) want r l lo h =
    dec_spending q r (sequence_of (z.memory (Counter q))) _ _ (bit (names (z.seats a).inc r)) (z.seats a).dec
    (dec_sequence _ (lo q) (dec_held_bounds b z a q l)) (and_both _ _ (and_both _ _ l.fits).0).1
spending_local b z p a (SetRetired q k) want r l lo h = let s = set_sequence (z.memory (Counter q)) q r k in omega arith
spending_local b z p a (Unretire q) want r l lo h = let s : sequence_of ((z.memory (Counter q) + 18446744073701163008) % 18446744073709551616)
    ≡ sequence_of (z.memory (Counter q)) = clear_sequence _ (lo q) (unretire_one b z a q l) in rw s (omega arith)
spending_local b z p a (LinkCas (Root i) f t) want r l lo h =
    let k = balance_kept b z a (LinkCas (Root i) f t) r l h in
    let n = nothing_pending (z.seats a).due (z.seats a).inc (z.seats a).dec (LinkCas (Root i) f t) refl l.forced in
    let y = cas_new p (RootPlace i) f t (z.memory (Root i)) (z.seats a).inc r n.1 in
    omega arith
spending_local b z p a (LinkCas (Next i) f t) want r l lo h =
    let k = balance_kept b z a (LinkCas (Next i) f t) r l h in
    let n = nothing_pending (z.seats a).due (z.seats a).inc (z.seats a).dec (LinkCas (Next i) f t) refl l.forced in
    let y = cas_new p (NodePlace (p.node i)) f t (z.memory (Next i)) (z.seats a).inc r n.1 in
    omega arith
spending_local b z p a (LinkCas (Side i) f t) want r l lo h =
    let k = balance_kept b z a (LinkCas (Side i) f t) r l h in
    let n = nothing_pending (z.seats a).due (z.seats a).inc (z.seats a).dec (LinkCas (Side i) f t) refl l.forced in
    let y = cas_new p (SidePlace (p.node i)) f t (z.memory (Side i)) (z.seats a).inc r n.1 in
    omega arith
spending_local b z p a (LinkCas w f t) want r l lo h = absurd (cas_place_out b z a w f t l)
spending_local b z p a (LinkStore q k zero) want r l lo h =
    let c = balance_kept b z a (LinkStore q k zero) r l h in
    let n = nothing_pending (z.seats a).due (z.seats a).inc (z.seats a).dec (LinkStore q k zero) refl l.forced in
    let y = store_new p q zero k (z.memory (Next q)) (z.seats a).inc r (names (z.seats a).fresh q) n.1
    (λ e. (store_doomed b (z.memory Enrolled) a q zero k (z.seats a) l.fits e).1) in
    omega arith
spending_local b z p a (LinkStore q k (suc ln)) want r l lo h =
    let c = balance_kept b z a (LinkStore q k (suc ln)) r l h in
    let n = nothing_pending (z.seats a).due (z.seats a).inc (z.seats a).dec (LinkStore q k (suc ln)) refl l.forced in
    let y = store_new p q (suc ln) k (z.memory (Side q)) (z.seats a).inc r (names (z.seats a).fresh q) n.1
    (λ e. (store_doomed b (z.memory Enrolled) a q (suc ln) k (z.seats a) l.fits e).1) in
    omega arith
spending_local b z p a (Fill q w v) want r l lo h = grind arith
spending_local b z p a (Read q w) want r l lo h = grind arith
spending_local b z p a (GateTake q) want r l lo h = let k = balance_kept b z a (GateTake q) r l h in omega arith
spending_local b z p a (Free q) want r l lo h = let k = balance_kept b z a (Free q) r l h in omega arith
spending_local b z p a (CounterLoad q Check) want r l lo h = omega arith
spending_local b z p a (CounterLoad q Start) want r l lo h = omega arith
spending_local b z p a (CounterLoad q End) want r l lo h = omega arith
spending_local b z p a op want r l lo h = omega arith

-- nothing is linked or pending of a free row
free_spending : (b : Bounds) (z : World) (r : ℕ) → Counted b z → out (z.memory (Gate r)) ≡ 0 → spending b z r ≡ sequence_of (z.memory (Counter r))
free_spending b z r s f =
    let u = λ (a : ℕ). not_true (uses (z.seats a) r) (λ u. zero_one f (s.used_out a r u)) in
    let i = no_incs b z r u in
    let d = no_decs b z r u in
    let o = sum_zero b.roots (λ i. to_row (z.memory (Root i)) r) (λ i. not_one _ (λ k. zero_one f (s.roots_out i r k))) in
    let n = sum_zero b.rows (λ j. out (z.memory (Gate j)) * to_row (z.memory (Next j)) r)
    (λ j. rw (not_one _ (λ k. free_unnamed b z 0 j r s f k)) (omega arith)) in
    let t = sum_zero b.rows (λ j. out (z.memory (Gate j)) * to_row (z.memory (Side j)) r)
    (λ j. rw (not_one _ (λ k. free_unnamed b z 1 j r s f k)) (omega arith)) in
    omega arith

checked_saw : (c : Option Reading) (r n : ℕ) → checked_below c r n ≡ true → (saw c r ≡ true) × (number_of c < n)
checked_saw None r n h = absurd (false≢true h)
checked_saw (Some s) r n h = let k = and_both _ _ h in (k.0, ltb-true _ _ k.1)

-- a row that is taken has a sequence below the limit
taken_below : (b : Bounds) (z : World) (a : ℕ) (op : Op) (r : ℕ) → LawfulStep b z a op → LivesFit b z → takes op (z.seats a) (read_by z a op) r ≡ true
    → spending b z r < b.limit
taken_below b z a (GateTake q) r l s t =
    let e = eqb-true q r (and_both _ _ t).0 in
    let g : z.memory (Gate q) ≡ 2 * number_of (z.seats a).looked = eqb-true _ _ (and_both _ _ t).1 in
    let looked = (and_both _ _ (and_both _ _ (and_both _ _ l.fits).0).0).1 in
    let c = checked_saw (z.seats a).checked q b.limit (and_both _ _ l.fits).1 in
    let k = s.checked a q looked c.0 g in
    let f = free_spending b z q l.counted (rw g (omega arith)) in
    rw (← e) (omega arith)
taken_below b z a op r l s t = absurd (false≢true t)

-- a row that isn't taken keeps its node
node_kept : (p : PresentIds) (d : Agent) (v : ℕ) (op : Op) (r : ℕ) → takes op d v r ≡ false → (ids_after p d v op).node r ≡ p.node r
node_kept p d v (GateTake q) r h = grind arith
node_kept p d v op r h = refl

-- made: how many links were made to each node
abbrev pub Spends : Bounds → World → PresentIds → (ℕ → ℕ) → Type 0
Spends b z p made = (r : ℕ) → out (z.memory (Gate r)) ≡ 1 → spending b z r < b.limit + 2 * made (p.node r)

take_makes : (p : PresentIds) (d : Agent) (v : ℕ) (op : Op) (want : Option RowLink) (r id : ℕ) → takes op d v r ≡ true → made_by (act_of p d v op want) id ≡ 0
take_makes p d v (GateTake q) want r id h = cases (is_taken d v)
  where
    cases : (t : Bool) → made_by (if t then Some Give else None) id ≡ 0
    cases true = refl
    cases false = refl
take_makes p d v op want r id h = absurd (false≢true h)

spends_step : (b : Bounds) (z : World) (p : PresentIds) (made : ℕ → ℕ) (a : ℕ) (op : Op) (want : Option RowLink) → LawfulStep b z a op → Low z
    → LivesFit b z → Counted b (step_world z a op) → Spends b z p made
    → Spends b (step_world z a op) (ids_after p (z.seats a) (read_by z a op) op) (λ id. made id + made_by (act_of p (z.seats a) (read_by z a op) op want) id)
spends_step b z p made a op want l lo s c h r o = cases (takes op (z.seats a) (read_by z a op) r) refl
  where
    rises : spending b (step_world z a op) r ≤ spending b z r + 2 * made_by (act_of p (z.seats a) (read_by z a op) op want) (p.node r)
    rises = spending_rises b z a (action_of a op (z.seats a)).word _ (after op (z.seats a) (read_by z a op)) r
        (2 * made_by (act_of p (z.seats a) (read_by z a op) op want) (p.node r)) (step_within b z a op l) l.agent
        (spending_local b z p a op want r l lo (out_below b (step_world z a op) r c o))

    cases : (t : Bool) → takes op (z.seats a) (read_by z a op) r ≡ t
        → spending b (step_world z a op) r < b.limit
        + 2 * (made ((ids_after p (z.seats a) (read_by z a op) op).node r)
        + made_by (act_of p (z.seats a) (read_by z a op) op want) ((ids_after p (z.seats a) (read_by z a op) op).node r))
    cases true e =
        let k = taken_below b z a op r l s e in
        let n = take_makes p (z.seats a) (read_by z a op) op want r (p.node r) e in
        let u = rises in
        omega arith
    cases false e =
        let k = h r (out_before b z a op r l (λ t. false≢true (sym e ∙ t)) o) in
        let u = rises in
        rw (node_kept p (z.seats a) (read_by z a op) op r e) (omega arith)

links_events : {N : Type 0} (s : Step N) (o : Option Act) (rest : List (Event N)) (id : ℕ) → links_made (events_of s o ++ rest) id ≡ made_by o id
    + links_made rest id
links_events s None rest id = omega arith
links_events s (Some act) rest id = cases (points_to act id) refl
  where
    cases : (t : Bool) → points_to act id ≡ t → links_made (events_of s (Some act) ++ rest) id ≡ bit t + links_made rest id
    cases true e = rw e (omega arith)
    cases false e = rw e (omega arith)

machine_spends : (m : Machine) (p : PresentIds) (made : ℕ → ℕ) (a : ℕ) (op : Op) (want : Option RowLink) → Full m → AllFits m.bounds (world_of m)
    → is_allowed m a op ≡ true → Spends m.bounds (world_of m) p made
    → Spends m.bounds (world_of (step m a op)) (ids_after p (record_at m a) (word_read m a op) op)
    (λ id. made id + made_by (act_of p (record_at m a) (word_read m a op) op want) id)
machine_spends m p made a op want w s l h =
    let legal = allowed_step m a op w s l in
    let done = spends_step m.bounds (world_of m) p made a op want legal (low_sequences m.bounds (world_of m) w.shape s) s.lives
    (all_step m.bounds (world_of m) a op legal s).counted h in
    let read : read_by (world_of m) a op ≡ word_read m a op =
    word_shown m (action_of a op (record_at m a)).word (may_within m.bounds _ a op (record_at m a) l) in
    subst (λ v. Spends m.bounds (world_of (step m a op)) (ids_after p (record_at m a) v op)
    (λ id. made id + made_by (act_of p (record_at m a) v op want) id)) read
    (subst (λ y. Spends m.bounds y (ids_after p (record_at m a) (read_by (world_of m) a op) op)
    (λ id. made id + made_by (act_of p (record_at m a) (read_by (world_of m) a op) op want) id)) (sym (world_step m a op w.words w.agents l)) done)

spends_run : {N : Type 0} (m : Machine) (p : PresentIds) (made : ℕ → ℕ) (steps : List (Step N)) → Full m → AllFits m.bounds (world_of m)
    → IsLawfulJournal m steps → Spends m.bounds (world_of m) p made
    → Spends m.bounds (world_of (run m (plain steps))) (ids_from m p steps) (λ id. made id + links_made (project_from m p steps) id)
spends_run m p made [] w s l h = λ r o. let k = h r o in omega arith
spends_run m p made (x ∷ xs) w s l h =
    let d = record_at m x.agent in
    let v = word_read m x.agent x.op in
    let act = act_of p d v x.op x.want in
    let next = machine_spends m p made x.agent x.op x.want w s l.0 h in
    let fitting =
    subst (λ z. AllFits m.bounds z) (sym (world_step m x.agent x.op w.words w.agents l.0))
    (all_step m.bounds (world_of m) x.agent x.op (allowed_step m x.agent x.op w s l.0) s) in
    let rest = spends_run (step m x.agent x.op) (ids_after p d v x.op) (λ id. made id + made_by act id) xs (full_step m x.agent x.op w) fitting l.2 next in
    λ r o.
    let k = rest r o in
    let e = links_events x act (project_from (step m x.agent x.op) (ids_after p d v x.op) xs)
    ((ids_from (step m x.agent x.op) (ids_after p d v x.op) xs).node r) in
    omega arith

first_spends : (b : Bounds) → Spends b (world_of (new_machine b)) no_ids (λ id. 0)
first_spends b r o = let e = zero_first b (Gate r) refl in absurd (omega arith)

-- said of the words and records themselves
pub row_spends : {N : Type 0} (b : Bounds) (steps : List (Step N)) (r : ℕ) → IsShape b → IsLawfulJournal (new_machine b) steps
    → IsOut (run (new_machine b) (plain steps)) r
    → (let m = run (new_machine b) (plain steps) in sequence_of (word_in m (Counter r)) + increments m r + decrements m r + linked m r < b.limit
    + 2 * links_made (project b steps) ((present_ids b steps).node r))
row_spends b steps r shape l o =
    let m = run (new_machine b) (plain steps) in
    let s = spends_run (new_machine b) no_ids (λ id. 0) steps (full_first b shape) (all_first b) l (first_spends b) in
    let k = subst (λ c. Spends c (world_of m) (present_ids b steps) (λ id. 0 + links_made (project b steps) id))
    (sym (run_bounds (new_machine b) (plain steps))) s r (out_hidden m r o) in
    let e = word_shown m (Counter r) o.0 in
    let n = linked_shown m r (subst IsShape (sym (run_bounds (new_machine b) (plain steps))) shape) in
    let c = ap (λ (x : Bounds). x.limit) (run_bounds (new_machine b) (plain steps)) in
    omega arith

-- a row at whose sequence no link is made was linked 33 times or more
pub row_worn : {N : Type 0} (b : Bounds) (steps : List (Step N)) (r : ℕ) → IsShape b → IsLawfulJournal (new_machine b) steps
    → IsOut (run (new_machine b) (plain steps)) r
    → b.limit + 64 ≤ sequence_of (word_in (run (new_machine b) (plain steps)) (Counter r)) → 33 ≤ links_made (project b steps) ((present_ids b steps).node r)
row_worn b steps r shape l o h = let k = row_spends b steps r shape l o in omega arith
