-- What all workers and the caller have come to, once the caller's pass has learned from all others, read, and learned again.
use Rattle.std.proofs.Common.{◌≡◌, ◌==◌, ◌+◌, ◌<◌, ◌≤◌, ℕ, List, [], ◌∷◌, ◌++◌, ap, arith, length, subst, sym, ◌∙◌}
use mathlib.Core.List.{IsPrefix}
use Rattle.std.proofs.lemmas.List.Elements.{filter-append}
use Rattle.std.specs.List.{AllByRecursion}
use Rattle.orc_board.proofs.Shares.{prefix_trans}
use Rattle.orc_board.proofs.ListFacts.{AllByRecursion-map, filter-all, filter-none}
use Rattle.orc_board.proofs.Wholes.{Below}
use Rattle.orc_history.specs.Lists.{Pairwise}
use Rattle.orc_board.specs.Follows.{ZeroLast}
use Rattle.orc_board.specs.Stretches.{Stretch, View, beside}
use Rattle.orc_cell.specs.declared.refused.CellRefused.{CellRefused}
use Rattle.orc_heap.specs.declared.links.Links.{Ghosts as LinksOf}
use Rattle.orc_history.specs.Journals.{own_of}
use Rattle.orc_pairs_rule.specs.CellHistory.{agent_of_entry}
use Rattle.orc_pairs_rule.specs.PairsDiscipline.{entries_of}
use Rattle.orc_pairs_rule.specs.declared.entry.CellEntry.{CellEntry}
use Rattle.orc_pairs_rule.specs.declared.entry.CellEntry.TheVariants.{Seen}
use Rattle.orc_pairs_rule.specs.declared.pairs.PairsNote.{PairsNote}
use Rattle.orc_watch.specs.declared.line.WatchLine.{WatchLine}
use Rattle.orc_watch.specs.declared.reply.WatchReply.{WatchReply}
use Rattle.orc_board.specs.ListWithRoom.{ListWithRoom}
use Rattle.orc_watch_run.specs.CameBack.{AllCameBack, IsNew, IsTold}
use Rattle.orc_watch_run.specs.CellView.{cell_view, of_cell}
use Rattle.orc_watch_run.specs.Follows.{EndsWithRead, IsInRun}
use Rattle.orc_watch_run.specs.Learning.{LawsTell, cell_site}
use Rattle.orc_watch_run.specs.Passes.{IsUsablePassOf}
use Rattle.orc_watch_run.specs.Team.{DidWork, Watcher}
use Rattle.orc_watch_run.proofs.Beside.{told_first, told_more}
use Rattle.orc_team.proofs.CameBack.{Journals, Kept, Learnt, kept_all, learnt_all, seen_after}
use Rattle.orc_team.proofs.Learned.{Grows, since, zero_last}
use Rattle.orc_team.proofs.Numbered.{All-of_map, desks_from, each_number, numbered_next}
use Rattle.orc_team.proofs.Teams.{AllByRecursion-next, AllByRecursion-second, Pairwise-length}
use Rattle.orc_team.specs.Learning.{IsOther, LearnsAll, SameWorker}
use Rattle.orc_team.specs.Seats.{AreNumbered}
use Rattle.orc_team.specs.Site.{Site}

-- what is known of the cell
pub record Laws {A : Type 0} (x : View A CellEntry CellRefused) (C : ℕ → Type 0) : Type 0 where
  pub grows : Grows x.history
  pub few : Below x.crowd C
  pub none : x.history [] ≡ []

-- a worker as its own pass tells of it
abbrev Tells : {P A : Type 0} → View A CellEntry CellRefused → (ℕ → Type 0) → (P → List A) → List WatchLine → ℕ → Watcher P → Type 0
Tells x C journal lines workers w = IsTold (beside x C) lines workers w.agent w.replies.items (journal w.desk)

told_as : {A : Type 0} (y : View A CellEntry CellRefused) (lines : List WatchLine) (workers agent agent2 : ℕ) (replies replies2 : ListWithRoom WatchReply)
    (k k2 : List A) → agent2 ≡ agent → replies2 ≡ replies → k2 ≡ k → IsTold y lines workers agent replies.items k
    → IsTold y lines workers agent2 replies2.items k2
told_as y lines workers agent agent2 replies replies2 k k2 a b c t = rw (a, b, c) t

tells_more : {L D P S : Type 0} (m : LinksOf L D P S PairsNote) (links : L) (C : ℕ → Type 0) (lines : List WatchLine) (workers : ℕ) (k : Journals (cell_site m links))
    (w v : Watcher P) → Laws (cell_view m links) C → AllByRecursion (λ e. C (agent_of_entry e)) (entries_of (m.events links (k tt)))
    → Tells (cell_view m links) C m.journal lines workers w → Learnt (cell_site m links) k w v → Tells (cell_view m links) C m.journal lines workers v
tells_more m links C lines workers k w v laws below t l =
    let x = cell_view m links in
    let whole = l.whole tt in
    told_as (beside x C) lines workers w.agent v.agent w.replies v.replies (k tt) (m.journal v.desk) l.same.agent_is l.same.replies_are whole.is
    (told_more x C lines workers w.agent w.replies.items (m.journal w.desk) (k tt) laws.grows whole.begins whole.own_is below t)

-- where agent 0 comes last and has one entry, that is the last
ends_with_read : (es : List CellEntry) (a b : ℕ) → ZeroLast agent_of_entry es → own_of agent_of_entry 0 es ≡ Seen 0 a b ∷ [] → EndsWithRead es a b
ends_with_read es a b z own =
    let back : own_of agent_of_entry 0 es ≡ z.back =
    ap (own_of agent_of_entry 0) z.is
    ∙ (filter-append (λ e. agent_of_entry e == 0) z.front z.back
    ∙ (ap (λ u. u ++ own_of agent_of_entry 0 z.back) (filter-none agent_of_entry 0 z.front z.others) ∙ filter-all agent_of_entry 0 z.back z.zeros)) in
    record { front = z.front; is = z.is ∙ ap (λ u. z.front ++ u) (sym back ∙ own); others = z.others }

-- the workers once they have worked
tells_first : {L D P S : Type 0} (m : LinksOf L D P S PairsNote) (links : L) (C : ℕ → Type 0) (lines : List WatchLine) (workers : ℕ)
    (ws vs : List (Watcher P)) → Laws (cell_view m links) C → AllByRecursion (IsNew m links) ws → Pairwise (DidWork m links lines workers) ws vs
    → AllByRecursion (Tells (cell_view m links) C m.journal lines workers) vs
tells_first m links C lines workers [] [] laws new did = tt
tells_first m links C lines workers [] (v ∷ vs) laws new did = absurd did
tells_first m links C lines workers (w ∷ ws) [] laws new did = absurd did
tells_first m links C lines workers (w ∷ ws) (v ∷ vs) laws new did = (
  told_first (cell_view m links) C lines workers v.agent v.replies.items (m.journal w.desk) (m.journal v.desk) laws.few laws.none new.0 did.0.watched
      did.0.in_file_order,
  tells_first m links C lines workers ws vs laws new.1 did.1,
)

-- workers are other agents than the caller
pub others_after : {L D P S : Type 0} (m : LinksOf L D P S PairsNote) (links : L) (lines : List WatchLine) (workers : ℕ) (ws vs : List (Watcher P))
    → Pairwise (DidWork m links lines workers) ws vs → AllByRecursion (IsOther (cell_site m links) 0) vs
others_after m links lines workers ws vs did =
    AllByRecursion-second (IsOther (cell_site m links) 0) (DidWork m links lines workers) ws vs
    (λ w v d. record { is_desk = d.is_pass; other = λ e. absurd (omega (arith, e, d.no_caller)) }) did

told_at : {P A : Type 0} (x : View A CellEntry CellRefused) (C : ℕ → Type 0) (lines : List WatchLine) (workers : ℕ) (k : List A) (journal : P → List A)
    (ws : List (Watcher P)) → AllByRecursion (λ (w : Watcher P). journal w.desk ≡ k) ws → AllByRecursion (Tells x C journal lines workers) ws
    → AllByRecursion (λ (w : Watcher P). IsTold (beside x C) lines workers w.agent w.replies.items k) ws
told_at x C lines workers k journal [] s t = tt
told_at x C lines workers k journal (w ∷ ws) s t =
    (subst (λ j. IsTold (beside x C) lines workers w.agent w.replies.items j) s.0 t.0, told_at x C lines workers k journal ws s.1 t.1)

-- the whole: p0 to p3 are the caller's pass at first, after it learned, after it read, and after it learned again
pub came_back : {L D P S : Type 0} (m : LinksOf L D P S PairsNote) (links : L) (lines : List WatchLine) (workers : ℕ)
    (p0 p1 p2 p3 : P) (a b : ℕ) (ws vs us ts : List (Watcher P))
    → Laws (cell_view m links) (IsInRun workers)
    → AllByRecursion (λ e. IsInRun workers (agent_of_entry e)) (entries_of (m.events links (m.journal p1)))
    → AllByRecursion (λ e. IsInRun workers (agent_of_entry e)) (entries_of (m.events links (m.journal p3)))
    → entries_of (m.events links (m.journal p0)) ≡ []
    → AreNumbered 1 ws → length ws ≡ workers → AllByRecursion (IsNew m links) ws
    → Pairwise (DidWork m links lines workers) ws vs
    → LearnsAll (cell_site m links) 0 p0 p1 vs us → Pairwise SameWorker vs us
    → Stretch of_cell (cell_view m links) 0 (Seen 0 a b ∷ []) (m.journal p1) (m.journal p2)
    → LearnsAll (cell_site m links) 0 p2 p3 us ts → Pairwise SameWorker us ts
    → IsUsablePassOf m links 0 p3 → LawsTell m links p3 → AllByRecursion (IsOther (cell_site m links) 0) ts
    → AllCameBack m links lines workers p3 a b ts
came_back {P = P} {S = S} m links lines workers p0 p1 p2 p3 a b ws vs us ts laws below1 below3 new num many fresh did l1 same1 read l2 same2 pass known others =
    let C : ℕ → Type 0 = IsInRun workers in
    let x : View S CellEntry CellRefused = cell_view m links in
    let site : Site P = cell_site m links in
    let own : ℕ → List S → List CellEntry = λ n j. own_of agent_of_entry n (x.history j) in
    let j1 : List S = m.journal p1 in
    let j3 : List S = m.journal p3 in
    let k1 : Journals site = λ c. j1 in
    let k3 : Journals site = λ c. j3 in
    let one : Pairwise (Learnt site k1) vs us = learnt_all site 0 p0 p1 vs us l1 same1 in
    let two : Pairwise (Learnt site k3) us ts = learnt_all site 0 p2 p3 us ts l2 same2 in
    let T : Watcher P → Type 0 = Tells x C m.journal lines workers in
    let t1 : AllByRecursion T vs = tells_first m links C lines workers ws vs laws fresh did in
    let t2 : AllByRecursion T us = AllByRecursion-next T T (Learnt site k1) vs us
    (λ w v t l. tells_more m links C lines workers k1 w v laws below1 t l) t1 one in
    let t3 : AllByRecursion T ts = AllByRecursion-next T T (Learnt site k3) us ts
    (λ w v t l. tells_more m links C lines workers k3 w v laws below3 t l) t2 two in
    let num2 : AreNumbered 1 us = numbered_next SameWorker 1 vs us (λ w v d. d.agent_is)
    (numbered_next (DidWork m links lines workers) 1 ws vs (λ w v d. d.agent_is) num did) same1 in
    let num3 : AreNumbered 1 ts = numbered_next SameWorker 1 us ts (λ w v d. d.agent_is) num2 same2 in
    let long : length us ≡ workers = Pairwise-length SameWorker vs us same1 ∙ (Pairwise-length (DidWork m links lines workers) ws vs did ∙ many) in
    let at3 : AllByRecursion (λ (w : Watcher P). m.journal w.desk ≡ j3) ts =
    AllByRecursion-map (λ w. (c : site.Container) → site.journal c w.desk ≡ k3 c) (λ w. m.journal w.desk ≡ j3) (λ w f. f tt) ts
    (seen_after site k3 us ts two) in
    let kept : AllByRecursion (λ (w : Watcher P). Kept site k1 k3 w.agent) us = kept_all site k1 k3 us ts (seen_after site k1 vs us one) two in
    let each : (n : ℕ) → 1 ≤ n → n ≤ workers → own n j3 ≡ own n j1 =
    λ n low high. each_number (Kept site k1 k3) 1 us num2 kept n low (omega (arith, high, long)) tt in
    let learned1 = l1 tt in
    let learned3 = l2 tt in
    let later : IsPrefix j1 j3 = prefix_trans j1 (m.journal p2) j3 read.later learned3.grows in
    let more = since x.history laws.grows j1 j3 later in
    let none1 : own 0 j1 ≡ [] = learned1.own_is ∙ ap (own_of agent_of_entry 0) new in
    let zero : ZeroLast agent_of_entry (x.history j3) =
    zero_last agent_of_entry workers (x.history j1) more.part (x.history j3) more.is none1 below3 each in
    let only : own 0 j3 ≡ Seen 0 a b ∷ [] =
    learned3.own_is
    ∙ (ap (own_of agent_of_entry 0) read.is
    ∙ (filter-append (λ e. agent_of_entry e == 0) (x.history j1) read.part
    ∙ (ap (λ u. u ++ own_of agent_of_entry 0 read.part) none1 ∙ read.own_is))) in
    record {
      caller = pass;
      numbered = num3;
      many = Pairwise-length SameWorker us ts same2 ∙ long;
      usable = desks_from (IsUsablePassOf m links) 1 ts num3
          (AllByRecursion-map (IsOther site 0) (λ w. IsUsablePassOf m links w.agent w.desk) (λ w o. o.is_desk) ts others);
      seen = All-of_map (λ (w : Watcher P). w.desk) (λ p. m.journal p ≡ j3) ts at3;
      told = told_at x C lines workers j3 m.journal ts at3 t3;
      legal = known.legal;
      last = ends_with_read (x.history j3) a b zero only;
    }

-- agents below the number of agents are those of the run
pub all_in_run : (agents workers : ℕ) (es : List CellEntry) → agents ≡ 1 + workers → AllByRecursion (λ e. agent_of_entry e < agents) es
    → AllByRecursion (λ e. IsInRun workers (agent_of_entry e)) es
all_in_run agents workers es is h =
    AllByRecursion-map (λ e. agent_of_entry e < agents) (λ e. IsInRun workers (agent_of_entry e)) (λ e low. omega (arith, is, low)) es h

pub crowd_in_run : (agents workers : ℕ) → agents ≡ 1 + workers → Below (λ by. by < agents) (IsInRun workers)
crowd_in_run agents workers is a h = omega (arith, is, h)
