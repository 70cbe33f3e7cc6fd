-- Whose the entries of allowed events are, and which events move root 0.
use Rattle.std.proofs.Common.{List, Option, Some, [], false, refl, ℕ, ◌≡◌}
use Rattle.std.specs.List.{AllByRecursion}
use Rattle.orc_heap.specs.Heap.{HeapNumbers}
use Rattle.orc_heap.specs.Moves.{moves_place}
use Rattle.orc_heap.specs.declared.events.Act.{Act}
use Rattle.orc_heap.specs.declared.events.Act.TheVariants.{Move}
use Rattle.orc_heap.specs.declared.events.Event.{Event}
use Rattle.orc_heap.specs.declared.events.Place.TheVariants.{Root}
use Rattle.orc_pairs_rule.specs.declared.entry.CellEntry.{CellEntry}
use Rattle.orc_pairs_rule.specs.declared.pairs.PairsNote.{PairsNote}
use Rattle.orc_pairs_rule.specs.declared.pairs.PairsNote.TheVariants.{Entry}
use Rattle.orc_pairs_rule.specs.CellHistory.{agent_of_entry}
use Rattle.orc_pairs_rule.specs.PairsDiscipline.{IsNoMove, MayEnter, PairsMay, entries_in}
use Rattle.orc_pairs_rule.specs.Laws.Kinds.{each_kind}
use Rattle.orc_pairs_rule.specs.Laws.Shown.{not_root_0}
use Rattle.std.proofs.lemmas.Bool.{ne_eqb}
use Rattle.orc_heap.specs.Journals.{run_heap}

of_note : (history : List CellEntry) (by : ℕ) (noted : Option PairsNote) → MayEnter history by noted
    → AllByRecursion (λ (x : CellEntry). agent_of_entry x ≡ by) (entries_in noted)
of_note history by (Some (Entry entry)) may = (may.0, tt)
of_note history by noted may = tt

-- each entry of an allowed event is of the event's agent
pub entries_own : (n : HeapNumbers) (es : List (Event PairsNote)) (e : Event PairsNote) → PairsMay n es e
    → AllByRecursion (λ (x : CellEntry). agent_of_entry x ≡ e.agent) (entries_in e.note)
entries_own n es e may = of_note _ e.agent e.note may.may_enter

none_at : (act : Act) → IsNoMove act → moves_place (Root 0) act ≡ false
none_at (Move place from to) m = absurd m
none_at act m = refl

-- a Move of root 0 has an entry
pub no_entry_no_move : (n : HeapNumbers) (es : List (Event PairsNote)) (e : Event PairsNote) → PairsMay n es e → entries_in e.note ≡ []
    → moves_place (Root 0) e.act ≡ false
no_entry_no_move n es e may =
    each_kind (run_heap n es) e.agent (λ act noted. entries_in noted ≡ [] → moves_place (Root 0) act ≡ false)
    (λ act m none. none_at act m)
    (λ r from to m none. ne_eqb r 0 (λ z. not_root_0 e.agent r m.own (sym_nat z)))
    (λ r from to m none. ne_eqb r 0 (λ z. not_root_0 e.agent r m.own (sym_nat z)))
    (λ r from to by left right x y m none. cc)
    (λ place link by x y none. refl)
    e.act e.note may.may_act
  where
    sym_nat : {a b : ℕ} → a ≡ b → b ≡ a
    sym_nat e = cc
