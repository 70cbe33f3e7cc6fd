-- An agent's entries are those of its own events, and its own Moves alone change its staging roots.
use Rattle.std.proofs.Common.{List, Some, inl, inr, subst, sym, ℕ, ◌∙◌, ◌≡◌, ◌⊎◌}
use mathlib.Core.List.{IsPrefix}
use Rattle.orc_heap.specs.Heap.{null, shown}
use Rattle.orc_heap.specs.Journals.{run_heap}
use Rattle.orc_heap.specs.declared.events.Event.{Event}
use Rattle.orc_heap.specs.declared.events.Place.TheVariants.{Root}
use Rattle.orc_pairs_rule.specs.declared.pairs.PairsNote.{PairsNote}
use Rattle.orc_heap.proofs.InJournal.{learned_entries}
use Rattle.orc_pairs_rule.proofs.OwnEntries.{entries_own}
use Rattle.orc_pairs_rule.specs.CellHistory.{agent_of_entry}
use Rattle.orc_pairs_rule.specs.PairsDiscipline.{IsStaging, PairsMay, entries_in}
use Rattle.orc_cell.proofs.Learned.{staging_either}
use Rattle.orc_cell.proofs.cell.Cell.learn.Goals as goal

pub learn-requires : goal.learn-requires
learn-requires g c = record { passes = (c.requires.usable.0.pass, c.requires.usable.1.pass); agents = c.requires.agents }

pub returns : goal.returns
returns g c =
    let d = c.args.self.now.links in
    let n = g.L.Links.numbers d in
    let s1 = g.L.Links.seat d c.args.into.now in
    let s2 = g.L.Links.seat d c.args.from.now in
    let t1 = g.L.Links.seat d c.learn.new.into in
    let e = c.learn.ensures in
    let l = e.learned in
    let one = c.requires.usable.0 in
    let two = c.requires.usable.1 in
    let all = g.met.L.Links.allowed _ _ e.passes.0 in
    let first : IsPrefix s1.seen t1.seen ⊎ (t1.seen ≡ s1.seen) = elim l.longer_list.of_both [
      | inl b ↦ inl (subst (λ z. IsPrefix s1.seen z) (sym b.1) b.0)
      | inr b ↦ inr b.1
    ] in
    let second : IsPrefix s2.seen t1.seen ⊎ (t1.seen ≡ s2.seen) = elim l.longer_list.of_both [
      | inl b ↦ inr b.1
      | inr b ↦ inl (subst (λ z. IsPrefix s2.seen z) (sym b.1) b.0)
    ] in
    record {
      usable = (
        record {
          pass = e.passes.0;
          idle = record { slots = l.slots.0 ∙ one.idle.slots; fresh = l.fresh.0 ∙ one.idle.fresh };
          staging = λ root own.
              let own_s = subst (λ (i : ℕ). IsStaging i root) l.agents.0 own in
              staging_either n s1.agent s1.seen t1.seen root first l.events.0 all own_s (one.staging root own_s);
        },
        record {
          pass = e.passes.1;
          idle = record { slots = l.slots.1 ∙ two.idle.slots; fresh = l.fresh.1 ∙ two.idle.fresh };
          staging = λ root own.
              let own_s = subst (λ (i : ℕ). IsStaging i root) l.agents.1 own in
              subst (λ (z : List (Event PairsNote)). shown (run_heap n z) (Root root) ≡ Some null) l.one_list
              (staging_either n s2.agent s2.seen t1.seen root second l.events.1 all own_s (two.staging root own_s));
        },
      );
      agents = l.agents;
      learned = learned_entries g.L.Links entries_in agent_of_entry PairsMay entries_own d _ _ _ _ l (g.met.L.Links.seen_is d) (g.met.L.Links.allowed d)
          one.pass two.pass e.passes.0;
    }
