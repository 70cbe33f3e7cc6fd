-- What the answers of a set's calls tell, for a set that is shared.
use Rattle.std.proofs.Common.{List, [], length, refl, subst, sym, ℕ, ◌≡◌}
use Rattle.orc_history.specs.Journals.{Adds, Within}
use Rattle.orc_history.specs.SetHistory.{IsLegalSet, agent_of_set_entry}
use Rattle.orc_history.specs.declared.set.ListRefused.{ListRefused}
use Rattle.orc_history.specs.declared.set.SetEntry.{SetEntry}
use Rattle.orc_history.specs.declared.set.SharedSet.{Ghosts as SetOf}
use Rattle.mooringakee_c_passes.specs.SetCalls.{view_over}
use Rattle.mooringakee_c_passes.specs.Views.{GoesOn, RefusesCall}

module _ {S P J : Type 0} (m : SetOf S P J) (turns : ℕ) (old new : P) (set : S) (legal : IsLegalSet (m.history set (m.journal new))) (agent : m.agent_of set new ≡ m.agent_of set old)
  where
    pub entered : (own : List SetEntry)
        → Adds agent_of_set_entry (m.crowd set) (m.agent_of set old) (m.history set (m.journal old)) own (m.history set (m.journal new))
        → GoesOn (view_over m set turns old) own (view_over m set turns new)
    entered own adds = record { turns = refl; agent = agent; entered = adds; legal = legal }

    pub refused : (why : ListRefused)
        → Adds agent_of_set_entry (m.crowd set) (m.agent_of set old) (m.history set (m.journal old)) [] (m.history set (m.journal new))
        → Within (length (m.journal old)) (length (m.journal new)) (m.licence set (m.agent_of set old) turns why (m.journal new))
        → RefusesCall (view_over m set turns old) why (view_over m set turns new)
    refused why adds cause = record {
      none = entered [] adds;
      cause = subst (λ (n : ℕ). Within (length (m.journal old)) (length (m.journal new)) (m.licence set n turns why (m.journal new))) (sym agent) cause;
    }
