-- The state of a plain container after a call that adds an entry.
use Rattle.std.proofs.Common.{◌≡◌, ℕ, ◌+◌, ◌≤◌, ◌<◌, ◌^◌, List, [], ◌∷◌, ◌++◌, length, drop, ap, sym, ◌∙◌, arith, length-append, subst, IsPermutation}
use Rattle.std.specs.List.Sorted.{IsStrictlyIncreasing}
use Rattle.orc_history.specs.declared.queue.QueueEntry.TheVariants.{Put, Took, Empty}
use Rattle.orc_history.specs.declared.queue.QueueEntry.{QueueEntry}
use Rattle.orc_history.specs.declared.set.SetEntry.{SetEntry}
use Rattle.orc_history.specs.QueueHistory.{IsLegalQueue}
use Rattle.orc_history.specs.SetHistory.{IsLegalSet, IsLegalSetFrom, keys_after}
use Rattle.orc_history.specs.PlainQueue.{QueueView, QueuePassView, IsQueuePass, HoldsQueue}
use Rattle.orc_history.specs.PlainSet.{SetView, SetPassView, IsSetPass, HoldsSet}
use Rattle.orc_history.proofs.Histories.{waiting_after-snoc, puts_in-append, IsLegalFrom-snoc}
use Rattle.orc_history.proofs.SetHistories.{keys_after-snoc, IsLegalSetFrom-snoc}

pub HoldsQueue-put : (room first next agent job : ℕ) (items : List (ℕ × ℕ)) (history : List QueueEntry)
    → HoldsQueue room first next items history → length items < room → next < 2 ^ 62
    → HoldsQueue room first (next + 1) (items ++ (job, next) ∷ []) (history ++ Put agent job next ∷ [])
HoldsQueue-put room first next agent job items history held place low = record {
  items_are = ap (λ w. w ++ (job, next) ∷ []) held.items_are ∙ sym (waiting_after-snoc [] history (Put agent job next));
  items_fit = omega (arith, length-append items ((job, next) ∷ []));
  next_is = omega (arith, held.next_is, puts_in-append history (Put agent job next ∷ []));
  next_in_range = omega arith;
  legal = IsLegalFrom-snoc first [] history (Put agent job next) held.legal (held.next_is, tt);
}

pub HoldsQueue-took : (room first next agent job at : ℕ) (rest items : List (ℕ × ℕ)) (history : List QueueEntry)
    → HoldsQueue room first next items history → items ≡ (job, at) ∷ rest
    → HoldsQueue room first next rest (history ++ Took agent job at ∷ [])
HoldsQueue-took room first next agent job at rest items history held is = record {
  items_are = ap (drop 1) (sym is ∙ held.items_are) ∙ sym (waiting_after-snoc [] history (Took agent job at));
  items_fit = omega (arith, ap length is, held.items_fit);
  next_is = omega (arith, held.next_is, puts_in-append history (Took agent job at ∷ []));
  next_in_range = held.next_in_range;
  legal = IsLegalFrom-snoc first [] history (Took agent job at) held.legal (rest, sym held.items_are ∙ is, tt);
}

pub HoldsQueue-empty : (room first next agent : ℕ) (items : List (ℕ × ℕ)) (history : List QueueEntry)
    → HoldsQueue room first next items history → items ≡ []
    → HoldsQueue room first next items (history ++ Empty agent ∷ [])
HoldsQueue-empty room first next agent items history held is = record {
  items_are = held.items_are ∙ sym (waiting_after-snoc [] history (Empty agent));
  items_fit = held.items_fit;
  next_is = omega (arith, held.next_is, puts_in-append history (Empty agent ∷ []));
  next_in_range = held.next_in_range;
  legal = IsLegalFrom-snoc first [] history (Empty agent) held.legal (sym held.items_are ∙ is, tt);
}

-- a pass stays one of its queue where its history grows and is legal
pub IsQueuePass-after : (queue : QueueView) (before inside : QueuePassView) (history : List QueueEntry)
    → IsQueuePass queue before → inside ≡ before → IsLegalQueue inside.first history → IsQueuePass queue (record inside { history = history })
IsQueuePass-after queue before inside history pass is legal =
    let same : inside.first ≡ queue.first = ap (λ (v : QueuePassView). v.first) is ∙ pass.same_first in
    record {
      same_room = ap (λ (v : QueuePassView). v.room) is ∙ pass.same_room;
      same_first = same;
      legal = rw (← same) legal;
    }

-- the entry's answer is that of the keys, and the keys afterwards are these in some order
pub HoldsSet-snoc : (room : ℕ) (keys next : List ℕ) (history : List SetEntry) (e : SetEntry)
    → HoldsSet room keys history → length next ≤ room → IsStrictlyIncreasing next
    → IsPermutation (keys_after (keys_after [] history) (e ∷ [])) next → IsLegalSetFrom (keys_after [] history) (e ∷ [])
    → HoldsSet room next (history ++ e ∷ [])
HoldsSet-snoc room keys next history e held fits rising are legal = record {
  keys_are = subst (λ w. IsPermutation w next) (sym (keys_after-snoc [] history e)) are;
  keys_rise = rising;
  keys_fit = fits;
  legal = IsLegalSetFrom-snoc [] history e held.legal legal;
}

pub IsSetPass-after : (set : SetView) (before inside : SetPassView) (history : List SetEntry)
    → IsSetPass set before → inside ≡ before → IsLegalSet history → IsSetPass set (record inside { history = history })
IsSetPass-after set before inside history pass is legal = record {
  same_room = ap (λ (v : SetPassView). v.room) is ∙ pass.same_room;
  legal = legal;
}
