-- A search begins at a root, and reads the key of each node.
use Rattle.std.proofs.Common.{None, [], ap, false, refl, sym, ℕ, ◌%◌, ◌∙◌, ◌≡◌}
use Rattle.orc_heap.proofs.Hands.{hands_with_none}
use Rattle.orc_heap.proofs.SingleActs.{some_same}
use Rattle.orc_heap.specs.Calls.{ReadsValue}
use Rattle.orc_heap.specs.Heap.{HeapNumbers, Node}
use Rattle.orc_heap.specs.Seats.{Seat, heap_of}
use Rattle.orc_heap.specs.declared.events.Place.TheVariants.{Root}
use Rattle.orc_ordered_search.specs.Steps.{BeginsPlain, ReadsRank}
use Rattle.orc_chain_rule.proofs.Later.{holds_later}
use Rattle.orc_chain_rule.specs.declared.chain.ChainNote.{ChainNote}
use Rattle.orc_chain_rule.specs.ChainDiscipline.{ChainHolds, ChainMay}
use Rattle.orc_chain_rule.specs.Laws.Kinds.{key_linked}
use Rattle.orc_list.specs.Searches.{list_reading}

pub root_begins : (n : HeapNumbers) (root wanted : ℕ) (s : Seat ChainNote) → root ≡ wanted % n.roots → ChainHolds n s.seen
    → BeginsPlain (list_reading n) (ChainMay n) (Root root) wanted None s s
root_begins n root wanted s is holds = record {
  begins = record {
    left_id = 0;
    agent = refl;
    seen = refl;
    fresh = refl;
    hands = hands_with_none s.slots s.slots [] 0 (record { same_length = refl; others = λ i a. refl; held = tt });
    apart = (tt, tt);
    start_is = ap (λ (r : ℕ). Root r) is;
    begins = refl;
    below = sym is;
  };
  plain = λ more allowed link at. (holds_later n s.seen more holds allowed).chains.plain_roots root link at;
}

pub key_read : (n : HeapNumbers) (id value : ℕ) (t : Seat ChainNote) → ReadsValue (heap_of n t) id 0 value → ReadsRank (list_reading n) id value false t
key_read n id value t read = record {
  rank = λ key own. read.is key (ap (λ (x : Node). x.first) (some_same (sym read.there ∙ own.there)) ∙ own.rank_is);
  kind = λ key own no. (key_linked (heap_of n t) id key own, refl);
}
