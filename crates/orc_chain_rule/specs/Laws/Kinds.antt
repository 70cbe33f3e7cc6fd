-- The kinds of events that the discipline allows, one by one.
use Rattle.std.proofs.Common.{Bool, List, None, Option, Some, refl, subst, sym, true, ℕ, ◌≡◌}
use Rattle.orc_heap.specs.Allowed.{IsLinkedNode}
use Rattle.orc_heap.specs.Heap.{Heap}
use Rattle.orc_heap.specs.Moves.{move_with}
use Rattle.orc_heap.specs.declared.events.Act.{Act}
use Rattle.orc_heap.specs.declared.events.Act.TheVariants.{Look, Move}
use Rattle.orc_heap.specs.declared.events.Link.{Link}
use Rattle.orc_heap.specs.declared.events.Place.{Place}
use Rattle.orc_heap.specs.declared.events.Place.TheVariants.{Next, Root, Side}
use Rattle.orc_history.specs.declared.set.SetEntry.{SetEntry}
use Rattle.orc_history.specs.declared.set.SetEntry.TheVariants.{Added, Removed}
use Rattle.orc_ordered_chains.specs.Answers.{MayAnswer}
use Rattle.orc_ordered_chains.specs.Chains.{IsChainPlace as IsRankedPlace}
use Rattle.orc_ordered_chains.proofs.Acts.{rank_linked, rank_one}
use Rattle.orc_chain_rule.specs.declared.chain.ChainNote.{ChainNote}
use Rattle.orc_chain_rule.specs.declared.chain.ChainNote.TheVariants.{Entry, Unlink}
use Rattle.orc_chain_rule.specs.ChainDiscipline.{AreChains, HasKey, IsChainPlace, MayAct, MayAdd, MayRemove, MayUnlink, chain_order}

-- a fact of each kind is a fact of every act that is allowed
module _ (roots : ℕ) (h : Heap) (keys : List ℕ) (P : Act → Option ChainNote → Type 0)
    (plain : (act : Act) → move_with act ≡ 0 → P act None)
    (add : (place : Place) (from to : Link) (by key : ℕ) → MayAdd roots h place from to key → P (Move place from to) (Some (Entry (Added by key true))))
    (remove : (x : ℕ) (from to : Link) (by key : ℕ) → MayRemove h x from to key → P (Move (Next x) from to) (Some (Entry (Removed by key true))))
    (unlink : (place : Place) (from to : Link) → MayUnlink roots h place from to → P (Move place from to) (Some Unlink))
    (told : (place : Place) (link : Link) (entry : SetEntry) → MayAnswer keys entry → P (Look place link) (Some (Entry entry))) where
  pub each_kind : (act : Act) (noted : Option ChainNote) → MayAct roots h keys act noted → P act noted
  each_kind act None m = plain act m
  each_kind (Move place from to) (Some Unlink) m = unlink place from to m
  each_kind (Move place from to) (Some (Entry (Added by key answer))) m =
      subst (λ (b : Bool). P (Move place from to) (Some (Entry (Added by key b)))) (sym m.0) (add place from to by key m.1)
  each_kind (Move (Next x) from to) (Some (Entry (Removed by key answer))) m =
      subst (λ (b : Bool). P (Move (Next x) from to) (Some (Entry (Removed by key b)))) (sym m.0) (remove x from to by key m.1)
  each_kind (Look place link) (Some (Entry entry)) m = told place link entry m
  each_kind act noted m = absurd m

-- nodes with keys, whatever the number of roots

pub key_linked : (h : Heap) (id key : ℕ) → HasKey h id key → IsLinkedNode h id
key_linked = rank_linked (chain_order 1)

pub key_one : (h : Heap) (id a b : ℕ) → HasKey h id a → HasKey h id b → a ≡ b
key_one = rank_one (chain_order 1)

-- a root or the link of a once linked node is a place of a chain, since that node has a key
pub keyed_place : (roots : ℕ) (h : Heap) (keys : List ℕ) → AreChains roots h keys → (p : Place) → IsChainPlace p h → IsRankedPlace (chain_order roots) h p
keyed_place roots h keys c (Root r) l = refl
keyed_place roots h keys c (Next id) l = c.keyed id l
keyed_place roots h keys c (Side id) l = absurd l
