-- The kinds of events that the discipline allows, one by one.
use Rattle.std.proofs.Common.{Bool, List, None, Option, Some, subst, sym, true, ℕ, ◌≡◌}
use Rattle.orc_heap.specs.Heap.{Heap}
use Rattle.orc_heap.specs.Moves.{move_with}
use Rattle.orc_heap.specs.declared.events.Act.{Act}
use Rattle.orc_heap.specs.declared.events.Act.TheVariants.{Look, Move}
use Rattle.orc_heap.specs.declared.events.Link.{Link}
use Rattle.orc_heap.specs.declared.events.Place.{Place}
use Rattle.orc_heap.specs.declared.events.Place.TheVariants.{Next, Root}
use Rattle.orc_history.specs.declared.set.SetEntry.{SetEntry}
use Rattle.orc_history.specs.declared.set.SetEntry.TheVariants.{Added, Removed}
use Rattle.orc_ordered_chains.specs.Answers.{MayAnswer}
use Rattle.orc_ordered_chains.specs.Chains.{MayUnlink}
use Rattle.orc_split_rule.specs.declared.split.SplitNote.{SplitNote}
use Rattle.orc_split_rule.specs.declared.split.SplitNote.TheVariants.{Anchor, Bucket, Entry, Grow, Unlink}
use Rattle.orc_split_rule.specs.SplitDiscipline.{MayAct, MayAdd, MayAnchor, MayGrow, MayMakeBucket, MayRemove}
use Rattle.orc_split_rule.specs.SplitOrder.{split_order}

-- a fact of each kind is a fact of every act that is allowed
module _ (most : ℕ) (h : Heap) (keys : List ℕ) (P : Act → Option SplitNote → Type 0)
    (plain : (act : Act) → move_with act ≡ 0 → P act None)
    (add : (place : Place) (from to : Link) (by key : ℕ) → MayAdd h place from to key → P (Move place from to) (Some (Entry (Added by key true))))
    (remove : (x : ℕ) (from to : Link) (by key : ℕ) → MayRemove h x from to key → P (Move (Next x) from to) (Some (Entry (Removed by key true))))
    (unlink : (place : Place) (from to : Link) → MayUnlink split_order h place from to → P (Move place from to) (Some Unlink))
    (make : (place : Place) (from to : Link) → MayMakeBucket most h place from to → P (Move place from to) (Some Bucket))
    (anchor : (root : ℕ) (from to : Link) → MayAnchor most h root from to → P (Move (Root root) from to) (Some Anchor))
    (grow : (from to : Link) → MayGrow most h from to → P (Move (Root most) from to) (Some Grow))
    (told : (place : Place) (link : Link) (entry : SetEntry) → MayAnswer keys entry → P (Look place link) (Some (Entry entry))) where
  pub each_kind : (act : Act) (noted : Option SplitNote) → MayAct most h keys act noted → P act noted
  each_kind act None m = plain act m
  each_kind (Move place from to) (Some Unlink) m = unlink place from to m
  each_kind (Move place from to) (Some Bucket) m = make place from to m
  each_kind (Move (Root root) from to) (Some Anchor) m = anchor root from to m
  each_kind (Move (Root root) from to) (Some Grow) m = subst (λ (r : ℕ). P (Move (Root r) from to) (Some Grow)) (sym m.0) (grow from to m.1)
  each_kind (Move place from to) (Some (Entry (Added by key answer))) m =
      subst (λ (b : Bool). P (Move place from to) (Some (Entry (Added by key b)))) (sym m.0) (add place from to by key m.1)
  each_kind (Move (Next x) from to) (Some (Entry (Removed by key answer))) m =
      subst (λ (b : Bool). P (Move (Next x) from to) (Some (Entry (Removed by key b)))) (sym m.0) (remove x from to by key m.1)
  each_kind (Look place link) (Some (Entry entry)) m = told place link entry m
  each_kind act noted m = absurd m
