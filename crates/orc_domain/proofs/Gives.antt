-- A step is a Give where it is a GateTake that succeeds, so as many rows are given as Gives stand in the events.
use Rattle.std.proofs.Common.{Bool, List, None, Option, Some, [], arith, cond, false, refl, suc, sym, true, zero, ℕ, ◌&&◌, ◌+◌, ◌==◌, ◌∙◌, ◌∷◌, ◌≡◌}
use Rattle.std.specs.Option.{option_map}
use Rattle.std.specs.Prelude.{if◌then◌else◌}
use Rattle.orc_core.specs.Actions.{action_of}
use Rattle.orc_core.specs.Machine.{Machine, answer, new_machine, record_at, step, word_read}
use Rattle.orc_core.specs.RecordParts.{names}
use Rattle.orc_core.specs.declared.ops.Op.{Op}
use Rattle.orc_core.specs.declared.ops.Op.TheVariants.{Fill as FillStep, GateTake, LinkCas, LinkLoad, LinkStore}
use Rattle.orc_core.specs.declared.records.Agent.{Agent}
use Rattle.orc_heap.proofs.Moved.{gives_in-append}
use Rattle.orc_heap.specs.Acts.{aim_act}
use Rattle.orc_heap.specs.Moves.{give_with, gives_in}
use Rattle.orc_heap.specs.declared.events.Act.{Act}
use Rattle.orc_heap.specs.declared.events.Act.TheVariants.{Give, Look, Miss, Move}
use Rattle.orc_heap.specs.declared.events.Place.{Place}
use Rattle.orc_projection.specs.PresentIds.{PresentIds, no_ids, node_link, node_place}
use Rattle.orc_projection.specs.Projection.{act_of, events_of, exchange_act, ids_after, is_taken, load_act, project, project_from}
use Rattle.orc_rest.specs.Reuse.{given, is_gate_take}
use Rattle.orc_sound.specs.Journals.{plain}
use Rattle.orc_sound.specs.declared.steps.Step.{Step}
use Rattle.orc_words.specs.Bounds.{Bounds}
use Rattle.orc_words.specs.Operations.{answer_of}
use Rattle.orc_words.specs.Packed.{bit, link_of, link_word}
use Rattle.orc_words.specs.declared.packed.RowLink.{RowLink}

-- how many Gives an act is, if there is one
abbrev gives : Option Act → ℕ
gives None = 0
gives (Some act) = give_with act

neither : (t : Bool) (x y : Act) → give_with x ≡ 0 → give_with y ≡ 0 → gives (Some (if t then x else y)) ≡ 0
neither true x y p q = p
neither false x y p q = q

perhaps : (t : Bool) (x : Act) → give_with x ≡ 0 → gives (if t then Some x else None) ≡ 0
perhaps true x p = p
perhaps false x p = refl

load_gives : (p : PresentIds) (w : ℕ) (want : Option RowLink) (o : Option Place) → gives (option_map (load_act p w want) o) ≡ 0
load_gives p w want None = refl
load_gives p w None (Some place) = refl
load_gives p w (Some k) (Some place) =
    neither (w == link_word k) (Look place (node_link p (link_of w))) (Miss place (node_link p k) (node_link p (link_of w))) refl refl

exchange_gives : (p : PresentIds) (w : ℕ) (from to : RowLink) (o : Option Place) → gives (option_map (exchange_act p w from to) o) ≡ 0
exchange_gives p w from to None = refl
exchange_gives p w from to (Some place) =
    neither (w == link_word from) (Move place (node_link p from) (node_link p to)) (Miss place (node_link p from) (node_link p (link_of w))) refl refl

aim_gives : (n id : ℕ) (to : Option ℕ) → give_with (aim_act n id to) ≡ 0
aim_gives zero id to = refl
aim_gives (suc n) id to = refl

take_gives : (t : Bool) → gives (if t then Some Give else None) ≡ bit (true && (cond t 1 0 == 1))
take_gives true = refl
take_gives false = refl

act_gives : (p : PresentIds) (d : Agent) (a w : ℕ) (op : Op) (want : Option RowLink)
    → gives (act_of p d w op want) ≡ bit (is_gate_take op && (answer_of (action_of a op d).operation w == 1))
act_gives p d a w (GateTake r) want = take_gives (is_taken d w)
act_gives p d a w (FillStep r which value) want = refl
act_gives p d a w (LinkLoad place slot) want = load_gives p w want (node_place p place)
act_gives p d a w (LinkCas place from to) want = exchange_gives p w from to (node_place p place)
act_gives p d a w (LinkStore r link n) want =
    perhaps (names d.fresh r) (aim_act n (p.node r) (option_map p.node link.to)) (aim_gives n (p.node r) (option_map p.node link.to))
act_gives p d a w op want = refl

module _ {N : Type 0} where
  event_gives : (s : Step N) (o : Option Act) → gives_in (events_of s o) ≡ gives o
  event_gives s None = refl
  event_gives s (Some act) = omega arith

  given_from : (m : Machine) (p : PresentIds) (j : List (Step N)) → given m (plain j) ≡ gives_in (project_from m p j)
  given_from m p [] = refl
  given_from m p (s ∷ ss) =
      let d = record_at m s.agent in
      let w = word_read m s.agent s.op in
      let act = act_of p d w s.op s.want in
      let own : gives_in (events_of s act) ≡ bit (is_gate_take s.op && (answer m s.agent s.op == 1)) =
      event_gives s act ∙ act_gives p d s.agent w s.op s.want in
      let more = project_from (step m s.agent s.op) (ids_after p d w s.op) ss in
      let rest = given_from (step m s.agent s.op) (ids_after p d w s.op) ss in
      let sum : given m (plain (s ∷ ss)) ≡ gives_in (events_of s act) + gives_in more = λ i. sym own i + rest i in
      sum ∙ sym (gives_in-append (events_of s act) more)

  -- as many rows are given as Gives stand in the events
  pub given_is_gives : (b : Bounds) (j : List (Step N)) → given (new_machine b) (plain j) ≡ gives_in (project b j)
  given_is_gives b j = given_from (new_machine b) no_ids j
