-- The rows whose gates were looked at are counted.
use Rattle.std.proofs.Common.{List, None, [], ap, arith, subst, suc, sym, ℕ, ◌%◌}
use Rattle.std.proofs.Common.{◌*◌, ◌+◌, ◌++◌, ◌/◌, ◌<◌, ◌∙◌, ◌∷◌, ◌≡◌, ◌≤◌, ◌^◌, append_assoc, ◌⊎◌}
use Rattle.orc_machine_rest.proofs.GateWords.{balanced, given_by_gates, life_at, life_low, lives_low}
use Rattle.orc_machine_rest.proofs.GateWords.{looked_words, may_look, out_at, out_by_gates, outs_low, same_gate}
use Rattle.orc_machine_rest.specs.Looks.{MayLookAtGates, gate_looks}
use Rattle.orc_core.specs.Machine.{new_machine, word_in}
use Rattle.orc_core.specs.Sums.{sum_below}
use Rattle.orc_core.specs.declared.ops.Op.TheVariants.{GateLook}
use Rattle.orc_core.specs.declared.records.Agent.{Agent}
use Rattle.orc_heap.specs.declared.discipline.Discipline as discipline
use Rattle.orc_machine_board.proofs.Making.{steps_next}
use Rattle.orc_machine_board.specs.Kinds.{MakesPlain, MayDo, asks}
use Rattle.orc_machine_board.specs.Laws.Steps.{in_range}
use Rattle.orc_machine_board.specs.Passes.{TookInAll}
use Rattle.orc_machine_board.specs.Rules.{does, run_of}
use Rattle.orc_machine_board.specs.Views.{Belongs, board_bounds, shows}
use Rattle.orc_machine_board.specs.declared.board.MachineBoard.{MachineBoard}
use Rattle.orc_machine_board.specs.declared.board.MachineBoardPass.{MachineBoardPass}
use Rattle.orc_machine_board.specs.declared.machine.MachineShape.{MachineShape}
use Rattle.orc_machine_board.specs.declared.machine.Reclaiming.{Reclaiming}
use Rattle.orc_machine_board.specs.declared.machine.Request.{Request}
use Rattle.orc_rest.specs.Reuse.{given as given_of, reused, rows_out}
use Rattle.orc_shared_words.specs.declared.machine.Machine as machine
use Rattle.orc_sound.specs.Journals.{plain}
use Rattle.orc_sound.specs.declared.steps.Step.{Step}
use Rattle.orc_words.specs.Bounds.{Bounds, IsShape}
use Rattle.orc_words.specs.declared.place.Word.TheVariants.{Gate}
use Rattle.std.proofs.lemmas.List.{append_cancel_right}
use Rattle.orc_shared_words.specs.Lists.{Among}
use Rattle.orc_sound.proofs.Sums.{sum_same}

one_more : (n : ℕ) → suc n ≡ n + 1
one_more n = omega arith

module _ {D N : Type 0} (board : MachineBoard D N) where
  shape : IsShape (board_bounds board)
  shape = in_range board.words.shape.shape

module _ {D N : Type 0} {d : discipline.Ghosts D N} {m : machine.Ghosts Reclaiming N (MachineShape N) Request (Step N) Agent Agent}
    (board : MachineBoard D N)
  where
    -- the gates of the first rows were looked at, and nothing else was done
    pub record Counted (p q : MachineBoardPass D N d m) (rows row given linked : ℕ) : Type 0 where
      pub belongs : Belongs board q
      pub agent : (shows q).agent ≡ (shows p).agent
      pub absorbed : (shows q).absorbed ≡ (shows p).absorbed
      pub looks : MayLookAtGates (shows q).record_is
      pub words : (run_of (board_bounds board) (shows q).journal).words ≡ (run_of (board_bounds board) (shows p).journal).words
      pub journal : (shows q).journal ≡ (shows p).journal ++ gate_looks (shows p).agent row
      pub inside : rows ≡ (board_bounds board).rows
      pub given_is : given ≡ sum_below row (life_at (board_bounds board) (shows p).journal)
      pub linked_is : linked ≡ sum_below row (out_at (board_bounds board) (shows p).journal)

    module _ {p q : MachineBoardPass D N d m} {rows row given linked : ℕ}
        (c : Counted p q rows row given linked)
      where
        pub look_allowed : row < rows → MayDo (board_bounds board) (shows q) (GateLook row)
        look_allowed l =
            let e = c.inside in
            may_look (board_bounds board) (shows q).agent row (shows q).record_is c.belongs.keeps.number (omega arith) c.looks

        pub linked_low : linked ≤ row
        linked_low = subst (λ n. n ≤ row) (sym c.linked_is) (outs_low (board_bounds board) (shows p).journal row)

        pub given_low : Belongs board p → row ≤ rows → given ≤ 2 ^ 39 * row
        given_low h l =
            let e = c.inside in
            subst (λ n. n ≤ 2 ^ 39 * row) (sym c.given_is)
            (lives_low (board_bounds board) (shows p).journal row (shape board) h.keeps.now.lawful.0 (omega arith))

        -- it is still the pass that took in all others
        pub still_all : TookInAll (board_bounds board) (shows p) → TookInAll (board_bounds board) (shows q)
        still_all all a l = subst (λ (z : ℕ × List ℕ). (a ≡ z.0) ⊎ Among a z.1) (λ i. (sym c.agent i, sym c.absorbed i)) (all a l)

        module _ (all : TookInAll (board_bounds board) (shows p)) {r : MachineBoardPass D N d m}
            (x : Belongs board r)
            {n : ℕ} (made : MakesPlain (board_bounds board) (GateLook row) (shows q) n (shows r))
          where
            abbrev b : Bounds
            b = board_bounds board

            next : (shows r).journal ≡ (shows q).journal ++ does (shows q).agent (GateLook row) None ∷ []
            next = steps_next b (asks (GateLook row)) None (shows q) (shows r) n made (still_all all) x.keeps.now.below

            nothing_met : (shows q).journal ++ made.met ≡ (shows q).journal
            nothing_met =
                append_cancel_right ((shows q).journal ++ made.met) (shows q).journal (does (shows q).agent (GateLook row) None ∷ []) (sym made.journal ∙ next)

            gate : n ≡ word_in (run_of b (shows p).journal) (Gate row)
            gate = made.answer ∙ (ap (λ j. word_in (run_of b j) (Gate row)) nothing_met ∙ same_gate b (shows p).journal (shows q).journal row c.words)

            joined : ((shows q).journal ++ does (shows q).agent (GateLook row) None ∷ []) ≡ ((shows p).journal ++ gate_looks (shows p).agent (suc row))
            joined = (λ i. c.journal i ++ does (c.agent i) (GateLook row) None ∷ [])
                ∙ append_assoc (shows p).journal (gate_looks (shows p).agent row) (does (shows p).agent (GateLook row) None ∷ [])

            pub gate_low : Belongs board p → row < rows → n / 2 ≤ 2 ^ 39
            gate_low h l =
                let e = c.inside in
                let low = life_low b (shows p).journal row (shape board) h.keeps.now.lawful.0 (omega arith) in
                subst (λ w. w / 2 ≤ 2 ^ 39) (sym gate) low

            pub counted_one : Counted p r rows (row + 1) (given + n / 2) (linked + n % 2)
            counted_one = record {
              belongs = x;
              agent = made.agent ∙ c.agent;
              absorbed = made.absorbed ∙ c.absorbed;
              looks = subst MayLookAtGates (sym made.record_is)
                  (record { enrolled = c.looks.enrolled; due = c.looks.due; inc = c.looks.inc; dec = c.looks.dec });
              words = ap (λ j. (run_of b j).words) next ∙ (looked_words b (shows q).journal (shows q).agent row ∙ c.words);
              journal =
                  next ∙ subst (λ k. ((shows q).journal ++ does (shows q).agent (GateLook row) None ∷ []) ≡ ((shows p).journal ++ gate_looks (shows p).agent k))
                  (one_more row) joined;
              inside = c.inside;
              given_is = subst (λ k. given + n / 2 ≡ sum_below k (life_at b (shows p).journal)) (one_more row) (λ i. c.given_is i + gate i / 2);
              linked_is = subst (λ k. linked + n % 2 ≡ sum_below k (out_at b (shows p).journal)) (one_more row) (λ i. c.linked_is i + gate i % 2);
            }

        -- all gates were looked at
        module _ (last : rows ≤ row) (inside : row ≤ rows) where
          all_rows : row ≡ (board_bounds board).rows
          all_rows = let end : row ≡ rows = omega (arith, last, inside) in end ∙ c.inside

          pub given_end : given ≡ given_of (new_machine (board_bounds board)) (plain (shows q).journal)
          given_end =
              let b = board_bounds board in
              c.given_is ∙ (ap (λ n. sum_below n (life_at b (shows p).journal)) all_rows
              ∙ (sum_same b.rows (life_at b (shows p).journal) (life_at b (shows q).journal)
              (λ r h. ap (λ w. w / 2) (sym (same_gate b (shows p).journal (shows q).journal r c.words)))
              ∙ sym (given_by_gates b (shows q).journal (shape board) c.belongs.keeps.now.lawful.0)))

          pub linked_end : linked ≡ rows_out (run_of (board_bounds board) (shows q).journal)
          linked_end =
              let b = board_bounds board in
              c.linked_is ∙ (ap (λ n. sum_below n (out_at b (shows p).journal)) all_rows
              ∙ (sum_same b.rows (out_at b (shows p).journal) (out_at b (shows q).journal)
              (λ r h. ap (λ w. w % 2) (sym (same_gate b (shows p).journal (shows q).journal r c.words)))
              ∙ sym (out_by_gates b (shows q).journal)))

          pub balance_end : given ≡ reused (plain (shows q).journal) + linked
          balance_end =
              let e = balanced (board_bounds board) (shows q).journal (shape board) c.belongs.keeps.now.lawful.0 in
              given_end ∙ (e ∙ ap (λ n. reused (plain (shows q).journal) + n) (sym linked_end))

          pub journal_end : (shows q).journal ≡ (shows p).journal ++ gate_looks (shows p).agent (board_bounds board).rows
          journal_end = c.journal ∙ ap (λ n. (shows p).journal ++ gate_looks (shows p).agent n) all_rows
