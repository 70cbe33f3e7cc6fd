-- A search through all rows for one to give.
use Rattle.std.proofs.Common.{◌≡◌, ℕ, ◌+◌, ◌<◌, ◌≤◌, ◌%◌, List, [], ◌∷◌, ◌++◌, length, Option, Some, None, slice_get, slice_set, refl, sym, ap, ◌∙◌, subst, arith, append-nil}
use Rattle.std.proofs.Math.Decide.{dec_lt}
use mathlib.Core.List.{IsPrefix}
use mathlib.Core.Logic.{dite}
use Rattle.orc_words.specs.Bounds.{Bounds, bounds_of}
use Rattle.orc_heap.proofs.Changes.{get-grown}
use Rattle.orc_heap.proofs.Calls.{Only-trans, Puts-trans}
use Rattle.orc_heap.specs.Calls.{Gives, given_node}
use Rattle.orc_heap.specs.Journals.{event_by, run_heap}
use Rattle.orc_heap.specs.OwnEvents.{Only, Puts}
use Rattle.orc_heap.specs.Slots.{Hold, Slots}
use Rattle.orc_heap.specs.declared.discipline.Discipline as discipline
use Rattle.orc_heap.specs.declared.events.Act.TheVariants.{Fill, Give}
use Rattle.orc_heap.specs.declared.events.Event.{Event}
use Rattle.orc_shared_words.specs.declared.machine.Machine as machine
use Rattle.orc_any_domain.specs.Rows.{IsListed, index_of}
use Rattle.orc_plain_board.specs.Machine.{id_by}
use Rattle.orc_plain_board.specs.Views.{shows}
use Rattle.orc_plain_board.specs.declared.machine.Plain.{Plain}
use Rattle.orc_plain_board.specs.declared.machine.PlainOp.{PlainOp}
use Rattle.orc_plain_board.specs.declared.machine.PlainStep.{PlainStep}
use Rattle.orc_plain_board.specs.declared.shape.PlainShape.{PlainShape}
use Rattle.orc_plain_domain.specs.Passes.{IsPassOf, domain_bounds, domain_numbers, rows_of, seat_of}
use Rattle.orc_plain_domain.specs.declared.domain.PlainDomain.{PlainDomain}
use Rattle.orc_plain_domain.specs.declared.domain.PlainPass.{PlainPass}
use Rattle.orc_plain_domain.specs.Calls.{Furnishes, IsSame, Loses, GivesFreshRow}
use Rattle.orc_plain_domain.specs.Given.{IsLacking}
use Rattle.orc_plain_domain.specs.Laws.Passes.{seen_by}
use Rattle.orc_plain_domain.specs.Passes.{journal_of}
use Rattle.orc_plain_domain.specs.Rows.{slots_by}
use Rattle.orc_any_domain.specs.Turns.{IsNext}
use Rattle.orc_any_domain.proofs.Counting.{nodes_given, nodes_stay}
use Rattle.orc_plain_domain.proofs.Counting.{lacks_all, once_round, rows_all}
use Rattle.orc_plain_domain.proofs.Growing.{held_given, tie}
use Rattle.orc_plain_domain.proofs.Rows.{slots_grow}

out_stays : (rows more : List ℕ) (row : ℕ) → IsListed rows row → IsListed (rows ++ more) row
out_stays rows more row o = (o.0, get-grown o.0 rows more row o.1)

module _ {D N : Type 0} {d : discipline.Ghosts D N} {m : machine.Ghosts Plain N (PlainShape N) PlainOp (PlainStep N) (Unit {0}) (Unit {0})}
    (domain : PlainDomain D N)
  where
    -- the rows that were tried, from `begin` on, were out
    pub record Tried (p q : PlainPass D N (PlainShape N) PlainOp (PlainStep N) (Unit {0}) (Unit {0}) d m) (rows begin offset : ℕ) : Type 0 where
      pub pass : IsPassOf domain q
      pub only : Only [] (seat_of domain p) (seat_of domain q)
      pub fresh : (shows domain.board q.pass).fresh ≡ None
      pub inside : (rows ≡ (domain_bounds domain).rows) × (begin < rows)
      pub same_next : q.next ≡ p.next
      pub out : (k : ℕ) → k < offset → IsListed (shows domain.board q.pass).rows ((begin + k) % rows)

    pub tried_none : (p : PlainPass D N (PlainShape N) PlainOp (PlainStep N) (Unit {0}) (Unit {0}) d m) (rows begin : ℕ) → IsPassOf domain p
        → (seat_of domain p).fresh ≡ None → rows ≡ (bounds_of p.shape).rows → begin ≡ p.next → Tried p p rows begin 0
    tried_none p rows begin h fresh is next =
        let same : rows ≡ (domain_bounds domain).rows = is ∙ ap (λ (z : Bounds). z.rows) h.shape in record {
          pass = h;
          only = record { slots = refl; fresh = refl; puts = record { part = []; is = sym (append-nil (seat_of domain p).seen); agent = refl; own_is = refl } };
          fresh = no_row (shows domain.board p.pass).fresh fresh;
          inside = (same, let l = h.keeps.inside in omega (arith, l, same, next));
          same_next = refl;
          out = λ k l. absurd (omega (arith, l));
        }
      where
        no_row : (fresh : Option ℕ) → id_by (shows domain.board p.pass).rows fresh ≡ None → fresh ≡ None
        no_row None e = refl
        no_row (Some row) e = cc

    -- the row that is tried next, where the others were out
    pub tried_next : (p q : PlainPass D N (PlainShape N) PlainOp (PlainStep N) (Unit {0}) (Unit {0}) d m) (rows begin offset : ℕ)
        → Tried p q rows begin offset → offset < rows → (given : List ℕ) → IsPrefix (rows_of domain q) given
        → IsNext (domain_bounds domain).rows begin (IsListed given) ((begin + offset) % rows)
    tried_next p q rows begin offset t low given more =
        subst (λ n. IsNext n begin (IsListed given) ((begin + offset) % rows)) t.inside.0 (record {
          offset = offset;
          low = low;
          is = refl;
          passed = λ k l. subst (λ z. IsListed z ((begin + k) % rows)) more.1 (out_stays (rows_of domain q) more.0 ((begin + k) % rows) (t.out k l));
        })

    -- the slots are the same as more rows are given
    slots_kept : (q r : PlainPass D N (PlainShape N) PlainOp (PlainStep N) (Unit {0}) (Unit {0}) d m) → IsPassOf domain q → IsSame q r
        → IsPrefix (shows domain.board q.pass).rows (shows domain.board r.pass).rows → (seat_of domain r).slots ≡ (seat_of domain q).slots
    slots_kept q r x same rows =
        ap (slots_by (shows domain.board r.pass).rows) same.slots
        ∙ (ap (λ z. slots_by z q.slots) (sym rows.1) ∙ slots_grow (shows domain.board q.pass).rows rows.0 q.slots (held_given domain q x))

    module _ (p q r : PlainPass D N (PlainShape N) PlainOp (PlainStep N) (Unit {0}) (Unit {0}) d m) (rows begin offset : ℕ)
        (t : Tried p q rows begin offset) (x : IsPassOf domain r) (same : IsSame q r) where
      pub tried_one : Loses ((begin + offset) % rows) q.slots (shows domain.board q.pass) (shows domain.board r.pass) → Tried p r rows begin (offset + 1)
      tried_one l =
          let last : Only [] (seat_of domain q) (seat_of domain r) = record {
            slots = slots_kept q r t.pass same l.rows;
            fresh = none_both (shows domain.board q.pass).fresh (shows domain.board r.pass).fresh t.fresh (l.fresh ∙ t.fresh);
            puts = record { part = l.puts.part; is = l.puts.is; agent = l.puts.agent; own_is = l.puts.own_is };
          } in record {
            pass = x;
            only = Only-trans (seat_of domain p) (seat_of domain q) (seat_of domain r) [] [] t.only last;
            fresh = l.fresh ∙ t.fresh;
            inside = t.inside;
            same_next = same.next ∙ t.same_next;
            out = λ k m. out k m l;
          }
        where
          none_both : (f g : Option ℕ) → f ≡ None → g ≡ None → id_by (shows domain.board r.pass).rows g ≡ id_by (shows domain.board q.pass).rows f
          none_both f g e k = ap (id_by (shows domain.board r.pass).rows) k ∙ sym (ap (id_by (shows domain.board q.pass).rows) e)

          out : (k : ℕ) → k < offset + 1 → Loses ((begin + offset) % rows) q.slots (shows domain.board q.pass) (shows domain.board r.pass)
              → IsListed (shows domain.board r.pass).rows ((begin + k) % rows)
          out k m l = dite (dec_lt k offset)
              (λ lt. subst (λ z. IsListed z ((begin + k) % rows)) l.rows.1 (out_stays (shows domain.board q.pass).rows l.rows.0 ((begin + k) % rows) (t.out k lt)))
              (λ ge. let e : k ≡ offset = omega (arith, m, ge) in subst (λ z. IsListed (shows domain.board r.pass).rows ((begin + z) % rows)) (sym e) l.out)

      module _ (row : ℕ) (k : GivesFreshRow (domain_bounds domain) row q.slots (shows domain.board q.pass) (shows domain.board r.pass))
          (w : PlainPass D N (PlainShape N) PlainOp (PlainStep N) (Unit {0}) (Unit {0}) d m) (slot first second : ℕ)
          (f : Furnishes (domain_numbers domain) row (index_of row (shows domain.board r.pass).rows) slot first second (seat_of domain r)
          (seat_of domain w))
        where
          agent_is : (seat_of domain r).agent ≡ (seat_of domain p).agent
          agent_is = k.puts.agent ∙ t.only.puts.agent

          new_id : length (run_heap (domain_numbers domain) (seat_of domain p).seen).nodes ≤ index_of row (shows domain.board r.pass).rows
          new_id =
              let n = domain_numbers domain in
              let more = nodes_stay n (seat_of domain p).seen t.only.puts.part in
              let same : length (run_heap n (seat_of domain q).seen).nodes ≡ length (run_heap n ((seat_of domain p).seen ++ t.only.puts.part)).nodes =
              ap (λ (es : List (Event N)). length (run_heap n es).nodes) t.only.puts.is in
              let new = k.new in
              omega (arith, more, same, new)

          pub gives : (hold : Hold) → hold ≡ record { row = row; slot = slot }
              → Gives (domain_numbers domain) slot first second (seat_of domain p) hold (seat_of domain w)
          gives hold e = subst (λ (z : Hold). Gives (domain_numbers domain) slot first second (seat_of domain p) z (seat_of domain w)) (sym e)
              (let id : ℕ = index_of row (shows domain.board r.pass).rows in
              let took : Puts (seat_of domain q) (event_by (seat_of domain q).agent Give None ∷ []) (seat_of domain r) =
              record { part = k.puts.part; is = k.puts.is; agent = k.puts.agent; own_is = k.puts.own_is } in
              record {
                id = id;
                new = new_id;
                slot_is = refl;
                slots = f.slots ∙ ap (λ (z : Slots). slice_set z slot (Some (record { row = row; id = id })))
                    (slots_kept q r t.pass same k.rows ∙ t.only.slots);
                fresh = f.fresh ∙ ap (id_by (shows domain.board r.pass).rows) k.fresh;
                puts = Puts-trans (seat_of domain p) (seat_of domain r) (seat_of domain w) (event_by (seat_of domain p).agent Give None ∷ [])
                    (event_by (seat_of domain p).agent (Fill id 0 first) None ∷ event_by (seat_of domain p).agent (Fill id 1 second) None ∷ [])
                    (Puts-trans (seat_of domain p) (seat_of domain q) (seat_of domain r) []
                    (event_by (seat_of domain p).agent Give None ∷ []) t.only.puts
                    (subst (λ a. Puts (seat_of domain q) (event_by a Give None ∷ []) (seat_of domain r)) t.only.puts.agent took))
                    (subst (λ a. Puts (seat_of domain r) (event_by a (Fill id 0 first) None ∷ event_by a (Fill id 1 second) None ∷ [])
                    (seat_of domain w)) agent_is f.puts);
                node = subst (λ a. slice_get (run_heap (domain_numbers domain) (seat_of domain w).seen).nodes id ≡ Some (given_node a first second))
                    agent_is f.node;
              })

    pub tried_all : (p q : PlainPass D N (PlainShape N) PlainOp (PlainStep N) (Unit {0}) (Unit {0}) d m) (rows begin offset : ℕ) → offset ≡ rows
        → Tried p q rows begin offset → IsLacking (domain_bounds domain).rows (journal_of q) (length (journal_of q))
    tried_all p q rows begin offset end t =
        let s = shows domain.board q.pass in
        let k = tie domain q t.pass in
        let all = rows_all s.rows (domain_bounds domain).rows k.once k.inside
        (once_round s.rows begin (domain_bounds domain).rows (subst (λ z. begin < z) t.inside.0 t.inside.1)
        (λ j l. subst (λ z. IsListed s.rows ((begin + j) % z)) t.inside.0 (t.out j (subst (λ z. j < z) (sym t.inside.0 ∙ sym end) l)))) in
        lacks_all (domain_bounds domain).rows (journal_of q)
        (sym (nodes_given (domain_numbers domain) (journal_of q))
        ∙ (ap (λ (es : List (Event N)). length (run_heap (domain_numbers domain) es).nodes) (sym (seen_by domain q t.pass)) ∙ (sym k.even ∙ all)))
