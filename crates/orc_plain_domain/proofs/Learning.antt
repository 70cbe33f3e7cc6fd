-- Two passes that learn from each other.
use Rattle.std.proofs.Common.{◌≡◌, ℕ, ◌==◌, List, [], ◌∷◌, cond, refl, sym, ap, ◌∙◌, subst, inl, inr}
use Rattle.orc_words.specs.Bounds.{Bounds, bounds_of}
use Rattle.orc_heap.proofs.Known.{known-later}
use Rattle.orc_heap.proofs.Stays.{allowed-right}
use Rattle.orc_heap.specs.Acts.{IsKnown}
use Rattle.orc_heap.specs.Allowed.{AllAllowed, events_by}
use Rattle.orc_heap.specs.Calls.{IsLonger, Learns}
use Rattle.orc_heap.specs.Journals.{run_heap}
use Rattle.orc_history.specs.Journals.{own_of}
use Rattle.orc_heap.specs.declared.discipline.Discipline as discipline
use Rattle.orc_heap.specs.declared.events.Event.{Event}
use mathlib.Core.List.{IsPrefix}
use Rattle.orc_shared_words.specs.declared.machine.Machine as machine
use Rattle.orc_plain_board.specs.Calls.{IsLonger as BoardLonger, LearnsEvents}
use Rattle.orc_plain_board.specs.Machine.{id_by, numbers}
use Rattle.orc_plain_board.specs.Views.{Belongs, PlainView, shows, shows_by}
use Rattle.orc_plain_board.specs.declared.machine.Plain.{Plain}
use Rattle.orc_plain_board.specs.declared.machine.PlainOp.{PlainOp}
use Rattle.orc_plain_board.specs.declared.machine.PlainStep.{PlainStep}
use Rattle.orc_plain_board.specs.declared.pass.PlainBoardPass.{PlainBoardPass as BoardPass}
use Rattle.orc_plain_board.specs.declared.shape.PlainShape.{PlainShape}
use Rattle.orc_plain_domain.specs.Passes.{IsPassOf, domain_bounds, seat_of}
use Rattle.orc_plain_domain.specs.declared.domain.PlainDomain.{PlainDomain}
use Rattle.orc_plain_domain.specs.declared.domain.PlainPass.{PlainPass}
use Rattle.orc_plain_domain.specs.Rows.{seat_by}
use Rattle.orc_heap.proofs.Prefixes.{prefix_same}
use Rattle.orc_plain_domain.proofs.Growing.{Grows, fresh_given, fresh_stays, held_given, slots_stay, still_of}

-- the steps of an agent are its events
pub steps_are : {N : Type 0} (agent : ℕ) (es : List (Event N)) → own_of (λ e. e.agent) agent es ≡ events_by agent es
steps_are agent [] = refl
steps_are agent (e ∷ es) = ap (λ z. cond (e.agent == agent) (e ∷ z) z) (steps_are agent es)

pub grow_seen : {N : Type 0} (b : Bounds) (may : List (Event N) → Event N → Type 0) (s t : PlainView N) → t.agent ≡ s.agent
    → IsPrefix s.events t.events → IsPrefix s.rows t.rows → AllAllowed may [] t.events → Grows b s t
grow_seen b may s t agent events rows each = record {
  agent = agent;
  events = events;
  rows = rows;
  known = λ id k. subst (λ es. IsKnown s.agent (run_heap (numbers b) es) id) events.1
      (known-later (numbers b) may s.agent id s.events events.0 (allowed-right may [] s.events events.0 (subst (AllAllowed may []) (sym events.1) each)) k);
}

pub first_more : {N : Type 0} (s u t : PlainView N) → BoardLonger s u t → IsPrefix s.events t.events
first_more s u t (inl l) = prefix_same s.events t.events l.1
first_more s u t (inr l) = subst (IsPrefix s.events) (sym l.1) l.0

second_more : {N : Type 0} (s u t : PlainView N) → BoardLonger s u t → IsPrefix u.events t.events
second_more s u t (inl l) = subst (IsPrefix u.events) (sym l.1) l.0
second_more s u t (inr l) = prefix_same u.events t.events l.1

longer_of : {N : Type 0} (s u t : PlainView N) → BoardLonger s u t → IsLonger s.events u.events t.events
longer_of s u t (inl l) = record { of_both = inr (l.0, l.1) }
longer_of s u t (inr l) = record { of_both = inl (l.0, l.1) }

module _ {D N : Type 0} {d : discipline.Ghosts D N} {m : machine.Ghosts Plain N (PlainShape N) PlainOp (PlainStep N) (Unit {0}) (Unit {0})}
    (domain : PlainDomain D N) (into from : PlainPass D N (PlainShape N) PlainOp (PlainStep N) (Unit {0}) (Unit {0}) d m) (h : IsPassOf domain into)
    (k : IsPassOf domain from)
    (q r : BoardPass D N (PlainShape N) PlainOp (PlainStep N) (Unit {0}) (Unit {0}) d m) (x : Belongs domain.board q) (y : Belongs domain.board r)
    (l : LearnsEvents (shows domain.board into.pass) (shows domain.board from.pass) (shows domain.board q) (shows domain.board r))
  where
    abbrev s : PlainView N
    s = shows domain.board into.pass

    abbrev u : PlainView N
    u = shows domain.board from.pass

    abbrev t : PlainView N
    t = shows domain.board q

    abbrev w : PlainView N
    w = shows domain.board r

    into_grows : Grows (domain_bounds domain) s t
    into_grows = grow_seen _ _ s t l.into.agent (first_more s u t l.longer) l.into.rows x.keeps.now.each

    from_grows : Grows (domain_bounds domain) u w
    from_grows = grow_seen _ _ u w l.from.agent (subst (IsPrefix u.events) (sym l.both.0) (second_more s u t l.longer)) l.from.rows y.keeps.now.each

    pub still_into : IsPassOf domain (record { pass = q; slots = into.slots; next = into.next; shape = into.shape })
    still_into = still_of domain into h q x into_grows

    pub still_from : IsPassOf domain (record { pass = r; slots = from.slots; next = from.next; shape = from.shape })
    still_from = still_of domain from k r y from_grows

    -- what a pass has seen is its journal
    abbrev seen_with : Bounds → BoardPass D N (PlainShape N) PlainOp (PlainStep N) (Unit {0}) (Unit {0}) d m → List (Event N)
    seen_with a p = (shows_by a p).events

    own_events : (events_by s.agent t.events ≡ events_by s.agent s.events) × (events_by u.agent t.events ≡ events_by u.agent u.events)
    own_events = (l.into.own, ap (events_by u.agent) (sym l.both.0) ∙ l.from.own)

    steps_of : (agent : ℕ) (es fs : List (Event N)) → events_by agent es ≡ events_by agent fs → own_of (λ e. e.agent) agent es ≡ own_of (λ e. e.agent) agent fs
    steps_of agent es fs e = steps_are agent es ∙ (e ∙ sym (steps_are agent fs))

    pub learns : Learns (λ e. e.agent) (seat_of domain into) (seat_of domain from) (seat_by t into.slots) (seat_by w from.slots)
        (seen_with (bounds_of into.shape) into.pass) (seen_with (bounds_of from.shape) from.pass) (seen_with (bounds_of into.shape) q)
        (seen_with (bounds_of from.shape) r)
    learns = subst
        (λ (z : Bounds × Bounds). Learns (λ e. e.agent) (seat_of domain into) (seat_of domain from) (seat_by t into.slots) (seat_by w from.slots)
        (seen_with z.0 into.pass) (seen_with z.1 from.pass) (seen_with z.0 q) (seen_with z.1 r))
        (λ i. (sym h.shape i, sym k.shape i)) record {
          agents = (l.into.agent, l.from.agent);
          slots = (slots_stay _ s t into.slots into_grows (held_given domain into h), slots_stay _ u w from.slots from_grows (held_given domain from k));
          fresh = (
            ap (id_by t.rows) l.into.fresh ∙ fresh_stays _ s t s.fresh into_grows (fresh_given domain into h),
            ap (id_by w.rows) l.from.fresh ∙ fresh_stays _ u w u.fresh from_grows (fresh_given domain from k),
          );
          one_journal = sym l.both.0;
          longer = longer_of s u t l.longer;
          steps = (steps_of s.agent t.events s.events own_events.0, steps_of u.agent t.events u.events own_events.1);
          one_list = sym l.both.0;
          longer_list = longer_of s u t l.longer;
          events = own_events;
        }
