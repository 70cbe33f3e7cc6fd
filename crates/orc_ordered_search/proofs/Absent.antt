-- What Looks found absent, as a call goes on.
use Rattle.std.proofs.Common.{List, [], subst, sym, ℕ}
use Rattle.orc_heap.specs.Allowed.{AllAllowed}
use Rattle.orc_heap.specs.OwnEvents.{Puts}
use Rattle.orc_heap.specs.Seats.{Seat}
use Rattle.orc_heap.specs.declared.events.Event.{Event}
use Rattle.orc_ordered_search.specs.Inserts.{SeesAbsent}
use Rattle.orc_ordered_search.specs.Reading.{Ordering}
use Rattle.orc_ordered_search.specs.Turns.{made_from}
use Rattle.orc_ordered_search.proofs.Quiets.{above_puts, below_puts}
use Rattle.orc_ordered_search.proofs.Seen.{sees_right, sees_run_right}
use Rattle.orc_ordered_search.proofs.Since.{made_still, made_trans}

module _ {N : Type 0} (x : Ordering N) (wanted : ℕ) (s t u : Seat N) (own : List (Event N)) (p : Puts s own t) where
  -- with events before

  pub absent_next : (ys : List (Event N)) → Puts t ys u → SeesAbsent x.reading wanted (made_from t u) u → SeesAbsent x.reading wanted (made_from s u) u
  absent_next ys q a =
      let es = made_from s t in
      let fs = made_from t u in
      subst (λ z. SeesAbsent x.reading wanted z u) (sym (made_trans s t u own ys p q)) (record {
        place = a.place;
        from = a.from;
        plain = a.plain;
        below = a.below;
        sees = sees_right es fs a.place a.from a.sees;
        over = a.over;
        to = a.to;
        sees_run = sees_run_right es fs a.from a.over a.to a.sees_run;
        above = a.above;
      })

  -- and with no event after them

  pub absent_still : Puts t [] u → AllAllowed x.may [] u.seen → SeesAbsent x.reading wanted (made_from s t) t → SeesAbsent x.reading wanted (made_from s u) u
  absent_still q all a =
      subst (λ z. SeesAbsent x.reading wanted z u) (sym (made_still s t u own p q)) (record {
        place = a.place;
        from = a.from;
        plain = a.plain;
        below = below_puts x t u [] q all a.place wanted a.below;
        sees = a.sees;
        over = a.over;
        to = a.to;
        sees_run = a.sees_run;
        above = above_puts x t u [] q all a.to wanted a.above;
      })
