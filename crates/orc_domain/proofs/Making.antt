-- New passes, which hold nothing.
use Rattle.std.proofs.Common.{All, List, None, Option, Some, [], ap, false, length, refl, subst, suc, sym, zero, ℕ, ◌<◌, ◌∙◌, ◌≡◌, ◌%◌}
use Rattle.std.specs.Option.{option_map}
use Rattle.std.specs.Prelude.{map, replicate, slice_index_or}
use Rattle.orc_any_domain.specs.Turns.{first_row}
use Rattle.orc_core.specs.RecordParts.{is_published, scan_found}
use Rattle.orc_core.specs.declared.records.Agent.{Agent}
use Rattle.orc_core.specs.declared.records.SlotUse.{SlotUse}
use Rattle.orc_core.specs.declared.records.SlotUse.TheVariants.{Empty}
use Rattle.orc_heap.specs.Seats.{IsIdle}
use Rattle.orc_heap.specs.Seeds.{SeedAllowed, opening_events}
use Rattle.orc_heap.specs.declared.discipline.Discipline as discipline
use Rattle.orc_heap.specs.declared.seed.Seed.{Seed}
use Rattle.orc_layout.specs.Layout.{layout_of}
use Rattle.orc_machine_board.proofs.Opening.{opened_events, seed_roots}
use Rattle.orc_machine_board.specs.Laws.Steps.{in_range}
use Rattle.orc_machine_board.specs.Licences.{ids_of}
use Rattle.orc_machine_board.specs.Passes.{HasNothing}
use Rattle.orc_machine_board.specs.Rules.{machine_opening}
use Rattle.orc_machine_board.specs.Views.{Belongs, shows}
use Rattle.orc_machine_board.specs.declared.board.MachineBoardPass.{MachineBoardPass}
use Rattle.orc_machine_board.specs.declared.machine.MachineShape.{MachineShape}
use Rattle.orc_machine_board.specs.declared.machine.Reclaiming.{Reclaiming}
use Rattle.orc_machine_board.specs.declared.machine.Request.{Request}
use Rattle.orc_projection.specs.Mirror.{numbers_of}
use Rattle.orc_projection.specs.Projection.{project}
use Rattle.orc_domain.specs.Passes.{IsPassOf, domain_bounds, seat_of}
use Rattle.orc_domain.specs.Seats.{IsBetweenCalls, slot_by}
use Rattle.orc_domain.specs.declared.domain.OrcDomain.{OrcDomain}
use Rattle.orc_domain.specs.declared.domain.OrcPass.{OrcPass}
use Rattle.orc_shared_words.specs.Lists.{EachAt, EachFrom}
use Rattle.orc_shared_words.specs.declared.machine.Machine as machine
use Rattle.orc_sound.specs.declared.steps.Step.{Step}
use Rattle.orc_words.specs.Bounds.{Bounds, bounds_of}
use Rattle.orc_words.specs.declared.shape.Shape.{Shape}

nothing_ready : (d : Agent) → HasNothing d → IsBetweenCalls d
nothing_ready d h = record {
  enrolled = h.enrolled;
  eight = ap length h.slots;
  due = h.due;
  inc = h.inc;
  dec = h.dec;
  zero = ap (λ (l : List SlotUse). slice_index_or l 0 Empty) h.slots;
  published = λ k. ap (λ (l : List SlotUse). is_published (slice_index_or l k Empty)) h.slots ∙ none k 8;
  doom = h.doom;
  found = ap scan_found h.scan;
}
  where
    none : (k n : ℕ) → is_published (slice_index_or (replicate n Empty) k Empty) ≡ false
    none k zero = refl
    none zero (suc n) = refl
    none (suc k) (suc n) = none k n

module _ {D N : Type 0} where
  abbrev BoardPass : (d : discipline.Ghosts D N) → machine.Ghosts Reclaiming N (MachineShape N) Request (Step N) Agent Agent → Type 0
  BoardPass d m = MachineBoardPass D N d m

  abbrev DomainPass : (d : discipline.Ghosts D N) → machine.Ghosts Reclaiming N (MachineShape N) Request (Step N) Agent Agent → Type 0
  DomainPass d m = OrcPass D N d m

module _ {D N : Type 0} {d : discipline.Ghosts D N} {m : machine.Ghosts Reclaiming N (MachineShape N) Request (Step N) Agent Agent} where
  module _ (domain : OrcDomain D N) (xs : List (DomainPass d m)) (ys : List (BoardPass d m)) (long : length xs ≡ length ys)
      (same : EachFrom (λ (p : DomainPass d m). p.pass) xs ys) where
    -- what holds of each pass of the board holds of the passes of the domain
    pub each_pass : (P : BoardPass d m → Type 0) → All P ys → All (λ (p : DomainPass d m). P p.pass) xs
    each_pass P all i p l = let k : i < length ys = subst (λ n. i < n) long l in subst P (sym (same i p p.pass k)) (all i p.pass k)

    pub each_at : (P : ℕ → BoardPass d m → Type 0) → EachAt P ys → EachAt (λ i (p : DomainPass d m). P i p.pass) xs
    each_at P all i p l = let k : i < length ys = subst (λ n. i < n) long l in subst (P i) (sym (same i p p.pass k)) (all i p.pass k)

    pub all_belong : (asked : Bounds) → domain_bounds domain ≡ asked → All (λ (q : BoardPass d m). Belongs domain.board q) ys
        → All (λ (q : BoardPass d m). HasNothing (shows q).record_is) ys → All (λ (p : DomainPass d m). p.next < asked.rows) xs
        → All (λ (p : DomainPass d m). IsPassOf domain p) xs
    all_belong asked bounds belong nothing next i p l =
        let q = slice_index_or xs i p in
        let none = each_pass (λ r. HasNothing (shows r).record_is) nothing i p l in
        record {
          board = each_pass (λ r. Belongs domain.board r) belong i p l;
          ready = nothing_ready (shows q.pass).record_is none;
          untouched = λ id e. absurd (not_some id (sym (ap (option_map (ids_of (domain_bounds domain) (shows q.pass)).node) none.fresh) ∙ e));
          inside = subst (λ (b : Bounds). q.next < b.rows) (sym bounds) (next i p l);
        }
      where
        not_some : (id : ℕ) → (let o : Option ℕ = None in o) ≡ Some id → ⊥
        not_some id e = cc

    pub all_idle : All (λ (q : BoardPass d m). HasNothing (shows q).record_is) ys → All (λ (p : DomainPass d m). IsIdle (seat_of domain p)) xs
    all_idle nothing i p l =
        let q = slice_index_or xs i p in
        let ids = ids_of (domain_bounds domain) (shows q.pass) in
        let none = each_pass (λ r. HasNothing (shows r).record_is) nothing i p l in
        record { slots = ap (map (slot_by ids)) none.slots; fresh = ap (option_map ids.node) none.fresh }

  -- the domain's new pass of a pass of the board
  abbrev pub first_pass : Bounds → BoardPass d m → DomainPass d m
  first_pass b q = record { pass = q; next = first_row b (shows q).agent % b.rows }

  -- a new pass has seen the seed's events
  pub opening_seen : (e : discipline.Ghosts D N) (domain : OrcDomain D N) (xs : List (DomainPass d m)) (ys : List (BoardPass d m)) → length xs ≡ length ys
      → EachFrom (λ (p : DomainPass d m). p.pass) xs ys
      → (shape : Shape) (seed : Seed N) → domain_bounds domain ≡ bounds_of shape → e.holds (numbers_of (bounds_of shape)) []
      → SeedAllowed e.may (numbers_of (bounds_of shape)) seed
      → All (λ (q : BoardPass d m). (shows q).journal ≡ machine_opening (bounds_of shape).agents seed) ys
      → All (λ (p : DomainPass d m). (seat_of domain p).seen ≡ opening_events seed) xs
  opening_seen e domain xs ys long same shape seed bounds began can journals i p l =
      let k : MachineShape N = record { shape = shape; seed = seed; layout = layout_of (bounds_of shape); laid = refl } in
      let q = slice_index_or xs i p in
      let journal = each_pass domain xs ys long same (λ r. (shows r).journal ≡ machine_opening (bounds_of shape).agents seed) journals i p l in
      (λ x. project (bounds x) (journal x)) ∙ opened_events (bounds_of shape) seed (in_range shape) (seed_roots e k began seed can)
