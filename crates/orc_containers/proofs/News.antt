-- What a new domain's passes are to a container that stands on it.
use Rattle.std.proofs.Common.{List, [], ap, length, subst, sym, ℕ, ◌<◌, ◌∙◌, ◌≡◌, ◌≤◌}
use Rattle.std.specs.Prelude.{All, Option, slice_index_or}
use Rattle.orc_any_domain.specs.Domains.{AreAllIdle, heap_numbers}
use Rattle.orc_heap.specs.Domains.{agent}
use Rattle.orc_heap.specs.Journals.{noted_entries}
use Rattle.orc_heap.specs.Seats.{IsIdle}
use Rattle.orc_heap.specs.declared.events.Event.{Event}
use Rattle.orc_heap.specs.declared.links.Links.{Ghosts as LinksOf}
use Rattle.orc_words.specs.Bounds.{Bounds}

module _ {L D P S N : Type 0} (members : LinksOf L D P S N) (links domain : L) (passes : List P) (same : links ≡ domain)
    (all : AreAllIdle members domain passes)
  where
    -- each is usable
    pub each_usable : (i : ℕ) (p : P) → i < length passes
        → members.belongs links (slice_index_or passes i p) × IsIdle (members.seat links (slice_index_or passes i p))
    each_usable i p low =
        subst (λ d. members.belongs d (slice_index_or passes i p) × IsIdle (members.seat d (slice_index_or passes i p))) (sym same) (all.each i p low)

    -- they are in order
    pub each_numbered : (i : ℕ) (p : P) → i < length passes → agent members links (slice_index_or passes i p) ≡ i
    each_numbered i p low = subst (λ d. agent members d (slice_index_or passes i p) ≡ i) (sym same) (all.order i p low)

    -- what has no entry in the opening has none in what each has seen
    pub each_fresh : {E : Type 0} (entries_in : Option N → List E) (opening : List (Event N)) → noted_entries entries_in opening ≡ []
        → ((p : P) → members.belongs domain p → (members.seat domain p).seen ≡ members.events domain (members.journal p))
        → ((i : ℕ) (p : P) → i < length passes → (members.seat domain (slice_index_or passes i p)).seen ≡ opening)
        → (i : ℕ) (p : P) → i < length passes
        → noted_entries entries_in (members.events links (members.journal (slice_index_or passes i p))) ≡ []
    each_fresh entries_in opening none seen new i p low =
        let q = slice_index_or passes i p in
        subst (λ d. noted_entries entries_in (members.events d (members.journal q)) ≡ []) (sym same)
        (ap (λ es. noted_entries entries_in es) (sym (seen q (all.each i p low).0) ∙ new i p low) ∙ none)

module _ {L D P S N : Type 0} (members : LinksOf L D P S N) (bounds_of_domain : L → Bounds) (links domain : L) (b : Bounds) (same : links ≡ domain)
    (bounds : bounds_of_domain domain ≡ b)
  where
    -- a container's domain has the sizes, the numbers and the agents of its shape
    pub sizes_are : bounds_of_domain links ≡ b
    sizes_are = ap bounds_of_domain same ∙ bounds

    pub numbers_are : members.numbers domain ≡ heap_numbers (bounds_of_domain domain) → members.numbers links ≡ heap_numbers b
    numbers_are law = ap members.numbers same ∙ (law ∙ ap heap_numbers bounds)

    pub agents_are : members.agents domain ≡ (bounds_of_domain domain).agents → members.agents links ≡ b.agents
    agents_are law = ap members.agents same ∙ (law ∙ ap (λ (x : Bounds). x.agents) bounds)

-- what a new container is to its callers, which stands on a new domain of this shape
pub record IsNew {L D P S N E : Type 0} (members : LinksOf L D P S N) (bounds_of_domain : L → Bounds) (entries_in : Option N → List E) (links : L)
    (passes : List P) (b : Bounds) (opening : List (Event N)) : Type 0 where
  pub numbered : (i : ℕ) (p : P) → i < length passes → agent members links (slice_index_or passes i p) ≡ i
  pub many : length passes ≡ b.agents
  pub fresh : (i : ℕ) (p : P) → i < length passes
      → noted_entries entries_in (members.events links (members.journal (slice_index_or passes i p))) ≡ []
  pub all : members.agents links ≡ b.agents
  pub sizes : bounds_of_domain links ≡ b
  pub opens : members.opening links ≡ opening

pub is_new : {L D P S N E : Type 0} (members : LinksOf L D P S N) (bounds_of_domain : L → Bounds) (entries_in : Option N → List E) (links domain : L)
    (passes : List P) (b : Bounds) (opening : List (Event N)) → links ≡ domain → AreAllIdle members domain passes → bounds_of_domain domain ≡ b
    → members.opening domain ≡ opening → noted_entries entries_in opening ≡ []
    → ((i : ℕ) (p : P) → i < length passes → (members.seat domain (slice_index_or passes i p)).seen ≡ opening)
    → ((p : P) → members.belongs domain p → (members.seat domain p).seen ≡ members.events domain (members.journal p))
    → members.agents domain ≡ (bounds_of_domain domain).agents → IsNew members bounds_of_domain entries_in links passes b opening
is_new members bounds_of_domain entries_in links domain passes b opening same idle bounds opens none new seen law = record {
  numbered = each_numbered members links domain passes same idle;
  many = idle.many ∙ (law ∙ ap (λ (x : Bounds). x.agents) bounds);
  fresh = each_fresh members links domain passes same idle entries_in opening none seen new;
  all = agents_are members bounds_of_domain links domain b same bounds law;
  sizes = sizes_are members bounds_of_domain links domain b same bounds;
  opens = ap members.opening same ∙ opens;
}

-- the numbers of a container over a domain of a shape that was asked for
pub record AreAsked (many all : ℕ) (bounds asked : Bounds) : Type 0 where
  pub passes : many ≡ asked.agents
  pub few : asked.agents ≤ 16
  pub agents : all ≡ asked.agents
  pub is : bounds ≡ asked

pub are_asked : {many all : ℕ} {bounds s asked : Bounds} → s ≡ asked → s.agents ≤ 16 → many ≡ s.agents → all ≡ s.agents → bounds ≡ s
    → AreAsked many all bounds asked
are_asked {asked = asked} same few many all bounds =
    let agents = ap (λ (x : Bounds). x.agents) same in
    record { passes = many ∙ agents; few = subst (λ (k : ℕ). k ≤ 16) agents few; agents = all ∙ agents; is = bounds ∙ same }

-- the passes of a container are all those of the domain that it gives back
pub all_given_back : {L D P S N : Type 0} (members : LinksOf L D P S N) {links domain : L} {passes : List P} → domain ≡ links
    → All (λ p. members.belongs links p × IsIdle (members.seat links p)) passes
    → ((i : ℕ) (p : P) → i < length passes → agent members links (slice_index_or passes i p) ≡ i) → length passes ≡ members.agents links
    → AreAllIdle members domain passes
all_given_back members {passes = passes} same each order many =
    subst (λ d. AreAllIdle members d passes) (sym same) (record { each = each; order = order; many = many })
