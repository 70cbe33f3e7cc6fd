-- Stored history: what a queue and a set on one thread share of their room, of the turn of a call, and of its refusals.
use Rattle.std.specs.Prelude.{◌≡◌, ℕ, ◌+◌, ◌*◌, ◌<◌, ◌≤◌, List, ◌++◌, length, take, ◌⊎◌}
use Rattle.std.proofs.Common.{arith, length-append}
use Rattle.std.proofs.lemmas.List.{take-append-le}

-- how many entries a container of this room stores
abbrev pub history_room : ℕ → ℕ
history_room room = 4 * room + 4

-- a call with these turns may go on, where so many entries are stored
abbrev pub HasTurn : ℕ → ℕ → ℕ → Type 0
HasTurn room turns entries = (1 ≤ turns) × (entries < history_room room)

-- it may not: no turns were given, or the stored history is full
abbrev pub LacksTurn : ℕ → ℕ → ℕ → Type 0
LacksTurn room turns entries = (turns ≡ 0) ⊎ (history_room room ≤ entries)

-- the refusal had its cause where the stored history was the first `from` entries of the journal
pub record RefusedAt {E W : Type 0} (Refuses : List E → W → Type 0) (why : W) (journal : List E) (from : ℕ) : Type 0 where
  pub in_journal : from ≤ length journal
  pub cause : Refuses (take from journal) why

-- and this stays so as the journal goes on
pub RefusedAt-append : {E W : Type 0} (Refuses : List E → W → Type 0) (why : W) (seen more : List E) (from : ℕ)
    → RefusedAt Refuses why seen from → RefusedAt Refuses why (seen ++ more) from
RefusedAt-append Refuses why seen more from h = record {
  in_journal = omega (arith, h.in_journal, length-append seen more);
  cause = rw (take-append-le from seen more h.in_journal) h.cause;
}
