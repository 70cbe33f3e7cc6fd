-- What a step writes, what it leaves, and what every run keeps.
use Rattle.std.proofs.Common.{◌≡◌, ◌≢◌, ℕ, ◌<◌, Bool, true, false, List, [], ◌∷◌, ◌++◌, length, get_or-set_same, get_or-set_other, arith, refl, sym, ◌∙◌}
use Rattle.std.specs.Prelude.{Option, Some, None, ◌↔◌, ◌==◌, slice_index_or, slice_set}
use Rattle.std.proofs.Math.ListN.{length-replicate}
use Rattle.std.proofs.lemmas.List.{length-set}
use Rattle.std.proofs.lemmas.Bool.{eqb-true, eq-eqb, false≢true}
use Rattle.orc_words.specs.declared.place.Word.{Word}
use Rattle.orc_words.specs.Bounds.{Bounds, IsShape}
use Rattle.orc_words.specs.Places.{IsWithin, place}
use Rattle.orc_words.proofs.NewWords.{new_words_long}
use Rattle.orc_words.proofs.Positions.{place_below, same_place}
use Rattle.orc_core.specs.declared.records.Agent.{Agent}
use Rattle.orc_core.specs.declared.ops.Op.{Op}
use Rattle.orc_core.specs.declared.ops.Op.TheVariants.{SetRetired, CounterLoad, TakeIn}
use Rattle.orc_core.specs.declared.ops.CounterUse.TheVariants.{Check, Start, End}
use Rattle.orc_words.specs.Packed.{named}
use Rattle.orc_core.specs.Listed.{Listed, listed_name}
use Rattle.orc_words.specs.Operations.{word_after}
use Rattle.orc_core.specs.Actions.{action_of}
use Rattle.orc_core.specs.After.{after}
use Rattle.orc_core.specs.Machine.{Machine, IsWhole, EachWithRoom, is_allowed, new_machine, nobody, record_at, step, word_in, word_read}
use Rattle.orc_core.specs.Runs.{run, IsLawful}
use Rattle.orc_core.proofs.Within.{may_within, room_of_nobody}

pub its_word : (m : Machine) (a : ℕ) (op : Op) → IsWhole m → is_allowed m a op ≡ true
    → word_in (step m a op) (action_of a op (record_at m a)).word ≡ word_after (action_of a op (record_at m a)).operation (word_read m a op)
its_word m a op whole h = get_or-set_same m.words _ _ 0 (rw whole.words (place_below m.bounds _ (may_within m.bounds _ a op (record_at m a) h)))

pub other_words : (m : Machine) (a : ℕ) (op : Op) (w : Word) → IsWhole m → is_allowed m a op ≡ true → IsWithin m.bounds w
    → w ≢ (action_of a op (record_at m a)).word → word_in (step m a op) w ≡ word_in m w
other_words m a op w whole h within other =
    get_or-set_other m.words (place m.bounds (action_of a op (record_at m a)).word) (place m.bounds w) _ 0
    (λ p. other (same_place m.bounds w _ within (may_within m.bounds _ a op (record_at m a) h) p))

-- a step leaves the room of its agent's work list
after_room : (op : Op) (d : Agent) (w : ℕ) → (after op d w).list.room ≡ d.list.room
after_room (SetRetired r q) d w = grind arith
after_room (CounterLoad r Check) d w = refl
after_room (CounterLoad r Start) d w = grind arith
after_room (CounterLoad r End) d w = refl
after_room (TakeIn k) d w = named_room (named w) d.list
  where
    named_room : (n : Option ℕ) (l : Listed) → (listed_name l n).room ≡ l.room
    named_room None l = refl
    named_room (Some r) l = refl
after_room op d w = refl

rooms_set : (room : ℕ) (agents : List Agent) (a : ℕ) (d : Agent) → EachWithRoom room agents → (a < length agents → d.list.room ≡ room) → (x : ℕ)
    → x < length agents → (t : Bool) → (x == a) ≡ t → (slice_index_or (slice_set agents a d) x (nobody room)).list.room ≡ room
rooms_set room agents a d h new x l true t = let e = eqb-true x a t in rw (e, get_or-set_same agents a d (nobody room) (rw e at l)) (new (rw e at l))
rooms_set room agents a d h new x l false t = rw (get_or-set_other agents a x d (nobody room) (λ p. false≢true (sym t ∙ eq-eqb x a p))) (h x l)

-- after a step each work list has the room that it had
pub step_rooms : (m : Machine) (a : ℕ) (op : Op) → EachWithRoom m.bounds.rows m.agents → EachWithRoom m.bounds.rows (step m a op).agents
step_rooms m a op rooms x l =
    rooms_set m.bounds.rows m.agents a _ rooms (λ h. after_room op (record_at m a) _ ∙ rooms a h) x (rw (length-set m.agents a _) at l) (x == a) refl

step_whole : (m : Machine) (a : ℕ) (op : Op) → IsWhole m → IsWhole (step m a op)
step_whole m a op whole = record {
  shape = whole.shape;
  words = length-set m.words _ _ ∙ whole.words;
  agents = length-set m.agents a _ ∙ whole.agents;
  rooms = step_rooms m a op whole.rooms;
}

new_whole : (b : Bounds) → IsShape b → IsWhole (new_machine b)
new_whole b shape = record {
  shape = shape;
  words = new_words_long b;
  agents = length-replicate b.agents (nobody b.rows);
  rooms = room_of_nobody b.agents b.rows;
}

run_whole : (m : Machine) (steps : List (ℕ × Op)) → IsWhole m → IsWhole (run m steps)
run_whole m [] whole = whole
run_whole m (s ∷ ss) whole = run_whole (step m s.0 s.1) ss (step_whole m s.0 s.1 whole)

pub every_run_whole : (b : Bounds) (steps : List (ℕ × Op)) → IsShape b → IsWhole (run (new_machine b) steps)
every_run_whole b steps shape = run_whole (new_machine b) steps (new_whole b shape)

pub run-append : (m : Machine) (first second : List (ℕ × Op)) → run m (first ++ second) ≡ run (run m first) second
run-append m [] second = refl
run-append m (s ∷ ss) second = run-append (step m s.0 s.1) ss second

lawful_parts : (m : Machine) (first second : List (ℕ × Op)) → IsLawful m (first ++ second) → IsLawful m first × IsLawful (run m first) second
lawful_parts m [] second h = (tt, h)
lawful_parts m (s ∷ ss) second h = let p = lawful_parts (step m s.0 s.1) ss second h.1 in ((h.0, p.0), p.1)

lawful_whole : (m : Machine) (first second : List (ℕ × Op)) → IsLawful m first × IsLawful (run m first) second → IsLawful m (first ++ second)
lawful_whole m [] second h = h.1
lawful_whole m (s ∷ ss) second h = (h.0.0, lawful_whole (step m s.0 s.1) ss second (h.0.1, h.1))

pub IsLawful-append : (m : Machine) (first second : List (ℕ × Op)) → IsLawful m (first ++ second) ↔ (IsLawful m first × IsLawful (run m first) second)
IsLawful-append m first second = (lawful_parts m first second, lawful_whole m first second)
