-- Set history: the calls of a set, one after another, with the answers of a plain finite set of numbers (Harris 2001).
use Rattle.std.specs.Prelude.{◌≡◌, ℕ, List, [], ◌∷◌, ◌++◌, Bool, true, false, not, filter, ◌==◌}
use Rattle.std.specs.List.{list_any}
use Rattle.orc_history.specs.declared.set.SetEntry.{SetEntry}
use Rattle.orc_history.specs.declared.set.SetEntry.TheVariants.{Added, Removed, Asked}

-- the agent that made the call
abbrev pub agent_of_set_entry : SetEntry → ℕ
agent_of_set_entry (Added agent key answer) = agent
agent_of_set_entry (Removed agent key answer) = agent
agent_of_set_entry (Asked agent key answer) = agent

-- whether the key is one of these
abbrev pub has : ℕ → List ℕ → Bool
has key keys = list_any (λ k. k == key) keys

-- the keys after an insert of this key with this answer
abbrev pub with_key : ℕ → Bool → List ℕ → List ℕ
with_key key true keys = keys ++ key ∷ []
with_key key false keys = keys

-- the keys after a remove of this key with this answer
abbrev pub without_key : ℕ → Bool → List ℕ → List ℕ
without_key key true keys = filter (λ k. not (k == key)) keys
without_key key false keys = keys

-- the keys after the history in the order in which they were added, where these were there before it
abbrev pub keys_after : List ℕ → List SetEntry → List ℕ
keys_after keys [] = keys
keys_after keys (Added agent key answer ∷ es) = keys_after (with_key key answer keys) es
keys_after keys (Removed agent key answer ∷ es) = keys_after (without_key key answer keys) es
keys_after keys (Asked agent key answer ∷ es) = keys_after keys es

-- from these keys on, Added is true where the key is absent, Removed and Asked where it is present
abbrev pub IsLegalSetFrom : List ℕ → List SetEntry → Type 0
IsLegalSetFrom keys [] = Unit {0}
IsLegalSetFrom keys (Added agent key answer ∷ es) = (answer ≡ not (has key keys)) × IsLegalSetFrom (with_key key answer keys) es
IsLegalSetFrom keys (Removed agent key answer ∷ es) = (answer ≡ has key keys) × IsLegalSetFrom (without_key key answer keys) es
IsLegalSetFrom keys (Asked agent key answer ∷ es) = (answer ≡ has key keys) × IsLegalSetFrom keys es

-- the history is that of a set that starts empty
abbrev pub IsLegalSet : List SetEntry → Type 0
IsLegalSet history = IsLegalSetFrom [] history
