-- A worker goes through its records one by one.
use Rattle.std.proofs.Common.{◌≡◌, ◌≢◌, ◌%◌, ◌+◌, ◌-◌, ◌<◌, ◌≤◌, ℕ, [], ◌∷◌, ◌++◌, ap, arith, length, length-append, map, ◌∙◌}
use Rattle.orc_board.proofs.Workers.{own-more, own-no, own-spare}
use Rattle.orc_board.specs.Follows.{own_records}
use Rattle.orc_board.specs.ListWithRoom.{ListWithRoom}

-- there is one reply to each of its records among so many, in file order, within this room
pub record IsThrough {R : Type 0} (line : R → ℕ) (workers worker room records : ℕ) (replies : ListWithRoom R) : Type 0 where
  pub in_file_order : map line replies.items ≡ own_records workers worker records
  pub spare : length replies.items + replies.spare ≡ room

pub through_none : {R : Type 0} (line : R → ℕ) (workers worker : ℕ) (replies : ListWithRoom R) → replies.items ≡ []
    → IsThrough line workers worker replies.spare 0 replies
through_none line workers worker replies none =
    record { in_file_order = ap (map line) none; spare = let empty : length replies.items ≡ 0 = ap length none in omega (arith, empty) }

module _ {R : Type 0} {line : R → ℕ} {workers worker room i : ℕ} {replies : ListWithRoom R} (some : 1 ≤ worker)
    (h : IsThrough line workers worker room i replies)
  where
    -- a reply to its own record
    pub through_more : (after : ListWithRoom R) (r : R) → i % workers ≡ worker - 1 → line r ≡ i → after.items ≡ replies.items ++ r ∷ []
        → after.spare + 1 ≡ replies.spare → IsThrough line workers worker room (i + 1) after
    through_more after r own is items spare = record {
      in_file_order = rw items (own-more line workers worker i replies.items some own h.in_file_order r is);
      spare = rw items (omega (arith, h.spare, spare, length-append replies.items (r ∷ [])));
    }

    -- a record of another
    pub through_other : i % workers ≢ worker - 1 → IsThrough line workers worker room (i + 1) replies
    through_other other = record { in_file_order = h.in_file_order ∙ own-no workers worker i some other; spare = h.spare }

    -- there is room for the reply to its own record
    pub through_room : (n : ℕ) → i % workers ≡ worker - 1 → i < n → length (own_records workers worker n) ≤ room → replies.spare ≢ 0
    through_room n own low fits = own-spare line workers worker i replies.items some own h.in_file_order n replies.spare room low fits h.spare
