-- Second links, what stays true over all events that the discipline allows, and the events of a cell's calls, allowed in
-- every later journal.
pub mod SecondLinks
pub mod Later
pub mod Coming
pub mod OwnEntries
