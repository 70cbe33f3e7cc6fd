pub mod RecordFiles
pub mod JobGrammar
pub mod OneRecord
pub mod Laws
