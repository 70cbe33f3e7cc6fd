pub mod TraceText
pub mod Reading
pub mod Asked
pub mod FirstLines
