mod Ends
mod GoingOn
mod Left
mod Rows
mod Went
