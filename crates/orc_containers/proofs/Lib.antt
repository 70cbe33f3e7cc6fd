mod Cells
mod News
mod Openings
