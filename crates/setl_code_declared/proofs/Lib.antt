mod Cells
mod Moving
