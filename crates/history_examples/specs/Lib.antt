pub mod SharedCells
