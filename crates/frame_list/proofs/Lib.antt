pub mod FreeList
pub mod Trades
