pub mod Lists
pub mod LoopShares
pub mod LoopRows
pub mod LoopTables
pub mod Tables
