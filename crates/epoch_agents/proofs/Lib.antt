pub mod HistoryLaws
pub mod KeptLaws
pub mod MergeLaws
pub mod RowLaws
pub mod TurnLaws
pub mod Worked
