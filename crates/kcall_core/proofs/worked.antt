-- Worked cases: views, rows, events and boots that are computed from the definitions. A definition that is turned fails one of them.
pub mod RowsOfAsked
pub mod RowsOfRoom
pub mod RowsOfViews
